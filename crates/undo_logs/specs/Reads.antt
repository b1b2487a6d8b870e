-- What reading a log answers.
--     newest_pointer      the pointer to the newest record
--     PointsTo, IsDue      the pointer to a record there, none for the null address; to the one
--         that is to be purged next
--     HasNext, IsNoRecord      one stands there; none stands where a pointer leads, as a fault says
--     oldest_page      the first page of the committed log with the least number
use Rattle.std.specs.Prelude.{◌≡◌, ℕ, List, [], ◌∷◌, Option, Some, None, IfSome}
use Rattle.std.specs.Option.{option_map}
use Rattle.page_model.specs.Pages.{Pages, Address, null_address, field}
use Rattle.page_model.specs.Lists.{or_null}
use Rattle.undo_model.specs.Data.{Record, Entry, Log, pointer}
use Rattle.undo_model.specs.Bytes.{is_insert}
use Rattle.undo_model.specs.Reading.{IsRecordAt, IsBad}
use Rattle.engine_base.specs.declared.ids.PageNo.{PageNo}
use Rattle.undo_records.specs.declared.ids.RollPtr.{RollPtr}

abbrev pub number_of : Option RollPtr → Option ℕ
number_of = option_map (λ (r : RollPtr). r.0)

abbrev pub pointer_of : Entry → ℕ
pointer_of e = pointer (is_insert e.undo.body) e.at

abbrev pub newest_pointer : List Entry → Option ℕ
newest_pointer [] = None
newest_pointer (e ∷ older) = Some (pointer_of e)

pub record PointsTo (pages : Pages) (a : Address) (n : Option ℕ) : Type 0 where
  pub none : a ≡ null_address → n ≡ None
  pub some : (r : Record) (previous : Address) → IsRecordAt pages a r previous
      → n ≡ Some (pointer (is_insert r.body) a)

abbrev pub IsDue : Pages → Option Address → Option ℕ → Type 0
IsDue pages next n = PointsTo pages (or_null next) n

-- where a record is to be purged next, one stands there
abbrev pub HasNext : Pages → Option Address → Type 0
HasNext pages next =
    IfSome next (λ a. (r : Record) × (previous : Address) × IsRecordAt pages a r previous)

-- the field that a record's length stands in is what the fault names
pub record IsLengthThere (told : Option Pages) (a : Address) (page at value : ℕ) : Type 0 where
  pub same_page : page ≡ a.page
  pub same_place : at ≡ a.at
  pub reads : IfSome told (λ pages. value ≡ field pages a.page a.at 2)

-- and no record stands there
pub record IsNoRecord (told : Option Pages) (a : Address) (page at value : ℕ) : Type 0 where
  pub here : IsLengthThere told a page at value
  pub bad : IfSome told (λ pages. IsBad pages a)

abbrev pub page_number : Option PageNo → Option ℕ
page_number = option_map (λ (n : PageNo). n.0)

abbrev pub oldest_page : List Log → Option ℕ
oldest_page [] = None
oldest_page (l ∷ more) = Some l.page
