-- A row put back, or taken out.
use Rattle.std.proofs.Common.{◌≡◌, ◌≢◌, ℕ, nat_eq, Bool, true, false, if◌then◌else◌, List, Option, Some, None, is_some, refl, sym, ap, subst, ◌∙◌}
use Rattle.std.specs.Option.{option_map}
use Rattle.indexmap.specs.IndexMap.{get}
use Rattle.page_model.specs.Pages.{Pages}
use Rattle.engine_base.specs.Addresses.{address_of}
use Rattle.store_data.specs.Store.{Row, Store}
use Rattle.undo_model.specs.Data.{Row as RowThere}
use Rattle.undo_model.specs.Rows.{Keyed, RowPage, IsRows, row_base, row_for, rows_of}
use Rattle.store_model.specs.History.{row_of as row_in_store}
use Rattle.store_model.specs.Steps.{with_row, without_row}
use Rattle.store_model.specs.Events.{with_row_pages}
use Rattle.store_model.specs.Undo.{is_gone}
use Rattle.store_parts.specs.Stored.{row_pages}
use Rattle.store_parts.specs.Shows.{row_of}
use Rattle.row_dir.specs.declared.dir.RowDir.{RowDir}
use Rattle.row_dir.specs.Directory.{IsDirectory}
use Rattle.row_dir.specs.Puts.{PutsRow}
use Rattle.row_dir.specs.Removes.{RemovesRow}
use Rattle.row_dir.specs.Stores.{RowsIn}
use Rattle.row_dir.proofs.FindLemmas.{none_found}
use Rattle.row_dir.proofs.SameLemmas.{one_rows}
use Rattle.row_dir.proofs.StoreLemmas.{rows_in}
use Rattle.store_steps.specs.Standing.{StandsOn}
use Rattle.rollback.specs.Rows.{PutsBack, RestoresRow}

module _ (there : List RowPage) (pages : Pages) (store : Store) (on : StandsOn there pages store) where
  pub rows_at : IsRows pages row_base there
  rows_at = subst (IsRows pages row_base) on.slots on.is.standing.rows

  pub rows_there : RowsIn pages store there
  rows_there = rows_in pages store there on.is rows_at

  shown_at : (d : ℕ) → row_in_store store d ≡ option_map row_of (row_for d (rows_of there))
  shown_at d =
      on.is.shows.rows d
      ∙ ap (λ (ps : List RowPage). option_map row_of (row_for d (rows_of ps))) on.slots

  -- a document that has a row is in the directory
  pub is_in : (dir : RowDir) (d : ℕ) → IsDirectory dir there
      → is_some (row_in_store store d) ≡ true → get nat_eq dir.places d ≢ None
  is_in dir d is has none =
      let gone : None ≡ row_for d (rows_of there) =
      none_found address_of _ d there (sym none) (is.finds d) in
      absurd (let e : false ≡ true =
      ap (λ (o : Option RowThere). is_some (option_map row_of o)) gone
      ∙ sym (ap is_some (shown_at d)) ∙ has in cc)

  pub put_there : (k : Keyed) (dir : RowDir) (new : Pages) → PutsRow k dir there pages new
      → PutsBack k.doc (row_of k.row) dir store new
  put_there k dir new p =
      let is = rows_there.put k dir new p in
      record {
        there = p.after;
        stands = record {
          is = is;
          slots = one_rows new row_base is.stored.rows p.after is.standing.rows p.moves.stands;
        };
        directory = p.directory;
      }

  pub row_kept : (d : ℕ) (before : Row) (dir : RowDir) (new : Pages)
      → is_gone store before.state before ≡ false → PutsBack d before dir store new
      → RestoresRow d before dir store new
  row_kept d before dir new kept p = record {
    there = p.there;
    stands = subst (λ (x : Store). StandsOn p.there new (with_row_pages (row_pages p.there) x))
        (sym (ap (λ (b : Bool). if b then without_row d store else with_row d before store) kept))
        p.stands;
    directory = p.directory;
  }

  pub row_gone : (d : ℕ) (before : Row) (dir : RowDir) (new : Pages)
      → is_gone store before.state before ≡ true → RemovesRow d dir there pages new
      → RestoresRow d before dir store new
  row_gone d before dir new gone r =
      let is = rows_there.removed d dir new r in
      let at : StandsOn r.after new (with_row_pages (row_pages r.after) (without_row d store)) = record {
        is = is;
        slots = one_rows new row_base is.stored.rows r.after is.standing.rows r.moves.stands;
      } in
      record {
        there = r.after;
        stands = subst (λ (x : Store). StandsOn r.after new (with_row_pages (row_pages r.after) x))
            (sym (ap (λ (b : Bool). if b then without_row d store else with_row d before store) gone))
            at;
        directory = r.directory;
      }

-- ---- answers

pub none_of : {A : Type 0} (o : Option A) → is_some o ≡ false → o ≡ None
none_of None e = refl
none_of (Some x) e = absurd (let b : true ≡ false = e in cc)
