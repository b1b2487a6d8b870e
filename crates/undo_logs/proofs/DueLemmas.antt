-- The record to purge next is one of a log's records.
use Rattle.std.proofs.Common.{◌≡◌, Bool, true, false, cond, List, [], ◌∷◌, Option, Some, None, refl, sym, ap, subst}
use Rattle.page_model.specs.Pages.{Address}
use Rattle.store_data.specs.Store.{LogState, active}
use Rattle.undo_model.specs.Data.{Entry}
use Rattle.undo_model.specs.Logs.{NextIs, HasPlace, IsDueIn}
use Rattle.undo_model.specs.LogSteps.{oldest, same_address, newer, next_behind}

-- a record's place among more records
behind : (a : Address) (e : Entry) (records : List Entry) → HasPlace a records → HasPlace a (e ∷ records)
behind a e records has = record {
  newer = e ∷ has.newer;
  entry = has.entry;
  older = has.older;
  is = ap (λ (rs : List Entry). e ∷ rs) has.is;
  here = has.here;
}

due_behind : (o : Option Address) (e : Entry) (records : List Entry) → IsDueIn o records → IsDueIn o (e ∷ records)
due_behind None e records has = tt
due_behind (Some a) e records has = behind a e records has

here : (e : Entry) (records : List Entry) → HasPlace e.at (e ∷ records)
here e records = record { newer = []; entry = e; older = records; is = refl; here = refl }

-- none is due in a log that is active
pub active_due : (s : LogState) (there : Address) (next : Option Address) (records : List Entry) → s ≡ active → NextIs s there next → IsDueIn next records
active_due s there next records is next_is =
    let none : next ≡ None = subst (λ (t : LogState). NextIs t there next) is next_is in
    subst (λ (o : Option Address). IsDueIn o records) (sym none) tt

-- the oldest record's place
pub oldest_due : (records : List Entry) → IsDueIn (oldest records) records
oldest_due [] = tt
oldest_due (e ∷ []) = here e []
oldest_due (e ∷ f ∷ older) = due_behind (oldest (f ∷ older)) e (f ∷ older) (oldest_due (f ∷ older))

newer_due : (a : Address) (records : List Entry) → IsDueIn (newer a records) records
newer_due a [] = tt
newer_due a (e ∷ []) = tt
newer_due a (e ∷ f ∷ older) = by (same_address f.at a) (newer_due a (f ∷ older))
  where
    by : (b : Bool) → IsDueIn (newer a (f ∷ older)) (f ∷ older) → IsDueIn (cond b (Some e.at) (newer a (f ∷ older))) (e ∷ f ∷ older)
    by true rest = here e (f ∷ older)
    by false rest = due_behind (newer a (f ∷ older)) e (f ∷ older) rest

-- that of the record made behind one
pub next_due : (o : Option Address) (records : List Entry) → IsDueIn (next_behind o records) records
next_due None records = tt
next_due (Some a) records = newer_due a records
