-- The log of a transaction behind the end of its newest record, where one is left.
use Rattle.std.proofs.Common.{◌≡◌, inl, inr, ℕ, Bool, true, false, if◌then◌else◌, List, [], ◌∷◌, Some, refl, sym, ap, ◌∙◌}
use Rattle.std.proofs.lemmas.Bool.Decides.{eqb_tells}
use Rattle.page_model.specs.Pages.{Address}
use Rattle.store_data.specs.Store.{Row, Record, Log, Store}
use Rattle.undo_model.proofs.OptionLemmas.{some_some, not_some}
use Rattle.store_model.specs.Steps.{on_log, log_of, shrunk, without_record, all_but_first, with_row, without_row}
use Rattle.store_model.specs.Undo.{is_gone, restored}

-- ---- the log behind the end of a record

pub restored_active : (d : ℕ) (before : Row) (store : Store)
    → (restored d before store).active ≡ store.active
restored_active d before store = by (is_gone store before.state before)
  where
    by : (b : Bool)
        → (if b then without_row d store else with_row d before store).active ≡ store.active
    by true = refl
    by false = refl

pub restored_lobs : (d : ℕ) (before : Row) (store : Store)
    → (restored d before store).lobs ≡ store.lobs
restored_lobs d before store = by (is_gone store before.state before)
  where
    by : (b : Bool)
        → (if b then without_row d store else with_row d before store).lobs ≡ store.lobs
    by true = refl
    by false = refl

abbrev pub left_with : List (Address × Record) → List ℕ → Log → Log
left_with rest pages l = record l { records = rest; pages = pages }

-- the log has the older records, and these pages
pub log_left_found : (trx : ℕ) (pages : List ℕ) (e u : Address × Record) (us : List (Address × Record))
    (ls : List Log) (l : Log) → log_of ls trx ≡ Some l → l.records ≡ e ∷ u ∷ us
    → log_of (on_log trx (λ x. record x { pages = pages }) (without_record trx ls)) trx
    ≡ Some (left_with (u ∷ us) pages l)
log_left_found trx pages e u us [] l found records = absurd (not_some l found)
log_left_found trx pages e u us (m ∷ ms) l found records = elim (eqb_tells m.trx trx) [
  | inl mine ↦ (
      let same : m ≡ l = some_some m l (ap (λ (b : Bool). if b then Some m else log_of ms trx)
      (sym mine.0) ∙ found) in
      let out : without_record trx (m ∷ ms) ≡ record m { records = u ∷ us } ∷ ms =
      ap (λ (b : Bool). if b then shrunk m (all_but_first m.records) ms
      else m ∷ without_record trx ms) mine.0
      ∙ ap (λ (rs : List (Address × Record)). shrunk m (all_but_first rs) ms)
      (ap (λ (x : Log). x.records) same ∙ records) in
      let paged : on_log trx (λ x. record x { pages = pages }) (record m { records = u ∷ us } ∷ ms)
      ≡ left_with (u ∷ us) pages m ∷ ms =
      ap (λ (b : Bool). if b then left_with (u ∷ us) pages m ∷ ms
      else record m { records = u ∷ us } ∷ on_log trx (λ x. record x { pages = pages }) ms) mine.0 in
      ap (λ (xs : List Log). log_of (on_log trx (λ x. record x { pages = pages }) xs) trx) out
      ∙ (ap (λ (xs : List Log). log_of xs trx) paged
      ∙ (ap (λ (b : Bool). if b then Some (left_with (u ∷ us) pages m) else log_of ms trx) mine.0
      ∙ ap (λ (x : Log). Some (left_with (u ∷ us) pages x)) same))
      )
  | inr other ↦ (
      let out : without_record trx (m ∷ ms) ≡ m ∷ without_record trx ms =
      ap (λ (b : Bool). if b then shrunk m (all_but_first m.records) ms
      else m ∷ without_record trx ms) other.0 in
      let paged : on_log trx (λ x. record x { pages = pages }) (m ∷ without_record trx ms)
      ≡ m ∷ on_log trx (λ x. record x { pages = pages }) (without_record trx ms) =
      ap (λ (b : Bool). if b then record m { pages = pages } ∷ without_record trx ms
      else m ∷ on_log trx (λ x. record x { pages = pages }) (without_record trx ms)) other.0 in
      ap (λ (xs : List Log). log_of (on_log trx (λ x. record x { pages = pages }) xs) trx) out
      ∙ (ap (λ (xs : List Log). log_of xs trx) paged
      ∙ (ap (λ (b : Bool). if b then Some m
      else log_of (on_log trx (λ x. record x { pages = pages }) (without_record trx ms)) trx) other.0
      ∙ log_left_found trx pages e u us ms l (ap (λ (b : Bool). if b then Some m else log_of ms trx)
      (sym other.0) ∙ found) records))
      )
]
