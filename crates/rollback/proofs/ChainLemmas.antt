-- What a consistent store says of a log's newest record: its document's row is the one behind it,
-- the LOBs that it names stand, and its undoing may end.
use Rattle.std.proofs.Common.{◌≡◌, inl, inr, ℕ, Bool, true, false, if◌then◌else◌, List, [], ◌∷◌, ◌++◌, Option, Some, None, unwrap_or, is_some, is_none, refl, sym, ap, subst, ◌∙◌}
use Rattle.std.proofs.lemmas.Bool.Decides.{eqb_tells}
use Rattle.page_model.specs.Pages.{Pages, Address}
use Rattle.store_data.specs.Store.{live, Row, Lob, Record, Log}
use Rattle.undo_model.proofs.OptionLemmas.{some_some, not_some}
use Rattle.store_model.specs.Lobs.{lob_of}
use Rattle.store_model.specs.History.{Change, changes, row_of, row_before, absent_row}
use Rattle.store_model.specs.Steps.{log_of, without_record}
use Rattle.store_model.specs.Locked.{first_in, newest_in}
use Rattle.store_model.specs.Moves.{IsNewest}
use Rattle.store_model.specs.Owned.{owned_lobs, IsAmong}
use Rattle.store_model.specs.Undo.{record_at, record_in, without_newest}
use Rattle.store_model.specs.Behind.{AllBefore}
use Rattle.store_model.specs.Well.{IsKind, IsChain, NoLog}
use Rattle.store_model.specs.Ids.{base_of}
use Rattle.store_model.specs.Consistent.{IsConsistent}
use Rattle.store_model.proofs.LogLemmas.{change}
use Rattle.store_model.proofs.UndoLemmas.{changes-popped}
use Rattle.store_model.proofs.NewestLemmas.{newest_of_well}
use Rattle.store_model.proofs.NamedLemmas.{has_named}
use Rattle.store_model.proofs.DistinctLemmas.{none_popped, distinct_popped}
use Rattle.store_model.proofs.SoundLemmas.{lobs_are_owned}
use Rattle.store_model.proofs.HeldLemmas.{owned_there}
use Rattle.rollback.specs.Standing.{Scene, IsAt}
use Rattle.rollback.specs.Records.{record_out}
use Rattle.rollback.specs.Ends.{CanEnd}

-- the newest record of a log that is found
newest_found : (ls : List Log) (trx : ℕ) (l : Log) → log_of ls trx ≡ Some l
    → newest_in trx ls ≡ first_in l.records
newest_found [] trx l found = absurd (not_some l found)
newest_found (m ∷ ms) trx l found = elim (eqb_tells m.trx trx) [
  | inl mine ↦ (
      let same : m ≡ l = some_some m l (ap (λ (b : Bool). if b then Some m else log_of ms trx)
      (sym mine.0) ∙ found) in
      ap (λ (b : Bool). if b then first_in m.records else newest_in trx ms) mine.0
      ∙ ap (λ (x : Log). first_in x.records) same
      )
  | inr other ↦ (
      ap (λ (b : Bool). if b then first_in m.records else newest_in trx ms) other.0
      ∙ newest_found ms trx l (ap (λ (b : Bool). if b then Some m else log_of ms trx)
      (sym other.0) ∙ found)
      )
]

-- a log that is found is found in front of others
found_in_front : (ls ms : List Log) (trx : ℕ) (l : Log) → log_of ls trx ≡ Some l
    → log_of (ls ++ ms) trx ≡ Some l
found_in_front [] ms trx l found = absurd (not_some l found)
found_in_front (m ∷ ls) ms trx l found = elim (eqb_tells m.trx trx) [
  | inl mine ↦ (
      ap (λ (b : Bool). if b then Some m else log_of (ls ++ ms) trx) mine.0
      ∙ (ap (λ (b : Bool). if b then Some m else log_of ls trx) (sym mine.0) ∙ found)
      )
  | inr other ↦ (
      ap (λ (b : Bool). if b then Some m else log_of (ls ++ ms) trx) other.0
      ∙ found_in_front ls ms trx l (ap (λ (b : Bool). if b then Some m else log_of ls trx)
      (sym other.0) ∙ found)
      )
]

none_found : (ls : List Log) (trx : ℕ) (l : Log) → NoLog trx ls → log_of ls trx ≡ Some l → ⊥
none_found [] trx l none found = not_some l found
none_found (m ∷ ms) trx l none found = elim (eqb_tells m.trx trx) [
  | inl mine ↦ none.0 mine.1
  | inr other ↦ none_found ms trx l none.1
      (ap (λ (b : Bool). if b then Some m else log_of ms trx) (sym other.0) ∙ found)
]

has_row : (o : Option Row) (a : Address) → (unwrap_or o absent_row).roll ≡ Some a
    → is_some o ≡ true
has_row None a leads = absurd (not_some a leads)
has_row (Some row) a leads = refl

pub there_is : {A : Type 0} (o : Option A) → is_some o ≡ true → (x : A) × (o ≡ Some x)
there_is None some = absurd (let e : false ≡ true = some in cc)
there_is (Some x) some = (x, refl)

module _ (told : Option Pages) (first : ℕ) (s : Scene) (at : IsAt told first s)
    (is : IsConsistent s.store) where
  pub is_newest : IsNewest s.trx s.place s.undo s.store
  is_newest = newest_of_well s.trx s.place s.undo s.store is.well
      (newest_found s.store.active s.trx s.log at.found
      ∙ ap (λ (us : List (Address × Record)). first_in us) at.records)

  abbrev older : List Change
  older = changes (without_newest s.trx s.undo s.store) s.undo.doc

  all_changes : changes s.store s.undo.doc ≡ change s.trx s.place s.undo ∷ older
  all_changes = changes-popped s.trx s.place s.undo s.store is_newest

  chain : IsChain (row_before s.store s.undo.doc) (change s.trx s.place s.undo ∷ older)
  chain = subst (IsChain (row_before s.store s.undo.doc)) all_changes
      (let well = is.well in well.chains s.undo.doc)

  -- the document's row came from the row before by this record
  pub step_kind : IsKind s.undo.body (row_before s.store s.undo.doc) s.undo.before
  step_kind = let step = chain.0 in step.kind

  -- where the row is live its LOB is owned, and stands
  pub row_owned : (row_before s.store s.undo.doc).state ≡ live
      → IsAmong (row_before s.store s.undo.doc).lob.page (owned_lobs s.store)
  row_owned = (lobs_are_owned s.store s.undo.doc is.well).0

  -- and so is that of the row before
  pub before_owned : s.undo.before.state ≡ live
      → IsAmong s.undo.before.lob.page (owned_lobs s.store)
  before_owned =
      let P : Row → Type 0 = λ r. r.state ≡ live → IsAmong r.lob.page (owned_lobs s.store) in
      (subst (AllBefore P) all_changes (lobs_are_owned s.store s.undo.doc is.well).1).0

  pub owned_stands : (page : ℕ) → IsAmong page (owned_lobs s.store)
      → (l : Lob) × (lob_of s.store.lobs page ≡ Some l)
  owned_stands page among = there_is (lob_of s.store.lobs page)
      (owned_there page s.store is.lobs among)

  -- what the row before names stands, where its transaction is at work
  before_named : (l : Log) (a : Address) (cs : List Change) → older ≡ cs
      → log_of (without_record s.trx s.store.active) s.undo.before.trx ≡ Some l
      → s.undo.before.roll ≡ Some a → is_none (record_at l.records a) ≡ false
  before_named l a [] none found leads =
      let base = subst (λ (cs : List Change).
      NoLog (base_of (row_before s.store s.undo.doc) cs).trx s.store.active)
      (all_changes ∙ ap (λ (cs : List Change). change s.trx s.place s.undo ∷ cs) none)
      (let ids = is.ids in ids.bases s.undo.doc) in
      absurd (none_found (without_record s.trx s.store.active) s.undo.before.trx l
      (none_popped s.trx s.undo.before.trx s.store.active base) found)
  before_named l a (c ∷ cs) some found leads =
      let out = record_out s.trx s.store in
      let step = (subst (IsChain s.undo.before) some chain.1).0 in
      let named = has_named s.undo.doc out s.undo.before c cs
      (let well = is.well in distinct_popped s.trx s.store.active s.store.committed well.logs)
      some step in
      sym (ap (λ (o : Option Log). is_none (record_in o s.undo.before.roll))
      (found_in_front (without_record s.trx s.store.active) s.store.committed s.undo.before.trx l found)
      ∙ ap (λ (o : Option Address). is_none (record_in (Some l) o)) leads) ∙ named

  pub can_end : CanEnd s
  can_end = record {
    has = has_row (row_of s.store s.undo.doc) s.place (let step = chain.0 in step.roll);
    distinct = let well = is.well in
        distinct_popped s.trx s.store.active s.store.committed well.logs;
    named = λ l a found leads. before_named l a older refl found leads;
  }
