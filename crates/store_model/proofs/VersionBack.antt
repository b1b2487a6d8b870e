-- LOB versions where a record is undone, and where purge passes one.
use Rattle.std.proofs.Common.{◌≡◌, ◌≢◌, inl, inr, ℕ, Bool, true, false, if◌then◌else◌, List, [], ◌∷◌, ◌++◌, Some, refl, sym, ap, subst, ◌∙◌}
use Rattle.std.proofs.lemmas.Bool.{cases_eq}
use Rattle.page_model.specs.Pages.{Address}
use Rattle.store_data.specs.Logs.{passed}
use Rattle.store_data.specs.Store.{Row, live, Reference, Lob, Run, Body, inserted, rebuilt, versioned, patched, removed, Record, Log, Store}
use Rattle.store_model.specs.Lobs.{joined, lob_of, heads}
use Rattle.store_model.specs.Runs.{lobs_laid}
use Rattle.store_model.specs.History.{Change, content, changes, active_changes, row_before, absent_row}
use Rattle.store_model.specs.Steps.{on_lob, on_lobs, without_lob, at_version, with_row, without_row, last_in}
use Rattle.store_model.specs.Undo.{is_gone, unmade, without_newest, undo_ended, cleared, on_oldest, record_passed, log_purged}
use Rattle.store_model.specs.Events.{log_begun}
use Rattle.store_model.specs.Behind.{IsElsewhere}
use Rattle.store_model.specs.Moves.{IsNewest, OlderElsewhere}
use Rattle.store_model.specs.Keeps.{Frees}
use Rattle.store_model.specs.Well.{IsKind, IsStep, AllIn, AreNamedOnce, IsChain, IsWell}
use Rattle.store_model.specs.Versions.{AreUpTo, HoldsAt, IfNewest, HoldBehind, HasVersions, IsLowered}
use Rattle.store_model.proofs.RowLemmas.{row-with_this, row-with_other, row-without_this, row-without_other}
use Rattle.store_model.proofs.LogLemmas.{change}
use Rattle.store_model.proofs.LobLemmas.{lob-on_this, lob-without_other}
use Rattle.store_model.proofs.UndoLemmas.{changes-popped, changes-popped_other}
use Rattle.store_model.proofs.PurgeLemmas.{swept_row, swept_changes, swept_lobs, pass_changes_other, changes-first, log_changes_kept}
use Rattle.store_model.proofs.ChainLemmas.{chain_front, front_elsewhere}
use Rattle.store_model.proofs.WellBackLemmas.{passed_all, swept_well}
use Rattle.store_model.proofs.GivesLemmas.{gone_last, before_freed, before_elsewhere, pass_chain}
use Rattle.store_model.proofs.VersionLemmas.{up_seen, holds_laid, holds_mapped, holds_by, behind_all, behind_live, before_all, before_each, elsewhere_on}
use Rattle.store_model.proofs.VersionEvents.{HoldsOf}
use Rattle.store_model.proofs.FurtherLemmas.{newest_content}

elsewhere_without : (page : ℕ) (lobs : List Lob) (r : Row) → IsElsewhere page r → r.state ≡ live → HoldsAt lobs r → HoldsAt (without_lob page lobs) r
elsewhere_without page lobs r away is_live holds = holds_by lobs (without_lob page lobs) r (lob-without_other r.lob.page page lobs (away is_live)) holds

without_of : (page : ℕ) (lobs : List Lob) (row : Row) (cs : List Change) → IsChain row cs → AllIn (IsElsewhere page) row cs → HoldsOf lobs row cs → HoldsOf (without_lob page lobs) row cs
without_of page lobs row cs chain away holds = (
  (λ is_live. elsewhere_without page lobs row away.0 is_live (holds.0 is_live)),
  behind_all lobs (without_lob page lobs) row cs chain (before_all (IsElsewhere page) _ cs (λ r elsewhere. elsewhere_without page lobs r elsewhere) away.1) holds.1,
)

on_of : (page : ℕ) (f : Lob → Lob) (lobs : List Lob) (row : Row) (cs : List Change) → ((l : Lob) → (f l).page ≡ l.page) → IsChain row cs → AllIn (IsElsewhere page) row cs → HoldsOf lobs row cs → HoldsOf (on_lob page f lobs) row cs
on_of page f lobs row cs same chain away holds = (
  (λ is_live. elsewhere_on page f lobs row same away.0 is_live (holds.0 is_live)),
  behind_all lobs (on_lob page f lobs) row cs chain (before_all (IsElsewhere page) _ cs (λ r elsewhere. elsewhere_on page f lobs r same elsewhere) away.1) holds.1,
)

laid_of : (rs : List Run) (lobs : List Lob) (row : Row) (cs : List Change) → IsChain row cs → HoldsOf lobs row cs → HoldsOf (lobs_laid rs lobs) row cs
laid_of rs lobs row cs chain holds = ((λ is_live. holds_laid rs lobs row (holds.0 is_live)), behind_all lobs (lobs_laid rs lobs) row cs chain (before_each _ cs (λ r is_live. holds_laid rs lobs r)) holds.1)

-- ---- a record is undone

module _ (trx : ℕ) (place : Address) (u : Record) (store : Store) (well : IsWell store) (new : IsNewest trx place u store) (has : HasVersions store) (lowered : IsLowered u.body u.before store.lobs) where
  undo_chain' : IsChain (row_before store u.doc) (change trx place u ∷ changes (without_newest trx u store) u.doc)
  undo_chain' = subst (IsChain (row_before store u.doc)) (changes-popped trx place u store new) (well.chains u.doc)

  undo_holds : HoldsOf store.lobs (row_before store u.doc) (change trx place u ∷ changes (without_newest trx u store) u.doc)
  undo_holds = subst (HoldsOf store.lobs (row_before store u.doc)) (changes-popped trx place u store new) (has u.doc)

  undo_own_versions : HoldsOf (unmade u.body u.before store.lobs) u.before (changes (without_newest trx u store) u.doc)
  undo_own_versions = by_kind u.body undo_chain'.0.kind undo_chain'.0.fresh undo_holds.1.0 lowered
    where
      row : Row
      row = row_before store u.doc

      cs : List Change
      cs = changes (without_newest trx u store) u.doc

      by_kind : (b : Body) → IsKind b row u.before → OlderElsewhere b (change trx place u ∷ cs) → IfNewest b (HoldsAt store.lobs u.before) → IsLowered b u.before store.lobs → HoldsOf (unmade b u.before store.lobs) u.before cs
      by_kind (inserted page) kind fresh head low = without_of page store.lobs u.before cs undo_chain'.1 fresh ((λ is_live. absurd (kind.2 is_live)), undo_holds.1.1)
      by_kind (rebuilt page) kind fresh head low = without_of page store.lobs u.before cs undo_chain'.1 fresh ((λ is_live. head), undo_holds.1.1)
      by_kind (versioned pieces touched) kind fresh head low = (
        (λ is_live. holds_mapped (at_version u.before.lob.version) store.lobs (on_lob u.before.lob.page (at_version u.before.lob.version) store.lobs) u.before u.before
            (lob-on_this u.before.lob.page (at_version u.before.lob.version) store.lobs (λ l. refl)) (λ l there. (refl, low l there))),
        behind_live (at_version u.before.lob.version) store.lobs u.before cs (λ l. refl) undo_chain'.1 kind.1 u.before.lob.page refl undo_holds.1.1,
      )
      by_kind (patched old) kind fresh head low = laid_of old store.lobs u.before cs undo_chain'.1
          ((λ is_live. subst (λ (r : Reference). (l : Lob) → lob_of store.lobs r.page ≡ Some l → (l.version ≡ r.version) × AreUpTo r.version l.pieces) kind.2 (undo_holds.0 kind.0)), undo_holds.1.1)
      by_kind removed kind fresh head low = ((λ is_live. head), undo_holds.1.1)

  undo_other_versions : (d : ℕ) → u.doc ≢ d → HoldsOf (unmade u.body u.before store.lobs) (row_before store d) (changes store d)
  undo_other_versions d differ = by_kind u.body undo_chain'.0.kind
    where
      row : Row
      row = row_before store u.doc

      by_kind : (b : Body) → IsKind b row u.before → HoldsOf (unmade b u.before store.lobs) (row_before store d) (changes store d)
      by_kind (inserted page) kind = without_of page store.lobs (row_before store d) (changes store d) (well.chains d) (subst (λ n. AllIn (IsElsewhere n) (row_before store d) (changes store d)) kind.1 ((well.apart u.doc d differ).0 kind.0)) (has d)
      by_kind (rebuilt page) kind = without_of page store.lobs (row_before store d) (changes store d) (well.chains d) (subst (λ n. AllIn (IsElsewhere n) (row_before store d) (changes store d)) kind.1 ((well.apart u.doc d differ).0 kind.0)) (has d)
      by_kind (versioned pieces touched) kind = on_of u.before.lob.page (at_version u.before.lob.version) store.lobs (row_before store d) (changes store d) (λ l. refl) (well.chains d)
          (subst (λ (r : Reference). AllIn (IsElsewhere r.page) (row_before store d) (changes store d)) kind.2 ((well.apart u.doc d differ).0 kind.0)) (has d)
      by_kind (patched old) kind = laid_of old store.lobs (row_before store d) (changes store d) (well.chains d) (has d)
      by_kind removed kind = has d

  pub undo_versions : HasVersions (undo_ended trx u store)
  undo_versions d = by_test (is_gone mid u.before.state u.before) refl
    where
      mid : Store
      mid = without_newest trx u store

      other : (after : Store) → d ≢ u.doc → row_before after d ≡ row_before store d → changes after d ≡ changes store d → after.lobs ≡ unmade u.body u.before store.lobs → HoldsOf after.lobs (row_before after d) (changes after d)
      other after differ a b c = subst (λ ls. HoldsOf ls (row_before after d) (changes after d)) (sym c) (subst (λ r. HoldsOf (unmade u.body u.before store.lobs) r (changes after d)) (sym a)
          (subst (HoldsOf (unmade u.body u.before store.lobs) (row_before store d)) (sym b) (undo_other_versions d (λ e. differ (sym e)))))

      by_test : (b : Bool) → is_gone mid u.before.state u.before ≡ b
          → HoldsOf (if b then without_row u.doc mid else with_row u.doc u.before mid).lobs (row_before (if b then without_row u.doc mid else with_row u.doc u.before mid) d) (changes (if b then without_row u.doc mid else with_row u.doc u.before mid) d)
      by_test false e = elim (cases_eq d u.doc) [
        | inl same ↦ subst (λ q. HoldsOf mid.lobs (row_before (with_row u.doc u.before mid) q) (changes mid q)) (sym same) (subst (λ r. HoldsOf mid.lobs r (changes mid u.doc)) (sym (row-with_this u.doc u.before mid)) undo_own_versions)
        | inr differ ↦ other (with_row u.doc u.before mid) differ (row-with_other u.doc d u.before mid differ) (changes-popped_other trx place u store d new differ) refl
      ]
      by_test true e = elim (cases_eq d u.doc) [
        | inl same ↦ subst (λ q. HoldsOf mid.lobs (row_before (without_row u.doc mid) q) (changes mid q)) (sym same)
            (subst (λ r. HoldsOf mid.lobs r (changes mid u.doc)) (sym (row-without_this u.doc mid)) (subst (HoldsOf mid.lobs absent_row) (sym (gone_last trx place u store well new e)) ((λ is_live. absurd (cc is_live)), tt)))
        | inr differ ↦ other (without_row u.doc mid) differ (row-without_other u.doc d mid differ) (changes-popped_other trx place u store d new differ) refl
      ]

-- ---- purge passes a record

behind_front : (lobs : List Lob) (cs ds : List Change) → HoldBehind lobs (cs ++ ds) → HoldBehind lobs cs
behind_front lobs [] ds holds = tt
behind_front lobs (c ∷ cs) ds holds = (holds.0, behind_front lobs cs ds holds.1)

module _ (a : Address) (u : Record) (store : Store) (l : Log) (ls : List Log) (well : IsWell store) (first : store.committed ≡ l ∷ ls) (oldest : last_in l.records ≡ (a, u) ∷ []) (has : HasVersions store) where
  pass_own_versions : HoldsOf (cleared u.body u.before store.lobs) (row_before store u.doc) (changes (on_oldest passed store) u.doc)
  pass_own_versions = by_body u.body (before_freed a u store l ls well first oldest)
    where
      row : Row
      row = row_before store u.doc

      cs : List Change
      cs = changes (on_oldest passed store) u.doc

      chain : IsChain row (cs ++ change l.trx a u ∷ [])
      chain = pass_chain a u store l ls well first oldest

      holds : HoldsOf store.lobs row cs
      holds = let h = subst (HoldsOf store.lobs row) (passed_all a u store l ls first oldest) (has u.doc) in (h.0, behind_front store.lobs cs (change l.trx a u ∷ []) h.1)

      by_body : (b : Body) → (Frees b → (u.before.state ≡ live) × ((r : Row) → IsStep r (change l.trx a u) [] → IsElsewhere u.before.lob.page r)) → HoldsOf (cleared b u.before store.lobs) row cs
      by_body (inserted page) freed = holds
      by_body (rebuilt page) freed = let f = freed tt in without_of u.before.lob.page store.lobs row cs (chain_front row cs (change l.trx a u ∷ []) chain) (front_elsewhere row cs (change l.trx a u) [] chain f.1 f.0) holds
      by_body (versioned pieces touched) freed = holds
      by_body (patched old) freed = holds
      by_body removed freed = let f = freed tt in without_of u.before.lob.page store.lobs row cs (chain_front row cs (change l.trx a u ∷ []) chain) (front_elsewhere row cs (change l.trx a u) [] chain f.1 f.0) holds

  pass_other_versions : (d : ℕ) → u.doc ≢ d → HoldsOf (cleared u.body u.before store.lobs) (row_before store d) (changes store d)
  pass_other_versions d differ = by_body u.body (before_freed a u store l ls well first oldest)
    where
      by_body : (b : Body) → (Frees b → (u.before.state ≡ live) × ((r : Row) → IsStep r (change l.trx a u) [] → IsElsewhere u.before.lob.page r)) → HoldsOf (cleared b u.before store.lobs) (row_before store d) (changes store d)
      by_body (inserted page) freed = has d
      by_body (rebuilt page) freed = without_of u.before.lob.page store.lobs (row_before store d) (changes store d) (well.chains d) (before_elsewhere a u store l ls well first oldest d differ (freed tt).0) (has d)
      by_body (versioned pieces touched) freed = has d
      by_body (patched old) freed = has d
      by_body removed freed = without_of u.before.lob.page store.lobs (row_before store d) (changes store d) (well.chains d) (before_elsewhere a u store l ls well first oldest d differ (freed tt).0) (has d)

  pub pass_versions : HasVersions (record_passed a l.trx u store)
  pass_versions d = subst (λ ms. HoldsOf ms (row_before after d) (changes after d)) (sym (swept_lobs u.body a l.trx u.doc mid)) (elim (cases_eq d u.doc) [
    | inl same ↦ subst (λ q. HoldsOf mid.lobs (row_before after q) (changes after q)) (sym same) own
    | inr differ ↦ subst (λ r. HoldsOf mid.lobs r (changes after d)) (sym (elim (swept_row u.body a l.trx u.doc d mid) [ inl kept ↦ kept | inr gone ↦ absurd (differ gone.1) ]))
        (subst (HoldsOf mid.lobs (row_before store d)) (sym (pass_changes_other a u store l ls d first oldest differ)) (pass_other_versions d (λ e. differ (sym e))))
  ])
    where
      mid : Store
      mid = on_lobs (cleared u.body u.before) store

      after : Store
      after = record_passed a l.trx u store

      cs : List Change
      cs = changes (on_oldest passed store) u.doc

      own_changes : changes after u.doc ≡ cs
      own_changes = swept_changes u.body a l.trx u.doc u.doc mid

      own : HoldsOf mid.lobs (row_before after u.doc) (changes after u.doc)
      own = elim (swept_row u.body a l.trx u.doc u.doc mid) [
        | inl kept ↦ subst (λ r. HoldsOf mid.lobs r (changes after u.doc)) (sym kept) (subst (HoldsOf mid.lobs (row_before store u.doc)) (sym own_changes) pass_own_versions)
        | inr gone ↦ subst (λ r. HoldsOf mid.lobs r (changes after u.doc)) (sym gone.0) (subst (HoldsOf mid.lobs absent_row)
            (sym (own_changes ∙ (swept_well a l.trx u.doc u store cs (pass_chain a u store l ls well first oldest) (subst AreNamedOnce (passed_all a u store l ls first oldest) (well.places u.doc)) gone.2 gone.3).1)) ((λ is_live. absurd (cc is_live)), tt))
      ]

-- ---- what a document's newest row shows

pub newest_shows : (store : Store) (d : ℕ) (l : Lob) → HasVersions store → (row_before store d).state ≡ live → lob_of store.lobs (row_before store d).lob.page ≡ Some l
    → content store.lobs (row_before store d) ≡ Some (joined (heads l.pieces))
newest_shows store d l has is_live there = newest_content store.lobs (row_before store d) l is_live there (up_seen (row_before store d).lob.version l.pieces ((has d).0 is_live l there).1)

-- a log that is begun, and the first committed one that changes
pub begun_versions : (trx page : ℕ) (store : Store) → HasVersions store → HasVersions (log_begun trx page store)
begun_versions trx page store has d = has d

-- LOB versions hold on where the first committed log keeps its records and its transaction
pub first_versions : (f : Log → Log) (store : Store) → ((m : Log) → (f m).records ≡ m.records) → ((m : Log) → (f m).trx ≡ m.trx) → HasVersions store → HasVersions (on_oldest f store)
first_versions f store r t has d = subst (HoldsOf store.lobs (row_before store d)) (sym (ap (λ cs. active_changes d store.active ++ cs) (changes-first d f store.committed r t))) (has d)

-- so where the first committed log goes, which has no records left
pub purged_versions : (store : Store) (l : Log) (ls : List Log) → store.committed ≡ l ∷ ls → l.records ≡ [] → HasVersions store → HasVersions (log_purged store)
purged_versions store l ls first none has d = subst (HoldsOf store.lobs (row_before store d)) (sym (log_changes_kept d store l ls first none)) (has d)
