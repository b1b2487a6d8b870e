-- Transaction ids under purge; the documents under a number of commits where a record is undone.
use Rattle.std.proofs.Common.{◌≡◌, ◌≢◌, inl, inr, ℕ, ◌<◌, Bool, true, false, not, ◌&&◌, ◌||◌, ◌==◌, if◌then◌else◌, List, [], ◌∷◌, ◌++◌, Some, None, refl, sym, ap, ap₂, subst, ◌∙◌, arith}
use Rattle.std.proofs.lemmas.Bool.{cases_eq, ne_eqb, eq-eqb}
use Rattle.std.proofs.lemmas.Bool.Decides.{eqb_tells}
use Rattle.page_model.specs.Pages.{Address}
use Rattle.store_data.specs.Logs.{passed}
use Rattle.store_data.specs.Store.{Row, Record, Log, Store}
use Rattle.store_model.specs.Runs.{lobs_laid, old_runs}
use Rattle.store_model.specs.History.{Change, content, history, history_on, changes, log_changes, active_changes, committed_changes, row_before, absent_row, seen, stands, stands_above, is_among, under}
use Rattle.store_model.specs.Steps.{on_lobs, all_but_first, shrunk, without_record, with_row, without_row, last_in}
use Rattle.store_model.specs.Undo.{is_gone, without_newest, undo_ended, on_first, on_oldest, cleared, record_passed, log_purged}
use Rattle.store_model.specs.Locked.{first_in, newest_in}
use Rattle.store_model.specs.Moves.{IsNewest, OthersElsewhere}
use Rattle.store_model.specs.Well.{AllIn, NoLog, AreDistinct, AreNamedOnce, IsWell, IsChain}
use Rattle.store_model.specs.Keeps.{KeepsUnder}
use Rattle.store_model.specs.Ids.{base_of, LogsBelow, HasIds}
use Rattle.store_model.proofs.RowLemmas.{row-with_this, row-with_other, row-without_this, row-without_other}
use Rattle.store_model.proofs.LogLemmas.{change, None_not_Some}
use Rattle.store_model.proofs.HistoryLemmas.{history-on}
use Rattle.store_model.proofs.UndoLemmas.{changes-popped, changes-popped_other, undo_others}
use Rattle.store_model.proofs.PurgeLemmas.{changes-first, swept_row, swept_changes, pass_changes_other, log_changes_kept, either}
use Rattle.store_model.proofs.ChainLemmas.{all_front}
use Rattle.store_model.proofs.DistinctLemmas.{none_parts, none_join}
use Rattle.store_model.proofs.WellBackLemmas.{passed_all, swept_well, swept_rest, swept_next}
use Rattle.store_model.proofs.NamedLemmas.{AllC, all_c, all_c_join, IsAt, some_at}
use Rattle.store_model.proofs.GivesLemmas.{gone_last, well_undo, undo_history}
use Rattle.store_model.proofs.UnderLemmas.{distinct_behind, seen_older, open_unseen}
use Rattle.store_model.proofs.IdLemmas.{seen_rows}
use Rattle.store_model.proofs.IdEventLemmas.{ids_by, below_parts, below_join}

-- ---- the logs of changes

active_stand : (d : ℕ) (ls : List Log) → AllC (λ c. stands c.trx ls ≡ true) (active_changes d ls)
active_stand d [] = tt
active_stand d (l ∷ ls) = all_c_join _ (log_changes d l) (active_changes d ls)
    (all_c (IsAt l.trx l.records) _ (log_changes d l) (λ c there. ap (λ (b : Bool). b || stands c.trx ls) (eq-eqb l.trx c.trx (sym there.0))) (some_at d l.trx l.records))
    (all_c _ _ (active_changes d ls) (λ c there. later (l.trx == c.trx) (stands c.trx ls) there) (active_stand d ls))
  where
    later : (b s : Bool) → s ≡ true → (b || s) ≡ true
    later true s e = refl
    later false s e = e

committed_there : (d : ℕ) (ls : List Log) → AllC (λ c. NoLog c.trx ls → ⊥) (committed_changes d ls)
committed_there d [] = tt
committed_there d (l ∷ ls) = all_c_join _ (committed_changes d ls) (log_changes d l)
    (all_c _ _ (committed_changes d ls) (λ c there none. there none.1) (committed_there d ls))
    (all_c (IsAt l.trx l.records) _ (log_changes d l) (λ c there none. none.0 (sym there.0)) (some_at d l.trx l.records))

-- a change of a transaction that has no committed log stands in an active one
changes_stand : (d : ℕ) (store : Store) → AllC (λ c. NoLog c.trx store.committed → stands c.trx store.active ≡ true) (changes store d)
changes_stand d store = all_c_join _ (active_changes d store.active) (committed_changes d store.committed)
    (all_c _ _ (active_changes d store.active) (λ c there none. there) (active_stand d store.active))
    (all_c _ _ (committed_changes d store.committed) (λ c there none. absurd (there none)) (committed_there d store.committed))

newest_apart : (trx : ℕ) (e : Address × Record) (ls ms : List Log) → newest_in trx ls ≡ Some e → AreDistinct (ls ++ ms) → NoLog trx ms
newest_apart trx e [] ms there all = absurd (None_not_Some there)
newest_apart trx e (l ∷ ls) ms there all = elim (eqb_tells l.trx trx) [
  | inl same ↦ subst (λ x. NoLog x ms) same.1 (none_parts l.trx ls ms all.0).1
  | inr other ↦ newest_apart trx e ls ms (sym (ap (λ (b : Bool). if b then first_in l.records else newest_in trx ls) other.0) ∙ there) all.1
]

newest_other : (x trx : ℕ) (e : Address × Record) (ls : List Log) → newest_in trx ls ≡ Some e → NoLog x ls → x ≢ trx
newest_other x trx e [] there none = absurd (None_not_Some there)
newest_other x trx e (l ∷ ls) there none = elim (eqb_tells l.trx trx) [
  | inl same ↦ λ q. none.0 (same.1 ∙ sym q)
  | inr other ↦ newest_other x trx e ls (sym (ap (λ (b : Bool). if b then first_in l.records else newest_in trx ls) other.0) ∙ there) none.1
]

newest_stands : (trx : ℕ) (e : Address × Record) (ls : List Log) → newest_in trx ls ≡ Some e → stands trx ls ≡ true
newest_stands trx e [] there = absurd (None_not_Some there)
newest_stands trx e (l ∷ ls) there = elim (eqb_tells l.trx trx) [
  | inl same ↦ ap (λ (b : Bool). b || stands trx ls) same.0
  | inr other ↦ ap (λ (b : Bool). b || stands trx ls) other.0 ∙ newest_stands trx e ls (sym (ap (λ (b : Bool). if b then first_in l.records else newest_in trx ls) other.0) ∙ there)
]

stands_popped : (x trx : ℕ) (ls : List Log) → x ≢ trx → stands x (without_record trx ls) ≡ stands x ls
stands_popped x trx [] other = refl
stands_popped x trx (l ∷ ls) other = elim (eqb_tells l.trx trx) [
  | inl same ↦ ap (λ (b : Bool). stands x (if b then shrunk l (all_but_first l.records) ls else l ∷ without_record trx ls)) same.0 ∙ by_records (all_but_first l.records) (λ e. other (sym e ∙ same.1))
  | inr there ↦ ap (λ (b : Bool). stands x (if b then shrunk l (all_but_first l.records) ls else l ∷ without_record trx ls)) there.0 ∙ ap (λ (b : Bool). (l.trx == x) || b) (stands_popped x trx ls other)
]
  where
    by_records : (us : List (Address × Record)) → l.trx ≢ x → stands x (shrunk l us ls) ≡ ((l.trx == x) || stands x ls)
    by_records [] differ = ap (λ (b : Bool). b || stands x ls) (sym (ne_eqb l.trx x differ))
    by_records (u ∷ us) differ = refl

-- ---- a record is undone: under each number of commits all stays

module _ (trx : ℕ) (place : Address) (u : Record) (store : Store) (well : IsWell store) (ids : HasIds store) (new : IsNewest trx place u store) where
  after_active : (undo_ended trx u store).active ≡ without_record trx store.active
  after_active = by_test (is_gone (without_newest trx u store) u.before.state u.before)
    where
      by_test : (b : Bool) → (if b then without_row u.doc (without_newest trx u store) else with_row u.doc u.before (without_newest trx u store)).active ≡ without_record trx store.active
      by_test true = refl
      by_test false = refl

  after_committed : (undo_ended trx u store).committed ≡ store.committed
  after_committed = by_test (is_gone (without_newest trx u store) u.before.state u.before)
    where
      by_test : (b : Bool) → (if b then without_row u.doc (without_newest trx u store) else with_row u.doc u.before (without_newest trx u store)).committed ≡ store.committed
      by_test true = refl
      by_test false = refl

  after_changes : (d : ℕ) → changes (undo_ended trx u store) d ≡ changes (without_newest trx u store) d
  after_changes d = by_test (is_gone (without_newest trx u store) u.before.state u.before)
    where
      by_test : (b : Bool) → changes (if b then without_row u.doc (without_newest trx u store) else with_row u.doc u.before (without_newest trx u store)) d ≡ changes (without_newest trx u store) d
      by_test true = refl
      by_test false = refl

  among_other_trx : (k x : ℕ) → x ≢ trx → is_among (undo_ended trx u store) k x ≡ is_among store k x
  among_other_trx k x other = ap₂ (λ (ls ms : List Log). not (stands x ls) && not (stands_above k x ms)) after_active after_committed
      ∙ ap (λ (b : Bool). not b && not (stands_above k x store.committed)) (stands_popped x trx store.active other)

  -- a row in front of a change, whose log is still there
  among_stays : (k x : ℕ) → (NoLog x store.committed → stands x (undo_ended trx u store).active ≡ true) → is_among (undo_ended trx u store) k x ≡ is_among store k x
  among_stays k x there = elim (cases_eq x trx) [
    | inr other ↦ among_other_trx k x other
    | inl same ↦
        let none : NoLog x store.committed = subst (λ y. NoLog y store.committed) (sym same) (newest_apart trx (place, u) store.active store.committed new.newest well.logs) in
        open_unseen (undo_ended trx u store) k x (there none) ∙ sym (open_unseen store k x (ap (λ y. stands y store.active) same ∙ newest_stands trx (place, u) store.active new.newest))
  ]

  agree_down : (k : ℕ) (row : Row) (cs : List Change) → IsChain row cs → AllC (λ c. NoLog c.trx store.committed → stands c.trx (undo_ended trx u store).active ≡ true) cs → (base_of row cs).trx ≢ trx
      → AllIn (λ r. is_among (undo_ended trx u store) k r.trx ≡ is_among store k r.trx) row cs
  agree_down k row [] chain there base = (among_other_trx k row.trx base, tt)
  agree_down k row (c ∷ cs) chain there base = (ap (λ x. is_among (undo_ended trx u store) k x) chain.0.trx ∙ among_stays k c.trx there.0 ∙ ap (λ x. is_among store k x) (sym chain.0.trx), agree_down k c.undo.before cs chain.1 there.1 base)

  base_stays : (d : ℕ) → (base_of (row_before (undo_ended trx u store) d) (changes (undo_ended trx u store) d)).trx ≢ trx
  base_stays d = newest_other (base_of (row_before (undo_ended trx u store) d) (changes (undo_ended trx u store) d)).trx trx (place, u) store.active new.newest (by_test (is_gone mid u.before.state u.before) refl)
    where
      mid : Store
      mid = without_newest trx u store

      kept : (after : Store) → d ≢ u.doc → row_before after d ≡ row_before store d → changes after d ≡ changes mid d → NoLog (base_of (row_before after d) (changes after d)).trx store.active
      kept after other a b = subst (λ r. NoLog (base_of r (changes after d)).trx store.active) (sym a) (subst (λ x. NoLog (base_of (row_before store d) x).trx store.active) (sym (b ∙ changes-popped_other trx place u store d new other)) (ids.bases d))

      own : NoLog (base_of u.before (changes mid u.doc)).trx store.active
      own = subst (λ x. NoLog (base_of (row_before store u.doc) x).trx store.active) (changes-popped trx place u store new) (ids.bases u.doc)

      by_test : (b : Bool) → is_gone mid u.before.state u.before ≡ b
          → NoLog (base_of (row_before (if b then without_row u.doc mid else with_row u.doc u.before mid) d) (changes (if b then without_row u.doc mid else with_row u.doc u.before mid) d)).trx store.active
      by_test false e = elim (cases_eq d u.doc) [
        | inl same ↦ subst (λ q. NoLog (base_of (row_before (with_row u.doc u.before mid) q) (changes mid q)).trx store.active) (sym same)
            (subst (λ r. NoLog (base_of r (changes mid u.doc)).trx store.active) (sym (row-with_this u.doc u.before mid)) own)
        | inr other ↦ kept (with_row u.doc u.before mid) other (row-with_other u.doc d u.before mid other) refl
      ]
      by_test true e = elim (cases_eq d u.doc) [
        | inl same ↦ subst (λ q. NoLog (base_of (row_before (without_row u.doc mid) q) (changes mid q)).trx store.active) (sym same)
            (subst (λ r. NoLog (base_of r (changes mid u.doc)).trx store.active) (sym (row-without_this u.doc mid))
            (subst (λ x. NoLog (base_of absent_row x).trx store.active) (sym (gone_last trx place u store well new e)) (none_parts 0 store.active store.committed ids.some).0))
        | inr other ↦ kept (without_row u.doc mid) other (row-without_other u.doc d mid other) refl
      ]

  -- the same rows are seen by the tests before and after
  seen_by_old : (d k : ℕ) → under (undo_ended trx u store) d k ≡ seen (is_among store k) (history (undo_ended trx u store) d)
  seen_by_old d k = let after = undo_ended trx u store in
      ap (seen (is_among after k)) (history-on after.lobs (row_before after d) (changes after d))
      ∙ seen_rows (is_among after k) (is_among store k) after.lobs (row_before after d) (changes after d)
      (agree_down k (row_before after d) (changes after d) ((well_undo trx place u store well new).chains d)
      (subst (λ ms. AllC (λ c. NoLog c.trx ms → stands c.trx after.active ≡ true) (changes after d)) after_committed (changes_stand d after)) (base_stays d))
      ∙ ap (seen (is_among store k)) (sym (history-on after.lobs (row_before after d) (changes after d)))

  pub undo_under : ((d : ℕ) → d ≢ u.doc → OthersElsewhere u.body store d) → KeepsUnder 0 store (undo_ended trx u store)
  undo_under others d k below = seen_by_old d k ∙ elim (cases_eq d u.doc) [
    | inr other ↦ ap (seen (is_among store k)) (undo_others trx place u store d new other (others d other))
    | inl same ↦ subst (λ q. seen (is_among store k) (history (undo_ended trx u store) q) ≡ under store q k) (sym same) own
  ]
    where
      chain : IsChain (row_before store u.doc) (change trx place u ∷ changes (without_newest trx u store) u.doc)
      chain = subst (IsChain (row_before store u.doc)) (changes-popped trx place u store new) (well.chains u.doc)

      shape : history store u.doc ≡ record { trx = (row_before store u.doc).trx; length = (row_before store u.doc).lob.length; bytes = content store.lobs (row_before store u.doc) }
          ∷ history_on (lobs_laid (old_runs u.body) store.lobs) u.before (changes (without_newest trx u store) u.doc)
      shape = history-on store.lobs (row_before store u.doc) (changes store u.doc) ∙ ap (history_on store.lobs (row_before store u.doc)) (changes-popped trx place u store new)

      older : under store u.doc k ≡ seen (is_among store k) (all_but_first (history store u.doc))
      older = seen_older (is_among store k) (history store u.doc) _ _ shape (ap (is_among store k) chain.0.trx ∙ open_unseen store k trx (newest_stands trx (place, u) store.active new.newest))

      nothing : (x n : ℕ) → seen (is_among store k) (record { trx = x; length = n; bytes = None } ∷ []) ≡ None
      nothing x n = either (is_among store k x) None

      own : seen (is_among store k) (history (undo_ended trx u store) u.doc) ≡ under store u.doc k
      own = elim (undo_history trx place u store well new) [
        | inl back ↦ ap (seen (is_among store k)) back ∙ sym older
        | inr gone ↦ ap (seen (is_among store k)) gone.0 ∙ nothing 0 0 ∙ sym (nothing u.before.trx u.before.lob.length) ∙ ap (seen (is_among store k)) (sym gone.1) ∙ sym older
      ]

-- ---- purge

base_meets : (row : Row) (cs : List Change) (c : Change) → IsChain row (cs ++ c ∷ []) → (base_of row cs).trx ≡ c.trx
base_meets row [] c chain = chain.0.trx
base_meets row (b ∷ cs) c chain = base_meets b.undo.before cs c chain.1

none_first : (x : ℕ) (f : Log → Log) (ls : List Log) → ((l : Log) → (f l).trx ≡ l.trx) → NoLog x ls → NoLog x (on_first f ls)
none_first x f [] same none = tt
none_first x f (l ∷ ls) same none = ((λ e. none.0 (sym (same l) ∙ e)), none.1)

below_first : (n : ℕ) (f : Log → Log) (ls : List Log) → ((l : Log) → (f l).trx ≡ l.trx) → LogsBelow n ls → LogsBelow n (on_first f ls)
below_first n f [] same all = tt
below_first n f (l ∷ ls) same all = (omega (arith, same l, all.0), all.1)

-- transaction ids stay in order where purge passes the oldest record of the first committed log
pub ids_passed : (a : Address) (u : Record) (store : Store) (l : Log) (ls : List Log) → IsWell store → HasIds store → store.committed ≡ l ∷ ls → last_in l.records ≡ (a, u) ∷ []
    → HasIds (record_passed a l.trx u store)
ids_passed a u store l ls well ids first oldest = elim (swept_row u.body a l.trx u.doc u.doc mid) [
  | inl kept ↦ by store after u.doc row cs kept (all_in_front cs (ids_rows (ids.rows u.doc))) (subst (λ x. NoLog x after.active) (sym (base_meets row cs c chain)) none_own) own_changes
  | inr gone ↦ by store after u.doc absent_row [] gone.0 (omega (arith, (ids.rows u.doc).0), tt) (fewer 0 (none_parts 0 store.active store.committed ids.some).0) (own_changes ∙ (swept_well a l.trx u.doc u store cs chain once gone.2 gone.3).1)
]
  where
    mid : Store
    mid = on_lobs (cleared u.body u.before) store

    after : Store
    after = record_passed a l.trx u store

    row : Row
    row = row_before store u.doc

    cs : List Change
    cs = changes (on_oldest passed store) u.doc

    c : Change
    c = change l.trx a u

    all : changes store u.doc ≡ cs ++ c ∷ []
    all = passed_all a u store l ls first oldest

    chain : IsChain row (cs ++ c ∷ [])
    chain = subst (IsChain row) all (well.chains u.doc)

    once : AreNamedOnce (cs ++ c ∷ [])
    once = subst AreNamedOnce all (well.places u.doc)

    own_changes : changes after u.doc ≡ cs
    own_changes = swept_changes u.body a l.trx u.doc u.doc mid

    ids_rows : AllIn (λ r. r.trx < store.next_trx) row (changes store u.doc) → AllIn (λ r. r.trx < store.next_trx) row (cs ++ c ∷ [])
    ids_rows x = subst (AllIn (λ r. r.trx < store.next_trx) row) all x

    all_in_front : (es : List Change) → AllIn (λ r. r.trx < store.next_trx) row (es ++ c ∷ []) → AllIn (λ r. r.trx < store.next_trx) row es
    all_in_front es x = (x.0, all_front (λ r. r.trx < store.next_trx) es (c ∷ []) x.1)

    rest : (after.active ≡ store.active) × (after.committed ≡ on_first passed store.committed)
    rest = let r = swept_rest u.body a l.trx u.doc mid in (r.0, ap (on_first passed) r.1)

    fewer : (x : ℕ) → NoLog x store.active → NoLog x after.active
    fewer x none = subst (NoLog x) (sym rest.0) none

    none_own : NoLog l.trx after.active
    none_own = fewer l.trx (distinct_behind store.active l ls (subst (λ ms. AreDistinct (store.active ++ ms)) first well.logs)).0

    next : after.next_trx ≡ store.next_trx
    next = swept_next u.body a l.trx u.doc mid

    by : (store' after' : Store) (q : ℕ) (r : Row) (es : List Change) → row_before after u.doc ≡ r → AllIn (λ x. x.trx < store.next_trx) r es → NoLog (base_of r es).trx after.active → changes after u.doc ≡ es → HasIds after
    by store' after' q r es own_row rows base own = ids_by store after u.doc r es ids next own_row own
        (λ d differ. (elim (swept_row u.body a l.trx u.doc d mid) [ inl kept ↦ kept | inr gone ↦ absurd (differ gone.1) ], pass_changes_other a u store l ls d first oldest differ))
        rows base fewer
        (subst (λ x. NoLog 0 (x ++ after.committed)) (sym rest.0) (subst (λ x. NoLog 0 (store.active ++ x)) (sym rest.1) (let r = none_parts 0 store.active store.committed ids.some in none_join 0 store.active _ r.0 (none_first 0 passed store.committed (λ m. refl) r.1))))
        (subst (λ x. LogsBelow store.next_trx (x ++ after.committed)) (sym rest.0) (subst (λ x. LogsBelow store.next_trx (store.active ++ x)) (sym rest.1) (let r = below_parts store.next_trx store.active store.committed ids.logs in below_join store.next_trx store.active _ r.0 (below_first store.next_trx passed store.committed (λ m. refl) r.1))))

ids_logs : (store after : Store) → HasIds store → after.next_trx ≡ store.next_trx → after.active ≡ store.active → ((d : ℕ) → row_before after d ≡ row_before store d) → ((d : ℕ) → changes after d ≡ changes store d)
    → NoLog 0 after.committed → LogsBelow store.next_trx after.committed → HasIds after
ids_logs store after ids next act rows same some logs = record {
  some = subst (λ x. NoLog 0 (x ++ after.committed)) (sym act) (none_join 0 store.active after.committed (none_parts 0 store.active store.committed ids.some).0 some);
  logs = subst (λ n. LogsBelow n (after.active ++ after.committed)) (sym next) (subst (λ x. LogsBelow store.next_trx (x ++ after.committed)) (sym act) (below_join store.next_trx store.active after.committed (below_parts store.next_trx store.active store.committed ids.logs).0 logs));
  rows = λ d. subst (λ n. AllIn (λ r. r.trx < n) (row_before after d) (changes after d)) (sym next) (subst (λ r. AllIn (λ r. r.trx < store.next_trx) r (changes after d)) (sym (rows d)) (subst (AllIn (λ r. r.trx < store.next_trx) (row_before store d)) (sym (same d)) (ids.rows d)));
  bases = λ d. subst (λ x. NoLog (base_of (row_before after d) (changes after d)).trx x) (sym act) (subst (λ r. NoLog (base_of r (changes after d)).trx store.active) (sym (rows d)) (subst (λ x. NoLog (base_of (row_before store d) x).trx store.active) (sym (same d)) (ids.bases d)));
}

-- transaction ids stay in order where the first committed log keeps its records and transaction
pub ids_first : (f : Log → Log) (store : Store) → ((l : Log) → (f l).records ≡ l.records) → ((l : Log) → (f l).trx ≡ l.trx) → HasIds store → HasIds (on_oldest f store)
ids_first f store r t ids = ids_logs store (on_oldest f store) ids refl refl (λ d. refl) (λ d. ap (λ cs. active_changes d store.active ++ cs) (changes-first d f store.committed r t))
    (none_first 0 f store.committed t (none_parts 0 store.active store.committed ids.some).1) (below_first store.next_trx f store.committed t (below_parts store.next_trx store.active store.committed ids.logs).1)

none_rest : (x : ℕ) (ls : List Log) → NoLog x ls → NoLog x (all_but_first ls)
none_rest x [] none = tt
none_rest x (l ∷ ls) none = none.1

below_rest : (n : ℕ) (ls : List Log) → LogsBelow n ls → LogsBelow n (all_but_first ls)
below_rest n [] all = tt
below_rest n (l ∷ ls) all = all.1

-- so where the first committed log goes, which has no records left
pub ids_purged : (store : Store) (l : Log) (ls : List Log) → HasIds store → store.committed ≡ l ∷ ls → l.records ≡ [] → HasIds (log_purged store)
ids_purged store l ls ids first none = ids_logs store (log_purged store) ids refl refl (λ d. refl) (λ d. log_changes_kept d store l ls first none)
    (none_rest 0 store.committed (none_parts 0 store.active store.committed ids.some).1) (below_rest store.next_trx store.committed (below_parts store.next_trx store.active store.committed ids.logs).1)
