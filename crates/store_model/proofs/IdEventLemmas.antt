-- Transaction ids under the events of a change, a rollback, a commit and purge.
use Rattle.std.proofs.Common.{◌≡◌, ◌≢◌, inl, inr, ℕ, ◌<◌, Bool, true, false, ◌==◌, if◌then◌else◌, List, [], ◌∷◌, ◌++◌, Option, Some, None, is_some, refl, sym, ap, subst, ◌∙◌, arith}
use Rattle.std.proofs.lemmas.Bool.{cases_eq}
use Rattle.std.proofs.lemmas.Bool.Decides.{eqb_tells}
use Rattle.page_model.specs.Pages.{Address}
use Rattle.store_data.specs.Logs.{with_record}
use Rattle.store_data.specs.Store.{Row, Lob, Body, Record, Log, Store}
use Rattle.store_model.specs.History.{Change, changes, row_before, absent_row}
use Rattle.store_model.specs.Steps.{on_lobs, on_log, without_log, log_of, all_but_first, shrunk, without_record, with_row, without_row}
use Rattle.store_model.specs.Events.{Plan, planned, record_of, moved, committed_by}
use Rattle.store_model.specs.Undo.{is_gone, without_newest, undo_ended}
use Rattle.store_model.specs.Moves.{MayChange, IsNewest}
use Rattle.store_model.specs.Well.{AllIn, NoLog, IsWell}
use Rattle.store_model.specs.Ids.{base_of, LogsBelow, HasIds}
use Rattle.store_model.proofs.RowLemmas.{row-with_this, row-with_other, row-without_this, row-without_other}
use Rattle.store_model.proofs.LogLemmas.{change, Some_same, None_not_Some}
use Rattle.store_model.proofs.ChangeLemmas.{changes-own, changes-other}
use Rattle.store_model.proofs.CommitLemmas.{moved-keeps}
use Rattle.store_model.proofs.UndoLemmas.{changes-popped, changes-popped_other}
use Rattle.store_model.proofs.DistinctLemmas.{none_parts, none_join, none_on, none_without, none_popped}
use Rattle.store_model.proofs.GivesLemmas.{gone_last}

-- ---- one document's rows change

-- transaction ids stay in order where one document's rows and changes alone move: its rows' ids are
-- below the next, its oldest row is of no active log, none of which is new, and logs keep the order
pub ids_by : (store after : Store) (q : ℕ) (row : Row) (cs : List Change) → HasIds store → after.next_trx ≡ store.next_trx
    → row_before after q ≡ row → changes after q ≡ cs
    → ((d : ℕ) → d ≢ q → (row_before after d ≡ row_before store d) × (changes after d ≡ changes store d))
    → AllIn (λ r. r.trx < store.next_trx) row cs → NoLog (base_of row cs).trx after.active
    → ((x : ℕ) → NoLog x store.active → NoLog x after.active)
    → NoLog 0 (after.active ++ after.committed) → LogsBelow store.next_trx (after.active ++ after.committed) → HasIds after
ids_by store after q row cs ids next own_row own_changes kept all base fewer some logs = record {
  some = some;
  logs = subst (λ n. LogsBelow n (after.active ++ after.committed)) (sym next) logs;
  rows = λ d. subst (λ n. AllIn (λ r. r.trx < n) (row_before after d) (changes after d)) (sym next) (elim (cases_eq d q) [
    | inl same ↦ subst (λ x. AllIn (λ r. r.trx < store.next_trx) (row_before after x) (changes after x)) (sym same)
        (subst (λ r. AllIn (λ r. r.trx < store.next_trx) r (changes after q)) (sym own_row) (subst (AllIn (λ r. r.trx < store.next_trx) row) (sym own_changes) all))
    | inr other ↦ subst (λ r. AllIn (λ r. r.trx < store.next_trx) r (changes after d)) (sym (kept d other).0) (subst (AllIn (λ r. r.trx < store.next_trx) (row_before store d)) (sym (kept d other).1) (ids.rows d))
  ]);
  bases = λ d. elim (cases_eq d q) [
    | inl same ↦ subst (λ x. NoLog (base_of (row_before after x) (changes after x)).trx after.active) (sym same)
        (subst (λ r. NoLog (base_of r (changes after q)).trx after.active) (sym own_row) (subst (λ x. NoLog (base_of row x).trx after.active) (sym own_changes) base))
    | inr other ↦ subst (λ r. NoLog (base_of r (changes after d)).trx after.active) (sym (kept d other).0)
        (subst (λ x. NoLog (base_of (row_before store d) x).trx after.active) (sym (kept d other).1) (fewer (base_of (row_before store d) (changes store d)).trx (ids.bases d)))
  ];
}

-- where all logs of a joined list are below an id, those of both parts are
pub below_parts : (n : ℕ) (ls ms : List Log) → LogsBelow n (ls ++ ms) → LogsBelow n ls × LogsBelow n ms
below_parts n [] ms all = (tt, all)
below_parts n (l ∷ ls) ms all = let r = below_parts n ls ms all.1 in ((all.0, r.0), r.1)

-- where the logs of both parts are below an id, all of the joined list are
pub below_join : (n : ℕ) (ls ms : List Log) → LogsBelow n ls → LogsBelow n ms → LogsBelow n (ls ++ ms)
below_join n [] ms a b = b
below_join n (l ∷ ls) ms a b = (a.0, below_join n ls ms a.1 b)

-- logs stay below an id where one of them changes and keeps its transaction
pub below_on : (n trx : ℕ) (f : Log → Log) (ls : List Log) → ((l : Log) → (f l).trx ≡ l.trx) → LogsBelow n ls → LogsBelow n (on_log trx f ls)
below_on n trx f [] same all = tt
below_on n trx f (l ∷ ls) same all = by_test (l.trx == trx) (below_on n trx f ls same all.1)
  where
    by_test : (b : Bool) → LogsBelow n (on_log trx f ls) → LogsBelow n (if b then f l ∷ ls else l ∷ on_log trx f ls)
    by_test true rest = (omega (arith, same l, all.0), all.1)
    by_test false rest = (all.0, rest)

below_there : (n trx : ℕ) (ls : List Log) → is_some (log_of ls trx) ≡ true → LogsBelow n ls → trx < n
below_there n trx [] there all = absurd (cc there)
below_there n trx (l ∷ ls) there all = elim (eqb_tells l.trx trx) [
  | inl same ↦ omega (arith, same.1, all.0)
  | inr other ↦ below_there n trx ls (sym (ap (λ (b : Bool). is_some (if b then Some l else log_of ls trx)) other.0) ∙ there) all.1
]

below_popped : (n trx : ℕ) (ls : List Log) → LogsBelow n ls → LogsBelow n (without_record trx ls)
below_popped n trx [] all = tt
below_popped n trx (l ∷ ls) all = by_test (l.trx == trx) (below_popped n trx ls all.1)
  where
    by_records : (us : List (Address × Record)) → LogsBelow n (shrunk l us ls)
    by_records [] = all.1
    by_records (u ∷ us) = all

    by_test : (b : Bool) → LogsBelow n (without_record trx ls) → LogsBelow n (if b then shrunk l (all_but_first l.records) ls else l ∷ without_record trx ls)
    by_test true rest = by_records (all_but_first l.records)
    by_test false rest = (all.0, rest)

-- ---- a change is begun

-- transaction ids stay in order where a change is begun whose new row is of its transaction
pub ids_begins : (p : Plan) (new : Row → Row) (body : Body) (f : List Lob → List Lob) (store : Store) → HasIds store → MayChange p store → (new (row_before store p.doc)).trx ≡ p.trx
    → HasIds (on_lobs f (planned p new body store))
ids_begins p new body f store ids may made =
    ids_by store (on_lobs f (planned p new body store)) p.doc (new before) (change p.trx p.place (record_of p before body) ∷ changes store p.doc) ids refl
    (row-with_this p.doc (new before) store) (changes-own p (new before) before body f store may)
    (λ d other. (row-with_other p.doc d (new before) store other, changes-other p (new before) before body f store d other))
    (omega (arith, made, below_there store.next_trx p.trx store.active may.log (below_parts store.next_trx store.active store.committed ids.logs).0), ids.rows p.doc)
    (none_on p.trx _ (with_record p.place (record_of p before body)) store.active (λ l. refl) (ids.bases p.doc))
    (λ x none. none_on p.trx x (with_record p.place (record_of p before body)) store.active (λ l. refl) none)
    (let r = none_parts 0 store.active store.committed ids.some in none_join 0 _ store.committed (none_on p.trx 0 (with_record p.place (record_of p before body)) store.active (λ l. refl) r.0) r.1)
    (let r = below_parts store.next_trx store.active store.committed ids.logs in below_join store.next_trx _ store.committed (below_on store.next_trx p.trx (with_record p.place (record_of p before body)) store.active (λ l. refl) r.0) r.1)
  where
    before : Row
    before = row_before store p.doc

-- so where nothing but LOBs changes
pub ids_lobs : (f : List Lob → List Lob) (store : Store) → HasIds store → HasIds (on_lobs f store)
ids_lobs f store ids = record { some = ids.some; logs = ids.logs; rows = ids.rows; bases = ids.bases }

-- ---- a record is undone

-- so where a transaction's newest record is undone
pub ids_undone : (trx : ℕ) (place : Address) (u : Record) (store : Store) → IsWell store → HasIds store → IsNewest trx place u store → HasIds (undo_ended trx u store)
ids_undone trx place u store well ids new = by_test (is_gone mid u.before.state u.before) refl
  where
    mid : Store
    mid = without_newest trx u store

    cs : List Change
    cs = changes mid u.doc

    all : changes store u.doc ≡ change trx place u ∷ cs
    all = changes-popped trx place u store new

    rows : AllIn (λ r. r.trx < store.next_trx) (row_before store u.doc) (change trx place u ∷ cs)
    rows = subst (AllIn (λ r. r.trx < store.next_trx) (row_before store u.doc)) all (ids.rows u.doc)

    base : NoLog (base_of u.before cs).trx store.active
    base = subst (λ x. NoLog (base_of (row_before store u.doc) x).trx store.active) all (ids.bases u.doc)

    fewer : (x : ℕ) → NoLog x store.active → NoLog x (without_record trx store.active)
    fewer x none = none_popped trx x store.active none

    some : NoLog 0 (without_record trx store.active ++ store.committed)
    some = let r = none_parts 0 store.active store.committed ids.some in none_join 0 (without_record trx store.active) store.committed (fewer 0 r.0) r.1

    logs : LogsBelow store.next_trx (without_record trx store.active ++ store.committed)
    logs = let r = below_parts store.next_trx store.active store.committed ids.logs in below_join store.next_trx (without_record trx store.active) store.committed (below_popped store.next_trx trx store.active r.0) r.1

    by_test : (b : Bool) → is_gone mid u.before.state u.before ≡ b → HasIds (if b then without_row u.doc mid else with_row u.doc u.before mid)
    by_test false stays = ids_by store (with_row u.doc u.before mid) u.doc u.before cs ids refl (row-with_this u.doc u.before mid) refl
        (λ d other. (row-with_other u.doc d u.before mid other, changes-popped_other trx place u store d new other)) rows.1 (fewer (base_of u.before cs).trx base) fewer some logs
    by_test true gone = ids_by store (without_row u.doc mid) u.doc absent_row [] ids refl (row-without_this u.doc mid) (gone_last trx place u store well new gone)
        (λ d other. (row-without_other u.doc d mid other, changes-popped_other trx place u store d new other)) (omega (arith, rows.0), tt)
        (fewer 0 (none_parts 0 store.active store.committed ids.some).0) fewer some logs

-- ---- a transaction is committed

below_without : (n trx : ℕ) (ls : List Log) → LogsBelow n ls → LogsBelow n (without_log trx ls)
below_without n trx [] all = tt
below_without n trx (l ∷ ls) all = by_test (l.trx == trx) (below_without n trx ls all.1)
  where
    by_test : (b : Bool) → LogsBelow n (without_log trx ls) → LogsBelow n (if b then ls else l ∷ without_log trx ls)
    by_test true rest = all.1
    by_test false rest = (all.0, rest)

found_below : (n trx : ℕ) (ls : List Log) (l : Log) → log_of ls trx ≡ Some l → LogsBelow n ls → l.trx < n
found_below n trx [] l there all = absurd (None_not_Some there)
found_below n trx (m ∷ ms) l there all = elim (eqb_tells m.trx trx) [
  | inl same ↦ subst (λ (x : Log). x.trx < n) (Some_same m l (sym (ap (λ (b : Bool). if b then Some m else log_of ms trx) same.0) ∙ there)) all.0
  | inr other ↦ found_below n trx ms l (sym (ap (λ (b : Bool). if b then Some m else log_of ms trx) other.0) ∙ there) all.1
]

found_none : (x trx : ℕ) (ls : List Log) (l : Log) → log_of ls trx ≡ Some l → NoLog x ls → l.trx ≢ x
found_none x trx [] l there none = absurd (None_not_Some there)
found_none x trx (m ∷ ms) l there none = elim (eqb_tells m.trx trx) [
  | inl same ↦ subst (λ (y : Log). y.trx ≢ x) (Some_same m l (sym (ap (λ (b : Bool). if b then Some m else log_of ms trx) same.0) ∙ there)) none.0
  | inr other ↦ found_none x trx ms l (sym (ap (λ (b : Bool). if b then Some m else log_of ms trx) other.0) ∙ there) none.1
]

-- so where a transaction is committed
pub ids_commit : (trx : ℕ) (store : Store) → IsWell store → HasIds store → HasIds (committed_by trx store)
ids_commit trx store well ids = by_log (log_of store.active trx) refl
  where
    by_log : (o : Option Log) → log_of store.active trx ≡ o → HasIds (moved trx o store)
    by_log None there = ids
    by_log (Some l) there = let r = none_parts 0 store.active store.committed ids.some in let b = below_parts store.next_trx store.active store.committed ids.logs in record {
      some = none_join 0 (without_log trx store.active) _ (none_without trx 0 store.active r.0) (none_join 0 store.committed _ r.1 (found_none 0 trx store.active l there r.0, tt));
      logs = below_join store.next_trx (without_log trx store.active) _ (below_without store.next_trx trx store.active b.0) (below_join store.next_trx store.committed _ b.1 (found_below store.next_trx trx store.active l there b.0, tt));
      rows = λ d. subst (AllIn (λ r. r.trx < store.next_trx) (row_before store d)) (sym (moved-keeps trx d store (Some l) there (well.locked d))) (ids.rows d);
      bases = λ d. subst (λ x. NoLog (base_of (row_before store d) x).trx (without_log trx store.active)) (sym (moved-keeps trx d store (Some l) there (well.locked d))) (none_without trx _ store.active (ids.bases d));
    }
