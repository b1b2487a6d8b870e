-- The LOBs of a store are those that it owns, event by event.
use Rattle.std.proofs.Common.{◌≡◌, ◌≢◌, inl, inr, ℕ, suc, ◌+◌, ◌≤◌, Bool, true, false, ◌==◌, if◌then◌else◌, List, [], ◌∷◌, ◌++◌, Option, Some, None, is_some, refl, sym, ap, ◌∙◌, arith}
use Rattle.std.proofs.lemmas.Bool.{eq-eqb}
use Rattle.std.proofs.lemmas.Bool.Decides.{eqb_tells}
use Rattle.page_model.specs.Pages.{Address}
use Rattle.page_model.specs.Counts.{one_if, times}
use Rattle.store_data.specs.Store.{Row, live, Reference, Lob, Run, Body, inserted, rebuilt, versioned, patched, removed, Record, Log, committed, Store, AreRising}
use Rattle.store_model.specs.Lobs.{lob_of}
use Rattle.store_model.specs.Runs.{lobs_laid}
use Rattle.store_model.specs.History.{row_before}
use Rattle.store_model.specs.Steps.{on_lob, on_lobs, without_lob, at_version, log_of, all_but_first, last_in}
use Rattle.store_model.specs.Events.{Plan, log_begun, planned, record_of, new_row, raised_row, patched_row, deleted_row, insert_begun, rebuild_begun, version_begun, patch_made, delete_made, moved, committed_by}
use Rattle.store_model.specs.Undo.{unmade, undo_ended, cleared, on_first, on_oldest, record_passed, log_purged}
use Rattle.store_model.specs.Owned.{owned_if, row_lobs, owned_by, record_lobs, log_lobs, owned_lobs, IsNotAmong, IsAmong, AreSound}
use Rattle.store_model.specs.Moves.{MayChange, IsNewest}
use Rattle.store_model.specs.Well.{IsKind, IsWell}
use Rattle.store_model.specs.Held.{first_pages, HasLobs}
use Rattle.store_model.proofs.CountLemmas.{sum_of, times_none}
use Rattle.store_model.proofs.TakeLemmas.{owned_row, put_sum, with_record_sum}
use Rattle.store_model.proofs.TakesLemmas.{lobs_total, owned_live, owned_unlive}
use Rattle.store_model.proofs.GivesBack.{ind_times, undo_sum, undo_kind, undo_lobs}
use Rattle.store_model.proofs.PassGives.{moved_sum, last_lobs, pass_sum}
use Rattle.store_model.proofs.PurgeLemmas.{swept_lobs}

abbrev ind : ℕ → ℕ → ℕ
ind n q = one_if (q == n)

-- ---- LOBs by their first pages

pages_on : (page : ℕ) (f : Lob → Lob) (lobs : List Lob) → ((l : Lob) → (f l).page ≡ l.page) → first_pages (on_lob page f lobs) ≡ first_pages lobs
pages_on page f [] same = refl
pages_on page f (l ∷ ls) same = by_test (l.page == page) (pages_on page f ls same)
  where
    by_test : (b : Bool) → first_pages (on_lob page f ls) ≡ first_pages ls → first_pages (if b then f l ∷ ls else l ∷ on_lob page f ls) ≡ l.page ∷ first_pages ls
    by_test true rest = ap (λ (n : ℕ). n ∷ first_pages ls) (same l)
    by_test false rest = ap (λ ps. l.page ∷ ps) rest

pages_laid : (rs : List Run) (lobs : List Lob) → first_pages (lobs_laid rs lobs) ≡ first_pages lobs
pages_laid rs [] = refl
pages_laid rs (l ∷ ls) = ap (λ ps. l.page ∷ ps) (pages_laid rs ls)

pages_with : (n : ℕ) (lobs : List Lob) (l : Lob) → times n (first_pages (lobs ++ l ∷ [])) ≡ times n (first_pages lobs) + ind n l.page
pages_with n [] l = omega arith
pages_with n (m ∷ ms) l = let r = pages_with n ms l in omega (arith, r)

pages_without : (n page : ℕ) (lobs : List Lob) → 1 ≤ times page (first_pages lobs) → times n (first_pages (without_lob page lobs)) + ind n page ≡ times n (first_pages lobs)
pages_without n page [] there = absurd (omega (arith, there))
pages_without n page (l ∷ ls) there = elim (eqb_tells l.page page) [
  | inl same ↦ ap (λ (b : Bool). times n (first_pages (if b then ls else l ∷ without_lob page ls)) + ind n page) same.0
      ∙ (let e : ind n page ≡ ind n l.page = ap (ind n) (sym same.1) in omega (arith, e))
  | inr other ↦ ap (λ (b : Bool). times n (first_pages (if b then ls else l ∷ without_lob page ls)) + ind n page) other.0
      ∙ (let z : one_if (l.page == page) ≡ 0 = ap one_if other.0 in let r = pages_without n page ls (omega (arith, there, z)) in omega (arith, r))
]

none_there : (lobs : List Lob) (page : ℕ) → times page (first_pages lobs) ≡ 0 → lob_of lobs page ≡ None
none_there [] page none = refl
none_there (l ∷ ls) page none = elim (eqb_tells l.page page) [
  | inl same ↦ absurd (some_not (let e : one_if (l.page == page) ≡ 1 = ap one_if same.0 in omega (arith, e, none)))
  | inr other ↦ rw other.0 (none_there ls page (let z : one_if (l.page == page) ≡ 0 = ap one_if other.0 in omega (arith, z, none)))
]
  where
    some_not : 1 ≤ 0 → ⊥
    some_not h = absurd (omega arith)

some_there : (lobs : List Lob) (page : ℕ) → 1 ≤ times page (first_pages lobs) → is_some (lob_of lobs page) ≡ true
some_there [] page there = absurd (omega (arith, there))
some_there (l ∷ ls) page there = elim (eqb_tells l.page page) [
  | inl same ↦ rw same.0 refl
  | inr other ↦ rw other.0 (some_there ls page (let z : one_if (l.page == page) ≡ 0 = ap one_if other.0 in omega (arith, z, there)))
]

-- a LOB begins at no page that isn't owned, and one at each that is
pub unowned_none : (page : ℕ) (store : Store) → HasLobs store → IsNotAmong page (owned_lobs store) → lob_of store.lobs page ≡ None
unowned_none page store held none = none_there store.lobs page (sym (held page) ∙ times_none page (owned_lobs store) none)

among_times : (n : ℕ) (ms : List ℕ) → IsAmong n ms → 1 ≤ times n ms
among_times n [] there = absurd there
among_times n (m ∷ ms) there = elim there [
  | inl e ↦ let x : one_if (m == n) ≡ 1 = ap one_if (eq-eqb m n e) in omega (arith, x)
  | inr rest ↦ let x = among_times n ms rest in omega (arith, x)
]

-- where a store's LOBs are those that it owns, one is found at each owned first page
pub owned_there : (page : ℕ) (store : Store) → HasLobs store → IsAmong page (owned_lobs store) → is_some (lob_of store.lobs page) ≡ true
owned_there page store held there = some_there store.lobs page (let a = held page in let b = among_times page (owned_lobs store) there in omega (arith, a, b))

-- ---- a change is begun

planned_lobs : (n : ℕ) (p : Plan) (new : Row → Row) (body : Body) (f : List Lob → List Lob) (store : Store) → AreRising store.rows → MayChange p store
    → times n (owned_lobs (on_lobs f (planned p new body store))) + sum_of (ind n) (owned_row (row_before store p.doc))
    ≡ times n (owned_lobs store) + (sum_of (ind n) (owned_row (new (row_before store p.doc))) + sum_of (ind n) (owned_by body (row_before store p.doc)))
planned_lobs n p new body f store rising may =
    let after = on_lobs f (planned p new body store) in
    let a = ind_times n (owned_lobs after) in
    let b = ind_times n (owned_lobs store) in
    let c = lobs_total (ind n) after in
    let d = lobs_total (ind n) store in
    let g = put_sum (ind n) p.doc (new (row_before store p.doc)) store.rows rising in
    let h = with_record_sum (ind n) p.trx p.place (record_of p (row_before store p.doc) body) store.active may.log in
    omega (arith, a, b, c, d, g, h)

-- a store's LOBs stay those that it owns where an insert is begun for a row that isn't live
pub insert_lobs : (p : Plan) (lob : Lob) (len : ℕ) (store : Store) → AreRising store.rows → MayChange p store → (row_before store p.doc).state ≢ live → HasLobs store → HasLobs (insert_begun p lob len store)
insert_lobs p lob len store rising may before held n =
    let a = planned_lobs n p (new_row p lob.page len) (inserted lob.page) (λ ls. ls ++ lob ∷ []) store rising may in
    let b : sum_of (ind n) (owned_row (row_before store p.doc)) ≡ 0 = ap (sum_of (ind n)) (owned_unlive (row_before store p.doc) before) in
    let c = pages_with n store.lobs lob in let d = held n in omega (arith, a, b, c, d)

-- so where a change of kind Full is begun for a live row
pub rebuild_lobs : (p : Plan) (lob : Lob) (len : ℕ) (store : Store) → AreRising store.rows → MayChange p store → (row_before store p.doc).state ≡ live → HasLobs store → HasLobs (rebuild_begun p lob len store)
rebuild_lobs p lob len store rising may before held n =
    let a = planned_lobs n p (new_row p lob.page len) (rebuilt lob.page) (λ ls. ls ++ lob ∷ []) store rising may in
    let b : sum_of (ind n) (owned_row (row_before store p.doc)) ≡ sum_of (ind n) ((row_before store p.doc).lob.page ∷ []) = ap (sum_of (ind n)) (owned_live (row_before store p.doc) before) in
    let c = pages_with n store.lobs lob in let d = held n in omega (arith, a, b, c, d)

-- so where a change of kind Versioned is begun for a live row
pub version_lobs : (p : Plan) (pieces : ℕ) (touched : List ℕ) (store : Store) → AreRising store.rows → MayChange p store → (row_before store p.doc).state ≡ live → HasLobs store → HasLobs (version_begun p pieces touched store)
version_lobs p pieces touched store rising may before held n =
    let f : List Lob → List Lob = on_lob (row_before store p.doc).lob.page (at_version (suc (row_before store p.doc).lob.version)) in
    let a = planned_lobs n p (raised_row p) (versioned pieces touched) f store rising may in
    let b : sum_of (ind n) (owned_row (row_before store p.doc)) ≡ sum_of (ind n) ((row_before store p.doc).lob.page ∷ []) = ap (sum_of (ind n)) (owned_live (row_before store p.doc) before) in
    let e : sum_of (ind n) (owned_row (raised_row p (row_before store p.doc))) ≡ sum_of (ind n) ((row_before store p.doc).lob.page ∷ []) = ap (sum_of (ind n)) (owned_live (raised_row p (row_before store p.doc)) before) in
    let c : times n (first_pages (f store.lobs)) ≡ times n (first_pages store.lobs) = ap (times n) (pages_on (row_before store p.doc).lob.page (at_version (suc (row_before store p.doc).lob.version)) store.lobs (λ l. refl)) in
    let d = held n in omega (arith, a, b, c, d, e)

-- so where a live row's LOB is changed in place
pub patch_lobs : (p : Plan) (old new : List Run) (store : Store) → AreRising store.rows → MayChange p store → (row_before store p.doc).state ≡ live → HasLobs store → HasLobs (patch_made p old new store)
patch_lobs p old new store rising may before held n =
    let a = planned_lobs n p (patched_row p) (patched old) (lobs_laid new) store rising may in
    let b : sum_of (ind n) (owned_row (row_before store p.doc)) ≡ sum_of (ind n) ((row_before store p.doc).lob.page ∷ []) = ap (sum_of (ind n)) (owned_live (row_before store p.doc) before) in
    let e : sum_of (ind n) (owned_row (patched_row p (row_before store p.doc))) ≡ sum_of (ind n) ((row_before store p.doc).lob.page ∷ []) = ap (sum_of (ind n)) (owned_live (patched_row p (row_before store p.doc)) before) in
    let c : times n (first_pages (lobs_laid new store.lobs)) ≡ times n (first_pages store.lobs) = ap (times n) (pages_laid new store.lobs) in
    let d = held n in omega (arith, a, b, c, d, e)

-- so where a live row is deleted
pub delete_lobs : (p : Plan) (store : Store) → AreRising store.rows → MayChange p store → (row_before store p.doc).state ≡ live → HasLobs store → HasLobs (delete_made p store)
delete_lobs p store rising may before held n =
    let a = planned_lobs n p (deleted_row p) removed (λ ls. ls) store rising may in
    let b : sum_of (ind n) (owned_row (row_before store p.doc)) ≡ sum_of (ind n) ((row_before store p.doc).lob.page ∷ []) = ap (sum_of (ind n)) (owned_live (row_before store p.doc) before) in
    let d = held n in omega (arith, a, b, d)

-- ---- LOBs change in place, logs begin and commit

-- a store's LOBs stay those that it owns where one changes and keeps its first page
pub lob_lobs : (page : ℕ) (f : Lob → Lob) (store : Store) → ((l : Lob) → (f l).page ≡ l.page) → HasLobs store → HasLobs (on_lobs (on_lob page f) store)
lob_lobs page f store same held n = held n ∙ sym (ap (times n) (pages_on page f store.lobs same))

-- so where a log is begun
pub begun_lobs : (trx page : ℕ) (store : Store) → HasLobs store → HasLobs (log_begun trx page store)
begun_lobs trx page store held n = held n

-- so where a transaction is committed
pub commit_lobs : (trx : ℕ) (store : Store) → HasLobs store → HasLobs (committed_by trx store)
commit_lobs trx store held = by_log (log_of store.active trx) refl
  where
    by_log : (o : Option Log) → log_of store.active trx ≡ o → HasLobs (moved trx o store)
    by_log None there = held
    by_log (Some l) there = λ n.
        let m : Log = record l { state = committed; number = suc store.commits } in
        let after = moved trx (Some l) store in
        let a = ind_times n (owned_lobs after) in
        let b = ind_times n (owned_lobs store) in
        let c = lobs_total (ind n) after in
        let d = lobs_total (ind n) store in
        let e = moved_sum (ind n) trx store.active l there in
        let h = last_lobs (ind n) store.committed m in
        let k = held n in omega (arith, a, b, c, d, e, h, k)

-- ---- a record is undone, or passed

-- a store's LOBs stay those that it owns where a transaction's newest record is undone
pub undo_keeps_lobs : (trx : ℕ) (place : Address) (u : Record) (store : Store) → AreRising store.rows → IsNewest trx place u store → IsWell store → AreSound store → HasLobs store → HasLobs (undo_ended trx u store)
undo_keeps_lobs trx place u store rising new well sound held n = by_kind u.body (undo_kind trx place u store rising new well sound) (undo_lobs trx place u store rising new well sound) (undo_sum trx place u store rising new)
  where
    row : Row
    row = row_before store u.doc

    after : Store
    after = undo_ended trx u store

    less : (page : ℕ) → ((w : ℕ → ℕ) → sum_of w (owned_lobs after) + w page ≡ sum_of w (owned_lobs store)) → after.lobs ≡ without_lob page store.lobs → times n (owned_lobs after) ≡ times n (first_pages after.lobs)
    less page sum lobs =
        let a = sum (ind n) in let b = ind_times n (owned_lobs after) in let c = ind_times n (owned_lobs store) in let d = held n in
        let p = sum (ind page) in let q = ind_times page (owned_lobs store) in let r = held page in let s : ind page page ≡ 1 = ap one_if (eq-eqb page page refl) in
        let e = pages_without n page store.lobs (omega (arith, p, q, r, s)) in
        let g : times n (first_pages after.lobs) ≡ times n (first_pages (without_lob page store.lobs)) = ap (λ x. times n (first_pages x)) lobs in omega (arith, a, b, c, d, e, g)

    same : ((w : ℕ → ℕ) → sum_of w (owned_lobs after) ≡ sum_of w (owned_lobs store)) → first_pages after.lobs ≡ first_pages store.lobs → times n (owned_lobs after) ≡ times n (first_pages after.lobs)
    same sum pages = let a = sum (ind n) in let b = ind_times n (owned_lobs after) in let c = ind_times n (owned_lobs store) in let d = held n in let e : times n (first_pages after.lobs) ≡ times n (first_pages store.lobs) = ap (times n) pages in omega (arith, a, b, c, d, e)

    by_kind : (b : Body) → IsKind b row u.before → after.lobs ≡ unmade b u.before store.lobs
        → ((w : ℕ → ℕ) → sum_of w (owned_lobs after) + (sum_of w (owned_row row) + sum_of w (owned_by b u.before)) ≡ sum_of w (owned_lobs store) + sum_of w (owned_row u.before))
        → times n (owned_lobs after) ≡ times n (first_pages after.lobs)
    by_kind (inserted page) kind lobs sum = less page
        (λ w. let s = sum w in let a : sum_of w (owned_row row) ≡ sum_of w (page ∷ []) = ap (sum_of w) (owned_live row kind.0 ∙ ap (λ q. q ∷ []) kind.1) in let b : sum_of w (owned_row u.before) ≡ 0 = ap (sum_of w) (owned_unlive u.before kind.2) in omega (arith, s, a, b)) lobs
    by_kind (rebuilt page) kind lobs sum = less page
        (λ w. let s = sum w in let a : sum_of w (owned_row row) ≡ sum_of w (page ∷ []) = ap (sum_of w) (owned_live row kind.0 ∙ ap (λ q. q ∷ []) kind.1) in let b : sum_of w (owned_row u.before) ≡ sum_of w (u.before.lob.page ∷ []) = ap (sum_of w) (owned_live u.before kind.2) in omega (arith, s, a, b)) lobs
    by_kind (versioned pieces touched) kind lobs sum = same
        (λ w. let s = sum w in let a : sum_of w (owned_row row) ≡ sum_of w (u.before.lob.page ∷ []) = ap (sum_of w) (owned_live row kind.0 ∙ ap (λ (q : Reference). q.page ∷ []) kind.2) in let b : sum_of w (owned_row u.before) ≡ sum_of w (u.before.lob.page ∷ []) = ap (sum_of w) (owned_live u.before kind.1) in omega (arith, s, a, b))
        (ap first_pages lobs ∙ pages_on u.before.lob.page (at_version u.before.lob.version) store.lobs (λ l. refl))
    by_kind (patched old) kind lobs sum = same
        (λ w. let s = sum w in let a : sum_of w (owned_row row) ≡ sum_of w (u.before.lob.page ∷ []) = ap (sum_of w) (owned_live row kind.0 ∙ ap (λ (q : Reference). q.page ∷ []) kind.2) in let b : sum_of w (owned_row u.before) ≡ sum_of w (u.before.lob.page ∷ []) = ap (sum_of w) (owned_live u.before kind.1) in omega (arith, s, a, b))
        (ap first_pages lobs ∙ pages_laid old store.lobs)
    by_kind removed kind lobs sum = same
        (λ w. let s = sum w in let a : sum_of w (owned_row row) ≡ 0 = ap (λ st. sum_of w (owned_if st row.lob.page)) kind.0 in let b : sum_of w (owned_row u.before) ≡ sum_of w (u.before.lob.page ∷ []) = ap (sum_of w) (owned_live u.before kind.1) in omega (arith, s, a, b))
        (ap first_pages lobs)

-- so where purge passes the oldest record of the first committed log
pub pass_keeps_lobs : (a : Address) (u : Record) (store : Store) (l : Log) (ls : List Log) → IsWell store → AreSound store → AreRising store.rows → store.committed ≡ l ∷ ls → last_in l.records ≡ (a, u) ∷ []
    → HasLobs store → HasLobs (record_passed a l.trx u store)
pass_keeps_lobs a u store l ls well sound rising first oldest held n = by_body u.body (swept_lobs u.body a l.trx u.doc (on_lobs (cleared u.body u.before) store)) (pass_sum a u store l ls well sound rising first oldest)
  where
    after : Store
    after = record_passed a l.trx u store

    less : (page : ℕ) → ((w : ℕ → ℕ) → sum_of w (owned_lobs after) + (w page + 0) ≡ sum_of w (owned_lobs store)) → after.lobs ≡ without_lob page store.lobs → times n (owned_lobs after) ≡ times n (first_pages after.lobs)
    less page sum lobs =
        let a = sum (ind n) in let b = ind_times n (owned_lobs after) in let c = ind_times n (owned_lobs store) in let d = held n in
        let p = sum (ind page) in let q = ind_times page (owned_lobs store) in let r = held page in let s : ind page page ≡ 1 = ap one_if (eq-eqb page page refl) in
        let e = pages_without n page store.lobs (omega (arith, p, q, r, s)) in
        let g : times n (first_pages after.lobs) ≡ times n (first_pages (without_lob page store.lobs)) = ap (λ x. times n (first_pages x)) lobs in omega (arith, a, b, c, d, e, g)

    same : ((w : ℕ → ℕ) → sum_of w (owned_lobs after) + 0 ≡ sum_of w (owned_lobs store)) → after.lobs ≡ store.lobs → times n (owned_lobs after) ≡ times n (first_pages after.lobs)
    same sum lobs = let a = sum (ind n) in let b = ind_times n (owned_lobs after) in let c = ind_times n (owned_lobs store) in let d = held n in let e : times n (first_pages after.lobs) ≡ times n (first_pages store.lobs) = ap (λ x. times n (first_pages x)) lobs in omega (arith, a, b, c, d, e)

    by_body : (b : Body) → after.lobs ≡ cleared b u.before store.lobs → ((w : ℕ → ℕ) → sum_of w (owned_lobs after) + sum_of w (owned_by b u.before) ≡ sum_of w (owned_lobs store)) → times n (owned_lobs after) ≡ times n (first_pages after.lobs)
    by_body (inserted page) lobs sum = same sum lobs
    by_body (rebuilt page) lobs sum = less u.before.lob.page sum lobs
    by_body (versioned pieces touched) lobs sum = same sum lobs
    by_body (patched old) lobs sum = same sum lobs
    by_body removed lobs sum = less u.before.lob.page sum lobs

-- a store's LOBs stay those that it owns where the first committed log keeps its records
pub first_lobs : (f : Log → Log) (store : Store) → ((l : Log) → (f l).records ≡ l.records) → HasLobs store → HasLobs (on_oldest f store)
first_lobs f store same held n = ap (λ ps. times n (row_lobs store.rows ++ (log_lobs store.active ++ ps))) (records_first store.committed) ∙ held n
  where
    records_first : (ls : List Log) → log_lobs (on_first f ls) ≡ log_lobs ls
    records_first [] = refl
    records_first (l ∷ ls) = ap (λ us. record_lobs us ++ log_lobs ls) (same l)

-- so where the first committed log goes, which has no records left
pub purged_lobs : (store : Store) (l : Log) (ls : List Log) → store.committed ≡ l ∷ ls → l.records ≡ [] → HasLobs store → HasLobs (log_purged store)
purged_lobs store l ls first none held n =
    ap (λ (ms : List Log). times n (row_lobs store.rows ++ (log_lobs store.active ++ log_lobs (all_but_first ms)))) first
    ∙ ap (λ us. times n (row_lobs store.rows ++ (log_lobs store.active ++ (record_lobs us ++ log_lobs ls)))) (sym none)
    ∙ ap (λ (ms : List Log). times n (row_lobs store.rows ++ (log_lobs store.active ++ log_lobs ms))) (sym first)
    ∙ held n
