-- Owned pages where purge passes a record, where a transaction commits, and where lists of pages change; rows stay in order.
use Rattle.std.proofs.Common.{◌≡◌, inl, inr, ℕ, suc, ◌+◌, ◌<◌, Bool, true, false, not, ◌==◌, cond, if◌then◌else◌, List, [], ◌∷◌, ◌++◌, Option, Some, None, refl, sym, ap, subst, ◌∙◌, arith}
use Rattle.std.proofs.lemmas.Bool.Decides.{eqb_tells}
use Rattle.std.specs.Ordering.{nat_cmp}
use Rattle.std.specs.FinMap.Entries.{put, where_key, by_order}
use Rattle.page_model.specs.Pages.{Address}
use Rattle.store_data.specs.Logs.{passed}
use Rattle.page_model.specs.Counts.{times}
use Rattle.store_data.specs.Pieces.{all_but_last}
use Rattle.store_data.specs.Store.{Row, deleted, Body, inserted, rebuilt, versioned, patched, removed, Record, Log, committed, Store, AllAbove, AreRising}
use Rattle.store_model.specs.Lobs.{lob_of}
use Rattle.store_model.specs.History.{row_of, row_before, changes}
use Rattle.store_model.specs.Steps.{on_lobs, without_row, without_log, log_of, all_but_first, last_in}
use Rattle.store_model.specs.Events.{log_begun, moved, committed_by}
use Rattle.store_model.specs.Undo.{cleared, on_first, on_oldest, is_newest, swept, record_passed, log_purged}
use Rattle.store_model.specs.Owned.{owned_if, row_lobs, owned_by, record_lobs, log_lobs, owned_lobs, rest_of, log_pages, owned, AreSound}
use Rattle.store_model.specs.Well.{IsChain, IsWell, AreNamedOnce}
use Rattle.store_model.specs.Takes.{freed_pages}
use Rattle.store_model.proofs.LogLemmas.{change, Some_same, None_not_Some, but_last}
use Rattle.store_model.proofs.CountLemmas.{sum_of, sum-append, weight, cmp_tells}
use Rattle.page_model.proofs.CountLemmas.{times-append}
use Rattle.store_model.proofs.TakeLemmas.{owned_row}
use Rattle.store_model.proofs.TakesLemmas.{fixed, owned_total, lobs_total}
use Rattle.store_model.proofs.GivesBack.{out_sum, gives_lob, gives_none}
use Rattle.store_model.proofs.WellBackLemmas.{passed_all, swept_well, swept_rest}
use Rattle.store_model.proofs.PurgeLemmas.{swept_lobs}

-- ---- rows stay in rising order

above_put : (x d : ℕ) (row : Row) (rs : List (ℕ × Row)) → x < d → AllAbove x rs → AllAbove x (put nat_cmp d row rs)
above_put x d row [] low all = (low, tt)
above_put x d row (r ∷ rs) low all = elim (cmp_tells d r.0) [
  | inl less ↦ subst (λ o. AllAbove x (by_order o ((d, row) ∷ r ∷ rs) ((r.0, row) ∷ rs) (r ∷ put nat_cmp d row rs))) (sym less.0) (low, all)
  | inr rest ↦ elim rest [
    | inl same ↦ subst (λ o. AllAbove x (by_order o ((d, row) ∷ r ∷ rs) ((r.0, row) ∷ rs) (r ∷ put nat_cmp d row rs))) (sym same.0) all
    | inr more ↦ subst (λ o. AllAbove x (by_order o ((d, row) ∷ r ∷ rs) ((r.0, row) ∷ rs) (r ∷ put nat_cmp d row rs))) (sym more.0) (all.0, above_put x d row rs low all.1)
  ]
]

above_from : (a b : ℕ) (rs : List (ℕ × Row)) → a < b → AllAbove b rs → AllAbove a rs
above_from a b [] low all = tt
above_from a b (r ∷ rs) low all = (omega (arith, all.0), above_from a b rs low all.1)

-- rows stay in rising order where one is put among them
pub rising_put : (d : ℕ) (row : Row) (rs : List (ℕ × Row)) → AreRising rs → AreRising (put nat_cmp d row rs)
rising_put d row [] all = (tt, tt)
rising_put d row (r ∷ rs) all = elim (cmp_tells d r.0) [
  | inl less ↦ subst (λ o. AreRising (by_order o ((d, row) ∷ r ∷ rs) ((r.0, row) ∷ rs) (r ∷ put nat_cmp d row rs))) (sym less.0) ((less.1, above_from d r.0 rs less.1 all.0), all)
  | inr rest ↦ elim rest [
    | inl same ↦ subst (λ o. AreRising (by_order o ((d, row) ∷ r ∷ rs) ((r.0, row) ∷ rs) (r ∷ put nat_cmp d row rs))) (sym same.0) all
    | inr more ↦ subst (λ o. AreRising (by_order o ((d, row) ∷ r ∷ rs) ((r.0, row) ∷ rs) (r ∷ put nat_cmp d row rs))) (sym more.0) (above_put r.0 d row rs more.1 all.0, rising_put d row rs all.1)
  ]
]

above_out : (x d : ℕ) (rs : List (ℕ × Row)) → AllAbove x rs → AllAbove x (where_key nat_cmp (λ n. not (n == d)) rs)
above_out x d [] all = tt
above_out x d (r ∷ rs) all = by_test (not (r.0 == d)) (above_out x d rs all.1)
  where
    by_test : (b : Bool) → AllAbove x (where_key nat_cmp (λ n. not (n == d)) rs) → AllAbove x (cond b (r ∷ where_key nat_cmp (λ n. not (n == d)) rs) (where_key nat_cmp (λ n. not (n == d)) rs))
    by_test true rest = (all.0, rest)
    by_test false rest = rest

-- rows stay in rising order where one is taken out
pub rising_out : (d : ℕ) (rs : List (ℕ × Row)) → AreRising rs → AreRising (where_key nat_cmp (λ n. not (n == d)) rs)
rising_out d [] all = tt
rising_out d (r ∷ rs) all = by_test (not (r.0 == d)) (above_out r.0 d rs all.0) (rising_out d rs all.1)
  where
    by_test : (b : Bool) → AllAbove r.0 (where_key nat_cmp (λ n. not (n == d)) rs) → AreRising (where_key nat_cmp (λ n. not (n == d)) rs)
        → AreRising (cond b (r ∷ where_key nat_cmp (λ n. not (n == d)) rs) (where_key nat_cmp (λ n. not (n == d)) rs))
    by_test true above rest = (above, rest)
    by_test false above rest = rest

-- ---- a transaction is committed

-- the sum over LOBs that logs own is that without one log, and that log's
pub moved_sum : (w : ℕ → ℕ) (trx : ℕ) (ls : List Log) (l : Log) → log_of ls trx ≡ Some l → sum_of w (log_lobs (without_log trx ls)) + sum_of w (record_lobs l.records) ≡ sum_of w (log_lobs ls)
moved_sum w trx [] l there = absurd (None_not_Some there)
moved_sum w trx (m ∷ ms) l there = elim (eqb_tells m.trx trx) [
  | inl same ↦ ap (λ (b : Bool). sum_of w (log_lobs (if b then ms else m ∷ without_log trx ms)) + sum_of w (record_lobs l.records)) same.0
      ∙ (let e : m ≡ l = Some_same m l (sym (ap (λ (b : Bool). if b then Some m else log_of ms trx) same.0) ∙ there) in
      let a : sum_of w (record_lobs m.records) ≡ sum_of w (record_lobs l.records) = ap (λ (x : Log). sum_of w (record_lobs x.records)) e in
      let b = sum-append w (record_lobs m.records) (log_lobs ms) in omega (arith, a, b))
  | inr other ↦ ap (λ (b : Bool). sum_of w (log_lobs (if b then ms else m ∷ without_log trx ms)) + sum_of w (record_lobs l.records)) other.0
      ∙ (let r = moved_sum w trx ms l (sym (ap (λ (b : Bool). if b then Some m else log_of ms trx) other.0) ∙ there) in
      let a = sum-append w (record_lobs m.records) (log_lobs (without_log trx ms)) in let b = sum-append w (record_lobs m.records) (log_lobs ms) in omega (arith, r, a, b))
]

moved_pages : (n trx : ℕ) (ls : List Log) (l : Log) → log_of ls trx ≡ Some l → times n (log_pages (without_log trx ls)) + times n l.pages ≡ times n (log_pages ls)
moved_pages n trx [] l there = absurd (None_not_Some there)
moved_pages n trx (m ∷ ms) l there = elim (eqb_tells m.trx trx) [
  | inl same ↦ ap (λ (b : Bool). times n (log_pages (if b then ms else m ∷ without_log trx ms)) + times n l.pages) same.0
      ∙ (let a : times n m.pages ≡ times n l.pages = ap (λ (x : Log). times n x.pages) (Some_same m l (sym (ap (λ (b : Bool). if b then Some m else log_of ms trx) same.0) ∙ there)) in
      let b = times-append n m.pages (log_pages ms) in omega (arith, a, b))
  | inr other ↦ ap (λ (b : Bool). times n (log_pages (if b then ms else m ∷ without_log trx ms)) + times n l.pages) other.0
      ∙ (let r = moved_pages n trx ms l (sym (ap (λ (b : Bool). if b then Some m else log_of ms trx) other.0) ∙ there) in
      let a = times-append n m.pages (log_pages (without_log trx ms)) in let b = times-append n m.pages (log_pages ms) in omega (arith, r, a, b))
]

-- with one log more behind them, the sum over LOBs that logs own is more by its own
pub last_lobs : (w : ℕ → ℕ) (ls : List Log) (l : Log) → sum_of w (log_lobs (ls ++ l ∷ [])) ≡ sum_of w (log_lobs ls) + sum_of w (record_lobs l.records)
last_lobs w [] l = let a = sum-append w (record_lobs l.records) [] in omega (arith, a)
last_lobs w (m ∷ ms) l = let r = last_lobs w ms l in let a = sum-append w (record_lobs m.records) (log_lobs (ms ++ l ∷ [])) in let b = sum-append w (record_lobs m.records) (log_lobs ms) in omega (arith, r, a, b)

last_pages : (n : ℕ) (ls : List Log) (l : Log) → times n (log_pages (ls ++ l ∷ [])) ≡ times n (log_pages ls) + times n l.pages
last_pages n [] l = let a = times-append n l.pages [] in omega (arith, a)
last_pages n (m ∷ ms) l = let r = last_pages n ms l in let a = times-append n m.pages (log_pages (ms ++ l ∷ [])) in let b = times-append n m.pages (log_pages ms) in omega (arith, r, a, b)

-- a commit leaves how often each page is owned
pub commit_owns : (trx : ℕ) (store : Store) (n : ℕ) → times n (owned (committed_by trx store)) ≡ times n (owned store)
commit_owns trx store n = by_log (log_of store.active trx) refl
  where
    by_log : (o : Option Log) → log_of store.active trx ≡ o → times n (owned (moved trx o store)) ≡ times n (owned store)
    by_log None there = refl
    by_log (Some l) there =
        let m : Log = record l { state = committed; number = suc store.commits } in
        let after = moved trx (Some l) store in
        let w = weight store.lobs n in
        let a = owned_total n after in
        let b = owned_total n store in
        let c = lobs_total w after in
        let d = lobs_total w store in
        let e = moved_sum w trx store.active l there in
        let g = moved_pages n trx store.active l there in
        let h = last_lobs w store.committed m in
        let i = last_pages n store.committed m in omega (arith, a, b, c, d, e, g, h, i)

-- ---- a log is begun

-- a log begun takes its first page, and no other
pub log_begun_owns : (trx page : ℕ) (store : Store) (n : ℕ) → times n (owned (log_begun trx page store)) ≡ times n (owned store) + times n (page ∷ [])
log_begun_owns trx page store n = let a = owned_total n (log_begun trx page store) in let b = owned_total n store in omega (arith, a, b)

-- ---- purge

swept_rows : (w : ℕ → ℕ) (body : Body) (a : Address) (trx d : ℕ) (store : Store) → AreRising store.rows
    → (is_newest a trx (row_of store d) ≡ true → body ≡ removed → (row_before store d).state ≡ deleted)
    → sum_of w (row_lobs (swept body a trx d store).rows) ≡ sum_of w (row_lobs store.rows)
swept_rows w (inserted page) a trx d store rising dead = refl
swept_rows w (rebuilt page) a trx d store rising dead = refl
swept_rows w (versioned pieces touched) a trx d store rising dead = refl
swept_rows w (patched old) a trx d store rising dead = refl
swept_rows w removed a trx d store rising dead = by_test (is_newest a trx (row_of store d)) refl
  where
    by_test : (b : Bool) → is_newest a trx (row_of store d) ≡ b → sum_of w (row_lobs (if b then without_row d store else store).rows) ≡ sum_of w (row_lobs store.rows)
    by_test false e = refl
    by_test true e =
        let r = out_sum w d store.rows rising in
        let z : sum_of w (owned_row (row_before store d)) ≡ 0 = ap (λ s. sum_of w (owned_if s (row_before store d).lob.page)) (dead e refl) in omega (arith, r, z)

records-append : (w : ℕ → ℕ) (us vs : List (Address × Record)) → sum_of w (record_lobs (us ++ vs)) ≡ sum_of w (record_lobs us) + sum_of w (record_lobs vs)
records-append w [] vs = omega arith
records-append w (u ∷ us) vs = let r = records-append w us vs in let a = sum-append w (owned_by u.1.body u.1.before) (record_lobs (us ++ vs)) in let b = sum-append w (owned_by u.1.body u.1.before) (record_lobs us) in omega (arith, r, a, b)

module _ (a : Address) (u : Record) (store : Store) (l : Log) (ls : List Log) (well : IsWell store) (sound : AreSound store) (rising : AreRising store.rows) (first : store.committed ≡ l ∷ ls) (oldest : last_in l.records ≡ (a, u) ∷ []) where
  pass_chain' : IsChain (row_before store u.doc) (changes (on_oldest passed store) u.doc ++ change l.trx a u ∷ [])
  pass_chain' = subst (IsChain (row_before store u.doc)) (passed_all a u store l ls first oldest) (well.chains u.doc)

  pub pass_sum : (w : ℕ → ℕ) → sum_of w (owned_lobs (record_passed a l.trx u store)) + sum_of w (owned_by u.body u.before) ≡ sum_of w (owned_lobs store)
  pass_sum w =
      let mid = on_lobs (cleared u.body u.before) store in
      let after = record_passed a l.trx u store in
      let r = swept_rest u.body a l.trx u.doc mid in
      let b = lobs_total w after in
      let c = lobs_total w store in
      let d = swept_rows w u.body a l.trx u.doc mid rising (λ newest is_removed. (swept_well a l.trx u.doc u store (changes (on_oldest passed store) u.doc) pass_chain' (subst AreNamedOnce (passed_all a u store l ls first oldest) (well.places u.doc)) newest is_removed).0) in
      let e : sum_of w (log_lobs after.active) ≡ sum_of w (log_lobs store.active) = ap (λ x. sum_of w (log_lobs x)) r.0 in
      let g : sum_of w (log_lobs after.committed) ≡ sum_of w (record_lobs (all_but_last l.records) ++ log_lobs ls) = ap (λ x. sum_of w (log_lobs (on_first passed x))) (r.1 ∙ first) in
      let h = sum-append w (record_lobs (all_but_last l.records)) (log_lobs ls) in
      let i : sum_of w (log_lobs store.committed) ≡ sum_of w (record_lobs l.records ++ log_lobs ls) = ap (λ x. sum_of w (log_lobs x)) first in
      let j = sum-append w (record_lobs l.records) (log_lobs ls) in
      let k = records-append w (all_but_last l.records) (last_in l.records) in
      let m : sum_of w (record_lobs (all_but_last l.records ++ last_in l.records)) ≡ sum_of w (record_lobs l.records) = ap (λ x. sum_of w (record_lobs x)) (but_last l.records) in
      let o : sum_of w (record_lobs (last_in l.records)) ≡ sum_of w (owned_by u.body u.before ++ []) = ap (λ x. sum_of w (record_lobs x)) oldest in
      let q = sum-append w (owned_by u.body u.before) [] in
      omega (arith, b, c, d, e, g, h, i, j, k, m, o, q)

  pass_fixed : (n : ℕ) → fixed n (record_passed a l.trx u store) + 0 ≡ fixed n store
  pass_fixed n =
      let r = swept_rest u.body a l.trx u.doc (on_lobs (cleared u.body u.before) store) in
      let b : times n (log_pages (record_passed a l.trx u store).active) ≡ times n (log_pages store.active) = ap (λ x. times n (log_pages x)) r.0 in
      let c : times n (log_pages (record_passed a l.trx u store).committed) ≡ times n (log_pages (on_first passed store.committed)) = ap (λ x. times n (log_pages (on_first passed x))) r.1 in
      let d : times n (log_pages (on_first passed store.committed)) ≡ times n (log_pages store.committed) = ap (λ x. times n (log_pages (on_first passed x))) first ∙ sym (ap (λ x. times n (log_pages x)) first) in
      let e : times n (0 ∷ (record_passed a l.trx u store).row_pages) ≡ times n (0 ∷ store.row_pages) = ap (λ ps. times n (0 ∷ ps)) (swept_row_pages u.body a l.trx u.doc (on_lobs (cleared u.body u.before) store)) in
      omega (arith, b, c, d, e)
    where
      swept_row_pages : (body : Body) (a : Address) (trx d : ℕ) (store : Store) → (swept body a trx d store).row_pages ≡ store.row_pages
      swept_row_pages (inserted page) a trx d store = refl
      swept_row_pages (rebuilt page) a trx d store = refl
      swept_row_pages (versioned pieces touched) a trx d store = refl
      swept_row_pages (patched old) a trx d store = refl
      swept_row_pages removed a trx d store = by_test (is_newest a trx (row_of store d))
        where
          by_test : (b : Bool) → (if b then without_row d store else store).row_pages ≡ store.row_pages
          by_test true = refl
          by_test false = refl

  pub pass_gives : (n : ℕ) → times n (owned (record_passed a l.trx u store)) + times n (freed_pages u.body u.before store.lobs) ≡ times n (owned store)
  pass_gives n = by_body u.body (swept_lobs u.body a l.trx u.doc (on_lobs (cleared u.body u.before) store)) pass_sum
    where
      after : Store
      after = record_passed a l.trx u store

      by_body : (b : Body) → after.lobs ≡ cleared b u.before store.lobs → ((w : ℕ → ℕ) → sum_of w (owned_lobs after) + sum_of w (owned_by b u.before) ≡ sum_of w (owned_lobs store))
          → times n (owned after) + times n (freed_pages b u.before store.lobs) ≡ times n (owned store)
      by_body (inserted page) lobs sum = gives_none 0 n store after (λ w. let s = sum w in omega (arith, s)) (λ q. ap (λ ms. rest_of (lob_of ms q)) lobs) (pass_fixed n)
      by_body (rebuilt page) lobs sum = let r = gives_lob u.before.lob.page 0 n store after sound (λ w. let s = sum w in omega (arith, s)) lobs (pass_fixed n) in omega (arith, r)
      by_body (versioned pieces touched) lobs sum = gives_none 0 n store after (λ w. let s = sum w in omega (arith, s)) (λ q. ap (λ ms. rest_of (lob_of ms q)) lobs) (pass_fixed n)
      by_body (patched old) lobs sum = gives_none 0 n store after (λ w. let s = sum w in omega (arith, s)) (λ q. ap (λ ms. rest_of (lob_of ms q)) lobs) (pass_fixed n)
      by_body removed lobs sum = let r = gives_lob u.before.lob.page 0 n store after sound (λ w. let s = sum w in omega (arith, s)) lobs (pass_fixed n) in omega (arith, r)

-- a first committed log without records gives back its pages where it goes, and no other
pub purged_gives : (store : Store) (l : Log) (ls : List Log) (n : ℕ) → store.committed ≡ l ∷ ls → l.records ≡ [] → times n (owned (log_purged store)) + times n l.pages ≡ times n (owned store)
purged_gives store l ls n first none =
    let w = weight store.lobs n in
    let a = owned_total n (log_purged store) in
    let b = owned_total n store in
    let c = lobs_total w (log_purged store) in
    let d = lobs_total w store in
    let e : sum_of w (log_lobs (log_purged store).committed) ≡ sum_of w (log_lobs ls) = ap (λ x. sum_of w (log_lobs (all_but_first x))) first in
    let g : times n (log_pages (log_purged store).committed) ≡ times n (log_pages ls) = ap (λ x. times n (log_pages (all_but_first x))) first in
    let h : sum_of w (log_lobs store.committed) ≡ sum_of w (record_lobs l.records ++ log_lobs ls) = ap (λ x. sum_of w (log_lobs x)) first in
    let i : times n (log_pages store.committed) ≡ times n (l.pages ++ log_pages ls) = ap (λ x. times n (log_pages x)) first in
    let j = times-append n l.pages (log_pages ls) in
    let k : sum_of w (record_lobs l.records ++ log_lobs ls) ≡ sum_of w (log_lobs ls) = ap (λ x. sum_of w (record_lobs x ++ log_lobs ls)) none in
    omega (arith, a, b, c, d, e, g, h, i, j, k)
