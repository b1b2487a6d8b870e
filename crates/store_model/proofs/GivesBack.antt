-- Owned pages where a record is undone, and where purge passes one.
use Rattle.std.proofs.Common.{◌≡◌, ◌≢◌, inl, inr, ℕ, ◌+◌, ◌≤◌, Bool, true, false, not, ◌==◌, cond, if◌then◌else◌, List, [], ◌∷◌, ◌++◌, Option, Some, unwrap_or, refl, sym, ap, subst, ◌∙◌, arith}
use Rattle.std.proofs.lemmas.Bool.{cases_eq, ne_eqb, eq-eqb}
use Rattle.std.proofs.lemmas.Bool.Decides.{eqb_tells}
use Rattle.std.specs.Ordering.{nat_cmp}
use Rattle.std.specs.Cmp.{unsigned_tied}
use Rattle.std.specs.FinMap.Entries.{find, where_key}
use Rattle.page_model.specs.Pages.{Address}
use Rattle.page_model.specs.Counts.{one_if, times}
use Rattle.store_data.specs.Store.{RowState, absent, live, deleted, Row, Reference, Lob, Body, inserted, rebuilt, versioned, patched, removed, Record, Log, Store, AllAbove, AreRising}
use Rattle.store_model.specs.Lobs.{lob_of}
use Rattle.store_model.specs.History.{row_before, absent_row}
use Rattle.store_model.specs.Steps.{without_lob, at_version, with_row, without_row, all_but_first, shrunk, without_record}
use Rattle.store_model.specs.Undo.{is_gone, unmade, without_newest, undo_ended}
use Rattle.store_model.specs.Owned.{owned_if, row_lobs, owned_by, record_lobs, log_lobs, owned_lobs, rest_of, log_pages, owned, AreDifferent, AreSound, IsAmong}
use Rattle.store_model.specs.Locked.{first_in, newest_in}
use Rattle.store_model.specs.Moves.{IsNewest}
use Rattle.store_model.specs.Well.{IsKind, IsChain, IsWell}
use Rattle.store_model.specs.Takes.{pages_if_last, gone_pages, made_pages}
use Rattle.store_model.proofs.LogLemmas.{Some_same, None_not_Some}
use Rattle.store_model.proofs.LobLemmas.{lob-without_other}
use Rattle.store_model.proofs.CountLemmas.{sum_of, sum-append, sum_same, weight, different_once}
use Rattle.page_model.proofs.CountLemmas.{times-append}
use Rattle.store_model.proofs.TakeLemmas.{owned_row, put_sum}
use Rattle.store_model.proofs.TakesLemmas.{fixed, owned_total, lobs_total, owned_live, owned_unlive, rest_on, rest_laid, different_lobs}
use Rattle.store_model.proofs.SoundLemmas.{sound_lobs}
use Rattle.store_model.proofs.UndoLemmas.{changes-popped}

-- ---- a row goes

keep_above : (d : ℕ) (rs : List (ℕ × Row)) → AllAbove d rs → where_key nat_cmp (λ n. not (n == d)) rs ≡ rs
keep_above d [] all = refl
keep_above d (r ∷ rs) all = ap (λ (b : Bool). cond (not b) (r ∷ where_key nat_cmp (λ n. not (n == d)) rs) (where_key nat_cmp (λ n. not (n == d)) rs)) (ne_eqb r.0 d (λ e. absurd (none (omega (arith, e, all.0)))))
    ∙ ap (λ x. r ∷ x) (keep_above d rs all.1)
  where
    none : 1 ≤ 0 → ⊥
    none h = absurd (omega arith)

-- where a document's row goes, the sum over LOBs that rows own is less by what it owned
pub out_sum : (w : ℕ → ℕ) (d : ℕ) (rs : List (ℕ × Row)) → AreRising rs
    → sum_of w (row_lobs (where_key nat_cmp (λ n. not (n == d)) rs)) + sum_of w (owned_row (unwrap_or (find nat_cmp d rs) absent_row)) ≡ sum_of w (row_lobs rs)
out_sum w d [] all = refl
out_sum w d (r ∷ rs) all = elim (cases_eq r.0 d) [
  | inl same ↦
      let a = sum-append w (owned_row r.1) (row_lobs rs) in
      let b : find nat_cmp d (r ∷ rs) ≡ Some r.1 = ap (λ b. cond b (Some r.1) (find nat_cmp d rs)) (unsigned_tied d r.0 ∙ eq-eqb d r.0 (sym same)) in
      let c : where_key nat_cmp (λ n. not (n == d)) (r ∷ rs) ≡ rs = ap (λ (b : Bool). cond (not b) (r ∷ where_key nat_cmp (λ n. not (n == d)) rs) (where_key nat_cmp (λ n. not (n == d)) rs)) (eq-eqb r.0 d same) ∙ keep_above d rs (subst (λ x. AllAbove x rs) same all.0) in
      let e : sum_of w (owned_row (unwrap_or (find nat_cmp d (r ∷ rs)) absent_row)) ≡ sum_of w (owned_row r.1) = ap (λ o. sum_of w (owned_row (unwrap_or o absent_row))) b in
      let g : sum_of w (row_lobs (where_key nat_cmp (λ n. not (n == d)) (r ∷ rs))) ≡ sum_of w (row_lobs rs) = ap (λ x. sum_of w (row_lobs x)) c in omega (arith, a, e, g)
  | inr other ↦
      let rest = out_sum w d rs all.1 in
      let a = sum-append w (owned_row r.1) (row_lobs rs) in
      let h = sum-append w (owned_row r.1) (row_lobs (where_key nat_cmp (λ n. not (n == d)) rs)) in
      let b : find nat_cmp d (r ∷ rs) ≡ find nat_cmp d rs = ap (λ b. cond b (Some r.1) (find nat_cmp d rs)) (unsigned_tied d r.0 ∙ ne_eqb d r.0 (λ e. other (sym e))) in
      let c : where_key nat_cmp (λ n. not (n == d)) (r ∷ rs) ≡ r ∷ where_key nat_cmp (λ n. not (n == d)) rs = ap (λ (b : Bool). cond (not b) (r ∷ where_key nat_cmp (λ n. not (n == d)) rs) (where_key nat_cmp (λ n. not (n == d)) rs)) (ne_eqb r.0 d other) in
      let e : sum_of w (owned_row (unwrap_or (find nat_cmp d (r ∷ rs)) absent_row)) ≡ sum_of w (owned_row (unwrap_or (find nat_cmp d rs) absent_row)) = ap (λ o. sum_of w (owned_row (unwrap_or o absent_row))) b in
      let g : sum_of w (row_lobs (where_key nat_cmp (λ n. not (n == d)) (r ∷ rs))) ≡ sum_of w (owned_row r.1 ++ row_lobs (where_key nat_cmp (λ n. not (n == d)) rs)) = ap (λ x. sum_of w (row_lobs x)) c in omega (arith, a, e, g, h, rest)
]

-- ---- a record is popped

shrunk_sum : (w : ℕ → ℕ) (l : Log) (us : List (Address × Record)) (ls : List Log) → sum_of w (log_lobs (shrunk l us ls)) ≡ sum_of w (record_lobs us) + sum_of w (log_lobs ls)
shrunk_sum w l [] ls = omega arith
shrunk_sum w l (u ∷ us) ls = sum-append w (record_lobs (u ∷ us)) (log_lobs ls)

pub popped_sum : (w : ℕ → ℕ) (trx : ℕ) (e : Address × Record) (ls : List Log) → newest_in trx ls ≡ Some e
    → sum_of w (log_lobs (without_record trx ls)) + sum_of w (owned_by e.1.body e.1.before) ≡ sum_of w (log_lobs ls)
popped_sum w trx e [] there = absurd (None_not_Some there)
popped_sum w trx e (l ∷ ls) there = elim (eqb_tells l.trx trx) [
  | inl same ↦ ap (λ (b : Bool). sum_of w (log_lobs (if b then shrunk l (all_but_first l.records) ls else l ∷ without_record trx ls)) + sum_of w (owned_by e.1.body e.1.before)) same.0
      ∙ by_records l.records refl (sym (ap (λ (b : Bool). if b then first_in l.records else newest_in trx ls) same.0) ∙ there)
  | inr other ↦ ap (λ (b : Bool). sum_of w (log_lobs (if b then shrunk l (all_but_first l.records) ls else l ∷ without_record trx ls)) + sum_of w (owned_by e.1.body e.1.before)) other.0
      ∙ (let r = popped_sum w trx e ls (sym (ap (λ (b : Bool). if b then first_in l.records else newest_in trx ls) other.0) ∙ there) in
      let a = sum-append w (record_lobs l.records) (log_lobs (without_record trx ls)) in let b = sum-append w (record_lobs l.records) (log_lobs ls) in omega (arith, r, a, b))
]
  where
    by_records : (us : List (Address × Record)) → l.records ≡ us → first_in l.records ≡ Some e
        → sum_of w (log_lobs (shrunk l (all_but_first l.records) ls)) + sum_of w (owned_by e.1.body e.1.before) ≡ sum_of w (record_lobs l.records ++ log_lobs ls)
    by_records [] q h = absurd (None_not_Some (sym (ap first_in q) ∙ h))
    by_records (v ∷ us) q h =
        let same : v ≡ e = Some_same v e (sym (ap first_in q) ∙ h) in
        let a : sum_of w (log_lobs (shrunk l (all_but_first l.records) ls)) ≡ sum_of w (log_lobs (shrunk l us ls)) = ap (λ x. sum_of w (log_lobs (shrunk l (all_but_first x) ls))) q in
        let b = shrunk_sum w l us ls in
        let c = sum-append w (record_lobs l.records) (log_lobs ls) in
        let d : sum_of w (record_lobs l.records) ≡ sum_of w (owned_by v.1.body v.1.before ++ record_lobs us) = ap (λ x. sum_of w (record_lobs x)) q in
        let g = sum-append w (owned_by v.1.body v.1.before) (record_lobs us) in
        let i : sum_of w (owned_by v.1.body v.1.before) ≡ sum_of w (owned_by e.1.body e.1.before) = ap (λ x. sum_of w (owned_by x.1.body x.1.before)) same in omega (arith, a, b, c, d, g, i)

-- ---- what an undone record leaves owned

module _ (trx : ℕ) (place : Address) (u : Record) (store : Store) (rising : AreRising store.rows) (new : IsNewest trx place u store) where
  pub undo_sum : (w : ℕ → ℕ) → sum_of w (owned_lobs (undo_ended trx u store)) + (sum_of w (owned_row (row_before store u.doc)) + sum_of w (owned_by u.body u.before)) ≡ sum_of w (owned_lobs store) + sum_of w (owned_row u.before)
  undo_sum w = by_test (is_gone mid u.before.state u.before) refl
    where
      mid : Store
      mid = without_newest trx u store

      b : sum_of w (owned_lobs store) ≡ sum_of w (row_lobs store.rows) + (sum_of w (log_lobs store.active) + sum_of w (log_lobs store.committed))
      b = lobs_total w store

      c : sum_of w (log_lobs (without_record trx store.active)) + sum_of w (owned_by u.body u.before) ≡ sum_of w (log_lobs store.active)
      c = popped_sum w trx (place, u) store.active new.newest

      dead : (s : RowState) → is_gone mid s u.before ≡ true → owned_if s u.before.lob.page ≡ []
      dead absent e = refl
      dead live e = absurd (cc e)
      dead deleted e = refl

      by_test : (t : Bool) → is_gone mid u.before.state u.before ≡ t
          → sum_of w (owned_lobs (if t then without_row u.doc mid else with_row u.doc u.before mid)) + (sum_of w (owned_row (row_before store u.doc)) + sum_of w (owned_by u.body u.before)) ≡ sum_of w (owned_lobs store) + sum_of w (owned_row u.before)
      by_test false e = let a = lobs_total w (with_row u.doc u.before mid) in let d = put_sum w u.doc u.before store.rows rising in omega (arith, a, b, c, d)
      by_test true e = let a = lobs_total w (without_row u.doc mid) in let d = out_sum w u.doc store.rows rising in
          let z : sum_of w (owned_row u.before) ≡ 0 = ap (sum_of w) (dead u.before.state e) in omega (arith, a, b, c, d, z)

-- ---- one LOB less, or none

-- one for each time that a page is in a list sums up to how often it is there
pub ind_times : (n : ℕ) (ps : List ℕ) → sum_of (λ q. one_if (q == n)) ps ≡ times n ps
ind_times n [] = refl
ind_times n (p ∷ ps) = ap (λ (m : ℕ). one_if (p == n) + m) (ind_times n ps)

freed_once : (page : ℕ) (qs ps : List ℕ) → ((w : ℕ → ℕ) → sum_of w qs + w page ≡ sum_of w ps) → AreDifferent ps → (q : ℕ) → IsAmong q qs → q ≢ page
freed_once page qs ps less all q there same =
    let a = less (λ m. one_if (m == page)) in
    let b = ind_times page qs in
    let c = ind_times page ps in
    let d = different_once page ps all in
    let e : one_if (page == page) ≡ 1 = ap one_if (eq-eqb page page refl) in
    let g = among_times q qs there in
    let h : times q qs ≡ times page qs = ap (λ m. times m qs) same in
    absurd (none (omega (arith, a, b, c, d, e, g, h)))
  where
    none : 1 ≤ 0 → ⊥
    none h = absurd (omega arith)

    among_times : (n : ℕ) (ms : List ℕ) → IsAmong n ms → 1 ≤ times n ms
    among_times n [] there = absurd there
    among_times n (m ∷ ms) there = elim there [
      | inl e ↦ let x : one_if (m == n) ≡ 1 = ap one_if (eq-eqb m n e) in omega (arith, x)
      | inr rest ↦ let x = among_times n ms rest in omega (arith, x)
    ]

-- a store that loses one owned LOB, and owns a page x times less apart from LOBs, owns it less by
-- these x times and by the times that it is among the LOB's pages
pub gives_lob : (page x n : ℕ) (store after : Store) → AreSound store → ((w : ℕ → ℕ) → sum_of w (owned_lobs after) + w page ≡ sum_of w (owned_lobs store)) → after.lobs ≡ without_lob page store.lobs
    → fixed n after + x ≡ fixed n store → times n (owned after) + (x + times n (page ∷ rest_of (lob_of store.lobs page))) ≡ times n (owned store)
gives_lob page x n store after sound less lobs kept =
    let a = owned_total n after in
    let b = owned_total n store in
    let c : sum_of (weight after.lobs n) (owned_lobs after) ≡ sum_of (weight store.lobs n) (owned_lobs after) = sum_same (weight after.lobs n) (weight store.lobs n) (owned_lobs after)
    (λ q there. ap (λ (ms : List Lob). times n (q ∷ rest_of (lob_of ms q))) lobs ∙ ap (λ (o : Option Lob). times n (q ∷ rest_of o)) (lob-without_other q page store.lobs (freed_once page (owned_lobs after) (owned_lobs store) less (different_lobs store.lobs (owned_lobs store) (sound_lobs store sound)) q there))) in
    let d = less (weight store.lobs n) in omega (arith, a, b, c, d, kept)

-- where owned LOBs and their pages stay, a page is owned less only by what it is apart from LOBs
pub gives_none : (x n : ℕ) (store after : Store) → ((w : ℕ → ℕ) → sum_of w (owned_lobs after) ≡ sum_of w (owned_lobs store)) → ((q : ℕ) → rest_of (lob_of after.lobs q) ≡ rest_of (lob_of store.lobs q))
    → fixed n after + x ≡ fixed n store → times n (owned after) + x ≡ times n (owned store)
gives_none x n store after same rest kept =
    let a = owned_total n after in
    let b = owned_total n store in
    let c : sum_of (weight after.lobs n) (owned_lobs after) ≡ sum_of (weight store.lobs n) (owned_lobs after) = sum_same (weight after.lobs n) (weight store.lobs n) (owned_lobs after) (λ q there. ap (λ ps. times n (q ∷ ps)) (rest q)) in
    let d = same (weight store.lobs n) in omega (arith, a, b, c, d, kept)

-- ---- a record is undone

popped_pages : (n trx : ℕ) (e : Address × Record) (ls : List Log) → newest_in trx ls ≡ Some e → times n (log_pages (without_record trx ls)) + times n (gone_pages trx ls) ≡ times n (log_pages ls)
popped_pages n trx e [] there = absurd (None_not_Some there)
popped_pages n trx e (l ∷ ls) there = elim (eqb_tells l.trx trx) [
  | inl same ↦ ap (λ (b : Bool). times n (log_pages (if b then shrunk l (all_but_first l.records) ls else l ∷ without_record trx ls)) + times n (if b then pages_if_last l.records l.pages else gone_pages trx ls)) same.0
      ∙ by_records l.records refl (sym (ap (λ (b : Bool). if b then first_in l.records else newest_in trx ls) same.0) ∙ there)
  | inr other ↦ ap (λ (b : Bool). times n (log_pages (if b then shrunk l (all_but_first l.records) ls else l ∷ without_record trx ls)) + times n (if b then pages_if_last l.records l.pages else gone_pages trx ls)) other.0
      ∙ (let r = popped_pages n trx e ls (sym (ap (λ (b : Bool). if b then first_in l.records else newest_in trx ls) other.0) ∙ there) in
      let a = times-append n l.pages (log_pages (without_record trx ls)) in let b = times-append n l.pages (log_pages ls) in omega (arith, r, a, b))
]
  where
    by_records : (us : List (Address × Record)) → l.records ≡ us → first_in us ≡ Some e → times n (log_pages (shrunk l (all_but_first l.records) ls)) + times n (pages_if_last l.records l.pages) ≡ times n (l.pages ++ log_pages ls)
    by_records [] q h = absurd (None_not_Some h)
    by_records (v ∷ []) q h = ap (λ us. times n (log_pages (shrunk l (all_but_first us) ls)) + times n (pages_if_last us l.pages)) q ∙ (let a = times-append n l.pages (log_pages ls) in omega (arith, a))
    by_records (v ∷ w ∷ us) q h = ap (λ us. times n (log_pages (shrunk l (all_but_first us) ls)) + times n (pages_if_last us l.pages)) q ∙ omega arith

module _ (trx : ℕ) (place : Address) (u : Record) (store : Store) (rising : AreRising store.rows) (new : IsNewest trx place u store) (well : IsWell store) (sound : AreSound store) where
  after_undo : (g : Store → ℕ) → ((t : Bool) → g (if t then without_row u.doc (without_newest trx u store) else with_row u.doc u.before (without_newest trx u store)) ≡ g (without_newest trx u store)) → g (undo_ended trx u store) ≡ g (without_newest trx u store)
  after_undo g same = same (is_gone (without_newest trx u store) u.before.state u.before)

  undo_fixed : (n : ℕ) → fixed n (undo_ended trx u store) + times n (gone_pages trx store.active) ≡ fixed n store
  undo_fixed n =
      let a : fixed n (undo_ended trx u store) ≡ fixed n (without_newest trx u store) = after_undo (fixed n) (λ t. elim t as (λ b. fixed n (if b then without_row u.doc (without_newest trx u store) else with_row u.doc u.before (without_newest trx u store)) ≡ fixed n (without_newest trx u store)) [ true ↦ refl | false ↦ refl ]) in
      let b = popped_pages n trx (place, u) store.active new.newest in omega (arith, a, b)

  pub undo_lobs : (undo_ended trx u store).lobs ≡ unmade u.body u.before store.lobs
  undo_lobs = by_test (is_gone (without_newest trx u store) u.before.state u.before)
    where
      by_test : (t : Bool) → (if t then without_row u.doc (without_newest trx u store) else with_row u.doc u.before (without_newest trx u store)).lobs ≡ unmade u.body u.before store.lobs
      by_test true = refl
      by_test false = refl

  pub undo_kind : IsKind u.body (row_before store u.doc) u.before
  undo_kind = (subst (IsChain (row_before store u.doc)) (changes-popped trx place u store new) (well.chains u.doc)).0.kind

  pub undo_gives : (n : ℕ) → times n (owned (undo_ended trx u store)) + (times n (gone_pages trx store.active) + times n (made_pages u.body store.lobs)) ≡ times n (owned store)
  undo_gives n = by_kind u.body undo_kind undo_lobs (undo_sum trx place u store rising new)
    where
      row : Row
      row = row_before store u.doc

      after : Store
      after = undo_ended trx u store

      by_kind : (b : Body) → IsKind b row u.before → after.lobs ≡ unmade b u.before store.lobs
          → ((w : ℕ → ℕ) → sum_of w (owned_lobs after) + (sum_of w (owned_row row) + sum_of w (owned_by b u.before)) ≡ sum_of w (owned_lobs store) + sum_of w (owned_row u.before))
          → times n (owned after) + (times n (gone_pages trx store.active) + times n (made_pages b store.lobs)) ≡ times n (owned store)
      by_kind (inserted page) kind lobs sum = gives_lob page (times n (gone_pages trx store.active)) n store after sound
          (λ w. let s = sum w in let a : sum_of w (owned_row row) ≡ sum_of w (page ∷ []) = ap (sum_of w) (owned_live row kind.0 ∙ ap (λ q. q ∷ []) kind.1) in let b : sum_of w (owned_row u.before) ≡ 0 = ap (sum_of w) (owned_unlive u.before kind.2) in omega (arith, s, a, b))
          lobs (undo_fixed n)
      by_kind (rebuilt page) kind lobs sum = gives_lob page (times n (gone_pages trx store.active)) n store after sound
          (λ w. let s = sum w in let a : sum_of w (owned_row row) ≡ sum_of w (page ∷ []) = ap (sum_of w) (owned_live row kind.0 ∙ ap (λ q. q ∷ []) kind.1) in let b : sum_of w (owned_row u.before) ≡ sum_of w (u.before.lob.page ∷ []) = ap (sum_of w) (owned_live u.before kind.2) in omega (arith, s, a, b))
          lobs (undo_fixed n)
      by_kind (versioned pieces touched) kind lobs sum =
          let r = gives_none (times n (gone_pages trx store.active)) n store after
          (λ w. let s = sum w in let a : sum_of w (owned_row row) ≡ sum_of w (u.before.lob.page ∷ []) = ap (sum_of w) (owned_live row kind.0 ∙ ap (λ (q : Reference). q.page ∷ []) kind.2) in let b : sum_of w (owned_row u.before) ≡ sum_of w (u.before.lob.page ∷ []) = ap (sum_of w) (owned_live u.before kind.1) in omega (arith, s, a, b))
          (λ q. ap (λ ms. rest_of (lob_of ms q)) lobs ∙ rest_on u.before.lob.page (at_version u.before.lob.version) store.lobs q (λ l. refl) (λ l. refl)) (undo_fixed n) in omega (arith, r)
      by_kind (patched old) kind lobs sum =
          let r = gives_none (times n (gone_pages trx store.active)) n store after
          (λ w. let s = sum w in let a : sum_of w (owned_row row) ≡ sum_of w (u.before.lob.page ∷ []) = ap (sum_of w) (owned_live row kind.0 ∙ ap (λ (q : Reference). q.page ∷ []) kind.2) in let b : sum_of w (owned_row u.before) ≡ sum_of w (u.before.lob.page ∷ []) = ap (sum_of w) (owned_live u.before kind.1) in omega (arith, s, a, b))
          (λ q. ap (λ ms. rest_of (lob_of ms q)) lobs ∙ rest_laid old store.lobs q) (undo_fixed n) in omega (arith, r)
      by_kind removed kind lobs sum =
          let r = gives_none (times n (gone_pages trx store.active)) n store after
          (λ w. let s = sum w in let a : sum_of w (owned_row row) ≡ 0 = ap (λ st. sum_of w (owned_if st row.lob.page)) kind.0 in let b : sum_of w (owned_row u.before) ≡ sum_of w (u.before.lob.page ∷ []) = ap (sum_of w) (owned_live u.before kind.1) in omega (arith, s, a, b))
          (λ q. ap (λ ms. rest_of (lob_of ms q)) lobs) (undo_fixed n) in omega (arith, r)
