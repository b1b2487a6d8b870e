-- How owned pages move where rows, records and LOBs do.
use Rattle.std.proofs.Common.{◌≡◌, ◌⊎◌, inl, inr, ℕ, ◌+◌, ◌<◌, ◌≤◌, Bool, true, false, ◌==◌, cond, if◌then◌else◌, List, [], ◌∷◌, ◌++◌, Some, None, is_some, unwrap_or, refl, sym, ap, ◌∙◌, arith}
use Rattle.std.proofs.lemmas.Bool.{ne_eqb, eq-eqb}
use Rattle.std.proofs.lemmas.Bool.Decides.{eqb_tells}
use Rattle.std.specs.Ordering.{nat_cmp}
use Rattle.std.specs.declared.cmp.Ordering.TheVariants.{Less, Equal, Greater}
use Rattle.std.specs.Cmp.{unsigned_tied}
use Rattle.std.specs.FinMap.Entries.{find, put, by_order}
use Rattle.page_model.specs.Pages.{Address}
use Rattle.store_data.specs.Logs.{with_record}
use Rattle.store_data.specs.Store.{Row, Record, Log, AllAbove, AreRising}
use Rattle.store_model.specs.History.{absent_row}
use Rattle.store_model.specs.Steps.{on_log, log_of}
use Rattle.store_model.specs.Owned.{owned_if, row_lobs, owned_by, record_lobs, log_lobs, log_pages}
use Rattle.store_model.proofs.CountLemmas.{sum_of, sum-append, cmp_tells}

-- ---- rows

-- the first page of the LOB that a row owns, if it owns one
abbrev pub owned_row : Row → List ℕ
owned_row r = owned_if r.state r.lob.page

above_lower : (a b : ℕ) (rs : List (ℕ × Row)) → a ≤ b → AllAbove b rs → AllAbove a rs
above_lower a b [] low all = tt
above_lower a b (r ∷ rs) low all = (omega (arith, all.0), above_lower a b rs low all.1)

pub find_above : (d : ℕ) (rs : List (ℕ × Row)) → AllAbove d rs → find nat_cmp d rs ≡ None
find_above d [] all = refl
find_above d (r ∷ rs) all = ap (λ b. cond b (Some r.1) (find nat_cmp d rs)) (unsigned_tied d r.0 ∙ ne_eqb d r.0 (λ e. absurd (none (omega (arith, e, all.0))))) ∙ find_above d rs all.1
  where
    none : 1 ≤ 0 → ⊥
    none h = absurd (omega arith)

-- where a document's row is put, the sum over LOBs that rows own loses what its old one owned, and
-- gains what the new one owns
pub put_sum : (w : ℕ → ℕ) (d : ℕ) (row : Row) (rs : List (ℕ × Row)) → AreRising rs
    → sum_of w (row_lobs (put nat_cmp d row rs)) + sum_of w (owned_row (unwrap_or (find nat_cmp d rs) absent_row)) ≡ sum_of w (row_lobs rs) + sum_of w (owned_row row)
put_sum w d row [] all = let a = sum-append w (owned_row row) [] in omega (arith, a)
put_sum w d row (r ∷ rs) all = by_cmp (cmp_tells d r.0) (put_sum w d row rs all.1)
  where
    a : sum_of w (owned_row r.1 ++ row_lobs rs) ≡ sum_of w (owned_row r.1) + sum_of w (row_lobs rs)
    a = sum-append w (owned_row r.1) (row_lobs rs)

    by_cmp : ((nat_cmp d r.0 ≡ Less) × (d < r.0)) ⊎ (((nat_cmp d r.0 ≡ Equal) × (d ≡ r.0)) ⊎ ((nat_cmp d r.0 ≡ Greater) × (r.0 < d)))
        → sum_of w (row_lobs (put nat_cmp d row rs)) + sum_of w (owned_row (unwrap_or (find nat_cmp d rs) absent_row)) ≡ sum_of w (row_lobs rs) + sum_of w (owned_row row)
        → sum_of w (row_lobs (put nat_cmp d row (r ∷ rs))) + sum_of w (owned_row (unwrap_or (find nat_cmp d (r ∷ rs)) absent_row)) ≡ sum_of w (row_lobs (r ∷ rs)) + sum_of w (owned_row row)
    by_cmp (inl low) rest =
        let gone : find nat_cmp d (r ∷ rs) ≡ None = find_above d (r ∷ rs) (low.1, above_lower d r.0 rs (omega (arith, low.1)) all.0) in
        let b = sum-append w (owned_row row) (row_lobs (r ∷ rs)) in
        let c : sum_of w (row_lobs (put nat_cmp d row (r ∷ rs))) ≡ sum_of w (owned_row row ++ row_lobs (r ∷ rs)) = ap (λ o. sum_of w (row_lobs (by_order o ((d, row) ∷ r ∷ rs) ((r.0, row) ∷ rs) (r ∷ put nat_cmp d row rs)))) low.0 in
        let z : sum_of w (owned_row (unwrap_or (find nat_cmp d (r ∷ rs)) absent_row)) ≡ 0 = ap (λ o. sum_of w (owned_row (unwrap_or o absent_row))) gone in omega (arith, b, c, z)
    by_cmp (inr (inl same)) rest =
        let here : find nat_cmp d (r ∷ rs) ≡ Some r.1 = ap (λ b. cond b (Some r.1) (find nat_cmp d rs)) (unsigned_tied d r.0 ∙ eq-eqb d r.0 same.1) in
        let b = sum-append w (owned_row row) (row_lobs rs) in
        let c : sum_of w (row_lobs (put nat_cmp d row (r ∷ rs))) ≡ sum_of w (owned_row row ++ row_lobs rs) = ap (λ o. sum_of w (row_lobs (by_order o ((d, row) ∷ r ∷ rs) ((r.0, row) ∷ rs) (r ∷ put nat_cmp d row rs)))) same.0 in
        let z : sum_of w (owned_row (unwrap_or (find nat_cmp d (r ∷ rs)) absent_row)) ≡ sum_of w (owned_row r.1) = ap (λ o. sum_of w (owned_row (unwrap_or o absent_row))) here in omega (arith, a, b, c, z)
    by_cmp (inr (inr high)) rest =
        let later : find nat_cmp d (r ∷ rs) ≡ find nat_cmp d rs = ap (λ b. cond b (Some r.1) (find nat_cmp d rs)) (unsigned_tied d r.0 ∙ ne_eqb d r.0 (λ e. absurd (none (omega (arith, e, high.1))))) in
        let b = sum-append w (owned_row r.1) (row_lobs (put nat_cmp d row rs)) in
        let c : sum_of w (row_lobs (put nat_cmp d row (r ∷ rs))) ≡ sum_of w (owned_row r.1 ++ row_lobs (put nat_cmp d row rs)) = ap (λ o. sum_of w (row_lobs (by_order o ((d, row) ∷ r ∷ rs) ((r.0, row) ∷ rs) (r ∷ put nat_cmp d row rs)))) high.0 in
        let z : sum_of w (owned_row (unwrap_or (find nat_cmp d (r ∷ rs)) absent_row)) ≡ sum_of w (owned_row (unwrap_or (find nat_cmp d rs) absent_row)) = ap (λ o. sum_of w (owned_row (unwrap_or o absent_row))) later in omega (arith, a, b, c, z, rest)
      where
        none : 1 ≤ 0 → ⊥
        none h = absurd (omega arith)

-- ---- records

-- a record appended adds the LOB that it owns, if any, to the sum over those that logs own
pub with_record_sum : (w : ℕ → ℕ) (trx : ℕ) (place : Address) (u : Record) (ls : List Log) → is_some (log_of ls trx) ≡ true
    → sum_of w (log_lobs (on_log trx (with_record place u) ls)) ≡ sum_of w (log_lobs ls) + sum_of w (owned_by u.body u.before)
with_record_sum w trx place u [] there = absurd (cc there)
with_record_sum w trx place u (l ∷ ls) there = elim (eqb_tells l.trx trx) [
  | inl same ↦ ap (λ (b : Bool). sum_of w (log_lobs (if b then with_record place u l ∷ ls else l ∷ on_log trx (with_record place u) ls))) same.0
      ∙ (let a = sum-append w (owned_by u.body u.before ++ record_lobs l.records) (log_lobs ls) in let b = sum-append w (owned_by u.body u.before) (record_lobs l.records) in let c = sum-append w (record_lobs l.records) (log_lobs ls) in omega (arith, a, b, c))
  | inr other ↦ ap (λ (b : Bool). sum_of w (log_lobs (if b then with_record place u l ∷ ls else l ∷ on_log trx (with_record place u) ls))) other.0
      ∙ (let r = with_record_sum w trx place u ls (sym (ap (λ (b : Bool). is_some (if b then Some l else log_of ls trx)) other.0) ∙ there) in
      let a = sum-append w (record_lobs l.records) (log_lobs (on_log trx (with_record place u) ls)) in let c = sum-append w (record_lobs l.records) (log_lobs ls) in omega (arith, a, c, r))
]

-- a record appended to a log leaves the logs' lists of pages
pub with_record_pages : (trx : ℕ) (place : Address) (u : Record) (ls : List Log) → log_pages (on_log trx (with_record place u) ls) ≡ log_pages ls
with_record_pages trx place u [] = refl
with_record_pages trx place u (l ∷ ls) = by_test (l.trx == trx) (with_record_pages trx place u ls)
  where
    by_test : (b : Bool) → log_pages (on_log trx (with_record place u) ls) ≡ log_pages ls → log_pages (if b then with_record place u l ∷ ls else l ∷ on_log trx (with_record place u) ls) ≡ l.pages ++ log_pages ls
    by_test true rest = refl
    by_test false rest = ap (λ ps. l.pages ++ ps) rest
