-- The first touched piece behind one.
use Rattle.std.proofs.Common.{◌≡◌, inl, inr, ℕ, zero, suc, ◌+◌, ◌-◌, ◌/◌, ◌%◌, ◌<◌, ◌≤◌, ◌==◌, Bool, true, false, cond, if◌then◌else◌, List, ◌∷◌, Some, None, slice_index, refl, sym, ap, ◌∙◌, arith}
use Rattle.std.proofs.lemmas.Bool.{lt-ltb, le-ltb, cases_lt}
use Rattle.std.specs.Int.{bit_at}
use Rattle.store_parts.specs.Shows.{touched_from}
use Rattle.store_steps.specs.Touched.{next_touched}

abbrev pub is_set : List ℕ → ℕ → Bool
is_set bits k = bit_at (slice_index bits (k / 8)) (k % 8) == 1

-- behind n, all are
above : (n m k : ℕ) (bits : List ℕ) → n < k
    → next_touched (Some n) (touched_from k m bits) ≡ next_touched None (touched_from k m bits)
above n zero k bits high = refl
above n (suc m) k bits high = by (is_set bits k) (above n m (suc k) bits (omega (arith, high)))
  where
    by : (b : Bool) → next_touched (Some n) (touched_from (suc k) m bits)
        ≡ next_touched None (touched_from (suc k) m bits)
        → next_touched (Some n) (cond b (k ∷ touched_from (suc k) m bits) (touched_from (suc k) m bits))
        ≡ next_touched None (cond b (k ∷ touched_from (suc k) m bits) (touched_from (suc k) m bits))
    by true rest = ap (λ (b : Bool). if b then Some k
        else next_touched (Some n) (touched_from (suc k) m bits)) (lt-ltb n k high)
    by false rest = rest

-- one up to n isn't
passed : (n m k : ℕ) (bits : List ℕ) → k ≤ n
    → next_touched (Some n) (touched_from k (suc m) bits)
    ≡ next_touched (Some n) (touched_from (suc k) m bits)
passed n m k bits low = by (is_set bits k)
  where
    by : (b : Bool)
        → next_touched (Some n) (cond b (k ∷ touched_from (suc k) m bits) (touched_from (suc k) m bits))
        ≡ next_touched (Some n) (touched_from (suc k) m bits)
    by true = ap (λ (b : Bool). if b then Some k
        else next_touched (Some n) (touched_from (suc k) m bits)) (le-ltb n k low)
    by false = refl

-- so they are those from the next one on
pub behind_from : (n m k : ℕ) (bits : List ℕ) → k ≤ suc n
    → next_touched (Some n) (touched_from k m bits)
    ≡ next_touched None (touched_from (suc n) ((k + m) - suc n) bits)
behind_from n zero k bits low =
    ap (λ (j : ℕ). next_touched None (touched_from (suc n) j bits))
    (let e : 0 ≡ (k + 0) - suc n = omega (arith, low) in e)
behind_from n (suc m) k bits low = elim (cases_lt n k) [
  | inl high ↦ above n (suc m) k bits high ∙ (let same : k ≡ suc n = omega (arith, low, high) in
      ap (λ (j : ℕ). next_touched None (touched_from j (suc m) bits)) same
      ∙ ap (λ (j : ℕ). next_touched None (touched_from (suc n) j bits))
      (let e : suc m ≡ (k + suc m) - suc n = omega (arith, same) in e))
  | inr rest ↦ passed n m k bits rest ∙ behind_from n m (suc k) bits (omega (arith, rest))
      ∙ ap (λ (j : ℕ). next_touched None (touched_from (suc n) j bits))
      (let e : (suc k + m) - suc n ≡ (k + suc m) - suc n = omega arith in e)
]

-- from one on, which is touched, or not
unfold_at : (k m n : ℕ) (bits : List ℕ) → m ≡ suc n → touched_from k m bits
    ≡ cond (is_set bits k) (k ∷ touched_from (suc k) n bits) (touched_from (suc k) n bits)
unfold_at k m n bits is = ap (λ (j : ℕ). touched_from k j bits) is

pub here_touched : (k pieces : ℕ) (bits : List ℕ) → k < pieces → is_set bits k ≡ true
    → next_touched None (touched_from k (pieces - k) bits) ≡ Some k
here_touched k pieces bits low is =
    ap (next_touched None) (unfold_at k (pieces - k) (pieces - suc k) bits (omega (arith, low))
    ∙ ap (λ (b : Bool). cond b (k ∷ touched_from (suc k) (pieces - suc k) bits)
    (touched_from (suc k) (pieces - suc k) bits)) is)

pub not_touched : (k pieces : ℕ) (bits : List ℕ) → k < pieces → is_set bits k ≡ false
    → next_touched None (touched_from k (pieces - k) bits)
    ≡ next_touched None (touched_from (k + 1) (pieces - (k + 1)) bits)
not_touched k pieces bits low is =
    ap (next_touched None) (unfold_at k (pieces - k) (pieces - suc k) bits (omega (arith, low))
    ∙ ap (λ (b : Bool). cond b (k ∷ touched_from (suc k) (pieces - suc k) bits)
    (touched_from (suc k) (pieces - suc k) bits)) is
    ∙ ap (λ (j : ℕ). touched_from j (pieces - j) bits) (let e : suc k ≡ k + 1 = omega arith in e))

pub none_left : (k pieces : ℕ) (bits : List ℕ) → pieces ≤ k
    → next_touched None (touched_from k (pieces - k) bits) ≡ None
none_left k pieces bits high =
    ap (λ (j : ℕ). next_touched None (touched_from k j bits))
    (let e : pieces - k ≡ 0 = omega (arith, high) in e)

pub behind_last : (n pieces k : ℕ) (bits : List ℕ) → k ≡ n + 1
    → next_touched (Some n) (touched_from 0 pieces bits)
    ≡ next_touched None (touched_from k (pieces - k) bits)
behind_last n pieces k bits is =
    behind_from n pieces 0 bits (omega arith)
    ∙ ap (λ (j : ℕ). next_touched None (touched_from j ((0 + pieces) - suc n) bits))
    (let e : suc n ≡ k = omega (arith, is) in e)
    ∙ ap (λ (j : ℕ). next_touched None (touched_from k j bits))
    (let e : (0 + pieces) - suc n ≡ pieces - k = omega (arith, is) in e)

pub from_start : (pieces k : ℕ) (bits : List ℕ) → k ≡ 0
    → next_touched None (touched_from 0 pieces bits)
    ≡ next_touched None (touched_from k (pieces - k) bits)
from_start pieces k bits is =
    ap (λ (j : ℕ). next_touched None (touched_from 0 j bits))
    (let e : pieces ≡ pieces - k = omega (arith, is) in e)
    ∙ ap (λ (j : ℕ). next_touched None (touched_from j (pieces - k) bits)) (sym is)
