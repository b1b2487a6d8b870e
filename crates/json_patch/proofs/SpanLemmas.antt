-- The runs between two versions of a document, span by span.
use Rattle.std.proofs.Common.{◌≡◌, ◌≤◌, ◌<◌, ◌-◌, max, ℕ, zero, suc, ◌+◌, List, [], ◌∷◌, ◌++◌, append-nil, length, take, drop, slice_index, slice_range, get_or, refl, sym, ap, ap₂, subst, ◌∙◌, arith, inl, inr}
use Rattle.std.proofs.Math.Seq.{take-add, take-append_seam, drop-append_seam}
use Rattle.std.proofs.lemmas.List.{length-append, length-take-le, length-drop, append_assoc, drop-drop, take_more, drop_more, drop_all, take_all, get_or-drop, get_or_default}
use Rattle.std.proofs.lemmas.List.Elements.{All-cons, All-head, All-push, All-take, All-drop}
use Rattle.std.proofs.lemmas.List.Sorted.{All-permutation, IsPermutation-sym}
use Rattle.std.proofs.lemmas.Bool.{cases_lt}
use Rattle.std.specs.List.{All}
use Rattle.std.specs.List.Sorted.{IsPermutation, IsNonDecreasingBy}
use Rattle.binary_model.specs.Change.{Run, runs, written}
use Rattle.binary_model.proofs.in_place.WrittenLemmas.{written_length, written_below, written_behind}
use Rattle.json_patch.specs.declared.spans.Span.{Span}
use Rattle.json_patch.specs.Spans.{IsOutsideOf, DifferInSpans}
use Rattle.json_patch.proofs.TouchLemmas.{no_runs, written_seam, AddsBytes}

-- ---- new up to a place, old from there on

abbrev pub half : List ℕ → List ℕ → ℕ → List ℕ
half old new n = take n new ++ drop n old

half_long : (old new : List ℕ) (n : ℕ) → length new ≡ length old → n ≤ length old → length (half old new n) ≡ length old
half_long old new n long low =
    let a = length-append (take n new) (drop n old) in
    let b = length-take-le n new (omega (arith, low, long)) in
    let c = length-drop n old in
    omega (arith, a, b, c, low)

half_rest : (old new : List ℕ) (n : ℕ) → length new ≡ length old → n ≤ length old → drop n (half old new n) ≡ drop n old
half_rest old new n long low =
    ap (λ m. drop m (half old new n)) (sym (length-take-le n new (omega (arith, low, long)))) ∙ drop-append_seam (take n new) (drop n old)

half_next : (old new : List ℕ) (n : ℕ) → length new ≡ length old → n < length old → slice_index old n ≡ slice_index new n → half old new n ≡ half old new (n + 1)
half_next old new n long low same =
    ap (λ r. take n new ++ r) (drop_more old n 0 low ∙ ap (λ x. x ∷ drop (n + 1) old) same)
    ∙ sym (append_assoc (take n new) (slice_index new n ∷ []) (drop (n + 1) old))
    ∙ ap (λ p. p ++ drop (n + 1) old) (sym (take_more new n 0 (omega (arith, low, long))))

-- the same bytes over some places
half_on : (old new : List ℕ) (n m : ℕ) → length new ≡ length old → n + m ≤ length old → ((i : ℕ) → n ≤ i → i < n + m → slice_index old i ≡ slice_index new i) → half old new n ≡ half old new (n + m)
half_on old new n zero long low same = let e : n ≡ n + 0 = omega arith in ap (half old new) e
half_on old new n (suc m) long low same =
    let e : n + 1 + m ≡ n + suc m = omega arith in
    half_next old new n long (omega (arith, low)) (same n (omega arith) (omega arith))
    ∙ half_on old new (n + 1) m long (omega (arith, low)) (λ i a b. same i (omega (arith, a)) (omega (arith, b)))
    ∙ ap (half old new) e

half_to : (old new : List ℕ) (n m : ℕ) → length new ≡ length old → n ≤ m → m ≤ length old → ((i : ℕ) → n ≤ i → i < m → slice_index old i ≡ slice_index new i) → half old new n ≡ half old new m
half_to old new n m long up low same =
    let e : n + (m - n) ≡ m = omega (arith, up) in
    half_on old new n (m - n) long (omega (arith, e, low)) (λ i a b. same i a (omega (arith, b, e))) ∙ ap (half old new) e

-- the new bytes of a span written
half_written : (old new : List ℕ) (n m : ℕ) → length new ≡ length old → n ≤ m → m ≤ length old → written (half old new n) n (slice_range new n m) ≡ half old new m
half_written old new n m long up low =
    let e : n + (m - n) ≡ m = omega (arith, up) in
    let here = length-take-le n new (omega (arith, up, low, long)) in
    let size : length (slice_range new n m) ≡ m - n =
    length-take-le (m - n) (drop n new) (let d = length-drop n new in omega (arith, d, low, long)) in
    ap (λ i. written (half old new n) i (slice_range new n m)) (sym here)
    ∙ written_seam (take n new) (drop n old) (slice_range new n m)
    ∙ ap (λ r. take n new ++ (slice_range new n m ++ r)) (ap (λ k. drop k (drop n old)) size ∙ drop-drop (m - n) n old ∙ ap (λ i. drop i old) e)
    ∙ sym (append_assoc (take n new) (slice_range new n m) (drop m old))
    ∙ ap (λ p. p ++ drop m old) (sym (take-add n (m - n) new) ∙ ap (λ i. take i new) e)

half_all : (old new : List ℕ) (n : ℕ) → length new ≡ length old → n ≡ length old → half old new n ≡ new
half_all old new n long e =
    ap₂ (λ a b. a ++ b) (take_all n new (omega (arith, long, e))) (drop_all n old (omega (arith, e))) ∙ append-nil new

-- ---- span by span

-- the runs of all places up to one, and from there on the versions differ within the spans left at most
pub record Done (old new : List ℕ) (left : List Span) (done : ℕ) (rs : List Run) : Type 0 where
  pub low : done ≤ length old
  pub found : rs ≡ runs old (half old new done)
  pub same : (i : ℕ) → done ≤ i → All (IsOutsideOf i) left → slice_index old i ≡ slice_index new i

module _ (old new : List ℕ) (long : length new ≡ length old) where
  pub done_none : (spans : List Span) → DifferInSpans old new spans → Done old new spans 0 []
  done_none spans h = record { low = omega arith; found = sym (no_runs 0 old); same = λ i low out. h.same i out }

  pub done_all : (done : ℕ) (rs : List Run) → Done old new [] done rs → rs ≡ runs old new
  done_all done rs h =
      let top = half_to old new done (length old) long h.low (omega arith) (λ i a b. h.same i a (All-nothing i)) in
      h.found ∙ ap (runs old) (top ∙ half_all old new (length old) long refl)
    where
      All-nothing : (i : ℕ) → All (IsOutsideOf i) []
      All-nothing i = λ k d low. let no : ⊥ = omega (arith, low) in absurd no

  -- a span with places that are not done
  module _ (s : Span) (left : List Span) (done : ℕ) (rs : List Run) (inside : s.end ≤ length old) (rising : All (λ r. s.at ≤ r.at) left) (h : Done old new (s ∷ left) done rs) where
    before_all : (i : ℕ) → i < s.at → All (IsOutsideOf i) (s ∷ left)
    before_all i low = All-cons (IsOutsideOf i) s left (inl low) (λ k d in'. inl (let up = rising k d in' in omega (arith, low, up)))

    pub done_more : (start : ℕ) (xs : List ℕ) (more : List Run) → start ≡ max s.at done → start < s.end → xs ≡ slice_range new start s.end → AddsBytes old start rs more xs → Done old new left s.end more
    done_more start xs more begins some bytes adds =
        let low = h.low in
        let up : done ≤ start = omega (arith, begins) in
        let skipped : half old new done ≡ half old new start =
        half_to old new done start long up (omega (arith, some, inside)) (λ i a b. h.same i a (before_all i (omega (arith, a, b, begins)))) in
        record {
          low = inside;
          found = adds (half old new start) (half_long old new start long (omega (arith, some, inside))) (half_rest old new start long (omega (arith, some, inside))) (h.found ∙ ap (runs old) skipped)
              ∙ ap (λ ys. runs old (written (half old new start) start ys)) bytes ∙ ap (runs old) (half_written old new start s.end long (omega (arith, some)) inside);
          same = λ i a out. h.same i (omega (arith, a, up, some)) (All-cons (IsOutsideOf i) s left (inr a) out);
        }

    pub done_passed : (start : ℕ) → start ≡ max s.at done → s.end ≤ start → Done old new left done rs
    done_passed start begins none =
        record { low = h.low; found = h.found; same = λ i a out. h.same i a (All-cons (IsOutsideOf i) s left (outside i a) out) }
      where
        outside : (i : ℕ) → done ≤ i → IsOutsideOf i s
        outside i a = elim (cases_lt i s.at) [
          | inl low ↦ inl low
          | inr high ↦ inr (omega (arith, a, high, begins, none))
        ]

-- the spans behind one of rising ones
pub rising_behind : (spans : List Span) (k : ℕ) (s : Span) → k < length spans → s ≡ get_or spans k s → IsNonDecreasingBy (λ r. r.at) spans → All (λ r. s.at ≤ r.at) (drop (k + 1) spans)
rising_behind spans k s low e rising = λ j d in'.
    let n = length-drop (k + 1) spans in
    let up = rising k (k + 1 + j) d (omega arith) (omega (arith, n, in')) in
    subst (λ r. s.at ≤ r.at) (sym (get_or-drop (k + 1) spans j d)) (subst (λ r. r.at ≤ (get_or spans (k + 1 + j) d).at) (same_at d) up)
  where
    same_at : (d : Span) → get_or spans k d ≡ s
    same_at d = get_or_default spans k d s low ∙ sym e

-- where all spans end within a size, the one of a number does
pub inside_at : (size k : ℕ) (spans : List Span) (s : Span) → k < length spans → s ≡ get_or spans k s → All (λ r. r.end ≤ size) spans → s.end ≤ size
inside_at size k spans s low e all = subst (λ r. r.end ≤ size) (sym e) (all k s low)

-- the spans from a number on are the one of that number, and those behind it
pub next_span : (spans : List Span) (i : ℕ) (s : Span) → i < length spans → s ≡ get_or spans i s → drop i spans ≡ s ∷ drop (i + 1) spans
next_span spans i s low e = drop_more spans i s low ∙ ap (λ q. q ∷ drop (i + 1) spans) (sym e)

-- ---- in another order

-- versions that differ within spans differ within the same spans in another order
pub differ_moved : (old new : List ℕ) (spans others : List Span) → IsPermutation spans others → DifferInSpans old new spans → DifferInSpans old new others
differ_moved old new spans others moved h = record {
  long = h.long;
  inside = All-permutation (λ s. s.end ≤ length old) spans others moved h.inside;
  same = λ i out. h.same i (All-permutation (IsOutsideOf i) others spans (IsPermutation-sym spans others moved) out);
}

-- ---- one more write is noted

all_first : {X : Type 0} (P : X → Type 0) (xs : List X) (x : X) → All P (xs ++ x ∷ []) → All P xs
all_first P xs x all = subst (All P) (take-append_seam xs (x ∷ [])) (All-take P (length xs) (xs ++ x ∷ []) all)

all_last : {X : Type 0} (P : X → Type 0) (xs : List X) (x : X) → All P (xs ++ x ∷ []) → P x
all_last P xs x all = All-head P x [] (subst (All P) (drop-append_seam xs (x ∷ [])) (All-drop P (length xs) (xs ++ x ∷ []) all))

-- with one more write made, and its span noted, the versions differ within the noted spans
pub noted_more : (old bytes : List ℕ) (spans : List Span) (at : ℕ) (xs : List ℕ) → at + length xs ≤ length bytes → DifferInSpans old bytes spans → DifferInSpans old (written bytes at xs) (spans ++ record { at = at; end = at + length xs } ∷ [])
noted_more old bytes spans at xs fits h =
    let s : Span = record { at = at; end = at + length xs } in
    let long = h.long in
    record {
      long = written_length bytes at xs fits ∙ h.long;
      inside = All-push (λ r. r.end ≤ length old) spans s h.inside (omega (arith, fits, long));
      same = λ i out. h.same i (all_first (IsOutsideOf i) spans s out) ∙ kept i (all_last (IsOutsideOf i) spans s out);
    }
  where
    kept : (i : ℕ) → IsOutsideOf i (record { at = at; end = at + length xs }) → slice_index bytes i ≡ slice_index (written bytes at xs) i
    kept i (inl low) = written_below bytes at xs (omega (arith, fits)) i (omega arith) low
    kept i (inr high) = written_behind bytes at xs (omega (arith, fits)) i high
