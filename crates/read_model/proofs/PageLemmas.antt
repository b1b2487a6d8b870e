-- Runs written in pages are runs laid over the parts that stand there.
use Rattle.std.proofs.Common.{◌≡◌, inl, inr, ℕ, zero, suc, ◌+◌, ◌-◌, ◌<◌, ◌≤◌, Bool, true, false, cond, List, [], ◌∷◌, length, get_or, take, drop, refl, sym, ap, subst, ◌∙◌, arith}
use Rattle.std.specs.Prelude.{nat_le}
use Rattle.std.proofs.lemmas.Bool.{leb-true, cases_lt}
use Rattle.std.proofs.lemmas.Bool.Decides.{eqb_tells}
use Rattle.std.proofs.lemmas.List.{ext_get_or, get_or-drop, get_or-take, length-take, length-drop}
use Rattle.page_model.specs.Pages.{Pages, Fits, page_at, patched, written, all_written}
use Rattle.page_model.proofs.FrameLemmas.{length-patched, get_or-patched, get_or-patched_here, page_at-written, page_at-written_other, written_outside}
use Rattle.store_data.specs.Store.{Run}
use Rattle.store_model.specs.Runs.{byte_laid, bytes_laid, laid, all_laid}
use Rattle.read_model.specs.OnPages.{part_in, writes_of, AllInPages}
use Rattle.read_model.proofs.BackLemmas.{part_equal}

byte_at : (r : Run) (place : ℕ) (xs : List ℕ) (i at : ℕ) → place + i ≡ at → i < length xs → get_or (bytes_laid r place xs) i 0 ≡ byte_laid r at (get_or xs i 0)
byte_at r place [] i at is below = let no_way : ⊥ = omega (arith, below) in absurd no_way
byte_at r place (x ∷ xs) zero at is below = let e : place ≡ at = omega (arith, is) in ap (λ n. byte_laid r n x) e
byte_at r place (x ∷ xs) (suc i) at is below = byte_at r (suc place) xs i at (omega (arith, is)) (omega (arith, below))

laid_length : (r : Run) (place : ℕ) (xs : List ℕ) → length (bytes_laid r place xs) ≡ length xs
laid_length r place [] = refl
laid_length r place (x ∷ xs) = ap suc (laid_length r (suc place) xs)

inside : (xs : List ℕ) (i d e : ℕ) → i < length xs → get_or xs i d ≡ get_or xs i e
inside [] i d e below = let no_way : ⊥ = omega (arith, below) in absurd no_way
inside (x ∷ xs) zero d e below = refl
inside (x ∷ xs) (suc i) d e below = inside xs i d e (omega (arith, below))

beyond : (xs : List ℕ) (i d : ℕ) → length xs ≤ i → get_or xs i d ≡ d
beyond [] i d far = refl
beyond (x ∷ xs) zero d far = let no_way : ⊥ = omega (arith, far) in absurd no_way
beyond (x ∷ xs) (suc i) d far = beyond xs i d (omega (arith, far))

-- one byte of a page that was written
byte_patched : (r : Run) (page : List ℕ) (k : ℕ) → r.at + length r.bytes ≤ length page → get_or (patched page r.at r.bytes) k 0 ≡ byte_laid r k (get_or page k 0)
byte_patched r page k within = elim (cases_lt k r.at) [
  | inl before ↦ get_or-patched page r.at r.bytes k 0 within (inl before) ∙ sym (by_test (nat_le r.at k) refl (λ is. omega (arith, before, leb-true r.at k is)))
  | inr low ↦ elim (cases_lt k (r.at + length r.bytes)) [
    | inl high ↦ get_or-patched_here page r.at r.bytes k 0 within low high
        ∙ inside r.bytes (k - r.at) 0 (get_or page k 0) (omega (arith, low, high))
        ∙ sym (from_there (nat_le r.at k) refl low)
    | inr behind ↦ get_or-patched page r.at r.bytes k 0 within (inr behind)
        ∙ sym (beyond r.bytes (k - r.at) (get_or page k 0) (omega (arith, behind)))
        ∙ sym (from_there (nat_le r.at k) refl low)
  ]
]
  where
    by_test : (b : Bool) → nat_le r.at k ≡ b → (nat_le r.at k ≡ true → ⊥) → cond b (get_or r.bytes (k - r.at) (get_or page k 0)) (get_or page k 0) ≡ get_or page k 0
    by_test true is never_so = absurd (never_so is)
    by_test false is never_so = refl

    from_there : (b : Bool) → nat_le r.at k ≡ b → r.at ≤ k → cond b (get_or r.bytes (k - r.at) (get_or page k 0)) (get_or page k 0) ≡ get_or r.bytes (k - r.at) (get_or page k 0)
    from_there true is low = refl
    from_there false is low = let no_way : ⊥ = grind (arith, is, low) in absurd no_way

-- the bytes of a page that was written
bytes_patched : (r : Run) (page : List ℕ) (at n : ℕ) → r.at + length r.bytes ≤ length page → take n (drop at (patched page r.at r.bytes)) ≡ bytes_laid r at (take n (drop at page))
bytes_patched r page at n within =
    ext_get_or 0 _ _
    (length-take n (drop at (patched page r.at r.bytes)) ∙ ap (λ m. Rattle.std.specs.Prelude.min n m) same_length ∙ sym (length-take n (drop at page)) ∙ sym (laid_length r at (take n (drop at page))))
    (λ i below. one i (subst (λ m. i < m) (length-take n (drop at (patched page r.at r.bytes))) below))
  where
    same_length : length (drop at (patched page r.at r.bytes)) ≡ length (drop at page)
    same_length = length-drop at (patched page r.at r.bytes) ∙ ap (λ m. m - at) (length-patched page r.at r.bytes within) ∙ sym (length-drop at page)

    one : (i : ℕ) → i < Rattle.std.specs.Prelude.min n (length (drop at (patched page r.at r.bytes))) → get_or (take n (drop at (patched page r.at r.bytes))) i 0 ≡ get_or (bytes_laid r at (take n (drop at page))) i 0
    one i below =
        let low : i < n = omega (arith, below) in
        let high : i < length (drop at page) = omega (arith, below, same_length) in
        get_or-take n (drop at (patched page r.at r.bytes)) i 0 low
        ∙ get_or-drop at (patched page r.at r.bytes) i 0
        ∙ byte_patched r page (at + i) within
        ∙ ap (byte_laid r (at + i)) (sym (get_or-take n (drop at page) i 0 low ∙ get_or-drop at page i 0))
        ∙ sym (byte_at r at (take n (drop at page)) i (at + i) refl (omega (arith, length-take n (drop at page), low, high)))

pub part_written : (pages : Pages) (r : Run) (page at n : ℕ) → Fits pages r.page r.at (length r.bytes) → part_in (written pages r.page r.at r.bytes) page at n ≡ laid r (part_in pages page at n)
part_written pages r page at n fits = elim (eqb_tells page r.page) [
  | inl here ↦ part_equal _ _ refl refl (rw here.0 (
      ap (λ (p : List ℕ). take n (drop at p)) (ap (page_at (written pages r.page r.at r.bytes)) here.1 ∙ page_at-written pages r.page r.at r.bytes fits.there)
      ∙ bytes_patched r (page_at pages r.page) at n fits.within
      ∙ ap (λ m. bytes_laid r at (take n (drop at (page_at pages m)))) (sym here.1)))
  | inr other ↦ part_equal _ _ refl refl (rw other.0 (ap (λ (p : List ℕ). take n (drop at p)) (page_at-written_other pages r.page r.at r.bytes page other.1)))
]

all_fit_on : (rs : List Run) (pages : Pages) (r : Run) → Fits pages r.page r.at (length r.bytes) → AllInPages rs pages → AllInPages rs (written pages r.page r.at r.bytes)
all_fit_on [] pages r fits all = tt
all_fit_on (x ∷ xs) pages r fits all =
    let same = written_outside pages r.page r.at r.bytes fits in
    (record { there = rw same.many all.0.there; within = rw (same.sizes x.page) all.0.within }, all_fit_on xs pages r fits all.1)

-- runs that are written are laid over what stands in the pages
pub parts_written : (rs : List Run) (pages : Pages) (page at n : ℕ) → AllInPages rs pages → part_in (all_written (writes_of rs) pages) page at n ≡ all_laid rs (part_in pages page at n)
parts_written [] pages page at n all = refl
parts_written (r ∷ rs) pages page at n all =
    parts_written rs (written pages r.page r.at r.bytes) page at n (all_fit_on rs pages r all.0 all.1)
    ∙ ap (all_laid rs) (part_written pages r page at n all.0)
