-- The next touched piece, and its head.
use Rattle.std.proofs.Common.{◌≡◌, inl, inr, ℕ, zero, suc, ◌<◌, ◌≤◌, Bool, true, false, nat_lt, if◌then◌else◌, List, [], ◌∷◌, length, map, Option, Some, None, IfSome, refl, ap, ◌∙◌, arith}
use Rattle.std.proofs.lemmas.Bool.{cases_lt, lt-ltb, le-ltb}
use Rattle.page_model.specs.Pages.{Address}
use Rattle.store_data.specs.Store.{Piece}
use Rattle.lob_model.specs.Pieces.{head_place}
use Rattle.lob_index.specs.Heads.{nth}
use Rattle.store_steps.specs.declared.reached.Reached.{Reached}
use Rattle.store_steps.specs.Touched.{next_touched}
use Rattle.store_steps.specs.Reached.{piece_in, AreBelow}

same_number : (a b : ℕ) → Some a ≡ Some b → a ≡ b
same_number a b e = cc e

-- it is behind the last one
next_above : (n k : ℕ) (ks : List ℕ) → Some k ≡ next_touched (Some n) ks → n < k
next_above n k [] is = absurd (let e : Some k ≡ None = is in cc)
next_above n k (j ∷ js) is = elim (cases_lt n j) [
  | inl low ↦
      let here : Some k ≡ Some j = is
      ∙ ap (λ (b : Bool). if b then Some j else next_touched (Some n) js) (lt-ltb n j low) in
      let same = same_number k j here in
      omega (arith, same, low)
  | inr high ↦ next_above n k js (is
      ∙ ap (λ (b : Bool). if b then Some j else next_touched (Some n) js) (le-ltb n j high))
]

pub behind_next : (last : Option Reached) (o : Option ℕ) (k : ℕ) (ks : List ℕ) → o ≡ piece_in last
    → Some k ≡ next_touched o ks → IfSome last (λ d. d.piece ≤ k)
behind_next None o k ks same is = tt
behind_next (Some d) o k ks same is =
    let above = next_above d.piece k ks (is ∙ ap (λ (p : Option ℕ). next_touched p ks) same) in
    omega (arith, above)

-- it is one of them
pub next_below : (n : ℕ) (o : Option ℕ) (k : ℕ) (ks : List ℕ) → AreBelow n ks
    → Some k ≡ next_touched o ks → k < n
next_below n o k [] all is = absurd (none o is)
  where
    none : (p : Option ℕ) → Some k ≡ next_touched p [] → ⊥
    none None e = let x : Some k ≡ None = e in cc
    none (Some m) e = let x : Some k ≡ None = e in cc
next_below n None k (j ∷ js) all is =
    let same = same_number k j is in let low = all.0 in omega (arith, same, low)
next_below n (Some m) k (j ∷ js) all is = by (nat_lt m j) refl (next_below n (Some m) k js all.1)
  where
    by : (b : Bool) → nat_lt m j ≡ b → (Some k ≡ next_touched (Some m) js → k < n) → k < n
    by true low rest =
        let here : Some k ≡ Some j =
        is ∙ ap (λ (b : Bool). if b then Some j else next_touched (Some m) js) low in
        let same = same_number k j here in let below = all.0 in omega (arith, same, below)
    by false high rest =
        rest (is ∙ ap (λ (b : Bool). if b then Some j else next_touched (Some m) js) high)

-- a piece has a head
pub head_there : (k : ℕ) (ps : List Piece) → (let o : Option Address = None in o)
    ≡ nth k (map head_place ps) → k < length ps → ⊥
head_there k [] none low = absurd (omega (arith, low))
head_there zero (p ∷ ps) none low = cc
head_there (suc k) (p ∷ ps) none low = head_there k ps none (omega (arith, low))
