-- A walk over touched pieces, of which each loses its newest version where that was raised.
use Rattle.std.proofs.Common.{◌≡◌, ◌≢◌, inl, inr, ℕ, zero, suc, ◌+◌, ◌≤◌, Bool, if◌then◌else◌, List, [], ◌∷◌, Option, Some, None, refl, sym, ap, subst, ◌∙◌, arith}
use Rattle.std.proofs.lemmas.Bool.{cases_lt, lt-ltb, le-ltb}
use Rattle.store_data.specs.Pieces.{popped_to, popped}
use Rattle.store_data.specs.Store.{Version, Piece}
use Rattle.undo_model.proofs.OptionLemmas.{some_some, not_some}
use Rattle.lob_model.specs.Pieces.{IsFalling, AreFalling}
use Rattle.store_model.specs.Steps.{on_piece}
use Rattle.store_model.specs.Takes.{piece_of}
use Rattle.store_model.specs.Versions.{AreUpTo}
use Rattle.store_steps.specs.Touched.{next_touched}
use Rattle.rollback.specs.Undoable.{AreAbove, AreAscending, IsToCome}

-- ---- what is still to come

-- behind a number that is below all of them each one of them is to come
come_behind : (last : Option ℕ) (n k : ℕ) (ks : List ℕ) → AreAbove n ks → IsToCome last k ks
    → IsToCome (Some n) k ks
come_behind last n k [] above come = absurd come
come_behind None n k (t ∷ ts) above come = elim come [
  | inl here ↦ inl (above.0, here)
  | inr more ↦ inr (come_behind None n k ts above.1 more)
]
come_behind (Some m) n k (t ∷ ts) above come = elim come [
  | inl here ↦ inl (above.0, here.1)
  | inr more ↦ inr (come_behind (Some m) n k ts above.1 more)
]

-- once the walk came to the next one, the others are still to come
pub come_on : (last : Option ℕ) (n k : ℕ) (ks : List ℕ) → AreAscending ks
    → next_touched last ks ≡ Some n → IsToCome last k ks → k ≢ n → IsToCome (Some n) k ks
come_on last n k [] rise next come other = absurd come
come_on None n k (t ∷ ts) rise next come other =
    let same : t ≡ n = some_some t n next in
    elim come [
      | inl here ↦ absurd (other (sym here ∙ same))
      | inr more ↦ inr (subst (λ (x : ℕ). IsToCome (Some x) k ts) same
          (come_behind None t k ts rise.0 more))
    ]
come_on (Some m) n k (t ∷ ts) rise next come other = elim (cases_lt m t) [
  | inl low ↦ (
      let same : t ≡ n = some_some t n
      (ap (λ (b : Bool). if b then Some t else next_touched (Some m) ts) (sym (lt-ltb m t low)) ∙ next) in
      elim come [
        | inl here ↦ absurd (other (sym here.1 ∙ same))
        | inr more ↦ inr (subst (λ (x : ℕ). IsToCome (Some x) k ts) same
            (come_behind (Some m) t k ts rise.0 more))
      ]
      )
  | inr high ↦ (
      let rest : next_touched (Some m) ts ≡ Some n =
      ap (λ (b : Bool). if b then Some t else next_touched (Some m) ts) (sym (le-ltb m t high)) ∙ next in
      elim come [
        | inl here ↦ absurd (let a = here.0 in omega (arith, a, high))
        | inr more ↦ inr (come_on (Some m) n k ts rise.1 rest more other)
      ]
      )
]

-- and where none is next, none is to come
pub none_come : (last : Option ℕ) (k : ℕ) (ks : List ℕ) → next_touched last ks ≡ None
    → IsToCome last k ks → ⊥
none_come last k [] next come = come
none_come None k (t ∷ ts) next come = not_some t (sym next)
none_come (Some m) k (t ∷ ts) next come = elim (cases_lt m t) [
  | inl low ↦ not_some t (sym next
      ∙ ap (λ (b : Bool). if b then Some t else next_touched (Some m) ts) (lt-ltb m t low))
  | inr high ↦ elim come [
    | inl here ↦ absurd (let a = here.0 in omega (arith, a, high))
    | inr more ↦ none_come (Some m) k ts
        (ap (λ (b : Bool). if b then Some t else next_touched (Some m) ts) (sym (le-ltb m t high)) ∙ next)
        more
  ]
]

-- ---- one piece changes

pub piece_other : (k n : ℕ) (f : Piece → Piece) (ps : List Piece) → k ≢ n
    → piece_of k (on_piece n f ps) ≡ piece_of k ps
piece_other zero zero f [] other = refl
piece_other zero (suc n) f [] other = refl
piece_other (suc k) zero f [] other = refl
piece_other (suc k) (suc n) f [] other = refl
piece_other zero zero f (p ∷ ps) other = absurd (other refl)
piece_other zero (suc n) f (p ∷ ps) other = refl
piece_other (suc k) zero f (p ∷ ps) other = refl
piece_other (suc k) (suc n) f (p ∷ ps) other =
    piece_other k n f ps (λ same. other (ap suc same))

pub piece_this : (k : ℕ) (f : Piece → Piece) (ps : List Piece) (q : Piece)
    → piece_of k (on_piece k f ps) ≡ Some q → (p : Piece) × (piece_of k ps ≡ Some p) × (f p ≡ q)
piece_this zero f [] q is = absurd (not_some q is)
piece_this (suc k) f [] q is = absurd (not_some q is)
piece_this zero f (p ∷ ps) q is = (p, refl, some_some (f p) q is)
piece_this (suc k) f (p ∷ ps) q is = piece_this k f ps q is

-- ---- numbers

pub falls_at : (b k : ℕ) (ps : List Piece) (p : Piece) → AreFalling b ps → piece_of k ps ≡ Some p
    → IsFalling b (p.head ∷ p.older)
falls_at b zero [] p falling is = absurd (not_some p is)
falls_at b (suc k) [] p falling is = absurd (not_some p is)
falls_at b zero (q ∷ ps) p falling is =
    subst (λ (x : Piece). IsFalling b (x.head ∷ x.older)) (some_some q p is) falling.0
falls_at b (suc k) (q ∷ ps) p falling is = falls_at b k ps p falling.1 is

pub up_at : (v k : ℕ) (ps : List Piece) (p : Piece) → AreUpTo v ps → piece_of k ps ≡ Some p
    → p.head.number ≤ v
up_at v zero [] p up is = absurd (not_some p is)
up_at v (suc k) [] p up is = absurd (not_some p is)
up_at v zero (q ∷ ps) p up is =
    subst (λ (x : Piece). x.head.number ≤ v) (some_some q p is) up.0.0
up_at v (suc k) (q ∷ ps) p up is = up_at v k ps p up.1 is

-- pieces whose newest versions are at most v fall from there
pub falling_low : (b v : ℕ) (ps : List Piece) → AreFalling b ps
    → ((k : ℕ) (p : Piece) → piece_of k ps ≡ Some p → p.head.number ≤ v) → AreFalling (v + 1) ps
falling_low b v [] falling low = tt
falling_low b v (p ∷ ps) falling low = (
  ((let h = low 0 p refl in omega (arith, h)), falling.0.1),
  falling_low b v ps falling.1 (λ k q is. low (suc k) q is),
)

-- the version behind a raised one is at most the version before
pub popped_low : (b v : ℕ) (p : Piece) → IsFalling b (p.head ∷ p.older)
    → p.head.number ≡ suc v → p.older ≢ [] → (popped p).head.number ≤ v
popped_low b v p falling raised some = by p.older falling.1 some
  where
    by : (vs : List Version) → IsFalling p.head.number vs → vs ≢ []
        → (popped_to p.head.place vs p).head.number ≤ v
    by [] falls some = absurd (some refl)
    by (x ∷ xs) falls some = let low = falls.0 in omega (arith, low, raised)
