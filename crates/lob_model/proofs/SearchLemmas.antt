-- What a search along versions tells of the version that is to be read.
use Rattle.std.proofs.Common.{◌≡◌, inl, inr, ℕ, zero, suc, ◌<◌, ◌≤◌, nat_le, List, [], ◌∷◌, Option, IfSome, IsSome, refl, sym, ◌∙◌, subst}
use Rattle.std.proofs.lemmas.Bool.{cases_lt, cond-true, cond-false, le-leb, lt-leb}
use Rattle.store_data.specs.Store.{Version}
use Rattle.store_data.specs.Pieces.{version_at}
use Rattle.lob_model.specs.Search.{Tells, Sought, at, more, gone, sought}
use Rattle.lob_model.proofs.PieceLemmas.{newest_here, newest_past, newest_none}

-- a version whose number is at most the one sought is found
pub sought_here : (n v : ℕ) (x : Version) (rest : List Version) → x.number ≤ v → sought (suc n) v (x ∷ rest) ≡ at x.place
unfolding sought
sought_here n v x rest below = cond-true (nat_le x.number v) (at x.place) (sought n v rest) (le-leb x.number v below)

-- a newer version is passed
pub sought_past : (n v : ℕ) (x : Version) (rest : List Version) → v < x.number → sought (suc n) v (x ∷ rest) ≡ sought n v rest
unfolding sought
sought_past n v x rest above = cond-false (nat_le x.number v) (at x.place) (sought n v rest) (lt-leb x.number v above)

-- at the list's end the version is gone
pub sought_end : (n v : ℕ) → sought n v [] ≡ gone
unfolding sought
sought_end n v = refl

-- where as many nodes were looked at as may be, the next one is told
pub sought_more : (v : ℕ) (x : Version) (rest : List Version) → sought 0 v (x ∷ rest) ≡ more x.place
unfolding sought
sought_more v x rest = refl

-- a search tells of the version to be read where it is, or that it is further on, or that none is
pub sought_tells : (n v : ℕ) (xs : List Version) → Tells n v xs (sought n v xs)
sought_tells n v [] = let P : Sought → Type 0 = λ s. Tells n v [] s in subst P (sym (sought_end n v)) (newest_none v)
sought_tells zero v (x ∷ rest) = let P : Sought → Type 0 = λ s. Tells 0 v (x ∷ rest) s in subst P (sym (sought_more v x rest)) refl
sought_tells (suc n) v (x ∷ rest) =
    let P : Sought → Type 0 = λ s. Tells (suc n) v (x ∷ rest) s in elim (cases_lt v x.number) [
      | inr below ↦
          let Q : Option Version → Type 0 = λ o. IsSome o × IfSome o (λ y. y.place ≡ x.place) in
          subst P (sym (sought_here n v x rest below)) (subst Q (sym (newest_here v x rest below)) (refl, refl))
      | inl above ↦ subst P (sym (sought_past n v x rest above)) (further (sought n v rest) (newest_past v x rest above) (sought_tells n v rest))
    ]
  where
    further : (s : Sought) → version_at (x ∷ rest) v ≡ version_at rest v → Tells n v rest s → Tells (suc n) v (x ∷ rest) s
    further (at a) same tells = let Q : Option Version → Type 0 = λ o. IsSome o × IfSome o (λ y. y.place ≡ a) in subst Q (sym same) tells
    further (more a) same tells = same ∙ tells
    further gone same tells = same ∙ tells
