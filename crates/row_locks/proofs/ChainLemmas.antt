-- A chain of waits, one session further.
use Rattle.std.proofs.Common.{◌≡◌, ◌≢◌, ℕ, zero, suc, ◌-◌, ◌<◌, List, [], ◌∷◌, ◌++◌, Option, Some, None, option_map, refl, sym, ap, append_assoc, arith}
use Rattle.std.proofs.lemmas.Bool.{eq-eqb, ne_eqb}
use Rattle.row_locks.specs.Locks.{chain, most_sessions}

pub most_are : most_sessions ≡ 64
unfolding most_sessions
most_are = refl

abbrev pub behind : List ℕ → Option (List ℕ) → Option (List ℕ)
behind done rest = option_map (λ l. done ++ l) rest

pub behind_none : (rest : Option (List ℕ)) → behind [] rest ≡ rest
behind_none None = refl
behind_none (Some l) = refl

behind_step : (done : List ℕ) (at : ℕ) (rest : Option (List ℕ))
    → behind done (option_map (λ l. at ∷ l) rest) ≡ behind (done ++ at ∷ []) rest
behind_step done at None = refl
behind_step done at (Some l) = ap (λ x. Some x) (sym (append_assoc done (at ∷ []) l))

-- the last of the chain is reached
pub chain_ends : (next : ℕ → Option ℕ) (n s at : ℕ) (done : List ℕ) → 0 < n → at ≡ s
    → behind done (chain next n s at) ≡ Some (done ++ at ∷ [])
chain_ends next zero s at done some same = absurd (omega (arith, some))
chain_ends next (suc n) s at done some same =
    rw (eq-eqb at s same) (ap (λ x. Some (done ++ x ∷ [])) (sym same))

-- it goes on
pub chain_goes_on : (next : ℕ → Option ℕ) (n s at g : ℕ) (done : List ℕ) → 0 < n → at ≢ s
    → next at ≡ Some g
    → behind done (chain next n s at) ≡ behind (done ++ at ∷ []) (chain next (n - 1) s g)
chain_goes_on next zero s at g done some other step = absurd (omega (arith, some))
chain_goes_on next (suc n) s at g done some other step =
    let less : suc n - 1 ≡ n = omega arith in
    rw less (rw (ne_eqb at s other) (rw step (behind_step done at (chain next n s g))))

-- it leads to a session that waits for none
pub chain_breaks : (next : ℕ → Option ℕ) (n s at : ℕ) (done : List ℕ) → at ≢ s → next at ≡ None
    → behind done (chain next n s at) ≡ None
chain_breaks next zero s at done other step = refl
chain_breaks next (suc n) s at done other step =
    rw (ne_eqb at s other) (rw step refl)

-- as many sessions were met as there are
pub chain_is_out : (next : ℕ → Option ℕ) (n s at : ℕ) (done : List ℕ) → n ≡ 0
    → behind done (chain next n s at) ≡ None
chain_is_out next zero s at done none = refl
chain_is_out next (suc n) s at done none = absurd (omega (arith, none))
