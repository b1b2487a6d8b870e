-- What the calls on page 0 have used, one after another.
use Rattle.std.proofs.Common.{ℕ, ◌+◌, [], ◌∷◌}
use Rattle.page_model.specs.Steps.{PageState, Uses}
use Rattle.page_model.proofs.StepLemmas.{uses_within}

module _ {T : Type 0} {state : T → PageState} {stays : T → T → Type 0} (add : (a b c : T) → stays a b → stays b c → stays a c) (s : T) where
  pub uses_more : (b w : ℕ) (t u : T) → Uses state stays (0 ∷ []) 0 b s t → Uses state stays (0 ∷ []) 0 w t u → Uses state stays (0 ∷ []) 0 (b + w) s u
  uses_more b w t u first second = uses_within add (0 ∷ []) (0 ∷ []) 0 b 0 w s t u (λ n is. is) first second
