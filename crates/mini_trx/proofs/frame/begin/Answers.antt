use Rattle.page_model.specs.Frames.{frame_bytes}
use Rattle.std.proofs.Common.{ap, ◌∙◌, ◌++◌, List, ℕ, [], ◌∷◌}
use Rattle.mini_trx.proofs.frame.begin.Goals as goal

pub returns-clause-frame : goal.returns-clause-frame
unfolding frame_bytes
returns-clause-frame c = c.extend.ensures.items ∙ ap (λ (xs : List ℕ). xs ++ 0 ∷ 0 ∷ 0 ∷ 6 ∷ 0 ∷ 0 ∷ []) c.clear.ensures.items
