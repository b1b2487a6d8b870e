use Rattle.std.proofs.Common.{[], lit≤}
use Rattle.page_model.proofs.StepLemmas.{may_less, uses_at_most}
use Rattle.version_read.proofs.pieces.copy_piece.Goals as goal

pub copy_from_known-requires-clause-may : goal.copy_from_known-requires-clause-may
copy_from_known-requires-clause-may g c =
    may_less [] [] 16 12 0 0 _ c.requires.may (λ n is. is) (lit≤ tt) (lit≤ tt)

pub returns-in-Some-clause-uses : goal.returns-in-Some-clause-uses
returns-in-Some-clause-uses g c =
    uses_at_most [] 12 0 16 0 _ _ (lit≤ tt) (lit≤ tt) c.copy_from_known.ensures.uses
