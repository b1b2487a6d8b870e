use Rattle.kept_model.proofs.PageKept.{plans_move, undoes_move, ends_move, passes_move}
use Rattle.kept_model.proofs.paged.pages_move_along.Goals as goal

pub returns-clause-plans : goal.returns-clause-plans
returns-clause-plans c = plans_move

pub returns-clause-undoes : goal.returns-clause-undoes
returns-clause-undoes c = undoes_move

pub returns-clause-ends : goal.returns-clause-ends
returns-clause-ends c = ends_move

pub returns-clause-passes : goal.returns-clause-passes
returns-clause-passes c = passes_move
