use Rattle.std.proofs.Common.{[]}
use Rattle.page_model.proofs.StepLemmas.{may_name, uses_unnamed}
use Rattle.version_read.proofs.pieces.first_head.Goals as goal

pub head-requires-clause-may : goal.head-requires-clause-may
head-requires-clause-may g c = may_name c.args.page.0 [] 4 0 _ c.requires.may

pub returns-clause-uses : goal.returns-clause-uses
returns-clause-uses g c = uses_unnamed c.args.page.0 [] 4 0 _ _ c.head.ensures.uses
