use Rattle.file_lists.proofs.LinkLemmas.{handed_on}
use Rattle.version_read.proofs.events.step.Goals as goal

pub returns-in_err-go_on-clause-never : goal.returns-in_err-go_on-clause-never
returns-in_err-go_on-clause-never g c = λ pages store shown u.
    handed_on c.go_on.result _ _ (c.go_on.ensures.never pages store shown u) c.in_err-go_on.was
    c.from_residual.ensures
