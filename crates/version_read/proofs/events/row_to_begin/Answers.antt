use Rattle.file_lists.proofs.LinkLemmas.{handed_on}
use Rattle.version_read.proofs.events.row_to_begin.Goals as goal

pub returns-in_err-row-clause-never : goal.returns-in_err-row-clause-never
returns-in_err-row-clause-never g c = λ pages store told is dir.
    handed_on c.row_now.result _ _ (c.row_now.ensures.never pages store told is dir)
    c.in_err-row.was c.from_residual.ensures
