use Rattle.std.proofs.Common.{◌∙◌}
use Rattle.file_lists.proofs.LinkLemmas.{handed_on}
use Rattle.version_read.proofs.RowLemmas.{row_shown}
use Rattle.version_read.proofs.rows.row_now.Goals as goal

pub returns-clause-value : goal.returns-clause-value
returns-clause-value g c = λ pages store told is dir.
    c.present_row.ensures
    ∙ row_shown is.stored store c.args.doc.0 c.in_ok-row.row is.shows
    (c.in_ok-row.ensures.value pages is.stored.rows told is.standing.rows dir)

pub returns-in_err-row-clause-never : goal.returns-in_err-row-clause-never
returns-in_err-row-clause-never g c = λ pages store told is dir.
    handed_on c.get.result _ _
    (c.get.ensures.never pages is.stored.rows told is.standing.rows dir) c.in_err-row.was
    c.from_residual.ensures
