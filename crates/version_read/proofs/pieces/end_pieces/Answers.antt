use Rattle.file_lists.proofs.LinkLemmas.{handed_on}
use Rattle.version_read.proofs.PiecesLemmas.{ends_pieces}
use Rattle.version_read.proofs.pieces.end_pieces.Goals as goal

pub returns-clause-copies : goal.returns-clause-copies
returns-clause-copies g c = λ pages store sees shown u past.
    let b = c.begin_walk.ensures in
    ends_pieces c.requires.phase u c.begin_walk.new.self _ past
    (c.in_ok-row.ensures.value pages store u.told' u.is u.directory) b.read b.row.1 b.of.piece
    b.of.from b.of.buffer

pub returns-in_err-row-clause-never : goal.returns-in_err-row-clause-never
returns-in_err-row-clause-never g c = λ pages store sees shown u.
    handed_on c.row_now.result _ _ (c.row_now.ensures.never pages store u.told' u.is u.directory)
    c.in_err-row.was c.from_residual.ensures
