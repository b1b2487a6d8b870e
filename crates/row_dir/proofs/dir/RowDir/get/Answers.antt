use Rattle.std.proofs.Common.{[], Some, sym, ap, ◌∙◌}
use Rattle.page_model.proofs.StepLemmas.{uses_unnamed}
use Rattle.file_lists.proofs.LinkLemmas.{handed_on, at_told}
use Rattle.engine_base.specs.Addresses.{address_of}
use Rattle.undo_model.specs.Rows.{IsRowAt}
use Rattle.row_dir.specs.Slots.{keyed_of}
use Rattle.row_dir.proofs.FindLemmas.{none_found, row_found, row_same}
use Rattle.row_dir.proofs.dir.RowDir.get.Goals as goal

pub returns-in_default-clause-value : goal.returns-in_default-clause-value
returns-in_default-clause-value g c = λ pages rows is stands dir. none_found address_of _ c.args.doc.0 rows c.in_default.ensures (dir.finds c.args.doc.0)

pub returns-in_err-row-clause-never : goal.returns-in_err-row-clause-never
returns-in_err-row-clause-never g c = λ pages rows is stands dir.
    let f = row_found address_of _ c.in-Some.place c.args.doc.0 pages rows stands.each c.in-Some.ensures (dir.finds c.args.doc.0) in
    handed_on c.read_row.result _ _ (c.read_row.ensures.never pages f.0 is f.1 f.2) c.in_err-row.was c.from_residual.ensures

pub returns-in_err-row-clause-uses : goal.returns-in_err-row-clause-uses
returns-in_err-row-clause-uses g c = uses_unnamed c.in-Some.place.page.0 [] 0 0 _ _ c.read_row.ensures.uses

pub returns-clause-uses : goal.returns-clause-uses
returns-clause-uses g c = uses_unnamed c.in-Some.place.page.0 [] 0 0 _ _ c.read_row.ensures.uses

pub returns-clause-value : goal.returns-clause-value
returns-clause-value g c = λ pages rows is stands dir.
    let f = row_found address_of _ c.in-Some.place c.args.doc.0 pages rows stands.each c.in-Some.ensures (dir.finds c.args.doc.0) in
    let here = at_told _ (λ ps. IsRowAt ps c.in-Some.place.page.0 c.in-Some.place.at (keyed_of c.in_ok-row.row)) pages is c.in_ok-row.ensures.value in
    ap (λ r. Some r) (row_same pages _ _ (keyed_of c.in_ok-row.row) f.0 here f.1) ∙ sym f.3
