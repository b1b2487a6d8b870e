use Rattle.row_dir.proofs.DropLemmas.{dropped_last, page_there}
use Rattle.file_lists.proofs.LinkLemmas.{handed_on}
use Rattle.row_dir.proofs.dir.RowDir.drop_last.Goals as goal

pub returns-clause-removes : goal.returns-clause-removes
returns-clause-removes g c = λ pages rows is stands d can.
    dropped_last _ pages rows c.args.self.now c.forget_page.new.self c.forget.new.self c.args.doc c.args.place stands can d c.requires.has c.requires.alone
    (λ before behind q s can' same. c.in_ok-drop_page.ensures.drops pages before behind q is s can' same) c.forget_page.ensures c.forget.ensures

pub returns-in_err-drop_page-clause-never : goal.returns-in_err-drop_page-clause-never
returns-in_err-drop_page-clause-never g c = λ pages rows is stands d can.
    let t = page_there pages rows c.args.self.now c.args.doc.0 c.args.place stands can d c.requires.has in
    handed_on c.drop_page.result _ _ (c.drop_page.ensures.never pages t.0 t.1 t.2 is t.3 t.4 t.5) c.in_err-drop_page.was c.from_residual.ensures
