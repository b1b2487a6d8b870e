use Rattle.std.proofs.Common.{refl}
use Rattle.row_dir.specs.Slots.{keyed_of}
use Rattle.engine_base.specs.declared.addr.Addr.{Addr}
use Rattle.row_dir.proofs.ReplaceLemmas.{opened_last, no_row}
use Rattle.row_dir.proofs.dir.RowDir.add_page.Goals as goal

pub returns-clause-puts : goal.returns-clause-puts
returns-clause-puts g c = λ pages rows is stands d can full covered.
    let place : Addr = record { page = c.in_ok-page.page; at = 52 } in
    let b = c.in_ok-page.ensures.opens pages rows is stands can (no_row rows c.args.self.now c.args.row.now.doc.0 d c.requires.absent).0 covered in
    (b.0, b.1, (opened_last pages b.0 rows c.args.self.now c.note.new.self (keyed_of c.args.row.now) c.args.row.now.doc place c.len-full.result d full c.requires.absent refl refl c.len-full.ensures.len b.2.0 c.note.ensures, b.2.1))
