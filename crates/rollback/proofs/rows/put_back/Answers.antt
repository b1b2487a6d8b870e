use Rattle.std.proofs.Common.{sym, ◌∙◌}
use Rattle.rollback.proofs.RowLemmas.{rows_at, rows_there, is_in, put_there, none_of}
use Rattle.row_dir.specs.Slots.{keyed_of}
use Rattle.rollback.proofs.rows.put_back.Goals as goal

pub returns-then-not-branch-clause-never : goal.returns-then-not-branch-clause-never
returns-then-not-branch-clause-never g c = λ there pages store told on dir can.
    absurd (is_in there pages store on c.args.rows.now c.args.before.now.doc.0 dir can.has
    (none_of _ (sym c.in_ok-replace.ensures.has ∙ c.if-not-branch.true)))

pub returns-clause-puts : goal.returns-clause-puts
returns-clause-puts g c = λ there pages store told on dir can.
    let d = c.args.before.now.doc.0 in
    let some = is_in there pages store on c.args.rows.now d dir can.has in
    let b = c.in_ok-replace.ensures.puts pages there told (rows_at there pages store on) dir
    (rows_there there pages store on).can some in
    (b.0, b.1, put_there there pages store on (keyed_of c.args.before.now) c.args.rows.now b.0 b.2)
