use Rattle.std.proofs.Common.{ap}
use Rattle.std.specs.Prelude.{codes}
use Rattle.journal_model.specs.Print.{sessions_text}
use Rattle.statements.proofs.ListLemmas.{on_ok, two_parts}
use Rattle.statements.proofs.print.push_deadlock.Goals as goal

pub returns-clause-ok : goal.returns-clause-ok
returns-clause-ok c =
    on_ok c.push_sessions.result c.push_sessions.ensures.ok
    (two_parts c.args.out.now.items c.extend_from_slice.new.self.items c.push_sessions.new.out.items (codes "err deadlock") (sessions_text c.as_slice.result.now) (sessions_text c.args.circle.now)
    c.in_ok-extend_from_slice.ensures.items (ap sessions_text c.as_slice.ensures))
