use Rattle.undo_logs.proofs.OpenLemmas.{start_told}
use Rattle.undo_logs.proofs.opening.start.Goals as goal

pub returns-clause-starts : goal.returns-clause-starts
returns-clause-starts g c =
    start_told _ _ _ c.args.page.0 c.args.log.0 c.fill_other.new.bytes (g.P.Pages.whole c.args.p.now) c.requires.page c.fill_other.ensures.len c.fill_other.ensures.fields c.in_ok-write.ensures.written
