use Rattle.undo_logs.proofs.BeginLemmas.{start_told}
use Rattle.undo_logs.proofs.beginning.start_log.Goals as goal

pub returns-clause-starts : goal.returns-clause-starts
returns-clause-starts g c =
    start_told _ _ _ c.args.page.0 c.args.trx.0 c.fill_first.new.bytes (g.P.Pages.whole c.args.p.now) c.requires.page c.fill_first.ensures.len c.fill_first.ensures.fields c.in_ok-write.ensures.written
