use Rattle.std.proofs.Common.{ℕ, subst}
use Rattle.page_model.specs.Spans.{SetsField}
use Rattle.page_model.specs.Steps.{Told}
use Rattle.undo_logs.proofs.StateLemmas.{begun_told}
use Rattle.undo_logs.proofs.committed.begin_purge.Goals as goal

pub returns-clause-begins : goal.returns-clause-begins
returns-clause-begins g c = λ l same state pages is log.
    begun_told _ _ pages l c.args.log.0 is same log state
    (subst (λ (n : ℕ). Told (SetsField c.args.log.0 52 1 n) (g.P.Pages.state c.args.p.now).told (g.P.Pages.state c.write_field.new.p).told) c.from.ensures c.in_ok-write_field.ensures.sets)
