use Rattle.std.proofs.Common.{◌∙◌}
use Rattle.undo_logs.specs.Changes.{with_purge_begun}
use Rattle.purge.proofs.LogLemmas.{on_told, at_first, page_is, state_is}
use Rattle.purge.proofs.log.begin.Goals as goal

pub returns-clause-begins : goal.returns-clause-begins
returns-clause-begins g c = λ there pages store l ls at state.
    let log = c.args.log.0 in
    let f = at_first _ log there pages store l ls at in
    on_told c.begin_purge.result _ _ _ (λ new ch. f.changed new with_purge_begun ch)
    (c.begin_purge.ensures.begins f.log (page_is _ log there pages store l ls at)
    (state_is _ log there pages store l ls at ∙ state) pages at.told' f.stands)
