use Rattle.lob_bytes.proofs.FreeLemmas.{on_first}
use Rattle.lob_bytes.proofs.frees.free_first.Goals as goal

pub returns-clause-gives : goal.returns-clause-gives
returns-clause-gives g c = λ pages is map used.
    on_first c.give.result pages _ c.args.page.0 (g.P.Pages.state c.args.p.now).count (g.P.Pages.whole c.args.p.now pages is).many c.requires.page map used (c.give.ensures.gives pages is map used)
