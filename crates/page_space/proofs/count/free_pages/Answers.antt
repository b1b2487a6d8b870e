use Rattle.std.proofs.Common.{◌≡◌, arith}
use Rattle.page_space.specs.Map.{free_of}
use Rattle.page_space.proofs.MapLemmas.{at_told, count_within}
use Rattle.page_space.proofs.count.free_pages.Goals as goal

pub returns-then-free-from-clause-never : goal.returns-then-free-from-clause-never
returns-then-free-from-clause-never g c = λ pages is map.
    let free = at_told _ (λ ps. c.in_ok-free.free ≡ free_of ps) pages is c.in_ok-free.ensures.value in
    let whole = g.P.Pages.whole c.args.p.now pages is in
    absurd (omega (arith, free, whole.many, count_within pages map, c.if-free-from.true, c.from.ensures, c.count-count.ensures))
