use Rattle.std.proofs.Common.{◌≡◌, false, map, take}
use Rattle.page_model.specs.Steps.{among}
use Rattle.mini_trx.specs.Copies.{copy_of, page_of}
use Rattle.mini_trx.proofs.lent.find.Given as goal

abbrev pub invariant-loop-i : goal.invariant-loop-i
invariant-loop-i l = among (map page_of (map copy_of (take l.i l.places))) l.page.0 ≡ false
