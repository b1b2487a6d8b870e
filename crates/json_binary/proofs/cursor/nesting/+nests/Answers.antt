use Rattle.std.proofs.Common.{arith}
use Rattle.json_binary.specs.Place.{container_of, spot_of}
use Rattle.json_binary.proofs.NestingLemmas.{container_nests, values_nest_in, scalar_nests, child_passes, child_stays, children_done}
use Rattle.json_binary.proofs.cursor.nesting.+nests.Goals as goal

-- ---- a value

pub nests-returns-in-Some : goal.nests-returns-in-Some
nests-returns-in-Some t c =
    λ u v. container_nests c.args.bytes.now (spot_of c.args.spot) (container_of c.in-Some.field-0) u c.args.most c.in-Some.ensures.place c.if-most-eq0.true v

pub nests-returns-in-Some-2 : goal.nests-returns-in-Some-2
nests-returns-in-Some-2 t c =
    λ u v. values_nest_in c.args.bytes.now (spot_of c.args.spot) (container_of c.in-Some.field-0) u c.args.most c.values_nest.result c.in-Some.ensures.place c.if-most-eq0.false c.values_nest.ensures v

pub nests-returns-in-None : goal.nests-returns-in-None
nests-returns-in-None t c =
    λ u v. scalar_nests c.args.bytes.now (spot_of c.args.spot) u c.args.most (c.in-None.ensures.stands u v) v

-- ---- the values of a container

pub values_nest-returns-then-child_nests : goal.values_nest-returns-then-child_nests
values_nest-returns-then-child_nests t c =
    λ ts floor a n. child_passes c.args.bytes.now (container_of c.args.container) c.loop-k.k floor c.args.most ts c.child_nests.result c.if-child_nests.true a (omega (arith, n, c.loop-k-test.true, c.count-count.ensures.count)) c.child_nests.ensures

pub values_nest-loop-k-preserved : goal.values_nest-loop-k-preserved
values_nest-loop-k-preserved t c =
    λ ts floor a n. child_stays c.args.bytes.now (container_of c.args.container) c.loop-k.k floor c.args.most ts c.child_nests.result c.if-child_nests.false a (omega (arith, n, c.loop-k-test.true, c.count-count.ensures.count)) c.child_nests.ensures
    (c.loop-k.invariant ts floor a n)

pub values_nest-returns : goal.values_nest-returns
values_nest-returns t c =
    λ ts floor a n. children_done c.args.bytes.now (container_of c.args.container) c.loop-k.k floor c.args.most ts (omega (arith, n, c.loop-k-test.false, c.count-count.ensures.count)) (c.loop-k.invariant ts floor a n)
