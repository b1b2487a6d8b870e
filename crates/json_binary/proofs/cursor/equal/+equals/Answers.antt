use Rattle.std.proofs.Common.{◌∙◌, sym, arith}
use Rattle.json_binary.specs.Place.{container_of}
use Rattle.json_binary.proofs.SizeLemmas.{item_depth, member_depth}
use Rattle.json_binary.proofs.EqualLemmas.{uneven_elements, element_step, elements_done, uneven_members, member_step, members_done}
use Rattle.json_binary.proofs.cursor.equal.+equals.Goals as goal

-- ---- elements

pub elements_equal-returns-then-count-items : goal.elements_equal-returns-then-count-items
elements_equal-returns-then-count-items t c =
    λ ts floor a n. uneven_elements ts c.args.items.now (λ e. c.if-count-items.true (c.count.ensures.count ∙ sym n ∙ e))

pub elements_equal-child_equals-requires : goal.elements_equal-child_equals-requires
elements_equal-child_equals-requires t c =
    let d = item_depth c.args.items.now c.loop-k.k c.index-items-k.result (omega (arith, c.loop-k-test.true)) c.index-items-k.is in
    (omega (arith, d, c.decreases), (c.requires.framed, omega (arith, c.loop-k-test.true, c.if-count-items.false, c.count.ensures.count)))

pub elements_equal-returns-then-not-child_equals : goal.elements_equal-returns-then-not-child_equals
elements_equal-returns-then-not-child_equals t c =
    let d = container_of c.args.container in
    let items = c.args.items.now in
    λ ts floor a n. element_step c.args.bytes.now d c.loop-k.k floor ts items c.index-items-k.result c.child_equals.result _ c.if-not-child_equals.true a (omega (arith, n, c.loop-k-test.true, c.if-count-items.false, c.count.ensures.count)) (omega (arith, c.loop-k-test.true)) c.index-items-k.is
    c.child_equals.ensures (c.loop-k.invariant ts floor a n)

pub elements_equal-loop-k-preserved : goal.elements_equal-loop-k-preserved
elements_equal-loop-k-preserved t c =
    let d = container_of c.args.container in
    let items = c.args.items.now in
    λ ts floor a n. element_step c.args.bytes.now d c.loop-k.k floor ts items c.index-items-k.result c.child_equals.result _ c.if-not-child_equals.false a (omega (arith, n, c.loop-k-test.true, c.if-count-items.false, c.count.ensures.count)) (omega (arith, c.loop-k-test.true)) c.index-items-k.is
    c.child_equals.ensures (c.loop-k.invariant ts floor a n)

pub elements_equal-returns : goal.elements_equal-returns
elements_equal-returns t c =
    λ ts floor a n. elements_done c.args.bytes.now (container_of c.args.container) c.loop-k.k floor ts c.args.items.now (omega (arith, n, c.loop-k-test.false, c.if-count-items.false, c.count.ensures.count)) c.loop-k-test.false (c.loop-k.invariant ts floor a n)

-- ---- members

pub members_equal-returns-then-count-pairs : goal.members_equal-returns-then-count-pairs
members_equal-returns-then-count-pairs t c =
    λ ms start floor a h n. uneven_members ms c.args.pairs.now (λ e. c.if-count-pairs.true (c.count.ensures.count ∙ sym n ∙ e))

pub members_equal-member_equals-requires : goal.members_equal-member_equals-requires
members_equal-member_equals-requires t c =
    let d = member_depth c.args.pairs.now c.loop-k.k c.index-pairs-k.result c.loop-k-test.true c.index-pairs-k.is in
    (omega (arith, d, c.decreases), (c.requires.framed, (c.requires.object, omega (arith, c.loop-k-test.true, c.if-count-pairs.false, c.count.ensures.count))))

pub members_equal-returns-then-not-member_equals : goal.members_equal-returns-then-not-member_equals
members_equal-returns-then-not-member_equals t c =
    let d = container_of c.args.container in
    let pairs = c.args.pairs.now in
    λ ms start floor a h n. member_step c.args.bytes.now d c.loop-k.k start floor ms pairs c.index-pairs-k.result c.member_equals.result _ c.if-not-member_equals.true a h c.requires.framed.1 (omega (arith, n, c.loop-k-test.true, c.if-count-pairs.false, c.count.ensures.count)) c.loop-k-test.true
    c.index-pairs-k.is c.member_equals.ensures (c.loop-k.invariant ms start floor a h n)

pub members_equal-loop-k-preserved : goal.members_equal-loop-k-preserved
members_equal-loop-k-preserved t c =
    let d = container_of c.args.container in
    let pairs = c.args.pairs.now in
    λ ms start floor a h n. member_step c.args.bytes.now d c.loop-k.k start floor ms pairs c.index-pairs-k.result c.member_equals.result _ c.if-not-member_equals.false a h c.requires.framed.1 (omega (arith, n, c.loop-k-test.true, c.if-count-pairs.false, c.count.ensures.count)) c.loop-k-test.true
    c.index-pairs-k.is c.member_equals.ensures (c.loop-k.invariant ms start floor a h n)

pub members_equal-returns : goal.members_equal-returns
members_equal-returns t c =
    λ ms start floor a h n. members_done c.args.bytes.now (container_of c.args.container) c.loop-k.k start floor ms c.args.pairs.now (omega (arith, n, c.loop-k-test.false, c.if-count-pairs.false, c.count.ensures.count)) c.loop-k-test.false
    (c.loop-k.invariant ms start floor a h n)
