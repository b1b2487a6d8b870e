use Rattle.std.proofs.Common.{◌+◌, [], ◌∷◌, ◌≡◌, lit≤, ◌∙◌, arith}
use Rattle.page_model.specs.Pages.{field}
use Rattle.page_model.proofs.StepLemmas.{may_within, uses_within}
use Rattle.file_lists.proofs.LinkLemmas.{at_told}
use Rattle.row_dir.proofs.HonestLemmas.{none_more}
use Rattle.row_dir.proofs.SlotChangeLemmas.{free_here, free_behind}
use Rattle.row_dir.proofs.row_pages.free_slot.Goals as goal

pub read_field-requires-clause-may : goal.read_field-requires-clause-may
read_field-requires-clause-may g c =
    let page = c.args.page.0 in
    may_within (page ∷ []) (page ∷ []) 0 0 0 0 0 0 c.args.p.now c.slots.p (λ n is. is) (lit≤ tt) (lit≤ tt) c.requires.may c.slots.invariant.uses

pub read_field-requires-2-clause-may : goal.read_field-requires-2-clause-may
read_field-requires-2-clause-may g c =
    let page = c.args.page.0 in
    may_within (page ∷ []) (page ∷ []) 0 0 0 0 0 0 c.args.p.now c.slots.p (λ n is. is) (lit≤ tt) (lit≤ tt) c.requires.may c.slots.invariant.uses

pub returns-then-branch-eq0-clause-value : goal.returns-then-branch-eq0-clause-value
returns-then-branch-eq0-clause-value g c = λ pages slots is are many.
    let i = c.slots.invariant.passed pages slots is are many in
    let reads = at_told _ (λ ps. c.in_ok-read_field.field-0 ≡ field ps c.args.page.0 c.slots.at 1) pages (c.slots.invariant.told ∙ is) c.in_ok-read_field.ensures.value in
    free_here pages c.args.page.0 c.slots.at c.in_ok-read_field.field-0 slots i.0 i.1 i.2 many i.3 i.4 i.5 c.slots-test.true reads (let z = c.if-branch-eq0.true in omega (arith, z))

pub slots-preserved : goal.slots-preserved
slots-preserved g c =
    let page = c.args.page.0 in
    let steps = c.slots.invariant.steps in
    record {
      told = c.read_field.ensures.told ∙ c.slots.invariant.told;
      uses = uses_within g.P.Pages.stays_on (page ∷ []) (page ∷ []) 0 0 0 0 c.args.p.now c.slots.p c.read_field.new.p (λ n is. is) c.slots.invariant.uses c.read_field.ensures.uses;
      faults = (let a = c.slots.invariant.faults in let b = c.read_field.ensures.cause.later in omega (arith, a, b));
      low = (let a = c.slots.invariant.low in omega (arith, a));
      seen = none_more _ _ page c.slots.at steps.0 c.in_ok-read_field.field-0 c.slots.invariant.told steps.1 c.slots.invariant.seen c.in_ok-read_field.ensures.value c.if-branch-eq0.false;
      steps = (steps.0 + 1, (let e = steps.1 in omega (arith, e)));
      passed = λ pages slots is are many.
          let i = c.slots.invariant.passed pages slots is are many in
          let reads = at_told _ (λ ps. c.in_ok-read_field.field-0 ≡ field ps c.args.page.0 c.slots.at 1) pages (c.slots.invariant.told ∙ is) c.in_ok-read_field.ensures.value in
          free_behind pages c.args.page.0 c.slots.at c.in_ok-read_field.field-0 slots i.0 i.1 i.2 many i.3 i.4 i.5 c.slots-test.true reads (let z = c.if-branch-eq0.false in omega (arith, z));
    }
