use Rattle.std.proofs.Common.{◌≡◌, ℕ, ◌+◌, [], ◌∷◌, refl, subst, ◌∙◌, sym, arith, lit≤}
use Rattle.page_model.specs.Pages.{field}
use Rattle.page_model.proofs.StepLemmas.{may_within, uses_within, uses_nowhere}
use Rattle.engine_base.specs.Addresses.{address_of}
use Rattle.undo_logs.specs.Purged.{WalksTo}
use Rattle.undo_logs.proofs.ToldLemmas.{told_is}
use Rattle.undo_logs.proofs.WalkLemmas.{walk_begins, walk_next, size_there}
use Rattle.undo_logs.proofs.purged.boundary.Goals as goal

pub read_field-requires-clause-may : goal.read_field-requires-clause-may
read_field-requires-clause-may g c =
    let page = c.args.a.page.0 in
    may_within (page ∷ []) (page ∷ []) 0 0 0 0 0 0 c.args.p.now c.records.p (λ n is. is) (lit≤ tt) (lit≤ tt) c.requires.may c.records.invariant.uses

pub records-init : goal.records-init
records-init g c = record {
  told = refl;
  faults = omega arith;
  uses = uses_nowhere (c.args.a.page.0 ∷ []) c.args.p.now (g.P.Pages.stays_still c.args.p.now);
  value = λ pages l is same log has low.
      walk_begins pages l (address_of c.args.a) c.from-place.result log has
      (λ e. c.from-place.ensures ∙ c.start_of.ensures.first (e ∙ same))
      (λ far. c.from-place.ensures ∙ c.start_of.ensures.other (λ e. far (e ∙ sym same)));
}

pub returns-then-size-eq0-clause-never : goal.returns-then-size-eq0-clause-never
returns-then-size-eq0-clause-never g c = λ pages l is same log has low.
    let page = c.args.a.page.0 in
    let place = c.records.place in
    let t = c.records-test.true in
    let n = walk_next pages l (address_of c.args.a) place (c.records.invariant.value pages l is same log has low) (omega (arith, t, low, c.from.ensures)) in
    let size = told_is (λ ps. c.in_ok-size.size ≡ field ps page place 2) _ pages (c.records.invariant.told ∙ is) c.in_ok-size.ensures.value in
    let s = n.stands in
    let here = n.same_page in
    let at = n.here in
    let z = c.if-size-eq0.true in
    absurd (omega (arith, size_there pages page place n.entry.at n.entry.undo _ here at s, size, z))

pub records-preserved : goal.records-preserved
records-preserved g c =
    let i = c.records.invariant in
    let page = c.args.a.page.0 in
    let place = c.records.place in
    record {
      told = c.read_field.ensures.told ∙ i.told;
      faults = (let f = i.faults in let d = c.read_field.ensures.cause.later in omega (arith, f, d));
      uses = uses_within g.P.Pages.stays_on (page ∷ []) (page ∷ []) 0 0 0 0 c.args.p.now c.records.p c.read_field.new.p (λ n is. is) i.uses c.read_field.ensures.uses;
      value = λ pages l is same log has low.
          let t = c.records-test.true in
          let n = walk_next pages l (address_of c.args.a) place (i.value pages l is same log has low) (omega (arith, t, low, c.from.ensures)) in
          let size = told_is (λ ps. c.in_ok-size.size ≡ field ps page place 2) _ pages (i.told ∙ is) c.in_ok-size.ensures.value in
          subst (λ (k : ℕ). WalksTo l (address_of c.args.a) (place + k) pages) (sym (size ∙ size_there pages page place n.entry.at n.entry.undo _ n.same_page n.here n.stands)) (n.goes_on (omega (arith, t, c.from.ensures)));
    }
