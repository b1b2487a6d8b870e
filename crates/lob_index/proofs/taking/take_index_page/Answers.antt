use Rattle.std.proofs.Common.{◌≡◌, ℕ, sym, subst, ◌∙◌, lit≤}
use Rattle.page_model.specs.Pages.{field}
use Rattle.page_model.specs.Spans.{SetsField}
use Rattle.page_model.proofs.StepLemmas.{uses_at_most, told_step}
use Rattle.page_space.proofs.MapLemmas.{at_told}
use Rattle.lob_index.specs.IndexPages.{MakesIndexPage, SetsFreeBase}
use Rattle.lob_index.proofs.StepLemmas.{made, chained, based, named_based, take_may, make_may, chain_may, base_may}
use Rattle.lob_index.proofs.TakeLemmas.{took_page}
use Rattle.lob_index.proofs.taking.take_index_page.Goals as goal

pub take-requires-clause-may : goal.take-requires-clause-may
take-requires-clause-may g c = take_may g.P.Pages.stays_on c.args.page.0 0 c.args.p.now c.read_field.new.p c.read_field.new.p c.read_field.new.p c.read_field.new.p c.read_field.new.p c.requires.may c.read_field.ensures.uses

pub write_index_page-requires-clause-may : goal.write_index_page-requires-clause-may
write_index_page-requires-clause-may g c =
    make_may g.P.Pages.stays_on c.args.page.0 c.in_ok-taken.taken.0 c.args.p.now c.read_field.new.p c.take.new.p c.take.new.p c.take.new.p c.take.new.p c.requires.may c.read_field.ensures.uses c.take.ensures.uses

pub returns-in_err-write_index_page-clause-uses : goal.returns-in_err-write_index_page-clause-uses
returns-in_err-write_index_page-clause-uses g c =
    let s = c.write_index_page.new.p in
    uses_at_most _ 1 16_413 1 16_449 c.args.p.now s (lit≤ tt) (lit≤ tt)
    (made g.P.Pages.stays_on c.args.page.0 c.in_ok-taken.taken.0 c.args.p.now c.read_field.new.p c.take.new.p s s s c.read_field.ensures.uses c.take.ensures.uses c.write_index_page.ensures.uses)

pub write_field-requires-clause-may : goal.write_field-requires-clause-may
write_field-requires-clause-may g c =
    let s = c.write_index_page.new.p in
    chain_may g.P.Pages.stays_on c.args.page.0 c.in_ok-taken.taken.0 c.args.p.now c.read_field.new.p c.take.new.p s s s c.requires.may c.read_field.ensures.uses c.take.ensures.uses c.write_index_page.ensures.uses

pub returns-in_err-write_field-clause-uses : goal.returns-in_err-write_field-clause-uses
returns-in_err-write_field-clause-uses g c =
    let s = c.write_field.new.p in
    uses_at_most _ 1 16_425 1 16_449 c.args.p.now s (lit≤ tt) (lit≤ tt)
    (chained g.P.Pages.stays_on c.args.page.0 c.in_ok-taken.taken.0 c.args.p.now c.read_field.new.p c.take.new.p c.write_index_page.new.p s s c.read_field.ensures.uses c.take.ensures.uses c.write_index_page.ensures.uses c.write_field.ensures.uses)

pub write_free_base-requires-clause-may : goal.write_free_base-requires-clause-may
write_free_base-requires-clause-may g c =
    let s = c.write_field.new.p in
    base_may g.P.Pages.stays_on c.args.page.0 c.in_ok-taken.taken.0 c.args.p.now c.read_field.new.p c.take.new.p c.write_index_page.new.p s s c.requires.may c.read_field.ensures.uses c.take.ensures.uses c.write_index_page.ensures.uses c.write_field.ensures.uses

pub returns-in_err-write_free_base-clause-uses : goal.returns-in_err-write_free_base-clause-uses
returns-in_err-write_free_base-clause-uses g c =
    based g.P.Pages.stays_on c.args.page.0 c.in_ok-taken.taken.0 c.args.p.now c.read_field.new.p c.take.new.p c.write_index_page.new.p c.write_field.new.p c.write_free_base.new.p c.read_field.ensures.uses c.take.ensures.uses c.write_index_page.ensures.uses c.write_field.ensures.uses c.write_free_base.ensures.uses

pub returns-clause-uses : goal.returns-clause-uses
returns-clause-uses g c =
    based g.P.Pages.stays_on c.args.page.0 c.in_ok-taken.taken.0 c.args.p.now c.read_field.new.p c.take.new.p c.write_index_page.new.p c.write_field.new.p c.write_free_base.new.p c.read_field.ensures.uses c.take.ensures.uses c.write_index_page.ensures.uses c.write_field.ensures.uses c.write_free_base.ensures.uses

pub returns-clause-takes : goal.returns-clause-takes
returns-clause-takes g c = λ pages lob is first can none.
    let page = c.args.page.0 in
    let q = c.in_ok-taken.taken.0 in
    let behind = c.in_ok-behind.field-0 in
    let is1 = c.read_field.ensures.told ∙ is in
    let t1 = c.in_ok-taken.ensures.takes pages is1 can.map can.covered in
    let t2 = told_step (MakesIndexPage q behind) _ _ t1.0 t1.1 c.in_ok-write_index_page.ensures.makes in
    let t3 = told_step (SetsField page 12 4 c.from.result) _ _ t2.0 t2.1 c.in_ok-write_field.ensures.sets in
    let t4 = told_step (SetsFreeBase page q) _ _ t3.0 t3.1 c.in_ok-write_free_base.ensures.sets in
    let value = at_told _ (λ ps. behind ≡ field ps page 12 4) pages is c.in_ok-behind.ensures.value in
    let V : ℕ → Type 0 = λ v. SetsField page 12 4 v t2.0 t3.0 in
    let F : ℕ → Type 0 = λ n. SetsField n 12 4 q t2.0 t3.0 in
    let B : ℕ → Type 0 = λ n. SetsFreeBase n q t3.0 t4.0 in
    let R : ℕ → Type 0 = λ n. behind ≡ field pages n 12 4 in
    let back = sym first in (
      t4.0,
      t4.1,
      took_page pages t1.0 t2.0 t3.0 t4.0 lob q behind c.args.space.now c.take.new.self can none t1.2.0 t2.2 (subst F back (subst V c.from.ensures t3.2)) (subst B back t4.2) (subst R back value) c.in_ok-taken.ensures.ok,
    )

pub returns-clause-named : goal.returns-clause-named
returns-clause-named g c =
    named_based g.P.Pages.stays_on c.args.page.0 c.in_ok-taken.taken.0 c.args.p.now c.read_field.new.p c.take.new.p c.write_index_page.new.p c.write_field.new.p c.write_free_base.new.p c.read_field.ensures.uses c.take.ensures.uses c.write_index_page.ensures.uses c.write_field.ensures.uses c.write_free_base.ensures.uses
