use Rattle.std.proofs.Common.{◌≡◌, Ok, None, lit≤, refl, ◌∙◌, [], ◌∷◌}
use Rattle.page_model.specs.Pages.{field}
use Rattle.page_model.specs.Lists.{last_of}
use Rattle.page_model.proofs.StepLemmas.{may_in, may_near, reaches_at_most, within_one, within_two}
use Rattle.engine_base.specs.Addresses.{address_of}
use Rattle.file_lists.specs.Links.{link_of}
use Rattle.file_lists.specs.Near.{near_before}
use Rattle.file_lists.proofs.RemoveLemmas.{uses1, uses2, last3, last4, last5, removes, nothing_behind}
use Rattle.file_lists.proofs.LinkLemmas.{link_read, plain_read, before_link, at_told, handed_on}
use Rattle.file_lists.proofs.NearLemmas.{last_before}
use Rattle.file_lists.proofs.changes.remove_last.Goals as goal

pub read_link-requires-clause-may : goal.read_link-requires-clause-may
read_link-requires-clause-may g c =
    let near = near_before (g.P.Pages.state c.args.p.now) (address_of c.args.node) in
    may_in near _ _ 1 40 0 0 0 _ _ (within_one _ (_ ∷ [])) (lit≤ tt) (lit≤ tt) c.requires.may (uses1 g.P.Pages.stays_on near _ _ _ (g.P.Pages.stays_still _) _ c.read_field.ensures.uses)

pub point_on-requires-clause-may : goal.point_on-requires-clause-may
point_on-requires-clause-may g c =
    let near = near_before (g.P.Pages.state c.args.p.now) (address_of c.args.node) in
    let to_q = last_before (g.P.Pages.state c.args.p.now) (address_of c.args.node) (address_of c.args.base) _ _ c.in_ok-before.before c.read_field.ensures.told c.read_field.ensures.uses.count c.in_ok-before.ensures.value c.in_ok-before.ensures.place in
    may_near near _ _ 1 40 0 0 14 _ _ to_q (lit≤ tt) (lit≤ tt) c.requires.may (uses2 g.P.Pages.stays_on near _ _ _ (g.P.Pages.stays_still _) _ _ c.read_field.ensures.uses c.read_link.ensures.uses)

pub point_back-requires-clause-may : goal.point_back-requires-clause-may
point_back-requires-clause-may g c =
    let near = near_before (g.P.Pages.state c.args.p.now) (address_of c.args.node) in
    let to_q = last_before (g.P.Pages.state c.args.p.now) (address_of c.args.node) (address_of c.args.base) _ _ c.in_ok-before.before c.read_field.ensures.told c.read_field.ensures.uses.count c.in_ok-before.ensures.value c.in_ok-before.ensures.place in
    may_in near _ _ 1 40 1 14 14 _ _ (within_two _ _ []) (lit≤ tt) (lit≤ tt) c.requires.may (last3 g.P.Pages.stays_on near _ _ _ to_q _ (g.P.Pages.stays_still _) _ _ _ c.read_field.ensures.uses c.read_link.ensures.uses c.point_on.ensures.uses)

pub write_field-requires-clause-may : goal.write_field-requires-clause-may
write_field-requires-clause-may g c =
    let near = near_before (g.P.Pages.state c.args.p.now) (address_of c.args.node) in
    let to_q = last_before (g.P.Pages.state c.args.p.now) (address_of c.args.node) (address_of c.args.base) _ _ c.in_ok-before.before c.read_field.ensures.told c.read_field.ensures.uses.count c.in_ok-before.ensures.value c.in_ok-before.ensures.place in
    may_in near _ _ 1 40 1 28 12 _ _ (within_two _ _ []) (lit≤ tt) (lit≤ tt) c.requires.may (last4 g.P.Pages.stays_on near _ _ _ to_q _ (g.P.Pages.stays_still _) _ _ _ _ c.read_field.ensures.uses c.read_link.ensures.uses c.point_on.ensures.uses c.point_back.ensures.uses)

pub returns-in_err-before-clause-uses : goal.returns-in_err-before-clause-uses
returns-in_err-before-clause-uses g c =
    let near = near_before (g.P.Pages.state c.args.p.now) (address_of c.args.node) in
    reaches_at_most near _ 0 0 1 40 _ _ (lit≤ tt) (lit≤ tt) (uses2 g.P.Pages.stays_on near _ _ _ (g.P.Pages.stays_still _) _ _ c.read_field.ensures.uses c.read_link.ensures.uses)

pub returns-in_err-point_on-clause-uses : goal.returns-in_err-point_on-clause-uses
returns-in_err-point_on-clause-uses g c =
    let near = near_before (g.P.Pages.state c.args.p.now) (address_of c.args.node) in
    let to_q = last_before (g.P.Pages.state c.args.p.now) (address_of c.args.node) (address_of c.args.base) _ _ c.in_ok-before.before c.read_field.ensures.told c.read_field.ensures.uses.count c.in_ok-before.ensures.value c.in_ok-before.ensures.place in
    reaches_at_most near _ 1 14 1 40 _ _ (lit≤ tt) (lit≤ tt) (last3 g.P.Pages.stays_on near _ _ _ to_q _ (g.P.Pages.stays_still _) _ _ _ c.read_field.ensures.uses c.read_link.ensures.uses c.point_on.ensures.uses)

pub returns-in_err-point_back-clause-uses : goal.returns-in_err-point_back-clause-uses
returns-in_err-point_back-clause-uses g c =
    let near = near_before (g.P.Pages.state c.args.p.now) (address_of c.args.node) in
    let to_q = last_before (g.P.Pages.state c.args.p.now) (address_of c.args.node) (address_of c.args.base) _ _ c.in_ok-before.before c.read_field.ensures.told c.read_field.ensures.uses.count c.in_ok-before.ensures.value c.in_ok-before.ensures.place in
    reaches_at_most near _ 1 28 1 40 _ _ (lit≤ tt) (lit≤ tt) (last4 g.P.Pages.stays_on near _ _ _ to_q _ (g.P.Pages.stays_still _) _ _ _ _ c.read_field.ensures.uses c.read_link.ensures.uses c.point_on.ensures.uses c.point_back.ensures.uses)

pub returns-in_err-write_field-clause-uses : goal.returns-in_err-write_field-clause-uses
returns-in_err-write_field-clause-uses g c =
    let near = near_before (g.P.Pages.state c.args.p.now) (address_of c.args.node) in
    let to_q = last_before (g.P.Pages.state c.args.p.now) (address_of c.args.node) (address_of c.args.base) _ _ c.in_ok-before.before c.read_field.ensures.told c.read_field.ensures.uses.count c.in_ok-before.ensures.value c.in_ok-before.ensures.place in
    last5 g.P.Pages.stays_on near _ _ _ to_q _ (g.P.Pages.stays_still _) _ _ _ _ _ c.read_field.ensures.uses c.read_link.ensures.uses c.point_on.ensures.uses c.point_back.ensures.uses c.write_field.ensures.uses

pub returns-clause-uses : goal.returns-clause-uses
returns-clause-uses g c =
    let near = near_before (g.P.Pages.state c.args.p.now) (address_of c.args.node) in
    let to_q = last_before (g.P.Pages.state c.args.p.now) (address_of c.args.node) (address_of c.args.base) _ _ c.in_ok-before.before c.read_field.ensures.told c.read_field.ensures.uses.count c.in_ok-before.ensures.value c.in_ok-before.ensures.place in
    last5 g.P.Pages.stays_on near _ _ _ to_q _ (g.P.Pages.stays_still _) _ _ _ _ _ c.read_field.ensures.uses c.read_link.ensures.uses c.point_on.ensures.uses c.point_back.ensures.uses c.write_field.ensures.uses

pub returns-clause-removes : goal.returns-clause-removes
returns-clause-removes g c = λ pages before is list.
    let s1 = c.read_field.new.p in
    let is1 = c.read_field.ensures.told ∙ is in
    let there = before_link pages _ (address_of c.args.node) before [] _ (g.P.Pages.whole s1 pages is1) list in
    let link = link_read (Ok c.in_ok-before.before) _ _ _ _ pages (last_of before) (g.P.Pages.few s1) is1 c.in_ok-before.ensures.value c.in_ok-before.ensures.place there.0 there.1 in
    let len = at_told _ (λ ps. c.in_ok-len.len ≡ field ps c.args.base.page.0 c.args.base.at 4) pages is c.in_ok-len.ensures.value ∙ list.count in
    nothing_behind _ pages _ _ before (removes _ _ _ _ pages (address_of c.args.base) (address_of c.args.node) before [] (link_of c.in_ok-before.before) None c.in_ok-len.len
    (c.read_link.ensures.told ∙ is1) list link refl len c.in_ok-point_on.ensures.sets c.in_ok-point_back.ensures.sets c.in_ok-write_field.ensures.sets)

pub returns-in_err-before-clause-never : goal.returns-in_err-before-clause-never
returns-in_err-before-clause-never g c = λ pages before is list.
    let s1 = c.read_field.new.p in
    let is1 = c.read_field.ensures.told ∙ is in
    let there = before_link pages _ (address_of c.args.node) before [] _ (g.P.Pages.whole s1 pages is1) list in
    handed_on c.read_link.result _ _ (plain_read c.read_link.result _ _ _ _ pages (last_of before) is1 c.read_link.ensures.never there.0 there.1) c.in_err-before.was c.from_residual-in_err-before.ensures
