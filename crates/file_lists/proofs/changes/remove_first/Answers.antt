use Rattle.std.proofs.Common.{◌≡◌, Ok, None, lit≤, refl, ◌∙◌, [], ◌∷◌}
use Rattle.page_model.specs.Pages.{field}
use Rattle.page_model.specs.Lists.{first_of}
use Rattle.page_model.proofs.StepLemmas.{may_in, may_near, reaches_at_most, within_one, within_two}
use Rattle.engine_base.specs.Addresses.{address_of}
use Rattle.file_lists.specs.Links.{link_of}
use Rattle.file_lists.specs.Near.{near_behind}
use Rattle.file_lists.proofs.RemoveLemmas.{uses1, uses2, first3, first4, first5, removes}
use Rattle.file_lists.proofs.LinkLemmas.{link_read, plain_read, next_link, at_told, handed_on}
use Rattle.file_lists.proofs.NearLemmas.{first_behind}
use Rattle.file_lists.proofs.changes.remove_first.Goals as goal

pub read_link-requires-clause-may : goal.read_link-requires-clause-may
read_link-requires-clause-may g c =
    let near = near_behind (g.P.Pages.state c.args.p.now) (address_of c.args.node) in
    may_in near _ _ 1 40 0 0 0 _ _ (within_one _ (_ ∷ [])) (lit≤ tt) (lit≤ tt) c.requires.may (uses1 g.P.Pages.stays_on near _ _ _ (g.P.Pages.stays_still _) _ c.read_field.ensures.uses)

pub point_on-requires-clause-may : goal.point_on-requires-clause-may
point_on-requires-clause-may g c =
    let near = near_behind (g.P.Pages.state c.args.p.now) (address_of c.args.node) in
    may_in near _ _ 1 40 0 0 14 _ _ (within_two _ _ []) (lit≤ tt) (lit≤ tt) c.requires.may (uses2 g.P.Pages.stays_on near _ _ _ (g.P.Pages.stays_still _) _ _ c.read_field.ensures.uses c.read_link.ensures.uses)

pub point_back-requires-clause-may : goal.point_back-requires-clause-may
point_back-requires-clause-may g c =
    let near = near_behind (g.P.Pages.state c.args.p.now) (address_of c.args.node) in
    let to_q = first_behind (g.P.Pages.state c.args.p.now) (address_of c.args.node) (address_of c.args.base) _ _ c.in_ok-behind.behind c.read_field.ensures.told c.read_field.ensures.uses.count c.in_ok-behind.ensures.value c.in_ok-behind.ensures.place in
    may_near near _ _ 1 40 0 14 14 _ _ to_q (lit≤ tt) (lit≤ tt) c.requires.may (first3 g.P.Pages.stays_on near _ _ _ to_q _ (g.P.Pages.stays_still _) _ _ _ c.read_field.ensures.uses c.read_link.ensures.uses c.point_on.ensures.uses)

pub write_field-requires-clause-may : goal.write_field-requires-clause-may
write_field-requires-clause-may g c =
    let near = near_behind (g.P.Pages.state c.args.p.now) (address_of c.args.node) in
    let to_q = first_behind (g.P.Pages.state c.args.p.now) (address_of c.args.node) (address_of c.args.base) _ _ c.in_ok-behind.behind c.read_field.ensures.told c.read_field.ensures.uses.count c.in_ok-behind.ensures.value c.in_ok-behind.ensures.place in
    may_in near _ _ 1 40 1 28 12 _ _ (within_two _ _ []) (lit≤ tt) (lit≤ tt) c.requires.may (first4 g.P.Pages.stays_on near _ _ _ to_q _ (g.P.Pages.stays_still _) _ _ _ _ c.read_field.ensures.uses c.read_link.ensures.uses c.point_on.ensures.uses c.point_back.ensures.uses)

pub returns-in_err-behind-clause-uses : goal.returns-in_err-behind-clause-uses
returns-in_err-behind-clause-uses g c =
    let near = near_behind (g.P.Pages.state c.args.p.now) (address_of c.args.node) in
    reaches_at_most near _ 0 0 1 40 _ _ (lit≤ tt) (lit≤ tt) (uses2 g.P.Pages.stays_on near _ _ _ (g.P.Pages.stays_still _) _ _ c.read_field.ensures.uses c.read_link.ensures.uses)

pub returns-in_err-point_on-clause-uses : goal.returns-in_err-point_on-clause-uses
returns-in_err-point_on-clause-uses g c =
    let near = near_behind (g.P.Pages.state c.args.p.now) (address_of c.args.node) in
    let to_q = first_behind (g.P.Pages.state c.args.p.now) (address_of c.args.node) (address_of c.args.base) _ _ c.in_ok-behind.behind c.read_field.ensures.told c.read_field.ensures.uses.count c.in_ok-behind.ensures.value c.in_ok-behind.ensures.place in
    reaches_at_most near _ 0 14 1 40 _ _ (lit≤ tt) (lit≤ tt) (first3 g.P.Pages.stays_on near _ _ _ to_q _ (g.P.Pages.stays_still _) _ _ _ c.read_field.ensures.uses c.read_link.ensures.uses c.point_on.ensures.uses)

pub returns-in_err-point_back-clause-uses : goal.returns-in_err-point_back-clause-uses
returns-in_err-point_back-clause-uses g c =
    let near = near_behind (g.P.Pages.state c.args.p.now) (address_of c.args.node) in
    let to_q = first_behind (g.P.Pages.state c.args.p.now) (address_of c.args.node) (address_of c.args.base) _ _ c.in_ok-behind.behind c.read_field.ensures.told c.read_field.ensures.uses.count c.in_ok-behind.ensures.value c.in_ok-behind.ensures.place in
    reaches_at_most near _ 1 28 1 40 _ _ (lit≤ tt) (lit≤ tt) (first4 g.P.Pages.stays_on near _ _ _ to_q _ (g.P.Pages.stays_still _) _ _ _ _ c.read_field.ensures.uses c.read_link.ensures.uses c.point_on.ensures.uses c.point_back.ensures.uses)

pub returns-in_err-write_field-clause-uses : goal.returns-in_err-write_field-clause-uses
returns-in_err-write_field-clause-uses g c =
    let near = near_behind (g.P.Pages.state c.args.p.now) (address_of c.args.node) in
    let to_q = first_behind (g.P.Pages.state c.args.p.now) (address_of c.args.node) (address_of c.args.base) _ _ c.in_ok-behind.behind c.read_field.ensures.told c.read_field.ensures.uses.count c.in_ok-behind.ensures.value c.in_ok-behind.ensures.place in
    first5 g.P.Pages.stays_on near _ _ _ to_q _ (g.P.Pages.stays_still _) _ _ _ _ _ c.read_field.ensures.uses c.read_link.ensures.uses c.point_on.ensures.uses c.point_back.ensures.uses c.write_field.ensures.uses

pub returns-clause-uses : goal.returns-clause-uses
returns-clause-uses g c =
    let near = near_behind (g.P.Pages.state c.args.p.now) (address_of c.args.node) in
    let to_q = first_behind (g.P.Pages.state c.args.p.now) (address_of c.args.node) (address_of c.args.base) _ _ c.in_ok-behind.behind c.read_field.ensures.told c.read_field.ensures.uses.count c.in_ok-behind.ensures.value c.in_ok-behind.ensures.place in
    first5 g.P.Pages.stays_on near _ _ _ to_q _ (g.P.Pages.stays_still _) _ _ _ _ _ c.read_field.ensures.uses c.read_link.ensures.uses c.point_on.ensures.uses c.point_back.ensures.uses c.write_field.ensures.uses

pub returns-clause-removes : goal.returns-clause-removes
returns-clause-removes g c = λ pages behind is list.
    let s1 = c.read_field.new.p in
    let is1 = c.read_field.ensures.told ∙ is in
    let there = next_link pages _ (address_of c.args.node) [] behind _ (g.P.Pages.whole s1 pages is1) list in
    let link = link_read (Ok c.in_ok-behind.behind) _ _ _ _ pages (first_of behind) (g.P.Pages.few s1) is1 c.in_ok-behind.ensures.value c.in_ok-behind.ensures.place there.0 there.1 in
    let len = at_told _ (λ ps. c.in_ok-len.len ≡ field ps c.args.base.page.0 c.args.base.at 4) pages is c.in_ok-len.ensures.value ∙ list.count in
    removes _ _ _ _ pages (address_of c.args.base) (address_of c.args.node) [] behind None (link_of c.in_ok-behind.behind) c.in_ok-len.len
    (c.read_link.ensures.told ∙ is1) list refl link len c.in_ok-point_on.ensures.sets c.in_ok-point_back.ensures.sets c.in_ok-write_field.ensures.sets

pub returns-in_err-behind-clause-never : goal.returns-in_err-behind-clause-never
returns-in_err-behind-clause-never g c = λ pages behind is list.
    let s1 = c.read_field.new.p in
    let is1 = c.read_field.ensures.told ∙ is in
    let there = next_link pages _ (address_of c.args.node) [] behind _ (g.P.Pages.whole s1 pages is1) list in
    handed_on c.read_link.result _ _ (plain_read c.read_link.result _ _ _ _ pages (first_of behind) is1 c.read_link.ensures.never there.0 there.1) c.in_err-behind.was c.from_residual-in_err-behind.ensures
