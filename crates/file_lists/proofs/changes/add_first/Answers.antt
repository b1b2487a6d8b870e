use Rattle.std.proofs.Common.{◌≡◌, Ok, lit≤, ◌∙◌, [], ◌∷◌}
use Rattle.page_model.specs.Pages.{field}
use Rattle.page_model.specs.Lists.{first_of}
use Rattle.page_model.proofs.StepLemmas.{may_in, may_near, reaches_at_most, within_one, within_two}
use Rattle.engine_base.specs.Addresses.{address_of}
use Rattle.file_lists.specs.Links.{link_of}
use Rattle.file_lists.proofs.AddLemmas.{uses1, uses2, uses3, uses4, uses5, uses6, uses7, adds_first}
use Rattle.file_lists.proofs.LinkLemmas.{link_read, first_link, at_told, place_told}
use Rattle.file_lists.specs.Near.{near_front}
use Rattle.file_lists.proofs.NearLemmas.{front_behind}
use Rattle.file_lists.proofs.changes.add_first.Goals as goal

pub read_link-requires-clause-may : goal.read_link-requires-clause-may
read_link-requires-clause-may g c =
    let near = near_front (g.P.Pages.state c.args.p.now) (address_of c.args.base) in
    may_in near _ _ 1 68 0 0 0 _ _ (within_two _ _ []) (lit≤ tt) (lit≤ tt) c.requires.may (uses1 g.P.Pages.stays_on near _ _ _ (g.P.Pages.stays_still _) _ c.read_field.ensures.uses)

pub point_back-requires-clause-may : goal.point_back-requires-clause-may
point_back-requires-clause-may g c =
    let near = near_front (g.P.Pages.state c.args.p.now) (address_of c.args.base) in
    let to_q = front_behind (g.P.Pages.state c.args.p.now) c.args.node.page.0 (address_of c.args.base) _ _ c.in_ok-old.old c.read_field.ensures.told c.read_field.ensures.uses.count c.in_ok-old.ensures.value c.in_ok-old.ensures.place in
    may_near near _ _ 1 68 0 0 14 _ _ to_q (lit≤ tt) (lit≤ tt) c.requires.may (uses2 g.P.Pages.stays_on near _ _ _ (g.P.Pages.stays_still _) _ _ c.read_field.ensures.uses c.read_link.ensures.uses)

pub write_link-requires-clause-may : goal.write_link-requires-clause-may
write_link-requires-clause-may g c =
    let near = near_front (g.P.Pages.state c.args.p.now) (address_of c.args.base) in
    let to_q = front_behind (g.P.Pages.state c.args.p.now) c.args.node.page.0 (address_of c.args.base) _ _ c.in_ok-old.old c.read_field.ensures.told c.read_field.ensures.uses.count c.in_ok-old.ensures.value c.in_ok-old.ensures.place in
    may_in near _ _ 1 68 1 14 14 _ _ (within_one _ (_ ∷ [])) (lit≤ tt) (lit≤ tt) c.requires.may (uses3 g.P.Pages.stays_on near _ _ _ to_q _ (g.P.Pages.stays_still _) _ _ _ c.read_field.ensures.uses c.read_link.ensures.uses c.point_back.ensures.uses)

pub write_link-requires-2-clause-may : goal.write_link-requires-2-clause-may
write_link-requires-2-clause-may g c =
    let near = near_front (g.P.Pages.state c.args.p.now) (address_of c.args.base) in
    let to_q = front_behind (g.P.Pages.state c.args.p.now) c.args.node.page.0 (address_of c.args.base) _ _ c.in_ok-old.old c.read_field.ensures.told c.read_field.ensures.uses.count c.in_ok-old.ensures.value c.in_ok-old.ensures.place in
    may_in near _ _ 1 68 1 28 14 _ _ (within_one _ (_ ∷ [])) (lit≤ tt) (lit≤ tt) c.requires.may (uses4 g.P.Pages.stays_on near _ _ _ to_q _ (g.P.Pages.stays_still _) _ _ _ _ c.read_field.ensures.uses c.read_link.ensures.uses c.point_back.ensures.uses c.write_link.ensures.uses)

pub write_link-requires-3-clause-may : goal.write_link-requires-3-clause-may
write_link-requires-3-clause-may g c =
    let near = near_front (g.P.Pages.state c.args.p.now) (address_of c.args.base) in
    let to_q = front_behind (g.P.Pages.state c.args.p.now) c.args.node.page.0 (address_of c.args.base) _ _ c.in_ok-old.old c.read_field.ensures.told c.read_field.ensures.uses.count c.in_ok-old.ensures.value c.in_ok-old.ensures.place in
    may_in near _ _ 1 68 1 42 14 _ _ (within_two _ _ []) (lit≤ tt) (lit≤ tt) c.requires.may (uses5 g.P.Pages.stays_on near _ _ _ to_q _ (g.P.Pages.stays_still _) _ _ _ _ _ c.read_field.ensures.uses c.read_link.ensures.uses c.point_back.ensures.uses c.write_link.ensures.uses c.write_link-2.ensures.uses)

pub write_field-requires-clause-may : goal.write_field-requires-clause-may
write_field-requires-clause-may g c =
    let near = near_front (g.P.Pages.state c.args.p.now) (address_of c.args.base) in
    let to_q = front_behind (g.P.Pages.state c.args.p.now) c.args.node.page.0 (address_of c.args.base) _ _ c.in_ok-old.old c.read_field.ensures.told c.read_field.ensures.uses.count c.in_ok-old.ensures.value c.in_ok-old.ensures.place in
    may_in near _ _ 1 68 1 56 12 _ _ (within_two _ _ []) (lit≤ tt) (lit≤ tt) c.requires.may (uses6 g.P.Pages.stays_on near _ _ _ to_q _ (g.P.Pages.stays_still _) _ _ _ _ _ _ c.read_field.ensures.uses c.read_link.ensures.uses c.point_back.ensures.uses c.write_link.ensures.uses c.write_link-2.ensures.uses c.write_link-3.ensures.uses)

pub returns-in_err-point_back-clause-uses : goal.returns-in_err-point_back-clause-uses
returns-in_err-point_back-clause-uses g c =
    let near = near_front (g.P.Pages.state c.args.p.now) (address_of c.args.base) in
    let to_q = front_behind (g.P.Pages.state c.args.p.now) c.args.node.page.0 (address_of c.args.base) _ _ c.in_ok-old.old c.read_field.ensures.told c.read_field.ensures.uses.count c.in_ok-old.ensures.value c.in_ok-old.ensures.place in
    reaches_at_most near _ 1 14 1 68 _ _ (lit≤ tt) (lit≤ tt) (uses3 g.P.Pages.stays_on near _ _ _ to_q _ (g.P.Pages.stays_still _) _ _ _ c.read_field.ensures.uses c.read_link.ensures.uses c.point_back.ensures.uses)

pub returns-in_err-write_link-clause-uses : goal.returns-in_err-write_link-clause-uses
returns-in_err-write_link-clause-uses g c =
    let near = near_front (g.P.Pages.state c.args.p.now) (address_of c.args.base) in
    let to_q = front_behind (g.P.Pages.state c.args.p.now) c.args.node.page.0 (address_of c.args.base) _ _ c.in_ok-old.old c.read_field.ensures.told c.read_field.ensures.uses.count c.in_ok-old.ensures.value c.in_ok-old.ensures.place in
    reaches_at_most near _ 1 28 1 68 _ _ (lit≤ tt) (lit≤ tt) (uses4 g.P.Pages.stays_on near _ _ _ to_q _ (g.P.Pages.stays_still _) _ _ _ _ c.read_field.ensures.uses c.read_link.ensures.uses c.point_back.ensures.uses c.write_link.ensures.uses)

pub returns-in_err-write_link-2-clause-uses : goal.returns-in_err-write_link-2-clause-uses
returns-in_err-write_link-2-clause-uses g c =
    let near = near_front (g.P.Pages.state c.args.p.now) (address_of c.args.base) in
    let to_q = front_behind (g.P.Pages.state c.args.p.now) c.args.node.page.0 (address_of c.args.base) _ _ c.in_ok-old.old c.read_field.ensures.told c.read_field.ensures.uses.count c.in_ok-old.ensures.value c.in_ok-old.ensures.place in
    reaches_at_most near _ 1 42 1 68 _ _ (lit≤ tt) (lit≤ tt) (uses5 g.P.Pages.stays_on near _ _ _ to_q _ (g.P.Pages.stays_still _) _ _ _ _ _ c.read_field.ensures.uses c.read_link.ensures.uses c.point_back.ensures.uses c.write_link.ensures.uses c.write_link-2.ensures.uses)

pub returns-in_err-write_link-3-clause-uses : goal.returns-in_err-write_link-3-clause-uses
returns-in_err-write_link-3-clause-uses g c =
    let near = near_front (g.P.Pages.state c.args.p.now) (address_of c.args.base) in
    let to_q = front_behind (g.P.Pages.state c.args.p.now) c.args.node.page.0 (address_of c.args.base) _ _ c.in_ok-old.old c.read_field.ensures.told c.read_field.ensures.uses.count c.in_ok-old.ensures.value c.in_ok-old.ensures.place in
    reaches_at_most near _ 1 56 1 68 _ _ (lit≤ tt) (lit≤ tt) (uses6 g.P.Pages.stays_on near _ _ _ to_q _ (g.P.Pages.stays_still _) _ _ _ _ _ _ c.read_field.ensures.uses c.read_link.ensures.uses c.point_back.ensures.uses c.write_link.ensures.uses c.write_link-2.ensures.uses c.write_link-3.ensures.uses)

pub returns-in_err-write_field-clause-uses : goal.returns-in_err-write_field-clause-uses
returns-in_err-write_field-clause-uses g c =
    let near = near_front (g.P.Pages.state c.args.p.now) (address_of c.args.base) in
    let to_q = front_behind (g.P.Pages.state c.args.p.now) c.args.node.page.0 (address_of c.args.base) _ _ c.in_ok-old.old c.read_field.ensures.told c.read_field.ensures.uses.count c.in_ok-old.ensures.value c.in_ok-old.ensures.place in
    uses7 g.P.Pages.stays_on near _ _ _ to_q _ (g.P.Pages.stays_still _) _ _ _ _ _ _ _ c.read_field.ensures.uses c.read_link.ensures.uses c.point_back.ensures.uses c.write_link.ensures.uses c.write_link-2.ensures.uses c.write_link-3.ensures.uses c.write_field.ensures.uses

pub returns-clause-uses : goal.returns-clause-uses
returns-clause-uses g c =
    let near = near_front (g.P.Pages.state c.args.p.now) (address_of c.args.base) in
    let to_q = front_behind (g.P.Pages.state c.args.p.now) c.args.node.page.0 (address_of c.args.base) _ _ c.in_ok-old.old c.read_field.ensures.told c.read_field.ensures.uses.count c.in_ok-old.ensures.value c.in_ok-old.ensures.place in
    uses7 g.P.Pages.stays_on near _ _ _ to_q _ (g.P.Pages.stays_still _) _ _ _ _ _ _ _ c.read_field.ensures.uses c.read_link.ensures.uses c.point_back.ensures.uses c.write_link.ensures.uses c.write_link-2.ensures.uses c.write_link-3.ensures.uses c.write_field.ensures.uses

pub returns-clause-adds : goal.returns-clause-adds
returns-clause-adds g c = λ pages nodes is list apart few.
    let s = c.args.p.now in
    let is1 = c.read_field.ensures.told ∙ is in
    let whole1 = g.P.Pages.whole c.read_field.new.p pages is1 in
    let there = first_link pages _ nodes _ whole1 list in
    let link = link_read (Ok c.in_ok-old.old) _ _ _ _ pages (first_of nodes) (g.P.Pages.few c.read_field.new.p) is1 c.in_ok-old.ensures.value c.in_ok-old.ensures.place there.0 there.1 in
    let len = at_told _ (λ ps. c.in_ok-len.len ≡ field ps c.args.base.page.0 c.args.base.at 4) pages is c.in_ok-len.ensures.value ∙ list.count in
    adds_first _ _ _ _ _ _ pages (address_of c.args.base) (address_of c.args.node) nodes (link_of c.in_ok-old.old) c.in_ok-len.len
    (c.read_link.ensures.told ∙ is1) list (place_told pages _ (address_of c.args.node) (g.P.Pages.whole s pages is) c.requires.node) apart link len
    c.in_ok-point_back.ensures.sets c.in_ok-write_link.ensures.sets c.in_ok-write_link-2.ensures.sets c.in_ok-write_link-3.ensures.sets c.in_ok-write_field.ensures.sets
