use Rattle.std.proofs.Common.{◌≤◌, ◌++◌, ◌∷◌, length, map, ◌∙◌, arith}
use Rattle.page_model.proofs.StepLemmas.{uses_bound}
use Rattle.engine_base.specs.Addresses.{address_of}
use Rattle.file_lists.specs.Near.{near_front}
use Rattle.file_lists.proofs.NearLemmas.{may_front, front_few}
use Rattle.file_lists.proofs.LinkLemmas.{at_told, handed_on}
use Rattle.lob_model.specs.Pieces.{place_of}
use Rattle.lob_model.specs.Changes.{with_pieces}
use Rattle.lob_model.specs.Places.{versions_base}
use Rattle.lob_index.proofs.IndexLemmas.{few_index}
use Rattle.lob_versions.proofs.PushLemmas.{few_older, push_ready, push_done, may_data, may_entry, may_add, may_fields, used_data, used_entry, used_add, used_fields}
use Rattle.lob_versions.proofs.pushes.push_at.Goals as goal

pub write_data-requires-clause-may : goal.write_data-requires-clause-may
write_data-requires-clause-may g c =
    let t = c.read_entry.new.p in
    may_data g.P.Pages.stays_on c.args.node.page.0 c.args.head.page.0 c.args.page.0 (length c.args.bytes.now) c.args.p.now t t t t t c.requires.may c.read_entry.ensures.uses

pub returns-in_err-write_data-clause-uses : goal.returns-in_err-write_data-clause-uses
returns-in_err-write_data-clause-uses g c =
    let t = c.read_entry.new.p in
    let u = c.write_data.new.p in
    used_data g.P.Pages.stays_on c.args.node.page.0 c.args.head.page.0 c.args.page.0 (length c.args.bytes.now) c.args.p.now t u u u u c.read_entry.ensures.uses c.write_data.ensures.uses

pub write_entry-requires-clause-may : goal.write_entry-requires-clause-may
write_entry-requires-clause-may g c =
    let t = c.read_entry.new.p in
    let u = c.write_data.new.p in
    may_entry g.P.Pages.stays_on c.args.node.page.0 c.args.head.page.0 c.args.page.0 (length c.args.bytes.now) c.args.p.now t u u u u c.requires.may c.read_entry.ensures.uses c.write_data.ensures.uses

pub returns-in_err-write_entry-clause-uses : goal.returns-in_err-write_entry-clause-uses
returns-in_err-write_entry-clause-uses g c =
    let t = c.read_entry.new.p in
    let u = c.write_data.new.p in
    let v = c.write_entry.new.p in
    used_entry g.P.Pages.stays_on c.args.node.page.0 c.args.head.page.0 c.args.page.0 (length c.args.bytes.now) c.args.p.now t u v v v c.read_entry.ensures.uses c.write_data.ensures.uses c.write_entry.ensures.uses

pub add_first-requires-clause-may : goal.add_first-requires-clause-may
add_first-requires-clause-may g c =
    let t = c.read_entry.new.p in
    let u = c.write_data.new.p in
    let v = c.write_entry.new.p in
    may_front (g.P.Pages.state v) (versions_base (address_of c.args.head)) _ 68
    (may_add g.P.Pages.stays_on c.args.node.page.0 c.args.head.page.0 c.args.page.0 (length c.args.bytes.now) c.args.p.now t u v v v c.requires.may c.read_entry.ensures.uses c.write_data.ensures.uses c.write_entry.ensures.uses)

pub returns-in_err-add_first-clause-uses : goal.returns-in_err-add_first-clause-uses
returns-in_err-add_first-clause-uses g c =
    let t = c.read_entry.new.p in
    let u = c.write_data.new.p in
    let v = c.write_entry.new.p in
    let w = c.add_first.new.p in
    let u4 = uses_bound (near_front (g.P.Pages.state v) (versions_base (address_of c.args.head))) _ 1 68 v w (front_few (g.P.Pages.state v) (versions_base (address_of c.args.head))) c.add_first.ensures.uses in
    used_add g.P.Pages.stays_on c.args.node.page.0 c.args.head.page.0 c.args.page.0 (length c.args.bytes.now) c.args.p.now t u v w w c.read_entry.ensures.uses c.write_data.ensures.uses c.write_entry.ensures.uses u4

pub write_fields-requires-clause-may : goal.write_fields-requires-clause-may
write_fields-requires-clause-may g c =
    let t = c.read_entry.new.p in
    let u = c.write_data.new.p in
    let v = c.write_entry.new.p in
    let w = c.add_first.new.p in
    let u4 = uses_bound (near_front (g.P.Pages.state v) (versions_base (address_of c.args.head))) _ 1 68 v w (front_few (g.P.Pages.state v) (versions_base (address_of c.args.head))) c.add_first.ensures.uses in
    may_fields g.P.Pages.stays_on c.args.node.page.0 c.args.head.page.0 c.args.page.0 (length c.args.bytes.now) c.args.p.now t u v w w c.requires.may c.read_entry.ensures.uses c.write_data.ensures.uses c.write_entry.ensures.uses u4

pub returns-in_err-write_fields-clause-uses : goal.returns-in_err-write_fields-clause-uses
returns-in_err-write_fields-clause-uses g c =
    let t = c.read_entry.new.p in
    let u = c.write_data.new.p in
    let v = c.write_entry.new.p in
    let w = c.add_first.new.p in
    let u4 = uses_bound (near_front (g.P.Pages.state v) (versions_base (address_of c.args.head))) _ 1 68 v w (front_few (g.P.Pages.state v) (versions_base (address_of c.args.head))) c.add_first.ensures.uses in
    used_fields g.P.Pages.stays_on c.args.node.page.0 c.args.head.page.0 c.args.page.0 (length c.args.bytes.now) c.args.p.now t u v w c.write_fields.new.p c.read_entry.ensures.uses c.write_data.ensures.uses c.write_entry.ensures.uses u4 c.write_fields.ensures.uses

pub returns-clause-uses : goal.returns-clause-uses
returns-clause-uses g c =
    let t = c.read_entry.new.p in
    let u = c.write_data.new.p in
    let v = c.write_entry.new.p in
    let w = c.add_first.new.p in
    let u4 = uses_bound (near_front (g.P.Pages.state v) (versions_base (address_of c.args.head))) _ 1 68 v w (front_few (g.P.Pages.state v) (versions_base (address_of c.args.head))) c.add_first.ensures.uses in
    used_fields g.P.Pages.stays_on c.args.node.page.0 c.args.head.page.0 c.args.page.0 (length c.args.bytes.now) c.args.p.now t u v w c.write_fields.new.p c.read_entry.ensures.uses c.write_data.ensures.uses c.write_entry.ensures.uses u4 c.write_fields.ensures.uses

pub returns-in_err-add_first-clause-never : goal.returns-in_err-add_first-clause-never
returns-in_err-add_first-clause-never g c = λ pages l bs q cs told same ready.
    let whole = g.P.Pages.whole c.args.p.now pages told in
    let few : length pages ≤ 32_768 = let z = c.requires.size.few in let m = whole.many in omega (arith, z, m) in
    let low : length l.index ≤ length pages = few_index pages (with_pieces l (bs ++ q ∷ cs)) _ ready.lob' in
    let index : length l.index ≤ 32_768 = omega (arith, low, few) in
    let b = push_ready _ _ _ pages l bs q cs (address_of c.args.head) (address_of c.args.node) c.args.page.0 c.args.v.0 c.args.trx.0 c.args.bytes.now c.in_ok-before.before c.bare.result (c.read_entry.ensures.told ∙ told) same ready c.requires.fits
    (at_told _ _ pages told c.in_ok-before.ensures.value) c.bare.ensures c.in_ok-write_data.ensures.makes c.in_ok-write_entry.ensures.sets in
    handed_on c.add_first.result _ _ (c.add_first.ensures.never b.0 (map place_of q.older) b.1 b.2.1 (few_older l bs q cs (address_of c.args.node) ready.lob'.shape index)) c.in_err-add_first.was c.from_residual-in_err-add_first.ensures

pub returns-clause-pushes : goal.returns-clause-pushes
returns-clause-pushes g c = λ pages l bs q cs told same ready.
    let whole = g.P.Pages.whole c.args.p.now pages told in
    let few : length pages ≤ 32_768 = let z = c.requires.size.few in let m = whole.many in omega (arith, z, m) in
    let low : length l.index ≤ length pages = few_index pages (with_pieces l (bs ++ q ∷ cs)) _ ready.lob' in
    let index : length l.index ≤ 32_768 = omega (arith, low, few) in
    let b = push_ready _ _ _ pages l bs q cs (address_of c.args.head) (address_of c.args.node) c.args.page.0 c.args.v.0 c.args.trx.0 c.args.bytes.now c.in_ok-before.before c.bare.result (c.read_entry.ensures.told ∙ told) same ready c.requires.fits
    (at_told _ _ pages told c.in_ok-before.ensures.value) c.bare.ensures c.in_ok-write_data.ensures.makes c.in_ok-write_entry.ensures.sets in
    push_done _ _ pages l bs q cs (address_of c.args.head) (address_of c.args.node) c.args.page.0 c.args.v.0 c.args.trx.0 c.args.bytes.now _ b.0 same ready b.2.0
    (c.in_ok-add_first.ensures.adds b.0 (map place_of q.older) b.1 b.2.1 b.2.2 (few_older l bs q cs (address_of c.args.node) ready.lob'.shape index))
    c.in_ok-write_fields.ensures.sets
    (λ p4 here. record { creator = here.creator; modifier = here.modifier; creator_undo = here.creator_undo; modifier_undo = here.modifier_undo; page = here.page; long = here.long; number = here.number })
