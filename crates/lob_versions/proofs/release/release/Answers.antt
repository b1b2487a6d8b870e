use Rattle.std.proofs.Common.{ℕ, ◌<◌, length, sym, subst, ◌∙◌, arith}
use Rattle.page_model.specs.Pages.{Pages}
use Rattle.page_model.specs.Steps.{Becomes}
use Rattle.engine_base.specs.Addresses.{address_of}
use Rattle.file_lists.proofs.LinkLemmas.{handed_on}
use Rattle.page_space.specs.Map.{IsSize}
use Rattle.lob_index.specs.Data.{GivesData}
use Rattle.lob_index.proofs.AnswerLemmas.{on_ok, becomes_on}
use Rattle.lob_versions.specs.Releases.{Releases}
use Rattle.lob_index.proofs.OwnLemmas.{map_same}
use Rattle.lob_versions.proofs.ReleaseLemmas.{may_one, may_two, may_three, used_one, used_two, used_three, node_given, page_used, released}
use Rattle.lob_versions.proofs.release.release.Goals as goal

pub take_out-requires-clause-may : goal.take_out-requires-clause-may
take_out-requires-clause-may g c = may_one c.args.node.page.0 c.args.head.page.0 c.args.first.0 _ c.requires.may

pub returns-in_err-take_out-clause-uses : goal.returns-in_err-take_out-clause-uses
returns-in_err-take_out-clause-uses g c =
    let u1 = c.take_out.ensures.uses in
    used_one g.P.Pages.stays_on c.args.node.page.0 c.args.head.page.0 c.args.first.0 c.args.p.now c.take_out.new.p u1

pub give_node-requires-clause-may : goal.give_node-requires-clause-may
give_node-requires-clause-may g c =
    let u1 = c.take_out.ensures.uses in
    may_two g.P.Pages.stays_on c.args.node.page.0 c.args.head.page.0 c.args.first.0 c.args.p.now c.take_out.new.p c.requires.may u1

pub returns-in_err-give_node-clause-uses : goal.returns-in_err-give_node-clause-uses
returns-in_err-give_node-clause-uses g c =
    let u1 = c.take_out.ensures.uses in
    used_two g.P.Pages.stays_on c.args.node.page.0 c.args.head.page.0 c.args.first.0 c.args.p.now c.take_out.new.p c.give_node.new.p u1 c.give_node.ensures.uses

pub give_data-requires-clause-may : goal.give_data-requires-clause-may
give_data-requires-clause-may g c =
    let u1 = c.take_out.ensures.uses in
    may_three g.P.Pages.stays_on c.args.node.page.0 c.args.head.page.0 c.args.first.0 c.args.p.now c.take_out.new.p c.give_node.new.p c.requires.may u1 c.give_node.ensures.uses

pub returns-clause-uses : goal.returns-clause-uses
returns-clause-uses g c =
    let u1 = c.take_out.ensures.uses in
    used_three g.P.Pages.stays_on c.args.node.page.0 c.args.head.page.0 c.args.first.0 c.args.p.now c.take_out.new.p c.give_node.new.p c.give_data.new.p u1 c.give_node.ensures.uses c.give_data.ensures.uses

pub returns-in_err-give_node-clause-never : goal.returns-in_err-give_node-clause-never
returns-in_err-give_node-clause-never g c = λ pages own lob before behind told first can at.
    let size = subst IsSize (sym c.take_out.ensures.uses.count) c.requires.size in
    let removed = c.in_ok-take_out.ensures.removes pages before behind told can.list at in
    let loose = can.loosens removed.0 removed.2 in
    handed_on c.give_node.result _ _ (c.give_node.ensures.never removed.0 lob removed.1 first size loose.0) c.in_err-give_node.was c.from_residual-in_err-give_node.ensures

pub returns-clause-never : goal.returns-clause-never
returns-clause-never g c = λ pages own lob before behind told first can at.
    let size = subst IsSize (sym c.take_out.ensures.uses.count) c.requires.size in
    let removed = c.in_ok-take_out.ensures.removes pages before behind told can.list at in
    let given = node_given _ _ pages own lob _ _ before behind c.args.page.0 can removed
    (λ mid is but. c.in_ok-give_node.ensures.gives mid lob is first size but) in
    c.give_data.ensures.never given.0 given.1 (map_same own pages given.0 can.used.other given.2.same can.map') (λ other. page_used pages given.0 own lob _ _ before behind c.args.page.0 can given.2.same (λ e. other (e ∙ first)))

pub returns-clause-releases : goal.returns-clause-releases
returns-clause-releases g c = λ pages own lob before behind told first can at.
    let size = subst IsSize (sym c.take_out.ensures.uses.count) c.requires.size in
    let removed = c.in_ok-take_out.ensures.removes pages before behind told can.list at in
    let given = node_given _ _ pages own lob _ _ before behind c.args.page.0 can removed
    (λ mid is but. c.in_ok-give_node.ensures.gives mid lob is first size but) in
    let D : ℕ → Pages → Type 0 = λ n new. GivesData n c.args.page.0 given.0 new in
    let R : Pages → Type 0 = λ new. Releases own lob (address_of c.args.node) c.args.page.0 pages new in
    let there : c.args.page.0 < length pages = let t = c.requires.page in let w = (g.P.Pages.whole c.args.p.now pages told).many in omega (arith, t, w) in
    on_ok (Becomes (g.P.Pages.state c.give_data.new.p).told (D c.args.first.0)) (Becomes (g.P.Pages.state c.give_data.new.p).told R) c.give_data.result
    (becomes_on (D c.args.first.0) R _ (λ new is. released pages given.0 new own lob _ _ before behind c.args.page.0 there can given.2 (subst (λ (n : ℕ). D n new) (sym first) is)))
    (c.give_data.ensures.gives given.0 given.1 (map_same own pages given.0 can.used.other given.2.same can.map') (λ other. page_used pages given.0 own lob _ _ before behind c.args.page.0 can given.2.same (λ e. other (e ∙ first))))

pub returns-in_err-take_out-clause-never : goal.returns-in_err-take_out-clause-never
returns-in_err-take_out-clause-never g c = λ pages own lob before behind told first can at.
    handed_on c.take_out.result _ _ (c.take_out.ensures.never pages before behind told can.list at) c.in_err-take_out.was c.from_residual.ensures
