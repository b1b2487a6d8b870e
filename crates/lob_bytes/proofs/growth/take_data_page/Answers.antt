use Rattle.std.proofs.Common.{◌≡◌, ◌∙◌, ℕ, map, subst, Option}
use Rattle.page_model.specs.Lists.{IsList, first_of}
use Rattle.engine_base.specs.Addresses.{address_of}
use Rattle.engine_base.specs.declared.addr.Addr.{Addr}
use Rattle.file_lists.specs.Links.{link_of}
use Rattle.lob_model.specs.Pieces.{head_place}
use Rattle.lob_model.specs.Places.{heads_base}
use Rattle.lob_index.proofs.HonestLemmas.{honest_on}
use Rattle.lob_bytes.proofs.AddingLemmas.{taking_link, taking_spent}
use Rattle.lob_bytes.proofs.TakeLemmas.{no_pieces, some_piece, took_none, took_other, take_may, take_uses}
use Rattle.lob_bytes.proofs.growth.take_data_page.Goals as goal

pub returns-in_default-clause-takes : goal.returns-in_default-clause-takes
returns-in_default-clause-takes g c = λ pages lob bytes is first same can.
    let heads = map head_place lob.pieces in
    let L : ℕ → Type 0 = λ n. IsList pages (heads_base n) heads in
    let P : Option Addr → Type 0 = λ o. link_of o ≡ first_of heads in
    let none = no_pieces lob.pieces (subst P c.in_default.is (c.in_ok-head.ensures.value pages heads is (subst L first can.lob'.heads))) in
    (pages, c.first.ensures.told ∙ is, took_none pages lob _ can.map none)

pub returns-clause-takes : goal.returns-clause-takes
returns-clause-takes g c = λ pages lob bytes is first same can.
    let heads = map head_place lob.pieces in
    let L : ℕ → Type 0 = λ n. IsList pages (heads_base n) heads in
    let P : Option Addr → Type 0 = λ o. link_of o ≡ first_of heads in
    let some = some_piece lob.pieces (address_of c.in-Some.head) (subst P c.in-Some.is (c.in_ok-head.ensures.value pages heads is (subst L first can.lob'.heads))) in
    let t = c.in_ok-taken.ensures.takes pages (c.first.ensures.told ∙ is) can.map can.covered in
    (t.0, t.1, took_other pages t.0 lob c.in_ok-taken.taken _ _ can.map some t.2.0 c.in_ok-taken.ensures.ok)

pub take-requires-clause-may : goal.take-requires-clause-may
take-requires-clause-may g c = take_may c.args.page.0 _ _ c.requires.may c.first.ensures.uses

pub returns-clause-uses : goal.returns-clause-uses
returns-clause-uses g c = take_uses c.args.page.0 _ _ g.P.Pages.stays_on _ c.first.ensures.uses c.take.ensures.uses

pub returns-in_err-head-clause-honest : goal.returns-in_err-head-clause-honest
returns-in_err-head-clause-honest g c =
    let s = g.P.Pages.state c.args.p.now in
    honest_on _ _ c.first.result _ _ (taking_link s s c.args.page.0 c.args.len c.args.space.now) c.first.ensures.honest c.in_err-head.was c.from_residual.ensures

pub returns-in_err-taken-clause-honest : goal.returns-in_err-taken-clause-honest
returns-in_err-taken-clause-honest g c =
    let s = g.P.Pages.state c.args.p.now in
    honest_on _ _ c.take.result _ _ (taking_spent s (g.P.Pages.state c.first.new.p) c.args.page.0 c.args.len c.args.space.now c.first.ensures.told c.first.ensures.uses.count) c.take.ensures.honest c.in_err-taken.was c.from_residual-in_err-taken.ensures
