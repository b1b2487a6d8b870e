use Rattle.std.proofs.Common.{[], ◌∙◌, ◌≡◌, ℕ, true, sym, ap}
use Rattle.page_model.proofs.StepLemmas.{may_name, uses_unnamed}
use Rattle.engine_base.specs.Addresses.{address_of}
use Rattle.undo_model.specs.Reading.{is_place}
use Rattle.undo_logs.proofs.ReadLemmas.{points_there, place_not_null}
use Rattle.undo_logs.proofs.reads.pointer_to.Goals as goal

pub read_field-requires-clause-may : goal.read_field-requires-clause-may
read_field-requires-clause-may g c = may_name c.args.a.page.0 [] 0 0 _ c.requires.may

pub returns-in_err-kind-clause-uses : goal.returns-in_err-kind-clause-uses
returns-in_err-kind-clause-uses g c = uses_unnamed c.args.a.page.0 [] 0 0 _ _ c.read_field.ensures.uses

pub returns-clause-uses : goal.returns-clause-uses
returns-clause-uses g c = uses_unnamed c.args.a.page.0 [] 0 0 _ _ c.read_field.ensures.uses

pub returns-clause-value : goal.returns-clause-value
returns-clause-value g c =
    let place : is_place (g.P.Pages.state c.args.p.now).count c.args.a.page.0 c.args.a.at ≡ true =
    ap (λ (n : ℕ). is_place n c.args.a.page.0 c.args.a.at) (sym c.count.ensures) ∙ ap (is_place c.count.result c.args.a.page.0) (sym c.from.ensures) ∙ sym c.is_place.ensures ∙ c.if-not-is_place.false in
    points_there _ (address_of c.args.a) c.in_ok-kind.kind c.pointer.result.0 (place_not_null _ (address_of c.args.a) place (g.P.Pages.few c.args.p.now)) c.in_ok-kind.ensures.value c.pointer.ensures
