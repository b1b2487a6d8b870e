use Rattle.std.proofs.Common.{[], ◌∷◌, lit≤}
use Rattle.page_model.proofs.StepLemmas.{may_within}
use Rattle.engine_base.specs.Addresses.{address_of}
use Rattle.row_dir.proofs.SlotChangeLemmas.{cleared}
use Rattle.row_dir.proofs.row_pages.clear_slot.Goals as goal

pub write_field-requires-2-clause-may : goal.write_field-requires-2-clause-may
write_field-requires-2-clause-may g c =
    let page = c.args.place.page.0 in
    may_within (page ∷ []) (page ∷ []) 0 19 0 9 0 10 c.args.p.now c.write_field.new.p (λ n is. is) (lit≤ tt) (lit≤ tt) c.requires.may c.write_field.ensures.uses

pub returns-clause-sets : goal.returns-clause-sets
returns-clause-sets g c = cleared (address_of c.args.place) c.args.count _ _ _ _ c.from.ensures c.in_ok-write_field.ensures.sets c.in_ok-write_field-2.ensures.sets
