use Rattle.std.proofs.Common.{[], ◌∷◌, lit≤}
use Rattle.page_model.proofs.StepLemmas.{may_within}
use Rattle.engine_base.specs.Addresses.{address_of}
use Rattle.row_dir.specs.Slots.{keyed_of}
use Rattle.row_dir.proofs.SlotChangeLemmas.{filled}
use Rattle.row_dir.proofs.row_pages.fill_slot.Goals as goal

pub write_field-requires-clause-may : goal.write_field-requires-clause-may
write_field-requires-clause-may g c =
    let page = c.args.place.page.0 in
    may_within (page ∷ []) (page ∷ []) 0 58 0 48 0 10 c.args.p.now c.write_slot.new.p (λ n is. is) (lit≤ tt) (lit≤ tt) c.requires.may c.write_slot.ensures.uses

pub returns-clause-sets : goal.returns-clause-sets
returns-clause-sets g c = filled (address_of c.args.place) (keyed_of c.args.row.now) c.args.count _ _ _ _ c.from.ensures c.in_ok-write_slot.ensures.sets c.in_ok-write_field.ensures.sets
