use Rattle.std.proofs.Common.{[], ◌∷◌, lit≤, arith}
use Rattle.indexmap.proofs.MapLemmas.{OnOk-map}
use Rattle.page_model.proofs.StepLemmas.{told_step, uses_unnamed, uses_at_most}
use Rattle.engine_base.specs.Addresses.{address_of}
use Rattle.row_dir.specs.Slots.{keyed_of, SetsSlot}
use Rattle.row_dir.proofs.UseLemmas.{named}
use Rattle.row_dir.proofs.ReplaceLemmas.{replaced}
use Rattle.row_dir.proofs.dir.RowDir.put.Goals as goal

pub returns-in-Some-clause-puts : goal.returns-in-Some-clause-puts
returns-in-Some-clause-puts g c = λ pages rows is stands d can covered.
    let place = c.in-Some.place in
    let k = keyed_of c.args.row.now in
    OnOk-map c.write_slot.result _ _ (λ sets.
    let b = told_step (SetsSlot (address_of place) k) _ _ pages is sets in
    let r = replaced pages b.0 rows c.args.self.now k place stands can d c.in-Some.ensures b.2 in
    (b.0, b.1, (r.0, (let f = r.1 in omega (arith, f, covered))))) c.write_slot.ensures.sets

pub returns-in-Some-clause-uses : goal.returns-in-Some-clause-uses
returns-in-Some-clause-uses g c = uses_at_most (0 ∷ []) 1 48 2 16_529 _ _ (lit≤ tt) (lit≤ tt) (uses_unnamed c.in-Some.place.page.0 (0 ∷ []) 0 48 _ _ (named c.in-Some.place.page.0 48 _ _ c.write_slot.ensures.uses))

pub returns-in-Some-first_open-clause-uses : goal.returns-in-Some-first_open-clause-uses
returns-in-Some-first_open-clause-uses g c = uses_at_most (0 ∷ []) 1 58 2 16_529 _ _ (lit≤ tt) (lit≤ tt) (uses_unnamed c.in-Some-first_open.open.page.0 (0 ∷ []) 0 58 _ _ (named c.in-Some-first_open.open.page.0 58 _ _ c.fill.ensures.uses))
