use Rattle.std.proofs.Common.{[]}
use Rattle.page_model.proofs.StepLemmas.{told_step, uses_unnamed}
use Rattle.engine_base.specs.Addresses.{address_of}
use Rattle.row_dir.specs.Slots.{keyed_of, SetsSlot}
use Rattle.row_dir.proofs.ReplaceLemmas.{replaced}
use Rattle.row_dir.proofs.dir.RowDir.replace.Goals as goal

pub returns-clause-puts : goal.returns-clause-puts
returns-clause-puts g c = λ pages rows is stands d can some.
    let place = c.in-Some.place in
    let k = keyed_of c.args.row.now in
    let b = told_step (SetsSlot (address_of place) k) _ _ pages is c.in_ok-write_slot.ensures.sets in
    let r = replaced pages b.0 rows c.args.self.now k place stands can d c.in-Some.ensures b.2 in
    (b.0, b.1, r.0)

pub returns-in_err-write_slot-clause-uses : goal.returns-in_err-write_slot-clause-uses
returns-in_err-write_slot-clause-uses g c =
    uses_unnamed c.in-Some.place.page.0 [] 0 48 _ _ c.write_slot.ensures.uses

pub returns-clause-uses : goal.returns-clause-uses
returns-clause-uses g c =
    uses_unnamed c.in-Some.place.page.0 [] 0 48 _ _ c.write_slot.ensures.uses
