use Rattle.std.proofs.Common.{Option, Some, IfSome, refl, subst}
use Rattle.engine_base.specs.Addresses.{address_of}
use Rattle.file_lists.proofs.LinkLemmas.{at_told}
use Rattle.undo_model.specs.Rows.{IsSlot}
use Rattle.undo_records.specs.declared.record_type.Row.{Row}
use Rattle.row_dir.specs.Slots.{keyed_of, slot_of, IsOddState}
use Rattle.row_dir.specs.Loads.{IsOddField}
use Rattle.row_dir.proofs.SlotLemmas.{told_odd}
use Rattle.row_dir.proofs.LoadLemmas.{honest_on, odd_state, doc_named, held_some}
use Rattle.row_dir.proofs.dir.RowDir.load_slot.Goals as goal

pub returns-in_err-row-clause-honest : goal.returns-in_err-row-clause-honest
returns-in_err-row-clause-honest g c =
    let told = (g.P.Pages.state c.args.p.now).told in
    let a = address_of c.args.place in
    honest_on (IsOddState told a) (IsOddField told a.page) c.read_slot.result _ _ (odd_state told a) c.read_slot.ensures.honest c.in_err-row.was c.from_residual.ensures

pub returns-in-Some-place-clause-honest : goal.returns-in-Some-place-clause-honest
returns-in-Some-place-clause-honest g c =
    let told = (g.P.Pages.state c.args.p.now).told in
    let place = c.args.place in
    let row = c.in-Some.row in
    let T : Option Row → Type 0 = λ o. IfSome told (λ ps. IsSlot ps place.page.0 place.at (slot_of o)) in
    told_odd c.strange.result place.page _ _ (IsOddField told place.page.0) c.strange.ensures
    (doc_named told place.page.0 place.at row.doc.0 _ (keyed_of row) refl c.from.ensures (subst T c.in-Some.is c.in_ok-row.ensures.value))

pub returns-clause-loads : goal.returns-clause-loads
returns-clause-loads g c = λ pages es s is there h new.
    let place = c.args.place in
    let k = keyed_of c.in-Some.row in
    let told = (g.P.Pages.state c.args.p.now).told in
    let T : Option Row → Type 0 = λ o. IfSome told (λ ps. IsSlot ps place.page.0 place.at (slot_of o)) in
    let here = at_told told (λ ps. IsSlot ps place.page.0 place.at (Some k)) pages is (subst T c.in-Some.is c.in_ok-row.ensures.value) in
    held_some c.args.self.now c.enter.new.self es pages place c.in-Some.row.doc k s here there refl new c.enter.ensures h
