use Rattle.std.proofs.Common.{refl, arith}
use Rattle.engine_base.specs.Addresses.{address_of}
use Rattle.row_dir.specs.Slots.{IsOddState}
use Rattle.row_dir.proofs.SlotLemmas.{slot_read, state_read, no_slot, told_odd}
use Rattle.row_dir.proofs.slots.read_slot.Goals as goal

pub returns-in-Some-clause-value : goal.returns-in-Some-clause-value
returns-in-Some-clause-value g c = slot_read _ (address_of c.args.place) c.read.new.into _ c.in-Some.ensures.value c.in_ok-read.ensures.bytes

pub returns-in-None-clause-never : goal.returns-in-None-clause-never
returns-in-None-clause-never g c = λ pages s is slot. absurd (no_slot _ pages (address_of c.args.place) c.read.new.into s is slot c.in-None.ensures.odd c.in_ok-read.ensures.bytes)

pub returns-in-None-clause-honest : goal.returns-in-None-clause-honest
returns-in-None-clause-honest g c =
    let a = address_of c.args.place in
    let told = (g.P.Pages.state c.args.p.now).told in
    told_odd c.strange.result c.args.place.page c.args.place.at _ (IsOddState told a) c.strange.ensures
    (record { same_page = refl; same_place = refl; reads = state_read told a c.read.new.into c.number_at.result c.number_at.ensures.value c.in_ok-read.ensures.bytes }, (let o = c.in-None.ensures.odd in let e = c.number_at.ensures.value in omega (arith, o, e)))
