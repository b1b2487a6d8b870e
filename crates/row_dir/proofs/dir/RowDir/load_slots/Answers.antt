use Rattle.std.proofs.Common.{ℕ, [], ◌∷◌, subst, lit≤, ◌∙◌, arith}
use Rattle.page_model.proofs.StepLemmas.{may_within, uses_within}
use Rattle.file_lists.proofs.LinkLemmas.{handed_on}
use Rattle.row_dir.specs.Directory.{IsBelow}
use Rattle.row_dir.proofs.LoadLemmas.{slot_here, all_passed, room_then, enters_then}
use Rattle.row_dir.proofs.dir.RowDir.load_slots.Goals as goal

pub load_slot-requires-clause-may : goal.load_slot-requires-clause-may
load_slot-requires-clause-may g c =
    let page = c.args.page.0 in
    may_within (page ∷ []) (page ∷ []) 0 0 0 0 0 0 c.args.p.now c.slots.p (λ n is. is) (lit≤ tt) (lit≤ tt) c.requires.may c.slots.invariant.uses

pub returns-in_err-free-clause-never : goal.returns-in_err-free-clause-never
returns-in_err-free-clause-never g c = λ pages es slots is are many h new.
    let s = slot_here pages c.args.page.0 slots es c.slots.self c.slots.at c.slots.free many new c.slots-test.true (c.slots.invariant.passed pages es slots is are many h new) in
    handed_on c.load_slot.result _ _ (c.load_slot.ensures.never pages s.so_far s.s (c.slots.invariant.told ∙ is) s.stands s.holds s.new) c.in_err-free.was c.from_residual.ensures

pub slots-preserved : goal.slots-preserved
slots-preserved g c =
    let page = c.args.page.0 in
    let i = c.slots.invariant in
    let f = c.in_ok-free.field-0 in
    let B : ℕ → Type 0 = λ n. IsBelow n c.slots.self → IsBelow n c.load_slot.new.self in
    record {
      told = c.load_slot.ensures.told ∙ i.told;
      uses = uses_within g.P.Pages.stays_on (page ∷ []) (page ∷ []) 0 0 0 0 c.args.p.now c.slots.p c.load_slot.new.p (λ n is. is) i.uses c.load_slot.ensures.uses;
      faults = (let a = i.faults in let b = c.load_slot.ensures.cause.later in omega (arith, a, b));
      room = room_then c.slots.self c.load_slot.new.self c.slots.at c.slots.free f c.slots-test.true c.in_ok-free.ensures.one i.room c.load_slot.ensures.room;
      most = (let t = c.slots-test.true in let p = i.room.place in let w = i.room.few in let o = c.in_ok-free.ensures.one in omega (arith, t, p, w, o));
      kept = record { pages = c.load_slot.ensures.kept.pages ∙ i.kept.pages; full = c.load_slot.ensures.kept.full ∙ i.kept.full };
      enters = enters_then page c.args.self.now c.slots.self c.load_slot.new.self i.enters c.load_slot.ensures.enters;
      below = λ b. subst B i.uses.count c.load_slot.ensures.below (i.below b);
      passed = λ pages es slots is are many h new.
          let s = slot_here pages page slots es c.slots.self c.slots.at c.slots.free many new c.slots-test.true (i.passed pages es slots is are many h new) in
          let r = c.in_ok-free.ensures.loads pages s.so_far s.s (i.told ∙ is) s.stands s.holds s.new in
          s.goes_on c.load_slot.new.self f r.0 r.1;
    }

pub returns-clause-loads : goal.returns-clause-loads
returns-clause-loads g c = λ pages es slots is are many h new.
    all_passed pages c.args.page.0 slots es c.slots.self c.slots.at c.slots.free many (let z = c.slots-test.false in omega (arith, z)) (c.slots.invariant.passed pages es slots is are many h new)
