use Rattle.std.proofs.Common.{◌≡◌, [], ◌∷◌, ◌++◌, Option, IfSome, refl, sym, ap, subst, lit≤, ◌∙◌, arith}
use Rattle.indexmap.specs.IndexMap.{spare}
use Rattle.page_model.specs.Pages.{Pages, field}
use Rattle.page_model.proofs.StepLemmas.{may_within, uses_within}
use Rattle.file_lists.proofs.LinkLemmas.{handed_on, at_told}
use Rattle.undo_model.specs.Rows.{AreSlots}
use Rattle.row_dir.specs.Directory.{places_of, places_in}
use Rattle.row_dir.specs.Loads.{IsOddField, AreNew, Holds}
use Rattle.row_dir.proofs.SlotLemmas.{told_odd}
use Rattle.row_dir.proofs.PutLemmas.{all_slots}
use Rattle.row_dir.proofs.RoomLemmas.{ok_then}
use Rattle.row_dir.proofs.LoadLemmas.{new_slots, holds_first, loaded}
use Rattle.row_dir.proofs.dir.RowDir.load_rows.Goals as goal
use Rattle.row_dir.proofs.dir.RowDir.load_rows.Goals.{then-free-eq-MAX_SLOTS-via-then-free-eq-MAX_SLOTS, then-free-eq-MAX_SLOTS-via-else-free-eq-MAX_SLOTS+then-count-from}

pub returns-then-found-ne-ROWS_TYPE-clause-honest : goal.returns-then-found-ne-ROWS_TYPE-clause-honest
returns-then-found-ne-ROWS_TYPE-clause-honest g c = told_odd c.strange.result c.args.page _ _ (IsOddField (g.P.Pages.state c.args.p.now).told c.args.page.0) c.strange.ensures (record { same = refl; width = 2; reads = c.in_ok-found.ensures.value })

pub read_field-requires-2-clause-may : goal.read_field-requires-2-clause-may
read_field-requires-2-clause-may g c =
    let page = c.args.page.0 in
    may_within (page ∷ []) (page ∷ []) 0 0 0 0 0 0 c.args.p.now c.read_field.new.p (λ n is. is) (lit≤ tt) (lit≤ tt) c.requires.may c.read_field.ensures.uses

pub load_slots-requires-clause-may : goal.load_slots-requires-clause-may
load_slots-requires-clause-may g c =
    let page = c.args.page.0 in
    let u = uses_within g.P.Pages.stays_on (page ∷ []) (page ∷ []) 0 0 0 0 c.args.p.now c.read_field.new.p c.read_field-2.new.p (λ n is. is) c.read_field.ensures.uses c.read_field-2.ensures.uses in
    may_within (page ∷ []) (page ∷ []) 0 0 0 0 0 0 c.args.p.now c.read_field-2.new.p (λ n is. is) (lit≤ tt) (lit≤ tt) c.requires.may u

pub returns-in_err-free-clause-never : goal.returns-in_err-free-clause-never
returns-in_err-free-clause-never g c = λ pages rows next is n its d.
    let are = subst (λ m. AreSlots pages m 52 next.slots) its n.stands.slots in
    let new = subst (λ m. AreNew m (places_of rows) next.slots) its (new_slots pages rows next n) in
    handed_on c.load_slots.result _ _ (c.load_slots.ensures.never pages (places_of rows) next.slots (c.read_field-2.ensures.told ∙ (c.read_field.ensures.told ∙ is)) are n.stands.many (holds_first c.args.self.now rows d) new) c.in_err-free.was c.from_residual-in_err-free.ensures

pub returns-in_err-free-clause-uses : goal.returns-in_err-free-clause-uses
returns-in_err-free-clause-uses g c =
    let page = c.args.page.0 in
    let u = uses_within g.P.Pages.stays_on (page ∷ []) (page ∷ []) 0 0 0 0 c.args.p.now c.read_field.new.p c.read_field-2.new.p (λ n is. is) c.read_field.ensures.uses c.read_field-2.ensures.uses in
    uses_within g.P.Pages.stays_on (page ∷ []) (page ∷ []) 0 0 0 0 c.args.p.now c.read_field-2.new.p c.load_slots.new.p (λ n is. is) u c.load_slots.ensures.uses

pub returns-then-free-eq-MAX_SLOTS-clause-honest : goal.returns-then-free-eq-MAX_SLOTS-clause-honest
returns-then-free-eq-MAX_SLOTS-clause-honest g c =
    let T : Option Pages → Type 0 = λ t. IfSome t (λ ps. c.in_ok-count.count ≡ field ps c.args.page.0 50 2) in
    told_odd c.strange-then-free-eq-MAX_SLOTS.result c.args.page _ _ (IsOddField (g.P.Pages.state c.args.p.now).told c.args.page.0) c.strange-then-free-eq-MAX_SLOTS.ensures (record { same = refl; width = 2; reads = subst T c.read_field.ensures.told c.in_ok-count.ensures.value })

pub returns-then-free-eq-MAX_SLOTS-clause-never : goal.returns-then-free-eq-MAX_SLOTS-clause-never
returns-then-free-eq-MAX_SLOTS-clause-never g c = λ pages rows next is n its d.
    let are = subst (λ m. AreSlots pages m 52 next.slots) its n.stands.slots in
    let new = subst (λ m. AreNew m (places_of rows) next.slots) its (new_slots pages rows next n) in
    let r = c.in_ok-free.ensures.loads pages (places_of rows) next.slots (c.read_field-2.ensures.told ∙ (c.read_field.ensures.told ∙ is)) are n.stands.many (holds_first c.args.self.now rows d) new in
    let free = r.1 in
    let all = all_slots next.slots in
    let many = n.stands.many in
    let some = n.stands.some in
    let count = n.stands.count in
    let reads = at_told _ (λ ps. c.in_ok-count.count ≡ field ps c.args.page.0 50 2) pages (c.read_field.ensures.told ∙ is) c.in_ok-count.ensures.value in
    let here = ap (λ m. field pages m 50 2) its in
    elim c.then-free-eq-MAX_SLOTS.branch [
      | then-free-eq-MAX_SLOTS-via-then-free-eq-MAX_SLOTS w ↦ absurd (let e = w.if-free-eq-MAX_SLOTS.true in omega (arith, e, free, all, many, some))
      | then-free-eq-MAX_SLOTS-via-else-free-eq-MAX_SLOTS+then-count-from w ↦ absurd (let e = w.if-count-from.true in let f = w.from.ensures in omega (arith, e, f, free, all, many, count, reads, here))
    ]

pub returns-then-free-eq-MAX_SLOTS-clause-uses : goal.returns-then-free-eq-MAX_SLOTS-clause-uses
returns-then-free-eq-MAX_SLOTS-clause-uses g c =
    let page = c.args.page.0 in
    let u = uses_within g.P.Pages.stays_on (page ∷ []) (page ∷ []) 0 0 0 0 c.args.p.now c.read_field.new.p c.read_field-2.new.p (λ n is. is) c.read_field.ensures.uses c.read_field-2.ensures.uses in
    uses_within g.P.Pages.stays_on (page ∷ []) (page ∷ []) 0 0 0 0 c.args.p.now c.read_field-2.new.p c.load_slots.new.p (λ n is. is) u c.load_slots.ensures.uses

pub returns-clause-uses : goal.returns-clause-uses
returns-clause-uses g c =
    let page = c.args.page.0 in
    let u = uses_within g.P.Pages.stays_on (page ∷ []) (page ∷ []) 0 0 0 0 c.args.p.now c.read_field.new.p c.read_field-2.new.p (λ n is. is) c.read_field.ensures.uses c.read_field-2.ensures.uses in
    uses_within g.P.Pages.stays_on (page ∷ []) (page ∷ []) 0 0 0 0 c.args.p.now c.read_field-2.new.p c.load_slots.new.p (λ n is. is) u c.load_slots.ensures.uses

pub returns-clause-loads : goal.returns-clause-loads
returns-clause-loads g c = λ pages rows next is n its d.
    let are = subst (λ m. AreSlots pages m 52 next.slots) its n.stands.slots in
    let new = subst (λ m. AreNew m (places_of rows) next.slots) its (new_slots pages rows next n) in
    let r = c.in_ok-free.ensures.loads pages (places_of rows) next.slots (c.read_field-2.ensures.told ∙ (c.read_field.ensures.told ∙ is)) are n.stands.many (holds_first c.args.self.now rows d) new in
    let h = subst (λ m. Holds c.load_slots.new.self (places_of rows ++ places_in m 52 next.slots)) (sym its) r.0 in
    let room = ap (λ m. spare m) c.load_slots.ensures.kept.pages in
    let some = c.requires.room.1 in
    let ok = c.insert.ensures.succeeds (omega (arith, room, some)) in
    loaded c.args.self.now c.load_slots.new.self _ pages rows next c.args.page.0 c.in_ok-free.free its n d h r.1 c.load_slots.ensures.kept.pages refl refl (ok_then c.insert.result ok c.insert.ensures.entries) c.insert.ensures.unique refl
