use Rattle.std.proofs.Common.{[], ◌∷◌, lit≤, sym, arith}
use Rattle.indexmap.proofs.MapLemmas.{OnOk-map}
use Rattle.page_model.proofs.StepLemmas.{uses_unnamed, uses_at_most}
use Rattle.row_dir.proofs.UseLemmas.{named}
use Rattle.row_dir.proofs.DropLemmas.{room_known}
use Rattle.row_dir.proofs.dir.RowDir.remove.Goals as goal

pub returns-in_default-free_slots-clause-removes : goal.returns-in_default-free_slots-clause-removes
returns-in_default-free_slots-clause-removes g c = λ pages rows is stands d can some.
    absurd (room_known rows pages c.args.self.now c.args.doc.0 c.in-Some.place stands can d (sym c.in-Some.ensures) c.in_default-free_slots.ensures)

pub returns-then-free-lt-MAX_SLOTS-clause-removes : goal.returns-then-free-lt-MAX_SLOTS-clause-removes
returns-then-free-lt-MAX_SLOTS-clause-removes g c = λ pages rows is stands d can some.
    OnOk-map c.clear.result _ _ (λ b. (b.0, b.1, (b.2.0, (let f = b.2.1 in omega (arith, f))))) (c.clear.ensures.removes pages rows is stands d can)

pub returns-else-free-lt-MAX_SLOTS-clause-removes : goal.returns-else-free-lt-MAX_SLOTS-clause-removes
returns-else-free-lt-MAX_SLOTS-clause-removes g c = λ pages rows is stands d can some.
    OnOk-map c.drop_last.result _ _ (λ b. (b.0, b.1, (b.2.0, (let f = b.2.1 in omega (arith, f))))) (c.drop_last.ensures.removes pages rows is stands d can)

pub returns-then-free-lt-MAX_SLOTS-clause-uses : goal.returns-then-free-lt-MAX_SLOTS-clause-uses
returns-then-free-lt-MAX_SLOTS-clause-uses g c = uses_at_most (0 ∷ []) 1 19 3 61 _ _ (lit≤ tt) (lit≤ tt) (uses_unnamed c.in-Some.place.page.0 (0 ∷ []) 0 19 _ _ (named c.in-Some.place.page.0 19 _ _ c.clear.ensures.uses))

pub returns-else-free-lt-MAX_SLOTS-clause-uses : goal.returns-else-free-lt-MAX_SLOTS-clause-uses
returns-else-free-lt-MAX_SLOTS-clause-uses g c = uses_unnamed c.in-Some.place.page.0 (0 ∷ []) 2 61 _ _ c.drop_last.ensures.uses
