use Rattle.std.proofs.Common.{inl, inr, [], sym, subst, lit≤}
use Rattle.page_model.proofs.StepLemmas.{may_less, uses_at_most}
use Rattle.version_read.proofs.WalkLemmas.{on_ok}
use Rattle.version_read.proofs.EventLemmas.{reading_walk, walk_steps, IsStill, still_steps}
use Rattle.version_read.proofs.events.go_on.Goals as goal

pub seek_row-requires-clause-may : goal.seek_row-requires-clause-may
seek_row-requires-clause-may g c =
    may_less [] [] 16 9 0 0 _ c.requires.may (λ n is. is) (lit≤ tt) (lit≤ tt)

pub put_records-requires-clause-may : goal.put_records-requires-clause-may
put_records-requires-clause-may g c =
    may_less [] [] 16 8 0 0 _ c.requires.may (λ n is. is) (lit≤ tt) (lit≤ tt)

pub returns-in-Seek-clause-uses : goal.returns-in-Seek-clause-uses
returns-in-Seek-clause-uses g c =
    uses_at_most [] 9 0 16 0 _ _ (lit≤ tt) (lit≤ tt) c.seek_row.ensures.uses

pub returns-in-Unpatch-clause-uses : goal.returns-in-Unpatch-clause-uses
returns-in-Unpatch-clause-uses g c =
    uses_at_most [] 8 0 16 0 _ _ (lit≤ tt) (lit≤ tt) c.put_records.ensures.uses

pub returns-in-Pieces-clause-steps : goal.returns-in-Pieces-clause-steps
returns-in-Pieces-clause-steps g c = λ pages store shown u.
    c.copy_piece.ensures.copies pages store _ shown u

pub returns-in-Pieces-clause-never : goal.returns-in-Pieces-clause-never
returns-in-Pieces-clause-never g c = λ pages store shown u.
    c.copy_piece.ensures.never pages store _ shown u

pub returns-in-Unpatch-clause-steps : goal.returns-in-Unpatch-clause-steps
returns-in-Unpatch-clause-steps g c = λ pages store shown u.
    let phase = c.in-Unpatch.is in
    on_ok c.put_records.result _ _
    (λ x does. walk_steps u c.put_records.new.flight phase c.put_records.ensures.phase
    c.put_records.ensures.of does)
    (c.put_records.ensures.puts pages store _ shown (reading_walk u phase))

pub returns-in-Unpatch-clause-never : goal.returns-in-Unpatch-clause-never
returns-in-Unpatch-clause-never g c = λ pages store shown u.
    c.put_records.ensures.never pages store _ shown (reading_walk u c.in-Unpatch.is)

pub returns-in-Found-clause-steps : goal.returns-in-Found-clause-steps
returns-in-Found-clause-steps g c = λ pages store shown u.
    still_steps u (elim c.in-Found.is [
      | inl is ↦ subst IsStill (sym is.1) tt
      | inr is ↦ elim is [ inl e ↦ subst IsStill (sym e) tt | inr e ↦ subst IsStill (sym e) tt ]
    ])
