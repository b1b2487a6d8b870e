use Rattle.std.proofs.Common.{[], lit≤}
use Rattle.page_model.proofs.StepLemmas.{may_within, may_less, uses_within, uses_at_most}
use Rattle.file_lists.proofs.LinkLemmas.{handed_on}
use Rattle.version_read.proofs.EventLemmas.{on_ok_with, reading_begun, seek_steps}
use Rattle.version_read.proofs.events.seek_row.Goals as goal

pub row_to_begin-requires-clause-may : goal.row_to_begin-requires-clause-may
row_to_begin-requires-clause-may g c =
    may_less [] [] 9 1 0 0 _ c.requires.may (λ n is. is) (lit≤ tt) (lit≤ tt)

pub judge_rows-requires-clause-may : goal.judge_rows-requires-clause-may
judge_rows-requires-clause-may g c =
    may_within [] [] 9 0 1 0 8 0 _ _ (λ n is. is) (lit≤ tt) (lit≤ tt) c.requires.may
    c.row_to_begin.ensures.uses

pub returns-in_err-present-clause-never : goal.returns-in_err-present-clause-never
returns-in_err-present-clause-never g c = λ pages store shown u.
    handed_on c.row_to_begin.result _ _
    (c.row_to_begin.ensures.never pages store u.told' u.is u.directory) c.in_err-present.was
    c.from_residual.ensures

pub returns-in_err-present-clause-uses : goal.returns-in_err-present-clause-uses
returns-in_err-present-clause-uses g c =
    uses_at_most [] 1 0 9 0 _ _ (lit≤ tt) (lit≤ tt) c.row_to_begin.ensures.uses

pub returns-clause-uses : goal.returns-clause-uses
returns-clause-uses g c =
    uses_within g.P.Pages.stays_on [] [] 1 0 8 0 _ _ _ (λ n is. is) c.row_to_begin.ensures.uses
    c.judge_rows.ensures.uses

pub returns-clause-never : goal.returns-clause-never
returns-clause-never g c = λ pages store shown u.
    let present = c.in_ok-present.ensures.value pages store u.told' u.is u.directory in
    c.judge_rows.ensures.never pages store shown
    (reading_begun u _ c.in_ok-present.present c.row_to_begin.ensures.told c.requires.phase present)

pub returns-clause-steps : goal.returns-clause-steps
returns-clause-steps g c = λ pages store shown u.
    let phase = c.requires.phase in
    let present = c.in_ok-present.ensures.value pages store u.told' u.is u.directory in
    on_ok_with c.judge_rows.result _ _ _
    (λ some x does. seek_steps u c.judge_rows.new.flight c.in_ok-present.present phase present some
    does) c.judge_rows.ensures.row (c.judge_rows.ensures.judges pages store shown
    (reading_begun u _ c.in_ok-present.present c.row_to_begin.ensures.told phase present))
