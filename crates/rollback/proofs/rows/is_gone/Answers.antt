use Rattle.std.proofs.Common.{refl, sym, ap, ◌∙◌}
use Rattle.lob_index.proofs.AnswerLemmas.{if_ok}
use Rattle.store_pages.proofs.PurgedLemmas.{purged_shown}
use Rattle.store_model.specs.Undo.{is_gone}
use Rattle.undo_records.specs.Records.{state_of}
use Rattle.undo_records.specs.declared.record_type.RowState.{RowState as State}
use Rattle.read_views.specs.Flights.{row_in}
use Rattle.rollback.proofs.rows.is_gone.Goals as goal

pub returns-in-Deleted-clause-value : goal.returns-in-Deleted-clause-value
returns-in-Deleted-clause-value g c = λ there pages store told on can.
    let row = row_in c.args.before.now in
    if_ok _ _ c.is_purged.result (λ b is. is
    ∙ purged_shown pages store on.is can.distinct row c.args.before.now.roll.0 refl can.named
    ∙ sym (ap (λ (s : State). is_gone store (state_of s) row) c.in-Deleted.is))
    (c.is_purged.ensures.value pages store told on.is)

pub returns-in-Deleted-clause-never : goal.returns-in-Deleted-clause-never
returns-in-Deleted-clause-never g c = λ there pages store told on.
    c.is_purged.ensures.never pages store told on.is
