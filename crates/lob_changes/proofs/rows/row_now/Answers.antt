use Rattle.std.proofs.Common.{Option, ap, sym, ◌∙◌}
use Rattle.undo_records.specs.declared.record_type.Row.{Row}
use Rattle.transactions.proofs.StandLemmas.{rows_at}
use Rattle.lob_changes.proofs.RowLemmas.{shown_or_absent, row_shown}
use Rattle.lob_changes.proofs.rows.row_now.Goals as goal

pub returns-in-None-clause-value : goal.returns-in-None-clause-value
returns-in-None-clause-value g c = λ there pages store told on dir.
    c.absent.ensures.shows ∙ sym (ap (λ (o : Option Row). shown_or_absent o) c.in-None.is)
    ∙ row_shown there pages store c.args.doc.0 c.in_ok-row.field-0 on
    (c.in_ok-row.ensures.value pages there told (rows_at there pages store on) dir)

pub returns-in-None-clause-doc : goal.returns-in-None-clause-doc
returns-in-None-clause-doc g c = c.absent.ensures.doc
