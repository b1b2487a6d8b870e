use Rattle.std.proofs.Common.{sym, ap, ◌∙◌}
use Rattle.undo_model.specs.Reading.{reference_in}
use Rattle.lob_pages.specs.References.{reference_of}
use Rattle.undo_records.specs.Records.{state_of}
use Rattle.undo_records.proofs.DecodeLemmas.{row_some, row_no_reference}
use Rattle.undo_records.proofs.decode.row.Goals as goal

pub returns-then-not-is_reference-clause-value : goal.returns-then-not-is_reference-clause-value
returns-then-not-is_reference-clause-value c = row_no_reference c.args.count c.args.bytes.now (state_of c.in_ok-state.state) c.uint_at-trx.result c.uint_at-roll.result (reference_of c.reference-lob.result)
    (sym c.in_ok-state.ensures) c.uint_at-trx.ensures.value c.uint_at-roll.ensures.value (c.reference-lob.ensures ∙ ap reference_in c.behind.ensures)
    (sym c.if-not-is_pointer.ensures) (sym c.if-not-is_reference.ensures)

pub returns-clause-value : goal.returns-clause-value
returns-clause-value c = row_some c.args.count c.args.bytes.now (state_of c.in_ok-state.state) c.uint_at-trx.result c.uint_at-roll.result (reference_of c.reference-lob.result)
    (sym c.in_ok-state.ensures) c.uint_at-trx.ensures.value c.uint_at-roll.ensures.value (c.reference-lob.ensures ∙ ap reference_in c.behind.ensures)
    (sym c.if-not-is_pointer.ensures) (sym c.if-not-is_reference.ensures)
