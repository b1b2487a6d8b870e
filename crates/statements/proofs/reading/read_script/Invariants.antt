use Rattle.std.proofs.Common.{ℕ, ◌≡◌, ◌+◌, ◌≤◌, length}
use Rattle.std.specs.Str.Lines.{lines}
use Rattle.journal_model.specs.Journal as journal
use Rattle.journal_model.specs.ScriptText.{lines_by}
use Rattle.statements.specs.Forms.{mode_view, table_of}
use Rattle.statements.specs.Limits.{said}
use Rattle.statements.specs.Lines.{ArePartsOf}
use Rattle.statements.proofs.LimitLemmas.{AreWithin}
use Rattle.statements.proofs.ScriptLemmas.{onto}
use Rattle.statements.proofs.reading.read_script.Given as goal

-- what the rest gives, behind the lines so far, is what all lines give
abbrev pub invariant-loop-rest : goal.invariant-loop-rest
invariant-loop-rest l = record {
  read : (model : journal.Script) × ArePartsOf l.draft.lines.items l.draft.statements.items model × ((s : ℕ) → length (journal.statements s model) ≤ l.count)
      × (lines_by (table_of l.built) (mode_view l.mode) 1 0 (lines l.bytes) ≡ onto model (lines_by (table_of l.built) (mode_view l.mode) (l.number + 1) l.count (lines l.rest)))
      × AreWithin model × (said l.draft.lines.items ≡ l.count);
  sessions : length l.draft.statements.items ≡ 64;
  counted : l.number + length l.rest ≤ length l.bytes;
  few : l.count ≤ 100_000;
}

abbrev pub decreases-loop-rest : goal.decreases-loop-rest
decreases-loop-rest l = length l.rest
