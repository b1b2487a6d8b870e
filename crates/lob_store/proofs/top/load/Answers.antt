use Rattle.std.proofs.Common.{subst}
use Rattle.journal_model.specs.Built.{alone}
use Rattle.journal_model.specs.ScriptText.{turns, script_by}
use Rattle.statements.specs.Scripts.{IsReadAs}
use Rattle.lob_store.proofs.top.load.Goals as goal

pub returns-in-Ok-read_script-clause-ok : goal.returns-in-Ok-read_script-clause-ok
returns-in-Ok-read_script-clause-ok g c = record {
  bytes = c.in-Ok.bytes.items;
  read = c.in-Ok.ensures.ok;
  is = subst (λ xs. IsReadAs c.in-Ok-read_script.script (script_by alone turns xs)) c.deref.ensures.value c.in-Ok-read_script.ensures.ok;
}
