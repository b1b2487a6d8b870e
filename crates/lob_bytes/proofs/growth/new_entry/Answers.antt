use Rattle.std.proofs.Common.{refl}
use Rattle.lob_bytes.proofs.growth.new_entry.Goals as goal

pub returns-clause-fields : goal.returns-clause-fields
returns-clause-fields c = record {
  count = refl;
  first = refl;
  last = refl;
  creator = refl;
  modifier = refl;
  creator_undo = refl;
  modifier_undo = refl;
  page' = refl;
  long = refl;
  number = refl;
}
