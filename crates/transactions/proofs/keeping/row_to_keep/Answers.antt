use Rattle.std.proofs.Common.{arith}
use Rattle.transactions.proofs.keeping.row_to_keep.Goals as goal

pub returns-clause-sound : goal.returns-clause-sound
returns-clause-sound c = record {
  trx = omega (arith, c.if-row-ge-ID_END.false);
  roll_fits = c.in_ok-roll.ensures.narrow;
  roll = c.in_ok-roll.ensures.sound;
  space = c.check_reference.ensures.space;
  version = c.check_reference.ensures.version;
  length_fits = c.check_reference.ensures.length;
  page_fits = c.check_reference.ensures.page;
  lob = c.in_ok-check_reference.ensures.sound;
}
