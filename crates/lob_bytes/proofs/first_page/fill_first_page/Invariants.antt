use Rattle.std.proofs.Common.{◌≡◌, length, [], ◌∷◌}
use Rattle.page_model.specs.Tables.{HasFields}
use Rattle.lob_bytes.specs.Begin.{first_fields, AreLinked}
use Rattle.lob_bytes.proofs.first_page.fill_first_page.Given as goal

abbrev pub invariant-nodes : goal.invariant-nodes
invariant-nodes l = record {
  len : length l.bytes ≡ 16_384;
  fields : HasFields (l.bytes ∷ []) 0 (first_fields l.fn.page.0 l.fn.trx.0);
  nodes : AreLinked (l.bytes ∷ []) 0 l.fn.page.0 l.i;
}
