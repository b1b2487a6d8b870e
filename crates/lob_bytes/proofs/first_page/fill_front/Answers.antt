use Rattle.std.proofs.Common.{List, [], ◌∷◌, subst}
use Rattle.page_model.specs.Tables.{Field, SetsFields}
use Rattle.lob_bytes.proofs.BeginLemmas.{front_filled}
use Rattle.lob_bytes.proofs.first_page.fill_front.Goals as goal

pub returns-clause-sets : goal.returns-clause-sets
returns-clause-sets c =
    let P : List Field → Type 0 = λ t. SetsFields 0 t (c.args.bytes.now ∷ []) (c.fill.new.bytes ∷ []) in
    front_filled c.args.page.0 c.args.trx.0 c.from.result _ _ _ _ _ _ _ c.from.ensures (subst P c.alone.ensures c.fill.ensures) c.fill_fields.ensures.sets c.put_number.ensures.sets c.fill_fields-2.ensures.sets c.put_number-2.ensures.sets c.fill_fields-3.ensures.sets
