use Rattle.std.proofs.Common.{List, [], ◌∷◌, subst}
use Rattle.page_model.specs.Tables.{Field, SetsFields}
use Rattle.undo_logs.proofs.BeginLemmas.{laid_out}
use Rattle.undo_logs.proofs.beginning.fill_first.Goals as goal

pub returns-clause-fields : goal.returns-clause-fields
returns-clause-fields c =
    let P : List Field → Type 0 = λ t. SetsFields 0 t (c.args.bytes.now ∷ []) (c.fill.new.bytes ∷ []) in
    laid_out c.args.page.0 c.args.trx.0 c.args.bytes.now c.fill.new.bytes c.fill_fields.new.bytes c.put_number.new.bytes c.fill_fields-2.new.bytes (subst P c.alone.ensures c.fill.ensures) c.fill_fields.ensures.sets c.put_number.ensures c.fill_fields-2.ensures.sets
