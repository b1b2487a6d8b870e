use Rattle.std.proofs.Common.{ℕ, [], ◌∷◌, List, subst}
use Rattle.page_model.specs.Spans.{SetsField}
use Rattle.page_model.specs.Tables.{Field, SetsFields}
use Rattle.lob_index.proofs.DataLemmas.{front_filled}
use Rattle.lob_index.proofs.data.fill_front.Goals as goal

pub returns-clause-fields : goal.returns-clause-fields
returns-clause-fields c =
    let S : List Field → Type 0 = λ t. SetsFields 0 t (c.args.front.now ∷ []) (c.fill.new.bytes ∷ []) in
    let L : ℕ → Type 0 = λ n. SetsField 0 39 4 n (c.fill.new.bytes ∷ []) (c.put_number.new.bytes ∷ []) in
    front_filled c.args.page.0 c.args.trx.0 c.args.len (c.args.front.now ∷ []) (c.fill.new.bytes ∷ []) (c.put_number.new.bytes ∷ []) (c.put_number-2.new.bytes ∷ []) (subst S c.alone.ensures c.fill.ensures) (subst L c.from.ensures c.put_number.ensures.sets) c.put_number-2.ensures.sets
