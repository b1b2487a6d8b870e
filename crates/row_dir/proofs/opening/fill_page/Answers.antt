use Rattle.std.proofs.Common.{List, [], ◌∷◌, subst}
use Rattle.page_model.specs.Tables.{Field, SetsFields}
use Rattle.row_dir.proofs.OpenLemmas.{laid_out}
use Rattle.row_dir.proofs.opening.fill_page.Goals as goal

pub returns-clause-header : goal.returns-clause-header
returns-clause-header c =
    let P : List Field → Type 0 = λ t. SetsFields 0 t (c.args.bytes.now ∷ []) (c.fill.new.bytes ∷ []) in
    (laid_out c.args.page.0 c.args.bytes.now c.fill.new.bytes c.fill_fields.new.bytes c.requires.blank (subst P c.alone.ensures c.fill.ensures) c.fill_fields.ensures.sets).header

pub returns-clause-count : goal.returns-clause-count
returns-clause-count c =
    let P : List Field → Type 0 = λ t. SetsFields 0 t (c.args.bytes.now ∷ []) (c.fill.new.bytes ∷ []) in
    (laid_out c.args.page.0 c.args.bytes.now c.fill.new.bytes c.fill_fields.new.bytes c.requires.blank (subst P c.alone.ensures c.fill.ensures) c.fill_fields.ensures.sets).count

pub returns-clause-zeros : goal.returns-clause-zeros
returns-clause-zeros c =
    let P : List Field → Type 0 = λ t. SetsFields 0 t (c.args.bytes.now ∷ []) (c.fill.new.bytes ∷ []) in
    (laid_out c.args.page.0 c.args.bytes.now c.fill.new.bytes c.fill_fields.new.bytes c.requires.blank (subst P c.alone.ensures c.fill.ensures) c.fill_fields.ensures.sets).zeros
