use Rattle.std.proofs.Common.{List, [], ◌∷◌, subst}
use Rattle.page_model.specs.Tables.{Field, SetsFields}
use Rattle.page_space.proofs.SystemLemmas.{laid_out, blank_at}
use Rattle.page_space.proofs.system.fill_system.Goals as goal

pub returns : goal.returns
returns c =
    let P : List Field → Type 0 = λ t. SetsFields 0 t (c.args.page.now ∷ []) (c.fill.new.bytes ∷ []) in
    laid_out c.args.pages c.args.page.now c.fill.new.bytes c.fill_fields.new.bytes (blank_at c.args.page.now c.requires.blank) (subst P c.alone.ensures c.fill.ensures) c.fill_fields.ensures.sets
