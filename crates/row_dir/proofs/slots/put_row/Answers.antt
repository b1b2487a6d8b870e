use Rattle.std.proofs.Common.{ℕ, [], ◌∷◌, ◌∙◌, subst}
use Rattle.page_model.specs.Spans.{SetsField}
use Rattle.row_dir.specs.Slots.{keyed_of}
use Rattle.row_dir.proofs.SlotLemmas.{row_put}
use Rattle.row_dir.proofs.slots.put_row.Goals as goal

pub returns : goal.returns
returns c =
    let P : ℕ → Type 0 = λ v. SetsField 0 0 1 v (c.args.bytes.now ∷ []) (c.put_number.new.bytes ∷ []) in
    row_put c.args.bytes.now c.put_number.new.bytes c.put_u32.new.bytes c.put_number-2.new.bytes c.put_number-3.new.bytes c.put_u32-2.new.bytes c.put_u32-3.new.bytes c.put_u32-4.new.bytes c.put_u32-5.new.bytes c.put_u32-6.new.bytes
    (keyed_of c.args.row.now) c.requires.sound.present (subst P (c.from.ensures ∙ c.code_of.ensures.value) c.put_number.ensures) c.put_u32.ensures c.put_number-2.ensures c.put_number-3.ensures c.put_u32-2.ensures c.put_u32-3.ensures c.put_u32-4.ensures c.put_u32-5.ensures c.put_u32-6.ensures
