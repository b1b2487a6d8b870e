use Rattle.std.proofs.Common.{◌+◌, ◌∙◌, ℕ, ap, take, drop, arith}
use Rattle.std.proofs.lemmas.List.{take_rest}
use Rattle.byteorder.specs.Endian.{big_number}
use Rattle.page_model.specs.Frames.{write}
use Rattle.page_model.proofs.GroupFrameLemmas.{first_read}
use Rattle.mini_trx.proofs.frame.first_write.Goals as goal

pub returns : goal.returns
returns c = λ w after begins.
    let bytes = c.args.bytes.now in
    let page = c.read_u32.result in
    let at = c.read_u16-2.result in
    let size = c.from-end.result in
    let read = first_read w after bytes page at size begins c.read_u32.ensures
    (c.read_u16-2.ensures ∙ ap (big_number 2) (take_rest bytes 4))
    (c.from-end.ensures ∙ c.read_u16.ensures ∙ ap (big_number 2) (take_rest bytes 6)) in (
      ap (λ (n : ℕ). write page at (take n (drop 8 bytes))) (omega arith) ∙ read.0,
      take_rest bytes (8 + size) ∙ read.1,
    )
