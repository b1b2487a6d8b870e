use Rattle.std.proofs.Common.{◌+◌, ◌∙◌, ℕ, List, take, drop, ap, sym, subst, arith}
use Rattle.std.proofs.lemmas.List.{take_rest}
use Rattle.byteorder.specs.Endian.{big_number}
use Rattle.page_model.specs.Frames.{BeginsWith, write}
use Rattle.page_model.proofs.ParseLemmas.{begins_there}
use Rattle.mini_trx.proofs.frame.behind_write.Goals as goal

pub returns-then-end-bytes-clause-found : goal.returns-then-end-bytes-clause-found
returns-then-end-bytes-clause-found c =
    let bytes = c.args.bytes.now in
    let size = c.from-len.result in
    let w = write c.read_u32-page.result c.from-at.result (take size (drop 8 bytes)) in
    let there = begins_there c.args.pages bytes c.read_u32-page.result c.from-at.result size (λ k. let f = c.type_inv.bytes k in omega arith) c.read_u32-page.ensures
    (c.from-at.ensures ∙ c.read_u16.ensures ∙ ap (big_number 2) (take_rest bytes 4)) (c.from-len.ensures ∙ c.read_u16-2.ensures ∙ ap (big_number 2) (take_rest bytes 6))
    (omega arith) (omega arith) (omega arith) in
    let P : List ℕ → Type 0 = λ after. BeginsWith c.args.pages w after bytes in
    (w, subst P (sym (take_rest bytes (8 + size))) there)
