use Rattle.std.proofs.Common.{ℕ, List, drop, sym, subst, refl, arith}
use Rattle.std.proofs.lemmas.List.{take_rest}
use Rattle.page_model.specs.Frames.{HasWrites}
use Rattle.page_model.proofs.ParseLemmas.{frame_parts, frame_of_parts}
use Rattle.mini_trx.proofs.frame.is_frame.Goals as goal

pub returns-then-has_header : goal.returns-then-has_header
returns-then-has_header c =
    let bytes = c.args.bytes.now in
    let header = c.if-has_header.ensures.0 refl in
    let P : ℕ → Type 0 = λ n. HasWrites c.args.pages n (drop 6 bytes) in
    let Q : List ℕ → Type 0 = λ xs. HasWrites c.args.pages c.count_of.result xs in (
      λ t. frame_of_parts c.args.pages bytes (λ k. let f = c.type_inv.bytes k in omega arith) header (subst P c.count_of.ensures (subst Q (take_rest bytes 6) (c.has_writes.ensures.0 t))),
      λ holds. c.has_writes.ensures.1 (subst Q (sym (take_rest bytes 6)) (subst P (sym c.count_of.ensures) (frame_parts c.args.pages bytes holds).1)),
    )

pub returns-else-has_header : goal.returns-else-has_header
returns-else-has_header c = (
  λ t. cc,
  λ holds. c.has_header.ensures.1 (frame_parts c.args.pages c.args.bytes.now holds).0,
)
