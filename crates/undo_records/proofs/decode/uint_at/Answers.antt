use Rattle.std.proofs.Common.{◌+◌, ◌∙◌, ap, ◌^◌, ◌<◌, drop, get_or-drop, subst, ℕ, sym, arith}
use Rattle.byteorder.specs.Endian.{big_number}
use Rattle.byteorder.specs.Numbers.{big_from-lt}
use Rattle.undo_records.proofs.decode.uint_at.Goals as goal

pub returns-clause-narrow : goal.returns-clause-narrow
returns-clause-narrow c =
    let P : ℕ → Type 0 = λ v. v < 256 ^ c.args.width in
    let S : ℕ → Type 0 = λ v. v < 256 in
    let xs = c.args.bytes.now in
    subst P (sym (c.read_uint.ensures ∙ ap (big_number c.args.width) c.behind.ensures))
    (big_from-lt 0 c.args.width (drop c.args.at xs)
    (λ i. subst S (sym (get_or-drop c.args.at xs i 0)) (let f = c.type_inv.bytes (c.args.at + i) in omega (arith, f))))
