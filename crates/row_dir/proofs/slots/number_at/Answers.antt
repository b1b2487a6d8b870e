use Rattle.std.proofs.Common.{◌^◌, ◌<◌, ℕ, subst, arith}
use Rattle.lob_pages.proofs.ByteLemmas.{number_read, small_alone}
use Rattle.row_dir.proofs.slots.number_at.Goals as goal

pub returns-clause-value : goal.returns-clause-value
returns-clause-value c = number_read c.args.bytes.now c.args.at c.args.width _ _ _ c.read_uint.result c.from.ensures c.from-2.ensures (let w = c.requires.within in let e = c.from.ensures in omega arith) c.read_uint.ensures

pub returns-clause-fits : goal.returns-clause-fits
returns-clause-fits c =
    let P : ℕ → Type 0 = λ v. v < 256 ^ c.args.width in
    subst P (returns-clause-value c) (small_alone c.args.bytes.now c.args.at c.args.width (λ i. let f = c.type_inv.bytes i in omega arith))
