use Rattle.std.proofs.Common.{◌∙◌, sym, slice_range}
use Rattle.json_binary.proofs.SearchLemmas.{key_equal}
use Rattle.json_binary.proofs.cursor.containers.compare.Goals as goal

pub returns-clause-equal : goal.returns-clause-equal
returns-clause-equal c =
    let r = c.key_range-start.ensures in
    λ e. (λ i. slice_range c.args.bytes.now (sym r.from i) (sym r.to i)) ∙ key_equal _ _ (sym c.key_bytes_order.ensures ∙ e)
