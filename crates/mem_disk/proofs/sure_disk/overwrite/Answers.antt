use Rattle.std.proofs.Common.{◌≡◌, ◌∙◌, length, arith}
use Rattle.std.proofs.lemmas.Grind.{common_steps}
use Rattle.std.proofs.lemmas.List.{take_at}
use Rattle.mem_disk.proofs.OverlaidLemmas.{overlaid-inside, overlaid-grown}
use Rattle.mem_disk.proofs.sure_disk.overwrite.Goals as goal
use Rattle.mem_disk.proofs.sure_disk.overwrite.Goals.{then-end-len, else-end-len}

pub returns-clause-items : goal.returns-clause-items
returns-clause-items c =
    let whole : length c.write_over.new.file ≡ c.if-end-len.file.len = grind (arith, common_steps) in
    take_at c.write_over.new.file _ _ whole
    ∙ elim c.if-end-len.branch [
      | then-end-len w ↦ grind (arith, common_steps, overlaid-grown)
      | else-end-len w ↦ grind (arith, common_steps, overlaid-inside)
    ]
