use Rattle.std.proofs.Common.{length, ap, sym, ◌∙◌}
use Rattle.doublewrite.specs.Batches.{BatchState}
use Rattle.doublewrite.proofs.AreaLemmas.{length-batch}
use Rattle.doublewrite.proofs.batch.Filling.len.Goals as goal

pub returns : goal.returns
returns c = sym (length-batch c.self.inside.count c.self.inside.buffer.items) ∙ ap (λ (s : BatchState). length s.batch) c.self.view_is
