use Rattle.std.proofs.Common.{ap, ap₂, ◌∙◌}
use Rattle.mem_disk.specs.MemDisk.{MemState, events_in}
use Rattle.mem_disk.proofs.CrashLemmas.{answer_is_image}
use Rattle.mem_disk.proofs.mem_disk.MemDisk.crash.Goals as goal

pub returns-clause-image : goal.returns-clause-image
returns-clause-image c =
    let base = c.deref.ensures.value ∙ ap (λ (m : MemState). m.base) c.self.view_is in
    let events = ap₂ events_in c.deref-2.ensures.value c.deref-3.ensures.value ∙ ap (λ (m : MemState). m.events) c.self.view_is in
    answer_is_image (λ v. v.items) c.crash.result c.args.pick _ _ _ _ base events c.crash.ensures
