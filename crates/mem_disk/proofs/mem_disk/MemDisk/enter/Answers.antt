use Rattle.std.proofs.Common.{refl}
use Rattle.mem_disk.specs.MemDisk.{events_in}
use Rattle.mem_disk.proofs.MemDiskLemmas.{mem, refuses_of}
use Rattle.mem_disk.proofs.mem_disk.MemDisk.enter.Goals as goal

pub returns-then-refuses-clause-fails : goal.returns-then-refuses-clause-fails
returns-then-refuses-clause-fails c =
    let i = c.self.inside in
    let m = mem i.base.items (events_in i.steps.items i.bytes.items) i.reads.items i.fails.items i.stop_after i.room i.used i.calls i.writes i.failed in (
      λ e. refuses_of m c.args.self.now c.deref.result.now c.saturating_add-self-inside.result c.args.more c.self.view_is c.deref.ensures.value c.saturating_add-self-inside.ensures (c.refuses.ensures.0 c.if-refuses.true),
      λ e. refl,
    )
