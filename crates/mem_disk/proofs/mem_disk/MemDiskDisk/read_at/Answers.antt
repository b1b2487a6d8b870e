use Rattle.std.proofs.Common.{◌≡◌, ◌+◌, ap, ◌∙◌}
use Rattle.mem_disk.specs.MemDisk.{MemState, events_in, after_call}
use Rattle.mem_disk.proofs.MemDiskLemmas.{mem, goes_same}
use Rattle.mem_disk.proofs.mem_disk.MemDiskDisk.read_at.Goals as goal

pub returns-clause-goes_on : goal.returns-clause-goes_on
returns-clause-goes_on c =
    let i = c.self.inside in
    let m = mem i.base.items (events_in i.steps.items i.bytes.items) i.reads.items i.fails.items i.stop_after i.room i.used i.calls i.writes i.failed in
    let counted : m ≡ after_call c.args.self.now = c.self.view_is ∙ c.in_ok-enter.ensures.ok in
    let n = mem i.base.items (events_in i.steps.items i.bytes.items) c.push.new.self.items i.fails.items i.stop_after i.room (i.used + 64) i.calls i.writes i.failed in
    goes_same c.args.self.now n tt (ap (λ (s : MemState). s.base) counted) (ap (λ (s : MemState). s.events) counted) (ap (λ (s : MemState). s.faults) counted)
