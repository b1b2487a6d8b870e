use Rattle.std.proofs.Common.{◌≡◌, ◌+◌, [], ◌∷◌, ◌++◌, List, Some, ap, ◌∙◌, arith}
use Rattle.std.proofs.lemmas.Grind.{common_steps}
use Rattle.mem_disk.specs.MemDisk.{Event, MemState, synced, events_in, after_call}
use Rattle.mem_disk.proofs.MemDiskLemmas.{mem, sync_step, goes_more, events_synced, keeps_synced, sync_durable, sync_seen, sync_images}
use Rattle.mem_disk.proofs.mem_disk.MemDiskDisk.sync.Goals as goal

pub invariant_of-self : goal.invariant_of-self
invariant_of-self c =
    let i = c.self.inside in
    let m = mem i.base.items (events_in i.steps.items i.bytes.items) i.reads.items i.fails.items i.stop_after i.room i.used i.calls i.writes i.failed in
    let counted : m ≡ after_call c.args.self.now = c.self.view_is ∙ c.in_ok-enter.ensures.ok in
    let pushed : c.push.new.self.items ≡ i.steps.items ++ sync_step ∷ [] = grind (arith, common_steps) in
    let is = events_synced i.steps.items c.push.new.self.items i.bytes.items c.self.invariant.whole pushed in
    let room = c.in_ok-enter.ensures.room in
    let a = ap (λ (s : MemState). s.used) counted in
    let b = ap (λ (s : MemState). s.room) counted in
    keeps_synced i.base.items i.contents.items i.steps.items c.push.new.self.items i.bytes.items i.reads.items i.room i.used _ _ _ _ _ c.self.invariant pushed c.push.ensures.capacity (omega (arith, room, a, b))

pub returns-clause-durable : goal.returns-clause-durable
returns-clause-durable c =
    let i = c.self.inside in
    let m = mem i.base.items (events_in i.steps.items i.bytes.items) i.reads.items i.fails.items i.stop_after i.room i.used i.calls i.writes i.failed in
    let counted : m ≡ after_call c.args.self.now = c.self.view_is ∙ c.in_ok-enter.ensures.ok in
    let pushed : c.push.new.self.items ≡ i.steps.items ++ sync_step ∷ [] = grind (arith, common_steps) in
    let is = events_synced i.steps.items c.push.new.self.items i.bytes.items c.self.invariant.whole pushed in
    sync_durable m c.args.self.now (events_in c.push.new.self.items i.bytes.items) counted is

pub returns-clause-seen : goal.returns-clause-seen
returns-clause-seen c =
    let i = c.self.inside in
    let m = mem i.base.items (events_in i.steps.items i.bytes.items) i.reads.items i.fails.items i.stop_after i.room i.used i.calls i.writes i.failed in
    let counted : m ≡ after_call c.args.self.now = c.self.view_is ∙ c.in_ok-enter.ensures.ok in
    let pushed : c.push.new.self.items ≡ i.steps.items ++ sync_step ∷ [] = grind (arith, common_steps) in
    let is = events_synced i.steps.items c.push.new.self.items i.bytes.items c.self.invariant.whole pushed in
    ap (λ (xs : List _). Some xs) (sync_seen m c.args.self.now (events_in c.push.new.self.items i.bytes.items) counted is)

pub returns-clause-images : goal.returns-clause-images
returns-clause-images c =
    let i = c.self.inside in
    let m = mem i.base.items (events_in i.steps.items i.bytes.items) i.reads.items i.fails.items i.stop_after i.room i.used i.calls i.writes i.failed in
    let counted : m ≡ after_call c.args.self.now = c.self.view_is ∙ c.in_ok-enter.ensures.ok in
    let pushed : c.push.new.self.items ≡ i.steps.items ++ sync_step ∷ [] = grind (arith, common_steps) in
    let is = events_synced i.steps.items c.push.new.self.items i.bytes.items c.self.invariant.whole pushed in
    sync_images m c.args.self.now (events_in c.push.new.self.items i.bytes.items) counted is

pub returns-clause-ok : goal.returns-clause-ok
returns-clause-ok c =
    let i = c.self.inside in
    let m = mem i.base.items (events_in i.steps.items i.bytes.items) i.reads.items i.fails.items i.stop_after i.room i.used i.calls i.writes i.failed in
    let counted : m ≡ after_call c.args.self.now = c.self.view_is ∙ c.in_ok-enter.ensures.ok in
    let pushed : c.push.new.self.items ≡ i.steps.items ++ sync_step ∷ [] = grind (arith, common_steps) in
    let is = events_synced i.steps.items c.push.new.self.items i.bytes.items c.self.invariant.whole pushed in
    ap (λ (es : List Event). mem i.base.items es i.reads.items i.fails.items i.stop_after i.room (i.used + 64) i.calls i.writes i.failed) is
    ∙ ap (λ (s : MemState). mem s.base (s.events ++ synced ∷ []) s.reads s.fails s.stop_after s.room (s.used + 64) s.calls s.writes s.faults) counted

pub returns-clause-goes_on : goal.returns-clause-goes_on
returns-clause-goes_on c =
    let i = c.self.inside in
    let m = mem i.base.items (events_in i.steps.items i.bytes.items) i.reads.items i.fails.items i.stop_after i.room i.used i.calls i.writes i.failed in
    let counted : m ≡ after_call c.args.self.now = c.self.view_is ∙ c.in_ok-enter.ensures.ok in
    let pushed : c.push.new.self.items ≡ i.steps.items ++ sync_step ∷ [] = grind (arith, common_steps) in
    let is = events_synced i.steps.items c.push.new.self.items i.bytes.items c.self.invariant.whole pushed in
    let n = mem i.base.items (events_in c.push.new.self.items i.bytes.items) i.reads.items i.fails.items i.stop_after i.room (i.used + 64) i.calls i.writes i.failed in
    goes_more c.args.self.now n synced tt (ap (λ (s : MemState). s.base) counted) (is ∙ ap (λ (s : MemState). s.events ++ synced ∷ []) counted) (ap (λ (s : MemState). s.faults) counted)
