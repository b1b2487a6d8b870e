use Rattle.std.proofs.Common.{◌≡◌, ◌+◌, ◌-◌, [], ◌∷◌, ◌++◌, ℕ, List, length, refl, sym, ap, subst, ◌∙◌, arith}
use Rattle.std.proofs.lemmas.Grind.{common_steps}
use Rattle.engine_base.specs.Disk.{Torn, Written}
use Rattle.mem_disk.specs.declared.mem_disk.Step.{Step}
use Rattle.mem_disk.specs.MemDisk.{MemState, wrote, events_in, contents_in, after_call}
use Rattle.mem_disk.proofs.OverlaidLemmas.{written_overlaid, Torn-overlaid}
use Rattle.mem_disk.proofs.MemDiskLemmas.{mem, write_step, goes_more, events_written, keeps_written, write_contents, write_images, write_ok}
use Rattle.mem_disk.proofs.mem_disk.MemDiskDisk.write_at.Goals as goal

-- what stands where the write was made, from the disk whose call was counted
module _ (c : goal.After-unwrap-2) where
  abbrev old : MemState
  old = c.args.self.now

  abbrev new : List ℕ
  new = c.args.bytes.now

  abbrev steps : List Step
  steps = c.push.new.self.items

  abbrev bytes : List ℕ
  bytes = c.extend_from_slice.new.self.items

  abbrev before : MemState
  before = let i = c.self-2.inside in mem i.base.items (events_in i.steps.items i.bytes.items) i.reads.items i.fails.items i.stop_after i.room i.used i.calls i.writes i.failed

  counted : before ≡ after_call old
  counted = c.self-2.view_is ∙ c.in_ok-enter.ensures.ok

  pushed : steps ≡ c.self-2.inside.steps.items ++ write_step c.args.at (length new) ∷ []
  pushed = grind (arith, common_steps)

  added : bytes ≡ c.self-2.inside.bytes.items ++ new
  added = grind (arith, common_steps)

  is : events_in steps bytes ≡ before.events ++ wrote c.args.at new ∷ []
  is = events_written c.self-2.inside.steps.items steps c.self-2.inside.bytes.items new bytes c.args.at (length new) c.self-2.invariant.whole refl pushed added

  sized : c.len.result ≡ length c.self.inside.contents.items
  sized = grind (arith, common_steps)

  cost : c.cost_of-more.result ≡ length new + ((c.args.at + length new) - length c.self.inside.contents.items)
  cost =
      let room = c.in_ok-enter.ensures.room in
      let used = ap (λ (s : MemState). s.used) counted in
      let all = ap (λ (s : MemState). s.room) counted in
      let small = c.self-2.invariant.small in
      let price = c.cost_of-more.ensures.small (omega (arith, room, used, all, small)) in
      let size = sized in
      omega (arith, price, size)

pub invariant_of-self : goal.invariant_of-self
invariant_of-self c =
    let i = c.self-2.inside in
    let room = c.in_ok-enter.ensures.room in
    let used = ap (λ (s : MemState). s.used) (counted c) in
    let all = ap (λ (s : MemState). s.room) (counted c) in
    let price = cost c in
    let same : length i.contents.items ≡ length c.self.inside.contents.items = grind (arith, common_steps) in
    keeps_written i.base.items i.contents.items c.overwrite.new.file.items i.steps.items (steps c) i.bytes.items (bytes c) i.reads.items (new c) c.args.at (length (new c)) c.cost_of-more.result i.room i.used _ _ _ _ _ _ _
    c.self-2.invariant refl (pushed c) (added c) c.overwrite.ensures.items (omega (arith, price, same)) c.push.ensures.capacity c.extend_from_slice.ensures.capacity c.overwrite.ensures.capacity (omega (arith, room, used, all))

pub returns-clause-written : goal.returns-clause-written
returns-clause-written c =
    let P : List ℕ → Type 0 = λ xs. Written c.args.at (new c) (contents_in (old c)) xs in
    subst P (sym (write_contents (before c) (old c) (events_in (steps c) (bytes c)) c.args.at (new c) (counted c) (is c))) (written_overlaid (contents_in (old c)) c.args.at (new c))

pub returns-clause-torn : goal.returns-clause-torn
returns-clause-torn c =
    let P : List ℕ → Type 0 = λ xs. Torn c.args.at (length (new c)) (contents_in (old c)) xs in
    subst P (sym (write_contents (before c) (old c) (events_in (steps c) (bytes c)) c.args.at (new c) (counted c) (is c))) (Torn-overlaid (contents_in (old c)) c.args.at (new c))

pub returns-clause-images : goal.returns-clause-images
returns-clause-images c = write_images (before c) (old c) (events_in (steps c) (bytes c)) c.args.at (new c) (counted c) (is c)

pub returns-clause-goes_on : goal.returns-clause-goes_on
returns-clause-goes_on c =
    let i = c.self-2.inside in
    let n = mem i.base.items (events_in (steps c) (bytes c)) i.reads.items i.fails.items i.stop_after i.room (i.used + (64 + c.cost_of-more.result)) i.calls c.saturating_add-self-inside.result i.failed in
    goes_more (old c) n (wrote c.args.at (new c)) tt (ap (λ (s : MemState). s.base) (counted c)) (is c ∙ ap (λ (s : MemState). s.events ++ wrote c.args.at (new c) ∷ []) (counted c)) (ap (λ (s : MemState). s.faults) (counted c))

pub returns-clause-ok : goal.returns-clause-ok
returns-clause-ok c =
    let long : length c.self.inside.contents.items ≡ length (contents_in (old c)) = ap length (c.self.invariant.is ∙ ap contents_in c.self.view_is) in
    write_ok (before c) (old c) (events_in (steps c) (bytes c)) c.args.at (new c) c.cost_of-more.result (length c.self.inside.contents.items) c.saturating_add-self-inside.result (counted c) (is c) (cost c) long c.saturating_add-self-inside.ensures
