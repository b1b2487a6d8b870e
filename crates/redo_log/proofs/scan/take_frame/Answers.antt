use Rattle.std.proofs.Common.{◌≡◌, inl, inr, Bool, Option, length, subst, ◌∙◌, arith}
use Rattle.std.proofs.lemmas.Grind.{common_steps}
use Rattle.mini_trx.specs.Groups.{GroupView}
use Rattle.redo_log.specs.Scans.{IsTaken}
use Rattle.redo_log.proofs.PlaceLemmas.{stops, takes}
use Rattle.redo_log.proofs.scan.take_frame.Goals as goal
use Rattle.redo_log.proofs.scan.take_frame.Goals.{then-not-whole-via-then-not-whole, then-not-whole-via-else-not-whole+then-not-into_group}

pub returns-then-not-whole-clause-log : goal.returns-then-not-whole-clause-log
returns-then-not-whole-clause-log c region file most whole head =
    let l = c.args.layout.now in
    let T : Bool → Option GroupView → Type 0 = λ b o. IsTaken b l.pages c.args.buffer.now.items o in
    elim c.then-not-whole.branch [
      | then-not-whole-via-then-not-whole w ↦ stops l c.requires.limits region most file whole c.args.place c.args.buffer.now.items c.args.whole c.then-not-whole.group c.region_room.result c.requires.some.0 c.requires.some.1 c.requires.within c.region_room.ensures
          (w.group-is ∙ c.requires.none) head (inl w.if-not-whole.true)
      | then-not-whole-via-else-not-whole+then-not-into_group w ↦
          let P : Bool → Type 0 = λ b. T b w.into_group.new.group in
          let none = subst P w.if-not-into_group.true w.into_group.ensures.taken in
          stops l c.requires.limits region most file whole c.args.place c.args.buffer.now.items c.args.whole c.then-not-whole.group c.region_room.result c.requires.some.0 c.requires.some.1 c.requires.within c.region_room.ensures
          (w.group-is ∙ none.0) head (inr (w.if-not-whole.false, none.1))
    ]

pub returns-clause-log : goal.returns-clause-log
returns-clause-log c region file most whole head =
    let long : c.len-len.result ≡ length c.args.buffer.now.items = grind (arith, common_steps) in
    takes c.args.layout.now c.requires.limits region most file whole c.args.place c.args.buffer.now.items c.args.whole c.into_group.result c.into_group.new.group c.len-len.result c.requires.some.0 c.requires.some.1 c.requires.within long
    head c.if-not-whole.false c.into_group.ensures.taken c.if-not-into_group.false
