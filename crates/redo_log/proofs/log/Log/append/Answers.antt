use Rattle.std.proofs.Common.{◌≤◌, ℕ, List, length, All, ap, ◌∙◌, sym, subst, arith, ◌++◌}
use Rattle.page_model.specs.Frames.{IsInside, frame_bytes}
use Rattle.file_model.specs.declared.layout.Layout.{Layout}
use Rattle.file_model.specs.Frames.{IsLoggable}
use Rattle.redo_log.specs.Logs.{LogState, appended, log_room}
use Rattle.redo_log.proofs.PendingLemmas.{log_state, keeps_more, pending_more, room_of}
use Rattle.redo_log.proofs.log.Log.append.Goals as goal

pub invariant_of-self : goal.invariant_of-self
invariant_of-self c =
    let inside = c.self.inside in
    let l = ap (λ (s : LogState). s.layout) c.self.view_is in
    let good : IsLoggable inside.layout.pages c.args.group.now.writes = record {
      short = omega (arith, c.len-len.ensures.frame, c.len-len.ensures.most);
      inside = let P : Layout → Type 0 = λ m. All (IsInside m.pages) c.args.group.now.writes in subst P (sym l) c.requires.inside;
    } in
    let is = c.extend.ensures.items ∙ ap (λ (xs : List ℕ). inside.buffer.items ++ xs) c.frame.ensures in
    let R : LogState → Type 0 = λ s. length (frame_bytes c.args.group.now.writes) ≤ log_room s in
    let room = room_of inside.layout inside.region inside.start.0 inside.used _ inside.buffer.items (length (frame_bytes c.args.group.now.writes)) c.self.invariant (subst R (sym c.self.view_is) c.requires.room) in
    keeps_more inside.layout inside.region inside.used _ _ inside.buffer.items c.extend.new.buffer.items c.args.group.now.writes c.self.invariant good is room.0 room.1 c.extend.ensures.capacity

pub returns-clause-appends : goal.returns-clause-appends
returns-clause-appends c =
    let inside = c.self.inside in
    let l = ap (λ (s : LogState). s.layout) c.self.view_is in
    let good : IsLoggable inside.layout.pages c.args.group.now.writes = record {
      short = omega (arith, c.len-len.ensures.frame, c.len-len.ensures.most);
      inside = let P : Layout → Type 0 = λ m. All (IsInside m.pages) c.args.group.now.writes in subst P (sym l) c.requires.inside;
    } in
    let is = c.extend.ensures.items ∙ ap (λ (xs : List ℕ). inside.buffer.items ++ xs) c.frame.ensures in
    ap (log_state inside.layout inside.region inside.start.0 inside.used) (pending_more inside.layout inside.region inside.used _ 0 inside.buffer.items c.extend.new.buffer.items c.args.group.now.writes c.self.invariant good is)
    ∙ ap (λ (s : LogState). appended s c.args.group.now.writes) c.self.view_is
