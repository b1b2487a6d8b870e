use Rattle.std.proofs.Common.{◌≡◌, refl, length, drop, ◌∙◌, arith}
use Rattle.std.proofs.lemmas.Grind.{common_steps}
use Rattle.std.proofs.lemmas.List.{take_at}
use Rattle.page_device.proofs.DeviceLemmas.{read_part}
use Rattle.redo_log.proofs.frames.fill.Goals as goal

pub returns-clause-bytes : goal.returns-clause-bytes
returns-clause-bytes g c =
    let whole = c.read_at.auto.into ∙ c.as_mut_slice.ensures.len in
    let grown : c.resize.new.self.len ≡ c.args.len = grind (arith, common_steps) in
    read_part c.read_at.result (g.D.Disk.state c.args.disk.now).seen c.args.place c.args.place c.args.len c.read_at.new.into _ refl (whole ∙ grown)
    (take_at c.read_at.new.into (drop (length c.read_at.new.into) c.resize.new.self.items) c.resize.new.self.len whole) c.read_at.ensures.bytes
