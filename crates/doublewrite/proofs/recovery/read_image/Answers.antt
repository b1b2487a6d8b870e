use Rattle.std.proofs.Common.{ℕ, ◌+◌, ◌*◌, length, ◌∙◌, drop, ap}
use Rattle.std.proofs.lemmas.List.{take_at}
use Rattle.page_model.specs.Pages.{page_bytes}
use Rattle.file_model.specs.Sections.{image_place}
use Rattle.page_device.proofs.DeviceLemmas.{read_part}
use Rattle.doublewrite.proofs.recovery.read_image.Goals as goal

pub returns-clause-bytes : goal.returns-clause-bytes
returns-clause-bytes g c =
    let long = c.read_at.auto.into ∙ c.bytes_mut.ensures.len in
    read_part c.read_at.result (g.D.Disk.state c.args.disk.now).seen _ (image_place c.args.i) page_bytes c.read_at.new.into _ (ap (λ (k : ℕ). 8_192 + 16_384 * k) c.from.ensures) long
    (take_at c.read_at.new.into (drop (length c.read_at.new.into) c.args.into.now) page_bytes long) c.read_at.ensures.bytes
