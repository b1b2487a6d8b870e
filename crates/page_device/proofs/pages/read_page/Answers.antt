use Rattle.std.proofs.Common.{length, ◌∙◌, drop}
use Rattle.std.proofs.lemmas.List.{take_at}
use Rattle.page_model.specs.Pages.{page_bytes}
use Rattle.page_device.proofs.DeviceLemmas.{read_part}
use Rattle.page_device.proofs.pages.read_page.Goals as goal

pub returns-clause-bytes : goal.returns-clause-bytes
returns-clause-bytes g c =
    let long = c.read_at.auto.into ∙ c.bytes_mut.ensures.len in
    read_part c.read_at.result (g.D.Disk.state c.args.disk.now).seen c.page_place.result _ page_bytes c.read_at.new.into _ c.page_place.ensures.place long (take_at c.read_at.new.into (drop (length c.read_at.new.into) c.args.into.now) page_bytes long) c.read_at.ensures.bytes
