use Rattle.std.proofs.Common.{ℕ, List, subst, OnOk}
use Rattle.engine_base.specs.Disk.{Told}
use Rattle.page_device.specs.Device.{SetsPage}
use Rattle.page_device.proofs.pages.write_page.Goals as goal

pub returns-clause-sets : goal.returns-clause-sets
returns-clause-sets g c =
    let P : List ℕ → Type 0 = λ xs. OnOk c.write_image.result (Told (SetsPage c.args.layout.now c.args.page.0 xs) (g.D.Disk.state c.args.disk.now).seen (g.D.Disk.state c.write_image.new.disk).seen) in
    subst P c.bytes.ensures.value c.write_image.ensures.sets
