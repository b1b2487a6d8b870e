use Rattle.std.proofs.Common.{refl}
use Rattle.page_device.proofs.DeviceLemmas.{told_torn, follows_torn, told_set}
use Rattle.page_device.proofs.pages.write_image.Goals as goal

pub returns-clause-sets : goal.returns-clause-sets
returns-clause-sets g c =
    told_set c.args.layout.now c.args.page.0 c.page_place.result c.args.from.now c.args.from.now c.page_place.ensures.place refl c.requires.size
    c.write_at.result (g.D.Disk.state c.args.disk.now).seen (g.D.Disk.state c.write_at.new.self).seen c.write_at.ensures.written

pub returns-clause-torn : goal.returns-clause-torn
returns-clause-torn g c =
    told_torn c.args.layout.now c.args.page.0 c.page_place.result c.args.from.now c.args.from.now c.page_place.ensures.place refl c.requires.size
    (g.D.Disk.state c.args.disk.now).seen (g.D.Disk.state c.write_at.new.self).seen c.write_at.ensures.torn

pub returns-clause-images : goal.returns-clause-images
returns-clause-images g c =
    follows_torn c.args.layout.now c.args.page.0 c.page_place.result c.args.from.now c.args.from.now c.page_place.ensures.place refl c.requires.size
    (g.D.Disk.state c.args.disk.now).may_leave (g.D.Disk.state c.write_at.new.self).may_leave c.write_at.ensures.images
