use Rattle.std.proofs.Common.{refl}
use Rattle.page_device.proofs.CreateLemmas.{created}
use Rattle.page_device.proofs.new_store.create.Goals as goal

pub returns-clause-file : goal.returns-clause-file
returns-clause-file g c =
    created c.args.layout c.control_head.result 20 c.wanted.result c.control_head.ensures refl c.wanted.ensures.size c.sync.result (g.D.Disk.state c.args.disk.now).seen (g.D.Disk.state c.write_at.new.self).seen (g.D.Disk.state c.write_zeros.new.disk).seen (g.D.Disk.state c.sync.new.self).seen
    c.in_ok-write_at.ensures.written c.in_ok-write_zeros.ensures.zeros c.sync.ensures.seen
