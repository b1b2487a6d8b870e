use Rattle.file_model.specs.Sections.{region_place}
use Rattle.redo_log.proofs.PlaceLemmas.{told_number}
use Rattle.redo_log.proofs.scan.read_start.Goals as goal

pub returns-clause-start : goal.returns-clause-start
returns-clause-start g c =
    told_number (g.D.Disk.state c.args.disk.now).seen c.region_place.result (region_place c.args.layout.now c.args.region) 8 c.read_u64.result c.read_at.new.into c.region_place.ensures.place c.read_at.auto.into c.read_u64.ensures c.in_ok-read_at.ensures.bytes
