use Rattle.std.proofs.Common.{◌+◌, arith}
use Rattle.file_model.specs.Sections.{wanted}
use Rattle.redo_log.proofs.PlaceLemmas.{region_inside, told_inside}
use Rattle.redo_log.proofs.scan.over_frame.Goals as goal

pub read_frame-requires-clause-whole : goal.read_frame-requires-clause-whole
read_frame-requires-clause-whole g c =
    let l = c.args.layout.now in
    let inside = region_inside l c.args.region c.requires.limits c.requires.region in
    told_inside (g.D.Disk.state c.args.disk.now).seen (c.gate_place-at.result + c.args.place.left) (wanted l) (omega (arith, inside, c.gate_place-at.ensures.place, c.requires.within, c.requires.limits.small_log)) c.requires.whole
