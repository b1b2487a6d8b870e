use Rattle.std.proofs.Common.{◌≡◌, ◌-◌, ◌≤◌}
use Rattle.engine_base.specs.Disk.{Told}
use Rattle.page_device.specs.Creating.{AppendsZeros}
use Rattle.page_device.proofs.new_store.write_zeros.Given as goal

abbrev pub invariant-chunks : goal.invariant-chunks
invariant-chunks g l = record {
  low : l.fn.from ≤ l.at;
  high : l.at ≤ l.fn.to;
  told : Told (AppendsZeros l.fn.from l.at) (g.D.Disk.state l.fn.disk).seen (g.D.Disk.state l.disk).seen;
  tells : (g.D.Disk.state l.disk).tells_images ≡ (g.D.Disk.state l.fn.disk).tells_images;
  later : (g.D.Disk.state l.fn.disk).faults ≤ (g.D.Disk.state l.disk).faults;
}

abbrev pub decreases-chunks : goal.decreases-chunks
decreases-chunks g l = l.to - l.at
