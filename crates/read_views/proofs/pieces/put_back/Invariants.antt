use Rattle.std.proofs.Common.{◌≡◌, ◌≤◌, ◌++◌, take, drop, length}
use Rattle.undo_records.specs.Records.{body_of}
use Rattle.read_views.specs.Flights.{put_cut, numbers_of}
use Rattle.read_views.proofs.pieces.put_back.Given as goal

-- the pieces before `start` are as they will be, those from there on as they were
abbrev pub invariant-loop-page : goal.invariant-loop-page
invariant-loop-page l = record {
  within : l.start ≤ length l.buffer;
  small : l.size ≤ 16_327;
  put : put_cut (body_of l.rec.body) l.lob.0 15_680 (numbers_of l.pages) l.initial.buffer
      ≡ take l.start l.buffer ++ put_cut (body_of l.rec.body) l.lob.0 l.size
      (numbers_of (drop l.page-index l.pages)) (drop l.start l.buffer);
}
