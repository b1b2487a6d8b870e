use Rattle.std.proofs.Common.{◌≡◌, min, List, ℕ, length, take, map, sym, ap, ◌∙◌}
use Rattle.std.specs.Vec.{with_items}
use Rattle.std.proofs.lemmas.List.{with_items_is}
use Rattle.store_data.specs.Pieces.{Part}
use Rattle.store_model.specs.Runs.{all_laid, old_runs}
use Rattle.engine_base.specs.declared.ids.PageNo.{PageNo}
use Rattle.undo_records.specs.Records.{body_of}
use Rattle.read_model.specs.Buffer.{parts_in}
use Rattle.read_model.specs.Flight.{Flight as Read}
use Rattle.read_views.specs.Flights.{put_cut, numbers_of, flight_of, record_in, row_read, copied_in}
use Rattle.read_views.proofs.PieceLemmas.{pieces_are_laid}
use Rattle.read_views.proofs.FlightLemmas.{copied_put, pages_first}
use Rattle.read_views.proofs.flight.Flight.put_copied.Goals as goal

pub returns-clause-read : goal.returns-clause-read
returns-clause-read c =
    let lob : ℕ = (row_read c.args.self.now.row).lob.page in
    let body = body_of c.args.rec.now.body in
    let piece : ℕ = c.args.self.now.piece in
    let from : List PageNo = c.args.self.now.from.items in
    let old : List ℕ = c.args.self.now.buffer.items in
    let pages : List ℕ = take piece (numbers_of from) in
    let first : numbers_of (take c.min-copied.result c.as_slice.result.now) ≡ pages =
    ap (λ (l : List PageNo). numbers_of (take c.min-copied.result l)) c.as_slice.ensures.value
    ∙ pages_first piece c.min-copied.result from (c.min-copied.ensures
    ∙ ap (λ n. min n piece) (c.len.ensures ∙ sym c.as_slice.ensures.len
    ∙ ap length c.as_slice.ensures.value)) in
    let put : c.put_back.new.buffer ≡ put_cut body lob 15_680 pages old =
    c.put_back.ensures
    ∙ ap (λ n. put_cut body n 15_680 (numbers_of (take c.min-copied.result c.as_slice.result.now))
    c.as_mut_slice.result.now) c.lob_of-lob.ensures
    ∙ ap (λ (l : List ℕ). put_cut body lob 15_680 l c.as_mut_slice.result.now) first
    ∙ ap (put_cut body lob 15_680 pages) c.as_mut_slice.ensures.value in
    let written : (with_items c.args.self.now.buffer c.put_back.new.buffer).items
    ≡ c.put_back.new.buffer = with_items_is c.args.self.now.buffer c.put_back.new.buffer
    (c.put_back.auto.buffer ∙ c.as_mut_slice.ensures.len) in
    let parts : parts_in lob pages c.put_back.new.buffer
    ≡ map (all_laid (old_runs (record_in c.args.rec.now).body)) (parts_in lob pages old) =
    ap (parts_in lob pages) put ∙ pieces_are_laid body lob 15_680 pages old in
    ap (λ (l : List ℕ). let x : Read = record (flight_of c.args.self.now)
    { copied = copied_in c.args.self.now.phase (parts_in lob pages l) } in x) written
    ∙ ap (λ (l : List Part). let x : Read = record (flight_of c.args.self.now) { copied = l } in x)
    (copied_put c.args.self.now.phase c.requires
    (all_laid (old_runs (record_in c.args.rec.now).body))
    (parts_in lob pages c.put_back.new.buffer) (parts_in lob pages old) parts)
