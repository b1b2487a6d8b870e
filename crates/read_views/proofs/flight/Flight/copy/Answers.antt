use Rattle.std.proofs.Common.{◌≡◌, ◌+◌, ◌++◌, [], ◌∷◌, List, ℕ, take, sym, ap, ◌∙◌, None}
use Rattle.std.specs.Vec.{with_items, with_item}
use Rattle.std.proofs.lemmas.List.{with_items_is}
use Rattle.store_data.specs.Pieces.{Part}
use Rattle.engine_base.specs.declared.ids.PageNo.{PageNo}
use Rattle.read_model.specs.Buffer.{parts_in}
use Rattle.read_model.specs.Flight.{Flight as Read}
use Rattle.read_views.specs.declared.flight.Phase.{Phase}
use Rattle.read_views.specs.Flights.{numbers_of, flight_of, row_read, copied_in}
use Rattle.read_views.specs.Steps.{piece_start, part_of, with_bytes}
use Rattle.read_views.proofs.CopyLemmas.{copied_more, pages_more, pages_long}
use Rattle.read_views.proofs.flight.Flight.copy.Goals as goal

pub returns-clause-read : goal.returns-clause-read
returns-clause-read c =
    let lob : ℕ = (row_read c.args.self.now.row).lob.page in
    let k : ℕ = c.args.self.now.piece in
    let from : List PageNo = c.args.self.now.from.items in
    let old : List ℕ = c.args.self.now.buffer.items in
    let new : List ℕ = c.put_bytes.new.buffer in
    let pages : List ℕ = take k (numbers_of from) in
    let put : new ≡ with_bytes (piece_start k) c.args.bytes.now old =
    c.put_bytes.ensures
    ∙ ap (λ n. with_bytes n c.args.bytes.now c.as_mut_slice.result.now) c.start_of-start.ensures
    ∙ ap (with_bytes (piece_start k) c.args.bytes.now) c.as_mut_slice.ensures.value in
    let written : (with_items c.args.self.now.buffer new).items ≡ new =
    with_items_is c.args.self.now.buffer new
    (c.put_bytes.auto.buffer ∙ c.as_mut_slice.ensures.len) in
    let more : take (k + 1) (numbers_of (with_item c.args.self.now.from k c.args.page).items)
    ≡ pages ++ c.args.page.0 ∷ [] = pages_more k from c.args.page c.requires.place.piece in
    let parts : parts_in lob (pages ++ c.args.page.0 ∷ []) new
    ≡ parts_in lob pages old ++ part_of lob c.args.page.0 c.args.bytes.now ∷ [] =
    copied_more lob k c.args.page.0 pages c.args.bytes.now old new
    (pages_long k from c.requires.place.piece) c.requires.place.room c.requires.place.fills put in
    let copied = ap (parts_in lob (take (k + 1)
    (numbers_of (with_item c.args.self.now.from k c.args.page).items))) written
    ∙ ap (λ (l : List ℕ). parts_in lob l new) more ∙ parts in
    let part : Part = part_of lob c.args.page.0 c.args.bytes.now in
    let now : List Part = parts_in lob (take (k + 1)
    (numbers_of (with_item c.args.self.now.from k c.args.page).items))
    (with_items c.args.self.now.buffer new).items in
    let shown : copied_in c.args.self.now.phase now
    ≡ copied_in c.args.self.now.phase (parts_in lob pages old) ++ part ∷ [] =
    ap (λ (p : Phase). copied_in p now) c.requires.phase ∙ copied
    ∙ sym (ap (λ (p : Phase). copied_in p (parts_in lob pages old) ++ part ∷ [])
    c.requires.phase) in
    ap (λ (l : List Part). let x : Read =
    record (flight_of c.args.self.now) { node = None; copied = l } in x) shown
