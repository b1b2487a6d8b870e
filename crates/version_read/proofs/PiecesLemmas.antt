-- An event of a read in Pieces.
use Rattle.std.proofs.Common.{◌≡◌, ◌⊎◌, inl, inr, ℕ, zero, suc, ◌+◌, ◌≤◌, List, [], ◌∷◌, ◌++◌, map, length, take, drop, Option, Some, None, IfSome, option_map, refl, sym, ap, subst, ◌∙◌, arith}
use Rattle.std.proofs.lemmas.List.{length-map, length-take-le}
use Rattle.std.specs.Prelude.{unwrap_or}
use Rattle.page_model.specs.Pages.{Pages, Address}
use Rattle.page_model.specs.Lists.{first_of}
use Rattle.engine_base.specs.Addresses.{address_of}
use Rattle.engine_base.specs.declared.addr.Addr.{Addr}
use Rattle.engine_base.specs.declared.ids.PageNo.{PageNo}
use Rattle.store_data.specs.Pieces.{Part, part_of, piece_at}
use Rattle.store_data.specs.Store.{Row as StoreRow, Version, Piece, Lob, Store}
use Rattle.store_model.specs.Lobs.{lob_of, pieces_of}
use Rattle.store_parts.specs.Standing.{AreLobs}
use Rattle.lob_model.specs.Pieces.{head_place, lob_at}
use Rattle.lob_model.specs.Lobs.{IsVersion}
use Rattle.lob_model.specs.Search.{Sought, at as at_place, sought}
use Rattle.lob_index.specs.Heads.{nth}
use Rattle.lob_versions.specs.Found.{IsSearch}
use Rattle.lob_versions.proofs.PieceLemmas.{version_in}
use Rattle.row_dir.specs.declared.dir.RowDir.{RowDir}
use Rattle.undo_records.specs.declared.record_type.Row.{Row}
use Rattle.read_model.specs.Document.{Document, Sees, pieces_at}
use Rattle.read_model.specs.Flight.{Phase as ReadPhase, Pieces as pieces, Flight as Read, IsSearch as IsSearchThere, IsSearchIn, IsCopying, IsFlightIn, IsFlight}
use Rattle.read_model.specs.Steps.{More, Gone, look, versions_from, with_part, looked, copy_from, copy, step}
use Rattle.read_model.specs.Buffer.{data_at, left_in}
use Rattle.lob_pages.specs.Entries.{FitsPage}
use Rattle.read_model.proofs.CopyLemmas.{search_finds}
use Rattle.read_model.proofs.WalkLemmas.{step_kept}
use Rattle.read_views.specs.Flights.{flight_of, phase_of, row_in, row_read, numbers_of, pages_copied}
use Rattle.read_views.specs.Steps.{piece_start, piece_room, part_of as part_there, with_node, with_walk, HasPlaceFor}
use Rattle.read_views.specs.declared.flight.Flight.{Flight}
use Rattle.read_views.specs.declared.flight.Phase.{Phase}
use Rattle.read_views.specs.declared.flight.Phase.TheVariants.{Pieces, Unpatch}
use Rattle.version_read.specs.Lent.{IsLent, IsAllCopied, IsLentIn, Follows}
use Rattle.version_read.specs.Reads.{read_in, read_at, document_of, IsUnderWay, StepsOn}
use Rattle.version_read.specs.Pieces.{IsPast, IsAtPiece, node_of, Begins, Finds, TakesPiece}
use Rattle.version_read.specs.declared.copies.Behind.{Behind}
use Rattle.version_read.specs.declared.copies.Behind.TheVariants.{Piece as NextPiece, Walk}
use Rattle.version_read.proofs.StepLemmas.{steps_by}
use Rattle.version_read.proofs.LentLemmas.{start_at, Fits, fits, has_version, drop_next, drop_low, split_at, nth_here, nth_is, Stands, lob_stands, few_pieces, cut_long, none_left, all_short, none_behind, start_is, room_is, same_some}
use Rattle.version_read.proofs.SearchLemmas.{placed, sought_is, found_at, at_version, gone_none, found_cut, begins_cut, begins_head, begins_node, piece_fits, entry_fits}

-- ---- the read in Pieces

pub pieces_step : (sees : Sees) (doc : Document) (f : Read) → f.phase ≡ pieces
    → step sees doc f ≡ copy doc f
pieces_step sees doc f phase = rw phase refl

pub at_pieces : (doc : Document) (f : Flight) → f.phase ≡ Pieces → read_at doc f ≡ flight_of f
at_pieces doc f phase = ap (λ (p : Phase). read_in p f.row doc.row (flight_of f)) phase

pub at_walk : (doc : Document) (f : Flight) → f.phase ≡ Unpatch → read_at doc f ≡ flight_of f
at_walk doc f phase = ap (λ (p : Phase). read_in p f.row doc.row (flight_of f)) phase

numbers_long : (f : Flight) → f.piece ≤ length f.from.items → length (pages_copied f) ≡ f.piece
numbers_long f low =
    let m = length-map f.from.items (λ (p : PageNo). p.0) in
    length-take-le f.piece (numbers_of f.from.items) (omega (arith, m, low))

pub copied_long : (f : Flight) → f.phase ≡ Pieces → f.piece ≤ length f.from.items
    → length (flight_of f).copied ≡ f.piece
copied_long f phase low =
    rw phase (cut_long (row_read f.row).lob.page 15_680 (pages_copied f) f.buffer.items
    ∙ numbers_long f low)

-- over pages that are as they were
abbrev pub under_on : {told now : Option Pages} {pages : Pages} {store : Store} {dir : RowDir}
    {sees : Sees} {shown : Option (List Part)} {f : Flight} → now ≡ told
    → IsUnderWay told pages store dir sees shown f → IsUnderWay now pages store dir sees shown f
under_on same u = record {
  told' = same ∙ u.told';
  is = u.is;
  directory = u.directory;
  distinct = u.distinct;
  flight = u.flight;
  lent = u.lent;
}

abbrev pub at_on : {told now : Option Pages} {pages : Pages} {store : Store} {dir : RowDir}
    {sees : Sees} {shown : Option (List Part)} {f : Flight} {head : Address} → now ≡ told
    → IsAtPiece told pages store dir sees shown f head
    → IsAtPiece now pages store dir sees shown f head
at_on same at = record {
  under = under_on same at.under;
  lob = at.lob;
  found = at.found;
  piece = at.piece;
  more = at.more;
  here = at.here;
  place = at.place;
}

-- ---- what is known of it over the pages of a store

module _ {told : Option Pages} {pages : Pages} {store : Store} {dir : RowDir} {sees : Sees} {shown : Option (List Part)} {f : Flight} (phase : f.phase ≡ Pieces) (u : IsUnderWay told pages store dir sees shown f) where
  pub lent : IsLent store.lobs f
  lent = subst (λ (p : Phase). IsLentIn p store.lobs f) phase u.lent

  pub flight : IsFlight sees (document_of store f) shown (flight_of f)
  flight = subst (λ (g : Read). IsFlight sees (document_of store f) shown g)
      (at_pieces (document_of store f) f phase) u.flight

  pub copying : (parts : List Part) × (shown ≡ Some parts)
      × IsCopying sees (document_of store f) parts (flight_of f)
  copying = subst (λ (p : ReadPhase). IsFlightIn p sees (document_of store f) shown (flight_of f))
      (ap phase_of phase) flight

  pub stands : Stands pages (row_read f.row).lob.page lent.lob
  stands = lob_stands pages store.lobs (row_read f.row).lob.page lent.lob
      (subst (λ (ls : List Lob). AreLobs pages ls) (sym u.is.shows.lobs) u.is.standing.lobs)
      lent.found

  pub left_there : (ps : List Piece) → drop f.piece lent.lob.pieces ≡ ps
      → drop (length (flight_of f).copied) (pieces_at (document_of store f).lobs (row_read f.row).lob.page) ≡ ps
  left_there ps here =
      let l = lent in
      let low : f.piece ≤ length f.from.items =
      let a = l.copied in let b = l.places in omega (arith, a, b) in
      ap (λ n. drop n (pieces_at store.lobs (row_read f.row).lob.page)) (copied_long f phase low)
      ∙ ap (λ (o : Option Lob). drop f.piece (pieces_of o)) l.found ∙ here

  pub step_is : (ps : List Piece) → drop f.piece lent.lob.pieces ≡ ps
      → step sees (document_of store f) (read_at (document_of store f) f)
      ≡ copy_from (document_of store f) ps (flight_of f)
  step_is ps here =
      ap (step sees (document_of store f)) (at_pieces (document_of store f) f phase)
      ∙ pieces_step sees (document_of store f) (flight_of f) (ap phase_of phase)
      ∙ ap (λ (l : List Piece). copy_from (document_of store f) l (flight_of f)) (left_there ps here)

  -- what the event makes is as it must be
  pub kept_as : (g : Read) → g ≡ step sees (document_of store f) (read_at (document_of store f) f)
      → IsFlight sees (document_of store f) shown g
  kept_as g is = subst (λ (h : Read). IsFlight sees (document_of store f) shown h) (sym is)
      (step_kept sees (document_of store f) shown (read_at (document_of store f) f) u.distinct
      u.flight)

  pub steps_on : (new : Flight) → flight_of new
      ≡ step sees (document_of store f) (read_at (document_of store f) f)
      → (new.phase ≡ Pieces) ⊎ (new.phase ≡ Unpatch) → IsLentIn new.phase store.lobs new
      → StepsOn sees store shown f new
  steps_on new is (inl same) lent' = steps_by sees store shown f new is
      (subst (λ (h : Read). IsFlight sees (document_of store f) shown h)
      (sym (at_pieces (document_of store f) new same)) (kept_as (flight_of new) is)) lent'
  steps_on new is (inr walk) lent' = steps_by sees store shown f new is
      (subst (λ (h : Read). IsFlight sees (document_of store f) shown h)
      (sym (at_walk (document_of store f) new walk)) (kept_as (flight_of new) is)) lent'

  -- ---- the head of the piece

  pub search_there : (piece : Piece) (more : List Piece) → drop f.piece lent.lob.pieces ≡ piece ∷ more
      → IsSearchThere (row_read f.row).lob.version (node_of f) piece
  search_there piece more here =
      let c = copying in
      subst (λ (ps : List Piece). IsSearchIn (row_read f.row).lob.version (node_of f) ps)
      (left_there (piece ∷ more) here) c.2.search

  pub at_piece : (a : Address) (piece : Piece) (more : List Piece)
      → drop f.piece lent.lob.pieces ≡ piece ∷ more → piece.head.place ≡ a
      → IsAtPiece told pages store dir sees shown f a
  at_piece a piece more here place = record {
    under = u;
    lob = lent.lob;
    found = lent.found;
    piece = piece;
    more = more;
    here = here;
    place = place;
  }

  pub piece_by : (a : Address) → nth f.piece (map head_place lent.lob.pieces) ≡ Some a
      → IsAtPiece told pages store dir sees shown f a
  piece_by a is = by (drop f.piece lent.lob.pieces) refl
    where
      none_some : (let o : Option Address = None in o) ≡ Some a → ⊥
      none_some e = cc e

      by : (ps : List Piece) → drop f.piece lent.lob.pieces ≡ ps
          → IsAtPiece told pages store dir sees shown f a
      by [] here = absurd (none_some
          (sym (nth_is f.piece lent.lob.pieces
          ∙ ap (λ (l : List Piece). first_of (map head_place l)) here) ∙ is))
      by (q ∷ ms) here = at_piece a q ms here (same_some q.head.place a
          (sym (nth_here f.piece lent.lob.pieces q ms here) ∙ is))

  pub past_by : None ≡ nth f.piece (map head_place lent.lob.pieces) → IsPast store f
  past_by is = record {
    lob = lent.lob;
    found = lent.found;
    none = by (drop f.piece lent.lob.pieces) refl;
  }
    where
      none_some : (a : Address) → (let o : Option Address = None in o) ≡ Some a → ⊥
      none_some a e = cc e

      by : (ps : List Piece) → drop f.piece lent.lob.pieces ≡ ps → drop f.piece lent.lob.pieces ≡ []
      by [] here = here
      by (q ∷ ms) here = absurd (none_some q.head.place
          (is ∙ nth_here f.piece lent.lob.pieces q ms here))

  pub known_piece : (a : Addr) → f.head ≡ Some a
      → IsAtPiece told pages store dir sees shown f (address_of a)
  known_piece a known = piece_by (address_of a) (subst (λ (o : Option Addr). IfSome o
      (λ c. nth f.piece (map head_place lent.lob.pieces) ≡ Some (address_of c))) known lent.head)

  -- no piece is left, and the walk begins
  pub ends_pieces : (new : Flight) (row : StoreRow) → IsPast store f
      → row ≡ (document_of store f).row → flight_of new ≡ with_walk row (flight_of f)
      → new.phase ≡ Unpatch → new.piece ≡ f.piece → new.from ≡ f.from → new.buffer ≡ f.buffer
      → StepsOn sees store shown f new
  ends_pieces new row past' same is walk piece from buffer =
      let l = lent in
      let here : drop f.piece l.lob.pieces ≡ [] = ap (λ (m : Lob). drop f.piece m.pieces)
      (same_some l.lob past'.lob (sym l.found ∙ past'.found)) ∙ past'.none in
      let low : f.piece ≤ length f.from.items =
      let a = l.copied in let b = l.places in omega (arith, a, b) in
      let short = all_short (row_read f.row).lob.version 15_680 l.lob.pieces l.bytes
      stands.is.shape.full l.whole in
      let past = none_behind f.piece l.lob.pieces here in
      let many : length l.lob.pieces ≡ f.piece = let a = l.copied in omega (arith, a, past) in
      let start = start_is f.piece in
      let start' = ap piece_start (numbers_long f low) in
      let begin = ap (λ n. start_at 15_680 n) many in
      let room = l.room in
      let none : left_in (pages_copied f) f.buffer.items ≡ [] =
      none_left (pages_copied f) f.buffer.items (omega (arith, short, start, start', begin, room)) in
      let none' : IsAllCopied new =
      ap (λ (n : ℕ). left_in (take n (numbers_of new.from.items)) new.buffer.items) piece
      ∙ rw (from, buffer) none in
      steps_on new (is ∙ ap (λ (r : StoreRow). with_walk r (flight_of f)) same
      ∙ sym (step_is [] here)) (inr walk)
      (subst (λ (p : Phase). IsLentIn p store.lobs new) (sym walk) none')

-- ---- the next piece

module _ {told : Option Pages} {pages : Pages} {store : Store} {dir : RowDir} {sees : Sees} {shown : Option (List Part)} {f : Flight} {head : Address} (phase : f.phase ≡ Pieces) (at : IsAtPiece told pages store dir sees shown f head) where
  pub lob_same : (lent phase at.under).lob ≡ at.lob
  lob_same = same_some (lent phase at.under).lob at.lob (sym (lent phase at.under).found ∙ at.found)

  pub here_lent : drop f.piece (lent phase at.under).lob.pieces ≡ at.piece ∷ at.more
  here_lent = ap (λ (l : Lob). drop f.piece l.pieces) lob_same ∙ at.here

  pub stands_at : Stands pages (row_read f.row).lob.page at.lob
  stands_at = subst (λ (l : Lob). Stands pages (row_read f.row).lob.page l) lob_same
      (stands phase at.under)

  pub split : at.lob.pieces ≡ take f.piece at.lob.pieces ++ at.piece ∷ at.more
  split = split_at f.piece at.lob.pieces at.piece at.more at.here

  pub head_there : Some head ≡ nth f.piece (map head_place at.lob.pieces)
  head_there = ap (λ (a : Address). Some a) (sym at.place)
      ∙ sym (nth_here f.piece at.lob.pieces at.piece at.more at.here)

  pub next_there : nth (f.piece + 1) (map head_place at.lob.pieces)
      ≡ first_of (map head_place at.more)
  next_there = nth_is (f.piece + 1) at.lob.pieces
      ∙ ap (λ (l : List Piece). first_of (map head_place l))
      (drop_next f.piece at.lob.pieces at.piece at.more at.here)

  pub search_at : (from : Address) (b : Begins f at.piece from)
      → IsSearch told head from pages at.lob at.piece b.x b.rest
  search_at from b =
      let c = begins_cut (node_of f) at.piece b.x b.rest b.there in
      record {
        told' = at.under.told';
        lob' = stands_at.is;
        before = take f.piece at.lob.pieces;
        behind = at.more;
        pieces = split;
        head' = at.place;
        seen = c.seen;
        cut = c.is;
        from' = b.place;
      }

  pub step_looks : step sees (document_of store f) (read_at (document_of store f) f)
      ≡ looked (document_of store f) at.more (flight_of f)
      (look 8 (row_read f.row).lob.version (versions_from (node_of f) at.piece))
  step_looks = step_is phase at.under (at.piece ∷ at.more) here_lent

  pub follows_walk : (r : Row) → None ≡ nth (f.piece + 1) (map head_place at.lob.pieces)
      → row_in r ≡ (document_of store f).row → Follows (Walk r) (document_of store f).row at.more
  follows_walk r none same = by at.more (none ∙ next_there)
    where
      some_none : (a : Address) → (let o : Option Address = None in o) ≡ Some a → ⊥
      some_none a e = cc e

      by : (more : List Piece) → None ≡ first_of (map head_place more)
          → Follows (Walk r) (document_of store f).row more
      by [] e = same
      by (q ∷ ms) e = some_none q.head.place e

  pub follows_piece : (a : Addr)
      → Some (address_of a) ≡ nth (f.piece + 1) (map head_place at.lob.pieces)
      → Follows (NextPiece a) (document_of store f).row at.more
  follows_piece a some = by at.more (some ∙ next_there)
    where
      none_some : Some (address_of a) ≡ (let o : Option Address = None in o) → ⊥
      none_some e = cc e

      by : (more : List Piece) → Some (address_of a) ≡ first_of (map head_place more)
          → Follows (NextPiece a) (document_of store f).row more
      by [] e = none_some e
      by (q ∷ ms) e = same_some q.head.place (address_of a) (sym e)

  pub head_fits_at : FitsPage (length pages) head
  head_fits_at = subst (λ (a : Address). FitsPage (length pages) a) at.place
      (piece_fits pages at.lob (take f.piece at.lob.pieces) at.piece at.more stands_at.is split)

  pub from_fits_at : (from : Address) → Begins f at.piece from → FitsPage (length pages) from
  from_fits_at from b =
      let c = begins_cut (node_of f) at.piece b.x b.rest b.there in
      subst (λ (a : Address). FitsPage (length pages) a) b.place
      (entry_fits pages at.lob (take f.piece at.lob.pieces) at.piece at.more stands_at.is split
      c.seen b.x b.rest c.is)

  pub begins_first : f.node ≡ None → Begins f at.piece head
  begins_first none = subst (λ (a : Address). Begins f at.piece a) at.place
      (begins_head f at.piece none)

  pub begins_known : (a : Addr) → address_of a ≡ head
      → Begins f at.piece (address_of (unwrap_or f.node a))
  begins_known a same = by f.node refl
    where
      by : (node : Option Addr) → f.node ≡ node → Begins f at.piece (address_of (unwrap_or node a))
      by None none = subst (λ (c : Address). Begins f at.piece c) (sym same) (begins_first none)
      by (Some n) some = begins_node f at.piece (row_read f.row).lob.version n some
          (subst (λ (o : Option Addr). IsSearchThere (row_read f.row).lob.version
          (option_map address_of o) at.piece) some
          (search_there phase at.under at.piece at.more here_lent))

  -- what is found in pages is what the read finds
  pub found_placed : (from : Address) (b : Begins f at.piece from) (found : Sought) (v : ℕ)
      → found ≡ sought 8 v (b.x ∷ b.rest) → v ≡ (row_read f.row).lob.version
      → found ≡ placed (look 8 (row_read f.row).lob.version (versions_from (node_of f) at.piece))
  found_placed from b found v is same =
      is ∙ sought_is 8 v (b.x ∷ b.rest) ∙ ap (λ (n : ℕ). placed (look 8 n (b.x ∷ b.rest))) same
      ∙ sym (ap (λ (l : List Version). placed (look 8 (row_read f.row).lob.version l)) b.there)

  pub finds_there : (entry : Address)
      → at_place entry ≡ placed (look 8 (row_read f.row).lob.version (versions_from (node_of f) at.piece))
      → Finds f at.piece entry
  finds_there entry is =
      let a = found_at (look 8 (row_read f.row).lob.version (versions_from (node_of f) at.piece))
      entry is in
      record { x = a.x; ends = a.is; place = a.place }

  -- the search stands at another node
  pub looks_on : (new : Flight) (headed node : Addr) → address_of headed ≡ head
      → look 8 (row_read f.row).lob.version (versions_from (node_of f) at.piece)
      ≡ More (address_of node) → flight_of new ≡ with_node (address_of node) (flight_of f)
      → new.head ≡ Some headed → new.row ≡ f.row → new.phase ≡ f.phase → new.piece ≡ f.piece
      → new.from ≡ f.from → new.buffer ≡ f.buffer → StepsOn sees store shown f new
  looks_on new headed node same more is known row phase' piece from buffer =
      let l = lent phase at.under in
      steps_on phase at.under new
      (is ∙ sym (step_looks ∙ ap (looked (document_of store f) at.more (flight_of f)) more))
      (inl (phase' ∙ phase))
      (subst (λ (p : Phase). IsLentIn p store.lobs new) (sym (phase' ∙ phase)) (record {
        lob = at.lob;
        found = ap (λ (r : Option Row). lob_of store.lobs (row_read r).lob.page) row ∙ at.found;
        bytes = l.bytes;
        whole = ap (λ (r : Option Row). lob_at (row_read r).lob.version at.lob.pieces) row
            ∙ ap (λ (m : Lob). lob_at (row_read f.row).lob.version m.pieces) (sym lob_same)
            ∙ l.whole;
        room = rw buffer l.room;
        places = rw from (l.places ∙ ap (λ (m : Lob). length m.pieces) lob_same);
        copied = rw piece (subst (λ (m : Lob). f.piece ≤ length m.pieces) lob_same l.copied);
        head = subst (λ (o : Option Addr). IfSome o
            (λ a. nth new.piece (map head_place at.lob.pieces) ≡ Some (address_of a))) (sym known)
            (ap (λ n. nth n (map head_place at.lob.pieces)) piece ∙ sym head_there
            ∙ ap (λ (a : Address). Some a) (sym same));
        start = λ none. absurd (not_none headed (sym known ∙ none));
      }))
    where
      not_none : (a : Addr) → Some a ≡ None → ⊥
      not_none a e = cc e

  -- a version is always found
  pub not_gone : look 8 (row_read f.row).lob.version (versions_from (node_of f) at.piece) ≡ Gone → ⊥
  not_gone e =
      let l = lent phase at.under in
      let v : ℕ = (row_read f.row).lob.version in
      let has = has_version v f.piece l.lob.pieces at.piece at.more l.bytes l.whole here_lent in
      let finds = search_finds v (node_of f) at.piece
      (search_there phase at.under at.piece at.more here_lent) in
      none_some has.0 (sym (gone_none 8 v (versions_from (node_of f) at.piece) e) ∙ finds ∙ has.1)
    where
      none_some : (x : Version) → (let o : Option Version = None in o) ≡ Some x → ⊥
      none_some x e = cc e

-- ---- a version is copied

start_behind : (k : ℕ) → piece_start (k + 1) ≡ piece_start k + piece_room k
start_behind k = ap piece_start (let e : k + 1 ≡ suc k = omega arith in e) ∙ next k
  where
    next : (k : ℕ) → piece_start (suc k) ≡ piece_start k + piece_room k
    next zero = refl
    next (suc k) = omega arith

part_same : {page at page' at' : ℕ} {bytes bytes' : List ℕ} → page ≡ page' → at ≡ at'
    → bytes ≡ bytes' → (let p : Part = record { page = page; at = at; bytes = bytes } in p)
    ≡ record { page = page'; at = at'; bytes = bytes' }
part_same e g h = cc (e, g, h)

module _ {told : Option Pages} {pages : Pages} {store : Store} {dir : RowDir} {sees : Sees} {shown : Option (List Part)} {f : Flight} {head : Address} {entry : Address} (phase : f.phase ≡ Pieces) (at : IsAtPiece told pages store dir sees shown f head) (b : Finds f at.piece entry) where
  pub version_there : piece_at at.piece (row_read f.row).lob.version ≡ Some b.x
  version_there =
      let v : ℕ = (row_read f.row).lob.version in
      sym (search_finds v (node_of f) at.piece
      (search_there phase at.under at.piece at.more (here_lent phase at)))
      ∙ at_version 8 v (versions_from (node_of f) at.piece) b.x b.ends

  pub version_stands : IsVersion pages at.lob.page b.x
  version_stands =
      let c = found_cut 8 (row_read f.row).lob.version (node_of f) at.piece b.x b.ends in
      version_in pages at.lob (take f.piece at.lob.pieces) at.piece at.more (stands_at phase at).is
      (split phase at) c.seen b.x c.rest c.is

  pub version_fits : FitsPage (length pages) entry
  version_fits =
      let c = found_cut 8 (row_read f.row).lob.version (node_of f) at.piece b.x b.ends in
      subst (λ (a : Address). FitsPage (length pages) a) b.place
      (entry_fits pages at.lob (take f.piece at.lob.pieces) at.piece at.more
      (stands_at phase at).is (split phase at) c.seen b.x c.rest c.is)

  pub fits_there : Fits 15_680 f.piece (length b.x.bytes) (length (lent phase at.under).bytes) at.more
  fits_there =
      let l = lent phase at.under in
      fits (row_read f.row).lob.version 15_680 f.piece l.lob.pieces at.piece at.more b.x l.bytes
      (stands phase at.under).is.shape.full l.whole (here_lent phase at) version_there

  pub place_there : HasPlaceFor f (length b.x.bytes)
  place_there =
      let l = lent phase at.under in
      let low = drop_low f.piece l.lob.pieces at.piece at.more (here_lent phase at) in
      let few = few_pieces pages l.lob at.under.is.standing.map (stands phase at.under).is in
      let places = l.places in
      let room = l.room in
      let fit = fits_there in
      let within = fit.within in
      let most = fit.low in
      let start = start_is f.piece in
      let most' = room_is f.piece in
      record {
        piece = omega (arith, low, places);
        few = omega (arith, few, places);
        room = omega (arith, within, start, room);
        fills = elim fit.fills [
          | inl is ↦ inl (is ∙ most')
          | inr is ↦ inr (omega (arith, most, most'), omega (arith, is, start, room))
        ];
      }

  pub part_is : (page : ℕ) (bytes : List ℕ) → page ≡ b.x.page → bytes ≡ b.x.bytes
      → part_there (row_read f.row).lob.page page bytes ≡ part_of b.x
  part_is page bytes same all =
      let first = (stands_at phase at).first in
      let place = version_stands.«data».place in
      part_same same (ap (λ (n : ℕ). data_at (row_read f.row).lob.page n) same
      ∙ ap (λ (n : ℕ). data_at n b.x.page) (sym first) ∙ sym place) all

  lent_behind : (new : Flight) (behind : Behind) (more : List Piece)
      → drop (f.piece + 1) at.lob.pieces ≡ more
      → (more ≡ [] → piece_start f.piece + length b.x.bytes ≡ length f.buffer.items)
      → Follows behind (document_of store f).row more → TakesPiece behind f new
      → ((new.phase ≡ Pieces) ⊎ (new.phase ≡ Unpatch)) × IsLentIn new.phase store.lobs new
  lent_behind new (NextPiece a) [] rest ends follows t = absurd follows
  lent_behind new (NextPiece a) (q ∷ ms) rest ends follows t =
      let l = lent phase at.under in (
        inl t.goes.0,
        subst (λ (p : Phase). IsLentIn p store.lobs new) (sym t.goes.0) (record {
          lob = at.lob;
          found = ap (λ (r : Option Row). lob_of store.lobs (row_read r).lob.page) t.row ∙ at.found;
          bytes = l.bytes;
          whole = ap (λ (r : Option Row). lob_at (row_read r).lob.version at.lob.pieces) t.row
              ∙ ap (λ (m : Lob). lob_at (row_read f.row).lob.version m.pieces)
              (sym (lob_same phase at)) ∙ l.whole;
          room = t.buffer ∙ l.room;
          places = t.from ∙ l.places ∙ ap (λ (m : Lob). length m.pieces) (lob_same phase at);
          copied =
              let low = drop_low f.piece at.lob.pieces at.piece at.more at.here in
              let next = t.piece in
              omega (arith, low, next);
          head = subst (λ (o : Option Addr). IfSome o
              (λ c. nth new.piece (map head_place at.lob.pieces) ≡ Some (address_of c)))
              (sym t.goes.1)
              (ap (λ n. nth n (map head_place at.lob.pieces)) t.piece
              ∙ nth_here (f.piece + 1) at.lob.pieces q ms rest
              ∙ ap (λ (c : Address). Some c) follows);
          start = λ none. absurd (not_none a (sym t.goes.1 ∙ none));
        }),
      )
    where
      not_none : (a : Addr) → Some a ≡ None → ⊥
      not_none a e = cc e
  lent_behind new (Walk r) (q ∷ ms) rest ends follows t = absurd follows
  lent_behind new (Walk r) [] rest ends follows t =
      let l = lent phase at.under in
      let low = drop_low f.piece l.lob.pieces at.piece at.more (here_lent phase at) in
      let places = l.places in
      let from = t.from in
      let next = t.piece in
      let long = numbers_long new (omega (arith, low, places, from, next)) in
      let all = ends refl in
      let buffer = t.buffer in
      let fit = fits_there in
      let most = fit.low in
      let most' = room_is f.piece in
      let start = ap piece_start (long ∙ next) in
      let behind = start_behind f.piece in
      let none : IsAllCopied new = none_left (pages_copied new) new.buffer.items
      (omega (arith, all, buffer, most, most', start, behind)) in
      (inr t.goes, subst (λ (p : Phase). IsLentIn p store.lobs new) (sym t.goes) none)

  pub takes_on : (new : Flight) (behind : Behind) (page : ℕ) (bytes : List ℕ) → page ≡ b.x.page
      → bytes ≡ b.x.bytes → Follows behind (document_of store f).row at.more
      → TakesPiece behind f new → flight_of new ≡ with_part (document_of store f) at.more
      (part_there (row_read f.row).lob.page page bytes) (flight_of f)
      → StepsOn sees store shown f new
  takes_on new behind page bytes same all follows t is =
      let room = (lent phase at.under).room in
      let start = start_is f.piece in
      let rest = drop_next f.piece at.lob.pieces at.piece at.more at.here in
      let on = lent_behind new behind at.more rest
      (λ none. let e = fits_there.ends none in omega (arith, e, start, room)) follows t in
      steps_on phase at.under new
      (is ∙ ap (λ (p : Part). with_part (document_of store f) at.more p (flight_of f))
      (part_is page bytes same all)
      ∙ sym (step_looks phase at ∙ ap (looked (document_of store f) at.more (flight_of f)) b.ends))
      on.0 on.1
