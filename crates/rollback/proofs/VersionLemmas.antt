-- The newest version of a piece goes.
use Rattle.std.proofs.Common.{◌≡◌, ◌≢◌, ℕ, suc, ◌+◌, ◌==◌, Bool, true, false, if◌then◌else◌, List, [], ◌∷◌, ◌++◌, Option, Some, refl, sym, ap, subst, ◌∙◌}
use Rattle.std.proofs.lemmas.Bool.{eq-eqb, ne_eqb}
use Rattle.page_model.specs.Pages.{Pages, Address, field}
use Rattle.lob_pages.specs.declared.entry.Entry.{Entry}
use Rattle.lob_pages.specs.Entries.{IsEntryAt}
use Rattle.lob_model.specs.declared.layout.TheConstants.{VERSION}
use Rattle.store_data.specs.Pieces.{popped}
use Rattle.store_data.specs.Store.{Version, Piece, Lob, Store}
use Rattle.lob_model.specs.Changes.{with_pieces}
use Rattle.lob_model.specs.Lobs.{IsLob, IsVersion, AreVersions, lob_pages}
use Rattle.lob_model.specs.Pieces.{versions}
use Rattle.lob_index.specs.Use.{AreUsed}
use Rattle.lob_versions.specs.Versions.{HasPiece, LosesVersion}
use Rattle.undo_model.specs.Rows.{RowPage}
use Rattle.store_model.specs.Lobs.{lob_of, pieces_of}
use Rattle.store_model.specs.Steps.{at_piece, on_piece}
use Rattle.store_model.specs.Takes.{piece_of}
use Rattle.store_model.specs.Undo.{version_popped}
use Rattle.store_pages.proofs.PushStoreLemmas.{on_piece_at}
use Rattle.store_parts.specs.Keeps.{Keeps}
use Rattle.read_model.specs.Flight.{Flight as Read}
use Rattle.read_views.specs.declared.flight.Flight.{Flight}
use Rattle.read_views.specs.Flights.{flight_of}
use Rattle.store_steps.specs.Standing.{StandsOn}
use Rattle.store_steps.proofs.CutLemmas.{Cut}
use Rattle.store_steps.proofs.LobLemmas.{LobAt}
use Rattle.rollback.specs.Flights.{AreTurned, led_on}
use Rattle.rollback.specs.Versions.{is_raised, piece_at, turned_by, led_in, pop_turn, PopsVersion}

-- ---- its newest version

versions_behind : (pages : Pages) (first : ℕ) (xs ys : List Version)
    → AreVersions pages first (xs ++ ys) → AreVersions pages first ys
versions_behind pages first [] ys are = are
versions_behind pages first (x ∷ xs) ys are = versions_behind pages first xs ys are.1

newest_at : (pages : Pages) (first : ℕ) (bs : List Piece) (p : Piece) (cs : List Piece)
    → AreVersions pages first (versions (bs ++ p ∷ cs)) → IsVersion pages first p.head
newest_at pages first [] p cs are = are.0
newest_at pages first (b ∷ bs) p cs are =
    newest_at pages first bs p cs
    (versions_behind pages first (b.head ∷ b.older) (versions (bs ++ p ∷ cs)) are)

pub has_older : (vs : List Version) → vs ≢ [] → (x : Version) × (more : List Version) × (vs ≡ x ∷ more)
has_older [] some = absurd (some refl)
has_older (x ∷ more) some = (x, more, refl)

module _ (there : List RowPage) (pages : Pages) (store : Store) (page : ℕ) (l : Lob)
    (at : LobAt there pages store page l) (found : lob_of store.lobs page ≡ Some l) (k : ℕ)
    (head : Address) (cut : Cut k l.pieces head) where
  pub newest_version : IsVersion pages l.page cut.p.head
  newest_version = newest_at pages l.page cut.bs cut.p cut.cs
      (subst (λ (qs : List Piece). AreVersions pages l.page (versions qs)) cut.is at.stands.versions)

  -- the entry that was read there has its number
  pub number_read : (e : Entry) → IsEntryAt pages head e → e.version.0 ≡ cut.p.head.number
  number_read e is = sym is.fields.number
      ∙ ap (λ (a : Address). field pages a.page (a.at + VERSION) 4) (sym cut.here)
      ∙ newest_version.entry.number

  pub has_piece : (told : Option Pages) → told ≡ Some pages
      → HasPiece told page head pages l cut.bs cut.p cut.cs
  has_piece told is = record {
    told' = is;
    lob' = subst (λ (qs : List Piece). IsLob pages (with_pieces l qs)) cut.is at.stands;
    first' = at.here;
    head' = cut.here;
    map' = at.map;
    used = subst (λ (qs : List Piece). AreUsed pages (lob_pages (with_pieces l qs))) cut.is at.used;
  }

  piece_there : piece_at page k store ≡ Some cut.p
  piece_there = ap (λ (o : Option Lob). piece_of k (pieces_of o)) found ∙ cut.there

  raised_by : (v : ℕ) (b : Bool) → (cut.p.head.number == suc v) ≡ b
      → is_raised v (piece_at page k store) ≡ b
  raised_by v b is = ap (is_raised v) piece_there ∙ is

  -- it goes
  pub version_goes : (v : ℕ) (x : Version) (more : List Version) → cut.p.older ≡ x ∷ more
      → cut.p.head.number ≡ suc v → (new : Pages)
      → LosesVersion l cut.bs cut.p (popped cut.p) cut.cs x.place cut.p.head.page pages new
      → PopsVersion there page k v store new
  version_goes v x more older same new loses =
      let free = x.place ∷ l.free in
      let moved : on_piece k popped l.pieces ≡ cut.bs ++ popped cut.p ∷ cut.cs =
      ap (on_piece k popped) cut.is
      ∙ ap (λ (n : ℕ). on_piece n popped (cut.bs ++ cut.p ∷ cut.cs)) (sym cut.many)
      ∙ on_piece_at popped cut.bs cut.p cut.cs in
      let lob : IsLob new (record (at_piece k popped l) { free = free }) =
      subst (λ (qs : List Piece). IsLob new (record l { pieces = qs; free = free })) (sym moved)
      loses.lob' in
      let keeps : Keeps [] (lob_pages l) (lob_pages (record (at_piece k popped l) { free = free }))
      pages new =
      subst (λ (qs : List Piece). Keeps [] (lob_pages (with_pieces l qs))
      (lob_pages (record (at_piece k popped l) { free = free })) pages new) (sym cut.is)
      (subst (λ (qs : List Piece). Keeps [] (lob_pages (with_pieces l (cut.bs ++ cut.p ∷ cut.cs)))
      (lob_pages (with_pieces l qs)) pages new) (sym moved) loses.keeps) in (
        free,
        subst (λ (b : Bool). StandsOn there new (if b then version_popped page k free store else store))
            (sym (raised_by v true (eq-eqb cut.p.head.number (suc v) same)))
            (at.changed new (λ m. record (at_piece k popped m) { free = free }) lob keeps),
      )

  -- it stays
  pub version_stays : (v : ℕ) → cut.p.head.number ≢ suc v → StandsOn there pages store
      → PopsVersion there page k v store pages
  version_stays v other on = (
    [],
    subst (λ (b : Bool). StandsOn there pages (if b then version_popped page k [] store else store))
        (sym (raised_by v false (ne_eqb cut.p.head.number (suc v) other))) on,
  )

  -- and so do the reads
  pub reads_turn : (v : ℕ) (x : Version) (more : List Version) → cut.p.older ≡ x ∷ more
      → cut.p.head.number ≡ suc v → (node : Address) → node ≡ x.place → (fs gs : List Flight)
      → AreTurned (led_on node head) fs gs → AreTurned (pop_turn page k v store) fs gs
  reads_turn v x more older same node is fs gs turned =
      turned_as (led_on node head) (pop_turn page k v store) (λ f. sym (
      ap (λ (o : Option Piece). turned_by (is_raised v o) o f) piece_there
      ∙ ap (λ (b : Bool). turned_by b (Some cut.p) f) (eq-eqb cut.p.head.number (suc v) same)
      ∙ ap (λ (vs : List Version). led_in vs cut.p.head.place f) older
      ∙ ap (λ (a : Address). led_on a cut.p.head.place f) (sym is)
      ∙ ap (λ (a : Address). led_on node a f) cut.here)) fs gs turned
    where
      turned_as : (t u : Flight → Read) → ((f : Flight) → t f ≡ u f)
          → (fs gs : List Flight) → AreTurned t fs gs → AreTurned u fs gs
      turned_as t u same [] [] are = tt
      turned_as t u same [] (g ∷ gs) are = are
      turned_as t u same (f ∷ fs) [] are = are
      turned_as t u same (f ∷ fs) (g ∷ gs) are =
          (are.0 ∙ same f, are.1, turned_as t u same fs gs are.2)

  pub reads_stay : (v : ℕ) → cut.p.head.number ≢ suc v → (fs : List Flight)
      → AreTurned (pop_turn page k v store) fs fs
  reads_stay v other fs =
      still (pop_turn page k v store) (λ f.
      ap (λ (o : Option Piece). turned_by (is_raised v o) o f) piece_there
      ∙ ap (λ (b : Bool). turned_by b (Some cut.p) f) (ne_eqb cut.p.head.number (suc v) other)) fs
    where
      still : (u : Flight → Read) → ((f : Flight) → u f ≡ flight_of f)
          → (fs : List Flight) → AreTurned u fs fs
      still u same [] = tt
      still u same (f ∷ fs) = (
        sym (same f),
        record { view = refl; doc = refl; phase = refl; piece = refl; head = refl; from = refl; buffer = refl },
        still u same fs,
      )
