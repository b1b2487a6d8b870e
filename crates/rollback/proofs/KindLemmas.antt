-- The events of a record's undoing, by its kind.
use Rattle.std.proofs.Common.{◌≡◌, ℕ, Result, Ok, Err, IfOk, OnOk, Bool, true, false, List, [], ◌∷◌, Option, Some, None, refl, sym, ap, subst, ◌∙◌}
use Rattle.page_model.specs.Pages.{Pages, Address}
use Rattle.engine_base.specs.declared.fault.Fault.{Fault}
use Rattle.store_data.specs.Pieces.{all_but_last}
use Rattle.store_data.specs.Store.{Row, Run, Record, Piece, Lob, Body, inserted, rebuilt, versioned, patched, removed, Store}
use Rattle.store_model.specs.Lobs.{lob_of}
use Rattle.store_model.specs.Keeps.{Makes}
use Rattle.store_model.specs.Steps.{on_lob, on_lobs, at_version, without_lob}
use Rattle.store_model.specs.Runs.{lobs_laid}
use Rattle.store_model.specs.Events.{with_row_pages}
use Rattle.store_model.specs.Undo.{restored, unmade}
use Rattle.store_parts.specs.Stored.{row_pages}
use Rattle.row_dir.specs.declared.dir.RowDir.{RowDir}
use Rattle.row_dir.specs.Directory.{IsDirectory}
use Rattle.undo_model.proofs.OptionLemmas.{some_some}
use Rattle.store_steps.specs.Lobs.{has_part, freed_part, freed_lob, IsSingle, FreesPart}
use Rattle.store_steps.specs.Standing.{StandsOn}
use Rattle.engine_base.specs.Addresses.{address_of}
use Rattle.read_views.specs.declared.flight.Flight.{Flight}
use Rattle.read_views.specs.Flights.{flight_of, record_in}
use Rattle.rollback.specs.Flights.{AreTurned, handed}
use Rattle.rollback.proofs.FlightLemmas.{all_still}
use Rattle.rollback.specs.declared.newest.Newest.{Newest}
use Rattle.rollback.specs.Standing.{Scene, IsAt}
use Rattle.rollback.specs.Records.{log_left, record_out, is_left}
use Rattle.rollback.specs.Ends.{IsNewest, CanEnd, EndsRecord}
use Rattle.rollback.specs.Events.{Event, ends, freeing, freeing_lob, popping}
use Rattle.rollback.specs.Versions.{version_gone, pop_turn, PopsVersion}
use Rattle.rollback.specs.Made.{Made, goes_on, event_turn}

-- ---- the scene, once its LOBs have changed

abbrev pub scene_at : Scene → Pages → (List Lob → List Lob) → Scene
scene_at s new f = record s { pages = new; store = on_lobs f s.store }

pub at_scene : (told now : Option Pages) (first : ℕ) (s : Scene) (new : Pages) (f : List Lob → List Lob)
    → IsAt told first s → now ≡ Some new → StandsOn s.there new (on_lobs f s.store)
    → IsAt now first (scene_at s new f)
at_scene told now first s new f is told' on = record {
  told' = told';
  stands = on;
  found = is.found;
  page = is.page;
  records = is.records;
}

pub newest_scene : (n : Newest) (s : Scene) (new : Pages) (f : List Lob → List Lob) → IsNewest n s
    → IsNewest n (scene_at s new f)
newest_scene n s new f is = record { place = is.place; undo = is.undo }

pub end_scene : (s : Scene) (new : Pages) (f : List Lob → List Lob) → CanEnd s → CanEnd (scene_at s new f)
end_scene s new f can = record { has = can.has; distinct = can.distinct; named = can.named }

-- its last event, behind what it did to the LOBs
pub ended_made : (s : Scene) (mid : Pages) (f : List Lob → List Lob) (dir : RowDir) (new : Pages)
    → f s.store.lobs ≡ unmade s.undo.body s.undo.before s.store.lobs
    → EndsRecord (scene_at s mid f) dir new → Made ends s dir new
ended_made s mid f dir new same e = record {
  free = [];
  log_pages = e.log_pages;
  there = e.there;
  stands = subst (λ (ls : List Lob). StandsOn e.there new (with_row_pages (row_pages e.there)
      (log_left s.rest s.trx e.log_pages (restored s.undo.doc s.undo.before
      (record_out s.trx (on_lobs (λ _. ls) s.store)))))) same e.stands;
  directory = e.directory;
  bare = tt;
}

-- ---- a LOB that the record made

unmade_new : (page : ℕ) (body : Body) (before : Row) (lobs : List Lob) → Makes page body
    → without_lob page lobs ≡ unmade body before lobs
unmade_new page (inserted q) before lobs is = ap (λ (n : ℕ). without_lob n lobs) (sym is)
unmade_new page (rebuilt q) before lobs is = ap (λ (n : ℕ). without_lob n lobs) (sym is)
unmade_new page (versioned pieces touched) before lobs is = absurd is
unmade_new page (patched old) before lobs is = absurd is
unmade_new page removed before lobs is = absurd is

none_left : (ps : List Piece) (is : List ℕ) → false ≡ has_part ps is → (ps ≡ []) × (is ≡ [])
none_left [] [] e = (refl, refl)
none_left [] (i ∷ more) e = absurd (let x : false ≡ true = e in cc)
none_left (p ∷ more) is e = absurd (let x : false ≡ true = e in cc)

part_of_lob : (s : Scene) (page : ℕ) (m : Lob) (ps : List Piece) (index : List ℕ) (free : List Address)
    (dir : RowDir) (new : Pages) → true ≡ has_part ps index → IsDirectory dir s.there
    → StandsOn s.there new (freed_part page free ps index s.store)
    → lob_of s.store.lobs page ≡ Some m → IsSingle (freed_lob free ps index m)
    → Made (freeing page ps index) s dir new
part_of_lob s page m [] [] free dir new some is on found single =
    absurd (let x : true ≡ false = some in cc)
part_of_lob s page m [] (i ∷ more) free dir new some is on found single =
    record { free = free; log_pages = []; there = s.there; stands = on; directory = is; bare = tt }
part_of_lob s page m (p ∷ ps) index free dir new some is on found single = record {
  free = free;
  log_pages = [];
  there = s.there;
  stands = on;
  directory = is;
  bare = λ l here none. single.bare
      (ap (λ (x : Lob). all_but_last x.pieces) (some_some m l (sym found ∙ here)) ∙ none);
}

module _ (s : Scene) (page : ℕ) (m : Lob) (found : lob_of s.store.lobs page ≡ Some m) where
  -- a part of it goes
  pub part_made : (dir : RowDir) (new : Pages) → true ≡ has_part m.pieces m.index
      → IsDirectory dir s.there → FreesPart s.there page m s.store new
      → Made (freeing_lob page (lob_of s.store.lobs page)) s dir new
  part_made dir new some is gone =
      subst (λ (o : Option Lob). Made (freeing_lob page o) s dir new) (sym found)
      (part_of_lob s page m m.pieces m.index gone.free dir new some is gone.stands found gone.single)

  pub part_left : true ≡ has_part m.pieces m.index
      → true ≡ goes_on (freeing_lob page (lob_of s.store.lobs page)) s
  part_left some = by m.pieces m.index some
      ∙ ap (λ (o : Option Lob). goes_on (freeing_lob page o) s) (sym found)
    where
      by : (ps : List Piece) (is : List ℕ) → true ≡ has_part ps is → true ≡ goes_on (freeing page ps is) s
      by [] [] e = absurd (let x : true ≡ false = e in cc)
      by [] (i ∷ more) e = refl
      by (p ∷ more) is e = refl

  -- only its first page is left
  pub empty_lob : false ≡ has_part m.pieces m.index → (m.pieces ≡ []) × (m.index ≡ [])
  empty_lob none = none_left m.pieces m.index none

  pub still_stands : (new : Pages) → false ≡ has_part m.pieces m.index
      → FreesPart s.there page m s.store new → StandsOn s.there new s.store
  still_stands new none gone =
      let e = empty_lob none in
      subst (λ (x : Store). StandsOn s.there new x)
      (ap (λ (ps : List Piece). freed_part page gone.free ps m.index s.store) e.0
      ∙ ap (λ (is : List ℕ). freed_part page gone.free [] is s.store) e.1) gone.stands

  last_due : false ≡ has_part m.pieces m.index → freeing_lob page (lob_of s.store.lobs page) ≡ ends
  last_due none =
      let e = empty_lob none in
      ap (freeing_lob page) found
      ∙ ap (λ (ps : List Piece). freeing page ps m.index) e.0 ∙ ap (λ (is : List ℕ). freeing page [] is) e.1

  pub last_made : (mid : Pages) (dir : RowDir) (new : Pages) → false ≡ has_part m.pieces m.index
      → Makes page s.undo.body → EndsRecord (scene_at s mid (without_lob page)) dir new
      → Made (freeing_lob page (lob_of s.store.lobs page)) s dir new
  last_made mid dir new none makes e =
      subst (λ (x : Event). Made x s dir new) (sym (last_due none))
      (ended_made s mid (without_lob page) dir new
      (unmade_new page s.undo.body s.undo.before s.store.lobs makes) e)

  pub last_left : (r : Result Bool Fault) → false ≡ has_part m.pieces m.index
      → IfOk r (λ b. b ≡ is_left s.rest)
      → IfOk r (λ b. b ≡ goes_on (freeing_lob page (lob_of s.store.lobs page)) s)
  last_left (Ok b) none is = is ∙ ap (λ (e : Event). goes_on e s) (sym (last_due none))
  last_left (Err e) none is = tt

-- ---- old bytes

pub unmade_old : (s : Scene) (runs : List Run) → s.undo.body ≡ patched runs
    → lobs_laid runs s.store.lobs ≡ unmade s.undo.body s.undo.before s.store.lobs
unmade_old s runs is = ap (λ (b : Body). unmade b s.undo.before s.store.lobs) (sym is)

-- ---- the reads

pub turned_new : (s : Scene) (page : ℕ) (m : Lob) → lob_of s.store.lobs page ≡ Some m
    → true ≡ has_part m.pieces m.index → (fs : List Flight)
    → AreTurned (event_turn (freeing_lob page (lob_of s.store.lobs page)) s) fs fs
turned_new s page m found some fs =
    all_still (event_turn (freeing_lob page (lob_of s.store.lobs page)) s) (λ f.
    ap (λ (o : Option Lob). event_turn (freeing_lob page o) s f) found ∙ by m.pieces m.index some f) fs
  where
    by : (ps : List Piece) (is : List ℕ) → true ≡ has_part ps is → (f : Flight)
        → event_turn (freeing page ps is) s f ≡ flight_of f
    by [] [] e f = absurd (let x : true ≡ false = e in cc)
    by [] (i ∷ more) e f = refl
    by (p ∷ more) is e f = refl

pub turned_last : (s : Scene) (page : ℕ) (m : Lob) → lob_of s.store.lobs page ≡ Some m
    → false ≡ has_part m.pieces m.index → (n : Newest) → IsNewest n s → (r : Result Bool Fault)
    → (fs gs : List Flight) → OnOk r (AreTurned (handed (address_of n.place) (record_in n.rec)) fs gs)
    → OnOk r (AreTurned (event_turn (freeing_lob page (lob_of s.store.lobs page)) s) fs gs)
turned_last s page m found none n newest (Ok b) fs gs turned =
    subst (λ (e : Event). AreTurned (event_turn e s) fs gs) (sym (last_due s page m found none))
    (subst (λ (a : Address). AreTurned (handed a s.undo) fs gs) newest.place
    (subst (λ (u : Record). AreTurned (handed (address_of n.place) u) fs gs) newest.undo turned))
turned_last s page m found none n newest (Err e) fs gs turned = tt

-- ---- versions

pub unmade_raised : (s : Scene) (page v pieces : ℕ) (touched : List ℕ)
    → s.undo.body ≡ versioned pieces touched → page ≡ s.undo.before.lob.page
    → v ≡ s.undo.before.lob.version
    → on_lob page (at_version v) s.store.lobs ≡ unmade s.undo.body s.undo.before s.store.lobs
unmade_raised s page v pieces touched body same same' =
    ap (λ (n : ℕ). on_lob n (at_version v) s.store.lobs) same
    ∙ ap (λ (n : ℕ). on_lob s.undo.before.lob.page (at_version n) s.store.lobs) same'
    ∙ ap (λ (b : Body). unmade b s.undo.before s.store.lobs) (sym body)

pub popped_made : (s : Scene) (page v k : ℕ) (o : Option ℕ) (dir : RowDir) (new : Pages)
    → page ≡ s.undo.before.lob.page → v ≡ s.undo.before.lob.version → Some k ≡ o
    → IsDirectory dir s.there → PopsVersion s.there page k v s.store new
    → Made (popping s.undo.before.lob.page s.undo.before.lob.version o) s dir new
popped_made s page v k o dir new same same' is there p =
    subst (λ (x : Option ℕ). Made (popping s.undo.before.lob.page s.undo.before.lob.version x) s dir new) is
    (record {
      free = p.0;
      log_pages = [];
      there = s.there;
      stands = subst (λ (n : ℕ). StandsOn s.there new (version_gone s.undo.before.lob.page k n p.0 s.store)) same'
          (subst (λ (n : ℕ). StandsOn s.there new (version_gone n k v p.0 s.store)) same p.1);
      directory = there;
      bare = tt;
    })

pub turned_popped : (s : Scene) (page v k : ℕ) (o : Option ℕ) (fs gs : List Flight)
    → page ≡ s.undo.before.lob.page → v ≡ s.undo.before.lob.version → Some k ≡ o
    → AreTurned (pop_turn page k v s.store) fs gs
    → AreTurned (event_turn (popping s.undo.before.lob.page s.undo.before.lob.version o) s) fs gs
turned_popped s page v k o fs gs same same' is turned =
    subst (λ (x : Option ℕ). AreTurned (event_turn (popping s.undo.before.lob.page
    s.undo.before.lob.version x) s) fs gs) is
    (subst (λ (n : ℕ). AreTurned (pop_turn s.undo.before.lob.page k n s.store) fs gs) same'
    (subst (λ (n : ℕ). AreTurned (pop_turn n k v s.store) fs gs) same turned))

pub turned_ended : (s : Scene) (n : Newest) → IsNewest n s → (o : Option ℕ) (fs gs : List Flight)
    → None ≡ o → AreTurned (handed (address_of n.place) (record_in n.rec)) fs gs
    → AreTurned (event_turn (popping s.undo.before.lob.page s.undo.before.lob.version o) s) fs gs
turned_ended s n newest o fs gs is turned =
    subst (λ (x : Option ℕ). AreTurned (event_turn (popping s.undo.before.lob.page
    s.undo.before.lob.version x) s) fs gs) is
    (subst (λ (a : Address). AreTurned (handed a s.undo) fs gs) newest.place
    (subst (λ (u : Record). AreTurned (handed (address_of n.place) u) fs gs) newest.undo turned))

-- ---- a record that made nothing

pub ended_removed : (s : Scene) (dir : RowDir) (new : Pages) → s.undo.body ≡ removed
    → EndsRecord s dir new → Made ends s dir new
ended_removed s dir new body e = record {
  free = [];
  log_pages = e.log_pages;
  there = e.there;
  stands = subst (λ (b : Body). StandsOn e.there new (with_row_pages (row_pages e.there)
      (log_left s.rest s.trx e.log_pages (restored s.undo.doc s.undo.before
      (record_out s.trx (on_lobs (λ ls. unmade b s.undo.before ls) s.store)))))) (sym body) e.stands;
  directory = e.directory;
  bare = tt;
}
