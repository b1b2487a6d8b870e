-- What the events of a record's purge make, by its kind.
use Rattle.std.proofs.Common.{◌≡◌, ℕ, Bool, true, false, List, [], ◌∷◌, Option, Some, None, Result, Ok, Err, IfOk, refl, sym, ap, subst, ◌∙◌}
use Rattle.page_model.specs.Pages.{Pages, Address}
use Rattle.store_data.specs.Logs.{passed}
use Rattle.store_data.specs.Pieces.{all_but_last}
use Rattle.store_data.specs.Store.{Piece, Lob, Run, Body, inserted, rebuilt, versioned, patched, removed, Record, Log, Store}
use Rattle.undo_model.specs.Rows.{RowPage}
use Rattle.store_model.specs.Lobs.{lob_of}
use Rattle.store_model.specs.Steps.{last_in, on_lobs}
use Rattle.store_model.specs.Undo.{on_oldest, cleared, swept, record_passed}
use Rattle.store_model.specs.Well.{IsKind}
use Rattle.store_model.specs.Consistent.{IsConsistent}
use Rattle.store_model.specs.Events.{with_row_pages}
use Rattle.store_parts.specs.Stored.{row_pages}
use Rattle.row_dir.specs.declared.dir.RowDir.{RowDir}
use Rattle.row_dir.specs.Directory.{IsDirectory}
use Rattle.engine_base.specs.declared.fault.Fault.{Fault}
use Rattle.store_steps.specs.declared.reached.Reached.{Reached}
use Rattle.store_steps.specs.Reached.{IsHeadAt}
use Rattle.purge.specs.Job.{IsHeadIn}
use Rattle.store_steps.specs.Touched.{next_touched}
use Rattle.purge.specs.Events.{Event, passes, dropping, freeing, freeing_lob, due_for, behind}
use Rattle.purge.specs.Kinds.{LobGoesBy, LobGoes, RowGone, RowGoesBy, RowGoes}
use Rattle.store_steps.specs.Lobs.{has_part, IsSingle, freed_part, freed_lob, FreesPart}
use Rattle.purge.specs.Made.{Made, event_of}
use Rattle.store_steps.specs.Standing.{StandsOn}
use Rattle.purge.specs.Versions.{VersionsGo}
use Rattle.purge.proofs.RowLemmas.{rows_back}
use Rattle.purge.proofs.OwnedLemmas.{lob_before}

abbrev Entry : Type 0
Entry = Address × Record

-- the same for a kind that is known
abbrev event_by : Body → Entry → Log → Store → Option ℕ → Event
event_by b u l store at = due_for b u.1.before store.lobs at (passes u.0 l.trx u.1)

abbrev passed_by : Body → Entry → Log → Store → Store
passed_by b u l store =
    on_oldest passed (swept b u.0 l.trx u.1.doc (on_lobs (cleared b u.1.before) store))

event_is : (b : Body) (u : Entry) (l : Log) (store : Store) (at : Option ℕ) → u.1.body ≡ b
    → event_of u l store at ≡ event_by b u l store at
event_is b u l store at is = ap (λ (x : Body). event_by x u l store at) is

-- ---- the record is passed

passes_made : (b : Body) (u : Entry) (l : Log) (store : Store) (dir : RowDir) (there : List RowPage)
    (new : Pages) → u.1.body ≡ b → StandsOn there new (passed_by b u l store)
    → IsDirectory dir there → Made (passes u.0 l.trx u.1) dir store new
passes_made b u l store dir there new is on directory = record {
  free = [];
  there = there;
  stands = rows_back there new (record_passed u.0 l.trx u.1 store)
      (subst (λ (x : Body). StandsOn there new (passed_by x u l store)) (sym is) on);
  directory = directory;
  bare = tt;
}

row_made : (u : Entry) (l : Log) (store : Store) (dir : RowDir) (new : Pages)
    → u.1.body ≡ removed → RowGone u.1.before.lob.page u.0 l.trx u.1.doc dir store new
    → Made (passes u.0 l.trx u.1) dir store new
row_made u l store dir new is gone = record {
  free = [];
  there = gone.there;
  stands = subst (λ (x : Body). StandsOn gone.there new
      (with_row_pages (row_pages gone.there) (passed_by x u l store))) (sym is) gone.stands;
  directory = gone.directory;
  bare = tt;
}

same_lob : (a b : Lob) → Some a ≡ Some b → a ≡ b
same_lob a b e = cc e

freeing_none : (page : ℕ) (last : Event) (ps : List Piece) (is : List ℕ) → has_part ps is ≡ false
    → freeing page last ps is ≡ last
freeing_none page last [] [] none = refl
freeing_none page last [] (i ∷ more) none = absurd (let x : true ≡ false = none in cc)
freeing_none page last (p ∷ more) is none = absurd (let x : true ≡ false = none in cc)

module _ (u : Entry) (l : Log) (store : Store) (at : Option ℕ) (dir : RowDir) (new : Pages) where
  onto : (b : Body) → u.1.body ≡ b → Made (event_by b u l store at) dir store new
      → Made (event_of u l store at) dir store new
  onto b is m = subst (λ (e : Event). Made e dir store new) (sym (event_is b u l store at is)) m

  pub inserted_made : (page : ℕ) (there : List RowPage) → u.1.body ≡ inserted page
      → StandsOn there new (on_oldest passed store) → IsDirectory dir there
      → Made (event_of u l store at) dir store new
  inserted_made page there is on directory = onto (inserted page) is
      (passes_made (inserted page) u l store dir there new is on directory)

  pub patched_made : (old : List Run) (there : List RowPage) → u.1.body ≡ patched old
      → StandsOn there new (on_oldest passed store) → IsDirectory dir there
      → Made (event_of u l store at) dir store new
  patched_made old there is on directory = onto (patched old) is
      (passes_made (patched old) u l store dir there new is on directory)

  pub versioned_made : (n : ℕ) (ks : List ℕ) (there : List RowPage) → u.1.body ≡ versioned n ks
      → VersionsGo there u.1.before.lob.page u.1.before.lob.version store (next_touched at ks) new
      → IsDirectory dir there → Made (event_of u l store at) dir store new
  versioned_made n ks there is goes directory = onto (versioned n ks) is
      (by (next_touched at ks) goes)
    where
      by : (o : Option ℕ)
          → VersionsGo there u.1.before.lob.page u.1.before.lob.version store o new
          → Made (dropping u.1.before.lob.page u.1.before.lob.version (passes u.0 l.trx u.1) o) dir
          store new
      by None on = passes_made (versioned n ks) u l store dir there new is on directory
      by (Some k) drop =
          record { free = drop.0; there = there; stands = drop.1; directory = directory; bare = tt }

  part_made : (last : Event) (ps : List Piece) (is : List ℕ) (there : List RowPage)
      (free : List Address) (m : Lob) → true ≡ has_part ps is
      → StandsOn there new (freed_part u.1.before.lob.page free ps is store) → IsDirectory dir there
      → lob_of store.lobs u.1.before.lob.page ≡ Some m → IsSingle (freed_lob free ps is m)
      → Made (freeing u.1.before.lob.page last ps is) dir store new
  part_made last [] [] there free m some on directory found single =
      absurd (let x : true ≡ false = some in cc)
  part_made last [] (i ∷ more) there free m some on directory found single =
      record { free = free; there = there; stands = on; directory = directory; bare = tt }
  part_made last (p ∷ more) is there free m some on directory found single = record {
    free = free;
    there = there;
    stands = on;
    directory = directory;
    bare = λ m' here none. single.bare
        (ap (λ (x : Lob). all_but_last x.pieces) (same_lob m m' (sym found ∙ here)) ∙ none);
  }

  freed : (m : Lob) (there : List RowPage) (last : Event) → true ≡ has_part m.pieces m.index
      → lob_of store.lobs u.1.before.lob.page ≡ Some m
      → FreesPart there u.1.before.lob.page m store new → IsDirectory dir there
      → Made (freeing u.1.before.lob.page last m.pieces m.index) dir store new
  freed m there last some found frees directory =
      part_made last m.pieces m.index there frees.free m some frees.stands directory found frees.single

  at_lob : (m : Lob) (last : Event) → lob_of store.lobs u.1.before.lob.page ≡ Some m
      → Made (freeing u.1.before.lob.page last m.pieces m.index) dir store new
      → Made (freeing_lob u.1.before.lob.page last (lob_of store.lobs u.1.before.lob.page)) dir store
      new
  at_lob m last found made = subst (λ (o : Option Lob).
      Made (freeing_lob u.1.before.lob.page last o) dir store new) (sym found) made

  pub full_made : (page : ℕ) (m : Lob) (there : List RowPage) → u.1.body ≡ rebuilt page
      → lob_of store.lobs u.1.before.lob.page ≡ Some m
      → LobGoes there u.1.before.lob.page m store new → IsDirectory dir there
      → Made (event_of u l store at) dir store new
  full_made page m there is found goes directory = onto (rebuilt page) is
      (at_lob m last found (by (has_part m.pieces m.index) refl goes))
    where
      last : Event
      last = passes u.0 l.trx u.1

      by : (b : Bool) → has_part m.pieces m.index ≡ b
          → LobGoesBy b there u.1.before.lob.page m store new
          → Made (freeing u.1.before.lob.page last m.pieces m.index) dir store new
      by true some frees = freed m there last (sym some) found frees directory
      by false none on = subst (λ (e : Event). Made e dir store new)
          (sym (freeing_none u.1.before.lob.page last m.pieces m.index none))
          (passes_made (rebuilt page) u l store dir there new is on directory)

  pub removed_made : (m : Lob) (there : List RowPage) → u.1.body ≡ removed
      → lob_of store.lobs u.1.before.lob.page ≡ Some m
      → RowGoes there u.1.before.lob.page m u.0 l.trx u.1.doc dir store new
      → Made (event_of u l store at) dir store new
  removed_made m there is found goes = onto removed is
      (at_lob m last found (by (has_part m.pieces m.index) refl goes))
    where
      last : Event
      last = passes u.0 l.trx u.1

      by : (b : Bool) → has_part m.pieces m.index ≡ b
          → RowGoesBy b there u.1.before.lob.page m u.0 l.trx u.1.doc dir store new
          → Made (freeing u.1.before.lob.page last m.pieces m.index) dir store new
      by true some frees = freed m there last (sym some) found frees.0 frees.1
      by false none gone = subst (λ (e : Event). Made e dir store new)
          (sym (freeing_none u.1.before.lob.page last m.pieces m.index none))
          (row_made u l store dir new is gone)

-- ---- how far it has come

module _ (u : Entry) (l : Log) (store : Store) (at : Option ℕ) where
  pub inserted_ends : (page : ℕ) → u.1.body ≡ inserted page
      → (let o : Option ℕ = None in o) ≡ behind (event_of u l store at)
  inserted_ends page is = ap behind (sym (event_is (inserted page) u l store at is))

  pub patched_ends : (old : List Run) → u.1.body ≡ patched old
      → (let o : Option ℕ = None in o) ≡ behind (event_of u l store at)
  patched_ends old is = ap behind (sym (event_is (patched old) u l store at is))

  pub versioned_ends : (n : ℕ) (ks : List ℕ) → u.1.body ≡ versioned n ks
      → next_touched at ks ≡ behind (event_of u l store at)
  versioned_ends n ks is = by (next_touched at ks)
      ∙ ap behind (sym (event_is (versioned n ks) u l store at is))
    where
      by : (o : Option ℕ) → o ≡ behind (dropping u.1.before.lob.page u.1.before.lob.version
          (passes u.0 l.trx u.1) o)
      by None = refl
      by (Some k) = refl

  freeing_ends : (page : ℕ) (o : Option Lob) → (let o : Option ℕ = None in o)
      ≡ behind (freeing_lob page (passes u.0 l.trx u.1) o)
  freeing_ends page None = refl
  freeing_ends page (Some m) = by m.pieces m.index
    where
      by : (ps : List Piece) (is : List ℕ) → (let o : Option ℕ = None in o)
          ≡ behind (freeing page (passes u.0 l.trx u.1) ps is)
      by [] [] = refl
      by [] (i ∷ more) = refl
      by (p ∷ more) is = refl

  pub full_ends : (page : ℕ) → u.1.body ≡ rebuilt page
      → (let o : Option ℕ = None in o) ≡ behind (event_of u l store at)
  full_ends page is =
      freeing_ends u.1.before.lob.page (lob_of store.lobs u.1.before.lob.page)
      ∙ ap behind (sym (event_is (rebuilt page) u l store at is))

  pub removed_ends : u.1.body ≡ removed
      → (let o : Option ℕ = None in o) ≡ behind (event_of u l store at)
  removed_ends is =
      freeing_ends u.1.before.lob.page (lob_of store.lobs u.1.before.lob.page)
      ∙ ap behind (sym (event_is removed u l store at is))

-- ---- the LOB before

module _ (store : Store) (l : Log) (ls : List Log) (u : Entry) (is : IsConsistent store)
    (first : store.committed ≡ l ∷ ls) (oldest : last_in l.records ≡ u ∷ []) where
  pub versioned_lob : (n : ℕ) (ks : List ℕ) → u.1.body ≡ versioned n ks
      → (m : Lob) × (lob_of store.lobs u.1.before.lob.page ≡ Some m)
  versioned_lob n ks body = lob_before store l ls u.0 u.1 is first oldest
      (λ r kind. (subst (λ (b : Body). IsKind b r u.1.before) body kind).1)

  pub full_lob : (page : ℕ) → u.1.body ≡ rebuilt page
      → (m : Lob) × (lob_of store.lobs u.1.before.lob.page ≡ Some m)
  full_lob page body = lob_before store l ls u.0 u.1 is first oldest
      (λ r kind. (subst (λ (b : Body). IsKind b r u.1.before) body kind).2)

  pub removed_lob : u.1.body ≡ removed
      → (m : Lob) × (lob_of store.lobs u.1.before.lob.page ≡ Some m)
  removed_lob body = lob_before store l ls u.0 u.1 is first oldest
      (λ r kind. (subst (λ (b : Body). IsKind b r u.1.before) body kind).1)

-- ---- the head that is kept

pub heads_in : (r : Result (Option Reached) Fault) (lobs : List Lob) (u : Record)
    → ((m : Lob) → lob_of lobs u.before.lob.page ≡ Some m → IfOk r (λ d. IsHeadAt d m))
    → IfOk r (λ d. IsHeadIn d lobs u)
heads_in (Ok d) lobs u heads = heads
heads_in (Err e) lobs u heads = tt
