-- An event of a read, whatever its phase.
use Rattle.std.proofs.Common.{◌≡◌, ◌⊎◌, inl, inr, ℕ, zero, suc, Bool, true, false, cond, List, take, Option, Some, None, IsSome, Result, Ok, Err, IfOk, OnOk, refl, sym, ap, subst, ◌∙◌}
use Rattle.page_model.specs.Pages.{Pages}
use Rattle.store_data.specs.Pieces.{Part}
use Rattle.store_data.specs.Store.{RowState, absent, live, deleted, Row as StoreRow, Record, Lob, Store}
use Rattle.row_dir.specs.declared.dir.RowDir.{RowDir}
use Rattle.undo_records.specs.declared.record_type.Row.{Row}
use Rattle.read_model.specs.Document.{Document, Sees}
use Rattle.read_model.specs.Flight.{Phase as ReadPhase, Seek as seeks, Found as found, Pieces as pieces, Unpatch as unpatch, Ready as ready, Absent as gone, Flight as Read, IsFlight}
use Rattle.read_model.specs.Steps.{arrival, arrived, judging, behind, followed, seek, step}
use Rattle.read_model.specs.Buffer.{left_in}
use Rattle.read_views.specs.Flights.{flight_of, phase_of, row_read, numbers_of, pages_copied}
use Rattle.read_views.specs.declared.flight.Flight.{Flight}
use Rattle.read_views.specs.declared.flight.Phase.{Phase}
use Rattle.read_views.specs.declared.flight.Phase.TheVariants.{Seek, Found, Pieces, Unpatch, Ready, Absent}
use Rattle.version_read.specs.Lent.{IsAllCopied, IsLentIn}
use Rattle.version_read.specs.Next.{IsReading, Does, KeepsBuffer}
use Rattle.version_read.specs.Reads.{read_in, read_at, document_of, IsUnderWay, StepsOn}
use Rattle.version_read.specs.Seeks.{begun}
use Rattle.version_read.proofs.LentLemmas.{none_left_as}
use Rattle.version_read.proofs.StepLemmas.{steps_by}
use Rattle.version_read.proofs.PiecesLemmas.{at_walk}

-- ---- Seek

-- the phases behind an event in Seek
abbrev IsSought : ReadPhase → Type 0
IsSought seeks = Unit {0}
IsSought (found n) = Unit {0}
IsSought pieces = ⊥
IsSought unpatch = ⊥
IsSought ready = ⊥
IsSought gone = Unit {0}

arrival_sought : (row : StoreRow) (state : RowState) → IsSought (arrival row state)
arrival_sought row absent = tt
arrival_sought row live = tt
arrival_sought row deleted = tt

judging_sought : (row : StoreRow) → IsSought (judging row).phase
judging_sought row = tt

seek_sought : (n : ℕ) (sees : Sees) (doc : Document) (row : StoreRow)
    → IsSought (seek n sees doc row).phase
seek_sought zero sees doc row = by (sees row.trx)
  where
    by : (b : Bool) → IsSought (cond b (arrived row) (judging row)).phase
    by true = arrival_sought row row.state
    by false = judging_sought row
seek_sought (suc n) sees doc row =
    by (sees row.trx) (on (behind doc row) (λ r. seek_sought n sees doc r))
  where
    on : (o : Option Record) → ((r : StoreRow) → IsSought (seek n sees doc r).phase)
        → IsSought (followed (seek n sees doc) row o).phase
    on None rest = judging_sought row
    on (Some r) rest = rest r.before

    by : (b : Bool) → IsSought (followed (seek n sees doc) row (behind doc row)).phase
        → IsSought (cond b (arrived row) (followed (seek n sees doc) row (behind doc row))).phase
    by true rest = arrival_sought row row.state
    by false rest = rest

lent_sought : (p : Phase) (lobs : List Lob) (f : Flight)
    → IsSought (phase_of p) → IsLentIn p lobs f
lent_sought Seek lobs f sought = tt
lent_sought (Found n) lobs f sought = tt
lent_sought Pieces lobs f sought = absurd sought
lent_sought Unpatch lobs f sought = absurd sought
lent_sought Ready lobs f sought = absurd sought
lent_sought Absent lobs f sought = tt

read_with : (p : Phase) (row : Option Row) (present : StoreRow) (g : Read) → IsSome row
    → read_in p row present g ≡ g
read_with Seek None present g some = absurd (none_some some)
  where
    none_some : IsSome (let o : Option Row = None in o) → ⊥
    none_some e = cc e
read_with Seek (Some r) present g some = refl
read_with (Found n) row present g some = refl
read_with Pieces row present g some = refl
read_with Unpatch row present g some = refl
read_with Ready row present g some = refl
read_with Absent row present g some = refl

begun_is : (row present : Option Row) (now : StoreRow) (g : Read)
    → (row ≡ None → row_read present ≡ now) → begun row present g ≡ read_in Seek row now g
begun_is None present now g is = ap judging (is refl)
begun_is (Some r) present now g is = refl

pub on_ok_with : {T E : Type 0} (r : Result T E) (Q : Type 0) (P R : T → Type 0)
    → (Q → (x : T) → P x → R x) → OnOk r Q → IfOk r P → IfOk r R
on_ok_with (Ok x) Q P R onto q is = onto q x is
on_ok_with (Err e) Q P R onto q is = tt

module _ {told : Option Pages} {pages : Pages} {store : Store} {dir : RowDir} {sees : Sees} {shown : Option (List Part)} {f : Flight} (u : IsUnderWay told pages store dir sees shown f) where
  begun_at : (present : Option Row) → f.phase ≡ Seek
      → (f.row ≡ None → row_read present ≡ (document_of store f).row)
      → begun f.row present (flight_of f) ≡ read_at (document_of store f) f
  begun_at present phase is =
      begun_is f.row present (document_of store f).row (flight_of f) is
      ∙ sym (ap (λ (p : Phase). read_in p f.row (document_of store f).row (flight_of f)) phase)

  -- in Seek, with the row that is handed over
  pub reading_begun : (now : Option Pages) (present : Option Row) → now ≡ told → f.phase ≡ Seek
      → (f.row ≡ None → row_read present ≡ (document_of store f).row)
      → IsReading now pages store f.doc.0 sees shown (begun f.row present (flight_of f))
  reading_begun now present same phase is = record {
    told' = same ∙ u.told';
    is = u.is;
    distinct = u.distinct;
    flight = subst (λ (g : Read). IsFlight sees (document_of store f) shown g)
        (sym (begun_at present phase is)) u.flight;
  }

  pub seek_steps : (new : Flight) (present : Option Row) → f.phase ≡ Seek
      → (f.row ≡ None → row_read present ≡ (document_of store f).row) → IsSome new.row
      → Does sees (document_of store f) shown (begun f.row present (flight_of f)) (flight_of new)
      → StepsOn sees store shown f new
  seek_steps new present phase is some does =
      let doc = document_of store f in
      let began = begun_at present phase is in
      let step_is : flight_of new ≡ step sees doc (read_at doc f) =
      does.is ∙ ap (step sees doc) began in
      let sought : IsSought (phase_of new.phase) =
      subst (λ (g : Read). IsSought g.phase) (sym (does.is
      ∙ ap (step sees doc) (begun_is f.row present doc.row (flight_of f) is)))
      (sought_step (f.row)) in
      steps_by sees store shown f new step_is (subst (λ (g : Read). IsFlight sees doc shown g)
      (sym (read_with new.phase new.row doc.row (flight_of new) some)) does.kept)
      (lent_sought new.phase store.lobs new sought)
    where
      sought_step : (row : Option Row)
          → IsSought (step sees (document_of store f) (read_in Seek row (document_of store f).row
          (flight_of f))).phase
      sought_step None = seek_sought 8 sees (document_of store f) (document_of store f).row
      sought_step (Some r) = by phase
        where
          by : f.phase ≡ Seek
              → IsSought (step sees (document_of store f) (flight_of f)).phase
          by e = rw e (seek_sought 8 sees (document_of store f) (row_read f.row))

  -- ---- Unpatch

  pub reading_walk : f.phase ≡ Unpatch
      → IsReading told pages store f.doc.0 sees shown (flight_of f)
  reading_walk phase = record {
    told' = u.told';
    is = u.is;
    distinct = u.distinct;
    flight = subst (λ (g : Read). IsFlight sees (document_of store f) shown g)
        (at_walk (document_of store f) f phase) u.flight;
  }

  pub walk_steps : (new : Flight) → f.phase ≡ Unpatch
      → (new.phase ≡ Unpatch) ⊎ (new.phase ≡ Ready) → KeepsBuffer f new
      → Does sees (document_of store f) shown (flight_of f) (flight_of new)
      → StepsOn sees store shown f new
  walk_steps new phase now of does =
      let doc = document_of store f in
      let all : IsAllCopied f = subst (λ (p : Phase). IsLentIn p store.lobs f) phase u.lent in
      let still : pages_copied new ≡ pages_copied f =
      ap (λ (n : ℕ). take n (numbers_of new.from.items)) of.piece ∙ rw of.from refl in
      let all' : IsAllCopied new =
      ap (λ (l : List ℕ). left_in l new.buffer.items) still
      ∙ none_left_as (pages_copied f) f.buffer.items new.buffer.items of.buffer all in
      steps_by sees store shown f new (does.is ∙ ap (step sees doc) (sym (at_walk doc f phase)))
      (subst (λ (g : Read). IsFlight sees doc shown g) (sym (after now)) does.kept)
      (lent_now now all')
    where
      after : (new.phase ≡ Unpatch) ⊎ (new.phase ≡ Ready)
          → read_at (document_of store f) new ≡ flight_of new
      after (inl e) = at_walk (document_of store f) new e
      after (inr e) =
          ap (λ (p : Phase). read_in p new.row (document_of store f).row (flight_of new)) e

      lent_now : (new.phase ≡ Unpatch) ⊎ (new.phase ≡ Ready) → IsAllCopied new
          → IsLentIn new.phase store.lobs new
      lent_now (inl e) all = subst (λ (p : Phase). IsLentIn p store.lobs new) (sym e) all
      lent_now (inr e) all = subst (λ (p : Phase). IsLentIn p store.lobs new) (sym e) all

-- ---- any other phase

-- a phase in which nothing is done
abbrev pub IsStill : Phase → Type 0
IsStill Seek = ⊥
IsStill (Found n) = Unit {0}
IsStill Pieces = ⊥
IsStill Unpatch = ⊥
IsStill Ready = Unit {0}
IsStill Absent = Unit {0}

read_still : (p : Phase) (row : Option Row) (now : StoreRow) (g : Read) → IsStill p
    → read_in p row now g ≡ g
read_still Seek row now g still = absurd still
read_still (Found n) row now g still = refl
read_still Pieces row now g still = absurd still
read_still Unpatch row now g still = absurd still
read_still Ready row now g still = refl
read_still Absent row now g still = refl

step_still : (p : Phase) (sees : Sees) (doc : Document) (g : Read) → IsStill p
    → g.phase ≡ phase_of p → step sees doc g ≡ g
step_still Seek sees doc g still is = absurd still
step_still (Found n) sees doc g still is = rw is refl
step_still Pieces sees doc g still is = absurd still
step_still Unpatch sees doc g still is = absurd still
step_still Ready sees doc g still is = rw is refl
step_still Absent sees doc g still is = rw is refl

pub still_steps : {told : Option Pages} {pages : Pages} {store : Store} {dir : RowDir}
    {sees : Sees} {shown : Option (List Part)} {f : Flight}
    → IsUnderWay told pages store dir sees shown f → IsStill f.phase
    → StepsOn sees store shown f f
still_steps {store = store} {sees = sees} {shown = shown} {f = f} u still =
    let doc = document_of store f in
    let at : read_at doc f ≡ flight_of f =
    read_still f.phase f.row doc.row (flight_of f) still in
    let on : step sees doc (read_at doc f) ≡ flight_of f =
    ap (step sees doc) at ∙ step_still f.phase sees doc (flight_of f) still refl in
    steps_by sees store shown f f (sym on) u.flight u.lent
