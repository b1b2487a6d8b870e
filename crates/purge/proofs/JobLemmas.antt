-- A purge, event by event.
use Rattle.std.proofs.Common.{◌≡◌, ◌≢◌, ℕ, ◌==◌, true, false, List, [], ◌∷◌, Option, Some, None, refl, sym, ap, subst, ◌∙◌}
use Rattle.page_model.specs.Pages.{Pages, Address}
use Rattle.store_data.specs.Store.{LogState, active, committed, purging, Row, Piece, Lob, Body, inserted, rebuilt, versioned, patched, removed, Record, Log, Store}
use Rattle.undo_model.specs.Logs.{state_number}
use Rattle.undo_model.specs.Rows.{RowPage}
use Rattle.store_model.specs.Lobs.{lob_of}
use Rattle.store_model.specs.Steps.{last_in}
use Rattle.row_dir.specs.declared.dir.RowDir.{RowDir}
use Rattle.row_dir.specs.Directory.{IsDirectory}
use Rattle.purge.specs.declared.job.Purging.{Purging}
use Rattle.store_steps.specs.Touched.{next_touched}
use Rattle.purge.specs.Events.{Event, begins, passes, dropping, freeing, freeing_lob, due_for, due_page, due_record, due_in, due_first, due, made, behind, goes_on}
use Rattle.purge.specs.Job.{AllDue, IsHeadIn, IsJob}
use Rattle.purge.specs.Made.{Made}
use Rattle.store_steps.specs.Standing.{StandsOn}
use Rattle.purge.proofs.KindLemmas.{at_next}

-- ---- the state of the log

pub begun_is : (s : LogState) → (state_number s == 3) ≡ true → s ≡ purging
begun_is active is = absurd (let e : false ≡ true = is in cc)
begun_is committed is = absurd (let e : false ≡ true = is in cc)
begun_is purging is = refl

pub not_begun : (s : LogState) → s ≢ active → (state_number s == 3) ≡ false → s ≡ committed
not_begun active not is = absurd (not refl)
not_begun committed not is = refl
not_begun purging not is = absurd (let e : true ≡ false = is in cc)

-- ---- the event that is due

pub due_is : (store : Store) (at : Option ℕ) (l : Log) (ls : List Log) (s : LogState)
    → store.committed ≡ l ∷ ls → l.state ≡ s
    → due store at ≡ due_in s (due_record l store.lobs at (last_in l.records))
due_is store at l ls s first state =
    ap (λ (ms : List Log). due_first ms store.lobs at) first
    ∙ ap (λ (t : LogState). due_in t (due_record l store.lobs at (last_in l.records))) state

freeing_on : (page : ℕ) (a : Address) (t : ℕ) (u : Record) (ps : List Piece) (is : List ℕ)
    → goes_on (freeing page (passes a t u) ps is) ≡ true
freeing_on page a t u [] [] = refl
freeing_on page a t u [] (i ∷ more) = refl
freeing_on page a t u (p ∷ more) is = refl

lob_on : (page : ℕ) (a : Address) (t : ℕ) (u : Record) (o : Option Lob)
    → goes_on (freeing_lob page (passes a t u) o) ≡ true
lob_on page a t u None = refl
lob_on page a t u (Some m) = freeing_on page a t u m.pieces m.index

drop_on : (page v : ℕ) (a : Address) (t : ℕ) (u : Record) (o : Option ℕ)
    → goes_on (dropping page v (passes a t u) o) ≡ true
drop_on page v a t u None = refl
drop_on page v a t u (Some k) = refl

-- behind an event of a record another is left
pub record_on : (b : Body) (before : Row) (lobs : List Lob) (at : Option ℕ) (a : Address) (t : ℕ)
    (u : Record) → goes_on (due_for b before lobs at (passes a t u)) ≡ true
record_on (inserted page) before lobs at a t u = refl
record_on (rebuilt page) before lobs at a t u =
    lob_on before.lob.page a t u (lob_of lobs before.lob.page)
record_on (versioned n ks) before lobs at a t u =
    drop_on before.lob.page before.lob.version a t u (next_touched at ks)
record_on (patched old) before lobs at a t u = refl
record_on removed before lobs at a t u =
    lob_on before.lob.page a t u (lob_of lobs before.lob.page)

-- ---- behind the last record

pub last_none : {A : Type 0} (xs : List A) → last_in xs ≡ [] → xs ≡ []
last_none [] is = refl
last_none (x ∷ []) is = absurd (let e : x ∷ [] ≡ [] = is in cc)
last_none (x ∷ y ∷ ys) is = absurd (let e : y ∷ ys ≡ [] = last_none (y ∷ ys) is in cc)

pub page_made : (ps : List ℕ) (dir : RowDir) (store : Store) (there : List RowPage) (new : Pages)
    → StandsOn there new (made (due_page ps) [] [] store) → IsDirectory dir there
    → Made (due_page ps) dir store new
page_made [] dir store there new on is =
    record { free = []; there = there; stands = on; directory = is; bare = tt }
page_made (n ∷ []) dir store there new on is =
    record { free = []; there = there; stands = on; directory = is; bare = tt }
page_made (n ∷ m ∷ more) dir store there new on is =
    record { free = []; there = there; stands = on; directory = is; bare = tt }

pub page_ends : (ps : List ℕ) → (let o : Option ℕ = None in o) ≡ behind (due_page ps)
page_ends [] = refl
page_ends (n ∷ []) = refl
page_ends (n ∷ m ∷ more) = refl

-- ---- the job behind a read

pub job_next : (told now : Option Pages) (job : Purging) (there : List RowPage) (pages : Pages)
    (store : Store) (l : Log) (ls : List Log) → IsJob told job there pages store l ls
    → now ≡ told → IsJob now job there pages store l ls
job_next told now job there pages store l ls j same = record {
  at = at_next told now job.log.0 there there pages pages store store l ls j.at
      (let at = j.at in same ∙ at.told') (let at = j.at in at.stands) refl refl;
  consistent = j.consistent;
  can = j.can;
}

pub begin_made : (dir : RowDir) (store : Store) (there : List RowPage) (new : Pages)
    → StandsOn there new (made begins [] [] store) → IsDirectory dir there
    → Made begins dir store new
begin_made dir store there new on is =
    record { free = []; there = there; stands = on; directory = is; bare = tt }

-- the same event
pub made_on : (e f : Event) (dir : RowDir) (store : Store) (new : Pages) → f ≡ e
    → Made e dir store new → Made f dir store new
made_on e f dir store new same m = subst (λ (x : Event). Made x dir store new) (sym same) m

-- where no version went last, no head is kept
pub none_kept : (lobs : List Lob) (es : List (Address × Record)) → AllDue (IsHeadIn None lobs) es
none_kept lobs [] = tt
none_kept lobs (u ∷ us) = λ m found. tt
