-- A purge under way, between two events.
--     IsHeadIn      where a version went, its piece's head stands in the LOB before a record at the
--         place that is kept
--     AllDue      of the record that is due, if any
--     CanPurge      what purging a record asks of the LOB before it
--     IsJob      the pages are a consistent store, whose first committed log is the job's
use Rattle.std.specs.Prelude.{◌≡◌, ℕ, List, [], ◌∷◌, length, Option, Some}
use Rattle.page_model.specs.Pages.{Pages, Address}
use Rattle.store_data.specs.Store.{Lob, versioned, Record, Log, Store}
use Rattle.undo_model.specs.Rows.{RowPage}
use Rattle.store_model.specs.Consistent.{IsConsistent}
use Rattle.store_model.specs.Lobs.{lob_of}
use Rattle.store_model.specs.Steps.{last_in}
use Rattle.store_model.specs.Keeps.{Frees}
use Rattle.store_steps.specs.declared.reached.Reached.{Reached}
use Rattle.store_steps.specs.Reached.{IsHeadAt, AreBelow}
use Rattle.purge.specs.declared.job.Purging.{Purging}
use Rattle.store_steps.specs.Lobs.{IsSingle}
use Rattle.purge.specs.Standing.{IsAt}

abbrev pub AllDue : (Record → Type 0) → List (Address × Record) → Type 0
AllDue P [] = Unit {0}
AllDue P (u ∷ us) = P u.1

-- in each LOB of the store that is the one before the record
abbrev pub IsHeadIn : Option Reached → List Lob → Record → Type 0
IsHeadIn last lobs u =
    (m : Lob) → lob_of lobs u.before.lob.page ≡ Some m → IsHeadAt last m

-- where the purge frees the LOB, its pieces have one version each; the touched pieces are pieces of
-- it; and the place that the job keeps is that of its piece's head
pub record CanPurge (last : Option Reached) (lobs : List Lob) (u : Record) : Type 0 where
  pub single : Frees u.body → (m : Lob) → lob_of lobs u.before.lob.page ≡ Some m → IsSingle m
  pub touched : (pieces : ℕ) (ks : List ℕ) → u.body ≡ versioned pieces ks → (m : Lob)
      → lob_of lobs u.before.lob.page ≡ Some m
      → AreBelow (length m.pieces) ks × IsHeadAt last m

pub record IsJob (told : Option Pages) (job : Purging) (there : List RowPage) (pages : Pages)
    (store : Store) (l : Log) (ls : List Log) : Type 0 where
  pub at : IsAt told job.log.0 there pages store l ls
  pub consistent : IsConsistent store
  pub can : AllDue (CanPurge job.dropped store.lobs) (last_in l.records)
