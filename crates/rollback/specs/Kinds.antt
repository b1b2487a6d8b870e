-- What the events of a record's undoing ask of the store, by its kind.
--     CanFree page s      the record made the LOB there, whose pieces have one version each
--     CanLower last touched s      the record raised a LOB's version and made one of each touched
--         piece, each with one before it; once none is left, no entry is above the version before
--     CanPatch s runs      its old bytes lie in a LOB's data, on four pages at most
--     CanUndo last s      what is asked by the record's kind
--     IsHeadIn last s      where a version went, its piece's head stands at the place that is kept
use Rattle.std.specs.Prelude.{◌≡◌, ℕ, ◌+◌, ◌*◌, ◌≤◌, List, length, Option, Some, None}
use Rattle.page_model.specs.Steps.{different, write_head}
use Rattle.store_data.specs.Store.{live, Lob, Run, Body, inserted, rebuilt, versioned, patched, removed}
use Rattle.lob_model.specs.Pieces.{versions, AreFalling}
use Rattle.store_model.specs.Keeps.{Makes}
use Rattle.store_model.specs.Lobs.{lob_of}
use Rattle.store_pages.specs.Runs.{LieIn}
use Rattle.store_steps.specs.Lobs.{IsSingle}
use Rattle.store_steps.specs.declared.reached.Reached.{Reached}
use Rattle.store_steps.specs.Reached.{piece_in, IsHeadAt, AreBelow}
use Rattle.store_steps.specs.Touched.{next_touched}
use Rattle.rollback.specs.Versions.{CanPop}
use Rattle.rollback.specs.Standing.{Scene}
use Rattle.store_steps.specs.Runs.{run_pages}

pub record CanFree (page : ℕ) (s : Scene) : Type 0 where
  pub makes : Makes page s.undo.body
  pub lob : Lob
  pub found : lob_of s.store.lobs page ≡ Some lob
  pub single : IsSingle lob

pub record CanPatch (runs : List Run) (s : Scene) : Type 0 where
  pub body : s.undo.body ≡ patched runs
  pub before : s.undo.before.state ≡ live
  pub page : ℕ
  pub lob : Lob
  pub found : lob_of s.store.lobs page ≡ Some lob
  pub lie : LieIn runs (versions lob.pieces)
  pub few : different (run_pages runs) ≤ 4

pub record CanLower (last : Option Reached) (touched : List ℕ) (s : Scene) : Type 0 where
  pub pieces : ℕ
  pub body : s.undo.body ≡ versioned pieces touched
  pub lob : Lob
  pub found : lob_of s.store.lobs s.undo.before.lob.page ≡ Some lob
  pub head : IsHeadAt last lob
  pub below : AreBelow (length lob.pieces) touched
  pub older : (k : ℕ) → CanPop k s.undo.before.lob.version lob
  -- once no touched piece is left
  pub lowered : next_touched (piece_in last) touched ≡ None
      → AreFalling (s.undo.before.lob.version + 1) lob.pieces

abbrev pub CanUndoBy : Body → Option Reached → Scene → Type 0
CanUndoBy (inserted page) last s = CanFree page s
CanUndoBy (rebuilt page) last s = CanFree page s
CanUndoBy (versioned pieces touched) last s = CanLower last touched s
CanUndoBy (patched old) last s = CanPatch old s
CanUndoBy removed last s = Unit {0}

-- the place that is kept is that of its piece's head, in the LOB before the event
abbrev pub IsHeadIn : Option Reached → Scene → Type 0
IsHeadIn last s = (l : Lob) → lob_of s.store.lobs s.undo.before.lob.page ≡ Some l → IsHeadAt last l

abbrev pub CanUndo : Option Reached → Scene → Type 0
CanUndo last s = CanUndoBy s.undo.body last s

-- the bytes that the events write at most, with the heads of the writes
abbrev pub new_room : ℕ
new_room = (5 + 2 * write_head) + (47 + 12 * write_head)

abbrev pub patched_room : ℕ
patched_room = (100 + 100 * write_head) + (66 + 8 * write_head)

abbrev pub raised_room : ℕ
raised_room = 81 + 11 * write_head
