-- The events of the undoing of an active log, as plain data.
--     Event      one of them
--     due_for      the event that is due for a record, where the version of the touched piece `at`
--         went last
use Rattle.std.specs.Prelude.{ℕ, List, [], ◌∷◌, Option, Some, None}
use Rattle.store_data.specs.Store.{Row, Piece, Lob, Body, inserted, rebuilt, versioned, patched, removed}
use Rattle.store_model.specs.Lobs.{lob_of}
use Rattle.store_steps.specs.Touched.{next_touched}

pub data Event : Type 0 where
  -- of a LOB the last piece goes, or the index page that was made last
  frees : (page : ℕ) → Event
  frees_index : (page : ℕ) → Event
  -- of the k-th piece of a LOB the newest version goes, where it is the one behind version v
  pops : (page k v : ℕ) → Event
  -- the record's last event
  ends : Event

-- a LOB goes from its last piece on, then its index pages
abbrev pub freeing : ℕ → List Piece → List ℕ → Event
freeing page [] [] = ends
freeing page [] (i ∷ is) = frees_index page
freeing page (p ∷ ps) index = frees page

abbrev pub freeing_lob : ℕ → Option Lob → Event
freeing_lob page None = ends
freeing_lob page (Some l) = freeing page l.pieces l.index

abbrev pub popping : ℕ → ℕ → Option ℕ → Event
popping page v None = ends
popping page v (Some k) = pops page k v

abbrev pub due_for : Body → Row → List Lob → Option ℕ → Event
due_for (inserted page) before lobs at = freeing_lob page (lob_of lobs page)
due_for (rebuilt page) before lobs at = freeing_lob page (lob_of lobs page)
due_for (versioned pieces touched) before lobs at =
    popping before.lob.page before.lob.version (next_touched at touched)
due_for (patched old) before lobs at = ends
due_for removed before lobs at = ends
