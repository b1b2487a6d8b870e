-- A LOB that goes, part by part.
--     left_in, has_part      what it still has beside its first page
--     IsSingle      each piece has one version, and no node is free behind the last piece
--     FreesPart      what freeing the next part leaves
use Rattle.std.specs.Prelude.{◌≡◌, ℕ, Bool, true, false, List, [], ◌∷◌}
use Rattle.page_model.specs.Pages.{Pages, Address}
use Rattle.store_data.specs.Store.{Piece, Lob, Store}
use Rattle.lob_model.specs.Begin.{HaveNoOlder}
use Rattle.undo_model.specs.Rows.{RowPage}
use Rattle.store_model.specs.Steps.{without_piece, without_index}
use Rattle.store_model.specs.Undo.{piece_freed, index_freed}
use Rattle.store_steps.specs.declared.lob.Left.{Left}
use Rattle.store_steps.specs.declared.lob.Left.TheVariants.{Pieces, Index, Nothing}
use Rattle.store_steps.specs.Standing.{StandsOn}

abbrev pub left_in : List Piece → List ℕ → Left
left_in [] [] = Nothing
left_in [] (i ∷ is) = Index
left_in (p ∷ ps) index = Pieces

abbrev pub has_part : List Piece → List ℕ → Bool
has_part [] [] = false
has_part [] (i ∷ is) = true
has_part (p ∷ ps) index = true

pub record IsSingle (l : Lob) : Type 0 where
  pub older : HaveNoOlder l.pieces
  pub bare : l.pieces ≡ [] → l.free ≡ []

abbrev pub freed_part : ℕ → List Address → List Piece → List ℕ → Store → Store
freed_part page free [] [] store = store
freed_part page free [] (i ∷ is) store = index_freed page store
freed_part page free (p ∷ ps) index store = piece_freed page free store

abbrev pub freed_lob : List Address → List Piece → List ℕ → Lob → Lob
freed_lob free [] [] l = l
freed_lob free [] (i ∷ is) l = without_index l
freed_lob free (p ∷ ps) index l = record (without_piece l) { free = free }

-- and so it may go on
pub record FreesPart (there : List RowPage) (page : ℕ) (l : Lob) (store : Store)
    (new : Pages) : Type 0 where
  pub free : List Address
  pub stands : StandsOn there new (freed_part page free l.pieces l.index store)
  pub single : IsSingle (freed_lob free l.pieces l.index l)
