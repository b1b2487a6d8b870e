-- A search that goes on along the versions of a piece.
--     IsAlong p v left node target      the search stands at this node, and what is left of it
--         finds the target
use Rattle.std.specs.Prelude.{◌≡◌, ℕ, List, ◌∷◌, ◌++◌}
use Rattle.page_model.specs.Pages.{Address}
use Rattle.store_data.specs.Store.{Version, Piece}
use Rattle.lob_model.specs.Pieces.{piece_versions}
use Rattle.lob_model.specs.Search.{Sought, sought}

pub record IsAlong (p : Piece) (v left : ℕ) (node : Address) (target : Sought) : Type 0 where
  pub seen : List Version
  pub x : Version
  pub rest : List Version
  pub cut : piece_versions p ≡ seen ++ x ∷ rest
  pub place : x.place ≡ node
  pub same : sought left v (x ∷ rest) ≡ target
