-- The steps in which a version is pushed in a LOB of a store.
use Rattle.std.specs.Prelude.{◌≡◌, List, [], ◌∷◌, ◌++◌}
use Rattle.page_model.specs.Pages.{Pages, Address}
use Rattle.page_model.specs.Spans.{SameOutside}
use Rattle.page_space.specs.Map.{TakesPage}
use Rattle.store_data.specs.Store.{Version, Piece, Lob}
use Rattle.lob_model.specs.Places.{entry_span, whole_page}
use Rattle.lob_model.specs.Lobs.{lob_spans}
use Rattle.lob_model.specs.Changes.{Pushing}

-- a free node is taken, then a page; both are filled; and the version is pushed
pub record Pushes (l : Lob) (x : Version) (node : Address) (rest : List Address) (bs : List Piece)
    (p : Piece) (cs : List Piece) (old new : Pages) : Type 0 where
  pub loose : Pages
  pub grown : Pages
  pub filled : Pages
  pub free : l.free ≡ node ∷ rest
  pub pieces : l.pieces ≡ bs ++ p ∷ cs
  pub loosens : SameOutside (lob_spans l) old loose
  pub takes : TakesPage x.page loose grown
  pub fills : SameOutside (entry_span node ∷ whole_page x.page ∷ []) grown filled
  pub pushing : Pushing filled new (record l { free = rest }) bs p cs x node
