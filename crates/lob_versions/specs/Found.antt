-- What a search along the versions of a piece answers.
--     found_of      as plain data
--     IsSearch      a piece of a LOB stands there, with the version at which the search begins
use Rattle.std.specs.Prelude.{◌≡◌, List, ◌∷◌, ◌++◌, Option, Some}
use Rattle.page_model.specs.Pages.{Pages, Address}
use Rattle.engine_base.specs.Addresses.{address_of}
use Rattle.store_data.specs.Store.{Version, Piece, Lob}
use Rattle.lob_model.specs.Pieces.{piece_versions}
use Rattle.lob_model.specs.Search.{Sought, at, more, gone}
use Rattle.lob_model.specs.Lobs.{IsLob}
use Rattle.lob_versions.specs.declared.search.Found.{Found}
use Rattle.lob_versions.specs.declared.search.Found.TheVariants.{At, More, Gone}

abbrev pub found_of : Found → Sought
found_of (At a) = at (address_of a)
found_of (More a) = more (address_of a)
found_of Gone = gone

-- a piece of a LOB that is told stands at the head, the version x at `from`, and `rest` behind it
pub record IsSearch (told : Option Pages) (head from : Address) (pages : Pages) (lob : Lob)
    (p : Piece) (x : Version) (rest : List Version) : Type 0 where
  pub told' : told ≡ Some pages
  pub lob' : IsLob pages lob
  pub before : List Piece
  pub behind : List Piece
  pub pieces : lob.pieces ≡ before ++ p ∷ behind
  pub head' : p.head.place ≡ head
  pub seen : List Version
  pub cut : piece_versions p ≡ seen ++ x ∷ rest
  pub from' : x.place ≡ from
