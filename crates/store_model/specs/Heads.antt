-- Where the heads of a LOB's pieces stand: what a reader keeps of a LOB between two events.
--     head_places      the place of each piece's head
--     AreFirst      one of two lists of places begins with the other
--     KeepHeads old new      a LOB that stands before and behind has its heads where they were;
--         pieces come and go at its end alone
use Rattle.std.specs.Prelude.{◌≡◌, ℕ, List, [], ◌∷◌, Some}
use Rattle.page_model.specs.Pages.{Address}
use Rattle.store_data.specs.Store.{Piece, Lob}
use Rattle.store_model.specs.Lobs.{lob_of}

abbrev pub head_places : List Piece → List Address
head_places [] = []
head_places (p ∷ ps) = p.head.place ∷ head_places ps

abbrev pub AreFirst : List Address → List Address → Type 0
AreFirst [] ys = Unit {0}
AreFirst (a ∷ xs) [] = Unit {0}
AreFirst (a ∷ xs) (b ∷ ys) = (b ≡ a) × AreFirst xs ys

abbrev pub KeepHeads : List Lob → List Lob → Type 0
KeepHeads old new =
    (page : ℕ) (l m : Lob) → lob_of old page ≡ Some l → lob_of new page ≡ Some m
    → AreFirst (head_places l.pieces) (head_places m.pieces)
