-- The buffer of a read, cut into its pieces: the first has 15,680 bytes, each further one 16,327,
-- the last what is left.
--     parts_in      the buffer's pieces as parts, each with the page that it came from
--     left_in      what lies behind as many pieces
use Rattle.std.specs.Prelude.{ℕ, List, [], ◌∷◌, take, drop, ◌==◌, if◌then◌else◌}
use Rattle.store_data.specs.Pieces.{Part}

-- where a piece's data begin: in the LOB's first page, or in a data page
abbrev pub data_at : ℕ → ℕ → ℕ
data_at lob page = if page == lob then 696 else 49

abbrev pub cut : ℕ → ℕ → List ℕ → List ℕ → List Part
cut lob size [] buffer = []
cut lob size (page ∷ pages) buffer =
    record { page = page; at = data_at lob page; bytes = take size buffer } ∷ cut lob 16_327 pages
    (drop size buffer)

abbrev pub parts_in : ℕ → List ℕ → List ℕ → List Part
parts_in lob from buffer = cut lob 15_680 from buffer

abbrev pub left_behind : ℕ → List ℕ → List ℕ → List ℕ
left_behind size [] buffer = buffer
left_behind size (page ∷ pages) buffer = left_behind 16_327 pages (drop size buffer)

abbrev pub left_in : List ℕ → List ℕ → List ℕ
left_in from buffer = left_behind 15_680 from buffer
