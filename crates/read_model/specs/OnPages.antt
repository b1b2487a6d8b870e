-- Parts as they stand in pages, and runs as writes.
--     part_in      so many bytes of a page
--     writes_of, AllInPages      runs written one after the other; each lies within its page
use Rattle.std.specs.Prelude.{ℕ, List, [], ◌∷◌, map, length}
use Rattle.page_model.specs.Pages.{Pages, Write, Fits, bytes_at}
use Rattle.store_data.specs.Pieces.{Part}
use Rattle.store_data.specs.Store.{Run}

abbrev pub part_in : Pages → ℕ → ℕ → ℕ → Part
part_in pages page at n = record { page = page; at = at; bytes = bytes_at pages page at n }

abbrev pub write_of : Run → Write
write_of r = record { page = r.page; at = r.at; bytes = r.bytes }

abbrev pub writes_of : List Run → List Write
writes_of rs = map write_of rs

abbrev pub AllInPages : List Run → Pages → Type 0
AllInPages [] pages = Unit {0}
AllInPages (r ∷ rs) pages = Fits pages r.page r.at (length r.bytes) × AllInPages rs pages
