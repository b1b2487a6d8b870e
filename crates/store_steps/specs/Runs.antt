-- Runs of bytes that a change in place writes, or its undoing.
--     run_pages      the page of each
--     laid_room      the bytes of their writes, with the heads of these
use Rattle.std.specs.Prelude.{ℕ, ◌+◌, List, [], ◌∷◌, length}
use Rattle.page_model.specs.Steps.{write_head}
use Rattle.store_data.specs.Store.{Run}

abbrev pub run_pages : List Run → List ℕ
run_pages [] = []
run_pages (r ∷ rs) = r.page ∷ run_pages rs

abbrev pub laid_room : List Run → ℕ
laid_room [] = 0
laid_room (r ∷ rs) = (length r.bytes + write_head) + laid_room rs
