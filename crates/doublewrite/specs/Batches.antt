-- A batch in memory, as the area of the file has it from the count on: count 4, page numbers 4
-- each, and from byte 3,584 on the images.
use Rattle.std.specs.Prelude.{◌≡◌, ℕ, ◌+◌, ◌*◌, ◌≤◌, true, List, map, length}
use Rattle.std.specs.List.{range_with_len}
use Rattle.byteorder.specs.Endian.{big_number}
use Rattle.page_model.specs.Pages.{page_bytes}
use Rattle.file_model.specs.declared.layout.Layout.{Layout}
use Rattle.file_model.specs.Sections.{part, max_batch, IsInLimits}
use Rattle.file_model.specs.Doublewrite.{Batch, are_below}

pub record BatchState : Type 0 where
  pub layout : Layout
  pub batch : Batch

-- where the images begin
abbrev pub images_at : ℕ
images_at = 3_584

abbrev pub area_bytes : ℕ
area_bytes = 527_872

abbrev pub number_of : List ℕ → ℕ → ℕ
number_of buffer i = big_number 4 (part buffer (4 + 4 * i) 4)

abbrev pub image_of : List ℕ → ℕ → List ℕ
image_of buffer i = part buffer (images_at + page_bytes * i) page_bytes

-- the first so many pages of the buffer with their images
abbrev pub batch_of : ℕ → List ℕ → Batch
batch_of count buffer = map (λ i. (number_of buffer i, image_of buffer i)) (range_with_len 0 count)

pub record KeepsBatch (l : Layout) (count : ℕ) (buffer : List ℕ) : Type 0 where
  pub limits : IsInLimits l
  pub few : count ≤ max_batch
  pub head : big_number 4 (part buffer 0 4) ≡ count
  pub size : length buffer ≡ images_at + page_bytes * count
  pub below : are_below l.pages (batch_of count buffer) ≡ true
