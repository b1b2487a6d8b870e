-- The doublewrite area: a header that names the pages of a batch, and their images; and the pages
-- with an armed batch copied home.
use Rattle.std.specs.Prelude.{◌≡◌, ◌⊎◌, ℕ, ◌+◌, ◌*◌, ◌%◌, Bool, ◌&&◌, List, [], ◌∷◌, map, length, slice_index, slice_set, ◌==◌, nat_lt, nat_le, if◌then◌else◌}
use Rattle.std.specs.List.{range_with_len, list_all}
use Rattle.byteorder.specs.Endian.{big_number}
use Rattle.page_model.specs.Pages.{Pages, page_bytes, page_at}
use Rattle.file_model.specs.declared.layout.Layout.{Layout}
use Rattle.file_model.specs.Changes.{Range}
use Rattle.file_model.specs.Sections.{part, armed_place, count_place, image_place, max_batch, page_place}

abbrev pub is_odd : ℕ → Bool
is_odd n = n % 2 == 1

-- ---- a batch

-- pages with their images, in the order of the header
abbrev pub Batch : Type 0
Batch = List (ℕ × List ℕ)

abbrev pub numbers : Batch → List ℕ
numbers batch = map (λ b. b.0) batch

abbrev pub images : Batch → List (List ℕ)
images batch = map (λ b. b.1) batch

-- the pages with a batch copied home, the first image first
abbrev pub copied : Batch → Pages → Pages
copied [] pages = pages
copied (b ∷ batch) pages = copied batch (slice_set pages b.0 b.1)

-- one of these pages
abbrev pub IsNamed : List ℕ → ℕ → Type 0
IsNamed [] n = ⊥
IsNamed (m ∷ ms) n = (n ≡ m) ⊎ IsNamed ms n

-- as many pages, each the same but these
pub record SameButPages (ns : List ℕ) (old new : Pages) : Type 0 where
  pub many : length new ≡ length old
  pub each : (n : ℕ) → ¬ (IsNamed ns n) → page_at new n ≡ page_at old n

-- ---- what a file holds

abbrev pub count_in : List ℕ → ℕ
count_in file = big_number 4 (part file count_place 4)

abbrev pub number_in : List ℕ → ℕ → ℕ
number_in file i = big_number 4 (part file (count_place + 4 + 4 * i) 4)

abbrev pub image_in : List ℕ → ℕ → List ℕ
image_in file i = part file (image_place i) page_bytes

-- the first so many pages that the header names, with their images
abbrev pub batch_in : List ℕ → ℕ → Batch
batch_in file n = map (λ i. (number_in file i, image_in file i)) (range_with_len 0 n)

abbrev pub are_below : ℕ → Batch → Bool
are_below pages batch = list_all (λ b. nat_lt b.0 pages) batch

-- The batch of a header. One whose count is over 32, or that names a page which the store doesn't
-- have, counts for nothing.
unfoldable pub header_batch : Layout → List ℕ → Batch
header_batch l file = if nat_le (count_in file) max_batch
    && are_below l.pages (batch_in file (count_in file)) then batch_in file (count_in file) else []

-- the batch that is armed
abbrev pub armed : Layout → List ℕ → Batch
armed l file = if is_odd (slice_index file armed_place) then header_batch l file else []

-- the pages at their places
unfoldable pub homes : Layout → List ℕ → Pages
homes l file = map (λ n. part file (page_place l n) page_bytes) (range_with_len 0 l.pages)

-- the places of these pages
abbrev pub InPages : Layout → List ℕ → ℕ → Type 0
InPages l ns i = (n : ℕ) × IsNamed ns n × Range (page_place l n) page_bytes i

-- the pages behind the copying of the armed images
abbrev pub repaired : Layout → List ℕ → Pages
repaired l file = copied (armed l file) (homes l file)
