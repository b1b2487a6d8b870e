-- The pages that an image stands for, and when nothing of it has to be passed over.
use Rattle.std.specs.Prelude.{◌≡◌, ℕ, ◌≤◌, true, false, List, [], ◌∷◌, slice_index}
use Rattle.page_model.specs.Pages.{Pages, page_at}
use Rattle.file_model.specs.declared.layout.Layout.{Layout}
use Rattle.file_model.specs.Sections.{armed_place, max_batch}
use Rattle.file_model.specs.Control.{live_of, opening, opens}
use Rattle.file_model.specs.Doublewrite.{Batch, repaired, is_odd, count_in, batch_in, are_below}
use Rattle.file_model.specs.Frames.{applied}
use Rattle.file_model.specs.Blocks.{log_of}

-- The armed images are copied home, and the groups of the live region's open blocks, up to the
-- log's end, are applied in order.
abbrev pub recovered : Layout → List ℕ → Pages
recovered l image = applied (log_of l (live_of image) image).groups (repaired l image)

-- the image is opened with this layout, its log doesn't end early, and an armed header counts
pub record IsWell (l : Layout) (image : List ℕ) : Type 0 where
  pub opened : opening image ≡ opens l
  pub ends : (log_of l (live_of image) image).early ≡ false
  pub few : is_odd (slice_index image armed_place) ≡ true → count_in image ≤ max_batch
  pub below : is_odd (slice_index image armed_place) ≡ true
      → are_below l.pages (batch_in image (count_in image)) ≡ true

-- the images of a batch are its pages in these
abbrev pub AreFinal : Batch → Pages → Type 0
AreFinal [] pages = Unit {0}
AreFinal (b ∷ batch) pages = (b.1 ≡ page_at pages b.0) × AreFinal batch pages
