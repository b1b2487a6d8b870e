-- What calls of the device do to a file.
--     SetsLive, MaySetLive      the live region is set; what a crash may leave meanwhile
--     SetsPage, MaySetPage      a page is written at its place, and isn't synced yet
use Rattle.std.specs.Prelude.{◌≡◌, ℕ, List}
use Rattle.page_model.specs.Pages.{page_bytes}
use Rattle.file_model.specs.declared.layout.Layout.{Layout}
use Rattle.file_model.specs.Sections.{part, live_place, page_place}
use Rattle.file_model.specs.Control.{live_of}
use Rattle.file_model.specs.Changes.{SameElsewhere, Range}

abbrev pub MaySetLive : List ℕ → List ℕ → Type 0
MaySetLive old new = SameElsewhere (Range live_place 1) old new

pub record SetsLive (region : ℕ) (old new : List ℕ) : Type 0 where
  pub live : live_of new ≡ region
  pub others : MaySetLive old new

abbrev pub MaySetPage : Layout → ℕ → List ℕ → List ℕ → Type 0
MaySetPage l page old new = SameElsewhere (Range (page_place l page) page_bytes) old new

pub record SetsPage (l : Layout) (page : ℕ) (bytes old new : List ℕ) : Type 0 where
  pub here : part new (page_place l page) page_bytes ≡ bytes
  pub others : MaySetPage l page old new
