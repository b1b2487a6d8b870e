-- The steps of a batch, as relations between files: at rest, armed, home.
--     IsAtRest, IsArmed, IsHome      what stands in a file in each state
--     Arms, MayArm      what arming does, and what a crash in it may leave
--     Homes, MayHome      the same of writing home
--     Rests, MayRest      the same of disarming
use Rattle.std.specs.Prelude.{◌≡◌, ◌⊎◌, ℕ, ◌-◌, ◌≤◌, true, false, List, map, length, slice_index}
use Rattle.std.specs.List.{range_with_len}
use Rattle.engine_base.specs.Disk.{Holds}
use Rattle.page_device.specs.Device.{SetsPage}
use Rattle.doublewrite.specs.Batches.{number_of}
use Rattle.file_model.specs.declared.layout.Layout.{Layout}
use Rattle.file_model.specs.Sections.{armed_place, count_place, logs_place, wanted}
use Rattle.file_model.specs.Changes.{SameElsewhere, Range}
use Rattle.file_model.specs.Doublewrite.{Batch, numbers, copied, is_odd, header_batch, armed, homes, image_in, batch_in, repaired, InPages}

-- no batch is armed
pub record IsAtRest (l : Layout) (file : List ℕ) : Type 0 where
  pub whole : wanted l ≤ length file
  pub even : is_odd (slice_index file armed_place) ≡ false

-- this batch is armed
pub record IsArmed (l : Layout) (batch : Batch) (file : List ℕ) : Type 0 where
  pub whole : wanted l ≤ length file
  pub odd : is_odd (slice_index file armed_place) ≡ true
  pub header : header_batch l file ≡ batch

-- and its pages are home
pub record IsHome (l : Layout) (batch : Batch) (file : List ℕ) : Type 0 where
  pub armed : IsArmed l batch file
  pub home : copied batch (homes l file) ≡ homes l file

-- the doublewrite header and the images
abbrev pub InArea : ℕ → Type 0
InArea = Range armed_place (logs_place - armed_place)

pub record Arms (l : Layout) (batch : Batch) (old new : List ℕ) : Type 0 where
  pub armed : IsArmed l batch new
  pub others : SameElsewhere InArea old new

-- a crash leaves the pages, without the batch's images or with all of them
pub record MayArm (l : Layout) (batch : Batch) (old c : List ℕ) : Type 0 where
  pub repairs : (repaired l c ≡ homes l old) ⊎ (repaired l c ≡ copied batch (homes l old))
  pub others : SameElsewhere InArea old c

pub record Homes (l : Layout) (batch : Batch) (old new : List ℕ) : Type 0 where
  pub is : IsHome l batch new
  pub home : homes l new ≡ copied batch (homes l old)
  pub others : SameElsewhere (InPages l (numbers batch)) old new

-- a crash leaves the pages with all of the batch's images
pub record MayHome (l : Layout) (batch : Batch) (old c : List ℕ) : Type 0 where
  pub repairs : repaired l c ≡ copied batch (homes l old)
  pub others : SameElsewhere (InPages l (numbers batch)) old c

pub record Rests (l : Layout) (old new : List ℕ) : Type 0 where
  pub at_rest : IsAtRest l new
  pub others : SameElsewhere (Range armed_place 1) old new

pub record MayRest (l : Layout) (old c : List ℕ) : Type 0 where
  pub repairs : repaired l c ≡ homes l old
  pub others : SameElsewhere (Range armed_place 1) old c

-- ---- each from the state in which it may begin

abbrev pub Arming : Layout → Batch → List ℕ → List ℕ → Type 0
Arming l batch old new = IsAtRest l old → Arms l batch old new

abbrev pub WhileArming : Layout → Batch → List ℕ → List ℕ → Type 0
WhileArming l batch old c = IsAtRest l old → MayArm l batch old c

abbrev pub Homing : Layout → Batch → List ℕ → List ℕ → Type 0
Homing l batch old new = IsArmed l batch old → Homes l batch old new

abbrev pub WhileHoming : Layout → Batch → List ℕ → List ℕ → Type 0
WhileHoming l batch old c = IsArmed l batch old → MayHome l batch old c

abbrev pub Resting : Layout → Batch → List ℕ → List ℕ → Type 0
Resting l batch old new = IsHome l batch old → Rests l old new

abbrev pub WhileResting : Layout → Batch → List ℕ → List ℕ → Type 0
WhileResting l batch old c = IsHome l batch old → MayRest l old c

-- ---- images that go home one after another

-- these images are home; nothing is synced yet
pub record CopiesHome (l : Layout) (ns : List ℕ) (batch : Batch) (old new : List ℕ) : Type 0 where
  pub home : homes l new ≡ copied batch (homes l old)
  pub others : SameElsewhere (InPages l ns) old new

abbrev pub Copying : Layout → List ℕ → Batch → List ℕ → List ℕ → Type 0
Copying l ns batch old new = wanted l ≤ length old → CopiesHome l ns batch old new

-- an outcome of a crash from before, with any bytes in these pages
abbrev pub MayCopy : (List ℕ → Type 0) → Layout → List ℕ → List ℕ → Type 0
MayCopy may_leave l ns c = (d : List ℕ) × may_leave d × SameElsewhere (InPages l ns) d c

-- ---- repair

-- the armed byte and the pages of the armed batch
abbrev pub InRepair : Layout → Batch → ℕ → Type 0
InRepair l batch i = Range armed_place 1 i ⊎ InPages l (numbers batch) i

pub record Repairs (l : Layout) (old new : List ℕ) : Type 0 where
  pub home : homes l new ≡ repaired l old
  pub at_rest : IsAtRest l new
  pub others : SameElsewhere (InRepair l (armed l old)) old new

pub record MayRepair (l : Layout) (old c : List ℕ) : Type 0 where
  pub repairs : repaired l c ≡ repaired l old
  pub others : SameElsewhere (InRepair l (armed l old)) old c

abbrev pub Repairing : Layout → List ℕ → List ℕ → Type 0
Repairing l old new = wanted l ≤ length old → Repairs l old new

abbrev pub WhileRepairing : Layout → List ℕ → List ℕ → Type 0
WhileRepairing l old c = wanted l ≤ length old → MayRepair l old c

-- ---- images that are copied from the area to their pages

-- the first so many pages that a header names, with the images in the file
abbrev pub headed : List ℕ → ℕ → List ℕ → Batch
headed header n file = map (λ i. (number_of header i, image_in file i)) (range_with_len 0 n)

abbrev pub headed_numbers : List ℕ → ℕ → List ℕ
headed_numbers header n = map (number_of header) (range_with_len 0 n)

abbrev pub CopyingHeaded : Layout → List ℕ → ℕ → ℕ → List ℕ → List ℕ → Type 0
CopyingHeaded l header count n old new = wanted l ≤ length old
    → CopiesHome l (headed_numbers header count) (headed header n old) old new

-- a page gets the image at that place of the area
abbrev pub CopiesImage : Layout → ℕ → ℕ → List ℕ → List ℕ → Type 0
CopiesImage l page i old new = SetsPage l page (image_in old i) old new

-- the file has this header, and it arms the first so many pages
pub record IsHeaded (l : Layout) (header : List ℕ) (count : ℕ) (file : List ℕ) : Type 0 where
  pub whole : wanted l ≤ length file
  pub odd : is_odd (slice_index file armed_place) ≡ true
  pub holds : Holds file count_place header
  pub batch : header_batch l file ≡ batch_in file count

abbrev pub Heading : Layout → List ℕ → ℕ → List ℕ → List ℕ → Type 0
Heading l header count old new = IsHeaded l header count old → Repairs l old new

abbrev pub WhileHeading : Layout → List ℕ → ℕ → List ℕ → List ℕ → Type 0
WhileHeading l header count old c = IsHeaded l header count old → MayRepair l old c
