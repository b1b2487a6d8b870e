-- What a switch to the other region does to a file, and what a crash in it may leave. Nothing waits
-- for a flush.
use Rattle.std.specs.Prelude.{◌≡◌, ◌⊎◌, ℕ, ◌-◌, ◌≤◌, List, [], ◌∷◌, ◌++◌, length}
use Rattle.byteorder.specs.Endian.{big_bytes}
use Rattle.file_model.specs.declared.layout.Layout.{Layout}
use Rattle.file_model.specs.Sections.{live_place, region_place, wanted}
use Rattle.file_model.specs.Changes.{SameElsewhere, Range}
use Rattle.file_model.specs.Control.{live_of}
use Rattle.file_model.specs.Blocks.{log_end, log_of, start_in}
use Rattle.redo_log.specs.Logs.{LogState, IsLogOf, lsn_of}

abbrev pub other_region : ℕ → ℕ
other_region region = 1 - region

-- the log behind the switch
abbrev pub switched : LogState → LogState
switched s = record {
  layout = s.layout;
  region = other_region s.region;
  start = lsn_of
      s;
  used = 0;
  pending = [];
}

-- the beginning of a region without blocks: its start LSN, and a closed gate
abbrev pub region_head : ℕ → List ℕ
region_head start = big_bytes 8 start ++ 0 ∷ []

-- the live byte, and the other region's beginning
abbrev pub InSwitch : Layout → ℕ → ℕ → Type 0
InSwitch l region i = Range live_place 1 i ⊎ Range (region_place l (other_region region)) 9 i

-- the file in which a switch may begin
pub record MaySwitch (s : LogState) (file : List ℕ) : Type 0 where
  pub whole : wanted s.layout ≤ length file
  pub live : live_of file ≡ s.region

pub record IsSwitched (s : LogState) (file new : List ℕ) : Type 0 where
  pub live : live_of new ≡ other_region s.region
  pub empty : log_of s.layout (other_region s.region) new ≡ log_end
  pub ends : IsLogOf (switched s) new
  pub start : start_in s.layout (other_region s.region) new ≡ lsn_of s
  pub others : SameElsewhere (InSwitch s.layout s.region) file new

-- a crash leaves the region as it was, or the other one without a block
pub record MayBeSwitched (s : LogState) (file c : List ℕ) : Type 0 where
  pub choice : ((live_of c ≡ s.region)
      × (log_of s.layout s.region c ≡ log_of s.layout s.region file))
      ⊎ ((live_of c ≡ other_region s.region)
      × (log_of s.layout (other_region s.region) c ≡ log_end))
  pub others : SameElsewhere (InSwitch s.layout s.region) file c

abbrev pub Switching : LogState → List ℕ → List ℕ → Type 0
Switching s file new = MaySwitch s file → IsSwitched s file new

abbrev pub WhileSwitching : LogState → List ℕ → List ℕ → Type 0
WhileSwitching s file c = MaySwitch s file → MayBeSwitched s file c
