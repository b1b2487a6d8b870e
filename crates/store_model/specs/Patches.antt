-- Changes in place, record by record, on one part.
--     AreOld runs v      the runs have what stands in the part, those of its page
--     IsOffAll runs page place      no run covers that place of that page
--     AreMade records v bytes      these bytes come from the part by the records' changes, the
--         newest first
use Rattle.std.specs.Prelude.{◌≡◌, ◌≢◌, ◌⊎◌, ℕ, ◌+◌, ◌-◌, ◌<◌, ◌≤◌, List, [], ◌∷◌, length, get_or}
use Rattle.store_data.specs.Pieces.{Part}
use Rattle.store_data.specs.Store.{Run, Record}
use Rattle.store_model.specs.Runs.{old_runs}

-- a run lies within the data, and has what stands there
pub record IsOld (r : Run) (v : Part) : Type 0 where
  pub low : v.at ≤ r.at
  pub high : r.at + length r.bytes ≤ v.at + length v.bytes
  pub same : (i : ℕ) → i < length r.bytes → get_or r.bytes i 0 ≡ get_or v.bytes (r.at + i - v.at) 0

abbrev pub AreOld : List Run → Part → Type 0
AreOld [] v = Unit {0}
AreOld (r ∷ rs) v = (v.page ≡ r.page → IsOld r v) × AreOld rs v

-- the run doesn't cover that place of that page
abbrev pub IsOff : Run → ℕ → ℕ → Type 0
IsOff r page place = (page ≢ r.page) ⊎ ((place < r.at) ⊎ (r.at + length r.bytes ≤ place))

abbrev pub IsOffAll : List Run → ℕ → ℕ → Type 0
IsOffAll [] page place = Unit {0}
IsOffAll (r ∷ rs) page place = IsOff r page place × IsOffAll rs page place

abbrev pub with_bytes : List ℕ → Part → Part
with_bytes bytes v = record v { bytes = bytes }

-- other data, the same where no run is
pub record IsEdit (rs : List Run) (v : Part) (bytes : List ℕ) : Type 0 where
  pub many : length bytes ≡ length v.bytes
  pub old : AreOld rs v
  pub rest : (i : ℕ) → i < length v.bytes → IsOffAll rs v.page (v.at + i)
      → get_or bytes i 0 ≡ get_or v.bytes i 0

abbrev pub AreMade : List Record → Part → List ℕ → Type 0
AreMade [] v bytes = bytes ≡ v.bytes
AreMade (u ∷ us) v bytes =
    (before : List ℕ) × AreMade us v before × IsEdit (old_runs u.body) (with_bytes before v) bytes

-- no run of the records covers that place of that page
abbrev pub IsOffRecords : List Record → ℕ → ℕ → Type 0
IsOffRecords [] page place = Unit {0}
IsOffRecords (u ∷ us) page place =
    IsOffAll (old_runs u.body) page place × IsOffRecords us page place

-- as many bytes, the same where no record has a run: what is copied from the page at any moment
-- between the records, or mixed of such
pub record IsMixed (us : List Record) (v : Part) (bytes : List ℕ) : Type 0 where
  pub many : length bytes ≡ length v.bytes
  pub rest : (i : ℕ) → i < length v.bytes → IsOffRecords us v.page (v.at + i)
      → get_or bytes i 0 ≡ get_or v.bytes i 0
