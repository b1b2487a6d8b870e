-- Runs of bytes that are written in place.
--     writes_of runs      the writes, the first run first
--     IsInside r x      where the version's data stand in the run's page, the run lies within them
--     LieIn runs xs      each run has a byte, and lies within the data of one of these versions
use Rattle.std.specs.Prelude.{◌≡◌, ◌⊎◌, ◌+◌, ◌≤◌, List, [], ◌∷◌, map, length}
use Rattle.page_model.specs.Pages.{Write}
use Rattle.page_model.specs.Frames.{write}
use Rattle.store_data.specs.Store.{Version, Run}

abbrev pub write_of : Run → Write
write_of r = write r.page r.at r.bytes

abbrev pub writes_of : List Run → List Write
writes_of = map write_of

abbrev pub IsInside : Run → Version → Type 0
IsInside r x =
    x.page ≡ r.page → (x.at ≤ r.at) × (r.at + length r.bytes ≤ x.at + length x.bytes)

abbrev pub AreInside : Run → List Version → Type 0
AreInside r [] = Unit {0}
AreInside r (x ∷ xs) = IsInside r x × AreInside r xs

-- the data of one of them stand in the run's page
abbrev pub IsOn : Run → List Version → Type 0
IsOn r [] = ⊥
IsOn r (x ∷ xs) = (x.page ≡ r.page) ⊎ IsOn r xs

pub record LiesIn (r : Run) (xs : List Version) : Type 0 where
  pub some : 1 ≤ length r.bytes
  pub on : IsOn r xs
  pub inside : AreInside r xs

abbrev pub LieIn : List Run → List Version → Type 0
LieIn [] xs = Unit {0}
LieIn (r ∷ rs) xs = LiesIn r xs × LieIn rs xs
