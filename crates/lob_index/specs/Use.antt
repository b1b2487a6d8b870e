-- Pages that become used, and pages that become free.
--     AreUsed pages ns      page 0 and these are used, and page 0 isn't among them
--     TakesPages, GivesPages ns old new      these became used, the lowest free ones; these became
--         free; and no other page
use Rattle.std.specs.Prelude.{◌≡◌, ℕ, ◌+◌, ◌<◌, ◌≤◌, List, length}
use Rattle.page_model.specs.Pages.{Pages}
use Rattle.page_model.specs.Counts.{times}
use Rattle.page_space.specs.Map.{IsMap, IsUsed, IsFree, bit, free_of}

pub record AreUsed (pages : Pages) (ns : List ℕ) : Type 0 where
  pub system : IsUsed pages 0
  pub other : times 0 ns ≡ 0
  pub each : (n : ℕ) → 1 ≤ times n ns → IsUsed pages n

pub record TakesPages (ns : List ℕ) (old new : Pages) : Type 0 where
  pub there : (n : ℕ) → 1 ≤ times n ns → n < length old
  pub free : (n : ℕ) → 1 ≤ times n ns → IsFree old n
  pub used : (n : ℕ) → 1 ≤ times n ns → IsUsed new n
  -- a free page below one of them is one of them
  pub lowest : (n k : ℕ) → 1 ≤ times n ns → k < n → IsFree old k → 1 ≤ times k ns
  pub others : (n : ℕ) → times n ns ≡ 0 → bit new n ≡ bit old n
  pub fewer : free_of new + length ns ≡ free_of old
  pub map : IsMap new

pub record GivesPages (ns : List ℕ) (old new : Pages) : Type 0 where
  pub used : (n : ℕ) → 1 ≤ times n ns → IsUsed old n
  pub free : (n : ℕ) → 1 ≤ times n ns → IsFree new n
  pub others : (n : ℕ) → times n ns ≡ 0 → bit new n ≡ bit old n
  pub more : free_of new ≡ free_of old + length ns
  pub map : IsMap new
