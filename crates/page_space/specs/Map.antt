-- The map of used pages and the count of free ones, in page 0.
--     bit pages k      1 where page k is used
--     zeros pages n      how many pages below n aren't
--     IsMap      the count is the number of free pages, and no page is used past the last
--     SetsBit, TakesPage, GivesPage      what marking, taking and giving back a page changes
use Rattle.std.specs.Prelude.{◌≡◌, ◌≢◌, ℕ, zero, suc, ◌+◌, ◌-◌, ◌/◌, ◌%◌, ◌<◌, ◌≤◌, List, [], ◌∷◌, length, Option, Some}
use Rattle.std.specs.Int.{bit_at}
use Rattle.page_model.specs.Pages.{Pages, byte, field}
use Rattle.page_model.specs.Spans.{Span, span, SameOutside}
use Rattle.page_space.specs.declared.layout.TheConstants.{FREE_PAGES, MAP, MAP_BYTES}

-- as many pages as the map has bits for
abbrev pub max_pages : ℕ
max_pages = 32_768

-- a store has a system page, and no more pages than the map has bits for
pub record IsSize (count : ℕ) : Type 0 where
  pub some : 1 ≤ count
  pub few : count ≤ max_pages

-- the byte of the map in which page k has its bit
abbrev pub place_of : ℕ → ℕ
place_of k = MAP + k / 8

abbrev pub bit : Pages → ℕ → ℕ
bit pages k = bit_at (byte pages 0 (place_of k)) (k % 8)

abbrev pub IsUsed : Pages → ℕ → Type 0
IsUsed pages k = bit pages k ≡ 1

abbrev pub IsFree : Pages → ℕ → Type 0
IsFree pages k = bit pages k ≡ 0

unfoldable pub zeros : Pages → ℕ → ℕ
zeros pages zero = 0
zeros pages (suc n) = zeros pages n + (1 - bit pages n)

-- the count of free pages
abbrev pub free_of : Pages → ℕ
free_of pages = field pages 0 FREE_PAGES 4

pub record IsMap (pages : Pages) : Type 0 where
  pub size : IsSize (length pages)
  pub count : free_of pages ≡ zeros pages (length pages)
  pub beyond : (k : ℕ) → length pages ≤ k → k < max_pages → IsFree pages k

-- the bytes that a map rests on
abbrev pub map_spans : List Span
map_spans = span 0 FREE_PAGES 4 ∷ span 0 MAP MAP_BYTES ∷ []

-- pages are told and have a map, and Q holds of them
abbrev pub IfMapped : Option Pages → (Pages → Type 0) → Type 0
IfMapped told Q = (pages : Pages) → told ≡ Some pages → IsMap pages → Q pages

-- this page has this bit, each other page the one that it had, and nothing changed but the byte
-- with the bit and the count
pub record SetsBit (page value : ℕ) (old new : Pages) : Type 0 where
  pub here : bit new page ≡ value
  pub others : (k : ℕ) → k ≢ page → bit new k ≡ bit old k
  pub outside : SameOutside (span 0 FREE_PAGES 4 ∷ span 0 (place_of page) 1 ∷ []) old new

-- the lowest free page was taken
pub record TakesPage (page : ℕ) (old new : Pages) : Type 0 where
  pub there : page < length old
  pub free : IsFree old page
  pub lowest : (k : ℕ) → k < page → IsUsed old k
  pub change : SetsBit page 1 old new
  pub fewer : free_of new + 1 ≡ free_of old
  pub map : IsMap new

-- a used page was given back
pub record GivesPage (page : ℕ) (old new : Pages) : Type 0 where
  pub change : SetsBit page 0 old new
  pub more : free_of new ≡ free_of old + 1
  pub map : IsMap new

-- the lowest free page, and the byte that has its bit
pub record IsLowestFree (pages : Pages) (page byte' : ℕ) : Type 0 where
  pub free : IsFree pages page
  pub lowest : (k : ℕ) → k < page → IsUsed pages k
  pub same_byte : byte' ≡ byte pages 0 (place_of page)
