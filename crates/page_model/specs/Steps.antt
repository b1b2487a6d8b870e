-- What a call over pages may use of its mini-transaction, and what it used.
--     PageState      what a mini-transaction shows
--     AddsWrite, AddsNone      what a call wrote
--     different ns      how many different numbers there are
--     MayUse, Uses named others bytes      the call may touch these pages and so many others and
--                                          write so much; it did no more
--     MayReach, Reaches near named others bytes      the same where it may be known which the
--          others are
--     Told P old new      P holds of the pages before and behind, where they are told
use Rattle.std.specs.Prelude.{◌≡◌, ℕ, ◌+◌, ◌≤◌, ◌==◌, Bool, true, false, ◌||◌, cond, List, [], ◌∷◌, ◌++◌, length, Option, Some, None}
use Rattle.std.specs.Option.{option_map}
use Rattle.page_model.specs.Pages.{Pages, Write}
use Rattle.page_model.specs.Frames.{write}

pub record PageState : Type 0 where
  -- the pages, where they are told
  pub told : Option Pages
  -- the writes made so far, in order, where they are told
  pub writes : Option (List Write)
  pub count : ℕ
  -- the pages that are pinned
  pub touched : List ℕ
  -- how many bytes of a frame may still be written
  pub room : ℕ
  -- how often a device below has failed
  pub faults : ℕ

-- this write was made behind the others
abbrev pub AddsWrite : ℕ → ℕ → List ℕ → PageState → PageState → Type 0
AddsWrite page at bytes old new =
    new.writes ≡ option_map (λ ws. ws ++ write page at bytes ∷ []) old.writes

-- no write was made
abbrev pub AddsNone : PageState → PageState → Type 0
AddsNone old new = new.writes ≡ old.writes

abbrev pub among : List ℕ → ℕ → Bool
among [] n = false
among (m ∷ more) n = (n == m) || among more n

abbrev pub different : List ℕ → ℕ
different [] = 0
different (n ∷ more) = cond (among more n) (different more) (1 + different more)

-- each number of these is among those
abbrev pub IsWithin : List ℕ → List ℕ → Type 0
IsWithin these those = (n : ℕ) → among these n ≡ true → among those n ≡ true

-- how many pages a mini-transaction may pin
abbrev pub max_pins : ℕ
max_pins = 16

-- how many bytes of writes an empty frame takes: a group has at most 262,144 bytes, of which a
-- frame's head takes 6
abbrev pub whole_room : ℕ
whole_room = 262_138

-- what a frame says of a write beside its bytes: page, offset and length
abbrev pub write_head : ℕ
write_head = 8

-- The call may touch the named pages and so many others, and so many bytes are left to write.
pub record MayUse (named : List ℕ) (others bytes : ℕ) (s : PageState) : Type 0 where
  pub pins : different (named ++ s.touched) + others ≤ max_pins
  pub room : bytes ≤ s.room

-- the pages touched are those before, the named ones, and at most so many others
pub record Touches (named : List ℕ) (most : ℕ) (old new : List ℕ) : Type 0 where
  pub others : List ℕ
  pub few : length others ≤ most
  pub within : IsWithin new (others ++ (named ++ old))

-- The call touched no other pages, took no more of the room, and left what is to stay.
pub record Uses {T : Type 0} (state : T → PageState) (stays : T → T → Type 0) (named : List ℕ)
    (others bytes : ℕ) (old new : T) : Type 0 where
  pub count : (state new).count ≡ (state old).count
  pub touches : Touches named others (state old).touched (state new).touched
  pub room : (state old).room ≤ (state new).room + bytes
  pub same : stays old new

-- of the pages that a call may touch beside the named ones: those that are known, and how many are
-- not
abbrev pub known : Option (List ℕ) → List ℕ
known None = []
known (Some near) = near

abbrev pub unknown : Option (List ℕ) → ℕ → ℕ
unknown None most = most
unknown (Some near) most = 0

-- the call may touch the named pages and those near, or so many others where it isn't known which
-- are near
abbrev pub MayReach : Option (List ℕ) → List ℕ → ℕ → ℕ → PageState → Type 0
MayReach near named most bytes s = MayUse (known near ++ named) (unknown near most) bytes s

-- it touched no other pages
abbrev pub Reaches : {T : Type 0} → (T → PageState) → (T → T → Type 0) → Option (List ℕ) → List ℕ
    → ℕ → ℕ → T → T → Type 0
Reaches state stays near named most bytes old new =
    Uses state stays (known near ++ named) (unknown near most) bytes old new

-- what is told stays told, and P holds of the pages before and behind; what isn't told stays so
abbrev pub Told : (Pages → Pages → Type 0) → Option Pages → Option Pages → Type 0
Told P None new = new ≡ None
Told P (Some old) None = ⊥
Told P (Some old) (Some new) = P old new

-- the pages are told and have P
abbrev pub Becomes : Option Pages → (Pages → Type 0) → Type 0
Becomes told P = (new : Pages) × (told ≡ Some new) × P new
