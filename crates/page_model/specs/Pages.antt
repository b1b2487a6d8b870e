-- Pages as lists of bytes, the fields in them, and writes. A field is big-endian.
use Rattle.std.specs.Prelude.{◌≡◌, ℕ, ◌+◌, ◌<◌, ◌≤◌, List, [], ◌∷◌, ◌++◌, length, take, drop, get_or, slice_index, slice_set}
use Rattle.byteorder.specs.Endian.{big_number, big_bytes}

abbrev pub page_bytes : ℕ
page_bytes = 16_384

abbrev pub Pages : Type 0
Pages = List (List ℕ)

-- a page; no bytes where there is none
abbrev pub page_at : Pages → ℕ → List ℕ
page_at pages n = get_or pages n []

-- as many pages, each of its full size
pub record AreWhole (pages : Pages) (count : ℕ) : Type 0 where
  pub many : length pages ≡ count
  pub each : (n : ℕ) → n < count → length (page_at pages n) ≡ page_bytes

abbrev pub byte : Pages → ℕ → ℕ → ℕ
byte pages page at = slice_index (page_at pages page) at

-- n bytes of a page
abbrev pub bytes_at : Pages → ℕ → ℕ → ℕ → List ℕ
bytes_at pages page at n = take n (drop at (page_at pages page))

unfoldable pub field : Pages → ℕ → ℕ → ℕ → ℕ
field pages page at width = big_number width (drop at (page_at pages page))

-- a page with these bytes in the place of as many
abbrev pub patched : List ℕ → ℕ → List ℕ → List ℕ
patched page at bytes = take at page ++ (bytes ++ drop (at + length bytes) page)

unfoldable pub written : Pages → ℕ → ℕ → List ℕ → Pages
written pages page at bytes = slice_set pages page (patched (page_at pages page) at bytes)

-- the bytes there stand in a page
pub record Fits (pages : Pages) (page at size : ℕ) : Type 0 where
  pub there : page < length pages
  pub within : at + size ≤ length (page_at pages page)

-- one write of a group
pub record Write : Type 0 where
  pub page : ℕ
  pub at : ℕ
  pub bytes : List ℕ

-- the pages after the writes, the first of them first
abbrev pub all_written : List Write → Pages → Pages
all_written [] pages = pages
all_written (w ∷ ws) pages = all_written ws (written pages w.page w.at w.bytes)

-- each write lies within a page
abbrev pub AllFit : List Write → Pages → Type 0
AllFit [] pages = Unit {0}
AllFit (w ∷ ws) pages = Fits pages w.page w.at (length w.bytes)
    × AllFit ws (written pages w.page w.at w.bytes)

-- ---- addresses

pub record Address : Type 0 where
  pub page : ℕ
  pub at : ℕ

abbrev pub null_page : ℕ
null_page = 4_294_967_295

abbrev pub null_address : Address
null_address = record { page = null_page; at = 0 }

-- the address in the six bytes there
abbrev pub address_at : Pages → ℕ → ℕ → Address
address_at pages page at = record { page = field pages page at 4; at = field pages page (at + 4) 2 }

abbrev pub address_bytes : Address → List ℕ
address_bytes a = big_bytes 4 a.page ++ big_bytes 2 a.at
