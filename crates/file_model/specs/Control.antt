-- The control block, and how a file is opened by it: the 8 bytes `LOBSTORE`, version 4, pages 4,
-- log_kib 4; at 512 the live region.
use Rattle.std.specs.Prelude.{ℕ, ◌%◌, Bool, ◌&&◌, not, List, [], ◌∷◌, ◌++◌, length, take, drop, slice_index, replicate, ◌-◌, ◌==◌, nat_lt, nat_le, bytes_eq, if◌then◌else◌}
use Rattle.byteorder.specs.Endian.{big_bytes, big_number}
use Rattle.file_model.specs.declared.layout.Layout.{Layout}
use Rattle.file_model.specs.Sections.{control_bytes, live_place, wanted}

abbrev pub magic : List ℕ
magic = 76 ∷ 79 ∷ 66 ∷ 83 ∷ 84 ∷ 79 ∷ 82 ∷ 69 ∷ []

abbrev pub version : ℕ
version = 1

abbrev pub version_of : List ℕ → ℕ
version_of file = big_number 4 (drop 8 file)

abbrev pub layout_of : List ℕ → Layout
layout_of file = record {
  pages = big_number 4 (drop 12 file);
  log_kib = big_number 4
      (drop 16 file);
}

-- the live log region, 0 or 1
abbrev pub live_of : List ℕ → ℕ
live_of file = slice_index file live_place % 2

abbrev pub are_in_limits : Layout → Bool
are_in_limits l = nat_le 16 l.pages && nat_le l.pages 32_768 && nat_le 1_024 l.log_kib
    && nat_le l.log_kib 65_536

-- what opening a file finds: what isn't a store, another version, a file that is too short, or a
-- store
pub data Opening : Type 0 where
  not_store : Opening
  of_version : ℕ → Opening
  short : (length wanted : ℕ) → Opening
  opens : Layout → Opening

abbrev pub by_length : List ℕ → Layout → Opening
by_length file l = if nat_lt (length file) (wanted l) then short (length file) (wanted l)
    else opens l

abbrev pub by_limits : List ℕ → Layout → Opening
by_limits file l = if are_in_limits l then by_length file l else not_store

abbrev pub by_version : List ℕ → Opening
by_version file = if version_of file == version then by_limits file (layout_of file)
    else of_version (version_of file)

-- the checks in their order
unfoldable pub opening : List ℕ → Opening
opening file = if not (nat_lt (length file) control_bytes) && bytes_eq magic (take 8 file)
    then by_version file else not_store

-- ---- a new store's file

abbrev pub control_head : Layout → List ℕ
control_head l = magic ++ (big_bytes 4 version ++ (big_bytes 4 l.pages ++ big_bytes 4 l.log_kib))

-- an empty store: behind the head all is zero, so that region 0 is live and empty, no batch is
-- armed, and all pages are blank
unfoldable pub new_file : Layout → List ℕ
new_file l = control_head l ++ replicate (wanted l - 20) 0
