-- Runs of bytes laid over what stands in their pages: new bytes by a change in place, and old ones
-- where it is taken back.
--     laid, all_laid      over a part; a run of another page leaves it
--     lobs_laid      over all entries of LOBs
--     put_back      the old bytes of records, the newest first
use Rattle.std.specs.Prelude.{ℕ, suc, ◌-◌, List, [], ◌∷◌, map, get_or, nat_le, ◌==◌, if◌then◌else◌}
use Rattle.store_data.specs.Pieces.{Part, part_of}
use Rattle.store_data.specs.Store.{Version, Piece, Lob, Run, Body, inserted, rebuilt, versioned, patched, removed, Record}

-- what stands at a place of the run's page where the byte b stood
abbrev pub byte_laid : Run → ℕ → ℕ → ℕ
byte_laid r place b = if nat_le r.at place then get_or r.bytes (place - r.at) b else b

-- over bytes that begin at a place of the run's page
abbrev pub bytes_laid : Run → ℕ → List ℕ → List ℕ
bytes_laid r place [] = []
bytes_laid r place (b ∷ bs) = byte_laid r place b ∷ bytes_laid r (suc place) bs

abbrev pub laid : Run → Part → Part
laid r x = record x { bytes = if x.page == r.page then bytes_laid r x.at x.bytes else x.bytes }

-- the first of the runs first
abbrev pub all_laid : List Run → Part → Part
all_laid [] x = x
all_laid (r ∷ rs) x = all_laid rs (laid r x)

abbrev pub version_laid : List Run → Version → Version
version_laid rs v = record v { bytes = (all_laid rs (part_of v)).bytes }

abbrev pub piece_laid : List Run → Piece → Piece
piece_laid rs p = record { head = version_laid rs p.head; older = map (version_laid rs) p.older }

abbrev pub lob_laid : List Run → Lob → Lob
lob_laid rs l = record l { pieces = map (piece_laid rs) l.pieces }

abbrev pub lobs_laid : List Run → List Lob → List Lob
lobs_laid rs lobs = map (lob_laid rs) lobs

-- the old bytes that a record keeps
abbrev pub old_runs : Body → List Run
old_runs (inserted page) = []
old_runs (rebuilt page) = []
old_runs (versioned pieces touched) = []
old_runs (patched rs) = rs
old_runs removed = []

-- the old bytes of records put back, from the newest to the oldest
abbrev pub put_back : List Record → Part → Part
put_back [] x = x
put_back (u ∷ us) x = put_back us (all_laid (old_runs u.body) x)
