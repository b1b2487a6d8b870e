-- Which bytes are an undo record, and of what.
--     record_in count bytes      the record in exactly these bytes and the record before it, in a
--         store of so many pages
--     IsRecordAt, IsBad      a record stands there; none does
--     Sound..      what a record may hold
use Rattle.std.specs.Prelude.{◌≡◌, ℕ, zero, suc, ◌+◌, ◌-◌, ◌/◌, ◌%◌, ◌^◌, ◌<◌, ◌≤◌, ◌==◌, ◌&&◌, ◌||◌, Bool, true, cond, List, [], ◌∷◌, length, take, drop, slice_index, Option, Some, None, option_map, option_and_then, nat_lt, nat_le}
use Rattle.byteorder.specs.Endian.{big_number}
use Rattle.page_model.specs.Pages.{Pages, field, bytes_at, Address, null_page, page_bytes}
use Rattle.page_model.specs.Spans.{Span, span, SameOutside}
use Rattle.store_data.specs.Store.{RowState, absent, live, deleted, Run}
use Rattle.undo_model.specs.Data.{Reference, Row, Body, inserted, rebuilt, versioned, patched, removed, Record}
use Rattle.undo_model.specs.Bytes.{record_size, head_size}

-- records end at or before the trailer
abbrev pub record_end : ℕ
record_end = 16_376

abbrev pub max_length : ℕ
max_length = 16_777_216

abbrev pub max_pieces : ℕ
max_pieces = 1_032

abbrev pub max_runs : ℕ
max_runs = 100

-- of old bytes in one record
abbrev pub max_old : ℕ
max_old = 100

-- ---- addresses and pointers that are allowed

-- a record's head fits there
abbrev pub is_place : ℕ → ℕ → ℕ → Bool
is_place count page at = nat_lt page count && nat_le (at + head_size) record_end

-- the place of a record, or the null address
abbrev pub is_previous : ℕ → ℕ → ℕ → Bool
is_previous count page at = ((page == null_page) && (at == 0)) || is_place count page at

-- none; or the bits of the rollback segment are zero, and a record's head fits there
abbrev pub is_pointer : ℕ → ℕ → Bool
is_pointer count n =
    (n == 0) || ((((n / 281_474_976_710_656) % 128) == 0) && is_place count
    ((n / 65_536) % 4_294_967_296) (n % 65_536))

-- ---- what stands in the bytes

abbrev pub state_of : ℕ → Option RowState
state_of zero = Some absent
state_of (suc zero) = Some live
state_of (suc (suc zero)) = Some deleted
state_of (suc (suc (suc n))) = None

-- the flags aren't looked at
abbrev pub reference_in : List ℕ → Reference
reference_in bytes = record {
  space = big_number 4 bytes;
  page = big_number 4 (drop 4 bytes);
  version = big_number 4 (drop 8 bytes);
  length = big_number 4 (drop 16 bytes);
}

abbrev pub is_reference : ℕ → Reference → Bool
is_reference count r = nat_lt r.page count && nat_le r.length max_length

abbrev pub row_with : ℕ → ℕ → ℕ → Reference → RowState → Option Row
row_with count trx roll lob state =
    cond (is_pointer count roll && is_reference count lob)
    (Some (record { state = state; trx = trx; roll = roll; lob = lob })) None

-- of 34 bytes
abbrev pub row_in : ℕ → List ℕ → Option Row
row_in count bytes =
    option_and_then (row_with count (big_number 6 (drop 1 bytes)) (big_number 7 (drop 7 bytes))
    (reference_in (drop 14 bytes))) (state_of (slice_index bytes 0))

-- the old bytes of a run lie in its page
abbrev pub is_run : ℕ → ℕ → ℕ → ℕ → Bool
is_run count page at size = nat_lt page count && nat_le (at + size) page_bytes

-- so many runs in exactly these bytes, with at most so many old bytes
abbrev pub runs_in : ℕ → ℕ → ℕ → List ℕ → Option (List Run)
runs_in count zero left bytes = cond (length bytes == 0) (Some []) None
runs_in count (suc n) left bytes =
    let page = big_number 4 bytes in
    let at = big_number 2 (drop 4 bytes) in
    let size = slice_index bytes 6 in
    cond (nat_le (7 + size) (length bytes) && (nat_le size left && is_run count page at size))
    (option_map (λ (more : List Run).
    (let r : Run = record { page = page; at = at; bytes = take size (drop 7 bytes) } in r)
    ∷ more) (runs_in count n (left - size) (drop (7 + size) bytes)))
    None

-- as many bytes as have a bit for each piece
abbrev pub bitmap_size : ℕ → ℕ
bitmap_size pieces = (pieces + 7) / 8

abbrev pub new_lob_in : ℕ → (ℕ → Body) → List ℕ → Option Body
new_lob_in count body bytes =
    cond ((length bytes == 4) && nat_lt (big_number 4 bytes) count)
    (Some (body (big_number 4 bytes))) None

abbrev pub versioned_in : List ℕ → Option Body
versioned_in bytes =
    let pieces = big_number 4 bytes in
    cond (nat_le 4 (length bytes) &&
    (nat_le pieces max_pieces && (length bytes == 4 + bitmap_size pieces)))
    (Some (versioned pieces (drop 4 bytes))) None

abbrev pub patched_in : ℕ → List ℕ → Option Body
patched_in count bytes =
    cond (nat_le 1 (length bytes) && nat_le (slice_index bytes 0) max_runs)
    (option_map patched (runs_in count (slice_index bytes 0) max_old (drop 1 bytes))) None

abbrev pub body_in : ℕ → ℕ → List ℕ → Option Body
body_in count zero bytes = None
body_in count (suc zero) bytes = new_lob_in count inserted bytes
body_in count (suc (suc zero)) bytes = new_lob_in count rebuilt bytes
body_in count (suc (suc (suc zero))) bytes = versioned_in bytes
body_in count (suc (suc (suc (suc zero)))) bytes = patched_in count bytes
body_in count (suc (suc (suc (suc (suc zero))))) bytes =
    cond (length bytes == 0) (Some removed) None
body_in count (suc (suc (suc (suc (suc (suc n)))))) bytes = None

-- a record with the record before it
pub record Standing : Type 0 where
  pub undo : Record
  pub previous : Address

abbrev pub with_body : ℕ → ℕ → Address → Row → Body → Standing
with_body number doc previous before body =
    record {
      undo = record { number = number; doc = doc; before = before; body = body };
      previous = previous;
    }

abbrev pub previous_in : List ℕ → Address
previous_in bytes = record {
  page = big_number 4 (drop 45 bytes);
  at = big_number 2 (drop 49 bytes);
}

-- of all these bytes, which are at least as many as a head's
abbrev pub record_in : ℕ → List ℕ → Option Standing
record_in count bytes =
    let previous = previous_in bytes in
    cond (is_previous count previous.page previous.at)
    (option_and_then (λ (before : Row).
    option_map (with_body (big_number 4 (drop 3 bytes))
    (big_number 4 (drop 7 bytes)) previous before)
    (body_in count (slice_index bytes 2) (drop head_size bytes))) (row_in count (drop 11 bytes)))
    None

-- ---- in a page

pub record IsRecordPlace (count : ℕ) (a : Address) : Type 0 where
  pub page : a.page < count
  pub within : a.at + head_size ≤ record_end

abbrev pub record_span : Address → Record → Span
record_span a r = span a.page a.at (record_size r)

pub record IsRecordAt (pages : Pages) (a : Address) (r : Record) (previous : Address) : Type 0 where
  pub page : a.page < length pages
  pub size : field pages a.page a.at 2 ≡ record_size r
  pub within : a.at + record_size r ≤ record_end
  pub reads : record_in (length pages) (bytes_at pages a.page a.at (record_size r)) ≡ Some
      (record { undo = r; previous = previous })

-- what writing a record leaves
pub record WritesRecord (a : Address) (r : Record) (previous : Address)
    (old new : Pages) : Type 0 where
  pub stands : IsRecordAt new a r previous
  pub outside : SameOutside (record_span a r ∷ []) old new

-- no record stands there
abbrev pub IsBad : Pages → Address → Type 0
IsBad pages a = (r : Record) (previous : Address) → IsRecordAt pages a r previous → ⊥

-- ---- what a record may hold

pub record IsSoundRow (count : ℕ) (r : Row) : Type 0 where
  pub trx : r.trx < 256 ^ 6
  pub roll_fits : r.roll < 256 ^ 7
  pub roll : is_pointer count r.roll ≡ true
  pub space : r.lob.space < 256 ^ 4
  pub version : r.lob.version < 256 ^ 4
  pub length_fits : r.lob.length < 256 ^ 4
  pub page_fits : r.lob.page < 256 ^ 4
  pub lob : is_reference count r.lob ≡ true

-- with at most so many old bytes
abbrev pub AreSoundRuns : ℕ → ℕ → List Run → Type 0
AreSoundRuns count left [] = Unit {0}
AreSoundRuns count left (r ∷ more) =
    (r.page < 256 ^ 4) × (r.at < 256 ^ 2) × (length r.bytes ≤ left)
    × (is_run count r.page r.at (length r.bytes) ≡ true)
    × AreSoundRuns count (left - length r.bytes) more

abbrev pub IsSoundBody : ℕ → Body → Type 0
IsSoundBody count (inserted page) = (page < count) × (page < 256 ^ 4)
IsSoundBody count (rebuilt page) = (page < count) × (page < 256 ^ 4)
IsSoundBody count (versioned pieces bits) =
    (pieces ≤ max_pieces) × (length bits ≡ bitmap_size pieces)
IsSoundBody count (patched runs) = (length runs ≤ max_runs) × AreSoundRuns count max_old runs
IsSoundBody count removed = Unit {0}

pub record IsSoundRecord (count : ℕ) (r : Record) : Type 0 where
  pub number : r.number < 256 ^ 4
  pub doc : r.doc < 256 ^ 4
  pub before : IsSoundRow count r.before
  pub body : IsSoundBody count r.body

pub record IsSoundPrevious (count : ℕ) (a : Address) : Type 0 where
  pub page : a.page < 256 ^ 4
  pub at : a.at < 256 ^ 2
  pub allowed : is_previous count a.page a.at ≡ true

-- ---- what a record that was read holds, whatever else stands in the pages

abbrev pub RunsFit : ℕ → List Run → Type 0
RunsFit count [] = Unit {0}
RunsFit count (r ∷ more) =
    (r.page < count) × (r.at + length r.bytes ≤ page_bytes) × RunsFit count more

abbrev pub BodyFits : ℕ → Body → Type 0
BodyFits count (inserted page) = page < count
BodyFits count (rebuilt page) = page < count
BodyFits count (versioned pieces bits) = (pieces ≤ max_pieces) × (length bits ≡ bitmap_size pieces)
BodyFits count (patched runs) = RunsFit count runs
BodyFits count removed = Unit {0}
