-- Old bytes put back into a copy of a part of a page, which begins at `base` of the page.
--     put_from      the bytes from a place of the page on, those that lie within the copy
--     put_runs, put_old      the runs of that page; those of a record
use Rattle.std.specs.Prelude.{ℕ, ◌+◌, ◌-◌, ◌==◌, cond, List, [], ◌∷◌, slice_set, length, nat_le}
use Rattle.store_data.specs.Store.{Run}
use Rattle.undo_model.specs.Data.{Body, inserted, rebuilt, versioned, patched, removed}

-- one byte; where it lies behind the copy nothing is set
abbrev pub put_byte : ℕ → ℕ → ℕ → List ℕ → List ℕ
put_byte base at b buf = cond (nat_le base at) (slice_set buf (at - base) b) buf

abbrev pub put_from : ℕ → ℕ → List ℕ → List ℕ → List ℕ
put_from base at [] buf = buf
put_from base at (b ∷ more) buf = put_from base (at + 1) more (put_byte base at b buf)

abbrev pub put_run : ℕ → ℕ → Run → List ℕ → List ℕ
put_run page base r buf = cond (r.page == page) (put_from base r.at r.bytes buf) buf

abbrev pub put_runs : ℕ → ℕ → List Run → List ℕ → List ℕ
put_runs page base [] buf = buf
put_runs page base (r ∷ more) buf = put_runs page base more (put_run page base r buf)

abbrev pub put_old : ℕ → ℕ → Body → List ℕ → List ℕ
put_old page base (inserted n) buf = buf
put_old page base (rebuilt n) buf = buf
put_old page base (versioned pieces bits) buf = buf
put_old page base (patched runs) buf = put_runs page base runs buf
put_old page base removed buf = buf

-- of old bytes in all
abbrev pub old_size : List Run → ℕ
old_size [] = 0
old_size (r ∷ more) = length r.bytes + old_size more
