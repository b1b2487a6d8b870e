-- Pages in memory have room for each call, a directory of their rows stays one, and the record that
-- is appended is sound.
use Rattle.std.proofs.Common.{◌≡◌, ℕ, ◌+◌, ◌^◌, ◌≤◌, ◌<◌, List, [], length, refl, sym, subst, lit≤, arith}
use Rattle.page_model.specs.Steps.{MayUse}
use Rattle.page_model.proofs.StepLemmas.{different_append}
use Rattle.store_data.specs.Store.{live}
use Rattle.undo_model.specs.Data.{Reference, Row, Record, removed}
use Rattle.undo_model.specs.Reading.{IsSoundRow, IsSoundRecord}
use Rattle.mem_disk.specs.MemPages.{page_state}
use Rattle.mem_disk.specs.declared.mem_pages.MemPages.{MemPages}
use Rattle.row_dir.specs.declared.dir.RowDir.{RowDir}
use Rattle.row_dir.specs.Directory.{IsBelow}

pub ample : (named : List ℕ) (others bytes : ℕ) (m : MemPages) → length named + others ≤ 16 → bytes ≤ 262_138 → MayUse named others bytes (page_state m)
ample named others bytes m few short = record { pins = omega (arith, different_append named []); room = short }

-- what lies below 8,192 pages lies below those of a store that has 8,192
pub below : (count : ℕ) (dir : RowDir) → count ≡ 8_192 → IsBelow 8_192 dir → IsBelow count dir
below count dir is = subst (λ (n : ℕ). IsBelow n dir) (sym is)

-- and the other way round
pub below_again : (count : ℕ) (dir : RowDir) → count ≡ 8_192 → IsBelow count dir → IsBelow 8_192 dir
below_again count dir is = subst (λ (n : ℕ). IsBelow n dir) is

abbrev pub reference : Reference
reference = record { space = 0; page = 3; version = 1; length = 20_022 }

abbrev pub row : Row
row = record { state = live; trx = 5; roll = 0; lob = reference }

abbrev pub written : ℕ → Record
written number = record { number = number; doc = 9; before = row; body = removed }

sound_row : IsSoundRow 8_192 row
sound_row = record { trx = lit≤ tt; roll_fits = lit≤ tt; roll = refl; space = lit≤ tt; version = lit≤ tt; length_fits = lit≤ tt; page_fits = lit≤ tt; lob = refl }

-- the record that is appended is sound
pub sound : (count number : ℕ) → count ≡ 8_192 → number < 256 ^ 4 → IsSoundRecord count (written number)
sound count number is small = subst (λ (n : ℕ). IsSoundRecord n (written number)) (sym is) (record { number = small; doc = lit≤ tt; before = sound_row; body = tt })
