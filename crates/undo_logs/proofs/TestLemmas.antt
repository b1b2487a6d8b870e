-- Pages in memory have room for each call of the tests.
use Rattle.std.proofs.Common.{◌≡◌, ℕ, ◌+◌, ◌^◌, ◌≤◌, ◌<◌, List, [], length, Some, refl, sym, subst, arith, lit≤}
use Rattle.page_model.specs.Pages.{Address}
use Rattle.page_model.specs.Steps.{MayUse}
use Rattle.page_model.proofs.StepLemmas.{different_append}
use Rattle.store_data.specs.Store.{live}
use Rattle.undo_model.specs.Data.{Reference, Row, Record, removed, led}
use Rattle.undo_model.specs.Reading.{IsSoundRow, IsSoundRecord, IsRecordPlace}
use Rattle.undo_model.proofs.OptionLemmas.{some_some}
use Rattle.mem_disk.specs.MemPages.{page_state}
use Rattle.mem_disk.specs.declared.mem_pages.MemPages.{MemPages}

-- pages in memory have room for a call on 16 pages that writes up to 262,138 bytes
pub ample : (named : List ℕ) (others bytes : ℕ) (m : MemPages) → length named + others ≤ 16 → bytes ≤ 262_138 → MayUse named others bytes (page_state m)
ample named others bytes m few short = record { pins = omega (arith, different_append named []); room = short }

-- the record that is appended
abbrev pub reference : Reference
reference = record { space = 0; page = 3; version = 1; length = 20_022 }

abbrev pub row : Row
row = record { state = live; trx = 5; roll = 0; lob = reference }

abbrev pub written : ℕ → Record
written number = record { number = number; doc = 9; before = row; body = removed }

sound_row : IsSoundRow 16 row
sound_row = record { trx = lit≤ tt; roll_fits = lit≤ tt; roll = refl; space = lit≤ tt; version = lit≤ tt; length_fits = lit≤ tt; page_fits = lit≤ tt; lob = refl }

-- the record that is appended is sound where there are 16 pages
pub sound : (count number : ℕ) → count ≡ 16 → number < 256 ^ 4 → IsSoundRecord count (written number)
sound count number is small = subst (λ (n : ℕ). IsSoundRecord n (written number)) (sym is) (record { number = small; doc = lit≤ tt; before = sound_row; body = tt })

-- the first record's place
abbrev pub first_place : Address
first_place = record { page = 1; at = 107 }

-- the pointer to the first record leads to a record's place
pub place_there : (count : ℕ) (a : Address) → count ≡ 16 → led 65_643 ≡ Some a → IsRecordPlace count a
place_there count a is leads =
    subst (IsRecordPlace count) (some_some first_place a leads) (record { page = omega (arith, is); within = lit≤ tt })
