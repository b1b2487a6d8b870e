-- Pages in memory have room for each call of the tests.
use Rattle.std.proofs.Common.{◌≡◌, ℕ, ◌+◌, ◌≤◌, List, [], length, refl, sym, subst, arith, lit≤}
use Rattle.page_model.specs.Steps.{MayUse}
use Rattle.page_model.proofs.StepLemmas.{different_append}
use Rattle.store_data.specs.Store.{deleted}
use Rattle.undo_model.specs.Data.{Reference, Row, Record, inserted}
use Rattle.undo_model.specs.Reading.{IsSoundRow, IsSoundRecord}
use Rattle.mem_disk.specs.MemPages.{page_state}
use Rattle.mem_disk.specs.declared.mem_pages.MemPages.{MemPages}

-- pages in memory let a call touch 16 pages and write 262,138 bytes
pub ample : (named : List ℕ) (others bytes : ℕ) (m : MemPages) → length named + others ≤ 16 → bytes ≤ 262_138 → MayUse named others bytes (page_state m)
ample named others bytes m few short = record { pins = omega (arith, different_append named []); room = short }

-- the record that is written to pages
abbrev pub reference : Reference
reference = record { space = 0; page = 3; version = 2; length = 20_022 }

abbrev pub row : Row
row = record { state = deleted; trx = 7; roll = 327_787; lob = reference }

abbrev pub written : Record
written = record { number = 1; doc = 9; before = row; body = inserted 12 }

sound_row : IsSoundRow 16 row
sound_row = record { trx = lit≤ tt; roll_fits = lit≤ tt; roll = refl; space = lit≤ tt; version = lit≤ tt; length_fits = lit≤ tt; page_fits = lit≤ tt; lob = refl }

-- the record of the tests is sound in a store of 16 pages
pub sound : (count : ℕ) → count ≡ 16 → IsSoundRecord count written
sound count is = subst (λ (n : ℕ). IsSoundRecord n written) (sym is) (record { number = lit≤ tt; doc = lit≤ tt; before = sound_row; body = (lit≤ tt, lit≤ tt) })
