-- Pages in memory have room for each call of the tests, and what lies in 16 pages does so in a store
-- that has 16.
use Rattle.std.proofs.Common.{◌≡◌, ℕ, ◌+◌, ◌≤◌, List, [], length, sym, subst, arith}
use Rattle.page_model.specs.Steps.{MayUse}
use Rattle.page_model.proofs.StepLemmas.{different_append}
use Rattle.mem_disk.specs.MemPages.{page_state}
use Rattle.mem_disk.specs.declared.mem_pages.MemPages.{MemPages}
use Rattle.store_data.specs.Store.{Run}
use Rattle.undo_model.specs.Reading.{RunsFit}
use Rattle.row_dir.specs.declared.dir.RowDir.{RowDir}
use Rattle.row_dir.specs.Directory.{IsBelow}

-- pages in memory have room for a call on 16 pages that writes up to 262,138 bytes
pub ample : (named : List ℕ) (others bytes : ℕ) (m : MemPages) → length named + others ≤ 16
    → bytes ≤ 262_138 → MayUse named others bytes (page_state m)
ample named others bytes m few short =
    record { pins = omega (arith, different_append named []); room = short }

pub below : (count : ℕ) (dir : RowDir) → count ≡ 16 → IsBelow 16 dir → IsBelow count dir
below count dir is = subst (λ (n : ℕ). IsBelow n dir) (sym is)

pub below_again : (count : ℕ) (dir : RowDir) → count ≡ 16 → IsBelow count dir → IsBelow 16 dir
below_again count dir is = subst (λ (n : ℕ). IsBelow n dir) is

pub runs_fit : (count : ℕ) (rs : List Run) → count ≡ 16 → RunsFit 16 rs → RunsFit count rs
runs_fit count rs is = subst (λ (n : ℕ). RunsFit n rs) (sym is)
