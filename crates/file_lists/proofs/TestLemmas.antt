-- Pages in memory have room for each call of the tests.
use Rattle.std.proofs.Common.{ℕ, ◌+◌, ◌≤◌, List, [], length, arith}
use Rattle.page_model.specs.Pages.{Address}
use Rattle.page_model.specs.Steps.{MayUse, MayReach}
use Rattle.page_model.proofs.StepLemmas.{different_append}
use Rattle.mem_disk.specs.MemPages.{page_state}
use Rattle.mem_disk.specs.declared.mem_pages.MemPages.{MemPages}
use Rattle.file_lists.specs.Near.{near_front, near_back, near_node, near_behind, near_before}
use Rattle.file_lists.proofs.NearLemmas.{may_front, may_back, may_node, may_behind, may_before}

pub ample : (named : List ℕ) (others bytes : ℕ) (m : MemPages) → length named + others ≤ 16 → bytes ≤ 262_138 → MayUse named others bytes (page_state m)
ample named others bytes m few short = record { pins = omega (arith, different_append named []); room = short }

-- pages in memory have room for a call near the first node of a list
pub ample_front : (base : Address) (named : List ℕ) (bytes : ℕ) (m : MemPages) → length named + 1 ≤ 16 → bytes ≤ 262_138 → MayReach (near_front (page_state m) base) named 1 bytes (page_state m)
ample_front base named bytes m few short = may_front (page_state m) base named bytes (ample named 1 bytes m few short)

-- and for one near the last
pub ample_back : (base : Address) (named : List ℕ) (bytes : ℕ) (m : MemPages) → length named + 1 ≤ 16 → bytes ≤ 262_138 → MayReach (near_back (page_state m) base) named 1 bytes (page_state m)
ample_back base named bytes m few short = may_back (page_state m) base named bytes (ample named 1 bytes m few short)

-- and for one near any node, with two pages more than the named ones
pub ample_node : (node : Address) (named : List ℕ) (bytes : ℕ) (m : MemPages) → length named + 2 ≤ 16 → bytes ≤ 262_138 → MayReach (near_node (page_state m) node) named 2 bytes (page_state m)
ample_node node named bytes m few short = may_node (page_state m) node named bytes (ample named 2 bytes m few short)

-- one for the node behind the first
pub ample_behind : (node : Address) (named : List ℕ) (bytes : ℕ) (m : MemPages) → length named + 1 ≤ 16 → bytes ≤ 262_138 → MayReach (near_behind (page_state m) node) named 1 bytes (page_state m)
ample_behind node named bytes m few short = may_behind (page_state m) node named bytes (ample named 1 bytes m few short)

-- and one for the node before the last
pub ample_before : (node : Address) (named : List ℕ) (bytes : ℕ) (m : MemPages) → length named + 1 ≤ 16 → bytes ≤ 262_138 → MayReach (near_before (page_state m) node) named 1 bytes (page_state m)
ample_before node named bytes m few short = may_before (page_state m) node named bytes (ample named 1 bytes m few short)
