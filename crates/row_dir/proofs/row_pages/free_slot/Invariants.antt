use Rattle.std.proofs.Common.{◌≡◌, ◌≤◌, ◌+◌, ◌*◌, ◌-◌, ℕ, List, [], ◌∷◌, ◌++◌, length, Option, Some}
use Rattle.page_model.specs.Pages.{Pages}
use Rattle.page_model.specs.Steps.{Uses}
use Rattle.undo_model.specs.Rows.{Keyed, AreSlots}
use Rattle.row_dir.specs.Directory.{free_in}
use Rattle.row_dir.proofs.HonestLemmas.{NoneBefore}
use Rattle.row_dir.proofs.row_pages.free_slot.Given as goal

-- the slots passed have rows, and the others stand from here on
abbrev pub invariant-slots : goal.invariant-slots
invariant-slots g l = record {
  told : (g.P.Pages.state l.p).told ≡ (g.P.Pages.state l.fn.p).told;
  uses : Uses g.P.Pages.state g.P.Pages.stays (l.fn.page.0 ∷ []) 0 0 l.fn.p l.p;
  faults : (g.P.Pages.state l.fn.p).faults ≤ (g.P.Pages.state l.p).faults;
  low : 52 ≤ l.at;
  steps : (n : ℕ) × (l.at ≡ 52 + 40 * n);
  seen : NoneBefore (g.P.Pages.state l.fn.p).told l.fn.page.0 l.at;
  passed : (pages : Pages) (slots : List (Option Keyed)) → (g.P.Pages.state l.fn.p).told ≡ Some pages → AreSlots pages l.fn.page.0 52 slots → length slots ≡ 408
      → (before : List (Option Keyed)) × (rest : List (Option Keyed)) × (slots ≡ before ++ rest) × (l.at ≡ 52 + 40 * length before) × (free_in before ≡ 0) × AreSlots pages l.fn.page.0 l.at rest;
}

abbrev pub decreases-slots : goal.decreases-slots
decreases-slots g l = 16_372 - l.at
