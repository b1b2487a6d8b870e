use Rattle.std.proofs.Common.{◌≡◌, ◌≤◌, ◌-◌, ℕ, List, [], ◌∷◌, length, Option, Some}
use Rattle.page_model.specs.Pages.{Pages, Address}
use Rattle.page_model.specs.Steps.{Uses}
use Rattle.undo_model.specs.Rows.{Keyed, AreSlots}
use Rattle.row_dir.specs.Directory.{IsBelow}
use Rattle.row_dir.specs.Loads.{Holds, AreNew, SamePages, EntersOnly}
use Rattle.row_dir.proofs.LoadLemmas.{Passed, Room}
use Rattle.row_dir.proofs.dir.RowDir.load_slots.Given as goal

-- the rows of the slots passed are entered, and the others stand from here on
abbrev pub invariant-slots : goal.invariant-slots
invariant-slots g l = record {
  told : (g.P.Pages.state l.p).told ≡ (g.P.Pages.state l.fn.p).told;
  uses : Uses g.P.Pages.state g.P.Pages.stays (l.fn.page.0 ∷ []) 0 0 l.fn.p l.p;
  faults : (g.P.Pages.state l.fn.p).faults ≤ (g.P.Pages.state l.p).faults;
  room : Room l.self l.at l.free;
  most : l.free ≤ 408;
  kept : SamePages l.fn.self l.self;
  enters : EntersOnly l.fn.page.0 l.fn.self l.self;
  below : IsBelow (g.P.Pages.state l.fn.p).count l.fn.self → IsBelow (g.P.Pages.state l.fn.p).count l.self;
  passed : (pages : Pages) (es : List (ℕ × Address)) (slots : List (Option Keyed)) → (g.P.Pages.state l.fn.p).told ≡ Some pages → AreSlots pages l.fn.page.0 52 slots → length slots ≡ 408
      → Holds l.fn.self es → AreNew l.fn.page.0 es slots → Passed pages l.fn.page.0 slots es l.self l.at l.free;
}

abbrev pub decreases-slots : goal.decreases-slots
decreases-slots g l = 16_372 - l.at
