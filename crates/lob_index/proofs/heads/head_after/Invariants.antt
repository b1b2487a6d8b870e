use Rattle.std.proofs.Common.{◌≡◌, ◌+◌, ◌≤◌, [], ◌∷◌, ◌++◌, map, Some, IfSome}
use Rattle.page_model.specs.Pages.{Pages}
use Rattle.page_model.specs.Steps.{Touches}
use Rattle.engine_base.specs.Addresses.{address_of}
use Rattle.file_lists.specs.Links.{link_of}
use Rattle.store_data.specs.Store.{Lob}
use Rattle.lob_model.specs.Pieces.{head_place}
use Rattle.lob_model.specs.Lobs.{IsLob}
use Rattle.lob_pages.specs.Entries.{FitsPage}
use Rattle.lob_index.specs.Heads.{nth, turns, link_pages}
use Rattle.lob_index.proofs.heads.head_after.Given as goal

-- `found` is the head behind k + i others, and its page counts as touched
abbrev pub invariant-heads : goal.invariant-heads
invariant-heads g l = record {
  told : (g.P.Pages.state l.p).told ≡ (g.P.Pages.state l.fn.p).told;
  count : (g.P.Pages.state l.p).count ≡ (g.P.Pages.state l.fn.p).count;
  room : (g.P.Pages.state l.fn.p).room ≤ (g.P.Pages.state l.p).room;
  stays : g.P.Pages.stays l.fn.p l.p;
  faults : (g.P.Pages.state l.fn.p).faults ≤ (g.P.Pages.state l.p).faults;
  reach : Touches (l.fn.node.page.0 ∷ []) (turns (l.fn.k + l.i)) (g.P.Pages.state l.fn.p).touched (link_pages l.found ++ (g.P.Pages.state l.p).touched);
  place : IfSome l.found (λ a. FitsPage (g.P.Pages.state l.fn.p).count (address_of a));
  value : (pages : Pages) (lob : Lob) → (g.P.Pages.state l.fn.p).told ≡ Some pages → IsLob pages lob → Some (address_of l.fn.node) ≡ nth l.fn.k (map head_place lob.pieces) → link_of l.found ≡ nth (l.fn.k + l.i) (map head_place lob.pieces);
}
