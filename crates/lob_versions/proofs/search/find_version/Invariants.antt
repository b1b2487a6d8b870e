use Rattle.std.proofs.Common.{◌≡◌, ◌≤◌, ◌-◌, List, [], ◌∷◌}
use Rattle.page_model.specs.Pages.{Pages}
use Rattle.page_model.specs.Steps.{Touches}
use Rattle.engine_base.specs.Addresses.{address_of}
use Rattle.store_data.specs.Store.{Version, Piece, Lob}
use Rattle.lob_model.specs.Search.{sought}
use Rattle.lob_pages.specs.Entries.{FitsPage}
use Rattle.lob_versions.specs.Found.{IsSearch}
use Rattle.lob_versions.specs.Along.{IsAlong}
use Rattle.lob_versions.proofs.search.find_version.Given as goal

-- as many entries were looked at, and `node` is the next one
abbrev pub invariant-nodes : goal.invariant-nodes
invariant-nodes g l = record {
  told : (g.P.Pages.state l.p).told ≡ (g.P.Pages.state l.fn.p).told;
  count : (g.P.Pages.state l.p).count ≡ (g.P.Pages.state l.fn.p).count;
  room : (g.P.Pages.state l.fn.p).room ≤ (g.P.Pages.state l.p).room;
  stays : g.P.Pages.stays l.fn.p l.p;
  faults : (g.P.Pages.state l.fn.p).faults ≤ (g.P.Pages.state l.p).faults;
  reach : Touches (l.fn.from.page.0 ∷ []) (l._n - 1) (g.P.Pages.state l.fn.p).touched (g.P.Pages.state l.p).touched;
  near : Touches (l.fn.from.page.0 ∷ []) l._n (g.P.Pages.state l.fn.p).touched (l.node.page.0 ∷ (g.P.Pages.state l.p).touched);
  place : FitsPage (g.P.Pages.state l.fn.p).count (address_of l.node);
  value : (pages : Pages) (lob : Lob) (piece : Piece) (x : Version) (rest : List Version)
      → IsSearch (g.P.Pages.state l.fn.p).told (address_of l.fn.head) (address_of l.fn.from) pages lob piece x rest
      → IsAlong piece l.fn.v.0 (8 - l._n) (address_of l.node) (sought 8 l.fn.v.0 (x ∷ rest));
}
