-- A list stays where nothing changes but bytes apart from it.
use Rattle.std.proofs.Common.{◌+◌, List, [], ◌∷◌, length, map, ◌∙◌, arith}
use Rattle.page_model.specs.Pages.{Pages, Address, null_address}
use Rattle.page_model.specs.Spans.{Span, AreApart, SameOutside}
use Rattle.page_model.specs.Lists.{IsNodePlace, IsWalk, IsList, list_spans, node_span}
use Rattle.page_model.proofs.FrameLemmas.{field_kept, address_kept, apart_part}

-- a place of a node stays
pub place_kept : (xs : List Span) (old new : Pages) (a : Address) → SameOutside xs old new → IsNodePlace (length old) a → IsNodePlace (length new) a
place_kept xs old new a same place = record { page = omega (arith, same.many, place.page); within = place.within }

-- a walk stays where nothing changes but bytes apart from its nodes
pub walk_kept : (xs : List Span) (old new : Pages) (before : Address) (nodes : List Address) (after : Address) → SameOutside xs old new → AreApart xs (map node_span nodes) → IsWalk old before nodes after → IsWalk new before nodes after
walk_kept xs old new before [] after same apart walk = tt
walk_kept xs old new before (a ∷ more) after same apart walk = (
  place_kept xs old new a same walk.0,
  address_kept xs old new a.page a.at same (apart_part xs a.page a.at 12 a.at 6 (omega arith) (omega arith) apart.0) ∙ walk.1,
  address_kept xs old new a.page (a.at + 6) same (apart_part xs a.page a.at 12 (a.at + 6) 6 (omega arith) (omega arith) apart.0) ∙ walk.2,
  walk_kept xs old new a more after same apart.1 walk.3,
)

-- so does a list
pub list_kept : (xs : List Span) (old new : Pages) (base : Address) (nodes : List Address) → SameOutside xs old new → AreApart xs (list_spans base nodes) → IsList old base nodes → IsList new base nodes
list_kept xs old new base nodes same apart list = record {
  count = field_kept xs old new base.page base.at 4 same (apart_part xs base.page base.at 16 base.at 4 (omega arith) (omega arith) apart.0) ∙ list.count;
  first = address_kept xs old new base.page (base.at + 4) same (apart_part xs base.page base.at 16 (base.at + 4) 6 (omega arith) (omega arith) apart.0) ∙ list.first;
  last = address_kept xs old new base.page (base.at + 10) same (apart_part xs base.page base.at 16 (base.at + 10) 6 (omega arith) (omega arith) apart.0) ∙ list.last;
  walk = walk_kept xs old new null_address nodes null_address same apart.1 list.walk;
  apart = list.apart;
}
