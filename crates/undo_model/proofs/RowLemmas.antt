-- Rows stay where nothing changes but bytes apart from them.
use Rattle.std.proofs.Common.{ℕ, ◌+◌, ◌*◌, ◌≤◌, List, [], ◌∷◌, length, map, Option, Some, None, ◌∙◌, arith, lit≤}
use Rattle.page_model.specs.Pages.{Pages, Address, page_bytes}
use Rattle.page_model.specs.Spans.{Span, span, SameOutside, IsApartFromAll, AreApart}
use Rattle.page_model.specs.Lists.{node_span}
use Rattle.page_model.proofs.FrameLemmas.{field_kept, apart_part}
use Rattle.page_model.proofs.ListLemmas.{list_kept}
use Rattle.undo_model.specs.Rows.{Keyed, RowPage, IsRowAt, IsSlot, AreSlots, AreRowPages, row_nodes, IsRows, page_spans, rows_spans, first_slot}

row_kept : (xs : List Span) (old new : Pages) (page at : ℕ) (k : Keyed) → SameOutside xs old new → IsApartFromAll xs (span page 0 page_bytes) → at + 40 ≤ page_bytes → IsRowAt old page at k → IsRowAt new page at k
row_kept xs old new page at k same apart within is =
    let part = λ (a n : ℕ) (low : 0 ≤ a) (high : a + n ≤ 0 + page_bytes). apart_part xs page 0 page_bytes a n low high apart in
    record {
      present = is.present;
      state = field_kept xs old new page at 1 same (part at 1 (omega arith) (omega (arith, within))) ∙ is.state;
      doc = field_kept xs old new page (at + 1) 4 same (part (at + 1) 4 (omega arith) (omega (arith, within))) ∙ is.doc;
      trx = field_kept xs old new page (at + 5) 6 same (part (at + 5) 6 (omega arith) (omega (arith, within))) ∙ is.trx;
      roll = field_kept xs old new page (at + 11) 7 same (part (at + 11) 7 (omega arith) (omega (arith, within))) ∙ is.roll;
      space = field_kept xs old new page (at + 18) 4 same (part (at + 18) 4 (omega arith) (omega (arith, within))) ∙ is.space;
      first = field_kept xs old new page (at + 22) 4 same (part (at + 22) 4 (omega arith) (omega (arith, within))) ∙ is.first;
      version = field_kept xs old new page (at + 26) 4 same (part (at + 26) 4 (omega arith) (omega (arith, within))) ∙ is.version;
      length = field_kept xs old new page (at + 34) 4 same (part (at + 34) 4 (omega arith) (omega (arith, within))) ∙ is.length;
    }

slot_kept : (xs : List Span) (old new : Pages) (page at : ℕ) (s : Option Keyed) → SameOutside xs old new → IsApartFromAll xs (span page 0 page_bytes) → at + 40 ≤ page_bytes → IsSlot old page at s → IsSlot new page at s
slot_kept xs old new page at None same apart within is = field_kept xs old new page at 1 same (apart_part xs page 0 page_bytes at 1 (omega arith) (omega (arith, within)) apart) ∙ is
slot_kept xs old new page at (Some k) same apart within is = row_kept xs old new page at k same apart within is

slots_kept : (xs : List Span) (old new : Pages) (page at : ℕ) (slots : List (Option Keyed)) → SameOutside xs old new → IsApartFromAll xs (span page 0 page_bytes) → at + 40 * length slots ≤ page_bytes → AreSlots old page at slots → AreSlots new page at slots
slots_kept xs old new page at [] same apart within is = tt
slots_kept xs old new page at (s ∷ more) same apart within is = (
  slot_kept xs old new page at s same apart (omega (arith, within)) is.0,
  slots_kept xs old new page (at + 40) more same apart (omega (arith, within)) is.1,
)

pages_kept : (xs : List Span) (old new : Pages) (rows : List RowPage) → SameOutside xs old new → AreApart xs (page_spans rows) → AreRowPages old rows → AreRowPages new rows
pages_kept xs old new [] same apart is = tt
pages_kept xs old new (p ∷ more) same apart is =
    let a = apart.0 in
    let many = is.0.many in (
      record {
        there = omega (arith, same.many, is.0.there);
        type = field_kept xs old new p.page 24 2 same (apart_part xs p.page 0 page_bytes 24 2 (lit≤ tt) (lit≤ tt) a) ∙ is.0.type;
        count = field_kept xs old new p.page 50 2 same (apart_part xs p.page 0 page_bytes 50 2 (lit≤ tt) (lit≤ tt) a) ∙ is.0.count;
        many = many;
        slots = slots_kept xs old new p.page first_slot p.slots same a (omega (arith, many)) is.0.slots;
        some = is.0.some;
      },
      pages_kept xs old new more same apart.1 is.1,
    )

nodes_apart : (xs : List Span) (rows : List RowPage) → AreApart xs (page_spans rows) → AreApart xs (map node_span (row_nodes rows))
nodes_apart xs [] apart = tt
nodes_apart xs (p ∷ more) apart = (apart_part xs p.page 0 page_bytes 38 12 (lit≤ tt) (lit≤ tt) apart.0, nodes_apart xs more apart.1)

-- the rows of a list of row pages stay where nothing changes but bytes apart from them
pub rows_kept : (xs : List Span) (old new : Pages) (base : Address) (rows : List RowPage) → SameOutside xs old new → AreApart xs (rows_spans base rows) → IsRows old base rows → IsRows new base rows
rows_kept xs old new base rows same apart is = record {
  list = list_kept xs old new base (row_nodes rows) same (apart.0, nodes_apart xs rows apart.1) is.list;
  each = pages_kept xs old new rows same apart.1 is.each;
  once = is.once;
}
