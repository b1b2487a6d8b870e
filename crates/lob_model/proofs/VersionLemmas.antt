-- What stays of a LOB where only fields of its first page before its lists change.
use Rattle.std.proofs.Common.{inl, inr, ℕ, ◌+◌, ◌≤◌, [], ◌∷◌, ◌++◌, map, ◌∙◌, lit≤, arith}
use Rattle.page_model.specs.Pages.{Pages}
use Rattle.page_model.specs.Spans.{span, SameOutside, SetsField}
use Rattle.page_model.specs.Lists.{base_span}
use Rattle.page_model.proofs.FrameLemmas.{field_kept, outside_wider, off_part}
use Rattle.page_model.proofs.ListLemmas.{list_kept}
use Rattle.store_data.specs.Store.{Lob}
use Rattle.lob_model.specs.Pieces.{versions, place_of, head_place, AreFalling}
use Rattle.lob_model.specs.Places.{heads_base, free_base, entry_span, head_span, first_span, data_span}
use Rattle.lob_model.specs.Lobs.{IsLob, lob_parts, lob_spans}
use Rattle.lob_model.proofs.PartLemmas.{map_split, nodes_apart, heads_apart, chain_kept, versions_kept, lists_kept}
use Rattle.page_model.specs.Counts.{has, covers}
use Rattle.page_model.proofs.CoverLemmas.{has_less, covers_cons, covers_nil, covers_once, map_wide, across_by, from_all_by}
use Rattle.lob_model.proofs.FreeLemmas.{parts_covers, data_wide}

-- a LOB stands with another number as its version, which none in it exceeds; only its pages changed
pub version_changed : (old new : Pages) (lob : Lob) (v : ℕ) → IsLob old lob → AreFalling (v + 1) lob.pieces → SetsField lob.page 40 4 v old new
    → IsLob new (record lob { version = v }) × SameOutside (lob_spans lob) old new
version_changed old new lob v is falling sets =
    let first = lob.page in
    let s = span first 40 4 in
    let xs = s ∷ [] in
    let same = sets.outside in
    let inside : (n k : ℕ) → covers xs n k ≤ has (first_span first) n k =
    λ n k. omega (arith, covers_cons s [] n k, covers_nil n k, has_less s (first_span first) n k (λ at. let low = at.1 in let high = at.2 in (at.0, omega arith, omega arith))) in
    let once = covers_once (lob_parts lob []) is.shape.apart in
    let placed = map place_of (versions lob.pieces) in
    let chain = across_by xs (map head_span lob.index) (lit≤ tt, tt) (map_wide head_span lob.index (λ n. lit≤ tt)) (λ n k. omega (arith, inside n k, once n k, parts_covers lob [] n k)) in
    let entries' = across_by xs (map entry_span placed) (lit≤ tt, tt) (map_wide entry_span placed (λ a. lit≤ tt)) (λ n k. omega (arith, inside n k, once n k, parts_covers lob [] n k)) in
    let frees = across_by xs (map entry_span (lob.free ++ [])) (lit≤ tt, tt) (map_wide entry_span (lob.free ++ []) (λ a. lit≤ tt)) (λ n k. omega (arith, inside n k, once n k, parts_covers lob [] n k)) in
    let data' = across_by xs (map (data_span first) (versions lob.pieces)) (lit≤ tt, tt) (map_wide (data_span first) (versions lob.pieces) (data_wide first)) (λ n k. omega (arith, inside n k, once n k, parts_covers lob [] n k)) in
    let hb = from_all_by xs (base_span (heads_base first)) (lit≤ tt, tt) (lit≤ tt) (λ n k. omega (arith, inside n k, once n k, parts_covers lob [] n k)) in
    let fb = from_all_by xs (base_span (free_base first)) (lit≤ tt, tt) (lit≤ tt) (λ n k. omega (arith, inside n k, once n k, parts_covers lob [] n k)) in (
      record {
        first = record {
          there = omega (arith, same.many, is.first.there);
          number = field_kept xs old new first 4 4 same (inr (inl (lit≤ tt)), tt) ∙ is.first.number;
          type' = field_kept xs old new first 24 2 same (inr (inl (lit≤ tt)), tt) ∙ is.first.type';
        };
        version = sets.here;
        chain = chain_kept xs old new first lob.index same (inr (inl (lit≤ tt)), tt) chain is.chain;
        heads = list_kept xs old new (heads_base first) (map head_place lob.pieces) same (hb, heads_apart xs lob.pieces entries') is.heads;
        free = list_kept xs old new (free_base first) lob.free same (fb, nodes_apart xs lob.free (map_split entry_span xs lob.free [] frees).0) is.free;
        lists = lists_kept xs old new lob.pieces same entries' is.lists;
        versions = versions_kept xs old new first (versions lob.pieces) same entries' data' is.versions;
        shape = record {
          steady = is.shape.steady;
          falling = falling;
          full = is.shape.full;
          places = is.shape.places;
          all = is.shape.all;
          apart = is.shape.apart;
        };
      },
      outside_wider xs (lob_spans lob) old new (λ n k off. (off_part first 0 16_384 40 4 n k (lit≤ tt) (lit≤ tt) off.0, tt)) same,
    )
