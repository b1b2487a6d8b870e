-- What stays of a LOB where its list of free nodes changes, and the nodes that are in no list.
use Rattle.std.proofs.Common.{◌≡◌, inl, inr, ℕ, ◌+◌, ◌≤◌, List, ◌∷◌, ◌++◌, map, length, ap, ◌∙◌, lit≤, arith}
use Rattle.std.proofs.lemmas.List.{length-append}
use Rattle.std.proofs.lemmas.Bool.{cases_eq}
use Rattle.page_model.specs.Pages.{Pages, Address}
use Rattle.page_model.specs.Spans.{Span, IsApartFromAll, AreApart, SameOutside}
use Rattle.page_model.specs.Lists.{IsList, list_spans, node_span, base_span}
use Rattle.page_model.proofs.FrameLemmas.{field_kept, apart_part}
use Rattle.page_model.proofs.ListLemmas.{list_kept}
use Rattle.store_data.specs.Store.{Version, Lob}
use Rattle.lob_model.specs.Pieces.{versions, place_of, head_place}
use Rattle.lob_model.specs.Places.{heads_base, free_base, entry_span, head_span, first_span, data_span, AreEntryPlaces}
use Rattle.lob_model.specs.Lobs.{IsLobBut, IsShaped, entries, lob_parts}
use Rattle.lob_model.proofs.PartLemmas.{heads_apart, page_kept, chain_kept, versions_kept, lists_kept, data_there, data_elsewhere}
use Rattle.page_model.specs.Counts.{has, covers, AreWide}
use Rattle.page_model.proofs.CoverLemmas.{covers_cons, covers_append, covers_once, wide_append, map_wide, map_covers, across_by, from_all_by, pairwise_by}
use Rattle.lob_model.proofs.CoverLemmas.{nodes_covered}

-- what a version has of its page has a byte at all
pub data_wide : (first : ℕ) (x : Version) → 1 ≤ (data_span first x).size
data_wide first x = elim (cases_eq x.page first) [
  | inl same ↦ let e = ap (λ (s : Span). s.size) (data_there first x same).2 in omega (arith, e)
  | inr other ↦ let e = ap (λ (s : Span). s.size) (data_elsewhere first x other).2 in omega (arith, e)
]

-- each part of a LOB has a byte at all
pub parts_wide : (lob : Lob) (loose : List Address) → AreWide (lob_parts lob loose)
parts_wide lob loose =
    let data' = map (data_span lob.page) (versions lob.pieces) in
    let placed = map entry_span (entries lob loose) in (
      lit≤ tt,
      (
        lit≤ tt,
        (
          lit≤ tt,
          wide_append (map head_span lob.index) (placed ++ data') (map_wide head_span lob.index (λ n. lit≤ tt))
              (wide_append placed data' (map_wide entry_span (entries lob loose) (λ a. lit≤ tt)) (map_wide (data_span lob.page) (versions lob.pieces) (data_wide lob.page))),
        ),
      ),
    )

-- how many parts of a LOB have a byte: those of each kind, added up
pub parts_covers : (lob : Lob) (loose : List Address) (n k : ℕ) → covers (lob_parts lob loose) n k
    ≡ has (first_span lob.page) n k + has (base_span (heads_base lob.page)) n k + has (base_span (free_base lob.page)) n k + covers (map head_span lob.index) n k
    + covers (map entry_span (map place_of (versions lob.pieces))) n k + covers (map entry_span (lob.free ++ loose)) n k + covers (map (data_span lob.page) (versions lob.pieces)) n k
parts_covers lob loose n k =
    let data' = map (data_span lob.page) (versions lob.pieces) in
    let placed = map entry_span (entries lob loose) in
    let heads = map head_span lob.index in
    let fb = base_span (free_base lob.page) in
    let hb = base_span (heads_base lob.page) in
    omega (
      arith,
      covers_cons (first_span lob.page) (hb ∷ fb ∷ (heads ++ (placed ++ data'))) n k,
      covers_cons hb (fb ∷ (heads ++ (placed ++ data'))) n k,
      covers_cons fb (heads ++ (placed ++ data')) n k,
      covers_append heads (placed ++ data') n k,
      covers_append placed data' n k,
      map_covers entry_span (map place_of (versions lob.pieces)) (lob.free ++ loose) n k,
    )

-- spans that have no byte of the LOB but in its free list
pub record Clear (xs : List Span) (lob : Lob) : Type 0 where
  pub first : IsApartFromAll xs (first_span lob.page)
  pub heads : IsApartFromAll xs (base_span (heads_base lob.page))
  pub chain : AreApart xs (map head_span lob.index)
  pub entries : AreApart xs (map entry_span (map place_of (versions lob.pieces)))
  pub «data» : AreApart xs (map (data_span lob.page) (versions lob.pieces))

-- spans with no byte but of the free list's base, and of free and loose entries, are clear of the
-- rest
pub clear_by : (xs : List Span) (lob : Lob) (loose : List Address) → AreWide xs → IsShaped lob loose
    → ((n k : ℕ) → covers xs n k ≤ has (base_span (free_base lob.page)) n k + covers (map entry_span (lob.free ++ loose)) n k) → Clear xs lob
clear_by xs lob loose wide shape within =
    let once = covers_once (lob_parts lob loose) shape.apart in record {
      first = from_all_by xs (first_span lob.page) wide (lit≤ tt) (λ n k. omega (arith, within n k, once n k, parts_covers lob loose n k));
      heads = from_all_by xs (base_span (heads_base lob.page)) wide (lit≤ tt) (λ n k. omega (arith, within n k, once n k, parts_covers lob loose n k));
      chain = across_by xs (map head_span lob.index) wide (map_wide head_span lob.index (λ n. lit≤ tt)) (λ n k. omega (arith, within n k, once n k, parts_covers lob loose n k));
      entries = across_by xs (map entry_span (map place_of (versions lob.pieces))) wide (map_wide entry_span (map place_of (versions lob.pieces)) (λ a. lit≤ tt)) (λ n k. omega (arith, within n k, once n k, parts_covers lob loose n k));
      «data» = across_by xs (map (data_span lob.page) (versions lob.pieces)) wide (map_wide (data_span lob.page) (versions lob.pieces) (data_wide lob.page)) (λ n k. omega (arith, within n k, once n k, parts_covers lob loose n k));
    }

-- the list of free nodes became another, and so did the nodes that are in no list
pub free_changed : (old new : Pages) (lob : Lob) (loose all free loose' : List Address) → IsLobBut old lob loose
    → IsList new (free_base lob.page) free → SameOutside (list_spans (free_base lob.page) all) old new
    → ((n k : ℕ) → covers (map entry_span all) n k ≤ covers (map entry_span (lob.free ++ loose)) n k)
    → ((n k : ℕ) → covers (map entry_span (free ++ loose')) n k ≡ covers (map entry_span (lob.free ++ loose)) n k)
    → length (free ++ loose') ≡ length (lob.free ++ loose)
    → AreEntryPlaces lob.page lob.index (entries (record lob { free = free }) loose')
    → IsLobBut new (record lob { free = free }) loose'
free_changed old new lob loose all free loose' is list same within equal many places =
    let first = lob.page in
    let vs = versions lob.pieces in
    let xs = list_spans (free_base first) all in
    let fb = base_span (free_base first) in
    let wide : AreWide xs = (lit≤ tt, map_wide node_span all (λ a. lit≤ tt)) in
    let clear = clear_by xs lob loose wide is.shape (λ n k. omega (arith, covers_cons fb (map node_span all) n k, nodes_covered all n k, within n k)) in
    let head : IsApartFromAll xs (head_span first) = apart_part xs first 0 64 0 39 (lit≤ tt) (lit≤ tt) clear.first in
    let lob' = record lob { free = free } in
    let once = covers_once (lob_parts lob loose) is.shape.apart in
    let long : length (entries lob' loose') ≡ length (entries lob loose) = omega (arith, length-append (map place_of vs) (free ++ loose'), length-append (map place_of vs) (lob.free ++ loose), many) in
    record {
      first = page_kept xs old new 4 first same head is.first;
      version = field_kept xs old new first 40 4 same (apart_part xs first 0 64 40 4 (lit≤ tt) (lit≤ tt) clear.first) ∙ is.version;
      chain = chain_kept xs old new first lob.index same head clear.chain is.chain;
      heads = list_kept xs old new (heads_base first) (map head_place lob.pieces) same (clear.heads, heads_apart xs lob.pieces clear.entries) is.heads;
      free = list;
      lists = lists_kept xs old new lob.pieces same clear.entries is.lists;
      versions = versions_kept xs old new first vs same clear.entries clear.«data» is.versions;
      shape = record {
        steady = is.shape.steady;
        falling = is.shape.falling;
        full = is.shape.full;
        places = places;
        all = elim is.shape.all [
          | inl all' ↦ inl (long ∙ all')
          | inr none ↦ inr (long ∙ none)
        ];
        apart = pairwise_by (lob_parts lob' loose') (parts_wide lob' loose') (λ n k. omega (arith, once n k, equal n k, parts_covers lob loose n k, parts_covers lob' loose' n k));
      };
    }
