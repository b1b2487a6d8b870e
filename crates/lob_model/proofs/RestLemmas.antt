-- What of a LOB rests on no node of a head: it stays where the list of heads changes.
use Rattle.std.proofs.Common.{ℕ, ◌+◌, ◌≤◌, List, [], ◌∷◌, ◌++◌, map, ap, lit≤, arith}
use Rattle.page_model.specs.Pages.{Pages, Address}
use Rattle.page_model.specs.Spans.{Span, AreApart, SameOutside}
use Rattle.page_model.specs.Lists.{node_span}
use Rattle.page_model.proofs.ListLemmas.{list_kept}
use Rattle.store_data.specs.Store.{Piece}
use Rattle.lob_model.specs.Pieces.{versions, place_of, head_place}
use Rattle.lob_model.specs.Places.{versions_base, entry_span, data_span}
use Rattle.lob_model.specs.Lobs.{AreVersions, HaveLists}
use Rattle.lob_model.proofs.PartLemmas.{tail_span, tail_is, tails_of, map_split, across_split, nodes_apart, entry_kept, data_kept, tails_kept, bare_tails}
use Rattle.page_model.specs.Counts.{covers, AreWide}
use Rattle.page_model.proofs.CoverLemmas.{covers_cons, covers_nil, covers_append, map_covers, wide_append, map_wide}
use Rattle.lob_model.proofs.SplitLemmas.{are_split, are_join, places_cut}
use Rattle.lob_model.proofs.CutLemmas.{node_tail, tail_wide}

-- the heads behind their nodes, and the older entries whole
abbrev pub rest_spans : List Piece → List Span
rest_spans [] = []
rest_spans (p ∷ more) = tail_span p.head.place ∷ (map entry_span (map place_of p.older) ++ rest_spans more)

-- the heads' nodes and the rest, together, have a byte no more often than the entries do
pub rest_covers : (ps : List Piece) (n k : ℕ) → covers (map node_span (map head_place ps)) n k + covers (rest_spans ps) n k ≤ covers (map entry_span (map place_of (versions ps))) n k
rest_covers [] n k = omega (arith, covers_nil n k)
rest_covers (p ∷ more) n k =
    let a = p.head.place in
    let rest = versions more in
    let old = map entry_span (map place_of p.older) in
    omega (
      arith,
      rest_covers more n k,
      node_tail a n k,
      covers_cons (node_span a) (map node_span (map head_place more)) n k,
      covers_cons (tail_span a) (old ++ rest_spans more) n k,
      covers_append old (rest_spans more) n k,
      covers_cons (entry_span a) (map entry_span (map place_of (p.older ++ rest))) n k,
      ap (λ (zs : List Address). covers (map entry_span zs) n k) (places_cut p.older rest),
      map_covers entry_span (map place_of p.older) (map place_of rest) n k,
    )

-- each span of the rest has a byte at all
pub rest_wide : (ps : List Piece) → AreWide (rest_spans ps)
rest_wide [] = tt
rest_wide (p ∷ more) = (tail_wide p.head.place, wide_append (map entry_span (map place_of p.older)) (rest_spans more) (map_wide entry_span (map place_of p.older) (λ a. lit≤ tt)) (rest_wide more))

-- the version lists stay where nothing changes in the entries but for the nodes of the heads
pub rest_lists : (xs : List Span) (old new : Pages) (ps : List Piece) → SameOutside xs old new → AreApart xs (rest_spans ps) → HaveLists old ps → HaveLists new ps
rest_lists xs old new [] same apart have = tt
rest_lists xs old new (p ∷ more) same apart have =
    let a = p.head.place in
    let parts = across_split xs (map entry_span (map place_of p.older)) (rest_spans more) apart.1 in (
      list_kept xs old new (versions_base a) (map place_of p.older) same (tail_is xs a (a.at + 12) 16 (omega arith) (omega arith) apart.0, nodes_apart xs (map place_of p.older) parts.0) have.0,
      bare_tails xs old new p.older same (tails_of xs (map place_of p.older) parts.0) have.1,
      rest_lists xs old new more same parts.1 have.2,
    )

-- the versions stay where nothing changes in their data, nor in the entries but for those nodes
pub rest_versions : (xs : List Span) (old new : Pages) (first : ℕ) (ps : List Piece) → SameOutside xs old new → AreApart xs (rest_spans ps) → AreApart xs (map (data_span first) (versions ps)) → AreVersions old first (versions ps) → AreVersions new first (versions ps)
rest_versions xs old new first [] same apart there are = tt
rest_versions xs old new first (p ∷ more) same apart there are =
    let parts = across_split xs (map entry_span (map place_of p.older)) (rest_spans more) apart.1 in
    let datas = map_split (data_span first) xs p.older (versions more) there.1 in
    let both = are_split old first p.older (versions more) are.1 in (
      record { entry = entry_kept xs old new p.head.place p.head same apart.0 are.0.entry; «data» = data_kept xs old new first p.head same there.0 are.0.«data» },
      are_join new first p.older (versions more) (tails_kept xs old new first p.older same (tails_of xs (map place_of p.older) parts.0) datas.0 both.0) (rest_versions xs old new first more same parts.1 datas.1 both.1),
    )
