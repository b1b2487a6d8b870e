-- A piece added behind the others: the entry that was taken is the last of the heads.
use Rattle.std.proofs.Common.{◌≡◌, inl, inr, ℕ, ◌+◌, ◌<◌, ◌≤◌, List, [], ◌∷◌, ◌++◌, map, length, sym, ◌∙◌, subst, lit≤, arith}
use Rattle.std.proofs.lemmas.List.{length-append}
use Rattle.page_model.specs.Pages.{Pages}
use Rattle.page_model.specs.Spans.{Span}
use Rattle.page_model.specs.Lists.{list_spans, node_span, base_span}
use Rattle.page_model.proofs.FrameLemmas.{field_kept, apart_part}
use Rattle.page_model.proofs.ListLemmas.{list_kept}
use Rattle.store_data.specs.Store.{Version, Piece, Lob}
use Rattle.lob_model.specs.Pieces.{versions, place_of, head_place, AreFalling}
use Rattle.lob_model.specs.Places.{heads_base, free_base, entry_span, head_span, first_span, data_span, IsEntryPlace, AreEntryPlaces}
use Rattle.lob_model.specs.Lobs.{AreAll, AreVersions, IsLob, entries, lob_parts}
use Rattle.lob_model.specs.Changes.{with_pieces, Adding}
use Rattle.lob_model.proofs.PartLemmas.{tail_span, page_kept, chain_kept, entry_kept, data_kept, bare_at, nodes_apart}
use Rattle.page_model.specs.Counts.{has, covers, AreWide}
use Rattle.page_model.proofs.CoverLemmas.{covers_cons, covers_nil, covers_once, map_wide, map_covers, across_by, from_all_by, pairwise_by}
use Rattle.lob_model.proofs.FreeLemmas.{data_wide, parts_wide, parts_covers}
use Rattle.lob_model.proofs.NodeLemmas.{places_split, places_join}
use Rattle.lob_model.proofs.SplitLemmas.{versions_cut, are_join, lists_join}
use Rattle.lob_model.proofs.CutLemmas.{entries_cut, data_cut, long_cut, node_tail, tail_wide, heads_covered}
use Rattle.lob_model.proofs.RestLemmas.{rest_spans, rest_covers, rest_wide, rest_lists, rest_versions}

-- a piece of one version, without older ones
abbrev pub alone : Version → Piece
alone x = record { head = x; older = [] }

-- the list of heads with the version's entry as its last node: what is written where a piece is
-- added
abbrev pub add_spans : Lob → List Piece → Version → List Span
add_spans l ps x = list_spans (heads_base l.page) (map head_place ps ++ x.place ∷ [])

falling_added : (bound : ℕ) (ps : List Piece) (x : Version) → x.number < bound → AreFalling bound ps → AreFalling bound (ps ++ alone x ∷ [])
falling_added bound [] x known falling = ((known, tt), tt)
falling_added bound (p ∷ ps) x known falling = (falling.0, falling_added bound ps x known falling.1)

-- a piece of one version added behind others has this version behind theirs
pub versions_added : (ps : List Piece) (x : Version) → versions (ps ++ alone x ∷ []) ≡ versions ps ++ x ∷ []
versions_added ps x = versions_cut ps (alone x) []

module _ (old new : Pages) (l : Lob) (ps : List Piece) (x : Version) (is : Adding old new l ps x) where
  E : List Version → ℕ → ℕ → ℕ
  E ys n k = covers (map entry_span (map place_of ys)) n k

  D : List Version → ℕ → ℕ → ℕ
  D ys n k = covers (map (data_span l.page) ys) n k

  parts : (n k : ℕ) → covers (lob_parts (with_pieces l ps) (x.place ∷ [])) n k
      ≡ has (first_span l.page) n k + has (base_span (heads_base l.page)) n k + has (base_span (free_base l.page)) n k + covers (map head_span l.index) n k
      + E (versions ps) n k + (covers (map entry_span l.free) n k + has (entry_span x.place) n k) + D (versions ps) n k
  unfolding E D
  parts n k = omega (arith, parts_covers (with_pieces l ps) (x.place ∷ []) n k, map_covers entry_span l.free (x.place ∷ []) n k, covers_cons (entry_span x.place) [] n k, covers_nil n k)

  parts' : (n k : ℕ) → covers (lob_parts (with_pieces l (ps ++ alone x ∷ [])) []) n k
      ≡ has (first_span l.page) n k + has (base_span (heads_base l.page)) n k + has (base_span (free_base l.page)) n k + covers (map head_span l.index) n k
      + (E (versions ps) n k + has (entry_span x.place) n k) + covers (map entry_span l.free) n k + (D (versions ps) n k + has (data_span l.page x) n k)
  unfolding E D
  parts' n k =
      omega (arith, parts_covers (with_pieces l (ps ++ alone x ∷ [])) [] n k, entries_cut ps (alone x) [] n k, data_cut l.page ps (alone x) [] n k, map_covers entry_span l.free [] n k, covers_nil n k)

  once : (n k : ℕ) → covers (lob_parts (with_pieces l ps) (x.place ∷ [])) n k ≤ 1
  once = covers_once (lob_parts (with_pieces l ps) (x.place ∷ [])) is.lob.shape.apart

  xs : List Span
  xs = add_spans l ps x

  changed : (n k : ℕ) → covers xs n k ≡ has (base_span (heads_base l.page)) n k + (covers (map node_span (map head_place ps)) n k + has (node_span x.place) n k)
  unfolding xs
  changed n k =
      omega (arith, covers_cons (base_span (heads_base l.page)) (map node_span (map head_place ps ++ x.place ∷ [])) n k, map_covers node_span (map head_place ps) (x.place ∷ []) n k, covers_cons (node_span x.place) [] n k, covers_nil n k)

  total : (n k : ℕ) → covers xs n k
      + (has (first_span l.page) n k + has (base_span (free_base l.page)) n k + covers (map head_span l.index) n k
      + covers (rest_spans ps) n k + (covers (map entry_span l.free) n k + has (tail_span x.place) n k) + D (versions ps) n k) ≤ 1
  unfolding E
  total n k = omega (arith, changed n k, parts n k, once n k, node_tail x.place n k, rest_covers ps n k)

  room : (n k : ℕ) → covers (lob_parts (with_pieces l ps) (x.place ∷ [])) n k + has (data_span l.page x) n k ≤ 1
  room n k = let parts = lob_parts (with_pieces l ps) (x.place ∷ []) in omega (arith, covers_once (data_span l.page x ∷ parts) (is.room, is.lob.shape.apart) n k, covers_cons (data_span l.page x) parts n k)

  -- the data of the piece too
  far : (n k : ℕ) → covers xs n k + has (data_span l.page x) n k ≤ 1
  unfolding E
  far n k = omega (arith, changed n k, parts n k, room n k, node_tail x.place n k, heads_covered ps n k)

  wide : AreWide xs
  unfolding xs
  wide = (lit≤ tt, map_wide node_span (map head_place ps ++ x.place ∷ []) (λ a. lit≤ tt))

  again : AreAll (with_pieces l (ps ++ alone x ∷ [])) []
  again = elim is.lob.shape.all [
    | inl all ↦ inl (omega (arith, all, same))
    | inr none ↦ inr (omega (arith, none, same))
  ]
    where
      same : length (entries (with_pieces l (ps ++ alone x ∷ [])) []) ≡ length (entries (with_pieces l ps) (x.place ∷ []))
      same = omega (
        arith,
        length-append (map place_of (versions (ps ++ alone x ∷ []))) (l.free ++ []),
        length-append (map place_of (versions ps)) (l.free ++ x.place ∷ []),
        length-append l.free (x.place ∷ []),
        length-append l.free [],
        long_cut ps (alone x) [],
      )

  pub added_stands : IsLob new (with_pieces l (ps ++ alone x ∷ []))
  unfolding xs E D
  added_stands =
      let lob' = with_pieces l (ps ++ alone x ∷ []) in
      let first = l.page in
      let same = is.outside in
      let ok = is.lob in
      let F = from_all_by xs (first_span first) wide (lit≤ tt) (λ n k. omega (arith, total n k)) in
      let head = apart_part xs first 0 64 0 39 (lit≤ tt) (lit≤ tt) F in
      let fb = from_all_by xs (base_span (free_base first)) wide (lit≤ tt) (λ n k. omega (arith, total n k)) in
      let chain = across_by xs (map head_span l.index) wide (map_wide head_span l.index (λ n. lit≤ tt)) (λ n k. omega (arith, total n k)) in
      let frees = across_by xs (map entry_span l.free) wide (map_wide entry_span l.free (λ a. lit≤ tt)) (λ n k. omega (arith, total n k)) in
      let rest = across_by xs (rest_spans ps) wide (rest_wide ps) (λ n k. omega (arith, total n k)) in
      let tail = from_all_by xs (tail_span x.place) wide (tail_wide x.place) (λ n k. omega (arith, total n k)) in
      let datas = across_by xs (map (data_span first) (versions ps)) wide (map_wide (data_span first) (versions ps) (data_wide first)) (λ n k. omega (arith, total n k)) in
      let own = from_all_by xs (data_span first x) wide (data_wide first x) far in
      let B : List Version → Type 0 = λ vs. AreVersions new first vs in
      let P : List Version → Type 0 = λ vs. AreEntryPlaces first l.index (map place_of vs) in
      let placed = places_split first l.index (map place_of (versions ps)) (l.free ++ x.place ∷ []) ok.shape.places in
      let loose = places_split first l.index l.free (x.place ∷ []) placed.1 in
      record {
        first = page_kept xs old new 4 first same head ok.first;
        version = field_kept xs old new first 40 4 same (apart_part xs first 0 64 40 4 (lit≤ tt) (lit≤ tt) F) ∙ ok.version;
        chain = chain_kept xs old new first l.index same head chain ok.chain;
        heads = is.list;
        free = list_kept xs old new (free_base first) l.free same (fb, nodes_apart xs l.free frees) ok.free;
        lists = lists_join new ps (alone x ∷ []) (rest_lists xs old new ps same rest ok.lists) (bare_at xs old new x.place same tail is.bare, tt, tt);
        versions = subst B (sym (versions_added ps x)) (are_join new first (versions ps) (x ∷ []) (rest_versions xs old new first ps same rest datas ok.versions)
            (record { entry = entry_kept xs old new x.place x same tail is.entry; «data» = data_kept xs old new first x same own is.«data» }, tt));
        shape = record {
          steady = is.steady;
          falling = falling_added (l.version + 1) ps x is.known ok.shape.falling;
          full = is.full;
          places = places_join first l.index (map place_of (versions (ps ++ alone x ∷ []))) (l.free ++ [])
              (subst P (sym (versions_added ps x)) (joined (versions ps) placed.0 loose.1.0)) (places_join first l.index l.free [] loose.0 tt);
          all = again;
          apart = pairwise_by (lob_parts lob' []) (parts_wide lob' []) (λ n k. omega (arith, parts n k, parts' n k, room n k));
        };
      }
    where
      joined : (vs : List Version) → AreEntryPlaces l.page l.index (map place_of vs) → IsEntryPlace l.page l.index x.place → AreEntryPlaces l.page l.index (map place_of (vs ++ x ∷ []))
      joined [] are here = (here, tt)
      joined (v ∷ vs) are here = (are.0, joined vs are.1 here)
