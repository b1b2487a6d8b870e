-- The last piece freed: its entry is in no list. Where no piece is left, the free nodes go too.
use Rattle.std.proofs.Common.{refl, ap, ◌≡◌, inl, inr, ℕ, ◌+◌, ◌≤◌, List, [], ◌∷◌, ◌++◌, map, length, sym, ◌∙◌, subst, lit≤, arith}
use Rattle.std.proofs.lemmas.List.{length-append}
use Rattle.page_model.specs.Pages.{Pages, Address}
use Rattle.page_model.specs.Spans.{Span, SameOutside}
use Rattle.page_model.specs.Lists.{IsList, node_span, base_span}
use Rattle.page_model.proofs.FrameLemmas.{field_kept, apart_part}
use Rattle.page_model.proofs.ListLemmas.{list_kept}
use Rattle.store_data.specs.Store.{Version, Piece, Lob}
use Rattle.lob_model.specs.Pieces.{versions, place_of, head_place, HaveLength, AreFalling, AreFull}
use Rattle.lob_model.specs.Places.{heads_base, free_base, entry_span, head_span, first_span, data_span, IsEntryPlace, AreEntryPlaces, IsSteady}
use Rattle.lob_model.specs.Lobs.{AreAll, AreVersions, IsLob, IsLobBut, entries, lob_parts}
use Rattle.lob_model.specs.Changes.{with_pieces, Freeing}
use Rattle.lob_model.proofs.PartLemmas.{tail_span, page_kept, chain_kept, nodes_apart}
use Rattle.page_model.specs.Counts.{has, covers, AreWide}
use Rattle.page_model.proofs.CoverLemmas.{covers_cons, covers_nil, covers_once, map_wide, map_covers, across_by, from_all_by, pairwise_by}
use Rattle.lob_model.proofs.FreeLemmas.{data_wide, parts_wide, parts_covers}
use Rattle.lob_model.proofs.NodeLemmas.{places_split, places_join}
use Rattle.lob_model.proofs.SplitLemmas.{are_split, lists_split}
use Rattle.lob_model.proofs.CutLemmas.{entries_cut, data_cut, long_cut, node_tail}
use Rattle.lob_model.proofs.RestLemmas.{rest_spans, rest_covers, rest_wide, rest_lists, rest_versions}
use Rattle.lob_model.proofs.AddLemmas.{alone, add_spans, versions_added}

steady_front : (k page : ℕ) (ys zs : List Address) → IsSteady k page (ys ++ zs) → IsSteady k page ys
steady_front k page [] zs steady = tt
steady_front k page (y ∷ ys) zs steady = (steady.0, steady_front (k + 1) y.page ys zs steady.1)

heads_added : (ps : List Piece) (x : Version) → map head_place (ps ++ alone x ∷ []) ≡ map head_place ps ++ x.place ∷ []
heads_added [] x = refl
heads_added (p ∷ ps) x = ap (λ (ys : List Address). head_place p ∷ ys) (heads_added ps x)

falling_freed : (bound : ℕ) (ps : List Piece) (x : Version) → AreFalling bound (ps ++ alone x ∷ []) → AreFalling bound ps
falling_freed bound [] x falling = tt
falling_freed bound (p ∷ ps) x falling = (falling.0, falling_freed bound ps x falling.1)

-- the last of the pieces that are left is full
full_freed : (room others : ℕ) (ps : List Piece) (x : Version) → AreFull room others (ps ++ alone x ∷ []) → AreFull room others ps
full_freed room others [] x full = tt
full_freed room others (p ∷ []) x full = (let e = full.0.0 in omega (arith, e), let P : ℕ → Type 0 = λ n. HaveLength n p.older in subst P (sym full.0.0) full.0.1)
full_freed room others (p ∷ q ∷ ps) x full = (full.0, full_freed others others (q ∷ ps) x full.1)

places_left : (first : ℕ) (index : List ℕ) (vs : List Version) (x : Version) → AreEntryPlaces first index (map place_of (vs ++ x ∷ [])) → AreEntryPlaces first index (map place_of vs) × IsEntryPlace first index x.place
places_left first index [] x are = (tt, are.0)
places_left first index (v ∷ vs) x are = let rest = places_left first index vs x are.1 in ((are.0, rest.0), rest.1)

module _ (old new : Pages) (l : Lob) (ps : List Piece) (x : Version) (is : Freeing old new l ps x) where
  E : List Version → ℕ → ℕ → ℕ
  E ys n k = covers (map entry_span (map place_of ys)) n k

  D : List Version → ℕ → ℕ → ℕ
  D ys n k = covers (map (data_span l.page) ys) n k

  parts : (n k : ℕ) → covers (lob_parts (with_pieces l ps) (x.place ∷ [])) n k
      ≡ has (first_span l.page) n k + has (base_span (heads_base l.page)) n k + has (base_span (free_base l.page)) n k + covers (map head_span l.index) n k
      + E (versions ps) n k + (covers (map entry_span l.free) n k + has (entry_span x.place) n k) + D (versions ps) n k
  unfolding E D
  parts n k = omega (arith, parts_covers (with_pieces l ps) (x.place ∷ []) n k, map_covers entry_span l.free (x.place ∷ []) n k, covers_cons (entry_span x.place) [] n k, covers_nil n k)

  parts' : (n k : ℕ) → covers (lob_parts (with_pieces l (ps ++ alone x ∷ [])) []) n k
      ≡ has (first_span l.page) n k + has (base_span (heads_base l.page)) n k + has (base_span (free_base l.page)) n k + covers (map head_span l.index) n k
      + (E (versions ps) n k + has (entry_span x.place) n k) + covers (map entry_span l.free) n k + (D (versions ps) n k + has (data_span l.page x) n k)
  unfolding E D
  parts' n k =
      omega (arith, parts_covers (with_pieces l (ps ++ alone x ∷ [])) [] n k, entries_cut ps (alone x) [] n k, data_cut l.page ps (alone x) [] n k, map_covers entry_span l.free [] n k, covers_nil n k)

  once : (n k : ℕ) → covers (lob_parts (with_pieces l (ps ++ alone x ∷ [])) []) n k ≤ 1
  once = covers_once (lob_parts (with_pieces l (ps ++ alone x ∷ [])) []) is.lob.shape.apart

  xs : List Span
  xs = add_spans l ps x

  changed : (n k : ℕ) → covers xs n k ≡ has (base_span (heads_base l.page)) n k + (covers (map node_span (map head_place ps)) n k + has (node_span x.place) n k)
  unfolding xs
  changed n k =
      omega (arith, covers_cons (base_span (heads_base l.page)) (map node_span (map head_place ps ++ x.place ∷ [])) n k, map_covers node_span (map head_place ps) (x.place ∷ []) n k, covers_cons (node_span x.place) [] n k, covers_nil n k)

  total : (n k : ℕ) → covers xs n k
      + (has (first_span l.page) n k + has (base_span (free_base l.page)) n k + covers (map head_span l.index) n k
      + covers (rest_spans ps) n k + (covers (map entry_span l.free) n k + has (tail_span x.place) n k) + D (versions ps) n k) ≤ 1
  unfolding E
  total n k = omega (arith, changed n k, parts' n k, once n k, node_tail x.place n k, rest_covers ps n k)

  wide : AreWide xs
  unfolding xs
  wide = (lit≤ tt, map_wide node_span (map head_place ps ++ x.place ∷ []) (λ a. lit≤ tt))

  again : AreAll (with_pieces l ps) (x.place ∷ [])
  again = elim is.lob.shape.all [
    | inl all ↦ inl (omega (arith, all, same))
    | inr none ↦ inr (omega (arith, none, same))
  ]
    where
      same : length (entries (with_pieces l ps) (x.place ∷ [])) ≡ length (entries (with_pieces l (ps ++ alone x ∷ [])) [])
      same = omega (
        arith,
        length-append (map place_of (versions (ps ++ alone x ∷ []))) (l.free ++ []),
        length-append (map place_of (versions ps)) (l.free ++ x.place ∷ []),
        length-append l.free (x.place ∷ []),
        length-append l.free [],
        long_cut ps (alone x) [],
      )

  pub freed_stands : IsLobBut new (with_pieces l ps) (x.place ∷ [])
  unfolding xs E D
  freed_stands =
      let lob = with_pieces l ps in
      let first = l.page in
      let same = is.outside in
      let ok = is.lob in
      let F = from_all_by xs (first_span first) wide (lit≤ tt) (λ n k. omega (arith, total n k)) in
      let head = apart_part xs first 0 64 0 39 (lit≤ tt) (lit≤ tt) F in
      let fb = from_all_by xs (base_span (free_base first)) wide (lit≤ tt) (λ n k. omega (arith, total n k)) in
      let chain = across_by xs (map head_span l.index) wide (map_wide head_span l.index (λ n. lit≤ tt)) (λ n k. omega (arith, total n k)) in
      let frees = across_by xs (map entry_span l.free) wide (map_wide entry_span l.free (λ a. lit≤ tt)) (λ n k. omega (arith, total n k)) in
      let rest = across_by xs (rest_spans ps) wide (rest_wide ps) (λ n k. omega (arith, total n k)) in
      let datas = across_by xs (map (data_span first) (versions ps)) wide (map_wide (data_span first) (versions ps) (data_wide first)) (λ n k. omega (arith, total n k)) in
      let A : List Version → Type 0 = λ vs. AreVersions old first vs in
      let P : List Version → Type 0 = λ vs. AreEntryPlaces first l.index (map place_of vs) in
      let S : List Address → Type 0 = λ ys. IsSteady 0 first ys in
      let placed = places_split first l.index (map place_of (versions (ps ++ alone x ∷ []))) (l.free ++ []) ok.shape.places in
      let mine = places_left first l.index (versions ps) x (subst P (versions_added ps x) placed.0) in
      record {
        first = page_kept xs old new 4 first same head ok.first;
        version = field_kept xs old new first 40 4 same (apart_part xs first 0 64 40 4 (lit≤ tt) (lit≤ tt) F) ∙ ok.version;
        chain = chain_kept xs old new first l.index same head chain ok.chain;
        heads = is.list;
        free = list_kept xs old new (free_base first) l.free same (fb, nodes_apart xs l.free frees) ok.free;
        lists = rest_lists xs old new ps same rest (lists_split old ps (alone x ∷ []) ok.lists).0;
        versions = rest_versions xs old new first ps same rest datas (are_split old first (versions ps) (x ∷ []) (subst A (versions_added ps x) ok.versions)).0;
        shape = record {
          steady = steady_front 0 first (map head_place ps) (x.place ∷ []) (subst S (heads_added ps x) ok.shape.steady);
          falling = falling_freed (l.version + 1) ps x ok.shape.falling;
          full = full_freed 15_680 16_327 ps x ok.shape.full;
          places = places_join first l.index (map place_of (versions ps)) (l.free ++ x.place ∷ []) mine.0 (places_join first l.index l.free (x.place ∷ []) (places_split first l.index l.free [] placed.1).0 (mine.1, tt));
          all = again;
          apart = pairwise_by (lob_parts lob (x.place ∷ [])) (parts_wide lob (x.place ∷ [])) (λ n k. omega (arith, parts n k, parts' n k, once n k));
        };
      }

-- behind the last piece the free nodes go too: no entry stands in a list any more
pub emptied_stands : (old new : Pages) (l : Lob) (loose : List Address) → IsLobBut old (with_pieces l []) loose → SameOutside (base_span (free_base l.page) ∷ []) old new → IsList new (free_base l.page) []
    → IsLob new (record l { pieces = []; free = [] })
emptied_stands old new l loose is same list =
    let lob = with_pieces l [] in
    let lob' = record l { pieces = []; free = [] } in
    let first = l.page in
    let xs = base_span (free_base first) ∷ [] in
    let once = covers_once (lob_parts lob loose) is.shape.apart in
    let only : (n k : ℕ) → covers xs n k ≡ has (base_span (free_base first)) n k = λ n k. omega (arith, covers_cons (base_span (free_base first)) [] n k, covers_nil n k) in
    let F = from_all_by xs (first_span first) (lit≤ tt, tt) (lit≤ tt) (λ n k. omega (arith, only n k, once n k, parts_covers lob loose n k)) in
    let head = apart_part xs first 0 64 0 39 (lit≤ tt) (lit≤ tt) F in
    let hb = from_all_by xs (base_span (heads_base first)) (lit≤ tt, tt) (lit≤ tt) (λ n k. omega (arith, only n k, once n k, parts_covers lob loose n k)) in
    let chain = across_by xs (map head_span l.index) (lit≤ tt, tt) (map_wide head_span l.index (λ n. lit≤ tt)) (λ n k. omega (arith, only n k, once n k, parts_covers lob loose n k)) in
    record {
      first = page_kept xs old new 4 first same head is.first;
      version = field_kept xs old new first 40 4 same (apart_part xs first 0 64 40 4 (lit≤ tt) (lit≤ tt) F) ∙ is.version;
      chain = chain_kept xs old new first l.index same head chain is.chain;
      heads = list_kept xs old new (heads_base first) [] same (hb, tt) is.heads;
      free = list;
      lists = tt;
      versions = tt;
      shape = record {
        steady = tt;
        falling = tt;
        full = tt;
        places = tt;
        all = inr refl;
        apart = pairwise_by (lob_parts lob' []) (parts_wide lob' []) (λ n k.
            let a = parts_covers lob loose n k in
            let b = parts_covers lob' [] n k in
            omega (arith, a, b, once n k, covers_nil n k));
      };
    }
