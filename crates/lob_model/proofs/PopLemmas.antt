-- A version popped: the head has the fields of the first older version again, whose node is in no list.
use Rattle.std.proofs.Common.{◌≡◌, inl, inr, ℕ, ◌+◌, ◌≤◌, List, [], ◌∷◌, ◌++◌, map, length, refl, sym, ◌∙◌, subst, lit≤, arith}
use Rattle.std.proofs.lemmas.List.{length-append}
use Rattle.page_model.specs.Pages.{Pages, Address}
use Rattle.page_model.specs.Spans.{Span, AreApart}
use Rattle.page_model.specs.Lists.{IsList, list_spans, node_span, base_span}
use Rattle.page_model.proofs.FrameLemmas.{field_kept, apart_part}
use Rattle.page_model.proofs.ListLemmas.{list_kept}
use Rattle.store_data.specs.Store.{Version, Piece, Lob}
use Rattle.lob_model.specs.Pieces.{versions, piece_versions, place_of, head_place, moved, AreFull, HaveLength}
use Rattle.lob_model.specs.Places.{heads_base, free_base, versions_base, entry_span, head_span, first_span, data_span, IsSteady}
use Rattle.lob_model.specs.Lobs.{AreAll, AreVersions, IsLobBut, entries, lob_parts}
use Rattle.lob_model.specs.Changes.{with_pieces, fields_span, Popping}
use Rattle.lob_model.proofs.PartLemmas.{tail_span, page_kept, chain_kept, versions_kept, tails_kept, lists_kept, data_kept, bare_tails, nodes_apart}
use Rattle.page_model.specs.Counts.{has, covers, AreWide}
use Rattle.page_model.proofs.CoverLemmas.{covers_cons, covers_nil, covers_append, covers_once, wide_append, map_wide, map_covers, across_by, from_all_by, pairwise_by}
use Rattle.lob_model.proofs.FreeLemmas.{data_wide, parts_wide, parts_covers}
use Rattle.lob_model.proofs.NodeLemmas.{places_split, places_join}
use Rattle.lob_model.proofs.SplitLemmas.{versions_cut, heads_same, are_split, are_join, lists_split, lists_join, falling_other}
use Rattle.lob_model.proofs.PushLemmas.{entry_moved, data_moved}
use Rattle.lob_model.proofs.CutLemmas.{entries_cut, data_cut, long_cut, place_in, node_tail, nodes_tails, base_fields, fields_wide, tail_wide, heads_covered, heads_cut, places_other}

-- the piece whose head `x` was moved to the first of its older versions, and the one without
abbrev pub two : Version → Version → List Version → Piece
two h x more = record { head = h; older = x ∷ more }

abbrev pub one : Version → Version → List Version → Piece
one h x more = record { head = moved h.place x; older = more }

abbrev pub pop_spans : Version → Version → List Version → List Span
pop_spans h x more = list_spans (versions_base h.place) (x.place ∷ map place_of more) ++ fields_span h.place ∷ []

-- the versions of a piece are all as long
full_popped : (room : ℕ) (h x : Version) (more : List Version) (cs : List Piece) (others : ℕ) → AreFull room others (two h x more ∷ cs) → AreFull room others (one h x more ∷ cs)
full_popped room h x more [] others full =
    let P : ℕ → Type 0 = λ n. HaveLength n more in (let e = full.1.0 in omega (arith, e, full.0), subst P (sym full.1.0) full.1.1)
full_popped room h x more (c ∷ cs) others full = (full.0.1, full.1)

full_other' : (room others : ℕ) (bs : List Piece) (h x : Version) (more : List Version) (cs : List Piece) → AreFull room others (bs ++ two h x more ∷ cs) → AreFull room others (bs ++ one h x more ∷ cs)
full_other' room others [] h x more cs full = full_popped room h x more cs others full
full_other' room others (b ∷ []) h x more cs full = (full.0, full_popped others h x more cs others full.1)
full_other' room others (b ∷ c ∷ bs) h x more cs full = (full.0, full_other' others others (c ∷ bs) h x more cs full.1)

module _ (old new : Pages) (l : Lob) (bs : List Piece) (h x : Version) (more : List Version) (cs : List Piece) (is : Popping old new l bs h x more cs) where
  E : List Version → ℕ → ℕ → ℕ
  E ys n k = covers (map entry_span (map place_of ys)) n k

  D : List Version → ℕ → ℕ → ℕ
  D ys n k = covers (map (data_span l.page) ys) n k

  parts : (n k : ℕ) → covers (lob_parts (with_pieces l (bs ++ two h x more ∷ cs)) []) n k
      ≡ has (first_span l.page) n k + has (base_span (heads_base l.page)) n k + has (base_span (free_base l.page)) n k + covers (map head_span l.index) n k
      + (E (versions bs) n k + (has (entry_span h.place) n k + (has (entry_span x.place) n k + E more n k)) + E (versions cs) n k)
      + covers (map entry_span l.free) n k
      + (D (versions bs) n k + (has (data_span l.page h) n k + (has (data_span l.page x) n k + D more n k)) + D (versions cs) n k)
  unfolding E D
  parts n k =
      let p = two h x more in
      omega (
        arith,
        parts_covers (with_pieces l (bs ++ p ∷ cs)) [] n k,
        entries_cut bs p cs n k,
        data_cut l.page bs p cs n k,
        map_covers entry_span l.free [] n k,
        covers_nil n k,
        covers_cons (entry_span x.place) (map entry_span (map place_of more)) n k,
        covers_cons (data_span l.page x) (map (data_span l.page) more) n k,
      )

  parts' : (n k : ℕ) → covers (lob_parts (with_pieces l (bs ++ one h x more ∷ cs)) (x.place ∷ [])) n k
      ≡ has (first_span l.page) n k + has (base_span (heads_base l.page)) n k + has (base_span (free_base l.page)) n k + covers (map head_span l.index) n k
      + (E (versions bs) n k + (has (entry_span h.place) n k + E more n k) + E (versions cs) n k)
      + (covers (map entry_span l.free) n k + has (entry_span x.place) n k)
      + (D (versions bs) n k + (has (data_span l.page x) n k + D more n k) + D (versions cs) n k)
  unfolding E D
  parts' n k =
      let q = one h x more in
      omega (
        arith,
        parts_covers (with_pieces l (bs ++ q ∷ cs)) (x.place ∷ []) n k,
        entries_cut bs q cs n k,
        data_cut l.page bs q cs n k,
        map_covers entry_span l.free (x.place ∷ []) n k,
        covers_cons (entry_span x.place) [] n k,
        covers_nil n k,
      )

  once : (n k : ℕ) → covers (lob_parts (with_pieces l (bs ++ two h x more ∷ cs)) []) n k ≤ 1
  once = covers_once (lob_parts (with_pieces l (bs ++ two h x more ∷ cs)) []) is.lob.shape.apart

  xs : List Span
  xs = pop_spans h x more

  changed : (n k : ℕ) → covers xs n k ≤ has (tail_span h.place) n k + has (node_span x.place) n k + covers (map node_span (map place_of more)) n k
  unfolding xs
  changed n k =
      let vb = versions_base h.place in
      let nodes = map node_span (x.place ∷ map place_of more) in
      omega (
        arith,
        covers_append (base_span vb ∷ nodes) (fields_span h.place ∷ []) n k,
        covers_cons (base_span vb) nodes n k,
        covers_cons (node_span x.place) (map node_span (map place_of more)) n k,
        covers_cons (fields_span h.place) [] n k,
        covers_nil n k,
        base_fields h.place n k,
      )

  total : (n k : ℕ) → covers xs n k
      + (has (first_span l.page) n k + has (base_span (heads_base l.page)) n k + has (base_span (free_base l.page)) n k + covers (map head_span l.index) n k
      + (E (versions bs) n k + (has (node_span h.place) n k + (has (tail_span x.place) n k + covers (map tail_span (map place_of more)) n k)) + E (versions cs) n k)
      + covers (map entry_span l.free) n k
      + (D (versions bs) n k + (has (data_span l.page h) n k + (has (data_span l.page x) n k + D more n k)) + D (versions cs) n k)) ≤ 1
  unfolding E
  total n k = omega (arith, changed n k, parts n k, once n k, node_tail h.place n k, node_tail x.place n k, nodes_tails (map place_of more) n k)

  wide : AreWide xs
  unfolding xs
  wide = (lit≤ tt, wide_append (map node_span (x.place ∷ map place_of more)) (fields_span h.place ∷ []) (map_wide node_span (x.place ∷ map place_of more) (λ a. lit≤ tt)) (fields_wide h.place, tt))

  far_from : (vs : List Version) → ((n k : ℕ) → covers xs n k + E vs n k ≤ 1) → AreApart xs (map entry_span (map place_of vs))
  unfolding E
  far_from vs least = across_by xs (map entry_span (map place_of vs)) wide (map_wide entry_span (map place_of vs) (λ a. lit≤ tt)) least

  far_data : (vs : List Version) → ((n k : ℕ) → covers xs n k + D vs n k ≤ 1) → AreApart xs (map (data_span l.page) vs)
  unfolding D
  far_data vs least = across_by xs (map (data_span l.page) vs) wide (map_wide (data_span l.page) vs (data_wide l.page)) least

  again : AreAll (with_pieces l (bs ++ one h x more ∷ cs)) (x.place ∷ [])
  again = elim is.lob.shape.all [
    | inl all ↦ inl (omega (arith, all, same))
    | inr none ↦ inr (omega (arith, none, same))
  ]
    where
      same : length (entries (with_pieces l (bs ++ one h x more ∷ cs)) (x.place ∷ [])) ≡ length (entries (with_pieces l (bs ++ two h x more ∷ cs)) [])
      same = omega (
        arith,
        length-append (map place_of (versions (bs ++ two h x more ∷ cs))) (l.free ++ []),
        length-append (map place_of (versions (bs ++ one h x more ∷ cs))) (l.free ++ x.place ∷ []),
        length-append l.free (x.place ∷ []),
        length-append l.free [],
        long_cut bs (two h x more) cs,
        long_cut bs (one h x more) cs,
      )

  pub popped_stands : IsLobBut new (with_pieces l (bs ++ one h x more ∷ cs)) (x.place ∷ [])
  unfolding xs E D
  popped_stands =
      let p = two h x more in
      let q = one h x more in
      let lob' = with_pieces l (bs ++ q ∷ cs) in
      let first = l.page in
      let a = h.place in
      let same = is.outside in
      let ok = is.lob in
      let F = from_all_by xs (first_span first) wide (lit≤ tt) (λ n k. omega (arith, total n k)) in
      let head = apart_part xs first 0 64 0 39 (lit≤ tt) (lit≤ tt) F in
      let hb = from_all_by xs (base_span (heads_base first)) wide (lit≤ tt) (λ n k. omega (arith, total n k)) in
      let fb = from_all_by xs (base_span (free_base first)) wide (lit≤ tt) (λ n k. omega (arith, total n k)) in
      let chain = across_by xs (map head_span l.index) wide (map_wide head_span l.index (λ n. lit≤ tt)) (λ n k. omega (arith, total n k)) in
      let frees = across_by xs (map entry_span l.free) wide (map_wide entry_span l.free (λ a. lit≤ tt)) (λ n k. omega (arith, total n k)) in
      let heads = across_by xs (map node_span (map head_place (bs ++ p ∷ cs))) wide (map_wide node_span (map head_place (bs ++ p ∷ cs)) (λ a. lit≤ tt))
      (λ n k. omega (arith, total n k, heads_cut bs p cs n k, heads_covered bs n k, heads_covered cs n k)) in
      let Ebs = far_from (versions bs) (λ n k. omega (arith, total n k)) in
      let Ecs = far_from (versions cs) (λ n k. omega (arith, total n k)) in
      let tails = across_by xs (map tail_span (map place_of more)) wide (map_wide tail_span (map place_of more) tail_wide) (λ n k. omega (arith, total n k)) in
      let Dbs = far_data (versions bs) (λ n k. omega (arith, total n k)) in
      let Dcs = far_data (versions cs) (λ n k. omega (arith, total n k)) in
      let Dold = far_data more (λ n k. omega (arith, total n k)) in
      let Dhead = from_all_by xs (data_span first x) wide (data_wide first x) (λ n k. omega (arith, total n k)) in
      let A : List Version → Type 0 = λ vs. AreVersions old first vs in
      let all = are_split old first (versions bs) (piece_versions p ++ versions cs) (subst A (versions_cut bs p cs) ok.versions) in
      let mine = are_split old first (piece_versions p) (versions cs) all.1 in
      let lists = lists_split old bs (p ∷ cs) ok.lists in
      let H : List Address → Type 0 = λ ys. IsList new (heads_base first) ys in
      let B : List Version → Type 0 = λ vs. AreVersions new first vs in
      let now : AreVersions new first (piece_versions q) = (
        record { entry = entry_moved new a a x is.here; «data» = data_moved new first a x (data_kept xs old new first x same Dhead mine.0.1.0.«data») },
        tails_kept xs old new first more same tails Dold mine.0.1.1,
      ) in
      let S : List Address → Type 0 = λ ys. IsSteady 0 first ys in
      let placed = places_split first l.index (map place_of (versions (bs ++ p ∷ cs))) (l.free ++ []) ok.shape.places in
      let node = place_in l.page l.index bs p cs placed.0 in
      record {
        first = page_kept xs old new 4 first same head ok.first;
        version = field_kept xs old new first 40 4 same (apart_part xs first 0 64 40 4 (lit≤ tt) (lit≤ tt) F) ∙ ok.version;
        chain = chain_kept xs old new first l.index same head chain ok.chain;
        heads = subst H (heads_same bs p q cs refl) (list_kept xs old new (heads_base first) (map head_place (bs ++ p ∷ cs)) same (hb, heads) ok.heads);
        free = list_kept xs old new (free_base first) l.free same (fb, nodes_apart xs l.free frees) ok.free;
        lists = lists_join new bs (q ∷ cs) (lists_kept xs old new bs same Ebs lists.0)
            (is.list, bare_tails xs old new more same tails lists.1.1.1, lists_kept xs old new cs same Ecs lists.1.2);
        versions = subst B (sym (versions_cut bs q cs)) (are_join new first (versions bs) (piece_versions q ++ versions cs) (versions_kept xs old new first (versions bs) same Ebs Dbs all.0)
            (are_join new first (piece_versions q) (versions cs) now (versions_kept xs old new first (versions cs) same Ecs Dcs mine.1)));
        shape = record {
          steady = subst S (heads_same bs p q cs refl) ok.shape.steady;
          falling = falling_other (l.version + 1) bs p q cs (λ falling. (let low = falling.0 in let lower = falling.1.0 in omega (arith, low, lower), falling.1.1)) ok.shape.falling;
          full = full_other' 15_680 16_327 bs h x more cs ok.shape.full;
          places = places_join first l.index (map place_of (versions (bs ++ q ∷ cs))) (l.free ++ x.place ∷ [])
              (places_other first l.index bs p q cs (λ are. (are.0, are.1.1)) placed.0)
              (places_join first l.index l.free (x.place ∷ []) (places_split first l.index l.free [] placed.1).0 (node.1.0, tt));
          all = again;
          apart = pairwise_by (lob_parts lob' (x.place ∷ [])) (parts_wide lob' (x.place ∷ [])) (λ n k. omega (arith, parts n k, parts' n k, once n k));
        };
      }
