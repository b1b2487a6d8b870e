-- The oldest version dropped: its node is in no list.
use Rattle.std.proofs.Common.{◌≡◌, inl, inr, ℕ, ◌+◌, ◌≤◌, List, [], ◌∷◌, ◌++◌, map, length, refl, sym, ap, ◌∙◌, subst, lit≤, arith}
use Rattle.std.proofs.lemmas.List.{length-append}
use Rattle.page_model.specs.Pages.{Pages, Address}
use Rattle.page_model.specs.Spans.{Span, AreApart}
use Rattle.page_model.specs.Lists.{IsList, list_spans, node_span, base_span}
use Rattle.page_model.proofs.FrameLemmas.{field_kept, apart_part}
use Rattle.page_model.proofs.ListLemmas.{list_kept}
use Rattle.store_data.specs.Store.{Version, Piece, Lob}
use Rattle.lob_model.specs.Pieces.{versions, piece_versions, place_of, head_place, IsFalling, AreFull, HaveLength}
use Rattle.lob_model.specs.Places.{heads_base, free_base, versions_base, entry_span, head_span, first_span, data_span, AreEntryPlaces, IsSteady}
use Rattle.lob_model.specs.Lobs.{AreAll, AreBare, AreVersions, IsLobBut, entries, lob_parts}
use Rattle.lob_model.specs.Changes.{with_pieces, fields_span, Dropping}
use Rattle.lob_model.proofs.PartLemmas.{tail_span, page_kept, chain_kept, versions_kept, tails_kept, lists_kept, fields_kept, data_kept, bare_tails, nodes_apart}
use Rattle.page_model.specs.Counts.{has, covers, AreWide}
use Rattle.page_model.proofs.CoverLemmas.{covers_cons, covers_nil, covers_once, map_wide, map_covers, across_by, from_all_by, pairwise_by}
use Rattle.lob_model.proofs.FreeLemmas.{data_wide, parts_wide, parts_covers}
use Rattle.lob_model.proofs.NodeLemmas.{places_split, places_join}
use Rattle.lob_model.proofs.SplitLemmas.{versions_cut, places_cut, heads_same, are_split, are_join, lists_split, lists_join, falling_other}
use Rattle.lob_model.proofs.CutLemmas.{entries_cut, data_cut, long_cut, place_in, node_tail, nodes_tails, base_fields, fields_wide, tail_wide, heads_covered, heads_cut, places_other}

-- a piece with an oldest version, and without it
abbrev pub ended : Version → List Version → Version → Piece
ended h ys x = record { head = h; older = ys ++ x ∷ [] }

abbrev pub cut : Version → List Version → Piece
cut h ys = record { head = h; older = ys }

abbrev pub drop_spans : Version → List Version → Version → List Span
drop_spans h ys x = list_spans (versions_base h.place) (map place_of (ys ++ x ∷ []))

length_front : (n : ℕ) (ys zs : List Version) → HaveLength n (ys ++ zs) → HaveLength n ys
length_front n [] zs have = tt
length_front n (y ∷ ys) zs have = (have.0, length_front n ys zs have.1)

falling_front : (n : ℕ) (ys zs : List Version) → IsFalling n (ys ++ zs) → IsFalling n ys
falling_front n [] zs falling = tt
falling_front n (y ∷ ys) zs falling = (falling.0, falling_front y.number ys zs falling.1)

full_cut : (room : ℕ) (h x : Version) (ys : List Version) (cs : List Piece) (others : ℕ) → AreFull room others (ended h ys x ∷ cs) → AreFull room others (cut h ys ∷ cs)
full_cut room h x ys [] others full = (full.0, length_front (length h.bytes) ys (x ∷ []) full.1)
full_cut room h x ys (c ∷ cs) others full = ((full.0.0, length_front room ys (x ∷ []) full.0.1), full.1)

full_other' : (room others : ℕ) (bs : List Piece) (h x : Version) (ys : List Version) (cs : List Piece) → AreFull room others (bs ++ ended h ys x ∷ cs) → AreFull room others (bs ++ cut h ys ∷ cs)
full_other' room others [] h x ys cs full = full_cut room h x ys cs others full
full_other' room others (b ∷ []) h x ys cs full = (full.0, full_cut others h x ys cs others full.1)
full_other' room others (b ∷ c ∷ bs) h x ys cs full = (full.0, full_other' others others (c ∷ bs) h x ys cs full.1)

bare_split : (pages : Pages) (ys zs : List Version) → AreBare pages (ys ++ zs) → AreBare pages ys
bare_split pages [] zs bare = tt
bare_split pages (y ∷ ys) zs bare = (bare.0, bare_split pages ys zs bare.1)

places_front : (first : ℕ) (index : List ℕ) (ys zs : List Version) → AreEntryPlaces first index (map place_of (ys ++ zs)) → AreEntryPlaces first index (map place_of ys) × AreEntryPlaces first index (map place_of zs)
places_front first index [] zs are = (tt, are)
places_front first index (y ∷ ys) zs are = let rest = places_front first index ys zs are.1 in ((are.0, rest.0), rest.1)

module _ (old new : Pages) (l : Lob) (bs : List Piece) (h : Version) (ys : List Version) (x : Version) (cs : List Piece) (is : Dropping old new l bs h ys x cs) where
  E : List Version → ℕ → ℕ → ℕ
  E vs n k = covers (map entry_span (map place_of vs)) n k

  D : List Version → ℕ → ℕ → ℕ
  D vs n k = covers (map (data_span l.page) vs) n k

  older : (n k : ℕ) → E (ys ++ x ∷ []) n k ≡ E ys n k + has (entry_span x.place) n k
  unfolding E
  older n k = omega (arith, ap (λ (zs : List Address). covers (map entry_span zs) n k) (places_cut ys (x ∷ [])), map_covers entry_span (map place_of ys) (x.place ∷ []) n k, covers_cons (entry_span x.place) [] n k, covers_nil n k)

  older_data : (n k : ℕ) → D (ys ++ x ∷ []) n k ≡ D ys n k + has (data_span l.page x) n k
  unfolding D
  older_data n k = omega (arith, map_covers (data_span l.page) ys (x ∷ []) n k, covers_cons (data_span l.page x) [] n k, covers_nil n k)

  parts : (n k : ℕ) → covers (lob_parts (with_pieces l (bs ++ ended h ys x ∷ cs)) []) n k
      ≡ has (first_span l.page) n k + has (base_span (heads_base l.page)) n k + has (base_span (free_base l.page)) n k + covers (map head_span l.index) n k
      + (E (versions bs) n k + (has (entry_span h.place) n k + (E ys n k + has (entry_span x.place) n k)) + E (versions cs) n k)
      + covers (map entry_span l.free) n k
      + (D (versions bs) n k + (has (data_span l.page h) n k + (D ys n k + has (data_span l.page x) n k)) + D (versions cs) n k)
  unfolding E D
  parts n k =
      let p = ended h ys x in
      omega (
        arith,
        parts_covers (with_pieces l (bs ++ p ∷ cs)) [] n k,
        entries_cut bs p cs n k,
        data_cut l.page bs p cs n k,
        map_covers entry_span l.free [] n k,
        covers_nil n k,
        older n k,
        older_data n k,
      )

  parts' : (n k : ℕ) → covers (lob_parts (with_pieces l (bs ++ cut h ys ∷ cs)) (x.place ∷ [])) n k
      ≡ has (first_span l.page) n k + has (base_span (heads_base l.page)) n k + has (base_span (free_base l.page)) n k + covers (map head_span l.index) n k
      + (E (versions bs) n k + (has (entry_span h.place) n k + E ys n k) + E (versions cs) n k)
      + (covers (map entry_span l.free) n k + has (entry_span x.place) n k)
      + (D (versions bs) n k + (has (data_span l.page h) n k + D ys n k) + D (versions cs) n k)
  unfolding E D
  parts' n k =
      let q = cut h ys in
      omega (
        arith,
        parts_covers (with_pieces l (bs ++ q ∷ cs)) (x.place ∷ []) n k,
        entries_cut bs q cs n k,
        data_cut l.page bs q cs n k,
        map_covers entry_span l.free (x.place ∷ []) n k,
        covers_cons (entry_span x.place) [] n k,
        covers_nil n k,
      )

  once : (n k : ℕ) → covers (lob_parts (with_pieces l (bs ++ ended h ys x ∷ cs)) []) n k ≤ 1
  once = covers_once (lob_parts (with_pieces l (bs ++ ended h ys x ∷ cs)) []) is.lob.shape.apart

  xs : List Span
  xs = drop_spans h ys x

  changed : (n k : ℕ) → covers xs n k ≡ has (base_span (versions_base h.place)) n k + (covers (map node_span (map place_of ys)) n k + has (node_span x.place) n k)
  unfolding xs
  changed n k =
      omega (
        arith,
        covers_cons (base_span (versions_base h.place)) (map node_span (map place_of (ys ++ x ∷ []))) n k,
        ap (λ (zs : List Address). covers (map node_span zs) n k) (places_cut ys (x ∷ [])),
        map_covers node_span (map place_of ys) (x.place ∷ []) n k,
        covers_cons (node_span x.place) [] n k,
        covers_nil n k,
      )

  total : (n k : ℕ) → covers xs n k
      + (has (first_span l.page) n k + has (base_span (heads_base l.page)) n k + has (base_span (free_base l.page)) n k + covers (map head_span l.index) n k
      + (E (versions bs) n k + (has (node_span h.place) n k + has (fields_span h.place) n k + covers (map tail_span (map place_of ys)) n k) + E (versions cs) n k)
      + covers (map entry_span l.free) n k
      + (D (versions bs) n k + (has (data_span l.page h) n k + D ys n k) + D (versions cs) n k)) ≤ 1
  unfolding E
  total n k = omega (arith, changed n k, parts n k, once n k, node_tail h.place n k, base_fields h.place n k, node_tail x.place n k, nodes_tails (map place_of ys) n k)

  wide : AreWide xs
  unfolding xs
  wide = (lit≤ tt, map_wide node_span (map place_of (ys ++ x ∷ [])) (λ a. lit≤ tt))

  far_from : (vs : List Version) → ((n k : ℕ) → covers xs n k + E vs n k ≤ 1) → AreApart xs (map entry_span (map place_of vs))
  unfolding E
  far_from vs least = across_by xs (map entry_span (map place_of vs)) wide (map_wide entry_span (map place_of vs) (λ a. lit≤ tt)) least

  far_data : (vs : List Version) → ((n k : ℕ) → covers xs n k + D vs n k ≤ 1) → AreApart xs (map (data_span l.page) vs)
  unfolding D
  far_data vs least = across_by xs (map (data_span l.page) vs) wide (map_wide (data_span l.page) vs (data_wide l.page)) least

  again : AreAll (with_pieces l (bs ++ cut h ys ∷ cs)) (x.place ∷ [])
  again = elim is.lob.shape.all [
    | inl all ↦ inl (omega (arith, all, same))
    | inr none ↦ inr (omega (arith, none, same))
  ]
    where
      same : length (entries (with_pieces l (bs ++ cut h ys ∷ cs)) (x.place ∷ [])) ≡ length (entries (with_pieces l (bs ++ ended h ys x ∷ cs)) [])
      same = omega (
        arith,
        length-append (map place_of (versions (bs ++ ended h ys x ∷ cs))) (l.free ++ []),
        length-append (map place_of (versions (bs ++ cut h ys ∷ cs))) (l.free ++ x.place ∷ []),
        length-append l.free (x.place ∷ []),
        length-append l.free [],
        long_cut bs (ended h ys x) cs,
        long_cut bs (cut h ys) cs,
        ap (λ (zs : List Address). length zs) (places_cut ys (x ∷ [])),
        length-append (map place_of ys) (x.place ∷ []),
      )

  pub dropped_stands : IsLobBut new (with_pieces l (bs ++ cut h ys ∷ cs)) (x.place ∷ [])
  unfolding xs E D
  dropped_stands =
      let p = ended h ys x in
      let q = cut h ys in
      let lob' = with_pieces l (bs ++ q ∷ cs) in
      let first = l.page in
      let a = h.place in
      let same = is.outside in
      let ok = is.lob in
      let F = from_all_by xs (first_span first) wide (lit≤ tt) (λ n k. omega (arith, total n k)) in
      let head = apart_part xs first 0 64 0 39 (lit≤ tt) (lit≤ tt) F in
      let hb = from_all_by xs (base_span (heads_base first)) wide (lit≤ tt) (λ n k. omega (arith, total n k)) in
      let fb = from_all_by xs (base_span (free_base first)) wide (lit≤ tt) (λ n k. omega (arith, total n k)) in
      let chain = across_by xs (map head_span l.index) wide (map_wide head_span l.index (λ n. lit≤ tt)) (λ n k. omega (arith, total n k)) in
      let frees = across_by xs (map entry_span l.free) wide (map_wide entry_span l.free (λ a. lit≤ tt)) (λ n k. omega (arith, total n k)) in
      let heads = across_by xs (map node_span (map head_place (bs ++ p ∷ cs))) wide (map_wide node_span (map head_place (bs ++ p ∷ cs)) (λ a. lit≤ tt))
      (λ n k. omega (arith, total n k, heads_cut bs p cs n k, heads_covered bs n k, heads_covered cs n k)) in
      let Ebs = far_from (versions bs) (λ n k. omega (arith, total n k)) in
      let Ecs = far_from (versions cs) (λ n k. omega (arith, total n k)) in
      let tails = across_by xs (map tail_span (map place_of ys)) wide (map_wide tail_span (map place_of ys) tail_wide) (λ n k. omega (arith, total n k)) in
      let Dbs = far_data (versions bs) (λ n k. omega (arith, total n k)) in
      let Dcs = far_data (versions cs) (λ n k. omega (arith, total n k)) in
      let Dold = far_data ys (λ n k. omega (arith, total n k)) in
      let Dhead = from_all_by xs (data_span first h) wide (data_wide first h) (λ n k. omega (arith, total n k)) in
      let A : List Version → Type 0 = λ vs. AreVersions old first vs in
      let all = are_split old first (versions bs) (piece_versions p ++ versions cs) (subst A (versions_cut bs p cs) ok.versions) in
      let mine = are_split old first (piece_versions p) (versions cs) all.1 in
      let lists = lists_split old bs (p ∷ cs) ok.lists in
      let H : List Address → Type 0 = λ ys. IsList new (heads_base first) ys in
      let B : List Version → Type 0 = λ vs. AreVersions new first vs in
      let Fields = from_all_by xs (fields_span a) wide (fields_wide a) (λ n k. omega (arith, total n k)) in
      let was = are_split old first ys (x ∷ []) mine.0.1 in
      let now : AreVersions new first (piece_versions q) = (
        record { entry = fields_kept xs old new a h same Fields mine.0.0.entry; «data» = data_kept xs old new first h same Dhead mine.0.0.«data» },
        tails_kept xs old new first ys same tails Dold was.0,
      ) in
      let S : List Address → Type 0 = λ ys. IsSteady 0 first ys in
      let placed = places_split first l.index (map place_of (versions (bs ++ p ∷ cs))) (l.free ++ []) ok.shape.places in
      let node = place_in l.page l.index bs p cs placed.0 in
      record {
        first = page_kept xs old new 4 first same head ok.first;
        version = field_kept xs old new first 40 4 same (apart_part xs first 0 64 40 4 (lit≤ tt) (lit≤ tt) F) ∙ ok.version;
        chain = chain_kept xs old new first l.index same head chain ok.chain;
        heads = subst H (heads_same bs p q cs refl) (list_kept xs old new (heads_base first) (map head_place (bs ++ p ∷ cs)) same (hb, heads) ok.heads);
        free = list_kept xs old new (free_base first) l.free same (fb, nodes_apart xs l.free frees) ok.free;
        lists = lists_join new bs (q ∷ cs) (lists_kept xs old new bs same Ebs lists.0)
            (is.list, bare_tails xs old new ys same tails (bare_split old ys (x ∷ []) lists.1.1), lists_kept xs old new cs same Ecs lists.1.2);
        versions = subst B (sym (versions_cut bs q cs)) (are_join new first (versions bs) (piece_versions q ++ versions cs) (versions_kept xs old new first (versions bs) same Ebs Dbs all.0)
            (are_join new first (piece_versions q) (versions cs) now (versions_kept xs old new first (versions cs) same Ecs Dcs mine.1)));
        shape = record {
          steady = subst S (heads_same bs p q cs refl) ok.shape.steady;
          falling = falling_other (l.version + 1) bs p q cs (λ falling. (falling.0, falling_front h.number ys (x ∷ []) falling.1)) ok.shape.falling;
          full = full_other' 15_680 16_327 bs h x ys cs ok.shape.full;
          places = places_join first l.index (map place_of (versions (bs ++ q ∷ cs))) (l.free ++ x.place ∷ [])
              (places_other first l.index bs p q cs (λ are. (are.0, (places_front first l.index ys (x ∷ []) are.1).0)) placed.0)
              (places_join first l.index l.free (x.place ∷ []) (places_split first l.index l.free [] placed.1).0 (places_front first l.index ys (x ∷ []) node.1).1);
          all = again;
          apart = pairwise_by (lob_parts lob' (x.place ∷ [])) (parts_wide lob' (x.place ∷ [])) (λ n k. omega (arith, parts n k, parts' n k, once n k));
        };
      }
