-- A version pushed: the entry that was taken has the fields of the head before, and the head the new ones.
use Rattle.std.proofs.Common.{◌≡◌, inl, inr, ℕ, ◌+◌, ◌≤◌, List, [], ◌∷◌, ◌++◌, map, length, refl, sym, ap, ◌∙◌, subst, lit≤, arith}
use Rattle.std.proofs.lemmas.List.{length-append}
use Rattle.page_model.specs.Pages.{Pages, Address}
use Rattle.page_model.specs.Spans.{Span, IsOff, IsApart, IsApartFromAll, AreApart}
use Rattle.page_model.specs.Lists.{IsList, node_span, base_span}
use Rattle.page_model.proofs.FrameLemmas.{field_kept, apart_part}
use Rattle.page_model.proofs.ListLemmas.{list_kept}
use Rattle.store_data.specs.Store.{Version, Piece, Lob}
use Rattle.store_data.specs.Pieces.{pushed}
use Rattle.lob_model.specs.Pieces.{versions, piece_versions, place_of, head_place, moved}
use Rattle.lob_model.specs.Places.{heads_base, free_base, versions_base, entry_span, head_span, first_span, data_span, whole_page, IsSteady}
use Rattle.lob_model.specs.Lobs.{AreAll, IsEntryOf, HasData, AreVersions, IsLob, entries, lob_parts, lob_spans}
use Rattle.lob_model.specs.Changes.{with_pieces, fields_span, push_spans, Pushing}
use Rattle.lob_model.proofs.PartLemmas.{tail_span, page_kept, chain_kept, versions_kept, tails_kept, lists_kept, entry_kept, data_kept, bare_at, bare_tails, nodes_apart, data_elsewhere}
use Rattle.page_model.specs.Counts.{has, IsIn, covers, AreWide}
use Rattle.page_model.proofs.CoverLemmas.{has_off, in_or_off, covers_cons, covers_nil, covers_append, covers_once, wide_append, map_wide, map_covers, across_by, from_all_by, pairwise_by, covers_off}
use Rattle.lob_model.proofs.FreeLemmas.{data_wide, parts_wide, parts_covers}
use Rattle.lob_model.proofs.NodeLemmas.{off_pages, places_split, places_join}
use Rattle.lob_model.proofs.SplitLemmas.{versions_cut, heads_same, are_split, are_join, lists_split, lists_join, falling_other, full_other}
use Rattle.lob_model.proofs.CutLemmas.{entries_cut, data_cut, long_cut, node_tail, nodes_tails, base_fields, fields_wide, tail_wide, heads_covered, heads_cut, places_other}

-- a byte of a page that is apart from all of these is in none of them
pub fresh_off : (ss : List Span) (t : Span) (n k : ℕ) → IsApartFromAll ss t → IsIn t n k → covers ss n k ≡ 0
fresh_off [] t n k apart is = covers_nil n k
fresh_off (s ∷ ss) t n k apart is = omega (arith, covers_cons s ss n k, fresh_off ss t n k apart.1 is, has_off s n k (one apart.0))
  where
    one : IsApart s t → IsOff s n k
    one (inl other) = inl (λ e. other (sym is.0 ∙ e))
    one (inr (inl before)) = let high = is.2 in inr (inl (omega (arith, before, high)))
    one (inr (inr behind)) = let low = is.1 in inr (inr (omega (arith, behind, low)))

-- a fresh page isn't the first one
pub fresh_other : (lob : Lob) (d : ℕ) → IsApartFromAll (lob_spans lob) (whole_page d) → d ≡ lob.page → ⊥
fresh_other lob d fresh same = elim fresh.0 [ inl other ↦ other same | inr (inl before) ↦ omega (arith, before) | inr (inr behind) ↦ omega (arith, behind) ]

-- where its entry stands is no part of what a version is
pub entry_moved : (pages : Pages) (a b : Address) (x : Version) → IsEntryOf pages a x → IsEntryOf pages a (moved b x)
entry_moved pages a b x is = record { creator = is.creator; modifier = is.modifier; creator_undo = is.creator_undo; modifier_undo = is.modifier_undo; page = is.page; long = is.long; number = is.number }

-- the data of a version stays where its entry has moved to another place
pub data_moved : (pages : Pages) (first : ℕ) (b : Address) (x : Version) → HasData pages first x → HasData pages first (moved b x)
data_moved pages first b x is = record { place = is.place; fits = is.fits; bytes = is.bytes; type' = is.type' }

module _ (old new : Pages) (l : Lob) (bs : List Piece) (p : Piece) (cs : List Piece) (x : Version) (node : Address) (is : Pushing old new l bs p cs x node) where
  E : List Version → ℕ → ℕ → ℕ
  E xs n k = covers (map entry_span (map place_of xs)) n k

  D : List Version → ℕ → ℕ → ℕ
  D xs n k = covers (map (data_span l.page) xs) n k

  -- all parts before, cut at the piece
  parts : (n k : ℕ) → covers (lob_parts (with_pieces l (bs ++ p ∷ cs)) (node ∷ [])) n k
      ≡ has (first_span l.page) n k + has (base_span (heads_base l.page)) n k + has (base_span (free_base l.page)) n k + covers (map head_span l.index) n k
      + (E (versions bs) n k + (has (entry_span p.head.place) n k + E p.older n k) + E (versions cs) n k)
      + (covers (map entry_span l.free) n k + has (entry_span node) n k)
      + (D (versions bs) n k + (has (data_span l.page p.head) n k + D p.older n k) + D (versions cs) n k)
  unfolding E D
  parts n k =
      omega (
        arith,
        parts_covers (with_pieces l (bs ++ p ∷ cs)) (node ∷ []) n k,
        entries_cut bs p cs n k,
        data_cut l.page bs p cs n k,
        map_covers entry_span l.free (node ∷ []) n k,
        covers_cons (entry_span node) [] n k,
        covers_nil n k,
      )

  -- and behind
  parts' : (n k : ℕ) → covers (lob_parts (with_pieces l (bs ++ pushed node x p ∷ cs)) []) n k
      ≡ has (first_span l.page) n k + has (base_span (heads_base l.page)) n k + has (base_span (free_base l.page)) n k + covers (map head_span l.index) n k
      + (E (versions bs) n k + (has (entry_span p.head.place) n k + (has (entry_span node) n k + E p.older n k)) + E (versions cs) n k)
      + covers (map entry_span l.free) n k
      + (D (versions bs) n k + (has (data_span l.page x) n k + (has (data_span l.page p.head) n k + D p.older n k)) + D (versions cs) n k)
  unfolding E D
  parts' n k =
      let q = pushed node x p in
      omega (
        arith,
        parts_covers (with_pieces l (bs ++ q ∷ cs)) [] n k,
        entries_cut bs q cs n k,
        data_cut l.page bs q cs n k,
        map_covers entry_span l.free [] n k,
        covers_nil n k,
        covers_cons (entry_span node) (map entry_span (map place_of p.older)) n k,
        covers_cons (data_span l.page (moved node p.head)) (map (data_span l.page) p.older) n k,
      )

  once : (n k : ℕ) → covers (lob_parts (with_pieces l (bs ++ p ∷ cs)) (node ∷ [])) n k ≤ 1
  once = covers_once (lob_parts (with_pieces l (bs ++ p ∷ cs)) (node ∷ [])) is.lob.shape.apart

  xs : List Span
  xs = push_spans p node

  changed : (n k : ℕ) → covers xs n k ≤ has (tail_span p.head.place) n k + has (node_span node) n k + covers (map node_span (map place_of p.older)) n k
  unfolding xs
  changed n k =
      let vb = versions_base p.head.place in
      let nodes = map node_span (node ∷ map place_of p.older) in
      omega (
        arith,
        covers_append (base_span vb ∷ nodes) (fields_span p.head.place ∷ []) n k,
        covers_cons (base_span vb) nodes n k,
        covers_cons (node_span node) (map node_span (map place_of p.older)) n k,
        covers_cons (fields_span p.head.place) [] n k,
        covers_nil n k,
        base_fields p.head.place n k,
      )

  -- what changes, and all the rest
  total : (n k : ℕ) → covers xs n k
      + (has (first_span l.page) n k + has (base_span (heads_base l.page)) n k + has (base_span (free_base l.page)) n k + covers (map head_span l.index) n k
      + (E (versions bs) n k + (has (node_span p.head.place) n k + covers (map tail_span (map place_of p.older)) n k) + E (versions cs) n k)
      + (covers (map entry_span l.free) n k + has (tail_span node) n k)
      + (D (versions bs) n k + (has (data_span l.page p.head) n k + D p.older n k) + D (versions cs) n k)) ≤ 1
  unfolding E
  total n k = omega (arith, changed n k, parts n k, once n k, node_tail p.head.place n k, node_tail node n k, nodes_tails (map place_of p.older) n k)

  inside : (n k : ℕ) → covers xs n k ≤ covers (lob_parts (with_pieces l (bs ++ p ∷ cs)) (node ∷ [])) n k
  unfolding E
  inside n k = omega (arith, changed n k, parts n k, node_tail p.head.place n k, node_tail node n k, nodes_tails (map place_of p.older) n k)

  wide : AreWide xs
  unfolding xs
  wide = (lit≤ tt, wide_append (map node_span (node ∷ map place_of p.older)) (fields_span p.head.place ∷ []) (map_wide node_span (node ∷ map place_of p.older) (λ a. lit≤ tt)) (fields_wide p.head.place, tt))

  far_from : (vs : List Version) → ((n k : ℕ) → covers xs n k + E vs n k ≤ 1) → AreApart xs (map entry_span (map place_of vs))
  unfolding E
  far_from vs least = across_by xs (map entry_span (map place_of vs)) wide (map_wide entry_span (map place_of vs) (λ a. lit≤ tt)) least

  far_data : (vs : List Version) → ((n k : ℕ) → covers xs n k + D vs n k ≤ 1) → AreApart xs (map (data_span l.page) vs)
  unfolding D
  far_data vs least = across_by xs (map (data_span l.page) vs) wide (map_wide (data_span l.page) vs (data_wide l.page)) least

  -- the new page is apart from what changes in the LOB
  far_new : IsApartFromAll xs (data_span l.page x)
  far_new =
      let lob = with_pieces l (bs ++ p ∷ cs) in
      subst (IsApartFromAll xs) (sym (data_elsewhere l.page x (fresh_other lob x.page is.fresh)).2)
      (from_all_by xs (whole_page x.page) wide (lit≤ tt) (λ n k. elim (in_or_off (whole_page x.page) n k) [
        | inl at ↦ omega (arith, inside n k, off_pages lob (node ∷ []) n k is.lob.shape (covers_off (lob_spans lob) n k (fresh_off (lob_spans lob) (whole_page x.page) n k is.fresh at)), upper n k)
        | inr off ↦ omega (arith, has_off (whole_page x.page) n k off, inside n k, once n k)
      ]))
    where
      upper : (n k : ℕ) → has (whole_page x.page) n k ≤ 1
      upper n k = elim (in_or_off (whole_page x.page) n k) [
        | inl at ↦ omega (arith, at_one (whole_page x.page) n k)
        | inr off ↦ omega (arith, has_off (whole_page x.page) n k off)
      ]
        where
          at_one : (s : Span) (n k : ℕ) → has s n k ≤ 1
          at_one s n k = omega (arith, covers_once (s ∷ []) (tt, tt) n k, covers_cons s [] n k, covers_nil n k)

  again : AreAll (with_pieces l (bs ++ pushed node x p ∷ cs)) []
  again = elim is.lob.shape.all [
    | inl all ↦ inl (omega (arith, all, more))
    | inr none ↦ absurd (omega (arith, none, longer, length-append l.free (node ∷ [])))
  ]
    where
      lob : Lob
      lob = with_pieces l (bs ++ p ∷ cs)

      longer : length (entries (with_pieces l (bs ++ p ∷ cs)) (node ∷ [])) ≡ length (map place_of (versions (bs ++ p ∷ cs))) + length (l.free ++ node ∷ [])
      longer = length-append (map place_of (versions (bs ++ p ∷ cs))) (l.free ++ node ∷ [])

      more : length (entries (with_pieces l (bs ++ pushed node x p ∷ cs)) []) ≡ length (entries (with_pieces l (bs ++ p ∷ cs)) (node ∷ []))
      more = omega (arith, longer, length-append (map place_of (versions (bs ++ pushed node x p ∷ cs))) (l.free ++ []), length-append l.free (node ∷ []), length-append l.free [], long_cut bs p cs, long_cut bs (pushed node x p) cs)

  -- still no byte is in two parts
  apart_again : (n k : ℕ) → covers (lob_parts (with_pieces l (bs ++ pushed node x p ∷ cs)) []) n k ≤ 1
  apart_again n k =
      let lob = with_pieces l (bs ++ p ∷ cs) in
      let d = whole_page x.page in
      let e = ap (λ (s : Span). has s n k) (data_elsewhere l.page x (fresh_other lob x.page is.fresh)).2 in
      elim (in_or_off d n k) [
        | inl at ↦ omega (
          arith,
          parts n k,
          parts' n k,
          e,
          covers_once (d ∷ []) (tt, tt) n k,
          covers_cons d [] n k,
          covers_nil n k,
          off_pages lob (node ∷ []) n k is.lob.shape (covers_off (lob_spans lob) n k (fresh_off (lob_spans lob) d n k is.fresh at)),
        )
        | inr off ↦ omega (arith, parts n k, parts' n k, e, has_off d n k off, once n k)
      ]

  pub pushed_stands : IsLob new (with_pieces l (bs ++ pushed node x p ∷ cs))
  unfolding xs E D
  pushed_stands =
      let lob = with_pieces l (bs ++ p ∷ cs) in
      let q = pushed node x p in
      let lob' = with_pieces l (bs ++ q ∷ cs) in
      let first = l.page in
      let a = p.head.place in
      let same = is.outside in
      let ok = is.lob in
      let F = from_all_by xs (first_span first) wide (lit≤ tt) (λ n k. omega (arith, total n k)) in
      let head = apart_part xs first 0 64 0 39 (lit≤ tt) (lit≤ tt) F in
      let hb = from_all_by xs (base_span (heads_base first)) wide (lit≤ tt) (λ n k. omega (arith, total n k)) in
      let fb = from_all_by xs (base_span (free_base first)) wide (lit≤ tt) (λ n k. omega (arith, total n k)) in
      let chain = across_by xs (map head_span l.index) wide (map_wide head_span l.index (λ n. lit≤ tt)) (λ n k. omega (arith, total n k)) in
      let frees = across_by xs (map entry_span l.free) wide (map_wide entry_span l.free (λ a. lit≤ tt)) (λ n k. omega (arith, total n k)) in
      let heads = across_by xs (map node_span (map head_place (bs ++ p ∷ cs))) wide (map_wide node_span (map head_place (bs ++ p ∷ cs)) (λ a. lit≤ tt))
      (λ n k. omega (arith, total n k, heads_cut bs p cs n k, heads_covered bs n k, heads_covered cs n k)) in
      let Ebs = far_from (versions bs) (λ n k. omega (arith, total n k)) in
      let Ecs = far_from (versions cs) (λ n k. omega (arith, total n k)) in
      let tails = across_by xs (map tail_span (map place_of p.older)) wide (map_wide tail_span (map place_of p.older) tail_wide) (λ n k. omega (arith, total n k)) in
      let tail = from_all_by xs (tail_span node) wide (tail_wide node) (λ n k. omega (arith, total n k)) in
      let Dbs = far_data (versions bs) (λ n k. omega (arith, total n k)) in
      let Dcs = far_data (versions cs) (λ n k. omega (arith, total n k)) in
      let Dold = far_data p.older (λ n k. omega (arith, total n k)) in
      let Dhead = from_all_by xs (data_span first p.head) wide (data_wide first p.head) (λ n k. omega (arith, total n k)) in
      let A : List Version → Type 0 = λ vs. AreVersions old first vs in
      let all = are_split old first (versions bs) (piece_versions p ++ versions cs) (subst A (versions_cut bs p cs) ok.versions) in
      let mine = are_split old first (piece_versions p) (versions cs) all.1 in
      let lists = lists_split old bs (p ∷ cs) ok.lists in
      let H : List Address → Type 0 = λ ys. IsList new (heads_base first) ys in
      let B : List Version → Type 0 = λ vs. AreVersions new first vs in
      let now : AreVersions new first (piece_versions q) = (
        record { entry = entry_moved new a a x is.here; «data» = data_moved new first a x (data_kept xs old new first x same far_new is.«data») },
        (
          record { entry = entry_moved new node node p.head (entry_kept xs old new node p.head same tail is.copy); «data» = data_moved new first node p.head (data_kept xs old new first p.head same Dhead mine.0.0.«data») },
          tails_kept xs old new first p.older same tails Dold mine.0.1,
        ),
      ) in
      let S : List Address → Type 0 = λ ys. IsSteady 0 first ys in
      let placed = places_split first l.index (map place_of (versions (bs ++ p ∷ cs))) (l.free ++ node ∷ []) ok.shape.places in
      let loose = places_split first l.index l.free (node ∷ []) placed.1 in
      record {
        first = page_kept xs old new 4 first same head ok.first;
        version = field_kept xs old new first 40 4 same (apart_part xs first 0 64 40 4 (lit≤ tt) (lit≤ tt) F) ∙ ok.version;
        chain = chain_kept xs old new first l.index same head chain ok.chain;
        heads = subst H (heads_same bs p q cs refl) (list_kept xs old new (heads_base first) (map head_place (bs ++ p ∷ cs)) same (hb, heads) ok.heads);
        free = list_kept xs old new (free_base first) l.free same (fb, nodes_apart xs l.free frees) ok.free;
        lists = lists_join new bs (q ∷ cs) (lists_kept xs old new bs same Ebs lists.0)
            (is.list, (bare_at xs old new node same tail is.bare, bare_tails xs old new p.older same tails lists.1.1), lists_kept xs old new cs same Ecs lists.1.2);
        versions = subst B (sym (versions_cut bs q cs)) (are_join new first (versions bs) (piece_versions q ++ versions cs) (versions_kept xs old new first (versions bs) same Ebs Dbs all.0)
            (are_join new first (piece_versions q) (versions cs) now (versions_kept xs old new first (versions cs) same Ecs Dcs mine.1)));
        shape = record {
          steady = subst S (heads_same bs p q cs refl) ok.shape.steady;
          falling = falling_other (l.version + 1) bs p q cs (λ falling. (is.known, (is.newer, falling.1))) ok.shape.falling;
          full = full_other 15_680 16_327 bs p x node cs is.long ok.shape.full;
          places = places_join first l.index (map place_of (versions (bs ++ q ∷ cs))) (l.free ++ [])
              (places_other first l.index bs p q cs (λ are. (are.0, (loose.1.0, are.1))) placed.0) (places_join first l.index l.free [] loose.0 tt);
          all = again;
          apart = pairwise_by (lob_parts lob' []) (parts_wide lob' []) apart_again;
        };
      }
