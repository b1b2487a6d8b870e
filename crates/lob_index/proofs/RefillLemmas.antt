-- An index page more, of whose nodes the first is in no list and the others are the free ones.
use Rattle.std.proofs.Common.{refl, ◌≡◌, ◌⊎◌, inl, inr, ℕ, ◌+◌, ◌≤◌, List, [], ◌∷◌, ◌++◌, length, map, sym, ◌∙◌, ap, subst, lit≤, arith}
use Rattle.std.proofs.lemmas.List.{length-append}
use Rattle.page_model.specs.Pages.{Pages, Address, field}
use Rattle.page_model.specs.Spans.{Span, span, IsApartFromAll, AreApart, SameOutside}
use Rattle.page_model.specs.Lists.{IsList, base_span}
use Rattle.page_model.proofs.FrameLemmas.{field_kept}
use Rattle.page_model.proofs.ListLemmas.{list_kept}
use Rattle.page_model.specs.Counts.{has, covers, AreWide}
use Rattle.page_model.proofs.CoverLemmas.{has_off, has_less, in_or_off, covers_cons, covers_nil, covers_once, covers_off, map_covers, map_wide, across_by, from_all_by, pairwise_by}
use Rattle.store_data.specs.Store.{Lob}
use Rattle.lob_model.specs.Pieces.{versions, place_of, head_place}
use Rattle.lob_model.specs.Places.{heads_base, free_base, entry_span, head_span, first_span, data_span, whole_page, at_place, entries_from, AreEntryPlaces}
use Rattle.lob_model.specs.Begin.{refilled}
use Rattle.lob_model.specs.Lobs.{IsPage, IsChain, IsLob, IsLobBut, IsShaped, entries, entry_count, lob_parts, lob_spans}
use Rattle.lob_model.specs.Changes.{refill_spans}
use Rattle.lob_model.proofs.PartLemmas.{heads_apart, page_kept, chain_kept, versions_kept, lists_kept}
use Rattle.lob_model.proofs.FreeLemmas.{data_wide, parts_wide, parts_covers}
use Rattle.lob_model.proofs.NodeLemmas.{off_pages, places_split, places_join}
use Rattle.lob_model.proofs.BeginLemmas.{refilled_shape}
use Rattle.lob_model.proofs.PushLemmas.{fresh_off, fresh_other}

-- ---- a free node put aside

-- the first of the free nodes is in no list
put_aside : (lob : Lob) (node : Address) (rest : List Address) → lob.free ≡ node ∷ rest → IsShaped lob [] → IsShaped (record lob { free = rest }) (node ∷ [])
put_aside lob node rest free shape =
    let vs = map place_of (versions lob.pieces) in
    let lob' = record lob { free = rest } in
    let C : (n k : ℕ) → List Address → ℕ = λ n k xs. covers (map entry_span (xs ++ [])) n k in
    let P : List Address → Type 0 = λ xs. AreEntryPlaces lob.page lob.index (xs ++ []) in
    let L : List Address → ℕ = λ xs. length (xs ++ []) in
    let placed = places_split lob.page lob.index vs (lob.free ++ []) shape.places in
    let frees = subst P free placed.1 in
    let behind = (places_split lob.page lob.index rest [] frees.1).0 in
    let many : length (entries lob' (node ∷ [])) ≡ length (entries lob []) =
    omega (arith, length-append vs (rest ++ node ∷ []), length-append vs (lob.free ++ []), length-append rest (node ∷ []), length-append rest [], ap L free) in
    record {
      steady = shape.steady;
      falling = shape.falling;
      full = shape.full;
      places = places_join lob.page lob.index vs (rest ++ node ∷ []) placed.0 (places_join lob.page lob.index rest (node ∷ []) behind (frees.0, tt));
      all = elim shape.all [ inl all ↦ inl (many ∙ all) | inr none ↦ inr (many ∙ none) ];
      apart = pairwise_by (lob_parts lob' (node ∷ [])) (parts_wide lob' (node ∷ [])) (λ n k. omega (
        arith,
        covers_once (lob_parts lob []) shape.apart n k,
        parts_covers lob [] n k,
        parts_covers lob' (node ∷ []) n k,
        ap (C n k) free,
        map_covers entry_span rest [] n k,
        map_covers entry_span rest (node ∷ []) n k,
        covers_cons (entry_span node) (map entry_span (rest ++ [])) n k,
        covers_cons (entry_span node) [] n k,
        covers_nil n k,
      ));
    }

-- ---- the page put in front of the chain

-- what the calls leave: the page, its number in the first page, and the base of the free nodes were written
pub record Refills (old new : Pages) (lob : Lob) (page : ℕ) : Type 0 where
  pub stands : IsLob old lob
  pub none : lob.free ≡ []
  pub all : length (entries lob []) ≡ entry_count lob
  pub fresh : IsApartFromAll (lob_spans lob) (whole_page page)
  pub outside : SameOutside (refill_spans lob page) old new
  pub here : IsPage new 6 page
  pub next : field new lob.page 12 4 ≡ page
  pub behind : field new page 12 4 ≡ field old lob.page 12 4
  pub list : IsList new (free_base lob.page) (entries_from page 99 271)

module _ (old new : Pages) (lob : Lob) (page : ℕ) (is : Refills old new lob page) where
  xs : List Span
  xs = refill_spans lob page

  wide : AreWide xs
  unfolding xs
  wide = (lit≤ tt, (lit≤ tt, (lit≤ tt, tt)))

  -- what else the LOB has is apart from it
  total : (n k : ℕ) → covers xs n k + (has (base_span (heads_base lob.page)) n k + covers (map head_span lob.index) n k
      + covers (map entry_span (map place_of (versions lob.pieces))) n k + covers (map (data_span lob.page) (versions lob.pieces)) n k) ≤ 1
  unfolding xs
  total n k =
      let w = whole_page page in
      let s = span lob.page 12 4 in
      let fb = base_span (free_base lob.page) in
      let sum : covers (w ∷ s ∷ fb ∷ []) n k ≡ has w n k + has s n k + has fb n k =
      omega (arith, covers_cons w (s ∷ fb ∷ []) n k, covers_cons s (fb ∷ []) n k, covers_cons fb [] n k, covers_nil n k) in
      let less : has s n k ≤ has (first_span lob.page) n k = has_less s (first_span lob.page) n k (λ at. let low = at.1 in let high = at.2 in (at.0, omega arith, omega (arith, high))) in
      let parts = parts_covers lob [] n k in
      elim (in_or_off w n k) [
        | inl at ↦ omega (
          arith,
          sum,
          less,
          parts,
          covers_once (w ∷ []) (tt, tt) n k,
          covers_cons w [] n k,
          covers_nil n k,
          off_pages lob [] n k is.stands.shape (covers_off (lob_spans lob) n k (fresh_off (lob_spans lob) w n k is.fresh at)),
        )
        | inr off ↦ omega (arith, sum, less, parts, has_off w n k off, covers_once (lob_parts lob []) is.stands.shape.apart n k)
      ]

  chain_on : (index : List ℕ) → AreApart xs (map head_span index) → IsChain old lob.page index → IsChain new page index
  unfolding xs
  chain_on [] far chain = is.behind ∙ chain
  chain_on (n ∷ more) far chain = (is.behind ∙ chain.0, page_kept xs old new 6 n is.outside far.0 chain.1, chain_kept xs old new n more is.outside far.0 far.1 chain.2)

  pub refills_stands : IsLobBut new (record lob { index = page ∷ lob.index; free = entries_from page 99 271 }) (at_place page 39 ∷ [])
  unfolding xs
  refills_stands =
      let first = lob.page in
      let same = is.outside in
      let ok = is.stands in
      let other : page ≡ first → ⊥ = fresh_other lob page is.fresh in
      let field_far : (at width : ℕ) → (at + width ≤ 12) ⊎ ((16 ≤ at) × (at + width ≤ 80)) → IsApartFromAll xs (span first at width) =
      λ at width side. (inl (λ e. other (sym e)), (elim side [ inl before ↦ inr (inl before) | inr behind ↦ inr (inr behind.0) ], (elim side [ inl before ↦ inr (inl (omega (arith, before))) | inr behind ↦ inr (inl behind.1) ], tt))) in
      let chain = across_by xs (map head_span lob.index) wide (map_wide head_span lob.index (λ n. lit≤ tt)) (λ n k. omega (arith, total n k)) in
      let hb = from_all_by xs (base_span (heads_base first)) wide (lit≤ tt) (λ n k. omega (arith, total n k)) in
      let placed = map place_of (versions lob.pieces) in
      let es = across_by xs (map entry_span placed) wide (map_wide entry_span placed (λ a. lit≤ tt)) (λ n k. omega (arith, total n k)) in
      let ds = across_by xs (map (data_span first) (versions lob.pieces)) wide (map_wide (data_span first) (versions lob.pieces) (data_wide first)) (λ n k. omega (arith, total n k)) in
      record {
        first = record {
          there = omega (arith, same.many, ok.first.there);
          number = field_kept xs old new first 4 4 same (field_far 4 4 (inl (lit≤ tt))) ∙ ok.first.number;
          type' = field_kept xs old new first 24 2 same (field_far 24 2 (inr (lit≤ tt, lit≤ tt))) ∙ ok.first.type';
        };
        version = field_kept xs old new first 40 4 same (field_far 40 4 (inr (lit≤ tt, lit≤ tt))) ∙ ok.version;
        chain = (is.next, is.here, chain_on lob.index chain ok.chain);
        heads = list_kept xs old new (heads_base first) (map head_place lob.pieces) same (hb, heads_apart xs lob.pieces es) ok.heads;
        free = is.list;
        lists = lists_kept xs old new lob.pieces same es ok.lists;
        versions = versions_kept xs old new first (versions lob.pieces) same es ds ok.versions;
        shape = put_aside (refilled page lob) (at_place page 39) (entries_from page 99 271) refl (refilled_shape lob page ok.shape is.none is.all is.fresh);
      }
