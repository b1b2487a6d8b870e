-- Changes that a LOB doesn't see: the entry of a node that is in no list, and a page that it doesn't have. And an index
-- page put in front of its chain, with free entries.
use Rattle.std.proofs.Common.{refl, ◌≡◌, ◌⊎◌, inl, inr, ℕ, ◌+◌, ◌≤◌, List, [], ◌∷◌, ◌++◌, map, sym, ◌∙◌, lit≤, arith}
use Rattle.page_model.specs.Pages.{field, Pages, Address}
use Rattle.page_model.specs.Spans.{Span, span, IsApartFromAll, AreApart, SameOutside}
use Rattle.page_model.specs.Lists.{node_span, base_span}
use Rattle.page_model.proofs.FrameLemmas.{field_kept, apart_part}
use Rattle.page_model.proofs.SpanLemmas.{apart_flip}
use Rattle.page_model.proofs.ListLemmas.{list_kept}
use Rattle.store_data.specs.Store.{Lob}
use Rattle.lob_model.specs.Pieces.{versions, place_of, head_place}
use Rattle.lob_model.specs.Places.{heads_base, free_base, entry_span, head_span, first_span, data_span, whole_page}
use Rattle.lob_model.specs.Begin.{refilled, bare_lob}
use Rattle.lob_model.specs.Lobs.{IsChain, IsLob, IsLobBut, lob_parts, lob_spans}
use Rattle.lob_model.specs.Changes.{refill_spans, Refilling}
use Rattle.lob_model.proofs.PartLemmas.{heads_apart, page_kept, chain_kept, versions_kept, lists_kept}
use Rattle.lob_model.proofs.KeptLemmas.{parts_kept, parts_in_pages}
use Rattle.page_model.specs.Counts.{has, covers, AreWide}
use Rattle.page_model.proofs.CoverLemmas.{has_off, has_less, in_or_off, covers_cons, covers_nil, covers_once, map_wide, map_covers, across_by, from_all_by, pairwise_by, covers_off}
use Rattle.lob_model.proofs.CoverLemmas.{nodes_covered}
use Rattle.lob_model.proofs.FreeLemmas.{data_wide, parts_wide, parts_covers, clear_by}
use Rattle.lob_model.proofs.NodeLemmas.{off_pages}
use Rattle.lob_model.proofs.BeginLemmas.{refilled_shape}
use Rattle.lob_model.proofs.PushLemmas.{fresh_off, fresh_other}

-- a LOB but for a loose node stays where nothing changes but the entry of that node
pub loose_changed : (old new : Pages) (lob : Lob) (node : Address) → IsLobBut old lob (node ∷ []) → SameOutside (entry_span node ∷ []) old new → IsLobBut new lob (node ∷ [])
loose_changed old new lob node is same =
    let first = lob.page in
    let xs = entry_span node ∷ [] in
    let only : (n k : ℕ) → covers xs n k ≡ has (entry_span node) n k = λ n k. omega (arith, covers_cons (entry_span node) [] n k, covers_nil n k) in
    let once = covers_once (lob_parts lob (node ∷ [])) is.shape.apart in
    let all : (n k : ℕ) → covers (map entry_span (lob.free ++ node ∷ [])) n k ≡ covers (map entry_span lob.free) n k + has (entry_span node) n k =
    λ n k. omega (arith, map_covers entry_span lob.free (node ∷ []) n k, covers_cons (entry_span node) [] n k, covers_nil n k) in
    let clear = clear_by xs lob (node ∷ []) (lit≤ tt, tt) is.shape (λ n k. omega (arith, only n k, all n k)) in
    let head = apart_part xs first 0 64 0 39 (lit≤ tt) (lit≤ tt) clear.first in
    let fb = from_all_by xs (base_span (free_base first)) (lit≤ tt, tt) (lit≤ tt) (λ n k. omega (arith, only n k, all n k, once n k, parts_covers lob (node ∷ []) n k)) in
    let frees = across_by xs (map node_span lob.free) (lit≤ tt, tt) (map_wide node_span lob.free (λ a. lit≤ tt)) (λ n k. omega (arith, only n k, all n k, once n k, parts_covers lob (node ∷ []) n k, nodes_covered lob.free n k)) in
    record {
      first = page_kept xs old new 4 first same head is.first;
      version = field_kept xs old new first 40 4 same (apart_part xs first 0 64 40 4 (lit≤ tt) (lit≤ tt) clear.first) ∙ is.version;
      chain = chain_kept xs old new first lob.index same head clear.chain is.chain;
      heads = list_kept xs old new (heads_base first) (map head_place lob.pieces) same (clear.heads, heads_apart xs lob.pieces clear.entries) is.heads;
      free = list_kept xs old new (free_base first) lob.free same (fb, frees) is.free;
      lists = lists_kept xs old new lob.pieces same clear.entries is.lists;
      versions = versions_kept xs old new first (versions lob.pieces) same clear.entries clear.«data» is.versions;
      shape = is.shape;
    }

-- a LOB stays where nothing changes but a page that it doesn't have
pub fresh_changed : (old new : Pages) (lob : Lob) (loose : List Address) (d : ℕ) → IsLobBut old lob loose → IsApartFromAll (lob_spans lob) (whole_page d) → SameOutside (whole_page d ∷ []) old new → IsLobBut new lob loose
fresh_changed old new lob loose d is fresh same =
    parts_kept (whole_page d ∷ []) old new lob loose same (parts_in_pages (whole_page d ∷ []) lob loose is.shape.places (apart_flip (lob_spans lob) (whole_page d) fresh)) is

-- ---- an index page more

module _ (old new : Pages) (lob : Lob) (page : ℕ) (is : Refilling old new lob page) where
  xs : List Span
  xs = refill_spans lob page

  wide : AreWide xs
  unfolding xs
  wide = (lit≤ tt, (lit≤ tt, (lit≤ tt, tt)))

  -- what else the LOB has is apart from it
  total : (n k : ℕ) → covers xs n k + (has (base_span (heads_base lob.page)) n k + covers (map head_span lob.index) n k
      + covers (map entry_span (map place_of (versions lob.pieces))) n k + covers (map (data_span lob.page) (versions lob.pieces)) n k) ≤ 1
  unfolding xs
  total n k =
      let w = whole_page page in
      let s = span lob.page 12 4 in
      let fb = base_span (free_base lob.page) in
      let sum : covers (w ∷ s ∷ fb ∷ []) n k ≡ has w n k + has s n k + has fb n k =
      omega (arith, covers_cons w (s ∷ fb ∷ []) n k, covers_cons s (fb ∷ []) n k, covers_cons fb [] n k, covers_nil n k) in
      let less : has s n k ≤ has (first_span lob.page) n k = has_less s (first_span lob.page) n k (λ at. let low = at.1 in let high = at.2 in (at.0, omega arith, omega (arith, high))) in
      let parts = parts_covers lob [] n k in
      elim (in_or_off w n k) [
        | inl at ↦ omega (
          arith,
          sum,
          less,
          parts,
          covers_once (w ∷ []) (tt, tt) n k,
          covers_cons w [] n k,
          covers_nil n k,
          off_pages lob [] n k is.lob'.shape (covers_off (lob_spans lob) n k (fresh_off (lob_spans lob) w n k is.fresh at)),
        )
        | inr off ↦ omega (arith, sum, less, parts, has_off w n k off, covers_once (lob_parts lob []) is.lob'.shape.apart n k)
      ]

  chain_on : (index : List ℕ) → AreApart xs (map head_span index) → IsChain old lob.page index → IsChain new page index
  unfolding xs
  chain_on [] far chain = is.behind ∙ chain
  chain_on (n ∷ more) far chain = (is.behind ∙ chain.0, page_kept xs old new 6 n is.outside far.0 chain.1, chain_kept xs old new n more is.outside far.0 far.1 chain.2)

  pub refilled_stands : IsLob new (refilled page lob)
  unfolding xs
  refilled_stands =
      let first = lob.page in
      let same = is.outside in
      let ok = is.lob' in
      let other : page ≡ first → ⊥ = fresh_other lob page is.fresh in
      let field_far : (at width : ℕ) → (at + width ≤ 12) ⊎ ((16 ≤ at) × (at + width ≤ 80)) → IsApartFromAll xs (span first at width) =
      λ at width side. (inl (λ e. other (sym e)), (elim side [ inl before ↦ inr (inl before) | inr behind ↦ inr (inr behind.0) ], (elim side [ inl before ↦ inr (inl (omega (arith, before))) | inr behind ↦ inr (inl behind.1) ], tt))) in
      let chain = across_by xs (map head_span lob.index) wide (map_wide head_span lob.index (λ n. lit≤ tt)) (λ n k. omega (arith, total n k)) in
      let hb = from_all_by xs (base_span (heads_base first)) wide (lit≤ tt) (λ n k. omega (arith, total n k)) in
      let placed = map place_of (versions lob.pieces) in
      let es = across_by xs (map entry_span placed) wide (map_wide entry_span placed (λ a. lit≤ tt)) (λ n k. omega (arith, total n k)) in
      let ds = across_by xs (map (data_span first) (versions lob.pieces)) wide (map_wide (data_span first) (versions lob.pieces) (data_wide first)) (λ n k. omega (arith, total n k)) in
      record {
        first = record {
          there = omega (arith, same.many, ok.first.there);
          number = field_kept xs old new first 4 4 same (field_far 4 4 (inl (lit≤ tt))) ∙ ok.first.number;
          type' = field_kept xs old new first 24 2 same (field_far 24 2 (inr (lit≤ tt, lit≤ tt))) ∙ ok.first.type';
        };
        version = field_kept xs old new first 40 4 same (field_far 40 4 (inr (lit≤ tt, lit≤ tt))) ∙ ok.version;
        chain = (is.next, is.here, chain_on lob.index chain ok.chain);
        heads = list_kept xs old new (heads_base first) (map head_place lob.pieces) same (hb, heads_apart xs lob.pieces es) ok.heads;
        free = is.list;
        lists = lists_kept xs old new lob.pieces same es ok.lists;
        versions = versions_kept xs old new first (versions lob.pieces) same es ds ok.versions;
        shape = refilled_shape lob page ok.shape is.none is.all is.fresh;
      }

-- ---- an index page less

-- the first page of the chain of a LOB without pieces is taken out of it
pub unchained_stands : (old new : Pages) (l : Lob) (n : ℕ) (more : List ℕ) → IsLob old (bare_lob l (n ∷ more)) → SameOutside (span l.page 12 4 ∷ []) old new → field new l.page 12 4 ≡ field old n 12 4
    → IsLob new (bare_lob l more)
unchained_stands old new l n more is same next =
    let first = l.page in
    let xs' = span first 12 4 ∷ [] in
    let lob = bare_lob l (n ∷ more) in
    let lob' = bare_lob l more in
    let once = covers_once (lob_parts lob []) is.shape.apart in
    let cut : (k j : ℕ) → covers (map head_span (n ∷ more)) k j ≡ has (head_span n) k j + covers (map head_span more) k j = λ k j. covers_cons (head_span n) (map head_span more) k j in
    let only : (k j : ℕ) → covers xs' k j ≤ has (first_span first) k j =
    λ k j. omega (arith, covers_cons (span first 12 4) [] k j, covers_nil k j, has_less (span first 12 4) (first_span first) k j (λ at. let low = at.1 in let high = at.2 in (at.0, omega arith, omega (arith, high)))) in
    let far = across_by xs' (map head_span more) (lit≤ tt, tt) (map_wide head_span more (λ m. lit≤ tt)) (λ k j. omega (arith, only k j, cut k j, once k j, parts_covers lob [] k j)) in
    record {
      first = record {
        there = omega (arith, same.many, is.first.there);
        number = field_kept xs' old new first 4 4 same (inr (inl (lit≤ tt)), tt) ∙ is.first.number;
        type' = field_kept xs' old new first 24 2 same (inr (inr (lit≤ tt)), tt) ∙ is.first.type';
      };
      version = field_kept xs' old new first 40 4 same (inr (inr (lit≤ tt)), tt) ∙ is.version;
      chain = on more far is.chain.2;
      heads = list_kept xs' old new (heads_base first) [] same ((inr (inr (lit≤ tt)), tt), tt) is.heads;
      free = list_kept xs' old new (free_base first) [] same ((inr (inr (lit≤ tt)), tt), tt) is.free;
      lists = tt;
      versions = tt;
      shape = record {
        steady = tt;
        falling = tt;
        full = tt;
        places = tt;
        all = inr refl;
        apart = pairwise_by (lob_parts lob' []) (parts_wide lob' []) (λ k j. omega (arith, cut k j, once k j, parts_covers lob [] k j, parts_covers lob' [] k j));
      };
    }
  where
    on : (index : List ℕ) → AreApart (span l.page 12 4 ∷ []) (map head_span index) → IsChain old n index → IsChain new l.page index
    on [] apart chain = next ∙ chain
    on (m ∷ rest) apart chain = (next ∙ chain.0, page_kept (span l.page 12 4 ∷ []) old new 6 m same apart.0 chain.1, chain_kept (span l.page 12 4 ∷ []) old new m rest same apart.0 apart.1 chain.2)
