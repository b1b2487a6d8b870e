-- Data in the first page of a LOB without pieces, which the LOB doesn't see.
use Rattle.std.proofs.Common.{◌≡◌, ◌≢◌, inl, inr, ℕ, ◌≤◌, List, [], ◌∷◌, ◌++◌, map, sym, ◌∙◌, subst, lit≤, arith}
use Rattle.page_model.specs.Pages.{Pages, Address}
use Rattle.page_model.specs.Spans.{span, IsApart, IsApartFromAll, SetsField}
use Rattle.page_model.specs.Lists.{base_span}
use Rattle.page_model.specs.Counts.{has, covers}
use Rattle.page_model.proofs.CoverLemmas.{has_in, has_less, covers_cons, covers_nil, covers_once, map_wide, across_by, from_all_by}
use Rattle.page_model.proofs.FrameLemmas.{field_kept}
use Rattle.page_model.proofs.ListLemmas.{list_kept}
use Rattle.page_model.proofs.SpanLemmas.{from_join}
use Rattle.store_data.specs.Store.{Piece, Lob}
use Rattle.lob_model.specs.Pieces.{versions, place_of, head_place}
use Rattle.lob_model.specs.Places.{heads_base, free_base, entry_span, head_span, first_span, data_span, IsAmong, IsEntryPlace, AreEntryPlaces}
use Rattle.lob_model.specs.Lobs.{IsLobBut, IsShaped, entries, lob_parts}
use Rattle.lob_model.proofs.PartLemmas.{map_split, nodes_apart, heads_apart, chain_kept, versions_kept, lists_kept}
use Rattle.lob_model.proofs.FreeLemmas.{parts_covers, data_wide}

-- a field before the lists that the relation doesn't look at
pub length_unseen : (old new : Pages) (lob : Lob) (loose : List Address) (v : ℕ) → IsLobBut old lob loose → SetsField lob.page 54 4 v old new → IsLobBut new lob loose
length_unseen old new lob loose v is sets =
    let first = lob.page in
    let s = span first 54 4 in
    let xs = s ∷ [] in
    let same = sets.outside in
    let inside : (n k : ℕ) → covers xs n k ≤ has (first_span first) n k =
    λ n k. omega (arith, covers_cons s [] n k, covers_nil n k, has_less s (first_span first) n k (λ at. let low = at.1 in let high = at.2 in (at.0, omega arith, omega arith))) in
    let once = covers_once (lob_parts lob loose) is.shape.apart in
    let placed = map place_of (versions lob.pieces) in
    let chain = across_by xs (map head_span lob.index) (lit≤ tt, tt) (map_wide head_span lob.index (λ n. lit≤ tt)) (λ n k. omega (arith, inside n k, once n k, parts_covers lob loose n k)) in
    let entries' = across_by xs (map entry_span placed) (lit≤ tt, tt) (map_wide entry_span placed (λ a. lit≤ tt)) (λ n k. omega (arith, inside n k, once n k, parts_covers lob loose n k)) in
    let frees = across_by xs (map entry_span (lob.free ++ loose)) (lit≤ tt, tt) (map_wide entry_span (lob.free ++ loose) (λ a. lit≤ tt)) (λ n k. omega (arith, inside n k, once n k, parts_covers lob loose n k)) in
    let data' = across_by xs (map (data_span first) (versions lob.pieces)) (lit≤ tt, tt) (map_wide (data_span first) (versions lob.pieces) (data_wide first)) (λ n k. omega (arith, inside n k, once n k, parts_covers lob loose n k)) in
    let hb = from_all_by xs (base_span (heads_base first)) (lit≤ tt, tt) (lit≤ tt) (λ n k. omega (arith, inside n k, once n k, parts_covers lob loose n k)) in
    let fb = from_all_by xs (base_span (free_base first)) (lit≤ tt, tt) (lit≤ tt) (λ n k. omega (arith, inside n k, once n k, parts_covers lob loose n k)) in record {
      first = record {
        there = omega (arith, same.many, is.first.there);
        number = field_kept xs old new first 4 4 same (inr (inl (lit≤ tt)), tt) ∙ is.first.number;
        type' = field_kept xs old new first 24 2 same (inr (inl (lit≤ tt)), tt) ∙ is.first.type';
      };
      version = field_kept xs old new first 40 4 same (inr (inl (lit≤ tt)), tt) ∙ is.version;
      chain = chain_kept xs old new first lob.index same (inr (inl (lit≤ tt)), tt) chain is.chain;
      heads = list_kept xs old new (heads_base first) (map head_place lob.pieces) same (hb, heads_apart xs lob.pieces entries') is.heads;
      free = list_kept xs old new (free_base first) lob.free same (fb, nodes_apart xs lob.free (map_split entry_span xs lob.free loose frees).0) is.free;
      lists = lists_kept xs old new lob.pieces same entries' is.lists;
      versions = versions_kept xs old new first (versions lob.pieces) same entries' data' is.versions;
      shape = is.shape;
    }

-- ---- the data's place

among_covers : (n : ℕ) (index : List ℕ) (page : ℕ) → IsAmong n index → n ≡ page → 1 ≤ covers (map head_span index) page 0
among_covers n [] page among same = absurd among
among_covers n (m ∷ more) page (inl here) same = omega (arith, covers_cons (head_span m) (map head_span more) page 0, has_in (head_span m) page 0 (sym same ∙ here) (lit≤ tt) (lit≤ tt))
among_covers n (m ∷ more) page (inr there) same = omega (arith, covers_cons (head_span m) (map head_span more) page 0, among_covers n more page there same)

-- no index page is the first page
index_other : (lob : Lob) (loose : List Address) (n : ℕ) → IsShaped lob loose → IsAmong n lob.index → n ≢ lob.page
index_other lob loose n shape among same =
    let first = lob.page in
    let f : has (first_span first) first 0 ≡ 1 = has_in (first_span first) first 0 refl' (lit≤ tt) (lit≤ tt) in
    omega (arith, f, among_covers n lob.index first among same, covers_once (lob_parts lob loose) shape.apart first 0, parts_covers lob loose first 0)
  where
    refl' : lob.page ≡ lob.page
    refl' = sym same ∙ same

heads_off : (lob : Lob) (index : List ℕ) → ((n : ℕ) → IsAmong n index → n ≢ lob.page) → IsApartFromAll (map head_span index) (span lob.page 696 15_680)
heads_off lob [] other = tt
heads_off lob (n ∷ more) other = (inl (λ e. other n (inl (same n)) (sym e)), heads_off lob more (λ m among. other m (inr among)))
  where
    same : (k : ℕ) → k ≡ k
    same k = omega arith

entries_off : (lob : Lob) (xs : List Address) → ((n : ℕ) → IsAmong n lob.index → n ≢ lob.page) → AreEntryPlaces lob.page lob.index xs → IsApartFromAll (map entry_span xs) (span lob.page 696 15_680)
entries_off lob [] other are = tt
entries_off lob (a ∷ more) other are = (one are.0, entries_off lob more other are.1)
  where
    one : IsEntryPlace lob.page lob.index a → IsApart (entry_span a) (span lob.page 696 15_680)
    one (inl place) = let below = place.1.1 in let at = place.1.2 in inr (inr (omega (arith, below, at)))
    one (inr place) = inl (λ e. other a.page place.0 (sym e))

-- a LOB without pieces has nothing where the data of the first piece go
pub data_off : (lob : Lob) (loose : List Address) → lob.pieces ≡ [] → IsShaped lob loose → IsApartFromAll (lob_parts lob loose) (span lob.page 696 15_680)
data_off lob loose none shape =
    let other = λ (n : ℕ) (among : IsAmong n lob.index). index_other lob loose n shape among in
    let D : List Piece → Type 0 = λ ps. IsApartFromAll (map (data_span lob.page) (versions ps)) (span lob.page 696 15_680) in (
      inr (inr (lit≤ tt)),
      (
        inr (inr (lit≤ tt)),
        (
          inr (inr (lit≤ tt)),
          from_join (map head_span lob.index) (map entry_span (entries lob loose) ++ map (data_span lob.page) (versions lob.pieces)) (span lob.page 696 15_680) (heads_off lob lob.index other)
              (from_join (map entry_span (entries lob loose)) (map (data_span lob.page) (versions lob.pieces)) (span lob.page 696 15_680) (entries_off lob (entries lob loose) other shape.places) (subst D (sym none) tt)),
        ),
      ),
    )
