-- A free node taken out of its list, and a node that is in no list given back to it.
use Rattle.std.proofs.Common.{◌≡◌, inl, inr, ℕ, ◌+◌, ◌<◌, ◌≤◌, List, [], ◌∷◌, ◌++◌, map, length, sym, ap, ◌∙◌, subst, lit≤, arith, append-nil}
use Rattle.std.proofs.lemmas.List.{length-append}
use Rattle.page_model.specs.Pages.{Pages, Address}
use Rattle.page_model.specs.Spans.{Span, span, IsOff, IsOffAll, IsApart, IsApartFromAll, AreApart, SameOutside}
use Rattle.page_model.specs.Lists.{IsList, list_spans, node_span, base_span}
use Rattle.page_model.proofs.FrameLemmas.{outside_wider}
use Rattle.store_data.specs.Store.{Lob}
use Rattle.lob_model.specs.Pieces.{versions, place_of}
use Rattle.lob_model.specs.Places.{free_base, entry_span, AreEntryPlaces}
use Rattle.lob_model.specs.Lobs.{IsLob, IsLobBut, IsShaped, lob_parts, lob_spans}
use Rattle.lob_model.proofs.KeptLemmas.{parts_in_pages}
use Rattle.page_model.specs.Counts.{has, covers}
use Rattle.page_model.proofs.CoverLemmas.{has_less, covers_cons, covers_nil, covers_once, map_wide, map_covers, from_all_by, off_covers, covers_off}
use Rattle.lob_model.proofs.CoverLemmas.{nodes_covered}
use Rattle.lob_model.proofs.FreeLemmas.{parts_covers, free_changed}

-- ---- bytes off the pages

off_one : (s : Span) (n k : ℕ) → IsOff s n k → IsApart (span n k 1) s
off_one s n k (inl other) = inl (λ e. other (sym e))
off_one s n k (inr (inl before)) = inr (inr (omega arith))
off_one s n k (inr (inr behind)) = inr (inl behind)

one_off : (s : Span) (n k : ℕ) → IsApart (span n k 1) s → IsOff s n k
one_off s n k (inl other) = inl (λ e. other (sym e))
one_off s n k (inr (inl before)) = inr (inr before)
one_off s n k (inr (inr behind)) = inr (inl (omega arith))

off_apart : (ts : List Span) (n k : ℕ) → IsOffAll ts n k → AreApart (span n k 1 ∷ []) ts
off_apart [] n k off = tt
off_apart (t ∷ ts) n k off = ((off_one t n k off.0, tt), off_apart ts n k off.1)

apart_off : (ts : List Span) (n k : ℕ) → AreApart (span n k 1 ∷ []) ts → IsOffAll ts n k
apart_off [] n k apart = tt
apart_off (t ∷ ts) n k apart = (one_off t n k apart.0.0, apart_off ts n k apart.1)

-- a byte off a LOB's pages is in none of its parts
pub off_pages : (lob : Lob) (loose : List Address) (n k : ℕ) → IsShaped lob loose → IsOffAll (lob_spans lob) n k → covers (lob_parts lob loose) n k ≡ 0
off_pages lob loose n k shape off = off_covers (lob_parts lob loose) n k (apart_off (lob_parts lob loose) n k (parts_in_pages (span n k 1 ∷ []) lob loose shape.places (off_apart (lob_spans lob) n k off)))

-- a change within the parts is one within the pages
pub within_pages : (xs : List Span) (old new : Pages) (lob : Lob) (loose : List Address) → IsShaped lob loose → ((n k : ℕ) → covers xs n k ≤ covers (lob_parts lob loose) n k) → SameOutside xs old new → SameOutside (lob_spans lob) old new
within_pages xs old new lob loose shape inside same = outside_wider xs (lob_spans lob) old new (λ n k off. covers_off xs n k (omega (arith, inside n k, off_pages lob loose n k shape off))) same

free_inside : (lob : Lob) (loose all : List Address) → ((n k : ℕ) → covers (map entry_span all) n k ≤ covers (map entry_span (lob.free ++ loose)) n k)
    → (n k : ℕ) → covers (list_spans (free_base lob.page) all) n k ≤ covers (lob_parts lob loose) n k
free_inside lob loose all within n k =
    omega (arith, covers_cons (base_span (free_base lob.page)) (map node_span all) n k, nodes_covered all n k, within n k, parts_covers lob loose n k)

-- ---- places

-- where all of two lists joined are places of entries, all of each list are
pub places_split : (first : ℕ) (index : List ℕ) (xs ys : List Address) → AreEntryPlaces first index (xs ++ ys) → AreEntryPlaces first index xs × AreEntryPlaces first index ys
places_split first index [] ys are = (tt, are)
places_split first index (x ∷ xs) ys are = let rest = places_split first index xs ys are.1 in ((are.0, rest.0), rest.1)

-- two lists of places of entries, joined, are such a list
pub places_join : (first : ℕ) (index : List ℕ) (xs ys : List Address) → AreEntryPlaces first index xs → AreEntryPlaces first index ys → AreEntryPlaces first index (xs ++ ys)
places_join first index [] ys a b = b
places_join first index (x ∷ xs) ys a b = (a.0, places_join first index xs ys a.1 b)

-- ---- the two changes

-- with its first free node out of the list, a LOB stands but for it, and only its pages changed
pub free_taken : (old new : Pages) (lob : Lob) (node : Address) (rest : List Address) → IsLob old lob → lob.free ≡ node ∷ rest
    → IsList new (free_base lob.page) rest → SameOutside (list_spans (free_base lob.page) (node ∷ rest)) old new
    → IsLobBut new (record lob { free = rest }) (node ∷ []) × SameOutside (lob_spans lob) old new
free_taken old new lob node rest is free list same =
    let all = node ∷ rest in
    let nil : lob.free ++ [] ≡ all = append-nil lob.free ∙ free in
    let C : (n k : ℕ) → List Address → ℕ = λ n k xs. covers (map entry_span xs) n k in
    let whole : (n k : ℕ) → covers (map entry_span (lob.free ++ [])) n k ≡ covers (map entry_span all) n k = λ n k. ap (C n k) nil in
    let within : (n k : ℕ) → covers (map entry_span all) n k ≤ covers (map entry_span (lob.free ++ [])) n k = λ n k. omega (arith, whole n k) in
    let placed = places_split lob.page lob.index (map place_of (versions lob.pieces)) (lob.free ++ []) is.shape.places in
    let P : List Address → Type 0 = λ xs. AreEntryPlaces lob.page lob.index xs in
    let frees = subst P nil placed.1 in (
      free_changed old new lob [] all rest (node ∷ []) is list same within
          (λ n k. omega (arith, whole n k, map_covers entry_span rest (node ∷ []) n k, covers_cons (entry_span node) (map entry_span rest) n k, covers_cons (entry_span node) [] n k, covers_nil n k))
          (let e = ap (λ (xs : List Address). length xs) nil in omega (arith, e, length-append rest (node ∷ [])))
          (places_join lob.page lob.index (map place_of (versions lob.pieces)) (rest ++ node ∷ []) placed.0 (places_join lob.page lob.index rest (node ∷ []) frees.1 (frees.0, tt))),
      within_pages (list_spans (free_base lob.page) all) old new lob [] is.shape (free_inside lob [] all within) same,
    )

-- with its loose node in front of the free ones, a LOB stands whole, and only its pages changed
pub node_given : (old new : Pages) (lob : Lob) (node : Address) → IsLobBut old lob (node ∷ [])
    → IsList new (free_base lob.page) (node ∷ lob.free) → SameOutside (list_spans (free_base lob.page) (node ∷ lob.free)) old new
    → IsLob new (record lob { free = node ∷ lob.free }) × SameOutside (lob_spans lob) old new
node_given old new lob node is list same =
    let all = node ∷ lob.free in
    let whole : (n k : ℕ) → covers (map entry_span (lob.free ++ node ∷ [])) n k ≡ covers (map entry_span all) n k =
    λ n k. omega (arith, map_covers entry_span lob.free (node ∷ []) n k, covers_cons (entry_span node) (map entry_span lob.free) n k, covers_cons (entry_span node) [] n k, covers_nil n k) in
    let within : (n k : ℕ) → covers (map entry_span all) n k ≤ covers (map entry_span (lob.free ++ node ∷ [])) n k = λ n k. omega (arith, whole n k) in
    let placed = places_split lob.page lob.index (map place_of (versions lob.pieces)) (lob.free ++ node ∷ []) is.shape.places in
    let frees = places_split lob.page lob.index lob.free (node ∷ []) placed.1 in (
      free_changed old new lob (node ∷ []) all all [] is list same within
          (λ n k. omega (arith, whole n k, map_covers entry_span all [] n k, covers_nil n k))
          (omega (arith, length-append all [], length-append lob.free (node ∷ [])))
          (places_join lob.page lob.index (map place_of (versions lob.pieces)) (all ++ []) placed.0 (frees.1.0, places_join lob.page lob.index lob.free [] frees.0 tt)),
      within_pages (list_spans (free_base lob.page) all) old new lob (node ∷ []) is.shape (free_inside lob (node ∷ []) all within) same,
    )

-- a node that is in no list is apart from the free ones
pub loose_elsewhere : (pages : Pages) (lob : Lob) (node : Address) → IsLobBut pages lob (node ∷ []) → IsApartFromAll (list_spans (free_base lob.page) lob.free) (node_span node)
loose_elsewhere pages lob node is =
    let once = covers_once (lob_parts lob (node ∷ [])) is.shape.apart in
    let fb = base_span (free_base lob.page) in
    from_all_by (list_spans (free_base lob.page) lob.free) (node_span node) (lit≤ tt, map_wide node_span lob.free (λ a. lit≤ tt)) (lit≤ tt) (λ n k.
    let here : has (node_span node) n k ≤ has (entry_span node) n k = has_less (node_span node) (entry_span node) n k (λ at. let low = at.1 in let high = at.2 in (at.0, low, omega arith)) in
    omega (arith, once n k, here, parts_covers lob (node ∷ []) n k, covers_cons fb (map node_span lob.free) n k, nodes_covered lob.free n k, map_covers entry_span lob.free (node ∷ []) n k, covers_cons (entry_span node) [] n k, covers_nil n k))

-- its entry fits its page, and there are fewer than 2 ^ 32 nodes
pub few_free : (lob : Lob) (loose : List Address) → IsShaped lob loose → length lob.index ≤ 32_768 → length lob.free + 1 < 4_294_967_296
few_free lob loose shape few = elim shape.all [
  | inl all ↦ omega (arith, all, few, length-append (map place_of (versions lob.pieces)) (lob.free ++ loose), length-append lob.free loose)
  | inr none ↦ omega (arith, none, length-append (map place_of (versions lob.pieces)) (lob.free ++ loose), length-append lob.free loose)
]
