-- A LOB without pieces has its shape, and so has one with the entries of a further index page.
use Rattle.std.proofs.Common.{◌≡◌, inl, inr, ℕ, zero, suc, ◌+◌, ◌*◌, ◌<◌, ◌≤◌, List, [], ◌∷◌, ◌++◌, map, length, refl, sym, ap, ◌∙◌, subst, lit≤, arith, append-nil}
use Rattle.std.proofs.lemmas.List.{length-append}
use Rattle.page_model.specs.Pages.{Pages, Address, field, null_page}
use Rattle.page_model.specs.Spans.{Span, span, IsOff, IsApart, IsApartFromAll}
use Rattle.page_model.specs.Lists.{IsList, base_span}
use Rattle.page_model.proofs.FrameLemmas.{off_part}
use Rattle.store_data.specs.Store.{Lob}
use Rattle.lob_model.specs.Pieces.{versions, place_of}
use Rattle.lob_model.specs.Places.{at_place, heads_base, free_base, entry_span, head_span, first_span, whole_page, IsEntryPlace, AreEntryPlaces, entries_from, first_entries, index_entries}
use Rattle.lob_model.specs.Lobs.{IsPage, IsLob, IsShaped, entries, lob_parts, lob_spans}
use Rattle.lob_model.specs.Begin.{begun, refilled}
use Rattle.page_model.specs.Counts.{covers, has, IsIn}
use Rattle.page_model.proofs.CoverLemmas.{covers_cons, covers_nil, covers_once, has_less, has_off, in_or_off, map_covers, pairwise_by, covers_off}
use Rattle.lob_model.proofs.FreeLemmas.{parts_wide, parts_covers}
use Rattle.lob_model.proofs.NodeLemmas.{off_pages, places_split, places_join}

-- ---- entries one behind another

-- a list of so many entries one behind another has that length
pub long_from : (page at n : ℕ) → length (entries_from page at n) ≡ n
long_from page at zero = refl
long_from page at (suc n) = omega (arith, long_from page (at + 60) n)

-- entries in a page from a place on
in_page : Span → ℕ → ℕ → ℕ → Type 0
in_page s page low high = (s.page ≡ page) × (low ≤ s.at) × (s.at + s.size ≤ high)

-- how many of them have a byte: at most one, and none below the first or behind the last
from_covers : (page at n m k : ℕ) → covers (map entry_span (entries_from page at n)) m k ≤ has (span page at (60 * n)) m k
from_covers page at zero m k = omega (arith, covers_nil m k)
from_covers page at (suc n) m k =
    let whole = span page at (60 * suc n) in
    let one = span page at 60 in
    let rest = span page (at + 60) (60 * n) in
    let ih = from_covers page (at + 60) n m k in
    let cons = covers_cons (entry_span (at_place page at)) (map entry_span (entries_from page (at + 60) n)) m k in
    elim (in_or_off one m k) [
      | inl is ↦
          let past : has rest m k ≡ 0 = has_off rest m k (let high = is.2 in inr (inl (omega (arith, high)))) in
          let less : has one m k ≤ has whole m k = has_less one whole m k (λ at'. let low = at'.1 in let high = at'.2 in (at'.0, low, omega (arith, high))) in
          omega (arith, ih, cons, past, less)
      | inr off ↦
          let none : has one m k ≡ 0 = has_off one m k off in
          let less : has rest m k ≤ has whole m k = has_less rest whole m k (λ at'. let low = at'.1 in let high = at'.2 in (at'.0, omega (arith, low), omega (arith, high))) in
          omega (arith, ih, cons, none, less)
    ]

nth_from : (page from count at n i : ℕ) → at ≡ from + 60 * i → i + n ≤ count → (P : Address → Type 0) → ((j : ℕ) → j < count → P (at_place page (from + 60 * j))) → (first : ℕ) (index : List ℕ)
    → ((a : Address) → P a → IsEntryPlace first index a) → AreEntryPlaces first index (entries_from page at n)
nth_from page from count at zero i is few P each first index to = tt
nth_from page from count at (suc n) i is few P each first index to = (
  let Q : ℕ → Type 0 = λ k. IsEntryPlace first index (at_place page k) in subst Q (sym is) (to (at_place page (from + 60 * i)) (each i (omega (arith, few)))),
  nth_from page from count (at + 60) n (i + 1) (omega (arith, is)) (omega (arith, few)) P each first index to,
)

first_places : (page : ℕ) → AreEntryPlaces page [] (first_entries page)
first_places page = nth_from page 96 10 96 10 0 refl (lit≤ tt) (λ a. IsEntryPlace page [] a) (λ j below. inl (refl, (j, below, refl))) page [] (λ a is. is)

index_places : (first page : ℕ) (index : List ℕ) → AreEntryPlaces first (page ∷ index) (index_entries page)
index_places first page index = nth_from page 39 272 39 272 0 refl (lit≤ tt) (λ a. IsEntryPlace first (page ∷ index) a) (λ j below. inr (inl refl, (j, below, refl))) first (page ∷ index) (λ a is. is)

-- ---- a new LOB

-- a new LOB has the shape of one
pub begun_shape : (page : ℕ) → IsShaped (begun page) []
begun_shape page = record {
  steady = tt;
  falling = tt;
  full = tt;
  places = let P : List Address → Type 0 = λ xs. AreEntryPlaces page [] xs in subst P (sym (append-nil (first_entries page))) (first_places page);
  all = inl (ap (λ (xs : List Address). length xs) (append-nil (first_entries page)) ∙ long_from page 96 10);
  apart = pairwise_by (lob_parts (begun page) []) (parts_wide (begun page) []) (λ n k.
      let all = parts_covers (begun page) [] n k in
      let nil = map_covers entry_span (first_entries page) [] n k in
      let es = from_covers page 96 10 n k in
      omega (arith, all, nil, es, covers_nil n k, four page n k));
}
  where
    -- a byte of the page is in one of four parts at most
    four : (page n k : ℕ) → has (first_span page) n k + has (base_span (heads_base page)) n k + has (base_span (free_base page)) n k + has (span page 96 (60 * 10)) n k ≤ 1
    four page n k = omega (
      arith,
      covers_once (first_span page ∷ base_span (heads_base page) ∷ base_span (free_base page) ∷ span page 96 (60 * 10) ∷ [])
          ((inr (inl (lit≤ tt)), (inr (inl (lit≤ tt)), (inr (inl (lit≤ tt)), tt))), ((inr (inl (lit≤ tt)), (inr (inl (lit≤ tt)), tt)), ((inr (inl (lit≤ tt)), tt), (tt, tt)))) n k,
      covers_cons (first_span page) (base_span (heads_base page) ∷ base_span (free_base page) ∷ span page 96 (60 * 10) ∷ []) n k,
      covers_cons (base_span (heads_base page)) (base_span (free_base page) ∷ span page 96 (60 * 10) ∷ []) n k,
      covers_cons (base_span (free_base page)) (span page 96 (60 * 10) ∷ []) n k,
      covers_cons (span page 96 (60 * 10)) [] n k,
      covers_nil n k,
    )

-- a first page of version 1, without index pages and heads, and with its entries free, is a new LOB
pub begun_stands : (pages : Pages) (page : ℕ) → IsPage pages 4 page → field pages page 40 4 ≡ 1 → field pages page 12 4 ≡ null_page
    → IsList pages (heads_base page) [] → IsList pages (free_base page) (first_entries page) → IsLob pages (begun page)
begun_stands pages page first version chain heads free =
    record { first = first; version = version; chain = chain; heads = heads; free = free; lists = tt; versions = tt; shape = begun_shape page }

-- ---- an index page more

wider_places : (first page : ℕ) (index : List ℕ) (xs : List Address) → AreEntryPlaces first index xs → AreEntryPlaces first (page ∷ index) xs
wider_places first page index [] are = tt
wider_places first page index (x ∷ xs) are = (wider x are.0, wider_places first page index xs are.1)
  where
    wider : (a : Address) → IsEntryPlace first index a → IsEntryPlace first (page ∷ index) a
    wider a (inl place) = inl place
    wider a (inr place) = inr (inr place.0, place.1)

-- a LOB without free nodes keeps its shape with the free entries of a fresh index page
pub refilled_shape : (lob : Lob) (page : ℕ) → IsShaped lob [] → lob.free ≡ [] → length (entries lob []) ≡ 10 + 272 * length lob.index → IsApartFromAll (lob_spans lob) (whole_page page) → IsShaped (refilled page lob) []
refilled_shape lob page shape none all fresh =
    let lob' = refilled page lob in
    let vs = map place_of (versions lob.pieces) in
    let news = index_entries page in
    let C : (n k : ℕ) → List Address → ℕ = λ n k xs. covers (map entry_span (xs ++ [])) n k in
    let placed = places_split lob.page lob.index vs (lob.free ++ []) shape.places in
    let gone = ap (λ (xs : List Address). length (xs ++ [])) none in
    record {
      steady = shape.steady;
      falling = shape.falling;
      full = shape.full;
      places = places_join lob.page (page ∷ lob.index) vs (news ++ []) (wider_places lob.page page lob.index vs placed.0)
          (places_join lob.page (page ∷ lob.index) news [] (index_places lob.page page lob.index) tt);
      all = inl (omega (arith, all, gone, long_from page 39 272, length-append vs (news ++ []), length-append vs (lob.free ++ []), length-append news []));
      apart = pairwise_by (lob_parts lob' []) (parts_wide lob' []) (λ n k.
          let a = parts_covers lob [] n k in
          let b = parts_covers lob' [] n k in
          let f = ap (C n k) none in
          let g = map_covers entry_span news [] n k in
          let h = covers_cons (head_span page) (map head_span lob.index) n k in
          let es = from_covers page 39 272 n k in
          let two = both page n k in
          elim (in_or_off (whole_page page) n k) [
            | inl is ↦ omega (arith, a, b, f, g, h, es, two, covers_nil n k, off_pages lob [] n k shape (covers_off (lob_spans lob) n k (fresh_off (lob_spans lob) page n k fresh is)))
            | inr off ↦ omega (
              arith,
              a,
              b,
              f,
              g,
              h,
              es,
              covers_nil n k,
              covers_once (lob_parts lob []) shape.apart n k,
              has_off (head_span page) n k (off_part page 0 16_384 0 39 n k (lit≤ tt) (lit≤ tt) off),
              has_off (span page 39 (60 * 272)) n k (off_part page 0 16_384 39 (60 * 272) n k (lit≤ tt) (lit≤ tt) off),
            )
          ]);
    }
  where
    both : (page n k : ℕ) → has (head_span page) n k + has (span page 39 (60 * 272)) n k ≤ 1
    both page n k = omega (
      arith,
      covers_once (head_span page ∷ span page 39 (60 * 272) ∷ []) ((inr (inl (lit≤ tt)), tt), (tt, tt)) n k,
      covers_cons (head_span page) (span page 39 (60 * 272) ∷ []) n k,
      covers_cons (span page 39 (60 * 272)) [] n k,
      covers_nil n k,
    )

    fresh_off : (ss : List Span) (page n k : ℕ) → IsApartFromAll ss (whole_page page) → IsIn (whole_page page) n k → covers ss n k ≡ 0
    fresh_off [] page n k apart is = covers_nil n k
    fresh_off (s ∷ ss) page n k apart is = omega (arith, covers_cons s ss n k, fresh_off ss page n k apart.1 is, has_off s n k (one apart.0))
      where
        one : IsApart s (whole_page page) → IsOff s n k
        one (inl other) = inl (λ e. other (sym is.0 ∙ e))
        one (inr (inl before)) = let high = is.2 in inr (inl (omega (arith, before, high)))
        one (inr (inr behind)) = let low = is.1 in inr (inr (omega (arith, behind, low)))
