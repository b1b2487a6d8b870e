-- An index page laid out, and the base of the free nodes.
use Rattle.std.proofs.Common.{◌≡◌, inl, inr, ℕ, zero, suc, ◌+◌, ◌*◌, ◌<◌, ◌≤◌, Bool, true, ◌&&◌, List, [], ◌∷◌, length, map, Option, Some, None, refl, sym, ap, ap₂, ◌∙◌, subst, lit≤, arith}
use Rattle.std.specs.Option.{option_map}
use Rattle.std.proofs.lemmas.Bool.{cases_eq, le-leb, cond-true, cond-false, eq-eqb, ne_eqb}
use Rattle.page_model.specs.Pages.{Pages, AreWhole, Fits, Address, field, address_at, written, null_address, null_page}
use Rattle.page_model.specs.Spans.{span, AreApart, SameOutside}
use Rattle.page_model.specs.Lists.{IsWalk, first_or, last_or}
use Rattle.page_model.specs.Steps.{Told}
use Rattle.page_model.specs.Tables.{Field, HasFields, field_span, header_fields, are_rising}
use Rattle.page_model.proofs.FrameLemmas.{written_outside, field-written_in}
use Rattle.page_model.proofs.TableLemmas.{fields_kept, table_written}
use Rattle.lob_pages.proofs.ByteLemmas.{alone}
use Rattle.lob_model.specs.Places.{at_place, entries_from}
use Rattle.lob_index.specs.IndexPages.{node_at, linked, link_fields, node_fields, AreLinked, MakesIndexPage, SetsFreeBase}

-- ---- in the buffer

node_off : (page i j : ℕ) → j < i → AreApart (span 0 (39 + 60 * (i + 1)) 12 ∷ []) (map (field_span 0) (node_fields page j))
node_off page i j low = (
  (inr (inl (omega (arith, low))), tt),
  ((inr (inl (omega (arith, low))), tt), ((inr (inl (omega (arith, low))), tt), ((inr (inl (omega (arith, low))), tt), tt))),
)

-- a node's links in an index page are apart from the page's header
pub header_off : (page behind i : ℕ) → AreApart (span 0 (39 + 60 * (i + 1)) 12 ∷ []) (map (field_span 0) (header_fields page null_page behind 6))
header_off page behind i = ((inr (inl (omega arith)), tt), ((inr (inl (omega arith)), tt), ((inr (inl (omega arith)), tt), ((inr (inl (omega arith)), tt), tt))))

-- where i nodes are linked and node i is written, i + 1 are linked
pub linked_on : (old new : Pages) (page i : ℕ) → SameOutside (span 0 (39 + 60 * (i + 1)) 12 ∷ []) old new → AreLinked old 0 page i → HasFields new 0 (node_fields page i) → AreLinked new 0 page (i + 1)
linked_on old new page i same are here = λ j below. elim (cases_eq j i) [
  | inl e ↦ let P : ℕ → Type 0 = λ k. HasFields new 0 (node_fields page k) in subst P (sym e) here
  | inr other ↦ let low : j < i = omega (arith, below, other) in fields_kept (span 0 (39 + 60 * (i + 1)) 12 ∷ []) old new 0 (node_fields page j) same (node_off page i j low) (are j low)
]

-- ---- written

both_true : (a b : Bool) → a ≡ true → b ≡ true → (a && b) ≡ true
both_true a b x y = ap₂ (λ (p q : Bool). p && q) x y

rising_links : (at : ℕ) (before behind : Address) → are_rising at (link_fields at before behind) ≡ true
rising_links at before behind =
    both_true _ _ (le-leb at at (omega arith)) (both_true _ _ (le-leb (at + 4) (at + 4) (omega arith)) (both_true _ _ (le-leb (at + 4 + 2) (at + 6) (omega arith)) (both_true _ _ (le-leb (at + 6 + 4) (at + 10) (omega arith)) refl)))

index_made : (pages : Pages) (count page behind : ℕ) (bytes : List ℕ) → AreWhole pages count → page < count → length bytes ≡ 16_384
    → HasFields (bytes ∷ []) 0 (header_fields page null_page behind 6) → AreLinked (bytes ∷ []) 0 page 271 → MakesIndexPage page behind pages (written pages page 0 bytes)
index_made pages count page behind bytes whole there len header nodes =
    let fits : Fits pages page 0 (length bytes) = record {
      there = omega (arith, whole.many, there);
      within = omega (arith, whole.each page there, len);
    } in
    let S : ℕ → Type 0 = λ n. SameOutside (span page 0 n ∷ []) pages (written pages page 0 bytes) in
    record {
      header = table_written pages page bytes 0 (header_fields page null_page behind 6) fits refl (omega (arith, len)) header;
      nodes = λ i below. table_written pages page bytes (39 + 60 * (i + 1)) (node_fields page i) fits (rising_links (39 + 60 * (i + 1)) (linked page i) (linked page (i + 2))) (omega (arith, len, below)) (nodes i below);
      outside = subst S len (written_outside pages page 0 bytes fits);
    }

-- over told pages, writing the buffer laid out makes an index page
pub index_told : (old new : Option Pages) (count page behind : ℕ) (bytes : List ℕ) → ((pages : Pages) → old ≡ Some pages → AreWhole pages count) → page < count → length bytes ≡ 16_384
    → HasFields (bytes ∷ []) 0 (header_fields page null_page behind 6) → AreLinked (bytes ∷ []) 0 page 271 → new ≡ option_map (λ pages. written pages page 0 bytes) old → Told (MakesIndexPage page behind) old new
index_told None new count page behind bytes whole there len header nodes is = is
index_told (Some pages) new count page behind bytes whole there len header nodes is =
    let P : Option Pages → Type 0 = λ o. Told (MakesIndexPage page behind) (Some pages) o in
    subst P (sym is) (index_made pages count page behind bytes (whole pages refl) there len header nodes)

abbrev base_table : ℕ → ℕ → List Field
base_table n page =
    record { at = 0; width = 4; value = n } ∷ record { at = 4; width = 4; value = page } ∷ record { at = 8; width = 2; value = 99 } ∷ record { at = 10; width = 4; value = page }
    ∷ record { at = 14; width = 2; value = 16_299 } ∷ []

base_set : (pages : Pages) (count first page n : ℕ) (bytes : List ℕ) → AreWhole pages count → first < count → length bytes ≡ 16 → n ≡ 271 → HasFields (bytes ∷ []) 0 (base_table n page)
    → SetsFreeBase first page pages (written pages first 80 bytes)
base_set pages count first page n bytes whole there len all has =
    let fits : Fits pages first 80 (length bytes) = record {
      there = omega (arith, whole.many, there);
      within = omega (arith, whole.each first there, len);
    } in
    let new = written pages first 80 bytes in
    let S : ℕ → Type 0 = λ k. SameOutside (span first 80 k ∷ []) pages new in
    let here : (i width value : ℕ) → i + width ≤ 16 → field (bytes ∷ []) 0 i width ≡ value → field new first (80 + i) width ≡ value =
    λ i width value within is. field-written_in pages first 80 bytes i width fits (omega (arith, len, within)) ∙ sym (alone bytes i width) ∙ is in
    let A : ℕ → ℕ → Address = λ p k. at_place p k in
    record {
      count = here 0 4 n (lit≤ tt) has.0 ∙ all;
      first' = ap₂ A (here 4 4 page (lit≤ tt) has.1.0) (here 8 2 99 (lit≤ tt) has.1.1.0);
      last = ap₂ A (here 10 4 page (lit≤ tt) has.1.1.1.0) (here 14 2 16_299 (lit≤ tt) has.1.1.1.1.0);
      outside = subst S len (written_outside pages first 80 bytes fits);
    }

-- over told pages, writing the 16 bytes sets the base to the page's 271 free nodes
pub base_told : (old new : Option Pages) (count first page n : ℕ) (bytes : List ℕ) → ((pages : Pages) → old ≡ Some pages → AreWhole pages count) → first < count → length bytes ≡ 16 → n ≡ 271
    → HasFields (bytes ∷ []) 0 (base_table n page) → new ≡ option_map (λ pages. written pages first 80 bytes) old → Told (SetsFreeBase first page) old new
base_told None new count first page n bytes whole there len all has is = is
base_told (Some pages) new count first page n bytes whole there len all has is =
    let P : Option Pages → Type 0 = λ o. Told (SetsFreeBase first page) (Some pages) o in
    subst P (sym is) (base_set pages count first page n bytes (whole pages refl) there len all has)

-- ---- the list of its nodes

linked_here : (page k : ℕ) → 1 ≤ k → k < 272 → linked page k ≡ node_at page k
linked_here page k low high = cond-false _ null_address _ (ne_eqb k 0 (λ e. omega (arith, e, low))) ∙ cond-false _ null_address (node_at page k) (ne_eqb k 272 (λ e. omega (arith, e, high)))

linked_end : (page k : ℕ) → k ≡ 272 → linked page k ≡ null_address
linked_end page k e = cond-false _ null_address _ (ne_eqb k 0 (λ z. omega (arith, z, e))) ∙ cond-true _ null_address (node_at page k) (eq-eqb k 272 e)

-- the nodes from i + 1 on
walk_from : (pages : Pages) (page : ℕ) (n i at : ℕ) (before : Address) → page < length pages → i + n ≡ 271 → at ≡ 39 + 60 * (i + 1) → before ≡ linked page i → AreLinked pages page page 271 → IsWalk pages before (entries_from page at n) null_address
walk_from pages page zero i at before there few place is are = tt
walk_from pages page (suc n) i at before there few place is are =
    let has = are i (omega (arith, few)) in
    let a = at_place page at in
    let A : ℕ → ℕ → Address = λ p k. at_place p k in
    let W : ℕ → Address → Type 0 = λ k b. address_at pages page k ≡ b in
    let back : address_at pages page (39 + 60 * (i + 1)) ≡ linked page i = ap₂ A has.0 has.1.0 in
    let ten : 39 + 60 * (i + 1) + 6 + 4 ≡ 39 + 60 * (i + 1) + 10 = omega arith in
    let on : address_at pages page (39 + 60 * (i + 1) + 6) ≡ linked page (i + 2) = ap₂ A has.1.1.0 (ap (λ (k : ℕ). field pages page k 2) ten ∙ has.1.1.1.0) in
    let same : a ≡ linked page (i + 1) = ap (at_place page) place ∙ sym (linked_here page (i + 1) (omega arith) (omega (arith, few))) in (
      record { page = there; within = omega (arith, place, few) },
      ap (address_at pages page) place ∙ back ∙ sym is,
      ap (λ (k : ℕ). address_at pages page (k + 6)) place ∙ on ∙ next n few,
      walk_from pages page n (i + 1) (at + 60) a there (omega (arith, few)) (omega (arith, place)) same are,
    )
  where
    next : (m : ℕ) → i + suc m ≡ 271 → linked page (i + 2) ≡ first_or null_address (entries_from page (at + 60) m)
    next zero few' = linked_end page (i + 2) (omega (arith, few'))
    next (suc m) few' = linked_here page (i + 2) (omega arith) (omega (arith, few')) ∙ ap (at_place page) (omega (arith, place))

last_from : (page at n : ℕ) (before : Address) → last_or before (entries_from page at (suc n)) ≡ at_place page (at + 60 * n)
last_from page at zero before = ap (at_place page) (omega arith)
last_from page at (suc n) before = last_from page (at + 60) n (at_place page at) ∙ ap (at_place page) (omega arith)

-- the 271 nodes of an index page that is laid out are a walk from null to null
pub walk_there : (pages : Pages) (page : ℕ) → page < length pages → AreLinked pages page page 271 → IsWalk pages null_address (entries_from page 99 271) null_address
walk_there pages page there are = walk_from pages page 271 0 99 null_address there refl refl refl are

-- the last of them is at byte 16,299
pub last_there : (page : ℕ) → last_or null_address (entries_from page 99 271) ≡ at_place page 16_299
last_there page = last_from page 99 270 null_address
