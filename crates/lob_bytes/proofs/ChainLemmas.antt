-- The first index page of a LOB that is being given back.
use Rattle.std.proofs.Common.{◌≡◌, ◌≢◌, inl, inr, ℕ, ◌<◌, ◌≤◌, ◌==◌, List, [], ◌∷◌, ◌++◌, length, Option, Some, None, IfSome, is_some, refl, sym, ap, ◌∙◌, subst, lit≤, arith}
use Rattle.std.proofs.lemmas.Bool.{cases_eq, ne_eqb}
use Rattle.page_model.specs.Pages.{Pages, field, null_page}
use Rattle.page_model.specs.Spans.{span, SetsField}
use Rattle.page_model.specs.Counts.{one_if, times}
use Rattle.page_model.specs.Steps.{PageState}
use Rattle.page_model.proofs.CountLemmas.{times_here}
use Rattle.page_model.proofs.FrameLemmas.{field_kept, off_part, outside_then, outside_wider}
use Rattle.engine_base.specs.Faults.{IsHonest}
use Rattle.engine_base.specs.declared.fault.Fault.{Fault}
use Rattle.engine_base.specs.declared.fault.Fault.TheVariants.{Device, Strange}
use Rattle.engine_base.specs.declared.ids.PageNo.{PageNo}
use Rattle.page_space.specs.Map.{IsUsed, place_of, map_spans, GivesPage}
use Rattle.page_space.specs.Answers.{IsRaisedOrNotUsed}
use Rattle.store_data.specs.Store.{Lob}
use Rattle.store_parts.specs.Keeps.{IsWithin}
use Rattle.store_parts.proofs.CountLemmas.{apart_on, on_pages}
use Rattle.store_parts.proofs.KeepLemmas.{keeps_give, keeps_write, keeps_then}
use Rattle.lob_model.specs.Begin.{bare_lob}
use Rattle.lob_model.specs.Lobs.{IsChain, IsLob, lob_pages, lob_spans}
use Rattle.lob_model.proofs.KeptLemmas.{lob_kept}
use Rattle.lob_model.proofs.RefillLemmas.{unchained_stands}
use Rattle.lob_index.proofs.UseLemmas.{gives_one, gives_then}
use Rattle.lob_bytes.specs.Frees.{CanGive, GivesIndexPage, IsChainLink, IsOddChain, IsOddGiving, has_some, link_number}

-- ---- what was read

-- a chain leads to a page or to none
pub chain_ok : (pages : Pages) (page : ℕ) (index : List ℕ) (count : ℕ) → length pages ≡ count → IsChain pages page index → IsChainLink count (field pages page 12 4)
chain_ok pages page [] count many chain = inl chain
chain_ok pages page (n ∷ more) count many chain = inr (let e = chain.0 in let t = chain.1.there in omega (arith, e, t, many))

-- it leads to the page that was read
pub chain_here : (pages : Pages) (page : ℕ) (n : ℕ) (more : List ℕ) (link : PageNo) → link_number (Some link) ≡ field pages page 12 4 → IsChain pages page (n ∷ more) → link.0 ≡ n
chain_here pages page n more link read chain = read ∙ chain.0

-- a page was read where the chain ends
pub chain_ends : (pages : Pages) (page count : ℕ) (link : PageNo) → link_number (Some link) ≡ field pages page 12 4 → IsChain pages page [] → link.0 < count → count ≤ 32_768 → ⊥
chain_ends pages page count link read chain low few = let e : link.0 ≡ null_page = read ∙ chain in omega (arith, e, low, few)

-- none was read where it leads on
pub chain_goes_on : (pages : Pages) (page n count : ℕ) (more : List ℕ) → null_page ≡ field pages page 12 4 → IsChain pages page (n ∷ more) → length pages ≡ count → count ≤ 32_768 → ⊥
chain_goes_on pages page n count more read chain many few = let e : null_page ≡ n = read ∙ chain.0 in let t = chain.1.there in omega (arith, e, t, many, few)

-- whether another page is left
pub left_is : (pages : Pages) (page count : ℕ) (more : List ℕ) (link : Option PageNo) → link_number link ≡ field pages page 12 4 → IfSome link (λ n. n.0 < count) → IsChain pages page more
    → length pages ≡ count → count ≤ 32_768 → is_some link ≡ has_some more
left_is pages page count [] None read low chain many few = refl
left_is pages page count (m ∷ more) None read low chain many few = absurd (chain_goes_on pages page m count more read chain many few)
left_is pages page count [] (Some n) read low chain many few = absurd (chain_ends pages page count n read chain low few)
left_is pages page count (m ∷ more) (Some n) read low chain many few = refl

-- from the page that was read the chain leads on
pub next_ok : (pages : Pages) (page : ℕ) (index : List ℕ) (count : ℕ) (link : PageNo) → link_number (Some link) ≡ field pages page 12 4 → IsChain pages page index → link.0 < count → count ≤ 32_768 → length pages ≡ count → IsChainLink count (field pages link.0 12 4)
next_ok pages page [] count link read chain low few many = absurd (chain_ends pages page count link read chain low few)
next_ok pages page (n ∷ more) count link read chain low few many =
    let P : ℕ → Type 0 = λ k. IsChainLink count (field pages k 12 4) in
    subst P (sym (chain_here pages page n more link read chain)) (chain_ok pages n more count many chain.2)

-- ---- faults

-- an odd link in any page of the chain may be named in giving back index pages
pub next_odd : (s t : PageState) (first next : ℕ) → t.told ≡ s.told → t.count ≡ s.count → (f : Fault) → IsHonest (IsOddChain t.told t.count next) f → IsHonest (IsOddGiving s first) f
next_odd s t first next told count Device honest = tt
next_odd s t first next told count (Strange page at value) honest =
    let P : Option Pages → Type 0 = λ o. IsOddChain o t.count next page.0 at value in
    let Q : ℕ → Type 0 = λ n. IsOddChain s.told n next page.0 at value in
    inr (next, inl (subst Q count (subst P told honest)))

-- so may a count of free pages that is too high, or that the map has such a page as free
pub give_odd : (s t : PageState) (first next : ℕ) → t.told ≡ s.told → t.count ≡ s.count → (f : Fault) → IsHonest (IsRaisedOrNotUsed t.told t.count next) f → IsHonest (IsOddGiving s first) f
give_odd s t first next told count Device honest = tt
give_odd s t first next told count (Strange page at value) honest =
    let P : Option Pages → Type 0 = λ o. IsRaisedOrNotUsed o t.count next page.0 at value in
    let Q : ℕ → Type 0 = λ n. IsRaisedOrNotUsed s.told n next page.0 at value in
    inr (next, inr (subst Q count (subst P told honest)))

-- ---- what is left

no_more : (ns : List ℕ) → IsWithin [] ns
no_more ns n = omega arith

zero_off : (ns : List ℕ) (n : ℕ) → times 0 ns ≡ 0 → 1 ≤ times n ns → times n (0 ∷ []) ≡ 0
zero_off ns n none some = elim (cases_eq 0 n) [
  | inl same ↦ absurd (let e : times 0 ns ≡ times n ns = ap (λ (k : ℕ). times k ns) same in omega (arith, e, none, some))
  | inr other ↦ let e : one_if (0 == n) ≡ 0 = ap one_if (ne_eqb 0 n other) in omega (arith, e)
]

among_not_zero : (ns : List ℕ) (n : ℕ) → times 0 ns ≡ 0 → 1 ≤ times n ns → n ≢ 0
among_not_zero ns n none some same = let e : times n ns ≡ times 0 ns = ap (λ (k : ℕ). times k ns) same in omega (arith, e, none, some)

-- the first page of the chain is one of the LOB's
pub page_in : (lob : Lob) (page : ℕ) (more : List ℕ) → 1 ≤ times page (lob_pages (bare_lob lob (page ∷ more)))
page_in lob page more = let h = times_here page (more ++ []) in omega (arith, h)

-- the page that was read is used
pub used_next : (pages : Pages) (lob : Lob) (index : List ℕ) (count : ℕ) (link : PageNo) → CanGive lob index pages → link_number (Some link) ≡ field pages lob.page 12 4 → link.0 < count → count ≤ 32_768 → IsUsed pages link.0
used_next pages lob [] count link can read low few = absurd (chain_ends pages lob.page count link read can.lob'.chain low few)
used_next pages lob (n ∷ more) count link can read low few = subst (IsUsed pages) (sym (chain_here pages lob.page n more link read can.lob'.chain)) (can.used.each n (page_in lob n more))

module _ (p0 p1 p2 : Pages) (lob : Lob) (page : ℕ) (more : List ℕ) (v : ℕ) (can : CanGive lob (page ∷ more) p0) (gives : GivesPage page p0 p1) (writes : SetsField lob.page 12 4 v p1 p2) (read : v ≡ field p0 page 12 4) (there : page < length p0) where
  first_in : 1 ≤ times lob.page (lob_pages (bare_lob lob (page ∷ more)))
  first_in = times_here lob.page (page ∷ (more ++ []))

  page_other : page ≢ 0
  page_other = among_not_zero (lob_pages (bare_lob lob (page ∷ more))) page can.used.other (page_in lob page more)

  first_other : lob.page ≢ 0
  first_other = among_not_zero (lob_pages (bare_lob lob (page ∷ more))) lob.page can.used.other first_in

  stands : IsLob p1 (bare_lob lob (page ∷ more))
  stands =
      let own = lob_pages (bare_lob lob (page ∷ more)) in
      let ms = span 0 62 4 ∷ span 0 (place_of page) 1 ∷ [] in
      lob_kept ms p0 p1 (bare_lob lob (page ∷ more)) gives.change.outside
      (apart_on (0 ∷ []) own ms (lob_spans (bare_lob lob (page ∷ more))) (λ n some. zero_off own n can.used.other some) (times_here 0 [], (times_here 0 [], tt)) (on_pages own)) can.lob'

  off : times 0 (lob.page ∷ []) ≡ 0
  off = let e : one_if (lob.page == 0) ≡ 0 = ap one_if (ne_eqb lob.page 0 first_other) in omega (arith, e)

  pub gave_index : GivesIndexPage lob page more p0 p2
  gave_index =
      let own = lob_pages (bare_lob lob (page ∷ more)) in
      let own' = lob_pages (bare_lob lob more) in
      let ms = span 0 62 4 ∷ span 0 (place_of page) 1 ∷ [] in
      let ws = span lob.page 12 4 ∷ [] in
      record {
        lob' = unchained_stands p1 p2 lob page more stands writes.outside (writes.here ∙ read ∙ sym (field_kept ms p0 p1 page 12 4 gives.change.outside (inl page_other, (inl page_other, tt))));
        gives = gives_then (lob.page ∷ []) ws p1 p2 writes.outside (times_here lob.page [], tt) off p0 (page ∷ []) (gives_one page p0 p1 (can.used.each page (page_in lob page more)) gives);
        outside = outside_wider (ms ++ ws) (map_spans ++ lob_spans (bare_lob lob more)) p0 p2
            (λ n k o. (o.0, (off_part 0 128 4_096 (place_of page) 1 n k (omega arith) (let m = can.map.size.few in omega (arith, m, there)) o.1.0, (off_part lob.page 0 16_384 12 4 n k (lit≤ tt) (lit≤ tt) o.1.1.0, tt)))) (outside_then ms ws p0 p1 p2 gives.change.outside writes.outside);
        keeps = keeps_then [] own own' own' p0 p1 p2 (keeps_give [] own own' page p0 p1 (no_more own) (λ n. omega arith) gives) (keeps_write [] own' ws p1 p2 (no_more own') tt writes.outside (times_here lob.page (more ++ []), tt));
      }
