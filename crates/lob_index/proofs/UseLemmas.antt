-- Pages that become used or free, one call after another, and where other bytes change.
use Rattle.std.proofs.Common.{◌≡◌, ◌≢◌, ◌⊎◌, inl, inr, ℕ, ◌%◌, ◌<◌, ◌≤◌, ◌==◌, List, [], ◌∷◌, ◌++◌, length, sym, ap, ◌∙◌, subst, arith}
use Rattle.std.specs.Int.{bit_at}
use Rattle.std.proofs.lemmas.Bool.{cases_eq, cases_lt, eq-eqb, ne_eqb}
use Rattle.std.proofs.lemmas.List.{length-append}
use Rattle.page_model.specs.Pages.{Pages}
use Rattle.page_model.specs.Spans.{Span, span, SameOutside}
use Rattle.page_model.specs.Counts.{one_if, times}
use Rattle.page_model.proofs.CountLemmas.{times-append, times_here}
use Rattle.page_model.proofs.FrameLemmas.{field_kept}
use Rattle.page_space.specs.Map.{IsMap, IsUsed, IsFree, bit, place_of, free_of, TakesPage, GivesPage}
use Rattle.page_space.proofs.MapLemmas.{map_kept}
use Rattle.store_parts.specs.Stored.{Stored, part_pages}
use Rattle.store_parts.specs.Standing.{IsStoreBut, AreOn}
use Rattle.store_parts.proofs.CountLemmas.{off_page}
use Rattle.store_parts.proofs.MoveLemmas.{off_zero_page, not_zero, marked}
use Rattle.lob_index.specs.Use.{AreUsed, TakesPages, GivesPages}

-- ---- one page

-- of one page each is that page
pub one_of : (n page : ℕ) → 1 ≤ times n (page ∷ []) → n ≡ page
one_of n page some = elim (cases_eq page n) [
  | inl same ↦ sym same
  | inr other ↦ absurd (let e : one_if (page == n) ≡ 0 = ap one_if (ne_eqb page n other) in omega (arith, e, some))
]

pub not_one : (n page : ℕ) → times n (page ∷ []) ≡ 0 → n ≢ page
not_one n page none = λ same. (let e : one_if (page == n) ≡ 1 = ap one_if (eq-eqb page n (sym same)) in omega (arith, e, none))

-- a page taken is a list of one page taken
pub takes_one : (page : ℕ) (old new : Pages) → TakesPage page old new → TakesPages (page ∷ []) old new
takes_one page old new is = record {
  there = λ n some. let P : ℕ → Type 0 = λ k. k < length old in subst P (sym (one_of n page some)) is.there;
  free = λ n some. subst (IsFree old) (sym (one_of n page some)) is.free;
  used = λ n some. subst (IsUsed new) (sym (one_of n page some)) is.change.here;
  lowest = λ n k some below free. (let e = one_of n page some in let u = is.lowest k (omega (arith, e, below)) in absurd (omega (arith, u, free)));
  others = λ n none. is.change.others n (not_one n page none);
  fewer = is.fewer;
  map = is.map;
}

-- a used page given back is a list of one page given back
pub gives_one : (page : ℕ) (old new : Pages) → IsUsed old page → GivesPage page old new → GivesPages (page ∷ []) old new
gives_one page old new used is = record {
  used = λ n some. subst (IsUsed old) (sym (one_of n page some)) used;
  free = λ n some. subst (IsFree new) (sym (one_of n page some)) is.change.here;
  others = λ n none. is.change.others n (not_one n page none);
  more = is.more;
  map = is.map;
}

-- ---- bytes of other pages than the map's

module _ (ns : List ℕ) (ss : List Span) (old new : Pages) (same : SameOutside ss old new) (on : AreOn ns ss) (off : times 0 ns ≡ 0) where
  pub bit_kept : (n : ℕ) → bit new n ≡ bit old n
  bit_kept n = ap (λ (b : ℕ). bit_at b (n % 8)) (same.bytes 0 (place_of n) (off_zero_page ns ss (place_of n) on off))

  pub free_kept : free_of new ≡ free_of old
  free_kept = field_kept ss old new 0 62 4 same (off_page ns ss (span 0 62 4) on off)

  pub map_on : IsMap old → IsMap new
  map_on = map_kept ss old new same (off_page ns ss (span 0 62 4) on off) (off_page ns ss (span 0 128 4_096) on off)

  pub used_on : (ms : List ℕ) → AreUsed old ms → AreUsed new ms
  used_on ms is = record { system = bit_kept 0 ∙ is.system; other = is.other; each = λ n some. bit_kept n ∙ is.each n some }

  pub takes_none : IsMap old → TakesPages [] old new
  takes_none map = record {
    there = λ n some. absurd (omega (arith, some));
    free = λ n some. absurd (omega (arith, some));
    used = λ n some. absurd (omega (arith, some));
    lowest = λ n k some below free. some;
    others = λ n none. bit_kept n;
    fewer = let e = free_kept in omega (arith, e);
    map = map_on map;
  }

  pub takes_then : (before : Pages) (ms : List ℕ) → TakesPages ms before old → TakesPages ms before new
  takes_then before ms is = record {
    there = is.there;
    free = is.free;
    used = λ n some. bit_kept n ∙ is.used n some;
    lowest = is.lowest;
    others = λ n none. bit_kept n ∙ is.others n none;
    fewer = let e = free_kept in let f = is.fewer in omega (arith, e, f);
    map = map_on is.map;
  }

  pub gives_none : IsMap old → GivesPages [] old new
  gives_none map = record {
    used = λ n some. absurd (omega (arith, some));
    free = λ n some. absurd (omega (arith, some));
    others = λ n none. bit_kept n;
    more = let e = free_kept in omega (arith, e);
    map = map_on map;
  }

  pub gives_then : (before : Pages) (ms : List ℕ) → GivesPages ms before old → GivesPages ms before new
  gives_then before ms is = record {
    used = is.used;
    free = λ n some. bit_kept n ∙ is.free n some;
    others = λ n none. bit_kept n ∙ is.others n none;
    more = let e = free_kept in let f = is.more in omega (arith, e, f);
    map = map_on is.map;
  }

-- ---- one call after another

-- pages taken one list after another are taken as one list
pub takes_both : (ns ms : List ℕ) (a b c : Pages) → length b ≡ length a → TakesPages ns a b → TakesPages ms b c → TakesPages (ns ++ ms) a c
takes_both ns ms a b c many first second = record {
  there = λ n some. elim (side n some) [
    | inl l ↦ first.there n l
    | inr r ↦ let P : ℕ → Type 0 = λ k. n < k in subst P many (second.there n r.1)
  ];
  free = λ n some. elim (side n some) [
    | inl l ↦ first.free n l
    | inr r ↦ sym (first.others n r.0) ∙ second.free n r.1
  ];
  used = λ n some. elim (in_second n) [
    | inr r ↦ second.used n r
    | inl z ↦ second.others n z ∙ first.used n (let t = times-append n ns ms in omega (arith, t, z, some))
  ];
  lowest = λ n k some below free. elim (in_first k) [
    | inr l ↦ let t = times-append k ns ms in omega (arith, t, l)
    | inl z ↦ elim (side n some) [
      | inl l ↦ let e = first.lowest n k l below free in let t = times-append k ns ms in omega (arith, t, e)
      | inr r ↦ let e = second.lowest n k r.1 below (first.others k z ∙ free) in let t = times-append k ns ms in omega (arith, t, e)
    ]
  ];
  others = λ n none. let t = times-append n ns ms in second.others n (omega (arith, t, none)) ∙ first.others n (omega (arith, t, none));
  fewer = let f = first.fewer in let g = second.fewer in let l = length-append ns ms in omega (arith, f, g, l);
  map = second.map;
}
  where
    in_first : (n : ℕ) → (times n ns ≡ 0) ⊎ (1 ≤ times n ns)
    in_first n = elim (cases_lt 0 (times n ns)) [ inl some ↦ inr (omega (arith, some)) | inr none ↦ inl (omega (arith, none)) ]

    in_second : (n : ℕ) → (times n ms ≡ 0) ⊎ (1 ≤ times n ms)
    in_second n = elim (cases_lt 0 (times n ms)) [ inl some ↦ inr (omega (arith, some)) | inr none ↦ inl (omega (arith, none)) ]

    side : (n : ℕ) → 1 ≤ times n (ns ++ ms) → (1 ≤ times n ns) ⊎ ((times n ns ≡ 0) × (1 ≤ times n ms))
    side n some = elim (cases_lt 0 (times n ns)) [
      | inl one ↦ inl (omega (arith, one))
      | inr none ↦ inr (omega (arith, none), let t = times-append n ns ms in omega (arith, t, none, some))
    ]

-- pages that were taken are used too
pub used_taken : (ms ns : List ℕ) (old new : Pages) → AreUsed old ms → TakesPages ns old new → AreUsed new (ns ++ ms)
used_taken ms ns old new is takes = record {
  system = takes.others 0 none ∙ is.system;
  other = let t = times-append 0 ns ms in let o = is.other in omega (arith, t, o, none);
  each = λ n some. elim (cases_lt 0 (times n ns)) [
    | inl one ↦ takes.used n (omega (arith, one))
    | inr zero ↦ takes.others n (omega (arith, zero)) ∙ is.each n (let t = times-append n ns ms in omega (arith, t, zero, some))
  ];
}
  where
    none : times 0 ns ≡ 0
    none = elim (cases_lt 0 (times 0 ns)) [
      | inl one ↦ absurd (let f = takes.free 0 (omega (arith, one)) in let u = is.system in omega (arith, f, u))
      | inr zero ↦ omega (arith, zero)
    ]

-- the same pages in another order
pub used_as : (ns ms : List ℕ) (pages : Pages) → ((n : ℕ) → times n ms ≡ times n ns) → AreUsed pages ns → AreUsed pages ms
used_as ns ms pages same is = record {
  system = is.system;
  other = same 0 ∙ is.other;
  each = λ n some. is.each n (let e = same n in omega (arith, e, some));
}

-- pages that a store was taken out of are used
pub used_in_store : (own : List ℕ) (pages : Pages) (s : Stored) → IsStoreBut own pages s → AreUsed pages own
used_in_store own pages s st = record {
  system = (marked pages 0 (let m = st.marks 0 in let h = times_here 0 (part_pages s) in omega (arith, m, h))).1;
  other = not_zero own pages s st;
  each = λ n some. (marked pages n (let m = st.marks n in omega (arith, m, some))).1;
}
