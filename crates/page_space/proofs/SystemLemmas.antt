-- The system page laid out by its table, and what it means.
use Rattle.std.proofs.Common.{◌≡◌, inl, inr, ℕ, zero, suc, ◌+◌, ◌-◌, ◌*◌, ◌/◌, ◌%◌, ◌<◌, ◌≤◌, List, [], ◌∷◌, ◌++◌, length, get_or, replicate, Option, Some, None, refl, sym, ap, subst, lit≤, ◌∙◌, arith}
use Rattle.std.specs.Int.{bit_at}
use Rattle.std.specs.Option.{option_map}
use Rattle.std.proofs.lemmas.Bool.{cases_eq, cases_lt}
use Rattle.std.proofs.lemmas.List.{ext_get_or, get_or_past, get_or-replicate, length-replicate}
use Rattle.std.proofs.lemmas.Nat.Bits.{bit_at-zero, bit_at_above}
use Rattle.page_model.specs.Pages.{Pages, AreWhole, Fits, page_at, byte, field, patched, written, null_page, page_bytes}
use Rattle.page_model.specs.Spans.{span, SameOutside}
use Rattle.page_model.specs.Lists.{IsList}
use Rattle.page_model.specs.Steps.{Told}
use Rattle.page_model.specs.Tables.{Field, field_at, HasFields, SetsFields, header_fields, base_fields}
use Rattle.page_model.proofs.FrameLemmas.{length-patched, get_or-patched_here, page_at-written, written_outside}
use Rattle.page_model.proofs.TableLemmas.{sets_then, has_left, has_right, fields_alone, rising_across, rising_past, base_empty}
use Rattle.page_space.specs.Map.{IsSize, max_pages, bit, zeros, free_of}
use Rattle.page_space.specs.System.{IsSystemPage, MakesSystem, counter_fields, system_fields, in_system}
use Rattle.page_space.proofs.MapLemmas.{field-byte}

-- ---- one page alone

-- a page of zeros
pub blank_at : (page : List ℕ) → page ≡ replicate page_bytes 0 → (k : ℕ) → get_or page k 0 ≡ 0
blank_at page is k = ap (λ (p : List ℕ). get_or p k 0) is ∙ elim (cases_lt k page_bytes) [
  | inl within ↦ get_or-replicate page_bytes k 0 0 within
  | inr past ↦ get_or_past (replicate page_bytes 0) k 0 (omega (arith, length-replicate {A = ℕ} page_bytes 0))
]

-- what stands behind the header
abbrev pub own_fields : ℕ → List Field
own_fields count = counter_fields count ++ (base_fields 66 ++ (base_fields 82 ++ (base_fields 98 ++ field_at 128 1 1 ∷ [])))

-- the header and then the table, written in zeros
pub laid_out : (count : ℕ) (p0 p1 p2 : List ℕ) → ((k : ℕ) → get_or p0 k 0 ≡ 0) → SetsFields 0 (header_fields 0 null_page null_page 1) (p0 ∷ []) (p1 ∷ []) → SetsFields 0 (own_fields count) (p1 ∷ []) (p2 ∷ [])
    → IsSystemPage count p2
laid_out count p0 p1 p2 blank first then =
    let all = sets_then 0 (header_fields 0 null_page null_page 1) (own_fields count) (p0 ∷ []) (p1 ∷ []) (p2 ∷ []) (rising_across 0 0 (header_fields 0 null_page null_page 1) (own_fields count) refl) first then in
    record { fields = all.here; rest = λ k off. all.outside.bytes 0 k off ∙ blank k }

-- ---- what it means

module _ (count : ℕ) (pages : Pages) (system : IsSystemPage count (page_at pages 0)) where
  counters : HasFields pages 0 (counter_fields count)
  counters = has_left pages 0 (counter_fields count) (base_fields 66 ++ (base_fields 82 ++ (base_fields 98 ++ field_at 128 1 1 ∷ []))) (own)
    where
      own : HasFields pages 0 (own_fields count)
      own = has_right pages 0 (header_fields 0 null_page null_page 1) (own_fields count) (fields_alone pages 0 (system_fields count) system.fields)

  from_rows : HasFields pages 0 (base_fields 66 ++ (base_fields 82 ++ (base_fields 98 ++ field_at 128 1 1 ∷ [])))
  from_rows = has_right pages 0 (header_fields 0 null_page null_page 1 ++ counter_fields count) (base_fields 66 ++ (base_fields 82 ++ (base_fields 98 ++ field_at 128 1 1 ∷ []))) (fields_alone pages 0 (system_fields count) system.fields)

  from_active : HasFields pages 0 (base_fields 82 ++ (base_fields 98 ++ field_at 128 1 1 ∷ []))
  from_active = has_right pages 0 (base_fields 66) (base_fields 82 ++ (base_fields 98 ++ field_at 128 1 1 ∷ [])) from_rows

  from_committed : HasFields pages 0 (base_fields 98 ++ field_at 128 1 1 ∷ [])
  from_committed = has_right pages 0 (base_fields 82) (base_fields 98 ++ field_at 128 1 1 ∷ []) from_active

  free_new : free_of pages ≡ count - 1
  free_new = counters.1.1.1.0

  rows_empty : IsList pages (in_system 66) []
  rows_empty = base_empty pages 0 66 (has_left pages 0 (base_fields 66) (base_fields 82 ++ (base_fields 98 ++ field_at 128 1 1 ∷ [])) from_rows)

  active_empty : IsList pages (in_system 82) []
  active_empty = base_empty pages 0 82 (has_left pages 0 (base_fields 82) (base_fields 98 ++ field_at 128 1 1 ∷ []) from_active)

  committed_empty : IsList pages (in_system 98) []
  committed_empty = base_empty pages 0 98 (has_left pages 0 (base_fields 98) (field_at 128 1 1 ∷ []) from_committed)

  first_byte : byte pages 0 128 ≡ 1
  first_byte = sym (field-byte pages 0 128) ∙ (has_right pages 0 (base_fields 98) (field_at 128 1 1 ∷ []) from_committed).0

  bit_first : bit pages 0 ≡ 1
  bit_first = ap (λ (n : ℕ). bit_at n 0) first_byte

  bit_rest : (k : ℕ) → 1 ≤ k → k < max_pages → bit pages k ≡ 0
  bit_rest k some few = elim (cases_lt k 8) [
    | inl low ↦
        let place : k / 8 ≡ 0 = omega arith in
        ap (λ (j : ℕ). bit_at (byte pages 0 (128 + j)) (k % 8)) place ∙ ap (λ (n : ℕ). bit_at n (k % 8)) first_byte ∙ bit_at_above 1 1 (k % 8) (lit≤ tt) (omega arith)
    | inr high ↦ ap (λ (n : ℕ). bit_at n (k % 8)) (system.rest (128 + k / 8) (rising_past 0 0 (system_fields count) (128 + k / 8) refl (omega arith))) ∙ bit_at-zero (k % 8)
  ]

  zeros_new : (n : ℕ) → n + 1 ≤ max_pages → zeros pages (suc n) ≡ n
  unfolding zeros
  zeros_new zero few = omega (arith, bit_first)
  zeros_new (suc n) few = omega (arith, zeros_new n (omega arith), bit_rest (suc n) (omega arith) (omega arith))

-- ---- the page written over page 0

whole_patched : (page q : List ℕ) → length q ≡ length page → patched page 0 q ≡ q
whole_patched page q same =
    ext_get_or 0 (patched page 0 q) q (length-patched page 0 q (omega arith) ∙ sym same)
    (λ k below. get_or-patched_here page 0 q k 0 (omega arith) (omega arith) (omega (arith, length-patched page 0 q (omega arith))) ∙ ap (λ (m : ℕ). get_or q m 0) (omega arith))

pub makes : (pages : Pages) (count : ℕ) (q : List ℕ) → AreWhole pages count → IsSize count → length q ≡ page_bytes → IsSystemPage count q → MakesSystem pages (written pages 0 0 q)
makes pages count q whole size len system =
    let new = written pages 0 0 q in
    let some = size.some in
    let few = size.few in
    let full : length (page_at pages 0) ≡ page_bytes = whole.each 0 (omega arith) in
    let there : 0 < length pages = omega (arith, whole.many) in
    let fits : Fits pages 0 0 (length q) = record { there = there; within = omega arith } in
    let out = written_outside pages 0 0 q fits in
    let is : page_at new 0 ≡ q = page_at-written pages 0 0 q there ∙ whole_patched (page_at pages 0) q (len ∙ sym full) in
    let here : IsSystemPage count (page_at new 0) = subst (IsSystemPage count) (sym is) system in
    let many : length new ≡ count = out.many ∙ whole.many in
    let last : length new ≡ suc (count - 1) = omega (arith, many) in
    let P : ℕ → Type 0 = λ n. IsSystemPage n (page_at new 0) in
    let S : ℕ → Type 0 = λ n. SameOutside (span 0 0 n ∷ []) pages new in
    record {
      page = subst P (sym whole.many) here;
      outside = subst S len out;
      fields = let Q : ℕ → Type 0 = λ n. HasFields new 0 (system_fields n) in subst Q (sym whole.many) (fields_alone new 0 (system_fields count) here.fields);
      map = record {
        size = subst IsSize (sym many) size;
        count = free_new count new here ∙ sym (ap (zeros new) last ∙ zeros_new count new here (count - 1) (omega arith));
        beyond = λ k past below. bit_rest count new here k (omega (arith, many)) below;
      };
      used = bit_first count new here;
      alone = λ k below used. elim (cases_eq k 0) [
        | inl first ↦ first
        | inr other ↦ absurd (omega (arith, used, bit_rest count new here k (omega arith) below))
      ];
      row_pages = rows_empty count new here;
      active_logs = active_empty count new here;
      committed_logs = committed_empty count new here;
    }

-- a system page written over page 0 of whole pages makes the system, where they are told
pub makes_told : (old new : Option Pages) (count : ℕ) (q : List ℕ) → ((pages : Pages) → old ≡ Some pages → AreWhole pages count) → IsSize count → length q ≡ page_bytes → IsSystemPage count q
    → new ≡ option_map (λ pages. written pages 0 0 q) old → Told MakesSystem old new
makes_told None new count q whole size len system is = is
makes_told (Some pages) new count q whole size len system is =
    let P : Option Pages → Type 0 = λ o. Told MakesSystem (Some pages) o in
    subst P (sym is) (makes pages count q (whole pages refl) size len system)
