-- The first page of a LOB laid out, and the LOB that stands there then.
use Rattle.std.proofs.Common.{◌≡◌, ◌≢◌, inl, inr, ℕ, zero, suc, ◌+◌, ◌*◌, ◌<◌, ◌≤◌, ◌==◌, Bool, true, ◌&&◌, List, [], ◌∷◌, ◌++◌, length, map, Option, Some, None, refl, sym, ap, ap₂, ◌∙◌, subst, lit≤, arith}
use Rattle.std.specs.Option.{option_map}
use Rattle.std.proofs.lemmas.Bool.{cases_eq, le-leb, cond-true, cond-false, eq-eqb, ne_eqb}
use Rattle.page_model.specs.Pages.{Pages, AreWhole, Fits, Address, field, address_at, written, null_address, null_page}
use Rattle.page_model.specs.Spans.{span, AreApart, ArePairwiseApart, SameOutside, SetsField}
use Rattle.page_model.specs.Lists.{IsWalk, first_or, list_spans, base_span, node_span}
use Rattle.page_model.specs.Counts.{one_if, times}
use Rattle.page_model.specs.Steps.{Told}
use Rattle.page_model.specs.Tables.{Field, HasFields, SetsFields, field_span, field_at, header_fields, base_fields, are_rising, table_end}
use Rattle.page_model.proofs.CountLemmas.{times_here}
use Rattle.page_model.proofs.CoverLemmas.{covers_cons, covers_nil, covers_once, map_covers, map_wide, pairwise_by}
use Rattle.page_model.proofs.FrameLemmas.{written_outside, outside_then, outside_wider, off_part}
use Rattle.page_model.proofs.TableLemmas.{fields_kept, table_written, rising_first, rising_within, rising_across, rising_apart, sets_then, sets_more, has_left, has_right, base_empty}
use Rattle.page_space.specs.Map.{IsFree, place_of, map_spans, TakesPage}
use Rattle.store_data.specs.Store.{Lob}
use Rattle.store_parts.specs.Keeps.{IsWithin}
use Rattle.store_parts.proofs.KeepLemmas.{keeps_take, keeps_write, keeps_then}
use Rattle.lob_model.specs.Places.{at_place, free_base, entry_span, whole_page, entries_from}
use Rattle.lob_model.specs.Begin.{begun}
use Rattle.lob_model.specs.Lobs.{IsShaped, lob_parts, lob_spans}
use Rattle.lob_model.proofs.BeginLemmas.{begun_stands, begun_shape}
use Rattle.lob_model.proofs.CoverLemmas.{nodes_covered}
use Rattle.lob_model.proofs.FreeLemmas.{parts_covers}
use Rattle.lob_index.specs.IndexPages.{link_fields}
use Rattle.lob_index.proofs.UseLemmas.{takes_one, takes_then}
use Rattle.lob_bytes.specs.Begin.{linked, node_fields, free_fields, first_fields, AreLinked, MakesFirstPage, CanTakePage, BeginsLob}

-- ---- in the buffer

-- fields that end before a span
pub fields_before : (page from at size : ℕ) (t : List Field) → are_rising from t ≡ true → table_end from t ≤ at → AreApart (span page at size ∷ []) (map (field_span page) t)
fields_before page from at size [] rising end = tt
fields_before page from at size (f ∷ more) rising end =
    let within = rising_within from [] f more rising in (
      (inr (inl (omega (arith, within, end))), tt),
      fields_before page (f.at + f.width) at size more (rising_first from f more rising).1 end,
    )

node_off : (page i j : ℕ) → j < i → AreApart (span 0 (96 + 60 * i) 12 ∷ []) (map (field_span 0) (node_fields page j))
node_off page i j low = (
  (inr (inl (omega (arith, low))), tt),
  ((inr (inl (omega (arith, low))), tt), ((inr (inl (omega (arith, low))), tt), ((inr (inl (omega (arith, low))), tt), tt))),
)

-- where i entries are linked and entry i is written, i + 1 are linked
pub linked_on : (old new : Pages) (page i : ℕ) → SameOutside (span 0 (96 + 60 * i) 12 ∷ []) old new → AreLinked old 0 page i → HasFields new 0 (node_fields page i) → AreLinked new 0 page (i + 1)
linked_on old new page i same are here = λ j below. elim (cases_eq j i) [
  | inl e ↦ let P : ℕ → Type 0 = λ k. HasFields new 0 (node_fields page k) in subst P (sym e) here
  | inr other ↦ let low : j < i = omega (arith, below, other) in fields_kept (span 0 (96 + 60 * i) 12 ∷ []) old new 0 (node_fields page j) same (node_off page i j low) (are j low)
]

-- writing an entry's links leaves the fields before the entries as they were
pub front_stays : (old new : Pages) (page trx i : ℕ) → SameOutside (span 0 (96 + 60 * i) 12 ∷ []) old new → HasFields old 0 (first_fields page trx) → HasFields new 0 (first_fields page trx)
front_stays old new page trx i same has =
    fields_kept (span 0 (96 + 60 * i) 12 ∷ []) old new 0 (first_fields page trx) same (fields_before 0 0 (96 + 60 * i) 12 (first_fields page trx) refl (omega arith)) has

abbrev base_tables : ℕ → ℕ → List Field
base_tables n page =
    base_fields 64 ++ (field_at 80 4 n ∷ field_at 84 4 page ∷ field_at 88 2 96 ∷ field_at 90 4 page ∷ field_at 94 2 636 ∷ [])

-- its six parts, one behind another
pub front_filled : (page trx n : ℕ) (p0 p1 p2 p3 p4 p5 p6 : Pages) → n ≡ 10 → SetsFields 0 (header_fields page null_page null_page 4) p0 p1 → SetsFields 0 (field_at 40 4 1 ∷ []) p1 p2 → SetsField 0 44 6 trx p2 p3
    → SetsFields 0 (field_at 50 4 0 ∷ field_at 54 4 0 ∷ []) p3 p4 → SetsField 0 58 6 trx p4 p5 → SetsFields 0 (base_tables n page) p5 p6 → SetsFields 0 (first_fields page trx) p0 p6
front_filled page trx n p0 p1 p2 p3 p4 p5 p6 ten s1 s2 s3 s4 s5 s6 =
    let h = header_fields page null_page null_page 4 in
    let v = field_at 40 4 1 ∷ [] in
    let a = h ++ v in
    let c = field_at 44 6 trx in
    let b = a ++ c ∷ [] in
    let u = field_at 50 4 0 ∷ field_at 54 4 0 ∷ [] in
    let d = b ++ u in
    let w = field_at 58 6 trx in
    let e = d ++ w ∷ [] in
    let t1 = sets_then 0 h v p0 p1 p2 (rising_across 0 0 h v refl) s1 s2 in
    let t2 = sets_more 0 a c p0 p2 p3 (rising_apart 0 0 a c [] refl) t1 s3 in
    let t3 = sets_then 0 b u p0 p3 p4 (rising_across 0 0 b u refl) t2 s4 in
    let t4 = sets_more 0 d w p0 p4 p5 (rising_apart 0 0 d w [] refl) t3 s5 in
    let B : ℕ → Type 0 = λ k. SetsFields 0 (base_tables k page) p5 p6 in
    sets_then 0 e (base_tables 10 page) p0 p5 p6 (rising_across 0 0 e (base_tables 10 page) refl) t4 (subst B ten s6)

-- ---- written

both_true : (a b : Bool) → a ≡ true → b ≡ true → (a && b) ≡ true
both_true a b x y = ap₂ (λ (p q : Bool). p && q) x y

rising_links : (at : ℕ) (before behind : Address) → are_rising at (link_fields at before behind) ≡ true
rising_links at before behind =
    both_true _ _ (le-leb at at (omega arith)) (both_true _ _ (le-leb (at + 4) (at + 4) (omega arith)) (both_true _ _ (le-leb (at + 4 + 2) (at + 6) (omega arith)) (both_true _ _ (le-leb (at + 6 + 4) (at + 10) (omega arith)) refl)))

first_made : (pages : Pages) (count page trx : ℕ) (bytes : List ℕ) → AreWhole pages count → page < count → length bytes ≡ 16_384
    → HasFields (bytes ∷ []) 0 (first_fields page trx) → AreLinked (bytes ∷ []) 0 page 10 → MakesFirstPage page trx pages (written pages page 0 bytes)
first_made pages count page trx bytes whole there len front nodes =
    let fits : Fits pages page 0 (length bytes) = record {
      there = omega (arith, whole.many, there);
      within = omega (arith, whole.each page there, len);
    } in
    let S : ℕ → Type 0 = λ n. SameOutside (span page 0 n ∷ []) pages (written pages page 0 bytes) in
    record {
      fields = table_written pages page bytes 0 (first_fields page trx) fits refl (omega (arith, len)) front;
      nodes = λ i below. table_written pages page bytes (96 + 60 * i) (node_fields page i) fits (rising_links (96 + 60 * i) (linked page i) (linked page (i + 2))) (omega (arith, len, below)) (nodes i below);
      outside = subst S len (written_outside pages page 0 bytes fits);
    }

-- over told pages, writing the buffer laid out makes a LOB's first page
pub first_told : (old new : Option Pages) (count page trx : ℕ) (bytes : List ℕ) → ((pages : Pages) → old ≡ Some pages → AreWhole pages count) → page < count → length bytes ≡ 16_384
    → HasFields (bytes ∷ []) 0 (first_fields page trx) → AreLinked (bytes ∷ []) 0 page 10 → new ≡ option_map (λ pages. written pages page 0 bytes) old → Told (MakesFirstPage page trx) old new
first_told None new count page trx bytes whole there len front nodes is = is
first_told (Some pages) new count page trx bytes whole there len front nodes is =
    let P : Option Pages → Type 0 = λ o. Told (MakesFirstPage page trx) (Some pages) o in
    subst P (sym is) (first_made pages count page trx bytes (whole pages refl) there len front nodes)

-- ---- the list of its entries

linked_here : (page k : ℕ) → 1 ≤ k → k < 11 → linked page k ≡ at_place page (36 + 60 * k)
linked_here page k low high = cond-false _ null_address _ (ne_eqb k 0 (λ e. omega (arith, e, low))) ∙ cond-false _ null_address (at_place page (36 + 60 * k)) (ne_eqb k 11 (λ e. omega (arith, e, high)))

linked_end : (page k : ℕ) → k ≡ 11 → linked page k ≡ null_address
linked_end page k e = cond-false _ null_address _ (ne_eqb k 0 (λ z. omega (arith, z, e))) ∙ cond-true _ null_address (at_place page (36 + 60 * k)) (eq-eqb k 11 e)

-- the entries from i on
walk_from : (pages : Pages) (page : ℕ) (n i at : ℕ) (before : Address) → page < length pages → i + n ≡ 10 → at ≡ 96 + 60 * i → before ≡ linked page i → AreLinked pages page page 10 → IsWalk pages before (entries_from page at n) null_address
walk_from pages page zero i at before there few place is are = tt
walk_from pages page (suc n) i at before there few place is are =
    let has = are i (omega (arith, few)) in
    let a = at_place page at in
    let A : ℕ → ℕ → Address = λ p k. at_place p k in
    let back : address_at pages page (96 + 60 * i) ≡ linked page i = ap₂ A has.0 has.1.0 in
    let ten : 96 + 60 * i + 6 + 4 ≡ 96 + 60 * i + 10 = omega arith in
    let on : address_at pages page (96 + 60 * i + 6) ≡ linked page (i + 2) = ap₂ A has.1.1.0 (ap (λ (k : ℕ). field pages page k 2) ten ∙ has.1.1.1.0) in
    let here : 36 + 60 * (i + 1) ≡ 96 + 60 * i = omega arith in
    let same : a ≡ linked page (i + 1) = ap (at_place page) (place ∙ sym here) ∙ sym (linked_here page (i + 1) (omega arith) (omega (arith, few))) in (
      record { page = there; within = omega (arith, place, few) },
      ap (address_at pages page) place ∙ back ∙ sym is,
      ap (λ (k : ℕ). address_at pages page (k + 6)) place ∙ on ∙ next n few,
      walk_from pages page n (i + 1) (at + 60) a there (omega (arith, few)) (omega (arith, place)) same are,
    )
  where
    next : (m : ℕ) → i + suc m ≡ 10 → linked page (i + 2) ≡ first_or null_address (entries_from page (at + 60) m)
    next zero few' = linked_end page (i + 2) (omega (arith, few'))
    next (suc m) few' = linked_here page (i + 2) (omega arith) (omega (arith, few')) ∙ ap (at_place page) (omega (arith, place))

-- free nodes stand apart from one another and from their base
list_apart : (lob : Lob) → IsShaped lob [] → ArePairwiseApart (list_spans (free_base lob.page) lob.free)
list_apart lob shape =
    let fb = base_span (free_base lob.page) in
    pairwise_by (list_spans (free_base lob.page) lob.free) (lit≤ tt, map_wide node_span lob.free (λ a. lit≤ tt)) (λ n k. omega (
      arith,
      covers_once (lob_parts lob []) shape.apart n k,
      parts_covers lob [] n k,
      map_covers entry_span lob.free [] n k,
      covers_nil n k,
      nodes_covered lob.free n k,
      covers_cons fb (map node_span lob.free) n k,
    ))

-- ---- the LOB

no_more : (ns : List ℕ) → IsWithin [] ns
no_more ns n = omega arith

module _ (p0 p1 p2 : Pages) (page trx reserved reserved' : ℕ) (can : CanTakePage reserved p0) (takes : TakesPage page p0 p1) (makes : MakesFirstPage page trx p1 p2) (spent : reserved' + 1 ≡ reserved) where
  not_zero : page ≢ 0
  not_zero same = let u = can.system in let f : IsFree p0 0 = subst (IsFree p0) same takes.free in omega (arith, u, f)

  there : page < length p2
  there = let t = takes.there in let a = takes.change.outside.many in let b = makes.outside.many in omega (arith, t, a, b)

  off : times 0 (page ∷ []) ≡ 0
  off = let e : one_if (page == 0) ≡ 0 = ap one_if (ne_eqb page 0 not_zero) in omega (arith, e)

  pub began : BeginsLob page trx reserved reserved' p0 p2
  began =
      let f = makes.fields in
      let pre = header_fields page null_page null_page 4 ++ (field_at 40 4 1 ∷ field_at 44 6 trx ∷ field_at 50 4 0 ∷ field_at 54 4 0 ∷ field_at 58 6 trx ∷ []) in
      let bases = has_right p2 page pre (base_fields 64 ++ free_fields page) f in
      let heads = base_empty p2 page 64 (has_left p2 page (base_fields 64) (free_fields page) bases) in
      let free = has_right p2 page (base_fields 64) (free_fields page) bases in
      let A : ℕ → ℕ → Address = λ p k. at_place p k in
      let ws = whole_page page ∷ [] in
      let ms = span 0 62 4 ∷ span 0 (place_of page) 1 ∷ [] in
      record {
        lob' = begun_stands p2 page (record { there = there; number = f.0; type' = f.1.1.1.0 }) f.1.1.1.1.0 f.1.1.0 heads (record {
          count = free.0;
          first = ap₂ A free.1.0 free.1.1.0;
          last = ap₂ A free.1.1.1.0 free.1.1.1.1.0;
          walk = walk_from p2 page 10 0 96 null_address there refl refl refl makes.nodes;
          apart = list_apart (begun page) (begun_shape page);
        });
        building = record { entries = refl; older = tt };
        fields = f;
        takes = takes_then (page ∷ []) ws p1 p2 makes.outside (times_here page [], tt) off p0 (page ∷ []) (takes_one page p0 p1 takes);
        spent = spent;
        outside = outside_wider (ms ++ ws) (map_spans ++ lob_spans (begun page)) p0 p2
            (λ n k o. (o.0, (off_part 0 128 4_096 (place_of page) 1 n k (omega arith) (let t = takes.there in let m = can.map.size.few in omega (arith, t, m)) o.1.0, (o.1.1.0, tt)))) (outside_then ms ws p0 p1 p2 takes.change.outside makes.outside);
        keeps = keeps_then [] [] (page ∷ []) (page ∷ []) p0 p1 p2 (keeps_take [] [] page p0 p1 (no_more []) takes) (keeps_write [] (page ∷ []) ws p1 p2 (no_more (page ∷ [])) tt makes.outside (times_here page [], tt));
      }
