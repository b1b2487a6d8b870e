-- A node taken: what the calls leave of the LOB, the map and the rest of a store.
use Rattle.std.proofs.Common.{◌≡◌, ◌≢◌, inl, inr, ℕ, ◌+◌, ◌/◌, ◌<◌, ◌≤◌, ◌==◌, List, [], ◌∷◌, ◌++◌, length, map, Option, Some, None, refl, sym, ap, ◌∙◌, subst, lit≤, arith}
use Rattle.std.proofs.lemmas.Bool.{cases_eq, cases_lt, ne_eqb}
use Rattle.std.proofs.lemmas.List.{length-append}
use Rattle.page_model.specs.Pages.{Pages, Address, field}
use Rattle.page_model.specs.Spans.{Span, span, IsApartFromAll, ArePairwiseApart, SameOutside, SetsField}
use Rattle.page_model.specs.Lists.{list_spans, base_span, node_span}
use Rattle.page_model.specs.Counts.{covers, one_if, times}
use Rattle.page_model.proofs.CountLemmas.{times_here}
use Rattle.page_model.proofs.CoverLemmas.{covers_cons, covers_nil, covers_once, map_covers, map_wide, pairwise_by}
use Rattle.page_model.proofs.FrameLemmas.{field_kept, off_part, outside_then, outside_wider}
use Rattle.page_model.proofs.TableLemmas.{fields_kept}
use Rattle.page_model.proofs.WalkLemmas.{outside_again}
use Rattle.page_model.specs.Steps.{Becomes}
use Rattle.engine_base.specs.Addresses.{address_of}
use Rattle.engine_base.specs.declared.addr.Addr.{Addr}
use Rattle.file_lists.specs.Links.{link_of}
use Rattle.page_space.specs.Map.{IsFree, place_of, map_spans, TakesPage}
use Rattle.store_data.specs.Store.{Version, Piece, Lob}
use Rattle.store_parts.specs.Standing.{AreOn}
use Rattle.store_parts.specs.Keeps.{Keeps, IsWithin}
use Rattle.store_parts.proofs.CountLemmas.{off_page, apart_on, on_pages}
use Rattle.store_parts.proofs.KeepLemmas.{keeps_take, keeps_write, keeps_then, keeps_same}
use Rattle.lob_model.specs.Pieces.{versions}
use Rattle.lob_model.specs.Places.{free_base, entry_span, whole_page, at_place, entries_from}
use Rattle.lob_model.specs.Begin.{refilled}
use Rattle.lob_model.specs.Lobs.{IsLob, IsLobBut, IsShaped, AreAll, entries, entry_count, lob_parts, lob_pages, lob_spans}
use Rattle.lob_model.specs.Changes.{refill_spans}
use Rattle.lob_model.proofs.BeginLemmas.{long_from, refilled_shape}
use Rattle.lob_model.proofs.CoverLemmas.{nodes_covered}
use Rattle.lob_model.proofs.FreeLemmas.{parts_covers}
use Rattle.lob_model.proofs.KeptLemmas.{lob_kept}
use Rattle.lob_model.proofs.PushLemmas.{fresh_other}
use Rattle.lob_index.specs.IndexPages.{node_fields, AreLinked, MakesIndexPage, SetsFreeBase}
use Rattle.lob_index.specs.Nodes.{LoosesNode}
use Rattle.lob_index.specs.Use.{AreUsed, TakesPages}
use Rattle.lob_index.specs.Taking.{index_taken, free_with, node_taken, CanTakeNode, TakesNode}
use Rattle.lob_index.proofs.PageLemmas.{walk_there, last_there}
use Rattle.lob_index.proofs.RefillLemmas.{Refills, refills_stands}
use Rattle.lob_index.proofs.UseLemmas.{takes_one, takes_none, takes_then, used_taken, used_as}

-- ---- of the free ones

no_more : (ns : List ℕ) → IsWithin [] ns
no_more ns n = omega arith

pub took_free : (old new : Pages) (lob : Lob) (node : Address) (rest : List Address) (reserved : ℕ) → CanTakeNode reserved old lob → lob.free ≡ node ∷ rest → LoosesNode lob node rest old new → TakesNode lob node reserved reserved old new
took_free old new lob node rest reserved can free is =
    let own = lob_pages lob in
    let I : List Address → Type 0 = λ xs. IsLobBut new (record lob { index = index_taken 0 xs ++ lob.index; free = rest }) (node ∷ []) in
    let T : List Address → Type 0 = λ xs. TakesPages (index_taken 0 xs) old new in
    let S : List Address → Type 0 = λ xs. reserved + length (index_taken 0 xs) ≡ reserved in
    let O : List Address → Type 0 = λ xs. SameOutside (map_spans ++ lob_spans (record lob { index = index_taken 0 xs ++ lob.index; free = rest })) old new in
    let K : List Address → Type 0 = λ xs. Keeps [] own (lob_pages (record lob { index = index_taken 0 xs ++ lob.index; free = rest })) old new in
    let back = sym free in
    record {
      page = 0;
      rest = rest;
      first = ap (free_with 0) free;
      lob' = subst I back is.lob';
      takes = subst T back (takes_none own (lob_spans lob) old new is.outside (on_pages own) can.used.other can.map);
      spent = subst S back (omega arith);
      outside = subst O back (outside_wider (lob_spans lob) (map_spans ++ lob_spans lob) old new (λ n k off. off.1.1) is.outside);
      keeps = subst K back is.keeps;
    }

-- the same of what a call answered
pub took_some : (pages : Pages) (lob : Lob) (link : Option Addr) (a : Addr) (told : Option Pages) (reserved : ℕ) → link ≡ Some a → CanTakeNode reserved pages lob
    → ((node : Address) (rest : List Address) → lob.free ≡ node ∷ rest → (link_of link ≡ Some node) × Becomes told (LoosesNode lob node rest pages)) → (lob.free ≡ [] → link ≡ None)
    → Becomes told (TakesNode lob (address_of a) reserved reserved pages)
took_some pages lob link a told reserved is can takes none = by lob.free refl
  where
    IsNo : Option Addr → Type 0
    IsNo None = ⊥
    IsNo (Some b) = Unit {0}

    by : (xs : List Address) → lob.free ≡ xs → Becomes told (TakesNode lob (address_of a) reserved reserved pages)
    by [] free = absurd (subst IsNo (none free) (subst IsNo (sym is) tt))
    by (x ∷ rest) free =
        let r = takes x rest free in
        let or_x : Option Address → Address = λ o. elim o [ None ↦ x | Some c ↦ c ] in
        let P : Option Addr → Type 0 = λ o. link_of o ≡ Some x in
        let same : address_of a ≡ x = ap or_x (subst P is r.0) in
        let T : Address → Type 0 = λ y. TakesNode lob y reserved reserved pages r.1.0 in
        (r.1.0, r.1.1, subst T (sym same) (took_free pages r.1.0 lob x rest reserved can free r.1.2))

-- ---- of a page

abbrev entry_place : Version → Address
entry_place x = x.place

-- a LOB that has a piece has all entries
all_there : (lob : Lob) → 1 ≤ length lob.pieces → AreAll lob [] → length (entries lob []) ≡ entry_count lob
all_there lob some (inl all) = all
all_there lob some (inr none) = absurd (let l = length-append (map entry_place (versions lob.pieces)) (lob.free ++ []) in let v = have lob.pieces some in omega (arith, l, v, none))
  where
    have : (ps : List Piece) → 1 ≤ length ps → 1 ≤ length (map entry_place (versions ps))
    have [] some' = absurd (omega (arith, some'))
    have (p ∷ ps) some' = omega arith

-- the free nodes but the first stand apart from one another and from their base
list_apart : (lob : Lob) (node : Address) (rest : List Address) → lob.free ≡ node ∷ rest → IsShaped lob [] → ArePairwiseApart (list_spans (free_base lob.page) rest)
list_apart lob node rest free shape =
    let fb = base_span (free_base lob.page) in
    let C : (n k : ℕ) → List Address → ℕ = λ n k xs. covers (map entry_span (xs ++ [])) n k in
    pairwise_by (list_spans (free_base lob.page) rest) (lit≤ tt, map_wide node_span rest (λ a. lit≤ tt)) (λ n k. omega (
      arith,
      covers_once (lob_parts lob []) shape.apart n k,
      parts_covers lob [] n k,
      ap (C n k) free,
      covers_cons (entry_span node) (map entry_span (rest ++ [])) n k,
      map_covers entry_span rest [] n k,
      covers_nil n k,
      nodes_covered rest n k,
      covers_cons fb (map node_span rest) n k,
    ))

zero_off : (ns : List ℕ) (n : ℕ) → times 0 ns ≡ 0 → 1 ≤ times n ns → times n (0 ∷ []) ≡ 0
zero_off ns n none some = elim (cases_eq 0 n) [
  | inl same ↦ absurd (let e : times 0 ns ≡ times n ns = ap (λ (k : ℕ). times k ns) same in omega (arith, e, none, some))
  | inr other ↦ let e : one_if (0 == n) ≡ 0 = ap one_if (ne_eqb 0 n other) in omega (arith, e)
]

module _ (p0 p1 p2 p3 p4 : Pages) (lob : Lob) (q behind reserved reserved' : ℕ) (can : CanTakeNode reserved p0 lob) (none : lob.free ≡ []) (takes : TakesPage q p0 p1) (makes : MakesIndexPage q behind p1 p2)
    (chains : SetsField lob.page 12 4 q p2 p3) (bases : SetsFreeBase lob.page q p3 p4) (read : behind ≡ field p0 lob.page 12 4) (spent : reserved' + 1 ≡ reserved) where
  own : List ℕ
  own = lob_pages lob

  not_own : times q own ≡ 0
  unfolding own
  not_own = elim (cases_lt 0 (times q (lob_pages lob))) [
    | inl some ↦ absurd (let u = can.used.each q (omega (arith, some)) in let f = takes.free in omega (arith, u, f))
    | inr zero ↦ omega (arith, zero)
  ]

  not_zero : q ≢ 0
  not_zero same = let u = can.used.system in let f : IsFree p0 0 = subst (IsFree p0) same takes.free in omega (arith, u, f)

  first_not_zero : lob.page ≢ 0
  first_not_zero same =
      let here = times_first in
      let e : times 0 (lob_pages lob) ≡ times lob.page (lob_pages lob) = ap (λ (k : ℕ). times k (lob_pages lob)) (sym same) in
      let o = can.used.other in
      omega (arith, here, e, o)
    where
      times_first : 1 ≤ times lob.page (lob_pages lob)
      times_first = times_here lob.page _

  map_changed : List Span
  map_changed = span 0 62 4 ∷ span 0 (place_of q) 1 ∷ []

  stands : IsLob p1 lob
  unfolding own map_changed
  stands = lob_kept (span 0 62 4 ∷ span 0 (place_of q) 1 ∷ []) p0 p1 lob takes.change.outside
      (apart_on (0 ∷ []) (lob_pages lob) (span 0 62 4 ∷ span 0 (place_of q) 1 ∷ []) (lob_spans lob) (λ n some. zero_off (lob_pages lob) n can.used.other some) (times_here 0 [], (times_here 0 [], tt)) (on_pages (lob_pages lob))) can.lob'

  fresh : IsApartFromAll (lob_spans lob) (whole_page q)
  unfolding own not_own
  fresh = off_page (lob_pages lob) (lob_spans lob) (whole_page q) (on_pages (lob_pages lob)) not_own

  other : q ≢ lob.page
  other = fresh_other lob q fresh

  spans : List Span
  spans = refill_spans lob q

  written : SameOutside spans p1 p4
  unfolding spans
  written =
      let r = refill_spans lob q in
      let o2 = outside_wider (whole_page q ∷ []) r p1 p2 (λ n k off. (off.0, tt)) makes.outside in
      let o3 = outside_wider (span lob.page 12 4 ∷ []) r p2 p3 (λ n k off. (off.1.0, tt)) chains.outside in
      let o4 = outside_wider (base_span (free_base lob.page) ∷ []) r p3 p4 (λ n k off. (off.1.1.0, tt)) bases.outside in
      outside_again r p1 p3 p4 (outside_again r p1 p2 p3 o2 o3) o4

  on_page : (at width : ℕ) → field p4 q at width ≡ field p2 q at width
  on_page at width = field_kept (base_span (free_base lob.page) ∷ []) p3 p4 q at width bases.outside (inl other, tt) ∙ field_kept (span lob.page 12 4 ∷ []) p2 p3 q at width chains.outside (inl other, tt)

  there : q < length p4
  there = let t = takes.there in let a = takes.change.outside.many in let b = makes.outside.many in let d = chains.outside.many in let e = bases.outside.many in omega (arith, t, a, b, d, e)

  nodes : AreLinked p4 q q 271
  nodes i below =
      fields_kept (base_span (free_base lob.page) ∷ []) p3 p4 q (node_fields q i) bases.outside ((inl other, tt), ((inl other, tt), ((inl other, tt), ((inl other, tt), tt))))
      (fields_kept (span lob.page 12 4 ∷ []) p2 p3 q (node_fields q i) chains.outside ((inl other, tt), ((inl other, tt), ((inl other, tt), ((inl other, tt), tt)))) (makes.nodes i below))

  all : length (entries lob []) ≡ entry_count lob
  all = all_there lob (can.begun none) can.lob'.shape.all

  refills : Refills p1 p4 lob q
  unfolding spans
  refills = record {
    stands = stands;
    none = none;
    all = all;
    fresh = fresh;
    outside = written;
    here = record { there = there; number = on_page 4 4 ∙ makes.header.0; type' = on_page 24 2 ∙ makes.header.1.1.1.0 };
    next = field_kept (base_span (free_base lob.page) ∷ []) p3 p4 lob.page 12 4 bases.outside (inr (inl (lit≤ tt)), tt) ∙ chains.here;
    behind = on_page 12 4 ∙ makes.header.1.1.0 ∙ read ∙ sym (field_kept (span 0 62 4 ∷ span 0 (place_of q) 1 ∷ []) p0 p1 lob.page 12 4 takes.change.outside (inl first_not_zero, (inl first_not_zero, tt)));
    list = record {
      count = bases.count ∙ sym (long_from q 99 271);
      first = bases.first';
      last = bases.last ∙ sym (last_there q);
      walk = walk_there p4 q there nodes;
      apart = list_apart (refilled q lob) (at_place q 39) (entries_from q 99 271) refl (refilled_shape lob q stands.shape none all fresh);
    };
  }

  on_own : AreOn (q ∷ own) spans
  unfolding own spans
  on_own =
      let here : 1 ≤ times lob.page (lob_pages lob) = times_here lob.page _ in
      (times_here q (lob_pages lob), (omega (arith, here), (omega (arith, here), tt)))

  off_own : times 0 (q ∷ own) ≡ 0
  unfolding own
  off_own = let e : one_if (q == 0) ≡ 0 = ap one_if (ne_eqb q 0 not_zero) in let o = can.used.other in omega (arith, e, o)

  pub took_page : TakesNode lob (at_place q 39) reserved reserved' p0 p4
  unfolding own spans
  took_page =
      let rest = entries_from q 99 271 in
      let node = at_place q 39 in
      let mine = lob_pages lob in
      let r = refill_spans lob q in
      let new : List Address → Lob = λ xs. record lob { index = index_taken q xs ++ lob.index; free = rest } in
      let I : List Address → Type 0 = λ xs. IsLobBut p4 (new xs) (node ∷ []) in
      let T : List Address → Type 0 = λ xs. TakesPages (index_taken q xs) p0 p4 in
      let S : List Address → Type 0 = λ xs. reserved' + length (index_taken q xs) ≡ reserved in
      let O : List Address → Type 0 = λ xs. SameOutside (map_spans ++ lob_spans (new xs)) p0 p4 in
      let K : List Address → Type 0 = λ xs. Keeps [] mine (lob_pages (new xs)) p0 p4 in
      let back = sym none in
      let ms = span 0 62 4 ∷ span 0 (place_of q) 1 ∷ [] in
      let low : q / 8 < 4_096 = (let t = takes.there in let m = can.map.size.few in omega (arith, t, m)) in
      record {
        page = q;
        rest = rest;
        first = ap (free_with q) none;
        lob' = subst I back (refills_stands p1 p4 lob q refills);
        takes = subst T back (takes_then (q ∷ mine) r p1 p4 written on_own off_own p0 (q ∷ []) (takes_one q p0 p1 takes));
        spent = subst S back spent;
        outside = subst O back (outside_wider (ms ++ r) (map_spans ++ lob_spans (new [])) p0 p4
            (λ n k off. (
              off.0,
              (
                off_part 0 128 4_096 (place_of q) 1 n k (omega arith) (omega (arith, low)) off.1.0,
                (off.1.1.1.0, (off_part lob.page 0 16_384 12 4 n k (lit≤ tt) (lit≤ tt) off.1.1.0, (off_part lob.page 0 16_384 80 16 n k (lit≤ tt) (lit≤ tt) off.1.1.0, tt))),
              ),
            )) (outside_then ms r p0 p1 p4 takes.change.outside written));
        keeps = subst K back (keeps_then [] mine (q ∷ mine) (lob_pages (new [])) p0 p1 p4 (keeps_take [] mine q p0 p1 (no_more mine) takes)
            (keeps_then [] (q ∷ mine) (q ∷ mine) (lob_pages (new [])) p1 p4 p4 (keeps_write [] (q ∷ mine) r p1 p4 (no_more (q ∷ mine)) tt written on_own) (keeps_same [] (q ∷ mine) (lob_pages (new [])) p4 (λ n. omega arith))));
      }

-- the pages of the LOB are used behind it
pub used_behind : (lob : Lob) (node : Address) (reserved reserved' : ℕ) (old new : Pages) → AreUsed old (lob_pages lob) → (is : TakesNode lob node reserved reserved' old new) → AreUsed new (lob_pages (node_taken is.page is.rest lob))
used_behind lob node reserved reserved' old new used is =
    used_as (index_taken is.page lob.free ++ lob_pages lob) (lob_pages (node_taken is.page is.rest lob)) new (same lob.free) (used_taken (lob_pages lob) (index_taken is.page lob.free) old new used is.takes)
  where
    same : (xs : List Address) (n : ℕ) → times n (lob_pages (record lob { index = index_taken is.page xs ++ lob.index; free = is.rest })) ≡ times n (index_taken is.page xs ++ lob_pages lob)
    same [] n = omega arith
    same (x ∷ xs) n = refl
