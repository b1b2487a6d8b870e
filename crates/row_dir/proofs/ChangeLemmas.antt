-- Row pages in which one slot changes, as a store sees it.
use Rattle.std.proofs.Common.{◌≡◌, ◌≢◌, ◌⊎◌, inl, inr, ℕ, ◌+◌, ◌*◌, ◌≤◌, ◌%◌, List, [], ◌∷◌, ◌++◌, length, map, Option, refl, sym, ap, subst, ◌∙◌, arith}
use Rattle.std.specs.Int.{bit_at}
use Rattle.std.proofs.lemmas.List.{length-append}
use Rattle.page_model.specs.Pages.{Pages, Address, field}
use Rattle.page_model.specs.Spans.{Span, span, SameOutside, IsApartFromAll, AreApart, ArePairwiseApart}
use Rattle.page_model.specs.Lists.{IsList, base_span, node_span}
use Rattle.page_model.specs.Counts.{times}
use Rattle.page_model.proofs.CountLemmas.{times_here, times-append}
use Rattle.page_model.proofs.FrameLemmas.{field_kept, outside_wider}
use Rattle.page_model.proofs.ListLemmas.{list_kept}
use Rattle.page_space.specs.Map.{IsUsed, place_of, free_of, map_spans}
use Rattle.page_space.proofs.MapLemmas.{map_kept}
use Rattle.undo_model.specs.Logs.{node_of}
use Rattle.undo_model.specs.Rows.{Keyed, RowPage, IsSlot, AreSlots, IsRowPage, AreRowPages, AreOnce, IsRows, row_base, row_nodes, rows_of, somes}
use Rattle.store_parts.specs.Appends.{AreUsed}
use Rattle.store_parts.specs.Stored.{row_pages}
use Rattle.store_parts.specs.Standing.{MovesRows}
use Rattle.store_parts.proofs.MoveLemmas.{mark_same}
use Rattle.row_dir.specs.RowPages.{SetsSlotTo, CanChange, page_of}
use Rattle.row_dir.proofs.SlotChangeLemmas.{slots_kept}

-- ---- lists of row pages

pub are_split : (pages : Pages) (bs : List RowPage) (p : RowPage) (cs : List RowPage) → AreRowPages pages (bs ++ p ∷ cs) → AreRowPages pages bs × IsRowPage pages p × AreRowPages pages cs
are_split pages [] p cs are = (tt, are.0, are.1)
are_split pages (b ∷ bs) p cs are = let r = are_split pages bs p cs are.1 in ((are.0, r.0), r.1, r.2)

pub are_join : (pages : Pages) (bs : List RowPage) (p : RowPage) (cs : List RowPage) → AreRowPages pages bs → IsRowPage pages p → AreRowPages pages cs → AreRowPages pages (bs ++ p ∷ cs)
are_join pages [] p cs a b c = (b, c)
are_join pages (x ∷ bs) p cs a b c = (a.0, are_join pages bs p cs a.1 b c)

-- the page is none of these
abbrev pub NotIn : ℕ → List RowPage → Type 0
NotIn n [] = Unit {0}
NotIn n (p ∷ more) = (p.page ≢ n) × NotIn n more

pub not_in_split : (n : ℕ) (bs : List RowPage) (p : RowPage) (cs : List RowPage) → NotIn n (bs ++ p ∷ cs) → NotIn n bs × (p.page ≢ n) × NotIn n cs
not_in_split n [] p cs is = (tt, is.0, is.1)
not_in_split n (b ∷ bs) p cs is = let r = not_in_split n bs p cs is.1 in ((is.0, r.0), r.1, r.2)

not_in : (n : ℕ) (ps : List RowPage) → IsApartFromAll (map node_span (row_nodes ps)) (node_span (node_of n)) → NotIn n ps
not_in n [] apart = tt
not_in n (p ∷ ps) apart = (other apart.0, not_in n ps apart.1)
  where
    other : (n ≢ p.page) ⊎ ((50 ≤ 38) ⊎ (50 ≤ 38)) → p.page ≢ n
    other (inl e) = λ same. e (sym same)
    other (inr (inl h)) = absurd (omega (arith, h))
    other (inr (inr h)) = absurd (omega (arith, h))

pub only_page : (bs : List RowPage) (p : RowPage) (cs : List RowPage) → ArePairwiseApart (map node_span (row_nodes (bs ++ p ∷ cs))) → NotIn p.page bs × NotIn p.page cs
only_page [] p cs apart = (tt, not_in p.page cs apart.0)
only_page (b ∷ bs) p cs apart =
    let r = only_page bs p cs apart.1 in
    let s = not_in_split b.page bs p cs (not_in b.page (bs ++ p ∷ cs) apart.0) in
    (((λ e. s.1 (sym e)), r.0), r.1)

pub pages_around : (bs : List RowPage) (n : ℕ) (ss ts : List (Option Keyed)) (cs : List RowPage) → row_pages (bs ++ page_of n ss ∷ cs) ≡ row_pages (bs ++ page_of n ts ∷ cs)
pages_around [] n ss ts cs = refl
pages_around (b ∷ bs) n ss ts cs = ap (λ (ns : List ℕ). b.page ∷ ns) (pages_around bs n ss ts cs)

pub nodes_around : (bs : List RowPage) (n : ℕ) (ss ts : List (Option Keyed)) (cs : List RowPage) → row_nodes (bs ++ page_of n ss ∷ cs) ≡ row_nodes (bs ++ page_of n ts ∷ cs)
nodes_around [] n ss ts cs = refl
nodes_around (b ∷ bs) n ss ts cs = ap (λ (ns : List Address). node_of b.page ∷ ns) (nodes_around bs n ss ts cs)

pub page_among : (bs : List RowPage) (p : RowPage) (cs : List RowPage) → 1 ≤ times p.page (row_pages (bs ++ p ∷ cs))
page_among [] p cs = times_here p.page (row_pages cs)
page_among (b ∷ bs) p cs = let r = page_among bs p cs in omega (arith, r)

pub used_among : (pages : Pages) (bs : List RowPage) (p : RowPage) (cs : List RowPage) → AreUsed pages (row_nodes (bs ++ p ∷ cs)) → (p.page ≢ 0) × IsUsed pages p.page
used_among pages [] p cs used = (used.0, used.1)
used_among pages (b ∷ bs) p cs used = used_among pages bs p cs used.2

-- ---- what stays

pub page_kept : (xs : List Span) (old new : Pages) (p : RowPage) → SameOutside xs old new → IsApartFromAll xs (span p.page 24 2) → IsApartFromAll xs (span p.page 50 2) → IsApartFromAll xs (span p.page 52 16_320) → IsRowPage old p → IsRowPage new p
page_kept xs old new p same type count slots is = record {
  there = (let m = same.many in let t = is.there in omega (arith, m, t));
  type = field_kept xs old new p.page 24 2 same type ∙ is.type;
  count = field_kept xs old new p.page 50 2 same count ∙ is.count;
  many = is.many;
  slots = slots_kept xs old new p.page 52 p.slots same (let P : ℕ → Type 0 = λ n. IsApartFromAll xs (span p.page 52 n) in subst P (let m = is.many in omega (arith, m)) slots) is.slots;
  some = is.some;
}

-- all spans lie in that page
abbrev pub AreIn : ℕ → List Span → Type 0
AreIn n [] = Unit {0}
AreIn n (s ∷ more) = (s.page ≡ n) × AreIn n more

pub apart_elsewhere : (n q at size : ℕ) (xs : List Span) → AreIn n xs → q ≢ n → IsApartFromAll xs (span q at size)
apart_elsewhere n q at size [] are other = tt
apart_elsewhere n q at size (s ∷ xs) are other = (inl (λ e. other (e ∙ are.0)), apart_elsewhere n q at size xs are.1 other)

pub others_kept : (xs : List Span) (old new : Pages) (n : ℕ) (ps : List RowPage) → SameOutside xs old new → AreIn n xs → NotIn n ps → AreRowPages old ps → AreRowPages new ps
others_kept xs old new n [] same are out is = tt
others_kept xs old new n (p ∷ ps) same are out is = (
  page_kept xs old new p same (apart_elsewhere n p.page 24 2 xs are out.0) (apart_elsewhere n p.page 50 2 xs are out.0) (apart_elsewhere n p.page 52 16_320 xs are out.0) is.0,
  others_kept xs old new n ps same are out.1 is.1,
)

-- ---- slots one behind another

pub slots_split : (pages : Pages) (n at : ℕ) (ss : List (Option Keyed)) (x : Option Keyed) (ts : List (Option Keyed)) → AreSlots pages n at (ss ++ x ∷ ts)
    → AreSlots pages n at ss × IsSlot pages n (at + 40 * length ss) x × AreSlots pages n (at + 40 * length ss + 40) ts
slots_split pages n at [] x ts are =
    let P : ℕ → Type 0 = λ a. IsSlot pages n a x × AreSlots pages n (a + 40) ts in
    let r = subst P (let e : at ≡ at + 40 * 0 = omega arith in e) (are.0, are.1) in
    (tt, r.0, r.1)
slots_split pages n at (s ∷ ss) x ts are =
    let r = slots_split pages n (at + 40) ss x ts are.1 in
    let P : ℕ → Type 0 = λ a. IsSlot pages n a x × AreSlots pages n (a + 40) ts in
    let q = subst P (let e : at + 40 + 40 * length ss ≡ at + 40 * length (s ∷ ss) = omega arith in e) (r.1, r.2) in
    ((are.0, r.0), q.0, q.1)

pub slots_join : (pages : Pages) (n at : ℕ) (ss : List (Option Keyed)) (x : Option Keyed) (ts : List (Option Keyed)) → AreSlots pages n at ss → IsSlot pages n (at + 40 * length ss) x → AreSlots pages n (at + 40 * length ss + 40) ts
    → AreSlots pages n at (ss ++ x ∷ ts)
slots_join pages n at [] x ts a b c =
    let P : ℕ → Type 0 = λ a. IsSlot pages n a x × AreSlots pages n (a + 40) ts in
    let r = subst P (let e : at + 40 * 0 ≡ at = omega arith in e) (b, c) in
    (r.0, r.1)
slots_join pages n at (s ∷ ss) x ts a b c =
    let P : ℕ → Type 0 = λ a. IsSlot pages n a x × AreSlots pages n (a + 40) ts in
    let q = subst P (let e : at + 40 * length (s ∷ ss) ≡ at + 40 + 40 * length ss = omega arith in e) (b, c) in
    (a.0, slots_join pages n (at + 40) ss x ts a.1 q.0 q.1)

-- ---- the change

module _ (old new : Pages) (bs : List RowPage) (n : ℕ) (ss : List (Option Keyed)) (x y : Option Keyed) (ts : List (Option Keyed)) (cs : List RowPage) (a : Address) (count : ℕ)
    (is : IsRows old row_base (bs ++ page_of n (ss ++ x ∷ ts) ∷ cs)) (can : CanChange (bs ++ page_of n (ss ++ x ∷ ts) ∷ cs) old)
    (sets : SetsSlotTo a y count old new) (in_page : a.page ≡ n) (at : a.at ≡ 52 + 40 * length ss)
    (counts : count ≡ length (somes (ss ++ y ∷ ts))) (some : 1 ≤ count) (once : AreOnce (rows_of (bs ++ page_of n (ss ++ y ∷ ts) ∷ cs))) where
  xs : List Span
  xs = span n (52 + 40 * length ss) 40 ∷ span n 50 2 ∷ []

  same : SameOutside xs old new
  unfolding xs
  same =
      let P : ℕ → Type 0 = λ m. SameOutside (span m a.at 40 ∷ span m 50 2 ∷ []) old new in
      let Q : ℕ → Type 0 = λ k. SameOutside (span n k 40 ∷ span n 50 2 ∷ []) old new in
      subst Q at (subst P in_page sets.outside)

  inside : AreIn n xs
  unfolding xs
  inside = (refl, (refl, tt))

  was : AreRowPages old bs × IsRowPage old (page_of n (ss ++ x ∷ ts)) × AreRowPages old cs
  was = are_split old bs (page_of n (ss ++ x ∷ ts)) cs is.each

  long : length ss + 1 + length ts ≡ 408
  long = let m = was.1.many in let j = length-append ss (x ∷ ts) in omega (arith, m, j)

  not_zero : n ≢ 0
  not_zero = (used_among old bs (page_of n (ss ++ x ∷ ts)) cs can.used).0

  alone : NotIn n bs × NotIn n cs
  alone = only_page bs (page_of n (ss ++ x ∷ ts)) cs is.list.apart.1

  stands : IsSlot new n (52 + 40 * length ss) y
  stands =
      let P : ℕ → Type 0 = λ m. IsSlot new m a.at y in
      let Q : ℕ → Type 0 = λ k. IsSlot new n k y in
      subst Q at (subst P in_page (sets.stands (omega (arith, at)) (let l = long in omega (arith, at, l))))

  page_is : IsRowPage new (page_of n (ss ++ y ∷ ts))
  unfolding xs
  page_is =
      let sp = slots_split old n 52 ss x ts was.1.slots in
      let low : IsApartFromAll xs (span n 52 (40 * length ss)) = (inr (inl (omega arith)), (inr (inr (omega arith)), tt)) in
      let high : IsApartFromAll xs (span n (52 + 40 * length ss + 40) (40 * length ts)) = (inr (inr (omega arith)), (inr (inr (omega arith)), tt)) in
      record {
        there = (let m = same.many in let t = was.1.there in omega (arith, m, t));
        type = field_kept xs old new n 24 2 same (inr (inl (omega arith)), (inr (inl (omega arith)), tt)) ∙ was.1.type;
        count = (let P : ℕ → Type 0 = λ m. field new m 50 2 ≡ count in subst P in_page sets.count) ∙ counts;
        many = (let j = length-append ss (y ∷ ts) in let l = long in omega (arith, j, l));
        slots = slots_join new n 52 ss y ts (slots_kept xs old new n 52 ss same low sp.0) stands (slots_kept xs old new n (52 + 40 * length ss + 40) ts same high sp.2);
        some = (let e = counts in omega (arith, e, some));
      }

  nodes_apart : (ps : List RowPage) → AreApart xs (map node_span (row_nodes ps))
  unfolding xs
  nodes_apart [] = tt
  nodes_apart (p ∷ ps) = ((inr (inl (omega arith)), (inr (inl (omega arith)), tt)), nodes_apart ps)

  rows_are : IsRows new row_base (bs ++ page_of n (ss ++ y ∷ ts) ∷ cs)
  unfolding xs
  rows_are =
      let P : List Address → Type 0 = λ ns. IsList new row_base ns in
      record {
        list = subst P (nodes_around bs n (ss ++ x ∷ ts) (ss ++ y ∷ ts) cs) (list_kept xs old new row_base (row_nodes (bs ++ page_of n (ss ++ x ∷ ts) ∷ cs)) same ((inl (λ e. not_zero (sym e)), (inl (λ e. not_zero (sym e)), tt)), nodes_apart (bs ++ page_of n (ss ++ x ∷ ts) ∷ cs)) is.list);
        each = are_join new bs (page_of n (ss ++ y ∷ ts)) cs (others_kept xs old new n bs same inside alone.0 was.0) page_is (others_kept xs old new n cs same inside alone.1 was.2);
        once = once;
      }

  off_zero : (at size : ℕ) → IsApartFromAll xs (span 0 at size)
  off_zero at size = apart_elsewhere n 0 at size xs inside (λ e. not_zero (sym e))

  pub slot_moved : MovesRows [] [] (bs ++ page_of n (ss ++ x ∷ ts) ∷ cs) (bs ++ page_of n (ss ++ y ∷ ts) ∷ cs) (span n (52 + 40 * length ss) 40 ∷ span n 50 2 ∷ []) old new
  unfolding xs
  slot_moved =
      let before = row_pages (bs ++ page_of n (ss ++ x ∷ ts) ∷ cs) in
      let after = row_pages (bs ++ page_of n (ss ++ y ∷ ts) ∷ cs) in
      let here : 1 ≤ times n (before ++ after) = (let j = times-append n before after in let p = page_among bs (page_of n (ss ++ x ∷ ts)) cs in omega (arith, j, p)) in
      record {
        outside = outside_wider xs (base_span row_base ∷ (map_spans ++ xs)) old new (λ q k off. off.1.1.1) same;
        on = (here, (here, tt));
        map = map_kept xs old new same (off_zero 62 4) (off_zero 128 4_096) can.map;
        stands = rows_are;
        marks = λ q.
            let e = ap (times q) (pages_around bs n (ss ++ x ∷ ts) (ss ++ y ∷ ts) cs) in
            let m = mark_same old new q same.many (ap (λ b. bit_at b (q % 8)) (same.bytes 0 (place_of q) (inl (λ z. not_zero (sym z)), (inl (λ z. not_zero (sym z)), tt)))) in
            omega (arith, e, m);
      }

  pub slot_free_kept : free_of new ≡ free_of old
  unfolding xs
  slot_free_kept = field_kept xs old new 0 62 4 same (off_zero 62 4)
