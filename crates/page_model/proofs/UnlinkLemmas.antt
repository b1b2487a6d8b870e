-- A node taken out of the middle of a list.
use Rattle.std.proofs.Common.{◌≡◌, inl, inr, ℕ, ◌+◌, ◌≤◌, List, [], ◌∷◌, ◌++◌, length, map, Option, Some, IfSome, refl, sym, ap, subst, ◌∙◌, arith}
use Rattle.std.proofs.lemmas.List.{map-append, length-append}
use Rattle.page_model.specs.Pages.{Pages, Address, address_at, null_address}
use Rattle.page_model.specs.Spans.{Span, span, IsOffAll, IsApart, IsApartFromAll, AreApart, ArePairwiseApart, SameOutside, SetsField, SetsAddress}
use Rattle.page_model.specs.Lists.{IsNodePlace, IsWalk, IsList, list_spans, base_span, node_span, first_or, last_or, first_of, last_of, or_null, back_place, on_place}
use Rattle.page_model.proofs.FrameLemmas.{off_part, outside_wider}
use Rattle.page_model.proofs.ListLemmas.{walk_kept}
use Rattle.page_model.proofs.SpanLemmas.{apart_parts, apart_flip, apart_narrow, from_split, from_join, pairwise_left, pairwise_right, pairwise_across, pairwise_without}
use Rattle.page_model.proofs.WalkLemmas.{sets_within, outside_again, stays, stays_beside, first_null, first_append, last_append, walk_split, walk_join, walk_start, apart_last, walk_end}

-- nodes have a last one
pub last_some : (x : Address) (more : List Address) → last_of (x ∷ more) ≡ Some (last_or x more)
last_some x [] = refl
last_some x (y ∷ more) = last_some y more

last_null : (xs : List Address) → or_null (last_of xs) ≡ last_or null_address xs
last_null [] = refl
last_null (x ∷ more) = ap or_null (last_some x more)

off_last : (x : Address) (more : List Address) (n k : ℕ) → IsOffAll (map node_span (x ∷ more)) n k → IsOffAll (node_span (last_or x more) ∷ []) n k
off_last x [] n k off = (off.0, tt)
off_last x (y ∷ more) n k off = off_last y more n k off.1

apart_from_last : (x : Address) (more : List Address) (ts : List Span) → AreApart (map node_span (x ∷ more)) ts → AreApart (node_span (last_or x more) ∷ []) ts
apart_from_last x more [] apart = tt
apart_from_last x more (t ∷ ts) apart = ((apart_last x more t apart.0, tt), apart_from_last x more ts apart.1)

-- what is known between the writes that take a node out
record Half (base : Address) (xs ys : List Address) (before after : Address) (all : List Span) (old new : Pages) : Type 0 where
  outside : SameOutside all old new
  left : IsWalk new null_address xs after
  right : IsWalk new before ys null_address

apart_base : (base : Address) (ts : List Span) (at size : ℕ) → base.at ≤ at → at + size ≤ base.at + 16 → IsApartFromAll ts (base_span base) → AreApart (span base.page at size ∷ []) ts
apart_base base ts at size low high apart = apart_narrow base.page base.at 16 at size ts low high (apart_flip ts (base_span base) apart)

-- the spans of a list with a node in the middle
module _ (base node : Address) (xs ys : List Address) where
  abbrev all_spans : List Span
  all_spans = base_span base ∷ (map node_span xs ++ node_span node ∷ map node_span ys)

  module _ (apart : ArePairwiseApart all_spans) where
    base_left : IsApartFromAll (map node_span xs) (base_span base)
    base_left = (from_split (map node_span xs) (node_span node ∷ map node_span ys) (base_span base) apart.0).0

    base_right : IsApartFromAll (map node_span ys) (base_span base)
    base_right = (from_split (map node_span xs) (node_span node ∷ map node_span ys) (base_span base) apart.0).1.1

    left_pairs : ArePairwiseApart (map node_span xs)
    left_pairs = pairwise_left (map node_span xs) (node_span node ∷ map node_span ys) apart.1

    right_pairs : ArePairwiseApart (map node_span ys)
    right_pairs = (pairwise_right (map node_span xs) (node_span node ∷ map node_span ys) apart.1).1

across_more : (ss : List Span) (t : Span) (ts : List Span) → AreApart ss (t ∷ ts) → AreApart ss ts
across_more ss t ts apart = apart.1

cut_on : (p0 p1 : Pages) (base node : Address) (xs ys : List Address) (v : Address) → ArePairwiseApart (all_spans base node xs ys)
    → SetsAddress (on_place base (last_of xs)).page (on_place base (last_of xs)).at v p0 p1 → IsWalk p0 null_address xs node → IsWalk p0 node ys null_address
    → Half base xs ys node v (all_spans base node xs ys) p0 p1 × ((address_at p0 base.page (base.at + 4) ≡ first_or node xs → address_at p1 base.page (base.at + 4) ≡ first_or v xs) × (address_at p1 base.page (base.at + 10) ≡ address_at p0 base.page (base.at + 10)))
cut_on p0 p1 base node [] ys v apart s left right = (
  record {
    outside = outside_wider (base_span base ∷ []) (all_spans base node [] ys) p0 p1 (λ n k off. (off.0, tt)) (sets_within base.page (base.at + 4) v p0 p1 base.at 16 (omega arith) (omega arith) s);
    left = tt;
    right = walk_kept (span base.page (base.at + 4) 6 ∷ []) p0 p1 node ys null_address s.outside (apart_base base (map node_span ys) (base.at + 4) 6 (omega arith) (omega arith) (base_right base node [] ys apart)) right;
  },
  (λ _. s.here, stays base.page (base.at + 4) v p0 p1 base.page (base.at + 10) s (inr (inr (omega arith)))),
)
cut_on p0 p1 base node (x ∷ more) ys v apart s left right =
    let xs = x ∷ more in
    let z = last_or x more in
    let P : Option Address → Type 0 = λ o. SetsAddress (on_place base o).page (on_place base o).at v p0 p1 in
    let s' : SetsAddress z.page (z.at + 6) v p0 p1 = subst P (last_some x more) s in
    let far : IsApart (node_span z) (base_span base) = apart_last x more (base_span base) (base_left base node xs ys apart) in
    let to_right : AreApart (node_span z ∷ []) (map node_span ys) = apart_from_last x more (map node_span ys) (pairwise_across (map node_span xs) (node_span node ∷ map node_span ys) apart.1).1 in
    let base_at : (at : ℕ) → base.at ≤ at → at + 6 ≤ base.at + 16 → address_at p1 base.page at ≡ address_at p0 base.page at =
    λ at low high. stays z.page (z.at + 6) v p0 p1 base.page at s' (apart_parts z.page z.at 12 (z.at + 6) 6 base.page base.at 16 at 6 (omega arith) (omega arith) low high far) in (
      record {
        outside = outside_wider (node_span z ∷ []) (all_spans base node xs ys) p0 p1 (λ n k off. off_last x more n k (off_left (map node_span xs) (node_span node ∷ map node_span ys) n k off.1)) (sets_within z.page (z.at + 6) v p0 p1 z.at 12 (omega arith) (omega arith) s');
        left = walk_end p0 p1 null_address x more node v (left_pairs base node xs ys apart) s' left;
        right = walk_kept (span z.page (z.at + 6) 6 ∷ []) p0 p1 node ys null_address s'.outside (apart_narrow z.page z.at 12 (z.at + 6) 6 (map node_span ys) (omega arith) (omega arith) to_right) right;
      },
      (λ first. base_at (base.at + 4) (omega arith) (omega arith) ∙ first, base_at (base.at + 10) (omega arith) (omega arith)),
    )
  where
    off_left : (ss ts : List Span) (n k : ℕ) → IsOffAll (ss ++ ts) n k → IsOffAll ss n k
    off_left [] ts n k off = tt
    off_left (t ∷ ss) ts n k off = (off.0, off_left ss ts n k off.1)

first_across : (ss : List Span) (t : Span) → IsApartFromAll ss t → AreApart (t ∷ []) ss
first_across = apart_flip

cut_back : (p0 p1 : Pages) (base node : Address) (xs ys : List Address) (before v after : Address) → ArePairwiseApart (all_spans base node xs ys)
    → SetsAddress (back_place base (first_of ys)).page (back_place base (first_of ys)).at v p0 p1 → IsWalk p0 null_address xs after → IsWalk p0 before ys null_address
    → Half base xs ys v after (all_spans base node xs ys) p0 p1 × ((address_at p0 base.page (base.at + 10) ≡ last_or before ys → address_at p1 base.page (base.at + 10) ≡ last_or v ys) × (address_at p1 base.page (base.at + 4) ≡ address_at p0 base.page (base.at + 4)))
cut_back p0 p1 base node xs [] before v after apart s left right = (
  record {
    outside = outside_wider (base_span base ∷ []) (all_spans base node xs []) p0 p1 (λ n k off. (off.0, tt)) (sets_within base.page (base.at + 10) v p0 p1 base.at 16 (omega arith) (omega arith) s);
    left = walk_kept (span base.page (base.at + 10) 6 ∷ []) p0 p1 null_address xs after s.outside (apart_base base (map node_span xs) (base.at + 10) 6 (omega arith) (omega arith) (base_left base node xs [] apart)) left;
    right = tt;
  },
  (λ _. s.here, stays base.page (base.at + 10) v p0 p1 base.page (base.at + 4) s (inr (inl (omega arith)))),
)
cut_back p0 p1 base node xs (y ∷ more) before v after apart s left right =
    let ys = y ∷ more in
    let across : AreApart (map node_span xs) (node_span node ∷ map node_span ys) = pairwise_across (map node_span xs) (node_span node ∷ map node_span ys) apart.1 in
    let to_left : AreApart (node_span y ∷ []) (map node_span xs) = apart_flip (map node_span xs) (node_span y) across.1.0 in
    let far : IsApart (node_span y) (base_span base) = (base_right base node xs ys apart).0 in
    let base_at : (at : ℕ) → base.at ≤ at → at + 6 ≤ base.at + 16 → address_at p1 base.page at ≡ address_at p0 base.page at =
    λ at low high. stays y.page y.at v p0 p1 base.page at s (apart_parts y.page y.at 12 y.at 6 base.page base.at 16 at 6 (omega arith) (omega arith) low high far) in (
      record {
        outside = outside_wider (node_span y ∷ []) (all_spans base node xs ys) p0 p1 (λ n k off. ((off_right (map node_span xs) (node_span node ∷ map node_span ys) n k off.1).1.0, tt)) (sets_within y.page y.at v p0 p1 y.at 12 (omega arith) (omega arith) s);
        left = walk_kept (span y.page y.at 6 ∷ []) p0 p1 null_address xs after s.outside (apart_narrow y.page y.at 12 y.at 6 (map node_span xs) (omega arith) (omega arith) to_left) left;
        right = walk_start p0 p1 before v y more null_address (right_pairs base node xs ys apart) s right;
      },
      (λ last. base_at (base.at + 10) (omega arith) (omega arith) ∙ last, base_at (base.at + 4) (omega arith) (omega arith)),
    )
  where
    off_right : (ss ts : List Span) (n k : ℕ) → IsOffAll (ss ++ ts) n k → IsOffAll ts n k
    off_right [] ts n k off = off
    off_right (t ∷ ss) ts n k off = off_right ss ts n k off.1

-- a node taken out: three writes make the new list
pub removed : (p0 p1 p2 p3 : Pages) (base node : Address) (xs ys : List Address) → IsList p0 base (xs ++ node ∷ ys)
    → SetsAddress (on_place base (last_of xs)).page (on_place base (last_of xs)).at (or_null (first_of ys)) p0 p1
    → SetsAddress (back_place base (first_of ys)).page (back_place base (first_of ys)).at (or_null (last_of xs)) p1 p2
    → SetsField base.page base.at 4 (length xs + length ys) p2 p3
    → IsList p3 base (xs ++ ys) × SameOutside (list_spans base (xs ++ node ∷ ys)) p0 p3
removed p0 p1 p2 p3 base node xs ys list s1 s2 s3 =
    let all = all_spans base node xs ys in
    let spans : list_spans base (xs ++ node ∷ ys) ≡ all = ap (λ (ts : List Span). base_span base ∷ ts) (map-append node_span xs (node ∷ ys)) in
    let apart : ArePairwiseApart all = subst ArePairwiseApart spans list.apart in
    let after = or_null (first_of ys) in
    let before = or_null (last_of xs) in
    let parts = walk_split p0 null_address xs (node ∷ ys) null_address list.walk in
    let c1 = cut_on p0 p1 base node xs ys after apart s1 parts.0 parts.1.3 in
    let c2 = cut_back p1 p2 base node xs ys node before after apart s2 c1.0.left c1.0.right in
    let first : address_at p2 base.page (base.at + 4) ≡ first_or after xs = c2.1.1 ∙ c1.1.0 (list.first ∙ first_append null_address xs (node ∷ ys)) in
    let last : address_at p2 base.page (base.at + 10) ≡ last_or before ys = c2.1.0 (c1.1.1 ∙ list.last ∙ last_append null_address xs (node ∷ ys)) in
    let o3 : SameOutside all p2 p3 = outside_wider (span base.page base.at 4 ∷ []) all p2 p3 (λ n k off. (off_part base.page base.at 16 base.at 4 n k (omega arith) (omega arith) off.0, tt)) s3.outside in
    let o : SameOutside all p0 p3 = outside_again all p0 p2 p3 (outside_again all p0 p1 p2 c1.0.outside c2.0.outside) o3 in
    let left = walk_kept (span base.page base.at 4 ∷ []) p2 p3 null_address xs after s3.outside (apart_base base (map node_span xs) base.at 4 (omega arith) (omega arith) (base_left base node xs ys apart)) c2.0.left in
    let right = walk_kept (span base.page base.at 4 ∷ []) p2 p3 before ys null_address s3.outside (apart_base base (map node_span ys) base.at 4 (omega arith) (omega arith) (base_right base node xs ys apart)) c2.0.right in
    let after_is : after ≡ first_or null_address ys = sym (first_null ys) in
    let before_is : before ≡ last_or null_address xs = last_null xs in
    let L : Address → Type 0 = λ a. IsWalk p3 null_address xs a in
    let R : Address → Type 0 = λ a. IsWalk p3 a ys null_address in
    let S : List Span → Type 0 = λ ts. SameOutside ts p0 p3 in
    let shorter : ArePairwiseApart (base_span base ∷ (map node_span xs ++ map node_span ys)) = (
      let split = from_split (map node_span xs) (node_span node ∷ map node_span ys) (base_span base) apart.0 in from_join (map node_span xs) (map node_span ys) (base_span base) split.0 split.1.1,
      pairwise_without (map node_span xs) (node_span node) (map node_span ys) apart.1,
    ) in (
      record {
        count = s3.here ∙ sym (length-append xs ys);
        first = stays_beside base.page base.at 4 (length xs + length ys) p2 p3 base.page (base.at + 4) s3 (inr (inr (omega arith))) ∙ first ∙ ap (λ (a : Address). first_or a xs) after_is ∙ sym (first_append null_address xs ys);
        last = stays_beside base.page base.at 4 (length xs + length ys) p2 p3 base.page (base.at + 10) s3 (inr (inr (omega arith))) ∙ last ∙ ap (λ (a : Address). last_or a ys) before_is ∙ sym (last_append null_address xs ys);
        walk = walk_join p3 null_address xs ys null_address (subst L after_is left) (subst R before_is right);
        apart = subst ArePairwiseApart (ap (λ (ts : List Span). base_span base ∷ ts) (sym (map-append node_span xs ys))) shorter;
      },
      subst S (sym spans) o,
    )

-- the last node of a walk has its place
pub last_place : (pages : Pages) (before : Address) (xs : List Address) (after : Address) → IsWalk pages before xs after → IfSome (last_of xs) (IsNodePlace (length pages))
last_place pages before [] after walk = tt
last_place pages before (x ∷ []) after walk = walk.0
last_place pages before (x ∷ y ∷ more) after walk = last_place pages x (y ∷ more) after walk.3

-- the last of some nodes, or null
pub last_link : (xs : List Address) → last_or null_address xs ≡ or_null (last_of xs)
last_link xs = sym (last_null xs)
