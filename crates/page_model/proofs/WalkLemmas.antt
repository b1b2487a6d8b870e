-- Walks along nodes under a write of one address, and a node put in front.
use Rattle.std.proofs.Common.{◌≡◌, inl, inr, ℕ, ◌+◌, ◌<◌, ◌≤◌, List, [], ◌∷◌, ◌++◌, length, map, Option, Some, None, IfSome, refl, sym, ap, ◌∙◌, arith}
use Rattle.page_model.specs.Pages.{Pages, Address, address_at, null_address, null_page}
use Rattle.page_model.specs.Spans.{Span, span, IsApart, IsApartFromAll, ArePairwiseApart, SameOutside, SetsField, SetsAddress}
use Rattle.page_model.specs.Lists.{IsNodePlace, IsWalk, IsList, IsLink, list_spans, base_span, node_span, first_or, last_or, first_of, or_null, back_place}
use Rattle.page_model.proofs.FrameLemmas.{address_kept, off_part, outside_wider}
use Rattle.page_model.proofs.ListLemmas.{place_kept, walk_kept}
use Rattle.page_model.proofs.SpanLemmas.{apart_sym, apart_parts, apart_flip, apart_cons, apart_narrow}

-- ---- one write

-- an address within a span was written
pub sets_within : (page at : ℕ) (v : Address) (a b : Pages) (at' size : ℕ) → at' ≤ at → at + 6 ≤ at' + size → SetsAddress page at v a b → SameOutside (span page at' size ∷ []) a b
sets_within page at v a b at' size low high sets = outside_wider (span page at 6 ∷ []) (span page at' size ∷ []) a b (λ n k off. (off_part page at' size at 6 n k low high off.0, tt)) sets.outside

-- a span that is written twice
pub outside_again : (xs : List Span) (a b c : Pages) → SameOutside xs a b → SameOutside xs b c → SameOutside xs a c
outside_again xs a b c first second = record { many = second.many ∙ first.many; sizes = λ n. second.sizes n ∙ first.sizes n; bytes = λ n k off. second.bytes n k off ∙ first.bytes n k off }

-- another address stays where one is written
pub stays : (page at : ℕ) (v : Address) (a b : Pages) (page' at' : ℕ) → SetsAddress page at v a b → IsApart (span page at 6) (span page' at' 6) → address_at b page' at' ≡ address_at a page' at'
stays page at v a b page' at' sets apart = address_kept (span page at 6 ∷ []) a b page' at' sets.outside (apart, tt)

-- a field beside what was written
pub stays_beside : (page at width v : ℕ) (a b : Pages) (page' at' : ℕ) → SetsField page at width v a b → IsApart (span page at width) (span page' at' 6) → address_at b page' at' ≡ address_at a page' at'
stays_beside page at width v a b page' at' sets apart = address_kept (span page at width ∷ []) a b page' at' sets.outside (apart, tt)

-- ---- walks

-- the first of no nodes is null
pub first_null : (nodes : List Address) → first_or null_address nodes ≡ or_null (first_of nodes)
first_null [] = refl
first_null (a ∷ more) = refl

-- the first of two lists
pub first_append : (after : Address) (xs ys : List Address) → first_or after (xs ++ ys) ≡ first_or (first_or after ys) xs
first_append after [] ys = refl
first_append after (x ∷ xs) ys = refl

-- the last of two lists
pub last_append : (before : Address) (xs ys : List Address) → last_or before (xs ++ ys) ≡ last_or (last_or before xs) ys
last_append before [] ys = refl
last_append before (x ∷ xs) ys = last_append x xs ys

-- a walk over two lists is two walks
pub walk_split : (pages : Pages) (before : Address) (xs ys : List Address) (after : Address) → IsWalk pages before (xs ++ ys) after → IsWalk pages before xs (first_or after ys) × IsWalk pages (last_or before xs) ys after
walk_split pages before [] ys after walk = (tt, walk)
walk_split pages before (x ∷ xs) ys after walk = let rest = walk_split pages x xs ys after walk.3 in ((walk.0, walk.1, walk.2 ∙ first_append after xs ys, rest.0), rest.1)

-- two walks are one over both lists
pub walk_join : (pages : Pages) (before : Address) (xs ys : List Address) (after : Address) → IsWalk pages before xs (first_or after ys) → IsWalk pages (last_or before xs) ys after → IsWalk pages before (xs ++ ys) after
walk_join pages before [] ys after left right = right
walk_join pages before (x ∷ xs) ys after left right = (left.0, left.1, left.2 ∙ sym (first_append after xs ys), walk_join pages x xs ys after left.3 right)

-- the address before the first node is written
pub walk_start : (old new : Pages) (before before' : Address) (a : Address) (more : List Address) (after : Address) → ArePairwiseApart (map node_span (a ∷ more)) → SetsAddress a.page a.at before' old new → IsWalk old before (a ∷ more) after → IsWalk new before' (a ∷ more) after
walk_start old new before before' a more after apart sets walk = (
  place_kept (span a.page a.at 6 ∷ []) old new a sets.outside walk.0,
  sets.here,
  stays a.page a.at before' old new a.page (a.at + 6) sets (inr (inr (omega arith))) ∙ walk.2,
  walk_kept (span a.page a.at 6 ∷ []) old new a more after sets.outside (apart_narrow a.page a.at 12 a.at 6 (map node_span more) (omega arith) (omega arith) (apart_flip (map node_span more) (node_span a) apart.0)) walk.3,
)

-- a node apart from others and the last of them
pub apart_last : (b : Address) (more : List Address) (t : Span) → IsApartFromAll (map node_span (b ∷ more)) t → IsApart (node_span (last_or b more)) t
apart_last b [] t apart = apart.0
apart_last b (c ∷ more) t apart = apart_last c more t apart.1

-- the address behind the last node is written
pub walk_end : (old new : Pages) (before : Address) (a : Address) (more : List Address) (after after' : Address) → ArePairwiseApart (map node_span (a ∷ more)) → SetsAddress (last_or a more).page ((last_or a more).at + 6) after' old new → IsWalk old before (a ∷ more) after → IsWalk new before (a ∷ more) after'
walk_end old new before a [] after after' apart sets walk = (
  place_kept (span a.page (a.at + 6) 6 ∷ []) old new a sets.outside walk.0,
  stays a.page (a.at + 6) after' old new a.page a.at sets (inr (inl (omega arith))) ∙ walk.1,
  sets.here,
  tt,
)
walk_end old new before a (b ∷ more) after after' apart sets walk =
    let z = last_or b more in
    let far : IsApart (node_span z) (node_span a) = apart_last b more (node_span a) apart.0 in (
      place_kept (span z.page (z.at + 6) 6 ∷ []) old new a sets.outside walk.0,
      stays z.page (z.at + 6) after' old new a.page a.at sets (apart_parts z.page z.at 12 (z.at + 6) 6 a.page a.at 12 a.at 6 (omega arith) (omega arith) (omega arith) (omega arith) far) ∙ walk.1,
      stays z.page (z.at + 6) after' old new a.page (a.at + 6) sets (apart_parts z.page z.at 12 (z.at + 6) 6 a.page a.at 12 (a.at + 6) 6 (omega arith) (omega arith) (omega arith) (omega arith) far) ∙ walk.2,
      walk_end old new a b more after after' apart.1 sets walk.3,
    )

-- ---- a node in front

-- the base and the node behind the first write
after_back : (p1 p2 p3 p4 p5 : Pages) (base node : Address) (next : Address) (n : ℕ) → IsApart (base_span base) (node_span node)
    → SetsAddress node.page node.at null_address p1 p2 → SetsAddress node.page (node.at + 6) next p2 p3 → SetsAddress base.page (base.at + 4) node p3 p4 → SetsField base.page base.at 4 n p4 p5
    → SameOutside (base_span base ∷ node_span node ∷ []) p1 p5 × (address_at p5 node.page node.at ≡ null_address) × (address_at p5 node.page (node.at + 6) ≡ next) × (address_at p5 base.page (base.at + 4) ≡ node) × (address_at p5 base.page (base.at + 10) ≡ address_at p1 base.page (base.at + 10))
after_back p1 p2 p3 p4 p5 base node next n apart s2 s3 s4 s5 =
    let xs = base_span base ∷ node_span node ∷ [] in
    let back = apart_sym (base_span base) (node_span node) apart in
    let in_node : (at : ℕ) (v : Address) (a b : Pages) → node.at ≤ at → at + 6 ≤ node.at + 12 → SetsAddress node.page at v a b → SameOutside xs a b =
    λ at v a b low high s. outside_wider (node_span node ∷ []) xs a b (λ m k off. (off.1.0, tt)) (sets_within node.page at v a b node.at 12 low high s) in
    let o2 = in_node node.at null_address p1 p2 (omega arith) (omega arith) s2 in
    let o3 = in_node (node.at + 6) next p2 p3 (omega arith) (omega arith) s3 in
    let o4 = outside_wider (base_span base ∷ []) xs p3 p4 (λ m k off. (off.0, tt)) (sets_within base.page (base.at + 4) node p3 p4 base.at 16 (omega arith) (omega arith) s4) in
    let o5 = outside_wider (span base.page base.at 4 ∷ []) xs p4 p5 (λ m k off. (off_part base.page base.at 16 base.at 4 m k (omega arith) (omega arith) off.0, tt)) s5.outside in
    let base4 : (at : ℕ) → node.at ≤ at → at + 6 ≤ node.at + 12 → IsApart (span base.page (base.at + 4) 6) (span node.page at 6) =
    λ at low high. apart_parts base.page base.at 16 (base.at + 4) 6 node.page node.at 12 at 6 (omega arith) (omega arith) low high apart in
    let base0 : (at : ℕ) → node.at ≤ at → at + 6 ≤ node.at + 12 → IsApart (span base.page base.at 4) (span node.page at 6) =
    λ at low high. apart_parts base.page base.at 16 base.at 4 node.page node.at 12 at 6 (omega arith) (omega arith) low high apart in
    let node10 : (at : ℕ) → node.at ≤ at → at + 6 ≤ node.at + 12 → IsApart (span node.page at 6) (span base.page (base.at + 10) 6) =
    λ at low high. apart_parts node.page node.at 12 at 6 base.page base.at 16 (base.at + 10) 6 low high (omega arith) (omega arith) back in (
      outside_again xs p1 p4 p5 (outside_again xs p1 p3 p4 (outside_again xs p1 p2 p3 o2 o3) o4) o5,
      stays_beside base.page base.at 4 n p4 p5 node.page node.at s5 (base0 node.at (omega arith) (omega arith))
          ∙ stays base.page (base.at + 4) node p3 p4 node.page node.at s4 (base4 node.at (omega arith) (omega arith))
          ∙ stays node.page (node.at + 6) next p2 p3 node.page node.at s3 (inr (inl (omega arith))) ∙ s2.here,
      stays_beside base.page base.at 4 n p4 p5 node.page (node.at + 6) s5 (base0 (node.at + 6) (omega arith) (omega arith))
          ∙ stays base.page (base.at + 4) node p3 p4 node.page (node.at + 6) s4 (base4 (node.at + 6) (omega arith) (omega arith)) ∙ s3.here,
      stays_beside base.page base.at 4 n p4 p5 base.page (base.at + 4) s5 (inr (inr (omega arith))) ∙ s4.here,
      stays_beside base.page base.at 4 n p4 p5 base.page (base.at + 10) s5 (inr (inr (omega arith)))
          ∙ stays base.page (base.at + 4) node p3 p4 base.page (base.at + 10) s4 (inr (inr (omega arith)))
          ∙ stays node.page (node.at + 6) next p2 p3 base.page (base.at + 10) s3 (node10 (node.at + 6) (omega arith) (omega arith))
          ∙ stays node.page node.at null_address p1 p2 base.page (base.at + 10) s2 (node10 node.at (omega arith) (omega arith)),
    )

-- a node put in front: five writes make the new list
pub added_first : (p0 p1 p2 p3 p4 p5 : Pages) (base node : Address) (nodes : List Address)
    → IsList p0 base nodes → IsNodePlace (length p0) node → IsApartFromAll (list_spans base nodes) (node_span node)
    → SetsAddress (back_place base (first_of nodes)).page (back_place base (first_of nodes)).at node p0 p1
    → SetsAddress node.page node.at null_address p1 p2 → SetsAddress node.page (node.at + 6) (or_null (first_of nodes)) p2 p3
    → SetsAddress base.page (base.at + 4) node p3 p4 → SetsField base.page base.at 4 (length nodes + 1) p4 p5
    → IsList p5 base (node ∷ nodes) × SameOutside (list_spans base (node ∷ nodes)) p0 p5
added_first p0 p1 p2 p3 p4 p5 base node [] list place apart s1 s2 s3 s4 s5 =
    let r = after_back p1 p2 p3 p4 p5 base node null_address (length {A = Address} [] + 1) apart.0 s2 s3 s4 s5 in
    let all = list_spans base (node ∷ []) in
    let o1 = outside_wider (base_span base ∷ []) all p0 p1 (λ m k off. (off.0, tt)) (sets_within base.page (base.at + 10) node p0 p1 base.at 16 (omega arith) (omega arith) s1) in
    let o = outside_again all p0 p1 p5 o1 r.0 in (
      record {
        count = s5.here ∙ omega arith;
        first = r.3;
        last = r.4 ∙ s1.here;
        walk = (place_kept all p0 p5 node o place, r.1, r.2, tt);
        apart = ((apart_sym (base_span base) (node_span node) apart.0, tt), (tt, tt));
      },
      o,
    )
added_first p0 p1 p2 p3 p4 p5 base node (a ∷ more) list place apart s1 s2 s3 s4 s5 =
    let nodes = a ∷ more in
    let r = after_back p1 p2 p3 p4 p5 base node a (length nodes + 1) apart.0 s2 s3 s4 s5 in
    let all = list_spans base (node ∷ nodes) in
    let o1 = outside_wider (node_span a ∷ []) all p0 p1 (λ m k off. (off.1.1.0, tt)) (sets_within a.page a.at node p0 p1 a.at 12 (omega arith) (omega arith) s1) in
    let rest = outside_wider (base_span base ∷ node_span node ∷ []) all p1 p5 (λ m k off. (off.0, (off.1.0, tt))) r.0 in
    let o = outside_again all p0 p1 p5 o1 rest in
    let walk1 = walk_start p0 p1 null_address node a more null_address list.apart.1 s1 list.walk in
    let far = apart_cons (base_span base) (node_span node ∷ []) (map node_span nodes) (apart_flip (map node_span nodes) (base_span base) list.apart.0) (apart_flip (map node_span nodes) (node_span node) apart.1) in
    let a_base : IsApart (span a.page a.at 6) (span base.page (base.at + 10) 6) = apart_parts a.page a.at 12 a.at 6 base.page base.at 16 (base.at + 10) 6 (omega arith) (omega arith) (omega arith) (omega arith) list.apart.0.0 in (
      record {
        count = s5.here ∙ omega arith;
        first = r.3;
        last = r.4 ∙ stays a.page a.at node p0 p1 base.page (base.at + 10) s1 a_base ∙ list.last;
        walk = (place_kept all p0 p5 node o place, r.1, r.2, walk_kept (base_span base ∷ node_span node ∷ []) p1 p5 node nodes null_address r.0 far walk1);
        apart = ((apart_sym (base_span base) (node_span node) apart.0, list.apart.0), (apart.1, list.apart.1));
      },
      o,
    )

-- ---- links

-- an address that may be null is one link alone
pub same_link : (x y : Option Address) (count : ℕ) → count < 4_294_967_296 → IfSome x (IsNodePlace count) → IfSome y (IsNodePlace count) → or_null x ≡ or_null y → x ≡ y
same_link None None count few px py same = refl
same_link None (Some b) count few px py same = absurd (let e : null_page ≡ b.page = ap (λ (a : Address). a.page) same in omega (arith, e, py.page))
same_link (Some a) None count few px py same = absurd (let e : a.page ≡ null_page = ap (λ (b : Address). b.page) same in omega (arith, e, px.page))
same_link (Some a) (Some b) count few px py same = ap Some same

-- a link to a node or to none is allowed
pub link_allowed : (x : Option Address) (count : ℕ) → IfSome x (IsNodePlace count) → IsLink count (or_null x)
link_allowed None count place = inl refl
link_allowed (Some a) count place = inr place

-- the first node of a walk has its place
pub first_place : (pages : Pages) (before : Address) (nodes : List Address) (after : Address) → IsWalk pages before nodes after → IfSome (first_of nodes) (IsNodePlace (length pages))
first_place pages before [] after walk = tt
first_place pages before (a ∷ more) after walk = walk.0
