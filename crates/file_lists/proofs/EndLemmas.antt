-- A node put behind the last of a list.
use Rattle.std.proofs.Common.{◌≡◌, inl, inr, ℕ, ◌+◌, ◌≤◌, List, [], ◌∷◌, ◌++◌, length, map, Option, sym, ap, subst, ◌∙◌, arith}
use Rattle.std.proofs.lemmas.List.{map-append, length-append}
use Rattle.page_model.specs.Pages.{Pages, Address, address_at, null_address}
use Rattle.page_model.specs.Spans.{Span, span, IsOffAll, IsApart, IsApartFromAll, ArePairwiseApart, SameOutside, SetsField, SetsAddress}
use Rattle.page_model.specs.Lists.{IsNodePlace, IsWalk, IsList, list_spans, base_span, node_span, last_or, last_of, or_null, on_place}
use Rattle.page_model.proofs.FrameLemmas.{off_part, off_parts, outside_wider}
use Rattle.page_model.proofs.ListLemmas.{place_kept, walk_kept}
use Rattle.page_model.proofs.SpanLemmas.{apart_sym, apart_parts, apart_flip, apart_cons, from_join}
use Rattle.page_model.proofs.WalkLemmas.{sets_within, outside_again, stays, stays_beside, last_append, walk_join, apart_last, walk_end}
use Rattle.page_model.proofs.UnlinkLemmas.{last_some}

pairwise_last : (ss : List Span) (t : Span) → ArePairwiseApart ss → IsApartFromAll ss t → ArePairwiseApart (ss ++ t ∷ [])
pairwise_last [] t pairs apart = (tt, tt)
pairwise_last (s ∷ ss) t pairs apart = (from_join ss (t ∷ []) s pairs.0 (apart_sym s t apart.0, tt), pairwise_last ss t pairs.1 apart.1)

off_last : (x : Address) (more : List Address) (n k : ℕ) → IsOffAll (map node_span (x ∷ more)) n k → IsOffAll (node_span (last_or x more) ∷ []) n k
off_last x [] n k off = (off.0, tt)
off_last x (y ∷ more) n k off = off_last y more n k off.1

-- the base and the node behind the first write
after_on : (p1 p2 p3 p4 p5 : Pages) (base node : Address) (before : Address) (n : ℕ) → IsApart (base_span base) (node_span node)
    → SetsAddress node.page node.at before p1 p2 → SetsAddress node.page (node.at + 6) null_address p2 p3 → SetsAddress base.page (base.at + 10) node p3 p4 → SetsField base.page base.at 4 n p4 p5
    → SameOutside (base_span base ∷ node_span node ∷ []) p1 p5 × (address_at p5 node.page node.at ≡ before) × (address_at p5 node.page (node.at + 6) ≡ null_address) × (address_at p5 base.page (base.at + 4) ≡ address_at p1 base.page (base.at + 4)) × (address_at p5 base.page (base.at + 10) ≡ node)
after_on p1 p2 p3 p4 p5 base node before n apart s2 s3 s4 s5 =
    let xs = base_span base ∷ node_span node ∷ [] in
    let back = apart_sym (base_span base) (node_span node) apart in
    let in_node : (at : ℕ) (v : Address) (a b : Pages) → node.at ≤ at → at + 6 ≤ node.at + 12 → SetsAddress node.page at v a b → SameOutside xs a b =
    λ at v a b low high s. outside_wider (node_span node ∷ []) xs a b (λ m k off. (off.1.0, tt)) (sets_within node.page at v a b node.at 12 low high s) in
    let o2 = in_node node.at before p1 p2 (omega arith) (omega arith) s2 in
    let o3 = in_node (node.at + 6) null_address p2 p3 (omega arith) (omega arith) s3 in
    let o4 = outside_wider (base_span base ∷ []) xs p3 p4 (λ m k off. (off.0, tt)) (sets_within base.page (base.at + 10) node p3 p4 base.at 16 (omega arith) (omega arith) s4) in
    let o5 = outside_wider (span base.page base.at 4 ∷ []) xs p4 p5 (λ m k off. (off_part base.page base.at 16 base.at 4 m k (omega arith) (omega arith) off.0, tt)) s5.outside in
    let base10 : (at : ℕ) → node.at ≤ at → at + 6 ≤ node.at + 12 → IsApart (span base.page (base.at + 10) 6) (span node.page at 6) =
    λ at low high. apart_parts base.page base.at 16 (base.at + 10) 6 node.page node.at 12 at 6 (omega arith) (omega arith) low high apart in
    let base0 : (at : ℕ) → node.at ≤ at → at + 6 ≤ node.at + 12 → IsApart (span base.page base.at 4) (span node.page at 6) =
    λ at low high. apart_parts base.page base.at 16 base.at 4 node.page node.at 12 at 6 (omega arith) (omega arith) low high apart in
    let node4 : (at : ℕ) → node.at ≤ at → at + 6 ≤ node.at + 12 → IsApart (span node.page at 6) (span base.page (base.at + 4) 6) =
    λ at low high. apart_parts node.page node.at 12 at 6 base.page base.at 16 (base.at + 4) 6 low high (omega arith) (omega arith) back in (
      outside_again xs p1 p4 p5 (outside_again xs p1 p3 p4 (outside_again xs p1 p2 p3 o2 o3) o4) o5,
      stays_beside base.page base.at 4 n p4 p5 node.page node.at s5 (base0 node.at (omega arith) (omega arith))
          ∙ stays base.page (base.at + 10) node p3 p4 node.page node.at s4 (base10 node.at (omega arith) (omega arith))
          ∙ stays node.page (node.at + 6) null_address p2 p3 node.page node.at s3 (inr (inl (omega arith))) ∙ s2.here,
      stays_beside base.page base.at 4 n p4 p5 node.page (node.at + 6) s5 (base0 (node.at + 6) (omega arith) (omega arith))
          ∙ stays base.page (base.at + 10) node p3 p4 node.page (node.at + 6) s4 (base10 (node.at + 6) (omega arith) (omega arith)) ∙ s3.here,
      stays_beside base.page base.at 4 n p4 p5 base.page (base.at + 4) s5 (inr (inr (omega arith)))
          ∙ stays base.page (base.at + 10) node p3 p4 base.page (base.at + 4) s4 (inr (inl (omega arith)))
          ∙ stays node.page (node.at + 6) null_address p2 p3 base.page (base.at + 4) s3 (node4 (node.at + 6) (omega arith) (omega arith))
          ∙ stays node.page node.at before p1 p2 base.page (base.at + 4) s2 (node4 node.at (omega arith) (omega arith)),
      stays_beside base.page base.at 4 n p4 p5 base.page (base.at + 10) s5 (inr (inr (omega arith))) ∙ s4.here,
    )

-- links and base set for a node, and the count raised, put it last, and nothing else changes
pub added_last : (p0 p1 p2 p3 p4 p5 : Pages) (base node : Address) (nodes : List Address)
    → IsList p0 base nodes → IsNodePlace (length p0) node → IsApartFromAll (list_spans base nodes) (node_span node)
    → SetsAddress (on_place base (last_of nodes)).page (on_place base (last_of nodes)).at node p0 p1
    → SetsAddress node.page node.at (or_null (last_of nodes)) p1 p2 → SetsAddress node.page (node.at + 6) null_address p2 p3
    → SetsAddress base.page (base.at + 10) node p3 p4 → SetsField base.page base.at 4 (length nodes + 1) p4 p5
    → IsList p5 base (nodes ++ node ∷ []) × SameOutside (list_spans base (nodes ++ node ∷ [])) p0 p5
added_last p0 p1 p2 p3 p4 p5 base node [] list place apart s1 s2 s3 s4 s5 =
    let r = after_on p1 p2 p3 p4 p5 base node null_address (length {A = Address} [] + 1) apart.0 s2 s3 s4 s5 in
    let all = list_spans base (node ∷ []) in
    let o1 = outside_wider (base_span base ∷ []) all p0 p1 (λ m k off. (off.0, tt)) (sets_within base.page (base.at + 4) node p0 p1 base.at 16 (omega arith) (omega arith) s1) in
    let o = outside_again all p0 p1 p5 o1 r.0 in (
      record {
        count = s5.here ∙ omega arith;
        first = r.3 ∙ s1.here;
        last = r.4;
        walk = (place_kept all p0 p5 node o place, r.1, r.2, tt);
        apart = ((apart_sym (base_span base) (node_span node) apart.0, tt), (tt, tt));
      },
      o,
    )
added_last p0 p1 p2 p3 p4 p5 base node (a ∷ more) list place apart s1 s2 s3 s4 s5 =
    let nodes = a ∷ more in
    let z = last_or a more in
    let P : Option Address → Type 0 = λ o. SetsAddress (on_place base o).page (on_place base o).at node p0 p1 in
    let Q : Option Address → Type 0 = λ o. SetsAddress node.page node.at (or_null o) p1 p2 in
    let s1' : SetsAddress z.page (z.at + 6) node p0 p1 = subst P (last_some a more) s1 in
    let s2' : SetsAddress node.page node.at z p1 p2 = subst Q (last_some a more) s2 in
    let r = after_on p1 p2 p3 p4 p5 base node z (length nodes + 1) apart.0 s2' s3 s4 s5 in
    let ends = node_span node ∷ [] in
    let all = base_span base ∷ (map node_span nodes ++ ends) in
    let spans : list_spans base (nodes ++ node ∷ []) ≡ all = ap (λ (ts : List Span). base_span base ∷ ts) (map-append node_span nodes (node ∷ [])) in
    let o1 : SameOutside all p0 p1 = outside_wider (node_span z ∷ []) all p0 p1 (λ m k off. off_last a more m k (off_parts (map node_span nodes) ends m k off.1).0) (sets_within z.page (z.at + 6) node p0 p1 z.at 12 (omega arith) (omega arith) s1') in
    let rest : SameOutside all p1 p5 = outside_wider (base_span base ∷ ends) all p1 p5 (λ m k off. (off.0, (off_parts (map node_span nodes) ends m k off.1).1)) r.0 in
    let o : SameOutside all p0 p5 = outside_again all p0 p1 p5 o1 rest in
    let far = apart_cons (base_span base) ends (map node_span nodes) (apart_flip (map node_span nodes) (base_span base) list.apart.0) (apart_flip (map node_span nodes) (node_span node) apart.1) in
    let z_base : IsApart (span z.page (z.at + 6) 6) (span base.page (base.at + 4) 6) = apart_parts z.page z.at 12 (z.at + 6) 6 base.page base.at 16 (base.at + 4) 6 (omega arith) (omega arith) (omega arith) (omega arith) (apart_last a more (base_span base) list.apart.0) in
    let walk1 : IsWalk p1 null_address nodes node = walk_end p0 p1 null_address a more null_address node list.apart.1 s1' list.walk in
    let walk5 : IsWalk p5 null_address nodes node = walk_kept (base_span base ∷ ends) p1 p5 null_address nodes node r.0 far walk1 in
    let pairs : ArePairwiseApart all = (
      from_join (map node_span nodes) ends (base_span base) list.apart.0 (apart_sym (base_span base) (node_span node) apart.0, tt),
      pairwise_last (map node_span nodes) (node_span node) list.apart.1 apart.1,
    ) in
    let S : List Span → Type 0 = λ ts. SameOutside ts p0 p5 in (
      record {
        count = s5.here ∙ omega (arith, length-append nodes (node ∷ []));
        first = r.3 ∙ stays z.page (z.at + 6) node p0 p1 base.page (base.at + 4) s1' z_base ∙ list.first;
        last = r.4 ∙ sym (last_append null_address nodes (node ∷ []));
        walk = walk_join p5 null_address nodes (node ∷ []) null_address walk5 (place_kept all p0 p5 node o place, r.1, r.2, tt);
        apart = subst ArePairwiseApart (sym spans) pairs;
      },
      subst S (sym spans) o,
    )
