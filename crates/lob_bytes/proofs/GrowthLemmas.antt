-- A piece added, from the taking of its page to the list of heads.
use Rattle.std.proofs.Common.{◌≡◌, ◌⊎◌, inl, inr, ℕ, ◌+◌, ◌≤◌, ◌==◌, List, [], ◌∷◌, ◌++◌, length, map, Option, Some, None, IfNone, IfSome, refl, sym, ap, ◌∙◌, subst, lit≤, arith}
use Rattle.std.proofs.lemmas.Bool.{cases_eq, cases_lt, cond-true, cond-false, eq-eqb, ne_eqb}
use Rattle.std.proofs.lemmas.List.{length-append}
use Rattle.page_model.specs.Pages.{Pages, Address, address_at}
use Rattle.page_model.specs.Spans.{Span, IsOffAll, SameOutside}
use Rattle.page_model.specs.Lists.{IsList}
use Rattle.page_model.specs.Counts.{has, one_if, times}
use Rattle.page_model.proofs.CountLemmas.{times-append}
use Rattle.page_model.proofs.CoverLemmas.{covers_cons, covers_nil, covers_once, map_covers, from_all_by}
use Rattle.page_model.proofs.FrameLemmas.{outside_wider}
use Rattle.page_model.proofs.WalkLemmas.{outside_again}
use Rattle.engine_base.specs.declared.ids.PageNo.{PageNo}
use Rattle.page_space.specs.Map.{map_spans}
use Rattle.store_data.specs.Store.{Version, Piece, Lob}
use Rattle.store_parts.specs.Standing.{AreOn, mark}
use Rattle.store_parts.specs.Keeps.{Keeps}
use Rattle.store_parts.proofs.KeepLemmas.{keeps_move}
use Rattle.store_parts.proofs.MoveLemmas.{mark_at, mark_same}
use Rattle.file_lists.specs.Changes.{ChangesList}
use Rattle.store_parts.proofs.CountLemmas.{on_pages, on_wider}
use Rattle.lob_model.specs.Pieces.{versions, head_place}
use Rattle.lob_model.specs.Places.{heads_base, versions_base, whole_page, data_span, entry_span}
use Rattle.lob_model.specs.Begin.{IsBuilding}
use Rattle.lob_model.specs.Changes.{with_pieces, Adding}
use Rattle.lob_model.specs.Lobs.{IsLob, IsEntryOf, lob_parts, lob_pages, lob_spans, data_pages}
use Rattle.lob_model.proofs.AddLemmas.{alone, versions_added, added_stands}
use Rattle.lob_model.proofs.BuildLemmas.{building_steady}
use Rattle.lob_model.proofs.FreeLemmas.{data_wide, parts_covers}
use Rattle.lob_model.proofs.PartLemmas.{data_kept}
use Rattle.lob_model.proofs.RefillLemmas.{loose_changed}
use Rattle.lob_pages.specs.Entries.{HasEntryLinks, HasEntryFields, SetsEntry}
use Rattle.lob_pages.specs.declared.entry.Entry.{Entry}
use Rattle.lob_index.specs.Use.{TakesPages}
use Rattle.lob_index.specs.Taking.{index_taken, node_taken, TakesNode}
use Rattle.lob_index.proofs.UseLemmas.{used_taken, takes_both, takes_then}
use Rattle.lob_bytes.specs.Growth.{first_version, data_taken, data_page, data_list, data_place, grown, AddsPiece, CanAddPiece, TakesData, IsNewEntry}
use Rattle.lob_bytes.proofs.SeenLemmas.{Seen, index_once, taken_times}
use Rattle.lob_bytes.proofs.BuildingLemmas.{entry_inside, list_inside, steady_front, heads_added, still_building, few_behind, next_full}

-- ---- the whole

off_to : (ns : List ℕ) (n k : ℕ) → IsOffAll (map whole_page ns) n k → (times n ns ≡ 0) ⊎ (16_384 ≤ k)
off_to [] n k off = inl refl
off_to (m ∷ ns) n k off = elim (off_to ns n k off.1) [
  | inr past ↦ inr past
  | inl none ↦ elim off.0 [
    | inl other ↦ inl (let e : one_if (m == n) ≡ 0 = ap one_if (ne_eqb m n (λ e. other (sym e))) in omega (arith, e, none))
    | inr (inl low) ↦ absurd (omega (arith, low))
    | inr (inr past) ↦ inr (omega (arith, past))
  ]
]

off_from : (ns : List ℕ) (n k : ℕ) → (times n ns ≡ 0) ⊎ (16_384 ≤ k) → IsOffAll (map whole_page ns) n k
off_from [] n k off = tt
off_from (m ∷ ns) n k (inr past) = (inr (inr (omega (arith, past))), off_from ns n k (inr past))
off_from (m ∷ ns) n k (inl none) = (
  inl (λ (e : n ≡ m). absurd (let o : one_if (m == n) ≡ 1 = ap one_if (eq-eqb m n (sym e)) in omega (arith, o, none))),
  off_from ns n k (inl (omega (arith, none))),
)

-- bytes off some pages are off fewer
fewer_pages : (ms ns : List ℕ) → ((n : ℕ) → times n ms ≤ times n ns) → (n k : ℕ) → IsOffAll (map whole_page ns) n k → IsOffAll (map whole_page ms) n k
fewer_pages ms ns less n k off = elim (off_to ns n k off) [
  | inl none ↦ off_from ms n k (inl (let l = less n in omega (arith, l, none)))
  | inr past ↦ off_from ms n k (inr past)
]

data_append : (first : ℕ) (vs : List Version) (x : Version) (n : ℕ) → times n (data_pages first (vs ++ x ∷ [])) ≡ times n (data_pages first vs) + times n (data_pages first (x ∷ []))
data_append first [] x n = omega arith
data_append first (v ∷ vs) x n =
    let r = data_append first vs x n in
    let A = data_pages first (vs ++ x ∷ []) in
    let B = data_pages first vs in elim (cases_eq v.page first) [
      | inl same ↦ (
          let a = ap (times n) (cond-true (v.page == first) A (v.page ∷ A) (eq-eqb v.page first same)) in
          let b = ap (times n) (cond-true (v.page == first) B (v.page ∷ B) (eq-eqb v.page first same)) in
          omega (arith, a, b, r)
          )
      | inr other ↦ (
          let a = ap (times n) (cond-false (v.page == first) A (v.page ∷ A) (ne_eqb v.page first other)) in
          let b = ap (times n) (cond-false (v.page == first) B (v.page ∷ B) (ne_eqb v.page first other)) in
          omega (arith, a, b, r)
          )
    ]

-- the pages of the LOB with a piece more
grown_times : (l : Lob) (x : Version) (n : ℕ) → times n (lob_pages (with_pieces l (l.pieces ++ alone x ∷ []))) ≡ times n (lob_pages l) + times n (data_pages l.page (x ∷ []))
grown_times l x n =
    let v = ap (λ (us : List Version). times n (data_pages l.page us)) (versions_added l.pieces x) in
    let d = data_append l.page (versions l.pieces) x n in
    let a = times-append n l.index (data_pages l.page (versions (l.pieces ++ alone x ∷ []))) in
    let b = times-append n l.index (data_pages l.page (versions l.pieces)) in
    omega (arith, v, d, a, b)

entry_of : (pages : Pages) (node : Address) (x : Version) (e : Entry) (first size trx : ℕ) (d : ℕ) → HasEntryFields pages node e → IsNewEntry d size trx e → size ≡ length x.bytes → x.page ≡ d → x.creator ≡ trx → x.modifier ≡ trx → x.creator_undo ≡ 0 → x.modifier_undo ≡ 0 → x.number ≡ 1 → IsEntryOf pages node x
entry_of pages node x e first size trx d has is long page creator modifier cu mu number = record {
  creator = has.creator ∙ is.creator ∙ sym creator;
  modifier = has.modifier ∙ is.modifier ∙ sym modifier;
  creator_undo = has.creator_undo ∙ is.creator_undo ∙ sym cu;
  modifier_undo = has.modifier_undo ∙ is.modifier_undo ∙ sym mu;
  page = has.page ∙ is.page' ∙ sym page;
  long = has.long ∙ is.long ∙ long;
  number = has.number ∙ is.number ∙ sym number;
}

bare_of : (pages : Pages) (node : Address) (e : Entry) (d size trx : ℕ) → HasEntryLinks pages node e → IsNewEntry d size trx e → IsList pages (versions_base node) []
bare_of pages node e d size trx has is =
    let four : node.at + 12 + 4 ≡ node.at + 16 = omega arith in
    let ten : node.at + 12 + 10 ≡ node.at + 22 = omega arith in
    record {
      count = has.count ∙ is.count;
      first = ap (λ (k : ℕ). address_at pages node.page k) four ∙ has.first ∙ is.first;
      last = ap (λ (k : ℕ). address_at pages node.page k) ten ∙ has.last ∙ is.last;
      walk = tt;
      apart = (tt, tt);
    }

number : Option PageNo → ℕ
number None = 0
number (Some page) = page.0

taken_of : (ps : List Piece) (taken : Option PageNo) → IfNone taken (ps ≡ []) → IfSome taken (λ page. 1 ≤ length ps) → data_taken (number taken) ps ≡ data_list taken
unfolding number
taken_of ps None none some = ap (λ (qs : List Piece). data_taken 0 qs) none
taken_of [] (Some page) none some = absurd (omega (arith, some))
taken_of (p ∷ ps) (Some page) none some = refl

place_is : (first : ℕ) (ps : List Piece) (taken : Option PageNo) → IfNone taken (ps ≡ []) → IfSome taken (λ page. 1 ≤ length ps) → data_page first (number taken) ps ≡ data_place first taken
unfolding number
place_is first ps None none some = ap (λ (qs : List Piece). data_page first 0 qs) none
place_is first [] (Some page) none some = absurd (omega (arith, some))
place_is first (p ∷ ps) (Some page) none some = refl

place_in : (lob : Lob) (taken : Option PageNo) (n : ℕ) → times n (data_place lob.page taken ∷ []) ≤ times n (data_list taken) + times n (lob_pages lob)
place_in lob None n = omega arith
place_in lob (Some page) n = omega arith

list_once : (taken : Option PageNo) (n : ℕ) → times n (data_list taken) ≤ 1
list_once None n = omega arith
list_once (Some page) n = elim (cases_eq page.0 n) [
  | inl same ↦ let e : one_if (page.0 == n) ≡ 1 = ap one_if (eq-eqb page.0 n same) in omega (arith, e)
  | inr other ↦ let e : one_if (page.0 == n) ≡ 0 = ap one_if (ne_eqb page.0 n other) in omega (arith, e)
]

-- pages that were taken belong to the LOB, and the rest of a store stands on
keeps_taken : (ns own own' : List ℕ) (ss : List Span) (old new : Pages) → ((n : ℕ) → times n ns ≤ 1) → ((n : ℕ) → times n own' ≡ times n ns + times n own) → TakesPages ns old new → SameOutside (map_spans ++ ss) old new → AreOn own' ss
    → Keeps [] own own' old new
keeps_taken ns own own' ss old new once same takes outside on = keeps_move [] own own' ss old new (λ n. omega arith) tt (record {
  outside = outside;
  on = on_wider own' (own ++ own') ss (λ n. let t = times-append n own own' in omega (arith, t)) on;
  map = takes.map;
  marks = marks;
})
  where
    marks : (n : ℕ) → mark new n + times n own ≡ mark old n + times n own'
    marks n = elim (cases_lt 0 (times n ns)) [
      | inl some ↦ (
          let one : 1 ≤ times n ns = omega (arith, some) in
          let there = takes.there n one in
          let many = outside.many in
          let a = mark_at old n there in
          let b = mark_at new n (omega (arith, there, many)) in
          let f = takes.free n one in
          let u = takes.used n one in
          let o = once n in
          let s = same n in
          omega (arith, a, b, f, u, o, s, one)
          )
      | inr none ↦ (let zero : times n ns ≡ 0 = omega (arith, none) in let m = mark_same old new n outside.many (takes.others n zero) in let s = same n in omega (arith, m, s, zero))
    ]

module _ (p0 p1 p2 p3 p4 p5 : Pages) (lob : Lob) (taken : Option PageNo) (trx : ℕ) (bytes : List ℕ) (r r1 r2 : ℕ) (node : Address) (e : Entry) (can : CanAddPiece r bytes p0 lob) (td : TakesData lob taken r r1 p0 p1) (tn : TakesNode lob node r1 r2 p1 p2)
    (seen : Seen p2 p3 (node_taken tn.page tn.rest lob) node (data_place lob.page taken) (data_list taken) (first_version lob.page node (data_place lob.page taken) trx bytes)) (se : SetsEntry node e p3 p4)
    (ne : IsNewEntry (data_place lob.page taken) (length bytes) trx e) (ch : ChangesList (heads_base lob.page) (map head_place lob.pieces ++ node ∷ []) (map head_place lob.pieces ++ node ∷ []) p4 p5) where
  pub added : AddsPiece lob trx bytes r r2 p0 p5
  unfolding number
  added =
      let d = data_place lob.page taken in
      let x = first_version lob.page node d trx bytes in
      let l = node_taken tn.page tn.rest lob in
      let lob' = grown lob tn.page tn.rest x in
      let own = lob_pages lob in
      let own' = lob_pages lob' in
      let ns = data_list taken ++ index_taken tn.page lob.free in
      let parts = lob_parts l (node ∷ []) in
      let once' = covers_once (data_span l.page x ∷ parts) (seen.room, seen.seen.shape.apart) in
      let far = from_all_by (entry_span node ∷ []) (data_span l.page x) (lit≤ tt, tt) (data_wide l.page x) (λ n k. omega (
        arith,
        once' n k,
        covers_cons (data_span l.page x) parts n k,
        parts_covers l (node ∷ []) n k,
        map_covers entry_span l.free (node ∷ []) n k,
        covers_cons (entry_span node) [] n k,
        covers_nil n k,
      )) in
      let stands4 = loose_changed p3 p4 l node seen.seen se.outside in
      let isB = still_building lob tn.page node tn.rest x refl tn.first can.building in
      let few' = few_behind lob tn.page can.building can.few can.more in
      let L : List Address → Type 0 = λ us. IsList p5 (heads_base l.page) us in
      let adding : Adding p4 p5 l lob.pieces x = record {
        lob = stands4;
        entry = entry_of p4 node x e l.page (length bytes) trx d se.here.fields ne refl refl refl refl refl refl refl;
        bare = bare_of p4 node e d (length bytes) trx se.here.links ne;
        «data» = data_kept (entry_span node ∷ []) p3 p4 l.page x se.outside far seen.there;
        room = seen.room;
        steady = steady_front 0 l.page (map head_place (lob.pieces ++ alone x ∷ [])) tn.rest (building_steady lob' isB few');
        known = let b = can.begun in omega (arith, b);
        full = next_full 15_680 16_327 lob.pieces x can.next;
        outside = ch.outside;
        list = subst L (sym (heads_added lob.pieces x)) ch.list;
      } in
      let stands5 = added_stands p4 p5 l lob.pieces x adding in
      let same : (n : ℕ) → times n own' ≡ times n ns + times n own =
      λ n. (let a = grown_times l x n in let b = seen.pages n in let c = taken_times lob tn.page tn.rest n in let t = times-append n (data_list taken) (index_taken tn.page lob.free) in omega (arith, a, b, c, t)) in
      let ss = lob_spans lob' in
      let T = map_spans ++ ss in
      let to_l : (n k : ℕ) → IsOffAll ss n k → IsOffAll (lob_spans l) n k = fewer_pages (lob_pages l) own' (λ n. let a = grown_times l x n in omega (arith, a)) in
      let to_d : (n k : ℕ) → IsOffAll ss n k → IsOffAll (whole_page d ∷ []) n k = fewer_pages (d ∷ []) own' (λ n. let a = same n in let t = times-append n (data_list taken) (index_taken tn.page lob.free) in let b = place_in lob taken n in omega (arith, a, t, b)) in
      let o3 = outside_wider (whole_page d ∷ []) ss p2 p3 to_d seen.outside in
      let o4 = outside_wider (lob_spans l) ss p3 p4 to_l (entry_inside p3 p4 l node seen.seen se.outside) in
      let o5 = outside_wider (lob_spans l) ss p4 p5 to_l (list_inside p4 p5 l node stands4.shape ch.outside) in
      let late = outside_again ss p2 p4 p5 (outside_again ss p2 p3 p4 o3 o4) o5 in
      let o1 = outside_wider map_spans T p0 p1 (λ n k off. (off.0, (off.1.0, tt))) td.outside in
      let o2 = outside_wider (map_spans ++ lob_spans l) T p1 p2 (λ n k off. (off.0, (off.1.0, to_l n k off.1.1))) tn.outside in
      let outside = outside_again T p0 p2 p5 (outside_again T p0 p1 p2 o1 o2) (outside_wider ss T p2 p5 (λ n k off. off.1.1) late) in
      let early = takes_both (data_list taken) (index_taken tn.page lob.free) p0 p1 p2 td.outside.many td.takes tn.takes in
      let off : times 0 own' ≡ 0 = (let u = (used_taken own ns p0 p2 can.used early).other in let t = times-append 0 ns own in let a = same 0 in omega (arith, u, t, a)) in
      let takes = takes_then own' ss p2 p5 late (on_pages own') off p0 ns early in
      let distinct : (n : ℕ) → times n ns ≤ 1 = λ n. distinct_of n in
      let dt = sym (taken_of lob.pieces taken td.none td.some) in
      let dp = sym (place_is lob.page lob.pieces taken td.none td.some) in
      let G : ℕ → Lob = λ k. grown lob tn.page tn.rest (first_version lob.page node k trx bytes) in
      let A : ℕ → Type 0 = λ k. IsLob p5 (G k) in
      let B : ℕ → Type 0 = λ k. IsBuilding (G k) in
      let O : ℕ → Type 0 = λ k. SameOutside (map_spans ++ lob_spans (G k)) p0 p5 in
      let K : ℕ → Type 0 = λ k. Keeps [] own (lob_pages (G k)) p0 p5 in
      let N : List ℕ → Type 0 = λ ms. TakesPages (ms ++ index_taken tn.page lob.free) p0 p5 in
      let S : List ℕ → Type 0 = λ ms. r2 + length (ms ++ index_taken tn.page lob.free) ≡ r in
      record {
        page = number taken;
        index = tn.page;
        node = node;
        rest = tn.rest;
        first = tn.first;
        lob' = subst A dp stands5;
        building = subst B dp isB;
        few = few';
        takes = subst N dt takes;
        spent = subst S dt (let a = td.spent in let b = tn.spent in let c = length-append (data_list taken) (index_taken tn.page lob.free) in omega (arith, a, b, c));
        outside = subst O dp outside;
        keeps = subst K dp (keeps_taken ns own own' ss p0 p5 distinct same takes outside (on_pages own'));
      }
    where
      distinct_of : (n : ℕ) → times n (data_list taken ++ index_taken tn.page lob.free) ≤ 1
      distinct_of n =
          let t = times-append n (data_list taken) (index_taken tn.page lob.free) in
          let a = list_once taken n in
          let b = index_once tn.page lob.free n in elim (cases_lt 0 (times n (data_list taken))) [
            | inr none ↦ omega (arith, t, b, none)
            | inl some ↦ elim (cases_lt 0 (times n (index_taken tn.page lob.free))) [
              | inr none' ↦ omega (arith, t, a, none')
              | inl some' ↦ absurd (let u = td.takes.used n (omega (arith, some)) in let f = tn.takes.free n (omega (arith, some')) in omega (arith, u, f))
            ]
          ]
