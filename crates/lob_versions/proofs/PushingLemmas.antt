-- A version pushed, with a node and a page taken for it, call by call.
use Rattle.std.proofs.Common.{◌≡◌, ◌≢◌, inl, inr, ℕ, ◌+◌, ◌≤◌, ◌==◌, List, [], ◌∷◌, ◌++◌, length, None, Result, Err, IfErr, refl, sym, ap, subst, lit≤, arith}
use Rattle.std.proofs.lemmas.Bool.{cases_lt, cond-false, ne_eqb}
use Rattle.std.proofs.lemmas.List.{length-append}
use Rattle.page_model.specs.Pages.{Pages, Address}
use Rattle.page_model.specs.Spans.{span, IsOffAll}
use Rattle.page_model.specs.Counts.{times}
use Rattle.page_model.proofs.CountLemmas.{times_here, times-append}
use Rattle.page_model.proofs.FrameLemmas.{outside_then, outside_wider, off_part}
use Rattle.page_model.specs.Steps.{PageState, IsWithin, MayUse, Uses}
use Rattle.page_model.proofs.StepLemmas.{may_less, may_within, may_name, uses_more, uses_within, uses_unnamed, uses_at_most, within_one, within_two, within_right, within_both}
use Rattle.engine_base.specs.Faults.{IsHonest}
use Rattle.engine_base.specs.declared.ids.PageNo.{PageNo}
use Rattle.engine_base.specs.declared.fault.Fault.{Fault}
use Rattle.engine_base.specs.declared.fault.Fault.TheVariants.{Device, Strange}
use Rattle.page_space.specs.Answers.{IsSpentOrOdd}
use Rattle.page_space.specs.Map.{bit, place_of, map_spans, free_of, TakesPage}
use Rattle.store_data.specs.Store.{Piece, Lob}
use Rattle.store_data.specs.Pieces.{pushed}
use Rattle.lob_model.specs.Pieces.{versions, moved}
use Rattle.lob_model.specs.Places.{whole_page}
use Rattle.lob_model.specs.Lobs.{data_pages, lob_pages, lob_spans}
use Rattle.lob_model.specs.Changes.{with_pieces}
use Rattle.lob_model.proofs.KeptLemmas.{parts_kept, parts_in_pages}
use Rattle.store_parts.specs.Standing.{AreOn}
use Rattle.store_parts.proofs.CountLemmas.{on_pages, on_wider, off_page}
use Rattle.store_parts.proofs.KeepLemmas.{keeps_take, keeps_write, keeps_then, keeps_same}
use Rattle.lob_index.specs.Use.{AreUsed}
use Rattle.lob_index.specs.Taking.{index_taken, node_taken, CanTakeNode, TakesNode}
use Rattle.lob_index.proofs.UseLemmas.{one_of, takes_one, takes_both, takes_then, used_taken, used_as}
use Rattle.lob_versions.specs.Pushes.{new_version, IsReady, PushesAt}
use Rattle.lob_versions.specs.Pushings.{CanPush, PushesVersion, lob_pushed, IsOddPushing}
use Rattle.lob_index.specs.Data.{data_given}
use Rattle.lob_versions.specs.Versions.{HasPiece}
use Rattle.lob_index.proofs.OwnLemmas.{off_fewer, off_join, map_apart}
use Rattle.lob_index.proofs.GivenLemmas.{data_one}
use Rattle.lob_versions.proofs.DataLemmas.{pages_cut}

none : {A : Type 0} → 1 ≤ 0 → A
none h = absurd (omega arith)

same_long : (m n : ℕ) (free : List Address) → length (index_taken m free) ≡ length (index_taken n free)
same_long m n [] = refl
same_long m n (a ∷ more) = refl

-- a node may be taken
pub can_node : (told : _) (first reserved : ℕ) (head : Address) (pages : Pages) (l : Lob) (bs : List Piece) (q : Piece) (cs : List Piece) (v : ℕ) (bytes : List ℕ) → HasPiece told first head pages l bs q cs → CanPush reserved pages l q v bytes
    → CanTakeNode reserved pages (with_pieces l (bs ++ q ∷ cs))
can_node told first reserved head pages l bs q cs v bytes has can = record {
  lob' = has.lob';
  map = has.map';
  used = has.used;
  begun = λ e. let n = length-append bs (q ∷ cs) in omega (arith, n);
  reserve = λ e. let r = can.reserve in omega (arith, r);
  covered = can.covered;
}

-- the pages of the LOB with an index page more
pages_with : (n : ℕ) (taken index ds : List ℕ) (first : ℕ) → times n (first ∷ ((taken ++ index) ++ ds)) ≡ times n (taken ++ (first ∷ (index ++ ds)))
pages_with n taken index ds first =
    let a = times-append n (taken ++ index) ds in
    let b = times-append n taken index in
    let c = times-append n index ds in
    let d = times-append n taken (first ∷ (index ++ ds)) in
    omega (arith, a, b, c, d)

module _ (reserved r1 : ℕ) (pages p1 : Pages) (l : Lob) (bs : List Piece) (q : Piece) (cs : List Piece) (v : ℕ) (bytes : List ℕ) (node : Address) (can : CanPush reserved pages l q v bytes) (used : AreUsed pages (lob_pages (with_pieces l (bs ++ q ∷ cs))))
    (tn : TakesNode (with_pieces l (bs ++ q ∷ cs)) node reserved r1 pages p1) where
  -- a page is left for the data
  pub one_left : 1 ≤ r1
  one_left = let a = same_long tn.page 0 l.free in let s = tn.spent in let r = can.reserve in omega (arith, a, s, r)

  -- and those that are reserved are free
  pub left_free : r1 ≤ free_of p1
  left_free = let s = tn.spent in let c = can.covered in let f = tn.takes.fewer in omega (arith, s, c, f)

  -- the LOB's pages are used behind the taking of the node
  used_one : AreUsed p1 (lob_pages (lob_pushed l bs q cs tn.page tn.rest))
  used_one =
      let lob = with_pieces l (bs ++ q ∷ cs) in
      let taken = index_taken tn.page l.free in
      used_as (taken ++ lob_pages lob) (lob_pages (lob_pushed l bs q cs tn.page tn.rest)) p1
      (λ n. pages_with n taken l.index (data_pages l.page (versions (bs ++ q ∷ cs))) l.page) (used_taken (lob_pages lob) taken pages p1 used tn.takes)

  module _ (page : ℕ) (p2 : Pages) (tp : TakesPage page p1 p2) where
    -- the page isn't one of them
    other_page : times page (lob_pages (lob_pushed l bs q cs tn.page tn.rest)) ≡ 0
    other_page = elim (cases_lt 0 (times page (lob_pages (lob_pushed l bs q cs tn.page tn.rest)))) [
      | inl some ↦ none (let u = used_one.each page (omega (arith, some)) in let f = tp.free in omega (arith, u, f))
      | inr zero ↦ omega (arith, zero)
    ]

    -- nor page 0
    not_zero : times 0 (page ∷ lob_pages (lob_pushed l bs q cs tn.page tn.rest)) ≡ 0
    not_zero = elim (cases_lt 0 (times 0 (page ∷ []))) [
      | inl some ↦ none (let u = used_one.system in let f = tp.free in let e = same 0 page (omega (arith, some)) in let b : bit p1 0 ≡ bit p1 page = ap (bit p1) e in omega (arith, u, f, b))
      | inr zero ↦ let o = used_one.other in omega (arith, zero, o)
    ]
      where
        same : (n m : ℕ) → 1 ≤ times n (m ∷ []) → n ≡ m
        same = one_of

    -- the version may be pushed
    pub ready : IsReady p2 (node_taken tn.page tn.rest l) bs q cs node page v bytes
    ready =
        let lob2 = lob_pushed l bs q cs tn.page tn.rest in
        let one = span 0 62 4 ∷ span 0 (place_of page) 1 ∷ [] in record {
          lob' = parts_kept one p1 p2 lob2 (node ∷ []) tp.change.outside (parts_in_pages one lob2 (node ∷ []) tn.lob'.shape.places (map_apart (lob_pages lob2) page used_one.other)) tn.lob';
          fresh = off_page (lob_pages lob2) (lob_spans lob2) (whole_page page) (on_pages (lob_pages lob2)) other_page;
          newer = can.newer;
          known = can.known;
          long = can.long;
        }

    -- and is pushed then
    pub pushed_whole : (head : Address) (trx : ℕ) (p3 : Pages) (r2 : ℕ) → r2 + 1 ≡ r1 → PushesAt (node_taken tn.page tn.rest l) bs q cs node (new_version head page v trx bytes) p2 p3
        → PushesVersion l bs q cs head v trx bytes reserved r2 pages p3
    pushed_whole head trx p3 r2 spent done =
        let lob = with_pieces l (bs ++ q ∷ cs) in
        let lob2 = lob_pushed l bs q cs tn.page tn.rest in
        let x = new_version head page v trx bytes in
        let q' = pushed node x q in
        let lob3 = lob_pushed l bs q' cs tn.page tn.rest in
        let taken = index_taken tn.page l.free in
        let own = page ∷ lob_pages lob2 in
        let other : page ≢ l.page = λ e. none (let h = times_here l.page (taken ++ l.index ++ data_pages l.page (versions (bs ++ q ∷ cs))) in let o = other_page in let t : times page (lob_pages lob2) ≡ times l.page (lob_pages lob2) = ap (λ n. times n (lob_pages lob2)) e in omega (arith, h, o, t)) in
        let given : data_given l.page page ≡ page ∷ [] = cond-false (page == l.page) [] (page ∷ []) (ne_eqb page l.page other) in
        let many : (n : ℕ) → times n (lob_pages lob3) ≡ times n own = λ n.
        let a = pages_cut n (node_taken tn.page tn.rest l) bs q' q cs (data_given l.page page) (data_one n l.page x (moved node q.head ∷ q.older)) in
        let g : times n (data_given l.page page) ≡ times n (page ∷ []) = ap (times n) given in omega (arith, a, g) in
        let on : AreOn (page ∷ lob_pages (lob_pushed l bs q cs tn.page tn.rest)) (whole_page page ∷ lob_spans (lob_pushed l bs q cs tn.page tn.rest)) = (times_here page (lob_pages lob2), on_wider (lob_pages lob2) own (lob_spans lob2) (λ n. omega arith) (on_pages (lob_pages lob2))) in
        let few = tp.map.size.few in
        let one = span 0 62 4 ∷ span 0 (place_of page) 1 ∷ [] in
        let first = map_spans ++ lob_spans lob2 in
        let last = whole_page page ∷ lob_spans lob2 in
        let all = map_spans ++ lob_spans lob3 in
        let there = tp.there in
        let wide2 : (n k : ℕ) → IsOffAll all n k → IsOffAll (lob_spans lob2) n k = λ n k off. off_fewer (lob_pages lob3) (lob_pages lob2) n k (λ j. let m = many j in omega (arith, m)) off.1.1 in
        let wide1 : (n k : ℕ) → IsOffAll all n k → IsOffAll (whole_page page ∷ []) n k = λ n k off. off_fewer (lob_pages lob3) (page ∷ []) n k (λ j. let m = many j in omega (arith, m)) off.1.1 in record {
          page = page;
          index = tn.page;
          node = node;
          rest = tn.rest;
          first' = tn.first;
          lob' = done.lob';
          takes = takes_then own last p2 p3 done.outside on not_zero pages (taken ++ page ∷ []) (takes_both taken (page ∷ []) pages p1 p2 tn.outside.many tn.takes (takes_one page p1 p2 tp));
          spent = let s = tn.spent in omega (arith, s, spent);
          outside = outside_wider (first ++ (one ++ last)) all pages p3
              (λ n k off. off_join first (one ++ last) n k (off_join map_spans (lob_spans lob2) n k (off.0, (off.1.0, tt)) (wide2 n k off))
              (off_join one last n k (off.0, (off_part 0 128 4_096 (place_of page) 1 n k (omega arith) (let m = tp.change.outside.many in omega (arith, few, there, m)) off.1.0, tt)) ((wide1 n k off).0, wide2 n k off)))
              (outside_then first (one ++ last) pages p1 p3 tn.outside (outside_then one last p1 p2 p3 tp.change.outside done.outside));
          keeps = keeps_then [] (lob_pages lob) (lob_pages lob2) (lob_pages lob3) pages p1 p3 tn.keeps
              (keeps_then [] (lob_pages lob2) own (lob_pages lob3) p1 p2 p3 (keeps_take [] (lob_pages lob2) page p1 p2 (λ n. omega arith) tp)
              (keeps_then [] own own (lob_pages lob3) p2 p3 p3 (keeps_write [] own last p2 p3 (λ n. omega arith) tt done.outside on) (keeps_same [] own (lob_pages lob3) p3 (λ n. sym (many n)))));
        }

-- ---- pages and room

abbrev rest_of : ℕ → ℕ → List ℕ
rest_of a f = a ∷ f ∷ 0 ∷ []

abbrev five : ℕ → ℕ → ℕ → ℕ → List ℕ
five q d a f = q ∷ d ∷ rest_of a f

node_pages : (q d a f : ℕ) → IsWithin (q ∷ 0 ∷ f ∷ []) (five q d a f)
node_pages q d a f = within_both (q ∷ []) (0 ∷ f ∷ []) (five q d a f) (within_one q (d ∷ rest_of a f))
    (within_both (0 ∷ []) (f ∷ []) (five q d a f) (within_right (q ∷ d ∷ a ∷ f ∷ []) (0 ∷ [])) (λ n is. within_right (q ∷ d ∷ a ∷ []) (f ∷ 0 ∷ []) n (within_one f (0 ∷ []) n is)))

map_page : (q d a f : ℕ) → IsWithin (0 ∷ []) (five q d a f)
map_page q d a f = within_right (q ∷ d ∷ a ∷ f ∷ []) (0 ∷ [])

push_pages : (q d a f : ℕ) → IsWithin (q ∷ a ∷ d ∷ []) (five q d a f)
push_pages q d a f = within_both (q ∷ []) (a ∷ d ∷ []) (five q d a f) (within_one q (d ∷ rest_of a f))
    (within_both (a ∷ []) (d ∷ []) (five q d a f) (λ n is. within_right (q ∷ d ∷ []) (rest_of a f) n (within_one a (f ∷ 0 ∷ []) n is)) (within_two q d (rest_of a f)))

named : (q d a f b : ℕ) (s : PageState) → MayUse (rest_of a f) 4 b s → MayUse (five q d a f) 2 b s
named q d a f b s may = may_name q (d ∷ rest_of a f) 2 b s (may_name d (rest_of a f) 3 b s may)

rest_two : (a f : ℕ) → IsWithin (0 ∷ f ∷ []) (rest_of a f)
rest_two a f = within_both (0 ∷ []) (f ∷ []) (rest_of a f) (within_right (a ∷ f ∷ []) (0 ∷ [])) (within_two a f (0 ∷ []))

-- the node may be taken
pub may_take_node : (a f n : ℕ) (s : PageState) → MayUse (a ∷ f ∷ 0 ∷ []) 4 (16_449 + 21 + (169 + n + 72)) s → MayUse (0 ∷ f ∷ []) 2 16_449 s
may_take_node a f n s may = may_less (rest_of a f) (0 ∷ f ∷ []) 4 2 (16_449 + 21 + (169 + n + 72)) 16_449 s may (rest_two a f) (lit≤ tt) (omega arith)

-- what was used where no page was taken behind it
pub used_node : {T : Type 0} {state : T → PageState} {stays : T → T → Type 0} (a f n : ℕ) (s t : T) → Uses state stays (0 ∷ f ∷ []) 2 16_449 s t → Uses state stays (a ∷ f ∷ 0 ∷ []) 4 (16_449 + 21 + (169 + n + 72)) s t
used_node a f n s t u = uses_more (0 ∷ f ∷ []) (rest_of a f) 2 4 16_449 (16_449 + 21 + (169 + n + 72)) s t u (rest_two a f) (lit≤ tt) (omega arith)

module _ {T : Type 0} {state : T → PageState} {stays : T → T → Type 0} (add : (a b c : T) → stays a b → stays b c → stays a c) (q d a f n : ℕ) (s t1 t2 t3 : T) where
  k1 : Uses state stays (q ∷ 0 ∷ f ∷ []) 1 16_449 s t1 → Uses state stays (five q d a f) 1 16_449 s t1
  k1 u1 = uses_more (q ∷ 0 ∷ f ∷ []) (five q d a f) 1 1 16_449 16_449 s t1 u1 (node_pages q d a f) (lit≤ tt) (lit≤ tt)

  k2 : Uses state stays (q ∷ 0 ∷ f ∷ []) 1 16_449 s t1 → Uses state stays (0 ∷ []) 0 21 t1 t2 → Uses state stays (five q d a f) 1 16_470 s t2
  k2 u1 u2 = uses_within add (five q d a f) (0 ∷ []) 1 16_449 0 21 s t1 t2 (map_page q d a f) (k1 u1) u2

  out : (k b : ℕ) (t : T) → k ≤ 2 → b ≤ 16_449 + 21 + (169 + n + 72) → Uses state stays (five q d a f) k b s t → Uses state stays (a ∷ f ∷ 0 ∷ []) 4 (16_449 + 21 + (169 + n + 72)) s t
  out k b t few short u = uses_unnamed d (rest_of a f) 3 (16_449 + 21 + (169 + n + 72)) s t (uses_unnamed q (d ∷ rest_of a f) 2 (16_449 + 21 + (169 + n + 72)) s t (uses_at_most (five q d a f) k b 2 (16_449 + 21 + (169 + n + 72)) s t few short u))

  -- the page may be taken, and the version be pushed
  pub may_take_page : MayUse (a ∷ f ∷ 0 ∷ []) 4 (16_449 + 21 + (169 + n + 72)) (state s) → Uses state stays (q ∷ 0 ∷ f ∷ []) 1 16_449 s t1 → MayUse (0 ∷ []) 0 21 (state t1)
  may_take_page may u1 = may_within (five q d a f) (0 ∷ []) 2 (16_449 + 21 + (169 + n + 72)) 1 16_449 0 21 s t1 (map_page q d a f) (lit≤ tt) (omega arith) (named q d a f (16_449 + 21 + (169 + n + 72)) (state s) may) (k1 u1)

  pub may_push : MayUse (a ∷ f ∷ 0 ∷ []) 4 (16_449 + 21 + (169 + n + 72)) (state s) → Uses state stays (q ∷ 0 ∷ f ∷ []) 1 16_449 s t1 → Uses state stays (0 ∷ []) 0 21 t1 t2 → MayUse (q ∷ a ∷ d ∷ []) 1 (169 + n + 72) (state t2)
  may_push may u1 u2 = may_within (five q d a f) (q ∷ a ∷ d ∷ []) 2 (16_449 + 21 + (169 + n + 72)) 1 16_470 1 (169 + n + 72) s t2 (push_pages q d a f) (lit≤ tt) (omega arith) (named q d a f (16_449 + 21 + (169 + n + 72)) (state s) may) (k2 u1 u2)

  -- what was used behind each call
  pub used_page : Uses state stays (q ∷ 0 ∷ f ∷ []) 1 16_449 s t1 → Uses state stays (0 ∷ []) 0 21 t1 t2 → Uses state stays (a ∷ f ∷ 0 ∷ []) 4 (16_449 + 21 + (169 + n + 72)) s t2
  used_page u1 u2 = out 1 16_470 t2 (lit≤ tt) (omega arith) (k2 u1 u2)

  pub used_push : Uses state stays (q ∷ 0 ∷ f ∷ []) 1 16_449 s t1 → Uses state stays (0 ∷ []) 0 21 t1 t2 → Uses state stays (q ∷ a ∷ d ∷ []) 1 (169 + n + 72) t2 t3 → Uses state stays (a ∷ f ∷ 0 ∷ []) 4 (16_449 + 21 + (169 + n + 72)) s t3
  used_push u1 u2 u3 = out 2 (16_470 + (169 + n + 72)) t3 (lit≤ tt) (omega arith) (uses_within add (five q d a f) (q ∷ a ∷ d ∷ []) 1 16_470 1 (169 + n + 72) s t2 t3 (push_pages q d a f) (k2 u1 u2) u3)

-- ---- faults

-- a fault of taking the page is one of the call
pub odd_taken : (first : ℕ) (head : Address) (s t : PageState) → t.count ≡ s.count → (f : Fault) → IsHonest (IsSpentOrOdd t.told t.count) f → IsHonest (IsOddPushing first head s) f
odd_taken first head s t same Device odd = tt
odd_taken first head s t same (Strange page at value) odd = inr (inl (record { mid = t; same = same; there = inr odd }))

-- so is that no page is left
pub odd_left : {A : Type 0} (r : Result A Fault) (first : PageNo) (head : Address) (s : PageState) (value : ℕ) → value ≡ 4_294_967_295 → r ≡ Err (Strange first 84 value) → IfErr r (IsHonest (IsOddPushing first.0 head s))
odd_left {A = A} r first head s value null is =
    let P : Result A Fault → Type 0 = λ q. IfErr q (IsHonest (IsOddPushing first.0 head s)) in
    subst P (sym is) (inr (inl (record { mid = record s { told = None }; same = refl; there = inl (record { same_page = refl; same_place = refl; null = null; reads = tt }) })))
