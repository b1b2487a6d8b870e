-- Steps of a call, as moves: a page taken, a page given back, bytes of its own pages written.
use Rattle.std.proofs.Common.{◌≡◌, ◌≢◌, inl, inr, ℕ, suc, ◌+◌, ◌%◌, ◌<◌, ◌≤◌, ◌==◌, Bool, cond, nat_lt, List, [], ◌∷◌, ◌++◌, length, map, refl, sym, ap, ap₂, ◌∙◌, arith}
use Rattle.std.specs.Int.{bit_at}
use Rattle.std.proofs.lemmas.Bool.{cases_eq, eq-eqb, ne_eqb}
use Rattle.std.proofs.lemmas.Bool.Decides.{leb_tells}
use Rattle.page_model.specs.Pages.{Pages}
use Rattle.page_model.specs.Spans.{Span, span, IsOffAll, SameOutside}
use Rattle.page_model.proofs.FrameLemmas.{outside_wider, off_part}
use Rattle.page_model.specs.Counts.{one_if, times}
use Rattle.page_space.specs.Map.{IsUsed, IsFree, bit, place_of, map_spans, TakesPage, GivesPage}
use Rattle.page_space.proofs.MapLemmas.{map_kept}
use Rattle.page_model.proofs.CountLemmas.{times-append}
use Rattle.store_parts.specs.Stored.{Stored}
use Rattle.store_parts.specs.Standing.{mark, IsStoreBut, AreOn, AreOffNodes, Moves}
use Rattle.store_parts.proofs.CountLemmas.{mark_small, off_page, on_wider}
use Rattle.store_parts.proofs.FrameLemmas.{moved}

-- ---- marks

-- the mark of a page of the store is its bit
pub mark_at : (pages : Pages) (n : ℕ) → n < length pages → mark pages n ≡ bit pages n
mark_at pages n there = elim (leb_tells (suc n) (length pages)) [
  | inl below ↦ ap (λ (b : Bool). cond b (bit pages n) 0) below.0
  | inr above ↦ absurd (let a = above.1 in omega (arith, a, there))
]

-- a page keeps its mark where its bit and the count of pages stay
pub mark_same : (old new : Pages) (n : ℕ) → length new ≡ length old → bit new n ≡ bit old n → mark new n ≡ mark old n
mark_same old new n many same = ap₂ (λ (k b : ℕ). cond (nat_lt n k) b 0) many same

-- a page that is marked is one of the store's, and used
pub marked : (pages : Pages) (n : ℕ) → 1 ≤ mark pages n → (n < length pages) × IsUsed pages n
marked pages n is = elim (leb_tells (suc n) (length pages)) [
  | inl below ↦ (below.1, (let e = mark_at pages n below.1 in let m = mark_small pages n in omega (arith, e, m, is)))
  | inr above ↦ absurd (no (let e : mark pages n ≡ 0 = ap (λ (b : Bool). cond b (bit pages n) 0) above.0 in omega (arith, e, is)))
]
  where
    no : 1 ≤ 0 → ⊥
    no h = absurd (omega arith)

one_same : (m n : ℕ) → n ≡ m → one_if (m == n) ≡ 1
one_same m n same = ap one_if (eq-eqb m n (sym same))

one_other : (m n : ℕ) → n ≢ m → one_if (m == n) ≡ 0
one_other m n other = ap one_if (ne_eqb m n (λ e. other (sym e)))

-- the byte with a page's bit is one of the map
map_wider : (page : ℕ) (old new : Pages) → page < 32_768 → SameOutside (span 0 62 4 ∷ span 0 (place_of page) 1 ∷ []) old new → SameOutside (map_spans ++ []) old new
map_wider page old new below same = outside_wider (span 0 62 4 ∷ span 0 (place_of page) 1 ∷ []) (map_spans ++ []) old new
    (λ n k off. (off.0, (off_part 0 128 4_096 (place_of page) 1 n k (omega arith) (omega (arith, below)) off.1.0, tt))) same

-- with a free page used, and no other bit changed, marks and own pages grow by the same page
pub taken_marks : (own : List ℕ) (page : ℕ) (old new : Pages) → page < length old → length new ≡ length old → IsFree old page → IsUsed new page
    → ((k : ℕ) → k ≢ page → bit new k ≡ bit old k) → (n : ℕ) → mark new n + times n own ≡ mark old n + times n (page ∷ own)
taken_marks own page old new there many free used others n = elim (cases_eq n page) [
  | inl same ↦ (
      let a : mark new n ≡ 1 = mark_at new n (omega (arith, same, there, many)) ∙ ap (bit new) same ∙ used in
      let b : mark old n ≡ 0 = mark_at old n (omega (arith, same, there)) ∙ ap (bit old) same ∙ free in
      let c = one_same page n same in
      omega (arith, a, b, c)
      )
  | inr other ↦ (let a = mark_same old new n many (others n other) in let c = one_other page n other in omega (arith, a, c))
]

-- a page taken is a move that makes it an own page
pub takes_moves : (own : List ℕ) (page : ℕ) (old new : Pages) → TakesPage page old new → Moves own (page ∷ own) [] old new
takes_moves own page old new is =
    let outside = is.change.outside in
    let many : length new ≡ length old = outside.many in
    record {
      outside = map_wider page old new (let few = is.map.size.few in let t = is.there in omega (arith, few, t, many)) outside;
      on = tt;
      map = is.map;
      marks = taken_marks own page old new is.there many is.free is.change.here is.change.others;
    }

-- an own page given back is a move after which it is no own page
pub gives_moves : (own own' : List ℕ) (page : ℕ) (old new : Pages) (s : Stored) → IsStoreBut own old s → ((n : ℕ) → times n own ≡ times n (page ∷ []) + times n own')
    → GivesPage page old new → Moves own own' [] old new
gives_moves own own' page old new s st cut is =
    let outside = is.change.outside in
    let many : length new ≡ length old = outside.many in
    let was : 1 ≤ mark old page = let m = st.marks page in let c = cut page in let o = one_same page page refl in omega (arith, m, c, o) in
    let used = marked old page was in
    let here = used.0 in
    record {
      outside = map_wider page old new (let few = is.map.size.few in omega (arith, few, here, many)) outside;
      on = tt;
      map = is.map;
      marks = λ n. elim (cases_eq n page) [
        | inl same ↦ (
            let a : mark new n ≡ 0 = mark_at new n (omega (arith, same, here, many)) ∙ ap (bit new) same ∙ is.change.here in
            let b : mark old n ≡ 1 = mark_at old n (omega (arith, same, here)) ∙ ap (bit old) same ∙ used.1 in
            let c = one_same page n same in
            let d = cut n in
            omega (arith, a, b, c, d)
            )
        | inr other ↦ (let a = mark_same old new n many (is.change.others n other) in let c = one_other page n other in let d = cut n in omega (arith, a, c, d))
      ];
    }

-- ---- writes

-- spans that lie in other pages have no byte of page 0
pub off_zero_page : (ns : List ℕ) (ss : List Span) (k : ℕ) → AreOn ns ss → times 0 ns ≡ 0 → IsOffAll ss 0 k
off_zero_page ns [] k on none = tt
off_zero_page ns (s ∷ ss) k on none = (inl (λ (e : 0 ≡ s.page). absurd (no (let c : times 0 ns ≡ times s.page ns = ap (λ n. times n ns) e in let o = on.0 in omega (arith, c, none, o)))), off_zero_page ns ss k on.1 none)
  where
    no : 1 ≤ 0 → ⊥
    no h = absurd (omega arith)

-- page 0 is the store's, and none of the own pages
pub not_zero : (own : List ℕ) (pages : Pages) (s : Stored) → IsStoreBut own pages s → times 0 own ≡ 0
not_zero own pages s st = let m = mark_small pages 0 in let e = st.marks 0 in let o = one_same 0 0 refl in omega (arith, m, e, o)

-- bytes written in own pages are a move that leaves the own pages as they are
pub writes_moves : (own : List ℕ) (ss : List Span) (old new : Pages) (s : Stored) → IsStoreBut own old s → SameOutside ss old new → AreOn own ss → Moves own own ss old new
writes_moves own ss old new s st same on =
    let none = not_zero own old s st in
    record {
      outside = outside_wider ss (map_spans ++ ss) old new (λ n k off. off.1.1) same;
      on = on_wider own (own ++ own) ss (λ n. let a = times-append n own own in omega (arith, a)) on;
      map = map_kept ss old new same (off_page own ss (span 0 62 4) on none) (off_page own ss (span 0 128 4_096) on none) st.map;
      marks = λ n. let e = mark_same old new n same.many (ap (λ b. bit_at b (n % 8)) (same.bytes 0 (place_of n) (off_zero_page own ss (place_of n) on none))) in omega (arith, e);
    }

-- ---- a step of each kind

module _ (own : List ℕ) (old new : Pages) (s : Stored) (st : IsStoreBut own old s) where
  pub took : (page : ℕ) → TakesPage page old new → AreOffNodes map_spans s.active → AreOffNodes map_spans s.committed → IsStoreBut (page ∷ own) new s
  took page is off off' = moved own (page ∷ own) [] old new s (takes_moves own page old new is) st off off'

  pub gave : (own' : List ℕ) (page : ℕ) → ((n : ℕ) → times n own ≡ times n (page ∷ []) + times n own') → GivesPage page old new
      → AreOffNodes map_spans s.active → AreOffNodes map_spans s.committed → IsStoreBut own' new s
  gave own' page cut is off off' = moved own own' [] old new s (gives_moves own own' page old new s st cut is) st off off'

  pub wrote : (ss : List Span) → SameOutside ss old new → AreOn own ss → AreOffNodes (map_spans ++ ss) s.active → AreOffNodes (map_spans ++ ss) s.committed → IsStoreBut own new s
  wrote ss same on off off' = moved own own ss old new s (writes_moves own ss old new s st same on) st off off'
