-- Steps of calls that keep the rest of a store, and calls of such steps.
use Rattle.std.proofs.Common.{◌≡◌, ◌≢◌, inl, inr, ℕ, ◌+◌, ◌≤◌, ◌==◌, List, [], ◌∷◌, ◌++◌, map, ap, subst, arith}
use Rattle.std.proofs.lemmas.Bool.{cases_eq, ne_eqb}
use Rattle.page_model.specs.Pages.{Pages}
use Rattle.page_model.specs.Spans.{Span, IsApartFromAll, AreApart, SameOutside}
use Rattle.page_model.proofs.SpanLemmas.{from_join}
use Rattle.page_model.specs.Counts.{one_if, times}
use Rattle.page_space.specs.Map.{map_spans, TakesPage, GivesPage}
use Rattle.undo_model.specs.Data.{Log}
use Rattle.store_parts.specs.Stored.{Stored}
use Rattle.store_parts.specs.Standing.{IsStoreBut, AreOn, AreOffNodes, AreOutIn, Moves}
use Rattle.store_parts.specs.Keeps.{Keeps, first_node, first_nodes, IsWithin, AreAsMany}
use Rattle.page_model.proofs.CountLemmas.{times_here}
use Rattle.store_parts.proofs.FrameLemmas.{moved}
use Rattle.store_parts.proofs.MoveLemmas.{takes_moves, gives_moves, writes_moves, not_zero}

nothing : {A : Type 0} → 1 ≤ 0 → A
nothing h = absurd (omega arith)

-- spans apart from the first nodes in some pages are off the logs taken out that begin there
pub off_firsts : (firsts : List ℕ) (ss : List Span) (logs : List Log) → AreApart ss (first_nodes firsts) → AreOutIn firsts logs → AreOffNodes ss logs
off_firsts firsts ss [] apart outs = tt
off_firsts firsts ss (l ∷ more) apart outs = ((λ is. one firsts l.page apart (outs.0 is)), off_firsts firsts ss more apart outs.1)
  where
    one : (fs : List ℕ) (n : ℕ) → AreApart ss (first_nodes fs) → 1 ≤ times n fs → IsApartFromAll ss (first_node n)
    one [] n apart some = nothing some
    one (f ∷ fs) n apart some = elim (cases_eq f n) [
      | inl same ↦ subst (λ k. IsApartFromAll ss (first_node k)) same apart.0
      | inr other ↦ one fs n apart.1 (let e : one_if (f == n) ≡ 0 = ap one_if (ne_eqb f n other) in omega (arith, e, some))
    ]

-- the map isn't where such a log begins
map_off : (firsts : List ℕ) → times 0 firsts ≡ 0 → AreApart map_spans (first_nodes firsts)
map_off [] none = tt
map_off (f ∷ fs) none = (
  (inl other, (inl other, tt)),
  map_off fs (omega (arith, none)),
)
  where
    other : f ≢ 0
    other e = absurd (no (let h = times_here 0 [] in let x : one_if (f == 0) ≡ one_if (0 == 0) = ap (λ n. one_if (n == 0)) e in omega (arith, none, h, x)))
      where
        no : 1 ≤ 0 → ⊥
        no h = absurd (omega arith)

both_off : (ss ts : List Span) (us : List Span) → AreApart ss us → AreApart ts us → AreApart (ss ++ ts) us
both_off ss ts [] a b = tt
both_off ss ts (u ∷ us) a b = (from_join ss ts u a.0 b.0, both_off ss ts us a.1 b.1)

-- a move that writes no first node of a log taken out keeps the rest of a store
pub keeps_move : (firsts own own' : List ℕ) (ss : List Span) (old new : Pages) → IsWithin firsts own → AreApart ss (first_nodes firsts) → Moves own own' ss old new → Keeps firsts own own' old new
keeps_move firsts own own' ss old new within apart is = λ s outs outs' st.
    let none : times 0 firsts ≡ 0 = (let w = within 0 in let z = not_zero own old s st in omega (arith, w, z)) in
    let all = both_off map_spans ss (first_nodes firsts) (map_off firsts none) apart in
    moved own own' ss old new s is st (off_firsts firsts (map_spans ++ ss) s.active all outs) (off_firsts firsts (map_spans ++ ss) s.committed all outs')

none_off : (ts : List Span) → AreApart [] ts
none_off [] = tt
none_off (t ∷ ts) = (tt, none_off ts)

-- a page taken keeps the rest of a store, and becomes an own one
pub keeps_take : (firsts own : List ℕ) (page : ℕ) (old new : Pages) → IsWithin firsts own → TakesPage page old new → Keeps firsts own (page ∷ own) old new
keeps_take firsts own page old new within is = keeps_move firsts own (page ∷ own) [] old new within (none_off (first_nodes firsts)) (takes_moves own page old new is)

-- an own page given back keeps the rest of a store, and is an own one no more
pub keeps_give : (firsts own own' : List ℕ) (page : ℕ) (old new : Pages) → IsWithin firsts own → ((n : ℕ) → times n own ≡ times n (page ∷ []) + times n own') → GivesPage page old new → Keeps firsts own own' old new
keeps_give firsts own own' page old new within cut is = λ s outs outs' st.
    keeps_move firsts own own' [] old new within (none_off (first_nodes firsts)) (gives_moves own own' page old new s st cut is) s outs outs' st

-- bytes written in own pages, but in no first node of a log taken out, keep the rest of a store
pub keeps_write : (firsts own : List ℕ) (ss : List Span) (old new : Pages) → IsWithin firsts own → AreApart ss (first_nodes firsts) → SameOutside ss old new → AreOn own ss → Keeps firsts own own old new
keeps_write firsts own ss old new within apart same on = λ s outs outs' st.
    keeps_move firsts own own ss old new within apart (writes_moves own ss old new s st same on) s outs outs' st

-- a step that keeps the rest of a store, behind one that does, makes a call that keeps it
pub keeps_then : (firsts a b c : List ℕ) (old mid new : Pages) → Keeps firsts a b old mid → Keeps firsts b c mid new → Keeps firsts a c old new
keeps_then firsts a b c old mid new first second = λ s outs outs' st. second s outs outs' (first s outs outs' st)

-- own pages in another order
pub recounted : (own own' : List ℕ) (pages : Pages) (s : Stored) → AreAsMany own own' → IsStoreBut own pages s → IsStoreBut own' pages s
recounted own own' pages s same st = record {
  system = st.system;
  map = st.map;
  rows = st.rows;
  active_list = st.active_list;
  committed_list = st.committed_list;
  active = st.active;
  committed = st.committed;
  lobs = st.lobs;
  marks = λ n. let e = same n in let m = st.marks n in omega (arith, e, m);
}

-- where nothing changes, the rest of a store is kept, in whatever order the own pages are told
pub keeps_same : (firsts own own' : List ℕ) (pages : Pages) → AreAsMany own own' → Keeps firsts own own' pages pages
keeps_same firsts own own' pages same = λ s outs outs' st. recounted own own' pages s same st
