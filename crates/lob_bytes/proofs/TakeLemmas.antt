-- The page that the data of a further piece goes into.
use Rattle.std.proofs.Common.{◌≡◌, ℕ, ◌+◌, ◌≤◌, List, [], ◌∷◌, ◌++◌, length, map, Option, Some, None, Result, Ok, Err, OnOk, refl, sym, subst, lit≤, arith}
use Rattle.page_model.specs.Pages.{Pages, Address}
use Rattle.page_model.specs.Lists.{first_of}
use Rattle.page_model.specs.Steps.{PageState, MayUse, Uses, Told, Becomes}
use Rattle.engine_base.specs.declared.fault.Fault.{Fault}
use Rattle.page_model.proofs.FrameLemmas.{off_part, outside_same, outside_wider}
use Rattle.page_model.proofs.StepLemmas.{may_within, uses_more, uses_within, told_step, within_one, within_two}
use Rattle.engine_base.specs.declared.ids.PageNo.{PageNo}
use Rattle.page_space.specs.Map.{IsMap, place_of, map_spans, TakesPage}
use Rattle.store_data.specs.Store.{Piece, Lob}
use Rattle.lob_model.specs.Pieces.{head_place}
use Rattle.lob_index.specs.Taking.{index_taken}
use Rattle.lob_index.proofs.UseLemmas.{takes_none, takes_one}
use Rattle.lob_bytes.specs.Growth.{data_taken, TakesData}

abbrev IsNo : Option Address → Type 0
IsNo None = Unit {0}
IsNo (Some a) = ⊥

-- a list without a first node has none
pub no_pieces : (ps : List Piece) → None ≡ first_of (map head_place ps) → ps ≡ []
no_pieces [] is = refl
no_pieces (p ∷ ps) is = absurd (subst IsNo is tt)

-- a list with a first node has a piece
pub some_piece : (ps : List Piece) (a : Address) → Some a ≡ first_of (map head_place ps) → 1 ≤ length ps
some_piece [] a is = absurd (subst IsNo (sym is) tt)
some_piece (p ∷ ps) a is = omega arith

-- a LOB without pieces takes no page for its data, and no page changes
pub took_none : (pages : Pages) (lob : Lob) (reserved : ℕ) → IsMap pages → lob.pieces ≡ [] → TakesData lob None reserved reserved pages pages
took_none pages lob reserved map none = record {
  none = none;
  some = tt;
  takes = takes_none [] [] pages pages (outside_same pages) tt refl map;
  spent = omega arith;
  outside = outside_wider [] map_spans pages pages (λ n k off. tt) (outside_same pages);
}

-- one with a piece takes a page for its data, which was reserved
pub took_other : (old new : Pages) (lob : Lob) (page : PageNo) (reserved reserved' : ℕ) → IsMap old → 1 ≤ length lob.pieces → TakesPage page.0 old new → reserved' + 1 ≡ reserved → TakesData lob (Some page) reserved reserved' old new
took_other old new lob page reserved reserved' map some is spent = record {
  none = tt;
  some = some;
  takes = takes_one page.0 old new is;
  spent = spent;
  outside = outside_wider _ map_spans old new (λ n k off. (off.0, (off_part 0 128 4_096 (place_of page.0) 1 n k (omega arith) (let f = map.size.few in let t = is.there in omega (arith, f, t)) off.1.0, tt))) is.change.outside;
}

-- a piece more needs a page
pub need_one : (lob : Lob) (reserved : ℕ) → 1 ≤ length lob.pieces → length (data_taken 0 lob.pieces ++ index_taken 0 lob.free) ≤ reserved → 1 ≤ reserved
need_one lob reserved some enough = by lob.pieces some enough
  where
    by : (ps : List Piece) → 1 ≤ length ps → length (data_taken 0 ps ++ index_taken 0 lob.free) ≤ reserved → 1 ≤ reserved
    by [] some' enough' = absurd (omega (arith, some'))
    by (p ∷ ps) some' enough' = omega (arith, enough')

module _ {T : Type 0} {state : T → PageState} {stays : T → T → Type 0} (page : ℕ) (s t : T) where
  pub looked : Uses state stays (page ∷ []) 0 0 s t → Uses state stays (0 ∷ page ∷ []) 0 21 s t
  looked u = uses_more (page ∷ []) (0 ∷ page ∷ []) 0 0 0 21 s t u (within_two 0 page []) (lit≤ tt) (lit≤ tt)

  pub take_may : MayUse (0 ∷ page ∷ []) 0 21 (state s) → Uses state stays (page ∷ []) 0 0 s t → MayUse (0 ∷ []) 0 21 (state t)
  take_may may u = may_within (0 ∷ page ∷ []) (0 ∷ []) 0 21 0 0 0 21 s t (within_one 0 (page ∷ [])) (lit≤ tt) (lit≤ tt) may (uses_more (page ∷ []) (0 ∷ page ∷ []) 0 0 0 0 s t u (within_two 0 page []) (lit≤ tt) (lit≤ tt))

  pub take_uses : (add : (a b c : T) → stays a b → stays b c → stays a c) (v : T) → Uses state stays (page ∷ []) 0 0 s t → Uses state stays (0 ∷ []) 0 21 t v → Uses state stays (0 ∷ page ∷ []) 0 21 s v
  take_uses add v u w = uses_within add (0 ∷ page ∷ []) (0 ∷ []) 0 0 0 21 s t v (within_one 0 (page ∷ [])) (uses_more (page ∷ []) (0 ∷ page ∷ []) 0 0 0 0 s t u (within_two 0 page []) (lit≤ tt) (lit≤ tt)) w

-- what a call on told pages wrote
pub on_told : {A : Type 0} (P : Pages → Pages → Type 0) (r : Result A Fault) (old new : Option Pages) (pages : Pages) → old ≡ Some pages → OnOk r (Told P old new) → OnOk r (Becomes new (P pages))
on_told P (Ok done) old new pages is told = told_step P old new pages is told
on_told P (Err f) old new pages is told = tt
