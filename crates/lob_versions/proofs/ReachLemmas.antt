-- The pages of a search: that of the entry at which it begins, and one more for each further entry.
use Rattle.std.proofs.Common.{◌≡◌, ℕ, ◌+◌, ◌≤◌, List, [], ◌∷◌, ◌++◌, length, refl, subst, arith}
use Rattle.page_model.specs.Steps.{PageState, IsWithin, MayUse, Touches, Uses}
use Rattle.page_model.proofs.StepLemmas.{within_left, within_right, within_both, different_within, different_append}

empty : (os : List ℕ) → length os ≤ 0 → os ≡ []
empty [] few = refl
empty (o ∷ os) few = absurd (omega (arith, few))

pub reach_start : (from : ℕ) (old : List ℕ) → Touches (from ∷ []) 0 old old
reach_start from old = record { others = []; few = omega arith; within = within_right (from ∷ []) old }

pub near_start : (from : ℕ) (old : List ℕ) → Touches (from ∷ []) 0 old (from ∷ old)
near_start from old = record { others = []; few = omega arith; within = λ n is. is }

-- calls on the node that the search stands at
pub reach_on : (from i q : ℕ) (old mid new : List ℕ) → Touches (from ∷ []) i old (q ∷ mid) → Touches (q ∷ []) 0 mid new → Touches (from ∷ []) i old new
reach_on from i q old mid new near call =
    let P : List ℕ → Type 0 = λ os. IsWithin new (os ++ ((q ∷ []) ++ mid)) in
    record { others = near.others; few = near.few; within = λ n is. near.within n (subst P (empty call.others call.few) call.within n is) }

-- a page that is pinned already is touched again
pub near_on : (from i q : ℕ) (old mid new : List ℕ) → Touches (from ∷ []) i old (q ∷ mid) → Touches (q ∷ []) 0 mid new → Touches (from ∷ []) i old (q ∷ new)
unfolding reach_on
near_on from i q old mid new near call =
    let all = near.others ++ ((from ∷ []) ++ old) in
    record { others = near.others; few = near.few; within = within_both (q ∷ []) new all (λ n is. near.within n (within_left (q ∷ []) mid n is)) (reach_on from i q old mid new near call).within }

-- one page more is touched
pub near_next : (from i r : ℕ) (old new : List ℕ) → Touches (from ∷ []) i old new → Touches (from ∷ []) (i + 1) old (r ∷ new)
near_next from i r old new reach =
    let tail = (from ∷ []) ++ old in
    record {
      others = r ∷ reach.others;
      few = omega (arith, reach.few);
      within = within_both (r ∷ []) new ((r ∷ reach.others) ++ tail) (within_left (r ∷ []) (reach.others ++ tail)) (λ n is. within_right (r ∷ []) (reach.others ++ tail) n (reach.within n is));
    }

-- a further node of a search may be touched
pub near_may : (from i q : ℕ) (s t : PageState) → MayUse (from ∷ []) 7 0 s → i ≤ 7 → Touches (from ∷ []) i s.touched (q ∷ t.touched) → MayUse (q ∷ []) 0 0 t
near_may from i q s t may few near =
    let tail = (from ∷ []) ++ s.touched in
    record {
      pins = omega (arith, different_within (q ∷ t.touched) (near.others ++ tail) near.within, different_append near.others tail, near.few, may.pins);
      room = omega arith;
    }

-- a search of at most eight nodes touches at most seven pages beside the first
pub reach_uses : {T : Type 0} {state : T → PageState} {stays : T → T → Type 0} (from i : ℕ) (s t : T) → i ≤ 7
    → (state t).count ≡ (state s).count → (state s).room ≤ (state t).room → stays s t → Touches (from ∷ []) i (state s).touched (state t).touched → Uses state stays (from ∷ []) 7 0 s t
reach_uses from i s t few count room same reach = record {
  count = count;
  touches = record { others = reach.others; few = omega (arith, reach.few); within = reach.within };
  room = omega (arith, room);
  same = same;
}
