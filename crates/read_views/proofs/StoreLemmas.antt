-- A view and the logs of a store.
use Rattle.std.proofs.Common.{◌≡◌, inl, inr, ℕ, ◌<◌, List, [], ◌∷◌, map, Bool, true, false, not, ◌&&◌, ◌||◌, nat_eq, nat_lt, refl, sym, ap, subst, ◌∙◌, true≢false}
use Rattle.std.specs.List.{list_any}
use Rattle.std.proofs.Math.Bool.{and-false, and-true}
use Rattle.std.proofs.lemmas.Bool.{lt-ltb, ltb-true, ltb-false, eqb-true, le-ltb, or_parts}
use Rattle.store_data.specs.Store.{Log, Store}
use Rattle.store_model.specs.History.{stands, stands_above, is_among}
use Rattle.read_views.specs.Views.{ReadView, sees_of}
use Rattle.read_views.specs.OfStore.{trx_of, IsOpenedAt, AreUpTo, IsUnseen, AreUnseen, WasDone, AreNumbered, IsLater, IsStanding}

-- the ids of the active logs are those of transactions that stand among them
ids_stand : (trx : ℕ) (ls : List Log) → list_any (λ n. nat_eq n trx) (map trx_of ls) ≡ stands trx ls
ids_stand trx [] = refl
ids_stand trx (l ∷ ls) = ap (λ b. nat_eq l.trx trx || b) (ids_stand trx ls)

none_above : (k trx : ℕ) (ls : List Log) → AreUpTo k ls → stands_above k trx ls ≡ false
none_above k trx [] few = refl
none_above k trx (l ∷ ls) few =
    rw (le-ltb k l.number few.0) (none_above k trx ls few.1)

-- what a view sees, by the store at its opening
sees_is : (store : Store) (v : ReadView) → IsOpenedAt store v → (trx : ℕ)
    → sees_of v trx ≡ (nat_lt trx store.next_trx && not (stands trx store.active))
sees_is store v opened trx =
    ap (λ n. nat_lt trx n && not (list_any (λ x. nat_eq x trx) v.active)) opened.next
    ∙ ap (λ (l : List ℕ). nat_lt trx store.next_trx && not (list_any (λ x. nat_eq x trx) l))
    opened.active
    ∙ ap (λ b. nat_lt trx store.next_trx && not b) (ids_stand trx store.active)

pub first_are_seen : (store : Store) (v : ReadView) → IsOpenedAt store v
    → AreUpTo store.commits store.committed → (trx : ℕ) → trx < store.next_trx
    → sees_of v trx ≡ is_among store v.commits trx
first_are_seen store v opened few trx below =
    sees_is store v opened trx
    ∙ ap (λ b. b && not (stands trx store.active)) (lt-ltb trx store.next_trx below)
    ∙ sym (and-true (not (stands trx store.active)))
    ∙ ap (λ b. not (stands trx store.active) && not b)
    (sym (none_above v.commits trx store.committed
    (subst (λ k. AreUpTo k store.committed) (sym opened.commits) few)))

-- ---- later

unseen_in : (old : Store) (trx : ℕ) (ls : List Log) → AreUnseen old ls → stands trx ls ≡ true
    → IsUnseen old trx
unseen_in old trx [] all there = absurd (true≢false (sym there))
unseen_in old trx (l ∷ ls) all there = by (nat_eq l.trx trx) refl (unseen_in old trx ls all.1)
  where
    by : (b : Bool) → nat_eq l.trx trx ≡ b → (stands trx ls ≡ true → IsUnseen old trx)
        → IsUnseen old trx
    by true e rest = subst (IsUnseen old) (eqb-true l.trx trx e) all.0
    by false e rest = rest (sym (ap (λ b. b || stands trx ls) e) ∙ there)

above_unseen : (old : Store) (trx : ℕ) (ls : List Log) → AreNumbered old ls
    → stands_above old.commits trx ls ≡ true → IsUnseen old trx
above_unseen old trx [] all there = absurd (true≢false (sym there))
above_unseen old trx (l ∷ ls) all there =
    by (nat_lt old.commits l.number) refl (nat_eq l.trx trx) refl (above_unseen old trx ls all.2)
  where
    by : (b : Bool) → nat_lt old.commits l.number ≡ b → (c : Bool) → nat_eq l.trx trx ≡ c
        → (stands_above old.commits trx ls ≡ true → IsUnseen old trx) → IsUnseen old trx
    by true e true f rest =
        subst (IsUnseen old) (eqb-true l.trx trx f) (all.0 (ltb-true old.commits l.number e))
    by true e false f rest = rest (sym (ap2 e f) ∙ there)
      where
        ap2 : nat_lt old.commits l.number ≡ true → nat_eq l.trx trx ≡ false
            → ((nat_lt old.commits l.number && nat_eq l.trx trx)
            || stands_above old.commits trx ls) ≡ stands_above old.commits trx ls
        ap2 e f = rw e (rw f refl)
    by false e c f rest =
        rest (sym (ap (λ b. (b && nat_eq l.trx trx) || stands_above old.commits trx ls) e) ∙ there)

done_in : (old : Store) (trx : ℕ) (ls : List Log) → AreNumbered old ls → stands trx ls ≡ true
    → stands_above old.commits trx ls ≡ false → WasDone old trx
done_in old trx [] all there none = absurd (true≢false (sym there))
done_in old trx (l ∷ ls) all there none =
    by (nat_eq l.trx trx) refl (done_in old trx ls all.2)
  where
    parts : ((nat_lt old.commits l.number && nat_eq l.trx trx) ≡ false)
        × (stands_above old.commits trx ls ≡ false)
    parts = or_parts (nat_lt old.commits l.number && nat_eq l.trx trx)
        (stands_above old.commits trx ls) none

    by : (b : Bool) → nat_eq l.trx trx ≡ b
        → (stands trx ls ≡ true → stands_above old.commits trx ls ≡ false → WasDone old trx)
        → WasDone old trx
    by true e rest =
        let low : nat_lt old.commits l.number ≡ false =
        sym (and-true (nat_lt old.commits l.number))
        ∙ ap (λ b. nat_lt old.commits l.number && b) (sym e) ∙ parts.0 in
        subst (WasDone old) (eqb-true l.trx trx e) (all.1 (ltb-false old.commits l.number low))
    by false e rest = rest (sym (ap (λ b. b || stands trx ls) e) ∙ there) parts.1

unseen_isnt_seen : (old : Store) (trx : ℕ) → IsUnseen old trx
    → (nat_lt trx old.next_trx && not (stands trx old.active)) ≡ false
unseen_isnt_seen old trx (inl late) =
    ap (λ b. b && not (stands trx old.active)) (le-ltb trx old.next_trx late)
unseen_isnt_seen old trx (inr open_then) =
    ap (λ b. nat_lt trx old.next_trx && not b) open_then ∙ and-false (nat_lt trx old.next_trx)

done_is_seen : (old : Store) (trx : ℕ) → WasDone old trx
    → (nat_lt trx old.next_trx && not (stands trx old.active)) ≡ true
done_is_seen old trx done =
    ap (λ b. b && not (stands trx old.active)) (lt-ltb trx old.next_trx done.below)
    ∙ ap not done.ended

pub first_stay_seen : (old new : Store) (v : ReadView) → IsOpenedAt old v → IsLater old new
    → (trx : ℕ) → IsStanding trx new → sees_of v trx ≡ is_among new v.commits trx
first_stay_seen old new v opened later trx standing =
    sees_is old v opened trx
    ∙ by (stands trx new.active) refl (stands_above old.commits trx new.committed) refl
    ∙ ap (λ k. not (stands trx new.active) && not (stands_above k trx new.committed))
    (sym opened.commits)
  where
    seen : Bool
    seen = nat_lt trx old.next_trx && not (stands trx old.active)

    in_committed : IsStanding trx new → stands trx new.active ≡ false
        → stands trx new.committed ≡ true
    in_committed (inl there) none = absurd (true≢false (sym there ∙ none))
    in_committed (inr there) none = there

    by : (a : Bool) → stands trx new.active ≡ a
        → (b : Bool) → stands_above old.commits trx new.committed ≡ b
        → (nat_lt trx old.next_trx && not (stands trx old.active))
        ≡ (not (stands trx new.active) && not (stands_above old.commits trx new.committed))
    by true e b f =
        unseen_isnt_seen old trx (unseen_in old trx new.active later.active e)
        ∙ ap (λ x. not x && not (stands_above old.commits trx new.committed)) (sym e)
    by false e true f =
        unseen_isnt_seen old trx (above_unseen old trx new.committed later.committed f)
        ∙ sym (and-false (not (stands trx new.active)))
        ∙ ap (λ x. not (stands trx new.active) && not x) (sym f)
    by false e false f =
        done_is_seen old trx (done_in old trx new.committed later.committed
        (in_committed standing e) f)
        ∙ ap (λ x. not x && true) (sym e)
        ∙ ap (λ x. not (stands trx new.active) && not x) (sym f)
