-- The least count among views.
use Rattle.std.proofs.Common.{◌≡◌, ◌≢◌, ◌⊎◌, inl, inr, ℕ, ◌≤◌, List, [], ◌∷◌, ◌++◌, length, Option, Some, None, unwrap_or, option_map, Contains, refl, sym, ap, subst, ◌∙◌, arith}
use Rattle.std.proofs.lemmas.List.Elements.{Contains-push, Contains-push_cases, Contains-append_left}
use Rattle.slab.specs.Slab.{Slab, get, entries}
use Rattle.slab.proofs.SlabLemmas.{Contains-entries, length-entries}
use Rattle.engine_base.specs.declared.ids.CommitNo.{CommitNo}
use Rattle.read_views.specs.Views.{ReadView, IsLesser, view_of, view_in, open_count}
use Rattle.read_views.specs.declared.views.View.{View}

empty_has : (x : ℕ × View) → Contains [] x → ⊥
empty_has x there = omega (arith, there.1)

short_has : (es : List (ℕ × View)) (x : ℕ × View) → length es ≡ 0 → Contains es x → ⊥
short_has [] x short there = empty_has x there
short_has (e ∷ es) x short there = omega (arith, short)

none_some : (v : ReadView) → (let x : Option ReadView = None in x) ≡ Some v → ⊥
none_some v e = cc e

some_inj : {A : Type 0} {x y : A} → Some x ≡ Some y → x ≡ y
some_inj e = cc e

-- the least count of these
abbrev pub IsLeastOf : Option CommitNo → List (ℕ × View) → Type 0
IsLeastOf None es = es ≡ []
IsLeastOf (Some n) es =
    ((e : ℕ × View) → Contains es e → n.0 ≤ e.1.commits.0)
    × ((e : ℕ × View) × Contains es e × (n ≡ e.1.commits))

-- one view more
pub least_more : (old : Option CommitNo) (es : List (ℕ × View)) (e : ℕ × View) (n : CommitNo)
    → IsLeastOf old es → IsLesser old e.1.commits n → IsLeastOf (Some n) (es ++ e ∷ [])
least_more None es e n none is = (
  λ x there. by x (Contains-push_cases es e x there),
  (e, Contains-push es e, is),
)
  where
    by : (x : ℕ × View) → Contains es x ⊎ (e ≡ x) → n.0 ≤ x.1.commits.0
    by x (inl before) = absurd (empty_has x (subst (λ (l : List (ℕ × View)). Contains l x) none before))
    by x (inr same) =
        let count : n.0 ≡ x.1.commits.0 = ap (λ (c : CommitNo). c.0) is
        ∙ ap (λ (y : ℕ × View). y.1.commits.0) same in
        omega (arith, count)
least_more (Some m) es e n least is = (
  λ x there. by x (Contains-push_cases es e x there),
  from is.2,
)
  where
    by : (x : ℕ × View) → Contains es x ⊎ (e ≡ x) → n.0 ≤ x.1.commits.0
    by x (inl before) = omega (arith, is.0, least.0 x before)
    by x (inr same) =
        let count : e.1.commits.0 ≡ x.1.commits.0 =
        ap (λ (y : ℕ × View). y.1.commits.0) same in
        omega (arith, count, is.1)

    from : (n ≡ m) ⊎ (n ≡ e.1.commits)
        → (x : ℕ × View) × Contains (es ++ e ∷ []) x × (n ≡ x.1.commits)
    from (inl old) = (least.1.0, Contains-append_left es (e ∷ []) least.1.0 least.1.1, old ∙ least.1.2)
    from (inr new) = (e, Contains-push es e, new)

module _ (views : Slab View) (commits : CommitNo) (least : Option CommitNo) where
  -- the least of all of them is the limit
  pub limit_none : IsLeastOf least (entries views) → open_count views ≡ 0
      → unwrap_or least commits ≡ commits
  limit_none is none = by least is
    where
      empty : length (entries views) ≡ 0
      empty = length-entries views ∙ none

      by : (o : Option CommitNo) → IsLeastOf o (entries views) → unwrap_or o commits ≡ commits
      by None is = refl
      by (Some n) is = absurd (short_has (entries views) is.1.0 empty is.1.1)

  pub limit_least : IsLeastOf least (entries views) → (key : ℕ) (v : ReadView)
      → view_in views key ≡ Some v → (unwrap_or least commits).0 ≤ v.commits
  limit_least is key v there = by (get views key) refl least is
    where
      by : (w : Option View) → get views key ≡ w → (o : Option CommitNo)
          → IsLeastOf o (entries views) → (unwrap_or o commits).0 ≤ v.commits
      by None e o is = absurd (none_some v (sym (ap (option_map view_of) e) ∙ there))
      by (Some w) e None is =
          absurd (empty_has (key, w) (subst (λ (l : List (ℕ × View)). Contains l (key, w)) is
          ((Contains-entries views key w).1 e)))
      by (Some w) e (Some n) is =
          let less : n.0 ≤ w.commits.0 = is.0 (key, w) ((Contains-entries views key w).1 e) in
          let same : view_of w ≡ v =
          some_inj (sym (ap (option_map view_of) e) ∙ there) in
          subst (λ (x : ReadView). n.0 ≤ x.commits) same less

  pub limit_some : IsLeastOf least (entries views) → open_count views ≢ 0
      → (key : ℕ) × (v : ReadView) × (view_in views key ≡ Some v)
      × ((unwrap_or least commits).0 ≡ v.commits)
  limit_some is some = by least is
    where
      by : (o : Option CommitNo) → IsLeastOf o (entries views) → (key : ℕ) × (v : ReadView)
          × (view_in views key ≡ Some v) × ((unwrap_or o commits).0 ≡ v.commits)
      by None is = absurd (some (sym (length-entries views) ∙ ap length is))
      by (Some n) is = (
        is.1.0.0,
        view_of is.1.0.1,
        ap (option_map view_of) ((Contains-entries views is.1.0.0 is.1.0.1).0 is.1.1),
        ap (λ (c : CommitNo). c.0) is.1.2,
      )
