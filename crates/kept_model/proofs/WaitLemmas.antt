-- Who waits for whom by the lock table waits so by the journal.
use Rattle.std.proofs.Common.{◌≡◌, ◌⊎◌, inl, inr, ℕ, Bool, true, false, true≢false, not, ◌&&◌, ◌||◌, nat_eq, List, [], ◌∷◌, Option, Some, None, refl, sym, ap, ap₂, subst, ◌∙◌, if◌then◌else◌}
use Rattle.journal_model.specs.Journal.{Script, Entry, Opening}
use Rattle.journal_model.specs.Held.{is_in}
use Rattle.journal_model.specs.Locks.{sessions, is_on, when_some, asks, holds, may_hold, first_holder, holder, stands_as, may_wait_on, leads_to, is_circle}
use Rattle.journal_model.specs.Legal.{is_met}
use Rattle.kept_model.specs.Engine.{Task, idle, asking, fetching, making, reading, undoing, Engine}
use Rattle.kept_model.specs.Sessions.{IsAt, has_lock}
use Rattle.kept_model.specs.Kept.{Kept}
use Rattle.kept_model.specs.Waits.{WaitsOn, LeadsTo, IsCircle}
use Rattle.kept_model.proofs.SessionLemmas.{self_eq, is_eq, not_eq}

or_true : (b : Bool) → (b || true) ≡ true
or_true true = refl
or_true false = refl

-- ---- the first of the holders, where but one session may be

module _ (script : Script) (past : List Entry) (d h : ℕ) where
  first_is : ((g : ℕ) → holds script g d past ≡ true → g ≡ h) → (hs : List ℕ) → (first_holder script hs d past ≡ None) ⊎ (first_holder script hs d past ≡ Some h)
  first_is alone [] = inl refl
  first_is alone (g ∷ hs) = by_test (holds script g d past) refl (first_is alone hs)
    where
      by_test : (b : Bool) → holds script g d past ≡ b → (first_holder script hs d past ≡ None) ⊎ (first_holder script hs d past ≡ Some h)
          → ((if b then Some g else first_holder script hs d past) ≡ None) ⊎ ((if b then Some g else first_holder script hs d past) ≡ Some h)
      by_test true e rest = inr (ap (λ (n : ℕ). Some n) (alone g e))
      by_test false e rest = rest

  -- a holder is found
  none_holds : (hs : List ℕ) → is_in h hs ≡ true → first_holder script hs d past ≡ None → holds script h d past ≡ true → ⊥
  none_holds [] there none holds_it = absurd (true≢false (sym there))
  none_holds (g ∷ hs) there none holds_it = by_test (holds script g d past) refl none (λ t n. none_holds hs t n holds_it)
    where
      here_or : (b : Bool) → nat_eq g h ≡ b → holds script g d past ≡ false → (b || is_in h hs) ≡ true → (is_in h hs ≡ true → ⊥) → ⊥
      here_or true g_is off t rest = absurd (true≢false (sym holds_it ∙ ap (λ (k : ℕ). holds script k d past) (sym (is_eq g h g_is)) ∙ off))
      here_or false g_is off t rest = rest t

      by_test : (b : Bool) → holds script g d past ≡ b → (if b then Some g else first_holder script hs d past) ≡ None
          → (is_in h hs ≡ true → first_holder script hs d past ≡ None → ⊥) → ⊥
      by_test true e n rest = absurd (cc n)
      by_test false e n rest = here_or (nat_eq g h) refl e there (λ t. rest t n)

module _ (o : Opening) (script : Script) (e : Engine) (kept : Kept o script e) where
  holder_is : (d h : ℕ) → e.locks d ≡ Some h → (holder script d e.journal ≡ None) ⊎ (holder script d e.journal ≡ Some h)
  holder_is d h lock = first_is script e.journal d h (λ g holds_it. cc (sym ((kept.locks d).held g holds_it) ∙ lock)) sessions

  -- whoever has a lock stands for it, but where its own change has just been granted it
  stands : (d h : ℕ) → e.locks d ≡ Some h → (holds script h d e.journal ≡ true) ⊎ (may_hold script h d e.journal ≡ true) → stands_as script h d (holder script d e.journal) e.journal ≡ true
  stands d h lock its = elim (holder_is d h lock) [
    | inr found ↦ ap (λ (g : Option ℕ). stands_as script h d g e.journal) found ∙ self_eq h
    | inl none ↦ ap (λ (g : Option ℕ). stands_as script h d g e.journal) none ∙ elim its [
      | inl holds_it ↦ absurd (none_holds script e.journal d h sessions ((kept.locks d).meant h lock).0 none holds_it)
      | inr may ↦ may
    ]
  ]

  waits : (w h q : ℕ) → WaitsOn e w h → (e.sessions h).task ≡ asking q → may_wait_on script w h e.journal ≡ true
  waits w h q on still =
      ap₂ (λ (a b : Bool). not a && b) (not_eq h w on.other)
      (ap (λ (m : Option ℕ). when_some m (λ d. stands_as script h d (holder script d e.journal) e.journal)) (subst (IsAt script e.journal w) on.asks (kept.at w).at).0
      ∙ stands on.doc h on.lock (elim ((kept.locks on.doc).meant h on.lock).1 [
        | inl holds_it ↦ inl holds_it
        | inr more ↦ elim more [ inl may ↦ inr may | inr at_work ↦ absurd (true≢false (sym at_work ∙ ap (has_lock on.doc) still)) ]
      ]))

  first_waits : (s h g : ℕ) (l : List ℕ) → LeadsTo e s h (g ∷ l) → WaitsOn e h g
  first_waits s h g [] leads = leads.0
  first_waits s h g (f ∷ l) leads = leads.0

  leads : (s d : ℕ) → (e.sessions s).task ≡ asking d → (w : ℕ) (l : List ℕ) → LeadsTo e s w l → leads_to script s w l e.journal ≡ true
  leads s d asked w [] to = absurd to
  leads s d asked w (h ∷ []) to =
      ap₂ (λ (a b : Bool). a && b) (waits w h d to.0 (ap (λ (n : ℕ). (e.sessions n).task) to.1 ∙ asked)) (ap (λ (n : ℕ). nat_eq n s) to.1 ∙ self_eq s)
  leads s d asked w (h ∷ g ∷ l) to =
      let on = first_waits s h g l to.2 in
      ap₂ (λ (a b : Bool). a && b) (waits w h on.doc to.0 on.asks)
      (ap₂ (λ (a b : Bool). not a && b) (not_eq h s to.1) (leads s d asked h (g ∷ l) to.2))

  pub circle_is_met : (s d : ℕ) (l : List ℕ) → (e.sessions s).task ≡ asking d → IsCircle e s l → is_circle script s l e.journal ≡ true
  circle_is_met s d l asked circle = leads s d asked s l circle

  -- who is met has the lock
  pub lock_is_met : (s d h : ℕ) → e.locks d ≡ Some h → is_met o script s d h (holder script d e.journal) e.journal ≡ true
  lock_is_met s d h lock = elim (holder_is d h lock) [
    | inr found ↦ ap (λ (g : Option ℕ). is_met o script s d h g e.journal) found ∙ self_eq h
    | inl none ↦ ap (λ (g : Option ℕ). is_met o script s d h g e.journal) none ∙ elim m.1 [
      | inl holds_it ↦ absurd (none_holds script e.journal d h sessions m.0 none holds_it)
      | inr more ↦ elim more [
        | inl may ↦ ap (λ (b : Bool). b || is_on d (asks script h e.journal)) may
        | inr at_work ↦ ap (λ (b : Bool). may_hold script h d e.journal || b) (by_task (e.sessions h).task refl at_work) ∙ or_true (may_hold script h d e.journal)
      ]
    ]
  ]
    where
      m : (is_in h sessions ≡ true) × ((holds script h d e.journal ≡ true) ⊎ ((may_hold script h d e.journal ≡ true) ⊎ (has_lock d (e.sessions h).task ≡ true)))
      m = (kept.locks d).meant h lock

      asks_it : (q : ℕ) → asks script h e.journal ≡ Some q → nat_eq q d ≡ true → is_on d (asks script h e.journal) ≡ true
      asks_it q is same = ap (is_on d) is ∙ same

      by_task : (k : Task) → (e.sessions h).task ≡ k → has_lock d k ≡ true → is_on d (asks script h e.journal) ≡ true
      by_task idle is has = absurd (true≢false (sym has))
      by_task (asking q) is has = absurd (true≢false (sym has))
      by_task (fetching q ps) is has = asks_it q (subst (IsAt script e.journal h) is (kept.at h).at).0 has
      by_task (making q left r) is has = asks_it q (subst (IsAt script e.journal h) is (kept.at h).at).0 has
      by_task (reading q f) is has = absurd (true≢false (sym has))
      by_task (undoing u) is has = absurd (true≢false (sym has))
