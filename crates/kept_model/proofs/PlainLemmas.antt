-- What entries that leave documents say of their session, and locks behind them.
use Rattle.std.proofs.Common.{◌≡◌, ◌⊎◌, inl, inr, ℕ, ◌+◌, Bool, true, false, true≢false, nat_eq, List, [], ◌∷◌, Option, Some, None, is_some, refl, sym, ap, subst, ◌∙◌, arith, if◌then◌else◌}
use Rattle.journal_model.specs.Journal.{Script, Level, rr, rc, statement, Reply, Entry, Start, View, Wait, Did, Opening}
use Rattle.journal_model.specs.Held.{is_in}
use Rattle.journal_model.specs.Part.{is_deadlock, is_memory, made, opened, level_in, ends_by, next_part, part, started, answered, unanswered, under_way, view_of, view_under, view_since_start}
use Rattle.journal_model.specs.Locks.{sessions, holds, may_hold}
use Rattle.kept_model.specs.Engine.{Task, Session, Engine, with_session, unless, released}
use Rattle.kept_model.specs.Sessions.{has_lock, AreLocks}
use Rattle.kept_model.specs.Kept.{Kept}
use Rattle.kept_model.specs.Quiet.{granted}
use Rattle.kept_model.proofs.SessionLemmas.{self_eq, is_eq, by_session, holds_same, may_hold_same, unless_other, unless_is}
use Rattle.kept_model.proofs.PlainKept.{Leaves, Goes}

-- ---- parts

module _ (script : Script) (s : ℕ) (past : List Entry) where
  pub part_start : (i : ℕ) → part script s (Start s i ∷ past) ≡ Start s i ∷ part script s past
  unfolding next_part
  part_start i = rw (self_eq s) refl

  pub part_view : (k : ℕ) → part script s (View s k ∷ past) ≡ View s k ∷ part script s past
  unfolding next_part
  part_view k = rw (self_eq s) refl

  pub part_wait : (d h : ℕ) → part script s (Wait s d h ∷ past) ≡ Wait s d h ∷ part script s past
  unfolding next_part
  part_wait d h = rw (self_eq s) refl

  pub part_kept : (i : ℕ) (r : Reply) → ends_by script s (is_some (level_in script s (part script s past))) (statement script s i) r ≡ false
      → part script s (Did s i r ∷ past) ≡ Did s i r ∷ part script s past
  unfolding next_part
  part_kept i r goes = rw (self_eq s, goes) refl

  pub part_ended : (i : ℕ) (r : Reply) → ends_by script s (is_some (level_in script s (part script s past))) (statement script s i) r ≡ true
      → part script s (Did s i r ∷ past) ≡ []
  unfolding next_part
  part_ended i r goes = rw (self_eq s, goes) refl

  pub count_start : (i : ℕ) → started s past ≡ answered s past → started s (Start s i ∷ past) ≡ answered s past + 1
  count_start i same = ap (λ (b : Bool). if b then started s past + 1 else started s past) (self_eq s) ∙ ap (λ (n : ℕ). n + 1) same

  pub count_did : (i : ℕ) (r : Reply) → started s past ≡ answered s past + 1 → started s (Did s i r ∷ past) ≡ answered s (Did s i r ∷ past) + 0
  count_did i r was =
      was ∙ (let more : answered s past + 1 ≡ (answered s past + 1) + 0 = grind arith in more)
      ∙ sym (ap (λ (b : Bool). (if b then answered s past + 1 else answered s past) + 0) (self_eq s))

  -- views, where none is taken since the start
  pub view_none : (p : List Entry) → part script s past ≡ p → view_since_start (part script s past) ≡ None → (l : Option Level) → (e : Entry)
      → view_since_start (e ∷ p) ≡ None → Rattle.journal_model.specs.Part.last_view (e ∷ p) ≡ Rattle.journal_model.specs.Part.last_view p → view_under l (e ∷ p) ≡ view_under l (part script s past)
  view_none p is none (Some rr) e since last = last ∙ ap Rattle.journal_model.specs.Part.last_view (sym is)
  view_none p is none (Some rc) e since last = since ∙ sym none
  view_none p is none None e since last = since ∙ sym none

-- ---- locks

module _ (o : Opening) (script : Script) (e : Engine) (kept : Kept o script e) (s : ℕ) (x : Session) (past : List Entry) (leaves : Leaves o script s e.journal past) where
  abbrev now : ℕ → Session
  now = with_session s x e.sessions

  abbrev Meant : ℕ → ℕ → List Entry → Task → Type 0
  Meant t q p k = (holds script t q p ≡ true) ⊎ ((may_hold script t q p ≡ true) ⊎ (has_lock q k ≡ true))

  meant_else : (t q : ℕ) → nat_eq t s ≡ false → Meant t q e.journal (e.sessions t).task → Meant t q past (e.sessions t).task
  meant_else t q apart was = elim was [
    | inl g ↦ inl (holds_same script t e.journal past (leaves.others t apart) q ∙ g)
    | inr more ↦ inr (elim more [
      | inl g ↦ inl (may_hold_same script t e.journal past (leaves.others t apart) q ∙ g)
      | inr g ↦ inr g
    ])
  ]

  -- they stay
  pub locks_stay : ((q : ℕ) → holds script s q past ≡ true → (holds script s q e.journal ≡ true) ⊎ (has_lock q (e.sessions s).task ≡ true))
      → ((q : ℕ) → Meant s q e.journal (e.sessions s).task → Meant s q past x.task)
      → ((q : ℕ) → has_lock q x.task ≡ true → has_lock q (e.sessions s).task ≡ true)
      → (q : ℕ) → AreLocks script past e.locks now q
  locks_stay held_was meant_now taken_was q = record {
    held = by_session (λ t y. holds script t q past ≡ true → e.locks q ≡ Some t) s x e.sessions
        (λ h. elim (held_was q h) [ inl g ↦ (kept.locks q).held s g | inr g ↦ (kept.locks q).taken s g ])
        (λ t apart h. (kept.locks q).held t (sym (holds_same script t e.journal past (leaves.others t apart) q) ∙ h));
    taken = by_session (λ t y. has_lock q y.task ≡ true → e.locks q ≡ Some t) s x e.sessions (λ h. (kept.locks q).taken s (taken_was q h)) (λ t apart h. (kept.locks q).taken t h);
    meant = λ t h. (
      ((kept.locks q).meant t h).0,
      by_session (λ t y. e.locks q ≡ Some t → Meant t q past y.task) s x e.sessions
          (λ g. meant_now q ((kept.locks q).meant s g).1)
          (λ t apart g. meant_else t q apart ((kept.locks q).meant t g).1) t h,
    );
  }

  -- nothing is said of them
  pub locks_same : ((q : ℕ) → holds script s q past ≡ holds script s q e.journal) → ((q : ℕ) → may_hold script s q past ≡ may_hold script s q e.journal)
      → ((q : ℕ) → has_lock q x.task ≡ has_lock q (e.sessions s).task) → (q : ℕ) → AreLocks script past e.locks now q
  locks_same same_holds same_may same_lock = locks_stay (λ q h. inl (sym (same_holds q) ∙ h))
      (λ q was. elim was [
        | inl g ↦ inl (same_holds q ∙ g)
        | inr more ↦ inr (elim more [ inl g ↦ inl (same_may q ∙ g) | inr g ↦ inr (same_lock q ∙ g) ])
      ])
      (λ q h. sym (same_lock q) ∙ h)

  -- the session's are free
  pub locks_free : ((q : ℕ) → holds script s q past ≡ false) → ((q : ℕ) → has_lock q x.task ≡ false) → (q : ℕ) → AreLocks script past (released s e.locks) now q
  locks_free none_held none_lock q = record {
    held = by_session (λ t y. holds script t q past ≡ true → unless s (e.locks q) ≡ Some t) s x e.sessions (λ h. absurd (true≢false (sym h ∙ none_held q)))
        (λ t apart h. ap (unless s) ((kept.locks q).held t (sym (holds_same script t e.journal past (leaves.others t apart) q) ∙ h)) ∙ unless_other s t apart);
    taken = by_session (λ t y. has_lock q y.task ≡ true → unless s (e.locks q) ≡ Some t) s x e.sessions (λ h. absurd (true≢false (sym h ∙ none_lock q)))
        (λ t apart h. ap (unless s) ((kept.locks q).taken t h) ∙ unless_other s t apart);
    meant = λ t h.
        let was = unless_is s t (e.locks q) h in (
          ((kept.locks q).meant t was.0).0,
          by_session (λ t y. (nat_eq t s ≡ false) → e.locks q ≡ Some t → Meant t q past y.task) s x e.sessions
              (λ apart g. absurd (true≢false (sym (self_eq s) ∙ apart)))
              (λ t apart other g. meant_else t q apart ((kept.locks q).meant t g).1) t was.1 was.0,
        );
  }

  pub free_goes : (q : ℕ) → Goes s (e.locks q) (released s e.locks q)
  free_goes q = by_lock (e.locks q) refl
    where
      by_test : (t : ℕ) (b : Bool) → nat_eq t s ≡ b → e.locks q ≡ Some t → Goes s (e.locks q) (if b then None else Some t)
      by_test t true g is = inr (inl (is ∙ ap (λ (n : ℕ). Some n) (is_eq t s g), refl))
      by_test t false g is = inl (sym is)

      by_lock : (m : Option ℕ) → e.locks q ≡ m → Goes s (e.locks q) (unless s (e.locks q))
      by_lock None is = subst (λ (m : Option ℕ). Goes s (e.locks q) (unless s m)) (sym is) (inl (sym is))
      by_lock (Some t) is = subst (λ (m : Option ℕ). Goes s (e.locks q) (unless s m)) (sym is) (by_test t (nat_eq t s) refl is)

  -- one is granted
  module _ (d : ℕ) (grant : (e.locks d ≡ None) ⊎ (e.locks d ≡ Some s)) where
    granted_still : (t q : ℕ) → e.locks q ≡ Some t → granted d s e.locks q ≡ Some t
    granted_still t q h = by_test (nat_eq q d) refl
      where
        by_test : (b : Bool) → nat_eq q d ≡ b → (if b then Some s else e.locks q) ≡ Some t
        by_test false g = h
        by_test true g =
            let here : e.locks d ≡ Some t = ap e.locks (sym (is_eq q d g)) ∙ h in
            elim grant [ inl none ↦ absurd (cc (sym none ∙ here)) | inr mine ↦ sym mine ∙ here ]

    pub granted_goes : (q : ℕ) → Goes s (e.locks q) (granted d s e.locks q)
    granted_goes q = by_test (nat_eq q d) refl
      where
        by_test : (b : Bool) → nat_eq q d ≡ b → Goes s (e.locks q) (if b then Some s else e.locks q)
        by_test false g = inl refl
        by_test true g = elim grant [
          | inl none ↦ inr (inr (ap e.locks (is_eq q d g) ∙ none, refl))
          | inr mine ↦ inl (sym (ap e.locks (is_eq q d g) ∙ mine))
        ]

    pub locks_granted : is_in s sessions ≡ true → ((q : ℕ) → holds script s q past ≡ holds script s q e.journal) → ((q : ℕ) → may_hold script s q past ≡ may_hold script s q e.journal)
        → ((q : ℕ) → has_lock q (e.sessions s).task ≡ false) → ((q : ℕ) → has_lock q x.task ≡ nat_eq d q) → (q : ℕ) → AreLocks script past (granted d s e.locks) now q
    locks_granted numbered same_holds same_may none_was lock_is q = record {
      held = by_session (λ t y. holds script t q past ≡ true → granted d s e.locks q ≡ Some t) s x e.sessions
          (λ h. granted_still s q ((kept.locks q).held s (sym (same_holds q) ∙ h)))
          (λ t apart h. granted_still t q ((kept.locks q).held t (sym (holds_same script t e.journal past (leaves.others t apart) q) ∙ h)));
      taken = by_session (λ t y. has_lock q y.task ≡ true → granted d s e.locks q ≡ Some t) s x e.sessions
          (λ h. ap (λ (b : Bool). if b then Some s else e.locks q) (ap (λ (n : ℕ). nat_eq n d) (sym (is_eq d q (sym (lock_is q) ∙ h))) ∙ self_eq d))
          (λ t apart h. granted_still t q ((kept.locks q).taken t h));
      meant = by_test (nat_eq q d) refl;
    }
      where
        by_test : (b : Bool) → nat_eq q d ≡ b → (t : ℕ) → (if b then Some s else e.locks q) ≡ Some t → (is_in t sessions ≡ true) × Meant t q past (now t).task
        by_test true g t h =
            let one : s ≡ t = cc h in
            subst (λ (n : ℕ). (is_in n sessions ≡ true) × Meant n q past (now n).task) one (
              numbered,
              inr (inr (ap (λ (b : Bool). has_lock q (if b then x else e.sessions s).task) (self_eq s) ∙ lock_is q ∙ ap (λ (n : ℕ). nat_eq d n) (is_eq q d g) ∙ self_eq d)),
            )
        by_test false g t h = (
          ((kept.locks q).meant t h).0,
          by_session (λ t y. e.locks q ≡ Some t → Meant t q past y.task) s x e.sessions
              (λ k. elim ((kept.locks q).meant s k).1 [
                | inl a ↦ inl (same_holds q ∙ a)
                | inr more ↦ elim more [ inl a ↦ inr (inl (same_may q ∙ a)) | inr a ↦ absurd (true≢false (sym a ∙ none_was q)) ]
              ])
              (λ t apart k. meant_else t q apart ((kept.locks q).meant t k).1) t h,
        )
