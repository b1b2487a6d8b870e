-- Answers to changes that aren't made: a refusal, a deadlock, want of memory.
use Rattle.std.proofs.Common.{◌≡◌, ◌⊎◌, inl, inr, ℕ, ◌+◌, Bool, true, false, true≢false, not, ◌&&◌, ◌||◌, nat_eq, List, [], ◌∷◌, Option, Some, None, is_some, option_and_then, unwrap_or, refl, sym, ap, ap₂, subst, ◌∙◌, if◌then◌else◌}
use Rattle.journal_model.specs.Documents.{Call, call_doc}
use Rattle.journal_model.specs.Journal.{Script, Level, Statement, call, statement, Reply, deadlock, missing, exists, same, deep, large, no_room, full, part as parted, done, inside, doc, sized, absent, restarted, memory, by_deadlock, Entry, Did, Opening}
use Rattle.journal_model.specs.Part.{is_ok_reply, is_deadlock, is_memory, made, opened, ends_by, part, started, answered, unanswered}
use Rattle.journal_model.specs.Locks.{sessions, changes, is_on, has_change, holds, may_hold, other_holder, chain, circle, is_circle}
use Rattle.journal_model.specs.Legal.{has_deadlock, is_restarting, Answer, MayAnswer, Allowed}
use Rattle.kept_model.specs.Engine.{Task, idle, asking, fetching, undoing, Session, Engine}
use Rattle.kept_model.specs.Sessions.{IsAt, under_way_in, has_lock}
use Rattle.kept_model.specs.Kept.{Kept}
use Rattle.kept_model.specs.Answers.{IsRefusedBy, answer_event}
use Rattle.kept_model.proofs.SessionLemmas.{self_eq}
use Rattle.kept_model.proofs.CommitLegal.{if_some, not_due}
use Rattle.kept_model.proofs.AnswerRows.{alone_holds}
use Rattle.kept_model.proofs.PlainKept.{IsPlain, IsUnplanned}
use Rattle.kept_model.proofs.RefusedEvents.{part_inside, part_outside, inside_keeps, outside_keeps}
use Rattle.read_model.specs.Flight.{Flight}

abbrev gets : Reply → Bool
gets r = not (is_deadlock r) && not (is_memory r)

-- ---- replies

module _ (o : Opening) (script : Script) (s : ℕ) (c : Call) (past : List Entry) where
  refusal_not_ok : (r : Reply) → IsRefusedBy o script s c r past → is_ok_reply r ≡ false
  refusal_not_ok missing h = refl
  refusal_not_ok exists h = refl
  refusal_not_ok same h = refl
  refusal_not_ok deep h = refl
  refusal_not_ok large h = refl
  refusal_not_ok (no_room n f) h = refl
  refusal_not_ok (deadlock l) h = absurd h
  refusal_not_ok full h = absurd h
  refusal_not_ok (parted n) h = absurd h
  refusal_not_ok done h = absurd h
  refusal_not_ok inside h = absurd h
  refusal_not_ok (doc t) h = absurd h
  refusal_not_ok (sized n m) h = absurd h
  refusal_not_ok absent h = absurd h
  refusal_not_ok restarted h = absurd h
  refusal_not_ok memory h = absurd h

  refusal_gets : (r : Reply) → IsRefusedBy o script s c r past → gets r ≡ true
  refusal_gets missing h = refl
  refusal_gets exists h = refl
  refusal_gets same h = refl
  refusal_gets deep h = refl
  refusal_gets large h = refl
  refusal_gets (no_room n f) h = refl
  refusal_gets (deadlock l) h = absurd h
  refusal_gets full h = absurd h
  refusal_gets (parted n) h = absurd h
  refusal_gets done h = absurd h
  refusal_gets inside h = absurd h
  refusal_gets (doc t) h = absurd h
  refusal_gets (sized n m) h = absurd h
  refusal_gets absent h = absurd h
  refusal_gets restarted h = absurd h
  refusal_gets memory h = absurd h

  refusal_calm : (r : Reply) → IsRefusedBy o script s c r past → (i : ℕ) (p : List Entry) → (is_restarting o script (Did s i r ∷ p) ≡ false) × (has_deadlock (Did s i r ∷ p) ≡ has_deadlock p)
  refusal_calm missing h i p = (refl, refl)
  refusal_calm exists h i p = (refl, refl)
  refusal_calm same h i p = (refl, refl)
  refusal_calm deep h i p = (refl, refl)
  refusal_calm large h i p = (refl, refl)
  refusal_calm (no_room n f) h i p = (refl, refl)
  refusal_calm (deadlock l) h i p = absurd h
  refusal_calm full h i p = absurd h
  refusal_calm (parted n) h i p = absurd h
  refusal_calm done h i p = absurd h
  refusal_calm inside h i p = absurd h
  refusal_calm (doc t) h i p = absurd h
  refusal_calm (sized n m) h i p = absurd h
  refusal_calm absent h i p = absurd h
  refusal_calm restarted h i p = absurd h
  refusal_calm memory h i p = absurd h

  may_refuse : (i : ℕ) → statement script s i ≡ Some (call c) → circle script s (call_doc c) past ≡ [] → other_holder script s (call_doc c) past ≡ None → (r : Reply) → IsRefusedBy o script s c r past → MayAnswer o script s i r past
  may_refuse i is calm alone missing h = if_some (λ st. Answer o script s st missing past) (statement script s i) (call c) is (calm, (alone, h))
  may_refuse i is calm alone exists h = if_some (λ st. Answer o script s st exists past) (statement script s i) (call c) is (calm, (alone, h))
  may_refuse i is calm alone same h = if_some (λ st. Answer o script s st same past) (statement script s i) (call c) is (calm, (alone, h))
  may_refuse i is calm alone deep h = if_some (λ st. Answer o script s st deep past) (statement script s i) (call c) is (calm, (alone, h))
  may_refuse i is calm alone large h = if_some (λ st. Answer o script s st large past) (statement script s i) (call c) is (calm, (alone, h))
  may_refuse i is calm alone (no_room n f) h = if_some (λ st. Answer o script s st (no_room n f) past) (statement script s i) (call c) is (calm, (alone, h.0, h.1, h.2, h.3))
  may_refuse i is calm alone (deadlock l) h = absurd h
  may_refuse i is calm alone full h = absurd h
  may_refuse i is calm alone (parted n) h = absurd h
  may_refuse i is calm alone done h = absurd h
  may_refuse i is calm alone inside h = absurd h
  may_refuse i is calm alone (doc t) h = absurd h
  may_refuse i is calm alone (sized n m) h = absurd h
  may_refuse i is calm alone absent h = absurd h
  may_refuse i is calm alone restarted h = absurd h
  may_refuse i is calm alone memory h = absurd h

-- ---- a change that isn't made

module _ (o : Opening) (script : Script) (e : Engine) (kept : Kept o script e) (s i : ℕ) (c : Call) (under : unanswered s e.journal ≡ Some i) (statement_is : statement script s i ≡ Some (call c)) where
  module _ (r : Reply) (not_ok : is_ok_reply r ≡ false) (may : MayAnswer o script s i r e.journal) (goes : is_restarting o script (Did s i r ∷ e.journal) ≡ false)
      (count : started s e.journal ≡ answered s e.journal + 1) (was : IsPlain (e.sessions s).task)
      (tells : (q : ℕ) → has_lock q (e.sessions s).task ≡ true → (nat_eq (call_doc c) q ≡ true) × ((gets r ≡ true) ⊎ (is_memory r ≡ true)))
      (got : gets r ≡ true → (q : ℕ) → nat_eq (call_doc c) q ≡ true → has_lock q (e.sessions s).task ≡ true) where
    abbrev after : List Entry
    after = Did s i r ∷ e.journal

    allowed : Allowed o script (Did s i r) e.journal
    allowed = (not_due o script e.journal kept.calm s i 0 (Did s i r), (under, may))

    none : made (statement script s i) r ≡ None
    none = ap (λ (st : Option Statement). made st r) statement_is ∙ ap (λ (b : Bool). if b then Some c else None) not_ok

    closed : opened (statement script s i) r ≡ None
    closed = ap (λ (st : Option Statement). opened st r) statement_is

    ends_outside : ends_by script s false (statement script s i) r ≡ true
    ends_outside = ap (λ (st : Option Statement). ends_by script s false st r) statement_is ∙ ap (λ (b : Bool). not (is_some (if b then Some c else None)) && true) not_ok

    ends_inside : ends_by script s true (statement script s i) r ≡ false
    ends_inside = ap (λ (st : Option Statement). ends_by script s true st r) statement_is

    outside_not_made : (e.sessions s).level ≡ None → Kept o script (answer_event s i r idle e)
    outside_not_made level_is = outside_keeps o script e kept s i r allowed count none closed goes was idle tt refl level_is ends_outside
        (ap has_deadlock (part_outside o script e kept s i r allowed count none closed goes was idle tt refl level_is ends_outside)) (λ q f h. absurd (cc h)) (λ q ps h. absurd (cc h)) (λ q. refl)

    module _ (l : Level) (level_is : (e.sessions s).level ≡ Some l) where
      part_is : part script s after ≡ Did s i r ∷ part script s e.journal
      part_is = part_inside o script e kept s i r allowed count none closed goes was idle tt refl l level_is ends_inside

      change_is : (test : Reply → Bool) (q : ℕ) → has_change script test q (part script s after) ≡ ((nat_eq (call_doc c) q && test r) || has_change script test q (part script s e.journal))
      change_is test q = ap (has_change script test q) part_is ∙ ap (λ (st : Option Statement). (is_on q (changes st) && test r) || has_change script test q (part script s e.journal)) statement_is

      or_true : (a b : Bool) → b ≡ true → (a || b) ≡ true
      or_true true b h = refl
      or_true false b h = h

      held_was : (q : ℕ) → holds script s q after ≡ true → (holds script s q e.journal ≡ true) ⊎ (has_lock q (e.sessions s).task ≡ true)
      held_was q h = by_test (nat_eq (call_doc c) q) (gets r) refl refl (sym (change_is gets q) ∙ h)
        where
          by_test : (a b : Bool) → nat_eq (call_doc c) q ≡ a → gets r ≡ b → ((a && b) || holds script s q e.journal) ≡ true → (holds script s q e.journal ≡ true) ⊎ (has_lock q (e.sessions s).task ≡ true)
          by_test true true g g' h = inr (got g' q g)
          by_test true false g g' h = inl h
          by_test false b g g' h = inl h

      meant_now : (q : ℕ) → (holds script s q e.journal ≡ true) ⊎ ((may_hold script s q e.journal ≡ true) ⊎ (has_lock q (e.sessions s).task ≡ true))
          → (holds script s q after ≡ true) ⊎ ((may_hold script s q after ≡ true) ⊎ (false ≡ true))
      meant_now q h = by_holds (holds script s q after) refl
        where
          first_of : (a b : Bool) → (a && b) ≡ true → a ≡ true
          first_of true b h = refl
          first_of false b h = absurd (true≢false (sym h))

          not_held : holds script s q after ≡ false → has_change script is_memory q (part script s after) ≡ true
          not_held g = elim h [
            | inl a ↦ absurd (true≢false (sym (change_is gets q ∙ or_true (nat_eq (call_doc c) q && gets r) (holds script s q e.journal) a) ∙ g))
            | inr more ↦ elim more [
              | inl a ↦ change_is is_memory q ∙ or_true (nat_eq (call_doc c) q && is_memory r) (has_change script is_memory q (part script s e.journal)) (first_of (has_change script is_memory q (part script s e.journal)) (not (holds script s q e.journal)) a)
              | inr a ↦
                  let t = tells q a in
                  elim t.1 [
                    | inl b ↦ absurd (true≢false (sym (change_is gets q ∙ ap₂ (λ (x y : Bool). (x && y) || holds script s q e.journal) t.0 b) ∙ g))
                    | inr b ↦ change_is is_memory q ∙ ap₂ (λ (x y : Bool). (x && y) || has_change script is_memory q (part script s e.journal)) t.0 b
                  ]
            ]
          ]

          by_holds : (b : Bool) → holds script s q after ≡ b → (holds script s q after ≡ true) ⊎ ((may_hold script s q after ≡ true) ⊎ (false ≡ true))
          by_holds true g = inl g
          by_holds false g = inr (inl (ap₂ (λ (a b : Bool). a && not b) (not_held g) g))

      inside_not_made : (k : Task) → IsUnplanned k → under_way_in k ≡ 0 → IsAt script after s k → ((q : ℕ) → has_lock q k ≡ false) → ((q : ℕ) (f : _) → k ≡ Rattle.kept_model.specs.Engine.reading q f → ⊥)
          → Kept o script (answer_event s i r k e)
      inside_not_made k unplanned over at no_lock not_read = inside_keeps o script e kept s i r allowed count none closed goes was k unplanned over l level_is ends_inside at
          (λ q f h. absurd (not_read q f h)) (λ q ps h. absurd (true≢false (sym (ap (has_lock q) h ∙ self_eq q) ∙ no_lock q))) held_was
          (λ q h. elim (meant_now q h) [ inl a ↦ inl a | inr more ↦ elim more [ inl a ↦ inr (inl a) | inr a ↦ absurd (true≢false (sym a)) ] ])
          (λ q h. absurd (true≢false (sym h ∙ no_lock q)))

  -- ---- it has read its document

  module _ (ps : Flight) (task_is : (e.sessions s).task ≡ fetching (call_doc c) ps) where
    fetch_count : started s e.journal ≡ answered s e.journal + 1
    fetch_count = (kept.at s).count ∙ ap (λ (k : Task). answered s e.journal + under_way_in k) task_is

    fetch_calm : has_deadlock (part script s e.journal) ≡ false
    fetch_calm = (subst (IsAt script e.journal s) task_is (kept.at s).at).1

    lock_is : (q : ℕ) → has_lock q (e.sessions s).task ≡ nat_eq (call_doc c) q
    lock_is q = ap (has_lock q) task_is

    held : e.locks (call_doc c) ≡ Some s
    held = (kept.locks (call_doc c)).taken s (lock_is (call_doc c) ∙ self_eq (call_doc c))

    alone : other_holder script s (call_doc c) e.journal ≡ None
    alone = alone_holds script s (call_doc c) e.journal (λ h holds_it. cc (sym ((kept.locks (call_doc c)).held h holds_it) ∙ held)) sessions

    no_circle : circle script s (call_doc c) e.journal ≡ []
    no_circle = ap (λ (other : Option ℕ). unwrap_or (option_and_then (λ h. chain script 64 s h e.journal) other) []) alone

    pub refused_keeps : (r : Reply) → IsRefusedBy o script s c r e.journal → Kept o script (answer_event s i r idle e)
    refused_keeps r refused = by_level (e.sessions s).level refl
      where
        not_ok : is_ok_reply r ≡ false
        not_ok = refusal_not_ok o script s c e.journal r refused

        calm_is : (p : List Entry) → (is_restarting o script (Did s i r ∷ p) ≡ false) × (has_deadlock (Did s i r ∷ p) ≡ has_deadlock p)
        calm_is p = refusal_calm o script s c e.journal r refused i p

        gets_is : gets r ≡ true
        gets_is = refusal_gets o script s c e.journal r refused

        may : MayAnswer o script s i r e.journal
        may = may_refuse o script s c e.journal i statement_is no_circle alone r refused

        by_level : (m : Option Level) → (e.sessions s).level ≡ m → Kept o script (answer_event s i r idle e)
        by_level None is = outside_not_made r not_ok may (calm_is e.journal).0 fetch_count (subst IsPlain (sym task_is) tt)
            (λ q h. (sym (lock_is q) ∙ h, inl gets_is)) (λ g q h. lock_is q ∙ h) is
        by_level (Some l) is = inside_not_made r not_ok may (calm_is e.journal).0 fetch_count (subst IsPlain (sym task_is) tt)
            (λ q h. (sym (lock_is q) ∙ h, inl gets_is)) (λ g q h. lock_is q ∙ h) l is idle tt refl
            (ap has_deadlock (part_is r not_ok may (calm_is e.journal).0 fetch_count (subst IsPlain (sym task_is) tt) (λ q h. (sym (lock_is q) ∙ h, inl gets_is)) (λ g q h. lock_is q ∙ h) l is)
            ∙ (calm_is (part script s e.journal)).1 ∙ fetch_calm)
            (λ q. refl) (λ q f h. absurd (cc h))

  -- ---- it waits for its lock, and there is a circle

  module _ (task_is : (e.sessions s).task ≡ asking (call_doc c)) (cs : List ℕ) (circles : is_circle script s cs e.journal ≡ true) where
    ask_count : started s e.journal ≡ answered s e.journal + 1
    ask_count = (kept.at s).count ∙ ap (λ (k : Task). answered s e.journal + under_way_in k) task_is

    may_deadlock : MayAnswer o script s i (deadlock cs) e.journal
    may_deadlock = if_some (λ st. Answer o script s st (deadlock cs) e.journal) (statement script s i) (call c) statement_is circles

    no_lock : (q : ℕ) → has_lock q (e.sessions s).task ≡ true → (nat_eq (call_doc c) q ≡ true) × ((gets (deadlock cs) ≡ true) ⊎ (is_memory (deadlock cs) ≡ true))
    no_lock q h = absurd (true≢false (sym h ∙ ap (has_lock q) task_is))

    pub deadlock_keeps : (l : Level) → (e.sessions s).level ≡ Some l → Kept o script (answer_event s i (deadlock cs) (undoing by_deadlock) e)
    deadlock_keeps l is = inside_not_made (deadlock cs) refl may_deadlock refl ask_count (subst IsPlain (sym task_is) tt) no_lock (λ g. absurd (true≢false (sym g))) l is (undoing by_deadlock) tt refl
        (ap has_deadlock (part_is (deadlock cs) refl may_deadlock refl ask_count (subst IsPlain (sym task_is) tt) no_lock (λ g. absurd (true≢false (sym g))) l is))
        (λ q. refl) (λ q f h. absurd (cc h))

    pub deadlock_outside : (e.sessions s).level ≡ None → Kept o script (answer_event s i (deadlock cs) idle e)
    deadlock_outside is = outside_not_made (deadlock cs) refl may_deadlock refl ask_count (subst IsPlain (sym task_is) tt) no_lock (λ g. absurd (true≢false (sym g))) is

  -- ---- want of memory, before it is planned

  pub memory_keeps : ((e.sessions s).task ≡ asking (call_doc c)) ⊎ ((ps : Flight) × ((e.sessions s).task ≡ fetching (call_doc c) ps)) → Kept o script (answer_event s i memory idle e)
  memory_keeps at_work = by_level (e.sessions s).level refl
    where
      may_memory : MayAnswer o script s i memory e.journal
      may_memory = if_some (λ st. Answer o script s st memory e.journal) (statement script s i) (call c) statement_is tt

      count : started s e.journal ≡ answered s e.journal + 1
      count = (kept.at s).count ∙ elim at_work [
        | inl is ↦ ap (λ (k : Task). answered s e.journal + under_way_in k) is
        | inr more ↦ ap (λ (k : Task). answered s e.journal + under_way_in k) more.1
      ]

      calm : has_deadlock (part script s e.journal) ≡ false
      calm = elim at_work [
        | inl is ↦ (subst (IsAt script e.journal s) is (kept.at s).at).1
        | inr more ↦ (subst (IsAt script e.journal s) more.1 (kept.at s).at).1
      ]

      plain : IsPlain (e.sessions s).task
      plain = elim at_work [ inl is ↦ subst IsPlain (sym is) tt | inr more ↦ subst IsPlain (sym more.1) tt ]

      tells : (q : ℕ) → has_lock q (e.sessions s).task ≡ true → (nat_eq (call_doc c) q ≡ true) × ((gets memory ≡ true) ⊎ (is_memory memory ≡ true))
      tells q h = elim at_work [
        | inl is ↦ absurd (true≢false (sym h ∙ ap (has_lock q) is))
        | inr more ↦ (sym (ap (has_lock q) more.1) ∙ h, inr refl)
      ]

      by_level : (m : Option Level) → (e.sessions s).level ≡ m → Kept o script (answer_event s i memory idle e)
      by_level None is = outside_not_made memory refl may_memory refl count plain tells (λ g. absurd (true≢false (sym g))) is
      by_level (Some l) is = inside_not_made memory refl may_memory refl count plain tells (λ g. absurd (true≢false (sym g))) l is idle tt refl
          (ap has_deadlock (part_is memory refl may_memory refl count plain tells (λ g. absurd (true≢false (sym g))) l is) ∙ calm)
          (λ q. refl) (λ q f h. absurd (cc h))
