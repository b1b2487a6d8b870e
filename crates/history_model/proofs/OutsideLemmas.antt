-- Outside a transaction a session has no own changes, unless its commit is due; a restart leaves nothing of any session.
use Rattle.std.proofs.Common.{◌≡◌, ◌≢◌, ℕ, ◌+◌, Bool, true, false, true≢false, nat_eq, List, [], ◌∷◌, Option, Some, None, is_some, IfSome, refl, sym, ap, subst, ◌∙◌, arith, if◌then◌else◌}
use Rattle.journal_model.specs.Documents.{Call}
use Rattle.journal_model.specs.Journal.{Script, Level, Statement, statement, call, get, size, begin, commit, rollback, Reply, deadlock, missing, exists, same, deep, large, no_room, full, part as parted, done, inside, doc, sized, absent, restarted, memory, Entry, Start, View, Wait, Did, Commit, Undone, Purged, Audited, Restart, Opening}
use Rattle.journal_model.specs.Part.{made, opened, ends_by, next_part, part, own, commits_of}
use Rattle.journal_model.specs.Locks.{sessions}
use Rattle.journal_model.specs.Legal.{IsLegal, Answer, MayAnswer, commit_due, is_restarting, first_unanswered, restart_due, IsDue}
use Rattle.history_model.proofs.OwnLemmas.{level, start_stays, view_stays, wait_stays, purged_stays, audited_stays, commit_other, undone_other, did_other, commit_own, undone_own, restart_own, did_made_level}

-- an answer that isn't a restart's is one by the statement's kind
pub answered_as : (o : Opening) (script : Script) (s i : ℕ) (r : Reply) (past : List Entry) → r ≢ restarted → MayAnswer o script s i r past
    → IfSome (statement script s i) (λ st. Answer o script s st r past)
answered_as o script s i (deadlock l) past other h = h
answered_as o script s i missing past other h = h
answered_as o script s i exists past other h = h
answered_as o script s i same past other h = h
answered_as o script s i deep past other h = h
answered_as o script s i large past other h = h
answered_as o script s i (no_room n m) past other h = h
answered_as o script s i full past other h = h
answered_as o script s i (parted n) past other h = h
answered_as o script s i done past other h = h
answered_as o script s i inside past other h = h
answered_as o script s i (doc w) past other h = h
answered_as o script s i (sized n m) past other h = h
answered_as o script s i absent past other h = h
answered_as o script s i memory past other h = h
answered_as o script s i restarted past other h = absurd (other refl)

-- the answer is a restart's
pub is_restart : Reply → Bool
is_restart restarted = true
is_restart r = false

-- then it is that
pub restart_is : (r : Reply) → is_restart r ≡ true → r ≡ restarted
unfolding is_restart
restart_is (deadlock l) h = absurd (true≢false (sym h))
restart_is missing h = absurd (true≢false (sym h))
restart_is exists h = absurd (true≢false (sym h))
restart_is same h = absurd (true≢false (sym h))
restart_is deep h = absurd (true≢false (sym h))
restart_is large h = absurd (true≢false (sym h))
restart_is (no_room n m) h = absurd (true≢false (sym h))
restart_is full h = absurd (true≢false (sym h))
restart_is (parted n) h = absurd (true≢false (sym h))
restart_is done h = absurd (true≢false (sym h))
restart_is inside h = absurd (true≢false (sym h))
restart_is (doc w) h = absurd (true≢false (sym h))
restart_is (sized n m) h = absurd (true≢false (sym h))
restart_is absent h = absurd (true≢false (sym h))
restart_is memory h = absurd (true≢false (sym h))
restart_is restarted h = refl

-- else it is another
pub other_is : (r : Reply) → is_restart r ≡ false → r ≢ restarted
unfolding is_restart
other_is r h e = true≢false (sym (ap is_restart e) ∙ h)

restarting_did : (o : Opening) (script : Script) (t i : ℕ) (r : Reply) (past : List Entry) → is_restarting o script (Did t i r ∷ past) ≡ true
    → (r ≡ restarted) × (is_restarting o script past ≡ true)
restarting_did o script t i (deadlock l) past h = absurd (true≢false (sym h))
restarting_did o script t i missing past h = absurd (true≢false (sym h))
restarting_did o script t i exists past h = absurd (true≢false (sym h))
restarting_did o script t i same past h = absurd (true≢false (sym h))
restarting_did o script t i deep past h = absurd (true≢false (sym h))
restarting_did o script t i large past h = absurd (true≢false (sym h))
restarting_did o script t i (no_room n m) past h = absurd (true≢false (sym h))
restarting_did o script t i full past h = absurd (true≢false (sym h))
restarting_did o script t i (parted n) past h = absurd (true≢false (sym h))
restarting_did o script t i done past h = absurd (true≢false (sym h))
restarting_did o script t i inside past h = absurd (true≢false (sym h))
restarting_did o script t i (doc w) past h = absurd (true≢false (sym h))
restarting_did o script t i (sized n m) past h = absurd (true≢false (sym h))
restarting_did o script t i absent past h = absurd (true≢false (sym h))
restarting_did o script t i memory past h = absurd (true≢false (sym h))
restarting_did o script t i restarted past h = (refl, h)

ends_at_restart : (script : Script) (s : ℕ) (st : Option Statement) → ends_by script s false st restarted ≡ true
ends_at_restart script s None = refl
ends_at_restart script s (Some (call c)) = refl
ends_at_restart script s (Some (get d)) = refl
ends_at_restart script s (Some (size d)) = refl
ends_at_restart script s (Some (begin l)) = refl
ends_at_restart script s (Some commit) = refl
ends_at_restart script s (Some rollback) = refl

-- behind a restart and answers to it no session has a part
pub no_parts : (o : Opening) (script : Script) (s : ℕ) (past : List Entry) → is_restarting o script past ≡ true → part script s past ≡ []
unfolding next_part
no_parts o script s [] h = absurd (true≢false (sym h))
no_parts o script s (Restart k ∷ past) h = refl
no_parts o script s (Did t i r ∷ past) h =
    let two = restarting_did o script t i r past h in
    at_restart (no_parts o script s past two.1) two.0
  where
    by_test : (b : Bool) → nat_eq t s ≡ b → part script s past ≡ [] → part script s (Did t i restarted ∷ past) ≡ []
    by_test true g empty = rw (g, empty, ends_at_restart script s (statement script t i)) refl
    by_test false g empty = rw (g, empty) refl

    at_restart : part script s past ≡ [] → r ≡ restarted → part script s (Did t i r ∷ past) ≡ []
    at_restart empty e = subst (λ q. part script s (Did t i q ∷ past) ≡ []) (sym e) (by_test (nat_eq t s) refl empty)
no_parts o script s (Start t i ∷ past) h = absurd (true≢false (sym h))
no_parts o script s (View t k ∷ past) h = absurd (true≢false (sym h))
no_parts o script s (Wait t d g ∷ past) h = absurd (true≢false (sym h))
no_parts o script s (Commit t c ∷ past) h = absurd (true≢false (sym h))
no_parts o script s (Undone t u ∷ past) h = absurd (true≢false (sym h))
no_parts o script s (Purged c ∷ past) h = absurd (true≢false (sym h))
no_parts o script s (Audited a ∷ past) h = absurd (true≢false (sym h))

-- an answer to a restart is due behind one alone
pub restarting : (o : Opening) (script : Script) (s : ℕ) (past : List Entry) → restart_due o script past ≡ Some s → is_restarting o script past ≡ true
restarting o script s past h = by_test (is_restarting o script past) refl h
  where
    by_test : (b : Bool) → is_restarting o script past ≡ b → (if b then first_unanswered o script sessions past else None) ≡ Some s → is_restarting o script past ≡ true
    by_test true e g = e
    by_test false e g = cc

-- ---- a commit that is due

-- where a commit is due it comes next
pub due_is : (o : Opening) (script : Script) (e : Entry) (past : List Entry) (s : ℕ) → IsDue o script e past → commit_due o script past ≡ Some s → e ≡ Commit s (commits_of o past + 1)
due_is o script e past s h g = subst (λ x. IfSome x (λ t. e ≡ Commit t (commits_of o past + 1))) g h.0

-- ---- outside a transaction

-- outside a transaction an answer that changed nothing ends the part
pub ends_outside : (script : Script) (s : ℕ) (st : Option Statement) (r : Reply) → made st r ≡ None → opened st r ≡ None → ends_by script s false st r ≡ true
ends_outside script s None r h g = refl
ends_outside script s (Some (call c)) r h g = rw h refl
ends_outside script s (Some (get d)) r h g = refl
ends_outside script s (Some (size d)) r h g = refl
ends_outside script s (Some (begin l)) r h g = rw g refl
ends_outside script s (Some commit) r h g = refl
ends_outside script s (Some rollback) r h g = refl

-- an answer of the session behind which it stands outside a transaction, and that changed nothing
pub did_outside : (script : Script) (s i : ℕ) (r : Reply) (past : List Entry) → made (statement script s i) r ≡ None → level script s (Did s i r ∷ past) ≡ None
    → own script s (Did s i r ∷ past) ≡ []
unfolding next_part
did_outside script s i r past none out = by_end (ends_by script s (is_some (level script s past)) (statement script s i) r) refl
  where
    here : nat_eq s s ≡ true
    here = grind arith

    by_open : (l : Option Level) → opened (statement script s i) r ≡ l → ends_by script s (is_some (level script s past)) (statement script s i) r ≡ false
        → own script s (Did s i r ∷ past) ≡ []
    by_open (Some l) h g = let opens : Some l ≡ None = sym (rw (here, g, h) refl) ∙ out in cc
    by_open None h g =
        let outer : level script s past ≡ None = sym (rw (here, g, h) refl) ∙ out in
        let ends : ends_by script s (is_some (level script s past)) (statement script s i) r ≡ true = rw outer (ends_outside script s (statement script s i) r none h) in
        absurd (true≢false (sym ends ∙ g))

    by_end : (b : Bool) → ends_by script s (is_some (level script s past)) (statement script s i) r ≡ b → own script s (Did s i r ∷ past) ≡ []
    by_end true g = rw (here, g) refl
    by_end false g = by_open (opened (statement script s i) r) refl g

module _ (o : Opening) (script : Script) (s : ℕ) where
  -- where the entry isn't the session's commit, none of it is due
  pub other_due : (e : Entry) (past : List Entry) → IsDue o script e past → ((c : ℕ) → e ≢ Commit s c) → commit_due o script past ≢ Some s
  other_due e past due other h = other (commits_of o past + 1) (due_is o script e past s due h)

  -- outside a transaction a session has own calls only where its commit is due
  pub outside : (past : List Entry) → IsLegal o script past → level script s past ≡ None → commit_due o script past ≢ Some s → own script s past ≡ []
  outside [] legal none calm = refl
  outside (Start t i ∷ past) legal none calm =
      let stays = start_stays script s past t i in
      stays.own_stays ∙ outside past legal.0 (sym stays.level_stays ∙ none) (other_due (Start t i) past legal.1.0 (λ c e. cc))
  outside (View t k ∷ past) legal none calm =
      let stays = view_stays script s past t k in
      stays.own_stays ∙ outside past legal.0 (sym stays.level_stays ∙ none) (other_due (View t k) past legal.1.0 (λ c e. cc))
  outside (Wait t d g ∷ past) legal none calm =
      let stays = wait_stays script s past t d g in
      stays.own_stays ∙ outside past legal.0 (sym stays.level_stays ∙ none) (other_due (Wait t d g) past legal.1.0 (λ c e. cc))
  outside (Purged c ∷ past) legal none calm =
      let stays = purged_stays script s past c in
      stays.own_stays ∙ outside past legal.0 (sym stays.level_stays ∙ none) (other_due (Purged c) past legal.1.0 (λ k e. cc))
  outside (Audited a ∷ past) legal none calm =
      let stays = audited_stays script s past a in
      stays.own_stays ∙ outside past legal.0 (sym stays.level_stays ∙ none) (other_due (Audited a) past legal.1.0 (λ k e. cc))
  outside (Restart k ∷ past) legal none calm = restart_own script s past k
  outside (Commit t c ∷ past) legal none calm = by_test (nat_eq t s) refl (outside past legal.0)
    where
      not_it : nat_eq t s ≡ false → (k : ℕ) → Commit t c ≢ Commit s k
      not_it g k e = let one : t ≡ s = cc in true≢false (sym (let yes : nat_eq t s ≡ true = grind (arith, one) in yes) ∙ g)

      by_test : (b : Bool) → nat_eq t s ≡ b → (level script s past ≡ None → commit_due o script past ≢ Some s → own script s past ≡ []) → own script s (Commit t c ∷ past) ≡ []
      by_test true g before = commit_own script s past t c g
      by_test false g before =
          let stays = commit_other script s past t c g in
          stays.own_stays ∙ before (sym stays.level_stays ∙ none) (other_due (Commit t c) past legal.1.0 (not_it g))
  outside (Undone t u ∷ past) legal none calm = by_test (nat_eq t s) refl (outside past legal.0)
    where
      by_test : (b : Bool) → nat_eq t s ≡ b → (level script s past ≡ None → commit_due o script past ≢ Some s → own script s past ≡ []) → own script s (Undone t u ∷ past) ≡ []
      by_test true g before = undone_own script s past t u g
      by_test false g before =
          let stays = undone_other script s past t u g in
          stays.own_stays ∙ before (sym stays.level_stays ∙ none) (other_due (Undone t u) past legal.1.0 (λ c e. cc))
  outside (Did t i r ∷ past) legal none calm = by_test (nat_eq t s) refl (outside past legal.0)
    where
      its_commit : (c : Call) → made (statement script s i) r ≡ Some c → level script s past ≡ None → commit_due o script (Did s i r ∷ past) ≡ Some s
      its_commit c g out = rw (g, out) refl

      by_made : (m : Option Call) → made (statement script s i) r ≡ m → level script s (Did s i r ∷ past) ≡ None → commit_due o script (Did s i r ∷ past) ≢ Some s
          → own script s (Did s i r ∷ past) ≡ []
      by_made (Some c) g out quiet = absurd (quiet (its_commit c g (sym (did_made_level script s i r past c g) ∙ out)))
      by_made None g out quiet = did_outside script s i r past g out

      at_it : (u : ℕ) → u ≡ s → level script s (Did u i r ∷ past) ≡ None → commit_due o script (Did u i r ∷ past) ≢ Some s → own script s (Did u i r ∷ past) ≡ []
      at_it u e = subst (λ v. level script s (Did v i r ∷ past) ≡ None → commit_due o script (Did v i r ∷ past) ≢ Some s → own script s (Did v i r ∷ past) ≡ []) (sym e) (by_made (made (statement script s i) r) refl)

      by_test : (b : Bool) → nat_eq t s ≡ b → (level script s past ≡ None → commit_due o script past ≢ Some s → own script s past ≡ []) → own script s (Did t i r ∷ past) ≡ []
      by_test true g before =
          let one : t ≡ s = grind (arith, g) in
          at_it t one none calm
      by_test false g before =
          let stays = did_other script s past t i r g in
          stays.own_stays ∙ before (sym stays.level_stays ∙ none) (other_due (Did t i r) past legal.1.0 (λ c e. cc))
