-- A view in force shows commits that aren't purged past.
use Rattle.std.proofs.Common.{◌≡◌, ◌≢◌, ℕ, suc, ◌+◌, ◌≤◌, Bool, true, false, true≢false, nat_eq, List, [], ◌∷◌, All, Option, Some, None, is_some, IfSome, refl, sym, ap, subst, ◌∙◌, arith, if◌then◌else◌, ◌||◌}
use Rattle.std.specs.Prelude.{option_and_then}
use Rattle.journal_model.specs.Documents.{Call, look}
use Rattle.journal_model.specs.History.{history, at_commit, shown_in}
use Rattle.journal_model.specs.Journal.{Script, Level, rr, rc, Statement, statement, call, get, size, begin, commit, rollback, Reply, done, inside, restarted, Entry, Start, View, Wait, Did, Commit, Undone, Purged, Audited, Restart, Opening}
use Rattle.journal_model.specs.Part.{is_done, made, opened, level_in, ends, part, own, started, answered, commits_of, purged_of, touches, docs, newest, shown, last_view, view_since_start, view_under, view_of}
use Rattle.journal_model.specs.Locks.{sessions}
use Rattle.journal_model.specs.Held.{is_in}
use Rattle.journal_model.specs.Legal.{IsLegal, Answer, begin_reply, commit_due}
use Rattle.history_model.specs.Laws.{IsRun}
use Rattle.history_model.proofs.OwnLemmas.{level, did_made_level}
use Rattle.history_model.proofs.OutsideLemmas.{answered_as, is_restart, restart_is, other_is, other_due}
use Rattle.history_model.proofs.LockLemmas.{eq_is}
use Rattle.history_model.proofs.HistoryLemmas.{purged_made, reads_at, reads_own}
use Rattle.history_model.proofs.OwnedLemmas.{owned_of}
use Rattle.history_model.proofs.PartLemmas.{asking, reading, did_ended, itself, part_ended, part_grown, part_other}

-- ---- the views of a part

IsAbove : ℕ → Option ℕ → Type 0
IsAbove p v = IfSome v (λ k. p ≤ k)

record Viewed (o : Opening) (script : Script) (s : ℕ) (past : List Entry) : Type 0 where
  empty : level script s past ≡ None → commit_due o script past ≢ Some s → started s past ≡ answered s past → part script s past ≡ []
  one : level script s past ≡ None → commit_due o script past ≢ Some s → last_view (part script s past) ≡ view_since_start (part script s past)
  last : level script s past ≡ Some rr → IfSome (last_view (part script s past)) (λ k. purged_of o past ≤ k)
  outer : level script s past ≡ None → commit_due o script past ≢ Some s → IfSome (last_view (part script s past)) (λ k. purged_of o past ≤ k)
  since : IfSome (view_since_start (part script s past)) (λ k. purged_of o past ≤ k)

-- what is viewed since the statement's start is the last view
since_last : (p : List Entry) (k : ℕ) → view_since_start p ≡ Some k → last_view p ≡ Some k
since_last [] k h = h
since_last (Start t i ∷ p) k h = cc
since_last (Did t i r ∷ p) k h = cc
since_last (View t j ∷ p) k h = h
since_last (Wait t d g ∷ p) k h = since_last p k h
since_last (Commit t c ∷ p) k h = since_last p k h
since_last (Undone t u ∷ p) k h = since_last p k h
since_last (Purged c ∷ p) k h = since_last p k h
since_last (Audited a ∷ p) k h = since_last p k h
since_last (Restart j ∷ p) k h = since_last p k h

since_within : (p : List Entry) (n : ℕ) (v : Option ℕ) → view_since_start p ≡ v → IfSome (last_view p) (λ k. n ≤ k) → IfSome v (λ k. n ≤ k)
since_within p n None h g = tt
since_within p n (Some k) h g = subst (λ x. IfSome x (λ k. n ≤ k)) (since_last p k h) g

module _ (o : Opening) (script : Script) (s : ℕ) where
  -- an entry that ends the part
  ended : (e : Entry) (past : List Entry) → part script s (e ∷ past) ≡ [] → Viewed o script s (e ∷ past)
  ended e past h = record {
    empty = λ a b c. h;
    one = λ a b. rw h refl;
    last = λ a. rw h tt;
    outer = λ a b. rw h tt;
    since = rw h tt;
  }

  -- one that leaves it
  kept : (e : Entry) (past : List Entry) → part script s (e ∷ past) ≡ part script s past → commit_due o script past ≢ Some s
      → (started s (e ∷ past) ≡ started s past) × (answered s (e ∷ past) ≡ answered s past) → purged_of o (e ∷ past) ≡ purged_of o past
      → Viewed o script s past → Viewed o script s (e ∷ past)
  kept e past h quiet counts purges before = record {
    empty = λ a b c. h ∙ before.empty (sym (ap (level_in script s) h) ∙ a) quiet (sym counts.0 ∙ c ∙ counts.1);
    one = λ a b. rw h (before.one (sym (ap (level_in script s) h) ∙ a) quiet);
    last = λ a. rw (h, purges) (before.last (sym (ap (level_in script s) h) ∙ a));
    outer = λ a b. rw (h, purges) (before.outer (sym (ap (level_in script s) h) ∙ a) quiet);
    since = rw (h, purges) before.since;
  }

  -- its own Start
  begun : (i : ℕ) (past : List Entry) → IsLegal o script (Start s i ∷ past) → Viewed o script s past → Viewed o script s (Start s i ∷ past)
  begun i past legal before =
      let h : part script s (Start s i ∷ past) ≡ Start s i ∷ part script s past = part_grown script s (Start s i) past refl (itself s) in
      let quiet : commit_due o script past ≢ Some s = other_due o script s (Start s i) past legal.1.0 (λ c e. cc) in
      let idle : started s past ≡ answered s past = legal.1.1.1 in
      record {
        empty = λ a b c. absurd (busy idle c);
        one = λ a b. rw h (ap last_view (before.empty (sym (ap (level_in script s) h) ∙ a) quiet idle));
        last = λ a. rw h (before.last (sym (ap (level_in script s) h) ∙ a));
        outer = λ a b. rw h (before.outer (sym (ap (level_in script s) h) ∙ a) quiet);
        since = rw h tt;
      }
    where
      busy : started s past ≡ answered s past → started s (Start s i ∷ past) ≡ answered s (Start s i ∷ past) → ⊥
      busy e f = let more : started s past + 1 ≡ answered s past = sym (rw (itself s) refl) ∙ f in omega (arith, e, more)

  -- its own View
  viewed : (k : ℕ) (past : List Entry) → IsLegal o script (View s k ∷ past) → purged_of o past ≤ commits_of o past → Viewed o script s past → Viewed o script s (View s k ∷ past)
  viewed k past legal few before =
      let h : part script s (View s k ∷ past) ≡ View s k ∷ part script s past = part_grown script s (View s k) past refl (itself s) in
      let now : k ≡ commits_of o past = legal.1.1.1 in
      let above : purged_of o past ≤ k = omega (arith, now, few) in
      record {
        empty = λ a b c. absurd (reading o script s past legal.0 legal.1.1.0 c);
        one = λ a b. rw h refl;
        last = λ a. rw h above;
        outer = λ a b. rw h above;
        since = rw h above;
      }

  -- its own Wait
  waited : (d g : ℕ) (past : List Entry) → IsLegal o script (Wait s d g ∷ past) → Viewed o script s past → Viewed o script s (Wait s d g ∷ past)
  waited d g past legal before =
      let h : part script s (Wait s d g ∷ past) ≡ Wait s d g ∷ part script s past = part_grown script s (Wait s d g) past refl (itself s) in
      let quiet : commit_due o script past ≢ Some s = other_due o script s (Wait s d g) past legal.1.0 (λ c e. cc) in
      record {
        empty = λ a b c. absurd (asking o script s past d legal.1.1.0 c);
        one = λ a b. rw h (before.one (sym (ap (level_in script s) h) ∙ a) quiet);
        last = λ a. rw h (before.last (sym (ap (level_in script s) h) ∙ a));
        outer = λ a b. rw h (before.outer (sym (ap (level_in script s) h) ∙ a) quiet);
        since = rw h before.since;
      }

  -- a purge
  purged_past : (n : ℕ) (past : List Entry) → IsLegal o script (Purged n ∷ past) → IfSome (view_of script s past) (λ k. n ≤ k) → Viewed o script s past → Viewed o script s (Purged n ∷ past)
  purged_past n past legal below before =
      let h : part script s (Purged n ∷ past) ≡ part script s past = part_other script s (Purged n) past refl refl in
      let quiet : commit_due o script past ≢ Some s = other_due o script s (Purged n) past legal.1.0 (λ c e. cc) in
      record {
        empty = λ a b c. h ∙ before.empty (sym (ap (level_in script s) h) ∙ a) quiet c;
        one = λ a b. rw h (before.one (sym (ap (level_in script s) h) ∙ a) quiet);
        last = λ a. rw h (at_last (sym (ap (level_in script s) h) ∙ a) below);
        outer = λ a b. rw h (subst (λ x. IfSome x (λ k. n ≤ k)) (sym (before.one (sym (ap (level_in script s) h) ∙ a) quiet)) (at_since (sym (ap (level_in script s) h) ∙ a) below));
        since = rw h (by_level (level script s past) refl below);
      }
    where
      at_last : level script s past ≡ Some rr → IfSome (view_of script s past) (λ k. n ≤ k) → IfSome (last_view (part script s past)) (λ k. n ≤ k)
      at_last e f = subst (λ l. IfSome (view_under l (part script s past)) (λ k. n ≤ k)) e f

      at_since : level script s past ≡ None → IfSome (view_of script s past) (λ k. n ≤ k) → IfSome (view_since_start (part script s past)) (λ k. n ≤ k)
      at_since e f = subst (λ l. IfSome (view_under l (part script s past)) (λ k. n ≤ k)) e f

      by_level : (l : Option Level) → level script s past ≡ l → IfSome (view_of script s past) (λ k. n ≤ k) → IfSome (view_since_start (part script s past)) (λ k. n ≤ k)
      by_level None e f = at_since e f
      by_level (Some rc) e f = subst (λ l. IfSome (view_under l (part script s past)) (λ k. n ≤ k)) e f
      by_level (Some rr) e f = since_within (part script s past) n (view_since_start (part script s past)) refl (at_last e f)

  -- its own answer
  module _ (i : ℕ) (r : Reply) (past : List Entry) (legal : IsLegal o script (Did s i r ∷ past)) (before : Viewed o script s past) where
    quiet_before : commit_due o script past ≢ Some s
    quiet_before = other_due o script s (Did s i r) past legal.1.0 (λ c e. cc)

    -- a transaction is begun outside one
    begins_outside : (st : Option Statement) (l : Level) → opened st r ≡ Some l → IfSome st (λ x. Answer o script s x r past) → level script s past ≡ None
    begins_outside None l h g = cc
    begins_outside (Some (call c)) l h g = cc
    begins_outside (Some (get d)) l h g = cc
    begins_outside (Some (size d)) l h g = cc
    begins_outside (Some commit) l h g = cc
    begins_outside (Some rollback) l h g = cc
    begins_outside (Some (begin m)) l h g = by_reply r h g
      where
        by_level : (x : Option Level) → done ≡ begin_reply o script x → x ≡ None
        by_level None e = refl
        by_level (Some y) e = let wrong : done ≡ inside = e in cc

        by_reply : (q : Reply) → (if is_done q then Some m else None) ≡ Some l → Answer o script s (begin m) q past → level script s past ≡ None
        by_reply done e f = by_level (level script s past) f
        by_reply q e f = cc

    last_above : (l : Option Level) → opened (statement script s i) r ≡ l → (if is_some l then l else level script s past) ≡ Some rr
        → IfSome (last_view (part script s past)) (λ k. purged_of o past ≤ k)
    last_above None h g = before.last g
    last_above (Some l) h g = by_restart (is_restart r) refl
      where
        not_opened : (st : Option Statement) → opened st r ≡ Some l → is_restart r ≡ true → ⊥
        not_opened st e f = no_level (ap (opened st) (sym (restart_is r f)) ∙ e)
          where
            no_level : opened st restarted ≡ Some l → ⊥
            no_level x = by_st st x
              where
                by_st : (y : Option Statement) → opened y restarted ≡ Some l → ⊥
                by_st None x = cc
                by_st (Some (call c)) x = cc
                by_st (Some (get d)) x = cc
                by_st (Some (size d)) x = cc
                by_st (Some (begin m)) x = cc
                by_st (Some commit) x = cc
                by_st (Some rollback) x = cc

        by_restart : (b : Bool) → is_restart r ≡ b → IfSome (last_view (part script s past)) (λ k. purged_of o past ≤ k)
        by_restart true e = absurd (not_opened (statement script s i) h e)
        by_restart false e =
            before.outer (begins_outside (statement script s i) l h (answered_as o script s i r past (other_is r e) legal.1.1.1)) quiet_before

    did_viewed : Viewed o script s (Did s i r ∷ past)
    did_viewed = by_end (ends script s (part script s past) (Did s i r)) refl
      where
        out_empty : (m : Option Call) → made (statement script s i) r ≡ m → level script s (Did s i r ∷ past) ≡ None → commit_due o script (Did s i r ∷ past) ≢ Some s
            → part script s (Did s i r ∷ past) ≡ []
        out_empty None e out calm = did_ended script s i r past e out
        out_empty (Some c) e out calm = absurd (calm (rw (e, sym (did_made_level script s i r past c e) ∙ out) refl))

        by_end : (b : Bool) → ends script s (part script s past) (Did s i r) ≡ b → Viewed o script s (Did s i r ∷ past)
        by_end true g = ended (Did s i r) past (part_ended script s (Did s i r) past g)
        by_end false g =
            let h : part script s (Did s i r ∷ past) ≡ Did s i r ∷ part script s past = part_grown script s (Did s i r) past g (itself s) in
            record {
              empty = λ a b c. out_empty (made (statement script s i) r) refl a b;
              one = λ a b. rw (out_empty (made (statement script s i) r) refl a b) refl;
              last = λ a. rw h (last_above (opened (statement script s i) r) refl (sym (ap (level_in script s) h) ∙ a));
              outer = λ a b. rw (out_empty (made (statement script s i) r) refl a b) tt;
              since = rw h tt;
            }

-- ---- all entries

of_all : (P : ℕ → Type 0) (xs : List ℕ) (s : ℕ) → is_in s xs ≡ true → All P xs → P s
of_all P [] s h all = absurd (true≢false (sym h))
of_all P (x ∷ xs) s h all = by_test (nat_eq x s) refl h (λ e. of_all P xs s e (λ k d l. all (suc k) d (omega (arith, l))))
  where
    by_test : (b : Bool) → nat_eq x s ≡ b → (b || is_in s xs) ≡ true → (is_in s xs ≡ true → P s) → P s
    by_test true e f rest = subst P (eq_is x s e) (all 0 x (omega arith))
    by_test false e f rest = rest f

module _ (o : Opening) (script : Script) (run : IsRun o script) (s : ℕ) (numbered : is_in s sessions ≡ true) where
  few : (past : List Entry) → IsLegal o script past → purged_of o past ≤ commits_of o past
  few past legal = purged_made o script run.numbered run.falling run.made past legal

  other_counts : (t : ℕ) (n : ℕ) → nat_eq t s ≡ false → (if nat_eq t s then n + 1 else n) ≡ n
  other_counts t n h = rw h refl

  is_viewed : (past : List Entry) → IsLegal o script past → Viewed o script s past
  is_viewed [] legal = record { empty = λ a b c. refl; one = λ a b. refl; last = λ a. tt; outer = λ a b. tt; since = tt }
  is_viewed (Start t i ∷ past) legal = by_test (nat_eq t s) refl (is_viewed past legal.0)
    where
      by_test : (b : Bool) → nat_eq t s ≡ b → Viewed o script s past → Viewed o script s (Start t i ∷ past)
      by_test true e before = let one : t ≡ s = eq_is t s e in subst (λ x. Viewed o script s (Start x i ∷ past)) (sym one) (begun o script s i past (subst (λ x. IsLegal o script (Start x i ∷ past)) one legal) before)
      by_test false e before =
          kept o script s (Start t i) past (part_other script s (Start t i) past refl e) (other_due o script s (Start t i) past legal.1.0 (λ c f. cc))
          (other_counts t (started s past) e, refl) refl before
  is_viewed (View t k ∷ past) legal = by_test (nat_eq t s) refl (is_viewed past legal.0)
    where
      by_test : (b : Bool) → nat_eq t s ≡ b → Viewed o script s past → Viewed o script s (View t k ∷ past)
      by_test true e before =
          let one : t ≡ s = eq_is t s e in
          subst (λ x. Viewed o script s (View x k ∷ past)) (sym one) (viewed o script s k past (subst (λ x. IsLegal o script (View x k ∷ past)) one legal) (few past legal.0) before)
      by_test false e before =
          kept o script s (View t k) past (part_other script s (View t k) past refl e) (other_due o script s (View t k) past legal.1.0 (λ c f. cc)) (refl, refl) refl before
  is_viewed (Wait t d g ∷ past) legal = by_test (nat_eq t s) refl (is_viewed past legal.0)
    where
      by_test : (b : Bool) → nat_eq t s ≡ b → Viewed o script s past → Viewed o script s (Wait t d g ∷ past)
      by_test true e before = let one : t ≡ s = eq_is t s e in subst (λ x. Viewed o script s (Wait x d g ∷ past)) (sym one) (waited o script s d g past (subst (λ x. IsLegal o script (Wait x d g ∷ past)) one legal) before)
      by_test false e before =
          kept o script s (Wait t d g) past (part_other script s (Wait t d g) past refl e) (other_due o script s (Wait t d g) past legal.1.0 (λ c f. cc)) (refl, refl) refl before
  is_viewed (Did t i r ∷ past) legal = by_test (nat_eq t s) refl (is_viewed past legal.0)
    where
      by_test : (b : Bool) → nat_eq t s ≡ b → Viewed o script s past → Viewed o script s (Did t i r ∷ past)
      by_test true e before = let one : t ≡ s = eq_is t s e in subst (λ x. Viewed o script s (Did x i r ∷ past)) (sym one) (did_viewed o script s i r past (subst (λ x. IsLegal o script (Did x i r ∷ past)) one legal) before)
      by_test false e before =
          kept o script s (Did t i r) past (part_other script s (Did t i r) past (rw e refl) e) (other_due o script s (Did t i r) past legal.1.0 (λ c f. cc))
          (refl, other_counts t (answered s past) e) refl before
  is_viewed (Commit t c ∷ past) legal = by_test (nat_eq t s) refl (is_viewed past legal.0)
    where
      not_it : nat_eq t s ≡ false → (k : ℕ) → Commit t c ≢ Commit s k
      not_it g k e = let one : t ≡ s = cc in true≢false (sym (let yes : nat_eq t s ≡ true = grind (arith, one) in yes) ∙ g)

      by_test : (b : Bool) → nat_eq t s ≡ b → Viewed o script s past → Viewed o script s (Commit t c ∷ past)
      by_test true e before = ended o script s (Commit t c) past (part_ended script s (Commit t c) past e)
      by_test false e before =
          kept o script s (Commit t c) past (part_other script s (Commit t c) past e e) (other_due o script s (Commit t c) past legal.1.0 (not_it e)) (refl, refl) refl before
  is_viewed (Undone t u ∷ past) legal = by_test (nat_eq t s) refl (is_viewed past legal.0)
    where
      by_test : (b : Bool) → nat_eq t s ≡ b → Viewed o script s past → Viewed o script s (Undone t u ∷ past)
      by_test true e before = ended o script s (Undone t u) past (part_ended script s (Undone t u) past e)
      by_test false e before =
          kept o script s (Undone t u) past (part_other script s (Undone t u) past e e) (other_due o script s (Undone t u) past legal.1.0 (λ c f. cc)) (refl, refl) refl before
  is_viewed (Restart k ∷ past) legal = ended o script s (Restart k) past (part_ended script s (Restart k) past refl)
  is_viewed (Audited a ∷ past) legal =
      kept o script s (Audited a) past (part_other script s (Audited a) past refl refl) (other_due o script s (Audited a) past legal.1.0 (λ c f. cc)) (refl, refl) refl (is_viewed past legal.0)
  is_viewed (Purged n ∷ past) legal =
      purged_past o script s n past legal (of_all (λ x. IfSome (view_of script x past) (λ k. n ≤ k)) sessions s numbered legal.1.1.2) (is_viewed past legal.0)

  -- a view in force is not purged past
  pub view_above : (past : List Entry) (k : ℕ) → IsLegal o script past → view_of script s past ≡ Some k → purged_of o past ≤ k
  view_above past k legal h = by_level (level script s past) refl (is_viewed past legal)
    where
      by_level : (l : Option Level) → level script s past ≡ l → Viewed o script s past → purged_of o past ≤ k
      by_level None e v = subst (λ x. IfSome x (λ j. purged_of o past ≤ j)) (sym (ap (λ x. view_under x (part script s past)) e) ∙ h) v.since
      by_level (Some rc) e v = subst (λ x. IfSome x (λ j. purged_of o past ≤ j)) (sym (ap (λ x. view_under x (part script s past)) e) ∙ h) v.since
      by_level (Some rr) e v = subst (λ x. IfSome x (λ j. purged_of o past ≤ j)) (sym (ap (λ x. view_under x (part script s past)) e) ∙ h) (v.last e)

  -- what a read shows
  pub shown_so : (past : List Entry) (d : ℕ) → IsLegal o script past
      → shown o script s d past ≡ shown_in s (view_of script s past) (history o script past d)
  shown_so past d legal = by_touch (touches d (own script s past)) refl
    where
      at_view : (v : Option ℕ) → view_of script s past ≡ v → option_and_then (λ k. look (docs o script past k) d) v ≡ option_and_then (λ k. at_commit k (history o script past d)) v
      at_view None e = refl
      at_view (Some k) e = reads_at o script past run legal k d (view_above past k legal e)

      by_touch : (b : Bool) → touches d (own script s past) ≡ b
          → (if b then look (newest o script s past) d else option_and_then (λ k. look (docs o script past k) d) (view_of script s past)) ≡ shown_in s (view_of script s past) (history o script past d)
      by_touch true e = rw (owned_of o script past run.numbered legal d s ∙ e) (reads_own o script past run legal s d)
      by_touch false e = rw (owned_of o script past run.numbered legal d s ∙ e) (at_view (view_of script s past) refl)
