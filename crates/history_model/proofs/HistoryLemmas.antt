-- Documents at a commit, and the newest of a session, read off the histories.
use Rattle.std.proofs.Common.{◌≡◌, ℕ, ◌+◌, ◌≤◌, Bool, true, false, true≢false, not, nat_eq, nat_lt, cond, List, [], ◌∷◌, ◌++◌, map, Option, Some, None, refl, sym, ap, subst, ◌∙◌, arith, if◌then◌else◌}
use Rattle.std.specs.List.{filter}
use Rattle.journal_model.specs.Documents.{Call, call_doc, look, Kept}
use Rattle.journal_model.specs.Journal.{Script, statement, Reply, Entry, Start, View, Wait, Did, Commit, Undone, Purged, Audited, Restart, Undoer, Opening}
use Rattle.journal_model.specs.Part.{made, own, touches, commits_of, purged_of, docs, newest}
use Rattle.journal_model.specs.Legal.{IsLegal}
use Rattle.journal_model.specs.History.{Owner, Made, left_by, is_sessions, is_committed, is_among, is_newest_for, seen_in, at_commit, newest_in, renamed, owned_anew, history}
use Rattle.history_model.specs.Laws.{IsNumbered, AreFalling, IsRun}
use Rattle.history_model.proofs.DocLemmas.{left_by_all, all_looked, left_by_none, left_by_more}
use Rattle.history_model.proofs.OwnLemmas.{start_stays, view_stays, wait_stays, purged_stays, audited_stays, commit_other, undone_other, did_other, commit_own, undone_own, restart_own, did_made}
use Rattle.history_model.proofs.LockLemmas.{eq_is}
use Rattle.history_model.proofs.OwnerLemmas.{one_owner}
use Rattle.history_model.specs.Sound.{OfOwners}
use Rattle.history_model.proofs.SeenLemmas.{IsUpTo, IsNot, seen_same, all_owners, map_owners, not_has, seen_renamed, none_renamed, seen_without, without_owners, seen_above, seen_at_opening}
use Rattle.history_model.proofs.NumberLemmas.{up_to, docs_above}
use Rattle.history_model.proofs.OwnedLemmas.{IsOwned, is_owned, own_of, IsCommitted, committed_left, committed_isnt}
use Rattle.history_model.proofs.TestLemmas.{among_more, among_new, among_newest, among_renamed, newest_alone, newest_other, newest_renamed, open_among, out_among, out_unseen, pair_owners}

-- ---- the laws

pub record IsRead (o : Opening) (script : Script) (past : List Entry) (d : ℕ) : Type 0 where
  pub behind : (k : ℕ) → purged_of o past ≤ k → look (docs o script past k) d ≡ at_commit k (history o script past d)
  pub now : (s : ℕ) → left_by_all d (own script s past) (look (docs o script past (commits_of o past)) d) ≡ newest_in s (history o script past d)

module _ (o : Opening) (script : Script) (numbered : IsNumbered script) (falling : AreFalling o.purged o.commits o.changes) (few : o.purged ≤ o.commits) where
  -- purged commits are made
  pub purged_made : (past : List Entry) → IsLegal o script past → purged_of o past ≤ commits_of o past
  purged_made [] legal = few
  purged_made (Start t i ∷ past) legal = purged_made past legal.0
  purged_made (View t j ∷ past) legal = purged_made past legal.0
  purged_made (Wait t e g ∷ past) legal = purged_made past legal.0
  purged_made (Did t i r ∷ past) legal = purged_made past legal.0
  purged_made (Undone t u ∷ past) legal = purged_made past legal.0
  purged_made (Audited a ∷ past) legal = purged_made past legal.0
  purged_made (Restart j ∷ past) legal = purged_made past legal.0
  purged_made (Purged c ∷ past) legal = legal.1.1.1
  purged_made (Commit t n ∷ past) legal =
      let next : n ≡ commits_of o past + 1 = legal.1.1.0 in
      let before : purged_of o past ≤ commits_of o past = purged_made past legal.0 in
      omega (arith, next, before)

  module _ (past : List Entry) (d : ℕ) (legal : IsLegal o script past) (before : IsRead o script past d) where
    -- an entry that leaves documents and histories
    as_before : (e : Entry) → history o script (e ∷ past) d ≡ history o script past d → ((k : ℕ) → docs o script (e ∷ past) k ≡ docs o script past k)
        → commits_of o (e ∷ past) ≡ commits_of o past → purged_of o (e ∷ past) ≡ purged_of o past
        → ((s : ℕ) → own script s (e ∷ past) ≡ own script s past) → IsRead o script (e ∷ past) d
    as_before e keeps same_docs count purges owns = record {
      behind = λ k h. ap (λ x. look x d) (same_docs k) ∙ before.behind k (subst (λ p. p ≤ k) purges h) ∙ ap (at_commit k) (sym keeps);
      now = λ s. ap (λ cs. left_by_all d cs (look (docs o script (e ∷ past) (commits_of o (e ∷ past))) d)) (owns s)
          ∙ ap (λ x. left_by_all d (own script s past) (look x d)) (same_docs (commits_of o (e ∷ past)) ∙ ap (docs o script past) count)
          ∙ before.now s ∙ ap (newest_in s) (sym keeps);
    }

    -- ---- an answer

    module _ (t i : ℕ) (r : Reply) (it : IsLegal o script (Did t i r ∷ past)) where
      did_read : IsRead o script (Did t i r ∷ past) d
      did_read = by_made (made (statement script t i) r) refl
        where
          own_by : (c : Call) (s : ℕ) (b : Bool) → made (statement script t i) r ≡ Some c → nat_eq t s ≡ b
              → own script s (Did t i r ∷ past) ≡ (if b then own script s past ++ c ∷ [] else own script s past)
          own_by c s true e f = let one : t ≡ s = eq_is t s f in subst (λ x. own script x (Did t i r ∷ past) ≡ own script x past ++ c ∷ []) one (did_made script t i r past c e)
          own_by c s false e f = (did_other script s past t i r f).own_stays

          now_docs : Option Kept
          now_docs = look (docs o script past (commits_of o past)) d

          on_it : (c : Call) (s : ℕ) (b : Bool) → nat_eq t s ≡ b → nat_eq (call_doc c) d ≡ true
              → left_by_all d (if b then own script s past ++ c ∷ [] else own script s past) (look (docs o script past (commits_of o past)) d)
              ≡ (if b then left_by c (newest_in t (history o script past d)) else newest_in s (history o script past d))
          on_it c s true e f =
              let one : t ≡ s = eq_is t s e in
              left_by_more d (own script s past) c (look (docs o script past (commits_of o past)) d) ∙ rw f (ap (left_by c) (before.now s ∙ ap (λ x. newest_in x (history o script past d)) (sym one)))
          on_it c s false e f = before.now s

          on_other : (c : Call) (s : ℕ) (b : Bool) → nat_eq t s ≡ b → nat_eq (call_doc c) d ≡ false
              → left_by_all d (if b then own script s past ++ c ∷ [] else own script s past) (look (docs o script past (commits_of o past)) d) ≡ newest_in s (history o script past d)
          on_other c s true e f = left_by_more d (own script s past) c (look (docs o script past (commits_of o past)) d) ∙ rw f (before.now s)
          on_other c s false e f = before.now s

          by_doc : (c : Call) (b : Bool) → made (statement script t i) r ≡ Some c → nat_eq (call_doc c) d ≡ b → IsRead o script (Did t i r ∷ past) d
          by_doc c true e f = record {
            behind = λ k h. rw (e, f) (before.behind k h);
            now = λ s. rw (own_by c s (nat_eq t s) e refl) (rw (e, f) (on_it c s (nat_eq t s) refl f));
          }
          by_doc c false e f = record {
            behind = λ k h. rw (e, f) (before.behind k h);
            now = λ s. rw (own_by c s (nat_eq t s) e refl) (rw (e, f) (on_other c s (nat_eq t s) refl f));
          }

          by_made : (m : Option Call) → made (statement script t i) r ≡ m → IsRead o script (Did t i r ∷ past) d
          by_made None e = as_before (Did t i r) (rw e refl) (λ k. refl) refl refl (λ s. own_of o script numbered t i r past d it (is_owned o script numbered past d legal) s e)
          by_made (Some c) e = by_doc c (nat_eq (call_doc c) d) e refl

    -- ---- a commit

    module _ (t n : ℕ) (next : n ≡ commits_of o past + 1) where
      -- the documents behind it
      new_docs : (k : ℕ) → n ≤ k → look (docs o script (Commit t n ∷ past) k) d ≡ newest_in t (history o script past d)
      new_docs k h =
          let last : nat_lt k n ≡ false = grind (arith, h) in
          rw last (all_looked (own script t past) (docs o script past k) d
          ∙ ap (λ x. left_by_all d (own script t past) (look x d)) (docs_above o script past k (commits_of o past) legal (omega (arith, next, h)) (omega arith))
          ∙ before.now t)

      own_left : (s : ℕ) (b : Bool) → nat_eq t s ≡ b
          → left_by_all d (own script s (Commit t n ∷ past)) (newest_in t (history o script past d)) ≡ newest_in s (history o script (Commit t n ∷ past) d)
      unfolding left_by_all
      own_left s true e =
          let one : t ≡ s = eq_is t s e in
          rw (commit_own script s past t n e) (sym (
          seen_renamed (is_newest_for s) t n (history o script past d).changes (history o script past d).base
          ∙ seen_same (λ w. is_newest_for s (renamed t n w)) (is_newest_for t) (history o script past d).changes (history o script past d).base
          (all_owners (λ w. is_newest_for s (renamed t n w) ≡ is_newest_for t w) (λ w. subst (λ x. is_newest_for x (renamed t n w) ≡ is_newest_for t w) one (newest_renamed t n w)) (history o script past d).changes)
          ))
      own_left s false e = ap (λ cs. left_by_all d cs (newest_in t (history o script past d))) (commit_other script s past t n e).own_stays ∙ by_touch (touches d (own script s past)) refl
        where
          owned : IsOwned o script past d
          owned = is_owned o script numbered past d legal

          not_both : (b : Bool) → touches d (own script t past) ≡ b → touches d (own script s past) ≡ true → b ≡ false
          not_both true g h = let one : t ≡ s = one_owner o script past numbered legal d t s g h in absurd (true≢false (sym (let yes : nat_eq t s ≡ true = grind (arith, one) in yes) ∙ e))
          not_both false g h = refl

          by_touch : (b : Bool) → touches d (own script s past) ≡ b
              → left_by_all d (own script s past) (newest_in t (history o script past d)) ≡ newest_in s (history o script (Commit t n ∷ past) d)
          by_touch true h =
              let none : touches d (own script t past) ≡ false = not_both (touches d (own script t past)) refl h in
              let kept : map (owned_anew t n) (history o script past d).changes ≡ (history o script past d).changes =
              none_renamed t n (history o script past d).changes (not_has t (history o script past d).changes (owned.owned t ∙ none)) in
              ap (left_by_all d (own script s past)) (sym (before.now t) ∙ left_by_none d (own script t past) (look (docs o script past (commits_of o past)) d) none)
              ∙ before.now s ∙ ap (λ ms. seen_in (is_newest_for s) ms (history o script past d).base) (sym kept)
          by_touch false h =
              left_by_none d (own script s past) (newest_in t (history o script past d)) h
              ∙ sym (seen_renamed (is_newest_for s) t n (history o script past d).changes (history o script past d).base
              ∙ seen_same (λ w. is_newest_for s (renamed t n w)) (is_newest_for t) (history o script past d).changes (history o script past d).base
              (map_owners (IsNot s) (λ w. is_newest_for s (renamed t n w) ≡ is_newest_for t w) (λ w g. newest_other s t n w g) (history o script past d).changes
              (not_has s (history o script past d).changes (owned.owned s ∙ h))))

      commit_read : IsRead o script (Commit t n ∷ past) d
      commit_read = record { behind = λ k h. by_number k (nat_lt k n) refl h; now = λ s. ap (left_by_all d (own script s (Commit t n ∷ past))) (new_docs n (omega arith)) ∙ own_left s (nat_eq t s) refl }
        where
          by_number : (k : ℕ) (b : Bool) → nat_lt k n ≡ b → purged_of o past ≤ k → look (docs o script (Commit t n ∷ past) k) d ≡ at_commit k (history o script (Commit t n ∷ past) d)
          by_number k true e h =
              rw e (before.behind k h ∙ sym (seen_renamed (is_among k) t n (history o script past d).changes (history o script past d).base
              ∙ seen_same (λ w. is_among k (renamed t n w)) (is_among k) (history o script past d).changes (history o script past d).base
              (all_owners (λ w. is_among k (renamed t n w) ≡ is_among k w) (among_renamed k t n e) (history o script past d).changes)))
          by_number k false e h =
              let later : n ≤ k = grind (arith, e) in
              new_docs k later ∙ sym (seen_renamed (is_among k) t n (history o script past d).changes (history o script past d).base
              ∙ seen_same (λ w. is_among k (renamed t n w)) (is_newest_for t) (history o script past d).changes (history o script past d).base
              (map_owners (IsUpTo (commits_of o past)) (λ w. is_among k (renamed t n w) ≡ is_newest_for t w) (λ w g. among_new k t n (commits_of o past) later (omega (arith, next)) w g) (history o script past d).changes
              (up_to o script falling past d legal)))

    -- ---- changes undone

    -- without all that a session may see beside the commits
    now_committed : (s : ℕ) (ms : List Made) → OfOwners (IsUpTo (commits_of o past)) ms → OfOwners (IsNot s) ms
        → seen_in (is_newest_for s) ms (history o script past d).base ≡ seen_in (is_among (commits_of o past)) ms (history o script past d).base
    now_committed s ms up gone =
        seen_same (is_newest_for s) (is_among (commits_of o past)) ms (history o script past d).base
        (map_owners (λ w. IsUpTo (commits_of o past) w × IsNot s w) (λ w. is_newest_for s w ≡ is_among (commits_of o past) w) (λ w h. newest_alone s (commits_of o past) w h.0 h.1) ms
        (pair_owners (IsUpTo (commits_of o past)) (IsNot s) ms up gone))

    gone : (t : ℕ) (ms : List Made) → OfOwners (IsNot t) (filter (λ m. not (is_sessions t m.owner)) ms)
    unfolding OfOwners
    gone t [] = tt
    gone t (m ∷ ms) = by_test (is_sessions t m.owner) refl (gone t ms)
      where
        by_test : (x : Bool) → is_sessions t m.owner ≡ x → OfOwners (IsNot t) (filter (λ m. not (is_sessions t m.owner)) ms)
            → OfOwners (IsNot t) (cond (not x) (m ∷ filter (λ m. not (is_sessions t m.owner)) ms) (filter (λ m. not (is_sessions t m.owner)) ms))
        by_test true e rest = rest
        by_test false e rest = (e, rest)

    last_docs : look (docs o script past (commits_of o past)) d ≡ seen_in (is_among (commits_of o past)) (history o script past d).changes (history o script past d).base
    last_docs = before.behind (commits_of o past) (purged_made past legal)

    among_without : (k : ℕ) (out : Owner → Bool) → ((w : Owner) → out w ≡ true → is_among k w ≡ false)
        → seen_in (is_among k) (filter (λ m. not (out m.owner)) (history o script past d).changes) (history o script past d).base
        ≡ seen_in (is_among k) (history o script past d).changes (history o script past d).base
    among_without k out h =
        seen_without (is_among k) out (history o script past d).changes (history o script past d).base
        (all_owners (λ w. out w ≡ true → is_among k w ≡ false) h (history o script past d).changes)

    undone_read : (t : ℕ) (u : Undoer) → IsRead o script (Undone t u ∷ past) d
    unfolding left_by_all
    undone_read t u = record { behind = λ k h. before.behind k h ∙ sym (among_without k (is_sessions t) (out_among t k)); now = λ s. by_test s (nat_eq t s) refl }
      where
        by_test : (s : ℕ) (b : Bool) → nat_eq t s ≡ b → left_by_all d (own script s (Undone t u ∷ past)) (look (docs o script past (commits_of o past)) d) ≡ newest_in s (history o script (Undone t u ∷ past) d)
        by_test s true e =
            let one : t ≡ s = eq_is t s e in
            rw (undone_own script s past t u e) (last_docs ∙ sym (among_without (commits_of o past) (is_sessions t) (out_among t (commits_of o past)))
            ∙ sym (now_committed s (filter (λ m. not (is_sessions t m.owner)) (history o script past d).changes)
            (without_owners (IsUpTo (commits_of o past)) (is_sessions t) (history o script past d).changes (up_to o script falling past d legal))
            (subst (λ x. OfOwners (IsNot x) (filter (λ m. not (is_sessions t m.owner)) (history o script past d).changes)) one (gone t (history o script past d).changes))))
        by_test s false e =
            ap (λ cs. left_by_all d cs (look (docs o script past (commits_of o past)) d)) (undone_other script s past t u e).own_stays
            ∙ before.now s ∙ sym (seen_without (is_newest_for s) (is_sessions t) (history o script past d).changes (history o script past d).base
            (all_owners (λ w. is_sessions t w ≡ true → is_newest_for s w ≡ false) (out_unseen s t e) (history o script past d).changes))

    restart_read : (k : ℕ) → IsRead o script (Restart k ∷ past) d
    unfolding left_by_all
    restart_read j = record { behind = λ k h. before.behind k h ∙ sym (among_without k (λ w. not (is_committed w)) (open_among k)); now = λ s. at_session s }
      where
        left : List Made
        left = filter (λ m. not (not (is_committed m.owner))) (history o script past d).changes

        at_session : (s : ℕ) → left_by_all d (own script s (Restart j ∷ past)) (look (docs o script past (commits_of o past)) d) ≡ newest_in s (history o script (Restart j ∷ past) d)
        at_session s =
            rw (restart_own script s past j) (last_docs ∙ sym (among_without (commits_of o past) (λ w. not (is_committed w)) (open_among (commits_of o past)))
            ∙ sym (now_committed s (filter (λ m. not (not (is_committed m.owner))) (history o script past d).changes)
            (without_owners (IsUpTo (commits_of o past)) (λ w. not (is_committed w)) (history o script past d).changes (up_to o script falling past d legal))
            (map_owners IsCommitted (IsNot s) (committed_isnt s) (filter (λ m. not (not (is_committed m.owner))) (history o script past d).changes) (committed_left (history o script past d).changes))))

    purged_read : (n : ℕ) → n ≡ purged_of o past + 1 → IsRead o script (Purged n ∷ past) d
    purged_read n next = record {
      behind = λ k h. before.behind k (omega (arith, next, h)) ∙ sym (seen_above (is_among k) n (history o script past d).changes (history o script past d).base (among_more n k h));
      now = λ s. ap (λ cs. left_by_all d cs (look (docs o script past (commits_of o past)) d)) (purged_stays script s past n).own_stays
          ∙ before.now s ∙ sym (seen_above (is_newest_for s) n (history o script past d).changes (history o script past d).base (among_newest s n));
    }

  first_read : (d : ℕ) → IsRead o script [] d
  unfolding left_by_all
  first_read d = record {
    behind = λ k h. sym (seen_at_opening (is_among k) d (look o.documents d) o.changes);
    now = λ s. sym (seen_at_opening (is_newest_for s) d (look o.documents d) o.changes);
  }

  pub is_read : (past : List Entry) (d : ℕ) → IsLegal o script past → IsRead o script past d
  is_read [] d legal = first_read d
  is_read (Start t i ∷ past) d legal =
      as_before past d legal.0 (is_read past d legal.0) (Start t i) refl (λ k. refl) refl refl (λ s. (start_stays script s past t i).own_stays)
  is_read (View t j ∷ past) d legal =
      as_before past d legal.0 (is_read past d legal.0) (View t j) refl (λ k. refl) refl refl (λ s. (view_stays script s past t j).own_stays)
  is_read (Wait t e g ∷ past) d legal =
      as_before past d legal.0 (is_read past d legal.0) (Wait t e g) refl (λ k. refl) refl refl (λ s. (wait_stays script s past t e g).own_stays)
  is_read (Audited a ∷ past) d legal =
      as_before past d legal.0 (is_read past d legal.0) (Audited a) refl (λ k. refl) refl refl (λ s. (audited_stays script s past a).own_stays)
  is_read (Did t i r ∷ past) d legal = did_read past d legal.0 (is_read past d legal.0) t i r legal
  is_read (Commit t n ∷ past) d legal = commit_read past d legal.0 (is_read past d legal.0) t n legal.1.1.0
  is_read (Undone t u ∷ past) d legal = undone_read past d legal.0 (is_read past d legal.0) t u
  is_read (Restart j ∷ past) d legal = restart_read past d legal.0 (is_read past d legal.0) j
  is_read (Purged n ∷ past) d legal = purged_read past d legal.0 (is_read past d legal.0) n legal.1.1.0

  -- ---- the laws in the journal's own words

  pub behind_commits : (past : List Entry) (k d : ℕ) → IsLegal o script past → purged_of o past ≤ k → look (docs o script past k) d ≡ at_commit k (history o script past d)
  behind_commits past k d legal h = (is_read past d legal).behind k h

  pub newest_of : (past : List Entry) (s d : ℕ) → IsLegal o script past → look (newest o script s past) d ≡ newest_in s (history o script past d)
  newest_of past s d legal = all_looked (own script s past) (docs o script past (commits_of o past)) d ∙ (is_read past d legal).now s

module _ (o : Opening) (script : Script) (past : List Entry) (run : IsRun o script) (legal : IsLegal o script past) where
  -- documents at a commit that is not purged past
  pub reads_at : (k d : ℕ) → purged_of o past ≤ k → look (docs o script past k) d ≡ at_commit k (history o script past d)
  reads_at k d h = behind_commits o script run.numbered run.falling run.made past k d legal h

  -- the newest document of a session
  pub reads_own : (s d : ℕ) → look (newest o script s past) d ≡ newest_in s (history o script past d)
  reads_own s d = newest_of o script run.numbered run.falling run.made past s d legal
