-- That the tests tell a legal journal.
use Rattle.std.proofs.Common.{◌≡◌, ℕ, ◌+◌, ◌-◌, ◌==◌, ◌&&◌, if◌then◌else◌, true, false, true≢false, length, reverse, List, [], ◌∷◌, Option, Some, None, IfSome, IsSome, is_some, Decides, refl, sym, ap, ◌∙◌}
use Rattle.std.proofs.lemmas.Bool.Decides.{Decides-eqb, Decides-ltb}
use Rattle.std.proofs.lemmas.Slice.Eq.{bytes_eq-Decides}
use Rattle.journal_model.specs.Documents.{Call, call_doc, look, Kept}
use Rattle.journal_model.specs.Journal.{Level, Statement, call, get, size, begin, commit, rollback, Script, statements, statement, Reply, deadlock, missing, exists, same, deep, large, no_room, full, part, done, inside, doc, sized, absent, restarted, memory, Undoer, by_rollback, by_deadlock, by_end, Who, session, purging, Audit, report, busy, Entry, Start, View, Wait, Did, Commit, Undone, Purged, Audited, Restart, Opening}
use Rattle.journal_model.specs.Part.{is_ok_reply, level_in, part as part_of, own, started, answered, unanswered, under_way, commits_of, purged_of, view_of, newest, shown}
use Rattle.journal_model.specs.Locks.{sessions, asks, holder, other_holder, circle, is_circle}
use Rattle.journal_model.specs.Replies.{reply_to, doc_reply, size_reply}
use Rattle.journal_model.specs.Held.{need}
use Rattle.journal_model.specs.History.{kind_of}
use Rattle.journal_model.specs.Versions.{documents_now, lobs_now, pieces_now, versions_now}
use Rattle.journal_model.specs.Ceiling.{ceiling}
use Rattle.journal_model.specs.Legal.{has_deadlock, has_waited, commit_due, restart_due, began_read, may_view_under, is_met, begin_reply, IsDue, MayStart, MayView, MayWait, MayChange, LacksRoom, CallAnswer, ReadAnswer, Answer, MayAnswer, MayCommit, MayUndo, MayPurge, IsBusy, MayAudit, MayEnter, IsLegal, Legal}
use Rattle.journal_rows.specs.Told.{reply_code, same_reply, is_empty, passes, is_commit, is_rollback, is_commit_of, is_restart_of, is_due, may_start, may_view, may_wait, may_change, lacks_room, call_answer, read_answer, answer, may_answer, may_commit, may_undo, may_purge, is_busy, may_audit, may_enter, are_legal, is_legal}
use Rattle.journal_rows.proofs.DecideLemmas.{both, either, three, four, five, always, is_true, is_false, at_most, other, number, none, empty, filled, if_some, all}

-- ---- the same answer

abbrev first : List ℕ → ℕ
first [] = 0
first (n ∷ l) = n

abbrev second : List ℕ → ℕ
second [] = 0
second (n ∷ l) = first l

-- the answer of a code
abbrev reply_of : List ℕ → Reply
reply_of [] = memory
reply_of (n ∷ l) =
    if n == 0 then deadlock l
    else (if n == 1 then missing
    else (if n == 2 then exists
    else (if n == 3 then same
    else (if n == 4 then deep
    else (if n == 5 then large
    else (if n == 6 then no_room (first l) (second l)
    else (if n == 7 then full
    else (if n == 8 then part (first l)
    else (if n == 9 then done
    else (if n == 10 then inside
    else (if n == 11 then doc l
    else (if n == 12 then sized (first l) (second l)
    else (if n == 13 then absent
    else (if n == 14 then restarted
    else memory))))))))))))))

of_code : (r : Reply) → reply_of (reply_code r) ≡ r
of_code (deadlock l) = refl
of_code missing = refl
of_code exists = refl
of_code same = refl
of_code deep = refl
of_code large = refl
of_code (no_room n m) = refl
of_code full = refl
of_code (part n) = refl
of_code done = refl
of_code inside = refl
of_code (doc t) = refl
of_code (sized n m) = refl
of_code absent = refl
of_code restarted = refl
of_code memory = refl

-- answers of one code are the same
pub same_told : (a b : Reply) → Decides (same_reply a b) (a ≡ b)
same_told a b = (
  (λ e. sym (of_code a) ∙ ap reply_of ((bytes_eq-Decides (reply_code a) (reply_code b)).0 e) ∙ of_code b),
  λ e. (bytes_eq-Decides (reply_code a) (reply_code b)).1 (ap reply_code e),
)

-- ---- statements and entries

commit_told : (x : Option Statement) → Decides (is_commit x) (x ≡ Some commit)
commit_told None = ((λ e. absurd (true≢false (sym e))), λ e. let no : ⊥ = cc in absurd no)
commit_told (Some (call c)) = ((λ e. absurd (true≢false (sym e))), λ e. let no : ⊥ = cc in absurd no)
commit_told (Some (get d)) = ((λ e. absurd (true≢false (sym e))), λ e. let no : ⊥ = cc in absurd no)
commit_told (Some (size d)) = ((λ e. absurd (true≢false (sym e))), λ e. let no : ⊥ = cc in absurd no)
commit_told (Some (begin l)) = ((λ e. absurd (true≢false (sym e))), λ e. let no : ⊥ = cc in absurd no)
commit_told (Some commit) = ((λ e. refl), λ e. refl)
commit_told (Some rollback) = ((λ e. absurd (true≢false (sym e))), λ e. let no : ⊥ = cc in absurd no)

rollback_told : (x : Option Statement) → Decides (is_rollback x) (x ≡ Some rollback)
rollback_told None = ((λ e. absurd (true≢false (sym e))), λ e. let no : ⊥ = cc in absurd no)
rollback_told (Some (call c)) = ((λ e. absurd (true≢false (sym e))), λ e. let no : ⊥ = cc in absurd no)
rollback_told (Some (get d)) = ((λ e. absurd (true≢false (sym e))), λ e. let no : ⊥ = cc in absurd no)
rollback_told (Some (size d)) = ((λ e. absurd (true≢false (sym e))), λ e. let no : ⊥ = cc in absurd no)
rollback_told (Some (begin l)) = ((λ e. absurd (true≢false (sym e))), λ e. let no : ⊥ = cc in absurd no)
rollback_told (Some commit) = ((λ e. absurd (true≢false (sym e))), λ e. let no : ⊥ = cc in absurd no)
rollback_told (Some rollback) = ((λ e. refl), λ e. refl)

commit_of_told : (s n : ℕ) (e : Entry) → Decides (is_commit_of s n e) (e ≡ Commit s n)
commit_of_told s n (Start t j) = ((λ e. absurd (true≢false (sym e))), λ e. let no : ⊥ = cc in absurd no)
commit_of_told s n (View t k) = ((λ e. absurd (true≢false (sym e))), λ e. let no : ⊥ = cc in absurd no)
commit_of_told s n (Wait t d h) = ((λ e. absurd (true≢false (sym e))), λ e. let no : ⊥ = cc in absurd no)
commit_of_told s n (Did t j r) = ((λ e. absurd (true≢false (sym e))), λ e. let no : ⊥ = cc in absurd no)
commit_of_told s n (Commit t c) = (
  (λ e. let h = (both (t == s) (c == n) (Decides-eqb t s) (Decides-eqb c n)).0 e in ap (λ u. Commit u c) h.0 ∙ ap (Commit s) h.1),
  λ e. (both (t == s) (c == n) (Decides-eqb t s) (Decides-eqb c n)).1 (cc, cc),
)
commit_of_told s n (Undone t u) = ((λ e. absurd (true≢false (sym e))), λ e. let no : ⊥ = cc in absurd no)
commit_of_told s n (Purged c) = ((λ e. absurd (true≢false (sym e))), λ e. let no : ⊥ = cc in absurd no)
commit_of_told s n (Audited a) = ((λ e. absurd (true≢false (sym e))), λ e. let no : ⊥ = cc in absurd no)
commit_of_told s n (Restart k) = ((λ e. absurd (true≢false (sym e))), λ e. let no : ⊥ = cc in absurd no)

restart_of_told : (s i : ℕ) (e : Entry) → Decides (is_restart_of s i e) (e ≡ Did s i restarted)
restart_of_told s i (Start t j) = ((λ e. absurd (true≢false (sym e))), λ e. let no : ⊥ = cc in absurd no)
restart_of_told s i (View t k) = ((λ e. absurd (true≢false (sym e))), λ e. let no : ⊥ = cc in absurd no)
restart_of_told s i (Wait t d h) = ((λ e. absurd (true≢false (sym e))), λ e. let no : ⊥ = cc in absurd no)
restart_of_told s i (Did t j r) = (
  (λ e. let h = (three (t == s) (j == i) (same_reply r restarted) (Decides-eqb t s) (Decides-eqb j i) (same_told r restarted)).0 e in ap (λ u. Did u j r) h.0 ∙ ap (λ k. Did s k r) h.1 ∙ ap (Did s i) h.2),
  λ e. (three (t == s) (j == i) (same_reply r restarted) (Decides-eqb t s) (Decides-eqb j i) (same_told r restarted)).1 (cc, cc, cc),
)
restart_of_told s i (Commit t c) = ((λ e. absurd (true≢false (sym e))), λ e. let no : ⊥ = cc in absurd no)
restart_of_told s i (Undone t u) = ((λ e. absurd (true≢false (sym e))), λ e. let no : ⊥ = cc in absurd no)
restart_of_told s i (Purged c) = ((λ e. absurd (true≢false (sym e))), λ e. let no : ⊥ = cc in absurd no)
restart_of_told s i (Audited a) = ((λ e. absurd (true≢false (sym e))), λ e. let no : ⊥ = cc in absurd no)
restart_of_told s i (Restart k) = ((λ e. absurd (true≢false (sym e))), λ e. let no : ⊥ = cc in absurd no)

-- ---- each kind of entry

module _ (o : Opening) (script : Script) where
  due_told : (e : Entry) (past : List Entry) → Decides (is_due o script e past) (IsDue o script e past)
  due_told e past = both _ _
      (if_some _ _ (λ s. commit_of_told s (commits_of o past + 1) e) (commit_due o script past))
      (if_some _ _ (λ s. if_some _ _ (λ i. restart_of_told s i e) (unanswered s past)) (restart_due o script past))

  start_told : (s i : ℕ) (past : List Entry) → Decides (may_start o script s i past) (MayStart o script s i past)
  start_told s i past = four _ _ _ _ (Decides-eqb i (answered s past + 1)) (Decides-eqb (started s past) (answered s past)) (at_most i (length (statements s script))) (is_false (has_deadlock (part_of script s past)))

  view_told : (s k : ℕ) (past : List Entry) → Decides (may_view o script s k past) (MayView o script s k past)
  view_told s k past = three _ _ _ (is_true (began_read o script s past)) (Decides-eqb k (commits_of o past)) (is_true (may_view_under o script (level_in script s (part_of script s past)) (view_of script s past)))

  wait_told : (s d h : ℕ) (past : List Entry) → Decides (may_wait o script s d h past) (MayWait o script s d h past)
  wait_told s d h past = four _ _ _ _ (number d (asks script s past)) (is_false (has_waited (part_of script s past))) (other h s) (is_true (is_met o script s d h (holder script d past) past))

  change_told : (s : ℕ) (c : Call) (r : Reply) (past : List Entry) → Decides (is_empty (circle script s (call_doc c) past) && may_change o script s c r past) ((circle script s (call_doc c) past ≡ []) × MayChange o script s c r past)
  change_told s c r past = both _ _ (empty (circle script s (call_doc c) past)) (both _ _ (none (other_holder script s (call_doc c) past)) (same_told r (reply_to c (newest o script s past))))

  room_told : (s : ℕ) (c : Call) (n m : ℕ) (past : List Entry) → Decides (lacks_room o script s c n m past) (LacksRoom o script s c n m past)
  room_told s c n m past = five _ _ _ _ _ (none (other_holder script s (call_doc c) past)) (is_true (is_ok_reply (reply_to c (newest o script s past))))
      (Decides-eqb n (need (kind_of c (look (newest o script s past) (call_doc c))))) (Decides-ltb m n) (at_most (o.pages - ceiling o script (Some s) past) m)

  call_told : (s : ℕ) (c : Call) (r : Reply) (past : List Entry) → Decides (call_answer o script s c r past) (CallAnswer o script s c r past)
  call_told s c (deadlock l) past = is_true (is_circle script s l past)
  call_told s c missing past = change_told s c missing past
  call_told s c exists past = change_told s c exists past
  call_told s c same past = change_told s c same past
  call_told s c deep past = change_told s c deep past
  call_told s c large past = change_told s c large past
  call_told s c (no_room n m) past = both _ _ (empty (circle script s (call_doc c) past)) (room_told s c n m past)
  call_told s c full past = change_told s c full past
  call_told s c (part n) past = change_told s c (part n) past
  call_told s c done past = change_told s c done past
  call_told s c inside past = change_told s c inside past
  call_told s c (doc t) past = change_told s c (doc t) past
  call_told s c (sized n m) past = change_told s c (sized n m) past
  call_told s c absent past = change_told s c absent past
  call_told s c restarted past = change_told s c restarted past
  call_told s c memory past = always

  shown_told : (tell : Option Kept → Reply) (s d : ℕ) (r : Reply) (past : List Entry)
      → Decides (is_some (view_of script s past) && same_reply r (tell (shown o script s d past))) (IsSome (view_of script s past) × (r ≡ tell (shown o script s d past)))
  shown_told tell s d r past = both _ _ (is_true (is_some (view_of script s past))) (same_told r (tell (shown o script s d past)))

  read_told : (tell : Option Kept → Reply) (s d : ℕ) (r : Reply) (past : List Entry) → Decides (read_answer o script tell s d r past) (ReadAnswer o script tell s d r past)
  read_told tell s d (deadlock l) past = shown_told tell s d (deadlock l) past
  read_told tell s d missing past = shown_told tell s d missing past
  read_told tell s d exists past = shown_told tell s d exists past
  read_told tell s d same past = shown_told tell s d same past
  read_told tell s d deep past = shown_told tell s d deep past
  read_told tell s d large past = shown_told tell s d large past
  read_told tell s d (no_room n m) past = shown_told tell s d (no_room n m) past
  read_told tell s d full past = shown_told tell s d full past
  read_told tell s d (part n) past = shown_told tell s d (part n) past
  read_told tell s d done past = shown_told tell s d done past
  read_told tell s d inside past = shown_told tell s d inside past
  read_told tell s d (doc t) past = shown_told tell s d (doc t) past
  read_told tell s d (sized n m) past = shown_told tell s d (sized n m) past
  read_told tell s d absent past = shown_told tell s d absent past
  read_told tell s d restarted past = shown_told tell s d restarted past
  read_told tell s d memory past = always

  begin_told : (s : ℕ) (l : Level) (r : Reply) (past : List Entry) → Decides (answer o script s (begin l) r past) (Answer o script s (begin l) r past)
  begin_told s v (deadlock l) past = same_told (deadlock l) (begin_reply o script (level_in script s (part_of script s past)))
  begin_told s v missing past = same_told missing (begin_reply o script (level_in script s (part_of script s past)))
  begin_told s v exists past = same_told exists (begin_reply o script (level_in script s (part_of script s past)))
  begin_told s v same past = same_told same (begin_reply o script (level_in script s (part_of script s past)))
  begin_told s v deep past = same_told deep (begin_reply o script (level_in script s (part_of script s past)))
  begin_told s v large past = same_told large (begin_reply o script (level_in script s (part_of script s past)))
  begin_told s v (no_room n m) past = same_told (no_room n m) (begin_reply o script (level_in script s (part_of script s past)))
  begin_told s v full past = same_told full (begin_reply o script (level_in script s (part_of script s past)))
  begin_told s v (part n) past = same_told (part n) (begin_reply o script (level_in script s (part_of script s past)))
  begin_told s v done past = same_told done (begin_reply o script (level_in script s (part_of script s past)))
  begin_told s v inside past = same_told inside (begin_reply o script (level_in script s (part_of script s past)))
  begin_told s v (doc t) past = same_told (doc t) (begin_reply o script (level_in script s (part_of script s past)))
  begin_told s v (sized n m) past = same_told (sized n m) (begin_reply o script (level_in script s (part_of script s past)))
  begin_told s v absent past = same_told absent (begin_reply o script (level_in script s (part_of script s past)))
  begin_told s v restarted past = same_told restarted (begin_reply o script (level_in script s (part_of script s past)))
  begin_told s v memory past = always

  answer_told : (s : ℕ) (st : Statement) (r : Reply) (past : List Entry) → Decides (answer o script s st r past) (Answer o script s st r past)
  answer_told s (call c) r past = call_told s c r past
  answer_told s (get d) r past = read_told doc_reply s d r past
  answer_told s (size d) r past = read_told size_reply s d r past
  answer_told s (begin l) r past = begin_told s l r past
  answer_told s commit r past = both _ _ (same_told r done) (empty (own script s past))
  answer_told s rollback r past = both _ _ (same_told r done) (none (level_in script s (part_of script s past)))

  told_of : (s i : ℕ) (r : Reply) (past : List Entry) → Decides (passes (λ st. answer o script s st r past) (statement script s i)) (IfSome (statement script s i) (λ st. Answer o script s st r past))
  told_of s i r past = if_some _ _ (λ st. answer_told s st r past) (statement script s i)

  did_told : (s i : ℕ) (r : Reply) (past : List Entry) → Decides (may_answer o script s i r past) (MayAnswer o script s i r past)
  did_told s i (deadlock l) past = told_of s i (deadlock l) past
  did_told s i missing past = told_of s i missing past
  did_told s i exists past = told_of s i exists past
  did_told s i same past = told_of s i same past
  did_told s i deep past = told_of s i deep past
  did_told s i large past = told_of s i large past
  did_told s i (no_room n m) past = told_of s i (no_room n m) past
  did_told s i full past = told_of s i full past
  did_told s i (part n) past = told_of s i (part n) past
  did_told s i done past = told_of s i done past
  did_told s i inside past = told_of s i inside past
  did_told s i (doc t) past = told_of s i (doc t) past
  did_told s i (sized n m) past = told_of s i (sized n m) past
  did_told s i absent past = told_of s i absent past
  did_told s i restarted past = number s (restart_due o script past)
  did_told s i memory past = told_of s i memory past

  commit_may : (s c : ℕ) (past : List Entry) → Decides (may_commit o script s c past) (MayCommit o script s c past)
  commit_may s c past = three _ _ _ (Decides-eqb c (commits_of o past + 1)) (filled (own script s past))
      (either _ _ (number s (commit_due o script past)) (commit_told (under_way script s past)))

  undo_told : (s : ℕ) (u : Undoer) (past : List Entry) → Decides (may_undo o script s u past) (MayUndo o script s u past)
  undo_told s by_rollback past = both _ _ (rollback_told (under_way script s past)) (is_true (is_some (level_in script s (part_of script s past))))
  undo_told s by_deadlock past = is_true (has_deadlock (part_of script s past))
  undo_told s by_end past = three _ _ _ (Decides-eqb (answered s past) (length (statements s script))) (is_true (is_some (level_in script s (part_of script s past)))) (is_false (has_deadlock (part_of script s past)))

  pub purge_told : (c : ℕ) (past : List Entry) → Decides (may_purge o script c past) (MayPurge o script c past)
  purge_told c past = three _ _ _ (Decides-eqb c (purged_of o past + 1)) (at_most c (commits_of o past))
      (all _ _ (λ s. if_some _ _ (λ k. at_most c k) (view_of script s past)) sessions)

  busy_told : (who : Who) (past : List Entry) → Decides (is_busy o script who past) (IsBusy o script who past)
  busy_told (session s) past = is_true (is_busy o script (session s) past)
  busy_told purging past = purge_told (purged_of o past + 1) past

  audit_told : (a : Audit) (past : List Entry) → Decides (may_audit o script a past) (MayAudit o script a past)
  audit_told (report docs lobs pieces versions) past = four _ _ _ _ (Decides-eqb docs (documents_now o script past)) (Decides-eqb lobs (lobs_now o script past)) (Decides-eqb pieces (pieces_now o script past)) (Decides-eqb versions (versions_now o script past))
  audit_told (busy who) past = busy_told who past

  enter_told : (e : Entry) (past : List Entry) → Decides (may_enter o script e past) (MayEnter o script e past)
  enter_told (Start s i) past = start_told s i past
  enter_told (View s k) past = view_told s k past
  enter_told (Wait s d h) past = wait_told s d h past
  enter_told (Did s i r) past = both _ _ (number i (unanswered s past)) (did_told s i r past)
  enter_told (Commit s c) past = commit_may s c past
  enter_told (Undone s u) past = undo_told s u past
  enter_told (Purged c) past = purge_told c past
  enter_told (Audited a) past = audit_told a past
  enter_told (Restart k) past = Decides-eqb k (commits_of o past)

  legal_told : (past : List Entry) → Decides (are_legal o script past) (IsLegal o script past)
  legal_told [] = always
  legal_told (e ∷ past) = both _ _ (legal_told past) (both _ _ (due_told e past) (enter_told e past))

-- a journal that is told so is legal
pub legal : (o : Opening) (script : Script) (entries : List Entry) → is_legal o script entries ≡ true → Legal o script entries
legal o script entries e = (legal_told o script (reverse entries)).0 e

-- and one that isn't is not
pub illegal : (o : Opening) (script : Script) (entries : List Entry) → is_legal o script entries ≡ false → Legal o script entries → ⊥
illegal o script entries e h = true≢false (sym ((legal_told o script (reverse entries)).1 h) ∙ e)
