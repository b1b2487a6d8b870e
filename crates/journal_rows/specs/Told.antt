-- Whether a journal is legal, and whether it follows its lines, told by computing.
--     same_reply      the same answer
--     is_legal      a legal journal
--     Cut      where the entries of each line end
--     follows      a journal that follows its lines, cut so
use Rattle.std.specs.Prelude.{ℕ, ◌+◌, ◌-◌, ◌==◌, ◌&&◌, ◌||◌, Bool, true, false, not, List, [], ◌∷◌, length, reverse, nat_le, nat_lt, bytes_eq, Option, Some, None, is_some}
use Rattle.std.specs.List.{list_all}
use Rattle.journal_model.specs.Documents.{Call, call_doc, look, Kept}
use Rattle.journal_model.specs.Journal.{Statement, call, get, size, begin, commit, rollback, Script, statements, statement, Reply, deadlock, missing, exists, same, deep, large, no_room, full, part, done, inside, doc, sized, absent, restarted, memory, Undoer, by_rollback, by_deadlock, by_end, Who, session, purging, Audit, report, busy, Entry, Start, View, Wait, Did, Commit, Undone, Purged, Audited, Restart, Opening}
use Rattle.journal_model.specs.Part.{is_ok_reply, level_in, part as part_of, own, started, answered, unanswered, under_way, commits_of, purged_of, view_of, newest, shown}
use Rattle.journal_model.specs.Locks.{sessions, asks, holder, other_holder, circle, is_circle}
use Rattle.journal_model.specs.Replies.{reply_to, doc_reply, size_reply}
use Rattle.journal_model.specs.Held.{need}
use Rattle.journal_model.specs.History.{kind_of}
use Rattle.journal_model.specs.Versions.{documents_now, lobs_now, pieces_now, versions_now}
use Rattle.journal_model.specs.Ceiling.{ceiling}
use Rattle.journal_model.specs.Legal.{has_deadlock, has_waited, commit_due, restart_due, began_read, may_view_under, is_met, begin_reply, is_changing}

-- ---- the same answer

-- no two answers have one code
abbrev pub reply_code : Reply → List ℕ
reply_code (deadlock l) = 0 ∷ l
reply_code missing = 1 ∷ []
reply_code exists = 2 ∷ []
reply_code same = 3 ∷ []
reply_code deep = 4 ∷ []
reply_code large = 5 ∷ []
reply_code (no_room n m) = 6 ∷ n ∷ m ∷ []
reply_code full = 7 ∷ []
reply_code (part n) = 8 ∷ n ∷ []
reply_code done = 9 ∷ []
reply_code inside = 10 ∷ []
reply_code (doc t) = 11 ∷ t
reply_code (sized n m) = 12 ∷ n ∷ m ∷ []
reply_code absent = 13 ∷ []
reply_code restarted = 14 ∷ []
reply_code memory = 15 ∷ []

abbrev pub same_reply : Reply → Reply → Bool
same_reply a b = bytes_eq (reply_code a) (reply_code b)

-- ---- tests of what may be there

abbrev pub is_number : ℕ → Option ℕ → Bool
is_number n None = false
is_number n (Some m) = m == n

abbrev pub is_empty : {A : Type 0} → List A → Bool
is_empty [] = true
is_empty (x ∷ xs) = false

abbrev pub passes : {A : Type 0} → (A → Bool) → Option A → Bool
passes test None = true
passes test (Some x) = test x

abbrev pub is_commit : Option Statement → Bool
is_commit (Some commit) = true
is_commit st = false

abbrev pub is_rollback : Option Statement → Bool
is_rollback (Some rollback) = true
is_rollback st = false

abbrev pub is_commit_of : ℕ → ℕ → Entry → Bool
is_commit_of s n (Commit t c) = (t == s) && (c == n)
is_commit_of s n e = false

abbrev pub is_restart_of : ℕ → ℕ → Entry → Bool
is_restart_of s i (Did t j r) = (t == s) && ((j == i) && same_reply r restarted)
is_restart_of s i e = false

-- ---- a legal journal

module _ (o : Opening) (script : Script) where
  abbrev pub is_due : Entry → List Entry → Bool
  is_due e past =
      passes (λ s. is_commit_of s (commits_of o past + 1) e) (commit_due o script past)
      && passes (λ s. passes (λ i. is_restart_of s i e) (unanswered s past))
      (restart_due o script past)

  abbrev pub may_start : ℕ → ℕ → List Entry → Bool
  may_start s i past =
      (i == answered s past + 1)
      && ((started s past == answered s past) && (nat_le i (length (statements s script))
      && not (has_deadlock (part_of script s past))))

  abbrev pub may_view : ℕ → ℕ → List Entry → Bool
  may_view s k past =
      began_read o script s past && ((k == commits_of o past)
      && may_view_under o script (level_in script s (part_of script s past))
      (view_of script s past))

  abbrev pub may_wait : ℕ → ℕ → ℕ → List Entry → Bool
  may_wait s d h past =
      is_number d (asks script s past) && (not (has_waited (part_of script s past)) && (not (h == s)
      && is_met o script s d h (holder script d past) past))

  abbrev pub may_change : ℕ → Call → Reply → List Entry → Bool
  may_change s c r past =
      not (is_some (other_holder script s (call_doc c) past))
      && same_reply r (reply_to c (newest o script s past))

  abbrev pub lacks_room : ℕ → Call → ℕ → ℕ → List Entry → Bool
  lacks_room s c needed free past =
      not (is_some (other_holder script s (call_doc c) past))
      && (is_ok_reply (reply_to c (newest o script s past))
      && ((needed == need (kind_of c (look (newest o script s past) (call_doc c))))
      && (nat_lt free needed
      && nat_le (o.pages - ceiling o script (Some s) past) free)))

  abbrev pub call_answer : ℕ → Call → Reply → List Entry → Bool
  call_answer s c (deadlock l) past = is_circle script s l past
  call_answer s c memory past = true
  call_answer s c (no_room needed free) past =
      is_empty (circle script s (call_doc c) past) && lacks_room s c needed free past
  call_answer s c r past = is_empty (circle script s (call_doc c) past) && may_change s c r past

  abbrev pub read_answer : (Option Kept → Reply) → ℕ → ℕ → Reply → List Entry → Bool
  read_answer tell s d memory past = true
  read_answer tell s d r past =
      is_some (view_of script s past) && same_reply r (tell (shown o script s d past))

  abbrev pub answer : ℕ → Statement → Reply → List Entry → Bool
  answer s (call c) r past = call_answer s c r past
  answer s (get d) r past = read_answer doc_reply s d r past
  answer s (size d) r past = read_answer size_reply s d r past
  answer s (begin l) memory past = true
  answer s (begin l) r past =
      same_reply r (begin_reply o script (level_in script s (part_of script s past)))
  answer s commit r past = same_reply r done && is_empty (own script s past)
  answer s rollback r past =
      same_reply r done && not (is_some (level_in script s (part_of script s past)))

  abbrev pub may_answer : ℕ → ℕ → Reply → List Entry → Bool
  may_answer s i restarted past = is_number s (restart_due o script past)
  may_answer s i r past = passes (λ st. answer s st r past) (statement script s i)

  abbrev pub may_commit : ℕ → ℕ → List Entry → Bool
  may_commit s c past =
      (c == commits_of o past + 1) && (not (is_empty (own script s past))
      && (is_number s (commit_due o script past) || is_commit (under_way script s past)))

  abbrev pub may_undo : ℕ → Undoer → List Entry → Bool
  may_undo s by_rollback past =
      is_rollback (under_way script s past) && is_some (level_in script s (part_of script s past))
  may_undo s by_deadlock past = has_deadlock (part_of script s past)
  may_undo s by_end past =
      (answered s past == length (statements s script))
      && (is_some (level_in script s (part_of script s past))
      && not (has_deadlock (part_of script s past)))

  abbrev pub may_purge : ℕ → List Entry → Bool
  may_purge c past =
      (c == purged_of o past + 1) && (nat_le c (commits_of o past)
      && list_all (λ s. passes (λ k. nat_le c k) (view_of script s past)) sessions)

  abbrev pub is_busy : Who → List Entry → Bool
  is_busy (session s) past =
      is_changing o script (under_way script s past) || has_deadlock (part_of script s past)
  is_busy purging past = may_purge (purged_of o past + 1) past

  abbrev pub may_audit : Audit → List Entry → Bool
  may_audit (report docs lobs pieces versions) past =
      (docs == documents_now o script past)
      && ((lobs == lobs_now o script past) && ((pieces == pieces_now o script past)
      && (versions == versions_now o script past)))
  may_audit (busy who) past = is_busy who past

  abbrev pub may_enter : Entry → List Entry → Bool
  may_enter (Start s i) past = may_start s i past
  may_enter (View s k) past = may_view s k past
  may_enter (Wait s d h) past = may_wait s d h past
  may_enter (Did s i r) past = is_number i (unanswered s past) && may_answer s i r past
  may_enter (Commit s c) past = may_commit s c past
  may_enter (Undone s u) past = may_undo s u past
  may_enter (Purged c) past = may_purge c past
  may_enter (Audited a) past = may_audit a past
  may_enter (Restart k) past = k == commits_of o past

  abbrev pub is_allowed : Entry → List Entry → Bool
  is_allowed e past = is_due e past && may_enter e past

  abbrev pub are_legal : List Entry → Bool
  are_legal [] = true
  are_legal (e ∷ past) = are_legal past && is_allowed e past

abbrev pub is_legal : Opening → Script → List Entry → Bool
is_legal o script entries = are_legal o script (reverse entries)
