-- Whether a journal follows the lines of its script, told by computing, where the entries of each
-- line are counted.
--     Cut      how many entries a line has, and how many the purge behind it
--     follows      the journal follows its lines, cut so
use Rattle.std.specs.Prelude.{ℕ, ◌+◌, ◌==◌, ◌&&◌, ◌||◌, Bool, true, false, not, List, [], ◌∷◌, ◌++◌, length, take, drop, reverse, nat_le, nat_lt, Option, Some, None, is_some, if◌then◌else◌}
use Rattle.std.specs.List.{list_all}
use Rattle.journal_model.specs.Journal.{Script, Line, say, step, purge, checkpoint, audit, restart, statements, restarted, by_end, Entry, Start, Did, Undone, Purged, Audited, Restart, Opening}
use Rattle.journal_model.specs.Part.{is_of, level_in, part, started, answered, commits_of, purged_of}
use Rattle.journal_model.specs.Locks.{sessions, asks, holds, may_hold}
use Rattle.journal_model.specs.Legal.{has_deadlock, has_waited, commit_due, restart_due}
use Rattle.journal_model.specs.Turns.{is_a_sessions, max_unpurged, unpurged, begins_next}
use Rattle.journal_rows.specs.Told.{is_number, is_empty, same_reply, may_purge}

pub record Cut : Type 0 where
  pub own : ℕ
  pub purges : ℕ

abbrev pub is_end : Entry → Bool
is_end (Undone s by_end) = true
is_end e = false

abbrev pub is_purged : Entry → Bool
is_purged (Purged c) = true
is_purged e = false

abbrev pub is_restarted : Entry → Bool
is_restarted (Did s i r) = same_reply r restarted
is_restarted e = false

abbrev pub is_restart_at : ℕ → Entry → Bool
is_restart_at n (Restart k) = k == n
is_restart_at n e = false

abbrev pub begins_with_start : ℕ → ℕ → List Entry → Bool
begins_with_start s i (Start t j ∷ es) = (t == s) && (j == i)
begins_with_start s i es = false

abbrev pub is_audit : List Entry → Bool
is_audit (Audited a ∷ []) = true
is_audit es = false

module _ (o : Opening) (script : Script) where
  abbrev pub are_of : List Line → ℕ → List Entry → List Entry → Bool
  are_of said s past es =
      list_all (λ e. is_of s e && not (is_end e)) es
      && nat_le (started s (reverse es ++ past)) (length (statements s said))

  abbrev pub is_done : List Line → ℕ → List Entry → Bool
  is_done said s past =
      (answered s past == length (statements s said)) && not (has_deadlock (part script s past))

  abbrev pub is_met : ℕ → ℕ → ℕ → List Entry → Bool
  is_met s d h past =
      not (h == s) && (holds script h d past
      || (may_hold script h d past || is_number d (asks script h past)))

  abbrev pub meets_one : List ℕ → ℕ → ℕ → List Entry → Bool
  meets_one [] s d past = false
  meets_one (h ∷ hs) s d past = is_met s d h past || meets_one hs s d past

  abbrev pub is_stuck_on : ℕ → Option ℕ → List Entry → Bool
  is_stuck_on s None past = false
  is_stuck_on s (Some d) past = has_waited (part script s past) && meets_one sessions s d past

  abbrev pub is_purged_out : List Entry → Bool
  is_purged_out past = not (may_purge o script (purged_of o past + 1) past)

  abbrev pub are_restarted : List Entry → List Entry → Bool
  are_restarted past [] = false
  are_restarted past (e ∷ es) =
      is_restart_at (commits_of o past) e
      && (list_all is_restarted es
      && not (is_some (restart_due o script (reverse (e ∷ es) ++ past))))

  abbrev pub is_part : List Line → Line → List Entry → List Entry → Bool
  is_part said (say s true st) past es =
      are_of said s past es && (is_done said s (reverse es ++ past)
      || is_stuck_on s (asks script s (reverse es ++ past)) (reverse es ++ past))
  is_part said (say s false st) past es = is_empty es
  is_part said (step s n) past es =
      are_of said s past es && (not (begins_next o script said s past)
      || begins_with_start s (started s past + 1) es)
  is_part said purge past es = list_all is_purged es && is_purged_out (reverse es ++ past)
  is_part said checkpoint past es = is_empty es
  is_part said audit past es = is_audit es
  is_part said restart past es = are_restarted past es

  abbrev pub is_ended : List Entry → ℕ → Bool
  is_ended past s =
      (answered s past == length (statements s script))
      && not (is_some (level_in script s (part script s past)))

  abbrev pub is_last : List Entry → List Entry → Bool
  is_last past es =
      list_all is_a_sessions es
      && (list_all (is_ended (reverse es ++ past)) sessions
      && not (is_some (commit_due o script (reverse es ++ past))))

  abbrev pub is_auto : List Entry → List Entry → Bool
  is_auto past es =
      if nat_lt max_unpurged (unpurged o past) then list_all is_purged es
      && is_purged_out (reverse es ++ past) else is_empty es

  abbrev pub follows_from : List Cut → List Line → List Line → List Entry → List Entry → Bool
  follows_from cuts said [] past rest = is_last past rest
  follows_from [] said (l ∷ ls) past rest = false
  follows_from (cut ∷ cuts) said (l ∷ ls) past rest =
      is_part (said ++ l ∷ []) l past (take cut.own rest)
      && (not (is_some (commit_due o script (reverse (take cut.own rest) ++ past)))
      && (is_auto (reverse (take cut.own rest) ++ past) (take cut.purges (drop cut.own rest))
      && follows_from cuts (said ++ l ∷ []) ls
      (reverse (take cut.own rest ++ take cut.purges (drop cut.own rest)) ++ past)
      (drop cut.purges (drop cut.own rest))))

abbrev pub follows : Opening → Script → List Cut → List Entry → Bool
follows o script cuts entries = follows_from o script cuts [] script [] entries
