-- Starts, waits, grants, and rollbacks begun.
use Rattle.std.proofs.Common.{◌≡◌, ◌≢◌, ◌⊎◌, inl, ℕ, ◌+◌, ◌≤◌, true, false, not, ◌&&◌, List, ◌∷◌, length, Option, Some, None, IsSome, option_and_then, refl, sym, ap, ap₂, subst, ◌∙◌, arith}
use Rattle.journal_model.specs.Documents.{Call, call_doc}
use Rattle.journal_model.specs.Journal.{Script, Level, Statement, call, rollback, statement, statements, by_rollback, by_end, Entry, Start, Wait, Opening}
use Rattle.journal_model.specs.Held.{is_in}
use Rattle.journal_model.specs.Part.{level_in, part, started, answered, unanswered, under_way, view_of, view_under, view_since_start}
use Rattle.journal_model.specs.Locks.{sessions, changes, asks, has_change, holder}
use Rattle.journal_model.specs.Legal.{has_deadlock, has_waited, is_met, Allowed}
use Rattle.history_model.proofs.OwnLemmas.{start_stays, wait_stays}
use Rattle.kept_model.specs.Engine.{ReadView, Task, idle, asking, fetching, undoing, Session, Engine}
use Rattle.kept_model.specs.Sessions.{IsAt, under_way_in, is_reading, has_lock}
use Rattle.kept_model.specs.Views.{IsRead}
use Rattle.kept_model.specs.Kept.{Kept}
use Rattle.kept_model.specs.Quiet.{granted, quiet_event}
use Rattle.kept_model.proofs.CommitLegal.{not_due, unanswered_started, start_allowed}
use Rattle.kept_model.proofs.PlainKept.{IsPlain, IsUnplanned, leaves_none, leaves_start, leaves_wait, IsPlainEvent, plain_quiet}
use Rattle.kept_model.proofs.PlainLemmas.{part_start, part_wait, count_start, view_none, locks_same, locks_granted, granted_goes}
use Rattle.kept_model.proofs.QuietKept.{quiet_keeps}
use Rattle.kept_model.specs.Fetches.{IsFetched, IsFetch, fetch_begun, fetch_event}
use Rattle.kept_model.proofs.FetchRows.{fetch_begins, fetch_goes_on}
use Rattle.read_model.specs.Flight.{Flight}

plus_none : (n : ℕ) → n + 0 ≡ n
plus_none n = grind arith

-- ---- a statement is started

module _ (o : Opening) (script : Script) (e : Engine) (kept : Kept o script e) (s i : ℕ) (free : (e.sessions s).task ≡ idle)
    (next : i ≡ answered s e.journal + 1) (few : i ≤ length (statements s script)) where
  abbrev after : List Entry
  after = Start s i ∷ e.journal

  pub idle_count : started s e.journal ≡ answered s e.journal
  idle_count = (kept.at s).count ∙ ap (λ (k : Task). answered s e.journal + under_way_in k) free ∙ plus_none (answered s e.journal)

  pub idle_deadlock : has_deadlock (part script s e.journal) ≡ false
  idle_deadlock = subst (IsAt script e.journal s) free (kept.at s).at

  pub idle_since : view_since_start (part script s e.journal) ≡ None
  idle_since = (kept.at s).since (ap is_reading free)

  pub may_start : Allowed o script (Start s i) e.journal
  may_start = start_allowed o script e.journal kept.calm s i 0 idle_count next few idle_deadlock

  pub starts : (st : Statement) → statement script s i ≡ Some st → under_way script s after ≡ Some st
  starts st is = ap (λ (u : Option ℕ). option_and_then (λ k. statement script s k) u) (unanswered_started s i e.journal idle_count next) ∙ is

  pub starts_change : (st : Statement) → statement script s i ≡ Some st → asks script s after ≡ changes (Some st)
  starts_change st is = ap (λ (u : Option ℕ). option_and_then (λ k. changes (statement script s k)) u) (unanswered_started s i e.journal idle_count next) ∙ ap changes is

  pub view_started : view_of script s after ≡ view_of script s e.journal
  view_started =
      ap₂ (λ (k : Option Level) (p : List Entry). view_under k p) (start_stays script s e.journal s i).level_stays (part_start script s e.journal i)
      ∙ view_none script s e.journal (part script s e.journal) refl idle_since (level_in script s (part script s e.journal)) (Start s i) refl refl

  pub deadlock_started : has_deadlock (part script s after) ≡ false
  deadlock_started = ap has_deadlock (part_start script s e.journal i) ∙ idle_deadlock

  pub start_plain : (k : Task) → IsUnplanned k → under_way_in k ≡ 1 → IsAt script after s k → ((q : ℕ) → has_lock q k ≡ false) → IsRead o script after e.store s (record (e.sessions s) { task = k })
      → IsFetched e.store (record (e.sessions s) { task = k }) → IsPlainEvent o script s (record (e.sessions s) { task = k }) e.locks after e
  start_plain k unplanned one at no_lock reads fetched = record {
    leaves = leaves_start o script s e.journal i;
    calm = record { legal = (kept.calm.legal, may_start); commit = refl; restart = refl };
    was = subst IsPlain (sym free) tt;
    becomes = unplanned;
    trx = refl;
    at = record {
      count = count_start script s e.journal i idle_count ∙ ap (λ (n : ℕ). answered s e.journal + n) (sym one);
      at = at;
      level = (kept.at s).level ∙ sym (start_stays script s e.journal s i).level_stays;
      since = λ still. ap view_since_start (part_start script s e.journal i);
    };
    view = (kept.views s).commits ∙ sym view_started;
    sees = (kept.views s).sees;
    reads = reads;
    fetched = fetched;
    locked = locks_same o script e kept s (record (e.sessions s) { task = k }) after (leaves_start o script s e.journal i)
        (λ q. ap (has_change script (λ r. not (Rattle.journal_model.specs.Part.is_deadlock r) && not (Rattle.journal_model.specs.Part.is_memory r)) q) (part_start script s e.journal i))
        (λ q. ap (λ (p : List Entry). has_change script Rattle.journal_model.specs.Part.is_memory q p && not (has_change script (λ r. not (Rattle.journal_model.specs.Part.is_deadlock r) && not (Rattle.journal_model.specs.Part.is_memory r)) q p)) (part_start script s e.journal i))
        (λ q. no_lock q ∙ sym (ap (has_lock q) free));
    goes = λ q. inl refl;
  }

  -- a change that isn't granted its lock
  pub asked_keeps : (c : Call) → statement script s i ≡ Some (call c) → Kept o script (quiet_event s (record (e.sessions s) { task = asking (call_doc c) }) e.locks after e)
  asked_keeps c is = quiet_keeps o script e kept s (record (e.sessions s) { task = asking (call_doc c) }) e.locks after
      (plain_quiet o script e kept s (record (e.sessions s) { task = asking (call_doc c) }) e.locks after
      (start_plain (asking (call_doc c)) tt refl (starts_change (call c) is, deadlock_started) (λ q. refl) (λ q f h. absurd (cc h)) (λ q ps h. absurd (cc h))))

  -- a rollback by statement
  pub rollback_keeps : statement script s i ≡ Some rollback → IsSome (e.sessions s).level → Kept o script (quiet_event s (record (e.sessions s) { task = undoing by_rollback }) e.locks after e)
  rollback_keeps is inside = quiet_keeps o script e kept s (record (e.sessions s) { task = undoing by_rollback }) e.locks after
      (plain_quiet o script e kept s (record (e.sessions s) { task = undoing by_rollback }) e.locks after
      (start_plain (undoing by_rollback) tt refl
      (starts rollback is, subst IsSome ((kept.at s).level ∙ sym (start_stays script s e.journal s i).level_stays) inside, deadlock_started)
      (λ q. refl) (λ q f h. absurd (cc h)) (λ q ps h. absurd (cc h))))

-- ---- no entry, or one that leaves the session's statement

module _ (o : Opening) (script : Script) (e : Engine) (kept : Kept o script e) (s : ℕ) where
  still_plain : (k : Task) → IsPlain (e.sessions s).task → IsUnplanned k → under_way_in k ≡ under_way_in (e.sessions s).task → IsAt script e.journal s k → is_reading k ≡ is_reading (e.sessions s).task
      → (locks : ℕ → Option ℕ) → ((d : ℕ) → Rattle.kept_model.specs.Sessions.AreLocks script e.journal locks (Rattle.kept_model.specs.Engine.with_session s (record (e.sessions s) { task = k }) e.sessions) d)
      → ((q : ℕ) → Rattle.kept_model.proofs.PlainKept.Goes s (e.locks q) (locks q)) → IsRead o script e.journal e.store s (record (e.sessions s) { task = k })
      → IsFetched e.store (record (e.sessions s) { task = k }) → Kept o script (quiet_event s (record (e.sessions s) { task = k }) locks e.journal e)
  still_plain k was unplanned count at reading locks locked goes reads fetched = quiet_keeps o script e kept s (record (e.sessions s) { task = k }) locks e.journal
      (plain_quiet o script e kept s (record (e.sessions s) { task = k }) locks e.journal (record {
        leaves = leaves_none o script s e.journal;
        calm = kept.calm;
        was = was;
        becomes = unplanned;
        trx = refl;
        at = record {
          count = (kept.at s).count ∙ ap (λ (n : ℕ). answered s e.journal + n) (sym count);
          at = at;
          level = (kept.at s).level;
          since = λ still. (kept.at s).since (sym reading ∙ still);
        };
        view = (kept.views s).commits;
        sees = (kept.views s).sees;
        reads = reads;
        fetched = fetched;
        locked = locked;
        goes = goes;
      }))

  -- a lock that was waited for is granted
  pub granted_keeps : (d : ℕ) → (e.sessions s).task ≡ asking d → is_in s sessions ≡ true → (e.locks d ≡ None) ⊎ (e.locks d ≡ Some s)
      → Kept o script (quiet_event s (record (e.sessions s) { task = fetching d (fetch_begun e.store d) }) (granted d s e.locks) e.journal e)
  granted_keeps d is numbered grant = still_plain (fetching d (fetch_begun e.store d)) (subst IsPlain (sym is) tt) tt (sym (ap under_way_in is)) (subst (IsAt script e.journal s) is (kept.at s).at) (sym (ap is_reading is))
      (granted d s e.locks)
      (locks_granted o script e kept s (record (e.sessions s) { task = fetching d (fetch_begun e.store d) }) e.journal (leaves_none o script s e.journal) d grant numbered (λ q. refl) (λ q. refl) (λ q. ap (has_lock q) is) (λ q. refl))
      (granted_goes o script e kept s (record (e.sessions s) { task = fetching d (fetch_begun e.store d) }) e.journal (leaves_none o script s e.journal) d grant)
      (λ q f h. absurd (cc h)) (λ q f h. (let doc : d ≡ q = cc h in let now : fetch_begun e.store d ≡ f = cc h in subst (IsFetch e.store q) now (subst (λ n. IsFetch e.store n (fetch_begun e.store d)) doc (fetch_begins e.store d))))

  -- one more piece of the newest document is read
  pub fetched_keeps : (d : ℕ) (f : Flight) → (e.sessions s).task ≡ fetching d f → Kept o script (quiet_event s (record (e.sessions s) { task = fetching d (fetch_event e.store d f) }) e.locks e.journal e)
  fetched_keeps d f is = still_plain (fetching d (fetch_event e.store d f)) (subst IsPlain (sym is) tt) tt (sym (ap under_way_in is)) (subst (IsAt script e.journal s) is (kept.at s).at) (sym (ap is_reading is))
      e.locks
      (locks_same o script e kept s (record (e.sessions s) { task = fetching d (fetch_event e.store d f) }) e.journal (leaves_none o script s e.journal) (λ q. refl) (λ q. refl) (λ q. sym (ap (has_lock q) is)))
      (λ q. inl refl)
      (λ q f h. absurd (cc h))
      (λ q g h. (let doc : d ≡ q = cc h in let now : fetch_event e.store d f ≡ g = cc h in
      subst (IsFetch e.store q) now (subst (λ n. IsFetch e.store n (fetch_event e.store d f)) doc (fetch_goes_on e.store d f kept.consistent (kept.fetched s d f is)))))

  -- a session that has no statement left, and a transaction
  pub end_begun_keeps : (e.sessions s).task ≡ idle → answered s e.journal ≡ length (statements s script) → IsSome (e.sessions s).level
      → Kept o script (quiet_event s (record (e.sessions s) { task = undoing by_end }) e.locks e.journal e)
  end_begun_keeps is all inside = still_plain (undoing by_end) (subst IsPlain (sym is) tt) tt (sym (ap under_way_in is))
      (all, subst IsSome (kept.at s).level inside, subst (IsAt script e.journal s) is (kept.at s).at) (sym (ap is_reading is))
      e.locks
      (locks_same o script e kept s (record (e.sessions s) { task = undoing by_end }) e.journal (leaves_none o script s e.journal) (λ q. refl) (λ q. refl) (λ q. sym (ap (has_lock q) is)))
      (λ q. inl refl)
      (λ q f h. absurd (cc h)) (λ q ps h. absurd (cc h))

  -- a wait is entered
  module _ (d h : ℕ) (is : (e.sessions s).task ≡ asking d) (first : has_waited (part script s e.journal) ≡ false) (other : h ≢ s) (met : is_met o script s d h (holder script d e.journal) e.journal ≡ true) where
    abbrev waited : List Entry
    waited = Wait s d h ∷ e.journal

    at_is : (asks script s e.journal ≡ Some d) × (has_deadlock (part script s e.journal) ≡ false)
    at_is = subst (IsAt script e.journal s) is (kept.at s).at

    pub wait_keeps : Kept o script (quiet_event s (record (e.sessions s) { task = asking d }) e.locks waited e)
    wait_keeps = quiet_keeps o script e kept s (record (e.sessions s) { task = asking d }) e.locks waited
        (plain_quiet o script e kept s (record (e.sessions s) { task = asking d }) e.locks waited (record {
          leaves = leaves_wait o script s e.journal d h;
          calm = record { legal = (kept.calm.legal, (not_due o script e.journal kept.calm s 0 0 (Wait s d h), (at_is.0, first, other, met))); commit = refl; restart = refl };
          was = subst IsPlain (sym is) tt;
          becomes = tt;
          trx = refl;
          at = record {
            count = (kept.at s).count ∙ ap (λ (k : Task). answered s e.journal + under_way_in k) is;
            at = (at_is.0, ap has_deadlock (part_wait script s e.journal d h) ∙ at_is.1);
            level = (kept.at s).level ∙ sym (wait_stays script s e.journal s d h).level_stays;
            since = λ still. ap view_since_start (part_wait script s e.journal d h) ∙ (kept.at s).since (ap is_reading is);
          };
          view = (kept.views s).commits ∙ sym view_now;
          sees = (kept.views s).sees;
          reads = λ q f h. absurd (cc h);
          fetched = λ q ps h. absurd (cc h);
          locked = locks_same o script e kept s (record (e.sessions s) { task = asking d }) waited (leaves_wait o script s e.journal d h)
              (λ q. ap (has_change script (λ r. not (Rattle.journal_model.specs.Part.is_deadlock r) && not (Rattle.journal_model.specs.Part.is_memory r)) q) (part_wait script s e.journal d h))
              (λ q. ap (λ (p : List Entry). has_change script Rattle.journal_model.specs.Part.is_memory q p && not (has_change script (λ r. not (Rattle.journal_model.specs.Part.is_deadlock r) && not (Rattle.journal_model.specs.Part.is_memory r)) q p)) (part_wait script s e.journal d h))
              (λ q. sym (ap (has_lock q) is));
          goes = λ q. inl refl;
        }))
      where
        view_now : view_of script s waited ≡ view_of script s e.journal
        view_now =
            ap₂ (λ (k : Option Level) (p : List Entry). view_under k p) (wait_stays script s e.journal s d h).level_stays (part_wait script s e.journal d h)
            ∙ view_none script s e.journal (part script s e.journal) refl ((kept.at s).since (ap is_reading is)) (level_in script s (part script s e.journal)) (Wait s d h) ((kept.at s).since (ap is_reading is)) refl
