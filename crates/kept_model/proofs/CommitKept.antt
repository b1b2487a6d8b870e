-- The statement commit keeps all parts: logs, sessions, locks, views, reads.
use Rattle.std.proofs.Common.{◌≡◌, ◌≢◌, ◌⊎◌, inl, inr, ℕ, suc, ◌+◌, ◌≤◌, ◌<◌, Bool, true, false, true≢false, not, ◌&&◌, ◌||◌, nat_eq, nat_lt, nat_le, List, [], ◌∷◌, ◌++◌, map, length, Option, Some, None, option_map, option_and_then, refl, sym, ap, ap₂, subst, ◌∙◌, arith, if◌then◌else◌}
use Rattle.std.proofs.lemmas.Bool.{lt-ltb}
use Rattle.journal_model.specs.Documents.{call_doc, look}
use Rattle.journal_model.specs.Journal.{Script, statement, statements, commit, Entry, Opening}
use Rattle.journal_model.specs.Part.{own, part, touches, answered, started, commits_of, view_of, newest, shown, under_way, is_deadlock, is_memory}
use Rattle.journal_model.specs.Locks.{has_change, holds}
use Rattle.journal_model.specs.History.{History, one_made, newest_in}
use Rattle.history_model.specs.Laws.{IsRun}
use Rattle.history_model.proofs.OwnerLemmas.{own_held}
use Rattle.store_data.specs.Store.{Log, Store}
use Rattle.store_model.specs.History.{Past, content, row_before, is_among, stands}
use Rattle.store_model.specs.History as store
use Rattle.store_model.specs.Steps.{log_of, without_log}
use Rattle.store_model.specs.Events.{moved, committed_by}
use Rattle.store_model.proofs.CommitLemmas.{commit_among_old}
use Rattle.store_model.proofs.ConsistentLemmas.{commit_consistent}
use Rattle.read_model.specs.Flight.{IsFlight}
use Rattle.read_model.proofs.StoreLemmas.{commit_same}
use Rattle.kept_model.specs.Engine.{ReadView, sees_by, idle, Engine, resting, unless}
use Rattle.kept_model.specs.Names.{AreLogs}
use Rattle.kept_model.specs.Rows.{bytes_of}
use Rattle.kept_model.specs.Stored.{IsStored}
use Rattle.kept_model.specs.Sessions.{IsSession, records_of, session_records, IsLogged, has_lock, AreLocks}
use Rattle.kept_model.specs.Views.{AllPast, IsViewIn, IsViewed, IsRead, IsMaking, newest_parts, completed}
use Rattle.kept_model.specs.Kept.{IsCalm, AreCounts, AreGiven, Kept}
use Rattle.kept_model.specs.Commits.{commit_event}
use Rattle.kept_model.proofs.NameLemmas.{commit_old}
use Rattle.kept_model.proofs.LogLemmas.{stands_log}
use Rattle.kept_model.proofs.NameLemmas.{floor_kept}
use Rattle.kept_model.proofs.LogLemmas.{stands_without, other_trx, log_other, logs_committed, after_is, gone_stands, distinct_parts}
use Rattle.kept_model.specs.Ended.{SaysSame}
use Rattle.kept_model.proofs.FrameLemmas.{under_way_same}
use Rattle.kept_model.proofs.SessionLemmas.{by_session, session_same, logged_same, holds_same, may_hold_same, view_same, unless_other, unless_is}
use Rattle.kept_model.proofs.SeenLemmas.{reply_same, history_committed, none_own, history_same, newest_same, shown_same}
use Rattle.kept_model.proofs.CommitLegal.{part_committed, count_committed}
use Rattle.kept_model.proofs.CommitRows as part
use Rattle.kept_model.proofs.CommitRows.{all_past}
use Rattle.kept_model.specs.Fetches.{IsFetched}
use Rattle.kept_model.proofs.FetchRows.{fetch_kept, will_measured}

module _ (o : Opening) (script : Script) (run : IsRun o script) (e : Engine) (kept : Kept o script e) (s i trx : ℕ)
    (is : (e.sessions s).trx ≡ Some trx) (free : (e.sessions s).task ≡ idle)
    (statement_is : statement script s i ≡ Some commit) (next : i ≡ answered s e.journal + 1) (few : i ≤ length (statements s script)) where
  abbrev past : List Entry
  past = e.journal

  abbrev n : ℕ
  n = suc e.store.commits

  abbrev new : Engine
  new = commit_event s i trx e

  l : (k : Log) × (log_of e.store.active trx ≡ Some k)
  l = part.l o script run e kept s i trx is free statement_is next few

  same_count : started s past ≡ answered s past
  same_count = part.same_count o script run e kept s i trx is free statement_is next few

  pub calm_kept : IsCalm o script new.journal
  calm_kept = part.calm_kept o script run e kept s i trx is free statement_is next few

  same_history : (d : ℕ) → store.history new.store d ≡ store.history e.store d
  same_history = part.same_history o script run e kept s i trx is free statement_is next few

  elses : (t : ℕ) → nat_eq t s ≡ false → SaysSame script t past new.journal
  elses = part.elses o script run e kept s i trx is free statement_is next few

  not_touched : (d t : ℕ) → e.locks d ≡ Some t → nat_eq t s ≡ false → touches d (own script s past) ≡ false
  not_touched = part.not_touched o script run e kept s i trx is free statement_is next few

  pub stored_kept : (d : ℕ) → IsStored o script new d
  stored_kept = part.stored_kept o script run e kept s i trx is free statement_is next few

  -- ---- counts, logs, sessions

  store_is : committed_by trx e.store ≡ moved trx (Some l.0) e.store
  store_is = after_is e.store e.sessions s trx l.0 kept.consistent.well kept.logs is l.1

  pub counts_kept : AreCounts o new.journal new.store
  counts_kept = record {
    commits = ap (λ (st : Store). st.commits) store_is;
    purged = ap (λ (st : Store). st.purged) store_is ∙ kept.counts.purged;
    more = subst (λ (m : ℕ). o.commits ≤ m) (sym (ap (λ (st : Store). st.commits) store_is)) (let more : o.commits ≤ e.store.commits = kept.counts.more in omega (arith, more));
  }

  pub logs_kept : AreLogs new.store new.sessions
  logs_kept = subst (λ (st : Store). AreLogs st new.sessions) (sym store_is) (logs_committed e.store e.sessions s trx l.0 kept.consistent.well kept.logs is l.1)

  next_same : new.store.next_trx ≡ e.store.next_trx
  next_same = ap (λ (st : Store). st.next_trx) store_is

  pub given_kept : (d : ℕ) → AreGiven new.store d
  given_kept d = subst (λ (m : ℕ). AllPast (λ x. x < m) (store.history new.store d)) (sym next_same)
      (subst (AllPast (λ x. x < e.store.next_trx)) (sym (same_history d)) (kept.given d))

  part_none : part script s new.journal ≡ []
  part_none = part_committed script past s i n statement_is

  pub at_kept : (t : ℕ) → IsSession script new.journal t (new.sessions t)
  at_kept = by_session (IsSession script new.journal) s resting e.sessions
      (record {
        count = count_committed script past s i n statement_is same_count;
        at = ap Rattle.journal_model.specs.Legal.has_deadlock part_none;
        level = sym (ap (Rattle.journal_model.specs.Part.level_in script s) part_none);
        since = λ still. ap Rattle.journal_model.specs.Part.view_since_start part_none;
      })
      (λ t apart. session_same script t past new.journal (elses t apart) (e.sessions t) (kept.at t))

  records_same : (t : ℕ) → nat_eq t s ≡ false → session_records new.store (e.sessions t).trx ≡ session_records e.store (e.sessions t).trx
  records_same t apart = by_trx (e.sessions t).trx refl
    where
      by_trx : (x : Option ℕ) → (e.sessions t).trx ≡ x → session_records new.store x ≡ session_records e.store x
      by_trx None has = refl
      by_trx (Some x) has =
          ap (λ (st : Store). records_of (log_of st.active x)) store_is
          ∙ ap records_of (log_other x trx e.store.active (other_trx e.store e.sessions s trx l.0 kept.consistent.well kept.logs is l.1 t x apart has))

  pub logged_kept : (t : ℕ) → IsLogged script new.journal t (new.sessions t) new.store
  logged_kept = by_session (λ t x. IsLogged script new.journal t x new.store) s resting e.sessions
      (record {
        records = sym (ap (λ (p : List Entry). Rattle.std.proofs.Common.reverse (map call_doc (Rattle.journal_model.specs.Part.calls_in script s p))) part_none);
        some = λ x has. absurd (cc has);
      })
      (λ t apart. logged_same script t past new.journal (elses t apart) (e.sessions t) e.store new.store (records_same t apart) (kept.logged t))

  -- ---- locks

  none_held : (d : ℕ) → holds script s d new.journal ≡ false
  none_held d = ap (λ (p : List Entry). has_change script (λ r. not (is_deadlock r) && not (is_memory r)) d p) part_none

  pub locks_kept : (d : ℕ) → AreLocks script new.journal new.locks new.sessions d
  locks_kept d = record {
    held = λ t h. by_held t (nat_eq t s) refl h;
    taken = by_session (λ t x. has_lock d x.task ≡ true → new.locks d ≡ Some t) s resting e.sessions (λ h. absurd (true≢false (sym h)))
        (λ t apart h. ap (unless s) ((kept.locks d).taken t h) ∙ unless_other s t apart);
    meant = λ t h.
        let was = unless_is s t (e.locks d) h in
        let meant = (kept.locks d).meant t was.0 in (
          meant.0,
          elim meant.1 [
            | inl g ↦ inl (holds_same script t past new.journal (elses t was.1) d ∙ g)
            | inr more ↦ inr (elim more [
              | inl g ↦ inl (may_hold_same script t past new.journal (elses t was.1) d ∙ g)
              | inr g ↦ inr (ap (λ (b : Bool). has_lock d (if b then resting else e.sessions t).task) was.1 ∙ g)
            ])
          ],
        );
  }
    where
      by_held : (t : ℕ) (b : Bool) → nat_eq t s ≡ b → holds script t d new.journal ≡ true → new.locks d ≡ Some t
      by_held t true same h = let one : t ≡ s = grind (arith, same) in absurd (true≢false (sym (ap (λ (u : ℕ). holds script u d new.journal) (sym one) ∙ h) ∙ none_held d))
      by_held t false apart h = ap (unless s) ((kept.locks d).held t (sym (holds_same script t past new.journal (elses t apart) d) ∙ h)) ∙ unless_other s t apart

  -- ---- views and reads

  view_in_kept : (v : ReadView) → IsViewIn o e.store v → IsViewIn o new.store v
  view_in_kept v h = record {
    high = subst (λ (m : ℕ). v.commits ≤ m) (sym (ap (λ (st : Store). st.commits) store_is)) (let high : v.commits ≤ e.store.commits = h.high in omega (arith, high));
    low = subst (λ (m : ℕ). m ≤ v.commits) (sym (floor_kept e.store e.sessions s trx l.0 kept.logs is l.1)) h.low;
    first = h.first;
    zero = h.zero;
    limit = subst (λ (m : ℕ). v.limit ≤ m) (sym next_same) h.limit;
    active = λ x stand.
        let now : stands x (without_log trx e.store.active) ≡ true = ap (λ (st : Store). stands x st.active) (sym store_is) ∙ stand in
        let other : x ≢ trx = (λ same. true≢false (sym now ∙ ap (λ (m : ℕ). stands m (without_log trx e.store.active)) same ∙ gone_stands trx e.store.active (distinct_parts e.store.active e.store.committed kept.consistent.well.logs).0)) in
        h.active x (sym (stands_without x trx e.store.active other) ∙ now);
    rows = λ d. subst (AllPast (λ x. sees_by None v x ≡ is_among new.store v.commits x)) (sym (same_history d))
        (all_past (λ x. sees_by None v x ≡ is_among e.store v.commits x) _ (store.history e.store d) (λ x same. same ∙ sym (commit_among_old trx v.commits e.store h.high x)) (h.rows d));
  }

  pub views_kept : (t : ℕ) → IsViewed o script new.journal new.store t (new.sessions t)
  views_kept = by_session (IsViewed o script new.journal new.store) s resting e.sessions
      (record {
        commits = sym (ap (λ (p : List Entry). Rattle.journal_model.specs.Part.view_under (Rattle.journal_model.specs.Part.level_in script s p) p) part_none);
        sees = λ v has. absurd (cc has);
      })
      (λ t apart. record {
        commits = (kept.views t).commits ∙ sym (view_same script t past new.journal (elses t apart));
        sees = λ v has. view_in_kept v ((kept.views t).sees v has);
      })

  -- what another session has changed this one hasn't
  apart_docs : (t d : ℕ) → nat_eq t s ≡ false → touches d (own script t past) ≡ true → touches d (own script s past) ≡ false
  apart_docs t d apart h = not_touched d t ((kept.locks d).held t (own_held script t d past h)) apart

  pub reads_kept : (t : ℕ) → IsRead o script new.journal new.store t (new.sessions t)
  reads_kept = by_session (IsRead o script new.journal new.store) s resting e.sessions (λ d f h. absurd (cc h))
      (λ t apart d f h.
      let r = kept.reads t d f h in
      let below : (k : ℕ) → view_of script t past ≡ Some k → nat_lt k n ≡ true = (λ k viewed.
      let same : r.view.commits ≡ k = cc (sym (ap (option_map (λ (v : ReadView). v.commits)) r.is) ∙ (kept.views t).commits ∙ viewed) in
      let high : r.view.commits ≤ e.store.commits = ((kept.views t).sees r.view r.is).high in
      lt-ltb k n (omega (arith, same, high))) in
      record {
        view = r.view;
        is = r.is;
        parts = r.parts;
        shows = r.shows ∙ ap bytes_of (sym (shown_same o script run past s i n statement_is t d (elses t apart) kept.calm.legal calm_kept.legal (apart_docs t d apart) below));
        flight = subst (λ doc. IsFlight (sees_by (e.sessions t).trx r.view) doc r.parts f) (sym (commit_same trx d e.store (kept.consistent.well.locked d))) r.flight;
      })

  -- ---- changes under way

  content_same : (d : ℕ) → newest_parts new.store d ≡ newest_parts e.store d
  content_same d = ap (λ (st : Store). newest_parts st d) store_is

  pub making_kept : (t : ℕ) → IsMaking o script new.journal new.store t (new.sessions t)
  making_kept = by_session (IsMaking o script new.journal new.store) s resting e.sessions (λ d left r h. absurd (cc h))
      (λ t apart d left r h.
      let m = kept.making t d left r h in
      let held : e.locks d ≡ Some t = (kept.locks d).taken t (ap (has_lock d) h ∙ (let same : nat_eq d d ≡ true = grind arith in same)) in
      let none = not_touched d t held apart in
      record {
        change = m.change;
        is = under_way_same script t past new.journal (elses t apart) ∙ m.is;
        doc = m.doc;
        reply = m.reply ∙ sym (reply_same m.change (newest o script t past) (newest o script t new.journal)
            (subst (λ (q : ℕ). look (newest o script t new.journal) q ≡ look (newest o script t past) q) (sym m.doc) (newest_same o script run past s i n statement_is t d kept.calm.legal calm_kept.legal none)));
        ok = m.ok;
        measured = will_measured d e.store new.store (record { parts = content_same d; row = λ is_live. ap (λ (st : Store). row_before st d) store_is }) left m.measured;
        ends = ap (option_map (completed left)) (content_same d) ∙ m.ends ∙ ap (λ (hh : History). bytes_of (one_made t m.change (newest_in t hh)).left)
            (sym (history_committed o script run past s i n statement_is d ∙ history_same o script run past s i n statement_is d (none_own o script run past s i n statement_is d kept.calm.legal none)));
      })

  -- ---- all of it

  pub commit_keeps : Kept o script new
  commit_keeps = record {
    calm = calm_kept;
    counts = counts_kept;
    consistent = commit_consistent trx e.store kept.consistent;
    given = given_kept;
    zero = (let l = stands_log trx e.store.active (kept.logs.own s trx is).0 in commit_old e.store e.sessions s trx l.0 kept.logs is l.1 0 kept.zero);
    logs = logs_kept;
    stored = stored_kept;
    at = at_kept;
    logged = logged_kept;
    locks = locks_kept;
    views = views_kept;
    reads = reads_kept;
    making = making_kept;
    fetched = by_session (λ t y. IsFetched new.store y) s resting e.sessions (λ d g h. absurd (cc h)) (λ t apart d ps h. fetch_kept d e.store new.store (record { parts = content_same d; row = λ is_live. ap (λ (st : Store). row_before st d) store_is }) ps (kept.fetched t d ps h));
  }
