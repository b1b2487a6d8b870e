-- The commit behind an answer: its entry, and the documents' rows.
use Rattle.std.proofs.Common.{◌≡◌, ◌≢◌, ◌⊎◌, inl, inr, ℕ, suc, ◌+◌, ◌≤◌, ◌<◌, Bool, true, false, true≢false, not, ◌&&◌, ◌||◌, nat_eq, nat_lt, nat_le, List, [], ◌∷◌, ◌++◌, map, length, Option, Some, None, option_map, option_and_then, refl, sym, ap, ap₂, subst, ◌∙◌, arith, if◌then◌else◌, IfSome}
use Rattle.journal_model.specs.Documents.{Call, call_doc}
use Rattle.journal_model.specs.Journal.{Script, Entry, Did, Commit, Opening, restarted}
use Rattle.journal_model.specs.Part.{own, part, touches, answered, started, commits_of, unanswered}
use Rattle.journal_model.specs.Held.{greater}
use Rattle.journal_model.specs.History.{Made, History, committed, history}
use Rattle.history_model.specs.Laws.{IsRun}
use Rattle.history_model.specs.Sound.{OfOwners}
use Rattle.history_model.proofs.SeenLemmas.{IsNot, none_renamed}
use Rattle.history_model.proofs.OwnerLemmas.{own_held}
use Rattle.store_data.specs.Store.{Log, Store}
use Rattle.store_model.specs.History.{Past, content, row_before, is_among, stands}
use Rattle.store_model.specs.History as store
use Rattle.store_model.specs.Steps.{log_of}
use Rattle.store_model.proofs.CommitLemmas.{commit_keeps_all}
use Rattle.kept_model.specs.Engine.{Task, idle, Engine}
use Rattle.kept_model.specs.Names.{names_of, floor, is_old, is_purging}
use Rattle.kept_model.specs.Stored.{Front, whole, begun, undone, front_of, front_by, front, IsStoredBy, known_from, IsStored}
use Rattle.kept_model.specs.Sessions.{IsSession, own_docs, record_docs, records_of, session_records, HasRecords, IsLogged, has_lock, AreLocks}
use Rattle.kept_model.specs.Kept.{IsCalm, KeptAt}
use Rattle.kept_model.specs.Commits.{due_event}
use Rattle.kept_model.proofs.NameLemmas.{commit_names, commit_old, commit_purging, commit_purged, floor_kept, floor_made}
use Rattle.kept_model.proofs.LogLemmas.{stands_log}
use Rattle.kept_model.proofs.StoredLemmas.{whole_committed, other_committed}
use Rattle.kept_model.specs.Ended.{SaysSame}
use Rattle.kept_model.proofs.FrameLemmas.{says_same, under_way_same}
use Rattle.kept_model.proofs.SessionLemmas.{is_eq, apart_of}
use Rattle.kept_model.proofs.DueLemmas.{history_committed, none_own}
use Rattle.kept_model.proofs.CommitLegal.{if_none, if_some}
use Rattle.journal_model.specs.Legal.{Allowed, commit_due, restart_due}
use Rattle.kept_model.proofs.CommitRows.{begun_held, undone_held, front_released, less_both, of_parts, of_both, one_owner_is, false_of}

-- a number that equals one which is at most m is below m + 1
pub less_of : (a b m : ℕ) → a ≡ b → a ≤ m → nat_lt b (suc m) ≡ true
less_of a b m same high = grind (arith, same, high)

module _ (o : Opening) (script : Script) (run : IsRun o script) (e : Engine) (s trx : ℕ) (kept : KeptAt (Some s) o script e)
    (is : (e.sessions s).trx ≡ Some trx) (free : (e.sessions s).task ≡ idle) where
  abbrev pub past : List Entry
  past = e.journal

  abbrev pub n : ℕ
  n = suc e.store.commits

  abbrev pub new : Engine
  new = due_event s trx e

  abbrev pub es : List Entry
  es = Commit s n ∷ []

  pub l : (k : Log) × (log_of e.store.active trx ≡ Some k)
  l = stands_log trx e.store.active (kept.logs.own s trx is).0

  pub same_count : started s past ≡ answered s past
  same_count = (kept.at s).count ∙ ap (λ (k : Task). answered s past + Rattle.kept_model.specs.Sessions.under_way_in k) free ∙ (let z : answered s past + 0 ≡ answered s past = grind arith in z)

  pub no_deadlock : Rattle.journal_model.specs.Legal.has_deadlock (part script s past) ≡ false
  no_deadlock = subst (Rattle.kept_model.specs.Sessions.IsAt script past s) free (kept.at s).at

  pub some_own : own script s past ≢ []
  some_own none =
      let there : record_docs (session_records e.store (e.sessions s).trx) ≡ own_docs script s past =
      subst (λ (k : Task). HasRecords k (own_docs script s past) (record_docs (session_records e.store (e.sessions s).trx))) free (kept.logged s).records in
      (kept.logged s).some trx is (no_docs (session_records e.store (e.sessions s).trx)
      (there ∙ ap (λ (cs : List Call). Rattle.std.proofs.Common.reverse (map call_doc cs)) none))
    where
      no_docs : (us : List (Rattle.page_model.specs.Pages.Address × Rattle.store_data.specs.Store.Record)) → record_docs us ≡ [] → us ≡ []
      no_docs [] h = refl
      no_docs (u ∷ us) h = absurd (cc h)

  pub count_is : n ≡ commits_of o past + 1
  count_is = ap suc kept.counts.commits ∙ (let z : suc (commits_of o past) ≡ commits_of o past + 1 = grind arith in z)

  pub commit_allowed : Allowed o script (Commit s n) past
  commit_allowed = (
    (
      if_some (λ t. Commit s n ≡ Commit t (commits_of o past + 1)) (commit_due o script past) s kept.calm.commit (ap (Commit s) count_is),
      if_none (λ t. IfSome (unanswered t past) (λ k. Commit s n ≡ Did t k restarted)) (restart_due o script past) kept.calm.restart,
    ),
    (count_is, some_own, inl kept.calm.commit),
  )

  pub calm_kept : IsCalm o script new.journal
  calm_kept = record { legal = (kept.calm.legal, commit_allowed); commit = refl; restart = refl }

  pub same_history : (d : ℕ) → store.history new.store d ≡ store.history e.store d
  same_history d = commit_keeps_all trx d e.store (kept.consistent.well.locked d)

  pub elses : (t : ℕ) → nat_eq t s ≡ false → SaysSame script t past new.journal
  elses t apart = let other : nat_eq s t ≡ false = grind (arith, apart) in says_same script t es past (other, tt)

  -- a document that another session has the lock of isn't changed by this one
  pub not_touched : (d t : ℕ) → e.locks d ≡ Some t → nat_eq t s ≡ false → touches d (own script s past) ≡ false
  not_touched d t held apart = false_of (touches d (own script s past)) (λ h.
      let mine = (kept.locks d).held s (own_held script s d past h) in
      let one : t ≡ s = cc (sym held ∙ mine) in
      apart_of t s one apart)

  -- ---- documents

  pub from_same : known_from o new.store ≡ known_from o e.store
  from_same = ap (greater o.commits) (floor_kept e.store e.sessions s trx l.0 kept.logs is l.1)

  pub late : known_from o e.store < n
  late = less_both o.commits (floor e.store) n
      (let more : o.commits ≤ e.store.commits = kept.counts.more in omega (arith, more))
      (let low : floor e.store ≤ e.store.commits = floor_made e.store kept.logs.numbered in omega (arith, low))

  pub stored_as : (d : ℕ) (f : Front) → front e d ≡ f
      → IsStoredBy (known_from o e.store) script past (history o script past d) f (is_purging e.store.committed) (suc e.store.purged) (is_old e.store) (names_of e) (store.history e.store d)
      → IsStoredBy (known_from o e.store) script new.journal (committed s n (history o script past d)) f (is_purging e.store.committed) (suc e.store.purged) (is_old new.store) (names_of new) (store.history e.store d)
  stored_as d whole f_is k =
      whole_committed (known_from o e.store) script past new.journal (is_purging e.store.committed) (suc e.store.purged) (is_old e.store) (is_old new.store) (names_of e) (names_of new) (store.history e.store d) s n late
      (commit_names e.store e.sessions s trx l.0 kept.logs is l.1) (commit_old e.store e.sessions s trx l.0 kept.logs is l.1)
      (history o script past d) k
  stored_as d (begun t) f_is k =
      let held = begun_held d (e.locks d) e.sessions t f_is in
      let apart : nat_eq t s ≡ false = false_of (nat_eq t s) (λ same.
      let one : t ≡ s = is_eq t s same in
      let rests : front_by d (e.locks d) e.sessions ≡ whole = ap (λ (m : Option ℕ). front_by d m e.sessions) (held ∙ ap (λ (u : ℕ). Some u) one) ∙ ap (front_of d s) free in
      absurd (cc (sym f_is ∙ rests))) in
      let none = none_own o script run past s n d kept.calm.legal (not_touched d t held apart) in
      let parts = of_parts (IsNot s) k.gone (k.left ++ k.passed) (subst (OfOwners (IsNot s)) k.changes none) in
      let left = of_parts (IsNot s) k.left k.passed parts.1 in
      other_committed (known_from o e.store) script past new.journal (is_purging e.store.committed) (suc e.store.purged) (is_old e.store) (is_old new.store) (names_of e) (names_of new) (store.history e.store d) s n late
      (commit_names e.store e.sessions s trx l.0 kept.logs is l.1) (commit_old e.store e.sessions s trx l.0 kept.logs is l.1)
      (history o script past d) (begun t) (none_renamed s n (history o script past d).changes none)
      (λ ms made. (made.0, under_way_same script t past new.journal (elses t apart) ∙ made.1, made.2))
      k (none_renamed s n (k.ahead ++ k.left) (of_both (IsNot s) k.ahead k.left (subst (OfOwners (IsNot s)) (sym k.is_ahead.2) (one_owner_is s t k.is_ahead.0 (history o script past d) apart)) left.0))
  stored_as d (undone t) f_is k =
      let held = undone_held d (e.locks d) e.sessions t f_is in
      let apart : nat_eq t s ≡ false = false_of (nat_eq t s) (λ same.
      let one : t ≡ s = is_eq t s same in
      let rests : front_by d (e.locks d) e.sessions ≡ whole = ap (λ (m : Option ℕ). front_by d m e.sessions) (held ∙ ap (λ (u : ℕ). Some u) one) ∙ ap (front_of d s) free in
      absurd (cc (sym f_is ∙ rests))) in
      let none = none_own o script run past s n d kept.calm.legal (not_touched d t held apart) in
      let parts = of_parts (IsNot s) k.gone (k.left ++ k.passed) (subst (OfOwners (IsNot s)) k.changes none) in
      let left = of_parts (IsNot s) k.left k.passed parts.1 in
      other_committed (known_from o e.store) script past new.journal (is_purging e.store.committed) (suc e.store.purged) (is_old e.store) (is_old new.store) (names_of e) (names_of new) (store.history e.store d) s n late
      (commit_names e.store e.sessions s trx l.0 kept.logs is l.1) (commit_old e.store e.sessions s trx l.0 kept.logs is l.1)
      (history o script past d) (undone t) (none_renamed s n (history o script past d).changes none)
      (λ ms made. made)
      k (none_renamed s n (k.ahead ++ k.left) (subst (λ (a : List Made). OfOwners (IsNot s) (a ++ k.left)) (sym k.is_ahead) left.0))

  pub stored_kept : (d : ℕ) → IsStored o script new d
  stored_kept d =
      subst (λ (first : ℕ). IsStoredBy first script new.journal (history o script new.journal d) (front new d) (is_purging new.store.committed) (suc new.store.purged) (is_old new.store) (names_of new) (store.history new.store d)) (sym from_same)
      (subst (λ (h : History). IsStoredBy (known_from o e.store) script new.journal h (front new d) (is_purging new.store.committed) (suc new.store.purged) (is_old new.store) (names_of new) (store.history new.store d)) (sym (history_committed o script run past s n d))
      (subst (λ (f : Front). IsStoredBy (known_from o e.store) script new.journal (committed s n (history o script past d)) f (is_purging new.store.committed) (suc new.store.purged) (is_old new.store) (names_of new) (store.history new.store d)) (sym (front_released d s (e.locks d) e.sessions free))
      (subst (λ (b : Bool). IsStoredBy (known_from o e.store) script new.journal (committed s n (history o script past d)) (front e d) b (suc new.store.purged) (is_old new.store) (names_of new) (store.history new.store d)) (sym (commit_purging e.store e.sessions s trx l.0 kept.logs is l.1))
      (subst (λ (p : ℕ). IsStoredBy (known_from o e.store) script new.journal (committed s n (history o script past d)) (front e d) (is_purging e.store.committed) (suc p) (is_old new.store) (names_of new) (store.history new.store d)) (sym (commit_purged e.store e.sessions s trx l.0 kept.logs is l.1))
      (subst (λ (rows : List Past). IsStoredBy (known_from o e.store) script new.journal (committed s n (history o script past d)) (front e d) (is_purging e.store.committed) (suc e.store.purged) (is_old new.store) (names_of new) rows) (sym (same_history d))
      (stored_as d (front e d) refl (kept.stored d)))))))
