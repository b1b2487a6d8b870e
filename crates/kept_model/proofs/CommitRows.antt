-- A commit: its entries may follow, and the documents' rows stay told.
use Rattle.std.proofs.Common.{◌≡◌, ◌≢◌, ◌⊎◌, inl, inr, ℕ, suc, ◌+◌, ◌≤◌, ◌<◌, Bool, true, false, true≢false, not, ◌&&◌, ◌||◌, nat_eq, nat_lt, nat_le, List, [], ◌∷◌, ◌++◌, map, length, Option, Some, None, option_map, option_and_then, refl, sym, ap, ap₂, subst, ◌∙◌, arith, if◌then◌else◌}
use Rattle.journal_model.specs.Documents.{Call, call_doc}
use Rattle.journal_model.specs.Journal.{Script, statement, statements, commit, done, Entry, Start, Did, Commit, Opening}
use Rattle.journal_model.specs.Part.{own, part, touches, answered, started, commits_of}
use Rattle.journal_model.specs.Held.{greater}
use Rattle.journal_model.specs.History.{Owner, Made, History, one_made, newest_in, committed, history}
use Rattle.history_model.specs.Laws.{IsRun}
use Rattle.history_model.specs.Sound.{OfOwners}
use Rattle.history_model.proofs.SeenLemmas.{IsNot, none_renamed}
use Rattle.history_model.proofs.OwnerLemmas.{own_held}
use Rattle.store_data.specs.Store.{Log, Store}
use Rattle.store_model.specs.History.{Past, content, row_before, is_among, stands}
use Rattle.store_model.specs.History as store
use Rattle.store_model.specs.Steps.{log_of}
use Rattle.store_model.proofs.CommitLemmas.{commit_keeps_all}
use Rattle.kept_model.specs.Engine.{ReadView, sees_by, Left, Task, idle, making, reading, Session, Engine, resting, with_session, unless, released}
use Rattle.kept_model.specs.Names.{names_of, floor, is_old, is_purging}
use Rattle.kept_model.specs.Stored.{Front, whole, begun, undone, front_of, front_by, front, IsStoredBy, known_from, IsStored}
use Rattle.kept_model.specs.Sessions.{IsSession, own_docs, record_docs, records_of, session_records, HasRecords, IsLogged, has_lock, AreLocks}
use Rattle.kept_model.specs.Views.{AllPast}
use Rattle.kept_model.specs.Kept.{IsCalm, Kept}
use Rattle.kept_model.specs.Commits.{commit_event}
use Rattle.kept_model.proofs.NameLemmas.{commit_names, commit_old, commit_purging, commit_purged, floor_kept, floor_made}
use Rattle.kept_model.proofs.LogLemmas.{stands_log}
use Rattle.kept_model.proofs.StoredLemmas.{whole_committed, other_committed}
use Rattle.kept_model.specs.Ended.{SaysSame}
use Rattle.kept_model.proofs.FrameLemmas.{says_same, under_way_same}
use Rattle.kept_model.proofs.SeenLemmas.{history_committed, none_own}
use Rattle.kept_model.proofs.CommitLegal.{commit_calm}

-- what follows from a fact follows for the transactions of all rows of which it holds
pub all_past : (P Q : ℕ → Type 0) (ps : List Past) → ((x : ℕ) → P x → Q x) → AllPast P ps → AllPast Q ps
all_past P Q [] so all = tt
all_past P Q (p ∷ ps) so all = (so p.trx all.0, all_past P Q ps so all.1)

-- a session that is at work on a document has its lock
pub begun_held : (d : ℕ) (l : Option ℕ) (tasks : ℕ → Session) (t : ℕ) → front_by d l tasks ≡ begun t → l ≡ Some t
begun_held d None tasks t is = absurd (cc is)
begun_held d (Some u) tasks t is = by_task (tasks u).task is
  where
    by_task : (k : Task) → front_of d u k ≡ begun t → Some u ≡ Some t
    by_task idle h = absurd (cc h)
    by_task (Rattle.kept_model.specs.Engine.asking e) h = absurd (cc h)
    by_task (Rattle.kept_model.specs.Engine.fetching e ps) h = absurd (cc h)
    by_task (making e left r) h = by_test (nat_eq e d) h
      where
        by_test : (b : Bool) → (if b then begun u else whole) ≡ begun t → Some u ≡ Some t
        by_test true g = cc g
        by_test false g = absurd (cc g)
    by_task (reading e f) h = absurd (cc h)
    by_task (Rattle.kept_model.specs.Engine.undoing v) h = absurd (cc h)

-- a session that undoes on a document has its lock
pub undone_held : (d : ℕ) (l : Option ℕ) (tasks : ℕ → Session) (t : ℕ) → front_by d l tasks ≡ undone t → l ≡ Some t
undone_held d None tasks t is = absurd (cc is)
undone_held d (Some u) tasks t is = by_task (tasks u).task is
  where
    by_task : (k : Task) → front_of d u k ≡ undone t → Some u ≡ Some t
    by_task idle h = absurd (cc h)
    by_task (Rattle.kept_model.specs.Engine.asking e) h = absurd (cc h)
    by_task (Rattle.kept_model.specs.Engine.fetching e ps) h = absurd (cc h)
    by_task (making e left r) h = by_test (nat_eq e d) h
      where
        by_test : (b : Bool) → (if b then begun u else whole) ≡ undone t → Some u ≡ Some t
        by_test true g = absurd (cc g)
        by_test false g = absurd (cc g)
    by_task (reading e f) h = absurd (cc h)
    by_task (Rattle.kept_model.specs.Engine.undoing v) h = cc h

-- where a session rests and lets go its locks, who is at work on a document stays so
pub front_released : (d s : ℕ) (l : Option ℕ) (tasks : ℕ → Session) → (tasks s).task ≡ idle → front_by d (unless s l) (with_session s resting tasks) ≡ front_by d l tasks
front_released d s None tasks free = refl
front_released d s (Some t) tasks free = by_test (nat_eq t s) refl
  where
    by_test : (b : Bool) → nat_eq t s ≡ b → front_by d (if b then None else Some t) (with_session s resting tasks) ≡ front_of d t (tasks t).task
    by_test true e = let one : t ≡ s = grind (arith, e) in ap (front_of d t) (sym (ap (λ (n : ℕ). (tasks n).task) one ∙ free))
    by_test false e = ap (λ (b : Bool). front_of d t (if b then resting else tasks t).task) e

-- the greater of two numbers that are below n is below n
pub less_both : (a b n : ℕ) → a < n → b < n → greater a b < n
less_both a b n h g = by_test (nat_lt a b)
  where
    by_test : (c : Bool) → (if c then b else a) < n
    by_test true = g
    by_test false = h

-- what holds of the owners of two lists of changes holds of those of each list
pub of_parts : (P : Owner → Type 0) (ms ns : List Made) → OfOwners P (ms ++ ns) → OfOwners P ms × OfOwners P ns
unfolding OfOwners
of_parts P [] ns all = (tt, all)
of_parts P (m ∷ ms) ns all = let rest = of_parts P ms ns all.1 in ((all.0, rest.0), rest.1)

-- what holds of the owners of each of two lists of changes holds of those of both
pub of_both : (P : Owner → Type 0) (ms ns : List Made) → OfOwners P ms → OfOwners P ns → OfOwners P (ms ++ ns)
unfolding OfOwners
of_both P [] ns all more = more
of_both P (m ∷ ms) ns all more = (all.0, of_both P ms ns all.1 more)

-- a change that one session makes isn't another session's
pub one_owner_is : (s t : ℕ) (c : Call) (h : History) → nat_eq t s ≡ false → OfOwners (IsNot s) (one_made t c (newest_in t h) ∷ [])
unfolding OfOwners
one_owner_is s t c h apart = (apart, tt)

-- a test that isn't true is false
pub false_of : (b : Bool) → (b ≡ true → ⊥) → b ≡ false
false_of true h = absurd (h refl)
false_of false h = refl

module _ (o : Opening) (script : Script) (run : IsRun o script) (e : Engine) (kept : Kept o script e) (s i trx : ℕ)
    (is : (e.sessions s).trx ≡ Some trx) (free : (e.sessions s).task ≡ idle)
    (statement_is : statement script s i ≡ Some commit) (next : i ≡ answered s e.journal + 1) (few : i ≤ length (statements s script)) where
  abbrev pub past : List Entry
  past = e.journal

  abbrev pub n : ℕ
  n = suc e.store.commits

  abbrev pub new : Engine
  new = commit_event s i trx e

  abbrev pub es : List Entry
  es = Did s i done ∷ Commit s n ∷ Start s i ∷ []

  pub l : (k : Log) × (log_of e.store.active trx ≡ Some k)
  l = stands_log trx e.store.active (kept.logs.own s trx is).0

  pub same_count : started s past ≡ answered s past
  same_count = (kept.at s).count ∙ ap (λ (k : Task). answered s past + Rattle.kept_model.specs.Sessions.under_way_in k) free ∙ (let z : answered s past + 0 ≡ answered s past = grind arith in z)

  pub no_deadlock : Rattle.journal_model.specs.Legal.has_deadlock (part script s past) ≡ false
  no_deadlock = subst (Rattle.kept_model.specs.Sessions.IsAt script past s) free (kept.at s).at

  pub some_own : own script s past ≢ []
  some_own none =
      let there : record_docs (session_records e.store (e.sessions s).trx) ≡ own_docs script s past =
      subst (λ (k : Task). HasRecords k (own_docs script s past) (record_docs (session_records e.store (e.sessions s).trx))) free (kept.logged s).records in
      (kept.logged s).some trx is (no_docs (session_records e.store (e.sessions s).trx)
      (there ∙ ap (λ (cs : List Call). Rattle.std.proofs.Common.reverse (map call_doc cs)) none))
    where
      no_docs : (us : List (Rattle.page_model.specs.Pages.Address × Rattle.store_data.specs.Store.Record)) → record_docs us ≡ [] → us ≡ []
      no_docs [] h = refl
      no_docs (u ∷ us) h = absurd (cc h)

  pub count_is : n ≡ commits_of o past + 1
  count_is = ap suc kept.counts.commits ∙ (let z : suc (commits_of o past) ≡ commits_of o past + 1 = grind arith in z)

  pub calm_kept : IsCalm o script new.journal
  calm_kept = commit_calm o script past kept.calm s i n same_count next few no_deadlock statement_is some_own count_is

  pub same_history : (d : ℕ) → store.history new.store d ≡ store.history e.store d
  same_history d = commit_keeps_all trx d e.store (kept.consistent.well.locked d)

  pub elses : (t : ℕ) → nat_eq t s ≡ false → SaysSame script t past new.journal
  elses t apart = let other : nat_eq s t ≡ false = grind (arith, apart) in says_same script t es past (other, (other, (other, tt)))

  -- a document that another session has the lock of isn't changed by this one
  pub not_touched : (d t : ℕ) → e.locks d ≡ Some t → nat_eq t s ≡ false → touches d (own script s past) ≡ false
  not_touched d t held apart = false_of (touches d (own script s past)) (λ h.
      let mine = (kept.locks d).held s (own_held script s d past h) in
      let one : t ≡ s = cc (sym held ∙ mine) in
      let here : nat_eq t s ≡ true = grind (arith, one) in
      true≢false (sym here ∙ apart))

  -- ---- documents

  pub from_same : known_from o new.store ≡ known_from o e.store
  from_same = ap (greater o.commits) (floor_kept e.store e.sessions s trx l.0 kept.logs is l.1)

  pub late : known_from o e.store < n
  late = less_both o.commits (floor e.store) n
      (let more : o.commits ≤ e.store.commits = kept.counts.more in omega (arith, more))
      (let low : floor e.store ≤ e.store.commits = floor_made e.store kept.logs.numbered in omega (arith, low))

  pub stored_as : (d : ℕ) (f : Front) → front e d ≡ f
      → IsStoredBy (known_from o e.store) script past (history o script past d) f (is_purging e.store.committed) (suc e.store.purged) (is_old e.store) (names_of e) (store.history e.store d)
      → IsStoredBy (known_from o e.store) script new.journal (committed s n (history o script past d)) f (is_purging e.store.committed) (suc e.store.purged) (is_old new.store) (names_of new) (store.history e.store d)
  stored_as d whole f_is k =
      whole_committed (known_from o e.store) script past new.journal (is_purging e.store.committed) (suc e.store.purged) (is_old e.store) (is_old new.store) (names_of e) (names_of new) (store.history e.store d) s n late
      (commit_names e.store e.sessions s trx l.0 kept.logs is l.1) (commit_old e.store e.sessions s trx l.0 kept.logs is l.1)
      (history o script past d) k
  stored_as d (begun t) f_is k =
      let held = begun_held d (e.locks d) e.sessions t f_is in
      let apart : nat_eq t s ≡ false = false_of (nat_eq t s) (λ same.
      let one : t ≡ s = grind (arith, same) in
      let rests : front_by d (e.locks d) e.sessions ≡ whole = ap (λ (m : Option ℕ). front_by d m e.sessions) (held ∙ ap (λ (u : ℕ). Some u) one) ∙ ap (front_of d s) free in
      absurd (cc (sym f_is ∙ rests))) in
      let none = none_own o script run past s i n statement_is d kept.calm.legal (not_touched d t held apart) in
      let parts = of_parts (IsNot s) k.gone (k.left ++ k.passed) (subst (OfOwners (IsNot s)) k.changes none) in
      let left = of_parts (IsNot s) k.left k.passed parts.1 in
      other_committed (known_from o e.store) script past new.journal (is_purging e.store.committed) (suc e.store.purged) (is_old e.store) (is_old new.store) (names_of e) (names_of new) (store.history e.store d) s n late
      (commit_names e.store e.sessions s trx l.0 kept.logs is l.1) (commit_old e.store e.sessions s trx l.0 kept.logs is l.1)
      (history o script past d) (begun t) (none_renamed s n (history o script past d).changes none)
      (λ ms made. (made.0, under_way_same script t past new.journal (elses t apart) ∙ made.1, made.2))
      k (none_renamed s n (k.ahead ++ k.left) (of_both (IsNot s) k.ahead k.left (subst (OfOwners (IsNot s)) (sym k.is_ahead.2) (one_owner_is s t k.is_ahead.0 (history o script past d) apart)) left.0))
  stored_as d (undone t) f_is k =
      let held = undone_held d (e.locks d) e.sessions t f_is in
      let apart : nat_eq t s ≡ false = false_of (nat_eq t s) (λ same.
      let one : t ≡ s = grind (arith, same) in
      let rests : front_by d (e.locks d) e.sessions ≡ whole = ap (λ (m : Option ℕ). front_by d m e.sessions) (held ∙ ap (λ (u : ℕ). Some u) one) ∙ ap (front_of d s) free in
      absurd (cc (sym f_is ∙ rests))) in
      let none = none_own o script run past s i n statement_is d kept.calm.legal (not_touched d t held apart) in
      let parts = of_parts (IsNot s) k.gone (k.left ++ k.passed) (subst (OfOwners (IsNot s)) k.changes none) in
      let left = of_parts (IsNot s) k.left k.passed parts.1 in
      other_committed (known_from o e.store) script past new.journal (is_purging e.store.committed) (suc e.store.purged) (is_old e.store) (is_old new.store) (names_of e) (names_of new) (store.history e.store d) s n late
      (commit_names e.store e.sessions s trx l.0 kept.logs is l.1) (commit_old e.store e.sessions s trx l.0 kept.logs is l.1)
      (history o script past d) (undone t) (none_renamed s n (history o script past d).changes none)
      (λ ms made. made)
      k (none_renamed s n (k.ahead ++ k.left) (subst (λ (a : List Made). OfOwners (IsNot s) (a ++ k.left)) (sym k.is_ahead) left.0))

  pub stored_kept : (d : ℕ) → IsStored o script new d
  stored_kept d =
      subst (λ (first : ℕ). IsStoredBy first script new.journal (history o script new.journal d) (front new d) (is_purging new.store.committed) (suc new.store.purged) (is_old new.store) (names_of new) (store.history new.store d)) (sym from_same)
      (subst (λ (h : History). IsStoredBy (known_from o e.store) script new.journal h (front new d) (is_purging new.store.committed) (suc new.store.purged) (is_old new.store) (names_of new) (store.history new.store d)) (sym (history_committed o script run past s i n statement_is d))
      (subst (λ (f : Front). IsStoredBy (known_from o e.store) script new.journal (committed s n (history o script past d)) f (is_purging new.store.committed) (suc new.store.purged) (is_old new.store) (names_of new) (store.history new.store d)) (sym (front_released d s (e.locks d) e.sessions free))
      (subst (λ (b : Bool). IsStoredBy (known_from o e.store) script new.journal (committed s n (history o script past d)) (front e d) b (suc new.store.purged) (is_old new.store) (names_of new) (store.history new.store d)) (sym (commit_purging e.store e.sessions s trx l.0 kept.logs is l.1))
      (subst (λ (p : ℕ). IsStoredBy (known_from o e.store) script new.journal (committed s n (history o script past d)) (front e d) (is_purging e.store.committed) (suc p) (is_old new.store) (names_of new) (store.history new.store d)) (sym (commit_purged e.store e.sessions s trx l.0 kept.logs is l.1))
      (subst (λ (rows : List Past). IsStoredBy (known_from o e.store) script new.journal (committed s n (history o script past d)) (front e d) (is_purging e.store.committed) (suc e.store.purged) (is_old new.store) (names_of new) rows) (sym (same_history d))
      (stored_as d (front e d) refl (kept.stored d)))))))
