-- A change whose statement is started, and that is granted its lock.
use Rattle.std.proofs.Common.{◌≡◌, ◌≢◌, ◌⊎◌, inl, inr, ℕ, suc, ◌+◌, ◌≤◌, Bool, true, false, true≢false, not, ◌&&◌, nat_eq, List, [], ◌∷◌, length, Option, Some, None, option_and_then, refl, sym, ap, ap₂, subst, ◌∙◌, arith, if◌then◌else◌}
use Rattle.journal_model.specs.Documents.{Call, call_doc}
use Rattle.journal_model.specs.Journal.{Script, Level, rr, rc, call, statement, statements, Entry, Start, Opening}
use Rattle.journal_model.specs.Held.{is_in}
use Rattle.journal_model.specs.Part.{is_deadlock, is_memory, level_in, next_part, part, started, answered, view_of, view_under, view_since_start}
use Rattle.journal_model.specs.Locks.{sessions, changes, has_change, asks, holds, may_hold}
use Rattle.journal_model.specs.Legal.{has_deadlock}
use Rattle.journal_model.specs.History.{Made, history}
use Rattle.history_model.proofs.OwnLemmas.{start_stays}
use Rattle.kept_model.specs.Engine.{Task, idle, fetching, Session, Engine, with_session}
use Rattle.kept_model.specs.Stored.{Front, whole, begun, undone, front_of, front_by, front, IsAhead}
use Rattle.kept_model.specs.Sessions.{IsAt, under_way_in, is_reading, own_docs, record_docs, session_records, HasRecords, has_lock, AreLocks}
use Rattle.kept_model.specs.Kept.{Kept}
use Rattle.kept_model.specs.Ended.{SaysSame}
use Rattle.kept_model.specs.Quiet.{granted, quiet_event, IsQuiet}
use Rattle.kept_model.proofs.FrameLemmas.{says_same, under_way_same}
use Rattle.kept_model.proofs.SessionLemmas.{self_eq, is_eq, apart_of, not_eq, by_session, holds_same, may_hold_same}
use Rattle.kept_model.proofs.CommitLegal.{unanswered_started, start_allowed}
use Rattle.kept_model.proofs.CommitRows.{begun_held}
use Rattle.kept_model.specs.Fetches.{IsFetch, fetch_begun}
use Rattle.kept_model.proofs.FetchRows.{fetch_begins}

module _ (o : Opening) (script : Script) (e : Engine) (kept : Kept o script e) (s i : ℕ) (c : Call) (free : (e.sessions s).task ≡ idle) (statement_is : statement script s i ≡ Some (call c))
    (next : i ≡ answered s e.journal + 1) (few : i ≤ length (statements s script)) (numbered : is_in s sessions ≡ true)
    (grant : (e.locks (call_doc c) ≡ None) ⊎ (e.locks (call_doc c) ≡ Some s)) where
  abbrev d : ℕ
  d = call_doc c

  abbrev past' : List Entry
  past' = Start s i ∷ e.journal

  abbrev x' : Session
  x' = record (e.sessions s) { task = fetching d (fetch_begun e.store d) }

  same_count : started s e.journal ≡ answered s e.journal
  same_count = (kept.at s).count ∙ ap (λ (k : Task). answered s e.journal + under_way_in k) free ∙ plus_none (answered s e.journal)
    where
      plus_none : (n : ℕ) → n + 0 ≡ n
      plus_none n = grind arith

  no_deadlock : has_deadlock (part script s e.journal) ≡ false
  no_deadlock = subst (IsAt script e.journal s) free (kept.at s).at

  part_is : part script s past' ≡ Start s i ∷ part script s e.journal
  unfolding next_part
  part_is = rw (self_eq s) refl

  others : (t : ℕ) → nat_eq t s ≡ false → SaysSame script t e.journal past'
  others t apart = says_same script t (Start s i ∷ []) e.journal (not_eq s t (λ same. apart_of t s (sym same) apart), tt)

  asks_now : asks script s past' ≡ Some d
  asks_now = ap (λ (u : Option ℕ). option_and_then (λ k. changes (statement script s k)) u) (unanswered_started s i e.journal same_count next) ∙ ap changes statement_is

  -- whoever has the lock of a document has it still
  held_still : (t q : ℕ) → e.locks q ≡ Some t → granted d s e.locks q ≡ Some t
  held_still t q h = by_test (nat_eq q d) refl
    where
      by_test : (b : Bool) → nat_eq q d ≡ b → (if b then Some s else e.locks q) ≡ Some t
      by_test false g = h
      by_test true g =
          let here : e.locks d ≡ Some t = ap e.locks (sym (is_eq q d g)) ∙ h in
          elim grant [ inl none ↦ absurd (cc (sym none ∙ here)) | inr mine ↦ sym mine ∙ here ]

  same_holds : (t q : ℕ) → holds script t q past' ≡ holds script t q e.journal
  same_holds t q = by_test (nat_eq t s) refl
    where
      by_test : (b : Bool) → nat_eq t s ≡ b → holds script t q past' ≡ holds script t q e.journal
      by_test false g = holds_same script t e.journal past' (others t g) q
      by_test true g = subst (λ (n : ℕ). holds script n q past' ≡ holds script n q e.journal) (sym (is_eq t s g))
          (ap (λ (p : List Entry). has_change script (λ r. not (is_deadlock r) && not (is_memory r)) q p) part_is)

  same_may : (t q : ℕ) → may_hold script t q past' ≡ may_hold script t q e.journal
  same_may t q = by_test (nat_eq t s) refl
    where
      by_test : (b : Bool) → nat_eq t s ≡ b → may_hold script t q past' ≡ may_hold script t q e.journal
      by_test false g = may_hold_same script t e.journal past' (others t g) q
      by_test true g = subst (λ (n : ℕ). may_hold script n q past' ≡ may_hold script n q e.journal) (sym (is_eq t s g))
          (ap (λ (p : List Entry). has_change script is_memory q p && not (has_change script (λ r. not (is_deadlock r) && not (is_memory r)) q p)) part_is)

  lock_so : (q t : ℕ) → has_lock q (e.sessions t).task ≡ true → has_lock q (with_session s x' e.sessions t).task ≡ true
  lock_so q = by_session (λ t x. has_lock q (e.sessions t).task ≡ true → has_lock q x.task ≡ true) s x' e.sessions (λ h. absurd (true≢false (sym h ∙ ap (has_lock q) free))) (λ t apart h. h)

  locked : (q : ℕ) → AreLocks script past' (granted d s e.locks) (with_session s x' e.sessions) q
  locked q = record {
    held = λ t h. held_still t q ((kept.locks q).held t (sym (same_holds t q) ∙ h));
    taken = by_session (λ t x. has_lock q x.task ≡ true → granted d s e.locks q ≡ Some t) s x' e.sessions
        (λ h. ap (λ (b : Bool). if b then Some s else e.locks q) (ap (λ (n : ℕ). nat_eq n d) (sym (is_eq d q h)) ∙ self_eq d))
        (λ t apart h. held_still t q ((kept.locks q).taken t h));
    meant = λ t h. by_test t (nat_eq q d) refl h;
  }
    where
      by_test : (t : ℕ) (b : Bool) → nat_eq q d ≡ b → (if b then Some s else e.locks q) ≡ Some t
          → (is_in t sessions ≡ true) × ((holds script t q past' ≡ true) ⊎ ((may_hold script t q past' ≡ true) ⊎ (has_lock q (with_session s x' e.sessions t).task ≡ true)))
      by_test t true g h =
          let one : s ≡ t = cc h in (
            subst (λ (n : ℕ). is_in n sessions ≡ true) one numbered,
            inr (inr (subst (λ (n : ℕ). has_lock q (with_session s x' e.sessions n).task ≡ true) one
                (ap (λ (b : Bool). has_lock q (if b then x' else e.sessions s).task) (self_eq s) ∙ ap (λ (n : ℕ). nat_eq d n) (is_eq q d g) ∙ self_eq d))),
          )
      by_test t false g h = let m = (kept.locks q).meant t h in (
        m.0,
        elim m.1 [
          | inl k ↦ inl (same_holds t q ∙ k)
          | inr more ↦ inr (elim more [ inl k ↦ inl (same_may t q ∙ k) | inr k ↦ inr (lock_so q t k) ])
        ],
      )

  front_same : (q : ℕ) → front (quiet_event s x' (granted d s e.locks) past' e) q ≡ front e q
  front_same q = by_test (nat_eq q d) refl
    where
      by_lock : (m : Option ℕ) → front_by q m (with_session s x' e.sessions) ≡ front_by q m e.sessions
      by_lock None = refl
      by_lock (Some t) = by_session (λ t x. front_of q t x.task ≡ front_of q t (e.sessions t).task) s x' e.sessions (sym (ap (front_of q s) free)) (λ t apart. refl) t

      by_test : (b : Bool) → nat_eq q d ≡ b → front_by q (if b then Some s else e.locks q) (with_session s x' e.sessions) ≡ front_by q (e.locks q) e.sessions
      by_test false g = by_lock (e.locks q)
      by_test true g = by_lock (Some s) ∙ ap (front_of q s) free ∙ sym (ap (λ (m : Option ℕ). front_by q m e.sessions) (ap e.locks (is_eq q d g)) ∙ was_whole)
        where
          was_whole : front_by q (e.locks d) e.sessions ≡ whole
          was_whole = elim grant [
            | inl none ↦ ap (λ (m : Option ℕ). front_by q m e.sessions) none
            | inr mine ↦ ap (λ (m : Option ℕ). front_by q m e.sessions) mine ∙ ap (front_of q s) free
          ]

  ahead_same : (q : ℕ) (f : Front) → front e q ≡ f → (ms : List Made) → IsAhead script e.journal (history o script e.journal q) f ms → IsAhead script past' (history o script e.journal q) f ms
  ahead_same q whole f_is ms h = h
  ahead_same q (begun t) f_is ms h = (h.0, under_way_same script t e.journal past' (others t (not_eq t s not_idle)) ∙ h.1, h.2)
    where
      not_idle : t ≡ s → ⊥
      not_idle one =
          let mine = begun_held q (e.locks q) e.sessions t f_is ∙ ap (λ (n : ℕ). Some n) one in
          cc (sym f_is ∙ ap (λ (m : Option ℕ). front_by q m e.sessions) mine ∙ ap (front_of q s) free)
  ahead_same q (undone t) f_is ms h = h

  view_now : view_of script s past' ≡ view_of script s e.journal
  view_now = ap₂ (λ (k : Option Level) (p : List Entry). view_under k p) (start_stays script s e.journal s i).level_stays part_is ∙ by_level (level_in script s (part script s e.journal))
    where
      by_level : (k : Option Level) → view_under k (Start s i ∷ part script s e.journal) ≡ view_under k (part script s e.journal)
      by_level (Some rr) = refl
      by_level (Some rc) = sym ((kept.at s).since (ap is_reading free))
      by_level None = sym ((kept.at s).since (ap is_reading free))

  pub change_granted : IsQuiet o script s x' (granted d s e.locks) past' e
  change_granted = record {
    calm = record { legal = (kept.calm.legal, start_allowed o script e.journal kept.calm s i 0 same_count next few no_deadlock); commit = refl; restart = refl };
    others = others;
    changes = λ q. refl;
    behind = λ k. refl;
    commits = refl;
    purged = refl;
    trx = refl;
    at = record {
      count = ap (λ (b : Bool). if b then started s e.journal + 1 else started s e.journal) (self_eq s) ∙ ap (λ (n : ℕ). n + 1) same_count;
      at = (asks_now, ap has_deadlock part_is ∙ no_deadlock);
      level = (kept.at s).level ∙ sym (start_stays script s e.journal s i).level_stays;
      since = λ still. ap view_since_start part_is;
    };
    logged = record {
      records = subst (λ (ds : List ℕ). HasRecords (fetching d (fetch_begun e.store d)) ds (record_docs (session_records e.store (e.sessions s).trx))) (sym own_now)
          (subst (λ (k : Task). HasRecords k (own_docs script s e.journal) (record_docs (session_records e.store (e.sessions s).trx))) free (kept.logged s).records);
      some = (kept.logged s).some;
    };
    views = record { commits = (kept.views s).commits ∙ sym view_now; sees = (kept.views s).sees };
    reads = λ q f h. absurd (cc h);
    making = λ q left r h. absurd (cc h);
    fetched = λ q f h. (let doc : d ≡ q = cc h in let now : fetch_begun e.store d ≡ f = cc h in subst (IsFetch e.store q) now (subst (λ n. IsFetch e.store n (fetch_begun e.store d)) doc (fetch_begins e.store d)));
    locked = locked;
    turns = λ q. inl (front_same q);
    ahead = λ q ms h. ahead_same q (front e q) refl ms h;
  }
    where
      own_now : own_docs script s past' ≡ own_docs script s e.journal
      own_now = ap (λ (cs : List Call). Rattle.std.proofs.Common.reverse (Rattle.std.proofs.Common.map call_doc cs)) (start_stays script s e.journal s i).own_stays
