-- The answer to a change in a transaction keeps all parts: sessions, locks, views, reads.
use Rattle.std.proofs.Common.{◌≡◌, ◌≢◌, ◌⊎◌, inl, inr, ℕ, ◌+◌, Bool, true, false, true≢false, not, ◌&&◌, ◌||◌, nat_eq, List, [], ◌∷◌, ◌++◌, map, reverse, Option, Some, None, is_some, option_and_then, option_to_list, refl, sym, ap, ap₂, subst, ◌∙◌, arith, if◌then◌else◌}
use Rattle.std.proofs.lemmas.List.{reverse-append}
use Rattle.journal_model.specs.Documents.{Call, call_doc, look}
use Rattle.journal_model.specs.Journal.{Script, Level, rr, rc, Statement, statement, call, Reply, Entry, Did, Opening}
use Rattle.journal_model.specs.Part.{is_ok_reply, is_deadlock, is_memory, made, level_in, next_part, part, calls_in, own, touches, started, answered, unanswered, under_way, commits_of, view_of, view_under, last_view, view_since_start, docs, newest, shown, ends_by, opened}
use Rattle.journal_model.specs.Replies.{reply_to}
use Rattle.journal_model.specs.Locks.{changes, is_on, has_change, holds, may_hold}
use Rattle.journal_model.specs.Legal.{has_deadlock}
use Rattle.journal_model.specs.History.{History, one_made, newest_in, pushed, history}
use Rattle.kept_model.specs.Engine.{nothing, Task, making, Session, Engine}
use Rattle.kept_model.specs.Rows.{bytes_of}
use Rattle.kept_model.specs.Stored.{IsStored}
use Rattle.kept_model.specs.Sessions.{IsAt, under_way_in, is_reading, IsSession, own_docs, record_docs, session_records, HasRecords, IsLogged, has_lock, AreLocks}
use Rattle.kept_model.specs.Views.{IsViewed, IsRead, IsMakingOf, IsMaking}
use Rattle.kept_model.specs.Kept.{Kept, IsCalmAt, KeptAt}
use Rattle.kept_model.specs.Answers.{answered_session, change_answered, due_of}
use Rattle.kept_model.specs.Ended.{SaysSame}
use Rattle.kept_model.proofs.FrameLemmas.{under_way_same, own_same}
use Rattle.kept_model.proofs.SessionLemmas.{self_eq, is_eq, apart_of, not_eq, by_session, session_same, logged_same, holds_same, may_hold_same, view_same}
use Rattle.kept_model.proofs.AnswerRows as part
use Rattle.kept_model.proofs.AnswerRows.{gets_lock, map_append, no_deadlock}
use Rattle.kept_model.specs.Fetches.{IsFetched}

module _ (o : Opening) (script : Script) (e : Engine) (kept : Kept o script e) (s i d : ℕ) (r : Reply) (lv : Option Level)
    (task_is : (e.sessions s).task ≡ making d nothing r) (inside_is : (e.sessions s).level ≡ lv) (under : unanswered s e.journal ≡ Some i) where
  abbrev new : Engine
  new = change_answered s i r e

  abbrev x' : Session
  x' = answered_session (e.sessions s)

  abbrev m : IsMakingOf o script e.journal e.store s d nothing r
  m = kept.making s d nothing r task_is

  abbrev c : Call
  c = (kept.making s d nothing r task_is).change

  statement_is : statement script s i ≡ Some (call c)
  statement_is = part.statement_is o script e kept s i d r lv task_is inside_is under

  made_is : made (statement script s i) r ≡ Some c
  made_is = part.made_is o script e kept s i d r lv task_is inside_is under

  level_is : level_in script s (part script s e.journal) ≡ lv
  level_is = part.level_is o script e kept s i d r lv task_is inside_is under

  held : e.locks d ≡ Some s
  held = part.held o script e kept s i d r lv task_is inside_is under

  calm_kept : IsCalmAt (due_of s lv) o script new.journal
  calm_kept = part.calm_kept o script e kept s i d r lv task_is inside_is under

  part_is : part script s new.journal ≡ Did s i r ∷ part script s e.journal
  part_is = part.part_is o script e kept s i d r lv task_is inside_is under

  elses : (t : ℕ) → nat_eq t s ≡ false → SaysSame script t e.journal new.journal
  elses = part.elses o script e kept s i d r lv task_is inside_is under

  history_is : (q : ℕ) → history o script new.journal q ≡ (if nat_eq (call_doc c) q then pushed s c (history o script e.journal q) else history o script e.journal q)
  history_is = part.history_is o script e kept s i d r lv task_is inside_is under

  trx_same : (t : ℕ) → (new.sessions t).trx ≡ (e.sessions t).trx
  trx_same = part.trx_same o script e kept s i d r lv task_is inside_is under

  stored_kept : (q : ℕ) → IsStored o script new q
  stored_kept = part.stored_kept o script e kept s i d r lv task_is inside_is under

  -- ---- sessions

  count_now : started s new.journal ≡ answered s new.journal + 0
  count_now =
      let was : started s e.journal ≡ answered s e.journal + 1 = (kept.at s).count ∙ ap (λ (k : Task). answered s e.journal + under_way_in k) task_is in
      was ∙ (let more : answered s e.journal + 1 ≡ (answered s e.journal + 1) + 0 = grind arith in more)
      ∙ sym (ap (λ (b : Bool). (if b then answered s e.journal + 1 else answered s e.journal) + 0) (self_eq s))

  deadlock_was : has_deadlock (part script s e.journal) ≡ false
  deadlock_was = (subst (IsAt script e.journal s) task_is (kept.at s).at).1

  level_now : level_in script s (part script s new.journal) ≡ level_in script s (part script s e.journal)
  level_now = ap (level_in script s) part_is
      ∙ ap (λ (st : Option Statement). if is_some (Rattle.journal_model.specs.Part.opened st r) then Rattle.journal_model.specs.Part.opened st r else level_in script s (part script s e.journal)) statement_is

  at_kept : (t : ℕ) → IsSession script new.journal t (new.sessions t)
  at_kept = by_session (IsSession script new.journal) s x' e.sessions
      (record {
        count = count_now;
        at = ap has_deadlock part_is ∙ no_deadlock r m.ok s i (part script s e.journal) ∙ deadlock_was;
        level = (kept.at s).level ∙ sym level_now;
        since = λ still. ap view_since_start part_is;
      })
      (λ t apart. session_same script t e.journal new.journal (elses t apart) (e.sessions t) (kept.at t))

  own_now : own script s new.journal ≡ own script s e.journal ++ c ∷ []
  own_now = ap (calls_in script s) part_is ∙ ap (λ (k : Option Call). own script s e.journal ++ option_to_list k) made_is

  logged_kept : (t : ℕ) → IsLogged script new.journal t (new.sessions t) e.store
  logged_kept = by_session (λ t x. IsLogged script new.journal t x e.store) s x' e.sessions
      (let was : record_docs (session_records e.store (e.sessions s).trx) ≡ d ∷ own_docs script s e.journal =
      subst (λ (k : Task). HasRecords k (own_docs script s e.journal) (record_docs (session_records e.store (e.sessions s).trx))) task_is (kept.logged s).records in
      let now : own_docs script s new.journal ≡ d ∷ own_docs script s e.journal =
      ap (λ (cs : List Call). reverse (map call_doc cs)) own_now
      ∙ ap reverse (map_append call_doc (own script s e.journal) (c ∷ []))
      ∙ reverse-append (map call_doc (own script s e.journal)) (call_doc c ∷ [])
      ∙ ap (λ (q : ℕ). q ∷ own_docs script s e.journal) m.doc in
      record { records = was ∙ sym now; some = (kept.logged s).some })
      (λ t apart. logged_same script t e.journal new.journal (elses t apart) (e.sessions t) e.store e.store refl (kept.logged t))

  -- ---- locks

  holds_now : (q : ℕ) → holds script s q new.journal ≡ ((is_on q (changes (statement script s i)) && (not (is_deadlock r) && not (is_memory r))) || holds script s q e.journal)
  holds_now q = ap (λ (p : List Entry). has_change script (λ k. not (is_deadlock k) && not (is_memory k)) q p) part_is

  on_is : (q : ℕ) → is_on q (changes (statement script s i)) ≡ nat_eq (call_doc c) q
  on_is q = ap (λ (st : Option Statement). is_on q (changes st)) statement_is

  holds_so : (q : ℕ) → holds script s q new.journal ≡ (nat_eq d q || holds script s q e.journal)
  holds_so q = holds_now q ∙ ap₂ (λ (a b : Bool). (a && b) || holds script s q e.journal) (on_is q ∙ ap (λ (n : ℕ). nat_eq n q) m.doc) (gets_lock r m.ok) ∙ by_test (nat_eq d q)
    where
      by_test : (b : Bool) → ((b && true) || holds script s q e.journal) ≡ (b || holds script s q e.journal)
      by_test true = refl
      by_test false = refl

  locks_kept : (q : ℕ) → AreLocks script new.journal e.locks new.sessions q
  locks_kept q = record {
    held = λ t h. by_held t (nat_eq t s) refl h;
    taken = by_session (λ t x. has_lock q x.task ≡ true → e.locks q ≡ Some t) s x' e.sessions (λ h. absurd (true≢false (sym h))) (λ t apart h. (kept.locks q).taken t h);
    meant = λ t h. let was = (kept.locks q).meant t h in (was.0, by_meant t (nat_eq t s) refl was.1);
  }
    where
      own_lock : (b : Bool) → nat_eq d q ≡ b → (b || holds script s q e.journal) ≡ true → e.locks q ≡ Some s
      own_lock true g h = subst (λ (n : ℕ). e.locks n ≡ Some s) (is_eq d q g) held
      own_lock false g h = (kept.locks q).held s h

      by_held : (t : ℕ) (b : Bool) → nat_eq t s ≡ b → holds script t q new.journal ≡ true → e.locks q ≡ Some t
      by_held t true g h =
          let one = is_eq t s g in
          own_lock (nat_eq d q) refl (sym (holds_so q) ∙ ap (λ (n : ℕ). holds script n q new.journal) (sym one) ∙ h) ∙ ap (λ (n : ℕ). Some n) (sym one)
      by_held t false apart h = (kept.locks q).held t (sym (holds_same script t e.journal new.journal (elses t apart) q) ∙ h)

      or_true : (a b : Bool) → b ≡ true → (a || b) ≡ true
      or_true true b h = refl
      or_true false b h = h

      true_or : (a b : Bool) → a ≡ true → (a || b) ≡ true
      true_or true b h = refl
      true_or false b h = absurd (true≢false (sym h))

      may_now : may_hold script s q e.journal ≡ true → (holds script s q new.journal ≡ true) ⊎ (may_hold script s q new.journal ≡ true)
      may_now h = by_holds (holds script s q new.journal) refl
        where
          by_holds : (b : Bool) → holds script s q new.journal ≡ b → (holds script s q new.journal ≡ true) ⊎ (may_hold script s q new.journal ≡ true)
          by_holds true g = inl g
          by_holds false g = inr (ap₂ (λ (a b : Bool). a && not b)
              (ap (λ (p : List Entry). has_change script is_memory q p) part_is ∙ or_true _ (has_change script is_memory q (part script s e.journal)) (first_of (has_change script is_memory q (part script s e.journal)) (holds script s q e.journal) h)) g)
            where
              first_of : (a b : Bool) → (a && not b) ≡ true → a ≡ true
              first_of true b h = refl
              first_of false b h = absurd (true≢false (sym h))

      by_meant : (t : ℕ) (b : Bool) → nat_eq t s ≡ b → ((holds script t q e.journal ≡ true) ⊎ ((may_hold script t q e.journal ≡ true) ⊎ (has_lock q (e.sessions t).task ≡ true)))
          → (holds script t q new.journal ≡ true) ⊎ ((may_hold script t q new.journal ≡ true) ⊎ (has_lock q (new.sessions t).task ≡ true))
      by_meant t false apart was = elim was [
        | inl g ↦ inl (holds_same script t e.journal new.journal (elses t apart) q ∙ g)
        | inr more ↦ inr (elim more [
          | inl g ↦ inl (may_hold_same script t e.journal new.journal (elses t apart) q ∙ g)
          | inr g ↦ inr (ap (λ (b : Bool). has_lock q (if b then x' else e.sessions t).task) apart ∙ g)
        ])
      ]
      by_meant t true g was =
          let one = is_eq t s g in
          subst (λ (n : ℕ). (holds script n q new.journal ≡ true) ⊎ ((may_hold script n q new.journal ≡ true) ⊎ (has_lock q (new.sessions n).task ≡ true))) (sym one)
          (elim (subst (λ (n : ℕ). (holds script n q e.journal ≡ true) ⊎ ((may_hold script n q e.journal ≡ true) ⊎ (has_lock q (e.sessions n).task ≡ true))) one was) [
            | inl h ↦ inl (holds_so q ∙ or_true (nat_eq d q) (holds script s q e.journal) h)
            | inr more ↦ elim more [
              | inl h ↦ elim (may_now h) [ inl k ↦ inl k | inr k ↦ inr (inl k) ]
              | inr h ↦ inl (holds_so q ∙ true_or (nat_eq d q) (holds script s q e.journal) (sym (ap (has_lock q) task_is) ∙ h))
            ]
          ])

  -- ---- views, reads, changes

  view_now : view_of script s new.journal ≡ view_of script s e.journal
  view_now =
      ap₂ (λ (k : Option Level) (p : List Entry). view_under k p) (level_now ∙ level_is) part_is
      ∙ by_level lv
      ∙ sym (ap (λ (k : Option Level). view_under k (part script s e.journal)) level_is)
    where
      by_level : (k : Option Level) → view_under k (Did s i r ∷ part script s e.journal) ≡ view_under k (part script s e.journal)
      by_level (Some rr) = refl
      by_level (Some rc) = sym ((kept.at s).since (ap is_reading task_is))
      by_level None = sym ((kept.at s).since (ap is_reading task_is))

  views_kept : (t : ℕ) → IsViewed o script new.journal e.store t (new.sessions t)
  views_kept = by_session (IsViewed o script new.journal e.store) s x' e.sessions
      (record { commits = (kept.views s).commits ∙ sym view_now; sees = (kept.views s).sees })
      (λ t apart. record { commits = (kept.views t).commits ∙ sym (view_same script t e.journal new.journal (elses t apart)); sees = (kept.views t).sees })

  newest_same : (t : ℕ) → nat_eq t s ≡ false → newest o script t new.journal ≡ newest o script t e.journal
  newest_same t apart = ap (λ (cs : List Call). Rattle.journal_model.specs.Documents.all_by Rattle.journal_model.specs.Documents.keep cs (docs o script e.journal (commits_of o e.journal))) (own_same script t e.journal new.journal (elses t apart))

  shown_same : (t q : ℕ) → nat_eq t s ≡ false → shown o script t q new.journal ≡ shown o script t q e.journal
  shown_same t q apart =
      ap₂ (λ (cs : List Call) (v : Option ℕ). if touches q cs then look (newest o script t new.journal) q else option_and_then (λ k. look (docs o script e.journal k) q) v)
      (own_same script t e.journal new.journal (elses t apart)) (view_same script t e.journal new.journal (elses t apart))
      ∙ ap (λ now. if touches q (own script t e.journal) then look now q else option_and_then (λ k. look (docs o script e.journal k) q) (view_of script t e.journal)) (newest_same t apart)

  pub answer_keeps : KeptAt (due_of s lv) o script new
  answer_keeps = record {
    calm = calm_kept;
    counts = record { commits = kept.counts.commits; purged = kept.counts.purged; more = kept.counts.more };
    consistent = kept.consistent;
    given = kept.given;
    zero = kept.zero;
    logs = record {
      numbered = kept.logs.numbered;
      first = kept.logs.first;
      own = λ t x has. kept.logs.own t x (sym (trx_same t) ∙ has);
      apart = λ t u x has has'. kept.logs.apart t u x (sym (trx_same t) ∙ has) (sym (trx_same u) ∙ has');
      owned = λ x stand. let t = kept.logs.owned x stand in (t.0, trx_same t.0 ∙ t.1);
      commits = kept.logs.commits;
      below = kept.logs.below;
    };
    stored = stored_kept;
    at = at_kept;
    logged = logged_kept;
    locks = locks_kept;
    views = views_kept;
    reads = by_session (IsRead o script new.journal e.store) s x' e.sessions (λ q f h. absurd (cc h))
        (λ t apart q f h. let rd = kept.reads t q f h in record {
          view = rd.view;
          is = rd.is;
          parts = rd.parts;
          shows = rd.shows ∙ ap bytes_of (sym (shown_same t q apart));
          flight = rd.flight;
        });
    making = by_session (IsMaking o script new.journal e.store) s x' e.sessions (λ q left k h. absurd (cc h))
        (λ t apart q left k h.
        let mk = kept.making t q left k h in
        let its : e.locks q ≡ Some t = (kept.locks q).taken t (ap (has_lock q) h ∙ self_eq q) in
        let other : call_doc c ≢ q = (λ one. apart_of t s (cc (sym its ∙ ap e.locks (sym one ∙ m.doc) ∙ held)) apart) in
        record {
          change = mk.change;
          is = under_way_same script t e.journal new.journal (elses t apart) ∙ mk.is;
          doc = mk.doc;
          reply = mk.reply ∙ ap (reply_to mk.change) (sym (newest_same t apart));
          ok = mk.ok;
          measured = mk.measured;
          ends = mk.ends ∙ ap (λ (hh : History). bytes_of (one_made t mk.change (newest_in t hh)).left)
              (sym (history_is q ∙ ap (λ (b : Bool). if b then pushed s c (history o script e.journal q) else history o script e.journal q) (not_eq (call_doc c) q other)));
        });
    fetched = by_session (λ t y. IsFetched e.store y) s x' e.sessions (λ q ps h. absurd (cc h)) (λ t apart. kept.fetched t);
  }
