-- The end of a rollback keeps all parts: what others see; and its entries, by each cause.
use Rattle.std.proofs.Common.{◌≡◌, ℕ, ◌+◌, Bool, true, false, not, ◌&&◌, nat_eq, List, [], ◌∷◌, Option, Some, None, is_some, IsSome, option_and_then, refl, sym, ap, ap₂, subst, ◌∙◌, arith, if◌then◌else◌}
use Rattle.journal_model.specs.Documents.{Call, look}
use Rattle.journal_model.specs.Journal.{Script, Statement, statement, rollback, done, Undoer, by_rollback, by_deadlock, by_end, Entry, Did, Undone, Opening}
use Rattle.journal_model.specs.Part.{made, level_in, next_part, part, own, touches, started, answered, unanswered, under_way, view_of, view_under, docs, newest, shown}
use Rattle.journal_model.specs.Legal.{has_deadlock, Answer, Allowed}
use Rattle.journal_model.specs.History.{Owner, session, commit, Made, History, is_sessions, newest_in, one_made, without, history}
use Rattle.history_model.specs.Laws.{IsRun}
use Rattle.history_model.proofs.OwnerLemmas.{own_held}
use Rattle.history_model.proofs.HistoryLemmas.{reads_own}
use Rattle.kept_model.specs.Engine.{Task, undoing, Engine, resting}
use Rattle.kept_model.specs.Rows.{bytes_of}
use Rattle.kept_model.specs.Stored.{IsStored}
use Rattle.kept_model.specs.Sessions.{IsAt, under_way_in, IsSession, IsLogged, has_lock, AreLocks}
use Rattle.kept_model.specs.Views.{IsViewed, IsRead, IsMaking}
use Rattle.kept_model.specs.Kept.{Kept}
use Rattle.kept_model.specs.Ended.{SaysSame, IsEnding, undone_event}
use Rattle.kept_model.proofs.FrameLemmas.{says_same, under_way_same, own_same}
use Rattle.kept_model.proofs.SessionLemmas.{self_eq, apart_of, not_eq, by_session, view_same}
use Rattle.kept_model.proofs.SeenLemmas.{reply_same}
use Rattle.kept_model.proofs.CommitLegal.{if_some, not_due}
use Rattle.kept_model.proofs.UndoneRows as part
use Rattle.kept_model.specs.Fetches.{IsFetched}

module _ (o : Opening) (script : Script) (run : IsRun o script) (e : Engine) (kept : Kept o script e) (s : ℕ) (v : Undoer) (past' : List Entry)
    (task_is : (e.sessions s).task ≡ undoing v) (gone : (e.sessions s).trx ≡ None) (ending : IsEnding o script s e.journal past') where
  abbrev new : Engine
  new = undone_event s past' e

  trx_same : (t : ℕ) → (new.sessions t).trx ≡ (e.sessions t).trx
  trx_same = part.trx_same o script run e kept s v past' task_is gone ending

  history_same : (d : ℕ) → (e.locks d ≡ Some s → ⊥) → history o script past' d ≡ history o script e.journal d
  history_same = part.history_same o script run e kept s v past' task_is gone ending

  stored_kept : (q : ℕ) → IsStored o script new q
  stored_kept = part.stored_kept o script run e kept s v past' task_is gone ending

  at_kept : (t : ℕ) → IsSession script past' t (new.sessions t)
  at_kept = part.at_kept o script run e kept s v past' task_is gone ending

  logged_kept : (t : ℕ) → IsLogged script past' t (new.sessions t) e.store
  logged_kept = part.logged_kept o script run e kept s v past' task_is gone ending

  locks_kept : (d : ℕ) → AreLocks script past' new.locks new.sessions d
  locks_kept = part.locks_kept o script run e kept s v past' task_is gone ending

  -- ---- what others see

  newest_same : (t d : ℕ) → (e.locks d ≡ Some s → ⊥) → look (newest o script t past') d ≡ look (newest o script t e.journal) d
  newest_same t d free =
      reads_own o script past' run ending.calm.legal t d
      ∙ ap (newest_in t) (history_same d free)
      ∙ sym (reads_own o script e.journal run kept.calm.legal t d)

  -- what another session has changed this one has no lock of
  not_mine : (t d : ℕ) → nat_eq t s ≡ false → touches d (own script t e.journal) ≡ true → e.locks d ≡ Some s → ⊥
  not_mine t d apart h mine = apart_of t s (cc (sym ((kept.locks d).held t (own_held script t d e.journal h)) ∙ mine)) apart

  shown_same : (t d : ℕ) → nat_eq t s ≡ false → shown o script t d past' ≡ shown o script t d e.journal
  shown_same t d apart =
      ap₂ (λ (cs : List Call) (w : Option ℕ). if touches d cs then look (newest o script t past') d else option_and_then (λ k. look (docs o script past' k) d) w)
      (own_same script t e.journal past' (ending.others t apart)) (view_same script t e.journal past' (ending.others t apart))
      ∙ by_test (touches d (own script t e.journal)) refl
    where
      by_view : (w : Option ℕ) → option_and_then (λ k. look (docs o script past' k) d) w ≡ option_and_then (λ k. look (docs o script e.journal k) d) w
      by_view None = refl
      by_view (Some k) = ap (λ now. look now d) (ending.behind k)

      by_test : (b : Bool) → touches d (own script t e.journal) ≡ b
          → (if b then look (newest o script t past') d else option_and_then (λ k. look (docs o script past' k) d) (view_of script t e.journal))
          ≡ (if b then look (newest o script t e.journal) d else option_and_then (λ k. look (docs o script e.journal k) d) (view_of script t e.journal))
      by_test true h = newest_same t d (not_mine t d apart h)
      by_test false h = by_view (view_of script t e.journal)

  pub undone_keeps : Kept o script new
  undone_keeps = record {
    calm = ending.calm;
    counts = record { commits = kept.counts.commits ∙ sym ending.commits; purged = kept.counts.purged ∙ sym ending.purged; more = kept.counts.more };
    consistent = kept.consistent;
    given = kept.given;
    zero = kept.zero;
    logs = record {
      numbered = kept.logs.numbered;
      first = kept.logs.first;
      own = λ t x h. kept.logs.own t x (sym (trx_same t) ∙ h);
      apart = λ t u x h h'. kept.logs.apart t u x (sym (trx_same t) ∙ h) (sym (trx_same u) ∙ h');
      owned = λ x stand. let t = kept.logs.owned x stand in (t.0, trx_same t.0 ∙ t.1);
      commits = kept.logs.commits;
      below = kept.logs.below;
    };
    stored = stored_kept;
    at = at_kept;
    logged = logged_kept;
    locks = locks_kept;
    views = by_session (IsViewed o script past' e.store) s resting e.sessions
        (record { commits = sym (ap (λ (p : List Entry). view_under (level_in script s p) p) ending.part_none); sees = λ w h. absurd (cc h) })
        (λ t apart. record { commits = (kept.views t).commits ∙ sym (view_same script t e.journal past' (ending.others t apart)); sees = (kept.views t).sees });
    reads = by_session (IsRead o script past' e.store) s resting e.sessions (λ d f h. absurd (cc h))
        (λ t apart d f h. let rd = kept.reads t d f h in record {
          view = rd.view;
          is = rd.is;
          parts = rd.parts;
          shows = rd.shows ∙ ap bytes_of (sym (shown_same t d apart));
          flight = rd.flight;
        });
    making = by_session (IsMaking o script past' e.store) s resting e.sessions (λ d left r h. absurd (cc h))
        (λ t apart d left r h.
        let m = kept.making t d left r h in
        let its : e.locks d ≡ Some t = (kept.locks d).taken t (ap (has_lock d) h ∙ self_eq d) in
        let free : (e.locks d ≡ Some s → ⊥) = (λ mine. apart_of t s (cc (sym its ∙ mine)) apart) in
        record {
          change = m.change;
          is = under_way_same script t e.journal past' (ending.others t apart) ∙ m.is;
          doc = m.doc;
          reply = m.reply ∙ sym (reply_same m.change (newest o script t e.journal) (newest o script t past')
              (subst (λ (q : ℕ). look (newest o script t past') q ≡ look (newest o script t e.journal) q) (sym m.doc) (newest_same t d free)));
          ok = m.ok;
          measured = m.measured;
          ends = m.ends ∙ ap (λ (hh : History). bytes_of (one_made t m.change (newest_in t hh)).left) (sym (history_same d free));
        });
    fetched = by_session (λ t y. IsFetched e.store y) s resting e.sessions (λ q ps h. absurd (cc h)) (λ t apart. kept.fetched t);
  }

-- ---- the entries

module _ (o : Opening) (script : Script) (e : Engine) (kept : Kept o script e) (s : ℕ) where
  none_part : (v : Undoer) → part script s (Undone s v ∷ e.journal) ≡ []
  unfolding next_part
  none_part v = rw (self_eq s) refl

  undone_else : (v : Undoer) (t : ℕ) → nat_eq t s ≡ false → SaysSame script t e.journal (Undone s v ∷ e.journal)
  undone_else v t apart = says_same script t (Undone s v ∷ []) e.journal (not_eq s t (λ same. apart_of t s (sym same) apart), tt)

  -- because of a deadlock
  pub deadlock_ends : (e.sessions s).task ≡ undoing by_deadlock → IsEnding o script s e.journal (Undone s by_deadlock ∷ e.journal)
  deadlock_ends task_is = record {
    calm = record {
      legal = (kept.calm.legal, (not_due o script e.journal kept.calm 0 0 0 (Undone s by_deadlock), subst (IsAt script e.journal s) task_is (kept.at s).at));
      commit = refl;
      restart = refl;
    };
    part_none = none_part by_deadlock;
    count = (kept.at s).count ∙ ap (λ (k : Task). answered s e.journal + under_way_in k) task_is;
    others = undone_else by_deadlock;
    changes = λ d. refl;
    behind = λ k. refl;
    commits = refl;
    purged = refl;
  }

  -- at a session's end
  pub end_ends : (e.sessions s).task ≡ undoing by_end → IsEnding o script s e.journal (Undone s by_end ∷ e.journal)
  end_ends task_is = record {
    calm = record {
      legal = (kept.calm.legal, (not_due o script e.journal kept.calm 0 0 0 (Undone s by_end), subst (IsAt script e.journal s) task_is (kept.at s).at));
      commit = refl;
      restart = refl;
    };
    part_none = none_part by_end;
    count = (kept.at s).count ∙ ap (λ (k : Task). answered s e.journal + under_way_in k) task_is;
    others = undone_else by_end;
    changes = λ d. refl;
    behind = λ k. refl;
    commits = refl;
    purged = refl;
  }

  -- by a statement, which is answered in the same event
  module _ (i : ℕ) (task_is : (e.sessions s).task ≡ undoing by_rollback) (under : unanswered s e.journal ≡ Some i) where
    abbrev after : List Entry
    after = Did s i done ∷ Undone s by_rollback ∷ e.journal

    at_is : (under_way script s e.journal ≡ Some rollback) × IsSome (level_in script s (part script s e.journal)) × (has_deadlock (part script s e.journal) ≡ false)
    at_is = subst (IsAt script e.journal s) task_is (kept.at s).at

    statement_is : statement script s i ≡ Some rollback
    statement_is = sym (ap (λ (u : Option ℕ). option_and_then (λ k. statement script s k) u) under) ∙ at_is.0

    part_now : part script s after ≡ []
    unfolding next_part
    part_now = rw (self_eq s, statement_is) refl

    undone_allowed : Allowed o script (Undone s by_rollback) e.journal
    undone_allowed = (not_due o script e.journal kept.calm 0 0 0 (Undone s by_rollback), (at_is.0, at_is.1))

    answer_allowed : Allowed o script (Did s i done) (Undone s by_rollback ∷ e.journal)
    answer_allowed = (
      (tt, tt),
      (
        under,
        if_some (λ st. Answer o script s st done (Undone s by_rollback ∷ e.journal)) (statement script s i) rollback statement_is
            (refl, ap (level_in script s) (none_part by_rollback)),
      ),
    )

    pub rollback_ends : IsEnding o script s e.journal after
    rollback_ends = record {
      calm = record {
        legal = ((kept.calm.legal, undone_allowed), answer_allowed);
        commit = ap (λ (st : Option Statement). if is_some (made st done) && not (is_some (level_in script s (part script s (Undone s by_rollback ∷ e.journal)))) then Some s else None) statement_is;
        restart = refl;
      };
      part_none = part_now;
      count =
          (let was : started s e.journal ≡ answered s e.journal + 1 = (kept.at s).count ∙ ap (λ (k : Task). answered s e.journal + under_way_in k) task_is in
          was ∙ (let more : answered s e.journal + 1 ≡ (answered s e.journal + 1) + 0 = grind arith in more)
          ∙ sym (ap (λ (b : Bool). (if b then answered s e.journal + 1 else answered s e.journal) + 0) (self_eq s)));
      others = λ t apart. says_same script t (Did s i done ∷ Undone s by_rollback ∷ []) e.journal
          (let other : nat_eq s t ≡ false = not_eq s t (λ same. apart_of t s (sym same) apart) in (other, (other, tt)));
      changes = λ d. ap (λ (st : Option Statement). Rattle.journal_model.specs.History.with_call d s (made st done) (without (is_sessions s) (history o script e.journal d))) statement_is;
      behind = λ k. refl;
      commits = refl;
      purged = refl;
    }
