-- Events that leave the store keep all parts.
use Rattle.std.proofs.Common.{◌≡◌, inl, inr, ℕ, suc, Bool, false, nat_eq, List, ◌++◌, Option, Some, None, option_and_then, refl, sym, ap, ap₂, subst, ◌∙◌, if◌then◌else◌}
use Rattle.journal_model.specs.Documents.{Call, Docs, Kept as Stored, look, all_by, keep}
use Rattle.journal_model.specs.Journal.{Script, Entry, Opening}
use Rattle.journal_model.specs.Part.{own, touches, commits_of, view_of, docs, newest, shown}
use Rattle.journal_model.specs.Replies.{reply_to}
use Rattle.journal_model.specs.History.{Owner, session, commit, is_sessions, History, one_made, newest_in, history}
use Rattle.store_model.specs.History.{Past}
use Rattle.store_model.specs.History as store
use Rattle.kept_model.specs.Engine.{Session, Engine}
use Rattle.kept_model.specs.Names.{names_of, is_old, is_purging}
use Rattle.kept_model.specs.Rows.{bytes_of, base_behind}
use Rattle.kept_model.specs.Stored.{Front, whole, undone, front, AllOwned, IsStoredBy, known_from, IsStored}
use Rattle.kept_model.specs.Sessions.{IsSession, IsLogged}
use Rattle.kept_model.specs.Views.{IsViewed, IsRead, IsMaking}
use Rattle.kept_model.specs.Kept.{Kept}
use Rattle.kept_model.specs.Quiet.{quiet_event, IsQuiet}
use Rattle.kept_model.proofs.RowLemmas.{known_out}
use Rattle.kept_model.proofs.StoredLemmas.{untouched}
use Rattle.kept_model.proofs.PassedLemmas.{any_owner}
use Rattle.kept_model.proofs.FrameLemmas.{under_way_same, own_same}
use Rattle.kept_model.proofs.SessionLemmas.{by_session, session_same, logged_same, view_same}
use Rattle.kept_model.specs.Fetches.{IsFetched}

-- a session begins to undo: its change of the document is whole as yet
turn_stored : (s first : ℕ) (script : Script) (past : List Entry) (h : History) (is_passing : Bool) (next : ℕ) (old : ℕ → Bool) (names : Owner → Option ℕ) (rows : List Past)
    → IsStoredBy first script past h whole is_passing next old names rows → IsStoredBy first script past h (undone s) is_passing next old names rows
turn_stored s first script past h is_passing next old names rows k = record {
  ahead = k.ahead;
  gone = k.gone;
  left = k.left;
  passed = k.passed;
  changes = k.changes;
  is_ahead = k.is_ahead;
  are_undone = subst (AllOwned (is_sessions s)) (sym k.are_undone) tt;
  are_passed = k.are_passed;
  named = k.named;
  known = known_out s first (base_behind k.passed h.base) (k.ahead ++ k.left) rows k.known;
}

module _ (o : Opening) (script : Script) (e : Engine) (kept : Kept o script e) (s : ℕ) (x : Session) (locks : ℕ → Option ℕ) (past : List Entry) (quiet : IsQuiet o script s x locks past e) where
  abbrev new : Engine
  new = quiet_event s x locks past e

  trx_same : (t : ℕ) → (new.sessions t).trx ≡ (e.sessions t).trx
  trx_same = by_session (λ t y. y.trx ≡ (e.sessions t).trx) s x e.sessions quiet.trx (λ t apart. refl)

  names_same : (w : Owner) (n : ℕ) → names_of e w ≡ Some n → names_of new w ≡ Some n
  names_same (session t) n h = trx_same t ∙ h
  names_same (commit k) n h = h

  abbrev Now : ℕ → History → Front → Type 0
  Now d h f = IsStoredBy (known_from o e.store) script past h f (is_purging e.store.committed) (suc e.store.purged) (is_old e.store) (names_of new) (store.history e.store d)

  stored_kept : (d : ℕ) → IsStored o script new d
  stored_kept d =
      subst (λ (h : History). Now d h (front new d)) (sym (quiet.changes d))
      (elim (quiet.turns d) [
        | inl same ↦ subst (Now d (history o script e.journal d)) (sym same) goes_on
        | inr turned ↦ subst (Now d (history o script e.journal d)) (sym turned.1)
            (turn_stored s (known_from o e.store) script past (history o script e.journal d) (is_purging e.store.committed) (suc e.store.purged) (is_old e.store) (names_of new) (store.history e.store d)
            (subst (Now d (history o script e.journal d)) turned.0 goes_on))
      ])
    where
      goes_on : Now d (history o script e.journal d) (front e d)
      goes_on =
          untouched (λ w. Unit {0}) (known_from o e.store) script e.journal past (history o script e.journal d) (front e d) (is_purging e.store.committed) (suc e.store.purged)
          (is_old e.store) (is_old e.store) (names_of e) (names_of new) (store.history e.store d) (λ w n u h. names_same w n h) (λ n old. old) (quiet.ahead d) (kept.stored d) (any_owner _)

  newest_same : (t : ℕ) → nat_eq t s ≡ false → newest o script t past ≡ newest o script t e.journal
  newest_same t apart =
      ap₂ (λ (cs : List Call) (now : Docs Stored). all_by keep cs now) (own_same script t e.journal past (quiet.others t apart))
      (ap (docs o script past) quiet.commits ∙ quiet.behind (commits_of o e.journal))

  shown_same : (t d : ℕ) → nat_eq t s ≡ false → shown o script t d past ≡ shown o script t d e.journal
  shown_same t d apart =
      ap₂ (λ (cs : List Call) (v : Option ℕ). if touches d cs then look (newest o script t past) d else option_and_then (λ k. look (docs o script past k) d) v)
      (own_same script t e.journal past (quiet.others t apart)) (view_same script t e.journal past (quiet.others t apart))
      ∙ ap₂ (λ (now then_ : Option Stored). if touches d (own script t e.journal) then now else then_) (ap (λ (now : Docs Stored). look now d) (newest_same t apart)) (by_view (view_of script t e.journal))
    where
      by_view : (v : Option ℕ) → option_and_then (λ k. look (docs o script past k) d) v ≡ option_and_then (λ k. look (docs o script e.journal k) d) v
      by_view None = refl
      by_view (Some k) = ap (λ (now : Docs Stored). look now d) (quiet.behind k)

  pub quiet_keeps : Kept o script new
  quiet_keeps = record {
    calm = quiet.calm;
    counts = record { commits = kept.counts.commits ∙ sym quiet.commits; purged = kept.counts.purged ∙ sym quiet.purged; more = kept.counts.more };
    consistent = kept.consistent;
    given = kept.given;
    zero = kept.zero;
    logs = record {
      numbered = kept.logs.numbered;
      first = kept.logs.first;
      own = λ t n h. kept.logs.own t n (sym (trx_same t) ∙ h);
      apart = λ t u n h h'. kept.logs.apart t u n (sym (trx_same t) ∙ h) (sym (trx_same u) ∙ h');
      owned = λ n stand. let t = kept.logs.owned n stand in (t.0, trx_same t.0 ∙ t.1);
      commits = kept.logs.commits;
      below = kept.logs.below;
    };
    stored = stored_kept;
    at = by_session (IsSession script past) s x e.sessions quiet.at (λ t apart. session_same script t e.journal past (quiet.others t apart) (e.sessions t) (kept.at t));
    logged = by_session (λ t y. IsLogged script past t y e.store) s x e.sessions quiet.logged
        (λ t apart. logged_same script t e.journal past (quiet.others t apart) (e.sessions t) e.store e.store refl (kept.logged t));
    locks = quiet.locked;
    views = by_session (IsViewed o script past e.store) s x e.sessions quiet.views
        (λ t apart. record { commits = (kept.views t).commits ∙ sym (view_same script t e.journal past (quiet.others t apart)); sees = (kept.views t).sees });
    reads = by_session (IsRead o script past e.store) s x e.sessions quiet.reads
        (λ t apart d f h. let rd = kept.reads t d f h in record {
          view = rd.view;
          is = rd.is;
          parts = rd.parts;
          shows = rd.shows ∙ ap bytes_of (sym (shown_same t d apart));
          flight = rd.flight;
        });
    making = by_session (IsMaking o script past e.store) s x e.sessions quiet.making
        (λ t apart d left r h. let m = kept.making t d left r h in record {
          change = m.change;
          is = under_way_same script t e.journal past (quiet.others t apart) ∙ m.is;
          doc = m.doc;
          reply = m.reply ∙ ap (reply_to m.change) (sym (newest_same t apart));
          ok = m.ok;
          measured = m.measured;
          ends = m.ends ∙ ap (λ (h : History). bytes_of (one_made t m.change (newest_in t h)).left) (sym (quiet.changes d));
        });
    fetched = by_session (λ t y. IsFetched e.store y) s x e.sessions quiet.fetched (λ t apart. kept.fetched t);
  }
