-- The last event of a purge keeps all parts, and its entry may follow.
use Rattle.std.proofs.Common.{◌≡◌, inl, inr, ℕ, suc, ◌+◌, ◌≤◌, ◌<◌, true, List, [], ◌∷◌, Option, Some, None, IfSome, option_map, option_and_then, refl, sym, ap, ap₂, subst, ◌∙◌, arith, if◌then◌else◌}
use Rattle.std.specs.Prelude.{slice_index_or}
use Rattle.journal_model.specs.Documents.{Call, look, Kept as Stored}
use Rattle.journal_model.specs.Journal.{Script, Purged, Opening}
use Rattle.journal_model.specs.Part.{own, touches, commits_of, purged_of, view_of, docs, newest, shown}
use Rattle.journal_model.specs.Locks.{sessions}
use Rattle.journal_model.specs.Legal.{Allowed}
use Rattle.journal_model.specs.History.{one_made, history}
use Rattle.history_model.specs.Laws.{IsRun}
use Rattle.store_data.specs.Store.{Log}
use Rattle.store_model.specs.History.{Change, Past, changes, changes_among, active_changes, committed_changes, row_before, history_behind, stands, stands_above}
use Rattle.store_model.specs.History as store
use Rattle.store_model.proofs.ConsistentLemmas.{purged_consistent}
use Rattle.read_model.specs.Flight.{IsFlight}
use Rattle.read_model.proofs.OtherLemmas.{purged_log_same}
use Rattle.kept_model.specs.Engine.{ReadView, sees_by, Engine}
use Rattle.kept_model.specs.Names.{is_begun, floor, AreLogs}
use Rattle.kept_model.specs.Rows.{bytes_of}
use Rattle.kept_model.specs.Stored.{IsStored}
use Rattle.kept_model.specs.Sessions.{IsSession, IsLogged, AreLocks}
use Rattle.kept_model.specs.Views.{AllPast, IsViewIn}
use Rattle.kept_model.specs.Kept.{Kept}
use Rattle.kept_model.specs.Purges.{purged_event}
use Rattle.kept_model.proofs.PassedLemmas.{newest_purged}
use Rattle.kept_model.specs.Ended.{SaysSame}
use Rattle.kept_model.proofs.FrameLemmas.{own_same, under_way_same}
use Rattle.kept_model.proofs.SessionLemmas.{session_same, logged_same, holds_same, may_hold_same, view_same}
use Rattle.kept_model.proofs.CommitRows.{all_past}
use Rattle.kept_model.proofs.CommitLegal.{not_due}
use Rattle.kept_model.proofs.PurgedRows as part
use Rattle.kept_model.proofs.FetchRows.{fetch_kept}

module _ (o : Opening) (script : Script) (run : IsRun o script) (e : Engine) (kept : Kept o script e) (l : Log) (ls : List Log)
    (first : e.store.committed ≡ l ∷ ls) (begun_is : is_begun l.state ≡ true) (empty : l.records ≡ []) where
  abbrev n : ℕ
  n = suc e.store.purged

  abbrev new : Engine
  new = purged_event e

  floor_was : floor e.store ≡ n
  floor_was = part.floor_was o script run e kept l ls first begun_is empty

  floor_now : floor new.store ≡ n
  floor_now = part.floor_now o script run e kept l ls first begun_is empty

  among_same : (k x : ℕ) → n ≤ k → store.is_among new.store k x ≡ store.is_among e.store k x
  among_same = part.among_same o script run e kept l ls first begun_is empty

  says : (t : ℕ) → SaysSame script t e.journal new.journal
  says = part.says o script run e kept l ls first begun_is empty

  same_history : (d : ℕ) → store.history new.store d ≡ store.history e.store d
  same_history = part.same_history o script run e kept l ls first begun_is empty

  logs_kept : AreLogs new.store new.sessions
  logs_kept = part.logs_kept o script run e kept l ls first begun_is empty

  stored_kept : (d : ℕ) → IsStored o script new d
  stored_kept = part.stored_kept o script run e kept l ls first begun_is empty

  -- ---- the entry

  low_made : n ≤ commits_of o e.journal
  low_made = subst (λ (m : ℕ). n ≤ m) kept.counts.commits (subst (λ (m : ℕ). m ≤ e.store.commits) floor_was (Rattle.kept_model.proofs.NameLemmas.floor_made e.store kept.logs.numbered))

  viewed : (s : ℕ) → IfSome (view_of script s e.journal) (λ k. n ≤ k)
  viewed s = by_view (e.sessions s).view refl
    where
      by_view : (m : Option ReadView) → (e.sessions s).view ≡ m → IfSome (view_of script s e.journal) (λ k. n ≤ k)
      by_view None has = subst (λ (w : Option ℕ). IfSome w (λ k. n ≤ k)) (sym (ap (option_map (λ (v : ReadView). v.commits)) has) ∙ (kept.views s).commits) tt
      by_view (Some v) has = subst (λ (w : Option ℕ). IfSome w (λ k. n ≤ k)) (sym (ap (option_map (λ (v : ReadView). v.commits)) has) ∙ (kept.views s).commits)
          (subst (λ (m : ℕ). m ≤ v.commits) floor_was ((kept.views s).sees v has).low)

  pub purged_allowed : Allowed o script (Purged n) e.journal
  purged_allowed = (
    not_due o script e.journal kept.calm 0 0 0 (Purged n),
    (
      ap suc kept.counts.purged ∙ (let z : suc (purged_of o e.journal) ≡ purged_of o e.journal + 1 = grind arith in z),
      low_made,
      (λ k d less. viewed (slice_index_or sessions k d)),
    ),
  )

  view_in_kept : (v : ReadView) → IsViewIn o e.store v → IsViewIn o new.store v
  view_in_kept v h =
      let low : n ≤ v.commits = subst (λ (m : ℕ). m ≤ v.commits) floor_was h.low in
      record {
        high = h.high;
        low = subst (λ (m : ℕ). m ≤ v.commits) (sym floor_now) low;
        first = h.first;
        limit = h.limit;
        zero = h.zero;
        active = h.active;
        rows = λ d. subst (AllPast (λ x. sees_by None v x ≡ store.is_among new.store v.commits x)) (sym (same_history d))
            (all_past (λ x. sees_by None v x ≡ store.is_among e.store v.commits x) _ (store.history e.store d) (λ x same. same ∙ sym (among_same v.commits x low)) (h.rows d));
      }

  newest_same : (t : ℕ) → newest o script t new.journal ≡ newest o script t e.journal
  newest_same t = ap (λ (cs : List Call). Rattle.journal_model.specs.Documents.all_by Rattle.journal_model.specs.Documents.keep cs (docs o script e.journal (commits_of o e.journal))) (own_same script t e.journal new.journal (says t))

  shown_same : (t d : ℕ) → shown o script t d new.journal ≡ shown o script t d e.journal
  shown_same t d =
      ap₂ (λ (cs : List Call) (v : Option ℕ). if touches d cs then look (newest o script t new.journal) d else option_and_then (λ k. look (docs o script e.journal k) d) v)
      (own_same script t e.journal new.journal (says t)) (view_same script t e.journal new.journal (says t))
      ∙ ap (λ now. if touches d (own script t e.journal) then look now d else option_and_then (λ k. look (docs o script e.journal k) d) (view_of script t e.journal)) (newest_same t)

  pub purged_keeps : Kept o script new
  purged_keeps = record {
    calm = record { legal = (kept.calm.legal, purged_allowed); commit = refl; restart = refl };
    counts = record { commits = kept.counts.commits; purged = refl; more = kept.counts.more };
    consistent = purged_consistent e.store l ls kept.consistent first empty;
    given = λ d. subst (AllPast (λ x. x < e.store.next_trx)) (sym (same_history d)) (kept.given d);
    zero = part.old_same o script run e kept l ls first begun_is empty 0 kept.zero;
    logs = logs_kept;
    stored = stored_kept;
    at = λ t. session_same script t e.journal new.journal (says t) (e.sessions t) (kept.at t);
    logged = λ t. logged_same script t e.journal new.journal (says t) (e.sessions t) e.store new.store (by_trx (e.sessions t).trx) (kept.logged t);
    locks = λ d. record {
      held = λ t h. (kept.locks d).held t (sym (holds_same script t e.journal new.journal (says t) d) ∙ h);
      taken = (kept.locks d).taken;
      meant = λ t h. let m = (kept.locks d).meant t h in (
        m.0,
        elim m.1 [
          | inl g ↦ inl (holds_same script t e.journal new.journal (says t) d ∙ g)
          | inr more ↦ inr (elim more [ inl g ↦ inl (may_hold_same script t e.journal new.journal (says t) d ∙ g) | inr g ↦ inr g ])
        ],
      );
    };
    views = λ t. record {
      commits = (kept.views t).commits ∙ sym (view_same script t e.journal new.journal (says t));
      sees = λ v has. view_in_kept v ((kept.views t).sees v has);
    };
    reads = λ t d f h. let r = kept.reads t d f h in record {
      view = r.view;
      is = r.is;
      parts = r.parts;
      shows = r.shows ∙ ap bytes_of (sym (shown_same t d));
      flight = subst (λ doc. IsFlight (sees_by (e.sessions t).trx r.view) doc r.parts f) (sym (purged_log_same e.store d l ls first empty)) r.flight;
    };
    making = λ t d left r h. let m = kept.making t d left r h in record {
      change = m.change;
      is = under_way_same script t e.journal new.journal (says t) ∙ m.is;
      doc = m.doc;
      reply = m.reply ∙ ap (Rattle.journal_model.specs.Replies.reply_to m.change) (sym (newest_same t));
      ok = m.ok;
      measured = m.measured;
      ends = m.ends ∙ ap (λ (now : Option Stored). bytes_of (one_made t m.change now).left) (sym (newest_purged t n (history o script e.journal d)));
    };
    fetched = λ t d f h. fetch_kept d e.store new.store (record { parts = refl; row = λ is_live. refl }) f (kept.fetched t d f h);
  }
    where
      by_trx : (m : Option ℕ) → Rattle.kept_model.specs.Sessions.session_records new.store m ≡ Rattle.kept_model.specs.Sessions.session_records e.store m
      by_trx None = refl
      by_trx (Some x) = refl
