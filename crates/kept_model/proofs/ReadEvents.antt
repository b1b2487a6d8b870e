-- The first event of a read.
use Rattle.std.proofs.Common.{◌≡◌, ◌⊎◌, inl, inr, ℕ, ◌+◌, ◌≤◌, Bool, true, true≢false, not, ◌&&◌, List, ◌∷◌, length, Option, Some, None, option_map, refl, sym, ap, ap₂, subst, ◌∙◌, if◌then◌else◌}
use Rattle.journal_model.specs.Documents.{Call, look, all_by, keep}
use Rattle.journal_model.specs.Journal.{Script, Level, rr, rc, Statement, get, size, statement, statements, Entry, Start, View, Opening}
use Rattle.journal_model.specs.Part.{is_deadlock, is_memory, level_in, part, own, touches, answered, under_way, commits_of, docs, view_of, view_under}
use Rattle.journal_model.specs.Locks.{has_change}
use Rattle.journal_model.specs.Legal.{is_read, has_deadlock, may_view_under, Allowed}
use Rattle.history_model.specs.Laws.{IsRun}
use Rattle.history_model.proofs.OwnLemmas.{start_stays, view_stays}
use Rattle.read_model.specs.Flight.{Flight}
use Rattle.read_model.specs.Steps.{opened}
use Rattle.read_model.specs.OfStore.{document}
use Rattle.kept_model.specs.Engine.{ReadView, sees_by, idle, reading, Session, Engine}
use Rattle.kept_model.specs.Sessions.{has_lock}
use Rattle.kept_model.specs.Rows.{bytes_of}
use Rattle.kept_model.specs.Views.{IsViewIn, IsReadOf, IsRead}
use Rattle.kept_model.specs.Kept.{Kept}
use Rattle.kept_model.specs.Reading.{view_now}
use Rattle.kept_model.specs.Quiet.{quiet_event}
use Rattle.kept_model.proofs.SessionLemmas.{self_eq}
use Rattle.kept_model.proofs.ReadLemmas.{shown_at, shown_is}
use Rattle.kept_model.proofs.ReadKept.{view_now_in, read_opened}
use Rattle.kept_model.proofs.PlainKept.{IsPlain, Leaves, leaves_start, leaves_view, leaves_both, plain_quiet}
use Rattle.kept_model.proofs.PlainLemmas.{part_start, part_view, count_start, locks_same}
use Rattle.kept_model.proofs.PlainEvents.{idle_count, idle_deadlock, may_start, starts, view_started, deadlock_started, start_plain}
use Rattle.kept_model.proofs.QuietKept.{quiet_keeps}

abbrev IsReadOn : ℕ → Statement → Type 0
IsReadOn d st = (st ≡ get d) ⊎ (st ≡ size d)

reads_is : (d : ℕ) (st : Statement) → IsReadOn d st → is_read (Some st) ≡ true
reads_is d st h = elim h [ inl is ↦ ap (λ (t : Statement). is_read (Some t)) is | inr is ↦ ap (λ (t : Statement). is_read (Some t)) is ]

module _ (o : Opening) (script : Script) (run : IsRun o script) (e : Engine) (kept : Kept o script e) (s i d : ℕ) (free : (e.sessions s).task ≡ idle)
    (next : i ≡ answered s e.journal + 1) (few : i ≤ length (statements s script)) (st : Statement) (statement_is : statement script s i ≡ Some st) (on : (st ≡ get d) ⊎ (st ≡ size d)) where
  abbrev begun : List Entry
  begun = Start s i ∷ e.journal

  abbrev first_flight : ReadView → Flight
  first_flight v = opened (sees_by (e.sessions s).trx v) (document e.store d)

  read_under : (under_way script s begun ≡ Some (get d)) ⊎ (under_way script s begun ≡ Some (size d))
  read_under =
      let is = starts o script e kept s i free next few st statement_is in
      elim on [ inl g ↦ inl (is ∙ ap (λ (t : Statement). Some t) g) | inr g ↦ inr (is ∙ ap (λ (t : Statement). Some t) g) ]

  -- own changes alone tell what is shown under so many commits
  shown_same : (k : ℕ) (past : List Entry) → own script s past ≡ own script s e.journal → docs o script past ≡ docs o script e.journal → commits_of o past ≡ commits_of o e.journal
      → shown_at o script s d k past ≡ shown_at o script s d k e.journal
  shown_same k past own_is docs_are commits_are =
      ap (λ (cs : List Call). if touches d cs then look (all_by keep cs (docs o script past (commits_of o past))) d else look (docs o script past k) d) own_is
      ∙ ap (λ now. if touches d (own script s e.journal) then look (all_by keep (own script s e.journal) (now (commits_of o past))) d else look (now k) d) docs_are
      ∙ ap (λ (n : ℕ). if touches d (own script s e.journal) then look (all_by keep (own script s e.journal) (docs o script e.journal n)) d else look (docs o script e.journal k) d) commits_are

  reads_now : (past : List Entry) (x : Session) (v : ReadView) → x.task ≡ reading d (first_flight v) → x.view ≡ Some v → x.trx ≡ (e.sessions s).trx → IsViewIn o e.store v
      → view_of script s past ≡ Some v.commits → own script s past ≡ own script s e.journal → docs o script past ≡ docs o script e.journal → commits_of o past ≡ commits_of o e.journal
      → IsRead o script past e.store s x
  reads_now past x v task_is view_is trx_is inside view own_is docs_are commits_are q f h =
      let r = read_opened o script e kept run s v inside d (λ left k is. cc (sym free ∙ is)) (λ u is. cc (sym free ∙ is)) in
      let doc : d ≡ q = cc (sym task_is ∙ h) in
      let flight : first_flight v ≡ f = cc (sym task_is ∙ h) in
      subst (λ (n : ℕ). IsReadOf o script past e.store s x n f) doc (subst (IsReadOf o script past e.store s x d) flight (record {
        view = v;
        is = view_is;
        parts = r.0;
        shows = r.1 ∙ ap bytes_of (sym (shown_is o script s d v.commits past view ∙ shown_same v.commits past own_is docs_are commits_are));
        flight = subst (λ (t : Option ℕ). Rattle.read_model.specs.Flight.IsFlight (sees_by t v) (document e.store d) r.0 (first_flight v)) (sym trx_is) r.2;
      }))

  -- under a view that its transaction has
  pub viewed_keeps : (v : ReadView) → (e.sessions s).view ≡ Some v → Kept o script (quiet_event s (record (e.sessions s) { task = reading d (opened (sees_by (e.sessions s).trx v) (document e.store d)) }) e.locks begun e)
  viewed_keeps v is = quiet_keeps o script e kept s (record (e.sessions s) { task = reading d (first_flight v) }) e.locks begun
      (plain_quiet o script e kept s (record (e.sessions s) { task = reading d (first_flight v) }) e.locks begun
      (start_plain o script e kept s i free next few (reading d (first_flight v)) tt refl (read_under, deadlock_started o script e kept s i free next few) (λ q. refl)
      (reads_now begun (record (e.sessions s) { task = reading d (first_flight v) }) v refl is refl ((kept.views s).sees v is)
      (view_started o script e kept s i free next few ∙ sym (kept.views s).commits ∙ ap (option_map (λ (w : ReadView). w.commits)) is)
      (start_stays script s e.journal s i).own_stays refl refl) (λ q ps h. absurd (cc h))))

  -- with a view that is taken now
  module _ (none : (e.sessions s).view ≡ None) where
    abbrev after : List Entry
    after = View s (commits_of o e.journal) ∷ begun

    abbrev x' : Session
    x' = record (e.sessions s) { task = reading d (opened (sees_by (e.sessions s).trx (view_now e.store)) (document e.store d)); view = Some (view_now e.store) }

    part_is : part script s after ≡ View s (commits_of o e.journal) ∷ Start s i ∷ part script s e.journal
    part_is = part_view script s begun (commits_of o e.journal) ∙ ap (λ (p : List Entry). View s (commits_of o e.journal) ∷ p) (part_start script s e.journal i)

    leaves : Leaves o script s e.journal after
    leaves = leaves_both o script s e.journal begun after (leaves_start o script s e.journal i) (leaves_view o script s begun (commits_of o e.journal))

    level_same : level_in script s (part script s after) ≡ level_in script s (part script s e.journal)
    level_same = (view_stays script s begun s (commits_of o e.journal)).level_stays ∙ (start_stays script s e.journal s i).level_stays

    view_allowed : Allowed o script (View s (commits_of o e.journal)) begun
    view_allowed = (
      (tt, tt),
      (
        ap₂ (λ (a : Bool) (t : Option Statement). a && is_read t) (self_eq s) statement_is ∙ reads_is d st on,
        refl,
        ap (may_view_under o script (level_in script s (part script s begun))) (view_started o script e kept s i free next few ∙ sym (kept.views s).commits ∙ ap (option_map (λ (w : ReadView). w.commits)) none)
            ∙ may_none (level_in script s (part script s begun)),
      ),
    )
      where
        may_none : (l : Option Level) → may_view_under o script l None ≡ true
        may_none None = refl
        may_none (Some rr) = refl
        may_none (Some rc) = refl

    view_is : view_of script s after ≡ Some e.store.commits
    view_is = ap (view_under (level_in script s (part script s after))) part_is ∙ by_level (level_in script s (part script s after)) ∙ ap (λ (n : ℕ). Some n) (sym kept.counts.commits)
      where
        by_level : (l : Option Level) → view_under l (View s (commits_of o e.journal) ∷ Start s i ∷ part script s e.journal) ≡ Some (commits_of o e.journal)
        by_level None = refl
        by_level (Some rr) = refl
        by_level (Some rc) = refl

    inside : IsViewIn o e.store (view_now e.store)
    inside = view_now_in o script e kept

    pub view_keeps : Kept o script (quiet_event s x' e.locks after e)
    view_keeps = quiet_keeps o script e kept s x' e.locks after (plain_quiet o script e kept s x' e.locks after (record {
      leaves = leaves;
      calm = record { legal = ((kept.calm.legal, may_start o script e kept s i free next few), view_allowed); commit = refl; restart = refl };
      was = subst IsPlain (sym free) tt;
      becomes = tt;
      trx = refl;
      at = record {
        count = count_start script s e.journal i (idle_count o script e kept s i free next few);
        at = (read_under, ap has_deadlock part_is ∙ idle_deadlock o script e kept s i free next few);
        level = (kept.at s).level ∙ sym level_same;
        since = λ still. absurd (true≢false still);
      };
      view = sym view_is;
      sees = λ v is. subst (IsViewIn o e.store) (cc is) inside;
      reads = reads_now after x' (view_now e.store) refl refl refl inside view_is leaves.own_same refl refl;
      fetched = λ q ps h. absurd (cc h);
      locked = locks_same o script e kept s x' after leaves
          (λ q. ap (has_change script (λ r. not (is_deadlock r) && not (is_memory r)) q) part_is)
          (λ q. ap (λ (p : List Entry). has_change script is_memory q p && not (has_change script (λ r. not (is_deadlock r) && not (is_memory r)) q p)) part_is)
          (λ q. sym (ap (has_lock q) free));
      goes = λ q. inl refl;
    }))
