-- The event that undoes the last record of a transaction keeps all parts: sessions, views, reads.
use Rattle.std.proofs.Common.{◌≡◌, ◌≢◌, inl, inr, ℕ, suc, ◌+◌, ◌≤◌, Bool, true, false, true≢false, ◌&&◌, ◌||◌, nat_eq, nat_lt, List, [], ◌∷◌, ◌++◌, Option, Some, None, refl, sym, ap, ap₂, subst, ◌∙◌, option_map}
use Rattle.std.proofs.lemmas.Bool.{cases_eq}
use Rattle.page_model.specs.Pages.{Address}
use Rattle.journal_model.specs.Journal.{Script, Undoer, Opening}
use Rattle.journal_model.specs.History.{Owner, session, commit, Made, History, history}
use Rattle.store_data.specs.Store.{Record, Store}
use Rattle.store_model.specs.History.{Change, Past, changes, row_before, history_behind, is_among, stands, stands_above}
use Rattle.store_model.specs.History as store
use Rattle.store_model.specs.Undo.{is_gone, without_newest}
use Rattle.store_model.specs.Moves.{IsNewest}
use Rattle.kept_model.specs.Engine.{ReadView, is_own, sees_by, Task, reading, undoing, Session, Engine}
use Rattle.kept_model.specs.Names.{names_of, floor, is_old, is_purging, AreLogs}
use Rattle.read_model.specs.Flight.{IsFlight}
use Rattle.read_model.specs.OfStore.{document}
use Rattle.kept_model.specs.Rows.{AreNamed}
use Rattle.kept_model.specs.Stored.{Front, undone, front, IsStoredBy, known_from, IsStored}
use Rattle.kept_model.specs.Sessions.{IsSession, own_docs, record_docs, records_of, session_records, HasRecords, IsLogged, has_lock, AreLocks}
use Rattle.kept_model.specs.Views.{AllPast, IsViewIn, IsViewed, IsReadOf, IsRead, IsMaking, completed}
use Rattle.kept_model.specs.Kept.{AreCounts, AreGiven, Kept}
use Rattle.kept_model.specs.Undoes.{handed_task, handed_session}
use Rattle.kept_model.specs.Lasts.{Ends, last_event}
use Rattle.kept_model.proofs.SessionLemmas.{self_eq, is_eq, apart_of}
use Rattle.history_model.specs.Sound.{OfOwners}
use Rattle.kept_model.proofs.SessionLemmas.{by_session}
use Rattle.kept_model.proofs.UndoRows.{HasTwo, second_old, among_more}
use Rattle.kept_model.proofs.UndoRows.{handed_count, handed_at, handed_reading, handed_records, handed_lock, was_reading, was_making, was_fetching}
use Rattle.std.proofs.lemmas.List.{append-nil}
use Rattle.kept_model.proofs.UndoneLemmas.{none_for}
use Rattle.kept_model.proofs.ReadLemmas.{rows_off as other_rows, both_past}
use Rattle.kept_model.proofs.LastRows as part
use Rattle.kept_model.specs.Fetches.{IsFetched, IsFetch}
use Rattle.kept_model.proofs.FetchRows.{fetch_kept, fetch_handed, will_measured}

module _ (o : Opening) (script : Script) (e : Engine) (kept : Kept o script e) (s trx : ℕ) (place : Address) (u : Record) (next : Store) (undoes : Ends trx place u e.store next)
    (v : Undoer) (task_is : (e.sessions s).task ≡ undoing v) (is : (e.sessions s).trx ≡ Some trx)
    (newest : IsNewest trx place u e.store) (held : e.locks u.doc ≡ Some s) where
  abbrev new : Engine
  new = last_event s place u next e

  abbrev x' : Session
  x' = record (e.sessions s) { trx = None }

  abbrev handed : ℕ → Session
  handed t = handed_session u.doc place u (e.sessions t)

  among_same : (k x : ℕ) → x ≢ trx → is_among next k x ≡ is_among e.store k x
  among_same = part.among_same o script e kept s trx place u next undoes v task_is is newest held

  floor_same : floor next ≡ floor e.store
  floor_same = part.floor_same o script e kept s trx place u next undoes v task_is is newest held

  stands_then : stands trx e.store.active ≡ true
  stands_then = part.stands_then o script e kept s trx place u next undoes v task_is is newest held

  old_other : (x : ℕ) → is_old e.store x ≡ true → x ≢ trx
  old_other = part.old_other o script e kept s trx place u next undoes v task_is is newest held

  stands_now : stands trx e.store.active ≡ true
  stands_now = part.stands_now o script e kept s trx place u next undoes v task_is is newest held

  counts_kept : AreCounts o new.journal new.store
  counts_kept = part.counts_kept o script e kept s trx place u next undoes v task_is is newest held

  logs_kept : AreLogs next new.sessions
  logs_kept = part.logs_kept o script e kept s trx place u next undoes v task_is is newest held

  two : HasTwo (store.history e.store u.doc) (row_before e.store u.doc) u.before (changes (without_newest trx u e.store) u.doc)
  two = part.two o script e kept s trx place u next undoes v task_is is newest held

  abbrev Over : ℕ → Front → Type 0
  Over d f = IsStoredBy (known_from o e.store) script e.journal (history o script e.journal d) f (is_purging e.store.committed) (suc e.store.purged) (is_old e.store) (names_of e) (store.history next d)

  off : (d : ℕ) (f : Front) → (k : Over d f) → OfOwners (λ w. w ≢ session s) (k.ahead ++ k.left)
  off = part.off o script e kept s trx place u next undoes v task_is is newest held

  front_is : front e u.doc ≡ undone s
  front_is = part.front_is o script e kept s trx place u next undoes v task_is is newest held

  abbrev IsBy : List Past → Type 0
  IsBy rows = IsStoredBy (known_from o e.store) script e.journal (history o script e.journal u.doc) (undone s) (is_purging e.store.committed) (suc e.store.purged) (is_old e.store) (names_of e) rows

  own_stored : IsBy (store.history next u.doc)
  own_stored = part.own_stored o script e kept s trx place u next undoes v task_is is newest held

  stored_kept : (d : ℕ) → IsStored o script new d
  stored_kept = part.stored_kept o script e kept s trx place u next undoes v task_is is newest held

  rows_kept : (P : ℕ → Type 0) → P 0 → (d : ℕ) → AllPast P (store.history e.store d) → AllPast P (store.history next d)
  rows_kept = part.rows_kept o script e kept s trx place u next undoes v task_is is newest held

  zero_among : is_among e.store (floor e.store) 0 ≡ true
  zero_among = part.zero_among o script e kept s trx place u next undoes v task_is is newest held

  given_kept : (d : ℕ) → AreGiven next d
  given_kept = part.given_kept o script e kept s trx place u next undoes v task_is is newest held

  -- ---- sessions

  at_kept : (t : ℕ) → IsSession script e.journal t (new.sessions t)
  at_kept = by_session (IsSession script e.journal) s x' handed
      (record { count = (kept.at s).count; at = (kept.at s).at; level = (kept.at s).level; since = (kept.at s).since })
      (λ t apart. record {
        count = (kept.at t).count ∙ ap (λ (k : ℕ). Rattle.journal_model.specs.Part.answered t e.journal + k) (sym (handed_count u.doc place u (e.sessions t).task));
        at = handed_at u.doc place u script e.journal t (e.sessions t).task (kept.at t).at;
        level = (kept.at t).level;
        since = λ still. (kept.at t).since (sym (handed_reading u.doc place u (e.sessions t).task) ∙ still);
      })

  other_records : (t : ℕ) → (t ≡ s → ⊥) → session_records next (e.sessions t).trx ≡ session_records e.store (e.sessions t).trx
  other_records t other = by_trx (e.sessions t).trx refl
    where
      by_trx : (m : Option ℕ) → (e.sessions t).trx ≡ m → session_records next m ≡ session_records e.store m
      by_trx None has = refl
      by_trx (Some x) has = ap records_of (undoes.logs x (λ same. other (kept.logs.apart t s trx (has ∙ ap (λ (k : ℕ). Some k) same) is)))

  logged_kept : (t : ℕ) → IsLogged script e.journal t (new.sessions t) next
  logged_kept = by_session (λ t x. IsLogged script e.journal t x next) s x' handed
      (let was : (gone : List ℕ) × (own_docs script s e.journal ≡ gone ++ record_docs (session_records e.store (Some trx))) =
      subst (λ (m : Option ℕ). (gone : List ℕ) × (own_docs script s e.journal ≡ gone ++ record_docs (session_records e.store m))) is
      (subst (λ (k : Task). HasRecords k (own_docs script s e.journal) (record_docs (session_records e.store (e.sessions s).trx))) task_is (kept.logged s).records) in
      record {
        records = subst (λ (k : Task). HasRecords k (own_docs script s e.journal) []) (sym task_is)
            (was.0 ++ (u.doc ∷ []), was.1 ∙ ap (λ (ds : List ℕ). was.0 ++ ds) undoes.log ∙ sym (append-nil (was.0 ++ (u.doc ∷ []))));
        some = λ x has. absurd (cc has);
      })
      (λ t apart.
      let same = other_records t (λ one. apart_of t s one apart) in
      record {
        records = handed_records u.doc place u (own_docs script t e.journal) (record_docs (session_records next (e.sessions t).trx)) (e.sessions t).task
            (subst (λ us. HasRecords (e.sessions t).task (own_docs script t e.journal) (record_docs us)) (sym same) (kept.logged t).records);
        some = λ x has none. (kept.logged t).some x has (sym same ∙ none);
      })

  lock_same : (d t : ℕ) → has_lock d (new.sessions t).task ≡ has_lock d (e.sessions t).task
  lock_same d = by_session (λ t x. has_lock d x.task ≡ has_lock d (e.sessions t).task) s x' handed refl (λ t apart. handed_lock u.doc place u d (e.sessions t).task)

  locks_kept : (d : ℕ) → AreLocks script e.journal e.locks new.sessions d
  locks_kept d = record {
    held = (kept.locks d).held;
    taken = λ t h. (kept.locks d).taken t (sym (lock_same d t) ∙ h);
    meant = λ t h. let m = (kept.locks d).meant t h in (
      m.0,
      elim m.1 [
        | inl g ↦ inl g
        | inr more ↦ inr (elim more [ inl g ↦ inl g | inr g ↦ inr (lock_same d t ∙ g) ])
      ],
    );
  }

  -- ---- views and reads

  names_own : (w : Owner) → names_of e w ≡ Some trx → w ≡ session s
  names_own (session t) has = ap session (kept.logs.apart t s trx has is)
  names_own (commit k) has = absurd (true≢false (sym stands_then ∙ (kept.logs.commits k trx has).0))

  over_is : (d : ℕ) → Over d (front e d)
  over_is d = elim (cases_eq d u.doc) [
    | inl here ↦ subst (λ (q : ℕ). Over q (front e q)) (sym here)
        (subst (Over u.doc) (sym front_is) own_stored)
    | inr other ↦ subst (IsStoredBy (known_from o e.store) script e.journal (history o script e.journal d) (front e d) (is_purging e.store.committed) (suc e.store.purged) (is_old e.store) (names_of e))
        (sym (undoes.others d other)) (kept.stored d)
  ]

  not_rows : (d : ℕ) → AllPast (λ x. x ≢ trx) (store.history next d)
  not_rows d =
      let k = over_is d in
      other_rows (λ x. x ≢ trx) s (names_of e) (is_old e.store) (k.ahead ++ k.left) (store.history next d)
      (λ w x isnt named same. not_session w isnt (names_own w (named ∙ ap (λ (n : ℕ). Some n) same))) old_other
      (none_for s (k.ahead ++ k.left) (off d (front e d) k)) k.named
    where
      not_session : (w : Owner) → Rattle.journal_model.specs.History.is_sessions s w ≡ false → w ≡ session s → ⊥
      not_session w isnt same = true≢false (sym (ap (Rattle.journal_model.specs.History.is_sessions s) same ∙ self_eq s) ∙ isnt)

  view_in_kept : (w : ReadView) → IsViewIn o e.store w → IsViewIn o next w
  view_in_kept w h = record {
    high = subst (λ (m : ℕ). w.commits ≤ m) (sym undoes.commits) h.high;
    low = subst (λ (m : ℕ). m ≤ w.commits) (sym floor_same) h.low;
    first = h.first;
    zero = h.zero;
    limit = subst (λ (m : ℕ). w.limit ≤ m) (sym undoes.next) h.limit;
    active = λ x stand. h.active x (sym (undoes.active x (λ same. true≢false (sym stand ∙ ap (λ (n : ℕ). stands n next.active) same ∙ undoes.gone))) ∙ stand);
    rows = λ d. both_past (λ x. x ≢ trx) (λ x. sees_by None w x ≡ is_among e.store w.commits x) _ (store.history next d)
        (λ x other same. same ∙ sym (among_same w.commits x other)) (not_rows d)
        (rows_kept (λ x. sees_by None w x ≡ is_among e.store w.commits x) (h.zero ∙ sym (among_more e.store (floor e.store) w.commits 0 h.low zero_among)) d (h.rows d));
  }

  views_kept : (t : ℕ) → IsViewed o script e.journal next t (new.sessions t)
  views_kept = by_session (IsViewed o script e.journal next) s x' handed
      (record { commits = (kept.views s).commits; sees = λ w has. view_in_kept w ((kept.views s).sees w has) })
      (λ t apart. record { commits = (kept.views t).commits; sees = λ w has. view_in_kept w ((kept.views t).sees w has) })

  not_own : (t : ℕ) → (t ≡ s → ⊥) → (m : Option ℕ) → (e.sessions t).trx ≡ m → is_own m trx ≡ false
  not_own t other None has = refl
  not_own t other (Some x) has = by_test (nat_eq trx x) refl
    where
      by_test : (b : Bool) → nat_eq trx x ≡ b → b ≡ false
      by_test false g = refl
      by_test true g = absurd (other (kept.logs.apart t s trx (has ∙ ap (λ (k : ℕ). Some k) (sym (is_eq trx x g))) is))

  seen_so : (t : ℕ) (w : ReadView) (x : ℕ) → sees_by None w x ≡ true → sees_by (e.sessions t).trx w x ≡ true
  seen_so t w x h = ap (λ (b : Bool). is_own (e.sessions t).trx x || b) h ∙ or_true (is_own (e.sessions t).trx x)
    where
      or_true : (b : Bool) → (b || true) ≡ true
      or_true true = refl
      or_true false = refl

  -- where the row goes, the one before is the oldest, which every view sees
  before_seen : (w : ReadView) → IsViewIn o e.store w → is_gone (without_newest trx u e.store) u.before.state u.before ≡ true → sees_by None w u.before.trx ≡ true
  before_seen w h gone =
      let none : two.rest ≡ [] = two.last (undoes.last gone) in
      let stored = kept.stored u.doc in
      let oldest : is_old e.store two.second.trx ≡ true =
      second_old (names_of e) (is_old e.store) (stored.ahead ++ stored.left) two.first two.second
      (subst (λ (qs : List Past). AreNamed (names_of e) (is_old e.store) (stored.ahead ++ stored.left) (two.first ∷ two.second ∷ qs)) none
      (subst (AreNamed (names_of e) (is_old e.store) (stored.ahead ++ stored.left)) two.is stored.named)) in
      ap (sees_by None w) (sym two.before_trx)
      ∙ (subst (AllPast (λ x. sees_by None w x ≡ is_among e.store w.commits x)) two.is (h.rows u.doc)).1.0
      ∙ among_more e.store (floor e.store) w.commits two.second.trx h.low (among_of two.second.trx oldest)
    where
      among_of : (x : ℕ) → is_old e.store x ≡ true → is_among e.store (floor e.store) x ≡ true
      among_of x old = by_test (nat_lt x e.store.next_trx) old
        where
          by_test : (b : Bool) → (b && is_among e.store (floor e.store) x) ≡ true → is_among e.store (floor e.store) x ≡ true
          by_test true g = g
          by_test false g = absurd (true≢false (sym g))

  reads_kept : (t : ℕ) → IsRead o script e.journal next t (new.sessions t)
  reads_kept = by_session (IsRead o script e.journal next) s x' handed
      (λ d f h. absurd (cc (sym task_is ∙ h)))
      (λ t apart d f h. read_kept t d f h)
    where
      read_kept : (t d : ℕ) (f : Rattle.read_model.specs.Flight.Flight) → handed_task u.doc place u (e.sessions t).task ≡ reading d f → IsReadOf o script e.journal next t (handed t) d f
      read_kept t d f h =
          let was = was_reading u.doc place u (e.sessions t).task d f h in
          let rd = kept.reads t d was.before was.was in
          let other : (t ≡ s → ⊥) = (λ same. absurd (cc (sym was.was ∙ ap (λ (q : ℕ). (e.sessions q).task) same ∙ task_is))) in
          let inside = (kept.views t).sees rd.view rd.is in
          let unseen : sees_by (e.sessions t).trx rd.view trx ≡ false = ap₂ (λ (a b : Bool). a || b) (not_own t other (e.sessions t).trx refl) (inside.active trx stands_now) in
          record {
            view = rd.view;
            is = rd.is;
            parts = rd.parts;
            shows = rd.shows;
            flight = subst (IsFlight (sees_by (e.sessions t).trx rd.view) (document next d) rd.parts) (sym was.now)
                (undoes.reads (sees_by (e.sessions t).trx rd.view) d rd.parts was.before unseen (seen_so t rd.view 0 inside.zero)
                (λ gone. seen_so t rd.view u.before.trx (before_seen rd.view inside gone)) rd.flight);
          }

  making_kept : (t : ℕ) → IsMaking o script e.journal next t (new.sessions t)
  making_kept = by_session (IsMaking o script e.journal next) s x' handed
      (λ d left r h. absurd (cc (sym task_is ∙ h)))
      (λ t apart d left r h.
      let was = was_making u.doc place u (e.sessions t).task d left r h in
      let m = kept.making t d left r was in
      let its : e.locks d ≡ Some t = (kept.locks d).taken t (ap (has_lock d) was ∙ self_eq d) in
      let other : d ≢ u.doc = (λ same. apart_of t s (cc (sym its ∙ ap e.locks same ∙ held)) apart) in
      record { change = m.change; is = m.is; doc = m.doc; reply = m.reply; ok = m.ok; measured = will_measured d e.store next (undoes.elsewhere d other) left m.measured; ends = ap (option_map (completed left)) (undoes.elsewhere d other).parts ∙ m.ends })

  fetched_kept : (t : ℕ) → IsFetched next (new.sessions t)
  fetched_kept = by_session (λ t y. IsFetched next y) s x' handed (λ d g h. absurd (cc (sym task_is ∙ h)))
      (λ t apart d ps h.
      let prior = was_fetching u.doc place u (e.sessions t).task d ps h in
      let was = prior.is in
      let its : e.locks d ≡ Some t = (kept.locks d).taken t (ap (has_lock d) was ∙ self_eq d) in
      let other : d ≢ u.doc = (λ same. apart_of t s (cc (sym its ∙ ap e.locks same ∙ held)) apart) in
      subst (IsFetch next d) (sym prior.now) (fetch_handed next u.doc place u d prior.before other (fetch_kept d e.store next (undoes.elsewhere d other) prior.before (kept.fetched t d prior.before was))))

  pub last_keeps : Kept o script new
  last_keeps = record {
    calm = kept.calm;
    counts = counts_kept;
    consistent = undoes.consistent;
    given = given_kept;
    zero = part.old_same o script e kept s trx place u next undoes v task_is is newest held 0 kept.zero;
    logs = logs_kept;
    stored = stored_kept;
    at = at_kept;
    logged = logged_kept;
    locks = locks_kept;
    views = views_kept;
    reads = reads_kept;
    making = making_kept;
    fetched = fetched_kept;
  }
