-- The last event of an undone record, whose log has more, keeps all parts: sessions, views, reads.
use Rattle.std.proofs.Common.{◌≡◌, ◌≢◌, inl, inr, ℕ, ◌+◌, ◌≤◌, Bool, true, false, true≢false, ◌&&◌, ◌||◌, nat_eq, nat_lt, List, [], ◌∷◌, ◌++◌, Option, Some, None, refl, sym, ap, ap₂, subst, ◌∙◌, option_map}
use Rattle.std.proofs.lemmas.Bool.{cases_eq}
use Rattle.page_model.specs.Pages.{Address}
use Rattle.journal_model.specs.Journal.{Script, Undoer, Opening}
use Rattle.store_data.specs.Store.{Record, Store}
use Rattle.store_model.specs.History.{Change, Past, changes, row_before, history_behind, is_among, stands, stands_above}
use Rattle.store_model.specs.History as store
use Rattle.store_model.specs.Undo.{is_gone, without_newest}
use Rattle.store_model.specs.Moves.{IsNewest}
use Rattle.kept_model.specs.Engine.{ReadView, is_own, sees_by, Task, undoing, Engine}
use Rattle.kept_model.specs.Names.{names_of, floor, is_old, AreLogs}
use Rattle.read_model.specs.Flight.{IsFlight}
use Rattle.read_model.specs.OfStore.{document}
use Rattle.kept_model.specs.Rows.{AreNamed}
use Rattle.kept_model.specs.Stored.{IsStored}
use Rattle.kept_model.specs.Sessions.{IsSession, own_docs, record_docs, records_of, session_records, HasRecords, IsLogged, has_lock, AreLocks}
use Rattle.kept_model.specs.Views.{AllPast, IsViewIn, IsViewed, IsRead, IsMaking, completed}
use Rattle.kept_model.specs.Kept.{AreCounts, AreGiven, Kept}
use Rattle.kept_model.specs.Undoes.{handed_task, Undoes, undo_event}
use Rattle.kept_model.proofs.SessionLemmas.{self_eq, is_eq}
use Rattle.kept_model.proofs.CommitRows.{all_past}
use Rattle.kept_model.proofs.UndoRows as part
use Rattle.kept_model.proofs.UndoRows.{handed_count, handed_at, handed_reading, handed_records, handed_lock, was_reading, was_making, was_fetching}
use Rattle.kept_model.proofs.UndoRows.{HasTwo, among_more, second_old}
use Rattle.kept_model.specs.Fetches.{IsFetched, IsFetch}
use Rattle.kept_model.proofs.FetchRows.{fetch_kept, fetch_handed, will_measured}

module _ (o : Opening) (script : Script) (e : Engine) (kept : Kept o script e) (s trx : ℕ) (place : Address) (u : Record) (next : Store) (undoes : Undoes trx place u e.store next)
    (v : Undoer) (task_is : (e.sessions s).task ≡ undoing v) (is : (e.sessions s).trx ≡ Some trx)
    (newest : IsNewest trx place u e.store) (held : e.locks u.doc ≡ Some s) where
  abbrev new : Engine
  new = undo_event place u next e

  among_same : (k x : ℕ) → is_among next k x ≡ is_among e.store k x
  among_same = part.among_same o script e kept s trx place u next undoes v task_is is newest held

  floor_same : floor next ≡ floor e.store
  floor_same = part.floor_same o script e kept s trx place u next undoes v task_is is newest held

  stands_now : stands trx e.store.active ≡ true
  stands_now = part.stands_now o script e kept s trx place u next undoes v task_is is newest held

  counts_kept : AreCounts o new.journal new.store
  counts_kept = part.counts_kept o script e kept s trx place u next undoes v task_is is newest held

  logs_kept : AreLogs next new.sessions
  logs_kept = part.logs_kept o script e kept s trx place u next undoes v task_is is newest held

  two : HasTwo (store.history e.store u.doc) (row_before e.store u.doc) u.before (changes (without_newest trx u e.store) u.doc)
  two = part.two o script e kept s trx place u next undoes v task_is is newest held

  stored_kept : (d : ℕ) → IsStored o script new d
  stored_kept = part.stored_kept o script e kept s trx place u next undoes v task_is is newest held

  rows_kept : (P : ℕ → Type 0) → P 0 → (d : ℕ) → AllPast P (store.history e.store d) → AllPast P (store.history next d)
  rows_kept = part.rows_kept o script e kept s trx place u next undoes v task_is is newest held

  zero_among : is_among e.store (floor e.store) 0 ≡ true
  zero_among = part.zero_among o script e kept s trx place u next undoes v task_is is newest held

  given_kept : (d : ℕ) → AreGiven next d
  given_kept = part.given_kept o script e kept s trx place u next undoes v task_is is newest held

  -- ---- sessions

  at_kept : (t : ℕ) → IsSession script e.journal t (new.sessions t)
  at_kept t = record {
    count = (kept.at t).count ∙ ap (λ (k : ℕ). Rattle.journal_model.specs.Part.answered t e.journal + k) (sym (handed_count u.doc place u (e.sessions t).task));
    at = handed_at u.doc place u script e.journal t (e.sessions t).task (kept.at t).at;
    level = (kept.at t).level;
    since = λ still. (kept.at t).since (sym (handed_reading u.doc place u (e.sessions t).task) ∙ still);
  }

  other_records : (t : ℕ) → (t ≡ s → ⊥) → session_records next (e.sessions t).trx ≡ session_records e.store (e.sessions t).trx
  other_records t other = by_trx (e.sessions t).trx refl
    where
      by_trx : (m : Option ℕ) → (e.sessions t).trx ≡ m → session_records next m ≡ session_records e.store m
      by_trx None has = refl
      by_trx (Some x) has = ap records_of (undoes.logs x (λ same. other (kept.logs.apart t s trx (has ∙ ap (λ (k : ℕ). Some k) same) is)))

  own_logged : IsLogged script e.journal s (new.sessions s) next
  own_logged =
      let was : (gone : List ℕ) × (own_docs script s e.journal ≡ gone ++ record_docs (session_records e.store (Some trx))) =
      subst (λ (m : Option ℕ). (gone : List ℕ) × (own_docs script s e.journal ≡ gone ++ record_docs (session_records e.store m))) is
      (subst (λ (k : Task). HasRecords k (own_docs script s e.journal) (record_docs (session_records e.store (e.sessions s).trx))) task_is (kept.logged s).records) in
      let now : (gone : List ℕ) × (own_docs script s e.journal ≡ gone ++ record_docs (session_records next (Some trx))) =
      (was.0 ++ (u.doc ∷ []), was.1 ∙ ap (λ (ds : List ℕ). was.0 ++ ds) undoes.log ∙ sym (Rattle.std.proofs.lemmas.List.append_assoc was.0 (u.doc ∷ []) (record_docs (session_records next (Some trx))))) in
      record {
        records = subst (λ (k : Task). HasRecords (handed_task u.doc place u k) (own_docs script s e.journal) (record_docs (session_records next (e.sessions s).trx))) (sym task_is)
            (subst (λ (m : Option ℕ). (gone : List ℕ) × (own_docs script s e.journal ≡ gone ++ record_docs (session_records next m))) (sym is) now);
        some = λ x has none. undoes.more (ap (session_records next) (sym is) ∙ none);
      }

  logged_kept : (t : ℕ) → IsLogged script e.journal t (new.sessions t) next
  logged_kept t = elim (cases_eq t s) [
    | inl here ↦ subst (λ (q : ℕ). IsLogged script e.journal q (new.sessions q) next) (sym here) own_logged
    | inr other ↦
        let same = other_records t other in
        record {
          records = handed_records u.doc place u (own_docs script t e.journal) (record_docs (session_records next (e.sessions t).trx)) (e.sessions t).task
              (subst (λ us. HasRecords (e.sessions t).task (own_docs script t e.journal) (record_docs us)) (sym same) (kept.logged t).records);
          some = λ x has none. (kept.logged t).some x has (sym same ∙ none);
        }
  ]

  locks_kept : (d : ℕ) → AreLocks script e.journal e.locks new.sessions d
  locks_kept d = record {
    held = (kept.locks d).held;
    taken = λ t h. (kept.locks d).taken t (sym (handed_lock u.doc place u d (e.sessions t).task) ∙ h);
    meant = λ t h. let m = (kept.locks d).meant t h in (
      m.0,
      elim m.1 [
        | inl g ↦ inl g
        | inr more ↦ inr (elim more [ inl g ↦ inl g | inr g ↦ inr (handed_lock u.doc place u d (e.sessions t).task ∙ g) ])
      ],
    );
  }

  -- ---- views and reads

  view_in_kept : (w : ReadView) → IsViewIn o e.store w → IsViewIn o next w
  view_in_kept w h = record {
    high = subst (λ (m : ℕ). w.commits ≤ m) (sym undoes.commits) h.high;
    low = subst (λ (m : ℕ). m ≤ w.commits) (sym floor_same) h.low;
    first = h.first;
    zero = h.zero;
    limit = subst (λ (m : ℕ). w.limit ≤ m) (sym undoes.next) h.limit;
    active = λ x stand. h.active x (sym (undoes.active x) ∙ stand);
    rows = λ d. all_past (λ x. sees_by None w x ≡ is_among e.store w.commits x) _ (store.history next d) (λ x same. same ∙ sym (among_same w.commits x))
        (rows_kept (λ x. sees_by None w x ≡ is_among e.store w.commits x) (h.zero ∙ sym (among_more e.store (floor e.store) w.commits 0 h.low zero_among)) d (h.rows d));
  }

  views_kept : (t : ℕ) → IsViewed o script e.journal next t (new.sessions t)
  views_kept t = record { commits = (kept.views t).commits; sees = λ w has. view_in_kept w ((kept.views t).sees w has) }

  not_own : (t : ℕ) → (t ≡ s → ⊥) → (m : Option ℕ) → (e.sessions t).trx ≡ m → is_own m trx ≡ false
  not_own t other None has = refl
  not_own t other (Some x) has = by_test (nat_eq trx x) refl
    where
      by_test : (b : Bool) → nat_eq trx x ≡ b → b ≡ false
      by_test false g = refl
      by_test true g = absurd (other (kept.logs.apart t s trx (has ∙ ap (λ (k : ℕ). Some k) (sym (is_eq trx x g))) is))

  seen_so : (t : ℕ) (w : ReadView) (x : ℕ) → sees_by None w x ≡ true → sees_by (e.sessions t).trx w x ≡ true
  seen_so t w x h = ap (λ (b : Bool). is_own (e.sessions t).trx x || b) h ∙ or_true (is_own (e.sessions t).trx x)
    where
      or_true : (b : Bool) → (b || true) ≡ true
      or_true true = refl
      or_true false = refl

  -- where the row goes, the one before is the oldest, which every view sees
  before_seen : (w : ReadView) → IsViewIn o e.store w → is_gone (without_newest trx u e.store) u.before.state u.before ≡ true → sees_by None w u.before.trx ≡ true
  before_seen w h gone =
      let none : two.rest ≡ [] = two.last (undoes.last gone) in
      let stored = kept.stored u.doc in
      let oldest : is_old e.store two.second.trx ≡ true =
      second_old (names_of e) (is_old e.store) (stored.ahead ++ stored.left) two.first two.second
      (subst (λ (qs : List Past). AreNamed (names_of e) (is_old e.store) (stored.ahead ++ stored.left) (two.first ∷ two.second ∷ qs)) none
      (subst (AreNamed (names_of e) (is_old e.store) (stored.ahead ++ stored.left)) two.is stored.named)) in
      ap (sees_by None w) (sym two.before_trx)
      ∙ (subst (AllPast (λ x. sees_by None w x ≡ is_among e.store w.commits x)) two.is (h.rows u.doc)).1.0
      ∙ among_more e.store (floor e.store) w.commits two.second.trx h.low (among_of two.second.trx oldest)
    where
      among_of : (x : ℕ) → is_old e.store x ≡ true → is_among e.store (floor e.store) x ≡ true
      among_of x old = by_test (nat_lt x e.store.next_trx) old
        where
          by_test : (b : Bool) → (b && is_among e.store (floor e.store) x) ≡ true → is_among e.store (floor e.store) x ≡ true
          by_test true g = g
          by_test false g = absurd (true≢false (sym g))

  reads_kept : (t : ℕ) → IsRead o script e.journal next t (new.sessions t)
  reads_kept t d f h =
      let was = was_reading u.doc place u (e.sessions t).task d f h in
      let rd = kept.reads t d was.before was.was in
      let other : (t ≡ s → ⊥) = (λ same. absurd (cc (sym was.was ∙ ap (λ (q : ℕ). (e.sessions q).task) same ∙ task_is))) in
      let inside = (kept.views t).sees rd.view rd.is in
      let unseen : sees_by (e.sessions t).trx rd.view trx ≡ false = ap₂ (λ (a b : Bool). a || b) (not_own t other (e.sessions t).trx refl) (inside.active trx stands_now) in
      record {
        view = rd.view;
        is = rd.is;
        parts = rd.parts;
        shows = rd.shows;
        flight = subst (IsFlight (sees_by (e.sessions t).trx rd.view) (document next d) rd.parts) (sym was.now)
            (undoes.reads (sees_by (e.sessions t).trx rd.view) d rd.parts was.before unseen (seen_so t rd.view 0 inside.zero)
            (λ gone. seen_so t rd.view u.before.trx (before_seen rd.view inside gone)) rd.flight);
      }

  making_kept : (t : ℕ) → IsMaking o script e.journal next t (new.sessions t)
  making_kept t d left r h =
      let was = was_making u.doc place u (e.sessions t).task d left r h in
      let m = kept.making t d left r was in
      let its : e.locks d ≡ Some t = (kept.locks d).taken t (ap (has_lock d) was ∙ self_eq d) in
      let other : d ≢ u.doc = (λ same.
      let one : t ≡ s = cc (sym its ∙ ap e.locks same ∙ held) in
      absurd (cc (sym was ∙ ap (λ (q : ℕ). (e.sessions q).task) one ∙ task_is))) in
      record { change = m.change; is = m.is; doc = m.doc; reply = m.reply; ok = m.ok; measured = will_measured d e.store next (undoes.elsewhere d other) left m.measured; ends = ap (option_map (completed left)) (undoes.elsewhere d other).parts ∙ m.ends }

  fetched_kept : (t : ℕ) → IsFetched next (new.sessions t)
  fetched_kept t d ps h =
      let prior = was_fetching u.doc place u (e.sessions t).task d ps h in
      let was = prior.is in
      let its : e.locks d ≡ Some t = (kept.locks d).taken t (ap (has_lock d) was ∙ self_eq d) in
      let other : d ≢ u.doc = (λ same.
      let one : t ≡ s = cc (sym its ∙ ap e.locks same ∙ held) in
      absurd (cc (sym was ∙ ap (λ (q : ℕ). (e.sessions q).task) one ∙ task_is))) in
      subst (IsFetch next d) (sym prior.now) (fetch_handed next u.doc place u d prior.before other (fetch_kept d e.store next (undoes.elsewhere d other) prior.before (kept.fetched t d prior.before was)))

  pub undo_keeps : Kept o script new
  undo_keeps = record {
    calm = kept.calm;
    counts = counts_kept;
    consistent = undoes.consistent;
    given = given_kept;
    zero = part.old_same o script e kept s trx place u next undoes v task_is is newest held 0 ∙ kept.zero;
    logs = logs_kept;
    stored = stored_kept;
    at = at_kept;
    logged = logged_kept;
    locks = locks_kept;
    views = views_kept;
    reads = reads_kept;
    making = making_kept;
    fetched = fetched_kept;
  }
