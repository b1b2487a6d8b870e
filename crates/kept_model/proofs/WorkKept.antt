-- The further events of a change keep all parts.
use Rattle.std.proofs.Common.{◌≡◌, ◌≢◌, inl, inr, ℕ, suc, ◌+◌, ◌<◌, Bool, true, false, ◌||◌, nat_eq, List, [], ◌∷◌, Option, Some, None, refl, sym, ap, ap₂, subst, ◌∙◌, if◌then◌else◌, option_map}
use Rattle.std.proofs.lemmas.Bool.{cases_eq}
use Rattle.journal_model.specs.Journal.{Script, Reply, Opening}
use Rattle.journal_model.specs.History.{Owner, session, commit, one_made, newest_in, history}
use Rattle.store_data.specs.Store.{Lob}
use Rattle.store_model.specs.History.{Past, changes, row_before, content_behind}
use Rattle.store_model.specs.History as store
use Rattle.store_model.specs.Steps.{all_but_first}
use Rattle.kept_model.specs.Engine.{ReadView, is_own, sees_by, Left, Task, making, Session, Engine}
use Rattle.kept_model.specs.Names.{names_of, is_old, is_purging}
use Rattle.kept_model.specs.Rows.{bytes_of}
use Rattle.kept_model.specs.Stored.{Front, whole, begun, front_of, front_by, front, IsStoredBy, known_from, IsStored}
use Rattle.kept_model.specs.Sessions.{IsAt, under_way_in, is_reading, IsSession, own_docs, record_docs, session_records, HasRecords, IsLogged, has_lock}
use Rattle.kept_model.specs.Views.{AllPast, IsViewIn, IsViewed, IsRead, will_show, IsMakingOf, IsMaking, completed}
use Rattle.kept_model.specs.Kept.{Kept}
use Rattle.kept_model.specs.Plans.{at_work}
use Rattle.kept_model.specs.Works.{Works, work_event}
use Rattle.kept_model.proofs.StoredLemmas.{half_stored}
use Rattle.kept_model.proofs.PlanKept.{stored_over}
use Rattle.kept_model.proofs.AnswerRows.{rows_front}
use Rattle.kept_model.proofs.SessionLemmas.{self_eq, is_eq, apart_of, by_session}
use Rattle.kept_model.specs.Fetches.{IsFetched}
use Rattle.kept_model.proofs.FetchRows.{fetch_kept, will_measured}

-- another newest row of the same transaction leaves what holds of all rows' transactions
pub front_past : (P : ℕ → Type 0) (p q : Past) (ps qs : List Past) → q.trx ≡ p.trx → qs ≡ ps → AllPast P (p ∷ ps) → AllPast P (q ∷ qs)
front_past P p q ps qs trx same all = (subst P (sym trx) all.0, subst (AllPast P) (sym same) all.1)

module _ (o : Opening) (script : Script) (e : Engine) (kept : Kept o script e) (s trx d : ℕ) (left left' : Left) (r : Reply) (f : List Lob → List Lob) (works : Works trx d f e.store)
    (task_is : (e.sessions s).task ≡ making d left r) (is : (e.sessions s).trx ≡ Some trx)
    (ends : will_show left' (f e.store.lobs) (row_before e.store d) ≡ bytes_of (one_made s (kept.making s d left r task_is).change (newest_in s (history o script e.journal d))).left) where
  abbrev new : Engine
  new = work_event s d left' r f e

  abbrev x' : Session
  x' = at_work d left' r (e.sessions s)

  trx_same : (t : ℕ) → (new.sessions t).trx ≡ (e.sessions t).trx
  trx_same = by_session (λ t x. x.trx ≡ (e.sessions t).trx) s x' e.sessions refl (λ t apart. refl)

  names_same : (w : Owner) (x : ℕ) → names_of e w ≡ Some x → names_of new w ≡ Some x
  names_same (session t) x h = trx_same t ∙ h
  names_same (commit k) x h = h

  front_same : (q : ℕ) → front new q ≡ front e q
  front_same q = by_lock (e.locks q)
    where
      by_lock : (m : Option ℕ) → front_by q m new.sessions ≡ front_by q m e.sessions
      by_lock None = refl
      by_lock (Some t) = by_session (λ t x. front_of q t x.task ≡ front_of q t (e.sessions t).task) s x' e.sessions (sym (ap (front_of q s) task_is)) (λ t apart. refl) t

  lock_same : (q t : ℕ) → has_lock q (new.sessions t).task ≡ has_lock q (e.sessions t).task
  lock_same q = by_session (λ t x. has_lock q x.task ≡ has_lock q (e.sessions t).task) s x' e.sessions (sym (ap (has_lock q) task_is)) (λ t apart. refl)

  held : e.locks d ≡ Some s
  held = (kept.locks d).taken s (ap (has_lock d) task_is ∙ self_eq d)

  front_is : front e d ≡ begun s
  front_is = ap (λ (m : Option ℕ). front_by d m e.sessions) held ∙ ap (front_of d s) task_is ∙ ap (λ (b : Bool). if b then begun s else whole) (self_eq d)

  -- the document's rows before and behind: the newest is another, of the same transaction
  abbrev old_front : Past
  old_front = record { trx = (row_before e.store d).trx; length = (row_before e.store d).lob.length; bytes = content_behind [] e.store.lobs (row_before e.store d) }

  abbrev new_front : Past
  new_front = record { trx = (row_before e.store d).trx; length = (row_before e.store d).lob.length; bytes = content_behind [] (f e.store.lobs) (row_before e.store d) }

  old_rows : (ps : List Past) × (store.history e.store d ≡ old_front ∷ ps)
  old_rows = rows_front [] e.store.lobs (row_before e.store d) (changes e.store d)

  new_rows : store.history new.store d ≡ new_front ∷ old_rows.0
  new_rows =
      let rows = rows_front [] (f e.store.lobs) (row_before e.store d) (changes e.store d) in
      rows.1 ∙ ap (λ (ps : List Past). new_front ∷ ps) (ap all_but_first (sym rows.1) ∙ works.older ∙ ap all_but_first old_rows.1)

  abbrev By : ℕ → Front → List Past → Type 0
  By q fr rows = IsStoredBy (known_from o e.store) script e.journal (history o script e.journal q) fr (is_purging e.store.committed) (suc e.store.purged) (is_old e.store) (names_of e) rows

  over : (q : ℕ) → By q (front e q) (store.history new.store q) → IsStored o script new q
  over q k = subst (λ (fr : Front). IsStoredBy (known_from o e.store) script e.journal (history o script e.journal q) fr (is_purging e.store.committed) (suc e.store.purged) (is_old e.store) (names_of new) (store.history new.store q)) (sym (front_same q))
      (stored_over (known_from o e.store) (known_from o e.store) script e.journal (history o script e.journal q) (front e q) (is_purging e.store.committed) (is_purging e.store.committed) (suc e.store.purged) (suc e.store.purged)
      (is_old e.store) (is_old e.store) (names_of e) (names_of new) (store.history new.store q) refl refl refl (λ x old. old) names_same k)

  own_stored : By d (front e d) (store.history new.store d)
  own_stored = subst (By d (front e d)) (sym new_rows) (subst (λ (fr : Front). By d fr (new_front ∷ old_rows.0)) (sym front_is)
      (half_stored (known_from o e.store) script e.journal e.journal (is_purging e.store.committed) (suc e.store.purged) (is_old e.store) (names_of e) (store.history e.store d) s
      (history o script e.journal d) old_front new_front old_rows.0 old_rows.1 refl (λ ms h. h)
      (subst (λ (fr : Front). By d fr (store.history e.store d)) front_is (kept.stored d))))

  stored_kept : (q : ℕ) → IsStored o script new q
  stored_kept q = elim (cases_eq q d) [
    | inl here ↦ subst (IsStored o script new) (sym here) (over d own_stored)
    | inr other ↦ over q (subst (By q (front e q)) (sym (works.others q other)) (kept.stored q))
  ]

  rows_kept : (P : ℕ → Type 0) (q : ℕ) → AllPast P (store.history e.store q) → AllPast P (store.history new.store q)
  rows_kept P q all = elim (cases_eq q d) [
    | inl here ↦ subst (λ (n : ℕ). AllPast P (store.history new.store n)) (sym here)
        (subst (AllPast P) (sym new_rows) (front_past P old_front new_front old_rows.0 old_rows.0 refl refl (subst (AllPast P) old_rows.1 (subst (λ (n : ℕ). AllPast P (store.history e.store n)) here all))))
    | inr other ↦ subst (AllPast P) (sym (works.others q other)) all
  ]

  unseen : (t : ℕ) → nat_eq t s ≡ false → (v : ReadView) → (e.sessions t).view ≡ Some v → sees_by (e.sessions t).trx v trx ≡ false
  unseen t apart v has = ap₂ (λ (a b : Bool). a || b) (not_own (e.sessions t).trx refl) (((kept.views t).sees v has).active trx (kept.logs.own s trx is).0)
    where
      not_own : (m : Option ℕ) → (e.sessions t).trx ≡ m → is_own m trx ≡ false
      not_own None h = refl
      not_own (Some x) h = by_test (nat_eq trx x) refl
        where
          by_test : (b : Bool) → nat_eq trx x ≡ b → b ≡ false
          by_test false g = refl
          by_test true g = absurd (apart_of t s (kept.logs.apart t s trx (h ∙ ap (λ (k : ℕ). Some k) (sym (is_eq trx x g))) is) apart)

  pub work_keeps : Kept o script new
  work_keeps = record {
    calm = kept.calm;
    counts = record { commits = kept.counts.commits; purged = kept.counts.purged; more = kept.counts.more };
    consistent = works.consistent;
    given = λ q. rows_kept (λ x. x < e.store.next_trx) q (kept.given q);
    zero = kept.zero;
    logs = record {
      numbered = kept.logs.numbered;
      first = kept.logs.first;
      own = λ t x h. kept.logs.own t x (sym (trx_same t) ∙ h);
      apart = λ t u x h h'. kept.logs.apart t u x (sym (trx_same t) ∙ h) (sym (trx_same u) ∙ h');
      owned = λ x stand. let t = kept.logs.owned x stand in (t.0, trx_same t.0 ∙ t.1);
      commits = kept.logs.commits;
      below = kept.logs.below;
    };
    stored = stored_kept;
    at = by_session (IsSession script e.journal) s x' e.sessions
        (record {
          count = (kept.at s).count ∙ ap (λ (k : Task). Rattle.journal_model.specs.Part.answered s e.journal + under_way_in k) task_is;
          at = subst (IsAt script e.journal s) task_is (kept.at s).at;
          level = (kept.at s).level;
          since = λ still. (kept.at s).since (ap is_reading task_is);
        })
        (λ t apart. kept.at t);
    logged = by_session (λ t x. IsLogged script e.journal t x new.store) s x' e.sessions
        (record {
          records = subst (λ us. HasRecords (making d left' r) (own_docs script s e.journal) (record_docs us)) (sym (same_records (e.sessions s).trx))
              (subst (λ (k : Task). HasRecords k (own_docs script s e.journal) (record_docs (session_records e.store (e.sessions s).trx))) task_is (kept.logged s).records);
          some = λ x h none. (kept.logged s).some x h (sym (same_records (e.sessions s).trx) ∙ none);
        })
        (λ t apart. record {
          records = subst (λ us. HasRecords (e.sessions t).task (own_docs script t e.journal) (record_docs us)) (sym (same_records (e.sessions t).trx)) (kept.logged t).records;
          some = λ x h none. (kept.logged t).some x h (sym (same_records (e.sessions t).trx) ∙ none);
        });
    locks = λ q. record {
      held = (kept.locks q).held;
      taken = λ t h. (kept.locks q).taken t (sym (lock_same q t) ∙ h);
      meant = λ t h. let m = (kept.locks q).meant t h in (
        m.0,
        elim m.1 [
          | inl g ↦ inl g
          | inr more ↦ inr (elim more [ inl g ↦ inl g | inr g ↦ inr (lock_same q t ∙ g) ])
        ],
      );
    };
    views = by_session (IsViewed o script e.journal new.store) s x' e.sessions
        (record { commits = (kept.views s).commits; sees = λ v h. view_kept v ((kept.views s).sees v h) })
        (λ t apart. record { commits = (kept.views t).commits; sees = λ v h. view_kept v ((kept.views t).sees v h) });
    reads = by_session (IsRead o script e.journal new.store) s x' e.sessions (λ q fl h. absurd (cc h))
        (λ t apart q fl h. let rd = kept.reads t q fl h in record {
          view = rd.view;
          is = rd.is;
          parts = rd.parts;
          shows = rd.shows;
          flight = works.reads (sees_by (e.sessions t).trx rd.view) q rd.parts fl (unseen t apart rd.view rd.is) rd.flight;
        });
    making = by_session (IsMaking o script e.journal new.store) s x' e.sessions
        (λ q left'' r'' h.
        let m = kept.making s d left r task_is in
        let doc : d ≡ q = cc h in
        let left_is : left' ≡ left'' = cc h in
        let reply_is : r ≡ r'' = cc h in
        subst (λ (n : ℕ). IsMakingOf o script e.journal new.store s n left'' r'') doc
        (subst (λ (k : Left). IsMakingOf o script e.journal new.store s d k r'') left_is
        (subst (λ (k : Reply). IsMakingOf o script e.journal new.store s d left' k) reply_is
        (record { change = m.change; is = m.is; doc = m.doc; reply = m.reply; ok = m.ok; measured = λ bs shown. m.measured bs (m.ends ∙ sym ends ∙ shown); ends = ends }))))
        (λ t apart q left'' r'' h.
        let m = kept.making t q left'' r'' h in
        let its : e.locks q ≡ Some t = (kept.locks q).taken t (ap (has_lock q) h ∙ self_eq q) in
        let other : q ≢ d = (λ same. apart_of t s (cc (sym its ∙ ap e.locks same ∙ held)) apart) in
        record { change = m.change; is = m.is; doc = m.doc; reply = m.reply; ok = m.ok; measured = will_measured q e.store new.store (works.elsewhere q other) left'' m.measured; ends = ap (option_map (completed left'')) (works.elsewhere q other).parts ∙ m.ends });
    fetched = by_session (λ t y. IsFetched new.store y) s x' e.sessions (λ q g h. absurd (cc h))
        (λ t apart q ps h.
        let its : e.locks q ≡ Some t = (kept.locks q).taken t (ap (has_lock q) h ∙ self_eq q) in
        let other : q ≢ d = (λ same. apart_of t s (cc (sym its ∙ ap e.locks same ∙ held)) apart) in
        fetch_kept q e.store new.store (works.elsewhere q other) ps (kept.fetched t q ps h));
  }
    where
      same_records : (m : Option ℕ) → session_records new.store m ≡ session_records e.store m
      same_records None = refl
      same_records (Some x) = refl

      view_kept : (v : ReadView) → IsViewIn o e.store v → IsViewIn o new.store v
      view_kept v h = record {
        high = h.high;
        low = h.low;
        first = h.first;
        limit = h.limit;
        zero = h.zero;
        active = h.active;
        rows = λ q. rows_kept (λ x. sees_by None v x ≡ store.is_among e.store v.commits x) q (h.rows q);
      }
