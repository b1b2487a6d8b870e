-- The events that undo a record, but its last, keep all parts.
use Rattle.std.proofs.Common.{◌≡◌, ◌≢◌, inl, inr, ℕ, suc, ◌+◌, ◌<◌, Bool, true, false, true≢false, ◌||◌, nat_eq, List, [], ◌∷◌, Option, Some, None, refl, sym, ap, ap₂, subst, ◌∙◌, option_map}
use Rattle.std.proofs.lemmas.Bool.{cases_eq}
use Rattle.journal_model.specs.Journal.{Script, Reply, Undoer, Entry, Opening}
use Rattle.journal_model.specs.Part.{answered}
use Rattle.journal_model.specs.History.{Owner, session, commit, history}
use Rattle.store_data.specs.Store.{Lob}
use Rattle.store_model.specs.History.{Past, changes, row_before, content_behind}
use Rattle.store_model.specs.History as store
use Rattle.store_model.specs.Steps.{all_but_first}
use Rattle.read_model.specs.Flight.{Flight, IsFlight}
use Rattle.read_model.specs.OfStore.{document}
use Rattle.kept_model.specs.Engine.{ReadView, is_own, sees_by, Left, Task, idle, asking, fetching, making, reading, undoing, Engine}
use Rattle.kept_model.specs.Names.{names_of, is_old, is_purging}
use Rattle.kept_model.specs.Stored.{Front, undone, front_of, front_by, front, IsStoredBy, known_from, IsStored}
use Rattle.kept_model.specs.Sessions.{IsAt, under_way_in, is_reading, own_docs, record_docs, session_records, HasRecords, has_lock}
use Rattle.kept_model.specs.Views.{AllPast, IsViewIn, completed}
use Rattle.kept_model.specs.Kept.{Kept}
use Rattle.kept_model.specs.Halves.{turned_task, Halves, half_event}
use Rattle.kept_model.proofs.UndoneLemmas.{half_undone}
use Rattle.kept_model.proofs.PlanKept.{stored_over}
use Rattle.kept_model.proofs.AnswerRows.{rows_front}
use Rattle.kept_model.proofs.WorkKept.{front_past}
use Rattle.kept_model.proofs.SessionLemmas.{self_eq, is_eq}
use Rattle.kept_model.specs.Fetches.{IsFetch}
use Rattle.kept_model.proofs.FetchRows.{fetch_kept, will_measured}
use Rattle.kept_model.proofs.UndoRows.{WasFetching}

-- ---- tasks

module _ (turn : ℕ → Flight → Flight) where
  turned_count : (k : Task) → under_way_in (turned_task turn k) ≡ under_way_in k
  turned_count idle = refl
  turned_count (asking e) = refl
  turned_count (fetching e ps) = refl
  turned_count (making e left r) = refl
  turned_count (reading e f) = refl
  turned_count (undoing v) = refl

  turned_at : (script : Script) (past : List Entry) (t : ℕ) (k : Task) → IsAt script past t k → IsAt script past t (turned_task turn k)
  turned_at script past t idle h = h
  turned_at script past t (asking e) h = h
  turned_at script past t (fetching e ps) h = h
  turned_at script past t (making e left r) h = h
  turned_at script past t (reading e f) h = h
  turned_at script past t (undoing v) h = h

  turned_reading : (k : Task) → is_reading (turned_task turn k) ≡ is_reading k
  turned_reading idle = refl
  turned_reading (asking e) = refl
  turned_reading (fetching e ps) = refl
  turned_reading (making e left r) = refl
  turned_reading (reading e f) = refl
  turned_reading (undoing v) = refl

  turned_records : (docs ds : List ℕ) (k : Task) → HasRecords k docs ds → HasRecords (turned_task turn k) docs ds
  turned_records docs ds idle h = h
  turned_records docs ds (asking e) h = h
  turned_records docs ds (fetching e ps) h = h
  turned_records docs ds (making e left r) h = h
  turned_records docs ds (reading e f) h = h
  turned_records docs ds (undoing v) h = h

  turned_lock : (d : ℕ) (k : Task) → has_lock d (turned_task turn k) ≡ has_lock d k
  turned_lock d idle = refl
  turned_lock d (asking e) = refl
  turned_lock d (fetching e ps) = refl
  turned_lock d (making e left r) = refl
  turned_lock d (reading e f) = refl
  turned_lock d (undoing v) = refl

  pub turned_front : (d t : ℕ) (k : Task) → front_of d t (turned_task turn k) ≡ front_of d t k
  turned_front d t idle = refl
  turned_front d t (asking e) = refl
  turned_front d t (fetching e ps) = refl
  turned_front d t (making e left r) = refl
  turned_front d t (reading e f) = refl
  turned_front d t (undoing v) = refl

  record WasReading (d : ℕ) (f : Flight) (k : Task) : Type 0 where
    pub before : Flight
    pub was : k ≡ reading d before
    pub now : f ≡ turn d before

  was_reading : (k : Task) (d : ℕ) (f : Flight) → turned_task turn k ≡ reading d f → WasReading d f k
  was_reading idle d f h = absurd (cc h)
  was_reading (asking e) d f h = absurd (cc h)
  was_reading (fetching e ps) d f h = absurd (cc h)
  was_reading (making e left r) d f h = absurd (cc h)
  was_reading (reading e g) d f h = let same : e ≡ d = cc h in let flight : turn e g ≡ f = cc h in
      record { before = g; was = ap (λ (n : ℕ). reading n g) same; now = sym flight ∙ ap (λ (n : ℕ). turn n g) same }
  was_reading (undoing v) d f h = absurd (cc h)

  was_making : (k : Task) (d : ℕ) (left : Left) (r : Reply) → turned_task turn k ≡ making d left r → k ≡ making d left r
  was_making idle d left r h = absurd (cc h)
  was_making (asking e) d left r h = absurd (cc h)
  was_making (fetching e ps) d left r h = absurd (cc h)
  was_making (making e g q) d left r h = h
  was_making (reading e g) d left r h = absurd (cc h)
  was_making (undoing v) d left r h = absurd (cc h)

  was_fetching : (k : Task) (d : ℕ) (f : Flight) → turned_task turn k ≡ fetching d f → WasFetching turn k d f
  was_fetching idle d f h = absurd (cc h)
  was_fetching (asking e) d f h = absurd (cc h)
  was_fetching (fetching e g) d f h = let same : e ≡ d = cc h in record {
    before = g;
    is = ap (λ n. fetching n g) same;
    now = (let now : turn e g ≡ f = cc h in sym now ∙ ap (λ n. turn n g) same);
  }
  was_fetching (making e g q) d f h = absurd (cc h)
  was_fetching (reading e g) d f h = absurd (cc h)
  was_fetching (undoing v) d f h = absurd (cc h)

module _ (o : Opening) (script : Script) (e : Engine) (kept : Kept o script e) (s trx d : ℕ) (turn : ℕ → Flight → Flight) (f : List Lob → List Lob) (halves : Halves trx d turn f e.store)
    (v : Undoer) (task_is : (e.sessions s).task ≡ undoing v) (is : (e.sessions s).trx ≡ Some trx) (held : e.locks d ≡ Some s) where
  abbrev new : Engine
  new = half_event turn f e

  names_same : (w : Owner) (x : ℕ) → names_of e w ≡ Some x → names_of new w ≡ Some x
  names_same (session t) x h = h
  names_same (commit k) x h = h

  front_same : (q : ℕ) → front new q ≡ front e q
  front_same q = by_lock (e.locks q)
    where
      by_lock : (m : Option ℕ) → front_by q m new.sessions ≡ front_by q m e.sessions
      by_lock None = refl
      by_lock (Some t) = turned_front turn q t (e.sessions t).task

  front_is : front e d ≡ undone s
  front_is = ap (λ (m : Option ℕ). front_by d m e.sessions) held ∙ ap (front_of d s) task_is

  -- the document's rows before and behind: the newest is another, of the same transaction
  abbrev old_front : Past
  old_front = record { trx = (row_before e.store d).trx; length = (row_before e.store d).lob.length; bytes = content_behind [] e.store.lobs (row_before e.store d) }

  abbrev new_front : Past
  new_front = record { trx = (row_before e.store d).trx; length = (row_before e.store d).lob.length; bytes = content_behind [] (f e.store.lobs) (row_before e.store d) }

  old_rows : (ps : List Past) × (store.history e.store d ≡ old_front ∷ ps)
  old_rows = rows_front [] e.store.lobs (row_before e.store d) (changes e.store d)

  new_rows : store.history new.store d ≡ new_front ∷ old_rows.0
  new_rows =
      let rows = rows_front [] (f e.store.lobs) (row_before e.store d) (changes e.store d) in
      rows.1 ∙ ap (λ (ps : List Past). new_front ∷ ps) (ap all_but_first (sym rows.1) ∙ halves.older ∙ ap all_but_first old_rows.1)

  names_one : (w : Owner) → names_of e w ≡ Some old_front.trx → w ≡ session s
  names_one (session t) has = ap session (kept.logs.apart t s trx (has ∙ ap (λ (k : ℕ). Some k) halves.mine) is)
  names_one (commit k) has = absurd (true≢false (sym (kept.logs.own s trx is).0 ∙ (kept.logs.commits k trx (has ∙ ap (λ (m : ℕ). Some m) halves.mine)).0))

  abbrev By : ℕ → Front → List Past → Type 0
  By q fr rows = IsStoredBy (known_from o e.store) script e.journal (history o script e.journal q) fr (is_purging e.store.committed) (suc e.store.purged) (is_old e.store) (names_of e) rows

  over : (q : ℕ) → By q (front e q) (store.history new.store q) → IsStored o script new q
  over q k = subst (λ (fr : Front). IsStoredBy (known_from o e.store) script e.journal (history o script e.journal q) fr (is_purging e.store.committed) (suc e.store.purged) (is_old e.store) (names_of new) (store.history new.store q)) (sym (front_same q))
      (stored_over (known_from o e.store) (known_from o e.store) script e.journal (history o script e.journal q) (front e q) (is_purging e.store.committed) (is_purging e.store.committed) (suc e.store.purged) (suc e.store.purged)
      (is_old e.store) (is_old e.store) (names_of e) (names_of new) (store.history new.store q) refl refl refl (λ x old. old) names_same k)

  own_stored : By d (front e d) (store.history new.store d)
  own_stored = subst (By d (front e d)) (sym new_rows) (subst (λ (fr : Front). By d fr (new_front ∷ old_rows.0)) (sym front_is)
      (half_undone (known_from o e.store) script e.journal e.journal (is_purging e.store.committed) (suc e.store.purged) (is_old e.store) (names_of e) (store.history e.store d) s
      (history o script e.journal d) old_front new_front old_rows.0 old_rows.1 refl names_one (λ none. halves.behind (ap all_but_first old_rows.1 ∙ none))
      (subst (λ (fr : Front). By d fr (store.history e.store d)) front_is (kept.stored d))))

  stored_kept : (q : ℕ) → IsStored o script new q
  stored_kept q = elim (cases_eq q d) [
    | inl here ↦ subst (IsStored o script new) (sym here) (over d own_stored)
    | inr other ↦ over q (subst (By q (front e q)) (sym (halves.others q other)) (kept.stored q))
  ]

  rows_kept : (P : ℕ → Type 0) (q : ℕ) → AllPast P (store.history e.store q) → AllPast P (store.history new.store q)
  rows_kept P q all = elim (cases_eq q d) [
    | inl here ↦ subst (λ (n : ℕ). AllPast P (store.history new.store n)) (sym here)
        (subst (AllPast P) (sym new_rows) (front_past P old_front new_front old_rows.0 old_rows.0 refl refl (subst (AllPast P) old_rows.1 (subst (λ (n : ℕ). AllPast P (store.history e.store n)) here all))))
    | inr other ↦ subst (AllPast P) (sym (halves.others q other)) all
  ]

  unseen : (t : ℕ) → (t ≡ s → ⊥) → (w : ReadView) → (e.sessions t).view ≡ Some w → sees_by (e.sessions t).trx w trx ≡ false
  unseen t other w has = ap₂ (λ (a b : Bool). a || b) (not_own (e.sessions t).trx refl) (((kept.views t).sees w has).active trx (kept.logs.own s trx is).0)
    where
      not_own : (m : Option ℕ) → (e.sessions t).trx ≡ m → is_own m trx ≡ false
      not_own None h = refl
      not_own (Some x) h = by_test (nat_eq trx x) refl
        where
          by_test : (b : Bool) → nat_eq trx x ≡ b → b ≡ false
          by_test false g = refl
          by_test true g = absurd (other (kept.logs.apart t s trx (h ∙ ap (λ (k : ℕ). Some k) (sym (is_eq trx x g))) is))

  same_records : (m : Option ℕ) → session_records new.store m ≡ session_records e.store m
  same_records None = refl
  same_records (Some x) = refl

  view_kept : (w : ReadView) → IsViewIn o e.store w → IsViewIn o new.store w
  view_kept w h = record {
    high = h.high;
    low = h.low;
    first = h.first;
    limit = h.limit;
    zero = h.zero;
    active = h.active;
    rows = λ q. rows_kept (λ x. sees_by None w x ≡ store.is_among e.store w.commits x) q (h.rows q);
  }

  pub half_keeps : Kept o script new
  half_keeps = record {
    calm = kept.calm;
    counts = record { commits = kept.counts.commits; purged = kept.counts.purged; more = kept.counts.more };
    consistent = halves.consistent;
    given = λ q. rows_kept (λ x. x < e.store.next_trx) q (kept.given q);
    zero = kept.zero;
    logs = record {
      numbered = kept.logs.numbered;
      first = kept.logs.first;
      own = λ t x h. kept.logs.own t x h;
      apart = λ t u x h h'. kept.logs.apart t u x h h';
      owned = λ x stand. kept.logs.owned x stand;
      commits = kept.logs.commits;
      below = kept.logs.below;
    };
    stored = stored_kept;
    at = λ t. record {
      count = (kept.at t).count ∙ ap (λ (k : ℕ). answered t e.journal + k) (sym (turned_count turn (e.sessions t).task));
      at = turned_at turn script e.journal t (e.sessions t).task (kept.at t).at;
      level = (kept.at t).level;
      since = λ still. (kept.at t).since (sym (turned_reading turn (e.sessions t).task) ∙ still);
    };
    logged = λ t. record {
      records = turned_records turn (own_docs script t e.journal) (record_docs (session_records new.store (e.sessions t).trx)) (e.sessions t).task
          (subst (λ us. HasRecords (e.sessions t).task (own_docs script t e.journal) (record_docs us)) (sym (same_records (e.sessions t).trx)) (kept.logged t).records);
      some = λ x h none. (kept.logged t).some x h (sym (same_records (e.sessions t).trx) ∙ none);
    };
    locks = λ q. record {
      held = (kept.locks q).held;
      taken = λ t h. (kept.locks q).taken t (sym (turned_lock turn q (e.sessions t).task) ∙ h);
      meant = λ t h. let m = (kept.locks q).meant t h in (
        m.0,
        elim m.1 [
          | inl g ↦ inl g
          | inr more ↦ inr (elim more [ inl g ↦ inl g | inr g ↦ inr (turned_lock turn q (e.sessions t).task ∙ g) ])
        ],
      );
    };
    views = λ t. record { commits = (kept.views t).commits; sees = λ w has. view_kept w ((kept.views t).sees w has) };
    reads = λ t q fl h.
        let was = was_reading turn (e.sessions t).task q fl h in
        let rd = kept.reads t q was.before was.was in
        let other : (t ≡ s → ⊥) = (λ same. absurd (cc (sym was.was ∙ ap (λ (n : ℕ). (e.sessions n).task) same ∙ task_is))) in
        record {
          view = rd.view;
          is = rd.is;
          parts = rd.parts;
          shows = rd.shows;
          flight = subst (IsFlight (sees_by (e.sessions t).trx rd.view) (document new.store q) rd.parts) (sym was.now)
              (halves.reads (sees_by (e.sessions t).trx rd.view) q rd.parts was.before (unseen t other rd.view rd.is) rd.flight);
        };
    making = λ t q left r h.
        let was = was_making turn (e.sessions t).task q left r h in
        let m = kept.making t q left r was in
        let its : e.locks q ≡ Some t = (kept.locks q).taken t (ap (has_lock q) was ∙ self_eq q) in
        let other : q ≢ d = (λ same.
        let one : t ≡ s = cc (sym its ∙ ap e.locks same ∙ held) in
        absurd (cc (sym was ∙ ap (λ (n : ℕ). (e.sessions n).task) one ∙ task_is))) in
        record { change = m.change; is = m.is; doc = m.doc; reply = m.reply; ok = m.ok; measured = will_measured q e.store new.store (halves.elsewhere q other) left m.measured; ends = ap (option_map (completed left)) (halves.elsewhere q other).parts ∙ m.ends };
    fetched = λ t q ps h.
        let prior = was_fetching turn (e.sessions t).task q ps h in
        let was = prior.is in
        let its : e.locks q ≡ Some t = (kept.locks q).taken t (ap (has_lock q) was ∙ self_eq q) in
        let other : q ≢ d = (λ same.
        let one : t ≡ s = cc (sym its ∙ ap e.locks same ∙ held) in
        absurd (cc (sym was ∙ ap (λ (n : ℕ). (e.sessions n).task) one ∙ task_is))) in
        let held_so = fetch_kept q e.store new.store (halves.elsewhere q other) prior.before (kept.fetched t q prior.before was) in
        subst (IsFetch new.store q) (sym (prior.now ∙ halves.still q prior.before held_so.node)) held_so;
  }
