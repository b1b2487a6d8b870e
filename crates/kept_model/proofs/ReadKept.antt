-- A read begins, goes on, and has copied what the journal shows.
use Rattle.std.proofs.Common.{◌≡◌, inl, inr, ℕ, suc, ◌+◌, ◌≤◌, ◌<◌, Bool, true, false, true≢false, not, ◌&&◌, ◌||◌, nat_eq, nat_lt, List, [], ◌∷◌, ◌++◌, map, Option, Some, None, option_map, refl, sym, ap, ap₂, subst, ◌∙◌, arith}
use Rattle.std.specs.List.{list_any}
use Rattle.journal_model.specs.Journal.{Script, Entry, Opening}
use Rattle.journal_model.specs.Part.{own, touches, view_of, shown}
use Rattle.history_model.specs.Laws.{IsRun}
use Rattle.history_model.proofs.OwnerLemmas.{own_held}
use Rattle.store_data.specs.Store.{Row, Record, Lob, Log}
use Rattle.store_data.specs.Pieces.{Part}
use Rattle.store_model.specs.Lobs.{joined}
use Rattle.store_model.specs.History.{Change, Past, changes, row_before, history_behind, seen, stands, stands_above, is_among}
use Rattle.store_model.specs.History as store
use Rattle.store_model.specs.Ids.{base_of}
use Rattle.store_model.specs.Well.{IsNew, AreNamedOnce}
use Rattle.store_model.specs.Purging.{NumberedTo}
use Rattle.read_model.specs.Document.{IsVisible, content, AreDistinct}
use Rattle.read_model.specs.Flight.{Flight, Phase, Ready, Absent, IsFlight, IsFlightIn}
use Rattle.read_model.specs.Steps.{opened, event_of_read}
use Rattle.read_model.specs.OfStore.{entry, document}
use Rattle.read_model.proofs.WalkLemmas.{event_kept, opened_kept}
use Rattle.read_model.proofs.ByteLemmas.{visible_in, shows}
use Rattle.kept_model.specs.Engine.{ReadView, is_own, sees_by, Left, Task, making, reading, undoing, Session, Engine}
use Rattle.kept_model.specs.Names.{names_of, floor, is_old, AreLogs}
use Rattle.journal_model.specs.History.{Owner, Made, session}
use Rattle.kept_model.specs.Rows.{bytes_of, AreNamed}
use Rattle.kept_model.specs.Stored.{Front, front_of, front_by, front, IsStoredBy, known_from}
use Rattle.kept_model.specs.Sessions.{IsAt, under_way_in, IsSession, own_docs, record_docs, session_records, HasRecords, IsLogged, has_lock}
use Rattle.kept_model.specs.Views.{AllPast, IsViewIn, IsViewed, IsReadOf, IsRead, IsMaking}
use Rattle.kept_model.specs.Kept.{Kept}
use Rattle.kept_model.specs.Reading.{view_now, read_event}
use Rattle.kept_model.proofs.SessionLemmas.{by_session}
use Rattle.kept_model.proofs.CommitRows.{all_past}
use Rattle.kept_model.proofs.NameLemmas.{floor_made}
use Rattle.kept_model.proofs.UndoRows.{among_more}
use Rattle.kept_model.proofs.ReadLemmas.{shown_at, shown_is, view_shows, own_shows}
use Rattle.kept_model.proofs.PlanKept.{stored_over}
use Rattle.kept_model.specs.Fetches.{IsFetched}

-- ---- records stand at places of their own

entries_other : (place : Rattle.page_model.specs.Pages.Address) (cs : List Change) → IsNew place cs → Rattle.read_model.specs.Document.IsOther place (map entry cs)
entries_other place [] new = tt
entries_other place (c ∷ cs) new = (new.0, entries_other place cs new.1)

-- where no two changes stand at one place, no two of their records do
pub entries_distinct : (cs : List Change) → AreNamedOnce cs → AreDistinct (map entry cs)
entries_distinct [] once = tt
entries_distinct (c ∷ cs) once = (entries_other c.place cs once.0, entries_distinct cs once.1)

-- ---- the oldest row

oldest_old : (names : Owner → Option ℕ) (old : ℕ → Bool) (ms : List Made) (later : List Record) (lobs : List Lob) (row : Row) (cs : List Change)
    → AreNamed names old ms (history_behind later lobs row cs) → old (base_of row cs).trx ≡ true
oldest_old names old [] later lobs row [] named = named
oldest_old names old (m ∷ []) later lobs row [] named = absurd named.1
oldest_old names old (m ∷ n ∷ ms) later lobs row [] named = absurd named.1
oldest_old names old [] later lobs row (c ∷ []) named = absurd named
oldest_old names old [] later lobs row (c ∷ d ∷ cs) named = absurd named
oldest_old names old (m ∷ ms) later lobs row (c ∷ cs) named = oldest_old names old ms (later ++ c.undo ∷ []) lobs c.undo.before cs named.1

-- ---- a view taken now

any_stands : (x : ℕ) (ls : List Log) → list_any (λ n. nat_eq n x) (map (λ l. l.trx) ls) ≡ stands x ls
any_stands x [] = refl
any_stands x (l ∷ ls) = ap (λ (b : Bool). (nat_eq l.trx x) || b) (any_stands x ls)

none_above : (k x : ℕ) (ls : List Log) → NumberedTo k ls → stands_above k x ls ≡ false
none_above k x [] all = refl
none_above k x (l ∷ ls) all = ap₂ (λ (a b : Bool). (a && (nat_eq l.trx x)) || b) (few (nat_lt k l.number) refl) (none_above k x ls all.1)
  where
    few : (b : Bool) → nat_lt k l.number ≡ b → b ≡ false
    few true g = let up : l.number ≤ k = all.0 in absurd (both g up)
      where
        both : nat_lt k l.number ≡ true → l.number ≤ k → ⊥
        both g up = grind (arith, g, up)
    few false g = refl

zero_free : (n : ℕ) (a b : Bool) → (nat_lt 0 n && (not a && not b)) ≡ true → (0 < n) × (a ≡ false)
zero_free n a b h = by_test (nat_lt 0 n) refl h
  where
    by_among : (a : Bool) → (not a && not b) ≡ true → a ≡ false
    by_among true g = absurd (true≢false (sym g))
    by_among false g = refl

    by_test : (c : Bool) → nat_lt 0 n ≡ c → (c && (not a && not b)) ≡ true → (0 < n) × (a ≡ false)
    by_test false e g = absurd (true≢false (sym g))
    by_test true e g = ((let z : 0 < n = grind (arith, e) in z), by_among a g)

module _ (o : Opening) (script : Script) (e : Engine) (kept : Kept o script e) where
  taken_at : 0 < e.store.next_trx → stands 0 e.store.active ≡ false → IsViewIn o e.store (view_now e.store)
  taken_at some none = record {
    high = omega arith;
    low = floor_made e.store kept.logs.numbered;
    first = kept.counts.more;
    limit = omega arith;
    zero = ap₂ (λ (a b : Bool). a && not b) (given 0 some) (any_stands 0 e.store.active ∙ none);
    active = λ x stand. ap (λ (b : Bool). nat_lt x e.store.next_trx && not b) (any_stands x e.store.active ∙ stand) ∙ and_false (nat_lt x e.store.next_trx);
    rows = λ d. all_past (λ x. x < e.store.next_trx) _ (store.history e.store d)
        (λ x less. ap₂ (λ (a b : Bool). a && not b) (given x less) (any_stands x e.store.active)
        ∙ sym (ap (λ (b : Bool). not (stands x e.store.active) && not b) (none_above e.store.commits x e.store.committed kept.consistent.well.numbered) ∙ and_true (not (stands x e.store.active)))) (kept.given d);
  }
    where
      given : (x : ℕ) → x < e.store.next_trx → nat_lt x e.store.next_trx ≡ true
      given x less = grind (arith, less)

      and_false : (b : Bool) → (b && false) ≡ false
      and_false true = refl
      and_false false = refl

      and_true : (b : Bool) → (b && true) ≡ b
      and_true true = refl
      and_true false = refl

  pub view_now_in : IsViewIn o e.store (view_now e.store)
  view_now_in =
      let z = zero_free e.store.next_trx (stands 0 e.store.active) (stands_above (floor e.store) 0 e.store.committed) kept.zero in
      taken_at z.0 z.1

  -- ---- a read

  -- the first event of a read with such a view; the session is at no other work
  pub read_opened : IsRun o script → (s : ℕ) (v : ReadView) (inside : IsViewIn o e.store v) (d : ℕ)
      → ((left : Left) (r : Rattle.journal_model.specs.Journal.Reply) → (e.sessions s).task ≡ making d left r → ⊥) → ((u : Rattle.journal_model.specs.Journal.Undoer) → (e.sessions s).task ≡ undoing u → ⊥)
      → (parts : Option (List Part)) × (option_map joined parts ≡ bytes_of (shown_at o script s d v.commits e.journal))
      × IsFlight (sees_by (e.sessions s).trx v) (document e.store d) parts (opened (sees_by (e.sessions s).trx v) (document e.store d))
  read_opened run s v inside d still calm =
      let sees = sees_by (e.sessions s).trx v in
      let st = kept.stored d in
      let old = oldest_old (names_of e) (is_old e.store) (st.ahead ++ st.left) [] e.store.lobs (row_before e.store d) (changes e.store d) st.named in
      let found = visible_in sees e.store d (kept.consistent.well.chains d) (old_seen inside (base_of (row_before e.store d) (changes e.store d)).trx old (oldest_row d)) in (
        content e.store.lobs found.2 found.0,
        sym (shows sees e.store d found.0 found.1 found.2 found.3) ∙ all_shown (touches d (own script s e.journal)) refl,
        opened_kept sees (document e.store d) found.0 found.1 found.2 (entries_distinct (changes e.store d) (kept.consistent.well.places d)) found.3,
      )
    where
      among_of : (x : ℕ) → is_old e.store x ≡ true → is_among e.store (floor e.store) x ≡ true
      among_of x old = by_test (nat_lt x e.store.next_trx) old
        where
          by_test : (b : Bool) → (b && is_among e.store (floor e.store) x) ≡ true → is_among e.store (floor e.store) x ≡ true
          by_test true g = g
          by_test false g = absurd (true≢false (sym g))

      -- the oldest row is one of the history
      last_past : (P : ℕ → Type 0) (later : List Record) (lobs : List Lob) (row : Row) (cs : List Change) → AllPast P (history_behind later lobs row cs) → P (base_of row cs).trx
      last_past P later lobs row [] all = all.0
      last_past P later lobs row (c ∷ cs) all = last_past P (later ++ c.undo ∷ []) lobs c.undo.before cs all.1

      oldest_row : (d : ℕ) → sees_by None v (base_of (row_before e.store d) (changes e.store d)).trx ≡ is_among e.store v.commits (base_of (row_before e.store d) (changes e.store d)).trx
      oldest_row d = last_past (λ x. sees_by None v x ≡ is_among e.store v.commits x) [] e.store.lobs (row_before e.store d) (changes e.store d) (inside.rows d)

      old_seen : IsViewIn o e.store v → (x : ℕ) → is_old e.store x ≡ true → sees_by None v x ≡ is_among e.store v.commits x → sees_by (e.sessions s).trx v x ≡ true
      old_seen inside x old same =
          ap (λ (b : Bool). is_own (e.sessions s).trx x || b) (same ∙ among_more e.store (floor e.store) v.commits x inside.low (among_of x old)) ∙ or_true (is_own (e.sessions s).trx x)
        where
          or_true : (b : Bool) → (b || true) ≡ true
          or_true true = refl
          or_true false = refl

      all_shown : (b : Bool) → touches d (own script s e.journal) ≡ b → seen (sees_by (e.sessions s).trx v) (store.history e.store d) ≡ bytes_of (shown_at o script s d v.commits e.journal)
      all_shown true there = own_shows o script run e kept s v inside d still calm ((kept.locks d).held s (own_held script s d e.journal there)) there
      all_shown false none = view_shows o script run e kept s v inside d still calm none

  -- with the session's view
  pub read_begun : IsRun o script → (s : ℕ) (v : ReadView) (is : (e.sessions s).view ≡ Some v) (d : ℕ)
      → ((left : Left) (r : Rattle.journal_model.specs.Journal.Reply) → (e.sessions s).task ≡ making d left r → ⊥) → ((u : Rattle.journal_model.specs.Journal.Undoer) → (e.sessions s).task ≡ undoing u → ⊥)
      → (parts : Option (List Part)) × (option_map joined parts ≡ bytes_of (shown o script s d e.journal))
      × IsFlight (sees_by (e.sessions s).trx v) (document e.store d) parts (opened (sees_by (e.sessions s).trx v) (document e.store d))
  read_begun run s v is d still calm =
      let r = read_opened run s v ((kept.views s).sees v is) d still calm in
      (r.0, r.1 ∙ ap bytes_of (sym (shown_is o script s d v.commits e.journal (sym (kept.views s).commits ∙ ap (option_map (λ (w : ReadView). w.commits)) is))), r.2)

  -- a read that is ready has copied the document that the journal shows, and one that is absent is shown none
  pub read_right : (s d : ℕ) (f : Flight) → (e.sessions s).task ≡ reading d f
      → (f.phase ≡ Ready → bytes_of (shown o script s d e.journal) ≡ Some (joined f.copied)) × (f.phase ≡ Absent → bytes_of (shown o script s d e.journal) ≡ None)
  read_right s d f is =
      let r = kept.reads s d f is in
      let at : (p : Phase) → f.phase ≡ p → IsFlightIn p (sees_by (e.sessions s).trx r.view) (document e.store d) r.parts f =
      λ p is_p. subst (λ (q : Phase). IsFlightIn q (sees_by (e.sessions s).trx r.view) (document e.store d) r.parts f) is_p r.flight in
      ((λ ready. sym r.shows ∙ ap (option_map joined) (at Ready ready)), (λ absent. sym r.shows ∙ ap (option_map joined) (at Absent absent)))

  -- ---- one event

  module _ (s d : ℕ) (f : Flight) (is : (e.sessions s).task ≡ reading d f) where
    abbrev rd : IsReadOf o script e.journal e.store s (e.sessions s) d f
    rd = kept.reads s d f is

    abbrev new : Engine
    new = read_event s d f (kept.reads s d f is).view e

    abbrev g : Flight
    g = event_of_read (sees_by (e.sessions s).trx (kept.reads s d f is).view) (document e.store d) f

    abbrev x' : Session
    x' = record (e.sessions s) { task = reading d g }

    trx_same : (t : ℕ) → (new.sessions t).trx ≡ (e.sessions t).trx
    trx_same = by_session (λ t x. x.trx ≡ (e.sessions t).trx) s x' e.sessions refl (λ t apart. refl)

    front_same : (q : ℕ) → front new q ≡ front e q
    front_same q = by_lock (e.locks q)
      where
        by_lock : (m : Option ℕ) → front_by q m new.sessions ≡ front_by q m e.sessions
        by_lock None = refl
        by_lock (Some t) = by_session (λ t x. front_of q t x.task ≡ front_of q t (e.sessions t).task) s x' e.sessions (sym (ap (front_of q s) is)) (λ t apart. refl) t

    lock_same : (q t : ℕ) → has_lock q (new.sessions t).task ≡ has_lock q (e.sessions t).task
    lock_same q = by_session (λ t x. has_lock q x.task ≡ has_lock q (e.sessions t).task) s x' e.sessions (sym (ap (has_lock q) is)) (λ t apart. refl)

    names_same : (w : Owner) (x : ℕ) → names_of e w ≡ Some x → names_of new w ≡ Some x
    names_same (session t) x has = trx_same t ∙ has
    names_same (Rattle.journal_model.specs.History.commit k) x has = has

    pub read_keeps : Kept o script new
    read_keeps = record {
      calm = kept.calm;
      counts = kept.counts;
      consistent = kept.consistent;
      given = kept.given;
      zero = kept.zero;
      logs = record {
        numbered = kept.logs.numbered;
        first = kept.logs.first;
        own = λ t x has. kept.logs.own t x (sym (trx_same t) ∙ has);
        apart = λ t u x has has'. kept.logs.apart t u x (sym (trx_same t) ∙ has) (sym (trx_same u) ∙ has');
        owned = λ x stand. let t = kept.logs.owned x stand in (t.0, trx_same t.0 ∙ t.1);
        commits = kept.logs.commits;
        below = kept.logs.below;
      };
      stored = λ q. subst (λ (fr : Front). IsStoredBy (known_from o e.store) script e.journal (Rattle.journal_model.specs.History.history o script e.journal q) fr (Rattle.kept_model.specs.Names.is_purging e.store.committed) (suc e.store.purged) (is_old e.store) (names_of new) (store.history e.store q)) (sym (front_same q))
          (stored_over (known_from o e.store) (known_from o e.store) script e.journal (Rattle.journal_model.specs.History.history o script e.journal q) (front e q) (Rattle.kept_model.specs.Names.is_purging e.store.committed) (Rattle.kept_model.specs.Names.is_purging e.store.committed)
          (suc e.store.purged) (suc e.store.purged) (is_old e.store) (is_old e.store) (names_of e) (names_of new) (store.history e.store q) refl refl refl (λ x old. old) names_same (kept.stored q));
      at = by_session (IsSession script e.journal) s x' e.sessions
          (record {
            count = (kept.at s).count ∙ ap (λ (k : Task). Rattle.journal_model.specs.Part.answered s e.journal + under_way_in k) is;
            at = subst (IsAt script e.journal s) is (kept.at s).at;
            level = (kept.at s).level;
            since = λ still. absurd (true≢false still);
          })
          (λ t apart. kept.at t);
      logged = by_session (λ t x. IsLogged script e.journal t x e.store) s x' e.sessions
          (record {
            records = subst (λ (k : Task). HasRecords k (own_docs script s e.journal) (record_docs (session_records e.store (e.sessions s).trx))) is (kept.logged s).records;
            some = (kept.logged s).some;
          })
          (λ t apart. kept.logged t);
      locks = λ q. record {
        held = (kept.locks q).held;
        taken = λ t h. (kept.locks q).taken t (sym (lock_same q t) ∙ h);
        meant = λ t h. let m = (kept.locks q).meant t h in (
          m.0,
          elim m.1 [
            | inl a ↦ inl a
            | inr more ↦ inr (elim more [ inl a ↦ inl a | inr a ↦ inr (lock_same q t ∙ a) ])
          ],
        );
      };
      views = by_session (IsViewed o script e.journal e.store) s x' e.sessions (record { commits = (kept.views s).commits; sees = (kept.views s).sees }) (λ t apart. kept.views t);
      reads = by_session (IsRead o script e.journal e.store) s x' e.sessions
          (λ q h is_q.
          let doc : d ≡ q = cc is_q in
          let flight : g ≡ h = cc is_q in
          subst (λ (n : ℕ). IsReadOf o script e.journal e.store s x' n h) doc (subst (IsReadOf o script e.journal e.store s x' d) flight
          (record {
            view = rd.view;
            is = rd.is;
            parts = rd.parts;
            shows = rd.shows;
            flight = event_kept (sees_by (e.sessions s).trx rd.view) (document e.store d) rd.parts f (entries_distinct (changes e.store d) (kept.consistent.well.places d)) rd.flight;
          })))
          (λ t apart. kept.reads t);
      making = by_session (IsMaking o script e.journal e.store) s x' e.sessions (λ q left r h. absurd (cc h)) (λ t apart. kept.making t);
      fetched = by_session (λ t y. IsFetched e.store y) s x' e.sessions (λ q ps h. absurd (cc h)) (λ t apart. kept.fetched t);
    }
