-- An undone record: what it leaves of the document's rows.
use Rattle.std.proofs.Common.{◌≡◌, inl, inr, ℕ, suc, ◌≤◌, ◌<◌, Bool, true, false, true≢false, not, ◌&&◌, ◌||◌, nat_eq, nat_lt, List, [], ◌∷◌, Option, Some, None, refl, sym, ap, ap₂, subst, ◌∙◌, arith, if◌then◌else◌}
use Rattle.std.proofs.lemmas.Bool.{cases_eq}
use Rattle.page_model.specs.Pages.{Address}
use Rattle.journal_model.specs.Journal.{Script, Undoer, Entry, Opening}
use Rattle.journal_model.specs.Held.{greater}
use Rattle.journal_model.specs.History.{Owner, session, commit, Made, history}
use Rattle.store_data.specs.Store.{Row, Record, Lob, Log, Store}
use Rattle.store_model.specs.History.{Change, Past, changes, row_before, history_behind, is_among, stands, stands_above}
use Rattle.store_model.specs.History as store
use Rattle.store_model.specs.Steps.{all_but_first}
use Rattle.store_model.specs.Undo.{without_newest}
use Rattle.store_model.specs.Moves.{IsNewest}
use Rattle.store_model.specs.Well.{IsChain}
use Rattle.store_model.proofs.LogLemmas.{change}
use Rattle.store_model.proofs.UndoLemmas.{changes-popped}
use Rattle.kept_model.specs.Engine.{Left, Task, idle, asking, fetching, making, reading, undoing, Engine}
use Rattle.kept_model.specs.Names.{trx_numbered, names, names_of, floor, is_old, is_purging, AreNumbered, IsFirstBegun, AreLogs}
use Rattle.read_model.specs.Flight.{IsFlight, Flight}
use Rattle.kept_model.specs.Rows.{AreNamed}
use Rattle.kept_model.specs.Stored.{Front, undone, front_of, front_by, front, IsStoredBy, known_from, IsStored}
use Rattle.kept_model.specs.Sessions.{IsAt, under_way_in, IsSession, own_docs, record_docs, records_of, session_records, HasRecords, IsLogged, has_lock, AreLocks}
use Rattle.kept_model.specs.Views.{AllPast}
use Rattle.kept_model.specs.Kept.{AreCounts, AreGiven, Kept}
use Rattle.kept_model.specs.Undoes.{handed_flight, handed_task, Undoes, undo_event}
use Rattle.kept_model.proofs.UndoneLemmas.{step_undone, row_gone}
use Rattle.kept_model.proofs.PlanKept.{stored_over}

-- ---- rows of a document that has a change

pub record HasTwo (rows : List Past) (row : Row) (before : Row) (older : List Change) : Type 0 where
  pub first : Past
  pub second : Past
  pub rest : List Past
  pub is : rows ≡ first ∷ second ∷ rest
  pub trx : first.trx ≡ row.trx
  pub before_trx : second.trx ≡ before.trx
  pub last : older ≡ [] → rest ≡ []

-- behind a change there are two rows, the newest and the one before; without a further one no more
pub has_two : (later : List Record) (lobs : List Lob) (row : Row) (c : Change) (cs : List Change) → HasTwo (history_behind later lobs row (c ∷ cs)) row c.undo.before cs
has_two later lobs row c [] = record { first = _; second = _; rest = []; is = refl; trx = refl; before_trx = refl; last = λ e. refl }
has_two later lobs row c (x ∷ xs) = record { first = _; second = _; rest = _; is = refl; trx = refl; before_trx = refl; last = λ e. absurd (cc e) }

-- of two rows the older is an old one
pub second_old : (names : Owner → Option ℕ) (old : ℕ → Bool) (ms : List Made) (p q : Past) → AreNamed names old ms (p ∷ q ∷ []) → old q.trx ≡ true
second_old names old [] p q named = absurd named
second_old names old (m ∷ []) p q named = named.1
second_old names old (m ∷ n ∷ ms) p q named = absurd (none ms named.1.1)
  where
    none : (ms : List Made) → AreNamed names old ms [] → ⊥
    none [] h = h
    none (x ∷ xs) h = h

-- more commits see more
pub among_more : (store : Store) (k m x : ℕ) → k ≤ m → is_among store k x ≡ true → is_among store m x ≡ true
among_more store k m x le h = by_active (stands x store.active) h
  where
    fewer : (ls : List Log) → stands_above k x ls ≡ false → stands_above m x ls ≡ false
    fewer [] none = refl
    fewer (l ∷ ls) none = by_test (nat_eq l.trx x) (nat_lt k l.number) refl (nat_lt m l.number) refl none (λ g. fewer ls g)
      where
        by_test : (b c : Bool) → nat_lt k l.number ≡ c → (d : Bool) → nat_lt m l.number ≡ d → ((c && b) || stands_above k x ls) ≡ false → (stands_above k x ls ≡ false → stands_above m x ls ≡ false)
            → ((d && b) || stands_above m x ls) ≡ false
        by_test true true ce d de g rest = absurd (true≢false g)
        by_test true false ce true de g rest = let less : nat_lt k l.number ≡ true = grind (arith, le, de) in absurd (true≢false (sym less ∙ ce))
        by_test true false ce false de g rest = rest g
        by_test false true ce true de g rest = rest g
        by_test false true ce false de g rest = rest g
        by_test false false ce true de g rest = rest g
        by_test false false ce false de g rest = rest g

    none_of : (b : Bool) → not b ≡ true → b ≡ false
    none_of true g = absurd (true≢false (sym g))
    none_of false g = refl

    by_active : (a : Bool) → (not a && not (stands_above k x store.committed)) ≡ true → (not a && not (stands_above m x store.committed)) ≡ true
    by_active true g = absurd (true≢false (sym g))
    by_active false g = ap not (fewer store.committed (none_of (stands_above k x store.committed) g))

-- ---- tasks

pub record WasFetching (turn : ℕ → Flight → Flight) (k : Task) (d : ℕ) (f : Flight) : Type 0 where
  pub before : Flight
  pub is : k ≡ fetching d before
  pub now : f ≡ turn d before

module _ (doc : ℕ) (a : Address) (u : Record) where
  pub handed_count : (k : Task) → under_way_in (handed_task doc a u k) ≡ under_way_in k
  handed_count idle = refl
  handed_count (asking d) = refl
  handed_count (fetching d ps) = refl
  handed_count (making d left r) = refl
  handed_count (reading d f) = refl
  handed_count (undoing v) = refl

  pub handed_at : (script : Script) (past : List Entry) (t : ℕ) (k : Task) → IsAt script past t k → IsAt script past t (handed_task doc a u k)
  handed_at script past t idle h = h
  handed_at script past t (asking d) h = h
  handed_at script past t (fetching d ps) h = h
  handed_at script past t (making d left r) h = h
  handed_at script past t (reading d f) h = h
  handed_at script past t (undoing v) h = h

  pub handed_reading : (k : Task) → Rattle.kept_model.specs.Sessions.is_reading (handed_task doc a u k) ≡ Rattle.kept_model.specs.Sessions.is_reading k
  handed_reading idle = refl
  handed_reading (asking d) = refl
  handed_reading (fetching d ps) = refl
  handed_reading (making d left r) = refl
  handed_reading (reading d f) = refl
  handed_reading (undoing v) = refl

  pub handed_records : (docs ds : List ℕ) (k : Task) → HasRecords k docs ds → HasRecords (handed_task doc a u k) docs ds
  handed_records docs ds idle h = h
  handed_records docs ds (asking d) h = h
  handed_records docs ds (fetching d ps) h = h
  handed_records docs ds (making d left r) h = h
  handed_records docs ds (reading d f) h = h
  handed_records docs ds (undoing v) h = h

  pub handed_lock : (d : ℕ) (k : Task) → has_lock d (handed_task doc a u k) ≡ has_lock d k
  handed_lock d idle = refl
  handed_lock d (asking e) = refl
  handed_lock d (fetching e ps) = refl
  handed_lock d (making e left r) = refl
  handed_lock d (reading e f) = refl
  handed_lock d (undoing v) = refl

  pub handed_front : (d t : ℕ) (k : Task) → front_of d t (handed_task doc a u k) ≡ front_of d t k
  handed_front d t idle = refl
  handed_front d t (asking e) = refl
  handed_front d t (fetching e ps) = refl
  handed_front d t (making e left r) = refl
  handed_front d t (reading e f) = refl
  handed_front d t (undoing v) = refl

  -- a read that was handed on was one before
  pub record WasReading (d : ℕ) (f : Rattle.read_model.specs.Flight.Flight) (k : Task) : Type 0 where
    pub before : Rattle.read_model.specs.Flight.Flight
    pub was : k ≡ reading d before
    pub now : f ≡ handed_flight doc a u d before

  pub was_reading : (k : Task) (d : ℕ) (f : Rattle.read_model.specs.Flight.Flight) → handed_task doc a u k ≡ reading d f → WasReading d f k
  was_reading idle d f h = absurd (cc h)
  was_reading (asking e) d f h = absurd (cc h)
  was_reading (fetching e ps) d f h = absurd (cc h)
  was_reading (making e left r) d f h = absurd (cc h)
  was_reading (reading e g) d f h = let same : e ≡ d = cc h in let flight : handed_flight doc a u e g ≡ f = cc h in
      record { before = g; was = ap (λ (n : ℕ). reading n g) same; now = sym flight ∙ ap (λ (n : ℕ). handed_flight doc a u n g) same }
  was_reading (undoing v) d f h = absurd (cc h)

  pub was_making : (k : Task) (d : ℕ) (left : Left) (r : Rattle.journal_model.specs.Journal.Reply) → handed_task doc a u k ≡ making d left r → k ≡ making d left r
  was_making idle d left r h = absurd (cc h)
  was_making (asking e) d left r h = absurd (cc h)
  was_making (fetching e ps) d left r h = absurd (cc h)
  was_making (making e g q) d left r h = h
  was_making (reading e g) d left r h = absurd (cc h)
  was_making (undoing v) d left r h = absurd (cc h)

  pub was_fetching : (k : Task) (d : ℕ) (f : Flight) → handed_task doc a u k ≡ fetching d f → WasFetching (handed_flight doc a u) k d f
  was_fetching idle d f h = absurd (cc h)
  was_fetching (asking e) d f h = absurd (cc h)
  was_fetching (fetching e g) d f h = let same : e ≡ d = cc h in record {
    before = g;
    is = ap (λ n. fetching n g) same;
    now = (let now : handed_flight doc a u e g ≡ f = cc h in sym now ∙ ap (λ n. handed_flight doc a u n g) same);
  }
  was_fetching (making e g q) d f h = absurd (cc h)
  was_fetching (reading e g) d f h = absurd (cc h)
  was_fetching (undoing v) d f h = absurd (cc h)

module _ (o : Opening) (script : Script) (e : Engine) (kept : Kept o script e) (s trx : ℕ) (place : Address) (u : Record) (next : Store) (undoes : Undoes trx place u e.store next)
    (v : Undoer) (task_is : (e.sessions s).task ≡ undoing v) (is : (e.sessions s).trx ≡ Some trx)
    (newest : IsNewest trx place u e.store) (held : e.locks u.doc ≡ Some s) where
  abbrev pub new : Engine
  new = undo_event place u next e

  pub among_same : (k x : ℕ) → is_among next k x ≡ is_among e.store k x
  among_same k x = ap₂ (λ (a b : Bool). not a && not b) (undoes.active x) (ap (stands_above k x) undoes.committed)

  pub floor_same : floor next ≡ floor e.store
  floor_same = ap₂ (λ (b : Bool) (m : ℕ). if b then suc m else m) (ap is_purging undoes.committed) undoes.purged

  pub old_same : (x : ℕ) → is_old next x ≡ is_old e.store x
  old_same x = ap₂ (λ (m : ℕ) (b : Bool). nat_lt x m && b) undoes.next (ap (λ (k : ℕ). is_among next k x) floor_same ∙ among_same (floor e.store) x)

  pub names_same : (w : Owner) (x : ℕ) → names_of e w ≡ Some x → names_of new w ≡ Some x
  names_same (session t) x has = has
  names_same (commit k) x has = ap (λ (ls : List Log). trx_numbered ls k) undoes.committed ∙ has

  pub stands_now : stands trx e.store.active ≡ true
  stands_now = (kept.logs.own s trx is).0

  pub counts_kept : AreCounts o new.journal new.store
  counts_kept = record {
    commits = undoes.commits ∙ kept.counts.commits;
    purged = undoes.purged ∙ kept.counts.purged;
    more = subst (λ (m : ℕ). o.commits ≤ m) (sym undoes.commits) kept.counts.more;
  }

  pub logs_kept : AreLogs next new.sessions
  logs_kept = record {
    numbered = subst (λ (m : ℕ). AreNumbered m next.purged next.committed) (sym undoes.commits)
        (subst (λ (m : ℕ). AreNumbered e.store.commits m next.committed) (sym undoes.purged)
        (subst (AreNumbered e.store.commits e.store.purged) (sym undoes.committed) kept.logs.numbered));
    first = subst IsFirstBegun (sym undoes.committed) kept.logs.first;
    own = λ t x has. let was = kept.logs.own t x has in (undoes.active x ∙ was.0, ap (stands x) undoes.committed ∙ was.1);
    apart = λ t k x has has'. kept.logs.apart t k x has has';
    owned = λ x stand. kept.logs.owned x (sym (undoes.active x) ∙ stand);
    commits = λ k x found.
        let was = kept.logs.commits k x (sym (ap (λ (ls : List Log). trx_numbered ls k) undoes.committed) ∙ found) in
        (undoes.active x ∙ was.0, λ m. ap (stands_above m x) undoes.committed ∙ was.1 m);
    below = λ x stand. subst (λ (m : ℕ). x < m) (sym undoes.next) (kept.logs.below x (elim stand [
      | inl active ↦ inl (sym (undoes.active x) ∙ active)
      | inr done ↦ inr (sym (ap (stands x) undoes.committed) ∙ done)
    ]));
  }

  -- ---- the document's rows

  pub two : HasTwo (store.history e.store u.doc) (row_before e.store u.doc) u.before (changes (without_newest trx u e.store) u.doc)
  two = subst (λ (cs : List Change). HasTwo (history_behind [] e.store.lobs (row_before e.store u.doc) cs) (row_before e.store u.doc) u.before (changes (without_newest trx u e.store) u.doc)) (sym (changes-popped trx place u e.store newest))
      (has_two [] e.store.lobs (row_before e.store u.doc) (change trx place u) (changes (without_newest trx u e.store) u.doc))

  pub first_trx : two.first.trx ≡ trx
  first_trx = two.trx ∙ (subst (IsChain (row_before e.store u.doc)) (changes-popped trx place u e.store newest) (kept.consistent.well.chains u.doc)).0.trx

  -- the rest of the rows, or an absent row
  pub all_new : (P : List Past → Type 0) → P (two.second ∷ two.rest) → (two.rest ≡ [] → two.second.bytes ≡ None → P (record { trx = 0; length = 0; bytes = None } ∷ [])) → P (store.history next u.doc)
  all_new P here gone = elim undoes.restores [
    | inl same ↦ subst P (sym (same ∙ ap all_but_first two.is)) here
    | inr none ↦
        let front : two.second ∷ two.rest ≡ record { trx = u.before.trx; length = u.before.lob.length; bytes = None } ∷ [] = sym (ap all_but_first two.is) ∙ none.1 in
        subst P (sym none.0) (gone (cc front) (bytes_of_first front))
  ]
    where
      bytes_of_first : {q : Past} {qs rs : List Past} → {b : Past} → b ∷ qs ≡ q ∷ rs → b.bytes ≡ q.bytes
      bytes_of_first {b = b} h = ap (λ (l : List Past). elim l [ [] ↦ b.bytes | x ∷ xs ↦ x.bytes ]) h

  pub names_one : (w : Owner) → names_of e w ≡ Some two.first.trx → w ≡ session s
  names_one (session t) has = ap session (kept.logs.apart t s trx (has ∙ ap (λ (k : ℕ). Some k) first_trx) is)
  names_one (commit k) has = absurd (true≢false (sym stands_now ∙ (kept.logs.commits k trx (has ∙ ap (λ (m : ℕ). Some m) first_trx)).0))

  pub over : (d : ℕ) (f : Front) (rows : List Past)
      → IsStoredBy (known_from o e.store) script e.journal (history o script e.journal d) f (is_purging e.store.committed) (suc e.store.purged) (is_old e.store) (names_of e) rows
      → IsStoredBy (known_from o next) script e.journal (history o script e.journal d) f (is_purging next.committed) (suc next.purged) (is_old next) (names_of new) rows
  over d f rows k = stored_over (known_from o e.store) (known_from o next) script e.journal (history o script e.journal d) f (is_purging e.store.committed) (is_purging next.committed)
      (suc e.store.purged) (suc next.purged) (is_old e.store) (is_old next) (names_of e) (names_of new) rows
      (ap (greater o.commits) floor_same) (ap is_purging undoes.committed) (ap suc undoes.purged) (λ x old. old_same x ∙ old) names_same k

  pub front_same : (d : ℕ) → front new d ≡ front e d
  front_same d = by_lock (e.locks d)
    where
      by_lock : (m : Option ℕ) → front_by d m new.sessions ≡ front_by d m e.sessions
      by_lock None = refl
      by_lock (Some t) = handed_front u.doc place u d t (e.sessions t).task

  pub front_is : front e u.doc ≡ undone s
  front_is = ap (λ (m : Option ℕ). front_by u.doc m e.sessions) held ∙ ap (front_of u.doc s) task_is

  abbrev pub IsBy : List Past → Type 0
  IsBy rows = IsStoredBy (known_from o e.store) script e.journal (history o script e.journal u.doc) (undone s) (is_purging e.store.committed) (suc e.store.purged) (is_old e.store) (names_of e) rows

  pub own_stored : IsBy (store.history next u.doc)
  own_stored =
      let stepped : IsBy (two.second ∷ two.rest) = step_undone (known_from o e.store) script e.journal e.journal (is_purging e.store.committed) (suc e.store.purged) (is_old e.store) (names_of e) (store.history e.store u.doc) s
      (history o script e.journal u.doc) two.first two.second two.rest two.is names_one
      (subst (λ (f : Front). IsStoredBy (known_from o e.store) script e.journal (history o script e.journal u.doc) f (is_purging e.store.committed) (suc e.store.purged) (is_old e.store) (names_of e) (store.history e.store u.doc)) front_is (kept.stored u.doc)) in
      all_new IsBy stepped (λ none nothing.
      row_gone (known_from o e.store) script e.journal e.journal (is_purging e.store.committed) (suc e.store.purged) (is_old e.store) (names_of e) (two.second ∷ []) s
      (history o script e.journal u.doc) two.second (record { trx = 0; length = 0; bytes = None }) refl nothing refl kept.zero
      (subst (λ (qs : List Past). IsBy (two.second ∷ qs)) none stepped))

  pub stored_kept : (d : ℕ) → IsStored o script new d
  stored_kept d = elim (cases_eq d u.doc) [
    | inl here ↦ subst (IsStored o script new) (sym here)
        (subst (λ (f : Front). IsStoredBy (known_from o next) script e.journal (history o script e.journal u.doc) f (is_purging next.committed) (suc next.purged) (is_old next) (names_of new) (store.history next u.doc)) (sym (front_same u.doc ∙ front_is))
        (over u.doc (undone s) (store.history next u.doc) own_stored))
    | inr other ↦
        subst (λ (f : Front). IsStoredBy (known_from o next) script e.journal (history o script e.journal d) f (is_purging next.committed) (suc next.purged) (is_old next) (names_of new) (store.history next d)) (sym (front_same d))
        (over d (front e d) (store.history next d)
        (subst (IsStoredBy (known_from o e.store) script e.journal (history o script e.journal d) (front e d) (is_purging e.store.committed) (suc e.store.purged) (is_old e.store) (names_of e))
        (sym (undoes.others d other)) (kept.stored d)))
  ]

  -- rows: fewer of them, and perhaps an absent one
  pub rows_kept : (P : ℕ → Type 0) → P 0 → (d : ℕ) → AllPast P (store.history e.store d) → AllPast P (store.history next d)
  rows_kept P zero d all = elim (cases_eq d u.doc) [
    | inl here ↦ subst (λ (q : ℕ). AllPast P (store.history next q)) (sym here)
        (all_new (AllPast P) (subst (AllPast P) two.is (subst (λ (q : ℕ). AllPast P (store.history e.store q)) here all)).1 (λ none nothing. (zero, tt)))
    | inr other ↦ subst (AllPast P) (sym (undoes.others d other)) all
  ]

  pub zero_given : 0 < e.store.next_trx
  zero_given = by_test (nat_lt 0 e.store.next_trx) refl kept.zero
    where
      by_test : (b : Bool) → nat_lt 0 e.store.next_trx ≡ b → (b && is_among e.store (floor e.store) 0) ≡ true → 0 < e.store.next_trx
      by_test true g h = grind (arith, g)
      by_test false g h = absurd (true≢false (sym h))

  pub zero_among : is_among e.store (floor e.store) 0 ≡ true
  zero_among = by_test (nat_lt 0 e.store.next_trx) kept.zero
    where
      by_test : (b : Bool) → (b && is_among e.store (floor e.store) 0) ≡ true → is_among e.store (floor e.store) 0 ≡ true
      by_test true h = h
      by_test false h = absurd (true≢false (sym h))

  pub given_kept : (d : ℕ) → AreGiven next d
  given_kept d = subst (λ (m : ℕ). AllPast (λ x. x < m) (store.history next d)) (sym undoes.next) (rows_kept (λ x. x < e.store.next_trx) zero_given d (kept.given d))
