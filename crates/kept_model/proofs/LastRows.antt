-- The last record of a transaction is undone: what it leaves of logs and rows.
use Rattle.std.proofs.Common.{◌≡◌, ◌≢◌, inl, inr, ℕ, suc, ◌≤◌, ◌<◌, Bool, true, false, true≢false, not, ◌&&◌, nat_eq, nat_lt, List, [], ◌∷◌, ◌++◌, Option, Some, None, refl, sym, ap, ap₂, subst, ◌∙◌, arith, if◌then◌else◌}
use Rattle.std.proofs.lemmas.Bool.{cases_eq}
use Rattle.page_model.specs.Pages.{Address}
use Rattle.journal_model.specs.Journal.{Script, Undoer, Opening}
use Rattle.journal_model.specs.Held.{greater}
use Rattle.journal_model.specs.History.{Owner, session, commit, history}
use Rattle.store_data.specs.Store.{Record, Log, Store}
use Rattle.store_model.specs.History.{Change, Past, changes, row_before, history_behind, is_among, stands, stands_above}
use Rattle.store_model.specs.History as store
use Rattle.store_model.specs.Steps.{all_but_first}
use Rattle.store_model.specs.Undo.{without_newest}
use Rattle.store_model.specs.Moves.{IsNewest}
use Rattle.store_model.specs.Well.{IsChain}
use Rattle.store_model.proofs.LogLemmas.{change}
use Rattle.store_model.proofs.UndoLemmas.{changes-popped}
use Rattle.kept_model.specs.Engine.{undoing, Session, Engine}
use Rattle.kept_model.specs.Names.{trx_numbered, names_of, floor, is_old, is_purging, AreNumbered, IsFirstBegun, AreLogs}
use Rattle.kept_model.specs.Stored.{Front, undone, front_of, front_by, front, IsStoredBy, known_from, IsStored}
use Rattle.kept_model.specs.Views.{AllPast}
use Rattle.kept_model.specs.Kept.{AreCounts, AreGiven, Kept}
use Rattle.kept_model.specs.Undoes.{handed_session}
use Rattle.kept_model.specs.Lasts.{Ends, last_event}
use Rattle.kept_model.proofs.UndoneLemmas.{step_undone, row_gone}
use Rattle.kept_model.proofs.SessionLemmas.{apart_of, not_eq}
use Rattle.kept_model.proofs.PlanKept.{stored_over}
use Rattle.history_model.specs.Sound.{OfOwners}
use Rattle.kept_model.proofs.RowLemmas.{none_named}
use Rattle.kept_model.proofs.PurgedRows.{NoneOf, none_join, none_active, none_committed, rows_off}
use Rattle.kept_model.proofs.SessionLemmas.{by_session}
use Rattle.kept_model.proofs.UndoRows.{HasTwo, has_two}
use Rattle.kept_model.proofs.UndoRows.{handed_front}
use Rattle.kept_model.proofs.StoredLemmas.{untouched}

module _ (o : Opening) (script : Script) (e : Engine) (kept : Kept o script e) (s trx : ℕ) (place : Address) (u : Record) (next : Store) (undoes : Ends trx place u e.store next)
    (v : Undoer) (task_is : (e.sessions s).task ≡ undoing v) (is : (e.sessions s).trx ≡ Some trx)
    (newest : IsNewest trx place u e.store) (held : e.locks u.doc ≡ Some s) where
  abbrev pub new : Engine
  new = last_event s place u next e

  abbrev pub x' : Session
  x' = record (e.sessions s) { trx = None }

  abbrev pub handed : ℕ → Session
  handed t = handed_session u.doc place u (e.sessions t)

  pub trx_other : (t : ℕ) → (t ≡ s → ⊥) → (new.sessions t).trx ≡ (e.sessions t).trx
  trx_other t other = ap (λ (b : Bool). (if b then x' else handed t).trx) (not_eq t s other)

  pub trx_was : (t x : ℕ) → (new.sessions t).trx ≡ Some x → (t ≡ s → ⊥) × ((e.sessions t).trx ≡ Some x)
  trx_was t x has = by_test (nat_eq t s) refl has
    where
      by_test : (b : Bool) → nat_eq t s ≡ b → (if b then x' else handed t).trx ≡ Some x → (t ≡ s → ⊥) × ((e.sessions t).trx ≡ Some x)
      by_test true g h = absurd (cc h)
      by_test false g h = ((λ same. apart_of t s same g), h)

  pub among_same : (k x : ℕ) → x ≢ trx → is_among next k x ≡ is_among e.store k x
  among_same k x other = ap₂ (λ (a b : Bool). not a && not b) (undoes.active x other) (ap (stands_above k x) undoes.committed)

  pub floor_same : floor next ≡ floor e.store
  floor_same = ap₂ (λ (b : Bool) (m : ℕ). if b then suc m else m) (ap is_purging undoes.committed) undoes.purged

  pub stands_then : stands trx e.store.active ≡ true
  stands_then = (kept.logs.own s trx is).0

  pub old_other : (x : ℕ) → is_old e.store x ≡ true → x ≢ trx
  old_other x old same = by_tests (nat_lt x e.store.next_trx) (stands x e.store.active) (ap (λ (n : ℕ). stands n e.store.active) same ∙ stands_then) old
    where
      by_tests : (a b : Bool) → b ≡ true → (a && (not b && not (stands_above (floor e.store) x e.store.committed))) ≡ true → ⊥
      by_tests true true h g = true≢false (sym g)
      by_tests true false h g = true≢false (sym h)
      by_tests false b h g = true≢false (sym g)

  pub old_same : (x : ℕ) → is_old e.store x ≡ true → is_old next x ≡ true
  old_same x old = ap₂ (λ (m : ℕ) (b : Bool). nat_lt x m && b) undoes.next (ap (λ (k : ℕ). is_among next k x) floor_same ∙ among_same (floor e.store) x (old_other x old)) ∙ old

  pub names_same : (w : Owner) (x : ℕ) → w ≢ session s → names_of e w ≡ Some x → names_of new w ≡ Some x
  names_same (session t) x other has = trx_other t (λ same. other (ap session same)) ∙ has
  names_same (commit k) x other has = ap (λ (ls : List Log). trx_numbered ls k) undoes.committed ∙ has

  pub stands_now : stands trx e.store.active ≡ true
  stands_now = (kept.logs.own s trx is).0

  pub counts_kept : AreCounts o new.journal new.store
  counts_kept = record {
    commits = undoes.commits ∙ kept.counts.commits;
    purged = undoes.purged ∙ kept.counts.purged;
    more = subst (λ (m : ℕ). o.commits ≤ m) (sym undoes.commits) kept.counts.more;
  }

  pub logs_kept : AreLogs next new.sessions
  logs_kept = record {
    numbered = subst (λ (m : ℕ). AreNumbered m next.purged next.committed) (sym undoes.commits)
        (subst (λ (m : ℕ). AreNumbered e.store.commits m next.committed) (sym undoes.purged)
        (subst (AreNumbered e.store.commits e.store.purged) (sym undoes.committed) kept.logs.numbered));
    first = subst IsFirstBegun (sym undoes.committed) kept.logs.first;
    own = λ t x has.
        let back = trx_was t x has in
        let was = kept.logs.own t x back.1 in
        (undoes.active x (λ same. back.0 (kept.logs.apart t s trx (back.1 ∙ ap (λ (k : ℕ). Some k) same) is)) ∙ was.0, ap (stands x) undoes.committed ∙ was.1);
    apart = λ t k x has has'. kept.logs.apart t k x (trx_was t x has).1 (trx_was k x has').1;
    owned = λ x stand.
        let other : x ≢ trx = (λ same. true≢false (sym stand ∙ ap (λ (n : ℕ). stands n next.active) same ∙ undoes.gone)) in
        let t = kept.logs.owned x (sym (undoes.active x other) ∙ stand) in
        (t.0, trx_other t.0 (λ same. other (cc (sym t.1 ∙ ap (λ (n : ℕ). (e.sessions n).trx) same ∙ is))) ∙ t.1);
    commits = λ k x found.
        let was = kept.logs.commits k x (sym (ap (λ (ls : List Log). trx_numbered ls k) undoes.committed) ∙ found) in
        (undoes.active x (λ same. true≢false (sym stands_then ∙ ap (λ (n : ℕ). stands n e.store.active) (sym same) ∙ was.0)) ∙ was.0, λ m. ap (stands_above m x) undoes.committed ∙ was.1 m);
    below = λ x stand. subst (λ (m : ℕ). x < m) (sym undoes.next) (kept.logs.below x (elim stand [
      | inl active ↦ inl (sym (undoes.active x (λ same. true≢false (sym active ∙ ap (λ (n : ℕ). stands n next.active) same ∙ undoes.gone))) ∙ active)
      | inr done ↦ inr (sym (ap (stands x) undoes.committed) ∙ done)
    ]));
  }

  -- ---- the document's rows

  pub two : HasTwo (store.history e.store u.doc) (row_before e.store u.doc) u.before (changes (without_newest trx u e.store) u.doc)
  two = subst (λ (cs : List Change). HasTwo (history_behind [] e.store.lobs (row_before e.store u.doc) cs) (row_before e.store u.doc) u.before (changes (without_newest trx u e.store) u.doc)) (sym (changes-popped trx place u e.store newest))
      (has_two [] e.store.lobs (row_before e.store u.doc) (change trx place u) (changes (without_newest trx u e.store) u.doc))

  pub first_trx : two.first.trx ≡ trx
  first_trx = two.trx ∙ (subst (IsChain (row_before e.store u.doc)) (changes-popped trx place u e.store newest) (kept.consistent.well.chains u.doc)).0.trx

  -- the rest of the rows, or an absent row
  pub all_new : (P : List Past → Type 0) → P (two.second ∷ two.rest) → (two.rest ≡ [] → two.second.bytes ≡ None → P (record { trx = 0; length = 0; bytes = None } ∷ [])) → P (store.history next u.doc)
  all_new P here gone = elim undoes.restores [
    | inl same ↦ subst P (sym (same ∙ ap all_but_first two.is)) here
    | inr none ↦
        let front : two.second ∷ two.rest ≡ record { trx = u.before.trx; length = u.before.lob.length; bytes = None } ∷ [] = sym (ap all_but_first two.is) ∙ none.1 in
        subst P (sym none.0) (gone (cc front) (bytes_of_first front))
  ]
    where
      bytes_of_first : {q : Past} {qs rs : List Past} → {b : Past} → b ∷ qs ≡ q ∷ rs → b.bytes ≡ q.bytes
      bytes_of_first {b = b} h = ap (λ (l : List Past). elim l [ [] ↦ b.bytes | x ∷ xs ↦ x.bytes ]) h

  pub names_one : (w : Owner) → names_of e w ≡ Some two.first.trx → w ≡ session s
  names_one (session t) has = ap session (kept.logs.apart t s trx (has ∙ ap (λ (k : ℕ). Some k) first_trx) is)
  names_one (commit k) has = absurd (true≢false (sym stands_now ∙ (kept.logs.commits k trx (has ∙ ap (λ (m : ℕ). Some m) first_trx)).0))

  pub none_left : (d : ℕ) → NoneOf trx (changes next d)
  none_left d = none_join trx (Rattle.store_model.specs.History.active_changes d next.active) (Rattle.store_model.specs.History.committed_changes d next.committed)
      (none_active trx d next.active undoes.gone) (none_committed trx d next.committed (ap (stands trx) undoes.committed ∙ (kept.logs.own s trx is).1))

  abbrev pub Over : ℕ → Front → Type 0
  Over d f = IsStoredBy (known_from o e.store) script e.journal (history o script e.journal d) f (is_purging e.store.committed) (suc e.store.purged) (is_old e.store) (names_of e) (store.history next d)

  pub off : (d : ℕ) (f : Front) → (k : Over d f) → OfOwners (λ w. w ≢ session s) (k.ahead ++ k.left)
  off d f k = none_named (names_of e) (is_old e.store) trx (session s) (k.ahead ++ k.left) (store.history next d) is
      (rows_off trx [] next.lobs (row_before next d) (changes next d) (undoes.consistent.well.chains d) (none_left d)) k.named

  pub over : (d : ℕ) (f : Front) → Over d f
      → IsStoredBy (known_from o next) script e.journal (history o script e.journal d) f (is_purging next.committed) (suc next.purged) (is_old next) (names_of new) (store.history next d)
  over d f k = stored_over (known_from o e.store) (known_from o next) script e.journal (history o script e.journal d) f (is_purging e.store.committed) (is_purging next.committed)
      (suc e.store.purged) (suc next.purged) (is_old next) (is_old next) (names_of new) (names_of new) (store.history next d)
      (ap (greater o.commits) floor_same) (ap is_purging undoes.committed) (ap suc undoes.purged) (λ x old. old) (λ w x has. has)
      (untouched (λ w. w ≢ session s) (known_from o e.store) script e.journal e.journal (history o script e.journal d) f (is_purging e.store.committed) (suc e.store.purged)
      (is_old e.store) (is_old next) (names_of e) (names_of new) (store.history next d) (λ w x other has. names_same w x other has) old_same (λ ms h. h) k (off d f k))

  pub front_same : (d : ℕ) → front new d ≡ front e d
  front_same d = by_lock (e.locks d)
    where
      by_lock : (m : Option ℕ) → front_by d m new.sessions ≡ front_by d m e.sessions
      by_lock None = refl
      by_lock (Some t) = by_session (λ t x. front_of d t x.task ≡ front_of d t (e.sessions t).task) s x' handed refl (λ t apart. handed_front u.doc place u d t (e.sessions t).task) t

  pub front_is : front e u.doc ≡ undone s
  front_is = ap (λ (m : Option ℕ). front_by u.doc m e.sessions) held ∙ ap (front_of u.doc s) task_is

  abbrev pub IsBy : List Past → Type 0
  IsBy rows = IsStoredBy (known_from o e.store) script e.journal (history o script e.journal u.doc) (undone s) (is_purging e.store.committed) (suc e.store.purged) (is_old e.store) (names_of e) rows

  pub own_stored : IsBy (store.history next u.doc)
  own_stored =
      let stepped : IsBy (two.second ∷ two.rest) = step_undone (known_from o e.store) script e.journal e.journal (is_purging e.store.committed) (suc e.store.purged) (is_old e.store) (names_of e) (store.history e.store u.doc) s
      (history o script e.journal u.doc) two.first two.second two.rest two.is names_one
      (subst (λ (f : Front). IsStoredBy (known_from o e.store) script e.journal (history o script e.journal u.doc) f (is_purging e.store.committed) (suc e.store.purged) (is_old e.store) (names_of e) (store.history e.store u.doc)) front_is (kept.stored u.doc)) in
      all_new IsBy stepped (λ none nothing.
      row_gone (known_from o e.store) script e.journal e.journal (is_purging e.store.committed) (suc e.store.purged) (is_old e.store) (names_of e) (two.second ∷ []) s
      (history o script e.journal u.doc) two.second (record { trx = 0; length = 0; bytes = None }) refl nothing refl kept.zero
      (subst (λ (qs : List Past). IsBy (two.second ∷ qs)) none stepped))

  pub stored_kept : (d : ℕ) → IsStored o script new d
  stored_kept d = elim (cases_eq d u.doc) [
    | inl here ↦ subst (IsStored o script new) (sym here)
        (subst (λ (f : Front). IsStoredBy (known_from o next) script e.journal (history o script e.journal u.doc) f (is_purging next.committed) (suc next.purged) (is_old next) (names_of new) (store.history next u.doc)) (sym (front_same u.doc ∙ front_is))
        (over u.doc (undone s) own_stored))
    | inr other ↦
        subst (λ (f : Front). IsStoredBy (known_from o next) script e.journal (history o script e.journal d) f (is_purging next.committed) (suc next.purged) (is_old next) (names_of new) (store.history next d)) (sym (front_same d))
        (over d (front e d)
        (subst (IsStoredBy (known_from o e.store) script e.journal (history o script e.journal d) (front e d) (is_purging e.store.committed) (suc e.store.purged) (is_old e.store) (names_of e))
        (sym (undoes.others d other)) (kept.stored d)))
  ]

  -- rows: fewer of them, and perhaps an absent one
  pub rows_kept : (P : ℕ → Type 0) → P 0 → (d : ℕ) → AllPast P (store.history e.store d) → AllPast P (store.history next d)
  rows_kept P zero d all = elim (cases_eq d u.doc) [
    | inl here ↦ subst (λ (q : ℕ). AllPast P (store.history next q)) (sym here)
        (all_new (AllPast P) (subst (AllPast P) two.is (subst (λ (q : ℕ). AllPast P (store.history e.store q)) here all)).1 (λ none nothing. (zero, tt)))
    | inr other ↦ subst (AllPast P) (sym (undoes.others d other)) all
  ]

  pub zero_given : 0 < e.store.next_trx
  zero_given = by_test (nat_lt 0 e.store.next_trx) refl kept.zero
    where
      by_test : (b : Bool) → nat_lt 0 e.store.next_trx ≡ b → (b && is_among e.store (floor e.store) 0) ≡ true → 0 < e.store.next_trx
      by_test true g h = grind (arith, g)
      by_test false g h = absurd (true≢false (sym h))

  pub zero_among : is_among e.store (floor e.store) 0 ≡ true
  zero_among = by_test (nat_lt 0 e.store.next_trx) kept.zero
    where
      by_test : (b : Bool) → (b && is_among e.store (floor e.store) 0) ≡ true → is_among e.store (floor e.store) 0 ≡ true
      by_test true h = h
      by_test false h = absurd (true≢false (sym h))

  pub given_kept : (d : ℕ) → AreGiven next d
  given_kept d = subst (λ (m : ℕ). AllPast (λ x. x < m) (store.history next d)) (sym undoes.next) (rows_kept (λ x. x < e.store.next_trx) zero_given d (kept.given d))
