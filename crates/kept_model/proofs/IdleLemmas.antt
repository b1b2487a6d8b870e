-- A document that a session's transaction has a record of is locked by it; so no other log has one.
use Rattle.std.proofs.Common.{◌≡◌, ◌≢◌, ℕ, Bool, true, false, true≢false, ◌||◌, nat_eq, List, [], ◌∷◌, map, reverse, Option, Some, None, is_some, refl, sym, ap, subst, ◌∙◌, arith, if◌then◌else◌}
use Rattle.std.specs.List.{list_any}
use Rattle.std.proofs.lemmas.List.{reverse-append}
use Rattle.std.proofs.lemmas.List.Folds.{list_any-append}
use Rattle.page_model.specs.Pages.{Address}
use Rattle.journal_model.specs.Documents.{Call, call_doc}
use Rattle.journal_model.specs.Journal.{Script, Entry, Opening}
use Rattle.journal_model.specs.Part.{own, touches}
use Rattle.history_model.proofs.OwnerLemmas.{own_held}
use Rattle.store_data.specs.Store.{Record, Log}
use Rattle.store_model.specs.History.{changes_among, stands}
use Rattle.store_model.specs.Steps.{log_of}
use Rattle.store_model.specs.Events.{Plan, log_begun}
use Rattle.store_model.specs.Locked.{OthersIdle, first_in, newest_in}
use Rattle.store_model.specs.Moves.{MayChange, IsNewest}
use Rattle.store_model.specs.Well.{NoLog, AreDistinct}
use Rattle.kept_model.specs.Engine.{Task, idle, asking, fetching, making, reading, undoing, Engine}
use Rattle.kept_model.specs.Sessions.{own_docs, record_docs, records_of, session_records, HasRecords, has_lock}
use Rattle.kept_model.specs.Kept.{Kept}
use Rattle.kept_model.proofs.SessionLemmas.{self_eq, not_eq}
use Rattle.kept_model.proofs.LogLemmas.{stands_log, distinct_parts}

abbrev has_doc : ℕ → List ℕ → Bool
has_doc d ds = list_any (λ n. nat_eq n d) ds

any_reverse : (p : ℕ → Bool) (xs : List ℕ) → list_any p (reverse xs) ≡ list_any p xs
any_reverse p [] = refl
any_reverse p (x ∷ xs) =
    ap (list_any p) (reverse-append (x ∷ []) xs)
    ∙ list_any-append p (reverse xs) (x ∷ [])
    ∙ ap (λ (b : Bool). b || (p x || false)) (any_reverse p xs)
    ∙ swap (list_any p xs) (p x)
  where
    swap : (a b : Bool) → (a || (b || false)) ≡ (b || a)
    swap true true = refl
    swap true false = refl
    swap false true = refl
    swap false false = refl

docs_touched : (d : ℕ) (cs : List Call) → has_doc d (map call_doc cs) ≡ touches d cs
docs_touched d [] = refl
docs_touched d (c ∷ cs) = ap (λ (b : Bool). nat_eq (call_doc c) d || b) (docs_touched d cs)

own_touched : (script : Script) (s d : ℕ) (past : List Entry) → has_doc d (own_docs script s past) ≡ touches d (own script s past)
own_touched script s d past = any_reverse (λ n. nat_eq n d) (map call_doc (own script s past)) ∙ docs_touched d (own script s past)

-- changes of a document, and the documents of records
none_among : (d trx : ℕ) (us : List (Address × Record)) → has_doc d (record_docs us) ≡ false → changes_among d trx us ≡ []
none_among d trx [] none = refl
none_among d trx (u ∷ us) none = by_test (nat_eq u.1.doc d) none (λ g. none_among d trx us g)
  where
    by_test : (b : Bool) → (b || has_doc d (record_docs us)) ≡ false → (has_doc d (record_docs us) ≡ false → changes_among d trx us ≡ [])
        → (if b then record { place = u.0; trx = trx; undo = u.1 } ∷ changes_among d trx us else changes_among d trx us) ≡ []
    by_test true g rest = absurd (true≢false g)
    by_test false g rest = rest g

-- logs are found by their transactions
abbrev AreFound : List Log → List Log → Type 0
AreFound all [] = Unit {0}
AreFound all (l ∷ ls) = (log_of all l.trx ≡ Some l) × AreFound all ls

found_behind : (m : Log) (all ls : List Log) → NoLog m.trx ls → AreFound all ls → AreFound (m ∷ all) ls
found_behind m all [] none found = tt
found_behind m all (l ∷ ls) none found =
    (ap (λ (b : Bool). if b then Some m else log_of all l.trx) (not_eq m.trx l.trx (λ same. none.0 (sym same))) ∙ found.0, found_behind m all ls none.1 found.1)

logs_found : (ls : List Log) → AreDistinct ls → AreFound ls ls
logs_found [] all = tt
logs_found (l ∷ ls) all = (ap (λ (b : Bool). if b then Some l else log_of ls l.trx) (self_eq l.trx), found_behind l ls ls all.0 (logs_found ls all.1))

newest_has : (trx : ℕ) (place : Address) (u : Record) (ls : List Log) → newest_in trx ls ≡ Some (place, u) → has_doc u.doc (record_docs (records_of (log_of ls trx))) ≡ true
newest_has trx place u [] h = absurd (cc h)
newest_has trx place u (l ∷ ls) h = by_test (nat_eq l.trx trx) h (λ g. newest_has trx place u ls g)
  where
    by_records : (us : List (Address × Record)) → first_in us ≡ Some (place, u) → has_doc u.doc (record_docs us) ≡ true
    by_records [] h = absurd (cc h)
    by_records (w ∷ ws) h =
        let same : w ≡ (place, u) = cc h in
        ap (λ (v : Address × Record). nat_eq v.1.doc u.doc || has_doc u.doc (record_docs ws)) same ∙ ap (λ (b : Bool). b || has_doc u.doc (record_docs ws)) (self_eq u.doc)

    by_test : (b : Bool) → (if b then first_in l.records else newest_in trx ls) ≡ Some (place, u) → (newest_in trx ls ≡ Some (place, u) → has_doc u.doc (record_docs (records_of (log_of ls trx))) ≡ true)
        → has_doc u.doc (record_docs (records_of (if b then Some l else log_of ls trx))) ≡ true
    by_test true h rest = by_records l.records h
    by_test false h rest = rest h

module _ (o : Opening) (script : Script) (e : Engine) (kept : Kept o script e) where
  pub docs_locked : (t x d : ℕ) → (e.sessions t).trx ≡ Some x → has_doc d (record_docs (session_records e.store (Some x))) ≡ true → e.locks d ≡ Some t
  docs_locked t x d has there = by_task (e.sessions t).task refl
      (subst (λ (m : Option ℕ). HasRecords (e.sessions t).task (own_docs script t e.journal) (record_docs (session_records e.store m))) has (kept.logged t).records)
    where
      ds : List ℕ
      ds = record_docs (session_records e.store (Some x))

      by_own : has_doc d (own_docs script t e.journal) ≡ true → e.locks d ≡ Some t
      by_own h = (kept.locks d).held t (own_held script t d e.journal (sym (own_touched script t d e.journal) ∙ h))

      all_own : record_docs (session_records e.store (Some x)) ≡ own_docs script t e.journal → e.locks d ≡ Some t
      all_own same = by_own (ap (has_doc d) (sym same) ∙ there)

      or_true : (a b : Bool) → b ≡ true → (a || b) ≡ true
      or_true true b h = refl
      or_true false b h = h

      by_made : (q : ℕ) (b : Bool) → nat_eq q d ≡ b → (has_lock d (e.sessions t).task ≡ nat_eq q d) → (b || has_doc d (own_docs script t e.journal)) ≡ true → e.locks d ≡ Some t
      by_made q true g lock h = (kept.locks d).taken t (lock ∙ g)
      by_made q false g lock h = by_own h

      by_task : (k : Task) → (e.sessions t).task ≡ k → HasRecords (e.sessions t).task (own_docs script t e.journal) (record_docs (session_records e.store (Some x))) → e.locks d ≡ Some t
      by_task idle is h = all_own (subst (λ (k : Task). HasRecords k (own_docs script t e.journal) (record_docs (session_records e.store (Some x)))) is h)
      by_task (asking q) is h = all_own (subst (λ (k : Task). HasRecords k (own_docs script t e.journal) (record_docs (session_records e.store (Some x)))) is h)
      by_task (fetching q ps) is h = all_own (subst (λ (k : Task). HasRecords k (own_docs script t e.journal) (record_docs (session_records e.store (Some x)))) is h)
      by_task (making q left r) is h =
          let same = subst (λ (k : Task). HasRecords k (own_docs script t e.journal) (record_docs (session_records e.store (Some x)))) is h in
          by_made q (nat_eq q d) refl (ap (has_lock d) is) (ap (has_doc d) (sym same) ∙ there)
      by_task (reading q f) is h = all_own (subst (λ (k : Task). HasRecords k (own_docs script t e.journal) (record_docs (session_records e.store (Some x)))) is h)
      by_task (undoing v) is h =
          let gone = subst (λ (k : Task). HasRecords k (own_docs script t e.journal) (record_docs (session_records e.store (Some x)))) is h in
          by_own (ap (has_doc d) gone.1 ∙ list_any-append (λ n. nat_eq n d) gone.0 (record_docs (session_records e.store (Some x))) ∙ or_true (has_doc d gone.0) (has_doc d (record_docs (session_records e.store (Some x)))) there)

  -- another session's log has no record of the document
  others_idle : (s trx d : ℕ) → ((x : ℕ) → (e.sessions s).trx ≡ Some x → x ≡ trx) → e.locks d ≡ Some s → (ls : List Log) → AreFound e.store.active ls → OthersIdle trx d ls
  others_idle s trx d is mine [] found = tt
  others_idle s trx d is mine (l ∷ ls) found = ((λ other. none_among d l.trx l.records (by_test (has_doc d (record_docs l.records)) refl other)), others_idle s trx d is mine ls found.1)
    where
      stands_found : (all : List Log) (x : ℕ) → log_of all x ≡ Some l → stands x all ≡ true
      stands_found [] x h = absurd (cc h)
      stands_found (m ∷ ms) x h = by_head (nat_eq m.trx x) h (λ g. stands_found ms x g)
        where
          by_head : (b : Bool) → (if b then Some m else log_of ms x) ≡ Some l → (log_of ms x ≡ Some l → stands x ms ≡ true) → (b || stands x ms) ≡ true
          by_head true h rest = refl
          by_head false h rest = rest h

      by_test : (b : Bool) → has_doc d (record_docs l.records) ≡ b → l.trx ≢ trx → b ≡ false
      by_test false g other = refl
      by_test true g other =
          let t = kept.logs.owned l.trx (stands_found e.store.active l.trx found.0) in
          let its = docs_locked t.0 l.trx d t.1 (ap (λ (o : Option Log). has_doc d (record_docs (records_of o))) found.0 ∙ g) in
          let one : t.0 ≡ s = cc (sym its ∙ mine) in
          absurd (other (is l.trx (sym (ap (λ (n : ℕ). (e.sessions n).trx) one) ∙ t.1)))

  all_found : AreFound e.store.active e.store.active
  all_found = logs_found e.store.active (distinct_parts e.store.active e.store.committed kept.consistent.well.logs).0

  -- so a session that has the lock may change it
  pub may_change : (s : ℕ) (p : Plan) → (e.sessions s).trx ≡ Some p.trx → e.locks p.doc ≡ Some s → MayChange p e.store
  may_change s p is mine = record {
    log = (let l = stands_log p.trx e.store.active (kept.logs.own s p.trx is).0 in ap is_some l.1);
    idle = others_idle s p.trx p.doc (λ x h. cc (sym h ∙ is)) mine e.store.active all_found;
  }

  -- and the newest record of its transaction is the newest of its document, which it has the lock of
  pub newest_locked : (s trx : ℕ) (place : Address) (u : Record) → (e.sessions s).trx ≡ Some trx → newest_in trx e.store.active ≡ Some (place, u)
      → (e.locks u.doc ≡ Some s) × IsNewest trx place u e.store
  newest_locked s trx place u is newest =
      let mine = docs_locked s trx u.doc is (newest_has trx place u e.store.active newest) in
      (mine, record { newest = newest; idle = others_idle s trx u.doc (λ x h. cc (sym h ∙ is)) mine e.store.active all_found })

  -- so may one that has the lock and gets its log in the same event
  pub may_begin_over : (s page : ℕ) (p : Plan) → (e.sessions s).trx ≡ None → e.locks p.doc ≡ Some s → p.trx ≡ e.store.next_trx → MayChange p (log_begun e.store.next_trx page e.store)
  may_begin_over s page p none mine is =
      let own : nat_eq e.store.next_trx p.trx ≡ true = grind (arith, is) in
      record {
        log = rw own refl;
        idle = ((λ other. refl), others_idle s p.trx p.doc (λ x h. absurd (cc (sym none ∙ h))) mine e.store.active all_found);
      }
