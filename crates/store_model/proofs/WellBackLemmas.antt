-- A well-formed store stays so: under the events of a rollback and of purge.
use Rattle.std.proofs.Common.{◌≡◌, ◌≢◌, inl, inr, ℕ, Bool, true, false, ◌&&◌, ◌==◌, if◌then◌else◌, List, [], ◌∷◌, ◌++◌, Option, Some, None, unwrap_or, refl, sym, ap, ap₂, subst, ◌∙◌, arith}
use Rattle.std.proofs.lemmas.Bool.{cases_eq, eqb-true}
use Rattle.page_model.specs.Pages.{Address}
use Rattle.store_data.specs.Logs.{passed}
use Rattle.store_data.specs.Store.{Row, live, deleted, Body, inserted, rebuilt, versioned, patched, removed, Record, Log, Store}
use Rattle.store_model.specs.History.{Change, changes, changes_among, row_of, row_before, absent_row, active_changes}
use Rattle.store_model.specs.Steps.{on_lobs, last_in, with_row, without_row, all_but_first}
use Rattle.store_model.specs.Undo.{same_place, is_gone, without_newest, undo_ended, on_first, on_oldest, cleared, is_at, is_newest, swept, record_passed, purge_begun, log_pages_left, log_purged}
use Rattle.store_model.specs.Behind.{IsElsewhere}
use Rattle.store_model.specs.Locked.{IsLocked}
use Rattle.store_model.specs.Moves.{IsNewest}
use Rattle.store_model.specs.Purging.{NumberedTo}
use Rattle.store_model.specs.Well.{IsKind, IsChain, AllIn, AreApart, AreDistinct, IsNew, AreNamedOnce, IsWell}
use Rattle.store_model.proofs.RowLemmas.{row-with_this, row-with_other, row-without_this, row-without_other}
use Rattle.store_model.proofs.LogLemmas.{change, among_this}
use Rattle.store_model.proofs.HistoryLemmas.{all-rows}
use Rattle.store_model.proofs.UndoLemmas.{changes-popped, changes-popped_other}
use Rattle.store_model.proofs.PurgeLemmas.{changes-first, swept_row, swept_changes, passed_changes, pass_changes_other, log_changes_kept}
use Rattle.store_model.proofs.ChainLemmas.{chain_front, all_front}
use Rattle.store_model.proofs.WellLemmas.{chain_same, apart_same}
use Rattle.store_model.proofs.DistinctLemmas.{distinct_popped, distinct_first, distinct_rest, locked_popped}

-- ---- one document's rows change

pub well_by : (store after : Store) (q : ℕ) (row : Row) (cs : List Change) → IsWell store
    → row_before after q ≡ row → changes after q ≡ cs
    → ((d : ℕ) → d ≢ q → (row_before after d ≡ row_before store d) × (changes after d ≡ changes store d))
    → IsChain row cs → AreNamedOnce cs
    → ((e : ℕ) → q ≢ e → AreApart row cs (row_before store e) (changes store e))
    → ((d : ℕ) → d ≢ q → AreApart (row_before store d) (changes store d) row cs)
    → AreDistinct (after.active ++ after.committed) → ((d : ℕ) → IsLocked d after.active) → NumberedTo after.commits after.committed → IsWell after
well_by store after q row cs well own_row own_changes kept chain once before behind distinct locked numbered = record {
  chains = λ d. elim (cases_eq d q) [
    | inl same ↦ subst (λ x. IsChain (row_before after x) (changes after x)) (sym same) (chain_same _ row _ cs own_row own_changes chain)
    | inr other ↦ chain_same _ _ _ _ (kept d other).0 (kept d other).1 (well.chains d)
  ];
  places = λ d. elim (cases_eq d q) [
    | inl same ↦ subst (λ x. AreNamedOnce (changes after x)) (sym same) (subst AreNamedOnce (sym own_changes) once)
    | inr other ↦ subst AreNamedOnce (sym (kept d other).1) (well.places d)
  ];
  apart = λ d e differ. elim (cases_eq d q) [
    | inl same ↦ subst (λ x. AreApart (row_before after x) (changes after x) (row_before after e) (changes after e)) (sym same)
        (let other : e ≢ q = λ x. differ (same ∙ sym x) in apart_same _ row _ _ _ cs _ _ own_row own_changes (kept e other).0 (kept e other).1 (before e (λ x. other (sym x))))
    | inr other ↦ elim (cases_eq e q) [
      | inl same ↦ subst (λ x. AreApart (row_before after d) (changes after d) (row_before after x) (changes after x)) (sym same)
          (apart_same _ _ _ row _ _ _ cs (kept d other).0 (kept d other).1 own_row own_changes (behind d other))
      | inr different ↦ apart_same _ _ _ _ _ _ _ _ (kept d other).0 (kept d other).1 (kept e different).0 (kept e different).1 (well.apart d e differ)
    ]
  ];
  logs = distinct;
  locked = locked;
  numbered = numbered;
}

all_in : (P Q : Row → Type 0) (row : Row) (cs : List Change) → ((r : Row) → P r → Q r) → AllIn P row cs → AllIn Q row cs
all_in P Q row cs so all = (so row all.0, all-rows P Q cs so all.1)

-- ---- a record is undone

-- a store stays well-formed where a transaction's newest record is undone, if a document whose row
-- goes has no other change
pub well_undone : (trx : ℕ) (place : Address) (u : Record) (store : Store) → IsWell store → IsNewest trx place u store
    → (is_gone (without_newest trx u store) u.before.state u.before ≡ true → changes (without_newest trx u store) u.doc ≡ [])
    → IsWell (undo_ended trx u store)
well_undone trx place u store well new none = by_test (is_gone mid u.before.state u.before) refl
  where
    mid : Store
    mid = without_newest trx u store

    cs : List Change
    cs = changes mid u.doc

    c : Change
    c = change trx place u

    all : changes store u.doc ≡ c ∷ cs
    all = changes-popped trx place u store new

    chain : IsChain (row_before store u.doc) (c ∷ cs)
    chain = subst (IsChain (row_before store u.doc)) all (well.chains u.doc)

    once : AreNamedOnce (c ∷ cs)
    once = subst AreNamedOnce all (well.places u.doc)

    before : (e : ℕ) → u.doc ≢ e → AreApart (row_before store u.doc) (c ∷ cs) (row_before store e) (changes store e)
    before e differ = subst (λ x. AreApart (row_before store u.doc) x (row_before store e) (changes store e)) all (well.apart u.doc e differ)

    behind : (d : ℕ) → d ≢ u.doc → AreApart (row_before store d) (changes store d) (row_before store u.doc) (c ∷ cs)
    behind d differ = subst (λ x. AreApart (row_before store d) (changes store d) (row_before store u.doc) x) all (well.apart d u.doc differ)

    by_test : (b : Bool) → is_gone mid u.before.state u.before ≡ b → IsWell (if b then without_row u.doc mid else with_row u.doc u.before mid)
    by_test false stays = well_by store (with_row u.doc u.before mid) u.doc u.before cs well (row-with_this u.doc u.before mid) refl
        (λ d other. (row-with_other u.doc d u.before mid other, changes-popped_other trx place u store d new other))
        chain.1 once.1 (λ e differ. (before e differ).1)
        (λ d differ. all_in (λ r. r.state ≡ live → AllIn (IsElsewhere r.lob.page) (row_before store u.doc) (c ∷ cs)) _ (row_before store d) (changes store d) (λ r apart is_live. (apart is_live).1) (behind d differ))
        (distinct_popped trx store.active store.committed well.logs) (λ d. locked_popped trx d store.active (well.locked d)) well.numbered
    by_test true gone = well_by store (without_row u.doc mid) u.doc absent_row [] well (row-without_this u.doc mid) (none gone)
        (λ d other. (row-without_other u.doc d mid other, changes-popped_other trx place u store d new other))
        tt tt (λ e differ. ((λ is_live. absurd (cc is_live)), tt))
        (λ d differ. all_in (λ r. r.state ≡ live → AllIn (IsElsewhere r.lob.page) (row_before store u.doc) (c ∷ cs)) _ (row_before store d) (changes store d) (λ r apart is_live. ((λ is_absent. absurd (cc is_absent)), tt)) (behind d differ))
        (distinct_popped trx store.active store.committed well.logs) (λ d. locked_popped trx d store.active (well.locked d)) well.numbered

-- ---- a record is passed

once_front : (cs ds : List Change) → AreNamedOnce (cs ++ ds) → AreNamedOnce cs
once_front [] ds once = tt
once_front (c ∷ cs) ds once = (new_front c.place cs once.0, once_front cs ds once.1)
  where
    new_front : (place : Address) (cs : List Change) → IsNew place (cs ++ ds) → IsNew place cs
    new_front place [] new = tt
    new_front place (c ∷ cs) new = (new.0, new_front place cs new.1)

new_last : (place : Address) (cs : List Change) (c : Change) → IsNew place (cs ++ c ∷ []) → c.place ≢ place
new_last place [] c new = new.0
new_last place (b ∷ cs) c new = new_last place cs c new.1

both_true : (a b : Bool) → (a && b) ≡ true → (a ≡ true) × (b ≡ true)
both_true true b e = (refl, e)
both_true false b e = absurd (cc e)

same_place-true : (a b : Address) → same_place a b ≡ true → a ≡ b
same_place-true a b e = let r = both_true (a.page == b.page) (a.at == b.at) e in
    ap₂ (λ (m n : ℕ). let x : Address = record { page = m; at = n } in x) (eqb-true a.page b.page r.0) (eqb-true a.at b.at r.1)

is_at-true : (a : Address) (o : Option Address) (b : Address) → o ≡ Some b → is_at a o ≡ true → a ≡ b
is_at-true a o b e h = same_place-true a b (ap (is_at a) (sym e) ∙ h)

newest_row : (a : Address) (trx : ℕ) (o : Option Row) → is_newest a trx o ≡ true → ((unwrap_or o absent_row).trx ≡ trx) × (is_at a (unwrap_or o absent_row).roll ≡ true)
newest_row a trx None e = absurd (cc e)
newest_row a trx (Some row) e = let r = both_true (row.trx == trx) (is_at a row.roll) e in (eqb-true row.trx trx r.0, r.1)

-- a row whose newest change is the deletion that purge passes is deleted, and has no other change
pub swept_well : (a : Address) (trx d : ℕ) (u : Record) (store : Store) (cs : List Change) → IsChain (row_before store d) (cs ++ change trx a u ∷ []) → AreNamedOnce (cs ++ change trx a u ∷ [])
    → is_newest a trx (row_of store d) ≡ true → u.body ≡ removed → ((row_before store d).state ≡ deleted) × (cs ≡ [])
swept_well a trx d u store [] chain once newest is_removed = ((subst (λ b. IsKind b (row_before store d) u.before) is_removed chain.0.kind).0, refl)
swept_well a trx d u store (b ∷ bs) chain once newest is_removed =
    let n = newest_row a trx (row_of store d) newest in
    absurd (new_last b.place bs (change trx a u) once.0 (is_at-true a (row_before store d).roll b.place chain.0.roll n.1))

-- where the first committed log's oldest record is passed, its document loses its oldest change
pub passed_all : (a : Address) (u : Record) (store : Store) (l : Log) (ls : List Log) → store.committed ≡ l ∷ ls → last_in l.records ≡ (a, u) ∷ []
    → changes store u.doc ≡ changes (on_oldest passed store) u.doc ++ change l.trx a u ∷ []
passed_all a u store l ls first oldest = passed_changes u.doc store l ls first
    ∙ ap (λ us. changes (on_oldest passed store) u.doc ++ us) (ap (changes_among u.doc l.trx) oldest ∙ among_this u.doc l.trx a u [] refl)

-- so by the whole event, which may sweep the row and clear a LOB
pub passed_own : (a : Address) (u : Record) (store : Store) (l : Log) (ls : List Log) → store.committed ≡ l ∷ ls → last_in l.records ≡ (a, u) ∷ []
    → changes store u.doc ≡ changes (record_passed a l.trx u store) u.doc ++ change l.trx a u ∷ []
passed_own a u store l ls first oldest = passed_all a u store l ls first oldest
    ∙ ap (λ cs. cs ++ change l.trx a u ∷ []) (sym (swept_changes u.body a l.trx u.doc u.doc (on_lobs (cleared u.body u.before) store)))

numbered_first : (n : ℕ) (f : Log → Log) (ls : List Log) → ((l : Log) → (f l).number ≡ l.number) → NumberedTo n ls → NumberedTo n (on_first f ls)
numbered_first n f [] same all = tt
numbered_first n f (l ∷ ls) same all = (omega (arith, same l, all.0), all.1)

-- the sweep of a deleted row leaves the logs and the number of commits
pub swept_rest : (body : Body) (a : Address) (trx d : ℕ) (store : Store) → ((swept body a trx d store).active ≡ store.active) × ((swept body a trx d store).committed ≡ store.committed) × ((swept body a trx d store).commits ≡ store.commits)
swept_rest (inserted page) a trx d store = (refl, refl, refl)
swept_rest (rebuilt page) a trx d store = (refl, refl, refl)
swept_rest (versioned pieces touched) a trx d store = (refl, refl, refl)
swept_rest (patched old) a trx d store = (refl, refl, refl)
swept_rest removed a trx d store = by_test (is_newest a trx (row_of store d))
  where
    by_test : (b : Bool) → ((if b then without_row d store else store).active ≡ store.active) × ((if b then without_row d store else store).committed ≡ store.committed) × ((if b then without_row d store else store).commits ≡ store.commits)
    by_test true = (refl, refl, refl)
    by_test false = (refl, refl, refl)

-- and the next transaction id
pub swept_next : (body : Body) (a : Address) (trx d : ℕ) (store : Store) → (swept body a trx d store).next_trx ≡ store.next_trx
swept_next (inserted page) a trx d store = refl
swept_next (rebuilt page) a trx d store = refl
swept_next (versioned pieces touched) a trx d store = refl
swept_next (patched old) a trx d store = refl
swept_next removed a trx d store = by_test (is_newest a trx (row_of store d))
  where
    by_test : (b : Bool) → (if b then without_row d store else store).next_trx ≡ store.next_trx
    by_test true = refl
    by_test false = refl

-- a store stays well-formed where purge passes the oldest record of the first committed log
pub well_passed : (a : Address) (u : Record) (store : Store) (l : Log) (ls : List Log) → IsWell store → store.committed ≡ l ∷ ls → last_in l.records ≡ (a, u) ∷ []
    → IsWell (record_passed a l.trx u store)
well_passed a u store l ls well first oldest = elim (swept_row u.body a l.trx u.doc u.doc mid) [
  | inl kept ↦ well_by store after u.doc row cs well kept own_changes others (chain_front row cs (c ∷ []) chain) (once_front cs (c ∷ []) once)
      (λ e differ. let r = before e differ in (r.0, all_front _ cs (c ∷ []) r.1))
      (λ d differ. all_in (λ r. r.state ≡ live → AllIn (IsElsewhere r.lob.page) row (cs ++ c ∷ [])) _ (row_before store d) (changes store d) (λ r apart is_live. ((apart is_live).0, all_front (IsElsewhere r.lob.page) cs (c ∷ []) (apart is_live).1)) (behind d differ))
      distinct locked numbered
  | inr gone ↦ let last = swept_well a l.trx u.doc u store cs chain once gone.2 gone.3 in
      well_by store after u.doc absent_row [] well gone.0 (own_changes ∙ last.1) others tt tt (λ e differ. ((λ is_live. absurd (cc is_live)), tt))
      (λ d differ. all_in (λ r. r.state ≡ live → AllIn (IsElsewhere r.lob.page) row (cs ++ c ∷ [])) _ (row_before store d) (changes store d) (λ r apart is_live. ((λ is_absent. absurd (cc is_absent)), tt)) (behind d differ))
      distinct locked numbered
]
  where
    mid : Store
    mid = on_lobs (cleared u.body u.before) store

    after : Store
    after = record_passed a l.trx u store

    row : Row
    row = row_before store u.doc

    cs : List Change
    cs = changes (on_oldest passed store) u.doc

    c : Change
    c = change l.trx a u

    all : changes store u.doc ≡ cs ++ c ∷ []
    all = passed_all a u store l ls first oldest

    chain : IsChain row (cs ++ c ∷ [])
    chain = subst (IsChain row) all (well.chains u.doc)

    once : AreNamedOnce (cs ++ c ∷ [])
    once = subst AreNamedOnce all (well.places u.doc)

    own_changes : changes after u.doc ≡ cs
    own_changes = swept_changes u.body a l.trx u.doc u.doc mid

    before : (e : ℕ) → u.doc ≢ e → AreApart row (cs ++ c ∷ []) (row_before store e) (changes store e)
    before e differ = subst (λ x. AreApart row x (row_before store e) (changes store e)) all (well.apart u.doc e differ)

    behind : (d : ℕ) → d ≢ u.doc → AreApart (row_before store d) (changes store d) row (cs ++ c ∷ [])
    behind d differ = subst (λ x. AreApart (row_before store d) (changes store d) row x) all (well.apart d u.doc differ)

    others : (d : ℕ) → d ≢ u.doc → (row_before after d ≡ row_before store d) × (changes after d ≡ changes store d)
    others d differ = (elim (swept_row u.body a l.trx u.doc d mid) [ inl kept ↦ kept | inr gone ↦ absurd (differ gone.1) ], pass_changes_other a u store l ls d first oldest differ)

    rest : (mid.active ≡ mid.active) × (mid.committed ≡ mid.committed)
    rest = (refl, refl)

    distinct : AreDistinct (after.active ++ after.committed)
    distinct = let r = swept_rest u.body a l.trx u.doc mid in
        subst (λ x. AreDistinct (x ++ after.committed)) (sym r.0) (subst (λ x. AreDistinct (store.active ++ on_first passed x)) (sym r.1) (distinct_first passed store.active store.committed (λ m. refl) well.logs))

    locked : (d : ℕ) → IsLocked d after.active
    locked d = subst (IsLocked d) (sym (swept_rest u.body a l.trx u.doc mid).0) (well.locked d)

    numbered : NumberedTo after.commits after.committed
    numbered = let r = swept_rest u.body a l.trx u.doc mid in
        subst (λ x. NumberedTo x after.committed) (sym r.2) (subst (λ x. NumberedTo store.commits (on_first passed x)) (sym r.1) (numbered_first store.commits passed store.committed (λ m. refl) well.numbered))

-- ---- the first committed log changes, and goes

-- a store with all rows and changes of a well-formed one is well-formed, if its logs are in order
pub well_logs : (store after : Store) → IsWell store → ((d : ℕ) → row_before after d ≡ row_before store d) → ((d : ℕ) → changes after d ≡ changes store d)
    → AreDistinct (after.active ++ after.committed) → ((d : ℕ) → IsLocked d after.active) → NumberedTo after.commits after.committed → IsWell after
well_logs store after well rows same distinct locked numbered = record {
  chains = λ d. chain_same _ _ _ _ (rows d) (same d) (well.chains d);
  places = λ d. subst AreNamedOnce (sym (same d)) (well.places d);
  apart = λ d e differ. apart_same _ _ _ _ _ _ _ _ (rows d) (same d) (rows e) (same e) (well.apart d e differ);
  logs = distinct;
  locked = locked;
  numbered = numbered;
}

pub well_first : (f : Log → Log) (store : Store) → ((l : Log) → (f l).records ≡ l.records) → ((l : Log) → (f l).trx ≡ l.trx) → ((l : Log) → (f l).number ≡ l.number) → IsWell store → IsWell (on_oldest f store)
well_first f store r t n well = well_logs store (on_oldest f store) well (λ d. refl) (λ d. ap (λ cs. active_changes d store.active ++ cs) (changes-first d f store.committed r t))
    (distinct_first f store.active store.committed t well.logs) well.locked (numbered_first store.commits f store.committed n well.numbered)

-- a store stays well-formed where purge begins
pub well_begun : (store : Store) → IsWell store → IsWell (purge_begun store)
well_begun store well = well_first _ store (λ l. refl) (λ l. refl) (λ l. refl) well

-- so where the first committed log gets other pages
pub well_pages : (pages : List ℕ) (store : Store) → IsWell store → IsWell (log_pages_left pages store)
well_pages pages store well = well_first _ store (λ l. refl) (λ l. refl) (λ l. refl) well

numbered_rest : (n : ℕ) (ls : List Log) → NumberedTo n ls → NumberedTo n (all_but_first ls)
numbered_rest n [] all = tt
numbered_rest n (l ∷ ls) all = all.1

-- so where the first committed log goes, which has no records left
pub well_purged : (store : Store) (l : Log) (ls : List Log) → IsWell store → store.committed ≡ l ∷ ls → l.records ≡ [] → IsWell (log_purged store)
well_purged store l ls well first none = well_logs store (log_purged store) well (λ d. refl) (λ d. log_changes_kept d store l ls first none)
    (distinct_rest store.active store.committed well.logs) well.locked (numbered_rest store.commits store.committed well.numbered)
