-- Each record of a document stands in its page.
use Rattle.std.proofs.Common.{◌≡◌, ◌⊎◌, inl, inr, ℕ, List, [], ◌∷◌, ◌++◌, map, Bool, true, false, cond, ◌==◌, Option, Some, None, refl, sym, ap, subst, ◌∙◌}
use Rattle.page_model.specs.Pages.{Pages, Address}
use Rattle.store_data.specs.Store.{LogState, active, committed, purging, Record, Log, Store}
use Rattle.store_model.specs.History.{Change, changes_among, log_changes, active_changes, committed_changes}
use Rattle.store_model.specs.Undo.{same_place, record_at}
use Rattle.undo_model.specs.Data.{Entry, Log as LogThere}
use Rattle.undo_model.specs.Logs.{IsLog, AreChained, records_of, newest}
use Rattle.undo_model.specs.LogSteps.{same_address}
use Rattle.store_parts.specs.Shows.{record_of, entries_of, down_to, due, due_in, log_of, logs_of, AreIn, IsStore}
use Rattle.store_parts.specs.Standing.{IsOut, AreThere}
use Rattle.read_model.specs.OfStore.{entry, document}
use Rattle.read_model.proofs.EventLemmas.{same_true}
use Rattle.version_read.specs.Records.{StandsIn}

some_same : {A : Type 0} {x y : A} → Some x ≡ Some y → x ≡ y
some_same e = cc e

abbrev pub AllStand : Pages → List (Address × Record) → Type 0
AllStand pages [] = Unit {0}
AllStand pages (e ∷ es) = StandsIn pages e.0 e.1 × AllStand pages es

all_append : (pages : Pages) (xs ys : List (Address × Record)) → AllStand pages xs
    → AllStand pages ys → AllStand pages (xs ++ ys)
all_append pages [] ys a b = b
all_append pages (x ∷ xs) ys a b = (a.0, all_append pages xs ys a.1 b)

here : (pages : Pages) (e : Entry) (older : List Entry) → AreChained pages (e ∷ older)
    → StandsIn pages e.at (record_of e.undo)
here pages e older chain = record {
  there = e.undo;
  previous = newest older;
  stands = chain.0;
  shows = refl;
}

all_chained : (pages : Pages) (es : List Entry) → AreChained pages es
    → AllStand pages (entries_of es)
all_chained pages [] chain = tt
all_chained pages (e ∷ older) chain =
    (here pages e older chain, all_chained pages older chain.1)

down_stand : (pages : Pages) (a : Address) (es : List Entry) → AreChained pages es
    → AllStand pages (entries_of (down_to a es))
down_stand pages a [] chain = tt
down_stand pages a (e ∷ older) chain =
    by (same_address e.at a) (down_stand pages a older chain.1)
  where
    by : (b : Bool) → AllStand pages (entries_of (down_to a older))
        → AllStand pages (entries_of (cond b (e ∷ []) (e ∷ down_to a older)))
    by true rest = (here pages e older chain, tt)
    by false rest = (here pages e older chain, rest)

due_stand : (pages : Pages) (next : Option Address) (es : List Entry) → AreChained pages es
    → AllStand pages (entries_of (due next es))
due_stand pages None es chain = tt
due_stand pages (Some a) es chain = down_stand pages a es chain

due_in_stand : (pages : Pages) (state : LogState) (next : Option Address) (es : List Entry)
    → AreChained pages es → AllStand pages (entries_of (due_in state next es))
due_in_stand pages active next es chain = all_chained pages es chain
due_in_stand pages committed next es chain = due_stand pages next es chain
due_in_stand pages purging next es chain = due_stand pages next es chain

-- ---- of one document

among_stand : (pages : Pages) (d trx : ℕ) (us : List (Address × Record)) → AllStand pages us
    → AllStand pages (map entry (changes_among d trx us))
among_stand pages d trx [] all = tt
among_stand pages d trx (u ∷ us) all = by (u.1.doc == d) (among_stand pages d trx us all.1)
  where
    by : (b : Bool) → AllStand pages (map entry (changes_among d trx us))
        → AllStand pages (map entry (cond b (record { place = u.0; trx = trx; undo = u.1 }
        ∷ changes_among d trx us) (changes_among d trx us)))
    by true rest = (all.0, rest)
    by false rest = rest

abbrev AllLogs : Pages → List Log → Type 0
AllLogs pages [] = Unit {0}
AllLogs pages (l ∷ ls) = AllStand pages l.records × AllLogs pages ls

logs_stand : (pages : Pages) (ls : List LogThere) → AreThere pages ls → AreIn ls
    → AllLogs pages (logs_of ls)
logs_stand pages [] there in_lists = tt
logs_stand pages (l ∷ ls) there in_lists =
    (by there.0, logs_stand pages ls there.1 in_lists.1)
  where
    by : IsOut l ⊎ IsLog pages l → AllStand pages (log_of l).records
    by (inl out) = absurd (in_lists.0 out)
    by (inr is) = due_in_stand pages l.state l.next (records_of l) is.chain

joined_stand : (pages : Pages) (xs ys : List Change) → AllStand pages (map entry xs)
    → AllStand pages (map entry ys) → AllStand pages (map entry (xs ++ ys))
joined_stand pages [] ys a b = b
joined_stand pages (x ∷ xs) ys a b = (a.0, joined_stand pages xs ys a.1 b)

active_stand : (pages : Pages) (d : ℕ) (ls : List Log) → AllLogs pages ls
    → AllStand pages (map entry (active_changes d ls))
active_stand pages d [] all = tt
active_stand pages d (l ∷ ls) all =
    joined_stand pages (log_changes d l) (active_changes d ls)
    (among_stand pages d l.trx l.records all.0) (active_stand pages d ls all.1)

committed_stand : (pages : Pages) (d : ℕ) (ls : List Log) → AllLogs pages ls
    → AllStand pages (map entry (committed_changes d ls))
committed_stand pages d [] all = tt
committed_stand pages d (l ∷ ls) all =
    joined_stand pages (committed_changes d ls) (log_changes d l)
    (committed_stand pages d ls all.1) (among_stand pages d l.trx l.records all.0)

pub records_stand : (pages : Pages) (store : Store) → IsStore pages store → (d : ℕ)
    → AllStand pages (document store d).records
records_stand pages store is d =
    joined_stand pages (active_changes d store.active) (committed_changes d store.committed)
    (active_stand pages d store.active (subst (AllLogs pages) (sym is.shows.active)
    (logs_stand pages is.stored.active is.standing.active is.whole.active_in)))
    (committed_stand pages d store.committed (subst (AllLogs pages) (sym is.shows.committed)
    (logs_stand pages is.stored.committed is.standing.committed is.whole.committed_in)))

pub found_stands : (pages : Pages) (es : List (Address × Record)) → AllStand pages es
    → (a : Address) (r : Record) → record_at es a ≡ Some r → StandsIn pages a r
found_stands pages [] all a r found = absurd cc found
found_stands pages (e ∷ es) all a r found =
    by (same_place e.0 a) refl (found_stands pages es all.1 a r)
  where
    by : (b : Bool) → same_place e.0 a ≡ b → (record_at es a ≡ Some r → StandsIn pages a r)
        → StandsIn pages a r
    by true same rest =
        let is : e.1 ≡ r = some_same (sym (ap (λ t. cond t (Some e.1) (record_at es a)) same) ∙ found) in
        subst (λ (x : Record). StandsIn pages a x) is
        (subst (λ (p : Address). StandsIn pages p e.1) (same_true e.0 a same) all.0)
    by false same rest =
        rest (sym (ap (λ t. cond t (Some e.1) (record_at es a)) same) ∙ found)
