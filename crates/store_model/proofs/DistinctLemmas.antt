-- Logs of different transactions, and locked documents, where a log changes.
use Rattle.std.proofs.Common.{◌≡◌, ◌≢◌, ◌⊎◌, inl, inr, ℕ, Bool, true, false, ◌==◌, if◌then◌else◌, List, [], ◌∷◌, ◌++◌, Some, refl, sym, ap, ap₂, subst, ◌∙◌}
use Rattle.std.proofs.lemmas.Bool.Decides.{eqb_tells}
use Rattle.std.proofs.lemmas.List.{append_assoc}
use Rattle.page_model.specs.Pages.{Address}
use Rattle.store_data.specs.Logs.{with_record}
use Rattle.store_data.specs.Store.{Record, Log}
use Rattle.store_model.specs.History.{Change, changes_among, log_changes, active_changes}
use Rattle.store_model.specs.Steps.{all_but_first, on_log, without_log, log_of, shrunk, without_record}
use Rattle.store_model.specs.Undo.{on_first}
use Rattle.store_model.specs.Locked.{OthersIdle, IsLocked}
use Rattle.store_model.specs.Well.{NoLog, AreDistinct}
use Rattle.store_model.proofs.LogLemmas.{among_other, active-with_other, nil_parts, Some_same, None_not_Some}

-- ---- different transactions

-- a transaction that has no log in a joined list has none in either part
pub none_parts : (x : ℕ) (ls ms : List Log) → NoLog x (ls ++ ms) → NoLog x ls × NoLog x ms
none_parts x [] ms none = (tt, none)
none_parts x (l ∷ ls) ms none = let r = none_parts x ls ms none.1 in ((none.0, r.0), r.1)

-- a transaction that has no log in either part has none in the joined list
pub none_join : (x : ℕ) (ls ms : List Log) → NoLog x ls → NoLog x ms → NoLog x (ls ++ ms)
none_join x [] ms a b = b
none_join x (l ∷ ls) ms a b = (a.0, none_join x ls ms a.1 b)

-- a transaction gets no log where one changes and keeps its own transaction
pub none_on : (trx x : ℕ) (f : Log → Log) (ls : List Log) → ((l : Log) → (f l).trx ≡ l.trx) → NoLog x ls → NoLog x (on_log trx f ls)
none_on trx x f [] same none = tt
none_on trx x f (l ∷ ls) same none = by_test (l.trx == trx) (none_on trx x f ls same none.1)
  where
    by_test : (b : Bool) → NoLog x (on_log trx f ls) → NoLog x (if b then f l ∷ ls else l ∷ on_log trx f ls)
    by_test true rest = ((λ e. none.0 (sym (same l) ∙ e)), none.1)
    by_test false rest = (none.0, rest)

-- logs stay of different transactions where one of the first part changes and keeps its own
pub distinct_on : (trx : ℕ) (f : Log → Log) (ls ms : List Log) → ((l : Log) → (f l).trx ≡ l.trx) → AreDistinct (ls ++ ms) → AreDistinct (on_log trx f ls ++ ms)
distinct_on trx f [] ms same all = all
distinct_on trx f (l ∷ ls) ms same all = by_test (l.trx == trx) (distinct_on trx f ls ms same all.1)
  where
    by_test : (b : Bool) → AreDistinct (on_log trx f ls ++ ms) → AreDistinct ((if b then f l ∷ ls else l ∷ on_log trx f ls) ++ ms)
    by_test true rest = (subst (λ x. NoLog x (ls ++ ms)) (sym (same l)) all.0, all.1)
    by_test false rest = let r = none_parts l.trx ls ms all.0 in (none_join l.trx (on_log trx f ls) ms (none_on trx l.trx f ls same r.0) r.1, rest)

-- a transaction that has no log has none where one is taken out
pub none_without : (trx x : ℕ) (ls : List Log) → NoLog x ls → NoLog x (without_log trx ls)
none_without trx x [] none = tt
none_without trx x (l ∷ ls) none = by_test (l.trx == trx) (none_without trx x ls none.1)
  where
    by_test : (b : Bool) → NoLog x (without_log trx ls) → NoLog x (if b then ls else l ∷ without_log trx ls)
    by_test true rest = none.1
    by_test false rest = (none.0, rest)

-- nor where a log loses its newest record
pub none_popped : (trx x : ℕ) (ls : List Log) → NoLog x ls → NoLog x (without_record trx ls)
none_popped trx x [] none = tt
none_popped trx x (l ∷ ls) none = by_test (l.trx == trx) (none_popped trx x ls none.1)
  where
    by_records : (us : List (Address × Record)) → NoLog x (shrunk l us ls)
    by_records [] = none.1
    by_records (u ∷ us) = none

    by_test : (b : Bool) → NoLog x (without_record trx ls) → NoLog x (if b then shrunk l (all_but_first l.records) ls else l ∷ without_record trx ls)
    by_test true rest = by_records (all_but_first l.records)
    by_test false rest = (none.0, rest)

-- logs stay of different transactions where one of the first part loses its newest record
pub distinct_popped : (trx : ℕ) (ls ms : List Log) → AreDistinct (ls ++ ms) → AreDistinct (without_record trx ls ++ ms)
distinct_popped trx [] ms all = all
distinct_popped trx (l ∷ ls) ms all = by_test (l.trx == trx) (distinct_popped trx ls ms all.1)
  where
    by_records : (us : List (Address × Record)) → AreDistinct (shrunk l us ls ++ ms)
    by_records [] = all.1
    by_records (u ∷ us) = all

    by_test : (b : Bool) → AreDistinct (without_record trx ls ++ ms) → AreDistinct ((if b then shrunk l (all_but_first l.records) ls else l ∷ without_record trx ls) ++ ms)
    by_test true rest = by_records (all_but_first l.records)
    by_test false rest = let r = none_parts l.trx ls ms all.0 in (none_join l.trx (without_record trx ls) ms (none_popped trx l.trx ls r.0) r.1, rest)

-- a log behind the others
none_last : (x : ℕ) (ls : List Log) (l : Log) → NoLog x ls → l.trx ≢ x → NoLog x (ls ++ l ∷ [])
none_last x ls l none other = none_join x ls (l ∷ []) none (other, tt)

distinct_last : (ls : List Log) (l : Log) → AreDistinct ls → NoLog l.trx ls → AreDistinct (ls ++ l ∷ [])
distinct_last [] l all none = (tt, tt)
distinct_last (m ∷ ms) l all none = (none_last m.trx ms l all.0 (λ e. none.0 (sym e)), distinct_last ms l all.1 none.1)

there_parts : (trx x : ℕ) (ls : List Log) (l : Log) → log_of ls trx ≡ Some l → NoLog x ls → l.trx ≢ x
there_parts trx x [] l there none = absurd (None_not_Some there)
there_parts trx x (m ∷ ms) l there none = by_test (m.trx == trx) there (λ h. there_parts trx x ms l h none.1)
  where
    by_test : (b : Bool) → (if b then Some m else log_of ms trx) ≡ Some l → (log_of ms trx ≡ Some l → l.trx ≢ x) → l.trx ≢ x
    by_test true h rest = λ e. none.0 (ap (λ (n : Log). n.trx) (Some_same m l h) ∙ e)
    by_test false h rest = rest h

-- so where one of the first part goes behind all other logs and keeps its transaction
pub distinct_moved : (trx : ℕ) (ls ms : List Log) (l l' : Log) → log_of ls trx ≡ Some l → l'.trx ≡ l.trx → AreDistinct (ls ++ ms) → AreDistinct (without_log trx ls ++ (ms ++ l' ∷ []))
distinct_moved trx [] ms l l' there same all = absurd (None_not_Some there)
distinct_moved trx (m ∷ ns) ms l l' there same all = by_test (m.trx == trx) there (λ h. distinct_moved trx ns ms l l' h same all.1)
  where
    by_test : (b : Bool) → (if b then Some m else log_of ns trx) ≡ Some l → (log_of ns trx ≡ Some l → AreDistinct (without_log trx ns ++ (ms ++ l' ∷ [])))
        → AreDistinct ((if b then ns else m ∷ without_log trx ns) ++ (ms ++ l' ∷ []))
    by_test true h rest = subst AreDistinct (append_assoc ns ms (l' ∷ []))
        (distinct_last (ns ++ ms) l' all.1 (subst (λ x. NoLog x (ns ++ ms)) (ap (λ (n : Log). n.trx) (Some_same m l h) ∙ sym same) all.0))
    by_test false h rest = let r = none_parts m.trx ns ms all.0 in
        (none_join m.trx (without_log trx ns) (ms ++ l' ∷ []) (none_without trx m.trx ns r.0) (none_last m.trx ms l' r.1 (λ e. there_parts trx m.trx ns l h r.0 (sym same ∙ e))), rest h)

none_first : (x : ℕ) (f : Log → Log) (ls : List Log) → ((l : Log) → (f l).trx ≡ l.trx) → NoLog x ls → NoLog x (on_first f ls)
none_first x f [] same none = tt
none_first x f (l ∷ ls) same none = ((λ e. none.0 (sym (same l) ∙ e)), none.1)

-- logs stay of different transactions where the first of the second part keeps its own
pub distinct_first : (f : Log → Log) (ls ms : List Log) → ((l : Log) → (f l).trx ≡ l.trx) → AreDistinct (ls ++ ms) → AreDistinct (ls ++ on_first f ms)
distinct_first f [] [] same all = all
distinct_first f [] (m ∷ ms) same all = (subst (λ x. NoLog x ms) (sym (same m)) all.0, all.1)
distinct_first f (l ∷ ls) ms same all = let r = none_parts l.trx ls ms all.0 in (none_join l.trx ls (on_first f ms) r.0 (none_first l.trx f ms same r.1), distinct_first f ls ms same all.1)

-- so where the first of the second part goes
pub distinct_rest : (ls ms : List Log) → AreDistinct (ls ++ ms) → AreDistinct (ls ++ all_but_first ms)
distinct_rest [] [] all = all
distinct_rest [] (m ∷ ms) all = all.1
distinct_rest (l ∷ ls) ms all = (none_join l.trx ls (all_but_first ms) (none_parts l.trx ls ms all.0).0 (rest_of_none l.trx ms (none_parts l.trx ls ms all.0).1), distinct_rest ls ms all.1)
  where
    rest_of_none : (x : ℕ) (ms : List Log) → NoLog x ms → NoLog x (all_but_first ms)
    rest_of_none x [] none = tt
    rest_of_none x (m ∷ ms) none = none.1

-- ---- locked documents

-- no other log has a change
none_idle : (trx d : ℕ) (ls : List Log) → OthersIdle trx d ls → NoLog trx ls → active_changes d ls ≡ []
none_idle trx d [] idle none = refl
none_idle trx d (l ∷ ls) idle none = ap₂ (λ (a b : List Change). a ++ b) (idle.0 none.0) (none_idle trx d ls idle.1 none.1)

-- a document is locked where a record is appended to the one log that may have its changes
pub locked_with : (trx d : ℕ) (place : Address) (u : Record) (ls : List Log) → AreDistinct ls → OthersIdle trx d ls → IsLocked d (on_log trx (with_record place u) ls)
locked_with trx d place u [] all idle = tt
locked_with trx d place u (l ∷ ls) all idle = by_test (eqb_tells l.trx trx) (locked_with trx d place u ls all.1 idle.1)
  where
    by_test : (((l.trx == trx) ≡ true) × (l.trx ≡ trx)) ⊎ (((l.trx == trx) ≡ false) × (l.trx ≢ trx)) → IsLocked d (on_log trx (with_record place u) ls) → IsLocked d (on_log trx (with_record place u) (l ∷ ls))
    by_test (inl same) rest = rw same.0 (inr (none_idle trx d ls idle.1 (subst (λ x. NoLog x ls) same.1 all.0)))
    by_test (inr other) rest = rw other.0 (inl (idle.0 other.1, rest))

-- a locked document stays so where a record of another document is appended
pub locked_with_other : (trx d : ℕ) (place : Address) (u : Record) (ls : List Log) → u.doc ≢ d → IsLocked d ls → IsLocked d (on_log trx (with_record place u) ls)
locked_with_other trx d place u [] other locked = tt
locked_with_other trx d place u (l ∷ ls) other locked = by_test (l.trx == trx) locked (locked_with_other trx d place u ls other)
  where
    by_test : (b : Bool) → ((log_changes d l ≡ []) × IsLocked d ls) ⊎ (active_changes d ls ≡ []) → (IsLocked d ls → IsLocked d (on_log trx (with_record place u) ls))
        → IsLocked d (if b then with_record place u l ∷ ls else l ∷ on_log trx (with_record place u) ls)
    by_test true (inl h) rest = inl (among_other d l.trx (place, u) l.records other ∙ h.0, h.1)
    by_test true (inr h) rest = inr h
    by_test false (inl h) rest = inl (h.0, rest h.1)
    by_test false (inr h) rest = inr (active-with_other trx d place u ls other ∙ h)

none_locked : (d : ℕ) (ls : List Log) → active_changes d ls ≡ [] → IsLocked d ls
none_locked d [] none = tt
none_locked d (l ∷ ls) none = let r = nil_parts (log_changes d l) (active_changes d ls) none in inl (r.0, none_locked d ls r.1)

without_none : (trx d : ℕ) (ls : List Log) → active_changes d ls ≡ [] → active_changes d (without_log trx ls) ≡ []
without_none trx d [] none = refl
without_none trx d (l ∷ ls) none = by_test (l.trx == trx) (nil_parts (log_changes d l) (active_changes d ls) none) (without_none trx d ls)
  where
    by_test : (b : Bool) → (log_changes d l ≡ []) × (active_changes d ls ≡ []) → (active_changes d ls ≡ [] → active_changes d (without_log trx ls) ≡ [])
        → active_changes d (if b then ls else l ∷ without_log trx ls) ≡ []
    by_test true both rest = both.1
    by_test false both rest = ap₂ (λ (a b : List Change). a ++ b) both.0 (rest both.1)

among_rest : (d trx : ℕ) (us : List (Address × Record)) → changes_among d trx us ≡ [] → changes_among d trx (all_but_first us) ≡ []
among_rest d trx [] none = refl
among_rest d trx (u ∷ us) none = by_test (u.1.doc == d) none
  where
    by_test : (b : Bool) → (if b then record { place = u.0; trx = trx; undo = u.1 } ∷ changes_among d trx us else changes_among d trx us) ≡ [] → changes_among d trx us ≡ []
    by_test true h = absurd (cc h)
    by_test false h = h

shrunk_none : (d : ℕ) (l : Log) (us : List (Address × Record)) (ls : List Log) → changes_among d l.trx us ≡ [] → active_changes d ls ≡ [] → active_changes d (shrunk l us ls) ≡ []
shrunk_none d l [] ls none rest = rest
shrunk_none d l (u ∷ us) ls none rest = ap₂ (λ (a b : List Change). a ++ b) none rest

popped_none : (trx d : ℕ) (ls : List Log) → active_changes d ls ≡ [] → active_changes d (without_record trx ls) ≡ []
popped_none trx d [] none = refl
popped_none trx d (l ∷ ls) none = by_test (l.trx == trx) (nil_parts (log_changes d l) (active_changes d ls) none) (popped_none trx d ls)
  where
    by_test : (b : Bool) → (log_changes d l ≡ []) × (active_changes d ls ≡ []) → (active_changes d ls ≡ [] → active_changes d (without_record trx ls) ≡ [])
        → active_changes d (if b then shrunk l (all_but_first l.records) ls else l ∷ without_record trx ls) ≡ []
    by_test true both rest = shrunk_none d l (all_but_first l.records) ls (among_rest d l.trx l.records both.0) both.1
    by_test false both rest = ap₂ (λ (a b : List Change). a ++ b) both.0 (rest both.1)

-- a locked document stays so where a log is taken out
pub locked_without : (trx d : ℕ) (ls : List Log) → IsLocked d ls → IsLocked d (without_log trx ls)
locked_without trx d [] locked = tt
locked_without trx d (l ∷ ls) locked = by_test (l.trx == trx) locked (locked_without trx d ls)
  where
    by_test : (b : Bool) → ((log_changes d l ≡ []) × IsLocked d ls) ⊎ (active_changes d ls ≡ []) → (IsLocked d ls → IsLocked d (without_log trx ls)) → IsLocked d (if b then ls else l ∷ without_log trx ls)
    by_test true (inl h) rest = h.1
    by_test true (inr h) rest = none_locked d ls h
    by_test false (inl h) rest = inl (h.0, rest h.1)
    by_test false (inr h) rest = inr (without_none trx d ls h)

shrunk_locked : (d : ℕ) (l : Log) (us : List (Address × Record)) (ls : List Log) → ((changes_among d l.trx us ≡ []) × IsLocked d ls) ⊎ (active_changes d ls ≡ []) → IsLocked d (shrunk l us ls)
shrunk_locked d l [] ls (inl h) = h.1
shrunk_locked d l [] ls (inr h) = none_locked d ls h
shrunk_locked d l (u ∷ us) ls (inl h) = inl h
shrunk_locked d l (u ∷ us) ls (inr h) = inr h

-- a locked document stays so where a log loses its newest record
pub locked_popped : (trx d : ℕ) (ls : List Log) → IsLocked d ls → IsLocked d (without_record trx ls)
locked_popped trx d [] locked = tt
locked_popped trx d (l ∷ ls) locked = by_test (l.trx == trx) locked (locked_popped trx d ls)
  where
    by_test : (b : Bool) → ((log_changes d l ≡ []) × IsLocked d ls) ⊎ (active_changes d ls ≡ []) → (IsLocked d ls → IsLocked d (without_record trx ls))
        → IsLocked d (if b then shrunk l (all_but_first l.records) ls else l ∷ without_record trx ls)
    by_test true (inl h) rest = shrunk_locked d l (all_but_first l.records) ls (inl (among_rest d l.trx l.records h.0, h.1))
    by_test true (inr h) rest = shrunk_locked d l (all_but_first l.records) ls (inr h)
    by_test false (inl h) rest = inl (h.0, rest h.1)
    by_test false (inr h) rest = inr (popped_none trx d ls h)
