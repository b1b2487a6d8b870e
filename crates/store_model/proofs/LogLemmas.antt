-- The changes of a document, where a log gets a record, loses one, is committed or is passed by purge.
use Rattle.std.proofs.Common.{◌≡◌, ◌≢◌, ◌⊎◌, inl, inr, ℕ, Bool, true, false, ◌==◌, if◌then◌else◌, List, [], ◌∷◌, ◌++◌, Some, None, is_some, unwrap_or, refl, sym, ap, ap₂, ◌∙◌}
use Rattle.std.proofs.lemmas.Bool.{ne_eqb, eq-eqb}
use Rattle.std.proofs.lemmas.Bool.Decides.{eqb_tells}
use Rattle.std.proofs.lemmas.List.{append_assoc, append-nil}
use Rattle.page_model.specs.Pages.{Address}
use Rattle.store_data.specs.Logs.{with_record, passed}
use Rattle.store_data.specs.Pieces.{all_but_last}
use Rattle.store_data.specs.Store.{Record, Log}
use Rattle.store_model.specs.History.{Change, changes_among, log_changes, active_changes, committed_changes}
use Rattle.store_model.specs.Steps.{last_in, all_but_first, on_log, without_log, log_of, shrunk, without_record}
use Rattle.store_model.specs.Locked.{OthersIdle, IsLocked, first_in, newest_in}

-- the change that a transaction's record at a place is
abbrev pub change : ℕ → Address → Record → Change
change trx place u = record { place = place; trx = trx; undo = u }

-- ---- one log

-- a record of the document is the first of its changes among these records
pub among_this : (d trx : ℕ) (place : Address) (u : Record) (us : List (Address × Record)) → u.doc ≡ d → changes_among d trx ((place, u) ∷ us) ≡ change trx place u ∷ changes_among d trx us
among_this d trx place u us this = rw (eq-eqb u.doc d this) refl

-- a record of another document is none of its changes
pub among_other : (d trx : ℕ) (u : Address × Record) (us : List (Address × Record)) → u.1.doc ≢ d → changes_among d trx (u ∷ us) ≡ changes_among d trx us
among_other d trx u us other = rw (ne_eqb u.1.doc d other) refl

pub among-append : (d trx : ℕ) (us vs : List (Address × Record)) → changes_among d trx (us ++ vs) ≡ changes_among d trx us ++ changes_among d trx vs
among-append d trx [] vs = refl
among-append d trx (u ∷ us) vs = by_test (u.1.doc == d) (among-append d trx us vs)
  where
    by_test : (b : Bool) → changes_among d trx (us ++ vs) ≡ changes_among d trx us ++ changes_among d trx vs
        → (if b then change trx u.0 u.1 ∷ changes_among d trx (us ++ vs) else changes_among d trx (us ++ vs))
        ≡ (if b then change trx u.0 u.1 ∷ changes_among d trx us else changes_among d trx us) ++ changes_among d trx vs
    by_test true rest = ap (λ cs. change trx u.0 u.1 ∷ cs) rest
    by_test false rest = rest

-- ---- a record is appended

-- a record appended is the document's newest change, where no other transaction's log has one
pub active-with : (trx d : ℕ) (place : Address) (u : Record) (logs : List Log) → is_some (log_of logs trx) ≡ true → OthersIdle trx d logs → u.doc ≡ d
    → active_changes d (on_log trx (with_record place u) logs) ≡ change trx place u ∷ active_changes d logs
active-with trx d place u [] there idle this = absurd (cc there)
active-with trx d place u (l ∷ ls) there idle this = elim (eqb_tells l.trx trx) [
  | inl here ↦ rw here.0 (ap (λ cs. cs ++ active_changes d ls) (among_this d l.trx place u l.records this ∙ ap (λ t. change t place u ∷ log_changes d l) here.1))
  | inr other ↦ rw (other.0, idle.0 other.1) (active-with trx d place u ls (by_test (l.trx == trx) other.0 there) idle.1 this)
]
  where
    by_test : (b : Bool) → b ≡ false → is_some (if b then Some l else log_of ls trx) ≡ true → is_some (log_of ls trx) ≡ true
    by_test true e h = absurd (cc e)
    by_test false e h = h

-- a record of another document leaves the changes of this one
pub active-with_other : (trx d : ℕ) (place : Address) (u : Record) (logs : List Log) → u.doc ≢ d → active_changes d (on_log trx (with_record place u) logs) ≡ active_changes d logs
active-with_other trx d place u [] other = refl
active-with_other trx d place u (l ∷ ls) other = by_test (l.trx == trx) (active-with_other trx d place u ls other)
  where
    by_test : (b : Bool) → active_changes d (on_log trx (with_record place u) ls) ≡ active_changes d ls
        → active_changes d (if b then with_record place u l ∷ ls else l ∷ on_log trx (with_record place u) ls) ≡ log_changes d l ++ active_changes d ls
    by_test true rest = ap (λ cs. cs ++ active_changes d ls) (among_other d l.trx (place, u) l.records other)
    by_test false rest = ap (λ cs. log_changes d l ++ cs) rest

-- ---- the newest record is popped

shrunk_changes : (d : ℕ) (l : Log) (us : List (Address × Record)) (ls : List Log) → active_changes d (shrunk l us ls) ≡ changes_among d l.trx us ++ active_changes d ls
shrunk_changes d l [] ls = refl
shrunk_changes d l (u ∷ us) ls = refl

-- an empty option is never a full one
pub None_not_Some : {A : Type 0} {x : A} → None ≡ Some x → ⊥
None_not_Some e = cc e

-- equal options have equal values in them
pub Some_same : {A : Type 0} (x y : A) → Some x ≡ Some y → x ≡ y
Some_same x y e = ap (λ o. unwrap_or o x) e

-- a transaction's newest record is its document's newest change, in front of those left without it
pub active-popped : (trx d : ℕ) (place : Address) (u : Record) (logs : List Log) → newest_in trx logs ≡ Some (place, u) → OthersIdle trx d logs → u.doc ≡ d
    → active_changes d logs ≡ change trx place u ∷ active_changes d (without_record trx logs)
active-popped trx d place u [] newest idle this = absurd (cc newest)
active-popped trx d place u (l ∷ ls) newest idle this = elim (eqb_tells l.trx trx) [
  | inl here ↦ rw here.0 (by_records l.records refl (rw_back here.0 newest) here.1)
  | inr other ↦ rw (other.0, idle.0 other.1) (active-popped trx d place u ls (rw_other other.0 newest) idle.1 this)
]
  where
    rw_back : (l.trx == trx) ≡ true → newest_in trx (l ∷ ls) ≡ Some (place, u) → first_in l.records ≡ Some (place, u)
    rw_back e h = by_test (l.trx == trx) e h
      where
        by_test : (b : Bool) → b ≡ true → (if b then first_in l.records else newest_in trx ls) ≡ Some (place, u) → first_in l.records ≡ Some (place, u)
        by_test true e h = h
        by_test false e h = absurd (cc e)

    rw_other : (l.trx == trx) ≡ false → newest_in trx (l ∷ ls) ≡ Some (place, u) → newest_in trx ls ≡ Some (place, u)
    rw_other e h = by_test (l.trx == trx) e h
      where
        by_test : (b : Bool) → b ≡ false → (if b then first_in l.records else newest_in trx ls) ≡ Some (place, u) → newest_in trx ls ≡ Some (place, u)
        by_test true e h = absurd (cc e)
        by_test false e h = h

    by_records : (us : List (Address × Record)) → l.records ≡ us → first_in l.records ≡ Some (place, u) → l.trx ≡ trx
        → log_changes d l ++ active_changes d ls ≡ change trx place u ∷ active_changes d (shrunk l (all_but_first l.records) ls)
    by_records [] e h t = absurd (None_not_Some (sym (ap first_in e) ∙ h))
    by_records (v ∷ us) e h t =
        ap (λ us. changes_among d l.trx us ++ active_changes d ls) (e ∙ ap (λ w. w ∷ us) (Some_same v (place, u) (sym (ap first_in e) ∙ h)))
        ∙ ap (λ cs. cs ++ active_changes d ls) (among_this d l.trx place u us this ∙ ap (λ t. change t place u ∷ changes_among d l.trx us) t)
        ∙ ap (λ cs. change trx place u ∷ cs) (sym (shrunk_changes d l us ls) ∙ ap (λ us. active_changes d (shrunk l (all_but_first us) ls)) (sym e))

-- another document keeps its changes where that record goes
pub active-popped_other : (trx d : ℕ) (place : Address) (u : Record) (logs : List Log) → newest_in trx logs ≡ Some (place, u) → u.doc ≢ d
    → active_changes d (without_record trx logs) ≡ active_changes d logs
active-popped_other trx d place u [] newest other = refl
active-popped_other trx d place u (l ∷ ls) newest other = by_test (l.trx == trx) newest (λ h. active-popped_other trx d place u ls h other)
  where
    by_records : (us : List (Address × Record)) → l.records ≡ us → first_in us ≡ Some (place, u) → active_changes d (shrunk l (all_but_first us) ls) ≡ log_changes d l ++ active_changes d ls
    by_records [] e h = absurd (None_not_Some h)
    by_records (v ∷ us) e h = shrunk_changes d l us ls
        ∙ ap (λ cs. cs ++ active_changes d ls) (sym (among_other d l.trx v us (λ q. other (sym (ap (λ w. w.1.doc) (Some_same v (place, u) h)) ∙ q))) ∙ ap (changes_among d l.trx) (sym e))

    by_test : (b : Bool) → (if b then first_in l.records else newest_in trx ls) ≡ Some (place, u) → (newest_in trx ls ≡ Some (place, u) → active_changes d (without_record trx ls) ≡ active_changes d ls)
        → active_changes d (if b then shrunk l (all_but_first l.records) ls else l ∷ without_record trx ls) ≡ log_changes d l ++ active_changes d ls
    by_test true h rest = by_records l.records refl h
    by_test false h rest = ap (λ cs. log_changes d l ++ cs) (rest h)

-- ---- a transaction is committed

-- of committed logs the last one's changes are the newest
pub committed-with : (d : ℕ) (ls : List Log) (l : Log) → committed_changes d (ls ++ l ∷ []) ≡ log_changes d l ++ committed_changes d ls
committed-with d [] l = sym (append-nil (log_changes d l))
committed-with d (x ∷ xs) l = ap (λ cs. cs ++ log_changes d x) (committed-with d xs l) ∙ append_assoc (log_changes d l) (committed_changes d xs) (log_changes d x)

-- where a joined list is empty, both its parts are
pub nil_parts : {A : Type 0} (xs ys : List A) → xs ++ ys ≡ [] → (xs ≡ []) × (ys ≡ [])
nil_parts [] ys e = (refl, e)
nil_parts (x ∷ xs) ys e = absurd (cc e)

-- no log has changes
none_in : (trx d : ℕ) (logs : List Log) (l : Log) → active_changes d logs ≡ [] → log_of logs trx ≡ Some l → (log_changes d l ≡ []) × (active_changes d (without_log trx logs) ≡ [])
none_in trx d [] l none there = absurd (None_not_Some there)
none_in trx d (x ∷ xs) l none there = by_test (x.trx == trx) there (nil_parts (log_changes d x) (active_changes d xs) none) (none_in trx d xs l)
  where
    by_test : (b : Bool) → (if b then Some x else log_of xs trx) ≡ Some l → ((log_changes d x ≡ []) × (active_changes d xs ≡ []))
        → (active_changes d xs ≡ [] → log_of xs trx ≡ Some l → (log_changes d l ≡ []) × (active_changes d (without_log trx xs) ≡ []))
        → (log_changes d l ≡ []) × (active_changes d (if b then xs else x ∷ without_log trx xs) ≡ [])
    by_test true h both rest = (ap (log_changes d) (sym (Some_same x l h)) ∙ both.0, both.1)
    by_test false h both rest = let r = rest both.1 h in (r.0, ap₂ (λ (a b : List Change). a ++ b) both.0 r.1)

-- the log of a transaction may stand behind all others
pub active-moved : (trx d : ℕ) (logs : List Log) (l : Log) → IsLocked d logs → log_of logs trx ≡ Some l → active_changes d (without_log trx logs) ++ log_changes d l ≡ active_changes d logs
active-moved trx d [] l locked there = absurd (None_not_Some there)
active-moved trx d (x ∷ xs) l locked there = by_test (x.trx == trx) there locked (active-moved trx d xs l)
  where
    swapped : (ms ns : List Change) → (ms ≡ []) ⊎ (ns ≡ []) → ns ++ ms ≡ ms ++ ns
    swapped ms ns (inl none) = ap (λ cs. ns ++ cs) none ∙ append-nil ns ∙ sym (ap (λ cs. cs ++ ns) none)
    swapped ms ns (inr none) = ap (λ cs. cs ++ ms) none ∙ sym (append-nil ms) ∙ sym (ap (λ cs. ms ++ cs) none)

    which : ((log_changes d x ≡ []) × IsLocked d xs) ⊎ (active_changes d xs ≡ []) → (log_changes d x ≡ []) ⊎ (active_changes d xs ≡ [])
    which (inl h) = inl h.0
    which (inr h) = inr h

    behind : ((log_changes d x ≡ []) × IsLocked d xs) ⊎ (active_changes d xs ≡ []) → log_of xs trx ≡ Some l
        → (IsLocked d xs → log_of xs trx ≡ Some l → active_changes d (without_log trx xs) ++ log_changes d l ≡ active_changes d xs)
        → (log_changes d x ++ active_changes d (without_log trx xs)) ++ log_changes d l ≡ log_changes d x ++ active_changes d xs
    behind (inl h) there rest = append_assoc (log_changes d x) (active_changes d (without_log trx xs)) (log_changes d l) ∙ ap (λ cs. log_changes d x ++ cs) (rest h.1 there)
    behind (inr h) there rest = let r = none_in trx d xs l h there in
        append_assoc (log_changes d x) (active_changes d (without_log trx xs)) (log_changes d l)
        ∙ ap (λ cs. log_changes d x ++ cs) (ap₂ (λ (a b : List Change). a ++ b) r.1 r.0 ∙ sym h)

    by_test : (b : Bool) → (if b then Some x else log_of xs trx) ≡ Some l → ((log_changes d x ≡ []) × IsLocked d xs) ⊎ (active_changes d xs ≡ [])
        → (IsLocked d xs → log_of xs trx ≡ Some l → active_changes d (without_log trx xs) ++ log_changes d l ≡ active_changes d xs)
        → active_changes d (if b then xs else x ∷ without_log trx xs) ++ log_changes d l ≡ log_changes d x ++ active_changes d xs
    by_test true h locked rest = ap (λ m. active_changes d xs ++ log_changes d m) (sym (Some_same x l h)) ∙ swapped (log_changes d x) (active_changes d xs) (which locked)
    by_test false h locked rest = behind locked h rest

-- ---- purge passes a record

-- all but the last of a list, and the last, are the list
pub but_last : {A : Type 0} (xs : List A) → all_but_last xs ++ last_in xs ≡ xs
but_last [] = refl
but_last (x ∷ []) = refl
but_last (x ∷ y ∷ ys) = ap (λ zs. x ∷ zs) (but_last (y ∷ ys))

-- committed changes are those without the first log's oldest record, and behind them its own
pub committed-passed : (d : ℕ) (l : Log) (ls : List Log) → committed_changes d (l ∷ ls) ≡ committed_changes d (passed l ∷ ls) ++ changes_among d l.trx (last_in l.records)
committed-passed d l ls =
    ap (λ cs. committed_changes d ls ++ cs) (ap (changes_among d l.trx) (sym (but_last l.records)) ∙ among-append d l.trx (all_but_last l.records) (last_in l.records))
    ∙ sym (append_assoc (committed_changes d ls) (changes_among d l.trx (all_but_last l.records)) (changes_among d l.trx (last_in l.records)))
