-- The place of a new record, at which no other record of a store stands.
use Rattle.std.proofs.Common.{◌≡◌, ◌≢◌, ℕ, ◌≤◌, ◌==◌, cond, Bool, true, false, if◌then◌else◌, List, [], ◌∷◌, ◌++◌, Option, Some, None, sym, ap, ◌∙◌, arith}
use Rattle.page_model.specs.Pages.{Pages, Address}
use Rattle.page_model.specs.Counts.{times}
use Rattle.page_model.proofs.CountLemmas.{times_here, times-append}
use Rattle.store_data.specs.Store.{LogState, active, committed, purging, Record, Log, Store}
use Rattle.undo_model.specs.Data.{Entry, Part, Log as LogThere}
use Rattle.undo_model.specs.Logs.{AreParts, IsFilled, IsLog, records_in, records_of, end_field, first_start, other_start}
use Rattle.undo_model.specs.LogLists.{AreLogs, pages_in, all_pages}
use Rattle.undo_model.specs.LogSteps.{same_address}
use Rattle.undo_logs.proofs.PlaceOfLemmas.{AllOff, same_here}
use Rattle.store_model.specs.History.{Change, changes_among, log_changes, active_changes, committed_changes, changes}
use Rattle.store_model.specs.Well.{IsNew}
use Rattle.store_parts.specs.Shows.{log_of, logs_of, entries_of, down_to, due, due_in}

-- ---- records at other places

abbrev pub AllElse : Address → List (Address × Record) → Type 0
AllElse a [] = Unit {0}
AllElse a (u ∷ us) = (u.0 ≢ a) × AllElse a us

else_join : (a : Address) (us vs : List Entry) → AllElse a (entries_of us)
    → AllElse a (entries_of vs) → AllElse a (entries_of (us ++ vs))
else_join a [] vs one two = two
else_join a (u ∷ us) vs one two = (one.0, else_join a us vs one.1 two)

-- what is due of them
else_down : (a b : Address) (es : List Entry) → AllElse a (entries_of es)
    → AllElse a (entries_of (down_to b es))
else_down a b [] all = tt
else_down a b (e ∷ es) all = by (else_down a b es all.1) (same_address e.at b)
  where
    by : AllElse a (entries_of (down_to b es)) → (t : Bool)
        → AllElse a (entries_of (cond t (e ∷ []) (e ∷ down_to b es)))
    by rest true = (all.0, tt)
    by rest false = (all.0, rest)

else_due : (a : Address) (next : Option Address) (es : List Entry) → AllElse a (entries_of es)
    → AllElse a (entries_of (due next es))
else_due a None es all = tt
else_due a (Some b) es all = else_down a b es all

else_left : (a : Address) (s : LogState) (next : Option Address) (es : List Entry)
    → AllElse a (entries_of es) → AllElse a (entries_of (due_in s next es))
else_left a active next es all = all
else_left a committed next es all = else_due a next es all
else_left a purging next es all = else_due a next es all

-- ---- records on other pages

filled_else : (a : Address) (page start end : ℕ) (es : List Entry) → IsFilled page start end es
    → page ≢ a.page → AllElse a (entries_of es)
filled_else a page start end [] filled other = tt
filled_else a page start end (e ∷ es) filled other = (
  (λ same. other (sym filled.0 ∙ ap (λ (b : Address). b.page) same)),
  filled_else a page start e.at.at es filled.2 other,
)

apart : (n m : ℕ) (ns : List ℕ) → times n (m ∷ ns) ≡ 0 → m ≢ n
apart n m ns none same =
    absurd (no (let h = times_here n ns in
    let e : times n (m ∷ ns) ≡ times n (n ∷ ns) = ap (λ (k : ℕ). times n (k ∷ ns)) same in
    omega (arith, none, h, e)))
  where
    no : 1 ≤ 0 → ⊥
    no h = absurd (omega arith)

parts_else : (pages : Pages) (first : ℕ) (a : Address) (parts : List Part)
    → AreParts pages first parts → times a.page (pages_in parts) ≡ 0
    → AllElse a (entries_of (records_in parts))
parts_else pages first a [] are none = tt
parts_else pages first a (p ∷ []) are none =
    let part = are.1 in
    else_join a p.records [] (filled_else a p.page first_start (end_field pages p.page) p.records
    part.filled (apart a.page p.page [] none)) tt
parts_else pages first a (p ∷ q ∷ older) are none =
    let part = are.0.part in
    else_join a p.records (records_in (q ∷ older))
    (filled_else a p.page other_start (end_field pages p.page) p.records part.filled
    (apart a.page p.page (pages_in (q ∷ older)) none))
    (parts_else pages first a (q ∷ older) are.1 (omega (arith, none)))

log_else : (pages : Pages) (a : Address) (l : LogThere) → IsLog pages l
    → times a.page (pages_in l.parts) ≡ 0 → AllElse a (log_of l).records
log_else pages a l log none =
    else_left a l.state l.next (records_of l) (parts_else pages l.page a l.parts log.parts none)

-- ---- records of its own log

off_else : (a : Address) (es : List Entry) → AllOff a es → AllElse a (entries_of es)
off_else a [] off = tt
off_else a (e ∷ es) off = (
  (λ same. not_both (sym (ap (λ (b : Address). same_address b a) same ∙ same_here a) ∙ off.0)),
  off_else a es off.1,
)
  where
    not_both : true ≡ false → ⊥
    not_both e = cc e

-- ---- changes

new_join : (a : Address) (cs ds : List Change) → IsNew a cs → IsNew a ds → IsNew a (cs ++ ds)
new_join a [] ds one two = two
new_join a (c ∷ cs) ds one two = (one.0, new_join a cs ds one.1 two)

new_among : (a : Address) (d trx : ℕ) (us : List (Address × Record)) → AllElse a us
    → IsNew a (changes_among d trx us)
new_among a d trx [] all = tt
new_among a d trx (u ∷ us) all = by (u.1.doc == d) (new_among a d trx us all.1)
  where
    by : (t : Bool) → IsNew a (changes_among d trx us)
        → IsNew a (if t then record { place = u.0; trx = trx; undo = u.1 } ∷ changes_among d trx us
        else changes_among d trx us)
    by true rest = (all.0, rest)
    by false rest = rest

-- all records of logs
abbrev pub AllLogsElse : Address → List Log → Type 0
AllLogsElse a [] = Unit {0}
AllLogsElse a (l ∷ ls) = AllElse a l.records × AllLogsElse a ls

new_active : (a : Address) (d : ℕ) (ls : List Log) → AllLogsElse a ls
    → IsNew a (active_changes d ls)
new_active a d [] all = tt
new_active a d (l ∷ ls) all =
    new_join a (log_changes d l) (active_changes d ls) (new_among a d l.trx l.records all.0)
    (new_active a d ls all.1)

new_committed : (a : Address) (d : ℕ) (ls : List Log) → AllLogsElse a ls
    → IsNew a (committed_changes d ls)
new_committed a d [] all = tt
new_committed a d (l ∷ ls) all =
    new_join a (committed_changes d ls) (log_changes d l) (new_committed a d ls all.1)
    (new_among a d l.trx l.records all.0)

pub new_changes : (a : Address) (store : Store) (d : ℕ) → AllLogsElse a store.active
    → AllLogsElse a store.committed → IsNew a (changes store d)
new_changes a store d one two =
    new_join a (active_changes d store.active) (committed_changes d store.committed)
    (new_active a d store.active one) (new_committed a d store.committed two)

-- ---- logs

pub logs_else : (pages : Pages) (a : Address) (ls : List LogThere) → AreLogs pages ls
    → times a.page (all_pages ls) ≡ 0 → AllLogsElse a (logs_of ls)
logs_else pages a [] are none = tt
logs_else pages a (l ∷ ls) are none =
    let t = times-append a.page (pages_in l.parts) (all_pages ls) in (
      log_else pages a l are.0 (omega (arith, none, t)),
      logs_else pages a ls are.1 (omega (arith, none, t)),
    )

-- all logs but one are of other pages, and of this one no record stands there
pub cut_else : (pages : Pages) (a : Address) (vs : List LogThere) (l : LogThere)
    (bs : List LogThere) → AreLogs pages (vs ++ l ∷ bs) → AllElse a (log_of l).records
    → times a.page (all_pages vs) ≡ 0 → times a.page (all_pages bs) ≡ 0
    → AllLogsElse a (logs_of (vs ++ l ∷ bs))
cut_else pages a [] l bs are own before behind = (own, logs_else pages a bs are.1 behind)
cut_else pages a (v ∷ vs) l bs are own before behind =
    let t = times-append a.page (pages_in v.parts) (all_pages vs) in (
      log_else pages a v are.0 (omega (arith, before, t)),
      cut_else pages a vs l bs are.1 own (omega (arith, before, t)) behind,
    )

-- of an active log
pub own_else : (a : Address) (l : LogThere) → l.state ≡ active → AllOff a (records_of l)
    → AllElse a (log_of l).records
own_else a l is off = else_left a l.state l.next (records_of l) (off_else a (records_of l) off)
