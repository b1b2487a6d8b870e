-- Whether purge has passed the record that a row names: what the pages tell is what the store says.
use Rattle.std.proofs.Common.{◌≡◌, ◌≢◌, ◌⊎◌, inl, inr, ℕ, suc, ◌<◌, ◌≤◌, ◌==◌, ◌&&◌, ◌||◌, not, Bool, true, false, cond, if◌then◌else◌, List, [], ◌∷◌, ◌++◌, length, Option, Some, None, is_none, refl, sym, ap, ap₂, ◌∙◌, subst, arith}
use Rattle.std.proofs.lemmas.Bool.{eq-eqb, eqb-true, ne_eqb, lt-ltb, le-ltb}
use Rattle.page_model.specs.Pages.{Pages, Address}
use Rattle.page_model.specs.Counts.{times}
use Rattle.page_model.proofs.CountLemmas.{times-append}
use Rattle.store_data.specs.Store.{LogState, active, committed, purging, Row, Log, Store}
use Rattle.undo_model.specs.Data.{led, Entry, Part, Log as LogThere}
use Rattle.undo_model.specs.Logs.{records_in, records_of, IsFilled, AreParts, AreNumbered, HasPlace, IsDueIn, end_field, first_start, other_start, IsLog}
use Rattle.undo_model.specs.LogSteps.{same_address, number_at, is_greater, is_past, is_committed, has_page, log_with, is_purged_in, is_purged}
use Rattle.undo_model.specs.LogLists.{pages_in, all_pages, AreLogs, AreCommitted, AreWaiting}
use Rattle.undo_model.proofs.OptionLemmas.{some_some, not_some}
use Rattle.store_model.specs.Steps.{log_of as log_in}
use Rattle.store_model.specs.Undo.{record_at, record_in, counts_as_purged}
use Rattle.store_model.specs.Well.{NoLog, AreDistinct}
use Rattle.store_parts.specs.Shows.{log_of, logs_of, entries_of, record_of, down_to, due, due_in, IsStore}
use Rattle.store_parts.proofs.CountLemmas.{mark_small, page_counts, times-joined}
use Rattle.store_parts.proofs.FrameLemmas.{times-parts}
use Rattle.store_pages.specs.Logs.{NamesRecord}
use Rattle.store_pages.proofs.AllLogsLemmas.{all_stand}
use Rattle.store_pages.proofs.LogStoreLemmas.{FoundLog, found_log}

-- ---- by numbers as by what is due

-- the records behind one have lower numbers
number_low : (a : Address) (rs : List Entry) (k : ℕ) → AreNumbered rs → number_at a rs ≡ Some k → k < length rs
number_low a [] k are is = absurd (not_some k is)
number_low a (e ∷ older) k are is = by (same_address e.at a) is (λ rest. number_low a older k are.1 rest)
  where
    by : (b : Bool) → cond b (Some e.undo.number) (number_at a older) ≡ Some k → (number_at a older ≡ Some k → k < length older) → k < suc (length older)
    by true same deeper = let n = are.0 in let m = some_some e.undo.number k same in omega (arith, n, m)
    by false other deeper = let d = deeper other in omega (arith, d)

-- a place that a record has has a number
has_number : (b : Address) (rs : List Entry) → HasPlace b rs → (k : ℕ) × (number_at b rs ≡ Some k)
has_number b rs has = subst (λ (xs : List Entry). (k : ℕ) × (number_at b xs ≡ Some k)) (sym has.is) (go has.newer)
  where
    go : (newer : List Entry) → (k : ℕ) × (number_at b (newer ++ has.entry ∷ has.older) ≡ Some k)
    go [] = (has.entry.undo.number, ap (λ (t : Bool). cond t (Some has.entry.undo.number) (number_at b has.older)) (same_is has.entry.at b has.here))
      where
        same_is : (x y : Address) → x ≡ y → same_address x y ≡ true
        same_is x y is = subst (λ (z : Address). same_address x z ≡ true) is (ap₂ (λ (p q : Bool). p && q) (eq-eqb x.page x.page refl) (eq-eqb x.at x.at refl))
    go (n ∷ newer) = by (same_address n.at b) (go newer)
      where
        by : (t : Bool) → (k : ℕ) × (number_at b (newer ++ has.entry ∷ has.older) ≡ Some k) → (k : ℕ) × (cond t (Some n.undo.number) (number_at b (newer ++ has.entry ∷ has.older)) ≡ Some k)
        by true rest = (n.undo.number, refl)
        by false rest = rest

-- where a record has the place, and another than the first, one behind it has
behind_place : (b : Address) (e : Entry) (older : List Entry) → HasPlace b (e ∷ older) → same_address e.at b ≡ false → (k : ℕ) × (number_at b older ≡ Some k)
behind_place b e older has other =
    let n = has_number b (e ∷ older) has in
    (n.0, sym (ap (λ (t : Bool). cond t (Some e.undo.number) (number_at b older)) other) ∙ n.1)

-- the record at a place is due exactly where its number isn't below that of the one to purge next
due_by_number : (b a : Address) (rs : List Entry) (m : ℕ) → AreNumbered rs → number_at b rs ≡ Some m
    → is_greater (Some m) (number_at a rs) ≡ is_none (record_at (entries_of (down_to b rs)) a)
due_by_number b a [] m are is = absurd (not_some m is)
due_by_number b a (e ∷ older) m are is = by_b (same_address e.at b) is (λ rest. due_by_number b a older m are.1 rest) (λ rest. number_low b older m are.1 rest) (λ k rest. number_low a older k are.1 rest)
  where
    count : e.undo.number ≡ length older
    count = are.0

    by_b : (t : Bool) → cond t (Some e.undo.number) (number_at b older) ≡ Some m
        → (number_at b older ≡ Some m → is_greater (Some m) (number_at a older) ≡ is_none (record_at (entries_of (down_to b older)) a))
        → (number_at b older ≡ Some m → m < length older) → ((k : ℕ) → number_at a older ≡ Some k → k < length older)
        → is_greater (Some m) (cond (same_address e.at a) (Some e.undo.number) (number_at a older)) ≡ is_none (record_at (entries_of (cond t (e ∷ []) (e ∷ down_to b older))) a)
    by_b true is_b deeper low low_a = by_a (same_address e.at a) (some_some e.undo.number m is_b)
      where
        by_a : (s : Bool) → e.undo.number ≡ m → is_greater (Some m) (cond s (Some e.undo.number) (number_at a older)) ≡ is_none (if s then Some (record_of e.undo) else None)
        by_a true em = le-ltb e.undo.number m (omega (arith, em))
        by_a false em = past (number_at a older) refl
          where
            past : (o : Option ℕ) → number_at a older ≡ o → is_greater (Some m) o ≡ true
            past None eo = refl
            past (Some k) eo = lt-ltb k m (let l = low_a k eo in omega (arith, l, em, count))
    by_b false is_b deeper low low_a = by_a (same_address e.at a) (deeper is_b)
      where
        by_a : (s : Bool) → is_greater (Some m) (number_at a older) ≡ is_none (record_at (entries_of (down_to b older)) a)
            → is_greater (Some m) (cond s (Some e.undo.number) (number_at a older)) ≡ is_none (if s then Some (record_of e.undo) else record_at (entries_of (down_to b older)) a)
        by_a true rest = le-ltb e.undo.number m (let l = low is_b in omega (arith, l, count))
        by_a false rest = rest

-- ---- a place on no page of a log

filled_off : (a : Address) (page start end : ℕ) (rs zs : List Entry) → IsFilled page start end rs → page ≢ a.page → number_at a (rs ++ zs) ≡ number_at a zs
filled_off a page start end [] zs filled far = refl
filled_off a page start end (e ∷ older) zs filled far =
    ap (λ (t : Bool). cond t (Some e.undo.number) (number_at a (older ++ zs))) (ap (λ (t : Bool). t && (e.at.at == a.at)) (ne_eqb e.at.page a.page (λ same. far (sym filled.0 ∙ same))))
    ∙ filled_off a page start e.at.at older zs filled.2 far

off_page : (pages : Pages) (first : ℕ) (a : Address) (parts : List Part) → AreParts pages first parts → has_page a.page parts ≡ false → number_at a (records_in parts) ≡ None
off_page pages first a [] are none = absurd are
off_page pages first a (p ∷ []) are none =
    let q = are.1 in
    filled_off a p.page first_start (end_field pages p.page) p.records [] q.filled (λ same. absurd (let e : true ≡ false = sym (ap (λ (t : Bool). t || false) (eq-eqb p.page a.page same)) ∙ none in cc))
off_page pages first a (p ∷ q ∷ older) are none =
    let r = are.0 in
    let part = r.part in
    let far : p.page ≢ a.page = λ same. absurd (let e : true ≡ false = sym (ap (λ (t : Bool). t || has_page a.page (q ∷ older)) (eq-eqb p.page a.page same)) ∙ none in cc) in
    filled_off a p.page other_start (end_field pages p.page) p.records (records_in (q ∷ older)) part.filled far
    ∙ off_page pages first a (q ∷ older) are.1 (sym (ap (λ (t : Bool). t || has_page a.page (q ∷ older)) (ne_eqb p.page a.page far)) ∙ none)

none_by_number : (a : Address) (rs : List Entry) → is_none (record_at (entries_of rs) a) ≡ is_none (number_at a rs)
none_by_number a [] = refl
none_by_number a (e ∷ older) = by (same_address e.at a) (none_by_number a older)
  where
    by : (t : Bool) → is_none (record_at (entries_of older) a) ≡ is_none (number_at a older)
        → is_none (if t then Some (record_of e.undo) else record_at (entries_of older) a) ≡ is_none (cond t (Some e.undo.number) (number_at a older))
    by true rest = refl
    by false rest = rest

-- ---- one log: what is left of it, and whether purge has passed a place

abbrev left : LogThere → List Entry
left l = due_in l.state l.next (records_of l)

-- of a log that has committed
passed_left : (a : Address) (next : Option Address) (rs : List Entry) → AreNumbered rs → IsDueIn next rs → is_past next a rs ≡ is_none (record_at (entries_of (due next rs)) a)
passed_left a None rs are has = refl
passed_left a (Some b) rs are has =
    let n = has_number b rs has in
    ap (λ (o : Option ℕ). is_greater o (number_at a rs)) n.1 ∙ due_by_number b a rs n.0 are n.1

-- a place on no page of it has nothing left
nothing_left : (pages : Pages) (l : LogThere) (a : Address) → IsLog pages l → has_page a.page l.parts ≡ false → true ≡ is_none (record_at (entries_of (left l)) a)
nothing_left pages l a log none = by l.state
  where
    off : number_at a (records_of l) ≡ None
    off = off_page pages l.page a l.parts log.parts none

    past : is_past l.next a (records_of l) ≡ true
    past = go l.next
      where
        go : (o : Option Address) → is_past o a (records_of l) ≡ true
        go None = refl
        go (Some b) = ap (is_greater (number_at b (records_of l))) off ∙ always (number_at b (records_of l))
          where
            always : (o : Option ℕ) → is_greater o None ≡ true
            always None = refl
            always (Some m) = refl

    by : (s : LogState) → true ≡ is_none (record_at (entries_of (due_in s l.next (records_of l))) a)
    by active = sym (none_by_number a (records_of l) ∙ ap is_none off)
    by committed = sym past ∙ passed_left a l.next (records_of l) log.numbered log.due
    by purging = sym past ∙ passed_left a l.next (records_of l) log.numbered log.due

-- ---- among all logs

found_trx : (ls : List Log) (trx : ℕ) (x : Log) → log_in ls trx ≡ Some x → x.trx ≡ trx
found_trx [] trx x is = absurd (not_some x is)
found_trx (l ∷ ls) trx x is = by (l.trx == trx) refl is (λ rest. found_trx ls trx x rest)
  where
    by : (t : Bool) → (l.trx == trx) ≡ t → (if t then Some l else log_in ls trx) ≡ Some x → (log_in ls trx ≡ Some x → x.trx ≡ trx) → x.trx ≡ trx
    by true same here deeper = ap (λ (y : Log). y.trx) (sym (some_some l x here)) ∙ eqb-true l.trx trx same
    by false other later deeper = deeper later

-- a log that a page leads to is none of the transaction, where no log is
none_trx : (n trx : ℕ) (ls : List LogThere) (m : LogThere) → log_in (logs_of ls) trx ≡ None → log_with n ls ≡ Some m → m.trx ≢ trx
none_trx n trx [] m none is = absurd (not_some m is)
none_trx n trx (l ∷ ls) m none is = by (l.trx == trx) (has_page n l.parts) refl none is (λ rest later. none_trx n trx ls m rest later)
  where
    by : (t h : Bool) → (l.trx == trx) ≡ t → (if t then Some (log_of l) else log_in (logs_of ls) trx) ≡ None → cond h (Some l) (log_with n ls) ≡ Some m
        → (log_in (logs_of ls) trx ≡ None → log_with n ls ≡ Some m → m.trx ≢ trx) → m.trx ≢ trx
    by true h same here with deeper = absurd (not_some (log_of l) (sym here))
    by false true other rest here deeper = λ e. absurd (let t : true ≡ false = sym (eq-eqb l.trx trx (ap (λ (y : LogThere). y.trx) (some_some l m here) ∙ e)) ∙ other in cc)
    by false false other rest later deeper = deeper rest later

no_with : (n trx : ℕ) (ls : List LogThere) (m : LogThere) → NoLog trx (logs_of ls) → log_with n ls ≡ Some m → m.trx ≢ trx
no_with n trx [] m none is = absurd (not_some m is)
no_with n trx (l ∷ ls) m none is = by (has_page n l.parts) is (λ later. no_with n trx ls m none.1 later)
  where
    by : (h : Bool) → cond h (Some l) (log_with n ls) ≡ Some m → (log_with n ls ≡ Some m → m.trx ≢ trx) → m.trx ≢ trx
    by true here deeper = λ e. none.0 (ap (λ (y : LogThere). y.trx) (some_some l m here) ∙ e)
    by false later deeper = deeper later

no_at : (trx : ℕ) (vs : List LogThere) (l : LogThere) (bs : List LogThere) → NoLog trx (logs_of (vs ++ l ∷ bs)) → l.trx ≢ trx
no_at trx [] l bs none = none.0
no_at trx (v ∷ vs) l bs none = no_at trx vs l bs none.1

-- nor of the transaction of a log without the page
distinct_with : (n : ℕ) (vs : List LogThere) (l : LogThere) (bs : List LogThere) (m : LogThere) → AreDistinct (logs_of (vs ++ l ∷ bs)) → log_with n (vs ++ l ∷ bs) ≡ Some m → has_page n l.parts ≡ false → m.trx ≢ l.trx
distinct_with n [] l bs m distinct is none = no_with n l.trx bs m distinct.0 (sym (ap (λ (h : Bool). cond h (Some l) (log_with n bs)) none) ∙ is)
distinct_with n (v ∷ vs) l bs m distinct is none = by (has_page n v.parts) is (λ later. distinct_with n vs l bs m distinct.1 later none)
  where
    by : (h : Bool) → cond h (Some v) (log_with n (vs ++ l ∷ bs)) ≡ Some m → (log_with n (vs ++ l ∷ bs) ≡ Some m → m.trx ≢ l.trx) → m.trx ≢ l.trx
    by true here deeper = λ e. no_at v.trx vs l bs distinct.0 (sym e ∙ ap (λ (y : LogThere). y.trx) (sym (some_some v m here)))
    by false later deeper = deeper later

times-cut : (n : ℕ) (vs : List LogThere) (l : LogThere) (bs : List LogThere) → times n (pages_in l.parts) ≤ times n (all_pages (vs ++ l ∷ bs))
times-cut n vs l bs = let j = times-joined n vs (l ∷ bs) in let a = times-append n (pages_in l.parts) (all_pages bs) in omega (arith, j, a)

-- a log that has the page is the one that it leads to
with_is : (n : ℕ) (vs : List LogThere) (l : LogThere) (bs : List LogThere) → has_page n l.parts ≡ true → times n (all_pages (vs ++ l ∷ bs)) ≤ 1 → log_with n (vs ++ l ∷ bs) ≡ Some l
with_is n [] l bs has once = ap (λ (h : Bool). cond h (Some l) (log_with n bs)) has
with_is n (v ∷ vs) l bs has once = by (has_page n v.parts) refl (λ few. with_is n vs l bs has few)
  where
    by : (h : Bool) → has_page n v.parts ≡ h → (times n (all_pages (vs ++ l ∷ bs)) ≤ 1 → log_with n (vs ++ l ∷ bs) ≡ Some l) → cond h (Some v) (log_with n (vs ++ l ∷ bs)) ≡ Some l
    by true here deeper = absurd (no (
        let c = page_counts n v.parts here in
        let d = page_counts n l.parts has in
        let a = times-append n (pages_in v.parts) (all_pages (vs ++ l ∷ bs)) in
        let t = times-cut n vs l bs in
        omega (arith, c, d, a, t, once)))
      where
        no : 1 ≤ 0 → ⊥
        no x = absurd (omega arith)
    by false none deeper = deeper (let a = times-append n (pages_in v.parts) (all_pages (vs ++ l ∷ bs)) in omega (arith, a, once))

logs_joined : (pages : Pages) (ls ms : List LogThere) → AreLogs pages ls → AreLogs pages ms → AreLogs pages (ls ++ ms)
logs_joined pages [] ms one two = two
logs_joined pages (l ∷ ls) ms one two = (one.0, logs_joined pages ls ms one.1 two)

log_cut : (pages : Pages) (vs : List LogThere) (l : LogThere) (bs : List LogThere) → AreLogs pages (vs ++ l ∷ bs) → IsLog pages l
log_cut pages [] l bs all = all.0
log_cut pages (v ∷ vs) l bs all = log_cut pages vs l bs all.1

shown_joined : (ls ms : List LogThere) → logs_of (ls ++ ms) ≡ logs_of ls ++ logs_of ms
shown_joined [] ms = refl
shown_joined (l ∷ ls) ms = ap (λ (xs : List Log). log_of l ∷ xs) (shown_joined ls ms)

-- a log at work is one of the active ones
in_active : (ls ms : List Log) (trx : ℕ) (x : Log) → log_in (ls ++ ms) trx ≡ Some x → (log_in ls trx ≡ Some x) ⊎ (log_in ms trx ≡ Some x)
in_active [] ms trx x is = inr is
in_active (l ∷ ls) ms trx x is = by (l.trx == trx) is (λ rest. in_active ls ms trx x rest)
  where
    by : (t : Bool) → (if t then Some l else log_in (ls ++ ms) trx) ≡ Some x → (log_in (ls ++ ms) trx ≡ Some x → (log_in ls trx ≡ Some x) ⊎ (log_in ms trx ≡ Some x))
        → ((if t then Some l else log_in ls trx) ≡ Some x) ⊎ (log_in ms trx ≡ Some x)
    by true here deeper = inl here
    by false rest deeper = deeper rest

waiting_state : (n : ℕ) (ls : List LogThere) (trx : ℕ) (x : Log) → AreWaiting n ls → log_in (logs_of ls) trx ≡ Some x → x.state ≢ active
waiting_state n [] trx x are is = absurd (not_some x is)
waiting_state n (l ∷ ls) trx x are is = by (l.trx == trx) is (λ rest. waiting_state (suc n) ls trx x are.2 rest)
  where
    by : (t : Bool) → (if t then Some (log_of l) else log_in (logs_of ls) trx) ≡ Some x → (log_in (logs_of ls) trx ≡ Some x → x.state ≢ active) → x.state ≢ active
    by true here deeper = λ e. absurd (let f : committed ≡ active = sym are.0 ∙ ap (λ (y : Log). y.state) (some_some (log_of l) x here) ∙ e in cc)
    by false rest deeper = deeper rest

committed_state : (n : ℕ) (ls : List LogThere) (trx : ℕ) (x : Log) → AreCommitted n ls → log_in (logs_of ls) trx ≡ Some x → x.state ≢ active
committed_state n [] trx x are is = absurd (not_some x is)
committed_state n (l ∷ ls) trx x are is = by (l.trx == trx) is (λ rest. waiting_state (suc n) ls trx x are.2 rest)
  where
    by : (t : Bool) → (if t then Some (log_of l) else log_in (logs_of ls) trx) ≡ Some x → (log_in (logs_of ls) trx ≡ Some x → x.state ≢ active) → x.state ≢ active
    by true here deeper = λ e. are.0 (ap (λ (y : Log). y.state) (some_some (log_of l) x here) ∙ e)
    by false rest deeper = deeper rest

-- ---- in a store

module _ (pages : Pages) (store : Store) (is : IsStore pages store) (distinct : AreDistinct (store.active ++ store.committed)) (row : Row) (names : NamesRecord store row) where
  abbrev all : List LogThere
  all = is.stored.active ++ is.stored.committed

  shows_all : store.active ++ store.committed ≡ logs_of all
  shows_all = ap₂ (λ (xs ys : List Log). xs ++ ys) is.shows.active is.shows.committed ∙ sym (shown_joined is.stored.active is.stored.committed)

  -- no log is of the transaction
  of_none : (a : Address) → log_in (logs_of all) row.trx ≡ None → is_purged_in (log_with a.page all) a row.trx ≡ true
  of_none a none = by (log_with a.page all) refl
    where
      by : (o : Option LogThere) → log_with a.page all ≡ o → is_purged_in o a row.trx ≡ true
      by None e = refl
      by (Some m) e = ap (λ (t : Bool). not t || (is_committed m.state && is_past m.next a (records_of m))) (ne_eqb m.trx row.trx (none_trx a.page row.trx all m none e))

  -- its log is this one, and the place is on none of its pages
  off_log : (a : Address) (vs : List LogThere) (l : LogThere) (bs : List LogThere) → all ≡ vs ++ l ∷ bs → l.trx ≡ row.trx → has_page a.page l.parts ≡ false → is_purged_in (log_with a.page all) a row.trx ≡ true
  off_log a vs l bs cut same none = by (log_with a.page all) refl
    where
      by : (o : Option LogThere) → log_with a.page all ≡ o → is_purged_in o a row.trx ≡ true
      by None e = refl
      by (Some m) e = ap (λ (t : Bool). not t || (is_committed m.state && is_past m.next a (records_of m)))
          (ne_eqb m.trx row.trx (λ f. distinct_with a.page vs l bs m (subst (λ (xs : List LogThere). AreDistinct (logs_of xs)) cut (subst AreDistinct shows_all distinct)) (ap (log_with a.page) (sym cut) ∙ e) none (f ∙ sym same)))

  once : (n : ℕ) → times n (all_pages all) ≤ 1
  once n =
      let j = times-joined n is.stored.active is.stored.committed in
      let p = times-parts n is.stored in
      let m = is.standing.marks n in
      let k = mark_small pages n in
      omega (arith, j, p, m, k)

  -- and the place is on one of them
  on_log : (a : Address) (vs : List LogThere) (l : LogThere) (bs : List LogThere) → all ≡ vs ++ l ∷ bs → l.trx ≡ row.trx → has_page a.page l.parts ≡ true → is_purged_in (log_with a.page all) a row.trx ≡ (is_committed l.state && is_past l.next a (records_of l))
  on_log a vs l bs cut same has =
      ap (λ (o : Option LogThere). is_purged_in o a row.trx) (ap (log_with a.page) cut ∙ with_is a.page vs l bs has (subst (λ (xs : List LogThere). times a.page (all_pages xs) ≤ 1) cut (once a.page)))
      ∙ ap (λ (t : Bool). not t || (is_committed l.state && is_past l.next a (records_of l))) (eq-eqb l.trx row.trx same)

  decides : (a : Address) (l : LogThere) (x : Log) → row.roll ≡ Some a → log_of l ≡ x → IsLog pages l → log_in (logs_of all) row.trx ≡ Some x → (is_committed l.state && is_past l.next a (records_of l)) ≡ is_none (record_at (entries_of (left l)) a)
  decides a l x roll shows log there = by l.state refl
    where
      by : (s : LogState) → l.state ≡ s → (is_committed s && is_past l.next a (records_of l)) ≡ is_none (record_at (entries_of (due_in s l.next (records_of l))) a)
      by committed e = passed_left a l.next (records_of l) log.numbered log.due
      by purging e = passed_left a l.next (records_of l) log.numbered log.due
      by active e = elim (in_active (logs_of is.stored.active) (logs_of is.stored.committed) row.trx x (ap (λ (ls : List Log). log_in ls row.trx) (sym (shown_joined is.stored.active is.stored.committed)) ∙ there)) [
        | inl here ↦ sym (ap (λ (s : LogState). is_none (record_at (entries_of (due_in s l.next (records_of l))) a)) (sym e) ∙ ap (λ (y : Log). is_none (record_at y.records a)) shows ∙ names x a (ap (λ (ls : List Log). log_in ls row.trx) is.shows.active ∙ here) roll)
        | inr there' ↦ absurd (committed_state (suc is.stored.purged) is.stored.committed row.trx x is.whole.committed there' (ap (λ (y : Log). y.state) (sym shows) ∙ e))
      ]

  purged_at : (a : Address) (x : Log) → row.roll ≡ Some a → log_in (logs_of all) row.trx ≡ Some x → FoundLog all row.trx x → is_purged_in (log_with a.page all) a row.trx ≡ is_none (record_at x.records a)
  purged_at a x roll e f = by (has_page a.page f.log.parts) refl
    where
      log : IsLog pages f.log
      log = log_cut pages f.before f.log f.after (subst (AreLogs pages) f.cut (logs_joined pages is.stored.active is.stored.committed
          (all_stand pages is.stored.active is.standing.active is.whole.active_in) (all_stand pages is.stored.committed is.standing.committed is.whole.committed_in)))

      same : f.log.trx ≡ row.trx
      same = ap (λ (y : Log). y.trx) f.shows ∙ found_trx (logs_of all) row.trx x e

      shown : is_none (record_at (entries_of (left f.log)) a) ≡ is_none (record_at x.records a)
      shown = ap (λ (y : Log). is_none (record_at y.records a)) f.shows

      by : (t : Bool) → has_page a.page f.log.parts ≡ t → is_purged_in (log_with a.page all) a row.trx ≡ is_none (record_at x.records a)
      by false none = off_log a f.before f.log f.after f.cut same none ∙ nothing_left pages f.log a log none ∙ shown
      by true has = on_log a f.before f.log f.after f.cut same has ∙ decides a f.log x roll f.shows log e ∙ shown

  purged_by : (o : Option Address) → row.roll ≡ o → is_purged all o row.trx ≡ is_none (record_in (log_in (logs_of all) row.trx) o)
  purged_by None roll = by (log_in (logs_of all) row.trx)
    where
      by : (x : Option Log) → true ≡ is_none (record_in x None)
      by None = refl
      by (Some l) = refl
  purged_by (Some a) roll = by (log_in (logs_of all) row.trx) refl
    where
      by : (x : Option Log) → log_in (logs_of all) row.trx ≡ x → is_purged_in (log_with a.page all) a row.trx ≡ is_none (record_in x (Some a))
      by None e = of_none a e
      by (Some x) e = purged_at a x roll e (found_log all row.trx x e)

-- what the pages tell of the record that a row names is what the store says of the row
pub purged_shown : (pages : Pages) (store : Store) (is : IsStore pages store) → AreDistinct (store.active ++ store.committed) → (row : Row) (n : ℕ) → row.roll ≡ led n → NamesRecord store row
    → is_purged (is.stored.active ++ is.stored.committed) (led n) row.trx ≡ counts_as_purged store row
purged_shown pages store is distinct row n roll names =
    purged_by pages store is distinct row names (led n) roll
    ∙ sym (ap (λ (o : Option Address). is_none (record_in (log_in (store.active ++ store.committed) row.trx) o)) roll
    ∙ ap (λ (ls : List Log). is_none (record_in (log_in ls row.trx) (led n))) (shows_all pages store is distinct row names))
