-- Whether purge has passed the record that a row names: what was read decides it.
use Rattle.std.proofs.Common.{◌≡◌, ◌≢◌, ℕ, ◌&&◌, ◌||◌, not, Bool, true, false, List, [], ◌∷◌, Option, Some, None, option_and_then, refl, sym, ap, ◌∙◌, subst, arith, lit≤}
use Rattle.std.specs.Option.{is_some}
use Rattle.std.proofs.lemmas.Bool.{ne_eqb, eq-eqb}
use Rattle.page_model.specs.Pages.{Address}
use Rattle.page_model.specs.Steps.{PageState, MayUse, Uses, IsWithin}
use Rattle.page_model.proofs.StepLemmas.{may_name, may_less, may_within, uses_more, uses_within, uses_unnamed, uses_at_most, within_right, within_both, within_one, within_two}
use Rattle.store_data.specs.Store.{LogState, active, committed, purging}
use Rattle.undo_model.specs.Data.{Entry, Log, led}
use Rattle.undo_model.specs.Logs.{state_number, records_of}
use Rattle.undo_model.specs.LogSteps.{number_at, is_greater, is_past, is_committed, log_with, is_purged_in, is_purged}

-- ---- the pages that the calls touch

within_log : (page log : ℕ) → IsWithin (page ∷ log ∷ []) (log ∷ page ∷ 0 ∷ [])
within_log page log = within_both (page ∷ []) (log ∷ []) (log ∷ page ∷ 0 ∷ []) (within_two log page (0 ∷ [])) (within_one log (page ∷ 0 ∷ []))

-- room for three pages is room for a page that is named then
pub may_type : (page : ℕ) (s : PageState) → MayUse (0 ∷ []) 3 0 s → MayUse (page ∷ 0 ∷ []) 0 0 s
may_type page s may = may_less (page ∷ 0 ∷ []) (page ∷ 0 ∷ []) 2 0 0 0 s (may_name page (0 ∷ []) 2 0 s may) (λ n is. is) (lit≤ tt) (lit≤ tt)

may_all : (page log : ℕ) (s : PageState) → MayUse (0 ∷ []) 3 0 s → MayUse (log ∷ page ∷ 0 ∷ []) 1 0 s
may_all page log s may = may_name log (page ∷ 0 ∷ []) 1 0 s (may_name page (0 ∷ []) 2 0 s may)

module _ {T : Type 0} {state : T → PageState} {stays : T → T → Type 0} (add : (a b c : T) → stays a b → stays b c → stays a c) (page : ℕ) where
  pub type_uses : (s t u : T) → Uses state stays (0 ∷ []) 0 0 s t → Uses state stays (page ∷ []) 0 0 t u → Uses state stays (page ∷ 0 ∷ []) 0 0 s u
  type_uses s t u first second =
      uses_within add (page ∷ 0 ∷ []) (page ∷ []) 0 0 0 0 s t u (within_one page (0 ∷ [])) (uses_more (0 ∷ []) (page ∷ 0 ∷ []) 0 0 0 0 s t first (within_two page 0 []) (lit≤ tt) (lit≤ tt)) second

  pub passed_uses : (log : ℕ) (s t u : T) → Uses state stays (log ∷ []) 1 0 s t → Uses state stays (page ∷ []) 0 0 t u → Uses state stays (page ∷ log ∷ []) 1 0 s u
  passed_uses log s t u first second =
      uses_within add (page ∷ log ∷ []) (page ∷ []) 1 0 0 0 s t u (within_one page (log ∷ [])) (uses_more (log ∷ []) (page ∷ log ∷ []) 1 1 0 0 s t first (within_two page log []) (lit≤ tt) (lit≤ tt)) second

  pub first_uses : (s t u : T) → Uses state stays (page ∷ 0 ∷ []) 0 0 s t → Uses state stays (page ∷ []) 0 0 t u → Uses state stays (page ∷ 0 ∷ []) 0 0 s u
  first_uses s t u first second = uses_within add (page ∷ 0 ∷ []) (page ∷ []) 0 0 0 0 s t u (within_one page (0 ∷ [])) first second

  -- with the log's first page
  pub wider : (log : ℕ) (s t : T) → Uses state stays (page ∷ 0 ∷ []) 0 0 s t → Uses state stays (log ∷ page ∷ 0 ∷ []) 0 0 s t
  wider log s t uses = uses_more (page ∷ 0 ∷ []) (log ∷ page ∷ 0 ∷ []) 0 0 0 0 s t uses (within_right (log ∷ []) (page ∷ 0 ∷ [])) (lit≤ tt) (lit≤ tt)

  pub log_uses : (log : ℕ) (s t u : T) → Uses state stays (log ∷ page ∷ 0 ∷ []) 0 0 s t → Uses state stays (log ∷ []) 0 0 t u → Uses state stays (log ∷ page ∷ 0 ∷ []) 0 0 s u
  log_uses log s t u first second = uses_within add (log ∷ page ∷ 0 ∷ []) (log ∷ []) 0 0 0 0 s t u (within_one log (page ∷ 0 ∷ [])) first second

  pub all_uses : (log : ℕ) (s t u : T) → Uses state stays (log ∷ page ∷ 0 ∷ []) 0 0 s t → Uses state stays (page ∷ log ∷ []) 1 0 t u → Uses state stays (0 ∷ []) 3 0 s u
  all_uses log s t u first second =
      uses_unnamed page (0 ∷ []) 2 0 s u (uses_unnamed log (page ∷ 0 ∷ []) 1 0 s u (uses_within add (log ∷ page ∷ 0 ∷ []) (page ∷ log ∷ []) 0 0 1 0 s t u (within_log page log) first second))

  -- as what the whole call touches
  pub as_log : (log : ℕ) (s t : T) → Uses state stays (log ∷ page ∷ 0 ∷ []) 0 0 s t → Uses state stays (0 ∷ []) 3 0 s t
  as_log log s t uses = uses_at_most (0 ∷ []) 2 0 3 0 s t (lit≤ tt) (lit≤ tt) (uses_unnamed page (0 ∷ []) 1 0 s t (uses_unnamed log (page ∷ 0 ∷ []) 0 0 s t uses))

  pub as_page : (s t : T) → Uses state stays (page ∷ 0 ∷ []) 0 0 s t → Uses state stays (0 ∷ []) 3 0 s t
  as_page s t uses = uses_at_most (0 ∷ []) 1 0 3 0 s t (lit≤ tt) (lit≤ tt) (uses_unnamed page (0 ∷ []) 0 0 s t uses)

  -- and what it may
  pub may_first : (s t : T) → MayUse (0 ∷ []) 3 0 (state s) → Uses state stays (page ∷ 0 ∷ []) 0 0 s t → MayUse (page ∷ []) 0 0 (state t)
  may_first s t may uses = may_within (page ∷ 0 ∷ []) (page ∷ []) 0 0 0 0 0 0 s t (within_one page (0 ∷ [])) (lit≤ tt) (lit≤ tt) (may_type page (state s) may) uses

  pub may_log : (log : ℕ) (s t : T) → MayUse (0 ∷ []) 3 0 (state s) → Uses state stays (log ∷ page ∷ 0 ∷ []) 0 0 s t → MayUse (log ∷ []) 0 0 (state t)
  may_log log s t may uses = may_within (log ∷ page ∷ 0 ∷ []) (log ∷ []) 1 0 0 0 0 0 s t (within_one log (page ∷ 0 ∷ [])) (lit≤ tt) (lit≤ tt) (may_all page log (state s) may) uses

  pub may_passed : (log : ℕ) (s t : T) → MayUse (0 ∷ []) 3 0 (state s) → Uses state stays (log ∷ page ∷ 0 ∷ []) 0 0 s t → MayUse (page ∷ log ∷ []) 1 0 (state t)
  may_passed log s t may uses = may_within (log ∷ page ∷ 0 ∷ []) (page ∷ log ∷ []) 1 0 0 0 1 0 s t (within_log page log) (lit≤ tt) (lit≤ tt) (may_all page log (state s) may) uses

-- ---- what decides it

-- purge has passed a place by the number that is due and by the one there
pub past_by : (next : Option Address) (a : Address) (records : List Entry) → is_past next a records ≡ is_greater (option_and_then (λ (b : Address). number_at b records) next) (number_at a records)
past_by None a records = refl
past_by (Some b) a records = refl

-- no pointer
pub no_pointer : (n trx : ℕ) (logs : List Log) → n ≡ 0 → true ≡ is_purged logs (led n) trx
no_pointer n trx logs is = subst (λ (k : ℕ). true ≡ is_purged logs (led k) trx) (sym is) refl

module _ (logs : List Log) (n trx : ℕ) (a : Address) (leads : led n ≡ Some a) where
  in_log : is_purged logs (led n) trx ≡ is_purged_in (log_with a.page logs) a trx
  in_log = ap (λ (o : Option Address). is_purged logs o trx) leads

  -- no log has the page
  pub no_log : false ≡ is_some (log_with a.page logs) → true ≡ is_purged logs (led n) trx
  no_log none = by (log_with a.page logs) none ∙ sym in_log
    where
      by : (o : Option Log) → false ≡ is_some o → true ≡ is_purged_in o a trx
      by None is = refl
      by (Some l) is = absurd (let e : false ≡ true = is in cc)

  here : (l : Log) → log_with a.page logs ≡ Some l → is_purged logs (led n) trx ≡ is_purged_in (Some l) a trx
  here l is = in_log ∙ ap (λ (o : Option Log). is_purged_in o a trx) is

  -- another transaction's
  pub others_log : (l : Log) → log_with a.page logs ≡ Some l → l.trx ≢ trx → true ≡ is_purged logs (led n) trx
  others_log l is far = sym (here l is ∙ ap (λ (b : Bool). not b || (is_committed l.state && is_past l.next a (records_of l))) (ne_eqb l.trx trx far))

  own : (l : Log) → log_with a.page logs ≡ Some l → l.trx ≡ trx → is_purged logs (led n) trx ≡ (is_committed l.state && is_past l.next a (records_of l))
  own l is same = here l is ∙ ap (λ (b : Bool). not b || (is_committed l.state && is_past l.next a (records_of l))) (eq-eqb l.trx trx same)

  -- its transaction's, which is at work
  pub active_log : (l : Log) → log_with a.page logs ≡ Some l → l.trx ≡ trx → l.state ≡ active → false ≡ is_purged logs (led n) trx
  active_log l is same state = sym (own l is same ∙ ap (λ (s : LogState). is_committed s && is_past l.next a (records_of l)) state)

  -- or has committed
  pub committed_log : (l : Log) → log_with a.page logs ≡ Some l → l.trx ≡ trx → l.state ≢ active → is_past l.next a (records_of l) ≡ is_purged logs (led n) trx
  committed_log l is same state = sym (own l is same ∙ ap (λ (b : Bool). b && is_past l.next a (records_of l)) (by l.state state))
    where
      by : (s : LogState) → s ≢ active → is_committed s ≡ true
      by active far = absurd (far refl)
      by committed far = refl
      by purging far = refl

-- the state's number says whether it is at work
pub active_by : (s : LogState) (k : ℕ) → k ≡ state_number s → k ≡ 1 → s ≡ active
active_by active k is one = refl
active_by committed k is one = absurd (omega (arith, is, one))
active_by purging k is one = absurd (omega (arith, is, one))

pub committed_by : (s : LogState) (k : ℕ) → k ≡ state_number s → k ≢ 1 → s ≢ active
committed_by active k is far = absurd (far is)
committed_by committed k is far = λ e. cc
committed_by purging k is far = λ e. cc
