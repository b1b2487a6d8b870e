-- What the calls within a change may use, and what they used; and answers by the row that was read.
use Rattle.std.proofs.Common.{◌≡◌, ℕ, [], ◌∷◌, List, Some, sym, subst, lit≤}
use Rattle.page_model.specs.Pages.{Pages}
use Rattle.page_model.specs.Steps.{PageState, MayUse, Uses}
use Rattle.page_model.proofs.StepLemmas.{may_less, may_name, may_within, uses_more, uses_unnamed, uses_within, within_nil}
use Rattle.undo_logs.proofs.UseLemmas.{swap}
use Rattle.store_data.specs.Store.{Row, Body, Log, Store}
use Rattle.store_model.specs.Steps.{log_of}
use Rattle.row_dir.specs.declared.dir.RowDir.{RowDir}
use Rattle.transactions.specs.Changes.{plan_by, Changes}
use Rattle.transactions.specs.Standing.{IsAtWork}
use Rattle.transactions.specs.Keeping.{CanKeep}

-- the page of a row's slot is another one
pub read_used : {T : Type 0} {state : T → PageState} {stays : T → T → Type 0} (log : ℕ) (s t : T)
    → Uses state stays [] 1 0 s t → Uses state stays (log ∷ 0 ∷ []) 1 0 s t
read_used log s t uses =
    uses_more [] (log ∷ 0 ∷ []) 1 1 0 0 s t uses (within_nil (log ∷ 0 ∷ [])) (lit≤ tt) (lit≤ tt)

-- ---- a LOB begun, and its first piece added

pub may_add : {T : Type 0} {state : T → PageState} {stays : T → T → Type 0} (page : ℕ) (s t : T)
    → MayUse (0 ∷ []) 6 49_411 (state s) → Uses state stays (0 ∷ []) 1 16_413 s t
    → MayUse (0 ∷ page ∷ []) 4 32_998 (state t)
may_add {state = state} page s t may begun =
    may_less (page ∷ 0 ∷ []) (0 ∷ page ∷ []) 4 4 32_998 32_998 (state t)
    (may_name page (0 ∷ []) 4 32_998 (state t)
    (may_within (0 ∷ []) (0 ∷ []) 6 49_411 1 16_413 5 32_998 s t (λ n is. is) (lit≤ tt)
    (lit≤ tt) may
    begun)) (swap page 0) (lit≤ tt) (lit≤ tt)

pub lob_used : {T : Type 0} {state : T → PageState} {stays : T → T → Type 0}
    (add : (a b c : T) → stays a b → stays b c → stays a c) (page : ℕ) (s t u : T)
    → Uses state stays (0 ∷ []) 1 16_413 s t → Uses state stays (0 ∷ page ∷ []) 4 32_998 t u
    → Uses state stays (0 ∷ []) 6 49_411 s u
lob_used add page s t u begun added =
    uses_within add (0 ∷ []) (0 ∷ []) 1 16_413 5 32_998 s t u (λ n is. is) begun
    (uses_unnamed page (0 ∷ []) 4 32_998 t u
    (uses_more (0 ∷ page ∷ []) (page ∷ 0 ∷ []) 4 4 32_998 32_998 t u added (swap page 0) (lit≤ tt)
    (lit≤ tt)))

-- ---- by the row that was read

pub change_as : (l : Log) (trx n d d' : ℕ) (b b' after : Row) (body : Body) (dir : RowDir)
    (store : Store) (new : Pages) → d ≡ d' → b ≡ b'
    → Changes l (plan_by trx n d) b after body dir store new
    → Changes l (plan_by trx n d') b' after body dir store new
change_as l trx n d d' b b' after body dir store new doc row c =
    subst (λ (k : ℕ). Changes l (plan_by trx n k) b' after body dir store new) doc
    (subst (λ (r : Row). Changes l (plan_by trx n d) r after body dir store new) row c)

pub keep_as : (count count' : ℕ) (row row' : Row) → count ≡ count' → row ≡ row'
    → CanKeep count row → CanKeep count' row'
keep_as count count' row row' many same can =
    subst (λ (k : ℕ). CanKeep k row') many (subst (CanKeep count) same can)

-- the LOBs of a store say nothing of its logs
pub work_beside : (trx page n : ℕ) (store after : Store) (l : Log) → after.active ≡ store.active
    → IsAtWork trx page n store l → IsAtWork trx page n after l
work_beside trx page n store after l same work = record {
  found = subst (λ (ls : List Log). log_of ls trx ≡ Some l)
      (sym same) work.found;
  page_is = work.page_is;
  records = work.records;
}
