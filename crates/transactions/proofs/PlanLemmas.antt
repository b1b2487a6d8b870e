-- A change that is planned in a consistent store: its lists of pages.
use Rattle.std.proofs.Common.{◌≡◌, ℕ, ◌≤◌, Bool, true, false, ◌==◌, if◌then◌else◌, List, [], ◌∷◌, ◌++◌, Option, Some, is_some, refl, ap, ◌∙◌, arith}
use Rattle.page_model.specs.Pages.{Pages}
use Rattle.page_model.specs.Counts.{times}
use Rattle.page_model.proofs.CountLemmas.{times-append}
use Rattle.store_data.specs.Store.{Log, Store}
use Rattle.store_model.specs.Steps.{on_log, log_of}
use Rattle.store_model.specs.Events.{Plan, with_log_pages, with_row_pages}
use Rattle.store_model.specs.Owned.{log_lobs, record_lobs, row_lobs, log_pages, lob_pages, owned_lobs}
use Rattle.store_model.specs.Held.{HasLobs}
use Rattle.store_model.specs.Locked.{OthersIdle}
use Rattle.store_model.specs.Moves.{MayChange}
use Rattle.store_model.specs.Consistent.{IsConsistent}
use Rattle.store_model.proofs.ConsistentLemmas.{sound_less, row_pages_consistent, log_pages_consistent}
use Rattle.store_parts.specs.Shows.{IsStore}
use Rattle.store_steps.proofs.TakenLemmas.{sound_at}
use Rattle.transactions.specs.Plans.{listed}

paged_lobs : (trx : ℕ) (pages : List ℕ) (ls : List Log)
    → log_lobs (on_log trx (λ l. record l { pages = pages }) ls) ≡ log_lobs ls
paged_lobs trx pages [] = refl
paged_lobs trx pages (l ∷ ls) = by_test (l.trx == trx) (paged_lobs trx pages ls)
  where
    by_test : (b : Bool)
        → log_lobs (on_log trx (λ l. record l { pages = pages }) ls) ≡ log_lobs ls
        → log_lobs (if b then (record l { pages = pages }) ∷ ls
        else l ∷ on_log trx (λ l. record l { pages = pages }) ls)
        ≡ record_lobs l.records ++ log_lobs ls
    by_test true rest = refl
    by_test false rest = ap (λ ps. record_lobs l.records ++ ps) rest

-- a store stays consistent with other lists of pages, where it stands in pages
pub listed_consistent : (trx : ℕ) (ns rows : List ℕ) (store : Store) (new : Pages)
    → IsConsistent store → IsStore new (listed trx ns rows store)
    → IsConsistent (listed trx ns rows store)
listed_consistent trx ns rows store new all is =
    let has : HasLobs (listed trx ns rows store) =
    λ n. ap (λ ps. times n (row_lobs store.rows ++ (ps ++ log_lobs store.committed)))
    (paged_lobs trx ns store.active) ∙ all.lobs n in
    let sound = sound_at new (listed trx ns rows store) is has in
    let bare : Store = with_row_pages [] store in
    let bare_all = row_pages_consistent [] store all (sound_less store bare all.sound
    (λ n. less n store.row_pages (log_pages store.active ++
    (log_pages store.committed ++ lob_pages store.lobs (owned_lobs store))))) in
    let paged : Store = with_log_pages trx ns bare in
    let paged_all = log_pages_consistent trx ns bare bare_all
    (sound_less (listed trx ns rows store) paged sound
    (λ n. less n rows (log_pages paged.active ++
    (log_pages store.committed ++ lob_pages store.lobs (owned_lobs paged))))) in
    row_pages_consistent rows paged paged_all sound
  where
    less : (n : ℕ) (ps rest : List ℕ)
        → times n ((0 ∷ []) ++ rest) ≤ times n ((0 ∷ ps) ++ rest)
    less n ps rest = let a = times-append n ps rest in omega (arith, a)

pub may_change : (p : Plan) (store : Store) (l : Log) → log_of store.active p.trx ≡ Some l
    → OthersIdle p.trx p.doc store.active → MayChange p store
may_change p store l found idle =
    record { log = ap (λ (o : Option Log). is_some o) found; idle = idle }
