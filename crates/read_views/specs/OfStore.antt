-- What a view has to do with the store at its opening, and with the store later.
--     IsOpenedAt      the view was opened when the store stood so
--     IsLater      what others may have done since: transactions that it doesn't see went on, were
--         begun, were committed after all that it sees, were purged no further
use Rattle.std.specs.Prelude.{◌≡◌, ◌⊎◌, ℕ, ◌<◌, ◌≤◌, true, false, List, [], ◌∷◌, map}
use Rattle.store_data.specs.Store.{Log, Store}
use Rattle.store_model.specs.History.{stands}
use Rattle.read_views.specs.Views.{ReadView}

abbrev pub trx_of : Log → ℕ
trx_of l = l.trx

pub record IsOpenedAt (store : Store) (v : ReadView) : Type 0 where
  pub commits : v.commits ≡ store.commits
  pub next : v.next ≡ store.next_trx
  pub active : v.active ≡ map trx_of store.active

-- no commit number is above k
abbrev pub AreUpTo : ℕ → List Log → Type 0
AreUpTo k [] = Unit {0}
AreUpTo k (l ∷ ls) = (l.number ≤ k) × AreUpTo k ls

-- begun since, or at work then
abbrev pub IsUnseen : Store → ℕ → Type 0
IsUnseen old trx = (old.next_trx ≤ trx) ⊎ (stands trx old.active ≡ true)

abbrev pub AreUnseen : Store → List Log → Type 0
AreUnseen old [] = Unit {0}
AreUnseen old (l ∷ ls) = IsUnseen old l.trx × AreUnseen old ls

-- committed then
pub record WasDone (old : Store) (trx : ℕ) : Type 0 where
  pub below : trx < old.next_trx
  pub ended : stands trx old.active ≡ false

-- a log with a number above that of the commits then is of a transaction begun since or at work
-- then, any other one of a transaction that was done
abbrev pub AreNumbered : Store → List Log → Type 0
AreNumbered old [] = Unit {0}
AreNumbered old (l ∷ ls) =
    (old.commits < l.number → IsUnseen old l.trx) × (l.number ≤ old.commits → WasDone old l.trx)
    × AreNumbered old ls

pub record IsLater (old new : Store) : Type 0 where
  pub active : AreUnseen old new.active
  pub committed : AreNumbered old new.committed

-- it has a log
abbrev pub IsStanding : ℕ → Store → Type 0
IsStanding trx store = (stands trx store.active ≡ true) ⊎ (stands trx store.committed ≡ true)
