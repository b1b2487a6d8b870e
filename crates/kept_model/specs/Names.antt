-- Which transaction an owner of a change is in a store, and how logs belong to sessions and
-- commits.
--     names      the transaction of a session, or of a commit
--     floor, is_old      the commits that purge has passed or is passing; a transaction that was
--         given, and that these have or that was undone
--     AreLogs      each active log is one session's, the committed ones are numbered, and no two
--         have one transaction
use Rattle.std.specs.Prelude.{◌≡◌, ◌⊎◌, ℕ, suc, ◌<◌, Bool, true, false, ◌&&◌, ◌==◌, List, [], ◌∷◌, Option, Some, None, nat_lt, if◌then◌else◌}
use Rattle.journal_model.specs.History.{Owner, session, commit}
use Rattle.store_data.specs.Store.{LogState, active, committed, purging, Log, Store}
use Rattle.store_model.specs.History.{stands, stands_above, is_among}
use Rattle.kept_model.specs.Engine.{Session, Engine}

abbrev pub trx_numbered : List Log → ℕ → Option ℕ
trx_numbered [] n = None
trx_numbered (l ∷ ls) n = if l.number == n then Some l.trx else trx_numbered ls n

abbrev pub names : List Log → (ℕ → Session) → Owner → Option ℕ
names logs sessions (session s) = (sessions s).trx
names logs sessions (commit c) = trx_numbered logs c

abbrev pub names_of : Engine → Owner → Option ℕ
names_of e = names e.store.committed e.sessions

-- the purge of the first committed log is begun
abbrev pub is_begun : LogState → Bool
is_begun active = false
is_begun committed = false
is_begun purging = true

abbrev pub is_purging : List Log → Bool
is_purging [] = false
is_purging (l ∷ ls) = is_begun l.state

abbrev pub floor : Store → ℕ
floor store = if is_purging store.committed then suc store.purged else store.purged

abbrev pub is_old : Store → ℕ → Bool
is_old store trx = nat_lt trx store.next_trx && is_among store (floor store) trx

-- ---- logs

-- numbered from n on, up to last
abbrev pub AreNumbered : ℕ → ℕ → List Log → Type 0
AreNumbered last n [] = n ≡ last
AreNumbered last n (l ∷ ls) = (l.number ≡ suc n) × AreNumbered last (suc n) ls

-- purge is begun on the first committed log alone
abbrev pub AreNotBegun : List Log → Type 0
AreNotBegun [] = Unit {0}
AreNotBegun (l ∷ ls) = (is_begun l.state ≡ false) × AreNotBegun ls

abbrev pub IsFirstBegun : List Log → Type 0
IsFirstBegun [] = Unit {0}
IsFirstBegun (l ∷ ls) = AreNotBegun ls

pub record AreLogs (store : Store) (sessions : ℕ → Session) : Type 0 where
  pub numbered : AreNumbered store.commits store.purged store.committed
  pub first : IsFirstBegun store.committed
  -- a session's transaction has an active log and no committed one, and no other session has it
  pub own : (s x : ℕ) → (sessions s).trx ≡ Some x → (stands x store.active ≡ true)
      × (stands x store.committed ≡ false)
  pub apart : (s t x : ℕ) → (sessions s).trx ≡ Some x → (sessions t).trx ≡ Some x → s ≡ t
  -- each active log is a session's
  pub owned : (x : ℕ) → stands x store.active ≡ true → (s : ℕ) × ((sessions s).trx ≡ Some x)
  -- a commit's transaction has its log alone
  pub commits : (c x : ℕ) → trx_numbered store.committed c ≡ Some x
      → (stands x store.active ≡ false) × ((k : ℕ) → stands_above k x store.committed ≡ nat_lt k c)
  -- ids are below the next one
  pub below : (x : ℕ) → (stands x store.active ≡ true) ⊎ (stands x store.committed ≡ true)
      → x < store.next_trx
