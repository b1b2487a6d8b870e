-- The facts that tie a store's rows, records and logs together.
--     IsStep row c older      the row came from the row before by this change; what the change
--         made is nothing that older rows have
--     IsChain row changes      each row came by its change, from the newest to the oldest
--     AreApart      rows of two documents have different LOBs
--     IsWell store      each document has such a chain, and its own LOBs; no two logs have one
--         transaction; one active log at most changes a document
use Rattle.std.specs.Prelude.{◌≡◌, ◌≢◌, ℕ, List, [], ◌∷◌, ◌++◌, Some}
use Rattle.page_model.specs.Pages.{Address}
use Rattle.store_data.specs.Store.{live, deleted, Row, Body, inserted, rebuilt, versioned, patched, removed, Log, Store}
use Rattle.store_model.specs.History.{Change, changes, row_before}
use Rattle.store_model.specs.Events.{raised}
use Rattle.store_model.specs.Locked.{IsLocked}
use Rattle.store_model.specs.Behind.{AllBefore, IsElsewhere}
use Rattle.store_model.specs.Moves.{OlderElsewhere}
use Rattle.store_model.specs.Purging.{NumberedTo}

-- what each kind of change makes of a row
abbrev pub IsKind : Body → Row → Row → Type 0
IsKind (inserted page) row before =
    (row.state ≡ live) × (row.lob.page ≡ page) × (before.state ≢ live)
IsKind (rebuilt page) row before =
    (row.state ≡ live) × (row.lob.page ≡ page) × (before.state ≡ live)
IsKind (versioned pieces touched) row before =
    (row.state ≡ live) × (before.state ≡ live) × (row.lob ≡ raised before.lob)
IsKind (patched old) row before =
    (row.state ≡ live) × (before.state ≡ live) × (row.lob ≡ before.lob)
IsKind removed row before = (row.state ≡ deleted) × (before.state ≡ live) × (row.lob ≡ before.lob)

pub record IsStep (row : Row) (c : Change) (older : List Change) : Type 0 where
  pub trx : row.trx ≡ c.trx
  pub roll : row.roll ≡ Some c.place
  pub kind : IsKind c.undo.body row c.undo.before
  pub fresh : OlderElsewhere c.undo.body (c ∷ older)

abbrev pub IsChain : Row → List Change → Type 0
IsChain row [] = Unit {0}
IsChain row (c ∷ cs) = IsStep row c cs × IsChain c.undo.before cs

-- P holds of a row and of those behind it
abbrev pub AllIn : (Row → Type 0) → Row → List Change → Type 0
AllIn P row cs = P row × AllBefore P cs

abbrev pub AreApart : Row → List Change → Row → List Change → Type 0
AreApart row cs other ds =
    AllIn (λ r. r.state ≡ live → AllIn (IsElsewhere r.lob.page) other ds) row cs

abbrev pub NoLog : ℕ → List Log → Type 0
NoLog trx [] = Unit {0}
NoLog trx (l ∷ ls) = (l.trx ≢ trx) × NoLog trx ls

abbrev pub AreDistinct : List Log → Type 0
AreDistinct [] = Unit {0}
AreDistinct (l ∷ ls) = NoLog l.trx ls × AreDistinct ls

-- no two changes stand at one place
abbrev pub IsNew : Address → List Change → Type 0
IsNew place [] = Unit {0}
IsNew place (c ∷ cs) = (c.place ≢ place) × IsNew place cs

abbrev pub AreNamedOnce : List Change → Type 0
AreNamedOnce [] = Unit {0}
AreNamedOnce (c ∷ cs) = IsNew c.place cs × AreNamedOnce cs

pub record IsWell (store : Store) : Type 0 where
  pub chains : (d : ℕ) → IsChain (row_before store d) (changes store d)
  pub places : (d : ℕ) → AreNamedOnce (changes store d)
  pub apart : (d e : ℕ) → d ≢ e
      → AreApart (row_before store d) (changes store d) (row_before store e) (changes store e)
  pub logs : AreDistinct (store.active ++ store.committed)
  pub locked : (d : ℕ) → IsLocked d store.active
  pub numbered : NumberedTo store.commits store.committed
