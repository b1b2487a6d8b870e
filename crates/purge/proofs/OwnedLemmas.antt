-- The LOB before the record that is due stands in the store.
use Rattle.std.proofs.Common.{◌≡◌, ℕ, ◌<◌, true, false, List, [], ◌∷◌, ◌++◌, length, Option, Some, None, is_some, refl, subst}
use Rattle.page_model.specs.Pages.{Pages, Address}
use Rattle.store_data.specs.Store.{live, Row, Lob, Record, Log, Store}
use Rattle.undo_model.specs.Rows.{RowPage}
use Rattle.store_model.specs.Lobs.{lob_of}
use Rattle.store_model.specs.History.{Change, row_before}
use Rattle.store_model.specs.Steps.{last_in}
use Rattle.store_model.specs.Behind.{AllBefore}
use Rattle.store_model.specs.Owned.{owned_lobs, IsAmong}
use Rattle.store_model.specs.Well.{IsStep, IsKind, IsChain}
use Rattle.store_model.specs.Consistent.{IsConsistent}
use Rattle.store_model.proofs.SoundLemmas.{lobs_are_owned}
use Rattle.store_model.proofs.HeldLemmas.{owned_there}
use Rattle.store_model.proofs.WellBackLemmas.{passed_all}
use Rattle.store_steps.proofs.LobLemmas.{LobAt}

-- the oldest change is a step
step_last : (row : Row) (xs : List Change) (c : Change) → IsChain row (xs ++ c ∷ [])
    → (r : Row) × IsStep r c []
step_last row [] c chain = (row, chain.0)
step_last row (x ∷ xs) c chain = step_last x.undo.before xs c chain.1

before_last : (P : Row → Type 0) (xs : List Change) (c : Change) → AllBefore P (xs ++ c ∷ [])
    → P c.undo.before
before_last P [] c all = all.0
before_last P (x ∷ xs) c all = before_last P xs c all.1

there_is : (o : Option Lob) → is_some o ≡ true → (m : Lob) × (o ≡ Some m)
there_is None some = absurd (let e : false ≡ true = some in cc)
there_is (Some m) some = (m, refl)

-- where the row before was live, its LOB is owned
pub among_before : (store : Store) (l : Log) (ls : List Log) (a : Address) (u : Record)
    → IsConsistent store → store.committed ≡ l ∷ ls → last_in l.records ≡ (a, u) ∷ []
    → ((r : Row) → IsKind u.body r u.before → u.before.state ≡ live)
    → IsAmong u.before.lob.page (owned_lobs store)
among_before store l ls a u is first oldest kind =
    let well = is.well in
    let d = u.doc in
    let all = passed_all a u store l ls first oldest in
    let step = step_last (row_before store d) _ _
    (subst (IsChain (row_before store d)) all (well.chains d)) in
    let P : Row → Type 0 = λ r. r.state ≡ live → IsAmong r.lob.page (owned_lobs store) in
    before_last P _ _ (subst (AllBefore P) all (lobs_are_owned store d well).1)
    (kind step.0 (let s = step.1 in s.kind))

-- and stands
pub lob_before : (store : Store) (l : Log) (ls : List Log) (a : Address) (u : Record)
    → IsConsistent store → store.committed ≡ l ∷ ls → last_in l.records ≡ (a, u) ∷ []
    → ((r : Row) → IsKind u.body r u.before → u.before.state ≡ live)
    → (m : Lob) × (lob_of store.lobs u.before.lob.page ≡ Some m)
lob_before store l ls a u is first oldest kind =
    there_is (lob_of store.lobs u.before.lob.page) (owned_there u.before.lob.page store is.lobs
    (among_before store l ls a u is first oldest kind))

-- and its first page is one of the pages
pub first_below : (there : List RowPage) (pages : Pages) (store : Store) (page : ℕ) (m : Lob)
    → LobAt there pages store page m → page < length pages
first_below there pages store page m at =
    subst (λ (n : ℕ). n < length pages) at.here (let s = at.stands in let f = s.first in f.there)
