-- How a store's histories move.
--     MayChange      a transaction has a log, and no other one has a change of the document
--     Begins      a change is begun: its document gains a row, and the others stay
--     KeepsOlder, KeepsAll      the rows behind the newest are as before; or all are
--     IsUnnamed      no live row has this LOB
--     IsNewest      the newest record of a transaction, whose document no other one has a change of
--     OlderElsewhere, OthersElsewhere      what a record made is nothing that older rows, or other
--         documents, show
use Rattle.std.specs.Prelude.{◌≡◌, ◌≢◌, ℕ, suc, true, List, [], ◌∷◌, map, Some, is_some, length}
use Rattle.page_model.specs.Pages.{Address}
use Rattle.store_data.specs.Pieces.{part_of}
use Rattle.store_data.specs.Store.{live, Row, Run, Version, Piece, Lob, Body, inserted, rebuilt, versioned, patched, removed, Record, Store}
use Rattle.store_model.specs.Lobs.{parts}
use Rattle.store_model.specs.Runs.{all_laid}
use Rattle.store_model.specs.Patches.{AreOld}
use Rattle.store_model.specs.History.{Change, content, history, row_before}
use Rattle.store_model.specs.Steps.{log_of, all_but_first}
use Rattle.store_model.specs.Events.{Plan}
use Rattle.store_model.specs.Locked.{OthersIdle, newest_in}
use Rattle.store_model.specs.Behind.{AllBefore, AllRows, IsElsewhere, IsBelow}

pub record MayChange (p : Plan) (store : Store) : Type 0 where
  pub log : is_some (log_of store.active p.trx) ≡ true
  pub idle : OthersIdle p.trx p.doc store.active

pub record Begins (p : Plan) (old new : Store) : Type 0 where
  pub own : history new p.doc
      ≡ record { trx = p.trx; length = (row_before new p.doc).lob.length; bytes = content new.lobs (row_before new p.doc) } ∷ history old p.doc
  pub others : (d : ℕ) → d ≢ p.doc → history new d ≡ history old d

abbrev pub KeepsOlder : ℕ → Store → Store → Type 0
KeepsOlder d old new = all_but_first (history new d) ≡ all_but_first (history old d)

abbrev pub KeepsAll : ℕ → Store → Store → Type 0
KeepsAll d old new = history new d ≡ history old d

abbrev pub IsUnnamed : ℕ → Store → Type 0
IsUnnamed page store = (d : ℕ) → AllRows (IsElsewhere page) store d

-- ---- changes in place

-- runs of new bytes, each in the place of old ones
abbrev pub ArePaired : List Run → List Run → Type 0
ArePaired [] [] = Unit {0}
ArePaired [] (n ∷ ns) = ⊥
ArePaired (o ∷ os) [] = ⊥
ArePaired (o ∷ os) (n ∷ ns) =
    (n.page ≡ o.page) × (n.at ≡ o.at) × (length n.bytes ≡ length o.bytes) × ArePaired os ns

abbrev pub AllVersions : (Version → Type 0) → List Version → Type 0
AllVersions P [] = Unit {0}
AllVersions P (v ∷ vs) = P v × AllVersions P vs

abbrev pub AllPieces : (Version → Type 0) → List Piece → Type 0
AllPieces P [] = Unit {0}
AllPieces P (p ∷ ps) = P p.head × AllVersions P p.older × AllPieces P ps

abbrev pub AllLobs : (Version → Type 0) → List Lob → Type 0
AllLobs P [] = Unit {0}
AllLobs P (l ∷ ls) = AllPieces P l.pieces × AllLobs P ls

-- the runs have what stands in each entry's data
abbrev pub StandThere : List Run → List Lob → Type 0
StandThere old lobs = AllLobs (λ v. AreOld old (part_of v)) lobs

-- runs of other pages than a live row's
abbrev pub IsUntouched : List Run → List Lob → Row → Type 0
IsUntouched rs lobs row =
    row.state ≡ live → map (all_laid rs) (parts lobs row.lob) ≡ parts lobs row.lob

-- ---- records that are undone

pub record IsNewest (trx : ℕ) (place : Address) (u : Record) (store : Store) : Type 0 where
  pub newest : newest_in trx store.active ≡ Some (place, u)
  pub idle : OthersIdle trx u.doc store.active

abbrev pub OlderElsewhere : Body → List Change → Type 0
OlderElsewhere (inserted page) cs = AllBefore (IsElsewhere page) cs
OlderElsewhere (rebuilt page) cs = AllBefore (IsElsewhere page) cs
OlderElsewhere (versioned pieces touched) cs = Unit {0}
OlderElsewhere (patched old) cs = Unit {0}
OlderElsewhere removed cs = Unit {0}

abbrev pub OthersElsewhere : Body → Store → ℕ → Type 0
OthersElsewhere (inserted page) store d = AllRows (IsElsewhere page) store d
OthersElsewhere (rebuilt page) store d = AllRows (IsElsewhere page) store d
OthersElsewhere (versioned pieces touched) store d = Unit {0}
OthersElsewhere (patched old) store d = AllRows (IsUntouched old store.lobs) store d
OthersElsewhere removed store d = Unit {0}

-- for Versioned, the rows before are of versions below the raised one
abbrev pub OlderBelow : Body → Row → List Change → Type 0
OlderBelow (inserted page) before cs = Unit {0}
OlderBelow (rebuilt page) before cs = Unit {0}
OlderBelow (versioned pieces touched) before cs =
    AllBefore (IsBelow before.lob.page (suc before.lob.version)) cs
OlderBelow (patched old) before cs = Unit {0}
OlderBelow removed before cs = Unit {0}
