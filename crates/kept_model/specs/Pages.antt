-- What the events of an engine owe of the versions held.
--     IsStill, IsNotMaking      a session's task that changes nothing
--     LockGoes      a lock stays, or the session takes a free one or frees its own
--     AreQuiet      entries of a session, or of an audit, that tell of no change, commit, rollback
--         or purge
--     PlansLobs, WorksLobs      what a change's planning event, and a further one, does to the LOBs
--         of its document
--     HalvesLobs, UndoesLobs      what an event of an undone record does, and its last
--     DropsLobs, PassesLobs      what an event of a purged record does, and its last
use Rattle.std.specs.Prelude.{◌≡◌, ◌≢◌, ◌⊎◌, ◌≤◌, ℕ, List, [], ◌∷◌, ◌++◌, Option, Some, None, IfSome, option_to_list}
use Rattle.journal_model.specs.Journal.{Script, statement, Entry, Start, View, Wait, Did, Commit, Undone, Purged, Audited, Restart}
use Rattle.journal_model.specs.Part.{made}
use Rattle.journal_model.specs.Held.{Kind, inserted, rebuilt, versioned, patched, removed, HeldLob, add, add_all}
use Rattle.journal_model.specs.History.{lob_behind}
use Rattle.history_model.specs.Sound.{IsFitting, AreSingle}
use Rattle.store_data.specs.Store.{Log, Store}
use Rattle.store_data.specs.Store as store
use Rattle.store_model.specs.History.{Change, changes}
use Rattle.store_model.specs.Events.{Plan}
use Rattle.kept_model.specs.Held.{lob_list, part_kind, IsPart, IsRest, half_drop, IsDropped, IsOfKind}
use Rattle.kept_model.specs.Engine.{Left, Task, idle, asking, fetching, making, reading, undoing}

abbrev pub IsNotMaking : Task → Type 0
IsNotMaking idle = Unit {0}
IsNotMaking (asking d) = Unit {0}
IsNotMaking (fetching d ps) = Unit {0}
IsNotMaking (making d left r) = ⊥
IsNotMaking (reading d f) = Unit {0}
IsNotMaking (undoing u) = Unit {0}

-- nor undoes
abbrev pub IsStill : Task → Type 0
IsStill idle = Unit {0}
IsStill (asking d) = Unit {0}
IsStill (fetching d ps) = Unit {0}
IsStill (making d left r) = ⊥
IsStill (reading d f) = Unit {0}
IsStill (undoing u) = ⊥

abbrev pub LockGoes : ℕ → Option ℕ → Option ℕ → Type 0
LockGoes s was now = (now ≡ was)
    ⊎ (((was ≡ None) × (now ≡ Some s)) ⊎ ((was ≡ Some s) × (now ≡ None)))

abbrev pub IsQuietOf : Script → ℕ → Entry → Type 0
IsQuietOf script s (Start t i) = t ≡ s
IsQuietOf script s (View t k) = t ≡ s
IsQuietOf script s (Wait t d h) = t ≡ s
IsQuietOf script s (Did t i r) = (t ≡ s) × (made (statement script t i) r ≡ None)
IsQuietOf script s (Commit t c) = ⊥
IsQuietOf script s (Undone t u) = ⊥
IsQuietOf script s (Purged c) = ⊥
IsQuietOf script s (Audited a) = Unit {0}
IsQuietOf script s (Restart k) = ⊥

abbrev pub AreQuiet : Script → ℕ → List Entry → Type 0
AreQuiet script s [] = Unit {0}
AreQuiet script s (e ∷ es) = IsQuietOf script s e × AreQuiet script s es

-- ---- what an event does to the LOBs of documents

pub record KeepsLobs (old new : Store) (d : ℕ) : Type 0 where
  pub changes : changes new d ≡ changes old d
  pub lobs : lob_list new d ≡ lob_list old d

-- a change of a kind is planned, with so much left to do
pub record PlansLobs (p : Plan) (k : Kind) (left : Left) (old new : Store) : Type 0 where
  pub change : Change
  pub changes : changes new p.doc ≡ change ∷ changes old p.doc
  pub trx : change.trx ≡ p.trx
  pub kind : IsOfKind k change.undo.body
  pub done : List ℕ
  pub rest : IsRest left done k
  pub lobs : lob_list new p.doc ≡ add (part_kind done k) (lob_list old p.doc)
  pub others : (d : ℕ) → d ≢ p.doc → KeepsLobs old new d

-- the newest change of a document goes on
pub record WorksLobs (d : ℕ) (left more : Left) (old new : Store) : Type 0 where
  pub change : Change
  pub older : List Change
  pub was : changes old d ≡ change ∷ older
  pub changes : changes new d ≡ changes old d
  pub step : (k : Kind) (done : List ℕ) (xs : List HeldLob) → IsOfKind k change.undo.body
      → IsRest left done k → lob_list old d ≡ add (part_kind done k) xs
      → (now : List ℕ) × IsRest more now k × (lob_list new d ≡ add (part_kind now k) xs)
  pub others : (q : ℕ) → q ≢ d → KeepsLobs old new q

-- no version of a LOB is newer than itself
abbrev pub AllUpTo : ℕ → List ℕ → Type 0
AllUpTo v [] = Unit {0}
AllUpTo v (n ∷ ns) = (n ≤ v) × AllUpTo v ns

abbrev pub AreBelow : ℕ → List (List ℕ) → Type 0
AreBelow v [] = Unit {0}
AreBelow v (vs ∷ more) = AllUpTo v vs × AreBelow v more

-- so of several LOBs
abbrev pub AreOld : List HeldLob → Type 0
AreOld [] = Unit {0}
AreOld (l ∷ ls) = AreBelow l.version l.pieces × AreOld ls

-- less of it is left
pub record HalvesLobs (trx d : ℕ) (old new : Store) : Type 0 where
  pub change : Change
  pub older : List Change
  pub was : changes old d ≡ change ∷ older
  pub mine : change.trx ≡ trx
  pub changes : changes new d ≡ changes old d
  pub step : (k : Kind) (done : List ℕ) (xs : List HeldLob) → IsOfKind k change.undo.body
      → IsPart done k → AreOld xs → lob_list old d ≡ add (part_kind done k) xs
      → (now : List ℕ) × IsPart now k × (lob_list new d ≡ add (part_kind now k) xs)
  pub others : (q : ℕ) → q ≢ d → KeepsLobs old new q

-- none of it is left
pub record UndoesLobs (trx d : ℕ) (old new : Store) : Type 0 where
  pub change : Change
  pub was : changes old d ≡ change ∷ changes new d
  pub mine : change.trx ≡ trx
  pub step : (k : Kind) (done : List ℕ) (xs : List HeldLob) → IsOfKind k change.undo.body
      → IsPart done k → lob_list old d ≡ add (part_kind done k) xs → lob_list new d ≡ xs
  pub others : (q : ℕ) → q ≢ d → KeepsLobs old new q

-- a LOB below all changes has one version of each piece
abbrev pub IsBase : HeldLob → Type 0
IsBase l = AreSingle l.pieces × AreBelow l.version l.pieces

-- of the same kind, whichever pieces are made
abbrev pub IsSort : Kind → store.Body → Type 0
IsSort (inserted n) (store.inserted page) = Unit {0}
IsSort (rebuilt n) (store.rebuilt page) = Unit {0}
IsSort (versioned t) (store.versioned pieces touched) = Unit {0}
IsSort patched (store.patched runs) = Unit {0}
IsSort removed store.removed = Unit {0}
IsSort k body = ⊥

abbrev pub AreSorts : List Kind → List Change → Type 0
AreSorts [] [] = Unit {0}
AreSorts [] (c ∷ cs) = ⊥
AreSorts (k ∷ ks) [] = ⊥
AreSorts (k ∷ ks) (c ∷ cs) = IsSort k c.undo.body × AreSorts ks cs

-- the LOBs of a document: those below its oldest change, that change with these pieces dropped, and
-- the changes in front of it
pub record AreLobs (newer : List Change) (oldest : Change) (ks : List Kind) (k : Kind)
    (gone : List ℕ) (l : Option HeldLob) (lobs : List HeldLob) : Type 0 where
  pub sorts : AreSorts ks newer
  pub kind : IsOfKind k oldest.undo.body
  pub fits : IsFitting k l
  pub base : IfSome l IsBase
  pub gone_of : IsDropped gone k
  pub are : lobs ≡ add_all ks (half_drop gone k (add k (option_to_list l)))

-- the oldest change of a document loses more
pub record DropsLobs (l : Log) (d : ℕ) (old new : Store) : Type 0 where
  pub newer : List Change
  pub oldest : Change
  pub was : changes old d ≡ newer ++ oldest ∷ []
  pub mine : oldest.trx ≡ l.trx
  pub changes : changes new d ≡ changes old d
  pub step : (ks : List Kind) (k : Kind) (gone : List ℕ) (b : Option HeldLob)
      → AreLobs newer oldest ks k gone b (lob_list old d)
      → (now : List ℕ) × AreLobs newer oldest ks k now b (lob_list new d)
  pub others : (q : ℕ) → q ≢ d → KeepsLobs old new q

-- it is purged
pub record PassesLobs (l : Log) (d : ℕ) (old new : Store) : Type 0 where
  pub newer : List Change
  pub oldest : Change
  pub was : changes old d ≡ newer ++ oldest ∷ []
  pub mine : oldest.trx ≡ l.trx
  pub changes : changes new d ≡ newer
  pub step : (ks : List Kind) (k : Kind) (gone : List ℕ) (b : Option HeldLob)
      → AreLobs newer oldest ks k gone b (lob_list old d)
      → lob_list new d ≡ add_all ks (option_to_list (lob_behind k b))
  pub others : (q : ℕ) → q ≢ d → KeepsLobs old new q
