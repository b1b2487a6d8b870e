-- Histories whose changes could be made one after the other.
--     AreOrdered      committed changes stand below the others, by falling commits
--     IsSound      each change fits what stands below it, and the LOB below all has one version of
--         each piece
use Rattle.std.specs.Prelude.{◌≡◌, ◌≤◌, ◌<◌, ℕ, List, [], ◌∷◌, Option, None, Some, is_some, IsSome, IfSome, option_to_list, length}
use Rattle.journal_model.specs.Held.{Kind, inserted, HeldLob}
use Rattle.journal_model.specs.Journal.{Opening}
use Rattle.journal_model.specs.Documents.{Kept}
use Rattle.journal_model.specs.History.{pieces_of, Owner, session, commit, Made, History, lob_behind, lobs_at, first_history}
use Rattle.journal_model.specs.Versions.{lobs_of}

-- every owner among the changes has it
unfoldable pub OfOwners : (Owner → Type 0) → List Made → Type 0
OfOwners P [] = Unit {0}
OfOwners P (m ∷ ms) = P m.owner × OfOwners P ms

-- one of the commits up to c
abbrev pub IsWithin : ℕ → Owner → Type 0
IsWithin c (session t) = ⊥
IsWithin c (commit e) = e ≤ c

abbrev pub IsOver : Owner → List Made → Type 0
IsOver (session t) ms = Unit {0}
IsOver (commit c) ms = OfOwners (IsWithin c) ms

unfoldable pub AreOrdered : List Made → Type 0
AreOrdered [] = Unit {0}
AreOrdered (m ∷ ms) = IsOver m.owner ms × AreOrdered ms

abbrev pub IsAfter : ℕ → Owner → Type 0
IsAfter n (session t) = Unit {0}
IsAfter n (commit c) = n < c

-- ---- what a change fits

-- an insert where nothing stands, any other where a document does
abbrev pub IsFitting : Kind → Option HeldLob → Type 0
IsFitting (inserted n) l = l ≡ None
IsFitting k l = IsSome l

abbrev pub lob_behind_all : List Made → Option HeldLob → Option HeldLob
lob_behind_all [] l = l
lob_behind_all (m ∷ ms) l = lob_behind m.kind (lob_behind_all ms l)

-- a LOB stands behind a change exactly where a document does
unfoldable pub AreFitting : Option HeldLob → List Made → Type 0
AreFitting l [] = Unit {0}
AreFitting l (m ∷ ms) =
    IsFitting m.kind (lob_behind_all ms l) × (is_some m.left ≡ is_some (lob_behind_all (m ∷ ms) l))
    × AreFitting l ms

-- one version of each piece
unfoldable pub AreSingle : List (List ℕ) → Type 0
AreSingle [] = Unit {0}
AreSingle (vs ∷ more) = ((v : ℕ) × (vs ≡ v ∷ [])) × AreSingle more

pub record IsSound (h : History) : Type 0 where
  pub stands : is_some h.base ≡ is_some h.lob
  pub fitting : AreFitting h.lob h.changes
  pub single : IfSome h.lob (λ l. AreSingle l.pieces)

-- the LOBs at the opening are those of its histories
pub record IsFirst (o : Opening) : Type 0 where
  pub sound : (d : ℕ) → IsSound (first_history o d)
  pub lobs : (d : ℕ) → lobs_at o d ≡ lobs_of (first_history o d)

-- one LOB, where the document stands
pub record IsAtRest (lobs : List HeldLob) (h : History) : Type 0 where
  pub unchanged : h.changes ≡ []
  pub alone : lobs ≡ option_to_list h.lob
  pub stands : is_some h.base ≡ is_some h.lob
  pub single : IfSome h.lob (λ l. AreSingle l.pieces)

-- a LOB has as many pieces as the bytes need
abbrev pub IsCut : Option Kept → Option HeldLob → Type 0
IsCut (Some k) (Some l) = length l.pieces ≡ pieces_of k.1
IsCut x l = Unit {0}

unfoldable pub AreCut : Option HeldLob → List Made → Type 0
AreCut l [] = Unit {0}
AreCut l (m ∷ ms) = IsCut m.left (lob_behind_all (m ∷ ms) l) × AreCut l ms

-- what stands below all, and behind each change
pub record IsPieced (h : History) : Type 0 where
  pub below : IsCut h.base h.lob
  pub left : AreCut h.lob h.changes
