-- What the undoing of a record asks, beside that the store is consistent.
--     AreAscending ks      each number is above those in front of it
--     IsToCome last k touched      the walk that came to `last` still comes to the k-th piece
--     AreLowBut last touched v ps      no newest version is above v, but of pieces still to come
--     CanPopOn, CanGoOn      that this holds of the LOB whose versions a record raised
--     IsRaised touched v l      the record that raised a LOB's versions touched these pieces
--     IsUndoable body before lobs      what is to be known of a record that becomes the newest
--     undone_lobs      the LOBs, once a record is undone whole
--     AreUndoable records lobs      each of these may be undone once the newer ones are
use Rattle.std.specs.Prelude.{◌≡◌, ◌⊎◌, ◌≤◌, ◌<◌, ℕ, List, [], ◌∷◌, length, Option, Some, None}
use Rattle.page_model.specs.Pages.{Address}
use Rattle.page_model.specs.Steps.{different}
use Rattle.store_data.specs.Store.{Row, Piece, Lob, Body, inserted, rebuilt, versioned, patched, removed, Record}
use Rattle.lob_model.specs.Pieces.{versions}
use Rattle.store_model.specs.Lobs.{lob_of}
use Rattle.store_model.specs.Takes.{piece_of}
use Rattle.store_model.specs.Undo.{unmade, emptied}
use Rattle.store_pages.specs.Runs.{LieIn}
use Rattle.store_steps.specs.Lobs.{IsSingle}
use Rattle.store_steps.specs.Reached.{AreBelow}
use Rattle.store_steps.specs.Runs.{run_pages}
use Rattle.rollback.specs.Versions.{CanPop}

-- ---- the touched pieces

abbrev pub AreAbove : ℕ → List ℕ → Type 0
AreAbove n [] = Unit {0}
AreAbove n (k ∷ ks) = (n < k) × AreAbove n ks

abbrev pub AreAscending : List ℕ → Type 0
AreAscending [] = Unit {0}
AreAscending (k ∷ ks) = AreAbove k ks × AreAscending ks

abbrev pub IsToCome : Option ℕ → ℕ → List ℕ → Type 0
IsToCome last k [] = ⊥
IsToCome None k (t ∷ ts) = (t ≡ k) ⊎ IsToCome None k ts
IsToCome (Some n) k (t ∷ ts) = ((n < t) × (t ≡ k)) ⊎ IsToCome (Some n) k ts

abbrev pub AreLowBut : Option ℕ → List ℕ → ℕ → List Piece → Type 0
AreLowBut last touched v ps = (k : ℕ) (p : Piece) → piece_of k ps ≡ Some p
    → (p.head.number ≤ v) ⊎ IsToCome last k touched

pub record CanPopOn (last : Option ℕ) (touched : List ℕ) (before : Row) (lobs : List Lob) : Type 0
  where
    pub ascending : AreAscending touched
    pub low : (l : Lob) → lob_of lobs before.lob.page ≡ Some l
        → AreLowBut last touched before.lob.version l.pieces

abbrev pub CanGoOn : Body → Option ℕ → Row → List Lob → Type 0
CanGoOn (inserted page) last before lobs = Unit {0}
CanGoOn (rebuilt page) last before lobs = Unit {0}
CanGoOn (versioned pieces touched) last before lobs = CanPopOn last touched before lobs
CanGoOn (patched old) last before lobs = Unit {0}
CanGoOn removed last before lobs = Unit {0}

-- ---- a record that becomes the newest

-- they are pieces of it, in ascending order, and every piece whose newest version is above v is
-- among them and has one before it
pub record IsRaised (touched : List ℕ) (v : ℕ) (l : Lob) : Type 0 where
  pub ascending : AreAscending touched
  pub below : AreBelow (length l.pieces) touched
  pub low : AreLowBut None touched v l.pieces
  pub older : (k : ℕ) → CanPop k v l

-- in each LOB that begins in that page
abbrev pub InLob : ℕ → List Lob → (Lob → Type 0) → Type 0
InLob page lobs P = (l : Lob) → lob_of lobs page ≡ Some l → P l

abbrev pub IsUndoable : Body → Row → List Lob → Type 0
IsUndoable (inserted page) before lobs = InLob page lobs IsSingle
IsUndoable (rebuilt page) before lobs = InLob page lobs IsSingle
IsUndoable (versioned pieces touched) before lobs =
    InLob before.lob.page lobs (IsRaised touched before.lob.version)
IsUndoable (patched old) before lobs = (different (run_pages old) ≤ 4)
    × InLob before.lob.page lobs (λ l. LieIn old (versions l.pieces))
IsUndoable removed before lobs = Unit {0}

abbrev pub undone_lobs : Body → Row → List Lob → List Lob
undone_lobs body before lobs = unmade body before (emptied body before lobs)

-- the newest first
abbrev pub AreUndoable : List (Address × Record) → List Lob → Type 0
AreUndoable [] lobs = Unit {0}
AreUndoable (u ∷ us) lobs = IsUndoable u.1.body u.1.before lobs
    × AreUndoable us (undone_lobs u.1.body u.1.before lobs)
