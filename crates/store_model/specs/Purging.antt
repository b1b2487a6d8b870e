-- What purge leaves: all that is shown to who sees the purged transaction.
--     SeesSame trx d old new      where this transaction is seen, the document is seen as before
--     AllTo trx P row cs      P holds of the rows from the newest down to the first of this
--         transaction
--     Meets trx row cs      one of the rows is this transaction's
--     NumberedTo n logs      no log has a number above n
use Rattle.std.specs.Prelude.{◌≡◌, ◌⊎◌, ◌≤◌, ℕ, Bool, true, List, [], ◌∷◌, Some, is_some}
use Rattle.store_data.specs.Pieces.{piece_at, dropped}
use Rattle.store_data.specs.Store.{live, Row, Lob, Log, Store}
use Rattle.store_model.specs.Lobs.{lob_of}
use Rattle.store_model.specs.History.{Change, history, seen}
use Rattle.store_model.specs.Behind.{AtPiece}

abbrev pub SeesSame : ℕ → ℕ → Store → Store → Type 0
SeesSame trx d old new =
    (sees : ℕ → Bool) → sees trx ≡ true → seen sees (history new d) ≡ seen sees (history old d)

abbrev pub AllTo : ℕ → (Row → Type 0) → Row → List Change → Type 0
AllTo trx P row [] = P row
AllTo trx P row (c ∷ cs) = P row × ((row.trx ≡ trx) ⊎ AllTo trx P c.undo.before cs)

abbrev pub Meets : ℕ → Row → List Change → Type 0
Meets trx row [] = row.trx ≡ trx
Meets trx row (c ∷ cs) = (row.trx ≡ trx) ⊎ Meets trx c.undo.before cs

-- a live row of this LOB finds its version of the k-th piece without the oldest one
abbrev pub FindsWithout : ℕ → ℕ → List Lob → Row → Type 0
FindsWithout page k lobs row =
    row.state ≡ live → row.lob.page ≡ page → (l : Lob) → lob_of lobs page ≡ Some l
    → AtPiece k (λ p. is_some (piece_at (dropped p) row.lob.version) ≡ true) l.pieces

abbrev pub NumberedTo : ℕ → List Log → Type 0
NumberedTo n [] = Unit {0}
NumberedTo n (l ∷ ls) = (l.number ≤ n) × NumberedTo n ls
