-- How far an event by event walk over touched pieces has come.
--     piece_in      the piece that was reached last
--     IsFit      what is kept of it lies within so many pages
--     IsHeadAt      the place that is kept is that of its head
--     AreBelow      these pieces are of so many
use Rattle.std.specs.Prelude.{◌≡◌, ℕ, ◌+◌, ◌^◌, ◌<◌, List, [], ◌∷◌, map, Option, Some, None, IfSome}
use Rattle.engine_base.specs.Addresses.{address_of}
use Rattle.store_data.specs.Store.{Lob}
use Rattle.lob_model.specs.Pieces.{head_place}
use Rattle.lob_index.specs.Heads.{nth}
use Rattle.lob_pages.specs.Entries.{FitsPage}
use Rattle.store_steps.specs.declared.reached.Reached.{Reached}

abbrev pub piece_in : Option Reached → Option ℕ
piece_in None = None
piece_in (Some r) = Some r.piece

abbrev pub IsFit : ℕ → Option Reached → Type 0
IsFit count last = IfSome last
    (λ r. FitsPage count (address_of r.head) × (r.piece + 1 < 2 ^ 32))

abbrev pub IsHeadAt : Option Reached → Lob → Type 0
IsHeadAt last m = IfSome last
    (λ r. Some (address_of r.head) ≡ nth r.piece (map head_place m.pieces))

abbrev pub AreBelow : ℕ → List ℕ → Type 0
AreBelow n [] = Unit {0}
AreBelow n (k ∷ ks) = (k < n) × AreBelow n ks
