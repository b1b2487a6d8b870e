-- Old bytes of undo records put back over parts: bytes with the page, and the place in it, where
-- they stand or from which they were copied.
--     runs, back      one record's old bytes; those of a list of records, the newest first
--     AreAtSamePlaces      new bytes and the old ones in whose places they are written
--     AreMadeOn      records made on a page, one after the other, since a part was copied
use Rattle.std.specs.Prelude.{◌≡◌, List, [], ◌∷◌, length}
use Rattle.page_model.specs.Pages.{Address}
use Rattle.store_data.specs.Pieces.{Part}
use Rattle.store_data.specs.Store.{Run, Record}
use Rattle.store_model.specs.Runs.{all_laid, old_runs}

-- a record at its address
abbrev pub Entry : Type 0
Entry = Address × Record

abbrev pub runs : Entry → List Run
runs e = old_runs e.1.body

abbrev pub back : List Entry → Part → Part
back [] part = part
back (e ∷ es) part = back es (all_laid (runs e) part)

abbrev pub AreAtSamePlaces : List Run → List Run → Type 0
AreAtSamePlaces [] [] = Unit {0}
AreAtSamePlaces [] (q ∷ qs) = ⊥
AreAtSamePlaces (p ∷ ps) [] = ⊥
AreAtSamePlaces (p ∷ ps) (q ∷ qs) =
    (p.page ≡ q.page) × (p.at ≡ q.at) × (length p.bytes ≡ length q.bytes) × AreAtSamePlaces ps qs

-- what was copied from a page, and what stands there now: each of the records leads from the part
-- behind it to the part before it
abbrev pub AreMadeOn : Part → List Entry → Part → Type 0
AreMadeOn copied [] now = now ≡ copied
AreMadeOn copied (e ∷ es) now =
    (before : Part) × AreMadeOn copied es before × (all_laid (runs e) now ≡ before)
