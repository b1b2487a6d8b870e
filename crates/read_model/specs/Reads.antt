-- All reads under way, of any documents.
--     AreReads      each of them is as it must be over the store
--     handed, shifted      what an undo step does to a read
--     MaySee      each read's view passes a test
use Rattle.std.specs.Prelude.{ℕ, List, [], ◌∷◌, Option, ◌==◌, if◌then◌else◌}
use Rattle.page_model.specs.Pages.{Address}
use Rattle.store_data.specs.Pieces.{Part}
use Rattle.store_data.specs.Store.{Record, Store}
use Rattle.read_model.specs.Document.{Sees}
use Rattle.read_model.specs.Flight.{Flight, IsFlight}
use Rattle.read_model.specs.Steps.{hand_on, moved}
use Rattle.read_model.specs.OfStore.{document}

pub record Read : Type 0 where
  pub doc : ℕ
  pub sees : Sees
  -- what it is to show
  pub shown : Option (List Part)
  pub flight : Flight

abbrev pub IsRead : Store → Read → Type 0
IsRead store r = IsFlight r.sees (document store r.doc) r.shown r.flight

abbrev pub AreReads : Store → List Read → Type 0
AreReads store [] = Unit {0}
AreReads store (r ∷ rs) = IsRead store r × AreReads store rs

abbrev pub MaySee : (Read → Type 0) → List Read → Type 0
MaySee P [] = Unit {0}
MaySee P (r ∷ rs) = P r × MaySee P rs

-- a record of that document goes
abbrev pub handed : ℕ → Address → Record → Read → Read
handed d a u r = record r { flight = if r.doc == d then hand_on a u r.flight else r.flight }

-- a node of a version list is freed
abbrev pub shifted : Address → Address → Read → Read
shifted node head r = record r { flight = moved node head r.flight }
