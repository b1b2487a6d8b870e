-- A read of the code over the pages of a store.
--     read_at      the read, which begins at the document's present row
--     IsUnderWay      it is as it must be between two events
--     StepsOn      an event of it: what the read does by it, and that it is as it must be behind it
use Rattle.std.specs.Prelude.{◌≡◌, ℕ, List, Option, Some, None, IsSome, option_map}
use Rattle.page_model.specs.Pages.{Pages}
use Rattle.store_data.specs.Pieces.{Part}
use Rattle.store_data.specs.Store.{Row as StoreRow, Store}
use Rattle.store_model.specs.Lobs.{joined}
use Rattle.store_parts.specs.Shows.{IsStore}
use Rattle.undo_records.specs.declared.record_type.Row.{Row}
use Rattle.row_dir.specs.Directory.{IsDirectory}
use Rattle.row_dir.specs.declared.dir.RowDir.{RowDir}
use Rattle.read_model.specs.Document.{Document, Sees, AreDistinct}
use Rattle.read_model.specs.Flight.{Flight as Read, IsFlight}
use Rattle.read_model.specs.Steps.{judging, step}
use Rattle.read_model.specs.OfStore.{document}
use Rattle.read_views.specs.Flights.{flight_of, row_read}
use Rattle.read_views.specs.declared.flight.Flight.{Flight}
use Rattle.read_views.specs.declared.flight.Phase.{Phase}
use Rattle.read_views.specs.declared.flight.Phase.TheVariants.{Seek, Found, Pieces, Unpatch, Ready, Absent}
use Rattle.version_read.specs.Lent.{IsLentIn}

abbrev pub read_in : Phase → Option Row → StoreRow → Read → Read
read_in Seek None present f = judging present
read_in Seek (Some row) present f = f
read_in (Found n) row present f = f
read_in Pieces row present f = f
read_in Unpatch row present f = f
read_in Ready row present f = f
read_in Absent row present f = f

abbrev pub read_at : Document → Flight → Read
read_at doc f = read_in f.phase f.row doc.row (flight_of f)

abbrev pub document_of : Store → Flight → Document
document_of store f = document store f.doc.0

-- over these pages, which are a store, with a directory of its rows: a read that is to show these
-- parts, or no document
pub record IsUnderWay (told : Option Pages) (pages : Pages) (store : Store) (dir : RowDir)
    (sees : Sees) (shown : Option (List Part)) (f : Flight) : Type 0 where
  pub told' : told ≡ Some pages
  pub is : IsStore pages store
  pub directory : IsDirectory dir is.stored.rows
  pub distinct : AreDistinct (document_of store f).records
  pub flight : IsFlight sees (document_of store f) shown (read_at (document_of store f) f)
  pub lent : IsLentIn f.phase store.lobs f

pub record StepsOn (sees : Sees) (store : Store) (shown : Option (List Part))
    (old new : Flight) : Type 0 where
  pub is : flight_of new ≡ step sees (document_of store old) (read_at (document_of store old) old)
  pub kept : IsFlight sees (document_of store old) shown (read_at (document_of store old) new)
  pub lent : IsLentIn new.phase store.lobs new
  -- a document is to be shown, of so many bytes
  pub found : (n : ℕ) → new.phase ≡ Found n
      → IsSome shown × (n ≡ (row_read new.row).lob.length)
  -- at its end the buffer is what is to be shown
  pub bytes : new.phase ≡ Ready → option_map joined shown ≡ Some new.buffer.items
  pub absent : new.phase ≡ Absent → shown ≡ None
