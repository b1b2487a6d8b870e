-- The record to which a read comes next, and the events of a read.
--     NextIn      it is one of its document's, and the read behind it is as it must be
--     IsReading      these pages are a store, and the read is as it must be over it
--     GoesOn      one record less is left to put back
--     Does      the event of a read
use Rattle.std.specs.Prelude.{◌≡◌, ℕ, suc, List, length, Option, Some, false}
use Rattle.page_model.specs.Pages.{Pages, Address}
use Rattle.store_data.specs.Pieces.{Part}
use Rattle.store_data.specs.Store.{Record, Store}
use Rattle.store_model.specs.Undo.{record_at}
use Rattle.store_parts.specs.Shows.{IsStore}
use Rattle.undo_model.specs.Data.{led}
use Rattle.undo_model.specs.Reading.{is_place}
use Rattle.read_model.specs.Document.{Document, Sees, AreDistinct}
use Rattle.read_model.specs.Flight.{Flight, IsFlight}
use Rattle.read_model.specs.Steps.{put, walk, step}
use Rattle.read_model.specs.OfStore.{document}
use Rattle.read_views.specs.declared.flight.Flight.{Flight as FlightThere}

pub record NextIn (sees : Sees) (doc : Document) (shown : Option (List Part)) (a : Address)
    (onto : Record → Flight) : Type 0 where
  pub r : Record
  pub found : record_at doc.records a ≡ Some r
  pub kept : IsFlight sees doc shown (onto r)

-- the record there, one of the document's, was put back
pub record PutsNext (sees : Sees) (doc : Document) (shown : Option (List Part)) (a : Address)
    (old new : Flight) : Type 0 where
  pub r : Record
  pub found : record_at doc.records a ≡ Some r
  pub is : new ≡ put r old
  pub kept : IsFlight sees doc shown new

-- the roll pointer leads to no place where a record fits
pub record LeadsNowhere (count roll : ℕ) : Type 0 where
  pub a : Address
  pub leads : led roll ≡ Some a
  pub outside : is_place count a.page a.at ≡ false

-- a read of document d that is to show these parts, or no document
pub record IsReading (told : Option Pages) (pages : Pages) (store : Store) (d : ℕ) (sees : Sees)
    (shown : Option (List Part)) (f : Flight) : Type 0 where
  pub told' : told ≡ Some pages
  pub is : IsStore pages store
  pub distinct : AreDistinct (document store d).records
  pub flight : IsFlight sees (document store d) shown f

-- what a walk of one record more does from the old read, the walk does from the new one
pub record GoesOn (sees : Sees) (doc : Document) (shown : Option (List Part))
    (old new : Flight) : Type 0 where
  pub on : (n : ℕ) → walk (suc n) doc old ≡ walk n doc new
  pub kept : IsFlight sees doc shown new

-- the event of a read, which is to show the same
pub record Does (sees : Sees) (doc : Document) (shown : Option (List Part))
    (old new : Flight) : Type 0 where
  pub is : new ≡ step sees doc old
  pub kept : IsFlight sees doc shown new

-- what an event leaves that copies no piece
pub record KeepsBuffer (old new : FlightThere) : Type 0 where
  pub view : new.view ≡ old.view
  pub doc : new.doc ≡ old.doc
  pub piece : new.piece ≡ old.piece
  pub from : new.from ≡ old.from
  pub buffer : length new.buffer.items ≡ length old.buffer.items
