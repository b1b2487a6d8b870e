-- The search of a read for the row that its view sees.
--     begun      the read, where its first event begins
--     sees_in      what the view of a read sees
--     GoesBack, Finds      the row before, and the row at which an event ends
use Rattle.std.specs.Prelude.{◌≡◌, ◌≢◌, ℕ, suc, List, true, false, Option, Some, None, IfSome}
use Rattle.slab.specs.Slab.{Slab}
use Rattle.store_data.specs.Pieces.{Part}
use Rattle.store_data.specs.Store.{Row as StoreRow}
use Rattle.undo_records.specs.declared.record_type.Row.{Row}
use Rattle.read_model.specs.Document.{Document, Sees}
use Rattle.read_model.specs.Flight.{Flight, IsFlight}
use Rattle.read_model.specs.Steps.{judging, seek}
use Rattle.read_views.specs.Flights.{row_read}
use Rattle.read_views.specs.Views.{ReadView, view_in, sees_of}
use Rattle.read_views.specs.declared.views.View.{View}

-- before its first event it has no row, and judges the document's present one
abbrev pub begun : Option Row → Option Row → Flight → Flight
begun None present f = judging (row_read present)
begun (Some row) present f = f

abbrev pub sees_by : Option ReadView → Sees
sees_by None = λ trx. false
sees_by (Some v) = sees_of v

-- without a view it sees all
abbrev pub sees_in : Slab View → Option ℕ → Sees
sees_in views None = λ trx. true
sees_in views (Some key) = sees_by (view_in views key)

abbrev pub IsOpen : Slab View → Option ℕ → Type 0
IsOpen views view = IfSome view (λ key. view_in views key ≢ None)

-- what a search of one row more does from the one row, the search does from the other
pub record GoesBack (sees : Sees) (doc : Document) (shown : Option (List Part))
    (row before : StoreRow) : Type 0 where
  pub on : (n : ℕ) → seek (suc n) sees doc row ≡ seek n sees doc before
  pub kept : IsFlight sees doc shown (judging before)

-- a search of up to eight rows behind the one ends at the other
pub record Finds (sees : Sees) (doc : Document) (row end : StoreRow) : Type 0 where
  pub same : seek 8 sees doc row ≡ seek 0 sees doc end
