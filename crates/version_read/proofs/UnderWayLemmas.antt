-- A read between two events.
use Rattle.std.proofs.Common.{◌≡◌, inl, ℕ, List, [], Option, Some, None, refl, sym, ap, subst, ◌∙◌}
use Rattle.page_model.specs.Pages.{Pages}
use Rattle.engine_base.specs.declared.ids.DocId.{DocId}
use Rattle.store_data.specs.Pieces.{Part}
use Rattle.store_data.specs.Store.{Row as StoreRow, Store}
use Rattle.store_parts.specs.Shows.{IsStore}
use Rattle.row_dir.specs.Directory.{IsDirectory}
use Rattle.row_dir.specs.declared.dir.RowDir.{RowDir}
use Rattle.undo_records.specs.declared.record_type.Row.{Row}
use Rattle.read_model.specs.Patches.{Entry}
use Rattle.read_model.specs.Document.{Document, Sees, AreDistinct, IsVisible, content}
use Rattle.read_model.specs.Flight.{Phase as ReadPhase, Flight as Read, lent, IsFlightIn, IsFlight}
use Rattle.read_model.specs.Steps.{judging}
use Rattle.read_model.specs.OfStore.{document}
use Rattle.read_views.specs.Flights.{flight_of, phase_of}
use Rattle.read_views.specs.declared.flight.Flight.{Flight}
use Rattle.read_views.specs.declared.flight.Phase.{Phase}
use Rattle.read_views.specs.declared.flight.Phase.TheVariants.{Seek, Found, Pieces}
use Rattle.version_read.specs.Lent.{IsLent, IsLentIn}
use Rattle.version_read.specs.Reads.{read_in, read_at, document_of, IsUnderWay, StepsOn}

pub started : (told : Option Pages) (pages : Pages) (store : Store) (dir : RowDir) (sees : Sees)
    (f : Flight) → told ≡ Some pages → (is : IsStore pages store) → IsDirectory dir is.stored.rows
    → AreDistinct (document_of store f).records → (above older : List Entry) (v : StoreRow)
    → IsVisible sees (document_of store f) above older v → f.phase ≡ Seek → f.row ≡ None
    → IsUnderWay told pages store dir sees (content store.lobs v above) f
started told pages store dir sees f told' is directory distinct above older v visible phase none =
    let doc = document_of store f in
    let at : read_at doc f ≡ judging doc.row =
    ap (λ (p : Phase). read_in p f.row doc.row (flight_of f)) phase
    ∙ ap (λ (r : Option Row). read_in Seek r doc.row (flight_of f)) none in
    record {
      told' = told';
      is = is;
      directory = directory;
      distinct = distinct;
      flight = subst (λ (g : Read). IsFlight sees doc (content store.lobs v above) g) (sym at)
          (inl (record {
            passed = [];
            rest = above;
            older = older;
            v = v;
            visible = visible;
            holds = refl;
            judged = refl;
          }));
      lent = subst (λ (p : Phase). IsLentIn p store.lobs f) (sym phase) tt;
    }

pub stays : (told : Option Pages) (pages : Pages) (store : Store) (dir : RowDir) (sees : Sees)
    (shown : Option (List Part)) (old new : Flight)
    → IsUnderWay told pages store dir sees shown old → StepsOn sees store shown old new
    → new.doc ≡ old.doc → IsUnderWay told pages store dir sees shown new
stays told pages store dir sees shown old new u steps same =
    let of : document_of store old ≡ document_of store new =
    ap (λ (d : DocId). document store d.0) (sym same) in
    record {
      told' = u.told';
      is = u.is;
      directory = u.directory;
      distinct = subst (λ (doc : Document). AreDistinct doc.records) of u.distinct;
      flight = subst (λ (doc : Document). IsFlight sees doc shown (read_at doc new)) of steps.kept;
      lent = steps.lent;
    }

pub lent_on : (told : Option Pages) (pages : Pages) (store : Store) (dir : RowDir) (sees : Sees)
    (shown : Option (List Part)) (old new : Flight) (n : ℕ)
    → IsUnderWay told pages store dir sees shown old → old.phase ≡ Found n
    → flight_of new ≡ lent (flight_of old) → new.phase ≡ Pieces → new.doc ≡ old.doc
    → IsLent store.lobs new → IsUnderWay told pages store dir sees shown new
lent_on told pages store dir sees shown old new n u phase lends pieces same fits =
    let doc = document_of store old in
    let of : doc ≡ document_of store new = ap (λ (d : DocId). document store d.0) (sym same) in
    let kept : IsFlight sees doc shown (flight_of old) =
    subst (λ (g : Read). IsFlight sees doc shown g)
    (ap (λ (p : Phase). read_in p old.row doc.row (flight_of old)) phase) u.flight in
    let c = subst (λ (p : ReadPhase). IsFlightIn p sees doc shown (flight_of old))
    (ap phase_of phase) kept in
    let at : read_at doc new ≡ lent (flight_of old) =
    ap (λ (p : Phase). read_in p new.row doc.row (flight_of new)) pieces ∙ lends in
    let is : IsFlight sees doc shown (read_at doc new) =
    subst (λ (g : Read). IsFlight sees doc shown g) (sym at) (c.0, c.1, c.2) in
    record {
      told' = u.told';
      is = u.is;
      directory = u.directory;
      distinct = subst (λ (d : Document). AreDistinct d.records) of u.distinct;
      flight = subst (λ (d : Document). IsFlight sees d shown (read_at d new)) of is;
      lent = subst (λ (p : Phase). IsLentIn p store.lobs new) (sym pieces) fits;
    }
