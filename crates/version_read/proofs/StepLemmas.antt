-- What an event leaves of a read, in each phase.
use Rattle.std.proofs.Common.{◌≡◌, ℕ, ◌++◌, List, Option, Some, IsSome, option_map, refl, sym, ap, subst, ◌∙◌, append-nil}
use Rattle.store_data.specs.Pieces.{Part}
use Rattle.store_data.specs.Store.{Store}
use Rattle.store_model.specs.Lobs.{joined}
use Rattle.read_model.specs.Document.{Document, Sees}
use Rattle.read_model.specs.Flight.{Phase as ReadPhase, Flight as Read, IsFlightIn, IsFlight}
use Rattle.read_model.specs.Steps.{step}
use Rattle.read_model.specs.Buffer.{parts_in}
use Rattle.read_model.proofs.BufferLemmas.{parts_joined}
use Rattle.read_views.specs.Flights.{flight_of, phase_of, row_read, copied_in, pages_copied}
use Rattle.read_views.specs.declared.flight.Flight.{Flight}
use Rattle.read_views.specs.declared.flight.Phase.{Phase}
use Rattle.read_views.specs.declared.flight.Phase.TheVariants.{Found, Ready, Absent}
use Rattle.version_read.specs.Lent.{IsAllCopied, IsLentIn}
use Rattle.version_read.specs.Reads.{read_in, read_at, document_of, StepsOn}

-- at its end the buffer is what is to be shown
shown_bytes : (sees : Sees) (doc : Document) (shown : Option (List Part)) (f : Flight)
    → f.phase ≡ Ready → IsAllCopied f → IsFlight sees doc shown (flight_of f)
    → option_map joined shown ≡ Some f.buffer.items
shown_bytes sees doc shown f phase all kept =
    let lob : ℕ = (row_read f.row).lob.page in
    let parts : List Part = parts_in lob (pages_copied f) f.buffer.items in
    let is : shown ≡ Some (flight_of f).copied =
    subst (λ (p : ReadPhase). IsFlightIn p sees doc shown (flight_of f)) (ap phase_of phase) kept in
    let copied : (flight_of f).copied ≡ parts = ap (λ (p : Phase). copied_in p parts) phase in
    let whole : joined parts ≡ f.buffer.items =
    sym (append-nil (joined parts)) ∙ ap (λ (l : List ℕ). joined parts ++ l) (sym all)
    ∙ parts_joined lob (pages_copied f) f.buffer.items in
    ap (option_map joined) is
    ∙ ap (λ (ps : List Part). Some (joined ps)) copied ∙ ap (λ (l : List ℕ). Some l) whole

is_some : {A : Type 0} (o : Option A) (x : A) → o ≡ Some x → IsSome o
is_some o x e = subst (λ (q : Option _). IsSome q) (sym e) refl

pub steps_by : (sees : Sees) (store : Store) (shown : Option (List Part)) (old new : Flight)
    → flight_of new ≡ step sees (document_of store old) (read_at (document_of store old) old)
    → IsFlight sees (document_of store old) shown (read_at (document_of store old) new)
    → IsLentIn new.phase store.lobs new → StepsOn sees store shown old new
steps_by sees store shown old new is kept lent =
    let doc = document_of store old in
    let in_phase : (p : Phase) → new.phase ≡ p → read_in p new.row doc.row (flight_of new)
    ≡ flight_of new → IsFlightIn (phase_of p) sees doc shown (flight_of new) =
    λ p e same. subst (λ (q : Phase). IsFlightIn (phase_of q) sees doc shown (flight_of new)) e
    (subst (λ (g : Read). IsFlight sees doc shown g)
    (ap (λ (q : Phase). read_in q new.row doc.row (flight_of new)) e ∙ same) kept) in
    record {
      is = is;
      kept = kept;
      lent = lent;
      found = λ n e.
          let f = in_phase (Found n) e refl in
          (is_some shown f.0 f.1, f.3);
      bytes = λ e. shown_bytes sees doc shown new e
          (subst (λ (p : Phase). IsLentIn p store.lobs new) e lent)
          (subst (λ (g : Read). IsFlight sees doc shown g)
          (ap (λ (q : Phase). read_in q new.row doc.row (flight_of new)) e) kept);
      absent = λ e. in_phase Absent e refl;
    }
