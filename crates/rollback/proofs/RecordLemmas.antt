-- The record that was read, by its kind.
use Rattle.std.proofs.Common.{◌≡◌, ◌<◌, ◌≤◌, ℕ, List, [], ◌∷◌, Option, Some, None, Result, Ok, Err, IfOk, refl, ap, sym, subst, ◌∙◌, lit≤, arith}
use Rattle.page_model.specs.Pages.{Pages, AreWhole}
use Rattle.page_model.specs.Steps.{PageState, Uses}
use Rattle.page_model.proofs.StepLemmas.{uses_unnamed, uses_at_most}
use Rattle.store_data.specs.Store.{Body, Record, Lob}
use Rattle.undo_records.specs.declared.record_type.Body.{Body as BodyThere}
use Rattle.store_parts.specs.Shows.{body_of as shown_body}
use Rattle.undo_records.specs.Records.{body_of}
use Rattle.read_views.specs.declared.flight.Flight.{Flight}
use Rattle.engine_base.specs.Addresses.{address_of}
use Rattle.read_views.specs.Flights.{record_in}
use Rattle.store_model.specs.Lobs.{lob_of}
use Rattle.store_steps.specs.Standing.{StandsOn}
use Rattle.store_steps.specs.Reached.{IsHeadAt}
use Rattle.undo_model.proofs.OptionLemmas.{some_some}
use Rattle.engine_base.specs.declared.fault.Fault.{Fault}
use Rattle.rollback.specs.declared.raised.Left.{Left}
use Rattle.rollback.specs.Kinds.{IsHeadIn}
use Rattle.store_steps.proofs.LobLemmas.{lob_at}
use Rattle.rollback.specs.declared.newest.Newest.{Newest}
use Rattle.rollback.specs.Ends.{IsNewest}
use Rattle.rollback.specs.Events.{Event, ends, due_for}
use Rattle.rollback.specs.Flights.{AreTurned, handed}
use Rattle.rollback.specs.Made.{event_for, event_turn}
use Rattle.rollback.specs.Standing.{Scene, IsAt}
use Rattle.rollback.proofs.KindLemmas.{turned_ended}

-- the scene behind a read
pub at_same : (told now : Option Pages) (first : ℕ) (s : Scene) → IsAt told first s → now ≡ told
    → IsAt now first s
at_same told now first s at same = record {
  told' = same ∙ at.told';
  stands = at.stands;
  found = at.found;
  page = at.page;
  records = at.records;
}

-- the body of the scene's record is that of the one that was read
pub body_is : (n : Newest) (s : Scene) (b : BodyThere) → IsNewest n s → n.rec.body ≡ b → s.undo.body ≡ shown_body (body_of b)
body_is n s b newest is = sym (ap (λ (u : Record). u.body) newest.undo) ∙ ap (λ (x : BodyThere). shown_body (body_of x)) is

-- the reads, where the record's last event is due
pub turned_at_end : (s : Scene) (n : Newest) (b : Body) (o : Option ℕ) (fs gs : List Flight) → IsNewest n s → s.undo.body ≡ b
    → ends ≡ due_for b s.undo.before s.store.lobs o
    → AreTurned (handed (address_of n.place) (record_in n.rec)) fs gs → AreTurned (event_turn (event_for s o) s) fs gs
turned_at_end s n b o fs gs newest is due turned =
    let P : Body → Type 0 = λ x. AreTurned (event_turn (due_for x s.undo.before s.store.lobs o) s) fs gs in
    let Q : Event → Type 0 = λ e. AreTurned (event_turn e s) fs gs in
    subst P (sym is) (subst Q due (turned_ended s n newest None fs gs refl turned))

-- an event on a LOB touches its first page as one more
pub one_more : {T : Type 0} {state : T → PageState} {stays : T → T → Type 0} (page log b : ℕ) (s t : T) → b ≤ 1_030
    → Uses state stays (page ∷ log ∷ 0 ∷ []) 9 b s t → Uses state stays (log ∷ 0 ∷ []) 10 1_030 s t
one_more page log b s t short uses = uses_at_most (log ∷ 0 ∷ []) 10 b 10 1_030 s t (lit≤ tt) short (uses_unnamed page (log ∷ 0 ∷ []) 9 b s t uses)

-- the LOB whose versions were raised begins in a page
pub lob_below : (s : Scene) (l : Lob) (page count : ℕ) → AreWhole s.pages count → StandsOn s.there s.pages s.store
    → lob_of s.store.lobs page ≡ Some l → page < count
lob_below s l page count whole on found =
    let a = lob_at s.there s.pages s.store page l on found in
    let t = a.stands.first.there in
    let m = whole.many in
    let h = a.here in
    omega (arith, t, m, h)

-- a head in the one LOB that begins in that page is one in each
pub head_in : (s : Scene) (m : Lob) (r : Result Left Fault) → lob_of s.store.lobs s.undo.before.lob.page ≡ Some m
    → IfOk r (λ l. IsHeadAt l.reached m) → IfOk r (λ l. IsHeadIn l.reached s)
head_in s m (Err f) found head = tt
head_in s m (Ok x) found head = λ l is. subst (λ (n : Lob). IsHeadAt x.reached n) (some_some m l (sym found ∙ is)) head
