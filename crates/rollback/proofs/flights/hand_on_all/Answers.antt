use Rattle.std.proofs.Common.{◌≡◌, Option, IfSome, get_or, subst}
use Rattle.page_model.specs.Pages.{Address}
use Rattle.engine_base.specs.Addresses.{address_of}
use Rattle.read_views.specs.Flights.{record_in, flight_of, handed_to}
use Rattle.rollback.specs.Flights.{handed}
use Rattle.rollback.proofs.FlightLemmas.{turned_step}
use Rattle.rollback.proofs.flights.hand_on_all.Goals as goal

pub loop-flight-preserved : goal.loop-flight-preserved
loop-flight-preserved c =
    let n = c.args.newest.now in
    let f = get_or c.loop-flight.flights c.loop-flight.flight-index c.flight-item.result in
    let P : Option Address → Type 0 = λ o. IfSome o (λ b. flight_of c.hand_on.new.self
    ≡ handed_to f.doc.0 b (record_in n.rec) (flight_of f)) in
    turned_step (handed (address_of n.place) (record_in n.rec)) c.loop-flight.flight-index
    c.args.flights.now c.loop-flight.flights c.flight-item.result c.hand_on.new.self c.loop-flight-test.true
    c.loop-flight.auto.flights c.loop-flight.invariant
    (subst P c.requires.leads c.hand_on.ensures.read) c.hand_on.ensures.of
