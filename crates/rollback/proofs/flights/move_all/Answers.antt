use Rattle.std.proofs.Common.{length, ap, get_or}
use Rattle.engine_base.specs.Addresses.{address_of}
use Rattle.read_views.specs.Flights.{KeepsPlaces}
use Rattle.rollback.specs.Flights.{led_on}
use Rattle.rollback.proofs.FlightLemmas.{turned_step}
use Rattle.rollback.proofs.flights.move_all.Goals as goal

pub loop-flight-preserved : goal.loop-flight-preserved
loop-flight-preserved c =
    let lent = c.moved.ensures.of in
    let f = get_or c.loop-flight.flights c.loop-flight.flight-index c.flight-item.result in
    let keeps : KeepsPlaces f c.moved.new.self = record {
      view = lent.view;
      doc = lent.doc;
      phase = c.moved.ensures.row.1;
      piece = lent.piece;
      head = lent.head;
      from = lent.from;
      buffer = ap (λ b. length b.items) lent.buffer;
    } in
    turned_step (led_on (address_of c.args.node) (address_of c.args.head)) c.loop-flight.flight-index
    c.args.flights.now c.loop-flight.flights c.flight-item.result c.moved.new.self c.loop-flight-test.true
    c.loop-flight.auto.flights c.loop-flight.invariant c.moved.ensures.read keeps
