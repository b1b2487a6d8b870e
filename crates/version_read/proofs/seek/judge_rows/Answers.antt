use Rattle.std.proofs.Common.{ℕ, refl, ap}
use Rattle.file_lists.proofs.LinkLemmas.{handed_on}
use Rattle.read_model.specs.Document.{Sees}
use Rattle.read_model.specs.Flight.{Flight as Read}
use Rattle.read_model.specs.OfStore.{document}
use Rattle.read_views.specs.Flights.{flight_of, phase_of, row_in}
use Rattle.version_read.specs.Seeks.{sees_in, begun}
use Rattle.version_read.proofs.SeekLemmas.{begins, reading_row, seek_does}
use Rattle.version_read.proofs.seek.judge_rows.Goals as goal

pub returns-in_err-row-clause-never : goal.returns-in_err-row-clause-never
returns-in_err-row-clause-never g c = λ pages store shown reading.
    let d : ℕ = c.args.flight.now.doc.0 in
    let sees : Sees = sees_in c.args.views.now c.args.flight.now.view in
    let first = c.first_row-first in
    let b = begins c.args.flight.now.row c.args.present first.result (flight_of c.args.flight.now)
    (ap phase_of c.requires.phase) refl first.ensures.next first.ensures.present in
    let on = reading_row _ pages store d sees shown _ (row_in first.result) b reading in
    handed_on c.row_sought.result _ _ (c.row_sought.ensures.never pages store d shown on)
    c.in_err-row.was c.from_residual.ensures

pub returns-clause-judges : goal.returns-clause-judges
returns-clause-judges g c = λ pages store shown reading.
    let d : ℕ = c.args.flight.now.doc.0 in
    let sees : Sees = sees_in c.args.views.now c.args.flight.now.view in
    let first = c.first_row-first in
    let old : Read = begun c.args.flight.now.row c.args.present (flight_of c.args.flight.now) in
    let b = begins c.args.flight.now.row c.args.present first.result (flight_of c.args.flight.now)
    (ap phase_of c.requires.phase) refl first.ensures.next first.ensures.present in
    let on = reading_row _ pages store d sees shown old (row_in first.result) b reading in
    seek_does _ pages store d sees shown old (flight_of c.judge.new.flight) (row_in first.result)
    (row_in c.in_ok-row.row) b reading (c.in_ok-row.ensures.finds pages store d shown on)
    (c.judge.ensures.read (document store d))
