use Rattle.std.proofs.Common.{◌≡◌, refl, sym, ap, subst, ◌∙◌}
use Rattle.page_model.specs.Pages.{Address}
use Rattle.engine_base.specs.Addresses.{address_of}
use Rattle.store_data.specs.Store.{Record}
use Rattle.store_parts.specs.Shows.{record_of as shown_record}
use Rattle.read_model.specs.Flight.{Flight as Read, IsFlight}
use Rattle.read_model.specs.Steps.{put}
use Rattle.read_model.specs.OfStore.{document}
use Rattle.read_views.specs.Flights.{flight_of, phase_of, record_in}
use Rattle.file_lists.proofs.LinkLemmas.{handed_on}
use Rattle.version_read.proofs.RecordLemmas.{records_stand, found_stands}
use Rattle.version_read.proofs.NextLemmas.{next_of_walk}
use Rattle.version_read.proofs.walk.put_next.Goals as goal

pub returns-in_err-rec-clause-of : goal.returns-in_err-rec-clause-of
returns-in_err-rec-clause-of g c = record {
  view = refl;
  doc = refl;
  phase = refl;
  piece = refl;
  head = refl;
  from = refl;
  buffer = refl;
}

pub returns-in_err-rec-clause-uses : goal.returns-in_err-rec-clause-uses
returns-in_err-rec-clause-uses g c =
    c.at.ensures.uses (address_of c.args.place) c.requires.leads

pub returns-clause-uses : goal.returns-clause-uses
returns-clause-uses g c = c.at.ensures.uses (address_of c.args.place) c.requires.leads

pub returns-in_err-rec-clause-never : goal.returns-in_err-rec-clause-never
returns-in_err-rec-clause-never g c = λ pages store d sees shown reading.
    let a : Address = address_of c.args.place in
    let n = next_of_walk sees (document store d) shown (flight_of c.args.flight.now)
    reading.distinct (ap phase_of c.requires.phase) reading.flight a c.requires.leads in
    let s = found_stands pages (document store d).records (records_stand pages store reading.is d)
    a n.r n.found in
    handed_on c.at.result _ _ (c.at.ensures.never pages a s.there s.previous reading.told'
    c.requires.leads s.stands) c.in_err-rec.was c.from_residual.ensures

pub returns-clause-puts : goal.returns-clause-puts
returns-clause-puts g c = λ pages store d sees shown reading.
    let a : Address = address_of c.args.place in
    let old : Read = flight_of c.args.flight.now in
    let n = next_of_walk sees (document store d) shown old reading.distinct
    (ap phase_of c.requires.phase) reading.flight a c.requires.leads in
    let s = found_stands pages (document store d).records (records_stand pages store reading.is d)
    a n.r n.found in
    let read = c.in_ok-rec.ensures.value pages a s.there s.previous reading.told' c.requires.leads
    s.stands in
    let same : record_in c.in_ok-rec.rec ≡ n.r = ap shown_record read ∙ s.shows in
    let puts : flight_of c.put.new.self ≡ put n.r old =
    c.put.ensures.read ∙ ap (λ (u : Record). put u old) same in
    record {
      r = n.r;
      found = n.found;
      is = puts;
      kept = subst (λ (f : Read). IsFlight sees (document store d) shown f) (sym puts) n.kept;
    }
