use Rattle.std.proofs.Common.{◌≡◌, ap, ◌∙◌}
use Rattle.engine_base.specs.Addresses.{address_of}
use Rattle.store_data.specs.Store.{Record}
use Rattle.store_parts.specs.Shows.{record_of as shown_record}
use Rattle.read_model.specs.OfStore.{document}
use Rattle.read_views.specs.Flights.{row_in, record_in}
use Rattle.file_lists.proofs.LinkLemmas.{handed_on}
use Rattle.version_read.proofs.SeekLemmas.{behind_row, goes_back}
use Rattle.version_read.proofs.seek.row_before.Goals as goal

pub returns-in_err-rec-clause-uses : goal.returns-in_err-rec-clause-uses
returns-in_err-rec-clause-uses g c =
    c.at.ensures.uses (address_of c.args.place) c.requires.leads

pub returns-clause-uses : goal.returns-clause-uses
returns-clause-uses g c = c.at.ensures.uses (address_of c.args.place) c.requires.leads

pub returns-in_err-rec-clause-never : goal.returns-in_err-rec-clause-never
returns-in_err-rec-clause-never g c = λ pages store d sees shown reading unseen.
    let b = behind_row _ pages store d sees shown (row_in c.args.row) reading unseen in
    handed_on c.at.result _ _ (c.at.ensures.never pages b.a b.stands.there b.stands.previous
    reading.told' b.leads b.stands.stands) c.in_err-rec.was c.from_residual.ensures

pub returns-clause-back : goal.returns-clause-back
returns-clause-back g c = λ pages store d sees shown reading unseen.
    let b = behind_row _ pages store d sees shown (row_in c.args.row) reading unseen in
    let read = c.in_ok-rec.ensures.value pages b.a b.stands.there b.stands.previous reading.told'
    b.leads b.stands.stands in
    let same : record_in c.in_ok-rec.rec ≡ b.r = ap shown_record read ∙ b.stands.shows in
    goes_back pages sees (document store d) shown (row_in c.args.row)
    (row_in c.in_ok-rec.rec.before) unseen b (ap (λ (u : Record). u.before) same)
