use Rattle.std.proofs.Common.{[], ◌∷◌, IfErr, sym, subst}
use Rattle.page_model.specs.Pages.{Address}
use Rattle.page_model.specs.Steps.{Uses}
use Rattle.engine_base.specs.Addresses.{address_of}
use Rattle.engine_base.specs.Faults.{IsHonest}
use Rattle.undo_model.specs.Reading.{IsRecordAt}
use Rattle.undo_logs.specs.Reads.{IsNoRecord}
use Rattle.undo_logs.proofs.ReadLemmas.{leads_here}
use Rattle.undo_logs.proofs.reads.at.Goals as goal

pub record_there-requires-clause-place : goal.record_there-requires-clause-place
record_there-requires-clause-place g c = c.requires.place (address_of c.leads_to.result) c.leads_to.ensures

pub record_there-requires-clause-may : goal.record_there-requires-clause-may
record_there-requires-clause-may g c = c.requires.may (address_of c.leads_to.result) c.leads_to.ensures

pub returns-clause-value : goal.returns-clause-value
returns-clause-value g c = λ pages a r previous is ea stands.
    c.record_there.ensures.value pages r previous is (subst (λ (x : Address). IsRecordAt pages x r previous) (leads_here c.args.roll.0 a (address_of c.leads_to.result) c.leads_to.ensures ea) stands)

pub returns-clause-never : goal.returns-clause-never
returns-clause-never g c = λ pages a r previous is ea stands.
    c.record_there.ensures.never pages r previous is (subst (λ (x : Address). IsRecordAt pages x r previous) (leads_here c.args.roll.0 a (address_of c.leads_to.result) c.leads_to.ensures ea) stands)

pub returns-clause-honest : goal.returns-clause-honest
returns-clause-honest g c = λ a ea.
    subst (λ (x : Address). IfErr c.record_there.result (IsHonest (IsNoRecord (g.P.Pages.state c.args.p.now).told x))) (sym (leads_here c.args.roll.0 a (address_of c.leads_to.result) c.leads_to.ensures ea)) c.record_there.ensures.honest

pub returns-clause-uses : goal.returns-clause-uses
returns-clause-uses g c = λ a ea.
    subst (λ (x : Address). Uses g.P.Pages.state g.P.Pages.stays (x.page ∷ []) 0 0 c.args.p.now c.record_there.new.p) (sym (leads_here c.args.roll.0 a (address_of c.leads_to.result) c.leads_to.ensures ea)) c.record_there.ensures.uses
