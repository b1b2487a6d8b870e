use Rattle.std.proofs.Common.{ℕ, [], ◌∷◌, sym, subst, refl, lit≤}
use Rattle.page_model.proofs.StepLemmas.{may_within}
use Rattle.engine_base.specs.Addresses.{address_of}
use Rattle.undo_model.specs.Reading.{IsRecordPlace}
use Rattle.undo_records.specs.Records.{record_of}
use Rattle.undo_logs.proofs.ReadLemmas.{at_same, at_bad, answers_bad, no_record_names}
use Rattle.undo_logs.proofs.reads.record_there.Goals as goal

pub no_record-requires-clause-place : goal.no_record-requires-clause-place
no_record-requires-clause-place g c =
    let P : ℕ → Type 0 = λ n. IsRecordPlace n (address_of c.args.a) in
    subst P (sym c.read.ensures.uses.count) c.requires.place

pub no_record-requires-clause-may : goal.no_record-requires-clause-may
no_record-requires-clause-may g c =
    let page = c.args.a.page.0 in
    may_within (page ∷ []) (page ∷ []) 0 0 0 0 0 0 c.args.p.now c.read.new.p (λ n is. is) (lit≤ tt) (lit≤ tt) c.requires.may c.read.ensures.uses

pub returns-in-Ok-clause-value : goal.returns-in-Ok-clause-value
returns-in-Ok-clause-value g c = λ pages r previous is stands.
    at_same _ pages (address_of c.args.a) r (record_of c.in-Ok.rec) previous is stands c.in-Ok.ensures.answers

pub returns-in-Err-Bad-clause-never : goal.returns-in-Err-Bad-clause-never
returns-in-Err-Bad-clause-never g c = λ pages r previous is stands.
    at_bad _ pages (address_of c.args.a) r previous is stands (answers_bad (g.P.Pages.state c.args.p.now).told c.args.a c.in-Err-Bad.field-0-0 c.in-Err-Bad.field-0 c.in-Err-Bad.field-0-is c.in-Err-Bad.ensures.answers)

pub returns-in-Err-Bad-clause-honest : goal.returns-in-Err-Bad-clause-honest
returns-in-Err-Bad-clause-honest g c =
    no_record_names _ _ _ (address_of c.args.a) c.no_record.result c.read.ensures.told refl
    (answers_bad (g.P.Pages.state c.args.p.now).told c.args.a c.in-Err-Bad.field-0-0 c.in-Err-Bad.field-0 c.in-Err-Bad.field-0-is c.in-Err-Bad.ensures.answers)
    c.no_record.ensures.names
