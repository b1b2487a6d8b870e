use Rattle.std.proofs.Common.{◌+◌, [], ◌∷◌, lit≤, arith}
use Rattle.page_model.proofs.StepLemmas.{may_within, uses_at_most, within_one, within_two}
use Rattle.engine_base.specs.Addresses.{address_of}
use Rattle.undo_model.specs.Bytes.{record_size}
use Rattle.undo_records.specs.Records.{record_of}
use Rattle.undo_logs.proofs.UseLemmas.{put1, put2, put3}
use Rattle.undo_logs.proofs.PutLemmas.{put_told}
use Rattle.undo_logs.proofs.put.put_record.Goals as goal

pub write_field-requires-clause-may : goal.write_field-requires-clause-may
write_field-requires-clause-may g c =
    let n = record_size (record_of c.args.rec.now) in
    may_within (c.args.at.page.0 ∷ c.args.log.0 ∷ []) (c.args.at.page.0 ∷ []) 0 (n + 8 + 24) 0 (n + 8) 0 10 c.args.p.now c.write.new.p (within_one _ (_ ∷ [])) (lit≤ tt) (omega arith) c.requires.may
    (put1 g.P.Pages.stays_on _ _ n _ _ c.write.ensures.uses)

pub returns-in_err-write_field-clause-uses : goal.returns-in_err-write_field-clause-uses
returns-in_err-write_field-clause-uses g c =
    let n = record_size (record_of c.args.rec.now) in
    uses_at_most (c.args.at.page.0 ∷ c.args.log.0 ∷ []) 0 (n + 8 + 10) 0 (n + 8 + 24) c.args.p.now c.write_field.new.p (lit≤ tt) (omega arith)
    (put2 g.P.Pages.stays_on _ _ n _ _ _ c.write.ensures.uses c.write_field.ensures.uses)

pub write_address-requires-clause-may : goal.write_address-requires-clause-may
write_address-requires-clause-may g c =
    let n = record_size (record_of c.args.rec.now) in
    may_within (c.args.at.page.0 ∷ c.args.log.0 ∷ []) (c.args.log.0 ∷ []) 0 (n + 8 + 24) 0 (n + 8 + 10) 0 14 c.args.p.now c.write_field.new.p (within_two _ _ []) (lit≤ tt) (omega arith) c.requires.may
    (put2 g.P.Pages.stays_on _ _ n _ _ _ c.write.ensures.uses c.write_field.ensures.uses)

pub returns-in_err-write_address-clause-uses : goal.returns-in_err-write_address-clause-uses
returns-in_err-write_address-clause-uses g c = put3 g.P.Pages.stays_on _ _ (record_size (record_of c.args.rec.now)) _ _ _ _ c.write.ensures.uses c.write_field.ensures.uses c.write_address.ensures.uses

pub returns-clause-uses : goal.returns-clause-uses
returns-clause-uses g c = put3 g.P.Pages.stays_on _ _ (record_size (record_of c.args.rec.now)) _ _ _ _ c.write.ensures.uses c.write_field.ensures.uses c.write_address.ensures.uses

pub returns-clause-puts : goal.returns-clause-puts
returns-clause-puts g c = put_told c.args.log.0 (address_of c.args.at) (record_of c.args.rec.now) (address_of c.args.previous) c.from.result _ _ _ _ (omega (arith, c.from.ensures, c.in_ok-size.ensures.size))
    c.in_ok-size.ensures.stands c.in_ok-write_field.ensures.sets c.in_ok-write_address.ensures.sets
