use Rattle.std.proofs.Common.{◌+◌, [], ◌∷◌, length, refl, lit≤, arith}
use Rattle.page_model.proofs.StepLemmas.{may_within, uses_within, uses_at_most}
use Rattle.lob_bytes.proofs.DataLemmas.{first_data_told}
use Rattle.lob_bytes.proofs.data.write_first_data.Goals as goal

pub write-requires-clause-may : goal.write-requires-clause-may
write-requires-clause-may g c =
    let f = c.requires.fits in
    may_within (c.args.first.0 ∷ []) (c.args.first.0 ∷ []) 0 15_700 0 12 0 (length c.args.bytes.now + 8) c.args.p.now c.write_field.new.p (λ n is. is) (lit≤ tt) (omega (arith, f)) c.requires.may c.write_field.ensures.uses

pub returns-in_err-write_field-clause-uses : goal.returns-in_err-write_field-clause-uses
returns-in_err-write_field-clause-uses g c = uses_at_most (c.args.first.0 ∷ []) 0 12 0 15_700 _ _ (lit≤ tt) (lit≤ tt) c.write_field.ensures.uses

pub returns-in_err-write-clause-uses : goal.returns-in_err-write-clause-uses
returns-in_err-write-clause-uses g c =
    let f = c.requires.fits in
    let n = 12 + (length c.args.bytes.now + 8) in
    uses_at_most (c.args.first.0 ∷ []) 0 n 0 15_700 _ _ (lit≤ tt) (omega (arith, f))
    (uses_within g.P.Pages.stays_on (c.args.first.0 ∷ []) (c.args.first.0 ∷ []) 0 12 0 (length c.args.bytes.now + 8) c.args.p.now c.write_field.new.p c.write.new.self (λ n is. is) c.write_field.ensures.uses c.write.ensures.uses)

pub returns-clause-uses : goal.returns-clause-uses
returns-clause-uses g c =
    let f = c.requires.fits in
    let n = 12 + (length c.args.bytes.now + 8) in
    uses_at_most (c.args.first.0 ∷ []) 0 n 0 15_700 _ _ (lit≤ tt) (omega (arith, f))
    (uses_within g.P.Pages.stays_on (c.args.first.0 ∷ []) (c.args.first.0 ∷ []) 0 12 0 (length c.args.bytes.now + 8) c.args.p.now c.write_field.new.p c.write.new.self (λ n is. is) c.write_field.ensures.uses c.write.ensures.uses)

pub returns-clause-writes : goal.returns-clause-writes
returns-clause-writes g c =
    first_data_told _ _ _ (g.P.Pages.state c.write_field.new.p).count c.args.first.0 _ c.args.bytes.now (g.P.Pages.whole c.write_field.new.p) (let q = c.requires.page in let e = c.write_field.ensures.uses.count in omega (arith, q, e)) c.requires.fits refl c.in_ok-write_field.ensures.sets c.in_ok-write.ensures.written
