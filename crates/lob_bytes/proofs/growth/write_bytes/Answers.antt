use Rattle.std.proofs.Common.{◌+◌, [], ◌∷◌, length, sym, subst, Option, OnOk, lit≤, arith}
use Rattle.page_model.specs.Steps.{MayUse, Uses, Becomes}
use Rattle.page_model.proofs.StepLemmas.{may_less, uses_at_most}
use Rattle.engine_base.specs.declared.ids.PageNo.{PageNo}
use Rattle.lob_index.specs.Data.{MakesData}
use Rattle.lob_bytes.specs.Growth.{WritesData, WritesFirst, data_place}
use Rattle.lob_bytes.proofs.TakeLemmas.{on_told}
use Rattle.lob_bytes.proofs.growth.write_bytes.Goals as goal

pub returns-in-Some-clause-writes : goal.returns-in-Some-clause-writes
returns-in-Some-clause-writes g c = λ pages is.
    let W : Option PageNo → Type 0 = λ o. OnOk c.write_data.result (Becomes (g.P.Pages.state c.write_data.new.p).told (WritesData c.args.page.0 o c.args.trx.0 c.args.bytes.now pages)) in
    subst W (sym c.in-Some.is) (on_told (MakesData c.in-Some.other.0 c.args.trx.0 c.args.bytes.now) c.write_data.result _ _ pages is c.write_data.ensures.makes)

pub returns-in-None-clause-writes : goal.returns-in-None-clause-writes
returns-in-None-clause-writes g c = λ pages is.
    let W : Option PageNo → Type 0 = λ o. OnOk c.write_first_data.result (Becomes (g.P.Pages.state c.write_first_data.new.p).told (WritesData c.args.page.0 o c.args.trx.0 c.args.bytes.now pages)) in
    subst W (sym c.in-None.is) (on_told (WritesFirst c.args.page.0 c.args.bytes.now) c.write_first_data.result _ _ pages is c.write_first_data.ensures.writes)

pub write_data-requires-clause-may : goal.write_data-requires-clause-may
write_data-requires-clause-may g c =
    let n = 49 + length c.args.bytes.now + 16 in
    let d = c.in-Some.other.0 ∷ [] in
    let fits = c.requires.fits.0 in
    let M : Option PageNo → Type 0 = λ o. MayUse (data_place c.args.page.0 o ∷ []) 0 16_392 (g.P.Pages.state c.args.p.now) in
    may_less d d 0 0 16_392 n (g.P.Pages.state c.args.p.now) (subst M c.in-Some.is c.requires.may) (λ k is. is) (lit≤ tt) (omega (arith, fits))

pub returns-in-Some-clause-uses : goal.returns-in-Some-clause-uses
returns-in-Some-clause-uses g c =
    let n = 49 + length c.args.bytes.now + 16 in
    let fits = c.requires.fits.0 in
    let U : Option PageNo → Type 0 = λ o. Uses g.P.Pages.state g.P.Pages.stays (data_place c.args.page.0 o ∷ []) 0 16_392 c.args.p.now c.write_data.new.p in
    subst U (sym c.in-Some.is) (uses_at_most (c.in-Some.other.0 ∷ []) 0 n 0 16_392 c.args.p.now c.write_data.new.p (lit≤ tt) (omega (arith, fits)) c.write_data.ensures.uses)
