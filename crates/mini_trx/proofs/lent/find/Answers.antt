use Rattle.std.proofs.Common.{◌≡◌, ◌∙◌, ◌<◌, true, false, Option, Some, IsSome, length, ap, sym, subst, get_or, eq-eqb, arith}
use Rattle.mini_trx.specs.declared.lent.Lent.{Lent}
use Rattle.mini_trx.specs.Copies.{copy_of}
use Rattle.mini_trx.proofs.PinLemmas.{pages_more}
use Rattle.mini_trx.proofs.lent.find.Goals.{in-Some+else-eq, in_default}
use Rattle.mini_trx.proofs.lent.find.Goals as goal

pub loop-i-preserved : goal.loop-i-preserved
loop-i-preserved c =
    let places = c.args.places.now in
    let below : c.loop-i.i < length places = omega arith in
    elim c.match-place.branch [
      | in-Some+else-eq w ↦
          let is : get_or places c.loop-i.i c.index-places-i.result ≡ Some w.in-Some.lent = sym c.index-places-i.is ∙ w.in-Some.is in
          pages_more places c.loop-i.i c.args.page.0 c.index-places-i.result below c.loop-i.invariant (λ same.
          let here = eq-eqb w.in-Some.lent.page.0 c.args.page.0 (sym (ap (λ (o : Option Lent). (copy_of o).page) is) ∙ same) in
          let both : true ≡ false = sym here ∙ sym w.eq.ensures ∙ w.if-eq.false in cc)
      | in_default w ↦ absurd (
          let P : Option Lent → Type 0 = λ o. IsSome o in
          let none = subst P (sym c.index-places-i.is ∙ w.in_default.is) (c.requires c.loop-i.i c.index-places-i.result below) in cc)
    ]
