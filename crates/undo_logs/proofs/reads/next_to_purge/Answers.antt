use Rattle.std.proofs.Common.{◌≡◌, ℕ, true, sym, subst}
use Rattle.undo_model.specs.Reading.{is_previous}
use Rattle.undo_logs.proofs.NeverLemmas.{next_allowed}
use Rattle.engine_base.specs.Addresses.{address_of}
use Rattle.undo_logs.proofs.ReadLemmas.{may_other_page, uses_other_page, next_of_told}
use Rattle.undo_logs.proofs.reads.next_to_purge.Goals as goal

pub pointer_to-requires-clause-may : goal.pointer_to-requires-clause-may
pointer_to-requires-clause-may g c = may_other_page g.P.Pages.stays_on c.args.log.0 _ _ c.requires.may c.read_address.ensures.uses

pub returns-clause-uses : goal.returns-clause-uses
returns-clause-uses g c = uses_other_page g.P.Pages.stays_on c.args.log.0 _ _ _ c.read_address.ensures.uses c.pointer_to.ensures.uses

pub returns-clause-value : goal.returns-clause-value
returns-clause-value g c = λ l same state pages is log.
    next_of_told _ _ pages l c.args.log.0 (address_of c.in_ok-a.a) c.pointer_to.result is same log state c.read_address.ensures.told c.in_ok-a.ensures.value c.pointer_to.ensures.value

pub returns-clause-never : goal.returns-clause-never
returns-clause-never g c = λ l same state pages is log there.
    let a = address_of c.in_ok-a.a in
    let P : ℕ → Type 0 = λ n. is_previous n a.page a.at ≡ true in
    c.pointer_to.ensures.never (subst P (sym c.read_address.ensures.uses.count) (next_allowed _ _ pages l c.args.log.0 a (g.P.Pages.whole c.args.p.now pages is) is same log state c.in_ok-a.ensures.value there))
