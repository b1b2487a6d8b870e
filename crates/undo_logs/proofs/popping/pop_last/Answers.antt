use Rattle.std.proofs.Common.{◌≡◌, ℕ, [], ◌∷◌, List, lit≤, sym, ap, subst, ◌∙◌}
use Rattle.page_model.specs.Pages.{Address}
use Rattle.page_model.proofs.StepLemmas.{may_within, within_one, within_right}
use Rattle.engine_base.specs.Addresses.{address_of}
use Rattle.file_lists.proofs.LinkLemmas.{handed_on}
use Rattle.undo_model.specs.Data.{Entry}
use Rattle.undo_model.specs.Reading.{IsRecordPlace}
use Rattle.undo_model.specs.Logs.{newest}
use Rattle.undo_logs.specs.Pops.{has_record}
use Rattle.undo_logs.proofs.UseLemmas.{pop1, pop2, pop2_all, pop_end, pop_cut, may_pop}
use Rattle.undo_logs.proofs.PopLemmas.{not_nil}
use Rattle.undo_logs.proofs.EndLemmas.{at_newest, stands_there, chain_behind, none_before, some_before}
use Rattle.undo_logs.proofs.popping.pop_last.Goals as goal

pub record_before-requires-clause-place : goal.record_before-requires-clause-place
record_before-requires-clause-place g c =
    subst (λ (n : ℕ). IsRecordPlace n (address_of c.in_ok-at.at)) (sym c.newest_place.ensures.uses.count) c.in_ok-at.ensures.place

pub record_before-requires-clause-may : goal.record_before-requires-clause-may
record_before-requires-clause-may g c =
    let page = c.in_ok-at.at.page.0 in
    let log = c.args.log.0 in
    may_within (page ∷ log ∷ 0 ∷ []) (page ∷ []) 2 82 0 0 0 0 c.args.p.now c.newest_place.new.p (within_one page (log ∷ 0 ∷ [])) (lit≤ tt) (lit≤ tt) (may_pop page log _ c.requires.may) (pop1 g.P.Pages.stays_on page log _ _ c.newest_place.ensures.uses)

pub returns-in_err-at-clause-never : goal.returns-in_err-at-clause-never
returns-in_err-at-clause-never g c = λ pages l e older is same can listed records.
    handed_on c.newest_place.result _ _ (c.newest_place.ensures.never pages l e older is same can records) c.in_err-at.was c.from_residual.ensures

pub returns-in_err-previous-clause-never : goal.returns-in_err-previous-clause-never
returns-in_err-previous-clause-never g c = λ pages l e older is same can listed records.
    handed_on c.record_before.result _ _ (c.record_before.ensures.never pages e.undo (newest older) (c.newest_place.ensures.told ∙ is) (stands_there pages l c.args.log.0 e older _ (address_of c.in_ok-at.at) is same can records c.in_ok-at.ensures.value))
    c.in_err-previous.was c.from_residual-in_err-previous.ensures

pub returns-in_err-previous-clause-uses : goal.returns-in_err-previous-clause-uses
returns-in_err-previous-clause-uses g c = pop2_all g.P.Pages.stays_on c.in_ok-at.at.page.0 c.args.log.0 _ _ _ c.newest_place.ensures.uses c.record_before.ensures.uses

pub end_log-requires-clause-may : goal.end_log-requires-clause-may
end_log-requires-clause-may g c =
    let page = c.in_ok-at.at.page.0 in
    let log = c.args.log.0 in
    may_within (page ∷ log ∷ 0 ∷ []) (log ∷ 0 ∷ []) 2 82 0 0 2 82 c.args.p.now c.record_before.new.p (λ n is. within_right (page ∷ []) (log ∷ 0 ∷ []) n is) (lit≤ tt) (lit≤ tt) (may_pop page log _ c.requires.may)
    (pop2 g.P.Pages.stays_on page log _ _ _ c.newest_place.ensures.uses c.record_before.ensures.uses)

pub returns-in_err-end_log-clause-never : goal.returns-in_err-end_log-clause-never
returns-in_err-end_log-clause-never g c = λ pages l e older is same can listed records.
    let log = c.args.log.0 in
    let a = address_of c.in_ok-at.at in
    let at = at_newest pages l log e older _ a is same can records c.in_ok-at.ensures.value in
    let prev : address_of c.in_ok-previous.previous ≡ newest older = c.in_ok-previous.ensures.value pages e.undo (newest older) (c.newest_place.ensures.told ∙ is) (stands_there pages l log e older _ a is same can records c.in_ok-at.ensures.value) in
    let none : older ≡ [] = none_before pages (g.P.Pages.state c.args.p.now).count older (g.P.Pages.whole c.args.p.now pages is) (g.P.Pages.few c.args.p.now) (chain_behind pages l e older can.stands records) (sym (ap (λ (x : Address). x.page) prev) ∙ c.if-previous.true) in
    handed_on c.end_log.result _ _ (c.end_log.ensures.never pages l e (c.record_before.ensures.told ∙ c.newest_place.ensures.told ∙ is) same can (records ∙ ap (λ (xs : List Entry). e ∷ xs) none) (sym (ap (λ (x : Address). x.page) at)) listed)
    c.in_err-end_log.was c.from_residual-in_err-end_log.ensures

pub returns-in_err-end_log-clause-uses : goal.returns-in_err-end_log-clause-uses
returns-in_err-end_log-clause-uses g c = pop_end g.P.Pages.stays_on c.in_ok-at.at.page.0 c.args.log.0 _ _ _ _ c.newest_place.ensures.uses c.record_before.ensures.uses c.end_log.ensures.uses

pub returns-then-previous-clause-uses : goal.returns-then-previous-clause-uses
returns-then-previous-clause-uses g c = pop_end g.P.Pages.stays_on c.in_ok-at.at.page.0 c.args.log.0 _ _ _ _ c.newest_place.ensures.uses c.record_before.ensures.uses c.end_log.ensures.uses

pub returns-then-previous-clause-pops : goal.returns-then-previous-clause-pops
returns-then-previous-clause-pops g c = λ pages l e f older is same can records.
    let log = c.args.log.0 in
    let a = address_of c.in_ok-at.at in
    let prev : address_of c.in_ok-previous.previous ≡ f.at = c.in_ok-previous.ensures.value pages e.undo f.at (c.newest_place.ensures.told ∙ is) (stands_there pages l log e (f ∷ older) _ a is same can records c.in_ok-at.ensures.value) in
    let none : f ∷ older ≡ [] = none_before pages (g.P.Pages.state c.args.p.now).count (f ∷ older) (g.P.Pages.whole c.args.p.now pages is) (g.P.Pages.few c.args.p.now) (chain_behind pages l e (f ∷ older) can.stands records) (sym (ap (λ (x : Address). x.page) prev) ∙ c.if-previous.true) in
    not_nil f older (sym none)

pub returns-then-previous-clause-ends : goal.returns-then-previous-clause-ends
returns-then-previous-clause-ends g c = λ pages l e is same can listed records.
    let log = c.args.log.0 in
    let a = address_of c.in_ok-at.at in
    let at = at_newest pages l log e [] _ a is same can records c.in_ok-at.ensures.value in
    c.in_ok-end_log.ensures.gives pages l e (c.record_before.ensures.told ∙ c.newest_place.ensures.told ∙ is) same can records (sym (ap (λ (x : Address). x.page) at)) listed

pub returns-then-previous-clause-left : goal.returns-then-previous-clause-left
returns-then-previous-clause-left g c = λ pages l e older is same can records.
    let log = c.args.log.0 in
    let a = address_of c.in_ok-at.at in
    let prev : address_of c.in_ok-previous.previous ≡ newest older = c.in_ok-previous.ensures.value pages e.undo (newest older) (c.newest_place.ensures.told ∙ is) (stands_there pages l log e older _ a is same can records c.in_ok-at.ensures.value) in
    let none : older ≡ [] = none_before pages (g.P.Pages.state c.args.p.now).count older (g.P.Pages.whole c.args.p.now pages is) (g.P.Pages.few c.args.p.now) (chain_behind pages l e older can.stands records) (sym (ap (λ (x : Address). x.page) prev) ∙ c.if-previous.true) in
    sym (ap has_record none)

pub cut_newest-requires-clause-may : goal.cut_newest-requires-clause-may
cut_newest-requires-clause-may g c =
    let page = c.in_ok-at.at.page.0 in
    let log = c.args.log.0 in
    may_within (page ∷ log ∷ 0 ∷ []) (page ∷ log ∷ 0 ∷ []) 2 82 0 0 1 75 c.args.p.now c.record_before.new.p (λ n is. is) (lit≤ tt) (lit≤ tt) (may_pop page log _ c.requires.may)
    (pop2 g.P.Pages.stays_on page log _ _ _ c.newest_place.ensures.uses c.record_before.ensures.uses)

pub returns-in_err-cut_newest-clause-never : goal.returns-in_err-cut_newest-clause-never
returns-in_err-cut_newest-clause-never g c = λ pages l e older is same can listed records.
    let log = c.args.log.0 in
    let a = address_of c.in_ok-at.at in
    let at = at_newest pages l log e older _ a is same can records c.in_ok-at.ensures.value in
    let prev : address_of c.in_ok-previous.previous ≡ newest older = c.in_ok-previous.ensures.value pages e.undo (newest older) (c.newest_place.ensures.told ∙ is) (stands_there pages l log e older _ a is same can records c.in_ok-at.ensures.value) in
    let some = some_before older (λ null. c.if-previous.false (ap (λ (x : Address). x.page) prev ∙ null)) in
    handed_on c.cut_newest.result _ _ (c.cut_newest.ensures.never pages l e some.0 some.1 (c.record_before.ensures.told ∙ c.newest_place.ensures.told ∙ is) same can (records ∙ ap (λ (xs : List Entry). e ∷ xs) some.2) at (prev ∙ ap newest some.2))
    c.in_err-cut_newest.was c.from_residual-in_err-cut_newest.ensures

pub returns-in_err-cut_newest-clause-uses : goal.returns-in_err-cut_newest-clause-uses
returns-in_err-cut_newest-clause-uses g c = pop_cut g.P.Pages.stays_on c.in_ok-at.at.page.0 c.args.log.0 _ _ _ _ c.newest_place.ensures.uses c.record_before.ensures.uses c.cut_newest.ensures.uses

pub returns-clause-uses : goal.returns-clause-uses
returns-clause-uses g c = pop_cut g.P.Pages.stays_on c.in_ok-at.at.page.0 c.args.log.0 _ _ _ _ c.newest_place.ensures.uses c.record_before.ensures.uses c.cut_newest.ensures.uses

pub returns-clause-pops : goal.returns-clause-pops
returns-clause-pops g c = λ pages l e f older is same can records.
    let log = c.args.log.0 in
    let a = address_of c.in_ok-at.at in
    let at = at_newest pages l log e (f ∷ older) _ a is same can records c.in_ok-at.ensures.value in
    let prev : address_of c.in_ok-previous.previous ≡ f.at = c.in_ok-previous.ensures.value pages e.undo f.at (c.newest_place.ensures.told ∙ is) (stands_there pages l log e (f ∷ older) _ a is same can records c.in_ok-at.ensures.value) in
    c.in_ok-cut_newest.ensures.pops pages l e f older (c.record_before.ensures.told ∙ c.newest_place.ensures.told ∙ is) same can records at prev

pub returns-clause-ends : goal.returns-clause-ends
returns-clause-ends g c = λ pages l e is same can listed records.
    let log = c.args.log.0 in
    let a = address_of c.in_ok-at.at in
    let prev : address_of c.in_ok-previous.previous ≡ newest [] = c.in_ok-previous.ensures.value pages e.undo (newest []) (c.newest_place.ensures.told ∙ is) (stands_there pages l log e [] _ a is same can records c.in_ok-at.ensures.value) in
    absurd (c.if-previous.false (ap (λ (x : Address). x.page) prev))

pub returns-clause-left : goal.returns-clause-left
returns-clause-left g c = λ pages l e older is same can records.
    let log = c.args.log.0 in
    let a = address_of c.in_ok-at.at in
    let prev : address_of c.in_ok-previous.previous ≡ newest older = c.in_ok-previous.ensures.value pages e.undo (newest older) (c.newest_place.ensures.told ∙ is) (stands_there pages l log e older _ a is same can records c.in_ok-at.ensures.value) in
    let some = some_before older (λ null. c.if-previous.false (ap (λ (x : Address). x.page) prev ∙ null)) in
    sym (ap has_record some.2)
