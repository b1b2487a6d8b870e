use Rattle.std.proofs.Common.{◌≡◌, ◌≢◌, [], ◌∷◌, ◌∙◌, arith, lit≤}
use Rattle.page_model.specs.Pages.{field, null_page}
use Rattle.page_model.proofs.StepLemmas.{may_within}
use Rattle.undo_logs.proofs.ToldLemmas.{told_is}
use Rattle.undo_logs.proofs.OwnerLemmas.{owner_is}
use Rattle.undo_logs.proofs.purged.first_page.Goals as goal

pub read_field-requires-2-clause-may : goal.read_field-requires-2-clause-may
read_field-requires-2-clause-may g c =
    let page = c.args.page.0 in
    may_within (page ∷ []) (page ∷ []) 0 0 0 0 0 0 c.args.p.now c.read_field.new.p (λ n is. is) (lit≤ tt) (lit≤ tt) c.requires.may c.read_field.ensures.uses

pub returns-then-before-from-clause-value : goal.returns-then-before-from-clause-value
returns-then-before-from-clause-value g c = λ pages l is log has.
    let p = c.args.p.now in
    let page = c.args.page.0 in
    let o = owner_is pages _ page l (g.P.Pages.whole p pages is) (g.P.Pages.few p) log has in
    let read = told_is (λ ps. c.in_ok-before.before ≡ field ps page 38 4) _ pages is c.in_ok-before.ensures.value in
    o.alone (let t = c.if-before-from.true in omega (arith, read, t, c.from.ensures))

pub returns-then-log-from-clause-never : goal.returns-then-log-from-clause-never
returns-then-log-from-clause-never g c = λ pages l is log has.
    let p = c.args.p.now in
    let page = c.args.page.0 in
    let whole = g.P.Pages.whole p pages is in
    let o = owner_is pages _ page l whole (g.P.Pages.few p) log has in
    let read = told_is (λ ps. c.in_ok-before.before ≡ field ps page 38 4) _ pages is c.in_ok-before.ensures.value in
    let told = c.read_field.ensures.told ∙ is in
    let owner = told_is (λ ps. c.in_ok-log.log ≡ field ps page 52 4) _ pages told c.in_ok-log.ensures.value in
    let far : field pages page 38 4 ≢ null_page = λ e. absurd (let f = c.if-before-from.false in omega (arith, f, read, e, c.from.ensures)) in
    let is_first = o.other far in
    let below = o.below in
    let m = whole.many in
    absurd (let t = c.if-log-from.true in omega (arith, owner, is_first, below, m, t, c.from-2.ensures, c.count-count.ensures))

pub returns-clause-value : goal.returns-clause-value
returns-clause-value g c = λ pages l is log has.
    let p = c.args.p.now in
    let page = c.args.page.0 in
    let o = owner_is pages _ page l (g.P.Pages.whole p pages is) (g.P.Pages.few p) log has in
    let read = told_is (λ ps. c.in_ok-before.before ≡ field ps page 38 4) _ pages is c.in_ok-before.ensures.value in
    let told = c.read_field.ensures.told ∙ is in
    let owner = told_is (λ ps. c.in_ok-log.log ≡ field ps page 52 4) _ pages told c.in_ok-log.ensures.value in
    let far : field pages page 38 4 ≢ null_page = λ e. absurd (let f = c.if-before-from.false in omega (arith, f, read, e, c.from.ensures)) in
    owner ∙ o.other far
