use Rattle.std.proofs.Common.{◌≡◌, ◌==◌, [], ◌∷◌, ◌∙◌, arith, lit≤}
use Rattle.page_model.specs.Pages.{field}
use Rattle.page_model.proofs.StepLemmas.{may_less, may_within, uses_more, within_one, within_two}
use Rattle.page_space.specs.Map.{bit}
use Rattle.undo_logs.proofs.ToldLemmas.{told_is}
use Rattle.undo_logs.proofs.OwnerLemmas.{not_of_log, of_log}
use Rattle.undo_logs.proofs.PurgedLemmas.{type_uses}
use Rattle.undo_logs.proofs.purged.is_of_log.Goals as goal

pub is_used-requires-clause-may : goal.is_used-requires-clause-may
is_used-requires-clause-may g c = may_less (c.args.page.0 ∷ 0 ∷ []) (0 ∷ []) 0 0 0 0 _ c.requires.may (within_two c.args.page.0 0 []) (lit≤ tt) (lit≤ tt)

pub returns-in_err-is_used-clause-uses : goal.returns-in_err-is_used-clause-uses
returns-in_err-is_used-clause-uses g c = uses_more (0 ∷ []) (c.args.page.0 ∷ 0 ∷ []) 0 0 0 0 _ _ c.is_used.ensures.uses (within_two c.args.page.0 0 []) (lit≤ tt) (lit≤ tt)

pub read_field-requires-clause-may : goal.read_field-requires-clause-may
read_field-requires-clause-may g c =
    let ns = c.args.page.0 ∷ 0 ∷ [] in
    may_within ns (c.args.page.0 ∷ []) 0 0 0 0 0 0 c.args.p.now c.is_used.new.p (within_one c.args.page.0 (0 ∷ [])) (lit≤ tt) (lit≤ tt) c.requires.may
    (uses_more (0 ∷ []) ns 0 0 0 0 _ _ c.is_used.ensures.uses (within_two c.args.page.0 0 []) (lit≤ tt) (lit≤ tt))

pub returns-in_err-page_type-clause-uses : goal.returns-in_err-page_type-clause-uses
returns-in_err-page_type-clause-uses g c = type_uses g.P.Pages.stays_on c.args.page.0 _ _ _ c.is_used.ensures.uses c.read_field.ensures.uses

pub returns-clause-uses : goal.returns-clause-uses
returns-clause-uses g c = type_uses g.P.Pages.stays_on c.args.page.0 _ _ _ c.is_used.ensures.uses c.read_field.ensures.uses

pub returns-then-not-branch-clause-uses : goal.returns-then-not-branch-clause-uses
returns-then-not-branch-clause-uses g c = uses_more (0 ∷ []) (c.args.page.0 ∷ 0 ∷ []) 0 0 0 0 _ _ c.is_used.ensures.uses (within_two c.args.page.0 0 []) (lit≤ tt) (lit≤ tt)

pub returns-then-not-branch-clause-value : goal.returns-then-not-branch-clause-value
returns-then-not-branch-clause-value g c = λ pages store is st.
    let page = c.args.page.0 in
    let used = c.in_ok-is_used.field-0 in
    not_of_log pages store st page used (told_is (λ ps. used ≡ (bit ps page == 1)) _ pages is c.in_ok-is_used.ensures.value) c.if-not-branch.true

pub returns-clause-value : goal.returns-clause-value
returns-clause-value g c = λ pages store is st.
    let whole = g.P.Pages.whole c.args.p.now pages is in
    let m = whole.many in
    let page = c.args.page.0 in
    let used = c.in_ok-is_used.field-0 in
    of_log pages store st page used c.in_ok-page_type.page_type (omega (arith, m, c.requires.page)) (told_is (λ ps. used ≡ (bit ps page == 1)) _ pages is c.in_ok-is_used.ensures.value) c.if-not-branch.false
    (told_is (λ ps. c.in_ok-page_type.page_type ≡ field ps page 24 2) _ pages (c.is_used.ensures.told ∙ is) c.in_ok-page_type.ensures.value)
