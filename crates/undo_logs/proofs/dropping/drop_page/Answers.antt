use Rattle.std.proofs.Common.{[], ◌∷◌, ◌∙◌, lit≤}
use Rattle.page_model.proofs.StepLemmas.{may_within, within_one}
use Rattle.file_lists.proofs.LinkLemmas.{handed_on}
use Rattle.undo_model.specs.Logs.{nodes_in}
use Rattle.undo_logs.proofs.UseLemmas.{begin, purge1, purge_end, purge_drop, may_drop}
use Rattle.undo_logs.proofs.DropPageLemmas.{newest_first, newest_alone, none_left, some_left, can_drop_page, page_dropped}
use Rattle.undo_logs.proofs.dropping.drop_page.Goals as goal

pub newest_page-requires-clause-may : goal.newest_page-requires-clause-may
newest_page-requires-clause-may g c = Rattle.page_model.proofs.StepLemmas.may_less (c.args.log.0 ∷ 0 ∷ []) (c.args.log.0 ∷ []) 2 0 77 0 (g.P.Pages.state c.args.p.now) c.requires.may (within_one c.args.log.0 (0 ∷ [])) (lit≤ tt) (lit≤ tt)

pub returns-in_err-page-clause-never : goal.returns-in_err-page-clause-never
returns-in_err-page-clause-never g c = λ pages l newest next older is same can parts.
    handed_on c.newest_page.result _ _ (c.newest_page.ensures.never l same pages is can.stands) c.in_err-page.was c.from_residual.ensures

pub returns-in_err-page-clause-never_last : goal.returns-in_err-page-clause-never_last
returns-in_err-page-clause-never_last g c = λ pages l count is same can.
    handed_on c.newest_page.result _ _ (c.newest_page.ensures.never l same pages is can.drop.stands) c.in_err-page.was c.from_residual.ensures

pub returns-in_err-page-clause-uses : goal.returns-in_err-page-clause-uses
returns-in_err-page-clause-uses g c = purge1 g.P.Pages.stays_on c.args.log.0 c.args.log.0 _ _ c.newest_page.ensures.uses

pub end_purged-requires-clause-may : goal.end_purged-requires-clause-may
end_purged-requires-clause-may g c =
    let log = c.args.log.0 in
    may_within (log ∷ 0 ∷ []) (log ∷ 0 ∷ []) 2 77 0 0 1 77 c.args.p.now c.newest_page.new.p (λ n is. is) (lit≤ tt) (lit≤ tt) c.requires.may
    (begin (log ∷ 0 ∷ []) (log ∷ []) 0 0 _ _ (within_one log (0 ∷ [])) c.newest_page.ensures.uses)

pub returns-in_err-end_purged-clause-never : goal.returns-in_err-end_purged-clause-never
returns-in_err-end_purged-clause-never g c = λ pages l newest next older is same can parts.
    absurd (newest_first pages l newest next older c.args.log.0 c.in_ok-page.page.0 can.stands same parts (c.in_ok-page.ensures.value l same pages is can.stands) c.if-page-log.true)

pub returns-in_err-end_purged-clause-never_last : goal.returns-in_err-end_purged-clause-never_last
returns-in_err-end_purged-clause-never_last g c = λ pages l count is same can.
    handed_on c.end_purged.result _ _ (c.end_purged.ensures.never pages l count (c.newest_page.ensures.told ∙ is) same can) c.in_err-end_purged.was c.from_residual-in_err-end_purged.ensures

pub returns-in_err-end_purged-clause-uses : goal.returns-in_err-end_purged-clause-uses
returns-in_err-end_purged-clause-uses g c = purge_end g.P.Pages.stays_on c.args.log.0 c.args.log.0 _ _ _ c.newest_page.ensures.uses c.end_purged.ensures.uses

pub returns-then-page-log-clause-drops : goal.returns-then-page-log-clause-drops
returns-then-page-log-clause-drops g c = λ pages l newest next older is same can parts.
    absurd (newest_first pages l newest next older c.args.log.0 c.in_ok-page.page.0 can.stands same parts (c.in_ok-page.ensures.value l same pages is can.stands) c.if-page-log.true)

pub returns-then-page-log-clause-purges : goal.returns-then-page-log-clause-purges
returns-then-page-log-clause-purges g c = λ pages l count is same can.
    c.in_ok-end_purged.ensures.purges pages l count (c.newest_page.ensures.told ∙ is) same can

pub returns-then-page-log-clause-left : goal.returns-then-page-log-clause-left
returns-then-page-log-clause-left g c = λ pages l newest older is same can parts.
    none_left pages l newest older c.args.log.0 c.in_ok-page.page.0 can.stands same parts (c.in_ok-page.ensures.value l same pages is can.stands) c.if-page-log.true

pub returns-then-page-log-clause-uses : goal.returns-then-page-log-clause-uses
returns-then-page-log-clause-uses g c = purge_end g.P.Pages.stays_on c.args.log.0 c.args.log.0 _ _ _ c.newest_page.ensures.uses c.end_purged.ensures.uses

pub drop_node-requires-clause-may : goal.drop_node-requires-clause-may
drop_node-requires-clause-may g c =
    let log = c.args.log.0 in
    let page = c.in_ok-page.page.0 in
    may_within (page ∷ log ∷ 0 ∷ []) (page ∷ log ∷ 0 ∷ []) 1 77 0 0 1 61 c.args.p.now c.newest_page.new.p (λ n is. is) (lit≤ tt) (lit≤ tt) (may_drop page log _ c.requires.may)
    (begin (page ∷ log ∷ 0 ∷ []) (log ∷ []) 0 0 _ _ (Rattle.page_model.proofs.StepLemmas.within_two page log (0 ∷ [])) c.newest_page.ensures.uses)

pub returns-in_err-drop_node-clause-never : goal.returns-in_err-drop_node-clause-never
returns-in_err-drop_node-clause-never g c = λ pages l newest next older is same can parts.
    handed_on c.drop_node.result _ _ (c.drop_node.ensures.never pages (nodes_in (next ∷ older)) (c.newest_page.ensures.told ∙ is) (can_drop_page pages l newest next older c.args.log.0 c.in_ok-page.page.0 same can parts (c.in_ok-page.ensures.value l same pages is can.stands)))
    c.in_err-drop_node.was c.from_residual-in_err-drop_node.ensures

pub returns-in_err-drop_node-clause-never_last : goal.returns-in_err-drop_node-clause-never_last
returns-in_err-drop_node-clause-never_last g c = λ pages l count is same can.
    absurd (c.if-page-log.false (newest_alone pages l can.part c.args.log.0 c.in_ok-page.page.0 can.drop.stands same can.alone (c.in_ok-page.ensures.value l same pages is can.drop.stands)))

pub returns-in_err-drop_node-clause-uses : goal.returns-in_err-drop_node-clause-uses
returns-in_err-drop_node-clause-uses g c = purge_drop g.P.Pages.stays_on c.in_ok-page.page.0 c.args.log.0 _ _ _ c.newest_page.ensures.uses c.drop_node.ensures.uses

pub returns-clause-drops : goal.returns-clause-drops
returns-clause-drops g c = λ pages l newest next older is same can parts.
    let read = c.in_ok-page.ensures.value l same pages is can.stands in
    let log = c.args.log.0 in
    let page = c.in_ok-page.page.0 in
    page_dropped pages l newest next older log page same can parts read _
    (c.in_ok-drop_node.ensures.drops pages (nodes_in (next ∷ older)) (c.newest_page.ensures.told ∙ is) (can_drop_page pages l newest next older log page same can parts read))

pub returns-clause-purges : goal.returns-clause-purges
returns-clause-purges g c = λ pages l count is same can.
    absurd (c.if-page-log.false (newest_alone pages l can.part c.args.log.0 c.in_ok-page.page.0 can.drop.stands same can.alone (c.in_ok-page.ensures.value l same pages is can.drop.stands)))

pub returns-clause-left : goal.returns-clause-left
returns-clause-left g c = λ pages l newest older is same can parts.
    some_left pages l newest older c.args.log.0 c.in_ok-page.page.0 can.stands same parts (c.in_ok-page.ensures.value l same pages is can.stands) c.if-page-log.false

pub returns-clause-uses : goal.returns-clause-uses
returns-clause-uses g c = purge_drop g.P.Pages.stays_on c.in_ok-page.page.0 c.args.log.0 _ _ _ c.newest_page.ensures.uses c.drop_node.ensures.uses
