use Rattle.std.proofs.Common.{[], ◌∷◌, ◌∙◌, lit≤}
use Rattle.page_model.proofs.StepLemmas.{may_within, may_less, uses_bound, within_two}
use Rattle.file_lists.specs.Near.{near_behind}
use Rattle.file_lists.proofs.LinkLemmas.{handed_on}
use Rattle.file_lists.proofs.NearLemmas.{may_behind, behind_few}
use Rattle.undo_model.specs.Logs.{log_node}
use Rattle.undo_model.specs.LogLists.{log_nodes}
use Rattle.undo_logs.proofs.UseLemmas.{gone1, gone2, gone3, gone4, gone_all}
use Rattle.undo_logs.proofs.DropPageLemmas.{count_read, count_most, log_purged, may_give, list_first}
use Rattle.undo_logs.proofs.dropping.end_purged.Goals as goal

pub returns-then-purged-clause-never : goal.returns-then-purged-clause-never
returns-then-purged-clause-never g c = λ pages l count is same can.
    count_most pages _ l count c.in_ok-purged.purged is can c.in_ok-purged.ensures.value c.if-purged.true

pub returns-then-purged-clause-uses : goal.returns-then-purged-clause-uses
returns-then-purged-clause-uses g c = gone_all g.P.Pages.stays_on c.args.log.0 _ 0 0 _ (lit≤ tt) (lit≤ tt) (gone1 g.P.Pages.stays_on c.args.log.0 _ _ c.read_field.ensures.uses)

pub returns-in_err-purged-clause-uses : goal.returns-in_err-purged-clause-uses
returns-in_err-purged-clause-uses g c = gone_all g.P.Pages.stays_on c.args.log.0 _ 0 0 _ (lit≤ tt) (lit≤ tt) (gone1 g.P.Pages.stays_on c.args.log.0 _ _ c.read_field.ensures.uses)

pub read_field-requires-clause-may : goal.read_field-requires-clause-may
read_field-requires-clause-may g c = may_less (c.args.log.0 ∷ 0 ∷ []) (0 ∷ []) 1 0 77 0 (g.P.Pages.state c.args.p.now) c.requires.may (within_two c.args.log.0 0 []) (lit≤ tt) (lit≤ tt)

pub remove_first-requires-clause-may : goal.remove_first-requires-clause-may
remove_first-requires-clause-may g c =
    let log = c.args.log.0 in
    may_behind (g.P.Pages.state c.read_field.new.p) (log_node log) (log ∷ 0 ∷ []) 40
    (may_within (log ∷ 0 ∷ []) (log ∷ 0 ∷ []) 1 77 0 0 1 40 c.args.p.now c.read_field.new.p (λ n is. is) (lit≤ tt) (lit≤ tt) c.requires.may (gone1 g.P.Pages.stays_on log _ _ c.read_field.ensures.uses))

pub returns-in_err-remove_first-clause-never : goal.returns-in_err-remove_first-clause-never
returns-in_err-remove_first-clause-never g c = λ pages l count is same can.
    handed_on c.remove_first.result _ _ (c.remove_first.ensures.never pages (log_nodes can.behind) (c.read_field.ensures.told ∙ is) (list_first pages l c.args.log.0 count same can)) c.in_err-remove_first.was c.from_residual-in_err-remove_first.ensures

pub returns-in_err-remove_first-clause-uses : goal.returns-in_err-remove_first-clause-uses
returns-in_err-remove_first-clause-uses g c =
    let log = c.args.log.0 in
    let s = g.P.Pages.state c.read_field.new.p in
    gone_all g.P.Pages.stays_on log _ 1 40 _ (lit≤ tt) (lit≤ tt) (gone2 g.P.Pages.stays_on log _ _ _ c.read_field.ensures.uses (uses_bound (near_behind s (log_node log)) (log ∷ 0 ∷ []) 1 40 _ _ (behind_few s (log_node log)) c.remove_first.ensures.uses))

pub give-requires-clause-may : goal.give-requires-clause-may
give-requires-clause-may g c =
    let log = c.args.log.0 in
    let s = g.P.Pages.state c.read_field.new.p in
    may_within (log ∷ 0 ∷ []) (0 ∷ []) 1 77 1 40 0 21 c.args.p.now c.remove_first.new.p (within_two log 0 []) (lit≤ tt) (lit≤ tt) c.requires.may
    (gone2 g.P.Pages.stays_on log _ _ _ c.read_field.ensures.uses (uses_bound (near_behind s (log_node log)) (log ∷ 0 ∷ []) 1 40 _ _ (behind_few s (log_node log)) c.remove_first.ensures.uses))

pub returns-in_err-give-clause-never : goal.returns-in_err-give-clause-never
returns-in_err-give-clause-never g c = λ pages l count is same can.
    handed_on c.give.result _ _ (may_give pages _ _ l c.args.log.0 count (c.read_field.ensures.told ∙ is) same can c.in_ok-remove_first.ensures.removes c.give.ensures.never) c.in_err-give.was c.from_residual-in_err-give.ensures

pub returns-in_err-give-clause-uses : goal.returns-in_err-give-clause-uses
returns-in_err-give-clause-uses g c =
    let log = c.args.log.0 in
    let s = g.P.Pages.state c.read_field.new.p in
    gone_all g.P.Pages.stays_on log _ 1 61 _ (lit≤ tt) (lit≤ tt)
    (gone3 g.P.Pages.stays_on log _ _ _ _ c.read_field.ensures.uses (uses_bound (near_behind s (log_node log)) (log ∷ 0 ∷ []) 1 40 _ _ (behind_few s (log_node log)) c.remove_first.ensures.uses) c.give.ensures.uses)

pub write_field-requires-clause-may : goal.write_field-requires-clause-may
write_field-requires-clause-may g c =
    let log = c.args.log.0 in
    let s = g.P.Pages.state c.read_field.new.p in
    may_within (log ∷ 0 ∷ []) (0 ∷ []) 1 77 1 61 0 16 c.args.p.now c.give.new.p (within_two log 0 []) (lit≤ tt) (lit≤ tt) c.requires.may
    (gone3 g.P.Pages.stays_on log _ _ _ _ c.read_field.ensures.uses (uses_bound (near_behind s (log_node log)) (log ∷ 0 ∷ []) 1 40 _ _ (behind_few s (log_node log)) c.remove_first.ensures.uses) c.give.ensures.uses)

pub returns-in_err-write_field-clause-uses : goal.returns-in_err-write_field-clause-uses
returns-in_err-write_field-clause-uses g c =
    let log = c.args.log.0 in
    let s = g.P.Pages.state c.read_field.new.p in
    gone4 g.P.Pages.stays_on log _ _ _ _ _ c.read_field.ensures.uses (uses_bound (near_behind s (log_node log)) (log ∷ 0 ∷ []) 1 40 _ _ (behind_few s (log_node log)) c.remove_first.ensures.uses) c.give.ensures.uses c.write_field.ensures.uses

pub returns-clause-purges : goal.returns-clause-purges
returns-clause-purges g c = λ pages l count is same can.
    log_purged pages _ _ l c.args.log.0 count (c.read_field.ensures.told ∙ is) same can c.in_ok-remove_first.ensures.removes _ _ c.in_ok-purged.purged (count_read pages _ l count c.in_ok-purged.purged is can c.in_ok-purged.ensures.value) c.in_ok-give.ensures.gives c.in_ok-write_field.ensures.sets

pub returns-clause-uses : goal.returns-clause-uses
returns-clause-uses g c =
    let log = c.args.log.0 in
    let s = g.P.Pages.state c.read_field.new.p in
    gone4 g.P.Pages.stays_on log _ _ _ _ _ c.read_field.ensures.uses (uses_bound (near_behind s (log_node log)) (log ∷ 0 ∷ []) 1 40 _ _ (behind_few s (log_node log)) c.remove_first.ensures.uses) c.give.ensures.uses c.write_field.ensures.uses
