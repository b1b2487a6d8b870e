use Rattle.std.proofs.Common.{List, [], ◌∷◌, ◌∙◌, ap, lit≤}
use Rattle.undo_model.specs.Data.{Entry}
use Rattle.page_model.specs.Lists.{or_null}
use Rattle.page_model.proofs.StepLemmas.{may_within, uses_bound, within_one, within_two}
use Rattle.engine_base.specs.Addresses.{address_of}
use Rattle.file_lists.specs.Near.{near_node, near_back}
use Rattle.file_lists.proofs.LinkLemmas.{handed_on}
use Rattle.file_lists.proofs.NearLemmas.{may_node, node_few, may_back, back_few}
use Rattle.undo_model.specs.Logs.{log_node}
use Rattle.undo_model.specs.LogLists.{committed_base}
use Rattle.undo_model.specs.LogSteps.{oldest}
use Rattle.undo_logs.proofs.UseLemmas.{commit1, commit2, commit3, commit4, commit5, commit6, commit_all}
use Rattle.undo_logs.proofs.MarkLemmas.{cut_first}
use Rattle.undo_logs.proofs.CommitLemmas.{commits_read, log_stands, may_remove, may_add, committed_told}
use Rattle.undo_logs.proofs.committing.commit.Goals as goal

pub record_from-requires-clause-may : goal.record_from-requires-clause-may
record_from-requires-clause-may g c =
    let log = c.args.log.0 in
    may_within (log ∷ 0 ∷ []) (log ∷ []) 3 163 0 0 0 0 c.args.p.now c.read_field.new.p (within_one log (0 ∷ [])) (lit≤ tt) (lit≤ tt) c.requires.may (commit1 g.P.Pages.stays_on log _ _ c.read_field.ensures.uses)

pub returns-in_err-oldest-clause-never : goal.returns-in_err-oldest-clause-never
returns-in_err-oldest-clause-never g c = λ pages l count is same can fits.
    handed_on c.record_from.result _ _ (c.record_from.ensures.never pages l (c.read_field.ensures.told ∙ is) (cut_first pages l c.args.log.0 c.from.result (log_stands pages l count can) same c.from.ensures).cut)
    c.in_err-oldest.was c.from_residual-in_err-oldest.ensures

pub mark_committed-requires-clause-may : goal.mark_committed-requires-clause-may
mark_committed-requires-clause-may g c =
    let log = c.args.log.0 in
    may_within (log ∷ 0 ∷ []) (log ∷ []) 3 163 0 0 0 39 c.args.p.now c.record_from.new.p (within_one log (0 ∷ [])) (lit≤ tt) (lit≤ tt) c.requires.may (commit2 g.P.Pages.stays_on log _ _ _ c.read_field.ensures.uses c.record_from.ensures.uses)

pub returns-in_err-mark_committed-clause-uses : goal.returns-in_err-mark_committed-clause-uses
returns-in_err-mark_committed-clause-uses g c =
    let log = c.args.log.0 in
    commit_all g.P.Pages.stays_on log _ 0 39 _ (lit≤ tt) (lit≤ tt) (commit3 g.P.Pages.stays_on log _ _ _ _ c.read_field.ensures.uses c.record_from.ensures.uses c.mark_committed.ensures.uses)

pub remove-requires-clause-may : goal.remove-requires-clause-may
remove-requires-clause-may g c =
    let log = c.args.log.0 in
    may_node (g.P.Pages.state c.mark_committed.new.p) (log_node log) (log ∷ 0 ∷ []) 40
    (may_within (log ∷ 0 ∷ []) (log ∷ 0 ∷ []) 3 163 0 39 2 40 c.args.p.now c.mark_committed.new.p (λ n is. is) (lit≤ tt) (lit≤ tt) c.requires.may
    (commit3 g.P.Pages.stays_on log _ _ _ _ c.read_field.ensures.uses c.record_from.ensures.uses c.mark_committed.ensures.uses))

pub returns-in_err-remove-clause-never : goal.returns-in_err-remove-clause-never
returns-in_err-remove-clause-never g c = λ pages l count is same can fits.
    let log = c.args.log.0 in
    let cut = cut_first pages l log c.from.result (log_stands pages l count can) same c.from.ensures in
    let told = c.read_field.ensures.told ∙ is in
    let to = c.in_ok-oldest.ensures.value pages l told cut.cut ∙ ap (λ (rs : List Entry). or_null (oldest rs)) cut.all in
    handed_on c.remove.result _ _
    (may_remove pages _ _ l log count c.in_ok-commits.commits (address_of c.in_ok-oldest.oldest) (c.record_from.ensures.told ∙ told) same can (commits_read pages _ l count c.in_ok-commits.commits is can c.in_ok-commits.ensures.value) to c.in_ok-mark_committed.ensures.marks c.remove.ensures.never)
    c.in_err-remove.was c.from_residual-in_err-remove.ensures

pub returns-in_err-remove-clause-uses : goal.returns-in_err-remove-clause-uses
returns-in_err-remove-clause-uses g c =
    let log = c.args.log.0 in
    let s = g.P.Pages.state c.mark_committed.new.p in
    commit_all g.P.Pages.stays_on log _ 2 79 _ (lit≤ tt) (lit≤ tt)
    (commit4 g.P.Pages.stays_on log _ _ _ _ _ c.read_field.ensures.uses c.record_from.ensures.uses c.mark_committed.ensures.uses (uses_bound (near_node s (log_node log)) (log ∷ 0 ∷ []) 2 40 _ _ (node_few s (log_node log)) c.remove.ensures.uses))

pub add_last-requires-clause-may : goal.add_last-requires-clause-may
add_last-requires-clause-may g c =
    let log = c.args.log.0 in
    let s = g.P.Pages.state c.mark_committed.new.p in
    may_back (g.P.Pages.state c.remove.new.p) committed_base (log ∷ 0 ∷ []) 68
    (may_within (log ∷ 0 ∷ []) (log ∷ 0 ∷ []) 3 163 2 79 1 68 c.args.p.now c.remove.new.p (λ n is. is) (lit≤ tt) (lit≤ tt) c.requires.may
    (commit4 g.P.Pages.stays_on log _ _ _ _ _ c.read_field.ensures.uses c.record_from.ensures.uses c.mark_committed.ensures.uses (uses_bound (near_node s (log_node log)) (log ∷ 0 ∷ []) 2 40 _ _ (node_few s (log_node log)) c.remove.ensures.uses)))

pub returns-in_err-add_last-clause-never : goal.returns-in_err-add_last-clause-never
returns-in_err-add_last-clause-never g c = λ pages l count is same can fits.
    let log = c.args.log.0 in
    let cut = cut_first pages l log c.from.result (log_stands pages l count can) same c.from.ensures in
    let told = c.read_field.ensures.told ∙ is in
    let to = c.in_ok-oldest.ensures.value pages l told cut.cut ∙ ap (λ (rs : List Entry). or_null (oldest rs)) cut.all in
    handed_on c.add_last.result _ _
    (may_add pages _ _ l log count c.in_ok-commits.commits (address_of c.in_ok-oldest.oldest) (c.record_from.ensures.told ∙ told) same can (commits_read pages _ l count c.in_ok-commits.commits is can c.in_ok-commits.ensures.value) to c.in_ok-mark_committed.ensures.marks _ c.in_ok-remove.ensures.removes c.add_last.ensures.never)
    c.in_err-add_last.was c.from_residual-in_err-add_last.ensures

pub returns-in_err-add_last-clause-uses : goal.returns-in_err-add_last-clause-uses
returns-in_err-add_last-clause-uses g c =
    let log = c.args.log.0 in
    let s = g.P.Pages.state c.mark_committed.new.p in
    let t = g.P.Pages.state c.remove.new.p in
    commit_all g.P.Pages.stays_on log _ 3 147 _ (lit≤ tt) (lit≤ tt)
    (commit5 g.P.Pages.stays_on log _ _ _ _ _ _ c.read_field.ensures.uses c.record_from.ensures.uses c.mark_committed.ensures.uses (uses_bound (near_node s (log_node log)) (log ∷ 0 ∷ []) 2 40 _ _ (node_few s (log_node log)) c.remove.ensures.uses)
    (uses_bound (near_back t committed_base) (log ∷ 0 ∷ []) 1 68 _ _ (back_few t committed_base) c.add_last.ensures.uses))

pub write_field-requires-clause-may : goal.write_field-requires-clause-may
write_field-requires-clause-may g c =
    let log = c.args.log.0 in
    let s = g.P.Pages.state c.mark_committed.new.p in
    let t = g.P.Pages.state c.remove.new.p in
    may_within (log ∷ 0 ∷ []) (0 ∷ []) 3 163 3 147 0 16 c.args.p.now c.add_last.new.p (within_two log 0 []) (lit≤ tt) (lit≤ tt) c.requires.may
    (commit5 g.P.Pages.stays_on log _ _ _ _ _ _ c.read_field.ensures.uses c.record_from.ensures.uses c.mark_committed.ensures.uses (uses_bound (near_node s (log_node log)) (log ∷ 0 ∷ []) 2 40 _ _ (node_few s (log_node log)) c.remove.ensures.uses)
    (uses_bound (near_back t committed_base) (log ∷ 0 ∷ []) 1 68 _ _ (back_few t committed_base) c.add_last.ensures.uses))

pub returns-in_err-write_field-clause-uses : goal.returns-in_err-write_field-clause-uses
returns-in_err-write_field-clause-uses g c =
    let log = c.args.log.0 in
    let s = g.P.Pages.state c.mark_committed.new.p in
    let t = g.P.Pages.state c.remove.new.p in
    commit6 g.P.Pages.stays_on log _ _ _ _ _ _ _ c.read_field.ensures.uses c.record_from.ensures.uses c.mark_committed.ensures.uses (uses_bound (near_node s (log_node log)) (log ∷ 0 ∷ []) 2 40 _ _ (node_few s (log_node log)) c.remove.ensures.uses)
    (uses_bound (near_back t committed_base) (log ∷ 0 ∷ []) 1 68 _ _ (back_few t committed_base) c.add_last.ensures.uses) c.write_field.ensures.uses

pub returns-clause-commits : goal.returns-clause-commits
returns-clause-commits g c = λ pages l count is same can.
    let log = c.args.log.0 in
    let cut = cut_first pages l log c.from.result (log_stands pages l count can) same c.from.ensures in
    let told = c.read_field.ensures.told ∙ is in
    let to = c.in_ok-oldest.ensures.value pages l told cut.cut ∙ ap (λ (rs : List Entry). or_null (oldest rs)) cut.all in
    committed_told pages _ _ l log count c.in_ok-commits.commits (address_of c.in_ok-oldest.oldest) (c.record_from.ensures.told ∙ told) same can (commits_read pages _ l count c.in_ok-commits.commits is can c.in_ok-commits.ensures.value) to c.in_ok-mark_committed.ensures.marks _ c.in_ok-remove.ensures.removes
    _ _ c.in_ok-add_last.ensures.adds c.in_ok-write_field.ensures.sets

pub returns-clause-uses : goal.returns-clause-uses
returns-clause-uses g c =
    let log = c.args.log.0 in
    let s = g.P.Pages.state c.mark_committed.new.p in
    let t = g.P.Pages.state c.remove.new.p in
    commit6 g.P.Pages.stays_on log _ _ _ _ _ _ _ c.read_field.ensures.uses c.record_from.ensures.uses c.mark_committed.ensures.uses (uses_bound (near_node s (log_node log)) (log ∷ 0 ∷ []) 2 40 _ _ (node_few s (log_node log)) c.remove.ensures.uses)
    (uses_bound (near_back t committed_base) (log ∷ 0 ∷ []) 1 68 _ _ (back_few t committed_base) c.add_last.ensures.uses) c.write_field.ensures.uses
