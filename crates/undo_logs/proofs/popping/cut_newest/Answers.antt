use Rattle.std.proofs.Common.{[], ◌∷◌, lit≤}
use Rattle.page_model.proofs.StepLemmas.{may_less, uses_more, within_left, told_step}
use Rattle.engine_base.specs.Addresses.{address_of}
use Rattle.file_lists.proofs.LinkLemmas.{handed_on}
use Rattle.undo_model.specs.Logs.{nodes_in}
use Rattle.undo_logs.specs.Pops.{CutsEnd}
use Rattle.undo_logs.proofs.PopLemmas.{cut_told, alone_here, can_drop, drop_told}
use Rattle.undo_logs.proofs.popping.cut_newest.Goals as goal

pub cut_end-requires-clause-may : goal.cut_end-requires-clause-may
cut_end-requires-clause-may g c =
    let page = c.args.at.page.0 in
    let log = c.args.log.0 in
    may_less (page ∷ log ∷ 0 ∷ []) (page ∷ log ∷ []) 1 0 75 24 (g.P.Pages.state c.args.p.now) c.requires.may (λ n is. within_left (page ∷ log ∷ []) (0 ∷ []) n is) (lit≤ tt) (lit≤ tt)

pub returns-clause-uses : goal.returns-clause-uses
returns-clause-uses g c =
    let page = c.args.at.page.0 in
    let log = c.args.log.0 in
    uses_more (page ∷ log ∷ []) (page ∷ log ∷ 0 ∷ []) 0 1 24 75 _ _ c.cut_end.ensures.uses (λ n is. within_left (page ∷ log ∷ []) (0 ∷ []) n is) (lit≤ tt) (lit≤ tt)

pub returns-in_err-cut_end-clause-uses : goal.returns-in_err-cut_end-clause-uses
returns-in_err-cut_end-clause-uses g c =
    let page = c.args.at.page.0 in
    let log = c.args.log.0 in
    uses_more (page ∷ log ∷ []) (page ∷ log ∷ 0 ∷ []) 0 1 24 75 _ _ c.cut_end.ensures.uses (λ n is. within_left (page ∷ log ∷ []) (0 ∷ []) n is) (lit≤ tt) (lit≤ tt)

pub returns-then-at-eq-OTHER_START-clause-pops : goal.returns-then-at-eq-OTHER_START-clause-pops
returns-then-at-eq-OTHER_START-clause-pops g c = λ pages l e f older is same can records ea ep.
    let start = c.if-at-eq-OTHER_START.true in
    let log = c.args.log.0 in
    let a = address_of c.args.at in
    let previous = address_of c.args.previous in
    let alone = alone_here pages l log e f older a previous same can records ea ep start in
    drop_told pages l log e f older a previous same can records ea ep _ start
    (c.in_ok-drop_newest.ensures.drops pages (nodes_in (alone.next ∷ alone.older)) is (can_drop pages l log e f older a previous same can records ea ep start))

pub returns-in_err-drop_newest-clause-never : goal.returns-in_err-drop_newest-clause-never
returns-in_err-drop_newest-clause-never g c = λ pages l e f older is same can records ea ep.
    let start = c.if-at-eq-OTHER_START.true in
    let log = c.args.log.0 in
    let a = address_of c.args.at in
    let previous = address_of c.args.previous in
    let alone = alone_here pages l log e f older a previous same can records ea ep start in
    handed_on c.drop_newest.result _ _ (c.drop_newest.ensures.never pages (nodes_in (alone.next ∷ alone.older)) is (can_drop pages l log e f older a previous same can records ea ep start))
    c.in_err-drop_newest.was c.from_residual.ensures

pub returns-clause-pops : goal.returns-clause-pops
returns-clause-pops g c = λ pages l e f older is same can records ea ep.
    let log = c.args.log.0 in
    let a = address_of c.args.at in
    let previous = address_of c.args.previous in
    cut_told pages l log e f older a previous same can records ea ep _ c.if-at-eq-OTHER_START.false (told_step (CutsEnd log a previous) _ _ pages is c.in_ok-cut_end.ensures.cuts)
