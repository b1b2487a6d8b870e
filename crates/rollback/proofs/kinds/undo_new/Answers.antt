use Rattle.std.proofs.Common.{[], ◌∷◌, sym, ◌∙◌, lit≤}
use Rattle.page_model.proofs.StepLemmas.{may_less, may_within, uses_at_most, uses_more, uses_within}
use Rattle.file_lists.proofs.LinkLemmas.{handed_on}
use Rattle.lob_index.proofs.AnswerLemmas.{becomes_on}
use Rattle.store_model.specs.Steps.{without_lob}
use Rattle.store_steps.proofs.UseLemmas.{on_told}
use Rattle.rollback.proofs.UseLemmas.{zero_in, both_in, part_in}
use Rattle.rollback.proofs.KindLemmas.{scene_at, at_scene, newest_scene, end_scene, part_made, part_left, empty_lob, still_stands, last_made, last_left, turned_new, turned_last}
use Rattle.rollback.proofs.kinds.undo_new.Goals as goal

pub free_part-requires-clause-may : goal.free_part-requires-clause-may
free_part-requires-clause-may g c =
    let page = c.args.page.0 in
    let log = c.args.log.0 in
    let ns = page ∷ log ∷ 0 ∷ [] in
    may_less ns (0 ∷ page ∷ []) 9 3 164 129 _ c.requires.may (part_in page log) (lit≤ tt) (lit≤ tt)

pub returns-in_err-free_part-clause-never : goal.returns-in_err-free_part-clause-never
returns-in_err-free_part-clause-never g c = λ s is newest dir can ending.
    handed_on c.free_part.result _ _
    (c.free_part.ensures.never s.there s.pages s.store can.lob is.told' is.stands can.found can.single)
    c.in_err-free_part.was c.from_residual.ensures

pub returns-in_err-free_part-clause-uses : goal.returns-in_err-free_part-clause-uses
returns-in_err-free_part-clause-uses g c =
    let page = c.args.page.0 in
    let log = c.args.log.0 in
    let ns = page ∷ log ∷ 0 ∷ [] in
    uses_more (0 ∷ page ∷ []) ns 3 9 129 164 _ _ c.free_part.ensures.uses (part_in page log) (lit≤ tt) (lit≤ tt)

pub returns-then-branch-clause-makes : goal.returns-then-branch-clause-makes
returns-then-branch-clause-makes g c = λ s is newest dir can ending.
    let page = c.args.page.0 in
    let m = can.lob in
    let freed = c.in_ok-free_part.ensures.frees s.there s.pages s.store m is.told' is.stands can.found can.single in
    becomes_on _ _ _ (λ new frees. part_made s page m can.found _ new (sym c.if-branch.true ∙ freed.0) dir frees) freed.1

pub returns-then-branch-clause-left : goal.returns-then-branch-clause-left
returns-then-branch-clause-left g c = λ s is can.
    let page = c.args.page.0 in
    let m = can.lob in
    let freed = c.in_ok-free_part.ensures.frees s.there s.pages s.store m is.told' is.stands can.found can.single in
    part_left s page m can.found (sym c.if-branch.true ∙ freed.0)

pub returns-then-branch-clause-turns : goal.returns-then-branch-clause-turns
returns-then-branch-clause-turns g c = λ s is newest can.
    let page = c.args.page.0 in
    let m = can.lob in
    let freed = c.in_ok-free_part.ensures.frees s.there s.pages s.store m is.told' is.stands can.found can.single in
    turned_new s page m can.found (sym c.if-branch.true ∙ freed.0) c.args.flights.now

pub returns-then-branch-clause-uses : goal.returns-then-branch-clause-uses
returns-then-branch-clause-uses g c =
    let page = c.args.page.0 in
    let log = c.args.log.0 in
    let ns = page ∷ log ∷ 0 ∷ [] in
    uses_more (0 ∷ page ∷ []) ns 3 9 129 164 _ _ c.free_part.ensures.uses (part_in page log) (lit≤ tt) (lit≤ tt)

pub free_rest-requires-clause-may : goal.free_rest-requires-clause-may
free_rest-requires-clause-may g c =
    let page = c.args.page.0 in
    let log = c.args.log.0 in
    let ns = page ∷ log ∷ 0 ∷ [] in
    let none_used = uses_more (0 ∷ page ∷ []) ns 0 0 0 0 _ _ (c.in_ok-free_part.ensures.still c.if-branch.false)
    (part_in page log) (lit≤ tt) (lit≤ tt) in
    may_within ns (0 ∷ []) 9 164 0 0 0 21 c.args.p.now c.free_part.new.p (zero_in page log) (lit≤ tt) (lit≤ tt)
    c.requires.may none_used

pub returns-in_err-free_rest-clause-never : goal.returns-in_err-free_rest-clause-never
returns-in_err-free_rest-clause-never g c = λ s is newest dir can ending.
    let page = c.args.page.0 in
    let m = can.lob in
    let freed = c.in_ok-free_part.ensures.frees s.there s.pages s.store m is.told' is.stands can.found can.single in
    let none = sym c.if-branch.false ∙ freed.0 in
    let first = freed.1 in
    let empty = empty_lob s page m can.found none in
    let on = still_stands s page m can.found first.0 none first.2 in
    handed_on c.free_rest.result _ _ (c.free_rest.ensures.never s.there first.0 s.store m first.1 on can.found)
    c.in_err-free_rest.was c.from_residual-in_err-free_rest.ensures

pub returns-in_err-free_rest-clause-uses : goal.returns-in_err-free_rest-clause-uses
returns-in_err-free_rest-clause-uses g c =
    let page = c.args.page.0 in
    let log = c.args.log.0 in
    let ns = page ∷ log ∷ 0 ∷ [] in
    let none_used = uses_more (0 ∷ page ∷ []) ns 0 0 0 0 _ _ (c.in_ok-free_part.ensures.still c.if-branch.false)
    (part_in page log) (lit≤ tt) (lit≤ tt) in
    let rest_used = uses_within g.P.Pages.stays_on ns (0 ∷ []) 0 0 0 21 c.args.p.now c.free_part.new.p c.free_rest.new.p
    (zero_in page log) none_used c.free_rest.ensures.uses in
    uses_at_most ns 0 21 9 164 _ _ (lit≤ tt) (lit≤ tt) rest_used

pub end_record-requires-clause-may : goal.end_record-requires-clause-may
end_record-requires-clause-may g c =
    let page = c.args.page.0 in
    let log = c.args.log.0 in
    let ns = page ∷ log ∷ 0 ∷ [] in
    let none_used = uses_more (0 ∷ page ∷ []) ns 0 0 0 0 _ _ (c.in_ok-free_part.ensures.still c.if-branch.false)
    (part_in page log) (lit≤ tt) (lit≤ tt) in
    let rest_used = uses_within g.P.Pages.stays_on ns (0 ∷ []) 0 0 0 21 c.args.p.now c.free_part.new.p c.free_rest.new.p
    (zero_in page log) none_used c.free_rest.ensures.uses in
    may_within ns (log ∷ 0 ∷ []) 9 164 0 21 9 143 c.args.p.now c.free_rest.new.p (both_in page log) (lit≤ tt) (lit≤ tt)
    c.requires.may rest_used

pub returns-clause-makes : goal.returns-clause-makes
returns-clause-makes g c = λ s is newest dir can ending.
    let page = c.args.page.0 in
    let log = c.args.log.0 in
    let m = can.lob in
    let freed = c.in_ok-free_part.ensures.frees s.there s.pages s.store m is.told' is.stands can.found can.single in
    let none = sym c.if-branch.false ∙ freed.0 in
    let first = freed.1 in
    let empty = empty_lob s page m can.found none in
    let on = still_stands s page m can.found first.0 none first.2 in
    let second = c.in_ok-free_rest.ensures.gives s.there first.0 s.store m first.1 on can.found empty.0 empty.1 in
    let sc = at_scene _ _ log s second.0 (without_lob page) is second.1 second.2 in
    on_told c.end_record.result _ _ _ (λ new e. last_made s page m can.found second.0 _ new none can.makes e)
    (c.end_record.ensures.ends (scene_at s second.0 (without_lob page)) sc
    (newest_scene c.args.newest.now s second.0 (without_lob page) newest) dir
    (end_scene s second.0 (without_lob page) ending))

pub returns-clause-left : goal.returns-clause-left
returns-clause-left g c = λ s is can.
    let page = c.args.page.0 in
    let log = c.args.log.0 in
    let m = can.lob in
    let freed = c.in_ok-free_part.ensures.frees s.there s.pages s.store m is.told' is.stands can.found can.single in
    let none = sym c.if-branch.false ∙ freed.0 in
    let first = freed.1 in
    let empty = empty_lob s page m can.found none in
    let on = still_stands s page m can.found first.0 none first.2 in
    let second = c.in_ok-free_rest.ensures.gives s.there first.0 s.store m first.1 on can.found empty.0 empty.1 in
    let sc = at_scene _ _ log s second.0 (without_lob page) is second.1 second.2 in
    last_left s page m can.found c.end_record.result none
    (c.end_record.ensures.left (scene_at s second.0 (without_lob page)) sc)

pub returns-clause-turns : goal.returns-clause-turns
returns-clause-turns g c = λ s is newest can.
    let page = c.args.page.0 in
    let m = can.lob in
    let freed = c.in_ok-free_part.ensures.frees s.there s.pages s.store m is.told' is.stands can.found can.single in
    turned_last s page m can.found (sym c.if-branch.false ∙ freed.0) c.args.newest.now newest c.end_record.result _ _
    c.end_record.ensures.turns

pub returns-clause-never : goal.returns-clause-never
returns-clause-never g c = λ s is newest dir can ending.
    let page = c.args.page.0 in
    let log = c.args.log.0 in
    let m = can.lob in
    let freed = c.in_ok-free_part.ensures.frees s.there s.pages s.store m is.told' is.stands can.found can.single in
    let none = sym c.if-branch.false ∙ freed.0 in
    let first = freed.1 in
    let empty = empty_lob s page m can.found none in
    let on = still_stands s page m can.found first.0 none first.2 in
    let second = c.in_ok-free_rest.ensures.gives s.there first.0 s.store m first.1 on can.found empty.0 empty.1 in
    let sc = at_scene _ _ log s second.0 (without_lob page) is second.1 second.2 in
    c.end_record.ensures.never (scene_at s second.0 (without_lob page)) sc
    (newest_scene c.args.newest.now s second.0 (without_lob page) newest) dir
    (end_scene s second.0 (without_lob page) ending)

pub returns-clause-uses : goal.returns-clause-uses
returns-clause-uses g c =
    let page = c.args.page.0 in
    let log = c.args.log.0 in
    let ns = page ∷ log ∷ 0 ∷ [] in
    let none_used = uses_more (0 ∷ page ∷ []) ns 0 0 0 0 _ _ (c.in_ok-free_part.ensures.still c.if-branch.false)
    (part_in page log) (lit≤ tt) (lit≤ tt) in
    let rest_used = uses_within g.P.Pages.stays_on ns (0 ∷ []) 0 0 0 21 c.args.p.now c.free_part.new.p c.free_rest.new.p
    (zero_in page log) none_used c.free_rest.ensures.uses in
    uses_within g.P.Pages.stays_on ns (log ∷ 0 ∷ []) 0 21 9 143 c.args.p.now c.free_rest.new.p c.end_record.new.p
    (both_in page log) rest_used c.end_record.ensures.uses
