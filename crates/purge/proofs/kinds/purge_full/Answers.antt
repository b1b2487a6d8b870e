use Rattle.std.proofs.Common.{[], ◌∷◌, refl, sym, ◌∙◌, lit≤}
use Rattle.page_model.proofs.StepLemmas.{may_less, may_within, uses_at_most, uses_within}
use Rattle.file_lists.proofs.LinkLemmas.{handed_on}
use Rattle.lob_index.proofs.AnswerLemmas.{becomes_on}
use Rattle.purge.proofs.LogLemmas.{on_told}
use Rattle.purge.proofs.KindLemmas.{part_went, none_left, still_stands, at_next, lob_went}
use Rattle.purge.proofs.UseLemmas.{zero_in, log_in, part_in, part_used}
use Rattle.purge.proofs.kinds.purge_full.Goals as goal

pub free_part-requires-clause-may : goal.free_part-requires-clause-may
free_part-requires-clause-may g c =
    let page = c.args.page.0 in
    let log = c.args.log.0 in
    may_less (page ∷ log ∷ 0 ∷ []) (0 ∷ page ∷ []) 4 3 164 129 _ c.requires.may (part_in page log)
    (lit≤ tt) (lit≤ tt)

pub returns-in_err-free_part-clause-uses : goal.returns-in_err-free_part-clause-uses
returns-in_err-free_part-clause-uses g c =
    part_used c.args.page.0 c.args.log.0 4 164 _ _ (lit≤ tt) (lit≤ tt) c.free_part.ensures.uses

pub returns-then-branch-clause-uses : goal.returns-then-branch-clause-uses
returns-then-branch-clause-uses g c =
    part_used c.args.page.0 c.args.log.0 4 164 _ _ (lit≤ tt) (lit≤ tt) c.free_part.ensures.uses

pub free_rest-requires-clause-may : goal.free_rest-requires-clause-may
free_rest-requires-clause-may g c =
    let page = c.args.page.0 in
    let log = c.args.log.0 in
    may_within (page ∷ log ∷ 0 ∷ []) (0 ∷ []) 4 164 3 129 0 21 c.args.p.now c.free_part.new.p
    (zero_in page log) (lit≤ tt) (lit≤ tt) c.requires.may
    (part_used page log 3 129 _ _ (lit≤ tt) (lit≤ tt) c.free_part.ensures.uses)

pub returns-in_err-free_rest-clause-uses : goal.returns-in_err-free_rest-clause-uses
returns-in_err-free_rest-clause-uses g c =
    let page = c.args.page.0 in
    let log = c.args.log.0 in
    let ns = page ∷ log ∷ 0 ∷ [] in
    uses_at_most ns 3 150 4 164 _ _ (lit≤ tt) (lit≤ tt)
    (uses_within g.P.Pages.stays_on ns (0 ∷ []) 3 129 0 21 c.args.p.now c.free_part.new.p
    c.free_rest.new.p (zero_in page log)
    (part_used page log 3 129 _ _ (lit≤ tt) (lit≤ tt) c.free_part.ensures.uses)
    c.free_rest.ensures.uses)

pub pass-requires-clause-may : goal.pass-requires-clause-may
pass-requires-clause-may g c =
    let page = c.args.page.0 in
    let log = c.args.log.0 in
    let ns = page ∷ log ∷ 0 ∷ [] in
    may_within ns (log ∷ []) 4 164 3 150 1 14 c.args.p.now c.free_rest.new.p
    (log_in page log) (lit≤ tt) (lit≤ tt) c.requires.may
    (uses_within g.P.Pages.stays_on ns (0 ∷ []) 3 129 0 21 c.args.p.now c.free_part.new.p
    c.free_rest.new.p (zero_in page log)
    (part_used page log 3 129 _ _ (lit≤ tt) (lit≤ tt) c.free_part.ensures.uses)
    c.free_rest.ensures.uses)

pub returns-clause-uses : goal.returns-clause-uses
returns-clause-uses g c =
    let page = c.args.page.0 in
    let log = c.args.log.0 in
    let ns = page ∷ log ∷ 0 ∷ [] in
    uses_within g.P.Pages.stays_on ns (log ∷ []) 3 150 1 14 c.args.p.now c.free_rest.new.p c.pass.new.p
    (log_in page log)
    (uses_within g.P.Pages.stays_on ns (0 ∷ []) 3 129 0 21 c.args.p.now c.free_part.new.p
    c.free_rest.new.p (zero_in page log)
    (part_used page log 3 129 _ _ (lit≤ tt) (lit≤ tt) c.free_part.ensures.uses)
    c.free_rest.ensures.uses) c.pass.ensures.uses

pub returns-in_err-free_part-clause-never : goal.returns-in_err-free_part-clause-never
returns-in_err-free_part-clause-never g c = λ there pages store l ls m at some found single.
    handed_on c.free_part.result _ _
    (c.free_part.ensures.never there pages store m at.told' at.stands found single)
    c.in_err-free_part.was c.from_residual.ensures

pub returns-then-branch-clause-goes : goal.returns-then-branch-clause-goes
returns-then-branch-clause-goes g c = λ there pages store l ls m at some found single.
    let freed = c.in_ok-free_part.ensures.frees there pages store m at.told' at.stands found single in
    becomes_on _ _ _ (λ new frees. part_went there c.args.page.0 m store new
    (sym c.if-branch.true ∙ freed.0) frees) freed.1

pub returns-in_err-free_rest-clause-never : goal.returns-in_err-free_rest-clause-never
returns-in_err-free_rest-clause-never g c = λ there pages store l ls m at some found single.
    let freed = c.in_ok-free_part.ensures.frees there pages store m at.told' at.stands found single in
    let none = sym c.if-branch.false ∙ freed.0 in
    let first = freed.1 in
    let on = still_stands there c.args.page.0 m store first.0 none first.2 in
    handed_on c.free_rest.result _ _
    (c.free_rest.ensures.never there first.0 store m first.1 on found)
    c.in_err-free_rest.was c.from_residual-in_err-free_rest.ensures

pub returns-clause-goes : goal.returns-clause-goes
returns-clause-goes g c = λ there pages store l ls m at some found single.
    let page = c.args.page.0 in
    let log = c.args.log.0 in
    let freed = c.in_ok-free_part.ensures.frees there pages store m at.told' at.stands found single in
    let none = sym c.if-branch.false ∙ freed.0 in
    let empty = none_left m.pieces m.index none in
    let first = freed.1 in
    let on = still_stands there page m store first.0 none first.2 in
    let second = c.in_ok-free_rest.ensures.gives there first.0 store m first.1 on found empty.0 empty.1 in
    let next = at_next _ _ log there there pages second.0 store _ l ls at second.1 second.2 refl refl in
    on_told c.pass.result _ _ _ (λ new gone. lob_went there page m store new none gone)
    (c.pass.ensures.passes there second.0 _ l ls next some)

pub returns-clause-never : goal.returns-clause-never
returns-clause-never g c = λ there pages store l ls m at some found single.
    let page = c.args.page.0 in
    let log = c.args.log.0 in
    let freed = c.in_ok-free_part.ensures.frees there pages store m at.told' at.stands found single in
    let none = sym c.if-branch.false ∙ freed.0 in
    let empty = none_left m.pieces m.index none in
    let first = freed.1 in
    let on = still_stands there page m store first.0 none first.2 in
    let second = c.in_ok-free_rest.ensures.gives there first.0 store m first.1 on found empty.0 empty.1 in
    let next = at_next _ _ log there there pages second.0 store _ l ls at second.1 second.2 refl refl in
    c.pass.ensures.never there second.0 _ l ls next some
