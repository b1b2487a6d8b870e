use Rattle.std.proofs.Common.{[], ◌∷◌, refl, sym, ◌∙◌, lit≤}
use Rattle.page_model.proofs.StepLemmas.{may_less, may_within, uses_at_most, uses_within}
use Rattle.engine_base.specs.Addresses.{address_of}
use Rattle.file_lists.proofs.LinkLemmas.{handed_on}
use Rattle.lob_index.proofs.AnswerLemmas.{becomes_on}
use Rattle.purge.proofs.LogLemmas.{on_told}
use Rattle.purge.proofs.KindLemmas.{row_part_went, none_left, still_stands, at_next, at_swept, removed_went, swept_in, without}
use Rattle.purge.proofs.UseLemmas.{zero_in, log_in, part_in, part_used}
use Rattle.purge.proofs.kinds.purge_removed.Goals as goal

pub free_part-requires-clause-may : goal.free_part-requires-clause-may
free_part-requires-clause-may g c =
    let page = c.args.page.0 in
    let log = c.args.log.0 in
    let ns = page ∷ log ∷ 0 ∷ [] in
    may_less ns (0 ∷ page ∷ []) 8 3 225 129 _ c.requires.may (part_in page log) (lit≤ tt) (lit≤ tt)

pub returns-in_err-free_part-clause-uses : goal.returns-in_err-free_part-clause-uses
returns-in_err-free_part-clause-uses g c =
    part_used c.args.page.0 c.args.log.0 8 225 _ _ (lit≤ tt) (lit≤ tt) c.free_part.ensures.uses

pub returns-then-branch-clause-uses : goal.returns-then-branch-clause-uses
returns-then-branch-clause-uses g c =
    part_used c.args.page.0 c.args.log.0 8 225 _ _ (lit≤ tt) (lit≤ tt) c.free_part.ensures.uses

pub log_trx-requires-clause-may : goal.log_trx-requires-clause-may
log_trx-requires-clause-may g c =
    let page = c.args.page.0 in
    let log = c.args.log.0 in
    let ns = page ∷ log ∷ 0 ∷ [] in
    may_within ns (log ∷ []) 8 225 3 129 0 0 c.args.p.now c.free_part.new.p
    (log_in page log) (lit≤ tt) (lit≤ tt) c.requires.may
    (part_used page log 3 129 _ _ (lit≤ tt) (lit≤ tt) c.free_part.ensures.uses)

pub returns-in_err-trx-clause-uses : goal.returns-in_err-trx-clause-uses
returns-in_err-trx-clause-uses g c =
    let page = c.args.page.0 in
    let log = c.args.log.0 in
    let ns = page ∷ log ∷ 0 ∷ [] in
    uses_at_most ns 3 129 8 225 _ _ (lit≤ tt) (lit≤ tt)
    (uses_within g.P.Pages.stays_on ns (log ∷ []) 3 129 0 0 c.args.p.now c.free_part.new.p c.log_trx.new.p
    (log_in page log) (part_used page log 3 129 _ _ (lit≤ tt) (lit≤ tt) c.free_part.ensures.uses)
    c.log_trx.ensures.uses)

pub free_rest-requires-clause-may : goal.free_rest-requires-clause-may
free_rest-requires-clause-may g c =
    let page = c.args.page.0 in
    let log = c.args.log.0 in
    let ns = page ∷ log ∷ 0 ∷ [] in
    may_within ns (0 ∷ []) 8 225 3 129 0 21 c.args.p.now c.log_trx.new.p
    (zero_in page log) (lit≤ tt) (lit≤ tt) c.requires.may
    (uses_within g.P.Pages.stays_on ns (log ∷ []) 3 129 0 0 c.args.p.now c.free_part.new.p c.log_trx.new.p
    (log_in page log) (part_used page log 3 129 _ _ (lit≤ tt) (lit≤ tt) c.free_part.ensures.uses)
    c.log_trx.ensures.uses)

pub returns-in_err-free_rest-clause-uses : goal.returns-in_err-free_rest-clause-uses
returns-in_err-free_rest-clause-uses g c =
    let page = c.args.page.0 in
    let log = c.args.log.0 in
    let ns = page ∷ log ∷ 0 ∷ [] in
    uses_at_most ns 3 150 8 225 _ _ (lit≤ tt) (lit≤ tt)
    (uses_within g.P.Pages.stays_on ns (0 ∷ []) 3 129 0 21 c.args.p.now c.log_trx.new.p c.free_rest.new.p
    (zero_in page log) (uses_within g.P.Pages.stays_on ns (log ∷ []) 3 129 0 0 c.args.p.now c.free_part.new.p c.log_trx.new.p
    (log_in page log) (part_used page log 3 129 _ _ (lit≤ tt) (lit≤ tt) c.free_part.ensures.uses)
    c.log_trx.ensures.uses)
    c.free_rest.ensures.uses)

pub sweep-requires-clause-may : goal.sweep-requires-clause-may
sweep-requires-clause-may g c =
    let page = c.args.page.0 in
    let log = c.args.log.0 in
    let ns = page ∷ log ∷ 0 ∷ [] in
    may_within ns (0 ∷ []) 8 225 3 150 4 61 c.args.p.now c.free_rest.new.p
    (zero_in page log) (lit≤ tt) (lit≤ tt) c.requires.may
    (uses_within g.P.Pages.stays_on ns (0 ∷ []) 3 129 0 21 c.args.p.now c.log_trx.new.p c.free_rest.new.p
    (zero_in page log) (uses_within g.P.Pages.stays_on ns (log ∷ []) 3 129 0 0 c.args.p.now c.free_part.new.p c.log_trx.new.p
    (log_in page log) (part_used page log 3 129 _ _ (lit≤ tt) (lit≤ tt) c.free_part.ensures.uses)
    c.log_trx.ensures.uses)
    c.free_rest.ensures.uses)

pub returns-in_err-sweep-clause-uses : goal.returns-in_err-sweep-clause-uses
returns-in_err-sweep-clause-uses g c =
    let page = c.args.page.0 in
    let log = c.args.log.0 in
    let ns = page ∷ log ∷ 0 ∷ [] in
    uses_at_most ns 7 211 8 225 _ _ (lit≤ tt) (lit≤ tt)
    (uses_within g.P.Pages.stays_on ns (0 ∷ []) 3 150 4 61 c.args.p.now c.free_rest.new.p c.sweep.new.p
    (zero_in page log) (uses_within g.P.Pages.stays_on ns (0 ∷ []) 3 129 0 21 c.args.p.now c.log_trx.new.p c.free_rest.new.p
    (zero_in page log) (uses_within g.P.Pages.stays_on ns (log ∷ []) 3 129 0 0 c.args.p.now c.free_part.new.p c.log_trx.new.p
    (log_in page log) (part_used page log 3 129 _ _ (lit≤ tt) (lit≤ tt) c.free_part.ensures.uses)
    c.log_trx.ensures.uses)
    c.free_rest.ensures.uses)
    c.sweep.ensures.uses)

pub pass-requires-clause-may : goal.pass-requires-clause-may
pass-requires-clause-may g c =
    let page = c.args.page.0 in
    let log = c.args.log.0 in
    let ns = page ∷ log ∷ 0 ∷ [] in
    may_within ns (log ∷ []) 8 225 7 211 1 14 c.args.p.now c.sweep.new.p
    (log_in page log) (lit≤ tt) (lit≤ tt) c.requires.may
    (uses_within g.P.Pages.stays_on ns (0 ∷ []) 3 150 4 61 c.args.p.now c.free_rest.new.p c.sweep.new.p
    (zero_in page log) (uses_within g.P.Pages.stays_on ns (0 ∷ []) 3 129 0 21 c.args.p.now c.log_trx.new.p c.free_rest.new.p
    (zero_in page log) (uses_within g.P.Pages.stays_on ns (log ∷ []) 3 129 0 0 c.args.p.now c.free_part.new.p c.log_trx.new.p
    (log_in page log) (part_used page log 3 129 _ _ (lit≤ tt) (lit≤ tt) c.free_part.ensures.uses)
    c.log_trx.ensures.uses)
    c.free_rest.ensures.uses)
    c.sweep.ensures.uses)

pub returns-clause-uses : goal.returns-clause-uses
returns-clause-uses g c =
    let page = c.args.page.0 in
    let log = c.args.log.0 in
    let ns = page ∷ log ∷ 0 ∷ [] in
    (uses_within g.P.Pages.stays_on ns (log ∷ []) 7 211 1 14 c.args.p.now c.sweep.new.p c.pass.new.p
    (log_in page log) (uses_within g.P.Pages.stays_on ns (0 ∷ []) 3 150 4 61 c.args.p.now c.free_rest.new.p c.sweep.new.p
    (zero_in page log) (uses_within g.P.Pages.stays_on ns (0 ∷ []) 3 129 0 21 c.args.p.now c.log_trx.new.p c.free_rest.new.p
    (zero_in page log) (uses_within g.P.Pages.stays_on ns (log ∷ []) 3 129 0 0 c.args.p.now c.free_part.new.p c.log_trx.new.p
    (log_in page log) (part_used page log 3 129 _ _ (lit≤ tt) (lit≤ tt) c.free_part.ensures.uses)
    c.log_trx.ensures.uses)
    c.free_rest.ensures.uses)
    c.sweep.ensures.uses)
    c.pass.ensures.uses)

pub returns-in_err-free_part-clause-never : goal.returns-in_err-free_part-clause-never
returns-in_err-free_part-clause-never g c = λ there pages store l ls m at some found single dir.
    handed_on c.free_part.result _ _
    (c.free_part.ensures.never there pages store m at.told' at.stands found single)
    c.in_err-free_part.was c.from_residual.ensures

pub returns-then-branch-clause-goes : goal.returns-then-branch-clause-goes
returns-then-branch-clause-goes g c = λ there pages store l ls m at some found single dir.
    let page = c.args.page.0 in
    let log = c.args.log.0 in
    let freed = c.in_ok-free_part.ensures.frees there pages store m at.told' at.stands found single in
    becomes_on _ _ _ (λ new frees. row_part_went there page m (address_of c.args.place) l.trx
    c.args.doc.0 _ store new (sym c.if-branch.true ∙ freed.0) frees dir) freed.1

pub returns-in_err-trx-clause-never : goal.returns-in_err-trx-clause-never
returns-in_err-trx-clause-never g c = λ there pages store l ls m at some found single dir.
    handed_on c.log_trx.result _ _ c.log_trx.ensures.plain c.in_err-trx.was
    c.from_residual-in_err-trx.ensures

pub returns-in_err-free_rest-clause-never : goal.returns-in_err-free_rest-clause-never
returns-in_err-free_rest-clause-never g c = λ there pages store l ls m at some found single dir.
    let page = c.args.page.0 in
    let log = c.args.log.0 in
    let freed = c.in_ok-free_part.ensures.frees there pages store m at.told' at.stands found single in
    let none = sym c.if-branch.false ∙ freed.0 in
    let empty = none_left m.pieces m.index none in
    let first = freed.1 in
    let on = still_stands there page m store first.0 none first.2 in
    let told = c.log_trx.ensures.told ∙ first.1 in
    handed_on c.free_rest.result _ _
    (c.free_rest.ensures.never there first.0 store m told on found)
    c.in_err-free_rest.was c.from_residual-in_err-free_rest.ensures

pub returns-in_err-sweep-clause-never : goal.returns-in_err-sweep-clause-never
returns-in_err-sweep-clause-never g c = λ there pages store l ls m at some found single dir.
    let page = c.args.page.0 in
    let log = c.args.log.0 in
    let freed = c.in_ok-free_part.ensures.frees there pages store m at.told' at.stands found single in
    let none = sym c.if-branch.false ∙ freed.0 in
    let empty = none_left m.pieces m.index none in
    let first = freed.1 in
    let on = still_stands there page m store first.0 none first.2 in
    let told = c.log_trx.ensures.told ∙ first.1 in
    let second = c.in_ok-free_rest.ensures.gives there first.0 store m told on found empty.0 empty.1 in
    handed_on c.sweep.result _ _
    (c.sweep.ensures.never there second.0 _ second.1 second.2 dir)
    c.in_err-sweep.was c.from_residual-in_err-sweep.ensures

pub returns-clause-goes : goal.returns-clause-goes
returns-clause-goes g c = λ there pages store l ls m at some found single dir.
    let page = c.args.page.0 in
    let log = c.args.log.0 in
    let freed = c.in_ok-free_part.ensures.frees there pages store m at.told' at.stands found single in
    let none = sym c.if-branch.false ∙ freed.0 in
    let empty = none_left m.pieces m.index none in
    let first = freed.1 in
    let on = still_stands there page m store first.0 none first.2 in
    let told = c.log_trx.ensures.told ∙ first.1 in
    let second = c.in_ok-free_rest.ensures.gives there first.0 store m told on found empty.0 empty.1 in
    let a = address_of c.args.place in
    let doc = c.args.doc.0 in
    let third = c.in_ok-sweep.ensures.sweeps there second.0 (without page store) second.1 second.2 dir in
    let swept = third.2 in
    let trx = c.in_ok-trx.trx.0 in
    let next = at_swept _ _ log there pages third.0 store l ls a trx doc page _ at third.1 swept in
    let at1 = at_next _ _ log there there pages first.0 store store l ls at first.1 on refl refl in
    let same = c.in_ok-trx.ensures.value there first.0 store l ls at1 in
    on_told c.pass.result _ _ _ (λ new gone. removed_went there page m a l.trx trx doc _ store third.0
    new none same swept gone)
    (c.pass.ensures.passes swept.there third.0 (swept_in a trx doc page swept.there store) l ls next some)

pub returns-clause-never : goal.returns-clause-never
returns-clause-never g c = λ there pages store l ls m at some found single dir.
    let page = c.args.page.0 in
    let log = c.args.log.0 in
    let freed = c.in_ok-free_part.ensures.frees there pages store m at.told' at.stands found single in
    let none = sym c.if-branch.false ∙ freed.0 in
    let empty = none_left m.pieces m.index none in
    let first = freed.1 in
    let on = still_stands there page m store first.0 none first.2 in
    let told = c.log_trx.ensures.told ∙ first.1 in
    let second = c.in_ok-free_rest.ensures.gives there first.0 store m told on found empty.0 empty.1 in
    let a = address_of c.args.place in
    let doc = c.args.doc.0 in
    let third = c.in_ok-sweep.ensures.sweeps there second.0 (without page store) second.1 second.2 dir in
    let swept = third.2 in
    let trx = c.in_ok-trx.trx.0 in
    let next = at_swept _ _ log there pages third.0 store l ls a trx doc page _ at third.1 swept in
    c.pass.ensures.never swept.there third.0 (swept_in a trx doc page swept.there store) l ls next some
