use Rattle.std.proofs.Common.{[], ◌∷◌, sym, ◌∙◌, lit≤}
use Rattle.page_model.proofs.StepLemmas.{may_within, uses_at_most, uses_within, within_nil}
use Rattle.file_lists.proofs.LinkLemmas.{handed_on}
use Rattle.read_views.specs.Flights.{row_in}
use Rattle.store_steps.proofs.UseLemmas.{on_told}
use Rattle.rollback.proofs.RowLemmas.{rows_at, rows_there, is_in, row_kept, row_gone}
use Rattle.rollback.proofs.rows.restore.Goals as goal

pub returns-in_err-is_gone-clause-never : goal.returns-in_err-is_gone-clause-never
returns-in_err-is_gone-clause-never g c = λ there pages store told on dir can.
    handed_on c.is_gone.result _ _ (c.is_gone.ensures.never there pages store told on)
    c.in_err-is_gone.was c.from_residual.ensures

pub remove-requires-clause-may : goal.remove-requires-clause-may
remove-requires-clause-may g c =
    may_within (0 ∷ []) (0 ∷ []) 6 61 3 0 3 61 c.args.p.now c.is_gone.new.p (λ n is. is) (lit≤ tt)
    (lit≤ tt) c.requires.may c.is_gone.ensures.uses

pub returns-then-branch-clause-restores : goal.returns-then-branch-clause-restores
returns-then-branch-clause-restores g c = λ there pages store told on dir can.
    let d = c.args.before.now.doc.0 in
    let gone = sym (c.in_ok-is_gone.ensures.value there pages store told on can) ∙ c.if-branch.true in
    on_told c.remove.result _ _ _
    (λ new r. row_gone there pages store on d (row_in c.args.before.now) _ new gone r.0)
    (c.remove.ensures.removes pages there (c.is_gone.ensures.told ∙ told) (rows_at there pages store on)
    dir (rows_there there pages store on).can (is_in there pages store on c.args.rows.now d dir can.has))

pub returns-then-branch-clause-never : goal.returns-then-branch-clause-never
returns-then-branch-clause-never g c = λ there pages store told on dir can.
    c.remove.ensures.never pages there (c.is_gone.ensures.told ∙ told) (rows_at there pages store on)
    dir (rows_there there pages store on).can

pub returns-then-branch-clause-uses : goal.returns-then-branch-clause-uses
returns-then-branch-clause-uses g c =
    uses_within g.P.Pages.stays_on (0 ∷ []) (0 ∷ []) 3 0 3 61 c.args.p.now c.is_gone.new.p
    c.remove.new.p (λ n is. is) c.is_gone.ensures.uses c.remove.ensures.uses

pub put_back-requires-clause-may : goal.put_back-requires-clause-may
put_back-requires-clause-may g c =
    may_within (0 ∷ []) [] 6 61 3 0 1 48 c.args.p.now c.is_gone.new.p (within_nil (0 ∷ [])) (lit≤ tt)
    (lit≤ tt) c.requires.may c.is_gone.ensures.uses

pub returns-clause-restores : goal.returns-clause-restores
returns-clause-restores g c = λ there pages store told on dir can.
    let d = c.args.before.now.doc.0 in
    let kept = sym (c.in_ok-is_gone.ensures.value there pages store told on can) ∙ c.if-branch.false in
    on_told c.put_back.result _ _ _
    (λ new p. row_kept there pages store on d (row_in c.args.before.now) _ new kept p)
    (c.put_back.ensures.puts there pages store (c.is_gone.ensures.told ∙ told) on dir can)

pub returns-clause-never : goal.returns-clause-never
returns-clause-never g c = λ there pages store told on dir can.
    c.put_back.ensures.never there pages store (c.is_gone.ensures.told ∙ told) on dir can

pub returns-clause-uses : goal.returns-clause-uses
returns-clause-uses g c =
    uses_at_most (0 ∷ []) 4 48 6 61 _ _ (lit≤ tt) (lit≤ tt)
    (uses_within g.P.Pages.stays_on (0 ∷ []) [] 3 0 1 48 c.args.p.now c.is_gone.new.p c.put_back.new.p
    (within_nil (0 ∷ [])) c.is_gone.ensures.uses c.put_back.ensures.uses)
