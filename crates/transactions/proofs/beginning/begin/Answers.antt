use Rattle.std.proofs.Common.{◌≡◌, [], ◌∷◌, Option, IfSome, sym, subst, ◌∙◌, lit≤, add-one}
use Rattle.page_model.specs.Pages.{Pages, field}
use Rattle.page_model.proofs.StepLemmas.{may_within, uses_at_most, uses_within}
use Rattle.file_lists.proofs.LinkLemmas.{handed_on}
use Rattle.transactions.proofs.BeginLemmas.{can_begin, trx_begun}
use Rattle.transactions.proofs.beginning.begin.Goals as goal

pub begin_log-requires-clause-may : goal.begin_log-requires-clause-may
begin_log-requires-clause-may g c =
    may_within (0 ∷ []) (0 ∷ []) 2 220 0 0 2 204 c.args.p.now c.read_field.new.p (λ n is. is)
    (lit≤ tt) (lit≤ tt) c.requires.may c.read_field.ensures.uses

pub returns-in_err-log-clause-never : goal.returns-in_err-log-clause-never
returns-in_err-log-clause-never g c = λ there pages store at few covered.
    handed_on c.begin_log.result _ _
    (c.begin_log.ensures.never pages (c.read_field.ensures.told ∙ at.told')
    (can_begin pages store at.stands.is) covered)
    c.in_err-log.was c.from_residual-in_err-log.ensures

pub returns-in_err-log-clause-uses : goal.returns-in_err-log-clause-uses
returns-in_err-log-clause-uses g c =
    uses_at_most (0 ∷ []) 2 204 2 220 _ _ (lit≤ tt) (lit≤ tt)
    (uses_within g.P.Pages.stays_on (0 ∷ []) (0 ∷ []) 0 0 2 204 c.args.p.now c.read_field.new.p
    c.begin_log.new.p (λ n is. is) c.read_field.ensures.uses c.begin_log.ensures.uses)

pub write_field-requires-clause-may : goal.write_field-requires-clause-may
write_field-requires-clause-may g c =
    may_within (0 ∷ []) (0 ∷ []) 2 220 2 204 0 16 c.args.p.now c.begin_log.new.p (λ n is. is)
    (lit≤ tt) (lit≤ tt) c.requires.may
    (uses_within g.P.Pages.stays_on (0 ∷ []) (0 ∷ []) 0 0 2 204 c.args.p.now c.read_field.new.p
    c.begin_log.new.p (λ n is. is) c.read_field.ensures.uses c.begin_log.ensures.uses)

pub returns-in_err-write_field-clause-uses : goal.returns-in_err-write_field-clause-uses
returns-in_err-write_field-clause-uses g c =
    uses_within g.P.Pages.stays_on (0 ∷ []) (0 ∷ []) 2 204 0 16 c.args.p.now c.begin_log.new.p
    c.write_field.new.p (λ n is. is)
    (uses_within g.P.Pages.stays_on (0 ∷ []) (0 ∷ []) 0 0 2 204 c.args.p.now c.read_field.new.p
    c.begin_log.new.p (λ n is. is) c.read_field.ensures.uses c.begin_log.ensures.uses)
    c.write_field.ensures.uses

pub returns-clause-begins : goal.returns-clause-begins
returns-clause-begins g c = λ there pages store at few covered.
    let stands = at.stands in
    let read = subst (λ (o : Option Pages). IfSome o
    (λ ps. c.in_ok-id.id ≡ field ps 0 38 8)) at.told'
    c.in_ok-id.ensures.value in
    let same = read ∙ stands.is.standing.system.next_trx ∙ sym stands.is.shows.next_trx in
    trx_begun there pages store (g.P.Pages.state c.begin_log.new.p).told _ c.in_ok-id.id
    c.in_ok-log.log.0 _ _ stands at.consistent same (add-one c.in_ok-id.id)
    (c.in_ok-log.ensures.begins pages (c.read_field.ensures.told ∙ at.told')
    (can_begin pages store stands.is) covered) c.in_ok-write_field.ensures.sets

pub returns-clause-uses : goal.returns-clause-uses
returns-clause-uses g c =
    uses_within g.P.Pages.stays_on (0 ∷ []) (0 ∷ []) 2 204 0 16 c.args.p.now c.begin_log.new.p
    c.write_field.new.p (λ n is. is)
    (uses_within g.P.Pages.stays_on (0 ∷ []) (0 ∷ []) 0 0 2 204 c.args.p.now c.read_field.new.p
    c.begin_log.new.p (λ n is. is) c.read_field.ensures.uses c.begin_log.ensures.uses)
    c.write_field.ensures.uses
