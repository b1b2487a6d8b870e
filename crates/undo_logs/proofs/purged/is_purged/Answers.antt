use Rattle.std.proofs.Common.{◌≡◌, ℕ, Bool, IfOk, ap, ◌∙◌, sym, subst, arith}
use Rattle.page_model.specs.Pages.{field}
use Rattle.engine_base.specs.Addresses.{address_of}
use Rattle.file_lists.proofs.LinkLemmas.{handed_on}
use Rattle.undo_logs.specs.Purged.{logs_in}
use Rattle.undo_logs.proofs.ToldLemmas.{told_is}
use Rattle.undo_logs.proofs.OwnerLemmas.{none_past, log_of_page}
use Rattle.undo_logs.proofs.PurgedLemmas.{first_uses, wider, log_uses, all_uses, as_log, as_page, may_type, may_first, may_log, may_passed, no_pointer, no_log, others_log, active_log, committed_log, active_by, committed_by}
use Rattle.undo_logs.proofs.purged.is_purged.Goals as goal

pub returns-then-roll-eq0-clause-value : goal.returns-then-roll-eq0-clause-value
returns-then-roll-eq0-clause-value g c = λ pages store is st. no_pointer c.args.roll.0 c.args.trx.0 (logs_in st) c.if-roll-eq0.true

pub is_of_log-requires-clause-may : goal.is_of_log-requires-clause-may
is_of_log-requires-clause-may g c = may_type c.leads_to-a.result.page.0 _ c.requires.may

pub returns-in_err-is_of_log-clause-uses : goal.returns-in_err-is_of_log-clause-uses
returns-in_err-is_of_log-clause-uses g c = as_page g.P.Pages.stays_on c.leads_to-a.result.page.0 c.args.p.now c.is_of_log.new.p c.is_of_log.ensures.uses

pub returns-then-not-branch-clause-uses : goal.returns-then-not-branch-clause-uses
returns-then-not-branch-clause-uses g c = as_page g.P.Pages.stays_on c.leads_to-a.result.page.0 c.args.p.now c.is_of_log.new.p c.is_of_log.ensures.uses

pub first_page-requires-clause-may : goal.first_page-requires-clause-may
first_page-requires-clause-may g c = may_first g.P.Pages.stays_on c.leads_to-a.result.page.0 c.args.p.now c.is_of_log.new.p c.requires.may c.is_of_log.ensures.uses

pub returns-in_err-log-clause-uses : goal.returns-in_err-log-clause-uses
returns-in_err-log-clause-uses g c = as_page g.P.Pages.stays_on c.leads_to-a.result.page.0 c.args.p.now c.first_page.new.p (first_uses g.P.Pages.stays_on c.leads_to-a.result.page.0 c.args.p.now c.is_of_log.new.p c.first_page.new.p c.is_of_log.ensures.uses c.first_page.ensures.uses)

pub read_field-requires-clause-may : goal.read_field-requires-clause-may
read_field-requires-clause-may g c = may_log g.P.Pages.stays_on c.leads_to-a.result.page.0 c.in_ok-log.log.0 c.args.p.now c.first_page.new.p c.requires.may (wider g.P.Pages.stays_on c.leads_to-a.result.page.0 c.in_ok-log.log.0 c.args.p.now c.first_page.new.p (first_uses g.P.Pages.stays_on c.leads_to-a.result.page.0 c.args.p.now c.is_of_log.new.p c.first_page.new.p c.is_of_log.ensures.uses c.first_page.ensures.uses))

pub returns-in_err-owner-clause-uses : goal.returns-in_err-owner-clause-uses
returns-in_err-owner-clause-uses g c = as_log g.P.Pages.stays_on c.leads_to-a.result.page.0 c.in_ok-log.log.0 c.args.p.now c.read_field.new.p (log_uses g.P.Pages.stays_on c.leads_to-a.result.page.0 c.in_ok-log.log.0 c.args.p.now c.first_page.new.p c.read_field.new.p (wider g.P.Pages.stays_on c.leads_to-a.result.page.0 c.in_ok-log.log.0 c.args.p.now c.first_page.new.p (first_uses g.P.Pages.stays_on c.leads_to-a.result.page.0 c.args.p.now c.is_of_log.new.p c.first_page.new.p c.is_of_log.ensures.uses c.first_page.ensures.uses)) c.read_field.ensures.uses)

pub returns-then-owner-trx-clause-uses : goal.returns-then-owner-trx-clause-uses
returns-then-owner-trx-clause-uses g c = as_log g.P.Pages.stays_on c.leads_to-a.result.page.0 c.in_ok-log.log.0 c.args.p.now c.read_field.new.p (log_uses g.P.Pages.stays_on c.leads_to-a.result.page.0 c.in_ok-log.log.0 c.args.p.now c.first_page.new.p c.read_field.new.p (wider g.P.Pages.stays_on c.leads_to-a.result.page.0 c.in_ok-log.log.0 c.args.p.now c.first_page.new.p (first_uses g.P.Pages.stays_on c.leads_to-a.result.page.0 c.args.p.now c.is_of_log.new.p c.first_page.new.p c.is_of_log.ensures.uses c.first_page.ensures.uses)) c.read_field.ensures.uses)

pub read_field-requires-2-clause-may : goal.read_field-requires-2-clause-may
read_field-requires-2-clause-may g c = may_log g.P.Pages.stays_on c.leads_to-a.result.page.0 c.in_ok-log.log.0 c.args.p.now c.read_field.new.p c.requires.may (log_uses g.P.Pages.stays_on c.leads_to-a.result.page.0 c.in_ok-log.log.0 c.args.p.now c.first_page.new.p c.read_field.new.p (wider g.P.Pages.stays_on c.leads_to-a.result.page.0 c.in_ok-log.log.0 c.args.p.now c.first_page.new.p (first_uses g.P.Pages.stays_on c.leads_to-a.result.page.0 c.args.p.now c.is_of_log.new.p c.first_page.new.p c.is_of_log.ensures.uses c.first_page.ensures.uses)) c.read_field.ensures.uses)

pub returns-in_err-state-clause-uses : goal.returns-in_err-state-clause-uses
returns-in_err-state-clause-uses g c = as_log g.P.Pages.stays_on c.leads_to-a.result.page.0 c.in_ok-log.log.0 c.args.p.now c.read_field-2.new.p (log_uses g.P.Pages.stays_on c.leads_to-a.result.page.0 c.in_ok-log.log.0 c.args.p.now c.read_field.new.p c.read_field-2.new.p (log_uses g.P.Pages.stays_on c.leads_to-a.result.page.0 c.in_ok-log.log.0 c.args.p.now c.first_page.new.p c.read_field.new.p (wider g.P.Pages.stays_on c.leads_to-a.result.page.0 c.in_ok-log.log.0 c.args.p.now c.first_page.new.p (first_uses g.P.Pages.stays_on c.leads_to-a.result.page.0 c.args.p.now c.is_of_log.new.p c.first_page.new.p c.is_of_log.ensures.uses c.first_page.ensures.uses)) c.read_field.ensures.uses) c.read_field-2.ensures.uses)

pub returns-then-state-from-clause-uses : goal.returns-then-state-from-clause-uses
returns-then-state-from-clause-uses g c = as_log g.P.Pages.stays_on c.leads_to-a.result.page.0 c.in_ok-log.log.0 c.args.p.now c.read_field-2.new.p (log_uses g.P.Pages.stays_on c.leads_to-a.result.page.0 c.in_ok-log.log.0 c.args.p.now c.read_field.new.p c.read_field-2.new.p (log_uses g.P.Pages.stays_on c.leads_to-a.result.page.0 c.in_ok-log.log.0 c.args.p.now c.first_page.new.p c.read_field.new.p (wider g.P.Pages.stays_on c.leads_to-a.result.page.0 c.in_ok-log.log.0 c.args.p.now c.first_page.new.p (first_uses g.P.Pages.stays_on c.leads_to-a.result.page.0 c.args.p.now c.is_of_log.new.p c.first_page.new.p c.is_of_log.ensures.uses c.first_page.ensures.uses)) c.read_field.ensures.uses) c.read_field-2.ensures.uses)

pub is_passed-requires-clause-may : goal.is_passed-requires-clause-may
is_passed-requires-clause-may g c = may_passed g.P.Pages.stays_on c.leads_to-a.result.page.0 c.in_ok-log.log.0 c.args.p.now c.read_field-2.new.p c.requires.may (log_uses g.P.Pages.stays_on c.leads_to-a.result.page.0 c.in_ok-log.log.0 c.args.p.now c.read_field.new.p c.read_field-2.new.p (log_uses g.P.Pages.stays_on c.leads_to-a.result.page.0 c.in_ok-log.log.0 c.args.p.now c.first_page.new.p c.read_field.new.p (wider g.P.Pages.stays_on c.leads_to-a.result.page.0 c.in_ok-log.log.0 c.args.p.now c.first_page.new.p (first_uses g.P.Pages.stays_on c.leads_to-a.result.page.0 c.args.p.now c.is_of_log.new.p c.first_page.new.p c.is_of_log.ensures.uses c.first_page.ensures.uses)) c.read_field.ensures.uses) c.read_field-2.ensures.uses)

pub returns-clause-uses : goal.returns-clause-uses
returns-clause-uses g c = all_uses g.P.Pages.stays_on c.leads_to-a.result.page.0 c.in_ok-log.log.0 c.args.p.now c.read_field-2.new.p c.is_passed.new.p (log_uses g.P.Pages.stays_on c.leads_to-a.result.page.0 c.in_ok-log.log.0 c.args.p.now c.read_field.new.p c.read_field-2.new.p (log_uses g.P.Pages.stays_on c.leads_to-a.result.page.0 c.in_ok-log.log.0 c.args.p.now c.first_page.new.p c.read_field.new.p (wider g.P.Pages.stays_on c.leads_to-a.result.page.0 c.in_ok-log.log.0 c.args.p.now c.first_page.new.p (first_uses g.P.Pages.stays_on c.leads_to-a.result.page.0 c.args.p.now c.is_of_log.new.p c.first_page.new.p c.is_of_log.ensures.uses c.first_page.ensures.uses)) c.read_field.ensures.uses) c.read_field-2.ensures.uses) c.is_passed.ensures.uses

pub returns-then-a-count-clause-value : goal.returns-then-a-count-clause-value
returns-then-a-count-clause-value g c = λ pages store is st.
    let a = address_of c.leads_to-a.result in
    let whole = g.P.Pages.whole c.args.p.now pages is in
    let m = whole.many in
    let t = c.if-a-count.true in
    no_log (logs_in st) c.args.roll.0 c.args.trx.0 a c.leads_to-a.ensures (none_past pages store st a.page (omega (arith, m, t, c.count.ensures)))

pub returns-then-not-branch-clause-value : goal.returns-then-not-branch-clause-value
returns-then-not-branch-clause-value g c = λ pages store is st.
    let a = address_of c.leads_to-a.result in
    no_log (logs_in st) c.args.roll.0 c.args.trx.0 a c.leads_to-a.ensures (sym c.if-not-branch.true ∙ c.in_ok-is_of_log.ensures.value pages store is st)

pub returns-in_err-log-clause-never : goal.returns-in_err-log-clause-never
returns-in_err-log-clause-never g c = λ pages store is st.
    let a = address_of c.leads_to-a.result in
    let f = log_of_page pages store st a.page (sym c.if-not-branch.false ∙ c.in_ok-is_of_log.ensures.value pages store is st) in
    handed_on c.first_page.result _ _ (c.first_page.ensures.never pages f.log (c.is_of_log.ensures.told ∙ is) f.stands f.has) c.in_err-log.was c.from_residual-in_err-log.ensures

pub returns-then-owner-trx-clause-value : goal.returns-then-owner-trx-clause-value
returns-then-owner-trx-clause-value g c = λ pages store is st.
    let a = address_of c.leads_to-a.result in
    let f = log_of_page pages store st a.page (sym c.if-not-branch.false ∙ c.in_ok-is_of_log.ensures.value pages store is st) in
    let told1 = c.is_of_log.ensures.told ∙ is in
    let first = c.in_ok-log.ensures.value pages f.log told1 f.stands f.has in
    let read = told_is (λ ps. c.in_ok-owner.owner ≡ field ps c.in_ok-log.log.0 53 6) _ pages (c.first_page.ensures.told ∙ told1) c.in_ok-owner.ensures.value in
    let s = f.stands in
    let owner : c.in_ok-owner.owner ≡ f.log.trx = read ∙ ap (λ (n : ℕ). field pages n 53 6) first ∙ s.trx in
    others_log (logs_in st) c.args.roll.0 c.args.trx.0 a c.leads_to-a.ensures f.log f.is (λ e. absurd (let t = c.if-owner-trx.true in omega (arith, owner, e, t)))

pub returns-then-state-from-clause-value : goal.returns-then-state-from-clause-value
returns-then-state-from-clause-value g c = λ pages store is st.
    let a = address_of c.leads_to-a.result in
    let f = log_of_page pages store st a.page (sym c.if-not-branch.false ∙ c.in_ok-is_of_log.ensures.value pages store is st) in
    let told1 = c.is_of_log.ensures.told ∙ is in
    let told2 = c.first_page.ensures.told ∙ told1 in
    let first = c.in_ok-log.ensures.value pages f.log told1 f.stands f.has in
    let read = told_is (λ ps. c.in_ok-owner.owner ≡ field ps c.in_ok-log.log.0 53 6) _ pages told2 c.in_ok-owner.ensures.value in
    let s = f.stands in
    let owner : c.in_ok-owner.owner ≡ f.log.trx = read ∙ ap (λ (n : ℕ). field pages n 53 6) first ∙ s.trx in
    let same : f.log.trx ≡ c.args.trx.0 = (let t = c.if-owner-trx.false in omega (arith, owner, t)) in
    let there = told_is (λ ps. c.in_ok-state.state ≡ field ps c.in_ok-log.log.0 52 1) _ pages (c.read_field.ensures.told ∙ told2) c.in_ok-state.ensures.value ∙ ap (λ (n : ℕ). field pages n 52 1) first ∙ s.state in
    active_log (logs_in st) c.args.roll.0 c.args.trx.0 a c.leads_to-a.ensures f.log f.is same
    (active_by f.log.state c.in_ok-state.state there (let t = c.if-state-from.true in omega (arith, t, c.from.ensures)))

pub returns-clause-value : goal.returns-clause-value
returns-clause-value g c = λ pages store is st.
    let a = address_of c.leads_to-a.result in
    let f = log_of_page pages store st a.page (sym c.if-not-branch.false ∙ c.in_ok-is_of_log.ensures.value pages store is st) in
    let told1 = c.is_of_log.ensures.told ∙ is in
    let told2 = c.first_page.ensures.told ∙ told1 in
    let told3 = c.read_field.ensures.told ∙ told2 in
    let first = c.in_ok-log.ensures.value pages f.log told1 f.stands f.has in
    let read = told_is (λ ps. c.in_ok-owner.owner ≡ field ps c.in_ok-log.log.0 53 6) _ pages told2 c.in_ok-owner.ensures.value in
    let s = f.stands in
    let owner : c.in_ok-owner.owner ≡ f.log.trx = read ∙ ap (λ (n : ℕ). field pages n 53 6) first ∙ s.trx in
    let same : f.log.trx ≡ c.args.trx.0 = (let t = c.if-owner-trx.false in omega (arith, owner, t)) in
    let there = told_is (λ ps. c.in_ok-state.state ≡ field ps c.in_ok-log.log.0 52 1) _ pages told3 c.in_ok-state.ensures.value ∙ ap (λ (n : ℕ). field pages n 52 1) first ∙ s.state in
    let done = committed_by f.log.state c.in_ok-state.state there (λ e. absurd (let t = c.if-state-from.false in omega (arith, t, e, c.from.ensures))) in
    let decides = committed_log (logs_in st) c.args.roll.0 c.args.trx.0 a c.leads_to-a.ensures f.log f.is same done in
    subst (λ (x : Bool). IfOk c.is_passed.result (λ b. b ≡ x)) decides (c.is_passed.ensures.value pages f.log (c.read_field-2.ensures.told ∙ told3) (sym first) f.stands done f.has)

pub returns-clause-never : goal.returns-clause-never
returns-clause-never g c = λ pages store is st.
    let a = address_of c.leads_to-a.result in
    let f = log_of_page pages store st a.page (sym c.if-not-branch.false ∙ c.in_ok-is_of_log.ensures.value pages store is st) in
    let told1 = c.is_of_log.ensures.told ∙ is in
    let told2 = c.first_page.ensures.told ∙ told1 in
    let told3 = c.read_field.ensures.told ∙ told2 in
    let first = c.in_ok-log.ensures.value pages f.log told1 f.stands f.has in
    let s = f.stands in
    let there = told_is (λ ps. c.in_ok-state.state ≡ field ps c.in_ok-log.log.0 52 1) _ pages told3 c.in_ok-state.ensures.value ∙ ap (λ (n : ℕ). field pages n 52 1) first ∙ s.state in
    let done = committed_by f.log.state c.in_ok-state.state there (λ e. absurd (let t = c.if-state-from.false in omega (arith, t, e, c.from.ensures))) in
    c.is_passed.ensures.never pages f.log (c.read_field-2.ensures.told ∙ told3) (sym first) f.stands done f.has
