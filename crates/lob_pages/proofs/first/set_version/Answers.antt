use Rattle.std.proofs.Common.{ℕ, sym, subst}
use Rattle.page_model.specs.Spans.{SetsField}
use Rattle.page_model.proofs.StepLemmas.{told_step}
use Rattle.lob_pages.proofs.FirstLemmas.{version_set}
use Rattle.lob_pages.proofs.first.set_version.Goals as goal

pub returns-clause-lob : goal.returns-clause-lob
returns-clause-lob g c = λ pages lob told first is falling.
    let b = told_step (SetsField c.args.page.0 40 4 c.from.result) _ _ pages told c.in_ok-write_field.ensures.sets in
    let P : ℕ → ℕ → Type 0 = λ n v. SetsField n 40 4 v pages b.0 in
    (b.0, b.1, version_set pages b.0 lob c.args.v.0 is falling (subst (P lob.page) c.from.ensures (subst (λ (n : ℕ). P n c.from.result) (sym first) b.2)))
