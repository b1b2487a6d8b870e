use Rattle.std.proofs.Common.{ℕ, List, [], ◌∷◌, ◌++◌, sym, ap, subst, ◌∙◌, append_assoc, append-nil}
use Rattle.read_views.specs.declared.views.View.{View}
use Rattle.read_views.proofs.LimitLemmas.{IsLeastOf, least_more, limit_least, limit_some}
use Rattle.read_views.proofs.views.least.Goals as goal

pub loop-key-preserved : goal.loop-key-preserved
loop-key-preserved c =
    let old = c.loop-key.invariant.passed in
    let e : ℕ × View = (c.in-Some._key, c.in-Some.view.now) in
    record {
      goes = tt;
      ends = tt;
      passed = (
        old.0 ++ e ∷ [],
        old.1 ∙ ap (λ (l : List (ℕ × View)). old.0 ++ l) c.in-Some.ensures.steps
            ∙ sym (append_assoc old.0 (e ∷ []) c.next.new.self),
        least_more c.loop-key.least old.0 e c.lesser.result old.2 c.lesser.ensures,
      );
    }

pub returns-clause-least : goal.returns-clause-least
returns-clause-least c = rw c.unwrap_or.ensures (
    limit_least c.args.views.now c.args.commits c.loop-key.least
    (subst (IsLeastOf c.loop-key.least) (sym (c.loop-key.invariant.passed.1
    ∙ ap (λ (l : List (ℕ × View)). c.loop-key.invariant.passed.0 ++ l) c.in-None.ensures.steps.0
    ∙ append-nil c.loop-key.invariant.passed.0)) c.loop-key.invariant.passed.2))

pub returns-clause-some : goal.returns-clause-some
returns-clause-some c = rw c.unwrap_or.ensures (
    limit_some c.args.views.now c.args.commits c.loop-key.least
    (subst (IsLeastOf c.loop-key.least) (sym (c.loop-key.invariant.passed.1
    ∙ ap (λ (l : List (ℕ × View)). c.loop-key.invariant.passed.0 ++ l) c.in-None.ensures.steps.0
    ∙ append-nil c.loop-key.invariant.passed.0)) c.loop-key.invariant.passed.2))
