use Rattle.std.proofs.Common.{◌≡◌, ℕ, List, length, drop, [], ◌∷◌, ◌++◌, ap, ◌∙◌, arith}
use Rattle.std.proofs.lemmas.List.Elements.{All-nil}
use Rattle.file_model.specs.Frames.{IsLoggable}
use Rattle.redo_log.proofs.PendingLemmas.{log_state, keeps_of, pending_are, few_pages}
use Rattle.redo_log.proofs.log.Log.open.Goals as goal

pub invariant_of-result : goal.invariant_of-result
invariant_of-result c =
    let items : c.extend.new.buffer.items ≡ 0 ∷ 0 ∷ 0 ∷ 0 ∷ [] = c.extend.ensures.items ∙ ap (λ (xs : List ℕ). xs ++ (0 ∷ 0 ∷ 0 ∷ 0 ∷ [])) (c.in_ok-buffer.ensures.items) in
    keeps_of c.args.layout c.args.region c.args.used _ c.extend.new.buffer.items [] c.requires.limits c.requires.region c.requires.used (omega (arith, ap length items)) (ap (drop 4) items) (All-nil (IsLoggable c.args.layout.pages))
    (omega (arith, ap length items)) (λ more. absurd (omega (arith, ap length items))) (omega (arith, c.in_ok-buffer.ensures.capacity, c.extend.ensures.capacity))

pub returns : goal.returns
returns c =
    let items : c.extend.new.buffer.items ≡ 0 ∷ 0 ∷ 0 ∷ 0 ∷ [] = c.extend.ensures.items ∙ ap (λ (xs : List ℕ). xs ++ (0 ∷ 0 ∷ 0 ∷ 0 ∷ [])) (c.in_ok-buffer.ensures.items) in
    ap (log_state c.args.layout c.args.region c.args.start.0 c.args.used) (pending_are c.args.layout.pages c.extend.new.buffer.items [] (few_pages c.args.layout c.requires.limits) (All-nil (IsLoggable c.args.layout.pages)) (ap (drop 4) items))
