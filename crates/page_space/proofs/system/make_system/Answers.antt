use Rattle.std.proofs.Common.{◌≡◌, ℕ, ◌∙◌, length, subst}
use Rattle.std.proofs.lemmas.List.{length-replicate}
use Rattle.page_model.specs.Pages.{page_bytes}
use Rattle.page_space.specs.System.{IsSystemPage}
use Rattle.page_space.proofs.SystemLemmas.{makes_told}
use Rattle.page_space.proofs.system.make_system.Goals as goal

pub returns-clause-makes : goal.returns-clause-makes
returns-clause-makes g c =
    let page = c.fill_system.new.page in
    let S : ℕ → Type 0 = λ n. IsSystemPage n page in
    let len : length page ≡ page_bytes = c.fill_system.auto.page ∙ length-replicate {A = ℕ} page_bytes 0 in
    makes_told _ _ (g.P.Pages.state c.args.p.now).count page (g.P.Pages.whole c.args.p.now) c.requires.size len (subst S c.count.ensures c.fill_system.ensures) c.in_ok-write.ensures.written
