use Rattle.std.proofs.Common.{sym, subst, IsTrue, All, List}
use Rattle.std.proofs.lemmas.List.Elements.{All-weaker}
use Rattle.page_model.specs.Pages.{Write}
use Rattle.mini_trx.proofs.MtrLemmas.{held_writes}
use Rattle.std.proofs.Common.{◌∙◌}
use Rattle.mini_trx.proofs.mtr.Mtr.commit.Goals as goal

pub returns-clause-held : goal.returns-clause-held
returns-clause-held g c =
    let before = g.C.Cache.state c.args.self.cache.now in
    let after = g.C.Cache.state c.give_back_all.new.cache in
    let P : List Write → Type 0 = λ ws. All (λ w. IsTrue (after.holds w.page)) ws in
    let same = c.into_group.ensures.writes ∙ c.give_back_all.ensures.writes in
    subst P (sym same)
    (All-weaker (λ (w : Write). IsTrue (before.holds w.page)) (λ (w : Write). IsTrue (after.holds w.page)) (λ w. (g.C.Cache.stays_pages _ _ c.give_back_all.ensures.stays).holds w.page)
    (g.H.Holdings.writes c.args.self.memo) (held_writes before (g.H.Holdings.copies c.args.self.memo) (g.H.Holdings.writes c.args.self.memo) c.args.self.coherent))
