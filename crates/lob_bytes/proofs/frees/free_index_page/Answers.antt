use Rattle.std.proofs.Common.{◌≡◌, ◌<◌, ℕ, length, ◌∙◌, sym, subst, Option, IfSome, Some, lit≤}
use Rattle.page_model.specs.Pages.{field}
use Rattle.page_model.specs.Spans.{SetsField}
use Rattle.page_model.proofs.StepLemmas.{uses_at_most, told_step}
use Rattle.engine_base.specs.Faults.{FailsPlainly}
use Rattle.engine_base.specs.declared.ids.PageNo.{PageNo}
use Rattle.file_lists.proofs.LinkLemmas.{handed_on}
use Rattle.page_space.specs.Map.{IsUsed, GivesPage}
use Rattle.page_space.proofs.MapLemmas.{at_told}
use Rattle.lob_model.specs.Lobs.{IsChain}
use Rattle.lob_index.proofs.HonestLemmas.{honest_on}
use Rattle.lob_bytes.specs.Frees.{IsChainLink, link_number}
use Rattle.lob_bytes.proofs.StepLemmas.{next_uses, give_uses, chain_uses, next_may, give_may, chain_may}
use Rattle.lob_bytes.proofs.ChainLemmas.{page_in, chain_ok, chain_here, left_is, next_ok, used_next, next_odd, give_odd, gave_index}
use Rattle.lob_bytes.proofs.frees.free_index_page.Goals as goal

pub chain_link-requires-2-clause-may : goal.chain_link-requires-2-clause-may
chain_link-requires-2-clause-may g c = let t = c.chain_link.new.p in next_may g.P.Pages.stays_on c.args.first.0 c.in-Some.page.0 c.args.p.now t t t t c.requires.may c.chain_link.ensures.uses

pub returns-in_err-next-clause-uses : goal.returns-in_err-next-clause-uses
returns-in_err-next-clause-uses g c =
    let t = c.chain_link-2.new.p in
    uses_at_most _ 1 0 1 33 c.args.p.now t (lit≤ tt) (lit≤ tt) (next_uses g.P.Pages.stays_on c.args.first.0 c.in-Some.page.0 c.args.p.now c.chain_link.new.p t t t c.chain_link.ensures.uses c.chain_link-2.ensures.uses)

pub give-requires-clause-may : goal.give-requires-clause-may
give-requires-clause-may g c =
    let t = c.chain_link-2.new.p in
    give_may g.P.Pages.stays_on c.args.first.0 c.in-Some.page.0 c.args.p.now c.chain_link.new.p t t t c.requires.may c.chain_link.ensures.uses c.chain_link-2.ensures.uses

pub returns-in_err-give-clause-uses : goal.returns-in_err-give-clause-uses
returns-in_err-give-clause-uses g c =
    let t = c.give.new.p in
    uses_at_most _ 1 21 1 33 c.args.p.now t (lit≤ tt) (lit≤ tt)
    (give_uses g.P.Pages.stays_on c.args.first.0 c.in-Some.page.0 c.args.p.now c.chain_link.new.p c.chain_link-2.new.p t t c.chain_link.ensures.uses c.chain_link-2.ensures.uses c.give.ensures.uses)

pub write_field-requires-clause-may : goal.write_field-requires-clause-may
write_field-requires-clause-may g c =
    let t = c.give.new.p in
    chain_may g.P.Pages.stays_on c.args.first.0 c.in-Some.page.0 c.args.p.now c.chain_link.new.p c.chain_link-2.new.p t t c.requires.may c.chain_link.ensures.uses c.chain_link-2.ensures.uses c.give.ensures.uses

pub returns-in_err-write_field-clause-uses : goal.returns-in_err-write_field-clause-uses
returns-in_err-write_field-clause-uses g c =
    chain_uses g.P.Pages.stays_on c.args.first.0 c.in-Some.page.0 c.args.p.now c.chain_link.new.p c.chain_link-2.new.p c.give.new.p c.write_field.new.p c.chain_link.ensures.uses c.chain_link-2.ensures.uses c.give.ensures.uses c.write_field.ensures.uses

pub returns-clause-uses : goal.returns-clause-uses
returns-clause-uses g c =
    chain_uses g.P.Pages.stays_on c.args.first.0 c.in-Some.page.0 c.args.p.now c.chain_link.new.p c.chain_link-2.new.p c.give.new.p c.write_field.new.p c.chain_link.ensures.uses c.chain_link-2.ensures.uses c.give.ensures.uses c.write_field.ensures.uses

pub returns-in_err-next-clause-honest : goal.returns-in_err-next-clause-honest
returns-in_err-next-clause-honest g c =
    honest_on _ _ c.chain_link-2.result _ _ (next_odd (g.P.Pages.state c.args.p.now) (g.P.Pages.state c.chain_link.new.p) c.args.first.0 c.in-Some.page.0 c.chain_link.ensures.told c.chain_link.ensures.uses.count) c.chain_link-2.ensures.honest c.in_err-next.was c.from_residual-in_err-next.ensures

pub returns-in_err-give-clause-honest : goal.returns-in_err-give-clause-honest
returns-in_err-give-clause-honest g c =
    honest_on _ _ c.give.result _ _
    (give_odd (g.P.Pages.state c.args.p.now) (g.P.Pages.state c.chain_link-2.new.p) c.args.first.0 c.in-Some.page.0 (c.chain_link-2.ensures.told ∙ c.chain_link.ensures.told) (c.chain_link-2.ensures.uses.count ∙ c.chain_link.ensures.uses.count)) c.give.ensures.honest c.in_err-give.was c.from_residual-in_err-give.ensures

pub returns-in_err-page-clause-never : goal.returns-in_err-page-clause-never
returns-in_err-page-clause-never g c = λ pages lob index is first can.
    let page = c.args.first.0 in
    let count = (g.P.Pages.state c.args.p.now).count in
    let C : ℕ → Type 0 = λ n. IsChain pages n index in
    let chain = subst C first can.lob'.chain in
    let plain = at_told _ (λ ps. IsChainLink count (field ps page 12 4) → FailsPlainly c.chain_link.result) pages is c.chain_link.ensures.never in
    handed_on c.chain_link.result _ _ (plain (chain_ok pages page index count (g.P.Pages.whole c.args.p.now pages is).many chain)) c.in_err-page.was c.from_residual.ensures

pub returns-in_err-next-clause-never : goal.returns-in_err-next-clause-never
returns-in_err-next-clause-never g c = λ pages lob index is first can.
    let s = c.chain_link.new.p in
    let page = c.args.first.0 in
    let q = c.in-Some.page in
    let count = (g.P.Pages.state c.args.p.now).count in
    let count' = (g.P.Pages.state s).count in
    let C : ℕ → Type 0 = λ n. IsChain pages n index in
    let chain = subst C first can.lob'.chain in
    let R : Option PageNo → Type 0 = λ o. link_number o ≡ field pages page 12 4 in
    let L : Option PageNo → Type 0 = λ o. IfSome o (λ n. n.0 < count) in
    let read = subst R c.in-Some.is (at_told _ (λ ps. link_number c.in_ok-page.field-0 ≡ field ps page 12 4) pages is c.in_ok-page.ensures.value) in
    let low = subst L c.in-Some.is c.in_ok-page.ensures.place in
    let is1 = c.chain_link.ensures.told ∙ is in
    let same = c.chain_link.ensures.uses.count in
    let Q : ℕ → Type 0 = λ n. IsChainLink n (field pages q.0 12 4) in
    let ok = subst Q (sym same) (next_ok pages page index count q read chain low c.requires.size.few (g.P.Pages.whole c.args.p.now pages is).many) in
    let plain = at_told _ (λ ps. IsChainLink count' (field ps q.0 12 4) → FailsPlainly c.chain_link-2.result) pages is1 c.chain_link-2.ensures.never in
    handed_on c.chain_link-2.result _ _ (plain ok) c.in_err-next.was c.from_residual-in_err-next.ensures

pub returns-in_err-give-clause-never : goal.returns-in_err-give-clause-never
returns-in_err-give-clause-never g c = λ pages lob index is first can.
    let page = c.args.first.0 in
    let q = c.in-Some.page in
    let count = (g.P.Pages.state c.args.p.now).count in
    let R : Option PageNo → Type 0 = λ o. link_number o ≡ field pages page 12 4 in
    let F : ℕ → Type 0 = λ n. link_number (Some q) ≡ field pages n 12 4 in
    let L : Option PageNo → Type 0 = λ o. IfSome o (λ n. n.0 < count) in
    let read = subst R c.in-Some.is (at_told _ (λ ps. link_number c.in_ok-page.field-0 ≡ field ps page 12 4) pages is c.in_ok-page.ensures.value) in
    let low = subst L c.in-Some.is c.in_ok-page.ensures.place in
    let is2 = c.chain_link-2.ensures.told ∙ c.chain_link.ensures.told ∙ is in
    handed_on c.give.result _ _ (c.give.ensures.never pages is2 can.map (used_next pages lob index count q can (subst F (sym first) read) low c.requires.size.few)) c.in_err-give.was c.from_residual-in_err-give.ensures

pub returns-clause-gives : goal.returns-clause-gives
returns-clause-gives g c = λ pages lob n more is first can.
    let page = c.args.first.0 in
    let q = c.in-Some.page in
    let count = (g.P.Pages.state c.args.p.now).count in
    let many = (g.P.Pages.whole c.args.p.now pages is).many in
    let R : Option PageNo → Type 0 = λ o. link_number o ≡ field pages page 12 4 in
    let F : ℕ → Type 0 = λ k. link_number (Some q) ≡ field pages k 12 4 in
    let L : Option PageNo → Type 0 = λ o. IfSome o (λ k. k.0 < count) in
    let read = subst R c.in-Some.is (at_told _ (λ ps. link_number c.in_ok-page.field-0 ≡ field ps page 12 4) pages is c.in_ok-page.ensures.value) in
    let same : q.0 ≡ n = chain_here pages lob.page n more q (subst F (sym first) read) can.lob'.chain in
    let is1 = c.chain_link.ensures.told ∙ is in
    let is2 = c.chain_link-2.ensures.told ∙ is1 in
    let next = c.in_ok-next.next in
    let N : ℕ → Type 0 = λ k. link_number next ≡ field pages k 12 4 in
    let read' : link_number next ≡ field pages n 12 4 = subst N same (at_told _ (λ ps. link_number next ≡ field ps q.0 12 4) pages is1 c.in_ok-next.ensures.value) in
    let M : ℕ → Type 0 = λ k. IfSome next (λ m. m.0 < k) in
    let low' = subst M c.chain_link.ensures.uses.count c.in_ok-next.ensures.place in
    let U : ℕ → Type 0 = λ k. IsUsed pages k in
    let t1 = c.in_ok-give.ensures.gives pages is2 can.map (subst U (sym same) (can.used.each n (page_in lob n more))) in
    let t2 = told_step (SetsField page 12 4 c.from.result) _ _ t1.0 t1.1 c.in_ok-write_field.ensures.sets in
    let G : ℕ → Type 0 = λ k. GivesPage k pages t1.0 in
    let W : ℕ → Type 0 = λ k. SetsField k 12 4 c.from.result t1.0 t2.0 in
    let there : n < length pages = (let t = can.lob'.chain.1.there in t) in (
      c.is_some.ensures ∙ left_is pages n count more next read' low' can.lob'.chain.2 many c.requires.size.few,
      (t2.0, t2.1, gave_index pages t1.0 t2.0 lob n more c.from.result can (subst G same t1.2) (subst W (sym first) t2.2) (c.from.ensures ∙ c.number.ensures ∙ read') there),
    )
