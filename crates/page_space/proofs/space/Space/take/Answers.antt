use Rattle.std.proofs.Common.{ℕ, ◌≡◌, ◌%◌, ◌<◌, Option, IfSome, IfNone, lit≤, sym, subst, ◌∙◌, [], ◌∷◌, length, arith}
use Rattle.page_model.specs.Spans.{SetsField}
use Rattle.page_model.specs.Steps.{Told}
use Rattle.page_model.proofs.StepLemmas.{may_within, uses_at_most}
use Rattle.page_space.specs.declared.count.Found.{Found}
use Rattle.page_space.specs.Bits.{ChangesBit}
use Rattle.page_space.specs.Map.{free_of, IsLowestFree, IsUsed}
use Rattle.page_space.proofs.UseLemmas.{uses_more}
use Rattle.page_space.proofs.MapLemmas.{at_told, count_none, takes}
use Rattle.page_space.proofs.space.Space.take.Goals as goal

pub lowest_free-requires-clause-may : goal.lowest_free-requires-clause-may
lowest_free-requires-clause-may g c = may_within (0 ∷ []) (0 ∷ []) 0 21 0 0 0 0 _ _ (λ n is. is) (lit≤ tt) (lit≤ tt) c.requires.may c.free_pages.ensures.uses

pub write_field-requires-clause-may : goal.write_field-requires-clause-may
write_field-requires-clause-may g c = may_within (0 ∷ []) (0 ∷ []) 0 21 0 0 0 9 _ _ (λ n is. is) (lit≤ tt) (lit≤ tt) c.requires.may (uses_more g.P.Pages.stays_on _ 0 0 _ _ c.free_pages.ensures.uses c.lowest_free.ensures.uses)

pub returns-in_err-write_field-clause-uses : goal.returns-in_err-write_field-clause-uses
returns-in_err-write_field-clause-uses g c = uses_at_most (0 ∷ []) 0 9 0 21 _ _ (lit≤ tt) (lit≤ tt) (uses_more g.P.Pages.stays_on _ 0 9 _ _ (uses_more g.P.Pages.stays_on _ 0 0 _ _ c.free_pages.ensures.uses c.lowest_free.ensures.uses) c.write_field.ensures.uses)

pub write_field-requires-2-clause-may : goal.write_field-requires-2-clause-may
write_field-requires-2-clause-may g c = may_within (0 ∷ []) (0 ∷ []) 0 21 0 9 0 12 _ _ (λ n is. is) (lit≤ tt) (lit≤ tt) c.requires.may (uses_more g.P.Pages.stays_on _ 0 9 _ _ (uses_more g.P.Pages.stays_on _ 0 0 _ _ c.free_pages.ensures.uses c.lowest_free.ensures.uses) c.write_field.ensures.uses)

pub returns-in_err-write_field-2-clause-uses : goal.returns-in_err-write_field-2-clause-uses
returns-in_err-write_field-2-clause-uses g c = (uses_more g.P.Pages.stays_on _ 9 12 _ _ (uses_more g.P.Pages.stays_on _ 0 9 _ _ (uses_more g.P.Pages.stays_on _ 0 0 _ _ c.free_pages.ensures.uses c.lowest_free.ensures.uses) c.write_field.ensures.uses) c.write_field-2.ensures.uses)

pub returns-clause-uses : goal.returns-clause-uses
returns-clause-uses g c = (uses_more g.P.Pages.stays_on _ 9 12 _ _ (uses_more g.P.Pages.stays_on _ 0 9 _ _ (uses_more g.P.Pages.stays_on _ 0 0 _ _ c.free_pages.ensures.uses c.lowest_free.ensures.uses) c.write_field.ensures.uses) c.write_field-2.ensures.uses)

pub returns-in_default-clause-never : goal.returns-in_default-clause-never
returns-in_default-clause-never g c = λ pages is map covered.
    let s1 = c.free_pages.new.p in
    let is1 = c.free_pages.ensures.told ∙ is in
    let whole = g.P.Pages.whole c.args.p.now pages is in
    let same_count = c.free_pages.ensures.uses.count in
    let N : Option Found → Type 0 = λ o. IfNone o (IfSome (g.P.Pages.state s1).told (λ ps. (k : ℕ) → k < (g.P.Pages.state s1).count → IsUsed ps k)) in
    let all = at_told _ (λ ps. (k : ℕ) → k < (g.P.Pages.state s1).count → IsUsed ps k) pages is1 (subst N c.in_default.is c.in_ok-found.ensures.none) in
    let zero : free_of pages ≡ 0 = count_none pages map (λ k below. all k (omega (arith, whole.many, same_count))) in
    absurd (omega (arith, zero, covered, c.requires.one))

pub returns-clause-takes : goal.returns-clause-takes
returns-clause-takes g c = λ pages is map covered.
    let f = c.in-Some.found in
    let s1 = c.free_pages.new.p in
    let is1 = c.free_pages.ensures.told ∙ is in
    let is2 = c.lowest_free.ensures.told ∙ is1 in
    let whole = g.P.Pages.whole c.args.p.now pages is in
    let same_count = c.free_pages.ensures.uses.count in
    let A : Option Found → Type 0 = λ o. IfSome o (λ x. x.page < (g.P.Pages.state s1).count) in
    let B : Option Found → Type 0 = λ o. IfSome o (λ x. IfSome (g.P.Pages.state s1).told (λ ps. IsLowestFree ps x.page x.byte)) in
    let low : f.page < (g.P.Pages.state s1).count = subst A c.in-Some.is c.in_ok-found.ensures.there in
    let there : f.page < length pages = omega (arith, low, same_count, whole.many) in
    let found = at_told _ (λ ps. IsLowestFree ps f.page f.byte) pages is1 (subst B c.in-Some.is c.in_ok-found.ensures.some) in
    let free = at_told _ (λ ps. c.in_ok-free.free ≡ free_of ps) pages is c.in_ok-free.ensures.value in
    let C : ℕ → Type 0 = λ v. ChangesBit (f.page % 8) 1 f.byte v in
    let change = subst C (sym c.from-2.ensures) c.with_bit-byte.ensures in
    let W : ℕ → Type 0 = λ v. Told (SetsField 0 62 4 v) (g.P.Pages.state c.write_field.new.p).told (g.P.Pages.state c.write_field-2.new.p).told in
    takes _ _ _ pages f.page f.byte c.from-2.result c.in_ok-free.free c.self.inside.reserved is2 map there found change free (omega (arith, c.if-free-eq0.false)) (omega (arith, covered, c.self.view_is))
    c.in_ok-write_field.ensures.sets (subst W c.from-3.ensures c.in_ok-write_field-2.ensures.sets)
