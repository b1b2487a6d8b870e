use Rattle.std.proofs.Common.{ℕ, ◌≡◌, ◌%◌, ◌<◌, lit≤, ap, sym, subst, ◌∙◌, [], ◌∷◌, length, arith}
use Rattle.std.specs.Int.{bit_at}
use Rattle.page_model.specs.Pages.{field}
use Rattle.page_model.specs.Spans.{SetsField}
use Rattle.page_model.specs.Steps.{Told}
use Rattle.page_model.proofs.StepLemmas.{may_within, uses_at_most}
use Rattle.page_space.specs.Bits.{ChangesBit}
use Rattle.page_space.specs.Map.{free_of, place_of}
use Rattle.page_space.proofs.UseLemmas.{uses_more}
use Rattle.page_space.proofs.MapLemmas.{at_told, count_below, field-byte, is_one, gives}
use Rattle.page_space.proofs.space.Space.give.Goals as goal

pub read_field-requires-clause-may : goal.read_field-requires-clause-may
read_field-requires-clause-may g c = may_within (0 ∷ []) (0 ∷ []) 0 21 0 0 0 0 _ _ (λ n is. is) (lit≤ tt) (lit≤ tt) c.requires.may c.free_pages.ensures.uses

pub write_field-requires-clause-may : goal.write_field-requires-clause-may
write_field-requires-clause-may g c = may_within (0 ∷ []) (0 ∷ []) 0 21 0 0 0 9 _ _ (λ n is. is) (lit≤ tt) (lit≤ tt) c.requires.may (uses_more g.P.Pages.stays_on _ 0 0 _ _ c.free_pages.ensures.uses c.read_field.ensures.uses)

pub returns-in_err-write_field-clause-uses : goal.returns-in_err-write_field-clause-uses
returns-in_err-write_field-clause-uses g c = uses_at_most (0 ∷ []) 0 9 0 21 _ _ (lit≤ tt) (lit≤ tt) (uses_more g.P.Pages.stays_on _ 0 9 _ _ (uses_more g.P.Pages.stays_on _ 0 0 _ _ c.free_pages.ensures.uses c.read_field.ensures.uses) c.write_field.ensures.uses)

pub write_field-requires-2-clause-may : goal.write_field-requires-2-clause-may
write_field-requires-2-clause-may g c = may_within (0 ∷ []) (0 ∷ []) 0 21 0 9 0 12 _ _ (λ n is. is) (lit≤ tt) (lit≤ tt) c.requires.may (uses_more g.P.Pages.stays_on _ 0 9 _ _ (uses_more g.P.Pages.stays_on _ 0 0 _ _ c.free_pages.ensures.uses c.read_field.ensures.uses) c.write_field.ensures.uses)

pub returns-in_err-write_field-2-clause-uses : goal.returns-in_err-write_field-2-clause-uses
returns-in_err-write_field-2-clause-uses g c = (uses_more g.P.Pages.stays_on _ 9 12 _ _ (uses_more g.P.Pages.stays_on _ 0 9 _ _ (uses_more g.P.Pages.stays_on _ 0 0 _ _ c.free_pages.ensures.uses c.read_field.ensures.uses) c.write_field.ensures.uses) c.write_field-2.ensures.uses)

pub returns-clause-uses : goal.returns-clause-uses
returns-clause-uses g c = (uses_more g.P.Pages.stays_on _ 9 12 _ _ (uses_more g.P.Pages.stays_on _ 0 9 _ _ (uses_more g.P.Pages.stays_on _ 0 0 _ _ c.free_pages.ensures.uses c.read_field.ensures.uses) c.write_field.ensures.uses) c.write_field-2.ensures.uses)

pub returns-then-free-count-clause-never : goal.returns-then-free-count-clause-never
returns-then-free-count-clause-never g c = λ pages is map used.
    let free = at_told _ (λ ps. c.in_ok-free.free ≡ free_of ps) pages is c.in_ok-free.ensures.value in
    let whole = g.P.Pages.whole c.args.p.now pages is in
    let there : c.args.page.0 < length pages = omega (arith, whole.many, c.requires.page) in
    absurd (omega (arith, free, whole.many, count_below pages c.args.page.0 map there used, c.if-free-count.true, c.count-count.ensures))

pub returns-then-not-is_set-clause-never : goal.returns-then-not-is_set-clause-never
returns-then-not-is_set-clause-never g c = λ pages is map used.
    let is1 = c.free_pages.ensures.told ∙ is in
    let page = c.args.page.0 in
    let value = at_told _ (λ ps. c.in_ok-byte.byte ≡ field ps 0 (place_of page) 1) pages is1 c.in_ok-byte.ensures.value in
    let one : bit_at c.in_ok-byte.byte (page % 8) ≡ 1 = ap (λ (n : ℕ). bit_at n (page % 8)) (value ∙ field-byte pages 0 (place_of page)) ∙ used in
    absurd (is_one (bit_at c.in_ok-byte.byte (page % 8)) c.is_set.result one c.is_set.ensures c.if-not-is_set.true)

pub returns-clause-gives : goal.returns-clause-gives
returns-clause-gives g c = λ pages is map used.
    let is1 = c.free_pages.ensures.told ∙ is in
    let is2 = c.read_field.ensures.told ∙ is1 in
    let page = c.args.page.0 in
    let whole = g.P.Pages.whole c.args.p.now pages is in
    let there : page < length pages = omega (arith, whole.many, c.requires.page) in
    let value = at_told _ (λ ps. c.in_ok-byte.byte ≡ field ps 0 (place_of page) 1) pages is1 c.in_ok-byte.ensures.value ∙ field-byte pages 0 (place_of page) in
    let free = at_told _ (λ ps. c.in_ok-free.free ≡ free_of ps) pages is c.in_ok-free.ensures.value in
    let C : ℕ → Type 0 = λ v. ChangesBit (page % 8) 0 c.in_ok-byte.byte v in
    let change = subst C (sym c.from-2.ensures) c.without_bit-byte.ensures in
    let W : ℕ → Type 0 = λ v. Told (SetsField 0 62 4 v) (g.P.Pages.state c.write_field.new.p).told (g.P.Pages.state c.write_field-2.new.p).told in
    gives _ _ _ pages page c.in_ok-byte.byte c.from-2.result c.in_ok-free.free is2 map there used value change free
    c.in_ok-write_field.ensures.sets (subst W c.from-3.ensures c.in_ok-write_field-2.ensures.sets)
