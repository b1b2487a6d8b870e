-- Where roll pointers lead.
use Rattle.std.proofs.Common.{◌≡◌, ◌≢◌, ℕ, ◌+◌, ◌*◌, ◌/◌, ◌%◌, ◌^◌, ◌<◌, ◌≤◌, ◌&&◌, Bool, true, false, cond, Option, Some, None, ap, ap₂, subst, ◌∙◌, Result, Ok, Err, IsOk, arith}
use Rattle.std.proofs.lemmas.Bool.{lt-ltb, le-leb, ne_eqb}
use Rattle.page_model.specs.Pages.{Address}
use Rattle.undo_model.specs.Data.{pointer, led}
use Rattle.undo_model.specs.Reading.{IsRecordPlace, is_place}
use Rattle.engine_base.specs.declared.addr.Addr.{Addr}
use Rattle.engine_base.specs.declared.fault.Fault.{Fault}
use Rattle.transactions.specs.Keeping.{CanLead}

led_other : (n : ℕ) → n ≢ 0
    → led n ≡ Some (record { page = (n / 65_536) % 4_294_967_296; at = n % 65_536 })
led_other n other = ap (λ (b : Bool). cond b None
    (Some (record { page = (n / 65_536) % 4_294_967_296; at = n % 65_536 }))) (ne_eqb n 0 other)

abbrev some_address : ℕ → ℕ → Option Address
some_address n k = Some (record { page = n; at = k })

same_address : (page page' at at' : ℕ) → page ≡ page' → at ≡ at'
    → some_address page at ≡ some_address page' at'
same_address page page' at at' p a = ap₂ some_address p a

-- a pointer leads back to its place, which isn't in page 0
pub pointer_leads : (b : Bool) (a : Address) → a.page ≢ 0 → a.page < 4_294_967_296 → a.at < 65_536
    → led (pointer b a) ≡ Some a
pointer_leads true a other page at =
    led_other (2 ^ 55 + a.page * 65_536 + a.at) (λ e. no (omega (arith, e)))
    ∙ same_address _ _ _ _ (omega (arith, page, at)) (omega (arith, at))
  where
    no : 1 ≤ 0 → ⊥
    no h = absurd (omega arith)
pointer_leads false a other page at =
    led_other (0 + a.page * 65_536 + a.at) (λ e. other (omega (arith, e)))
    ∙ same_address _ _ _ _ (omega (arith, page, at)) (omega (arith, at))

pub place_is : (count : ℕ) (a : Address) → IsRecordPlace count a
    → is_place count a.page a.at ≡ true
place_is count a is =
    ap₂ (λ (b d : Bool). b && d) (lt-ltb a.page count is.page) (le-leb (a.at + 51) 16_376 is.within)

-- a pointer that leads to a record's place leads there
pub leads_there : {X : Type 0} (count n : ℕ) (r : Result Addr Fault) (e : Fault) → n ≢ 0
    → CanLead count (led n)
    → ((a : Address) → led n ≡ Some a → is_place count a.page a.at ≡ true → IsOk r)
    → r ≡ Err e → X
leads_there count n r e some can never was =
    let a : Address = record { page = (n / 65_536) % 4_294_967_296; at = n % 65_536 } in
    let is = led_other n some in
    let fits : CanLead count (Some a) = subst (CanLead count) is can in
    no_ok r e (never a is (place_is count a fits.1)) was
  where
    no_ok : {X : Type 0} (r : Result Addr Fault) (e : Fault) → IsOk r → r ≡ Err e → X
    no_ok (Ok a) e ok was = absurd (let f : Ok a ≡ Err e = was in cc)
    no_ok (Err f) e ok was = absurd (let o : false ≡ true = ok in cc)
