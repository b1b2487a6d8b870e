-- Looking for a page among the places of the lent ones.
use Rattle.std.proofs.Common.{◌≡◌, ◌≢◌, ℕ, ◌+◌, ◌<◌, Bool, false, ◌||◌, List, [], ◌∷◌, ◌++◌, length, take, get_or, map, Option, sym, ap, ap₂, ◌∙◌}
use Rattle.std.proofs.lemmas.Bool.{ne_eqb}
use Rattle.std.proofs.lemmas.List.{take_more, map-append}
use Rattle.page_model.specs.Steps.{among}
use Rattle.page_model.proofs.StepLemmas.{among-append}
use Rattle.mini_trx.specs.declared.lent.Lent.{Lent}
use Rattle.mini_trx.specs.Copies.{copy_of, page_of}

-- one place more has another page
pub pages_more : (places : List (Option Lent)) (i page : ℕ) (d : Option Lent) → i < length places
    → among (map page_of (map copy_of (take i places))) page ≡ false → (copy_of (get_or places i d)).page ≢ page
    → among (map page_of (map copy_of (take (i + 1) places))) page ≡ false
pages_more places i page d below before other =
    let x = get_or places i d in
    let more : map page_of (map copy_of (take (i + 1) places)) ≡ map page_of (map copy_of (take i places)) ++ (copy_of x).page ∷ [] =
    ap (λ (xs : List (Option Lent)). map page_of (map copy_of xs)) (take_more places i d below)
    ∙ ap (map page_of) (map-append copy_of (take i places) (x ∷ [])) ∙ map-append page_of (map copy_of (take i places)) (copy_of x ∷ []) in
    ap (λ (ns : List ℕ). among ns page) more ∙ among-append (map page_of (map copy_of (take i places))) ((copy_of x).page ∷ []) page
    ∙ ap₂ (λ (a b : Bool). a || (b || false)) before (ne_eqb page (copy_of x).page (λ e. other (sym e)))
