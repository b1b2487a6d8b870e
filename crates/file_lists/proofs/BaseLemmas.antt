-- The base of a list without nodes, written.
use Rattle.std.proofs.Common.{◌≡◌, ℕ, List, [], ◌∷◌, length, Option, Some, None, refl, sym, subst, arith}
use Rattle.std.specs.Option.{option_map}
use Rattle.page_model.specs.Pages.{Pages, AreWhole, Fits, Address, written}
use Rattle.page_model.specs.Spans.{span, SameOutside}
use Rattle.page_model.specs.Lists.{IsBasePlace}
use Rattle.page_model.specs.Steps.{Told}
use Rattle.page_model.specs.Tables.{HasFields, base_fields}
use Rattle.page_model.proofs.FrameLemmas.{written_outside}
use Rattle.page_model.proofs.TableLemmas.{base_written}
use Rattle.file_lists.specs.Changes.{MakesBase}

made : (pages : Pages) (count : ℕ) (base : Address) (bytes : List ℕ) → AreWhole pages count → IsBasePlace count base → length bytes ≡ 16 → HasFields (bytes ∷ []) 0 (base_fields 0)
    → MakesBase base pages (written pages base.page base.at bytes)
made pages count base bytes whole place len has =
    let fits : Fits pages base.page base.at (length bytes) = record {
      there = omega (arith, whole.many, place.page);
      within = omega (arith, whole.each base.page place.page, place.within, len);
    } in
    let S : ℕ → Type 0 = λ n. SameOutside (span base.page base.at n ∷ []) pages (written pages base.page base.at bytes) in
    record { list = base_written pages base.page base.at bytes fits len has; outside = subst S len (written_outside pages base.page base.at bytes fits) }

-- the bytes of a base written at its place make a list without nodes, where pages are told
pub made_told : (old new : Option Pages) (count : ℕ) (base : Address) (bytes : List ℕ) → ((pages : Pages) → old ≡ Some pages → AreWhole pages count) → IsBasePlace count base
    → length bytes ≡ 16 → HasFields (bytes ∷ []) 0 (base_fields 0) → new ≡ option_map (λ pages. written pages base.page base.at bytes) old → Told (MakesBase base) old new
made_told None new count base bytes whole place len has is = is
made_told (Some pages) new count base bytes whole place len has is =
    let P : Option Pages → Type 0 = λ o. Told (MakesBase base) (Some pages) o in
    subst P (sym is) (made pages count base bytes (whole pages refl) place len has)
