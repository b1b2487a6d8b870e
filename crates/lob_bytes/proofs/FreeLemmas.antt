-- Pages of a LOB given back.
use Rattle.std.proofs.Common.{◌≡◌, ℕ, ◌<◌, List, [], ◌∷◌, length, Option, Result, Ok, Err, OnOk, arith}
use Rattle.page_model.specs.Pages.{Pages}
use Rattle.page_model.specs.Steps.{Becomes}
use Rattle.page_model.proofs.FrameLemmas.{off_part, outside_wider}
use Rattle.engine_base.specs.declared.fault.Fault.{Fault}
use Rattle.page_space.specs.Map.{IsMap, IsUsed, place_of, map_spans, GivesPage}
use Rattle.store_parts.specs.Keeps.{IsWithin}
use Rattle.store_parts.proofs.KeepLemmas.{keeps_give}
use Rattle.lob_index.proofs.UseLemmas.{gives_one}
use Rattle.lob_bytes.specs.Frees.{GivesFirst}

no_more : (ns : List ℕ) → IsWithin [] ns
no_more ns n = omega arith

gave_first : (old new : Pages) (page count : ℕ) → length old ≡ count → page < count → IsMap old → IsUsed old page → GivesPage page old new → GivesFirst page old new
gave_first old new page count many there map used is = record {
  gives = gives_one page old new used is;
  outside = outside_wider _ map_spans old new (λ n k off. (off.0, (off_part 0 128 4_096 (place_of page) 1 n k (omega arith) (let f = map.size.few in omega (arith, f, many, there)) off.1.0, tt))) is.change.outside;
  keeps = keeps_give [] (page ∷ []) [] page old new (no_more (page ∷ [])) (λ n. omega arith) is;
}

first_given : (old : Pages) (told : Option Pages) (page count : ℕ) → length old ≡ count → page < count → IsMap old → IsUsed old page → Becomes told (GivesPage page old) → Becomes told (GivesFirst page old)
first_given old told page count many there map used becomes = (becomes.0, becomes.1, gave_first old becomes.0 page count many there map used becomes.2)

-- where the call that gives the first page back succeeds, nothing but the map is changed
pub on_first : {A : Type 0} (r : Result A Fault) (old : Pages) (told : Option Pages) (page count : ℕ) → length old ≡ count → page < count → IsMap old → IsUsed old page → OnOk r (Becomes told (GivesPage page old)) → OnOk r (Becomes told (GivesFirst page old))
on_first (Ok done) old told page count many there map used becomes = first_given old told page count many there map used becomes
on_first (Err f) old told page count many there map used becomes = tt
