-- The copied pieces of a read.
use Rattle.std.proofs.Common.{◌≡◌, ℕ, zero, suc, min, List, [], ◌∷◌, length, take, map, refl, ap, ◌∙◌, arith}
use Rattle.std.proofs.lemmas.List.{take_min}
use Rattle.store_data.specs.Pieces.{Part}
use Rattle.engine_base.specs.declared.ids.PageNo.{PageNo}
use Rattle.read_views.specs.declared.flight.Phase.{Phase}
use Rattle.read_views.specs.declared.flight.Phase.TheVariants.{Seek, Found, Pieces, Unpatch, Ready, Absent}
use Rattle.read_views.specs.Flights.{copied_in, numbers_of, HasCopied}

pub copied_put : (p : Phase) → HasCopied p → (put : Part → Part) (new old : List Part)
    → new ≡ map put old → copied_in p new ≡ map put (copied_in p old)
copied_put Seek copied put new old e = absurd copied
copied_put (Found n) copied put new old e = absurd copied
copied_put Pieces copied put new old e = e
copied_put Unpatch copied put new old e = e
copied_put Ready copied put new old e = e
copied_put Absent copied put new old e = absurd copied

take_numbers : (n : ℕ) (from : List PageNo) → numbers_of (take n from) ≡ take n (numbers_of from)
take_numbers zero from = refl
take_numbers (suc n) [] = refl
take_numbers (suc n) (p ∷ from) = ap (λ (l : List ℕ). p.0 ∷ l) (take_numbers n from)

pub pages_first : (piece count : ℕ) (from : List PageNo) → count ≡ min (length from) piece
    → numbers_of (take count from) ≡ take piece (numbers_of from)
pages_first piece count from is =
    let least : count ≡ min piece (length from) = omega (arith, is) in
    ap numbers_of (ap (λ n. take n from) least ∙ take_min piece from) ∙ take_numbers piece from
