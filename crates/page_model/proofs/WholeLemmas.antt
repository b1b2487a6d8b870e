-- Pages with writes made in them are as many, and whole.
use Rattle.std.proofs.Common.{◌≡◌, ℕ, List, [], ◌∷◌, length, All, Option, Some, None, refl, ap, subst, arith}
use Rattle.std.specs.Option.{option_map, unwrap_or}
use Rattle.std.proofs.lemmas.List.Elements.{All-tail}
use Rattle.page_model.specs.Pages.{Pages, AreWhole, Fits, AllFit, Write, written, all_written}
use Rattle.page_model.specs.Spans.{span, span_of}
use Rattle.page_model.proofs.FrameLemmas.{written_outside, all_outside, whole_kept}
use Rattle.std.proofs.Common.{map}
use Rattle.page_model.specs.Frames.{IsInside}

-- writes within the pages fit them
pub fit_all : (ws : List Write) (pages : Pages) (count : ℕ) → AreWhole pages count → All (IsInside count) ws → AllFit ws pages
fit_all [] pages count whole inside = tt
fit_all (w ∷ ws) pages count whole inside =
    let first = inside 0 w (omega arith) in
    let fits : Fits pages w.page w.at (length w.bytes) = record { there = omega (arith, whole.many, first.page); within = omega (arith, whole.each w.page first.page, first.within) } in
    let out = written_outside pages w.page w.at w.bytes fits in
    (fits, fit_all ws (written pages w.page w.at w.bytes) count (whole_kept (span w.page w.at (length w.bytes) ∷ []) pages (written pages w.page w.at w.bytes) count out whole) (All-tail (IsInside count) w ws inside))

-- whole pages stay whole under writes within them
pub whole_written : (ws : List Write) (pages : Pages) (count : ℕ) → AreWhole pages count → All (IsInside count) ws → AreWhole (all_written ws pages) count
whole_written ws pages count whole inside =
    whole_kept (map span_of ws) pages (all_written ws pages) count (all_outside ws pages (fit_all ws pages count whole inside)) whole

-- so do pages that are told
pub whole_told : (told : Option Pages) (count : ℕ) (ws : List Write) (pages : Pages) → ((own : Pages) → told ≡ Some own → AreWhole own count) → All (IsInside count) ws
    → option_map (all_written ws) told ≡ Some pages → AreWhole pages count
whole_told None count ws pages own inside is = cc
whole_told (Some before) count ws pages own inside is =
    let same : all_written ws before ≡ pages = ap (λ (o : Option Pages). unwrap_or o []) is in
    let P : Pages → Type 0 = λ p. AreWhole p count in
    subst P same (whole_written ws before count (own before refl) inside)
