-- Data written into a first page.
use Rattle.std.proofs.Common.{◌≡◌, ℕ, ◌+◌, ◌<◌, ◌≤◌, List, ◌++◌, length, take, drop, Option, Some, None, refl, sym, ap, ◌∙◌, subst, arith}
use Rattle.std.specs.Option.{option_map}
use Rattle.std.proofs.lemmas.List.{length-take-le}
use Rattle.std.proofs.Math.Seq.{drop-append_seam, take-append_seam}
use Rattle.page_model.specs.Pages.{Pages, AreWhole, Fits, page_at, bytes_at, patched, written}
use Rattle.page_model.specs.Spans.{SetsField}
use Rattle.page_model.specs.Steps.{Told}
use Rattle.page_model.proofs.FrameLemmas.{page_at-written, written_outside}
use Rattle.lob_bytes.specs.Growth.{WritesFirst}

-- bytes that were written stand there
patched_here : (page : List ℕ) (at : ℕ) (bytes : List ℕ) → at + length bytes ≤ length page → take (length bytes) (drop at (patched page at bytes)) ≡ bytes
patched_here page at bytes within =
    let rest = drop (at + length bytes) page in
    let e : at ≡ length (take at page) = sym (length-take-le at page (omega (arith, within))) in
    ap (λ (k : ℕ). take (length bytes) (drop k (take at page ++ (bytes ++ rest)))) e
    ∙ ap (λ (xs : List ℕ). take (length bytes) xs) (drop-append_seam (take at page) (bytes ++ rest)) ∙ take-append_seam bytes rest

bytes_written : (pages : Pages) (page at : ℕ) (bytes : List ℕ) → Fits pages page at (length bytes) → bytes_at (written pages page at bytes) page at (length bytes) ≡ bytes
bytes_written pages page at bytes fits =
    ap (λ (p : List ℕ). take (length bytes) (drop at p)) (page_at-written pages page at bytes fits.there) ∙ patched_here (page_at pages page) at bytes fits.within

-- over told pages, setting the length and writing the bytes writes the first page's data
pub first_data_told : (old mid new : Option Pages) (count first size : ℕ) (bytes : List ℕ) → ((pages : Pages) → mid ≡ Some pages → AreWhole pages count) → first < count → length bytes ≤ 15_680 → size ≡ length bytes
    → Told (SetsField first 54 4 size) old mid → new ≡ option_map (λ pages. written pages first 696 bytes) mid → Told (WritesFirst first bytes) old new
first_data_told None mid new count first size bytes whole there short same sets is =
    let P : Option Pages → Type 0 = λ o. new ≡ option_map (λ pages. written pages first 696 bytes) o in subst P sets is
first_data_told (Some pages) None new count first size bytes whole there short same sets is = absurd sets
first_data_told (Some pages) (Some mid) new count first size bytes whole there short same sets is =
    let w = whole mid refl in
    let fits : Fits mid first 696 (length bytes) = record { there = omega (arith, w.many, there); within = omega (arith, w.each first there, short) } in
    let P : Option Pages → Type 0 = λ o. Told (WritesFirst first bytes) (Some pages) o in
    let Q : ℕ → Type 0 = λ n. SetsField first 54 4 n pages mid in
    subst P (sym is) (record { mid = mid; size = subst Q same sets; here = bytes_written mid first 696 bytes fits; outside = written_outside mid first 696 bytes fits })
