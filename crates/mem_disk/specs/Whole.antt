-- Pages of full size are whole.
use Rattle.std.proofs.Common.{◌≡◌, ℕ, [], length, Option, Some, All, ap, subst, arith}
use Rattle.std.specs.Option.{unwrap_or}
use Rattle.page_model.specs.Pages.{Pages, AreWhole, page_bytes}

pub whole_pages : (items pages : Pages) (count : ℕ) → length items ≡ count → Some items ≡ Some pages
    → All (λ page. length page ≡ page_bytes) items → AreWhole pages count
whole_pages items pages count many told each =
    let same : items ≡ pages = ap (λ (o : Option Pages). unwrap_or o []) told in
    let P : Pages → Type 0 = λ ps. AreWhole ps count in
    subst P same (record { many = many; each = λ n below. each n [] (omega (arith, many)) })
