-- What was read, of pages that are told.
use Rattle.std.proofs.Common.{◌≡◌, Option, Some, IfSome, subst}
use Rattle.page_model.specs.Pages.{Pages}

-- what was read of told pages holds of the pages that they are
pub told_is : (P : Pages → Type 0) (told : Option Pages) (pages : Pages) → told ≡ Some pages → IfSome told P → P pages
told_is P told pages is read = subst (λ (o : Option Pages). IfSome o P) is read
