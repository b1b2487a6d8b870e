-- The pages that a mini-transaction has pinned, each with the copy that it works on.
use Rattle.std.specs.Prelude.{ℕ, List, [], Option, Some, None}
use Rattle.mini_trx.specs.declared.lent.Lent.{Lent}

pub record PageCopy : Type 0 where
  pub page : ℕ
  pub bytes : List ℕ

abbrev pub page_copy : ℕ → List ℕ → PageCopy
page_copy page bytes = record { page = page; bytes = bytes }

-- what a place holds; a place that holds none isn't looked at
abbrev pub copy_of : Option Lent → PageCopy
copy_of None = page_copy 0 []
copy_of (Some lent) = page_copy lent.page.0 lent.frame

abbrev pub page_of : PageCopy → ℕ
page_of copy = copy.page
