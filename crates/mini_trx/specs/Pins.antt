-- Where a page is pinned among the copies.
use Rattle.std.specs.Prelude.{◌≡◌, ℕ, ◌<◌, List, length, slice_index_or}
use Rattle.mini_trx.specs.Copies.{PageCopy}

-- copy i is of this page
pub record IsPlace (i page : ℕ) (copies : List PageCopy) : Type 0 where
  pub below : i < length copies
  pub holds : (d : PageCopy) → (slice_index_or copies i d).page ≡ page
