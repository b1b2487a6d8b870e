-- What the calls of a mini-transaction leave of its copies.
use Rattle.std.specs.Prelude.{ℕ, List, ◌∷◌, map}
use Rattle.page_model.specs.Pages.{Write}
use Rattle.page_model.specs.Steps.{IsWithin}
use Rattle.mini_trx.specs.Copies.{PageCopy, page_of}
use Rattle.mini_trx.specs.Caches.{CacheState, IsCoherent}

-- a call on a page pins it at most, and what was coherent is so
pub record PinsAtMost (page : ℕ) (c d : CacheState) (old new : List PageCopy) : Type 0 where
  pub coherent : (writes : List Write) → IsCoherent c old writes → IsCoherent d new writes
  pub pages : IsWithin (map page_of new) (page ∷ map page_of old)
