-- What a call may name behind its first write.
--     IsMeanwhile odd s      the same of pages that the call made of those at its start
use Rattle.std.specs.Prelude.{◌≡◌, ℕ}
use Rattle.page_model.specs.Steps.{PageState}
use Rattle.engine_base.specs.Faults.{Oddity}

pub record IsMeanwhile (odd : PageState → Oddity) (s : PageState)
    (page at value : ℕ) : Type 0 where
  pub mid : PageState
  pub same : mid.count ≡ s.count
  pub there : odd mid page at value
