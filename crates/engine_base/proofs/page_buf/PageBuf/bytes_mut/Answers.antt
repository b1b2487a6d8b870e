-- The page's length is the vector's, so that what is written back fills it.
use Rattle.std.proofs.Common.{ap₂, refl, ◌∙◌, ℕ, List}
use Rattle.std.specs.List.{refill}
use Rattle.engine_base.proofs.page_buf.PageBuf.bytes_mut.Goals as goal

pub returns : goal.returns
returns c = (
  (refl, λ w. ap₂ (λ (n : ℕ) (items : List ℕ). refill n items w) c.self.invariant c.self.view_is),
  record {
    writes_back = tt;
    value = c.as_mut_slice.ensures.value ∙ c.self.view_is;
    len = c.as_mut_slice.ensures.len ∙ c.self.invariant;
  },
)
