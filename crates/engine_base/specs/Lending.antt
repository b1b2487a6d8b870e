-- What the bytes of a page end as, where they are handed out for writing.
use Rattle.std.specs.Prelude.{ℕ, List}
use Rattle.std.specs.Borrow.{Lends, Fml, MutBor, Array, u8}
use Rattle.std.specs.List.{refill}
use Rattle.page_model.specs.Pages.{page_bytes}
use Rattle.engine_base.specs.contracts.page_buf.PageBuf.{the_row}

-- once the loan r ends, the page has the bytes that r shows last
abbrev pub LendsBytes : MutBor (List ℕ) → MutBor (List ℕ) → Fml
LendsBytes page r = Lends the_row (Array u8 0) page r (refill page_bytes page.now)
