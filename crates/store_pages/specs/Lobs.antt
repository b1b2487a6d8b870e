-- Steps in which a LOB of a store takes a page more, or gives one back.
use Rattle.std.specs.Prelude.{ℕ, ◌∷◌}
use Rattle.page_model.specs.Pages.{Pages}
use Rattle.page_model.specs.Spans.{SameOutside}
use Rattle.page_space.specs.Map.{TakesPage, GivesPage}
use Rattle.store_data.specs.Store.{Lob}
use Rattle.lob_model.specs.Places.{whole_page}
use Rattle.lob_model.specs.Lobs.{lob_spans}

-- its own pages are written, a page is taken, and this and its own are written
pub record TakesFor (l : Lob) (page : ℕ) (old new : Pages) : Type 0 where
  pub written : Pages
  pub taken : Pages
  pub writes : SameOutside (lob_spans l) old written
  pub takes : TakesPage page written taken
  pub fills : SameOutside (whole_page page ∷ lob_spans l) taken new

-- its own pages are written, and one of them is given back
pub record GivesOf (l : Lob) (page : ℕ) (old new : Pages) : Type 0 where
  pub written : Pages
  pub writes : SameOutside (lob_spans l) old written
  pub gives : GivesPage page written new
