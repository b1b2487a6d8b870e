-- A page of a log as it begins.
--     other_fields      the fields of a page that isn't its log's first
--     StartsPage      what its first bytes are made
use Rattle.std.specs.Prelude.{◌≡◌, ℕ, List, [], ◌∷◌, ◌++◌}
use Rattle.page_model.specs.Pages.{Pages, field, null_page}
use Rattle.page_model.specs.Spans.{span, SameOutside}
use Rattle.page_model.specs.Tables.{Field, field_at, header_fields}
use Rattle.undo_model.specs.Logs.{undo_type, end_field, owner_field, other_start}
use Rattle.undo_logs.specs.declared.layout.TheConstants.{END, OWNER, OTHER_START}

abbrev pub own_fields : ℕ → List Field
own_fields log = field_at END 2 OTHER_START ∷ field_at OWNER 4 log ∷ []

-- an empty used part, and the log's first page
abbrev pub other_fields : ℕ → ℕ → List Field
other_fields page log = header_fields page null_page null_page undo_type ++ own_fields log

pub record StartsPage (page log : ℕ) (old new : Pages) : Type 0 where
  pub number : field new page 4 4 ≡ page
  pub type : field new page 24 2 ≡ undo_type
  pub end : end_field new page ≡ other_start
  pub owner : owner_field new page ≡ log
  pub outside : SameOutside (span page 0 other_start ∷ []) old new
