-- What a call makes of one undo log.
--     with_record, with_entry      a record more; on the log's newest page or on one that is added
--                                  for it
--     passed      purge has passed the oldest record
use Rattle.std.specs.Prelude.{ℕ, ◌==◌, cond, List, [], ◌∷◌}
use Rattle.page_model.specs.Pages.{Address}
use Rattle.store_data.specs.Store.{Record, Log}
use Rattle.store_data.specs.Pieces.{all_but_last}

abbrev pub with_record : Address → Record → Log → Log
with_record place u l = record l { records = (place, u) ∷ l.records }

abbrev pub put_page : ℕ → List ℕ → List ℕ
put_page n [] = n ∷ []
put_page n (m ∷ more) = cond (m == n) (m ∷ more) (n ∷ m ∷ more)

abbrev pub with_entry : Address → Record → Log → Log
with_entry place u l = with_record place u (record l { pages = put_page place.page l.pages })

abbrev pub passed : Log → Log
passed l = record l { records = all_but_last l.records }
