-- Runs of bytes as they are read.
--     ReadsTo told old runs new      what stands where the runs are stands behind the old ones
use Rattle.std.specs.Prelude.{◌≡◌, List, ◌++◌, Option, IfSome}
use Rattle.page_model.specs.Pages.{Pages}
use Rattle.store_data.specs.Store.{Run}
use Rattle.store_model.specs.Moves.{ArePaired}
use Rattle.lob_updates.specs.Patches.{runs_there}

pub record ReadsTo (told : Option Pages) (old runs new : List Run) : Type 0 where
  pub read : List Run
  pub is : new ≡ old ++ read
  pub paired : ArePaired read runs
  pub there : IfSome told (λ pages. read ≡ runs_there pages runs)
