-- The version of a LOB written: the LOB stands at it, and the rest of a store is kept.
use Rattle.std.proofs.Common.{ℕ, ◌+◌, [], ◌∷◌, ◌++◌, arith}
use Rattle.page_model.specs.Pages.{Pages}
use Rattle.page_model.specs.Spans.{span, SetsField}
use Rattle.page_model.proofs.CountLemmas.{times_here}
use Rattle.store_data.specs.Store.{Lob}
use Rattle.store_parts.proofs.KeepLemmas.{keeps_write}
use Rattle.lob_model.specs.Pieces.{versions, AreFalling}
use Rattle.lob_model.specs.Lobs.{IsLob, data_pages, lob_pages}
use Rattle.lob_model.proofs.VersionLemmas.{version_changed}
use Rattle.lob_pages.specs.First.{HasVersion}

-- a version that no piece's is above, set in the first page, is the LOB's and changes no other
pub version_set : (old new : Pages) (lob : Lob) (v : ℕ) → IsLob old lob → AreFalling (v + 1) lob.pieces → SetsField lob.page 40 4 v old new → HasVersion v lob old new
version_set old new lob v is falling sets =
    let changed = version_changed old new lob v is falling sets in record {
      stands = changed.0;
      outside = changed.1;
      keeps = keeps_write [] (lob_pages lob) (span lob.page 40 4 ∷ []) old new (λ n. omega arith) (tt) sets.outside
          (times_here lob.page (lob.index ++ data_pages lob.page (versions lob.pieces)), tt);
    }
