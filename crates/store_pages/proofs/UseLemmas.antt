-- Calls on one part, as calls on the store.
use Rattle.std.proofs.Common.{◌≡◌, ℕ, ◌≤◌, List, [], Some, arith}
use Rattle.page_model.specs.Pages.{Pages}
use Rattle.page_model.specs.Spans.{SameOutside}
use Rattle.page_model.specs.Counts.{times}
use Rattle.store_data.specs.Store.{Lob, Store}
use Rattle.lob_model.specs.Lobs.{IsLob, lob_pages, lob_spans}
use Rattle.store_model.specs.Lobs.{lob_of}
use Rattle.store_model.specs.Steps.{on_lob, on_lobs}
use Rattle.store_parts.specs.Shows.{IsStore}
use Rattle.store_parts.specs.Keeps.{AreAsMany}
use Rattle.store_parts.proofs.CountLemmas.{on_pages}
use Rattle.store_parts.proofs.KeepLemmas.{keeps_write, keeps_then, keeps_same}
use Rattle.store_pages.proofs.LobStoreLemmas.{found, lob_changed, taken}

pub nowhere : (ts : List ℕ) (n : ℕ) → times n [] ≤ times n ts
nowhere ts n = omega arith

pub lob_written : (old new : Pages) (store : Store) (page : ℕ) (l : Lob) (f : Lob → Lob) → IsStore old store → lob_of store.lobs page ≡ Some l
    → IsLob new (f l) → SameOutside (lob_spans l) old new → AreAsMany (lob_pages l) (lob_pages (f l)) → IsStore new (on_lobs (on_lob page f) store)
lob_written old new store page l f is there lob same many =
    lob_changed old new store is page l f there lob
    (keeps_then [] (lob_pages l) (lob_pages l) (lob_pages (f l)) old new new
    (keeps_write [] (lob_pages l) (lob_spans l) old new (nowhere (lob_pages l)) (none (lob_spans l)) same (on_pages (lob_pages l)))
    (keeps_same [] (lob_pages l) (lob_pages (f l)) new many))
  where
    none : (ss : List Rattle.page_model.specs.Spans.Span) → Rattle.page_model.specs.Spans.AreApart ss []
    none ss = tt

-- the LOB stands there
pub lob_stands : (old : Pages) (store : Store) (page : ℕ) (l : Lob) → IsStore old store → lob_of store.lobs page ≡ Some l → IsLob old l × (l.page ≡ page)
lob_stands old store page l is there = let at = found store.lobs page l there in ((taken old old store is page l at).0, at.here)
