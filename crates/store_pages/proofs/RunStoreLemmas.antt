-- Runs written in the pages of a LOB of a store: the store has them laid over its LOBs.
use Rattle.std.proofs.Common.{◌≡◌, ℕ, ◌≤◌, List, [], ◌∷◌, ◌++◌, length, Some, sym, subst, arith}
use Rattle.page_model.specs.Pages.{Pages, written, all_written}
use Rattle.page_model.specs.Spans.{Span, span, AreApart}
use Rattle.page_model.specs.Counts.{times}
use Rattle.page_model.proofs.CountLemmas.{times-append}
use Rattle.page_model.proofs.FrameLemmas.{written_outside}
use Rattle.store_data.specs.Store.{Lob, Run, Store}
use Rattle.store_model.specs.Lobs.{lob_of}
use Rattle.store_model.specs.Steps.{on_lobs}
use Rattle.store_model.specs.Runs.{lob_laid, lobs_laid}
use Rattle.undo_model.specs.LogLists.{all_pages}
use Rattle.lob_model.specs.Pieces.{versions}
use Rattle.lob_model.specs.Lobs.{IsLob, lob_pages}
use Rattle.store_parts.specs.Stored.{row_pages, pages_of}
use Rattle.store_parts.specs.Shows.{IsStore}
use Rattle.store_parts.proofs.CountLemmas.{mark_small}
use Rattle.store_parts.proofs.KeepLemmas.{keeps_write, keeps_then, keeps_same}
use Rattle.store_pages.specs.Runs.{LiesIn, LieIn, writes_of}
use Rattle.store_pages.proofs.LobStoreLemmas.{lob_changed}
use Rattle.store_pages.proofs.UseLemmas.{lob_stands, nowhere}
use Rattle.store_pages.proofs.LaidLemmas.{one_laid, no_runs, runs_then, lie_laid, versions_laid}
use Rattle.store_pages.proofs.RunLobLemmas.{run_fits, lob_stands_laid, as_many, has_page}

-- no page is of two LOBs
once : (old : Pages) (store : Store) (n : ℕ) → IsStore old store → times n (pages_of store.lobs) ≤ 1
once old store n is =
    let s = is.stored in
    let few = mark_small old n in
    let marked = is.standing.marks n in
    let first = times-append n (row_pages s.rows) (all_pages s.active ++ (all_pages s.committed ++ pages_of s.lobs)) in
    let second = times-append n (all_pages s.active) (all_pages s.committed ++ pages_of s.lobs) in
    let third = times-append n (all_pages s.committed) (pages_of s.lobs) in
    subst (λ (ls : List Lob). times n (pages_of ls) ≤ 1) (sym is.shows.lobs) (omega (arith, few, marked, first, second, third))

none_apart : (ss : List Span) → AreApart ss []
none_apart ss = tt

run_laid : (old : Pages) (store : Store) (page : ℕ) (l : Lob) (r : Run) → IsStore old store → lob_of store.lobs page ≡ Some l → LiesIn r (versions l.pieces)
    → IsStore (written old r.page r.at r.bytes) (on_lobs (lobs_laid (r ∷ [])) store) × (lob_of (lobs_laid (r ∷ []) store.lobs) page ≡ Some (lob_laid (r ∷ []) l))
run_laid old store page l r is there lies =
    let new = written old r.page r.at r.bytes in
    let f : Lob → Lob = lob_laid (r ∷ []) in
    let stands : IsLob old l = (lob_stands old store page l is there).0 in
    let s = span r.page r.at (length r.bytes) ∷ [] in
    let same = written_outside old r.page r.at r.bytes (run_fits old l r stands lies) in
    let own = lob_pages l in
    let keeps = keeps_then [] own own (lob_pages (f l)) old new new
    (keeps_write [] own s old new (nowhere own) (none_apart s) same (has_page old l r stands lies, tt))
    (keeps_same [] own (lob_pages (f l)) new (as_many old l r stands lies)) in
    let changed = lob_changed old new store is page l f there (lob_stands_laid old l r stands lies) keeps in
    let one = one_laid r store.lobs page l there (has_page old l r stands lies) (once old store r.page is) in
    (subst (λ (ls : List Lob). IsStore new (on_lobs (λ _. ls) store)) (sym one.0) changed, one.1)

pub runs_laid : (old : Pages) (store : Store) (page : ℕ) (l : Lob) (rs : List Run) → IsStore old store → lob_of store.lobs page ≡ Some l → LieIn rs (versions l.pieces)
    → IsStore (all_written (writes_of rs) old) (on_lobs (lobs_laid rs) store)
runs_laid old store page l [] is there lie = subst (λ (ls : List Lob). IsStore old (on_lobs (λ _. ls) store)) (sym (no_runs store.lobs)) is
runs_laid old store page l (r ∷ rs) is there lie =
    let one = run_laid old store page l r is there lie.0 in
    let store' = on_lobs (lobs_laid (r ∷ [])) store in
    let l' = lob_laid (r ∷ []) l in
    let lie' = subst (λ vs. LieIn rs vs) (sym (versions_laid (r ∷ []) l.pieces)) (lie_laid rs (r ∷ []) (versions l.pieces) lie.1) in
    let rest = runs_laid (written old r.page r.at r.bytes) store' page l' rs one.0 one.1 lie' in
    subst (λ (ls : List Lob). IsStore (all_written (writes_of rs) (written old r.page r.at r.bytes)) (on_lobs (λ _. ls) store)) (runs_then r rs store.lobs) rest
