-- A place on told pages.
use Rattle.std.proofs.Common.{◌≡◌, ℕ, ◌+◌, ◌≤◌, List, Option, Some, IfSome, sym, ◌∙◌, subst}
use Rattle.page_model.specs.Pages.{Pages, Address}
use Rattle.page_model.specs.Steps.{Becomes}
use Rattle.page_space.specs.Map.{free_of}
use Rattle.undo_model.specs.Data.{Log}
use Rattle.undo_model.specs.Reading.{record_end}
use Rattle.undo_model.specs.Logs.{nodes_in, end_field}
use Rattle.store_parts.specs.Appends.{CanOpen, OpensPage}
use Rattle.store_parts.specs.Appends.{CanAppend, newest_page_of}
use Rattle.undo_logs.specs.Places.{IsPlaced}
use Rattle.undo_logs.proofs.PlaceLemmas.{placed_here}
use Rattle.undo_logs.proofs.NewPageLemmas.{placed_new}

-- over told pages, a record that fits behind the newest page's end is placed there
pub place_here : (t0 t1 t2 : Option Pages) (pages : Pages) (l : Log) (size page end space : ℕ) → t0 ≡ Some pages → t1 ≡ t0 → t2 ≡ t1 → CanAppend l pages → space ≤ free_of pages
    → page ≡ newest_page_of l → IfSome t1 (λ ps. end ≡ end_field ps page) → end + size ≤ record_end
    → Becomes t2 (λ new. IsPlaced l size (record { page = page; at = end }) pages new × (space ≤ free_of new))
place_here t0 t1 t2 pages l size page end space is s1 s2 can covered newest read fits =
    let e : end ≡ end_field pages page = subst (λ (o : Option Pages). IfSome o (λ ps. end ≡ end_field ps page)) (s1 ∙ is) read in
    (pages, s2 ∙ s1 ∙ is, (placed_here pages l size page end can newest e fits, covered))

-- one that needs a page more is placed at the start of the page that was opened for it
pub place_new : (t0 t1 t2 t3 : Option Pages) (pages : Pages) (l : Log) (size page log space space' : ℕ) → t0 ≡ Some pages → l.page ≡ log → t1 ≡ t0 → t2 ≡ t1 → CanAppend l pages → space ≤ free_of pages
    → ((ps : Pages) (nodes : List Address) → t2 ≡ Some ps → CanOpen log nodes ps → space ≤ free_of ps → Becomes t3 (λ new. OpensPage log nodes page ps new × (space' ≤ free_of new)))
    → size ≤ 852 → Becomes t3 (λ new. IsPlaced l size (record { page = page; at = 56 }) pages new × (space' ≤ free_of new))
place_new t0 t1 t2 t3 pages l size page log space space' is same s1 s2 can covered opens small =
    let room : CanOpen log (nodes_in l.parts) pages = subst (λ (n : ℕ). CanOpen n (nodes_in l.parts) pages) same can.room in
    let b = opens pages (nodes_in l.parts) (s2 ∙ s1 ∙ is) room covered in
    let o : OpensPage l.page (nodes_in l.parts) page pages b.0 = subst (λ (n : ℕ). OpensPage n (nodes_in l.parts) page pages b.0) (sym same) b.2.0 in
    (b.0, b.1, (placed_new pages b.0 l size page can o small, b.2.1))
