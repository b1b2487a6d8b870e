-- The newest page of a log taken out of its list and given back.
use Rattle.std.proofs.Common.{◌≡◌, ℕ, ◌%◌, List, [], ◌∷◌, ◌++◌, Option, Some, sym, ap, ◌∙◌}
use Rattle.std.specs.Int.{bit_at}
use Rattle.page_model.specs.Pages.{Pages, Address}
use Rattle.page_model.specs.Spans.{SetsAddress}
use Rattle.page_model.specs.Lists.{list_spans}
use Rattle.page_model.specs.Steps.{Told, Becomes}
use Rattle.page_model.proofs.StepLemmas.{told_step}
use Rattle.page_space.specs.Map.{IsMap, IsUsed, place_of, GivesPage}
use Rattle.page_space.proofs.MapLemmas.{map_kept}
use Rattle.file_lists.specs.Changes.{ChangesList}
use Rattle.undo_model.specs.Logs.{node_of, pages_base}
use Rattle.store_parts.specs.Appends.{CanOpen}
use Rattle.undo_logs.specs.Pops.{DropsNode, DropsPage}
use Rattle.undo_logs.proofs.OpenLemmas.{OffPage, off_all, apart_all, off_nodes, none_zero}
use Rattle.undo_logs.proofs.PlaceLemmas.{used_last}

-- ---- the list of a log's pages isn't where the map is

module _ (old new : Pages) (log : ℕ) (all nodes : List Address) (can : CanOpen log all old) (change : ChangesList (pages_base log) all nodes old new) where
  off_zero : OffPage 0 (list_spans (pages_base log) all)
  off_zero = ((λ e. can.log_other (sym e)), off_nodes 0 all (none_zero old all can.used))

  pub map_stays : IsMap new
  map_stays = map_kept (list_spans (pages_base log) all) old new change.outside (apart_all 0 62 4 (list_spans (pages_base log) all) off_zero) (apart_all 0 128 4_096 (list_spans (pages_base log) all) off_zero) can.map

  pub used_stays : (q : ℕ) → IsUsed old q → IsUsed new q
  used_stays q used = ap (λ (b : ℕ). bit_at b (q % 8)) (change.outside.bytes 0 (place_of q) (off_all 0 (place_of q) (list_spans (pages_base log) all) off_zero)) ∙ used

-- ---- the calls, over told pages

-- the newest page taken out of the log's list and given back is dropped
pub node_dropped : (t1 t2 : Option Pages) (pages : Pages) (log page : ℕ) (nodes : List Address) → CanOpen log (nodes ++ node_of page ∷ []) pages
    → Becomes t1 (ChangesList (pages_base log) (nodes ++ node_of page ∷ []) nodes pages)
    → ((ps : Pages) → t1 ≡ Some ps → IsMap ps → IsUsed ps page → Becomes t2 (GivesPage page ps)) → Becomes t2 (DropsNode log nodes page pages)
node_dropped t1 t2 pages log page nodes can removed give =
    let all = nodes ++ node_of page ∷ [] in
    let b = give removed.0 removed.1 (map_stays pages removed.0 log all nodes can removed.2)
    (used_stays pages removed.0 log all nodes can removed.2 page (used_last pages nodes (node_of page) can.used).2) in
    (b.0, b.1, record { unlinked = removed.0; change = removed.2; gives = b.2 })

-- the map takes the page back
pub node_drops : {X : Type 0} (t1 : Option Pages) (pages : Pages) (log page : ℕ) (nodes : List Address) → CanOpen log (nodes ++ node_of page ∷ []) pages
    → Becomes t1 (ChangesList (pages_base log) (nodes ++ node_of page ∷ []) nodes pages)
    → ((ps : Pages) → t1 ≡ Some ps → IsMap ps → IsUsed ps page → X) → X
node_drops t1 pages log page nodes can removed then =
    let all = nodes ++ node_of page ∷ [] in
    then removed.0 removed.1 (map_stays pages removed.0 log all nodes can removed.2)
    (used_stays pages removed.0 log all nodes can removed.2 page (used_last pages nodes (node_of page) can.used).2)

-- and then the record before is made the log's last
pub newest_dropped : (t1 t2 : Option Pages) (pages : Pages) (log page : ℕ) (nodes : List Address) (previous : Address) → Becomes t1 (DropsNode log nodes page pages) → Told (SetsAddress log 95 previous) t1 t2
    → Becomes t2 (DropsPage log nodes page previous pages)
newest_dropped t1 t2 pages log page nodes previous dropped told =
    let b = told_step (SetsAddress log 95 previous) t1 t2 dropped.0 dropped.1 told in
    (b.0, b.1, record { mid = dropped.0; drops = dropped.2; last = b.2 })
