-- A log begun: a page taken, started, and put in front of the active logs.
use Rattle.std.proofs.Common.{◌≡◌, ◌≢◌, inl, inr, ℕ, ◌+◌, ◌^◌, ◌<◌, ◌≤◌, List, [], ◌∷◌, ◌++◌, length, map, Option, Some, None, refl, sym, ap, ap₂, ◌∙◌, subst, arith, lit≤}
use Rattle.std.specs.Option.{option_map}
use Rattle.page_model.specs.Pages.{Pages, AreWhole, Fits, field, written, Address, address_at, null_page, null_address}
use Rattle.page_model.specs.Spans.{span, SameOutside, SetsField, IsApartFromAll}
use Rattle.page_model.specs.Lists.{IsList, IsWalk, first_or, list_spans, node_span}
use Rattle.page_model.specs.Steps.{Told, Becomes}
use Rattle.page_model.specs.Tables.{SetsFields, HasFields, field_at, header_fields}
use Rattle.page_model.proofs.TableLemmas.{sets_then, rising_across, table_written}
use Rattle.page_model.proofs.FrameLemmas.{field_kept, written_outside}
use Rattle.page_model.proofs.ListLemmas.{list_kept}
use Rattle.page_model.proofs.StepLemmas.{told_step}
use Rattle.page_space.specs.Map.{place_of, free_of, TakesPage}
use Rattle.file_lists.specs.Changes.{ChangesList, IsElsewhere}
use Rattle.undo_model.specs.Logs.{node_of, log_node, pages_base}
use Rattle.undo_model.specs.LogLists.{active_base}
use Rattle.undo_model.proofs.BeginLemmas.{begun_stands}
use Rattle.store_parts.specs.Appends.{AreUsed}
use Rattle.store_parts.proofs.KeepLemmas.{keeps_take, keeps_write, keeps_then}
use Rattle.page_model.proofs.CountLemmas.{times_here}
use Rattle.undo_logs.specs.Begins.{front_fields, back_fields, first_fields, StartsLog, CanBegin, BeginsLog}
use Rattle.undo_logs.proofs.OpenLemmas.{free_other, free_none, apart_all, off_nodes, nodes_far, nodes_beside}

-- ---- one list

walk_same : (pages : Pages) (b b' after : Address) (xs ys : List Address) → length xs ≡ length ys → first_or after xs ≡ first_or after ys → IsWalk pages b xs after → IsWalk pages b' ys after → xs ≡ ys
walk_same pages b b' after [] [] many first one two = refl
walk_same pages b b' after [] (y ∷ ys) many first one two = absurd (omega (arith, many))
walk_same pages b b' after (x ∷ xs) [] many first one two = absurd (omega (arith, many))
walk_same pages b b' after (x ∷ xs) (y ∷ ys) many first one two =
    ap₂ (λ (a : Address) (as' : List Address). a ∷ as') first
    (walk_same pages x y after xs ys (omega (arith, many)) (sym one.2 ∙ ap (λ (a : Address). address_at pages a.page (a.at + 6)) first ∙ two.2) one.3 two.3)

-- the nodes of a list are those that its base leads to
pub list_same : (pages : Pages) (base : Address) (xs ys : List Address) → IsList pages base xs → IsList pages base ys → xs ≡ ys
list_same pages base xs ys one two = walk_same pages null_address null_address null_address xs ys (sym one.count ∙ two.count) (sym one.first ∙ two.first) one.walk two.walk

-- ---- the first bytes

-- header, front, transaction and back, set one after another, are a first page's fields
pub laid_out : (page trx : ℕ) (b0 b1 b2 b3 b4 : List ℕ) → SetsFields 0 (header_fields page null_page null_page 3) (b0 ∷ []) (b1 ∷ []) → SetsFields 0 front_fields (b1 ∷ []) (b2 ∷ [])
    → SetsField 0 53 6 trx (b2 ∷ []) (b3 ∷ []) → SetsFields 0 (back_fields page) (b3 ∷ []) (b4 ∷ []) → HasFields (b4 ∷ []) 0 (first_fields page trx)
laid_out page trx b0 b1 b2 b3 b4 one two three four =
    let h = header_fields page null_page null_page 3 in
    let t : SetsFields 0 (field_at 53 6 trx ∷ []) (b2 ∷ []) (b3 ∷ []) = record { here = (three.here, tt); outside = three.outside } in
    let tail : SetsFields 0 (field_at 53 6 trx ∷ back_fields page) (b2 ∷ []) (b4 ∷ []) =
    sets_then 0 (field_at 53 6 trx ∷ []) (back_fields page) (b2 ∷ []) (b3 ∷ []) (b4 ∷ []) (rising_across 0 0 (field_at 53 6 trx ∷ []) (back_fields page) refl) t four in
    let mid : SetsFields 0 (front_fields ++ (field_at 53 6 trx ∷ back_fields page)) (b1 ∷ []) (b4 ∷ []) =
    sets_then 0 front_fields (field_at 53 6 trx ∷ back_fields page) (b1 ∷ []) (b2 ∷ []) (b4 ∷ []) (rising_across 0 0 front_fields (field_at 53 6 trx ∷ back_fields page) refl) two tail in
    (sets_then 0 h (front_fields ++ (field_at 53 6 trx ∷ back_fields page)) (b0 ∷ []) (b1 ∷ []) (b4 ∷ []) (rising_across 0 0 h (front_fields ++ (field_at 53 6 trx ∷ back_fields page)) refl) one mid).here

address_two : (pages : Pages) (page at n k : ℕ) → field pages page at 4 ≡ n → field pages page (at + 4) 2 ≡ k → address_at pages page at ≡ (let a : Address = record { page = n; at = k } in a)
address_two pages page at n k one two = ap₂ (λ (x y : ℕ). let a : Address = record { page = x; at = y } in a) one two

started : (pages : Pages) (page trx : ℕ) (bytes : List ℕ) → Fits pages page 0 (length bytes) → length bytes ≡ 107 → HasFields (bytes ∷ []) 0 (first_fields page trx) → StartsLog page trx pages (written pages page 0 bytes)
started pages page trx bytes fits len has =
    let new = written pages page 0 bytes in
    let out = written_outside pages page 0 bytes fits in
    let all : HasFields new page (first_fields page trx) = table_written pages page bytes 0 (first_fields page trx) fits refl (omega (arith, len)) has in
    let front = all.1.1.1.1 in
    let back = front.1.1.1.1.1.1.1 in
    let there : page < length new = omega (arith, fits.there, out.many) in
    let node = node_of page in
    let list : IsList new (pages_base page) (node ∷ []) = record {
      count = back.0;
      first = address_two new page 83 page 38 back.1.0 back.1.1.0;
      last = address_two new page 89 page 38 back.1.1.1.0 back.1.1.1.1.0;
      walk = (record { page = there; within = lit≤ tt }, address_two new page 38 null_page 0 front.0 front.1.0, address_two new page 44 null_page 0 front.1.1.0 front.1.1.1.0, tt);
      apart = ((inr (inr (lit≤ tt)), tt), (tt, tt));
    } in
    let S : ℕ → Type 0 = λ n. SameOutside (span page 0 n ∷ []) pages new in
    record {
      number = all.0;
      stands = begun_stands new page trx there all.1.1.1.0 front.1.1.1.1.0 front.1.1.1.1.1.0 front.1.1.1.1.1.1.0 (address_two new page 95 null_page 0 back.1.1.1.1.1.0 back.1.1.1.1.1.1.0) list;
      outside = subst S len out;
    }

-- over told pages, writing the 107 bytes laid out starts a log
pub start_told : (old new : Option Pages) (count page trx : ℕ) (bytes : List ℕ) → ((pages : Pages) → old ≡ Some pages → AreWhole pages count) → page < count → length bytes ≡ 107
    → HasFields (bytes ∷ []) 0 (first_fields page trx) → new ≡ option_map (λ pages. written pages page 0 bytes) old → Told (StartsLog page trx) old new
start_told None new count page trx bytes whole below len has is = is
start_told (Some pages) new count page trx bytes whole below len has is =
    let w = whole pages refl in
    let long = w.each page below in
    let P : Option Pages → Type 0 = λ o. Told (StartsLog page trx) (Some pages) o in
    subst P (sym is) (started pages page trx bytes (record { there = omega (arith, w.many, below); within = omega (arith, long, len) }) len has)

-- ---- the list of active logs

module _ (pages p1 p2 : Pages) (page trx : ℕ) (can : CanBegin pages) (take : TakesPage page pages p1) (start : StartsLog page trx p1 p2) where
  not_zero : page ≢ 0
  not_zero = free_other pages page 0 take.free can.system

  pub list_ready : IsList p2 active_base can.nodes
  list_ready =
      let xs = span 0 62 4 ∷ span 0 (place_of page) 1 ∷ [] in
      let l1 = list_kept xs pages p1 active_base can.nodes take.change.outside ((inr (inr (lit≤ tt)), (inr (inl (omega arith)), tt)), nodes_far xs can.nodes (λ a other. (inl other, (inl other, tt))) pages can.used) can.list in
      list_kept (span page 0 107 ∷ []) p1 p2 active_base can.nodes start.outside ((inl (λ e. not_zero (sym e)), tt), nodes_beside page 0 107 can.nodes (free_none pages page can.nodes take.free can.used)) l1

  pub node_elsewhere : IsElsewhere active_base can.nodes (log_node page)
  node_elsewhere = apart_all page 67 12 (list_spans active_base can.nodes) (not_zero, off_nodes page can.nodes (free_none pages page can.nodes take.free can.used))

  pub begins : (p3 : Pages) → ChangesList active_base (log_node page ∷ can.nodes) (log_node page ∷ can.nodes) p2 p3 → BeginsLog trx page pages p3
  begins p3 change = record {
    free = take.free;
    mid = p2;
    number = start.number;
    stands = start.stands;
    keeps = keeps_then [] [] (page ∷ []) (page ∷ []) pages p1 p2 (keeps_take [] [] page pages p1 (λ n. omega arith) take)
        (keeps_write [] (page ∷ []) (span page 0 107 ∷ []) p1 p2 (λ n. omega arith) tt start.outside (times_here page [], tt));
    links = λ nodes list.
        let same : can.nodes ≡ nodes = list_same p2 active_base can.nodes nodes list_ready list in
        let P : List Address → Type 0 = λ ns. IsList p3 active_base (log_node page ∷ ns) × SameOutside (list_spans active_base (log_node page ∷ ns)) p2 p3 in
        subst P same (change.list, change.outside);
  }

  pub count_kept : (p3 : Pages) → ChangesList active_base (log_node page ∷ can.nodes) (log_node page ∷ can.nodes) p2 p3 → free_of p3 ≡ free_of p1
  count_kept p3 change =
      field_kept (list_spans active_base (log_node page ∷ can.nodes)) p2 p3 0 62 4 change.outside (inr (inl (lit≤ tt)), (inl (λ e. not_zero (sym e)), off can.nodes can.used))
      ∙ field_kept (span page 0 107 ∷ []) p1 p2 0 62 4 start.outside (inl (λ e. not_zero (sym e)), tt)
    where
      off : (ns : List Address) → AreUsed pages ns → IsApartFromAll (map node_span ns) (span 0 62 4)
      off [] used = tt
      off (a ∷ more) used = (inl (λ e. used.0 (sym e)), off more used.2)

-- ---- the calls, over told pages

-- a page taken, started as a log's first and put in front of the active logs: a log has begun
pub log_begun : (t1 t2 t3 : Option Pages) (pages : Pages) (page trx space : ℕ) → CanBegin pages → Becomes t1 (λ new. TakesPage page pages new × (space ≤ free_of new)) → Told (StartsLog page trx) t1 t2
    → ((ps : Pages) (ns : List Address) → t2 ≡ Some ps → IsList ps active_base ns → IsElsewhere active_base ns (log_node page) → length ns + 1 < 2 ^ 32
    → Becomes t3 (λ new. ChangesList active_base (log_node page ∷ ns) (log_node page ∷ ns) ps new))
    → Becomes t3 (λ new. BeginsLog trx page pages new × (space ≤ free_of new))
log_begun t1 t2 t3 pages page trx space can took start add =
    let p1 = took.0 in
    let b2 = told_step (StartsLog page trx) t1 t2 p1 took.1 start in
    let b3 = add b2.0 can.nodes b2.1 (list_ready pages p1 b2.0 page trx can took.2.0 b2.2) (node_elsewhere pages p1 b2.0 page trx can took.2.0 b2.2) can.few in
    let count = count_kept pages p1 b2.0 page trx can took.2.0 b2.2 b3.0 b3.2 in
    let c = took.2.1 in
    (b3.0, b3.1, (begins pages p1 b2.0 page trx can took.2.0 b2.2 b3.0 b3.2, omega (arith, count, c)))

-- the list takes the log
pub log_begins : {X : Type 0} (t1 t2 : Option Pages) (pages : Pages) (page trx space : ℕ) → CanBegin pages → Becomes t1 (λ new. TakesPage page pages new × (space ≤ free_of new)) → Told (StartsLog page trx) t1 t2
    → ((ps : Pages) (ns : List Address) → t2 ≡ Some ps → IsList ps active_base ns → length ns + 1 < 2 ^ 32 → X) → X
log_begins t1 t2 pages page trx space can took start then =
    let b2 = told_step (StartsLog page trx) t1 t2 took.0 took.1 start in
    then b2.0 can.nodes b2.1 (list_ready pages took.0 b2.0 page trx can took.2.0 b2.2) can.few
