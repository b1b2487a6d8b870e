-- A page added to a log: taken, started, and put behind the others.
use Rattle.std.proofs.Common.{◌≡◌, ◌≢◌, ◌⊎◌, inl, inr, ℕ, ◌+◌, ◌%◌, ◌^◌, ◌<◌, ◌≤◌, List, [], ◌∷◌, ◌++◌, length, map, Option, Some, None, refl, sym, ap, ◌∙◌, subst, arith, lit≤}
use Rattle.std.specs.Option.{option_map}
use Rattle.std.specs.Int.{bit_at}
use Rattle.page_model.specs.Pages.{Pages, AreWhole, Fits, written, Address, null_page}
use Rattle.page_model.specs.Spans.{Span, span, IsOffAll, SameOutside, IsApartFromAll, AreApart}
use Rattle.page_model.specs.Lists.{IsList, list_spans, node_span}
use Rattle.page_model.specs.Steps.{Told, Becomes}
use Rattle.page_model.proofs.FrameLemmas.{field_kept, written_outside, outside_then}
use Rattle.page_model.proofs.ListLemmas.{list_kept}
use Rattle.page_model.proofs.StepLemmas.{told_step}
use Rattle.page_space.specs.Map.{IsMap, IsUsed, IsFree, bit, place_of, free_of, TakesPage}
use Rattle.page_space.proofs.MapLemmas.{map_kept}
use Rattle.file_lists.specs.Changes.{ChangesList, IsElsewhere}
use Rattle.undo_model.specs.Logs.{node_of, pages_base}
use Rattle.page_model.specs.Tables.{SetsFields, HasFields, header_fields}
use Rattle.page_model.proofs.TableLemmas.{sets_then, rising_across, table_written}
use Rattle.store_parts.specs.Appends.{CanOpen, OpensPage, AreUsed}
use Rattle.undo_logs.specs.Opens.{own_fields, other_fields, StartsPage}

-- ---- the first bytes

-- the header and then the table, laid out in a buffer
pub laid_out : (page log : ℕ) (b0 b1 b2 : List ℕ) → SetsFields 0 (header_fields page null_page null_page 3) (b0 ∷ []) (b1 ∷ []) → SetsFields 0 (own_fields log) (b1 ∷ []) (b2 ∷ [])
    → HasFields (b2 ∷ []) 0 (other_fields page log)
laid_out page log b0 b1 b2 first then =
    (sets_then 0 (header_fields page null_page null_page 3) (own_fields log) (b0 ∷ []) (b1 ∷ []) (b2 ∷ [])
    (rising_across 0 0 (header_fields page null_page null_page 3) (own_fields log) refl) first then).here

started : (pages : Pages) (page log : ℕ) (bytes : List ℕ) → Fits pages page 0 (length bytes) → length bytes ≡ 56 → HasFields (bytes ∷ []) 0 (other_fields page log) → StartsPage page log pages (written pages page 0 bytes)
started pages page log bytes fits len has =
    let new = written pages page 0 bytes in
    let all : HasFields new page (other_fields page log) = table_written pages page bytes 0 (other_fields page log) fits refl (omega (arith, len)) has in
    let S : ℕ → Type 0 = λ n. SameOutside (span page 0 n ∷ []) pages new in
    record {
      number = all.0;
      type = all.1.1.1.0;
      end = all.1.1.1.1.0;
      owner = all.1.1.1.1.1.0;
      outside = subst S len (written_outside pages page 0 bytes fits);
    }

-- over told pages, writing the 56 bytes laid out starts a page that isn't its log's first
pub start_told : (old new : Option Pages) (count page log : ℕ) (bytes : List ℕ) → ((pages : Pages) → old ≡ Some pages → AreWhole pages count) → page < count → length bytes ≡ 56
    → HasFields (bytes ∷ []) 0 (other_fields page log) → new ≡ option_map (λ pages. written pages page 0 bytes) old → Told (StartsPage page log) old new
start_told None new count page log bytes whole below len has is = is
start_told (Some pages) new count page log bytes whole below len has is =
    let w = whole pages refl in
    let long = w.each page below in
    let P : Option Pages → Type 0 = λ o. Told (StartsPage page log) (Some pages) o in
    subst P (sym is) (started pages page log bytes (record { there = omega (arith, w.many, below); within = omega (arith, long, len) }) len has)

-- ---- spans on other pages

-- none of the spans is on the page
abbrev pub OffPage : ℕ → List Span → Type 0
OffPage n [] = Unit {0}
OffPage n (s ∷ more) = (n ≢ s.page) × OffPage n more

-- then no byte of the page is in them
pub off_all : (n k : ℕ) (xs : List Span) → OffPage n xs → IsOffAll xs n k
off_all n k [] off = tt
off_all n k (s ∷ more) off = (inl off.0, off_all n k more off.1)

-- and each span on the page is apart from them
pub apart_all : (n at size : ℕ) (xs : List Span) → OffPage n xs → IsApartFromAll xs (span n at size)
apart_all n at size [] off = tt
apart_all n at size (s ∷ more) off = (inl off.0, apart_all n at size more off.1)

-- no node is on the page
abbrev pub NoneOn : ℕ → List Address → Type 0
NoneOn n [] = Unit {0}
NoneOn n (a ∷ more) = (n ≢ a.page) × NoneOn n more

-- where no node is on the page, no node's span is
pub off_nodes : (n : ℕ) (nodes : List Address) → NoneOn n nodes → OffPage n (map node_span nodes)
off_nodes n [] none = tt
off_nodes n (a ∷ more) none = (none.0, off_nodes n more none.1)

none_added : (n : ℕ) (nodes : List Address) (last : Address) → NoneOn n nodes → n ≢ last.page → NoneOn n (nodes ++ last ∷ [])
none_added n [] last none other = (other, tt)
none_added n (a ∷ more) last none other = (none.0, none_added n more last none.1 other)

-- spans of another page than those of a list
pub nodes_far : (xs : List Span) (nodes : List Address) → ((a : Address) → a.page ≢ 0 → IsApartFromAll xs (node_span a)) → (pages : Pages) → AreUsed pages nodes → AreApart xs (map node_span nodes)
nodes_far xs [] far pages used = tt
nodes_far xs (a ∷ more) far pages used = (far a used.0, nodes_far xs more far pages used.2)

-- the nodes' spans are apart from any span of a page that has none of them
pub nodes_beside : (page at size : ℕ) (nodes : List Address) → NoneOn page nodes → AreApart (span page at size ∷ []) (map node_span nodes)
nodes_beside page at size [] none = tt
nodes_beside page at size (a ∷ more) none = ((inl (λ e. none.0 (sym e)), tt), nodes_beside page at size more none.1)

-- no node of a list of used pages is on page 0
pub none_zero : (pages : Pages) (nodes : List Address) → AreUsed pages nodes → NoneOn 0 nodes
none_zero pages [] used = tt
none_zero pages (a ∷ more) used = ((λ e. used.0 (sym e)), none_zero pages more used.2)

-- a page that is free is none of those that are used
pub free_other : (pages : Pages) (page q : ℕ) → IsFree pages page → IsUsed pages q → page ≢ q
free_other pages page q free used same = let e : 1 ≡ 0 = sym used ∙ ap (bit pages) (sym same) ∙ free in cc

-- nor is one on a free page
pub free_none : (pages : Pages) (page : ℕ) (nodes : List Address) → IsFree pages page → AreUsed pages nodes → NoneOn page nodes
free_none pages page [] free used = tt
free_none pages page (a ∷ more) free used = (free_other pages page a.page free used.1, free_none pages page more free used.2)

-- the new node's span, and what stands beside it on its page
beside_added : (page at size : ℕ) (nodes : List Address) → NoneOn page nodes → (at + size ≤ 38) ⊎ (50 ≤ at) → IsApartFromAll (map node_span (nodes ++ node_of page ∷ [])) (span page at size)
beside_added page at size [] none (inl before) = (inr (inl before), tt)
beside_added page at size [] none (inr behind) = (inr (inr behind), tt)
beside_added page at size (a ∷ more) none beside = (inl none.0, beside_added page at size more none.1 beside)

-- the list before the new node is put in
pub list_ready : (pages p1 p2 : Pages) (log page : ℕ) (nodes : List Address) → CanOpen log nodes pages → TakesPage page pages p1 → StartsPage page log p1 p2 → IsList p2 (pages_base log) nodes
list_ready pages p1 p2 log page nodes can take start =
    let s1 = take.change.outside in
    let xs = span 0 62 4 ∷ span 0 (place_of page) 1 ∷ [] in
    let l1 = list_kept xs pages p1 (pages_base log) nodes s1 ((inl can.log_other, (inl can.log_other, tt)), nodes_far xs nodes (λ a other. (inl other, (inl other, tt))) pages can.used) can.list in
    let far = free_other pages page log take.free can.log_used in
    list_kept (span page 0 56 ∷ []) p1 p2 (pages_base log) nodes start.outside ((inl (λ e. far (sym e)), tt), nodes_beside page 0 56 nodes (free_none pages page nodes take.free can.used)) l1

pub node_elsewhere : (pages p1 : Pages) (log page : ℕ) (nodes : List Address) → CanOpen log nodes pages → TakesPage page pages p1 → IsElsewhere (pages_base log) nodes (node_of page)
node_elsewhere pages p1 log page nodes can take =
    apart_all page 38 12 (list_spans (pages_base log) nodes) (free_other pages page log take.free can.log_used, off_nodes page nodes (free_none pages page nodes take.free can.used))

pub opened : (pages p1 p2 p3 : Pages) (log page : ℕ) (nodes : List Address) → CanOpen log nodes pages → TakesPage page pages p1 → StartsPage page log p1 p2
    → ChangesList (pages_base log) (nodes ++ node_of page ∷ []) (nodes ++ node_of page ∷ []) p2 p3 → OpensPage log nodes page pages p3
opened pages p1 p2 p3 log page nodes can take start change =
    let all = nodes ++ node_of page ∷ [] in
    let ls = list_spans (pages_base log) all in
    let far = free_other pages page log take.free can.log_used in
    let not_zero = free_other pages page 0 take.free can.system in
    let none = free_none pages page nodes take.free can.used in
    let off_start : OffPage 0 (span page 0 56 ∷ []) = ((λ e. not_zero (sym e)), tt) in
    let off_list : OffPage 0 ls = ((λ e. can.log_other (sym e)), off_nodes 0 all (none_added 0 nodes (node_of page) (none_zero pages nodes can.used) (λ e. not_zero (sym e)))) in
    let bits = λ (k : ℕ). (let e : bit p3 k ≡ bit p1 k = ap (λ (b : ℕ). bit_at b (k % 8)) (change.outside.bytes 0 (place_of k) (off_all 0 (place_of k) ls off_list) ∙ start.outside.bytes 0 (place_of k) (off_all 0 (place_of k) (span page 0 56 ∷ []) off_start)) in e) in
    let count : free_of p3 ≡ free_of p1 = field_kept ls p2 p3 0 62 4 change.outside (apart_all 0 62 4 ls off_list) ∙ field_kept (span page 0 56 ∷ []) p1 p2 0 62 4 start.outside (apart_all 0 62 4 (span page 0 56 ∷ []) off_start) in
    let map2 : IsMap p2 = map_kept (span page 0 56 ∷ []) p1 p2 start.outside (apart_all 0 62 4 (span page 0 56 ∷ []) off_start) (apart_all 0 128 4_096 (span page 0 56 ∷ []) off_start) take.map in
    let map3 : IsMap p3 = map_kept ls p2 p3 change.outside (apart_all 0 62 4 ls off_list) (apart_all 0 128 4_096 ls off_list) map2 in
    let here = λ (at size : ℕ) (side : (at + size ≤ 38) ⊎ (50 ≤ at)). (let b : IsApartFromAll ls (span page at size) = (inl far, beside_added page at size nodes none side) in b) in
    let fewer = take.fewer in
    let xs = span 0 62 4 ∷ span 0 (place_of page) 1 ∷ [] in
    record {
      there = take.there;
      free = take.free;
      used = bits page ∙ take.change.here;
      others = λ k other. bits k ∙ take.change.others k other;
      fewer = omega (arith, count, fewer);
      map = map3;
      number = field_kept ls p2 p3 page 4 4 change.outside (here 4 4 (inl (lit≤ tt))) ∙ start.number;
      type = field_kept ls p2 p3 page 24 2 change.outside (here 24 2 (inl (lit≤ tt))) ∙ start.type;
      end = field_kept ls p2 p3 page 50 2 change.outside (here 50 2 (inr (lit≤ tt))) ∙ start.end;
      owner = field_kept ls p2 p3 page 52 4 change.outside (here 52 4 (inr (lit≤ tt))) ∙ start.owner;
      list = change.list;
      outside = outside_then (span 0 62 4 ∷ span 0 (place_of page) 1 ∷ span page 0 56 ∷ []) ls pages p2 p3 (outside_then xs (span page 0 56 ∷ []) pages p1 p2 take.change.outside start.outside) change.outside;
    }

-- ---- the calls, over told pages

-- a page taken, started and put last in the log's list is opened
pub page_opened : (t0 t1 t2 t3 : Option Pages) (pages : Pages) (log page space : ℕ) (nodes : List Address) → CanOpen log nodes pages
    → Becomes t1 (λ new. TakesPage page pages new × (space ≤ free_of new)) → Told (StartsPage page log) t1 t2
    → ((ps : Pages) (ns : List Address) → t2 ≡ Some ps → IsList ps (pages_base log) ns → IsElsewhere (pages_base log) ns (node_of page) → length ns + 1 < 2 ^ 32
    → Becomes t3 (λ new. ChangesList (pages_base log) (ns ++ node_of page ∷ []) (ns ++ node_of page ∷ []) ps new))
    → Becomes t3 (λ new. OpensPage log nodes page pages new × (space ≤ free_of new))
page_opened t0 t1 t2 t3 pages log page space nodes can took start add =
    let p1 = took.0 in
    let take = took.2.0 in
    let b2 = told_step (StartsPage page log) t1 t2 p1 took.1 start in
    let b3 = add b2.0 nodes b2.1 (list_ready pages p1 b2.0 log page nodes can take b2.2) (node_elsewhere pages p1 log page nodes can take) can.few in
    let opens = opened pages p1 b2.0 b3.0 log page nodes can take b2.2 b3.2 in
    let a = opens.fewer in
    let b = take.fewer in
    let c = took.2.1 in
    (b3.0, b3.1, (opens, omega (arith, a, b, c)))

-- the list takes the page
pub page_opens : {X : Type 0} (t1 t2 : Option Pages) (pages : Pages) (log page space : ℕ) (nodes : List Address) → CanOpen log nodes pages
    → Becomes t1 (λ new. TakesPage page pages new × (space ≤ free_of new)) → Told (StartsPage page log) t1 t2
    → ((ps : Pages) (ns : List Address) → t2 ≡ Some ps → IsList ps (pages_base log) ns → length ns + 1 < 2 ^ 32 → X) → X
page_opens t1 t2 pages log page space nodes can took start then =
    let b2 = told_step (StartsPage page log) t1 t2 took.0 took.1 start in
    then b2.0 nodes b2.1 (list_ready pages took.0 b2.0 log page nodes can took.2.0 b2.2) can.few
