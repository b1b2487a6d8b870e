-- The newest record of a log, alone on its page or not, taken out.
use Rattle.std.proofs.Common.{◌≡◌, ◌≢◌, ◌⊎◌, inl, inr, ℕ, ◌+◌, ◌<◌, ◌≤◌, List, [], ◌∷◌, ◌++◌, map, Option, refl, sym, ap, ◌∙◌, subst, arith, lit≤}
use Rattle.page_model.specs.Pages.{Pages, Address}
use Rattle.page_model.specs.Spans.{Span, span, IsOffAll, SameOutside, SetsField, SetsAddress, IsApartFromAll, AreApart}
use Rattle.page_model.specs.Lists.{IsList, list_spans, node_span}
use Rattle.page_model.specs.Counts.{times}
use Rattle.page_model.specs.Steps.{Becomes}
use Rattle.page_model.proofs.FrameLemmas.{field_kept, address_kept, outside_then, outside_wider}
use Rattle.page_model.proofs.ListLemmas.{list_kept}
use Rattle.page_model.proofs.CountLemmas.{times_here}
use Rattle.page_space.specs.Map.{place_of}
use Rattle.store_data.specs.Store.{LogState, active, Record as ShownRecord, Log as ShownLog}
use Rattle.undo_model.specs.Data.{Entry, Part, Log}
use Rattle.undo_model.specs.Logs.{node_of, nodes_in, records_in, records_of, newest, pages_base, state_field, trx_field, commit_field, last_field, next_field, state_number, end_field, IsFilled, AreChained, AreParts, AreNumbered, CommitIs, LastIs, NextIs, IsLog, body_spans}
use Rattle.undo_model.specs.LogSteps.{popped, cut_part}
use Rattle.undo_model.specs.LogLists.{pages_in}
use Rattle.undo_model.proofs.LogLemmas.{parts_kept, chains_kept, chained_rest, filled_low, commit_is, next_is}
use Rattle.store_parts.specs.Appends.{CanOpen, CanAppend, AreUsed, open_spans}
use Rattle.store_parts.specs.Standing.{AreOn}
use Rattle.store_parts.specs.Keeps.{Keeps}
use Rattle.store_parts.specs.Shows.{log_of, entries_of, due_in}
use Rattle.store_parts.specs.Logs.{ChangesLog}
use Rattle.store_parts.proofs.CountLemmas.{first_on, on_wider}
use Rattle.store_parts.proofs.KeepLemmas.{keeps_write, keeps_give, keeps_then}
use Rattle.undo_logs.specs.Changes.{all_but_first, without_newest}
use Rattle.undo_logs.specs.Pops.{CutsEnd, DropsNode, DropsPage}
use Rattle.undo_logs.proofs.AppendLemmas.{apart_if, not_first, nodes_all}
use Rattle.undo_logs.proofs.CutLemmas.{cut_in_place}
use Rattle.undo_logs.proofs.NewPageLemmas.{bodies_far, far_from_open, at_nodes, parts_used}
use Rattle.undo_logs.proofs.OpenLemmas.{nodes_far}
use Rattle.undo_logs.proofs.PlaceLemmas.{used_last}
use Rattle.undo_logs.proofs.OwnLemmas.{within_first}
use Rattle.undo_logs.proofs.DueLemmas.{active_due}

-- ---- plain lists

head_or : {A : Type 0} → A → List A → A
head_or d [] = d
head_or d (x ∷ xs) = x

tail_of : {A : Type 0} → List A → List A
tail_of [] = []
tail_of (x ∷ xs) = xs

-- equal lists begin with the same element
pub same_head : {A : Type 0} (x y : A) (xs ys : List A) → x ∷ xs ≡ y ∷ ys → x ≡ y
unfolding head_or
same_head x y xs ys e = ap (head_or x) e

-- and go on with the same rest
pub same_tail : {A : Type 0} (x y : A) (xs ys : List A) → x ∷ xs ≡ y ∷ ys → xs ≡ ys
unfolding tail_of
same_tail x y xs ys e = ap tail_of e

-- a list with an element isn't empty
pub not_nil : {A X : Type 0} (x : A) (xs : List A) → [] ≡ x ∷ xs → X
not_nil x xs e = absurd (let f : [] ≡ x ∷ xs = e in cc)

-- ---- which page the newest record is on

-- that page of a log, with these records
abbrev pub page_with : ℕ → List Entry → Part
page_with page records = record { page = page; records = records }

-- another record is before it there, so it isn't at the page's start
pub record InPlace (parts : List Part) (e f : Entry) (rest : List Entry) : Type 0 where
  pub page : ℕ
  pub more : List Entry
  pub older : List Part
  pub is : parts ≡ page_with page (e ∷ f ∷ more) ∷ older
  pub same_page : e.at.page ≡ page
  pub beyond : 56 < e.at.at

-- it is alone on a page behind the first
pub record Alone (parts : List Part) (e f : Entry) (rest : List Entry) : Type 0 where
  pub page : ℕ
  pub next : Part
  pub older : List Part
  pub is : parts ≡ page_with page (e ∷ []) ∷ next ∷ older
  pub same_page : e.at.page ≡ page
  pub start : e.at.at ≡ 56
  pub left : records_in (next ∷ older) ≡ f ∷ rest

low_start : (pages : Pages) (first page : ℕ) (rs : List Entry) (older : List Part) → AreParts pages first (page_with page rs ∷ older) → (start : ℕ) × (56 ≤ start) × IsFilled page start (end_field pages page) rs
low_start pages first page rs [] are = (107, lit≤ tt, (let part = are.1 in part.filled))
low_start pages first page rs (q ∷ older) are = (56, lit≤ tt, (let part = are.0.part in part.filled))

two_in : (pages : Pages) (first page : ℕ) (e f : Entry) (more rest : List Entry) (older : List Part) → AreParts pages first (page_with page (e ∷ f ∷ more) ∷ older) → InPlace (page_with page (e ∷ f ∷ more) ∷ older) e f rest
two_in pages first page e f more rest older are =
    let s = low_start pages first page (e ∷ f ∷ more) older are in
    let filled = s.2 in
    let low = s.1 in
    let floor = filled_low page s.0 f.at.at more filled.2.2 in
    let sum = filled.2.1 in
    record { page = page; more = more; older = older; is = refl; same_page = filled.0; beyond = omega (arith, low, floor, sum) }

by_records : (pages : Pages) (first page : ℕ) (rs : List Entry) (older : List Part) (e f : Entry) (rest : List Entry) → AreParts pages first (page_with page rs ∷ older) → rs ++ records_in older ≡ e ∷ f ∷ rest
    → InPlace (page_with page rs ∷ older) e f rest ⊎ Alone (page_with page rs ∷ older) e f rest
by_records pages first page [] [] e f rest are is = not_nil e (f ∷ rest) is
by_records pages first page [] (q ∷ older) e f rest are is = absurd are.0.some
by_records pages first page (x ∷ []) [] e f rest are is = not_nil f rest (same_tail x e [] (f ∷ rest) is)
by_records pages first page (x ∷ []) (q ∷ older) e f rest are is =
    let here : x ≡ e = same_head x e (records_in (q ∷ older)) (f ∷ rest) is in
    let filled = are.0.part.filled in
    let P : Entry → Type 0 = λ y. Alone (page_with page (y ∷ []) ∷ q ∷ older) e f rest in
    let base : P e = record { page = page; next = q; older = older; is = refl; same_page = ap (λ (y : Entry). y.at.page) (sym here) ∙ filled.0; start = ap (λ (y : Entry). y.at.at) (sym here) ∙ filled.2; left = same_tail x e (records_in (q ∷ older)) (f ∷ rest) is } in
    inr (subst P (sym here) base)
by_records pages first page (x ∷ y ∷ ys) older e f rest are is =
    let here : x ≡ e = same_head x e (y ∷ (ys ++ records_in older)) (f ∷ rest) is in
    let next : y ≡ f = same_head y f (ys ++ records_in older) rest (same_tail x e (y ∷ (ys ++ records_in older)) (f ∷ rest) is) in
    let P : Entry → Type 0 = λ z. InPlace (page_with page (x ∷ y ∷ ys) ∷ older) z y rest in
    let Q : Entry → Type 0 = λ z. InPlace (page_with page (x ∷ y ∷ ys) ∷ older) e z rest in
    inl (subst Q next (subst P here (two_in pages first page x y ys rest older are)))

pub newest_case : (pages : Pages) (first : ℕ) (parts : List Part) (e f : Entry) (rest : List Entry) → AreParts pages first parts → records_in parts ≡ e ∷ f ∷ rest → InPlace parts e f rest ⊎ Alone parts e f rest
newest_case pages first [] e f rest are is = absurd are
newest_case pages first (p ∷ older) e f rest are is = by_records pages first p.page p.records older e f rest are is

-- ---- what it shows

pub popped_shows : (l : Log) (e : Entry) (rest : List Entry) (parts : List Part) → l.state ≡ active → records_of l ≡ e ∷ rest → records_in parts ≡ rest
    → log_of (record l { parts = parts }) ≡ without_newest (pages_in parts) (log_of l)
popped_shows l e rest parts is records left =
    let all : (xs : List Entry) → due_in l.state l.next xs ≡ xs = λ xs. ap (λ (st : LogState). due_in st l.next xs) is in
    let mk : List (Address × ShownRecord) → ShownLog = λ rs. record { page = l.page; trx = l.trx; state = l.state; number = l.commit; pages = pages_in parts; records = rs } in
    ap mk (ap entries_of (all (records_in parts) ∙ left) ∙ sym (ap (λ (rs : List Entry). all_but_first (entries_of rs)) (all (records_of l) ∙ records)))

-- ---- cut off in place

cut_keeps : (l : Log) (page : ℕ) (e f : Entry) (more : List Entry) (older : List Part) (old new : Pages) → IsLog old l → l.parts ≡ page_with page (e ∷ f ∷ more) ∷ older → (mid : Pages) → SetsField page 50 2 e.at.at old mid → SetsAddress l.page 95 f.at mid new
    → Keeps (l.page ∷ []) (pages_in l.parts) (pages_in (page_with page (f ∷ more) ∷ older)) old new
cut_keeps l page e f more older old new log is mid end last =
    let own = page ∷ pages_in older in
    let same : pages_in l.parts ≡ own = ap pages_in is in
    let first : 1 ≤ times l.page own = subst (λ ns. 1 ≤ times l.page ns) same (first_on old l.page l.parts log.parts) in
    let spans = span page 50 2 ∷ span l.page 95 6 ∷ [] in
    subst (λ ns. Keeps (l.page ∷ []) ns own old new) (sym same)
    (keeps_write (l.page ∷ []) own spans old new (within_first l.page own first) ((inr (inr (lit≤ tt)), (inr (inl (lit≤ tt)), tt)), tt)
    (outside_then (span page 50 2 ∷ []) (span l.page 95 6 ∷ []) old mid new end.outside last.outside) (times_here page (pages_in older), (first, tt)))

pub cut_changes : (l : Log) (e f : Entry) (rest : List Entry) (old new : Pages) (a previous : Address) → CanAppend l old → records_of l ≡ e ∷ f ∷ rest → InPlace l.parts e f rest → a ≡ e.at → previous ≡ f.at → CutsEnd l.page a previous old new
    → ChangesLog (without_newest (pages_in (popped l).parts)) l old new
cut_changes l e f rest old new a previous can records here ea ep cuts =
    let after : Log = record l { parts = page_with here.page (f ∷ here.more) ∷ here.older } in
    let whole : popped l ≡ after = ap (λ (ps : List Part). let m : Log = record l { parts = cut_part ps } in m) here.is in
    let end' : SetsField e.at.page 50 2 e.at.at old cuts.mid = subst (λ (x : Address). SetsField x.page 50 2 x.at old cuts.mid) ea cuts.end in
    let end : SetsField here.page 50 2 e.at.at old cuts.mid = subst (λ (n : ℕ). SetsField n 50 2 e.at.at old cuts.mid) here.same_page end' in
    let last : SetsAddress l.page 95 f.at cuts.mid new = subst (λ (x : Address). SetsAddress l.page 95 x cuts.mid new) ep cuts.last in
    let stands : IsLog new after = cut_in_place old cuts.mid new l here.page e (f ∷ here.more) here.older can.stands can.active here.is (inl tt) end last in
    let left : records_in (page_with here.page (f ∷ here.more) ∷ here.older) ≡ f ∷ rest = same_tail e e ((f ∷ here.more) ++ records_in here.older) (f ∷ rest) (sym (ap records_in here.is) ∙ records) in
    let base : ChangesLog (without_newest (pages_in after.parts)) l old new = record {
      after = after;
      stands = stands;
      shows = popped_shows l e (f ∷ rest) (page_with here.page (f ∷ here.more) ∷ here.older) can.active records left;
      same_page = refl;
      is_active = can.active;
      keeps = cut_keeps l here.page e f here.more here.older old new can.stands here.is cuts.mid end last;
    } in
    subst (λ (m : Log). ChangesLog (without_newest (pages_in m.parts)) l old new) (sym whole) base

-- ---- the page dropped

page_nodes_on : (parts : List Part) → AreOn (pages_in parts) (map node_span (nodes_in parts))
page_nodes_on [] = tt
page_nodes_on (p ∷ older) = join (nodes_in older) (on_wider (pages_in older) (p.page ∷ pages_in older) (map node_span (nodes_in older)) (λ n. omega arith) (page_nodes_on older))
  where
    join : (xs : List Address) → AreOn (p.page ∷ pages_in older) (map node_span xs) → AreOn (p.page ∷ pages_in older) (map node_span (xs ++ node_of p.page ∷ []))
    join [] a = (times_here p.page (pages_in older), tt)
    join (x ∷ xs) a = (a.0, join xs a.1)

nodes_off_first : (first : ℕ) (parts : List Part) → IsApartFromAll (map node_span (nodes_in parts)) (span first 67 12)
nodes_off_first first [] = tt
nodes_off_first first (p ∷ older) = join (nodes_in older) (nodes_off_first first older)
  where
    join : (xs : List Address) → IsApartFromAll (map node_span xs) (span first 67 12) → IsApartFromAll (map node_span (xs ++ node_of p.page ∷ [])) (span first 67 12)
    join [] a = (inr (inr (lit≤ tt)), tt)
    join (x ∷ xs) a = (a.0, join xs a.1)

-- a log, but for the address of its last record
pub record IsLogBut (pages : Pages) (l : Log) : Type 0 where
  pub state : state_field pages l.page ≡ state_number l.state
  pub trx : trx_field pages l.page ≡ l.trx
  pub commit : CommitIs l.state (commit_field pages l.page) l.commit
  pub list : IsList pages (pages_base l.page) (nodes_in l.parts)
  pub parts : AreParts pages l.page l.parts
  pub chain : AreChained pages (records_of l)
  pub next : NextIs l.state (next_field pages l.page) l.next
  pub numbered : AreNumbered (records_of l)

bodies_last : (pages : Pages) (log : ℕ) (parts : List Part) → AreParts pages log parts → AreApart (span log 95 6 ∷ []) (body_spans parts)
bodies_last pages log [] are = tt
bodies_last pages log (p ∷ []) are = ((apart_if log p.page 95 6 24 2 (λ e. inl (lit≤ tt)), tt), ((apart_if log p.page 95 6 50 2 (λ e. inl (lit≤ tt)), tt), ((apart_if log p.page 95 6 107 16_277 (λ e. inr (lit≤ tt)), tt), tt)))
bodies_last pages log (p ∷ q ∷ older) are =
    let far : p.page ≢ log = not_first pages log p.page (q ∷ older) are.1 are.0.new in
    ((inl far, tt), ((inl far, tt), bodies_last pages log (q ∷ older) are.1))

-- which is then written
pub last_set : (mid new : Pages) (l : Log) (a : Address) → IsLogBut mid l → l.state ≡ active → SetsAddress l.page 95 a mid new → a ≡ newest (records_of l) → IsLog new l
last_set mid new l a but state sets is =
    let xs = span l.page 95 6 ∷ [] in
    let same = sets.outside in
    let apart = bodies_last mid l.page l.parts but.parts in
    record {
      state = field_kept xs mid new l.page 52 1 same (inr (inl (lit≤ tt)), tt) ∙ but.state;
      trx = field_kept xs mid new l.page 53 6 same (inr (inl (lit≤ tt)), tt) ∙ but.trx;
      commit = commit_is l.state _ _ l.commit (field_kept xs mid new l.page 59 8 same (inr (inl (lit≤ tt)), tt)) but.commit;
      list = list_kept xs mid new (pages_base l.page) (nodes_in l.parts) same ((inr (inl (lit≤ tt)), tt), nodes_all xs l.parts (λ n. (apart_if l.page n 95 6 38 12 (λ e. inl (lit≤ tt)), tt))) but.list;
      parts = parts_kept xs mid new l.page l.parts same apart but.parts;
      chain = chains_kept xs mid new l.page l.parts same apart but.parts but.chain;
      last = subst (λ (s : LogState). LastIs s (last_field new l.page) (records_of l)) (sym state) (sets.here ∙ is);
      next = next_is l.state _ _ l.next (address_kept xs mid new l.page 101 same (inr (inr (lit≤ tt)), tt)) but.next;
      due = active_due l.state (next_field mid l.page) l.next (records_of l) state but.next;
      numbered = but.numbered;
    }

numbered_rest : (front rest : List Entry) → AreNumbered (front ++ rest) → AreNumbered rest
numbered_rest [] rest are = are
numbered_rest (e ∷ front) rest are = numbered_rest front rest are.1

-- a log without the newest of its pages, but for the address of its last record
module _ (old new : Pages) (l : Log) (p q : Part) (older : List Part) (log : IsLog old l) (is : l.parts ≡ p ∷ q ∷ older) (room : CanOpen l.page (nodes_in l.parts) old) (drops : DropsNode l.page (nodes_in (q ∷ older)) p.page old new) where
  are : AreParts old l.page (p ∷ q ∷ older)
  are = subst (AreParts old l.page) is log.parts

  used : AreUsed old (nodes_in (q ∷ older) ++ node_of p.page ∷ [])
  used = subst (λ (ps : List Part). AreUsed old (nodes_in ps)) is room.used

  far_first : p.page ≢ l.page
  far_first = not_first old l.page p.page (q ∷ older) are.1 are.0.new

  -- the spans of a page that is added are those of one that is dropped
  dropped_outside : SameOutside (open_spans l.page (nodes_in (q ∷ older)) p.page) old new
  dropped_outside =
      let ls = list_spans (pages_base l.page) (nodes_in (q ∷ older) ++ node_of p.page ∷ []) in
      let ms = span 0 62 4 ∷ span 0 (place_of p.page) 1 ∷ [] in
      outside_wider (ls ++ ms) (open_spans l.page (nodes_in (q ∷ older)) p.page) old new (λ n k off. join ls ms n k (off.1.1.1, (off.0, (off.1.0, tt)))) (outside_then ls ms old drops.unlinked new drops.change.outside drops.gives.change.outside)
    where
      join : (xs ys : List Span) (n k : ℕ) → IsOffAll xs n k × IsOffAll ys n k → IsOffAll (xs ++ ys) n k
      join [] ys n k off = off.1
      join (x ∷ xs) ys n k off = (off.0.0, join xs ys n k (off.0.1, off.1))

  far : AreApart (open_spans l.page (nodes_in (q ∷ older)) p.page) (body_spans (q ∷ older))
  far = bodies_far old old l.page p.page (nodes_in (q ∷ older)) (q ∷ older) (at_nodes (q ∷ older)) are.0.new (parts_used old (q ∷ older) (used_last old (nodes_in (q ∷ older)) (node_of p.page) used).0) are.1

  beside : (at size : ℕ) → 50 ≤ at → (at + size ≤ 79) ⊎ (95 ≤ at) → IsApartFromAll (open_spans l.page (nodes_in (q ∷ older)) p.page) (span l.page at size)
  beside at size low side = far_from_open l.page p.page l.page at size (nodes_in (q ∷ older)) (at_nodes (q ∷ older)) room.log_other (λ e. far_first (sym e)) (inr low) (λ e. side)

  left_list : IsList new (pages_base l.page) (nodes_in (q ∷ older))
  left_list =
      let ns = nodes_in (q ∷ older) in
      let ms = span 0 62 4 ∷ span 0 (place_of p.page) 1 ∷ [] in
      let l1 : IsList drops.unlinked (pages_base l.page) ns = drops.change.list in
      list_kept ms drops.unlinked new (pages_base l.page) ns drops.gives.change.outside ((inl room.log_other, (inl room.log_other, tt)), nodes_far ms ns (λ a other. (inl other, (inl other, tt))) old (used_last old ns (node_of p.page) used).0) l1

  chain : AreChained old (records_in (q ∷ older))
  chain = chained_rest old p.records (records_in (q ∷ older)) (subst (λ (ps : List Part). AreChained old (records_in ps)) is log.chain)

  pub left_but : IsLogBut new (record l { parts = q ∷ older })
  left_but =
      let xs = open_spans l.page (nodes_in (q ∷ older)) p.page in
      let same = dropped_outside in
      record {
        state = field_kept xs old new l.page 52 1 same (beside 52 1 (lit≤ tt) (inl (lit≤ tt))) ∙ log.state;
        trx = field_kept xs old new l.page 53 6 same (beside 53 6 (lit≤ tt) (inl (lit≤ tt))) ∙ log.trx;
        commit = commit_is l.state _ _ l.commit (field_kept xs old new l.page 59 8 same (beside 59 8 (lit≤ tt) (inl (lit≤ tt)))) log.commit;
        list = left_list;
        parts = parts_kept xs old new l.page (q ∷ older) same far are.1;
        chain = chains_kept xs old new l.page (q ∷ older) same far are.1 chain;
        next = next_is l.state _ _ l.next (address_kept xs old new l.page 101 same (beside 101 6 (lit≤ tt) (inr (lit≤ tt)))) log.next;
        numbered = numbered_rest p.records (records_in (q ∷ older)) (subst (λ (ps : List Part). AreNumbered (records_in ps)) is log.numbered);
      }

  first_left : 1 ≤ times l.page (pages_in (q ∷ older))
  first_left = first_on old l.page (q ∷ older) are.1

  pub left_keeps : Keeps (l.page ∷ []) (pages_in l.parts) (pages_in (q ∷ older)) old new
  left_keeps =
      let own = p.page ∷ pages_in (q ∷ older) in
      let ls = list_spans (pages_base l.page) (nodes_in (q ∷ older) ++ node_of p.page ∷ []) in
      let first : 1 ≤ times l.page own = let f = first_left in omega (arith, f) in
      let within = within_first l.page own first in
      subst (λ (ps : List Part). Keeps (l.page ∷ []) (pages_in ps) (pages_in (q ∷ older)) old new) (sym is)
      (keeps_then (l.page ∷ []) own own (pages_in (q ∷ older)) old drops.unlinked new
      (keeps_write (l.page ∷ []) own ls old drops.unlinked within ((inr (inl (lit≤ tt)), nodes_off_first l.page (p ∷ q ∷ older)), tt) drops.change.outside (first, page_nodes_on (p ∷ q ∷ older)))
      (keeps_give (l.page ∷ []) own (pages_in (q ∷ older)) p.page drops.unlinked new within (λ n. omega arith) drops.gives))

pub drop_changes : (l : Log) (e f : Entry) (rest : List Entry) (old new : Pages) (page : ℕ) (previous : Address) → CanAppend l old → records_of l ≡ e ∷ f ∷ rest → (alone : Alone l.parts e f rest) → page ≡ alone.page → previous ≡ f.at
    → DropsPage l.page (nodes_in (alone.next ∷ alone.older)) page previous old new → ChangesLog (without_newest (pages_in (popped l).parts)) l old new
drop_changes l e f rest old new page previous can records alone ep ef dropped =
    let p = page_with alone.page (e ∷ []) in
    let older = alone.next ∷ alone.older in
    let after : Log = record l { parts = older } in
    let whole : popped l ≡ after = ap (λ (ps : List Part). let m : Log = record l { parts = cut_part ps } in m) alone.is in
    let mid = dropped.mid in
    let drops : DropsNode l.page (nodes_in older) alone.page old mid = subst (λ (n : ℕ). DropsNode l.page (nodes_in older) n old mid) ep dropped.drops in
    let but = left_but old mid l p alone.next alone.older can.stands alone.is can.room drops in
    let keeps = left_keeps old mid l p alone.next alone.older can.stands alone.is can.room drops in
    let own = pages_in older in
    let first : 1 ≤ times l.page own = first_on mid l.page older but.parts in
    let base : ChangesLog (without_newest (pages_in older)) l old new = record {
      after = after;
      stands = last_set mid new after previous but can.active dropped.last (ef ∙ sym (ap newest alone.left));
      shows = popped_shows l e (f ∷ rest) older can.active records alone.left;
      same_page = refl;
      is_active = can.active;
      keeps = keeps_then (l.page ∷ []) (pages_in l.parts) own own old mid new keeps
          (keeps_write (l.page ∷ []) own (span l.page 95 6 ∷ []) mid new (within_first l.page own first) ((inr (inl (lit≤ tt)), tt), tt) dropped.last.outside (first, tt));
    } in
    subst (λ (m : Log). ChangesLog (without_newest (pages_in m.parts)) l old new) (sym whole) base

-- ---- both, over told pages

-- on the page's start exactly where the record is alone
pub starts : (parts : List Part) (e f : Entry) (rest : List Entry) (at : ℕ) → InPlace parts e f rest ⊎ Alone parts e f rest → at ≡ e.at.at → at ≡ 56 → Alone parts e f rest
starts parts e f rest at (inl here) is start = absurd (let b = here.beyond in let z : 56 < 56 = omega (arith, b, is, start) in omega (arith, z))
starts parts e f rest at (inr alone) is start = alone

pub is_beyond : (parts : List Part) (e f : Entry) (rest : List Entry) (at : ℕ) → InPlace parts e f rest ⊎ Alone parts e f rest → at ≡ e.at.at → (at ≡ 56 → ⊥) → InPlace parts e f rest
is_beyond parts e f rest at (inl here) is other = here
is_beyond parts e f rest at (inr alone) is other = absurd (other (is ∙ alone.start))

module _ (pages : Pages) (l : Log) (log : ℕ) (e f : Entry) (rest : List Entry) (a previous : Address) (same : l.page ≡ log) (can : CanAppend l pages) (records : records_of l ≡ e ∷ f ∷ rest) (ea : a ≡ e.at) (ep : previous ≡ f.at) where
  cases : InPlace l.parts e f rest ⊎ Alone l.parts e f rest
  cases = newest_case pages l.page l.parts e f rest can.stands.parts records

  at_is : a.at ≡ e.at.at
  at_is = ap (λ (x : Address). x.at) ea

  pub cut_told : (t : Option Pages) → (a.at ≡ 56 → ⊥) → Becomes t (CutsEnd log a previous pages) → Becomes t (ChangesLog (without_newest (pages_in (popped l).parts)) l pages)
  cut_told t other cuts = (cuts.0, cuts.1, cut_changes l e f rest pages cuts.0 a previous can records (is_beyond l.parts e f rest a.at cases at_is other) ea ep (subst (λ (n : ℕ). CutsEnd n a previous pages cuts.0) (sym same) cuts.2))

  pub alone_here : a.at ≡ 56 → Alone l.parts e f rest
  alone_here start = starts l.parts e f rest a.at cases at_is start

  page_is : (start : a.at ≡ 56) → a.page ≡ (alone_here start).page
  page_is start = ap (λ (x : Address). x.page) ea ∙ (alone_here start).same_page

  -- the list's last node is that of the page
  pub can_drop : (start : a.at ≡ 56) → CanOpen log (nodes_in ((alone_here start).next ∷ (alone_here start).older) ++ node_of a.page ∷ []) pages
  can_drop start =
      let alone = alone_here start in
      let room : CanOpen l.page (nodes_in (alone.next ∷ alone.older) ++ node_of alone.page ∷ []) pages = subst (λ (ps : List Part). CanOpen l.page (nodes_in ps) pages) alone.is can.room in
      subst (λ (n : ℕ). CanOpen n (nodes_in (alone.next ∷ alone.older) ++ node_of a.page ∷ []) pages) same
      (subst (λ (n : ℕ). CanOpen l.page (nodes_in (alone.next ∷ alone.older) ++ node_of n ∷ []) pages) (sym (page_is start)) room)

  pub drop_told : (t : Option Pages) (start : a.at ≡ 56) → Becomes t (DropsPage log (nodes_in ((alone_here start).next ∷ (alone_here start).older)) a.page previous pages) → Becomes t (ChangesLog (without_newest (pages_in (popped l).parts)) l pages)
  drop_told t start dropped =
      let alone = alone_here start in (
        dropped.0,
        dropped.1,
        drop_changes l e f rest pages dropped.0 a.page previous can records alone (page_is start) ep
            (subst (λ (n : ℕ). DropsPage n (nodes_in (alone.next ∷ alone.older)) a.page previous pages dropped.0) (sym same) dropped.2),
      )
