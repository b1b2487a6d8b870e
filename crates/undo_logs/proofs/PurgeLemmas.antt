-- Purge passes the record that is due.
use Rattle.std.proofs.Common.{◌≡◌, ◌≢◌, inl, inr, ℕ, ◌+◌, true, List, [], ◌∷◌, ◌++◌, Option, Some, IfSome, refl, sym, ap, ap₂, ◌∙◌, subst, lit≤}
use Rattle.std.proofs.lemmas.List.{append_assoc}
use Rattle.page_model.specs.Pages.{Pages, AreWhole, Address, field}
use Rattle.page_model.specs.Spans.{span, SetsAddress, AreApart}
use Rattle.page_model.specs.Lists.{or_null}
use Rattle.page_model.specs.Steps.{PageState, Uses, Told, Becomes}
use Rattle.page_model.proofs.FrameLemmas.{field_kept, address_kept}
use Rattle.page_model.proofs.ListLemmas.{list_kept}
use Rattle.page_model.proofs.StepLemmas.{told_step, uses_within, uses_unnamed, within_one, within_two}
use Rattle.store_data.specs.Store.{LogState, active, committed, purging, Record as ShownRecord, Log as ShownLog}
use Rattle.store_data.specs.Pieces.{all_but_last}
use Rattle.store_data.specs.Logs.{passed}
use Rattle.undo_model.specs.Data.{Entry, Part, Log}
use Rattle.undo_model.specs.Bytes.{record_size}
use Rattle.undo_model.specs.Reading.{IsRecordAt, is_place}
use Rattle.undo_model.specs.Logs.{nodes_in, records_of, newest, pages_base, last_field, next_field, AreChained, AreParts, LastIs, NextIs, IsLog, body_spans}
use Rattle.undo_model.specs.LogSteps.{oldest, next_behind, purged_one}
use Rattle.undo_model.specs.LogLists.{pages_in}
use Rattle.undo_model.proofs.LogLemmas.{parts_kept, chains_kept, chained_rest, commit_is}
use Rattle.store_parts.specs.Shows.{entries_of, entry_of, due_in, due, log_of}
use Rattle.store_parts.specs.Logs.{ChangesOldest}
use Rattle.store_parts.proofs.CountLemmas.{first_on}
use Rattle.undo_logs.specs.Forward.{CutsAt, from_here}
use Rattle.undo_logs.proofs.AppendLemmas.{apart_if, not_first, nodes_all}
use Rattle.undo_logs.proofs.NeverLemmas.{place_of_record}
use Rattle.undo_logs.proofs.OwnLemmas.{writes_keep}
use Rattle.undo_logs.proofs.ReadLemmas.{next_of_state}
use Rattle.undo_logs.proofs.ToldLemmas.{told_is}
use Rattle.undo_logs.proofs.UseLemmas.{begin}
use Rattle.undo_logs.proofs.PlaceOfLemmas.{Found, found, places_off, down_there, newer_there, due_oldest}
use Rattle.undo_logs.proofs.DueLemmas.{next_due}

-- ---- what it shows

due_state : (s : LogState) (next : Option Address) (rs : List Entry) → s ≢ active → due_in s next rs ≡ due next rs
due_state active next rs other = absurd (other refl)
due_state committed next rs other = refl
due_state purging next rs other = refl

entries_last : (xs : List Entry) (e : Entry) → all_but_last (entries_of (xs ++ e ∷ [])) ≡ entries_of xs
entries_last [] e = refl
entries_last (x ∷ []) e = refl
entries_last (x ∷ y ∷ xs) e = ap (λ (rs : List (Address × ShownRecord)). entry_of x ∷ rs) (entries_last (y ∷ xs) e)

module _ (pages : Pages) (l : Log) (xs : List Entry) (e : Entry) (ys : List Entry) (log : IsLog pages l) (state : l.state ≢ active) (records : records_of l ≡ xs ++ e ∷ ys) (next : l.next ≡ Some e.at) where
  pub next_is : next_behind l.next (records_of l) ≡ oldest xs
  next_is =
      let off = places_off pages l.page l.parts xs e ys log.parts records in
      ap (λ (o : Option Address). next_behind o (records_of l)) next ∙ ap (λ (rs : List Entry). next_behind (Some e.at) rs) records ∙ newer_there xs e ys off.0 off.1

  left_due : due (oldest xs) (xs ++ e ∷ ys) ≡ xs
  left_due = due_oldest xs (e ∷ ys) (λ front f is. (places_off pages l.page l.parts front f (e ∷ ys) log.parts (records ∙ ap (λ (rs : List Entry). rs ++ e ∷ ys) is ∙ append_assoc front (f ∷ []) (e ∷ ys))).0)

  pub passed_shows : log_of (purged_one l) ≡ passed (log_of l)
  passed_shows =
      let off = places_off pages l.page l.parts xs e ys log.parts records in
      let mk : List (Address × ShownRecord) → ShownLog = λ rs. record { page = l.page; trx = l.trx; state = l.state; number = l.commit; pages = pages_in l.parts; records = rs } in
      let new : entries_of (due_in l.state (next_behind l.next (records_of l)) (records_of l)) ≡ entries_of xs =
      ap entries_of (due_state l.state (next_behind l.next (records_of l)) (records_of l) state ∙ ap₂ (λ (o : Option Address) (rs : List Entry). due o rs) next_is records ∙ left_due) in
      let old : all_but_last (entries_of (due_in l.state l.next (records_of l))) ≡ entries_of xs =
      ap (λ (rs : List Entry). all_but_last (entries_of rs)) (due_state l.state l.next (records_of l) state ∙ ap₂ (λ (o : Option Address) (rs : List Entry). due o rs) next records ∙ down_there xs e ys off.0) ∙ entries_last xs e in
      ap mk (new ∙ sym old)

-- ---- the next field written

bodies_next : (pages : Pages) (log : ℕ) (parts : List Part) → AreParts pages log parts → AreApart (span log 101 6 ∷ []) (body_spans parts)
bodies_next pages log [] are = tt
bodies_next pages log (p ∷ []) are = ((apart_if log p.page 101 6 24 2 (λ e. inl (lit≤ tt)), tt), ((apart_if log p.page 101 6 50 2 (λ e. inl (lit≤ tt)), tt), ((apart_if log p.page 101 6 107 16_277 (λ e. inr (lit≤ tt)), tt), tt)))
bodies_next pages log (p ∷ q ∷ older) are =
    let far : p.page ≢ log = not_first pages log p.page (q ∷ older) are.1 are.0.new in
    ((inl far, tt), ((inl far, tt), bodies_next pages log (q ∷ older) are.1))

last_is : (s : LogState) (a b : Address) (records : List Entry) → a ≡ b → LastIs s b records → LastIs s a records
last_is active a b records same is = same ∙ is
last_is committed a b records same is = same ∙ is
last_is purging a b records same is = tt

next_by_state : (s : LogState) (a : Address) (next : Option Address) → s ≢ active → a ≡ or_null next → NextIs s a next
next_by_state active a next other is = absurd (other refl)
next_by_state committed a next other is = is
next_by_state purging a next other is = is

passed_stands : (old new : Pages) (l : Log) → IsLog old l → l.state ≢ active → SetsAddress l.page 101 (or_null (next_behind l.next (records_of l))) old new → IsLog new (purged_one l)
passed_stands old new l log state sets =
    let xs = span l.page 101 6 ∷ [] in
    let same = sets.outside in
    let apart = bodies_next old l.page l.parts log.parts in
    record {
      state = field_kept xs old new l.page 52 1 same (inr (inl (lit≤ tt)), tt) ∙ log.state;
      trx = field_kept xs old new l.page 53 6 same (inr (inl (lit≤ tt)), tt) ∙ log.trx;
      commit = commit_is l.state _ _ l.commit (field_kept xs old new l.page 59 8 same (inr (inl (lit≤ tt)), tt)) log.commit;
      list = list_kept xs old new (pages_base l.page) (nodes_in l.parts) same ((inr (inl (lit≤ tt)), tt), nodes_all xs l.parts (λ n. (apart_if l.page n 101 6 38 12 (λ e. inl (lit≤ tt)), tt))) log.list;
      parts = parts_kept xs old new l.page l.parts same apart log.parts;
      chain = chains_kept xs old new l.page l.parts same apart log.parts log.chain;
      last = last_is l.state (last_field new l.page) (last_field old l.page) (records_of l) (address_kept xs old new l.page 95 same (inr (inl (lit≤ tt)), tt)) log.last;
      next = next_by_state l.state (next_field new l.page) (next_behind l.next (records_of l)) state sets.here;
      due = next_due l.next (records_of l);
      numbered = log.numbered;
    }

pub passed_changes : (old new : Pages) (l : Log) (xs : List Entry) (e : Entry) (ys : List Entry) → IsLog old l → l.state ≢ active → records_of l ≡ xs ++ e ∷ ys → l.next ≡ Some e.at → SetsAddress l.page 101 (or_null (oldest xs)) old new → ChangesOldest passed l old new
passed_changes old new l xs e ys log state records next sets =
    let n = next_is old l xs e ys log state records next in
    record {
      after = purged_one l;
      stands = passed_stands old new l log state (subst (λ (a : Address). SetsAddress l.page 101 a old new) (ap or_null (sym n)) sets);
      shows = passed_shows old l xs e ys log state records next;
      same_page = refl;
      state = state;
      number = refl;
      keeps = writes_keep l (span l.page 101 6 ∷ []) old new log ((inr (inl (lit≤ tt)), tt), tt) (first_on old l.page l.parts log.parts, tt) sets.outside;
    }

-- ---- the record that is due, as it was read

module _ (pages : Pages) (l : Log) (log : ℕ) (xs : List Entry) (e : Entry) (ys : List Entry) (told : Option Pages) (a : Address) (is : told ≡ Some pages) (same : l.page ≡ log) (stands : IsLog pages l) (state : l.state ≢ active) (records : records_of l ≡ xs ++ e ∷ ys) (next : l.next ≡ Some e.at) where
  pub due_there : IsRecordAt pages e.at e.undo (newest ys)
  due_there = (chained_rest pages xs (e ∷ ys) (subst (AreChained pages) records stands.chain)).0

  pub due_is : IfSome told (λ ps. a ≡ next_field ps log) → a ≡ e.at
  due_is read = told_is (λ ps. a ≡ next_field ps log) told pages is read ∙ ap (next_field pages) (sym same) ∙ next_of_state l.state (next_field pages l.page) l.next state stands.next ∙ ap or_null next

  pub due_place : (count : ℕ) → AreWhole pages count → IfSome told (λ ps. a ≡ next_field ps log) → is_place count a.page a.at ≡ true
  due_place count whole read =
      subst (λ (k : ℕ). is_place k a.page a.at ≡ true) whole.many (subst (λ (x : Address). is_place (Rattle.std.specs.Prelude.length pages) x.page x.at ≡ true) (sym (due_is read)) (place_of_record pages e.at e.undo (newest ys) due_there))

  pub size_is : (size : ℕ) → a ≡ e.at → IfSome told (λ ps. size ≡ field ps a.page a.at 2) → size ≡ record_size e.undo
  size_is size here read = told_is (λ ps. size ≡ field ps a.page a.at 2) told pages is read ∙ ap (λ (x : Address). field pages x.page x.at 2) here ∙ (let s = due_there in s.size)

  -- the place behind it
  cut_here : (c : CutsAt l e.at.page (e.at.at + record_size e.undo) pages) × (from_here c ≡ xs)
  cut_here =
      let f : Found pages l.parts xs e ys = found pages l.page l.parts xs e ys stands.parts records in (
        record {
          stands = stands;
          newer = f.newer;
          part = f.part;
          older = f.older;
          parts = f.is;
          same_page = sym f.same_page;
          start = f.start;
          fills = f.fills;
          behind = f.behind;
          before = e ∷ f.before;
          records = f.records;
          filled = (f.same_page, refl, f.filled);
        },
        f.left,
      )

  pub record CutBehind (at : ℕ) : Type 0 where
    pub cut : CutsAt l a.page at pages
    pub left : from_here cut ≡ xs

  pub cut_behind : (at : ℕ) → a ≡ e.at → at ≡ e.at.at + record_size e.undo → CutBehind at
  cut_behind at here place =
      let P : ℕ → ℕ → Type 0 = λ page n. (c : CutsAt l page n pages) × (from_here c ≡ xs) in
      let base : P e.at.page (e.at.at + record_size e.undo) = cut_here in
      let moved : P a.page at = subst (λ (n : ℕ). P n at) (ap (λ (x : Address). x.page) (sym here)) (subst (P e.at.page) (sym place) base) in
      record { cut = moved.0; left = moved.1 }

-- a record is passed when the next newer one, or none, is set to be purged next
pub passed_told : (t0 t1 : Option Pages) (pages : Pages) (l : Log) (log : ℕ) (xs : List Entry) (e : Entry) (ys : List Entry) (to : Address) → t0 ≡ Some pages → l.page ≡ log → IsLog pages l → l.state ≢ active → records_of l ≡ xs ++ e ∷ ys → l.next ≡ Some e.at
    → to ≡ or_null (oldest xs) → Told (SetsAddress log 101 to) t0 t1 → Becomes t1 (ChangesOldest passed l pages)
passed_told t0 t1 pages l log xs e ys to is same stands state records next there told =
    let b = told_step (SetsAddress log 101 to) t0 t1 pages is told in
    (b.0, b.1, passed_changes pages b.0 l xs e ys stands state records next (subst (λ (n : ℕ). SetsAddress n 101 (or_null (oldest xs)) pages b.0) (sym same) (subst (λ (a : Address). SetsAddress log 101 a pages b.0) there b.2)))

-- ---- pins

module _ {T : Type 0} {state : T → PageState} {stays : T → T → Type 0} (add : (a b c : T) → stays a b → stays b c → stays a c) (page log : ℕ) (s : T) where
  pub pass1 : (a : T) → Uses state stays (log ∷ []) 0 0 s a → Uses state stays (page ∷ log ∷ []) 0 0 s a
  pass1 a u1 = begin (page ∷ log ∷ []) (log ∷ []) 0 0 s a (within_two page log []) u1

  pub pass2 : (a b : T) → Uses state stays (log ∷ []) 0 0 s a → Uses state stays (page ∷ []) 0 0 a b → Uses state stays (page ∷ log ∷ []) 0 0 s b
  pass2 a b u1 u2 = uses_within add (page ∷ log ∷ []) (page ∷ []) 0 0 0 0 s a b (within_one page (log ∷ [])) (pass1 a u1) u2

  pub pass3 : (a b c : T) → Uses state stays (log ∷ []) 0 0 s a → Uses state stays (page ∷ []) 0 0 a b → Uses state stays (page ∷ []) 0 0 b c → Uses state stays (page ∷ log ∷ []) 0 0 s c
  pass3 a b c u1 u2 u3 = uses_within add (page ∷ log ∷ []) (page ∷ []) 0 0 0 0 s b c (within_one page (log ∷ [])) (pass2 a b u1 u2) u3

  pub pass4 : (a b c d : T) → Uses state stays (log ∷ []) 0 0 s a → Uses state stays (page ∷ []) 0 0 a b → Uses state stays (page ∷ []) 0 0 b c → Uses state stays (log ∷ []) 0 14 c d → Uses state stays (log ∷ []) 1 14 s d
  pass4 a b c d u1 u2 u3 u4 = uses_unnamed page (log ∷ []) 0 14 s d (uses_within add (page ∷ log ∷ []) (log ∷ []) 0 0 0 14 s c d (within_two page log []) (pass3 a b c u1 u2 u3) u4)
