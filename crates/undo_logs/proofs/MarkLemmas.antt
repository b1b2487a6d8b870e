-- A log marked as committed: its state, its number, and the record that is to be purged first.
use Rattle.std.proofs.Common.{◌≡◌, ◌≢◌, inl, inr, ℕ, List, [], ◌∷◌, ◌++◌, Option, refl, sym, ap, ◌∙◌, subst, lit≤}
use Rattle.std.proofs.lemmas.List.{append_assoc}
use Rattle.page_model.specs.Pages.{Pages, Address}
use Rattle.page_model.specs.Spans.{Span, span, SameOutside, SetsField, SetsAddress, AreApart}
use Rattle.page_model.specs.Lists.{or_null}
use Rattle.page_model.specs.Steps.{Told}
use Rattle.page_model.proofs.FrameLemmas.{field_kept, address_kept, outside_then}
use Rattle.page_model.proofs.ListLemmas.{list_kept}
use Rattle.store_data.specs.Store.{LogState, active, committed, Record as ShownRecord, Log as ShownLog}
use Rattle.undo_model.specs.Data.{Entry, Part, Log}
use Rattle.undo_model.specs.Logs.{nodes_in, records_in, records_of, newest, pages_base, last_field, IsPart, AreParts, LastIs, IsLog, body_spans}
use Rattle.undo_model.specs.LogSteps.{oldest, marked_committed}
use Rattle.undo_model.specs.LogLists.{pages_in}
use Rattle.undo_model.proofs.LogLemmas.{parts_kept, chains_kept}
use Rattle.store_parts.specs.Keeps.{Keeps}
use Rattle.store_parts.specs.Shows.{entries_of, due_in, due, log_of}
use Rattle.store_parts.proofs.CountLemmas.{first_on}
use Rattle.undo_logs.specs.Commits.{MarksCommitted}
use Rattle.undo_logs.specs.Forward.{CutsAt, from_here}
use Rattle.undo_logs.proofs.AppendLemmas.{apart_if, not_first, nodes_all}
use Rattle.undo_logs.proofs.OwnLemmas.{writes_keep}
use Rattle.undo_logs.proofs.PlaceOfLemmas.{places_off, due_oldest}
use Rattle.undo_logs.proofs.UseLemmas.{told_then}
use Rattle.undo_logs.proofs.DueLemmas.{oldest_due}

-- state, number and next record, written one after the other, are all there
pub marked_told : (log number : ℕ) (next : Address) (t0 t1 t2 t3 : Option Pages) → Told (SetsField log 52 1 2) t0 t1 → Told (SetsField log 59 8 number) t1 t2 → Told (SetsAddress log 101 next) t2 t3 → Told (MarksCommitted log number next) t0 t3
marked_told log number next t0 t1 t2 t3 one two three =
    told_then (λ x y. (z : Pages) × SetsField log 52 1 2 x z × SetsField log 59 8 number z y) (SetsAddress log 101 next) (MarksCommitted log number next) t0 t2 t3 (λ x y z first last. record { one = first.0; two = y; state = first.1; commit = first.2; next = last })
    (told_then (SetsField log 52 1 2) (SetsField log 59 8 number) (λ x y. (z : Pages) × SetsField log 52 1 2 x z × SetsField log 59 8 number z y) t0 t1 t2 (λ x y z first last. (y, first, last)) one two) three

append_none : (xs : List Entry) → xs ++ [] ≡ xs
append_none [] = refl
append_none (x ∷ xs) = ap (λ (ys : List Entry). x ∷ ys) (append_none xs)

-- ---- the bytes

-- where the state, the commit number and the next record stand
abbrev pub mark_spans : ℕ → List Span
mark_spans log = span log 52 1 ∷ span log 59 8 ∷ span log 101 6 ∷ []

bodies_marked : (pages : Pages) (log : ℕ) (parts : List Part) → AreParts pages log parts → AreApart (mark_spans log) (body_spans parts)
bodies_marked pages log [] are = tt
bodies_marked pages log (p ∷ []) are = (
  (apart_if log p.page 52 1 24 2 (λ e. inl (lit≤ tt)), (apart_if log p.page 59 8 24 2 (λ e. inl (lit≤ tt)), (apart_if log p.page 101 6 24 2 (λ e. inl (lit≤ tt)), tt))),
  (
    (apart_if log p.page 52 1 50 2 (λ e. inl (lit≤ tt)), (apart_if log p.page 59 8 50 2 (λ e. inl (lit≤ tt)), (apart_if log p.page 101 6 50 2 (λ e. inl (lit≤ tt)), tt))),
    (
      (apart_if log p.page 52 1 107 16_277 (λ e. inr (lit≤ tt)), (apart_if log p.page 59 8 107 16_277 (λ e. inr (lit≤ tt)), (apart_if log p.page 101 6 107 16_277 (λ e. inr (lit≤ tt)), tt))),
      tt,
    ),
  ),
)
bodies_marked pages log (p ∷ q ∷ older) are =
    let far : p.page ≢ log = not_first pages log p.page (q ∷ older) are.1 are.0.new in
    ((inl far, (inl far, (inl far, tt))), ((inl far, (inl far, (inl far, tt))), bodies_marked pages log (q ∷ older) are.1))

last_by : (s : LogState) (a : Address) (records : List Entry) → s ≡ active → LastIs s a records → a ≡ newest records
last_by s a records is last = subst (λ (t : LogState). LastIs t a records) is last

module _ (old new : Pages) (l : Log) (number : ℕ) (log : IsLog old l) (state : l.state ≡ active) (marks : MarksCommitted l.page number (or_null (oldest (records_of l))) old new) where
  pub same_marked : SameOutside (mark_spans l.page) old new
  same_marked = outside_then (span l.page 52 1 ∷ []) (span l.page 59 8 ∷ span l.page 101 6 ∷ []) old marks.one new marks.state.outside
      (outside_then (span l.page 59 8 ∷ []) (span l.page 101 6 ∷ []) marks.one marks.two new marks.commit.outside marks.next.outside)

  pub marked_stands : IsLog new (marked_committed number l)
  marked_stands =
      let xs = mark_spans l.page in
      let same = same_marked in
      let apart = bodies_marked old l.page l.parts log.parts in
      record {
        state = field_kept (span l.page 101 6 ∷ []) marks.two new l.page 52 1 marks.next.outside (inr (inl (lit≤ tt)), tt) ∙ field_kept (span l.page 59 8 ∷ []) marks.one marks.two l.page 52 1 marks.commit.outside (inr (inl (lit≤ tt)), tt) ∙ marks.state.here;
        trx = field_kept xs old new l.page 53 6 same (inr (inr (lit≤ tt)), (inr (inl (lit≤ tt)), (inr (inl (lit≤ tt)), tt))) ∙ log.trx;
        commit = field_kept (span l.page 101 6 ∷ []) marks.two new l.page 59 8 marks.next.outside (inr (inl (lit≤ tt)), tt) ∙ marks.commit.here;
        list = list_kept xs old new (pages_base l.page) (nodes_in l.parts) same
            ((inr (inr (lit≤ tt)), (inr (inr (lit≤ tt)), (inr (inl (lit≤ tt)), tt))), nodes_all xs l.parts (λ n. (apart_if l.page n 52 1 38 12 (λ e. inl (lit≤ tt)), (apart_if l.page n 59 8 38 12 (λ e. inl (lit≤ tt)), (apart_if l.page n 101 6 38 12 (λ e. inl (lit≤ tt)), tt))))) log.list;
        parts = parts_kept xs old new l.page l.parts same apart log.parts;
        chain = chains_kept xs old new l.page l.parts same apart log.parts log.chain;
        last = address_kept xs old new l.page 95 same (inr (inr (lit≤ tt)), (inr (inr (lit≤ tt)), (inr (inl (lit≤ tt)), tt))) ∙ last_by l.state (last_field old l.page) (records_of l) state log.last;
        next = marks.next.here;
        due = oldest_due (records_of l);
        numbered = log.numbered;
      }

  pub marked_keeps : Keeps (l.page ∷ []) (pages_in l.parts) (pages_in l.parts) old new
  marked_keeps =
      let first = first_on old l.page l.parts log.parts in
      writes_keep l (mark_spans l.page) old new log ((inr (inr (lit≤ tt)), (inr (inr (lit≤ tt)), (inr (inl (lit≤ tt)), tt))), tt) (first, (first, (first, tt))) same_marked

-- ---- what it shows

-- a committed log is, as plain data, the one before with its state and number
pub marked_shows : (pages : Pages) (l : Log) (number : ℕ) → IsLog pages l → l.state ≡ active → log_of (marked_committed number l) ≡ (let x : ShownLog = record (log_of l) { state = committed; number = number } in x)
marked_shows pages l number log state =
    let rs = records_of l in
    let mk : List (Address × ShownRecord) → ShownLog = λ es. record { page = l.page; trx = l.trx; state = committed; number = number; pages = pages_in l.parts; records = es } in
    let all : due (oldest rs) rs ≡ rs = ap (due (oldest rs)) (sym (append_none rs)) ∙ due_oldest rs [] (λ front f is. (places_off pages l.page l.parts front f [] log.parts is).0) in
    let was : due_in l.state l.next rs ≡ rs = ap (λ (s : LogState). due_in s l.next rs) state in
    ap mk (ap entries_of (all ∙ sym was))

-- ---- the first record

pub record FirstPart (pages : Pages) (first : ℕ) (parts : List Part) : Type 0 where
  pub newer : List Part
  pub part : Part
  pub is : parts ≡ newer ++ part ∷ []
  pub same_page : part.page ≡ first
  pub fills : IsPart pages 107 part
  pub all : records_in newer ++ part.records ≡ records_in parts

first_part : (pages : Pages) (first : ℕ) (parts : List Part) → AreParts pages first parts → FirstPart pages first parts
first_part pages first [] are = absurd are
first_part pages first (p ∷ []) are = record { newer = []; part = p; is = refl; same_page = are.0; fills = are.1; all = sym (append_none p.records) }
first_part pages first (p ∷ q ∷ older) are =
    let r = first_part pages first (q ∷ older) are.1 in
    record {
      newer = p ∷ r.newer;
      part = r.part;
      is = ap (λ (ps : List Part). p ∷ ps) r.is;
      same_page = r.same_page;
      fills = r.fills;
      all = append_assoc p.records (records_in r.newer) r.part.records ∙ ap (λ (rs : List Entry). p.records ++ rs) r.all;
    }

-- the place where the first page's records begin
pub record CutFirst (l : Log) (page at : ℕ) (pages : Pages) : Type 0 where
  pub cut : CutsAt l page at pages
  pub all : from_here cut ≡ records_of l

-- a first page's records begin at 107
pub cut_first : (pages : Pages) (l : Log) (log at : ℕ) → IsLog pages l → l.page ≡ log → at ≡ 107 → CutFirst l log at pages
cut_first pages l log at stands same place =
    let f = first_part pages l.page l.parts stands.parts in
    record {
      cut = record {
        stands = stands;
        newer = f.newer;
        part = f.part;
        older = [];
        parts = f.is;
        same_page = f.same_page ∙ same;
        start = 107;
        fills = f.fills;
        behind = f.part.records;
        before = [];
        records = sym (append_none f.part.records);
        filled = place;
      };
      all = f.all;
    }
