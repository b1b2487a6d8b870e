-- A log after a record was put at the end of its newest page.
use Rattle.std.proofs.Common.{◌≡◌, ◌≢◌, ◌⊎◌, inl, inr, ℕ, ◌+◌, ◌-◌, ◌≤◌, List, [], ◌∷◌, ◌++◌, length, map, refl, sym, ◌∙◌, subst, arith, lit≤}
use Rattle.std.proofs.lemmas.List.{map-append}
use Rattle.std.proofs.lemmas.Bool.{cases_eq}
use Rattle.page_model.specs.Pages.{Pages, Address}
use Rattle.page_model.specs.Spans.{Span, span, SameOutside, IsApart, IsApartFromAll, AreApart}
use Rattle.page_model.specs.Lists.{node_span}
use Rattle.page_model.proofs.FrameLemmas.{field_kept, address_kept}
use Rattle.page_model.proofs.ListLemmas.{list_kept}
use Rattle.store_data.specs.Store.{LogState}
use Rattle.undo_model.specs.Data.{Record, Entry, Part, Log}
use Rattle.undo_model.specs.Bytes.{record_size}
use Rattle.undo_model.specs.Reading.{record_end}
use Rattle.undo_model.specs.Logs.{node_of, end_field, nodes_in, records_in, newest, pages_base, last_field, AreChained, IsPart, AreParts, AreNumbered, IsNewPage, LastIs, IsLog, body_spans, next_field}
use Rattle.undo_model.proofs.LogLemmas.{parts_kept, chain_kept, chains_kept, chained_rest, apart_join, commit_is, next_is}
use Rattle.undo_logs.specs.Puts.{PutsRecord, Role, IsReady, at_end}
use Rattle.undo_logs.proofs.DueLemmas.{active_due}

-- another page, or apart on the same one
pub apart_if : (page q at size at' size' : ℕ) → (q ≡ page → (at' + size' ≤ at) ⊎ (at + size ≤ at')) → IsApart (span page at size) (span q at' size')
apart_if page q at size at' size' apart = elim (cases_eq q page) [
  | inl same ↦ inr (apart same)
  | inr other ↦ inl other
]

-- the log's first page is among its parts
pub not_first : (pages : Pages) (log n : ℕ) (parts : List Part) → AreParts pages log parts → IsNewPage n parts → n ≢ log
not_first pages log n [] are new = absurd are
not_first pages log n (p ∷ []) are new = λ same. new.0 (same ∙ sym are.0)
not_first pages log n (p ∷ q ∷ older) are new = not_first pages log n (q ∷ older) are.1 new.1

-- what putting a record changes
put_spans : Address → ℕ → ℕ → List Span
put_spans a n log = span a.page a.at n ∷ span a.page 50 2 ∷ span log 95 6 ∷ []

-- older parts, whose pages are others
older_apart : (pages : Pages) (a : Address) (n log : ℕ) (parts : List Part) → AreParts pages log parts → IsNewPage a.page parts → AreApart (put_spans a n log) (body_spans parts)
unfolding put_spans
older_apart pages a n log [] are new = tt
older_apart pages a n log (p ∷ []) are new =
    let other : p.page ≢ a.page = λ same. new.0 (sym same) in (
      (inl other, (inl other, (inr (inl (lit≤ tt)), tt))),
      (
        (inl other, (inl other, (inr (inl (lit≤ tt)), tt))),
        ((inl other, (inl other, (inr (inr (lit≤ tt)), tt))), tt),
      ),
    )
older_apart pages a n log (p ∷ q ∷ older) are new =
    let other : p.page ≢ a.page = λ same. new.0 (sym same) in
    let far : p.page ≢ log = not_first pages log p.page (q ∷ older) are.1 are.0.new in (
      (inl other, (inl other, (inl far, tt))),
      (
        (inl other, (inl other, (inl far, tt))),
        older_apart pages a n log (q ∷ older) are.1 new.1,
      ),
    )

-- spans apart from where any page has its node are apart from the nodes of a log's pages
pub nodes_all : (xs : List Span) (parts : List Part) → ((page : ℕ) → IsApartFromAll xs (span page 38 12)) → AreApart xs (map node_span (nodes_in parts))
nodes_all xs [] each = tt
nodes_all xs (p ∷ older) each =
    let S : List Span → Type 0 = λ ss. AreApart xs ss in
    subst S (sym (map-append node_span (nodes_in older) (node_of p.page ∷ [])))
    (apart_join xs (map node_span (nodes_in older)) (node_span (node_of p.page) ∷ []) (nodes_all xs older each) (each p.page, tt))

-- how low the newest page's records begin
record Lows (log start page : ℕ) : Type 0 where
  least : 56 ≤ start
  first : page ≡ log → 107 ≤ start

lows : (pages : Pages) (log start : ℕ) (p : Part) (older : List Part) → Role pages log start p older → Lows log start p.page
lows pages log start p [] role = let s = role.1 in record { least = omega (arith, s); first = λ same. omega (arith, s) }
lows pages log start p (q ∷ older) role =
    let s = role.0 in record { least = omega (arith, s); first = λ same. absurd (not_first pages log p.page (q ∷ older) role.3 role.2 same) }

with_record : Log → Entry → Part → List Part → Log
with_record log e p older = record log { parts = record { page = p.page; records = e ∷ p.records } ∷ older }

-- the newest page with one record more
new_part : (old new : Pages) (log start n : ℕ) (p : Part) (r : Record) → Lows log start p.page → IsPart old start p → n ≡ record_size r → end_field old p.page + n ≤ record_end
    → SameOutside (put_spans (at_end old p) n log) old new → end_field new p.page ≡ end_field old p.page + n
    → IsPart new start (record { page = p.page; records = record { at = at_end old p; undo = r } ∷ p.records })
unfolding put_spans
new_part old new log start n p r low part is within same end =
    let a = at_end old p in
    let floor = part.low in
    let least = low.least in record {
      there = omega (arith, same.many, part.there);
      type = field_kept (put_spans a n log) old new p.page 24 2 same (inr (inl (omega (arith, floor, least))), (inr (inl (lit≤ tt)), (apart_if log p.page 95 6 24 2 (λ e. inl (lit≤ tt)), tt))) ∙ part.type;
      filled = (refl, omega (arith, is, end), part.filled);
      low = omega (arith, floor, end);
      high = omega (arith, within, end);
    }

new_parts : (old new : Pages) (log start n : ℕ) (p : Part) (older : List Part) (r : Record) → Lows log start p.page → IsPart old start p → Role old log start p older → n ≡ record_size r → end_field old p.page + n ≤ record_end
    → SameOutside (put_spans (at_end old p) n log) old new → end_field new p.page ≡ end_field old p.page + n
    → AreParts new log (record { page = p.page; records = record { at = at_end old p; undo = r } ∷ p.records } ∷ older)
unfolding put_spans
new_parts old new log start n p [] r low part role is within same end =
    let P : ℕ → Type 0 = λ s. IsPart new s (record { page = p.page; records = record { at = at_end old p; undo = r } ∷ p.records }) in
    (role.0, subst P role.1 (new_part old new log start n p r low part is within same end))
new_parts old new log start n p (q ∷ older) r low part role is within same end =
    let a = at_end old p in
    let floor = part.low in
    let least = low.least in
    let far : p.page ≢ log = not_first old log p.page (q ∷ older) role.3 role.2 in
    let P : ℕ → Type 0 = λ s. IsPart new s (record { page = p.page; records = record { at = at_end old p; undo = r } ∷ p.records }) in (
      record {
        part = subst P role.0 (new_part old new log start n p r low part is within same end);
        owner = field_kept (put_spans a n log) old new p.page 52 4 same (inr (inl (omega (arith, floor, least))), (inr (inr (lit≤ tt)), (inl far, tt))) ∙ role.1;
        new = role.2;
        some = tt;
      },
      parts_kept (put_spans a n log) old new log (q ∷ older) same (older_apart old a n log (q ∷ older) role.3 role.2) role.3,
    )

older_chain : (old new : Pages) (log start n : ℕ) (p : Part) (older : List Part) → Role old log start p older → SameOutside (put_spans (at_end old p) n log) old new
    → AreChained old (records_in older) → AreChained new (records_in older)
older_chain old new log start n p [] role same chain = tt
older_chain old new log start n p (q ∷ older) role same chain =
    chains_kept (put_spans (at_end old p) n log) old new log (q ∷ older) same (older_apart old (at_end old p) n log (q ∷ older) role.3 role.2) role.3 chain

-- the records of the newest page lie between its start and the new one
page_chain : (old new : Pages) (log start n : ℕ) (p : Part) (older : List Part) → Lows log start p.page → IsPart old start p → Role old log start p older
    → SameOutside (put_spans (at_end old p) n log) old new → AreChained old (p.records ++ records_in older) → AreChained new (p.records ++ records_in older)
unfolding put_spans
page_chain old new log start n p older low part role same chain =
    let a = at_end old p in
    let floor = part.low in
    let least = low.least in
    let first = low.first in
    let end = end_field old p.page in
    let apart : IsApartFromAll (put_spans a n log) (span p.page start (end - start)) =
    (inr (inl (omega (arith, floor))), (inr (inr (omega (arith, least))), (apart_if log p.page 95 6 start (end - start) (λ e. let f = first e in inr (omega (arith, f))), tt))) in
    chain_kept (put_spans a n log) old new p.page start (end - start) start end p.records (records_in older) same apart (omega arith) (omega (arith, floor)) part.filled chain
    (older_chain old new log start n p older role same (chained_rest old p.records (records_in older) chain))

-- a record put at the end of the page that is ready is the newest of the log that then stands
pub put_ready : (old new : Pages) (log : Log) (start : ℕ) (p : Part) (older : List Part) (r : Record) → IsReady old log start p older → end_field old p.page + record_size r ≤ record_end
    → PutsRecord log.page (at_end old p) r (newest (p.records ++ records_in older)) old new
    → AreNumbered (p.records ++ records_in older) → r.number ≡ length (p.records ++ records_in older)
    → IsLog new (record log { parts = record { page = p.page; records = record { at = at_end old p; undo = r } ∷ p.records } ∷ older })
unfolding put_spans
put_ready old new log start p older r ready within puts numbered count =
    let a = at_end old p in
    let n = record_size r in
    let same : SameOutside (put_spans a n log.page) old new = puts.outside in
    let low = lows old log.page start p older ready.role in
    let floor = ready.part.low in
    let least = low.least in
    let first = low.first in
    let xs = put_spans a n log.page in
    -- fields of the first page, before the last record's address and behind it
    let before = λ (at size : ℕ) (l : 52 ≤ at) (h : at + size ≤ 95).
    (let b : IsApartFromAll xs (span log.page at size) = (apart_if p.page log.page a.at n at size (λ e. let f = first (sym e) in inl (omega (arith, f, floor, h))), (apart_if p.page log.page 50 2 at size (λ e. inr l), (inr (inl h), tt))) in b) in
    let behind : IsApartFromAll xs (span log.page 101 6) = (apart_if p.page log.page a.at n 101 6 (λ e. let f = first (sym e) in inl (omega (arith, f, floor))), (apart_if p.page log.page 50 2 101 6 (λ e. inr (lit≤ tt)), (inr (inr (lit≤ tt)), tt))) in
    let node = λ (q : ℕ).
    (let b : IsApartFromAll xs (span q 38 12) = (apart_if p.page q a.at n 38 12 (λ e. inl (omega (arith, least, floor))), (apart_if p.page q 50 2 38 12 (λ e. inl (lit≤ tt)), (apart_if log.page q 95 6 38 12 (λ e. inl (lit≤ tt)), tt))) in b) in
    let is_last : LastIs log.state (last_field new log.page) (record { at = a; undo = r } ∷ (p.records ++ records_in older)) =
    (let L : LogState → Type 0 = λ s. LastIs s (last_field new log.page) (record { at = a; undo = r } ∷ (p.records ++ records_in older)) in subst L (sym ready.active) puts.last) in
    record {
      state = field_kept xs old new log.page 52 1 same (before 52 1 (lit≤ tt) (lit≤ tt)) ∙ ready.state;
      trx = field_kept xs old new log.page 53 6 same (before 53 6 (lit≤ tt) (lit≤ tt)) ∙ ready.trx;
      commit = commit_is log.state _ _ log.commit (field_kept xs old new log.page 59 8 same (before 59 8 (lit≤ tt) (lit≤ tt))) ready.commit;
      list = list_kept xs old new (pages_base log.page) (nodes_in (p ∷ older)) same (before 79 16 (lit≤ tt) (lit≤ tt), nodes_all xs (p ∷ older) node) ready.list;
      parts = new_parts old new log.page start n p older r low ready.part ready.role refl within same puts.end;
      chain = (puts.stands (omega (arith, floor, least)) (λ e. let f = first e in omega (arith, f, floor)), page_chain old new log.page start n p older low ready.part ready.role same ready.chain);
      last = is_last;
      next = next_is log.state _ _ log.next (address_kept xs old new log.page 101 same behind) ready.next;
      due = active_due log.state (next_field old log.page) log.next (record { at = a; undo = r } ∷ (p.records ++ records_in older)) ready.active ready.next;
      numbered = (count, numbered);
    }
