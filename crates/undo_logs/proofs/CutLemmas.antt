-- A log whose newest record is cut off its page, which has another one or is the first.
use Rattle.std.proofs.Common.{◌≡◌, ◌≢◌, ◌⊎◌, inl, inr, ℕ, ◌+◌, ◌-◌, ◌≤◌, List, [], ◌∷◌, ◌++◌, Option, refl, sym, ◌∙◌, subst, arith, lit≤}
use Rattle.page_model.specs.Pages.{Pages, Address}
use Rattle.page_model.specs.Spans.{Span, span, SameOutside, SetsField, SetsAddress, IsApartFromAll, AreApart}
use Rattle.page_model.specs.Lists.{IsList}
use Rattle.page_model.proofs.FrameLemmas.{field_kept, address_kept, outside_then}
use Rattle.page_model.proofs.ListLemmas.{list_kept}
use Rattle.store_data.specs.Store.{LogState, active}
use Rattle.undo_model.specs.Data.{Entry, Part, Log}
use Rattle.undo_model.specs.Logs.{nodes_in, records_in, newest, pages_base, last_field, end_field, IsFilled, AreChained, IsPart, IsNewPage, AreParts, AreNumbered, HasRecord, LastIs, IsLog, body_spans, first_start, other_start, next_field}
use Rattle.undo_model.proofs.LogLemmas.{parts_kept, chain_kept, chains_kept, chained_rest, filled_low, next_is, commit_is}
use Rattle.page_model.specs.Steps.{Told}
use Rattle.undo_logs.specs.Pops.{CutsEnd}
use Rattle.undo_logs.proofs.UseLemmas.{told_then}
use Rattle.undo_logs.proofs.AppendLemmas.{apart_if, not_first, nodes_all}
use Rattle.undo_logs.proofs.DueLemmas.{active_due}

-- what cutting changes: the page's end and the address of the last record
cut_spans : ℕ → ℕ → List Span
cut_spans page log = span page 50 2 ∷ span log 95 6 ∷ []

older_far : (pages : Pages) (page log : ℕ) (parts : List Part) → AreParts pages log parts → IsNewPage page parts → AreApart (cut_spans page log) (body_spans parts)
unfolding cut_spans
older_far pages page log [] are new = tt
older_far pages page log (p ∷ []) are new =
    let other : p.page ≢ page = λ same. new.0 (sym same) in
    ((inl other, (inr (inl (lit≤ tt)), tt)), ((inl other, (inr (inl (lit≤ tt)), tt)), ((inl other, (inr (inr (lit≤ tt)), tt)), tt)))
older_far pages page log (p ∷ q ∷ older) are new =
    let other : p.page ≢ page = λ same. new.0 (sym same) in
    let far : p.page ≢ log = not_first pages log p.page (q ∷ older) are.1 are.0.new in
    ((inl other, (inl far, tt)), ((inl other, (inl far, tt)), older_far pages page log (q ∷ older) are.1 new.1))

-- the page without its newest record
cut_part : (old new : Pages) (page log start : ℕ) (e : Entry) (rest : List Entry) → IsPart old start (record { page = page; records = e ∷ rest }) → SameOutside (cut_spans page log) old new
    → end_field new page ≡ e.at.at → IsPart new start (record { page = page; records = rest })
unfolding cut_spans
cut_part old new page log start e rest part same end =
    let sum = part.filled.1 in
    let high = part.high in
    let low = filled_low page start e.at.at rest part.filled.2 in
    record {
      there = omega (arith, same.many, part.there);
      type = field_kept (cut_spans page log) old new page 24 2 same (inr (inl (lit≤ tt)), (apart_if log page 95 6 24 2 (λ s. inl (lit≤ tt)), tt)) ∙ part.type;
      filled = subst (λ (n : ℕ). IsFilled page start n rest) (sym end) part.filled.2;
      low = omega (arith, low, end);
      high = omega (arith, sum, high, end);
    }

-- the records that are left on the page
rest_kept : (old new : Pages) (page log start : ℕ) (e : Entry) (rest behind : List Entry) → 56 ≤ start → (page ≡ log → 107 ≤ start) → IsFilled page start e.at.at rest → SameOutside (cut_spans page log) old new
    → AreChained old (rest ++ behind) → AreChained new behind → AreChained new (rest ++ behind)
unfolding cut_spans
rest_kept old new page log start e rest behind least first filled same chain kept =
    let low = filled_low page start e.at.at rest filled in
    let apart : IsApartFromAll (cut_spans page log) (span page start (e.at.at - start)) =
    (inr (inr (omega (arith, least))), (apart_if log page 95 6 start (e.at.at - start) (λ s. let f = first s in inr (omega (arith, f))), tt)) in
    chain_kept (cut_spans page log) old new page start (e.at.at - start) start e.at.at rest behind same apart (omega arith) (omega (arith, low)) filled chain kept

older_kept : (old new : Pages) (page log : ℕ) (older : List Part) → SameOutside (cut_spans page log) old new → (older ≡ []) ⊎ (AreParts old log older × IsNewPage page older) → AreChained old (records_in older) → AreChained new (records_in older)
older_kept old new page log older same (inl none) chain = subst (λ (ps : List Part). AreChained new (records_in ps)) (sym none) tt
older_kept old new page log older same (inr are) chain = chains_kept (cut_spans page log) old new log older same (older_far old page log older are.0 are.1) are.0 chain

-- which pages are behind the newest
behind_of : (pages : Pages) (log page : ℕ) (e : Entry) (rest : List Entry) (older : List Part) → AreParts pages log (record { page = page; records = e ∷ rest } ∷ older) → (older ≡ []) ⊎ (AreParts pages log older × IsNewPage page older)
behind_of pages log page e rest [] are = inl refl
behind_of pages log page e rest (q ∷ older) are = inr (are.1, are.0.new)

start_of : List Part → ℕ
start_of [] = first_start
start_of (q ∷ older) = other_start

part_of : (pages : Pages) (log page : ℕ) (e : Entry) (rest : List Entry) (older : List Part) → AreParts pages log (record { page = page; records = e ∷ rest } ∷ older) → IsPart pages (start_of older) (record { page = page; records = e ∷ rest })
unfolding start_of
part_of pages log page e rest [] are = are.1
part_of pages log page e rest (q ∷ older) are = are.0.part

least_of : (older : List Part) → 56 ≤ start_of older
unfolding start_of
least_of [] = lit≤ tt
least_of (q ∷ older) = lit≤ tt

first_of_page : (pages : Pages) (log page : ℕ) (e : Entry) (rest : List Entry) (older : List Part) → AreParts pages log (record { page = page; records = e ∷ rest } ∷ older) → page ≡ log → 107 ≤ start_of older
unfolding start_of
first_of_page pages log page e rest [] are same = lit≤ tt
first_of_page pages log page e rest (q ∷ older) are same = absurd (not_first pages log page (q ∷ older) are.1 are.0.new same)

cut_parts : (old new : Pages) (page log : ℕ) (e : Entry) (rest : List Entry) (older : List Part) → AreParts old log (record { page = page; records = e ∷ rest } ∷ older) → HasRecord rest ⊎ (older ≡ []) → SameOutside (cut_spans page log) old new
    → end_field new page ≡ e.at.at → AreParts new log (record { page = page; records = rest } ∷ older)
unfolding cut_spans
cut_parts old new page log e rest [] are some same end = (are.0, cut_part old new page log first_start e rest are.1 same end)
cut_parts old new page log e rest (q ∷ older) are (inr none) same end = absurd (let f : (q ∷ older) ≡ [] = none in cc)
cut_parts old new page log e rest (q ∷ older) are (inl some) same end =
    let far : page ≢ log = not_first old log page (q ∷ older) are.1 are.0.new in (
      record {
        part = cut_part old new page log other_start e rest are.0.part same end;
        owner = field_kept (cut_spans page log) old new page 52 4 same (inr (inr (lit≤ tt)), (inl far, tt)) ∙ are.0.owner;
        new = are.0.new;
        some = some;
      },
      parts_kept (cut_spans page log) old new log (q ∷ older) same (older_far old page log (q ∷ older) are.1 are.0.new) are.1,
    )

-- the end of the page and the address of the last record are written
pub cut_in_place : (old mid new : Pages) (l : Log) (page : ℕ) (e : Entry) (rest : List Entry) (older : List Part) → IsLog old l → l.state ≡ active → l.parts ≡ record { page = page; records = e ∷ rest } ∷ older → HasRecord rest ⊎ (older ≡ [])
    → SetsField page 50 2 e.at.at old mid → SetsAddress l.page 95 (newest (rest ++ records_in older)) mid new
    → IsLog new (record l { parts = record { page = page; records = rest } ∷ older })
unfolding cut_spans
cut_in_place old mid new l page e rest older log state is some end last =
    let xs = cut_spans page l.page in
    let same : SameOutside xs old new = outside_then (span page 50 2 ∷ []) (span l.page 95 6 ∷ []) old mid new end.outside last.outside in
    let end' : end_field new page ≡ e.at.at = field_kept (span l.page 95 6 ∷ []) mid new page 50 2 last.outside (apart_if l.page page 95 6 50 2 (λ s. inl (lit≤ tt)), tt) ∙ end.here in
    let are : AreParts old l.page (record { page = page; records = e ∷ rest } ∷ older) = subst (AreParts old l.page) is log.parts in
    let chain : AreChained old (records_in (record { page = page; records = e ∷ rest } ∷ older)) = subst (λ (ps : List Part). AreChained old (records_in ps)) is log.chain in
    let list : IsList old (pages_base l.page) (nodes_in (record { page = page; records = rest } ∷ older)) = subst (λ (ps : List Part). IsList old (pages_base l.page) (nodes_in ps)) is log.list in
    let part = part_of old l.page page e rest older are in
    let field = λ (at size : ℕ) (low : 52 ≤ at) (side : (at + size ≤ 95) ⊎ (101 ≤ at)).
    (let b : IsApartFromAll xs (span l.page at size) = (apart_if page l.page 50 2 at size (λ s. inr low), (inr side, tt)) in b) in
    record {
      state = field_kept xs old new l.page 52 1 same (field 52 1 (lit≤ tt) (inl (lit≤ tt))) ∙ log.state;
      trx = field_kept xs old new l.page 53 6 same (field 53 6 (lit≤ tt) (inl (lit≤ tt))) ∙ log.trx;
      commit = commit_is l.state _ _ l.commit (field_kept xs old new l.page 59 8 same (field 59 8 (lit≤ tt) (inl (lit≤ tt)))) log.commit;
      list = list_kept xs old new (pages_base l.page) (nodes_in (record { page = page; records = rest } ∷ older)) same
          (field 79 16 (lit≤ tt) (inl (lit≤ tt)), nodes_all xs (record { page = page; records = rest } ∷ older) (λ q. (apart_if page q 50 2 38 12 (λ s. inl (lit≤ tt)), (apart_if l.page q 95 6 38 12 (λ s. inl (lit≤ tt)), tt)))) list;
      parts = cut_parts old new page l.page e rest older are some same end';
      chain = rest_kept old new page l.page (start_of older) e rest (records_in older) (least_of older) (first_of_page old l.page page e rest older are) part.filled.2 same chain.1
          (older_kept old new page l.page older same (behind_of old l.page page e rest older are) (chained_rest old rest (records_in older) chain.1));
      last = subst (λ (s : LogState). LastIs s (last_field new l.page) (rest ++ records_in older)) (sym state) last.here;
      next = next_is l.state _ _ l.next (address_kept xs old new l.page 101 same (field 101 6 (lit≤ tt) (inr (lit≤ tt)))) log.next;
      due = active_due l.state (next_field old l.page) l.next (rest ++ records_in older) state log.next;
      numbered = (subst (λ (ps : List Part). AreNumbered (records_in ps)) is log.numbered).1;
    }

-- ---- both writes, over told pages

-- the page's end set where the record began, and the one before made the last: it is cut off
pub cut_told : (log : ℕ) (a previous : Address) (n : ℕ) (t0 t1 t2 : Option Pages) → n ≡ a.at → Told (SetsField a.page 50 2 n) t0 t1 → Told (SetsAddress log 95 previous) t1 t2 → Told (CutsEnd log a previous) t0 t2
cut_told log a previous n t0 t1 t2 is w1 w2 =
    told_then (SetsField a.page 50 2 a.at) (SetsAddress log 95 previous) (CutsEnd log a previous) t0 t1 t2 (λ x y z one two. record { mid = y; end = one; last = two })
    (subst (λ (k : ℕ). Told (SetsField a.page 50 2 k) t0 t1) is w1) w2
