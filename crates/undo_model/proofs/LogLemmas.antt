-- A log stays where nothing changes but bytes apart from it.
use Rattle.std.proofs.Common.{◌≡◌, ℕ, ◌+◌, ◌≤◌, List, [], ◌∷◌, ◌++◌, map, Option, sym, ◌∙◌, subst, arith, lit≤}
use Rattle.std.proofs.lemmas.List.{map-append}
use Rattle.page_model.specs.Pages.{Pages, Address, page_bytes}
use Rattle.page_model.specs.Spans.{Span, span, SameOutside, IsApartFromAll, AreApart}
use Rattle.page_model.specs.Lists.{node_span}
use Rattle.page_model.proofs.FrameLemmas.{field_kept, address_kept, apart_part}
use Rattle.page_model.proofs.ListLemmas.{list_kept}
use Rattle.store_data.specs.Store.{LogState, active, committed, purging}
use Rattle.undo_model.specs.Data.{Entry, Part, Log}
use Rattle.undo_model.specs.Bytes.{record_size}
use Rattle.undo_model.specs.Logs.{node_of, end_field, nodes_in, records_in, records_of, newest, IsFilled, AreChained, IsPart, AreParts, CommitIs, LastIs, NextIs, IsLog, part_spans, body_spans, log_spans, first_start, other_start, pages_base}
use Rattle.undo_model.proofs.PageLemmas.{record_kept}

-- a page's records end no earlier than they begin
pub filled_low : (page start end : ℕ) (records : List Entry) → IsFilled page start end records → start ≤ end
filled_low page start end [] is = omega (arith, is)
filled_low page start end (e ∷ older) is = let low = filled_low page start e.at.at older is.2 in let s = is.1 in omega (arith, low, s)

-- a chain's older records are chained
pub chained_rest : (pages : Pages) (records rest : List Entry) → AreChained pages (records ++ rest) → AreChained pages rest
chained_rest pages [] rest chain = chain
chained_rest pages (e ∷ older) rest chain = chained_rest pages older rest chain.1

-- the records of one page, in a span of it
pub chain_kept : (xs : List Span) (old new : Pages) (page at size start end : ℕ) (records rest : List Entry) → SameOutside xs old new → IsApartFromAll xs (span page at size)
    → at ≤ start → end ≤ at + size → IsFilled page start end records → AreChained old (records ++ rest) → AreChained new rest → AreChained new (records ++ rest)
chain_kept xs old new page at size start end [] rest same apart low high filled chain behind = behind
chain_kept xs old new page at size start end (e ∷ older) rest same apart low high filled chain behind =
    let n = record_size e.undo in
    let below = filled_low page start e.at.at older filled.2 in
    let sum = filled.1 in
    let S : ℕ → Type 0 = λ q. IsApartFromAll xs (span q e.at.at n) in
    let here : S e.at.page = subst S (sym filled.0) (apart_part xs page at size e.at.at n (omega (arith, low, below)) (omega (arith, sum, high)) apart) in (
      record_kept xs old new e.at e.undo (newest (older ++ rest)) same here chain.0,
      chain_kept xs old new page at size start e.at.at older rest same apart low (omega (arith, sum, high)) filled.2 chain.1 behind,
    )

pub part_kept : (xs : List Span) (old new : Pages) (start : ℕ) (p : Part) → SameOutside xs old new → IsApartFromAll xs (span p.page 24 2) → IsApartFromAll xs (span p.page 50 2) → IsPart old start p → IsPart new start p
part_kept xs old new start p same type_apart end_apart is =
    let end = field_kept xs old new p.page 50 2 same end_apart in
    let F : ℕ → Type 0 = λ n. IsFilled p.page start n p.records in record {
      there = omega (arith, same.many, is.there);
      type = field_kept xs old new p.page 24 2 same type_apart ∙ is.type;
      filled = subst F (sym end) is.filled;
      low = omega (arith, end, is.low);
      high = omega (arith, end, is.high);
    }

-- a log's pages hold their parts where nothing changes but bytes apart from them
pub parts_kept : (xs : List Span) (old new : Pages) (first : ℕ) (parts : List Part) → SameOutside xs old new → AreApart xs (body_spans parts) → AreParts old first parts → AreParts new first parts
parts_kept xs old new first [] same apart is = is
parts_kept xs old new first (p ∷ []) same apart is = (is.0, part_kept xs old new first_start p same apart.0 apart.1.0 is.1)
parts_kept xs old new first (p ∷ q ∷ older) same apart is = (
  record {
    part = part_kept xs old new other_start p same apart.0 (apart_part xs p.page 50 16_334 50 2 (lit≤ tt) (lit≤ tt) apart.1.0) is.0.part;
    owner = field_kept xs old new p.page 52 4 same (apart_part xs p.page 50 16_334 52 4 (lit≤ tt) (lit≤ tt) apart.1.0) ∙ is.0.owner;
    new = is.0.new;
    some = is.0.some;
  },
  parts_kept xs old new first (q ∷ older) same apart.1.1 is.1,
)

-- a log's records stay chained where nothing changes but bytes apart from them
pub chains_kept : (xs : List Span) (old new : Pages) (first : ℕ) (parts : List Part) → SameOutside xs old new → AreApart xs (body_spans parts) → AreParts old first parts
    → AreChained old (records_in parts) → AreChained new (records_in parts)
chains_kept xs old new first [] same apart is chain = tt
chains_kept xs old new first (p ∷ []) same apart is chain =
    let high = is.1.high in
    chain_kept xs old new p.page 107 16_277 first_start (end_field old p.page) p.records [] same apart.1.1.0 (lit≤ tt) (omega (arith, high)) is.1.filled chain tt
chains_kept xs old new first (p ∷ q ∷ older) same apart is chain =
    let high = is.0.part.high in
    chain_kept xs old new p.page 50 16_334 other_start (end_field old p.page) p.records (records_in (q ∷ older)) same apart.1.0 (lit≤ tt) (omega (arith, high)) is.0.part.filled chain
    (chains_kept xs old new first (q ∷ older) same apart.1.1 is.1 (chained_rest old p.records (records_in (q ∷ older)) chain))

-- whole pages have these parts
pub bodies_apart : (xs : List Span) (parts : List Part) → AreApart xs (part_spans parts) → AreApart xs (body_spans parts)
bodies_apart xs [] apart = tt
bodies_apart xs (p ∷ []) apart = (apart_part xs p.page 0 67 24 2 (lit≤ tt) (lit≤ tt) apart.0, (apart_part xs p.page 0 67 50 2 (lit≤ tt) (lit≤ tt) apart.0, (apart_part xs p.page 79 16_305 107 16_277 (lit≤ tt) (lit≤ tt) apart.1.0, tt)))
bodies_apart xs (p ∷ q ∷ older) apart = (apart_part xs p.page 0 page_bytes 24 2 (lit≤ tt) (lit≤ tt) apart.0, (apart_part xs p.page 0 page_bytes 50 16_334 (lit≤ tt) (lit≤ tt) apart.0, bodies_apart xs (q ∷ older) apart.1))

-- ---- the list of the log's pages

-- spans apart from two lists are apart from both in a row
pub apart_join : (xs ss ts : List Span) → AreApart xs ss → AreApart xs ts → AreApart xs (ss ++ ts)
apart_join xs [] ts a b = b
apart_join xs (s ∷ ss) ts a b = (a.0, apart_join xs ss ts a.1 b)

nodes_apart : (xs : List Span) (parts : List Part) → AreApart xs (part_spans parts) → AreApart xs (map node_span (nodes_in parts))
nodes_apart xs [] apart = tt
nodes_apart xs (p ∷ []) apart = (apart_part xs p.page 0 67 38 12 (lit≤ tt) (lit≤ tt) apart.0, tt)
nodes_apart xs (p ∷ q ∷ older) apart =
    let S : List Span → Type 0 = λ ss. AreApart xs ss in
    subst S (sym (map-append node_span (nodes_in (q ∷ older)) (node_of p.page ∷ [])))
    (apart_join xs (map node_span (nodes_in (q ∷ older))) (node_span (node_of p.page) ∷ []) (nodes_apart xs (q ∷ older) apart.1) (apart_part xs p.page 0 page_bytes 38 12 (lit≤ tt) (lit≤ tt) apart.0, tt))

-- the first page's own spans
pub record FirstApart (xs : List Span) (page : ℕ) : Type 0 where
  pub front : IsApartFromAll xs (span page 0 67)
  pub back : IsApartFromAll xs (span page 79 16_305)

pub first_apart : (xs : List Span) (pages : Pages) (first : ℕ) (parts : List Part) → AreParts pages first parts → AreApart xs (part_spans parts) → FirstApart xs first
first_apart xs pages first [] is apart = absurd is
first_apart xs pages first (p ∷ []) is apart = let P : ℕ → Type 0 = λ n. FirstApart xs n in subst P is.0 (record { front = apart.0; back = apart.1.0 })
first_apart xs pages first (p ∷ q ∷ older) is apart = first_apart xs pages first (q ∷ older) is.1 apart.1

-- the commit number is told by equal ones
pub commit_is : (state : LogState) (a b n : ℕ) → a ≡ b → CommitIs state b n → CommitIs state a n
commit_is active a b n same is = is
commit_is committed a b n same is = same ∙ is
commit_is purging a b n same is = same ∙ is

last_is : (state : LogState) (a b : Address) (records : List Entry) → a ≡ b → LastIs state b records → LastIs state a records
last_is active a b records same is = same ∙ is
last_is committed a b records same is = same ∙ is
last_is purging a b records same is = tt

-- the next record to purge is told by equal addresses
pub next_is : (state : LogState) (a b : Address) (next : Option Address) → a ≡ b → NextIs state b next → NextIs state a next
next_is active a b next same is = is
next_is committed a b next same is = same ∙ is
next_is purging a b next same is = same ∙ is

-- a log stays, with all its records, where nothing changes but bytes apart from its spans
pub log_kept : (xs : List Span) (old new : Pages) (log : Log) → SameOutside xs old new → AreApart xs (log_spans log) → IsLog old log → IsLog new log
log_kept xs old new log same apart is =
    let first = first_apart xs old log.page log.parts is.parts apart in
    let page = log.page in
    let part = λ (at size : ℕ) (low : 0 ≤ at) (high : at + size ≤ 67). apart_part xs page 0 67 at size low high first.front in
    record {
      state = field_kept xs old new page 52 1 same (part 52 1 (lit≤ tt) (lit≤ tt)) ∙ is.state;
      trx = field_kept xs old new page 53 6 same (part 53 6 (lit≤ tt) (lit≤ tt)) ∙ is.trx;
      commit = commit_is log.state _ _ log.commit (field_kept xs old new page 59 8 same (part 59 8 (lit≤ tt) (lit≤ tt))) is.commit;
      list = list_kept xs old new (pages_base page) (nodes_in log.parts) same
          (apart_part xs page 79 16_305 79 16 (lit≤ tt) (lit≤ tt) first.back, nodes_apart xs log.parts apart) is.list;
      parts = parts_kept xs old new page log.parts same (bodies_apart xs log.parts apart) is.parts;
      chain = chains_kept xs old new page log.parts same (bodies_apart xs log.parts apart) is.parts is.chain;
      last = last_is log.state _ _ (records_of log) (address_kept xs old new page 95 same (apart_part xs page 79 16_305 95 6 (lit≤ tt) (lit≤ tt) first.back)) is.last;
      next = next_is log.state _ _ log.next (address_kept xs old new page 101 same (apart_part xs page 79 16_305 101 6 (lit≤ tt) (lit≤ tt) first.back)) is.next;
      due = is.due;
      numbered = is.numbered;
    }
