-- Pages counted: those of spans, of parts, and the marks of a map.
use Rattle.std.proofs.Common.{◌≡◌, inl, inr, ℕ, ◌+◌, ◌%◌, ◌≤◌, ◌==◌, ◌||◌, Bool, true, false, cond, nat_lt, List, [], ◌∷◌, ◌++◌, length, map, ap, ◌∙◌, arith}
use Rattle.std.proofs.lemmas.Bool.{eq-eqb, ne_eqb, cases_eq, or_cases}
use Rattle.std.proofs.lemmas.Nat.Bits.{bit_at-lt}
use Rattle.page_model.specs.Pages.{Pages, byte}
use Rattle.page_model.specs.Spans.{Span, IsApartFromAll, AreApart}
use Rattle.page_model.specs.Counts.{one_if, times}
use Rattle.page_model.proofs.CountLemmas.{times_here, times-append}
use Rattle.page_space.specs.Map.{bit, place_of}
use Rattle.lob_model.specs.Places.{whole_page}
use Rattle.undo_model.specs.Data.{Part, Log}
use Rattle.undo_model.specs.Logs.{AreParts, part_spans}
use Rattle.undo_model.specs.LogLists.{pages_in, all_pages}
use Rattle.undo_model.specs.LogSteps.{has_page}
use Rattle.undo_model.specs.Rows.{RowPage, page_spans}
use Rattle.store_parts.specs.Stored.{row_pages}
use Rattle.store_parts.specs.Standing.{mark, AreOn}

bit_small : (pages : Pages) (n : ℕ) → bit pages n ≤ 1
bit_small pages n = let b = bit_at-lt (byte pages 0 (place_of n)) (n % 8) in omega (arith, b)

-- the mark of a page is 0 or 1
pub mark_small : (pages : Pages) (n : ℕ) → mark pages n ≤ 1
mark_small pages n = by (nat_lt n (length pages))
  where
    by : (b : Bool) → cond b (bit pages n) 0 ≤ 1
    by true = bit_small pages n
    by false = omega arith

-- ---- spans by the pages that they lie in

-- spans that lie in some pages lie in more of them too
pub on_wider : (ns ms : List ℕ) (ts : List Span) → ((n : ℕ) → times n ns ≤ times n ms) → AreOn ns ts → AreOn ms ts
on_wider ns ms [] more on = tt
on_wider ns ms (t ∷ ts) more on = (let m = more t.page in omega (arith, m, on.0), on_wider ns ms ts more on.1)

-- spans of two lists that lie in some pages lie there joined
pub on_join : (ns : List ℕ) (ss ts : List Span) → AreOn ns ss → AreOn ns ts → AreOn ns (ss ++ ts)
on_join ns [] ts a b = b
on_join ns (s ∷ ss) ts a b = (a.0, on_join ns ss ts a.1 b)

-- spans in other pages than that of a span are apart from it
pub off_page : (ns : List ℕ) (ss : List Span) (t : Span) → AreOn ns ss → times t.page ns ≡ 0 → IsApartFromAll ss t
off_page ns [] t on none = tt
off_page ns (s ∷ ss) t on none = (inl (λ (e : t.page ≡ s.page). absurd (no (let c : times t.page ns ≡ times s.page ns = ap (λ n. times n ns) e in omega (arith, c, none, on.0)))), off_page ns ss t on.1 none)
  where
    no : 1 ≤ 0 → ⊥
    no h = absurd (omega arith)

-- spans in pages that no others lie in are apart from these
pub apart_on : (ns ms : List ℕ) (ss ts : List Span) → ((n : ℕ) → 1 ≤ times n ms → times n ns ≡ 0) → AreOn ns ss → AreOn ms ts → AreApart ss ts
apart_on ns ms ss [] none on at = tt
apart_on ns ms ss (t ∷ ts) none on at = (off_page ns ss t on (none t.page at.0), apart_on ns ms ss ts none on at.1)

-- the spans of whole pages lie in these pages
pub on_pages : (ns : List ℕ) → AreOn ns (map whole_page ns)
on_pages [] = tt
on_pages (n ∷ ns) = (times_here n ns, on_wider ns (n ∷ ns) (map whole_page ns) (λ k. omega arith) (on_pages ns))

-- the spans of row pages lie in these pages
pub on_rows : (rows : List RowPage) → AreOn (row_pages rows) (page_spans rows)
on_rows [] = tt
on_rows (p ∷ more) = (times_here p.page (row_pages more), on_wider (row_pages more) (p.page ∷ row_pages more) (page_spans more) (λ k. omega arith) (on_rows more))

-- the spans of a log's parts lie in the pages of these
pub on_parts : (parts : List Part) → AreOn (pages_in parts) (part_spans parts)
on_parts [] = tt
on_parts (p ∷ []) = (times_here p.page [], (times_here p.page [], tt))
on_parts (p ∷ q ∷ older) = (
  times_here p.page (pages_in (q ∷ older)),
  on_wider (pages_in (q ∷ older)) (p.page ∷ pages_in (q ∷ older)) (part_spans (q ∷ older)) (λ k. omega arith) (on_parts (q ∷ older)),
)

-- a log's first page is one of its pages
pub first_on : (pages : Pages) (first : ℕ) (parts : List Part) → AreParts pages first parts → 1 ≤ times first (pages_in parts)
first_on pages first [] are = absurd are
first_on pages first (p ∷ []) are = let e : one_if (p.page == first) ≡ 1 = ap one_if (eq-eqb p.page first are.0) in omega (arith, e)
first_on pages first (p ∷ q ∷ older) are = let r = first_on pages first (q ∷ older) are.1 in omega (arith, r)

-- the pages of two lists of logs joined count as those of each, added up
pub times-joined : (n : ℕ) (ls ms : List Log) → times n (all_pages (ls ++ ms)) ≡ times n (all_pages ls) + times n (all_pages ms)
times-joined n [] ms = omega arith
times-joined n (l ∷ ls) ms =
    let r = times-joined n ls ms in
    let a = times-append n (pages_in l.parts) (all_pages (ls ++ ms)) in
    let b = times-append n (pages_in l.parts) (all_pages ls) in
    omega (arith, r, a, b)

-- ---- the page is among those of a log

one_here : (b : Bool) → b ≡ true → 1 ≤ one_if b
one_here b is = (let e : one_if b ≡ 1 = ap one_if is in omega (arith, e))

-- a page that a log has is one of its pages
pub page_counts : (n : ℕ) (parts : List Part) → has_page n parts ≡ true → 1 ≤ times n (pages_in parts)
page_counts n [] has = absurd (let e : false ≡ true = has in cc)
page_counts n (p ∷ older) has = elim (or_cases (p.page == n) (has_page n older) has) [
  | inl here ↦ (let o = one_here (p.page == n) here in omega (arith, o))
  | inr later ↦ (let r = page_counts n older later in omega (arith, r))
]

-- and the other way round
pub counts_page : (n : ℕ) (parts : List Part) → 1 ≤ times n (pages_in parts) → has_page n parts ≡ true
counts_page n [] some = absurd (omega (arith, some))
counts_page n (p ∷ older) some = elim (cases_eq p.page n) [
  | inl same ↦ ap (λ (b : Bool). b || has_page n older) (eq-eqb p.page n same)
  | inr other ↦ ap (λ (b : Bool). b || has_page n older) (ne_eqb p.page n other)
      ∙ counts_page n older (let z : one_if (p.page == n) ≡ 0 = ap one_if (ne_eqb p.page n other) in omega (arith, z, some))
]
