-- The log that a page is of, in a whole store: a used page of a log's type is one's.
use Rattle.std.proofs.Common.{◌≡◌, ◌≢◌, ◌⊎◌, inl, inr, ℕ, zero, suc, ◌+◌, ◌^◌, ◌<◌, ◌≤◌, ◌==◌, ◌||◌, Bool, true, false, cond, List, [], ◌∷◌, ◌++◌, length, Option, Some, refl, sym, ap, ◌∙◌, subst, arith}
use Rattle.std.specs.Option.{is_some}
use Rattle.std.proofs.lemmas.Bool.{eq-eqb, eqb-true, ne_eqb, cases_eq, lt-ltb, or_cases}
use Rattle.page_model.specs.Pages.{Pages, Address, AreWhole, field, null_page}
use Rattle.page_model.specs.Lists.{IsList, last_of, or_null}
use Rattle.page_model.specs.Counts.{one_if, times}
use Rattle.page_model.proofs.CountLemmas.{times-append}
use Rattle.page_space.specs.Map.{bit}
use Rattle.store_data.specs.Store.{Version, Lob, Store}
use Rattle.lob_model.specs.Pieces.{versions}
use Rattle.lob_model.specs.Lobs.{IsChain, AreVersions, IsLob, data_pages, lob_pages}
use Rattle.undo_model.specs.Data.{Part, Log}
use Rattle.undo_model.specs.Logs.{undo_type, node_of, nodes_in, pages_base, owner_field, AreParts, IsLog}
use Rattle.undo_model.specs.LogLists.{pages_in, all_pages}
use Rattle.undo_model.specs.LogSteps.{has_page, log_with}
use Rattle.undo_model.specs.Rows.{RowPage, AreRowPages, row_type}
use Rattle.store_parts.specs.Stored.{row_pages, pages_of}
use Rattle.store_parts.specs.Standing.{mark, AreThere, AreLobs, IsOut}
use Rattle.store_parts.specs.Shows.{AreIn, IsStore}
use Rattle.store_parts.proofs.CountLemmas.{times-joined, page_counts, counts_page}
use Rattle.store_parts.proofs.FrameLemmas.{times-parts}
use Rattle.store_parts.proofs.MoveLemmas.{marked}
use Rattle.file_lists.proofs.LinkLemmas.{before_link}
use Rattle.undo_logs.specs.Purged.{logs_in}
use Rattle.undo_logs.proofs.ForwardLemmas.{nodes_cut}
use Rattle.undo_logs.proofs.PlaceOfLemmas.{parts_from}

-- ---- the log in a list of logs

pub record IsOf (pages : Pages) (n : ℕ) (logs : List Log) : Type 0 where
  pub log : Log
  pub is : log_with n logs ≡ Some log
  pub has : has_page n log.parts ≡ true
  pub stands : IsLog pages log

stands_in : (pages : Pages) (l : Log) → IsOut l ⊎ IsLog pages l → l.parts ≢ [] → IsLog pages l
stands_in pages l (inl out) some = absurd (some out)
stands_in pages l (inr is) some = is

-- a page that a log of the list has leads to one
pub found_of : (pages : Pages) (n : ℕ) (logs : List Log) → AreThere pages logs → AreIn logs → 1 ≤ times n (all_pages logs) → IsOf pages n logs
found_of pages n [] there are some = absurd (omega (arith, some))
found_of pages n (l ∷ ls) there are some = by (has_page n l.parts) refl (λ more. found_of pages n ls there.1 are.1 more)
  where
    by : (b : Bool) → has_page n l.parts ≡ b → (1 ≤ times n (all_pages ls) → IsOf pages n ls) → IsOf pages n (l ∷ ls)
    by true has deeper = record {
      log = l;
      is = ap (λ (b : Bool). cond b (Some l) (log_with n ls)) has;
      has = has;
      stands = stands_in pages l there.0 are.0;
    }
    by false has deeper =
        let none : times n (pages_in l.parts) ≤ 0 = none_here (times n (pages_in l.parts)) refl in
        let a = times-append n (pages_in l.parts) (all_pages ls) in
        let rest = deeper (omega (arith, a, none, some)) in
        record {
          log = rest.log;
          is = ap (λ (b : Bool). cond b (Some l) (log_with n ls)) has ∙ rest.is;
          has = rest.has;
          stands = rest.stands;
        }
      where
        none_here : (k : ℕ) → times n (pages_in l.parts) ≡ k → k ≤ 0
        none_here zero e = omega arith
        none_here (suc k) e = absurd (let t : false ≡ true = sym has ∙ counts_page n l.parts (omega (arith, e)) in cc)

-- and a log that is found has the page
pub with_counts : (n : ℕ) (logs : List Log) → is_some (log_with n logs) ≡ true → 1 ≤ times n (all_pages logs)
with_counts n [] some = absurd (let e : false ≡ true = some in cc)
with_counts n (l ∷ ls) some = by (has_page n l.parts) refl (λ more. with_counts n ls more)
  where
    by : (b : Bool) → has_page n l.parts ≡ b → (is_some (log_with n ls) ≡ true → 1 ≤ times n (all_pages ls)) → 1 ≤ times n (all_pages (l ∷ ls))
    by true has deeper = let c = page_counts n l.parts has in let a = times-append n (pages_in l.parts) (all_pages ls) in omega (arith, c, a)
    by false has deeper =
        let r = deeper (sym (ap (λ (b : Bool). is_some (cond b (Some l) (log_with n ls))) has) ∙ some) in
        let a = times-append n (pages_in l.parts) (all_pages ls) in
        omega (arith, r, a)

there_joined : (pages : Pages) (ls ms : List Log) → AreThere pages ls → AreThere pages ms → AreThere pages (ls ++ ms)
there_joined pages [] ms one two = two
there_joined pages (l ∷ ls) ms one two = (one.0, there_joined pages ls ms one.1 two)

in_joined : (ls ms : List Log) → AreIn ls → AreIn ms → AreIn (ls ++ ms)
in_joined [] ms one two = two
in_joined (l ∷ ls) ms one two = (one.0, in_joined ls ms one.1 two)

-- ---- the types of pages of other parts

rows_type : (pages : Pages) (rows : List RowPage) → AreRowPages pages rows → (n : ℕ) → 1 ≤ times n (row_pages rows) → field pages n 24 2 ≡ row_type
rows_type pages [] are n some = absurd (omega (arith, some))
rows_type pages (p ∷ more) are n some = elim (cases_eq p.page n) [
  | inl same ↦ subst (λ (k : ℕ). field pages k 24 2 ≡ row_type) same (let p1 = are.0 in p1.type)
  | inr other ↦ rows_type pages more are.1 n (let z : one_if (p.page == n) ≡ 0 = ap one_if (ne_eqb p.page n other) in omega (arith, z, some))
]

abbrev IsOther : Pages → ℕ → Type 0
IsOther pages n = 4 ≤ field pages n 24 2

chain_type : (pages : Pages) (page : ℕ) (ns : List ℕ) → IsChain pages page ns → (n : ℕ) → 1 ≤ times n ns → IsOther pages n
chain_type pages page [] chain n some = absurd (omega (arith, some))
chain_type pages page (m ∷ more) chain n some = elim (cases_eq m n) [
  | inl same ↦ subst (IsOther pages) same (let t = chain.1 in let e = t.type' in omega (arith, e))
  | inr other ↦ chain_type pages m more chain.2 n (let z : one_if (m == n) ≡ 0 = ap one_if (ne_eqb m n other) in omega (arith, z, some))
]

data_type : (pages : Pages) (first : ℕ) (xs : List Version) → AreVersions pages first xs → (n : ℕ) → 1 ≤ times n (data_pages first xs) → IsOther pages n
data_type pages first [] are n some = absurd (omega (arith, some))
data_type pages first (x ∷ xs) are n some = elim (cases_eq x.page first) [
  | inl same ↦ data_type pages first xs are.1 n (let e : times n (data_pages first (x ∷ xs)) ≡ times n (data_pages first xs) = ap (λ (b : Bool). times n (cond b (data_pages first xs) (x.page ∷ data_pages first xs))) (eq-eqb x.page first same) in omega (arith, e, some))
  | inr other ↦ away other (λ more. data_type pages first xs are.1 n more)
]
  where
    of_data : x.page ≢ first → IsOther pages x.page
    of_data other = by (let v = are.0 in let d = v.«data» in d.type')
      where
        by : (x.page ≡ first) ⊎ Rattle.lob_model.specs.Lobs.IsPage pages Rattle.lob_model.specs.declared.layout.TheConstants.DATA_TYPE x.page → IsOther pages x.page
        by (inl same) = absurd (other same)
        by (inr is) = let e = is.type' in omega (arith, e)

    away : x.page ≢ first → (1 ≤ times n (data_pages first xs) → IsOther pages n) → IsOther pages n
    away other deeper =
        let e : times n (data_pages first (x ∷ xs)) ≡ one_if (x.page == n) + times n (data_pages first xs) = ap (λ (b : Bool). times n (cond b (data_pages first xs) (x.page ∷ data_pages first xs))) (ne_eqb x.page first other) in
        elim (cases_eq x.page n) [
          | inl here ↦ subst (IsOther pages) here (of_data other)
          | inr far ↦ deeper (let z : one_if (x.page == n) ≡ 0 = ap one_if (ne_eqb x.page n far) in omega (arith, e, z, some))
        ]

lob_type : (pages : Pages) (l : Lob) → IsLob pages l → (n : ℕ) → 1 ≤ times n (lob_pages l) → IsOther pages n
lob_type pages l is n some = elim (cases_eq l.page n) [
  | inl same ↦ subst (IsOther pages) same (let f = is.first in let e = f.type' in omega (arith, e))
  | inr other ↦ (
      let z : one_if (l.page == n) ≡ 0 = ap one_if (ne_eqb l.page n other) in
      let a = times-append n l.index (data_pages l.page (versions l.pieces)) in
      by (times n l.index) refl (omega (arith, z, a, some))
      )
]
  where
    by : (k : ℕ) → times n l.index ≡ k → 1 ≤ k + times n (data_pages l.page (versions l.pieces)) → IsOther pages n
    by zero e rest = data_type pages l.page (versions l.pieces) is.versions n (omega (arith, rest))
    by (suc k) e rest = chain_type pages l.page l.index is.chain n (omega (arith, e))

lobs_type : (pages : Pages) (ls : List Lob) → AreLobs pages ls → (n : ℕ) → 1 ≤ times n (pages_of ls) → IsOther pages n
lobs_type pages [] are n some = absurd (omega (arith, some))
lobs_type pages (l ∷ ls) are n some = by (times n (lob_pages l)) (λ more. lobs_type pages ls are.1 n more) refl (let a = times-append n (lob_pages l) (pages_of ls) in omega (arith, a, some))
  where
    by : (k : ℕ) → (1 ≤ times n (pages_of ls) → IsOther pages n) → times n (lob_pages l) ≡ k → 1 ≤ k + times n (pages_of ls) → IsOther pages n
    by zero deeper e rest = deeper (omega (arith, rest))
    by (suc k) deeper e rest = lob_type pages l are.0 n (omega (arith, e))

part_type : (pages : Pages) (first : ℕ) (parts : List Part) → AreParts pages first parts → (n : ℕ) → has_page n parts ≡ true → field pages n 24 2 ≡ undo_type
part_type pages first [] are n has = absurd are
part_type pages first (p ∷ []) are n has = elim (or_cases (p.page == n) false has) [
  | inl here ↦ subst (λ (k : ℕ). field pages k 24 2 ≡ undo_type) (eqb-true p.page n here) (let q = are.1 in q.type)
  | inr none ↦ absurd (let e : false ≡ true = none in cc)
]
part_type pages first (p ∷ q ∷ older) are n has = elim (or_cases (p.page == n) (has_page n (q ∷ older)) has) [
  | inl here ↦ subst (λ (k : ℕ). field pages k 24 2 ≡ undo_type) (eqb-true p.page n here) (let r = are.0 in r.part.type)
  | inr later ↦ part_type pages first (q ∷ older) are.1 n later
]

-- ---- in a store

module _ (pages : Pages) (store : Store) (is : IsStore pages store) (n : ℕ) where
  joined : times n (all_pages (logs_in is)) ≡ times n (all_pages is.stored.active) + times n (all_pages is.stored.committed)
  joined = times-joined n is.stored.active is.stored.committed

  -- the log that has the page
  pub log_found : 1 ≤ times n (all_pages (logs_in is)) → IsOf pages n (logs_in is)
  log_found some = found_of pages n (logs_in is) (there_joined pages is.stored.active is.stored.committed is.standing.active is.standing.committed) (in_joined is.stored.active is.stored.committed is.whole.active_in is.whole.committed_in) some

  -- a page of a log is used, and of a log's type
  pub log_used : is_some (log_with n (logs_in is)) ≡ true → (bit pages n ≡ 1) × (field pages n 24 2 ≡ undo_type)
  log_used some =
      let c = with_counts n (logs_in is) some in
      let m = is.standing.marks n in
      let p = times-parts n is.stored in
      let j = joined in
      let one : 1 ≤ mark pages n = omega (arith, c, m, p, j) in
      ((marked pages n one).1, of_type)
    where
      of_type : field pages n 24 2 ≡ undo_type
      of_type =
          let f = log_found (with_counts n (logs_in is) some) in
          part_type pages f.log.page f.log.parts (let l = f.stands in l.parts) n f.has

  -- a page of a log is one of the pages
  pub log_there : is_some (log_with n (logs_in is)) ≡ true → n < length pages
  log_there some = (
      let c = with_counts n (logs_in is) some in
      let m = is.standing.marks n in
      let p = times-parts n is.stored in
      let j = joined in
      let one : 1 ≤ mark pages n = omega (arith, c, m, p, j) in
      (marked pages n one).0
      )

  -- a used page of a log's type is one's
  pub used_log : n < length pages → bit pages n ≡ 1 → field pages n 24 2 ≡ undo_type → is_some (log_with n (logs_in is)) ≡ true
  used_log there used type = elim (cases_eq 0 n) [
    | inl same ↦ absurd (no (let t = subst (λ (k : ℕ). field pages k 24 2 ≡ undo_type) (sym same) type in let y = is.standing.system in let e = y.type in omega (arith, t, e)))
    | inr other ↦ (
        let m = is.standing.marks n in
        let one : mark pages n ≡ 1 = ap (λ (b : Bool). cond b (bit pages n) 0) (lt-ltb n (length pages) there) ∙ used in
        let z : one_if (0 == n) ≡ 0 = ap one_if (ne_eqb 0 n other) in
        let p = times-parts n is.stored in
        let j = joined in
        by_rows (times n (row_pages is.stored.rows)) (times n (pages_of is.stored.lobs)) refl refl (omega (arith, m, one, z, p, j))
        )
  ]
    where
      no : 1 ≤ 0 → ⊥
      no x = absurd (omega arith)

      by_rows : (k m : ℕ) → times n (row_pages is.stored.rows) ≡ k → times n (pages_of is.stored.lobs) ≡ m → 1 ≤ k + (times n (all_pages (logs_in is)) + m) → is_some (log_with n (logs_in is)) ≡ true
      by_rows (suc k) m ek em some = absurd (no (let t = rows_type pages is.stored.rows is.standing.rows.each n (omega (arith, ek)) in omega (arith, t, type)))
      by_rows zero (suc m) ek em some = absurd (no (let t = lobs_type pages is.stored.lobs is.standing.lobs n (omega (arith, em)) in omega (arith, t, type)))
      by_rows zero zero ek em some = let f = log_found (omega (arith, some)) in ap is_some f.is

  is_false : (b : Bool) → (b ≡ true → ⊥) → false ≡ b
  is_false true none = absurd (none refl)
  is_false false none = refl

  -- past the pages there is none
  pub none_past : length pages ≤ n → false ≡ is_some (log_with n (logs_in is))
  none_past past = is_false (is_some (log_with n (logs_in is))) (λ some. let t = log_there some in absurd (omega (arith, t, past)))

  -- the log that was found
  pub log_of_page : true ≡ is_some (log_with n (logs_in is)) → IsOf pages n (logs_in is)
  log_of_page some = log_found (with_counts n (logs_in is) (sym some))

  -- what was read of the page says whether it is one of a log: its bit, and its type
  pub not_of_log : (used : Bool) → used ≡ (bit pages n == 1) → used ≡ false → false ≡ is_some (log_with n (logs_in is))
  not_of_log used read none = is_false (is_some (log_with n (logs_in is))) (λ some. let u = log_used some in let e : true ≡ false = sym (eq-eqb (bit pages n) 1 u.0) ∙ sym read ∙ none in cc)

  pub of_log : (used : Bool) (type : ℕ) → n < length pages → used ≡ (bit pages n == 1) → used ≡ true → type ≡ field pages n 24 2 → (type == 3) ≡ is_some (log_with n (logs_in is))
  of_log used type there read some is_type = elim (cases_eq type 3) [
    | inl same ↦ eq-eqb type 3 same ∙ sym (used_log there (eqb-true (bit pages n) 1 (sym read ∙ some)) (sym is_type ∙ same))
    | inr other ↦ ne_eqb type 3 other ∙ is_false (is_some (log_with n (logs_in is))) (λ of. let u = log_used of in absurd (other (is_type ∙ u.1)))
  ]

-- ---- its first page

pub record PartAt (n : ℕ) (parts : List Part) : Type 0 where
  pub newer : List Part
  pub part : Part
  pub older : List Part
  pub is : parts ≡ newer ++ part ∷ older
  pub same : part.page ≡ n

-- a log's part on a page that it has
pub part_at : (n : ℕ) (parts : List Part) → has_page n parts ≡ true → PartAt n parts
part_at n [] has = absurd (let e : false ≡ true = has in cc)
part_at n (p ∷ older) has = elim (cases_eq p.page n) [
  | inl same ↦ record { newer = []; part = p; older = older; is = refl; same = same }
  | inr other ↦ (
      let r = part_at n older (sym (ap (λ (b : Bool). b || has_page n older) (ne_eqb p.page n other)) ∙ has) in
      record { newer = p ∷ r.newer; part = r.part; older = r.older; is = ap (λ (ps : List Part). p ∷ ps) r.is; same = r.same }
      )
]

-- the node of the page before is null exactly in the log's first page; any other tells that one
pub record OwnerIs (pages : Pages) (first n : ℕ) : Type 0 where
  pub alone : field pages n 38 4 ≡ null_page → n ≡ first
  pub other : field pages n 38 4 ≢ null_page → owner_field pages n ≡ first
  pub below : first < length pages

first_below : (pages : Pages) (first : ℕ) (parts : List Part) → AreParts pages first parts → first < length pages
first_below pages first [] are = absurd are
first_below pages first (p ∷ []) are = subst (λ (k : ℕ). k < length pages) are.0 (let q = are.1 in q.there)
first_below pages first (p ∷ q ∷ older) are = first_below pages first (q ∷ older) are.1

last_added : (ns : List Address) (a : Address) → last_of (ns ++ a ∷ []) ≡ Some a
last_added [] a = refl
last_added (n ∷ []) a = refl
last_added (n ∷ m ∷ ns) a = last_added (m ∷ ns) a

pub owner_is : (pages : Pages) (count n : ℕ) (l : Log) → AreWhole pages count → count < 2 ^ 32 → IsLog pages l → has_page n l.parts ≡ true → OwnerIs pages l.page n
owner_is pages count n l whole small log has =
    let at = part_at n l.parts has in
    let are : AreParts pages l.page (at.newer ++ at.part ∷ at.older) = subst (AreParts pages l.page) at.is log.parts in
    let list : IsList pages (pages_base l.page) (nodes_in at.older ++ node_of at.part.page ∷ nodes_in at.newer) = subst (IsList pages (pages_base l.page)) (nodes_cut at.newer at.part at.older) (subst (λ (ps : List Part). IsList pages (pages_base l.page) (nodes_in ps)) at.is log.list) in
    let link = before_link pages (pages_base l.page) (node_of at.part.page) (nodes_in at.older) (nodes_in at.newer) count whole list in
    subst (OwnerIs pages l.page) at.same (by at.part at.older (parts_from pages l.page at.newer at.part at.older are) (ap (λ (a : Address). a.page) link.1))
  where
    few : length pages < 2 ^ 32
    few = let m = whole.many in omega (arith, m, small)

    by : (p : Part) (older : List Part) → AreParts pages l.page (p ∷ older) → field pages p.page 38 4 ≡ (or_null (last_of (nodes_in older))).page → OwnerIs pages l.page p.page
    by p [] are read = record {
      alone = λ e. are.0;
      other = λ e. absurd (e read);
      below = first_below pages l.page (p ∷ []) are;
    }
    by p (q ∷ older) are read =
        let e : field pages p.page 38 4 ≡ q.page = read ∙ ap (λ (o : Option Address). (or_null o).page) (last_added (nodes_in older) (node_of q.page)) in
        record {
          alone = λ none. absurd (no (let b = page_below older are.1 in omega (arith, e, none, b, few)));
          other = λ some. are.0.owner;
          below = first_below pages l.page (p ∷ q ∷ older) are;
        }
      where
        no : 1 ≤ 0 → ⊥
        no x = absurd (omega arith)

        page_below : (xs : List Part) → AreParts pages l.page (q ∷ xs) → q.page < length pages
        page_below [] a = let r = a.1 in r.there
        page_below (x ∷ xs) a = let r = a.0 in r.part.there
