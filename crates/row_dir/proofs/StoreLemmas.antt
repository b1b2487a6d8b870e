-- The row pages of a whole store.
use Rattle.std.proofs.Common.{◌≡◌, ◌≢◌, ℕ, ◌+◌, ◌≤◌, ◌==◌, not, List, [], ◌∷◌, ◌++◌, length, refl, ap, subst, arith}
use Rattle.std.specs.Ordering.{nat_cmp}
use Rattle.std.specs.FinMap.Entries.{put, where_key}
use Rattle.page_model.specs.Pages.{Pages}
use Rattle.page_model.specs.Counts.{times}
use Rattle.page_model.proofs.CountLemmas.{times_here, times-append, few_pages}
use Rattle.page_space.specs.Map.{IsUsed}
use Rattle.store_data.specs.Store.{Row, Store}
use Rattle.undo_model.specs.LogLists.{all_pages}
use Rattle.undo_model.specs.Rows.{RowPage, IsRows, row_base, row_nodes}
use Rattle.store_parts.specs.Appends.{AreUsed}
use Rattle.store_parts.specs.Stored.{Stored, row_pages, pages_of}
use Rattle.store_parts.specs.Standing.{mark, IsStoreBut}
use Rattle.store_parts.specs.Shows.{row_of, IsStore}
use Rattle.store_parts.proofs.CountLemmas.{mark_small}
use Rattle.store_parts.proofs.MoveLemmas.{marked}
use Rattle.store_pages.specs.Changes.{RowsAt}
use Rattle.store_pages.specs.Stands.{RowsStand}
use Rattle.store_pages.proofs.StoreMoveLemmas.{rows_at}
use Rattle.row_dir.specs.RowPages.{CanChange}
use Rattle.row_dir.specs.Plain.{AreRows, ChangesTo}
use Rattle.row_dir.specs.Stores.{RowsIn}
use Rattle.row_dir.proofs.SameLemmas.{one_rows}

-- ---- they are used, each once

length_nodes : (ps : List RowPage) → length (row_nodes ps) ≡ length (row_pages ps)
length_nodes [] = refl
length_nodes (p ∷ ps) = let r = length_nodes ps in omega (arith, r)

length_rows : (ps : List RowPage) → length (row_pages ps) ≡ length ps
length_rows [] = refl
length_rows (p ∷ ps) = let r = length_rows ps in omega (arith, r)

used_nodes : (pages : Pages) (ps : List RowPage) → ((n : ℕ) → 1 ≤ times n (row_pages ps) → (n ≢ 0) × IsUsed pages n) → AreUsed pages (row_nodes ps)
used_nodes pages [] used = tt
used_nodes pages (p ∷ ps) used =
    let u = used p.page (times_here p.page (row_pages ps)) in
    (u.0, u.1, used_nodes pages ps (λ n h. used n (omega (arith, h))))

can_change : (pages : Pages) (s : Stored) → IsStoreBut [] pages s → CanChange s.rows pages
can_change pages s st =
    let few = few_pages (length pages) (row_pages s.rows) once (λ n h. (marked pages n (of_mark n h)).0) in
    record {
      map = st.map;
      system = (marked pages 0 (let m = st.marks 0 in let h = times_here 0 [] in omega (arith, m, h))).1;
      used = used_nodes pages s.rows (λ n h. (not_zero n h, (marked pages n (of_mark n h)).1));
      few = (let e = length_rows s.rows in let m = st.map.size.few in omega (arith, few, e, m));
    }
  where
    within : (n : ℕ) → times n (0 ∷ []) + times n (row_pages s.rows) ≤ mark pages n
    within n = let m = st.marks n in let j = times-append n (row_pages s.rows) (all_pages s.active ++ (all_pages s.committed ++ pages_of s.lobs)) in omega (arith, m, j)

    of_mark : (n : ℕ) → 1 ≤ times n (row_pages s.rows) → 1 ≤ mark pages n
    of_mark n h = let w = within n in omega (arith, w, h)

    once : (n : ℕ) → times n (row_pages s.rows) ≤ 1
    once n = let w = within n in let k = mark_small pages n in omega (arith, w, k)

    none : times 0 (row_pages s.rows) ≡ 0
    none = let w = within 0 in let k = mark_small pages 0 in let h = times_here 0 [] in omega (arith, w, k, h)

    not_zero : (n : ℕ) → 1 ≤ times n (row_pages s.rows) → n ≢ 0
    not_zero n some e = absurd (no (let c : times n (row_pages s.rows) ≡ times 0 (row_pages s.rows) = ap (λ k. times k (row_pages s.rows)) e in omega (arith, none, c, some)))
      where
        no : 1 ≤ 0 → ⊥
        no x = absurd (omega arith)

-- ---- the store, as they change

changed : (old new : Pages) (store : Store) (r : RowsAt old store) (after : List RowPage) (rows : List (ℕ × Row)) → ChangesTo rows r.there after old new
    → IsStore new (record store { rows = rows; row_pages = row_pages after })
changed old new store r after rows c = subst (λ ps. IsStore new (record store { rows = rows; row_pages = row_pages ps })) c.1 (r.changed new rows c.0)

pub rows_in : (old : Pages) (store : Store) (there : List RowPage) → IsStore old store → IsRows old row_base there → RowsIn old store there
rows_in old store there is stands =
    let r = rows_at old store is in
    let are : AreRows store.rows r.there = record { rising = is.shows.rising; shows = r.shows } in
    subst (RowsIn old store) (one_rows old row_base r.there there r.stands stands) (record {
      can = subst (λ ps. CanChange ps old) (one_rows old row_base is.stored.rows r.there is.standing.rows r.stands) (can_change old is.stored is.standing);
      shows = are;
      pages = r.pages;
      put = λ k dir new p. changed old new store r p.after (put nat_cmp k.doc (row_of k.row) store.rows) (p.changes store.rows are);
      removed = λ doc dir new p. changed old new store r p.after (where_key nat_cmp (λ n. not (n == doc)) store.rows) (p.changes store.rows are);
    })

-- ---- as other parts change

pub known_stand : (old new : Pages) (there : List RowPage) → RowsStand old new → IsRows old row_base there → IsRows new row_base there
known_stand old new there stand is = subst (IsRows new row_base) (one_rows old row_base stand.rows there stand.before is) stand.behind
