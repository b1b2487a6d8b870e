-- The row of a deleted document goes.
use Rattle.std.proofs.Common.{◌≡◌, ◌≢◌, inl, inr, ℕ, ◌+◌, ◌≤◌, ◌==◌, not, Bool, true, false, cond, if◌then◌else◌, nat_eq, List, [], ◌∷◌, ◌++◌, length, Option, Some, None, refl, sym, ap, subst, ◌∙◌, arith}
use Rattle.std.proofs.lemmas.Bool.{cases_eq, eq-eqb, ne_eqb, eqb-true}
use Rattle.std.specs.Option.{option_map}
use Rattle.std.specs.Ordering.{nat_cmp}
use Rattle.std.specs.Cmp.{unsigned_tied}
use Rattle.std.specs.FinMap.Entries.{find-where_key}
use Rattle.indexmap.specs.IndexMap.{get}
use Rattle.page_model.specs.Pages.{Pages, Address}
use Rattle.page_model.specs.Lists.{base_span}
use Rattle.page_model.specs.Counts.{times}
use Rattle.page_model.proofs.CountLemmas.{times_here, few_pages}
use Rattle.page_space.specs.Map.{IsUsed, map_spans}
use Rattle.engine_base.specs.Addresses.{address_of}
use Rattle.store_data.specs.Store.{removed, Row, Store}
use Rattle.undo_model.specs.Data.{Row as RowThere}
use Rattle.undo_model.specs.Rows.{RowPage, IsRows, row_base, row_nodes, row_for, rows_of}
use Rattle.store_model.specs.History.{row_of as row_in}
use Rattle.store_model.specs.Steps.{without_row}
use Rattle.store_model.specs.Events.{with_row_pages}
use Rattle.store_model.specs.Undo.{is_newest, swept}
use Rattle.store_model.proofs.PassGives.{rising_out}
use Rattle.store_parts.specs.Appends.{AreUsed}
use Rattle.store_parts.specs.Stored.{Stored, row_pages}
use Rattle.store_parts.specs.Standing.{mark, IsStoreBut, MovesRows}
use Rattle.store_parts.specs.Shows.{row_of}
use Rattle.store_parts.proofs.CountLemmas.{mark_small}
use Rattle.store_parts.proofs.FrameLemmas.{times-parts}
use Rattle.store_parts.proofs.MoveLemmas.{marked}
use Rattle.store_pages.proofs.RowMoveLemmas.{rows_moved}
use Rattle.store_pages.proofs.NodeLemmas.{off_none}
use Rattle.row_dir.specs.declared.dir.RowDir.{RowDir}
use Rattle.row_dir.specs.Directory.{IsDirectory}
use Rattle.row_dir.specs.RowPages.{CanChange}
use Rattle.row_dir.specs.Removes.{RemovesRow}
use Rattle.row_dir.proofs.FindLemmas.{none_found}
use Rattle.store_steps.specs.Standing.{StandsOn}
use Rattle.purge.specs.Rows.{SweepsRow}

-- ---- rows that stay

-- the row pages are those of the slots
pub rows_back : (there : List RowPage) (new : Pages) (store : Store) → StandsOn there new store
    → StandsOn there new (with_row_pages (row_pages there) store)
rows_back there new store on =
    let pages : store.row_pages ≡ row_pages there = on.is.shows.row_pages ∙ ap row_pages on.slots in
    subst (λ (ns : List ℕ). StandsOn there new (with_row_pages ns store)) pages on

pub rows_at : (there : List RowPage) (pages : Pages) (store : Store) → StandsOn there pages store
    → IsRows pages row_base there
rows_at there pages store on = subst (IsRows pages row_base) on.slots on.is.standing.rows

pub shown_at : (there : List RowPage) (pages : Pages) (store : Store) → StandsOn there pages store
    → (d : ℕ) → row_in store d ≡ option_map row_of (row_for d (rows_of there))
shown_at there pages store on d =
    on.is.shows.rows d
    ∙ ap (λ (ps : List RowPage). option_map row_of (row_for d (rows_of ps))) on.slots

-- the row isn't the one
pub row_stays : (there : List RowPage) (pages : Pages) (store : Store) (a : Address) (trx d : ℕ)
    (dir : RowDir) → StandsOn there pages store → IsDirectory dir there
    → is_newest a trx (row_in store d) ≡ false → SweepsRow a trx d dir store pages
row_stays there pages store a trx d dir on is other = record {
  there = there;
  stands = rows_back there pages (swept removed a trx d store)
      (subst (λ (s : Store). StandsOn there pages s)
      (sym (ap (λ (b : Bool). if b then without_row d store else store) other)) on);
  directory = is;
}

-- ---- row pages that may change

used_rows : (pages : Pages) (rows : List RowPage)
    → ((n : ℕ) → 1 ≤ times n (row_pages rows) → (n ≢ 0) × IsUsed pages n)
    → AreUsed pages (row_nodes rows)
used_rows pages [] used = tt
used_rows pages (p ∷ more) used =
    let u = used p.page (times_here p.page (row_pages more)) in
    (u.0, u.1, used_rows pages more (λ n h. used n (omega (arith, h))))

length_rows : (rows : List RowPage) → length (row_pages rows) ≡ length rows
length_rows [] = refl
length_rows (p ∷ more) = let r = length_rows more in omega (arith, r)

can_change : (pages : Pages) (s : Stored) → IsStoreBut [] pages s → CanChange s.rows pages
can_change pages s st =
    let within : (n : ℕ) → times n (row_pages s.rows) + times n (0 ∷ []) ≤ mark pages n =
    λ n. (let p = times-parts n s in let m = st.marks n in omega (arith, p, m)) in
    let once : (n : ℕ) → times n (row_pages s.rows) ≤ 1 =
    λ n. (let w = within n in let k = mark_small pages n in omega (arith, w, k)) in
    let few = few_pages (length pages) (row_pages s.rows) once
    (λ n h. (marked pages n (let w = within n in omega (arith, w, h))).0) in
    record {
      map = st.map;
      system = (marked pages 0 (let w = within 0 in let h = times_here 0 [] in omega (arith, w, h))).1;
      used = used_rows pages s.rows (λ n h. (
        not_zero n h within,
        (marked pages n (let w = within n in omega (arith, w, h))).1,
      ));
      few = (let e = length_rows s.rows in let m = st.map.size.few in omega (arith, few, e, m));
    }
  where
    not_zero : (n : ℕ) → 1 ≤ times n (row_pages s.rows)
        → ((n : ℕ) → times n (row_pages s.rows) + times n (0 ∷ []) ≤ mark pages n) → n ≢ 0
    not_zero n some within e = absurd (no (let c : times n (row_pages s.rows) ≡ times 0 (row_pages s.rows) =
        ap (λ k. times k (row_pages s.rows)) e in
        let w = within 0 in let h = times_here 0 [] in let k = mark_small pages 0 in
        omega (arith, c, some, w, h, k)))
      where
        no : 1 ≤ 0 → ⊥
        no x = absurd (omega arith)

pub rows_change : (there : List RowPage) (pages : Pages) (store : Store)
    → StandsOn there pages store → CanChange there pages
rows_change there pages store on =
    subst (λ (ps : List RowPage). CanChange ps pages) on.slots
    (can_change pages on.is.stored on.is.standing)

-- ---- the row goes

row_without : (d q : ℕ) (store : Store)
    → row_in (without_row d store) q ≡ cond (not (q == d)) (row_in store q) None
row_without d q store = find-where_key nat_cmp (λ n. not (n == d)) q
    (λ x same. ap (λ n. not (n == d))
    (sym (eqb-true q x (sym (unsigned_tied q x) ∙ ap Rattle.std.specs.Ordering.is_eq same)))) store.rows

without_both : (d q : ℕ) (o : Option RowThere)
    → cond (not (q == d)) (option_map row_of o) None ≡ option_map row_of (cond (d == q) None o)
without_both d q o = elim (cases_eq q d) [
  | inl same ↦ ap (λ (b : Bool). cond (not b) (option_map row_of o) None) (eq-eqb q d same)
      ∙ ap (λ (b : Bool). option_map row_of (cond b None o)) (sym (eq-eqb d q (sym same)))
  | inr other ↦ ap (λ (b : Bool). cond (not b) (option_map row_of o) None) (ne_eqb q d other)
      ∙ ap (λ (b : Bool). option_map row_of (cond b None o))
      (sym (ne_eqb d q (λ e. other (sym e))))
]

pub row_goes : (there : List RowPage) (pages new : Pages) (store : Store) (a : Address) (trx d : ℕ)
    (dir : RowDir) → StandsOn there pages store → is_newest a trx (row_in store d) ≡ true
    → RemovesRow d dir there pages new → SweepsRow a trx d dir store new
row_goes there pages new store a trx d dir on newest r =
    let is = on.is in
    let s = is.stored in
    let moves : MovesRows [] [] s.rows r.after r.spans pages new =
    subst (λ (ps : List RowPage). MovesRows [] [] ps r.after r.spans pages new) (sym on.slots) r.moves in
    let spans = base_span row_base ∷ (map_spans ++ r.spans) in
    let after : StandsOn r.after new (with_row_pages (row_pages r.after) (without_row d store)) = record {
      is = record {
        stored = record s { rows = r.after };
        standing = rows_moved [] [] r.after r.spans pages new s moves is.standing
            (off_none spans s.active is.whole.active_in)
            (off_none spans s.committed is.whole.committed_in);
        whole = record {
          active = is.whole.active;
          committed = is.whole.committed;
          count = is.whole.count;
          active_in = is.whole.active_in;
          committed_in = is.whole.committed_in;
        };
        shows = record {
          next_trx = is.shows.next_trx;
          commits = is.shows.commits;
          purged = is.shows.purged;
          rising = rising_out d store.rows is.shows.rising;
          rows = λ q. row_without d q store
              ∙ ap (λ (o : Option Row). cond (not (q == d)) o None) (shown_at there pages store on q)
              ∙ without_both d q (row_for q (rows_of there)) ∙ ap (option_map row_of) (sym (r.shows q));
          row_pages = refl;
          active = is.shows.active;
          committed = is.shows.committed;
          lobs = is.shows.lobs;
        };
      };
      slots = refl;
    } in
    record {
      there = r.after;
      stands = subst (λ (x : Store). StandsOn r.after new (with_row_pages (row_pages r.after) x))
          (sym (ap (λ (b : Bool). if b then without_row d store else store) newest)) after;
      directory = r.directory;
    }

pub is_in : (dir : RowDir) (there : List RowPage) (d : ℕ) (r : RowThere) → IsDirectory dir there
    → row_for d (rows_of there) ≡ Some r → get nat_eq dir.places d ≢ None
is_in dir there d r is found none =
    absurd (let e : (let o : Option RowThere = None in o) ≡ Some r =
    none_found address_of _ d there (sym none) (is.finds d) ∙ found in cc)
