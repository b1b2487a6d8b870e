-- The plain rows of a store, where row pages change.
use Rattle.std.proofs.Common.{◌≡◌, ◌⊎◌, inl, inr, ℕ, ◌==◌, not, Bool, true, false, cond, List, [], Option, Some, None, refl, sym, ap, ap₂, ◌∙◌}
use Rattle.std.proofs.lemmas.Bool.{cases_Bool, eqb-true, eq-eqb, ne_eqb}
use Rattle.std.proofs.lemmas.Cmp.{nat_cmp_total}
use Rattle.std.specs.Option.{option_map}
use Rattle.std.specs.Ordering.{nat_cmp, is_eq}
use Rattle.std.specs.Cmp.{unsigned_tied}
use Rattle.std.specs.FinMap.Entries.{put, where_key, find-put, find-where_key}
use Rattle.page_model.specs.Pages.{Pages}
use Rattle.page_model.specs.Spans.{Span}
use Rattle.store_data.specs.Store.{Row}
use Rattle.undo_model.specs.Data.{Row as RowThere}
use Rattle.undo_model.specs.Rows.{Keyed, RowPage, IsNew, row_for, rows_of}
use Rattle.store_model.proofs.PassGives.{rising_put, rising_out}
use Rattle.store_parts.specs.Shows.{row_of}
use Rattle.store_parts.specs.Standing.{MovesRows}
use Rattle.row_dir.specs.declared.dir.RowDir.{RowDir}
use Rattle.row_dir.specs.Directory.{IsDirectory}
use Rattle.row_dir.specs.Plain.{AreRows, ChangesTo}
use Rattle.row_dir.specs.Puts.{FillsFirst, OpensLast, PutsRow}
use Rattle.row_dir.specs.Removes.{RemovesRow}

turned : (a b : ℕ) → (a == b) ≡ (b == a)
turned a b = elim (cases_Bool (a == b)) [
  | inl same ↦ same ∙ sym (eq-eqb b a (sym (eqb-true a b same)))
  | inr other ↦ other ∙ sym (ne_eqb b a (λ e. clash (sym other ∙ eq-eqb a b (sym e))))
]
  where
    clash : false ≡ true → ⊥
    clash h = cc

mapped : (b : Bool) (r : RowThere) (o : Option RowThere) → option_map row_of (cond b (Some r) o) ≡ cond b (Some (row_of r)) (option_map row_of o)
mapped true r o = refl
mapped false r o = refl

left_out : (b : Bool) (o : Option RowThere) → cond (not b) (option_map row_of o) None ≡ option_map row_of (cond b None o)
left_out true o = refl
left_out false o = refl

module _ (rows after : List RowPage) (spans : List Span) (old new : Pages) (moves : MovesRows [] [] rows after spans old new) where
  pub put_among : (k : Keyed) → ((d : ℕ) → row_for d (rows_of after) ≡ cond (k.doc == d) (Some k.row) (row_for d (rows_of rows)))
      → (plain : List (ℕ × Row)) → AreRows plain rows → ChangesTo (put nat_cmp k.doc (row_of k.row) plain) rows after old new
  put_among k shows plain are = (
    record {
      after = after;
      spans = spans;
      moves = moves;
      rising = rising_put k.doc (row_of k.row) plain are.rising;
      shows = λ d.
          find-put nat_cmp nat_cmp_total d k.doc (row_of k.row) plain
          ∙ (ap₂ (λ (b : Bool) (o : Option Row). cond b (Some (row_of k.row)) o) (unsigned_tied d k.doc ∙ turned d k.doc) (are.shows d)
          ∙ sym (ap (option_map row_of) (shows d) ∙ mapped (k.doc == d) k.row (row_for d (rows_of rows))));
    },
    refl,
  )

  pub taken_out : (doc : ℕ) → ((d : ℕ) → row_for d (rows_of after) ≡ cond (doc == d) None (row_for d (rows_of rows)))
      → (plain : List (ℕ × Row)) → AreRows plain rows → ChangesTo (where_key nat_cmp (λ n. not (n == doc)) plain) rows after old new
  taken_out doc shows plain are = (
    record {
      after = after;
      spans = spans;
      moves = moves;
      rising = rising_out doc plain are.rising;
      shows = λ d.
          find-where_key nat_cmp (λ n. not (n == doc)) d (λ x same. ap (λ n. not (n == doc)) (sym (eqb-true d x (sym (unsigned_tied d x) ∙ ap is_eq same)))) plain
          ∙ (ap₂ (λ (b : Bool) (o : Option Row). cond (not b) o None) (turned d doc) (are.shows d)
          ∙ (left_out (doc == d) (row_for d (rows_of rows)) ∙ sym (ap (option_map row_of) (shows d))));
    },
    refl,
  )

  pub puts_row : (k : Keyed) (dir : RowDir) → IsDirectory dir after → ((d : ℕ) → row_for d (rows_of after) ≡ cond (k.doc == d) (Some k.row) (row_for d (rows_of rows)))
      → (IsNew k.doc (rows_of rows) → FillsFirst k rows after ⊎ OpensLast k rows after) → PutsRow k dir rows old new
  puts_row k dir directory shows goes = record { after = after; spans = spans; moves = moves; directory = directory; shows = shows; changes = put_among k shows; goes = goes }

  pub removes_row : (doc : ℕ) (dir : RowDir) → IsDirectory dir after → ((d : ℕ) → row_for d (rows_of after) ≡ cond (doc == d) None (row_for d (rows_of rows))) → RemovesRow doc dir rows old new
  removes_row doc dir directory shows = record { after = after; spans = spans; moves = moves; directory = directory; shows = shows; changes = taken_out doc shows }
