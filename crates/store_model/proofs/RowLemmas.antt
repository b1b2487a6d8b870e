-- Rows: set, and taken out.
use Rattle.std.proofs.Common.{◌≡◌, ◌≢◌, ℕ, not, ◌==◌, cond, Some, None, refl, sym, ap, ◌∙◌}
use Rattle.std.proofs.lemmas.Bool.{ne_eqb, eq-eqb, eqb-true}
use Rattle.std.specs.Prelude.{unwrap_or}
use Rattle.std.specs.Ordering.{nat_cmp}
use Rattle.std.specs.Cmp.{nat_cmp_total, unsigned_tied}
use Rattle.std.specs.FinMap.Entries.{find-put, find-where_key}
use Rattle.store_data.specs.Store.{Row, Store}
use Rattle.store_model.specs.History.{row_of, row_before, absent_row}
use Rattle.store_model.specs.Steps.{with_row, without_row}

row_of-with : (d q : ℕ) (row : Row) (store : Store) → row_of (with_row d row store) q ≡ cond (q == d) (Some row) (row_of store q)
row_of-with d q row store = find-put nat_cmp nat_cmp_total q d row store.rows ∙ ap (λ b. cond b (Some row) (row_of store q)) (unsigned_tied q d)

row_of-without : (d q : ℕ) (store : Store) → row_of (without_row d store) q ≡ cond (not (q == d)) (row_of store q) None
row_of-without d q store = find-where_key nat_cmp (λ n. not (n == d)) q (λ x same. ap (λ n. not (n == d)) (sym (eqb-true q x (sym (unsigned_tied q x) ∙ ap Rattle.std.specs.Ordering.is_eq same)))) store.rows

-- a document has the row that was put for it
pub row-with_this : (d : ℕ) (row : Row) (store : Store) → row_before (with_row d row store) d ≡ row
row-with_this d row store = ap (λ o. unwrap_or o absent_row) (row_of-with d d row store ∙ ap (λ b. cond b (Some row) (row_of store d)) (eq-eqb d d refl))

-- another document keeps its row where one is put
pub row-with_other : (d q : ℕ) (row : Row) (store : Store) → q ≢ d → row_before (with_row d row store) q ≡ row_before store q
row-with_other d q row store other = ap (λ o. unwrap_or o absent_row) (row_of-with d q row store ∙ ap (λ b. cond b (Some row) (row_of store q)) (ne_eqb q d other))

-- a document whose row is taken out has the absent row
pub row-without_this : (d : ℕ) (store : Store) → row_before (without_row d store) d ≡ absent_row
row-without_this d store = ap (λ o. unwrap_or o absent_row) (row_of-without d d store ∙ ap (λ b. cond (not b) (row_of store d) None) (eq-eqb d d refl))

-- another document keeps its row where one is taken out
pub row-without_other : (d q : ℕ) (store : Store) → q ≢ d → row_before (without_row d store) q ≡ row_before store q
row-without_other d q store other = ap (λ o. unwrap_or o absent_row) (row_of-without d q store ∙ ap (λ b. cond (not b) (row_of store q) None) (ne_eqb q d other))
