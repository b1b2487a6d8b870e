-- A new system page is a store without rows, logs and LOBs.
use Rattle.std.proofs.Common.{◌≡◌, inl, inr, ℕ, ◌+◌, ◌==◌, [], ◌∷◌, refl, sym, ap, ◌∙◌, arith}
use Rattle.std.proofs.lemmas.Bool.{cases_eq, ne_eqb, eq-eqb}
use Rattle.page_model.specs.Pages.{Pages}
use Rattle.page_model.specs.Counts.{one_if, times}
use Rattle.page_space.specs.Map.{bit}
use Rattle.page_space.specs.System.{MakesSystem}
use Rattle.store_parts.specs.Standing.{mark}
use Rattle.store_parts.specs.Shows.{IsStore, empty_store, empty_stored}
use Rattle.store_parts.proofs.CountLemmas.{mark_small}
use Rattle.store_parts.proofs.MoveLemmas.{mark_at, marked}

marks_new : (old new : Pages) → MakesSystem old new → (n : ℕ) → times n (0 ∷ []) + times n [] ≡ mark new n
marks_new old new is n = elim (cases_eq n 0) [
  | inl same ↦ (
      let z : one_if (0 == n) ≡ 1 = ap one_if (eq-eqb 0 n (sym same)) in
      let some = is.map.size.some in
      let m : mark new n ≡ 1 = mark_at new n (omega (arith, same, some)) ∙ ap (bit new) same ∙ is.used in
      omega (arith, z, m)
      )
  | inr other ↦ (
      let z : one_if (0 == n) ≡ 0 = ap one_if (ne_eqb 0 n (λ e. other (sym e))) in
      let small = mark_small new n in
      elim (cases_eq (mark new n) 0) [
        | inl none ↦ omega (arith, z, none)
        | inr some ↦ (
            let u = marked new n (omega (arith, small, some)) in
            absurd (other (is.alone n (let few = is.map.size.few in let b = u.0 in omega (arith, few, b)) u.1))
            )
      ]
      )
]

pub new_store : (old new : Pages) → MakesSystem old new → IsStore new empty_store
new_store old new is = record {
  stored = empty_stored;
  standing = record {
    system = record {
      type = is.fields.1.1.1.0;
      next_trx = is.fields.1.1.1.1.0;
      commits = is.fields.1.1.1.1.1.0;
      purged = is.fields.1.1.1.1.1.1.0;
    };
    map = is.map;
    rows = record { list = is.row_pages; each = tt; once = tt };
    active_list = is.active_logs;
    committed_list = is.committed_logs;
    active = tt;
    committed = tt;
    lobs = tt;
    marks = marks_new old new is;
  };
  whole = record { active = tt; committed = tt; count = refl; active_in = tt; committed_in = tt };
  shows = record { next_trx = refl; commits = refl; purged = refl; rising = tt; rows = λ d. refl; row_pages = refl; active = refl; committed = refl; lobs = refl };
}
