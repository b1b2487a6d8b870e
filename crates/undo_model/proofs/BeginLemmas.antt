-- A log without records.
use Rattle.std.proofs.Common.{◌≡◌, ℕ, ◌<◌, [], ◌∷◌, length, refl, arith}
use Rattle.page_model.specs.Pages.{Pages, field, null_address}
use Rattle.page_model.specs.Lists.{IsList}
use Rattle.undo_model.specs.Logs.{IsLog, undo_type, end_field, first_start, state_field, trx_field, last_field, pages_base, node_of}
use Rattle.undo_model.specs.LogSteps.{begun}

-- an undo page with the fields of a log without records, alone in its list, is such a log
pub begun_stands : (pages : Pages) (page trx : ℕ) → page < length pages → field pages page 24 2 ≡ undo_type → end_field pages page ≡ first_start
    → state_field pages page ≡ 1 → trx_field pages page ≡ trx → last_field pages page ≡ null_address
    → IsList pages (pages_base page) (node_of page ∷ []) → IsLog pages (begun page trx)
begun_stands pages page trx there type end state is last list = record {
  state = state;
  trx = is;
  commit = refl;
  list = list;
  parts = (refl, record { there = there; type = type; filled = end; low = omega (arith, end); high = omega (arith, end) });
  chain = tt;
  last = last;
  next = refl;
  due = tt;
  numbered = tt;
}
