use Rattle.std.proofs.Common.{ℕ, ◌≡◌, ◌≤◌, ◌<◌, List, length, slice_index, subst, ◌∙◌}
use Rattle.row_dir.proofs.RoomLemmas.{first_found, all_full, not_zero, none_past}
use Rattle.row_dir.proofs.dir.RowDir.first_open.Goals as goal

pub returns-clause-some : goal.returns-clause-some
returns-clause-some c =
    let r = c.first_above-index.result in
    let from = c.args.self.now.full in
    let Z : List ℕ → Type 0 = λ xs. (i : ℕ) → from ≤ i → i < r → i < length xs → slice_index xs i ≡ 0 in
    let same = c.as_slice.ensures ∙ c.values-rooms.ensures.rest in
    λ full. first_found c.args.self.now.pages.entries from r _ _ c.first_above-index.ensures.low (subst Z same c.first_above-index.ensures.zeros) full
    (not_zero _ c.args.self.now.pages.entries r _ _ same c.first_above-index.ensures.found c.in-Some.ensures.entry) c.in-Some.ensures.entry

pub returns-clause-free : goal.returns-clause-free
returns-clause-free c =
    let same = c.as_slice.ensures ∙ c.values-rooms.ensures.rest in
    not_zero _ c.args.self.now.pages.entries c.first_above-index.result _ _ same c.first_above-index.ensures.found c.in-Some.ensures.entry

pub returns-in_default-clause-none : goal.returns-in_default-clause-none
returns-in_default-clause-none c =
    let r = c.first_above-index.result in
    let from = c.args.self.now.full in
    let Z : List ℕ → Type 0 = λ xs. (i : ℕ) → from ≤ i → i < r → i < length xs → slice_index xs i ≡ 0 in
    let same = c.as_slice.ensures ∙ c.values-rooms.ensures.rest in
    λ full. all_full c.args.self.now.pages.entries from r c.first_above-index.ensures.low (subst Z same c.first_above-index.ensures.zeros) full (none_past c.args.self.now.pages.entries r c.in_default.ensures.entry)
