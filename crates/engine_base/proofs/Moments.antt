-- How a run of calls of a disk goes on: what a crash at any moment of it leaves.
use Rattle.std.proofs.Common.{inl, inr, ⊎_elim, ℕ, List, arith}
use Rattle.engine_base.specs.Disk.{DiskState, Elapses, LeavesOnly}

-- before the first call
pub started : (old : DiskState) (P : List ℕ → Type 0) → ((c : List ℕ) → old.left_since old.moment c → P c) → LeavesOnly old old P
started old P here = record { later = omega arith; each = here; before = λ t c le left. inl left }

-- one call more, after which a crash leaves what has P
pub goes_on : (old mid new : DiskState) (P : List ℕ → Type 0) → LeavesOnly old mid P → Elapses mid new
    → ((c : List ℕ) → new.may_leave c → P c) → LeavesOnly old new P
goes_on old mid new P so_far time here = record {
  later = omega (arith, so_far.later, time.later);
  each = λ c left. ⊎_elim (so_far.each c) (here c) (time.nothing_else old.moment c so_far.later left);
  before = λ t c le left. ⊎_elim (so_far.before t c le) (λ now. inr (here c now)) (time.nothing_else t c (omega (arith, le, so_far.later)) left);
}

-- two runs, one behind the other
pub run_on : (old mid new : DiskState) (P Q R : List ℕ → Type 0) → LeavesOnly old mid P → LeavesOnly mid new Q
    → ((c : List ℕ) → P c → R c) → ((c : List ℕ) → Q c → R c) → LeavesOnly old new R
run_on old mid new P Q R one two from_p from_q = record {
  later = omega (arith, one.later, two.later);
  each = λ c left. ⊎_elim (λ was. from_p c (one.each c was)) (from_q c) (two.before old.moment c one.later left);
  before = λ t c le left. ⊎_elim (λ was. ⊎_elim inl (λ p. inr (from_p c p)) (one.before t c le was)) (λ q. inr (from_q c q)) (two.before t c (omega (arith, le, one.later)) left);
}

-- what has P has Q
pub run_has : (old new : DiskState) (P Q : List ℕ → Type 0) → LeavesOnly old new P → ((c : List ℕ) → P c → Q c) → LeavesOnly old new Q
run_has old new P Q one from_p = record {
  later = one.later;
  each = λ c left. from_p c (one.each c left);
  before = λ t c le left. ⊎_elim inl (λ p. inr (from_p c p)) (one.before t c le left);
}
