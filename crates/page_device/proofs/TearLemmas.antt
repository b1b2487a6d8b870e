-- One write, and what a crash may leave of it.
use Rattle.std.proofs.Common.{ℕ, ◌+◌, List, length, take, drop, ap, arith}
use Rattle.std.proofs.lemmas.List.{take_all}
use Rattle.engine_base.specs.Disk.{DiskState, Torn, Follows, Elapses, LeavesOnly}
use Rattle.engine_base.specs.Durable.{MayTear}
use Rattle.engine_base.proofs.Moments.{started, goes_on}

-- a write may leave the file as it was
pub torn_same : (file : List ℕ) (at n : ℕ) → Torn at n file file
torn_same file at n =
    let whole = take_all (length file) file (omega arith) in
    record { no_shorter = omega arith; no_longer = omega arith; before = ap (take at) whole; after = ap (drop (at + n)) whole }

-- a crash since just before a write leaves what one might have left then, with the write cut short
-- or whole
pub write_made : (old new : DiskState) (at n : ℕ) → ((c : List ℕ) → old.left_since old.moment c → old.may_leave c) → Elapses old new
    → Follows (Torn at n) old.may_leave new.may_leave → LeavesOnly old new (MayTear old.may_leave at n)
write_made old new at n only_now time follows =
    goes_on old old new (MayTear old.may_leave at n)
    (started old (MayTear old.may_leave at n) (λ c left. (c, only_now c left, torn_same c at n))) time follows
