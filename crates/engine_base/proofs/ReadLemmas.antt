-- Calls that only read, and what follows them.
use Rattle.std.proofs.Common.{ℕ, List, Option, Some, None, IfSome, sym, subst, ◌∙◌}
use Rattle.engine_base.specs.Disk.{DiskState, Told, Only, Elapses, LeavesOnly, Stays}
use Rattle.engine_base.specs.Durable.{CrashLeaves, ReadsOnly}
use Rattle.engine_base.proofs.Moments.{started, goes_on, run_on, run_has}

-- one call that writes nothing
pub read_one : (old new : DiskState) → ((c : List ℕ) → old.left_since old.moment c → old.may_leave c) → Stays old new → Elapses old new → ReadsOnly old new
read_one old new only_now stays time = record {
  same = stays.reads;
  fewer = λ c left. (stays.leaves c).0 left;
  run = goes_on old old new old.may_leave (started old old.may_leave only_now) time (λ c left. (stays.leaves c).0 left);
}

-- two runs that only read
pub read_then : (a b c : DiskState) → ReadsOnly a b → ReadsOnly b c → ReadsOnly a c
read_then a b c one two = record {
  same = two.same ∙ one.same;
  fewer = λ f left. one.fewer f (two.fewer f left);
  run = run_on a b c a.may_leave b.may_leave a.may_leave one.run two.run (λ f left. left) one.fewer;
}

-- a crash during reads leaves the contents
pub crash_read : (Q : List ℕ → List ℕ → Type 0) → ((a : List ℕ) → Q a a) → (old new : DiskState) → ReadsOnly old new → CrashLeaves old new Q
crash_read Q each old new reads = go old.seen
  where
    go : (o : Option (List ℕ)) → IfSome o (λ file. Only file old.may_leave → LeavesOnly old new (Q file))
    go None = tt
    go (Some file) = λ only. run_has old new old.may_leave (Q file) reads.run (λ c left. subst (Q file) (sym (only c left)) (each file))

-- reads, and then a run of calls
pub crash_behind : (R S : List ℕ → List ℕ → Type 0) → ((a : List ℕ) → S a a) → (old mid new : DiskState) → ReadsOnly old mid → CrashLeaves mid new R
    → IfSome old.seen (λ a. (c : List ℕ) → R a c → S a c) → CrashLeaves old new S
crash_behind R S each old mid new reads run from = go old.seen from (subst T reads.same run)
  where
    T : Option (List ℕ) → Type 0
    T o = IfSome o (λ file. Only file mid.may_leave → LeavesOnly mid new (R file))

    go : (o : Option (List ℕ)) → IfSome o (λ a. (c : List ℕ) → R a c → S a c) → IfSome o (λ file. Only file mid.may_leave → LeavesOnly mid new (R file))
        → IfSome o (λ file. Only file old.may_leave → LeavesOnly old new (S file))
    go None from run = tt
    go (Some file) from run = λ only. run_on old mid new old.may_leave (R file) (S file) reads.run (run (λ c left. only c (reads.fewer c left)))
        (λ c left. subst (S file) (sym (only c left)) (each file)) from

-- the contents behind reads and then a run of calls
pub told_behind : (R S : List ℕ → List ℕ → Type 0) (old mid new : DiskState) → ReadsOnly old mid → Told R mid.seen new.seen → IfSome old.seen (λ a. (c : List ℕ) → R a c → S a c) → Told S old.seen new.seen
told_behind R S old mid new reads told from = go old.seen new.seen from (let T : Option (List ℕ) → Type 0 = λ o. Told R o new.seen in subst T reads.same told)
  where
    go : (o p : Option (List ℕ)) → IfSome o (λ a. (c : List ℕ) → R a c → S a c) → Told R o p → Told S o p
    go None p from told = told
    go (Some a) None from told = told
    go (Some a) (Some b) from told = from b told
