-- How runs of calls of a disk follow one another, where each run ends synced.
use Rattle.std.proofs.Common.{◌≡◌, ℕ, List, Option, Some, None, IfSome, Result, Ok, Err, OnOk, sym, subst}
use Rattle.engine_base.specs.Disk.{DiskState, Torn, Only, Told, LeavesOnly}
use Rattle.engine_base.specs.Durable.{IsDurable, MayTear, CrashLeaves}
use Rattle.engine_base.proofs.Moments.{started, run_has, run_on}

-- ---- contents

-- what a run does to the contents, said more weakly
pub told_map : (P Q : List ℕ → List ℕ → Type 0) → ((a b : List ℕ) → P a b → Q a b) → (o p : Option (List ℕ)) → Told P o p → Told Q o p
told_map P Q from None p told = told
told_map P Q from (Some a) None told = told
told_map P Q from (Some a) (Some b) told = from a b told

-- what two runs do, one behind the other
pub told_then : (P Q R : List ℕ → List ℕ → Type 0) → ((a b c : List ℕ) → P a b → Q b c → R a c) → (o p q : Option (List ℕ)) → Told P o p → Told Q p q → Told R o q
told_then P Q R join None p q one two = let T : Option (List ℕ) → Type 0 = λ m. Told Q m q in subst T one two
told_then P Q R join (Some a) None q one two = absurd one
told_then P Q R join (Some a) (Some b) None one two = two
told_then P Q R join (Some a) (Some b) (Some c) one two = join a b c one two

-- what no run does
pub told_same : (P : List ℕ → List ℕ → Type 0) → ((a : List ℕ) → P a a) → (o p : Option (List ℕ)) → p ≡ o → Told P o p
told_same P each o p same = let T : Option (List ℕ) → Type 0 = λ m. Told P o m in subst T (sym same) (here o)
  where
    here : (o : Option (List ℕ)) → Told P o o
    here None = λ i. None
    here (Some a) = each a

-- what is said of an Ok, said more weakly
pub ok_map : {T E : Type 0} (A B : Type 0) → (A → B) → (r : Result T E) → OnOk r A → OnOk r B
ok_map A B from (Ok x) a = from a
ok_map A B from (Err e) a = tt

-- ---- images

-- what a crash may leave, said more weakly
pub crash_map : (Q R : List ℕ → List ℕ → Type 0) → ((a c : List ℕ) → Q a c → R a c) → (old new : DiskState) → CrashLeaves old new Q → CrashLeaves old new R
crash_map Q R from old new run = go old.seen run
  where
    go : (o : Option (List ℕ)) → IfSome o (λ file. Only file old.may_leave → LeavesOnly old new (Q file)) → IfSome o (λ file. Only file old.may_leave → LeavesOnly old new (R file))
    go None run = tt
    go (Some file) run = λ only. run_has old new (Q file) (R file) (run only) (from file)

-- what follows from each outcome from before
pub crash_any : (S : List ℕ → List ℕ → Type 0) (old new : DiskState) → LeavesOnly old new (λ c. (d : List ℕ) × old.may_leave d × S d c) → CrashLeaves old new S
crash_any S old new run = go old.seen
  where
    go : (o : Option (List ℕ)) → IfSome o (λ file. Only file old.may_leave → LeavesOnly old new (S file))
    go None = tt
    go (Some file) = λ only. run_has old new (λ c. (d : List ℕ) × old.may_leave d × S d c) (S file) run (λ c (d, left, s). let P : List ℕ → Type 0 = λ f. S f c in subst P (only d left) s)

-- a write that may be cut short
pub crash_tear : (at n : ℕ) (old new : DiskState) → LeavesOnly old new (MayTear old.may_leave at n) → CrashLeaves old new (Torn at n)
crash_tear at n = crash_any (Torn at n)

-- a run of calls, and then another
pub crash_then : (P Q R S : List ℕ → List ℕ → Type 0) → ((a c : List ℕ) → Q a c → S a c) → ((a b c : List ℕ) → P a b → R b c → S a c) → (old mid new : DiskState)
    → CrashLeaves old mid Q → Told P old.seen mid.seen → IsDurable mid → CrashLeaves mid new R → CrashLeaves old new S
crash_then P Q R S first second old mid new one told durable two = go old.seen mid.seen one told durable two
  where
    go : (o p : Option (List ℕ)) → IfSome o (λ file. Only file old.may_leave → LeavesOnly old mid (Q file)) → Told P o p → IfSome p (λ file. Only file mid.may_leave)
        → IfSome p (λ file. Only file mid.may_leave → LeavesOnly mid new (R file)) → IfSome o (λ file. Only file old.may_leave → LeavesOnly old new (S file))
    go None p one told durable two = tt
    go (Some a) None one told durable two = absurd told
    go (Some a) (Some b) one told durable two = λ only. run_on old mid new (Q a) (R b) (S a) (one only) (two durable) (first a) (λ c. second a b c told)

-- nothing was called
pub crash_none : (Q : List ℕ → List ℕ → Type 0) → ((a : List ℕ) → Q a a) → (old : DiskState) → ((c : List ℕ) → old.left_since old.moment c → old.may_leave c) → CrashLeaves old old Q
crash_none Q each old only_now = go old.seen
  where
    go : (o : Option (List ℕ)) → IfSome o (λ file. Only file old.may_leave → LeavesOnly old old (Q file))
    go None = tt
    go (Some file) = λ only. started old (Q file) (λ c left. subst (Q file) (sym (only c (only_now c left))) (each file))
