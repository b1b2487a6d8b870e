-- What runs of calls on a disk keep, and when all that was written outlasts a crash.
--     Counts      the disk tells images or not as before, and a fault is the device's and was
--                 counted
--     IsDurable      a crash leaves what a read gives
--     MayTear, CrashLeaves      what a crash in the midst of a write, or of a run of calls, may
--                               leave
--     ReadsOnly      a run of calls that write nothing
use Rattle.std.specs.Prelude.{◌≡◌, ℕ, List, IfSome, Result}
use Rattle.engine_base.specs.Disk.{DiskState, Torn, Only, LeavesOnly}
use Rattle.engine_base.specs.Faults.{HasCause, FailsPlainly}
use Rattle.engine_base.specs.declared.fault.Fault.{Fault}

pub record Counts {T : Type 0} (old new : DiskState) (result : Result T Fault) : Type 0 where
  pub tells : new.tells_images ≡ old.tells_images
  pub cause : HasCause old.faults new.faults result
  pub plain : FailsPlainly result

abbrev pub IsDurable : DiskState → Type 0
IsDurable s = IfSome s.seen (λ file. Only file s.may_leave)

-- an outcome of a crash from before, with a write that may be cut short
abbrev pub MayTear : (List ℕ → Type 0) → ℕ → ℕ → List ℕ → Type 0
MayTear may_leave at n c = (d : List ℕ) × may_leave d × Torn at n d c

-- from a durable disk, a crash at any moment of the run leaves what stands in this relation to the
-- contents at its start
abbrev pub CrashLeaves : DiskState → DiskState → (List ℕ → List ℕ → Type 0) → Type 0
CrashLeaves old new Q = IfSome old.seen
    (λ file. Only file old.may_leave → LeavesOnly old new (Q file))

pub record ReadsOnly (old new : DiskState) : Type 0 where
  pub same : new.seen ≡ old.seen
  pub fewer : (c : List ℕ) → new.may_leave c → old.may_leave c
  pub run : LeavesOnly old new old.may_leave
