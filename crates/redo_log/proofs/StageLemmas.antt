-- The steps of a write behind a gate, of contents and of what a crash may leave.
use Rattle.std.proofs.Common.{inl, inr, ℕ, ◌+◌, ◌<◌, List, [], ◌∷◌, length, Option, Some, None, IfSome, Result, Ok, Err, OnOk, subst, arith}
use Rattle.engine_base.specs.Disk.{DiskState, Torn, Written, Told, Only, LeavesOnly}
use Rattle.file_model.proofs.PartLemmas.{torn_elsewhere}
use Rattle.engine_base.specs.Durable.{MayTear}
use Rattle.engine_base.proofs.Moments.{run_has, run_on}
use Rattle.redo_log.specs.Stages.{AtGate, IsStage, IsOpened}

module _ (gate : ℕ) (bytes : List ℕ) where
  torn_behind : (file c : List ℕ) → Torn (gate + 1) (length bytes) file c → IsStage gate bytes file c
  torn_behind file c torn = inl (torn_elsewhere (gate + 1) (length bytes) file c torn)

  torn_gate : (file mid c : List ℕ) → 0 < length bytes → Written (gate + 1) bytes file mid → Torn gate 1 mid c → AtGate gate bytes file c
  torn_gate file mid c some written torn = record {
    mid = mid;
    behind = torn_elsewhere (gate + 1) (length bytes) file mid written.torn;
    holds = written.holds some;
    other = torn_elsewhere gate 1 mid c torn;
  }

  -- contents
  pub told_one : (o p : Option (List ℕ)) → Told (Torn (gate + 1) (length bytes)) o p → Told (IsStage gate bytes) o p
  told_one None p told = told
  told_one (Some file) None told = told
  told_one (Some file) (Some c) told = torn_behind file c told

  pub told_two : (o p q : Option (List ℕ)) → 0 < length bytes → Told (Written (gate + 1) bytes) o p → Told (Torn gate 1) p q → Told (IsStage gate bytes) o q
  told_two None p q some one two = let P : Option (List ℕ) → Type 0 = λ m. Told (Torn gate 1) m q in subst P one two
  told_two (Some file) None q some one two = absurd one
  told_two (Some file) (Some mid) None some one two = two
  told_two (Some file) (Some mid) (Some c) some one two = inr (torn_gate file mid c some one two)

  pub told_opened : (o p q : Option (List ℕ)) → 0 < length bytes → Told (Written (gate + 1) bytes) o p → Told (Written gate (1 ∷ [])) p q → Told (IsOpened gate bytes) o q
  told_opened None p q some one two = let P : Option (List ℕ) → Type 0 = λ m. Told (Written gate (1 ∷ [])) m q in subst P one two
  told_opened (Some file) None q some one two = absurd one
  told_opened (Some file) (Some mid) None some one two = two
  told_opened (Some file) (Some mid) (Some c) some one two = record { stage = torn_gate file mid c some one two.torn; gate_open = two.holds (omega arith) }

  pub ok_opened : {T E : Type 0} (r : Result T E) (o p q : Option (List ℕ)) → 0 < length bytes → Told (Written (gate + 1) bytes) o p → OnOk r (Told (Written gate (1 ∷ [])) p q) → OnOk r (Told (IsOpened gate bytes) o q)
  ok_opened (Ok x) o p q some one two = told_opened o p q some one two
  ok_opened (Err e) o p q some one two = tt

  -- images
  from_file : (file : List ℕ) (d : DiskState) (at n : ℕ) (c : List ℕ) → Only file d.may_leave → MayTear d.may_leave at n c → Torn at n file c
  from_file file d at n c only (e, left, torn) = let P : List ℕ → Type 0 = λ f. Torn at n f c in subst P (only e left) torn

  pub run_one : (o : Option (List ℕ)) (old new : DiskState) → LeavesOnly old new (MayTear old.may_leave (gate + 1) (length bytes))
      → IfSome o (λ file. Only file old.may_leave → LeavesOnly old new (IsStage gate bytes file))
  run_one None old new run = tt
  run_one (Some file) old new run = λ only. run_has old new (MayTear old.may_leave (gate + 1) (length bytes)) (IsStage gate bytes file) run
      (λ c may. torn_behind file c (from_file file old (gate + 1) (length bytes) c only may))

  pub run_two : (o p : Option (List ℕ)) (old mid new : DiskState) → 0 < length bytes → Told (Written (gate + 1) bytes) o p → IfSome p (λ file. Only file mid.may_leave)
      → LeavesOnly old mid (MayTear old.may_leave (gate + 1) (length bytes)) → LeavesOnly mid new (MayTear mid.may_leave gate 1)
      → IfSome o (λ file. Only file old.may_leave → LeavesOnly old new (IsStage gate bytes file))
  run_two None p old mid new some written durable one two = tt
  run_two (Some file) None old mid new some written durable one two = absurd written
  run_two (Some file) (Some m) old mid new some written durable one two = λ only.
      run_on old mid new (MayTear old.may_leave (gate + 1) (length bytes)) (MayTear mid.may_leave gate 1) (IsStage gate bytes file) one two
      (λ c may. torn_behind file c (from_file file old (gate + 1) (length bytes) c only may))
      (λ c may. inr (torn_gate file m c some written (from_file m mid gate 1 c durable may)))
