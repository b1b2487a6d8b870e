-- What a flush does to the log of a file, and may do to the log that a crash leaves.
use Rattle.std.proofs.Common.{◌≡◌, inl, inr, ⊎_elim, ℕ, ◌+◌, ◌^◌, ◌<◌, ◌≤◌, true, List, [], ◌∷◌, length, All, slice_index, Option, Some, None, IfSome, Result, Ok, Err, OnOk, refl, sym, ap, subst, ◌∙◌, arith}
use Rattle.std.proofs.lemmas.Bool.{true≢false}
use Rattle.engine_base.specs.Disk.{DiskState, Holds, Told, Only, LeavesOnly}
use Rattle.file_model.specs.Sections.{log_bytes, region_place, IsInLimits}
use Rattle.file_model.specs.Changes.{Range}
use Rattle.file_model.specs.Doublewrite.{is_odd}
use Rattle.file_model.specs.Frames.{Group, frames_bytes, IsLoggable}
use Rattle.file_model.specs.Blocks.{LogRead, log_of, block_bytes, block_len, region_room, with_block}
use Rattle.file_model.proofs.PartLemmas.{wider_elsewhere, then_elsewhere, same_file, held_each}
use Rattle.file_model.proofs.BlockLemmas.{length-block}
use Rattle.file_model.proofs.LogImages.{behind_gate, at_gate}
use Rattle.engine_base.proofs.Moments.{started, run_has}
use Rattle.redo_log.specs.Stages.{IsStage, IsOpened}
use Rattle.redo_log.specs.Logs.{LogState, IsLogOf, own_gate, SameBesideBlock, taken, log_with, IsFlushed, MayFlush, Flushes}

with_some : (gs : List Group) → 0 < length gs → (r : LogRead) → with_block r gs ≡ log_with r gs
with_some [] some r = absurd (omega arith)
with_some (g ∷ gs) some r = refl

-- where there are groups, a flush takes the bytes of their block
pub taken_some : (gs : List Group) → 0 < length gs → block_len gs ≡ taken gs
taken_some [] some = absurd (omega arith)
taken_some (g ∷ gs) some = refl

module _ (s : LogState) (limits : IsInLimits s.layout) (few : s.layout.pages ≤ 2 ^ 32) (good : All (IsLoggable s.layout.pages) s.pending) (fits : s.used + block_len s.pending ≤ region_room s.layout) where
  long : 1_048_576 ≤ log_bytes s.layout
  long = omega (arith, limits.small_log)

  size : length (block_bytes s.pending) ≡ 5 + length (frames_bytes s.pending)
  size = length-block s.pending

  in_region : own_gate s + 1 + length (block_bytes s.pending) ≤ region_place s.layout s.region + log_bytes s.layout
  in_region = omega (arith, size, long, fits)

  stage_others : (file c : List ℕ) → IsStage (own_gate s) (block_bytes s.pending) file c → SameBesideBlock s file c
  stage_others file c (inl behind) = wider_elsewhere (Range (own_gate s + 1) (length (block_bytes s.pending))) (Range (own_gate s) (1 + block_len s.pending)) file c (λ i (from, to). (omega arith, omega (arith, size))) behind
  stage_others file c (inr at) =
      then_elsewhere (Range (own_gate s) (1 + block_len s.pending)) file (at.mid) c
      (wider_elsewhere (Range (own_gate s + 1) (length (block_bytes s.pending))) (Range (own_gate s) (1 + block_len s.pending)) file (at.mid) (λ i (from, to). (omega arith, omega (arith, size))) (at.behind))
      (wider_elsewhere (Range (own_gate s) 1) (Range (own_gate s) (1 + block_len s.pending)) (at.mid) c (λ i (from, to). (omega arith, omega arith)) (at.other))

  -- in either step
  pub stage_may : (file c : List ℕ) → 0 < length s.pending → IsLogOf s file → IsStage (own_gate s) (block_bytes s.pending) file c → MayFlush s file c
  stage_may file c some ends (inl behind) = record {
    log = inl (behind_gate s.layout s.region s.used limits file ends c (length (block_bytes s.pending)) behind);
    others = stage_others file c (inl behind);
  }
  stage_may file c some ends (inr at) = record {
    log = ⊎_elim (λ shut. inl (shut.1)) (λ odd. inr (odd.1 ∙ with_some s.pending some (log_of s.layout s.region file)))
        (at_gate s.layout s.region s.used limits file ends s.pending (at.mid) c (length (block_bytes s.pending)) few good in_region (at.behind) (at.holds) (at.other));
    others = stage_others file c (inr at);
  }

  odd_of_one : (c : List ℕ) → Holds c (own_gate s) (1 ∷ []) → is_odd (slice_index c (own_gate s)) ≡ true
  odd_of_one c holds = ap is_odd (ap (slice_index c) (omega arith) ∙ held_each c (1 ∷ []) (own_gate s) 0 holds (omega arith))

  pub stage_opened : (file c : List ℕ) → 0 < length s.pending → IsLogOf s file → IsOpened (own_gate s) (block_bytes s.pending) file c → IsFlushed s file c
  stage_opened file c some ends opened =
      let at = opened.stage in
      let log : log_of s.layout s.region c ≡ with_block (log_of s.layout s.region file) s.pending =
      ⊎_elim (λ shut. absurd (true≢false (sym (odd_of_one c opened.gate_open) ∙ shut.0))) (λ odd. odd.1)
      (at_gate s.layout s.region s.used limits file ends s.pending (at.mid) c (length (block_bytes s.pending)) few good in_region (at.behind) (at.holds) (at.other)) in
      let others = stage_others file c (inr at) in
      let w = ends.within in
      record {
        log = log ∙ with_some s.pending some (log_of s.layout s.region file);
        ends = record {
          within = omega (arith, others.no_shorter);
          at = ap (λ (r : LogRead). r.used) log ∙ ap (λ (k : ℕ). k + block_len s.pending) ends.at ∙ ap (λ (k : ℕ). s.used + k) (taken_some s.pending some);
          closed = ap (λ (r : LogRead). r.early) log;
        };
        others = others;
      }

  -- contents
  pub told_flushed : (o p : Option (List ℕ)) → 0 < length s.pending → Told (IsOpened (own_gate s) (block_bytes s.pending)) o p → Told (Flushes s) o p
  told_flushed None p some told = told
  told_flushed (Some file) None some told = told
  told_flushed (Some file) (Some c) some told = λ ends. stage_opened file c some ends told

  pub ok_flushed : {T E : Type 0} (r : Result T E) (o p : Option (List ℕ)) → 0 < length s.pending → OnOk r (Told (IsOpened (own_gate s) (block_bytes s.pending)) o p) → OnOk r (Told (Flushes s) o p)
  ok_flushed (Ok x) o p some told = told_flushed o p some told
  ok_flushed (Err e) o p some told = tt

  -- images
  pub may_run : (may_leave : List ℕ → Type 0) (o : Option (List ℕ)) (old new : DiskState) → 0 < length s.pending
      → IfSome o (λ file. Only file may_leave → LeavesOnly old new (IsStage (own_gate s) (block_bytes s.pending) file))
      → IfSome o (λ file. IsLogOf s file → Only file may_leave → LeavesOnly old new (MayFlush s file))
  may_run may_leave None old new some run = tt
  may_run may_leave (Some file) old new some run = λ ends only.
      run_has old new (IsStage (own_gate s) (block_bytes s.pending) file) (MayFlush s file) (run only) (λ c stage. stage_may file c some ends stage)

-- ---- where nothing waits

module _ (s : LogState) (none : s.pending ≡ []) where
  same_flushed : (file : List ℕ) → IsLogOf s file → IsFlushed s file file
  same_flushed file ends = record {
    log = ap (log_with (log_of s.layout s.region file)) (sym none);
    ends = record { within = ends.within; at = ends.at ∙ let e : s.used ≡ s.used + taken [] = omega arith in e ∙ ap (λ (gs : List Group). s.used + taken gs) (sym none); closed = ends.closed };
    others = same_file (Range (own_gate s) (1 + block_len s.pending)) file;
  }

  pub told_same : (o : Option (List ℕ)) → Told (Flushes s) o o
  told_same None = refl
  told_same (Some file) = same_flushed file

  same_may : (file : List ℕ) → MayFlush s file file
  same_may file = record { log = inl refl; others = same_file (Range (own_gate s) (1 + block_len s.pending)) file }

  pub same_run : (o : Option (List ℕ)) (old : DiskState)
      → ((c : List ℕ) → old.left_since old.moment c → old.may_leave c)
      → IfSome o (λ file. IsLogOf s file → Only file old.may_leave → LeavesOnly old old (MayFlush s file))
  same_run None old only_now = tt
  same_run (Some file) old only_now = λ ends only.
      started old (MayFlush s file) (λ c left. subst (MayFlush s file) (sym (only c (only_now c left))) (same_may file))

-- ---- as the code has it: the gate and the bytes by their values

module _ (s t : LogState) (gate : ℕ) (bytes : List ℕ) (same : s ≡ t) (limits : IsInLimits s.layout) (few : s.layout.pages ≤ 2 ^ 32) (good : All (IsLoggable s.layout.pages) s.pending)
    (fits : s.used + block_len s.pending ≤ region_room s.layout) (some : 1 ≤ length s.pending) (at : gate ≡ own_gate s) (are : bytes ≡ block_bytes s.pending) where
  pub code_flushed : {T E : Type 0} (r : Result T E) (o p : Option (List ℕ)) → OnOk r (Told (IsOpened gate bytes) o p) → OnOk r (Told (Flushes t) o p)
  code_flushed r o p told =
      let P : LogState → Type 0 = λ u. OnOk r (Told (Flushes u) o p) in
      let Q : ℕ → Type 0 = λ k. OnOk r (Told (IsOpened k (block_bytes s.pending)) o p) in
      let R : List ℕ → Type 0 = λ xs. OnOk r (Told (IsOpened gate xs) o p) in
      subst P same (ok_flushed s limits few good fits r o p (omega arith) (subst Q at (subst R are told)))

  pub code_run : (may_leave : List ℕ → Type 0) (o : Option (List ℕ)) (old new : DiskState)
      → IfSome o (λ file. Only file may_leave → LeavesOnly old new (IsStage gate bytes file))
      → IfSome o (λ file. IsLogOf t file → Only file may_leave → LeavesOnly old new (MayFlush t file))
  code_run may_leave o old new run =
      let P : LogState → Type 0 = λ u. IfSome o (λ file. IsLogOf u file → Only file may_leave → LeavesOnly old new (MayFlush u file)) in
      let Q : ℕ → Type 0 = λ k. IfSome o (λ file. Only file may_leave → LeavesOnly old new (IsStage k (block_bytes s.pending) file)) in
      let R : List ℕ → Type 0 = λ xs. IfSome o (λ file. Only file may_leave → LeavesOnly old new (IsStage gate xs file)) in
      subst P same (may_run s limits few good fits may_leave o old new (omega arith) (subst Q at (subst R are run)))
