-- What is recovered from an image that a batch may leave: the same pages, in each step.
use Rattle.std.proofs.Common.{◌≡◌, ◌⊎◌, inl, inr, ⊎_elim, ℕ, ◌%◌, ◌<◌, ◌≤◌, List, length, slice_index, sym, ap, ap₂, subst, ◌∙◌, arith}
use Rattle.std.proofs.Math.Nat.{mod-lt}
use Rattle.page_model.specs.Pages.{Pages}
use Rattle.file_model.specs.declared.layout.Layout.{Layout}
use Rattle.file_model.specs.Sections.{live_place, armed_place, logs_place, pages_place, wanted, IsInLimits}
use Rattle.file_model.specs.Changes.{SameElsewhere, Range}
use Rattle.file_model.specs.Control.{live_of}
use Rattle.file_model.specs.Doublewrite.{Batch, numbers, copied, armed, homes, repaired, InPages}
use Rattle.file_model.specs.Frames.{applied}
use Rattle.file_model.specs.Blocks.{LogRead, log_of}
use Rattle.file_model.specs.Recovered.{recovered}
use Rattle.file_model.proofs.BatchImages.{armed_even, live_same, log_same, recovered_same}
use Rattle.file_model.specs.Recovered.{AreFinal}
use Rattle.file_model.proofs.RedoLemmas.{copied_under}
use Rattle.file_model.proofs.InsideLemmas.{homes_whole, log_fits, log_shape}
use Rattle.doublewrite.specs.Steps.{IsAtRest, IsArmed, IsHome, InArea, MayArm, MayHome, MayRest, InRepair, MayRepair}
use Rattle.doublewrite.proofs.StepLemmas.{is_armed}

module _ (l : Layout) (limits : IsInLimits l) (old c : List ℕ) (whole : wanted l ≤ length old) where
  live_low : live_of old ≤ 1
  live_low = let low : slice_index old live_place % 2 < 2 = mod-lt (slice_index old live_place) (omega arith) in omega (arith, low)

  -- neither live byte nor logs are touched
  module _ (places : ℕ → Type 0) (off : (i : ℕ) → places i → (armed_place ≤ i) × ((i < logs_place) ⊎ (pages_place l ≤ i))) (same : SameElsewhere places old c) where
    live_kept : live_of c ≡ live_of old
    live_kept = live_same l old c whole places same (λ inner. let p = off live_place inner in omega (arith, p.0))

    log_kept : log_of l (live_of old) c ≡ log_of l (live_of old) old
    log_kept = log_same l old c whole places (live_of old) limits live_low same (λ i from to inner. ⊎_elim (λ low. omega (arith, low)) (λ high. omega (arith, high)) (off i inner).1)

    recovers : repaired l c ≡ repaired l old → recovered l c ≡ recovered l old
    recovers pages = recovered_same l old c live_kept log_kept pages

    recovers_to : (p : Pages) → repaired l c ≡ p → recovered l c ≡ applied (log_of l (live_of old) old).groups p
    recovers_to p pages = ap₂ (λ (r : ℕ) (q : Pages). applied (log_of l r c).groups q) live_kept pages ∙ ap (λ (r : LogRead). applied r.groups p) log_kept

  area_off : (i : ℕ) → InArea i → (armed_place ≤ i) × ((i < logs_place) ⊎ (pages_place l ≤ i))
  area_off i (from, to) = (from, inl (omega arith))

  byte_off : (i : ℕ) → Range armed_place 1 i → (armed_place ≤ i) × ((i < logs_place) ⊎ (pages_place l ≤ i))
  byte_off i (from, to) = (from, inl (omega arith))

  pages_off : (ns : List ℕ) (i : ℕ) → InPages l ns i → (armed_place ≤ i) × ((i < logs_place) ⊎ (pages_place l ≤ i))
  pages_off ns i (n, named, (from, to)) = (omega arith, inr (omega arith))

  -- Arming a batch whose images are the recovered pages leaves the same to recover.
  pub arm_recovers : (batch : Batch) → IsAtRest l old → AreFinal batch (recovered l old) → MayArm l batch old c → recovered l c ≡ recovered l old
  arm_recovers batch rest final may =
      let gs = (log_of l (live_of old) old).groups in
      let at_rest : repaired l old ≡ homes l old = ap (λ (b : Batch). copied b (homes l old)) (armed_even l old rest.even) in
      let own : recovered l old ≡ applied gs (homes l old) = ap (applied gs) at_rest in
      ⊎_elim
      (λ none. recovers_to InArea area_off may.others (homes l old) none ∙ sym own)
      (λ all. recovers_to InArea area_off may.others (copied batch (homes l old)) all ∙ copied_under gs batch (homes l old) (log_fits l (live_of old) old (homes l old) (homes_whole l old whole)) (log_shape l (live_of old) old whole) (subst (AreFinal batch) own final) ∙ sym own)
      (may.repairs)

  pub home_recovers : (batch : Batch) → IsArmed l batch old → MayHome l batch old c → recovered l c ≡ recovered l old
  home_recovers batch is may =
      recovers (InPages l (numbers batch)) (pages_off (numbers batch)) may.others (may.repairs ∙ sym (ap (λ (b : Batch). copied b (homes l old)) (is_armed l batch old is)))

  pub rest_recovers : (batch : Batch) → IsHome l batch old → MayRest l old c → recovered l c ≡ recovered l old
  rest_recovers batch is may =
      recovers (Range armed_place 1) byte_off may.others (may.repairs ∙ sym (ap (λ (b : Batch). copied b (homes l old)) (is_armed l batch old is.armed) ∙ is.home))

  -- repair too
  pub repair_recovers : MayRepair l old c → recovered l c ≡ recovered l old
  repair_recovers may =
      recovers (InRepair l (armed l old)) (λ i inner. ⊎_elim (λ byte. byte_off i byte) (λ pages. pages_off (numbers (armed l old)) i pages) inner) may.others may.repairs
