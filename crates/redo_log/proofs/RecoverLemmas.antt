-- What is recovered from an image that a flush may leave: what was flushed, or that and all that waited.
use Rattle.std.proofs.Common.{◌≡◌, ◌⊎◌, inl, inr, ⊎_elim, ℕ, zero, suc, ◌+◌, ◌<◌, ◌≤◌, List, [], ◌∷◌, ◌++◌, length, if◌then◌else◌, refl, sym, ap, ap₂, ◌∙◌, arith}
use Rattle.page_model.specs.Pages.{Pages, all_written}
use Rattle.file_model.specs.declared.layout.Layout.{Layout}
use Rattle.file_model.specs.Sections.{live_place, armed_place, logs_place, log_bytes, region_place, pages_place, wanted, IsInLimits}
use Rattle.file_model.specs.Changes.{SameElsewhere, Range}
use Rattle.file_model.specs.Control.{live_of}
use Rattle.file_model.specs.Doublewrite.{Batch, copied, is_odd, repaired}
use Rattle.file_model.specs.Frames.{Group, applied}
use Rattle.file_model.specs.Blocks.{LogRead, log_of, block_len, region_room}
use Rattle.file_model.specs.Recovered.{recovered}
use Rattle.file_model.proofs.BatchLemmas.{homes_same, header_same}
use Rattle.file_model.proofs.BatchImages.{live_same}
use Rattle.file_model.proofs.PartLemmas.{part_same}
use Rattle.redo_log.specs.Logs.{LogState, own_gate, log_with, MayFlush}
use Rattle.redo_log.specs.Switches.{MaySwitch, MayBeSwitched, InSwitch, other_region}

pub applied_then : (gs hs : List Group) (p : Pages) → applied (gs ++ hs) p ≡ applied hs (applied gs p)
applied_then [] hs p = refl
applied_then (g ∷ gs) hs p = applied_then gs hs (all_written g p)

with_groups : (r : LogRead) (gs : List Group) (p : Pages) → applied (log_with r gs).groups p ≡ applied gs (applied r.groups p)
with_groups r [] p = refl
with_groups r (g ∷ gs) p = applied_then r.groups (g ∷ gs) p

region_behind : (l : Layout) (r : ℕ) → r ≤ 1 → logs_place ≤ region_place l r
region_behind l zero most = omega arith
region_behind l (suc zero) most = omega arith
region_behind l (suc (suc r)) most = absurd (omega arith)

region_before : (l : Layout) (r : ℕ) → r ≤ 1 → region_place l r + log_bytes l ≤ pages_place l
region_before l zero most = omega arith
region_before l (suc zero) most = omega arith
region_before l (suc (suc r)) most = absurd (omega arith)

-- a place of the control block or of the logs
abbrev IsAside : Layout → ℕ → Type 0
IsAside l i = (i < armed_place) ⊎ ((logs_place ≤ i) × (i < pages_place l))

pick : ℕ → Batch → Batch
pick n b = if is_odd n then b else []

-- where only such bytes differ, what is repaired is the same
module _ (l : Layout) (old c : List ℕ) (whole : wanted l ≤ length old) (places : ℕ → Type 0) (aside : (i : ℕ) → places i → IsAside l i) (same : SameElsewhere places old c) where
  in_area : (i : ℕ) → armed_place ≤ i → i < logs_place → ¬ (places i)
  in_area i from to inner = ⊎_elim (λ low. omega (arith, low)) (λ high. omega (arith, high.0)) (aside i inner)

  in_homes : (i : ℕ) → pages_place l ≤ i → ¬ (places i)
  in_homes i from inner = ⊎_elim (λ low. omega (arith, low)) (λ high. omega (arith, high.1)) (aside i inner)

  pub repaired_kept : repaired l c ≡ repaired l old
  unfolding pick
  repaired_kept =
      ap₂ copied
      (ap₂ pick (same.each armed_place (omega (arith, whole)) (in_area armed_place (omega arith) (omega arith)))
      (header_same l old c (λ a m low high. part_same places old c a m same (omega (arith, whole)) (λ i from to. in_area i (omega arith) (omega arith)))))
      (homes_same l places old c whole same (λ i from. in_homes i (omega arith)))

module _ (s : LogState) (limits : IsInLimits s.layout) (most : s.region ≤ 1) (fits : s.used + block_len s.pending ≤ region_room s.layout) (file : List ℕ) (may : MaySwitch s file) where
  flush_places : (i : ℕ) → Range (own_gate s) (1 + block_len s.pending) i → (logs_place ≤ i) × (i < pages_place s.layout)
  flush_places i (from, to) =
      let small = limits.small_log in
      (omega (arith, region_behind s.layout s.region most), omega (arith, region_before s.layout s.region most, fits, small))

  pub flush_recovers : (c : List ℕ) → MayFlush s file c → (recovered s.layout c ≡ recovered s.layout file) ⊎ (recovered s.layout c ≡ applied s.pending (recovered s.layout file))
  flush_recovers c flush =
      let l = s.layout in
      let live : live_of c ≡ s.region =
      live_same l file c may.whole (Range (own_gate s) (1 + block_len s.pending)) flush.others (λ inner. let p = flush_places live_place inner in omega (arith, p.0)) ∙ may.live in
      let pages = repaired_kept l file c may.whole (Range (own_gate s) (1 + block_len s.pending)) (λ i inner. inr (flush_places i inner)) flush.others in
      let own : recovered l file ≡ applied (log_of l s.region file).groups (repaired l file) = ap (λ (r : ℕ). applied (log_of l r file).groups (repaired l file)) may.live in
      let this : recovered l c ≡ applied (log_of l s.region c).groups (repaired l file) = ap₂ (λ (r : ℕ) (p : Pages). applied (log_of l r c).groups p) live pages in
      ⊎_elim
      (λ was. inl (this ∙ ap (λ (r : LogRead). applied r.groups (repaired l file)) was ∙ sym own))
      (λ all. inr (this ∙ ap (λ (r : LogRead). applied r.groups (repaired l file)) all ∙ with_groups (log_of l s.region file) s.pending (repaired l file) ∙ ap (applied s.pending) (sym own)))
      (flush.log)

module _ (s : LogState) (limits : IsInLimits s.layout) (most : s.region ≤ 1) (file : List ℕ) (may : MaySwitch s file) where
  -- a switch where the pages at their places are the recovered ones
  pub switch_recovers : (c : List ℕ) → repaired s.layout file ≡ recovered s.layout file → MayBeSwitched s file c → recovered s.layout c ≡ recovered s.layout file
  switch_recovers c home switch =
      let l = s.layout in
      let pages = repaired_kept l file c may.whole (InSwitch l s.region) aside switch.others in
      let own : recovered l file ≡ applied (log_of l s.region file).groups (repaired l file) = ap (λ (r : ℕ). applied (log_of l r file).groups (repaired l file)) may.live in
      ⊎_elim
      (λ was. ap₂ (λ (r : ℕ) (p : Pages). applied (log_of l r c).groups p) was.0 pages ∙ ap (λ (r : LogRead). applied r.groups (repaired l file)) was.1 ∙ sym own)
      (λ new. ap₂ (λ (r : ℕ) (p : Pages). applied (log_of l r c).groups p) new.0 pages ∙ ap (λ (r : LogRead). applied r.groups (repaired l file)) new.1 ∙ home)
      (switch.choice)
    where
      aside : (i : ℕ) → InSwitch s.layout s.region i → IsAside s.layout i
      aside i (inl (from, to)) = inl (omega arith)
      aside i (inr (from, to)) = inr (omega (arith, region_behind s.layout (other_region s.region) (omega arith)), omega (arith, region_before s.layout (other_region s.region) (omega arith), limits.small_log))
