-- What a crash may leave of a doublewrite batch in each of its steps.
use Rattle.std.proofs.Common.{◌≡◌, ◌⊎◌, inl, inr, ℕ, ◌-◌, ◌*◌, ◌%◌, ◌<◌, ◌≤◌, Bool, true, false, List, [], length, slice_index, if◌then◌else◌, ap, ap₂, ◌∙◌, arith}
use Rattle.std.proofs.Math.Nat.{mul-le-mul_right}
use Rattle.std.proofs.lemmas.Bool.{cases_Bool}
use Rattle.page_model.specs.Pages.{Pages}
use Rattle.file_model.specs.declared.layout.Layout.{Layout}
use Rattle.file_model.specs.Sections.{live_place, armed_place, count_place, logs_place, log_bytes, blocks_place, pages_place, wanted, IsInLimits}
use Rattle.file_model.specs.Changes.{SameElsewhere, Range}
use Rattle.file_model.specs.Control.{live_of}
use Rattle.file_model.specs.Doublewrite.{Batch, numbers, copied, is_odd, header_batch, armed, homes, repaired, InPages}
use Rattle.file_model.specs.Frames.{applied}
use Rattle.file_model.specs.Blocks.{LogRead, log_in, log_of, blocks_len}
use Rattle.file_model.specs.Recovered.{recovered}
use Rattle.file_model.proofs.PartLemmas.{part_same}
use Rattle.file_model.proofs.BatchLemmas.{copied_same, homes_same, homes_others, header_same}

-- ---- the armed byte

-- where the armed byte is odd, the batch of the header is armed
pub armed_odd : (l : Layout) (file : List ℕ) → is_odd (slice_index file armed_place) ≡ true → armed l file ≡ header_batch l file
armed_odd l file odd = ap (λ (t : Bool). if t then header_batch l file else []) odd

-- where it is even, no batch is
pub armed_even : (l : Layout) (file : List ℕ) → is_odd (slice_index file armed_place) ≡ false → armed l file ≡ []
armed_even l file even = ap (λ (t : Bool). if t then header_batch l file else []) even

module _ (l : Layout) (old c : List ℕ) (whole : wanted l ≤ length old) where
  -- places of the area's other bytes
  area_same : (places : ℕ → Type 0) → SameElsewhere places old c → ((i : ℕ) → count_place ≤ i → i < logs_place → ¬ (places i)) → header_batch l c ≡ header_batch l old
  area_same places same off = header_same l old c (λ a m low high. part_same places old c a m same (omega (arith, whole)) (λ i from to. off i (omega arith) (omega arith)))

  -- header and images are being written while the byte is closed
  pub filling_even : is_odd (slice_index old armed_place) ≡ false → SameElsewhere (Range count_place (logs_place - count_place)) old c → armed l c ≡ []
  filling_even even same = armed_even l c (ap is_odd (same.each armed_place (omega (arith, whole)) (λ (from, to). omega arith)) ∙ even)

  -- the byte alone is being written
  pub byte_torn : SameElsewhere (Range armed_place 1) old c → (armed l c ≡ []) ⊎ (armed l c ≡ header_batch l old)
  byte_torn same =
      let header = area_same (Range armed_place 1) same (λ i low high (from, to). omega arith) in
      elim (cases_Bool (is_odd (slice_index c armed_place))) [
        | inl odd ↦ inr (armed_odd l c odd ∙ header)
        | inr even ↦ inl (armed_even l c even)
      ]

  pub byte_header : SameElsewhere (Range armed_place 1) old c → header_batch l c ≡ header_batch l old
  byte_header same = area_same (Range armed_place 1) same (λ i low high (from, to). omega arith)

  -- nothing of the area, nor of the control block, is among pages
  pub pages_armed : (ns : List ℕ) → SameElsewhere (InPages l ns) old c → armed l c ≡ armed l old
  pages_armed ns same =
      ap₂ (λ (n : ℕ) (b : Batch). if is_odd n then b else []) (same.each armed_place (omega (arith, whole)) (λ (n, named, (from, to)). omega arith))
      (area_same (InPages l ns) same (λ i low high (n, named, (from, to)). omega arith))

  pub pages_odd : (ns : List ℕ) → SameElsewhere (InPages l ns) old c → (slice_index c armed_place ≡ slice_index old armed_place) × (header_batch l c ≡ header_batch l old)
  pages_odd ns same = (same.each armed_place (omega (arith, whole)) (λ (n, named, (from, to)). omega arith), area_same (InPages l ns) same (λ i low high (n, named, (from, to)). omega arith))

  -- While a batch is armed, its pages may be in any state: each image repairs to the same pages.
  pub homing : (batch : Batch) → armed l old ≡ batch → SameElsewhere (InPages l (numbers batch)) old c → repaired l c ≡ copied batch (homes l old)
  homing batch is same =
      ap (λ (b : Batch). copied b (homes l c)) (pages_armed (numbers batch) same ∙ is)
      ∙ copied_same batch (homes l old) (homes l c) (homes_others l (numbers batch) old c whole same)

  -- no page changes where only bytes before the logs do
  pub area_homes : (places : ℕ → Type 0) → SameElsewhere places old c → ((i : ℕ) → places i → i < logs_place) → homes l c ≡ homes l old
  area_homes places same low = homes_same l places old c whole same (λ i from inner. let below = low i inner in omega arith)

  -- ---- what a batch leaves alone: the live region and the logs

  pub live_same : (places : ℕ → Type 0) → SameElsewhere places old c → ¬ (places live_place) → live_of c ≡ live_of old
  live_same places same off = ap (λ (n : ℕ). n % 2) (same.each live_place (omega (arith, whole)) off)

  pub log_same : (places : ℕ → Type 0) (region : ℕ) → IsInLimits l → region ≤ 1 → SameElsewhere places old c → ((i : ℕ) → logs_place ≤ i → i < pages_place l → ¬ (places i)) → log_of l region c ≡ log_of l region old
  log_same places region limits most same off =
      let small = limits.small_log in
      let twice : region * log_bytes l ≤ log_bytes l = most_once region (log_bytes l) most in
      ap (log_in l.pages) (part_same places old c (blocks_place l region) (blocks_len l) same (omega (arith, whole)) (λ i from to. off i (omega arith) (omega arith)))
    where
      most_once : (r n : ℕ) → r ≤ 1 → r * n ≤ n
      most_once r n most = let m : r * n ≤ 1 * n = mul-le-mul_right n most in omega arith

-- An image whose live region and log are the same, and which repairs to the same pages, recovers the same.
pub recovered_same : (l : Layout) (old c : List ℕ) → live_of c ≡ live_of old → log_of l (live_of old) c ≡ log_of l (live_of old) old → repaired l c ≡ repaired l old → recovered l c ≡ recovered l old
recovered_same l old c live log pages =
    ap₂ (λ (r : LogRead) (p : Pages). applied r.groups p) (ap (λ (k : ℕ). log_of l k c) live ∙ log) pages
