-- What a new store's file stands for: it is opened with its layout, region 0 is live, no batch is armed, and no log has a block.
use Rattle.std.proofs.Common.{◌≡◌, inl, inr, ℕ, ◌+◌, ◌-◌, ◌%◌, ◌<◌, ◌≤◌, false, [], length, replicate, get_or, slice_index, refl, sym, ap, ◌∙◌, arith}
use Rattle.std.proofs.lemmas.Bool.{and_from, le-leb, true≢false}
use Rattle.std.proofs.lemmas.List.{ext_get_or, append-nil, take_at, length-append, length-replicate, get_or-append_right, get_or-replicate, get_or_past}
use Rattle.std.proofs.lemmas.Bool.{cases_lt}
use Rattle.engine_base.specs.Disk.{Holds}
use Rattle.byteorder.specs.Endian.{big_number, big_bytes}
use Rattle.byteorder.specs.Numbers.{big_number-reads_back}
use Rattle.file_model.specs.declared.layout.Layout.{Layout}
use Rattle.file_model.specs.Sections.{part, page_place, live_place, armed_place, blocks_place, wanted, IsInLimits}
use Rattle.file_model.specs.Control.{control_head, new_file, live_of, opening, opens}
use Rattle.file_model.specs.Doublewrite.{Batch, is_odd, copied, homes, repaired}
use Rattle.file_model.specs.Frames.{applied}
use Rattle.page_model.specs.Pages.{Pages, page_bytes, page_at}
use Rattle.file_model.specs.Blocks.{LogRead, log_end, log_of, blocks_in, blocks_len}
use Rattle.file_model.specs.Recovered.{IsWell, recovered}
use Rattle.file_model.proofs.PartLemmas.{get_or-part, length-part}
use Rattle.file_model.proofs.BatchLemmas.{page_at-homes}
use Rattle.file_model.proofs.BatchImages.{armed_even}
use Rattle.file_model.proofs.BlockLemmas.{shut_reads}
use Rattle.page_device.proofs.OpenLemmas.{is_opened}

in_zeros : (n k : ℕ) → get_or {A = ℕ} (replicate {A = ℕ} n 0) k 0 ≡ 0
in_zeros n k = elim (cases_lt k n) [
  | inl low ↦ get_or-replicate {A = ℕ} n k 0 0 low
  | inr past ↦ get_or_past {X = ℕ} (replicate {A = ℕ} n 0) k 0 (omega (arith, past, length-replicate {A = ℕ} n 0))
]

module _ (l : Layout) (limits : IsInLimits l) where
  head_long : length (control_head l) ≡ 20
  head_long = omega arith

  pub length-new : length (new_file l) ≡ wanted l
  unfolding new_file
  length-new = length-append (control_head l) (replicate (wanted l - 20) 0) ∙ omega (arith, head_long, length-replicate {A = ℕ} (wanted l - 20) 0)

  -- behind the head all is zero
  zero_at : (i : ℕ) → 20 ≤ i → slice_index (new_file l) i ≡ 0
  unfolding new_file
  zero_at i behind =
      get_or-append_right (control_head l) (replicate (wanted l - 20) 0) 20 i 0 head_long behind
      ∙ in_zeros (wanted l - 20) (i - 20)

  pub new_live : live_of (new_file l) ≡ 0
  new_live = ap (λ (n : ℕ). n % 2) (zero_at live_place (omega arith))

  pub new_even : is_odd (slice_index (new_file l) armed_place) ≡ false
  new_even = ap is_odd (zero_at armed_place (omega arith))

  pub new_log : (region : ℕ) → log_of l region (new_file l) ≡ log_end
  new_log region =
      let small = limits.small_log in
      shut_reads l.pages (blocks_in l region (new_file l)) (ap is_odd (get_or-part (new_file l) (blocks_place l region) (blocks_len l) 0 (omega arith) ∙ zero_at (blocks_place l region + 0) (omega arith)))

  new_holds : Holds (new_file l) 0 (control_head l)
  unfolding new_file
  new_holds = record { within = omega (arith, length-append (control_head l) (replicate (wanted l - 20) 0)); each = take_at (control_head l) (replicate (wanted l - 20) 0) (length (control_head l)) refl }

  pub new_opens : opening (new_file l) ≡ opens l
  new_opens =
      let long = length-new in
      let few = limits.max_pages in
      let log = limits.large_log in
      is_opened (new_file l) (control_head l) head_long new_holds (omega (arith, long)) refl 1 refl refl l
      (sym (big_number-reads_back 4 l.pages (big_bytes 4 l.log_kib) (omega (arith, few))))
      (sym (ap (big_number 4) (sym (append-nil (big_bytes 4 l.log_kib))) ∙ big_number-reads_back 4 l.log_kib [] (omega (arith, log))))
      (and_from _ _ (and_from _ _ (and_from _ _ (le-leb _ _ limits.few_pages) (le-leb _ _ few)) (le-leb _ _ limits.small_log)) (le-leb _ _ log))
      (omega (arith, long))

  pub new_well : IsWell l (new_file l)
  new_well = record {
    opened = new_opens;
    ends = ap (λ (r : LogRead). r.early) (new_log (live_of (new_file l)));
    few = λ odd. absurd (true≢false (sym odd ∙ new_even));
    below = λ odd. absurd (true≢false (sym odd ∙ new_even));
  }

  -- a part behind the head
  zero_part : (at n : ℕ) → 20 ≤ at → at + n ≤ wanted l → part (new_file l) at n ≡ replicate n 0
  zero_part at n behind inside =
      let long = length-new in
      let len : length (part (new_file l) at n) ≡ n = length-part (new_file l) at n (omega (arith, long)) in
      ext_get_or {A = ℕ} 0 (part (new_file l) at n) (replicate n 0) (len ∙ sym (length-replicate {A = ℕ} n 0)) (λ k low.
      get_or-part (new_file l) at n k (omega (arith, len, low)) ∙ zero_at (at + k) (omega arith) ∙ sym (in_zeros n k))

  -- nothing is armed and nothing is logged, so what is recovered are the pages at their homes
  new_homes : recovered l (new_file l) ≡ homes l (new_file l)
  new_homes =
      ap (λ (r : LogRead). applied r.groups (repaired l (new_file l))) (new_log (live_of (new_file l)))
      ∙ ap (λ (b : Batch). copied b (homes l (new_file l))) (armed_even l (new_file l) new_even)

  pub new_blank : (n : ℕ) → n < l.pages → page_at (recovered l (new_file l)) n ≡ replicate page_bytes 0
  new_blank n below =
      ap (λ (ps : Pages). page_at ps n) new_homes ∙ page_at-homes l (new_file l) n below
      ∙ zero_part (page_place l n) page_bytes (omega arith) (omega (arith, below))
