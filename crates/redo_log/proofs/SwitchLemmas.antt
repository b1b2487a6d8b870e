-- The two steps of a switch: the other region's beginning, and then the live byte.
use Rattle.std.proofs.Common.{◌≡◌, ◌⊎◌, inl, inr, ⊎_elim, ℕ, zero, suc, ◌+◌, ◌%◌, ◌<◌, ◌≤◌, List, [], ◌∷◌, ◌++◌, length, slice_index, refl, sym, ap, subst, ◌∙◌, arith}
use Rattle.std.proofs.Math.Nat.{mod-lt}
use Rattle.std.proofs.lemmas.List.{append-nil, take_at, length-append, get_or-append-add}
use Rattle.engine_base.specs.Disk.{Torn, Written, Holds}
use Rattle.byteorder.specs.Endian.{big_number, big_bytes}
use Rattle.byteorder.specs.Numbers.{big_number-reads_back, length-bytes_high_first}
use Rattle.file_model.specs.declared.layout.Layout.{Layout}
use Rattle.file_model.specs.Sections.{part, live_place, logs_place, log_bytes, region_place, blocks_place, wanted, IsInLimits}
use Rattle.file_model.specs.Changes.{SameElsewhere, Range}
use Rattle.file_model.specs.Control.{live_of}
use Rattle.file_model.specs.Doublewrite.{is_odd}
use Rattle.file_model.specs.Blocks.{LogRead, log_end, log_in, log_of, blocks_len, blocks_in, start_in}
use Rattle.file_model.proofs.PartLemmas.{torn_elsewhere, wider_elsewhere, then_elsewhere, part_same, held_each, held_part, get_or-part}
use Rattle.file_model.proofs.BlockLemmas.{shut_reads}
use Rattle.page_device.specs.Device.{SetsLive, MaySetLive}
use Rattle.redo_log.specs.Logs.{LogState, lsn_of, taken}
use Rattle.redo_log.specs.Switches.{other_region, region_head, InSwitch, MaySwitch, IsSwitched, MayBeSwitched, Switching, WhileSwitching}

-- the regions lie apart, before the pages
regions_apart : (l : Layout) (r : ℕ) → r ≤ 1 → (region_place l r + log_bytes l ≤ region_place l (other_region r)) ⊎ (region_place l (other_region r) + log_bytes l ≤ region_place l r)
regions_apart l zero most = inl (omega arith)
regions_apart l (suc zero) most = inr (omega arith)
regions_apart l (suc (suc r)) most = absurd (omega arith)

region_inside : (l : Layout) (r : ℕ) → r ≤ 1 → region_place l r + log_bytes l ≤ wanted l
region_inside l zero most = omega arith
region_inside l (suc zero) most = omega arith
region_inside l (suc (suc r)) most = absurd (omega arith)

region_behind : (l : Layout) (r : ℕ) → r ≤ 1 → logs_place ≤ region_place l r
region_behind l zero most = omega arith
region_behind l (suc zero) most = omega arith
region_behind l (suc (suc r)) most = absurd (omega arith)

other_most : (r : ℕ) → other_region r ≤ 1
other_most r = omega arith

head_bytes : (start : ℕ) → part (region_head start) 0 8 ≡ big_bytes 8 start ++ []
unfolding part
head_bytes start = take_at (big_bytes 8 start) (0 ∷ []) 8 (length-bytes_high_first 8 start) ∙ sym (append-nil (big_bytes 8 start))

two_ways : (r n : ℕ) → r ≤ 1 → n < 2 → (n ≡ r) ⊎ (n ≡ other_region r)
two_ways zero zero most low = inl refl
two_ways zero (suc zero) most low = inr refl
two_ways zero (suc (suc n)) most low = absurd (omega arith)
two_ways (suc zero) zero most low = inr refl
two_ways (suc zero) (suc zero) most low = inl refl
two_ways (suc zero) (suc (suc n)) most low = absurd (omega arith)
two_ways (suc (suc r)) n most low = absurd (omega arith)

length-head : (start : ℕ) → length (region_head start) ≡ 9
length-head start = omega (arith, length-append (big_bytes 8 start) (0 ∷ []), length-bytes_high_first 8 start)

-- a log none of whose places is among those
region_same : (l : Layout) (places : ℕ → Type 0) (r : ℕ) (old new : List ℕ) → r ≤ 1 → 9 ≤ log_bytes l → wanted l ≤ length old → SameElsewhere places old new
    → ((i : ℕ) → region_place l r ≤ i → i < region_place l r + log_bytes l → ¬ (places i)) → log_of l r new ≡ log_of l r old
region_same l places r old new most long whole same off =
    let inside = region_inside l r most in
    ap (log_in l.pages) (part_same places old new (blocks_place l r) (blocks_len l) same (omega (arith, whole)) (λ i from to. off i (omega arith) (omega arith)))

module _ (s : LogState) (limits : IsInLimits s.layout) (most : s.region ≤ 1) where
  abbrev l : Layout
  l = s.layout

  abbrev other : ℕ
  other = other_region s.region

  long : 1_048_576 ≤ log_bytes l
  long = omega (arith, limits.small_log)

  in_head : (i : ℕ) → Range (region_place l other) 9 i → InSwitch l s.region i
  in_head i within = inr within

  in_live : (i : ℕ) → Range live_place 1 i → InSwitch l s.region i
  in_live i within = inl within

  -- neither step touches the region that was live
  own_same : (old c : List ℕ) → wanted l ≤ length old → SameElsewhere (InSwitch l s.region) old c → log_of l s.region c ≡ log_of l s.region old
  own_same old c whole same =
      region_same l (InSwitch l s.region) s.region old c most (omega (arith, long)) whole same (λ i from to inner. ⊎_elim (λ live. in_control i from live) (λ head. in_other i from to head) inner)
    where
      in_control : (i : ℕ) → region_place l s.region ≤ i → ¬ (Range live_place 1 i)
      in_control i from (low, high) = let behind = region_behind l s.region most in omega arith

      in_other : (i : ℕ) → region_place l s.region ≤ i → i < region_place l s.region + log_bytes l → ¬ (Range (region_place l other) 9 i)
      in_other i from to (low, high) = ⊎_elim (λ before. omega (arith, before, long)) (λ behind. omega (arith, behind, long)) (regions_apart l s.region most)

  -- the first step
  pub first_torn : (old c : List ℕ) → Torn (region_place l other) 9 old c → WhileSwitching s old c
  first_torn old c torn may =
      let head = torn_elsewhere (region_place l other) 9 old c torn in
      let others = wider_elsewhere (Range (region_place l other) 9) (InSwitch l s.region) old c in_head head in
      let behind = region_behind l other (other_most s.region) in
      record {
        choice = inl (ap (λ (n : ℕ). n % 2) (head.each live_place (omega (arith, may.whole)) (λ (low, high). omega arith)) ∙ may.live, own_same old c may.whole others);
        others = others;
      }

  -- a region that begins with a closed gate has no blocks
  head_empty : (file : List ℕ) → wanted l ≤ length file → Holds file (region_place l other) (region_head (lsn_of s)) → log_of l other file ≡ log_end
  head_empty file whole holds =
      let eight = length-bytes_high_first 8 (lsn_of s) in
      let gate : slice_index file (blocks_place l other) ≡ 0 =
      held_each file (region_head (lsn_of s)) (region_place l other) 8 holds (omega (arith, length-head (lsn_of s)))
      ∙ ap (slice_index (region_head (lsn_of s))) (let e : 8 ≡ length (big_bytes 8 (lsn_of s)) + 0 = omega (arith, eight) in e) ∙ get_or-append-add (big_bytes 8 (lsn_of s)) (0 ∷ []) 0 0 in
      shut_reads l.pages (blocks_in l other file) (ap is_odd (get_or-part file (blocks_place l other) (blocks_len l) 0 (omega (arith, long)) ∙ ap (slice_index file) (omega arith) ∙ gate))

  head_start : (file : List ℕ) → Holds file (region_place l other) (region_head (lsn_of s)) → start_in l other file ≡ lsn_of s
  head_start file holds =
      let eight = length-bytes_high_first 8 (lsn_of s) in
      let bytes : part file (region_place l other) 8 ≡ part (region_head (lsn_of s)) 0 8 = ap (λ (k : ℕ). part file k 8) (omega arith) ∙ held_part file (region_head (lsn_of s)) (region_place l other) 0 8 holds (omega (arith, length-head (lsn_of s))) in
      ap (big_number 8) (bytes ∙ head_bytes (lsn_of s))
      ∙ big_number-reads_back 8 (lsn_of s) [] (mod-lt (s.start + (s.used + taken s.pending)) (omega arith))

  -- the second step
  module _ (old mid c : List ℕ) (may : MaySwitch s old) (first : Written (region_place l other) (region_head (lsn_of s)) old mid) (live : MaySetLive mid c) where
    head : SameElsewhere (Range (region_place l other) 9) old mid
    head = let P : ℕ → Type 0 = λ n. SameElsewhere (Range (region_place l other) n) old mid in subst P (length-head (lsn_of s)) (torn_elsewhere (region_place l other) (length (region_head (lsn_of s))) old mid first.torn)

    others : SameElsewhere (InSwitch l s.region) old c
    others = then_elsewhere (InSwitch l s.region) old mid c (wider_elsewhere (Range (region_place l other) 9) (InSwitch l s.region) old mid in_head head) (wider_elsewhere (Range live_place 1) (InSwitch l s.region) mid c in_live live)

    holds : Holds mid (region_place l other) (region_head (lsn_of s))
    holds = first.holds (omega (arith, length-head (lsn_of s)))

    whole : wanted l ≤ length mid
    whole = omega (arith, may.whole, head.no_shorter)

    other_same : log_of l other c ≡ log_end
    other_same =
        region_same l (Range live_place 1) other mid c (other_most s.region) (omega (arith, long)) whole live (λ i from to (low, high). let behind = region_behind l other (other_most s.region) in omega arith)
        ∙ head_empty mid whole holds

    pub second_torn : MayBeSwitched s old c
    second_torn = record {
      choice = ⊎_elim (λ own. inl (own, own_same old c may.whole others)) (λ new. inr (new, other_same)) (two_ways s.region (live_of c) most (mod-lt (slice_index c live_place) (omega arith)));
      others = others;
    }

    pub second_done : live_of c ≡ other → IsSwitched s old c
    second_done is = record {
      live = is;
      empty = other_same;
      ends = record { within = omega (arith, whole, live.no_shorter, region_inside l other (other_most s.region)); at = ap (λ (r : LogRead). r.used) other_same; closed = ap (λ (r : LogRead). r.early) other_same };
      start = ap (big_number 8) (part_same (Range live_place 1) mid c (region_place l other) 8 live (omega (arith, whole, long, region_inside l other (other_most s.region))) (λ i from to (low, high). let behind = region_behind l other (other_most s.region) in omega arith)) ∙ head_start mid holds;
      others = others;
    }

  pub switching_second : (a b c : List ℕ) → Written (region_place l other) (region_head (lsn_of s)) a b → MaySetLive b c → WhileSwitching s a c
  switching_second a b c first live may = second_torn a b c may first live

  pub switching_done : (a b c : List ℕ) → Written (region_place l other) (region_head (lsn_of s)) a b → SetsLive other b c → Switching s a c
  switching_done a b c first set may = second_done a b c may first set.others set.live

  -- as the code has it
  module _ (at region : ℕ) (bytes : List ℕ) (place : at ≡ region_place l region) (which : region ≡ other) (are : bytes ≡ region_head (lsn_of s)) where
    at_is : at ≡ region_place l other
    at_is = place ∙ ap (region_place l) which

    pub code_torn : (a c : List ℕ) → Torn at (length bytes) a c → WhileSwitching s a c
    code_torn a c torn =
        let P : ℕ → Type 0 = λ k. Torn k (length bytes) a c in
        let Q : ℕ → Type 0 = λ n. Torn (region_place l other) n a c in
        first_torn a c (subst Q (ap length are ∙ length-head (lsn_of s)) (subst P at_is torn))

    first_is : (a b : List ℕ) → Written at bytes a b → Written (region_place l other) (region_head (lsn_of s)) a b
    first_is a b written =
        let P : ℕ → Type 0 = λ k. Written k bytes a b in
        let Q : List ℕ → Type 0 = λ xs. Written (region_place l other) xs a b in
        subst Q are (subst P at_is written)

    pub code_second : (a b c : List ℕ) → Written at bytes a b → MaySetLive b c → WhileSwitching s a c
    code_second a b c written live = switching_second a b c (first_is a b written) live

    pub code_done : (a b c : List ℕ) → Written at bytes a b → SetsLive region b c → Switching s a c
    code_done a b c written set = switching_done a b c (first_is a b written) (subst (λ (r : ℕ). SetsLive r b c) which set)
