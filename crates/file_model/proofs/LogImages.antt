-- What a crash may leave of a log region while a block is written behind its closed gate, and while that gate is opened.
use Rattle.std.proofs.Common.{◌≡◌, ◌⊎◌, inl, inr, ℕ, ◌+◌, ◌-◌, ◌^◌, ◌<◌, ◌≤◌, true, false, List, length, take, drop, All, slice_index, refl, sym, ap, ◌∙◌, arith}
use Rattle.std.proofs.lemmas.Bool.{cases_Bool}
use Rattle.std.proofs.lemmas.List.{take-take, drop-take, drop-drop}
use Rattle.engine_base.specs.Disk.{Holds}
use Rattle.file_model.specs.declared.layout.Layout.{Layout}
use Rattle.file_model.specs.Sections.{part, log_bytes, region_place, blocks_place, IsInLimits}
use Rattle.file_model.specs.Changes.{SameElsewhere, Range}
use Rattle.file_model.specs.Doublewrite.{is_odd}
use Rattle.file_model.specs.Frames.{Group, IsLoggable}
use Rattle.file_model.specs.Blocks.{log_in, log_of, blocks_in, blocks_len, block_bytes, EndsAt, gate_place, with_block}
use Rattle.file_model.proofs.PartLemmas.{get_or-part, length-part, part-part, part_beside, held_part, held_whole, part_holds, part_whole}
use Rattle.file_model.proofs.LogLemmas.{followed, log_after}
use Rattle.file_model.proofs.BlockLemmas.{gate_closed, gate_within, shut_reads, followed_end, open_reads, length-block}

take-part : (file : List ℕ) (at n u : ℕ) → u ≤ n → take u (part file at n) ≡ part file at u
unfolding part
take-part file at n u low = take-take u n (drop at file) low

drop-part : (file : List ℕ) (at n u : ℕ) → u ≤ n → drop u (part file at n) ≡ part file (at + u) (n - u)
unfolding part
drop-part file at n u low =
    let whole : n ≡ u + (n - u) = omega arith in
    ap (λ (k : ℕ). drop u (take k (drop at file))) whole ∙ drop-take u (n - u) (drop at file) ∙ ap (take (n - u)) (drop-drop u at file)

module _ (l : Layout) (region used : ℕ) (limits : IsInLimits l) where
  abbrev gate : ℕ
  gate = gate_place l region used

  abbrev end : ℕ
  end = region_place l region + log_bytes l

  long : 1_048_576 ≤ log_bytes l
  long = omega (arith, limits.small_log)

  -- a file whose log ends there
  module _ (file : List ℕ) (ends : EndsAt l region used file) where
    room : used < blocks_len l
    unfolding log_in
    room =
        let w = ends.within in
        let len = length-part file (blocks_place l region) (blocks_len l) (omega (arith, long)) in
        let b = gate_within (length (blocks_in l region file)) l.pages (log_of l region file) (blocks_in l region file) (omega (arith, long)) (omega arith) refl ends.closed in
        omega (arith, ends.at)

    -- its last gate is closed
    shut : is_odd (slice_index file gate) ≡ false
    unfolding log_in
    shut =
        let here : slice_index (blocks_in l region file) (log_of l region file).used ≡ slice_index file gate =
        ap (slice_index (blocks_in l region file)) ends.at ∙ get_or-part file (blocks_place l region) (blocks_len l) used room in
        sym (ap is_odd here) ∙ gate_closed (length (blocks_in l region file)) l.pages (log_of l region file) (blocks_in l region file) (omega arith) refl ends.closed

    -- a file with the same bytes before that gate is read the same up to it
    pub same_before : (c : List ℕ) → length file ≤ length c → part c (blocks_place l region) used ≡ part file (blocks_place l region) used
        → log_of l region c ≡ followed (log_of l region file) (log_in l.pages (part c gate (blocks_len l - used)))
    unfolding log_in
    same_before c longer same =
        let w = ends.within in
        let low = room in
        let at = ends.at in
        let u = (log_of l region file).used in
        let len = length-part c (blocks_place l region) (blocks_len l) (omega (arith, long)) in
        let front : take u (blocks_in l region c) ≡ take u (blocks_in l region file) =
        ap (λ (k : ℕ). take k (blocks_in l region c)) at ∙ take-part c (blocks_place l region) (blocks_len l) used (omega arith) ∙ same
        ∙ sym (take-part file (blocks_place l region) (blocks_len l) used (omega arith)) ∙ ap (λ (k : ℕ). take k (blocks_in l region file)) (sym at) in
        log_after (length (blocks_in l region file)) l.pages (log_of l region file) (blocks_in l region file) (blocks_in l region c) (omega arith) refl ends.closed front (omega arith)
        ∙ ap (λ (k : ℕ). followed (log_of l region file) (log_in l.pages (drop k (blocks_in l region c)))) at
        ∙ ap (λ (xs : List ℕ). followed (log_of l region file) (log_in l.pages xs)) (drop-part c (blocks_place l region) (blocks_len l) used (omega arith))

    head : (c : List ℕ) → slice_index (part c gate (blocks_len l - used)) 0 ≡ slice_index c gate
    head c = let low = room in get_or-part c gate (blocks_len l - used) 0 (omega arith) ∙ ap (slice_index c) (omega arith)

    -- where that gate is closed, nothing behind it counts
    pub closed_same : (c : List ℕ) → length file ≤ length c → part c (blocks_place l region) used ≡ part file (blocks_place l region) used → is_odd (slice_index c gate) ≡ false
        → log_of l region c ≡ log_of l region file
    closed_same c longer same closed =
        same_before c longer same ∙ ap (followed (log_of l region file)) (shut_reads l.pages (part c gate (blocks_len l - used)) (ap is_odd (head c) ∙ closed)) ∙ followed_end (log_of l region file) ends.closed

    -- where it is open and the block stands behind it, all of the block counts
    pub opened_more : (gs : List Group) (c : List ℕ) → l.pages ≤ 2 ^ 32 → All (IsLoggable l.pages) gs → gate + 1 + length (block_bytes gs) ≤ end
        → length file ≤ length c → part c (blocks_place l region) used ≡ part file (blocks_place l region) used → is_odd (slice_index c gate) ≡ true
        → Holds c (gate + 1) (block_bytes gs) → log_of l region c ≡ with_block (log_of l region file) gs
    opened_more gs c few good fits longer same odd holds =
        let low = room in
        let w = ends.within in
        let xs = part c gate (blocks_len l - used) in
        let len : length xs ≡ blocks_len l - used = length-part c gate (blocks_len l - used) (omega (arith, long)) in
        let all = length-block gs in
        let m = length (block_bytes gs) in
        let large = limits.large_log in
        let body : part xs 1 m ≡ block_bytes gs =
        part-part c gate (blocks_len l - used) 1 m (omega (arith, long)) (omega (arith, long))
        ∙ ap (λ (k : ℕ). part c k m) (omega arith) ∙ held_part c (block_bytes gs) (gate + 1) 0 m holds (omega arith) ∙ part_whole (block_bytes gs) in
        same_before c longer same
        ∙ ap (followed (log_of l region file)) (open_reads l.pages gs xs few good (omega (arith, long)) (ap is_odd (head c) ∙ odd) (omega (arith, long)) body)

    -- bytes written behind the gate leave the log as it was, also where the write is cut short
    pub behind_gate : (c : List ℕ) (n : ℕ) → SameElsewhere (Range (gate + 1) n) file c → log_of l region c ≡ log_of l region file
    behind_gate c n other =
        let w = ends.within in
        let low = room in
        closed_same c other.no_shorter
        (part_beside (gate + 1) n file c (blocks_place l region) used other (omega (arith, long)) (inl (omega arith)))
        (ap is_odd (other.each gate (omega (arith, long)) (λ within. omega (arith, within.0))) ∙ shut)

    -- Whatever lands on the gate, the log is as it was, or it has all of the block.
    pub at_gate : (gs : List Group) (mid c : List ℕ) (n : ℕ) → l.pages ≤ 2 ^ 32 → All (IsLoggable l.pages) gs → gate + 1 + length (block_bytes gs) ≤ end
        → SameElsewhere (Range (gate + 1) n) file mid → Holds mid (gate + 1) (block_bytes gs) → SameElsewhere (Range gate 1) mid c
        → ((is_odd (slice_index c gate) ≡ false) × (log_of l region c ≡ log_of l region file)) ⊎ ((is_odd (slice_index c gate) ≡ true) × (log_of l region c ≡ with_block (log_of l region file) gs))
    at_gate gs mid c n few good fits one holds two =
        let w = ends.within in
        let low = room in
        let in_mid = one.no_shorter in
        let longer : length file ≤ length c = omega (arith, one.no_shorter, two.no_shorter) in
        let same : part c (blocks_place l region) used ≡ part file (blocks_place l region) used =
        part_beside gate 1 mid c (blocks_place l region) used two (omega (arith, long)) (inl (omega arith))
        ∙ part_beside (gate + 1) n file mid (blocks_place l region) used one (omega (arith, long)) (inl (omega arith)) in
        let m = length (block_bytes gs) in
        let there : Holds c (gate + 1) (block_bytes gs) = part_holds c (block_bytes gs) (gate + 1) (omega (arith, two.no_shorter, holds.within))
        (part_beside gate 1 mid c (gate + 1) m two (holds.within) (inr (omega arith)) ∙ held_whole mid (block_bytes gs) (gate + 1) m holds refl) in
        elim (cases_Bool (is_odd (slice_index c gate))) [
          | inl odd ↦ inr (odd, opened_more gs c few good fits longer same odd there)
          | inr closed ↦ inl (closed, closed_same c longer same closed)
        ]
