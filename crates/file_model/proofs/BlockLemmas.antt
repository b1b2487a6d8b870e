-- A block behind a gate: while the gate is closed nothing of it counts, and once it is open all of it does.
use Rattle.std.proofs.Common.{◌≡◌, inl, inr, ℕ, zero, suc, ◌+◌, ◌^◌, ◌<◌, ◌≤◌, true, false, List, [], ◌∷◌, ◌++◌, length, take, All, slice_index, refl, sym, ap, ap₂, ◌∙◌, arith}
use Rattle.std.proofs.lemmas.List.{append-nil, take_at, drop_at, length-append, get_or-drop, get_or-append-add, length-drop}
use Rattle.byteorder.specs.Endian.{big_number, big_bytes}
use Rattle.byteorder.specs.Numbers.{big_number-reads_back, length-bytes_high_first}
use Rattle.file_model.specs.Sections.{part}
use Rattle.file_model.specs.Doublewrite.{is_odd}
use Rattle.file_model.specs.Frames.{Group, FramesRead, frames_bytes, frames_of, IsLoggable}
use Rattle.file_model.specs.Blocks.{LogRead, log_end, frames_len, log_from, log_in, block_bytes, block_len}
use Rattle.file_model.proofs.PartLemmas.{get_or-part, part-part}
use Rattle.file_model.proofs.FrameLemmas.{frames_back}
use Rattle.file_model.proofs.LogLemmas.{at_closed, at_open, IsBlock, behind, block_then, block_reads, log_begins, followed, log_read}

front : (xs ys : List ℕ) (n : ℕ) → length xs ≡ n → part (xs ++ ys) 0 n ≡ xs
unfolding part
front xs ys n long = take_at xs ys n long

middle : (xs ys zs : List ℕ) (a n : ℕ) → length xs ≡ a → length ys ≡ n → part (xs ++ (ys ++ zs)) a n ≡ ys
unfolding part
middle xs ys zs a n long wide = ap (take n) (drop_at xs (ys ++ zs) a long) ∙ take_at ys zs n wide

last : (xs ys : List ℕ) (z k : ℕ) → k ≡ length xs + length ys → slice_index (xs ++ (ys ++ z ∷ [])) k ≡ z
last xs ys z k is =
    ap (slice_index (xs ++ (ys ++ z ∷ []))) is ∙ get_or-append-add xs (ys ++ z ∷ []) (length ys) 0
    ∙ ap (slice_index (ys ++ z ∷ [])) (omega arith) ∙ get_or-append-add ys (z ∷ []) 0 0

abbrev frames_all : List Group → FramesRead
frames_all gs = record { groups = gs; whole = true }

-- ---- the last gate

-- where a log doesn't end early, a closed gate stands at its end
pub gate_closed : (n pages : ℕ) (r : LogRead) (bytes : List ℕ) → length bytes ≤ n → log_from n pages bytes ≡ r → r.early ≡ false → is_odd (slice_index bytes r.used) ≡ false
gate_closed zero pages r [] few is on = ap (λ (t : LogRead). is_odd (slice_index [] t.used)) (sym is)
gate_closed zero pages r (b ∷ bytes) few is on = absurd (omega arith)
gate_closed (suc n) pages r bytes few is on = elim (log_begins n pages bytes (ap (λ (t : LogRead). t.early) is ∙ on)) [
  | inl (shut, none) ↦ ap (λ (t : LogRead). is_odd (slice_index bytes t.used)) (sym is ∙ none) ∙ shut
  | inr (block, reads) ↦
      let rest = log_from n pages (behind bytes) in
      let r_is : r ≡ block_then pages bytes rest = sym is ∙ reads in
      let short = length-drop (5 + frames_len bytes) bytes in
      let inner = gate_closed n pages rest (behind bytes) (omega arith) refl (sym (ap (λ (t : LogRead). t.early) r_is) ∙ on) in
      ap (λ (t : LogRead). is_odd (slice_index bytes t.used)) r_is ∙ ap is_odd (sym (get_or-drop (5 + frames_len bytes) bytes rest.used 0)) ∙ inner
]

-- and it stands within the bytes
pub gate_within : (n pages : ℕ) (r : LogRead) (bytes : List ℕ) → 0 < length bytes → length bytes ≤ n → log_from n pages bytes ≡ r → r.early ≡ false → r.used < length bytes
gate_within zero pages r bytes some few is on = absurd (omega arith)
gate_within (suc n) pages r bytes some few is on = elim (log_begins n pages bytes (ap (λ (t : LogRead). t.early) is ∙ on)) [
  | inl (shut, none) ↦ let u = ap (λ (t : LogRead). t.used) (sym is ∙ none) in omega arith
  | inr (block, reads) ↦
      let rest = log_from n pages (behind bytes) in
      let r_is : r ≡ block_then pages bytes rest = sym is ∙ reads in
      let short = length-drop (5 + frames_len bytes) bytes in
      let fits = block.fits in
      let inner = gate_within n pages rest (behind bytes) (omega arith) (omega arith) refl (sym (ap (λ (t : LogRead). t.early) r_is) ∙ on) in
      let u = ap (λ (t : LogRead). t.used) r_is in
      omega arith
]

-- ---- what stands behind a gate

-- bytes that begin with a closed gate read as the end of a log
pub shut_reads : (pages : ℕ) (bytes : List ℕ) → is_odd (slice_index bytes 0) ≡ false → log_in pages bytes ≡ log_end
unfolding log_in
shut_reads pages bytes shut = at_closed (length bytes) pages bytes shut

-- a log that doesn't end early, followed by the end of a log, is itself
pub followed_end : (r : LogRead) → r.early ≡ false → followed r log_end ≡ r
followed_end r on =
    ap₂ (λ (gs : List Group) (k : ℕ). log_read gs k false) (append-nil r.groups) (omega arith) ∙ ap (log_read r.groups r.used) (sym on)

-- what stands behind a block's gate has five bytes more than the groups' frames
pub length-block : (gs : List Group) → length (block_bytes gs) ≡ 5 + length (frames_bytes gs)
length-block gs =
    let len = length (frames_bytes gs) in
    omega (arith, length-append (big_bytes 4 len) (frames_bytes gs ++ 0 ∷ []), length-append (frames_bytes gs) (0 ∷ []), length-bytes_high_first 4 len)

-- the bytes of an open block
pub open_reads : (pages : ℕ) (gs : List Group) (bytes : List ℕ) → pages ≤ 2 ^ 32 → All (IsLoggable pages) gs → length (frames_bytes gs) < 2 ^ 32
    → is_odd (slice_index bytes 0) ≡ true → 1 + length (block_bytes gs) ≤ length bytes → part bytes 1 (length (block_bytes gs)) ≡ block_bytes gs
    → log_in pages bytes ≡ log_read gs (block_len gs) false
open_reads pages gs bytes few good short odd within is =
    let len = length (frames_bytes gs) in
    let four = big_bytes 4 len in
    let l4 = length-bytes_high_first 4 len in
    let all = length-block gs in
    let head : part bytes 1 4 ≡ four = sym (part-part bytes 1 (length (block_bytes gs)) 0 4 within (omega arith)) ∙ ap (λ (xs : List ℕ). part xs 0 4) is ∙ front four (frames_bytes gs ++ 0 ∷ []) 4 l4 in
    let size : frames_len bytes ≡ len = ap (big_number 4) (head ∙ sym (append-nil four)) ∙ big_number-reads_back 4 len [] short in
    let body : part bytes 5 len ≡ frames_bytes gs =
    sym (part-part bytes 1 (length (block_bytes gs)) 4 len within (omega arith)) ∙ ap (λ (xs : List ℕ). part xs 4 len) is ∙ middle four (frames_bytes gs) (0 ∷ []) 4 len l4 refl in
    let next : slice_index bytes (5 + len) ≡ 0 =
    ap (slice_index bytes) (omega arith) ∙ sym (get_or-part bytes 1 (length (block_bytes gs)) (4 + len) (omega arith)) ∙ ap (λ (xs : List ℕ). slice_index xs (4 + len)) is ∙ last four (frames_bytes gs) 0 (4 + len) (omega arith) in
    let frames : frames_of pages (part bytes 5 (frames_len bytes)) ≡ frames_all gs = ap (λ (n : ℕ). frames_of pages (part bytes 5 n)) size ∙ ap (frames_of pages) body ∙ frames_back pages gs few good in
    let block : IsBlock pages bytes = record { odd = odd; fits = omega arith; whole = ap (λ (f : FramesRead). f.whole) frames } in
    let gate : is_odd (slice_index (behind bytes) 0) ≡ false =
    ap is_odd (get_or-drop (5 + frames_len bytes) bytes 0 0 ∙ ap (λ (n : ℕ). slice_index bytes n) (omega arith) ∙ next) in
    at_open pages bytes odd (omega arith)
    ∙ block_reads pages (log_in pages) bytes block
    ∙ ap (block_then pages bytes) (shut_reads pages (behind bytes) gate)
    ∙ ap₂ (λ (fs : FramesRead) (n : ℕ). log_read (fs.groups ++ []) n false) frames (omega arith)
    ∙ ap (λ (hs : List Group). log_read hs (block_len gs) false) (append-nil gs)
