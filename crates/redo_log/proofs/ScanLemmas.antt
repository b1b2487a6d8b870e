-- How a scan goes over gates and frames: each step leaves the log that is still to come.
use Rattle.std.proofs.Common.{◌≡◌, inl, inr, ℕ, zero, suc, ◌+◌, ◌-◌, ◌<◌, ◌≤◌, Bool, true, false, List, [], ◌∷◌, length, take, drop, slice_index, min, if◌then◌else◌, refl, sym, ap, ◌∙◌, arith}
use Rattle.std.proofs.lemmas.Bool.{cases_Bool, le-leb, lt-leb, true≢false}
use Rattle.std.proofs.lemmas.List.{length-drop, length-take, drop-drop, drop-take}
use Rattle.byteorder.specs.Endian.{big_number}
use Rattle.page_model.specs.Frames.{writes_in}
use Rattle.page_model.proofs.ParseLemmas.{frame_parts}
use Rattle.file_model.proofs.InsideLemmas.{frame_holds}
use Rattle.file_model.specs.Sections.{part}
use Rattle.file_model.specs.Doublewrite.{is_odd}
use Rattle.file_model.specs.Frames.{Group, is_frame, first_bytes, FramesRead, found, no_frame, frames_from, frames_of}
use Rattle.file_model.specs.Blocks.{LogRead, log_end, ends_early, joined, frames_len, log_in}
use Rattle.file_model.proofs.LogLemmas.{at_open}
use Rattle.file_model.proofs.BlockLemmas.{shut_reads}
use Rattle.redo_log.specs.Scans.{Leads, rest_in}

-- a log leads to itself, with no group given and no byte gone over
pub leads_same : (r s : LogRead) → r ≡ s → Leads [] 0 r s
leads_same r s same = record { groups = ap (λ (t : LogRead). t.groups) same; early = ap (λ (t : LogRead). t.early) same; used = λ on. let e : r.used ≡ s.used = ap (λ (t : LogRead). t.used) same in omega (arith, e) }

-- a step without groups, and then another, are one step over the bytes of both
pub leads_then : (gs : List Group) (j k : ℕ) (r s t : LogRead) → Leads [] j r s → Leads gs k s t → Leads gs (j + k) r t
leads_then gs j k r s t one two = record {
  groups = one.groups ∙ two.groups;
  early = one.early ∙ two.early;
  used = λ on. let a = one.used (two.early ∙ on) in let b = two.used on in omega (arith, a, b);
}

-- ---- at a gate

-- with no byte left of a block, what is to come is the log from the gate on
pub at_gate_rest : (pages : ℕ) (bytes : List ℕ) → Leads [] 0 (rest_in pages 0 bytes) (log_in pages bytes)
unfolding frames_of
at_gate_rest pages bytes = record { groups = refl; early = refl; used = λ on. omega arith }

-- at a closed gate the log is at its end
pub gate_is_closed : (pages : ℕ) (bytes : List ℕ) → is_odd (slice_index bytes 0) ≡ false → Leads [] 0 (log_in pages bytes) log_end
gate_is_closed pages bytes shut = leads_same (log_in pages bytes) log_end (shut_reads pages bytes shut)

-- where the block behind an open gate doesn't fit, the log ends early and without groups
pub block_passes : (pages : ℕ) (bytes : List ℕ) → is_odd (slice_index bytes 0) ≡ true → 0 < length bytes → length bytes < 6 + frames_len bytes → log_in pages bytes ≡ ends_early []
block_passes pages bytes odd some past =
    at_open pages bytes odd some
    ∙ ap (λ (t : Bool). if t then joined (frames_of pages (part bytes 5 (frames_len bytes))) (5 + frames_len bytes) (log_in pages (drop (5 + frames_len bytes) bytes)) else ends_early []) (lt-leb (6 + frames_len bytes) (length bytes) past)

joined_later : (fs : FramesRead) (len : ℕ) (r : LogRead) → Leads [] 5 (joined fs (5 + len) r) (joined fs len r)
joined_later fs len r = elim (cases_Bool fs.whole) [
  | inl whole ↦ rw whole (record { groups = refl; early = refl; used = λ on. omega arith })
  | inr bad ↦ rw bad (record { groups = refl; early = refl; used = λ on. absurd (true≢false on) })
]

-- where the block fits, what is to come is within it, five bytes on
pub block_begins : (pages : ℕ) (bytes : List ℕ) → is_odd (slice_index bytes 0) ≡ true → 6 + frames_len bytes ≤ length bytes → Leads [] 5 (log_in pages bytes) (rest_in pages (frames_len bytes) (drop 5 bytes))
unfolding part
block_begins pages bytes odd fits =
    let n = frames_len bytes in
    let opened : log_in pages bytes ≡ joined (frames_of pages (take n (drop 5 bytes))) (5 + n) (log_in pages (drop n (drop 5 bytes))) =
    at_open pages bytes odd (omega (arith, fits))
    ∙ ap (λ (t : Bool). if t then joined (frames_of pages (take n (drop 5 bytes))) (5 + n) (log_in pages (drop (5 + n) bytes)) else ends_early []) (le-leb (6 + n) (length bytes) fits)
    ∙ ap (λ (xs : List ℕ). joined (frames_of pages (take n (drop 5 bytes))) (5 + n) (log_in pages xs)) (sym (drop-drop n 5 bytes)) in
    leads_then [] 0 5 (log_in pages bytes) (joined (frames_of pages (take n (drop 5 bytes))) (5 + n) (log_in pages (drop n (drop 5 bytes)))) (rest_in pages n (drop 5 bytes)) (leads_same _ _ opened) (joined_later (frames_of pages (take n (drop 5 bytes))) n (log_in pages (drop n (drop 5 bytes))))

-- ---- at a frame

frames_enough : (n m pages : ℕ) (bytes : List ℕ) → ((f : List ℕ) → is_frame pages f ≡ true → 0 < length f) → length bytes ≤ n → length bytes ≤ m → frames_from n pages bytes ≡ frames_from m pages bytes
frames_enough zero zero pages bytes some few less = refl
frames_enough zero (suc m) pages [] some few less = refl
frames_enough zero (suc m) pages (b ∷ bytes) some few less = absurd (omega arith)
frames_enough (suc n) zero pages [] some few less = refl
frames_enough (suc n) zero pages (b ∷ bytes) some few less = absurd (omega arith)
frames_enough (suc n) (suc m) pages [] some few less = refl
frames_enough (suc n) (suc m) pages (b ∷ bytes) some few less =
    let f = first_bytes (b ∷ bytes) in
    elim (cases_Bool (is_frame pages f)) [
      | inl good ↦
          let one = some f good in
          let short = length-drop (length f) (b ∷ bytes) in
          let go = frames_enough n m pages (drop (length f) (b ∷ bytes)) some (omega (arith, one, short)) (omega (arith, one, short)) in
          ap (λ (r : FramesRead). if is_frame pages f then found (writes_in f) r else no_frame) go
      | inr bad ↦ ap (λ (t : Bool). if t then found (writes_in f) (frames_from n pages (drop (length f) (b ∷ bytes))) else no_frame) bad ∙ sym (ap (λ (t : Bool). if t then found (writes_in f) (frames_from m pages (drop (length f) (b ∷ bytes))) else no_frame) bad)
    ]

frames_go : (pages : ℕ) (bytes : List ℕ) → ((f : List ℕ) → is_frame pages f ≡ true → 0 < length f) → 0 < length bytes → is_frame pages (first_bytes bytes) ≡ true
    → frames_of pages bytes ≡ found (writes_in (first_bytes bytes)) (frames_of pages (drop (length (first_bytes bytes)) bytes))
unfolding frames_of
frames_go pages [] some long good = absurd (omega arith)
frames_go pages (b ∷ bytes) some long good =
    let f = first_bytes (b ∷ bytes) in
    let rest = drop (length f) (b ∷ bytes) in
    let one = some f good in
    let short = length-drop (length f) (b ∷ bytes) in
    ap (λ (t : Bool). if t then found (writes_in f) (frames_from (length bytes) pages rest) else no_frame) good
    ∙ ap (found (writes_in f)) (frames_enough (length bytes) (length rest) pages rest some (omega (arith, one, short)) (omega arith))

frames_stop : (pages : ℕ) (bytes : List ℕ) → 0 < length bytes → is_frame pages (first_bytes bytes) ≡ false → frames_of pages bytes ≡ no_frame
unfolding frames_of
frames_stop pages [] long bad = absurd (omega arith)
frames_stop pages (b ∷ bytes) long bad = ap (λ (t : Bool). if t then found (writes_in (first_bytes (b ∷ bytes))) (frames_from (length bytes) pages (drop (length (first_bytes (b ∷ bytes))) (b ∷ bytes))) else no_frame) bad

found_leads : (g : Group) (fs : FramesRead) (k len : ℕ) (r : LogRead) → Leads (g ∷ []) k (joined (found g fs) (k + len) r) (joined fs len r)
found_leads g fs k len r = elim (cases_Bool fs.whole) [
  | inl whole ↦ rw whole (record { groups = refl; early = refl; used = λ on. omega arith })
  | inr bad ↦ rw bad (record { groups = refl; early = refl; used = λ on. absurd (true≢false on) })
]

frame_some : (pages : ℕ) (f : List ℕ) → is_frame pages f ≡ true → 6 ≤ length f
frame_some pages f good = (frame_parts pages f (frame_holds pages f good)).0.long

module _ (pages left : ℕ) (bytes : List ℕ) (some : 0 < left) (inside : left ≤ length bytes) where
  abbrev xs : List ℕ
  xs = take left bytes

  abbrev first : List ℕ
  first = first_bytes (take left bytes)

  xs_long : length xs ≡ left
  xs_long = length-take left bytes ∙ omega (arith, inside)

  pub first_short : length (first_bytes (take left bytes)) ≤ left
  first_short = let e : length first ≡ min (big_number 4 xs) (length xs) = length-take (big_number 4 xs) xs in omega (arith, e, xs_long)

  -- a frame at the head is given
  pub frame_leads : is_frame pages (first_bytes (take left bytes)) ≡ true
      → Leads (writes_in (first_bytes (take left bytes)) ∷ []) (length (first_bytes (take left bytes))) (rest_in pages left bytes)
      (rest_in pages (left - length (first_bytes (take left bytes))) (drop (length (first_bytes (take left bytes))) bytes))
  frame_leads good =
      let k = length first in
      let n = left - k in
      let short = first_short in
      let whole : k + n ≡ left = omega (arith, short) in
      let later : drop k (take left bytes) ≡ take n (drop k bytes) = ap (λ (m : ℕ). drop k (take m bytes)) (sym whole) ∙ drop-take k n bytes in
      let behind : drop left bytes ≡ drop n (drop k bytes) = ap (λ (m : ℕ). drop m bytes) (sym whole) ∙ sym (drop-drop n k bytes) in
      let one : frames_of pages xs ≡ found (writes_in first) (frames_of pages (take n (drop k bytes))) =
      frames_go pages xs (λ f is. let six = frame_some pages f is in omega (arith, six)) (omega (arith, some, xs_long)) good ∙ ap (λ (ys : List ℕ). found (writes_in first) (frames_of pages ys)) later in
      let after = log_in pages (drop n (drop k bytes)) in
      let reads : rest_in pages left bytes ≡ joined (found (writes_in first) (frames_of pages (take n (drop k bytes)))) (k + n) after =
      ap (λ (fs : FramesRead). joined fs left (log_in pages (drop left bytes))) one
      ∙ ap (λ (ys : List ℕ). joined (found (writes_in first) (frames_of pages (take n (drop k bytes)))) left (log_in pages ys)) behind
      ∙ ap (λ (m : ℕ). joined (found (writes_in first) (frames_of pages (take n (drop k bytes)))) m after) (sym whole) in
      let leads = found_leads (writes_in first) (frames_of pages (take n (drop k bytes))) k n after in
      record {
        groups = ap (λ (r : LogRead). r.groups) reads ∙ leads.groups;
        early = ap (λ (r : LogRead). r.early) reads ∙ leads.early;
        used = λ on. ap (λ (r : LogRead). r.used) reads ∙ leads.used on;
      }

  -- what is no frame ends the log
  pub no_frame_ends : is_frame pages (first_bytes (take left bytes)) ≡ false → rest_in pages left bytes ≡ ends_early []
  no_frame_ends bad = ap (λ (fs : FramesRead). joined fs left (log_in pages (drop left bytes))) (frames_stop pages xs (omega (arith, some, xs_long)) bad)
