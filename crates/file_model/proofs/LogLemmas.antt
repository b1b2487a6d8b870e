-- How a log is read: any number that is large enough reads the same, and what stands before a gate is read before it.
use Rattle.std.proofs.Common.{◌≡◌, ◌⊎◌, inl, inr, ℕ, zero, suc, ◌+◌, ◌<◌, ◌≤◌, Bool, true, false, List, [], ◌∷◌, ◌++◌, length, take, drop, slice_index, nat_le, if◌then◌else◌, refl, sym, ap, ap₂, ◌∙◌, arith}
use Rattle.std.proofs.lemmas.Bool.{cases_Bool, leb-true, le-leb, true≢false}
use Rattle.byteorder.specs.Endian.{big_number}
use Rattle.file_model.proofs.PartLemmas.{same_parts}
use Rattle.std.proofs.lemmas.List.{get_or-take, length-drop, drop-drop, append_assoc, drop-take}
use Rattle.file_model.specs.Sections.{part}
use Rattle.file_model.specs.Doublewrite.{is_odd}
use Rattle.file_model.specs.Frames.{Group, frames_of}
use Rattle.file_model.specs.Blocks.{LogRead, log_end, ends_early, joined, frames_len, block_from, log_from, log_in}

-- at a closed gate
pub at_closed : (n pages : ℕ) (bytes : List ℕ) → is_odd (slice_index bytes 0) ≡ false → log_from n pages bytes ≡ log_end
at_closed zero pages bytes shut = refl
at_closed (suc n) pages bytes shut = rw shut

-- a block reads what follows it, and nothing else of what is handed in
pub block_same : (pages : ℕ) (f g : List ℕ → LogRead) (bytes : List ℕ) → f (drop (5 + frames_len bytes) bytes) ≡ g (drop (5 + frames_len bytes) bytes) → block_from pages f bytes ≡ block_from pages g bytes
block_same pages f g bytes same =
    ap (λ (r : LogRead). if nat_le (6 + frames_len bytes) (length bytes) then joined (frames_of pages (part bytes 5 (frames_len bytes))) (5 + frames_len bytes) r else ends_early []) same

-- a number that is large enough
pub log_enough : (n m pages : ℕ) (bytes : List ℕ) → length bytes ≤ n → length bytes ≤ m → log_from n pages bytes ≡ log_from m pages bytes
log_enough zero zero pages bytes few less = refl
log_enough zero (suc m) pages [] few less = refl
log_enough zero (suc m) pages (b ∷ bytes) few less = absurd (omega arith)
log_enough (suc n) zero pages [] few less = refl
log_enough (suc n) zero pages (b ∷ bytes) few less = absurd (omega arith)
log_enough (suc n) (suc m) pages bytes few less =
    let short = length-drop (5 + frames_len bytes) bytes in
    ap (λ (r : LogRead). if is_odd (slice_index bytes 0) then r else log_end)
    (block_same pages (log_from n pages) (log_from m pages) bytes (log_enough n m pages (drop (5 + frames_len bytes) bytes) (omega arith) (omega arith)))

-- at an open gate
pub at_open : (pages : ℕ) (bytes : List ℕ) → is_odd (slice_index bytes 0) ≡ true → 0 < length bytes → log_in pages bytes ≡ block_from pages (log_in pages) bytes
unfolding log_in
at_open pages [] odd some = absurd (omega arith)
at_open pages (b ∷ bytes) odd some =
    let all = b ∷ bytes in
    let rest = drop (5 + frames_len all) all in
    let short = length-drop (5 + frames_len all) all in
    ap (λ (t : Bool). if t then block_from pages (log_from (length bytes) pages) all else log_end) odd
    ∙ block_same pages (log_from (length bytes) pages) (log_in pages) all (log_enough (length bytes) (length rest) pages rest (omega arith) (omega arith))

-- ---- a log whose beginning is known

-- what is read, and then what is read behind it
abbrev pub followed : LogRead → LogRead → LogRead
followed r t = record { groups = r.groups ++ t.groups; used = r.used + t.used; early = t.early }

-- the bytes begin with an open block, which is whole
pub record IsBlock (pages : ℕ) (bytes : List ℕ) : Type 0 where
  pub odd : is_odd (slice_index bytes 0) ≡ true
  pub fits : 6 + frames_len bytes ≤ length bytes
  pub whole : (frames_of pages (part bytes 5 (frames_len bytes))).whole ≡ true

-- the bytes from the next gate on, behind the first block
abbrev pub behind : List ℕ → List ℕ
behind bytes = drop (5 + frames_len bytes) bytes

-- the groups and the length of the first block, in front of what is read behind it
abbrev pub block_then : ℕ → List ℕ → LogRead → LogRead
block_then pages bytes t = record { groups = (frames_of pages (part bytes 5 (frames_len bytes))).groups ++ t.groups; used = 5 + frames_len bytes + t.used; early = t.early }

-- a whole open block reads as its groups and length in front of what is read behind it
pub block_reads : (pages : ℕ) (next : List ℕ → LogRead) (bytes : List ℕ) → IsBlock pages bytes → block_from pages next bytes ≡ block_then pages bytes (next (behind bytes))
block_reads pages next bytes is =
    ap (λ (t : Bool). if t then joined (frames_of pages (part bytes 5 (frames_len bytes))) (5 + frames_len bytes) (next (behind bytes)) else ends_early []) (le-leb _ _ is.fits)
    ∙ ap (λ (t : Bool). if t then block_then pages bytes (next (behind bytes)) else ends_early (frames_of pages (part bytes 5 (frames_len bytes))).groups) is.whole

abbrev early_is : LogRead → Bool
early_is r = r.early

block_or_early : (pages : ℕ) (next : List ℕ → LogRead) (bytes : List ℕ) → is_odd (slice_index bytes 0) ≡ true → (block_from pages next bytes).early ≡ false → IsBlock pages bytes
block_or_early pages next bytes odd on = elim (cases_Bool (nat_le (6 + frames_len bytes) (length bytes))) [
  | inr short ↦ absurd (true≢false (sym (ap (λ (t : Bool). (if t then joined (frames_of pages (part bytes 5 (frames_len bytes))) (5 + frames_len bytes) (next (behind bytes)) else ends_early []).early) short) ∙ on))
  | inl fits ↦ elim (cases_Bool (frames_of pages (part bytes 5 (frames_len bytes))).whole) [
    | inl whole ↦ record { odd = odd; fits = leb-true _ _ fits; whole = whole }
    | inr bad ↦
        let first = ap (λ (t : Bool). (if t then joined (frames_of pages (part bytes 5 (frames_len bytes))) (5 + frames_len bytes) (next (behind bytes)) else ends_early []).early) fits in
        let second = ap (λ (t : Bool). (if t then block_then pages bytes (next (behind bytes)) else ends_early (frames_of pages (part bytes 5 (frames_len bytes))).groups).early) bad in
        absurd (true≢false (sym second ∙ sym first ∙ on))
  ]
]

-- a log that begins with an open gate and doesn't end early
pub log_opened : (n pages : ℕ) (bytes : List ℕ) → (log_from (suc n) pages bytes).early ≡ false → is_odd (slice_index bytes 0) ≡ true
    → IsBlock pages bytes × (log_from (suc n) pages bytes ≡ block_then pages bytes (log_from n pages (behind bytes)))
log_opened n pages bytes on odd =
    let is_open : log_from (suc n) pages bytes ≡ block_from pages (log_from n pages) bytes = ap (λ (t : Bool). if t then block_from pages (log_from n pages) bytes else log_end) odd in
    let is = block_or_early pages (log_from n pages) bytes odd (sym (ap early_is is_open) ∙ on) in
    (is, is_open ∙ block_reads pages (log_from n pages) bytes is)

-- the two ways in which a log that doesn't end early begins
pub log_begins : (n pages : ℕ) (bytes : List ℕ) → (log_from (suc n) pages bytes).early ≡ false
    → ((is_odd (slice_index bytes 0) ≡ false) × (log_from (suc n) pages bytes ≡ log_end))
    ⊎ (IsBlock pages bytes × (log_from (suc n) pages bytes ≡ block_then pages bytes (log_from n pages (behind bytes))))
log_begins n pages bytes on = elim (cases_Bool (is_odd (slice_index bytes 0))) [
  | inr shut ↦ inl (shut, at_closed (suc n) pages bytes shut)
  | inl odd ↦ inr (log_opened n pages bytes on odd)
]

-- a block whose bytes, up to its next gate, stand in front of other bytes too
pub block_kept : (pages u : ℕ) (old new : List ℕ) → IsBlock pages old → 5 + frames_len old ≤ u → take u new ≡ take u old → u < length new
    → IsBlock pages new × (frames_len new ≡ frames_len old) × (part new 5 (frames_len new) ≡ part old 5 (frames_len old))
block_kept pages u old new is inner same long =
    let in_old = is.fits in
    let each : (i : ℕ) → i < u → slice_index new i ≡ slice_index old i =
    (λ i low. sym (get_or-take u new i 0 low) ∙ ap (λ (xs : List ℕ). slice_index xs i) same ∙ get_or-take u old i 0 low) in
    let len : frames_len new ≡ frames_len old = ap (big_number 4) (same_parts new old 1 1 4 (omega arith) (omega arith) (λ i low. each (1 + i) (omega arith))) in
    let body : part new 5 (frames_len new) ≡ part old 5 (frames_len old) =
    ap (part new 5) len ∙ same_parts new old 5 5 (frames_len old) (omega arith) (omega arith) (λ i low. each (5 + i) (omega arith)) in (
      record {
        odd = ap is_odd (each 0 (omega arith)) ∙ is.odd;
        fits = omega (arith, len);
        whole = ap (λ (xs : List ℕ). (frames_of pages xs).whole) body ∙ is.whole;
      },
      len,
      body,
    )

-- what was read of a log, from its parts
abbrev pub log_read : List Group → ℕ → Bool → LogRead
log_read gs k early = record { groups = gs; used = k; early = early }

abbrev block_of : List Group → ℕ → LogRead → LogRead
block_of gs k t = record { groups = gs ++ t.groups; used = 5 + k + t.used; early = t.early }

ended : (pages : ℕ) (r : LogRead) (new : List ℕ) → r ≡ log_end → log_in pages new ≡ followed r (log_in pages (drop r.used new))
ended pages r new is =
    let t = log_in pages new in
    let none : t ≡ followed log_end t = ap (λ (k : ℕ). log_read t.groups k t.early) (omega arith) in
    none ∙ ap (λ (s : LogRead). followed s (log_in pages (drop s.used new))) (sym is)

joins : (pages : ℕ) (old : List ℕ) (r t : LogRead) → block_then pages old (followed r t) ≡ followed (block_then pages old r) t
joins pages old r t =
    ap₂ (λ (gs : List Group) (k : ℕ). log_read gs k t.early)
    (sym (append_assoc (frames_of pages (part old 5 (frames_len old))).groups r.groups t.groups)) (omega arith)

-- What was read up to a closed gate is read from all bytes that begin so, and then what stands from that gate on.
pub log_after : (n pages : ℕ) (r : LogRead) (old new : List ℕ) → length old ≤ n → log_from n pages old ≡ r → r.early ≡ false → take r.used new ≡ take r.used old → r.used < length new
    → log_in pages new ≡ followed r (log_in pages (drop r.used new))
log_after zero pages r old new few is on same long = ended pages r new (sym is)
log_after (suc n) pages r old new few is on same long = elim (log_begins n pages old (ap (λ (t : LogRead). t.early) is ∙ on)) [
  | inl (shut, none) ↦ ended pages r new (sym is ∙ none)
  | inr (block, reads) ↦
      let rest = log_from n pages (behind old) in
      let r_is : r ≡ block_then pages old rest = sym is ∙ reads in
      let used_is : r.used ≡ 5 + frames_len old + rest.used = ap (λ (t : LogRead). t.used) r_is in
      let kept = block_kept pages r.used old new block (omega (arith, used_is)) same long in
      let some : 0 < length new = omega arith in
      let front : log_in pages new ≡ block_then pages new (log_in pages (behind new)) = at_open pages new kept.0.odd some ∙ block_reads pages (log_in pages) new kept.0 in
      let cut : behind new ≡ drop (5 + frames_len old) new = ap (λ (k : ℕ). drop (5 + k) new) kept.1 in
      let from : take rest.used (drop (5 + frames_len old) new) ≡ take rest.used (behind old) =
      sym (drop-take (5 + frames_len old) rest.used new) ∙ ap (λ (k : ℕ). drop (5 + frames_len old) (take k new)) (sym used_is)
      ∙ ap (drop (5 + frames_len old)) same ∙ ap (λ (k : ℕ). drop (5 + frames_len old) (take k old)) used_is ∙ drop-take (5 + frames_len old) rest.used old in
      let shorter = length-drop (5 + frames_len old) old in
      let less = length-drop (5 + frames_len old) new in
      let tail : log_in pages (drop (5 + frames_len old) new) ≡ followed rest (log_in pages (drop rest.used (drop (5 + frames_len old) new))) =
      log_after n pages rest (behind old) (drop (5 + frames_len old) new) (omega arith) refl (sym (ap (λ (t : LogRead). t.early) r_is) ∙ on) from (omega (arith, used_is)) in
      let at : drop rest.used (drop (5 + frames_len old) new) ≡ drop r.used new = drop-drop rest.used (5 + frames_len old) new ∙ ap (λ (k : ℕ). drop k new) (sym used_is) in
      front
      ∙ ap₂ (λ (gs : List Group) (k : ℕ). block_of gs k (log_in pages (behind new))) (ap (λ (xs : List ℕ). (frames_of pages xs).groups) kept.2) kept.1
      ∙ ap (λ (xs : List ℕ). block_then pages old (log_in pages xs)) cut
      ∙ ap (block_then pages old) (tail ∙ ap (λ (xs : List ℕ). followed rest (log_in pages xs)) at)
      ∙ joins pages old rest (log_in pages (drop r.used new))
      ∙ ap (λ (t : LogRead). followed t (log_in pages (drop r.used new))) (sym r_is)
]
