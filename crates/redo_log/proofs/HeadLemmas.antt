-- The bytes of the first frame in a block, as the file has them.
use Rattle.std.proofs.Common.{◌≡◌, ◌⊎◌, ⊎_elim, ℕ, ◌+◌, ◌<◌, ◌≤◌, min, List, length, take, drop, Option, Some, None, IfSome, sym, ap, subst, ◌∙◌, arith, true, false}
use Rattle.std.proofs.lemmas.List.{take-take, length-take, take-append-drop}
use Rattle.byteorder.specs.Endian.{big_number}
use Rattle.byteorder.specs.Numbers.{big_from-append}
use Rattle.engine_base.specs.Disk.{Holds}
use Rattle.page_model.specs.Frames.{max_group, HasHeader}
use Rattle.file_model.specs.Sections.{part}
use Rattle.file_model.specs.Frames.{first_bytes}
use Rattle.file_model.proofs.PartLemmas.{length-part, held_whole}
use Rattle.redo_log.specs.Scans.{IsHead}

take_part : (file : List ℕ) (at n u : ℕ) → u ≤ n → take u (part file at n) ≡ part file at u
unfolding part
take_part file at n u low = take-take u n (drop at file) low

-- a number of four bytes is that of the first four
by_four : (xs : List ℕ) → 4 ≤ length xs → big_number 4 xs ≡ big_number 4 (take 4 xs)
by_four xs some =
    let four : length (take 4 xs) ≡ min 4 (length xs) = length-take 4 xs in
    ap (big_number 4) (sym (take-append-drop 4 xs)) ∙ big_from-append 4 (take 4 xs) (drop 4 xs) (omega (arith, four, some))

module _ (file : List ℕ) (place left : ℕ) (whole : place + left ≤ length file) where
  abbrev xs : List ℕ
  xs = part file place left

  long : length xs ≡ left
  long = length-part file place left whole

  first_len : length (first_bytes xs) ≡ min (big_number 4 xs) left
  first_len = let e : length (first_bytes xs) ≡ min (big_number 4 xs) (length xs) = length-take (big_number 4 xs) xs in omega (arith, e, long)

  is_none : left < 6 → ¬ (HasHeader (first_bytes xs))
  is_none few head = let some = head.long in let e = first_len in omega (arith, few, some, e)

  module _ (bytes : List ℕ) (n : ℕ) (some : 6 ≤ left) (four : length bytes ≡ 4) (is : n ≡ big_number 4 bytes) (holds : Holds file place bytes) where
    number : big_number 4 xs ≡ n
    number = by_four xs (omega (arith, some, long)) ∙ ap (big_number 4) (take_part file place left 4 (omega (arith, some)) ∙ held_whole file bytes place 4 holds four) ∙ sym is

    is_not : (max_group < n) ⊎ (left < n) → ¬ (HasHeader (first_bytes xs))
    is_not large head =
        let len = first_len in
        let m = number in
        let e : first_bytes xs ≡ take n xs = ap (λ (k : ℕ). take k xs) m in
        let short = head.short in
        let size = head.len in
        let least : 4 ≤ n = ⊎_elim (λ a. omega (arith, a)) (λ b. omega (arith, b, some)) large in
        let first_four : take 4 (first_bytes xs) ≡ take 4 xs = ap (take 4) e ∙ take-take 4 n xs least in
        let begins = head.long in
        let told : big_number 4 (first_bytes xs) ≡ n = by_four (first_bytes xs) (omega (arith, begins)) ∙ ap (big_number 4) first_four ∙ sym (by_four xs (omega (arith, some, long))) ∙ m in
        ⊎_elim (λ a. omega (arith, a, size, told, short)) (λ b. omega (arith, b, size, told, len, m)) large

    is_first : (buffer : List ℕ) → n ≤ left → buffer ≡ part file place n → buffer ≡ first_bytes xs
    is_first buffer inside filled = filled ∙ sym (ap (λ (k : ℕ). take k xs) number ∙ take_part file place left n inside)

-- of a file that may be told
pub head_none : (place left : ℕ) (buffer : List ℕ) (o : Option (List ℕ)) → left < 6 → IfSome o (λ file. place + left ≤ length file) → IfSome o (λ file. IsHead false buffer (part file place left))
head_none place left buffer None few whole = tt
head_none place left buffer (Some file) few whole = is_none file place left whole few

-- a length above a group's, or above what is left, is none that a frame can have there
pub head_not : (place left : ℕ) (buffer bytes : List ℕ) (n : ℕ) (o : Option (List ℕ)) → 6 ≤ left → length bytes ≡ 4 → n ≡ big_number 4 bytes → (max_group < n) ⊎ (left < n)
    → IfSome o (λ file. place + left ≤ length file) → IfSome o (λ file. Holds file place bytes) → IfSome o (λ file. IsHead false buffer (part file place left))
head_not place left buffer bytes n None some four is large whole holds = tt
head_not place left buffer bytes n (Some file) some four is large whole holds = is_not file place left whole bytes n some four is holds large

-- where that length is at most what is left, the bytes read are the first frame's
pub head_first : (place left : ℕ) (buffer bytes : List ℕ) (n : ℕ) (o p : Option (List ℕ)) → p ≡ o → 6 ≤ left → length bytes ≡ 4 → n ≡ big_number 4 bytes → n ≤ left
    → IfSome o (λ file. place + left ≤ length file) → IfSome o (λ file. Holds file place bytes) → IfSome p (λ file. buffer ≡ part file place n) → IfSome o (λ file. IsHead true buffer (part file place left))
head_first place left buffer bytes n None p same some four is inside whole holds filled = tt
head_first place left buffer bytes n (Some file) p same some four is inside whole holds filled =
    let P : Option (List ℕ) → Type 0 = λ q. IfSome q (λ f. buffer ≡ part f place n) in
    is_first file place left whole bytes n some four is holds buffer inside (subst P same filled)
