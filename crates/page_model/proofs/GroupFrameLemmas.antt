-- A frame with one more write, and what its bytes read back as.
use Rattle.std.proofs.Common.{◌≡◌, ℕ, ◌+◌, ◌*◌, ◌^◌, ◌<◌, ◌≤◌, List, [], ◌∷◌, ◌++◌, length, take, drop, refl, sym, ap, ap₂, ◌∙◌, subst, All, arith}
use Rattle.std.proofs.lemmas.List.{append-nil, append_assoc, length-append, length_push, drop_at, take_at, length-drop, drop-append-le}
use Rattle.std.proofs.lemmas.List.Elements.{All-tail}
use Rattle.byteorder.specs.Endian.{big_bytes, big_number}
use Rattle.byteorder.specs.Numbers.{big_number-reads_back, length-bytes_high_first}
use Rattle.page_model.specs.Pages.{Write}
use Rattle.page_model.specs.Frames.{head_bytes, write_bytes, writes_bytes, header_bytes, frame_bytes, max_group, write, write_at_head, writes_from, writes_in, IsSmall, AreSmall, IsInside, BeginsWith}

length-header : (len count : ℕ) → length (header_bytes len count) ≡ 6
length-header len count = length-append (big_bytes 4 len) (big_bytes 2 count) ∙ ap₂ (λ (a b : ℕ). a + b) (length-bytes_high_first 4 len) (length-bytes_high_first 2 count)

-- the length of what stands in front of a write
pub length-head : (w : Write) → length (head_bytes w) ≡ 8
length-head w = omega (arith, length-append (big_bytes 4 w.page) (big_bytes 2 w.at ++ big_bytes 2 (length w.bytes)), length-append (big_bytes 2 w.at) (big_bytes 2 (length w.bytes)), length-bytes_high_first 4 w.page, length-bytes_high_first 2 w.at, length-bytes_high_first 2 (length w.bytes))

-- the bytes of one write more
pub writes_more : (ws : List Write) (w : Write) → writes_bytes (ws ++ w ∷ []) ≡ writes_bytes ws ++ (head_bytes w ++ w.bytes)
writes_more [] w = append-nil (head_bytes w ++ w.bytes)
writes_more (v ∷ ws) w = ap (λ (t : List ℕ). (head_bytes v ++ v.bytes) ++ t) (writes_more ws w) ∙ sym (append_assoc (head_bytes v ++ v.bytes) (writes_bytes ws) (head_bytes w ++ w.bytes))

-- each write takes eight bytes at least
few_writes : (ws : List Write) → 8 * length ws ≤ length (writes_bytes ws)
few_writes [] = omega arith
few_writes (w ∷ ws) = omega (arith, few_writes ws, length-append (head_bytes w ++ w.bytes) (writes_bytes ws), length-append (head_bytes w) w.bytes, length-head w)

-- the length of a frame
pub length-frame : (ws : List Write) → length (frame_bytes ws) ≡ 6 + length (writes_bytes ws)
unfolding frame_bytes
length-frame ws = length-append (header_bytes (6 + length (writes_bytes ws)) (length ws)) (writes_bytes ws) ∙ ap (λ (n : ℕ). n + length (writes_bytes ws)) (length-header (6 + length (writes_bytes ws)) (length ws))

-- the number of writes fits, and reads back
pub count_fits : (ws : List Write) → length (frame_bytes ws) ≤ max_group → length ws + 1 < 65_536
count_fits ws short = omega (arith, length-frame ws, few_writes ws, short)

-- the number of writes reads back
pub count_read : (ws : List Write) → length (frame_bytes ws) ≤ max_group → big_number 2 (drop 4 (frame_bytes ws)) ≡ length ws
unfolding frame_bytes
count_read ws short =
    let four = big_bytes 4 (6 + length (writes_bytes ws)) in
    let two = big_bytes 2 (length ws) in
    ap (λ (xs : List ℕ). big_number 2 (drop 4 xs)) (append_assoc four two (writes_bytes ws))
    ∙ ap (big_number 2) (drop_at four (two ++ writes_bytes ws) 4 (length-bytes_high_first 4 (6 + length (writes_bytes ws))))
    ∙ big_number-reads_back 2 (length ws) (writes_bytes ws) (let few = count_fits ws short in omega (arith, few))

-- behind its head a frame has the bytes of its writes
pub drop_header : (ws : List Write) → drop 6 (frame_bytes ws) ≡ writes_bytes ws
unfolding frame_bytes
drop_header ws = drop_at (header_bytes (6 + length (writes_bytes ws)) (length ws)) (writes_bytes ws) 6 (length-header (6 + length (writes_bytes ws)) (length ws))

-- a frame with one write more
pub frame_more : (ws : List Write) (w : Write) (old new : List ℕ) (count : ℕ) → old ≡ frame_bytes ws → count ≡ length ws
    → new ≡ header_bytes (length ((old ++ head_bytes w) ++ w.bytes)) (count + 1) ++ drop 6 ((old ++ head_bytes w) ++ w.bytes) → new ≡ frame_bytes (ws ++ w ∷ [])
unfolding frame_bytes
frame_more ws w old new count is many made =
    let more = writes_more ws w in
    let size : length (writes_bytes (ws ++ w ∷ [])) ≡ length (writes_bytes ws) + (8 + length w.bytes) =
    ap length more ∙ length-append (writes_bytes ws) (head_bytes w ++ w.bytes) ∙ ap (λ (n : ℕ). length (writes_bytes ws) + n) (length-append (head_bytes w) w.bytes ∙ ap (λ (n : ℕ). n + length w.bytes) (length-head w)) in
    let old_len : length old ≡ 6 + length (writes_bytes ws) = ap length is ∙ length-frame ws in
    let long : length ((old ++ head_bytes w) ++ w.bytes) ≡ length old + (8 + length w.bytes) = omega (arith, length-append (old ++ head_bytes w) w.bytes, length-append old (head_bytes w), length-head w) in
    let tail : drop 6 ((old ++ head_bytes w) ++ w.bytes) ≡ writes_bytes (ws ++ w ∷ []) =
    ap (drop 6) (append_assoc old (head_bytes w) w.bytes)
    ∙ drop-append-le 6 old (head_bytes w ++ w.bytes) (omega (arith, old_len))
    ∙ ap (λ (t : List ℕ). t ++ (head_bytes w ++ w.bytes)) (ap (drop 6) is ∙ drop_header ws) ∙ sym more in
    made ∙ ap₂ (λ (h t : List ℕ). h ++ t)
    (ap₂ header_bytes (omega (arith, long, old_len, size)) (omega (arith, many, length_push ws w))) tail

-- what a write over the whole of a vector's slice leaves
pub whole_slice : (frame items header : List ℕ) (len : ℕ) → length items ≡ len → 6 ≤ len → length header ≡ 6 → frame ≡ header ++ drop 6 items → take len (frame ++ drop (length frame) items) ≡ frame
whole_slice frame items header len size low six is =
    let long : length frame ≡ len = ap length is ∙ length-append header (drop 6 items) ∙ omega (arith, six, size, length-drop 6 items) in
    take_at frame (drop (length frame) items) len long

-- the length of a head
pub header_len : (len count : ℕ) → length (header_bytes len count) ≡ 6
header_len = length-header

-- ---- reading a frame back

-- the four parts of one write in front of the rest
pub head_read : (w : Write) (rest : List ℕ) → IsSmall w → (write_at_head ((head_bytes w ++ w.bytes) ++ rest) ≡ w) × (big_number 2 (drop 6 ((head_bytes w ++ w.bytes) ++ rest)) ≡ length w.bytes)
head_read w rest small =
    let four = big_bytes 4 w.page in
    let two = big_bytes 2 w.at in
    let len = big_bytes 2 (length w.bytes) in
    let l4 = length-bytes_high_first 4 w.page in
    let l2 = length-bytes_high_first 2 w.at in
    let tail = w.bytes ++ rest in
    let all : (head_bytes w ++ w.bytes) ++ rest ≡ head_bytes w ++ tail = append_assoc (head_bytes w) w.bytes rest in
    let by_page : (head_bytes w ++ w.bytes) ++ rest ≡ four ++ ((two ++ len) ++ tail) = all ∙ append_assoc four (two ++ len) tail in
    let by_at : (head_bytes w ++ w.bytes) ++ rest ≡ (four ++ two) ++ (len ++ tail) =
    by_page ∙ ap (λ (t : List ℕ). four ++ t) (append_assoc two len tail) ∙ sym (append_assoc four two (len ++ tail)) in
    let l6 : length (four ++ two) ≡ 6 = omega (arith, length-append four two) in
    let page : big_number 4 ((head_bytes w ++ w.bytes) ++ rest) ≡ w.page = ap (big_number 4) by_page ∙ big_number-reads_back 4 w.page ((two ++ len) ++ tail) small.page in
    let at : big_number 2 (drop 4 ((head_bytes w ++ w.bytes) ++ rest)) ≡ w.at =
    ap (λ (t : List ℕ). big_number 2 (drop 4 t)) by_page ∙ ap (big_number 2) (drop_at four ((two ++ len) ++ tail) 4 l4 ∙ append_assoc two len tail) ∙ big_number-reads_back 2 w.at (len ++ tail) small.at in
    let size : big_number 2 (drop 6 ((head_bytes w ++ w.bytes) ++ rest)) ≡ length w.bytes =
    ap (λ (t : List ℕ). big_number 2 (drop 6 t)) by_at ∙ ap (big_number 2) (drop_at (four ++ two) (len ++ tail) 6 l6) ∙ big_number-reads_back 2 (length w.bytes) tail small.size in
    let bytes : take (big_number 2 (drop 6 ((head_bytes w ++ w.bytes) ++ rest))) (drop 8 ((head_bytes w ++ w.bytes) ++ rest)) ≡ w.bytes =
    ap₂ (λ (n : ℕ) (t : List ℕ). take n t) size (ap (drop 8) all ∙ drop_at (head_bytes w) tail 8 (length-head w)) ∙ take_at w.bytes rest (length w.bytes) refl in (
      ap₃ page at bytes,
      size,
    )
  where
    ap₃ : {p q a b : ℕ} {xs ys : List ℕ} → p ≡ q → a ≡ b → xs ≡ ys → (let v : Write = record { page = p; at = a; bytes = xs } in v) ≡ (let v : Write = record { page = q; at = b; bytes = ys } in v)
    ap₃ {p} {q} {a} {b} {xs} {ys} e f g = ap (λ (n : ℕ). let v : Write = record { page = n; at = a; bytes = xs } in v) e ∙ ap₂ (λ (n : ℕ) (t : List ℕ). let v : Write = record { page = q; at = n; bytes = t } in v) f g

writes_read : (ws : List Write) → AreSmall ws → writes_from (length ws) (writes_bytes ws) ≡ ws
writes_read [] small = refl
writes_read (w ∷ ws) small =
    let both = head_read w (writes_bytes ws) small.0 in
    let all = (head_bytes w ++ w.bytes) ++ writes_bytes ws in
    let n : length (head_bytes w ++ w.bytes) ≡ 8 + length w.bytes = length-append (head_bytes w) w.bytes ∙ ap (λ (m : ℕ). m + length w.bytes) (length-head w) in
    let rest : drop (8 + big_number 2 (drop 6 all)) all ≡ writes_bytes ws =
    ap (λ (m : ℕ). drop (8 + m) all) both.1 ∙ drop_at (head_bytes w ++ w.bytes) (writes_bytes ws) (8 + length w.bytes) n in
    ap₂ (λ (v : Write) (vs : List Write). v ∷ vs) both.0 (ap (writes_from (length ws)) rest ∙ writes_read ws small.1)

-- a frame reads back as its writes
pub frame_read : (ws : List Write) → AreSmall ws → length (frame_bytes ws) ≤ max_group → writes_in (frame_bytes ws) ≡ ws
frame_read ws small short = ap₂ writes_from (count_read ws short) (drop_header ws) ∙ writes_read ws small

-- ---- writes within pages

-- the fields of a write within pages fit their places
pub small_inside : (w : Write) → IsInside (2 ^ 32) w → IsSmall w
small_inside w inside = record { page = inside.page; at = omega (arith, inside.within); size = omega (arith, inside.within) }

-- so do those of all writes
pub all_small : (ws : List Write) → All (IsInside (2 ^ 32)) ws → AreSmall ws
all_small [] inside = tt
all_small (w ∷ ws) inside = (small_inside w (inside 0 w (omega arith)), all_small ws (All-tail (IsInside (2 ^ 32)) w ws inside))

-- the first write that the bytes tell, and what follows
pub first_read : (w : Write) (after bytes : List ℕ) (page at size : ℕ) → BeginsWith (2 ^ 32) w after bytes
    → page ≡ big_number 4 bytes → at ≡ big_number 2 (drop 4 bytes) → size ≡ big_number 2 (drop 6 bytes)
    → (write page at (take size (drop 8 bytes)) ≡ w) × (drop (8 + size) bytes ≡ after)
first_read w after bytes page at size begins is_page is_at is_size =
    let P : List ℕ → Type 0 = λ xs. (write_at_head xs ≡ w) × (big_number 2 (drop 6 xs) ≡ length w.bytes) in
    let read = subst P (sym begins.joined) (head_read w after (small_inside w begins.inside)) in
    let long : length (write_bytes w) ≡ 8 + length w.bytes = length-append (head_bytes w) w.bytes ∙ ap (λ (n : ℕ). n + length w.bytes) (length-head w) in
    let same : write page at (take size (drop 8 bytes)) ≡ write_at_head bytes =
    ap (λ (n : ℕ). write n at (take size (drop 8 bytes))) is_page
    ∙ ap (λ (n : ℕ). write (big_number 4 bytes) n (take size (drop 8 bytes))) is_at
    ∙ ap (λ (n : ℕ). write (big_number 4 bytes) (big_number 2 (drop 4 bytes)) (take n (drop 8 bytes))) is_size in (
      same ∙ read.0,
      ap₂ (λ (n : ℕ) (xs : List ℕ). drop n xs) (ap (λ (n : ℕ). 8 + n) (is_size ∙ read.1)) begins.joined ∙ drop_at (write_bytes w) after (8 + length w.bytes) long,
    )
