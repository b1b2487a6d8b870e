-- What a reader of a frame finds: one write behind another.
use Rattle.std.proofs.Common.{◌≡◌, ℕ, ◌+◌, ◌-◌, ◌^◌, ◌<◌, ◌≤◌, List, [], ◌∷◌, ◌++◌, length, take, drop, All, get_or, add-one, drop-cons, refl, sym, ap, ap₂, subst, ◌∙◌, arith}
use Rattle.std.proofs.lemmas.List.{append_assoc, length-append, length-take-le, length-drop, drop-drop, get_or-drop, take-append-drop}
use Rattle.std.proofs.lemmas.List.Elements.{All-tail, All-cons, All-nil, All-weaker}
use Rattle.byteorder.specs.Endian.{big_bytes, big_number}
use Rattle.byteorder.specs.Numbers.{big_number-reads_back}
use Rattle.page_model.specs.Pages.{Write, page_bytes}
use Rattle.page_model.specs.Frames.{head_bytes, write_bytes, writes_bytes, frame_bytes, write, writes_in, IsInside, IsFrame, HoldsFrame, BeginsWith, HasWrites, HasHeader}
use Rattle.page_model.proofs.NumberLemmas.{AreBytes, bytes_of_number}
use Rattle.page_model.proofs.GroupFrameLemmas.{first_read, length-frame, drop_header, count_read, length-head, head_read, small_inside, frame_read, all_small}

-- ---- one write

bytes_drop : (n : ℕ) (xs : List ℕ) → AreBytes xs → AreBytes (drop n xs)
bytes_drop n xs small k = rw (get_or-drop n xs k 0) (small (n + k))

-- bytes in three parts
three_parts : (xs : List ℕ) → xs ≡ (take 4 xs ++ (take 2 (drop 4 xs) ++ take 2 (drop 6 xs))) ++ drop 8 xs
three_parts xs =
    let last : drop 6 xs ≡ take 2 (drop 6 xs) ++ drop 8 xs = sym (ap (λ (t : List ℕ). take 2 (drop 6 xs) ++ t) (sym (drop-drop 2 6 xs)) ∙ take-append-drop 2 (drop 6 xs)) in
    let middle : drop 4 xs ≡ take 2 (drop 4 xs) ++ drop 6 xs = sym (ap (λ (t : List ℕ). take 2 (drop 4 xs) ++ t) (sym (drop-drop 2 4 xs)) ∙ take-append-drop 2 (drop 4 xs)) in
    sym (take-append-drop 4 xs)
    ∙ ap (λ (t : List ℕ). take 4 xs ++ t) (middle ∙ ap (λ (t : List ℕ). take 2 (drop 4 xs) ++ t) last ∙ sym (append_assoc (take 2 (drop 4 xs)) (take 2 (drop 6 xs)) (drop 8 xs)))
    ∙ sym (append_assoc (take 4 xs) (take 2 (drop 4 xs) ++ take 2 (drop 6 xs)) (drop 8 xs))

-- the bytes begin with the write that they tell
pub begins_there : (count : ℕ) (bytes : List ℕ) (page at size : ℕ) → AreBytes bytes → page ≡ big_number 4 bytes → at ≡ big_number 2 (drop 4 bytes) → size ≡ big_number 2 (drop 6 bytes)
    → 8 + size ≤ length bytes → page < count → at + size ≤ page_bytes
    → BeginsWith count (write page at (take size (drop 8 bytes))) (drop (8 + size) bytes) bytes
begins_there count bytes page at size small is_page is_at is_size long below within =
    let body = take size (drop 8 bytes) in
    let len : length body ≡ size = length-take-le size (drop 8 bytes) (omega (arith, length-drop 8 bytes)) in
    let four : big_bytes 4 page ≡ take 4 bytes = ap (big_bytes 4) is_page ∙ bytes_of_number 4 bytes (omega arith) small in
    let two : big_bytes 2 at ≡ take 2 (drop 4 bytes) = ap (big_bytes 2) is_at ∙ bytes_of_number 2 (drop 4 bytes) (omega (arith, length-drop 4 bytes)) (bytes_drop 4 bytes small) in
    let more : big_bytes 2 (length body) ≡ take 2 (drop 6 bytes) = ap (big_bytes 2) (len ∙ is_size) ∙ bytes_of_number 2 (drop 6 bytes) (omega (arith, length-drop 6 bytes)) (bytes_drop 6 bytes small) in
    let head : head_bytes (write page at body) ≡ take 4 bytes ++ (take 2 (drop 4 bytes) ++ take 2 (drop 6 bytes)) =
    ap₂ (λ (x y : List ℕ). x ++ y) four (ap₂ (λ (x y : List ℕ). x ++ y) two more) in
    record {
      inside = record { page = below; within = omega (arith, len) };
      joined = three_parts bytes
          ∙ ap₂ (λ (x y : List ℕ). x ++ y) (sym head) (sym (take-append-drop size (drop 8 bytes)) ∙ ap (λ (t : List ℕ). body ++ t) (drop-drop size 8 bytes))
          ∙ sym (append_assoc (head_bytes (write page at body)) body (drop (8 + size) bytes));
    }

wider_inside : (count : ℕ) (w : Write) → count < 2 ^ 32 → IsInside count w → IsInside (2 ^ 32) w
wider_inside count w few inside = record { page = omega (arith, inside.page); within = inside.within }

-- within fewer pages is within all
pub wider_begins : (count : ℕ) (w : Write) (after bytes : List ℕ) → count < 2 ^ 32 → BeginsWith count w after bytes → BeginsWith (2 ^ 32) w after bytes
wider_begins count w after bytes few begins = record { inside = wider_inside count w few begins.inside; joined = begins.joined }

length-write : (w : Write) → length (write_bytes w) ≡ 8 + length w.bytes
length-write w = length-append (head_bytes w) w.bytes ∙ ap (λ (n : ℕ). n + length w.bytes) (length-head w)

-- what a write at the front tells
pub record Tells (count page at size long : ℕ) : Type 0 where
  pub below : page < count
  pub within : at + size ≤ page_bytes
  pub whole : 8 + size ≤ long

-- bytes that begin with a write are eight at least
pub begins_long : (count : ℕ) (w : Write) (after bytes : List ℕ) → BeginsWith count w after bytes → 8 ≤ length bytes
begins_long count w after bytes begins = let l = ap length begins.joined in omega (arith, l, length-append (write_bytes w) after, length-write w)

size_is : (count : ℕ) (w : Write) (after bytes : List ℕ) (size : ℕ) → count < 2 ^ 32 → BeginsWith count w after bytes → size ≡ big_number 2 (drop 6 bytes) → size ≡ length w.bytes
size_is count w after bytes size few begins is =
    is ∙ ap (λ (xs : List ℕ). big_number 2 (drop 6 xs)) begins.joined ∙ (head_read w after (small_inside w (wider_inside count w few begins.inside))).1

-- what a write at the front tells is true of it
pub begins_tells : (count : ℕ) (w : Write) (after bytes : List ℕ) (page at size : ℕ) → count < 2 ^ 32 → BeginsWith count w after bytes
    → page ≡ big_number 4 bytes → at ≡ big_number 2 (drop 4 bytes) → size ≡ big_number 2 (drop 6 bytes) → Tells count page at size (length bytes)
begins_tells count w after bytes page at size few begins is_page is_at is_size =
    let read = first_read w after bytes page at size (wider_begins count w after bytes few begins) is_page is_at is_size in
    let same : page ≡ w.page = ap (λ (v : Write). v.page) read.0 in
    let same' : at ≡ w.at = ap (λ (v : Write). v.at) read.0 in
    let l = ap length begins.joined in
    let a = length-append (write_bytes w) after in
    let long : length bytes ≡ 8 + length w.bytes + length after = omega (arith, l, a, length-write w) in
    let body : length (take size (drop 8 bytes)) ≡ length w.bytes = ap (λ (v : Write). length v.bytes) read.0 in
    let rest : length bytes - (8 + size) ≡ length after = sym (length-drop (8 + size) bytes) ∙ ap length read.1 in
    record {
      below = omega (arith, same, begins.inside.page);
      within = omega (arith, same', size_is count w after bytes size few begins is_size, begins.inside.within);
      whole = omega (arith, long, size_is count w after bytes size few begins is_size);
    }

-- ---- many writes

-- one write in front of others
pub writes_on : (count n : ℕ) (w : Write) (after bytes : List ℕ) → BeginsWith count w after bytes → HasWrites count n after → HasWrites count (n + 1) bytes
writes_on count n w after bytes begins (ws, many, are, inside) =
    (w ∷ ws, omega arith, begins.joined ∙ ap (λ (t : List ℕ). write_bytes w ++ t) are, All-cons (IsInside count) w ws begins.inside inside)

-- writes begin with the first of them
pub writes_begin : (count n : ℕ) (bytes : List ℕ) → HasWrites count (n + 1) bytes → (w : Write) × (after : List ℕ) × BeginsWith count w after bytes × HasWrites count n after
writes_begin count n bytes ([], many, are, inside) = absurd (omega arith)
writes_begin count n bytes (w ∷ ws, many, are, inside) =
    (w, writes_bytes ws, record { inside = inside 0 w (omega arith); joined = are }, (ws, omega arith, refl, All-tail (IsInside count) w ws inside))

-- bytes begin with one write at most
pub same_rest : (count : ℕ) (v w : Write) (a b bytes : List ℕ) → count < 2 ^ 32 → BeginsWith count v a bytes → BeginsWith count w b bytes → a ≡ b
same_rest count v w a b bytes few one two =
    let read = first_read v a bytes (big_number 4 bytes) (big_number 2 (drop 4 bytes)) (big_number 2 (drop 6 bytes)) (wider_begins count v a bytes few one) refl refl refl in
    let read' = first_read w b bytes (big_number 4 bytes) (big_number 2 (drop 4 bytes)) (big_number 2 (drop 6 bytes)) (wider_begins count w b bytes few two) refl refl refl in
    sym read.1 ∙ read'.1

-- behind its first write the others stand
pub writes_back : (count n : ℕ) (w : Write) (after bytes : List ℕ) → count < 2 ^ 32 → BeginsWith count w after bytes → HasWrites count (n + 1) bytes → HasWrites count n after
writes_back count n w after bytes few begins all =
    let found = writes_begin count n bytes all in
    subst (HasWrites count n) (same_rest count found.0 w found.1 after bytes few found.2 begins) found.3

-- no bytes are no writes
pub no_writes : (count : ℕ) (bytes : List ℕ) → bytes ≡ [] → HasWrites count 0 bytes
no_writes count bytes is = ([], refl, is, All-nil (IsInside count))

-- no writes have no bytes
pub no_bytes : (count : ℕ) (bytes : List ℕ) → HasWrites count 0 bytes → bytes ≡ []
no_bytes count bytes ([], many, are, inside) = are
no_bytes count bytes (w ∷ ws, many, are, inside) = absurd (omega arith)

-- ---- a whole frame

-- a frame has its head and its writes
pub frame_parts : (count : ℕ) (bytes : List ℕ) → HoldsFrame count bytes → HasHeader bytes × HasWrites count (big_number 2 (drop 4 bytes)) (drop 6 bytes)
unfolding frame_bytes
frame_parts count bytes (ws, is) =
    let all = length (writes_bytes ws) in
    let long = length-frame ws in
    let l = ap length is.frame in
    let P : List ℕ → Type 0 = λ xs. big_number 4 xs ≡ length bytes in
    let four : big_number 4 (frame_bytes ws) ≡ 6 + all =
    ap (big_number 4) (append_assoc (big_bytes 4 (6 + all)) (big_bytes 2 (length ws)) (writes_bytes ws))
    ∙ big_number-reads_back 4 (6 + all) (big_bytes 2 (length ws) ++ writes_bytes ws) (omega (arith, long, l, is.short)) in (
      record { long = omega (arith, long, l); short = is.short; len = ap (big_number 4) is.frame ∙ four ∙ omega (arith, long, l) },
      (ws, sym (ap (λ (xs : List ℕ). big_number 2 (drop 4 xs)) is.frame ∙ count_read ws (omega (arith, l, is.short))), ap (drop 6) is.frame ∙ drop_header ws, is.inside),
    )

-- bytes with a head and so many writes are a frame
pub frame_of_parts : (count : ℕ) (bytes : List ℕ) → AreBytes bytes → HasHeader bytes → HasWrites count (big_number 2 (drop 4 bytes)) (drop 6 bytes) → HoldsFrame count bytes
unfolding frame_bytes
frame_of_parts count bytes small header (ws, many, are, inside) =
    let all : length (writes_bytes ws) ≡ length bytes - 6 = ap length (sym are) ∙ length-drop 6 bytes in
    let four : big_bytes 4 (6 + length (writes_bytes ws)) ≡ take 4 bytes =
    ap (big_bytes 4) (let e : 6 + length (writes_bytes ws) ≡ length bytes = omega (arith, all, header.long) in e ∙ sym header.len) ∙ bytes_of_number 4 bytes (omega (arith, header.long)) small in
    let two : big_bytes 2 (length ws) ≡ take 2 (drop 4 bytes) =
    ap (big_bytes 2) many ∙ bytes_of_number 2 (drop 4 bytes) (omega (arith, length-drop 4 bytes, header.long)) (bytes_drop 4 bytes small) in (
      ws,
      record {
        frame = sym (
            ap₂ (λ (x y : List ℕ). x ++ y) (ap₂ (λ (x y : List ℕ). x ++ y) four two) (sym are)
            ∙ append_assoc (take 4 bytes) (take 2 (drop 4 bytes)) (drop 6 bytes)
            ∙ ap (λ (t : List ℕ). take 4 bytes ++ t) (ap (λ (t : List ℕ). take 2 (drop 4 bytes) ++ t) (sym (drop-drop 2 4 bytes)) ∙ take-append-drop 2 (drop 4 bytes))
            ∙ take-append-drop 4 bytes);
        short = header.short;
        inside = inside;
      },
    )

-- ---- write k of a list

-- behind the writes before it stands write k
pub nth_begins : (ws : List Write) (k : ℕ) (d : Write) (bytes : List ℕ) → k < length ws → All (IsInside (2 ^ 32)) ws → bytes ≡ writes_bytes (drop k ws)
    → BeginsWith (2 ^ 32) (get_or ws k d) (writes_bytes (drop (k + 1) ws)) bytes
nth_begins ws k d bytes below inside are = record {
  inside = inside k d below;
  joined = are ∙ ap writes_bytes (drop-cons ws k d below ∙ ap (λ (n : ℕ). get_or ws k d ∷ drop n ws) (sym (add-one k)));
}

-- ---- an open frame's writes

-- behind its head an open frame has its writes
pub body_of : (bytes : List ℕ) → bytes ≡ frame_bytes (writes_in bytes) → drop 6 bytes ≡ writes_bytes (writes_in bytes)
body_of bytes is = ap (drop 6) is ∙ drop_header (writes_in bytes)

-- a frame has six bytes at least
pub frame_long : (bytes : List ℕ) → bytes ≡ frame_bytes (writes_in bytes) → 6 ≤ length bytes
frame_long bytes is = let l = ap length is in omega (arith, l, length-frame (writes_in bytes))

-- the writes that a frame's bytes tell are those that it is the frame of
pub frame_back : (count : ℕ) (ws : List Write) (bytes : List ℕ) → count < 2 ^ 32 → IsFrame count ws bytes → writes_in bytes ≡ ws
frame_back count ws bytes few is =
    let l = ap length is.frame in
    ap writes_in is.frame
    ∙ frame_read ws (all_small ws (All-weaker (IsInside count) (IsInside (2 ^ 32)) (λ w i. wider_inside count w few i) ws is.inside)) (omega (arith, l, is.short))
