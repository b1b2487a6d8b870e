-- What a write leaves: the frame. `field_kept` is the lemma that carries every fact over a change elsewhere.
use Rattle.std.proofs.Common.{◌≡◌, ◌≢◌, ◌⊎◌, inl, inr, ℕ, zero, suc, ◌+◌, ◌-◌, ◌*◌, ◌^◌, ◌<◌, ◌≤◌, List, [], ◌∷◌, ◌++◌, length, take, drop, get_or, map, refl, sym, ap, ap₂, subst, ◌∙◌, arith}
use Rattle.std.proofs.lemmas.List.{append-nil, drop_at, get_or-drop, get_or-take, get_or_append_left, get_or-append_right, length-take, length-take-le, length-drop, length-append, length-set, get_or-set_same, get_or-set_other, ext_get_or}
use Rattle.std.proofs.lemmas.Bool.{cases_eq}
use Rattle.byteorder.specs.Endian.{big_from, big_number, big_bytes}
use Rattle.byteorder.specs.Numbers.{big_number-reads_back, length-bytes_high_first}
use Rattle.page_model.specs.Pages.{Pages, AreWhole, Fits, AllFit, page_at, byte, bytes_at, field, patched, written, Write, all_written, Address, address_at, address_bytes}
use Rattle.page_model.specs.Counts.{IsIn}
use Rattle.page_model.proofs.CoverLemmas.{in_or_off}
use Rattle.page_model.specs.Spans.{Span, span, span_of, IsOff, IsOffAll, IsApart, IsApartFromAll, SameOutside, SetsField, SetsAddress}

-- ---- one page

-- a patched page is as long
pub length-patched : (page : List ℕ) (at : ℕ) (bytes : List ℕ) → at + length bytes ≤ length page → length (patched page at bytes) ≡ length page
length-patched page at bytes within =
    omega (arith, length-append (take at page) (bytes ++ drop (at + length bytes) page), length-append bytes (drop (at + length bytes) page), length-take-le at page (omega arith), length-drop (at + length bytes) page)

-- a byte before the range or behind it
pub get_or-patched : (page : List ℕ) (at : ℕ) (bytes : List ℕ) (k d : ℕ) → at + length bytes ≤ length page → (k < at) ⊎ (at + length bytes ≤ k)
    → get_or (patched page at bytes) k d ≡ get_or page k d
get_or-patched page at bytes k d within (inl before) =
    get_or_append_left (take at page) _ d k (omega (arith, length-take-le at page (omega arith))) ∙ get_or-take at page k d before
get_or-patched page at bytes k d within (inr behind) =
    get_or-append_right (take at page) (bytes ++ drop (at + length bytes) page) at k d (length-take-le at page (omega arith)) (omega arith)
    ∙ get_or-append_right bytes (drop (at + length bytes) page) (length bytes) (k - at) d refl (omega arith)
    ∙ get_or-drop (at + length bytes) page (k - at - length bytes) d
    ∙ ap (λ (i : ℕ). get_or page i d) (omega arith)

-- a byte in the range
pub get_or-patched_here : (page : List ℕ) (at : ℕ) (bytes : List ℕ) (k d : ℕ) → at + length bytes ≤ length page → at ≤ k → k < at + length bytes
    → get_or (patched page at bytes) k d ≡ get_or bytes (k - at) d
get_or-patched_here page at bytes k d within low high =
    get_or-append_right (take at page) (bytes ++ drop (at + length bytes) page) at k d (length-take-le at page (omega arith)) low
    ∙ get_or_append_left bytes (drop (at + length bytes) page) d (k - at) (omega arith)

-- a number looks only at its own bytes
pub big_from-same : (i n : ℕ) (xs ys : List ℕ) → ((k : ℕ) → i ≤ k → k < i + n → get_or xs k 0 ≡ get_or ys k 0) → big_from i n xs ≡ big_from i n ys
big_from-same i zero xs ys same = refl
big_from-same i (suc n) xs ys same =
    ap₂ (λ (a b : ℕ). a * 256 ^ n + b) (same i (omega arith) (omega arith)) (big_from-same (suc i) n xs ys (λ k low high. same k (omega arith) (omega arith)))

-- ---- one write

-- the page that was written
pub page_at-written : (pages : Pages) (page at : ℕ) (bytes : List ℕ) → page < length pages → page_at (written pages page at bytes) page ≡ patched (page_at pages page) at bytes
unfolding written
page_at-written pages page at bytes there = get_or-set_same pages page _ [] there

-- a page that was not written
pub page_at-written_other : (pages : Pages) (page at : ℕ) (bytes : List ℕ) (n : ℕ) → n ≢ page → page_at (written pages page at bytes) n ≡ page_at pages n
unfolding written
page_at-written_other pages page at bytes n other = get_or-set_other pages page n _ [] other

length-written : (pages : Pages) (page at : ℕ) (bytes : List ℕ) → length (written pages page at bytes) ≡ length pages
unfolding written
length-written pages page at bytes = length-set pages page _

-- a write leaves every other byte
pub written_outside : (pages : Pages) (page at : ℕ) (bytes : List ℕ) → Fits pages page at (length bytes) → SameOutside (span page at (length bytes) ∷ []) pages (written pages page at bytes)
written_outside pages page at bytes fits = record {
  many = length-written pages page at bytes;
  sizes = λ n. elim (cases_eq n page) [
    | inl same ↦ rw same (ap length (page_at-written pages page at bytes fits.there) ∙ length-patched (page_at pages page) at bytes fits.within)
    | inr other ↦ ap length (page_at-written_other pages page at bytes n other)
  ];
  bytes = λ n k off. elim (cases_eq n page) [
    | inl same ↦ rw same (ap (λ (p : List ℕ). get_or p k 0) (page_at-written pages page at bytes fits.there) ∙ get_or-patched (page_at pages page) at bytes k 0 fits.within (side n k same off.0))
    | inr other ↦ ap (λ (p : List ℕ). get_or p k 0) (page_at-written_other pages page at bytes n other)
  ];
}
  where
    side : (n k : ℕ) → n ≡ page → IsOff (span page at (length bytes)) n k → (k < at) ⊎ (at + length bytes ≤ k)
    side n k same (inl other) = absurd (other same)
    side n k same (inr rest) = rest

-- a field that was written reads back
pub field-written : (pages : Pages) (page at width value : ℕ) → Fits pages page at width → value < 256 ^ width
    → field (written pages page at (big_bytes width value)) page at width ≡ value
unfolding field
field-written pages page at width value fits small =
    let bytes = big_bytes width value in
    let len : length bytes ≡ width = length-bytes_high_first width value in
    let p = page_at pages page in
    let within = fits.within in
    ap (λ (q : List ℕ). big_number width (drop at q)) (page_at-written pages page at bytes fits.there)
    ∙ ap (big_number width) (drop_at (take at p) (bytes ++ drop (at + length bytes) p) at (length-take-le at p (omega arith)))
    ∙ big_number-reads_back width value (drop (at + length bytes) p) small

-- a field that was written
pub field_set : (pages : Pages) (page at width value : ℕ) → Fits pages page at width → value < 256 ^ width
    → SetsField page at width value pages (written pages page at (big_bytes width value))
field_set pages page at width value fits small =
    let len : length (big_bytes width value) ≡ width = length-bytes_high_first width value in
    record {
      here = field-written pages page at width value fits small;
      outside = let P : ℕ → Type 0 = λ n. SameOutside (span page at n ∷ []) pages (written pages page at (big_bytes width value)) in
          subst P len (written_outside pages page at (big_bytes width value) (record { there = fits.there; within = rw len fits.within }));
    }

-- ---- spans

-- a byte off some spans is off parts of them
pub off_parts : (xs ys : List Span) (n k : ℕ) → IsOffAll (xs ++ ys) n k → IsOffAll xs n k × IsOffAll ys n k
off_parts [] ys n k off = (tt, off)
off_parts (x ∷ xs) ys n k off = let rest = off_parts xs ys n k off.1 in ((off.0, rest.0), rest.1)

-- nothing changed
pub outside_same : (pages : Pages) → SameOutside [] pages pages
outside_same pages = record { many = refl; sizes = λ n. refl; bytes = λ n k off. refl }

-- one change and then another
pub outside_then : (xs ys : List Span) (a b c : Pages) → SameOutside xs a b → SameOutside ys b c → SameOutside (xs ++ ys) a c
outside_then xs ys a b c first second = record {
  many = second.many ∙ first.many;
  sizes = λ n. second.sizes n ∙ first.sizes n;
  bytes = λ n k off. let parts = off_parts xs ys n k off in second.bytes n k parts.1 ∙ first.bytes n k parts.0;
}

-- larger spans
pub outside_wider : (xs ys : List Span) (a b : Pages) → ((n k : ℕ) → IsOffAll ys n k → IsOffAll xs n k) → SameOutside xs a b → SameOutside ys a b
outside_wider xs ys a b wider same = record { many = same.many; sizes = same.sizes; bytes = λ n k off. same.bytes n k (wider n k off) }

-- a byte off a span is off a part of it
pub off_part : (page at size at' size' n k : ℕ) → at ≤ at' → at' + size' ≤ at + size → IsOff (span page at size) n k → IsOff (span page at' size') n k
off_part page at size at' size' n k low high (inl other) = inl other
off_part page at size at' size' n k low high (inr (inl before)) = inr (inl (omega arith))
off_part page at size at' size' n k low high (inr (inr behind)) = inr (inr (omega arith))

apart_off_one : (s : Span) (page at size k : ℕ) → k < size → IsApart s (span page at size) → IsOff s page (at + k)
apart_off_one s page at size k below (inl other) = inl other
apart_off_one s page at size k below (inr (inl before)) = inr (inl (omega arith))
apart_off_one s page at size k below (inr (inr behind)) = inr (inr (omega arith))

-- a byte of a span is off the spans that it is apart from
pub apart_off : (xs : List Span) (page at size k : ℕ) → k < size → IsApartFromAll xs (span page at size) → IsOffAll xs page (at + k)
apart_off [] page at size k below apart = tt
apart_off (x ∷ xs) page at size k below apart = (apart_off_one x page at size k below apart.0, apart_off xs page at size k below apart.1)

-- spans apart from a span are apart from a part of it
pub apart_part_one : (s : Span) (page at size at' size' : ℕ) → at ≤ at' → at' + size' ≤ at + size → IsApart s (span page at size) → IsApart s (span page at' size')
apart_part_one s page at size at' size' low high (inl other) = inl other
apart_part_one s page at size at' size' low high (inr (inl before)) = inr (inl (omega arith))
apart_part_one s page at size at' size' low high (inr (inr behind)) = inr (inr (omega arith))

-- the same of many spans
pub apart_part : (xs : List Span) (page at size at' size' : ℕ) → at ≤ at' → at' + size' ≤ at + size → IsApartFromAll xs (span page at size) → IsApartFromAll xs (span page at' size')
apart_part [] page at size at' size' low high apart = tt
apart_part (x ∷ xs) page at size at' size' low high apart = (apart_part_one x page at size at' size' low high apart.0, apart_part xs page at size at' size' low high apart.1)

-- ---- what stays

-- a field stays where nothing changes but spans apart from it
pub field_kept : (xs : List Span) (old new : Pages) (page at width : ℕ) → SameOutside xs old new → IsApartFromAll xs (span page at width) → field new page at width ≡ field old page at width
unfolding field
field_kept xs old new page at width same apart =
    big_from-same 0 width _ _ (λ k low high.
    get_or-drop at (page_at new page) k 0
    ∙ same.bytes page (at + k) (apart_off xs page at width k (omega arith) apart)
    ∙ sym (get_or-drop at (page_at old page) k 0))

-- so does an address
pub address_kept : (xs : List Span) (old new : Pages) (page at : ℕ) → SameOutside xs old new → IsApartFromAll xs (span page at 6) → address_at new page at ≡ address_at old page at
address_kept xs old new page at same apart =
    ap₂ (λ (p k : ℕ). let a : Address = record { page = p; at = k } in a)
    (field_kept xs old new page at 4 same (apart_part xs page at 6 at 4 (omega arith) (omega arith) apart))
    (field_kept xs old new page (at + 4) 2 same (apart_part xs page at 6 (at + 4) 2 (omega arith) (omega arith) apart))

-- so do bytes
pub bytes_kept : (xs : List Span) (old new : Pages) (page at n : ℕ) → SameOutside xs old new → IsApartFromAll xs (span page at n) → bytes_at new page at n ≡ bytes_at old page at n
bytes_kept xs old new page at n same apart =
    let a = page_at new page in
    let b = page_at old page in
    let size = same.sizes page in
    ext_get_or 0 _ _
    (omega (arith, length-take n (drop at a), length-take n (drop at b), length-drop at a, length-drop at b))
    (λ k below.
    let low : k < n = omega (arith, length-take n (drop at a)) in
    get_or-take n (drop at a) k 0 low ∙ get_or-drop at a k 0
    ∙ same.bytes page (at + k) (apart_off xs page at n k low apart)
    ∙ sym (get_or-take n (drop at b) k 0 low ∙ get_or-drop at b k 0))

-- ---- many writes

-- writes leave every byte outside them
pub all_outside : (ws : List Write) (pages : Pages) → AllFit ws pages → SameOutside (map span_of ws) pages (all_written ws pages)
all_outside [] pages fit = outside_same pages
all_outside (w ∷ ws) pages fit =
    outside_then (span_of w ∷ []) (map span_of ws) pages (written pages w.page w.at w.bytes) (all_written ws (written pages w.page w.at w.bytes))
    (written_outside pages w.page w.at w.bytes fit.0) (all_outside ws (written pages w.page w.at w.bytes) fit.1)

-- pages are the same where each byte is
pub same_pages : (a b : Pages) → length a ≡ length b → ((n : ℕ) → length (page_at a n) ≡ length (page_at b n)) → ((n k : ℕ) → byte a n k ≡ byte b n k) → a ≡ b
same_pages a b many sizes bytes = ext_get_or [] a b many (λ n _. ext_get_or 0 (page_at a n) (page_at b n) (sizes n) (λ k _. bytes n k))

-- ---- two writes in either order

-- what fits pages fits them after a change
pub fits_kept : (xs : List Span) (old new : Pages) (page at size : ℕ) → SameOutside xs old new → Fits old page at size → Fits new page at size
fits_kept xs old new page at size same fits = record { there = omega (arith, same.many, fits.there); within = omega (arith, same.sizes page, fits.within) }

-- and what fits them after a change fitted them before
pub fits_back : (xs : List Span) (old new : Pages) (page at size : ℕ) → SameOutside xs old new → Fits new page at size → Fits old page at size
fits_back xs old new page at size same fits = record { there = omega (arith, same.many, fits.there); within = omega (arith, same.sizes page, fits.within) }

in_one_off_other : (s t : Span) (n k : ℕ) → IsApart s t → IsIn s n k → IsOff t n k
in_one_off_other s t n k (inl other) is = inl (λ e. other (sym e ∙ is.0))
in_one_off_other s t n k (inr (inl before)) is = inr (inr (let a = is.1 in omega arith))
in_one_off_other s t n k (inr (inr behind)) is = inr (inl (let b = is.2 in omega arith))

-- a byte that was written
pub byte-written : (pages : Pages) (w : Write) (n k : ℕ) → Fits pages w.page w.at (length w.bytes) → IsIn (span_of w) n k → byte (written pages w.page w.at w.bytes) n k ≡ get_or w.bytes (k - w.at) 0
byte-written pages w n k fits is =
    ap (λ (m : ℕ). byte (written pages w.page w.at w.bytes) m k) is.0
    ∙ ap (λ (p : List ℕ). get_or p k 0) (page_at-written pages w.page w.at w.bytes fits.there)
    ∙ get_or-patched_here (page_at pages w.page) w.at w.bytes k 0 fits.within is.1 is.2

-- two writes apart may be made in either order
pub writes_commute : (pages : Pages) (v w : Write) → Fits pages v.page v.at (length v.bytes) → Fits pages w.page w.at (length w.bytes) → IsApart (span_of v) (span_of w)
    → written (written pages v.page v.at v.bytes) w.page w.at w.bytes ≡ written (written pages w.page w.at w.bytes) v.page v.at v.bytes
writes_commute pages v w fv fw apart =
    let a = written pages v.page v.at v.bytes in
    let b = written pages w.page w.at w.bytes in
    let sa = written_outside pages v.page v.at v.bytes fv in
    let sb = written_outside pages w.page w.at w.bytes fw in
    let fw' = fits_kept (span_of v ∷ []) pages a w.page w.at (length w.bytes) sa fw in
    let fv' = fits_kept (span_of w ∷ []) pages b v.page v.at (length v.bytes) sb fv in
    let ta = written_outside a w.page w.at w.bytes fw' in
    let tb = written_outside b v.page v.at v.bytes fv' in
    same_pages (written a w.page w.at w.bytes) (written b v.page v.at v.bytes)
    (ta.many ∙ sa.many ∙ sym (tb.many ∙ sb.many))
    (λ n. ta.sizes n ∙ sa.sizes n ∙ sym (tb.sizes n ∙ sb.sizes n))
    (λ n k. elim (in_or_off (span_of v) n k) [
      | inl is ↦ ta.bytes n k (in_one_off_other (span_of v) (span_of w) n k apart is, tt) ∙ byte-written pages v n k fv is ∙ sym (byte-written b v n k fv' is)
      | inr off ↦ elim (in_or_off (span_of w) n k) [
        | inl is ↦ byte-written a w n k fw' is ∙ sym (byte-written pages w n k fw is) ∙ sym (tb.bytes n k (off, tt))
        | inr off' ↦ ta.bytes n k (off', tt) ∙ sa.bytes n k (off, tt) ∙ sym (tb.bytes n k (off, tt) ∙ sb.bytes n k (off', tt))
      ]
    ])

-- ---- a field inside what was written

-- a number of the same bytes elsewhere
pub big_from-shifted : (i j n : ℕ) (xs ys : List ℕ) → ((k : ℕ) → k < n → get_or xs (i + k) 0 ≡ get_or ys (j + k) 0) → big_from i n xs ≡ big_from j n ys
big_from-shifted i j zero xs ys same = refl
big_from-shifted i j (suc n) xs ys same =
    ap₂ (λ (a b : ℕ). a * 256 ^ n + b)
    (ap (λ (m : ℕ). get_or xs m 0) (omega arith) ∙ same 0 (omega arith) ∙ ap (λ (m : ℕ). get_or ys m 0) (omega arith))
    (big_from-shifted (suc i) (suc j) n xs ys (λ k below.
    ap (λ (m : ℕ). get_or xs m 0) (omega arith) ∙ same (suc k) (omega arith) ∙ ap (λ (m : ℕ). get_or ys m 0) (omega arith)))

-- a field inside the bytes that were written
pub field-written_in : (pages : Pages) (page at : ℕ) (bytes : List ℕ) (i width : ℕ) → Fits pages page at (length bytes) → i + width ≤ length bytes
    → field (written pages page at bytes) page (at + i) width ≡ big_number width (drop i bytes)
unfolding field
field-written_in pages page at bytes i width fits inside =
    big_from-same 0 width _ _ (λ k low high.
    get_or-drop (at + i) (page_at (written pages page at bytes) page) k 0
    ∙ ap (λ (p : List ℕ). get_or p (at + i + k) 0) (page_at-written pages page at bytes fits.there)
    ∙ get_or-patched_here (page_at pages page) at bytes (at + i + k) 0 fits.within (omega arith) (omega arith)
    ∙ ap (λ (m : ℕ). get_or bytes m 0) (omega arith)
    ∙ sym (get_or-drop i bytes k 0))

-- an address that was written
pub address_set : (pages : Pages) (page at : ℕ) (a : Address) → Fits pages page at 6 → a.page < 2 ^ 32 → a.at < 2 ^ 16
    → SetsAddress page at a pages (written pages page at (address_bytes a))
address_set pages page at a fits small small' =
    let bytes = address_bytes a in
    let four = big_bytes 4 a.page in
    let two = big_bytes 2 a.at in
    let len4 : length four ≡ 4 = length-bytes_high_first 4 a.page in
    let len2 : length two ≡ 2 = length-bytes_high_first 2 a.at in
    let len : length bytes ≡ 6 = omega (arith, length-append four two) in
    let fits' : Fits pages page at (length bytes) = record { there = fits.there; within = rw len fits.within } in
    let whole = written pages page at bytes in
    let first : field whole page at 4 ≡ a.page =
    ap (λ (m : ℕ). field whole page m 4) (omega arith) ∙ field-written_in pages page at bytes 0 4 fits' (omega arith) ∙ big_number-reads_back 4 a.page two (omega arith) in
    let second : field whole page (at + 4) 2 ≡ a.at =
    field-written_in pages page at bytes 4 2 fits' (omega arith) ∙ ap (big_number 2) (drop_at four two 4 len4 ∙ sym (append-nil two)) ∙ big_number-reads_back 2 a.at [] (omega arith) in
    record {
      here = ap₂ (λ (p k : ℕ). let b : Address = record { page = p; at = k } in b) first second;
      outside = let P : ℕ → Type 0 = λ n. SameOutside (span page at n ∷ []) pages whole in subst P len (written_outside pages page at bytes fits');
    }

-- whole pages stay whole
pub whole_kept : (xs : List Span) (old new : Pages) (count : ℕ) → SameOutside xs old new → AreWhole old count → AreWhole new count
whole_kept xs old new count same whole = record { many = same.many ∙ whole.many; each = λ n below. same.sizes n ∙ whole.each n below }
