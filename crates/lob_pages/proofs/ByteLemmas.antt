-- Numbers in bytes that are seen as a page alone.
use Rattle.std.proofs.Common.{◌≡◌, inl, inr, ℕ, ◌+◌, ◌^◌, ◌<◌, ◌≤◌, List, [], ◌∷◌, length, take, drop, get_or, slice_index, refl, sym, ap, ap₂, subst, lit≤, ◌∙◌, arith}
use Rattle.std.proofs.lemmas.List.{get_or-drop, get_or-take}
use Rattle.byteorder.specs.Endian.{big_from, big_number, big_bytes}
use Rattle.byteorder.specs.Numbers.{big_from-take, big_from-lt}
use Rattle.page_model.specs.Pages.{Pages, Fits, page_at, bytes_at, field, written, patched, Address, address_at}
use Rattle.page_model.specs.Spans.{span, SetsField, SetsAddress}
use Rattle.page_model.proofs.FrameLemmas.{field_set, field_kept, outside_wider, outside_then, off_part, big_from-same, big_from-shifted, field-written_in}
use Rattle.lob_pages.specs.Entries.{SameBefore}

-- a field of a lone page is the number in the page's bytes
pub alone : (bytes : List ℕ) (at width : ℕ) → field (bytes ∷ []) 0 at width ≡ big_number width (drop at bytes)
unfolding field
alone bytes at width = refl

-- the number in the front of what a slice has
pub read_alone : (bytes : List ℕ) (at width n : ℕ) → width ≤ n → big_number width (take n (drop at bytes)) ≡ field (bytes ∷ []) 0 at width
read_alone bytes at width n few = big_from-take 0 width n (drop at bytes) (omega (arith, few)) ∙ sym (alone bytes at width)

-- the same by equal numbers
pub number_read : (bytes : List ℕ) (at width k w n value : ℕ) → k ≡ at → w ≡ width → width ≤ n → value ≡ big_number w (take n (drop k bytes)) → field (bytes ∷ []) 0 at width ≡ value
number_read bytes at width k w n value is-at is-width few read =
    sym (read ∙ (ap (λ (m : ℕ). big_number m (take n (drop k bytes))) is-width ∙ (ap (λ (m : ℕ). big_number width (take n (drop m bytes))) is-at ∙ read_alone bytes at width n few)))

-- numbers in what is behind a place
pub behind : (bytes : List ℕ) (k i width : ℕ) → field (drop k bytes ∷ []) 0 i width ≡ field (bytes ∷ []) 0 (k + i) width
behind bytes k i width =
    alone (drop k bytes) i width
    ∙ (big_from-same 0 width (drop i (drop k bytes)) (drop (k + i) bytes) (λ j low high.
    get_or-drop i (drop k bytes) j 0 ∙ (get_or-drop k bytes (i + j) 0 ∙ (ap (λ (m : ℕ). get_or bytes m 0) (omega arith) ∙ sym (get_or-drop (k + i) bytes j 0))))
    ∙ sym (alone bytes (k + i) width))

-- a field of bytes is a number that its width can hold
pub small_alone : (bytes : List ℕ) (at width : ℕ) → ((i : ℕ) → slice_index bytes i < 256) → field (bytes ∷ []) 0 at width < 256 ^ width
small_alone bytes at width each =
    let same : field (bytes ∷ []) 0 at width ≡ big_from at width bytes = alone bytes at width ∙ big_from-shifted 0 at width (drop at bytes) bytes (λ k below. ap (λ (m : ℕ). get_or (drop at bytes) m 0) (omega arith) ∙ get_or-drop at bytes k 0) in
    omega (arith, same, big_from-lt at width bytes each)

-- bytes that a number was written in
pub put_sets : (old new : List ℕ) (at width value : ℕ) → at + width ≤ length old → value < 256 ^ width → new ≡ patched old at (big_bytes width value) → SetsField 0 at width value (old ∷ []) (new ∷ [])
unfolding written
put_sets old new at width value within small is =
    let P : List ℕ → Type 0 = λ p. SetsField 0 at width value (old ∷ []) (p ∷ []) in
    subst P (sym is) (field_set (old ∷ []) 0 at width value (record { there = lit≤ tt; within = within }) small)

-- two numbers are an address
pub both_set : (at : ℕ) (x : Address) (a b c : Pages) → SetsField 0 at 4 x.page a b → SetsField 0 (at + 4) 2 x.at b c → SetsAddress 0 at x a c
both_set at x a b c s t = record {
  here = ap₂ (λ (p k : ℕ). let y : Address = record { page = p; at = k } in y) (field_kept (span 0 (at + 4) 2 ∷ []) b c 0 at 4 t.outside (inr (inl (omega arith)), tt) ∙ s.here) t.here;
  outside = outside_wider (span 0 at 4 ∷ span 0 (at + 4) 2 ∷ []) (span 0 at 6 ∷ []) a c
      (λ n k off. (off_part 0 at 6 at 4 n k (omega arith) (omega arith) off.0, (off_part 0 at 6 (at + 4) 2 n k (omega arith) (omega arith) off.0, tt)))
      (outside_then (span 0 at 4 ∷ []) (span 0 (at + 4) 2 ∷ []) a b c s.outside t.outside);
}

-- ---- numbers written one behind another

-- a field stays where nothing before its end changes
pub field_before : (n i width : ℕ) (a b : Pages) → SameBefore n a b → i + width ≤ n → field b 0 i width ≡ field a 0 i width
unfolding field
field_before n i width a b same within =
    big_from-same 0 width _ _ (λ k low high. get_or-drop i (page_at b 0) k 0 ∙ same (i + k) (omega arith) ∙ sym (get_or-drop i (page_at a 0) k 0))

-- so does an address
pub address_before : (n i : ℕ) (a b : Pages) → SameBefore n a b → i + 6 ≤ n → address_at b 0 i ≡ address_at a 0 i
address_before n i a b same within =
    ap₂ (λ (p k : ℕ). let y : Address = record { page = p; at = k } in y) (field_before n i 4 a b same (omega arith)) (field_before n (i + 4) 2 a b same (omega arith))

-- a page is the same as itself before any place
pub same_still : (n : ℕ) (a : Pages) → SameBefore n a a
same_still n a k below = refl

-- a number, and then others behind it
pub then_number : (n width v : ℕ) (a b c : Pages) → SetsField 0 n width v a b → SameBefore (n + width) b c → (field c 0 n width ≡ v) × SameBefore n a c
then_number n width v a b c s same = (field_before (n + width) n width b c same (omega arith) ∙ s.here, λ k below. same k (omega arith) ∙ s.outside.bytes 0 k (inr (inl below), tt))

-- an address that was set stays, with what is before it, where only bytes behind it change
pub then_address : (n : ℕ) (x : Address) (a b c : Pages) → SetsAddress 0 n x a b → SameBefore (n + 6) b c → (address_at c 0 n ≡ x) × SameBefore n a c
then_address n x a b c s same = (address_before (n + 6) n b c same (omega arith) ∙ s.here, λ k below. same k (omega arith) ∙ s.outside.bytes 0 k (inr (inl below), tt))

-- ---- bytes in a page

-- a field within bytes that were written is that field of the bytes
pub in_written : (pages : Pages) (page at : ℕ) (bytes : List ℕ) → Fits pages page at (length bytes)
    → (i width at' : ℕ) → i + width ≤ length bytes → at' ≡ at + i → field (written pages page at bytes) page at' width ≡ field (bytes ∷ []) 0 i width
in_written pages page at bytes fits i width at' inside is =
    ap (λ (m : ℕ). field (written pages page at bytes) page m width) is ∙ field-written_in pages page at bytes i width fits inside ∙ sym (alone bytes i width)

-- a field within bytes that were read is that field of the bytes
pub in_read : (pages : Pages) (page at n : ℕ) (bytes : List ℕ) → bytes ≡ bytes_at pages page at n
    → (i width at' : ℕ) → i + width ≤ n → at' ≡ at + i → field pages page at' width ≡ field (bytes ∷ []) 0 i width
unfolding field
in_read pages page at n bytes same i width at' inside is =
    let p = page_at pages page in
    ap (λ (m : ℕ). field pages page m width) is
    ∙ big_from-same 0 width (drop (at + i) p) (drop i (take n (drop at p))) (λ k low high.
    get_or-drop (at + i) p k 0 ∙ ap (λ (m : ℕ). get_or p m 0) (omega arith)
    ∙ sym (get_or-drop i (take n (drop at p)) k 0 ∙ get_or-take n (drop at p) (i + k) 0 (omega arith) ∙ get_or-drop at p (i + k) 0))
    ∙ ap (λ (xs : List ℕ). big_number width (drop i xs)) (sym same)
