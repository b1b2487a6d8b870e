-- A buffer of a batch, on a file and with one page more.
use Rattle.std.proofs.Common.{◌≡◌, ◌⊎◌, inl, inr, ℕ, ◌+◌, ◌*◌, ◌^◌, ◌<◌, ◌≤◌, Bool, ◌&&◌, List, [], ◌∷◌, ◌++◌, length, map, take, drop, slice_index, replicate, nat_le, nat_lt, if◌then◌else◌, refl, sym, ap, ap₂, ◌∙◌, arith}
use Rattle.std.specs.List.{range_with_len}
use Rattle.std.proofs.lemmas.Bool.{and_from, le-leb, lt-ltb}
use Rattle.std.proofs.lemmas.List.{append-nil, length-replicate, drop_at, take_at, length-take-le, length-append, get_or_append_left, get_or-append_right}
use Rattle.std.proofs.lemmas.List.Folds.{list_all-append}
use Rattle.std.proofs.lemmas.List.FromFn.{fill_by_all, get_or-map-range_with_len, length-map-range_with_len, map-range_with_len_more}
use Rattle.engine_base.specs.Disk.{Holds}
use Rattle.byteorder.specs.Endian.{big_number, big_bytes}
use Rattle.byteorder.specs.Numbers.{big_number-reads_back, length-bytes_high_first}
use Rattle.page_model.specs.Pages.{page_bytes, patched}
use Rattle.page_model.proofs.FrameLemmas.{length-patched, get_or-patched}
use Rattle.file_model.specs.declared.layout.Layout.{Layout}
use Rattle.file_model.specs.Sections.{part, count_place, max_batch, IsInLimits}
use Rattle.file_model.specs.Doublewrite.{Batch, are_below, count_in, number_in, image_in, batch_in, header_batch}
use Rattle.file_model.proofs.PartLemmas.{held_part, same_parts, part_whole}
use Rattle.doublewrite.specs.Batches.{images_at, number_of, image_of, batch_of, KeepsBatch}

-- functions that agree on the numbers below n give the same list over them
pub range_same : {X : Type 0} (f g : ℕ → X) (n : ℕ) (d : X) → ((i : ℕ) → i < n → f i ≡ g i) → map f (range_with_len 0 n) ≡ map g (range_with_len 0 n)
range_same f g n d same =
    fill_by_all g (map f (range_with_len 0 n)) n d (length-map-range_with_len f 0 n) (λ k low. get_or-map-range_with_len f 0 n k k d low (omega arith) ∙ same k low)

-- ---- on a file

module _ (l : Layout) (count : ℕ) (buffer file : List ℕ) (keeps : KeepsBatch l count buffer) (holds : Holds file count_place buffer) where
  few : count ≤ 32
  few = keeps.few

  size : length buffer ≡ images_at + page_bytes * count
  size = keeps.size

  count_read : count_in file ≡ count
  count_read = ap (λ (k : ℕ). big_number 4 (part file k 4)) (omega arith) ∙ ap (big_number 4) (held_part file buffer count_place 0 4 holds (omega (arith, size))) ∙ keeps.head

  number_read : (i : ℕ) → i < count → number_in file i ≡ number_of buffer i
  number_read i low =
      ap (λ (k : ℕ). big_number 4 (part file k 4)) (omega arith) ∙ ap (big_number 4) (held_part file buffer count_place (4 + 4 * i) 4 holds (omega (arith, size, few)))

  image_read : (i : ℕ) → i < count → image_in file i ≡ image_of buffer i
  image_read i low = ap (λ (k : ℕ). part file k page_bytes) (omega arith) ∙ held_part file buffer count_place (images_at + page_bytes * i) page_bytes holds (omega (arith, size))

  batch_read : batch_in file (count_in file) ≡ batch_of count buffer
  batch_read =
      ap (batch_in file) count_read
      ∙ range_same (λ i. (number_in file i, image_in file i)) (λ i. (number_of buffer i, image_of buffer i)) count (0, []) (λ i low. ap₂ (λ (x : ℕ) (y : List ℕ). (x, y)) (number_read i low) (image_read i low))

  pub header_read : header_batch l file ≡ batch_of count buffer
  unfolding header_batch
  header_read =
      ap₂ (λ (n : ℕ) (b : Batch). if nat_le n max_batch && are_below l.pages b then b else []) count_read batch_read
      ∙ ap (λ (t : Bool). if t then batch_of count buffer else []) (and_from _ _ (le-leb _ _ few) keeps.below)

-- ---- one page more

patched_part : (page : List ℕ) (at : ℕ) (bytes : List ℕ) → at ≤ length page → part (patched page at bytes) at (length bytes) ≡ bytes
unfolding part
patched_part page at bytes low =
    ap (take (length bytes)) (drop_at (take at page) (bytes ++ drop (at + length bytes) page) at (length-take-le at page low)) ∙ take_at bytes (drop (at + length bytes) page) (length bytes) refl

field_read : (xs : List ℕ) (at v : ℕ) → part xs at 4 ≡ big_bytes 4 v → v < 2 ^ 32 → big_number 4 (part xs at 4) ≡ v
field_read xs at v is small = ap (big_number 4) (is ∙ sym (append-nil (big_bytes 4 v))) ∙ big_number-reads_back 4 v [] small

module _ (count page : ℕ) (old image new : List ℕ) (few : count < 32) (size : length old ≡ images_at + page_bytes * count) (whole : length image ≡ page_bytes) (small : page < 2 ^ 32)
    (is : new ≡ patched (patched (old ++ image) (4 + 4 * count) (big_bytes 4 page)) 0 (big_bytes 4 (count + 1))) where
  long : length (old ++ image) ≡ images_at + page_bytes * (count + 1)
  long = omega (arith, length-append old image)

  mid : List ℕ
  mid = patched (old ++ image) (4 + 4 * count) (big_bytes 4 page)

  four : (n : ℕ) → length (big_bytes 4 n) ≡ 4
  four n = length-bytes_high_first 4 n

  length_mid : length (patched (old ++ image) (4 + 4 * count) (big_bytes 4 page)) ≡ images_at + page_bytes * (count + 1)
  length_mid = length-patched (old ++ image) (4 + 4 * count) (big_bytes 4 page) (omega (arith, long, four page, few)) ∙ long

  pub length_more : length new ≡ images_at + page_bytes * (count + 1)
  length_more = ap length is ∙ length-patched (patched (old ++ image) (4 + 4 * count) (big_bytes 4 page)) 0 (big_bytes 4 (count + 1)) (omega (arith, length_mid, four (count + 1))) ∙ length_mid

  -- a byte behind the count and the new number
  other_byte : (k : ℕ) → 4 ≤ k → (k < 4 + 4 * count) ⊎ (8 + 4 * count ≤ k) → slice_index new k ≡ slice_index (old ++ image) k
  other_byte k behind off =
      ap (λ (xs : List ℕ). slice_index xs k) is
      ∙ get_or-patched (patched (old ++ image) (4 + 4 * count) (big_bytes 4 page)) 0 (big_bytes 4 (count + 1)) k 0 (omega (arith, length_mid, four (count + 1))) (inr (omega (arith, four (count + 1))))
      ∙ get_or-patched (old ++ image) (4 + 4 * count) (big_bytes 4 page) k 0 (omega (arith, long, four page, few)) (side off)
    where
      side : (k < 4 + 4 * count) ⊎ (8 + 4 * count ≤ k) → (k < 4 + 4 * count) ⊎ (4 + 4 * count + length (big_bytes 4 page) ≤ k)
      side (inl low) = inl low
      side (inr high) = inr (omega (arith, four page))

  pub head_more : big_number 4 (part new 0 4) ≡ count + 1
  head_more =
      field_read new 0 (count + 1)
      (ap (λ (xs : List ℕ). part xs 0 4) is ∙ ap (part (patched (patched (old ++ image) (4 + 4 * count) (big_bytes 4 page)) 0 (big_bytes 4 (count + 1))) 0) (sym (four (count + 1)))
      ∙ patched_part (patched (old ++ image) (4 + 4 * count) (big_bytes 4 page)) 0 (big_bytes 4 (count + 1)) (omega arith))
      (omega arith)

  pub number_more : number_of new count ≡ page
  number_more =
      field_read new (4 + 4 * count) page
      (same_parts new (patched (old ++ image) (4 + 4 * count) (big_bytes 4 page)) (4 + 4 * count) (4 + 4 * count) 4 (omega (arith, length_more)) (omega (arith, length_mid)) (λ j low.
      ap (λ (xs : List ℕ). slice_index xs (4 + 4 * count + j)) is
      ∙ get_or-patched (patched (old ++ image) (4 + 4 * count) (big_bytes 4 page)) 0 (big_bytes 4 (count + 1)) (4 + 4 * count + j) 0 (omega (arith, length_mid, four (count + 1))) (inr (omega (arith, four (count + 1)))))
      ∙ ap (part (patched (old ++ image) (4 + 4 * count) (big_bytes 4 page)) (4 + 4 * count)) (sym (four page))
      ∙ patched_part (old ++ image) (4 + 4 * count) (big_bytes 4 page) (omega (arith, long)))
      small

  number_same : (i : ℕ) → i < count → number_of new i ≡ number_of old i
  number_same i low =
      ap (big_number 4) (same_parts new old (4 + 4 * i) (4 + 4 * i) 4 (omega (arith, length_more)) (omega (arith, size)) λ j below.
      other_byte (4 + 4 * i + j) (omega arith) (inl (omega arith)) ∙ get_or_append_left old image 0 (4 + 4 * i + j) (omega (arith, size)))

  image_same : (i : ℕ) → i < count → image_of new i ≡ image_of old i
  image_same i low =
      same_parts new old (images_at + page_bytes * i) (images_at + page_bytes * i) page_bytes (omega (arith, length_more)) (omega (arith, size)) λ j below.
      other_byte (images_at + page_bytes * i + j) (omega arith) (inr (omega arith)) ∙ get_or_append_left old image 0 (images_at + page_bytes * i + j) (omega (arith, size))

  image_more : image_of new count ≡ image
  image_more =
      same_parts new image (images_at + page_bytes * count) 0 page_bytes (omega (arith, length_more)) (omega (arith, whole)) (λ j below.
      other_byte (images_at + page_bytes * count + j) (omega arith) (inr (omega arith))
      ∙ get_or-append_right old image (images_at + page_bytes * count) (images_at + page_bytes * count + j) 0 size (omega arith) ∙ ap (slice_index image) (omega arith))
      ∙ ap (part image 0) (sym whole) ∙ part_whole image

  pub batch_more : batch_of (count + 1) new ≡ batch_of count old ++ (page, image) ∷ []
  batch_more =
      map-range_with_len_more (λ i. (number_of new i, image_of new i)) 0 count count (omega arith)
      ∙ ap₂ (λ (b : Batch) (e : ℕ × List ℕ). b ++ e ∷ [])
      (range_same (λ i. (number_of new i, image_of new i)) (λ i. (number_of old i, image_of old i)) count (0, []) (λ i low. ap₂ (λ (x : ℕ) (y : List ℕ). (x, y)) (number_same i low) (image_same i low)))
      (ap₂ (λ (x : ℕ) (y : List ℕ). (x, y)) number_more image_more)

  pub keeps_more : (l : Layout) → KeepsBatch l count old → page < l.pages → KeepsBatch l (count + 1) new
  keeps_more l keeps below = record {
    limits = keeps.limits;
    few = omega arith;
    head = head_more;
    size = length_more;
    below = ap (are_below l.pages) batch_more ∙ list_all-append (λ (b : ℕ × List ℕ). nat_lt b.0 l.pages) (batch_of count old) ((page, image) ∷ [])
        ∙ and_from _ _ keeps.below (and_from _ _ (lt-ltb _ _ below) refl);
  }

-- ---- no pages

zeros : big_number 4 (part (replicate images_at 0) 0 4) ≡ 0
unfolding part
zeros = refl

-- a buffer of zeros up to the images keeps a batch without pages
pub keeps_none : (l : Layout) (buffer : List ℕ) → IsInLimits l → buffer ≡ replicate images_at 0 → KeepsBatch l 0 buffer
keeps_none l buffer limits is = record {
  limits = limits;
  few = omega arith;
  head = ap (λ (xs : List ℕ). big_number 4 (part xs 0 4)) is ∙ zeros;
  size = ap length is ∙ length-replicate {A = ℕ} images_at 0;
  below = refl;
}

-- the batch in a buffer has as many pages as the count tells
pub length-batch : (count : ℕ) (buffer : List ℕ) → length (batch_of count buffer) ≡ count
length-batch count buffer = length-map-range_with_len (λ i. (number_of buffer i, image_of buffer i)) 0 count
