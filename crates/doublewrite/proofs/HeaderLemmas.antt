-- What a header on a file says.
use Rattle.std.proofs.Common.{◌≡◌, ℕ, suc, ◌+◌, ◌*◌, ◌<◌, ◌≤◌, Bool, true, false, ◌&&◌, List, [], ◌∷◌, length, get_or, nat_le, nat_lt, if◌then◌else◌, refl, ap, ◌∙◌, arith}
use Rattle.std.specs.List.{list_all}
use Rattle.std.proofs.lemmas.Bool.{and_from, and_right, le-leb, lt-ltb, lt-leb, le-ltb}
use Rattle.std.proofs.lemmas.List.Folds.{list_all_at}
use Rattle.std.proofs.lemmas.List.FromFn.{get_or-map-range_with_len, length-map-range_with_len}
use Rattle.engine_base.specs.Disk.{Holds}
use Rattle.byteorder.specs.Endian.{big_number}
use Rattle.byteorder.specs.Numbers.{big_from-take}
use Rattle.file_model.specs.declared.layout.Layout.{Layout}
use Rattle.file_model.specs.Sections.{part, count_place, max_batch}
use Rattle.file_model.specs.Doublewrite.{Batch, are_below, count_in, number_in, image_in, batch_in, header_batch}
use Rattle.file_model.proofs.PartLemmas.{held_part}
use Rattle.doublewrite.specs.Batches.{number_of}

all_pass : (p : ℕ × List ℕ → Bool) (xs : Batch) (d : ℕ × List ℕ) → ((k : ℕ) → k < length xs → p (get_or xs k d) ≡ true) → list_all p xs ≡ true
all_pass p [] d each = refl
all_pass p (x ∷ xs) d each = and_from _ _ (each 0 (omega arith)) (all_pass p xs d (λ k low. each (suc k) (omega arith)))

front_number : (xs : List ℕ) → big_number 4 (part xs 0 4) ≡ big_number 4 xs
unfolding part
front_number xs = big_from-take 0 4 4 xs (omega arith)

module _ (header file : List ℕ) (size : length header ≡ 132) (holds : Holds file count_place header) where
  pub count_read : count_in file ≡ big_number 4 header
  count_read =
      ap (λ (k : ℕ). big_number 4 (part file k 4)) (let e : count_place ≡ count_place + 0 = omega arith in e) ∙ ap (big_number 4) (held_part file header count_place 0 4 holds (omega (arith, size)))
      ∙ front_number header

  pub number_read : (i : ℕ) → i < 32 → number_in file i ≡ number_of header i
  number_read i low =
      ap (λ (k : ℕ). big_number 4 (part file k 4)) (let e : count_place + 4 + 4 * i ≡ count_place + (4 + 4 * i) = omega arith in e)
      ∙ ap (big_number 4) (held_part file header count_place (4 + 4 * i) 4 holds (omega (arith, size)))

  module _ (l : Layout) (pages : ℕ) (same : l.pages ≡ pages) where
    abbrev p : ℕ × List ℕ → Bool
    p = λ b. nat_lt b.0 l.pages

    pub many : 32 < big_number 4 header → header_batch l file ≡ []
    unfolding header_batch
    many over = ap (λ (t : Bool). if t && are_below l.pages (batch_in file (count_in file)) then batch_in file (count_in file) else []) (lt-leb (count_in file) 32 (omega (arith, over, count_read)))

    entry : (n i : ℕ) → i < n → n ≤ 32 → p (get_or (batch_in file n) i (0, [])) ≡ nat_lt (number_of header i) l.pages
    entry n i low most =
        ap p (get_or-map-range_with_len (λ i. (number_in file i, image_in file i)) 0 n i i (0, []) low (omega arith)) ∙ ap (λ (k : ℕ). nat_lt k l.pages) (number_read i (omega arith))

    pub beyond : (i : ℕ) → i < big_number 4 header → big_number 4 header ≤ 32 → pages ≤ number_of header i → header_batch l file ≡ []
    unfolding header_batch
    beyond i low most over =
        let n = count_in file in
        let few : i < n = omega (arith, low, count_read) in
        let all : are_below l.pages (batch_in file n) ≡ false =
        list_all_at p (batch_in file n) i (0, []) (omega (arith, few, length-map-range_with_len {X = ℕ × List ℕ} (λ i. (number_in file i, image_in file i)) 0 n)) (entry n i few (omega (arith, most, count_read)) ∙ le-ltb _ _ (omega (arith, over, same))) in
        ap (λ (t : Bool). if t then batch_in file n else []) (and_right (nat_le n max_batch) (are_below l.pages (batch_in file n)) all)

    pub valid : big_number 4 header ≤ 32 → ((i : ℕ) → i < big_number 4 header → number_of header i < pages) → header_batch l file ≡ batch_in file (big_number 4 header)
    unfolding header_batch
    valid most below =
        let n = count_in file in
        let all : are_below l.pages (batch_in file n) ≡ true =
        all_pass p (batch_in file n) (0, []) (λ k low.
        let few : k < n = omega (arith, low, length-map-range_with_len {X = ℕ × List ℕ} (λ i. (number_in file i, image_in file i)) 0 n) in
        entry n k few (omega (arith, most, count_read)) ∙ lt-ltb _ _ (let b = below k (omega (arith, few, count_read)) in omega (arith, b, same))) in
        ap (λ (t : Bool). if t then batch_in file n else []) (and_from _ _ (le-leb _ _ (omega (arith, most, count_read))) all) ∙ ap (batch_in file) count_read
