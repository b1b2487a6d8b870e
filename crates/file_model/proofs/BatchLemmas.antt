-- Doublewrite batches: what is copied over hides what was there, and what stays where other bytes change.
use Rattle.std.proofs.Common.{◌≡◌, inl, inr, ⊎_elim, ℕ, ◌+◌, ◌*◌, ◌<◌, ◌≤◌, Bool, ◌&&◌, List, [], ◌∷◌, length, map, slice_set, nat_le, if◌then◌else◌, refl, sym, ap, ap₂, subst, ◌∙◌, arith}
use Rattle.std.specs.List.{range_with_len}
use Rattle.std.proofs.lemmas.Bool.{cases_eq, cases_lt, lt-leb}
use Rattle.std.proofs.lemmas.List.{ext_get_or, get_or_past, length-set, get_or-set_same, get_or-set_other}
use Rattle.std.proofs.lemmas.List.FromFn.{fill_by_all, get_or-map-range_with_len, length-map-range_with_len}
use Rattle.byteorder.specs.Endian.{big_number}
use Rattle.page_model.specs.Pages.{Pages, page_bytes, page_at}
use Rattle.file_model.specs.declared.layout.Layout.{Layout}
use Rattle.file_model.specs.Sections.{part, count_place, image_place, max_batch, page_place, wanted, logs_place}
use Rattle.file_model.specs.Changes.{SameElsewhere, Range}
use Rattle.file_model.specs.Doublewrite.{Batch, numbers, copied, IsNamed, SameButPages, count_in, number_in, image_in, batch_in, are_below, header_batch, homes, InPages}
use Rattle.file_model.proofs.PartLemmas.{part_same}

-- ---- pages

length-copied : (batch : Batch) (pages : Pages) → length (copied batch pages) ≡ length pages
length-copied [] pages = refl
length-copied (b ∷ batch) pages = length-copied batch (slice_set pages b.0 b.1) ∙ length-set pages b.0 b.1

set_named : (b : ℕ × List ℕ) (ns : List ℕ) (p q : Pages) → SameButPages (b.0 ∷ ns) p q → SameButPages ns (slice_set p b.0 b.1) (slice_set q b.0 b.1)
set_named b ns p q same = record {
  many = length-set q b.0 b.1 ∙ same.many ∙ sym (length-set p b.0 b.1);
  each = λ n off. elim (cases_eq n b.0) [
    | inl here ↦ elim (cases_lt n (length p)) [
      | inl low ↦ let in_q : n < length q = omega (arith, same.many) in
          rw here (get_or-set_same q b.0 b.1 [] (rw (← here) in_q) ∙ sym (get_or-set_same p b.0 b.1 [] (rw (← here) low)))
      | inr past ↦ get_or_past (slice_set q b.0 b.1) n [] (omega (arith, length-set q b.0 b.1, same.many)) ∙ sym (get_or_past (slice_set p b.0 b.1) n [] (omega (arith, length-set p b.0 b.1)))
    ]
    | inr other ↦ get_or-set_other q b.0 n b.1 [] other ∙ same.each n (λ named. ⊎_elim other off named) ∙ sym (get_or-set_other p b.0 n b.1 [] other)
  ];
}

-- what a batch is copied over doesn't matter where its pages are concerned
pub copied_same : (batch : Batch) (p q : Pages) → SameButPages (numbers batch) p q → copied batch q ≡ copied batch p
copied_same [] p q same = ext_get_or [] q p same.many (λ n low. same.each n (λ named. named))
copied_same (b ∷ batch) p q same = copied_same batch (slice_set p b.0 b.1) (slice_set q b.0 b.1) (set_named b (numbers batch) p q same)

-- copying changes the batch's pages alone
pub copied_elsewhere : (batch : Batch) (p : Pages) → SameButPages (numbers batch) p (copied batch p)
copied_elsewhere [] p = record { many = refl; each = λ n off. refl }
copied_elsewhere (b ∷ batch) p =
    let rest = copied_elsewhere batch (slice_set p b.0 b.1) in
    record {
      many = rest.many ∙ length-set p b.0 b.1;
      each = λ n off. rest.each n (λ named. off (inr named)) ∙ get_or-set_other p b.0 n b.1 [] (λ here. off (inl here));
    }

-- so copying once more changes nothing
pub copied_again : (batch : Batch) (p : Pages) → copied batch (copied batch p) ≡ copied batch p
copied_again batch p = copied_same batch p (copied batch p) (copied_elsewhere batch p)

-- ---- homes

map_range_same : {X : Type 0} (f g : ℕ → X) (n : ℕ) (d : X) → ((i : ℕ) → i < n → f i ≡ g i) → map f (range_with_len 0 n) ≡ map g (range_with_len 0 n)
map_range_same f g n d same =
    fill_by_all g (map f (range_with_len 0 n)) n d (length-map-range_with_len f 0 n) (λ k low. get_or-map-range_with_len f 0 n k k d low (omega arith) ∙ same k low)

-- a file has as many pages at their places as the layout tells
pub length-homes : (l : Layout) (file : List ℕ) → length (homes l file) ≡ l.pages
unfolding homes
length-homes l file = length-map-range_with_len (λ n. part file (page_place l n) page_bytes) 0 l.pages

-- page n of a file is the part of it at the page's place
pub page_at-homes : (l : Layout) (file : List ℕ) (n : ℕ) → n < l.pages → page_at (homes l file) n ≡ part file (page_place l n) page_bytes
unfolding homes
page_at-homes l file n low = get_or-map-range_with_len (λ n. part file (page_place l n) page_bytes) 0 l.pages n n [] low (omega arith)

-- pages none of whose places are among those stay
pub homes_kept : (l : Layout) (places : ℕ → Type 0) (ns : List ℕ) (old new : List ℕ) → wanted l ≤ length old → SameElsewhere places old new
    → ((n i : ℕ) → n < l.pages → ¬ (IsNamed ns n) → Range (page_place l n) page_bytes i → ¬ (places i)) → SameButPages ns (homes l old) (homes l new)
homes_kept l places ns old new whole same off = record {
  many = length-homes l new ∙ sym (length-homes l old);
  each = λ n out. elim (cases_lt n l.pages) [
    | inl low ↦ page_at-homes l new n low ∙ part_same places old new (page_place l n) page_bytes same (omega (arith, whole)) (λ i from to. off n i low out (from, to)) ∙ sym (page_at-homes l old n low)
    | inr past ↦ get_or_past (homes l new) n [] (omega (arith, length-homes l new)) ∙ sym (get_or_past (homes l old) n [] (omega (arith, length-homes l old)))
  ];
}

-- all pages stay where nothing among them changes
pub homes_same : (l : Layout) (places : ℕ → Type 0) (old new : List ℕ) → wanted l ≤ length old → SameElsewhere places old new
    → ((i : ℕ) → page_place l 0 ≤ i → ¬ (places i)) → homes l new ≡ homes l old
homes_same l places old new whole same off =
    copied_same [] (homes l old) (homes l new) (homes_kept l places [] old new whole same (λ n i low out (from, to). off i (omega arith)))

pub in_named : (l : Layout) (ns : List ℕ) (n i : ℕ) → Range (page_place l n) page_bytes i → InPages l ns i → IsNamed ns n
in_named l ns n i (from, to) (m, named, (low, high)) = let same : m ≡ n = omega arith in subst (IsNamed ns) same named

-- where only some pages change, the others stay
pub homes_others : (l : Layout) (ns old new : List ℕ) → wanted l ≤ length old → SameElsewhere (InPages l ns) old new → SameButPages ns (homes l old) (homes l new)
homes_others l ns old new whole same = homes_kept l (InPages l ns) ns old new whole same (λ n i low out within inner. out (in_named l ns n i within inner))

-- ---- headers

-- n bytes of the batch's header and images are the same
abbrev SameArea : List ℕ → List ℕ → Type 0
SameArea old new = (a m : ℕ) → count_place ≤ a → a + m ≤ logs_place → part new a m ≡ part old a m

batch_same : (old new : List ℕ) (n : ℕ) → n ≤ 32 → SameArea old new → batch_in new n ≡ batch_in old n
batch_same old new n few same =
    map_range_same (λ i. (number_in new i, image_in new i)) (λ i. (number_in old i, image_in old i)) n (0, []) λ i low.
    ap₂ (λ (x : ℕ) (y : List ℕ). (x, y)) (ap (big_number 4) (same (count_place + 4 + 4 * i) 4 (omega arith) (omega arith))) (same (image_place i) page_bytes (omega arith) (omega arith))

-- where the area of the batch is the same, the batch of the header is
pub header_same : (l : Layout) (old new : List ℕ) → SameArea old new → header_batch l new ≡ header_batch l old
unfolding header_batch
header_same l old new same =
    let count : count_in new ≡ count_in old = ap (big_number 4) (same count_place 4 (omega arith) (omega arith)) in
    elim (cases_lt 32 (count_in old)) [
      | inl many ↦ none new (omega (arith, count)) ∙ sym (none old many)
      | inr few ↦ let batches : batch_in new (count_in new) ≡ batch_in old (count_in old) = ap (batch_in new) count ∙ batch_same old new (count_in old) few same in
          ap₂ (λ (n : ℕ) (b : Batch). if nat_le n max_batch && are_below l.pages b then b else []) count batches
    ]
  where
    none : (file : List ℕ) → 32 < count_in file → (if nat_le (count_in file) max_batch && are_below l.pages (batch_in file (count_in file)) then batch_in file (count_in file) else []) ≡ []
    none file many = ap (λ (t : Bool). if t && are_below l.pages (batch_in file (count_in file)) then batch_in file (count_in file) else []) (lt-leb (count_in file) 32 many)
