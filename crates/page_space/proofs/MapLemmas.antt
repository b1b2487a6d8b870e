-- A map under the writes of a bit and of the count, and its free pages counted.
use Rattle.std.proofs.Common.{◌≡◌, ◌≢◌, inl, inr, ℕ, zero, suc, ◌+◌, ◌-◌, ◌*◌, ◌/◌, ◌%◌, ◌<◌, ◌≤◌, ◌==◌, Bool, true, false, List, [], ◌∷◌, length, drop, get_or, Option, Some, None, IfSome, IfNone, refl, sym, ap, ap₂, subst, ◌∙◌, arith}
use Rattle.std.specs.Int.{bit_at}
use Rattle.std.proofs.lemmas.Bool.{cases_eq, cases_lt, eq-eqb}
use Rattle.std.proofs.lemmas.List.{get_or-drop, get_or-take}
use Rattle.page_model.specs.Pages.{Pages, page_at, byte, bytes_at, field}
use Rattle.page_model.specs.Spans.{Span, span, IsOff, IsApartFromAll, SameOutside, SetsField}
use Rattle.page_model.specs.Steps.{Told, Becomes}
use Rattle.page_model.proofs.FrameLemmas.{field_kept, apart_off, outside_then, outside_wider}
use Rattle.page_model.proofs.StepLemmas.{told_step}
use Rattle.page_space.specs.declared.count.Found.{Found}
use Rattle.page_space.specs.Bits.{ChangesBit, map_bit, AreOnes, IsLowestZero}
use Rattle.page_space.specs.Map.{IsSize, place_of, bit, IsUsed, IsFree, zeros, free_of, IsMap, SetsBit, TakesPage, GivesPage, IsLowestFree, max_pages}

-- ---- bytes and bits

-- a field of one byte is the byte that stands there
pub field-byte : (pages : Pages) (page at : ℕ) → field pages page at 1 ≡ byte pages page at
unfolding field
field-byte pages page at =
    let there = get_or-drop at (page_at pages page) 0 0 in
    let P : ℕ → Type 0 = λ n. get_or (drop at (page_at pages page)) 0 0 * 1 + 0 ≡ n in
    omega (arith, there, ap (λ (k : ℕ). get_or (page_at pages page) k 0) (add_zero at))
  where
    add_zero : (n : ℕ) → n + 0 ≡ n
    add_zero n = omega arith

-- a bit of the bytes of a map that were read
pub bit_read : (pages : Pages) (map : List ℕ) (k : ℕ) → map ≡ bytes_at pages 0 128 4_096 → k < max_pages → map_bit map k ≡ bit pages k
bit_read pages map k is below =
    ap (λ (m : List ℕ). map_bit m k) is
    ∙ ap (λ (b : ℕ). bit_at b (k % 8)) (get_or-take 4_096 (drop 128 (page_at pages 0)) (k / 8) 0 (omega arith) ∙ get_or-drop 128 (page_at pages 0) (k / 8) 0)

-- ---- how many pages are free

pub zeros_same : (old new : Pages) (n : ℕ) → ((k : ℕ) → k < n → bit new k ≡ bit old k) → zeros new n ≡ zeros old n
unfolding zeros
zeros_same old new zero same = refl
zeros_same old new (suc n) same = ap₂ (λ (a b : ℕ). a + (1 - b)) (zeros_same old new n (λ k below. same k (omega arith))) (same n (omega arith))

pub zeros_bound : (pages : Pages) (n : ℕ) → zeros pages n ≤ n
unfolding zeros
zeros_bound pages zero = omega arith
zeros_bound pages (suc n) = omega (arith, zeros_bound pages n)

pub zeros_none : (pages : Pages) (n : ℕ) → ((k : ℕ) → k < n → IsUsed pages k) → zeros pages n ≡ 0
unfolding zeros
zeros_none pages zero used = refl
zeros_none pages (suc n) used = omega (arith, zeros_none pages n (λ k below. used k (omega arith)), used n (omega arith))

-- one page fewer, or more, where one bit differs
pub zeros_fewer : (old new : Pages) (page n : ℕ) → page < n → bit old page ≡ 0 → bit new page ≡ 1 → ((k : ℕ) → k ≢ page → bit new k ≡ bit old k) → zeros new n + 1 ≡ zeros old n
unfolding zeros
zeros_fewer old new page zero below free used others = absurd (omega arith)
zeros_fewer old new page (suc n) below free used others = elim (cases_eq page n) [
  | inl same ↦
      let before = zeros_same old new n (λ k low. others k (omega arith)) in
      let was : bit old n ≡ 0 = ap (bit old) (sym same) ∙ free in
      let is : bit new n ≡ 1 = ap (bit new) (sym same) ∙ used in
      omega (arith, before, was, is)
  | inr other ↦ omega (arith, zeros_fewer old new page n (omega arith) free used others, others n (λ e. other (sym e)))
]

-- a used page isn't counted
pub zeros_less : (pages : Pages) (page n : ℕ) → page < n → IsUsed pages page → zeros pages n < n
unfolding zeros
zeros_less pages page zero below used = absurd (omega arith)
zeros_less pages page (suc n) below used = elim (cases_eq page n) [
  | inl same ↦ (let is : bit pages n ≡ 1 = ap (bit pages) (sym same) ∙ used in omega (arith, zeros_bound pages n, is))
  | inr other ↦ omega (arith, zeros_less pages page n (omega arith) used)
]

-- ---- a bit and the count written

off_byte : (k page : ℕ) → k / 8 ≢ page / 8 → IsOff (span 0 (place_of page) 1) 0 (place_of k)
off_byte k page other = elim (cases_lt (k / 8) (page / 8)) [
  | inl before ↦ inr (inl (omega arith))
  | inr rest ↦ elim (cases_lt (page / 8) (k / 8)) [
    | inl behind ↦ inr (inr (omega arith))
    | inr equal ↦ absurd (other (omega arith))
  ]
]

pub bit_written : (old mid new : Pages) (page value b b' m : ℕ) → b ≡ byte old 0 (place_of page) → ChangesBit (page % 8) value b b'
    → SetsField 0 (place_of page) 1 b' old mid → SetsField 0 62 4 m mid new → SetsBit page value old new
bit_written old mid new page value b b' m is change s1 s2 =
    let later : (k : ℕ) → byte new 0 (place_of k) ≡ byte mid 0 (place_of k) = λ k. s2.outside.bytes 0 (place_of k) (inr (inr (omega arith)), tt) in
    let here : byte mid 0 (place_of page) ≡ b' = sym (field-byte mid 0 (place_of page)) ∙ s1.here in
    record {
      here = ap (λ (n : ℕ). bit_at n (page % 8)) (later page ∙ here) ∙ change.here;
      others = λ k other. elim (cases_eq (k / 8) (page / 8)) [
        | inl same ↦
            ap (λ (n : ℕ). bit_at n (k % 8)) (later k ∙ ap (λ (j : ℕ). byte mid 0 (128 + j)) same ∙ here)
            ∙ change.others (k % 8) (omega arith) (λ e. other (omega arith))
            ∙ ap (λ (n : ℕ). bit_at n (k % 8)) (is ∙ ap (λ (j : ℕ). byte old 0 (128 + j)) (sym same))
        | inr differ ↦ ap (λ (n : ℕ). bit_at n (k % 8)) (later k ∙ s1.outside.bytes 0 (place_of k) (off_byte k page differ, tt))
      ];
      outside = outside_wider (span 0 (place_of page) 1 ∷ span 0 62 4 ∷ []) (span 0 62 4 ∷ span 0 (place_of page) 1 ∷ []) old new (λ n k off. (off.1.0, (off.0, tt)))
          (outside_then (span 0 (place_of page) 1 ∷ []) (span 0 62 4 ∷ []) old mid new s1.outside s2.outside);
    }

-- the other bits past the pages stay
beyond_kept : (old new : Pages) (page value : ℕ) → SetsBit page value old new → page < length old → IsMap old → (k : ℕ) → length new ≤ k → k < max_pages → IsFree new k
beyond_kept old new page value change there map k past below =
    let many = change.outside.many in
    change.others k (λ e. absurd (omega (arith, many, e))) ∙ map.beyond k (omega (arith, many)) below

size_kept : (old new : Pages) → length new ≡ length old → IsSize (length old) → IsSize (length new)
size_kept old new same size = subst IsSize (sym same) size

pub taken : (old mid new : Pages) (page b b' free : ℕ) → IsMap old → page < length old → IsLowestFree old page b → ChangesBit (page % 8) 1 b b' → free ≡ free_of old → 1 ≤ free
    → SetsField 0 (place_of page) 1 b' old mid → SetsField 0 62 4 (free - 1) mid new → TakesPage page old new
taken old mid new page b b' free map there found change is some s1 s2 =
    let sets = bit_written old mid new page 1 b b' (free - 1) found.same_byte change s1 s2 in
    let many = sets.outside.many in
    let fewer = zeros_fewer old new page (length old) there found.free sets.here sets.others in
    let same : zeros new (length new) ≡ zeros new (length old) = ap (zeros new) many in
    record {
      there = there;
      free = found.free;
      lowest = found.lowest;
      change = sets;
      fewer = omega (arith, s2.here, is, some);
      map = record {
        size = size_kept old new many map.size;
        count = omega (arith, s2.here, is, map.count, fewer, same);
        beyond = beyond_kept old new page 1 sets there map;
      };
    }

pub given : (old mid new : Pages) (page b b' free : ℕ) → IsMap old → page < length old → IsUsed old page → b ≡ byte old 0 (place_of page) → ChangesBit (page % 8) 0 b b' → free ≡ free_of old
    → SetsField 0 (place_of page) 1 b' old mid → SetsField 0 62 4 (free + 1) mid new → GivesPage page old new
given old mid new page b b' free map there used byte_is change is s1 s2 =
    let sets = bit_written old mid new page 0 b b' (free + 1) byte_is change s1 s2 in
    let many = sets.outside.many in
    let more = zeros_fewer new old page (length old) there sets.here used (λ k other. sym (sets.others k other)) in
    let same : zeros new (length new) ≡ zeros new (length old) = ap (zeros new) many in
    record {
      change = sets;
      more = omega (arith, s2.here, is);
      map = record {
        size = size_kept old new many map.size;
        count = omega (arith, s2.here, is, map.count, more, same);
        beyond = beyond_kept old new page 0 sets there map;
      };
    }

-- ---- the frame

-- a map stays where nothing changes but bytes apart from it
pub map_kept : (xs : List Span) (old new : Pages) → SameOutside xs old new → IsApartFromAll xs (span 0 62 4) → IsApartFromAll xs (span 0 128 4_096) → IsMap old → IsMap new
map_kept xs old new same apart apart' map =
    let bits : (k : ℕ) → k < max_pages → bit new k ≡ bit old k = λ k below. ap (λ (n : ℕ). bit_at n (k % 8)) (same.bytes 0 (place_of k) (apart_off xs 0 128 4_096 (k / 8) (omega arith) apart')) in
    let few = map.size.few in
    record {
      size = size_kept old new same.many map.size;
      count = field_kept xs old new 0 62 4 same apart ∙ map.count ∙ sym (zeros_same old new (length old) (λ k below. bits k (omega arith))) ∙ ap (zeros new) (sym same.many);
      beyond = λ k past below. bits k below ∙ map.beyond k (omega (arith, same.many)) below;
    }

-- ---- what is read of a map

-- told pages say what holds of what was read
pub at_told : (o : Option Pages) (Q : Pages → Type 0) (pages : Pages) → o ≡ Some pages → IfSome o Q → Q pages
at_told o Q pages is fact = let P : Option Pages → Type 0 = λ p. IfSome p Q in subst P is fact

-- the count of a map is within the pages
pub count_within : (pages : Pages) → IsMap pages → free_of pages ≤ length pages
count_within pages map = omega (arith, map.count, zeros_bound pages (length pages))

-- where some page is used, fewer pages are free than there are
pub count_below : (pages : Pages) (page : ℕ) → IsMap pages → page < length pages → IsUsed pages page → free_of pages < length pages
count_below pages page map there used = omega (arith, map.count, zeros_less pages page (length pages) there used)

-- where every page is used, none counts as free
pub count_none : (pages : Pages) → IsMap pages → ((k : ℕ) → k < length pages → IsUsed pages k) → free_of pages ≡ 0
count_none pages map used = map.count ∙ zeros_none pages (length pages) used

-- the lowest zero of the bytes that were read is the lowest free page
pub lowest_read : (told : Option Pages) (map : List ℕ) (count k b : ℕ) → count ≤ max_pages → IfSome told (λ pages. map ≡ bytes_at pages 0 128 4_096) → IsLowestZero map count k → b ≡ get_or map (k / 8) 0
    → IfSome told (λ pages. IsLowestFree pages k b)
lowest_read None map count k b few reads lowest is = tt
lowest_read (Some pages) map count k b few reads lowest is =
    let below = lowest.below in
    record {
      free = sym (bit_read pages map k reads (omega arith)) ∙ lowest.zero_here;
      lowest = λ j low. sym (bit_read pages map j reads (omega arith)) ∙ lowest.ones j low;
      same_byte = is ∙ ap (λ (m : List ℕ). get_or m (k / 8) 0) reads ∙ get_or-take 4_096 (drop 128 (page_at pages 0)) (k / 8) 0 (omega arith) ∙ get_or-drop 128 (page_at pages 0) (k / 8) 0;
    }

pub none_read : (told : Option Pages) (map : List ℕ) (count : ℕ) → count ≤ max_pages → IfSome told (λ pages. map ≡ bytes_at pages 0 128 4_096) → AreOnes map count
    → IfSome told (λ pages. (k : ℕ) → k < count → IsUsed pages k)
none_read None map count few reads ones = tt
none_read (Some pages) map count few reads ones = λ k below. sym (bit_read pages map k reads (omega arith)) ∙ ones k below

-- a bit that is 1 isn't told to be 0
pub is_one : (x : ℕ) (r : Bool) → x ≡ 1 → r ≡ (x == 1) → r ≡ false → ⊥
is_one x r one is not = let e : true ≡ false = sym (eq-eqb x 1 one) ∙ sym is ∙ not in cc

-- n bytes read where the map stands are the whole map, where n is 4,096
pub map_there : (told : Option Pages) (map : List ℕ) (n : ℕ) → n ≡ 4_096 → IfSome told (λ pages. map ≡ bytes_at pages 0 128 n) → IfSome told (λ pages. map ≡ bytes_at pages 0 128 4_096)
map_there told map n is reads = let P : ℕ → Type 0 = λ m. IfSome told (λ pages. map ≡ bytes_at pages 0 128 m) in subst P is reads

-- the lowest zero found in the map's bytes is the lowest free page, with the byte of its bit
pub found_read : (r : Option Found) (told : Option Pages) (map : List ℕ) (count : ℕ) → count ≤ max_pages → IfSome told (λ pages. map ≡ bytes_at pages 0 128 4_096)
    → IfSome r (λ f. IsLowestZero map count f.page × (f.byte ≡ get_or map (f.page / 8) 0)) → IfSome r (λ f. IfSome told (λ pages. IsLowestFree pages f.page f.byte))
found_read None told map count few reads fact = tt
found_read (Some f) told map count few reads fact = lowest_read told map count f.page f.byte few reads fact.0 fact.1

-- where the bits of all pages are ones in the map's bytes, every page is used
pub nothing_read : (r : Option Found) (told : Option Pages) (map : List ℕ) (count n : ℕ) → n ≡ count → count ≤ max_pages → IfSome told (λ pages. map ≡ bytes_at pages 0 128 4_096)
    → IfNone r (AreOnes map n) → IfNone r (IfSome told (λ pages. (k : ℕ) → k < count → IsUsed pages k))
nothing_read None told map count n is few reads ones = none_read told map count few reads (let P : ℕ → Type 0 = λ m. AreOnes map m in subst P is ones)
nothing_read (Some f) told map count n is few reads ones = tt

-- the two writes of `take` and of `give`
pub takes : (t0 t1 t2 : Option Pages) (pages : Pages) (page b b' free reserved : ℕ) → t0 ≡ Some pages → IsMap pages → page < length pages → IsLowestFree pages page b → ChangesBit (page % 8) 1 b b'
    → free ≡ free_of pages → 1 ≤ free → reserved ≤ free_of pages
    → Told (SetsField 0 (place_of page) 1 b') t0 t1 → Told (SetsField 0 62 4 (free - 1)) t1 t2 → Becomes t2 (λ new. TakesPage page pages new × (reserved - 1 ≤ free_of new))
takes t0 t1 t2 pages page b b' free reserved is map there found change same some covered w1 w2 =
    let b1 = told_step _ t0 t1 pages is w1 in
    let b2 = told_step _ t1 t2 b1.0 b1.1 w2 in
    let r = taken pages b1.0 b2.0 page b b' free map there found change same some b1.2 b2.2 in
    (b2.0, b2.1, (r, omega (arith, r.fewer)))

-- a used page's bit cleared, and the count of free pages raised by one, give the page back
pub gives : (t0 t1 t2 : Option Pages) (pages : Pages) (page b b' free : ℕ) → t0 ≡ Some pages → IsMap pages → page < length pages → IsUsed pages page → b ≡ byte pages 0 (place_of page) → ChangesBit (page % 8) 0 b b'
    → free ≡ free_of pages → Told (SetsField 0 (place_of page) 1 b') t0 t1 → Told (SetsField 0 62 4 (free + 1)) t1 t2 → Becomes t2 (GivesPage page pages)
gives t0 t1 t2 pages page b b' free is map there used byte_is change same w1 w2 =
    let b1 = told_step _ t0 t1 pages is w1 in
    let b2 = told_step _ t1 t2 b1.0 b1.1 w2 in
    (b2.0, b2.1, given pages b1.0 b2.0 page b b' free map there used byte_is change same b1.2 b2.2)

-- the bit of a byte that was read at the page's place is the page's
pub used_told : (told : Option Pages) (page n : ℕ) (b : Bool) → b ≡ (bit_at n (page % 8) == 1) → IfSome told (λ ps. n ≡ field ps 0 (place_of page) 1) → IfSome told (λ ps. b ≡ (bit ps page == 1))
used_told None page n b is value = tt
used_told (Some ps) page n b is value = is ∙ ap (λ (m : ℕ). bit_at m (page % 8) == 1) (value ∙ field-byte ps 0 (place_of page))
