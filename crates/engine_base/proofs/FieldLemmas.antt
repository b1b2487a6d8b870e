-- What the calls over fields read and write, over plain lists.
use Rattle.std.proofs.Common.{◌≡◌, ℕ, ◌+◌, ◌^◌, ◌<◌, ◌≤◌, List, [], ◌∷◌, ◌++◌, length, take, drop, Option, Some, None, IfSome, refl, sym, ap, ap₂, ◌∙◌, subst, lit≤, arith}
use Rattle.std.specs.Option.{option_map}
use Rattle.std.proofs.lemmas.List.{drop-take, drop-drop}
use Rattle.byteorder.specs.Endian.{big_number, big_bytes}
use Rattle.byteorder.specs.Numbers.{big_from-take}
use Rattle.page_model.specs.Pages.{Pages, Write, AreWhole, Fits, page_at, bytes_at, field, written, page_bytes, Address, address_at, address_bytes}
use Rattle.page_model.specs.Spans.{SetsField, SetsAddress}
use Rattle.page_model.specs.Steps.{Told}
use Rattle.page_model.specs.Frames.{write}
use Rattle.page_model.proofs.FrameLemmas.{field_set, address_set}

-- ---- reading

number_read : (pages : Pages) (page at width : ℕ) → big_number width (bytes_at pages page at width) ≡ field pages page at width
unfolding field
number_read pages page at width = big_from-take 0 width width (drop at (page_at pages page)) (omega arith)

-- a number that was read is the field
pub field_read : (told : Option Pages) (page at width n v : ℕ) (into : List ℕ) → length into ≡ width → n ≡ width → v ≡ big_number (length into) into → IfSome told (λ pages. into ≡ bytes_at pages page at n) → IfSome told (λ pages. v ≡ field pages page at width)
field_read None page at width n v into len size is bytes = tt
field_read (Some pages) page at width n v into len size is bytes =
    is ∙ ap₂ big_number len bytes ∙ ap (λ (b : ℕ). big_number width (bytes_at pages page at b)) size ∙ number_read pages page at width

-- six bytes as an address
address_read_told : (pages : Pages) (page at : ℕ) (into : List ℕ) → into ≡ bytes_at pages page at 6 → (big_number 4 into ≡ field pages page at 4) × (big_number 2 (take 2 (drop 4 into)) ≡ field pages page (at + 4) 2)
unfolding field
address_read_told pages page at into is =
    let p = page_at pages page in (
      ap (big_number 4) is ∙ big_from-take 0 4 6 (drop at p) (lit≤ tt),
      ap (λ (xs : List ℕ). big_number 2 (take 2 (drop 4 xs))) is ∙ big_from-take 0 2 2 (drop 4 (take 6 (drop at p))) (lit≤ tt)
          ∙ ap (big_number 2) (drop-take 4 2 (drop at p)) ∙ big_from-take 0 2 2 (drop 4 (drop at p)) (lit≤ tt) ∙ ap (big_number 2) (drop-drop 4 at p),
    )

-- an address that was read is what stands there
pub address_read : (told : Option Pages) (page at a b : ℕ) (into : List ℕ) → a ≡ big_number 4 into → b ≡ big_number 2 (take 2 (drop 4 into)) → IfSome told (λ pages. into ≡ bytes_at pages page at 6)
    → IfSome told (λ pages. (let x : Address = record { page = a; at = b } in x) ≡ address_at pages page at)
address_read None page at a b into is is' bytes = tt
address_read (Some pages) page at a b into is is' bytes =
    let both = address_read_told pages page at into bytes in
    ap₂ (λ (p k : ℕ). let x : Address = record { page = p; at = k } in x) (is ∙ both.0) (is' ∙ both.1)

-- ---- writing

fits_in : (pages : Pages) (count page at size : ℕ) → AreWhole pages count → page < count → at + size ≤ page_bytes → Fits pages page at size
fits_in pages count page at size whole below within = record { there = omega (arith, whole.many); within = omega (arith, whole.each page below) }

-- a field that was written, where the pages are told
pub field_told : (old new : Option Pages) (count page at width value : ℕ) (bytes : List ℕ) → ((pages : Pages) → old ≡ Some pages → AreWhole pages count) → page < count → at + width ≤ page_bytes → value < 256 ^ width
    → bytes ≡ big_bytes width value → new ≡ option_map (λ pages. written pages page at bytes) old → Told (SetsField page at width value) old new
field_told None new count page at width value bytes whole below within small are is = is
field_told (Some pages) new count page at width value bytes whole below within small are is =
    let P : Option Pages → Type 0 = λ o. Told (SetsField page at width value) (Some pages) o in
    let Q : List ℕ → Type 0 = λ bs. SetsField page at width value pages (written pages page at bs) in
    subst P (sym is) (subst Q (sym are) (field_set pages page at width value (fits_in pages count page at width (whole pages refl) below within) small))

-- an address that was written, where the pages are told
pub address_told : (old new : Option Pages) (count page at : ℕ) (a : Address) (bytes : List ℕ) → ((pages : Pages) → old ≡ Some pages → AreWhole pages count) → page < count → at + 6 ≤ page_bytes → a.page < 2 ^ 32 → a.at < 2 ^ 16
    → bytes ≡ address_bytes a → new ≡ option_map (λ pages. written pages page at bytes) old → Told (SetsAddress page at a) old new
address_told None new count page at a bytes whole below within small small' are is = is
address_told (Some pages) new count page at a bytes whole below within small small' are is =
    let P : Option Pages → Type 0 = λ o. Told (SetsAddress page at a) (Some pages) o in
    let Q : List ℕ → Type 0 = λ bs. SetsAddress page at a pages (written pages page at bs) in
    subst P (sym is) (subst Q (sym are) (address_set pages page at a (fits_in pages count page at 6 (whole pages refl) below within) small small'))

-- a write of these bytes, which are the same as those
pub adds_same : (page at : ℕ) (bytes same : List ℕ) (old new : Option (List Write)) → bytes ≡ same → new ≡ option_map (λ ws. ws ++ write page at bytes ∷ []) old → new ≡ option_map (λ ws. ws ++ write page at same ∷ []) old
adds_same page at bytes same old new is adds = let P : List ℕ → Type 0 = λ bs. new ≡ option_map (λ ws. ws ++ write page at bs ∷ []) old in subst P is adds
