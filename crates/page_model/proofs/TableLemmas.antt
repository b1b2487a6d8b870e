-- Tables of fields: what stays of those that are written while others are, and what a table says of a page.
use Rattle.std.proofs.Common.{◌≡◌, inl, inr, ℕ, ◌+◌, ◌≤◌, ◌<◌, ◌^◌, nat_le, true, List, [], ◌∷◌, ◌++◌, length, map, Option, Some, None, IfSome, get_or, take, drop, refl, sym, ap, ap₂, subst, ◌∙◌, arith, lit≤, add-one}
use Rattle.std.proofs.lemmas.Bool.{and_parts, leb-true}
use Rattle.std.proofs.lemmas.List.{map-append, take-append-drop, take_more, get_or-drop, get_or-take}
use Rattle.std.proofs.Math.Seq.{drop-cons}
use Rattle.byteorder.specs.Endian.{big_bytes, big_number}
use Rattle.byteorder.specs.Numbers.{length-bytes_high_first}
use Rattle.page_model.specs.Pages.{Pages, page_at, bytes_at, Fits, AllFit, field, patched, written, all_written, Address, address_at, null_page}
use Rattle.page_model.specs.Spans.{Span, IsApartFromAll, AreApart, ArePairwiseApart, IsOffAll, SameOutside, SetsField}
use Rattle.page_model.specs.Lists.{IsList}
use Rattle.page_model.specs.Tables.{Field, field_span, HasFields, SetsFields, field_write, AreNarrow, are_rising, table_end, base_fields, header_fields}
use Rattle.page_model.proofs.FrameLemmas.{big_from-same, field_kept, field_set, outside_then, outside_same, field-written_in}
use Rattle.page_model.proofs.SpanLemmas.{apart_sym}

-- ---- rising fields

-- the first field, and those behind it
pub rising_first : (from : ℕ) (f : Field) (more : List Field) → are_rising from (f ∷ more) ≡ true → (from ≤ f.at) × (are_rising (f.at + f.width) more ≡ true)
rising_first from f more is =
    let both = and_parts (nat_le from f.at) (are_rising (f.at + f.width) more) is in
    (leb-true from f.at both.0, both.1)

-- the field behind others begins no earlier than these end
rising_from : (from : ℕ) (t : List Field) (f : Field) (more : List Field) → are_rising from (t ++ f ∷ more) ≡ true → from ≤ f.at
rising_from from [] f more is = (rising_first from f more is).0
rising_from from (x ∷ t) f more is =
    let both = rising_first from x (t ++ f ∷ more) is in
    omega (arith, both.0, rising_from (x.at + x.width) t f more both.1)

-- so it is apart from them
pub rising_apart : (page from : ℕ) (t : List Field) (f : Field) (more : List Field) → are_rising from (t ++ f ∷ more) ≡ true → IsApartFromAll (map (field_span page) t) (field_span page f)
rising_apart page from [] f more is = tt
rising_apart page from (x ∷ t) f more is =
    let both = rising_first from x (t ++ f ∷ more) is in
    (inr (inr (rising_from (x.at + x.width) t f more both.1)), rising_apart page (x.at + x.width) t f more both.1)

end_low : (from : ℕ) (t : List Field) → are_rising from t ≡ true → from ≤ table_end from t
end_low from [] is = omega arith
end_low from (f ∷ more) is =
    let both = rising_first from f more is in
    omega (arith, both.0, end_low (f.at + f.width) more both.1)

-- and it ends within the table
pub rising_within : (from : ℕ) (t : List Field) (f : Field) (more : List Field) → are_rising from (t ++ f ∷ more) ≡ true → f.at + f.width ≤ table_end from (t ++ f ∷ more)
rising_within from [] f more is = end_low (f.at + f.width) more (rising_first from f more is).1
rising_within from (x ∷ t) f more is = rising_within (x.at + x.width) t f more (rising_first from x (t ++ f ∷ more) is).1

-- two tables, one behind the other
rising_split : (from : ℕ) (t u : List Field) → are_rising from (t ++ u) ≡ true → (from ≤ table_end from t) × (are_rising (table_end from t) u ≡ true)
rising_split from [] u is = (omega arith, is)
rising_split from (x ∷ t) u is =
    let both = rising_first from x (t ++ u) is in
    let rest = rising_split (x.at + x.width) t u both.1 in
    (omega (arith, both.0, rest.0), rest.1)

behind_one : (page : ℕ) (x : Field) (from : ℕ) (u : List Field) → x.at + x.width ≤ from → are_rising from u ≡ true → IsApartFromAll (map (field_span page) u) (field_span page x)
behind_one page x from [] low is = tt
behind_one page x from (f ∷ u) low is =
    let both = rising_first from f u is in
    (inr (inl (omega (arith, low, both.0))), behind_one page x (f.at + f.width) u (omega (arith, low, both.0)) both.1)

-- the fields of two tables, one behind the other, are apart
pub rising_across : (page from : ℕ) (t u : List Field) → are_rising from (t ++ u) ≡ true → AreApart (map (field_span page) u) (map (field_span page) t)
rising_across page from [] u is = tt
rising_across page from (x ∷ t) u is =
    let both = rising_first from x (t ++ u) is in
    let rest = rising_split (x.at + x.width) t u both.1 in
    (behind_one page x (table_end (x.at + x.width) t) u rest.0 rest.1, rising_across page (x.at + x.width) t u both.1)

-- a byte past the end of a table is in none of its fields
pub rising_past : (page from : ℕ) (t : List Field) (k : ℕ) → are_rising from t ≡ true → table_end from t ≤ k → IsOffAll (map (field_span page) t) page k
rising_past page from [] k is past = tt
rising_past page from (f ∷ t) k is past =
    let both = rising_first from f t is in
    (inr (inr (omega (arith, end_low (f.at + f.width) t both.1, past))), rising_past page (f.at + f.width) t k both.1 past)

-- ---- fields written one after another

-- fields stay where nothing changes but spans apart from them
pub fields_kept : (xs : List Span) (old new : Pages) (page : ℕ) (t : List Field) → SameOutside xs old new → AreApart xs (map (field_span page) t) → HasFields old page t → HasFields new page t
fields_kept xs old new page [] same apart has = tt
fields_kept xs old new page (f ∷ t) same apart has = (field_kept xs old new page f.at f.width same apart.0 ∙ has.0, fields_kept xs old new page t same apart.1 has.1)

-- the fields of two tables
pub has_join : (pages : Pages) (page : ℕ) (t u : List Field) → HasFields pages page t → HasFields pages page u → HasFields pages page (t ++ u)
has_join pages page [] u a b = b
has_join pages page (f ∷ t) u a b = (a.0, has_join pages page t u a.1 b)

-- the fields of one table of two
pub has_left : (pages : Pages) (page : ℕ) (t u : List Field) → HasFields pages page (t ++ u) → HasFields pages page t
has_left pages page [] u has = tt
has_left pages page (f ∷ t) u has = (has.0, has_left pages page t u has.1)

-- the fields of the second table of two
pub has_right : (pages : Pages) (page : ℕ) (t u : List Field) → HasFields pages page (t ++ u) → HasFields pages page u
has_right pages page [] u has = has
has_right pages page (f ∷ t) u has = has_right pages page t u has.1

field_alone : (pages : Pages) (page at width : ℕ) → field (page_at pages page ∷ []) 0 at width ≡ field pages page at width
unfolding field
field_alone pages page at width = refl

-- the fields of a page by itself
pub fields_alone : (pages : Pages) (page : ℕ) (t : List Field) → HasFields (page_at pages page ∷ []) 0 t → HasFields pages page t
fields_alone pages page [] has = tt
fields_alone pages page (f ∷ t) has = (sym (field_alone pages page f.at f.width) ∙ has.0, fields_alone pages page t has.1)

-- two tables, one written behind the other
pub sets_then : (page : ℕ) (t u : List Field) (old mid new : Pages) → AreApart (map (field_span page) u) (map (field_span page) t) → SetsFields page t old mid → SetsFields page u mid new → SetsFields page (t ++ u) old new
sets_then page t u old mid new apart one two = record {
  here = has_join new page t u (fields_kept (map (field_span page) u) mid new page t two.outside apart one.here) two.here;
  outside = let P : List Span → Type 0 = λ ss. SameOutside ss old new in
      subst P (sym (map-append (field_span page) t u)) (outside_then (map (field_span page) t) (map (field_span page) u) old mid new one.outside two.outside);
}

apart_from_one : (s : Span) (ts : List Span) → IsApartFromAll ts s → AreApart (s ∷ []) ts
apart_from_one s [] apart = tt
apart_from_one s (t ∷ ts) apart = ((apart_sym t s apart.0, tt), apart_from_one s ts apart.1)

-- one field more
pub sets_more : (page : ℕ) (t : List Field) (f : Field) (old mid new : Pages) → IsApartFromAll (map (field_span page) t) (field_span page f) → SetsFields page t old mid → SetsField page f.at f.width f.value mid new
    → SetsFields page (t ++ f ∷ []) old new
sets_more page t f old mid new apart one two =
    sets_then page t (f ∷ []) old mid new (apart_from_one (field_span page f) (map (field_span page) t) apart) one (record { here = (two.here, tt); outside = two.outside })

-- no fields were written
pub sets_none : (page : ℕ) (pages : Pages) → SetsFields page [] pages pages
sets_none page pages = record { here = tt; outside = outside_same pages }

-- in a loop over a table: field i more
pub sets_next : (page : ℕ) (t : List Field) (i : ℕ) (f d : Field) (old mid new : Pages) → are_rising 0 t ≡ true → i < length t → get_or t i d ≡ f
    → SetsFields page (take i t) old mid → SetsField page f.at f.width f.value mid new → SetsFields page (take (i + 1) t) old new
sets_next page t i f d old mid new rising below is one two =
    let parts : t ≡ take i t ++ f ∷ drop (i + 1) t =
    sym (take-append-drop i t) ∙ ap (λ (r : List Field). take i t ++ r) (drop-cons t i d below ∙ ap₂ (λ (x : Field) (n : ℕ). x ∷ drop n t) is (sym (add-one i))) in
    let apart = rising_apart page 0 (take i t) f (drop (i + 1) t) (ap (are_rising 0) (sym parts) ∙ rising) in
    let P : List Field → Type 0 = λ u. SetsFields page u old new in
    subst P (sym (take_more t i d below ∙ ap (λ (x : Field). take i t ++ x ∷ []) is)) (sets_more page (take i t) f old mid new apart one two)

-- field i of a table ends within it
pub next_within : (t : List Field) (i : ℕ) (f d : Field) → are_rising 0 t ≡ true → i < length t → get_or t i d ≡ f → f.at + f.width ≤ table_end 0 t
next_within t i f d rising below is =
    let parts : t ≡ take i t ++ f ∷ drop (i + 1) t =
    sym (take-append-drop i t) ∙ ap (λ (r : List Field). take i t ++ r) (drop-cons t i d below ∙ ap₂ (λ (x : Field) (n : ℕ). x ∷ drop n t) is (sym (add-one i))) in
    let P : List Field → Type 0 = λ u. f.at + f.width ≤ table_end 0 u in
    subst P (sym parts) (rising_within 0 (take i t) f (drop (i + 1) t) (ap (are_rising 0) (sym parts) ∙ rising))

-- a field written in bytes by themselves
pub put_sets : (old new : List ℕ) (at width value : ℕ) → at + width ≤ length old → value < 256 ^ width → new ≡ patched old at (big_bytes width value) → SetsField 0 at width value (old ∷ []) (new ∷ [])
unfolding written
put_sets old new at width value within small is =
    let P : List ℕ → Type 0 = λ p. SetsField 0 at width value (old ∷ []) (p ∷ []) in
    subst P (sym is) (field_set (old ∷ []) 0 at width value (record { there = lit≤ tt; within = within }) small)

-- ---- a table written as data

-- fields that are apart from one another, written in any order: each reads back, and every other byte is as it was
pub fields_set : (page : ℕ) (t : List Field) (pages : Pages) → ArePairwiseApart (map (field_span page) t) → AreNarrow t → AllFit (map (field_write page) t) pages
    → SetsFields page t pages (all_written (map (field_write page) t) pages)
fields_set page [] pages apart narrow fit = sets_none page pages
fields_set page (f ∷ t) pages apart narrow fit =
    let mid = written pages page f.at (big_bytes f.width f.value) in
    let one = field_set pages page f.at f.width f.value (fits_width page f pages fit.0) narrow.0 in
    let rest = fields_set page t mid apart.1 narrow.1 fit.1 in
    let new = all_written (map (field_write page) t) mid in
    record {
      here = (field_kept (map (field_span page) t) mid new page f.at f.width rest.outside apart.0 ∙ one.here, rest.here);
      outside = outside_then (field_span page f ∷ []) (map (field_span page) t) pages mid new one.outside rest.outside;
    }
  where
    fits_width : (page : ℕ) (f : Field) (pages : Pages) → Fits pages page f.at (length (big_bytes f.width f.value)) → Fits pages page f.at f.width
    fits_width page f pages fits = let P : ℕ → Type 0 = λ n. Fits pages page f.at n in subst P (length-bytes_high_first f.width f.value) fits

field_of_bytes : (bytes : List ℕ) (at width : ℕ) → field (bytes ∷ []) 0 at width ≡ big_number width (drop at bytes)
unfolding field
field_of_bytes bytes at width = refl

-- ---- fields read from bytes that were read

-- a number read from bytes that were read is the field
pub field_read : (pages : Pages) (page at n i width : ℕ) (bytes : List ℕ) → bytes ≡ bytes_at pages page at n → i + width ≤ n → big_number width (drop i bytes) ≡ field pages page (at + i) width
unfolding field
field_read pages page at n i width bytes is within =
    let q = page_at pages page in
    big_from-same 0 width _ _ (λ k low high.
    get_or-drop i bytes k 0
    ∙ ap (λ (xs : List ℕ). get_or xs (i + k) 0) is
    ∙ get_or-take n (drop at q) (i + k) 0 (omega arith)
    ∙ get_or-drop at q (i + k) 0
    ∙ ap (λ (m : ℕ). get_or q m 0) (let e : at + (i + k) ≡ at + i + k = omega arith in e)
    ∙ sym (get_or-drop (at + i) q k 0))

-- a header that was read
pub header_read : (told : Option Pages) (page n number before behind type : ℕ) (bytes : List ℕ) → 38 ≤ n → IfSome told (λ pages. bytes ≡ bytes_at pages page 0 n)
    → number ≡ big_number 4 (drop 4 bytes) → before ≡ big_number 4 (drop 8 bytes) → behind ≡ big_number 4 (drop 12 bytes) → type ≡ big_number 2 (drop 24 bytes)
    → IfSome told (λ pages. HasFields pages page (header_fields number before behind type))
header_read None page n number before behind type bytes long read e1 e2 e3 e4 = tt
header_read (Some pages) page n number before behind type bytes long read e1 e2 e3 e4 = (
  sym (e1 ∙ field_read pages page 0 n 4 4 bytes read (omega arith)),
  (
    sym (e2 ∙ field_read pages page 0 n 8 4 bytes read (omega arith)),
    (
      sym (e3 ∙ field_read pages page 0 n 12 4 bytes read (omega arith)),
      (sym (e4 ∙ field_read pages page 0 n 24 2 bytes read (omega arith)), tt),
    ),
  ),
)

-- ---- a table in a buffer, and the buffer written to the front of a page

-- a table in a buffer that was written to the front of a page
pub table_written : (pages : Pages) (page : ℕ) (bytes : List ℕ) (from : ℕ) (t : List Field) → Fits pages page 0 (length bytes) → are_rising from t ≡ true → table_end from t ≤ length bytes
    → HasFields (bytes ∷ []) 0 t → HasFields (written pages page 0 bytes) page t
table_written pages page bytes from [] fits rising within has = tt
table_written pages page bytes from (f ∷ t) fits rising within has =
    let ends = rising_within from [] f t rising in
    let e = field-written_in pages page 0 bytes f.at f.width fits (omega (arith, ends, within)) in (
      ap (λ (n : ℕ). field (written pages page 0 bytes) page n f.width) (let z : f.at ≡ 0 + f.at = omega arith in z) ∙ e ∙ sym (field_of_bytes bytes f.at f.width) ∙ has.0,
      table_written pages page bytes (f.at + f.width) t fits (rising_first from f t rising).1 within has.1,
    )

-- ---- the base of a list without nodes

address_is : (pages : Pages) (page at n k : ℕ) → field pages page at 4 ≡ n → field pages page (at + 4) 2 ≡ k → address_at pages page at ≡ (let a : Address = record { page = n; at = k } in a)
address_is pages page at n k first second = ap₂ (λ (p q : ℕ). let a : Address = record { page = p; at = q } in a) first second

-- an empty base is a list without nodes
pub base_empty : (pages : Pages) (page at : ℕ) → HasFields pages page (base_fields at) → IsList pages (record { page = page; at = at }) []
base_empty pages page at has = record {
  count = has.0;
  first = address_is pages page (at + 4) null_page 0 has.1.0 (ap (λ (n : ℕ). field pages page n 2) (let e : at + 4 + 4 ≡ at + 8 = omega arith in e) ∙ has.1.1.0);
  last = address_is pages page (at + 10) null_page 0 has.1.1.1.0 (ap (λ (n : ℕ). field pages page n 2) (let e : at + 10 + 4 ≡ at + 14 = omega arith in e) ∙ has.1.1.1.1.0);
  walk = tt;
  apart = (tt, tt);
}

-- its bytes written somewhere
pub base_written : (pages : Pages) (page at : ℕ) (bytes : List ℕ) → Fits pages page at (length bytes) → length bytes ≡ 16 → HasFields (bytes ∷ []) 0 (base_fields 0)
    → IsList (written pages page at bytes) (record { page = page; at = at }) []
base_written pages page at bytes fits len has =
    let new = written pages page at bytes in
    let here : (i width value : ℕ) → i + width ≤ 16 → field (bytes ∷ []) 0 i width ≡ value → field new page (at + i) width ≡ value =
    λ i width value within is. field-written_in pages page at bytes i width fits (omega (arith, len, within)) ∙ sym (field_of_bytes bytes i width) ∙ is in
    base_empty new page at (
      ap (λ (n : ℕ). field new page n 4) (let e : at ≡ at + 0 = omega arith in e) ∙ here 0 4 0 (omega arith) has.0,
      (here 4 4 null_page (omega arith) has.1.0, (here 8 2 0 (omega arith) has.1.1.0, (here 10 4 null_page (omega arith) has.1.1.1.0, (here 14 2 0 (omega arith) has.1.1.1.1.0, tt)))),
    )
