-- Records read from pages and written.
use Rattle.std.proofs.Common.{◌≡◌, ℕ, ◌+◌, ◌-◌, ◌<◌, ◌≤◌, ◌&&◌, Bool, cond, min, List, length, take, drop, Option, Some, None, IfSome, refl, sym, ap, ap₂, ◌∙◌, subst, arith, nat_le}
use Rattle.std.specs.Option.{option_map}
use Rattle.std.proofs.lemmas.List.{length-take-le, length-drop}
use Rattle.std.proofs.Math.Seq.{take-take}
use Rattle.std.proofs.lemmas.Bool.{le-leb, leb-true}
use Rattle.byteorder.specs.Endian.{big_number}
use Rattle.byteorder.specs.Numbers.{big_from-take}
use Rattle.page_model.specs.Pages.{Pages, AreWhole, Fits, page_at, bytes_at, field, written, Address, page_bytes}
use Rattle.page_model.specs.Steps.{Told}
use Rattle.engine_base.specs.Addresses.{address_of}
use Rattle.engine_base.specs.declared.addr.Addr.{Addr}
use Rattle.undo_model.specs.Data.{Record}
use Rattle.undo_model.specs.Bytes.{record_size, record_bytes, head_size}
use Rattle.undo_model.specs.Reading.{Standing, record_in, IsRecordAt, IsBad, record_end, IsSoundRecord, IsSoundPrevious, WritesRecord, BodyFits}
use Rattle.undo_model.proofs.OptionLemmas.{cond_some, and_true}
use Rattle.undo_model.proofs.SizeLemmas.{record_size_read}
use Rattle.undo_model.proofs.PageLemmas.{record_set}
use Rattle.undo_model.proofs.FitLemmas.{record_fits}
use Rattle.undo_records.specs.Reading.{record_front}

-- a record read from as many bytes as their first two tell is the one that they begin with
pub front_is : (count size : ℕ) (bytes : List ℕ) (o : Option Standing) → size ≡ big_number 2 bytes → 51 ≤ size → size ≤ length bytes → o ≡ record_in count (take size bytes) → o ≡ record_front count bytes
front_is count size bytes o is low high e =
    let F : Bool → Bool → ℕ → Option Standing = λ a b n. cond (a && b) (record_in count (take n bytes)) None in
    e ∙ sym (ap₂ (λ (a b : Bool). F a b size) (le-leb 51 size low) (le-leb size (length bytes) high)) ∙ ap (λ (n : ℕ). F (nat_le 51 n) (nat_le n (length bytes)) n) is

fits_in : (pages : Pages) (count page at size : ℕ) → AreWhole pages count → page < count → at + size ≤ page_bytes → Fits pages page at size
fits_in pages count page at size whole below within = record { there = omega (arith, whole.many); within = omega (arith, whole.each page below) }

-- a sound record's bytes written at an address write the record, where pages are told
pub record_told : (old new : Option Pages) (count : ℕ) (a : Address) (r : Record) (previous : Address) (bytes : List ℕ) → ((pages : Pages) → old ≡ Some pages → AreWhole pages count)
    → a.page < count → a.at + record_size r ≤ record_end → IsSoundRecord count r → IsSoundPrevious count previous
    → bytes ≡ record_bytes r previous → new ≡ option_map (λ pages. written pages a.page a.at bytes) old → Told (WritesRecord a r previous) old new
record_told None new count a r previous bytes whole below within sound sound' are is = is
record_told (Some pages) new count a r previous bytes whole below within sound sound' are is =
    let w = whole pages refl in
    let P : Option Pages → Type 0 = λ o. Told (WritesRecord a r previous) (Some pages) o in
    let Q : List ℕ → Type 0 = λ bs. WritesRecord a r previous pages (written pages a.page a.at bs) in
    let S : ℕ → Type 0 = λ n. IsSoundRecord n r in
    let S' : ℕ → Type 0 = λ n. IsSoundPrevious n previous in
    subst P (sym is) (subst Q (sym are) (record_set pages a r previous (fits_in pages count a.page a.at (record_size r) w below (omega (arith, within))) within
    (subst S (sym w.many) sound) (subst S' (sym w.many) sound')))

-- the bytes that were read: as many as a record may have, or those before the trailer
abbrev IsWindow : Pages → Address → ℕ → List ℕ → Type 0
IsWindow pages a len bytes = bytes ≡ bytes_at pages a.page a.at len

front_number : (pages : Pages) (a : Address) (len : ℕ) (bytes : List ℕ) → 2 ≤ len → IsWindow pages a len bytes → big_number 2 bytes ≡ field pages a.page a.at 2
unfolding field
front_number pages a len bytes two is = ap (big_number 2) is ∙ big_from-take 0 2 len (drop a.at (page_at pages a.page)) two

window_length : (pages : Pages) (count : ℕ) (a : Address) (len : ℕ) (bytes : List ℕ) → AreWhole pages count → a.page < count → a.at + len ≤ record_end → IsWindow pages a len bytes → length bytes ≡ len
window_length pages count a len bytes whole below within is =
    let e = whole.each a.page below in
    let d = length-drop a.at (page_at pages a.page) in
    ap length is ∙ length-take-le len (drop a.at (page_at pages a.page)) (omega (arith, e, d, within))

window_part : (pages : Pages) (a : Address) (len n : ℕ) (bytes : List ℕ) → n ≤ len → IsWindow pages a len bytes → take n bytes ≡ bytes_at pages a.page a.at n
window_part pages a len n bytes low is = ap (take n) is ∙ take-take n len (drop a.at (page_at pages a.page)) low

read_there : (pages : Pages) (count : ℕ) (a : Address) (len : ℕ) (bytes : List ℕ) (s : Standing) → AreWhole pages count → a.page < count → a.at + len ≤ record_end → 2 ≤ len → IsWindow pages a len bytes
    → Some s ≡ record_front count bytes → IsRecordAt pages a s.undo s.previous
read_there pages count a len bytes s whole below within two is e =
    let n = big_number 2 bytes in
    let c = cond_some (nat_le head_size n && nat_le n (length bytes)) (record_in count (take n bytes)) s (sym e) in
    let ands = and_true (nat_le head_size n) (nat_le n (length bytes)) c.0 in
    let low : 51 ≤ n = leb-true head_size n ands.0 in
    let high : n ≤ length bytes = leb-true n (length bytes) ands.1 in
    let long = window_length pages count a len bytes whole below within is in
    let cut : length (take n bytes) ≡ n = length-take-le n bytes high in
    let sizes = record_size_read count (take n bytes) s (omega (arith, cut, low)) c.1 in
    let size : record_size s.undo ≡ n = sizes.0 ∙ cut in
    record {
      page = omega (arith, whole.many, below);
      size = sym (front_number pages a len bytes two is) ∙ sym size;
      within = omega (arith, size, high, long, within);
      reads = ap₂ record_in whole.many (ap (bytes_at pages a.page a.at) size ∙ sym (window_part pages a len n bytes (omega (arith, high, long)) is)) ∙ c.1;
    }

no_record : (pages : Pages) (count : ℕ) (a : Address) (len : ℕ) (bytes : List ℕ) → AreWhole pages count → a.page < count → len ≡ min (record_end - a.at) 852 → a.at + 51 ≤ record_end → IsWindow pages a len bytes
    → None ≡ record_front count bytes → IsBad pages a
no_record pages count a len bytes whole below least place is none = λ r previous stands.
    let n = record_size r in
    let within : a.at + len ≤ record_end = omega (arith, least, place) in
    let two : 2 ≤ len = omega (arith, least, place) in
    let s : Standing = record { undo = r; previous = previous } in
    let long = window_length pages count a len bytes whole below within is in
    let end = stands.within in
    let e = whole.each a.page below in
    let d = length-drop a.at (page_at pages a.page) in
    let cut : length (bytes_at pages a.page a.at n) ≡ n = length-take-le n (drop a.at (page_at pages a.page)) (omega (arith, e, d, end)) in
    let reads : record_in count (bytes_at pages a.page a.at n) ≡ Some s = ap (λ (m : ℕ). record_in m (bytes_at pages a.page a.at n)) (sym whole.many) ∙ stands.reads in
    let sizes = record_size_read count (bytes_at pages a.page a.at n) s (omega (arith, cut)) reads in
    let few : n ≤ 852 = let f = sizes.1 in omega (arith, f, cut) in
    let high : n ≤ len = omega (arith, few, end, least) in
    let front : n ≡ big_number 2 bytes = sym (front_number pages a len bytes two is ∙ stands.size) in
    let found = front_is count n bytes (Some s) front (omega arith) (omega (arith, high, long)) (sym reads ∙ ap (record_in count) (sym (window_part pages a len n bytes high is))) in
    let wrong : None ≡ Some s = none ∙ sym found in cc

-- with a premise on what is told
pub reads_record : (told : Option Pages) (count : ℕ) (a : Address) (len n : ℕ) (bytes : List ℕ) (s : Standing) → ((pages : Pages) → told ≡ Some pages → AreWhole pages count) → a.page < count
    → len ≡ min (record_end - a.at) 852 → a.at + 51 ≤ record_end → n ≡ len → IfSome told (λ pages. bytes ≡ bytes_at pages a.page a.at n) → Some s ≡ record_front count bytes
    → IfSome told (λ pages. (previous : Address) × IsRecordAt pages a s.undo previous)
reads_record None count a len n bytes s whole below least place same is e = tt
reads_record (Some pages) count a len n bytes s whole below least place same is e =
    (s.previous, read_there pages count a len bytes s (whole pages refl) below (omega (arith, least, place)) (omega (arith, least, place)) (is ∙ ap (bytes_at pages a.page a.at) same) e)

-- where the bytes read at an address begin with no record, none stands there
pub reads_none : (told : Option Pages) (count : ℕ) (at : Addr) (len n : ℕ) (bytes : List ℕ) → ((pages : Pages) → told ≡ Some pages → AreWhole pages count) → at.page.0 < count
    → len ≡ min (record_end - at.at) 852 → at.at + 51 ≤ record_end → n ≡ len → IfSome told (λ pages. bytes ≡ bytes_at pages at.page.0 at.at n) → None ≡ record_front count bytes
    → IfSome told (λ pages. (at ≡ at) × IsBad pages (address_of at))
reads_none None count at len n bytes whole below least place same is e = tt
reads_none (Some pages) count at len n bytes whole below least place same is e =
    (refl, no_record pages count (address_of at) len bytes (whole pages refl) below least place (is ∙ ap (bytes_at pages at.page.0 at.at) same) e)

-- the body of a record that bytes begin with fits the store's pages
pub front_fits : (count n : ℕ) (bytes : List ℕ) (s : Standing) → n ≡ count → Some s ≡ record_front n bytes → BodyFits count s.undo.body
front_fits count n bytes s is e =
    let e' : record_front count bytes ≡ Some s = sym (e ∙ ap (λ (m : ℕ). record_front m bytes) is) in
    let size = big_number 2 bytes in
    record_fits count (take size bytes) s (cond_some (nat_le head_size size && nat_le size (length bytes)) (record_in count (take size bytes)) s e').1
