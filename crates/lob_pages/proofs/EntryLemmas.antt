-- An entry in bytes that were read, or are to be written, is the entry in the page.
use Rattle.std.proofs.Common.{◌≡◌, ℕ, ◌+◌, ◌-◌, ◌<◌, ◌≤◌, List, [], ◌∷◌, length, take, drop, Option, Some, None, IfSome, refl, sym, ap, ap₂, subst, lit≤, ◌∙◌, arith}
use Rattle.std.proofs.lemmas.List.{take_rest}
use Rattle.std.specs.Option.{option_map}
use Rattle.page_model.specs.Pages.{Pages, AreWhole, Fits, bytes_at, field, written, Address, address_at}
use Rattle.page_model.specs.Spans.{span, SameOutside, SetsField, SetsAddress}
use Rattle.page_model.specs.Steps.{Told}
use Rattle.page_model.proofs.FrameLemmas.{written_outside}
use Rattle.engine_base.specs.Addresses.{address_of}
use Rattle.lob_model.specs.Places.{at_place}
use Rattle.lob_pages.specs.declared.entry.Entry.{Entry}
use Rattle.lob_pages.specs.declared.first.FirstFields.{FirstFields}
use Rattle.lob_pages.specs.Entries.{FitsPage, HasEntryFields, HasEntryLinks, IsEntryAt, SetsEntry, SetsEntryFields, SameBefore}
use Rattle.lob_pages.specs.First.{IsFirstAt}
use Rattle.lob_pages.proofs.ByteLemmas.{behind, in_written, in_read, then_number, then_address, field_before, address_before, same_still}

pub if_told : (o : Option Pages) (P Q : Pages → Type 0) → ((pages : Pages) → P pages → Q pages) → IfSome o P → IfSome o Q
if_told None P Q f is = tt
if_told (Some pages) P Q f is = f pages is

pub told_written : (old new : Option Pages) (count page at : ℕ) (bytes : List ℕ) (Q : Pages → Pages → Type 0) → ((pages : Pages) → old ≡ Some pages → AreWhole pages count)
    → page < count → at + length bytes ≤ 16_384 → new ≡ option_map (λ pages. written pages page at bytes) old
    → ((pages : Pages) → Fits pages page at (length bytes) → Q pages (written pages page at bytes)) → Told Q old new
told_written None new count page at bytes Q whole below within is f = is
told_written (Some pages) new count page at bytes Q whole below within is f =
    let w = whole pages refl in
    let P : Option Pages → Type 0 = λ o. Told Q (Some pages) o in
    subst P (sym is) (f pages (record { there = omega (arith, w.many); within = omega (arith, w.each page below) }))

-- fields agree with those of bytes alone
abbrev Agree : Pages → ℕ → ℕ → ℕ → List ℕ → Type 0
Agree pages page at n bytes = (i width at' : ℕ) → i + width ≤ n → at' ≡ at + i → field pages page at' width ≡ field (bytes ∷ []) 0 i width

address_agrees : (pages : Pages) (page at n : ℕ) (bytes : List ℕ) → Agree pages page at n bytes → (i at' : ℕ) → i + 6 ≤ n → at' ≡ at + i → address_at pages page at' ≡ address_at (bytes ∷ []) 0 i
address_agrees pages page at n bytes agree i at' inside is =
    ap₂ (λ (p k : ℕ). let a : Address = record { page = p; at = k } in a) (agree i 4 at' (omega arith) is) (agree (i + 4) 2 (at' + 4) (omega arith) (omega arith))

pub entry_agrees : (pages : Pages) (a : Address) (bytes : List ℕ) (e : Entry) → Agree pages a.page a.at 60 bytes → IsEntryAt (bytes ∷ []) (at_place 0 0) e → IsEntryAt pages a e
entry_agrees pages a bytes e agree is =
    let addr = address_agrees pages a.page a.at 60 bytes agree in record {
      links = record {
        previous = addr 0 (a.at + 0) (lit≤ tt) refl ∙ is.links.previous;
        next = addr 6 (a.at + 6) (lit≤ tt) refl ∙ is.links.next;
        count = agree 12 4 (a.at + 12) (lit≤ tt) refl ∙ is.links.count;
        first = addr 16 (a.at + 16) (lit≤ tt) refl ∙ is.links.first;
        last = addr 22 (a.at + 22) (lit≤ tt) refl ∙ is.links.last;
      };
      fields = record {
        creator = agree 28 6 (a.at + 28) (lit≤ tt) refl ∙ is.fields.creator;
        modifier = agree 34 6 (a.at + 34) (lit≤ tt) refl ∙ is.fields.modifier;
        creator_undo = agree 40 4 (a.at + 40) (lit≤ tt) refl ∙ is.fields.creator_undo;
        modifier_undo = agree 44 4 (a.at + 44) (lit≤ tt) refl ∙ is.fields.modifier_undo;
        page = agree 48 4 (a.at + 48) (lit≤ tt) refl ∙ is.fields.page;
        long = agree 52 4 (a.at + 52) (lit≤ tt) refl ∙ is.fields.long;
        number = agree 56 4 (a.at + 56) (lit≤ tt) refl ∙ is.fields.number;
      };
    }

pub fields_agree : (pages : Pages) (a : Address) (bytes : List ℕ) (e : Entry) → Agree pages a.page (a.at + 28) 32 (drop 28 bytes) → HasEntryFields (bytes ∷ []) (at_place 0 0) e → HasEntryFields pages a e
fields_agree pages a bytes e agree is = record {
  creator = agree 0 6 (a.at + 28) (lit≤ tt) (omega arith) ∙ (behind bytes 28 0 6 ∙ is.creator);
  modifier = agree 6 6 (a.at + 34) (lit≤ tt) (omega arith) ∙ (behind bytes 28 6 6 ∙ is.modifier);
  creator_undo = agree 12 4 (a.at + 40) (lit≤ tt) (omega arith) ∙ (behind bytes 28 12 4 ∙ is.creator_undo);
  modifier_undo = agree 16 4 (a.at + 44) (lit≤ tt) (omega arith) ∙ (behind bytes 28 16 4 ∙ is.modifier_undo);
  page = agree 20 4 (a.at + 48) (lit≤ tt) (omega arith) ∙ (behind bytes 28 20 4 ∙ is.page);
  long = agree 24 4 (a.at + 52) (lit≤ tt) (omega arith) ∙ (behind bytes 28 24 4 ∙ is.long);
  number = agree 28 4 (a.at + 56) (lit≤ tt) (omega arith) ∙ (behind bytes 28 28 4 ∙ is.number);
}

pub first_agrees : (pages : Pages) (page : ℕ) (bytes : List ℕ) (f : FirstFields) → Agree pages page 0 64 bytes → IsFirstAt (bytes ∷ []) 0 f → IsFirstAt pages page f
first_agrees pages page bytes f agree is = record {
  version = agree 40 4 40 (lit≤ tt) refl ∙ is.version;
  changer = agree 44 6 44 (lit≤ tt) refl ∙ is.changer;
  undo = agree 50 4 50 (lit≤ tt) refl ∙ is.undo;
  long = agree 54 4 54 (lit≤ tt) refl ∙ is.long;
  creator = agree 58 6 58 (lit≤ tt) refl ∙ is.creator;
}

-- ---- as the calls read and write

-- an entry in 60 bytes that were read at an address is the entry that stands there
pub entry_read : (told : Option Pages) (a : Address) (bytes : List ℕ) (e : Entry) → IsEntryAt (bytes ∷ []) (at_place 0 0) e
    → IfSome told (λ pages. bytes ≡ bytes_at pages a.page a.at 60) → IfSome told (λ pages. IsEntryAt pages a e)
entry_read told a bytes e is = if_told told _ _ (λ pages same. entry_agrees pages a bytes e (in_read pages a.page a.at 60 bytes same) is)

-- the 60 bytes of an entry, written at an address, set the entry there
pub entry_written : (old new : Option Pages) (count : ℕ) (a : Address) (bytes : List ℕ) (e : Entry) → ((pages : Pages) → old ≡ Some pages → AreWhole pages count) → FitsPage count a
    → length bytes ≡ 60 → IsEntryAt (bytes ∷ []) (at_place 0 0) e → new ≡ option_map (λ pages. written pages a.page a.at bytes) old → Told (SetsEntry a e) old new
entry_written old new count a bytes e whole fit size is now =
    told_written old new count a.page a.at bytes (SetsEntry a e) whole fit.page (let w = fit.within in omega (arith, size)) now (λ pages fits.
    let agree = in_written pages a.page a.at bytes fits in
    let S : ℕ → Type 0 = λ n. SameOutside (span a.page a.at n ∷ []) pages (written pages a.page a.at bytes) in record {
      here = entry_agrees (written pages a.page a.at bytes) a bytes e (λ i width at' inside same. agree i width at' (omega (arith, size)) same) is;
      outside = subst S size (written_outside pages a.page a.at bytes fits);
    })

-- what a slice from the fields on has
pub from_fields : (bytes : List ℕ) (k n : ℕ) → k ≡ 28 → length bytes ≡ n → take (n - k) (drop k bytes) ≡ drop 28 bytes
from_fields bytes k n is size = ap (λ (m : ℕ). take (m - k) (drop k bytes)) (sym size) ∙ (take_rest bytes k ∙ ap (λ (m : ℕ). drop m bytes) is)

-- the last 32 of an entry's 60 bytes, written at their place, set its fields there
pub fields_written : (old new : Option Pages) (count : ℕ) (a : Address) (bytes part : List ℕ) (e : Entry) → ((pages : Pages) → old ≡ Some pages → AreWhole pages count) → FitsPage count a
    → part ≡ drop 28 bytes → length part ≡ 32 → HasEntryFields (bytes ∷ []) (at_place 0 0) e → new ≡ option_map (λ pages. written pages a.page (a.at + 28) part) old → Told (SetsEntryFields a e) old new
fields_written old new count a bytes part e whole fit is-part size is now =
    told_written old new count a.page (a.at + 28) part (SetsEntryFields a e) whole fit.page (let w = fit.within in omega (arith, size)) now (λ pages fits.
    let agree = in_written pages a.page (a.at + 28) part fits in
    let after = written pages a.page (a.at + 28) part in
    let A : List ℕ → Type 0 = λ xs. Agree after a.page (a.at + 28) 32 xs in
    let S : ℕ → Type 0 = λ n. SameOutside (span a.page (a.at + 28) n ∷ []) pages after in record {
      here = fields_agree after a bytes e (subst A is-part (λ i width at' inside same. agree i width at' (omega (arith, size)) same)) is;
      outside = subst S size (written_outside pages a.page (a.at + 28) part fits);
    })

-- fields behind links
pub entry_of_parts : (mid last : List ℕ) (e : Entry) → HasEntryLinks (mid ∷ []) (at_place 0 0) e → HasEntryFields (last ∷ []) (at_place 0 0) e → SameBefore 28 (mid ∷ []) (last ∷ []) → IsEntryAt (last ∷ []) (at_place 0 0) e
entry_of_parts mid last e links fields same = record {
  links = record {
    previous = address_before 28 0 (mid ∷ []) (last ∷ []) same (lit≤ tt) ∙ links.previous;
    next = address_before 28 6 (mid ∷ []) (last ∷ []) same (lit≤ tt) ∙ links.next;
    count = field_before 28 12 4 (mid ∷ []) (last ∷ []) same (lit≤ tt) ∙ links.count;
    first = address_before 28 16 (mid ∷ []) (last ∷ []) same (lit≤ tt) ∙ links.first;
    last = address_before 28 22 (mid ∷ []) (last ∷ []) same (lit≤ tt) ∙ links.last;
  };
  fields = record {
    creator = fields.creator;
    modifier = fields.modifier;
    creator_undo = fields.creator_undo;
    modifier_undo = fields.modifier_undo;
    page = fields.page;
    long = fields.long;
    number = fields.number;
  };
}

-- the links of an entry, put into bytes one after another, all stand there
pub links_put : (p0 p1 p2 p3 p4 p5 : List ℕ) (e : Entry)
    → SetsAddress 0 0 (address_of e.previous) (p0 ∷ []) (p1 ∷ []) → SetsAddress 0 6 (address_of e.next) (p1 ∷ []) (p2 ∷ []) → SetsField 0 12 4 e.versions.length (p2 ∷ []) (p3 ∷ [])
    → SetsAddress 0 16 (address_of e.versions.first) (p3 ∷ []) (p4 ∷ []) → SetsAddress 0 22 (address_of e.versions.last) (p4 ∷ []) (p5 ∷ []) → HasEntryLinks (p5 ∷ []) (at_place 0 0) e
links_put p0 p1 p2 p3 p4 p5 e s1 s2 s3 s4 s5 =
    let r5 = then_address 22 (address_of e.versions.last) (p4 ∷ []) (p5 ∷ []) (p5 ∷ []) s5 (same_still 28 (p5 ∷ [])) in
    let r4 = then_address 16 (address_of e.versions.first) (p3 ∷ []) (p4 ∷ []) (p5 ∷ []) s4 r5.1 in
    let r3 = then_number 12 4 e.versions.length (p2 ∷ []) (p3 ∷ []) (p5 ∷ []) s3 r4.1 in
    let r2 = then_address 6 (address_of e.next) (p1 ∷ []) (p2 ∷ []) (p5 ∷ []) s2 r3.1 in
    let r1 = then_address 0 (address_of e.previous) (p0 ∷ []) (p1 ∷ []) (p5 ∷ []) s1 r2.1 in
    record { previous = r1.0; next = r2.0; count = r3.0; first = r4.0; last = r5.0 }

-- so do its fields, and what is before them stays
pub fields_put : (p0 p1 p2 p3 p4 p5 p6 p7 : List ℕ) (e : Entry)
    → SetsField 0 28 6 e.creator.0 (p0 ∷ []) (p1 ∷ []) → SetsField 0 34 6 e.modifier.0 (p1 ∷ []) (p2 ∷ []) → SetsField 0 40 4 e.creator_undo.0 (p2 ∷ []) (p3 ∷ [])
    → SetsField 0 44 4 e.modifier_undo.0 (p3 ∷ []) (p4 ∷ []) → SetsField 0 48 4 e.page.0 (p4 ∷ []) (p5 ∷ []) → SetsField 0 52 4 e.length (p5 ∷ []) (p6 ∷ []) → SetsField 0 56 4 e.version.0 (p6 ∷ []) (p7 ∷ [])
    → HasEntryFields (p7 ∷ []) (at_place 0 0) e × SameBefore 28 (p0 ∷ []) (p7 ∷ [])
fields_put p0 p1 p2 p3 p4 p5 p6 p7 e s1 s2 s3 s4 s5 s6 s7 =
    let r7 = then_number 56 4 e.version.0 (p6 ∷ []) (p7 ∷ []) (p7 ∷ []) s7 (same_still 60 (p7 ∷ [])) in
    let r6 = then_number 52 4 e.length (p5 ∷ []) (p6 ∷ []) (p7 ∷ []) s6 r7.1 in
    let r5 = then_number 48 4 e.page.0 (p4 ∷ []) (p5 ∷ []) (p7 ∷ []) s5 r6.1 in
    let r4 = then_number 44 4 e.modifier_undo.0 (p3 ∷ []) (p4 ∷ []) (p7 ∷ []) s4 r5.1 in
    let r3 = then_number 40 4 e.creator_undo.0 (p2 ∷ []) (p3 ∷ []) (p7 ∷ []) s3 r4.1 in
    let r2 = then_number 34 6 e.modifier.0 (p1 ∷ []) (p2 ∷ []) (p7 ∷ []) s2 r3.1 in
    let r1 = then_number 28 6 e.creator.0 (p0 ∷ []) (p1 ∷ []) (p7 ∷ []) s1 r2.1 in
    (record { creator = r1.0; modifier = r2.0; creator_undo = r3.0; modifier_undo = r4.0; page = r5.0; long = r6.0; number = r7.0 }, r1.1)

-- fields in 64 bytes that were read of a LOB's first page are those of the page
pub first_read : (told : Option Pages) (page : ℕ) (bytes : List ℕ) (f : FirstFields) → IsFirstAt (bytes ∷ []) 0 f
    → IfSome told (λ pages. bytes ≡ bytes_at pages page 0 64) → IfSome told (λ pages. IsFirstAt pages page f)
first_read told page bytes f is = if_told told _ _ (λ pages same. first_agrees pages page bytes f (in_read pages page 0 64 bytes same) is)
