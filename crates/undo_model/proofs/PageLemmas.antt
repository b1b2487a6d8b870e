-- Records in pages: written, kept, and only one at a place.
use Rattle.std.proofs.Common.{◌≡◌, ℕ, ◌+◌, ◌≤◌, List, [], ◌∷◌, ◌++◌, length, take, drop, Some, sym, ap, ap₂, ◌∙◌, subst, arith}
use Rattle.std.proofs.lemmas.List.{length-take-le, drop_at}
use Rattle.std.proofs.Math.Seq.{take-append_seam}
use Rattle.page_model.specs.Pages.{Pages, Fits, page_at, bytes_at, field, written, Address}
use Rattle.page_model.specs.Spans.{Span, span, SameOutside, IsApartFromAll}
use Rattle.page_model.proofs.FrameLemmas.{field_kept, bytes_kept, apart_part, field-written_in, page_at-written, written_outside}
use Rattle.undo_model.specs.Data.{Record}
use Rattle.undo_model.specs.Bytes.{record_size, record_bytes}
use Rattle.undo_model.specs.Reading.{Standing, record_in, IsRecordAt, record_end, IsSoundRecord, IsSoundPrevious, WritesRecord}
use Rattle.undo_model.proofs.BlockLemmas.{number_first}
use Rattle.undo_model.proofs.OptionLemmas.{some_some}
use Rattle.undo_model.proofs.ReadBackLemmas.{record_back}

-- a record stays at its address where nothing changes but bytes apart from it
pub record_kept : (xs : List Span) (old new : Pages) (a : Address) (r : Record) (previous : Address) → SameOutside xs old new
    → IsApartFromAll xs (span a.page a.at (record_size r)) → IsRecordAt old a r previous → IsRecordAt new a r previous
record_kept xs old new a r previous same apart is =
    let n = record_size r in record {
      page = omega (arith, same.many, is.page);
      size = field_kept xs old new a.page a.at 2 same (apart_part xs a.page a.at n a.at 2 (omega arith) (omega arith) apart) ∙ is.size;
      within = is.within;
      reads = ap₂ record_in same.many (bytes_kept xs old new a.page a.at n same apart) ∙ is.reads;
    }

-- at one place there is one record
pub one_record : (pages : Pages) (a : Address) (r s : Record) (p q : Address) → IsRecordAt pages a r p → IsRecordAt pages a s q
    → (r ≡ s) × (p ≡ q)
one_record pages a r s p q first second =
    let size : record_size s ≡ record_size r = sym second.size ∙ first.size in
    let P : ℕ → Type 0 = λ n. record_in (length pages) (bytes_at pages a.page a.at n) ≡ Some (let x : Standing = record { undo = s; previous = q } in x) in
    let e : (let x : Standing = record { undo = r; previous = p } in x) ≡ (let y : Standing = record { undo = s; previous = q } in y) = some_some _ _ (sym first.reads ∙ subst P size second.reads) in
    (ap (λ (x : Standing). x.undo) e, ap (λ (x : Standing). x.previous) e)

-- ---- a record that was written

pub record_length : (r : Record) (previous : Address) → length (record_bytes r previous) ≡ record_size r
record_length r previous = omega arith

bytes_written : (pages : Pages) (page at n : ℕ) (bytes : List ℕ) → Fits pages page at (length bytes) → length bytes ≡ n
    → bytes_at (written pages page at bytes) page at n ≡ bytes
bytes_written pages page at n bytes fits len =
    let p = page_at pages page in
    let within = fits.within in
    ap (λ (q : List ℕ). take n (drop at q)) (page_at-written pages page at bytes fits.there)
    ∙ ap (take n) (drop_at (take at p) (bytes ++ drop (at + length bytes) p) at (length-take-le at p (omega arith)))
    ∙ ap (λ (m : ℕ). take m (bytes ++ drop (at + length bytes) p)) (sym len)
    ∙ take-append_seam bytes (drop (at + length bytes) p)

-- the bytes of a sound record, written at an address where they fit, write it there
pub record_set : (pages : Pages) (a : Address) (r : Record) (previous : Address) → Fits pages a.page a.at (record_size r) → a.at + record_size r ≤ record_end
    → IsSoundRecord (length pages) r → IsSoundPrevious (length pages) previous
    → WritesRecord a r previous pages (written pages a.page a.at (record_bytes r previous))
record_set pages a r previous fits within sound sound' =
    let bytes = record_bytes r previous in
    let len : length bytes ≡ record_size r = record_length r previous in
    let fits' : Fits pages a.page a.at (length bytes) = record { there = fits.there; within = rw len fits.within } in
    let new = written pages a.page a.at bytes in
    let S : ℕ → Type 0 = λ n. SameOutside (span a.page a.at n ∷ []) pages new in
    let outside : S (record_size r) = subst S len (written_outside pages a.page a.at bytes fits') in
    record {
      stands = record {
        page = omega (arith, outside.many, fits.there);
        size = ap (λ (m : ℕ). field new a.page m 2) (omega arith) ∙ field-written_in pages a.page a.at bytes 0 2 fits' (omega (arith, len))
            ∙ number_first 2 (record_size r) (drop 2 bytes) (omega (arith, within));
        within = within;
        reads = ap₂ record_in outside.many (bytes_written pages a.page a.at (record_size r) bytes fits' len) ∙ record_back (length pages) r previous sound sound';
      };
      outside = outside;
    }
