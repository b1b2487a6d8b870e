-- The page of a version's data, written.
use Rattle.std.proofs.Common.{◌≡◌, inl, inr, ℕ, ◌+◌, ◌<◌, ◌≤◌, List, [], ◌∷◌, ◌++◌, length, map, take, drop, Option, Some, None, refl, sym, ap, ◌∙◌, subst, lit≤, arith}
use Rattle.std.specs.Option.{option_map}
use Rattle.std.proofs.lemmas.List.{drop_at, length-take-le}
use Rattle.std.proofs.Math.Seq.{take-append_seam}
use Rattle.page_model.specs.Pages.{Pages, AreWhole, Fits, page_at, bytes_at, written, null_page}
use Rattle.page_model.specs.Spans.{span, IsApartFromAll, AreApart, SetsField}
use Rattle.page_model.specs.Steps.{Told}
use Rattle.page_model.specs.Tables.{field_at, field_span, HasFields, SetsFields, header_fields}
use Rattle.page_model.proofs.FrameLemmas.{page_at-written, written_outside, fits_kept, outside_then, outside_wider, off_part}
use Rattle.page_model.proofs.TableLemmas.{fields_kept, sets_more, table_written}
use Rattle.lob_model.specs.Places.{whole_page}
use Rattle.lob_index.specs.Data.{data_fields, MakesData}

-- the header, the length and the transaction, one behind another
pub front_filled : (page trx len : ℕ) (a b c d : Pages) → SetsFields 0 (header_fields page null_page null_page 5) a b → SetsField 0 39 4 len b c → SetsField 0 43 6 trx c d → HasFields d 0 (data_fields page trx len)
front_filled page trx len a b c d header long who =
    let h = header_fields page null_page null_page 5 in
    let apart1 : IsApartFromAll (map (field_span 0) (header_fields page null_page null_page 5)) (span 0 39 4) = (inr (inr (lit≤ tt)), (inr (inr (lit≤ tt)), (inr (inr (lit≤ tt)), (inr (inr (lit≤ tt)), tt)))) in
    let one = sets_more 0 h (field_at 39 4 len) a b c apart1 header long in
    let apart2 : IsApartFromAll (map (field_span 0) (header_fields page null_page null_page 5 ++ field_at 39 4 len ∷ [])) (span 0 43 6) = (inr (inr (lit≤ tt)), (inr (inr (lit≤ tt)), (inr (inr (lit≤ tt)), (inr (inr (lit≤ tt)), (inr (inr (lit≤ tt)), tt))))) in
    (sets_more 0 (h ++ field_at 39 4 len ∷ []) (field_at 43 6 trx) a c d apart2 one who).here

before_data : (page trx len n : ℕ) → AreApart (span page 49 n ∷ []) (map (field_span page) (data_fields page trx len))
before_data page trx len n = (
  (inr (inl (lit≤ tt)), tt),
  ((inr (inl (lit≤ tt)), tt), ((inr (inl (lit≤ tt)), tt), ((inr (inl (lit≤ tt)), tt), ((inr (inl (lit≤ tt)), tt), ((inr (inl (lit≤ tt)), tt), tt))))),
)

bytes_here : (pages : Pages) (page at : ℕ) (bytes : List ℕ) → Fits pages page at (length bytes) → bytes_at (written pages page at bytes) page at (length bytes) ≡ bytes
bytes_here pages page at bytes fits =
    let p = page_at pages page in
    let within = fits.within in
    ap (λ (q : List ℕ). take (length bytes) (drop at q)) (page_at-written pages page at bytes fits.there)
    ∙ ap (take (length bytes)) (drop_at (take at p) (bytes ++ drop (at + length bytes) p) at (length-take-le at p (omega arith)))
    ∙ take-append_seam bytes (drop (at + length bytes) p)

made : (pages : Pages) (count page trx : ℕ) (front bytes : List ℕ) → AreWhole pages count → page < count → length front ≡ 49 → length bytes ≤ 16_327 → HasFields (front ∷ []) 0 (data_fields page trx (length bytes))
    → MakesData page trx bytes pages (written (written pages page 0 front) page 49 bytes)
made pages count page trx front bytes whole there len short has =
    let t = data_fields page trx (length bytes) in
    let p1 = written pages page 0 front in
    let p2 = written p1 page 49 bytes in
    let fits1 : Fits pages page 0 (length front) = record { there = omega (arith, whole.many, there); within = omega (arith, whole.each page there, len) } in
    let out1 = written_outside pages page 0 front fits1 in
    let fits2 : Fits p1 page 49 (length bytes) = fits_kept (span page 0 (length front) ∷ []) pages p1 page 49 (length bytes) out1 (record { there = omega (arith, whole.many, there); within = omega (arith, whole.each page there, short) }) in
    let out2 = written_outside p1 page 49 bytes fits2 in
    let has1 = table_written pages page front 0 t fits1 refl (omega (arith, len)) has in
    let has2 = fields_kept (span page 49 (length bytes) ∷ []) p1 p2 page t out2 (before_data page trx (length bytes) (length bytes)) has1 in
    record {
      here = record { there = omega (arith, whole.many, there, out1.many, out2.many); number = has2.0; type' = has2.1.1.1.0 };
      fields = has2;
      bytes' = bytes_here p1 page 49 bytes fits2;
      outside = outside_wider (span page 0 (length front) ∷ span page 49 (length bytes) ∷ []) (whole_page page ∷ []) pages p2
          (λ n k off. (off_part page 0 16_384 0 (length front) n k (omega arith) (omega (arith, len)) off.0, (off_part page 0 16_384 49 (length bytes) n k (omega arith) (omega (arith, short)) off.0, tt)))
          (outside_then (span page 0 (length front) ∷ []) (span page 49 (length bytes) ∷ []) pages p1 p2 out1 out2);
    }

-- the same of pages that may be told
pub data_told : (old mid new : Option Pages) (count page trx : ℕ) (front bytes : List ℕ) → ((pages : Pages) → old ≡ Some pages → AreWhole pages count) → page < count → length front ≡ 49 → length bytes ≤ 16_327
    → HasFields (front ∷ []) 0 (data_fields page trx (length bytes)) → mid ≡ option_map (λ pages. written pages page 0 front) old → new ≡ option_map (λ pages. written pages page 49 bytes) mid
    → Told (MakesData page trx bytes) old new
data_told None mid new count page trx front bytes whole there len short has one two = two ∙ ap (option_map (λ pages. written pages page 49 bytes)) one
data_told (Some pages) mid new count page trx front bytes whole there len short has one two =
    let P : Option Pages → Type 0 = λ o. Told (MakesData page trx bytes) (Some pages) o in
    let e : new ≡ Some (written (written pages page 0 front) page 49 bytes) = two ∙ ap (option_map (λ pages. written pages page 49 bytes)) one in
    subst P (sym e) (made pages count page trx front bytes (whole pages refl) there len short has)
