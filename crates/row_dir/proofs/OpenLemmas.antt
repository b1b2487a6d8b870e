-- A row page that begins, and one put behind the others.
use Rattle.std.proofs.Common.{◌≡◌, ◌≢◌, ◌⊎◌, inl, inr, ℕ, zero, suc, ◌+◌, ◌*◌, ◌<◌, ◌≤◌, ◌%◌, List, [], ◌∷◌, ◌++◌, length, map, replicate, Option, Some, None, refl, sym, ap, subst, lit≤, ◌∙◌, arith}
use Rattle.std.specs.Option.{option_map}
use Rattle.std.specs.Int.{bit_at}
use Rattle.std.proofs.lemmas.List.{length-replicate, append-nil}
use Rattle.page_model.specs.Pages.{Pages, AreWhole, Address, byte, field, written, null_page, page_bytes}
use Rattle.page_model.specs.Spans.{Span, span, SameOutside, IsOffAll, IsApartFromAll, AreApart}
use Rattle.page_model.specs.Lists.{IsList, base_span, node_span, list_spans}
use Rattle.page_model.specs.Tables.{HasFields, SetsFields, field_at, header_fields}
use Rattle.page_model.specs.Steps.{Told, Becomes}
use Rattle.page_model.specs.Counts.{times}
use Rattle.page_model.proofs.CountLemmas.{times_here, times-append}
use Rattle.page_model.proofs.FrameLemmas.{field_kept, outside_then, outside_wider, off_part, written_outside}
use Rattle.page_model.proofs.ListLemmas.{list_kept}
use Rattle.page_model.proofs.TableLemmas.{sets_then, rising_across}
use Rattle.page_model.proofs.StepLemmas.{told_step}
use Rattle.page_space.specs.Map.{IsMap, IsUsed, IsFree, bit, place_of, free_of, TakesPage}
use Rattle.page_space.proofs.MapLemmas.{map_kept, field-byte}
use Rattle.page_space.proofs.SystemLemmas.{blank_at}
use Rattle.file_lists.specs.Changes.{ChangesList, IsElsewhere}
use Rattle.lob_pages.proofs.ByteLemmas.{in_written}
use Rattle.lob_pages.proofs.EntryLemmas.{told_written}
use Rattle.undo_model.specs.Logs.{node_of}
use Rattle.undo_model.specs.Rows.{Keyed, RowPage, AreSlots, IsRowPage, AreRowPages, AreOnce, IsRows, row_base, row_nodes, rows_of, row_for, somes}
use Rattle.store_parts.specs.Appends.{AreUsed}
use Rattle.store_parts.specs.Stored.{row_pages}
use Rattle.store_parts.specs.Standing.{AreOn}
use Rattle.store_parts.proofs.MoveLemmas.{mark_same, taken_marks}
use Rattle.store_parts.proofs.CountLemmas.{on_wider}
use Rattle.row_dir.specs.Slots.{SetsSlot}
use Rattle.row_dir.specs.RowPages.{CanChange, StartsWith, OpensPage, page_of}
use Rattle.row_dir.proofs.SlotChangeLemmas.{told_then, row_kept}
use Rattle.row_dir.proofs.RowsLemmas.{rows_join, new_of, once_more}
use Rattle.row_dir.proofs.ChangeLemmas.{are_join, page_kept}

-- ---- the page's bytes

pub record Laid (page : ℕ) (bytes : List ℕ) : Type 0 where
  pub header : HasFields (bytes ∷ []) 0 (header_fields page null_page null_page 2)
  pub count : HasFields (bytes ∷ []) 0 (field_at 50 2 1 ∷ [])
  pub zeros : (k : ℕ) → 52 ≤ k → byte (bytes ∷ []) 0 k ≡ 0

pub laid_out : (page : ℕ) (b0 b1 b2 : List ℕ) → b0 ≡ replicate page_bytes 0 → SetsFields 0 (header_fields page null_page null_page 2) (b0 ∷ []) (b1 ∷ []) → SetsFields 0 (field_at 50 2 1 ∷ []) (b1 ∷ []) (b2 ∷ []) → Laid page b2
laid_out page b0 b1 b2 blank one two =
    let h = header_fields page null_page null_page 2 in
    let all = sets_then 0 h (field_at 50 2 1 ∷ []) (b0 ∷ []) (b1 ∷ []) (b2 ∷ []) (rising_across 0 0 h (field_at 50 2 1 ∷ []) refl) one two in
    let f = all.here in
    record {
      header = (f.0, (f.1.0, (f.1.1.0, (f.1.1.1.0, tt))));
      count = (f.1.1.1.1.0, tt);
      zeros = λ k low. all.outside.bytes 0 k (inr (inr (omega (arith, low))), (inr (inr (omega (arith, low))), (inr (inr (omega (arith, low))), (inr (inr (omega (arith, low))), (inr (inr (omega (arith, low))), tt))))) ∙ blank_at b0 blank k;
    }

record Blank (page : ℕ) (old new : Pages) : Type 0 where
  type : field new page 24 2 ≡ 2
  count : field new page 50 2 ≡ 1
  free : (at : ℕ) → 52 ≤ at → at < 16_384 → field new page at 1 ≡ 0
  outside : SameOutside (span page 0 16_384 ∷ []) old new

blank_told : (old new : Option Pages) (count page : ℕ) (bytes : List ℕ) → ((pages : Pages) → old ≡ Some pages → AreWhole pages count) → page < count → length bytes ≡ 16_384 → Laid page bytes
    → new ≡ option_map (λ pages. written pages page 0 bytes) old → Told (Blank page) old new
blank_told old new count page bytes whole below size laid is =
    told_written old new count page 0 bytes (Blank page) whole below (omega (arith, size)) is (λ pages fits.
    let now = written pages page 0 bytes in
    let S : ℕ → Type 0 = λ n. SameOutside (span page 0 n ∷ []) pages now in record {
      type = in_written pages page 0 bytes fits 24 2 24 (omega (arith, size)) refl ∙ laid.header.1.1.1.0;
      count = in_written pages page 0 bytes fits 50 2 50 (omega (arith, size)) refl ∙ laid.count.0;
      free = λ at low high. in_written pages page 0 bytes fits at 1 at (omega (arith, size, high)) (omega arith) ∙ (field-byte (bytes ∷ []) 0 at ∙ laid.zeros at low);
      outside = subst S size (written_outside pages page 0 bytes fits);
    })

-- a page written blank, and then its first slot
pub started : (t0 t1 t2 : Option Pages) (count page : ℕ) (bytes : List ℕ) (k : Keyed) → ((pages : Pages) → t0 ≡ Some pages → AreWhole pages count) → page < count → length bytes ≡ 16_384 → Laid page bytes
    → t1 ≡ option_map (λ pages. written pages page 0 bytes) t0 → Told (SetsSlot (record { page = page; at = 52 }) k) t1 t2 → Told (StartsWith page k) t0 t2
started t0 t1 t2 count page bytes k whole below size laid is sets =
    let a : Address = record { page = page; at = 52 } in
    told_then (Blank page) (SetsSlot a k) (StartsWith page k) t0 t1 t2 (λ x y z b s. record {
      type = field_kept (span page 52 40 ∷ []) y z page 24 2 s.outside (inr (inl (lit≤ tt)), tt) ∙ b.type;
      count = field_kept (span page 52 40 ∷ []) y z page 50 2 s.outside (inr (inl (lit≤ tt)), tt) ∙ b.count;
      row = s.stands;
      free = λ at low high. field_kept (span page 52 40 ∷ []) y z page at 1 s.outside (inr (inr (omega (arith, low))), tt) ∙ b.free at (omega (arith, low)) high;
      outside = outside_wider (span page 0 16_384 ∷ span page 52 40 ∷ []) (span page 0 16_384 ∷ []) x z
          (λ q j off. (off.0, (off_part page 0 16_384 52 40 q j (lit≤ tt) (lit≤ tt) off.0, tt)))
          (outside_then (span page 0 16_384 ∷ []) (span page 52 40 ∷ []) x y z b.outside s.outside);
    }) (blank_told t0 t1 count page bytes whole below size laid is) sets

-- ---- free slots

pub none_somes : (m : ℕ) → somes (replicate m None) ≡ []
none_somes zero = refl
none_somes (suc m) = none_somes m

slots_free : (pages : Pages) (n : ℕ) → ((at : ℕ) → 92 ≤ at → at < 16_384 → field pages n at 1 ≡ 0) → (m at : ℕ) → 92 ≤ at → at + 40 * m ≤ 16_384 → AreSlots pages n at (replicate m None)
slots_free pages n free zero at low high = tt
slots_free pages n free (suc m) at low high = (free at low (omega (arith, high)), slots_free pages n free m (at + 40) (omega (arith, low)) (omega (arith, high)))

-- ---- a page behind the others

pub nodes_last : (rows : List RowPage) (n : ℕ) (slots : List (Option Keyed)) → row_nodes (rows ++ page_of n slots ∷ []) ≡ row_nodes rows ++ node_of n ∷ []
nodes_last [] n slots = refl
nodes_last (p ∷ rows) n slots = ap (λ (ns : List Address). node_of p.page ∷ ns) (nodes_last rows n slots)

pub pages_last : (rows : List RowPage) (n : ℕ) (slots : List (Option Keyed)) → row_pages (rows ++ page_of n slots ∷ []) ≡ row_pages rows ++ n ∷ []
pages_last [] n slots = refl
pages_last (p ∷ rows) n slots = ap (λ (ns : List ℕ). p.page ∷ ns) (pages_last rows n slots)

-- bytes of a row page that aren't its node are apart from all nodes
pub nodes_miss : (rows : List RowPage) (q at size : ℕ) → (at + size ≤ 38) ⊎ (50 ≤ at) → IsApartFromAll (map node_span (row_nodes rows)) (span q at size)
nodes_miss [] q at size side = tt
nodes_miss (p ∷ rows) q at size (inl low) = (inr (inl low), nodes_miss rows q at size (inl low))
nodes_miss (p ∷ rows) q at size (inr high) = (inr (inr high), nodes_miss rows q at size (inr high))

pub nodes_on : (rows : List RowPage) → AreOn (row_pages rows) (map node_span (row_nodes rows))
nodes_on [] = tt
nodes_on (p ∷ rows) = (times_here p.page (row_pages rows), on_wider (row_pages rows) (p.page ∷ row_pages rows) (map node_span (row_nodes rows)) (λ k. omega arith) (nodes_on rows))

-- page 0 is none of these
abbrev pub OffZero : List RowPage → Type 0
OffZero [] = Unit {0}
OffZero (p ∷ rows) = (p.page ≢ 0) × OffZero rows

pub off_used : (pages : Pages) (rows : List RowPage) → AreUsed pages (row_nodes rows) → OffZero rows
off_used pages [] used = tt
off_used pages (p ∷ rows) used = (used.0, off_used pages rows used.2)

pub off_added : (rows : List RowPage) (n : ℕ) (slots : List (Option Keyed)) → OffZero rows → n ≢ 0 → OffZero (rows ++ page_of n slots ∷ [])
off_added [] n slots off other = (other, tt)
off_added (p ∷ rows) n slots off other = (off.0, off_added rows n slots off.1 other)

pub zero_nodes : (rows : List RowPage) (at size : ℕ) → OffZero rows → IsApartFromAll (map node_span (row_nodes rows)) (span 0 at size)
zero_nodes [] at size off = tt
zero_nodes (p ∷ rows) at size off = (inl (λ e. off.0 (sym e)), zero_nodes rows at size off.1)

pub zero_off : (rows : List RowPage) (j : ℕ) → OffZero rows → IsOffAll (map node_span (row_nodes rows)) 0 j
zero_off [] j off = tt
zero_off (p ∷ rows) j off = (inl (λ e. off.0 (sym e)), zero_off rows j off.1)

-- the page is none of those that are used
abbrev Other : ℕ → List RowPage → Type 0
Other n [] = Unit {0}
Other n (p ∷ rows) = (p.page ≢ n) × Other n rows

free_other : (pages : Pages) (n q : ℕ) → IsFree pages n → IsUsed pages q → q ≢ n
free_other pages n q free used same = let e : 1 ≡ 0 = sym used ∙ ap (bit pages) same ∙ free in cc

others : (pages : Pages) (n : ℕ) (rows : List RowPage) → IsFree pages n → AreUsed pages (row_nodes rows) → Other n rows
others pages n [] free used = tt
others pages n (p ∷ rows) free used = (free_other pages n p.page free used.1, others pages n rows free used.2)

other_nodes : (n at size : ℕ) (rows : List RowPage) → Other n rows → IsApartFromAll (map node_span (row_nodes rows)) (span n at size)
other_nodes n at size [] out = tt
other_nodes n at size (p ∷ rows) out = (inl (λ e. out.0 (sym e)), other_nodes n at size rows out.1)

nodes_other : (n at size : ℕ) (rows : List RowPage) → Other n rows → AreApart (span n at size ∷ []) (map node_span (row_nodes rows))
nodes_other n at size [] out = tt
nodes_other n at size (p ∷ rows) out = ((inl out.0, tt), nodes_other n at size rows out.1)

pub nodes_far : (xs : List Span) (rows : List RowPage) → OffZero rows → ((q : ℕ) → q ≢ 0 → IsApartFromAll xs (node_span (node_of q))) → AreApart xs (map node_span (row_nodes rows))
nodes_far xs [] off far = tt
nodes_far xs (p ∷ rows) off far = (far p.page off.0, nodes_far xs rows off.1 far)

-- the list before the new page is put in, and the place of its node
module _ (p0 p1 p2 : Pages) (rows : List RowPage) (n : ℕ) (k : Keyed) (is : IsRows p0 row_base rows) (can : CanChange rows p0) (take : TakesPage n p0 p1) (start : StartsWith n k p1 p2) where
  not_zero : n ≢ 0
  not_zero e = free_other p0 n 0 take.free can.system (sym e)

  pub list_ready : IsList p2 row_base (row_nodes rows)
  list_ready =
      let xs = span 0 62 4 ∷ span 0 (place_of n) 1 ∷ [] in
      let l1 = list_kept xs p0 p1 row_base (row_nodes rows) take.change.outside ((inr (inr (lit≤ tt)), (inr (inl (omega arith)), tt)), nodes_far xs rows (off_used p0 rows can.used) (λ q other. (inl other, (inl other, tt)))) is.list in
      list_kept (span n 0 16_384 ∷ []) p1 p2 row_base (row_nodes rows) start.outside ((inl (λ e. not_zero (sym e)), tt), nodes_other n 0 16_384 rows (others p0 n rows take.free can.used)) l1

  pub node_elsewhere : IsElsewhere row_base (row_nodes rows) (node_of n)
  node_elsewhere = (inl not_zero, other_nodes n 38 12 rows (others p0 n rows take.free can.used))

  pub few_nodes : length (row_nodes rows) + 1 < 4_294_967_296
  few_nodes = let f = can.few in let e = many rows in omega (arith, f, e)
    where
      many : (ps : List RowPage) → length (row_nodes ps) ≡ length ps
      many [] = refl
      many (p ∷ ps) = let m = many ps in omega (arith, m)

module _ (p0 p1 p2 p3 : Pages) (rows : List RowPage) (n : ℕ) (k : Keyed) (is : IsRows p0 row_base rows) (can : CanChange rows p0) (none : row_for k.doc (rows_of rows) ≡ None) (take : TakesPage n p0 p1) (start : StartsWith n k p1 p2)
    (changed : ChangesList row_base (row_nodes rows ++ node_of n ∷ []) (row_nodes rows ++ node_of n ∷ []) p2 p3) where
  change : ChangesList row_base (row_nodes (rows ++ page_of n (Some k ∷ replicate 407 None) ∷ [])) (row_nodes (rows ++ page_of n (Some k ∷ replicate 407 None) ∷ [])) p2 p3
  change =
      let P : List Address → Type 0 = λ ns. ChangesList row_base ns ns p2 p3 in
      subst P (sym (nodes_last rows n (Some k ∷ replicate 407 None))) changed

  n_other : n ≢ 0
  n_other e = free_other p0 n 0 take.free can.system (sym e)

  off_now : OffZero (rows ++ page_of n (Some k ∷ replicate 407 None) ∷ [])
  off_now = off_added rows n (Some k ∷ replicate 407 None) (off_used p0 rows can.used) n_other

  same13 : SameOutside (span n 0 16_384 ∷ base_span row_base ∷ map node_span (row_nodes (rows ++ page_of n (Some k ∷ replicate 407 None) ∷ []))) p1 p3
  same13 = outside_then (span n 0 16_384 ∷ []) (list_spans row_base (row_nodes (rows ++ page_of n (Some k ∷ replicate 407 None) ∷ []))) p1 p2 p3 start.outside change.outside

  same03 : SameOutside (span 0 62 4 ∷ span 0 (place_of n) 1 ∷ span n 0 16_384 ∷ base_span row_base ∷ map node_span (row_nodes (rows ++ page_of n (Some k ∷ replicate 407 None) ∷ []))) p0 p3
  same03 = outside_then (span 0 62 4 ∷ span 0 (place_of n) 1 ∷ []) (span n 0 16_384 ∷ base_span row_base ∷ map node_span (row_nodes (rows ++ page_of n (Some k ∷ replicate 407 None) ∷ []))) p0 p1 p3 take.change.outside same13

  old_kept : (ps : List RowPage) → AreUsed p0 (row_nodes ps) → AreRowPages p0 ps → AreRowPages p3 ps
  old_kept [] used are = tt
  old_kept (p ∷ ps) used are =
      let other = free_other p0 n p.page take.free used.1 in
      let miss : (at size : ℕ) → (at + size ≤ 38) ⊎ (50 ≤ at) → IsApartFromAll (span 0 62 4 ∷ span 0 (place_of n) 1 ∷ span n 0 16_384 ∷ base_span row_base ∷ map node_span (row_nodes (rows ++ page_of n (Some k ∷ replicate 407 None) ∷ []))) (span p.page at size) = λ at size side.
      (inl used.0, (inl used.0, (inl other, (inl used.0, nodes_miss (rows ++ page_of n (Some k ∷ replicate 407 None) ∷ []) p.page at size side)))) in (
        page_kept _ p0 p3 p same03 (miss 24 2 (inl (lit≤ tt))) (miss 50 2 (inr (lit≤ tt))) (miss 52 16_320 (inr (lit≤ tt))) are.0,
        old_kept ps used.2 are.1,
      )

  here : (at size : ℕ) → (at + size ≤ 38) ⊎ (50 ≤ at) → IsApartFromAll (base_span row_base ∷ map node_span (row_nodes (rows ++ page_of n (Some k ∷ replicate 407 None) ∷ []))) (span n at size)
  here at size side = (inl n_other, nodes_miss (rows ++ page_of n (Some k ∷ replicate 407 None) ∷ []) n at size side)

  page_is : IsRowPage p3 (page_of n (Some k ∷ replicate 407 None))
  page_is =
      let long = length-replicate {A = Option Keyed} 407 None in
      let few : length (somes (Some k ∷ replicate 407 None)) ≡ 1 = (let e = ap length (none_somes 407) in omega (arith, e)) in
      let L : List Span = base_span row_base ∷ map node_span (row_nodes (rows ++ page_of n (Some k ∷ replicate 407 None) ∷ [])) in
      record {
        there = (let a = take.there in let m = same03.many in omega (arith, a, m));
        type = field_kept L p2 p3 n 24 2 change.outside (here 24 2 (inl (lit≤ tt))) ∙ start.type;
        count = field_kept L p2 p3 n 50 2 change.outside (here 50 2 (inr (lit≤ tt))) ∙ (start.count ∙ sym few);
        many = omega (arith, long);
        slots = (
          row_kept L p2 p3 n 52 k change.outside (here 52 40 (inr (lit≤ tt))) start.row,
          slots_free p3 n (λ at low high. field_kept L p2 p3 n at 1 change.outside (here at 1 (inr (omega (arith, low)))) ∙ start.free at low high) 407 92 (lit≤ tt) (lit≤ tt),
        );
        some = omega (arith, few);
      }

  once_now : AreOnce (rows_of (rows ++ page_of n (Some k ∷ replicate 407 None) ∷ []))
  once_now =
      let e : rows_of (rows ++ page_of n (Some k ∷ replicate 407 None) ∷ []) ≡ rows_of rows ++ k ∷ [] = rows_join rows (page_of n (Some k ∷ replicate 407 None) ∷ []) ∙ ap (λ (xs : List Keyed). rows_of rows ++ k ∷ (xs ++ [])) (none_somes 407) in
      let nil = sym (append-nil (rows_of rows)) in
      let new = new_of k.doc (rows_of rows ++ []) (ap (row_for k.doc) (append-nil (rows_of rows)) ∙ none) in
      subst AreOnce (sym e) (once_more (rows_of rows) k [] new (subst AreOnce nil is.once))

  on_now : AreOn (row_pages rows ++ row_pages (rows ++ page_of n (Some k ∷ replicate 407 None) ∷ [])) (span n 0 16_384 ∷ map node_span (row_nodes (rows ++ page_of n (Some k ∷ replicate 407 None) ∷ [])))
  on_now =
      let rp = row_pages rows in
      let np = row_pages (rows ++ page_of n (Some k ∷ replicate 407 None) ∷ []) in
      let among : 1 ≤ times n np = (let a = ap (times n) (pages_last rows n (Some k ∷ replicate 407 None)) in let b = times-append n rp (n ∷ []) in let h = times_here n [] in omega (arith, a, b, h)) in (
        (let c = times-append n rp np in omega (arith, c, among)),
        on_wider np (rp ++ np) _ (λ q. let c = times-append q rp np in omega (arith, c)) (nodes_on (rows ++ page_of n (Some k ∷ replicate 407 None) ∷ [])),
      )

  bits : (q : ℕ) → bit p3 q ≡ bit p1 q
  bits q = ap (λ (b : ℕ). bit_at b (q % 8)) (same13.bytes 0 (place_of q) (inl (λ e. n_other (sym e)), (inr (inr (omega arith)), zero_off (rows ++ page_of n (Some k ∷ replicate 407 None) ∷ []) (place_of q) off_now)))

  map_now : IsMap p3
  map_now = map_kept (span n 0 16_384 ∷ base_span row_base ∷ map node_span (row_nodes (rows ++ page_of n (Some k ∷ replicate 407 None) ∷ []))) p1 p3 same13
      (inl (λ e. n_other (sym e)), (inr (inl (lit≤ tt)), zero_nodes (rows ++ page_of n (Some k ∷ replicate 407 None) ∷ []) 62 4 off_now))
      (inl (λ e. n_other (sym e)), (inr (inr (lit≤ tt)), zero_nodes (rows ++ page_of n (Some k ∷ replicate 407 None) ∷ []) 128 4_096 off_now)) take.map

  pub opened : OpensPage k rows n p0 p3
  opened = record {
    spans = span n 0 16_384 ∷ map node_span (row_nodes (rows ++ page_of n (Some k ∷ replicate 407 None) ∷ []));
    moves = record {
      outside = outside_wider _ _ p0 p3 (λ q j off. (off.1.0, (off_part 0 128 4_096 (place_of n) 1 q j (omega arith) (let a = take.there in let b = take.map.size.few in let m = take.change.outside.many in omega (arith, a, b, m)) off.1.1.0, (off.1.1.1.0, (off.0, off.1.1.1.1))))) same03;
      on = on_now;
      map = map_now;
      stands = record { list = change.list; each = are_join p3 rows (page_of n (Some k ∷ replicate 407 None)) [] (old_kept rows can.used is.each) page_is tt; once = once_now };
      marks = λ q.
          let rp = row_pages rows in
          let t = taken_marks rp n p0 p1 take.there take.change.outside.many take.free take.change.here take.change.others q in
          let m = mark_same p1 p3 q same13.many (bits q) in
          let a = ap (times q) (pages_last rows n (Some k ∷ replicate 407 None)) in
          let b = times-append q rp (n ∷ []) in
          omega (arith, t, m, a, b);
    };
  }

  pub free_kept : free_of p3 ≡ free_of p1
  free_kept = field_kept (span n 0 16_384 ∷ base_span row_base ∷ map node_span (row_nodes (rows ++ page_of n (Some k ∷ replicate 407 None) ∷ []))) p1 p3 0 62 4 same13 (inl (λ e. n_other (sym e)), (inr (inl (lit≤ tt)), zero_nodes (rows ++ page_of n (Some k ∷ replicate 407 None) ∷ []) 62 4 off_now))

-- ---- the calls, over told pages

pub page_opened : (t1 t2 t3 : Option Pages) (pages : Pages) (rows : List RowPage) (n space : ℕ) (k : Keyed) → IsRows pages row_base rows → CanChange rows pages → row_for k.doc (rows_of rows) ≡ None
    → Becomes t1 (λ new. TakesPage n pages new × (space ≤ free_of new)) → Told (StartsWith n k) t1 t2
    → ((ps : Pages) (ns : List Address) → t2 ≡ Some ps → IsList ps row_base ns → IsElsewhere row_base ns (node_of n) → length ns + 1 < 4_294_967_296
    → Becomes t3 (λ new. ChangesList row_base (ns ++ node_of n ∷ []) (ns ++ node_of n ∷ []) ps new))
    → Becomes t3 (λ new. OpensPage k rows n pages new × (space ≤ free_of new))
page_opened t1 t2 t3 pages rows n space k is can none took start add =
    let p1 = took.0 in
    let take = took.2.0 in
    let b2 = told_step (StartsWith n k) t1 t2 p1 took.1 start in
    let b3 = add b2.0 (row_nodes rows) b2.1 (list_ready pages p1 b2.0 rows n k is can take b2.2) (node_elsewhere pages p1 b2.0 rows n k is can take b2.2) (few_nodes pages p1 b2.0 rows n k is can take b2.2) in
    let f = free_kept pages p1 b2.0 b3.0 rows n k is can none take b2.2 b3.2 in
    let c = took.2.1 in
    (b3.0, b3.1, (opened pages p1 b2.0 b3.0 rows n k is can none take b2.2 b3.2, omega (arith, f, c)))

pub page_opens : {X : Type 0} (t1 t2 : Option Pages) (pages : Pages) (rows : List RowPage) (n space : ℕ) (k : Keyed) → IsRows pages row_base rows → CanChange rows pages
    → Becomes t1 (λ new. TakesPage n pages new × (space ≤ free_of new)) → Told (StartsWith n k) t1 t2
    → ((ps : Pages) (ns : List Address) → t2 ≡ Some ps → IsList ps row_base ns → length ns + 1 < 4_294_967_296 → X) → X
page_opens t1 t2 pages rows n space k is can took start then =
    let b2 = told_step (StartsWith n k) t1 t2 took.0 took.1 start in
    then b2.0 (row_nodes rows) b2.1 (list_ready pages took.0 b2.0 rows n k is can took.2.0 b2.2) (few_nodes pages took.0 b2.0 rows n k is can took.2.0 b2.2)
