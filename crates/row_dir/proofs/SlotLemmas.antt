-- A row in bytes that were read, or are to be written, is the row in its slot.
use Rattle.std.proofs.Common.{◌≡◌, ℕ, ◌+◌, ◌<◌, ◌≤◌, List, [], ◌∷◌, length, Option, Some, None, IfSome, refl, sym, subst, lit≤, ◌∙◌, arith}
use Rattle.std.specs.Option.{option_map}
use Rattle.page_model.specs.Pages.{Pages, AreWhole, bytes_at, field, written, Address}
use Rattle.page_model.specs.Spans.{span, SameOutside, SetsField}
use Rattle.page_model.specs.Steps.{Told}
use Rattle.page_model.proofs.FrameLemmas.{written_outside}
use Rattle.lob_pages.proofs.ByteLemmas.{in_written, in_read, then_number, same_still}
use Rattle.lob_pages.proofs.EntryLemmas.{if_told, told_written}
use Rattle.store_data.specs.Store.{RowState, absent, live, deleted}
use Rattle.undo_model.specs.Bytes.{state_code}
use Rattle.undo_model.specs.Rows.{Keyed, IsPresent, IsRowAt, IsSlot}
use Rattle.std.proofs.Common.{Result, Err, IfErr}
use Rattle.engine_base.specs.Faults.{Oddity, IsHonest}
use Rattle.engine_base.specs.declared.fault.Fault.{Fault}
use Rattle.engine_base.specs.declared.fault.Fault.TheVariants.{Strange}
use Rattle.engine_base.specs.declared.ids.PageNo.{PageNo}
use Rattle.row_dir.specs.Slots.{FitsSlot, SetsSlot}

-- fields agree with those of bytes alone
abbrev Agree : Pages → ℕ → ℕ → ℕ → List ℕ → Type 0
Agree pages page at n bytes = (i width at' : ℕ) → i + width ≤ n → at' ≡ at + i → field pages page at' width ≡ field (bytes ∷ []) 0 i width

pub row_agrees : (pages : Pages) (page at : ℕ) (bytes : List ℕ) (k : Keyed) → Agree pages page at 40 bytes → IsRowAt (bytes ∷ []) 0 0 k → IsRowAt pages page at k
row_agrees pages page at bytes k agree is = record {
  present = is.present;
  state = agree 0 1 at (lit≤ tt) (omega arith) ∙ is.state;
  doc = agree 1 4 (at + 1) (lit≤ tt) refl ∙ is.doc;
  trx = agree 5 6 (at + 5) (lit≤ tt) refl ∙ is.trx;
  roll = agree 11 7 (at + 11) (lit≤ tt) refl ∙ is.roll;
  space = agree 18 4 (at + 18) (lit≤ tt) refl ∙ is.space;
  first = agree 22 4 (at + 22) (lit≤ tt) refl ∙ is.first;
  version = agree 26 4 (at + 26) (lit≤ tt) refl ∙ is.version;
  length = agree 34 4 (at + 34) (lit≤ tt) refl ∙ is.length;
}

slot_agrees : (pages : Pages) (page at : ℕ) (bytes : List ℕ) (s : Option Keyed) → Agree pages page at 40 bytes → IsSlot (bytes ∷ []) 0 0 s → IsSlot pages page at s
slot_agrees pages page at bytes None agree is = agree 0 1 at (lit≤ tt) (omega arith) ∙ is
slot_agrees pages page at bytes (Some k) agree is = row_agrees pages page at bytes k agree is

-- what stands in 40 bytes that were read at a slot is what stands in the slot
pub slot_read : (told : Option Pages) (a : Address) (bytes : List ℕ) (s : Option Keyed) → IsSlot (bytes ∷ []) 0 0 s
    → IfSome told (λ pages. bytes ≡ bytes_at pages a.page a.at 40) → IfSome told (λ pages. IsSlot pages a.page a.at s)
slot_read told a bytes s is = if_told told _ _ (λ pages same. slot_agrees pages a.page a.at bytes s (in_read pages a.page a.at 40 bytes same) is)

-- the state that was read is that of the slot
pub state_read : (told : Option Pages) (a : Address) (bytes : List ℕ) (v : ℕ) → field (bytes ∷ []) 0 0 1 ≡ v
    → IfSome told (λ pages. bytes ≡ bytes_at pages a.page a.at 40) → IfSome told (λ pages. v ≡ field pages a.page a.at 1)
state_read told a bytes v is = if_told told _ _ (λ pages same. sym (in_read pages a.page a.at 40 bytes same 0 1 a.at (lit≤ tt) (omega arith) ∙ is))

code_small : (s : RowState) → state_code s ≤ 2
code_small absent = lit≤ tt
code_small live = lit≤ tt
code_small deleted = lit≤ tt

-- the state of a slot is at most 2
pub slot_state : (pages : Pages) (page at : ℕ) (s : Option Keyed) → IsSlot pages page at s → field pages page at 1 ≤ 2
slot_state pages page at None is = omega (arith, is)
slot_state pages page at (Some k) is = let c = code_small k.row.state in let e = is.state in omega (arith, c, e)

-- so where a state above is read, no slot stands
pub no_slot : (told : Option Pages) (pages : Pages) (a : Address) (bytes : List ℕ) (s : Option Keyed) → told ≡ Some pages → IsSlot pages a.page a.at s → 2 < field (bytes ∷ []) 0 0 1
    → IfSome told (λ pages. bytes ≡ bytes_at pages a.page a.at 40) → ⊥
no_slot None pages a bytes s is slot above read = cc
no_slot (Some ps) pages a bytes s is slot above read =
    let P : Option Pages → Type 0 = λ o. IfSome o (λ ps. bytes ≡ bytes_at ps a.page a.at 40) in
    let same : bytes ≡ bytes_at pages a.page a.at 40 = subst P is read in
    let e = in_read pages a.page a.at 40 bytes same 0 1 a.at (lit≤ tt) (omega arith) in
    let s = slot_state pages a.page a.at s slot in
    absurd (omega (arith, e, s, above))

-- the 40 bytes of a row, written at a slot, set it
pub slot_written : (old new : Option Pages) (count : ℕ) (a : Address) (bytes : List ℕ) (k : Keyed) → ((pages : Pages) → old ≡ Some pages → AreWhole pages count) → FitsSlot count a
    → length bytes ≡ 40 → IsRowAt (bytes ∷ []) 0 0 k → new ≡ option_map (λ pages. written pages a.page a.at bytes) old → Told (SetsSlot a k) old new
slot_written old new count a bytes k whole fit size is now =
    told_written old new count a.page a.at bytes (SetsSlot a k) whole fit.page (let w = fit.within in omega (arith, size, w)) now (λ pages fits.
    let agree = in_written pages a.page a.at bytes fits in
    let S : ℕ → Type 0 = λ n. SameOutside (span a.page a.at n ∷ []) pages (written pages a.page a.at bytes) in record {
      stands = row_agrees (written pages a.page a.at bytes) a.page a.at bytes k (λ i width at' inside same. agree i width at' (omega (arith, size, inside)) same) is;
      outside = subst S size (written_outside pages a.page a.at bytes fits);
    })

-- the fields of a row, put into bytes one after another, all stand there
pub row_put : (p0 p1 p2 p3 p4 p5 p6 p7 p8 p9 : List ℕ) (k : Keyed) → IsPresent k.row.state
    → SetsField 0 0 1 (state_code k.row.state) (p0 ∷ []) (p1 ∷ []) → SetsField 0 1 4 k.doc (p1 ∷ []) (p2 ∷ []) → SetsField 0 5 6 k.row.trx (p2 ∷ []) (p3 ∷ [])
    → SetsField 0 11 7 k.row.roll (p3 ∷ []) (p4 ∷ []) → SetsField 0 18 4 k.row.lob.space (p4 ∷ []) (p5 ∷ []) → SetsField 0 22 4 k.row.lob.page (p5 ∷ []) (p6 ∷ [])
    → SetsField 0 26 4 k.row.lob.version (p6 ∷ []) (p7 ∷ []) → SetsField 0 30 4 0 (p7 ∷ []) (p8 ∷ []) → SetsField 0 34 4 k.row.lob.length (p8 ∷ []) (p9 ∷ []) → IsRowAt (p9 ∷ []) 0 0 k
row_put p0 p1 p2 p3 p4 p5 p6 p7 p8 p9 k present s1 s2 s3 s4 s5 s6 s7 s8 s9 =
    let r9 = then_number 34 4 k.row.lob.length (p8 ∷ []) (p9 ∷ []) (p9 ∷ []) s9 (same_still 38 (p9 ∷ [])) in
    let r8 = then_number 30 4 0 (p7 ∷ []) (p8 ∷ []) (p9 ∷ []) s8 r9.1 in
    let r7 = then_number 26 4 k.row.lob.version (p6 ∷ []) (p7 ∷ []) (p9 ∷ []) s7 r8.1 in
    let r6 = then_number 22 4 k.row.lob.page (p5 ∷ []) (p6 ∷ []) (p9 ∷ []) s6 r7.1 in
    let r5 = then_number 18 4 k.row.lob.space (p4 ∷ []) (p5 ∷ []) (p9 ∷ []) s5 r6.1 in
    let r4 = then_number 11 7 k.row.roll (p3 ∷ []) (p4 ∷ []) (p9 ∷ []) s4 r5.1 in
    let r3 = then_number 5 6 k.row.trx (p2 ∷ []) (p3 ∷ []) (p9 ∷ []) s3 r4.1 in
    let r2 = then_number 1 4 k.doc (p1 ∷ []) (p2 ∷ []) (p9 ∷ []) s2 r3.1 in
    let r1 = then_number 0 1 (state_code k.row.state) (p0 ∷ []) (p1 ∷ []) (p9 ∷ []) s1 r2.1 in
    record { present = present; state = r1.0; doc = r2.0; trx = r3.0; roll = r4.0; space = r5.0; first = r6.0; version = r7.0; length = r9.0 }

-- a fault that names what is odd is honest
pub told_odd : {T : Type 0} (r : Result T Fault) (page : PageNo) (at v : ℕ) (odd : Oddity) → r ≡ Err (Strange page at v) → odd page.0 at v → IfErr r (IsHonest odd)
told_odd {T} r page at v odd is here =
    let P : Result T Fault → Type 0 = λ x. IfErr x (IsHonest odd) in
    subst P (sym is) here
