-- One slot of a row page changed: what stands, and what stays.
use Rattle.std.proofs.Common.{◌≡◌, inr, ℕ, ◌+◌, ◌*◌, ◌<◌, ◌≤◌, List, [], ◌∷◌, ◌++◌, length, Option, Some, None, refl, sym, ap, ◌∙◌, arith}
use Rattle.page_model.specs.Pages.{Pages, Address, field}
use Rattle.page_model.specs.Spans.{Span, span, SameOutside, SetsField, IsApartFromAll}
use Rattle.page_model.specs.Steps.{Told}
use Rattle.page_model.proofs.FrameLemmas.{field_kept, apart_part, outside_then, outside_wider, off_part}
use Rattle.std.proofs.lemmas.List.{length-append, append_assoc}
use Rattle.store_data.specs.Store.{RowState, absent, live, deleted}
use Rattle.undo_model.specs.Bytes.{state_code}
use Rattle.undo_model.specs.Rows.{Keyed, IsPresent, IsRowAt, IsSlot, AreSlots}
use Rattle.row_dir.specs.Slots.{slot_span, SetsSlot}
use Rattle.row_dir.specs.Directory.{free_in}
use Rattle.row_dir.specs.RowPages.{SetsSlotTo, IsFirstFree}

-- a step behind another, over told pages
pub told_then : (P Q R : Pages → Pages → Type 0) (a b c : Option Pages) → ((x y z : Pages) → P x y → Q y z → R x z) → Told P a b → Told Q b c → Told R a c
told_then P Q R None None None both first second = refl
told_then P Q R None None (Some z) both first second = second
told_then P Q R None (Some y) c both first second = absurd (none_some y (sym first))
  where
    none_some : (y : Pages) → None ≡ Some y → ⊥
    none_some y e = cc
told_then P Q R (Some x) None c both first second = absurd first
told_then P Q R (Some x) (Some y) None both first second = absurd second
told_then P Q R (Some x) (Some y) (Some z) both first second = both x y z first second

-- a row stays where nothing changes in its slot
pub row_kept : (xs : List Span) (old new : Pages) (page at : ℕ) (k : Keyed) → SameOutside xs old new → IsApartFromAll xs (span page at 40) → IsRowAt old page at k → IsRowAt new page at k
row_kept xs old new page at k same apart is =
    let part = λ (a n : ℕ) (low : at ≤ a) (high : a + n ≤ at + 40). apart_part xs page at 40 a n low high apart in
    record {
      present = is.present;
      state = field_kept xs old new page at 1 same (part at 1 (omega arith) (omega arith)) ∙ is.state;
      doc = field_kept xs old new page (at + 1) 4 same (part (at + 1) 4 (omega arith) (omega arith)) ∙ is.doc;
      trx = field_kept xs old new page (at + 5) 6 same (part (at + 5) 6 (omega arith) (omega arith)) ∙ is.trx;
      roll = field_kept xs old new page (at + 11) 7 same (part (at + 11) 7 (omega arith) (omega arith)) ∙ is.roll;
      space = field_kept xs old new page (at + 18) 4 same (part (at + 18) 4 (omega arith) (omega arith)) ∙ is.space;
      first = field_kept xs old new page (at + 22) 4 same (part (at + 22) 4 (omega arith) (omega arith)) ∙ is.first;
      version = field_kept xs old new page (at + 26) 4 same (part (at + 26) 4 (omega arith) (omega arith)) ∙ is.version;
      length = field_kept xs old new page (at + 34) 4 same (part (at + 34) 4 (omega arith) (omega arith)) ∙ is.length;
    }

pub slot_kept : (xs : List Span) (old new : Pages) (page at : ℕ) (s : Option Keyed) → SameOutside xs old new → IsApartFromAll xs (span page at 40) → IsSlot old page at s → IsSlot new page at s
slot_kept xs old new page at None same apart is = field_kept xs old new page at 1 same (apart_part xs page at 40 at 1 (omega arith) (omega arith) apart) ∙ is
slot_kept xs old new page at (Some k) same apart is = row_kept xs old new page at k same apart is

-- so do slots one behind another
pub slots_kept : (xs : List Span) (old new : Pages) (page at : ℕ) (slots : List (Option Keyed)) → SameOutside xs old new → IsApartFromAll xs (span page at (40 * length slots)) → AreSlots old page at slots → AreSlots new page at slots
slots_kept xs old new page at [] same apart are = tt
slots_kept xs old new page at (s ∷ more) same apart are = (
  slot_kept xs old new page at s same (apart_part xs page at (40 * length (s ∷ more)) at 40 (omega arith) (omega arith) apart) are.0,
  slots_kept xs old new page (at + 40) more same (apart_part xs page at (40 * length (s ∷ more)) (at + 40) (40 * length more) (omega arith) (omega arith) apart) are.1,
)

-- a slot written and its page's rows counted, over told pages
pub filled : (a : Address) (k : Keyed) (n v : ℕ) (t0 t1 t2 : Option Pages) → v ≡ n → Told (SetsSlot a k) t0 t1 → Told (SetsField a.page 50 2 v) t1 t2 → Told (SetsSlotTo a (Some k) n) t0 t2
filled a k n v t0 t1 t2 is one two = told_then (SetsSlot a k) (SetsField a.page 50 2 v) (SetsSlotTo a (Some k) n) t0 t1 t2 (λ x y z s c. record {
  stands = λ low high. row_kept (span a.page 50 2 ∷ []) y z a.page a.at k c.outside (inr (inr (omega (arith, low))), tt) s.stands;
  count = c.here ∙ is;
  outside = outside_then (slot_span a ∷ []) (span a.page 50 2 ∷ []) x y z s.outside c.outside;
}) one two

pub cleared : (a : Address) (n v : ℕ) (t0 t1 t2 : Option Pages) → v ≡ n → Told (SetsField a.page a.at 1 0) t0 t1 → Told (SetsField a.page 50 2 v) t1 t2 → Told (SetsSlotTo a None n) t0 t2
cleared a n v t0 t1 t2 is one two = told_then (SetsField a.page a.at 1 0) (SetsField a.page 50 2 v) (SetsSlotTo a None n) t0 t1 t2 (λ x y z s c. record {
  stands = λ low high. field_kept (span a.page 50 2 ∷ []) y z a.page a.at 1 c.outside (inr (inr (omega (arith, low))), tt) ∙ s.here;
  count = c.here ∙ is;
  outside = outside_wider (span a.page a.at 1 ∷ span a.page 50 2 ∷ []) (slot_span a ∷ span a.page 50 2 ∷ []) x z
      (λ q k off. (off_part a.page a.at 40 a.at 1 q k (omega arith) (omega arith) off.0, off.1))
      (outside_then (span a.page a.at 1 ∷ []) (span a.page 50 2 ∷ []) x y z s.outside c.outside);
}) one two

-- ---- the first free slot

module _ (pages : Pages) (page at v : ℕ) (slots before : List (Option Keyed)) where
  taken_state : (k : Keyed) → IsRowAt pages page at k → 1 ≤ field pages page at 1
  taken_state k is = by k.row.state is.present is.state
    where
      by : (s : RowState) → IsPresent s → field pages page at 1 ≡ state_code s → 1 ≤ field pages page at 1
      by absent present e = absurd present
      by live present e = omega (arith, e)
      by deleted present e = omega (arith, e)

  -- a state of zero is that of the first free slot
  pub free_here : (rest : List (Option Keyed)) → slots ≡ before ++ rest → length slots ≡ 408 → at ≡ 52 + 40 * length before → free_in before ≡ 0 → AreSlots pages page at rest
      → at < 16_372 → v ≡ field pages page at 1 → v ≡ 0 → IsFirstFree slots at
  free_here [] split many place taken are low reads zero =
      let e = ap length split in
      let j = length-append before (let xs : List (Option Keyed) = [] in xs) in
      absurd (omega (arith, e, j, many, place, low))
  free_here (None ∷ more) split many place taken are low reads zero = record { before = before; behind = more; split = split; place = place; taken = taken }
  free_here (Some k ∷ more) split many place taken are low reads zero = let s = taken_state k are.0 in absurd (omega (arith, s, reads, zero))

  -- another one has a row
  pub free_behind : (rest : List (Option Keyed)) → slots ≡ before ++ rest → length slots ≡ 408 → at ≡ 52 + 40 * length before → free_in before ≡ 0 → AreSlots pages page at rest
      → at < 16_372 → v ≡ field pages page at 1 → 1 ≤ v
      → (before' : List (Option Keyed)) × (rest' : List (Option Keyed)) × (slots ≡ before' ++ rest') × (at + 40 ≡ 52 + 40 * length before') × (free_in before' ≡ 0) × AreSlots pages page (at + 40) rest'
  free_behind [] split many place taken are low reads some =
      let e = ap length split in
      let j = length-append before (let xs : List (Option Keyed) = [] in xs) in
      absurd (omega (arith, e, j, many, place, low))
  free_behind (None ∷ more) split many place taken are low reads some = let e = are.0 in absurd (omega (arith, e, reads, some))
  free_behind (Some k ∷ more) split many place taken are low reads some = (
    before ++ Some k ∷ [],
    more,
    split ∙ sym (append_assoc before (Some k ∷ []) more),
    (let j = length-append before (Some k ∷ []) in omega (arith, j, place)),
    none_more before k taken,
    are.1,
  )
    where
      none_more : (xs : List (Option Keyed)) (k : Keyed) → free_in xs ≡ 0 → free_in (xs ++ Some k ∷ []) ≡ 0
      none_more [] k none = refl
      none_more (None ∷ xs) k none = absurd (omega (arith, none))
      none_more (Some j ∷ xs) k none = none_more xs k none
