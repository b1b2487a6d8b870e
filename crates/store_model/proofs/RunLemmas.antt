-- Bytes laid over a part, and the laws on changes in place.
use Rattle.std.proofs.Common.{◌≡◌, ◌⊎◌, inl, inr, ℕ, zero, suc, ◌+◌, ◌-◌, ◌<◌, ◌≤◌, ◌==◌, if◌then◌else◌, List, [], ◌∷◌, length, get_or, refl, sym, ap, ◌∙◌, arith}
use Rattle.std.proofs.lemmas.List.{ext_get_or, get_or_default}
use Rattle.std.proofs.Math.ListN.{get_or-eq_default}
use Rattle.std.proofs.lemmas.Bool.{le-leb, lt-leb}
use Rattle.std.proofs.lemmas.Bool.Decides.{eqb_tells, leb_tells}
use Rattle.store_data.specs.Pieces.{Part}
use Rattle.store_data.specs.Store.{Run, Record}
use Rattle.store_model.specs.Runs.{byte_laid, bytes_laid, all_laid, old_runs, put_back}
use Rattle.store_model.specs.Patches.{IsOld, AreOld, IsOff, IsOffAll, with_bytes, AreMade, IsOffRecords, IsMixed}

length-bytes_laid : (r : Run) (place : ℕ) (bs : List ℕ) → length (bytes_laid r place bs) ≡ length bs
length-bytes_laid r place [] = refl
length-bytes_laid r place (b ∷ bs) = ap suc (length-bytes_laid r (suc place) bs)

get_or-bytes_laid : (r : Run) (place : ℕ) (bs : List ℕ) (i : ℕ) → i < length bs → get_or (bytes_laid r place bs) i 0 ≡ byte_laid r (place + i) (get_or bs i 0)
get_or-bytes_laid r place [] i below = absurd (omega arith)
get_or-bytes_laid r place (b ∷ bs) zero below = ap (λ (p : ℕ). byte_laid r p b) (omega arith)
get_or-bytes_laid r place (b ∷ bs) (suc i) below = get_or-bytes_laid r (suc place) bs i (omega arith) ∙ ap (λ (p : ℕ). byte_laid r p (get_or bs i 0)) (omega arith)

byte_before : (r : Run) (place b : ℕ) → place < r.at → byte_laid r place b ≡ b
byte_before r place b before = rw (lt-leb r.at place before) refl

byte_behind : (r : Run) (place b : ℕ) → r.at + length r.bytes ≤ place → byte_laid r place b ≡ b
byte_behind r place b behind = rw (le-leb r.at place (omega arith)) (get_or-eq_default r.bytes b (omega arith))

byte_within : (r : Run) (place b : ℕ) → r.at ≤ place → place < r.at + length r.bytes → byte_laid r place b ≡ get_or r.bytes (place - r.at) 0
byte_within r place b low high = rw (le-leb r.at place low) (get_or_default r.bytes (place - r.at) b 0 (omega arith))

-- a part with runs laid over them
abbrev pub over : Run → ℕ → ℕ → List ℕ → List ℕ
over r page at bs = if page == r.page then bytes_laid r at bs else bs

-- bytes that begin at a place of a page, with all runs laid over them, the first one first
abbrev pub all_over : List Run → ℕ → ℕ → List ℕ → List ℕ
all_over [] page at bs = bs
all_over (r ∷ rs) page at bs = all_over rs page at (over r page at bs)

-- runs laid over a part change its bytes alone
pub all_laid-over : (rs : List Run) (v : Part) (bs : List ℕ) → all_laid rs (with_bytes bs v) ≡ with_bytes (all_over rs v.page v.at bs) v
all_laid-over [] v bs = refl
all_laid-over (r ∷ rs) v bs = all_laid-over rs v (over r v.page v.at bs)

length-over : (r : Run) (page at : ℕ) (bs : List ℕ) → length (over r page at bs) ≡ length bs
length-over r page at bs = elim (eqb_tells page r.page) [
  | inl same ↦ rw same.0 (length-bytes_laid r at bs)
  | inr other ↦ rw other.0 refl
]

-- runs laid over bytes leave as many
pub length-all_over : (rs : List Run) (page at : ℕ) (bs : List ℕ) → length (all_over rs page at bs) ≡ length bs
length-all_over [] page at bs = refl
length-all_over (r ∷ rs) page at bs = length-all_over rs page at (over r page at bs) ∙ length-over r page at bs

-- where a run has old data, each byte is as it was in them or untouched
over_at : (r : Run) (v : Part) (bs : List ℕ) (i : ℕ) → i < length bs → length bs ≡ length v.bytes → (v.page ≡ r.page → IsOld r v)
    → (IsOff r v.page (v.at + i) × (get_or (over r v.page v.at bs) i 0 ≡ get_or bs i 0)) ⊎ (get_or (over r v.page v.at bs) i 0 ≡ get_or v.bytes i 0)
over_at r v bs i below len old = elim (eqb_tells v.page r.page) [
  | inl same ↦ elim (leb_tells r.at (v.at + i)) [
    | inl low ↦ elim (leb_tells (r.at + length r.bytes) (v.at + i)) [
      | inl behind ↦ inl (inr (inr behind.1), rw same.0 (get_or-bytes_laid r v.at bs i below ∙ byte_behind r (v.at + i) (get_or bs i 0) behind.1))
      | inr within ↦ inr (rw same.0 (get_or-bytes_laid r v.at bs i below ∙ byte_within r (v.at + i) (get_or bs i 0) low.1 within.1
          ∙ (old same.1).same (v.at + i - r.at) (omega arith) ∙ ap (λ (n : ℕ). get_or v.bytes n 0) (omega arith)))
    ]
    | inr before ↦ inl (inr (inl before.1), rw same.0 (get_or-bytes_laid r v.at bs i below ∙ byte_before r (v.at + i) (get_or bs i 0) before.1))
  ]
  | inr other ↦ inl (inl other.1, rw other.0 refl)
]

pub all_over_at : (rs : List Run) (v : Part) (bs : List ℕ) (i : ℕ) → i < length bs → length bs ≡ length v.bytes → AreOld rs v
    → (IsOffAll rs v.page (v.at + i) × (get_or (all_over rs v.page v.at bs) i 0 ≡ get_or bs i 0)) ⊎ (get_or (all_over rs v.page v.at bs) i 0 ≡ get_or v.bytes i 0)
all_over_at [] v bs i below len old = inl (tt, refl)
all_over_at (r ∷ rs) v bs i below len old = elim (all_over_at rs v (over r v.page v.at bs) i (omega (arith, length-over r v.page v.at bs)) (length-over r v.page v.at bs ∙ len) old.1) [
  | inr done ↦ inr done
  | inl off ↦ elim (over_at r v bs i below len old.0) [
    | inl kept ↦ inl ((kept.0, off.0), off.1 ∙ kept.1)
    | inr done ↦ inr (off.1 ∙ done)
  ]
]

-- a byte that no run covers
over_off : (r : Run) (page at : ℕ) (bs : List ℕ) (i : ℕ) → i < length bs → IsOff r page (at + i) → get_or (over r page at bs) i 0 ≡ get_or bs i 0
over_off r page at bs i below off = elim (eqb_tells page r.page) [
  | inl same ↦ rw same.0 (get_or-bytes_laid r at bs i below ∙ by_side off same.1)
  | inr other ↦ rw other.0 refl
]
  where
    by_side : IsOff r page (at + i) → page ≡ r.page → byte_laid r (at + i) (get_or bs i 0) ≡ get_or bs i 0
    by_side (inl other) same = absurd (other same)
    by_side (inr (inl before)) same = byte_before r (at + i) (get_or bs i 0) before
    by_side (inr (inr behind)) same = byte_behind r (at + i) (get_or bs i 0) behind

-- a byte that none of the runs covers stays
pub all_over_off : (rs : List Run) (page at : ℕ) (bs : List ℕ) (i : ℕ) → i < length bs → IsOffAll rs page (at + i) → get_or (all_over rs page at bs) i 0 ≡ get_or bs i 0
all_over_off [] page at bs i below off = refl
all_over_off (r ∷ rs) page at bs i below off = all_over_off rs page at (over r page at bs) i (omega (arith, length-over r page at bs)) off.1 ∙ over_off r page at bs i below off.0

-- the old data, whatever stood where the runs are
pub restores : (rs : List Run) (v : Part) (bs : List ℕ) → length bs ≡ length v.bytes → AreOld rs v
    → ((i : ℕ) → i < length v.bytes → IsOffAll rs v.page (v.at + i) → get_or bs i 0 ≡ get_or v.bytes i 0)
    → all_laid rs (with_bytes bs v) ≡ v
restores rs v bs len old rest = all_laid-over rs v bs ∙ ap (λ b. with_bytes b v) (ext_get_or 0 _ _ (length-all_over rs v.page v.at bs ∙ len) each)
  where
    each : (i : ℕ) → i < length (all_over rs v.page v.at bs) → get_or (all_over rs v.page v.at bs) i 0 ≡ get_or v.bytes i 0
    each i below = elim (all_over_at rs v bs i (omega (arith, length-all_over rs v.page v.at bs)) len old) [
      | inl off ↦ off.1 ∙ rest i (omega (arith, length-all_over rs v.page v.at bs)) off.0
      | inr done ↦ done
    ]

-- ---- the laws on records

-- bytes that records made differ from the first ones only where they have runs
made_many : (us : List Record) (v : Part) (bs : List ℕ) → AreMade us v bs → length bs ≡ length v.bytes
made_many [] v bs made = ap length made
made_many (u ∷ us) v bs made = made.2.many ∙ made_many us v made.0 made.1

made_rest : (us : List Record) (v : Part) (bs : List ℕ) → AreMade us v bs → (i : ℕ) → i < length v.bytes → IsOffRecords us v.page (v.at + i) → get_or bs i 0 ≡ get_or v.bytes i 0
made_rest [] v bs made i below off = ap (λ b. get_or b i 0) made
made_rest (u ∷ us) v bs made i below off = made.2.rest i (omega (arith, made_many us v made.0 made.1)) off.0 ∙ made_rest us v made.0 made.1 i below off.1

pub made_mixed : (us : List Record) (v : Part) (bs : List ℕ) → AreMade us v bs → IsMixed us v bs
made_mixed us v bs made = record { many = made_many us v bs made; rest = made_rest us v bs made }

pub mixed_put_back : (us : List Record) (v : Part) (bs x : List ℕ) → AreMade us v bs → IsMixed us v x → put_back us (with_bytes x v) ≡ v
mixed_put_back [] v bs x made mixed = ap (λ b. with_bytes b v) (ext_get_or 0 x v.bytes mixed.many (λ i below. mixed.rest i (omega (arith, mixed.many)) tt))
mixed_put_back (u ∷ us) v bs x made mixed =
    ap (put_back us) (all_laid-over rs v x)
    ∙ mixed_put_back us v made.0 (all_over rs v.page v.at x) made.1 (record { many = length-all_over rs v.page v.at x ∙ mixed.many; rest = rest })
  where
    rs : List Run
    rs = old_runs u.body

    many : length made.0 ≡ length v.bytes
    many = made_many us v made.0 made.1

    rest : (i : ℕ) → i < length v.bytes → IsOffRecords us v.page (v.at + i) → get_or (all_over rs v.page v.at x) i 0 ≡ get_or v.bytes i 0
    rest i below off = elim (all_over_at rs (with_bytes made.0 v) x i (omega (arith, mixed.many)) (mixed.many ∙ sym many) made.2.old) [
      | inl free ↦ free.1 ∙ mixed.rest i below (free.0, off)
      | inr done ↦ done ∙ made_rest us v made.0 made.1 i below off
    ]

pub copy_put_back : (us : List Record) (v : Part) (bs : List ℕ) → AreMade us v bs → put_back us v ≡ v
copy_put_back us v bs made = mixed_put_back us v bs v.bytes made (record { many = refl; rest = λ i below off. refl })

pub page_put_back : (us : List Record) (v : Part) (bs : List ℕ) → AreMade us v bs → put_back us (with_bytes bs v) ≡ v
page_put_back us v bs made = mixed_put_back us v bs bs made (made_mixed us v bs made)
