-- The row pages with their free slots, as a list.
use Rattle.std.proofs.Common.{◌≡◌, ◌≢◌, ℕ, zero, suc, ◌<◌, ◌≤◌, if◌then◌else◌, List, [], ◌∷◌, ◌++◌, length, take, slice_index, slice_get, Option, Some, None, refl, sym, ap, ◌∙◌, subst, arith}
use Rattle.std.proofs.Common.{Result, Ok, Err, IsOk, OnOk, OnErr, is_ok, true≢false}
use Rattle.std.specs.Map.{keys_of, values_of}
use Rattle.row_dir.specs.Directory.{AreFull, IsFirstOpen}

-- behind full pages and others without a free slot the first pages are full
pub full_on : (rooms : List (ℕ × ℕ)) (from r : ℕ) → from ≤ r → ((i : ℕ) → from ≤ i → i < r → i < length (values_of rooms) → slice_index (values_of rooms) i ≡ 0) → AreFull (take from rooms) → AreFull (take r rooms)
full_on [] from zero low zeros full = tt
full_on [] from (suc r) low zeros full = tt
full_on (room ∷ more) from zero low zeros full = tt
full_on (room ∷ more) zero (suc r) low zeros full = (
  zeros 0 (omega arith) (omega arith) (omega arith),
  full_on more zero r (omega arith) (λ i above below within. zeros (suc i) (omega arith) (omega (arith, below)) (omega (arith, within))) tt,
)
full_on (room ∷ more) (suc from) (suc r) low zeros full = (
  full.0,
  full_on more from r (omega (arith, low)) (λ i above below within. zeros (suc i) (omega (arith, above)) (omega (arith, below)) (omega (arith, within))) full.1,
)

-- the page at a place, with those before and behind it
pub split_at : (rooms : List (ℕ × ℕ)) (r page free : ℕ) → Some (page, free) ≡ slice_get rooms r → (before : List (ℕ × ℕ)) × (behind : List (ℕ × ℕ)) × (rooms ≡ before ++ (page, free) ∷ behind) × (length before ≡ r) × (take r rooms ≡ before)
split_at [] r page free is = cc
split_at (room ∷ more) zero page free is =
    let P : Option (ℕ × ℕ) → Type 0 = λ o. o ≡ Some room in
    let same : (page, free) ≡ room = cc in
    ([], more, ap (λ (x : ℕ × ℕ). x ∷ more) (sym same), refl, refl)
split_at (room ∷ more) (suc r) page free is =
    let s = split_at more r page free is in
    (room ∷ s.0, s.1, ap (λ (xs : List (ℕ × ℕ)). room ∷ xs) s.2, omega (arith, s.3), ap (λ (xs : List (ℕ × ℕ)). room ∷ xs) s.4)

all_taken : (rooms : List (ℕ × ℕ)) (r : ℕ) → length rooms ≤ r → take r rooms ≡ rooms
all_taken [] zero past = refl
all_taken [] (suc r) past = refl
all_taken (room ∷ more) zero past = absurd (omega (arith, past))
all_taken (room ∷ more) (suc r) past = ap (λ (xs : List (ℕ × ℕ)). room ∷ xs) (all_taken more r (omega (arith, past)))

-- the page that a search ends at is the first with a free slot
pub first_found : (rooms : List (ℕ × ℕ)) (from r page free : ℕ) → from ≤ r → ((i : ℕ) → from ≤ i → i < r → i < length (values_of rooms) → slice_index (values_of rooms) i ≡ 0)
    → AreFull (take from rooms) → 1 ≤ free → Some (page, free) ≡ slice_get rooms r → IsFirstOpen rooms r page free
first_found rooms from r page free low zeros full some is =
    let s = split_at rooms r page free is in
    record { before = s.0; behind = s.1; split = s.2; many = s.3; full = subst AreFull s.4 (full_on rooms from r low zeros full); some = some }

-- where it ends behind the last, all are full
pub all_full : (rooms : List (ℕ × ℕ)) (from r : ℕ) → from ≤ r → ((i : ℕ) → from ≤ i → i < r → i < length (values_of rooms) → slice_index (values_of rooms) i ≡ 0)
    → AreFull (take from rooms) → length rooms ≤ r → AreFull rooms
all_full rooms from r low zeros full past = subst AreFull (all_taken rooms r past) (full_on rooms from r low zeros full)

-- the number at a place is that of the page there
pub value_at : (rooms : List (ℕ × ℕ)) (r page free : ℕ) → Some (page, free) ≡ slice_get rooms r → (r < length (values_of rooms)) × (slice_index (values_of rooms) r ≡ free)
value_at [] r page free is = cc
value_at (room ∷ more) zero page free is =
    let same : (page, free) ≡ room = cc in
    (omega arith, ap (λ (x : ℕ × ℕ). x.1) (sym same))
value_at (room ∷ more) (suc r) page free is = let v = value_at more r page free is in (omega (arith, v.0), v.1)

pub not_zero : (rooms : List ℕ) (entries : List (ℕ × ℕ)) (r page free : ℕ) → rooms ≡ values_of entries → (r < length rooms → slice_index rooms r ≢ 0) → Some (page, free) ≡ slice_get entries r → 1 ≤ free
not_zero rooms entries r page free same found is =
    let v = value_at entries r page free is in
    let P : List ℕ → Type 0 = λ xs. r < length xs → slice_index xs r ≢ 0 in
    let other = subst P same found v.0 in
    some free (λ e. other (v.1 ∙ e))
  where
    some : (n : ℕ) → n ≢ 0 → 1 ≤ n
    some zero other = absurd (other refl)
    some (suc n) other = omega arith

-- ---- a document noted

pub ok_then : {A B P : Type 0} (r : Result A B) → IsOk r → OnOk r P → P
ok_then (Ok x) is on = on
ok_then (Err e) is on = absurd (true≢false (sym is))

pub pushed : {A B T : Type 0} (r : Result A B) (full : Type 0) (items old : List T) (x : T) → (full → ⊥) → OnErr r full → items ≡ (if is_ok r then old ++ x ∷ [] else old) → items ≡ old ++ x ∷ []
pushed (Ok y) full items old x room err is = is
pushed (Err e) full items old x room err is = absurd (room err)

pub keys_pushed : {A : Type 0} (es : List (ℕ × A)) (n : ℕ) (x : A) → keys_of (es ++ (n, x) ∷ []) ≡ keys_of es ++ n ∷ []
keys_pushed [] n x = refl
keys_pushed (e ∷ es) n x = ap (λ (ns : List ℕ). e.0 ∷ ns) (keys_pushed es n x)

pub none_past : (rooms : List (ℕ × ℕ)) (r : ℕ) → None ≡ slice_get rooms r → length rooms ≤ r
none_past [] r is = omega arith
none_past (room ∷ more) zero is = cc
none_past (room ∷ more) (suc r) is = let n = none_past more r is in omega (arith, n)
