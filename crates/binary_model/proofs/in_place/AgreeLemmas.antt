-- What is read of bytes depends on the bytes that are read alone: numbers, ranges and texts of two documents that agree there.
use Rattle.std.proofs.Common.{◌≡◌, ℕ, zero, suc, ◌+◌, ◌-◌, ◌*◌, ◌≤◌, ◌<◌, ◌^◌, Bool, true, false, ◌&&◌, List, [], ◌∷◌, length, take, drop, get_or, slice_index, slice_range, Option, Some, None, refl, sym, ap, ap₂, subst, ◌∙◌, arith, nat_lt, nat_le, cond}
use Rattle.std.specs.Option.{option_and_then, option_map}
use Rattle.std.proofs.lemmas.List.{length-take, length-drop, get_or-take, get_or-drop, ext_get_or}
use Rattle.std.proofs.lemmas.Bool.{leb-true}
use Rattle.std.specs.Cmp.{second_so}
use Rattle.byteorder.specs.Endian.{little_from}
use Rattle.binary_model.specs.Layout.{number_at, grouped, range_in, text_range}

-- n bytes from a place in one document are those from a place in the other
abbrev pub Agree : List ℕ → ℕ → List ℕ → ℕ → ℕ → Type 0
Agree xs a ys b n = (i : ℕ) → i < n → slice_index xs (a + i) ≡ slice_index ys (b + i)

-- the same bytes stand at the same places from low on, below high
abbrev pub Same : List ℕ → List ℕ → ℕ → ℕ → Type 0
Same xs ys low high = (i : ℕ) → low ≤ i → i < high → slice_index xs i ≡ slice_index ys i

-- bytes that are the same in a range are in a part of it
pub same_part : (xs ys : List ℕ) (low high a b : ℕ) → Same xs ys low high → low ≤ a → b ≤ high → Same xs ys a b
same_part xs ys low high a b h first last = λ i above below. h i (omega (arith, first, above)) (omega (arith, last, below))

-- and agree there, place by place
pub same_agree : (xs ys : List ℕ) (low high a n : ℕ) → Same xs ys low high → low ≤ a → a + n ≤ high → Agree xs a ys a n
same_agree xs ys low high a n h first last = λ i below. h (a + i) (omega (arith, first)) (omega (arith, last, below))

-- what agrees does so in a part
pub agree_part : (xs ys : List ℕ) (a b n j m : ℕ) → Agree xs a ys b n → j + m ≤ n → Agree xs (a + j) ys (b + j) m
agree_part xs ys a b n j m h low = λ i below.
    let left : a + j + i ≡ a + (j + i) = omega arith in
    let right : b + (j + i) ≡ b + j + i = omega arith in
    ap (slice_index xs) left ∙ h (j + i) (omega (arith, low, below)) ∙ ap (slice_index ys) right

-- and at its first place
pub agree_first : (xs ys : List ℕ) (a b n : ℕ) → Agree xs a ys b n → 0 < n → slice_index xs a ≡ slice_index ys b
agree_first xs ys a b n h low =
    let left : a ≡ a + 0 = omega arith in
    let right : b + 0 ≡ b = omega arith in
    ap (slice_index xs) left ∙ h 0 low ∙ ap (slice_index ys) right

agree_behind : (xs ys : List ℕ) (a b n : ℕ) → Agree xs a ys b (suc n) → Agree xs (suc a) ys (suc b) n
agree_behind xs ys a b n h = λ i below.
    let left : suc a + i ≡ a + suc i = omega arith in
    let right : b + suc i ≡ suc b + i = omega arith in
    ap (slice_index xs) left ∙ h (suc i) (omega (arith, below)) ∙ ap (slice_index ys) right

little_agrees : (xs ys : List ℕ) (a b w : ℕ) → Agree xs a ys b w → little_from a w xs ≡ little_from b w ys
little_agrees xs ys a b zero h = refl
little_agrees xs ys a b (suc w) h =
    ap₂ (λ m n. m + 256 * n) (agree_first xs ys a b (suc w) h (omega arith)) (little_agrees xs ys (suc a) (suc b) w (agree_behind xs ys a b w h))

-- numbers whose bytes agree are equal
pub number_agrees : (xs ys : List ℕ) (a b w : ℕ) → Agree xs a ys b w → number_at xs w a ≡ number_at ys w b
unfolding number_at
number_agrees xs ys a b w h = little_agrees xs ys a b w h

range_index : (xs : List ℕ) (a n i : ℕ) → i < n → get_or (take n (drop a xs)) i 0 ≡ slice_index xs (a + i)
range_index xs a n i low = get_or-take n (drop a xs) i 0 low ∙ get_or-drop a xs i 0

range_length : (xs : List ℕ) (a b : ℕ) → length (slice_range xs a b) ≤ b - a
range_length xs a b = let e = length-take (b - a) (drop a xs) in omega (arith, e)

-- and so are ranges
pub range_same : (xs ys : List ℕ) (a b : ℕ) → length xs ≡ length ys → Same xs ys a b → slice_range xs a b ≡ slice_range ys a b
range_same xs ys a b e h =
    let left = length-take (b - a) (drop a xs) in
    let right = length-take (b - a) (drop a ys) in
    let more_left = length-drop a xs in
    let more_right = length-drop a ys in
    ext_get_or 0 (slice_range xs a b) (slice_range ys a b) (omega (arith, left, right, more_left, more_right, e)) (λ i low.
    let inside : i < b - a = omega (arith, left, low) in
    range_index xs a (b - a) i inside ∙ h (a + i) (omega arith) (omega (arith, inside)) ∙ sym (range_index ys a (b - a) i inside))

-- ---- texts

-- what stands in two equal options is equal
pub some_is : {A : Type 0} {x y : A} → Some x ≡ Some y → x ≡ y
some_is {A} {x} {y} e = ap (λ o. elim o [ None ↦ x | Some z ↦ z ]) e

abbrev FirstSame : List ℕ → List ℕ → ℕ → Type 0
FirstSame bs cs m = (i : ℕ) → i < m → get_or bs i 0 ≡ get_or cs i 0

abbrev GroupsAgain : ℕ → List ℕ → List ℕ → Type 0
GroupsAgain f bs cs = (r : ℕ × ℕ) → grouped f bs ≡ Some r → length bs ≡ length cs → FirstSame bs cs r.1 → grouped f cs ≡ Some r

behind_group : (f b : ℕ) (bs cs : List ℕ) (r : ℕ × ℕ) (o : Option (ℕ × ℕ)) → grouped f bs ≡ o → option_map (λ q. (b - 128 + 128 * q.0, suc q.1)) o ≡ Some r
    → length bs ≡ length cs → FirstSame (b ∷ bs) (b ∷ cs) r.1 → GroupsAgain f bs cs → option_map (λ q. (b - 128 + 128 * q.0, suc q.1)) (grouped f cs) ≡ Some r
behind_group f b bs cs r None e h l s again = let no : ⊥ = cc in absurd no
behind_group f b bs cs r (Some q) e h l s again =
    let p : suc q.1 ≡ r.1 = ap (λ x. x.1) (some_is h) in
    ap (option_map (λ q. (b - 128 + 128 * q.0, suc q.1))) (again q e l (λ i low. s (suc i) (omega (arith, low, p)))) ∙ h

one_group : (f b : ℕ) (bs cs : List ℕ) (r : ℕ × ℕ) (t : Bool) → nat_lt b 128 ≡ t → cond t (Some (b, 1)) (option_map (λ q. (b - 128 + 128 * q.0, suc q.1)) (grouped f bs)) ≡ Some r
    → length bs ≡ length cs → FirstSame (b ∷ bs) (b ∷ cs) r.1 → GroupsAgain f bs cs → cond t (Some (b, 1)) (option_map (λ q. (b - 128 + 128 * q.0, suc q.1)) (grouped f cs)) ≡ Some r
one_group f b bs cs r true t e l s again = e
one_group f b bs cs r false t e l s again = behind_group f b bs cs r (grouped f bs) refl e l s again

-- a length has at least one group
group_some : (f b : ℕ) (bs : List ℕ) (r : ℕ × ℕ) (t : Bool) (o : Option (ℕ × ℕ)) → cond t (Some (b, 1)) (option_map (λ q. (b - 128 + 128 * q.0, suc q.1)) o) ≡ Some r → 0 < r.1
group_some f b bs r true o e = let p : 1 ≡ r.1 = ap (λ x. x.1) (some_is e) in omega (arith, p)
group_some f b bs r false None e = let no : ⊥ = cc in absurd no
group_some f b bs r false (Some q) e = let p : suc q.1 ≡ r.1 = ap (λ x. x.1) (some_is e) in omega (arith, p)

groups_again : (f : ℕ) (bs cs : List ℕ) → GroupsAgain f bs cs
groups_again zero bs cs r e l s = let no : ⊥ = cc in absurd no
groups_again (suc f) [] cs r e l s = let no : ⊥ = cc in absurd no
groups_again (suc f) (b ∷ bs) [] r e l s = let no : ⊥ = omega (arith, l) in absurd no
groups_again (suc f) (b ∷ bs) (c ∷ cs) r e l s =
    let same : b ≡ c = s 0 (group_some f b bs r (nat_lt b 128) (grouped f bs) e) in
    let shorter : length bs ≡ length cs = omega (arith, l) in
    subst (λ x. FirstSame (b ∷ bs) (x ∷ cs) r.1 → grouped (suc f) (x ∷ cs) ≡ Some r) same
    (λ s. one_group f b bs cs r (nat_lt b 128) refl e shorter s (groups_again f bs cs)) s

range_bounds : (at limit : ℕ) (q r : ℕ × ℕ) (b : Bool) → (nat_lt q.0 (2 ^ 32) && nat_le (at + q.1 + q.0) limit) ≡ b → cond b (Some (at + q.1, at + q.1 + q.0)) None ≡ Some r
    → (at + q.1 + q.0 ≤ limit) × (r.0 ≡ at + q.1) × (r.1 ≡ at + q.1 + q.0)
range_bounds at limit q r true e h =
    let first : at + q.1 ≡ r.0 = ap (λ x. x.0) (some_is h) in
    let last : at + q.1 + q.0 ≡ r.1 = ap (λ x. x.1) (some_is h) in
    (leb-true (at + q.1 + q.0) limit (second_so (nat_lt q.0 (2 ^ 32)) (nat_le (at + q.1 + q.0) limit) e), sym first, sym last)
range_bounds at limit q r false e h = let no : ⊥ = cc in absurd no

range_lengths : (xs ys : List ℕ) (a b : ℕ) → length xs ≡ length ys → length (slice_range xs a b) ≡ length (slice_range ys a b)
range_lengths xs ys a b e =
    let left = length-take (b - a) (drop a xs) in
    let right = length-take (b - a) (drop a ys) in
    let more_left = length-drop a xs in
    let more_right = length-drop a ys in
    omega (arith, left, right, more_left, more_right, e)

abbrev TextAgain : List ℕ → List ℕ → ℕ → ℕ → ℕ × ℕ → Type 0
TextAgain xs ys at limit r = (text_range ys at limit ≡ Some r) × (at ≤ r.1) × (r.1 ≤ limit) × (at ≤ r.0)

range_again : (xs ys : List ℕ) (at limit : ℕ) (r : ℕ × ℕ) (o : Option (ℕ × ℕ)) → grouped 5 (slice_range xs at limit) ≡ o → option_and_then (range_in at limit) o ≡ Some r
    → length xs ≡ length ys → Same xs ys at r.1 → TextAgain xs ys at limit r
unfolding text_range
range_again xs ys at limit r None e h l s = let no : ⊥ = cc in absurd no
range_again xs ys at limit r (Some q) e h l s =
    let b = range_bounds at limit q r (nat_lt q.0 (2 ^ 32) && nat_le (at + q.1 + q.0) limit) refl h in
    let inside = b.0 in
    let first = b.1 in
    let last = b.2 in
    let groups : grouped 5 (slice_range ys at limit) ≡ Some q = groups_again 5 (slice_range xs at limit) (slice_range ys at limit) q e (range_lengths xs ys at limit l) (λ i low.
    let within : i < limit - at = omega (arith, low, inside) in
    range_index xs at (limit - at) i within ∙ s (at + i) (omega arith) (omega (arith, low, last)) ∙ sym (range_index ys at (limit - at) i within)) in
    (ap (option_and_then (range_in at limit)) groups ∙ h, omega (arith, last), omega (arith, last, inside), omega (arith, first))

-- a text's letters stand at the same place in other bytes that agree up to their end
pub text_again : (xs ys : List ℕ) (at limit : ℕ) (r : ℕ × ℕ) → text_range xs at limit ≡ Some r → length xs ≡ length ys → Same xs ys at r.1 → TextAgain xs ys at limit r
unfolding text_range
text_again xs ys at limit r h l s = range_again xs ys at limit r (grouped 5 (slice_range xs at limit)) refl h l s
