-- How a scan of a path's text goes on, byte by byte.
use Rattle.std.proofs.Common.{◌≡◌, ℕ, zero, suc, ◌+◌, ◌-◌, ◌*◌, ◌^◌, ◌<◌, ◌≤◌, ◌||◌, Bool, true, false, List, [], ◌∷◌, ◌++◌, length, get_or, take, drop, refl, sym, ap, ◌∙◌, subst, arith, add-one, drop-cons, Result, Ok, Err, slice_range, lt-ltb, nat_lt, ne_eqb, true≢false, IsErrAnd, Some, ◌⊎◌, inl, inr}
use Rattle.std.proofs.lemmas.Bool.{cases_lt}
use Rattle.std.specs.Str.{IsUtf8, IsCharBoundary}
use Rattle.std.proofs.lemmas.Str.{IsCharBoundary-after_ascii}
use Rattle.std.proofs.lemmas.List.{take_more, length-drop}
use Rattle.std.proofs.lemmas.Bool.Decides.{nat_tests}
use Rattle.std.specs.List.{AllByRecursion, list_any}
use Rattle.std.specs.Char.{is_ascii_digit}
use Rattle.json.specs.Text.{content, plain}
use Rattle.tree_model.specs.Tree.{max_key_bytes}
use Rattle.tree_model.specs.Path as model
use Rattle.tree_model.specs.Path.{Path, key, cell, last}
use Rattle.path_model.specs.PathText.{PathFault, PathState, dot, bare, inside, minus, bracket, letters, digits, scan, begins_key, goes_in_key, is_long, checked}
use Rattle.json_path.specs.Parsing.{IsFault, Reads, closing, Closes}
use Rattle.json_path.specs.declared.parse.Parsed.{Parsed}
use Rattle.json_path.specs.View.{IsLeg, IsNumbered}
use Rattle.json_path.specs.declared.error.PathError.{PathError}
use Rattle.json_path.specs.declared.error.PathError.TheVariants.{Wildcard, Range, Syntax, LongKey, Memory}

pub at_byte : (bs : List ℕ) (at : ℕ) → at < length bs → drop at bs ≡ get_or bs at 0 ∷ drop (at + 1) bs
at_byte bs at lt = rw add-one (drop-cons bs at 0 lt)

pub at_end : (bs : List ℕ) (at : ℕ) → length bs ≤ at → drop at bs ≡ []
at_end [] zero le = refl
at_end [] (suc at) le = refl
at_end (b ∷ bs) zero le = absurd (omega (arith, le))
at_end (b ∷ bs) (suc at) le = at_end bs at (omega (arith, le))

-- ---- what a part answers, from where the scan came

-- what is read behind a part that goes on is read before it
pub reads_on : (m n : PathState) (bs : List ℕ) (at end : ℕ) (r : Result Parsed PathError) → at ≤ end
    → ((ls : Path) → scan m ls at (drop at bs) ≡ scan n ls end (drop end bs)) → Reads n bs end r → Reads m bs at r
reads_on m n bs at end (Ok p) le same h = (omega (arith, le, h.0), h.1, h.2, λ ls. same ls ∙ h.3 ls)
reads_on m n bs at end (Err e) le same h = λ ls. subst (λ x. IsFault x e) (sym (same ls)) (h ls)

-- and so where a bracket may close behind it
pub reads_closed : (m : PathState) (l : model.Leg) (bs : List ℕ) (at end : ℕ) (r : Result Parsed PathError) → at ≤ end
    → ((ls : Path) → scan m ls at (drop at bs) ≡ closing l ls end (drop end bs)) → Closes l bs end r → Reads m bs at r
reads_closed m l bs at end (Ok p) le same h = (omega (arith, le, h.0), h.1, h.2, λ ls. same ls ∙ h.3 ls)
reads_closed m l bs at end (Err e) le same h = λ ls. subst (λ x. IsFault x e) (sym (same ls)) (h ls)

-- ---- a digit

-- a digit of a number goes on
pub digit_on : (bs : List ℕ) (at end value : ℕ) (from_end : Bool) (ls : Path) → at ≤ end → end < length bs → is_ascii_digit (get_or bs end 0) ≡ true
    → end - at < 10 → value * 10 + (get_or bs end 0 - 48) < 2 ^ 32
    → scan (digits from_end at (end - at) value) ls end (drop end bs) ≡ scan (digits from_end at (end + 1 - at) (value * 10 + (get_or bs end 0 - 48))) ls (end + 1) (drop (end + 1) bs)
digit_on bs at end value from_end ls le lt digit few fits =
    rw (at_byte bs end lt, digit, lt-ltb (end - at) 10 few, lt-ltb (value * 10 + (get_or bs end 0 - 48)) (2 ^ 32) fits)
    (ap (λ n. scan (digits from_end at n (value * 10 + (get_or bs end 0 - 48))) ls (end + 1) (drop (end + 1) bs)) (omega (arith, le)))

-- behind `last-` and behind a bracket a digit begins a number
pub minus_on : (bs : List ℕ) (at : ℕ) (ls : Path) → at < length bs → is_ascii_digit (get_or bs at 0) ≡ true → scan minus ls at (drop at bs) ≡ scan (digits true at 0 0) ls at (drop at bs)
minus_on bs at ls lt digit = rw (at_byte bs at lt, digit) refl

-- behind a bracket one begins a number
pub bracket_on : (bs : List ℕ) (at : ℕ) (ls : Path) → at < length bs → is_ascii_digit (get_or bs at 0) ≡ true → scan bracket ls at (drop at bs) ≡ scan (digits false at 0 0) ls at (drop at bs)
bracket_on bs at ls lt digit = rw (at_byte bs at lt, digit, ne_eqb (get_or bs at 0) 42 (λ e. absurd (true≢false (sym digit ∙ ap is_ascii_digit e))), ne_eqb (get_or bs at 0) 108 (λ e. absurd (true≢false (sym digit ∙ ap is_ascii_digit e)))) refl

-- an error that is handed on
pub reads_failed : (m n : PathState) (bs : List ℕ) (at end : ℕ) (r : Result Parsed PathError) (e : PathError) → IsErrAnd r (λ y. y ≡ e)
    → ((ls : Path) → scan m ls at (drop at bs) ≡ scan n ls end (drop end bs)) → ((ls : Path) → IsFault (scan n ls end (drop end bs)) e) → Reads m bs at r
reads_failed m n bs at end (Ok p) e h same faults = absurd h
reads_failed m n bs at end (Err y) e h same faults = λ ls. subst (IsFault (scan m ls at (drop at bs))) (sym h) (subst (λ x. IsFault x e) (sym (same ls)) (faults ls))

-- behind `last`
pub behind_letters : (bs : List ℕ) (at count : ℕ) → 3 ≤ count → count ≤ 3
    → ((ls : Path) → scan (letters (97 ∷ 115 ∷ 116 ∷ [])) ls at (drop at bs) ≡ scan (letters (drop count (97 ∷ 115 ∷ 116 ∷ []))) ls (at + count) (drop (at + count) bs))
    → (ls : Path) → scan (letters (97 ∷ 115 ∷ 116 ∷ [])) ls at (drop at bs) ≡ scan (letters []) ls (at + 3) (drop (at + 3) bs)
behind_letters bs at count ge le so_far ls =
    let all : count ≡ 3 = omega (arith, ge, le) in
    so_far ls ∙ ap (λ n. scan (letters (drop n (97 ∷ 115 ∷ 116 ∷ []))) ls (at + n) (drop (at + n) bs)) all

-- a dash goes on behind `last`
pub dash_on : (bs : List ℕ) (at : ℕ) (ls : Path) → at < length bs → get_or bs at 0 ≡ 45 → scan (letters []) ls at (drop at bs) ≡ scan minus ls (at + 1) (drop (at + 1) bs)
dash_on bs at ls lt dash = rw (at_byte bs at lt, dash) refl

-- without one the bracket may close
pub no_dash : (bs : List ℕ) (at : ℕ) (ls : Path) → (at < length bs → get_or bs at 0 ≡ 45 → ⊥) → scan (letters []) ls at (drop at bs) ≡ closing (last 0) ls at (drop at bs)
no_dash bs at ls other = go (cases_lt at (length bs))
  where
    go : (at < length bs) ⊎ (length bs ≤ at) → scan (letters []) ls at (drop at bs) ≡ closing (last 0) ls at (drop at bs)
    go (inl lt) = rw (at_byte bs at lt, ne_eqb (get_or bs at 0) 45 (other lt)) refl
    go (inr le) = rw (at_end bs at le) refl

-- ---- a byte of a key

drop_one : (bs : List ℕ) (at : ℕ) → drop 1 (drop at bs) ≡ drop (at + 1) bs
drop_one bs at = rw add-one (go bs at)
  where
    go : (bs : List ℕ) (at : ℕ) → drop 1 (drop at bs) ≡ drop (suc at) bs
    go bs zero = refl
    go [] (suc at) = refl
    go (b ∷ bs) (suc at) = go bs at

-- a quote behind a dot begins a key in quotes
pub quote_on : (bs k : List ℕ) (at : ℕ) (ls : Path) → at < length bs → get_or bs at 0 ≡ 34 → content plain (drop 1 (drop at bs)) ≡ Some k
    → scan dot ls at (drop at bs) ≡ scan (inside k) ls (at + 1) (drop (at + 1) bs)
quote_on bs k at ls lt quote reads = rw (at_byte bs at lt, quote, ap (content plain) (sym (drop_one bs at)) ∙ reads) refl

get_or-drop : (bs : List ℕ) (at end : ℕ) → at ≤ end → get_or (drop at bs) (end - at) 0 ≡ get_or bs end 0
get_or-drop bs zero end le = ap (λ n. get_or bs n 0) (omega arith)
get_or-drop [] (suc at) end le = refl
get_or-drop (b ∷ bs) (suc at) zero le = absurd (omega (arith, le))
get_or-drop (b ∷ bs) (suc at) (suc end) le = ap (λ n. get_or (drop at bs) n 0) (omega (arith, le)) ∙ get_or-drop bs at end (omega (arith, le))

pub range_more : (bs : List ℕ) (at end : ℕ) → at ≤ end → end < length bs → slice_range bs at (end + 1) ≡ slice_range bs at end ++ get_or bs end 0 ∷ []
range_more bs at end le lt = ap (λ n. take n (drop at bs)) (omega (arith, le)) ∙ take_more (drop at bs) (end - at) 0 (omega (arith, lt, length-drop at bs)) ∙ ap (λ b. slice_range bs at end ++ b ∷ []) (get_or-drop bs at end le)

-- a byte of a bare key goes on
pub key_on : (bs : List ℕ) (at end : ℕ) (ls : Path) → at ≤ end → end < length bs → goes_in_key (get_or bs end 0) ≡ true
    → scan (bare (slice_range bs at end)) ls end (drop end bs) ≡ scan (bare (slice_range bs at (end + 1))) ls (end + 1) (drop (end + 1) bs)
key_on bs at end ls le lt goes = rw (at_byte bs end lt, goes, range_more bs at end le lt) refl

-- such bytes are ASCII
pub key_ascii : (c : ℕ) → goes_in_key c ≡ true → c < 128
key_ascii c h = grind (arith, nat_tests, h)

-- a text may be cut behind such a byte
pub cut_behind : (bs : List ℕ) (end : ℕ) → IsUtf8 bs → 0 < end → end ≤ length bs → get_or bs (end - 1) 0 < 128 → IsCharBoundary bs end
cut_behind bs end utf8 some le ascii = subst (IsCharBoundary bs) (omega (arith, some)) (IsCharBoundary-after_ascii bs (end - 1) utf8 (omega (arith, some, le)) ascii)

pub begins_goes : (c : ℕ) → begins_key c ≡ true → goes_in_key c ≡ true
begins_goes c h = rw h refl

-- ---- the legs of a path

pub all_more : (P : model.Leg → Type 0) (ls : Path) (l : model.Leg) → AllByRecursion P ls → P l → AllByRecursion P (ls ++ l ∷ [])
all_more P [] l all h = (h, tt)
all_more P (m ∷ ls) l all h = (all.0, all_more P ls l all.1 h)

-- numbered legs, none of them with a long key, are legs
pub all_legs : (ls : Path) → AllByRecursion IsNumbered ls → list_any is_long ls ≡ false → AllByRecursion IsLeg ls
all_legs [] numbered short = tt
all_legs (key k ∷ ls) numbered short = go (nat_lt max_key_bytes (length k)) refl (all_legs ls numbered.1) short
  where
    go : (b : Bool) → nat_lt max_key_bytes (length k) ≡ b → (list_any is_long ls ≡ false → AllByRecursion IsLeg ls) → b || list_any is_long ls ≡ false
        → (length k ≤ max_key_bytes) × AllByRecursion IsLeg ls
    go true e rest h = absurd (true≢false h)
    go false e rest h = (grind (arith, nat_tests, e), rest h)
all_legs (cell n ∷ ls) numbered short = (numbered.0, all_legs ls numbered.1 short)
all_legs (last n ∷ ls) numbered short = (numbered.0, all_legs ls numbered.1 short)

pub checked_fault : (r : Result Path PathFault) (e : PathError) → IsFault r e → IsFault (checked r) e
checked_fault r (Wildcard n) h = ap checked h
checked_fault r (Range n) h = ap checked h
checked_fault r (Syntax n) h = ap checked h
checked_fault r LongKey h = ap checked h
checked_fault r Memory h = tt
