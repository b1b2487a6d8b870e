-- A printed path reads back as itself.
use Rattle.std.proofs.Common.{◌≡◌, ℕ, zero, suc, ◌+◌, ◌-◌, ◌*◌, ◌/◌, ◌%◌, ◌^◌, ◌<◌, ◌≤◌, Bool, true, false, cond, List, [], ◌∷◌, ◌++◌, length, flat_map, decimal, refl, sym, ap, ◌∙◌, subst, arith, append-nil, append_assoc, lt-ltb, nat_lt, ne_eqb, true≢false, Ok, if◌then◌else◌}
use Rattle.std.proofs.lemmas.List.{length_push}
use Rattle.std.specs.Cmp.{first_so, second_so}
use Rattle.std.specs.Int.{IsInRange}
use Rattle.std.specs.List.{AllByRecursion, list_all, list_any}
use Rattle.std.specs.Char.{is_ascii_digit, digit_value, digit_char}
use Rattle.std.specs.Str.Parse.{AllDigits, digits_value, digits_value_after}
use Rattle.std.proofs.lemmas.Bool.Decides.{nat_tests}
use Rattle.std.proofs.lemmas.Str.{digit_value_digit}
use Rattle.std.proofs.lemmas.Str.Parse.{digit_from_value}
use Rattle.std.proofs.lemmas.Fmt.{decimal_is_IsNumeral, length-decimal-le}
use Rattle.json.specs.Print.{escape_letter, escape_byte, escape, quoted}
use Rattle.json.proofs.Printed.Strings.{content-escape}
use Rattle.tree_model.specs.Path.{Leg, Path, key, cell, last}
use Rattle.path_model.specs.PathText.{scan, between, dot, bare, inside, bracket, minus, digits, begins_key, goes_in_key, is_bare, leg_text, path_text, read_path, is_long, index_leg}
use Rattle.json_path.specs.View.{IsLeg, IsPath}

-- what may stand behind a bare key
abbrev IsNext : List ℕ → Type 0
IsNext [] = Unit {0}
IsNext (c ∷ cs) = goes_in_key c ≡ false

next_legs : (ls : Path) → IsNext (flat_map leg_text ls)
next_legs [] = tt
next_legs (key k ∷ ls) = refl
next_legs (cell n ∷ ls) = refl
next_legs (last zero ∷ ls) = refl
next_legs (last (suc n) ∷ ls) = refl

-- ---- a bare key

bare_step : (c : ℕ) (k xs : List ℕ) (ls : Path) (at : ℕ) → goes_in_key c ≡ true → scan (bare k) ls at (c ∷ xs) ≡ scan (bare (k ++ c ∷ [])) ls (at + 1) xs
bare_step c k xs ls at goes = rw goes refl

bare_on : (cs k : List ℕ) (ls : Path) (at : ℕ) (rest : List ℕ) → list_all goes_in_key cs ≡ true → IsNext rest → (n : ℕ) × (scan (bare k) ls at (cs ++ rest) ≡ scan between (ls ++ key (k ++ cs) ∷ []) n rest)
bare_on [] k ls at [] all next = (at, ap (λ j. Ok (ls ++ key j ∷ [])) (sym (append-nil k)))
bare_on [] k ls at (c ∷ rest) all next = (at, rw next (ap (λ j. scan between (ls ++ key j ∷ []) at (c ∷ rest)) (sym (append-nil k))))
bare_on (c ∷ cs) k ls at rest all next =
    let goes : goes_in_key c ≡ true = first_so (goes_in_key c) (list_all goes_in_key cs) all in
    let more = bare_on cs (k ++ c ∷ []) ls (at + 1) rest (second_so (goes_in_key c) (list_all goes_in_key cs) all) next in
    (more.0, bare_step c k (cs ++ rest) ls at goes ∙ more.1 ∙ ap (λ j. scan between (ls ++ key j ∷ []) more.0 rest) (append_assoc k (c ∷ []) cs))

-- ---- a key in quotes

digit_char_plain : (d : ℕ) → (digit_char d ≡ 34 → ⊥) × (digit_char d ≡ 92 → ⊥)
digit_char_plain d = go (nat_lt d 10) refl
  where
    go : (b : Bool) → nat_lt d 10 ≡ b → (cond b (48 + d) (87 + d) ≡ 34 → ⊥) × (cond b (48 + d) (87 + d) ≡ 92 → ⊥)
    go true e = let lt : d < 10 = grind (arith, nat_tests, e) in ((λ h. omega (arith, lt, h)), (λ h. omega (arith, lt, h)))
    go false e = let ge : 10 ≤ d = grind (arith, nat_tests, e) in ((λ h. omega (arith, ge, h)), (λ h. omega (arith, ge, h)))

plain_on : (x : ℕ) (k : List ℕ) (ls : Path) (at : ℕ) (r : List ℕ) → (x ≡ 34 → ⊥) → (x ≡ 92 → ⊥) → scan (inside k) ls at (x ∷ r) ≡ scan (inside k) ls (at + 1) r
plain_on x k ls at r q b = rw (ne_eqb x 34 q, ne_eqb x 92 b) refl

quotes_byte : (x : ℕ) (k : List ℕ) (ls : Path) (at : ℕ) (r : List ℕ) → (n : ℕ) × (scan (inside k) ls at (escape_byte x ++ r) ≡ scan (inside k) ls n r)
unfolding escape_byte
quotes_byte x k ls at r = go (nat_lt 0 (escape_letter x)) refl (nat_lt x 32)
  where
    go : (a : Bool) → nat_lt 0 (escape_letter x) ≡ a → (b : Bool)
        → (n : ℕ) × (scan (inside k) ls at (cond a (92 ∷ escape_letter x ∷ []) (cond b (92 ∷ 117 ∷ 48 ∷ 48 ∷ digit_char (x / 16) ∷ digit_char (x % 16) ∷ []) (x ∷ [])) ++ r) ≡ scan (inside k) ls n r)
    go true e b = (at + 1 + 1, refl)
    go false e true =
        let high = digit_char_plain (x / 16) in
        let low = digit_char_plain (x % 16) in
        (at + 1 + 1 + 1 + 1 + 1 + 1, plain_on (digit_char (x / 16)) k ls (at + 1 + 1 + 1 + 1) (digit_char (x % 16) ∷ r) high.0 high.1 ∙ plain_on (digit_char (x % 16)) k ls (at + 1 + 1 + 1 + 1 + 1) r low.0 low.1)
    go false e false =
        (at + 1, plain_on x k ls at r (λ h. true≢false (ap (λ y. nat_lt 0 (escape_letter y)) (sym h) ∙ e)) (λ h. true≢false (ap (λ y. nat_lt 0 (escape_letter y)) (sym h) ∙ e)))

quotes_on : (s k : List ℕ) (ls : Path) (at : ℕ) (rest : List ℕ) → (n : ℕ) × (scan (inside k) ls at (escape s ++ 34 ∷ rest) ≡ scan between (ls ++ key k ∷ []) n rest)
quotes_on [] k ls at rest = (at + 1, refl)
quotes_on (x ∷ s) k ls at rest =
    let here = quotes_byte x k ls at (escape s ++ 34 ∷ rest) in
    let more = quotes_on s k ls here.0 rest in
    (more.0, ap (scan (inside k) ls at) (append_assoc (escape_byte x) (escape s) (34 ∷ rest)) ∙ here.1 ∙ more.1)

dot_quoted : (k : List ℕ) (ls : Path) (at : ℕ) (rest : List ℕ) → (n : ℕ) × (scan dot ls at (quoted k ++ rest) ≡ scan between (ls ++ key k ∷ []) n rest)
dot_quoted k ls at rest =
    let more = quotes_on k k ls (at + 1) rest in
    (more.0, rw (append_assoc (escape k) (34 ∷ []) rest, content-escape k rest) more.1)

dot_step : (c : ℕ) (xs : List ℕ) (ls : Path) (at : ℕ) → begins_key c ≡ true → scan dot ls at (c ∷ xs) ≡ scan (bare (c ∷ [])) ls (at + 1) xs
dot_step c xs ls at begins = rw (ne_eqb c 42 (λ h. true≢false (sym begins ∙ ap begins_key h)), ne_eqb c 34 (λ h. true≢false (sym begins ∙ ap begins_key h)), begins) refl

dot_bare : (c : ℕ) (cs : List ℕ) (ls : Path) (at : ℕ) (rest : List ℕ) → is_bare (c ∷ cs) ≡ true → IsNext rest
    → (n : ℕ) × (scan dot ls at (c ∷ (cs ++ rest)) ≡ scan between (ls ++ key (c ∷ cs) ∷ []) n rest)
dot_bare c cs ls at rest e next =
    let begins : begins_key c ≡ true = first_so (begins_key c) (list_all goes_in_key cs) e in
    let more = bare_on cs (c ∷ []) ls (at + 1) rest (second_so (begins_key c) (list_all goes_in_key cs) e) next in
    (more.0, dot_step c (cs ++ rest) ls at begins ∙ more.1)

dot_key : (k : List ℕ) (ls : Path) (at : ℕ) (rest : List ℕ) → IsNext rest → (n : ℕ) × (scan dot ls at ((if is_bare k then k else quoted k) ++ rest) ≡ scan between (ls ++ key k ∷ []) n rest)
dot_key [] ls at rest next = dot_quoted [] ls at rest
dot_key (c ∷ cs) ls at rest next = go (is_bare (c ∷ cs)) refl
  where
    go : (b : Bool) → is_bare (c ∷ cs) ≡ b → (n : ℕ) × (scan dot ls at ((if b then c ∷ cs else quoted (c ∷ cs)) ++ rest) ≡ scan between (ls ++ key (c ∷ cs) ∷ []) n rest)
    go true e = dot_bare c cs ls at rest e next
    go false e = dot_quoted (c ∷ cs) ls at rest

-- ---- a number

value_grows : (ds : List ℕ) (v : ℕ) → v ≤ digits_value_after 10 v ds
value_grows [] v = omega arith
value_grows (d ∷ ds) v = omega (arith, value_grows ds (v * 10 + digit_value d))

digit_is : (d : ℕ) → digit_value d < 10 → is_ascii_digit d ≡ true
digit_is d h = let range : IsInRange 48 57 d = digit_from_value d h in grind (arith, nat_tests, range.0, range.1)

digits_on : (ds : List ℕ) (from_end : Bool) (begin count v : ℕ) (ls : Path) (at : ℕ) (rest : List ℕ) → AllDigits 10 ds → count + length ds ≤ 10 → digits_value_after 10 v ds < 2 ^ 32
    → (n : ℕ) × (scan (digits from_end begin count v) ls at (ds ++ 93 ∷ rest) ≡ scan between (ls ++ index_leg from_end (digits_value_after 10 v ds) ∷ []) n rest)
digits_on [] from_end begin count v ls at rest all few fits = (at + 1, refl)
digits_on (d ∷ ds) from_end begin count v ls at rest all few fits =
    let value : digit_value d ≡ d - 48 = omega (arith, digit_value_digit d (digit_from_value d all.0)) in
    let below : v * 10 + (d - 48) < 2 ^ 32 = omega (arith, value, value_grows ds (v * 10 + digit_value d), fits) in
    let more = digits_on ds from_end begin (count + 1) (v * 10 + digit_value d) ls (at + 1) rest all.1 (omega (arith, few)) fits in (
      more.0,
      rw (digit_is d all.0, lt-ltb count 10 (omega (arith, few)), lt-ltb (v * 10 + (d - 48)) (2 ^ 32) below)
          (ap (λ w. scan (digits from_end begin (count + 1) (v * 10 + w)) ls (at + 1) (ds ++ 93 ∷ rest)) (sym value) ∙ more.1),
    )

minus_digits : (ds : List ℕ) (ls : Path) (at : ℕ) (rest : List ℕ) → 0 < length ds → AllDigits 10 ds → length ds ≤ 10 → digits_value 10 ds < 2 ^ 32
    → (n : ℕ) × (scan minus ls at (ds ++ 93 ∷ rest) ≡ scan between (ls ++ last (digits_value 10 ds) ∷ []) n rest)
minus_digits [] ls at rest some all few fits = absurd (omega (arith, some))
minus_digits (d ∷ ds) ls at rest some all few fits =
    let more = digits_on (d ∷ ds) true at 0 0 ls at rest all (omega (arith, few)) fits in
    (more.0, rw (digit_is d all.0) (rw (digit_is d all.0) at more.1))

bracket_digits : (ds : List ℕ) (ls : Path) (at : ℕ) (rest : List ℕ) → 0 < length ds → AllDigits 10 ds → length ds ≤ 10 → digits_value 10 ds < 2 ^ 32
    → (n : ℕ) × (scan bracket ls at (ds ++ 93 ∷ rest) ≡ scan between (ls ++ cell (digits_value 10 ds) ∷ []) n rest)
bracket_digits [] ls at rest some all few fits = absurd (omega (arith, some))
bracket_digits (d ∷ ds) ls at rest some all few fits =
    let digit = digit_is d all.0 in
    let more = digits_on (d ∷ ds) false at 0 0 ls at rest all (omega (arith, few)) fits in (
      more.0,
      rw (ne_eqb d 42 (λ h. true≢false (sym digit ∙ ap is_ascii_digit h)), ne_eqb d 108 (λ h. true≢false (sym digit ∙ ap is_ascii_digit h)), digit) (rw digit at more.1),
    )

record IsWritten (n : ℕ) : Type 0 where
  some : 0 < length (decimal n)
  all : AllDigits 10 (decimal n)
  few : length (decimal n) ≤ 10
  value : digits_value 10 (decimal n) ≡ n

written : (n : ℕ) → n < 2 ^ 32 → IsWritten n
written n fits =
    let numeral = decimal_is_IsNumeral n (omega (arith, fits)) in
    record { some = numeral.0.0; all = numeral.0.1; few = length-decimal-le 10 n (omega arith) (omega (arith, fits)) (omega (arith, fits)); value = numeral.1 }

minus_number : (m : ℕ) (ls : Path) (at : ℕ) (rest : List ℕ) → m < 2 ^ 32 → (n : ℕ) × (scan minus ls at (decimal m ++ 93 ∷ rest) ≡ scan between (ls ++ last m ∷ []) n rest)
minus_number m ls at rest fits =
    let w = written m fits in
    let more = minus_digits (decimal m) ls at rest w.some w.all w.few (subst (λ v. v < 2 ^ 32) (sym w.value) fits) in
    (more.0, more.1 ∙ ap (λ v. scan between (ls ++ last v ∷ []) more.0 rest) w.value)

bracket_number : (m : ℕ) (ls : Path) (at : ℕ) (rest : List ℕ) → m < 2 ^ 32 → (n : ℕ) × (scan bracket ls at (decimal m ++ 93 ∷ rest) ≡ scan between (ls ++ cell m ∷ []) n rest)
bracket_number m ls at rest fits =
    let w = written m fits in
    let more = bracket_digits (decimal m) ls at rest w.some w.all w.few (subst (λ v. v < 2 ^ 32) (sym w.value) fits) in
    (more.0, more.1 ∙ ap (λ v. scan between (ls ++ cell v ∷ []) more.0 rest) w.value)

-- ---- a leg, and all of them

leg_back : (l : Leg) (ls : Path) (at : ℕ) (rest : List ℕ) → IsLeg l → length ls < 100 → IsNext rest → (n : ℕ) × (scan between ls at (leg_text l ++ rest) ≡ scan between (ls ++ l ∷ []) n rest)
leg_back (key k) ls at rest is room next =
    let more = dot_key k ls (at + 1) rest next in
    (more.0, rw (lt-ltb (length ls) 100 room) more.1)
leg_back (cell m) ls at rest is room next =
    let more = bracket_number m ls (at + 1) rest is in
    (more.0, rw (lt-ltb (length ls) 100 room) (ap (scan bracket ls (at + 1)) (append_assoc (decimal m) (93 ∷ []) rest) ∙ more.1))
leg_back (last zero) ls at rest is room next = (at + 1 + 1 + 1 + 1 + 1 + 1, rw (lt-ltb (length ls) 100 room) refl)
leg_back (last (suc m)) ls at rest is room next =
    let more = minus_number (suc m) ls (at + 1 + 1 + 1 + 1 + 1 + 1) rest is in
    (more.0, rw (lt-ltb (length ls) 100 room) (ap (scan minus ls (at + 1 + 1 + 1 + 1 + 1 + 1)) (append_assoc (decimal (suc m)) (93 ∷ []) rest) ∙ more.1))

legs_back : (ms ls : Path) (at : ℕ) → AllByRecursion IsLeg ms → length ls + length ms ≤ 100 → scan between ls at (flat_map leg_text ms) ≡ Ok (ls ++ ms)
legs_back [] ls at are few = ap Ok (sym (append-nil ls))
legs_back (m ∷ ms) ls at are few =
    let here = leg_back m ls at (flat_map leg_text ms) are.0 (omega (arith, few)) (next_legs ms) in
    here.1 ∙ legs_back ms (ls ++ m ∷ []) here.0 are.1 (omega (arith, few, length_push ls m)) ∙ ap Ok (append_assoc ls (m ∷ []) ms)

short_legs : (ls : Path) → AllByRecursion IsLeg ls → list_any is_long ls ≡ false
short_legs [] are = refl
short_legs (key k ∷ ls) are = let short : is_long (key k) ≡ false = grind (arith, nat_tests, are.0) in rw short (short_legs ls are.1)
short_legs (cell n ∷ ls) are = short_legs ls are.1
short_legs (last n ∷ ls) are = short_legs ls are.1

-- the text of a path is read as that path
pub reads_back : (p : Path) → IsPath p → read_path (path_text p) ≡ Ok p
reads_back p is = rw (legs_back p [] 1 is.1 (omega (arith, is.0)), short_legs p is.1) refl
