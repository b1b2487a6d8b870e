-- A scan of a key in quotes comes to its closing quote exactly where JSON reads a string, so it stops at the first byte that can't go on.
use Rattle.std.proofs.Common.{◌≡◌, ℕ, ◌+◌, ◌-◌, ◌*◌, ◌<◌, ◌≤◌, ◌==◌, ◌&&◌, ◌||◌, Bool, true, false, cond, nat_lt, nat_le, List, [], ◌∷◌, length, Option, Some, None, is_some, option_and_then, if◌then◌else◌, ◌++◌, take, suc, zero, add-one, refl, sym, ap, ◌∙◌, arith, true≢false}
use Rattle.std.proofs.lemmas.Bool.{eqb-true, lt-ltb, or_parts}
use Rattle.std.proofs.lemmas.Bool.Decides.{nat_tests}
use Rattle.std.specs.Char.{digit_value, is_digit, is_ascii_hexdigit, encode_utf8}
use Rattle.json.specs.Text.{content, plain, after_backslash, after_u, after_high, prepend, code_unit, short_escape, is_high_surrogate, is_low_surrogate, surrogate_pair}
use Rattle.path_model.specs.PathText.{StringState, whole, backslash, unit, unit_d, more, first_half, half, half_backslash, second, second_d, next_state, is_d, is_in_first, is_in_second, if_digit}
use Rattle.path_model.specs.PathText.{string_stop, one_more}
use Rattle.path_model.specs.Quotes.{CanGoOn}

-- ---- whether each byte goes on, up to a quote that closes

-- a quote closes behind a whole character
abbrev closes_at : StringState → ℕ → Bool
closes_at whole c = c == 34
closes_at backslash c = false
closes_at unit c = false
closes_at unit_d c = false
closes_at (more n) c = false
closes_at (first_half n) c = false
closes_at half c = false
closes_at half_backslash c = false
closes_at second c = false
closes_at second_d c = false

abbrev if_on : Option StringState → (StringState → Bool) → Bool
if_on None go = false
if_on (Some s) go = go s

abbrev closes : StringState → List ℕ → Bool
closes s [] = false
closes s (c ∷ cs) = closes_at s c || if_on (next_state s c) (λ next. closes next cs)

-- ---- the digits of a unit

hex_digit : (x : ℕ) → is_ascii_hexdigit x ≡ is_digit x 16
hex_digit x = grind (arith, nat_tests)

d_value : (x : ℕ) → is_d x ≡ (digit_value x == 13)
d_value x = grind (arith, nat_tests)

first_value : (x : ℕ) → is_in_first x ≡ (nat_le 8 (digit_value x) && nat_lt (digit_value x) 12)
first_value x = grind (arith, nat_tests)

second_value : (x : ℕ) → is_in_second x ≡ (nat_le 12 (digit_value x) && nat_lt (digit_value x) 16)
second_value x = grind (arith, nat_tests)

high_value : (a b c d : ℕ) → a < 16 → b < 16 → c < 16 → d < 16 → is_high_surrogate (a * 4096 + b * 256 + c * 16 + d) ≡ (a == 13) && (nat_le 8 b && nat_lt b 12)
high_value a b c d = λ la lb lc ld. grind (arith, nat_tests, la, lb, lc, ld)

low_value : (a b c d : ℕ) → a < 16 → b < 16 → c < 16 → d < 16 → is_low_surrogate (a * 4096 + b * 256 + c * 16 + d) ≡ (a == 13) && (nat_le 12 b && nat_lt b 16)
low_value a b c d = λ la lb lc ld. grind (arith, nat_tests, la, lb, lc, ld)

-- ---- what is too short to close

-- this many bytes stand between and the next whole character
abbrev left : StringState → ℕ
left whole = 0
left backslash = 1
left unit = 4
left unit_d = 3
left (more n) = n
left (first_half n) = n + 6
left half = 6
left half_backslash = 5
left second = 4
left second_d = 3

if_some : (b : Bool) (s : StringState) (o : Option StringState) (cs : List ℕ) → closes s cs ≡ false → if_on o (λ next. closes next cs) ≡ false → if_on (if b then Some s else o) (λ next. closes next cs) ≡ false
if_some true s o cs h g = h
if_some false s o cs h g = g

if_none : (b : Bool) (o : Option StringState) (cs : List ℕ) → if_on o (λ next. closes next cs) ≡ false → if_on (if b then None else o) (λ next. closes next cs) ≡ false
if_none true o cs h = refl
if_none false o cs h = h

short : (s : StringState) (cs : List ℕ) → length cs ≤ left s → closes s cs ≡ false
short s [] le = refl
short whole (c ∷ cs) le = absurd (omega (arith, le))
short backslash (c ∷ cs) le =
    if_some (c == 117) unit (if is_some (short_escape c) then Some whole else None) cs (short unit cs (omega (arith, le)))
    (if_some (is_some (short_escape c)) whole None cs (short whole cs (omega (arith, le))) refl)
short unit (c ∷ cs) le =
    if_some (is_d c) unit_d (if_digit c (more 3)) cs (short unit_d cs (omega (arith, le))) (if_some (is_ascii_hexdigit c) (more 3) None cs (short (more 3) cs (omega (arith, le))) refl)
short unit_d (c ∷ cs) le =
    if_some (is_in_first c) (first_half 2) (if is_in_second c then None else if_digit c (more 2)) cs (short (first_half 2) cs (omega (arith, le)))
    (if_none (is_in_second c) (if_digit c (more 2)) cs (if_some (is_ascii_hexdigit c) (more 2) None cs (short (more 2) cs (omega (arith, le))) refl))
short (more n) (c ∷ cs) le = if_some (is_ascii_hexdigit c) (if nat_lt 1 n then more (n - 1) else whole) None cs (go (nat_lt 1 n) refl (short (more (n - 1)) cs (omega (arith, le))) (short whole cs)) refl
  where
    go : (b : Bool) → nat_lt 1 n ≡ b → closes (more (n - 1)) cs ≡ false → (length cs ≤ 0 → closes whole cs ≡ false) → closes (if b then more (n - 1) else whole) cs ≡ false
    go true e more_left last_one = more_left
    go false e more_left last_one = let few : n ≤ 1 = grind (arith, nat_tests, e) in last_one (omega (arith, le, few))
short (first_half n) (c ∷ cs) le = if_some (is_ascii_hexdigit c) (if nat_lt 1 n then first_half (n - 1) else half) None cs (go (nat_lt 1 n) refl (short (first_half (n - 1)) cs) (short half cs)) refl
  where
    go : (b : Bool) → nat_lt 1 n ≡ b → (length cs ≤ n - 1 + 6 → closes (first_half (n - 1)) cs ≡ false) → (length cs ≤ 6 → closes half cs ≡ false)
        → closes (if b then first_half (n - 1) else half) cs ≡ false
    go true e more_left last_one = let many : 1 < n = grind (arith, nat_tests, e) in more_left (omega (arith, le, many))
    go false e more_left last_one = let few : n ≤ 1 = grind (arith, nat_tests, e) in last_one (omega (arith, le, few))
short half (c ∷ cs) le = if_some (c == 92) half_backslash None cs (short half_backslash cs (omega (arith, le))) refl
short half_backslash (c ∷ cs) le = if_some (c == 117) second None cs (short second cs (omega (arith, le))) refl
short second (c ∷ cs) le = if_some (is_d c) second_d None cs (short second_d cs (omega (arith, le))) refl
short second_d (c ∷ cs) le = if_some (is_in_second c) (more 2) None cs (short (more 2) cs (omega (arith, le))) refl

-- ---- a unit, and the second half of a pair

if_one : (b : Bool) (s : StringState) (cs : List ℕ) → if_on (if b then Some s else None) (λ next. closes next cs) ≡ b && closes s cs
if_one true s cs = refl
if_one false s cs = refl

-- the last two digits
two_more : (c d : ℕ) (cs : List ℕ) → closes (more 2) (c ∷ d ∷ cs) ≡ is_ascii_hexdigit c && (is_ascii_hexdigit d && closes whole cs)
two_more c d cs = if_one (is_ascii_hexdigit c) (more 1) (d ∷ cs) ∙ ap (λ x. is_ascii_hexdigit c && x) (if_one (is_ascii_hexdigit d) whole cs)

two_of_half : (c d : ℕ) (cs : List ℕ) → closes (first_half 2) (c ∷ d ∷ cs) ≡ is_ascii_hexdigit c && (is_ascii_hexdigit d && closes half cs)
two_of_half c d cs = if_one (is_ascii_hexdigit c) (first_half 1) (d ∷ cs) ∙ ap (λ x. is_ascii_hexdigit c && x) (if_one (is_ascii_hexdigit d) half cs)

-- a unit, by the tests of its digits
abbrev unit_test : Bool → Bool → Bool → Bool → Bool → Bool → Bool → Bool → Bool → Bool
unit_test d_first in_first in_second a_hex b_hex c_hex d_hex in_half in_whole =
    if d_first then (if in_first then c_hex && (d_hex && in_half) else (if in_second then false else b_hex && (c_hex && (d_hex && in_whole))))
    else a_hex && (b_hex && (c_hex && (d_hex && in_whole)))

unit_d_tests : (b c d : ℕ) (cs : List ℕ) → closes unit_d (b ∷ c ∷ d ∷ cs)
    ≡ (if is_in_first b then is_ascii_hexdigit c && (is_ascii_hexdigit d && closes half cs) else (if is_in_second b then false else is_ascii_hexdigit b && (is_ascii_hexdigit c && (is_ascii_hexdigit d && closes whole cs))))
unit_d_tests b c d cs = go (is_in_first b) (is_in_second b)
  where
    go : (p q : Bool) → if_on (if p then Some (first_half 2) else (if q then None else if_digit b (more 2))) (λ next. closes next (c ∷ d ∷ cs))
        ≡ (if p then is_ascii_hexdigit c && (is_ascii_hexdigit d && closes half cs) else (if q then false else is_ascii_hexdigit b && (is_ascii_hexdigit c && (is_ascii_hexdigit d && closes whole cs))))
    go true q = two_of_half c d cs
    go false true = refl
    go false false = if_one (is_ascii_hexdigit b) (more 2) (c ∷ d ∷ cs) ∙ ap (λ x. is_ascii_hexdigit b && x) (two_more c d cs)

unit_tests : (a b c d : ℕ) (cs : List ℕ) → closes unit (a ∷ b ∷ c ∷ d ∷ cs)
    ≡ unit_test (is_d a) (is_in_first b) (is_in_second b) (is_ascii_hexdigit a) (is_ascii_hexdigit b) (is_ascii_hexdigit c) (is_ascii_hexdigit d) (closes half cs) (closes whole cs)
unit_tests a b c d cs = go (is_d a)
  where
    go : (p : Bool) → if_on (if p then Some unit_d else if_digit a (more 3)) (λ next. closes next (b ∷ c ∷ d ∷ cs))
        ≡ unit_test p (is_in_first b) (is_in_second b) (is_ascii_hexdigit a) (is_ascii_hexdigit b) (is_ascii_hexdigit c) (is_ascii_hexdigit d) (closes half cs) (closes whole cs)
    go true = unit_d_tests b c d cs
    go false = if_one (is_ascii_hexdigit a) (more 3) (b ∷ c ∷ d ∷ cs)
        ∙ ap (λ x. is_ascii_hexdigit a && x) (if_one (is_ascii_hexdigit b) (more 2) (c ∷ d ∷ cs) ∙ ap (λ x. is_ascii_hexdigit b && x) (two_more c d cs))

-- the same by what the four digits spell
unit_same : (d_first in_first in_second a_hex b_hex c_hex d_hex in_half in_whole : Bool) → (d_first ≡ true → a_hex ≡ true) → (in_first ≡ true → b_hex ≡ true) → (in_second ≡ true → b_hex ≡ true)
    → unit_test d_first in_first in_second a_hex b_hex c_hex d_hex in_half in_whole
    ≡ (a_hex && b_hex && c_hex && d_hex) && (if d_first && in_first then in_half else (if d_first && in_second then false else in_whole))
unit_same true f s false bh ch dh h w p q r = absurd (true≢false (sym (p refl)))
unit_same false f s false bh ch dh h w p q r = refl
unit_same d true s true false ch dh h w p q r = absurd (true≢false (sym (q refl)))
unit_same d false true true false ch dh h w p q r = absurd (true≢false (sym (r refl)))
unit_same true false false true false ch dh h w p q r = refl
unit_same false false false true false ch dh h w p q r = refl
unit_same true true s true true false dh h w p q r = refl
unit_same true true s true true true false h w p q r = refl
unit_same true true s true true true true h w p q r = refl
unit_same true false true true true false dh h w p q r = refl
unit_same true false true true true true false h w p q r = refl
unit_same true false true true true true true h w p q r = refl
unit_same true false false true true false dh h w p q r = refl
unit_same true false false true true true false h w p q r = refl
unit_same true false false true true true true h w p q r = refl
unit_same false f s true true false dh h w p q r = refl
unit_same false f s true true true false h w p q r = refl
unit_same false f s true true true true h w p q r = refl

d_is_hex : (x : ℕ) → is_d x ≡ true → is_ascii_hexdigit x ≡ true
d_is_hex x h = grind (arith, nat_tests, h)

first_is_hex : (x : ℕ) → is_in_first x ≡ true → is_ascii_hexdigit x ≡ true
first_is_hex x h = grind (arith, nat_tests, h)

second_is_hex : (x : ℕ) → is_in_second x ≡ true → is_ascii_hexdigit x ≡ true
second_is_hex x h = grind (arith, nat_tests, h)

abbrev spelled : ℕ → ℕ → ℕ → ℕ → ℕ
spelled a b c d = digit_value a * 4096 + digit_value b * 256 + digit_value c * 16 + digit_value d

-- four digits of a first half, and of a second one
high_digits : (a b c d : ℕ) → digit_value a < 16 → digit_value b < 16 → digit_value c < 16 → digit_value d < 16 → is_high_surrogate (spelled a b c d) ≡ is_d a && is_in_first b
high_digits a b c d p q r s = high_value (digit_value a) (digit_value b) (digit_value c) (digit_value d) p q r s ∙ ap (λ x. x && (nat_le 8 (digit_value b) && nat_lt (digit_value b) 12)) (sym (d_value a)) ∙ ap (λ x. is_d a && x) (sym (first_value b))

low_digits : (a b c d : ℕ) → digit_value a < 16 → digit_value b < 16 → digit_value c < 16 → digit_value d < 16 → is_low_surrogate (spelled a b c d) ≡ is_d a && is_in_second b
low_digits a b c d p q r s = low_value (digit_value a) (digit_value b) (digit_value c) (digit_value d) p q r s ∙ ap (λ x. x && (nat_le 12 (digit_value b) && nat_lt (digit_value b) 16)) (sym (d_value a)) ∙ ap (λ x. is_d a && x) (sym (second_value b))

-- ---- what JSON reads

some_prepended : (k : List ℕ) (o : Option (List ℕ)) → is_some (prepend k o) ≡ is_some o
some_prepended k None = refl
some_prepended k (Some s) = refl

abbrev unit_read : List ℕ → ℕ → Option (List ℕ)
unit_read cs u = cond (is_high_surrogate u) (content (after_high u) cs) (cond (is_low_surrogate u) None (prepend (encode_utf8 u) (content plain cs)))

abbrev low_read : ℕ → List ℕ → ℕ → Option (List ℕ)
low_read h cs u = cond (is_low_surrogate u) (prepend (encode_utf8 (surrogate_pair h u)) (content plain cs)) None

below_16 : (x : ℕ) → is_digit x 16 ≡ true → digit_value x < 16
below_16 x h = grind (arith, nat_tests, h)

unit_reads : (a b c d : ℕ) (cs : List ℕ) (in_half in_whole : Bool) → ((u : ℕ) → in_half ≡ is_some (content (after_high u) cs)) → in_whole ≡ is_some (content plain cs)
    → (is_ascii_hexdigit a && is_ascii_hexdigit b && is_ascii_hexdigit c && is_ascii_hexdigit d) && (if is_d a && is_in_first b then in_half else (if is_d a && is_in_second b then false else in_whole))
    ≡ is_some (option_and_then (unit_read cs) (code_unit a b c d))
unfolding code_unit
unit_reads a b c d cs in_half in_whole half_same whole_same =
    rw (hex_digit a, hex_digit b, hex_digit c, hex_digit d) (go (is_digit a 16) refl (is_digit b 16) refl (is_digit c 16) refl (is_digit d 16) refl)
  where
    tests : (high low : Bool) → (if high then in_half else (if low then false else in_whole))
        ≡ is_some (cond high (content (after_high (spelled a b c d)) cs) (cond low None (prepend (encode_utf8 (spelled a b c d)) (content plain cs))))
    tests true low = half_same (spelled a b c d)
    tests false true = refl
    tests false false = whole_same ∙ sym (some_prepended (encode_utf8 (spelled a b c d)) (content plain cs))

    go : (p : Bool) → is_digit a 16 ≡ p → (q : Bool) → is_digit b 16 ≡ q → (r : Bool) → is_digit c 16 ≡ r → (s : Bool) → is_digit d 16 ≡ s
        → (p && q && r && s) && (if is_d a && is_in_first b then in_half else (if is_d a && is_in_second b then false else in_whole))
        ≡ is_some (option_and_then (unit_read cs) (cond (p && q && r && s) (Some (spelled a b c d)) None))
    go false e q f r g s h = refl
    go true e false f r g s h = refl
    go true e true f false g s h = refl
    go true e true f true g false h = refl
    go true e true f true g true h =
        rw (high_digits a b c d (below_16 a e) (below_16 b f) (below_16 c g) (below_16 d h), low_digits a b c d (below_16 a e) (below_16 b f) (below_16 c g) (below_16 d h))
        (tests (is_d a && is_in_first b) (is_d a && is_in_second b))

low_same : (d_first in_second a_hex b_hex c_hex d_hex in_whole : Bool) → (d_first ≡ true → a_hex ≡ true) → (in_second ≡ true → b_hex ≡ true)
    → d_first && (in_second && (c_hex && (d_hex && in_whole))) ≡ (a_hex && b_hex && c_hex && d_hex) && (if d_first && in_second then in_whole else false)
low_same true s false bh ch dh w p r = absurd (true≢false (sym (p refl)))
low_same d true true false ch dh w p r = absurd (true≢false (sym (r refl)))
low_same false s false bh ch dh w p r = refl
low_same false s true false ch dh w p r = refl
low_same false s true true false dh w p r = refl
low_same false s true true true false w p r = refl
low_same false s true true true true w p r = refl
low_same true false true false ch dh w p r = refl
low_same true false true true false dh w p r = refl
low_same true false true true true false w p r = refl
low_same true false true true true true w p r = refl
low_same true true true true false dh w p r = refl
low_same true true true true true false w p r = refl
low_same true true true true true true w p r = refl

low_reads : (high a b c d : ℕ) (cs : List ℕ) (in_whole : Bool) → in_whole ≡ is_some (content plain cs)
    → is_d a && (is_in_second b && (is_ascii_hexdigit c && (is_ascii_hexdigit d && in_whole))) ≡ is_some (option_and_then (low_read high cs) (code_unit a b c d))
unfolding code_unit
low_reads high a b c d cs in_whole whole_same =
    low_same (is_d a) (is_in_second b) (is_ascii_hexdigit a) (is_ascii_hexdigit b) (is_ascii_hexdigit c) (is_ascii_hexdigit d) in_whole (d_is_hex a) (second_is_hex b)
    ∙ rw (hex_digit a, hex_digit b, hex_digit c, hex_digit d) (go (is_digit a 16) refl (is_digit b 16) refl (is_digit c 16) refl (is_digit d 16) refl)
  where
    tests : (low : Bool) → (if low then in_whole else false) ≡ is_some (cond low (prepend (encode_utf8 (surrogate_pair high (spelled a b c d))) (content plain cs)) None)
    tests true = whole_same ∙ sym (some_prepended (encode_utf8 (surrogate_pair high (spelled a b c d))) (content plain cs))
    tests false = refl

    go : (p : Bool) → is_digit a 16 ≡ p → (q : Bool) → is_digit b 16 ≡ q → (r : Bool) → is_digit c 16 ≡ r → (s : Bool) → is_digit d 16 ≡ s
        → (p && q && r && s) && (if is_d a && is_in_second b then in_whole else false) ≡ is_some (option_and_then (low_read high cs) (cond (p && q && r && s) (Some (spelled a b c d)) None))
    go false e q f r g s h = refl
    go true e false f r g s h = refl
    go true e true f false g s h = refl
    go true e true f true g false h = refl
    go true e true f true g true h = rw (low_digits a b c d (below_16 a e) (below_16 b f) (below_16 c g) (below_16 d h)) (tests (is_d a && is_in_second b))

-- ---- the scan and JSON, side by side

-- a second half: a backslash, `u`, and four digits
half_tests : (s u a b c d : ℕ) (cs : List ℕ) → closes half (s ∷ u ∷ a ∷ b ∷ c ∷ d ∷ cs)
    ≡ (s == 92) && ((u == 117) && (is_d a && (is_in_second b && (is_ascii_hexdigit c && (is_ascii_hexdigit d && closes whole cs)))))
half_tests s u a b c d cs =
    if_one (s == 92) half_backslash (u ∷ a ∷ b ∷ c ∷ d ∷ cs) ∙ ap (λ x. (s == 92) && x) (if_one (u == 117) second (a ∷ b ∷ c ∷ d ∷ cs)
    ∙ ap (λ x. (u == 117) && x) (if_one (is_d a) second_d (b ∷ c ∷ d ∷ cs) ∙ ap (λ x. is_d a && x) (if_one (is_in_second b) (more 2) (c ∷ d ∷ cs) ∙ ap (λ x. is_in_second b && x) (two_more c d cs))))

mutual
  unfolding content

  quote_closes : (cs : List ℕ) → closes whole cs ≡ is_some (content plain cs)
  quote_closes [] = refl
  quote_closes (c ∷ cs) = go (c == 34) (c == 92) refl (nat_lt c 32) refl (backslash_closes cs) (quote_closes cs)
    where
      go : (p q : Bool) → c == 92 ≡ q → (r : Bool) → nat_lt c 32 ≡ r → closes backslash cs ≡ is_some (content after_backslash cs) → closes whole cs ≡ is_some (content plain cs) → p || if_on (if r then None else Some (if q then backslash else whole)) (λ next. closes next cs)
          ≡ is_some (cond p (Some []) (cond q (content after_backslash cs) (cond r None (prepend (c ∷ []) (content plain cs)))))
      go true q e r f behind rest = refl
      go false true e true f behind rest = absurd (true≢false (sym f ∙ ap (λ x. nat_lt x 32) (eqb-true c 92 e)))
      go false true e false f behind rest = behind
      go false false e true f behind rest = refl
      go false false e false f behind rest = rest ∙ sym (some_prepended (c ∷ []) (content plain cs))

  backslash_closes : (cs : List ℕ) → closes backslash cs ≡ is_some (content after_backslash cs)
  backslash_closes [] = refl
  backslash_closes (c ∷ cs) = go (c == 117) (short_escape c) (unit_closes cs) (quote_closes cs)
    where
      go : (p : Bool) (o : Option ℕ) → closes unit cs ≡ is_some (content after_u cs) → closes whole cs ≡ is_some (content plain cs) → if_on (if p then Some unit else (if is_some o then Some whole else None)) (λ next. closes next cs)
          ≡ is_some (cond p (content after_u cs) (option_and_then (λ e. prepend (e ∷ []) (content plain cs)) o))
      go true o behind rest = behind
      go false None behind rest = refl
      go false (Some e) behind rest = rest ∙ sym (some_prepended (e ∷ []) (content plain cs))

  unit_closes : (cs : List ℕ) → closes unit cs ≡ is_some (content after_u cs)
  unit_closes [] = refl
  unit_closes (a ∷ []) = short unit (a ∷ []) (omega arith)
  unit_closes (a ∷ b ∷ []) = short unit (a ∷ b ∷ []) (omega arith)
  unit_closes (a ∷ b ∷ c ∷ []) = short unit (a ∷ b ∷ c ∷ []) (omega arith)
  unit_closes (a ∷ b ∷ c ∷ d ∷ cs) =
      unit_tests a b c d cs
      ∙ unit_same (is_d a) (is_in_first b) (is_in_second b) (is_ascii_hexdigit a) (is_ascii_hexdigit b) (is_ascii_hexdigit c) (is_ascii_hexdigit d) (closes half cs) (closes whole cs) (d_is_hex a) (first_is_hex b) (second_is_hex b)
      ∙ unit_reads a b c d cs (closes half cs) (closes whole cs) (λ u. half_closes u cs) (quote_closes cs)

  half_closes : (h : ℕ) (cs : List ℕ) → closes half cs ≡ is_some (content (after_high h) cs)
  half_closes h [] = refl
  half_closes h (s ∷ []) = short half (s ∷ []) (omega arith)
  half_closes h (s ∷ u ∷ []) = short half (s ∷ u ∷ []) (omega arith)
  half_closes h (s ∷ u ∷ a ∷ []) = short half (s ∷ u ∷ a ∷ []) (omega arith)
  half_closes h (s ∷ u ∷ a ∷ b ∷ []) = short half (s ∷ u ∷ a ∷ b ∷ []) (omega arith)
  half_closes h (s ∷ u ∷ a ∷ b ∷ c ∷ []) = short half (s ∷ u ∷ a ∷ b ∷ c ∷ []) (omega arith)
  half_closes h (s ∷ u ∷ a ∷ b ∷ c ∷ d ∷ cs) = half_tests s u a b c d cs ∙ go (s == 92) (u == 117) (quote_closes cs)
    where
      go : (p q : Bool) → closes whole cs ≡ is_some (content plain cs) → p && (q && (is_d a && (is_in_second b && (is_ascii_hexdigit c && (is_ascii_hexdigit d && closes whole cs))))) ≡ is_some (cond (p && q) (option_and_then (low_read h cs) (code_unit a b c d)) None)
      go true true rest = low_reads h a b c d cs (closes whole cs) rest
      go true false rest = refl
      go false q rest = refl

-- ---- where the scan stops

or_true : (b : Bool) → b || true ≡ true
or_true true = refl
or_true false = refl

take_on : (n c : ℕ) (cs : List ℕ) → take (n + 1) (c ∷ cs) ≡ c ∷ take n cs
take_on n c cs = rw add-one refl

-- zeros for the digits that are left, one at least
abbrev zeros : ℕ → List ℕ → List ℕ
zeros zero rest = 48 ∷ rest
zeros (suc zero) rest = 48 ∷ rest
zeros (suc (suc n)) rest = 48 ∷ zeros (suc n) rest

abbrev second_half : List ℕ
second_half = 100 ∷ 99 ∷ 48 ∷ 48 ∷ 34 ∷ []

-- what closes the string from here
abbrev rest_from : StringState → List ℕ
rest_from whole = 34 ∷ []
rest_from backslash = 110 ∷ 34 ∷ []
rest_from unit = 48 ∷ 48 ∷ 48 ∷ 48 ∷ 34 ∷ []
rest_from unit_d = 48 ∷ 48 ∷ 48 ∷ 34 ∷ []
rest_from (more n) = zeros n (34 ∷ [])
rest_from (first_half n) = zeros n (92 ∷ 117 ∷ second_half)
rest_from half = 92 ∷ 117 ∷ second_half
rest_from half_backslash = 117 ∷ second_half
rest_from second = second_half
rest_from second_d = 99 ∷ 48 ∷ 48 ∷ 34 ∷ []

zeros_close : (n : ℕ) → closes (more n) (zeros n (34 ∷ [])) ≡ true
zeros_close zero = refl
zeros_close (suc zero) = refl
zeros_close (suc (suc n)) = let one_less : suc (suc n) - 1 ≡ suc n = omega arith in rw (lt-ltb 1 (suc (suc n)) (omega arith), one_less) (zeros_close (suc n))

zeros_half : (n : ℕ) → closes (first_half n) (zeros n (92 ∷ 117 ∷ second_half)) ≡ true
zeros_half zero = refl
zeros_half (suc zero) = refl
zeros_half (suc (suc n)) = let one_less : suc (suc n) - 1 ≡ suc n = omega arith in rw (lt-ltb 1 (suc (suc n)) (omega arith), one_less) (zeros_half (suc n))

rest_closes : (s : StringState) → closes s (rest_from s) ≡ true
unfolding short_escape
rest_closes whole = refl
rest_closes backslash = refl
rest_closes unit = refl
rest_closes unit_d = refl
rest_closes (more n) = zeros_close n
rest_closes (first_half n) = zeros_half n
rest_closes half = refl
rest_closes half_backslash = refl
rest_closes second = refl
rest_closes second_d = refl

goes_on : (s : StringState) (cs : List ℕ) → (rest : List ℕ) × (closes s (take (string_stop s cs) cs ++ rest) ≡ true)
goes_on s [] = (rest_from s, rest_closes s)
goes_on s (c ∷ cs) = go (next_state s c) refl (λ t. goes_on t cs)
  where
    go : (o : Option StringState) → next_state s c ≡ o → ((t : StringState) → (rest : List ℕ) × (closes t (take (string_stop t cs) cs ++ rest) ≡ true))
        → (rest : List ℕ) × (closes s (take (one_more o (λ next. string_stop next cs)) (c ∷ cs) ++ rest) ≡ true)
    go None e on = (rest_from s, rest_closes s)
    go (Some t) e on = ((on t).0, rw (take_on (string_stop t cs) c cs, e, (on t).1) (or_true (closes_at s c)))

stops : (s : StringState) (cs rest : List ℕ) → closes s cs ≡ false → string_stop s cs < length cs → closes s (take (string_stop s cs + 1) cs ++ rest) ≡ false
stops s [] rest off lt = absurd (omega (arith, lt))
stops s (c ∷ cs) rest off lt = go (next_state s c) refl (or_parts (closes_at s c) (if_on (next_state s c) (λ next. closes next cs)) off).1 lt (λ t. stops t cs rest)
  where
    here : closes_at s c ≡ false
    here = (or_parts (closes_at s c) (if_on (next_state s c) (λ next. closes next cs)) off).0

    go : (o : Option StringState) → next_state s c ≡ o → if_on o (λ next. closes next cs) ≡ false → one_more o (λ next. string_stop next cs) < suc (length cs)
        → ((t : StringState) → closes t cs ≡ false → string_stop t cs < length cs → closes t (take (string_stop t cs + 1) cs ++ rest) ≡ false)
        → closes s (take (one_more o (λ next. string_stop next cs) + 1) (c ∷ cs) ++ rest) ≡ false
    go None e off_on below on = rw (here, e) refl
    go (Some t) e off_on below on = rw (take_on (string_stop t cs + 1) c cs, here, e) (on t off_on (omega (arith, below)))

-- the bytes before the place can become a string of JSON
pub front_goes_on : (bytes : List ℕ) → CanGoOn (take (string_stop whole bytes) bytes)
front_goes_on bytes =
    let on = goes_on whole bytes in
    (on.0, sym (quote_closes (take (string_stop whole bytes) bytes ++ on.0)) ∙ on.1)

-- with the byte at the place they can't
pub byte_stops : (bytes : List ℕ) → content plain bytes ≡ None → string_stop whole bytes < length bytes → CanGoOn (take (string_stop whole bytes + 1) bytes) → ⊥
byte_stops bytes none lt on =
    true≢false (sym on.1 ∙ sym (quote_closes (take (string_stop whole bytes + 1) bytes ++ on.0)) ∙ stops whole bytes on.0 (quote_closes bytes ∙ ap is_some none) lt)
