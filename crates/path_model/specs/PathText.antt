-- The text of a path: of MySQL 8.0's path expressions (Reference Manual, "JSON Path Syntax") the
-- legs that lead to one place.
--     path_text      the one text that is printed
--     read_path      the path of a text, or its first fault: at the first byte that can't go on.
--                    Places count bytes from 0
use Rattle.std.specs.Prelude.{ℕ, zero, suc, ◌+◌, ◌*◌, ◌-◌, ◌^◌, ◌==◌, ◌||◌, ◌&&◌, Bool, true, false, List, [], ◌∷◌, ◌++◌, length, flat_map, codes, decimal, nat_eq, nat_lt, nat_le, is_some, if◌then◌else◌, Option, Some, None, Result, Ok, Err}
use Rattle.std.specs.List.{list_all, list_any, starts_with}
use Rattle.std.specs.Char.{is_ascii_alphabetic, is_ascii_digit, is_ascii_hexdigit}
use Rattle.json.specs.Print.{quoted}
use Rattle.json.specs.Text.{content, plain, short_escape}
use Rattle.tree_model.specs.Tree.{max_key_bytes}
use Rattle.tree_model.specs.Path.{Leg, key, cell, last, Path}

-- ---- the text of a path

-- a letter, `_` or `$`
abbrev pub begins_key : ℕ → Bool
begins_key c = is_ascii_alphabetic c || ((c == 95) || (c == 36))

abbrev pub goes_in_key : ℕ → Bool
goes_in_key c = begins_key c || is_ascii_digit c

-- a key that needs no quotes
abbrev pub is_bare : List ℕ → Bool
is_bare [] = false
is_bare (c ∷ cs) = begins_key c && list_all goes_in_key cs

abbrev pub leg_text : Leg → List ℕ
leg_text (key k) = 46 ∷ (if is_bare k then k else quoted k)
leg_text (cell n) = 91 ∷ (decimal n ++ 93 ∷ [])
leg_text (last zero) = codes "[last]"
leg_text (last (suc n)) = codes "[last-" ++ (decimal (suc n) ++ 93 ∷ [])

abbrev pub path_text : Path → List ℕ
path_text ls = 36 ∷ flat_map leg_text ls

-- ---- the path of a text

abbrev pub max_legs : ℕ
max_legs = 100

pub data PathFault : Type 0 where
  Wildcard : ℕ → PathFault
  Range : ℕ → PathFault
  Syntax : ℕ → PathFault
  LongKey : PathFault

-- where a scan of a string stands: behind a whole character, behind a backslash, behind `\u`,
-- behind `\ud`, before the last digits of a unit, before those of the first half of a surrogate
-- pair, behind that half, and behind the backslash, the `\u` and the `\ud` of the second
pub data StringState : Type 0 where
  whole : StringState
  backslash : StringState
  unit : StringState
  unit_d : StringState
  more : ℕ → StringState
  first_half : ℕ → StringState
  half : StringState
  half_backslash : StringState
  second : StringState
  second_d : StringState

abbrev pub is_d : ℕ → Bool
is_d c = (c == 68) || (c == 100)

-- 8, 9, a, b: the first half is from d800 to dbff
abbrev pub is_in_first : ℕ → Bool
is_in_first c = (nat_le 56 c && nat_le c 57)
    || ((nat_le 65 c && nat_le c 66) || (nat_le 97 c && nat_le c 98))

-- c to f: the second half is from dc00 to dfff
abbrev pub is_in_second : ℕ → Bool
is_in_second c = (nat_le 67 c && nat_le c 70) || (nat_le 99 c && nat_le c 102)

abbrev pub if_digit : ℕ → StringState → Option StringState
if_digit c s = if is_ascii_hexdigit c then Some s else None

-- where the byte leads in a string, None where it can't go on: a second half stands behind a first
-- one alone
abbrev pub next_state : StringState → ℕ → Option StringState
next_state whole c = if nat_lt c 32 then None else Some (if c == 92 then backslash else whole)
next_state backslash c = if c == 117 then Some unit
    else (if is_some (short_escape c) then Some whole else None)
next_state unit c = if is_d c then Some unit_d else if_digit c (more 3)
next_state unit_d c = if is_in_first c then Some (first_half 2)
    else (if is_in_second c then None else if_digit c (more 2))
next_state (more n) c = if_digit c (if nat_lt 1 n then more (n - 1) else whole)
next_state (first_half n) c = if_digit c (if nat_lt 1 n then first_half (n - 1) else half)
next_state half c = if c == 92 then Some half_backslash else None
next_state half_backslash c = if c == 117 then Some second else None
next_state second c = if is_d c then Some second_d else None
next_state second_d c = if is_in_second c then Some (more 2) else None

abbrev pub one_more : Option StringState → (StringState → ℕ) → ℕ
one_more None go = 0
one_more (Some s) go = go s + 1

-- how many bytes of a string that JSON doesn't read go on
abbrev pub string_stop : StringState → List ℕ → ℕ
string_stop s [] = 0
string_stop s (c ∷ cs) = one_more (next_state s c) (λ next. string_stop next cs)

-- where a scan of a path stands: before its `$`, where a leg may begin, behind a dot, behind these
-- bytes of a bare key, in the quotes of this key, there behind a backslash, behind a bracket, in
-- `last` before these letters, behind `last-`, and behind count digits of a number (from the end or
-- not; the place of the first digit; their value)
pub data PathState : Type 0 where
  start : PathState
  between : PathState
  dot : PathState
  bare : List ℕ → PathState
  inside : List ℕ → PathState
  escaped : List ℕ → PathState
  bracket : PathState
  letters : List ℕ → PathState
  minus : PathState
  digits : Bool → ℕ → ℕ → ℕ → PathState

-- what a scan that goes on gives
abbrev pub Goes : Type 0
Goes = PathState → Path → Result Path PathFault

abbrev pub begun_leg : ℕ → Path → ℕ → Goes → Result Path PathFault
begun_leg c ls at go =
    if c == 42 then Err (Wildcard at)
    else (if ((c == 46) || (c == 91)) && nat_lt (length ls) max_legs
    then go (if c == 46 then dot else bracket) ls else Err (Syntax at))

-- the quotes end where JSON says
abbrev pub quoted_key : Option (List ℕ) → Path → ℕ → List ℕ → Goes → Result Path PathFault
quoted_key (Some k) ls at cs go = go (inside k) ls
quoted_key None ls at cs go = Err (Syntax (at + 1 + string_stop whole cs))

abbrev pub closed_index : Leg → ℕ → List ℕ → Path → ℕ → Goes → Result Path PathFault
closed_index l c cs ls at go =
    if c == 93 then go between (ls ++ l ∷ [])
    else (if starts_with nat_eq (c ∷ cs) (codes " to ") then Err (Range at) else Err (Syntax at))

-- at most ten digits, and a number below 2^32
abbrev pub one_digit : Bool → ℕ → ℕ → ℕ → ℕ → Path → Goes → Result Path PathFault
one_digit from_end first count value c ls go =
    if nat_lt count 10 && nat_lt (value * 10 + (c - 48)) (2 ^ 32)
    then go (digits from_end first (count + 1) (value * 10 + (c - 48))) ls
    else Err (Syntax first)

abbrev pub index_leg : Bool → ℕ → Leg
index_leg from_end n = if from_end then last n else cell n

-- the byte c at this place, before cs
abbrev pub step : PathState → ℕ → List ℕ → Path → ℕ → Goes → Result Path PathFault
step start c cs ls at go = if c == 36 then go between ls else Err (Syntax at)
step between c cs ls at go = begun_leg c ls at go
step dot c cs ls at go =
    if c == 42 then Err (Wildcard at)
    else (if c == 34 then quoted_key (content plain cs) ls at cs go
    else (if begins_key c then go (bare (c ∷ [])) ls else Err (Syntax at)))
step (bare k) c cs ls at go = if goes_in_key c then go (bare (k ++ c ∷ [])) ls
    else begun_leg c (ls ++ key k ∷ []) at go
step (inside k) c cs ls at go = if c == 34 then go between (ls ++ key k ∷ [])
    else go (if c == 92 then escaped k else inside k) ls
step (escaped k) c cs ls at go = go (inside k) ls
step bracket c cs ls at go =
    if c == 42 then Err (Wildcard at)
    else (if c == 108 then go (letters (codes "ast")) ls
    else (if is_ascii_digit c then one_digit false at 0 0 c ls go else Err (Syntax at)))
step (letters (x ∷ xs)) c cs ls at go = if c == x then go (letters xs) ls else Err (Syntax at)
step (letters []) c cs ls at go =
    if c == 45 then go minus ls else closed_index (last 0) c cs ls at go
step minus c cs ls at go = if is_ascii_digit c then one_digit true at 0 0 c ls go
    else Err (Syntax at)
step (digits from_end first count value) c cs ls at go =
    if is_ascii_digit c then one_digit from_end first count value c ls go
    else closed_index (index_leg from_end value) c cs ls at go

-- where the text ends
abbrev pub ended : PathState → Path → ℕ → Result Path PathFault
ended between ls at = Ok ls
ended (bare k) ls at = Ok (ls ++ key k ∷ [])
ended m ls at = Err (Syntax at)

-- behind the legs ls, at this place
abbrev pub scan : PathState → Path → ℕ → List ℕ → Result Path PathFault
scan m ls at [] = ended m ls at
scan m ls at (c ∷ cs) = step m c cs ls at (λ next more. scan next more (at + 1) cs)

abbrev pub is_long : Leg → Bool
is_long (key k) = nat_lt max_key_bytes (length k)
is_long (cell n) = false
is_long (last n) = false

abbrev pub unless_long : Path → Result Path PathFault
unless_long ls = if list_any is_long ls then Err LongKey else Ok ls

abbrev pub checked : Result Path PathFault → Result Path PathFault
checked (Ok ls) = unless_long ls
checked (Err e) = Err e

-- a key that is too long comes after every other fault
abbrev pub read_path : List ℕ → Result Path PathFault
read_path bytes = checked (scan start [] 0 bytes)
