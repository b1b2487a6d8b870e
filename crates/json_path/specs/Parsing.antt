-- What the parts of `parse` answer.
--     IsParsed      the path of the text, or exactly its first fault
--     scan_from, scan_behind      what a scan gives from a place on, and behind a leg
--     Finds      a leg, behind which the scan goes on, or the scan's fault
--     Reads, Closes, Counts, Unquotes      of a leg, of the bracket behind one, of a number in
--                                          brackets, of a key in quotes
use Rattle.std.specs.Prelude.{◌≡◌, ℕ, ◌+◌, ◌<◌, ◌≤◌, ⊤, Bool, true, false, List, [], ◌∷◌, ◌++◌, length, drop, map, Vec, Result, Ok, Err}
use Rattle.std.specs.declared.alloc.Global.{Global}
use Rattle.std.specs.List.{AllByRecursion}
use Rattle.tree_model.specs.Path as model
use Rattle.tree_model.specs.Path.{Path, key}
use Rattle.path_model.specs.PathText as text
use Rattle.path_model.specs.PathText.{PathFault, PathState, max_legs, start, between, inside, escaped, digits, scan, closed_index, index_leg, read_path}
use Rattle.json_path.specs.View.{leg_of, IsNumbered}
use Rattle.json_path.specs.declared.strings.StringState.{StringState}
use Rattle.json_path.specs.declared.strings.StringState.TheVariants as states
use Rattle.json_path.specs.declared.path.Leg.{Leg}
use Rattle.json_path.specs.declared.parse.Parsed.{Parsed}
use Rattle.json_path.specs.declared.index.Number.{Number}
use Rattle.json_path.specs.declared.error.PathError.{PathError}
use Rattle.json_path.specs.declared.error.PathError.TheVariants.{Wildcard, Range, Syntax, LongKey, Memory}

-- the answer has this fault, or there was no memory
abbrev pub IsFault : Result Path PathFault → PathError → Type 0
IsFault r (Wildcard n) = r ≡ Err (text.Wildcard n)
IsFault r (Range n) = r ≡ Err (text.Range n)
IsFault r (Syntax n) = r ≡ Err (text.Syntax n)
IsFault r LongKey = r ≡ Err text.LongKey
IsFault r Memory = ⊤

-- the path of the text, or exactly its first fault
abbrev pub IsParsed : List ℕ → Result Path PathError → Type 0
IsParsed bytes (Ok p) = read_path bytes ≡ Ok p
IsParsed bytes (Err e) = IsFault (read_path bytes) e

-- ---- a scan, and what is read of it

-- what a scan gives from this place on, in a state and behind legs
abbrev pub scan_from : PathState → List ℕ → ℕ → Path → Result Path PathFault
scan_from m bytes at ls = scan m ls at (drop at bytes)

-- what it gives behind a leg, where another may begin
abbrev pub scan_behind : List ℕ → Parsed → Path → Result Path PathFault
scan_behind bytes p ls = scan_from between bytes p.end (ls ++ leg_of p.leg ∷ [])

-- a leg that ends at this place or past it, and behind which the scan goes on; or the scan's fault
abbrev pub Finds : (Path → Result Path PathFault) → List ℕ → ℕ → Result Parsed PathError → Type 0
Finds found bytes at (Ok p) = (at ≤ p.end) × (p.end ≤ length bytes) × IsNumbered (leg_of p.leg)
    × ((ls : Path) → found ls ≡ scan_behind bytes p ls)
Finds found bytes at (Err e) = (ls : Path) → IsFault (found ls) e

-- the leg in which a scan stands
abbrev pub Reads : PathState → List ℕ → ℕ → Result Parsed PathError → Type 0
Reads m bytes at r = Finds (scan_from m bytes at) bytes at r

-- what a scan gives where the bracket behind a leg may close
abbrev pub closing : model.Leg → Path → ℕ → List ℕ → Result Path PathFault
closing l ls at [] = Err (text.Syntax at)
closing l ls at (c ∷ cs) = closed_index l c cs ls at (λ next more. scan next more (at + 1) cs)

abbrev pub close_from : model.Leg → List ℕ → ℕ → Path → Result Path PathFault
close_from l bytes at ls = closing l ls at (drop at bytes)

-- the leg whose bracket may close here
abbrev pub Closes : model.Leg → List ℕ → ℕ → Result Parsed PathError → Type 0
Closes l bytes at r = Finds (close_from l bytes at) bytes at r

-- what a scan gives of a number that begins here
abbrev pub number_from : List ℕ → ℕ → Bool → Path → Result Path PathFault
number_from bytes at from_end ls = scan_from (digits from_end at 0 0) bytes at ls

-- a number that ends at this place or past it, and behind which its bracket may close; or the
-- scan's fault
abbrev pub Counts : List ℕ → ℕ → Result Number PathError → Type 0
Counts bytes at (Ok n) = (at ≤ n.end) × (n.end ≤ length bytes)
    × ((from_end : Bool) (ls : Path)
    → number_from bytes at from_end ls ≡ close_from (index_leg from_end n.value) bytes n.end ls)
Counts bytes at (Err e) = (from_end : Bool) (ls : Path)
    → IsFault (number_from bytes at from_end ls) e

-- the leg that begins here behind so many others, which are fewer than a path may have
abbrev pub ReadsLeg : List ℕ → ℕ → ℕ → Result Parsed PathError → Type 0
ReadsLeg bytes at count (Ok p) =
    (at < p.end) × (p.end ≤ length bytes) × (count < max_legs) × IsNumbered (leg_of p.leg)
    × ((ls : Path) → length ls ≡ count → scan_from between bytes at ls ≡ scan_behind bytes p ls)
ReadsLeg bytes at count (Err e) = (ls : Path) → length ls ≡ count
    → IsFault (scan_from between bytes at ls) e

-- all legs
abbrev pub ReadsLegs : List ℕ → Result (Vec Leg Global) PathError → Type 0
ReadsLegs bytes (Ok legs) = (scan start [] 0 bytes ≡ Ok (map leg_of legs.items))
    × (length legs.items ≤ max_legs) × AllByRecursion IsNumbered (map leg_of legs.items)
ReadsLegs bytes (Err e) = IsFault (scan start [] 0 bytes) e

-- what a scan gives in quotes, behind these bytes of a key
abbrev pub quotes_from : List ℕ → ℕ → List ℕ → Path → Result Path PathFault
quotes_from bytes at k ls = scan_from (inside k) bytes at ls

-- the quotes close and the key stands, whatever its bytes were read as; or the scan's fault
abbrev pub Unquotes : List ℕ → ℕ → Result ℕ PathError → Type 0
Unquotes bytes at (Ok end) = (at ≤ end) × (end ≤ length bytes)
    × ((k : List ℕ) (ls : Path) → quotes_from bytes at k ls
    ≡ scan_from between bytes end (ls ++ key k ∷ []))
Unquotes bytes at (Err e) = (k : List ℕ) (ls : Path) → IsFault (quotes_from bytes at k ls) e

abbrev pub quotes_state : Bool → List ℕ → PathState
quotes_state false k = inside k
quotes_state true k = escaped k

abbrev pub state_of : StringState → text.StringState
state_of states.Whole = text.whole
state_of states.Backslash = text.backslash
state_of states.Unit = text.unit
state_of states.UnitD = text.unit_d
state_of (states.More n) = text.more n
state_of (states.FirstHalf n) = text.first_half n
state_of states.Half = text.half
state_of states.HalfBackslash = text.half_backslash
state_of states.Second = text.second
state_of states.SecondD = text.second_d
