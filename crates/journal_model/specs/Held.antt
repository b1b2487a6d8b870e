-- The LOBs of a document that are held, and what changes do to them. Lists of LOBs and of versions
-- have the newest first.
--     Kind      how a change is made in the store; its new LOB's pieces, or the pieces that it
--         touches, counted from 1
--     need      the pages that a change of a kind needs at most
--     HeldLob      a LOB's version, and for each piece the versions that are held
--     add, take_back, drop_old      a change made, undone, and purged
use Rattle.std.specs.Prelude.{ℕ, zero, suc, ◌+◌, ◌-◌, ◌==◌, Bool, List, [], ◌∷◌, length, nat_lt, if◌then◌else◌}
use Rattle.std.specs.List.{list_any}
use Rattle.std.specs.Int.{div_ceil}
use Rattle.binary_model.specs.Need.{index_pages, index_entries}

pub data Kind : Type 0 where
  inserted : (pieces : ℕ) → Kind
  rebuilt : (pieces : ℕ) → Kind
  versioned : (touched : List ℕ) → Kind
  patched : Kind
  removed : Kind

-- a row and an undo record take at most four pages
abbrev pub need : Kind → ℕ
need (inserted n) = n + index_pages n + 4
need (rebuilt n) = n + index_pages n + 4
need (versioned t) = length t + div_ceil (length t) index_entries + 4
need patched = 4
need removed = 4

-- pieces of which a new version is made
abbrev pub pushed_pieces : Kind → ℕ
pushed_pieces (versioned t) = length t
pushed_pieces k = 0

pub record HeldLob : Type 0 where
  pub version : ℕ
  pub pieces : List (List ℕ)

abbrev pub copies : ℕ → List (List ℕ)
copies zero = []
copies (suc n) = (1 ∷ []) ∷ copies n

-- a new LOB
abbrev pub new_lob : ℕ → HeldLob
new_lob n = record { version = 1; pieces = copies n }

abbrev pub is_in : ℕ → List ℕ → Bool
is_in n ns = list_any (λ k. k == n) ns

-- at the pieces with these numbers, the first of the list having the number n
abbrev pub at_pieces : List ℕ → (List ℕ → List ℕ) → ℕ → List (List ℕ) → List (List ℕ)
at_pieces t f n [] = []
at_pieces t f n (vs ∷ more) = (if is_in n t then f vs else vs) ∷ at_pieces t f (n + 1) more

abbrev pub at_touched : List ℕ → (List ℕ → List ℕ) → List (List ℕ) → List (List ℕ)
at_touched t f pieces = at_pieces t f 1 pieces

abbrev pub but_first : {X : Type 0} → List X → List X
but_first [] = []
but_first (x ∷ xs) = xs

abbrev pub but_last : {X : Type 0} → List X → List X
but_last [] = []
but_last (x ∷ []) = []
but_last (x ∷ y ∷ xs) = x ∷ but_last (y ∷ xs)

abbrev pub at_first : {X : Type 0} → (X → X) → List X → List X
at_first f [] = []
at_first f (x ∷ xs) = f x ∷ xs

abbrev pub at_last : {X : Type 0} → (X → X) → List X → List X
at_last f [] = []
at_last f (x ∷ []) = f x ∷ []
at_last f (x ∷ y ∷ xs) = x ∷ at_last f (y ∷ xs)

-- a new version of the touched pieces, and that version gone again
abbrev pub raised : List ℕ → HeldLob → HeldLob
raised t l =
    record { version = l.version + 1; pieces = at_touched t (λ vs. (l.version + 1) ∷ vs) l.pieces }

abbrev pub lowered : List ℕ → HeldLob → HeldLob
lowered t l = record { version = l.version - 1; pieces = at_touched t but_first l.pieces }

-- the oldest version of the touched pieces gone
abbrev pub thinned : List ℕ → HeldLob → HeldLob
thinned t l = record { version = l.version; pieces = at_touched t but_last l.pieces }

-- ---- one change

abbrev pub add : Kind → List HeldLob → List HeldLob
add (inserted n) lobs = new_lob n ∷ lobs
add (rebuilt n) lobs = new_lob n ∷ lobs
add (versioned t) lobs = at_first (raised t) lobs
add patched lobs = lobs
add removed lobs = lobs

abbrev pub take_back : Kind → List HeldLob → List HeldLob
take_back (inserted n) lobs = but_first lobs
take_back (rebuilt n) lobs = but_first lobs
take_back (versioned t) lobs = at_first (lowered t) lobs
take_back patched lobs = lobs
take_back removed lobs = lobs

abbrev pub drop_old : Kind → List HeldLob → List HeldLob
drop_old (inserted n) lobs = lobs
drop_old (rebuilt n) lobs = but_last lobs
drop_old (versioned t) lobs = at_last (thinned t) lobs
drop_old patched lobs = lobs
drop_old removed lobs = but_last lobs

-- ---- several; the newest first

abbrev pub add_all : List Kind → List HeldLob → List HeldLob
add_all [] lobs = lobs
add_all (k ∷ ks) lobs = add k (add_all ks lobs)

abbrev pub take_all_back : List Kind → List HeldLob → List HeldLob
take_all_back [] lobs = lobs
take_all_back (k ∷ ks) lobs = take_all_back ks (take_back k lobs)

-- the oldest of them first
abbrev pub drop_all_old : List Kind → List HeldLob → List HeldLob
drop_all_old [] lobs = lobs
drop_all_old (k ∷ ks) lobs = drop_old k (drop_all_old ks lobs)

-- ---- counts

abbrev pub total : {X : Type 0} → (X → ℕ) → List X → ℕ
total f [] = 0
total f (x ∷ xs) = f x + total f xs

abbrev pub versions_in : HeldLob → ℕ
versions_in l = total length l.pieces

abbrev pub pieces_in : HeldLob → ℕ
pieces_in l = length l.pieces

abbrev pub greater : ℕ → ℕ → ℕ
greater m n = if nat_lt m n then n else m

-- the most versions of one LOB
abbrev pub most_versions : List HeldLob → ℕ
most_versions [] = 0
most_versions (l ∷ ls) = greater (versions_in l) (most_versions ls)
