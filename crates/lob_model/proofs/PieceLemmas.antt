-- Pieces read at a version behind a push and behind a drop.
use Rattle.std.proofs.Common.{◌≡◌, inl, inr, ℕ, ◌<◌, ◌≤◌, nat_le, List, [], ◌∷◌, ◌++◌, Option, Some, None, IfSome, option_map, refl, sym, ap, ◌∙◌, subst}
use Rattle.std.proofs.lemmas.Bool.{cases_lt, cond-true, cond-false, le-leb, lt-leb}
use Rattle.page_model.specs.Pages.{Address}
use Rattle.store_data.specs.Store.{Version, Piece}
use Rattle.store_data.specs.Pieces.{Part, version_at, piece_at, part_of, pushed, all_but_last, popped_to}
use Rattle.lob_model.specs.Pieces.{lob_at, joined, moved}

-- a first version that is old enough is the one that is read
pub newest_here : (v : ℕ) (x : Version) (more : List Version) → x.number ≤ v → version_at (x ∷ more) v ≡ Some x
newest_here v x more below = cond-true (nat_le x.number v) (Some x) (version_at more v) (le-leb x.number v below)

-- where the first version is too new, those behind it are read as if it weren't there
pub newest_past : (v : ℕ) (x : Version) (more : List Version) → v < x.number → version_at (x ∷ more) v ≡ version_at more v
newest_past v x more above = cond-false (nat_le x.number v) (Some x) (version_at more v) (lt-leb x.number v above)

-- where there are no versions, none is read
pub newest_none : (v : ℕ) → version_at [] v ≡ None
newest_none v = refl

-- a version that moved reads the same
pub newest_moved : (v : ℕ) (place : Address) (x : Version) (more : List Version)
    → option_map part_of (version_at (moved place x ∷ more) v) ≡ option_map part_of (version_at (x ∷ more) v)
newest_moved v place x more = elim (cases_lt v x.number) [
  | inl above ↦ ap (option_map part_of) (newest_past v (moved place x) more above ∙ sym (newest_past v x more above))
  | inr below ↦ ap (option_map part_of) (newest_here v (moved place x) more below) ∙ sym (ap (option_map part_of) (newest_here v x more below))
]

-- before the pushed version a piece reads as it did
pub push_older : (new : Version) (node : Address) (p : Piece) (v : ℕ) → v < new.number
    → option_map part_of (piece_at (pushed node new p) v) ≡ option_map part_of (piece_at p v)
push_older new node p v above =
    ap (option_map part_of) (newest_past v (moved p.head.place new) (moved node p.head ∷ p.older) above) ∙ newest_moved v node p.head p.older

-- from the pushed version on a piece reads as this one
pub push_newest : (new : Version) (node : Address) (p : Piece) (v : ℕ) → new.number ≤ v
    → option_map part_of (piece_at (pushed node new p) v) ≡ Some (part_of new)
push_newest new node p v below = ap (option_map part_of) (newest_here v (moved p.head.place new) (moved node p.head ∷ p.older) below)

-- ---- the oldest dropped

found : {A : Type 0} (o : Option A) → IfSome o (λ y. o ≡ Some y)
found None = tt
found (Some y) = refl

-- a version that is read once the oldest was dropped is the one that was read before
pub newest_kept : (v : ℕ) (x : Version) (older : List Version) → IfSome (version_at (x ∷ all_but_last older) v) (λ y. version_at (x ∷ older) v ≡ Some y)
newest_kept v x [] = found (version_at (x ∷ []) v)
newest_kept v x (z ∷ []) =
    let P : Option Version → Type 0 = λ o. IfSome o (λ y. version_at (x ∷ z ∷ []) v ≡ Some y) in elim (cases_lt v x.number) [
      | inl above ↦ subst P (sym (newest_past v x [] above ∙ newest_none v)) tt
      | inr below ↦ subst P (sym (newest_here v x [] below)) (newest_here v x (z ∷ []) below)
    ]
newest_kept v x (y ∷ z ∷ more) =
    let older = y ∷ z ∷ more in
    let P : Option Version → Type 0 = λ o. IfSome o (λ u. version_at (x ∷ older) v ≡ Some u) in
    let Q : Option Version → Type 0 = λ o. IfSome (version_at (all_but_last older) v) (λ u. o ≡ Some u) in elim (cases_lt v x.number) [
      | inl above ↦ subst P (sym (newest_past v x (all_but_last older) above)) (subst Q (sym (newest_past v x older above)) (newest_kept v y (z ∷ more)))
      | inr below ↦ subst P (sym (newest_here v x (all_but_last older) below)) (newest_here v x older below)
    ]

-- ---- all pieces

bytes_of : Option Version → Option Part
bytes_of o = option_map part_of o

same_joined : (o o' : Option Version) (rest : Option (List ℕ)) → option_map part_of o ≡ option_map part_of o' → joined o rest ≡ joined o' rest
same_joined None None rest same = refl
same_joined None (Some y) rest same = absurd (none_some _ same)
  where
    IsNo : Option Part → Type 0
    IsNo None = Unit {0}
    IsNo (Some c) = ⊥

    none_some : (c : Part) → None ≡ Some c → ⊥
    none_some c e = subst IsNo e tt
same_joined (Some x) None rest same = absurd (some_none _ same)
  where
    IsYes : Option Part → Type 0
    IsYes None = ⊥
    IsYes (Some c) = Unit {0}

    some_none : (c : Part) → Some c ≡ None → ⊥
    some_none c e = subst IsYes e tt
same_joined (Some x) (Some y) None same = refl
same_joined (Some x) (Some y) (Some bytes) same = ap (λ (xs : List ℕ). Some (xs ++ bytes)) (ap bytes_or same)
  where
    bytes_or : Option Part → List ℕ
    bytes_or None = []
    bytes_or (Some c) = c.bytes

-- with another piece in the place of one that reads as it does, the document reads as it did
pub read_before : (v : ℕ) (before : List Piece) (p q : Piece) (behind : List Piece) → option_map part_of (piece_at p v) ≡ option_map part_of (piece_at q v)
    → lob_at v (before ++ p ∷ behind) ≡ lob_at v (before ++ q ∷ behind)
read_before v [] p q behind same = same_joined (piece_at p v) (piece_at q v) (lob_at v behind) same
read_before v (r ∷ before) p q behind same = ap (joined (piece_at r v)) (read_before v before p q behind same)

still_joined : (o o' : Option Version) (rest : Option (List ℕ)) → IfSome o (λ x. o' ≡ Some x) → IfSome (joined o rest) (λ bytes. joined o' rest ≡ Some bytes)
still_joined None o' rest still = tt
still_joined (Some x) o' None still = tt
still_joined (Some x) o' (Some bytes) still = ap (λ (u : Option Version). joined u (Some bytes)) still

still_behind : (o : Option Version) (rest rest' : Option (List ℕ)) → IfSome rest (λ x. rest' ≡ Some x) → IfSome (joined o rest) (λ bytes. joined o rest' ≡ Some bytes)
still_behind None rest rest' still = tt
still_behind (Some x) None rest' still = tt
still_behind (Some x) (Some bytes) rest' still = ap (joined (Some x)) still

-- what is read of a document with one piece is read with another that reads all that the first does
pub read_still : (v : ℕ) (before : List Piece) (p q : Piece) (behind : List Piece) → IfSome (piece_at p v) (λ x. piece_at q v ≡ Some x)
    → IfSome (lob_at v (before ++ p ∷ behind)) (λ bytes. lob_at v (before ++ q ∷ behind) ≡ Some bytes)
read_still v [] p q behind still = still_joined (piece_at p v) (piece_at q v) (lob_at v behind) still
read_still v (r ∷ before) p q behind still = still_behind (piece_at r v) (lob_at v (before ++ p ∷ behind)) (lob_at v (before ++ q ∷ behind)) (read_still v before p q behind still)

pub pop_place : (place : Address) (p : Piece) (xs : List Version) → place ≡ p.head.place → (popped_to place xs p).head.place ≡ p.head.place
pop_place place p [] same = refl
pop_place place p (x ∷ more) same = same
