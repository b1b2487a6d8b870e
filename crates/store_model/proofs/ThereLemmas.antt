-- A LOB that a consistent store has is one that it owns, and its data stand in no system page.
use Rattle.std.proofs.Common.{◌≡◌, ◌≢◌, inl, inr, ℕ, ◌+◌, ◌≤◌, ◌==◌, Bool, true, false, List, [], ◌∷◌, ◌++◌, Option, Some, refl, sym, ap, subst, ◌∙◌, arith, if◌then◌else◌}
use Rattle.std.proofs.lemmas.Bool.Decides.{eqb_tells}
use Rattle.page_model.specs.Counts.{times, one_if}
use Rattle.page_model.proofs.CountLemmas.{times-append}
use Rattle.store_data.specs.Store.{Version, Piece, Lob, Store}
use Rattle.store_model.specs.Lobs.{lob_of}
use Rattle.store_model.specs.Owned.{owned_lobs, data_page, data_pages, piece_pages, rest_of, lob_pages, log_pages, owned, IsAmong}
use Rattle.store_model.specs.Held.{first_pages}
use Rattle.store_model.specs.Consistent.{IsConsistent}
use Rattle.store_model.proofs.CountLemmas.{different_once}

-- ---- a LOB that stands is owned

first_there : (lobs : List Lob) (page : ℕ) (l : Lob) → lob_of lobs page ≡ Some l → 1 ≤ times page (first_pages lobs)
first_there [] page l is = absurd (cc is)
first_there (m ∷ ms) page l is = elim (eqb_tells m.page page) [
  | inl same ↦ rw same.0 (omega arith)
  | inr other ↦ (let rest = first_there ms page l (ap (λ (b : Bool). if b then Some m else lob_of ms page) (sym other.0) ∙ is) in omega (arith, rest))
]

counted_among : (n : ℕ) (ns : List ℕ) → 1 ≤ times n ns → IsAmong n ns
counted_among n [] some = absurd (omega (arith, some))
counted_among n (m ∷ ns) some = elim (eqb_tells m n) [
  | inl same ↦ inl same.1
  | inr other ↦ inr (counted_among n ns (let P : Bool → Type 0 = λ b. 1 ≤ one_if b + times n ns in let s = subst P other.0 some in omega (arith, s)))
]

pub lob_is_owned : (store : Store) (page : ℕ) (l : Lob) → IsConsistent store → lob_of store.lobs page ≡ Some l → IsAmong page (owned_lobs store)
lob_is_owned store page l all is = let t = first_there store.lobs page l is in let h = all.lobs page in counted_among page (owned_lobs store) (omega (arith, t, h))

-- ---- page 0

-- the pages of one LOB are among those of all
pages_among : (n page : ℕ) (lobs : List Lob) (ps : List ℕ) → IsAmong page ps → times n (page ∷ rest_of (lob_of lobs page)) ≤ times n (lob_pages lobs ps)
pages_among n page lobs [] among = absurd among
pages_among n page lobs (p ∷ ps) (inl same) =
    let a = times-append n (p ∷ rest_of (lob_of lobs p)) (lob_pages lobs ps) in
    subst (λ (q : ℕ). times n (q ∷ rest_of (lob_of lobs q)) ≤ times n (lob_pages lobs (p ∷ ps))) same (omega (arith, a))
pages_among n page lobs (p ∷ ps) (inr among) =
    let a = times-append n (p ∷ rest_of (lob_of lobs p)) (lob_pages lobs ps) in
    let rest = pages_among n page lobs ps among in omega (arith, a, rest)

none_of_lobs : (store : Store) → IsConsistent store → times 0 (lob_pages store.lobs (owned_lobs store)) ≡ 0
none_of_lobs store all =
    let once = different_once 0 (owned store) all.sound in
    let a = times-append 0 (0 ∷ store.row_pages) (log_pages store.active ++ (log_pages store.committed ++ lob_pages store.lobs (owned_lobs store))) in
    let b = times-append 0 (log_pages store.active) (log_pages store.committed ++ lob_pages store.lobs (owned_lobs store)) in
    let c = times-append 0 (log_pages store.committed) (lob_pages store.lobs (owned_lobs store)) in
    omega (arith, once, a, b, c)

-- the data of these versions stand in other pages than page 0
abbrev pub OffZero : List Version → Type 0
OffZero [] = Unit {0}
OffZero (x ∷ xs) = (x.page ≢ 0) × OffZero xs

abbrev pub AllOffZero : List Piece → Type 0
AllOffZero [] = Unit {0}
AllOffZero (p ∷ ps) = OffZero (p.head ∷ p.older) × AllOffZero ps

one_off : (first : ℕ) (x : Version) → first ≢ 0 → times 0 (data_page first x) ≡ 0 → x.page ≢ 0
one_off first x other none zero = elim (eqb_tells x.page first) [
  | inl same ↦ other (sym same.1 ∙ zero)
  | inr apart ↦
      let there : times 0 (x.page ∷ []) ≡ 0 = subst (λ (b : Bool). times 0 (if b then [] else x.page ∷ []) ≡ 0) apart.0 none in
      absurd (let here : times 0 (0 ∷ []) ≡ 0 = subst (λ (n : ℕ). times 0 (n ∷ []) ≡ 0) zero there in omega (arith, here))
]

all_off : (first : ℕ) (xs : List Version) → first ≢ 0 → times 0 (data_pages first xs) ≡ 0 → OffZero xs
all_off first [] other none = tt
all_off first (x ∷ xs) other none =
    let a = times-append 0 (data_page first x) (data_pages first xs) in
    (one_off first x other (omega (arith, a, none)), all_off first xs other (omega (arith, a, none)))

pieces_off : (first : ℕ) (ps : List Piece) → first ≢ 0 → times 0 (piece_pages first ps) ≡ 0 → AllOffZero ps
pieces_off first [] other none = tt
pieces_off first (p ∷ ps) other none =
    let a = times-append 0 (data_pages first (p.head ∷ p.older)) (piece_pages first ps) in
    (all_off first (p.head ∷ p.older) other (omega (arith, a, none)), pieces_off first ps other (omega (arith, a, none)))

-- so of a LOB that a consistent store has
pub data_off_zero : (store : Store) (page : ℕ) (l : Lob) → IsConsistent store → lob_of store.lobs page ≡ Some l → l.page ≡ page → AllOffZero l.pieces
data_off_zero store page l all is same =
    let few = pages_among 0 page store.lobs (owned_lobs store) (lob_is_owned store page l all is) in
    let none = none_of_lobs store all in
    let rest : rest_of (lob_of store.lobs page) ≡ l.index ++ piece_pages l.page l.pieces = ap rest_of is in
    let few' : times 0 (page ∷ (l.index ++ piece_pages l.page l.pieces)) ≤ 0 = subst (λ (ns : List ℕ). times 0 (page ∷ ns) ≤ 0) rest (omega (arith, few, none)) in
    let a = times-append 0 l.index (piece_pages l.page l.pieces) in
    pieces_off l.page l.pieces (λ zero. first_off page (l.index ++ piece_pages l.page l.pieces) few' (sym same ∙ zero)) (omega (arith, few', a))
  where
    first_off : (n : ℕ) (ns : List ℕ) → times 0 (n ∷ ns) ≤ 0 → n ≢ 0
    first_off n ns few zero = absurd (let here : times 0 (0 ∷ ns) ≤ 0 = subst (λ (m : ℕ). times 0 (m ∷ ns) ≤ 0) zero few in omega (arith, here))
