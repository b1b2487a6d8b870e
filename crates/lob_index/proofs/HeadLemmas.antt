-- The head behind another, where a LOB stands there.
use Rattle.std.proofs.Common.{◌≡◌, ◌⊎◌, inl, inr, ℕ, zero, suc, ◌+◌, ◌-◌, ◌<◌, ◌≤◌, List, [], ◌∷◌, ◌++◌, length, map, take, drop, Option, Some, None, Result, Ok, Err, IfOk, IfSome, refl, sym, ap, ◌∙◌, subst, arith}
use Rattle.std.proofs.lemmas.List.{drop-drop, take-append-drop, length-take-le, length-drop}
use Rattle.page_model.specs.Pages.{Pages, Address, address_at, null_address, AreWhole}
use Rattle.page_model.specs.Lists.{IsNodePlace, IsWalk, first_of, or_null}
use Rattle.page_model.proofs.WalkLemmas.{walk_split, first_null}
use Rattle.engine_base.specs.Faults.{FailsPlainly}
use Rattle.engine_base.specs.Addresses.{address_of}
use Rattle.engine_base.specs.declared.addr.Addr.{Addr}
use Rattle.engine_base.specs.declared.fault.Fault.{Fault}
use Rattle.file_lists.specs.Links.{link_of}
use Rattle.file_lists.proofs.LinkLemmas.{link_read}
use Rattle.store_data.specs.Store.{Version, Piece, Lob}
use Rattle.lob_model.specs.Pieces.{versions, place_of, head_place}
use Rattle.lob_model.specs.Places.{MayTurn, IsSteady, AreEntryPlaces}
use Rattle.lob_model.specs.Lobs.{IsLob}
use Rattle.lob_model.proofs.KeptLemmas.{entry_fits}
use Rattle.lob_pages.specs.Entries.{FitsPage}
use Rattle.lob_index.specs.Heads.{nth, IsHeadFor, IsHeadLink, IsHeadPlace}

-- ---- lists

first_is : (xs : List Address) (a : Address) → first_of xs ≡ Some a → xs ≡ a ∷ drop 1 xs
first_is [] a is = absurd (none is)
  where
    IsNo : Option Address → Type 0
    IsNo None = Unit {0}
    IsNo (Some c) = ⊥

    none : None ≡ Some a → ⊥
    none e = subst IsNo e tt
first_is (x ∷ xs) a is = ap (λ (o : Option Address). or_else o ∷ xs) is
  where
    or_else : Option Address → Address
    or_else None = x
    or_else (Some c) = c

pub cut_at : (xs : List Address) (i : ℕ) (a : Address) → Some a ≡ nth i xs → xs ≡ take i xs ++ a ∷ drop (i + 1) xs
cut_at xs i a is =
    let rest : drop i xs ≡ a ∷ drop (i + 1) xs = first_is (drop i xs) a (sym is) ∙ ap (λ (ys : List Address). a ∷ ys) (drop-drop 1 i xs) in
    sym (take-append-drop i xs) ∙ ap (λ (ys : List Address). take i xs ++ ys) rest

pub long_at : (xs : List Address) (i : ℕ) (a : Address) → Some a ≡ nth i xs → length (take i xs) ≡ i
long_at xs i a is =
    let e = ap (λ (ys : List Address). length ys) (first_is (drop i xs) a (sym is)) in
    length-take-le i xs (omega (arith, e, length-drop i xs, length-drop 1 (drop i xs)))

-- ---- what holds of each head

steady_next : (k page : ℕ) (ys : List Address) (a b : Address) (more : List Address) → IsSteady k page (ys ++ a ∷ b ∷ more) → (b.page ≡ a.page) ⊎ MayTurn (k + length ys + 1)
steady_next k page [] a b more steady = let P : ℕ → Type 0 = λ n. (b.page ≡ a.page) ⊎ MayTurn n in subst P (omega arith) steady.1.0
steady_next k page (y ∷ ys) a b more steady =
    let P : ℕ → Type 0 = λ n. (b.page ≡ a.page) ⊎ MayTurn n in
    subst P (omega arith) (steady_next (k + 1) y.page ys a b more steady.1)

places_left : (first : ℕ) (index : List ℕ) (xs ys : List Address) → AreEntryPlaces first index (xs ++ ys) → AreEntryPlaces first index xs × AreEntryPlaces first index ys
places_left first index [] ys are = (tt, are)
places_left first index (x ∷ xs) ys are = let rest = places_left first index xs ys are.1 in ((are.0, rest.0), rest.1)

version_places : (first : ℕ) (index : List ℕ) (xs ys : List Version) → AreEntryPlaces first index (map place_of (xs ++ ys)) → AreEntryPlaces first index (map place_of xs) × AreEntryPlaces first index (map place_of ys)
version_places first index [] ys are = (tt, are)
version_places first index (x ∷ xs) ys are = let rest = version_places first index xs ys are.1 in ((are.0, rest.0), rest.1)

head_places : (first : ℕ) (index : List ℕ) (ps : List Piece) → AreEntryPlaces first index (map place_of (versions ps)) → AreEntryPlaces first index (map head_place ps)
head_places first index [] are = tt
head_places first index (p ∷ more) are = (are.0, head_places first index more (version_places first index p.older (versions more) are.1).1)

pub head_fits : (pages : Pages) (lob : Lob) (xs : List Address) (a : Address) (ys : List Address) → IsLob pages lob → map head_place lob.pieces ≡ xs ++ a ∷ ys → FitsPage (length pages) a
head_fits pages lob xs a ys is same =
    let W : List Address → Type 0 = λ zs. IsWalk pages null_address zs null_address in
    let Q : List Address → Type 0 = λ zs. AreEntryPlaces lob.page lob.index zs in
    let walk = (walk_split pages null_address xs (a ∷ ys) null_address (subst W same is.heads.walk)).1 in
    let placed = places_left lob.page lob.index (map place_of (versions lob.pieces)) (lob.free ++ []) is.shape.places in
    let place = (places_left lob.page lob.index xs (a ∷ ys) (subst Q same (head_places lob.page lob.index lob.pieces placed.0))).1.0 in
    record { page = walk.0.page; within = let fit = entry_fits lob.page lob.index a place in omega (arith, fit) }

-- the links of the list of heads, the first one and that behind a head
pub first_there : (pages : Pages) (lob : Lob) → IsLob pages lob → (address_at pages lob.page 68 ≡ or_null (first_of (map head_place lob.pieces))) × IfSome (first_of (map head_place lob.pieces)) (IsHeadFor (length pages) 0 lob.page)
first_there pages lob is = (is.heads.first ∙ first_null (map head_place lob.pieces), allowed (map head_place lob.pieces) refl is.shape.steady)
  where
    allowed : (zs : List Address) → map head_place lob.pieces ≡ zs → IsSteady 0 lob.page zs → IfSome (first_of zs) (IsHeadFor (length pages) 0 lob.page)
    allowed [] same steady = tt
    allowed (z ∷ zs) same steady = record { fits = head_fits pages lob [] z zs is same; near = steady.0 }

-- the link in the i-th head is the next head's address or null, and that one may follow it
pub next_there : (pages : Pages) (lob : Lob) (i : ℕ) (a : Address) → IsLob pages lob → Some a ≡ nth i (map head_place lob.pieces)
    → (address_at pages a.page (a.at + 6) ≡ or_null (nth (i + 1) (map head_place lob.pieces))) × IfSome (nth (i + 1) (map head_place lob.pieces)) (IsHeadFor (length pages) (i + 1) a.page)
next_there pages lob i a is here =
    let heads = map head_place lob.pieces in
    let rest = drop (i + 1) heads in
    let cut : heads ≡ take i heads ++ a ∷ rest = cut_at heads i a here in
    let W : List Address → Type 0 = λ zs. IsWalk pages null_address zs null_address in
    let walk = (walk_split pages null_address (take i heads) (a ∷ rest) null_address (subst W cut is.heads.walk)).1 in
    let S : List Address → Type 0 = λ zs. IsSteady 0 lob.page zs in
    (walk.2 ∙ first_null rest, allowed rest cut (subst S cut is.shape.steady))
  where
    allowed : (zs : List Address) → map head_place lob.pieces ≡ take i (map head_place lob.pieces) ++ a ∷ zs → IsSteady 0 lob.page (take i (map head_place lob.pieces) ++ a ∷ zs) → IfSome (first_of zs) (IsHeadFor (length pages) (i + 1) a.page)
    allowed [] cut steady = tt
    allowed (z ∷ zs) cut steady =
        let ys = take i (map head_place lob.pieces) in
        let P : ℕ → Type 0 = λ n. (z.page ≡ a.page) ⊎ MayTurn n in record {
          fits = head_fits pages lob (ys ++ a ∷ []) z zs is (cut ∙ assoc ys zs);
          near = subst P (omega (arith, long_at (map head_place lob.pieces) i a here)) (steady_next 0 lob.page ys a z zs steady);
        }
      where
        assoc : (ys zs : List Address) → ys ++ a ∷ z ∷ zs ≡ (ys ++ a ∷ []) ++ z ∷ zs
        assoc [] zs = refl
        assoc (y ∷ ys) zs = ap (λ (us : List Address). y ∷ us) (assoc ys zs)

-- ---- what was read

node_place : (link : Option Addr) (count k page : ℕ) → IsHeadLink count k page link → IfSome link (λ a. IsNodePlace count (address_of a))
node_place None count k page place = tt
node_place (Some a) count k page place = record { page = place.fits.page; within = let w = place.fits.within in omega (arith, w) }

node_there : (x : Option Address) (count k page : ℕ) → IfSome x (IsHeadFor count k page) → IfSome x (IsNodePlace count)
node_there None count k page place = tt
node_there (Some a) count k page place = record { page = place.fits.page; within = let w = place.fits.within in omega (arith, w) }

same_count : (x : Option Address) (a b k page : ℕ) → a ≡ b → IfSome x (IsHeadFor a k page) → IfSome x (IsHeadFor b k page)
same_count x a b k page same place = let P : ℕ → Type 0 = λ n. IfSome x (IsHeadFor n k page) in subst P same place

-- the head that is read is the one that stands there
pub head_read : (link : Option Addr) (told : Option Pages) (count from at k page : ℕ) (pages : Pages) (x : Option Address) → count < 4_294_967_296 → AreWhole pages count → told ≡ Some pages
    → IfSome told (λ ps. or_null (link_of link) ≡ address_at ps from at) → IsHeadLink count k page link
    → (address_at pages from at ≡ or_null x) × IfSome x (IsHeadFor (length pages) k page) → link_of link ≡ x
head_read link told count from at k page pages x few whole is value place there =
    let r : Result (Option Addr) Fault = Ok link in
    link_read r told count from at pages x few is value (node_place link count k page place) (node_there x count k page (same_count x (length pages) count k page whole.many there.1)) there.0

-- the same of a call's answer
pub answer_read : (r : Result (Option Addr) Fault) (told : Option Pages) (count from at k page : ℕ) (pages : Pages) (x : Option Address) → count < 4_294_967_296 → AreWhole pages count → told ≡ Some pages
    → IfOk r (λ link. IfSome told (λ ps. or_null (link_of link) ≡ address_at ps from at)) → IfOk r (IsHeadLink count k page)
    → (address_at pages from at ≡ or_null x) × IfSome x (IsHeadFor (length pages) k page) → IfOk r (λ link. link_of link ≡ x)
answer_read (Ok link) told count from at k page pages x few whole is value place there = head_read link told count from at k page pages x few whole is value place there
answer_read (Err f) told count from at k page pages x few whole is value place there = tt

-- and reading it isn't refused
pub head_plain : (r : Result (Option Addr) Fault) (told : Option Pages) (count from at k page : ℕ) (pages : Pages) (x : Option Address) → AreWhole pages count → told ≡ Some pages
    → IfSome told (λ ps. IsHeadPlace count k page (address_at ps from at) → FailsPlainly r)
    → (address_at pages from at ≡ or_null x) × IfSome x (IsHeadFor (length pages) k page) → FailsPlainly r
head_plain r told count from at k page pages x whole is never there =
    let P : Option Pages → Type 0 = λ o. IfSome o (λ ps. IsHeadPlace count k page (address_at ps from at) → FailsPlainly r) in
    let Q : Address → Type 0 = λ a. IsHeadPlace count k page a in
    subst P is never (subst Q (sym there.0) (allowed x (same_count x (length pages) count k page whole.many there.1)))
  where
    allowed : (x : Option Address) → IfSome x (IsHeadFor count k page) → IsHeadPlace count k page (or_null x)
    allowed None place = inl refl
    allowed (Some a) place = inr place

-- a head's entry fits its page
pub link_fits : (link : Option Addr) (count count' k page : ℕ) → count ≡ count' → IsHeadLink count k page link → IfSome link (λ a. FitsPage count' (address_of a))
link_fits None count count' k page same place = tt
link_fits (Some a) count count' k page same place = let P : ℕ → Type 0 = λ n. FitsPage n (address_of a) in subst P same place.fits

past_end : (xs : List Address) → None ≡ first_of xs → (m : ℕ) → None ≡ first_of (drop m xs)
past_end [] none m = ap first_of (sym (nothing m))
  where
    nothing : (m : ℕ) → drop {A = Address} m [] ≡ []
    nothing zero = refl
    nothing (suc m) = refl
past_end (x ∷ xs) none m = absurd (subst IsNo none tt)
  where
    IsNo : Option Address → Type 0
    IsNo None = Unit {0}
    IsNo (Some c) = ⊥

-- where there is none behind i others there is none behind more
pub none_later : (xs : List Address) (i k : ℕ) → None ≡ nth i xs → i ≤ k → None ≡ nth k xs
none_later xs i k none more =
    past_end (drop i xs) none (k - i) ∙ ap first_of (drop-drop (k - i) i xs ∙ ap (λ (n : ℕ). drop n xs) (omega (arith, more)))
