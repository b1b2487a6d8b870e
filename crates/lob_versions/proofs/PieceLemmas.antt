-- A version of a piece and the one behind it, where a LOB stands in the pages.
use Rattle.std.proofs.Common.{◌≡◌, ◌≢◌, inl, inr, ℕ, ◌+◌, ◌<◌, List, [], ◌∷◌, ◌++◌, length, map, Option, Some, None, Result, Ok, IfSome, refl, sym, ap, ◌∙◌, subst, arith}
use Rattle.page_model.specs.Pages.{Pages, Address, address_at, null_address, AreWhole}
use Rattle.page_model.specs.Lists.{IsNodePlace, IsWalk, IsList, first_of, or_null}
use Rattle.page_model.proofs.WalkLemmas.{walk_split, first_null}
use Rattle.engine_base.specs.Faults.{FailsPlainly}
use Rattle.engine_base.specs.Addresses.{address_of}
use Rattle.engine_base.specs.declared.addr.Addr.{Addr}
use Rattle.engine_base.specs.declared.fault.Fault.{Fault}
use Rattle.file_lists.specs.Links.{link_of}
use Rattle.file_lists.proofs.LinkLemmas.{link_read}
use Rattle.store_data.specs.Store.{Version, Piece, Lob}
use Rattle.lob_model.specs.Pieces.{versions, piece_versions, place_of}
use Rattle.lob_model.specs.Places.{versions_base, entry_span, AreEntryPlaces}
use Rattle.lob_model.specs.Lobs.{IsVersion, AreVersions, HaveLists, IsLob, lob_parts}
use Rattle.lob_model.proofs.KeptLemmas.{entry_fits}
use Rattle.page_model.specs.Counts.{has, covers}
use Rattle.page_model.proofs.CoverLemmas.{has_in, covers_cons, covers_once, map_covers}
use Rattle.lob_model.proofs.FreeLemmas.{parts_covers}
use Rattle.lob_model.proofs.NodeLemmas.{places_split}
use Rattle.lob_model.proofs.SplitLemmas.{versions_cut, places_cut, are_split, lists_split}
use Rattle.lob_model.proofs.CutLemmas.{entries_cut, place_in}
use Rattle.lob_pages.specs.Entries.{FitsPage}
use Rattle.std.proofs.lemmas.List.{length-append, length-map}
use Rattle.page_space.specs.Map.{IsSize}
use Rattle.lob_index.proofs.IndexLemmas.{few_index}
use Rattle.lob_versions.specs.Links.{IsEntryLink, IsEntryThere}

abbrev first_or_self : Version → List Version → Version
first_or_self x [] = x
first_or_self x (y ∷ ys) = y

abbrev rest_of : List Version → List Version
rest_of [] = []
rest_of (y ∷ ys) = ys

module _ (pages : Pages) (lob : Lob) (bs : List Piece) (p : Piece) (cs : List Piece) (is : IsLob pages lob) (pieces : lob.pieces ≡ bs ++ p ∷ cs) where
  pub version_in : (seen : List Version) (y : Version) (ys : List Version) → piece_versions p ≡ seen ++ y ∷ ys → IsVersion pages lob.page y
  version_in seen y ys cut =
      let A : List Version → Type 0 = λ vs. AreVersions pages lob.page vs in
      let B : List Piece → Type 0 = λ qs. AreVersions pages lob.page (versions qs) in
      let all = are_split pages lob.page (versions bs) (piece_versions p ++ versions cs) (subst A (versions_cut bs p cs) (subst B pieces is.versions)) in
      let mine = (are_split pages lob.page (piece_versions p) (versions cs) all.1).0 in
      (are_split pages lob.page seen (y ∷ ys) (subst A cut mine)).1.0

  -- the list of a head's older versions
  pub list_in : IsList pages (versions_base p.head.place) (map place_of p.older)
  list_in =
      let B : List Piece → Type 0 = λ qs. HaveLists pages qs in
      (lists_split pages bs (p ∷ cs) (subst B pieces is.lists)).1.0

  -- an older version
  -- its entry fits its page
  pub older_fits : (pre : List Version) (z : Version) (post : List Version) → p.older ≡ pre ++ z ∷ post → FitsPage (length pages) z.place
  older_fits pre z post cut =
      let W : List Address → Type 0 = λ ys. IsWalk pages null_address ys null_address in
      let names : map place_of p.older ≡ map place_of pre ++ z.place ∷ map place_of post = ap (λ (vs : List Version). map place_of vs) cut ∙ places_cut pre (z ∷ post) in
      let walk = (walk_split pages null_address (map place_of pre) (z.place ∷ map place_of post) null_address (subst W names list_in.walk)).1 in
      let P : List Piece → Type 0 = λ qs. AreEntryPlaces lob.page lob.index (map place_of (versions qs)) in
      let Q : List Address → Type 0 = λ ys. AreEntryPlaces lob.page lob.index ys in
      let placed = subst P pieces (places_split lob.page lob.index (map place_of (versions lob.pieces)) (lob.free ++ []) is.shape.places).0 in
      let mine = place_in lob.page lob.index bs p cs placed in
      let place = (places_split lob.page lob.index (map place_of pre) (z.place ∷ map place_of post) (subst Q names mine.1)).1.0 in
      record { page = walk.0.page; within = let fit = entry_fits lob.page lob.index z.place place in omega (arith, fit) }

  -- isn't at the head's place
  older_elsewhere : (pre : List Version) (z : Version) (post : List Version) → p.older ≡ pre ++ z ∷ post → z.place ≡ p.head.place → ⊥
  older_elsewhere pre z post cut same =
      let a = p.head.place in
      let n = a.page in
      let k = a.at in
      let names : map place_of p.older ≡ map place_of pre ++ z.place ∷ map place_of post = ap (λ (vs : List Version). map place_of vs) cut ∙ places_cut pre (z ∷ post) in
      let C : List Address → ℕ = λ ys. covers (map entry_span ys) n k in
      let whole = ap (λ (qs : List Piece). C (map place_of (versions qs))) pieces in
      let one = has_in (entry_span a) n k refl (omega arith) (omega arith) in
      let two : has (entry_span z.place) n k ≡ 1 = ap (λ (b : Address). has (entry_span b) n k) same ∙ one in
      omega (
        arith,
        covers_once (lob_parts lob []) is.shape.apart n k,
        parts_covers lob [] n k,
        whole,
        entries_cut bs p cs n k,
        ap C names,
        map_covers entry_span (map place_of pre) (z.place ∷ map place_of post) n k,
        covers_cons (entry_span z.place) (map entry_span (map place_of post)) n k,
        one,
        two,
      )

  fits_first : (pre ys : List Version) → p.older ≡ pre ++ ys → IfSome (first_of (map place_of ys)) (FitsPage (length pages))
  fits_first pre [] cut = tt
  fits_first pre (z ∷ post) cut = older_fits pre z post cut

  -- the link behind a version, by the place at which the search looks
  pub link_behind : (seen : List Version) (y : Version) (ys : List Version) (at : ℕ) → piece_versions p ≡ seen ++ y ∷ ys
      → (y.place ≡ p.head.place → at ≡ y.place.at + 16) → (y.place ≢ p.head.place → at ≡ y.place.at + 6)
      → (address_at pages y.place.page at ≡ or_null (first_of (map place_of ys))) × IfSome (first_of (map place_of ys)) (FitsPage (length pages))
  link_behind [] y ys at cut head other =
      let same : p.head ≡ y = ap (first_or_self y) cut in
      let rest : p.older ≡ ys = ap rest_of cut in
      let a = p.head.place in
      let place : at ≡ a.at + 12 + 4 = omega (arith, head (ap (λ (x : Version). x.place) (sym same)), ap (λ (x : Version). x.place.at) same) in
      let there : address_at pages a.page at ≡ or_null (first_of (map place_of p.older)) = ap (λ (m : ℕ). address_at pages a.page m) place ∙ list_in.first ∙ first_null (map place_of p.older) in
      let P : Version → List Version → Type 0 = λ x vs. address_at pages x.place.page at ≡ or_null (first_of (map place_of vs)) in
      (subst (λ (vs : List Version). P y vs) rest (subst (λ (x : Version). P x p.older) same there), fits_first [] ys rest)
  link_behind (z ∷ seen) y ys at cut head other =
      let rest : p.older ≡ seen ++ y ∷ ys = ap rest_of cut in
      let W : List Address → Type 0 = λ vs. IsWalk pages null_address vs null_address in
      let names : map place_of p.older ≡ map place_of seen ++ y.place ∷ map place_of ys = ap (λ (vs : List Version). map place_of vs) rest ∙ places_cut seen (y ∷ ys) in
      let walk = (walk_split pages null_address (map place_of seen) (y.place ∷ map place_of ys) null_address (subst W names list_in.walk)).1 in
      let place = other (older_elsewhere seen y ys rest) in
      (ap (λ (m : ℕ). address_at pages y.place.page m) place ∙ walk.2 ∙ first_null (map place_of ys), fits_first (seen ++ y ∷ []) ys (rest ∙ assoc seen))
    where
      assoc : (us : List Version) → us ++ y ∷ ys ≡ (us ++ y ∷ []) ++ ys
      assoc [] = refl
      assoc (u ∷ us) = ap (λ (ws : List Version). u ∷ ws) (assoc us)

-- ---- what was read

node_place : (link : Option Addr) (count : ℕ) → IsEntryLink count link → IfSome link (λ a. IsNodePlace count (address_of a))
node_place None count place = tt
node_place (Some a) count place = record { page = place.page; within = let w = place.within in omega (arith, w) }

node_there : (x : Option Address) (a count : ℕ) → a ≡ count → IfSome x (FitsPage a) → IfSome x (IsNodePlace count)
node_there None a count same place = tt
node_there (Some y) a count same place = record { page = omega (arith, place.page, same); within = let w = place.within in omega (arith, w) }

-- an address read where a list stands leads to the entry that the list has there
pub entry_found : (link : Option Addr) (told : Option Pages) (count from at : ℕ) (pages : Pages) (x : Option Address) → count < 4_294_967_296 → AreWhole pages count → told ≡ Some pages
    → IfSome told (λ ps. or_null (link_of link) ≡ address_at ps from at) → IsEntryLink count link → (address_at pages from at ≡ or_null x) × IfSome x (FitsPage (length pages)) → link_of link ≡ x
entry_found link told count from at pages x few whole is value place there =
    let r : Result (Option Addr) Fault = Ok link in
    link_read r told count from at pages x few is value (node_place link count place) (node_there x (length pages) count whole.many there.1) there.0

-- where a list stands, the address read there isn't Strange
pub entry_plain : (r : Result (Option Addr) Fault) (told : Option Pages) (count from at : ℕ) (pages : Pages) (x : Option Address) → AreWhole pages count → told ≡ Some pages
    → IfSome told (λ ps. IsEntryThere count (address_at ps from at) → FailsPlainly r) → (address_at pages from at ≡ or_null x) × IfSome x (FitsPage (length pages)) → FailsPlainly r
entry_plain r told count from at pages x whole is never there =
    let P : Option Pages → Type 0 = λ o. IfSome o (λ ps. IsEntryThere count (address_at ps from at) → FailsPlainly r) in
    let Q : Address → Type 0 = λ a. IsEntryThere count a in
    subst P is never (subst Q (sym there.0) (allowed x there.1))
  where
    allowed : (x : Option Address) → IfSome x (FitsPage (length pages)) → IsEntryThere count (or_null x)
    allowed None place = inl refl
    allowed (Some a) place = let R : ℕ → Type 0 = λ n. FitsPage n a in inr (subst R whole.many place)

-- a piece of a LOB in a store has fewer than 2 ^ 32 versions: each has an entry of the first page or of an index page
pub few_versions : (pages : Pages) (lob : Lob) (bs : List Piece) (p : Piece) (cs : List Piece) (count : ℕ) → IsLob pages lob → lob.pieces ≡ bs ++ p ∷ cs → length pages ≡ count → IsSize count → length (piece_versions p) < 4_294_967_296
few_versions pages lob bs p cs count is cut many size =
    let index = few_index pages lob [] is in
    let few = size.few in
    let V : List Piece → ℕ = λ ps. length (versions ps) in
    let all = ap V cut in
    let some = ap (λ (vs : List Version). length vs) (versions_cut bs p cs) in
    let parts = length-append (versions bs) (piece_versions p ++ versions cs) in
    let last = length-append (piece_versions p) (versions cs) in
    let places = length-map (versions lob.pieces) place_of in
    let free = length-append (map place_of (versions lob.pieces)) (lob.free ++ []) in
    elim is.shape.all [
      | inl there ↦ omega (arith, there, index, few, many, all, some, parts, last, places, free)
      | inr none ↦ omega (arith, none, all, some, parts, last, places, free)
    ]
