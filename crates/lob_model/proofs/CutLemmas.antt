-- How many parts of a LOB have a byte, where its pieces are cut at one of them.
use Rattle.std.proofs.Common.{◌≡◌, inl, inr, ℕ, ◌+◌, ◌≤◌, List, [], ◌∷◌, ◌++◌, map, length, sym, ap, subst, lit≤, arith}
use Rattle.std.proofs.lemmas.List.{length-append}
use Rattle.page_model.specs.Pages.{Address}
use Rattle.page_model.specs.Lists.{node_span, base_span}
use Rattle.store_data.specs.Store.{Version, Piece}
use Rattle.lob_model.specs.Pieces.{versions, piece_versions, place_of, head_place}
use Rattle.lob_model.specs.Places.{versions_base, entry_span, data_span, AreEntryPlaces}
use Rattle.lob_model.specs.Changes.{fields_span}
use Rattle.lob_model.proofs.PartLemmas.{tail_span}
use Rattle.page_model.specs.Counts.{has, covers}
use Rattle.page_model.proofs.CoverLemmas.{has_off, has_less, in_or_off, covers_cons, covers_nil, map_covers}
use Rattle.lob_model.proofs.SplitLemmas.{versions_cut, places_cut}

-- as many entries have a byte as before a piece, in the piece and behind it together
pub entries_cut : (bs : List Piece) (p : Piece) (cs : List Piece) (n k : ℕ) → covers (map entry_span (map place_of (versions (bs ++ p ∷ cs)))) n k
    ≡ covers (map entry_span (map place_of (versions bs))) n k + (has (entry_span p.head.place) n k + covers (map entry_span (map place_of p.older)) n k) + covers (map entry_span (map place_of (versions cs))) n k
entries_cut bs p cs n k =
    let vs = versions bs in
    let ps = piece_versions p in
    let ws = versions cs in
    let C : List Address → ℕ = λ xs. covers (map entry_span xs) n k in
    let one = ap (λ (xs : List Version). C (map place_of xs)) (versions_cut bs p cs) in
    let two = ap C (places_cut vs (ps ++ ws)) in
    let three = ap C (places_cut ps ws) in
    omega (
      arith,
      one,
      two,
      three,
      map_covers entry_span (map place_of vs) (map place_of (ps ++ ws)) n k,
      map_covers entry_span (map place_of ps) (map place_of ws) n k,
      covers_cons (entry_span p.head.place) (map entry_span (map place_of p.older)) n k,
    )

-- as many versions have a byte in their data as before a piece, in the piece and behind it together
pub data_cut : (first : ℕ) (bs : List Piece) (p : Piece) (cs : List Piece) (n k : ℕ) → covers (map (data_span first) (versions (bs ++ p ∷ cs))) n k
    ≡ covers (map (data_span first) (versions bs)) n k + (has (data_span first p.head) n k + covers (map (data_span first) p.older) n k) + covers (map (data_span first) (versions cs)) n k
data_cut first bs p cs n k =
    let vs = versions bs in
    let ps = piece_versions p in
    let ws = versions cs in
    let one = ap (λ (xs : List Version). covers (map (data_span first) xs) n k) (versions_cut bs p cs) in
    omega (arith, one, map_covers (data_span first) vs (ps ++ ws) n k, map_covers (data_span first) ps ws n k, covers_cons (data_span first p.head) (map (data_span first) p.older) n k)

-- there are as many entries as before a piece, in the piece and behind it together
pub long_cut : (bs : List Piece) (p : Piece) (cs : List Piece) → length (map place_of (versions (bs ++ p ∷ cs))) ≡ length (map place_of (versions bs)) + (1 + length (map place_of p.older)) + length (map place_of (versions cs))
long_cut bs p cs =
    let vs = versions bs in
    let ps = piece_versions p in
    let ws = versions cs in
    let one = ap (λ (xs : List Version). length (map place_of xs)) (versions_cut bs p cs) in
    let two = ap (λ (xs : List Address). length xs) (places_cut vs (ps ++ ws)) in
    let three = ap (λ (xs : List Address). length xs) (places_cut ps ws) in
    omega (arith, one, two, three, length-append (map place_of vs) (map place_of (ps ++ ws)), length-append (map place_of ps) (map place_of ws))

-- ---- within entries

-- a node and what is behind it
pub node_tail : (a : Address) (n k : ℕ) → has (node_span a) n k + has (tail_span a) n k ≤ has (entry_span a) n k
node_tail a n k = elim (in_or_off (node_span a) n k) [
  | inl is ↦
      let none : has (tail_span a) n k ≡ 0 = has_off (tail_span a) n k (let high = is.2 in inr (inl (omega (arith, high)))) in
      let less = has_less (node_span a) (entry_span a) n k (λ at. let low = at.1 in let high = at.2 in (at.0, low, omega (arith, high))) in
      omega (arith, none, less)
  | inr off ↦
      let less = has_less (tail_span a) (entry_span a) n k (λ at. let low = at.1 in let high = at.2 in (at.0, omega (arith, low), omega (arith, high))) in
      omega (arith, has_off (node_span a) n k off, less)
]

-- nodes and what is behind them, together, have a byte no more often than the entries do
pub nodes_tails : (ys : List Address) (n k : ℕ) → covers (map node_span ys) n k + covers (map tail_span ys) n k ≤ covers (map entry_span ys) n k
nodes_tails [] n k = omega (arith, covers_nil n k)
nodes_tails (a ∷ ys) n k =
    omega (arith, nodes_tails ys n k, node_tail a n k, covers_cons (node_span a) (map node_span ys) n k, covers_cons (tail_span a) (map tail_span ys) n k, covers_cons (entry_span a) (map entry_span ys) n k)

-- the base of a version list and the fields lie behind the entry's node, with no byte in both
pub base_fields : (a : Address) (n k : ℕ) → has (base_span (versions_base a)) n k + has (fields_span a) n k ≤ has (tail_span a) n k
base_fields a n k = elim (in_or_off (base_span (versions_base a)) n k) [
  | inl is ↦
      let none : has (fields_span a) n k ≡ 0 = has_off (fields_span a) n k (let high = is.2 in inr (inl (omega (arith, high)))) in
      let less = has_less (base_span (versions_base a)) (tail_span a) n k (λ at. let low = at.1 in let high = at.2 in (at.0, low, omega (arith, high))) in
      omega (arith, none, less)
  | inr off ↦
      let less = has_less (fields_span a) (tail_span a) n k (λ at. let low = at.1 in let high = at.2 in (at.0, omega (arith, low), omega (arith, high))) in
      omega (arith, has_off (base_span (versions_base a)) n k off, less)
]

-- the fields of an entry have a byte at all
pub fields_wide : (a : Address) → 1 ≤ (fields_span a).size
fields_wide a = lit≤ tt

-- what is behind the node of an entry has a byte at all
pub tail_wide : (a : Address) → 1 ≤ (tail_span a).size
tail_wide a = lit≤ tt

-- the nodes of the heads have a byte no more often than the entries of all versions do
pub heads_covered : (ps : List Piece) (n k : ℕ) → covers (map node_span (map head_place ps)) n k ≤ covers (map entry_span (map place_of (versions ps))) n k
heads_covered [] n k = omega (arith, covers_nil n k)
heads_covered (p ∷ more) n k =
    let a = p.head.place in
    let rest = versions more in
    let cut = ap (λ (xs : List Address). covers (map entry_span xs) n k) (places_cut p.older rest) in
    omega (
      arith,
      heads_covered more n k,
      node_tail a n k,
      covers_cons (node_span a) (map node_span (map head_place more)) n k,
      covers_cons (entry_span a) (map entry_span (map place_of (p.older ++ rest))) n k,
      cut,
      map_covers entry_span (map place_of p.older) (map place_of rest) n k,
    )

-- as many nodes of heads have a byte as before a piece, in the piece and behind it together
pub heads_cut : (bs : List Piece) (p : Piece) (cs : List Piece) (n k : ℕ) → covers (map node_span (map head_place (bs ++ p ∷ cs))) n k
    ≡ covers (map node_span (map head_place bs)) n k + has (node_span p.head.place) n k + covers (map node_span (map head_place cs)) n k
heads_cut [] p cs n k = omega (arith, covers_nil n k, covers_cons (node_span p.head.place) (map node_span (map head_place cs)) n k)
heads_cut (b ∷ bs) p cs n k =
    omega (arith, heads_cut bs p cs n k, covers_cons (node_span b.head.place) (map node_span (map head_place (bs ++ p ∷ cs))) n k, covers_cons (node_span b.head.place) (map node_span (map head_place bs)) n k)

-- ---- places

version_places : (first : ℕ) (index : List ℕ) (xs ys : List Version) → AreEntryPlaces first index (map place_of (xs ++ ys)) → AreEntryPlaces first index (map place_of xs) × AreEntryPlaces first index (map place_of ys)
version_places first index [] ys are = (tt, are)
version_places first index (x ∷ xs) ys are = let rest = version_places first index xs ys are.1 in ((are.0, rest.0), rest.1)

places_of : (first : ℕ) (index : List ℕ) (xs ys : List Version) → AreEntryPlaces first index (map place_of xs) → AreEntryPlaces first index (map place_of ys) → AreEntryPlaces first index (map place_of (xs ++ ys))
places_of first index [] ys a b = b
places_of first index (x ∷ xs) ys a b = (a.0, places_of first index xs ys a.1 b)

-- another piece in the place of one
pub places_other : (first : ℕ) (index : List ℕ) (bs : List Piece) (p q : Piece) (cs : List Piece) → (AreEntryPlaces first index (map place_of (piece_versions p)) → AreEntryPlaces first index (map place_of (piece_versions q)))
    → AreEntryPlaces first index (map place_of (versions (bs ++ p ∷ cs))) → AreEntryPlaces first index (map place_of (versions (bs ++ q ∷ cs)))
places_other first index bs p q cs to are =
    let P : List Version → Type 0 = λ xs. AreEntryPlaces first index (map place_of xs) in
    let one = version_places first index (versions bs) (piece_versions p ++ versions cs) (subst P (versions_cut bs p cs) are) in
    let two = version_places first index (piece_versions p) (versions cs) one.1 in
    subst P (sym (versions_cut bs q cs)) (places_of first index (versions bs) (piece_versions q ++ versions cs) one.0 (places_of first index (piece_versions q) (versions cs) (to two.0) two.1))

-- the places of one piece
pub place_in : (first : ℕ) (index : List ℕ) (bs : List Piece) (p : Piece) (cs : List Piece) → AreEntryPlaces first index (map place_of (versions (bs ++ p ∷ cs))) → AreEntryPlaces first index (map place_of (piece_versions p))
place_in first index bs p cs are =
    let P : List Version → Type 0 = λ xs. AreEntryPlaces first index (map place_of xs) in
    (version_places first index (piece_versions p) (versions cs) (version_places first index (versions bs) (piece_versions p ++ versions cs) (subst P (versions_cut bs p cs) are)).1).0
