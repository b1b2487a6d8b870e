-- How many index pages a LOB can have, and where its first free node stands.
use Rattle.std.proofs.Common.{◌≡◌, inl, inr, ℕ, ◌+◌, ◌<◌, ◌≤◌, ◌==◌, List, [], ◌∷◌, ◌++◌, length, map, Some, None, Option, sym, ap, subst, arith, lit≤}
use Rattle.std.proofs.lemmas.Bool.{cases_eq, eq-eqb, ne_eqb}
use Rattle.page_model.specs.Pages.{Pages, Address}
use Rattle.page_model.specs.Lists.{first_of}
use Rattle.page_model.specs.Counts.{covers, one_if, times}
use Rattle.page_model.proofs.CountLemmas.{few_pages}
use Rattle.page_model.proofs.CoverLemmas.{has_in, has_off, covers_nil, covers_cons, covers_once}
use Rattle.page_space.specs.Map.{IsSize}
use Rattle.store_data.specs.Store.{Lob}
use Rattle.lob_model.specs.Pieces.{versions, place_of}
use Rattle.lob_model.specs.Places.{head_span, AreEntryPlaces}
use Rattle.lob_model.specs.Lobs.{IsChain, IsLob, IsLobBut, lob_parts}
use Rattle.lob_model.proofs.FreeLemmas.{parts_covers}
use Rattle.lob_model.proofs.KeptLemmas.{entry_fits}
use Rattle.lob_model.proofs.NodeLemmas.{few_free, places_split}

heads_times : (n : ℕ) (index : List ℕ) → covers (map head_span index) n 0 ≡ times n index
heads_times n [] = covers_nil n 0
heads_times n (m ∷ more) =
    let c = covers_cons (head_span m) (map head_span more) n 0 in
    let r = heads_times n more in
    elim (cases_eq m n) [
      | inl same ↦ (let h = has_in (head_span m) n 0 (sym same) (lit≤ tt) (lit≤ tt) in let e : one_if (m == n) ≡ 1 = ap one_if (eq-eqb m n same) in omega (arith, c, r, h, e))
      | inr other ↦ (let h = has_off (head_span m) n 0 (inl (λ e. other (sym e))) in let e : one_if (m == n) ≡ 0 = ap one_if (ne_eqb m n other) in omega (arith, c, r, h, e))
    ]

chain_low : (pages : Pages) (page : ℕ) (index : List ℕ) → IsChain pages page index → (n : ℕ) → 1 ≤ times n index → n < length pages
chain_low pages page [] chain n some = absurd (omega (arith, some))
chain_low pages page (m ∷ more) chain n some = elim (cases_eq m n) [
  | inl same ↦ let P : ℕ → Type 0 = λ k. k < length pages in subst P same chain.1.there
  | inr other ↦ (let e : one_if (m == n) ≡ 0 = ap one_if (ne_eqb m n other) in chain_low pages m more chain.2 n (omega (arith, e, some)))
]

-- no more index pages than pages
pub few_index : (pages : Pages) (lob : Lob) (loose : List Address) → IsLobBut pages lob loose → length lob.index ≤ length pages
few_index pages lob loose is =
    few_pages (length pages) lob.index
    (λ n. omega (arith, covers_once (lob_parts lob loose) is.shape.apart n 0, parts_covers lob loose n 0, heads_times n lob.index))
    (chain_low pages lob.page lob.index is.chain)

-- where a node is in no list, the free nodes and it can be counted in 32 bits
pub few_nodes : (pages : Pages) (lob : Lob) (node : Address) (count : ℕ) → length pages ≡ count → IsSize count → IsLobBut pages lob (node ∷ []) → length lob.free + 1 < 4_294_967_296
few_nodes pages lob node count many size is =
    few_free lob (node ∷ []) is.shape (let f = few_index pages lob (node ∷ []) is in let s = size.few in omega (arith, f, s, many))

-- the first free node is an entry
pub first_fits : (pages : Pages) (lob : Lob) (a : Address) → IsLob pages lob → first_of lob.free ≡ Some a → a.at + 60 ≤ 16_376
first_fits pages lob a is first =
    let placed = places_split lob.page lob.index (map place_of (versions lob.pieces)) (lob.free ++ []) is.shape.places in
    fits lob.free (places_split lob.page lob.index lob.free [] placed.1).0 first
  where
    fits : (xs : List Address) → AreEntryPlaces lob.page lob.index xs → first_of xs ≡ Some a → a.at + 60 ≤ 16_376
    fits [] are same = absurd (none same)
      where
        IsNo : Option Address → Type 0
        IsNo None = Unit {0}
        IsNo (Some c) = ⊥

        none : None ≡ Some a → ⊥
        none e = subst IsNo e tt
    fits (x ∷ xs) are same =
        let or_x : Option Address → Address = λ o. elim o [ None ↦ x | Some c ↦ c ] in
        let e : x ≡ a = ap or_x same in
        let f = entry_fits lob.page lob.index x are.0 in
        let P : Address → Type 0 = λ c. c.at + 60 ≤ 16_376 in subst P e f
