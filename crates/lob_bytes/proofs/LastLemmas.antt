-- The last piece of a LOB, as it is read.
use Rattle.std.proofs.Common.{◌≡◌, inl, inr, ℕ, ◌+◌, ◌<◌, nat_lt, List, [], ◌∷◌, ◌++◌, length, map, Option, Some, IfSome, refl, sym, ap, ◌∙◌, subst, lit≤, arith}
use Rattle.std.proofs.lemmas.Bool.{lt-ltb}
use Rattle.std.proofs.lemmas.List.{length-append}
use Rattle.page_model.specs.Pages.{Pages, Address, field, null_address}
use Rattle.page_model.specs.Lists.{IsList, last_of}
use Rattle.page_model.specs.Steps.{PageState, MayUse, Uses}
use Rattle.page_model.proofs.StepLemmas.{may_within, may_other, uses_then, uses_within, uses_other}
use Rattle.page_model.proofs.WalkLemmas.{walk_split}
use Rattle.store_data.specs.Store.{Version, Piece, Lob}
use Rattle.lob_model.specs.Pieces.{versions, place_of, head_place}
use Rattle.lob_model.specs.Places.{heads_base, AreEntryPlaces}
use Rattle.lob_model.specs.Changes.{with_pieces}
use Rattle.lob_model.specs.Lobs.{IsVersion, AreVersions, IsLob}
use Rattle.lob_model.proofs.AddLemmas.{alone, versions_added}
use Rattle.lob_model.proofs.KeptLemmas.{entry_fits}
use Rattle.lob_model.proofs.NodeLemmas.{places_split}
use Rattle.lob_model.proofs.SplitLemmas.{are_split, places_cut}
use Rattle.lob_pages.specs.Entries.{FitsPage}
use Rattle.lob_bytes.specs.Freeing.{ended, has_pieces}

-- ---- lists

-- the last of addresses that end with this one is this one
pub last_is : (ns : List Address) (a : Address) → last_of (ns ++ a ∷ []) ≡ Some a
last_is [] a = refl
last_is (n ∷ []) a = refl
last_is (n ∷ m ∷ ms) a = last_is (m ∷ ms) a

-- the heads of pieces and one more end with its place
pub heads_end : (ps : List Piece) (x : Version) → map head_place (ps ++ alone x ∷ []) ≡ map head_place ps ++ x.place ∷ []
heads_end [] x = refl
heads_end (p ∷ ps) x = ap (λ (ys : List Address). head_place p ∷ ys) (heads_end ps x)

-- whether there are more pieces than the last
pub more_than_one : (ps : List Piece) (x : Version) (n : ℕ) → n ≡ length (map head_place ps ++ x.place ∷ []) → nat_lt 1 n ≡ has_pieces ps
more_than_one ps x n is = let P : ℕ → Type 0 = λ k. nat_lt 1 k ≡ has_pieces ps in subst P (sym is) (by ps)
  where
    by : (qs : List Piece) → nat_lt 1 (length (map head_place qs ++ x.place ∷ [])) ≡ has_pieces qs
    by [] = refl
    by (q ∷ qs) = lt-ltb 1 (length (map head_place (q ∷ qs) ++ x.place ∷ [])) (omega (arith, length-append (map head_place qs) (x.place ∷ [])))

-- ---- the last piece

-- the list of heads, as the code names its base
pub bare_heads : (pages : Pages) (lob : Lob) (page : ℕ) → lob.page ≡ page → IsLob pages (with_pieces lob []) → IsList pages (heads_base page) []
bare_heads pages lob page first is = let P : ℕ → Type 0 = λ n. IsList pages (heads_base n) [] in subst P first is.heads

module _ (pages : Pages) (lob : Lob) (ps : List Piece) (x : Version) (is : IsLob pages (ended lob ps x)) where
  own_heads : IsList pages (heads_base lob.page) (map head_place ps ++ x.place ∷ [])
  own_heads = let L : List Address → Type 0 = λ ns. IsList pages (heads_base lob.page) ns in subst L (heads_end ps x) is.heads

  pub heads_of : (page : ℕ) → lob.page ≡ page → IsList pages (heads_base page) (map head_place ps ++ x.place ∷ [])
  heads_of page first = let P : ℕ → Type 0 = λ n. IsList pages (heads_base n) (map head_place ps ++ x.place ∷ []) in subst P first own_heads

  pub last_version : IsVersion pages lob.page x
  last_version = let A : List Version → Type 0 = λ vs. AreVersions pages lob.page vs in
      (are_split pages lob.page (versions ps) (x ∷ []) (subst A (versions_added ps x) is.versions)).1.0

  -- its entry fits its page
  pub last_fits : FitsPage (length pages) x.place
  last_fits =
      let walk = (walk_split pages null_address (map head_place ps) (x.place ∷ []) null_address own_heads.walk).1 in
      let placed = (places_split lob.page lob.index (map place_of (versions (ps ++ alone x ∷ []))) (lob.free ++ []) is.shape.places).0 in
      let P : List Address → Type 0 = λ ys. AreEntryPlaces lob.page lob.index ys in
      let names : map place_of (versions (ps ++ alone x ∷ [])) ≡ map place_of (versions ps) ++ x.place ∷ [] = ap (λ (vs : List Version). map place_of vs) (versions_added ps x) ∙ places_cut (versions ps) (x ∷ []) in
      let place = (places_split lob.page lob.index (map place_of (versions ps)) (x.place ∷ []) (subst P names placed)).1.0 in
      record { page = walk.0.page; within = let fit = entry_fits lob.page lob.index x.place place in omega (arith, fit) }

  pub last_may : (count : ℕ) → length pages ≡ count → IfSome (last_of (map head_place ps ++ x.place ∷ [])) (FitsPage count)
  last_may count many =
      let P : Option Address → Type 0 = λ o. IfSome o (FitsPage count) in
      let F : ℕ → Type 0 = λ n. FitsPage n x.place in
      subst P (sym (last_is (map head_place ps) x.place)) (subst F many last_fits)

  -- the page of its data is one
  pub data_below : x.page < length pages
  data_below = elim last_version.«data».type' [
    | inl same ↦ let P : ℕ → Type 0 = λ n. n < length pages in subst P (sym same) is.first.there
    | inr there ↦ there.there
  ]

  -- as the code reads it
  pub data_is : (node : Address) → node ≡ x.place → field pages node.page (node.at + 48) 4 ≡ x.page
  data_is node same = let P : Address → Type 0 = λ a. field pages a.page (a.at + 48) 4 ≡ x.page in subst P (sym same) last_version.entry.page

-- ---- pages

module _ {T : Type 0} {state : T → PageState} {stays : T → T → Type 0} (add : (a b c : T) → stays a b → stays b c → stays a c) (page q : ℕ) (s t u v : T) where
  pub len_may : MayUse (page ∷ []) 1 0 (state s) → Uses state stays (page ∷ []) 0 0 s t → MayUse (page ∷ []) 0 0 (state t)
  len_may may u1 = may_within (page ∷ []) (page ∷ []) 1 0 0 0 0 0 s t (λ n is. is) (lit≤ tt) (lit≤ tt) may u1

  both : Uses state stays (page ∷ []) 0 0 s t → Uses state stays (page ∷ []) 0 0 t u → Uses state stays (page ∷ []) 0 0 s u
  both u1 u2 = uses_within add (page ∷ []) (page ∷ []) 0 0 0 0 s t u (λ n is. is) u1 u2

  pub data_may : MayUse (page ∷ []) 1 0 (state s) → Uses state stays (page ∷ []) 0 0 s t → Uses state stays (page ∷ []) 0 0 t u → MayUse (q ∷ []) 0 0 (state u)
  data_may may u1 u2 = may_other (page ∷ []) q 1 0 0 0 0 s u (lit≤ tt) (lit≤ tt) may (both u1 u2)

  pub data_uses : Uses state stays (page ∷ []) 0 0 s t → Uses state stays (page ∷ []) 0 0 t u → Uses state stays (q ∷ []) 0 0 u v → Uses state stays (page ∷ []) 1 0 s v
  data_uses u1 u2 u3 = uses_other add (page ∷ []) q 0 0 0 s u v (both u1 u2) u3

  -- the node's page named
  pub named_uses : Uses state stays (page ∷ []) 0 0 s t → Uses state stays (page ∷ []) 0 0 t u → Uses state stays (q ∷ []) 0 0 u v → Uses state stays (q ∷ page ∷ []) 0 0 s v
  named_uses u1 u2 u3 = uses_then add (page ∷ []) (q ∷ []) 0 0 0 0 s u v (both u1 u2) u3
