-- The first and the last older version of a piece, as they are read.
use Rattle.std.proofs.Common.{◌≡◌, ◌⊎◌, inl, inr, ℕ, ◌+◌, ◌<◌, List, [], ◌∷◌, ◌++◌, length, map, Option, Some, IfSome, refl, sym, ap, subst, ◌∙◌, lit≤, arith}
use Rattle.page_model.specs.Pages.{Pages, Address, address_at, null_address}
use Rattle.page_model.specs.Lists.{or_null, last_of, last_or}
use Rattle.page_model.specs.Steps.{PageState, MayUse, Uses}
use Rattle.page_model.proofs.StepLemmas.{may_within, may_other, uses_then, uses_within, uses_other}
use Rattle.page_model.proofs.UnlinkLemmas.{last_some}
use Rattle.store_data.specs.Store.{Version, Piece, Lob}
use Rattle.lob_model.specs.Pieces.{place_of}
use Rattle.lob_model.specs.Lobs.{HasData, IsLob}
use Rattle.lob_model.specs.Changes.{with_pieces, piece}
use Rattle.lob_pages.specs.Entries.{FitsPage}
use Rattle.lob_versions.proofs.PieceLemmas.{list_in, older_fits, link_behind}

-- ---- pages, of reads of one entry and of another

module _ {T : Type 0} {state : T → PageState} {stays : T → T → Type 0} (add : (a b c : T) → stays a b → stays b c → stays a c) (a q : ℕ) (s t u v : T) where
  -- the page named may be read again
  pub may_again : MayUse (a ∷ []) 1 0 (state s) → Uses state stays (a ∷ []) 0 0 s t → MayUse (a ∷ []) 0 0 (state t)
  may_again may u1 = may_within (a ∷ []) (a ∷ []) 1 0 0 0 0 0 s t (λ n is. is) (lit≤ tt) (lit≤ tt) may u1

  -- and another one
  pub may_node : MayUse (a ∷ []) 1 0 (state s) → Uses state stays (a ∷ []) 0 0 s t → MayUse (q ∷ []) 0 0 (state t)
  may_node may u1 = may_other (a ∷ []) q 1 0 0 0 0 s t (lit≤ tt) (lit≤ tt) may u1

  -- once more
  pub may_node_again : MayUse (a ∷ []) 1 0 (state s) → Uses state stays (a ∷ []) 0 0 s t → Uses state stays (q ∷ []) 0 0 t u → MayUse (q ∷ []) 0 0 (state u)
  may_node_again may u1 u2 = may_within (q ∷ []) (q ∷ []) 0 0 0 0 0 0 t u (λ n is. is) (lit≤ tt) (lit≤ tt) (may_node may u1) u2

  -- two reads of one page
  pub used_both : Uses state stays (a ∷ []) 0 0 s t → Uses state stays (a ∷ []) 0 0 t u → Uses state stays (a ∷ []) 0 0 s u
  used_both u1 u2 = uses_within add (a ∷ []) (a ∷ []) 0 0 0 0 s t u (λ n is. is) u1 u2

  -- and one of another
  pub used_node : Uses state stays (a ∷ []) 0 0 s t → Uses state stays (q ∷ []) 0 0 t u → Uses state stays (a ∷ []) 1 0 s u
  used_node u1 u2 = uses_other add (a ∷ []) q 0 0 0 s t u u1 u2

  -- and two of another
  pub used_node_again : Uses state stays (a ∷ []) 0 0 s t → Uses state stays (q ∷ []) 0 0 t u → Uses state stays (q ∷ []) 0 0 u v → Uses state stays (a ∷ []) 1 0 s v
  used_node_again u1 u2 u3 = uses_other add (a ∷ []) q 0 0 0 s t v u1 (uses_within add (q ∷ []) (q ∷ []) 0 0 0 0 t u v (λ n is. is) u2 u3)

  -- the other one named
  pub named_node : Uses state stays (a ∷ []) 0 0 s t → Uses state stays (q ∷ []) 0 0 t u → Uses state stays (q ∷ a ∷ []) 0 0 s u
  named_node u1 u2 = uses_then add (a ∷ []) (q ∷ []) 0 0 0 0 s t u u1 u2

-- ---- what stands there

-- the page of a version's data is one
pub page_below : (pages : Pages) (lob : Lob) (x : Version) → IsLob pages lob → HasData pages lob.page x → x.page < length pages
page_below pages lob x is has = elim has.type' [
  | inl same ↦ let P : ℕ → Type 0 = λ n. n < length pages in subst P (sym same) is.first.there
  | inr there ↦ there.there
]

-- the link to the first older version
pub newest_link : (pages : Pages) (l : Lob) (bs : List Piece) (h x : Version) (more : List Version) (cs : List Piece) (head : Address) → IsLob pages (with_pieces l (bs ++ piece h (x ∷ more) ∷ cs)) → h.place ≡ head
    → (address_at pages head.page (head.at + 12 + 4) ≡ or_null (Some x.place)) × IfSome (Some x.place) (FitsPage (length pages))
newest_link pages l bs h x more cs head is same =
    let lob = with_pieces l (bs ++ piece h (x ∷ more) ∷ cs) in
    let P : Address → Type 0 = λ a. (address_at pages a.page (a.at + 12 + 4) ≡ or_null (Some x.place)) × IfSome (Some x.place) (FitsPage (length pages)) in
    subst P same (link_behind pages lob bs (piece h (x ∷ more)) cs is refl [] h (x ∷ more) (h.place.at + 12 + 4) refl (λ e. omega arith) (λ e. absurd (e refl)))

-- a list is empty or has a last one
pub ends : (xs : List Version) → (xs ≡ []) ⊎ ((ys : List Version) × (x : Version) × (xs ≡ ys ++ x ∷ []))
ends [] = inl refl
ends (x ∷ []) = inr ([], x, refl)
ends (x ∷ y ∷ more) = elim (ends (y ∷ more)) [
  | inl none ↦ absurd (not_none none)
  | inr some ↦ inr (x ∷ some.0, some.1, ap (λ (zs : List Version). x ∷ zs) some.2)
]
  where
    IsNone : List Version → Type 0
    IsNone [] = ⊥
    IsNone (z ∷ zs) = Unit {0}

    not_none : y ∷ more ≡ [] → ⊥
    not_none e = subst IsNone e tt

-- the last of them
pub last_place : (ys : List Version) (x : Version) → last_of (map place_of (ys ++ x ∷ [])) ≡ Some x.place
last_place [] x = refl
last_place (y ∷ []) x = refl
last_place (y ∷ z ∷ zs) x = last_place (z ∷ zs) x

last_is : (ns : List Address) → or_null (last_of ns) ≡ last_or null_address ns
last_is [] = refl
last_is (n ∷ ns) = ap or_null (last_some n ns)

-- the link to the last older version
pub oldest_link : (pages : Pages) (l : Lob) (bs : List Piece) (q : Piece) (cs : List Piece) (head : Address) → IsLob pages (with_pieces l (bs ++ q ∷ cs)) → q.head.place ≡ head
    → (address_at pages head.page (head.at + 12 + 10) ≡ or_null (last_of (map place_of q.older))) × IfSome (last_of (map place_of q.older)) (FitsPage (length pages))
oldest_link pages l bs q cs head is same =
    let lob = with_pieces l (bs ++ q ∷ cs) in
    let P : Address → Type 0 = λ a. (address_at pages a.page (a.at + 12 + 10) ≡ or_null (last_of (map place_of q.older))) × IfSome (last_of (map place_of q.older)) (FitsPage (length pages)) in
    subst P same ((list_in pages lob bs q cs is refl).last ∙ sym (last_is (map place_of q.older)), fits)
  where
    fits : IfSome (last_of (map place_of q.older)) (FitsPage (length pages))
    fits = elim (ends q.older) [
      | inl none ↦ let F : List Version → Type 0 = λ vs. IfSome (last_of (map place_of vs)) (FitsPage (length pages)) in subst F (sym none) tt
      | inr some ↦ (
          let F : Option Address → Type 0 = λ o. IfSome o (FitsPage (length pages)) in
          let e : last_of (map place_of q.older) ≡ Some some.1.place = ap (λ (vs : List Version). last_of (map place_of vs)) some.2 ∙ last_place some.0 some.1 in
          subst F (sym e) (older_fits pages (with_pieces l (bs ++ q ∷ cs)) bs q cs is refl some.0 some.1 [] some.2)
          )
    ]
