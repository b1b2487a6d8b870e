-- One step of a search.
use Rattle.std.proofs.Common.{◌≡◌, ◌≢◌, ℕ, suc, ◌+◌, ◌<◌, ◌≤◌, List, [], ◌∷◌, ◌++◌, length, map, Option, Some, None, IfSome, refl, sym, ap, ◌∙◌, subst}
use Rattle.page_model.specs.Pages.{Pages, Address, address_at, field}
use Rattle.page_model.specs.Lists.{first_of, or_null}
use Rattle.store_data.specs.Store.{Version, Piece, Lob}
use Rattle.lob_model.specs.Pieces.{piece_versions, place_of}
use Rattle.lob_model.specs.Search.{Sought, at, more, gone, sought}
use Rattle.lob_model.proofs.SearchLemmas.{sought_here, sought_past, sought_end, sought_more}
use Rattle.lob_pages.specs.Entries.{FitsPage}
use Rattle.lob_versions.specs.Found.{IsSearch}
use Rattle.lob_versions.specs.Along.{IsAlong}
use Rattle.lob_versions.proofs.PieceLemmas.{version_in, link_behind}

left_of : (left n : ℕ) (v : ℕ) (vs : List Version) (target : Sought) → left ≡ n → sought left v vs ≡ target → sought n v vs ≡ target
left_of left n v vs target same is = let P : ℕ → Type 0 = λ m. sought m v vs ≡ target in subst P same is

-- the search ends at a node whose number is at most the one sought
pub along_at : (p : Piece) (v left m : ℕ) (node : Address) (target : Sought) (al : IsAlong p v left node target) → left ≡ suc m → al.x.number ≤ v → at node ≡ target
along_at p v left m node target al more' below = ap at (sym al.place) ∙ sym (sought_here m v al.x al.rest below) ∙ left_of left (suc m) v (al.x ∷ al.rest) target more' al.same

nothing_left : (xs : List Version) → None ≡ first_of (map place_of xs) → xs ≡ []
nothing_left [] none = refl
nothing_left (x ∷ xs) none = absurd (subst IsNo none tt)
  where
    IsNo : Option Address → Type 0
    IsNo None = Unit {0}
    IsNo (Some c) = ⊥

-- at the end of the list, with all versions newer, the version is gone
pub along_gone : (p : Piece) (v left m : ℕ) (node : Address) (target : Sought) (al : IsAlong p v left node target) → left ≡ suc m → v < al.x.number → None ≡ first_of (map place_of al.rest) → gone ≡ target
along_gone p v left m node target al more' above none =
    let P : List Version → Type 0 = λ xs. sought m v xs ≡ target in
    sym (sought_end m v) ∙ subst P (nothing_left al.rest none) (sym (sought_past m v al.x al.rest above) ∙ left_of left (suc m) v (al.x ∷ al.rest) target more' al.same)

-- behind a newer version the search goes on at the next node
pub along_next : (p : Piece) (v left m : ℕ) (node next : Address) (target : Sought) (al : IsAlong p v left node target) → left ≡ suc m → v < al.x.number → Some next ≡ first_of (map place_of al.rest) → IsAlong p v m next target
along_next p v left m node next target al more' above some =
    on al.rest al.cut (sym (sought_past m v al.x al.rest above) ∙ left_of left (suc m) v (al.x ∷ al.rest) target more' al.same) some
  where
    assoc : (us : List Version) (x : Version) (ys : List Version) → us ++ x ∷ ys ≡ (us ++ x ∷ []) ++ ys
    assoc [] x ys = refl
    assoc (u ∷ us) x ys = ap (λ (ws : List Version). u ∷ ws) (assoc us x ys)

    or_next : Option Address → Address
    or_next None = next
    or_next (Some a) = a

    IsYes : Option Address → Type 0
    IsYes None = ⊥
    IsYes (Some c) = Unit {0}

    on : (rest : List Version) → piece_versions p ≡ al.seen ++ al.x ∷ rest → sought m v rest ≡ target → Some next ≡ first_of (map place_of rest) → IsAlong p v m next target
    on [] cut same some = absurd (subst IsYes some tt)
    on (y ∷ ys) cut same some = record { seen = al.seen ++ al.x ∷ []; x = y; rest = ys; cut = cut ∙ assoc al.seen al.x (y ∷ ys); place = sym (ap or_next some); same = same }

-- a search that has looked at eight nodes tells the next one
pub along_more : (p : Piece) (v left : ℕ) (node : Address) (target : Sought) (al : IsAlong p v left node target) → left ≡ 0 → more node ≡ target
along_more p v left node target al none = ap more (sym al.place) ∙ sym (sought_more v al.x al.rest) ∙ left_of left 0 v (al.x ∷ al.rest) target none al.same

-- ---- what was read, where the search stands

module _ (told : Option Pages) (head from : Address) (pages : Pages) (lob : Lob) (p : Piece) (x : Version) (rest : List Version) (search' : IsSearch told head from pages lob p x rest) (v left : ℕ) (node : Address) (target : Sought) (al : IsAlong p v left node target) where
  pub number_is : (told' : Option Pages) (n : ℕ) → told' ≡ Some pages → IfSome told' (λ ps. n ≡ field ps node.page (node.at + 56) 4) → n ≡ al.x.number
  number_is told' n is read =
      let P : Option Pages → Type 0 = λ o. IfSome o (λ ps. n ≡ field ps node.page (node.at + 56) 4) in
      let Q : Address → Type 0 = λ a. n ≡ field pages a.page (a.at + 56) 4 in
      subst Q (sym al.place) (subst P is read) ∙ (version_in pages lob search'.before p search'.behind search'.lob' search'.pieces al.seen al.x al.rest al.cut).entry.number

  pub there : (at' : ℕ) → (node ≡ head → at' ≡ node.at + 16) → (node ≢ head → at' ≡ node.at + 6)
      → (address_at pages node.page at' ≡ or_null (first_of (map place_of al.rest))) × IfSome (first_of (map place_of al.rest)) (FitsPage (length pages))
  there at' same other =
      let y = al.x in
      let here = link_behind pages lob search'.before p search'.behind search'.lob' search'.pieces al.seen y al.rest at' al.cut
      (λ e. same (sym al.place ∙ e ∙ search'.head') ∙ ap (λ (a : Address). a.at + 16) (sym al.place))
      (λ e. other (λ f. e (al.place ∙ f ∙ sym search'.head')) ∙ ap (λ (a : Address). a.at + 6) (sym al.place)) in
      let P : Address → Type 0 = λ a. address_at pages a.page at' ≡ or_null (first_of (map place_of al.rest)) in
      (subst P al.place here.0, here.1)
