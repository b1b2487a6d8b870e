-- A part of a LOB that goes: its last piece, or the index page that was made last.
use Rattle.std.proofs.Common.{◌≡◌, ℕ, true, false, List, [], ◌∷◌, ◌++◌, refl, sym, ap, subst, ◌∙◌}
use Rattle.page_model.specs.Pages.{Pages, Address}
use Rattle.store_data.specs.Pieces.{all_but_last}
use Rattle.store_data.specs.Store.{Version, Piece, Lob, Store}
use Rattle.lob_model.specs.Begin.{HaveNoOlder, bare_lob}
use Rattle.lob_model.specs.Changes.{with_pieces, piece}
use Rattle.lob_model.specs.Lobs.{IsLob, lob_pages}
use Rattle.lob_index.specs.Use.{AreUsed}
use Rattle.lob_bytes.specs.Freeing.{CanFree, FreesPiece, freed_nodes, ended}
use Rattle.lob_bytes.specs.Frees.{CanGive, GivesIndexPage, GivesFirst}
use Rattle.undo_model.specs.Rows.{RowPage}
use Rattle.store_model.specs.Steps.{without_piece, without_index}
use Rattle.store_parts.specs.Keeps.{Keeps}
use Rattle.store_steps.specs.declared.lob.Left.TheVariants.{Pieces, Index, Nothing}
use Rattle.store_steps.specs.Lobs.{left_in, has_part, IsSingle, freed_part, freed_lob, FreesPart}
use Rattle.store_steps.specs.Standing.{StandsOn}
use Rattle.store_steps.proofs.LobLemmas.{LobAt}

-- ---- by what is left

abbrev Pieced : List Piece → List ℕ → Type 0
Pieced ps is = (p : Piece) × (more : List Piece) × (ps ≡ p ∷ more)

abbrev Indexed : List Piece → List ℕ → Type 0
Indexed ps is = (i : ℕ) × (more : List ℕ) × (ps ≡ []) × (is ≡ i ∷ more)

pieced : (ps : List Piece) (is : List ℕ) → Pieces ≡ left_in ps is → Pieced ps is
pieced [] [] e = absurd (let x : Pieces ≡ Nothing = e in cc)
pieced [] (i ∷ more) e = absurd (let x : Pieces ≡ Index = e in cc)
pieced (p ∷ more) is e = (p, more, refl)

indexed : (ps : List Piece) (is : List ℕ) → Index ≡ left_in ps is → Indexed ps is
indexed [] [] e = absurd (let x : Index ≡ Nothing = e in cc)
indexed [] (i ∷ more) e = (i, more, refl, refl)
indexed (p ∷ more) is e = absurd (let x : Index ≡ Pieces = e in cc)

pub bare : (ps : List Piece) (is : List ℕ) → Nothing ≡ left_in ps is → (ps ≡ []) × (is ≡ [])
bare [] [] e = (refl, refl)
bare [] (i ∷ more) e = absurd (let x : Nothing ≡ Index = e in cc)
bare (p ∷ more) is e = absurd (let x : Nothing ≡ Pieces = e in cc)

-- ---- the last piece

pub record Split (l : Lob) : Type 0 where
  pub ps : List Piece
  pub x : Version
  pub is : l.pieces ≡ ps ++ piece x [] ∷ []
  pub older : HaveNoOlder ps

split_last : (p : Piece) (more : List Piece) → HaveNoOlder (p ∷ more)
    → (ps : List Piece) × (x : Version) × (p ∷ more ≡ ps ++ piece x [] ∷ []) × HaveNoOlder ps
split_last p [] none = ([], p.head, ap (λ (vs : List Version). piece p.head vs ∷ []) none.0, tt)
split_last p (q ∷ more) none =
    let r = split_last q more none.1 in
    (p ∷ r.0, r.1, ap (λ (qs : List Piece). p ∷ qs) r.2, (none.0, r.3))

cut_last : {A : Type 0} (xs : List A) (x : A) → all_but_last (xs ++ x ∷ []) ≡ xs
cut_last [] x = refl
cut_last (y ∷ []) x = refl
cut_last (y ∷ z ∷ zs) x = ap (λ ws. y ∷ ws) (cut_last (z ∷ zs) x)

module _ (there : List RowPage) (pages : Pages) (store : Store) (page : ℕ) (l : Lob)
    (at : LobAt there pages store page l) (single : IsSingle l) where
  pub split_at : Pieces ≡ left_in l.pieces l.index → Split l
  split_at left =
      let some = pieced l.pieces l.index left in
      let r = split_last some.0 some.1 (subst HaveNoOlder some.2 single.older) in
      record { ps = r.0; x = r.1; is = some.2 ∙ r.2; older = r.3 }

  pub can_free : (s : Split l) → CanFree l s.ps s.x pages
  can_free s = record {
    lob' = subst (λ (qs : List Piece). IsLob pages (with_pieces l qs)) s.is at.stands;
    map = at.map;
    used = subst (λ (qs : List Piece). AreUsed pages (lob_pages (with_pieces l qs))) s.is at.used;
  }

  pub piece_goes : (left : Pieces ≡ left_in l.pieces l.index) → (s : Split l) (new : Pages)
      → FreesPiece l s.ps s.x pages new → FreesPart there page l store new
  piece_goes left s new frees =
      let some = pieced l.pieces l.index left in
      let free = freed_nodes s.ps s.x.place l.free in
      let rest : all_but_last l.pieces ≡ s.ps =
      ap (λ (qs : List Piece). all_but_last qs) s.is ∙ cut_last s.ps (piece s.x []) in
      let lob : IsLob new (record (without_piece l) { free = free }) =
      subst (λ (qs : List Piece). IsLob new (record l { pieces = qs; free = free })) (sym rest)
      frees.lob' in
      let keeps : Keeps [] (lob_pages l) (lob_pages (record (without_piece l) { free = free })) pages new =
      subst (λ (qs : List Piece). Keeps [] (lob_pages (with_pieces l qs))
      (lob_pages (record (without_piece l) { free = free })) pages new) (sym s.is)
      (subst (λ (qs : List Piece). Keeps [] (lob_pages (ended l s.ps s.x))
      (lob_pages (with_pieces l qs)) pages new) (sym rest) frees.keeps) in
      record {
        free = free;
        stands = subst (λ (x : Store). StandsOn there new x)
            (sym (ap (λ (ps : List Piece). freed_part page free ps l.index store) some.2))
            (at.changed new (λ m. record (without_piece m) { free = free }) lob keeps);
        single = subst IsSingle
            (sym (ap (λ (ps : List Piece). freed_lob free ps l.index l) some.2))
            (record {
              older = subst HaveNoOlder (sym rest) s.older;
              bare = λ none. ap (λ (qs : List Piece). freed_nodes qs s.x.place l.free)
                  (sym rest ∙ none);
            });
      }

  pub piece_there : Pieces ≡ left_in l.pieces l.index → true ≡ has_part l.pieces l.index
  piece_there left =
      let some = pieced l.pieces l.index left in
      sym (ap (λ (ps : List Piece). has_part ps l.index) some.2)

  -- ---- an index page

  bare_at : Index ≡ left_in l.pieces l.index
      → (i : ℕ) × (more : List ℕ) × (l ≡ bare_lob l (i ∷ more))
  bare_at left =
      let some = indexed l.pieces l.index left in
      let free = single.bare some.2 in
      let whole : l ≡ record l { pieces = []; free = l.free; index = l.index } =
      ap (λ (ps : List Piece). let m : Lob = record l { pieces = ps } in m) some.2 in
      let freed : (let m : Lob = record l { pieces = []; free = l.free; index = l.index } in m)
      ≡ record l { pieces = []; free = []; index = l.index } =
      ap (λ (fs : List Address). let m : Lob = record l { pieces = []; free = fs } in m) free in
      let ends : (let m : Lob = record l { pieces = []; free = []; index = l.index } in m)
      ≡ record l { pieces = []; free = []; index = some.0 ∷ some.1 } =
      ap (λ (is : List ℕ). let m : Lob = record l { pieces = []; free = []; index = is } in m)
      some.3 in
      (some.0, some.1, whole ∙ freed ∙ ends)

  pub can_give : (left : Index ≡ left_in l.pieces l.index) → (i : ℕ) × (more : List ℕ)
      × (l ≡ bare_lob l (i ∷ more)) × CanGive l (i ∷ more) pages
  can_give left =
      let b = bare_at left in (
        b.0,
        b.1,
        b.2,
        record {
          lob' = subst (IsLob pages) b.2 at.stands;
          map = at.map;
          used = subst (λ (m : Lob). AreUsed pages (lob_pages m)) b.2 at.used;
        },
      )

  pub index_goes : (left : Index ≡ left_in l.pieces l.index) (i : ℕ) (more : List ℕ)
      → l ≡ bare_lob l (i ∷ more) → (new : Pages) → GivesIndexPage l i more pages new
      → FreesPart there page l store new
  index_goes left i more is new gives =
      let some = indexed l.pieces l.index left in
      let back : without_index l ≡ bare_lob l more = ap without_index is in
      let lob = subst (IsLob new) (sym back) gives.lob' in
      let keeps : Keeps [] (lob_pages l) (lob_pages (without_index l)) pages new =
      subst (λ (m : Lob). Keeps [] (lob_pages m) (lob_pages (without_index l)) pages new) (sym is)
      (subst (λ (m : Lob). Keeps [] (lob_pages (bare_lob l (i ∷ more))) (lob_pages m) pages new)
      (sym back) gives.keeps) in
      record {
        free = [];
        stands = subst (λ (x : Store). StandsOn there new x)
            (sym (ap (λ (ps : List Piece). freed_part page [] ps l.index store) some.2
            ∙ ap (λ (is : List ℕ). freed_part page [] [] is store) some.3))
            (at.changed new without_index lob keeps);
        single = subst IsSingle
            (sym (ap (λ (ps : List Piece). freed_lob [] ps l.index l) some.2
            ∙ ap (λ (is : List ℕ). freed_lob [] [] is l) some.3))
            (record { older = single.older; bare = single.bare });
      }

  pub index_there : Index ≡ left_in l.pieces l.index → true ≡ has_part l.pieces l.index
  index_there left =
      let some = indexed l.pieces l.index left in
      sym (ap (λ (ps : List Piece). has_part ps l.index) some.2
      ∙ ap (λ (is : List ℕ). has_part [] is) some.3)

  -- ---- nothing

  pub nothing_goes : Nothing ≡ left_in l.pieces l.index → StandsOn there pages store
      → FreesPart there page l store pages
  nothing_goes left on =
      let none = bare l.pieces l.index left in
      record {
        free = [];
        stands = subst (λ (x : Store). StandsOn there pages x)
            (sym (ap (λ (ps : List Piece). freed_part page [] ps l.index store) none.0
            ∙ ap (λ (is : List ℕ). freed_part page [] [] is store) none.1)) on;
        single = subst IsSingle
            (sym (ap (λ (ps : List Piece). freed_lob [] ps l.index l) none.0
            ∙ ap (λ (is : List ℕ). freed_lob [] [] is l) none.1)) single;
      }

  pub nothing_there : Nothing ≡ left_in l.pieces l.index → false ≡ has_part l.pieces l.index
  nothing_there left =
      let none = bare l.pieces l.index left in
      sym (ap (λ (ps : List Piece). has_part ps l.index) none.0
      ∙ ap (λ (is : List ℕ). has_part [] is) none.1)

-- ---- the first page

pub rest_pages : (l : Lob) (page : ℕ) → l.page ≡ page → l.pieces ≡ [] → l.index ≡ []
    → lob_pages l ≡ page ∷ []
rest_pages l page here pieces index =
    ap (λ (ps : List Piece). lob_pages (with_pieces l ps)) pieces
    ∙ ap (λ (is : List ℕ). lob_pages (record l { pieces = []; index = is })) index
    ∙ ap (λ (n : ℕ). n ∷ []) here

pub rest_goes : (there : List RowPage) (pages new : Pages) (store : Store) (page : ℕ) (l : Lob)
    → (at : LobAt there pages store page l) → l.pieces ≡ [] → l.index ≡ []
    → GivesFirst page pages new
    → Keeps [] (lob_pages l) [] pages new
rest_goes there pages new store page l at pieces index gives =
    subst (λ (ns : List ℕ). Keeps [] ns [] pages new)
    (sym (rest_pages l page at.here pieces index)) gives.keeps
