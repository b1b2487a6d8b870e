-- The oldest version of a piece goes.
use Rattle.std.proofs.Common.{◌≡◌, ◌⊎◌, inl, inr, ℕ, ◌<◌, ◌≤◌, Bool, true, false, if◌then◌else◌, List, [], ◌∷◌, ◌++◌, Option, Some, refl, sym, ap, subst, ◌∙◌}
use Rattle.std.proofs.lemmas.Bool.{le-leb, lt-leb}
use Rattle.page_model.specs.Pages.{Pages, Address}
use Rattle.store_data.specs.Pieces.{dropped}
use Rattle.store_data.specs.Store.{Version, Piece, Lob, Store}
use Rattle.lob_model.specs.Changes.{with_pieces}
use Rattle.lob_model.specs.Lobs.{IsLob, lob_pages}
use Rattle.lob_index.specs.Use.{AreUsed}
use Rattle.lob_versions.specs.Versions.{HasPiece, LosesVersion}
use Rattle.undo_model.specs.Rows.{RowPage}
use Rattle.store_model.specs.Lobs.{lob_of, pieces_of}
use Rattle.store_model.specs.Steps.{last_in, at_piece, on_piece}
use Rattle.store_model.specs.Takes.{piece_of}
use Rattle.store_model.specs.Undo.{version_dropped}
use Rattle.store_pages.proofs.PushStoreLemmas.{on_piece_at}
use Rattle.store_parts.specs.Keeps.{Keeps}
use Rattle.purge.specs.Events.{is_oldest_to, loses_version, version_gone}
use Rattle.store_steps.specs.Standing.{StandsOn}
use Rattle.purge.specs.Versions.{DropsVersion}
use Rattle.store_steps.proofs.CutLemmas.{Cut}
use Rattle.store_steps.proofs.LobLemmas.{LobAt}

-- ---- its oldest version

pub ends : (vs : List Version)
    → (vs ≡ []) ⊎ ((ys : List Version) × (x : Version) × (vs ≡ ys ++ x ∷ []))
ends [] = inl refl
ends (v ∷ []) = inr ([], v, refl)
ends (v ∷ w ∷ ws) = elim (ends (w ∷ ws)) [
  | inl none ↦ absurd (let e : w ∷ ws ≡ [] = none in cc)
  | inr found ↦ inr (v ∷ found.0, found.1, ap (λ (vs : List Version). v ∷ vs) found.2)
]

last_of : (ys : List Version) (x : Version) → last_in (ys ++ x ∷ []) ≡ x ∷ []
last_of [] x = refl
last_of (y ∷ []) x = refl
last_of (y ∷ z ∷ zs) x = last_of (z ∷ zs) x

-- whether it goes
gone_by : (page k v : ℕ) (free : List Address) (store : Store) (l : Lob) (p : Piece) (b : Bool)
    → lob_of store.lobs page ≡ Some l → piece_of k l.pieces ≡ Some p
    → loses_version v (Some p) ≡ b → version_gone page k v free store
    ≡ (if b then version_dropped page k free store else store)
gone_by page k v free store l p b found there is =
    ap (λ (x : Bool). if x then version_dropped page k free store else store)
    (ap (λ (o : Option Lob). loses_version v (piece_of k (pieces_of o))) found
    ∙ ap (loses_version v) there ∙ is)

module _ (there : List RowPage) (pages : Pages) (store : Store) (page : ℕ) (l : Lob)
    (at : LobAt there pages store page l) (found : lob_of store.lobs page ≡ Some l) (k : ℕ)
    (head : Address) (cut : Cut k l.pieces head) where
  pub has_piece : (told : Option Pages) → told ≡ Some pages
      → HasPiece told page head pages l cut.bs cut.p cut.cs
  has_piece told is = record {
    told' = is;
    lob' = subst (λ (qs : List Piece). IsLob pages (with_pieces l qs)) cut.is at.stands;
    first' = at.here;
    head' = cut.here;
    map' = at.map;
    used = subst (λ (qs : List Piece). AreUsed pages (lob_pages (with_pieces l qs))) cut.is at.used;
  }

  -- it goes
  pub version_goes : (v : ℕ) (ys : List Version) (x : Version) → cut.p.older ≡ ys ++ x ∷ []
      → x.number ≤ v → (new : Pages)
      → LosesVersion l cut.bs cut.p (dropped cut.p) cut.cs x.place x.page pages new
      → DropsVersion there page k v store new
  version_goes v ys x older low new loses =
      let free = x.place ∷ l.free in
      let test : loses_version v (Some cut.p) ≡ true =
      ap (λ (vs : List Version). is_oldest_to v (last_in vs)) older
      ∙ ap (is_oldest_to v) (last_of ys x) ∙ le-leb x.number v low in
      let moved : on_piece k dropped l.pieces ≡ cut.bs ++ dropped cut.p ∷ cut.cs =
      ap (on_piece k dropped) cut.is
      ∙ ap (λ (n : ℕ). on_piece n dropped (cut.bs ++ cut.p ∷ cut.cs)) (sym cut.many)
      ∙ on_piece_at dropped cut.bs cut.p cut.cs in
      let lob : IsLob new (record (at_piece k dropped l) { free = free }) =
      subst (λ (qs : List Piece). IsLob new (record l { pieces = qs; free = free })) (sym moved)
      loses.lob' in
      let keeps : Keeps [] (lob_pages l) (lob_pages (record (at_piece k dropped l) { free = free }))
      pages new =
      subst (λ (qs : List Piece). Keeps [] (lob_pages (with_pieces l qs))
      (lob_pages (record (at_piece k dropped l) { free = free })) pages new) (sym cut.is)
      (subst (λ (qs : List Piece). Keeps [] (lob_pages (with_pieces l (cut.bs ++ cut.p ∷ cut.cs)))
      (lob_pages (with_pieces l qs)) pages new) (sym moved) loses.keeps) in (
        free,
        subst (λ (s : Store). StandsOn there new s)
            (sym (gone_by page k v free store l cut.p true found cut.there test))
            (at.changed new (λ m. record (at_piece k dropped m) { free = free }) lob keeps),
      )

  -- it stays
  pub version_stays : (v : ℕ) → loses_version v (Some cut.p) ≡ false → StandsOn there pages store
      → DropsVersion there page k v store pages
  version_stays v test on = (
    [],
    subst (λ (s : Store). StandsOn there pages s)
        (sym (gone_by page k v [] store l cut.p false found cut.there test)) on,
  )

  pub none_stays : (v : ℕ) → cut.p.older ≡ [] → loses_version v (Some cut.p) ≡ false
  none_stays v none = ap (λ (vs : List Version). is_oldest_to v (last_in vs)) none

  pub newer_stays : (v : ℕ) (ys : List Version) (x : Version) → cut.p.older ≡ ys ++ x ∷ []
      → v < x.number → loses_version v (Some cut.p) ≡ false
  newer_stays v ys x older high = ap (λ (vs : List Version). is_oldest_to v (last_in vs)) older
      ∙ ap (is_oldest_to v) (last_of ys x) ∙ lt-leb x.number v high
