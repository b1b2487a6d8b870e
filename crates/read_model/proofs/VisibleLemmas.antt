-- What a view sees of a document, under the events of others.
use Rattle.std.proofs.Common.{◌≡◌, ◌≢◌, Bool, true, false, List, [], ◌∷◌, ◌++◌, map, refl, sym, ap, ap₂, subst, ◌∙◌}
use Rattle.std.specs.Prelude.{Option, Some, None}
use Rattle.std.proofs.lemmas.Bool.{false≢true}
use Rattle.store_data.specs.Pieces.{Part}
use Rattle.store_data.specs.Store.{Row, RowState, absent, live, deleted, Lob}
use Rattle.read_model.specs.Patches.{Entry, back}
use Rattle.read_model.specs.Document.{Document, Sees, IsSeen, IsVisible, content, parts_at, above_of, visible_of, under}
use Rattle.read_model.specs.Flight.{row_behind}
use Rattle.read_model.specs.Events.{Adds, Passes}

-- equal lists have equal heads
pub heads : {A : Type 0} (x y : A) (xs ys : List A) → x ∷ xs ≡ y ∷ ys → x ≡ y
heads {A = A} x y xs ys e = ap (λ (l : List A). first l) e
  where
    first : List A → A
    first [] = x
    first (z ∷ zs) = z

-- equal lists have equal tails
pub tails : {A : Type 0} (x y : A) (xs ys : List A) → x ∷ xs ≡ y ∷ ys → xs ≡ ys
tails {A = A} x y xs ys e = ap (λ (l : List A). rest l) e
  where
    rest : List A → List A
    rest [] = []
    rest (z ∷ zs) = zs

-- nothing is both true and false
pub never : {b : Bool} → b ≡ true → b ≡ false → ⊥
never h k = false≢true (sym k ∙ h)

-- ---- one view

-- the view sees the row that the records lead to
pub seen_row : (sees : Sees) (row : Row) (above : List Entry) (v : Row) → IsSeen sees row above v → sees v.trx ≡ true
seen_row sees row [] v walk = walk.1
seen_row sees row (e ∷ es) v walk = seen_row sees e.1.before es v walk.2

-- from a row of the chain on
pub seen_from : (sees : Sees) (row : Row) (passed rest : List Entry) (v : Row) → IsSeen sees row (passed ++ rest) v → IsSeen sees (row_behind row passed) rest v
seen_from sees row [] rest v walk = walk
seen_from sees row (e ∷ es) rest v walk = seen_from sees e.1.before es rest v walk.2

-- a row that the view sees is the visible one
pub seen_at_once : (sees : Sees) (row : Row) (above : List Entry) (v : Row) → IsSeen sees row above v → sees row.trx ≡ true → above ≡ []
seen_at_once sees row [] v walk seen = refl
seen_at_once sees row (e ∷ es) v walk seen = absurd (never seen walk.0)

-- where the view sees the newest row, that is the row which it sees of the document
pub seen_top : (sees : Sees) (row : Row) (above : List Entry) (v : Row) → IsSeen sees row above v → sees row.trx ≡ true → row ≡ v
seen_top sees row [] v walk seen = walk.0
seen_top sees row (e ∷ es) v walk seen = absurd (never seen walk.0)

-- what is visible is so by the functions
above_is : (sees : Sees) (row : Row) (above older : List Entry) (v : Row) → IsSeen sees row above v → above_of sees row (above ++ older) ≡ above
above_is sees row [] [] v walk = refl
above_is sees row [] (x ∷ xs) v walk = rw (ap (λ (r : Row). sees r.trx) walk.0 ∙ walk.1) refl
above_is sees row (e ∷ es) older v walk = rw walk.0 (ap (λ (l : List Entry). e ∷ l) (above_is sees e.1.before es older v walk.2))

visible_is : (sees : Sees) (row : Row) (above older : List Entry) (v : Row) → IsSeen sees row above v → visible_of sees row (above ++ older) ≡ v
visible_is sees row [] [] v walk = walk.0
visible_is sees row [] (x ∷ xs) v walk = rw (ap (λ (r : Row). sees r.trx) walk.0 ∙ walk.1) walk.0
visible_is sees row (e ∷ es) older v walk = rw walk.0 (visible_is sees e.1.before es older v walk.2)

-- what a view sees of a document is the content of the visible row
pub under_is : (sees : Sees) (doc : Document) (above older : List Entry) (v : Row) → IsVisible sees doc above older v → under sees doc ≡ content doc.lobs v above
under_is sees doc above older v visible =
    ap₂ (λ (r : Row) (l : List Entry). content doc.lobs r l)
    (ap (visible_of sees doc.row) visible.records ∙ visible_is sees doc.row above older v visible.walk)
    (ap (above_of sees doc.row) visible.records ∙ above_is sees doc.row above older v visible.walk)

-- ---- content

by_state : (s : RowState) (a b : List Part) → (s ≡ live → a ≡ b)
    → (elim s as (λ s. Option (List Part)) [ absent ↦ None | live ↦ Some a | deleted ↦ None ]) ≡ elim s as (λ s. Option (List Part)) [ absent ↦ None | live ↦ Some b | deleted ↦ None ]
by_state absent a b same = refl
by_state live a b same = ap (λ (l : List Part). Some l) (same refl)
by_state deleted a b same = refl

-- a row's content stays where the parts of a live one do, with old bytes put back
pub content_same : (lobs lobs' : List Lob) (v : Row) (above above' : List Entry)
    → (v.state ≡ live → map (back above') (parts_at lobs' v.lob) ≡ map (back above) (parts_at lobs v.lob))
    → content lobs' v above' ≡ content lobs v above
content_same lobs lobs' v above above' same = by_state v.state _ _ same

-- a live row's content is its LOB at its version, with old bytes put back
pub content_live : (lobs : List Lob) (v : Row) (above : List Entry) → v.state ≡ live → content lobs v above ≡ Some (map (back above) (parts_at lobs v.lob))
content_live lobs v above h = rw h refl

-- a row that isn't live has no content
pub content_none : (lobs : List Lob) (v : Row) (above : List Entry) → v.state ≢ live → content lobs v above ≡ None
content_none lobs v above h = by_none v.state (map (back above) (parts_at lobs v.lob)) h
  where
    by_none : (s : RowState) (a : List Part) → s ≢ live → (elim s as (λ s. Option (List Part)) [ absent ↦ None | live ↦ Some a | deleted ↦ None ]) ≡ None
    by_none absent a h = refl
    by_none live a h = absurd (h refl)
    by_none deleted a h = refl

-- ---- events

-- a record added stands above the row that the view sees, which stays
pub added : (sees : Sees) (old new : Document) (e : Entry) (above older : List Entry) (v : Row) → Adds sees old new e → IsVisible sees old above older v
    → IsVisible sees new (e ∷ above) older v
added sees old new e above older v a visible = record {
  records = a.records ∙ ap (λ (l : List Entry). e ∷ l) visible.records;
  walk = (a.unseen, a.led, subst (λ (r : Row). IsSeen sees r above v) (sym a.before) visible.walk);
}

-- what is left of the records above the visible row, where the newest goes
pub record IsRest (sees : Sees) (above older left : List Entry) (e : Entry) (v : Row) (rest : List Entry) : Type 0 where
  pub is : above ≡ e ∷ rest
  pub records : left ≡ rest ++ older
  pub walk : IsSeen sees e.1.before rest v

-- where the view doesn't see the newest row, the records without the newest lead to the same row
pub removed : (sees : Sees) (row : Row) (left : List Entry) (e : Entry) (above older : List Entry) (v : Row) → sees row.trx ≡ false
    → e ∷ left ≡ above ++ older → IsSeen sees row above v → (rest : List Entry) × IsRest sees above older left e v rest
removed sees row left e [] older v unseen records walk = absurd (never (ap (λ (r : Row). sees r.trx) walk.0 ∙ walk.1) unseen)
removed sees row left e (x ∷ xs) older v unseen records walk =
    let same : e ≡ x = heads e x left (xs ++ older) records in (
      xs,
      record {
        is = ap (λ (y : Entry). y ∷ xs) (sym same);
        records = tails e x left (xs ++ older) records;
        walk = subst (λ (y : Entry). IsSeen sees y.1.before xs v) (sym same) walk.2;
      },
    )

-- purge goes past records below the visible row alone
pub passed_by : (sees : Sees) (row : Row) (front gone above older : List Entry) (v : Row) → sees (row_behind row front).trx ≡ true
    → front ++ gone ≡ above ++ older → IsSeen sees row above v → (left : List Entry) × (front ≡ above ++ left)
passed_by sees row front gone [] older v seen records walk = (front, refl)
passed_by sees row [] gone (x ∷ xs) older v seen records walk = absurd (never seen walk.0)
passed_by sees row (y ∷ ys) gone (x ∷ xs) older v seen records walk =
    let same : y ≡ x = heads y x (ys ++ gone) (xs ++ older) records in
    let rest = passed_by sees x.1.before ys gone xs older v (subst (λ (z : Entry). sees (row_behind z.1.before ys).trx ≡ true) same seen)
    (tails y x (ys ++ gone) (xs ++ older) records) walk.2 in
    (rest.0, ap₂ (λ (z : Entry) (l : List Entry). z ∷ l) same rest.1)

-- where purge goes past records, the view sees the same row, behind the same records
pub passed : (sees : Sees) (old new : Document) (above older : List Entry) (v : Row) → Passes sees old new → IsVisible sees old above older v
    → (left : List Entry) × IsVisible sees new above left v
passed sees old new above older v p visible =
    let rest = passed_by sees old.row new.records p.gone above older v p.seen (sym p.records ∙ visible.records) visible.walk in
    (rest.0, record { records = rest.1; walk = subst (λ (r : Row). IsSeen sees r above v) (sym p.row) visible.walk })
