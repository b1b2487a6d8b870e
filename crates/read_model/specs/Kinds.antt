-- What the events of each kind of change ask for, so that a read under way is kept.
--     with_change, without_change, on_lobs      a document with a record more, with one less, with
--         other LOBs
--     IsPlan      a change of a transaction that the view doesn't see
--     IsElsewhere, IsOlder      the row that the view sees has another LOB; or an older version
--         than n of it
--     MayDrop, PopsFrom, IsPushed, HasNoNode      of a piece
use Rattle.std.specs.Prelude.{◌≡◌, ◌≢◌, ◌⊎◌, ℕ, zero, suc, ◌<◌, ◌≤◌, List, [], ◌∷◌, Some, false}
use Rattle.page_model.specs.Pages.{Address}
use Rattle.store_data.specs.Pieces.{all_but_last}
use Rattle.store_data.specs.Store.{Row, live, Version, Piece, Lob}
use Rattle.read_model.specs.Patches.{Entry}
use Rattle.read_model.specs.Document.{Document, Sees, IsVisible, pieces_at}

abbrev pub with_change : Entry → Row → (List Lob → List Lob) → Document → Document
with_change e row f doc = record { row = row; records = e ∷ doc.records; lobs = f doc.lobs }

abbrev pub without_change : Entry → List Entry → (List Lob → List Lob) → Document → Document
without_change e rest f doc = record { row = e.1.before; records = rest; lobs = f doc.lobs }

abbrev pub on_lobs : (List Lob → List Lob) → Document → Document
on_lobs f doc = record doc { lobs = f doc.lobs }

pub record IsPlan (sees : Sees) (doc : Document) (e : Entry) (row : Row) : Type 0 where
  pub unseen : sees row.trx ≡ false
  pub led : row.roll ≡ Some e.0
  pub before : e.1.before ≡ doc.row

abbrev pub IsElsewhere : Sees → Document → ℕ → Type 0
IsElsewhere sees doc page =
    (above older : List Entry) (v : Row) → IsVisible sees doc above older v → v.state ≡ live
    → v.lob.page ≢ page

abbrev pub IsOlder : Sees → Document → ℕ → ℕ → Type 0
IsOlder sees doc page n =
    (above older : List Entry) (v : Row) → IsVisible sees doc above older v → v.state ≡ live
    → v.lob.page ≡ page → v.lob.version < n

-- one of these is at most version v
abbrev pub HasOne : ℕ → List Version → Type 0
HasOne v [] = ⊥
HasOne v (x ∷ xs) = (x.number ≤ v) ⊎ HasOne v xs

-- what purge may drop: without the oldest version the piece still has one that is at most v
abbrev pub MayDrop : ℕ → Piece → Type 0
MayDrop v p = HasOne v (p.head ∷ all_but_last p.older)

-- none of these stands at the place
abbrev pub IsNoPlace : Address → List Version → Type 0
IsNoPlace a [] = Unit {0}
IsNoPlace a (x ∷ xs) = (x.place ≢ a) × IsNoPlace a xs

abbrev pub AtOthers : (Piece → Type 0) → List Piece → Type 0
AtOthers Q [] = Unit {0}
AtOthers Q (p ∷ ps) = Q p × AtOthers Q ps

-- P holds of the k-th, and Q of the others
abbrev pub AtOne : ℕ → (Piece → Type 0) → (Piece → Type 0) → List Piece → Type 0
AtOne k P Q [] = Unit {0}
AtOne zero P Q (p ∷ ps) = P p × AtOthers Q ps
AtOne (suc k) P Q (p ∷ ps) = Q p × AtOne k P Q ps

-- a head above version v is popped, and frees the node
pub record PopsFrom (v : ℕ) (node head : Address) (p : Piece) : Type 0 where
  pub first : Version
  pub rest : List Version
  pub older : p.older ≡ first ∷ rest
  pub node_is : first.place ≡ node
  pub head_is : p.head.place ≡ head
  pub newer : v < p.head.number

abbrev pub HasNoNode : Address → Piece → Type 0
HasNoNode node p = IsNoPlace node (p.head ∷ p.older)

-- the k-th piece of the LOB is popped: where the view sees that LOB, from above its version. The
-- node is no other piece's
abbrev pub MayPop : Sees → Document → ℕ → ℕ → Address → Address → Type 0
MayPop sees doc page k node head =
    (above older : List Entry) (v : Row) → IsVisible sees doc above older v → v.state ≡ live
    → (v.lob.page ≡ page → AtOne k (PopsFrom v.lob.version node head) (HasNoNode node)
    (pieces_at doc.lobs page))
    × (v.lob.page ≢ page → AtOthers (HasNoNode node) (pieces_at doc.lobs v.lob.page))

abbrev pub MayDropAt : Sees → Document → ℕ → ℕ → Type 0
MayDropAt sees doc page k =
    (above older : List Entry) (v : Row) → IsVisible sees doc above older v → v.state ≡ live
    → v.lob.page ≡ page → AtOne k (MayDrop v.lob.version) (λ p. Unit {0}) (pieces_at doc.lobs page)

-- a head of just this version number is popped, and frees the node
pub record IsPushed (n : ℕ) (node head : Address) (p : Piece) : Type 0 where
  pub first : Version
  pub rest : List Version
  pub older : p.older ≡ first ∷ rest
  pub node_is : first.place ≡ node
  pub head_is : p.head.place ≡ head
  pub number : p.head.number ≡ n
