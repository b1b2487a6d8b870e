-- The parts of a LOB at a version, pieces that are copied, and searches, under the events of others.
use Rattle.std.proofs.Common.{◌≡◌, ℕ, zero, suc, List, [], ◌∷◌, drop, map, refl, sym, ap, ap₂, ◌∙◌}
use Rattle.std.specs.Prelude.{Option, Some, None}
use Rattle.page_model.specs.Pages.{Address}
use Rattle.store_data.specs.Pieces.{Part}
use Rattle.store_model.specs.Runs.{all_laid}
use Rattle.store_data.specs.Store.{Piece}
use Rattle.read_model.specs.Patches.{Entry, runs, back}
use Rattle.read_model.specs.Document.{part_at}
use Rattle.read_model.specs.Flight.{AreFirst, IsSearch, IsSearchIn, Stands}
use Rattle.read_model.specs.Events.{EachPiece, LeadsBack, IsPutBack, IsSame, IsMoved}
use Rattle.read_model.proofs.BackLemmas.{kept_by_record, laid_again}
use Rattle.read_model.proofs.VisibleLemmas.{heads, tails}

abbrev pub parts : ℕ → List Piece → List Part
parts v ps = map (part_at v) ps

-- lists of equal heads and equal tails are equal
pub cons : {A : Type 0} {x y : A} {xs ys : List A} → x ≡ y → xs ≡ ys → x ∷ xs ≡ y ∷ ys
cons {A = A} p q = ap₂ (λ (a : A) (l : List A). a ∷ l) p q

-- pieces that are related one by one are so behind the first n
pub each_drop : (P : Piece → Piece → Type 0) (n : ℕ) (xs ys : List Piece) → EachPiece P xs ys → EachPiece P (drop n xs) (drop n ys)
each_drop P zero xs ys each = each
each_drop P (suc n) [] [] each = tt
each_drop P (suc n) [] (y ∷ ys) each = absurd each
each_drop P (suc n) (x ∷ xs) [] each = absurd each
each_drop P (suc n) (x ∷ xs) (y ∷ ys) each = each_drop P n xs ys each.1

-- ---- parts

-- a record added: with its old bytes put back too, the parts at a version are as they were
pub parts_added : (e : Entry) (above : List Entry) (v : ℕ) (olds news : List Piece) → EachPiece (LeadsBack (runs e) v) olds news
    → map (back (e ∷ above)) (parts v news) ≡ map (back above) (parts v olds)
parts_added e above v [] [] each = refl
parts_added e above v [] (y ∷ ys) each = absurd each
parts_added e above v (x ∷ xs) [] each = absurd each
parts_added e above v (x ∷ xs) (y ∷ ys) each = cons (ap (back above) each.0.part) (parts_added e above v xs ys each.1)

-- a record undone: the parts at a version are, without its old bytes, as they were with these
pub parts_removed : (e : Entry) (rest : List Entry) (v : ℕ) (olds news : List Piece) → EachPiece (IsPutBack (runs e) v) olds news
    → map (back rest) (parts v news) ≡ map (back (e ∷ rest)) (parts v olds)
parts_removed e rest v [] [] each = refl
parts_removed e rest v [] (y ∷ ys) each = absurd each
parts_removed e rest v (x ∷ xs) [] each = absurd each
parts_removed e rest v (x ∷ xs) (y ∷ ys) each = cons (ap (back rest) each.0.part) (parts_removed e rest v xs ys each.1)

-- pieces that stay the same at a version have the same parts there, behind any records
pub parts_same : (above : List Entry) (v : ℕ) (olds news : List Piece) → EachPiece (IsSame v) olds news → map (back above) (parts v news) ≡ map (back above) (parts v olds)
parts_same above v [] [] each = refl
parts_same above v [] (y ∷ ys) each = absurd each
parts_same above v (x ∷ xs) [] each = absurd each
parts_same above v (x ∷ xs) (y ∷ ys) each = cons (ap (back above) each.0.part) (parts_same above v xs ys each.1)

-- the same where a node is freed
pub parts_moved : (node head : Address) (above : List Entry) (v : ℕ) (olds news : List Piece) → EachPiece (IsMoved node head v) olds news
    → map (back above) (parts v news) ≡ map (back above) (parts v olds)
parts_moved node head above v [] [] each = refl
parts_moved node head above v [] (y ∷ ys) each = absurd each
parts_moved node head above v (x ∷ xs) [] each = absurd each
parts_moved node head above v (x ∷ xs) (y ∷ ys) each = cons (ap (back above) each.0.part) (parts_moved node head above v xs ys each.1)

-- ---- what is copied

-- what is copied stays the first of what is to be shown where a record is added
pub copied_added : (e : Entry) (above : List Entry) (v : ℕ) (cs ss : List Part) (olds news : List Piece) → map (back above) (parts v olds) ≡ ss
    → EachPiece (LeadsBack (runs e) v) olds news → AreFirst above cs ss → AreFirst (e ∷ above) cs ss
copied_added e above v [] ss olds news now each first = tt
copied_added e above v (c ∷ cs) [] olds news now each first = first
copied_added e above v (c ∷ cs) (s ∷ ss) [] news now each first = absurd (nil_cons now)
  where
    nil_cons : [] ≡ s ∷ ss → ⊥
    nil_cons h = cc
copied_added e above v (c ∷ cs) (s ∷ ss) (x ∷ xs) [] now each first = absurd each
copied_added e above v (c ∷ cs) (s ∷ ss) (x ∷ xs) (y ∷ ys) now each first = (
  kept_by_record above (runs e) c (part_at v x) s first.0 (heads _ _ _ _ now)
      (ap (all_laid (runs e)) (sym each.0.part) ∙ laid_again (runs e) (part_at v y) ∙ each.0.part),
  copied_added e above v cs ss xs ys (tails _ _ _ _ now) each.1 first.1,
)

-- the same where a record is undone, and its old bytes are put back in what is copied
pub copied_removed : (e : Entry) (rest : List Entry) (cs ss : List Part) → AreFirst (e ∷ rest) cs ss → AreFirst rest (map (all_laid (runs e)) cs) ss
copied_removed e rest [] ss first = tt
copied_removed e rest (c ∷ cs) [] first = first
copied_removed e rest (c ∷ cs) (s ∷ ss) first = (first.0, copied_removed e rest cs ss first.1)

-- a record's old bytes, put back in what is copied, stand for the record
pub map_removed : (e : Entry) (rest : List Entry) (cs : List Part) → map (back rest) (map (all_laid (runs e)) cs) ≡ map (back (e ∷ rest)) cs
map_removed e rest [] = refl
map_removed e rest (c ∷ cs) = cons refl (map_removed e rest cs)

-- ---- searches

-- a search that is at a piece's head stands right, in any pieces
pub search_none : (v : ℕ) (ps : List Piece) → IsSearchIn v None ps
search_none v [] = tt
search_none v (p ∷ ps) = tt

-- a search in the first piece stays right in related pieces, where the relation keeps it in one
pub search_by : (P : Piece → Piece → Type 0) (v : ℕ) (node : Option Address) (xs ys : List Piece)
    → ((x y : Piece) → P x y → IsSearch v node x → IsSearch v node y) → EachPiece P xs ys → IsSearchIn v node xs → IsSearchIn v node ys
search_by P v at [] [] on each search = tt
search_by P v at [] (y ∷ ys) on each search = absurd each
search_by P v at (x ∷ xs) [] on each search = absurd each
search_by P v at (x ∷ xs) (y ∷ ys) on each search = on x y each.0 search

-- the same behind the first n pieces, where each node that a search may stand at stays one
pub search_kept : (P : Piece → Piece → Type 0) (v : ℕ) (node : Option Address) (n : ℕ) (xs ys : List Piece)
    → ((x y : Piece) → P x y → (a : Address) → Stands v a (x.head ∷ x.older) → Stands v a (y.head ∷ y.older))
    → EachPiece P xs ys → IsSearchIn v node (drop n xs) → IsSearchIn v node (drop n ys)
search_kept P v node n xs ys on each search = search_by P v node _ _ (by_node node) (each_drop P n xs ys each) search
  where
    by_node : (node : Option Address) (x y : Piece) → P x y → IsSearch v node x → IsSearch v node y
    by_node None x y p h = tt
    by_node (Some a) x y p h = on x y p a h
