-- The list of heads, and a LOB that is being built.
use Rattle.std.proofs.Common.{◌≡◌, ℕ, ◌+◌, ◌*◌, ◌<◌, ◌≤◌, List, [], ◌∷◌, ◌++◌, length, map, refl, sym, ap, ◌∙◌, lit≤, arith}
use Rattle.std.proofs.lemmas.List.{length-append, length-map}
use Rattle.page_model.specs.Pages.{Pages, Address}
use Rattle.page_model.specs.Spans.{IsApartFromAll, SameOutside}
use Rattle.page_model.specs.Lists.{list_spans, base_span, node_span}
use Rattle.page_model.specs.Counts.{has}
use Rattle.page_model.proofs.CoverLemmas.{has_less, covers_cons, covers_nil, covers_once, map_covers, map_wide, from_all_by}
use Rattle.store_data.specs.Store.{Version, Piece, Lob}
use Rattle.lob_model.specs.Pieces.{head_place, AreFull}
use Rattle.lob_model.specs.Places.{heads_base, entry_span, IsSteady, first_entries, index_entries, all_index_entries}
use Rattle.lob_model.specs.Begin.{IsBuilding, HaveNoOlder}
use Rattle.lob_model.specs.Lobs.{IsLobBut, IsShaped, lob_parts, lob_spans}
use Rattle.lob_model.proofs.AddLemmas.{alone}
use Rattle.lob_model.proofs.BeginLemmas.{long_from}
use Rattle.lob_model.proofs.CutLemmas.{heads_covered}
use Rattle.lob_model.proofs.FreeLemmas.{parts_covers}
use Rattle.lob_model.proofs.NodeLemmas.{within_pages}
use Rattle.lob_index.specs.Taking.{index_taken, free_with}
use Rattle.lob_bytes.specs.Growth.{IsNext, grown}

-- ---- the list of heads

-- the node is apart from the list of heads
pub heads_elsewhere : (pages : Pages) (lob : Lob) (node : Address) → IsLobBut pages lob (node ∷ []) → IsApartFromAll (list_spans (heads_base lob.page) (map head_place lob.pieces)) (node_span node)
heads_elsewhere pages lob node is =
    let once = covers_once (lob_parts lob (node ∷ [])) is.shape.apart in
    let hb = base_span (heads_base lob.page) in
    let heads = map head_place lob.pieces in
    from_all_by (list_spans (heads_base lob.page) heads) (node_span node) (lit≤ tt, map_wide node_span heads (λ a. lit≤ tt)) (lit≤ tt) (λ n k.
    omega (arith, once n k, node_inside node n k, parts_covers lob (node ∷ []) n k, covers_cons hb (map node_span heads) n k, heads_covered lob.pieces n k, map_covers entry_span lob.free (node ∷ []) n k, covers_cons (entry_span node) [] n k, covers_nil n k))
  where
    node_inside : (a : Address) (n k : ℕ) → has (node_span a) n k ≤ has (entry_span a) n k
    node_inside a n k = has_less (node_span a) (entry_span a) n k (λ at. let low = at.1 in let high = at.2 in (at.0, low, omega arith))

-- what is written in the node's entry and in the list of heads lies in the LOB's pages
pub entry_inside : (old new : Pages) (lob : Lob) (node : Address) → IsLobBut old lob (node ∷ []) → SameOutside (entry_span node ∷ []) old new → SameOutside (lob_spans lob) old new
entry_inside old new lob node is same =
    within_pages (entry_span node ∷ []) old new lob (node ∷ []) is.shape
    (λ n k. omega (arith, covers_cons (entry_span node) [] n k, covers_nil n k, parts_covers lob (node ∷ []) n k, map_covers entry_span lob.free (node ∷ []) n k)) same

pub list_inside : (old new : Pages) (lob : Lob) (node : Address) → IsShaped lob (node ∷ []) → SameOutside (list_spans (heads_base lob.page) (map head_place lob.pieces ++ node ∷ [])) old new → SameOutside (lob_spans lob) old new
list_inside old new lob node shape same =
    let hb = base_span (heads_base lob.page) in
    let heads = map head_place lob.pieces in
    within_pages (list_spans (heads_base lob.page) (heads ++ node ∷ [])) old new lob (node ∷ []) shape
    (λ n k. omega (
      arith,
      covers_cons hb (map node_span (heads ++ node ∷ [])) n k,
      map_covers node_span heads (node ∷ []) n k,
      covers_cons (node_span node) [] n k,
      covers_cons (entry_span node) [] n k,
      covers_nil n k,
      has_less (node_span node) (entry_span node) n k (λ at. let low = at.1 in let high = at.2 in (at.0, low, omega arith)),
      heads_covered lob.pieces n k,
      parts_covers lob (node ∷ []) n k,
      map_covers entry_span lob.free (node ∷ []) n k,
    )) same

-- ---- while a LOB is built

pub steady_front : (k page : ℕ) (ys zs : List Address) → IsSteady k page (ys ++ zs) → IsSteady k page ys
steady_front k page [] zs steady = tt
steady_front k page (y ∷ ys) zs steady = (steady.0, steady_front (k + 1) y.page ys zs steady.1)

assoc : (xs ys zs : List Address) → (xs ++ ys) ++ zs ≡ xs ++ (ys ++ zs)
assoc [] ys zs = refl
assoc (x ∷ xs) ys zs = ap (λ (us : List Address). x ∷ us) (assoc xs ys zs)

nil : (xs : List Address) → xs ++ [] ≡ xs
nil [] = refl
nil (x ∷ xs) = ap (λ (us : List Address). x ∷ us) (nil xs)

pub heads_added : (ps : List Piece) (x : Version) → map head_place (ps ++ alone x ∷ []) ≡ map head_place ps ++ x.place ∷ []
heads_added [] x = refl
heads_added (p ∷ ps) x = ap (λ (ys : List Address). head_place p ∷ ys) (heads_added ps x)

no_older : (ps : List Piece) (x : Version) → HaveNoOlder ps → HaveNoOlder (ps ++ alone x ∷ [])
no_older [] x none = (refl, tt)
no_older (p ∷ ps) x none = (none.0, no_older ps x none.1)

-- the entries in the order of their pages, where an index page is made if no node is free
order_with : (lob : Lob) (page : ℕ) → IsBuilding lob → map head_place lob.pieces ++ free_with page lob.free ≡ first_entries lob.page ++ all_index_entries (index_taken page lob.free ++ lob.index)
order_with lob page is = by lob.free is.entries
  where
    by : (xs : List Address) → map head_place lob.pieces ++ xs ≡ first_entries lob.page ++ all_index_entries lob.index → map head_place lob.pieces ++ free_with page xs ≡ first_entries lob.page ++ all_index_entries (index_taken page xs ++ lob.index)
    by [] all =
        ap (λ (us : List Address). us ++ index_entries page) (sym (nil (map head_place lob.pieces)) ∙ all) ∙ assoc (first_entries lob.page) (all_index_entries lob.index) (index_entries page)
    by (x ∷ xs) all = all

pub still_building : (lob : Lob) (page : ℕ) (node : Address) (rest : List Address) (x : Version) → x.place ≡ node → free_with page lob.free ≡ node ∷ rest → IsBuilding lob → IsBuilding (grown lob page rest x)
still_building lob page node rest x here first is = record {
  entries =
      ap (λ (us : List Address). us ++ rest) (heads_added lob.pieces x) ∙ assoc (map head_place lob.pieces) (x.place ∷ []) rest ∙ ap (λ (a : Address). map head_place lob.pieces ++ a ∷ rest) here
      ∙ ap (λ (us : List Address). map head_place lob.pieces ++ us) (sym first) ∙ order_with lob page is;
  older = no_older lob.pieces x is.older;
}

long_index : (index : List ℕ) → length (all_index_entries index) ≡ 272 * length index
long_index [] = refl
long_index (n ∷ more) = omega (arith, length-append (all_index_entries more) (index_entries n), long_index more, long_from n 39 272)

pub few_behind : (lob : Lob) (page : ℕ) → IsBuilding lob → length lob.index ≤ 4 → length lob.pieces < 1_098 → length (index_taken page lob.free ++ lob.index) ≤ 4
few_behind lob page is few short = by lob.free refl
  where
    by : (xs : List Address) → lob.free ≡ xs → length (index_taken page xs ++ lob.index) ≤ 4
    by [] free =
        let L : List Address → ℕ = λ us. length us in
        let e = ap L is.entries in
        let f = ap L free in
        omega (
          arith,
          e,
          f,
          short,
          few,
          length-append (map head_place lob.pieces) lob.free,
          length-map lob.pieces head_place,
          length-append (first_entries lob.page) (all_index_entries lob.index),
          long_from lob.page 96 10,
          long_index lob.index,
        )
    by (x ∷ xs) free = omega (arith, few)

pub next_full : (room others : ℕ) (ps : List Piece) (x : Version) → IsNext room others ps x.bytes → AreFull room others (ps ++ alone x ∷ [])
next_full room others [] x next = (next, tt)
next_full room others (p ∷ []) x next = (next.0, next_full others others [] x next.1)
next_full room others (p ∷ q ∷ ps) x next = (next.0, next_full others others (q ∷ ps) x next.1)

-- the list of heads has room
pub few_heads : (lob : Lob) → length lob.pieces < 1_098 → length (map head_place lob.pieces) + 1 < 4_294_967_296
few_heads lob few = omega (arith, few, length-map lob.pieces head_place)
