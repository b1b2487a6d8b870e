-- The last piece given up, call by call.
use Rattle.std.proofs.Common.{◌≡◌, ◌≢◌, ◌⊎◌, inl, inr, ℕ, ◌+◌, ◌<◌, Bool, true, false, List, [], ◌∷◌, ◌++◌, ◌≤◌, length, map, Option, Some, IfSome, refl, sym, ap, subst, ◌∙◌, lit≤, arith}
use Rattle.page_model.specs.Pages.{Pages, Address}
use Rattle.page_model.specs.Spans.{SameOutside}
use Rattle.page_model.specs.Lists.{base_span}
use Rattle.page_model.specs.Counts.{times}
use Rattle.page_model.specs.Steps.{PageState, IsWithin, MayUse, Uses, Reaches, Becomes}
use Rattle.page_model.proofs.CountLemmas.{times-append}
use Rattle.page_model.proofs.CoverLemmas.{covers_cons, covers_nil}
use Rattle.page_model.proofs.StepLemmas.{uses_bound, may_within, may_name, uses_more, uses_within, uses_unnamed, uses_at_most, within_right, within_one, within_two, within_both}
use Rattle.engine_base.specs.Faults.{IsHonest}
use Rattle.engine_base.specs.declared.fault.Fault.{Fault}
use Rattle.engine_base.specs.declared.fault.Fault.TheVariants.{Device, Strange}
use Rattle.file_lists.specs.Changes.{MakesBase, ChangesList}
use Rattle.file_lists.specs.Strange.{IsBare, IsOddLink, IsOddBefore}
use Rattle.page_space.specs.Map.{IsUsed, IsMap}
use Rattle.store_data.specs.Store.{Version, Piece, Lob}
use Rattle.lob_model.specs.Pieces.{versions, head_place}
use Rattle.lob_model.specs.Places.{heads_base, free_base}
use Rattle.lob_model.specs.Changes.{with_pieces, Freeing}
use Rattle.lob_model.specs.Lobs.{IsLob, IsLobBut, lob_pages, lob_spans, data_pages}
use Rattle.lob_model.proofs.AddLemmas.{alone, versions_added}
use Rattle.lob_model.proofs.FreeLemmas.{parts_covers}
use Rattle.lob_model.proofs.LastLemmas.{freed_stands, emptied_stands}
use Rattle.lob_model.proofs.NodeLemmas.{within_pages}
use Rattle.lob_index.specs.Nodes.{GivesNode}
use Rattle.lob_index.specs.Data.{GivesData}
use Rattle.lob_index.proofs.OwnLemmas.{pages_of, same_twice, same_fewer, map_same}
use Rattle.lob_index.proofs.GivenLemmas.{data_split, data_used, page_given}
use Rattle.lob_bytes.specs.Freeing.{ended, CanFree, FreesPiece, has_pieces, freed_nodes, GivesEntry, IsLastNode, IsOddFreeing}
use Rattle.file_lists.specs.Near.{near_before}
use Rattle.file_lists.proofs.NearLemmas.{before_few}
use Rattle.lob_bytes.specs.declared.last.Last.{Last}
use Rattle.lob_bytes.proofs.BuildingLemmas.{list_inside}

-- ---- pages and room

abbrev all : ℕ → ℕ → List ℕ
all q f = q ∷ 0 ∷ f ∷ []

qf : (q f : ℕ) → IsWithin (q ∷ f ∷ []) (all q f)
qf q f = within_both (q ∷ []) (f ∷ []) (all q f) (within_one q (0 ∷ f ∷ [])) (λ k is. within_right (q ∷ []) (0 ∷ f ∷ []) k (within_two 0 f [] k is))

zero_in : (q f : ℕ) → IsWithin (0 ∷ []) (all q f)
zero_in q f = within_two q 0 (f ∷ [])

-- what was read alone
pub read_uses : {T : Type 0} {state : T → PageState} {stays : T → T → Type 0} (f : ℕ) (s t : T) → Uses state stays (f ∷ []) 1 0 s t → Uses state stays (0 ∷ f ∷ []) 3 129 s t
read_uses f s t u = uses_more (f ∷ []) (0 ∷ f ∷ []) 1 3 0 129 s t u (within_two 0 f []) (lit≤ tt) (lit≤ tt)

-- with the page of the node named that was found
pub node_named : {T : Type 0} {state : T → PageState} {stays : T → T → Type 0} (f : ℕ) (s t : T) (found : Option Last) (last : Last) → found ≡ Some last → IfSome found (λ l. Uses state stays (l.node.page.0 ∷ f ∷ []) 0 0 s t)
    → Uses state stays (last.node.page.0 ∷ f ∷ []) 0 0 s t
node_named {state = state} {stays = stays} f s t found last is named =
    let N : Option Last → Type 0 = λ o. IfSome o (λ l. Uses state stays (l.node.page.0 ∷ f ∷ []) 0 0 s t) in
    subst N is named

-- what taking the node out touched, by its number
pub before_used : {T : Type 0} {state : T → PageState} {stays : T → T → Type 0} (node : Address) (named : List ℕ) (bytes : ℕ) (s t : T) → Reaches state stays (near_before (state s) node) named 1 bytes s t → Uses state stays named 1 bytes s t
before_used {state = state} node named bytes s t uses = uses_bound (near_before (state s) node) named 1 bytes s t (before_few (state s) node) uses

module _ {T : Type 0} {state : T → PageState} {stays : T → T → Type 0} (add : (a b c : T) → stays a b → stays b c → stays a c) (q f : ℕ) (s t1 t2 t3 t4 : T) where
  one : Uses state stays (q ∷ f ∷ []) 0 0 s t1 → Uses state stays (all q f) 0 0 s t1
  one u1 = uses_more (q ∷ f ∷ []) (all q f) 0 0 0 0 s t1 u1 (qf q f) (lit≤ tt) (lit≤ tt)

  two : Uses state stays (q ∷ f ∷ []) 0 0 s t1 → Uses state stays (q ∷ f ∷ []) 1 40 t1 t2 → Uses state stays (all q f) 1 40 s t2
  two u1 u2 = uses_within add (all q f) (q ∷ f ∷ []) 0 0 1 40 s t1 t2 (qf q f) (one u1) u2

  three : Uses state stays (q ∷ f ∷ []) 0 0 s t1 → Uses state stays (q ∷ f ∷ []) 1 40 t1 t2 → Uses state stays (q ∷ f ∷ []) 1 68 t2 t3 → Uses state stays (all q f) 2 108 s t3
  three u1 u2 u3 = uses_within add (all q f) (q ∷ f ∷ []) 1 40 1 68 s t2 t3 (qf q f) (two u1 u2) u3

  four : Uses state stays (q ∷ f ∷ []) 0 0 s t1 → Uses state stays (q ∷ f ∷ []) 1 40 t1 t2 → Uses state stays (q ∷ f ∷ []) 1 68 t2 t3 → Uses state stays (0 ∷ []) 0 21 t3 t4 → Uses state stays (all q f) 2 129 s t4
  four u1 u2 u3 u4 = uses_within add (all q f) (0 ∷ []) 2 108 0 21 s t3 t4 (zero_in q f) (three u1 u2 u3) u4

  pub remove_may : MayUse (0 ∷ f ∷ []) 3 129 (state s) → Uses state stays (q ∷ f ∷ []) 0 0 s t1 → MayUse (q ∷ f ∷ []) 1 40 (state t1)
  remove_may may u1 = may_within (all q f) (q ∷ f ∷ []) 2 129 0 0 1 40 s t1 (qf q f) (lit≤ tt) (lit≤ tt) (may_name q (0 ∷ f ∷ []) 2 129 (state s) may) (one u1)

  pub entry_may : MayUse (0 ∷ f ∷ []) 3 129 (state s) → Uses state stays (q ∷ f ∷ []) 0 0 s t1 → Uses state stays (q ∷ f ∷ []) 1 40 t1 t2 → MayUse (q ∷ f ∷ []) 1 68 (state t2)
  entry_may may u1 u2 = may_within (all q f) (q ∷ f ∷ []) 2 129 1 40 1 68 s t2 (qf q f) (lit≤ tt) (lit≤ tt) (may_name q (0 ∷ f ∷ []) 2 129 (state s) may) (two u1 u2)

  pub page_may : MayUse (0 ∷ f ∷ []) 3 129 (state s) → Uses state stays (q ∷ f ∷ []) 0 0 s t1 → Uses state stays (q ∷ f ∷ []) 1 40 t1 t2 → Uses state stays (q ∷ f ∷ []) 1 68 t2 t3 → MayUse (0 ∷ []) 0 21 (state t3)
  page_may may u1 u2 u3 = may_within (all q f) (0 ∷ []) 2 129 2 108 0 21 s t3 (zero_in q f) (lit≤ tt) (lit≤ tt) (may_name q (0 ∷ f ∷ []) 2 129 (state s) may) (three u1 u2 u3)

  pub remove_uses : Uses state stays (q ∷ f ∷ []) 0 0 s t1 → Uses state stays (q ∷ f ∷ []) 1 40 t1 t2 → Uses state stays (0 ∷ f ∷ []) 3 129 s t2
  remove_uses u1 u2 = uses_at_most (0 ∷ f ∷ []) 2 40 3 129 s t2 (lit≤ tt) (lit≤ tt) (uses_unnamed q (0 ∷ f ∷ []) 1 40 s t2 (two u1 u2))

  pub entry_uses : Uses state stays (q ∷ f ∷ []) 0 0 s t1 → Uses state stays (q ∷ f ∷ []) 1 40 t1 t2 → Uses state stays (q ∷ f ∷ []) 1 68 t2 t3 → Uses state stays (0 ∷ f ∷ []) 3 129 s t3
  entry_uses u1 u2 u3 = uses_at_most (0 ∷ f ∷ []) 3 108 3 129 s t3 (lit≤ tt) (lit≤ tt) (uses_unnamed q (0 ∷ f ∷ []) 2 108 s t3 (three u1 u2 u3))

  pub page_uses : Uses state stays (q ∷ f ∷ []) 0 0 s t1 → Uses state stays (q ∷ f ∷ []) 1 40 t1 t2 → Uses state stays (q ∷ f ∷ []) 1 68 t2 t3 → Uses state stays (0 ∷ []) 0 21 t3 t4 → Uses state stays (0 ∷ f ∷ []) 3 129 s t4
  page_uses u1 u2 u3 u4 = uses_unnamed q (0 ∷ f ∷ []) 2 129 s t4 (four u1 u2 u3 u4)

-- ---- faults

-- of pages that are as they were at the call
pub odd_before : (s t : PageState) (first : ℕ) (node : Address) → t.told ≡ s.told → t.count ≡ s.count → IsLastNode s.told first node → (f : Fault) → IsHonest (IsOddBefore t (heads_base first) node) f → IsHonest (IsOddFreeing s first) f
odd_before s t first node told count last Device honest = tt
odd_before s t first node told count last (Strange page at value) honest =
    let A : Option Pages → ℕ → Type 0 = λ o n. IsBare o (heads_base first) page.0 at value ⊎ IsOddLink o n node.page node.at page.0 at value in
    inr (inl (node, last, subst (λ (n : ℕ). A s.told n) count (subst (λ (o : Option Pages). A o t.count) told honest)))

-- ---- the entry

has_some : (ps : List Piece) → true ≡ has_pieces ps → (node : Address) (free : List Address) → freed_nodes ps node free ≡ node ∷ free
has_some [] left node free = absurd (subst IsFalse (sym left) tt)
  where
    IsFalse : Bool → Type 0
    IsFalse true = ⊥
    IsFalse false = Unit {0}
has_some (p ∷ ps) left node free = refl

has_none : (ps : List Piece) → false ≡ has_pieces ps → ps ≡ []
has_none [] left = refl
has_none (p ∷ ps) left = absurd (subst IsFalse left tt)
  where
    IsFalse : Bool → Type 0
    IsFalse true = ⊥
    IsFalse false = Unit {0}

-- with a piece left, the node given back is the first of the free ones
pub entry_given : (left : Bool) (old new : Pages) (lob : Lob) (node : Address) → left ≡ true → left ≡ has_pieces lob.pieces → GivesNode lob node old new → GivesEntry lob node old new
entry_given left old new lob node some is gives = record {
  lob' = let L : List Address → Type 0 = λ xs. IsLob new (record lob { free = xs }) in subst L (sym (has_some lob.pieces (sym some ∙ is) node lob.free)) gives.lob';
  outside = gives.outside;
}

-- with no piece left, no node is free
pub entry_emptied : (left : Bool) (old new : Pages) (lob : Lob) (node : Address) (page : ℕ) → left ≡ false → left ≡ has_pieces lob.pieces → lob.page ≡ page → IsLobBut old lob (node ∷ []) → MakesBase (free_base page) old new → GivesEntry lob node old new
entry_emptied left old new lob node page bare is first stands makes =
    let none = has_none lob.pieces (sym bare ∙ is) in
    let M : ℕ → Type 0 = λ n. MakesBase (free_base n) old new in
    let made = subst M (sym first) makes in
    let B : List Piece → Type 0 = λ ps. IsLobBut old (with_pieces lob ps) (node ∷ []) in
    let G : List Piece → Type 0 = λ ps. IsLob new (record lob { pieces = ps; free = freed_nodes ps node lob.free }) in record {
      lob' = subst G (sym none) (emptied_stands old new lob (node ∷ []) (subst B none stands) made.outside made.list);
      outside = within_pages (base_span (free_base lob.page) ∷ []) old new lob (node ∷ []) stands.shape
          (λ n k. omega (arith, covers_cons (base_span (free_base lob.page)) [] n k, covers_nil n k, parts_covers lob (node ∷ []) n k)) made.outside;
    }

-- ---- the pages of the data

-- the LOB has the page of the last piece's data more
own_cut : (lob : Lob) (ps : List Piece) (x : Version) (n : ℕ) → times n (lob_pages (ended lob ps x)) ≡ times n (data_pages lob.page (x ∷ [])) + times n (lob_pages (with_pieces lob ps))
own_cut lob ps x n =
    let a = times-append n lob.index (data_pages lob.page (versions (ps ++ alone x ∷ []))) in
    let b = times-append n lob.index (data_pages lob.page (versions ps)) in
    let c = data_split n lob.page (versions ps) (x ∷ []) in
    let d = ap (λ (vs : List Version). times n (data_pages lob.page vs)) (versions_added ps x) in
    omega (arith, a, b, c, d)

-- ---- the list of heads

module _ (old mid : Pages) (lob : Lob) (ps : List Piece) (x : Version) (is : IsLob old (ended lob ps x)) (changes : ChangesList (heads_base lob.page) (map head_place ps ++ x.place ∷ []) (map head_place ps) old mid) where
  freeing : Freeing old mid lob ps x
  freeing = record {
    lob = is;
    outside = changes.outside;
    list = changes.list;
  }

  pub removed_stands : IsLobBut mid (with_pieces lob ps) (x.place ∷ [])
  removed_stands = freed_stands old mid lob ps x freeing

  pub removed_same : SameOutside (lob_spans (with_pieces lob ps)) old mid
  removed_same = list_inside old mid (with_pieces lob ps) x.place removed_stands.shape changes.outside

-- ---- the whole

-- behind the giving up of the node
pub record NodeFreed (lob : Lob) (ps : List Piece) (x : Version) (old new : Pages) : Type 0 where
  pub lob' : IsLob new (record lob { pieces = ps; free = freed_nodes ps x.place lob.free })
  pub same : SameOutside (pages_of (lob_pages (with_pieces lob ps))) old new

-- the node taken out of the list of heads and given up: the LOB without its last piece
pub node_freed : (told1 told2 : Option Pages) (old : Pages) (lob : Lob) (ps : List Piece) (x : Version) (first : ℕ) (node : Address) → lob.page ≡ first → node ≡ x.place → IsLob old (ended lob ps x)
    → Becomes told1 (ChangesList (heads_base first) (map head_place ps ++ node ∷ []) (map head_place ps) old)
    → ((mid : Pages) → told1 ≡ Some mid → IsLobBut mid (with_pieces lob ps) (node ∷ []) → Becomes told2 (GivesEntry (with_pieces lob ps) node mid))
    → Becomes told2 (NodeFreed lob ps x old)
node_freed told1 told2 old lob ps x first node page same is removed gave =
    let own = lob_pages (with_pieces lob ps) in
    let mid = removed.0 in
    let C : ℕ → Type 0 = λ n. ChangesList (heads_base n) (map head_place ps ++ x.place ∷ []) (map head_place ps) old mid in
    let N : Address → Type 0 = λ a. ChangesList (heads_base first) (map head_place ps ++ a ∷ []) (map head_place ps) old mid in
    let changes = subst C (sym page) (subst N same removed.2) in
    let B : Address → Type 0 = λ a. IsLobBut mid (with_pieces lob ps) (a ∷ []) in
    let given = gave mid removed.1 (subst B (sym same) (removed_stands old mid lob ps x is changes)) in
    let G : Address → Type 0 = λ a. GivesEntry (with_pieces lob ps) a mid given.0 in
    let g = subst G same given.2 in (
      given.0,
      given.1,
      record {
        lob' = g.lob';
        same = same_twice own old mid given.0 (removed_same old mid lob ps x is changes) g.outside;
      },
    )

-- the node may be given up
pub node_loose : (old : Pages) (told1 : Option Pages) (lob : Lob) (ps : List Piece) (x : Version) (first : ℕ) (node : Address) → lob.page ≡ first → node ≡ x.place → IsLob old (ended lob ps x)
    → (removed : Becomes told1 (ChangesList (heads_base first) (map head_place ps ++ node ∷ []) (map head_place ps) old))
    → IsLobBut removed.0 (with_pieces lob ps) (node ∷ [])
node_loose old told1 lob ps x first node page same is removed =
    let mid = removed.0 in
    let C : ℕ → Type 0 = λ n. ChangesList (heads_base n) (map head_place ps ++ x.place ∷ []) (map head_place ps) old mid in
    let N : Address → Type 0 = λ a. ChangesList (heads_base first) (map head_place ps ++ a ∷ []) (map head_place ps) old mid in
    let B : Address → Type 0 = λ a. IsLobBut mid (with_pieces lob ps) (a ∷ []) in
    subst B (sym same) (removed_stands old mid lob ps x is (subst C (sym page) (subst N same removed.2)))

module _ (old mid : Pages) (lob : Lob) (ps : List Piece) (x : Version) (can : CanFree lob ps x old) (freed : NodeFreed lob ps x old mid) where
  less : (n : ℕ) → times n (lob_pages (with_pieces lob ps)) ≤ times n (lob_pages (ended lob ps x))
  less n = let c = own_cut lob ps x n in omega (arith, c)

  -- the map stands
  pub map_freed : IsMap mid
  map_freed = map_same (lob_pages (ended lob ps x)) old mid can.used.other (same_fewer (lob_pages (ended lob ps x)) (lob_pages (with_pieces lob ps)) old mid less freed.same) can.map

  -- the page of the data is used, unless it is the first one
  pub page_used : x.page ≢ lob.page → IsUsed mid x.page
  page_used = data_used (lob_pages (ended lob ps x)) (lob_pages (with_pieces lob ps)) (with_pieces lob ps) x.page old mid can.used (own_cut lob ps x) less freed.same

  pub piece_freed : (new : Pages) → x.page < length old → GivesData lob.page x.page mid new → FreesPiece lob ps x old new
  piece_freed new there gives =
      let r = page_given (lob_pages (ended lob ps x)) (lob_pages (with_pieces lob ps)) (record lob { pieces = ps; free = freed_nodes ps x.place lob.free }) x.page old mid can.used (own_cut lob ps x) less freed.same new there can.map freed.lob' gives in
      record { lob' = r.lob'; gives = r.gives; outside = r.outside; keeps = r.keeps }
