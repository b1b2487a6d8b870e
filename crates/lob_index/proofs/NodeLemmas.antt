-- A free node taken and given back, call by call.
use Rattle.std.proofs.Common.{◌≡◌, ℕ, ◌+◌, ◌≤◌, List, [], ◌∷◌, ◌++◌, length, Option, Some, None, sym, subst, lit≤, arith}
use Rattle.page_model.specs.Pages.{Pages, Address}
use Rattle.page_model.specs.Lists.{IsList}
use Rattle.page_model.specs.Steps.{PageState, MayUse, Uses, Reaches, known, Becomes}
use Rattle.page_model.proofs.StepLemmas.{may_within, may_name, uses_more, uses_within, uses_unnamed, within_two}
use Rattle.file_lists.specs.Changes.{ChangesList}
use Rattle.store_data.specs.Store.{Lob}
use Rattle.lob_model.specs.Places.{free_base}
use Rattle.page_model.specs.Spans.{SameOutside}
use Rattle.store_parts.specs.Keeps.{Keeps}
use Rattle.store_parts.proofs.CountLemmas.{on_pages}
use Rattle.store_parts.proofs.KeepLemmas.{keeps_write}
use Rattle.lob_model.specs.Lobs.{IsLob, IsLobBut, lob_pages, lob_spans}
use Rattle.lob_model.proofs.NodeLemmas.{free_taken, node_given}
use Rattle.lob_index.specs.Nodes.{LoosesNode, GivesNode}

-- ---- pages and room

-- pages that are no longer named count by their number
unnamed_all : {T : Type 0} {state : T → PageState} {stays : T → T → Type 0} (ns named : List ℕ) (k bytes : ℕ) (s t : T)
    → Uses state stays (ns ++ named) k bytes s t → Uses state stays named (k + length ns) bytes s t
unnamed_all [] named k bytes s t uses = uses_more named named k (k + 0) bytes bytes s t uses (λ n is. is) (omega arith) (omega arith)
unnamed_all (n ∷ ns) named k bytes s t uses =
    uses_more named named (k + 1 + length ns) (k + length (n ∷ ns)) bytes bytes s t (unnamed_all ns named (k + 1) bytes s t (uses_unnamed n (ns ++ named) k bytes s t uses)) (λ m is. is) (omega arith) (omega arith)

-- so do those that are known
pub reached : {T : Type 0} {state : T → PageState} {stays : T → T → Type 0} (near : Option (List ℕ)) (named : List ℕ) (most bytes : ℕ) (s t : T)
    → length (known near) ≤ most → Reaches state stays near named most bytes s t → Uses state stays named most bytes s t
reached None named most bytes s t few uses = uses
reached (Some ns) named most bytes s t few uses =
    uses_more named named (0 + length ns) most bytes bytes s t (unnamed_all ns named 0 bytes s t uses) (λ m is. is) (omega (arith, few)) (omega arith)

module _ {T : Type 0} {state : T → PageState} {stays : T → T → Type 0} (page node : ℕ) (s t : T) where
  named : Uses state stays (page ∷ []) 0 0 s t → Uses state stays (node ∷ page ∷ []) 0 0 s t
  named uses = uses_more (page ∷ []) (node ∷ page ∷ []) 0 0 0 0 s t uses (within_two node page []) (lit≤ tt) (lit≤ tt)

  pub take_may : MayUse (page ∷ []) 2 40 (state s) → Uses state stays (page ∷ []) 0 0 s t → MayUse (node ∷ page ∷ []) 1 40 (state t)
  take_may may uses = may_within (node ∷ page ∷ []) (node ∷ page ∷ []) 1 40 0 0 1 40 s t (λ n is. is) (lit≤ tt) (lit≤ tt) (may_name node (page ∷ []) 1 40 (state s) may) (named uses)

  pub take_named : (add : (a b c : T) → stays a b → stays b c → stays a c) → (u : T) → Uses state stays (page ∷ []) 0 0 s t → Uses state stays (node ∷ page ∷ []) 1 40 t u → Uses state stays (node ∷ page ∷ []) 1 40 s u
  take_named add u first second = uses_within add (node ∷ page ∷ []) (node ∷ page ∷ []) 0 0 1 40 s t u (λ n is. is) (named first) second

  pub take_uses : (add : (a b c : T) → stays a b → stays b c → stays a c) → (u : T) → Uses state stays (page ∷ []) 0 0 s t → Uses state stays (node ∷ page ∷ []) 1 40 t u → Uses state stays (page ∷ []) 2 40 s u
  take_uses add u first second = uses_unnamed node (page ∷ []) 1 40 s u (take_named add u first second)

-- ---- what is left

-- the rest of a store, where the LOB's own pages changed
kept : (old new : Pages) (lob : Lob) → SameOutside (lob_spans lob) old new → Keeps [] (lob_pages lob) (lob_pages lob) old new
kept old new lob same = keeps_write [] (lob_pages lob) (lob_spans lob) old new (λ n. omega arith) tt same (on_pages (lob_pages lob))

-- the list of free nodes, as the code names its base
pub listed : (pages : Pages) (lob : Lob) (page : ℕ) (loose all : List Address) → lob.page ≡ page → IsLobBut pages lob loose → lob.free ≡ all → IsList pages (free_base page) all
listed pages lob page loose all first is free =
    let P : ℕ → Type 0 = λ n. IsList pages (free_base n) all in
    let Q : List Address → Type 0 = λ xs. IsList pages (free_base lob.page) xs in
    subst P first (subst Q free is.free)

-- the first free node taken off the list is in no list of the LOB any more
pub took : (pages : Pages) (lob : Lob) (page : ℕ) (told : Option Pages) (a node : Address) (rest : List Address) → lob.page ≡ page → IsLob pages lob → lob.free ≡ node ∷ rest → a ≡ node
    → Becomes told (λ new. ChangesList (free_base page) (a ∷ rest) rest pages new) → Becomes told (LoosesNode lob node rest pages)
took pages lob page told a node rest first is free same becomes =
    let new = becomes.0 in
    let P : ℕ → Type 0 = λ n. ChangesList (free_base n) (node ∷ rest) rest pages new in
    let Q : Address → Type 0 = λ x. ChangesList (free_base page) (x ∷ rest) rest pages new in
    let changes = subst P (sym first) (subst Q same becomes.2) in
    let r = free_taken pages new lob node rest is free changes.list changes.outside in
    (new, becomes.1, record { lob' = r.0; outside = r.1; keeps = kept pages new lob r.1 })

-- a node that is in no list, put in front of the free ones, is given back
pub gave : (pages : Pages) (lob : Lob) (page : ℕ) (told : Option Pages) (node : Address) → lob.page ≡ page → IsLobBut pages lob (node ∷ [])
    → Becomes told (λ new. ChangesList (free_base page) (node ∷ lob.free) (node ∷ lob.free) pages new) → Becomes told (GivesNode lob node pages)
gave pages lob page told node first is becomes =
    let new = becomes.0 in
    let P : ℕ → Type 0 = λ n. ChangesList (free_base n) (node ∷ lob.free) (node ∷ lob.free) pages new in
    let changes = subst P (sym first) becomes.2 in
    let r = node_given pages new lob node is changes.list changes.outside in
    (new, becomes.1, record { lob' = r.0; outside = r.1; keeps = kept pages new lob r.1 })
