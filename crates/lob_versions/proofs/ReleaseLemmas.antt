-- A node given up with the page of its version's data, call by call.
use Rattle.std.proofs.Common.{◌≡◌, ◌≢◌, ℕ, ◌+◌, ◌<◌, ◌≤◌, List, [], ◌∷◌, ◌++◌, length, Option, Some, Result, OnOk, refl, sym, ap, subst, lit≤, arith}
use Rattle.page_model.specs.Pages.{Pages, Address}
use Rattle.page_model.specs.Spans.{SameOutside}
use Rattle.page_model.specs.Counts.{times}
use Rattle.page_model.specs.Steps.{PageState, IsWithin, MayUse, Uses, Becomes}
use Rattle.page_model.proofs.StepLemmas.{may_less, may_within, uses_more, uses_within, uses_at_most, within_left, within_right, within_one, within_both}
use Rattle.engine_base.specs.declared.fault.Fault.{Fault}
use Rattle.file_lists.specs.Changes.{ChangesList}
use Rattle.page_space.specs.Map.{IsUsed}
use Rattle.store_data.specs.Store.{Lob}
use Rattle.lob_model.specs.Places.{versions_base}
use Rattle.lob_model.specs.Lobs.{IsLob, IsLobBut, lob_pages}
use Rattle.lob_index.specs.Nodes.{GivesNode}
use Rattle.lob_index.specs.Data.{data_given, GivesData}
use Rattle.lob_index.proofs.GivenLemmas.{data_used, page_given}
use Rattle.lob_versions.specs.Releases.{CanRelease, Releases}
use Rattle.lob_index.proofs.OwnLemmas.{pages_of, same_twice, same_fewer}

-- ---- pages and room

abbrev all : ℕ → ℕ → ℕ → List ℕ
all q a f = q ∷ a ∷ f ∷ 0 ∷ []

qa : (q a f : ℕ) → IsWithin (q ∷ a ∷ []) (all q a f)
qa q a f = within_left (q ∷ a ∷ []) (f ∷ 0 ∷ [])

qf : (q a f : ℕ) → IsWithin (q ∷ f ∷ []) (all q a f)
qf q a f = within_both (q ∷ []) (f ∷ []) (q ∷ a ∷ f ∷ 0 ∷ []) (within_one q (a ∷ f ∷ 0 ∷ [])) (λ n is. within_right (q ∷ a ∷ []) (f ∷ 0 ∷ []) n (within_one f (0 ∷ []) n is))

map_in : (q a f : ℕ) → IsWithin (0 ∷ []) (all q a f)
map_in q a f = within_right (q ∷ a ∷ f ∷ []) (0 ∷ [])

-- the first call may be made
pub may_one : (q a f : ℕ) (s : PageState) → MayUse (q ∷ a ∷ f ∷ 0 ∷ []) 2 129 s → MayUse (q ∷ a ∷ []) 1 40 s
may_one q a f s may = may_less (all q a f) (q ∷ a ∷ []) 2 1 129 40 s may (qa q a f) (lit≤ tt) (lit≤ tt)

module _ {T : Type 0} {state : T → PageState} {stays : T → T → Type 0} (add : (a b c : T) → stays a b → stays b c → stays a c) (q a f : ℕ) (s : T) where
  r1 : (t : T) → Uses state stays (q ∷ a ∷ []) 1 40 s t → Uses state stays (all q a f) 1 40 s t
  r1 t u1 = uses_more (q ∷ a ∷ []) (all q a f) 1 1 40 40 s t u1 (qa q a f) (lit≤ tt) (lit≤ tt)

  r2 : (t v : T) → Uses state stays (q ∷ a ∷ []) 1 40 s t → Uses state stays (q ∷ f ∷ []) 1 68 t v → Uses state stays (all q a f) 2 108 s v
  r2 t v u1 u2 = uses_within add (all q a f) (q ∷ f ∷ []) 1 40 1 68 s t v (qf q a f) (r1 t u1) u2

  -- so may the second
  pub may_two : (t : T) → MayUse (q ∷ a ∷ f ∷ 0 ∷ []) 2 129 (state s) → Uses state stays (q ∷ a ∷ []) 1 40 s t → MayUse (q ∷ f ∷ []) 1 68 (state t)
  may_two t may u1 = may_within (all q a f) (q ∷ f ∷ []) 2 129 1 40 1 68 s t (qf q a f) (lit≤ tt) (lit≤ tt) may (r1 t u1)

  -- and the third
  pub may_three : (t v : T) → MayUse (q ∷ a ∷ f ∷ 0 ∷ []) 2 129 (state s) → Uses state stays (q ∷ a ∷ []) 1 40 s t → Uses state stays (q ∷ f ∷ []) 1 68 t v → MayUse (0 ∷ []) 0 21 (state v)
  may_three t v may u1 u2 = may_within (all q a f) (0 ∷ []) 2 129 2 108 0 21 s v (map_in q a f) (lit≤ tt) (lit≤ tt) may (r2 t v u1 u2)

  -- what was used behind each of them
  pub used_one : (t : T) → Uses state stays (q ∷ a ∷ []) 1 40 s t → Uses state stays (q ∷ a ∷ f ∷ 0 ∷ []) 2 129 s t
  used_one t u1 = uses_at_most (all q a f) 1 40 2 129 s t (lit≤ tt) (lit≤ tt) (r1 t u1)

  pub used_two : (t v : T) → Uses state stays (q ∷ a ∷ []) 1 40 s t → Uses state stays (q ∷ f ∷ []) 1 68 t v → Uses state stays (q ∷ a ∷ f ∷ 0 ∷ []) 2 129 s v
  used_two t v u1 u2 = uses_at_most (all q a f) 2 108 2 129 s v (lit≤ tt) (lit≤ tt) (r2 t v u1 u2)

  pub used_three : (t v w : T) → Uses state stays (q ∷ a ∷ []) 1 40 s t → Uses state stays (q ∷ f ∷ []) 1 68 t v → Uses state stays (0 ∷ []) 0 21 v w → Uses state stays (q ∷ a ∷ f ∷ 0 ∷ []) 2 129 s w
  used_three t v w u1 u2 u3 = uses_within add (all q a f) (0 ∷ []) 2 108 0 21 s v w (map_in q a f) (r2 t v u1 u2) u3

-- ---- the pages

-- behind the giving back of the node
pub record NodeGiven (own : List ℕ) (lob : Lob) (node : Address) (old new : Pages) : Type 0 where
  pub lob' : IsLob new (record lob { free = node ∷ lob.free })
  pub same : SameOutside (pages_of own) old new

data_less : (own : List ℕ) (lob : Lob) (given : List ℕ) → ((n : ℕ) → times n own ≡ times n given + times n (lob_pages lob)) → (j : ℕ) → times j (lob_pages lob) ≤ times j own
data_less own lob given cut j = let c = cut j in omega (arith, c)

-- a node taken out of its version list and given back: it is free, and the LOB stands without it
pub node_given : (told1 told2 : Option Pages) (pages : Pages) (own : List ℕ) (lob : Lob) (head node : Address) (before behind : List Address) (page : ℕ) → CanRelease own lob head node before behind page pages
    → Becomes told1 (λ mid. ChangesList (versions_base head) (before ++ node ∷ behind) (before ++ behind) pages mid)
    → ((mid : Pages) → told1 ≡ Some mid → IsLobBut mid lob (node ∷ []) → Becomes told2 (GivesNode lob node mid))
    → Becomes told2 (NodeGiven own lob node pages)
node_given told1 told2 pages own lob head node before behind page can removed gave =
    let loose = can.loosens removed.0 removed.2 in
    let given = gave removed.0 removed.1 loose.0 in (
      given.0,
      given.1,
      record {
        lob' = given.2.lob';
        same = same_twice own pages removed.0 given.0 loose.1 (same_fewer own (lob_pages lob) removed.0 given.0 (data_less own lob (data_given lob.page page) can.cut) given.2.outside);
      },
    )

-- the page of the data is used, unless it is the first one
pub page_used : (pages mid : Pages) (own : List ℕ) (lob : Lob) (head node : Address) (before behind : List Address) (page : ℕ) → CanRelease own lob head node before behind page pages → SameOutside (pages_of own) pages mid
    → page ≢ lob.page → IsUsed mid page
page_used pages mid own lob head node before behind page can same = data_used own own lob page pages mid can.used can.cut (λ n. omega arith) same

-- with the data's page given back, or being the first one, the version is released
pub released : (pages mid new : Pages) (own : List ℕ) (lob : Lob) (head node : Address) (before behind : List Address) (page : ℕ) → page < length pages → CanRelease own lob head node before behind page pages
    → NodeGiven own lob node pages mid → GivesData lob.page page mid new → Releases own lob node page pages new
released pages mid new own lob head node before behind page there can given gives =
    let r = page_given own own (record lob { free = node ∷ lob.free }) page pages mid can.used can.cut (λ n. omega arith) given.same new there can.map' given.lob' gives in
    record { lob' = r.lob'; gives = r.gives; outside = r.outside; keeps = r.keeps }

-- ---- a node at an end

nothing_more : (xs : List Address) → xs ++ [] ≡ xs
nothing_more [] = refl
nothing_more (x ∷ xs) = ap (λ (ys : List Address). x ∷ ys) (nothing_more xs)

-- what holds of a list that begins with the node holds where nothing is before it
pub at_first : (P : List Address → List Address → Type 0) (before behind : List Address) → before ≡ [] → P [] behind → P before behind
at_first P before behind none is = let Q : List Address → Type 0 = λ xs. P xs behind in subst Q (sym none) is

-- what holds of a list that ends with the node holds where nothing is behind it
pub at_last : (P : List Address → List Address → Type 0) (before behind : List Address) → behind ≡ [] → P before [] → P before behind
at_last P before behind none is = let Q : List Address → Type 0 = λ xs. P before xs in subst Q (sym none) is

-- the list without its last node
pub but_last : {A : Type 0} (r : Result A Fault) (told : Option Pages) (pages : Pages) (base node : Address) (before : List Address) → OnOk r (Becomes told (ChangesList base (before ++ node ∷ []) before pages))
    → OnOk r (Becomes told (ChangesList base (before ++ node ∷ []) (before ++ []) pages))
but_last r told pages base node before is =
    let P : List Address → Type 0 = λ ns. OnOk r (Becomes told (ChangesList base (before ++ node ∷ []) ns pages)) in
    subst P (sym (nothing_more before)) is
