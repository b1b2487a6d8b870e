-- The pages that a change of a list reaches: they are as many as the bound says, and a link that was read leads to one of them.
use Rattle.std.proofs.Common.{◌≡◌, inl, inr, ℕ, ◌+◌, ◌<◌, ◌≤◌, nat_lt, true, List, [], ◌∷◌, ◌++◌, length, Option, Some, None, IfSome, refl, ap, subst, arith, lit≤}
use Rattle.std.specs.Option.{option_map}
use Rattle.std.proofs.lemmas.Bool.{cases_Bool, lt-ltb, eq-eqb}
use Rattle.std.proofs.lemmas.List.{length-append}
use Rattle.page_model.specs.Pages.{Pages, field, Address, address_at}
use Rattle.page_model.specs.Lists.{IsNodePlace, or_null, on_place, back_place}
use Rattle.page_model.specs.Steps.{PageState, among, IsWithin, MayUse, known, MayReach}
use Rattle.page_model.proofs.StepLemmas.{IsReached, may_reach, within_left, within_right}
use Rattle.engine_base.specs.Addresses.{address_of}
use Rattle.engine_base.specs.declared.addr.Addr.{Addr}
use Rattle.file_lists.specs.Links.{link_of}
use Rattle.file_lists.specs.Near.{page_there, near_front, near_back, near_node, near_behind, near_before}

-- ---- how many

few_there : (count n : ℕ) → length (page_there count n) ≤ 1
few_there count n = elim (cases_Bool (nat_lt n count)) [ inl is ↦ rw is (lit≤ tt) | inr not ↦ rw not (lit≤ tt) ]

few_told : (o : Option Pages) (near : Pages → List ℕ) (most : ℕ) → ((pages : Pages) → length (near pages) ≤ most) → length (known (option_map near o)) ≤ most
few_told None near most few = omega arith
few_told (Some pages) near most few = few pages

-- one page at most is near at the front
pub front_few : (s : PageState) (base : Address) → length (known (near_front s base)) ≤ 1
front_few s base = few_told s.told (λ pages. page_there s.count (field pages base.page (base.at + 4) 4)) 1 (λ pages. few_there s.count (field pages base.page (base.at + 4) 4))

-- and at the back
pub back_few : (s : PageState) (base : Address) → length (known (near_back s base)) ≤ 1
back_few s base = few_told s.told (λ pages. page_there s.count (field pages base.page (base.at + 10) 4)) 1 (λ pages. few_there s.count (field pages base.page (base.at + 10) 4))

-- two are near a node
pub node_few : (s : PageState) (node : Address) → length (known (near_node s node)) ≤ 2
node_few s node = few_told s.told (λ pages. page_there s.count (field pages node.page node.at 4) ++ page_there s.count (field pages node.page (node.at + 6) 4)) 2
    (λ pages. let a = page_there s.count (field pages node.page node.at 4) in let b = page_there s.count (field pages node.page (node.at + 6) 4) in
    omega (arith, length-append a b, few_there s.count (field pages node.page node.at 4), few_there s.count (field pages node.page (node.at + 6) 4)))

-- one page at most is near behind a node
pub behind_few : (s : PageState) (node : Address) → length (known (near_behind s node)) ≤ 1
behind_few s node = few_told s.told (λ pages. page_there s.count (field pages node.page (node.at + 6) 4)) 1 (λ pages. few_there s.count (field pages node.page (node.at + 6) 4))

-- and before it
pub before_few : (s : PageState) (node : Address) → length (known (near_before s node)) ≤ 1
before_few s node = few_told s.told (λ pages. page_there s.count (field pages node.page node.at 4)) 1 (λ pages. few_there s.count (field pages node.page node.at 4))

-- the bounds are enough for a caller that counts by them
pub may_front : (s : PageState) (base : Address) (named : List ℕ) (bytes : ℕ) → MayUse named 1 bytes s → MayReach (near_front s base) named 1 bytes s
may_front s base named bytes = may_reach (near_front s base) named 1 bytes s (front_few s base)

-- the bound is enough at the back
pub may_back : (s : PageState) (base : Address) (named : List ℕ) (bytes : ℕ) → MayUse named 1 bytes s → MayReach (near_back s base) named 1 bytes s
may_back s base named bytes = may_reach (near_back s base) named 1 bytes s (back_few s base)

-- and for a node
pub may_node : (s : PageState) (node : Address) (named : List ℕ) (bytes : ℕ) → MayUse named 2 bytes s → MayReach (near_node s node) named 2 bytes s
may_node s node named bytes = may_reach (near_node s node) named 2 bytes s (node_few s node)

-- for the first node
pub may_behind : (s : PageState) (node : Address) (named : List ℕ) (bytes : ℕ) → MayUse named 1 bytes s → MayReach (near_behind s node) named 1 bytes s
may_behind s node named bytes = may_reach (near_behind s node) named 1 bytes s (behind_few s node)

-- and for the last
pub may_before : (s : PageState) (node : Address) (named : List ℕ) (bytes : ℕ) → MayUse named 1 bytes s → MayReach (near_before s node) named 1 bytes s
may_before s node named bytes = may_reach (near_before s node) named 1 bytes s (before_few s node)

-- ---- which

there_among : (count n q : ℕ) → q ≡ n → q < count → among (page_there count n) q ≡ true
there_among count n q same below =
    let is : nat_lt n count ≡ true = lt-ltb n count (omega (arith, same, below)) in
    rw is (rw (eq-eqb q n same) refl)

-- the page of a node that was read, or else the base's
reached_some : (near : Pages → List ℕ) (named : List ℕ) (count pg at : ℕ) (pages : Pages) (a : Address) → a ≡ address_at pages pg at → a.page < count → IsWithin (page_there count (field pages pg at 4)) (near pages)
    → among (near pages ++ named) a.page ≡ true
reached_some near named count pg at pages a same below within =
    within_left (near pages) named a.page (within a.page (there_among count (field pages pg at 4) a.page (ap (λ (b : Address). b.page) same) below))

module _ (near : Pages → List ℕ) (named : List ℕ) (count pg at : ℕ) (base : Address) (here : among named base.page ≡ true) (within : (pages : Pages) → IsWithin (page_there count (field pages pg at 4)) (near pages)) where
  on_there : (o : Option Pages) (x : Option Addr) → IfSome o (λ pages. or_null (link_of x) ≡ address_at pages pg at) → IfSome x (λ a. IsNodePlace count (address_of a)) → IsReached (option_map near o) named (on_place base (link_of x)).page
  on_there None x value place = tt
  on_there (Some pages) None value place = within_right (near pages) named base.page here
  on_there (Some pages) (Some a) value place = reached_some near named count pg at pages (address_of a) value place.page (within pages)

  back_there : (o : Option Pages) (x : Option Addr) → IfSome o (λ pages. or_null (link_of x) ≡ address_at pages pg at) → IfSome x (λ a. IsNodePlace count (address_of a)) → IsReached (option_map near o) named (back_place base (link_of x)).page
  back_there None x value place = tt
  back_there (Some pages) None value place = within_right (near pages) named base.page here
  back_there (Some pages) (Some a) value place = reached_some near named count pg at pages (address_of a) value place.page (within pages)

  -- of what was read behind other reads
  pub reached_on : (o told : Option Pages) (n : ℕ) (x : Option Addr) → told ≡ o → n ≡ count → IfSome told (λ pages. or_null (link_of x) ≡ address_at pages pg at) → IfSome x (λ a. IsNodePlace n (address_of a))
      → IsReached (option_map near o) named (on_place base (link_of x)).page
  reached_on o told n x same many value place =
      let P : Option Pages → Type 0 = λ p. IfSome p (λ pages. or_null (link_of x) ≡ address_at pages pg at) in
      let Q : ℕ → Type 0 = λ m. IfSome x (λ a. IsNodePlace m (address_of a)) in
      on_there o x (subst P same value) (subst Q many place)

  pub reached_back : (o told : Option Pages) (n : ℕ) (x : Option Addr) → told ≡ o → n ≡ count → IfSome told (λ pages. or_null (link_of x) ≡ address_at pages pg at) → IfSome x (λ a. IsNodePlace n (address_of a))
      → IsReached (option_map near o) named (back_place base (link_of x)).page
  reached_back o told n x same many value place =
      let P : Option Pages → Type 0 = λ p. IfSome p (λ pages. or_null (link_of x) ≡ address_at pages pg at) in
      let Q : ℕ → Type 0 = λ m. IfSome x (λ a. IsNodePlace m (address_of a)) in
      back_there o x (subst P same value) (subst Q many place)

second_named : (m n : ℕ) → among (m ∷ n ∷ []) n ≡ true
second_named m n = within_right (m ∷ []) (n ∷ []) n (rw (eq-eqb n n refl) refl)

-- the node before one that is taken out
pub node_before : (s : PageState) (node base : Address) (told : Option Pages) (n : ℕ) (x : Option Addr) → told ≡ s.told → n ≡ s.count → IfSome told (λ pages. or_null (link_of x) ≡ address_at pages node.page node.at)
    → IfSome x (λ a. IsNodePlace n (address_of a)) → IsReached (near_node s node) (node.page ∷ base.page ∷ []) (on_place base (link_of x)).page
node_before s node base told n x = reached_on (λ pages. page_there s.count (field pages node.page node.at 4) ++ page_there s.count (field pages node.page (node.at + 6) 4)) (node.page ∷ base.page ∷ []) s.count node.page node.at base
    (second_named node.page base.page) (λ pages. within_left (page_there s.count (field pages node.page node.at 4)) (page_there s.count (field pages node.page (node.at + 6) 4))) s.told told n x

-- the node behind it
pub node_behind : (s : PageState) (node base : Address) (told : Option Pages) (n : ℕ) (x : Option Addr) → told ≡ s.told → n ≡ s.count → IfSome told (λ pages. or_null (link_of x) ≡ address_at pages node.page (node.at + 6))
    → IfSome x (λ a. IsNodePlace n (address_of a)) → IsReached (near_node s node) (node.page ∷ base.page ∷ []) (back_place base (link_of x)).page
node_behind s node base told n x = reached_back (λ pages. page_there s.count (field pages node.page node.at 4) ++ page_there s.count (field pages node.page (node.at + 6) 4)) (node.page ∷ base.page ∷ []) s.count node.page (node.at + 6) base
    (second_named node.page base.page) (λ pages. within_right (page_there s.count (field pages node.page node.at 4)) (page_there s.count (field pages node.page (node.at + 6) 4))) s.told told n x

-- the node that was the first
pub front_behind : (s : PageState) (node : ℕ) (base : Address) (told : Option Pages) (n : ℕ) (x : Option Addr) → told ≡ s.told → n ≡ s.count → IfSome told (λ pages. or_null (link_of x) ≡ address_at pages base.page (base.at + 4))
    → IfSome x (λ a. IsNodePlace n (address_of a)) → IsReached (near_front s base) (node ∷ base.page ∷ []) (back_place base (link_of x)).page
front_behind s node base told n x = reached_back (λ pages. page_there s.count (field pages base.page (base.at + 4) 4)) (node ∷ base.page ∷ []) s.count base.page (base.at + 4) base (second_named node base.page) (λ pages n is. is) s.told told n x

-- the node that was the last
pub back_before : (s : PageState) (node : ℕ) (base : Address) (told : Option Pages) (n : ℕ) (x : Option Addr) → told ≡ s.told → n ≡ s.count → IfSome told (λ pages. or_null (link_of x) ≡ address_at pages base.page (base.at + 10))
    → IfSome x (λ a. IsNodePlace n (address_of a)) → IsReached (near_back s base) (node ∷ base.page ∷ []) (on_place base (link_of x)).page
back_before s node base told n x = reached_on (λ pages. page_there s.count (field pages base.page (base.at + 10) 4)) (node ∷ base.page ∷ []) s.count base.page (base.at + 10) base (second_named node base.page) (λ pages n is. is) s.told told n x

-- the node behind the first
pub first_behind : (s : PageState) (node base : Address) (told : Option Pages) (n : ℕ) (x : Option Addr) → told ≡ s.told → n ≡ s.count → IfSome told (λ pages. or_null (link_of x) ≡ address_at pages node.page (node.at + 6))
    → IfSome x (λ a. IsNodePlace n (address_of a)) → IsReached (near_behind s node) (node.page ∷ base.page ∷ []) (back_place base (link_of x)).page
first_behind s node base told n x =
    reached_back (λ pages. page_there s.count (field pages node.page (node.at + 6) 4)) (node.page ∷ base.page ∷ []) s.count node.page (node.at + 6) base (second_named node.page base.page) (λ pages n is. is) s.told told n x

-- the node before the last
pub last_before : (s : PageState) (node base : Address) (told : Option Pages) (n : ℕ) (x : Option Addr) → told ≡ s.told → n ≡ s.count → IfSome told (λ pages. or_null (link_of x) ≡ address_at pages node.page node.at)
    → IfSome x (λ a. IsNodePlace n (address_of a)) → IsReached (near_before s node) (node.page ∷ base.page ∷ []) (on_place base (link_of x)).page
last_before s node base told n x =
    reached_on (λ pages. page_there s.count (field pages node.page node.at 4)) (node.page ∷ base.page ∷ []) s.count node.page node.at base (second_named node.page base.page) (λ pages n is. is) s.told told n x
