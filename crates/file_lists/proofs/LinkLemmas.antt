-- What a read link is, where a list is told.
use Rattle.std.proofs.Common.{◌≡◌, ℕ, ◌+◌, ◌<◌, List, ◌∷◌, ◌++◌, length, Option, Some, None, Result, Ok, Err, IfSome, IfOk, IsErr, IsErrAnd, sym, subst, ◌∙◌, arith}
use Rattle.page_model.specs.Pages.{Pages, Address, address_at, AreWhole, null_address}
use Rattle.page_model.specs.Lists.{IsNodePlace, IsLink, IsList, first_of, last_of, or_null}
use Rattle.page_model.proofs.WalkLemmas.{same_link, link_allowed, first_place, first_null, walk_split}
use Rattle.page_model.proofs.UnlinkLemmas.{last_place, last_link}
use Rattle.engine_base.specs.Faults.{FailsPlainly}
use Rattle.engine_base.specs.Addresses.{address_of}
use Rattle.engine_base.specs.declared.addr.Addr.{Addr}
use Rattle.engine_base.specs.declared.fault.Fault.{Fault}
use Rattle.file_lists.specs.Links.{link_of}

some_place : (link : Option Addr) (count : ℕ) → IfSome link (λ a. IsNodePlace count (address_of a)) → IfSome (link_of link) (IsNodePlace count)
some_place None count place = tt
some_place (Some a) count place = place

-- the link that stands there is the one that is read
pub link_read : (r : Result (Option Addr) Fault) (told : Option Pages) (count page at : ℕ) (pages : Pages) (x : Option Address) → count < 4_294_967_296 → told ≡ Some pages
    → IfOk r (λ link. IfSome told (λ ps. or_null (link_of link) ≡ address_at ps page at)) → IfOk r (λ link. IfSome link (λ a. IsNodePlace count (address_of a)))
    → IfSome x (IsNodePlace count) → address_at pages page at ≡ or_null x → IfOk r (λ link. link_of link ≡ x)
link_read (Err e) told count page at pages x few is value place allowed there = tt
link_read (Ok link) told count page at pages x few is value place allowed there =
    let P : Option Pages → Type 0 = λ o. IfSome o (λ ps. or_null (link_of link) ≡ address_at ps page at) in
    same_link (link_of link) x count few (some_place link count place) allowed (subst P is value ∙ there)

-- a read of a link that may stand in a list has no fault but the device's
pub plain_read : (r : Result (Option Addr) Fault) (told : Option Pages) (count page at : ℕ) (pages : Pages) (x : Option Address) → told ≡ Some pages
    → IfSome told (λ ps. IsLink count (address_at ps page at) → FailsPlainly r) → IfSome x (IsNodePlace count) → address_at pages page at ≡ or_null x → FailsPlainly r
plain_read r told count page at pages x is never allowed there =
    let P : Option Pages → Type 0 = λ o. IfSome o (λ ps. IsLink count (address_at ps page at) → FailsPlainly r) in
    let Q : Address → Type 0 = λ a. IsLink count a in
    subst P is never (subst Q (sym there) (link_allowed x count allowed))

same_count : (x : Option Address) (a b : ℕ) → a ≡ b → IfSome x (IsNodePlace a) → IfSome x (IsNodePlace b)
same_count x a b same place = let P : ℕ → Type 0 = λ n. IfSome x (IsNodePlace n) in subst P same place

-- the first link of a list
pub first_link : (pages : Pages) (base : Address) (nodes : List Address) (count : ℕ) → AreWhole pages count → IsList pages base nodes → IfSome (first_of nodes) (IsNodePlace count) × (address_at pages base.page (base.at + 4) ≡ or_null (first_of nodes))
first_link pages base nodes count whole list = (same_count (first_of nodes) (length pages) count whole.many (first_place pages null_address nodes null_address list.walk), list.first ∙ first_null nodes)

-- the link behind a node
pub next_link : (pages : Pages) (base node : Address) (before behind : List Address) (count : ℕ) → AreWhole pages count → IsList pages base (before ++ node ∷ behind) → IfSome (first_of behind) (IsNodePlace count) × (address_at pages node.page (node.at + 6) ≡ or_null (first_of behind))
next_link pages base node before behind count whole list =
    let from = (walk_split pages null_address before (node ∷ behind) null_address list.walk).1 in
    (same_count (first_of behind) (length pages) count whole.many (first_place pages node behind null_address from.3), from.2 ∙ first_null behind)

-- what is said of told pages
pub at_told : (o : Option Pages) (Q : Pages → Type 0) (pages : Pages) → o ≡ Some pages → IfSome o Q → Q pages
at_told o Q pages is fact = let P : Option Pages → Type 0 = λ p. IfSome p Q in subst P is fact

-- a place that a node may have by the count is one that it may have in pages of that count
pub place_told : (pages : Pages) (count : ℕ) (a : Address) → AreWhole pages count → IsNodePlace count a → IsNodePlace (length pages) a
place_told pages count a whole place = record { page = omega (arith, whole.many, place.page); within = place.within }

-- the link before a node
pub before_link : (pages : Pages) (base node : Address) (before behind : List Address) (count : ℕ) → AreWhole pages count → IsList pages base (before ++ node ∷ behind) → IfSome (last_of before) (IsNodePlace count) × (address_at pages node.page node.at ≡ or_null (last_of before))
before_link pages base node before behind count whole list =
    let split = walk_split pages null_address before (node ∷ behind) null_address list.walk in
    (same_count (last_of before) (length pages) count whole.many (last_place pages null_address before node split.0), split.1.1 ∙ last_link before)

-- a plain fault that is handed on
pub handed_on : {A B : Type 0} (r : Result A Fault) (s : Result B Fault) (e : Fault) → FailsPlainly r → r ≡ Err e → IsErr s × IsErrAnd s (λ f. f ≡ e) → FailsPlainly s
handed_on r (Ok b) e plain was err = tt
handed_on {A = A} r (Err f) e plain was err = let P : Result A Fault → Type 0 = λ q. FailsPlainly q in err.1 ∙ subst P was plain

-- the last link of a list
pub end_link : (pages : Pages) (base : Address) (nodes : List Address) (count : ℕ) → AreWhole pages count → IsList pages base nodes → IfSome (last_of nodes) (IsNodePlace count) × (address_at pages base.page (base.at + 10) ≡ or_null (last_of nodes))
end_link pages base nodes count whole list = (same_count (last_of nodes) (length pages) count whole.many (last_place pages null_address nodes null_address list.walk), list.last ∙ last_link nodes)
