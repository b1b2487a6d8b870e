-- What adding a piece may name.
use Rattle.std.proofs.Common.{◌≡◌, inl, inr, ℕ, Option, Some, None, IfSome, ap, subst}
use Rattle.page_model.specs.Pages.{Pages, Address, address_at, field}
use Rattle.page_model.specs.Steps.{PageState}
use Rattle.engine_base.specs.Faults.{IsHonest}
use Rattle.engine_base.specs.declared.fault.Fault.{Fault}
use Rattle.engine_base.specs.declared.fault.Fault.TheVariants.{Device, Strange}
use Rattle.file_lists.specs.Strange.{IsOddAtBack, IsOddLink}
use Rattle.page_space.specs.Answers.{IsSpentOrOdd}
use Rattle.lob_model.specs.Places.{heads_base}
use Rattle.lob_index.specs.Taking.{IsOddNode}
use Rattle.lob_bytes.specs.Growth.{IsOddTaking, IsOddAdding}

module _ (s t : PageState) (first len reserved : ℕ) where
  -- of the page of the data
  pub adding_taking : (f : Fault) → IsHonest (IsOddTaking s first len reserved) f → IsHonest (IsOddAdding s first len reserved) f
  adding_taking Device odd = tt
  adding_taking (Strange page at value) odd = inl odd

  -- of the node, as the call read it then
  pub adding_node : t.count ≡ s.count → (f : Fault) → IsHonest (IsOddNode t first) f → IsHonest (IsOddAdding s first len reserved) f
  adding_node same Device odd = tt
  adding_node same (Strange page at value) odd = inr (inl (record { mid = t; same = same; there = odd }))

  -- of the list of heads, as the call read it then
  pub adding_list : t.count ≡ s.count → (f : Fault) → IsHonest (IsOddAtBack t (heads_base first)) f → IsHonest (IsOddAdding s first len reserved) f
  adding_list same Device odd = tt
  adding_list same (Strange page at value) odd = inr (inr (record { mid = t; same = same; there = odd }))

  -- the address of the first head
  pub taking_link : (f : Fault) → IsHonest (IsOddLink s.told s.count first 68) f → IsHonest (IsOddTaking s first len reserved) f
  taking_link Device odd = tt
  taking_link (Strange page at value) odd = inl odd

  -- the count of free pages, of pages that are as they were at the call
  pub taking_spent : t.told ≡ s.told → t.count ≡ s.count → (f : Fault) → IsHonest (IsSpentOrOdd t.told t.count) f → IsHonest (IsOddTaking s first len reserved) f
  taking_spent told count Device odd = tt
  taking_spent told count (Strange page at value) odd =
      let P : Option Pages → Type 0 = λ o. IsSpentOrOdd o t.count page.0 at value in
      let Q : ℕ → Type 0 = λ n. IsSpentOrOdd s.told n page.0 at value in
      inr (inr (subst Q count (subst P told odd)))

-- the page in an address that was read
pub page_read : (told : Option Pages) (first at : ℕ) (a : Address) → IfSome told (λ pages. a ≡ address_at pages first at) → IfSome told (λ pages. a.page ≡ field pages first at 4)
page_read None first at a reads = tt
page_read (Some pages) first at a reads = ap (λ (b : Address). b.page) reads
