-- What the calls that change rows may name.
use Rattle.std.proofs.Common.{◌≡◌, ◌≢◌, inl, inr, ℕ, suc, ◌∙◌, ◌+◌, ◌*◌, ◌<◌, ◌≤◌, nat_eq, Option, Some, None, IfSome, sym, subst, arith}
use Rattle.std.proofs.lemmas.Bool.Decides.{leb_tells}
use Rattle.indexmap.specs.IndexMap.{get}
use Rattle.page_model.specs.Pages.{Pages, field}
use Rattle.engine_base.specs.Faults.{IsHonest}
use Rattle.engine_base.specs.declared.fault.Fault.{Fault}
use Rattle.engine_base.specs.declared.fault.Fault.TheVariants.{Device, Strange}
use Rattle.row_dir.specs.declared.dir.RowDir.{RowDir}
use Rattle.row_dir.specs.Honest.{IsNoSlot, IsOddFill}

-- ---- the slots that were passed

-- no slot before that place is free
abbrev pub NoneBefore : Option Pages → ℕ → ℕ → Type 0
NoneBefore told page at = IfSome told (λ pages. (k : ℕ) → 52 + 40 * k < at → field pages page (52 + 40 * k) 1 ≢ 0)

pub none_more : (told told' : Option Pages) (page at n value : ℕ) → told' ≡ told → at ≡ 52 + 40 * n → NoneBefore told page at → IfSome told' (λ pages. value ≡ field pages page at 1) → value ≢ 0 → NoneBefore told page (at + 40)
none_more None told' page at n value same steps before reads other = tt
none_more (Some pages) told' page at n value same steps before reads other = λ k low. elim (leb_tells (suc k) n) [
  | inl less ↦ before k (let l = less.1 in omega (arith, l, steps))
  | inr rest ↦ last k (let r = rest.1 in omega (arith, r, low, steps))
]
  where
    here : value ≡ field pages page at 1
    here = let P : Option Pages → Type 0 = λ o. IfSome o (λ ps. value ≡ field ps page at 1) in subst P same reads

    last : (k : ℕ) → 52 + 40 * k ≡ at → field pages page (52 + 40 * k) 1 ≢ 0
    last k e zero = other (here ∙ subst (λ a. field pages page a 1 ≡ 0) e zero)

-- ---- putting

pub fill_odd : (dir : RowDir) (told : Option Pages) (n free : ℕ) → get nat_eq dir.pages n ≡ Some free → 1 ≤ free → (f : Fault) → IsHonest (IsNoSlot told n) f → IsHonest (IsOddFill dir told) f
fill_odd dir told n free has some Device odd = tt
fill_odd dir told n free has some (Strange page at value) odd =
    let here = sym odd.same_page in
    record {
      free = free;
      has = subst (λ (m : ℕ). get nat_eq dir.pages m ≡ Some free) here has;
      some = some;
      odd = subst (λ (m : ℕ). IsNoSlot told m page.0 at value) here odd;
    }
