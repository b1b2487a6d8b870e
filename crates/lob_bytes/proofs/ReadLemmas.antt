-- Reading a version's data, call by call.
use Rattle.std.proofs.Common.{◌≡◌, inl, inr, ℕ, ◌+◌, ◌≤◌, [], ◌∷◌, Option, Some, None, Result, Ok, Err, IfSome, IfErr, IsErr, IsErrAnd, refl, sym, subst, lit≤}
use Rattle.page_model.specs.Pages.{Pages, Address, field}
use Rattle.page_model.specs.Steps.{PageState, MayUse, Uses}
use Rattle.page_model.proofs.StepLemmas.{may_within, may_other, may_name, uses_more, uses_within, uses_other, uses_unnamed, within_one, within_two}
use Rattle.engine_base.specs.Faults.{IsHonest}
use Rattle.engine_base.specs.Addresses.{address_of}
use Rattle.engine_base.specs.declared.addr.Addr.{Addr}
use Rattle.engine_base.specs.declared.fault.Fault.{Fault}
use Rattle.engine_base.specs.declared.fault.Fault.TheVariants.{Device, Strange}
use Rattle.lob_pages.specs.declared.entry.Entry.{Entry}
use Rattle.lob_pages.specs.Entries.{IsEntryAt}
use Rattle.lob_bytes.specs.Reads.{NamesPlace, IsOddData}

module _ {T : Type 0} {state : T → PageState} {stays : T → T → Type 0} (add : (a b c : T) → stays a b → stays b c → stays a c) (a q : ℕ) (s t u : T) where
  pub type_may : MayUse (a ∷ []) 1 0 (state s) → Uses state stays (a ∷ []) 0 0 s t → MayUse (q ∷ []) 0 0 (state t)
  type_may may first = may_other (a ∷ []) q 1 0 0 0 0 s t (lit≤ tt) (lit≤ tt) may first

  pub type_uses : Uses state stays (a ∷ []) 0 0 s t → Uses state stays (q ∷ []) 0 0 t u → Uses state stays (a ∷ []) 1 0 s u
  type_uses first second = uses_other add (a ∷ []) q 0 0 0 s t u first second

  both : Uses state stays (a ∷ []) 0 0 s t → Uses state stays (q ∷ []) 0 0 t u → Uses state stays (q ∷ a ∷ []) 0 0 s u
  both first second = uses_within add (q ∷ a ∷ []) (q ∷ []) 0 0 0 0 s t u (within_one q (a ∷ [])) (uses_more (a ∷ []) (q ∷ a ∷ []) 0 0 0 0 s t first (within_two q a []) (lit≤ tt) (lit≤ tt)) second

  pub data_may : MayUse (a ∷ []) 1 0 (state s) → Uses state stays (a ∷ []) 0 0 s t → Uses state stays (q ∷ []) 0 0 t u → MayUse (q ∷ []) 0 0 (state u)
  data_may may first second = may_within (q ∷ a ∷ []) (q ∷ []) 0 0 0 0 0 0 s u (within_one q (a ∷ [])) (lit≤ tt) (lit≤ tt) (may_name q (a ∷ []) 0 0 (state s) may) (both first second)

  pub data_uses : (v : T) → Uses state stays (a ∷ []) 0 0 s t → Uses state stays (q ∷ []) 0 0 t u → Uses state stays (q ∷ []) 0 0 u v → Uses state stays (a ∷ []) 1 0 s v
  data_uses v first second third = uses_unnamed q (a ∷ []) 0 0 s v (uses_within add (q ∷ a ∷ []) (q ∷ []) 0 0 0 0 s u v (within_one q (a ∷ [])) (both first second) third)

-- ---- faults

read_parts : (told : Option Pages) (a : Address) (e : Entry) → IfSome told (λ pages. IsEntryAt pages a e) → IfSome told (λ pages. (e.page.0 ≡ field pages a.page (a.at + 48) 4) × (e.length ≡ field pages a.page (a.at + 52) 4))
read_parts None a e is = tt
read_parts (Some pages) a e is = (sym is.fields.page, sym is.fields.long)

-- a fault that names the entry's page number, which is no page's, is honest about the data
pub odd_page : {A : Type 0} (told : Option Pages) (count : ℕ) (a : Addr) (e : Entry) (v at : ℕ) (r : Result A Fault) → IfSome told (λ pages. IsEntryAt pages (address_of a) e) → v ≡ e.page.0 → at ≡ a.at + 48 → count ≤ e.page.0
    → r ≡ Err (Strange a.page at v) → IfErr r (IsHonest (IsOddData told count (address_of a)))
odd_page {A = A} told count a e v at r is same place past err =
    let P : Result A Fault → Type 0 = λ q. IfErr q (IsHonest (IsOddData told count (address_of a))) in
    subst P (sym err) (record { data_page = e.page.0; type = 0; size = e.length; reads = read_parts told (address_of a) e is; part = inl (refl, place, same, past) })

named : (told : Option Pages) (count : ℕ) (a : Addr) (e : Entry) (kind : ℕ) → IfSome told (λ pages. IsEntryAt pages (address_of a) e) → IfSome told (λ pages. kind ≡ field pages e.page.0 24 2)
    → (f : Fault) → NamesPlace (address_of a) e.page.0 kind e.length f → IsHonest (IsOddData told count (address_of a)) f
named told count a e kind is type Device names = absurd names
named told count a e kind is type (Strange page at value) names =
    record { data_page = e.page.0; type = kind; size = e.length; reads = read_parts told (address_of a) e is; part = inr (type, names) }

-- so is one that names the data page's type or the entry's length, where it is handed on
pub odd_type : {A B : Type 0} (told told' : Option Pages) (count : ℕ) (a : Addr) (e : Entry) (kind : ℕ) (r : Result A Fault) (s : Result B Fault) (f : Fault) → IfSome told (λ pages. IsEntryAt pages (address_of a) e) → told' ≡ told
    → IfSome told' (λ pages. kind ≡ field pages e.page.0 24 2) → IfErr r (NamesPlace (address_of a) e.page.0 kind e.length) → r ≡ Err f → IsErr s × IsErrAnd s (λ g. g ≡ f) → IfErr s (IsHonest (IsOddData told count (address_of a)))
odd_type told told' count a e kind r (Ok b) f is same type names was err = tt
odd_type {A = A} told told' count a e kind r (Err g) f is same type names was err =
    let P : Result A Fault → Type 0 = λ q. IfErr q (NamesPlace (address_of a) e.page.0 kind e.length) in
    let Q : Fault → Type 0 = λ h. IsHonest (IsOddData told count (address_of a)) h in
    let R : Option Pages → Type 0 = λ o. IfSome o (λ pages. kind ≡ field pages e.page.0 24 2) in
    subst Q (sym err.1) (named told count a e kind is (subst R same type) f (subst P was names))
