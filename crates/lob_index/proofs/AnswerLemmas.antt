-- What an answer says, it says of what follows from it.
use Rattle.std.proofs.Common.{◌≡◌, Option, Some, None, Result, Ok, Err, IfOk, OnOk, refl, subst}
use Rattle.page_model.specs.Pages.{Pages, Address}
use Rattle.page_model.specs.Steps.{Becomes}
use Rattle.engine_base.specs.declared.fault.Fault.{Fault}

-- what an Ok answer gives, it gives of what follows from it
pub on_ok : {A : Type 0} (P Q : Type 0) (r : Result A Fault) → (P → Q) → OnOk r P → OnOk r Q
on_ok P Q (Ok a) so p = so p
on_ok P Q (Err e) so p = tt

-- what pages become, they become of what follows from it
pub becomes_on : (P Q : Pages → Type 0) (told : Option Pages) → ((pages : Pages) → P pages → Q pages) → Becomes told P → Becomes told Q
becomes_on P Q told so is = (is.0, is.1, so is.0 is.2)

-- what a value answered has, it has of what follows from it
pub if_ok : {A : Type 0} (P Q : A → Type 0) (r : Result A Fault) → ((a : A) → P a → Q a) → IfOk r P → IfOk r Q
if_ok P Q (Ok a) so p = so a p
if_ok P Q (Err e) so p = tt

-- two links that are the same
pub same_some : (a b : Address) → Some a ≡ Some b → a ≡ b
same_some a b e = subst IsThis e refl
  where
    IsThis : Option Address → Type 0
    IsThis None = ⊥
    IsThis (Some c) = a ≡ c

-- no link is one
pub none_there : {A : Type 0} (x : Address) → None ≡ Some x → A
none_there x e = absurd (subst IsNo e tt)
  where
    IsNo : Option Address → Type 0
    IsNo None = Unit {0}
    IsNo (Some c) = ⊥
