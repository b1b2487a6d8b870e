-- What follows where a disk that tells no images is said to tell them: the law `seen_may_stay` of
-- such a disk.
use Rattle.std.specs.Prelude.{◌≡◌, Bool, true, false}
use Rattle.std.proofs.Common.{subst}

abbrev IsFalse : Bool → Type 0
IsFalse false = Unit {0}
IsFalse true = ⊥

pub untold : {A : Type 0} → false ≡ true → A
untold e = absurd (subst IsFalse e tt)
