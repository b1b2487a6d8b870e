use Rattle.std.proofs.Common.{◌≡◌, ◌≤◌, ◌<◌, ℕ, List, [], ◌∷◌, ◌-◌, length, get_or, take, drop, refl, sym, subst, arith}
use Rattle.json_binary.specs.Place.{container_of, spot_of}
use Rattle.json_edit.proofs.ChildLemmas.{parts}
use Rattle.json_patch.specs.Led.{StandsFor}
use Rattle.json_patch.specs.Touched.{value_at}
use Rattle.json_patch.proofs.PlaceLemmas.{kid_there}
use Rattle.json_patch.proofs.TrailLemmas.{inner_at}
use Rattle.json_patch.proofs.restored.+value_spot.Goals as goal

first_and_rest : (ks : List ℕ) → 1 ≤ length ks → ks ≡ get_or ks 0 0 ∷ take (length ks - 1) (drop 1 ks)
first_and_rest [] some = absurd (omega (arith, some))
first_and_rest (k ∷ ks) some = parts (k ∷ ks) k some refl

pub returns-in-Some-child-clause-at : goal.returns-in-Some-child-clause-at
returns-in-Some-child-clause-at l c =
    let bytes = c.args.bytes.now in
    let ks = c.args.positions.now in
    λ t v. subst (λ js. StandsFor bytes (value_at js t) c.value_spot.result) (sym (first_and_rest ks c.in-len1-up.len_at_least))
    (inner_at bytes t (spot_of c.args.spot) (container_of c.in-Some.container) (get_or ks 0 0) (take (length ks - 1) (drop 1 ks)) c.in-Some-child.inner c.value_spot.result v c.in-Some.ensures.place
    (subst (λ n. get_or ks 0 0 < n) c.count.ensures.count c.if-k-count.false) c.in-Some-child.ensures.place c.value_spot.ensures.at)

pub returns-in-None-clause-at : goal.returns-in-None-clause-at
returns-in-None-clause-at l c =
    λ t v. let kid = kid_there c.args.bytes.now t (spot_of c.args.spot) (container_of c.in-Some.container) (get_or c.args.positions.now 0 0) v c.in-Some.ensures.place
    (subst (λ n. get_or c.args.positions.now 0 0 < n) c.count.ensures.count c.if-k-count.false) in
    absurd (c.in-None.ensures.none kid.0 kid.1)
