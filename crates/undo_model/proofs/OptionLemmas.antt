-- What follows where a step of reading gave a value.
use Rattle.std.proofs.Common.{◌≡◌, Bool, true, false, cond, ◌&&◌, Option, Some, None, refl, ap}
use Rattle.std.specs.Option.{option_map, option_and_then}

-- two values given as the same are the same
pub some_some : {X : Type 0} (x y : X) → Some x ≡ Some y → x ≡ y
some_some {X} x y e = ap (λ (o : Option X). from x o) e
  where
    from : {X : Type 0} → X → Option X → X
    from d None = d
    from d (Some z) = z

-- no value isn't some value
pub not_some : {X : Type 0} (y : X) → None ≡ Some y → ⊥
not_some y e = cc

-- the test held
pub cond_some : {X : Type 0} (b : Bool) (o : Option X) (y : X) → cond b o None ≡ Some y → (b ≡ true) × (o ≡ Some y)
cond_some true o y e = (refl, e)
cond_some false o y e = absurd (not_some y e)

-- where two tests held together, each held
pub and_true : (a b : Bool) → (a && b) ≡ true → (a ≡ true) × (b ≡ true)
and_true true b e = (refl, e)
and_true false b e = (let f : false ≡ true = e in cc)

-- a value made of another was made of one that was given
pub map_some : {X Y : Type 0} (f : X → Y) (o : Option X) (y : Y) → option_map f o ≡ Some y → (x : X) × (o ≡ Some x) × (f x ≡ y)
map_some f None y e = absurd (not_some y e)
map_some f (Some x) y e = (x, refl, some_some (f x) y e)

-- a value from a second step came of one from the first
pub then_some : {X Y : Type 0} (f : X → Option Y) (o : Option X) (y : Y) → option_and_then f o ≡ Some y → (x : X) × (o ≡ Some x) × (f x ≡ Some y)
then_some f None y e = absurd (not_some y e)
then_some f (Some x) y e = (x, refl, e)
