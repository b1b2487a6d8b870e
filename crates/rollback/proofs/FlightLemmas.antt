-- Reads turned one after another.
use Rattle.std.proofs.Common.{◌≡◌, ℕ, zero, suc, ◌+◌, ◌<◌, List, [], ◌∷◌, length, take, drop, get_or, slice_set, refl, sym, subst, arith}
use Rattle.read_model.specs.Flight.{Flight as Read}
use Rattle.read_views.specs.declared.flight.Flight.{Flight}
use Rattle.read_views.specs.Flights.{flight_of, KeepsPlaces}
use Rattle.rollback.specs.Flights.{AreTurned}

abbrev Turned : (Flight → Read) → ℕ → List Flight → List Flight → Type 0
Turned turn n old new = AreTurned turn (take n old) (take n new) × (drop n new ≡ drop n old)

step_at : (turn : Flight → Read) (i : ℕ) (old cur : List Flight) (d g : Flight) → i < length cur
    → Turned turn i old cur → flight_of g ≡ turn (get_or cur i d) → KeepsPlaces (get_or cur i d) g
    → Turned turn (suc i) old (slice_set cur i g)
step_at turn i old [] d g low are turned keeps = absurd (omega (arith, low))
step_at turn zero old (c ∷ cs) d g low are turned keeps =
    subst (λ (xs : List Flight). Turned turn 1 xs (g ∷ cs)) are.1 ((turned, keeps, tt), refl)
step_at turn (suc i) [] (c ∷ cs) d g low are turned keeps = absurd are.0
step_at turn (suc i) (o ∷ os) (c ∷ cs) d g low are turned keeps =
    let r = step_at turn i os cs d g (omega (arith, low)) (are.0.2, are.1) turned keeps in
    ((are.0.0, are.0.1, r.0), r.1)

pub turned_step : (turn : Flight → Read) (i : ℕ) (old cur : List Flight) (d g : Flight)
    → i < length old → length cur ≡ length old
    → Turned turn i old cur → flight_of g ≡ turn (get_or cur i d) → KeepsPlaces (get_or cur i d) g
    → Turned turn (i + 1) old (slice_set cur i g)
turned_step turn i old cur d g low same are turned keeps =
    let e : suc i ≡ i + 1 = omega arith in
    subst (λ (n : ℕ). Turned turn n old (slice_set cur i g)) e
    (step_at turn i old cur d g (omega (arith, low, same)) are turned keeps)

-- so are all of them
pub turned_all : (turn : Flight → Read) (n : ℕ) (old new : List Flight) → length new ≡ length old
    → n ≡ length old → AreTurned turn (take n old) (take n new) → AreTurned turn old new
turned_all turn n [] [] same is are = tt
turned_all turn n [] (g ∷ gs) same is are = absurd (let e : suc (length gs) ≡ 0 = same in omega (arith, e))
turned_all turn n (f ∷ fs) [] same is are = absurd (let e : 0 ≡ suc (length fs) = same in omega (arith, e))
turned_all turn n (f ∷ fs) (g ∷ gs) same is are =
    let all : AreTurned turn (f ∷ take (length fs) fs) (g ∷ take (length fs) gs) =
    subst (λ (k : ℕ). AreTurned turn (take k (f ∷ fs)) (take k (g ∷ gs))) is are in
    (all.0, all.1, turned_all turn (length fs) fs gs (omega (arith, same)) refl all.2)

-- none is turned
pub all_still : (turn : Flight → Read) → ((f : Flight) → turn f ≡ flight_of f) → (fs : List Flight)
    → AreTurned turn fs fs
all_still turn same [] = tt
all_still turn same (f ∷ fs) = (
  sym (same f),
  record { view = refl; doc = refl; phase = refl; piece = refl; head = refl; from = refl; buffer = refl },
  all_still turn same fs,
)
