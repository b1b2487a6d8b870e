-- The runs between two lists are the maximal ones, and lead back too.
use Rattle.std.proofs.Common.{◌≡◌, ◌≢◌, ◌≤◌, ◌⊎◌, ◌↔◌, ℕ, zero, suc, ◌+◌, Bool, true, false, ◌==◌, List, [], ◌∷◌, ◌++◌, length, drop, slice_index, refl, sym, ap, subst, ◌∙◌, arith, cond, inl, inr}
use Rattle.std.proofs.lemmas.Bool.{cases_eq}
use Rattle.std.proofs.Math.Seq.{drop-append_seam, drop-append-add}
use Rattle.std.proofs.lemmas.Bool.{eqb-true, eqb-false, eq-eqb, ne_eqb}
use Rattle.binary_model.specs.Place.{Holds}
use Rattle.binary_model.specs.Change.{written, Run, run_length, grown, runs_from, runs, put_all, put_back, differing, places_apart, InRuns, AreApart, StandAt, AreMaximal}
use Rattle.binary_model.proofs.runs.RunLemmas.{behind_one, one_longer, runs_applied}

-- ---- back

turned : Run → Run
turned r = record { at = r.at; before = r.after; after = r.before }

turn : List Run → List Run
turn [] = []
turn (r ∷ rs) = record { at = r.at; before = r.after; after = r.before } ∷ turn rs

put_turned : (rs : List Run) (bytes : List ℕ) → put_back rs bytes ≡ put_all (turn rs) bytes
unfolding turn
put_turned [] bytes = refl
put_turned (r ∷ rs) bytes = put_turned rs (written bytes r.at r.before)

grown_turned : (at x y : ℕ) (rs : List Run) → turn (grown at x y rs) ≡ grown at y x (turn rs)
unfolding turn
grown_turned at x y [] = refl
grown_turned at x y (r ∷ rs) = go (suc at == r.at)
  where
    go : (b : Bool) → turn (cond b (record { at = at; before = x ∷ r.before; after = y ∷ r.after } ∷ rs) (record { at = at; before = x ∷ []; after = y ∷ [] } ∷ r ∷ rs))
        ≡ cond b (record { at = at; before = y ∷ r.after; after = x ∷ r.before } ∷ turn rs) (record { at = at; before = y ∷ []; after = x ∷ [] } ∷ record { at = r.at; before = r.after; after = r.before } ∷ turn rs)
    go true = refl
    go false = refl

same_turned : (x y : ℕ) → (x == y) ≡ (y == x)
same_turned x y = go (x == y) refl
  where
    go : (b : Bool) → (x == y) ≡ b → b ≡ (y == x)
    go true e = sym (eq-eqb y x (sym (eqb-true x y e)))
    go false e = sym (ne_eqb y x (λ f. eqb-false x y e (sym f)))

runs_turned : (at : ℕ) (xs ys : List ℕ) → length xs ≡ length ys → turn (runs_from at xs ys) ≡ runs_from at ys xs
unfolding turn
runs_turned at [] [] e = refl
runs_turned at [] (y ∷ ys) e = let no : ⊥ = omega (arith, e) in absurd no
runs_turned at (x ∷ xs) [] e = let no : ⊥ = omega (arith, e) in absurd no
runs_turned at (x ∷ xs) (y ∷ ys) e = go (x == y) (runs_turned (suc at) xs ys (omega (arith, e))) ∙ ap (λ b. cond b (runs_from (suc at) ys xs) (grown at y x (runs_from (suc at) ys xs))) (same_turned x y)
  where
    go : (b : Bool) → turn (runs_from (suc at) xs ys) ≡ runs_from (suc at) ys xs
        → turn (cond b (runs_from (suc at) xs ys) (grown at x y (runs_from (suc at) xs ys))) ≡ cond b (runs_from (suc at) ys xs) (grown at y x (runs_from (suc at) ys xs))
    go true h = h
    go false h = grown_turned at x y (runs_from (suc at) xs ys) ∙ ap (grown at y x) h

-- the runs put back over the new bytes give the old ones
pub runs_put_back : (old new : List ℕ) → length old ≡ length new → put_back (runs old new) new ≡ old
runs_put_back old new e = put_turned (runs old new) new ∙ ap (λ rs. put_all rs new) (runs_turned 0 old new e) ∙ runs_applied new old (sym e)

-- ---- how many places

grown_places : (at x y : ℕ) (rs : List Run) → differing (grown at x y rs) ≡ suc (differing rs)
grown_places at x y [] = omega arith
grown_places at x y (r ∷ rs) = go (suc at == r.at)
  where
    go : (b : Bool) → differing (cond b (record { at = at; before = x ∷ r.before; after = y ∷ r.after } ∷ rs) (record { at = at; before = x ∷ []; after = y ∷ [] } ∷ r ∷ rs)) ≡ suc (length r.before + differing rs)
    go true = omega arith
    go false = omega arith

places_from : (at : ℕ) (xs ys : List ℕ) → differing (runs_from at xs ys) ≡ places_apart xs ys
places_from at [] ys = refl
places_from at (x ∷ xs) [] = refl
places_from at (x ∷ xs) (y ∷ ys) = go (x == y) (places_from (suc at) xs ys)
  where
    go : (b : Bool) → differing (runs_from (suc at) xs ys) ≡ places_apart xs ys → differing (cond b (runs_from (suc at) xs ys) (grown at x y (runs_from (suc at) xs ys))) ≡ cond b (places_apart xs ys) (suc (places_apart xs ys))
    go true h = h
    go false h = grown_places at x y (runs_from (suc at) xs ys) ∙ ap suc h

-- the runs have as many places as differ
pub runs_places : (old new : List ℕ) → differing (runs old new) ≡ places_apart old new
runs_places old new = places_from 0 old new

-- ---- maximal

-- what holds of the runs between lists that stand from a place on, behind others
record Maximal (at : ℕ) (old new xs ys : List ℕ) (rs : List Run) : Type 0 where
  pub apart : AreApart at rs
  pub stand : StandAt old new rs
  pub places : (i : ℕ) → InRuns rs (at + i) ↔ (slice_index xs i ≢ slice_index ys i)

runs_above : (rs : List Run) (low i : ℕ) → AreApart low rs → InRuns rs i → low ≤ i
runs_above [] low i a h = absurd h
runs_above (r ∷ rs) low i a (inl h) = let first = a.0 in let at = h.0 in omega (arith, first, at)
runs_above (r ∷ rs) low i a (inr h) = let first = a.0 in let more = runs_above rs (suc (r.at + run_length r)) i a.2 h in omega (arith, first, more)

apart_lower : (rs : List Run) (low high : ℕ) → low ≤ high → AreApart high rs → AreApart low rs
apart_lower [] low high e a = tt
apart_lower (r ∷ rs) low high e a = let first = a.0 in (omega (arith, e, first), a.1, a.2)

-- a byte in front of bytes that stand right behind it
held_grown : (pre : List ℕ) (x : ℕ) (xs zs : List ℕ) → Holds (pre ++ (x ∷ xs)) (suc (length pre)) zs → Holds (pre ++ (x ∷ xs)) (length pre) (x ∷ zs)
held_grown pre x xs zs h =
    let one : length pre + 1 ≡ suc (length pre) = omega arith in
    let behind : xs ≡ zs ++ h.post =
    sym (ap (λ n. drop n (pre ++ (x ∷ xs))) (sym one) ∙ drop-append-add pre (x ∷ xs) 1)
    ∙ ap (drop (suc (length pre))) h.whole ∙ ap (λ n. drop n (h.pre ++ (zs ++ h.post))) (sym h.place) ∙ drop-append_seam h.pre (zs ++ h.post) in
    record { pre = pre; post = h.post; whole = ap (λ r. pre ++ (x ∷ r)) behind; place = refl }

held_one : (pre : List ℕ) (x : ℕ) (xs : List ℕ) → Holds (pre ++ (x ∷ xs)) (length pre) (x ∷ [])
held_one pre x xs = record { pre = pre; post = xs; whole = refl; place = refl }

moved_held : {bytes : List ℕ} {zs : List ℕ} (at place : ℕ) → at ≡ place → Holds bytes at zs → Holds bytes place zs
moved_held {bytes} {zs} at place e h = subst (λ n. Holds bytes n zs) e h

-- a place is the first one, or in what grew
abbrev GrowsAt : ℕ → ℕ → ℕ → List Run → List Run → ℕ → Type 0
GrowsAt at x y rs new i = InRuns new i ↔ ((i ≡ at) ⊎ InRuns rs i)

grown_in : (at x y : ℕ) (rs : List Run) (i : ℕ) → AreApart (suc at) rs → GrowsAt at x y rs (grown at x y rs) i
grown_in at x y [] i a = ((λ h. elim h [ inl s ↦ inl (let l = s.0 in let u = s.1 in omega (arith, l, u)) | inr n ↦ absurd n ]), (λ h. elim h [ inl e ↦ inl (omega (arith, e), omega (arith, e)) | inr n ↦ absurd n ]))
grown_in at x y (r ∷ rs) i a = go (suc at == r.at) refl
  where
    go : (b : Bool) → (suc at == r.at) ≡ b → GrowsAt at x y (r ∷ rs) (cond b (record { at = at; before = x ∷ r.before; after = y ∷ r.after } ∷ rs) (record { at = at; before = x ∷ []; after = y ∷ [] } ∷ r ∷ rs)) i
    go true e =
        let next = eqb-true (suc at) r.at e in (
          (λ h. elim h [
            | inl s ↦ (let l = s.0 in let u = s.1 in elim (cases_eq i at) [ inl f ↦ inl f | inr f ↦ inr (inl (omega (arith, l, f, next), omega (arith, u, next))) ])
            | inr s ↦ inr (inr s)
          ]),
          (λ h. elim h [
            | inl f ↦ inl (omega (arith, f), omega (arith, f))
            | inr s ↦ elim s [ inl s ↦ inl (let l = s.0 in omega (arith, l, next), let u = s.1 in omega (arith, u, next)) | inr s ↦ inr s ]
          ]),
        )
    go false e = ((λ h. elim h [ inl s ↦ inl (let l = s.0 in let u = s.1 in omega (arith, l, u)) | inr s ↦ inr s ]), (λ h. elim h [ inl f ↦ inl (omega (arith, f), omega (arith, f)) | inr s ↦ inr s ]))

abbrev Grown : ℕ → List ℕ → List ℕ → List Run → Type 0
Grown at old new rs = AreApart at rs × StandAt old new rs

grown_stand : (pre other : List ℕ) (x y : ℕ) (xs ys : List ℕ) (rs : List Run) → length pre ≡ length other → AreApart (suc (length pre)) rs → StandAt (pre ++ (x ∷ xs)) (other ++ (y ∷ ys)) rs
    → Grown (length pre) (pre ++ (x ∷ xs)) (other ++ (y ∷ ys)) (grown (length pre) x y rs)
grown_stand pre other x y xs ys [] e a s = ((omega arith, (omega arith, omega arith), tt), (held_one pre x xs, moved_held (length other) (length pre) (sym e) (held_one other y ys), tt))
grown_stand pre other x y xs ys (r ∷ rs) e a s = go (suc (length pre) == r.at) refl
  where
    go : (b : Bool) → (suc (length pre) == r.at) ≡ b
        → Grown (length pre) (pre ++ (x ∷ xs)) (other ++ (y ∷ ys)) (cond b (record { at = length pre; before = x ∷ r.before; after = y ∷ r.after } ∷ rs) (record { at = length pre; before = x ∷ []; after = y ∷ [] } ∷ r ∷ rs))
    go true f =
        let next = eqb-true (suc (length pre)) r.at f in
        let size = a.1.1 in
        let there : r.at ≡ suc (length other) = omega (arith, next, e) in
        let far : suc (length pre + suc (run_length r)) ≡ suc (r.at + run_length r) = omega (arith, next) in (
          (omega arith, (omega arith, ap suc size), subst (λ n. AreApart n rs) (sym far) a.2),
          (held_grown pre x xs r.before (moved_held r.at (suc (length pre)) (sym next) s.0), moved_held (length other) (length pre) (sym e) (held_grown other y ys r.after (moved_held r.at (suc (length other)) there s.1)), s.2),
        )
    go false f =
        let first = a.0 in
        let apart = eqb-false (suc (length pre)) r.at f in (
          (omega arith, (omega arith, omega arith), (omega (arith, first, apart), a.1, a.2)),
          (held_one pre x xs, moved_held (length other) (length pre) (sym e) (held_one other y ys), (s.0, s.1, s.2)),
        )

joined : (pre other : List ℕ) (x y : ℕ) (xs ys : List ℕ) (rs : List Run) → length pre ≡ length other → Maximal (suc (length pre)) (pre ++ (x ∷ xs)) (other ++ (y ∷ ys)) xs ys rs → (b : Bool) → (x == y) ≡ b
    → Maximal (length pre) (pre ++ (x ∷ xs)) (other ++ (y ∷ ys)) (x ∷ xs) (y ∷ ys) (cond b rs (grown (length pre) x y rs))
joined pre other x y xs ys rs e m true same = record {
  apart = apart_lower rs (length pre) (suc (length pre)) (omega arith) m.apart;
  stand = m.stand;
  places = place;
}
  where
    place : (i : ℕ) → InRuns rs (length pre + i) ↔ (slice_index (x ∷ xs) i ≢ slice_index (y ∷ ys) i)
    place zero = ((λ h. let far = runs_above rs (suc (length pre)) (length pre + 0) m.apart h in let no : ⊥ = omega (arith, far) in absurd no), (λ h. absurd (h (eqb-true x y same))))
    place (suc i) = let at : suc (length pre) + i ≡ length pre + suc i = omega arith in subst (λ n. InRuns rs n ↔ (slice_index xs i ≢ slice_index ys i)) at (m.places i)
joined pre other x y xs ys rs e m false apart =
    let g = grown_stand pre other x y xs ys rs e m.apart m.stand in
    record { apart = g.0; stand = g.1; places = place }
  where
    place : (i : ℕ) → InRuns (grown (length pre) x y rs) (length pre + i) ↔ (slice_index (x ∷ xs) i ≢ slice_index (y ∷ ys) i)
    place zero = ((λ h. eqb-false x y apart), (λ h. (grown_in (length pre) x y rs (length pre + 0) m.apart).1 (inl (omega arith))))
    place (suc i) =
        let at : suc (length pre) + i ≡ length pre + suc i = omega arith in
        let here : InRuns rs (length pre + suc i) ↔ (slice_index xs i ≢ slice_index ys i) = subst (λ n. InRuns rs n ↔ (slice_index xs i ≢ slice_index ys i)) at (m.places i) in
        let grows = grown_in (length pre) x y rs (length pre + suc i) m.apart in
        ((λ h. elim (grows.0 h) [ inl f ↦ (let no : ⊥ = omega (arith, f) in absurd no) | inr r ↦ here.0 r ]), (λ h. grows.1 (inr (here.1 h))))

maximal_from : (xs ys pre other : List ℕ) → length pre ≡ length other → length xs ≡ length ys → Maximal (length pre) (pre ++ xs) (other ++ ys) xs ys (runs_from (length pre) xs ys)
maximal_from [] [] pre other e f = record { apart = tt; stand = tt; places = λ i. ((λ h. absurd h), (λ h. absurd (h refl))) }
maximal_from [] (y ∷ ys) pre other e f = let no : ⊥ = omega (arith, f) in absurd no
maximal_from (x ∷ xs) [] pre other e f = let no : ⊥ = omega (arith, f) in absurd no
maximal_from (x ∷ xs) (y ∷ ys) pre other e f =
    let long = one_longer pre x in
    let more = maximal_from xs ys (pre ++ x ∷ []) (other ++ y ∷ []) (long ∙ ap suc e ∙ sym (one_longer other y)) (omega (arith, f)) in
    let whole : Maximal (suc (length pre)) (pre ++ (x ∷ xs)) (other ++ (y ∷ ys)) xs ys (runs_from (suc (length pre)) xs ys) =
    subst (λ n. Maximal n (pre ++ (x ∷ xs)) (other ++ (y ∷ ys)) xs ys (runs_from n xs ys)) long
    (subst (λ r. Maximal (length (pre ++ x ∷ [])) r (other ++ (y ∷ ys)) xs ys (runs_from (length (pre ++ x ∷ [])) xs ys)) (behind_one pre x xs)
    (subst (λ r. Maximal (length (pre ++ x ∷ [])) ((pre ++ x ∷ []) ++ xs) r xs ys (runs_from (length (pre ++ x ∷ [])) xs ys)) (behind_one other y ys) more)) in
    joined pre other x y xs ys (runs_from (suc (length pre)) xs ys) e whole (x == y) refl

-- the runs are the maximal ones
pub runs_maximal : (old new : List ℕ) → length old ≡ length new → AreMaximal old new (runs old new)
runs_maximal old new e =
    let m = maximal_from old new [] [] refl e in
    record { apart = m.apart; stand = m.stand; places = λ i. let z : 0 + i ≡ i = omega arith in subst (λ n. InRuns (runs old new) n ↔ (slice_index old i ≢ slice_index new i)) z (m.places i) }
