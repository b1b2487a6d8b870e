-- What other sessions hold, one document after the other; look-ups in it.
use Rattle.std.proofs.Common.{◌≡◌, ◌≢◌, ℕ, zero, suc, ◌+◌, ◌≤◌, List, [], ◌∷◌, ◌++◌, length, take, filter, slice_get, Option, Some, None, option_map, nat_eq, cond, Bool, true, false, not, refl, sym, ap, ◌∙◌, arith, inl, inr, ◌⊎◌, slice_index_or, replicate}
use Rattle.std.proofs.lemmas.Bool.{eq-eqb, ne_eqb, eqb-true}
use Rattle.std.proofs.lemmas.Option.{slice_get_within, get_or_from_slice_get}
use Rattle.std.proofs.lemmas.List.{take_more}
use Rattle.std.proofs.lemmas.List.Elements.{filter-append}
use Rattle.std.proofs.lemmas.Map.Entries.{option_filter, lookup-filter-values}
use Rattle.std.proofs.lemmas.Bool.Decides.{eqb_tells}
use Rattle.std.specs.Cmp.{IsEquivalence}
use Rattle.std.specs.List.{IsDistinct, AllByRecursion}
use Rattle.std.specs.Map.{keys_of, lookup}
use Rattle.engine_base.specs.declared.ids.SessionNo.{SessionNo}
use Rattle.row_locks.specs.Locks.{other_than}
use Rattle.row_locks.specs.Tables.{is_of_another}

-- one more
pub others_more : (s i : ℕ) (es : List (ℕ × SessionNo)) (e : ℕ × SessionNo)
    → slice_get es i ≡ Some e
    → filter (is_of_another s) (take (i + 1) es)
    ≡ filter (is_of_another s) (take i es) ++ filter (is_of_another s) (e ∷ [])
others_more s i es e at =
    ap (filter (is_of_another s)) (take_more es i e (slice_get_within es i e at)
    ∙ ap (λ x. take i es ++ x ∷ []) (get_or_from_slice_get es i e e at))
    ∙ filter-append (is_of_another s) (take i es) (e ∷ [])

pub others_few : (s : ℕ) (es : List (ℕ × SessionNo))
    → length (filter (is_of_another s) es) ≤ length es
others_few s [] = omega arith
others_few s (e ∷ es) = by (is_of_another s e) (others_few s es)
  where
    by : (b : Bool) → length (filter (is_of_another s) es) ≤ length es
        → length (cond b (e ∷ filter (is_of_another s) es)
        (filter (is_of_another s) es)) ≤ suc (length es)
    by true less = omega (arith, less)
    by false less = omega (arith, less)

-- a key that others follow by isn't found before its entry
key_apart : (k : ℕ) (es : List (ℕ × SessionNo)) (i : ℕ) (e : ℕ × SessionNo)
    → AllByRecursion (λ y. nat_eq k y ≡ false) (keys_of es) → slice_get es i ≡ Some e
    → nat_eq k e.0 ≡ false
key_apart k [] i e all at = absurd cc at
key_apart k (x ∷ es) zero e all at = cc (at, all.0)
key_apart k (x ∷ es) (suc i) e all at = key_apart k es i e all.1 at

flipped : (a b : ℕ) → nat_eq a b ≡ nat_eq b a
flipped a b = by (eqb_tells a b)
  where
    by : ((nat_eq a b ≡ true) × (a ≡ b)) ⊎ ((nat_eq a b ≡ false) × (a ≢ b)) → nat_eq a b ≡ nat_eq b a
    by (inl same) = same.0 ∙ sym (eq-eqb b a (sym same.1))
    by (inr other) = other.0 ∙ sym (ne_eqb b a (λ e. other.1 (sym e)))

nat_laws : IsEquivalence nat_eq
nat_laws = record {
  refl = λ x. eq-eqb x x refl;
  symm = flipped;
  congr = λ x y z e. ap (λ n. nat_eq n z) (eqb-true x y e);
}

-- nor among those of others before it
pub others_fresh : (s i : ℕ) (es : List (ℕ × SessionNo)) (e : ℕ × SessionNo)
    → IsDistinct nat_eq (keys_of es) → slice_get es i ≡ Some e
    → lookup (nat_eq e.0) (filter (is_of_another s) (take i es)) ≡ None
unfolding IsDistinct
others_fresh s i [] e apart at = absurd cc at
others_fresh s zero (x ∷ es) e apart at = refl
others_fresh s (suc i) (x ∷ es) e apart at =
    by (is_of_another s x) (others_fresh s i es e apart.1 at)
    (flipped e.0 x.0 ∙ key_apart x.0 es i e apart.0 at)
  where
    by : (b : Bool) → lookup (nat_eq e.0) (filter (is_of_another s) (take i es)) ≡ None
        → nat_eq e.0 x.0 ≡ false
        → lookup (nat_eq e.0) (cond b (x ∷ filter (is_of_another s) (take i es))
        (filter (is_of_another s) (take i es))) ≡ None
    by true rest other = rw other rest
    by false rest other = rest

-- of a document the holder that is another, where there is one
others_found : (s : ℕ) (o : Option SessionNo)
    → option_map (λ (h : SessionNo). h.0) (option_filter (λ (h : SessionNo). not (nat_eq h.0 s)) o)
    ≡ other_than s (option_map (λ (h : SessionNo). h.0) o)
others_found s None = refl
others_found s (Some h) = by (nat_eq h.0 s)
  where
    by : (b : Bool) → option_map (λ (h : SessionNo). h.0) (cond (not b) (Some h) None)
        ≡ cond b None (Some h.0)
    by true = refl
    by false = refl

pub others_hold : (s : ℕ) (es : List (ℕ × SessionNo)) (d : ℕ) → IsDistinct nat_eq (keys_of es)
    → option_map (λ (h : SessionNo). h.0) (lookup (nat_eq d) (filter (is_of_another s) es))
    ≡ other_than s (option_map (λ (h : SessionNo). h.0) (lookup (nat_eq d) es))
others_hold s es d apart =
    ap (option_map (λ (h : SessionNo). h.0))
    (lookup-filter-values nat_laws (λ (h : SessionNo). not (nat_eq h.0 s)) d es apart)
    ∙ others_found s (lookup (nat_eq d) es)

taken_few : (i : ℕ) (es : List (ℕ × SessionNo)) → length (take i es) ≤ i
taken_few zero es = omega arith
taken_few (suc i) [] = omega arith
taken_few (suc i) (e ∷ es) =
    let less : length (take i es) ≤ i = taken_few i es in omega (arith, less)

pub others_few_of : (s i : ℕ) (es : List (ℕ × SessionNo))
    → length (filter (is_of_another s) (take i es)) ≤ i
others_few_of s i es = omega (arith, others_few s (take i es), taken_few i es)

-- where nothing stands but None
pub nothing_asked : (T : Type 0) (n s : ℕ)
    → slice_index_or (replicate n (let x : Option T = None in x)) s None ≡ None
nothing_asked T zero s = refl
nothing_asked T (suc n) zero = refl
nothing_asked T (suc n) (suc s) = nothing_asked T n s
