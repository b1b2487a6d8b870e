-- What is taken out of the directory in memory.
use Rattle.std.proofs.Common.{◌≡◌, ℕ, zero, suc, ◌<◌, ◌≤◌, nat_eq, nat_lt, not, Bool, true, false, cond, List, [], ◌∷◌, ◌++◌, length, take, position, Option, Some, None, is_some, IsSome, refl, sym, ap, subst, ◌∙◌, arith}
use Rattle.std.proofs.Common.{inl, inr, Result, Ok, Err, OnOk, OnErr}
use Rattle.std.specs.Option.{unwrap_or}
use Rattle.std.specs.Map.{keys_of}
use Rattle.std.specs.List.{position_or_len, swap_remove}
use Rattle.std.proofs.lemmas.Bool.{cases_Bool, eq-eqb}
use Rattle.std.proofs.lemmas.List.{length-map}
use Rattle.indexmap.specs.IndexMap.{swap_remove_entry}
use Rattle.indexmap.proofs.SetLemmas.{map-swap_remove}
use Rattle.indexmap.proofs.MapLemmas.{swap_remove_entry-found}
use Rattle.engine_base.specs.declared.addr.Addr.{Addr}
use Rattle.engine_base.specs.declared.ids.DocId.{DocId}
use Rattle.row_dir.specs.Directory.{AreFull, numbers}

-- the documents, with the last in the place of one, as the map has them
pub docs_swapped : (t : ℕ → Bool) (ds : List DocId) (es : List (ℕ × Addr)) (i : ℕ) (d : DocId) (v : Addr) → Some i ≡ position t (keys_of es) → i < length ds → numbers ds ≡ keys_of es
    → numbers (swap_remove ds i d) ≡ keys_of (swap_remove_entry t es)
docs_swapped t ds es i d v at within same =
    let some : 0 < length ds = omega (arith, within) in
    let many : length ds ≡ length es = sym (length-map ds (λ (x : DocId). x.0)) ∙ (ap length same ∙ length-map es (λ (e : ℕ × Addr). e.0)) in
    map-swap_remove (λ (x : DocId). x.0) ds i d some ∙ (ap (λ (ns : List ℕ). swap_remove ns i d.0) same
    ∙ (sym (map-swap_remove (λ (e : ℕ × Addr). e.0) es i (d.0, v) (omega (arith, some, many)))
    ∙ ap keys_of (sym (swap_remove_entry-found t es i (d.0, v) (sym at)))))

-- the place of a page among the keys
low_place : (n f : ℕ) (before behind : List (ℕ × ℕ)) → position_or_len (nat_eq n) (keys_of (before ++ (n, f) ∷ behind)) ≤ length before
low_place n f [] behind = let e : not (nat_eq n n) ≡ false = ap not (eq-eqb n n refl) in rw e (omega arith)
low_place n f (b ∷ before) behind = elim (cases_Bool (nat_eq n b.0)) [
  | inl same ↦ rw same (omega arith)
  | inr other ↦ rw other (let r = low_place n f before behind in omega (arith, r))
]

pub low_index : (n f : ℕ) (before behind entries : List (ℕ × ℕ)) (r : Option ℕ) → r ≡ position (nat_eq n) (keys_of entries) → entries ≡ before ++ (n, f) ∷ behind → unwrap_or r 0 ≤ length before
low_index n f before behind entries r is split =
    let all : List (ℕ × ℕ) → Type 0 = λ es. unwrap_or (position (nat_eq n) (keys_of es)) 0 ≤ length before in
    subst (λ (o : Option ℕ). unwrap_or o 0 ≤ length before) (sym is) (subst all (sym split) (by (nat_lt (position_or_len (nat_eq n) (keys_of (before ++ (n, f) ∷ behind))) (length (keys_of (before ++ (n, f) ∷ behind))))))
  where
    by : (b : Bool) → unwrap_or (cond b (Some (position_or_len (nat_eq n) (keys_of (before ++ (n, f) ∷ behind)))) None) 0 ≤ length before
    by true = low_place n f before behind
    by false = omega arith

-- fewer first pages are full too, whatever is behind them
pub full_less : (before rest rest' : List (ℕ × ℕ)) (m m' : ℕ) → AreFull (take m (before ++ rest)) → m' ≤ m → m' ≤ length before → AreFull (take m' (before ++ rest'))
full_less [] rest rest' m zero full less low = tt
full_less [] rest rest' m (suc m') full less low = absurd (omega (arith, low))
full_less (b ∷ before) rest rest' m zero full less low = tt
full_less (b ∷ before) rest rest' zero (suc m') full less low = absurd (omega (arith, less))
full_less (b ∷ before) rest rest' (suc m) (suc m') full less low = (full.0, full_less before rest rest' m m' full.1 (omega (arith, less)) (omega (arith, low)))

pub present_ok : {A B P : Type 0} {C : Type 0} (r : Result A B) (o : Option C) → OnErr r (o ≡ None) → IsSome o → OnOk r P → P
present_ok (Ok x) o err some ok = ok
present_ok (Err e) o err some ok = absurd (clash (ap is_some err) some)
  where
    clash : is_some o ≡ false → is_some o ≡ true → ⊥
    clash a b = let e : false ≡ true = sym a ∙ b in cc
