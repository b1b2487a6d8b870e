-- The runs between two lists of bytes, written over the old one, give the new one.
use Rattle.std.proofs.Common.{◌≡◌, ℕ, suc, Bool, true, false, ◌==◌, List, [], ◌∷◌, ◌++◌, length, drop, refl, sym, ap, ◌∙◌, arith, cond}
use Rattle.std.proofs.Math.Seq.{take-append_seam, drop-append-add}
use Rattle.std.proofs.lemmas.List.{length-append, append_assoc}
use Rattle.std.proofs.lemmas.Bool.{eqb-true}
use Rattle.binary_model.specs.Change.{written, Run, grown, runs_from, runs, put_all}

written_at : (pre bs new : List ℕ) → written (pre ++ bs) (length pre) new ≡ pre ++ (new ++ drop (length new) bs)
unfolding written
written_at pre bs new = rw (take-append_seam pre bs, drop-append-add pre bs (length new)) refl

-- one byte more in front is one byte less behind
pub behind_one : (pre : List ℕ) (y : ℕ) (xs : List ℕ) → (pre ++ y ∷ []) ++ xs ≡ pre ++ (y ∷ xs)
behind_one pre y xs = append_assoc pre (y ∷ []) xs

-- and makes the front longer by one
pub one_longer : (pre : List ℕ) (y : ℕ) → length (pre ++ y ∷ []) ≡ suc (length pre)
one_longer pre y = let e = length-append pre (y ∷ []) in omega (arith, e)

-- a byte, and more right behind it
written_twice : (pre : List ℕ) (x y : ℕ) (xs new : List ℕ) (at : ℕ) → suc (length pre) ≡ at → written (pre ++ (x ∷ xs)) (length pre) (y ∷ new) ≡ written (pre ++ (y ∷ xs)) at new
written_twice pre x y xs new at e =
    let place : length (pre ++ y ∷ []) ≡ at = one_longer pre y ∙ e in
    written_at pre (x ∷ xs) (y ∷ new)
    ∙ sym (behind_one pre y (new ++ drop (length new) xs))
    ∙ sym (written_at (pre ++ y ∷ []) xs new)
    ∙ ap (λ n. written ((pre ++ y ∷ []) ++ xs) n new) place
    ∙ ap (λ bs. written bs at new) (behind_one pre y xs)

put_one : (pre : List ℕ) (x y : ℕ) (xs : List ℕ) (rs : List Run) (b : Bool) (r : Run) → (suc (length pre) == r.at) ≡ b
    → put_all (cond b (record { at = length pre; before = x ∷ r.before; after = y ∷ r.after } ∷ rs) (record { at = length pre; before = x ∷ []; after = y ∷ [] } ∷ r ∷ rs)) (pre ++ (x ∷ xs))
    ≡ put_all (r ∷ rs) (pre ++ (y ∷ xs))
put_one pre x y xs rs true r e = ap (put_all rs) (written_twice pre x y xs r.after r.at (eqb-true (suc (length pre)) r.at e))
put_one pre x y xs rs false r e = ap (λ bs. put_all (r ∷ rs) bs) (written_at pre (x ∷ xs) (y ∷ []))

put_grown : (pre : List ℕ) (x y : ℕ) (xs : List ℕ) (rs : List Run) → put_all (grown (length pre) x y rs) (pre ++ (x ∷ xs)) ≡ put_all rs (pre ++ (y ∷ xs))
put_grown pre x y xs [] = written_at pre (x ∷ xs) (y ∷ [])
put_grown pre x y xs (r ∷ rs) = put_one pre x y xs rs (suc (length pre) == r.at) r refl

suc_same : {m n : ℕ} → suc m ≡ suc n → m ≡ n
suc_same h = omega (arith, h)

behind : (y : ℕ) (xs ys pre : List ℕ) → put_all (runs_from (length (pre ++ y ∷ [])) xs ys) ((pre ++ y ∷ []) ++ xs) ≡ (pre ++ y ∷ []) ++ ys
    → put_all (runs_from (suc (length pre)) xs ys) (pre ++ (y ∷ xs)) ≡ pre ++ (y ∷ ys)
behind y xs ys pre ih =
    ap (λ n. put_all (runs_from n xs ys) (pre ++ (y ∷ xs))) (sym (one_longer pre y))
    ∙ ap (λ bs. put_all (runs_from (length (pre ++ y ∷ [])) xs ys) bs) (sym (behind_one pre y xs))
    ∙ ih ∙ behind_one pre y ys

put_next : (x y : ℕ) (xs ys pre : List ℕ) → length xs ≡ length ys → put_all (runs_from (length (pre ++ y ∷ [])) xs ys) ((pre ++ y ∷ []) ++ xs) ≡ (pre ++ y ∷ []) ++ ys
    → (b : Bool) → (x == y) ≡ b → put_all (cond b (runs_from (suc (length pre)) xs ys) (grown (length pre) x y (runs_from (suc (length pre)) xs ys))) (pre ++ (x ∷ xs)) ≡ pre ++ (y ∷ ys)
put_next x y xs ys pre e ih true k =
    ap (λ z. put_all (runs_from (suc (length pre)) xs ys) (pre ++ (z ∷ xs))) (eqb-true x y k) ∙ behind y xs ys pre ih
put_next x y xs ys pre e ih false k = put_grown pre x y xs (runs_from (suc (length pre)) xs ys) ∙ behind y xs ys pre ih

put_runs : (xs ys pre : List ℕ) → length xs ≡ length ys → put_all (runs_from (length pre) xs ys) (pre ++ xs) ≡ pre ++ ys
put_runs [] [] pre e = refl
put_runs [] (y ∷ ys) pre e = let no : ⊥ = omega (arith, e) in absurd no
put_runs (x ∷ xs) [] pre e = let no : ⊥ = omega (arith, e) in absurd no
put_runs (x ∷ xs) (y ∷ ys) pre e = put_next x y xs ys pre (suc_same e) (put_runs xs ys (pre ++ y ∷ []) (suc_same e)) (x == y) refl

-- the runs put over the old bytes give the new ones
pub runs_applied : (old new : List ℕ) → length old ≡ length new → put_all (runs old new) old ≡ new
runs_applied old new e = put_runs old new [] e
