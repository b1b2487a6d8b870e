-- The lines of a script and the lists of its statements, and one line more.
use Rattle.std.proofs.Common.{◌≡◌, ◌≢◌, ◌<◌, ◌≤◌, ℕ, zero, suc, ◌+◌, Bool, true, false, eqb, List, [], ◌∷◌, ◌++◌, map, length, set, Option, Some, None, refl, sym, ap, ◌∙◌, arith, append-nil, append_assoc}
use Rattle.std.proofs.lemmas.Grind.{common_steps}
use Rattle.std.proofs.lemmas.Option.{slice_get_read, slice_get_within, slice_get-get_or}
use Rattle.std.specs.Prelude.{is_err, Result, Ok, Err, OnOk, IfSome, slice_get, get_or, Vec, if◌then◌else◌}
use Rattle.std.specs.declared.alloc.Global.{Global}
use Rattle.journal_model.specs.Journal as journal
use Rattle.journal_model.specs.Journal.{Script, Line, say, step, purge, checkpoint, audit, restart, statements}
use Rattle.journal_model.specs.ScriptText.{with_statement}
use Rattle.statements.specs.Forms.{statement_of}
use Rattle.statements.specs.Lines.{IsGrown, AreLists, shape_of}
use Rattle.statements.specs.declared.statement.Statement.{Statement}
use Rattle.statements.specs.declared.script.Line as declared_line

-- ---- calls that may fail

-- what follows from what holds where a call is Ok holds there too
pub on_ok : {A E : Type 0} {P Q : Type 0} (r : Result A E) → OnOk r P → (P → Q) → OnOk r Q
on_ok (Ok x) h f = f h
on_ok (Err e) h f = tt

-- and what follows from two such facts
pub both_ok : {A E : Type 0} {P Q R : Type 0} (r : Result A E) → OnOk r P → OnOk r Q → (P → Q → R) → OnOk r R
both_ok (Ok x) h g f = f h g
both_ok (Err e) h g f = tt

-- what holds where a call is Ok holds where the call is no error
pub where_ok : {A E : Type 0} {P : Type 0} (r : Result A E) → OnOk r P → is_err r ≡ false → P
where_ok (Ok x) p h = p
where_ok (Err e) p h = cc

-- ---- a list that is written back

at_same : {A : Type 0} (xs : List A) (i : ℕ) (w : A) → i < length xs → slice_get (set xs i w) i ≡ Some w
at_same [] i w h = absurd (omega (arith, h))
at_same (x ∷ xs) zero w h = refl
at_same (x ∷ xs) (suc i) w h = at_same xs i w (omega (arith, h))

at_other : {A : Type 0} (xs : List A) (i k : ℕ) (w : A) → k ≢ i → slice_get (set xs i w) k ≡ slice_get xs k
at_other [] i k w h = refl
at_other (x ∷ xs) zero zero w h = absurd (h refl)
at_other (x ∷ xs) zero (suc k) w h = refl
at_other (x ∷ xs) (suc i) zero w h = refl
at_other (x ∷ xs) (suc i) (suc k) w h = at_other xs i k w (λ e. h (ap suc e))

as_many : {A : Type 0} (xs : List A) (i : ℕ) (w : A) → length (set xs i w) ≡ length xs
as_many [] i w = refl
as_many (x ∷ xs) zero w = refl
as_many (x ∷ xs) (suc i) w = ap suc (as_many xs i w)

abbrev texts_in : Vec Statement Global → List journal.Statement
texts_in v = map statement_of v.items

map_more : (xs : List Statement) (y : Statement) → map statement_of (xs ++ y ∷ []) ≡ map statement_of xs ++ statement_of y ∷ []
map_more [] y = refl
map_more (x ∷ xs) y = ap (λ zs. statement_of x ∷ zs) (map_more xs y)

same_twice : (o : Option (Vec Statement Global)) → IfSome o (λ w. IfSome o (λ v. texts_in w ≡ texts_in v))
same_twice None = tt
same_twice (Some v) = refl

-- a statement put behind a session's list, which is written back, makes that list longer by it
pub grown : (old : List (Vec Statement Global)) (s i : ℕ) (v w : Vec Statement Global) (st : Statement) → i + 1 ≡ s → i < length old → v ≡ get_or old i v → w.items ≡ v.items ++ st ∷ []
    → IsGrown old (set old i w) s (statement_of st)
grown old s i v w st next within is more = (as_many old i w, λ k. by_test k (eqb s (k + 1)) refl)
  where
    by_test : (k : ℕ) (b : Bool) → eqb s (k + 1) ≡ b
        → IfSome (slice_get (set old i w) k) (λ x. IfSome (slice_get old k) (λ y. texts_in x ≡ (if b then texts_in y ++ statement_of st ∷ [] else texts_in y)))
    by_test k true h =
        let one : k ≡ i = grind (arith, h, next) in
        rw (one, at_same old i w within, slice_get_read old (length old) i v refl within is) (ap (λ xs. map statement_of xs) more ∙ map_more v.items st)
    by_test k false h =
        let other : k ≢ i = grind (arith, h, next) in
        rw (at_other old i k w other) (same_twice (slice_get old k))

-- ---- the statements of a script, and one line more

by_more : (b : Bool) (st : journal.Statement) (xs ys zs : List journal.Statement) → xs ≡ ys ++ zs → (if b then st ∷ xs else xs) ≡ (if b then st ∷ ys else ys) ++ zs
by_more true st xs ys zs h = ap (λ x. st ∷ x) h
by_more false st xs ys zs h = h

pub statements_more : (s : ℕ) (ls : Script) (l : Line) → statements s (ls ++ l ∷ []) ≡ statements s ls ++ statements s (l ∷ [])
statements_more s [] l = refl
statements_more s (say t driven st ∷ ls) l = by_more (eqb t s) st (statements s (ls ++ l ∷ [])) (statements s ls) (statements s (l ∷ [])) (statements_more s ls l)
statements_more s (step t n ∷ ls) l = statements_more s ls l
statements_more s (purge ∷ ls) l = statements_more s ls l
statements_more s (checkpoint ∷ ls) l = statements_more s ls l
statements_more s (audit ∷ ls) l = statements_more s ls l
statements_more s (restart ∷ ls) l = statements_more s ls l

shapes_more : (ls : Script) (l : Line) → map shape_of (ls ++ l ∷ []) ≡ map shape_of ls ++ shape_of l ∷ []
shapes_more [] l = refl
shapes_more (x ∷ ls) l = ap (λ xs. shape_of x ∷ xs) (shapes_more ls l)

-- a line that isn't said
abbrev pub IsUnsaid : Line → Type 0
IsUnsaid l = (s : ℕ) → statements s (l ∷ []) ≡ []

-- a line that isn't said leaves the lists those of the script
pub lists_unsaid : (lists : List (Vec Statement Global)) (model : Script) (l : Line) → IsUnsaid l → AreLists lists model → AreLists lists (model ++ l ∷ [])
lists_unsaid lists model l none h k = on (slice_get lists k) (h k)
  where
    on : (o : Option (Vec Statement Global)) → IfSome o (λ v. texts_in v ≡ statements (k + 1) model) → IfSome o (λ v. texts_in v ≡ statements (k + 1) (model ++ l ∷ []))
    on None g = tt
    on (Some v) g = g ∙ sym (statements_more (k + 1) model l ∙ ap (λ xs. statements (k + 1) model ++ xs) (none (k + 1)) ∙ append-nil (statements (k + 1) model))

-- a line that is said makes its session's list longer by its statement
pub lists_said : (old new : List (Vec Statement Global)) (model : Script) (s : ℕ) (driven : Bool) (st : journal.Statement) → IsGrown old new s st → AreLists old model → AreLists new (model ++ say s driven st ∷ [])
lists_said old new model s driven st g h k = on (slice_get new k) refl (slice_get old k) refl (g.1 k) (h k)
  where
    last : (b : Bool) (xs ys zs : List journal.Statement) → xs ≡ (if b then ys ++ st ∷ [] else ys) → ys ≡ zs → xs ≡ zs ++ (if b then st ∷ [] else [])
    last true xs ys zs e f = e ∙ ap (λ x. x ++ st ∷ []) f
    last false xs ys zs e f = e ∙ f ∙ sym (append-nil zs)

    on : (o : Option (Vec Statement Global)) → slice_get new k ≡ o → (p : Option (Vec Statement Global)) → slice_get old k ≡ p
        → IfSome o (λ w. IfSome p (λ v. texts_in w ≡ (if eqb s (k + 1) then texts_in v ++ st ∷ [] else texts_in v)))
        → IfSome p (λ v. texts_in v ≡ statements (k + 1) model) → IfSome o (λ w. texts_in w ≡ statements (k + 1) (model ++ say s driven st ∷ []))
    on None e p f a b = tt
    on (Some w) e None f a b =
        let within : k < length old = rw (sym g.0) (slice_get_within new k w e) in
        let some : Some (get_or old k w) ≡ None = sym (slice_get-get_or old k w within) ∙ f in
        cc
    on (Some w) e (Some v) f a b = last (eqb s (k + 1)) (texts_in w) (texts_in v) (statements (k + 1) model) a b ∙ sym (statements_more (k + 1) model (say s driven st))

-- a line's shape behind those of a script is the shape of the script with the line
pub script_more : (lines more : List declared_line.Line) (model : Script) (l : Line) → lines ≡ map shape_of model → more ≡ lines ++ shape_of l ∷ [] → more ≡ map shape_of (model ++ l ∷ [])
script_more lines more model l h e = e ∙ ap (λ xs. xs ++ shape_of l ∷ []) h ∙ sym (shapes_more model l)

-- ---- how many there are

few_by : (b : Bool) (st : journal.Statement) (xs : List journal.Statement) (n : ℕ) → length xs ≤ n → length (xs ++ (if b then st ∷ [] else [])) ≤ n + 1
few_by true st xs n h = grind (arith, common_steps, h)
few_by false st xs n h = grind (arith, common_steps, h)

few_same : (xs : List journal.Statement) (n : ℕ) → length xs ≤ n → length (xs ++ []) ≤ n
few_same xs n h = rw (append-nil xs) h

few_on : (s n : ℕ) (model : Script) (l : Line) → length (statements s model) ≤ n → length (statements s model ++ statements s (l ∷ [])) ≤ with_statement l n
few_on s n model (say t driven st) h = few_by (eqb t s) st (statements s model) n h
few_on s n model (step t m) h = few_same (statements s model) n h
few_on s n model purge h = few_same (statements s model) n h
few_on s n model checkpoint h = few_same (statements s model) n h
few_on s n model audit h = few_same (statements s model) n h
few_on s n model restart h = few_same (statements s model) n h

-- with a line more, a session has at most as many statements as before, and the line's
pub few_more : (s n : ℕ) (model : Script) (l : Line) → length (statements s model) ≤ n → length (statements s (model ++ l ∷ [])) ≤ with_statement l n
few_more s n model l h = rw (statements_more s model l) (few_on s n model l h)

-- ---- a text of two parts

-- two parts put behind bytes one by one are put behind them together
pub two_parts : (old mid new words one two : List ℕ) → mid ≡ old ++ words → one ≡ two → new ≡ mid ++ one → new ≡ old ++ (words ++ two)
two_parts old mid new words one two first same second = second ∙ ap (λ xs. xs ++ one) first ∙ append_assoc old words one ∙ ap (λ xs. old ++ (words ++ xs)) same
