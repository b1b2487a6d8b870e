-- The script of a program that takes one session alone: each line is said by session 1, driven, and its statement is made by itself.
use Rattle.std.proofs.Common.{◌≡◌, ℕ, ◌+◌, ◌≤◌, Bool, true, false, true≢false, not, nat_eq, nat_le, nat_lt, List, [], ◌∷◌, map, bytes_eq, codes, Option, Some, None, Result, Ok, Err, refl, sym, ap, subst, ◌∙◌, arith, if◌then◌else◌, ◌&&◌, ◌||◌}
use Rattle.std.specs.List.{AllByRecursion}
use Rattle.std.specs.Str.{is_utf8}
use Rattle.std.specs.Str.Lines.{lines}
use Rattle.tree_model.specs.Tree.{Tree}
use Rattle.tree_model.specs.Edit.{Edit}
use Rattle.journal_model.specs.Built.{alone}
use Rattle.journal_model.specs.Documents.{Insert, Change}
use Rattle.journal_model.specs.Journal.{Script, Statement, Line, say, step, purge, checkpoint, audit, restart, call, statements}
use Rattle.journal_model.specs.Idle.{is_by_itself}
use Rattle.journal_model.specs.ScriptText.{Mode, Cause, utf8, many, turn, word, session, document, first_word, behind, StatementKind, insert, change, delete, get_one, size_one, of_transaction, form_of, runs_on, read_statement, document_number, tree_or_cause, read_arguments, is_marked, begins_with, max_statements, is_threads, ◌>>=◌, check, found, session_number, session_text, is_taken, is_of_transaction, session_by, said_by, dotted_by, line_by, lines_by, script_by, at_line, with_statement, is_skipped}
use Rattle.tree_model.specs.Text.{read_tree}
use Rattle.journal_model.proofs.NumberLemmas.{in_range}

-- ---- what a check that passed says

abbrev ok_of : Line → Result Line Cause
ok_of l = Ok l

check_on : (b : Bool) (c : Cause) (r : Result Line Cause) (l : Line) → (check b c >>= (λ x. r)) ≡ ok_of l → (b ≡ true) × (r ≡ ok_of l)
check_on true c r l h = (refl, h)
check_on false c r l h = cc

abbrev IsAlone : Line → Type 0
IsAlone (say s driven st) = (s ≡ 1) × (driven ≡ true) × (is_by_itself st ≡ true)
IsAlone l = ⊥

abbrev AreAlone : Script → Type 0
AreAlone [] = Unit {0}
AreAlone (l ∷ ls) = IsAlone l × AreAlone ls

ok_line : (l m : Line) → ok_of l ≡ ok_of m → IsAlone l → IsAlone m
ok_line l m h g = let same : l ≡ m = cc in subst IsAlone same g

found_on : {A : Type 0} (o : Option A) (c : Cause) (f : A → Result Line Cause) (l : Line) → (found o c >>= f) ≡ ok_of l
    → ((x : A) → o ≡ Some x → f x ≡ ok_of l → IsAlone l) → IsAlone l
found_on None c f l h g = cc
found_on (Some x) c f l h g = g x refl h

-- ---- the statement

abbrev OfItself : Result Statement Cause → Type 0
OfItself (Ok st) = is_by_itself st ≡ true
OfItself (Err c) = Unit {0}

of_number : (o : Option ℕ) (f : ℕ → Result Statement Cause) → ((d : ℕ) → OfItself (f d)) → OfItself (found o document >>= f)
of_number None f h = tt
of_number (Some d) f h = h d

of_tree : (r : Result Tree Cause) (d : ℕ) → OfItself (r >>= (λ t. Ok (call (Insert d t))))
of_tree (Ok t) d = refl
of_tree (Err c) d = tt

of_edit : (r : Result Edit Cause) (d : ℕ) → OfItself (r >>= (λ e. Ok (call (Change d e))))
of_edit (Ok e) d = refl
of_edit (Err c) d = tt

by_itself : (form : StatementKind) (rest : List ℕ) → is_of_transaction form ≡ false → OfItself (read_statement form rest)
by_itself insert rest h = of_number (document_number (first_word rest)) _ (λ d. of_tree (tree_or_cause (read_tree (behind rest))) d)
by_itself (change w) rest h = of_number (document_number (first_word rest)) _ (λ d. of_edit (read_arguments w (behind rest)) d)
by_itself delete rest h = of_number (document_number rest) _ (λ d. refl)
by_itself get_one rest h = of_number (document_number rest) _ (λ d. refl)
by_itself size_one rest h = of_number (document_number rest) _ (λ d. refl)
by_itself (of_transaction st) rest h = absurd (true≢false h)

-- ---- a line

last : (driven : Bool) (r : Result Statement Cause) (l : Line) → driven ≡ true → OfItself r → (r >>= (λ st. Ok (say 1 driven st))) ≡ ok_of l → IsAlone l
last driven (Ok st) l d h g = ok_line (say 1 driven st) l g (refl, d, h)
last driven (Err c) l d h g = cc

taken : (m t : Bool) → ((not m || false) && (not t || false)) ≡ true → (m ≡ false) × (t ≡ false)
taken true t h = absurd (true≢false (sym h))
taken false true h = absurd (true≢false (sym h))
taken false false h = (refl, refl)

only : (s : ℕ) → 1 ≤ s → nat_le s 1 ≡ true → s ≡ 1
only s h g = let le : s ≤ 1 = grind (arith, g) in omega (arith, h, le)

session_on : (text : List ℕ) (f : ℕ → Result Line Cause) (l : Line) → (session_by alone text >>= f) ≡ ok_of l → (f 1 ≡ ok_of l → IsAlone l) → IsAlone l
session_on text f l h g = by_number (session_number text) refl h
  where
    by_limit : (b : Bool) (s : ℕ) → session_number text ≡ Some s → nat_le s 1 ≡ b → ((check b session >>= (λ u. Ok s)) >>= f) ≡ ok_of l → IsAlone l
    by_limit true s e le k = let one : s ≡ 1 = only s (in_range 64 s text e).0 le in g (ap f (sym one) ∙ k)
    by_limit false s e le k = cc

    by_number : (o : Option ℕ) → session_number text ≡ o → ((found o session >>= (λ s. check (nat_le s 1) session >>= (λ u. Ok s))) >>= f) ≡ ok_of l → IsAlone l
    by_number None e k = cc
    by_number (Some s) e k = by_limit (nat_le s 1) s e refl k

said : (first rest : List ℕ) (l : Line) → said_by alone first rest ≡ ok_of l → IsAlone l
said first rest l h =
    found_on (form_of (first_word rest) rest) word (λ form. check (not (runs_on form (behind rest))) word >>= (λ x. check (is_taken alone (is_marked first) form) word
    >>= (λ y. session_by alone (session_text first) >>= (λ s. read_statement form (behind rest) >>= (λ st. Ok (say s (not (is_marked first)) st)))))) l
    (check_on (begins_with 115 first) word _ l h).1 (λ form e g.
    let built = check_on (is_taken alone (is_marked first) form) word _ l (check_on (not (runs_on form (behind rest))) word _ l g).1 in
    let plain = taken (is_marked first) (is_of_transaction form) built.0 in
    session_on (session_text first) (λ s. read_statement form (behind rest) >>= (λ st. Ok (say s (not (is_marked first)) st))) l built.1 (λ k.
    last (not (is_marked first)) (read_statement form (behind rest)) l (ap not plain.0) (by_itself form (behind rest) plain.1) k))

none_by : (b : Bool) (r : Result Line Cause) (l : Line) → (if b then Err word else r) ≡ ok_of l → r ≡ ok_of l
none_by true r l h = cc
none_by false r l h = h

no_step : (b : Bool) (l : Line) → (if b then Err word else Err word) ≡ ok_of l → ⊥
no_step true l h = cc
no_step false l h = cc

no_dotted : (line : List ℕ) (l : Line) → dotted_by alone line ≡ ok_of l → ⊥
no_dotted line l h =
    no_step (bytes_eq (first_word line) (codes ".step")) l
    (none_by (bytes_eq line (codes ".restart")) _ l (none_by (bytes_eq line (codes ".audit")) _ l (none_by (bytes_eq line (codes ".checkpoint")) _ l (none_by (bytes_eq line (codes ".purge")) _ l h))))

either : (b : Bool) (r q : Result Line Cause) (l : Line) → (if b then r else q) ≡ ok_of l → (r ≡ ok_of l → IsAlone l) → (q ≡ ok_of l → IsAlone l) → IsAlone l
either true r q l h f g = f h
either false r q l h f g = g h

one_line : (mode : Mode) (count : ℕ) (line : List ℕ) (l : Line) → line_by alone mode count line ≡ ok_of l → IsAlone l
one_line mode count line l h =
    let a = (check_on (is_utf8 line) utf8 _ l h).1 in
    let b = (check_on (nat_lt count max_statements || begins_with 46 line) many _ l a).1 in
    let c = (check_on (not (is_threads mode && begins_with 46 line)) turn _ l b).1 in
    either (begins_with 46 line) (dotted_by alone line) (said_by alone (first_word line) (behind line)) l c (λ e. absurd (no_dotted line l e)) (λ e. said (first_word line) (behind line) l e)

-- ---- all lines

abbrev script_of : Script → Result Script (ℕ × Cause)
script_of ls = Ok ls

two_lines : (l : Line) (r : Result Script (ℕ × Cause)) (script : Script) → IsAlone l → ((ls : Script) → r ≡ script_of ls → AreAlone ls)
    → (r >>= (λ ls. Ok (l ∷ ls))) ≡ script_of script → AreAlone script
two_lines l (Ok ls) script h g e = let is_it : l ∷ ls ≡ script = cc in subst AreAlone is_it (h, g ls refl)
two_lines l (Err x) script h g e = cc

a_line : (n : ℕ) (r : Result Line Cause) (f : Line → Result Script (ℕ × Cause)) (script : Script) → (at_line n r >>= f) ≡ script_of script
    → ((l : Line) → r ≡ ok_of l → f l ≡ script_of script → AreAlone script) → AreAlone script
a_line n (Ok l) f script h g = g l refl h
a_line n (Err c) f script h g = cc

none_read : (script : Script) → script_of [] ≡ script_of script → AreAlone script
none_read script h = let is_it : [] ≡ script = cc in subst AreAlone is_it tt

all_lines : (mode : Mode) (lines : List (List ℕ)) (n count : ℕ) (script : Script) → lines_by alone mode n count lines ≡ script_of script → AreAlone script
all_lines mode [] n count script h = none_read script h
all_lines mode (line ∷ more) n count script h = by_skip (is_skipped line) h (all_lines mode more (n + 1) count script) (λ c s. all_lines mode more (n + 1) c s)
  where
    by_skip : (b : Bool) → (if b then lines_by alone mode (n + 1) count more else (at_line n (line_by alone mode count line) >>= (λ l. lines_by alone mode (n + 1) (with_statement l count) more >>= (λ ls. Ok (l ∷ ls))))) ≡ script_of script
        → (lines_by alone mode (n + 1) count more ≡ script_of script → AreAlone script)
        → ((c : ℕ) (s : Script) → lines_by alone mode (n + 1) c more ≡ script_of s → AreAlone s) → AreAlone script
    by_skip true e skip rest = skip e
    by_skip false e skip rest =
        a_line n (line_by alone mode count line) (λ l. lines_by alone mode (n + 1) (with_statement l count) more >>= (λ ls. Ok (l ∷ ls))) script e (λ l f g.
        two_lines l (lines_by alone mode (n + 1) (with_statement l count) more) script (one_line mode count line l f) (rest (with_statement l count)) g)

-- ---- what the program makes of it

two_same : (l : Line) (ls : Script) (st : Statement) (sts : List Statement) → l ≡ say 1 true st → ls ≡ map (λ x. say 1 true x) sts → l ∷ ls ≡ say 1 true st ∷ map (λ x. say 1 true x) sts
two_same l ls st sts h g = ap (λ x. x ∷ ls) h ∙ ap (λ xs. say 1 true st ∷ xs) g

abbrev AreByItself : List Statement → Type 0
AreByItself sts = AllByRecursion (λ st. is_by_itself st ≡ true) sts

said_alone : (script : Script) → AreAlone script → (script ≡ map (λ st. say 1 true st) (statements 1 script)) × AreByItself (statements 1 script)
said_alone [] h = (refl, tt)
said_alone (say s driven st ∷ ls) h =
    let rest = said_alone ls h.1 in
    by_session s driven h.0.0 h.0.1 h.0.2 rest.0 rest.1
  where
    by_session : (s : ℕ) (driven : Bool) → s ≡ 1 → driven ≡ true → is_by_itself st ≡ true → ls ≡ map (λ st. say 1 true st) (statements 1 ls) → AreByItself (statements 1 ls)
        → (say s driven st ∷ ls ≡ map (λ st. say 1 true st) (if nat_eq s 1 then st ∷ statements 1 ls else statements 1 ls)) × AreByItself (if nat_eq s 1 then st ∷ statements 1 ls else statements 1 ls)
    by_session s driven one full plain same all =
        rw (one, full) (ap (λ xs. say 1 true st ∷ xs) same, (plain, all))
said_alone (step s n ∷ ls) h = absurd h.0
said_alone (purge ∷ ls) h = absurd h.0
said_alone (checkpoint ∷ ls) h = absurd h.0
said_alone (audit ∷ ls) h = absurd h.0
said_alone (restart ∷ ls) h = absurd h.0

-- a script read so is the statements of session 1, each said and driven, and each by itself
pub read_alone : (mode : Mode) (bytes : List ℕ) (script : Script) → script_by alone mode bytes ≡ Ok script
    → (script ≡ map (λ st. say 1 true st) (statements 1 script)) × AllByRecursion (λ st. is_by_itself st ≡ true) (statements 1 script)
read_alone mode bytes script h = said_alone script (all_lines mode (lines bytes) 1 0 script h)
