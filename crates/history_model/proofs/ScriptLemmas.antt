-- The sessions of a script that was read are 1 to 64.
use Rattle.std.proofs.Common.{◌≡◌, ℕ, zero, suc, ◌+◌, ◌<◌, ◌≤◌, Bool, true, false, true≢false, not, nat_eq, nat_le, nat_lt, List, [], ◌∷◌, bytes_eq, codes, Option, Some, None, Result, Ok, Err, refl, sym, ap, subst, ◌∙◌, arith, if◌then◌else◌, ◌&&◌, ◌||◌}
use Rattle.std.specs.Str.{is_utf8}
use Rattle.std.specs.Str.Lines.{lines}
use Rattle.history_model.proofs.LockLemmas.{eq_is}
use Rattle.journal_model.specs.Journal.{Script, Statement, Line, say, step, purge, checkpoint, audit, restart, statements}
use Rattle.journal_model.specs.Locks.{sessions, numbers_from}
use Rattle.journal_model.specs.Held.{is_in}
use Rattle.journal_model.specs.ScriptText.{Mode, Cause, utf8, many, turn, word, session, first_word, behind, form_of, runs_on, read_statement, is_marked, begins_with, max_steps, max_statements, is_threads, ◌>>=◌, check, found, number_up_to, session_number, session_text, is_taken, if_built, session_by, said_by, step_by, dotted_by, line_by, lines_by, script_by, at_line, with_statement, is_skipped}
use Rattle.journal_model.specs.Built.{Built}
use Rattle.journal_model.proofs.NumberLemmas.{in_range}
use Rattle.history_model.specs.Laws.{IsNumbered}

-- ---- numbers

in_numbers : (k a n : ℕ) → a ≤ n → n < a + k → is_in n (numbers_from a k) ≡ true
in_numbers zero a n h g = absurd (omega (arith, h, g))
in_numbers (suc k) a n h g = by_test (nat_eq a n) refl (λ e. in_numbers k (a + 1) n (grind (arith, e, h)) (omega (arith, g)))
  where
    by_test : (b : Bool) → nat_eq a n ≡ b → (nat_eq a n ≡ false → is_in n (numbers_from (a + 1) k) ≡ true) → (b || is_in n (numbers_from (a + 1) k)) ≡ true
    by_test true e rest = refl
    by_test false e rest = rest e

in_sessions : (n : ℕ) → 1 ≤ n → n ≤ 64 → is_in n sessions ≡ true
unfolding sessions
in_sessions n h g = in_numbers 64 1 n h (omega (arith, g))

-- ---- lines

abbrev IsOfSession : Line → Type 0
IsOfSession (say s driven st) = is_in s sessions ≡ true
IsOfSession l = Unit {0}

abbrev AreOfSessions : Script → Type 0
AreOfSessions [] = Unit {0}
AreOfSessions (l ∷ ls) = IsOfSession l × AreOfSessions ls

abbrev ok_of : Line → Result Line Cause
ok_of l = Ok l

ok_line : (l m : Line) → ok_of l ≡ Ok m → IsOfSession l → IsOfSession m
ok_line l m h g = let same : l ≡ m = cc in subst IsOfSession same g

check_on : (b : Bool) (c : Cause) (r : Result Line Cause) (l : Line) → (check b c >>= (λ x. r)) ≡ ok_of l → r ≡ ok_of l
check_on true c r l h = h
check_on false c r l h = cc

found_on : {A : Type 0} (o : Option A) (c : Cause) (f : A → Result Line Cause) (l : Line) → (found o c >>= f) ≡ ok_of l
    → ((x : A) → o ≡ Some x → f x ≡ ok_of l → IsOfSession l) → IsOfSession l
found_on None c f l h g = cc
found_on (Some x) c f l h g = g x refl h

last : (s : ℕ) (b : Bool) (r : Result Statement Cause) (l : Line) → is_in s sessions ≡ true → (r >>= (λ st. Ok (say s b st))) ≡ ok_of l → IsOfSession l
last s b (Ok st) l h g = ok_line (say s b st) l g h
last s b (Err c) l h g = cc

-- a session that is taken is one of all
session_on : (table : Built) (text : List ℕ) (f : ℕ → Result Line Cause) (l : Line) → (session_by table text >>= f) ≡ ok_of l
    → ((s : ℕ) → session_number text ≡ Some s → f s ≡ ok_of l → IsOfSession l) → IsOfSession l
session_on table text f l h g = by_number (session_number text) refl h
  where
    by_limit : (b : Bool) (s : ℕ) → session_number text ≡ Some s → ((check b session >>= (λ u. Ok s)) >>= f) ≡ ok_of l → IsOfSession l
    by_limit true s e k = g s e k
    by_limit false s e k = cc

    by_number : (o : Option ℕ) → session_number text ≡ o → ((found o session >>= (λ s. check (nat_le s table.sessions) session >>= (λ u. Ok s))) >>= f) ≡ ok_of l → IsOfSession l
    by_number None e k = cc
    by_number (Some s) e k = by_limit (nat_le s table.sessions) s e k

said : (table : Built) (first rest : List ℕ) (l : Line) → said_by table first rest ≡ ok_of l → IsOfSession l
said table first rest l h =
    found_on (form_of (first_word rest) rest) word (λ form. check (not (runs_on form (behind rest))) word >>= (λ x. check (is_taken table (is_marked first) form) word
    >>= (λ y. session_by table (session_text first) >>= (λ s. read_statement form (behind rest) >>= (λ st. Ok (say s (not (is_marked first)) st)))))) l
    (check_on (begins_with 115 first) word _ l h) (λ form e g.
    session_on table (session_text first) (λ s. read_statement form (behind rest) >>= (λ st. Ok (say s (not (is_marked first)) st))) l
    (check_on (is_taken table (is_marked first) form) word _ l (check_on (not (runs_on form (behind rest))) word _ l g)) (λ s f k.
    let number = in_range 64 s (session_text first) f in
    last s (not (is_marked first)) (read_statement form (behind rest)) l (in_sessions s number.0 number.1) k))

stepped : (table : Built) (rest : List ℕ) (l : Line) → step_by table rest ≡ ok_of l → IsOfSession l
stepped table rest l h =
    found_on (number_up_to max_steps (behind rest)) word (λ n. session_by table (first_word rest) >>= (λ s. Ok (step s n))) l (check_on table.steps word _ l h)
    (λ n e g. session_on table (first_word rest) (λ s. Ok (step s n)) l g (λ s f k. ok_line (step s n) l k tt))

if_on : (b : Bool) (m l : Line) → if_built b m ≡ ok_of l → IsOfSession m → IsOfSession l
if_on true m l h g = ok_line m l h g
if_on false m l h g = cc

either : (b : Bool) (r q : Result Line Cause) (l : Line) → (if b then r else q) ≡ ok_of l → (r ≡ ok_of l → IsOfSession l) → (q ≡ ok_of l → IsOfSession l) → IsOfSession l
either true r q l h f g = f h
either false r q l h f g = g h

dotted : (table : Built) (line : List ℕ) (l : Line) → dotted_by table line ≡ ok_of l → IsOfSession l
dotted table line l h =
    either (bytes_eq line (codes ".purge")) (if_built table.purges purge) _ l h (λ e. if_on table.purges purge l e tt) (λ h1.
    either (bytes_eq line (codes ".checkpoint")) (if_built table.checkpoints checkpoint) _ l h1 (λ e. if_on table.checkpoints checkpoint l e tt) (λ h2.
    either (bytes_eq line (codes ".audit")) (if_built table.audits audit) _ l h2 (λ e. if_on table.audits audit l e tt) (λ h3.
    either (bytes_eq line (codes ".restart")) (if_built table.restarts restart) _ l h3 (λ e. if_on table.restarts restart l e tt) (λ h4.
    either (bytes_eq (first_word line) (codes ".step")) (step_by table (behind line)) (Err word) l h4 (λ e. stepped table (behind line) l e) (λ e. cc)))))

one_line : (table : Built) (mode : Mode) (count : ℕ) (line : List ℕ) (l : Line) → line_by table mode count line ≡ ok_of l → IsOfSession l
one_line table mode count line l h =
    let a = check_on (is_utf8 line) utf8 _ l h in
    let b = check_on (nat_lt count max_statements || begins_with 46 line) many _ l a in
    let c = check_on (not (is_threads mode && begins_with 46 line)) turn _ l b in
    either (begins_with 46 line) (dotted_by table line) (said_by table (first_word line) (behind line)) l c (λ e. dotted table line l e) (λ e. said table (first_word line) (behind line) l e)

abbrev script_of : Script → Result Script (ℕ × Cause)
script_of ls = Ok ls

two_lines : (l : Line) (r : Result Script (ℕ × Cause)) (script : Script) → IsOfSession l → ((ls : Script) → r ≡ script_of ls → AreOfSessions ls)
    → (r >>= (λ ls. Ok (l ∷ ls))) ≡ script_of script → AreOfSessions script
two_lines l (Ok ls) script h g e = let is_it : l ∷ ls ≡ script = cc in subst AreOfSessions is_it (h, g ls refl)
two_lines l (Err x) script h g e = cc

a_line : (n : ℕ) (r : Result Line Cause) (f : Line → Result Script (ℕ × Cause)) (script : Script) → (at_line n r >>= f) ≡ script_of script
    → ((l : Line) → r ≡ ok_of l → f l ≡ script_of script → AreOfSessions script) → AreOfSessions script
a_line n (Ok l) f script h g = g l refl h
a_line n (Err c) f script h g = cc

none_read : (script : Script) → script_of [] ≡ script_of script → AreOfSessions script
none_read script h = let is_it : [] ≡ script = cc in subst AreOfSessions is_it tt

all_lines : (table : Built) (mode : Mode) (lines : List (List ℕ)) (n count : ℕ) (script : Script) → lines_by table mode n count lines ≡ script_of script → AreOfSessions script
all_lines table mode [] n count script h = none_read script h
all_lines table mode (line ∷ more) n count script h = by_skip (is_skipped line) h (all_lines table mode more (n + 1) count script) (λ c s. all_lines table mode more (n + 1) c s)
  where
    by_skip : (b : Bool) → (if b then lines_by table mode (n + 1) count more else (at_line n (line_by table mode count line) >>= (λ l. lines_by table mode (n + 1) (with_statement l count) more >>= (λ ls. Ok (l ∷ ls))))) ≡ script_of script
        → (lines_by table mode (n + 1) count more ≡ script_of script → AreOfSessions script)
        → ((c : ℕ) (s : Script) → lines_by table mode (n + 1) c more ≡ script_of s → AreOfSessions s) → AreOfSessions script
    by_skip true e skip rest = skip e
    by_skip false e skip rest =
        a_line n (line_by table mode count line) (λ l. lines_by table mode (n + 1) (with_statement l count) more >>= (λ ls. Ok (l ∷ ls))) script e (λ l f g.
        two_lines l (lines_by table mode (n + 1) (with_statement l count) more) script (one_line table mode count line l f) (rest (with_statement l count)) g)

none_of : (script : Script) (s : ℕ) → AreOfSessions script → is_in s sessions ≡ false → statements s script ≡ []
none_of [] s h g = refl
none_of (say t driven st ∷ ls) s h g = by_test (nat_eq t s) refl (none_of ls s h.1 g)
  where
    by_test : (b : Bool) → nat_eq t s ≡ b → statements s ls ≡ [] → (if b then st ∷ statements s ls else statements s ls) ≡ []
    by_test true e rest = let one : t ≡ s = eq_is t s e in absurd (true≢false (sym h.0 ∙ ap (λ x. is_in x sessions) one ∙ g))
    by_test false e rest = rest
none_of (step t n ∷ ls) s h g = none_of ls s h.1 g
none_of (purge ∷ ls) s h g = none_of ls s h.1 g
none_of (checkpoint ∷ ls) s h g = none_of ls s h.1 g
none_of (audit ∷ ls) s h g = none_of ls s h.1 g
none_of (restart ∷ ls) s h g = none_of ls s h.1 g

-- a script that was read has sessions 1 to 64
pub read_numbered : (table : Built) (mode : Mode) (bytes : List ℕ) (script : Script) → script_by table mode bytes ≡ Ok script → IsNumbered script
read_numbered table mode bytes script h s g = none_of script s (all_lines table mode (lines bytes) 1 0 script h) g
