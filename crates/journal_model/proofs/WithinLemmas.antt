-- What a program that takes a part of the grammar reads, the whole grammar reads alike.
use Rattle.std.proofs.Common.{◌≡◌, ℕ, ◌+◌, ◌≤◌, ◌&&◌, ◌||◌, Bool, true, false, not, nat_le, nat_lt, List, [], ◌∷◌, bytes_eq, codes, Option, Some, None, Result, Ok, Err, refl, ap, ◌∙◌, arith, if◌then◌else◌}
use Rattle.std.specs.Str.{is_utf8}
use Rattle.std.specs.Str.Lines.{lines}
use Rattle.journal_model.specs.Built.{Built, everything}
use Rattle.journal_model.specs.Journal.{Script, Line, purge, checkpoint, audit, restart}
use Rattle.journal_model.specs.ScriptText.{Mode, Cause, utf8, many, turn, word, session, first_word, behind, form_of, runs_on, number_up_to, session_number, max_steps, begins_with, is_marked, session_text, is_of_transaction, is_taken, if_built, session_by, said_by, step_by, dotted_by, line_by, lines_by, script_by, read_script, is_skipped, with_statement, max_statements, is_threads, at_line, check, found, ◌>>=◌}
use Rattle.journal_model.proofs.NumberLemmas.{in_range}

-- what the first gives, the second gives
abbrev Within : {A E : Type 0} → Result A E → Result A E → Type 0
Within {A} r q = (x : A) → r ≡ Ok x → q ≡ Ok x

module _ {A B E : Type 0} where
  then_within : (r q : Result A E) (f g : A → Result B E) → Within r q → ((x : A) → r ≡ Ok x → Within (f x) (g x)) → Within (r >>= f) (q >>= g)
  then_within (Ok x) q f g h k y e = ap (λ p. p >>= g) (h x refl) ∙ k x refl y e
  then_within (Err c) q f g h k y e = cc

  -- the same first part
  on_within : (r : Result A E) (f g : A → Result B E) → ((x : A) → r ≡ Ok x → Within (f x) (g x)) → Within (r >>= f) (r >>= g)
  on_within r f g k = then_within r r f g (λ x e. e) k

-- one of two
either_within : {A E : Type 0} (b : Bool) (r q s t : Result A E) → Within r s → Within q t → Within (if b then r else q) (if b then s else t)
either_within true r q s t h k = h
either_within false r q s t h k = k

check_within : (a b : Bool) (c : Cause) → b ≡ true → Within (check a c) (check b c)
check_within true b c h tt e = rw h refl
check_within false b c h tt e = cc

number_found : (o : Option ℕ) (c : Cause) (n : ℕ) → found o c ≡ Ok n → o ≡ Some n
number_found None c n e = cc
number_found (Some m) c n e = cc

-- ---- a line

built_within : (b : Bool) (l : Line) → Within (if_built b l) (if_built true l)
built_within true l x e = e
built_within false l x e = cc

taken_all : (m b : Bool) → ((not m || true) && (not b || true)) ≡ true
taken_all true true = refl
taken_all true false = refl
taken_all false true = refl
taken_all false false = refl

at_most_all : (text : List ℕ) (s : ℕ) → found (session_number text) session ≡ Ok s → nat_le s 64 ≡ true
at_most_all text s e = let le : s ≤ 64 = (in_range 64 s text (number_found (session_number text) session s e)).1 in grind (arith, le)

module _ (table : Built) where
  session_within : (text : List ℕ) → Within (session_by table text) (session_by everything text)
  session_within text =
      on_within (found (session_number text) session) _ _ (λ s e.
      then_within (check (nat_le s table.sessions) session) (check (nat_le s 64) session) _ _ (check_within (nat_le s table.sessions) (nat_le s 64) session (at_most_all text s e)) (λ x f y g. g))

  said_within : (first rest : List ℕ) → Within (said_by table first rest) (said_by everything first rest)
  said_within first rest =
      on_within (check (begins_with 115 first) word) _ _ (λ x e.
      on_within (found (form_of (first_word rest) rest) word) _ _ (λ form e.
      on_within (check (not (runs_on form (behind rest))) word) _ _ (λ x e.
      then_within (check (is_taken table (is_marked first) form) word) (check (is_taken everything (is_marked first) form) word) _ _ (check_within _ _ word (taken_all (is_marked first) (is_of_transaction form))) (λ x e.
      then_within (session_by table (session_text first)) (session_by everything (session_text first)) _ _ (session_within (session_text first)) (λ s e y g. g)))))

  step_within : (rest : List ℕ) → Within (step_by table rest) (step_by everything rest)
  step_within rest =
      then_within (check table.steps word) (check true word) _ _ (check_within table.steps true word refl) (λ x e.
      on_within (found (number_up_to max_steps (behind rest)) word) _ _ (λ n e.
      then_within (session_by table (first_word rest)) (session_by everything (first_word rest)) _ _ (session_within (first_word rest)) (λ s e y g. g)))

  dotted_within : (line : List ℕ) → Within (dotted_by table line) (dotted_by everything line)
  dotted_within line =
      either_within (bytes_eq line (codes ".purge")) _ _ _ _ (built_within table.purges purge)
      (either_within (bytes_eq line (codes ".checkpoint")) _ _ _ _ (built_within table.checkpoints checkpoint)
      (either_within (bytes_eq line (codes ".audit")) _ _ _ _ (built_within table.audits audit)
      (either_within (bytes_eq line (codes ".restart")) _ _ _ _ (built_within table.restarts restart)
      (either_within (bytes_eq (first_word line) (codes ".step")) _ _ _ _ (step_within (behind line)) (λ x e. e)))))

  line_within : (mode : Mode) (count : ℕ) (line : List ℕ) → Within (line_by table mode count line) (line_by everything mode count line)
  line_within mode count line =
      on_within (check (is_utf8 line) utf8) _ _ (λ x e.
      on_within (check (nat_lt count max_statements || begins_with 46 line) many) _ _ (λ x e.
      on_within (check (not (is_threads mode && begins_with 46 line)) turn) _ _ (λ x e.
      either_within (begins_with 46 line) _ _ _ _ (dotted_within line) (said_within (first_word line) (behind line)))))

  at_within : (n : ℕ) (r q : Result Line Cause) → Within r q → Within (at_line n r) (at_line n q)
  at_within n (Ok l) q h x e = ap (at_line n) (h l refl) ∙ e
  at_within n (Err c) q h x e = cc

  -- ---- all lines

  lines_within : (mode : Mode) (n count : ℕ) (ls : List (List ℕ)) → Within (lines_by table mode n count ls) (lines_by everything mode n count ls)
  lines_within mode n count [] = λ x e. e
  lines_within mode n count (line ∷ more) =
      either_within (is_skipped line) _ _ _ _ (lines_within mode (n + 1) count more)
      (then_within (at_line n (line_by table mode count line)) (at_line n (line_by everything mode count line)) _ _ (at_within n _ _ (line_within mode count line)) (λ l e.
      then_within (lines_by table mode (n + 1) (with_statement l count) more) (lines_by everything mode (n + 1) (with_statement l count) more) _ _ (lines_within mode (n + 1) (with_statement l count) more) (λ ls f y g. g)))

-- a script that some table reads, the whole grammar reads
pub reads_alike : (table : Built) (mode : Mode) (bytes : List ℕ) (script : Script) → script_by table mode bytes ≡ Ok script → read_script mode bytes ≡ Ok script
reads_alike table mode bytes script h = lines_within table mode 1 0 (lines bytes) script h
