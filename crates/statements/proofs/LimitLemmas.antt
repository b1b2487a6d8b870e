-- A script whose lines are each within the limits keeps them.
use Rattle.std.proofs.Common.{◌≡◌, ℕ, suc, ◌+◌, ◌&&◌, Bool, true, false, leb, eqb, List, [], ◌∷◌, ◌++◌, map, Option, Some, None, refl, sym, ap, ◌∙◌, arith}
use Rattle.std.specs.Prelude.{IfSome, slice_get, Vec, if◌then◌else◌}
use Rattle.std.specs.List.{list_all, AllByRecursion}
use Rattle.std.specs.declared.alloc.Global.{Global}
use Rattle.journal_model.specs.Documents as documents
use Rattle.journal_model.specs.Journal as journal
use Rattle.journal_model.specs.Journal.{Script, Line, say, step, purge, checkpoint, audit, restart, call, get, size, begin, commit, rollback, statements}
use Rattle.journal_model.specs.ScriptText.{with_statement}
use Rattle.statements.specs.Forms.{statement_of}
use Rattle.statements.specs.Limits.{is_session, has_session, said, is_numbered, are_numbered}
use Rattle.statements.specs.Lines.{read_line_of, shape_of, IsSession, IsWithin, AreLists}
use Rattle.statements.specs.declared.draft.ReadLine.{ReadLine}
use Rattle.statements.specs.declared.draft.ReadLine.TheVariants as read
use Rattle.statements.specs.declared.statement.Statement.{Statement}
use Rattle.statements.specs.declared.statement.Statement.TheVariants as statement
use Rattle.statements.specs.declared.statement.Call.TheVariants as calls
use Rattle.statements.specs.declared.statement.Question.TheVariants as question

-- ---- the definitions' lines within the limits

abbrev changed_one : documents.Call → ℕ
changed_one (documents.Insert d t) = d
changed_one (documents.Change d e) = d
changed_one (documents.Delete d) = d

abbrev has_number : journal.Statement → Bool
has_number (call c) = leb 1 (changed_one c)
has_number (get d) = leb 1 d
has_number (size d) = leb 1 d
has_number (begin l) = true
has_number commit = true
has_number rollback = true

same_number : (st : Statement) → has_number (statement_of st) ≡ is_numbered st
same_number (statement.Change (calls.Insert d t)) = refl
same_number (statement.Change (calls.Change d e)) = refl
same_number (statement.Change (calls.Delete d)) = refl
same_number (statement.Read (question.Get d)) = refl
same_number (statement.Read (question.Size d)) = refl
same_number (statement.Begin l) = refl
same_number statement.Commit = refl
same_number statement.Rollback = refl

abbrev IsLine : Line → Type 0
IsLine (say s driven st) = IsSession s × (has_number st ≡ true)
IsLine (step s n) = IsSession s
IsLine purge = Unit {0}
IsLine checkpoint = Unit {0}
IsLine audit = Unit {0}
IsLine restart = Unit {0}

-- each line of a script is within the limits
abbrev pub AreWithin : Script → Type 0
AreWithin model = AllByRecursion IsLine model

line_within : (l : ReadLine) → IsWithin l → IsLine (read_line_of l)
line_within (read.Say s driven st) h = (h.0, same_number st ∙ h.1)
line_within (read.Step s n) h = h
line_within read.Purge h = tt
line_within read.Checkpoint h = tt
line_within read.Audit h = tt
line_within read.Restart h = tt

all_more : (model : Script) (l : Line) → AreWithin model → IsLine l → AreWithin (model ++ l ∷ [])
all_more [] l h is = (is, tt)
all_more (x ∷ model) l h is = (h.0, all_more model l h.1 is)

-- with a line more that is within the limits, the script is still
pub within_more : (model : Script) (l : ReadLine) → AreWithin model → IsWithin l → AreWithin (model ++ read_line_of l ∷ [])
within_more model l h is = all_more model (read_line_of l) h (line_within l is)

-- ---- the sessions

in_range : (s : ℕ) → IsSession s → is_session s ≡ true
in_range s h =
    let low : leb 1 s ≡ true = grind (arith, h) in
    let high : leb s 64 ≡ true = grind (arith, h) in
    rw (low, high) refl

both : (a b : Bool) → a ≡ true → b ≡ true → a && b ≡ true
both true true h k = refl
both true false h k = cc
both false b h k = cc

shape_within : (l : Line) → IsLine l → has_session (shape_of l) ≡ true
shape_within (say s driven st) h = in_range s h.0
shape_within (step s n) h = in_range s h
shape_within purge h = refl
shape_within checkpoint h = refl
shape_within audit h = refl
shape_within restart h = refl

-- a script within the limits names no session but those that may be
pub sessions_within : (model : Script) → AreWithin model → list_all has_session (map shape_of model) ≡ true
sessions_within [] h = refl
sessions_within (l ∷ model) h = both (has_session (shape_of l)) (list_all has_session (map shape_of model)) (shape_within l h.0) (sessions_within model h.1)

-- ---- the count

one_said : (l : Line) (n : ℕ) → said (shape_of l ∷ []) + n ≡ with_statement l n
one_said (say s driven st) n = omega arith
one_said (step s k) n = omega arith
one_said purge n = omega arith
one_said checkpoint n = omega arith
one_said audit n = omega arith
one_said restart n = omega arith

said_first : (l : Line) (model : Script) → said (map shape_of (l ∷ model)) ≡ said (shape_of l ∷ []) + said (map shape_of model)
said_first (say s driven st) model = omega arith
said_first (step s k) model = omega arith
said_first purge model = omega arith
said_first checkpoint model = omega arith
said_first audit model = omega arith
said_first restart model = omega arith

said_behind : (model : Script) (l : Line) → said (map shape_of (model ++ l ∷ [])) ≡ said (shape_of l ∷ []) + said (map shape_of model)
said_behind [] l = said_first l []
said_behind (x ∷ model) l =
    said_first x (model ++ l ∷ []) ∙ ap (λ n. said (shape_of x ∷ []) + n) (said_behind model l)
    ∙ (let one = said_first x model in omega (arith, one))

-- with a line more, a script has as many statements as before, and the line's
pub said_more : (model : Script) (l : Line) → said (map shape_of (model ++ l ∷ [])) ≡ with_statement l (said (map shape_of model))
said_more model l = said_behind model l ∙ one_said l (said (map shape_of model))

-- ---- the documents

own_numbered : (s : ℕ) (model : Script) → AreWithin model → list_all has_number (statements s model) ≡ true
own_numbered s [] h = refl
own_numbered s (say t driven st ∷ model) h = by_test (eqb t s) (own_numbered s model h.1)
  where
    by_test : (b : Bool) → list_all has_number (statements s model) ≡ true → list_all has_number (if b then st ∷ statements s model else statements s model) ≡ true
    by_test true rest = both (has_number st) (list_all has_number (statements s model)) h.0.1 rest
    by_test false rest = rest
own_numbered s (step t n ∷ model) h = own_numbered s model h.1
own_numbered s (purge ∷ model) h = own_numbered s model h.1
own_numbered s (checkpoint ∷ model) h = own_numbered s model h.1
own_numbered s (audit ∷ model) h = own_numbered s model h.1
own_numbered s (restart ∷ model) h = own_numbered s model h.1

as_numbered : (sts : List Statement) → list_all has_number (map statement_of sts) ≡ list_all is_numbered sts
as_numbered [] = refl
as_numbered (st ∷ sts) = ap (λ b. b && list_all has_number (map statement_of sts)) (same_number st) ∙ ap (λ b. is_numbered st && b) (as_numbered sts)

-- each list by its place
by_places : (lists : List (Vec Statement Global)) → ((k : ℕ) → IfSome (slice_get lists k) (λ v. are_numbered v ≡ true)) → list_all are_numbered lists ≡ true
by_places [] h = refl
by_places (v ∷ lists) h = both (are_numbered v) (list_all are_numbered lists) (h 0) (by_places lists (λ k. h (suc k)))

-- the statements of a script within the limits name documents from 1 on
pub documents_within : (lists : List (Vec Statement Global)) (model : Script) → AreLists lists model → AreWithin model → list_all are_numbered lists ≡ true
documents_within lists model are within = by_places lists (λ k. on k (slice_get lists k) (are k))
  where
    on : (k : ℕ) (o : Option (Vec Statement Global)) → IfSome o (λ v. map statement_of v.items ≡ statements (k + 1) model) → IfSome o (λ v. are_numbered v ≡ true)
    on k None is = tt
    on k (Some v) is = sym (as_numbered v.items) ∙ ap (list_all has_number) is ∙ own_numbered (k + 1) model within
