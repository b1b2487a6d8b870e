-- Why a line of a script is bad, and checks that answer a cause.
--     Cause      the causes, in the order of checking
--     check, found      go on where something holds, or is there; else the cause
use Rattle.std.specs.Prelude.{ℕ, Bool, List, codes, Option, Some, None, Result, Ok, Err, if◌then◌else◌}

-- why a line is bad, in the order of checking
pub data Cause : Type 0 where
  utf8 : Cause
  many : Cause
  turn : Cause
  word : Cause
  session : Cause
  document : Cause
  deep : Cause
  syntax : Cause
  float : Cause
  key : Cause
  arguments : Cause
  pairs : Cause
  path : Cause
  wildcard : Cause
  range : Cause
  root : Cause

-- as the status tells it
abbrev pub cause_text : Cause → List ℕ
cause_text utf8 = codes "utf8"
cause_text many = codes "many"
cause_text turn = codes "turn"
cause_text word = codes "word"
cause_text session = codes "session"
cause_text document = codes "document"
cause_text deep = codes "deep"
cause_text syntax = codes "syntax"
cause_text float = codes "float"
cause_text key = codes "key"
cause_text arguments = codes "arguments"
cause_text pairs = codes "pairs"
cause_text path = codes "path"
cause_text wildcard = codes "wildcard"
cause_text range = codes "range"
cause_text root = codes "root"

infixl 10 ◌>>=◌
abbrev pub ◌>>=◌ : {A B E : Type 0} → Result A E → (A → Result B E) → Result B E
(Ok x) >>= f = f x
(Err e) >>= f = Err e

-- ---- checks

abbrev pub check : Bool → Cause → Result (Unit {0}) Cause
check holds cause = if holds then Ok tt else Err cause

abbrev pub found : {A : Type 0} → Option A → Cause → Result A Cause
found None cause = Err cause
found (Some x) cause = Ok x
