-- The statements of a script of one session.
use Rattle.std.proofs.Common.{◌≡◌, ◌≤◌, ℕ, suc, List, [], ◌∷◌, map, length, true, Result, Ok, Err, refl, sym, ap, subst, ◌∙◌}
use Rattle.std.specs.List.{AllByRecursion}
use Rattle.journal_model.specs.Built.{alone}
use Rattle.journal_model.specs.Journal as journal
use Rattle.journal_model.specs.Idle.{is_by_itself}
use Rattle.journal_model.specs.ScriptText.{Mode, Cause, script_by}
use Rattle.journal_model.proofs.AloneLemmas.{read_alone}
use Rattle.statements.specs.Forms.{statement_of}
use Rattle.statements.specs.Scripts.{IsScript, IsReadAs}
use Rattle.statements.specs.declared.script.Script.{Script}
use Rattle.statements.specs.declared.statement.Statement.{Statement}
use Rattle.lob_store.specs.Run.{lines_of, AreByItself}

as_lines : (sts : List Statement) → map (λ st. journal.say 1 true st) (map statement_of sts) ≡ lines_of sts
as_lines [] = refl
as_lines (st ∷ sts) = ap (λ ls. journal.say 1 true (statement_of st) ∷ ls) (as_lines sts)

by_itself : (sts : List Statement) → AllByRecursion (λ st. is_by_itself st ≡ true) (map statement_of sts) → AreByItself sts
by_itself [] h = tt
by_itself (st ∷ sts) h = (h.0, by_itself sts h.1)

as_many : (sts : List Statement) → length (map statement_of sts) ≡ length sts
as_many [] = refl
as_many (st ∷ sts) = ap suc (as_many sts)

-- what a list of statements is, where it is that of session 1
abbrev IsWhole : Mode → List ℕ → List Statement → Type 0
IsWhole mode bytes sts = (script_by alone mode bytes ≡ Ok (lines_of sts)) × (length sts ≤ 100_000) × AreByItself sts

-- a script read for one session is its statements as lines, at most 100,000 and each by itself
pub loaded : (mode : Mode) (bytes : List ℕ) (script : Script) (sts : List Statement) → IsReadAs script (script_by alone mode bytes)
    → ((model : journal.Script) → IsScript script model → map statement_of sts ≡ journal.statements 1 model) → IsWhole mode bytes sts
loaded mode bytes script sts read all = on (script_by alone mode bytes) refl read
  where
    on : (r : Result journal.Script (ℕ × Cause)) → script_by alone mode bytes ≡ r → IsReadAs script r → IsWhole mode bytes sts
    on (Err e) is h = absurd h
    on (Ok model) is h =
        let same = all model h.0 in
        let plain = read_alone mode bytes model is in
        let whole : model ≡ lines_of sts = plain.0 ∙ ap (map (λ st. journal.say 1 true st)) (sym same) ∙ as_lines sts in
        (is ∙ ap Ok whole, subst (λ n. n ≤ 100_000) (ap length (sym same) ∙ as_many sts) (h.1 1), by_itself sts (subst (AllByRecursion (λ st. is_by_itself st ≡ true)) (sym same) plain.1))
