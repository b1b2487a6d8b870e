-- An answer that changes nothing leaves the session's own changes.
use Rattle.std.proofs.Common.{◌≡◌, ◌≢◌, ℕ, Bool, true, false, true≢false, not, List, [], ◌∷◌, Option, Some, None, is_some, IfSome, refl, sym, ap, subst, ◌&&◌}
use Rattle.journal_model.specs.Journal.{Script, Level, Statement, statement, call, get, size, begin, commit, rollback, Reply, restarted, Entry, Did, Commit, Opening}
use Rattle.journal_model.specs.Part.{made, ends_by, calls_in, own}
use Rattle.journal_model.specs.Legal.{IsLegal, Answer, MayAnswer, commit_due, restart_due}
use Rattle.history_model.proofs.OwnLemmas.{level, did_kept}
use Rattle.history_model.proofs.OutsideLemmas.{answered_as, is_restart, restart_is, other_is, no_parts, restarting, due_is, outside}

module _ (o : Opening) (script : Script) (s i : ℕ) (r : Reply) (past : List Entry) (legal : IsLegal o script (Did s i r ∷ past)) where
  quiet : commit_due o script past ≢ Some s
  quiet h = let e : Did s i r ≡ Commit s _ = due_is o script (Did s i r) past s legal.1.0 h in cc

  at_level : (l : Option Level) → level script s past ≡ l → not (is_some l) ≡ true → own script s past ≡ []
  at_level None h g = outside o script s past legal.0 h quiet
  at_level (Some l) h g = absurd (true≢false (sym g))

  first_of : (a b : Bool) → (a && b) ≡ true → a ≡ true
  first_of true b h = refl
  first_of false b h = h

  by_statement : (st : Option Statement) → statement script s i ≡ st → r ≢ restarted → IfSome st (λ x. Answer o script s x r past)
      → ends_by script s (is_some (level script s past)) st r ≡ true → own script s past ≡ []
  by_statement None is other answer ends = at_level (level script s past) refl (first_of (not (is_some (level script s past))) _ ends)
  by_statement (Some (call c)) is other answer ends = at_level (level script s past) refl (first_of (not (is_some (level script s past))) _ ends)
  by_statement (Some (get d)) is other answer ends = at_level (level script s past) refl (first_of (not (is_some (level script s past))) _ ends)
  by_statement (Some (size d)) is other answer ends = at_level (level script s past) refl (first_of (not (is_some (level script s past))) _ ends)
  by_statement (Some (begin l)) is other answer ends = at_level (level script s past) refl (first_of (not (is_some (level script s past))) _ ends)
  by_statement (Some commit) is other answer ends = answer.1
  by_statement (Some rollback) is other answer ends = outside o script s past legal.0 answer.1 quiet

  by_reply : (b : Bool) → is_restart r ≡ b → ends_by script s (is_some (level script s past)) (statement script s i) r ≡ true → own script s past ≡ []
  by_reply true h ends =
      let again : restart_due o script past ≡ Some s = subst (λ q. MayAnswer o script s i q past) (restart_is r h) legal.1.1.1 in
      ap (calls_in script s) (no_parts o script s past (restarting o script s past again))
  by_reply false h ends = by_statement (statement script s i) refl (other_is r h) (answered_as o script s i r past (other_is r h) legal.1.1.1) ends

  pub did_empty : ends_by script s (is_some (level script s past)) (statement script s i) r ≡ true → own script s past ≡ []
  did_empty ends = by_reply (is_restart r) refl ends

  -- an answer that changed nothing leaves the own calls
  pub did_none : made (statement script s i) r ≡ None → own script s (Did s i r ∷ past) ≡ own script s past
  did_none none = did_kept script s i r past none did_empty
