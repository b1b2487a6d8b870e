-- Whom an audit may name as busy.
use Rattle.std.proofs.Common.{◌≡◌, ℕ, suc, ◌+◌, ◌≤◌, Bool, true, false, ◌||◌, Option, Some, None, IfSome, option_map, option_and_then, refl, sym, ap, subst, ◌∙◌, arith, if◌then◌else◌}
use Rattle.std.specs.Prelude.{slice_index_or}
use Rattle.journal_model.specs.Journal.{Script, Statement, call, get, size, begin, commit, rollback, statement, by_rollback, by_deadlock, by_end, session, purging, Opening}
use Rattle.journal_model.specs.Part.{part, commits_of, purged_of, unanswered, under_way, view_of}
use Rattle.journal_model.specs.Locks.{sessions, changes, asks}
use Rattle.journal_model.specs.Legal.{has_deadlock, is_changing, IsBusy}
use Rattle.kept_model.specs.Engine.{ReadView, Task, idle, asking, fetching, making, reading, undoing, Engine}
use Rattle.kept_model.specs.Names.{floor, is_purging}
use Rattle.kept_model.specs.Sessions.{IsAt}
use Rattle.kept_model.specs.Kept.{Kept}
use Rattle.kept_model.specs.Waits.{IsAtWork}
use Rattle.kept_model.proofs.NameLemmas.{floor_made}

or_true : (b : Bool) → (b || true) ≡ true
or_true true = refl
or_true false = refl

module _ (o : Opening) (script : Script) where
  changes_it : (d : ℕ) (st : Option Statement) → changes st ≡ Some d → is_changing o script st ≡ true
  changes_it d None h = absurd (cc h)
  changes_it d (Some (call c)) h = refl
  changes_it d (Some (get e)) h = absurd (cc h)
  changes_it d (Some (size e)) h = absurd (cc h)
  changes_it d (Some (begin l)) h = absurd (cc h)
  changes_it d (Some commit) h = absurd (cc h)
  changes_it d (Some rollback) h = refl

  asks_it : (s d : ℕ) (u : Option ℕ) → option_and_then (λ i. changes (statement script s i)) u ≡ Some d → is_changing o script (option_and_then (λ i. statement script s i) u) ≡ true
  asks_it s d None h = absurd (cc h)
  asks_it s d (Some i) h = changes_it d (statement script s i) h

  module _ (e : Engine) (kept : Kept o script e) where
    change_is_busy : (s d : ℕ) → asks script s e.journal ≡ Some d → IsBusy o script (session s) e.journal
    change_is_busy s d is = ap (λ (b : Bool). b || has_deadlock (part script s e.journal)) (asks_it s d (unanswered s e.journal) is)

    pub work_is_busy : (s : ℕ) → IsAtWork (e.sessions s).task → IsBusy o script (session s) e.journal
    work_is_busy s at_work = by_task (e.sessions s).task refl at_work
      where
        by_task : (k : Task) → (e.sessions s).task ≡ k → IsAtWork k → IsBusy o script (session s) e.journal
        by_task idle is h = absurd h
        by_task (asking d) is h = change_is_busy s d (subst (IsAt script e.journal s) is (kept.at s).at).0
        by_task (fetching d ps) is h = change_is_busy s d (subst (IsAt script e.journal s) is (kept.at s).at).0
        by_task (making d left r) is h = change_is_busy s d (subst (IsAt script e.journal s) is (kept.at s).at).0
        by_task (reading d f) is h = absurd h
        by_task (undoing by_rollback) is h =
            ap (λ (st : Option Statement). is_changing o script st || has_deadlock (part script s e.journal)) (subst (IsAt script e.journal s) is (kept.at s).at).0
        by_task (undoing by_deadlock) is h =
            ap (λ (b : Bool). is_changing o script (under_way script s e.journal) || b) (subst (IsAt script e.journal s) is (kept.at s).at)
            ∙ or_true (is_changing o script (under_way script s e.journal))
        by_task (undoing by_end) is h = absurd h

    pub purge_is_busy : suc e.store.purged ≤ e.store.commits → ((s : ℕ) (v : ReadView) → (e.sessions s).view ≡ Some v → suc e.store.purged ≤ v.commits) → IsBusy o script purging e.journal
    purge_is_busy some low = (refl, next_is (λ m. m ≤ commits_of o e.journal) (subst (λ (m : ℕ). suc e.store.purged ≤ m) kept.counts.commits some), (λ k d less. viewed (slice_index_or sessions k d)))
      where
        is_next : suc e.store.purged ≡ purged_of o e.journal + 1
        is_next = ap suc kept.counts.purged ∙ (let z : suc (purged_of o e.journal) ≡ purged_of o e.journal + 1 = grind arith in z)

        next_is : (P : ℕ → Type 0) → P (suc e.store.purged) → P (purged_of o e.journal + 1)
        next_is P h = subst P is_next h

        viewed : (s : ℕ) → IfSome (view_of script s e.journal) (λ k. purged_of o e.journal + 1 ≤ k)
        viewed s = by_view (e.sessions s).view refl
          where
            by_view : (m : Option ReadView) → (e.sessions s).view ≡ m → IfSome (view_of script s e.journal) (λ k. purged_of o e.journal + 1 ≤ k)
            by_view None has = subst (λ (w : Option ℕ). IfSome w (λ k. purged_of o e.journal + 1 ≤ k)) (sym (ap (option_map (λ (v : ReadView). v.commits)) has) ∙ (kept.views s).commits) tt
            by_view (Some v) has = subst (λ (w : Option ℕ). IfSome w (λ k. purged_of o e.journal + 1 ≤ k)) (sym (ap (option_map (λ (v : ReadView). v.commits)) has) ∙ (kept.views s).commits)
                (subst (λ (m : ℕ). m ≤ v.commits) is_next (low s v has))

    pub begun_is_busy : is_purging e.store.committed ≡ true → IsBusy o script purging e.journal
    begun_is_busy begun = purge_is_busy (subst (λ (m : ℕ). m ≤ e.store.commits) floor_is (floor_made e.store kept.logs.numbered))
        (λ s v has. subst (λ (m : ℕ). m ≤ v.commits) floor_is ((kept.views s).sees v has).low)
      where
        floor_is : floor e.store ≡ suc e.store.purged
        floor_is = ap (λ (b : Bool). if b then suc e.store.purged else e.store.purged) begun
