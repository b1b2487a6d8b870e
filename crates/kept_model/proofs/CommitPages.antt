-- A commit keeps the versions held.
use Rattle.std.proofs.Common.{◌≡◌, ℕ, suc, ◌+◌, ◌≤◌, Bool, true, false, nat_eq, List, ◌++◌, length, Option, Some, None, refl, sym, ap, subst, ◌∙◌, if◌then◌else◌}
use Rattle.journal_model.specs.Journal.{Script, Reply, commit, statement, statements, Entry, Opening}
use Rattle.journal_model.specs.Part.{own, touches, answered, unanswered}
use Rattle.journal_model.specs.History.{Made, committed, history}
use Rattle.history_model.specs.Laws.{IsRun}
use Rattle.history_model.specs.Sound.{OfOwners}
use Rattle.history_model.proofs.SeenLemmas.{IsNot, not_has, none_renamed}
use Rattle.history_model.proofs.OwnedLemmas.{owned_of}
use Rattle.history_model.proofs.OwnerLemmas.{own_held}
use Rattle.store_data.specs.Store.{Log, Store}
use Rattle.store_model.specs.History.{Change, changes}
use Rattle.store_model.specs.Locked.{IsLocked}
use Rattle.store_model.specs.Steps.{log_of}
use Rattle.store_model.specs.Events.{moved, committed_by}
use Rattle.store_model.proofs.CommitLemmas.{moved-keeps}
use Rattle.kept_model.specs.Engine.{nothing, idle, making, Session, Engine, resting, with_session, unless, released}
use Rattle.kept_model.specs.Names.{names_of, is_purging}
use Rattle.kept_model.specs.Stored.{Front, whole, begun, undone, front_of, front_by, front}
use Rattle.kept_model.specs.Held.{rest_of, rest_by, rest, IsHeldBy, IsHeld, lob_list}
use Rattle.kept_model.specs.Ended.{SaysSame}
use Rattle.kept_model.specs.Answers.{answered_session, change_answered}
use Rattle.kept_model.specs.Commits.{commit_event, due_event}
use Rattle.kept_model.specs.Kept.{KeptAt, Kept, KeptPages}
use Rattle.kept_model.proofs.FrameLemmas.{under_way_same}
use Rattle.kept_model.proofs.SessionLemmas.{self_eq, is_eq, apart_of}
use Rattle.kept_model.proofs.LogLemmas.{stands_log}
use Rattle.kept_model.proofs.NameLemmas.{commit_names, commit_purging, commit_purged}
use Rattle.kept_model.proofs.CommitRows.{begun_held, undone_held, front_released, of_parts, of_both, one_owner_is, false_of}
use Rattle.kept_model.proofs.CommitRows as rows
use Rattle.kept_model.proofs.DueRows as due
use Rattle.kept_model.proofs.SeenLemmas.{history_committed}
use Rattle.kept_model.proofs.AnswerKept.{answer_keeps}
use Rattle.kept_model.proofs.HeldFrame.{held_over}
use Rattle.kept_model.proofs.HeldSteps.{whole_committed, other_committed}
use Rattle.kept_model.proofs.PlanPages.{answer_keeps_pages}

moved_lobs : (trx d : ℕ) (store : Store) (o : Option Log) → log_of store.active trx ≡ o → IsLocked d store.active → lob_list (moved trx o store) d ≡ lob_list store d
moved_lobs trx d store None is locked = refl
moved_lobs trx d store (Some l) is locked = ap (λ (cs : List Change). Rattle.kept_model.specs.Held.held_lobs store.lobs
    (Rattle.store_model.specs.Owned.owned_if (Rattle.store_model.specs.History.row_before store d).state (Rattle.store_model.specs.History.row_before store d).lob.page ++ Rattle.kept_model.specs.Held.change_lobs cs))
    (moved-keeps trx d store (Some l) is locked)

rest_released : (d s : ℕ) (l : Option ℕ) (tasks : ℕ → Session) → (tasks s).task ≡ idle → rest_by d (unless s l) (with_session s resting tasks) ≡ rest_by d l tasks
rest_released d s None tasks free = refl
rest_released d s (Some t) tasks free = by_test (nat_eq t s) refl
  where
    by_test : (b : Bool) → nat_eq t s ≡ b → rest_by d (if b then None else Some t) (with_session s resting tasks) ≡ rest_of d (tasks t).task
    by_test true e = sym (ap (λ (n : ℕ). rest_of d (tasks n).task) (is_eq t s e) ∙ ap (rest_of d) free)
    by_test false e = ap (λ (b : Bool). rest_of d (if b then resting else tasks t).task) e

module _ (m : Option ℕ) (o : Opening) (script : Script) (run : IsRun o script) (e : Engine) (kept : KeptAt m o script e) (pages : KeptPages o script e) (s trx : ℕ)
    (is : (e.sessions s).trx ≡ Some trx) (free : (e.sessions s).task ≡ idle) (past' : List Entry)
    (behind : (d : ℕ) → history o script past' d ≡ committed s (suc e.store.commits) (history o script e.journal d))
    (elses : (t : ℕ) → nat_eq t s ≡ false → SaysSame script t e.journal past') where
  abbrev n : ℕ
  n = suc e.store.commits

  abbrev new : Engine
  new = record { store = committed_by trx e.store; sessions = with_session s resting e.sessions; locks = released s e.locks; journal = past' }

  l : (k : Log) × (log_of e.store.active trx ≡ Some k)
  l = stands_log trx e.store.active (kept.logs.own s trx is).0

  not_touched : (d t : ℕ) → e.locks d ≡ Some t → nat_eq t s ≡ false → touches d (own script s e.journal) ≡ false
  not_touched d t held apart = false_of (touches d (own script s e.journal)) (λ h.
      let mine = (kept.locks d).held s (own_held script s d e.journal h) in
      let one : t ≡ s = cc (sym held ∙ mine) in
      apart_of t s one apart)

  none_own : (d t : ℕ) → e.locks d ≡ Some t → nat_eq t s ≡ false → OfOwners (IsNot s) (history o script e.journal d).changes
  none_own d t held apart = not_has s (history o script e.journal d).changes (owned_of o script e.journal run.numbered kept.calm.legal d s ∙ not_touched d t held apart)

  -- whoever is at work on the document is another session
  other : (d t : ℕ) (f : Front) → front e d ≡ f → ((f ≡ whole) → ⊥) → e.locks d ≡ Some t → nat_eq t s ≡ false
  other d t f f_is busy held = false_of (nat_eq t s) (λ same.
      busy (sym f_is ∙ ap (λ (k : Option ℕ). front_by d k e.sessions) (held ∙ ap (λ (u : ℕ). Some u) (is_eq t s same)) ∙ ap (front_of d s) free))

  abbrev Was : ℕ → Front → Type 0
  Was d f = IsHeldBy script e.journal (history o script e.journal d) f (rest e d) (is_purging e.store.committed) (suc e.store.purged) (names_of e) (changes e.store d) (lob_list e.store d)

  abbrev Now : ℕ → Front → Type 0
  Now d f = IsHeldBy script past' (committed s n (history o script e.journal d)) f (rest e d) (is_purging e.store.committed) (suc e.store.purged) (names_of new) (changes e.store d) (lob_list e.store d)

  others_only : (d t : ℕ) (f : Front) → e.locks d ≡ Some t → nat_eq t s ≡ false → (k : Was d f) → OfOwners (IsNot s) (k.left ++ k.half)
  others_only d t f held apart k =
      let parts = of_parts (IsNot s) k.gone (k.left ++ (k.half ++ k.passed)) (subst (OfOwners (IsNot s)) k.is (none_own d t held apart)) in
      let left = of_parts (IsNot s) k.left (k.half ++ k.passed) parts.1 in
      of_both (IsNot s) k.left k.half left.0 (of_parts (IsNot s) k.half k.passed left.1).0

  held_as : (d : ℕ) (f : Front) → front e d ≡ f → Was d f → Now d f
  held_as d whole f_is k =
      whole_committed script e.journal past' (is_purging e.store.committed) (suc e.store.purged) (names_of e) (names_of new) (changes e.store d) (lob_list e.store d) s n (rest e d)
      (commit_names e.store e.sessions s trx l.0 kept.logs is l.1) (history o script e.journal d) k
  held_as d (begun t) f_is k =
      let held = begun_held d (e.locks d) e.sessions t f_is in
      let apart = other d t (begun t) f_is (λ h. absurd (cc h)) held in
      other_committed script e.journal past' (is_purging e.store.committed) (suc e.store.purged) (names_of e) (names_of new) (changes e.store d) (lob_list e.store d) s n (rest e d)
      (commit_names e.store e.sessions s trx l.0 kept.logs is l.1) (history o script e.journal d) (begun t) (none_renamed s n (history o script e.journal d).changes (none_own d t held apart))
      (λ ms made. (made.0, under_way_same script t e.journal past' (elses t apart) ∙ made.1, made.2))
      k (none_renamed s n (k.ahead ++ (k.left ++ k.half)) (of_both (IsNot s) k.ahead (k.left ++ k.half)
      (subst (OfOwners (IsNot s)) (sym k.is_ahead.2) (one_owner_is s t k.is_ahead.0 (history o script e.journal d) apart)) (others_only d t (begun t) held apart k)))
  held_as d (undone t) f_is k =
      let held = undone_held d (e.locks d) e.sessions t f_is in
      let apart = other d t (undone t) f_is (λ h. absurd (cc h)) held in
      other_committed script e.journal past' (is_purging e.store.committed) (suc e.store.purged) (names_of e) (names_of new) (changes e.store d) (lob_list e.store d) s n (rest e d)
      (commit_names e.store e.sessions s trx l.0 kept.logs is l.1) (history o script e.journal d) (undone t) (none_renamed s n (history o script e.journal d).changes (none_own d t held apart))
      (λ ms made. made)
      k (none_renamed s n (k.ahead ++ (k.left ++ k.half)) (subst (λ (a : List Made). OfOwners (IsNot s) (a ++ (k.left ++ k.half))) (sym k.is_ahead) (others_only d t (undone t) held apart k)))

  pub committed_pages : KeptPages o script new
  committed_pages = record {
    held = λ d. held_over script past' past' (committed s n (history o script e.journal d)) (history o script past' d) (front e d) (front new d) (rest e d) (rest new d)
        (is_purging e.store.committed) (is_purging new.store.committed) (suc e.store.purged) (suc new.store.purged) (names_of new) (names_of new)
        (changes e.store d) (changes new.store d) (lob_list e.store d) (lob_list new.store d)
        (behind d) (front_released d s (e.locks d) e.sessions free) (rest_released d s (e.locks d) e.sessions free)
        (commit_purging e.store e.sessions s trx l.0 kept.logs is l.1) (ap suc (commit_purged e.store e.sessions s trx l.0 kept.logs is l.1))
        (moved-keeps trx d e.store (log_of e.store.active trx) refl (kept.consistent.well.locked d)) (moved_lobs trx d e.store (log_of e.store.active trx) refl (kept.consistent.well.locked d))
        (λ ms h. h) (λ ms h. h) (held_as d (front e d) refl (pages.held d));
  }

pub commit_keeps_pages : (o : Opening) (script : Script) → IsRun o script → (e : Engine) → Kept o script e → KeptPages o script e → (s i trx : ℕ) → (e.sessions s).trx ≡ Some trx → (e.sessions s).task ≡ idle
    → statement script s i ≡ Some commit → i ≡ answered s e.journal + 1 → i ≤ length (statements s script) → KeptPages o script (commit_event s i trx e)
commit_keeps_pages o script run e kept pages s i trx is free statement_is next few =
    committed_pages None o script run e kept pages s trx is free (commit_event s i trx e).journal
    (λ d. history_committed o script run e.journal s i (suc e.store.commits) statement_is d)
    (rows.elses o script run e kept s i trx is free statement_is next few)

pub outside_keeps_pages : (o : Opening) (script : Script) → IsRun o script → (e : Engine) → Kept o script e → KeptPages o script e → (s i trx d : ℕ) (r : Reply) → (e.sessions s).task ≡ making d nothing r
    → (e.sessions s).level ≡ None → (e.sessions s).trx ≡ Some trx → unanswered s e.journal ≡ Some i → KeptPages o script (due_event s trx (change_answered s i r e))
outside_keeps_pages o script run e kept pages s i trx d r task outside is under =
    let mid = answer_keeps o script e kept s i d r None task outside under in
    let trx_is = ap (λ (b : Bool). (if b then answered_session (e.sessions s) else e.sessions s).trx) (self_eq s) ∙ is in
    let free = ap (λ (b : Bool). (if b then answered_session (e.sessions s) else e.sessions s).task) (self_eq s) in
    committed_pages (Some s) o script run (change_answered s i r e) mid (answer_keeps_pages o script e kept pages s i d r task under) s trx trx_is free
    (due_event s trx (change_answered s i r e)).journal (λ q. refl) (due.elses o script run (change_answered s i r e) s trx mid trx_is free)
