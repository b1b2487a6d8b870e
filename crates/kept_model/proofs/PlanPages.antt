-- The events of a change keep the versions held.
use Rattle.std.proofs.Common.{◌≡◌, ◌≢◌, inl, inr, ℕ, suc, Bool, true, nat_eq, List, ◌∷◌, Option, Some, None, refl, sym, ap, subst, ◌∙◌, if◌then◌else◌}
use Rattle.std.proofs.lemmas.Bool.{cases_eq}
use Rattle.journal_model.specs.Documents.{Call, call_doc}
use Rattle.journal_model.specs.Journal.{Script, call, Reply, Opening}
use Rattle.journal_model.specs.Part.{unanswered, under_way}
use Rattle.journal_model.specs.History.{Owner, session, commit, one_made, newest_in, pushed, history}
use Rattle.store_data.specs.Store.{Lob, Store}
use Rattle.read_model.specs.Flight.{Flight}
use Rattle.store_model.specs.History.{changes}
use Rattle.store_model.specs.Steps.{on_lobs}
use Rattle.store_model.specs.Events.{Plan}
use Rattle.kept_model.specs.Engine.{Left, nothing, Task, fetching, making, Session, Engine}
use Rattle.kept_model.specs.Names.{names_of, is_purging}
use Rattle.kept_model.specs.Stored.{whole, begun, front_of, front_by, front}
use Rattle.kept_model.specs.Sessions.{has_lock}
use Rattle.kept_model.specs.Held.{rest_of, rest_by, rest, IsHeld, lob_list}
use Rattle.kept_model.specs.Pages.{PlansLobs, WorksLobs}
use Rattle.kept_model.specs.Plans.{Plans, at_work, plan_event}
use Rattle.kept_model.specs.Begun.{with_trx, log_event}
use Rattle.kept_model.specs.Works.{work_event}
use Rattle.kept_model.specs.Answers.{change_answered}
use Rattle.kept_model.specs.Kept.{Kept, KeptPages}
use Rattle.kept_model.proofs.SessionLemmas.{self_eq, apart_of, not_eq, by_session}
use Rattle.kept_model.proofs.HeldFrame.{theirs_so, held_over, names_over, same_front, same_rest, held_left}
use Rattle.kept_model.proofs.HeldSteps.{plan_held, work_held, answer_held}
use Rattle.kept_model.proofs.AnswerRows as answer

-- the front and the rest of a document whose lock a session has that makes a change of it
making_front : (d s : ℕ) (left : Left) (r : Reply) → front_of d s (making d left r) ≡ begun s
making_front d s left r = ap (λ (b : Bool). if b then begun s else whole) (self_eq d)

making_rest : (d : ℕ) (left : Left) (r : Reply) → rest_of d (making d left r) ≡ left
making_rest d left r = ap (λ (b : Bool). if b then left else nothing) (self_eq d)

-- and those of another
other_front : (d q s : ℕ) (left : Left) (r : Reply) → q ≢ d → front_of q s (making d left r) ≡ whole
other_front d q s left r other = ap (λ (b : Bool). if b then begun s else whole) (not_eq d q (λ same. other (sym same)))

other_rest : (d q : ℕ) (left : Left) (r : Reply) → q ≢ d → rest_of q (making d left r) ≡ nothing
other_rest d q left r other = ap (λ (b : Bool). if b then left else nothing) (not_eq d q (λ same. other (sym same)))

-- ---- it is planned

module _ (o : Opening) (script : Script) (e : Engine) (pages : KeptPages o script e) (s : ℕ) (p : Plan) (left : Left) (r : Reply) (next : Store) (read : Flight)
    (locked : e.locks p.doc ≡ Some s) (fetched : (e.sessions s).task ≡ fetching p.doc read) (is : (e.sessions s).trx ≡ Some p.trx)
    (committed : next.committed ≡ e.store.committed) (purged : next.purged ≡ e.store.purged)
    (c : Call) (asked : under_way script s e.journal ≡ Some (call c))
    (plans : PlansLobs p (one_made s c (newest_in s (history o script e.journal p.doc))).kind left e.store next) where
  abbrev new : Engine
  new = plan_event s p left r next e

  abbrev x' : Session
  x' = at_work p.doc left r (e.sessions s)

  names_same : (w : Owner) (x : ℕ) → names_of e w ≡ Some x → names_of new w ≡ Some x
  names_same = names_over e new (by_session (λ t x. x.trx ≡ (e.sessions t).trx) s x' e.sessions refl (λ t apart. refl)) committed

  own_held : IsHeld o script new p.doc
  own_held =
      held_over script e.journal e.journal (history o script e.journal p.doc) (history o script e.journal p.doc) (begun s) (front new p.doc) left (rest new p.doc)
      (is_purging e.store.committed) (is_purging next.committed) (suc e.store.purged) (suc next.purged) (names_of e) (names_of new)
      (plans.change ∷ changes e.store p.doc) (changes next p.doc) (lob_list next p.doc) (lob_list next p.doc)
      refl
      (ap (λ (m : Option ℕ). front_by p.doc m new.sessions) locked ∙ here (λ t x. front_of p.doc t x.task ≡ begun t) (making_front p.doc s left r))
      (ap (λ (m : Option ℕ). rest_by p.doc m new.sessions) locked ∙ here (λ t x. rest_of p.doc x.task ≡ left) (making_rest p.doc left r))
      (ap is_purging committed) (ap suc purged) plans.changes refl (λ ms h. h)
      (λ ms. theirs_so (names_of e) (names_of new) ms (plans.change ∷ changes e.store p.doc) names_same)
      (plan_held script e.journal e.journal (is_purging e.store.committed) (suc e.store.purged) (names_of e) (changes e.store p.doc) (lob_list e.store p.doc) (lob_list next p.doc) s
      (history o script e.journal p.doc) c plans.change nothing left plans.done asked (is ∙ ap (λ (n : ℕ). Some n) (sym plans.trx)) plans.kind plans.rest plans.lobs
      (held_over script e.journal e.journal (history o script e.journal p.doc) (history o script e.journal p.doc) (front e p.doc) whole (rest e p.doc) nothing
      (is_purging e.store.committed) (is_purging e.store.committed) (suc e.store.purged) (suc e.store.purged) (names_of e) (names_of e)
      (changes e.store p.doc) (changes e.store p.doc) (lob_list e.store p.doc) (lob_list e.store p.doc)
      refl (sym (ap (λ (m : Option ℕ). front_by p.doc m e.sessions) locked ∙ ap (front_of p.doc s) fetched)) (sym (ap (λ (m : Option ℕ). rest_by p.doc m e.sessions) locked ∙ ap (rest_of p.doc) fetched))
      refl refl refl refl (λ ms h. h) (λ ms h. h) (pages.held p.doc)))
    where
      here : (P : ℕ → Session → Type 0) → P s x' → P s (new.sessions s)
      here P h = by_session (λ t y. t ≡ s → P t y) s x' e.sessions (λ one. h) (λ t apart one. absurd (apart_of t s one apart)) s refl

  other_held : (d : ℕ) → d ≢ p.doc → IsHeld o script new d
  other_held d other = held_left o script e new d (ap is_purging committed) purged names_same (record {
    history = refl;
    front = same_front d (e.locks d) e.sessions new.sessions (λ t h. by_session (λ t x. front_of d t x.task ≡ front_of d t (e.sessions t).task) s x' e.sessions
        (other_front p.doc d s left r other ∙ sym (ap (front_of d s) fetched)) (λ t apart. refl) t);
    rest = same_rest d (e.locks d) e.sessions new.sessions (λ t h. by_session (λ t x. rest_of d x.task ≡ rest_of d (e.sessions t).task) s x' e.sessions
        (other_rest p.doc d left r other ∙ sym (ap (rest_of d) fetched)) (λ t apart. refl) t);
    ahead = λ ms h. h;
    changes = (plans.others d other).changes;
    lobs = (plans.others d other).lobs;
  }) (pages.held d)

  pub planned_pages : KeptPages o script new
  planned_pages = record { held = λ d. elim (cases_eq d p.doc) [ inl here ↦ subst (IsHeld o script new) (sym here) own_held | inr other ↦ other_held d other ] }

lock_of : (o : Opening) (script : Script) (e : Engine) → Kept o script e → (s d : ℕ) (k : Task) → (e.sessions s).task ≡ k → has_lock d k ≡ true → e.locks d ≡ Some s
lock_of o script e kept s d k is has = (kept.locks d).taken s (ap (has_lock d) is ∙ has)

pub plan_keeps_pages : (o : Opening) (script : Script) (e : Engine) → Kept o script e → KeptPages o script e → (s : ℕ) (p : Plan) (left : Left) (r : Reply) (next : Store) → Plans p e.store next
    → (read : Flight) → (e.sessions s).task ≡ fetching p.doc read → (e.sessions s).trx ≡ Some p.trx
    → (c : Call) → under_way script s e.journal ≡ Some (call c)
    → PlansLobs p (one_made s c (newest_in s (history o script e.journal p.doc))).kind left e.store next
    → KeptPages o script (plan_event s p left r next e)
plan_keeps_pages o script e kept pages s p left r next plans read fetched is c asked lobs =
    planned_pages o script e pages s p left r next read (lock_of o script e kept s p.doc (fetching p.doc read) fetched (self_eq p.doc)) fetched is plans.committed plans.purged c asked lobs

-- ---- its log is begun

module _ (o : Opening) (script : Script) (e : Engine) (pages : KeptPages o script e) (s page : ℕ) (none : (e.sessions s).trx ≡ None) where
  abbrev logged : Engine
  logged = log_event s page e

  abbrev y : Session
  y = with_trx e.store.next_trx (e.sessions s)

  log_names : (w : Owner) (x : ℕ) → names_of e w ≡ Some x → names_of logged w ≡ Some x
  log_names (session t) x h = by_session (λ t z. (e.sessions t).trx ≡ Some x → z.trx ≡ Some x) s y e.sessions (λ g. absurd (cc (sym none ∙ g))) (λ t apart g. g) t h
  log_names (commit k) x h = h

  pub log_pages : KeptPages o script logged
  log_pages = record {
    held = λ d. held_left o script e logged d refl refl log_names (record {
      history = refl;
      front = same_front d (e.locks d) e.sessions logged.sessions (λ t h. by_session (λ t x. front_of d t x.task ≡ front_of d t (e.sessions t).task) s y e.sessions refl (λ t apart. refl) t);
      rest = same_rest d (e.locks d) e.sessions logged.sessions (λ t h. by_session (λ t x. rest_of d x.task ≡ rest_of d (e.sessions t).task) s y e.sessions refl (λ t apart. refl) t);
      ahead = λ ms h. h;
      changes = refl;
      lobs = refl;
    }) (pages.held d);
  }

pub first_plan_keeps_pages : (o : Opening) (script : Script) (e : Engine) → Kept o script e → KeptPages o script e → (s page : ℕ) (p : Plan) (left : Left) (r : Reply) (next : Store)
    → Plans p (log_event s page e).store next → (read : Flight) → (e.sessions s).task ≡ fetching p.doc read → (e.sessions s).trx ≡ None → p.trx ≡ e.store.next_trx
    → (c : Call) → under_way script s e.journal ≡ Some (call c)
    → PlansLobs p (one_made s c (newest_in s (history o script e.journal p.doc))).kind left (log_event s page e).store next
    → KeptPages o script (plan_event s p left r next (log_event s page e))
first_plan_keeps_pages o script e kept pages s page p left r next plans read fetched none is c asked lobs =
    planned_pages o script (log_event s page e) (log_pages o script e pages s page none) s p left r next read
    (lock_of o script e kept s p.doc (fetching p.doc read) fetched (self_eq p.doc))
    (here (λ x. x.task ≡ fetching p.doc read) fetched) (here (λ x. x.trx ≡ Some p.trx) (ap (λ (n : ℕ). Some n) (sym is))) plans.committed plans.purged c asked lobs
  where
    here : (P : Session → Type 0) → P (with_trx e.store.next_trx (e.sessions s)) → P ((log_event s page e).sessions s)
    here P h = by_session (λ t y. t ≡ s → P y) s (with_trx e.store.next_trx (e.sessions s)) e.sessions (λ one. h) (λ t apart one. absurd (apart_of t s one apart)) s refl

-- ---- it goes on

module _ (o : Opening) (script : Script) (e : Engine) (kept : Kept o script e) (pages : KeptPages o script e) (s d : ℕ) (left more : Left) (r : Reply) (f : List Lob → List Lob)
    (task_is : (e.sessions s).task ≡ making d left r) (works : WorksLobs d left more e.store (on_lobs f e.store)) where
  abbrev worked : Engine
  worked = work_event s d more r f e

  abbrev z : Session
  z = at_work d more r (e.sessions s)

  work_locked : e.locks d ≡ Some s
  work_locked = lock_of o script e kept s d (making d left r) task_is (self_eq d)

  work_names : (w : Owner) (x : ℕ) → names_of e w ≡ Some x → names_of worked w ≡ Some x
  work_names = names_over e worked (by_session (λ t x. x.trx ≡ (e.sessions t).trx) s z e.sessions refl (λ t apart. refl)) refl

  work_here : (P : ℕ → Session → Type 0) → P s z → P s (worked.sessions s)
  work_here P h = by_session (λ t y. t ≡ s → P t y) s z e.sessions (λ one. h) (λ t apart one. absurd (apart_of t s one apart)) s refl

  work_own : IsHeld o script worked d
  work_own =
      held_over script e.journal e.journal (history o script e.journal d) (history o script e.journal d) (begun s) (front worked d) more (rest worked d)
      (is_purging e.store.committed) (is_purging e.store.committed) (suc e.store.purged) (suc e.store.purged) (names_of e) (names_of worked)
      (changes e.store d) (changes worked.store d) (lob_list worked.store d) (lob_list worked.store d)
      refl
      (ap (λ (m : Option ℕ). front_by d m worked.sessions) work_locked ∙ work_here (λ t x. front_of d t x.task ≡ begun t) (making_front d s more r))
      (ap (λ (m : Option ℕ). rest_by d m worked.sessions) work_locked ∙ work_here (λ t x. rest_of d x.task ≡ more) (making_rest d more r))
      refl refl works.changes refl (λ ms h. h)
      (λ ms. theirs_so (names_of e) (names_of worked) ms (changes e.store d) work_names)
      (work_held script e.journal e.journal (is_purging e.store.committed) (suc e.store.purged) (names_of e) (changes e.store d) (lob_list e.store d) (lob_list worked.store d) s
      (history o script e.journal d) left more works.change works.older works.was works.step (λ ms h. h)
      (held_over script e.journal e.journal (history o script e.journal d) (history o script e.journal d) (front e d) (begun s) (rest e d) left
      (is_purging e.store.committed) (is_purging e.store.committed) (suc e.store.purged) (suc e.store.purged) (names_of e) (names_of e)
      (changes e.store d) (changes e.store d) (lob_list e.store d) (lob_list e.store d)
      refl (sym (ap (λ (m : Option ℕ). front_by d m e.sessions) work_locked ∙ ap (front_of d s) task_is ∙ making_front d s left r))
      (sym (ap (λ (m : Option ℕ). rest_by d m e.sessions) work_locked ∙ ap (rest_of d) task_is ∙ making_rest d left r))
      refl refl refl refl (λ ms h. h) (λ ms h. h) (pages.held d)))

  work_other : (q : ℕ) → q ≢ d → IsHeld o script worked q
  work_other q other = held_left o script e worked q refl refl work_names (record {
    history = refl;
    front = same_front q (e.locks q) e.sessions worked.sessions (λ t h. by_session (λ t x. front_of q t x.task ≡ front_of q t (e.sessions t).task) s z e.sessions
        (other_front d q s more r other ∙ sym (ap (front_of q s) task_is ∙ other_front d q s left r other)) (λ t apart. refl) t);
    rest = same_rest q (e.locks q) e.sessions worked.sessions (λ t h. by_session (λ t x. rest_of q x.task ≡ rest_of q (e.sessions t).task) s z e.sessions
        (other_rest d q more r other ∙ sym (ap (rest_of q) task_is ∙ other_rest d q left r other)) (λ t apart. refl) t);
    ahead = λ ms h. h;
    changes = (works.others q other).changes;
    lobs = (works.others q other).lobs;
  }) (pages.held q)

  pub work_keeps_pages : KeptPages o script worked
  work_keeps_pages = record { held = λ q. elim (cases_eq q d) [ inl here ↦ subst (IsHeld o script worked) (sym here) work_own | inr other ↦ work_other q other ] }

-- ---- it is answered

module _ (o : Opening) (script : Script) (e : Engine) (kept : Kept o script e) (pages : KeptPages o script e) (s i d : ℕ) (r : Reply)
    (task_is : (e.sessions s).task ≡ making d nothing r) (under : unanswered s e.journal ≡ Some i) where
  abbrev answered : Engine
  answered = change_answered s i r e

  answer_locked : e.locks d ≡ Some s
  answer_locked = lock_of o script e kept s d (making d nothing r) task_is (self_eq d)

  answer_names : (w : Owner) (x : ℕ) → names_of e w ≡ Some x → names_of answered w ≡ Some x
  answer_names = answer.names_same o script e kept s i d r (e.sessions s).level task_is refl under

  answer_rest : (q : ℕ) → rest answered q ≡ nothing → rest answered q ≡ nothing
  answer_rest q h = h

  history_own : history o script answered.journal d ≡ pushed s (answer.c o script e kept s i d r (e.sessions s).level task_is refl under) (history o script e.journal d)
  history_own = answer.history_is o script e kept s i d r (e.sessions s).level task_is refl under d
      ∙ ap (λ (b : Bool). if b then pushed s (answer.c o script e kept s i d r (e.sessions s).level task_is refl under) (history o script e.journal d) else history o script e.journal d)
      (ap (λ (n : ℕ). nat_eq n d) (answer.m o script e kept s i d r (e.sessions s).level task_is refl under).doc ∙ self_eq d)

  answer_own : IsHeld o script answered d
  answer_own =
      held_over script answered.journal answered.journal (pushed s (answer.c o script e kept s i d r (e.sessions s).level task_is refl under) (history o script e.journal d)) (history o script answered.journal d)
      whole (front answered d) nothing (rest answered d)
      (is_purging e.store.committed) (is_purging e.store.committed) (suc e.store.purged) (suc e.store.purged) (names_of e) (names_of answered)
      (changes e.store d) (changes e.store d) (lob_list e.store d) (lob_list e.store d)
      history_own (answer.front_now o script e kept s i d r (e.sessions s).level task_is refl under)
      (ap (λ (m : Option ℕ). rest_by d m answered.sessions) answer_locked ∙ by_session (λ t x. t ≡ s → rest_of d x.task ≡ nothing) s _ e.sessions (λ one. refl) (λ t apart one. absurd (apart_of t s one apart)) s refl)
      refl refl refl refl (λ ms h. h)
      (λ ms. theirs_so (names_of e) (names_of answered) ms (changes e.store d) answer_names)
      (answer_held script e.journal answered.journal (is_purging e.store.committed) (suc e.store.purged) (names_of e) (changes e.store d) (lob_list e.store d) (lob_list e.store d) s
      (history o script e.journal d) (answer.c o script e kept s i d r (e.sessions s).level task_is refl under)
      (answer.m o script e kept s i d r (e.sessions s).level task_is refl under).is
      (held_over script e.journal e.journal (history o script e.journal d) (history o script e.journal d) (front e d) (begun s) (rest e d) nothing
      (is_purging e.store.committed) (is_purging e.store.committed) (suc e.store.purged) (suc e.store.purged) (names_of e) (names_of e)
      (changes e.store d) (changes e.store d) (lob_list e.store d) (lob_list e.store d)
      refl (sym (answer.front_was o script e kept s i d r (e.sessions s).level task_is refl under))
      (sym (ap (λ (m : Option ℕ). rest_by d m e.sessions) answer_locked ∙ ap (rest_of d) task_is ∙ making_rest d nothing r))
      refl refl refl refl (λ ms h. h) (λ ms h. h) (pages.held d)))

  answer_other : (q : ℕ) → q ≢ d → IsHeld o script answered q
  answer_other q other = held_left o script e answered q refl refl answer_names (record {
    history = answer.history_is o script e kept s i d r (e.sessions s).level task_is refl under q
        ∙ ap (λ (b : Bool). if b then pushed s (answer.c o script e kept s i d r (e.sessions s).level task_is refl under) (history o script e.journal q) else history o script e.journal q)
        (not_eq (call_doc (answer.c o script e kept s i d r (e.sessions s).level task_is refl under)) q (λ one. other (sym one ∙ (answer.m o script e kept s i d r (e.sessions s).level task_is refl under).doc)));
    front = answer.front_same o script e kept s i d r (e.sessions s).level task_is refl under q other;
    rest = same_rest q (e.locks q) e.sessions answered.sessions (λ t h. by_session (λ t x. rest_of q x.task ≡ rest_of q (e.sessions t).task) s _ e.sessions
        (sym (ap (rest_of q) task_is ∙ other_rest d q nothing r other)) (λ t apart. refl) t);
    ahead = answer.ahead_same o script e kept s i d r (e.sessions s).level task_is refl under q other (front e q) refl;
    changes = refl;
    lobs = refl;
  }) (pages.held q)

  pub answer_keeps_pages : KeptPages o script answered
  answer_keeps_pages = record { held = λ q. elim (cases_eq q d) [ inl here ↦ subst (IsHeld o script answered) (sym here) answer_own | inr other ↦ answer_other q other ] }
