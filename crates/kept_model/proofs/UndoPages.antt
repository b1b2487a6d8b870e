-- The events of a rollback keep the versions held.
use Rattle.std.proofs.Common.{◌≡◌, ◌≢◌, inl, inr, ℕ, suc, Bool, true, false, true≢false, nat_eq, List, [], ◌∷◌, Option, Some, None, refl, sym, ap, subst, ◌∙◌, if◌then◌else◌}
use Rattle.std.proofs.lemmas.Bool.{cases_eq}
use Rattle.page_model.specs.Pages.{Address}
use Rattle.journal_model.specs.Journal.{Script, Undoer, Entry, Opening}
use Rattle.journal_model.specs.History.{Owner, session, commit, Made, is_sessions, without, history}
use Rattle.history_model.specs.Laws.{IsRun}
use Rattle.store_data.specs.Store.{Lob, Record, Log, Store}
use Rattle.store_model.specs.History.{Change, changes, active_changes, committed_changes, stands}
use Rattle.store_model.specs.Steps.{on_lobs}
use Rattle.read_model.specs.Flight.{Flight}
use Rattle.kept_model.specs.Engine.{nothing, Task, idle, asking, fetching, making, reading, undoing, Session, Engine, resting, unless}
use Rattle.kept_model.specs.Names.{trx_numbered, names_of, is_purging}
use Rattle.kept_model.specs.Stored.{Front, whole, undone, front_of, front_by, front}
use Rattle.kept_model.specs.Held.{AreTheirs, rest_of, rest_by, rest, IsHeldBy, IsHeld, lob_list}
use Rattle.kept_model.specs.Pages.{KeepsLobs, HalvesLobs, UndoesLobs}
use Rattle.kept_model.specs.Halves.{turned_task, turned_session, half_event}
use Rattle.kept_model.specs.Undoes.{handed_task, handed_session, Undoes, undo_event}
use Rattle.kept_model.specs.Lasts.{Ends, last_event}
use Rattle.kept_model.specs.Ended.{IsEnding, undone_event}
use Rattle.kept_model.specs.Kept.{Kept, KeptPages}
use Rattle.kept_model.proofs.SessionLemmas.{is_eq, apart_of, by_session}
use Rattle.kept_model.proofs.HalfKept.{turned_front}
use Rattle.kept_model.proofs.UndoRows.{handed_front}
use Rattle.kept_model.proofs.PurgedRows.{NoneOf, none_join, none_active, none_committed}
use Rattle.kept_model.proofs.HeldFrame.{theirs_so, held_over, names_over, same_front, same_rest, held_by, held_left}
use Rattle.kept_model.proofs.LowLemmas.{low_of}
use Rattle.kept_model.proofs.HeldBack.{half_undone, step_undone, all_undone}
use Rattle.kept_model.proofs.UndoneRows as ended

-- ---- tasks

turned_rest : (turn : ℕ → Flight → Flight) (d : ℕ) (k : Task) → rest_of d (turned_task turn k) ≡ rest_of d k
turned_rest turn d idle = refl
turned_rest turn d (asking e) = refl
turned_rest turn d (fetching e ps) = refl
turned_rest turn d (making e left r) = refl
turned_rest turn d (reading e f) = refl
turned_rest turn d (undoing v) = refl

handed_rest : (doc : ℕ) (a : Address) (u : Record) (d : ℕ) (k : Task) → rest_of d (handed_task doc a u k) ≡ rest_of d k
handed_rest doc a u d idle = refl
handed_rest doc a u d (asking e) = refl
handed_rest doc a u d (fetching e ps) = refl
handed_rest doc a u d (making e left r) = refl
handed_rest doc a u d (reading e f) = refl
handed_rest doc a u d (undoing v) = refl

-- ---- the store and the sessions change, the journal and the locks stay

module _ (o : Opening) (script : Script) (e : Engine) (kept : Kept o script e) (pages : KeptPages o script e) (s trx d : ℕ) (v : Undoer)
    (task_is : (e.sessions s).task ≡ undoing v) (is : (e.sessions s).trx ≡ Some trx) (locked : e.locks d ≡ Some s)
    (next : Store) (tasks : ℕ → Session)
    (fronts : (q t : ℕ) → front_of q t (tasks t).task ≡ front_of q t (e.sessions t).task) (rests : (q t : ℕ) → rest_of q (tasks t).task ≡ rest_of q (e.sessions t).task)
    (committed : next.committed ≡ e.store.committed) (purged : next.purged ≡ e.store.purged) where
  abbrev new : Engine
  new = record e { store = next; sessions = tasks }

  -- the transaction is the session's alone
  names_one : (x : ℕ) → x ≡ trx → (w : Owner) → names_of e w ≡ Some x → w ≡ session s
  names_one x one (session t) has = ap session (kept.logs.apart t s trx (has ∙ ap (λ (k : ℕ). Some k) one) is)
  names_one x one (commit k) has = absurd (true≢false (sym (kept.logs.own s trx is).0 ∙ (kept.logs.commits k trx (has ∙ ap (λ (m : ℕ). Some m) one)).0))

  front_is : front e d ≡ undone s
  front_is = ap (λ (m : Option ℕ). front_by d m e.sessions) locked ∙ ap (front_of d s) task_is

  front_same : (q : ℕ) → front new q ≡ front e q
  front_same q = same_front q (e.locks q) e.sessions tasks (λ t h. fronts q t)

  rest_same : (q : ℕ) → rest new q ≡ rest e q
  rest_same q = same_rest q (e.locks q) e.sessions tasks (λ t h. rests q t)

  other_held : (theirs : (q : ℕ) (ms : List Made) → AreTheirs (names_of e) ms (changes next q) → AreTheirs (names_of new) ms (changes next q)) (q : ℕ) → KeepsLobs e.store next q → IsHeld o script new q
  other_held theirs q keeps = held_by o script e new q (ap is_purging committed) purged
      (λ ms. subst (λ (cs : List Change). AreTheirs (names_of e) ms cs → AreTheirs (names_of new) ms cs) keeps.changes (theirs q ms)) (record {
        history = refl;
        front = front_same q;
        rest = rest_same q;
        ahead = λ ms h. h;
        changes = keeps.changes;
        lobs = keeps.lobs;
      }) (pages.held q)

  abbrev By : List Change → List Rattle.journal_model.specs.Held.HeldLob → Type 0
  By cs lobs = IsHeldBy script e.journal (history o script e.journal d) (undone s) (rest e d) (is_purging e.store.committed) (suc e.store.purged) (names_of e) cs lobs

  was : By (changes e.store d) (lob_list e.store d)
  was = subst (λ (f : Front). IsHeldBy script e.journal (history o script e.journal d) f (rest e d) (is_purging e.store.committed) (suc e.store.purged) (names_of e) (changes e.store d) (lob_list e.store d)) front_is (pages.held d)

  now : (theirs : (q : ℕ) (ms : List Made) → AreTheirs (names_of e) ms (changes next q) → AreTheirs (names_of new) ms (changes next q)) → By (changes next d) (lob_list next d) → IsHeld o script new d
  now theirs k = held_over script e.journal e.journal (history o script e.journal d) (history o script e.journal d) (undone s) (front new d) (rest e d) (rest new d)
      (is_purging e.store.committed) (is_purging next.committed) (suc e.store.purged) (suc next.purged) (names_of e) (names_of new)
      (changes next d) (changes next d) (lob_list next d) (lob_list next d)
      refl (front_same d ∙ front_is) (rest_same d) (ap is_purging committed) (ap suc purged) refl refl (λ ms h. h) (theirs d) k

  pub halved : (theirs : (q : ℕ) (ms : List Made) → AreTheirs (names_of e) ms (changes next q) → AreTheirs (names_of new) ms (changes next q)) → HalvesLobs trx d e.store next → KeptPages o script new
  halved theirs h = record {
    held = λ q. elim (cases_eq q d) [
      | inl here ↦ subst (IsHeld o script new) (sym here) (now theirs (subst (λ (cs : List Change). By cs (lob_list next d)) (sym h.changes)
          (half_undone script e.journal e.journal (is_purging e.store.committed) (suc e.store.purged) (names_of e) (changes e.store d) (lob_list e.store d) (lob_list next d) s (history o script e.journal d) (rest e d)
          h.change h.older h.was (names_one h.change.trx h.mine) (low_of o script e.journal d) h.step was)))
      | inr other ↦ other_held theirs q (h.others q other)
    ];
  }

  pub stepped : (theirs : (q : ℕ) (ms : List Made) → AreTheirs (names_of e) ms (changes next q) → AreTheirs (names_of new) ms (changes next q)) → UndoesLobs trx d e.store next → KeptPages o script new
  stepped theirs h = record {
    held = λ q. elim (cases_eq q d) [
      | inl here ↦ subst (IsHeld o script new) (sym here) (now theirs
          (step_undone script e.journal e.journal (is_purging e.store.committed) (suc e.store.purged) (names_of e) (changes e.store d) (lob_list e.store d) (lob_list next d) s (history o script e.journal d) (rest e d)
          h.change (changes next d) h.was (names_one h.change.trx h.mine) h.step was))
      | inr other ↦ other_held theirs q (h.others q other)
    ];
  }

pub half_keeps_pages : (o : Opening) (script : Script) (e : Engine) → Kept o script e → KeptPages o script e → (s trx d : ℕ) (turn : ℕ → Flight → Flight) (f : List Lob → List Lob) → HalvesLobs trx d e.store (on_lobs f e.store)
    → (v : Undoer) → (e.sessions s).task ≡ undoing v → (e.sessions s).trx ≡ Some trx → e.locks d ≡ Some s → KeptPages o script (half_event turn f e)
half_keeps_pages o script e kept pages s trx d turn f halves v task_is is locked =
    halved o script e kept pages s trx d v task_is is locked (on_lobs f e.store) (λ t. turned_session turn (e.sessions t))
    (λ q t. turned_front turn q t (e.sessions t).task) (λ q t. turned_rest turn q (e.sessions t).task) refl refl
    (λ q ms. theirs_so (names_of e) (names_of (half_event turn f e)) ms (changes (on_lobs f e.store) q) (names_over e (half_event turn f e) (λ t. refl) refl)) halves

pub undo_keeps_pages : (o : Opening) (script : Script) (e : Engine) → Kept o script e → KeptPages o script e → (s trx : ℕ) (place : Address) (u : Record) (next : Store) → Undoes trx place u e.store next
    → UndoesLobs trx u.doc e.store next
    → (v : Undoer) → (e.sessions s).task ≡ undoing v → (e.sessions s).trx ≡ Some trx → e.locks u.doc ≡ Some s → KeptPages o script (undo_event place u next e)
undo_keeps_pages o script e kept pages s trx place u next undoes lobs v task_is is locked =
    stepped o script e kept pages s trx u.doc v task_is is locked next (λ t. handed_session u.doc place u (e.sessions t))
    (λ q t. handed_front u.doc place u q t (e.sessions t).task) (λ q t. handed_rest u.doc place u q (e.sessions t).task) undoes.committed undoes.purged
    (λ q ms. theirs_so (names_of e) (names_of (undo_event place u next e)) ms (changes next q) (names_over e (undo_event place u next e) (λ t. refl) undoes.committed)) lobs

-- owners of changes that aren't the transaction's keep theirs
theirs_off : (names names' : Owner → Option ℕ) (trx s : ℕ) (ms : List Made) (cs : List Change) → names (session s) ≡ Some trx → NoneOf trx cs → ((w : Owner) (x : ℕ) → w ≢ session s → names w ≡ Some x → names' w ≡ Some x)
    → AreTheirs names ms cs → AreTheirs names' ms cs
theirs_off names names' trx s [] [] is none same h = h
theirs_off names names' trx s [] (c ∷ cs) is none same h = absurd h
theirs_off names names' trx s (m ∷ ms) [] is none same h = absurd h
theirs_off names names' trx s (m ∷ ms) (c ∷ cs) is none same h =
    (same m.owner c.trx (λ one. none.0 (cc (sym h.0 ∙ ap names one ∙ is))) h.0, h.1, theirs_off names names' trx s ms cs is none.1 same h.2)

pub last_keeps_pages : (o : Opening) (script : Script) (e : Engine) → Kept o script e → KeptPages o script e → (s trx : ℕ) (place : Address) (u : Record) (next : Store) → Ends trx place u e.store next
    → UndoesLobs trx u.doc e.store next
    → (v : Undoer) → (e.sessions s).task ≡ undoing v → (e.sessions s).trx ≡ Some trx → e.locks u.doc ≡ Some s → KeptPages o script (last_event s place u next e)
last_keeps_pages o script e kept pages s trx place u next ends lobs v task_is is locked =
    stepped o script e kept pages s trx u.doc v task_is is locked next (last_event s place u next e).sessions
    (λ q. by_session (λ t x. front_of q t x.task ≡ front_of q t (e.sessions t).task) s x' handed refl (λ t apart. handed_front u.doc place u q t (e.sessions t).task))
    (λ q. by_session (λ t x. rest_of q x.task ≡ rest_of q (e.sessions t).task) s x' handed refl (λ t apart. handed_rest u.doc place u q (e.sessions t).task)) ends.committed ends.purged
    (λ q ms. theirs_off (names_of e) (names_of (last_event s place u next e)) trx s ms (changes next q) is (none_left q) names_same) lobs
  where
    x' : Session
    x' = record (e.sessions s) { trx = None }

    handed : ℕ → Session
    handed t = handed_session u.doc place u (e.sessions t)

    none_left : (q : ℕ) → NoneOf trx (changes next q)
    none_left q = none_join trx (active_changes q next.active) (committed_changes q next.committed)
        (none_active trx q next.active ends.gone) (none_committed trx q next.committed (ap (stands trx) ends.committed ∙ (kept.logs.own s trx is).1))

    names_same : (w : Owner) (x : ℕ) → w ≢ session s → names_of e w ≡ Some x → names_of (last_event s place u next e) w ≡ Some x
    names_same (session t) x other has = by_session (λ t y. t ≢ s → (e.sessions t).trx ≡ Some x → y.trx ≡ Some x) s x' handed (λ apart. absurd (apart refl)) (λ t a b h. h) t (λ same. other (ap session same)) has
    names_same (commit k) x other has = ap (λ (ls : List Log). trx_numbered ls k) ends.committed ∙ has

-- ---- the rollback ends

module _ (o : Opening) (script : Script) (run : IsRun o script) (e : Engine) (kept : Kept o script e) (pages : KeptPages o script e) (s : ℕ) (v : Undoer) (past' : List Entry)
    (task_is : (e.sessions s).task ≡ undoing v) (gone : (e.sessions s).trx ≡ None) (ending : IsEnding o script s e.journal past') where
  abbrev quit : Engine
  quit = undone_event s past' e

  end_names : (w : Owner) (x : ℕ) → names_of e w ≡ Some x → names_of quit w ≡ Some x
  end_names = ended.names_same o script run e kept s v past' task_is gone ending

  end_own : (q : ℕ) → e.locks q ≡ Some s → quit.locks q ≡ None → IsHeld o script quit q
  end_own q mine free =
      held_over script past' past' (without (is_sessions s) (history o script e.journal q)) (history o script past' q) whole (front quit q) nothing (rest quit q)
      (is_purging e.store.committed) (is_purging e.store.committed) (suc e.store.purged) (suc e.store.purged) (names_of e) (names_of quit)
      (changes e.store q) (changes e.store q) (lob_list e.store q) (lob_list e.store q)
      (ending.changes q) (ap (λ (m : Option ℕ). front_by q m quit.sessions) free) (ap (λ (m : Option ℕ). rest_by q m quit.sessions) free)
      refl refl refl refl (λ ms h. h) (λ ms. theirs_so (names_of e) (names_of quit) ms (changes e.store q) end_names)
      (all_undone script e.journal past' (is_purging e.store.committed) (suc e.store.purged) (names_of e) (changes e.store q) (lob_list e.store q) s (history o script e.journal q) (rest e q) nothing gone
      (subst (λ (f : Front). IsHeldBy script e.journal (history o script e.journal q) f (rest e q) (is_purging e.store.committed) (suc e.store.purged) (names_of e) (changes e.store q) (lob_list e.store q))
      (ap (λ (m : Option ℕ). front_by q m e.sessions) mine ∙ ap (front_of q s) task_is) (pages.held q)))

  end_other : (q : ℕ) → (e.locks q ≡ Some s → ⊥) → front quit q ≡ front e q → rest quit q ≡ rest e q → IsHeld o script quit q
  end_other q free f r = held_left o script e quit q refl refl end_names (record {
    history = ended.history_same o script run e kept s v past' task_is gone ending q free;
    front = f;
    rest = r;
    ahead = ended.ahead_same o script run e kept s v past' task_is gone ending q free (front e q) refl;
    changes = refl;
    lobs = refl;
  }) (pages.held q)

  end_held : (q : ℕ) → IsHeld o script quit q
  end_held q = by_lock (e.locks q) refl
    where
      by_test : (t : ℕ) (b : Bool) → nat_eq t s ≡ b → e.locks q ≡ Some t → IsHeld o script quit q
      by_test t true g l = end_own q (l ∙ ap (λ (n : ℕ). Some n) (is_eq t s g)) (ap (unless s) l ∙ ap (λ (b : Bool). if b then None else Some t) g)
      by_test t false g l =
          let lock : quit.locks q ≡ Some t = ap (unless s) l ∙ ap (λ (b : Bool). if b then None else Some t) g in
          end_other q (λ mine. apart_of t s (cc (sym l ∙ mine)) g)
          (ap (λ (m : Option ℕ). front_by q m quit.sessions) lock ∙ ap (λ (b : Bool). front_of q t (if b then resting else e.sessions t).task) g ∙ sym (ap (λ (m : Option ℕ). front_by q m e.sessions) l))
          (ap (λ (m : Option ℕ). rest_by q m quit.sessions) lock ∙ ap (λ (b : Bool). rest_of q (if b then resting else e.sessions t).task) g ∙ sym (ap (λ (m : Option ℕ). rest_by q m e.sessions) l))

      by_lock : (m : Option ℕ) → e.locks q ≡ m → IsHeld o script quit q
      by_lock None l = end_other q (λ mine. absurd (cc (sym l ∙ mine)))
          (ap (λ (m : Option ℕ). front_by q m quit.sessions) (ap (unless s) l) ∙ sym (ap (λ (m : Option ℕ). front_by q m e.sessions) l))
          (ap (λ (m : Option ℕ). rest_by q m quit.sessions) (ap (unless s) l) ∙ sym (ap (λ (m : Option ℕ). rest_by q m e.sessions) l))
      by_lock (Some t) l = by_test t (nat_eq t s) refl l

  pub end_keeps_pages : KeptPages o script quit
  end_keeps_pages = record { held = end_held }
