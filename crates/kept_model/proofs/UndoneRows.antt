-- The end of a rollback: documents, sessions and locks.
use Rattle.std.proofs.Common.{◌≡◌, ◌≢◌, inl, inr, ℕ, suc, Bool, true, false, true≢false, not, cond, ◌&&◌, nat_eq, List, [], ◌∷◌, ◌++◌, map, reverse, Option, Some, None, refl, sym, ap, subst, ◌∙◌, if◌then◌else◌}
use Rattle.std.specs.List.{filter}
use Rattle.journal_model.specs.Documents.{call_doc}
use Rattle.journal_model.specs.Journal.{Script, Undoer, Entry, Opening}
use Rattle.journal_model.specs.Part.{is_deadlock, is_memory, level_in, calls_in, own, touches, view_since_start}
use Rattle.journal_model.specs.Locks.{has_change, holds}
use Rattle.journal_model.specs.Legal.{has_deadlock}
use Rattle.journal_model.specs.History.{Owner, session, commit, Made, History, is_sessions, history}
use Rattle.history_model.specs.Laws.{IsRun}
use Rattle.history_model.specs.Sound.{OfOwners}
use Rattle.history_model.proofs.SeenLemmas.{IsNot, not_has}
use Rattle.history_model.proofs.OwnerLemmas.{own_held}
use Rattle.history_model.proofs.OwnedLemmas.{owned_of}
use Rattle.store_model.specs.History.{Past}
use Rattle.store_model.specs.History as store
use Rattle.kept_model.specs.Engine.{undoing, Engine, resting, unless}
use Rattle.kept_model.specs.Names.{names_of, is_old, is_purging}
use Rattle.kept_model.specs.Rows.{AreNamed}
use Rattle.kept_model.specs.Stored.{Front, whole, begun, undone, front_of, front_by, front, IsAhead, IsStoredBy, known_from, IsStored}
use Rattle.kept_model.specs.Sessions.{IsSession, IsLogged, has_lock, AreLocks}
use Rattle.kept_model.specs.Kept.{Kept}
use Rattle.kept_model.specs.Ended.{IsEnding, undone_event}
use Rattle.kept_model.proofs.UndoneLemmas.{undone_stored}
use Rattle.kept_model.proofs.StoredLemmas.{untouched}
use Rattle.kept_model.proofs.PassedLemmas.{any_owner}
use Rattle.kept_model.proofs.PlanKept.{stored_over}
use Rattle.kept_model.proofs.FrameLemmas.{under_way_same}
use Rattle.kept_model.proofs.SessionLemmas.{is_eq, apart_of, not_eq, by_session, session_same, logged_same, holds_same, may_hold_same, unless_other, unless_is}
use Rattle.kept_model.proofs.CommitRows.{begun_held}

pub filter_none : (s : ℕ) (ms : List Made) → OfOwners (IsNot s) ms → filter (λ m. not (is_sessions s m.owner)) ms ≡ ms
unfolding OfOwners
filter_none s [] all = refl
filter_none s (m ∷ ms) all =
    ap (λ (b : Bool). cond (not b) (m ∷ filter (λ m. not (is_sessions s m.owner)) ms) (filter (λ m. not (is_sessions s m.owner)) ms)) all.0
    ∙ ap (λ (l : List Made). m ∷ l) (filter_none s ms all.1)

-- an owner without a transaction has no row
pub not_named : (names : Owner → Option ℕ) (old : ℕ → Bool) (w : Owner) (ms : List Made) (ps : List Past) → names w ≡ None → AreNamed names old ms ps → OfOwners (λ v. v ≢ w) ms
unfolding OfOwners
not_named names old w [] ps none named = tt
not_named names old w (m ∷ ms) [] none named = absurd named
not_named names old w (m ∷ ms) (p ∷ ps) none named = ((λ same. absurd (cc (sym none ∙ ap names (sym same) ∙ named.0))), not_named names old w ms ps none named.1)

pub false_of : (b : Bool) → (b ≡ true → ⊥) → b ≡ false
false_of true h = absurd (h refl)
false_of false h = refl

module _ (o : Opening) (script : Script) (run : IsRun o script) (e : Engine) (kept : Kept o script e) (s : ℕ) (v : Undoer) (past' : List Entry)
    (task_is : (e.sessions s).task ≡ undoing v) (gone : (e.sessions s).trx ≡ None) (ending : IsEnding o script s e.journal past') where
  abbrev pub new : Engine
  new = undone_event s past' e

  pub trx_same : (t : ℕ) → (new.sessions t).trx ≡ (e.sessions t).trx
  trx_same = by_session (λ t x. x.trx ≡ (e.sessions t).trx) s resting e.sessions (sym gone) (λ t apart. refl)

  pub names_same : (w : Owner) (x : ℕ) → names_of e w ≡ Some x → names_of new w ≡ Some x
  names_same (session t) x h = trx_same t ∙ h
  names_same (commit k) x h = h

  pub not_touched : (d : ℕ) → (e.locks d ≡ Some s → ⊥) → touches d (own script s e.journal) ≡ false
  not_touched d free = false_of (touches d (own script s e.journal)) (λ h. free ((kept.locks d).held s (own_held script s d e.journal h)))

  pub history_same : (d : ℕ) → (e.locks d ≡ Some s → ⊥) → history o script past' d ≡ history o script e.journal d
  history_same d free =
      ending.changes d
      ∙ ap (λ (ms : List Made). record { changes = ms; base = (history o script e.journal d).base; lob = (history o script e.journal d).lob })
      (filter_none s (history o script e.journal d).changes (not_has s (history o script e.journal d).changes (owned_of o script e.journal run.numbered kept.calm.legal d s ∙ not_touched d free)))

  -- ---- documents

  abbrev pub By : History → Front → List Entry → ℕ → Type 0
  By h f past q = IsStoredBy (known_from o e.store) script past h f (is_purging e.store.committed) (suc e.store.purged) (is_old e.store) (names_of e) (store.history e.store q)

  pub renamed : (q : ℕ) (h : History) (f : Front) → By h f past' q → IsStoredBy (known_from o e.store) script past' h f (is_purging e.store.committed) (suc e.store.purged) (is_old e.store) (names_of new) (store.history e.store q)
  renamed q h f k = stored_over (known_from o e.store) (known_from o e.store) script past' h f (is_purging e.store.committed) (is_purging e.store.committed) (suc e.store.purged) (suc e.store.purged)
      (is_old e.store) (is_old e.store) (names_of e) (names_of new) (store.history e.store q) refl refl refl (λ x old. old) names_same k

  pub ahead_same : (q : ℕ) → (e.locks q ≡ Some s → ⊥) → (f : Front) → front e q ≡ f → (ms : List Made) → IsAhead script e.journal (history o script e.journal q) f ms → IsAhead script past' (history o script e.journal q) f ms
  ahead_same q free whole f_is ms h = h
  ahead_same q free (begun t) f_is ms h = (h.0, under_way_same script t e.journal past' (ending.others t (not_eq t s (λ one. free (begun_held q (e.locks q) e.sessions t f_is ∙ ap (λ (n : ℕ). Some n) one)))) ∙ h.1, h.2)
  ahead_same q free (undone t) f_is ms h = h

  abbrev pub Now : ℕ → Front → Type 0
  Now q f = IsStoredBy (known_from o e.store) script past' (history o script past' q) f (is_purging e.store.committed) (suc e.store.purged) (is_old e.store) (names_of new) (store.history e.store q)

  pub own_stored : (q : ℕ) → e.locks q ≡ Some s → Now q whole
  own_stored q mine =
      let f_is : front e q ≡ undone s = ap (λ (m : Option ℕ). front_by q m e.sessions) mine ∙ ap (front_of q s) task_is in
      let k : By (history o script e.journal q) (undone s) e.journal q = subst (λ (f : Front). By (history o script e.journal q) f e.journal q) f_is (kept.stored q) in
      let named : AreNamed (names_of e) (is_old e.store) k.left (store.history e.store q) = subst (λ (a : List Made). AreNamed (names_of e) (is_old e.store) (a ++ k.left) (store.history e.store q)) k.is_ahead k.named in
      renamed q (history o script past' q) whole
      (subst (λ (h : History). By h whole past' q) (sym (ending.changes q))
      (undone_stored (known_from o e.store) script e.journal past' (is_purging e.store.committed) (suc e.store.purged) (is_old e.store) (names_of e) (store.history e.store q) s
      (names_of e) (history o script e.journal q) (λ w x other h. h) k (not_named (names_of e) (is_old e.store) (session s) k.left (store.history e.store q) gone named)))

  pub other_stored : (q : ℕ) → (e.locks q ≡ Some s → ⊥) → Now q (front e q)
  other_stored q free = renamed q (history o script past' q) (front e q)
      (subst (λ (h : History). By h (front e q) past' q) (sym (history_same q free))
      (untouched (λ w. Unit {0}) (known_from o e.store) script e.journal past' (history o script e.journal q) (front e q) (is_purging e.store.committed) (suc e.store.purged)
      (is_old e.store) (is_old e.store) (names_of e) (names_of e) (store.history e.store q) (λ w x u h. h) (λ x old. old) (ahead_same q free (front e q) refl) (kept.stored q) (any_owner _)))

  pub stored_kept : (q : ℕ) → IsStored o script new q
  stored_kept q = by_lock (e.locks q) refl
    where
      by_test : (t : ℕ) (b : Bool) → nat_eq t s ≡ b → e.locks q ≡ Some t → Now q (front_by q (if b then None else Some t) new.sessions)
      by_test t true g is = own_stored q (is ∙ ap (λ (n : ℕ). Some n) (is_eq t s g))
      by_test t false g is = subst (Now q) (ap (λ (m : Option ℕ). front_by q m e.sessions) is ∙ sym (ap (λ (b : Bool). front_of q t (if b then resting else e.sessions t).task) g))
          (other_stored q (λ mine. apart_of t s (cc (sym is ∙ mine)) g))

      by_lock : (m : Option ℕ) → e.locks q ≡ m → Now q (front_by q (unless s (e.locks q)) new.sessions)
      by_lock None is = subst (λ (m : Option ℕ). Now q (front_by q (unless s m) new.sessions)) (sym is)
          (subst (Now q) (ap (λ (m : Option ℕ). front_by q m e.sessions) is) (other_stored q (λ mine. absurd (cc (sym is ∙ mine)))))
      by_lock (Some t) is = subst (λ (m : Option ℕ). Now q (front_by q (unless s m) new.sessions)) (sym is) (by_test t (nat_eq t s) refl is)

  -- ---- sessions and locks

  pub at_kept : (t : ℕ) → IsSession script past' t (new.sessions t)
  at_kept = by_session (IsSession script past') s resting e.sessions
      (record {
        count = ending.count;
        at = ap has_deadlock ending.part_none;
        level = sym (ap (level_in script s) ending.part_none);
        since = λ still. ap view_since_start ending.part_none;
      })
      (λ t apart. session_same script t e.journal past' (ending.others t apart) (e.sessions t) (kept.at t))

  pub logged_kept : (t : ℕ) → IsLogged script past' t (new.sessions t) e.store
  logged_kept = by_session (λ t x. IsLogged script past' t x e.store) s resting e.sessions
      (record {
        records = sym (ap (λ (p : List Entry). reverse (map call_doc (calls_in script s p))) ending.part_none);
        some = λ x h. absurd (cc h);
      })
      (λ t apart. logged_same script t e.journal past' (ending.others t apart) (e.sessions t) e.store e.store refl (kept.logged t))

  pub none_held : (d : ℕ) → holds script s d past' ≡ false
  none_held d = ap (λ (p : List Entry). has_change script (λ r. not (is_deadlock r) && not (is_memory r)) d p) ending.part_none

  pub locks_kept : (d : ℕ) → AreLocks script past' new.locks new.sessions d
  locks_kept d = record {
    held = λ t h. by_held t (nat_eq t s) refl h;
    taken = by_session (λ t x. has_lock d x.task ≡ true → new.locks d ≡ Some t) s resting e.sessions (λ h. absurd (true≢false (sym h)))
        (λ t apart h. ap (unless s) ((kept.locks d).taken t h) ∙ unless_other s t apart);
    meant = λ t h.
        let was = unless_is s t (e.locks d) h in
        let meant = (kept.locks d).meant t was.0 in (
          meant.0,
          elim meant.1 [
            | inl g ↦ inl (holds_same script t e.journal past' (ending.others t was.1) d ∙ g)
            | inr more ↦ inr (elim more [
              | inl g ↦ inl (may_hold_same script t e.journal past' (ending.others t was.1) d ∙ g)
              | inr g ↦ inr (ap (λ (b : Bool). has_lock d (if b then resting else e.sessions t).task) was.1 ∙ g)
            ])
          ],
        );
  }
    where
      by_held : (t : ℕ) (b : Bool) → nat_eq t s ≡ b → holds script t d past' ≡ true → new.locks d ≡ Some t
      by_held t true same h = absurd (true≢false (sym (ap (λ (u : ℕ). holds script u d past') (sym (is_eq t s same)) ∙ h) ∙ none_held d))
      by_held t false apart h = ap (unless s) ((kept.locks d).held t (sym (holds_same script t e.journal past' (ending.others t apart) d) ∙ h)) ∙ unless_other s t apart
