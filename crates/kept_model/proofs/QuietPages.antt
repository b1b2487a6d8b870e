-- Events that leave the store keep the versions held.
use Rattle.std.proofs.Common.{◌≡◌, inl, inr, ◌⊎◌, ℕ, suc, Bool, true, false, nat_eq, List, [], ◌∷◌, ◌++◌, Option, Some, None, option_to_list, refl, sym, ap, subst, ◌∙◌, if◌then◌else◌}
use Rattle.journal_model.specs.Journal.{Script, Audit, Entry, Start, View, Wait, Did, Commit, Undone, Purged, Audited, Restart, Opening}
use Rattle.journal_model.specs.Documents.{Call}
use Rattle.journal_model.specs.Held.{Kind, HeldLob, add_all}
use Rattle.history_model.specs.Sound.{lob_behind_all}
use Rattle.journal_model.specs.History.{Owner, is_sessions, Made, History, with_call, kinds, history}
use Rattle.read_model.specs.Flight.{Flight}
use Rattle.store_model.specs.History.{Change, changes}
use Rattle.read_model.specs.Steps.{event_of_read}
use Rattle.read_model.specs.OfStore.{document}
use Rattle.kept_model.specs.Engine.{ReadView, sees_by, Left, nothing, Task, idle, asking, fetching, making, reading, undoing, Session, Engine, with_session, unless, released}
use Rattle.kept_model.specs.Names.{names_of, is_purging}
use Rattle.kept_model.specs.Stored.{Front, whole, begun, undone, AllOwned, front_of, front_by, front, IsAhead}
use Rattle.kept_model.specs.Held.{part_kind, front_kinds, half_lobs, IsDone, rest_of, rest_by, rest, IsHeldBy, IsHeld, lob_list}
use Rattle.kept_model.specs.Pages.{IsNotMaking, IsStill, LockGoes, IsQuietOf, AreQuiet}
use Rattle.kept_model.specs.Kept.{KeptPages}
use Rattle.kept_model.specs.Quiet.{granted, quiet_event}
use Rattle.kept_model.specs.Reading.{read_event}
use Rattle.kept_model.proofs.FrameLemmas.{IsElse, AreElse, says_same, under_way_same}
use Rattle.kept_model.proofs.SessionLemmas.{is_eq, apart_of, not_eq, by_session}
use Rattle.kept_model.proofs.HeldFrame.{theirs_so, held_over, names_over, same_front, same_rest, held_left, whole_part}

-- ---- tasks

pub still_front : (d s : ℕ) (k : Task) → IsStill k → front_of d s k ≡ whole
still_front d s idle h = refl
still_front d s (asking e) h = refl
still_front d s (fetching e ps) h = refl
still_front d s (making e left r) h = absurd h
still_front d s (reading e f) h = refl
still_front d s (undoing u) h = absurd h

pub not_making : (k : Task) → IsStill k → IsNotMaking k
not_making idle h = tt
not_making (asking e) h = tt
not_making (fetching e ps) h = tt
not_making (making e left r) h = absurd h
not_making (reading e f) h = tt
not_making (undoing u) h = absurd h

pub no_rest : (d : ℕ) (k : Task) → IsNotMaking k → rest_of d k ≡ nothing
no_rest d idle h = refl
no_rest d (asking e) h = refl
no_rest d (fetching e ps) h = refl
no_rest d (making e left r) h = absurd h
no_rest d (reading e f) h = refl
no_rest d (undoing u) h = refl

turned_front : (d s : ℕ) (k : Task) → IsNotMaking k → (front_of d s k ≡ whole) ⊎ (front_of d s k ≡ undone s)
turned_front d s idle h = inl refl
turned_front d s (asking e) h = inl refl
turned_front d s (fetching e ps) h = inl refl
turned_front d s (making e left r) h = absurd h
turned_front d s (reading e f) h = inl refl
turned_front d s (undoing u) h = inr refl

-- ---- a session begins to undo: its change is whole as yet

if_same : {A : Type 0} (b : Bool) (x y : A) → x ≡ y → (if b then x else y) ≡ y
if_same true x y h = h
if_same false x y h = refl

pub all_done : (s : ℕ) (old : List ℕ) (r : Left) (ms : List Made) → (done : List ℕ) × IsDone (undone s) r done ms × (front_kinds (undone s) done ms ≡ front_kinds whole old ms)
all_done s old r [] = ([], tt, refl)
all_done s old r (m ∷ ms) =
    let p = whole_part m.kind in
    (p.0, p.2, ap (λ (k : Kind). k ∷ kinds ms) (if_same (is_sessions s m.owner) (part_kind p.0 m.kind) m.kind p.1))

pub turn_held : (s : ℕ) (script : Script) (past : List Entry) (h : History) (r : Left) (b : Bool) (n : ℕ) (names : Owner → Option ℕ) (cs : List Change) (lobs : List HeldLob)
    → IsHeldBy script past h whole r b n names cs lobs → IsHeldBy script past h (undone s) r b n names cs lobs
turn_held s script past h r b n names cs lobs k =
    let a = all_done s k.done r (k.ahead ++ k.left) in
    record {
      ahead = k.ahead;
      gone = k.gone;
      left = k.left;
      half = k.half;
      passed = k.passed;
      is = k.is;
      is_ahead = k.is_ahead;
      are_undone = subst (AllOwned (is_sessions s)) (sym k.are_undone) tt;
      is_half = k.is_half;
      are_passed = k.are_passed;
      theirs = k.theirs;
      done = a.0;
      dropped = k.dropped;
      is_done = a.1;
      are_dropped = k.are_dropped;
      held = k.held ∙ ap (λ ks. add_all ks (half_lobs k.dropped k.half (option_to_list (lob_behind_all k.passed h.lob)))) (sym a.2);
    }

-- ---- entries

pub quiet_else : (script : Script) (s t : ℕ) (es : List Entry) → nat_eq t s ≡ false → AreQuiet script s es → AreElse t es
quiet_else script s t [] apart q = tt
quiet_else script s t (e ∷ es) apart q = (one e q.0, quiet_else script s t es apart q.1)
  where
    other : (u : ℕ) → u ≡ s → nat_eq u t ≡ false
    other u is = not_eq u t (λ same. apart_of t s (sym same ∙ is) apart)

    one : (e : Entry) → IsQuietOf script s e → IsElse t e
    one (Start u i) h = other u h
    one (View u k) h = other u h
    one (Wait u d g) h = other u h
    one (Did u i r) h = other u h.0
    one (Commit u c) h = absurd h
    one (Undone u v) h = absurd h
    one (Purged c) h = absurd h
    one (Audited a) h = tt
    one (Restart k) h = absurd h

pub quiet_history : (o : Opening) (script : Script) (s : ℕ) (es past : List Entry) (d : ℕ) → AreQuiet script s es → history o script (es ++ past) d ≡ history o script past d
quiet_history o script s [] past d q = refl
quiet_history o script s (e ∷ es) past d q = one e q.0 ∙ quiet_history o script s es past d q.1
  where
    one : (e : Entry) → IsQuietOf script s e → history o script (e ∷ (es ++ past)) d ≡ history o script (es ++ past) d
    one (Start u i) h = refl
    one (View u k) h = refl
    one (Wait u f g) h = refl
    one (Did u i r) h = ap (λ (c : Option Call). with_call d u c (history o script (es ++ past) d)) h.1
    one (Commit u c) h = absurd h
    one (Undone u v) h = absurd h
    one (Purged c) h = absurd h
    one (Audited a) h = refl
    one (Restart k) h = absurd h

-- ---- an event of one session

module _ (o : Opening) (script : Script) (e : Engine) (kept : KeptPages o script e) (s : ℕ) (x : Session) (locks : ℕ → Option ℕ) (es : List Entry)
    (quiet : AreQuiet script s es) (trx : x.trx ≡ (e.sessions s).trx) where
  abbrev new : Engine
  new = quiet_event s x locks (es ++ e.journal) e

  names_same : (w : Owner) (n : ℕ) → names_of e w ≡ Some n → names_of new w ≡ Some n
  names_same = names_over e new (by_session (λ t y. y.trx ≡ (e.sessions t).trx) s x e.sessions trx (λ t apart. refl)) refl

  -- a planned change of a document is another session's
  ahead_same : (d : ℕ) (f : Front) → ((f ≡ begun s) → ⊥) → (ms : List Made) → IsAhead script e.journal (history o script e.journal d) f ms → IsAhead script new.journal (history o script e.journal d) f ms
  ahead_same d whole other ms h = h
  ahead_same d (begun t) other ms h =
      (h.0, under_way_same script t e.journal new.journal (says_same script t es e.journal (quiet_else script s t es (not_eq t s (λ same. other (ap begun same))) quiet)) ∙ h.1, h.2)
  ahead_same d (undone t) other ms h = h

  over : (d : ℕ) → front new d ≡ front e d → rest new d ≡ rest e d → ((front e d ≡ begun s) → ⊥) → IsHeld o script new d
  over d f r other = held_left o script e new d refl refl names_same (record {
    history = quiet_history o script s es e.journal d quiet;
    front = f;
    rest = r;
    ahead = ahead_same d (front e d) other;
    changes = refl;
    lobs = refl;
  }) (kept.held d)

  turned : (d : ℕ) → front e d ≡ whole → rest e d ≡ nothing → front new d ≡ undone s → rest new d ≡ nothing → IsHeld o script new d
  turned d was none now none' =
      held_over script new.journal new.journal (history o script e.journal d) (history o script new.journal d) (undone s) (front new d) nothing (rest new d)
      (is_purging e.store.committed) (is_purging e.store.committed) (suc e.store.purged) (suc e.store.purged) (names_of new) (names_of new)
      (changes e.store d) (changes e.store d) (lob_list e.store d) (lob_list e.store d)
      (quiet_history o script s es e.journal d quiet) now none' refl refl refl refl (λ ms h. h) (λ ms h. h)
      (turn_held s script new.journal (history o script e.journal d) nothing (is_purging e.store.committed) (suc e.store.purged) (names_of new) (changes e.store d) (lob_list e.store d)
      (held_over script e.journal new.journal (history o script e.journal d) (history o script e.journal d) (front e d) whole (rest e d) nothing
      (is_purging e.store.committed) (is_purging e.store.committed) (suc e.store.purged) (suc e.store.purged) (names_of e) (names_of new)
      (changes e.store d) (changes e.store d) (lob_list e.store d) (lob_list e.store d)
      refl (sym was) (sym none) refl refl refl refl (ahead_same d (front e d) (λ b. absurd (cc (sym was ∙ b)))) (λ ms. theirs_so (names_of e) (names_of new) ms (changes e.store d) names_same) (kept.held d)))

  module _ (still : IsStill (e.sessions s).task) (goes_on : IsNotMaking x.task) (goes : (d : ℕ) → LockGoes s (e.locks d) (locks d)) where
    here : (P : ℕ → Session → Type 0) → P s x → P s (new.sessions s)
    here P h = by_session (λ t y. t ≡ s → P t y) s x e.sessions (λ one. h) (λ t apart one. absurd (apart_of t s one apart)) s refl

    was_whole : (d : ℕ) (l : Option ℕ) → l ≡ Some s → (front_by d l e.sessions ≡ whole) × (rest_by d l e.sessions ≡ nothing)
    was_whole d l is = (
      ap (λ (k : Option ℕ). front_by d k e.sessions) is ∙ still_front d s (e.sessions s).task still,
      ap (λ (k : Option ℕ). rest_by d k e.sessions) is ∙ no_rest d (e.sessions s).task (not_making (e.sessions s).task still),
    )

    now_whole : (d : ℕ) (l : Option ℕ) → l ≡ Some s → ((front_by d l new.sessions ≡ whole) ⊎ (front_by d l new.sessions ≡ undone s)) × (rest_by d l new.sessions ≡ nothing)
    now_whole d l is = (
      elim (here (λ t y. (front_of d t y.task ≡ whole) ⊎ (front_of d t y.task ≡ undone t)) (turned_front d s x.task goes_on)) [
        | inl a ↦ inl (ap (λ (k : Option ℕ). front_by d k new.sessions) is ∙ a)
        | inr a ↦ inr (ap (λ (k : Option ℕ). front_by d k new.sessions) is ∙ a)
      ],
      ap (λ (k : Option ℕ). rest_by d k new.sessions) is ∙ here (λ t y. rest_of d y.task ≡ nothing) (no_rest d x.task goes_on),
    )

    -- by the lock before and the one now
    from_whole : (d : ℕ) → (front e d ≡ whole) × (rest e d ≡ nothing) → ((front new d ≡ whole) ⊎ (front new d ≡ undone s)) × (rest new d ≡ nothing) → IsHeld o script new d
    from_whole d was now = elim now.0 [
      | inl w ↦ over d (w ∙ sym was.0) (now.1 ∙ sym was.1) (λ b. absurd (cc (sym was.0 ∙ b)))
      | inr u ↦ turned d was.0 was.1 u now.1
    ]

    by_other : (d t : ℕ) → e.locks d ≡ Some t → locks d ≡ e.locks d → nat_eq t s ≡ false → IsHeld o script new d
    by_other d t is same apart =
        let at : new.sessions t ≡ e.sessions t = by_session (λ u y. nat_eq u s ≡ false → y ≡ e.sessions u) s x e.sessions (λ a. absurd (apart_of s s refl a)) (λ u a b. refl) t apart in
        over d
        (ap (λ (k : Option ℕ). front_by d k new.sessions) (same ∙ is) ∙ ap (λ (y : Session). front_of d t y.task) at ∙ sym (ap (λ (k : Option ℕ). front_by d k e.sessions) is))
        (ap (λ (k : Option ℕ). rest_by d k new.sessions) (same ∙ is) ∙ ap (λ (y : Session). rest_of d y.task) at ∙ sym (ap (λ (k : Option ℕ). rest_by d k e.sessions) is))
        (λ b. let its = Rattle.kept_model.proofs.CommitRows.begun_held d (e.locks d) e.sessions s b in
        apart_of t s (cc (sym is ∙ its)) apart)

    by_lock : (d : ℕ) (l : Option ℕ) → e.locks d ≡ l → locks d ≡ e.locks d → IsHeld o script new d
    by_lock d None is same = from_whole d
        (ap (λ (k : Option ℕ). front_by d k e.sessions) is, ap (λ (k : Option ℕ). rest_by d k e.sessions) is)
        (inl (ap (λ (k : Option ℕ). front_by d k new.sessions) (same ∙ is)), ap (λ (k : Option ℕ). rest_by d k new.sessions) (same ∙ is))
    by_lock d (Some t) is same = by_test (nat_eq t s) refl
      where
        by_test : (b : Bool) → nat_eq t s ≡ b → IsHeld o script new d
        by_test true one =
            let mine : e.locks d ≡ Some s = is ∙ ap (λ (n : ℕ). Some n) (is_eq t s one) in
            from_whole d (was_whole d (e.locks d) mine) (now_whole d (locks d) (same ∙ mine))
        by_test false apart = by_other d t is same apart

    held_now : (d : ℕ) → IsHeld o script new d
    held_now d = elim (goes d) [
      | inl same ↦ by_lock d (e.locks d) refl same
      | inr more ↦ elim more [
        | inl taken ↦ from_whole d
            (ap (λ (k : Option ℕ). front_by d k e.sessions) taken.0, ap (λ (k : Option ℕ). rest_by d k e.sessions) taken.0)
            (now_whole d (locks d) taken.1)
        | inr freed ↦ from_whole d (was_whole d (e.locks d) freed.0)
            (inl (ap (λ (k : Option ℕ). front_by d k new.sessions) freed.1), ap (λ (k : Option ℕ). rest_by d k new.sessions) freed.1)
      ]
    ]

    pub quiet_keeps_pages : KeptPages o script new
    quiet_keeps_pages = record { held = held_now }

-- ---- an audit, whatever its session does

pub audit_keeps_pages : (o : Opening) (script : Script) (e : Engine) → KeptPages o script e → (s : ℕ) (a : Audit) → KeptPages o script (quiet_event s (e.sessions s) e.locks (Audited a ∷ e.journal) e)
audit_keeps_pages o script e kept s a =
    let at : (t : ℕ) → with_session s (e.sessions s) e.sessions t ≡ e.sessions t = by_session (λ t y. y ≡ e.sessions t) s (e.sessions s) e.sessions refl (λ t apart. refl) in
    record {
      held = λ d. held_left o script e (quiet_event s (e.sessions s) e.locks (Audited a ∷ e.journal) e) d refl refl
          (names_over e (quiet_event s (e.sessions s) e.locks (Audited a ∷ e.journal) e) (λ t. ap (λ (y : Session). y.trx) (at t)) refl) (record {
            history = refl;
            front = same_front d (e.locks d) e.sessions (with_session s (e.sessions s) e.sessions) (λ t is. ap (λ (y : Session). front_of d t y.task) (at t));
            rest = same_rest d (e.locks d) e.sessions (with_session s (e.sessions s) e.sessions) (λ t is. ap (λ (y : Session). rest_of d y.task) (at t));
            ahead = ahead d (front e d);
            changes = refl;
            lobs = refl;
          }) (kept.held d);
    }
  where
    ahead : (d : ℕ) (f : Front) (ms : List Made) → IsAhead script e.journal (history o script e.journal d) f ms → IsAhead script (Audited a ∷ e.journal) (history o script e.journal d) f ms
    ahead d whole ms h = h
    ahead d (begun t) ms h = (h.0, under_way_same script t e.journal (Audited a ∷ e.journal) (says_same script t (Audited a ∷ []) e.journal (tt, tt)) ∙ h.1, h.2)
    ahead d (undone t) ms h = h

-- ---- one more event of a read

pub read_keeps_pages : (o : Opening) (script : Script) (e : Engine) → KeptPages o script e → (s d : ℕ) (f : Flight) → (e.sessions s).task ≡ reading d f → (v : ReadView) → KeptPages o script (read_event s d f v e)
read_keeps_pages o script e kept s d f task v =
    quiet_keeps_pages o script e kept s (record (e.sessions s) { task = reading d (event_of_read (sees_by (e.sessions s).trx v) (document e.store d) f) }) e.locks [] tt refl
    (subst IsStill (sym task) tt) tt (λ q. inl refl)

-- ---- locks that are granted, and let go

pub granted_goes : (d s : ℕ) (locks : ℕ → Option ℕ) → (locks d ≡ None) ⊎ (locks d ≡ Some s) → (q : ℕ) → LockGoes s (locks q) (granted d s locks q)
granted_goes d s locks free q = by_test (nat_eq q d) refl
  where
    by_test : (b : Bool) → nat_eq q d ≡ b → LockGoes s (locks q) (if b then Some s else locks q)
    by_test true e = elim free [
      | inl none ↦ inr (inl (ap locks (is_eq q d e) ∙ none, refl))
      | inr mine ↦ inl (sym (ap locks (is_eq q d e) ∙ mine))
    ]
    by_test false e = inl refl

pub released_goes : (s : ℕ) (locks : ℕ → Option ℕ) (q : ℕ) → LockGoes s (locks q) (released s locks q)
released_goes s locks q = by_lock (locks q)
  where
    by_test : (t : ℕ) (b : Bool) → nat_eq t s ≡ b → LockGoes s (Some t) (if b then None else Some t)
    by_test t true e = inr (inr (ap (λ (n : ℕ). Some n) (is_eq t s e), refl))
    by_test t false e = inl refl

    by_lock : (l : Option ℕ) → LockGoes s l (unless s l)
    by_lock None = inl refl
    by_lock (Some t) = by_test t (nat_eq t s) refl
