-- Events that leave the store, of a session that has nothing planned and undoes nothing.
--     Leaves      entries that leave documents, and what others see
--     IsPlainEvent      what such an event owes
use Rattle.std.proofs.Common.{◌≡◌, ◌⊎◌, inl, inr, ℕ, Bool, true, false, nat_eq, List, [], ◌∷◌, map, reverse, Option, Some, None, option_map, refl, sym, ap, subst, ◌∙◌, if◌then◌else◌}
use Rattle.journal_model.specs.Documents.{Call, call_doc}
use Rattle.journal_model.specs.Journal.{Script, statement, Reply, Audit, Entry, Start, View, Wait, Did, Audited, Opening}
use Rattle.journal_model.specs.Part.{made, own, commits_of, purged_of, view_of, docs}
use Rattle.journal_model.specs.History.{Made, with_call, history}
use Rattle.history_model.proofs.OwnLemmas.{start_stays, view_stays, wait_stays, audited_stays}
use Rattle.kept_model.specs.Engine.{ReadView, Task, idle, asking, fetching, making, reading, undoing, Session, Engine, with_session}
use Rattle.kept_model.specs.Stored.{Front, whole, begun, undone, front_of, front_by, front, IsAhead}
use Rattle.kept_model.specs.Sessions.{IsSession, own_docs, record_docs, session_records, HasRecords, AreLocks}
use Rattle.kept_model.specs.Views.{IsViewIn, IsRead}
use Rattle.kept_model.specs.Kept.{IsCalm, Kept}
use Rattle.kept_model.specs.Ended.{SaysSame}
use Rattle.kept_model.specs.Quiet.{Turns, IsQuiet}
use Rattle.kept_model.proofs.FrameLemmas.{says_same, under_way_same}
use Rattle.kept_model.proofs.SessionLemmas.{self_eq, is_eq, apart_of, not_eq}
use Rattle.kept_model.proofs.CommitRows.{begun_held}
use Rattle.kept_model.specs.Fetches.{IsFetched}

-- ---- tasks

-- a task that neither makes a change nor undoes one
abbrev pub IsPlain : Task → Type 0
IsPlain idle = Unit {0}
IsPlain (asking d) = Unit {0}
IsPlain (fetching d ps) = Unit {0}
IsPlain (making d left r) = ⊥
IsPlain (reading d f) = Unit {0}
IsPlain (undoing u) = ⊥

-- a task that makes no change; it may undo one
abbrev pub IsUnplanned : Task → Type 0
IsUnplanned idle = Unit {0}
IsUnplanned (asking d) = Unit {0}
IsUnplanned (fetching d ps) = Unit {0}
IsUnplanned (making d left r) = ⊥
IsUnplanned (reading d f) = Unit {0}
IsUnplanned (undoing u) = Unit {0}

plain_front : (q s : ℕ) (k : Task) → IsPlain k → front_of q s k ≡ whole
plain_front q s idle h = refl
plain_front q s (asking d) h = refl
plain_front q s (fetching d ps) h = refl
plain_front q s (making d left r) h = absurd h
plain_front q s (reading d f) h = refl
plain_front q s (undoing u) h = absurd h

unplanned_turns : (q s : ℕ) (k : Task) → IsUnplanned k → Turns s whole (front_of q s k)
unplanned_turns q s idle h = inl refl
unplanned_turns q s (asking d) h = inl refl
unplanned_turns q s (fetching d ps) h = inl refl
unplanned_turns q s (making d left r) h = absurd h
unplanned_turns q s (reading d f) h = inl refl
unplanned_turns q s (undoing u) h = inr (refl, refl)

plain_records : (k : Task) (docs ds : List ℕ) → IsPlain k → HasRecords k docs ds → ds ≡ docs
plain_records idle docs ds h g = g
plain_records (asking d) docs ds h g = g
plain_records (fetching d ps) docs ds h g = g
plain_records (making d left r) docs ds h g = absurd h
plain_records (reading d f) docs ds h g = g
plain_records (undoing u) docs ds h g = absurd h

unplanned_records : (k : Task) (docs ds : List ℕ) → IsUnplanned k → ds ≡ docs → HasRecords k docs ds
unplanned_records idle docs ds h g = g
unplanned_records (asking d) docs ds h g = g
unplanned_records (fetching d ps) docs ds h g = g
unplanned_records (making d left r) docs ds h g = absurd h
unplanned_records (reading d f) docs ds h g = g
unplanned_records (undoing u) docs ds h g = ([], sym g)

-- ---- entries

pub record Leaves (o : Opening) (script : Script) (s : ℕ) (past past' : List Entry) : Type 0 where
  pub others : (t : ℕ) → nat_eq t s ≡ false → SaysSame script t past past'
  pub changes : (d : ℕ) → history o script past' d ≡ history o script past d
  pub behind : (k : ℕ) → docs o script past' k ≡ docs o script past k
  pub commits : commits_of o past' ≡ commits_of o past
  pub purged : purged_of o past' ≡ purged_of o past
  pub own_same : own script s past' ≡ own script s past

module _ (o : Opening) (script : Script) (s : ℕ) (past : List Entry) where
  other_eq : (t : ℕ) → nat_eq t s ≡ false → nat_eq s t ≡ false
  other_eq t apart = not_eq s t (λ same. apart_of t s (sym same) apart)

  pub leaves_none : Leaves o script s past past
  leaves_none = record {
    others = λ t apart. record { part_same = refl; started_same = refl; answered_same = refl };
    changes = λ d. refl;
    behind = λ k. refl;
    commits = refl;
    purged = refl;
    own_same = refl;
  }

  pub leaves_start : (i : ℕ) → Leaves o script s past (Start s i ∷ past)
  leaves_start i = record {
    others = λ t apart. says_same script t (Start s i ∷ []) past (other_eq t apart, tt);
    changes = λ d. refl;
    behind = λ k. refl;
    commits = refl;
    purged = refl;
    own_same = (start_stays script s past s i).own_stays;
  }

  pub leaves_view : (k : ℕ) → Leaves o script s past (View s k ∷ past)
  leaves_view k = record {
    others = λ t apart. says_same script t (View s k ∷ []) past (other_eq t apart, tt);
    changes = λ d. refl;
    behind = λ k. refl;
    commits = refl;
    purged = refl;
    own_same = (view_stays script s past s k).own_stays;
  }

  pub leaves_wait : (d h : ℕ) → Leaves o script s past (Wait s d h ∷ past)
  leaves_wait d h = record {
    others = λ t apart. says_same script t (Wait s d h ∷ []) past (other_eq t apart, tt);
    changes = λ d. refl;
    behind = λ k. refl;
    commits = refl;
    purged = refl;
    own_same = (wait_stays script s past s d h).own_stays;
  }

  pub leaves_audit : (a : Audit) → Leaves o script s past (Audited a ∷ past)
  leaves_audit a = record {
    others = λ t apart. says_same script t (Audited a ∷ []) past (tt, tt);
    changes = λ d. refl;
    behind = λ k. refl;
    commits = refl;
    purged = refl;
    own_same = (audited_stays script s past a).own_stays;
  }

  pub leaves_did : (i : ℕ) (r : Reply) → made (statement script s i) r ≡ None → own script s (Did s i r ∷ past) ≡ own script s past → Leaves o script s past (Did s i r ∷ past)
  leaves_did i r none own_is = record {
    others = λ t apart. says_same script t (Did s i r ∷ []) past (other_eq t apart, tt);
    changes = λ d. ap (λ (k : Option Call). with_call d s k (history o script past d)) none;
    behind = λ k. refl;
    commits = refl;
    purged = refl;
    own_same = own_is;
  }

-- entries that leave documents, and what others see, do so one after the other
pub leaves_both : (o : Opening) (script : Script) (s : ℕ) (a b c : List Entry) → Leaves o script s a b → Leaves o script s b c → Leaves o script s a c
leaves_both o script s a b c f g = record {
  others = λ t apart. record {
    part_same = (g.others t apart).part_same ∙ (f.others t apart).part_same;
    started_same = (g.others t apart).started_same ∙ (f.others t apart).started_same;
    answered_same = (g.others t apart).answered_same ∙ (f.others t apart).answered_same;
  };
  changes = λ d. g.changes d ∙ f.changes d;
  behind = λ k. g.behind k ∙ f.behind k;
  commits = g.commits ∙ f.commits;
  purged = g.purged ∙ f.purged;
  own_same = g.own_same ∙ f.own_same;
}

-- ---- events

-- a lock stays, goes, or is granted
abbrev pub Goes : ℕ → Option ℕ → Option ℕ → Type 0
Goes s l l' = (l' ≡ l) ⊎ (((l ≡ Some s) × (l' ≡ None)) ⊎ ((l ≡ None) × (l' ≡ Some s)))

pub record IsPlainEvent (o : Opening) (script : Script) (s : ℕ) (x : Session) (locks : ℕ → Option ℕ) (past : List Entry) (e : Engine) : Type 0 where
  pub leaves : Leaves o script s e.journal past
  pub calm : IsCalm o script past
  pub was : IsPlain (e.sessions s).task
  pub becomes : IsUnplanned x.task
  pub trx : x.trx ≡ (e.sessions s).trx
  pub at : IsSession script past s x
  pub view : option_map (λ (v : ReadView). v.commits) x.view ≡ view_of script s past
  pub sees : (v : ReadView) → x.view ≡ Some v → IsViewIn o e.store v
  pub reads : IsRead o script past e.store s x
  pub fetched : IsFetched e.store x
  pub locked : (d : ℕ) → AreLocks script past locks (with_session s x e.sessions) d
  pub goes : (q : ℕ) → Goes s (e.locks q) (locks q)

module _ (o : Opening) (script : Script) (e : Engine) (kept : Kept o script e) (s : ℕ) (x : Session) (locks : ℕ → Option ℕ) (past : List Entry) (p : IsPlainEvent o script s x locks past e) where
  abbrev now : ℕ → Session
  now = with_session s x e.sessions

  own_front : (q : ℕ) → front_by q (Some s) now ≡ front_of q s x.task
  own_front q = ap (λ (b : Bool). front_of q s (if b then x else e.sessions s).task) (self_eq s)

  own_was : (q : ℕ) → front_by q (Some s) e.sessions ≡ whole
  own_was q = plain_front q s (e.sessions s).task p.was

  own_turns : (q : ℕ) (f f' : Front) → f ≡ whole → f' ≡ front_of q s x.task → Turns s f f'
  own_turns q f f' is is' = elim (unplanned_turns q s x.task p.becomes) [
    | inl same ↦ inl (is' ∙ same ∙ sym is)
    | inr turned ↦ inr (is, is' ∙ turned.1)
  ]

  turns : (q : ℕ) → Turns s (front e q) (front_by q (locks q) now)
  turns q = elim (p.goes q) [
    | inl same ↦ subst (λ (m : Option ℕ). Turns s (front e q) (front_by q m now)) (sym same) (by_lock (e.locks q))
    | inr more ↦ elim more [
      | inl gone ↦ inl (ap (λ (m : Option ℕ). front_by q m now) gone.1 ∙ sym (ap (λ (m : Option ℕ). front_by q m e.sessions) gone.0 ∙ own_was q))
      | inr got ↦ own_turns q (front e q) (front_by q (locks q) now) (ap (λ (m : Option ℕ). front_by q m e.sessions) got.0) (ap (λ (m : Option ℕ). front_by q m now) got.1 ∙ own_front q)
    ]
  ]
    where
      by_test : (t : ℕ) (b : Bool) → nat_eq t s ≡ b → Turns s (front_by q (Some t) e.sessions) (front_by q (Some t) now)
      by_test t false g = inl (ap (λ (b : Bool). front_of q t (if b then x else e.sessions t).task) g)
      by_test t true g = subst (λ (n : ℕ). Turns s (front_by q (Some n) e.sessions) (front_by q (Some n) now)) (sym (is_eq t s g))
          (own_turns q (front_by q (Some s) e.sessions) (front_by q (Some s) now) (own_was q) (own_front q))

      by_lock : (m : Option ℕ) → Turns s (front_by q m e.sessions) (front_by q m now)
      by_lock None = inl refl
      by_lock (Some t) = by_test t (nat_eq t s) refl

  ahead_same : (q : ℕ) (f : Front) → front e q ≡ f → (ms : List Made) → IsAhead script e.journal (history o script e.journal q) f ms → IsAhead script past (history o script e.journal q) f ms
  ahead_same q whole f_is ms h = h
  ahead_same q (begun t) f_is ms h = (h.0, under_way_same script t e.journal past (p.leaves.others t (not_eq t s not_mine)) ∙ h.1, h.2)
    where
      not_mine : t ≡ s → ⊥
      not_mine one =
          let mine = begun_held q (e.locks q) e.sessions t f_is ∙ ap (λ (n : ℕ). Some n) one in
          cc (sym f_is ∙ ap (λ (m : Option ℕ). front_by q m e.sessions) mine ∙ own_was q)
  ahead_same q (undone t) f_is ms h = h

  own_now : own_docs script s past ≡ own_docs script s e.journal
  own_now = ap (λ (cs : List Call). reverse (map call_doc cs)) p.leaves.own_same

  records_same : record_docs (session_records e.store x.trx) ≡ own_docs script s past
  records_same = ap (λ (t : Option ℕ). record_docs (session_records e.store t)) p.trx
      ∙ plain_records (e.sessions s).task (own_docs script s e.journal) (record_docs (session_records e.store (e.sessions s).trx)) p.was (kept.logged s).records ∙ sym own_now

  not_making : (k : Task) → IsUnplanned k → (d : ℕ) (left : _) (r : Reply) → k ≡ making d left r → ⊥
  not_making k h d left r is = subst IsUnplanned is h

  pub plain_quiet : IsQuiet o script s x locks past e
  plain_quiet = record {
    calm = p.calm;
    others = p.leaves.others;
    changes = p.leaves.changes;
    behind = p.leaves.behind;
    commits = p.leaves.commits;
    purged = p.leaves.purged;
    trx = p.trx;
    at = p.at;
    logged = record {
      records = unplanned_records x.task (own_docs script s past) (record_docs (session_records e.store x.trx)) p.becomes records_same;
      some = λ trx is none. (kept.logged s).some trx (sym p.trx ∙ is) (sym (ap (session_records e.store) p.trx) ∙ none);
    };
    views = record { commits = p.view; sees = p.sees };
    reads = p.reads;
    making = λ d left r h. absurd (not_making x.task p.becomes d left r h);
    fetched = p.fetched;
    locked = p.locked;
    turns = turns;
    ahead = λ q ms h. ahead_same q (front e q) refl ms h;
  }
