-- A session's log is begun: all is kept, but that it has no record yet.
use Rattle.std.proofs.Common.{◌≡◌, ◌≢◌, ◌⊎◌, inl, inr, ℕ, suc, ◌≤◌, ◌<◌, Bool, true, false, true≢false, not, ◌&&◌, ◌||◌, nat_eq, nat_lt, List, [], ◌∷◌, Option, Some, None, refl, sym, ap, ap₂, subst, ◌∙◌, arith, if◌then◌else◌}
use Rattle.std.specs.List.{list_any}
use Rattle.journal_model.specs.Journal.{Script, Opening}
use Rattle.journal_model.specs.History.{Owner, session, commit, history}
use Rattle.store_data.specs.Store.{Log, Store}
use Rattle.store_model.specs.History.{Past, stands, stands_above, is_among}
use Rattle.store_model.specs.History as store
use Rattle.store_model.specs.Steps.{log_of}
use Rattle.store_model.specs.Events.{Plan}
use Rattle.store_model.specs.Moves.{MayChange}
use Rattle.store_model.specs.Owned.{owned, IsNotAmong}
use Rattle.store_model.specs.Consistent.{IsConsistent}
use Rattle.store_model.proofs.ConsistentLemmas.{log_begun_consistent}
use Rattle.kept_model.specs.Engine.{ReadView, sees_by, Task, fetching, Session, Engine}
use Rattle.kept_model.specs.Names.{names_of, floor, is_old, is_purging, AreLogs}
use Rattle.kept_model.specs.Stored.{Front, front_of, front_by, front, IsStoredBy, known_from, IsStored}
use Rattle.kept_model.specs.Sessions.{IsSession, own_docs, record_docs, records_of, session_records, HasRecords, IsLogged, has_lock, AreLocks}
use Rattle.kept_model.specs.Views.{AllPast, IsViewIn, IsViewed, IsRead, IsMaking}
use Rattle.kept_model.specs.Kept.{Kept}
use Rattle.kept_model.specs.Begun.{with_trx, log_event, IsBegun}
use Rattle.kept_model.proofs.LogLemmas.{numbered_stands}
use Rattle.kept_model.proofs.SessionLemmas.{self_eq, is_eq, apart_of, by_session}
use Rattle.kept_model.proofs.CommitRows.{all_past}
use Rattle.kept_model.proofs.PlanKept.{stored_over}
use Rattle.kept_model.proofs.IdleLemmas.{may_begin_over}
use Rattle.kept_model.specs.Fetches.{IsFetched, IsFetch}
use Rattle.kept_model.proofs.FetchRows.{fetch_kept}
use Rattle.read_model.specs.Flight.{Flight}

-- ---- numbers

is_less : (x n : ℕ) → nat_lt x n ≡ true → x < n
is_less x n h = grind (arith, h)

less_more : (x n : ℕ) → nat_lt x n ≡ true → nat_lt x (suc n) ≡ true
less_more x n h = grind (arith, h)

less_other : (x n : ℕ) → x < n → nat_eq n x ≡ false
less_other x n h = grind (arith, h)

not_less : (x n : ℕ) → x < n → n ≡ x → ⊥
not_less x n h e = let here : nat_eq n x ≡ true = grind (arith, e) in true≢false (sym here ∙ less_other x n h)

less_suc : (x n : ℕ) → x < n → x < suc n
less_suc x n h = omega (arith, h)

same_suc : (x n : ℕ) → n ≡ x → x < suc n
same_suc x n e = omega (arith, e)

up_suc : (m n : ℕ) → m ≤ n → m ≤ suc n
up_suc m n h = omega (arith, h)

past_limit : (m x n : ℕ) → m ≤ n → n ≡ x → nat_lt x m ≡ false
past_limit m x n h e = grind (arith, h, e)

or_true : (b : Bool) → (b || true) ≡ true
or_true true = refl
or_true false = refl

false_of : (b : Bool) → (b ≡ true → ⊥) → b ≡ false
false_of true h = absurd (h refl)
false_of false h = refl

-- ---- logs without an id

off_head : (x : ℕ) (l : Log) (ls : List Log) → stands x (l ∷ ls) ≡ false → (l.trx ≢ x) × (stands x ls ≡ false)
off_head x l ls none = by_test (nat_eq l.trx x) refl none
  where
    by_test : (b : Bool) → nat_eq l.trx x ≡ b → (b || stands x ls) ≡ false → (l.trx ≢ x) × (stands x ls ≡ false)
    by_test true e h = absurd (true≢false h)
    by_test false e h = ((λ same. apart_of l.trx x same e), h)

both_past : (P Q R : ℕ → Type 0) (ps : List Past) → ((x : ℕ) → P x → Q x → R x) → AllPast P ps → AllPast Q ps → AllPast R ps
both_past P Q R [] so all more = tt
both_past P Q R (p ∷ ps) so all more = (so p.trx all.0 more.0, both_past P Q R ps so all.1 more.1)

module _ (o : Opening) (script : Script) (e : Engine) (kept : Kept o script e) (s d page : ℕ) (read : Flight)
    (fetched : (e.sessions s).task ≡ fetching d read) (none : (e.sessions s).trx ≡ None) (unowned : IsNotAmong page (owned e.store)) where
  abbrev trx : ℕ
  trx = e.store.next_trx

  abbrev x' : Session
  x' = with_trx trx (e.sessions s)

  abbrev new : Engine
  new = log_event s page e

  not_active : stands trx e.store.active ≡ false
  not_active = false_of (stands trx e.store.active) (λ h. not_less trx trx (kept.logs.below trx (inl h)) refl)

  not_committed : stands trx e.store.committed ≡ false
  not_committed = false_of (stands trx e.store.committed) (λ h. not_less trx trx (kept.logs.below trx (inr h)) refl)

  stands_before : (x : ℕ) → x < trx → stands x new.store.active ≡ stands x e.store.active
  stands_before x below = ap (λ (b : Bool). b || stands x e.store.active) (less_other x trx below)

  among_before : (k x : ℕ) → x < trx → is_among new.store k x ≡ is_among e.store k x
  among_before k x below = ap (λ (b : Bool). not b && not (stands_above k x e.store.committed)) (stands_before x below)

  old_more : (x : ℕ) → is_old e.store x ≡ true → is_old new.store x ≡ true
  old_more x old = by_test (nat_lt x trx) refl old
    where
      by_test : (b : Bool) → nat_lt x trx ≡ b → (b && is_among e.store (floor e.store) x) ≡ true → is_old new.store x ≡ true
      by_test false g h = absurd (true≢false (sym h))
      by_test true g h = ap₂ (λ (a b : Bool). a && b) (less_more x trx g) (among_before (floor e.store) x (is_less x trx g) ∙ h)

  names_same : (w : Owner) (x : ℕ) → names_of e w ≡ Some x → names_of new w ≡ Some x
  names_same (session t) x has =
      by_session (λ t y. (e.sessions t).trx ≡ Some x → y.trx ≡ Some x) s x' e.sessions (λ h. absurd (cc (sym none ∙ h))) (λ t apart h. h) t has
  names_same (commit k) x has = has

  -- ---- logs

  mine : (new.sessions s).trx ≡ Some trx
  mine = ap (λ (b : Bool). (if b then x' else e.sessions s).trx) (self_eq s)

  whose : (t x : ℕ) → (new.sessions t).trx ≡ Some x → ((t ≡ s) × (trx ≡ x)) ⊎ ((e.sessions t).trx ≡ Some x)
  whose t x = by_session (λ t y. y.trx ≡ Some x → ((t ≡ s) × (trx ≡ x)) ⊎ ((e.sessions t).trx ≡ Some x)) s x' e.sessions
      (λ h. inl (refl, cc h)) (λ t apart h. inr h) t

  not_mine : (t x : ℕ) → (e.sessions t).trx ≡ Some x → trx ≡ x → ⊥
  not_mine t x has same = not_less x trx (kept.logs.below x (inl (kept.logs.own t x has).0)) same

  logs_kept : AreLogs new.store new.sessions
  logs_kept = record {
    numbered = kept.logs.numbered;
    first = kept.logs.first;
    own = λ t x has. elim (whose t x has) [
      | inl is ↦ subst (λ (q : ℕ). (stands q new.store.active ≡ true) × (stands q e.store.committed ≡ false)) is.1
          (ap (λ (b : Bool). b || stands trx e.store.active) (self_eq trx), not_committed)
      | inr was ↦ let k = kept.logs.own t x was in (ap (λ (b : Bool). nat_eq trx x || b) k.0 ∙ or_true (nat_eq trx x), k.1)
    ];
    apart = λ t u x has has'. elim (whose t x has) [
      | inl a ↦ elim (whose u x has') [ inl b ↦ a.0 ∙ sym b.0 | inr b ↦ absurd (not_mine u x b a.1) ]
      | inr a ↦ elim (whose u x has') [ inl b ↦ absurd (not_mine t x a b.1) | inr b ↦ kept.logs.apart t u x a b ]
    ];
    owned = λ x stand. owned_by x (nat_eq trx x) refl stand;
    commits = λ k x found.
        let was = kept.logs.commits k x found in
        (stands_before x (kept.logs.below x (inr (numbered_stands k x e.store.committed found))) ∙ was.0, was.1);
    below = λ x stand. elim stand [
      | inl a ↦ below_by x (nat_eq trx x) refl a
      | inr c ↦ less_suc x trx (kept.logs.below x (inr c))
    ];
  }
    where
      owned_by : (x : ℕ) (b : Bool) → nat_eq trx x ≡ b → (b || stands x e.store.active) ≡ true → (t : ℕ) × ((new.sessions t).trx ≡ Some x)
      owned_by x true g h = (s, mine ∙ ap (λ (n : ℕ). Some n) (is_eq trx x g))
      owned_by x false g h = let t = kept.logs.owned x h in (t.0, names_same (session t.0) x t.1)

      below_by : (x : ℕ) (b : Bool) → nat_eq trx x ≡ b → (b || stands x e.store.active) ≡ true → x < suc trx
      below_by x true g h = same_suc x trx (is_eq trx x g)
      below_by x false g h = less_suc x trx (kept.logs.below x (inl h))

  pub consistent_kept : IsConsistent new.store
  consistent_kept =
      let some = (kept.consistent.ids.rows d).0 in
      log_begun_consistent trx page e.store kept.consistent (omega arith) (omega (arith, some)) unowned

  -- ---- documents

  front_same : (q : ℕ) → front new q ≡ front e q
  front_same q = by_lock (e.locks q)
    where
      by_lock : (m : Option ℕ) → front_by q m new.sessions ≡ front_by q m e.sessions
      by_lock None = refl
      by_lock (Some t) = by_session (λ t y. front_of q t y.task ≡ front_of q t (e.sessions t).task) s x' e.sessions refl (λ t apart. refl) t

  stored_kept : (q : ℕ) → IsStored o script new q
  stored_kept q =
      subst (λ (f : Front). IsStoredBy (known_from o new.store) script e.journal (history o script e.journal q) f (is_purging new.store.committed) (suc new.store.purged) (is_old new.store) (names_of new) (store.history new.store q)) (sym (front_same q))
      (stored_over (known_from o e.store) (known_from o new.store) script e.journal (history o script e.journal q) (front e q) (is_purging e.store.committed) (is_purging new.store.committed)
      (suc e.store.purged) (suc new.store.purged) (is_old e.store) (is_old new.store) (names_of e) (names_of new) (store.history e.store q) refl refl refl old_more names_same (kept.stored q))

  -- ---- sessions

  records_kept : HasRecords x'.task (own_docs script s e.journal) (record_docs (session_records new.store x'.trx))
  records_kept = subst (λ (k : Task). HasRecords k (own_docs script s e.journal) (record_docs (session_records new.store x'.trx))) (sym fetched)
      (ap (λ (b : Bool). record_docs (records_of (if b then Some (record { page = page; trx = trx; state = Rattle.store_data.specs.Store.active; number = 0; pages = page ∷ []; records = [] }) else log_of e.store.active trx))) (self_eq trx) ∙ was)
    where
      was : [] ≡ own_docs script s e.journal
      was = subst (λ (k : Option ℕ). record_docs (session_records e.store k) ≡ own_docs script s e.journal) none
          (subst (λ (k : Task). HasRecords k (own_docs script s e.journal) (record_docs (session_records e.store (e.sessions s).trx))) fetched (kept.logged s).records)

  records_same : (t : ℕ) (m : Option ℕ) → (e.sessions t).trx ≡ m → session_records new.store m ≡ session_records e.store m
  records_same t None has = refl
  records_same t (Some x) has =
      ap (λ (b : Bool). records_of (if b then Some (record { page = page; trx = trx; state = Rattle.store_data.specs.Store.active; number = 0; pages = page ∷ []; records = [] }) else log_of e.store.active x))
      (less_other x trx (kept.logs.below x (inl (kept.logs.own t x has).0)))

  logged_kept : (t : ℕ) → nat_eq t s ≡ false → IsLogged script e.journal t (new.sessions t) new.store
  logged_kept = by_session (λ t y. nat_eq t s ≡ false → IsLogged script e.journal t y new.store) s x' e.sessions (λ apart. absurd (apart_of s s refl apart)) (λ t off apart.
      let same : session_records new.store (e.sessions t).trx ≡ session_records e.store (e.sessions t).trx = records_same t (e.sessions t).trx refl in
      record {
        records = subst (λ us. HasRecords (e.sessions t).task (own_docs script t e.journal) (record_docs us)) (sym same) (kept.logged t).records;
        some = λ x has gone. (kept.logged t).some x has (sym same ∙ gone);
      })

  lock_same : (q t : ℕ) → has_lock q (new.sessions t).task ≡ has_lock q (e.sessions t).task
  lock_same q = by_session (λ t y. has_lock q y.task ≡ has_lock q (e.sessions t).task) s x' e.sessions refl (λ t apart. refl)

  locks_kept : (q : ℕ) → AreLocks script e.journal e.locks new.sessions q
  locks_kept q = record {
    held = (kept.locks q).held;
    taken = λ t h. (kept.locks q).taken t (sym (lock_same q t) ∙ h);
    meant = λ t h. let m = (kept.locks q).meant t h in (
      m.0,
      elim m.1 [
        | inl g ↦ inl g
        | inr more ↦ inr (elim more [ inl g ↦ inl g | inr g ↦ inr (lock_same q t ∙ g) ])
      ],
    );
  }

  -- ---- views

  view_in_kept : (v : ReadView) → IsViewIn o e.store v → IsViewIn o new.store v
  view_in_kept v h = record {
    high = h.high;
    low = h.low;
    first = h.first;
    zero = h.zero;
    limit = up_suc v.limit trx h.limit;
    active = λ x stand. by_id x (nat_eq trx x) refl stand;
    rows = λ q. both_past (λ x. x < trx) (λ x. sees_by None v x ≡ is_among e.store v.commits x) (λ x. sees_by None v x ≡ is_among new.store v.commits x) (store.history e.store q)
        (λ x below same. same ∙ sym (among_before v.commits x below)) (kept.given q) (h.rows q);
  }
    where
      by_id : (x : ℕ) (b : Bool) → nat_eq trx x ≡ b → (b || stands x e.store.active) ≡ true → sees_by None v x ≡ false
      by_id x true g stand = ap (λ (b : Bool). b && not (list_any (λ n. nat_eq n x) v.active)) (past_limit v.limit x trx h.limit (is_eq trx x g))
      by_id x false g stand = h.active x stand

  views_kept : (t : ℕ) → IsViewed o script e.journal new.store t (new.sessions t)
  views_kept = by_session (IsViewed o script e.journal new.store) s x' e.sessions
      (record { commits = (kept.views s).commits; sees = λ v has. view_in_kept v ((kept.views s).sees v has) })
      (λ t apart. record { commits = (kept.views t).commits; sees = λ v has. view_in_kept v ((kept.views t).sees v has) })

  grown : (q : ℕ) (f : Flight) → IsFetch e.store q f → IsFetch new.store q f
  grown q f h = fetch_kept q e.store new.store (record { parts = refl; row = λ is_live. refl }) f h

  pub log_is_begun : IsBegun s o script new
  log_is_begun = record {
    calm = kept.calm;
    counts = record { commits = kept.counts.commits; purged = kept.counts.purged; more = kept.counts.more };
    consistent = consistent_kept;
    given = λ q. all_past (λ x. x < trx) (λ x. x < suc trx) (store.history e.store q) (λ x below. less_suc x trx below) (kept.given q);
    zero = old_more 0 kept.zero;
    logs = logs_kept;
    stored = stored_kept;
    at = by_session (IsSession script e.journal) s x' e.sessions
        (record { count = (kept.at s).count; at = (kept.at s).at; level = (kept.at s).level; since = (kept.at s).since }) (λ t apart. kept.at t);
    records = by_session (λ t y. t ≡ s → HasRecords y.task (own_docs script t e.journal) (record_docs (session_records new.store y.trx))) s x' e.sessions
        (λ same. records_kept) (λ t apart same. absurd (apart_of t s same apart)) s refl;
    logged = logged_kept;
    locks = locks_kept;
    views = views_kept;
    reads = by_session (IsRead o script e.journal new.store) s x' e.sessions (λ q f h. absurd (cc (sym fetched ∙ h)))
        (λ t apart q f h. let rd = kept.reads t q f h in record { view = rd.view; is = rd.is; parts = rd.parts; shows = rd.shows; flight = rd.flight });
    making = by_session (IsMaking o script e.journal new.store) s x' e.sessions (λ q left r h. absurd (cc (sym fetched ∙ h)))
        (λ t apart q left r h. let m = kept.making t q left r h in record { change = m.change; is = m.is; doc = m.doc; reply = m.reply; ok = m.ok; measured = m.measured; ends = m.ends });
    fetched = by_session (λ t y. IsFetched new.store y) s x' e.sessions (λ q f h. grown q f (kept.fetched s q f h)) (λ t apart q f h. grown q f (kept.fetched t q f h));
  }

  pub task_is : (new.sessions s).task ≡ fetching d read
  task_is = ap (λ (b : Bool). (if b then x' else e.sessions s).task) (self_eq s) ∙ fetched

  pub trx_is : (new.sessions s).trx ≡ Some trx
  trx_is = mine

  pub may_begin : (p : Plan) → p.trx ≡ trx → p.doc ≡ d → MayChange p new.store
  may_begin p is doc = may_begin_over o script e kept s page p none
      (ap e.locks doc ∙ (kept.locks d).taken s (ap (has_lock d) fetched ∙ self_eq d)) is
