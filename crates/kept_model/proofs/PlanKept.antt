-- The planning event of a change keeps all parts, also where the log is begun in it.
use Rattle.std.proofs.Common.{◌≡◌, ◌≢◌, inl, inr, ℕ, suc, ◌+◌, ◌≤◌, ◌<◌, Bool, true, false, not, ◌&&◌, ◌||◌, nat_eq, nat_lt, List, ◌∷◌, ◌++◌, Option, Some, None, refl, sym, ap, ap₂, subst, ◌∙◌, if◌then◌else◌, option_map, length}
use Rattle.std.proofs.lemmas.Bool.{cases_eq}
use Rattle.journal_model.specs.Documents.{Call, call_doc}
use Rattle.journal_model.specs.Journal.{Script, call, Reply, Entry, Opening}
use Rattle.journal_model.specs.Part.{is_ok_reply, own, newest, under_way}
use Rattle.journal_model.specs.Replies.{reply_to}
use Rattle.journal_model.specs.Held.{greater}
use Rattle.journal_model.specs.History.{Owner, session, commit, History, one_made, newest_in, history}
use Rattle.store_data.specs.Store.{Log, Store}
use Rattle.store_model.specs.History.{Past, content, row_before, is_among, stands, stands_above}
use Rattle.store_model.specs.History as store
use Rattle.store_model.specs.Events.{Plan}
use Rattle.kept_model.specs.Engine.{ReadView, is_own, sees_by, Left, Task, fetching, Session, Engine}
use Rattle.kept_model.specs.Names.{trx_numbered, names, names_of, floor, is_old, is_purging, AreNumbered, IsFirstBegun, AreLogs}
use Rattle.kept_model.specs.Rows.{bytes_of}
use Rattle.kept_model.specs.Stored.{Front, whole, begun, front_of, front_by, front, IsStoredBy, known_from, IsStored}
use Rattle.kept_model.specs.Sessions.{IsAt, under_way_in, IsSession, own_docs, record_docs, records_of, session_records, HasRecords, IsLogged, has_lock, AreLocks}
use Rattle.kept_model.specs.Views.{AllPast, IsViewIn, IsViewed, IsRead, will_show, IsMakingOf, IsMaking, completed}
use Rattle.kept_model.specs.Kept.{AreCounts, AreGiven, Kept}
use Rattle.kept_model.specs.Plans.{Plans, at_work, plan_event}
use Rattle.kept_model.specs.Begun.{IsBegun}
use Rattle.kept_model.proofs.RowLemmas.{named_so}
use Rattle.kept_model.proofs.StoredLemmas.{plan_stored}
use Rattle.kept_model.proofs.PassedLemmas.{any_owner}
use Rattle.kept_model.proofs.SessionLemmas.{self_eq, is_eq, apart_of, not_eq, by_session}
use Rattle.kept_model.proofs.CommitRows.{all_past}
use Rattle.kept_model.specs.Fetches.{IsFetched}
use Rattle.kept_model.proofs.FetchRows.{fetch_kept, will_measured}
use Rattle.read_model.specs.Flight.{Flight}

-- the same facts under other words
pub stored_over : (first first' : ℕ) (script : Script) (past : List Entry) (h : History) (f : Front) (b b' : Bool) (n n' : ℕ) (old old' : ℕ → Bool) (names names' : Owner → Option ℕ) (rows : List Past)
    → first' ≡ first → b' ≡ b → n' ≡ n → ((x : ℕ) → old x ≡ true → old' x ≡ true) → ((w : Owner) (x : ℕ) → names w ≡ Some x → names' w ≡ Some x)
    → IsStoredBy first script past h f b n old names rows → IsStoredBy first' script past h f b' n' old' names' rows
stored_over first first' script past h f b b' n n' old old' names names' rows is_first is_b is_n oldest same k =
    subst (λ (m : ℕ). IsStoredBy m script past h f b' n' old' names' rows) (sym is_first)
    (subst (λ (c : Bool). IsStoredBy first script past h f c n' old' names' rows) (sym is_b)
    (subst (λ (m : ℕ). IsStoredBy first script past h f b m old' names' rows) (sym is_n) (record {
      ahead = k.ahead;
      gone = k.gone;
      left = k.left;
      passed = k.passed;
      changes = k.changes;
      is_ahead = k.is_ahead;
      are_undone = k.are_undone;
      are_passed = k.are_passed;
      named = named_so (λ w. Unit {0}) names names' old old' (k.ahead ++ k.left) rows (λ w x u. same w x) oldest (any_owner (k.ahead ++ k.left)) k.named;
      known = k.known;
    })))

module _ (o : Opening) (script : Script) (e : Engine) (s : ℕ) (kept : IsBegun s o script e) (p : Plan) (left : Left) (r : Reply) (next : Store) (plans : Plans p e.store next)
    (read : Flight) (fetched : (e.sessions s).task ≡ fetching p.doc read) (is : (e.sessions s).trx ≡ Some p.trx)
    (c : Call) (asked : under_way script s e.journal ≡ Some (call c)) (doc_is : call_doc c ≡ p.doc)
    (replies : r ≡ reply_to c (newest o script s e.journal)) (ok : is_ok_reply r ≡ true)
    (ends : will_show left next.lobs (row_before next p.doc) ≡ bytes_of (one_made s c (newest_in s (history o script e.journal p.doc))).left)
    (measured : (bytes : List ℕ) → will_show left next.lobs (row_before next p.doc) ≡ Some bytes → (row_before next p.doc).lob.length ≡ length bytes) where
  abbrev new : Engine
  new = plan_event s p left r next e

  abbrev x' : Session
  x' = at_work p.doc left r (e.sessions s)

  trx_same : (t : ℕ) → (new.sessions t).trx ≡ (e.sessions t).trx
  trx_same = by_session (λ t x. x.trx ≡ (e.sessions t).trx) s x' e.sessions refl (λ t apart. refl)

  among_same : (k x : ℕ) → is_among next k x ≡ is_among e.store k x
  among_same k x = ap₂ (λ (a b : Bool). not a && not b) (plans.active x) (ap (stands_above k x) plans.committed)

  floor_same : floor next ≡ floor e.store
  floor_same = ap₂ (λ (b : Bool) (m : ℕ). if b then suc m else m) (ap is_purging plans.committed) plans.purged

  old_same : (x : ℕ) → is_old next x ≡ is_old e.store x
  old_same x = ap₂ (λ (m : ℕ) (b : Bool). nat_lt x m && b) plans.next (ap (λ (k : ℕ). is_among next k x) floor_same ∙ among_same (floor e.store) x)

  names_same : (w : Owner) (x : ℕ) → names_of e w ≡ Some x → names_of new w ≡ Some x
  names_same (session t) x has = trx_same t ∙ has
  names_same (commit k) x has = ap (λ (ls : List Log). trx_numbered ls k) plans.committed ∙ has

  held : e.locks p.doc ≡ Some s
  held = (kept.locks p.doc).taken s (ap (has_lock p.doc) fetched ∙ self_eq p.doc)

  stands_now : stands p.trx e.store.active ≡ true
  stands_now = (kept.logs.own s p.trx is).0

  counts_kept : AreCounts o new.journal new.store
  counts_kept = record {
    commits = plans.commits ∙ kept.counts.commits;
    purged = plans.purged ∙ kept.counts.purged;
    more = subst (λ (m : ℕ). o.commits ≤ m) (sym plans.commits) kept.counts.more;
  }

  given_kept : (d : ℕ) → AreGiven next d
  given_kept d = subst (λ (m : ℕ). AllPast (λ x. x < m) (store.history next d)) (sym plans.next) (elim (cases_eq d p.doc) [
    | inl here ↦ subst (λ (q : ℕ). AllPast (λ x. x < e.store.next_trx) (store.history next q)) (sym here)
        (subst (AllPast (λ x. x < e.store.next_trx)) (sym plans.begins.own) (kept.logs.below p.trx (inl stands_now), kept.given p.doc))
    | inr other ↦ subst (AllPast (λ x. x < e.store.next_trx)) (sym (plans.begins.others d other)) (kept.given d)
  ])

  logs_kept : AreLogs next new.sessions
  logs_kept = record {
    numbered = subst (λ (m : ℕ). AreNumbered m next.purged next.committed) (sym plans.commits)
        (subst (λ (m : ℕ). AreNumbered e.store.commits m next.committed) (sym plans.purged)
        (subst (AreNumbered e.store.commits e.store.purged) (sym plans.committed) kept.logs.numbered));
    first = subst IsFirstBegun (sym plans.committed) kept.logs.first;
    own = λ t x has.
        let was = kept.logs.own t x (sym (trx_same t) ∙ has) in
        (plans.active x ∙ was.0, ap (stands x) plans.committed ∙ was.1);
    apart = λ t u x has has'. kept.logs.apart t u x (sym (trx_same t) ∙ has) (sym (trx_same u) ∙ has');
    owned = λ x stand. let t = kept.logs.owned x (sym (plans.active x) ∙ stand) in (t.0, trx_same t.0 ∙ t.1);
    commits = λ k x found.
        let was = kept.logs.commits k x (sym (ap (λ (ls : List Log). trx_numbered ls k) plans.committed) ∙ found) in
        (plans.active x ∙ was.0, λ m. ap (stands_above m x) plans.committed ∙ was.1 m);
    below = λ x stand. subst (λ (m : ℕ). x < m) (sym plans.next) (kept.logs.below x (elim stand [
      | inl active ↦ inl (sym (plans.active x) ∙ active)
      | inr done ↦ inr (sym (ap (stands x) plans.committed) ∙ done)
    ]));
  }

  -- ---- documents

  over : (d : ℕ) (f : Front) (rows : List Past)
      → IsStoredBy (known_from o e.store) script e.journal (history o script e.journal d) f (is_purging e.store.committed) (suc e.store.purged) (is_old e.store) (names_of e) rows
      → IsStoredBy (known_from o next) script e.journal (history o script e.journal d) f (is_purging next.committed) (suc next.purged) (is_old next) (names_of new) rows
  over d f rows k = stored_over (known_from o e.store) (known_from o next) script e.journal (history o script e.journal d) f (is_purging e.store.committed) (is_purging next.committed)
      (suc e.store.purged) (suc next.purged) (is_old e.store) (is_old next) (names_of e) (names_of new) rows
      (ap (greater o.commits) floor_same) (ap is_purging plans.committed) (ap suc plans.purged) (λ x old. old_same x ∙ old) names_same k

  front_was : front e p.doc ≡ whole
  front_was = ap (λ (m : Option ℕ). front_by p.doc m e.sessions) held ∙ ap (front_of p.doc s) fetched

  front_now : front new p.doc ≡ begun s
  front_now = ap (λ (m : Option ℕ). front_by p.doc m new.sessions) held
      ∙ by_session (λ t x. t ≡ s → front_of p.doc t x.task ≡ begun t) s x' e.sessions
      (λ same. ap (λ (b : Bool). if b then begun s else whole) (self_eq p.doc))
      (λ t apart same. absurd (apart_of t s same apart)) s refl

  front_same : (d : ℕ) → d ≢ p.doc → front new d ≡ front e d
  front_same d other = by_lock (e.locks d)
    where
      by_lock : (m : Option ℕ) → front_by d m new.sessions ≡ front_by d m e.sessions
      by_lock None = refl
      by_lock (Some t) = by_session (λ t x. front_of d t x.task ≡ front_of d t (e.sessions t).task) s x' e.sessions
          (ap (λ (b : Bool). if b then begun s else whole) (not_eq p.doc d (λ same. other (sym same))) ∙ sym (ap (front_of d s) fetched))
          (λ t apart. refl) t

  stored_kept : (d : ℕ) → IsStored o script new d
  stored_kept d = elim (cases_eq d p.doc) [
    | inl here ↦ subst (IsStored o script new) (sym here) own_stored
    | inr other ↦
        subst (λ (f : Front). IsStoredBy (known_from o next) script e.journal (history o script e.journal d) f (is_purging next.committed) (suc next.purged) (is_old next) (names_of new) (store.history next d)) (sym (front_same d other))
        (over d (front e d) (store.history next d)
        (subst (IsStoredBy (known_from o e.store) script e.journal (history o script e.journal d) (front e d) (is_purging e.store.committed) (suc e.store.purged) (is_old e.store) (names_of e))
        (sym (plans.begins.others d other)) (kept.stored d)))
  ]
    where
      own_stored : IsStored o script new p.doc
      own_stored =
          subst (λ (f : Front). IsStoredBy (known_from o next) script e.journal (history o script e.journal p.doc) f (is_purging next.committed) (suc next.purged) (is_old next) (names_of new) (store.history next p.doc)) (sym front_now)
          (over p.doc (begun s) (store.history next p.doc)
          (subst (IsStoredBy (known_from o e.store) script e.journal (history o script e.journal p.doc) (begun s) (is_purging e.store.committed) (suc e.store.purged) (is_old e.store) (names_of e)) (sym plans.begins.own)
          (plan_stored (known_from o e.store) script e.journal e.journal (is_purging e.store.committed) (suc e.store.purged) (is_old e.store) (names_of e) (store.history e.store p.doc) s
          (history o script e.journal p.doc) (record { trx = p.trx; length = (row_before next p.doc).lob.length; bytes = content next.lobs (row_before next p.doc) }) c asked is
          (subst (λ (f : Front). IsStoredBy (known_from o e.store) script e.journal (history o script e.journal p.doc) f (is_purging e.store.committed) (suc e.store.purged) (is_old e.store) (names_of e) (store.history e.store p.doc)) front_was (kept.stored p.doc)))))

  -- ---- sessions

  at_kept : (t : ℕ) → IsSession script e.journal t (new.sessions t)
  at_kept = by_session (IsSession script e.journal) s x' e.sessions
      (record {
        count = (kept.at s).count ∙ ap (λ (k : Task). Rattle.journal_model.specs.Part.answered s e.journal + under_way_in k) fetched;
        at = subst (IsAt script e.journal s) fetched (kept.at s).at;
        level = (kept.at s).level;
        since = λ still. (kept.at s).since (ap Rattle.kept_model.specs.Sessions.is_reading fetched);
      })
      (λ t apart. kept.at t)

  logged_kept : (t : ℕ) → IsLogged script e.journal t (new.sessions t) next
  logged_kept = by_session (λ t x. IsLogged script e.journal t x next) s x' e.sessions
      (let was : record_docs (session_records e.store (Some p.trx)) ≡ own_docs script s e.journal =
      subst (λ (k : Option ℕ). record_docs (session_records e.store k) ≡ own_docs script s e.journal) is
      (subst (λ (k : Task). HasRecords k (own_docs script s e.journal) (record_docs (session_records e.store (e.sessions s).trx))) fetched kept.records) in
      let now : record_docs (session_records next (e.sessions s).trx) ≡ p.doc ∷ own_docs script s e.journal =
      ap (λ (k : Option ℕ). record_docs (session_records next k)) is ∙ plans.log ∙ ap (λ (ds : List ℕ). p.doc ∷ ds) was in
      record { records = now; some = λ trx has none. absurd (cc (sym (ap record_docs none) ∙ now)) })
      (λ t apart.
      let same : session_records next (e.sessions t).trx ≡ session_records e.store (e.sessions t).trx = by_trx t apart (e.sessions t).trx refl in
      record {
        records = subst (λ us. HasRecords (e.sessions t).task (own_docs script t e.journal) (record_docs us)) (sym same) (kept.logged t apart).records;
        some = λ trx has none. (kept.logged t apart).some trx has (sym same ∙ none);
      })
    where
      by_trx : (t : ℕ) → nat_eq t s ≡ false → (m : Option ℕ) → (e.sessions t).trx ≡ m → session_records next m ≡ session_records e.store m
      by_trx t apart None has = refl
      by_trx t apart (Some x) has = ap records_of (plans.logs x (λ same.
          let one : t ≡ s = kept.logs.apart t s p.trx (has ∙ ap (λ (k : ℕ). Some k) same) is in
          apart_of t s one apart))

  lock_same : (d t : ℕ) → has_lock d (new.sessions t).task ≡ has_lock d (e.sessions t).task
  lock_same d = by_session (λ t x. has_lock d x.task ≡ has_lock d (e.sessions t).task) s x' e.sessions (sym (ap (has_lock d) fetched)) (λ t apart. refl)

  locks_kept : (d : ℕ) → AreLocks script e.journal e.locks new.sessions d
  locks_kept d = record {
    held = (kept.locks d).held;
    taken = λ t h. (kept.locks d).taken t (sym (lock_same d t) ∙ h);
    meant = λ t h. let m = (kept.locks d).meant t h in (
      m.0,
      elim m.1 [
        | inl g ↦ inl g
        | inr more ↦ inr (elim more [ inl g ↦ inl g | inr g ↦ inr (lock_same d t ∙ g) ])
      ],
    );
  }

  -- ---- views and reads

  view_in_kept : (v : ReadView) → IsViewIn o e.store v → IsViewIn o next v
  view_in_kept v h = record {
    high = subst (λ (m : ℕ). v.commits ≤ m) (sym plans.commits) h.high;
    low = subst (λ (m : ℕ). m ≤ v.commits) (sym floor_same) h.low;
    first = h.first;
    zero = h.zero;
    limit = subst (λ (m : ℕ). v.limit ≤ m) (sym plans.next) h.limit;
    active = λ x stand. h.active x (sym (plans.active x) ∙ stand);
    rows = λ d. elim (cases_eq d p.doc) [
      | inl here ↦ subst (λ (q : ℕ). AllPast (λ x. sees_by None v x ≡ is_among next v.commits x) (store.history next q)) (sym here)
          (subst (AllPast (λ x. sees_by None v x ≡ is_among next v.commits x)) (sym plans.begins.own)
          (h.active p.trx stands_now ∙ sym (ap (λ (b : Bool). not b && not (stands_above v.commits p.trx next.committed)) (plans.active p.trx ∙ stands_now)), over_rows p.doc (h.rows p.doc)))
      | inr other ↦ subst (AllPast (λ x. sees_by None v x ≡ is_among next v.commits x)) (sym (plans.begins.others d other)) (over_rows d (h.rows d))
    ];
  }
    where
      over_rows : (d : ℕ) → AllPast (λ x. sees_by None v x ≡ is_among e.store v.commits x) (store.history e.store d) → AllPast (λ x. sees_by None v x ≡ is_among next v.commits x) (store.history e.store d)
      over_rows d all = all_past (λ x. sees_by None v x ≡ is_among e.store v.commits x) _ (store.history e.store d) (λ x same. same ∙ sym (among_same v.commits x)) all

  views_kept : (t : ℕ) → IsViewed o script e.journal next t (new.sessions t)
  views_kept = by_session (IsViewed o script e.journal next) s x' e.sessions
      (record { commits = (kept.views s).commits; sees = λ v has. view_in_kept v ((kept.views s).sees v has) })
      (λ t apart. record { commits = (kept.views t).commits; sees = λ v has. view_in_kept v ((kept.views t).sees v has) })

  reads_kept : (t : ℕ) → IsRead o script e.journal next t (new.sessions t)
  reads_kept = by_session (IsRead o script e.journal next) s x' e.sessions (λ d f h. absurd (cc h))
      (λ t apart d f h.
      let rd = kept.reads t d f h in
      record {
        view = rd.view;
        is = rd.is;
        parts = rd.parts;
        shows = rd.shows;
        flight = plans.reads (sees_by (e.sessions t).trx rd.view) d rd.parts f (unseen t apart rd.view rd.is) rd.flight;
      })
    where
      not_own : (t : ℕ) → nat_eq t s ≡ false → (m : Option ℕ) → (e.sessions t).trx ≡ m → is_own m p.trx ≡ false
      not_own t apart None has = refl
      not_own t apart (Some x) has = by_test (nat_eq p.trx x) refl
        where
          by_test : (b : Bool) → nat_eq p.trx x ≡ b → b ≡ false
          by_test false g = refl
          by_test true g =
              let same : x ≡ p.trx = sym (is_eq p.trx x g) in
              let one : t ≡ s = kept.logs.apart t s p.trx (has ∙ ap (λ (k : ℕ). Some k) same) is in
              absurd (apart_of t s one apart)

      unseen : (t : ℕ) → nat_eq t s ≡ false → (v : ReadView) → (e.sessions t).view ≡ Some v → sees_by (e.sessions t).trx v p.trx ≡ false
      unseen t apart v has = ap₂ (λ (a b : Bool). a || b) (not_own t apart (e.sessions t).trx refl) (((kept.views t).sees v has).active p.trx stands_now)

  making_kept : (t : ℕ) → IsMaking o script e.journal next t (new.sessions t)
  making_kept = by_session (IsMaking o script e.journal next) s x' e.sessions
      (λ d left' r' h.
      let doc : p.doc ≡ d = cc h in
      let left_is : left ≡ left' = cc h in
      let reply_is : r ≡ r' = cc h in
      subst (λ (q : ℕ). IsMakingOf o script e.journal next s q left' r') doc
      (subst (λ (k : Left). IsMakingOf o script e.journal next s p.doc k r') left_is
      (subst (λ (q : Reply). IsMakingOf o script e.journal next s p.doc left q) reply_is
      (record { change = c; is = asked; doc = doc_is; reply = replies; ok = ok; measured = measured; ends = ends }))))
      (λ t apart d left' r' h.
      let m = kept.making t d left' r' h in
      let its : e.locks d ≡ Some t = (kept.locks d).taken t (ap (has_lock d) h ∙ self_eq d) in
      let other : d ≢ p.doc = (λ same.
      let one : t ≡ s = cc (sym its ∙ ap e.locks same ∙ held) in
      apart_of t s one apart) in
      record { change = m.change; is = m.is; doc = m.doc; reply = m.reply; ok = m.ok; measured = will_measured d e.store next (plans.others d other) left' m.measured; ends = ap (option_map (completed left')) (plans.others d other).parts ∙ m.ends })

  fetched_kept : (t : ℕ) → IsFetched next (new.sessions t)
  fetched_kept = by_session (λ t y. IsFetched next y) s x' e.sessions (λ d g h. absurd (cc h))
      (λ t apart d ps h.
      let its : e.locks d ≡ Some t = (kept.locks d).taken t (ap (has_lock d) h ∙ self_eq d) in
      let other : d ≢ p.doc = (λ same. apart_of t s (cc (sym its ∙ ap e.locks same ∙ held)) apart) in
      fetch_kept d e.store next (plans.others d other) ps (kept.fetched t d ps h))

  pub begun_planned : Kept o script new
  begun_planned = record {
    calm = kept.calm;
    counts = counts_kept;
    consistent = plans.consistent;
    given = given_kept;
    zero = old_same 0 ∙ kept.zero;
    logs = logs_kept;
    stored = stored_kept;
    at = at_kept;
    logged = logged_kept;
    locks = locks_kept;
    views = views_kept;
    reads = reads_kept;
    making = making_kept;
    fetched = fetched_kept;
  }
