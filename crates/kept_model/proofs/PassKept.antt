-- The event that purges a record whole keeps all parts.
use Rattle.std.proofs.Common.{◌≡◌, inl, inr, ℕ, suc, ◌≤◌, ◌<◌, Bool, true, false, true≢false, not, ◌&&◌, ◌||◌, nat_eq, nat_lt, nat_le, List, [], ◌∷◌, ◌++◌, Option, Some, None, refl, sym, ap, ap₂, subst, ◌∙◌, arith, if◌then◌else◌, option_map}
use Rattle.std.proofs.lemmas.Bool.{cases_eq}
use Rattle.journal_model.specs.Journal.{Script, Opening}
use Rattle.journal_model.specs.Held.{greater}
use Rattle.journal_model.specs.History.{Owner, session, commit, is_among, history}
use Rattle.store_data.specs.Store.{Record, Log, Store}
use Rattle.store_model.specs.History.{Past, stands, stands_above}
use Rattle.store_model.specs.History as store
use Rattle.kept_model.specs.Engine.{ReadView, is_own, sees_by, Engine}
use Rattle.kept_model.specs.Names.{trx_numbered, names_of, is_begun, is_purging, floor, is_old, AreNumbered, IsFirstBegun, AreLogs}
use Rattle.kept_model.specs.Rows.{SameTrx}
use Rattle.kept_model.specs.Stored.{front, IsStoredBy, known_from, IsStored}
use Rattle.kept_model.specs.Sessions.{session_records, records_of, has_lock, IsLogged}
use Rattle.kept_model.specs.Views.{AllPast, IsViewIn, completed}
use Rattle.kept_model.specs.Kept.{Kept}
use Rattle.kept_model.specs.Passes.{Passes, pass_event}
use Rattle.kept_model.proofs.PassedLemmas.{record_passes, purge_works, base_swapped}
use Rattle.kept_model.proofs.PlanKept.{stored_over}
use Rattle.kept_model.proofs.SessionLemmas.{self_eq}
use Rattle.kept_model.proofs.CommitRows.{all_past}
use Rattle.kept_model.proofs.UndoRows.{among_more}
use Rattle.kept_model.proofs.FetchRows.{fetch_kept, will_measured}

-- the second of two numbers is at most the greater
pub greater_second : (a b : ℕ) → b ≤ greater a b
greater_second a b = by_test (nat_lt a b) refl
  where
    by_test : (c : Bool) → nat_lt a b ≡ c → b ≤ (if c then b else a)
    by_test true e = omega arith
    by_test false e = grind (arith, e)

-- what holds of the transactions of two lists of rows joined holds of those of each
pub past_parts : (P : ℕ → Type 0) (ps qs : List Past) → AllPast P (ps ++ qs) → AllPast P ps × AllPast P qs
past_parts P [] qs all = (tt, all)
past_parts P (p ∷ ps) qs all = let rest = past_parts P ps qs all.1 in ((all.0, rest.0), rest.1)

past_both : (P : ℕ → Type 0) (ps qs : List Past) → AllPast P ps → AllPast P qs → AllPast P (ps ++ qs)
past_both P [] qs all more = more
past_both P (p ∷ ps) qs all more = (all.0, past_both P ps qs all.1 more)

-- what holds of rows' transactions holds of other rows of the same ones
pub past_same : (P : ℕ → Type 0) (ps qs : List Past) → SameTrx ps qs → AllPast P ps → AllPast P qs
past_same P [] [] same all = tt
past_same P [] (q ∷ qs) same all = absurd same
past_same P (p ∷ ps) [] same all = absurd same
past_same P (p ∷ ps) (q ∷ qs) same all = (subst P (sym same.0.0) all.0, past_same P ps qs same.1 all.1)

module _ (o : Opening) (script : Script) (e : Engine) (kept : Kept o script e) (l : Log) (ls : List Log) (u : Record) (next : Store)
    (first : e.store.committed ≡ l ∷ ls) (begun_is : is_begun l.state ≡ true) (passes : Passes l ls u e.store next) where
  abbrev new : Engine
  new = pass_event next e

  abbrev n : ℕ
  n = suc e.store.purged

  number_is : l.number ≡ n
  number_is = (subst (AreNumbered e.store.commits e.store.purged) first kept.logs.numbered).0

  named_as : names_of e (commit n) ≡ Some l.trx
  named_as = ap (λ (ms : List Log). trx_numbered ms n) first ∙ ap (λ (b : Bool). if b then Some l.trx else trx_numbered ls n) (ap (λ (m : ℕ). nat_eq m n) number_is ∙ self_eq n)

  its : (stands l.trx e.store.active ≡ false) × ((k : ℕ) → stands_above k l.trx e.store.committed ≡ nat_lt k n)
  its = kept.logs.commits n l.trx named_as

  purging_was : is_purging e.store.committed ≡ true
  purging_was = ap is_purging first ∙ begun_is

  purging_now : is_purging next.committed ≡ is_purging e.store.committed
  purging_now = ap is_purging passes.committed ∙ ap is_begun passes.log_state ∙ sym (ap is_purging first)

  floor_was : floor e.store ≡ n
  floor_was = ap (λ (b : Bool). if b then n else e.store.purged) purging_was

  floor_same : floor next ≡ floor e.store
  floor_same = ap₂ (λ (b : Bool) (m : ℕ). if b then suc m else m) purging_now passes.purged

  stands_same : (x : ℕ) → stands x next.committed ≡ stands x e.store.committed
  stands_same x = ap (stands x) passes.committed ∙ ap (λ (t : ℕ). nat_eq t x || stands x ls) passes.log_trx ∙ sym (ap (stands x) first)

  above_same : (k x : ℕ) → stands_above k x next.committed ≡ stands_above k x e.store.committed
  above_same k x = ap (stands_above k x) passes.committed ∙ ap₂ (λ (t m : ℕ). (nat_lt k m && nat_eq t x) || stands_above k x ls) passes.log_trx passes.log_number ∙ sym (ap (stands_above k x) first)

  numbers_same : (c : ℕ) → trx_numbered next.committed c ≡ trx_numbered e.store.committed c
  numbers_same c = ap (λ (ms : List Log). trx_numbered ms c) passes.committed
      ∙ ap₂ (λ (m t : ℕ). if nat_eq m c then Some t else trx_numbered ls c) passes.log_number passes.log_trx ∙ sym (ap (λ (ms : List Log). trx_numbered ms c) first)

  among_same : (k x : ℕ) → store.is_among next k x ≡ store.is_among e.store k x
  among_same k x = ap₂ (λ (a b : Bool). not a && not b) (ap (stands x) passes.active) (above_same k x)

  old_same : (x : ℕ) → is_old next x ≡ is_old e.store x
  old_same x = ap₂ (λ (m : ℕ) (b : Bool). nat_lt x m && b) passes.next (ap (λ (k : ℕ). store.is_among next k x) floor_same ∙ among_same (floor e.store) x)

  names_same : (w : Owner) (x : ℕ) → names_of e w ≡ Some x → names_of new w ≡ Some x
  names_same (session t) x h = h
  names_same (commit c) x h = numbers_same c ∙ h

  -- the purged transaction is old, and its owner is this commit
  own_among : store.is_among e.store n l.trx ≡ true
  own_among = ap₂ (λ (a b : Bool). not a && not b) its.0 (its.1 n ∙ none n)
    where
      none : (m : ℕ) → nat_lt m m ≡ false
      none m = grind arith

  own_old : is_old e.store passes.own.trx ≡ true
  own_old = ap (is_old e.store) passes.mine ∙ ap₂ (λ (a b : Bool). a && b) (below (kept.logs.below l.trx (inr (ap (stands l.trx) first ∙ ap (λ (b : Bool). b || stands l.trx ls) (self_eq l.trx)))))
      (ap (λ (k : ℕ). store.is_among e.store k l.trx) floor_was ∙ own_among)
    where
      below : l.trx < e.store.next_trx → nat_lt l.trx e.store.next_trx ≡ true
      below h = grind (arith, h)

  owner_is : (w : Owner) → names_of e w ≡ Some l.trx → w ≡ commit n
  owner_is (session t) h = absurd (true≢false (sym (kept.logs.own t l.trx h).0 ∙ its.0))
  owner_is (commit c) h = ap commit (one c n (λ k. sym ((kept.logs.commits c l.trx h).1 k) ∙ its.1 k))
    where
      one : (a b : ℕ) → ((k : ℕ) → nat_lt k a ≡ nat_lt k b) → a ≡ b
      one a b same =
          let at_a : nat_lt a a ≡ nat_lt a b = same a in
          let at_b : nat_lt b a ≡ nat_lt b b = same b in
          let not_a : nat_lt a a ≡ false = grind arith in
          let not_b : nat_lt b b ≡ false = grind arith in
          let up : nat_lt a b ≡ false = sym at_a ∙ not_a in
          let down : nat_lt b a ≡ false = at_b ∙ not_b in
          equal a b up down
        where
          equal : (a b : ℕ) → nat_lt a b ≡ false → nat_lt b a ≡ false → a ≡ b
          equal a b up down = grind (arith, up, down)

  -- ---- documents

  abbrev By : ℕ → List Past → Type 0
  By q rows = IsStoredBy (known_from o e.store) script e.journal (history o script e.journal q) (front e q) true n (is_old e.store) (names_of e) rows

  over : (q : ℕ) → By q (store.history next q) → IsStored o script new q
  over q k = stored_over (known_from o e.store) (known_from o next) script e.journal (history o script e.journal q) (front e q) true (is_purging next.committed) n (suc next.purged)
      (is_old e.store) (is_old next) (names_of e) (names_of new) (store.history next q) (ap (greater o.commits) floor_same) (purging_now ∙ purging_was) (ap suc passes.purged) (λ x old. old_same x ∙ old) names_same k

  was : (q : ℕ) → By q (store.history e.store q)
  was q = subst (λ (b : Bool). IsStoredBy (known_from o e.store) script e.journal (history o script e.journal q) (front e q) b n (is_old e.store) (names_of e) (store.history e.store q)) purging_was (kept.stored q)

  among_first : (w : Owner) → names_of e w ≡ Some l.trx → is_among (known_from o e.store) w ≡ true
  among_first w h = ap (is_among (known_from o e.store)) (owner_is w h) ∙ up (subst (λ (m : ℕ). m ≤ known_from o e.store) floor_was (greater_second o.commits (floor e.store)))
    where
      up : n ≤ known_from o e.store → nat_le n (known_from o e.store) ≡ true
      up h = grind (arith, h)

  own_stored : By u.doc (store.history next u.doc)
  own_stored =
      let cut : By u.doc (passes.newer ++ (passes.own ∷ [])) =
      record_passes script e.journal e.journal (history o script e.journal u.doc) (front e u.doc) n (is_old e.store) (names_of e) (known_from o e.store) (store.history e.store u.doc)
      passes.newer passes.own passes.before passes.was own_old (λ w h. owner_is w (h ∙ ap (λ (m : ℕ). Some m) passes.mine)) (λ ms h. h) (was u.doc) in
      let worked : By u.doc passes.middle =
      purge_works script e.journal e.journal (history o script e.journal u.doc) (front e u.doc) n (is_old e.store) (names_of e) (known_from o e.store) l.trx
      (passes.newer ++ (passes.own ∷ [])) passes.middle among_first passes.same passes.bytes (λ ms h. h) cut in
      elim passes.now [
        | inl same ↦ subst (By u.doc) (sym same) worked
        | inr swept ↦ subst (By u.doc) (sym swept.3)
            (base_swapped script e.journal e.journal (history o script e.journal u.doc) (front e u.doc) n (is_old e.store) (names_of e) (known_from o e.store) true swept.0 (record { trx = 0; length = 0; bytes = None })
            (sym swept.2) (λ bs is. absurd (cc is)) kept.zero (subst (By u.doc) swept.1 worked))
      ]

  stored_kept : (q : ℕ) → IsStored o script new q
  stored_kept q = elim (cases_eq q u.doc) [
    | inl here ↦ subst (IsStored o script new) (sym here) (over u.doc own_stored)
    | inr other ↦ over q (subst (By q) (sym (passes.others q other)) (was q))
  ]

  rows_kept : (P : ℕ → Type 0) → P 0 → (q : ℕ) → AllPast P (store.history e.store q) → AllPast P (store.history next q)
  rows_kept P zero q all = elim (cases_eq q u.doc) [
    | inl here ↦ subst (λ (d : ℕ). AllPast P (store.history next d)) (sym here) (own_rows (subst (AllPast P) passes.was (subst (λ (d : ℕ). AllPast P (store.history e.store d)) here all)))
    | inr other ↦ subst (AllPast P) (sym (passes.others q other)) all
  ]
    where
      own_rows : AllPast P (passes.newer ++ (passes.own ∷ passes.before ∷ [])) → AllPast P (store.history next u.doc)
      own_rows all =
          let parts = past_parts P passes.newer (passes.own ∷ passes.before ∷ []) all in
          elim passes.now [
            | inl same ↦ subst (AllPast P) (sym same) (past_same P (passes.newer ++ (passes.own ∷ [])) passes.middle passes.same (past_both P passes.newer (passes.own ∷ []) parts.0 (parts.1.0, tt)))
            | inr swept ↦ subst (AllPast P) (sym swept.3) (zero, tt)
          ]

  zero_parts : (0 < e.store.next_trx) × (store.is_among e.store (floor e.store) 0 ≡ true)
  zero_parts = by_test (nat_lt 0 e.store.next_trx) refl kept.zero
    where
      by_test : (b : Bool) → nat_lt 0 e.store.next_trx ≡ b → (b && store.is_among e.store (floor e.store) 0) ≡ true → (0 < e.store.next_trx) × (store.is_among e.store (floor e.store) 0 ≡ true)
      by_test true g h = ((let less : 0 < e.store.next_trx = grind (arith, g) in less), h)
      by_test false g h = absurd (true≢false (sym h))

  logs_kept : AreLogs next new.sessions
  logs_kept = record {
    numbered = subst (λ (m : ℕ). AreNumbered m next.purged next.committed) (sym passes.commits)
        (subst (λ (m : ℕ). AreNumbered e.store.commits m next.committed) (sym passes.purged)
        (subst (AreNumbered e.store.commits e.store.purged) (sym passes.committed)
        (passes.log_number ∙ number_is, (subst (AreNumbered e.store.commits e.store.purged) first kept.logs.numbered).1)));
    first = subst IsFirstBegun (sym passes.committed) (subst IsFirstBegun first kept.logs.first);
    own = λ t x h. let old = kept.logs.own t x h in (ap (stands x) passes.active ∙ old.0, stands_same x ∙ old.1);
    apart = kept.logs.apart;
    owned = λ x stand. kept.logs.owned x (ap (stands x) (sym passes.active) ∙ stand);
    commits = λ c x found. let old = kept.logs.commits c x (sym (numbers_same c) ∙ found) in (ap (stands x) passes.active ∙ old.0, λ k. above_same k x ∙ old.1 k);
    below = λ x stand. subst (λ (m : ℕ). x < m) (sym passes.next) (kept.logs.below x (elim stand [
      | inl active ↦ inl (ap (stands x) (sym passes.active) ∙ active)
      | inr done ↦ inr (sym (stands_same x) ∙ done)
    ]));
  }

  view_in_kept : (v : ReadView) → IsViewIn o e.store v → IsViewIn o next v
  view_in_kept v h = record {
    high = subst (λ (m : ℕ). v.commits ≤ m) (sym passes.commits) h.high;
    low = subst (λ (m : ℕ). m ≤ v.commits) (sym floor_same) h.low;
    first = h.first;
    limit = subst (λ (m : ℕ). v.limit ≤ m) (sym passes.next) h.limit;
    zero = h.zero;
    active = λ x stand. h.active x (ap (stands x) (sym passes.active) ∙ stand);
    rows = λ d. all_past (λ x. sees_by None v x ≡ store.is_among e.store v.commits x) _ (store.history next d) (λ x same. same ∙ sym (among_same v.commits x))
        (rows_kept (λ x. sees_by None v x ≡ store.is_among e.store v.commits x) (h.zero ∙ sym (among_more e.store (floor e.store) v.commits 0 h.low zero_parts.1)) d (h.rows d));
  }

  -- every view sees the purged transaction
  seen_own : (v : ReadView) → IsViewIn o e.store v → sees_by None v l.trx ≡ true
  seen_own v h =
      let rows = past_parts (λ x. sees_by None v x ≡ store.is_among e.store v.commits x) passes.newer (passes.own ∷ passes.before ∷ [])
      (subst (AllPast (λ x. sees_by None v x ≡ store.is_among e.store v.commits x)) passes.was (h.rows u.doc)) in
      ap (sees_by None v) (sym passes.mine) ∙ rows.1.0 ∙ ap (store.is_among e.store v.commits) passes.mine
      ∙ among_more e.store n v.commits l.trx (subst (λ (m : ℕ). m ≤ v.commits) floor_was h.low) own_among

  seen_so : (t : ℕ) (v : ReadView) (x : ℕ) → sees_by None v x ≡ true → sees_by (e.sessions t).trx v x ≡ true
  seen_so t v x h = ap (λ (b : Bool). is_own (e.sessions t).trx x || b) h ∙ or_true (is_own (e.sessions t).trx x)
    where
      or_true : (b : Bool) → (b || true) ≡ true
      or_true true = refl
      or_true false = refl

  pub pass_keeps : Kept o script new
  pass_keeps = record {
    calm = kept.calm;
    counts = record { commits = passes.commits ∙ kept.counts.commits; purged = passes.purged ∙ kept.counts.purged; more = subst (λ (m : ℕ). o.commits ≤ m) (sym passes.commits) kept.counts.more };
    consistent = passes.consistent;
    given = λ d. subst (λ (m : ℕ). AllPast (λ x. x < m) (store.history next d)) (sym passes.next) (rows_kept (λ x. x < e.store.next_trx) zero_parts.0 d (kept.given d));
    zero = old_same 0 ∙ kept.zero;
    logs = logs_kept;
    stored = stored_kept;
    at = kept.at;
    logged = λ t.
        let same : session_records next (e.sessions t).trx ≡ session_records e.store (e.sessions t).trx = by_trx (e.sessions t).trx in
        record {
          records = subst (λ us. Rattle.kept_model.specs.Sessions.HasRecords (e.sessions t).task (Rattle.kept_model.specs.Sessions.own_docs script t e.journal) (Rattle.kept_model.specs.Sessions.record_docs us)) (sym same) (kept.logged t).records;
          some = λ x h none. (kept.logged t).some x h (sym same ∙ none);
        };
    locks = kept.locks;
    views = λ t. record { commits = (kept.views t).commits; sees = λ v h. view_in_kept v ((kept.views t).sees v h) };
    reads = λ t d f h.
        let rd = kept.reads t d f h in
        let inside = (kept.views t).sees rd.view rd.is in
        record {
          view = rd.view;
          is = rd.is;
          parts = rd.parts;
          shows = rd.shows;
          flight = passes.reads (sees_by (e.sessions t).trx rd.view) d rd.parts f (seen_so t rd.view l.trx (seen_own rd.view inside)) (seen_so t rd.view 0 inside.zero) rd.flight;
        };
    making = λ t d left r h. let m = kept.making t d left r h in
        record { change = m.change; is = m.is; doc = m.doc; reply = m.reply; ok = m.ok; measured = will_measured d e.store next (passes.shows d) left m.measured; ends = ap (option_map (completed left)) (passes.shows d).parts ∙ m.ends };
    fetched = λ t d ps h. fetch_kept d e.store next (passes.shows d) ps (kept.fetched t d ps h);
  }
    where
      by_trx : (m : Option ℕ) → session_records next m ≡ session_records e.store m
      by_trx None = refl
      by_trx (Some x) = ap (λ (logs : List Log). records_of (Rattle.store_model.specs.Steps.log_of logs x)) passes.active
