-- The events that purge a record, but its last, keep all parts.
use Rattle.std.proofs.Common.{◌≡◌, ℕ, suc, ◌≤◌, ◌<◌, Bool, true, false, true≢false, not, ◌&&◌, ◌||◌, nat_eq, nat_lt, nat_le, List, [], ◌∷◌, Option, Some, None, refl, sym, ap, ap₂, subst, ◌∙◌, arith, if◌then◌else◌, option_map}
use Rattle.journal_model.specs.Journal.{Script, Opening}
use Rattle.journal_model.specs.History.{Owner, session, commit, is_among, history}
use Rattle.store_data.specs.Store.{Log, Lob}
use Rattle.store_model.specs.History.{Past, stands, stands_above}
use Rattle.store_model.specs.History as store
use Rattle.kept_model.specs.Engine.{ReadView, is_own, sees_by, Engine}
use Rattle.kept_model.specs.Names.{trx_numbered, names_of, is_begun, is_purging, floor, is_old, AreNumbered}
use Rattle.kept_model.specs.Stored.{front, IsStoredBy, known_from, IsStored}
use Rattle.kept_model.specs.Sessions.{session_records, records_of, has_lock, IsLogged}
use Rattle.kept_model.specs.Views.{AllPast, IsViewIn, completed}
use Rattle.kept_model.specs.Kept.{Kept}
use Rattle.kept_model.specs.Drops.{Drops, drop_event}
use Rattle.kept_model.proofs.PassedLemmas.{purge_works}
use Rattle.kept_model.proofs.PassKept.{greater_second, past_parts, past_same}
use Rattle.kept_model.proofs.PlanKept.{stored_over}
use Rattle.kept_model.proofs.SessionLemmas.{self_eq}
use Rattle.kept_model.proofs.UndoRows.{among_more}
use Rattle.kept_model.proofs.FetchRows.{fetch_kept, will_measured}

equal : (a b : ℕ) → nat_lt a b ≡ false → nat_lt b a ≡ false → a ≡ b
equal a b up down = grind (arith, up, down)

never_less : (a : ℕ) → nat_lt a a ≡ false
never_less a = grind arith

one_number : (a b : ℕ) → ((k : ℕ) → nat_lt k a ≡ nat_lt k b) → a ≡ b
one_number a b same = equal a b (sym (same a) ∙ never_less a) (same b ∙ never_less b)

module _ (o : Opening) (script : Script) (e : Engine) (kept : Kept o script e) (l : Log) (ls : List Log) (d₀ : ℕ) (f : List Lob → List Lob)
    (first : e.store.committed ≡ l ∷ ls) (begun_is : is_begun l.state ≡ true) (drops : Drops l d₀ f e.store) where
  abbrev new : Engine
  new = drop_event f e

  abbrev n : ℕ
  n = suc e.store.purged

  number_is : l.number ≡ n
  number_is = (subst (AreNumbered e.store.commits e.store.purged) first kept.logs.numbered).0

  named_as : names_of e (commit n) ≡ Some l.trx
  named_as = ap (λ (ms : List Log). trx_numbered ms n) first ∙ ap (λ (b : Bool). if b then Some l.trx else trx_numbered ls n) (ap (λ (m : ℕ). nat_eq m n) number_is ∙ self_eq n)

  its : (stands l.trx e.store.active ≡ false) × ((k : ℕ) → stands_above k l.trx e.store.committed ≡ nat_lt k n)
  its = kept.logs.commits n l.trx named_as

  purging_was : is_purging e.store.committed ≡ true
  purging_was = ap is_purging first ∙ begun_is

  floor_was : floor e.store ≡ n
  floor_was = ap (λ (b : Bool). if b then n else e.store.purged) purging_was

  -- the purged transaction is old, and its owner is this commit
  own_among : store.is_among e.store n l.trx ≡ true
  own_among = ap₂ (λ (a b : Bool). not a && not b) its.0 (its.1 n ∙ none n)
    where
      none : (m : ℕ) → nat_lt m m ≡ false
      none m = grind arith

  owner_is : (w : Owner) → names_of e w ≡ Some l.trx → w ≡ commit n
  owner_is (session t) h = absurd (true≢false (sym (kept.logs.own t l.trx h).0 ∙ its.0))
  owner_is (commit c) h = ap commit (one_number c n (λ k. sym ((kept.logs.commits c l.trx h).1 k) ∙ its.1 k))

  abbrev By : ℕ → List Past → Type 0
  By q rows = IsStoredBy (known_from o e.store) script e.journal (history o script e.journal q) (front e q) true n (is_old e.store) (names_of e) rows

  was : (q : ℕ) → By q (store.history e.store q)
  was q = subst (λ (b : Bool). IsStoredBy (known_from o e.store) script e.journal (history o script e.journal q) (front e q) b n (is_old e.store) (names_of e) (store.history e.store q)) purging_was (kept.stored q)

  among_first : (w : Owner) → names_of e w ≡ Some l.trx → is_among (known_from o e.store) w ≡ true
  among_first w h = ap (is_among (known_from o e.store)) (owner_is w h) ∙ up (subst (λ (m : ℕ). m ≤ known_from o e.store) floor_was (greater_second o.commits (floor e.store)))
    where
      up : n ≤ known_from o e.store → nat_le n (known_from o e.store) ≡ true
      up h = grind (arith, h)

  -- every view sees the purged transaction
  seen_own : (v : ReadView) → IsViewIn o e.store v → sees_by None v l.trx ≡ true
  seen_own v h =
      let rows = past_parts (λ x. sees_by None v x ≡ store.is_among e.store v.commits x) drops.newer (drops.own ∷ drops.before ∷ [])
      (subst (AllPast (λ x. sees_by None v x ≡ store.is_among e.store v.commits x)) drops.was (h.rows d₀)) in
      ap (sees_by None v) (sym drops.mine) ∙ rows.1.0 ∙ ap (store.is_among e.store v.commits) drops.mine
      ∙ among_more e.store n v.commits l.trx (subst (λ (m : ℕ). m ≤ v.commits) floor_was h.low) own_among

  seen_so : (t : ℕ) (v : ReadView) (x : ℕ) → sees_by None v x ≡ true → sees_by (e.sessions t).trx v x ≡ true
  seen_so t v x h = ap (λ (b : Bool). is_own (e.sessions t).trx x || b) h ∙ or_true (is_own (e.sessions t).trx x)
    where
      or_true : (b : Bool) → (b || true) ≡ true
      or_true true = refl
      or_true false = refl

  names_same : (w : Owner) (x : ℕ) → names_of e w ≡ Some x → names_of new w ≡ Some x
  names_same (session t) x h = h
  names_same (commit c) x h = h

  stored_kept : (q : ℕ) → IsStored o script new q
  stored_kept q = stored_over (known_from o e.store) (known_from o e.store) script e.journal (history o script e.journal q) (front e q) true (is_purging e.store.committed) n n
      (is_old e.store) (is_old e.store) (names_of e) (names_of new) (store.history new.store q) refl purging_was refl (λ x old. old) names_same
      (purge_works script e.journal e.journal (history o script e.journal q) (front e q) n (is_old e.store) (names_of e) (known_from o e.store) l.trx
      (store.history e.store q) (store.history new.store q) among_first (drops.same q) (drops.bytes q) (λ ms h. h) (was q))

  rows_kept : (P : ℕ → Type 0) (q : ℕ) → AllPast P (store.history e.store q) → AllPast P (store.history new.store q)
  rows_kept P q all = past_same P (store.history e.store q) (store.history new.store q) (drops.same q) all

  view_in_kept : (v : ReadView) → IsViewIn o e.store v → IsViewIn o new.store v
  view_in_kept v h = record {
    high = h.high;
    low = h.low;
    first = h.first;
    limit = h.limit;
    zero = h.zero;
    active = h.active;
    rows = λ q. rows_kept (λ x. sees_by None v x ≡ store.is_among e.store v.commits x) q (h.rows q);
  }

  same_records : (m : Option ℕ) → session_records new.store m ≡ session_records e.store m
  same_records None = refl
  same_records (Some x) = refl

  pub drop_keeps : Kept o script new
  drop_keeps = record {
    calm = kept.calm;
    counts = record { commits = kept.counts.commits; purged = kept.counts.purged; more = kept.counts.more };
    consistent = drops.consistent;
    given = λ q. rows_kept (λ x. x < e.store.next_trx) q (kept.given q);
    zero = kept.zero;
    logs = record {
      numbered = kept.logs.numbered;
      first = kept.logs.first;
      own = kept.logs.own;
      apart = kept.logs.apart;
      owned = kept.logs.owned;
      commits = kept.logs.commits;
      below = kept.logs.below;
    };
    stored = stored_kept;
    at = kept.at;
    logged = λ t. record {
      records = subst (λ us. Rattle.kept_model.specs.Sessions.HasRecords (e.sessions t).task (Rattle.kept_model.specs.Sessions.own_docs script t e.journal) (Rattle.kept_model.specs.Sessions.record_docs us)) (sym (same_records (e.sessions t).trx)) (kept.logged t).records;
      some = λ x h none. (kept.logged t).some x h (sym (same_records (e.sessions t).trx) ∙ none);
    };
    locks = kept.locks;
    views = λ t. record { commits = (kept.views t).commits; sees = λ v h. view_in_kept v ((kept.views t).sees v h) };
    reads = λ t q fl h.
        let rd = kept.reads t q fl h in
        record {
          view = rd.view;
          is = rd.is;
          parts = rd.parts;
          shows = rd.shows;
          flight = drops.reads (sees_by (e.sessions t).trx rd.view) q rd.parts fl (seen_so t rd.view l.trx (seen_own rd.view ((kept.views t).sees rd.view rd.is))) rd.flight;
        };
    making = λ t q left r h. let m = kept.making t q left r h in
        record { change = m.change; is = m.is; doc = m.doc; reply = m.reply; ok = m.ok; measured = will_measured q e.store new.store (drops.shows q) left m.measured; ends = ap (option_map (completed left)) (drops.shows q).parts ∙ m.ends };
    fetched = λ t q ps h. fetch_kept q e.store new.store (drops.shows q) ps (kept.fetched t q ps h);
  }
