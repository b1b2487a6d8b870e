-- The first event of the purge of a commit keeps all parts.
use Rattle.std.proofs.Common.{◌≡◌, ◌≢◌, inl, inr, ℕ, suc, ◌≤◌, ◌<◌, Bool, true, false, not, ◌&&◌, nat_lt, List, [], ◌∷◌, Option, Some, None, refl, sym, ap, subst, ◌∙◌, arith, if◌then◌else◌}
use Rattle.journal_model.specs.Journal.{Script, Opening}
use Rattle.journal_model.specs.Held.{greater}
use Rattle.journal_model.specs.History.{Owner, session, commit, history}
use Rattle.store_data.specs.Store.{purging, Log}
use Rattle.store_model.specs.History.{Past, stands, stands_above}
use Rattle.store_model.specs.History as store
use Rattle.store_model.specs.Undo.{on_first}
use Rattle.store_model.proofs.PurgeLemmas.{begun_keeps}
use Rattle.store_model.proofs.ConsistentLemmas.{begun_consistent}
use Rattle.read_model.specs.Flight.{IsFlight}
use Rattle.read_model.proofs.OtherLemmas.{begun_purge_same}
use Rattle.kept_model.specs.Engine.{ReadView, sees_by, Engine}
use Rattle.kept_model.specs.Names.{trx_numbered, names_of, is_begun, is_purging, floor, is_old, AreNumbered, IsFirstBegun}
use Rattle.kept_model.specs.Stored.{front, IsStoredBy, known_from, IsStored}
use Rattle.kept_model.specs.Views.{AllPast}
use Rattle.kept_model.specs.Kept.{Kept}
use Rattle.kept_model.specs.Purges.{begun_event}
use Rattle.kept_model.proofs.PassedLemmas.{purge_begins}
use Rattle.kept_model.proofs.PlanKept.{stored_over}
use Rattle.kept_model.proofs.CommitRows.{all_past}
use Rattle.kept_model.proofs.UndoRows.{among_more}
use Rattle.kept_model.proofs.FetchRows.{fetch_kept}

greater_up : (a b c : ℕ) → b ≤ c → greater a b ≤ greater a c
greater_up a b c le = by_tests (nat_lt a b) refl (nat_lt a c) refl
  where
    by_tests : (x : Bool) → nat_lt a b ≡ x → (y : Bool) → nat_lt a c ≡ y → (if x then b else a) ≤ (if y then c else a)
    by_tests true g true h = le
    by_tests true g false h = grind (arith, g, h, le)
    by_tests false g true h = grind (arith, h)
    by_tests false g false h = omega arith

module _ (o : Opening) (script : Script) (e : Engine) (kept : Kept o script e) (l : Log) (ls : List Log)
    (first : e.store.committed ≡ l ∷ ls) (not_begun : is_begun l.state ≡ false)
    (views : (s : ℕ) (v : ReadView) → (e.sessions s).view ≡ Some v → suc e.store.purged ≤ v.commits) where
  abbrev n : ℕ
  n = suc e.store.purged

  abbrev new : Engine
  new = begun_event e

  abbrev marked : Log
  marked = record l { state = purging }

  committed_is : new.store.committed ≡ marked ∷ ls
  committed_is = ap (on_first (λ (m : Log). record m { state = purging })) first

  floor_was : floor e.store ≡ e.store.purged
  floor_was = ap (λ (b : Bool). if b then n else e.store.purged) (ap is_purging first ∙ not_begun)

  floor_now : floor new.store ≡ n
  floor_now = ap (λ (b : Bool). if b then n else e.store.purged) (ap is_purging committed_is)

  stands_same : (x : ℕ) → stands x new.store.committed ≡ stands x e.store.committed
  stands_same x = ap (stands x) committed_is ∙ sym (ap (stands x) first)

  above_same : (k x : ℕ) → stands_above k x new.store.committed ≡ stands_above k x e.store.committed
  above_same k x = ap (stands_above k x) committed_is ∙ sym (ap (stands_above k x) first)

  numbers_same : (c : ℕ) → trx_numbered new.store.committed c ≡ trx_numbered e.store.committed c
  numbers_same c = ap (λ (ms : List Log). trx_numbered ms c) committed_is ∙ sym (ap (λ (ms : List Log). trx_numbered ms c) first)

  among_same : (k x : ℕ) → store.is_among new.store k x ≡ store.is_among e.store k x
  among_same k x = ap (λ (b : Bool). not (stands x e.store.active) && not b) (above_same k x)

  old_so : (x : ℕ) → is_old e.store x ≡ true → is_old new.store x ≡ true
  old_so x old = by_test (nat_lt x e.store.next_trx) old
    where
      by_test : (b : Bool) → (b && store.is_among e.store (floor e.store) x) ≡ true → (b && store.is_among new.store (floor new.store) x) ≡ true
      by_test true h = ap (λ (k : ℕ). store.is_among new.store k x) floor_now ∙ among_same n x
          ∙ among_more e.store e.store.purged n x (omega arith) (ap (λ (k : ℕ). store.is_among e.store k x) (sym floor_was) ∙ h)
      by_test false h = h

  names_same : (w : Owner) (x : ℕ) → names_of e w ≡ Some x → names_of new w ≡ Some x
  names_same (session t) x h = h
  names_same (commit c) x h = numbers_same c ∙ h

  same_history : (d : ℕ) → store.history new.store d ≡ store.history e.store d
  same_history d = begun_keeps d e.store

  from_up : known_from o e.store ≤ known_from o new.store
  from_up = greater_up o.commits (floor e.store) (floor new.store) (subst (λ (m : ℕ). m ≤ floor new.store) (sym floor_was) (subst (λ (m : ℕ). e.store.purged ≤ m) (sym floor_now) (omega arith)))

  stored_kept : (d : ℕ) → IsStored o script new d
  stored_kept d = subst (IsStoredBy (known_from o new.store) script e.journal (history o script e.journal d) (front e d) (is_purging new.store.committed) n (is_old new.store) (names_of new)) (sym (same_history d))
      (stored_over (known_from o new.store) (known_from o new.store) script e.journal (history o script e.journal d) (front e d) true (is_purging new.store.committed) n n
      (is_old new.store) (is_old new.store) (names_of e) (names_of new) (store.history e.store d) refl (ap is_purging committed_is) refl (λ x old. old) names_same
      (purge_begins script e.journal e.journal (history o script e.journal d) (front e d) n (is_old e.store) (names_of e) (known_from o e.store) (known_from o new.store) (is_old new.store) (store.history e.store d)
      from_up old_so (λ ms h. h)
      (subst (λ (b : Bool). IsStoredBy (known_from o e.store) script e.journal (history o script e.journal d) (front e d) b n (is_old e.store) (names_of e) (store.history e.store d))
      (ap is_purging first ∙ not_begun) (kept.stored d))))

  pub begun_keeps_all : Kept o script new
  begun_keeps_all = record {
    calm = kept.calm;
    counts = record { commits = kept.counts.commits; purged = kept.counts.purged; more = kept.counts.more };
    consistent = begun_consistent e.store kept.consistent;
    given = λ d. subst (AllPast (λ x. x < e.store.next_trx)) (sym (same_history d)) (kept.given d);
    zero = old_so 0 kept.zero;
    logs = record {
      numbered = subst (AreNumbered e.store.commits e.store.purged) (sym committed_is) (subst (AreNumbered e.store.commits e.store.purged) first kept.logs.numbered);
      first = subst IsFirstBegun (sym committed_is) (subst IsFirstBegun first kept.logs.first);
      own = λ t x h. ((kept.logs.own t x h).0, stands_same x ∙ (kept.logs.own t x h).1);
      apart = kept.logs.apart;
      owned = kept.logs.owned;
      commits = λ c x found. let was = kept.logs.commits c x (sym (numbers_same c) ∙ found) in (was.0, λ k. above_same k x ∙ was.1 k);
      below = λ x stand. kept.logs.below x (elim stand [ inl a ↦ inl a | inr b ↦ inr (sym (stands_same x) ∙ b) ]);
    };
    stored = stored_kept;
    at = kept.at;
    logged = λ t. record { records = by_records t; some = λ x h. by_some t x h };
    locks = kept.locks;
    views = λ t. record {
      commits = (kept.views t).commits;
      sees = λ v h. let was = (kept.views t).sees v h in record {
        high = was.high;
        low = subst (λ (m : ℕ). m ≤ v.commits) (sym floor_now) (views t v h);
        first = was.first;
        limit = was.limit;
        zero = was.zero;
        active = was.active;
        rows = λ d. subst (AllPast (λ x. sees_by None v x ≡ store.is_among new.store v.commits x)) (sym (same_history d))
            (all_past (λ x. sees_by None v x ≡ store.is_among e.store v.commits x) _ (store.history e.store d) (λ x same. same ∙ sym (among_same v.commits x)) (was.rows d));
      };
    };
    reads = λ t d f h. let rd = kept.reads t d f h in record {
      view = rd.view;
      is = rd.is;
      parts = rd.parts;
      shows = rd.shows;
      flight = subst (λ doc. IsFlight (sees_by (e.sessions t).trx rd.view) doc rd.parts f) (sym (begun_purge_same e.store d)) rd.flight;
    };
    making = λ t d left r h. let m = kept.making t d left r h in record { change = m.change; is = m.is; doc = m.doc; reply = m.reply; ok = m.ok; measured = m.measured; ends = m.ends };
    fetched = λ t d f h. fetch_kept d e.store new.store (record { parts = refl; row = λ is_live. refl }) f (kept.fetched t d f h);
  }
    where
      by_trx : (m : Option ℕ) → Rattle.kept_model.specs.Sessions.session_records new.store m ≡ Rattle.kept_model.specs.Sessions.session_records e.store m
      by_trx None = refl
      by_trx (Some x) = refl

      by_records : (t : ℕ) → Rattle.kept_model.specs.Sessions.HasRecords (e.sessions t).task (Rattle.kept_model.specs.Sessions.own_docs script t e.journal) (Rattle.kept_model.specs.Sessions.record_docs (Rattle.kept_model.specs.Sessions.session_records new.store (e.sessions t).trx))
      by_records t = subst (λ us. Rattle.kept_model.specs.Sessions.HasRecords (e.sessions t).task (Rattle.kept_model.specs.Sessions.own_docs script t e.journal) (Rattle.kept_model.specs.Sessions.record_docs us)) (sym (by_trx (e.sessions t).trx)) (kept.logged t).records

      by_some : (t x : ℕ) → (e.sessions t).trx ≡ Some x → Rattle.kept_model.specs.Sessions.session_records new.store (e.sessions t).trx ≢ []
      by_some t x h none = (kept.logged t).some x h (sym (by_trx (e.sessions t).trx) ∙ none)
