-- A purged commit: its log goes, and the documents' rows stay told.
use Rattle.std.proofs.Common.{◌≡◌, ◌≢◌, inl, inr, ℕ, suc, ◌≤◌, ◌<◌, Bool, true, false, true≢false, ◌&&◌, ◌||◌, nat_eq, nat_lt, nat_le, List, [], ◌∷◌, ◌++◌, Some, refl, sym, ap, subst, ◌∙◌, arith, if◌then◌else◌}
use Rattle.page_model.specs.Pages.{Address}
use Rattle.journal_model.specs.Journal.{Script, Purged, Opening}
use Rattle.journal_model.specs.Held.{greater}
use Rattle.journal_model.specs.History.{Owner, session, commit, Made, is_among, purged_to, history}
use Rattle.history_model.specs.Laws.{IsRun}
use Rattle.history_model.specs.Sound.{OfOwners, IsAfter}
use Rattle.history_model.proofs.OrderLemmas.{after_of}
use Rattle.store_data.specs.Store.{Record, Log, Store}
use Rattle.store_model.specs.History.{Change, Past, changes, changes_among, active_changes, committed_changes, row_before, history_behind, stands, stands_above}
use Rattle.store_model.specs.History as store
use Rattle.store_model.specs.Well.{NoLog, AreDistinct, IsChain}
use Rattle.store_model.proofs.PurgeLemmas.{log_keeps, log_among}
use Rattle.kept_model.specs.Engine.{Engine}
use Rattle.kept_model.specs.Names.{trx_numbered, names_of, is_begun, is_purging, floor, is_old, AreNumbered, AreNotBegun, IsFirstBegun, AreLogs}
use Rattle.kept_model.specs.Stored.{front, IsStoredBy, known_from, IsStored}
use Rattle.kept_model.specs.Kept.{Kept}
use Rattle.kept_model.specs.Purges.{purged_event}
use Rattle.kept_model.proofs.RowLemmas.{IsOff, none_named}
use Rattle.kept_model.proofs.PassedLemmas.{purged_stored}
use Rattle.kept_model.proofs.PlanKept.{stored_over}
use Rattle.kept_model.specs.Ended.{SaysSame}
use Rattle.kept_model.proofs.FrameLemmas.{says_same, under_way_same}
use Rattle.kept_model.proofs.SessionLemmas.{self_eq, is_eq, not_eq}
use Rattle.kept_model.proofs.LogLemmas.{numbered_stands, none_stands, distinct_parts}
use Rattle.kept_model.proofs.CommitRows.{of_parts}

-- ---- no change is of a transaction whose logs have no records

-- none of the changes is of this transaction
abbrev pub NoneOf : ℕ → List Change → Type 0
NoneOf trx [] = Unit {0}
NoneOf trx (c ∷ cs) = (c.trx ≢ trx) × NoneOf trx cs

-- where none of two lists of changes is of a transaction, none of both joined is
pub none_join : (trx : ℕ) (cs ds : List Change) → NoneOf trx cs → NoneOf trx ds → NoneOf trx (cs ++ ds)
none_join trx [] ds a b = b
none_join trx (c ∷ cs) ds a b = (a.0, none_join trx cs ds a.1 b)

pub none_among : (trx d t : ℕ) (us : List (Address × Record)) → t ≢ trx → NoneOf trx (changes_among d t us)
none_among trx d t [] other = tt
none_among trx d t (u ∷ us) other = by_test (nat_eq u.1.doc d) (none_among trx d t us other)
  where
    by_test : (b : Bool) → NoneOf trx (changes_among d t us) → NoneOf trx (if b then record { place = u.0; trx = t; undo = u.1 } ∷ changes_among d t us else changes_among d t us)
    by_test true rest = (other, rest)
    by_test false rest = rest

pub not_first : (trx : ℕ) (l : Log) (ls : List Log) → stands trx (l ∷ ls) ≡ false → (l.trx ≢ trx) × (stands trx ls ≡ false)
not_first trx l ls none = by_test (nat_eq l.trx trx) refl none
  where
    by_test : (b : Bool) → nat_eq l.trx trx ≡ b → (b || stands trx ls) ≡ false → (l.trx ≢ trx) × (stands trx ls ≡ false)
    by_test true e g = absurd (true≢false g)
    by_test false e g = ((λ same. true≢false (sym (ap (λ (n : ℕ). nat_eq n trx) same ∙ self_eq trx) ∙ e)), g)

-- a transaction without an active log has no change in active logs
pub none_active : (trx d : ℕ) (ls : List Log) → stands trx ls ≡ false → NoneOf trx (active_changes d ls)
none_active trx d [] none = tt
none_active trx d (l ∷ ls) none = let n = not_first trx l ls none in none_join trx (changes_among d l.trx l.records) (active_changes d ls) (none_among trx d l.trx l.records n.0) (none_active trx d ls n.1)

-- a transaction without a committed log has no change in committed logs
pub none_committed : (trx d : ℕ) (ls : List Log) → stands trx ls ≡ false → NoneOf trx (committed_changes d ls)
none_committed trx d [] none = tt
none_committed trx d (l ∷ ls) none = let n = not_first trx l ls none in none_join trx (committed_changes d ls) (changes_among d l.trx l.records) (none_committed trx d ls n.1) (none_among trx d l.trx l.records n.0)

-- so no row but the oldest is its
pub rows_off : (trx : ℕ) (later : List Record) (lobs : List Rattle.store_data.specs.Store.Lob) (row : Rattle.store_data.specs.Store.Row) (cs : List Change)
    → IsChain row cs → NoneOf trx cs → IsOff trx (history_behind later lobs row cs)
rows_off trx later lobs row [] chain none = tt
rows_off trx later lobs row (c ∷ []) chain none = ((λ same. none.0 (sym chain.0.trx ∙ same)), tt)
rows_off trx later lobs row (c ∷ d ∷ cs) chain none = ((λ same. none.0 (sym chain.0.trx ∙ same)), rows_off trx (later ++ c.undo ∷ []) lobs c.undo.before (d ∷ cs) chain.1 none.1)

-- ---- numbers

pub numbered_above : (last n c x : ℕ) (ls : List Log) → AreNumbered last n ls → trx_numbered ls c ≡ Some x → n < c
numbered_above last n c x [] all found = absurd (cc found)
numbered_above last n c x (l ∷ ls) all found = by_test (nat_eq l.number c) refl found (λ g. numbered_above last (suc n) c x ls all.1 g)
  where
    by_test : (b : Bool) → nat_eq l.number c ≡ b → (if b then Some l.trx else trx_numbered ls c) ≡ Some x → (trx_numbered ls c ≡ Some x → suc n < c) → n < c
    by_test true e g rest = let is : l.number ≡ c = is_eq l.number c e in let number : l.number ≡ suc n = all.0 in omega (arith, is, number)
    by_test false e g rest = let more : suc n < c = rest g in omega (arith, more)

pub not_begun_first : (ls : List Log) → AreNotBegun ls → is_purging ls ≡ false
not_begun_first [] all = refl
not_begun_first (l ∷ ls) all = all.0

pub later_begun : (ls : List Log) → AreNotBegun ls → IsFirstBegun ls
later_begun [] all = tt
later_begun (l ∷ ls) all = all.1

pub after_commit : (p : ℕ) (w : Owner) → IsAfter p w → w ≢ commit (suc p) → is_among (suc p) w ≡ false
after_commit p (session t) h other = refl
after_commit p (commit c) h other = by_test (nat_le c (suc p)) refl
  where
    by_test : (b : Bool) → nat_le c (suc p) ≡ b → b ≡ false
    by_test false g = refl
    by_test true g = let more : p < c = h in let same : c ≡ suc p = grind (arith, g, more) in absurd (other (ap commit same))

pub both_owners : (P Q R : Owner → Type 0) (ms : List Made) → ((w : Owner) → P w → Q w → R w) → OfOwners P ms → OfOwners Q ms → OfOwners R ms
unfolding OfOwners
both_owners P Q R [] so all more = tt
both_owners P Q R (m ∷ ms) so all more = (so m.owner all.0 more.0, both_owners P Q R ms so all.1 more.1)

module _ (o : Opening) (script : Script) (run : IsRun o script) (e : Engine) (kept : Kept o script e) (l : Log) (ls : List Log)
    (first : e.store.committed ≡ l ∷ ls) (begun_is : is_begun l.state ≡ true) (empty : l.records ≡ []) where
  abbrev pub n : ℕ
  n = suc e.store.purged

  abbrev pub new : Engine
  new = purged_event e

  pub number_is : l.number ≡ n
  number_is = (subst (AreNumbered e.store.commits e.store.purged) first kept.logs.numbered).0

  pub numbered_rest : AreNumbered e.store.commits n ls
  numbered_rest = (subst (AreNumbered e.store.commits e.store.purged) first kept.logs.numbered).1

  pub rest_is : new.store.committed ≡ ls
  rest_is = ap Rattle.store_model.specs.Steps.all_but_first first

  pub not_begun : AreNotBegun ls
  not_begun = subst IsFirstBegun first kept.logs.first

  pub purging_was : is_purging e.store.committed ≡ true
  purging_was = ap is_purging first ∙ begun_is

  pub floor_was : floor e.store ≡ n
  floor_was = ap (λ (b : Bool). if b then n else e.store.purged) purging_was

  pub floor_now : floor new.store ≡ n
  floor_now = ap (λ (b : Bool). if b then suc n else n) (ap is_purging rest_is ∙ not_begun_first ls not_begun)

  pub among_same : (k x : ℕ) → n ≤ k → store.is_among new.store k x ≡ store.is_among e.store k x
  among_same k x le = log_among k x e.store l ls first (subst (λ (m : ℕ). m ≤ k) (sym number_is) le)

  pub old_same : (x : ℕ) → is_old e.store x ≡ true → is_old new.store x ≡ true
  old_same x old =
      ap (λ (b : Bool). nat_lt x e.store.next_trx && b)
      (ap (λ (k : ℕ). store.is_among new.store k x) floor_now ∙ among_same n x (omega arith) ∙ ap (λ (k : ℕ). store.is_among e.store k x) (sym floor_was))
      ∙ old

  pub distinct : NoLog l.trx ls
  distinct = (subst AreDistinct first (distinct_parts e.store.active e.store.committed kept.consistent.well.logs).1).0

  pub named_as : names_of e (commit n) ≡ Some l.trx
  named_as = ap (λ (ms : List Log). trx_numbered ms n) first ∙ ap (λ (b : Bool). if b then Some l.trx else trx_numbered ls n) (ap (λ (m : ℕ). nat_eq m n) number_is ∙ self_eq n)

  pub found_before : (c x : ℕ) → trx_numbered ls c ≡ Some x → trx_numbered e.store.committed c ≡ Some x
  found_before c x found =
      let more : n < c = numbered_above e.store.commits n c x ls numbered_rest found in
      let other : nat_eq l.number c ≡ false = (let is : l.number ≡ n = number_is in not_eq l.number c (λ same. absurd (less_other more (sym (sym is ∙ same))))) in
      ap (λ (ms : List Log). trx_numbered ms c) first ∙ ap (λ (b : Bool). if b then Some l.trx else trx_numbered ls c) other ∙ found
    where
      less_other : {a b : ℕ} → a < b → b ≡ a → ⊥
      less_other less same = omega (arith, less, same)

  pub found_after : (c x : ℕ) → commit c ≢ commit n → trx_numbered e.store.committed c ≡ Some x → trx_numbered new.store.committed c ≡ Some x
  found_after c x other found =
      let isnt : nat_eq l.number c ≡ false = not_eq l.number c (λ same. other (ap commit (sym same ∙ number_is))) in
      ap (λ (ms : List Log). trx_numbered ms c) rest_is
      ∙ sym (ap (λ (ms : List Log). trx_numbered ms c) first ∙ ap (λ (b : Bool). if b then Some l.trx else trx_numbered ls c) isnt)
      ∙ found

  pub names_same : (w : Owner) (x : ℕ) → w ≢ commit n → names_of e w ≡ Some x → names_of new w ≡ Some x
  names_same (session t) x other has = has
  names_same (commit c) x other has = found_after c x other has

  pub says : (t : ℕ) → SaysSame script t e.journal new.journal
  says t = says_same script t (Purged n ∷ []) e.journal (tt, tt)

  pub same_history : (d : ℕ) → store.history new.store d ≡ store.history e.store d
  same_history d = log_keeps d e.store l ls first empty

  pub logs_kept : AreLogs new.store new.sessions
  logs_kept = record {
    numbered = subst (AreNumbered e.store.commits n) (sym rest_is) numbered_rest;
    first = subst IsFirstBegun (sym rest_is) (later_begun ls not_begun);
    own = λ s x has. ((kept.logs.own s x has).0, ap (stands x) rest_is ∙ (not_first x l ls (ap (stands x) (sym first) ∙ (kept.logs.own s x has).1)).1);
    apart = kept.logs.apart;
    owned = kept.logs.owned;
    commits = λ c x found.
        let there : trx_numbered ls c ≡ Some x = ap (λ (ms : List Log). trx_numbered ms c) (sym rest_is) ∙ found in
        let was = kept.logs.commits c x (found_before c x there) in
        (was.0, λ k. ap (stands_above k x) rest_is ∙ sym (above_rest k x (other_trx x (numbered_stands c x ls there))) ∙ ap (stands_above k x) (sym first) ∙ was.1 k);
    below = λ x stand. kept.logs.below x (elim stand [
      | inl active ↦ inl active
      | inr done ↦ inr (ap (stands x) first ∙ or_true (nat_eq l.trx x) (stands x ls) (ap (stands x) (sym rest_is) ∙ done))
    ]);
  }
    where
      or_true : (a b : Bool) → b ≡ true → (a || b) ≡ true
      or_true true b h = refl
      or_true false b h = h

      other_trx : (x : ℕ) → stands x ls ≡ true → nat_eq l.trx x ≡ false
      other_trx x there = not_eq l.trx x (λ same. true≢false (sym there ∙ ap (λ (m : ℕ). stands m ls) (sym same) ∙ none_stands l.trx ls distinct))

      above_rest : (k x : ℕ) → nat_eq l.trx x ≡ false → stands_above k x (l ∷ ls) ≡ stands_above k x ls
      above_rest k x isnt = ap (λ (b : Bool). (nat_lt k l.number && b) || stands_above k x ls) isnt ∙ by_number (nat_lt k l.number)
        where
          by_number : (c : Bool) → ((c && false) || stands_above k x ls) ≡ stands_above k x ls
          by_number true = refl
          by_number false = refl

  pub none_left : (d : ℕ) → NoneOf l.trx (changes e.store d)
  none_left d = none_join l.trx (active_changes d e.store.active) (committed_changes d e.store.committed)
      (none_active l.trx d e.store.active (kept.logs.commits n l.trx named_as).0)
      (subst (λ (ms : List Log). NoneOf l.trx (committed_changes d ms)) (sym first)
      (none_join l.trx (committed_changes d ls) (changes_among d l.trx l.records) (none_committed l.trx d ls (none_stands l.trx ls distinct))
      (subst (λ (us : List (Address × Record)). NoneOf l.trx (changes_among d l.trx us)) (sym empty) tt)))

  pub from_same : known_from o new.store ≡ known_from o e.store
  from_same = ap (greater o.commits) (floor_now ∙ sym floor_was)

  pub stored_kept : (d : ℕ) → IsStored o script new d
  stored_kept d =
      let st = kept.stored d in
      let k : IsStoredBy (known_from o e.store) script e.journal (history o script e.journal d) (front e d) true n (is_old e.store) (names_of e) (store.history e.store d) =
      subst (λ (b : Bool). IsStoredBy (known_from o e.store) script e.journal (history o script e.journal d) (front e d) b n (is_old e.store) (names_of e) (store.history e.store d)) purging_was st in
      let off : OfOwners (λ w. w ≢ commit n) (k.ahead ++ k.left) =
      none_named (names_of e) (is_old e.store) l.trx (commit n) (k.ahead ++ k.left) (store.history e.store d) named_as (rows_off l.trx [] e.store.lobs (row_before e.store d) (changes e.store d) (kept.consistent.well.chains d) (none_left d)) k.named in
      let after : OfOwners (IsAfter e.store.purged) (history o script e.journal d).changes =
      subst (λ (m : ℕ). OfOwners (IsAfter m) (history o script e.journal d).changes) (sym kept.counts.purged) (after_of o script run e.journal d kept.calm.legal) in
      let left_after = of_parts (IsAfter e.store.purged) k.left k.passed (of_parts (IsAfter e.store.purged) k.gone (k.left ++ k.passed) (subst (OfOwners (IsAfter e.store.purged)) k.changes after)).1 in
      let done : IsStoredBy (known_from o e.store) script new.journal (purged_to n (history o script e.journal d)) (front e d) false (suc n) (is_old new.store) (names_of new) (store.history e.store d) =
      purged_stored script e.journal new.journal (history o script e.journal d) (front e d) n (is_old e.store) (is_old new.store) (names_of e) (names_of new) (known_from o e.store) (store.history e.store d)
      (λ s. under_way_same script s e.journal new.journal (says s)) names_same old_same k off
      (both_owners (IsAfter e.store.purged) (λ w. w ≢ commit n) (λ w. is_among n w ≡ false) k.left (after_commit e.store.purged) left_after.0 (of_parts (λ w. w ≢ commit n) k.ahead k.left off).1) in
      subst (IsStoredBy (known_from o new.store) script new.journal (purged_to n (history o script e.journal d)) (front e d) (is_purging new.store.committed) (suc n) (is_old new.store) (names_of new)) (sym (same_history d))
      (stored_over (known_from o e.store) (known_from o new.store) script new.journal (purged_to n (history o script e.journal d)) (front e d) false (is_purging new.store.committed) (suc n) (suc n)
      (is_old new.store) (is_old new.store) (names_of new) (names_of new) (store.history e.store d) from_same (ap is_purging rest_is ∙ not_begun_first ls not_begun) refl (λ x old. old) (λ w x has. has) done)
