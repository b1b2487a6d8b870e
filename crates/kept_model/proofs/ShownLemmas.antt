-- What the store shows under a number of commits, and to a view, is what the journal says.
use Rattle.std.proofs.Common.{◌≡◌, ℕ, suc, ◌≤◌, ◌<◌, Bool, true, false, true≢false, not, ◌&&◌, nat_eq, nat_lt, nat_le, List, [], ◌∷◌, ◌++◌, Option, Some, refl, sym, ap, ap₂, subst, ◌∙◌, arith, if◌then◌else◌}
use Rattle.journal_model.specs.Documents.{Kept as Stored, look}
use Rattle.journal_model.specs.Journal.{Script, Entry, Opening}
use Rattle.journal_model.specs.Part.{purged_of, docs}
use Rattle.journal_model.specs.Held.{greater}
use Rattle.journal_model.specs.History.{Owner, session, commit, Made, History, is_sessions, is_among, seen_in, at_commit, newest_in, one_made, history}
use Rattle.journal_model.specs.Versions.{is_commits}
use Rattle.history_model.specs.Laws.{IsRun}
use Rattle.history_model.proofs.HistoryLemmas.{reads_at}
use Rattle.store_model.specs.History.{Past, seen, stands, stands_above, under}
use Rattle.store_model.specs.History as store
use Rattle.kept_model.specs.Engine.{Engine}
use Rattle.kept_model.specs.Names.{names, names_of, floor, is_old, is_purging}
use Rattle.kept_model.specs.Rows.{bytes_of, AreNamed, AreKnown, AreKnownBehind, AreKnownOut, base_behind}
use Rattle.kept_model.specs.Stored.{Front, whole, begun, undone, IsAhead, ArePassed, AreShown, known_from, front}
use Rattle.kept_model.specs.Kept.{Kept}
use Rattle.kept_model.proofs.RowLemmas.{seen_known}
use Rattle.kept_model.proofs.PassedLemmas.{none_seen, undone_open}
use Rattle.kept_model.proofs.UndoRows.{among_more}

-- ---- the rows of one document

-- a row that isn't seen is skipped, whatever it shows
seen_behind : (names : Owner → Option ℕ) (old : ℕ → Bool) (first : ℕ) (f : ℕ → Bool) (g : Owner → Bool) (base : Option Stored) (m : Made) (ms : List Made) (ps : List Past)
    → ((w : Owner) (x : ℕ) → names w ≡ Some x → f x ≡ g w) → ((x : ℕ) → old x ≡ true → f x ≡ true) → ((w : Owner) → is_among first w ≡ true → g w ≡ true)
    → g m.owner ≡ false → is_among first m.owner ≡ false
    → AreNamed names old (m ∷ ms) ps → AreKnownBehind first base (m ∷ ms) ps → seen f ps ≡ bytes_of (seen_in g (m ∷ ms) base)
seen_behind names old first f g base m ms [] same oldest most unseen late named known = absurd named
seen_behind names old first f g base m ms (p ∷ ps) same oldest most unseen late named known =
    ap (λ (b : Bool). if b then p.bytes else seen f ps) (same m.owner p.trx named.0 ∙ unseen)
    ∙ seen_known names old first f g base ms ps same oldest most named.1 (known late)
    ∙ sym (ap (λ (b : Bool). bytes_of (if b then m.left else seen_in g ms base)) unseen)

module _ (script : Script) (past : List Entry) (h : History) (names : Owner → Option ℕ) (old : ℕ → Bool) (first k : ℕ) (f : ℕ → Bool) (base : Option Stored)
    (same : (w : Owner) (x : ℕ) → names w ≡ Some x → f x ≡ is_among k w) (oldest : (x : ℕ) → old x ≡ true → f x ≡ true) (most : (w : Owner) → is_among first w ≡ true → is_among k w ≡ true) where
  seen_front : (fr : Front) (ahead left : List Made) (ps : List Past) → IsAhead script past h fr ahead → AreNamed names old (ahead ++ left) ps → AreShown fr first base (ahead ++ left) ps
      → seen f ps ≡ bytes_of (seen_in (is_among k) left base)
  seen_front whole ahead left ps is named known =
      seen_known names old first f (is_among k) base left ps same oldest most
      (subst (λ (a : List Made). AreNamed names old (a ++ left) ps) is named) (subst (λ (a : List Made). AreKnown first base (a ++ left) ps) is known)
  seen_front (begun t) ahead left ps is named known =
      seen_behind names old first f (is_among k) base (one_made t is.0 (newest_in t h)) left ps same oldest most refl refl
      (subst (λ (a : List Made). AreNamed names old (a ++ left) ps) is.2 named) (subst (λ (a : List Made). AreKnownBehind first base (a ++ left) ps) is.2 known)
  seen_front (undone t) ahead left ps is named known =
      by_left left (subst (λ (a : List Made). AreNamed names old (a ++ left) ps) is named) (subst (λ (a : List Made). AreKnownOut t first base (a ++ left) ps) is known)
    where
      by_owner : (m : Made) (ms : List Made) (w : Owner) → m.owner ≡ w → AreNamed names old (m ∷ ms) ps → AreKnownOut t first base (m ∷ ms) ps → seen f ps ≡ bytes_of (seen_in (is_among k) (m ∷ ms) base)
      by_owner m ms (commit c) e named known = seen_known names old first f (is_among k) base (m ∷ ms) ps same oldest most named (known.0 (ap (is_sessions t) e))
      by_owner m ms (session u) e named known = seen_behind names old first f (is_among k) base m ms ps same oldest most (ap (is_among k) e) (ap (is_among first) e) named known.1

      by_left : (left : List Made) → AreNamed names old left ps → AreKnownOut t first base left ps → seen f ps ≡ bytes_of (seen_in (is_among k) left base)
      by_left [] named known = seen_known names old first f (is_among k) base [] ps same oldest most named known
      by_left (m ∷ ms) named known = by_owner m ms m.owner refl named known

-- changes that are purged in the store alone are among the commits
passed_below : (b : Bool) (n k : ℕ) (left ms : List Made) (base : Option Stored) → ArePassed b n ms → (b ≡ true → n ≤ k) → seen_in (is_among k) (left ++ ms) base ≡ seen_in (is_among k) left (base_behind ms base)
passed_below b n k [] [] base all le = refl
passed_below true n k [] (m ∷ ms) base all le = ap (λ (c : Bool). if c then m.left else seen_in (is_among k) ms base) (among m.owner all.0)
  where
    among : (w : Owner) → is_commits n w ≡ true → is_among k w ≡ true
    among (session t) is = absurd (true≢false (sym is))
    among (commit c) is = let same : nat_eq c n ≡ true = is in let up : n ≤ k = le refl in let low : nat_le c k ≡ true = grind (arith, same, up) in low
passed_below false n k [] (m ∷ ms) base all le = absurd (cc all)
passed_below b n k (x ∷ xs) ms base all le = ap (λ (o : Option Stored). if is_among k x.owner then x.left else o) (passed_below b n k xs ms base all le)

-- ---- under a number of commits

greater_first : (a b k : ℕ) → greater a b ≤ k → (a ≤ k) × (b ≤ k)
greater_first a b k le = by_test (nat_lt a b) refl le
  where
    by_test : (c : Bool) → nat_lt a b ≡ c → (if c then b else a) ≤ k → (a ≤ k) × (b ≤ k)
    by_test true e h = ((let less : a < b = grind (arith, e) in omega (arith, less, h)), h)
    by_test false e h = (h, (let less : b ≤ a = grind (arith, e) in omega (arith, less, h)))

module _ (o : Opening) (script : Script) (e : Engine) (kept : Kept o script e) (k : ℕ) (from : known_from o e.store ≤ k) where
  pub named_seen : (w : Owner) (x : ℕ) → names_of e w ≡ Some x → store.is_among e.store k x ≡ is_among k w
  named_seen (session t) x has = ap (λ (b : Bool). not b && not (stands_above k x e.store.committed)) (kept.logs.own t x has).0
  named_seen (commit c) x has =
      let l = kept.logs.commits c x has in
      ap₂ (λ (a b : Bool). not a && not b) l.0 (l.1 k) ∙ turned (nat_lt k c) (nat_le c k) refl refl
    where
      turned : (a b : Bool) → nat_lt k c ≡ a → nat_le c k ≡ b → not a ≡ b
      turned true true g h = absurd (both g h)
        where
          both : nat_lt k c ≡ true → nat_le c k ≡ true → ⊥
          both g h = grind (arith, g, h)
      turned true false g h = refl
      turned false true g h = refl
      turned false false g h = absurd (none g h)
        where
          none : nat_lt k c ≡ false → nat_le c k ≡ false → ⊥
          none g h = grind (arith, g, h)

  old_seen : (x : ℕ) → is_old e.store x ≡ true → store.is_among e.store k x ≡ true
  old_seen x old = among_more e.store (floor e.store) k x (greater_first o.commits (floor e.store) k from).1 (by_test (nat_lt x e.store.next_trx) old)
    where
      by_test : (b : Bool) → (b && store.is_among e.store (floor e.store) x) ≡ true → store.is_among e.store (floor e.store) x ≡ true
      by_test true g = g
      by_test false g = absurd (true≢false (sym g))

  pub most_seen : (w : Owner) → is_among (known_from o e.store) w ≡ true → is_among k w ≡ true
  most_seen (session t) h = h
  most_seen (commit c) h = let low : nat_le c (known_from o e.store) ≡ true = h in let up : nat_le c k ≡ true = grind (arith, low, from) in up

  passing_low : is_purging e.store.committed ≡ true → suc e.store.purged ≤ k
  passing_low is = subst (λ (b : Bool). (if b then suc e.store.purged else e.store.purged) ≤ k) is (greater_first o.commits (floor e.store) k from).1

  -- each document under them is the first change in the journal's history that is among them
  pub under_is : (d : ℕ) → under e.store d k ≡ bytes_of (at_commit k (history o script e.journal d))
  under_is d =
      let st = kept.stored d in
      seen_front script e.journal (history o script e.journal d) (names_of e) (is_old e.store) (known_from o e.store) k (store.is_among e.store k) (base_behind st.passed (history o script e.journal d).base)
      named_seen old_seen most_seen (front e d) st.ahead st.left (store.history e.store d) st.is_ahead st.named st.known
      ∙ ap bytes_of (sym
      (ap (λ (ms : List Made). seen_in (is_among k) ms (history o script e.journal d).base) st.changes
      ∙ none_seen k st.gone (st.left ++ st.passed) (history o script e.journal d).base (undone_open k (front e d) st.gone st.are_undone)
      ∙ passed_below (is_purging e.store.committed) (suc e.store.purged) k st.left st.passed (history o script e.journal d).base st.are_passed passing_low))

  -- so it is the stored document behind them
  pub under_is_stored : IsRun o script → (d : ℕ) → under e.store d k ≡ bytes_of (look (docs o script e.journal k) d)
  under_is_stored run d =
      let low : floor e.store ≤ k = (greater_first o.commits (floor e.store) k from).1 in
      under_is d ∙ ap bytes_of (sym (reads_at o script e.journal run kept.calm.legal k d (purged_low low)))
    where
      purged_low : floor e.store ≤ k → purged_of o e.journal ≤ k
      purged_low low = subst (λ (n : ℕ). n ≤ k) kept.counts.purged (by_begun (is_purging e.store.committed) low)
        where
          by_begun : (b : Bool) → (if b then suc e.store.purged else e.store.purged) ≤ k → e.store.purged ≤ k
          by_begun true h = omega (arith, h)
          by_begun false h = h
