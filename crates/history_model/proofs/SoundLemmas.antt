-- In a history of a legal journal each change fits what stands below it.
use Rattle.std.proofs.Common.{◌≡◌, ◌≢◌, ℕ, ◌≤◌, Bool, true, false, true≢false, not, nat_eq, nat_le, List, [], ◌∷◌, ◌++◌, Option, Some, None, is_some, IfSome, refl, sym, ap, subst, ◌∙◌, arith, if◌then◌else◌, ◌||◌}
use Rattle.journal_model.specs.Documents.{Call, call_doc, look, Kept}
use Rattle.journal_model.specs.Held.{HeldLob}
use Rattle.journal_model.specs.Journal.{Script, statement, call, Reply, restarted, Entry, Start, View, Wait, Did, Commit, Undone, Purged, Audited, Restart, Opening}
use Rattle.journal_model.specs.Part.{is_ok_reply, made, own, touches, newest}
use Rattle.journal_model.specs.Legal.{IsLegal, Answer, CallAnswer}
use Rattle.journal_model.specs.History.{Owner, session, commit, Made, with_call, pushed, is_sessions, is_committed, is_among, is_newest_for, newest_in, seen_in, above, lob_at, lob_behind, history}
use Rattle.history_model.specs.Laws.{IsRun}
use Rattle.history_model.specs.Sound.{OfOwners, IsWithin, IsOver, AreOrdered, IsFitting, lob_behind_all, AreFitting, AreSingle, IsSound, IsFirst}
use Rattle.history_model.proofs.OutsideLemmas.{answered_as}
use Rattle.history_model.proofs.LockLemmas.{eq_is}
use Rattle.history_model.proofs.OwnLemmas.{did_made, did_other}
use Rattle.history_model.proofs.DocLemmas.{touches_more}
use Rattle.history_model.proofs.OwnerLemmas.{made_as, one_owner}
use Rattle.history_model.proofs.SeenLemmas.{has, not_has, map_owners}
use Rattle.history_model.proofs.OwnedLemmas.{IsOwned, is_owned, each_has}
use Rattle.history_model.proofs.HistoryLemmas.{reads_own}
use Rattle.history_model.proofs.OrderLemmas.{in_order}
use Rattle.history_model.proofs.LobLemmas.{single_behind_all}
use Rattle.history_model.proofs.MadeLemmas.{top_left, Stands, fit_top, kind_fits, left_fits, newest_top, stands, table_of}
use Rattle.history_model.proofs.UndoneLemmas.{TopOnly, all_stay, fitting_renamed, fitting_without, top_only}

-- ---- purged: those that go stand at the end

-- the changes from the first among the commits up to n on
unfoldable pub below : ℕ → List Made → List Made
below n [] = []
below n (m ∷ ms) = if is_among n m.owner then m ∷ ms else below n ms

-- they are the rest behind those above it
pub cut : (n : ℕ) (ms : List Made) → ms ≡ above n ms ++ below n ms
unfolding below
cut n [] = refl
cut n (m ∷ ms) = by_test (is_among n m.owner) (cut n ms)
  where
    by_test : (x : Bool) → ms ≡ above n ms ++ below n ms → m ∷ ms ≡ (if x then [] else m ∷ above n ms) ++ (if x then m ∷ ms else below n ms)
    by_test true e = refl
    by_test false e = ap (λ x. m ∷ x) e

-- a view of n commits sees what the first of them left
pub seen_below : (n : ℕ) (ms : List Made) (base : Option Kept) → seen_in (is_among n) ms base ≡ top_left (below n ms) base
unfolding below top_left
seen_below n [] base = refl
seen_below n (m ∷ ms) base = by_test (is_among n m.owner) (seen_below n ms base)
  where
    by_test : (x : Bool) → seen_in (is_among n) ms base ≡ top_left (below n ms) base → (if x then m.left else seen_in (is_among n) ms base) ≡ top_left (if x then m ∷ ms else below n ms) base
    by_test true e = refl
    by_test false e = e

within_among : (n c : ℕ) → c ≤ n → (ms : List Made) → OfOwners (IsWithin c) ms → OfOwners (λ w. is_among n w ≡ true) ms
within_among n c le ms h = map_owners (IsWithin c) (λ w. is_among n w ≡ true) one ms h
  where
    one : (w : Owner) → IsWithin c w → is_among n w ≡ true
    one (session u) k = absurd k
    one (commit e) k = let less : nat_le e n ≡ true = grind (arith, le, k) in less

-- below the first that is purged all are
pub below_among : (n : ℕ) (m : Made) (ms : List Made) → is_among n m.owner ≡ true → IsOver m.owner ms → OfOwners (λ w. is_among n w ≡ true) ms
below_among n m ms e over = by_owner m.owner e over
  where
    by_owner : (w : Owner) → is_among n w ≡ true → IsOver w ms → OfOwners (λ w. is_among n w ≡ true) ms
    by_owner (session u) f g = absurd (true≢false (sym f))
    by_owner (commit c) f g = let less : nat_le c n ≡ true = f in within_among n c (grind (arith, less)) ms g

lob_all : (n : ℕ) (ms : List Made) (l : Option HeldLob) → OfOwners (λ w. is_among n w ≡ true) ms → lob_at n ms l ≡ lob_behind_all ms l
unfolding OfOwners
lob_all n [] l h = refl
lob_all n (m ∷ ms) l h = rw h.0 (ap (lob_behind m.kind) (lob_all n ms l h.1))

-- the LOB there is that behind them
pub lob_below_is : (n : ℕ) (ms : List Made) (l : Option HeldLob) → AreOrdered ms → lob_at n ms l ≡ lob_behind_all (below n ms) l
unfolding below AreOrdered
lob_below_is n [] l h = refl
lob_below_is n (m ∷ ms) l h = by_test (is_among n m.owner) refl (lob_below_is n ms l h.1)
  where
    by_test : (x : Bool) → is_among n m.owner ≡ x → lob_at n ms l ≡ lob_behind_all (below n ms) l
        → (if x then lob_behind m.kind (lob_at n ms l) else lob_at n ms l) ≡ lob_behind_all (if x then m ∷ ms else below n ms) l
    by_test true e rest = ap (lob_behind m.kind) (lob_all n ms l (below_among n m ms e h.0))
    by_test false e rest = rest

-- the LOB behind changes in two parts
pub behind_append : (us low : List Made) (l : Option HeldLob) → lob_behind_all (us ++ low) l ≡ lob_behind_all us (lob_behind_all low l)
behind_append [] low l = refl
behind_append (m ∷ us) low l = ap (lob_behind m.kind) (behind_append us low l)

upper_fits : (us low : List Made) (l : Option HeldLob) → AreFitting l (us ++ low) → AreFitting (lob_behind_all low l) us
unfolding AreFitting
upper_fits [] low l h = tt
upper_fits (m ∷ us) low l h = (subst (IsFitting m.kind) (behind_append us low l) h.0, h.1 ∙ ap (λ x. is_some (lob_behind m.kind x)) (behind_append us low l), upper_fits us low l h.2)

-- lower changes fit by themselves
pub lower_fits : (us low : List Made) (l : Option HeldLob) → AreFitting l (us ++ low) → AreFitting l low
unfolding AreFitting
lower_fits [] low l h = h
lower_fits (m ∷ us) low l h = lower_fits us low l h.2

-- ---- in a journal

module _ (o : Opening) (script : Script) (run : IsRun o script) (first : IsFirst o) where
  module _ (t i : ℕ) (r : Reply) (past : List Entry) (d : ℕ) (legal : IsLegal o script (Did t i r ∷ past)) (before : IsSound (history o script past d)) where
    -- all in the history are the session's or committed
    pub its_own : (c : Call) → made (statement script t i) r ≡ Some c → nat_eq (call_doc c) d ≡ true → (u : ℕ) → has u (history o script past d).changes ≡ true → u ≡ t
    its_own c e f u h = by_test (nat_eq t u) refl
      where
        now_own : touches d (own script t (Did t i r ∷ past)) ≡ true
        now_own = ap (touches d) (did_made script t i r past c e) ∙ touches_more d (own script t past) c ∙ ap (λ x. x || touches d (own script t past)) f

        owned : touches d (own script u past) ≡ true
        owned = sym ((is_owned o script run.numbered past d legal.0).owned u) ∙ h

        by_test : (b : Bool) → nat_eq t u ≡ b → u ≡ t
        by_test true g = sym (eq_is t u g)
        by_test false g =
            one_owner o script (Did t i r ∷ past) run.numbered legal d u t (ap (touches d) (did_other script u past t i r g).own_stays ∙ owned) now_own

    made_sound : (c : Call) → made (statement script t i) r ≡ Some c → nat_eq (call_doc c) d ≡ true → IsSound (pushed t c (history o script past d))
    unfolding AreFitting
    made_sound c e f = record { stands = before.stands; fitting = (kind_fits c top below_lob its_stand same_some, left_fits c top below_lob its_stand same_some, before.fitting); single = before.single }
      where
        top : Option Kept
        top = newest_in t (history o script past d)

        below_lob : Option HeldLob
        below_lob = lob_behind_all (history o script past d).changes (history o script past d).lob

        one : call_doc c ≡ d
        one = eq_is (call_doc c) d f

        as_call : statement script t i ≡ Some (call c)
        as_call = (made_as (statement script t i) r c e).0

        good : is_ok_reply r ≡ true
        good = (made_as (statement script t i) r c e).1

        not_restart : r ≢ restarted
        not_restart g = true≢false (sym good ∙ ap is_ok_reply g)

        answer : CallAnswer o script t c r past
        answer = subst (λ x. IfSome x (λ st. Answer o script t st r past)) as_call (answered_as o script t i r past not_restart legal.1.1.1)

        now_stands : Stands c (look (newest o script t past) (call_doc c))
        now_stands = stands c (newest o script t past) (ap is_ok_reply (sym (table_of o script t c r past good answer)) ∙ good)

        its_stand : Stands c (newest_in t (history o script past d))
        its_stand = subst (Stands c) (ap (look (newest o script t past)) one ∙ reads_own o script past run legal.0 t d) now_stands

        itself : (u : ℕ) → u ≡ t → is_newest_for t (session u) ≡ true
        itself u g = grind (arith, g)

        on_top : newest_in t (history o script past d) ≡ top_left (history o script past d).changes (history o script past d).base
        on_top = newest_top t (history o script past d).changes (history o script past d).base
            (each_has (λ w. is_newest_for t w ≡ true) (λ x. refl) (history o script past d).changes (λ u h. itself u (its_own c e f u h)))

        same_some : is_some (newest_in t (history o script past d)) ≡ is_some (lob_behind_all (history o script past d).changes (history o script past d).lob)
        same_some = ap is_some on_top ∙ fit_top (history o script past d).lob (history o script past d).changes (history o script past d).base before.stands before.fitting

  -- those that go with an undo
  pub undone_top : (t : ℕ) (past : List Entry) (d : ℕ) → IsLegal o script past → TopOnly (is_sessions t) (history o script past d).changes
  undone_top t past d legal = by_test (has t (history o script past d).changes) refl
    where
      owned : IsOwned o script past d
      owned = is_owned o script run.numbered past d legal

      alone : has t (history o script past d).changes ≡ true → (u : ℕ) → has u (history o script past d).changes ≡ true → u ≡ t
      alone h u g = one_owner o script past run.numbered legal d u t (sym (owned.owned u) ∙ g) (sym (owned.owned t) ∙ h)

      itself : (u : ℕ) → u ≡ t → is_sessions t (session u) ≡ true
      itself u g = grind (arith, g)

      by_test : (b : Bool) → has t (history o script past d).changes ≡ b → TopOnly (is_sessions t) (history o script past d).changes
      by_test true h =
          top_only (is_sessions t) (history o script past d).changes
          (each_has (λ w. is_sessions t w ≡ not (is_committed w)) (λ c. refl) (history o script past d).changes (λ u g. itself u (alone h u g)))
          (in_order o script run past d legal).ordered
      by_test false h = all_stay (is_sessions t) (history o script past d).changes (not_has t (history o script past d).changes h)

  -- open changes stand on top
  pub restart_top : (past : List Entry) (d : ℕ) → IsLegal o script past → TopOnly (λ w. not (is_committed w)) (history o script past d).changes
  restart_top past d legal =
      top_only (λ w. not (is_committed w)) (history o script past d).changes
      (each_has (λ w. not (is_committed w) ≡ not (is_committed w)) (λ c. refl) (history o script past d).changes (λ u g. refl)) (in_order o script run past d legal).ordered

  -- in a legal journal each history is sound
  pub is_sound : (past : List Entry) (d : ℕ) → IsLegal o script past → IsSound (history o script past d)
  is_sound [] d legal = first.sound d
  is_sound (Start t i ∷ past) d legal = is_sound past d legal.0
  is_sound (View t k ∷ past) d legal = is_sound past d legal.0
  is_sound (Wait t e g ∷ past) d legal = is_sound past d legal.0
  is_sound (Audited a ∷ past) d legal = is_sound past d legal.0
  is_sound (Did t i r ∷ past) d legal = by_made (made (statement script t i) r) refl (is_sound past d legal.0)
    where
      by_doc : (c : Call) (b : Bool) → made (statement script t i) r ≡ Some c → nat_eq (call_doc c) d ≡ b → IsSound (history o script past d)
          → IsSound (if b then pushed t c (history o script past d) else history o script past d)
      by_doc c true e f before = made_sound t i r past d legal before c e f
      by_doc c false e f before = before

      by_made : (m : Option Call) → made (statement script t i) r ≡ m → IsSound (history o script past d) → IsSound (with_call d t m (history o script past d))
      by_made None e before = before
      by_made (Some c) e before = by_doc c (nat_eq (call_doc c) d) e refl before
  is_sound (Commit t n ∷ past) d legal =
      let b = is_sound past d legal.0 in
      record { stands = b.stands; fitting = fitting_renamed t n (history o script past d).changes (history o script past d).lob b.fitting; single = b.single }
  is_sound (Undone t u ∷ past) d legal =
      let b = is_sound past d legal.0 in
      record { stands = b.stands; fitting = fitting_without (is_sessions t) (history o script past d).changes (history o script past d).lob (undone_top t past d legal.0) b.fitting; single = b.single }
  is_sound (Restart k ∷ past) d legal =
      let b = is_sound past d legal.0 in
      record { stands = b.stands; fitting = fitting_without (λ w. not (is_committed w)) (history o script past d).changes (history o script past d).lob (restart_top past d legal.0) b.fitting; single = b.single }
  is_sound (Purged n ∷ past) d legal =
      let b = is_sound past d legal.0 in
      let low : lob_at n (history o script past d).changes (history o script past d).lob ≡ lob_behind_all (below n (history o script past d).changes) (history o script past d).lob =
      lob_below_is n (history o script past d).changes (history o script past d).lob (in_order o script run past d legal.0).ordered in
      let whole : AreFitting (history o script past d).lob (above n (history o script past d).changes ++ below n (history o script past d).changes) =
      subst (AreFitting (history o script past d).lob) (cut n (history o script past d).changes) b.fitting in
      record {
        stands = ap is_some (seen_below n (history o script past d).changes (history o script past d).base)
            ∙ fit_top (history o script past d).lob (below n (history o script past d).changes) (history o script past d).base b.stands
            (lower_fits (above n (history o script past d).changes) (below n (history o script past d).changes) (history o script past d).lob whole)
            ∙ ap is_some (sym low);
        fitting = subst (λ x. AreFitting x (above n (history o script past d).changes)) (sym low)
            (upper_fits (above n (history o script past d).changes) (below n (history o script past d).changes) (history o script past d).lob whole);
        single = subst (λ x. IfSome x (λ l. AreSingle l.pieces)) (sym low) (single_behind_all (below n (history o script past d).changes) (history o script past d).lob b.single);
      }
