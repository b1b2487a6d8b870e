-- In a history the commits fall, below the changes of the session that hasn't committed, and none of them is purged past.
use Rattle.std.proofs.Common.{◌≡◌, ℕ, ◌+◌, ◌≤◌, Bool, true, false, not, nat_eq, nat_le, cond, List, [], ◌∷◌, map, Option, Some, None, refl, sym, subst, ◌∙◌, arith, if◌then◌else◌}
use Rattle.std.specs.List.{filter}
use Rattle.journal_model.specs.Documents.{Call, call_doc, look, Kept}
use Rattle.journal_model.specs.Held.{Kind}
use Rattle.journal_model.specs.Journal.{Script, statement, Entry, Start, View, Wait, Did, Commit, Undone, Purged, Audited, Restart, Opening}
use Rattle.journal_model.specs.Part.{made, commits_of, purged_of}
use Rattle.journal_model.specs.Legal.{IsLegal}
use Rattle.journal_model.specs.History.{Owner, session, commit, Made, is_sessions, is_committed, is_among, renamed, owned_anew, above, changes_of, history}
use Rattle.history_model.specs.Laws.{AreFalling, IsRun}
use Rattle.history_model.specs.Sound.{OfOwners, IsWithin, IsOver, AreOrdered, IsAfter}
use Rattle.history_model.proofs.OwnerLemmas.{one_owner}
use Rattle.history_model.proofs.SeenLemmas.{has, IsUpTo, not_has, none_renamed, renamed_owners, map_owners, without_owners, above_owners}
use Rattle.history_model.proofs.NumberLemmas.{up_to}
use Rattle.history_model.proofs.OwnedLemmas.{IsOwned, is_owned, each_has}
use Rattle.history_model.proofs.HistoryLemmas.{purged_made}
use Rattle.history_model.proofs.TestLemmas.{pair_owners}

-- ---- the order

over_without : (out : Owner → Bool) (w : Owner) (ms : List Made) → IsOver w ms → IsOver w (filter (λ m. not (out m.owner)) ms)
over_without out (session t) ms h = tt
over_without out (commit c) ms h = without_owners (IsWithin c) out ms h

ordered_without : (out : Owner → Bool) (ms : List Made) → AreOrdered ms → AreOrdered (filter (λ m. not (out m.owner)) ms)
unfolding AreOrdered
ordered_without out [] h = tt
ordered_without out (m ∷ ms) h = by_test (out m.owner) (ordered_without out ms h.1)
  where
    by_test : (x : Bool) → AreOrdered (filter (λ m. not (out m.owner)) ms) → AreOrdered (cond (not x) (m ∷ filter (λ m. not (out m.owner)) ms) (filter (λ m. not (out m.owner)) ms))
    by_test true rest = rest
    by_test false rest = (over_without out m.owner ms h.0, rest)

over_above : (n : ℕ) (w : Owner) (ms : List Made) → IsOver w ms → IsOver w (above n ms)
over_above n (session t) ms h = tt
over_above n (commit c) ms h = above_owners (IsWithin c) n ms h

ordered_above : (n : ℕ) (ms : List Made) → AreOrdered ms → AreOrdered (above n ms)
unfolding AreOrdered
ordered_above n [] h = tt
ordered_above n (m ∷ ms) h = by_test (is_among n m.owner) (ordered_above n ms h.1)
  where
    by_test : (x : Bool) → AreOrdered (above n ms) → AreOrdered (if x then [] else m ∷ above n ms)
    by_test true rest = tt
    by_test false rest = (over_above n m.owner ms h.0, rest)

within_renamed : (c t n : ℕ) (w : Owner) → IsWithin c w → IsWithin c (renamed t n w)
within_renamed c t n (session u) h = absurd h
within_renamed c t n (commit e) h = h

-- all are a session's or commits before the new one
ordered_renamed : (t n : ℕ) (ms : List Made) → OfOwners (λ w. IsWithin n (renamed t n w)) ms → AreOrdered ms → AreOrdered (map (owned_anew t n) ms)
unfolding AreOrdered OfOwners
ordered_renamed t n [] all h = tt
ordered_renamed t n (m ∷ ms) all h = (by_owner m.owner h.0 all.0, ordered_renamed t n ms all.1 h.1)
  where
    by_test : (b : Bool) (u : ℕ) → IsWithin n (if b then commit n else session u) → IsOver (if b then commit n else session u) (map (owned_anew t n) ms)
    by_test true u g = renamed_owners (IsWithin n) t n ms all.1
    by_test false u g = tt

    by_owner : (w : Owner) → IsOver w ms → IsWithin n (renamed t n w) → IsOver (renamed t n w) (map (owned_anew t n) ms)
    by_owner (session u) over g = by_test (nat_eq u t) u g
    by_owner (commit c) over g = renamed_owners (IsWithin c) t n ms (map_owners (IsWithin c) (λ w. IsWithin c (renamed t n w)) (within_renamed c t n) ms over)

-- ---- the opening

opening_within : (p n k d : ℕ) (now : Option Kept) (cs : List (ℕ × ℕ × Kind)) → n ≤ k → AreFalling p n cs → OfOwners (IsWithin k) (changes_of d now cs)
unfolding OfOwners
opening_within p n k d now [] le h = tt
opening_within p n k d now (c ∷ cs) le h =
    let here : c.0 ≤ k = omega (arith, h.1, le) in
    by_test (nat_eq c.1 d) here (opening_within p c.0 k d now cs here h.2)
  where
    by_test : (x : Bool) → c.0 ≤ k → OfOwners (IsWithin k) (changes_of d now cs)
        → OfOwners (IsWithin k) (if x then record { owner = commit c.0; kind = c.2; left = now } ∷ changes_of d now cs else changes_of d now cs)
    by_test true here rest = (here, rest)
    by_test false here rest = rest

opening_ordered : (p n d : ℕ) (now : Option Kept) (cs : List (ℕ × ℕ × Kind)) → AreFalling p n cs → AreOrdered (changes_of d now cs)
unfolding AreOrdered
opening_ordered p n d now [] h = tt
opening_ordered p n d now (c ∷ cs) h = by_test (nat_eq c.1 d) (opening_ordered p c.0 d now cs h.2)
  where
    by_test : (x : Bool) → AreOrdered (changes_of d now cs)
        → AreOrdered (if x then record { owner = commit c.0; kind = c.2; left = now } ∷ changes_of d now cs else changes_of d now cs)
    by_test true rest = (opening_within p c.0 c.0 d now cs (omega arith) h.2, rest)
    by_test false rest = rest

opening_after : (p n d : ℕ) (now : Option Kept) (cs : List (ℕ × ℕ × Kind)) → AreFalling p n cs → OfOwners (IsAfter p) (changes_of d now cs)
unfolding OfOwners
opening_after p n d now [] h = tt
opening_after p n d now (c ∷ cs) h = by_test (nat_eq c.1 d) (opening_after p c.0 d now cs h.2)
  where
    by_test : (x : Bool) → OfOwners (IsAfter p) (changes_of d now cs)
        → OfOwners (IsAfter p) (if x then record { owner = commit c.0; kind = c.2; left = now } ∷ changes_of d now cs else changes_of d now cs)
    by_test true rest = (h.0, rest)
    by_test false rest = rest

-- ---- in a journal

pub record IsInOrder (o : Opening) (script : Script) (past : List Entry) (d : ℕ) : Type 0 where
  -- open changes stand above falling commits
  pub ordered : AreOrdered (history o script past d).changes
  -- no change that is purged past is kept
  pub after : OfOwners (IsAfter (purged_of o past)) (history o script past d).changes

above_after : (n : ℕ) (ms : List Made) → OfOwners (IsAfter n) (above n ms)
unfolding OfOwners
above_after n [] = tt
above_after n (m ∷ ms) = by_test (is_among n m.owner) refl (above_after n ms)
  where
    by_owner : (w : Owner) → is_among n w ≡ false → IsAfter n w
    by_owner (session t) e = tt
    by_owner (commit c) e = let less : nat_le c n ≡ false = e in grind (arith, less)

    by_test : (x : Bool) → is_among n m.owner ≡ x → OfOwners (IsAfter n) (above n ms) → OfOwners (IsAfter n) (if x then [] else m ∷ above n ms)
    by_test true e rest = tt
    by_test false e rest = (by_owner m.owner e, rest)

module _ (o : Opening) (script : Script) (run : IsRun o script) where
  module _ (t n : ℕ) (past : List Entry) (d : ℕ) (legal : IsLegal o script past) (next : n ≡ commits_of o past + 1) (before : IsInOrder o script past d) where
    commit_order : IsInOrder o script (Commit t n ∷ past) d
    commit_order = record { ordered = by_test (has t (history o script past d).changes) refl; after = now_after }
      where
        owned : IsOwned o script past d
        owned = is_owned o script run.numbered past d legal

        alone : has t (history o script past d).changes ≡ true → (u : ℕ) → has u (history o script past d).changes ≡ true → u ≡ t
        alone h u g = one_owner o script past run.numbered legal d u t (sym (owned.owned u) ∙ g) (sym (owned.owned t) ∙ h)

        itself : nat_eq t t ≡ true
        itself = grind arith

        of_commit : (c : ℕ) → IsUpTo (commits_of o past) (commit c) → IsWithin n (commit c)
        of_commit c h = omega (arith, next, h)

        of_session : (u : ℕ) → u ≡ t → IsUpTo (commits_of o past) (session u) → IsWithin n (renamed t n (session u))
        of_session u e h = rw (e, itself) (omega arith)

        applied : (w : Owner) → (IsUpTo (commits_of o past) w → IsWithin n (renamed t n w)) × IsUpTo (commits_of o past) w → IsWithin n (renamed t n w)
        applied w h = h.0 h.1

        all_within : has t (history o script past d).changes ≡ true → OfOwners (λ w. IsWithin n (renamed t n w)) (history o script past d).changes
        all_within h =
            map_owners (λ w. (IsUpTo (commits_of o past) w → IsWithin n (renamed t n w)) × IsUpTo (commits_of o past) w) (λ w. IsWithin n (renamed t n w)) applied (history o script past d).changes
            (pair_owners (λ w. IsUpTo (commits_of o past) w → IsWithin n (renamed t n w)) (IsUpTo (commits_of o past)) (history o script past d).changes
            (each_has (λ w. IsUpTo (commits_of o past) w → IsWithin n (renamed t n w)) of_commit (history o script past d).changes (λ u g. of_session u (alone h u g)))
            (up_to o script run.falling past d legal))

        by_test : (b : Bool) → has t (history o script past d).changes ≡ b → AreOrdered (map (owned_anew t n) (history o script past d).changes)
        by_test true h = ordered_renamed t n (history o script past d).changes (all_within h) before.ordered
        by_test false h = subst AreOrdered (sym (none_renamed t n (history o script past d).changes (not_has t (history o script past d).changes h))) before.ordered

        few : purged_of o past ≤ commits_of o past
        few = purged_made o script run.numbered run.falling run.made past legal

        new_after : (b : Bool) (u : ℕ) → IsAfter (purged_of o past) (if b then commit n else session u)
        new_after true u = omega (arith, next, few)
        new_after false u = tt

        renamed_after : (w : Owner) → IsAfter (purged_of o past) w → IsAfter (purged_of o past) (renamed t n w)
        renamed_after (session u) h = new_after (nat_eq u t) u
        renamed_after (commit c) h = h

        now_after : OfOwners (IsAfter (purged_of o past)) (map (owned_anew t n) (history o script past d).changes)
        now_after = renamed_owners (IsAfter (purged_of o past)) t n (history o script past d).changes
            (map_owners (IsAfter (purged_of o past)) (λ w. IsAfter (purged_of o past) (renamed t n w)) renamed_after (history o script past d).changes before.after)

  -- both, in a legal journal
  pub in_order : (past : List Entry) (d : ℕ) → IsLegal o script past → IsInOrder o script past d
  unfolding AreOrdered OfOwners
  in_order [] d legal = record {
    ordered = opening_ordered o.purged o.commits d (look o.documents d) o.changes run.falling;
    after = opening_after o.purged o.commits d (look o.documents d) o.changes run.falling;
  }
  in_order (Start t i ∷ past) d legal = let b = in_order past d legal.0 in record { ordered = b.ordered; after = b.after }
  in_order (View t k ∷ past) d legal = let b = in_order past d legal.0 in record { ordered = b.ordered; after = b.after }
  in_order (Wait t e g ∷ past) d legal = let b = in_order past d legal.0 in record { ordered = b.ordered; after = b.after }
  in_order (Audited a ∷ past) d legal = let b = in_order past d legal.0 in record { ordered = b.ordered; after = b.after }
  in_order (Did t i r ∷ past) d legal = by_made (made (statement script t i) r) refl (in_order past d legal.0)
    where
      by_doc : (c : Call) (b : Bool) → made (statement script t i) r ≡ Some c → nat_eq (call_doc c) d ≡ b → IsInOrder o script past d → IsInOrder o script (Did t i r ∷ past) d
      by_doc c true e f before = record { ordered = rw (e, f) (tt, before.ordered); after = rw (e, f) (tt, before.after) }
      by_doc c false e f before = record { ordered = rw (e, f) before.ordered; after = rw (e, f) before.after }

      by_made : (m : Option Call) → made (statement script t i) r ≡ m → IsInOrder o script past d → IsInOrder o script (Did t i r ∷ past) d
      by_made None e before = record { ordered = rw e before.ordered; after = rw e before.after }
      by_made (Some c) e before = by_doc c (nat_eq (call_doc c) d) e refl before
  in_order (Commit t n ∷ past) d legal = commit_order t n past d legal.0 legal.1.1.0 (in_order past d legal.0)
  in_order (Undone t u ∷ past) d legal =
      let b = in_order past d legal.0 in
      record { ordered = ordered_without (is_sessions t) (history o script past d).changes b.ordered; after = without_owners (IsAfter (purged_of o past)) (is_sessions t) (history o script past d).changes b.after }
  in_order (Restart k ∷ past) d legal =
      let b = in_order past d legal.0 in
      record {
        ordered = ordered_without (λ w. not (is_committed w)) (history o script past d).changes b.ordered;
        after = without_owners (IsAfter (purged_of o past)) (λ w. not (is_committed w)) (history o script past d).changes b.after;
      }
  in_order (Purged n ∷ past) d legal =
      let b = in_order past d legal.0 in
      record { ordered = ordered_above n (history o script past d).changes b.ordered; after = above_after n (history o script past d).changes }

-- the first of them
pub ordered_of : (o : Opening) (script : Script) → IsRun o script → (past : List Entry) (d : ℕ) → IsLegal o script past → AreOrdered (history o script past d).changes
ordered_of o script run past d legal = (in_order o script run past d legal).ordered

-- the second
pub after_of : (o : Opening) (script : Script) → IsRun o script → (past : List Entry) (d : ℕ) → IsLegal o script past → OfOwners (IsAfter (purged_of o past)) (history o script past d).changes
after_of o script run past d legal = (in_order o script run past d legal).after
