-- The versions that are held, step by step along a journal, are those of the histories.
use Rattle.std.proofs.Common.{◌≡◌, ℕ, ◌+◌, ◌-◌, Bool, true, false, not, nat_eq, nat_le, cond, List, [], ◌∷◌, ◌++◌, Option, Some, None, option_to_list, refl, sym, ap, subst, ◌∙◌, arith, if◌then◌else◌}
use Rattle.std.specs.List.{filter}
use Rattle.journal_model.specs.Documents.{Call, call_doc}
use Rattle.journal_model.specs.Held.{HeldLob, add, add_all, take_all_back, drop_all_old}
use Rattle.journal_model.specs.Journal.{Script, statement, Entry, Start, View, Wait, Did, Commit, Undone, Purged, Audited, Restart, Opening}
use Rattle.journal_model.specs.Part.{made, purged_of}
use Rattle.journal_model.specs.Legal.{IsLegal}
use Rattle.journal_model.specs.History.{Owner, session, commit, Made, with_call, pushed, kind_of, newest_in, is_sessions, is_committed, is_among, above, kinds, history}
use Rattle.journal_model.specs.Versions.{held, lobs_of, with_lobs, is_commits}
use Rattle.history_model.specs.Laws.{IsRun}
use Rattle.history_model.specs.Sound.{OfOwners, AreOrdered, IsAfter, AreFitting, IsFirst}
use Rattle.history_model.proofs.OrderLemmas.{in_order}
use Rattle.history_model.proofs.LobLemmas.{all_purged}
use Rattle.history_model.proofs.SoundLemmas.{below, below_among, cut, lob_below_is, lower_fits, undone_top, restart_top, is_sound}
use Rattle.history_model.proofs.UndoneLemmas.{kinds_renamed, back_without}

-- with commits from n on, those of the commit n are those up to it
of_commit : (n : ℕ) (w : Owner) → IsAfter (n - 1) w → is_among n w ≡ is_commits n w
of_commit n (session t) h = refl
of_commit n (commit c) h = let same : nat_le c n ≡ nat_eq c n = grind (arith, h) in same

all_commits : (n : ℕ) (ms : List Made) → OfOwners (λ w. is_among n w ≡ true) ms → OfOwners (IsAfter (n - 1)) ms → filter (λ m. is_commits n m.owner) ms ≡ ms
unfolding OfOwners
all_commits n [] h g = refl
all_commits n (m ∷ ms) h g = rw (sym (of_commit n m.owner g.0) ∙ h.0) (ap (λ x. m ∷ x) (all_commits n ms h.1 g.1))

its_commits : (n : ℕ) (ms : List Made) → AreOrdered ms → OfOwners (IsAfter (n - 1)) ms → filter (λ m. is_commits n m.owner) ms ≡ below n ms
unfolding OfOwners AreOrdered below
its_commits n [] h g = refl
its_commits n (m ∷ ms) h g = by_test (is_among n m.owner) refl (its_commits n ms h.1 g.1)
  where
    by_test : (x : Bool) → is_among n m.owner ≡ x → filter (λ m. is_commits n m.owner) ms ≡ below n ms
        → cond (is_commits n m.owner) (m ∷ filter (λ m. is_commits n m.owner) ms) (filter (λ m. is_commits n m.owner) ms) ≡ (if x then m ∷ ms else below n ms)
    by_test true e rest = rw (sym (of_commit n m.owner g.0) ∙ e) (ap (λ x. m ∷ x) (all_commits n ms (below_among n m ms e h.0) g.1))
    by_test false e rest = rw (sym (of_commit n m.owner g.0) ∙ e) rest

kinds_append : (us low : List Made) → kinds (us ++ low) ≡ kinds us ++ kinds low
kinds_append [] low = refl
kinds_append (m ∷ us) low = ap (λ x. m.kind ∷ x) (kinds_append us low)

added_append : (us low : List Made) (lobs : List HeldLob) → add_all (kinds (us ++ low)) lobs ≡ add_all (kinds us) (add_all (kinds low) lobs)
added_append [] low lobs = refl
added_append (m ∷ us) low lobs = ap (add m.kind) (added_append us low lobs)

module _ (o : Opening) (script : Script) (run : IsRun o script) (first : IsFirst o) where
  -- the LOBs held are those of the document's history
  pub held_is : (past : List Entry) (d : ℕ) → IsLegal o script past → held o script past d ≡ lobs_of (history o script past d)
  held_is [] d legal = first.lobs d
  held_is (Start t i ∷ past) d legal = held_is past d legal.0
  held_is (View t k ∷ past) d legal = held_is past d legal.0
  held_is (Wait t e g ∷ past) d legal = held_is past d legal.0
  held_is (Audited a ∷ past) d legal = held_is past d legal.0
  held_is (Did t i r ∷ past) d legal = by_made (made (statement script t i) r) (held_is past d legal.0)
    where
      by_doc : (c : Call) (b : Bool) → held o script past d ≡ lobs_of (history o script past d)
          → (if b then add (kind_of c (newest_in t (history o script past d))) (held o script past d) else held o script past d)
          ≡ lobs_of (if b then pushed t c (history o script past d) else history o script past d)
      by_doc c true before = ap (add (kind_of c (newest_in t (history o script past d)))) before
      by_doc c false before = before

      by_made : (m : Option Call) → held o script past d ≡ lobs_of (history o script past d)
          → with_lobs d t m (history o script past d) (held o script past d) ≡ lobs_of (with_call d t m (history o script past d))
      by_made None before = before
      by_made (Some c) before = by_doc c (nat_eq (call_doc c) d) before
  held_is (Commit t n ∷ past) d legal = held_is past d legal.0 ∙ ap (λ x. add_all x (option_to_list (history o script past d).lob)) (sym (kinds_renamed t n (history o script past d).changes))
  held_is (Undone t u ∷ past) d legal =
      ap (take_all_back (kinds (filter (λ m. is_sessions t m.owner) (history o script past d).changes))) (held_is past d legal.0)
      ∙ back_without (is_sessions t) (history o script past d).changes (option_to_list (history o script past d).lob) (undone_top o script run first t past d legal.0)
  held_is (Restart k ∷ past) d legal =
      ap (take_all_back (kinds (filter (λ m. not (is_committed m.owner)) (history o script past d).changes))) (held_is past d legal.0)
      ∙ back_without (λ w. not (is_committed w)) (history o script past d).changes (option_to_list (history o script past d).lob) (restart_top o script run first past d legal.0)
  held_is (Purged n ∷ past) d legal =
      let order = in_order o script run past d legal.0 in
      let sound = is_sound o script run first past d legal.0 in
      let next : n ≡ purged_of o past + 1 = legal.1.1.0 in
      let last : purged_of o past ≡ n - 1 = omega (arith, next) in
      let those : filter (λ m. is_commits n m.owner) (history o script past d).changes ≡ below n (history o script past d).changes =
      its_commits n (history o script past d).changes order.ordered (subst (λ p. OfOwners (IsAfter p) (history o script past d).changes) last order.after) in
      let parts : (history o script past d).changes ≡ above n (history o script past d).changes ++ below n (history o script past d).changes = cut n (history o script past d).changes in
      ap (λ x. drop_all_old (kinds x) (held o script past d)) those
      ∙ ap (drop_all_old (kinds (below n (history o script past d).changes)))
      (held_is past d legal.0 ∙ ap (λ x. add_all (kinds x) (option_to_list (history o script past d).lob)) parts
      ∙ added_append (above n (history o script past d).changes) (below n (history o script past d).changes) (option_to_list (history o script past d).lob))
      ∙ all_purged (below n (history o script past d).changes) (kinds (above n (history o script past d).changes)) (history o script past d).lob
      (lower_fits (above n (history o script past d).changes) (below n (history o script past d).changes) (history o script past d).lob
      (subst (AreFitting (history o script past d).lob) parts sound.fitting)) sound.single
      ∙ ap (λ x. add_all (kinds (above n (history o script past d).changes)) (option_to_list x)) (sym (lob_below_is n (history o script past d).changes (history o script past d).lob order.ordered))
