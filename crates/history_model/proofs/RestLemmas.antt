-- What is held where all is purged.
use Rattle.std.proofs.Common.{◌≡◌, ℕ, ◌≤◌, ◌<◌, true≢false, List, [], ◌∷◌, option_to_list, refl, sym, ap, subst, ◌∙◌, arith}
use Rattle.journal_model.specs.Journal.{Script, Entry, Opening}
use Rattle.journal_model.specs.Held.{add_all}
use Rattle.journal_model.specs.Part.{own, touches, commits_of, purged_of}
use Rattle.journal_model.specs.Legal.{IsLegal}
use Rattle.journal_model.specs.History.{Owner, session, commit, Made, kinds, history}
use Rattle.journal_model.specs.Versions.{held}
use Rattle.history_model.specs.Laws.{IsRun}
use Rattle.history_model.specs.Sound.{OfOwners, IsAfter, IsFirst, IsAtRest}
use Rattle.history_model.proofs.SeenLemmas.{IsUpTo}
use Rattle.history_model.proofs.NumberLemmas.{up_to}
use Rattle.history_model.proofs.OwnedLemmas.{owned_of, each_has}
use Rattle.history_model.proofs.TestLemmas.{pair_owners}
use Rattle.history_model.proofs.OrderLemmas.{after_of}
use Rattle.history_model.proofs.SoundLemmas.{is_sound}
use Rattle.history_model.proofs.HeldLemmas.{held_is}

abbrev IsOpen : Owner → Type 0
IsOpen (session t) = ⊥
IsOpen (commit c) = Unit {0}

none_there : (p : ℕ) (ms : List Made) → OfOwners (λ w. IsAfter p w × (IsUpTo p w × IsOpen w)) ms → ms ≡ []
unfolding OfOwners
none_there p [] h = refl
none_there p (m ∷ ms) h = absurd (one m.owner h.0)
  where
    one : (w : Owner) → IsAfter p w × (IsUpTo p w × IsOpen w) → ⊥
    one (session t) k = k.1.1
    one (commit c) k = let more : p < c = k.0 in let less : c ≤ p = k.1.0 in omega (arith, more, less)

module _ (o : Opening) (script : Script) (run : IsRun o script) (first : IsFirst o) (past : List Entry) (legal : IsLegal o script past)
    (last : purged_of o past ≡ commits_of o past) (idle : (s : ℕ) → own script s past ≡ []) where
  no_changes : (d : ℕ) → (history o script past d).changes ≡ []
  no_changes d =
      none_there (purged_of o past) (history o script past d).changes
      (pair_owners (IsAfter (purged_of o past)) (λ w. IsUpTo (purged_of o past) w × IsOpen w) (history o script past d).changes (after_of o script run past d legal)
      (pair_owners (IsUpTo (purged_of o past)) IsOpen (history o script past d).changes
      (subst (λ k. OfOwners (IsUpTo k) (history o script past d).changes) (sym last) (up_to o script run.falling past d legal))
      (each_has IsOpen (λ c. tt) (history o script past d).changes (λ u h. true≢false (sym h ∙ (owned_of o script past run.numbered legal d u ∙ ap (touches d) (idle u)))))))

  -- where all is purged and nothing is open one LOB is left, with one version of each piece
  pub all_purged : (d : ℕ) → IsAtRest (held o script past d) (history o script past d)
  all_purged d =
      let sound = is_sound o script run first past d legal in
      record {
        unchanged = no_changes d;
        alone = held_is o script run first past d legal ∙ ap (λ ms. add_all (kinds ms) (option_to_list (history o script past d).lob)) (no_changes d);
        stands = sound.stands;
        single = sound.single;
      }
