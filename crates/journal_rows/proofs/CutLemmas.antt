-- That a journal which is told to follow its lines does.
use Rattle.std.proofs.Common.{◌≡◌, ◌≢◌, ◌⊎◌, ℕ, ◌+◌, ◌==◌, ◌&&◌, ◌||◌, if◌then◌else◌, Bool, true, false, true≢false, not, nat_le, nat_lt, length, take, drop, reverse, List, [], ◌∷◌, ◌++◌, append_assoc, Option, Some, None, is_some, IsNone, All, refl, sym, ap, subst, ◌∙◌, inl, inr}
use Rattle.std.specs.List.{list_all}
use Rattle.std.proofs.lemmas.Bool.Decides.{Decides-eqb}
use Rattle.std.proofs.lemmas.List.{take-append-drop}
use Rattle.journal_model.specs.Journal.{Script, Line, say, step, purge, checkpoint, audit, restart, statements, restarted, by_end, Audit, Entry, Start, View, Wait, Did, Commit, Undone, Purged, Audited, Restart, Opening}
use Rattle.journal_model.specs.Part.{is_of, level_in, part, started, answered, commits_of, purged_of}
use Rattle.journal_model.specs.Locks.{sessions, asks, holds, may_hold}
use Rattle.journal_model.specs.Legal.{has_deadlock, has_waited, commit_due, restart_due}
use Rattle.journal_model.specs.Built.{everything}
use Rattle.journal_model.specs.Turns.{is_a_sessions, AreOwn, AreOf, IsDone, IsStuck, begins_next, BeginsWith, ArePurged, IsPurgedOut, AreRestarted, Part, LastPart, AutoPurge, TurnsFrom, Turns, max_unpurged, unpurged}
use Rattle.journal_rows.specs.Told.{is_empty, may_purge}
use Rattle.journal_rows.specs.Cuts.{Cut, is_end, is_purged, is_restarted, is_restart_at, begins_with_start, is_audit, are_of, is_done, is_met, meets_one, is_stuck_on, is_purged_out, are_restarted, is_part, is_ended, is_last, is_auto, follows_from, follows}
use Rattle.journal_rows.proofs.DecideLemmas.{both, three, four, either, is_true, is_false, at_most, other, number, none, empty, all_told}
use Rattle.journal_rows.proofs.ToldLemmas.{same_told, purge_told}

-- ---- parts of a test

two : (a b : Bool) → (a && b) ≡ true → (a ≡ true) × (b ≡ true)
two a b e = (both a b (is_true a) (is_true b)).0 e

one_of : (a b : Bool) → (a || b) ≡ true → (a ≡ true) ⊎ (b ≡ true)
one_of a b e = (either a b (is_true a) (is_true b)).0 e

pub each_of : {A : Type 0} (test : A → Bool) (P : A → Type 0) → ((x : A) → test x ≡ true → P x) → (xs : List A) → list_all test xs ≡ true → All P xs
each_of test P tells xs e k d l = tells _ (all_told test (λ x. test x ≡ true) (λ x. is_true (test x)) xs e k d l)

-- ---- entries

not_end : (s : ℕ) (e : Entry) → not (is_end e) ≡ true → e ≢ Undone s by_end
not_end s e h f = true≢false (sym h ∙ ap (λ x. not (is_end x)) f)

own_told : (s : ℕ) (es : List Entry) → list_all (λ e. is_of s e && not (is_end e)) es ≡ true → AreOwn s es
own_told s es h = each_of (λ e. is_of s e && not (is_end e)) (λ e. (is_of s e ≡ true) × (e ≢ Undone s by_end)) (λ e x. let t = two (is_of s e) (not (is_end e)) x in (t.0, not_end s e t.1)) es h

a_purge : (e : Entry) → is_purged e ≡ true → (c : ℕ) × (e ≡ Purged c)
a_purge (Start t j) h = absurd (true≢false (sym h))
a_purge (View t k) h = absurd (true≢false (sym h))
a_purge (Wait t d g) h = absurd (true≢false (sym h))
a_purge (Did t j r) h = absurd (true≢false (sym h))
a_purge (Commit t c) h = absurd (true≢false (sym h))
a_purge (Undone t u) h = absurd (true≢false (sym h))
a_purge (Purged c) h = (c, refl)
a_purge (Audited a) h = absurd (true≢false (sym h))
a_purge (Restart k) h = absurd (true≢false (sym h))

purges_told : (o : Opening) (script : Script) (es : List Entry) → list_all is_purged es ≡ true → ArePurged o script es
purges_told o script es h = each_of is_purged (λ e. (c : ℕ) × (e ≡ Purged c)) a_purge es h

an_answer : (e : Entry) → is_restarted e ≡ true → (s : ℕ) × (i : ℕ) × (e ≡ Did s i restarted)
an_answer (Start t j) h = absurd (true≢false (sym h))
an_answer (View t k) h = absurd (true≢false (sym h))
an_answer (Wait t d g) h = absurd (true≢false (sym h))
an_answer (Did t j r) h = (t, j, ap (Did t j) ((same_told r restarted).0 h))
an_answer (Commit t c) h = absurd (true≢false (sym h))
an_answer (Undone t u) h = absurd (true≢false (sym h))
an_answer (Purged c) h = absurd (true≢false (sym h))
an_answer (Audited a) h = absurd (true≢false (sym h))
an_answer (Restart k) h = absurd (true≢false (sym h))

a_restart : (n : ℕ) (e : Entry) → is_restart_at n e ≡ true → e ≡ Restart n
a_restart n (Start t j) h = absurd (true≢false (sym h))
a_restart n (View t k) h = absurd (true≢false (sym h))
a_restart n (Wait t d g) h = absurd (true≢false (sym h))
a_restart n (Did t j r) h = absurd (true≢false (sym h))
a_restart n (Commit t c) h = absurd (true≢false (sym h))
a_restart n (Undone t u) h = absurd (true≢false (sym h))
a_restart n (Purged c) h = absurd (true≢false (sym h))
a_restart n (Audited a) h = absurd (true≢false (sym h))
a_restart n (Restart k) h = ap Restart ((Decides-eqb k n).0 h)

a_start : (o : Opening) (script : Script) (s i : ℕ) (es : List Entry) → begins_with_start s i es ≡ true → BeginsWith o script (Start s i) es
a_start o script s i [] h = absurd (true≢false (sym h))
a_start o script s i (Start t j ∷ es) h = let e = (both (t == s) (j == i) (Decides-eqb t s) (Decides-eqb j i)).0 h in ap (λ u. Start u j) e.0 ∙ ap (Start s) e.1
a_start o script s i (View t k ∷ es) h = absurd (true≢false (sym h))
a_start o script s i (Wait t d g ∷ es) h = absurd (true≢false (sym h))
a_start o script s i (Did t j r ∷ es) h = absurd (true≢false (sym h))
a_start o script s i (Commit t c ∷ es) h = absurd (true≢false (sym h))
a_start o script s i (Undone t u ∷ es) h = absurd (true≢false (sym h))
a_start o script s i (Purged c ∷ es) h = absurd (true≢false (sym h))
a_start o script s i (Audited a ∷ es) h = absurd (true≢false (sym h))
a_start o script s i (Restart k ∷ es) h = absurd (true≢false (sym h))

an_audit : (es : List Entry) → is_audit es ≡ true → (a : Audit) × (es ≡ Audited a ∷ [])
an_audit [] h = absurd (true≢false (sym h))
an_audit (Start t j ∷ es) h = absurd (true≢false (sym h))
an_audit (View t k ∷ es) h = absurd (true≢false (sym h))
an_audit (Wait t d g ∷ es) h = absurd (true≢false (sym h))
an_audit (Did t j r ∷ es) h = absurd (true≢false (sym h))
an_audit (Commit t c ∷ es) h = absurd (true≢false (sym h))
an_audit (Undone t u ∷ es) h = absurd (true≢false (sym h))
an_audit (Purged c ∷ es) h = absurd (true≢false (sym h))
an_audit (Audited a ∷ []) h = (a, refl)
an_audit (Audited a ∷ f ∷ es) h = absurd (true≢false (sym h))
an_audit (Restart k ∷ es) h = absurd (true≢false (sym h))

-- ---- the part of a line

module _ (o : Opening) (script : Script) where
  of_told : (said : List Line) (s : ℕ) (past es : List Entry) → are_of o script said s past es ≡ true → AreOf o script said s past es
  of_told said s past es h =
      let t = two (list_all (λ e. is_of s e && not (is_end e)) es) (nat_le (started s (reverse es ++ past)) (length (statements s said))) h in
      (own_told s es t.0, (at_most (started s (reverse es ++ past)) (length (statements s said))).0 t.1)

  done_told : (said : List Line) (s : ℕ) (past : List Entry) → is_done o script said s past ≡ true → IsDone o script said s past
  done_told said s past h = (both _ _ (Decides-eqb (answered s past) (length (statements s said))) (is_false (has_deadlock (part script s past)))).0 h

  abbrev Meets : ℕ → ℕ → List Entry → Type 0
  Meets s d past = (h : ℕ) × (h ≢ s) × ((holds script h d past ≡ true) ⊎ ((may_hold script h d past ≡ true) ⊎ (asks script h past ≡ Some d)))

  met_told : (hs : List ℕ) (s d : ℕ) (past : List Entry) → meets_one o script hs s d past ≡ true → Meets s d past
  met_told [] s d past h = absurd (true≢false (sym h))
  met_told (g ∷ hs) s d past h = go (met_told hs s d past) (one_of (is_met o script s d g past) (meets_one o script hs s d past) h)
    where
      go : (meets_one o script hs s d past ≡ true → Meets s d past) → (is_met o script s d g past ≡ true) ⊎ (meets_one o script hs s d past ≡ true) → Meets s d past
      go more (inl e) =
          let t = (both _ _ (other g s) (either _ _ (is_true (holds script g d past)) (either _ _ (is_true (may_hold script g d past)) (number d (asks script g past))))).0 e in
          (g, t.0, t.1)
      go more (inr e) = more e

  stuck_told : (s : ℕ) (past : List Entry) (asked : Option ℕ) → asks script s past ≡ asked → is_stuck_on o script s asked past ≡ true → IsStuck o script s past
  stuck_told s past None is h = absurd (true≢false (sym h))
  stuck_told s past (Some d) is h =
      let t = two (has_waited (part script s past)) (meets_one o script sessions s d past) h in
      let m = met_told sessions s d past t.1 in
      (d, is, t.0, m.0, m.1, m.2)

  out_told : (past : List Entry) → is_purged_out o script past ≡ true → IsPurgedOut o script past
  out_told past h c may =
      let next : may_purge o script (purged_of o past + 1) past ≡ true = subst (λ n. may_purge o script n past ≡ true) may.0 ((purge_told o script c past).1 may) in
      true≢false (sym h ∙ ap not next)

  restarted_told : (past es : List Entry) → are_restarted o script past es ≡ true → AreRestarted o script past es
  restarted_told past [] h = absurd (true≢false (sym h))
  restarted_told past (e ∷ es) h =
      let t = (three _ _ _ (is_true (is_restart_at (commits_of o past) e)) (is_true (list_all is_restarted es)) (none (restart_due o script (reverse (e ∷ es) ++ past)))).0 h in
      (a_restart (commits_of o past) e t.0, each_of is_restarted (λ d. (s : ℕ) × (i : ℕ) × (d ≡ Did s i restarted)) an_answer es t.1, t.2)

  begins_told : (said : List Line) (s : ℕ) (past es : List Entry) → (not (begins_next o script said s past) || begins_with_start s (started s past + 1) es) ≡ true
      → begins_next o script said s past ≡ true → BeginsWith o script (Start s (started s past + 1)) es
  begins_told said s past es h next = go (one_of (not (begins_next o script said s past)) (begins_with_start s (started s past + 1) es) h)
    where
      go : (not (begins_next o script said s past) ≡ true) ⊎ (begins_with_start s (started s past + 1) es ≡ true) → BeginsWith o script (Start s (started s past + 1)) es
      go (inl e) = absurd (true≢false (sym e ∙ ap not next))
      go (inr e) = a_start o script s (started s past + 1) es e

  part_told : (said : List Line) (l : Line) (past es : List Entry) → is_part o script said l past es ≡ true → Part o script said l past es
  part_told said (say s true st) past es h = (of_told said s past es t.0, go (one_of _ _ t.1))
    where
      ends : Bool
      ends = is_done o script said s (reverse es ++ past) || is_stuck_on o script s (asks script s (reverse es ++ past)) (reverse es ++ past)

      t : (are_of o script said s past es ≡ true) × (ends ≡ true)
      t = two (are_of o script said s past es) ends h

      go : (is_done o script said s (reverse es ++ past) ≡ true) ⊎ (is_stuck_on o script s (asks script s (reverse es ++ past)) (reverse es ++ past) ≡ true)
          → IsDone o script said s (reverse es ++ past) ⊎ IsStuck o script s (reverse es ++ past)
      go (inl e) = inl (done_told said s (reverse es ++ past) e)
      go (inr e) = inr (stuck_told s (reverse es ++ past) (asks script s (reverse es ++ past)) refl e)
  part_told said (say s false st) past es h = (empty es).0 h
  part_told said (step s n) past es h =
      let t = two (are_of o script said s past es) (not (begins_next o script said s past) || begins_with_start s (started s past + 1) es) h in
      (of_told said s past es t.0, begins_told said s past es t.1)
  part_told said purge past es h = let t = two (list_all is_purged es) (is_purged_out o script (reverse es ++ past)) h in (purges_told o script es t.0, out_told (reverse es ++ past) t.1)
  part_told said checkpoint past es h = (empty es).0 h
  part_told said audit past es h = an_audit es h
  part_told said restart past es h = restarted_told past es h

  last_told : (past es : List Entry) → is_last o script past es ≡ true → LastPart o script past es
  last_told past es h =
      let t = (three _ _ _ (is_true (list_all is_a_sessions es)) (is_true (list_all (is_ended o script (reverse es ++ past)) sessions)) (none (commit_due o script (reverse es ++ past)))).0 h in (
        each_of is_a_sessions (λ e. is_a_sessions e ≡ true) (λ e x. x) es t.0,
        each_of (is_ended o script (reverse es ++ past)) (λ s. (answered s (reverse es ++ past) ≡ length (statements s script)) × IsNone (level_in script s (part script s (reverse es ++ past)))) (λ s x. (both _ _ (Decides-eqb (answered s (reverse es ++ past)) (length (statements s script))) (is_false (is_some (level_in script s (part script s (reverse es ++ past)))))).0 x) sessions t.1,
        t.2,
      )

  auto_told : (past es : List Entry) → is_auto o script past es ≡ true → AutoPurge o script true past es
  auto_told past es h = go (nat_lt max_unpurged (unpurged o past)) refl h
    where
      go : (b : Bool) → nat_lt max_unpurged (unpurged o past) ≡ b → (if b then list_all is_purged es && is_purged_out o script (reverse es ++ past) else is_empty es) ≡ true
          → AutoPurge o script true past es
      go true is e = let t = two (list_all is_purged es) (is_purged_out o script (reverse es ++ past)) e in ((λ f. absurd (true≢false (sym is ∙ f))), λ f. (purges_told o script es t.0, out_told (reverse es ++ past) t.1))
      go false is e = ((λ f. (empty es).0 e), λ f. absurd (true≢false (sym f ∙ is)))

  split : (n m : ℕ) (rest : List Entry) → rest ≡ (take n rest ++ take m (drop n rest)) ++ drop m (drop n rest)
  split n m rest = sym (take-append-drop n rest) ∙ ap (λ r. take n rest ++ r) (sym (take-append-drop m (drop n rest))) ∙ sym (append_assoc (take n rest) (take m (drop n rest)) (drop m (drop n rest)))

  from_told : (cuts : List Cut) (said ls : List Line) (past rest : List Entry) → follows_from o script cuts said ls past rest ≡ true → TurnsFrom o script everything said ls past rest
  from_told cuts said [] past rest h = last_told past rest h
  from_told [] said (l ∷ ls) past rest h = absurd (true≢false (sym h))
  from_told (cut ∷ cuts) said (l ∷ ls) past rest h = (
    own ++ purged,
    later,
    split cut.own cut.purges rest,
    (own, purged, refl, part_told (said ++ l ∷ []) l past own t.0, t.1, auto_told (reverse own ++ past) purged t.2),
    from_told cuts (said ++ l ∷ []) ls (reverse (own ++ purged) ++ past) later t.3,
  )
    where
      own : List Entry
      own = take cut.own rest

      purged : List Entry
      purged = take cut.purges (drop cut.own rest)

      later : List Entry
      later = drop cut.purges (drop cut.own rest)

      t : (is_part o script (said ++ l ∷ []) l past own ≡ true) × (commit_due o script (reverse own ++ past) ≡ None) × (is_auto o script (reverse own ++ past) purged ≡ true)
          × (follows_from o script cuts (said ++ l ∷ []) ls (reverse (own ++ purged) ++ past) later ≡ true)
      t = (four _ _ _ _ (is_true (is_part o script (said ++ l ∷ []) l past own)) (none (commit_due o script (reverse own ++ past))) (is_true (is_auto o script (reverse own ++ past) purged))
          (is_true (follows_from o script cuts (said ++ l ∷ []) ls (reverse (own ++ purged) ++ past) later))).0 h

-- a journal that is told so follows its lines
pub turns : (o : Opening) (script : Script) (cuts : List Cut) (entries : List Entry) → follows o script cuts entries ≡ true → Turns o script entries
turns o script cuts entries h = from_told o script cuts [] script [] entries h
