-- No two sessions hold one document.
use Rattle.std.proofs.Common.{◌≡◌, ◌≢◌, ◌⊎◌, inl, inr, ℕ, Bool, true, false, true≢false, not, nat_eq, List, [], ◌∷◌, Option, Some, None, is_some, IfSome, refl, sym, ap, subst, ◌∙◌, arith, if◌then◌else◌, ◌&&◌, ◌||◌}
use Rattle.journal_model.specs.Documents.{Call, call_doc}
use Rattle.journal_model.specs.Journal.{Script, Statement, statement, call, get, size, begin, commit, rollback, Reply, deadlock, missing, exists, same, deep, large, no_room, full, part as parted, done, inside, doc, sized, absent, restarted, memory, Entry, Start, View, Wait, Did, Commit, Undone, Purged, Audited, Restart, Opening}
use Rattle.journal_model.specs.Part.{is_of, is_deadlock, is_memory, ends_by, ends, next_part, part}
use Rattle.journal_model.specs.Locks.{sessions, changes, is_on, has_change, holds, first_holder, other_than, other_holder}
use Rattle.journal_model.specs.Held.{is_in}
use Rattle.journal_model.specs.Legal.{IsLegal, Answer, MayAnswer, CallAnswer, restart_due}
use Rattle.history_model.proofs.OwnLemmas.{level}
use Rattle.history_model.proofs.OutsideLemmas.{answered_as, is_restart, restart_is, other_is, no_parts, restarting}

-- the answer says that the lock was got
abbrev pub gets_lock : Reply → Bool
gets_lock r = not (is_deadlock r) && not (is_memory r)

-- ---- who held it before

-- an entry that answers nothing makes no holder
abbrev is_did : Entry → Bool
is_did (Did t i r) = true
is_did e = false

changed_before : (script : Script) (d : ℕ) (e : Entry) (p : List Entry) → is_did e ≡ false → has_change script gets_lock d (e ∷ p) ≡ has_change script gets_lock d p
changed_before script d (Did t i r) p h = absurd (true≢false h)
changed_before script d (Start t i) p h = refl
changed_before script d (View t k) p h = refl
changed_before script d (Wait t e g) p h = refl
changed_before script d (Commit t c) p h = refl
changed_before script d (Undone t u) p h = refl
changed_before script d (Purged c) p h = refl
changed_before script d (Audited a) p h = refl
changed_before script d (Restart k) p h = refl

held_before : (script : Script) (d h : ℕ) (e : Entry) (past : List Entry) → is_did e ≡ false → holds script h d (e ∷ past) ≡ true → holds script h d past ≡ true
unfolding next_part
held_before script d h e past plain is = by_tests (ends script h (part script h past) e) (is_of h e) is
  where
    by_tests : (a b : Bool) → has_change script gets_lock d (if a then [] else (if b then e ∷ part script h past else part script h past)) ≡ true → holds script h d past ≡ true
    by_tests true b g = absurd (true≢false (sym g))
    by_tests false true g = sym (changed_before script d e (part script h past) plain) ∙ g
    by_tests false false g = g

held_other : (script : Script) (d h t i : ℕ) (r : Reply) (past : List Entry) → nat_eq t h ≡ false → holds script h d (Did t i r ∷ past) ≡ holds script h d past
unfolding next_part
held_other script d h t i r past other = rw other refl

either : (a b : Bool) → (a || b) ≡ true → (a ≡ true) ⊎ (b ≡ true)
either true b h = inl refl
either false b h = inr h

both : (a b : Bool) → (a && b) ≡ true → (a ≡ true) × (b ≡ true)
both true b h = (refl, h)
both false b h = absurd (true≢false (sym h))

-- the session held it, or got it by this answer
held_by_did : (script : Script) (d t i : ℕ) (r : Reply) (past : List Entry) → holds script t d (Did t i r ∷ past) ≡ true
    → (holds script t d past ≡ true) ⊎ ((is_on d (changes (statement script t i)) ≡ true) × (gets_lock r ≡ true))
unfolding next_part
held_by_did script d t i r past is = by_end (ends_by script t (is_some (level script t past)) (statement script t i) r) refl
  where
    here : nat_eq t t ≡ true
    here = grind arith

    swapped : (a b : Bool) → (a ≡ true) ⊎ (b ≡ true) → (b ≡ true) ⊎ (a ≡ true)
    swapped a b (inl h) = inr h
    swapped a b (inr h) = inl h

    paired : (a b c : Bool) → (c ≡ true) ⊎ ((a && b) ≡ true) → (c ≡ true) ⊎ ((a ≡ true) × (b ≡ true))
    paired a b c (inl h) = inl h
    paired a b c (inr h) = inr (both a b h)

    by_end : (b : Bool) → ends_by script t (is_some (level script t past)) (statement script t i) r ≡ b
        → (holds script t d past ≡ true) ⊎ ((is_on d (changes (statement script t i)) ≡ true) × (gets_lock r ≡ true))
    by_end true g = let none : false ≡ true = sym (rw (here, g) refl) ∙ is in absurd (true≢false (sym none))
    by_end false g =
        let now : ((is_on d (changes (statement script t i)) && gets_lock r) || holds script t d past) ≡ true = sym (rw (here, g) refl) ∙ is in
        paired (is_on d (changes (statement script t i))) (gets_lock r) (holds script t d past)
        (swapped (is_on d (changes (statement script t i)) && gets_lock r) (holds script t d past)
        (either (is_on d (changes (statement script t i)) && gets_lock r) (holds script t d past) now))

-- ---- an answer by which a lock is got comes where no other session holds the document

free_at : (o : Opening) (script : Script) (s : ℕ) (c : Call) (r : Reply) (past : List Entry) → gets_lock r ≡ true → r ≢ restarted → CallAnswer o script s c r past
    → other_holder script s (call_doc c) past ≡ None
free_at o script s c missing past got other h = h.1.0
free_at o script s c exists past got other h = h.1.0
free_at o script s c same past got other h = h.1.0
free_at o script s c deep past got other h = h.1.0
free_at o script s c large past got other h = h.1.0
free_at o script s c full past got other h = h.1.0
free_at o script s c (parted n) past got other h = h.1.0
free_at o script s c done past got other h = h.1.0
free_at o script s c inside past got other h = h.1.0
free_at o script s c (doc w) past got other h = h.1.0
free_at o script s c (sized n m) past got other h = h.1.0
free_at o script s c absent past got other h = h.1.0
free_at o script s c (no_room n m) past got other h = h.1.0
free_at o script s c (deadlock l) past got other h = absurd (true≢false (sym got))
free_at o script s c memory past got other h = absurd (true≢false (sym got))
free_at o script s c restarted past got other h = absurd (other refl)

-- numbers that compare equal are equal
pub eq_is : (a b : ℕ) → nat_eq a b ≡ true → a ≡ b
eq_is a b h = grind (arith, h)

module _ (o : Opening) (script : Script) (t i : ℕ) (r : Reply) (past : List Entry) (legal : IsLegal o script (Did t i r ∷ past)) where
  free_as : (d : ℕ) (st : Option Statement) → r ≢ restarted → gets_lock r ≡ true → is_on d (changes st) ≡ true → IfSome st (λ x. Answer o script t x r past)
      → other_holder script t d past ≡ None
  free_as d None other got on h = absurd (true≢false (sym on))
  free_as d (Some (call c)) other got on h =
      let one : call_doc c ≡ d = eq_is (call_doc c) d on in
      subst (λ e. other_holder script t e past ≡ None) one (free_at o script t c r past got other h)
  free_as d (Some (get e)) other got on h = absurd (true≢false (sym on))
  free_as d (Some (size e)) other got on h = absurd (true≢false (sym on))
  free_as d (Some (begin l)) other got on h = absurd (true≢false (sym on))
  free_as d (Some commit) other got on h = absurd (true≢false (sym on))
  free_as d (Some rollback) other got on h = absurd (true≢false (sym on))

  -- behind a restart no session holds anything
  none_held : (h d : ℕ) → is_restart r ≡ true → holds script h d past ≡ false
  none_held h d again =
      let due : restart_due o script past ≡ Some t = subst (λ q. MayAnswer o script t i q past) (restart_is r again) legal.1.1.1 in
      ap (has_change script gets_lock d) (no_parts o script h past (restarting o script t past due))

  -- where another holds it, no lock is got
  pub free_for : (d h : ℕ) → holds script h d past ≡ true → gets_lock r ≡ true → is_on d (changes (statement script t i)) ≡ true → other_holder script t d past ≡ None
  free_for d h is got on = by_reply (is_restart r) refl
    where
      by_reply : (b : Bool) → is_restart r ≡ b → other_holder script t d past ≡ None
      by_reply true again = absurd (true≢false (sym is ∙ none_held h d again))
      by_reply false plain = free_as d (statement script t i) (other_is r plain) got on (answered_as o script t i r past (other_is r plain) legal.1.1.1)

-- ---- the first holder

record Holder (script : Script) (hs : List ℕ) (d : ℕ) (past : List Entry) : Type 0 where
  who : ℕ
  first : first_holder script hs d past ≡ Some who
  is : holds script who d past ≡ true
  among : is_in who hs ≡ true

there_is : (script : Script) (hs : List ℕ) (d g : ℕ) (past : List Entry) → is_in g hs ≡ true → holds script g d past ≡ true → Holder script hs d past
there_is script [] d g past among is = absurd (true≢false (sym among))
there_is script (h ∷ hs) d g past among is = by_test (holds script h d past) refl (λ e. there_is script hs d g past e is)
  where
    itself : nat_eq h h ≡ true
    itself = grind arith

    further : (b : Bool) → nat_eq h g ≡ b → (b || is_in g hs) ≡ true → holds script h d past ≡ false → is_in g hs ≡ true
    further true e f not_h = let one : h ≡ g = grind (arith, e) in absurd (true≢false (sym is ∙ (ap (λ x. holds script x d past) (sym one) ∙ not_h)))
    further false e f not_h = f

    behind : (b : Bool) (w : ℕ) → is_in w hs ≡ true → (b || is_in w hs) ≡ true
    behind true w e = refl
    behind false w e = e

    by_test : (b : Bool) → holds script h d past ≡ b → (is_in g hs ≡ true → Holder script hs d past) → Holder script (h ∷ hs) d past
    by_test true e rest = record { who = h; first = rw e refl; is = e; among = rw itself refl }
    by_test false e rest =
        let one = rest (further (nat_eq h g) refl among e) in
        record { who = one.who; first = rw e one.first; is = one.is; among = behind (nat_eq h one.who) one.who one.among }

-- ---- no two

abbrev pub IsAlone : Script → List Entry → Type 0
IsAlone script past = (d h g : ℕ) → is_in h sessions ≡ true → is_in g sessions ≡ true → holds script h d past ≡ true → holds script g d past ≡ true → h ≡ g

-- who else holds it where a session has no other holder beside itself
no_other : (script : Script) (d t g : ℕ) (past : List Entry) → IsAlone script past → is_in g sessions ≡ true → holds script g d past ≡ true
    → other_holder script t d past ≡ None → g ≡ t
no_other script d t g past alone among is free =
    let one = there_is script sessions d g past among is in
    by_test (nat_eq one.who t) one.who refl (sym (ap (other_than script t) one.first) ∙ free) (alone d g one.who among one.among is one.is)
  where
    by_test : (b : Bool) (w : ℕ) → nat_eq w t ≡ b → (if b then None else Some w) ≡ None → g ≡ w → g ≡ t
    by_test true w e f is_w = let two : w ≡ t = grind (arith, e) in is_w ∙ two
    by_test false w e f is_w = cc

module _ (o : Opening) (script : Script) where
  -- no two sessions hold one document
  pub alone : (past : List Entry) → IsLegal o script past → IsAlone script past
  alone [] legal d h g ih ig hh hg = absurd (true≢false (sym hh))
  alone (Start t i ∷ past) legal d h g ih ig hh hg = alone past legal.0 d h g ih ig (held_before script d h (Start t i) past refl hh) (held_before script d g (Start t i) past refl hg)
  alone (View t k ∷ past) legal d h g ih ig hh hg = alone past legal.0 d h g ih ig (held_before script d h (View t k) past refl hh) (held_before script d g (View t k) past refl hg)
  alone (Wait t e w ∷ past) legal d h g ih ig hh hg = alone past legal.0 d h g ih ig (held_before script d h (Wait t e w) past refl hh) (held_before script d g (Wait t e w) past refl hg)
  alone (Commit t c ∷ past) legal d h g ih ig hh hg = alone past legal.0 d h g ih ig (held_before script d h (Commit t c) past refl hh) (held_before script d g (Commit t c) past refl hg)
  alone (Undone t u ∷ past) legal d h g ih ig hh hg = alone past legal.0 d h g ih ig (held_before script d h (Undone t u) past refl hh) (held_before script d g (Undone t u) past refl hg)
  alone (Purged c ∷ past) legal d h g ih ig hh hg = alone past legal.0 d h g ih ig (held_before script d h (Purged c) past refl hh) (held_before script d g (Purged c) past refl hg)
  alone (Audited a ∷ past) legal d h g ih ig hh hg = alone past legal.0 d h g ih ig (held_before script d h (Audited a) past refl hh) (held_before script d g (Audited a) past refl hg)
  alone (Restart k ∷ past) legal d h g ih ig hh hg = alone past legal.0 d h g ih ig (held_before script d h (Restart k) past refl hh) (held_before script d g (Restart k) past refl hg)
  alone (Did t i r ∷ past) legal d h g ih ig hh hg = by_tests (nat_eq t h) (nat_eq t g) refl refl (alone past legal.0)
    where
      got_alone : (w : ℕ) → is_in w sessions ≡ true → holds script w d past ≡ true → IsAlone script past
          → (holds script t d past ≡ true) ⊎ ((is_on d (changes (statement script t i)) ≡ true) × (gets_lock r ≡ true)) → is_in t sessions ≡ true → w ≡ t
      got_alone w iw hw before (inl was) it = before d w t iw it hw was
      got_alone w iw hw before (inr new) it = no_other script d t w past before iw hw (free_for o script t i r past legal d w hw new.1 new.0)

      by_tests : (a b : Bool) → nat_eq t h ≡ a → nat_eq t g ≡ b → IsAlone script past → h ≡ g
      by_tests true true e f before = let one : t ≡ h = grind (arith, e) in let two : t ≡ g = grind (arith, f) in sym one ∙ two
      by_tests false false e f before =
          before d h g ih ig (sym (held_other script d h t i r past e) ∙ hh) (sym (held_other script d g t i r past f) ∙ hg)
      by_tests true false e f before =
          let one : t ≡ h = grind (arith, e) in
          let now : holds script t d (Did t i r ∷ past) ≡ true = subst (λ x. holds script x d (Did t i r ∷ past) ≡ true) (sym one) hh in
          sym (got_alone g ig (sym (held_other script d g t i r past f) ∙ hg) before (held_by_did script d t i r past now) (subst (λ x. is_in x sessions ≡ true) (sym one) ih) ∙ one)
      by_tests false true e f before =
          let one : t ≡ g = grind (arith, f) in
          let now : holds script t d (Did t i r ∷ past) ≡ true = subst (λ x. holds script x d (Did t i r ∷ past) ≡ true) (sym one) hg in
          got_alone h ih (sym (held_other script d h t i r past e) ∙ hh) before (held_by_did script d t i r past now) (subst (λ x. is_in x sessions ≡ true) (sym one) ig) ∙ one
