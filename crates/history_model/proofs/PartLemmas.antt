-- What leaves a session's part as it is, and when a statement of it is under way.
use Rattle.std.proofs.Common.{◌≡◌, ◌≢◌, ℕ, ◌+◌, ◌<◌, Bool, true, false, true≢false, nat_eq, nat_lt, List, [], ◌∷◌, Option, Some, None, refl, sym, ap, subst, ◌∙◌, arith, if◌then◌else◌, ◌&&◌}
use Rattle.journal_model.specs.Journal.{Script, Level, statement, Reply, Entry, Start, View, Wait, Did, Commit, Undone, Purged, Audited, Restart, Opening}
use Rattle.journal_model.specs.Part.{is_of, made, opened, level_in, ends, next_part, part, started, answered}
use Rattle.journal_model.specs.Locks.{asks}
use Rattle.journal_model.specs.Legal.{is_read, IsLegal, began_read}
use Rattle.history_model.proofs.OwnLemmas.{level}
use Rattle.history_model.proofs.OutsideLemmas.{ends_outside}
use Rattle.history_model.proofs.LockLemmas.{eq_is}

-- a number compares equal to itself
pub itself : (u : ℕ) → nat_eq u u ≡ true
itself u = grind arith

-- an entry of another session leaves the part
pub part_other : (script : Script) (s : ℕ) (e : Entry) (past : List Entry) → ends script s (part script s past) e ≡ false → is_of s e ≡ false → part script s (e ∷ past) ≡ part script s past
unfolding next_part
part_other script s e past h g = rw (h, g) refl

-- an entry of the session joins its part
pub part_grown : (script : Script) (s : ℕ) (e : Entry) (past : List Entry) → ends script s (part script s past) e ≡ false → is_of s e ≡ true → part script s (e ∷ past) ≡ e ∷ part script s past
unfolding next_part
part_grown script s e past h g = rw (h, g) refl

-- or ends it
pub part_ended : (script : Script) (s : ℕ) (e : Entry) (past : List Entry) → ends script s (part script s past) e ≡ true → part script s (e ∷ past) ≡ []
unfolding next_part
part_ended script s e past h = rw h refl

-- an answer that changed nothing, behind which the session stands outside a transaction, ends the part
pub did_ended : (script : Script) (s i : ℕ) (r : Reply) (past : List Entry) → made (statement script s i) r ≡ None → level script s (Did s i r ∷ past) ≡ None
    → part script s (Did s i r ∷ past) ≡ []
did_ended script s i r past none out = by_end (ends script s (part script s past) (Did s i r)) refl
  where
    by_open : (l : Option Level) → opened (statement script s i) r ≡ l → ends script s (part script s past) (Did s i r) ≡ false → part script s (Did s i r ∷ past) ≡ []
    by_open (Some l) h g =
        let grown : part script s (Did s i r ∷ past) ≡ Did s i r ∷ part script s past = part_grown script s (Did s i r) past g (itself s) in
        let opens : Some l ≡ None = sym (ap (level_in script s) grown ∙ rw h refl) ∙ out in cc
    by_open None h g =
        let grown : part script s (Did s i r ∷ past) ≡ Did s i r ∷ part script s past = part_grown script s (Did s i r) past g (itself s) in
        let outer : level script s past ≡ None = sym (ap (level_in script s) grown ∙ rw h refl) ∙ out in
        let over : ends script s (part script s past) (Did s i r) ≡ true = rw (itself s, outer) (ends_outside script s (statement script s i) r none h) in
        absurd (true≢false (sym over ∙ g))

    by_end : (b : Bool) → ends script s (part script s past) (Did s i r) ≡ b → part script s (Did s i r ∷ past) ≡ []
    by_end true g = part_ended script s (Did s i r) past g
    by_end false g = by_open (opened (statement script s i) r) refl g

-- ---- when a statement is under way

module _ (o : Opening) (script : Script) (s : ℕ) where
  -- a session that asks for a document has a statement under way
  pub asking : (past : List Entry) (d : ℕ) → asks script s past ≡ Some d → started s past ≢ answered s past
  asking past d h e = by_test (nat_lt (answered s past) (started s past)) refl h
    where
      by_test : (b : Bool) → nat_lt (answered s past) (started s past) ≡ b → asks script s past ≡ Some d → ⊥
      by_test true g f = let less : answered s past < started s past = grind (arith, g) in omega (arith, e, less)
      by_test false g f = let none : None ≡ Some d = sym (rw g refl) ∙ f in cc

  -- and so has one whose read begins
  pub reading : (past : List Entry) → IsLegal o script past → began_read o script s past ≡ true → started s past ≢ answered s past
  reading [] legal h e = true≢false (sym h)
  reading (Start t i ∷ past) legal h e = by_test (nat_eq t s) refl h e
    where
      by_test : (b : Bool) → nat_eq t s ≡ b → (b && is_read (statement script t i)) ≡ true → (if b then started s past + 1 else started s past) ≡ answered s past → ⊥
      by_test true g f k =
          let one : t ≡ s = eq_is t s g in
          let before : started s past ≡ answered s past = subst (λ x. started x past ≡ answered x past) one legal.1.1.1 in
          omega (arith, before, k)
      by_test false g f k = true≢false (sym f)
  reading (View t k ∷ past) legal h e = true≢false (sym h)
  reading (Wait t d g ∷ past) legal h e = true≢false (sym h)
  reading (Did t i r ∷ past) legal h e = true≢false (sym h)
  reading (Commit t c ∷ past) legal h e = true≢false (sym h)
  reading (Undone t u ∷ past) legal h e = true≢false (sym h)
  reading (Purged c ∷ past) legal h e = true≢false (sym h)
  reading (Audited a ∷ past) legal h e = true≢false (sym h)
  reading (Restart k ∷ past) legal h e = true≢false (sym h)
