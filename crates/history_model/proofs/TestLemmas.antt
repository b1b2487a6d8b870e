-- Tests of the owners of changes, behind a commit.
use Rattle.std.proofs.Common.{◌≡◌, ℕ, ◌≤◌, Bool, true, false, true≢false, not, nat_eq, nat_lt, nat_le, List, [], ◌∷◌, refl, sym, ap, ◌∙◌, arith, if◌then◌else◌}
use Rattle.journal_model.specs.History.{Owner, session, commit, Made, is_sessions, is_committed, is_among, is_newest_for, renamed}
use Rattle.history_model.proofs.LockLemmas.{eq_is}
use Rattle.history_model.specs.Sound.{OfOwners}
use Rattle.history_model.proofs.SeenLemmas.{IsUpTo}

-- ---- tests of owners

-- a later commit is not among these
pub among_renamed : (k t n : ℕ) → nat_lt k n ≡ true → (w : Owner) → is_among k (renamed t n w) ≡ is_among k w
among_renamed k t n h (commit c) = refl
among_renamed k t n h (session u) = by_test (nat_eq u t)
  where
    by_test : (b : Bool) → is_among k (if b then commit n else session u) ≡ false
    by_test true = let less : nat_le n k ≡ false = grind (arith, h) in less
    by_test false = refl

-- the commit that a session's changes get is seen by all who see so far
pub among_new : (k t n c : ℕ) → n ≤ k → c ≤ n → (w : Owner) → IsUpTo c w → is_among k (renamed t n w) ≡ is_newest_for t w
among_new k t n c hn hc (commit e) h = let less : nat_le e k ≡ true = grind (arith, hn, hc, h) in less
among_new k t n c hn hc (session u) h = by_test (nat_eq u t)
  where
    by_test : (b : Bool) → is_among k (if b then commit n else session u) ≡ b
    by_test true = let less : nat_le n k ≡ true = grind (arith, hn) in less
    by_test false = refl

-- what a session sees does not change by its own commit
pub newest_renamed : (s n : ℕ) (w : Owner) → is_newest_for s (renamed s n w) ≡ is_newest_for s w
newest_renamed s n (commit c) = refl
newest_renamed s n (session u) = by_test (nat_eq u s) refl
  where
    by_test : (b : Bool) → nat_eq u s ≡ b → is_newest_for s (if b then commit n else session u) ≡ b
    by_test true e = refl
    by_test false e = e

-- another session's commit, for one that has no changes
pub newest_other : (s t n : ℕ) (w : Owner) → is_sessions s w ≡ false → is_newest_for s (renamed t n w) ≡ is_newest_for t w
newest_other s t n (commit c) h = refl
newest_other s t n (session u) h = by_test (nat_eq u t)
  where
    by_test : (b : Bool) → is_newest_for s (if b then commit n else session u) ≡ b
    by_test true = refl
    by_test false = h

-- without own changes a session sees the commits so far
pub newest_alone : (s k : ℕ) (w : Owner) → IsUpTo k w → is_sessions s w ≡ false → is_newest_for s w ≡ is_among k w
newest_alone s k (commit c) h g = let less : nat_le c k ≡ true = grind (arith, h) in sym less
newest_alone s k (session u) h g = g

-- another session's changes are not seen
pub out_unseen : (s t : ℕ) → nat_eq t s ≡ false → (w : Owner) → is_sessions t w ≡ true → is_newest_for s w ≡ false
out_unseen s t h (commit c) g = absurd (true≢false (sym g))
out_unseen s t h (session u) g = let one : u ≡ t = eq_is u t g in ap (λ x. nat_eq x s) one ∙ h

-- an open change is among no commits
pub out_among : (t k : ℕ) (w : Owner) → is_sessions t w ≡ true → is_among k w ≡ false
out_among t k (session u) g = refl
out_among t k (commit c) g = absurd (true≢false (sym g))

-- nor is one that is not committed
pub open_among : (k : ℕ) (w : Owner) → not (is_committed w) ≡ true → is_among k w ≡ false
open_among k (session u) g = refl
open_among k (commit c) g = absurd (true≢false (sym g))

-- each session sees all commits
pub among_newest : (s n : ℕ) (w : Owner) → is_among n w ≡ true → is_newest_for s w ≡ true
among_newest s n (session t) h = absurd (true≢false (sym h))
among_newest s n (commit c) h = refl

-- more commits have those before
pub among_more : (n k : ℕ) → n ≤ k → (w : Owner) → is_among n w ≡ true → is_among k w ≡ true
among_more n k le (session t) h = absurd (true≢false (sym h))
among_more n k le (commit c) h = let less : nat_le c n ≡ true = h in grind (arith, le, less)

-- two facts of each owner
pub pair_owners : (P Q : Owner → Type 0) (ms : List Made) → OfOwners P ms → OfOwners Q ms → OfOwners (λ w. P w × Q w) ms
unfolding OfOwners
pair_owners P Q [] h g = tt
pair_owners P Q (m ∷ ms) h g = ((h.0, g.0), pair_owners P Q ms h.1 g.1)
