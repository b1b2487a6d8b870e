-- What the ceiling gives: the asker's need apart, and index pages that never get fewer and suffice.
use Rattle.std.proofs.Common.{◌≡◌, ℕ, zero, suc, ◌+◌, ◌-◌, ◌<◌, ◌≤◌, Bool, true, false, true≢false, nat_eq, nat_lt, nat_le, length, inl, inr, List, [], ◌∷◌, Some, None, refl, sym, ap, subst, arith, if◌then◌else◌, ◌||◌, le_trans, unwrap_or}
use Rattle.std.specs.Int.{div_ceil}
use Rattle.binary_model.specs.Need.{index_pages}
use Rattle.journal_model.specs.Documents.{look}
use Rattle.journal_model.specs.Journal.{Script, Entry, Opening}
use Rattle.journal_model.specs.Locks.{sessions, numbers_from}
use Rattle.journal_model.specs.Held.{HeldLob, is_in, greater, versions_in, most_versions}
use Rattle.journal_model.specs.History.{history}
use Rattle.journal_model.specs.Versions.{held, in_all}
use Rattle.journal_model.specs.Ceiling.{need_now, pushed_now, most_pushed, entries_now, most_entries, index_now, needs, counted, lob_pages, ceiling}
use Rattle.history_model.specs.Laws.{Among}
use Rattle.history_model.proofs.LockLemmas.{eq_is}

-- ---- the greater of two

left_most : (m n : ℕ) → m ≤ greater m n
left_most m n = go (nat_lt m n) refl
  where
    go : (b : Bool) → nat_lt m n ≡ b → m ≤ (if b then n else m)
    go true e = let less : m < n = grind (arith, e) in omega (arith, less)
    go false e = omega arith

right_most : (m n : ℕ) → n ≤ greater m n
right_most m n = go (nat_lt m n) refl
  where
    go : (b : Bool) → nat_lt m n ≡ b → n ≤ (if b then n else m)
    go true e = omega arith
    go false e = let more : n ≤ m = grind (arith, e) in more

greater_mono : (a m n : ℕ) → m ≤ n → greater a m ≤ greater a n
greater_mono a m n h = go (nat_lt a m) refl
  where
    go : (b : Bool) → nat_lt a m ≡ b → (if b then m else a) ≤ greater a n
    go true e = le_trans h (right_most a n)
    go false e = left_most a n

-- ---- index pages

index_mono : (m n : ℕ) → m ≤ n → index_pages m ≤ index_pages n
index_mono m n h = go (nat_le m 10) (nat_le n 10) refl refl
  where
    go : (a b : Bool) → nat_le m 10 ≡ a → nat_le n 10 ≡ b → (if a then 0 else div_ceil (m - 10) 272) ≤ (if b then 0 else div_ceil (n - 10) 272)
    go true b e f = omega arith
    go false true e f = let low : n ≤ 10 = grind (arith, f) in let high : 10 < m = grind (arith, e) in absurd (omega (arith, low, high, h))
    go false false e f = omega (arith, h)

-- ---- what an asker doesn't count

above_it : (o : Opening) (script : Script) (s k a : ℕ) (past : List Entry) → s < a → needs o script None (numbers_from a k) past ≡ needs o script (Some s) (numbers_from a k) past
above_it o script s zero a past h = refl
above_it o script s (suc k) a past h =
    let other : nat_eq a s ≡ false = grind (arith, h) in
    rw other (ap (λ n. need_now o script past a + n) (above_it o script s k (a + 1) past (omega (arith, h))))

needs_apart : (o : Opening) (script : Script) (s k a : ℕ) (past : List Entry) → a ≤ s → s < a + k
    → needs o script None (numbers_from a k) past ≡ needs o script (Some s) (numbers_from a k) past + need_now o script past s
needs_apart o script s zero a past h g = absurd (omega (arith, h, g))
needs_apart o script s (suc k) a past h g = go (nat_eq a s) refl (λ e. needs_apart o script s k (a + 1) past (grind (arith, e, h)) (omega (arith, g)))
  where
    go : (b : Bool) → nat_eq a s ≡ b
        → (nat_eq a s ≡ false → needs o script None (numbers_from (a + 1) k) past ≡ needs o script (Some s) (numbers_from (a + 1) k) past + need_now o script past s)
        → need_now o script past a + needs o script None (numbers_from (a + 1) k) past
        ≡ (if b then 0 else need_now o script past a) + needs o script (Some s) (numbers_from (a + 1) k) past + need_now o script past s
    go true e rest =
        let one : a ≡ s = eq_is a s e in
        let same_needs : needs o script None (numbers_from (a + 1) k) past ≡ needs o script (Some s) (numbers_from (a + 1) k) past = above_it o script s k (a + 1) past (omega (arith, one)) in
        let own : need_now o script past a ≡ need_now o script past s = ap (need_now o script past) one in
        omega (arith, same_needs, own)
    go false e rest = let r = rest e in omega (arith, r)

-- without an asker the ceiling has its need too
pub ceiling_apart : (o : Opening) (script : Script) (s : ℕ) (past : List Entry) → 1 ≤ s → s ≤ 64
    → ceiling o script None past ≡ ceiling o script (Some s) past + need_now o script past s
unfolding sessions
ceiling_apart o script s past low high =
    let n = needs_apart o script s 64 1 past low (omega (arith, high)) in
    sums (1 + in_all o script (counted o script past) past + in_all o script (λ d. length (history o script past d).changes) past + in_all o script (λ d. lob_pages o script d past) past)
    (needs o script None (numbers_from 1 64) past) (needs o script (Some s) (numbers_from 1 64) past) (need_now o script past s) n
  where
    sums : (m a b c : ℕ) → a ≡ b + c → m + a ≡ m + b + c
    sums m a b c e = omega (arith, e)

-- ---- index pages of a document never get fewer, and suffice

-- the index pages counted never get fewer
pub index_stays : (o : Opening) (script : Script) (d : ℕ) (e : Entry) (past : List Entry) → index_now o script d past ≤ index_now o script d (e ∷ past)
index_stays o script d e past =
    greater_mono (unwrap_or (look o.index d) 0) (index_pages (most_entries o script d past)) (index_pages (most_entries o script d (e ∷ past)))
    (index_mono (most_entries o script d past) (most_entries o script d (e ∷ past)) (right_most (entries_now o script d (e ∷ past) (held o script (e ∷ past) d)) (most_entries o script d past)))

entries_most : (o : Opening) (script : Script) (d : ℕ) (past : List Entry) → entries_now o script d past (held o script past d) ≤ most_entries o script d past
entries_most o script d [] = omega arith
entries_most o script d (e ∷ past) = left_most (entries_now o script d (e ∷ past) (held o script (e ∷ past) d)) (most_entries o script d past)

fewer_than_most : (l : HeldLob) (ls : List HeldLob) → Among l ls → versions_in l ≤ most_versions ls
fewer_than_most l [] h = absurd h
fewer_than_most l (m ∷ ms) (inl e) = subst (λ x. versions_in x ≤ greater (versions_in m) (most_versions ms)) (sym e) (left_most (versions_in m) (most_versions ms))
fewer_than_most l (m ∷ ms) (inr h) = le_trans (fewer_than_most l ms h) (right_most (versions_in m) (most_versions ms))

pushed_most : (o : Opening) (script : Script) (d t : ℕ) (ts : List ℕ) (past : List Entry) → is_in t ts ≡ true → pushed_now o script d past t ≤ most_pushed o script d ts past
pushed_most o script d t [] past h = absurd (true≢false (sym h))
pushed_most o script d t (u ∷ ts) past h = go (nat_eq u t) refl h (λ e. pushed_most o script d t ts past e)
  where
    go : (b : Bool) → nat_eq u t ≡ b → (b || is_in t ts) ≡ true → (is_in t ts ≡ true → pushed_now o script d past t ≤ most_pushed o script d ts past)
        → pushed_now o script d past t ≤ greater (pushed_now o script d past u) (most_pushed o script d ts past)
    go true e f rest =
        subst (λ x. pushed_now o script d past x ≤ greater (pushed_now o script d past u) (most_pushed o script d ts past)) (eq_is u t e)
        (left_most (pushed_now o script d past u) (most_pushed o script d ts past))
    go false e f rest = le_trans (rest f) (right_most (pushed_now o script d past u) (most_pushed o script d ts past))

-- they suffice for a LOB's versions and those that a change under way adds
pub index_suffices : (o : Opening) (script : Script) (d t : ℕ) (past : List Entry) (l : HeldLob) → is_in t sessions ≡ true → Among l (held o script past d)
    → index_pages (versions_in l + pushed_now o script d past t) ≤ index_now o script d past
index_suffices o script d t past l numbered among =
    le_trans (index_mono (versions_in l + pushed_now o script d past t) (most_entries o script d past)
    (le_trans (now (held o script past d) among) (entries_most o script d past)))
    (right_most (unwrap_or (look o.index d) 0) (index_pages (most_entries o script d past)))
  where
    now : (ls : List HeldLob) → Among l ls → versions_in l + pushed_now o script d past t ≤ entries_now o script d past ls
    now [] a = absurd a
    now (m ∷ ms) a =
        let v : versions_in l ≤ most_versions (m ∷ ms) = fewer_than_most l (m ∷ ms) a in
        let p : pushed_now o script d past t ≤ most_pushed o script d sessions past = pushed_most o script d t sessions past numbered in
        omega (arith, v, p)
