-- What is seen in a list of changes, behind what an entry makes of them.
use Rattle.std.proofs.Common.{◌≡◌, ℕ, ◌≤◌, Bool, true, false, true≢false, not, nat_eq, cond, List, [], ◌∷◌, map, Option, refl, ap, ◌∙◌, if◌then◌else◌, ◌||◌}
use Rattle.std.specs.List.{filter, list_any}
use Rattle.journal_model.specs.Documents.{Kept}
use Rattle.journal_model.specs.Held.{Kind}
use Rattle.history_model.specs.Sound.{OfOwners}
use Rattle.journal_model.specs.History.{Owner, session, commit, Made, is_sessions, is_among, seen_in, renamed, owned_anew, above, changes_of}

-- a session has open changes
abbrev pub has : ℕ → List Made → Bool
has s ms = list_any (λ m. is_sessions s m.owner) ms

-- the change is no commit above this one
abbrev pub IsUpTo : ℕ → Owner → Type 0
IsUpTo k (session t) = Unit {0}
IsUpTo k (commit c) = c ≤ k

-- the change is not open for this session
abbrev pub IsNot : ℕ → Owner → Type 0
IsNot s w = is_sessions s w ≡ false

-- ---- two tests that answer the same at the owners

-- tests that agree on the owners see the same
pub seen_same : (f g : Owner → Bool) (ms : List Made) (b : Option Kept) → OfOwners (λ w. f w ≡ g w) ms → seen_in f ms b ≡ seen_in g ms b
unfolding OfOwners
seen_same f g [] b h = refl
seen_same f g (m ∷ ms) b h = rw h.0 (ap (λ x. if g m.owner then m.left else x) (seen_same f g ms b h.1))

-- what holds of each owner holds of those of a history
pub all_owners : (P : Owner → Type 0) → ((w : Owner) → P w) → (ms : List Made) → OfOwners P ms
unfolding OfOwners
all_owners P h [] = tt
all_owners P h (m ∷ ms) = (h m.owner, all_owners P h ms)

-- what follows owner by owner
pub map_owners : (P Q : Owner → Type 0) → ((w : Owner) → P w → Q w) → (ms : List Made) → OfOwners P ms → OfOwners Q ms
unfolding OfOwners
map_owners P Q f [] h = tt
map_owners P Q f (m ∷ ms) h = (f m.owner h.0, map_owners P Q f ms h.1)

-- without open changes of the session none is its own
pub not_has : (s : ℕ) (ms : List Made) → has s ms ≡ false → OfOwners (IsNot s) ms
unfolding OfOwners
not_has s [] h = tt
not_has s (m ∷ ms) h = by_test (is_sessions s m.owner) refl h (not_has s ms)
  where
    by_test : (b : Bool) → is_sessions s m.owner ≡ b → (b || has s ms) ≡ false → (has s ms ≡ false → OfOwners (IsNot s) ms) → IsNot s m.owner × OfOwners (IsNot s) ms
    by_test true e f rest = absurd (true≢false f)
    by_test false e f rest = (e, rest f)

-- ---- renamed

-- what is seen behind a commit
pub seen_renamed : (f : Owner → Bool) (s n : ℕ) (ms : List Made) (b : Option Kept) → seen_in f (map (owned_anew s n) ms) b ≡ seen_in (λ w. f (renamed s n w)) ms b
seen_renamed f s n [] b = refl
seen_renamed f s n (m ∷ ms) b = ap (λ x. if f (renamed s n m.owner) then m.left else x) (seen_renamed f s n ms b)

pub name_kept : (s n : ℕ) (w : Owner) → is_sessions s w ≡ false → renamed s n w ≡ w
name_kept s n (session t) h = rw h refl
name_kept s n (commit c) h = refl

-- a commit renames nothing where the session has no changes
pub none_renamed : (s n : ℕ) (ms : List Made) → OfOwners (IsNot s) ms → map (owned_anew s n) ms ≡ ms
unfolding OfOwners
none_renamed s n [] h = refl
none_renamed s n (m ∷ ms) h = ap (λ w. record { owner = w; kind = m.kind; left = m.left } ∷ map (owned_anew s n) ms) (name_kept s n m.owner h.0) ∙ ap (λ l. m ∷ l) (none_renamed s n ms h.1)

-- owners behind a commit
pub renamed_owners : (P : Owner → Type 0) (s n : ℕ) (ms : List Made) → OfOwners (λ w. P (renamed s n w)) ms → OfOwners P (map (owned_anew s n) ms)
unfolding OfOwners
renamed_owners P s n [] h = tt
renamed_owners P s n (m ∷ ms) h = (h.0, renamed_owners P s n ms h.1)

-- ---- some taken out

-- changes that are not seen may go
pub seen_without : (f out : Owner → Bool) (ms : List Made) (b : Option Kept) → OfOwners (λ w. out w ≡ true → f w ≡ false) ms
    → seen_in f (filter (λ m. not (out m.owner)) ms) b ≡ seen_in f ms b
unfolding OfOwners
seen_without f out [] b h = refl
seen_without f out (m ∷ ms) b h = by_test (out m.owner) refl (seen_without f out ms b h.1)
  where
    by_test : (x : Bool) → out m.owner ≡ x → seen_in f (filter (λ m. not (out m.owner)) ms) b ≡ seen_in f ms b
        → seen_in f (cond (not x) (m ∷ filter (λ m. not (out m.owner)) ms) (filter (λ m. not (out m.owner)) ms)) b ≡ (if f m.owner then m.left else seen_in f ms b)
    by_test true e rest = rw (h.0 e) rest
    by_test false e rest = ap (λ x. if f m.owner then m.left else x) rest

-- owners of those that stay
pub without_owners : (P : Owner → Type 0) (out : Owner → Bool) (ms : List Made) → OfOwners P ms → OfOwners P (filter (λ m. not (out m.owner)) ms)
unfolding OfOwners
without_owners P out [] h = tt
without_owners P out (m ∷ ms) h = by_test (out m.owner) (without_owners P out ms h.1)
  where
    by_test : (x : Bool) → OfOwners P (filter (λ m. not (out m.owner)) ms) → OfOwners P (cond (not x) (m ∷ filter (λ m. not (out m.owner)) ms) (filter (λ m. not (out m.owner)) ms))
    by_test true rest = rest
    by_test false rest = (h.0, rest)

-- ---- purged

-- for a reader that sees all commits up to n
pub seen_above : (f : Owner → Bool) (n : ℕ) (ms : List Made) (b : Option Kept) → ((w : Owner) → is_among n w ≡ true → f w ≡ true)
    → seen_in f (above n ms) (seen_in (is_among n) ms b) ≡ seen_in f ms b
seen_above f n [] b h = refl
seen_above f n (m ∷ ms) b h = by_test (is_among n m.owner) refl (seen_above f n ms b h)
  where
    by_test : (x : Bool) → is_among n m.owner ≡ x → seen_in f (above n ms) (seen_in (is_among n) ms b) ≡ seen_in f ms b
        → seen_in f (if x then [] else m ∷ above n ms) (if x then m.left else seen_in (is_among n) ms b) ≡ (if f m.owner then m.left else seen_in f ms b)
    by_test true e rest = rw (h m.owner e) refl
    by_test false e rest = ap (λ x. if f m.owner then m.left else x) rest

-- owners of those above a commit
pub above_owners : (P : Owner → Type 0) (n : ℕ) (ms : List Made) → OfOwners P ms → OfOwners P (above n ms)
unfolding OfOwners
above_owners P n [] h = tt
above_owners P n (m ∷ ms) h = by_test (is_among n m.owner) (above_owners P n ms h.1)
  where
    by_test : (x : Bool) → OfOwners P (above n ms) → OfOwners P (if x then [] else m ∷ above n ms)
    by_test true rest = tt
    by_test false rest = (h.0, rest)

-- ---- the opening

-- at the opening all readers see what stands
pub seen_at_opening : (f : Owner → Bool) (d : ℕ) (now : Option Kept) (cs : List (ℕ × ℕ × Kind)) → seen_in f (changes_of d now cs) now ≡ now
seen_at_opening f d now [] = refl
seen_at_opening f d now (c ∷ cs) = by_tests (nat_eq c.1 d) (f (commit c.0)) (seen_at_opening f d now cs)
  where
    by_tests : (x y : Bool) → seen_in f (changes_of d now cs) now ≡ now
        → seen_in f (if x then record { owner = commit c.0; kind = c.2; left = now } ∷ changes_of d now cs else changes_of d now cs) now ≡ now
    by_tests x y rest = by_x x
      where
        by_y : (y : Bool) → (if y then now else seen_in f (changes_of d now cs) now) ≡ now
        by_y true = refl
        by_y false = rest

        by_x : (x : Bool) → seen_in f (if x then record { owner = commit c.0; kind = c.2; left = now } ∷ changes_of d now cs else changes_of d now cs) now ≡ now
        by_x true = by_y (f (commit c.0))
        by_x false = rest
