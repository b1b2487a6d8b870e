-- Changes of held LOBs made, undone and purged.
use Rattle.std.proofs.Common.{◌≡◌, ℕ, zero, suc, ◌+◌, ◌-◌, ◌≤◌, Bool, true, false, true≢false, List, [], ◌∷◌, ◌++◌, length, Option, Some, None, IfSome, option_to_list, refl, sym, ap, ◌∙◌, arith, if◌then◌else◌}
use Rattle.journal_model.specs.Held.{Kind, inserted, rebuilt, versioned, patched, removed, HeldLob, new_lob, copies, is_in, at_pieces, at_touched, but_first, but_last, at_last, raised, lowered, thinned, add, take_back, drop_old, add_all, drop_all_old}
use Rattle.journal_model.specs.History.{Made, lob_behind, kinds}
use Rattle.history_model.specs.Sound.{IsFitting, lob_behind_all, AreFitting, AreSingle}

-- ---- undone

lowered_pieces : (t : List ℕ) (v n : ℕ) (ps : List (List ℕ)) → at_pieces t but_first n (at_pieces t (λ vs. v ∷ vs) n ps) ≡ ps
lowered_pieces t v n [] = refl
lowered_pieces t v n (vs ∷ ps) = by_test (is_in n t) (lowered_pieces t v (n + 1) ps)
  where
    by_test : (b : Bool) → at_pieces t but_first (n + 1) (at_pieces t (λ vs. v ∷ vs) (n + 1) ps) ≡ ps
        → (if b then but_first (if b then v ∷ vs else vs) else (if b then v ∷ vs else vs)) ∷ at_pieces t but_first (n + 1) (at_pieces t (λ vs. v ∷ vs) (n + 1) ps) ≡ vs ∷ ps
    by_test true rest = ap (λ x. vs ∷ x) rest
    by_test false rest = ap (λ x. vs ∷ x) rest

lob_of : ℕ → List (List ℕ) → HeldLob
lob_of v ps = record { version = v; pieces = ps }

lowered_raised : (t : List ℕ) (l : HeldLob) → lowered t (raised t l) ≡ l
unfolding lob_of
lowered_raised t l =
    let number : (l.version + 1) - 1 ≡ l.version = omega arith in
    ap (λ v. lob_of v (at_touched t but_first (at_touched t (λ vs. (l.version + 1) ∷ vs) l.pieces))) number ∙ ap (lob_of l.version) (lowered_pieces t (l.version + 1) 1 l.pieces)

-- a change taken back leaves the LOBs before it
pub taken_back : (k : Kind) (lobs : List HeldLob) → take_back k (add k lobs) ≡ lobs
taken_back (inserted n) lobs = refl
taken_back (rebuilt n) lobs = refl
taken_back (versioned t) [] = refl
taken_back (versioned t) (l ∷ ls) = ap (λ x. x ∷ ls) (lowered_raised t l)
taken_back patched lobs = refl
taken_back removed lobs = refl

-- ---- the last LOB gone

some_lob : List HeldLob → Bool
some_lob [] = false
some_lob (l ∷ ls) = true

some_after : (k : Kind) (lobs : List HeldLob) → some_lob lobs ≡ true → some_lob (add k lobs) ≡ true
unfolding some_lob
some_after (inserted n) lobs h = refl
some_after (rebuilt n) lobs h = refl
some_after (versioned t) [] h = h
some_after (versioned t) (l ∷ ls) h = refl
some_after patched lobs h = h
some_after removed lobs h = h

last_gone : (k : Kind) (lobs : List HeldLob) → some_lob lobs ≡ true → but_last (add k lobs) ≡ add k (but_last lobs)
unfolding some_lob
last_gone k [] h = absurd (true≢false (sym h))
last_gone (inserted n) (l ∷ ls) h = refl
last_gone (rebuilt n) (l ∷ ls) h = refl
last_gone (versioned t) (l ∷ []) h = refl
last_gone (versioned t) (l ∷ m ∷ ls) h = refl
last_gone patched (l ∷ ls) h = refl
last_gone removed (l ∷ ls) h = refl

some_after_all : (ks : List Kind) (lobs : List HeldLob) → some_lob lobs ≡ true → some_lob (add_all ks lobs) ≡ true
some_after_all [] lobs h = h
some_after_all (k ∷ ks) lobs h = some_after k (add_all ks lobs) (some_after_all ks lobs h)

last_gone_all : (ks : List Kind) (lobs : List HeldLob) → some_lob lobs ≡ true → but_last (add_all ks lobs) ≡ add_all ks (but_last lobs)
last_gone_all [] lobs h = refl
last_gone_all (k ∷ ks) lobs h = last_gone k (add_all ks lobs) (some_after_all ks lobs h) ∙ ap (add k) (last_gone_all ks lobs h)

-- ---- the oldest versions of the last LOB gone

-- the touched pieces have two versions at least
AreThick : List ℕ → ℕ → List (List ℕ) → Type 0
AreThick t n [] = Unit {0}
AreThick t n (vs ∷ ps) = (is_in n t ≡ true → 2 ≤ length vs) × AreThick t (n + 1) ps

LastThick : List ℕ → List HeldLob → Type 0
LastThick t [] = ⊥
LastThick t (l ∷ []) = AreThick t 1 l.pieces
LastThick t (l ∷ m ∷ ls) = LastThick t (m ∷ ls)

thick_raised : (t u : List ℕ) (v n : ℕ) (ps : List (List ℕ)) → AreThick t n ps → AreThick t n (at_pieces u (λ vs. v ∷ vs) n ps)
unfolding AreThick
thick_raised t u v n [] h = tt
thick_raised t u v n (vs ∷ ps) h = (by_test (is_in n u) h.0, thick_raised t u v (n + 1) ps h.1)
  where
    by_test : (b : Bool) → (is_in n t ≡ true → 2 ≤ length vs) → is_in n t ≡ true → 2 ≤ length (if b then v ∷ vs else vs)
    by_test true g e = let two : 2 ≤ length vs = g e in omega (arith, two)
    by_test false g e = g e

front_kept : (v : ℕ) (vs : List ℕ) → 2 ≤ length vs → but_last (v ∷ vs) ≡ v ∷ but_last vs
front_kept v [] h = absurd (omega (arith, h))
front_kept v (w ∷ vs) h = refl

thinned_raised_pieces : (t u : List ℕ) (v n : ℕ) (ps : List (List ℕ)) → AreThick t n ps
    → at_pieces t but_last n (at_pieces u (λ vs. v ∷ vs) n ps) ≡ at_pieces u (λ vs. v ∷ vs) n (at_pieces t but_last n ps)
unfolding AreThick
thinned_raised_pieces t u v n [] h = refl
thinned_raised_pieces t u v n (vs ∷ ps) h = by_tests (is_in n t) (is_in n u) refl h.0 (thinned_raised_pieces t u v (n + 1) ps h.1)
  where
    by_tests : (a b : Bool) → is_in n t ≡ a → (is_in n t ≡ true → 2 ≤ length vs)
        → at_pieces t but_last (n + 1) (at_pieces u (λ vs. v ∷ vs) (n + 1) ps) ≡ at_pieces u (λ vs. v ∷ vs) (n + 1) (at_pieces t but_last (n + 1) ps)
        → (if a then but_last (if b then v ∷ vs else vs) else (if b then v ∷ vs else vs)) ∷ at_pieces t but_last (n + 1) (at_pieces u (λ vs. v ∷ vs) (n + 1) ps)
        ≡ (if b then v ∷ (if a then but_last vs else vs) else (if a then but_last vs else vs)) ∷ at_pieces u (λ vs. v ∷ vs) (n + 1) (at_pieces t but_last (n + 1) ps)
    by_tests true true e two rest = ap (λ x. x ∷ at_pieces t but_last (n + 1) (at_pieces u (λ vs. v ∷ vs) (n + 1) ps)) (front_kept v vs (two e)) ∙ ap (λ x. (v ∷ but_last vs) ∷ x) rest
    by_tests true false e two rest = ap (λ x. but_last vs ∷ x) rest
    by_tests false true e two rest = ap (λ x. (v ∷ vs) ∷ x) rest
    by_tests false false e two rest = ap (λ x. vs ∷ x) rest

thinned_raised : (t u : List ℕ) (l : HeldLob) → AreThick t 1 l.pieces → thinned t (raised u l) ≡ raised u (thinned t l)
unfolding lob_of
thinned_raised t u l h = ap (lob_of (l.version + 1)) (thinned_raised_pieces t u (l.version + 1) 1 l.pieces h)

thick_after : (t : List ℕ) (k : Kind) (lobs : List HeldLob) → LastThick t lobs → LastThick t (add k lobs)
unfolding LastThick
thick_after t k [] h = absurd h
thick_after t (inserted n) (l ∷ ls) h = h
thick_after t (rebuilt n) (l ∷ ls) h = h
thick_after t (versioned u) (l ∷ []) h = thick_raised t u (l.version + 1) 1 l.pieces h
thick_after t (versioned u) (l ∷ m ∷ ls) h = h
thick_after t patched (l ∷ ls) h = h
thick_after t removed (l ∷ ls) h = h

thinned_after : (t : List ℕ) (k : Kind) (lobs : List HeldLob) → LastThick t lobs → at_last (thinned t) (add k lobs) ≡ add k (at_last (thinned t) lobs)
unfolding LastThick
thinned_after t k [] h = absurd h
thinned_after t (inserted n) (l ∷ ls) h = refl
thinned_after t (rebuilt n) (l ∷ ls) h = refl
thinned_after t (versioned u) (l ∷ []) h = ap (λ x. x ∷ []) (thinned_raised t u l h)
thinned_after t (versioned u) (l ∷ m ∷ ls) h = refl
thinned_after t patched (l ∷ ls) h = refl
thinned_after t removed (l ∷ ls) h = refl

thick_after_all : (t : List ℕ) (ks : List Kind) (lobs : List HeldLob) → LastThick t lobs → LastThick t (add_all ks lobs)
thick_after_all t [] lobs h = h
thick_after_all t (k ∷ ks) lobs h = thick_after t k (add_all ks lobs) (thick_after_all t ks lobs h)

thinned_after_all : (t : List ℕ) (ks : List Kind) (lobs : List HeldLob) → LastThick t lobs → at_last (thinned t) (add_all ks lobs) ≡ add_all ks (at_last (thinned t) lobs)
thinned_after_all t [] lobs h = refl
thinned_after_all t (k ∷ ks) lobs h = thinned_after t k (add_all ks lobs) (thick_after_all t ks lobs h) ∙ ap (add k) (thinned_after_all t ks lobs h)

-- ---- of a LOB with one version of each piece

thick_once : (t : List ℕ) (v n : ℕ) (ps : List (List ℕ)) → AreSingle ps → AreThick t n (at_pieces t (λ vs. v ∷ vs) n ps)
unfolding AreThick AreSingle
thick_once t v n [] h = tt
thick_once t v n (vs ∷ ps) h = (by_test (is_in n t) refl h.0, thick_once t v (n + 1) ps h.1)
  where
    two_of : (w : ℕ) → vs ≡ w ∷ [] → 2 ≤ length (v ∷ vs)
    two_of w e = rw e (omega arith)

    by_test : (b : Bool) → is_in n t ≡ b → (w : ℕ) × (vs ≡ w ∷ []) → is_in n t ≡ true → 2 ≤ length (if b then v ∷ vs else vs)
    by_test true e one f = two_of one.0 one.1
    by_test false e one f = absurd (true≢false (sym f ∙ e))

thinned_once : (t : List ℕ) (v n : ℕ) (ps : List (List ℕ)) → AreSingle ps → at_pieces t but_last n (at_pieces t (λ vs. v ∷ vs) n ps) ≡ at_pieces t (λ vs. v ∷ []) n ps
unfolding AreSingle
thinned_once t v n [] h = refl
thinned_once t v n (vs ∷ ps) h = by_test (is_in n t) h.0 (thinned_once t v (n + 1) ps h.1)
  where
    by_test : (b : Bool) → (w : ℕ) × (vs ≡ w ∷ []) → at_pieces t but_last (n + 1) (at_pieces t (λ vs. v ∷ vs) (n + 1) ps) ≡ at_pieces t (λ vs. v ∷ []) (n + 1) ps
        → (if b then but_last (if b then v ∷ vs else vs) else (if b then v ∷ vs else vs)) ∷ at_pieces t but_last (n + 1) (at_pieces t (λ vs. v ∷ vs) (n + 1) ps)
        ≡ (if b then v ∷ [] else vs) ∷ at_pieces t (λ vs. v ∷ []) (n + 1) ps
    by_test true one rest = ap (λ x. but_last (v ∷ x) ∷ at_pieces t but_last (n + 1) (at_pieces t (λ vs. v ∷ vs) (n + 1) ps)) one.1 ∙ ap (λ x. (v ∷ []) ∷ x) rest
    by_test false one rest = ap (λ x. vs ∷ x) rest

single_renewed : (t : List ℕ) (v n : ℕ) (ps : List (List ℕ)) → AreSingle ps → AreSingle (at_pieces t (λ vs. v ∷ []) n ps)
unfolding AreSingle
single_renewed t v n [] h = tt
single_renewed t v n (vs ∷ ps) h = (by_test (is_in n t) h.0, single_renewed t v (n + 1) ps h.1)
  where
    by_test : (b : Bool) → (w : ℕ) × (vs ≡ w ∷ []) → (w : ℕ) × ((if b then v ∷ [] else vs) ≡ w ∷ [])
    by_test true one = (v, refl)
    by_test false one = one

single_new : (n : ℕ) → AreSingle (copies n)
unfolding AreSingle
single_new zero = tt
single_new (suc n) = ((1, refl), single_new n)

pub single_behind : (k : Kind) (l : Option HeldLob) → IfSome l (λ x. AreSingle x.pieces) → IfSome (lob_behind k l) (λ x. AreSingle x.pieces)
single_behind (inserted n) l h = single_new n
single_behind (rebuilt n) l h = single_new n
single_behind (versioned t) None h = tt
single_behind (versioned t) (Some x) h = single_renewed t (x.version + 1) 1 x.pieces h
single_behind patched l h = h
single_behind removed l h = tt

-- the LOB behind changes has one version of each piece
pub single_behind_all : (ms : List Made) (l : Option HeldLob) → IfSome l (λ x. AreSingle x.pieces) → IfSome (lob_behind_all ms l) (λ x. AreSingle x.pieces)
single_behind_all [] l h = h
single_behind_all (m ∷ ms) l h = single_behind m.kind (lob_behind_all ms l) (single_behind_all ms l h)

-- ---- one change purged, below others

one_purged : (k : Kind) (ks : List Kind) (l : Option HeldLob) → IsFitting k l → IfSome l (λ x. AreSingle x.pieces)
    → drop_old k (add_all ks (add k (option_to_list l))) ≡ add_all ks (option_to_list (lob_behind k l))
unfolding some_lob LastThick lob_of
one_purged (inserted n) ks l fits single = ap (λ x. add_all ks (new_lob n ∷ option_to_list x)) fits
one_purged (rebuilt n) ks (Some x) fits single = last_gone_all ks (new_lob n ∷ x ∷ []) refl
one_purged (versioned t) ks (Some x) fits single =
    thinned_after_all t ks (raised t x ∷ []) (thick_once t (x.version + 1) 1 x.pieces single)
    ∙ ap (λ ps. add_all ks (lob_of (x.version + 1) ps ∷ [])) (thinned_once t (x.version + 1) 1 x.pieces single)
one_purged patched ks l fits single = refl
one_purged removed ks (Some x) fits single = last_gone_all ks (x ∷ []) refl
one_purged (rebuilt n) ks None fits single = absurd (true≢false (sym fits))
one_purged (versioned t) ks None fits single = absurd (true≢false (sym fits))
one_purged removed ks None fits single = absurd (true≢false (sym fits))

add_append : (ks js : List Kind) (lobs : List HeldLob) → add_all (ks ++ js) lobs ≡ add_all ks (add_all js lobs)
add_append [] js lobs = refl
add_append (k ∷ ks) js lobs = ap (add k) (add_append ks js lobs)

-- several, the oldest first
pub all_purged : (low : List Made) (ks : List Kind) (l : Option HeldLob) → AreFitting l low → IfSome l (λ x. AreSingle x.pieces)
    → drop_all_old (kinds low) (add_all ks (add_all (kinds low) (option_to_list l))) ≡ add_all ks (option_to_list (lob_behind_all low l))
unfolding AreFitting
all_purged [] ks l fits single = refl
all_purged (m ∷ ms) ks l fits single =
    ap (λ x. drop_old m.kind (drop_all_old (kinds ms) x)) (sym (add_append ks (m.kind ∷ []) (add_all (kinds ms) (option_to_list l))))
    ∙ ap (drop_old m.kind) (all_purged ms (ks ++ m.kind ∷ []) l fits.2 single ∙ add_append ks (m.kind ∷ []) (option_to_list (lob_behind_all ms l)))
    ∙ one_purged m.kind ks (lob_behind_all ms l) fits.0 (single_behind_all ms l single)
