-- Lists of version numbers, piece by piece: one gains, or loses, its newest.
use Rattle.std.proofs.Common.{◌≡◌, ◌≢◌, ℕ, zero, suc, ◌+◌, ◌≤◌, ◌<◌, Bool, true, false, nat_eq, List, [], ◌∷◌, ◌++◌, map, Option, Some, None, option_map, refl, sym, ap, ap₂, subst, ◌∙◌, arith, if◌then◌else◌, ◌||◌}
use Rattle.journal_model.specs.Held.{is_in, at_pieces, copies}
use Rattle.store_data.specs.Store.{Version, Piece}
use Rattle.store_data.specs.Pieces.{pushed, popped, all_but_last}
use Rattle.store_model.specs.Steps.{on_piece}
use Rattle.store_model.specs.Owned.{IsNotAmong, AreDifferent}
use Rattle.store_model.specs.Takes.{piece_of}
use Rattle.kept_model.specs.Held.{numbers_of}
use Rattle.kept_model.specs.Pages.{AllUpTo, AreBelow}

-- at the k-th list
abbrev pub on_nth : ℕ → (List ℕ → List ℕ) → List (List ℕ) → List (List ℕ)
on_nth k f [] = []
on_nth zero f (p ∷ ps) = f p ∷ ps
on_nth (suc k) f (p ∷ ps) = p ∷ on_nth k f ps

abbrev pub nth : ℕ → List (List ℕ) → Option (List ℕ)
nth k [] = None
nth zero (p ∷ ps) = Some p
nth (suc k) (p ∷ ps) = nth k ps

pub numbers_on : (k : ℕ) (f : Piece → Piece) (g : List ℕ → List ℕ) (ps : List Piece) → ((p : Piece) → numbers_of (f p) ≡ g (numbers_of p)) → map numbers_of (on_piece k f ps) ≡ on_nth k g (map numbers_of ps)
numbers_on k f g [] same = refl
numbers_on zero f g (p ∷ ps) same = ap (λ x. x ∷ map numbers_of ps) (same p)
numbers_on (suc k) f g (p ∷ ps) same = ap (λ xs. numbers_of p ∷ xs) (numbers_on k f g ps same)

pub nth_numbers : (k : ℕ) (ps : List Piece) (p : Piece) → piece_of k ps ≡ Some p → nth k (map numbers_of ps) ≡ Some (numbers_of p)
nth_numbers k [] p h = absurd (cc h)
nth_numbers zero (q ∷ qs) p h = ap (λ (x : Option Piece). option_map numbers_of x) h
nth_numbers (suc k) (q ∷ qs) p h = nth_numbers k qs p h

-- without its newest, where there are others
abbrev pub popped_from : ℕ → List ℕ → List ℕ
popped_from n [] = n ∷ []
popped_from n (m ∷ ns) = m ∷ ns

abbrev pub without_newest : List ℕ → List ℕ
without_newest [] = []
without_newest (n ∷ ns) = popped_from n ns

pub numbers_popped : (p : Piece) → numbers_of (popped p) ≡ without_newest (numbers_of p)
numbers_popped p = by_older p.older refl
  where
    by_older : (vs : List Version) → p.older ≡ vs → numbers_of (Rattle.store_data.specs.Pieces.popped_to p.head.place vs p) ≡ popped_from p.head.number (map (λ (v : Version). v.number) vs)
    by_older [] e = ap (λ (vs : List Version). p.head.number ∷ map (λ (v : Version). v.number) vs) e
    by_older (v ∷ vs) e = refl

-- ---- numbers of pieces

pub is_self : (n : ℕ) → nat_eq n n ≡ true
is_self n = grind arith

pub differ : (a b : ℕ) → a < b → nat_eq a b ≡ false
differ a b h = grind (arith, h)

pub differ_back : (a b : ℕ) → b < a → nat_eq a b ≡ false
differ_back a b h = grind (arith, h)

pub in_more : (n x : ℕ) (done : List ℕ) → nat_eq x n ≡ false → is_in n (done ++ x ∷ []) ≡ is_in n done
in_more n x [] other = ap (λ (b : Bool). b || false) other
in_more n x (d ∷ ds) other = ap (λ (b : Bool). nat_eq d n || b) (in_more n x ds other)

pub in_last : (n : ℕ) (done : List ℕ) → is_in n (done ++ n ∷ []) ≡ true
in_last n [] = ap (λ (b : Bool). b || false) (is_self n)
in_last n (d ∷ ds) = ap (λ (b : Bool). nat_eq d n || b) (in_last n ds) ∙ or_true (nat_eq d n)
  where
    or_true : (b : Bool) → (b || true) ≡ true
    or_true true = refl
    or_true false = refl

pub at_more : (x n : ℕ) (done : List ℕ) (f : List ℕ → List ℕ) (ps : List (List ℕ)) → x < n → at_pieces (done ++ x ∷ []) f n ps ≡ at_pieces done f n ps
at_more x n done f [] less = refl
at_more x n done f (p ∷ ps) less = ap₂ (λ (b : Bool) (qs : List (List ℕ)). (if b then f p else p) ∷ qs) (in_more n x done (differ x n less)) (at_more x (n + 1) done f ps (omega (arith, less)))

-- one more piece gets a version
pub push_at : (k n v : ℕ) (done : List ℕ) (ps : List (List ℕ)) → is_in (n + k) done ≡ false → on_nth k (λ vs. v ∷ vs) (at_pieces done (λ vs. v ∷ vs) n ps) ≡ at_pieces (done ++ (n + k) ∷ []) (λ vs. v ∷ vs) n ps
push_at k n v done [] off = refl
push_at zero n v done (p ∷ ps) off =
    let z : n + 0 ≡ n = omega arith in
    subst (λ (x : ℕ). is_in x done ≡ false → (v ∷ (if is_in n done then v ∷ p else p)) ∷ at_pieces done (λ vs. v ∷ vs) (n + 1) ps ≡ at_pieces (done ++ x ∷ []) (λ vs. v ∷ vs) n (p ∷ ps)) (sym z)
    (λ here. ap₂ (λ (b : Bool) (qs : List (List ℕ)). (v ∷ (if b then v ∷ p else p)) ∷ qs) here (sym (at_more n (n + 1) done (λ vs. v ∷ vs) ps (omega arith)))
    ∙ sym (ap (λ (b : Bool). (if b then v ∷ p else p) ∷ at_pieces (done ++ n ∷ []) (λ vs. v ∷ vs) (n + 1) ps) (in_last n done))) off
push_at (suc k) n v done (p ∷ ps) off =
    let z : n + suc k ≡ n + 1 + k = omega arith in
    subst (λ (x : ℕ). is_in x done ≡ false → (if is_in n done then v ∷ p else p) ∷ on_nth k (λ vs. v ∷ vs) (at_pieces done (λ vs. v ∷ vs) (n + 1) ps) ≡ at_pieces (done ++ x ∷ []) (λ vs. v ∷ vs) n (p ∷ ps)) (sym z)
    (push_rest (push_at k (n + 1) v done ps)) off
  where
    push_rest : (is_in (n + 1 + k) done ≡ false → on_nth k (λ vs. v ∷ vs) (at_pieces done (λ vs. v ∷ vs) (n + 1) ps) ≡ at_pieces (done ++ (n + 1 + k) ∷ []) (λ vs. v ∷ vs) (n + 1) ps) → is_in (n + 1 + k) done ≡ false
        → (if is_in n done then v ∷ p else p) ∷ on_nth k (λ vs. v ∷ vs) (at_pieces done (λ vs. v ∷ vs) (n + 1) ps) ≡ at_pieces (done ++ (n + 1 + k) ∷ []) (λ vs. v ∷ vs) n (p ∷ ps)
    push_rest rest here = ap₂ (λ (b : Bool) (qs : List (List ℕ)). (if b then v ∷ p else p) ∷ qs) (sym (in_more n (n + 1 + k) done (differ_back (n + 1 + k) n (omega arith)))) (rest here)

-- a number that stands behind others of different ones isn't among them
pub not_in : (x : ℕ) (done more : List ℕ) → AreDifferent (done ++ x ∷ more) → is_in x done ≡ false
not_in x [] more h = refl
not_in x (d ∷ ds) more h = ap₂ (λ (a b : Bool). a || b) (other d ds h.0) (not_in x ds more h.1)
  where
    other : (d : ℕ) (ds : List ℕ) → IsNotAmong d (ds ++ x ∷ more) → nat_eq d x ≡ false
    other d [] off = (let o : x ≢ d = off.0 in grind (arith, o))
    other d (e ∷ es) off = other d es off.1

-- ---- one piece loses its version again

abbrev pub removed_from : ℕ → List ℕ → List ℕ
removed_from x [] = []
removed_from x (d ∷ ds) = if nat_eq d x then removed_from x ds else d ∷ removed_from x ds

pub in_removed : (n x : ℕ) (done : List ℕ) → is_in n (removed_from x done) ≡ true → is_in n done ≡ true
in_removed n x [] h = h
in_removed n x (d ∷ ds) h = by_test (nat_eq d x) (nat_eq d n) refl h (in_removed n x ds)
  where
    by_test : (a b : Bool) → nat_eq d n ≡ b → is_in n (if a then removed_from x ds else d ∷ removed_from x ds) ≡ true → (is_in n (removed_from x ds) ≡ true → is_in n ds ≡ true) → (b || is_in n ds) ≡ true
    by_test a true e h rest = refl
    by_test true false e h rest = rest h
    by_test false false e h rest = rest (sym (ap (λ (c : Bool). c || is_in n (removed_from x ds)) e) ∙ h)

not_removed : (n : ℕ) (done : List ℕ) → is_in n (removed_from n done) ≡ false
not_removed n [] = refl
not_removed n (d ∷ ds) = by_test (nat_eq d n) refl (not_removed n ds)
  where
    by_test : (a : Bool) → nat_eq d n ≡ a → is_in n (removed_from n ds) ≡ false → is_in n (if a then removed_from n ds else d ∷ removed_from n ds) ≡ false
    by_test true e rest = rest
    by_test false e rest = ap (λ (c : Bool). c || is_in n (removed_from n ds)) e ∙ rest

others_removed : (n x : ℕ) (done : List ℕ) → nat_eq x n ≡ false → is_in n (removed_from x done) ≡ is_in n done
others_removed n x [] other = refl
others_removed n x (d ∷ ds) other = by_test (nat_eq d x) refl (others_removed n x ds other)
  where
    by_test : (a : Bool) → nat_eq d x ≡ a → is_in n (removed_from x ds) ≡ is_in n ds → is_in n (if a then removed_from x ds else d ∷ removed_from x ds) ≡ (nat_eq d n || is_in n ds)
    by_test true e rest = rest ∙ sym (ap (λ (c : Bool). c || is_in n ds) (let same : d ≡ x = grind (arith, e) in ap (λ (m : ℕ). nat_eq m n) same ∙ other))
    by_test false e rest = ap (λ (c : Bool). nat_eq d n || c) rest

at_removed : (x n : ℕ) (done : List ℕ) (f : List ℕ → List ℕ) (ps : List (List ℕ)) → x < n → at_pieces (removed_from x done) f n ps ≡ at_pieces done f n ps
at_removed x n done f [] less = refl
at_removed x n done f (p ∷ ps) less = ap₂ (λ (b : Bool) (qs : List (List ℕ)). (if b then f p else p) ∷ qs) (others_removed n x done (differ x n less)) (at_removed x (n + 1) done f ps (omega (arith, less)))

-- what stands at a piece
pub nth_at : (k n : ℕ) (done : List ℕ) (f : List ℕ → List ℕ) (ps : List (List ℕ)) → nth k (at_pieces done f n ps) ≡ option_map (λ (p : List ℕ). if is_in (n + k) done then f p else p) (nth k ps)
nth_at k n done f [] = refl
nth_at zero n done f (p ∷ ps) = ap (λ (x : ℕ). Some (if is_in x done then f p else p)) (let z : n ≡ n + 0 = omega arith in z)
nth_at (suc k) n done f (p ∷ ps) = nth_at k (n + 1) done f ps ∙ ap (λ (x : ℕ). option_map (λ (q : List ℕ). if is_in x done then f q else q) (nth k ps)) (let z : n + 1 + k ≡ n + suc k = omega arith in z)

pub nth_below : (k v : ℕ) (ps : List (List ℕ)) (p : List ℕ) → AreBelow v ps → nth k ps ≡ Some p → AllUpTo v p
nth_below k v [] p h e = absurd (cc e)
nth_below zero v (q ∷ qs) p h e = subst (AllUpTo v) (let same : q ≡ p = cc e in same) h.0
nth_below (suc k) v (q ∷ qs) p h e = nth_below k v qs p h.1 e

some_newest : (v : ℕ) (p : List ℕ) → (p ≢ []) → without_newest (v ∷ p) ≡ p
some_newest v [] some = absurd (some refl)
some_newest v (m ∷ ns) some = refl

-- a piece whose list has the version in front, and others, loses it
pub pop_at : (k n v : ℕ) (done : List ℕ) (ps : List (List ℕ)) → ((p : List ℕ) → nth k ps ≡ Some p → (is_in (n + k) done ≡ true) × (p ≢ []))
    → on_nth k without_newest (at_pieces done (λ vs. v ∷ vs) n ps) ≡ at_pieces (removed_from (n + k) done) (λ vs. v ∷ vs) n ps
pop_at k n v done [] has = refl
pop_at zero n v done (p ∷ ps) has =
    let z : n + 0 ≡ n = omega arith in
    subst (λ (x : ℕ). is_in x done ≡ true → without_newest (if is_in n done then v ∷ p else p) ∷ at_pieces done (λ vs. v ∷ vs) (n + 1) ps ≡ at_pieces (removed_from x done) (λ vs. v ∷ vs) n (p ∷ ps)) (sym z)
    (λ here. ap₂ (λ (b : Bool) (qs : List (List ℕ)). without_newest (if b then v ∷ p else p) ∷ qs) here (sym (at_removed n (n + 1) done (λ vs. v ∷ vs) ps (omega arith)))
    ∙ ap (λ (q : List ℕ). q ∷ at_pieces (removed_from n done) (λ vs. v ∷ vs) (n + 1) ps) (some_newest v p (has p refl).1)
    ∙ sym (ap (λ (b : Bool). (if b then v ∷ p else p) ∷ at_pieces (removed_from n done) (λ vs. v ∷ vs) (n + 1) ps) (not_removed n done))) (has p refl).0
pop_at (suc k) n v done (p ∷ ps) has =
    let z : n + suc k ≡ n + 1 + k = omega arith in
    let rest = pop_at k (n + 1) v done ps (λ q e. ((ap (λ (x : ℕ). is_in x done) (sym z)) ∙ (has q e).0, (has q e).1)) in
    ap₂ (λ (b : Bool) (qs : List (List ℕ)). (if b then v ∷ p else p) ∷ qs) (sym (others_removed n (n + 1 + k) done (differ_back (n + 1 + k) n (omega arith)))) rest
    ∙ ap (λ (x : ℕ). at_pieces (removed_from x done) (λ vs. v ∷ vs) n (p ∷ ps)) (sym z)

-- where no list has a number above v, none has v + 1
pub none_at : (v n : ℕ) (done : List ℕ) (ps : List (List ℕ)) → AreBelow v (at_pieces done (λ vs. (v + 1) ∷ vs) n ps) → at_pieces done (λ vs. (v + 1) ∷ vs) n ps ≡ ps
none_at v n done [] h = refl
none_at v n done (p ∷ ps) h = ap₂ (λ (x : List ℕ) (xs : List (List ℕ)). x ∷ xs) (by_test (is_in n done) h.0) (none_at v (n + 1) done ps h.1)
  where
    by_test : (b : Bool) → AllUpTo v (if b then (v + 1) ∷ p else p) → (if b then (v + 1) ∷ p else p) ≡ p
    by_test true g = let high : v + 1 ≤ v = g.0 in absurd (omega (arith, high))
    by_test false g = refl

-- ---- copies

pub one_more : (n : ℕ) → copies n ++ (1 ∷ []) ∷ [] ≡ copies (suc n)
one_more zero = refl
one_more (suc n) = ap (λ xs. (1 ∷ []) ∷ xs) (one_more n)

pub one_fewer : (n : ℕ) → all_but_last (copies (suc n)) ≡ copies n
one_fewer zero = refl
one_fewer (suc n) = ap (λ xs. (1 ∷ []) ∷ xs) (one_fewer n)

pub map_but_last : {A B : Type 0} (f : A → B) (xs : List A) → map f (all_but_last xs) ≡ all_but_last (map f xs)
map_but_last f [] = refl
map_but_last f (x ∷ []) = refl
map_but_last f (x ∷ y ∷ ys) = ap (λ zs. f x ∷ zs) (map_but_last f (y ∷ ys))
