-- What the events of a purged record that made versions do to the LOBs of documents.
use Rattle.std.proofs.Common.{◌≡◌, ℕ, zero, suc, ◌+◌, Bool, true, false, true≢false, List, [], ◌∷◌, ◌++◌, map, Option, Some, None, option_map, refl, sym, ap, ap₂, subst, ◌∙◌, arith, if◌then◌else◌}
use Rattle.journal_model.specs.Held.{Kind, inserted, rebuilt, versioned, patched, removed, HeldLob, is_in, at_pieces, at_first, but_last, thinned, new_lob, raised, add, add_all}
use Rattle.journal_model.specs.History.{last_of}
use Rattle.history_model.specs.Sound.{AreSingle}
use Rattle.store_data.specs.Store.{Version, Piece}
use Rattle.store_data.specs.Pieces.{dropped, all_but_last}
use Rattle.kept_model.specs.Held.{numbers_of}
use Rattle.kept_model.specs.Pages.{AreBelow}
use Rattle.kept_model.proofs.NumberLists.{on_nth, nth, nth_at, differ_back, in_more, in_last, at_more}
use Rattle.kept_model.proofs.PassLobs.{but_last_of}

-- ---- the last LOB, below changes

last_one : List HeldLob → Option HeldLob
last_one [] = None
last_one (x ∷ []) = Some x
last_one (x ∷ y ∷ ys) = last_one (y ∷ ys)

last_is : (xs : List HeldLob) (x : HeldLob) → last_one (xs ++ x ∷ []) ≡ Some x
unfolding last_one
last_is [] x = refl
last_is (y ∷ []) x = refl
last_is (y ∷ z ∷ xs) x = last_is (z ∷ xs) x

pub same_ends : (xs ys : List HeldLob) (x y : HeldLob) → xs ++ x ∷ [] ≡ ys ++ y ∷ [] → (xs ≡ ys) × (x ≡ y)
same_ends xs ys x y e = (sym (but_last_of xs x) ∙ ap but_last e ∙ but_last_of ys y, cc (sym (last_is xs x) ∙ ap last_one e ∙ last_is ys y))

module _ (g : HeldLob → HeldLob) (Q : HeldLob → Type 0) (stable : (t : List ℕ) (l : HeldLob) → Q l → Q (raised t l)) (comm : (t : List ℕ) (l : HeldLob) → Q l → raised t (g l) ≡ g (raised t l)) where
  -- changes in front leave what is done to it
  pub below_all : (ks : List Kind) (z : HeldLob) → Q z → (xs : List HeldLob) × (x : HeldLob) × (add_all ks (z ∷ []) ≡ xs ++ x ∷ []) × (add_all ks (g z ∷ []) ≡ xs ++ g x ∷ []) × Q x
  below_all [] z q = ([], z, refl, refl, q)
  below_all (k ∷ ks) z q = let r = below_all ks z q in by_kind k r.0 r.1 r.2 r.3 r.4
    where
      by_kind : (k : Kind) (xs : List HeldLob) (x : HeldLob) → add_all ks (z ∷ []) ≡ xs ++ x ∷ [] → add_all ks (g z ∷ []) ≡ xs ++ g x ∷ [] → Q x
          → (ys : List HeldLob) × (y : HeldLob) × (add k (add_all ks (z ∷ [])) ≡ ys ++ y ∷ []) × (add k (add_all ks (g z ∷ [])) ≡ ys ++ g y ∷ []) × Q y
      by_kind (inserted n) xs x a b h = (new_lob n ∷ xs, x, ap (λ (ls : List HeldLob). new_lob n ∷ ls) a, ap (λ (ls : List HeldLob). new_lob n ∷ ls) b, h)
      by_kind (rebuilt n) xs x a b h = (new_lob n ∷ xs, x, ap (λ (ls : List HeldLob). new_lob n ∷ ls) a, ap (λ (ls : List HeldLob). new_lob n ∷ ls) b, h)
      by_kind (versioned t) [] x a b h = ([], raised t x, ap (at_first (raised t)) a, ap (at_first (raised t)) b ∙ ap (λ (l : HeldLob). l ∷ []) (comm t x h), stable t x h)
      by_kind (versioned t) (y ∷ ys) x a b h = (raised t y ∷ ys, x, ap (at_first (raised t)) a, ap (at_first (raised t)) b, h)
      by_kind patched xs x a b h = (xs, x, a, b, h)
      by_kind removed xs x a b h = (xs, x, a, b, h)

-- ---- without the oldest version of a piece, where there are others

abbrev pub fewer_from : ℕ → List ℕ → List ℕ
fewer_from n [] = n ∷ []
fewer_from n (m ∷ ns) = n ∷ but_last (m ∷ ns)

abbrev pub without_oldest : List ℕ → List ℕ
without_oldest [] = []
without_oldest (n ∷ ns) = fewer_from n ns

pub numbers_dropped : (p : Piece) → numbers_of (dropped p) ≡ without_oldest (numbers_of p)
numbers_dropped p = by_older p.older
  where
    shorter : (v : Version) (vs : List Version) → map (λ (w : Version). w.number) (all_but_last (v ∷ vs)) ≡ but_last (v.number ∷ map (λ (w : Version). w.number) vs)
    shorter v [] = refl
    shorter v (w ∷ ws) = ap (λ (ns : List ℕ). v.number ∷ ns) (shorter w ws)

    by_older : (vs : List Version) → p.head.number ∷ map (λ (w : Version). w.number) (all_but_last vs) ≡ fewer_from p.head.number (map (λ (w : Version). w.number) vs)
    by_older [] = refl
    by_older (v ∷ vs) = ap (λ (ns : List ℕ). p.head.number ∷ ns) (shorter v vs)

-- a piece has a number, or two and more
abbrev pub IsSome1 : List ℕ → Type 0
IsSome1 [] = ⊥
IsSome1 (n ∷ ns) = Unit {0}

abbrev pub IsTwo : List ℕ → Type 0
IsTwo [] = ⊥
IsTwo (n ∷ []) = ⊥
IsTwo (n ∷ m ∷ ns) = Unit {0}

pub last_more : (v : ℕ) (ns : List ℕ) → IsSome1 ns → last_of (v ∷ ns) ≡ last_of ns
last_more v [] h = absurd h
last_more v (n ∷ ns) h = refl

pub without_more : (v : ℕ) (ns : List ℕ) → IsTwo ns → v ∷ without_oldest ns ≡ without_oldest (v ∷ ns)
without_more v [] h = absurd h
without_more v (n ∷ []) h = absurd h
without_more v (n ∷ m ∷ ns) h = refl

-- one more piece of which something is done
pub more_at : (k n : ℕ) (f h : List ℕ → List ℕ) (done : List ℕ) (ps : List (List ℕ)) → is_in (n + k) done ≡ false → ((q : List ℕ) → nth k ps ≡ Some q → h q ≡ f q)
    → on_nth k h (at_pieces done f n ps) ≡ at_pieces (done ++ (n + k) ∷ []) f n ps
more_at k n f h done [] off same = refl
more_at zero n f h done (p ∷ ps) off same =
    let z : n + 0 ≡ n = omega arith in
    subst (λ (x : ℕ). is_in x done ≡ false → h (if is_in n done then f p else p) ∷ at_pieces done f (n + 1) ps ≡ at_pieces (done ++ x ∷ []) f n (p ∷ ps)) (sym z)
    (λ here. ap₂ (λ (b : Bool) (qs : List (List ℕ)). h (if b then f p else p) ∷ qs) here (sym (at_more n (n + 1) done f ps (omega arith)))
    ∙ ap (λ (q : List ℕ). q ∷ at_pieces (done ++ n ∷ []) f (n + 1) ps) (same p refl)
    ∙ sym (ap (λ (b : Bool). (if b then f p else p) ∷ at_pieces (done ++ n ∷ []) f (n + 1) ps) (in_last n done))) off
more_at (suc k) n f h done (p ∷ ps) off same =
    let z : n + suc k ≡ n + 1 + k = omega arith in
    let rest = more_at k (n + 1) f h done ps (ap (λ (x : ℕ). is_in x done) (sym z) ∙ off) same in
    ap₂ (λ (b : Bool) (qs : List (List ℕ)). (if b then f p else p) ∷ qs) (sym (in_more n (n + 1 + k) done (differ_back (n + 1 + k) n (omega arith)))) rest
    ∙ ap (λ (x : ℕ). at_pieces (done ++ x ∷ []) f n (p ∷ ps)) (sym z)

-- ---- a LOB of single versions, raised, and some of the old ones dropped

abbrev pub lob_as : ℕ → List (List ℕ) → HeldLob
lob_as v ps = record { version = v; pieces = ps }

pub single_at : (j : ℕ) (ps : List (List ℕ)) (q : List ℕ) → AreSingle ps → nth j ps ≡ Some q → (w : ℕ) × (q ≡ w ∷ [])
unfolding AreSingle
single_at j [] q h e = absurd (cc e)
single_at zero (p ∷ ps) q h e = let same : p ≡ q = cc e in (h.0.0, sym same ∙ h.0.1)
single_at (suc j) (p ∷ ps) q h e = single_at j ps q h.1 e

-- where just the raised pieces are thin, the LOB is the one behind
pub all_thin : (t gone : List ℕ) (v n : ℕ) (ps : List (List ℕ)) → AreSingle ps → ((j : ℕ) (q : List ℕ) → nth j ps ≡ Some q → is_in (n + j) gone ≡ is_in (n + j) t)
    → at_pieces gone but_last n (at_pieces t (λ vs. v ∷ vs) n ps) ≡ at_pieces t (λ vs. v ∷ []) n ps
unfolding AreSingle
all_thin t gone v n [] single same = refl
all_thin t gone v n (p ∷ ps) single same =
    ap₂ (λ (q : List ℕ) (qs : List (List ℕ)). q ∷ qs)
    (ap (λ (b : Bool). if b then but_last (if is_in n t then v ∷ p else p) else (if is_in n t then v ∷ p else p)) (ap (λ (x : ℕ). is_in x gone) (let z : n ≡ n + 0 = omega arith in z) ∙ same zero p refl ∙ ap (λ (x : ℕ). is_in x t) (let z : n + 0 ≡ n = omega arith in z))
    ∙ by_test (is_in n t))
    (all_thin t gone v (n + 1) ps single.1 (λ j q e. (let z : n + 1 + j ≡ n + suc j = omega arith in ap (λ (x : ℕ). is_in x gone) z ∙ same (suc j) q e ∙ ap (λ (x : ℕ). is_in x t) (sym z))))
  where
    by_test : (b : Bool) → (if b then but_last (if b then v ∷ p else p) else (if b then v ∷ p else p)) ≡ (if b then v ∷ [] else p)
    by_test true = ap (λ (q : List ℕ). but_last (v ∷ q)) single.0.1
    by_test false = refl

module _ (x : HeldLob) (single : AreSingle x.pieces) (low : AreBelow x.version x.pieces) (t gone : List ℕ) where
  abbrev pub thin : HeldLob
  thin = thinned gone (raised t x)

  abbrev pub piece_of_thin : ℕ → List ℕ → List ℕ
  piece_of_thin j q = if is_in (1 + j) gone then but_last (if is_in (1 + j) t then (x.version + 1) ∷ q else q) else (if is_in (1 + j) t then (x.version + 1) ∷ q else q)

  pub nth_thin : (j : ℕ) → nth j thin.pieces ≡ option_map (piece_of_thin j) (nth j x.pieces)
  nth_thin j = nth_at j 1 gone but_last (at_pieces t (λ vs. (x.version + 1) ∷ vs) 1 x.pieces)
      ∙ ap (option_map (λ (p : List ℕ). if is_in (1 + j) gone then but_last p else p)) (nth_at j 1 t (λ vs. (x.version + 1) ∷ vs) x.pieces)
      ∙ both (nth j x.pieces)
    where
      both : (o : Option (List ℕ)) → option_map (λ (p : List ℕ). if is_in (1 + j) gone then but_last p else p) (option_map (λ (p : List ℕ). if is_in (1 + j) t then (x.version + 1) ∷ p else p) o) ≡ option_map (piece_of_thin j) o
      both None = refl
      both (Some q) = refl

  -- a piece that has lost its old version has the new one alone
  pub gone_last : (j w : ℕ) → is_in (1 + j) gone ≡ true → is_in (1 + j) t ≡ true → last_of (piece_of_thin j (w ∷ [])) ≡ x.version + 1
  gone_last j w a b = ap₂ (λ (c d : Bool). last_of (if c then but_last (if d then (x.version + 1) ∷ w ∷ [] else w ∷ []) else (if d then (x.version + 1) ∷ w ∷ [] else w ∷ []))) a b

  pub kept_last : (j w : ℕ) → is_in (1 + j) gone ≡ false → last_of (piece_of_thin j (w ∷ [])) ≡ w
  kept_last j w a = ap (λ (c : Bool). last_of (if c then but_last (if is_in (1 + j) t then (x.version + 1) ∷ w ∷ [] else w ∷ []) else (if is_in (1 + j) t then (x.version + 1) ∷ w ∷ [] else w ∷ []))) a ∙ by_test (is_in (1 + j) t)
    where
      by_test : (b : Bool) → last_of (if b then (x.version + 1) ∷ w ∷ [] else w ∷ []) ≡ w
      by_test true = refl
      by_test false = refl

  pub some_thin : (j w : ℕ) → (is_in (1 + j) gone ≡ true → is_in (1 + j) t ≡ true) → IsSome1 (piece_of_thin j (w ∷ []))
  some_thin j w sub = by_tests (is_in (1 + j) gone) (is_in (1 + j) t) sub
    where
      by_tests : (a b : Bool) → (a ≡ true → b ≡ true) → IsSome1 (if a then but_last (if b then (x.version + 1) ∷ w ∷ [] else w ∷ []) else (if b then (x.version + 1) ∷ w ∷ [] else w ∷ []))
      by_tests true true h = tt
      by_tests true false h = absurd (true≢false (sym (h refl)))
      by_tests false true h = tt
      by_tests false false h = tt

  pub two_thin : (j w : ℕ) → is_in (1 + j) gone ≡ false → is_in (1 + j) t ≡ true → piece_of_thin j (w ∷ []) ≡ (x.version + 1) ∷ w ∷ []
  two_thin j w a b = ap₂ (λ (c d : Bool). if c then but_last (if d then (x.version + 1) ∷ w ∷ [] else w ∷ []) else (if d then (x.version + 1) ∷ w ∷ [] else w ∷ [])) a b
