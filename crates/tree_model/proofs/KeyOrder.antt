-- Members that are put in one after another by their bytes, and then in key order.
use Rattle.std.proofs.Common.{◌≡◌, ℕ, false, List, refl, sym, ap, ◌∙◌, Ordering, Less, Equal, Greater, is_eq, true≢false}
pub use Rattle.tree_model.proofs.KeyLemmas.{key_total, itself, turned, same_key, key_equal}
use Rattle.tree_model.specs.Tree.{Tree, Members, no_members, member, member_list, put, key_cmp, AreMembers}

abbrev Pair : Type 0
Pair = List ℕ × Tree

-- ---- two keys that differ may be put in in either order

-- two members with different keys are put in either order
pub swap_put : (k l : List ℕ) (t u : Tree) (ms : Members) → is_eq (key_cmp k l) ≡ false → put k t (put l u ms) ≡ put l u (put k t ms)
swap_put k l t u no_members apart = go (key_cmp k l) refl apart
  where
    go : (o : Ordering) → key_cmp k l ≡ o → is_eq o ≡ false → put k t (put l u no_members) ≡ put l u (put k t no_members)
    go Less e a = rw (e, turned k l Less e) refl
    go Equal e a = absurd (true≢false a)
    go Greater e a = rw (e, turned k l Greater e) refl
swap_put k l t u (member m v ms) apart = go (key_cmp k m) refl (key_cmp l m) refl (swap_put k l t u ms apart)
  where
    below : (q : Ordering) → key_cmp k l ≡ q → is_eq q ≡ false → key_cmp k m ≡ Less → key_cmp l m ≡ Less → put k t (put l u (member m v ms)) ≡ put l u (put k t (member m v ms))
    below Less g a e f = simp (e, f, g, turned k l Less g) refl
    below Equal g a e f = absurd (true≢false a)
    below Greater g a e f = simp (e, f, g, turned k l Greater g) refl

    go : (o : Ordering) → key_cmp k m ≡ o → (p : Ordering) → key_cmp l m ≡ p → put k t (put l u ms) ≡ put l u (put k t ms) → put k t (put l u (member m v ms)) ≡ put l u (put k t (member m v ms))
    go Less e Less f h = below (key_cmp k l) refl apart e f
    go Less e Equal f h =
        let g : key_cmp k l ≡ Less = ap (key_cmp k) (key_equal l m f) ∙ e in
        simp (e, f, turned k l Less g) refl
    go Less e Greater f h =
        let g : key_cmp k l ≡ Less = key_total.trans k m l e (turned l m Greater f) in
        simp (e, f, turned k l Less g) refl
    go Equal e Less f h =
        let g : key_cmp k l ≡ Greater = ap (λ x. key_cmp x l) (key_equal k m e) ∙ turned l m Less f in
        simp (e, f, g) refl
    go Equal e Equal f h = absurd (true≢false (sym (ap is_eq (ap (λ x. key_cmp x l) (key_equal k m e ∙ sym (key_equal l m f)) ∙ itself l)) ∙ apart))
    go Equal e Greater f h = simp (e, f) refl
    go Greater e Less f h =
        let g : key_cmp k l ≡ Greater = turned l k Less (key_total.trans l m k f (turned k m Greater e)) in
        simp (e, f, g) refl
    go Greater e Equal f h = simp (e, f) refl
    go Greater e Greater f h = simp (e, f) (ap (member m v) h)

-- ---- members that rise

-- a key is smaller than that of each member
abbrev pub Above : List ℕ → Members → Type 0
Above k no_members = Unit {0}
Above k (member l u ms) = (key_cmp k l ≡ Less) × Above k ms

-- each member's key is smaller than those behind it
abbrev pub Rising : Members → Type 0
Rising no_members = Unit {0}
Rising (member k t ms) = Above k ms × Rising ms

above_first : (k l : List ℕ) (ms : Members) → key_cmp k l ≡ Less → Above l ms → Above k ms
above_first k l no_members lt up = tt
above_first k l (member m u ms) lt up = (key_total.trans k l m lt up.0, above_first k l ms lt up.1)

-- an object's members rise
pub rising_from : (ms : Members) → AreMembers (member_list ms) → Rising ms
rising_from no_members are = tt
rising_from (member k t no_members) are = (tt, tt)
rising_from (member k t (member l u ms)) are =
    let rest : Rising (member l u ms) = rising_from (member l u ms) are.2 in
    ((are.1, above_first k l ms are.1 rest.0), rest)

-- all keys of ms are below k
abbrev Under : Members → List ℕ → Type 0
Under no_members k = Unit {0}
Under (member l u ms) k = (key_cmp k l ≡ Greater) × Under ms k

abbrev append : Members → Members → Members
append no_members ns = ns
append (member k t ms) ns = member k t (append ms ns)

append-no_members : (ms : Members) → append ms no_members ≡ ms
append-no_members no_members = refl
append-no_members (member k t ms) = ap (member k t) (append-no_members ms)

append_assoc : (xs ys zs : Members) → append (append xs ys) zs ≡ append xs (append ys zs)
append_assoc no_members ys zs = refl
append_assoc (member k t xs) ys zs = ap (member k t) (append_assoc xs ys zs)

put_last : (k : List ℕ) (t : Tree) (ms : Members) → Under ms k → put k t ms ≡ append ms (member k t no_members)
put_last k t no_members under = refl
put_last k t (member l u ms) under = rw under.0 (ap (member l u) (put_last k t ms under.1))

under_more : (k l : List ℕ) (t : Tree) (ms : Members) → Under ms k → key_cmp k l ≡ Less → Under (append ms (member k t no_members)) l
under_more k l t no_members under lt = (turned k l Less lt, tt)
under_more k l t (member m u ms) under lt = (turned m l Less (key_total.trans m k l (turned k m Greater under.0) lt), under_more k l t ms under.1 lt)

-- one after another
abbrev pub put_members : Members → Members → Members
put_members no_members found = found
put_members (member k t ms) found = put_members ms (put k t found)

abbrev UnderFirst : Members → Members → Type 0
UnderFirst found no_members = Unit {0}
UnderFirst found (member k t ms) = Under found k

under_first : (k : List ℕ) (t : Tree) (found ms : Members) → Under found k → Above k ms → UnderFirst (append found (member k t no_members)) ms
under_first k t found no_members under up = tt
under_first k t found (member l u ms) under up = under_more k l t found under up.0

put_members-append : (ms found : Members) → Rising ms → UnderFirst found ms → put_members ms found ≡ append found ms
put_members-append no_members found up under = sym (append-no_members found)
put_members-append (member k t ms) found up under =
    ap (put_members ms) (put_last k t found under) ∙ put_members-append ms (append found (member k t no_members)) up.1 (under_first k t found ms under up.0) ∙ append_assoc found (member k t no_members) ms

-- members that rise are what putting them in one after another gives
pub put_members-itself : (ms : Members) → Rising ms → put_members ms no_members ≡ ms
put_members-itself no_members up = refl
put_members-itself (member k t ms) up = put_members-append (member k t ms) no_members up tt
