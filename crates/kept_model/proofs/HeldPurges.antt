-- The versions held of one document, while its oldest change is purged.
use Rattle.std.proofs.Common.{◌≡◌, ◌≢◌, inl, inr, ◌⊎◌, ℕ, ◌+◌, ◌-◌, Bool, true, false, true≢false, nat_eq, List, [], ◌∷◌, ◌++◌, length, take, Option, Some, option_to_list, refl, sym, ap, subst, ◌∙◌, arith, if◌then◌else◌}
use Rattle.std.proofs.lemmas.List.{append_assoc, append-nil}
use Rattle.journal_model.specs.Journal.{Script, Entry}
use Rattle.journal_model.specs.Held.{Kind, inserted, rebuilt, versioned, patched, removed, HeldLob, is_in, at_pieces, copies, add, add_all, at_last, thinned, greater}
use Rattle.journal_model.specs.History.{Owner, session, commit, Made, History, one_made, newest_in, kinds, is_sessions}
use Rattle.journal_model.specs.Versions.{is_commits}
use Rattle.history_model.specs.Sound.{lob_behind_all}
use Rattle.store_data.specs.Store.{Body}
use Rattle.store_data.specs.Store as store
use Rattle.store_model.specs.History.{Change}
use Rattle.kept_model.specs.Engine.{Left}
use Rattle.kept_model.specs.Stored.{Front, whole, begun, undone, AllOwned, IsAhead, AreUndone}
use Rattle.kept_model.specs.Held.{part_kind, front_kind, front_kinds, IsDone, cut, half_drop, half_lobs, IsHalf, IsDropped, AreDropped, IsOfKind, AreTheirs, IsHeldBy}
use Rattle.kept_model.specs.Pages.{IsSort, AreSorts}
use Rattle.kept_model.proofs.StoredLemmas.{map_append}

-- changes of two lists
add_both : (ks js : List Kind) (lobs : List HeldLob) → add_all (ks ++ js) lobs ≡ add_all ks (add_all js lobs)
add_both [] js lobs = refl
add_both (k ∷ ks) js lobs = ap (add k) (add_both ks js lobs)

-- ---- nothing dropped

take_all : {A : Type 0} (xs : List A) → take (length xs) xs ≡ xs
take_all [] = refl
take_all (x ∷ xs) = ap (λ ys. x ∷ ys) (take_all xs)

cut_none : (l : HeldLob) → cut 0 l ≡ l
cut_none l = ap (λ (ps : List (List ℕ)). let h : HeldLob = record { version = l.version; pieces = ps } in h) (ap (λ n. take n l.pieces) (let e : length l.pieces - 0 ≡ length l.pieces = omega arith in e) ∙ take_all l.pieces)

pub thin_none : (f : List ℕ → List ℕ) (n : ℕ) (ps : List (List ℕ)) → at_pieces [] f n ps ≡ ps
thin_none f n [] = refl
thin_none f n (p ∷ ps) = ap (λ qs. p ∷ qs) (thin_none f (n + 1) ps)

last_none : (f : HeldLob → HeldLob) (ls : List HeldLob) → ((l : HeldLob) → f l ≡ l) → at_last f ls ≡ ls
last_none f [] same = refl
last_none f (l ∷ []) same = ap (λ x. x ∷ []) (same l)
last_none f (l ∷ m ∷ ls) same = ap (λ xs. l ∷ xs) (last_none f (m ∷ ls) same)

none_dropped : (k : Kind) (ls : List HeldLob) → half_drop [] k ls ≡ ls
none_dropped (inserted n) ls = refl
none_dropped (rebuilt n) ls = last_none (cut 0) ls cut_none
none_dropped (versioned t) ls = last_none (thinned []) ls (λ l. ap (λ (ps : List (List ℕ)). let h : HeldLob = record { version = l.version; pieces = ps } in h) (thin_none Rattle.journal_model.specs.Held.but_last 1 l.pieces))
none_dropped patched ls = refl
none_dropped removed ls = last_none (cut 0) ls cut_none

nothing_of : (k : Kind) → IsDropped [] k
nothing_of (inserted n) = tt
nothing_of (rebuilt n) = tt
nothing_of (versioned t) = λ k h. absurd (true≢false (sym h))
nothing_of patched = tt
nothing_of removed = tt

-- ---- the last of a list

pub snoc : {A : Type 0} (xs : List A) → (xs ≡ []) ⊎ ((ys : List A) × (y : A) × (xs ≡ ys ++ y ∷ []))
snoc [] = inl refl
snoc (x ∷ xs) = elim (snoc xs) [
  | inl none ↦ inr ([], x, ap (λ zs. x ∷ zs) none)
  | inr s ↦ inr (x ∷ s.0, s.1, ap (λ zs. x ∷ zs) s.2)
]

no_theirs : (names : Owner → Option ℕ) (xs : List Made) (m : Made) → AreTheirs names (xs ++ m ∷ []) [] → ⊥
no_theirs names [] m h = h
no_theirs names (x ∷ xs) m h = h

none_theirs : (names : Owner → Option ℕ) (cs : List Change) (c : Change) → AreTheirs names [] (cs ++ c ∷ []) → ⊥
none_theirs names [] c h = h
none_theirs names (d ∷ ds) c h = h

theirs_split : (names : Owner → Option ℕ) (xs : List Made) (m : Made) (cs : List Change) (c : Change) → AreTheirs names (xs ++ m ∷ []) (cs ++ c ∷ [])
    → AreTheirs names xs cs × (names m.owner ≡ Some c.trx) × IsOfKind m.kind c.undo.body
theirs_split names [] m [] c h = (tt, h.0, h.1)
theirs_split names [] m (d ∷ ds) c h = absurd (none_theirs names ds c h.2)
theirs_split names (x ∷ xs) m [] c h = absurd (no_theirs names xs m h.2)
theirs_split names (x ∷ xs) m (d ∷ ds) c h = let r = theirs_split names xs m ds c h.2 in ((h.0, h.1, r.0), r.1, r.2)

-- ---- kinds, whichever pieces are made

sort_of : (k : Kind) (b : Body) → IsOfKind k b → IsSort k b
sort_of (inserted n) (store.inserted page) h = tt
sort_of (inserted n) (store.rebuilt page) h = absurd h
sort_of (inserted n) (store.versioned pieces touched) h = absurd h
sort_of (inserted n) (store.patched runs) h = absurd h
sort_of (inserted n) store.removed h = absurd h
sort_of (rebuilt n) (store.inserted page) h = absurd h
sort_of (rebuilt n) (store.rebuilt page) h = tt
sort_of (rebuilt n) (store.versioned pieces touched) h = absurd h
sort_of (rebuilt n) (store.patched runs) h = absurd h
sort_of (rebuilt n) store.removed h = absurd h
sort_of (versioned t) (store.inserted page) h = absurd h
sort_of (versioned t) (store.rebuilt page) h = absurd h
sort_of (versioned t) (store.versioned pieces touched) h = tt
sort_of (versioned t) (store.patched runs) h = absurd h
sort_of (versioned t) store.removed h = absurd h
sort_of patched (store.inserted page) h = absurd h
sort_of patched (store.rebuilt page) h = absurd h
sort_of patched (store.versioned pieces touched) h = absurd h
sort_of patched (store.patched runs) h = tt
sort_of patched store.removed h = absurd h
sort_of removed (store.inserted page) h = absurd h
sort_of removed (store.rebuilt page) h = absurd h
sort_of removed (store.versioned pieces touched) h = absurd h
sort_of removed (store.patched runs) h = absurd h
sort_of removed store.removed h = tt

part_sort : (done : List ℕ) (k : Kind) (b : Body) → IsSort k b → IsSort (part_kind done k) b
part_sort done (inserted n) (store.inserted page) h = tt
part_sort done (inserted n) (store.rebuilt page) h = absurd h
part_sort done (inserted n) (store.versioned pieces touched) h = absurd h
part_sort done (inserted n) (store.patched runs) h = absurd h
part_sort done (inserted n) store.removed h = absurd h
part_sort done (rebuilt n) (store.inserted page) h = absurd h
part_sort done (rebuilt n) (store.rebuilt page) h = tt
part_sort done (rebuilt n) (store.versioned pieces touched) h = absurd h
part_sort done (rebuilt n) (store.patched runs) h = absurd h
part_sort done (rebuilt n) store.removed h = absurd h
part_sort done (versioned t) (store.inserted page) h = absurd h
part_sort done (versioned t) (store.rebuilt page) h = absurd h
part_sort done (versioned t) (store.versioned pieces touched) h = tt
part_sort done (versioned t) (store.patched runs) h = absurd h
part_sort done (versioned t) store.removed h = absurd h
part_sort done patched b h = h
part_sort done removed b h = h

front_sort : (f : Front) (done : List ℕ) (m : Made) (b : Body) → IsSort m.kind b → IsSort (front_kind f done m) b
front_sort whole done m b h = h
front_sort (begun s) done m b h = part_sort done m.kind b h
front_sort (undone s) done m b h = by_test (is_sessions s m.owner)
  where
    by_test : (x : Bool) → IsSort (if x then part_kind done m.kind else m.kind) b
    by_test true = part_sort done m.kind b h
    by_test false = h

sorts_of : (names : Owner → Option ℕ) (ms : List Made) (cs : List Change) → AreTheirs names ms cs → AreSorts (kinds ms) cs
sorts_of names [] [] h = tt
sorts_of names [] (c ∷ cs) h = absurd h
sorts_of names (m ∷ ms) [] h = absurd h
sorts_of names (m ∷ ms) (c ∷ cs) h = (sort_of m.kind c.undo.body h.1, sorts_of names ms cs h.2)

pub front_sorts : (names : Owner → Option ℕ) (f : Front) (done : List ℕ) (ms : List Made) (cs : List Change) → AreTheirs names ms cs → AreSorts (front_kinds f done ms) cs
front_sorts names f done [] [] h = tt
front_sorts names f done [] (c ∷ cs) h = absurd h
front_sorts names f done (m ∷ ms) [] h = absurd h
front_sorts names f done (m ∷ ms) (c ∷ cs) h = (front_sort f done m c.undo.body (sort_of m.kind c.undo.body h.1), sorts_of names ms cs h.2)

-- ---- the oldest change apart

pub record IsHalved (script : Script) (past : List Entry) (h : History) (f : Front) (r : Left) (n : ℕ) (names : Owner → Option ℕ) (newer : List Change) (c : Change) (lobs : List HeldLob) : Type 0 where
  pub ahead : List Made
  pub gone : List Made
  pub left : List Made
  pub m : Made
  pub passed : List Made
  pub is : h.changes ≡ gone ++ (left ++ (m ∷ passed))
  pub is_ahead : IsAhead script past h f ahead
  pub are_undone : AreUndone f gone
  pub owner : is_commits n m.owner ≡ true
  pub are_passed : AllOwned (is_commits n) passed
  pub theirs : AreTheirs names (ahead ++ left) newer
  pub named : names m.owner ≡ Some c.trx
  pub kind : IsOfKind m.kind c.undo.body
  pub done : List ℕ
  pub dropped : List ℕ
  pub is_done : IsDone f r done (ahead ++ left)
  pub are_dropped : IsDropped dropped m.kind
  pub held : lobs ≡ add_all (front_kinds f done (ahead ++ left)) (half_drop dropped m.kind (add m.kind (option_to_list (lob_behind_all passed h.lob))))

front_snoc : (f : Front) (done : List ℕ) (xs : List Made) (m : Made) → front_kind f done m ≡ m.kind ⊎ (xs ≢ []) → front_kinds f done (xs ++ m ∷ []) ≡ front_kinds f done xs ++ m.kind ∷ []
front_snoc f done [] m (inl e) = ap (λ k. k ∷ []) e
front_snoc f done [] m (inr some) = absurd (some refl)
front_snoc f done (x ∷ xs) m e = ap (λ ks. front_kind f done x ∷ ks) (map_append (λ (q : Made). q.kind) xs (m ∷ []))

done_front : (f : Front) (r : Left) (done : List ℕ) (xs : List Made) (m : Made) → IsDone f r done (xs ++ m ∷ []) → IsDone f r done xs
done_front f r done [] m h = tt
done_front f r done (x ∷ xs) m h = h

commits_is : (n : ℕ) (w : Owner) → w ≡ commit n → is_commits n w ≡ true
commits_is n w is = ap (is_commits n) is ∙ (let e : nat_eq n n ≡ true = grind arith in e)

module _ (script : Script) (past : List Entry) (h : History) (f : Front) (r : Left) (n : ℕ) (names : Owner → Option ℕ) (cs newer : List Change) (c : Change) (lobs : List HeldLob)
    (was : cs ≡ newer ++ c ∷ []) (one : (w : Owner) → names w ≡ Some c.trx → w ≡ commit n) where
  -- of one document, by what is half purged already
  pub halve : IsHeldBy script past h f r true n names cs lobs → IsHalved script past h f r n names newer c lobs
  halve k = by_half k.half k.is_half k.are_dropped k.is (subst (AreTheirs names (k.ahead ++ (k.left ++ k.half))) was k.theirs) k.held
    where
      by_half : (half : List Made) → IsHalf true n half → AreDropped k.dropped half → h.changes ≡ k.gone ++ (k.left ++ (half ++ k.passed)) → AreTheirs names (k.ahead ++ (k.left ++ half)) (newer ++ c ∷ [])
          → lobs ≡ add_all (front_kinds f k.done (k.ahead ++ k.left)) (half_lobs k.dropped half (option_to_list (lob_behind_all k.passed h.lob)))
          → IsHalved script past h f r n names newer c lobs
      by_half (m ∷ l ∷ ms) is_half drops split theirs held = absurd is_half
      by_half (m ∷ []) is_half drops split theirs held =
          let t = theirs_split names (k.ahead ++ k.left) m newer c (subst (λ xs. AreTheirs names xs (newer ++ c ∷ [])) (sym (append_assoc k.ahead k.left (m ∷ []))) theirs) in
          record {
            ahead = k.ahead;
            gone = k.gone;
            left = k.left;
            m = m;
            passed = k.passed;
            is = split;
            is_ahead = k.is_ahead;
            are_undone = k.are_undone;
            owner = is_half;
            are_passed = k.are_passed;
            theirs = t.0;
            named = t.1;
            kind = t.2;
            done = k.done;
            dropped = k.dropped;
            is_done = k.is_done;
            are_dropped = drops;
            held = held;
          }
      by_half [] is_half drops split theirs held = elim (snoc k.left) [
        | inl none ↦ absurd (no_left f k.ahead k.is_ahead (subst (λ (l : List Made). AreTheirs names (k.ahead ++ (l ++ [])) (newer ++ c ∷ [])) none theirs))
        | inr s ↦
            let there : AreTheirs names ((k.ahead ++ s.0) ++ s.1 ∷ []) (newer ++ c ∷ []) =
            subst (λ xs. AreTheirs names xs (newer ++ c ∷ [])) (sym (append_assoc k.ahead s.0 (s.1 ∷ []))) (subst (λ (l : List Made). AreTheirs names (k.ahead ++ l) (newer ++ c ∷ [])) (append-nil k.left ∙ s.2) theirs) in
            let t = theirs_split names (k.ahead ++ s.0) s.1 newer c there in
            let own : s.1.owner ≡ commit n = one s.1.owner t.1 in
            let list : k.ahead ++ k.left ≡ (k.ahead ++ s.0) ++ s.1 ∷ [] = ap (λ (l : List Made). k.ahead ++ l) s.2 ∙ sym (append_assoc k.ahead s.0 (s.1 ∷ [])) in
            record {
              ahead = k.ahead;
              gone = k.gone;
              left = s.0;
              m = s.1;
              passed = k.passed;
              is = split ∙ ap (λ (l : List Made). k.gone ++ (l ++ k.passed)) s.2 ∙ ap (λ (l : List Made). k.gone ++ l) (append_assoc s.0 (s.1 ∷ []) k.passed);
              is_ahead = k.is_ahead;
              are_undone = k.are_undone;
              owner = commits_is n s.1.owner own;
              are_passed = k.are_passed;
              theirs = t.0;
              named = t.1;
              kind = t.2;
              done = k.done;
              dropped = [];
              is_done = done_front f r k.done (k.ahead ++ s.0) s.1 (subst (IsDone f r k.done) list k.is_done);
              are_dropped = nothing_of s.1.kind;
              held = held ∙ ap (λ (l : List Made). add_all (front_kinds f k.done l) (option_to_list (lob_behind_all k.passed h.lob))) list
                  ∙ ap (λ (ks : List Kind). add_all ks (option_to_list (lob_behind_all k.passed h.lob))) (front_snoc f k.done (k.ahead ++ s.0) s.1 (fronts f k.ahead s.0 s.1 k.is_ahead own))
                  ∙ add_both (front_kinds f k.done (k.ahead ++ s.0)) (s.1.kind ∷ []) (option_to_list (lob_behind_all k.passed h.lob))
                  ∙ ap (add_all (front_kinds f k.done (k.ahead ++ s.0))) (sym (none_dropped s.1.kind (add s.1.kind (option_to_list (lob_behind_all k.passed h.lob)))));
            }
      ]
        where
          no_left : (g : Front) (ahead : List Made) → IsAhead script past h g ahead → AreTheirs names (ahead ++ []) (newer ++ c ∷ []) → ⊥
          no_left whole ahead is t = none_theirs names newer c (subst (λ (a : List Made). AreTheirs names (a ++ []) (newer ++ c ∷ [])) is t)
          no_left (undone s) ahead is t = none_theirs names newer c (subst (λ (a : List Made). AreTheirs names (a ++ []) (newer ++ c ∷ [])) is t)
          no_left (begun s) ahead is t = absurd (cc (one (session s) (theirs_split names [] (one_made s is.0 (newest_in s h)) newer c (subst (λ (a : List Made). AreTheirs names (a ++ []) (newer ++ c ∷ [])) is.2 t)).1))

          fronts : (g : Front) (ahead ys : List Made) (m : Made) → IsAhead script past h g ahead → m.owner ≡ commit n → front_kind g k.done m ≡ m.kind ⊎ (ahead ++ ys ≢ [])
          fronts whole ahead ys m is own = inl refl
          fronts (begun s) ahead ys m is own = inr (subst (λ (a : List Made). a ++ ys ≢ []) (sym is.2) (λ e. cc e))
          fronts (undone s) ahead ys m is own = inl (ap (λ (w : Owner). if is_sessions s w then part_kind k.done m.kind else m.kind) own)
