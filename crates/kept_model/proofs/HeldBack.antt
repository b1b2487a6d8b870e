-- The versions held of one document, behind the events of a rollback.
use Rattle.std.proofs.Common.{◌≡◌, ◌≢◌, ℕ, zero, suc, ◌+◌, ◌-◌, Bool, true, false, true≢false, not, List, [], ◌∷◌, ◌++◌, length, take, Option, Some, None, option_to_list, refl, sym, ap, ap₂, subst, ◌∙◌, arith, if◌then◌else◌}
use Rattle.std.specs.List.{filter}
use Rattle.std.proofs.lemmas.List.{append_assoc}
use Rattle.journal_model.specs.Journal.{Script, Entry}
use Rattle.journal_model.specs.Held.{Kind, inserted, rebuilt, versioned, patched, removed, HeldLob, is_in, at_pieces, but_last, at_last, thinned, add, add_all}
use Rattle.journal_model.specs.History.{Owner, session, commit, Made, History, kinds, is_sessions, without}
use Rattle.journal_model.specs.Versions.{is_commits}
use Rattle.history_model.specs.Sound.{OfOwners, lob_behind_all}
use Rattle.store_model.specs.History.{Change}
use Rattle.kept_model.specs.Engine.{Left}
use Rattle.kept_model.specs.Stored.{whole, undone}
use Rattle.kept_model.specs.Held.{part_kind, IsPart, front_kinds, IsDone, cut, half_drop, half_lobs, IsHalf, IsOfKind, AreTheirs, IsHeldBy}
use Rattle.kept_model.proofs.UndoneLemmas.{none_for, owned_more, all_out, all_in, commits_in, own_one}
use Rattle.kept_model.specs.Pages.{AllUpTo, AreBelow, AreOld}
use Rattle.kept_model.proofs.HeldSteps.{below, whole_kinds}
use Rattle.kept_model.proofs.LowLemmas.{IsLow, all_up, new_below, low_behind_all}
use Rattle.kept_model.proofs.QuietPages.{all_done}

-- ---- no LOB below a change has a version that is newer than itself

raised_old : (t : List ℕ) (v n : ℕ) (ps : List (List ℕ)) → AreBelow v ps → AreBelow (v + 1) (at_pieces t (λ vs. (v + 1) ∷ vs) n ps)
raised_old t v n [] h = tt
raised_old t v n (p ∷ ps) h = (by_test (is_in n t), raised_old t v (n + 1) ps h.1)
  where
    by_test : (b : Bool) → AllUpTo (v + 1) (if b then (v + 1) ∷ p else p)
    by_test true = (omega arith, all_up v (v + 1) p (omega arith) h.0)
    by_test false = all_up v (v + 1) p (omega arith) h.0

add_old : (k : Kind) (xs : List HeldLob) → AreOld xs → AreOld (add k xs)
add_old (inserted n) xs h = (new_below n, h)
add_old (rebuilt n) xs h = (new_below n, h)
add_old (versioned t) [] h = tt
add_old (versioned t) (x ∷ xs) h = (raised_old t x.version 1 x.pieces h.0, h.1)
add_old patched xs h = h
add_old removed xs h = h

add_all_old : (ks : List Kind) (xs : List HeldLob) → AreOld xs → AreOld (add_all ks xs)
add_all_old [] xs h = h
add_all_old (k ∷ ks) xs h = add_old k (add_all ks xs) (add_all_old ks xs h)

last_old : (f : HeldLob → HeldLob) (xs : List HeldLob) → ((l : HeldLob) → AreBelow l.version l.pieces → AreBelow (f l).version (f l).pieces) → AreOld xs → AreOld (at_last f xs)
last_old f [] same h = tt
last_old f (x ∷ []) same h = (same x h.0, tt)
last_old f (x ∷ y ∷ xs) same h = (h.0, last_old f (y ∷ xs) same h.1)

take_old : (n v : ℕ) (ps : List (List ℕ)) → AreBelow v ps → AreBelow v (take n ps)
take_old zero v ps h = tt
take_old (suc n) v [] h = tt
take_old (suc n) v (p ∷ ps) h = (h.0, take_old n v ps h.1)

last_up : (v : ℕ) (ns : List ℕ) → AllUpTo v ns → AllUpTo v (but_last ns)
last_up v [] h = tt
last_up v (n ∷ []) h = tt
last_up v (n ∷ m ∷ ns) h = (h.0, last_up v (m ∷ ns) h.1)

thin_old : (t : List ℕ) (v n : ℕ) (ps : List (List ℕ)) → AreBelow v ps → AreBelow v (at_pieces t but_last n ps)
thin_old t v n [] h = tt
thin_old t v n (p ∷ ps) h = (by_test (is_in n t), thin_old t v (n + 1) ps h.1)
  where
    by_test : (b : Bool) → AllUpTo v (if b then but_last p else p)
    by_test true = last_up v p h.0
    by_test false = h.0

drop_old : (dropped : List ℕ) (k : Kind) (xs : List HeldLob) → AreOld xs → AreOld (half_drop dropped k xs)
drop_old dropped (inserted n) xs h = h
drop_old dropped (rebuilt n) xs h = last_old (cut (length dropped)) xs (λ l g. take_old (length l.pieces - length dropped) l.version l.pieces g) h
drop_old dropped (versioned t) xs h = last_old (thinned dropped) xs (λ l g. thin_old dropped l.version 1 l.pieces g) h
drop_old dropped patched xs h = h
drop_old dropped removed xs h = last_old (cut (length dropped)) xs (λ l g. take_old (length l.pieces - length dropped) l.version l.pieces g) h

half_old : (dropped : List ℕ) (half : List Made) (xs : List HeldLob) → AreOld xs → AreOld (half_lobs dropped half xs)
half_old dropped [] xs h = h
half_old dropped (m ∷ ms) xs h = drop_old dropped m.kind (add m.kind xs) (add_old m.kind xs h)

list_old : (l : Option HeldLob) → IsLow l → AreOld (option_to_list l)
list_old None h = tt
list_old (Some l) h = (h, tt)

pub all_old : (ks : List Kind) (h : History) (dropped : List ℕ) (half passed : List Made) → IsLow h.lob → AreOld (add_all ks (below h dropped half passed))
all_old ks h dropped half passed low =
    add_all_old ks (below h dropped half passed) (half_old dropped half (option_to_list (lob_behind_all passed h.lob)) (list_old (lob_behind_all passed h.lob) (low_behind_all passed h.lob low)))

-- ---- a rollback

module _ (script : Script) (past past' : List Entry) (b : Bool) (n : ℕ) (names : Owner → Option ℕ) (cs : List Change) (lobs lobs' : List HeldLob) (s : ℕ) (h : History) (r : Left)
    (c : Change) (ds : List Change) (is : cs ≡ c ∷ ds) (one : (w : Owner) → names w ≡ Some c.trx → w ≡ session s) where
  -- the session's change is the newest that is left, and isn't half purged
  own_front : (k : IsHeldBy script past h (undone s) r b n names cs lobs) → (m : Made) × (ms : List Made) × (k.left ≡ m ∷ ms) × (is_sessions s m.owner ≡ true) × IsOfKind m.kind c.undo.body × AreTheirs names (ms ++ k.half) ds
  own_front k = by_left k.left k.half k.is_half
      (subst (AreTheirs names (k.left ++ k.half)) is (subst (λ (a : List Made). AreTheirs names (a ++ (k.left ++ k.half)) cs) k.is_ahead k.theirs))
    where
      mine : (w : Owner) → names w ≡ Some c.trx → is_sessions s w ≡ true
      mine w named = ap (is_sessions s) (one w named) ∙ own_one s

      not_commits : (w : Owner) → is_sessions s w ≡ true → is_commits n w ≡ true → ⊥
      not_commits (session t) mine done = true≢false (sym done)
      not_commits (commit e) mine done = true≢false (sym mine)

      by_half : (b : Bool) (half : List Made) → IsHalf b n half → AreTheirs names half (c ∷ ds) → ⊥
      by_half b [] is_half h = h
      by_half true (m ∷ []) is_half h = not_commits m.owner (mine m.owner h.0) is_half
      by_half true (m ∷ l ∷ ms) is_half h = is_half
      by_half false (m ∷ ms) is_half h = cc is_half

      by_left : (left half : List Made) → IsHalf b n half → AreTheirs names (left ++ half) (c ∷ ds)
          → (m : Made) × (ms : List Made) × (left ≡ m ∷ ms) × (is_sessions s m.owner ≡ true) × IsOfKind m.kind c.undo.body × AreTheirs names (ms ++ half) ds
      by_left [] half is_half h = absurd (by_half b half is_half h)
      by_left (m ∷ ms) half is_half h = (m, ms, refl, mine m.owner h.0, h.1, h.2)

  -- what is held, by the front
  front_held : (k : IsHeldBy script past h (undone s) r b n names cs lobs) → (m : Made) (ms : List Made) → k.left ≡ m ∷ ms → is_sessions s m.owner ≡ true
      → IsPart k.done m.kind × (lobs ≡ add (part_kind k.done m.kind) (add_all (kinds ms) (below h k.dropped k.half k.passed)))
  front_held k m ms is mine =
      let left : k.ahead ++ k.left ≡ m ∷ ms = ap₂ (λ (a l : List Made). a ++ l) k.is_ahead is in (
        subst (IsDone (undone s) r k.done) left k.is_done,
        k.held ∙ ap (λ (l : List Made). add_all (front_kinds (undone s) k.done l) (below h k.dropped k.half k.passed)) left
            ∙ ap (λ (x : Bool). add (if x then part_kind k.done m.kind else m.kind) (add_all (kinds ms) (below h k.dropped k.half k.passed))) mine,
      )

  -- it is half undone
  pub half_undone : IsLow h.lob → ((k : Kind) (done : List ℕ) (xs : List HeldLob) → IsOfKind k c.undo.body → IsPart done k → AreOld xs → lobs ≡ add (part_kind done k) xs → (new : List ℕ) × IsPart new k × (lobs' ≡ add (part_kind new k) xs))
      → IsHeldBy script past h (undone s) r b n names cs lobs → IsHeldBy script past' h (undone s) r b n names cs lobs'
  half_undone low step k =
      let f = own_front k in
      let left : k.left ≡ f.0 ∷ f.1 = f.2 in
      let was = front_held k f.0 f.1 f.2 f.3 in
      let now = step f.0.kind k.done (add_all (kinds f.1) (below h k.dropped k.half k.passed)) f.4 was.0 (all_old (kinds f.1) h k.dropped k.half k.passed low) was.1 in
      record {
        ahead = [];
        gone = k.gone;
        left = f.0 ∷ f.1;
        half = k.half;
        passed = k.passed;
        is = k.is ∙ ap (λ (l : List Made). k.gone ++ (l ++ (k.half ++ k.passed))) left;
        is_ahead = refl;
        are_undone = k.are_undone;
        is_half = k.is_half;
        are_passed = k.are_passed;
        theirs = subst (λ (l : List Made). AreTheirs names (l ++ k.half) cs) left (subst (λ (a : List Made). AreTheirs names (a ++ (k.left ++ k.half)) cs) k.is_ahead k.theirs);
        done = now.0;
        dropped = k.dropped;
        is_done = now.1;
        are_dropped = k.are_dropped;
        held = now.2 ∙ ap (λ (x : Bool). add (if x then part_kind now.0 f.0.kind else f.0.kind) (add_all (kinds f.1) (below h k.dropped k.half k.passed))) (sym f.3);
      }

  -- it is undone
  pub step_undone : ((k : Kind) (done : List ℕ) (xs : List HeldLob) → IsOfKind k c.undo.body → IsPart done k → lobs ≡ add (part_kind done k) xs → lobs' ≡ xs)
      → IsHeldBy script past h (undone s) r b n names cs lobs → IsHeldBy script past' h (undone s) r b n names ds lobs'
  step_undone step k =
      let f = own_front k in
      let left : k.left ≡ f.0 ∷ f.1 = f.2 in
      let was = front_held k f.0 f.1 f.2 f.3 in
      let now = step f.0.kind k.done (add_all (kinds f.1) (below h k.dropped k.half k.passed)) f.4 was.0 was.1 in
      let a = all_done s [] r f.1 in
      record {
        ahead = [];
        gone = k.gone ++ f.0 ∷ [];
        left = f.1;
        half = k.half;
        passed = k.passed;
        is = k.is ∙ ap (λ (l : List Made). k.gone ++ (l ++ (k.half ++ k.passed))) left ∙ sym (append_assoc k.gone (f.0 ∷ []) (f.1 ++ (k.half ++ k.passed)));
        is_ahead = refl;
        are_undone = owned_more (is_sessions s) k.gone f.0 k.are_undone f.3;
        is_half = k.is_half;
        are_passed = k.are_passed;
        theirs = f.5;
        done = a.0;
        dropped = k.dropped;
        is_done = a.1;
        are_dropped = k.are_dropped;
        held = now ∙ ap (λ (ks : List Kind). add_all ks (below h k.dropped k.half k.passed)) (sym (a.2 ∙ whole_kinds [] f.1));
      }

not_named : (names : Owner → Option ℕ) (w : Owner) (ms : List Made) (cs : List Change) → names w ≡ None → AreTheirs names ms cs → OfOwners (λ v. v ≢ w) ms
unfolding OfOwners
not_named names w [] cs none h = tt
not_named names w (m ∷ ms) [] none h = absurd h
not_named names w (m ∷ ms) (c ∷ cs) none h = ((λ same. absurd (cc (sym none ∙ ap names (sym same) ∙ h.0))), not_named names w ms cs none h.2)

others_front : (s : ℕ) (done : List ℕ) (left half : List Made) → OfOwners (λ w. is_sessions s w ≡ false) (left ++ half) → front_kinds (undone s) done left ≡ front_kinds whole [] left
unfolding OfOwners
others_front s done [] half all = refl
others_front s done (m ∷ ms) half all = ap (λ (x : Bool). (if x then part_kind done m.kind else m.kind) ∷ kinds ms) all.0

-- all is undone: the journal's history loses the session's changes
module _ (script : Script) (past past' : List Entry) (b : Bool) (n : ℕ) (names : Owner → Option ℕ) (cs : List Change) (lobs : List HeldLob) (s : ℕ) (h : History) (r r' : Left) where
  pub all_undone : names (session s) ≡ None → IsHeldBy script past h (undone s) r b n names cs lobs → IsHeldBy script past' (without (is_sessions s) h) whole r' b n names cs lobs
  all_undone none k =
      let theirs : AreTheirs names (k.left ++ k.half) cs = subst (λ (a : List Made). AreTheirs names (a ++ (k.left ++ k.half)) cs) k.is_ahead k.theirs in
      let others = not_named names (session s) (k.left ++ k.half) cs none theirs in
      record {
        ahead = [];
        gone = [];
        left = k.left;
        half = k.half;
        passed = k.passed;
        is =
            ap (filter (λ m. not (is_sessions s m.owner))) k.is
            ∙ all_out s k.gone (k.left ++ (k.half ++ k.passed)) k.are_undone
            ∙ ap (filter (λ m. not (is_sessions s m.owner))) (sym (append_assoc k.left k.half k.passed))
            ∙ all_in s (k.left ++ k.half) k.passed (none_for s (k.left ++ k.half) others)
            ∙ ap (λ (l : List Made). (k.left ++ k.half) ++ l) (commits_in s n b k.passed k.are_passed)
            ∙ append_assoc k.left k.half k.passed;
        is_ahead = refl;
        are_undone = refl;
        is_half = k.is_half;
        are_passed = k.are_passed;
        theirs = theirs;
        done = [];
        dropped = k.dropped;
        is_done = nothing_done k.left;
        are_dropped = k.are_dropped;
        held = k.held ∙ ap (λ (a : List Made). add_all (front_kinds (undone s) k.done (a ++ k.left)) (below h k.dropped k.half k.passed)) k.is_ahead
            ∙ ap (λ (ks : List Kind). add_all ks (below h k.dropped k.half k.passed)) (others_front s k.done k.left k.half (none_for s (k.left ++ k.half) others));
      }
    where
      nothing_done : (ms : List Made) → IsDone whole r' [] ms
      nothing_done [] = tt
      nothing_done (m ∷ ms) = tt
