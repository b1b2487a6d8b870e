-- The versions held of one document, behind each kind of event.
use Rattle.std.proofs.Common.{◌≡◌, ℕ, ◌+◌, Bool, true, false, List, [], ◌∷◌, ◌++◌, map, length, Option, Some, option_to_list, refl, sym, ap, ap₂, subst, ◌∙◌, arith}
use Rattle.std.proofs.lemmas.List.{append-nil}
use Rattle.journal_model.specs.Documents.{Call}
use Rattle.journal_model.specs.Journal.{Script, call, Entry}
use Rattle.journal_model.specs.Part.{under_way}
use Rattle.journal_model.specs.Held.{Kind, inserted, rebuilt, versioned, patched, removed, HeldLob, add, add_all}
use Rattle.journal_model.specs.History.{Owner, session, Made, History, kinds, one_made, newest_in, renamed, owned_anew, committed, pushed}
use Rattle.history_model.specs.Sound.{lob_behind_all}
use Rattle.store_model.specs.History.{Change}
use Rattle.kept_model.specs.Engine.{Left, nothing}
use Rattle.kept_model.specs.Stored.{Front, whole, begun, IsAhead}
use Rattle.kept_model.specs.Held.{part_kind, IsRest, front_kinds, IsDone, half_lobs, IsHalf, IsOfKind, AreTheirs, IsHeldBy}
use Rattle.kept_model.proofs.StoredLemmas.{map_append, all_passed_anew}

pub whole_kinds : (done : List ℕ) (ms : List Made) → front_kinds whole done ms ≡ kinds ms
whole_kinds done [] = refl
whole_kinds done (m ∷ ms) = refl

-- what no piece is left to do of is all done
pub rest_none : (done : List ℕ) (k : Kind) → IsRest nothing done k → part_kind done k ≡ k
rest_none done (inserted n) h = ap inserted (let e : length done + 0 ≡ n = h in omega (arith, e))
rest_none done (rebuilt n) h = ap rebuilt (let e : length done + 0 ≡ n = h in omega (arith, e))
rest_none done (versioned t) h = ap versioned (sym (append-nil done) ∙ h.0)
rest_none done patched h = refl
rest_none done removed h = refl

-- what lies below the changes that aren't half purged
abbrev pub below : (h : History) (dropped : List ℕ) (half passed : List Made) → List HeldLob
below h dropped half passed = half_lobs dropped half (option_to_list (lob_behind_all passed h.lob))

-- ---- a change

module _ (script : Script) (past past' : List Entry) (b : Bool) (n : ℕ) (names : Owner → Option ℕ) (cs : List Change) (lobs lobs' : List HeldLob) (s : ℕ) (h : History) where
  -- it is planned
  pub plan_held : (c : Call) (change : Change) (r more : Left) (done : List ℕ) → under_way script s past' ≡ Some (call c) → names (session s) ≡ Some change.trx
      → IsOfKind (one_made s c (newest_in s h)).kind change.undo.body → IsRest more done (one_made s c (newest_in s h)).kind → lobs' ≡ add (part_kind done (one_made s c (newest_in s h)).kind) lobs
      → IsHeldBy script past h whole r b n names cs lobs → IsHeldBy script past' h (begun s) more b n names (change ∷ cs) lobs'
  plan_held c change r more done is named of_kind rests now k =
      let m : Made = one_made s c (newest_in s h) in
      record {
        ahead = m ∷ [];
        gone = [];
        left = k.left;
        half = k.half;
        passed = k.passed;
        is = k.is ∙ ap (λ (g : List Made). g ++ (k.left ++ (k.half ++ k.passed))) k.are_undone;
        is_ahead = (c, is, refl);
        are_undone = refl;
        is_half = k.is_half;
        are_passed = k.are_passed;
        theirs = (named, of_kind, subst (λ (a : List Made). AreTheirs names (a ++ (k.left ++ k.half)) cs) k.is_ahead k.theirs);
        done = done;
        dropped = k.dropped;
        is_done = rests;
        are_dropped = k.are_dropped;
        held = now ∙ ap (add (part_kind done m.kind)) (k.held ∙ ap (λ (a : List Made). add_all (front_kinds whole k.done (a ++ k.left)) (below h k.dropped k.half k.passed)) k.is_ahead
            ∙ ap (λ ks. add_all ks (below h k.dropped k.half k.passed)) (whole_kinds k.done k.left));
      }

  -- it goes on
  pub work_held : (r more : Left) (c : Change) (ds : List Change) → cs ≡ c ∷ ds
      → ((k : Kind) (done : List ℕ) (xs : List HeldLob) → IsOfKind k c.undo.body → IsRest r done k → lobs ≡ add (part_kind done k) xs → (new : List ℕ) × IsRest more new k × (lobs' ≡ add (part_kind new k) xs))
      → ((ms : List Made) → IsAhead script past h (begun s) ms → IsAhead script past' h (begun s) ms)
      → IsHeldBy script past h (begun s) r b n names cs lobs → IsHeldBy script past' h (begun s) more b n names cs lobs'
  work_held r more c ds is step ahead k =
      let there = k.is_ahead in
      let m : Made = one_made s there.0 (newest_in s h) in
      let theirs : AreTheirs names (m ∷ (k.left ++ k.half)) (c ∷ ds) = subst (λ (xs : List Change). AreTheirs names (m ∷ (k.left ++ k.half)) xs) is (subst (λ (a : List Made). AreTheirs names (a ++ (k.left ++ k.half)) cs) there.2 k.theirs) in
      let rests : IsRest r k.done m.kind = subst (λ (a : List Made). IsDone (begun s) r k.done (a ++ k.left)) there.2 k.is_done in
      let was : lobs ≡ add (part_kind k.done m.kind) (add_all (kinds k.left) (below h k.dropped k.half k.passed)) =
      k.held ∙ ap (λ (a : List Made). add_all (front_kinds (begun s) k.done (a ++ k.left)) (below h k.dropped k.half k.passed)) there.2 in
      let now = step m.kind k.done (add_all (kinds k.left) (below h k.dropped k.half k.passed)) theirs.1 rests was in
      record {
        ahead = k.ahead;
        gone = k.gone;
        left = k.left;
        half = k.half;
        passed = k.passed;
        is = k.is;
        is_ahead = ahead k.ahead k.is_ahead;
        are_undone = k.are_undone;
        is_half = k.is_half;
        are_passed = k.are_passed;
        theirs = k.theirs;
        done = now.0;
        dropped = k.dropped;
        is_done = subst (λ (a : List Made). IsDone (begun s) more now.0 (a ++ k.left)) (sym there.2) now.1;
        are_dropped = k.are_dropped;
        held = now.2 ∙ ap (λ (a : List Made). add_all (front_kinds (begun s) now.0 (a ++ k.left)) (below h k.dropped k.half k.passed)) (sym there.2);
      }

  -- it is answered
  pub answer_held : (c : Call) → under_way script s past ≡ Some (call c) → IsHeldBy script past h (begun s) nothing b n names cs lobs → IsHeldBy script past' (pushed s c h) whole nothing b n names cs lobs
  answer_held c now k =
      let there = k.is_ahead in
      let same : there.0 ≡ c = same_call there.0 (sym there.1 ∙ now) in
      let m : Made = one_made s c (newest_in s h) in
      let front : k.ahead ≡ m ∷ [] = there.2 ∙ ap (λ (e : Call). one_made s e (newest_in s h) ∷ []) same in
      let rests : IsRest nothing k.done m.kind = subst (λ (a : List Made). IsDone (begun s) nothing k.done (a ++ k.left)) front k.is_done in
      record {
        ahead = [];
        gone = [];
        left = m ∷ k.left;
        half = k.half;
        passed = k.passed;
        is = ap (λ (ms : List Made). m ∷ ms) (k.is ∙ ap (λ (g : List Made). g ++ (k.left ++ (k.half ++ k.passed))) k.are_undone);
        is_ahead = refl;
        are_undone = refl;
        is_half = k.is_half;
        are_passed = k.are_passed;
        theirs = subst (λ (a : List Made). AreTheirs names (a ++ (k.left ++ k.half)) cs) front k.theirs;
        done = [];
        dropped = k.dropped;
        is_done = tt;
        are_dropped = k.are_dropped;
        held = k.held ∙ ap (λ (a : List Made). add_all (front_kinds (begun s) k.done (a ++ k.left)) (below h k.dropped k.half k.passed)) front
            ∙ ap (λ (x : Kind). add x (add_all (kinds k.left) (below h k.dropped k.half k.passed))) (rest_none k.done m.kind rests);
      }
    where
      same_call : (e : Call) → Some (call e) ≡ Some (call c) → e ≡ c
      same_call e g = cc g

-- ---- a commit

kinds_anew : (s n : ℕ) (ms : List Made) → kinds (map (owned_anew s n) ms) ≡ kinds ms
kinds_anew s n [] = refl
kinds_anew s n (m ∷ ms) = ap (λ (ks : List Kind). m.kind ∷ ks) (kinds_anew s n ms)

theirs_anew : (names names' : Owner → Option ℕ) (s n : ℕ) (ms : List Made) (cs : List Change) → ((w : Owner) (x : ℕ) → names w ≡ Some x → names' (renamed s n w) ≡ Some x)
    → AreTheirs names ms cs → AreTheirs names' (map (owned_anew s n) ms) cs
theirs_anew names names' s n [] [] same h = h
theirs_anew names names' s n [] (c ∷ cs) same h = absurd h
theirs_anew names names' s n (m ∷ ms) [] same h = absurd h
theirs_anew names names' s n (m ∷ ms) (c ∷ cs) same h = (same m.owner c.trx h.0, h.1, theirs_anew names names' s n ms cs same h.2)

half_anew : (s n c : ℕ) (b : Bool) (ms : List Made) → IsHalf b c ms → map (owned_anew s n) ms ≡ ms
half_anew s n c true [] h = refl
half_anew s n c true (m ∷ []) h = all_passed_anew s n c true (m ∷ []) (h, tt)
half_anew s n c true (m ∷ l ∷ ms) h = absurd h
half_anew s n c false [] h = refl
half_anew s n c false (m ∷ ms) h = absurd (cc h)

module _ (script : Script) (past past' : List Entry) (b : Bool) (next : ℕ) (names names' : Owner → Option ℕ) (cs : List Change) (lobs : List HeldLob) (s n : ℕ) (r : Left)
    (same : (w : Owner) (x : ℕ) → names w ≡ Some x → names' (renamed s n w) ≡ Some x) (h : History) where
  -- of a document that nobody is at work on, behind a commit by any session
  pub whole_committed : IsHeldBy script past h whole r b next names cs lobs → IsHeldBy script past' (committed s n h) whole r b next names' cs lobs
  whole_committed k = record {
    ahead = [];
    gone = [];
    left = map (owned_anew s n) k.left;
    half = k.half;
    passed = k.passed;
    is =
        ap (map (owned_anew s n)) (k.is ∙ ap (λ (g : List Made). g ++ (k.left ++ (k.half ++ k.passed))) k.are_undone)
        ∙ map_append (owned_anew s n) k.left (k.half ++ k.passed)
        ∙ ap (λ (ps : List Made). map (owned_anew s n) k.left ++ ps) (map_append (owned_anew s n) k.half k.passed
        ∙ ap₂ (λ (ps qs : List Made). ps ++ qs) (half_anew s n next b k.half k.is_half) (all_passed_anew s n next b k.passed k.are_passed));
    is_ahead = refl;
    are_undone = refl;
    is_half = k.is_half;
    are_passed = k.are_passed;
    theirs = subst (λ (ms : List Made). AreTheirs names' (map (owned_anew s n) k.left ++ ms) cs) (half_anew s n next b k.half k.is_half)
        (subst (λ (ms : List Made). AreTheirs names' ms cs) (map_append (owned_anew s n) k.left k.half)
        (theirs_anew names names' s n (k.left ++ k.half) cs same (subst (λ (a : List Made). AreTheirs names (a ++ (k.left ++ k.half)) cs) k.is_ahead k.theirs)));
    done = [];
    dropped = k.dropped;
    is_done = nothing_done (map (owned_anew s n) k.left);
    are_dropped = k.are_dropped;
    held = k.held ∙ ap (λ (a : List Made). add_all (front_kinds whole k.done (a ++ k.left)) (below h k.dropped k.half k.passed)) k.is_ahead
        ∙ ap (λ (ks : List Kind). add_all ks (below h k.dropped k.half k.passed)) (whole_kinds k.done k.left ∙ sym (kinds_anew s n k.left) ∙ sym (whole_kinds [] (map (owned_anew s n) k.left)));
  }
    where
      nothing_done : (ms : List Made) → IsDone whole r [] ms
      nothing_done [] = tt
      nothing_done (m ∷ ms) = tt

  -- of a document that another session is at work on, where the committing one has no change of it
  pub other_committed : (f : Front) → map (owned_anew s n) h.changes ≡ h.changes
      → ((ms : List Made) → IsAhead script past h f ms → IsAhead script past' h f ms)
      → (k : IsHeldBy script past h f r b next names cs lobs) → map (owned_anew s n) (k.ahead ++ (k.left ++ k.half)) ≡ k.ahead ++ (k.left ++ k.half)
      → IsHeldBy script past' (committed s n h) f r b next names' cs lobs
  other_committed f none ahead k apart = record {
    ahead = k.ahead;
    gone = k.gone;
    left = k.left;
    half = k.half;
    passed = k.passed;
    is = none ∙ k.is;
    is_ahead = subst (λ (ms : List Made). IsAhead script past' (record { changes = ms; base = h.base; lob = h.lob }) f k.ahead) (sym none) (ahead k.ahead k.is_ahead);
    are_undone = k.are_undone;
    is_half = k.is_half;
    are_passed = k.are_passed;
    theirs = subst (λ (ms : List Made). AreTheirs names' ms cs) apart (theirs_anew names names' s n (k.ahead ++ (k.left ++ k.half)) cs same k.theirs);
    done = k.done;
    dropped = k.dropped;
    is_done = k.is_done;
    are_dropped = k.are_dropped;
    held = k.held;
  }

-- ---- nothing is half done

pub held_rests : (script : Script) (past : List Entry) (h : History) (r : Left) (n : ℕ) (names : Owner → Option ℕ) (cs : List Change) (lobs : List HeldLob)
    → IsHeldBy script past h whole r false n names cs lobs → lobs ≡ add_all (kinds h.changes) (option_to_list h.lob)
held_rests script past h r n names cs lobs k =
    k.held
    ∙ ap (λ (a : List Made). add_all (front_kinds whole k.done (a ++ k.left)) (below h k.dropped k.half k.passed)) k.is_ahead
    ∙ ap (λ (ks : List Kind). add_all ks (below h k.dropped k.half k.passed)) (whole_kinds k.done k.left)
    ∙ ap₂ (λ (hs ps : List Made). add_all (kinds k.left) (below h k.dropped hs ps)) k.is_half k.are_passed
    ∙ ap (λ (ms : List Made). add_all (kinds ms) (option_to_list h.lob)) (sym (k.is ∙ ap (λ (g : List Made). g ++ (k.left ++ (k.half ++ k.passed))) k.are_undone
    ∙ ap₂ (λ (hs ps : List Made). k.left ++ (hs ++ ps)) k.is_half k.are_passed ∙ append-nil k.left))
