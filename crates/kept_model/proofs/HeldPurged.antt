-- The versions held of one document, behind each event of purge.
use Rattle.std.proofs.Common.{◌≡◌, ◌≢◌, ℕ, zero, suc, ◌+◌, ◌≤◌, ◌<◌, Bool, true, false, true≢false, nat_lt, List, [], ◌∷◌, ◌++◌, map, Option, Some, None, IfSome, option_to_list, refl, sym, ap, subst, ◌∙◌, arith, le_trans, if◌then◌else◌}
use Rattle.std.proofs.lemmas.List.{append_assoc, append-nil}
use Rattle.journal_model.specs.Journal.{Script, Entry}
use Rattle.journal_model.specs.Part.{under_way}
use Rattle.journal_model.specs.Held.{HeldLob, add_all}
use Rattle.journal_model.specs.History.{Owner, commit, Made, History, kinds, is_among, last_of, greatest_of, oldest_of, oldest_lob, lob_below, lob_behind, lob_at, lobs_at, above, purged_to, with_call, changes_of, first_history, history}
use Rattle.journal_model.specs.Versions.{is_commits}
use Rattle.history_model.specs.Sound.{OfOwners, lob_behind_all, IsFitting, AreFitting, AreSingle, IsSound}
use Rattle.history_model.proofs.LobLemmas.{single_behind_all}
use Rattle.history_model.proofs.SoundLemmas.{lower_fits}
use Rattle.store_model.specs.History.{Change}
use Rattle.kept_model.specs.Engine.{Left}
use Rattle.kept_model.specs.Stored.{Front, AllOwned}
use Rattle.kept_model.specs.Held.{front_kinds, half_lobs, IsHalf, IsOfKind, AreTheirs, IsHeldBy}
use Rattle.kept_model.specs.Pages.{AreBelow, IsBase, AreLobs}
use Rattle.kept_model.proofs.PassedLemmas.{none_among, undone_open, passed_above, ahead_purged, commit_among}
use Rattle.kept_model.proofs.PurgedRows.{NoneOf}
use Rattle.kept_model.proofs.LowLemmas.{IsLow, low_behind_all}
use Rattle.kept_model.proofs.HeldPurges.{front_sorts, IsHalved}

both : (l : Option HeldLob) → IfSome l (λ x. AreSingle x.pieces) → IsLow l → IfSome l IsBase
both None a b = tt
both (Some x) a b = (a, b)

-- what lies below a change of a sound history
fits_below : (h : History) (us : List Made) (m : Made) (low : List Made) → AreFitting h.lob h.changes → h.changes ≡ us ++ (m ∷ low) → IsFitting m.kind (lob_behind_all low h.lob)
unfolding AreFitting
fits_below h us m low fits is = (lower_fits us (m ∷ low) h.lob (subst (AreFitting h.lob) is fits)).0

base_below : (h : History) (low : List Made) → IfSome h.lob (λ x. AreSingle x.pieces) → IsLow h.lob → IfSome (lob_behind_all low h.lob) IsBase
base_below h low single up = both (lob_behind_all low h.lob) (single_behind_all low h.lob single) (low_behind_all low h.lob up)

theirs_with : (names : Owner → Option ℕ) (xs : List Made) (m : Made) (cs : List Change) (c : Change) → AreTheirs names xs cs → names m.owner ≡ Some c.trx → IsOfKind m.kind c.undo.body → AreTheirs names (xs ++ m ∷ []) (cs ++ c ∷ [])
theirs_with names [] m [] c h named kind = (named, kind, tt)
theirs_with names [] m (d ∷ ds) c h named kind = absurd h
theirs_with names (x ∷ xs) m [] c h named kind = absurd h
theirs_with names (x ∷ xs) m (d ∷ ds) c h named kind = (h.0, h.1, theirs_with names xs m ds c h.2 named kind)

-- ---- one document

module _ (script : Script) (past : List Entry) (h : History) (f : Front) (r : Left) (n : ℕ) (names : Owner → Option ℕ) (newer : List Change) (c : Change) (lobs : List HeldLob)
    (sound : IsSound h) (low : IfSome h.lob (λ x. AreBelow x.version x.pieces)) (k : IsHalved script past h f r n names newer c lobs) where
  -- the facts of its oldest change
  pub oldest_lobs : AreLobs newer c (front_kinds f k.done (k.ahead ++ k.left)) k.m.kind k.dropped (lob_behind_all k.passed h.lob) lobs
  oldest_lobs = record {
    sorts = front_sorts names f k.done (k.ahead ++ k.left) newer k.theirs;
    kind = k.kind;
    fits = fits_below h (k.gone ++ k.left) k.m k.passed sound.fitting (k.is ∙ sym (append_assoc k.gone k.left (k.m ∷ k.passed)));
    base = base_below h k.passed sound.single low;
    gone_of = k.are_dropped;
    are = k.held;
  }

  -- it loses more
  pub drop_held : (lobs' : List HeldLob) (cs : List Change) → cs ≡ newer ++ c ∷ [] → (now : List ℕ) → AreLobs newer c (front_kinds f k.done (k.ahead ++ k.left)) k.m.kind now (lob_behind_all k.passed h.lob) lobs'
      → IsHeldBy script past h f r true n names cs lobs'
  drop_held lobs' cs is now g = record {
    ahead = k.ahead;
    gone = k.gone;
    left = k.left;
    half = k.m ∷ [];
    passed = k.passed;
    is = k.is;
    is_ahead = k.is_ahead;
    are_undone = k.are_undone;
    is_half = k.owner;
    are_passed = k.are_passed;
    theirs = subst (AreTheirs names (k.ahead ++ (k.left ++ k.m ∷ []))) (sym is) (subst (λ ms. AreTheirs names ms (newer ++ c ∷ [])) (append_assoc k.ahead k.left (k.m ∷ [])) (theirs_with names (k.ahead ++ k.left) k.m newer c k.theirs k.named k.kind));
    done = k.done;
    dropped = now;
    is_done = k.is_done;
    are_dropped = g.gone_of;
    held = g.are;
  }

  -- it is passed
  pub pass_held : (lobs' : List HeldLob) → lobs' ≡ add_all (front_kinds f k.done (k.ahead ++ k.left)) (option_to_list (lob_behind k.m.kind (lob_behind_all k.passed h.lob))) → IsHeldBy script past h f r true n names newer lobs'
  pass_held lobs' g = record {
    ahead = k.ahead;
    gone = k.gone;
    left = k.left;
    half = [];
    passed = k.m ∷ k.passed;
    is = k.is;
    is_ahead = k.is_ahead;
    are_undone = k.are_undone;
    is_half = tt;
    are_passed = (k.owner, k.are_passed);
    theirs = subst (λ ms. AreTheirs names (k.ahead ++ ms) newer) (sym (append-nil k.left)) k.theirs;
    done = k.done;
    dropped = [];
    is_done = k.is_done;
    are_dropped = tt;
    held = g;
  }

-- ---- purge begins, and ends

owners_off : (names : Owner → Option ℕ) (trx : ℕ) (w : Owner) (ms : List Made) (cs : List Change) → names w ≡ Some trx → NoneOf trx cs → AreTheirs names ms cs → OfOwners (λ v. v ≢ w) ms
unfolding OfOwners
owners_off names trx w [] cs named none h = tt
owners_off names trx w (m ∷ ms) [] named none h = absurd h
owners_off names trx w (m ∷ ms) (c ∷ cs) named none h = ((λ same. none.0 (cc (sym h.0 ∙ ap names same ∙ named))), owners_off names trx w ms cs named none.1 h.2)

theirs_but : (names names' : Owner → Option ℕ) (trx n : ℕ) (ms : List Made) (cs : List Change) → names (commit n) ≡ Some trx → NoneOf trx cs → ((w : Owner) (x : ℕ) → w ≢ commit n → names w ≡ Some x → names' w ≡ Some x)
    → AreTheirs names ms cs → AreTheirs names' ms cs
theirs_but names names' trx n [] [] named none same h = h
theirs_but names names' trx n [] (c ∷ cs) named none same h = absurd h
theirs_but names names' trx n (m ∷ ms) [] named none same h = absurd h
theirs_but names names' trx n (m ∷ ms) (c ∷ cs) named none same h =
    (same m.owner c.trx (λ one. none.0 (cc (sym h.0 ∙ ap names one ∙ named))) h.0, h.1, theirs_but names names' trx n ms cs named none.1 same h.2)

is_commit : (n : ℕ) (w : Owner) → is_commits n w ≡ true → w ≡ commit n
is_commit n (commit c) is = ap commit (let same : Rattle.std.proofs.Common.nat_eq c n ≡ true = is in let e : c ≡ n = grind (arith, same) in e)
is_commit n (Rattle.journal_model.specs.History.session t) is = absurd (true≢false (sym is))

half_none : (n : ℕ) (half : List Made) → IsHalf true n half → OfOwners (λ w. w ≢ commit n) half → half ≡ []
unfolding OfOwners
half_none n [] is off = refl
half_none n (m ∷ []) is off = absurd (off.0 (is_commit n m.owner is))
half_none n (m ∷ l ∷ ms) is off = absurd is

none_at : (n : ℕ) (ms more : List Made) (l : Option HeldLob) → OfOwners (λ w. is_among n w ≡ false) ms → lob_at n (ms ++ more) l ≡ lob_at n more l
unfolding OfOwners
none_at n [] more l all = refl
none_at n (m ∷ ms) more l all = ap (λ (b : Bool). if b then lob_behind m.kind (lob_at n (ms ++ more) l) else lob_at n (ms ++ more) l) all.0 ∙ none_at n ms more l all.1

passed_at : (n : ℕ) (ms : List Made) (l : Option HeldLob) → AllOwned (is_commits n) ms → lob_at n ms l ≡ lob_behind_all ms l
passed_at n [] l all = refl
passed_at n (m ∷ ms) l all = ap (λ (b : Bool). if b then lob_behind m.kind (lob_at n ms l) else lob_at n ms l) (commit_among n m.owner all.0) ∙ ap (lob_behind m.kind) (passed_at n ms l all.1)

module _ (script : Script) (past past' : List Entry) (h : History) (f : Front) (r : Left) (n : ℕ) (names names' : Owner → Option ℕ) (cs : List Change) (lobs : List HeldLob) where
  pub begin_held : IsHeldBy script past h f r false n names cs lobs → IsHeldBy script past h f r true n names cs lobs
  begin_held k = record {
    ahead = k.ahead;
    gone = k.gone;
    left = k.left;
    half = [];
    passed = [];
    is = k.is ∙ ap (λ (hs : List Made). k.gone ++ (k.left ++ (hs ++ k.passed))) k.is_half ∙ ap (λ (ps : List Made). k.gone ++ (k.left ++ ps)) k.are_passed;
    is_ahead = k.is_ahead;
    are_undone = k.are_undone;
    is_half = tt;
    are_passed = tt;
    theirs = subst (λ (hs : List Made). AreTheirs names (k.ahead ++ (k.left ++ hs)) cs) k.is_half k.theirs;
    done = k.done;
    dropped = [];
    is_done = k.is_done;
    are_dropped = tt;
    held = k.held ∙ ap (λ (hs : List Made). add_all (front_kinds f k.done (k.ahead ++ k.left)) (half_lobs k.dropped hs (option_to_list (lob_behind_all k.passed h.lob)))) k.is_half
        ∙ ap (λ (ps : List Made). add_all (front_kinds f k.done (k.ahead ++ k.left)) (option_to_list (lob_behind_all ps h.lob))) k.are_passed;
  }

  pub end_held : (trx : ℕ) → names (commit n) ≡ Some trx → NoneOf trx cs → ((s : ℕ) → under_way script s past' ≡ under_way script s past)
      → ((w : Owner) (x : ℕ) → w ≢ commit n → names w ≡ Some x → names' w ≡ Some x)
      → (k : IsHeldBy script past h f r true n names cs lobs) → (OfOwners (λ w. w ≢ commit n) k.left → OfOwners (λ w. is_among n w ≡ false) k.left)
      → IsHeldBy script past' (purged_to n h) f r false (suc n) names' cs lobs
  end_held trx named none same keep k newer =
      let off = owners_off names trx (commit n) (k.ahead ++ (k.left ++ k.half)) cs named none k.theirs in
      let parts = Rattle.kept_model.proofs.CommitRows.of_parts (λ w. w ≢ commit n) k.ahead (k.left ++ k.half) off in
      let left = Rattle.kept_model.proofs.CommitRows.of_parts (λ w. w ≢ commit n) k.left k.half parts.1 in
      let half : k.half ≡ [] = no_half k.half k.is_half left.1 in
      let after = newer left.0 in
      record {
        ahead = k.ahead;
        gone = k.gone;
        left = k.left;
        half = [];
        passed = [];
        is =
            ap (above n) (k.is ∙ ap (λ (hs : List Made). k.gone ++ (k.left ++ (hs ++ k.passed))) half)
            ∙ none_among n k.gone (k.left ++ k.passed) (undone_open n f k.gone k.are_undone)
            ∙ ap (λ (l : List Made). k.gone ++ l) (none_among n k.left k.passed after ∙ ap (λ (l : List Made). k.left ++ l) (passed_above n k.passed k.are_passed));
        is_ahead = ahead_purged script past past' h f n k.ahead same k.is_ahead;
        are_undone = k.are_undone;
        is_half = refl;
        are_passed = refl;
        theirs = subst (λ (hs : List Made). AreTheirs names' (k.ahead ++ (k.left ++ hs)) cs) half (theirs_but names names' trx n (k.ahead ++ (k.left ++ k.half)) cs named none keep k.theirs);
        done = k.done;
        dropped = [];
        is_done = k.is_done;
        are_dropped = tt;
        held = k.held ∙ ap (λ (hs : List Made). add_all (front_kinds f k.done (k.ahead ++ k.left)) (half_lobs k.dropped hs (option_to_list (lob_behind_all k.passed h.lob)))) half
            ∙ ap (λ (l : Option HeldLob). add_all (front_kinds f k.done (k.ahead ++ k.left)) (option_to_list l)) (sym (below k half after));
      }
    where
      no_half : (half : List Made) → IsHalf true n half → OfOwners (λ w. w ≢ commit n) half → half ≡ []
      no_half half is off = half_none n half is off

      below : (k : IsHeldBy script past h f r true n names cs lobs) → k.half ≡ [] → OfOwners (λ w. is_among n w ≡ false) k.left → lob_at n h.changes h.lob ≡ lob_behind_all k.passed h.lob
      below k half after =
          ap (λ (ms : List Made). lob_at n ms h.lob) (k.is ∙ ap (λ (hs : List Made). k.gone ++ (k.left ++ (hs ++ k.passed))) half)
          ∙ none_at n k.gone (k.left ++ k.passed) h.lob (undone_open n f k.gone k.are_undone)
          ∙ none_at n k.left k.passed h.lob after
          ∙ passed_at n k.passed h.lob k.are_passed
