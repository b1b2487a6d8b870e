-- The LOBs of a history have as many pieces as its documents need.
use Rattle.std.proofs.Common.{◌≡◌, ℕ, zero, suc, ◌+◌, ◌≤◌, Bool, true, false, true≢false, not, nat_eq, cond, List, [], ◌∷◌, ◌++◌, length, map, Option, Some, None, IfSome, refl, sym, ap, subst, ◌∙◌, arith, if◌then◌else◌}
use Rattle.std.specs.List.{filter}
use Rattle.tree_model.specs.Tree.{depth}
use Rattle.tree_model.specs.Edit.{Edit, edited}
use Rattle.binary_model.specs.Stands.{max_nested}
use Rattle.binary_model.specs.Canonical.{canonical}
use Rattle.binary_model.specs.Change as bytes
use Rattle.binary_model.specs.Change.{Run, SetsTrees, differing, put_all}
use Rattle.binary_model.specs.Need as pages
use Rattle.binary_model.specs.Need.{PartKind, part_kind}
use Rattle.binary_model.proofs.in_place.EditLemmas.{edits_are}
use Rattle.journal_model.specs.Documents.{Docs, Call, Insert, Change, Delete, call_doc, look, Kept, changed, change_of}
use Rattle.journal_model.specs.Held.{HeldLob, copies, at_pieces}
use Rattle.journal_model.specs.Journal.{Script, statement, call, Reply, part as parted, Entry, Start, View, Wait, Did, Commit, Undone, Purged, Audited, Restart, Opening}
use Rattle.journal_model.specs.Part.{is_ok_reply, made, newest}
use Rattle.journal_model.specs.Replies.{reply_to, edit_reply, changed_reply, is_too_deep}
use Rattle.journal_model.specs.Legal.{IsLegal, Answer, CallAnswer}
use Rattle.journal_model.specs.History.{pieces_of, Owner, session, Made, kind_of, kind_of_change, kind_of_runs, left_by, newest_in, is_sessions, is_committed, is_newest_for, owned_anew, above, pushed, with_call, lob_behind, lob_at, history}
use Rattle.history_model.specs.Laws.{IsRun}
use Rattle.history_model.specs.Sound.{lob_behind_all, IsFirst, IsCut, AreCut, IsPieced}
use Rattle.history_model.specs.Scripts.{IsCall, IsStatement, HasStatements, IsStanding, MayStand, AllStand}
use Rattle.history_model.proofs.LockLemmas.{eq_is}
use Rattle.history_model.proofs.OutsideLemmas.{answered_as}
use Rattle.history_model.proofs.OwnerLemmas.{made_as}
use Rattle.history_model.proofs.OwnedLemmas.{each_has}
use Rattle.history_model.proofs.HistoryLemmas.{reads_own}
use Rattle.history_model.proofs.OrderLemmas.{in_order}
use Rattle.history_model.proofs.SoundLemmas.{undone_top, restart_top, below, cut, seen_below, lob_below_is, behind_append, its_own, is_sound}
use Rattle.history_model.proofs.UndoneLemmas.{TopOnly, behind_renamed, none_out}
use Rattle.history_model.proofs.MadeLemmas.{top_left, table_of, newest_top}
use Rattle.history_model.proofs.StandLemmas.{unless_deep, seen_stands, all_stand}

-- ---- counts of pieces

copied : (n : ℕ) → length (copies n) ≡ n
copied zero = refl
copied (suc n) = ap suc (copied n)

as_many : (t : List ℕ) (f : List ℕ → List ℕ) (n : ℕ) (ps : List (List ℕ)) → length (at_pieces t f n ps) ≡ length ps
as_many t f n [] = refl
as_many t f n (vs ∷ ps) = ap suc (as_many t f (n + 1) ps)

runs_cut : (p : PartKind) (rs : List Run) (k : Kept) (new : Kept) (l : Option HeldLob) → length new.1 ≡ length k.1 → IsCut (Some k) l → IsCut (Some new) (lob_behind (kind_of_runs p rs) l)
runs_cut pages.patched rs k new None e h = tt
runs_cut pages.patched rs k new (Some x) e h = h ∙ ap (λ n. 1 + pages.data_pages n) (sym e)
runs_cut pages.versioned rs k new None e h = tt
runs_cut pages.versioned rs k new (Some x) e h = as_many (pages.touched rs) _ 1 x.pieces ∙ h ∙ ap (λ n. 1 + pages.data_pages n) (sym e)

edit_cut : (e : Edit) (k : Kept) (l : Option HeldLob) → SetsTrees e → IsStanding k → is_ok_reply (edit_reply e (Some k)) ≡ true → IsCut (Some k) l
    → IsCut (Some (changed e k)) (lob_behind (kind_of_change (change_of e k)) l)
edit_cut e k l sets stands ok h = by_change (change_of e k) refl ok
  where
    by_change : (ch : bytes.Change) → change_of e k ≡ ch → is_ok_reply (changed_reply (edited e k.0) ch) ≡ true
        → IsCut (Some (edited e k.0, bytes.stored k.1 (change_of e k))) (lob_behind (kind_of_change (change_of e k)) l)
    by_change bytes.Same at g = absurd (true≢false (sym g))
    by_change (bytes.Parts rs) at g =
        let shallow = unless_deep (edited e k.0) (parted (differing rs)) g in
        let deep_enough : is_too_deep (edited e k.0) ≡ false = shallow.0 in
        let low : depth (edited e k.0) ≤ max_nested = grind (arith, deep_enough) in
        subst (λ c. IsCut (Some (edited e k.0, bytes.stored k.1 c)) (lob_behind (kind_of_change c) l)) (sym at)
        (runs_cut (part_kind rs) rs k (edited e k.0, put_all rs k.1) l (edits_are k.1 k.0 e rs stands.octets stands.stands sets low at).1 h)
    by_change (bytes.Full encoding) at g =
        subst (λ c. IsCut (Some (edited e k.0, bytes.stored k.1 c)) (lob_behind (kind_of_change c) l)) (sym at) (copied (pieces_of encoding))

call_cut : (c : Call) (now : Docs Kept) (x : Option Kept) (l : Option HeldLob) → IsCall c → look now (call_doc c) ≡ x → MayStand x → is_ok_reply (reply_to c now) ≡ true → IsCut x l
    → IsCut (left_by c x) (lob_behind (kind_of c x) l)
call_cut (Insert d t) now x l is at stands ok h = copied (pieces_of (canonical t))
call_cut (Change d e) now None l is at stands ok h = tt
call_cut (Change d e) now (Some k) l is at stands ok h = edit_cut e k l is.0 stands (subst (λ y. is_ok_reply (edit_reply e y) ≡ true) at ok) h
call_cut (Delete d) now x l is at stands ok h = tt

-- ---- lists of changes

cut_top : (l : Option HeldLob) (ms : List Made) (base : Option Kept) → IsCut base l → AreCut l ms → IsCut (top_left ms base) (lob_behind_all ms l)
unfolding top_left AreCut
cut_top l [] base h f = h
cut_top l (m ∷ ms) base h f = f.0

cut_renamed : (t n : ℕ) (ms : List Made) (l : Option HeldLob) → AreCut l ms → AreCut l (map (owned_anew t n) ms)
unfolding AreCut
cut_renamed t n [] l h = tt
cut_renamed t n (m ∷ ms) l h = (subst (λ x. IsCut m.left (lob_behind m.kind x)) (sym (behind_renamed t n ms l)) h.0, cut_renamed t n ms l h.1)

cut_without : (out : Owner → Bool) (ms : List Made) (l : Option HeldLob) → TopOnly out ms → AreCut l ms → AreCut l (filter (λ m. not (out m.owner)) ms)
unfolding TopOnly AreCut
cut_without out [] l top h = tt
cut_without out (m ∷ ms) l top h = by_test (out m.owner) refl (cut_without out ms l top.1 h.1)
  where
    by_test : (x : Bool) → out m.owner ≡ x → AreCut l (filter (λ m. not (out m.owner)) ms)
        → AreCut l (cond (not x) (m ∷ filter (λ m. not (out m.owner)) ms) (filter (λ m. not (out m.owner)) ms))
    by_test true e rest = rest
    by_test false e rest = subst (λ x. AreCut l (m ∷ x)) (sym (none_out out ms (top.0 e))) h

upper_cut : (us low : List Made) (l : Option HeldLob) → AreCut l (us ++ low) → AreCut (lob_behind_all low l) us
unfolding AreCut
upper_cut [] low l h = tt
upper_cut (m ∷ us) low l h = (subst (λ x. IsCut m.left (lob_behind m.kind x)) (behind_append us low l) h.0, upper_cut us low l h.1)

lower_cut : (us low : List Made) (l : Option HeldLob) → AreCut l (us ++ low) → AreCut l low
unfolding AreCut
lower_cut [] low l h = h
lower_cut (m ∷ us) low l h = lower_cut us low l h.1

-- ---- along a journal

module _ (o : Opening) (script : Script) (run : IsRun o script) (first : IsFirst o) (statements : HasStatements script) (opened : (d : ℕ) → MayStand (look o.documents d))
    (pieced : (d : ℕ) → IsPieced (history o script [] d)) where
  module _ (t i : ℕ) (r : Reply) (past : List Entry) (d : ℕ) (legal : IsLegal o script (Did t i r ∷ past)) (before : IsPieced (history o script past d)) where
    made_pieced : (c : Call) → made (statement script t i) r ≡ Some c → nat_eq (call_doc c) d ≡ true → IsPieced (pushed t c (history o script past d))
    unfolding AreCut
    made_pieced c e f = record { below = before.below; left = (now_cut, before.left) }
      where
        as_call : statement script t i ≡ Some (call c)
        as_call = (made_as (statement script t i) r c e).0

        good : is_ok_reply r ≡ true
        good = (made_as (statement script t i) r c e).1

        answer : CallAnswer o script t c r past
        answer = subst (λ x. IfSome x (λ st. Answer o script t st r past)) as_call (answered_as o script t i r past (λ g. true≢false (sym good ∙ ap is_ok_reply g)) legal.1.1.1)

        itself : (u : ℕ) → u ≡ t → is_newest_for t (session u) ≡ true
        itself u g = grind (arith, g)

        on_top : newest_in t (history o script past d) ≡ top_left (history o script past d).changes (history o script past d).base
        on_top = newest_top t (history o script past d).changes (history o script past d).base
            (each_has (λ w. is_newest_for t w ≡ true) (λ x. refl) (history o script past d).changes (λ u h. itself u (its_own o script run first t i r past d legal (is_sound o script run first past d legal.0) c e f u h)))

        stand : AllStand (history o script past d)
        stand = all_stand o script run statements opened past d legal.0

        now_cut : IsCut (left_by c (newest_in t (history o script past d))) (lob_behind (kind_of c (newest_in t (history o script past d))) (lob_behind_all (history o script past d).changes (history o script past d).lob))
        now_cut =
            call_cut c (newest o script t past) (newest_in t (history o script past d)) (lob_behind_all (history o script past d).changes (history o script past d).lob)
            (subst (λ x. IfSome x IsStatement) as_call (statements t i))
            (ap (look (newest o script t past)) (eq_is (call_doc c) d f) ∙ reads_own o script past run legal.0 t d)
            (seen_stands (is_newest_for t) (history o script past d).changes (history o script past d).base stand.left stand.below)
            (ap is_ok_reply (sym (table_of o script t c r past good answer)) ∙ good)
            (subst (λ x. IsCut x (lob_behind_all (history o script past d).changes (history o script past d).lob)) (sym on_top)
            (cut_top (history o script past d).lob (history o script past d).changes (history o script past d).base before.below before.left))

  -- the LOB that holds a document has as many pieces as its bytes need
  pub is_pieced : (past : List Entry) (d : ℕ) → IsLegal o script past → IsPieced (history o script past d)
  is_pieced [] d legal = pieced d
  is_pieced (Start t i ∷ past) d legal = is_pieced past d legal.0
  is_pieced (View t k ∷ past) d legal = is_pieced past d legal.0
  is_pieced (Wait t e g ∷ past) d legal = is_pieced past d legal.0
  is_pieced (Audited a ∷ past) d legal = is_pieced past d legal.0
  is_pieced (Did t i r ∷ past) d legal = by_made (made (statement script t i) r) refl (is_pieced past d legal.0)
    where
      by_doc : (c : Call) (b : Bool) → made (statement script t i) r ≡ Some c → nat_eq (call_doc c) d ≡ b → IsPieced (history o script past d)
          → IsPieced (if b then pushed t c (history o script past d) else history o script past d)
      by_doc c true e f before = made_pieced t i r past d legal before c e f
      by_doc c false e f before = before

      by_made : (m : Option Call) → made (statement script t i) r ≡ m → IsPieced (history o script past d) → IsPieced (with_call d t m (history o script past d))
      by_made None e before = before
      by_made (Some c) e before = by_doc c (nat_eq (call_doc c) d) e refl before
  is_pieced (Commit t n ∷ past) d legal =
      let b = is_pieced past d legal.0 in
      record { below = b.below; left = cut_renamed t n (history o script past d).changes (history o script past d).lob b.left }
  is_pieced (Undone t u ∷ past) d legal =
      let b = is_pieced past d legal.0 in
      record { below = b.below; left = cut_without (is_sessions t) (history o script past d).changes (history o script past d).lob (undone_top o script run first t past d legal.0) b.left }
  is_pieced (Restart k ∷ past) d legal =
      let b = is_pieced past d legal.0 in
      record { below = b.below; left = cut_without (λ w. not (is_committed w)) (history o script past d).changes (history o script past d).lob (restart_top o script run first past d legal.0) b.left }
  is_pieced (Purged n ∷ past) d legal =
      let b = is_pieced past d legal.0 in
      let low : lob_at n (history o script past d).changes (history o script past d).lob ≡ lob_behind_all (below n (history o script past d).changes) (history o script past d).lob =
      lob_below_is n (history o script past d).changes (history o script past d).lob (in_order o script run past d legal.0).ordered in
      let whole : AreCut (history o script past d).lob (above n (history o script past d).changes ++ below n (history o script past d).changes) =
      subst (AreCut (history o script past d).lob) (cut n (history o script past d).changes) b.left in
      record {
        below = subst (λ x. IsCut x (lob_at n (history o script past d).changes (history o script past d).lob)) (sym (seen_below n (history o script past d).changes (history o script past d).base))
            (subst (IsCut (top_left (below n (history o script past d).changes) (history o script past d).base)) (sym low)
            (cut_top (history o script past d).lob (below n (history o script past d).changes) (history o script past d).base b.below
            (lower_cut (above n (history o script past d).changes) (below n (history o script past d).changes) (history o script past d).lob whole)));
        left = subst (λ x. AreCut x (above n (history o script past d).changes)) (sym low)
            (upper_cut (above n (history o script past d).changes) (below n (history o script past d).changes) (history o script past d).lob whole);
      }
