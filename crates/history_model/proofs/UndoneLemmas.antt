-- Changes renamed by a commit, and changes undone, which stand on top.
use Rattle.std.proofs.Common.{◌≡◌, ℕ, Bool, true, false, true≢false, not, cond, List, [], ◌∷◌, map, Option, is_some, refl, sym, ap, subst, ◌∙◌}
use Rattle.std.specs.List.{filter}
use Rattle.journal_model.specs.Held.{HeldLob, add_all, take_all_back}
use Rattle.journal_model.specs.History.{Owner, session, commit, Made, is_committed, owned_anew, lob_behind, kinds}
use Rattle.history_model.specs.Sound.{OfOwners, IsWithin, IsOver, AreOrdered, IsFitting, lob_behind_all, AreFitting}
use Rattle.history_model.proofs.LobLemmas.{taken_back}

-- ---- renamed

-- a commit leaves the LOB behind the changes
pub behind_renamed : (t n : ℕ) (ms : List Made) (l : Option HeldLob) → lob_behind_all (map (owned_anew t n) ms) l ≡ lob_behind_all ms l
behind_renamed t n [] l = refl
behind_renamed t n (m ∷ ms) l = ap (lob_behind m.kind) (behind_renamed t n ms l)

-- and that they fit
pub fitting_renamed : (t n : ℕ) (ms : List Made) (l : Option HeldLob) → AreFitting l ms → AreFitting l (map (owned_anew t n) ms)
unfolding AreFitting
fitting_renamed t n [] l h = tt
fitting_renamed t n (m ∷ ms) l h =
    (subst (IsFitting m.kind) (sym (behind_renamed t n ms l)) h.0, h.1 ∙ ap (λ x. is_some (lob_behind m.kind x)) (sym (behind_renamed t n ms l)), fitting_renamed t n ms l h.2)

-- and their kinds
pub kinds_renamed : (t n : ℕ) (ms : List Made) → kinds (map (owned_anew t n) ms) ≡ kinds ms
kinds_renamed t n [] = refl
kinds_renamed t n (m ∷ ms) = ap (λ x. m.kind ∷ x) (kinds_renamed t n ms)

-- ---- undone: those that go stand on top

-- the changes that go stand on top
unfoldable pub TopOnly : (Owner → Bool) → List Made → Type 0
TopOnly out [] = Unit {0}
TopOnly out (m ∷ ms) = (out m.owner ≡ false → OfOwners (λ w. out w ≡ false) ms) × TopOnly out ms

-- so do none
pub all_stay : (out : Owner → Bool) (ms : List Made) → OfOwners (λ w. out w ≡ false) ms → TopOnly out ms
unfolding TopOnly OfOwners
all_stay out [] h = tt
all_stay out (m ∷ ms) h = ((λ e. h.1), all_stay out ms h.1)

-- so do the open ones
pub top_only : (out : Owner → Bool) (ms : List Made) → OfOwners (λ w. out w ≡ not (is_committed w)) ms → AreOrdered ms → TopOnly out ms
unfolding TopOnly OfOwners AreOrdered
top_only out [] h g = tt
top_only out (m ∷ ms) h g = ((λ e. below m.owner (sym h.0 ∙ e) g.0), top_only out ms h.1 g.1)
  where
    stays : (c : ℕ) (w : Owner) → (out w ≡ not (is_committed w)) × IsWithin c w → out w ≡ false
    stays c (session u) k = absurd k.1
    stays c (commit e) k = k.0

    both : (ns : List Made) (c : ℕ) → OfOwners (λ w. out w ≡ not (is_committed w)) ns → OfOwners (IsWithin c) ns → OfOwners (λ w. out w ≡ false) ns
    both [] c a b = tt
    both (k ∷ ns) c a b = (stays c k.owner (a.0, b.0), both ns c a.1 b.1)

    below : (w : Owner) → not (is_committed w) ≡ false → IsOver w ms → OfOwners (λ w. out w ≡ false) ms
    below (session u) e over = absurd (true≢false e)
    below (commit c) e over = both ms c h.1 over

-- where none goes all stay
pub none_out : (out : Owner → Bool) (ms : List Made) → OfOwners (λ w. out w ≡ false) ms → filter (λ m. not (out m.owner)) ms ≡ ms
unfolding OfOwners
none_out out [] h = refl
none_out out (m ∷ ms) h = rw h.0 (ap (λ x. m ∷ x) (none_out out ms h.1))

none_in : (out : Owner → Bool) (ms : List Made) → OfOwners (λ w. out w ≡ false) ms → filter (λ m. out m.owner) ms ≡ []
unfolding OfOwners
none_in out [] h = refl
none_in out (m ∷ ms) h = rw h.0 (none_in out ms h.1)

-- the changes that stay fit
pub fitting_without : (out : Owner → Bool) (ms : List Made) (l : Option HeldLob) → TopOnly out ms → AreFitting l ms → AreFitting l (filter (λ m. not (out m.owner)) ms)
unfolding TopOnly AreFitting
fitting_without out [] l top h = tt
fitting_without out (m ∷ ms) l top h = by_test (out m.owner) refl (fitting_without out ms l top.1 h.2)
  where
    by_test : (x : Bool) → out m.owner ≡ x → AreFitting l (filter (λ m. not (out m.owner)) ms)
        → AreFitting l (cond (not x) (m ∷ filter (λ m. not (out m.owner)) ms) (filter (λ m. not (out m.owner)) ms))
    by_test true e rest = rest
    by_test false e rest = subst (λ x. AreFitting l (m ∷ x)) (sym (none_out out ms (top.0 e))) h

-- taken back from the LOBs that they made
pub back_without : (out : Owner → Bool) (ms : List Made) (lobs : List HeldLob) → TopOnly out ms
    → take_all_back (kinds (filter (λ m. out m.owner) ms)) (add_all (kinds ms) lobs) ≡ add_all (kinds (filter (λ m. not (out m.owner)) ms)) lobs
unfolding TopOnly
back_without out [] lobs top = refl
back_without out (m ∷ ms) lobs top = by_test (out m.owner) refl (back_without out ms lobs top.1)
  where
    by_test : (x : Bool) → out m.owner ≡ x
        → take_all_back (kinds (filter (λ m. out m.owner) ms)) (add_all (kinds ms) lobs) ≡ add_all (kinds (filter (λ m. not (out m.owner)) ms)) lobs
        → take_all_back (kinds (cond x (m ∷ filter (λ m. out m.owner) ms) (filter (λ m. out m.owner) ms))) (add_all (kinds (m ∷ ms)) lobs)
        ≡ add_all (kinds (cond (not x) (m ∷ filter (λ m. not (out m.owner)) ms) (filter (λ m. not (out m.owner)) ms))) lobs
    by_test true e rest = ap (take_all_back (kinds (filter (λ m. out m.owner) ms))) (taken_back m.kind (add_all (kinds ms) lobs)) ∙ rest
    by_test false e rest =
        ap (λ x. take_all_back (kinds x) (add_all (kinds (m ∷ ms)) lobs)) (none_in out ms (top.0 e))
        ∙ ap (λ x. add_all (kinds (m ∷ x)) lobs) (sym (none_out out ms (top.0 e)))
