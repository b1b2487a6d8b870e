-- In a history the changes of one session that hasn't committed stand on top: exactly its own changes in the journal.
use Rattle.std.proofs.Common.{◌≡◌, ℕ, Bool, true, false, true≢false, not, nat_eq, cond, List, [], ◌∷◌, map, Option, Some, None, refl, sym, ap, subst, ◌∙◌, arith, if◌then◌else◌, ◌||◌}
use Rattle.std.specs.List.{filter}
use Rattle.journal_model.specs.Documents.{Call, call_doc, look, Kept}
use Rattle.journal_model.specs.Held.{Kind}
use Rattle.journal_model.specs.Journal.{Script, statement, Reply, Entry, Start, View, Wait, Did, Commit, Undone, Purged, Audited, Restart, Opening}
use Rattle.journal_model.specs.Part.{made, own, touches}
use Rattle.journal_model.specs.Legal.{IsLegal}
use Rattle.journal_model.specs.History.{Owner, session, commit, Made, is_sessions, is_committed, is_among, renamed, owned_anew, above, changes_of, first_history, history}
use Rattle.history_model.specs.Laws.{IsNumbered}
use Rattle.history_model.proofs.DocLemmas.{touches_more}
use Rattle.history_model.proofs.OwnLemmas.{Stays, start_stays, view_stays, wait_stays, purged_stays, audited_stays, commit_other, undone_other, did_other, commit_own, undone_own, restart_own, did_made}
use Rattle.history_model.proofs.DidLemmas.{did_none}
use Rattle.history_model.proofs.LockLemmas.{eq_is}
use Rattle.history_model.proofs.OwnerLemmas.{one_owner}
use Rattle.history_model.specs.Sound.{OfOwners}
use Rattle.history_model.proofs.SeenLemmas.{has, not_has, none_renamed, renamed_owners, without_owners, above_owners}

-- the change is committed
abbrev pub IsCommitted : Owner → Type 0
IsCommitted w = is_committed w ≡ true

-- below a change that is committed all are
unfoldable pub AreTop : List Made → Type 0
AreTop [] = Unit {0}
AreTop (m ∷ ms) = (IsCommitted m.owner → OfOwners IsCommitted ms) × AreTop ms

all_top : (ms : List Made) → OfOwners IsCommitted ms → AreTop ms
unfolding AreTop OfOwners
all_top [] h = tt
all_top (m ∷ ms) h = ((λ e. h.1), all_top ms h.1)

pub has_none : (s : ℕ) (ms : List Made) → OfOwners IsCommitted ms → has s ms ≡ false
unfolding OfOwners
has_none s [] h = refl
has_none s (m ∷ ms) h = by_owner m.owner h.0 (has_none s ms h.1)
  where
    by_owner : (w : Owner) → IsCommitted w → has s ms ≡ false → (is_sessions s w || has s ms) ≡ false
    by_owner (session t) e rest = absurd (true≢false (sym e))
    by_owner (commit c) e rest = rest

or_right : (a b : Bool) → b ≡ true → (a || b) ≡ true
or_right true b e = refl
or_right false b e = e

itself : (u : ℕ) → nat_eq u u ≡ true
itself u = grind arith

-- what holds of each session that has a change, and of each commit
pub each_has : (P : Owner → Type 0) → ((c : ℕ) → P (commit c)) → (ms : List Made) → ((u : ℕ) → has u ms ≡ true → P (session u)) → OfOwners P ms
unfolding OfOwners
each_has P committed [] h = tt
each_has P committed (m ∷ ms) h = (by_owner m.owner (λ u e. h u (rw e refl)), each_has P committed ms (λ u e. h u (or_right (is_sessions u m.owner) (has u ms) e)))
  where
    by_owner : (w : Owner) → ((u : ℕ) → is_sessions u w ≡ true → P (session u)) → P w
    by_owner (session u) f = f u (itself u)
    by_owner (commit c) f = committed c

-- ---- what an entry makes of them

renamed_is : (s t n : ℕ) (w : Owner) → is_sessions s (renamed t n w) ≡ (if nat_eq t s then false else is_sessions s w)
renamed_is s t n (commit c) = by_test (nat_eq t s)
  where
    by_test : (b : Bool) → false ≡ (if b then false else false)
    by_test true = refl
    by_test false = refl
renamed_is s t n (session u) = by_tests (nat_eq u t) (nat_eq t s) refl refl
  where
    by_tests : (a b : Bool) → nat_eq u t ≡ a → nat_eq t s ≡ b → is_sessions s (if a then commit n else session u) ≡ (if b then false else nat_eq u s)
    by_tests true true e f = refl
    by_tests true false e f = let one : u ≡ t = eq_is u t e in sym (ap (λ x. nat_eq x s) one ∙ f)
    by_tests false true e f = let one : t ≡ s = eq_is t s f in sym (ap (nat_eq u) one) ∙ e
    by_tests false false e f = refl

has_renamed : (s t n : ℕ) (ms : List Made) → has s (map (owned_anew t n) ms) ≡ (if nat_eq t s then false else has s ms)
has_renamed s t n [] = by_test (nat_eq t s)
  where
    by_test : (b : Bool) → false ≡ (if b then false else false)
    by_test true = refl
    by_test false = refl
has_renamed s t n (m ∷ ms) = ap (λ x. x || has s (map (owned_anew t n) ms)) (renamed_is s t n m.owner) ∙ ap (λ x. (if nat_eq t s then false else is_sessions s m.owner) || x) (has_renamed s t n ms) ∙ by_test (nat_eq t s)
  where
    by_test : (b : Bool) → ((if b then false else is_sessions s m.owner) || (if b then false else has s ms)) ≡ (if b then false else (is_sessions s m.owner || has s ms))
    by_test true = refl
    by_test false = refl

has_without : (s t : ℕ) (ms : List Made) → has s (filter (λ m. not (is_sessions t m.owner)) ms) ≡ (if nat_eq t s then false else has s ms)
has_without s t [] = by_test (nat_eq t s)
  where
    by_test : (b : Bool) → false ≡ (if b then false else false)
    by_test true = refl
    by_test false = refl
has_without s t (m ∷ ms) = pulled (is_sessions t m.owner) ∙ by_owner m.owner (has_without s t ms)
  where
    by_tests : (u : ℕ) (a b : Bool) → nat_eq u t ≡ a → nat_eq t s ≡ b → has s (filter (λ m. not (is_sessions t m.owner)) ms) ≡ (if b then false else has s ms)
        → (if not a then nat_eq u s || has s (filter (λ m. not (is_sessions t m.owner)) ms) else has s (filter (λ m. not (is_sessions t m.owner)) ms)) ≡ (if b then false else (nat_eq u s || has s ms))
    by_tests u true true e f rest = rest
    by_tests u true false e f rest = let one : u ≡ t = eq_is u t e in rest ∙ ap (λ x. x || has s ms) (sym (ap (λ x. nat_eq x s) one ∙ f))
    by_tests u false true e f rest = let one : t ≡ s = eq_is t s f in ap (λ x. x || has s (filter (λ m. not (is_sessions t m.owner)) ms)) (sym (ap (nat_eq u) one) ∙ e) ∙ rest
    by_tests u false false e f rest = ap (λ x. nat_eq u s || x) rest

    pulled : (x : Bool) → has s (cond (not x) (m ∷ filter (λ m. not (is_sessions t m.owner)) ms) (filter (λ m. not (is_sessions t m.owner)) ms))
        ≡ (if not x then is_sessions s m.owner || has s (filter (λ m. not (is_sessions t m.owner)) ms) else has s (filter (λ m. not (is_sessions t m.owner)) ms))
    pulled true = refl
    pulled false = refl

    by_owner : (w : Owner) → has s (filter (λ m. not (is_sessions t m.owner)) ms) ≡ (if nat_eq t s then false else has s ms)
        → (if not (is_sessions t w) then is_sessions s w || has s (filter (λ m. not (is_sessions t m.owner)) ms) else has s (filter (λ m. not (is_sessions t m.owner)) ms))
        ≡ (if nat_eq t s then false else (is_sessions s w || has s ms))
    by_owner (session u) rest = by_tests u (nat_eq u t) (nat_eq t s) refl refl rest
    by_owner (commit c) rest = rest

-- without the open changes all are
pub committed_left : (ms : List Made) → OfOwners IsCommitted (filter (λ m. not (not (is_committed m.owner))) ms)
unfolding OfOwners
committed_left [] = tt
committed_left (m ∷ ms) = by_test (is_committed m.owner) refl (committed_left ms)
  where
    by_test : (x : Bool) → is_committed m.owner ≡ x → OfOwners IsCommitted (filter (λ m. not (not (is_committed m.owner))) ms)
        → OfOwners IsCommitted (cond (not (not x)) (m ∷ filter (λ m. not (not (is_committed m.owner))) ms) (filter (λ m. not (not (is_committed m.owner))) ms))
    by_test true e rest = (e, rest)
    by_test false e rest = rest

top_without : (out : Owner → Bool) (ms : List Made) → AreTop ms → AreTop (filter (λ m. not (out m.owner)) ms)
unfolding AreTop
top_without out [] h = tt
top_without out (m ∷ ms) h = by_test (out m.owner) (top_without out ms h.1)
  where
    by_test : (x : Bool) → AreTop (filter (λ m. not (out m.owner)) ms) → AreTop (cond (not x) (m ∷ filter (λ m. not (out m.owner)) ms) (filter (λ m. not (out m.owner)) ms))
    by_test true rest = rest
    by_test false rest = ((λ e. without_owners IsCommitted out ms (h.0 e)), rest)

top_above : (n : ℕ) (ms : List Made) → AreTop ms → AreTop (above n ms)
unfolding AreTop
top_above n [] h = tt
top_above n (m ∷ ms) h = by_test (is_among n m.owner) (top_above n ms h.1)
  where
    by_test : (x : Bool) → AreTop (above n ms) → AreTop (if x then [] else m ∷ above n ms)
    by_test true rest = tt
    by_test false rest = ((λ e. above_owners IsCommitted n ms (h.0 e)), rest)

pub among_is : (n : ℕ) (w : Owner) → is_among n w ≡ true → IsCommitted w
among_is n (session t) h = absurd (true≢false (sym h))
among_is n (commit c) h = refl

-- a committed change is no session's
pub committed_isnt : (s : ℕ) (w : Owner) → IsCommitted w → is_sessions s w ≡ false
committed_isnt s (session t) h = absurd (true≢false (sym h))
committed_isnt s (commit c) h = refl

has_above : (s n : ℕ) (ms : List Made) → AreTop ms → has s (above n ms) ≡ has s ms
unfolding AreTop
has_above s n [] h = refl
has_above s n (m ∷ ms) h = by_test (is_among n m.owner) refl (has_above s n ms h.1)
  where
    by_test : (x : Bool) → is_among n m.owner ≡ x → has s (above n ms) ≡ has s ms → has s (if x then [] else m ∷ above n ms) ≡ (is_sessions s m.owner || has s ms)
    by_test true e rest =
        let all : OfOwners IsCommitted ms = h.0 (among_is n m.owner e) in
        sym (ap (λ x. x || has s ms) (committed_isnt s m.owner (among_is n m.owner e)) ∙ has_none s ms all)
    by_test false e rest = ap (λ x. is_sessions s m.owner || x) rest

opening_committed : (d : ℕ) (now : Option Kept) (cs : List (ℕ × ℕ × Kind)) → OfOwners IsCommitted (changes_of d now cs)
unfolding OfOwners
opening_committed d now [] = tt
opening_committed d now (c ∷ cs) = by_test (nat_eq c.1 d) (opening_committed d now cs)
  where
    by_test : (x : Bool) → OfOwners IsCommitted (changes_of d now cs)
        → OfOwners IsCommitted (if x then record { owner = commit c.0; kind = c.2; left = now } ∷ changes_of d now cs else changes_of d now cs)
    by_test true rest = (refl, rest)
    by_test false rest = rest

-- ---- the whole

pub record IsOwned (o : Opening) (script : Script) (past : List Entry) (d : ℕ) : Type 0 where
  -- a session has open changes of a document where its own calls touch it
  pub owned : (s : ℕ) → has s (history o script past d).changes ≡ touches d (own script s past)
  pub top : AreTop (history o script past d).changes

module _ (o : Opening) (script : Script) (numbered : IsNumbered script) where
  stays_owned : (e : Entry) (past : List Entry) (d : ℕ) → history o script (e ∷ past) d ≡ history o script past d → ((s : ℕ) → Stays script s e past)
      → IsOwned o script past d → IsOwned o script (e ∷ past) d
  stays_owned e past d keeps stays before = record {
    owned = λ s. ap (λ h. has s h.changes) keeps ∙ before.owned s ∙ sym (ap (touches d) (stays s).own_stays);
    top = subst (λ h. AreTop h.changes) (sym keeps) before.top;
  }

  module _ (t i : ℕ) (r : Reply) (past : List Entry) (d : ℕ) (legal : IsLegal o script (Did t i r ∷ past)) (before : IsOwned o script past d) where
    -- an answer that changed nothing leaves them
    pub own_of : (s : ℕ) → made (statement script t i) r ≡ None → own script s (Did t i r ∷ past) ≡ own script s past
    own_of s none = by_test (nat_eq t s) refl
      where
        by_test : (b : Bool) → nat_eq t s ≡ b → own script s (Did t i r ∷ past) ≡ own script s past
        by_test true e = let one : t ≡ s = eq_is t s e in subst (λ x. own script x (Did t i r ∷ past) ≡ own script x past) one (did_none o script t i r past legal none)
        by_test false e = (did_other script s past t i r e).own_stays

    did_owned : IsOwned o script (Did t i r ∷ past) d
    unfolding AreTop
    did_owned = by_made (made (statement script t i) r) refl
      where
        touched_by : (c : Call) (s : ℕ) → made (statement script t i) r ≡ Some c → touches d (own script s (Did t i r ∷ past)) ≡ (if nat_eq t s then (nat_eq (call_doc c) d || touches d (own script s past)) else touches d (own script s past))
        touched_by c s e = by_test (nat_eq t s) refl
          where
            by_test : (b : Bool) → nat_eq t s ≡ b → touches d (own script s (Did t i r ∷ past)) ≡ (if b then (nat_eq (call_doc c) d || touches d (own script s past)) else touches d (own script s past))
            by_test true f =
                let one : t ≡ s = eq_is t s f in
                subst (λ x. touches d (own script x (Did t i r ∷ past)) ≡ (nat_eq (call_doc c) d || touches d (own script x past))) one
                (ap (touches d) (did_made script t i r past c e) ∙ touches_more d (own script t past) c)
            by_test false f = ap (touches d) (did_other script s past t i r f).own_stays

        by_doc : (c : Call) (b : Bool) → made (statement script t i) r ≡ Some c → nat_eq (call_doc c) d ≡ b → IsOwned o script (Did t i r ∷ past) d
        by_doc c true e f = record {
          owned = λ s. rw (e, f) (on_it s (nat_eq t s) ∙ sym (touched_by c s e ∙ rw f refl));
          top = rw (e, f) ((λ g. absurd (true≢false (sym g))), before.top);
        }
          where
            on_it : (s : ℕ) (b : Bool) → (b || has s (history o script past d).changes) ≡ (if b then true else touches d (own script s past))
            on_it s true = refl
            on_it s false = before.owned s
        by_doc c false e f = record {
          owned = λ s. rw (e, f) (before.owned s ∙ sym (touched_by c s e ∙ rw f (on_other s (nat_eq t s))));
          top = rw (e, f) before.top;
        }
          where
            on_other : (s : ℕ) (b : Bool) → (if b then touches d (own script s past) else touches d (own script s past)) ≡ touches d (own script s past)
            on_other s true = refl
            on_other s false = refl

        by_made : (m : Option Call) → made (statement script t i) r ≡ m → IsOwned o script (Did t i r ∷ past) d
        by_made None e = record { owned = λ s. rw e (before.owned s ∙ sym (ap (touches d) (own_of s e))); top = rw e before.top }
        by_made (Some c) e = by_doc c (nat_eq (call_doc c) d) e refl

  module _ (t n : ℕ) (past : List Entry) (d : ℕ) (legal : IsLegal o script past) (before : IsOwned o script past d) where
    commit_owned : IsOwned o script (Commit t n ∷ past) d
    commit_owned = record { owned = λ s. has_renamed s t n (history o script past d).changes ∙ own_left s (nat_eq t s) refl; top = by_test (has t (history o script past d).changes) refl }
      where
        own_left : (s : ℕ) (b : Bool) → nat_eq t s ≡ b → (if b then false else has s (history o script past d).changes) ≡ touches d (own script s (Commit t n ∷ past))
        own_left s true e = sym (ap (touches d) (commit_own script s past t n e))
        own_left s false e = before.owned s ∙ sym (ap (touches d) (commit_other script s past t n e).own_stays)

        now_committed : (u : ℕ) → u ≡ t → IsCommitted (renamed t n (session u))
        now_committed u e = rw (e, itself t) refl

        alone : has t (history o script past d).changes ≡ true → (u : ℕ) → has u (history o script past d).changes ≡ true → u ≡ t
        alone h u g = one_owner o script past numbered legal d u t (sym (before.owned u) ∙ g) (sym (before.owned t) ∙ h)

        all_now : has t (history o script past d).changes ≡ true → OfOwners (λ w. IsCommitted (renamed t n w)) (history o script past d).changes
        all_now h = each_has (λ w. IsCommitted (renamed t n w)) (λ c. refl) (history o script past d).changes (λ u g. now_committed u (alone h u g))

        by_test : (b : Bool) → has t (history o script past d).changes ≡ b → AreTop (map (owned_anew t n) (history o script past d).changes)
        by_test true h = all_top (map (owned_anew t n) (history o script past d).changes) (renamed_owners IsCommitted t n (history o script past d).changes (all_now h))
        by_test false h = subst AreTop (sym (none_renamed t n (history o script past d).changes (not_has t (history o script past d).changes h))) before.top

  -- both, in a legal journal
  pub is_owned : (past : List Entry) (d : ℕ) → IsLegal o script past → IsOwned o script past d
  is_owned [] d legal = record {
    owned = λ s. has_none s (first_history o d).changes (opening_committed d (look o.documents d) o.changes);
    top = all_top (first_history o d).changes (opening_committed d (look o.documents d) o.changes);
  }
  is_owned (Start t i ∷ past) d legal = stays_owned (Start t i) past d refl (λ s. start_stays script s past t i) (is_owned past d legal.0)
  is_owned (View t k ∷ past) d legal = stays_owned (View t k) past d refl (λ s. view_stays script s past t k) (is_owned past d legal.0)
  is_owned (Wait t e g ∷ past) d legal = stays_owned (Wait t e g) past d refl (λ s. wait_stays script s past t e g) (is_owned past d legal.0)
  is_owned (Audited a ∷ past) d legal = stays_owned (Audited a) past d refl (λ s. audited_stays script s past a) (is_owned past d legal.0)
  is_owned (Did t i r ∷ past) d legal = did_owned t i r past d legal (is_owned past d legal.0)
  is_owned (Commit t n ∷ past) d legal = commit_owned t n past d legal.0 (is_owned past d legal.0)
  is_owned (Undone t u ∷ past) d legal =
      let before = is_owned past d legal.0 in
      record { owned = λ s. has_without s t (history o script past d).changes ∙ own_left s (nat_eq t s) refl (before.owned s); top = top_without (is_sessions t) (history o script past d).changes before.top }
    where
      own_left : (s : ℕ) (b : Bool) → nat_eq t s ≡ b → has s (history o script past d).changes ≡ touches d (own script s past)
          → (if b then false else has s (history o script past d).changes) ≡ touches d (own script s (Undone t u ∷ past))
      own_left s true e h = sym (ap (touches d) (undone_own script s past t u e))
      own_left s false e h = h ∙ sym (ap (touches d) (undone_other script s past t u e).own_stays)
  is_owned (Restart k ∷ past) d legal =
      let left = committed_left (history o script past d).changes in
      record {
        owned = λ s. has_none s _ left ∙ sym (ap (touches d) (restart_own script s past k));
        top = all_top _ left;
      }
  is_owned (Purged n ∷ past) d legal =
      let before = is_owned past d legal.0 in
      record {
        owned = λ s. has_above s n (history o script past d).changes before.top ∙ before.owned s ∙ sym (ap (touches d) (purged_stays script s past n).own_stays);
        top = top_above n (history o script past d).changes before.top;
      }

-- a history has changes of a session exactly where its own calls touch the document
pub owned_of : (o : Opening) (script : Script) (past : List Entry) → IsNumbered script → IsLegal o script past → (d s : ℕ)
    → has s (history o script past d).changes ≡ touches d (own script s past)
owned_of o script past numbered legal d s = (is_owned o script numbered past d legal).owned s
