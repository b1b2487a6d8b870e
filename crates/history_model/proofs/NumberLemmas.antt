-- The commits that a history names are made; documents at a commit above the last are those at the last.
use Rattle.std.proofs.Common.{◌≡◌, ℕ, ◌+◌, ◌≤◌, Bool, true, false, not, nat_eq, nat_lt, List, [], ◌∷◌, Option, Some, None, refl, ap, arith, if◌then◌else◌}
use Rattle.journal_model.specs.Documents.{Call, call_doc, look, Kept, keep, all_by}
use Rattle.journal_model.specs.Held.{Kind}
use Rattle.journal_model.specs.Journal.{Script, statement, Entry, Start, View, Wait, Did, Commit, Undone, Purged, Audited, Restart, Opening}
use Rattle.journal_model.specs.Part.{made, own, commits_of, docs}
use Rattle.journal_model.specs.Legal.{IsLegal}
use Rattle.journal_model.specs.History.{Owner, session, commit, pushed, with_call, is_sessions, is_committed, renamed, changes_of, history}
use Rattle.history_model.specs.Laws.{AreFalling}
use Rattle.history_model.specs.Sound.{OfOwners}
use Rattle.history_model.proofs.SeenLemmas.{IsUpTo, map_owners, renamed_owners, without_owners, above_owners}

opening_up_to : (p n k d : ℕ) (now : Option Kept) (cs : List (ℕ × ℕ × Kind)) → n ≤ k → AreFalling p n cs → OfOwners (IsUpTo k) (changes_of d now cs)
unfolding OfOwners
opening_up_to p n k d now [] le h = tt
opening_up_to p n k d now (c ∷ cs) le h =
    let here : c.0 ≤ k = omega (arith, h.1, le) in
    by_test (nat_eq c.1 d) here (opening_up_to p c.0 k d now cs here h.2)
  where
    by_test : (x : Bool) → c.0 ≤ k → OfOwners (IsUpTo k) (changes_of d now cs)
        → OfOwners (IsUpTo k) (if x then record { owner = commit c.0; kind = c.2; left = now } ∷ changes_of d now cs else changes_of d now cs)
    by_test true here rest = (here, rest)
    by_test false here rest = rest

up_to_more : (k m : ℕ) → k ≤ m → (w : Owner) → IsUpTo k w → IsUpTo m w
up_to_more k m le (session t) h = tt
up_to_more k m le (commit c) h = omega (arith, le, h)

module _ (o : Opening) (script : Script) (falling : AreFalling o.purged o.commits o.changes) where
  -- no change in a history is above the commits so far
  pub up_to : (past : List Entry) (d : ℕ) → IsLegal o script past → OfOwners (IsUpTo (commits_of o past)) (history o script past d).changes
  unfolding OfOwners
  up_to [] d legal = opening_up_to o.purged o.commits o.commits d (look o.documents d) o.changes (omega arith) falling
  up_to (Start t i ∷ past) d legal = up_to past d legal.0
  up_to (View t k ∷ past) d legal = up_to past d legal.0
  up_to (Wait t e g ∷ past) d legal = up_to past d legal.0
  up_to (Audited a ∷ past) d legal = up_to past d legal.0
  up_to (Did t i r ∷ past) d legal = by_made (made (statement script t i) r) (up_to past d legal.0)
    where
      by_doc : (c : Call) (b : Bool) → OfOwners (IsUpTo (commits_of o past)) (history o script past d).changes
          → OfOwners (IsUpTo (commits_of o past)) (if b then pushed t c (history o script past d) else history o script past d).changes
      by_doc c true before = (tt, before)
      by_doc c false before = before

      by_made : (m : Option Call) → OfOwners (IsUpTo (commits_of o past)) (history o script past d).changes
          → OfOwners (IsUpTo (commits_of o past)) (with_call d t m (history o script past d)).changes
      by_made None before = before
      by_made (Some c) before = by_doc c (nat_eq (call_doc c) d) before
  up_to (Commit t n ∷ past) d legal =
      renamed_owners (IsUpTo n) t n (history o script past d).changes
      (map_owners (IsUpTo (commits_of o past)) (λ w. IsUpTo n (renamed t n w)) (λ w h. to_new w h) (history o script past d).changes (up_to past d legal.0))
    where
      by_test : (b : Bool) (u : ℕ) → IsUpTo n (if b then commit n else session u)
      by_test true u = omega arith
      by_test false u = tt

      to_new : (w : Owner) → IsUpTo (commits_of o past) w → IsUpTo n (renamed t n w)
      to_new (session u) h = by_test (nat_eq u t) u
      to_new (commit c) h = let next : n ≡ commits_of o past + 1 = legal.1.1.0 in omega (arith, next, h)
  up_to (Undone t u ∷ past) d legal = without_owners (IsUpTo (commits_of o past)) (is_sessions t) (history o script past d).changes (up_to past d legal.0)
  up_to (Restart k ∷ past) d legal = without_owners (IsUpTo (commits_of o past)) (λ w. not (is_committed w)) (history o script past d).changes (up_to past d legal.0)
  up_to (Purged n ∷ past) d legal = above_owners (IsUpTo (commits_of o past)) n (history o script past d).changes (up_to past d legal.0)

below_false : (n k : ℕ) → n ≤ k → nat_lt k n ≡ false
below_false n k h = grind (arith, h)

-- behind the last commit the documents stay the same
pub docs_above : (o : Opening) (script : Script) (past : List Entry) (k m : ℕ) → IsLegal o script past → commits_of o past ≤ k → commits_of o past ≤ m
    → docs o script past k ≡ docs o script past m
docs_above o script [] k m legal hk hm = refl
docs_above o script (Start t i ∷ past) k m legal hk hm = docs_above o script past k m legal.0 hk hm
docs_above o script (View t j ∷ past) k m legal hk hm = docs_above o script past k m legal.0 hk hm
docs_above o script (Wait t e g ∷ past) k m legal hk hm = docs_above o script past k m legal.0 hk hm
docs_above o script (Did t i r ∷ past) k m legal hk hm = docs_above o script past k m legal.0 hk hm
docs_above o script (Undone t u ∷ past) k m legal hk hm = docs_above o script past k m legal.0 hk hm
docs_above o script (Purged c ∷ past) k m legal hk hm = docs_above o script past k m legal.0 hk hm
docs_above o script (Audited a ∷ past) k m legal hk hm = docs_above o script past k m legal.0 hk hm
docs_above o script (Restart j ∷ past) k m legal hk hm = docs_above o script past k m legal.0 hk hm
docs_above o script (Commit t n ∷ past) k m legal hk hm =
    let next : n ≡ commits_of o past + 1 = legal.1.1.0 in
    rw (below_false n k hk, below_false n m hm)
    (ap (all_by keep (own script t past)) (docs_above o script past k m legal.0 (omega (arith, next, hk)) (omega (arith, next, hm))))
