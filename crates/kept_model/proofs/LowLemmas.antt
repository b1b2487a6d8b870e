-- No LOB that a history has below its changes has a version that is newer than itself.
use Rattle.std.proofs.Common.{◌≡◌, ◌≢◌, ℕ, zero, suc, ◌+◌, ◌≤◌, ◌<◌, Bool, true, false, true≢false, nat_lt, List, [], ◌∷◌, ◌++◌, map, Option, Some, None, IfSome, option_to_list, refl, sym, ap, subst, ◌∙◌, arith, le_trans, if◌then◌else◌}
use Rattle.journal_model.specs.Documents.{Call, call_doc}
use Rattle.journal_model.specs.Journal.{Script, statement, Entry, Start, View, Wait, Did, Commit, Undone, Purged, Audited, Restart, Opening}
use Rattle.journal_model.specs.Part.{made}
use Rattle.journal_model.specs.Held.{Kind, inserted, rebuilt, versioned, patched, removed, HeldLob, is_in, at_pieces, copies, greater}
use Rattle.journal_model.specs.History.{Owner, commit, Made, History, kinds, is_among, last_of, greatest_of, oldest_of, oldest_lob, lob_below, lob_behind, lob_at, lobs_at, above, purged_to, with_call, changes_of, first_history, history}
use Rattle.history_model.specs.Sound.{lob_behind_all}
use Rattle.kept_model.specs.Pages.{AllUpTo, AreBelow}

-- ---- the LOB below all changes has no version that is newer than itself

pub new_below : (n : ℕ) → AreBelow 1 (copies n)
new_below zero = tt
new_below (suc n) = ((omega arith, tt), new_below n)

pub all_up : (v w : ℕ) (ns : List ℕ) → v ≤ w → AllUpTo v ns → AllUpTo w ns
all_up v w [] le h = tt
all_up v w (n ∷ ns) le h = (le_trans h.0 le, all_up v w ns le h.1)

below_renewed : (t : List ℕ) (v n : ℕ) (ps : List (List ℕ)) → AreBelow v ps → AreBelow (v + 1) (at_pieces t (λ vs. (v + 1) ∷ []) n ps)
below_renewed t v n [] h = tt
below_renewed t v n (vs ∷ ps) h = (by_test (is_in n t), below_renewed t v (n + 1) ps h.1)
  where
    by_test : (b : Bool) → AllUpTo (v + 1) (if b then (v + 1) ∷ [] else vs)
    by_test true = (omega arith, tt)
    by_test false = all_up v (v + 1) vs (omega arith) h.0

abbrev pub IsLow : Option HeldLob → Type 0
IsLow l = IfSome l (λ x. AreBelow x.version x.pieces)

low_behind : (k : Kind) (l : Option HeldLob) → IsLow l → IsLow (lob_behind k l)
low_behind (inserted n) l h = new_below n
low_behind (rebuilt n) l h = new_below n
low_behind (versioned t) None h = tt
low_behind (versioned t) (Some x) h = below_renewed t x.version 1 x.pieces h
low_behind patched l h = h
low_behind removed l h = tt

pub low_behind_all : (ms : List Made) (l : Option HeldLob) → IsLow l → IsLow (lob_behind_all ms l)
low_behind_all [] l h = h
low_behind_all (m ∷ ms) l h = low_behind m.kind (lob_behind_all ms l) (low_behind_all ms l h)

low_at : (n : ℕ) (ms : List Made) (l : Option HeldLob) → IsLow l → IsLow (lob_at n ms l)
low_at n [] l h = h
low_at n (m ∷ ms) l h = by_test (is_among n m.owner) (low_at n ms l h)
  where
    by_test : (b : Bool) → IsLow (lob_at n ms l) → IsLow (if b then lob_behind m.kind (lob_at n ms l) else lob_at n ms l)
    by_test true rest = low_behind m.kind (lob_at n ms l) rest
    by_test false rest = rest

greater_left : (m n : ℕ) → m ≤ greater m n
greater_left m n = by_test (nat_lt m n) refl
  where
    by_test : (b : Bool) → nat_lt m n ≡ b → m ≤ (if b then n else m)
    by_test true e = let less : m < n = grind (arith, e) in omega (arith, less)
    by_test false e = omega arith

greater_right : (m n : ℕ) → n ≤ greater m n
greater_right m n = by_test (nat_lt m n) refl
  where
    by_test : (b : Bool) → nat_lt m n ≡ b → n ≤ (if b then n else m)
    by_test true e = omega arith
    by_test false e = let more : n ≤ m = grind (arith, e) in more

below_up : (v w : ℕ) (ps : List (List ℕ)) → v ≤ w → AreBelow v ps → AreBelow w ps
below_up v w [] le h = tt
below_up v w (vs ∷ ps) le h = (all_up v w vs le h.0, below_up v w ps le h.1)

oldest_below : (ps : List (List ℕ)) → AreBelow (greatest_of (map last_of ps)) (map (λ vs. last_of vs ∷ []) ps)
oldest_below [] = tt
oldest_below (vs ∷ ps) = (
  (greater_left (last_of vs) (greatest_of (map last_of ps)), tt),
  below_up (greatest_of (map last_of ps)) (greatest_of (map last_of (vs ∷ ps))) (map (λ vs. last_of vs ∷ []) ps) (greater_right (last_of vs) (greatest_of (map last_of ps))) (oldest_below ps),
)

oldest_low : (ls : List HeldLob) → IsLow (oldest_lob ls)
oldest_low [] = tt
oldest_low (l ∷ []) = oldest_below l.pieces
oldest_low (l ∷ m ∷ ls) = oldest_low (m ∷ ls)

first_low : (ks : List Kind) (ls : List HeldLob) → IsLow (lob_below ks ls)
first_low [] ls = oldest_low ls
first_low (inserted n ∷ []) ls = tt
first_low (rebuilt n ∷ []) ls = oldest_low ls
first_low (versioned t ∷ []) ls = oldest_low ls
first_low (patched ∷ []) ls = oldest_low ls
first_low (removed ∷ []) ls = oldest_low ls
first_low (inserted n ∷ k ∷ ks) ls = first_low (k ∷ ks) ls
first_low (rebuilt n ∷ k ∷ ks) ls = first_low (k ∷ ks) ls
first_low (versioned t ∷ k ∷ ks) ls = first_low (k ∷ ks) ls
first_low (patched ∷ k ∷ ks) ls = first_low (k ∷ ks) ls
first_low (removed ∷ k ∷ ks) ls = first_low (k ∷ ks) ls

low_call : (d s : ℕ) (c : Option Call) (h : History) → IsLow h.lob → IsLow (with_call d s c h).lob
low_call d s None h low = low
low_call d s (Some c) h low = by_test (Rattle.std.proofs.Common.nat_eq (call_doc c) d)
  where
    by_test : (b : Bool) → IsLow (if b then Rattle.journal_model.specs.History.pushed s c h else h).lob
    by_test true = low
    by_test false = low

pub low_of : (o : Opening) (script : Script) (past : List Entry) (d : ℕ) → IsLow (history o script past d).lob
low_of o script [] d = first_low (kinds (changes_of d (Rattle.journal_model.specs.Documents.look o.documents d) o.changes)) (lobs_at o d)
low_of o script (Start s i ∷ past) d = low_of o script past d
low_of o script (View s k ∷ past) d = low_of o script past d
low_of o script (Wait s e h ∷ past) d = low_of o script past d
low_of o script (Did s i r ∷ past) d = low_call d s (made (statement script s i) r) (history o script past d) (low_of o script past d)
low_of o script (Commit s n ∷ past) d = low_of o script past d
low_of o script (Undone s u ∷ past) d = low_of o script past d
low_of o script (Purged n ∷ past) d = low_at n (history o script past d).changes (history o script past d).lob (low_of o script past d)
low_of o script (Audited a ∷ past) d = low_of o script past d
low_of o script (Restart k ∷ past) d = low_of o script past d
