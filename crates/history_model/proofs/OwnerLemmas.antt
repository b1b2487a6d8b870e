-- A document has own changes of one session at most.
use Rattle.std.proofs.Common.{◌≡◌, ℕ, ◌-◌, Bool, true, false, true≢false, nat_eq, List, [], ◌∷◌, ◌++◌, slice_get, append-nil, Option, Some, None, option_to_list, refl, sym, ap, ◌∙◌, if◌then◌else◌, ◌&&◌, ◌||◌}
use Rattle.journal_model.specs.Documents.{Call, call_doc}
use Rattle.journal_model.specs.Journal.{Script, Statement, statements, statement, call, get, size, begin, commit, rollback, Reply, deadlock, missing, exists, same, deep, large, no_room, full, part as parted, done, inside, doc, sized, absent, restarted, memory, Entry, Start, View, Wait, Did, Commit, Undone, Purged, Audited, Restart, Opening}
use Rattle.journal_model.specs.Part.{is_of, is_ok_reply, made, ends, next_part, part, calls_in, own, touches}
use Rattle.journal_model.specs.Locks.{sessions, changes, is_on, has_change, holds}
use Rattle.journal_model.specs.Held.{is_in}
use Rattle.journal_model.specs.Legal.{IsLegal}
use Rattle.history_model.specs.Laws.{IsNumbered}
use Rattle.history_model.proofs.DocLemmas.{touches_more}
use Rattle.history_model.proofs.LockLemmas.{gets_lock, alone, eq_is}

ok_gets : (r : Reply) → is_ok_reply r ≡ true → gets_lock r ≡ true
ok_gets missing h = refl
ok_gets exists h = refl
ok_gets same h = refl
ok_gets deep h = refl
ok_gets large h = refl
ok_gets (no_room n m) h = refl
ok_gets full h = refl
ok_gets (parted n) h = refl
ok_gets done h = refl
ok_gets inside h = refl
ok_gets (doc w) h = refl
ok_gets (sized n m) h = refl
ok_gets absent h = refl
ok_gets memory h = absurd (true≢false (sym h))
ok_gets restarted h = refl
ok_gets (deadlock l) h = absurd (true≢false (sym h))

-- what is made is a change on its document, and takes the lock
pub made_as : (st : Option Statement) (r : Reply) (c : Call) → made st r ≡ Some c → (st ≡ Some (call c)) × (is_ok_reply r ≡ true)
made_as None r c h = cc
made_as (Some (call e)) r c h = by_test (is_ok_reply r) refl h
  where
    by_test : (b : Bool) → is_ok_reply r ≡ b → (if b then Some e else None) ≡ Some c → (Some (call e) ≡ Some (call c)) × (is_ok_reply r ≡ true)
    by_test true g f = let one : e ≡ c = cc in (ap (λ x. Some (call x)) one, g)
    by_test false g f = cc
made_as (Some (get d)) r c h = cc
made_as (Some (size d)) r c h = cc
made_as (Some (begin l)) r c h = cc
made_as (Some commit) r c h = cc
made_as (Some rollback) r c h = cc

is_own_change : (d : ℕ) (st : Option Statement) (r : Reply) (c : Call) → made st r ≡ Some c → nat_eq (call_doc c) d ≡ true → (is_on d (changes st) && gets_lock r) ≡ true
is_own_change d st r c h on = let two = made_as st r c h in rw (two.0, on, ok_gets r two.1) refl

-- the calls of these entries are on documents that the entries hold
called_held : (script : Script) (s d : ℕ) (p : List Entry) → touches d (calls_in script s p) ≡ true → has_change script gets_lock d p ≡ true
called_held script s d [] h = h
called_held script s d (Did t i r ∷ p) h = by_made (made (statement script t i) r) refl h (called_held script s d p)
  where
    or_true : (a b : Bool) → b ≡ true → (a || b) ≡ true
    or_true true b e = refl
    or_true false b e = e

    by_doc : (c : Call) (b : Bool) → nat_eq (call_doc c) d ≡ b → made (statement script t i) r ≡ Some c → (b || touches d (calls_in script s p)) ≡ true
        → (touches d (calls_in script s p) ≡ true → has_change script gets_lock d p ≡ true) → has_change script gets_lock d (Did t i r ∷ p) ≡ true
    by_doc c true on e f rest = rw (is_own_change d (statement script t i) r c e on) refl
    by_doc c false on e f rest = or_true (is_on d (changes (statement script t i)) && gets_lock r) (has_change script gets_lock d p) (rest f)

    by_made : (m : Option Call) → made (statement script t i) r ≡ m → touches d (calls_in script s p ++ option_to_list m) ≡ true
        → (touches d (calls_in script s p) ≡ true → has_change script gets_lock d p ≡ true) → has_change script gets_lock d (Did t i r ∷ p) ≡ true
    by_made None e f rest =
        or_true (is_on d (changes (statement script t i)) && gets_lock r) (has_change script gets_lock d p) (rest (sym (ap (touches d) (append-nil (calls_in script s p))) ∙ f))
    by_made (Some c) e f rest = by_doc c (nat_eq (call_doc c) d) refl e (sym (touches_more d (calls_in script s p) c) ∙ f) rest
called_held script s d (Start t i ∷ p) h = called_held script s d p h
called_held script s d (View t k ∷ p) h = called_held script s d p h
called_held script s d (Wait t e g ∷ p) h = called_held script s d p h
called_held script s d (Commit t c ∷ p) h = called_held script s d p h
called_held script s d (Undone t u ∷ p) h = called_held script s d p h
called_held script s d (Purged c ∷ p) h = called_held script s d p h
called_held script s d (Audited a ∷ p) h = called_held script s d p h
called_held script s d (Restart k ∷ p) h = called_held script s d p h

-- a session with a change of its own to a document holds the document's lock
pub own_held : (script : Script) (s d : ℕ) (past : List Entry) → touches d (own script s past) ≡ true → holds script s d past ≡ true
own_held script s d past h = called_held script s d (part script s past) h

-- ---- a session without statements

abbrev no_statements : List Statement
no_statements = []

none_at : (script : Script) (s i : ℕ) → statements s script ≡ [] → statement script s i ≡ None
none_at script s i none = rw none (by_test (nat_eq i 0))
  where
    by_test : (b : Bool) → (if b then None else slice_get no_statements (i - 1)) ≡ None
    by_test true = refl
    by_test false = refl

made_none : (script : Script) (s i : ℕ) (r : Reply) → statements s script ≡ [] → made (statement script s i) r ≡ None
made_none script s i r none = rw (none_at script s i none) refl

-- an entry of the session adds no call
adds_none : (script : Script) (s : ℕ) (e : Entry) (p : List Entry) → statements s script ≡ [] → is_of s e ≡ true → calls_in script s (e ∷ p) ≡ calls_in script s p
adds_none script s (Did t i r) p none is =
    let one : t ≡ s = eq_is t s is in
    rw (ap (λ x. made (statement script x i) r) one ∙ made_none script s i r none) (append-nil (calls_in script s p))
adds_none script s (Start t i) p none is = refl
adds_none script s (View t k) p none is = refl
adds_none script s (Wait t e g) p none is = refl
adds_none script s (Commit t c) p none is = refl
adds_none script s (Undone t u) p none is = refl
adds_none script s (Purged c) p none is = refl
adds_none script s (Audited a) p none is = refl
adds_none script s (Restart k) p none is = refl

quiet_own : (script : Script) (s : ℕ) (past : List Entry) → statements s script ≡ [] → own script s past ≡ []
unfolding next_part
quiet_own script s [] none = refl
quiet_own script s (e ∷ past) none = by_tests (ends script s (part script s past) e) (is_of s e) refl (quiet_own script s past none)
  where
    by_tests : (a b : Bool) → is_of s e ≡ b → own script s past ≡ [] → calls_in script s (if a then [] else (if b then e ∷ part script s past else part script s past)) ≡ []
    by_tests true b h before = refl
    by_tests false true h before = adds_none script s e (part script s past) none h ∙ before
    by_tests false false h before = before

-- ---- one owner

-- no two sessions have own changes of one document
pub one_owner : (o : Opening) (script : Script) (past : List Entry) → IsNumbered script → IsLegal o script past → (d s t : ℕ)
    → touches d (own script s past) ≡ true → touches d (own script t past) ≡ true → s ≡ t
one_owner o script past numbered legal d s t hs ht =
    alone o script past legal d s t (inside_of s hs (is_in s sessions) refl) (inside_of t ht (is_in t sessions) refl) (own_held script s d past hs) (own_held script t d past ht)
  where
    inside_of : (u : ℕ) → touches d (own script u past) ≡ true → (b : Bool) → is_in u sessions ≡ b → b ≡ true
    inside_of u h true e = refl
    inside_of u h false e = absurd (true≢false (sym h ∙ ap (touches d) (quiet_own script u past (numbered u e))))
