-- What a session outside a transaction may be answered, where no session holds the document.
use Rattle.std.proofs.Common.{◌≡◌, ◌≢◌, ℕ, Bool, true, false, true≢false, List, [], ◌∷◌, Option, Some, None, refl, sym, ap, ◌∙◌, arith, nat_eq, if◌then◌else◌}
use Rattle.tree_model.specs.Tree.{Tree}
use Rattle.tree_model.specs.Edit.{edited}
use Rattle.binary_model.specs.Canonical.{canonical}
use Rattle.binary_model.specs.Change as bytes
use Rattle.binary_model.specs.Change.{differing}
use Rattle.journal_model.specs.Documents.{Docs, look, Call, Insert, Change, Delete, call_doc, Kept, change_of}
use Rattle.journal_model.specs.Journal.{Script, Statement, statement, Reply, deadlock, missing, exists, same, deep, large, no_room, full, part as parted, done, inside, doc, sized, absent, restarted, memory, Entry, Start, Did, Opening}
use Rattle.journal_model.specs.Part.{newest}
use Rattle.journal_model.specs.Locks.{has_change, holds, first_holder, holder}
use Rattle.journal_model.specs.Replies.{reply_to, insert_reply, edit_reply, changed_reply, full_reply, delete_reply, is_too_deep, is_too_large}
use Rattle.journal_model.specs.Legal.{Answer, CallAnswer, MayAnswer, is_restarting}

-- where no session of the list holds d, there is no holder
pub no_holder : (script : Script) (hs : List ℕ) (d : ℕ) (past : List Entry) → ((h : ℕ) → holds script h d past ≡ false) → first_holder script hs d past ≡ None
no_holder script [] d past free = refl
no_holder script (h ∷ hs) d past free = rw (free h) (no_holder script hs d past free)

-- another session
pub apart : (s : ℕ) → s ≢ 1 → nat_eq 1 s ≡ false
apart s h = grind (arith, h)

-- a session whose entries are a Start alone, or none, has changed nothing
pub unchanged : (script : Script) (test : Reply → Bool) (d i : ℕ) (b : Bool) → has_change script test d (if b then Start 1 i ∷ [] else []) ≡ false
unchanged script test d i true = refl
unchanged script test d i false = refl

-- ---- the answers of the reply table

-- neither a deadlock, nor want of memory or pages, nor a restart's
abbrev pub is_plain : Reply → Bool
is_plain (deadlock l) = false
is_plain memory = false
is_plain (no_room need m) = false
is_plain restarted = false
is_plain r = true

plain_if : (b : Bool) (r q : Reply) → is_plain r ≡ true → is_plain q ≡ true → is_plain (if b then r else q) ≡ true
plain_if true r q h k = h
plain_if false r q h k = k

full_is_plain : (bytes : List ℕ) → is_plain (full_reply bytes) ≡ true
full_is_plain bytes = plain_if (is_too_large bytes) large full refl refl

-- an answer of the table is plain
pub reply_is_plain : (c : Call) (now : Docs Kept) → is_plain (reply_to c now) ≡ true
reply_is_plain (Insert d t) now = go (look now d)
  where
    go : (found : Option Kept) → is_plain (insert_reply t found) ≡ true
    go (Some old) = refl
    go None = plain_if (is_too_deep t) deep (full_reply (canonical t)) refl (full_is_plain (canonical t))
reply_is_plain (Change d e) now = go (look now d)
  where
    by_change : (new : Tree) (change : bytes.Change) → is_plain (changed_reply new change) ≡ true
    by_change new bytes.Same = refl
    by_change new (bytes.Parts rs) = plain_if (is_too_deep new) deep (parted (differing rs)) refl refl
    by_change new (bytes.Full encoding) = plain_if (is_too_deep new) deep (full_reply encoding) refl (full_is_plain encoding)

    go : (found : Option Kept) → is_plain (edit_reply e found) ≡ true
    go None = refl
    go (Some old) = by_change (edited e old.0) (change_of e old)
reply_is_plain (Delete d) now = go (look now d)
  where
    go : (found : Option Kept) → is_plain (delete_reply found) ≡ true
    go None = refl
    go (Some old) = refl

-- a restart's answer aside, a statement may be answered by what its kind allows
pub may_be : (o : Opening) (script : Script) (s i : ℕ) (st : Statement) (r : Reply) (past : List Entry) → r ≢ restarted → statement script s i ≡ Some st
    → Answer o script s st r past → MayAnswer o script s i r past
may_be o script s i st missing past other is h = rw is h
may_be o script s i st exists past other is h = rw is h
may_be o script s i st same past other is h = rw is h
may_be o script s i st deep past other is h = rw is h
may_be o script s i st large past other is h = rw is h
may_be o script s i st (no_room need m) past other is h = rw is h
may_be o script s i st full past other is h = rw is h
may_be o script s i st (parted m) past other is h = rw is h
may_be o script s i st done past other is h = rw is h
may_be o script s i st inside past other is h = rw is h
may_be o script s i st (doc t) past other is h = rw is h
may_be o script s i st (sized m k) past other is h = rw is h
may_be o script s i st absent past other is h = rw is h
may_be o script s i st (deadlock l) past other is h = rw is h
may_be o script s i st memory past other is h = rw is h
may_be o script s i st restarted past other is h = absurd (other refl)

-- what stands in the table may be answered where no session holds the document
pub call_answer : (o : Opening) (script : Script) (s : ℕ) (c : Call) (r : Reply) (past : List Entry) → is_plain r ≡ true
    → holder script (call_doc c) past ≡ None → r ≡ reply_to c (newest o script s past) → CallAnswer o script s c r past
call_answer o script s c missing past plain free e = (rw free refl, (rw free refl, e))
call_answer o script s c exists past plain free e = (rw free refl, (rw free refl, e))
call_answer o script s c same past plain free e = (rw free refl, (rw free refl, e))
call_answer o script s c deep past plain free e = (rw free refl, (rw free refl, e))
call_answer o script s c large past plain free e = (rw free refl, (rw free refl, e))
call_answer o script s c (no_room need m) past plain free e = absurd (true≢false (sym plain))
call_answer o script s c full past plain free e = (rw free refl, (rw free refl, e))
call_answer o script s c (parted m) past plain free e = (rw free refl, (rw free refl, e))
call_answer o script s c done past plain free e = (rw free refl, (rw free refl, e))
call_answer o script s c inside past plain free e = (rw free refl, (rw free refl, e))
call_answer o script s c (doc t) past plain free e = (rw free refl, (rw free refl, e))
call_answer o script s c (sized m k) past plain free e = (rw free refl, (rw free refl, e))
call_answer o script s c absent past plain free e = (rw free refl, (rw free refl, e))
call_answer o script s c (deadlock l) past plain free e = absurd (true≢false (sym plain))
call_answer o script s c memory past plain free e = absurd (true≢false (sym plain))
call_answer o script s c restarted past plain free e = absurd (true≢false (sym plain))

-- a plain answer is no restart's
pub no_restart : (r : Reply) → is_plain r ≡ true → r ≢ restarted
no_restart r plain e = true≢false (sym plain ∙ ap is_plain e)

-- no restart is under way behind an answer that isn't a restart's
pub not_restarting : (o : Opening) (script : Script) (r : Reply) (i : ℕ) (past : List Entry) → r ≢ restarted → is_restarting o script (Did 1 i r ∷ past) ≡ false
not_restarting o script missing i past other = refl
not_restarting o script exists i past other = refl
not_restarting o script same i past other = refl
not_restarting o script deep i past other = refl
not_restarting o script large i past other = refl
not_restarting o script (no_room need m) i past other = refl
not_restarting o script full i past other = refl
not_restarting o script (parted m) i past other = refl
not_restarting o script done i past other = refl
not_restarting o script inside i past other = refl
not_restarting o script (doc t) i past other = refl
not_restarting o script (sized m k) i past other = refl
not_restarting o script absent i past other = refl
not_restarting o script (deadlock l) i past other = refl
not_restarting o script memory i past other = refl
not_restarting o script restarted i past other = absurd (other refl)
