-- A change that was made: what it was answered, and what it fits.
use Rattle.std.proofs.Common.{◌≡◌, ℕ, true, false, true≢false, List, [], ◌∷◌, Option, Some, None, is_some, IsSome, refl, sym, ap, ◌∙◌}
use Rattle.binary_model.specs.Change as bytes
use Rattle.binary_model.specs.Change.{Run}
use Rattle.binary_model.specs.Need as pages
use Rattle.binary_model.specs.Need.{PartKind, part_kind}
use Rattle.journal_model.specs.Documents.{Docs, Call, Insert, Change, Delete, call_doc, look, Kept, change_of}
use Rattle.journal_model.specs.Held.{HeldLob}
use Rattle.journal_model.specs.Journal.{Script, Reply, deadlock, missing, exists, same, deep, large, no_room, full, part as parted, done, inside, doc, sized, absent, restarted, memory, Entry, Opening}
use Rattle.journal_model.specs.Part.{is_ok_reply, newest}
use Rattle.journal_model.specs.Replies.{reply_to, insert_reply, edit_reply, delete_reply}
use Rattle.journal_model.specs.Legal.{CallAnswer}
use Rattle.journal_model.specs.History.{Made, kind_of, kind_of_change, kind_of_runs, left_by, is_newest_for, seen_in, lob_behind}
use Rattle.history_model.specs.Sound.{OfOwners, IsFitting, lob_behind_all, AreFitting}

-- ---- what a made change is answered

-- a change that was made has the answer of the reply table
pub table_of : (o : Opening) (script : Script) (s : ℕ) (c : Call) (r : Reply) (past : List Entry) → is_ok_reply r ≡ true → CallAnswer o script s c r past → r ≡ reply_to c (newest o script s past)
table_of o script s c missing past h a = absurd (true≢false (sym h))
table_of o script s c exists past h a = absurd (true≢false (sym h))
table_of o script s c same past h a = absurd (true≢false (sym h))
table_of o script s c deep past h a = absurd (true≢false (sym h))
table_of o script s c large past h a = absurd (true≢false (sym h))
table_of o script s c (no_room n m) past h a = absurd (true≢false (sym h))
table_of o script s c full past h a = a.1.1
table_of o script s c (parted n) past h a = a.1.1
table_of o script s c done past h a = a.1.1
table_of o script s c inside past h a = absurd (true≢false (sym h))
table_of o script s c (doc w) past h a = absurd (true≢false (sym h))
table_of o script s c (sized n m) past h a = absurd (true≢false (sym h))
table_of o script s c absent past h a = absurd (true≢false (sym h))
table_of o script s c memory past h a = absurd (true≢false (sym h))
table_of o script s c restarted past h a = absurd (true≢false (sym h))
table_of o script s c (deadlock l) past h a = absurd (true≢false (sym h))

-- an insert is made where nothing stands, any other change where a document does
abbrev pub Stands : Call → Option Kept → Type 0
Stands (Insert d t) x = x ≡ None
Stands (Change d e) x = IsSome x
Stands (Delete d) x = IsSome x

-- an insert was made where nothing stood, any other change where a document did
pub stands : (c : Call) (now : Docs Kept) → is_ok_reply (reply_to c now) ≡ true → Stands c (look now (call_doc c))
stands (Insert d t) now h = go (look now d) h
  where
    go : (x : Option Kept) → is_ok_reply (insert_reply t x) ≡ true → x ≡ None
    go None g = refl
    go (Some k) g = absurd (true≢false (sym g))
stands (Change d e) now h = go (look now d) h
  where
    go : (x : Option Kept) → is_ok_reply (edit_reply e x) ≡ true → IsSome x
    go None g = absurd (true≢false (sym g))
    go (Some k) g = refl
stands (Delete d) now h = go (look now d) h
  where
    go : (x : Option Kept) → is_ok_reply (delete_reply x) ≡ true → IsSome x
    go None g = absurd (true≢false (sym g))
    go (Some k) g = refl

none_is : (l : Option HeldLob) → false ≡ is_some l → l ≡ None
none_is None h = refl
none_is (Some x) h = absurd (true≢false (sym h))

run_fits : (p : PartKind) (rs : List Run) (l : Option HeldLob) → IsSome l → IsFitting (kind_of_runs p rs) l
run_fits pages.patched rs l h = h
run_fits pages.versioned rs l h = h

change_fits : (ch : bytes.Change) (l : Option HeldLob) → IsSome l → IsFitting (kind_of_change ch) l
change_fits bytes.Same l h = h
change_fits (bytes.Parts rs) l h = run_fits (part_kind rs) rs l h
change_fits (bytes.Full encoding) l h = h

-- so its kind fits the LOB below it
pub kind_fits : (c : Call) (x : Option Kept) (l : Option HeldLob) → Stands c x → is_some x ≡ is_some l → IsFitting (kind_of c x) l
kind_fits (Insert d t) x l h g = none_is l (sym (ap is_some h) ∙ g)
kind_fits (Change d e) None l h g = absurd (true≢false (sym h))
kind_fits (Change d e) (Some k) l h g = change_fits (change_of e k) l (sym g)
kind_fits (Delete d) x l h g = sym g ∙ h

run_left : (p : PartKind) (rs : List Run) (l : Option HeldLob) → IsSome l → true ≡ is_some (lob_behind (kind_of_runs p rs) l)
run_left pages.patched rs l h = sym h
run_left pages.versioned rs None h = absurd (true≢false (sym h))
run_left pages.versioned rs (Some x) h = refl

change_left : (ch : bytes.Change) (l : Option HeldLob) → IsSome l → true ≡ is_some (lob_behind (kind_of_change ch) l)
change_left bytes.Same l h = sym h
change_left (bytes.Parts rs) l h = run_left (part_kind rs) rs l h
change_left (bytes.Full encoding) l h = refl

-- and it leaves a document exactly where it leaves a LOB
pub left_fits : (c : Call) (x : Option Kept) (l : Option HeldLob) → Stands c x → is_some x ≡ is_some l → is_some (left_by c x) ≡ is_some (lob_behind (kind_of c x) l)
left_fits (Insert d t) x l h g = refl
left_fits (Change d e) None l h g = absurd (true≢false (sym h))
left_fits (Change d e) (Some k) l h g = change_left (change_of e k) l (sym g)
left_fits (Delete d) x l h g = refl

-- ---- what stands on top

-- what the newest change left
unfoldable pub top_left : List Made → Option Kept → Option Kept
top_left [] base = base
top_left (m ∷ ms) base = m.left

-- a session that sees all changes sees that
pub newest_top : (t : ℕ) (ms : List Made) (base : Option Kept) → OfOwners (λ w. is_newest_for t w ≡ true) ms → seen_in (is_newest_for t) ms base ≡ top_left ms base
unfolding top_left OfOwners
newest_top t [] base h = refl
newest_top t (m ∷ ms) base h = rw h.0 refl

-- it is there exactly where a LOB is
pub fit_top : (l : Option HeldLob) (ms : List Made) (base : Option Kept) → is_some base ≡ is_some l → AreFitting l ms → is_some (top_left ms base) ≡ is_some (lob_behind_all ms l)
unfolding top_left AreFitting
fit_top l [] base h f = h
fit_top l (m ∷ ms) base h f = f.1
