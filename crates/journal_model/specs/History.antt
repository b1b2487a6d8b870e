-- The changes of one document that aren't purged, as a journal makes them. A journal is read
-- backwards, and so is a history.
--     Made      a change: whose it is, its kind, and the document that it left
--     History      the changes, the newest first, and what stands below them
--     seen_by, at_commit, newest_in      the document that a reader sees, behind the commits up to
--         one, and for a session
--     shown_in      what a read shows
--     history      of a document in a journal
-- Of a change that was made before the opening the kind alone is known: what it left is put as what
-- stands at the opening.
use Rattle.std.specs.Prelude.{ℕ, ◌+◌, ◌==◌, Bool, true, false, not, List, [], ◌∷◌, map, length, Option, Some, None, nat_le, unwrap_or, option_map, option_and_then, if◌then◌else◌}
use Rattle.std.specs.List.{filter, list_any}
use Rattle.tree_model.specs.Edit.{Edit}
use Rattle.binary_model.specs.Canonical.{canonical}
use Rattle.binary_model.specs.Change as bytes
use Rattle.binary_model.specs.Change.{Run}
use Rattle.binary_model.specs.Need.{data_pages, PartKind, part_kind, touched}
use Rattle.binary_model.specs.Need as pages
use Rattle.journal_model.specs.Documents.{look, Call, Insert, Change, Delete, call_doc, Kept, fresh, changed, change_of}
use Rattle.journal_model.specs.Held.{Kind, inserted, rebuilt, versioned, patched, removed, HeldLob, new_lob, at_touched, greater}
use Rattle.journal_model.specs.Journal.{Script, statement, Entry, Start, View, Wait, Did, Commit, Undone, Purged, Audited, Restart, Opening}
use Rattle.journal_model.specs.Part.{made}

-- ---- a call on a document that stands, or doesn't

-- pieces of so many bytes
abbrev pub pieces_of : List ℕ → ℕ
pieces_of bytes = 1 + data_pages (length bytes)

abbrev pub kind_of_runs : PartKind → List Run → Kind
kind_of_runs pages.patched rs = patched
kind_of_runs pages.versioned rs = versioned (touched rs)

-- a change that is the same is never made
abbrev pub kind_of_change : bytes.Change → Kind
kind_of_change bytes.Same = patched
kind_of_change (bytes.Parts rs) = kind_of_runs (part_kind rs) rs
kind_of_change (bytes.Full encoding) = rebuilt (pieces_of encoding)

abbrev pub edit_kind : Edit → Option Kept → Kind
edit_kind e None = patched
edit_kind e (Some k) = kind_of_change (change_of e k)

abbrev pub kind_of : Call → Option Kept → Kind
kind_of (Insert d t) now = inserted (pieces_of (canonical t))
kind_of (Change d e) now = edit_kind e now
kind_of (Delete d) now = removed

abbrev pub left_by : Call → Option Kept → Option Kept
left_by (Insert d t) now = Some (fresh t)
left_by (Change d e) now = option_map (changed e) now
left_by (Delete d) now = None

-- ---- histories

-- a session that hasn't committed, or a commit's number
pub data Owner : Type 0 where
  session : ℕ → Owner
  commit : ℕ → Owner

pub record Made : Type 0 where
  pub owner : Owner
  pub kind : Kind
  pub left : Option Kept

-- what stands below all changes, and the LOB that holds it, with one version of each piece
pub record History : Type 0 where
  pub changes : List Made
  pub base : Option Kept
  pub lob : Option HeldLob

-- ---- whose a change is

abbrev pub is_sessions : ℕ → Owner → Bool
is_sessions s (session t) = t == s
is_sessions s (commit c) = false

abbrev pub is_committed : Owner → Bool
is_committed (session t) = false
is_committed (commit c) = true

-- among the commits up to n
abbrev pub is_among : ℕ → Owner → Bool
is_among n (session t) = false
is_among n (commit c) = nat_le c n

abbrev pub is_newest_for : ℕ → Owner → Bool
is_newest_for s (session t) = t == s
is_newest_for s (commit c) = true

-- ---- what is seen

-- what the first change left whose owner passes the test, else what stands below
abbrev pub seen_in : (Owner → Bool) → List Made → Option Kept → Option Kept
seen_in test [] base = base
seen_in test (m ∷ ms) base = if test m.owner then m.left else seen_in test ms base

abbrev pub seen_by : (Owner → Bool) → History → Option Kept
seen_by test h = seen_in test h.changes h.base

abbrev pub at_commit : ℕ → History → Option Kept
at_commit n h = seen_by (is_among n) h

abbrev pub newest_in : ℕ → History → Option Kept
newest_in s h = seen_by (is_newest_for s) h

-- all that commits and sessions have made
abbrev pub last_in : History → Option Kept
last_in h = seen_by (λ w. true) h

-- the session has changed the document
abbrev pub has_own : ℕ → History → Bool
has_own s h = list_any (λ m. is_sessions s m.owner) h.changes

-- a session's own change, else what stands at its view
abbrev pub shown_in : ℕ → Option ℕ → History → Option Kept
shown_in s view h = if has_own s h then newest_in s h else option_and_then (λ k. at_commit k h) view

abbrev pub kinds : List Made → List Kind
kinds ms = map (λ m. m.kind) ms

abbrev pub made_by : (Owner → Bool) → History → List Made
made_by test h = filter (λ m. test m.owner) h.changes

-- ---- what an entry makes of a history

abbrev pub one_made : ℕ → Call → Option Kept → Made
one_made s c now = record { owner = session s; kind = kind_of c now; left = left_by c now }

abbrev pub pushed : ℕ → Call → History → History
pushed s c h =
    record { changes = one_made s c (newest_in s h) ∷ h.changes; base = h.base; lob = h.lob }

abbrev pub renamed : ℕ → ℕ → Owner → Owner
renamed s n (session t) = if t == s then commit n else session t
renamed s n (commit c) = commit c

abbrev pub owned_anew : ℕ → ℕ → Made → Made
owned_anew s n m = record { owner = renamed s n m.owner; kind = m.kind; left = m.left }

abbrev pub committed : ℕ → ℕ → History → History
committed s n h = record { changes = map (owned_anew s n) h.changes; base = h.base; lob = h.lob }

-- without the changes whose owner passes the test
abbrev pub without : (Owner → Bool) → History → History
without test h =
    record { changes = filter (λ m. not (test m.owner)) h.changes; base = h.base; lob = h.lob }

-- the newest version of the touched pieces alone
abbrev pub renewed : List ℕ → HeldLob → HeldLob
renewed t l =
    record { version = l.version + 1; pieces = at_touched t (λ vs. (l.version + 1) ∷ []) l.pieces }

-- the LOB that holds the document behind a change, by the one before
abbrev pub lob_behind : Kind → Option HeldLob → Option HeldLob
lob_behind (inserted n) l = Some (new_lob n)
lob_behind (rebuilt n) l = Some (new_lob n)
lob_behind (versioned t) l = option_map (renewed t) l
lob_behind patched l = l
lob_behind removed l = None

-- the changes in front of the first that is among the commits up to n, and the LOB behind that one
abbrev pub above : ℕ → List Made → List Made
above n [] = []
above n (m ∷ ms) = if is_among n m.owner then [] else m ∷ above n ms

abbrev pub lob_at : ℕ → List Made → Option HeldLob → Option HeldLob
lob_at n [] l = l
lob_at n (m ∷ ms) l =
    if is_among n m.owner then lob_behind m.kind (lob_at n ms l) else lob_at n ms l

abbrev pub purged_to : ℕ → History → History
purged_to n h =
    record { changes = above n h.changes; base = at_commit n h; lob = lob_at n h.changes h.lob }

-- a call that was made, on this document or another
abbrev pub with_call : ℕ → ℕ → Option Call → History → History
with_call d s None h = h
with_call d s (Some c) h = if call_doc c == d then pushed s c h else h

-- ---- the opening

-- the document's changes
abbrev pub changes_of : ℕ → Option Kept → List (ℕ × ℕ × Kind) → List Made
changes_of d now [] = []
changes_of d now (c ∷ cs) =
    if c.1 == d then record { owner = commit c.0; kind = c.2; left = now } ∷ changes_of d now cs
    else changes_of d now cs

abbrev pub last_of : List ℕ → ℕ
last_of [] = 0
last_of (v ∷ []) = v
last_of (v ∷ w ∷ vs) = last_of (w ∷ vs)

abbrev pub greatest_of : List ℕ → ℕ
greatest_of [] = 0
greatest_of (n ∷ ns) = greater n (greatest_of ns)

-- a LOB with the oldest version of each piece
abbrev pub oldest_of : HeldLob → HeldLob
oldest_of l =
    record {
      version = greatest_of (map last_of l.pieces);
      pieces = map
          (λ vs. last_of vs ∷ []) l.pieces;
    }

abbrev pub oldest_lob : List HeldLob → Option HeldLob
oldest_lob [] = None
oldest_lob (l ∷ []) = Some (oldest_of l)
oldest_lob (l ∷ m ∷ ls) = oldest_lob (m ∷ ls)

-- nothing is held below an insert
abbrev pub lob_below : List Kind → List HeldLob → Option HeldLob
lob_below [] lobs = oldest_lob lobs
lob_below (inserted n ∷ []) lobs = None
lob_below (k ∷ ks) lobs = lob_below ks lobs

abbrev pub lobs_at : Opening → ℕ → List HeldLob
lobs_at o d = unwrap_or (look o.held d) []

abbrev pub first_history : Opening → ℕ → History
first_history o d =
    record {
      changes = changes_of d (look o.documents d) o.changes;
      base = look o.documents d;
      lob = lob_below (kinds (changes_of d (look o.documents d) o.changes)) (lobs_at o d);
    }

-- ---- of a document in a journal

module _ (o : Opening) (script : Script) where
  abbrev pub history : List Entry → ℕ → History
  history [] d = first_history o d
  history (Did s i r ∷ past) d = with_call d s (made (statement script s i) r) (history past d)
  history (Commit s n ∷ past) d = committed s n (history past d)
  history (Undone s u ∷ past) d = without (is_sessions s) (history past d)
  history (Restart k ∷ past) d = without (λ w. not (is_committed w)) (history past d)
  history (Purged n ∷ past) d = purged_to n (history past d)
  history (Start s i ∷ past) d = history past d
  history (View s k ∷ past) d = history past d
  history (Wait s d h ∷ past) e = history past e
  history (Audited a ∷ past) d = history past d
