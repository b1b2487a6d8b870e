-- The versions that are held, and an audit of them. A journal is read backwards.
--     held      the LOBs of a document that are held: what the changes that are made, undone and
--         purged leave of those at the opening
--     lobs_of      the same by the document's history alone
--     numbers      the documents that the opening or a change names
--     documents_now, lobs_now, pieces_now, versions_now      what an audit counts
use Rattle.std.specs.Prelude.{ℕ, ◌==◌, Bool, false, not, List, [], ◌∷◌, map, length, Option, Some, None, is_some, option_to_list, if◌then◌else◌}
use Rattle.journal_model.specs.Documents.{Call, call_doc}
use Rattle.journal_model.specs.Held.{HeldLob, add, add_all, take_all_back, drop_all_old, total, versions_in, pieces_in}
use Rattle.journal_model.specs.Journal.{Script, statement, Entry, Start, View, Wait, Did, Commit, Undone, Purged, Audited, Restart, Opening}
use Rattle.journal_model.specs.Part.{made}
use Rattle.journal_model.specs.History.{Owner, commit, History, kinds, made_by, is_sessions, is_committed, kind_of, newest_in, last_in, lobs_at, history}

-- made by the commit
abbrev pub is_commits : ℕ → Owner → Bool
is_commits n (commit c) = c == n
is_commits n w = false

-- of the history before, and of the LOBs so far
abbrev pub with_lobs : ℕ → ℕ → Option Call → History → List HeldLob → List HeldLob
with_lobs d s None h lobs = lobs
with_lobs d s (Some c) h lobs =
    if call_doc c == d then add (kind_of c (newest_in s h)) lobs else lobs

-- by a history alone: what its changes add to the LOB below them
abbrev pub lobs_of : History → List HeldLob
lobs_of h = add_all (kinds h.changes) (option_to_list h.lob)

abbrev pub with_number : ℕ → List ℕ → List ℕ
with_number d [] = d ∷ []
with_number d (n ∷ ns) = if d == n then n ∷ ns else n ∷ with_number d ns

abbrev pub all_numbers : List ℕ → List ℕ → List ℕ
all_numbers [] ns = ns
all_numbers (d ∷ ds) ns = with_number d (all_numbers ds ns)

abbrev pub with_calls : Option Call → List ℕ → List ℕ
with_calls None ns = ns
with_calls (Some c) ns = with_number (call_doc c) ns

abbrev pub first_numbers : Opening → List ℕ
first_numbers o =
    all_numbers (map (λ d. d.0) o.documents)
    (all_numbers (map (λ c. c.1) o.changes) (all_numbers (map (λ d. d.0) o.held) []))

abbrev pub one_if : Bool → ℕ
one_if b = if b then 1 else 0

module _ (o : Opening) (script : Script) where
  abbrev pub held : List Entry → ℕ → List HeldLob
  held [] d = lobs_at o d
  held (Did s i r ∷ past) d =
      with_lobs d s (made (statement script s i) r) (history o script past d) (held past d)
  held (Undone s u ∷ past) d =
      take_all_back (kinds (made_by (is_sessions s) (history o script past d))) (held past d)
  held (Restart k ∷ past) d =
      take_all_back (kinds (made_by (λ w. not (is_committed w)) (history o script past d)))
      (held past d)
  held (Purged n ∷ past) d =
      drop_all_old (kinds (made_by (is_commits n) (history o script past d))) (held past d)
  held (Commit s n ∷ past) d = held past d
  held (Start s i ∷ past) d = held past d
  held (View s k ∷ past) d = held past d
  held (Wait s e h ∷ past) d = held past d
  held (Audited a ∷ past) d = held past d

  abbrev pub numbers : List Entry → List ℕ
  numbers [] = first_numbers o
  numbers (Did s i r ∷ past) = with_calls (made (statement script s i) r) (numbers past)
  numbers (e ∷ past) = numbers past

  -- over all documents
  abbrev pub in_all : (ℕ → ℕ) → List Entry → ℕ
  in_all f past = total f (numbers past)

  -- behind all commits and all own calls
  abbrev pub documents_now : List Entry → ℕ
  documents_now past = in_all (λ d. one_if (is_some (last_in (history o script past d)))) past

  abbrev pub lobs_now : List Entry → ℕ
  lobs_now past = in_all (λ d. length (held past d)) past

  abbrev pub pieces_now : List Entry → ℕ
  pieces_now past = in_all (λ d. total pieces_in (held past d)) past

  abbrev pub versions_now : List Entry → ℕ
  versions_now past = in_all (λ d. total versions_in (held past d)) past
