-- The most pages that may be used or reserved, as a journal has it. A journal is read backwards.
--     need_now      the pages that a session's unanswered change needs, 0 where none is due
--     index_now      the index pages that a LOB of a document may have
--     ceiling      the most pages, apart from what the asking session's statement needs
use Rattle.std.specs.Prelude.{ℕ, ◌+◌, ◌==◌, ◌||◌, Bool, false, List, [], ◌∷◌, length, Option, Some, None, is_some, nat_lt, unwrap_or, if◌then◌else◌}
use Rattle.binary_model.specs.Need.{index_pages}
use Rattle.journal_model.specs.Documents.{look, Call, call_doc, Kept, Docs}
use Rattle.journal_model.specs.Held.{Kind, HeldLob, need, pushed_pieces, greater, most_versions, versions_in, total}
use Rattle.journal_model.specs.Journal.{Script, Statement, call, Entry, Opening}
use Rattle.journal_model.specs.Part.{is_ok_reply, newest, under_way}
use Rattle.journal_model.specs.Locks.{sessions}
use Rattle.journal_model.specs.Replies.{reply_to}
use Rattle.journal_model.specs.History.{History, kind_of, last_in, history}
use Rattle.journal_model.specs.Versions.{held, in_all, one_if}

-- by what a kind gives, where the change is one that is made; else 0
abbrev pub of_call : (Kind → ℕ) → Call → Docs Kept → ℕ
of_call f c now = if is_ok_reply (reply_to c now) then f (kind_of c (look now (call_doc c))) else 0

abbrev pub of_statement : (Kind → ℕ) → Option Statement → Docs Kept → ℕ
of_statement f (Some (call c)) now = of_call f c now
of_statement f st now = 0

-- the same, where the change is one of the document
abbrev pub of_doc : ℕ → (Kind → ℕ) → Option Statement → Docs Kept → ℕ
of_doc d f (Some (call c)) now = if call_doc c == d then of_call f c now else 0
of_doc d f st now = 0

abbrev pub is_asker : Option ℕ → ℕ → Bool
is_asker None t = false
is_asker (Some s) t = t == s

abbrev pub has_changes : History → Bool
has_changes h = nat_lt 0 (length h.changes)

module _ (o : Opening) (script : Script) where
  abbrev pub need_now : List Entry → ℕ → ℕ
  need_now past t = of_statement need (under_way script t past) (newest o script t past)

  abbrev pub pushed_now : ℕ → List Entry → ℕ → ℕ
  pushed_now d past t = of_doc d pushed_pieces (under_way script t past) (newest o script t past)

  abbrev pub most_pushed : ℕ → List ℕ → List Entry → ℕ
  most_pushed d [] past = 0
  most_pushed d (t ∷ ts) past = greater (pushed_now d past t) (most_pushed d ts past)

  -- the versions of one LOB and those that an unanswered change adds, where there is a LOB
  abbrev pub entries_now : ℕ → List Entry → List HeldLob → ℕ
  entries_now d past [] = 0
  entries_now d past (l ∷ ls) = most_versions (l ∷ ls) + most_pushed d sessions past

  -- the most of them so far
  abbrev pub most_entries : ℕ → List Entry → ℕ
  most_entries d [] = entries_now d [] (held o script [] d)
  most_entries d (e ∷ past) =
      greater (entries_now d (e ∷ past) (held o script (e ∷ past) d)) (most_entries d past)

  abbrev pub index_now : ℕ → List Entry → ℕ
  index_now d past = greater (unwrap_or (look o.index d) 0) (index_pages (most_entries d past))

  abbrev pub needs : Option ℕ → List ℕ → List Entry → ℕ
  needs asker [] past = 0
  needs asker (t ∷ ts) past =
      (if is_asker asker t then 0 else need_now past t) + needs asker ts past

  -- a document is counted where it stands, or where a change of it is kept
  abbrev pub counted : List Entry → ℕ → ℕ
  counted past d =
      one_if (is_some (last_in (history o script past d)) || has_changes (history o script past d))

  abbrev pub lob_pages : ℕ → List Entry → ℕ
  lob_pages d past = total (λ l. 1 + versions_in l + index_now d past) (held o script past d)

  abbrev pub ceiling : Option ℕ → List Entry → ℕ
  ceiling asker past =
      1 + in_all o script (counted past) past
      + in_all o script (λ d. length (history o script past d).changes) past
      + in_all o script (λ d. lob_pages d past) past + needs asker sessions past
