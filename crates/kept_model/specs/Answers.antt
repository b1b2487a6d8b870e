-- The events that answer a statement.
--     change_answered      a change in a transaction: its last page change is made
--     IsRefusedBy      a change that isn't made
--     answer_event      an answer that leaves the store; outside a transaction it frees the
--         session's locks
use Rattle.std.specs.Prelude.{◌≡◌, ℕ, ◌-◌, ◌≤◌, ◌<◌, true, List, ◌∷◌, Option, Some, None}
use Rattle.journal_model.specs.Documents.{Call, call_doc, look}
use Rattle.journal_model.specs.Journal.{Script, Level, rr, Reply, missing, exists, same, deep, large, no_room, Entry, Start, Did, Opening}
use Rattle.journal_model.specs.Part.{is_ok_reply, newest}
use Rattle.journal_model.specs.Replies.{reply_to}
use Rattle.journal_model.specs.Held.{need}
use Rattle.journal_model.specs.History.{kind_of}
use Rattle.journal_model.specs.Ceiling.{ceiling}
use Rattle.kept_model.specs.Engine.{ReadView, Task, idle, Session, Engine, with_session, released}
use Rattle.kept_model.specs.Quiet.{quiet_event}

abbrev pub answered_session : Session → Session
answered_session x = record x { task = idle; reserved = 0 }

abbrev pub change_answered : ℕ → ℕ → Reply → Engine → Engine
change_answered s i r e = record e {
  sessions = with_session s (answered_session (e.sessions s))
      e.sessions;
  journal = Did s i r ∷ e.journal;
}

-- outside a transaction a commit is due behind the answer
abbrev pub due_of : ℕ → Option Level → Option ℕ
due_of s None = Some s
due_of s (Some l) = None

-- ---- nothing is changed

-- as there is nothing to change, or it may not be, or too few pages are free
abbrev pub IsRefusedBy : Opening → Script → ℕ → Call → Reply → List Entry → Type 0
IsRefusedBy o script s c missing past = missing ≡ reply_to c (newest o script s past)
IsRefusedBy o script s c exists past = exists ≡ reply_to c (newest o script s past)
IsRefusedBy o script s c same past = same ≡ reply_to c (newest o script s past)
IsRefusedBy o script s c deep past = deep ≡ reply_to c (newest o script s past)
IsRefusedBy o script s c large past = large ≡ reply_to c (newest o script s past)
IsRefusedBy o script s c (no_room needed free) past =
    (is_ok_reply (reply_to c (newest o script s past)) ≡ true)
    × (needed ≡ need (kind_of c (look (newest o script s past) (call_doc c))))
    × (free < needed) × (o.pages - ceiling o script (Some s) past ≤ free)
IsRefusedBy o script s c r past = ⊥

-- a view of rr lasts
abbrev pub view_after : Option Level → Option ReadView → Option ReadView
view_after (Some rr) v = v
view_after l v = None

abbrev pub locks_after : Option Level → ℕ → (ℕ → Option ℕ) → ℕ → Option ℕ
locks_after None s locks = released s locks
locks_after (Some l) s locks = locks

abbrev pub answered_at : Option Level → Task → Session → Session
answered_at l k x = record x { task = k; view = view_after l x.view; reserved = 0 }

abbrev pub answer_at : Option Level → ℕ → ℕ → Reply → Task → Engine → Engine
answer_at l s i r k e = quiet_event s (answered_at l k (e.sessions s)) (locks_after l s e.locks)
    (Did s i r ∷ e.journal) e

abbrev pub answer_event : ℕ → ℕ → Reply → Task → Engine → Engine
answer_event s i r k e = answer_at (e.sessions s).level s i r k e

-- ---- a statement that is started and answered at once

abbrev pub at_once : ℕ → ℕ → Reply → Session → (ℕ → Option ℕ) → Engine → Engine
at_once s i r x locks e = quiet_event s x locks (Did s i r ∷ Start s i ∷ e.journal) e

-- outside a transaction, with or without one before
abbrev pub outside_session : Session → Session
outside_session x = record x { task = idle; level = None; view = None; reserved = 0 }

abbrev pub opened_session : Level → Session → Session
opened_session l x = record x { task = idle; level = Some l; view = None; reserved = 0 }
