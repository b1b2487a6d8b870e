-- How the rows of one document stand to the history that the journal makes of it.
--     Front      whether a session has a change of the document half done or half undone
--     IsStored      the journal's changes, without those that are undone or purged in the store
--         alone and with one that is planned and not answered, are the rows'
use Rattle.std.specs.Prelude.{◌≡◌, ℕ, suc, Bool, true, false, ◌==◌, List, [], ◌∷◌, ◌++◌, Option, Some, None, if◌then◌else◌}
use Rattle.journal_model.specs.Documents.{Call, Kept}
use Rattle.journal_model.specs.Journal.{Script, call, Entry, Opening}
use Rattle.journal_model.specs.Part.{under_way}
use Rattle.journal_model.specs.History.{Owner, Made, History, is_sessions, one_made, newest_in}
use Rattle.journal_model.specs.History as journal
use Rattle.journal_model.specs.Held.{greater}
use Rattle.journal_model.specs.Versions.{is_commits}
use Rattle.store_data.specs.Store.{Store}
use Rattle.store_model.specs.History.{Past}
use Rattle.store_model.specs.History as store
use Rattle.kept_model.specs.Engine.{Task, idle, asking, fetching, making, reading, undoing, Session, Engine}
use Rattle.kept_model.specs.Names.{names_of, is_purging, floor, is_old}
use Rattle.kept_model.specs.Rows.{AreNamed, AreKnown, AreKnownBehind, AreKnownOut, base_behind}

-- ---- who is at work on a document

pub data Front : Type 0 where
  whole : Front
  begun : ℕ → Front
  undone : ℕ → Front

abbrev pub front_of : ℕ → ℕ → Task → Front
front_of d s idle = whole
front_of d s (asking e) = whole
front_of d s (fetching e ps) = whole
front_of d s (making e left r) = if e == d then begun s else whole
front_of d s (reading e f) = whole
front_of d s (undoing u) = undone s

abbrev pub front_by : ℕ → Option ℕ → (ℕ → Session) → Front
front_by d None sessions = whole
front_by d (Some s) sessions = front_of d s (sessions s).task

-- by the session that has the lock
abbrev pub front : Engine → ℕ → Front
front e d = front_by d (e.locks d) e.sessions

-- ---- what is different in the store

abbrev pub AllOwned : (Owner → Bool) → List Made → Type 0
AllOwned test [] = Unit {0}
AllOwned test (m ∷ ms) = (test m.owner ≡ true) × AllOwned test ms

-- the session's change that is planned and not answered
abbrev pub IsMade : Script → List Entry → History → ℕ → List Made → Type 0
IsMade script past h s ms = (c : Call) × (under_way script s past ≡ Some (call c))
    × (ms ≡ one_made s c (newest_in s h) ∷ [])

abbrev pub IsAhead : Script → List Entry → History → Front → List Made → Type 0
IsAhead script past h whole ms = ms ≡ []
IsAhead script past h (begun s) ms = IsMade script past h s ms
IsAhead script past h (undone s) ms = ms ≡ []

abbrev pub AreUndone : Front → List Made → Type 0
AreUndone whole ms = ms ≡ []
AreUndone (begun s) ms = ms ≡ []
AreUndone (undone s) ms = AllOwned (is_sessions s) ms

-- those of the commit whose purge is begun
abbrev pub ArePassed : Bool → ℕ → List Made → Type 0
ArePassed true n ms = AllOwned (is_commits n) ms
ArePassed false n ms = ms ≡ []

-- the newest row of a change that is half done, or half undone, shows neither what stood before nor
-- what will stand
abbrev pub AreShown : Front → ℕ → Option Kept → List Made → List Past → Type 0
AreShown whole first base ms ps = AreKnown first base ms ps
AreShown (begun s) first base ms ps = AreKnownBehind first base ms ps
AreShown (undone s) first base ms ps = AreKnownOut s first base ms ps

-- ---- one document

-- what the commits up to `first` made is told apart no more; the purge of the commit `next` may be
-- begun
pub record IsStoredBy (first : ℕ) (script : Script) (past : List Entry) (h : History) (f : Front)
    (is_passing : Bool) (next : ℕ)
    (old : ℕ → Bool) (names : Owner → Option ℕ) (rows : List Past) : Type 0 where
  pub ahead : List Made
  pub gone : List Made
  pub left : List Made
  pub passed : List Made
  pub changes : h.changes ≡ gone ++ (left ++ passed)
  pub is_ahead : IsAhead script past h f ahead
  pub are_undone : AreUndone f gone
  pub are_passed : ArePassed is_passing next passed
  pub named : AreNamed names old (ahead ++ left) rows
  pub known : AreShown f first (base_behind passed h.base) (ahead ++ left) rows

-- the opening's contents are known at its commits and above; and readers see all that is purged
abbrev pub known_from : Opening → Store → ℕ
known_from o store = greater o.commits (floor store)

abbrev pub IsStored : Opening → Script → Engine → ℕ → Type 0
IsStored o script e d =
    IsStoredBy (known_from o e.store) script e.journal (journal.history o script e.journal d)
    (front e d)
    (is_purging e.store.committed) (suc e.store.purged) (is_old e.store) (names_of e)
    (store.history e.store d)
