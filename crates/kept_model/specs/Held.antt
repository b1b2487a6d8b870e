-- The LOBs and versions that a store has for a document, and those that the journal says.
--     lob_list      the LOBs that the document's row and its records own, the newest first
--     IsHeld      they are those of the changes that are left in the store; of a change that is
--         half done, half undone or half purged a part
use Rattle.std.specs.Prelude.{◌≡◌, ℕ, suc, ◌+◌, ◌-◌, ◌≤◌, ◌==◌, Bool, true, false, List, [], ◌∷◌, ◌++◌, map, length, take, Option, Some, None, option_to_list, if◌then◌else◌}
use Rattle.journal_model.specs.Journal.{Script, Entry, Opening}
use Rattle.journal_model.specs.Held.{Kind, inserted, rebuilt, versioned, patched, removed, HeldLob, is_in, add, add_all, at_last, thinned}
use Rattle.journal_model.specs.History.{Owner, is_sessions, Made, History, kinds, history}
use Rattle.journal_model.specs.Versions.{is_commits}
use Rattle.history_model.specs.Sound.{lob_behind_all}
use Rattle.store_data.specs.Store.{Version, Piece, Lob, Store}
use Rattle.store_data.specs.Store as store
use Rattle.store_model.specs.Lobs.{lob_of}
use Rattle.store_model.specs.History.{Change, changes, row_before}
use Rattle.store_model.specs.Owned.{owned_if, owned_by, AreDifferent}
use Rattle.kept_model.specs.Engine.{Left, adding, pushing, nothing, Task, idle, asking, fetching, making, reading, undoing, Session, Engine}
use Rattle.kept_model.specs.Names.{names_of, is_purging}
use Rattle.kept_model.specs.Stored.{Front, whole, begun, undone, front, IsAhead, AreUndone, ArePassed}

-- ---- the store's

abbrev pub numbers_of : Piece → List ℕ
numbers_of p = p.head.number ∷ map (λ v. v.number) p.older

abbrev pub held_lob : Lob → HeldLob
held_lob l = record { version = l.version; pieces = map numbers_of l.pieces }

abbrev pub held_lobs : List Lob → List ℕ → List HeldLob
held_lobs lobs [] = []
held_lobs lobs (page ∷ pages) = map held_lob (option_to_list (lob_of lobs page))
    ++ held_lobs lobs pages

abbrev pub change_lobs : List Change → List ℕ
change_lobs [] = []
change_lobs (c ∷ cs) = owned_by c.undo.body c.undo.before ++ change_lobs cs

abbrev pub lob_pages : Store → ℕ → List ℕ
lob_pages store d = owned_if (row_before store d).state (row_before store d).lob.page
    ++ change_lobs (changes store d)

abbrev pub lob_list : Store → ℕ → List HeldLob
lob_list store d = held_lobs store.lobs (lob_pages store d)

-- ---- a change that is half done or half undone, at these pieces alone

abbrev pub part_kind : List ℕ → Kind → Kind
part_kind done (inserted n) = inserted (length done)
part_kind done (rebuilt n) = rebuilt (length done)
part_kind done (versioned t) = versioned done
part_kind done patched = patched
part_kind done removed = removed

abbrev pub IsPart : List ℕ → Kind → Type 0
IsPart done (inserted n) = length done ≤ n
IsPart done (rebuilt n) = length done ≤ n
IsPart done (versioned t) = (k : ℕ) → is_in k done ≡ true → is_in k t ≡ true
IsPart done patched = Unit {0}
IsPart done removed = Unit {0}

-- what is left to do: pieces to add, and the numbers from 1 of those to push
abbrev pub pieces_left : Left → ℕ
pieces_left (adding more) = length more
pieces_left (pushing more) = 0
pieces_left nothing = 0

abbrev pub pushes_left : Left → List ℕ
pushes_left (adding more) = []
pushes_left (pushing more) = map (λ p. suc p.0) more
pushes_left nothing = []

-- with these pieces done, that is all
abbrev pub IsRest : Left → List ℕ → Kind → Type 0
IsRest rest done (inserted n) = length done + pieces_left rest ≡ n
IsRest rest done (rebuilt n) = length done + pieces_left rest ≡ n
IsRest rest done (versioned t) = (done ++ pushes_left rest ≡ t) × AreDifferent t
IsRest rest done patched = Unit {0}
IsRest rest done removed = Unit {0}

-- the newest change is the half done one, or half undone where it is the session's
abbrev pub front_kind : Front → List ℕ → Made → Kind
front_kind whole done m = m.kind
front_kind (begun s) done m = part_kind done m.kind
front_kind (undone s) done m = if is_sessions s m.owner then part_kind done m.kind else m.kind

abbrev pub front_kinds : Front → List ℕ → List Made → List Kind
front_kinds f done [] = []
front_kinds f done (m ∷ ms) = front_kind f done m ∷ kinds ms

abbrev pub IsDoneBy : Front → Left → List ℕ → Kind → Type 0
IsDoneBy whole rest done k = Unit {0}
IsDoneBy (begun s) rest done k = IsRest rest done k
IsDoneBy (undone s) rest done k = IsPart done k

abbrev pub IsDone : Front → Left → List ℕ → List Made → Type 0
IsDone f rest done [] = Unit {0}
IsDone f rest done (m ∷ ms) = IsDoneBy f rest done m.kind

-- ---- a change that is half purged: the LOB before loses its pieces from the last one on, or the
-- touched pieces their oldest version

abbrev pub cut : ℕ → HeldLob → HeldLob
cut n l = record { version = l.version; pieces = take (length l.pieces - n) l.pieces }

abbrev pub half_drop : List ℕ → Kind → List HeldLob → List HeldLob
half_drop dropped (inserted n) lobs = lobs
half_drop dropped (rebuilt n) lobs = at_last (cut (length dropped)) lobs
half_drop dropped (versioned t) lobs = at_last (thinned dropped) lobs
half_drop dropped patched lobs = lobs
half_drop dropped removed lobs = at_last (cut (length dropped)) lobs

-- the LOBs behind it, by those before it
abbrev pub half_lobs : List ℕ → List Made → List HeldLob → List HeldLob
half_lobs dropped [] lobs = lobs
half_lobs dropped (m ∷ ms) lobs = half_drop dropped m.kind (add m.kind lobs)

-- one change at most, of the commit whose purge is begun
abbrev pub IsHalf : Bool → ℕ → List Made → Type 0
IsHalf true n [] = Unit {0}
IsHalf true n (m ∷ []) = is_commits n m.owner ≡ true
IsHalf true n (m ∷ l ∷ ms) = ⊥
IsHalf false n ms = ms ≡ []

abbrev pub IsDropped : List ℕ → Kind → Type 0
IsDropped dropped (inserted n) = Unit {0}
IsDropped dropped (rebuilt n) = Unit {0}
IsDropped dropped (versioned t) = IsPart dropped (versioned t)
IsDropped dropped patched = Unit {0}
IsDropped dropped removed = Unit {0}

abbrev pub AreDropped : List ℕ → List Made → Type 0
AreDropped dropped [] = Unit {0}
AreDropped dropped (m ∷ ms) = IsDropped dropped m.kind

-- ---- the store's changes are the journal's

-- in the store pieces are numbered from 0, in the journal from 1
abbrev pub IsOfKind : Kind → store.Body → Type 0
IsOfKind (inserted n) (store.inserted page) = Unit {0}
IsOfKind (rebuilt n) (store.rebuilt page) = Unit {0}
IsOfKind (versioned t) (store.versioned pieces touched) = t ≡ map suc touched
IsOfKind patched (store.patched runs) = Unit {0}
IsOfKind removed store.removed = Unit {0}
IsOfKind k body = ⊥

-- each of the transaction of its owner, and of its kind
abbrev pub AreTheirs : (Owner → Option ℕ) → List Made → List Change → Type 0
AreTheirs names [] [] = Unit {0}
AreTheirs names [] (c ∷ cs) = ⊥
AreTheirs names (m ∷ ms) [] = ⊥
AreTheirs names (m ∷ ms) (c ∷ cs) = (names m.owner ≡ Some c.trx)
    × IsOfKind m.kind c.undo.body × AreTheirs names ms cs

-- ---- one document

-- what is left of the change of it that the session with its lock makes
abbrev pub rest_of : ℕ → Task → Left
rest_of d idle = nothing
rest_of d (asking e) = nothing
rest_of d (fetching e ps) = nothing
rest_of d (making e left r) = if e == d then left else nothing
rest_of d (reading e f) = nothing
rest_of d (undoing u) = nothing

abbrev pub rest_by : ℕ → Option ℕ → (ℕ → Session) → Left
rest_by d None sessions = nothing
rest_by d (Some s) sessions = rest_of d (sessions s).task

abbrev pub rest : Engine → ℕ → Left
rest e d = rest_by d (e.locks d) e.sessions

-- the journal's changes, without those that are undone or purged in the store alone, and with one
-- that is planned and not answered
pub record IsHeldBy (script : Script) (past : List Entry) (h : History) (f : Front) (rest : Left)
    (is_passing : Bool) (next : ℕ) (names : Owner → Option ℕ) (cs : List Change)
    (lobs : List HeldLob) : Type 0 where
  pub ahead : List Made
  pub gone : List Made
  pub left : List Made
  -- half purged
  pub half : List Made
  pub passed : List Made
  pub is : h.changes ≡ gone ++ (left ++ (half ++ passed))
  pub is_ahead : IsAhead script past h f ahead
  pub are_undone : AreUndone f gone
  pub is_half : IsHalf is_passing next half
  pub are_passed : ArePassed is_passing next passed
  pub theirs : AreTheirs names (ahead ++ (left ++ half)) cs
  -- the pieces that the newest change has made, and those that the half purged one has lost
  pub done : List ℕ
  pub dropped : List ℕ
  pub is_done : IsDone f rest done (ahead ++ left)
  pub are_dropped : AreDropped dropped half
  pub held : lobs ≡ add_all (front_kinds f done (ahead ++ left))
      (half_lobs dropped half (option_to_list (lob_behind_all passed h.lob)))

abbrev pub IsHeld : Opening → Script → Engine → ℕ → Type 0
IsHeld o script e d =
    IsHeldBy script e.journal (history o script e.journal d) (front e d) (rest e d)
    (is_purging e.store.committed) (suc e.store.purged) (names_of e)
    (changes e.store d) (lob_list e.store d)
