-- Views in force, reads under way, and changes that are half made.
--     IsViewed      a session's view is the journal's; of the transactions in rows it sees those
--         that are among its commits
--     IsRead      a read under way meets its invariant, and is to show the document that the
--         journal says
--     IsMaking      what a change has made and what is left of it are the document that it is to
--         leave
use Rattle.std.specs.Prelude.{◌≡◌, ℕ, zero, suc, ◌≤◌, true, false, List, [], ◌∷◌, ◌++◌, map, Option, Some, None, option_map, length}
use Rattle.journal_model.specs.Documents.{Call, call_doc}
use Rattle.journal_model.specs.Journal.{Script, call, Reply, Entry, Opening}
use Rattle.journal_model.specs.Part.{is_ok_reply, under_way, view_of, newest, shown}
use Rattle.journal_model.specs.Replies.{reply_to}
use Rattle.journal_model.specs.History.{History, one_made, newest_in}
use Rattle.journal_model.specs.History as journal
use Rattle.store_data.specs.Store.{RowState, absent, live, deleted, Row, Lob, Store}
use Rattle.store_data.specs.Pieces.{Part}
use Rattle.store_model.specs.Lobs.{joined, parts}
use Rattle.store_model.specs.History.{Past, row_before, stands, is_among, history}
use Rattle.read_model.specs.Flight.{Flight, IsFlight}
use Rattle.read_model.specs.OfStore.{document}
use Rattle.kept_model.specs.Engine.{ReadView, sees_by, Left, adding, pushing, nothing, making, reading, Session}
use Rattle.kept_model.specs.Names.{floor}
use Rattle.kept_model.specs.Rows.{bytes_of}

-- ---- views

abbrev pub AllPast : (ℕ → Type 0) → List Past → Type 0
AllPast P [] = Unit {0}
AllPast P (p ∷ ps) = P p.trx × AllPast P ps

pub record IsViewIn (o : Opening) (store : Store) (v : ReadView) : Type 0 where
  pub high : v.commits ≤ store.commits
  pub low : floor store ≤ v.commits
  pub first : o.commits ≤ v.commits
  pub limit : v.limit ≤ store.next_trx
  -- the id of an absent row
  pub zero : sees_by None v 0 ≡ true
  -- what has no commit is seen by its own session alone
  pub active : (x : ℕ) → stands x store.active ≡ true → sees_by None v x ≡ false
  pub rows : (d : ℕ) → AllPast (λ x. sees_by None v x ≡ is_among store v.commits x)
      (history store d)

pub record IsViewed (o : Opening) (script : Script) (past : List Entry) (store : Store) (s : ℕ)
    (x : Session) : Type 0 where
  pub commits : option_map (λ (v : ReadView). v.commits) x.view ≡ view_of script s past
  pub sees : (v : ReadView) → x.view ≡ Some v → IsViewIn o store v

-- ---- reads

pub record IsReadOf (o : Opening) (script : Script) (past : List Entry) (store : Store) (s : ℕ)
    (x : Session) (d : ℕ) (f : Flight) : Type 0 where
  pub view : ReadView
  pub is : x.view ≡ Some view
  pub parts : Option (List Part)
  pub shows : option_map joined parts ≡ bytes_of (shown o script s d past)
  pub flight : IsFlight (sees_by x.trx view) (document store d) parts f

abbrev pub IsRead : Opening → Script → List Entry → Store → ℕ → Session → Type 0
IsRead o script past store s x = (d : ℕ) (f : Flight) → x.task ≡ reading d f
    → IsReadOf o script past store s x d f

-- ---- changes

-- the bytes of parts, where some have new ones, by their numbers from 0
abbrev pub with_new : ℕ → List ℕ → List (List ℕ) → List (List ℕ)
with_new k new [] = []
with_new zero new (x ∷ xs) = new ∷ xs
with_new (suc k) new (x ∷ xs) = x ∷ with_new k new xs

abbrev pub all_new : List (ℕ × List ℕ) → List (List ℕ) → List (List ℕ)
all_new [] xs = xs
all_new (n ∷ ns) xs = all_new ns (with_new n.0 n.1 xs)

abbrev pub flat : List (List ℕ) → List ℕ
flat [] = []
flat (x ∷ xs) = x ++ flat xs

-- what a row will show once the rest is made
abbrev pub completed : Left → List Part → List ℕ
completed nothing ps = joined ps
completed (adding more) ps = joined ps ++ flat more
completed (pushing more) ps = flat (all_new more (map (λ p. p.bytes) ps))

-- the pieces that a row shows; none where it shows no document
abbrev pub shown_by : RowState → List Part → Option (List Part)
shown_by absent ps = None
shown_by live ps = Some ps
shown_by deleted ps = None

abbrev pub parts_shown : List Lob → Row → Option (List Part)
parts_shown lobs row = shown_by row.state (parts lobs row.lob)

abbrev pub newest_parts : Store → ℕ → Option (List Part)
newest_parts store d = parts_shown store.lobs (row_before store d)

abbrev pub will_show : Left → List Lob → Row → Option (List ℕ)
will_show left lobs row = option_map (completed left) (parts_shown lobs row)

pub record IsMakingOf (o : Opening) (script : Script) (past : List Entry) (store : Store) (s : ℕ)
    (d : ℕ) (left : Left) (r : Reply) : Type 0 where
  pub change : Call
  pub is : under_way script s past ≡ Some (call change)
  pub doc : call_doc change ≡ d
  pub reply : r ≡ reply_to change (newest o script s past)
  pub ok : is_ok_reply r ≡ true
  -- its reference has the length that will be
  pub measured : (bytes : List ℕ) → will_show left store.lobs (row_before store d) ≡ Some bytes
      → (row_before store d).lob.length ≡ length bytes
  pub ends : will_show left store.lobs (row_before store d)
      ≡ bytes_of (one_made s change (newest_in s (journal.history o script past d))).left

abbrev pub IsMaking : Opening → Script → List Entry → Store → ℕ → Session → Type 0
IsMaking o script past store s x = (d : ℕ) (left : Left) (r : Reply) → x.task ≡ making d left r
    → IsMakingOf o script past store s d left r
