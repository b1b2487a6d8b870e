-- The events of purge.
use Rattle.std.proofs.Common.{◌≡◌, ◌≢◌, ◌⊎◌, inl, inr, ℕ, zero, suc, ◌≤◌, Bool, true, false, not, ◌&&◌, ◌||◌, ◌==◌, if◌then◌else◌, List, [], ◌∷◌, ◌++◌, Option, None, is_some, refl, sym, ap, ap₂, ◌∙◌}
use Rattle.std.proofs.lemmas.Bool.{le-ltb, cases_eq}
use Rattle.std.proofs.lemmas.List.{append_assoc, append-nil}
use Rattle.page_model.specs.Pages.{Address}
use Rattle.store_data.specs.Logs.{passed}
use Rattle.store_data.specs.Pieces.{piece_at, dropped}
use Rattle.store_data.specs.Store.{Row, deleted, Run, Piece, Lob, Body, inserted, rebuilt, versioned, patched, removed, Record, Log, Store}
use Rattle.store_model.specs.Lobs.{part_list, parts}
use Rattle.store_model.specs.Runs.{lobs_laid, old_runs}
use Rattle.store_model.specs.History.{Change, shown, content, history, history_on, history_behind, seen, changes, changes_among, active_changes, committed_changes, row_of, row_before, absent_row, stands, stands_above, is_among, under}
use Rattle.store_model.specs.Steps.{last_in, on_lob, on_lobs, at_piece, all_but_first, without_row, without_piece, without_index}
use Rattle.store_model.specs.Undo.{piece_freed, index_freed, on_first, on_oldest, purge_begun, version_dropped, cleared, is_newest, swept, record_passed, log_pages_left, log_purged}
use Rattle.store_model.specs.Behind.{AllRows, SameParts, IsElsewhere, AtPiece}
use Rattle.store_model.specs.Moves.{KeepsAll}
use Rattle.store_model.specs.Purging.{SeesSame, AllTo, Meets, FindsWithout}
use Rattle.store_model.proofs.RowLemmas.{row-without_this, row-without_other}
use Rattle.store_model.proofs.LogLemmas.{among_other, committed-passed}
use Rattle.store_model.proofs.LobLemmas.{parts-on_piece, piece-dropped}
use Rattle.store_model.proofs.HistoryLemmas.{history-on, history-same, same-on, content-same, same-laid}
use Rattle.store_model.proofs.CommitLemmas.{seen-same}

-- ---- who sees the transaction looks no further than its newest row

to-laid : (trx : ℕ) (rs : List Run) (old new : List Lob) (row : Row) (cs : List Change) → AllTo trx (SameParts old new) row cs → AllTo trx (SameParts (lobs_laid rs old) (lobs_laid rs new)) row cs
to-laid trx rs old new row [] all = same-laid rs old new row all
to-laid trx rs old new row (c ∷ cs) all = (same-laid rs old new row all.0, elim all.1 [ inl e ↦ inl e | inr rest ↦ inr (to-laid trx rs old new c.undo.before cs rest) ])

-- what follows row by row from a fact holds of the rows down to a transaction's where the fact does
pub to_rows : (trx : ℕ) (P Q : Row → Type 0) (row : Row) (cs : List Change) → ((row : Row) → P row → Q row) → AllTo trx P row cs → AllTo trx Q row cs
to_rows trx P Q row [] so all = so row all
to_rows trx P Q row (c ∷ cs) so all = (so row all.0, elim all.1 [ inl e ↦ inl e | inr rest ↦ inr (to_rows trx P Q c.undo.before cs so rest) ])

pub seen-to : (trx : ℕ) (sees : ℕ → Bool) (old new : List Lob) (row : Row) (cs : List Change) → sees trx ≡ true → AllTo trx (SameParts old new) row cs
    → seen sees (history_on new row cs) ≡ seen sees (history_on old row cs)
seen-to trx sees old new row [] known all = ap (λ (o : Option (List ℕ)). if sees row.trx then o else None) (sym (content-same old new row all))
seen-to trx sees old new row (c ∷ cs) known all = elim all.1 [
  | inl e ↦ rw (ap sees e ∙ known) (sym (content-same old new row all.0))
  | inr rest ↦ ap₂ (λ (o p : Option (List ℕ)). if sees row.trx then o else p) (sym (content-same old new row all.0))
      (seen-to trx sees (lobs_laid (old_runs c.undo.body) old) (lobs_laid (old_runs c.undo.body) new) c.undo.before cs known (to-laid trx (old_runs c.undo.body) old new c.undo.before cs rest))
]

pub seen-cut : (trx : ℕ) (sees : ℕ → Bool) (lobs : List Lob) (row : Row) (cs ds : List Change) → sees trx ≡ true → Meets trx row cs
    → seen sees (history_on lobs row cs) ≡ seen sees (history_on lobs row (cs ++ ds))
seen-cut trx sees lobs row [] [] known meets = refl
seen-cut trx sees lobs row [] (d ∷ ds) known meets = rw (ap sees meets ∙ known) refl
seen-cut trx sees lobs row (c ∷ cs) ds known meets = elim meets [
  | inl e ↦ rw (ap sees e ∙ known) refl
  | inr rest ↦ ap (λ (o : Option (List ℕ)). if sees row.trx then content lobs row else o) (seen-cut trx sees (lobs_laid (old_runs c.undo.body) lobs) c.undo.before cs ds known rest)
]

-- ---- events that change LOBs alone

pub lobs_seen : (trx d : ℕ) (f : List Lob → List Lob) (store : Store) → AllTo trx (SameParts store.lobs (f store.lobs)) (row_before store d) (changes store d) → SeesSame trx d store (on_lobs f store)
lobs_seen trx d f store all sees known =
    ap (seen sees) (history-on (f store.lobs) (row_before store d) (changes store d))
    ∙ seen-to trx sees store.lobs (f store.lobs) (row_before store d) (changes store d) known all
    ∙ ap (seen sees) (sym (history-on store.lobs (row_before store d) (changes store d)))

at_dropped : (k v : ℕ) (ps : List Piece) → AtPiece k (λ p. is_some (piece_at (dropped p) v) ≡ true) ps → AtPiece k (λ p. part_list (piece_at (dropped p) v) ≡ part_list (piece_at p v)) ps
at_dropped k v [] each = tt
at_dropped zero v (p ∷ ps) each = piece-dropped p v each
at_dropped (suc k) v (p ∷ ps) each = at_dropped k v ps each

same_dropped : (page k : ℕ) (free : List Address) (lobs : List Lob) (row : Row) → FindsWithout page k lobs row → SameParts lobs (on_lob page (λ l. record (at_piece k dropped l) { free = free }) lobs) row
same_dropped page k free lobs row finds = same-on page (λ l. record (at_piece k dropped l) { free = free }) lobs row (λ l. refl)
    (λ is_live here l there. parts-on_piece k dropped l.pieces row.lob.version (at_dropped k row.lob.version l.pieces (finds is_live here l there)))

-- who sees the transaction sees the document as before where a piece loses its oldest version, if
-- the rows down to the transaction's find theirs without it
pub drop_seen : (trx page k : ℕ) (free : List Address) (store : Store) (d : ℕ) → AllTo trx (FindsWithout page k store.lobs) (row_before store d) (changes store d)
    → SeesSame trx d store (version_dropped page k free store)
drop_seen trx page k free store d finds = lobs_seen trx d (on_lob page (λ l. record (at_piece k dropped l) { free = free })) store
    (to_rows trx (FindsWithout page k store.lobs) _ (row_before store d) (changes store d) (same_dropped page k free store.lobs) finds)

-- so where a LOB changes that none of the rows down to the transaction's has
pub elsewhere_seen : (trx page d : ℕ) (f : Lob → Lob) (store : Store) → ((l : Lob) → (f l).page ≡ l.page) → AllTo trx (IsElsewhere page) (row_before store d) (changes store d)
    → SeesSame trx d store (on_lobs (on_lob page f) store)
elsewhere_seen trx page d f store same elsewhere = lobs_seen trx d (on_lob page f) store
    (to_rows trx (IsElsewhere page) _ (row_before store d) (changes store d) (λ row there. same-on page f store.lobs row same (λ is_live here. absurd (there is_live here))) elsewhere)

-- ---- logs

-- a document's committed changes stay where the first log keeps its records and transaction
pub changes-first : (d : ℕ) (f : Log → Log) (logs : List Log) → ((l : Log) → (f l).records ≡ l.records) → ((l : Log) → (f l).trx ≡ l.trx) → committed_changes d (on_first f logs) ≡ committed_changes d logs
changes-first d f [] r t = refl
changes-first d f (l ∷ ls) r t = ap₂ (λ (n : ℕ) (us : List (Address × Record)). committed_changes d ls ++ changes_among d n us) (t l) (r l)

pub first_keeps : (d : ℕ) (f : Log → Log) (store : Store) → ((l : Log) → (f l).records ≡ l.records) → ((l : Log) → (f l).trx ≡ l.trx) → KeepsAll d store (on_oldest f store)
first_keeps d f store r t = ap (λ cs. history_behind [] store.lobs (row_before store d) (active_changes d store.active ++ cs)) (changes-first d f store.committed r t)

-- where purge begins, each document keeps its history
pub begun_keeps : (d : ℕ) (store : Store) → KeepsAll d store (purge_begun store)
begun_keeps d store = first_keeps d _ store (λ l. refl) (λ l. refl)

-- so where the first committed log gets other pages
pub pages_keep : (d : ℕ) (pages : List ℕ) (store : Store) → KeepsAll d store (log_pages_left pages store)
pages_keep d pages store = first_keeps d _ store (λ l. refl) (λ l. refl)

-- where the first committed log goes, which has no records left, the changes stay
pub log_changes_kept : (d : ℕ) (store : Store) (l : Log) (ls : List Log) → store.committed ≡ l ∷ ls → l.records ≡ [] → changes (log_purged store) d ≡ changes store d
log_changes_kept d store l ls first none =
    ap (λ cs. active_changes d store.active ++ cs)
    (ap (λ (ms : List Log). committed_changes d (all_but_first ms)) first
    ∙ sym (append-nil (committed_changes d ls)) ∙ ap (λ us. committed_changes d ls ++ changes_among d l.trx us) (sym none)
    ∙ sym (ap (committed_changes d) first))

-- and so does each document's history
pub log_keeps : (d : ℕ) (store : Store) (l : Log) (ls : List Log) → store.committed ≡ l ∷ ls → l.records ≡ [] → KeepsAll d store (log_purged store)
log_keeps d store l ls first none = ap (history_behind [] store.lobs (row_before store d)) (log_changes_kept d store l ls first none)

-- ---- a record is passed

-- the sweep of a deleted row leaves the LOBs
pub swept_lobs : (body : Body) (a : Address) (trx d : ℕ) (store : Store) → (swept body a trx d store).lobs ≡ store.lobs
swept_lobs (inserted page) a trx d store = refl
swept_lobs (rebuilt page) a trx d store = refl
swept_lobs (versioned pieces touched) a trx d store = refl
swept_lobs (patched old) a trx d store = refl
swept_lobs removed a trx d store = by_test (is_newest a trx (row_of store d))
  where
    by_test : (b : Bool) → (if b then without_row d store else store).lobs ≡ store.lobs
    by_test true = refl
    by_test false = refl

-- and the changes of each document that are left where the record is passed
pub swept_changes : (body : Body) (a : Address) (trx d q : ℕ) (store : Store) → changes (on_oldest passed (swept body a trx d store)) q ≡ changes (on_oldest passed store) q
swept_changes (inserted page) a trx d q store = refl
swept_changes (rebuilt page) a trx d q store = refl
swept_changes (versioned pieces touched) a trx d q store = refl
swept_changes (patched old) a trx d q store = refl
swept_changes removed a trx d q store = by_test (is_newest a trx (row_of store d))
  where
    by_test : (b : Bool) → changes (on_oldest passed (if b then without_row d store else store)) q ≡ changes (on_oldest passed store) q
    by_test true = refl
    by_test false = refl

-- the row as it was, or none where a deleted one had no newer change
pub swept_row : (body : Body) (a : Address) (trx d q : ℕ) (store : Store)
    → (row_before (swept body a trx d store) q ≡ row_before store q) ⊎ ((row_before (swept body a trx d store) q ≡ absent_row) × (q ≡ d) × (is_newest a trx (row_of store d) ≡ true) × (body ≡ removed))
swept_row (inserted page) a trx d q store = inl refl
swept_row (rebuilt page) a trx d q store = inl refl
swept_row (versioned pieces touched) a trx d q store = inl refl
swept_row (patched old) a trx d q store = inl refl
swept_row removed a trx d q store = by_test (is_newest a trx (row_of store d)) refl
  where
    by_test : (b : Bool) → is_newest a trx (row_of store d) ≡ b
        → (row_before (if b then without_row d store else store) q ≡ row_before store q) ⊎ ((row_before (if b then without_row d store else store) q ≡ absent_row) × (q ≡ d) × (is_newest a trx (row_of store d) ≡ true) × (removed ≡ removed))
    by_test false e = inl refl
    by_test true e = elim (cases_eq q d) [
      | inl same ↦ inr (ap (row_before (without_row d store)) same ∙ row-without_this d store, same, e, refl)
      | inr other ↦ inl (row-without_other d q store other)
    ]

-- a document's changes are those that are left where purge passes a record, and behind them
-- the record's, if it is of the document
pub passed_changes : (d : ℕ) (store : Store) (l : Log) (ls : List Log) → store.committed ≡ l ∷ ls → changes store d ≡ changes (on_oldest passed store) d ++ changes_among d l.trx (last_in l.records)
passed_changes d store l ls first =
    ap (λ (ms : List Log). active_changes d store.active ++ committed_changes d ms) first
    ∙ ap (λ cs. active_changes d store.active ++ cs) (committed-passed d l ls)
    ∙ sym (append_assoc (active_changes d store.active) (committed_changes d (passed l ∷ ls)) (changes_among d l.trx (last_in l.records)))
    ∙ ap (λ (ms : List Log). (active_changes d store.active ++ committed_changes d (on_first passed ms)) ++ changes_among d l.trx (last_in l.records)) (sym first)

-- another document has no record there
pub pass_changes_other : (a : Address) (u : Record) (store : Store) (l : Log) (ls : List Log) (d : ℕ) → store.committed ≡ l ∷ ls → last_in l.records ≡ (a, u) ∷ [] → d ≢ u.doc
    → changes (record_passed a l.trx u store) d ≡ changes store d
pass_changes_other a u store l ls d first oldest other =
    swept_changes u.body a l.trx u.doc d (on_lobs (cleared u.body u.before) store)
    ∙ sym (append-nil (changes (on_oldest passed store) d))
    ∙ ap (λ us. changes (on_oldest passed store) d ++ us) (sym (ap (changes_among d l.trx) oldest ∙ among_other d l.trx (a, u) [] (λ e. other (sym e))))
    ∙ sym (passed_changes d store l ls first)

-- another document keeps its history where its rows find the same parts once the record is passed
pub pass_others : (a : Address) (u : Record) (store : Store) (l : Log) (ls : List Log) (d : ℕ) → store.committed ≡ l ∷ ls → last_in l.records ≡ (a, u) ∷ [] → d ≢ u.doc
    → AllRows (SameParts store.lobs (cleared u.body u.before store.lobs)) store d → KeepsAll d store (record_passed a l.trx u store)
pass_others a u store l ls d first oldest other same =
    history-on after.lobs (row_before after d) (changes after d)
    ∙ ap (λ ms. history_on ms (row_before after d) (changes after d)) (swept_lobs u.body a l.trx u.doc mid)
    ∙ ap₂ (history_on mid.lobs) (elim (swept_row u.body a l.trx u.doc d mid) [ inl kept ↦ kept | inr gone ↦ absurd (other gone.1) ]) (pass_changes_other a u store l ls d first oldest other)
    ∙ sym (history-same store.lobs mid.lobs (row_before store d) (changes store d) same.0 same.1)
    ∙ sym (history-on store.lobs (row_before store d) (changes store d))
  where
    mid : Store
    mid = on_lobs (cleared u.body u.before) store

    after : Store
    after = record_passed a l.trx u store

-- a test between a value and itself gives the value
pub either : {A : Type 0} (b : Bool) (x : A) → (if b then x else x) ≡ x
either true x = refl
either false x = refl

-- its own document loses the rows behind the record's own
pub pass_own : (a : Address) (u : Record) (store : Store) (l : Log) (ls : List Log) → store.committed ≡ l ∷ ls
    → AllTo l.trx (SameParts store.lobs (cleared u.body u.before store.lobs)) (row_before store u.doc) (changes (on_oldest passed store) u.doc)
    → Meets l.trx (row_before store u.doc) (changes (on_oldest passed store) u.doc)
    → (is_newest a l.trx (row_of store u.doc) ≡ true → u.body ≡ removed → ((row_before store u.doc).state ≡ deleted) × (changes (on_oldest passed store) u.doc ≡ []))
    → SeesSame l.trx u.doc store (record_passed a l.trx u store)
pass_own a u store l ls first same meets swept_where sees known =
    ap (seen sees)
    (history-on after.lobs (row_before after d) (changes after d)
    ∙ ap (λ ms. history_on ms (row_before after d) (changes after d)) (swept_lobs u.body a l.trx d mid)
    ∙ ap (history_on mid.lobs (row_before after d)) (swept_changes u.body a l.trx d d mid))
    ∙ elim (swept_row u.body a l.trx d d mid) [
      | inl kept ↦ ap (λ r. seen sees (history_on mid.lobs r cs)) kept ∙ seen-to l.trx sees store.lobs mid.lobs row cs known same
      | inr gone ↦ nothing gone.0 (swept_where gone.2 gone.3)
    ]
    ∙ seen-cut l.trx sees store.lobs row cs (changes_among d l.trx (last_in l.records)) known meets
    ∙ ap (λ (es : List Change). seen sees (history_on store.lobs row es)) (sym (passed_changes d store l ls first))
    ∙ ap (seen sees) (sym (history-on store.lobs row (changes store d)))
  where
    d : ℕ
    d = u.doc

    mid : Store
    mid = on_lobs (cleared u.body u.before) store

    after : Store
    after = record_passed a l.trx u store

    row : Row
    row = row_before store d

    cs : List Change
    cs = changes (on_oldest passed store) d

    nothing : row_before after d ≡ absent_row → (row.state ≡ deleted) × (cs ≡ []) → seen sees (history_on mid.lobs (row_before after d) cs) ≡ seen sees (history_on store.lobs row cs)
    nothing gone last =
        ap₂ (λ r es. seen sees (history_on mid.lobs r es)) gone last.1
        ∙ either (sees 0) None
        ∙ sym (ap (λ es. seen sees (history_on store.lobs row es)) last.1
        ∙ ap (λ (o : Option (List ℕ)). if sees row.trx then o else None) (ap (λ s. shown s (parts store.lobs row.lob)) last.0)
        ∙ either (sees row.trx) None)

pub free_seen : (trx page d : ℕ) (free : List Address) (store : Store) → AllTo trx (IsElsewhere page) (row_before store d) (changes store d) → SeesSame trx d store (piece_freed page free store)
free_seen trx page d free store elsewhere = elsewhere_seen trx page d (λ l. record (without_piece l) { free = free }) store (λ l. refl) elsewhere

pub index_seen : (trx page d : ℕ) (store : Store) → AllTo trx (IsElsewhere page) (row_before store d) (changes store d) → SeesSame trx d store (index_freed page store)
index_seen trx page d store elsewhere = elsewhere_seen trx page d without_index store (λ l. refl) elsewhere

-- where the first committed log goes, who is among the first commits stays, from its number on
pub log_among : (k x : ℕ) (store : Store) (l : Log) (ls : List Log) → store.committed ≡ l ∷ ls → l.number ≤ k → is_among (log_purged store) k x ≡ is_among store k x
log_among k x store l ls first below =
    ap (λ (ms : List Log). not (stands x store.active) && not (stands_above k x (all_but_first ms))) first
    ∙ ap (λ (b : Bool). not (stands x store.active) && not ((b && (l.trx == x)) || stands_above k x ls)) (sym (le-ltb k l.number below))
    ∙ ap (λ (ms : List Log). not (stands x store.active) && not (stands_above k x ms)) (sym first)

-- a document shows the same under k commits where who sees a transaction among them sees the same,
-- and the same transactions are among them
pub seen_under : (trx d k : ℕ) (old new : Store) → SeesSame trx d old new → is_among old k trx ≡ true → ((x : ℕ) → is_among new k x ≡ is_among old k x) → under new d k ≡ under old d k
seen_under trx d k old new same known among = seen-same (is_among new k) (is_among old k) (history new d) among ∙ same (is_among old k) known
