-- The events of a rollback.
use Rattle.std.proofs.Common.{◌≡◌, ◌≢◌, ◌⊎◌, inl, inr, ℕ, zero, suc, ◌<◌, ◌≤◌, Bool, true, false, ◌==◌, if◌then◌else◌, List, [], ◌∷◌, ◌++◌, map, Some, None, refl, sym, ap, ap₂, subst, ◌∙◌, arith}
use Rattle.std.proofs.lemmas.Bool.Decides.{eqb_tells}
use Rattle.page_model.specs.Pages.{Address}
use Rattle.store_data.specs.Pieces.{Part, piece_at, popped}
use Rattle.store_data.specs.Store.{RowState, Row, absent, live, deleted, Piece, Lob, Body, inserted, rebuilt, versioned, patched, removed, Record, Store}
use Rattle.store_model.specs.Lobs.{part_list, parts_at, lob_of, parts}
use Rattle.store_model.specs.Runs.{lobs_laid, old_runs}
use Rattle.store_model.specs.History.{Change, Past, shown, history, history_on, changes, committed_changes, row_before}
use Rattle.store_model.specs.Steps.{on_lob, without_lob, on_lobs, at_piece, at_version, without_piece, without_index, with_row, without_row, all_but_first}
use Rattle.store_model.specs.Undo.{piece_freed, index_freed, version_popped, is_gone, unmade, without_newest, undo_ended, popped_at, emptied, undone_record}
use Rattle.store_model.specs.Behind.{AllBefore, AllRows, SameParts, IsElsewhere, IsBelow, AtPiece}
use Rattle.store_model.specs.Moves.{KeepsOlder, KeepsAll, IsUntouched, IsNewest, OlderElsewhere, OthersElsewhere, OlderBelow}
use Rattle.store_model.proofs.RowLemmas.{row-with_this, row-with_other, row-without_this, row-without_other}
use Rattle.store_model.proofs.LogLemmas.{change, active-popped, active-popped_other}
use Rattle.store_model.proofs.LobLemmas.{parts-on_piece, piece-popped}
use Rattle.store_model.proofs.HistoryLemmas.{history-on, history-same, all-rows, same-without, same-on}
use Rattle.store_model.proofs.ChangeLemmas.{rows_so, all_of, laid_none, untouched_same}
use Rattle.store_model.proofs.FurtherLemmas.{keeps_older, keeps_all, same_elsewhere}

-- ---- the last event of a record

-- a transaction's newest record is its document's newest change, in front of those left without it
pub changes-popped : (trx : ℕ) (place : Address) (u : Record) (store : Store) → IsNewest trx place u store → changes store u.doc ≡ change trx place u ∷ changes (without_newest trx u store) u.doc
changes-popped trx place u store new = ap (λ cs. cs ++ committed_changes u.doc store.committed) (active-popped trx u.doc place u store.active new.newest new.idle refl)

-- another document keeps its changes where that record goes
pub changes-popped_other : (trx : ℕ) (place : Address) (u : Record) (store : Store) (d : ℕ) → IsNewest trx place u store → d ≢ u.doc → changes (without_newest trx u store) d ≡ changes store d
changes-popped_other trx place u store d new other = ap (λ cs. cs ++ committed_changes d store.committed) (active-popped_other trx d place u store.active new.newest (λ e. other (sym e)))

pub older-of : (trx : ℕ) (place : Address) (u : Record) (store : Store) → IsNewest trx place u store
    → all_but_first (history store u.doc) ≡ history_on (lobs_laid (old_runs u.body) store.lobs) u.before (changes (without_newest trx u store) u.doc)
older-of trx place u store new =
    ap all_but_first (history-on store.lobs (row_before store u.doc) (changes store u.doc) ∙ ap (history_on store.lobs (row_before store u.doc)) (changes-popped trx place u store new))

-- the rows before a change show the same where what it made is gone as where it is only taken back
unmade_same : (body : Body) (before : Row) (lobs : List Lob) (cs : List Change) → OlderElsewhere body cs → (c : Change) (rest : List Change) → cs ≡ c ∷ rest → c.undo.before ≡ before
    → history_on (unmade body before lobs) before rest ≡ history_on (lobs_laid (old_runs body) lobs) before rest
unmade_same (inserted page) before lobs cs elsewhere c rest e b =
    let all : AllBefore (IsElsewhere page) (c ∷ rest) = subst (AllBefore (IsElsewhere page)) e elsewhere in
    sym (history-same lobs (without_lob page lobs) before rest (same-without page lobs before (subst (IsElsewhere page) b all.0)) (all-rows (IsElsewhere page) _ rest (same-without page lobs) all.1))
    ∙ ap (λ ls. history_on ls before rest) (sym (laid_none lobs))
unmade_same (rebuilt page) before lobs cs elsewhere c rest e b =
    let all : AllBefore (IsElsewhere page) (c ∷ rest) = subst (AllBefore (IsElsewhere page)) e elsewhere in
    sym (history-same lobs (without_lob page lobs) before rest (same-without page lobs before (subst (IsElsewhere page) b all.0)) (all-rows (IsElsewhere page) _ rest (same-without page lobs) all.1))
    ∙ ap (λ ls. history_on ls before rest) (sym (laid_none lobs))
unmade_same (versioned pieces touched) before lobs cs elsewhere c rest e b =
    let f = at_version before.lob.version in
    let one : (row : Row) → SameParts lobs (on_lob before.lob.page f lobs) row = λ row. same-on before.lob.page f lobs row (λ l. refl) (λ is_live here l there. refl) in
    sym (history-same lobs (on_lob before.lob.page f lobs) before rest (one before) (all_of _ rest one)) ∙ ap (λ ls. history_on ls before rest) (sym (laid_none lobs))
unmade_same (patched old) before lobs cs elsewhere c rest e b = refl
unmade_same removed before lobs cs elsewhere c rest e b = ap (λ ls. history_on ls before rest) (sym (laid_none lobs))

-- an undone record takes the newest row from its document's history, where a row is left
pub undo_own : (trx : ℕ) (place : Address) (u : Record) (store : Store) → IsNewest trx place u store → OlderElsewhere u.body (changes store u.doc)
    → is_gone (without_newest trx u store) u.before.state u.before ≡ false
    → history (undo_ended trx u store) u.doc ≡ all_but_first (history store u.doc)
undo_own trx place u store new elsewhere stays =
    ap (λ (b : Bool). history (if b then without_row u.doc mid else with_row u.doc u.before mid) u.doc) stays
    ∙ history-on mid.lobs (row_before (with_row u.doc u.before mid) u.doc) (changes mid u.doc)
    ∙ ap (λ row. history_on mid.lobs row (changes mid u.doc)) (row-with_this u.doc u.before mid)
    ∙ unmade_same u.body u.before store.lobs (changes store u.doc) elsewhere (change trx place u) (changes mid u.doc) (changes-popped trx place u store new) refl
    ∙ sym (older-of trx place u store new)
  where
    mid : Store
    mid = without_newest trx u store

-- an insert that found no row, or a deleted one whose deletion is purged: the row goes
pub undo_gone : (trx : ℕ) (place : Address) (u : Record) (store : Store) → IsNewest trx place u store
    → is_gone (without_newest trx u store) u.before.state u.before ≡ true → changes (without_newest trx u store) u.doc ≡ []
    → (history (undo_ended trx u store) u.doc ≡ record { trx = 0; length = 0; bytes = None } ∷ []) × (all_but_first (history store u.doc) ≡ record { trx = u.before.trx; length = u.before.lob.length; bytes = None } ∷ [])
undo_gone trx place u store new goes last = (
  ap (λ (b : Bool). history (if b then without_row u.doc mid else with_row u.doc u.before mid) u.doc) goes
      ∙ history-on mid.lobs (row_before (without_row u.doc mid) u.doc) (changes mid u.doc)
      ∙ ap₂ (history_on mid.lobs) (row-without_this u.doc mid) last,
  older-of trx place u store new
      ∙ ap (history_on (lobs_laid (old_runs u.body) store.lobs) u.before) last
      ∙ ap (λ o. let h : Past = record { trx = u.before.trx; length = u.before.lob.length; bytes = o } in h ∷ []) (by_state u.before.state goes),
)
  where
    mid : Store
    mid = without_newest trx u store

    by_state : (s : RowState) → is_gone mid s u.before ≡ true → shown s (parts (lobs_laid (old_runs u.body) store.lobs) u.before.lob) ≡ None
    by_state absent e = refl
    by_state live e = absurd (cc e)
    by_state deleted e = refl

unmade_others : (body : Body) (before : Row) (store : Store) (d : ℕ) → OthersElsewhere body store d → AllRows (SameParts store.lobs (unmade body before store.lobs)) store d
unmade_others (inserted page) before store d elsewhere = rows_so (IsElsewhere page) _ store d (same-without page store.lobs) elsewhere
unmade_others (rebuilt page) before store d elsewhere = rows_so (IsElsewhere page) _ store d (same-without page store.lobs) elsewhere
unmade_others (versioned pieces touched) before store d elsewhere =
    let one : (row : Row) → SameParts store.lobs (on_lob before.lob.page (at_version before.lob.version) store.lobs) row = λ row. same-on before.lob.page (at_version before.lob.version) store.lobs row (λ l. refl) (λ is_live here l there. refl) in
    (one (row_before store d), all_of _ (changes store d) one)
unmade_others (patched old) before store d elsewhere = rows_so (IsUntouched old store.lobs) _ store d (untouched_same old store.lobs) elsewhere
unmade_others removed before store d elsewhere = ((λ is_live. refl), all_of _ (changes store d) (λ row is_live. refl))

-- an undone record leaves another document's history, which shows nothing that the record made
pub undo_others : (trx : ℕ) (place : Address) (u : Record) (store : Store) (d : ℕ) → IsNewest trx place u store → d ≢ u.doc → OthersElsewhere u.body store d → KeepsAll d store (undo_ended trx u store)
undo_others trx place u store d new other elsewhere =
    by_test (is_gone mid u.before.state u.before)
  where
    mid : Store
    mid = without_newest trx u store

    kept : (row : Row) → row ≡ row_before store d → history_on mid.lobs row (changes mid d) ≡ history store d
    kept row e =
        ap₂ (history_on mid.lobs) e (changes-popped_other trx place u store d new other)
        ∙ sym (history-same store.lobs mid.lobs (row_before store d) (changes store d) (unmade_others u.body u.before store d elsewhere).0 (unmade_others u.body u.before store d elsewhere).1)
        ∙ sym (history-on store.lobs (row_before store d) (changes store d))

    by_test : (b : Bool) → history (if b then without_row u.doc mid else with_row u.doc u.before mid) d ≡ history store d
    by_test true = history-on mid.lobs (row_before (without_row u.doc mid) d) (changes mid d) ∙ kept (row_before (without_row u.doc mid) d) (row-without_other u.doc d mid other)
    by_test false = history-on mid.lobs (row_before (with_row u.doc u.before mid) d) (changes mid d) ∙ kept (row_before (with_row u.doc u.before mid) d) (row-with_other u.doc d u.before mid other)

-- ---- the events before the last one

module _ (page : ℕ) (store : Store) (d : ℕ) where
  -- a change of a LOB that no such row has
  pub elsewhere_older : (f : Lob → Lob) → ((l : Lob) → (f l).page ≡ l.page) → AllBefore (IsElsewhere page) (changes store d) → KeepsOlder d store (on_lobs (on_lob page f) store)
  elsewhere_older f same elsewhere = keeps_older (on_lob page f) store d (all-rows (IsElsewhere page) _ (changes store d) (same_elsewhere page f store.lobs same) elsewhere)

  pub elsewhere_all : (f : Lob → Lob) → ((l : Lob) → (f l).page ≡ l.page) → AllRows (IsElsewhere page) store d → KeepsAll d store (on_lobs (on_lob page f) store)
  elsewhere_all f same elsewhere = keeps_all (on_lob page f) store d (rows_so (IsElsewhere page) _ store d (same_elsewhere page f store.lobs same) elsewhere)

  pub free_keeps_older : (free : List Address) → AllBefore (IsElsewhere page) (changes store d) → KeepsOlder d store (piece_freed page free store)
  free_keeps_older free elsewhere = elsewhere_older (λ l. record (without_piece l) { free = free }) (λ l. refl) elsewhere

  pub free_keeps_all : (free : List Address) → AllRows (IsElsewhere page) store d → KeepsAll d store (piece_freed page free store)
  free_keeps_all free elsewhere = elsewhere_all (λ l. record (without_piece l) { free = free }) (λ l. refl) elsewhere

  pub index_keeps_older : AllBefore (IsElsewhere page) (changes store d) → KeepsOlder d store (index_freed page store)
  index_keeps_older elsewhere = elsewhere_older without_index (λ l. refl) elsewhere

  pub index_keeps_all : AllRows (IsElsewhere page) store d → KeepsAll d store (index_freed page store)
  index_keeps_all elsewhere = elsewhere_all without_index (λ l. refl) elsewhere

at_popped : (k n v : ℕ) (ps : List Piece) → v < n → AtPiece k (λ p. n ≤ p.head.number) ps → AtPiece k (λ p. part_list (piece_at (popped p) v) ≡ part_list (piece_at p v)) ps
at_popped k n v [] below each = tt
at_popped zero n v (p ∷ ps) below each = piece-popped p v (omega arith)
at_popped (suc k) n v (p ∷ ps) below each = at_popped k n v ps below each

module _ (page k n : ℕ) (free : List Address) (store : Store) (d : ℕ) (raised : (l : Lob) → lob_of store.lobs page ≡ Some l → AtPiece k (λ p. n ≤ p.head.number) l.pieces) where
  same_popped : (row : Row) → IsBelow page n row → SameParts store.lobs (on_lob page (λ l. record (at_piece k popped l) { free = free }) store.lobs) row
  same_popped row below = same-on page (λ l. record (at_piece k popped l) { free = free }) store.lobs row (λ l. refl)
      (λ is_live here l there. parts-on_piece k popped l.pieces row.lob.version (at_popped k n row.lob.version l.pieces (below is_live here) (raised l there)))

  pub pop_keeps_older : AllBefore (IsBelow page n) (changes store d) → KeepsOlder d store (version_popped page k free store)
  pop_keeps_older below = keeps_older (on_lob page (λ l. record (at_piece k popped l) { free = free })) store d (all-rows (IsBelow page n) _ (changes store d) same_popped below)

  pub pop_keeps_all : AllRows (IsBelow page n) store d → KeepsAll d store (version_popped page k free store)
  pop_keeps_all below = keeps_all (on_lob page (λ l. record (at_piece k popped l) { free = free })) store d (rows_so (IsBelow page n) _ store d same_popped below)

-- ---- a whole record

parts-popped_at : (n v : ℕ) (ps : List Piece) → v < n → parts_at (map (popped_at n) ps) v ≡ parts_at ps v
parts-popped_at n v [] below = refl
parts-popped_at n v (p ∷ ps) below = ap₂ (λ (a b : List Part). a ++ b) (one (eqb_tells p.head.number n)) (parts-popped_at n v ps below)
  where
    one : (((p.head.number == n) ≡ true) × (p.head.number ≡ n)) ⊎ (((p.head.number == n) ≡ false) × (p.head.number ≢ n)) → part_list (piece_at (popped_at n p) v) ≡ part_list (piece_at p v)
    one (inl same) = ap (λ (b : Bool). part_list (piece_at (if b then popped p else p) v)) same.0 ∙ piece-popped p v (omega (arith, same.1))
    one (inr other) = ap (λ (b : Bool). part_list (piece_at (if b then popped p else p) v)) other.0

pub same_emptied : (page n : ℕ) (lobs : List Lob) (row : Row) → IsBelow page n row → SameParts lobs (on_lob page (λ l. record l { pieces = map (popped_at n) l.pieces }) lobs) row
same_emptied page n lobs row below = same-on page (λ l. record l { pieces = map (popped_at n) l.pieces }) lobs row (λ l. refl) (λ is_live here l there. parts-popped_at n row.lob.version l.pieces (below is_live here))

pub emptied_same : (body : Body) (before : Row) (lobs : List Lob) (cs : List Change) → OlderBelow body before cs → AllBefore (SameParts lobs (emptied body before lobs)) cs
emptied_same (inserted page) before lobs cs below = all_of _ cs (λ row is_live. refl)
emptied_same (rebuilt page) before lobs cs below = all_of _ cs (λ row is_live. refl)
emptied_same (versioned pieces touched) before lobs cs below = all-rows (IsBelow before.lob.page (suc before.lob.version)) _ cs (same_emptied before.lob.page (suc before.lob.version) lobs) below
emptied_same (patched old) before lobs cs below = all_of _ cs (λ row is_live. refl)
emptied_same removed before lobs cs below = all_of _ cs (λ row is_live. refl)

pub undone_own : (trx : ℕ) (place : Address) (u : Record) (store : Store) → IsNewest trx place u store → OlderElsewhere u.body (changes store u.doc) → OlderBelow u.body u.before (changes store u.doc)
    → is_gone (without_newest trx u (on_lobs (emptied u.body u.before) store)) u.before.state u.before ≡ false
    → history (undone_record trx u store) u.doc ≡ all_but_first (history store u.doc)
undone_own trx place u store new elsewhere below stays =
    undo_own trx place u (on_lobs (emptied u.body u.before) store) (record { newest = new.newest; idle = new.idle }) elsewhere stays
    ∙ keeps_older (emptied u.body u.before) store u.doc (emptied_same u.body u.before store.lobs (changes store u.doc) below)
