-- The further events of a change, and what the newest row shows.
use Rattle.std.proofs.Common.{◌≡◌, ℕ, zero, suc, List, [], ◌∷◌, ◌++◌, set, Some, refl, sym, ap, ◌∙◌}
use Rattle.std.proofs.lemmas.Bool.{le-leb}
use Rattle.page_model.specs.Pages.{Address}
use Rattle.store_data.specs.Pieces.{Part, part_of, piece_at, pushed}
use Rattle.store_data.specs.Store.{Row, live, Version, Piece, Lob, Store}
use Rattle.store_model.specs.Lobs.{part_list, parts_at, joined, lob_of, pieces_of, parts, heads, AreSeen}
use Rattle.store_model.specs.Runs.{lobs_laid, old_runs}
use Rattle.store_model.specs.History.{Change, shown, content, history_on, changes, row_before}
use Rattle.store_model.specs.Steps.{on_lob, on_lobs, on_piece, at_piece, with_piece, with_nodes, all_but_first}
use Rattle.store_model.specs.Events.{piece_added, version_pushed}
use Rattle.store_model.specs.Behind.{AllBefore, AllRows, SameParts, IsElsewhere, IsBelow, AtPiece}
use Rattle.store_model.specs.Moves.{KeepsOlder, KeepsAll}
use Rattle.store_model.proofs.LobLemmas.{parts-on_piece, piece-pushed}
use Rattle.store_model.proofs.HistoryLemmas.{history-on, history-same, all-laid, all-rows, same-on}
use Rattle.store_model.proofs.ChangeLemmas.{rows_so}

-- ---- LOBs change, and no row

pub older_same : (old new : List Lob) (row : Row) (cs : List Change) → AllBefore (SameParts old new) cs → all_but_first (history_on old row cs) ≡ all_but_first (history_on new row cs)
older_same old new row [] same = refl
older_same old new row (c ∷ cs) same =
    history-same (lobs_laid (old_runs c.undo.body) old) (lobs_laid (old_runs c.undo.body) new) c.undo.before cs
    (all-laid (old_runs c.undo.body) old new (c ∷ cs) same).0 (all-laid (old_runs c.undo.body) old new (c ∷ cs) same).1

-- where LOBs change, a document's older rows show the same if each finds the same parts
pub keeps_older : (f : List Lob → List Lob) (store : Store) (d : ℕ) → AllBefore (SameParts store.lobs (f store.lobs)) (changes store d) → KeepsOlder d store (on_lobs f store)
keeps_older f store d same =
    ap all_but_first (history-on (f store.lobs) (row_before store d) (changes store d))
    ∙ sym (older_same store.lobs (f store.lobs) (row_before store d) (changes store d) same)
    ∙ sym (ap all_but_first (history-on store.lobs (row_before store d) (changes store d)))

-- so its whole history, if its newest row does too
pub keeps_all : (f : List Lob → List Lob) (store : Store) (d : ℕ) → AllRows (SameParts store.lobs (f store.lobs)) store d → KeepsAll d store (on_lobs f store)
keeps_all f store d same =
    history-on (f store.lobs) (row_before store d) (changes store d)
    ∙ sym (history-same store.lobs (f store.lobs) (row_before store d) (changes store d) same.0 same.1)
    ∙ sym (history-on store.lobs (row_before store d) (changes store d))

-- a LOB that no such row has may change in any way
pub same_elsewhere : (page : ℕ) (f : Lob → Lob) (lobs : List Lob) → ((l : Lob) → (f l).page ≡ l.page) → (row : Row) → IsElsewhere page row → SameParts lobs (on_lob page f lobs) row
same_elsewhere page f lobs same row elsewhere = same-on page f lobs row same (λ is_live here. absurd (elsewhere is_live here))

at_each : (k : ℕ) (P : Piece → Type 0) (ps : List Piece) → ((p : Piece) → P p) → AtPiece k P ps
at_each k P [] each = tt
at_each zero P (p ∷ ps) each = each p
at_each (suc k) P (p ∷ ps) each = at_each k P ps each

same_pushed : (page k : ℕ) (node : Address) (v : Version) (index : List ℕ) (free : List Address) (lobs : List Lob) (row : Row) → IsBelow page v.number row
    → SameParts lobs (on_lob page (λ l. with_nodes index free (at_piece k (pushed node v) l)) lobs) row
same_pushed page k node v index free lobs row below =
    same-on page (λ l. with_nodes index free (at_piece k (pushed node v) l)) lobs row (λ l. refl)
    (λ is_live here l there. parts-on_piece k (pushed node v) l.pieces row.lob.version
    (at_each k (λ p. part_list (piece_at (pushed node v p) row.lob.version) ≡ part_list (piece_at p row.lob.version)) l.pieces (λ p. piece-pushed node v p row.lob.version (below is_live here))))

-- a version pushed leaves the older rows' history, if each is of a version below or of another LOB
pub push_keeps_older : (page k : ℕ) (node : Address) (v : Version) (index : List ℕ) (free : List Address) (store : Store) (d : ℕ)
    → AllBefore (IsBelow page v.number) (changes store d) → KeepsOlder d store (version_pushed page k node v index free store)
push_keeps_older page k node v index free store d below =
    keeps_older (on_lob page (λ l. with_nodes index free (at_piece k (pushed node v) l))) store d
    (all-rows (IsBelow page v.number) _ (changes store d) (same_pushed page k node v index free store.lobs) below)

-- and the whole history, where the newest row is such a one too
pub push_keeps_all : (page k : ℕ) (node : Address) (v : Version) (index : List ℕ) (free : List Address) (store : Store) (d : ℕ)
    → AllRows (IsBelow page v.number) store d → KeepsAll d store (version_pushed page k node v index free store)
push_keeps_all page k node v index free store d below =
    keeps_all (on_lob page (λ l. with_nodes index free (at_piece k (pushed node v) l))) store d
    (rows_so (IsBelow page v.number) _ store d (same_pushed page k node v index free store.lobs) below)

-- a piece added leaves the older rows' history, if each has another LOB
pub piece_keeps_older : (page : ℕ) (piece : Piece) (index : List ℕ) (free : List Address) (store : Store) (d : ℕ)
    → AllBefore (IsElsewhere page) (changes store d) → KeepsOlder d store (piece_added page piece index free store)
piece_keeps_older page piece index free store d elsewhere =
    keeps_older (on_lob page (λ l. with_nodes index free (with_piece piece l))) store d
    (all-rows (IsElsewhere page) _ (changes store d) (same_elsewhere page (λ l. with_nodes index free (with_piece piece l)) store.lobs (λ l. refl)) elsewhere)

-- and the whole history, where the newest row has another LOB too
pub piece_keeps_all : (page : ℕ) (piece : Piece) (index : List ℕ) (free : List Address) (store : Store) (d : ℕ)
    → AllRows (IsElsewhere page) store d → KeepsAll d store (piece_added page piece index free store)
piece_keeps_all page piece index free store d elsewhere =
    keeps_all (on_lob page (λ l. with_nodes index free (with_piece piece l))) store d
    (rows_so (IsElsewhere page) _ store d (same_elsewhere page (λ l. with_nodes index free (with_piece piece l)) store.lobs (λ l. refl)) elsewhere)

-- ---- what the newest row shows

newest_parts : (ps : List Piece) (v : ℕ) → AreSeen v ps → parts_at ps v ≡ heads ps
newest_parts [] v all = refl
newest_parts (p ∷ ps) v all = rw (le-leb p.head.number v all.0) (ap (λ (xs : List Part). part_of p.head ∷ xs) (newest_parts ps v all.1))

-- a live row at whose version all heads are seen shows the bytes of the heads
pub newest_content : (lobs : List Lob) (row : Row) (l : Lob) → row.state ≡ live → lob_of lobs row.lob.page ≡ Some l → AreSeen row.lob.version l.pieces
    → content lobs row ≡ Some (joined (heads l.pieces))
newest_content lobs row l is_live there all =
    ap (λ s. shown s (parts lobs row.lob)) is_live
    ∙ ap (λ o. shown live (parts_at (pieces_of o) row.lob.version)) there
    ∙ ap (shown live) (newest_parts l.pieces row.lob.version all)

pub heads_pushed : (k : ℕ) (node : Address) (v : Version) (ps : List Piece) → heads (on_piece k (pushed node v) ps) ≡ set (heads ps) k (part_of v)
heads_pushed k node v [] = refl
heads_pushed zero node v (p ∷ ps) = refl
heads_pushed (suc k) node v (p ∷ ps) = ap (λ (xs : List Part). part_of p.head ∷ xs) (heads_pushed k node v ps)

pub heads_added : (p : Piece) (ps : List Piece) → heads (ps ++ p ∷ []) ≡ heads ps ++ part_of p.head ∷ []
heads_added p [] = refl
heads_added p (q ∷ qs) = ap (λ (xs : List Part). part_of q.head ∷ xs) (heads_added p qs)
