-- The planning events, and the further events of a change.
use Rattle.std.proofs.Common.{◌≡◌, ◌≢◌, inl, inr, ℕ, suc, ◌+◌, ◌<◌, List, [], ◌∷◌, ◌++◌, map, length, get_or, refl, sym, ap, ap₂, ◌∙◌, arith}
use Rattle.std.proofs.lemmas.List.{map-id}
use Rattle.store_data.specs.Pieces.{Part, part_of}
use Rattle.store_data.specs.Store.{Row, Version, Piece, Lob, Run, Body, inserted, rebuilt, versioned, patched, removed, Store}
use Rattle.store_model.specs.Runs.{all_laid, lobs_laid, piece_laid, version_laid, old_runs}
use Rattle.store_model.specs.Patches.{AreOld, IsOff, IsOffAll}
use Rattle.store_model.specs.History.{Change, Past, content, history_on, changes, committed_changes, row_before}
use Rattle.store_model.specs.Steps.{on_lob, on_lobs, at_version}
use Rattle.store_model.specs.Events.{Plan, with_change, planned, record_of, new_row, raised_row, patched_row, deleted_row, insert_begun, rebuild_begun, version_begun, patch_made, delete_made}
use Rattle.store_model.specs.Behind.{AllBefore, AllRows, SameParts, IsElsewhere}
use Rattle.store_model.specs.Moves.{MayChange, Begins, IsUnnamed, ArePaired, StandThere, AllVersions, AllPieces, IsUntouched}
use Rattle.store_model.proofs.RowLemmas.{row-with_this, row-with_other}
use Rattle.store_model.proofs.LogLemmas.{change, active-with, active-with_other}
use Rattle.store_model.proofs.LobLemmas.{parts-laid}
use Rattle.store_model.proofs.HistoryLemmas.{history-on, history-same, all-rows, same-with, same-on}
use Rattle.store_model.proofs.RunLemmas.{restores, length-all_over, all_over, all_laid-over, all_over_off}

-- ---- a change is begun

-- a begun change is the newest of its document, in front of the changes before
pub changes-own : (p : Plan) (row before : Row) (body : Body) (f : List Lob → List Lob) (store : Store) → MayChange p store
    → changes (on_lobs f (with_change p row before body store)) p.doc ≡ change p.trx p.place (record_of p before body) ∷ changes store p.doc
changes-own p row before body f store may = ap (λ cs. cs ++ committed_changes p.doc store.committed) (active-with p.trx p.doc p.place (record_of p before body) store.active may.log may.idle refl)

-- each other document keeps the changes that it had
pub changes-other : (p : Plan) (row before : Row) (body : Body) (f : List Lob → List Lob) (store : Store) (d : ℕ) → d ≢ p.doc
    → changes (on_lobs f (with_change p row before body store)) d ≡ changes store d
changes-other p row before body f store d other = ap (λ cs. cs ++ committed_changes d store.committed) (active-with_other p.trx d p.place (record_of p before body) store.active (λ e. other (sym e)))

begins : (p : Plan) (new : Row → Row) (body : Body) (f : List Lob → List Lob) (store : Store) → MayChange p store → ((row : Row) → (new row).trx ≡ p.trx)
    → history_on (lobs_laid (old_runs body) (f store.lobs)) (row_before store p.doc) (changes store p.doc) ≡ history_on store.lobs (row_before store p.doc) (changes store p.doc)
    → ((d : ℕ) → d ≢ p.doc → AllRows (SameParts store.lobs (f store.lobs)) store d)
    → Begins p store (on_lobs f (planned p new body store))
begins p new body f store may made back rest = record {
  own = history-on after.lobs (row_before after p.doc) (changes after p.doc)
      ∙ ap (history_on after.lobs (row_before after p.doc)) (changes-own p (new before) before body f store may)
      ∙ ap₂ (λ (t : ℕ) (hs : List Past). let h : Past = record { trx = t; length = (row_before after p.doc).lob.length; bytes = content after.lobs (row_before after p.doc) } in h ∷ hs)
      (ap (λ (r : Row). r.trx) (row-with_this p.doc (new before) store) ∙ made before)
      (back ∙ sym (history-on store.lobs before (changes store p.doc)));
  others = λ d other. history-on after.lobs (row_before after d) (changes after d)
      ∙ ap₂ (history_on after.lobs) (row-with_other p.doc d (new before) store other) (changes-other p (new before) before body f store d other)
      ∙ sym (history-same store.lobs after.lobs (row_before store d) (changes store d) (rest d other).0 (rest d other).1)
      ∙ sym (history-on store.lobs (row_before store d) (changes store d));
}
  where
    before : Row
    before = row_before store p.doc

    after : Store
    after = on_lobs f (planned p new body store)

-- ---- no runs, and new bytes that are taken back

pieces_none : (ps : List Piece) → map (piece_laid []) ps ≡ ps
pieces_none [] = refl
pieces_none (p ∷ ps) = ap₂ (λ (vs : List Version) (qs : List Piece). let q : Piece = record { head = p.head; older = vs } in q ∷ qs) (map-id p.older) (pieces_none ps)

-- LOBs are as they were where no runs are laid over them
pub laid_none : (lobs : List Lob) → lobs_laid [] lobs ≡ lobs
laid_none [] = refl
laid_none (l ∷ ls) = ap₂ (λ (ps : List Piece) (ms : List Lob). let m : Lob = record l { pieces = ps } in m ∷ ms) (pieces_none l.pieces) (laid_none ls)

off_paired : (os ns : List Run) (page place : ℕ) → ArePaired os ns → IsOffAll os page place → IsOffAll ns page place
off_paired [] [] page place pairs off = tt
off_paired [] (n ∷ ns) page place pairs off = absurd pairs
off_paired (o ∷ os) [] page place pairs off = absurd pairs
off_paired (o ∷ os) (n ∷ ns) page place pairs off = (by_side off.0, off_paired os ns page place pairs.3 off.1)
  where
    by_side : IsOff o page place → IsOff n page place
    by_side (inl other) = inl (λ e. other (e ∙ pairs.0))
    by_side (inr (inl before)) = inr (inl (omega (arith, pairs.1)))
    by_side (inr (inr behind)) = inr (inr (omega (arith, pairs.1, pairs.2)))

version_back : (old new : List Run) (v : Version) → ArePaired old new → AreOld old (part_of v) → version_laid old (version_laid new v) ≡ v
version_back old new v pairs there = ap (λ (x : Part). let w : Version = record v { bytes = x.bytes } in w) (restores old (part_of v) bs many there rest)
  where
    bs : List ℕ
    bs = (all_laid new (part_of v)).bytes

    over_bs : bs ≡ all_over new v.page v.at v.bytes
    over_bs = ap (λ (x : Part). x.bytes) (all_laid-over new (part_of v) v.bytes)

    many : length bs ≡ length v.bytes
    many = ap length over_bs ∙ length-all_over new v.page v.at v.bytes

    rest : (i : ℕ) → i < length v.bytes → IsOffAll old v.page (v.at + i) → get_or bs i 0 ≡ get_or v.bytes i 0
    rest i below off = ap (λ (b : List ℕ). get_or b i 0) over_bs ∙ all_over_off new v.page v.at v.bytes i below (off_paired old new v.page (v.at + i) pairs off)

versions_back : (old new : List Run) (vs : List Version) → ArePaired old new → AllVersions (λ v. AreOld old (part_of v)) vs → map (version_laid old) (map (version_laid new) vs) ≡ vs
versions_back old new [] pairs there = refl
versions_back old new (v ∷ vs) pairs there = ap₂ (λ (x : Version) (xs : List Version). x ∷ xs) (version_back old new v pairs there.0) (versions_back old new vs pairs there.1)

pieces_back : (old new : List Run) (ps : List Piece) → ArePaired old new → AllPieces (λ v. AreOld old (part_of v)) ps → map (piece_laid old) (map (piece_laid new) ps) ≡ ps
pieces_back old new [] pairs there = refl
pieces_back old new (p ∷ ps) pairs there =
    ap₂ (λ (x : Piece) (xs : List Piece). x ∷ xs)
    (ap₂ (λ (h : Version) (vs : List Version). let q : Piece = record { head = h; older = vs } in q) (version_back old new p.head pairs there.0) (versions_back old new p.older pairs there.1))
    (pieces_back old new ps pairs there.2)

-- the old bytes laid over the new ones give back the LOBs before the change in place
pub lobs_taken_back : (old new : List Run) (lobs : List Lob) → ArePaired old new → StandThere old lobs → lobs_laid old (lobs_laid new lobs) ≡ lobs
lobs_taken_back old new [] pairs there = refl
lobs_taken_back old new (l ∷ ls) pairs there =
    ap₂ (λ (ps : List Piece) (ms : List Lob). let m : Lob = record l { pieces = ps } in m ∷ ms) (pieces_back old new l.pieces pairs there.0) (lobs_taken_back old new ls pairs there.1)

-- ---- the planning events

-- what holds of every row holds of the rows behind the newest
pub all_of : (P : Row → Type 0) (cs : List Change) → ((row : Row) → P row) → AllBefore P cs
all_of P [] each = tt
all_of P (c ∷ cs) each = (each c.undo.before, all_of P cs each)

-- what follows row by row from a fact holds of all rows of a document that the fact holds of
pub rows_so : (P Q : Row → Type 0) (store : Store) (d : ℕ) → ((row : Row) → P row → Q row) → AllRows P store d → AllRows Q store d
rows_so P Q store d so all = (so (row_before store d) all.0, all-rows P Q (changes store d) so all.1)

-- what changes no part shows the same
back_by : (body : Body) (f : List Lob → List Lob) (store : Store) (d : ℕ) → old_runs body ≡ [] → AllRows (SameParts store.lobs (f store.lobs)) store d
    → history_on (lobs_laid (old_runs body) (f store.lobs)) (row_before store d) (changes store d) ≡ history_on store.lobs (row_before store d) (changes store d)
back_by body f store d none same =
    ap (λ rs. history_on (lobs_laid rs (f store.lobs)) (row_before store d) (changes store d)) none
    ∙ ap (λ ls. history_on ls (row_before store d) (changes store d)) (laid_none (f store.lobs))
    ∙ sym (history-same store.lobs (f store.lobs) (row_before store d) (changes store d) same.0 same.1)

-- an insert adds a row to its document's history and leaves the others, where its LOB is no live
-- row's, newest or older
pub insert_begins : (p : Plan) (lob : Lob) (n : ℕ) (store : Store) → MayChange p store → IsUnnamed lob.page store → Begins p store (insert_begun p lob n store)
insert_begins p lob n store may unnamed =
    let f : List Lob → List Lob = λ ls. ls ++ lob ∷ [] in
    let same : (d : ℕ) → AllRows (SameParts store.lobs (f store.lobs)) store d = λ d. rows_so (IsElsewhere lob.page) (SameParts store.lobs (f store.lobs)) store d (same-with store.lobs lob) (unnamed d) in
    begins p (new_row p lob.page n) (inserted lob.page) f store may (λ row. refl) (back_by (inserted lob.page) f store p.doc refl (same p.doc)) (λ d other. same d)

-- so does a change of kind Full, where its new LOB is no live row's
pub rebuild_begins : (p : Plan) (lob : Lob) (n : ℕ) (store : Store) → MayChange p store → IsUnnamed lob.page store → Begins p store (rebuild_begun p lob n store)
rebuild_begins p lob n store may unnamed =
    let f : List Lob → List Lob = λ ls. ls ++ lob ∷ [] in
    let same : (d : ℕ) → AllRows (SameParts store.lobs (f store.lobs)) store d = λ d. rows_so (IsElsewhere lob.page) (SameParts store.lobs (f store.lobs)) store d (same-with store.lobs lob) (unnamed d) in
    begins p (new_row p lob.page n) (rebuilt lob.page) f store may (λ row. refl) (back_by (rebuilt lob.page) f store p.doc refl (same p.doc)) (λ d other. same d)

-- so does a change of kind Versioned, which begins by raising the LOB's version alone
pub version_begins : (p : Plan) (pieces : ℕ) (touched : List ℕ) (store : Store) → MayChange p store → Begins p store (version_begun p pieces touched store)
version_begins p pieces touched store may =
    let page = (row_before store p.doc).lob.page in
    let v = at_version (suc (row_before store p.doc).lob.version) in
    let f : List Lob → List Lob = on_lob page v in
    let one : (row : Row) → SameParts store.lobs (f store.lobs) row = λ row. same-on page v store.lobs row (λ l. refl) (λ is_live here l there. refl) in
    let same : (d : ℕ) → AllRows (SameParts store.lobs (f store.lobs)) store d = λ d. (one (row_before store d), all_of (SameParts store.lobs (f store.lobs)) (changes store d) one) in
    begins p (raised_row p) (versioned pieces touched) f store may (λ row. refl) (back_by (versioned pieces touched) f store p.doc refl (same p.doc)) (λ d other. same d)

-- a row that runs don't touch has the same parts where they are laid over the LOBs
pub untouched_same : (rs : List Run) (lobs : List Lob) (row : Row) → IsUntouched rs lobs row → SameParts lobs (lobs_laid rs lobs) row
untouched_same rs lobs row untouched is_live = sym (parts-laid rs lobs row.lob ∙ untouched is_live)

-- a change in place adds a row to its document's history and leaves the others, where the old
-- bytes stood in the new ones' places and no other document's rows are touched
pub patch_begins : (p : Plan) (old new : List Run) (store : Store) → MayChange p store → ArePaired old new → StandThere old store.lobs
    → ((d : ℕ) → d ≢ p.doc → AllRows (IsUntouched new store.lobs) store d) → Begins p store (patch_made p old new store)
patch_begins p old new store may pairs there others =
    begins p (patched_row p) (patched old) (lobs_laid new) store may (λ row. refl)
    (ap (λ ls. history_on ls (row_before store p.doc) (changes store p.doc)) (lobs_taken_back old new store.lobs pairs there))
    (λ d other. rows_so (IsUntouched new store.lobs) (SameParts store.lobs (lobs_laid new store.lobs)) store d (untouched_same new store.lobs) (others d other))

-- a deletion adds a row to its document's history and leaves the others
pub delete_begins : (p : Plan) (store : Store) → MayChange p store → Begins p store (delete_made p store)
delete_begins p store may =
    let one : (row : Row) → SameParts store.lobs store.lobs row = λ row is_live. refl in
    let same : (d : ℕ) → AllRows (SameParts store.lobs store.lobs) store d = λ d. (one (row_before store d), all_of (SameParts store.lobs store.lobs) (changes store d) one) in
    begins p (deleted_row p) removed (λ ls. ls) store may (λ row. refl) (back_by removed (λ ls. ls) store p.doc refl (same p.doc)) (λ d other. same d)
