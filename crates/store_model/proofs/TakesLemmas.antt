-- How owned pages move where a change is begun, and where one LOB changes.
use Rattle.std.proofs.Common.{◌≡◌, ◌≢◌, inl, inr, ℕ, zero, suc, ◌+◌, Bool, true, false, ◌==◌, if◌then◌else◌, List, [], ◌∷◌, ◌++◌, map, Option, Some, None, refl, sym, ap, ap₂, ◌∙◌, arith}
use Rattle.std.proofs.lemmas.Bool.{eq-eqb}
use Rattle.std.proofs.lemmas.Bool.Decides.{eqb_tells}
use Rattle.page_model.specs.Counts.{times}
use Rattle.store_data.specs.Store.{RowState, absent, live, deleted, Row, Version, Piece, Lob, Run, Body, inserted, rebuilt, versioned, patched, removed, Store, AreRising}
use Rattle.store_model.specs.Lobs.{lob_of}
use Rattle.store_model.specs.Runs.{lobs_laid, lob_laid, piece_laid, version_laid}
use Rattle.store_model.specs.History.{row_before}
use Rattle.store_model.specs.Steps.{on_lob, on_lobs, on_piece, at_version}
use Rattle.store_model.specs.Events.{Plan, planned, record_of, new_row, raised_row, patched_row, deleted_row, insert_begun, rebuild_begun, version_begun, patch_made, delete_made}
use Rattle.store_model.specs.Moves.{MayChange}
use Rattle.store_model.specs.Owned.{owned_if, row_lobs, owned_by, log_lobs, owned_lobs, data_page, data_pages, piece_pages, rest_of, lob_pages, log_pages, owned, IsNotAmong, AreDifferent, AreSound, IsAmong}
use Rattle.store_model.specs.Takes.{Takes, piece_of}
use Rattle.store_model.proofs.LogLemmas.{Some_same, None_not_Some}
use Rattle.store_model.proofs.LobLemmas.{lob-with_other}
use Rattle.store_model.proofs.CountLemmas.{sum_of, sum-append, sum_same, sum_on, weight, times-lob_pages}
use Rattle.page_model.proofs.CountLemmas.{times-append}
use Rattle.store_model.proofs.TakeLemmas.{owned_row, put_sum, with_record_sum, with_record_pages}
use Rattle.store_model.proofs.OwnedLemmas.{lobs_owned}
use Rattle.store_model.proofs.SoundLemmas.{sound_lobs}

-- ---- what is owned, in parts

-- how often a page is owned apart from LOBs: as page 0, by the rows, and by undo logs
abbrev pub fixed : ℕ → Store → ℕ
fixed n store = times n (0 ∷ store.row_pages) + (times n (log_pages store.active) + times n (log_pages store.committed))

-- a page is owned as often as apart from LOBs, and in each owned LOB
pub owned_total : (n : ℕ) (store : Store) → times n (owned store) ≡ fixed n store + sum_of (weight store.lobs n) (owned_lobs store)
owned_total n store =
    let a = times-append n (0 ∷ store.row_pages) (log_pages store.active ++ (log_pages store.committed ++ lob_pages store.lobs (owned_lobs store))) in
    let b = times-append n (log_pages store.active) (log_pages store.committed ++ lob_pages store.lobs (owned_lobs store)) in
    let c = times-append n (log_pages store.committed) (lob_pages store.lobs (owned_lobs store)) in
    let d = times-lob_pages n store.lobs (owned_lobs store) in omega (arith, a, b, c, d)

-- a sum over the owned LOBs is that over those of rows, of active and of committed logs
pub lobs_total : (w : ℕ → ℕ) (store : Store) → sum_of w (owned_lobs store) ≡ sum_of w (row_lobs store.rows) + (sum_of w (log_lobs store.active) + sum_of w (log_lobs store.committed))
lobs_total w store = let a = sum-append w (row_lobs store.rows) (log_lobs store.active ++ log_lobs store.committed) in let b = sum-append w (log_lobs store.active) (log_lobs store.committed) in omega (arith, a, b)

-- ---- a change is begun

planned_counts : (n : ℕ) (p : Plan) (new : Row → Row) (body : Body) (f : List Lob → List Lob) (store : Store) → AreRising store.rows → MayChange p store
    → ((q : ℕ) → IsAmong q (owned_lobs store) → weight (f store.lobs) n q ≡ weight store.lobs n q)
    → times n (owned (on_lobs f (planned p new body store))) + sum_of (weight (f store.lobs) n) (owned_row (row_before store p.doc))
    ≡ times n (owned store) + (sum_of (weight (f store.lobs) n) (owned_row (new (row_before store p.doc))) + sum_of (weight (f store.lobs) n) (owned_by body (row_before store p.doc)))
planned_counts n p new body f store rising may same =
    let w = weight (f store.lobs) n in
    let after = on_lobs f (planned p new body store) in
    let u = record_of p (row_before store p.doc) body in
    let a = owned_total n after in
    let b = owned_total n store in
    let c = lobs_total w after in
    let d = lobs_total w store in
    let e = sum_same w (weight store.lobs n) (owned_lobs store) same in
    let g = put_sum w p.doc (new (row_before store p.doc)) store.rows rising in
    let h = with_record_sum w p.trx p.place u store.active may.log in
    let i : times n (log_pages after.active) ≡ times n (log_pages store.active) = ap (times n) (with_record_pages p.trx p.place u store.active) in
    omega (arith, a, b, c, d, e, g, h, i)

-- a row that isn't live owns no LOB
pub owned_unlive : (r : Row) → r.state ≢ live → owned_row r ≡ []
owned_unlive r other = by_state r.state refl
  where
    by_state : (s : RowState) → r.state ≡ s → owned_if s r.lob.page ≡ []
    by_state absent e = refl
    by_state live e = absurd (other e)
    by_state deleted e = refl

-- a live row owns its LOB
pub owned_live : (r : Row) → r.state ≡ live → owned_row r ≡ r.lob.page ∷ []
owned_live r e = ap (λ s. owned_if s r.lob.page) e

-- a LOB that is added where none began is the one that is found by its first page
pub lob-with_this : (lobs : List Lob) (l : Lob) → lob_of lobs l.page ≡ None → lob_of (lobs ++ l ∷ []) l.page ≡ Some l
lob-with_this [] l none = rw (eq-eqb l.page l.page refl) refl
lob-with_this (m ∷ ms) l none = elim (eqb_tells m.page l.page) [
  | inl same ↦ absurd (None_not_Some (sym none ∙ ap (λ (b : Bool). if b then Some m else lob_of ms l.page) same.0))
  | inr other ↦ rw other.0 (lob-with_this ms l (sym (ap (λ (b : Bool). if b then Some m else lob_of ms l.page) other.0) ∙ none))
]

not_this : (q page : ℕ) (ps : List ℕ) → IsAmong q ps → IsNotAmong page ps → q ≢ page
not_this q page [] there none = absurd there
not_this q page (p ∷ ps) there none = elim there [ inl same ↦ λ e. none.0 (same ∙ e) | inr rest ↦ not_this q page ps rest none.1 ]

with_weight : (n : ℕ) (lobs : List Lob) (l : Lob) (ps : List ℕ) → IsNotAmong l.page ps → (q : ℕ) → IsAmong q ps → weight (lobs ++ l ∷ []) n q ≡ weight lobs n q
with_weight n lobs l ps none q there = ap (λ (o : Option Lob). times n (q ∷ rest_of o)) (lob-with_other q lobs l (not_this q l.page ps there none))

new_weight : (n : ℕ) (lobs : List Lob) (l : Lob) → lob_of lobs l.page ≡ None → weight (lobs ++ l ∷ []) n l.page ≡ times n (l.page ∷ rest_of (Some l))
new_weight n lobs l none = ap (λ (o : Option Lob). times n (l.page ∷ rest_of o)) (lob-with_this lobs l none)

-- an insert takes the pages of its LOB, which is owned by none and new, for a row that isn't live
pub insert_takes : (p : Plan) (lob : Lob) (len : ℕ) (store : Store) → AreRising store.rows → MayChange p store → IsNotAmong lob.page (owned_lobs store) → lob_of store.lobs lob.page ≡ None
    → (row_before store p.doc).state ≢ live → Takes (lob.page ∷ rest_of (Some lob)) store (insert_begun p lob len store)
insert_takes p lob len store rising may fresh none before n =
    let w = weight (store.lobs ++ lob ∷ []) n in
    let a = planned_counts n p (new_row p lob.page len) (inserted lob.page) (λ ls. ls ++ lob ∷ []) store rising may (with_weight n store.lobs lob (owned_lobs store) fresh) in
    let b : sum_of w (owned_row (row_before store p.doc)) ≡ 0 = ap (sum_of w) (owned_unlive (row_before store p.doc) before) in
    let c = new_weight n store.lobs lob none in omega (arith, a, b, c)

-- so does a change of kind Full, for a live row, whose old LOB the record owns from then on
pub rebuild_takes : (p : Plan) (lob : Lob) (len : ℕ) (store : Store) → AreRising store.rows → MayChange p store → IsNotAmong lob.page (owned_lobs store) → lob_of store.lobs lob.page ≡ None
    → (row_before store p.doc).state ≡ live → Takes (lob.page ∷ rest_of (Some lob)) store (rebuild_begun p lob len store)
rebuild_takes p lob len store rising may fresh none before n =
    let w = weight (store.lobs ++ lob ∷ []) n in
    let a = planned_counts n p (new_row p lob.page len) (rebuilt lob.page) (λ ls. ls ++ lob ∷ []) store rising may (with_weight n store.lobs lob (owned_lobs store) fresh) in
    let b : sum_of w (owned_row (row_before store p.doc)) ≡ sum_of w ((row_before store p.doc).lob.page ∷ []) = ap (sum_of w) (owned_live (row_before store p.doc) before) in
    let c = new_weight n store.lobs lob none in omega (arith, a, b, c)

-- each LOB has the pages that it had, where one changes and keeps its own
pub rest_on : (page : ℕ) (f : Lob → Lob) (lobs : List Lob) (q : ℕ) → ((l : Lob) → (f l).page ≡ l.page) → ((l : Lob) → rest_of (Some (f l)) ≡ rest_of (Some l)) → rest_of (lob_of (on_lob page f lobs) q) ≡ rest_of (lob_of lobs q)
rest_on page f [] q same rest = refl
rest_on page f (l ∷ ls) q same rest = elim (eqb_tells l.page page) [
  | inl here ↦ rw here.0 (ap (λ (m : ℕ). rest_of (if m == q then Some (f l) else lob_of ls q)) (same l) ∙ by_here (l.page == q))
  | inr there ↦ rw there.0 (by_there (l.page == q) (rest_on page f ls q same rest))
]
  where
    by_here : (b : Bool) → rest_of (if b then Some (f l) else lob_of ls q) ≡ rest_of (if b then Some l else lob_of ls q)
    by_here true = rest l
    by_here false = refl

    by_there : (b : Bool) → rest_of (lob_of (on_lob page f ls) q) ≡ rest_of (lob_of ls q) → rest_of (if b then Some l else lob_of (on_lob page f ls) q) ≡ rest_of (if b then Some l else lob_of ls q)
    by_there true more = refl
    by_there false more = more

-- a change that leaves the row its LOB takes none
pub version_takes : (p : Plan) (pieces : ℕ) (touched : List ℕ) (store : Store) → AreRising store.rows → MayChange p store → (row_before store p.doc).state ≡ live
    → Takes [] store (version_begun p pieces touched store)
version_takes p pieces touched store rising may before n =
    let f : List Lob → List Lob = on_lob (row_before store p.doc).lob.page (at_version (suc (row_before store p.doc).lob.version)) in
    let w = weight (f store.lobs) n in
    let a = planned_counts n p (raised_row p) (versioned pieces touched) f store rising may
    (λ q there. ap (λ ps. times n (q ∷ ps)) (rest_on (row_before store p.doc).lob.page (at_version (suc (row_before store p.doc).lob.version)) store.lobs q (λ l. refl) (λ l. refl))) in
    let b : sum_of w (owned_row (row_before store p.doc)) ≡ sum_of w ((row_before store p.doc).lob.page ∷ []) = ap (sum_of w) (owned_live (row_before store p.doc) before) in
    let c : sum_of w (owned_row (raised_row p (row_before store p.doc))) ≡ sum_of w ((row_before store p.doc).lob.page ∷ []) = ap (sum_of w) (owned_live (raised_row p (row_before store p.doc)) before) in omega (arith, a, b, c)

data_laid : (rs : List Run) (first : ℕ) (vs : List Version) → data_pages first (map (version_laid rs) vs) ≡ data_pages first vs
data_laid rs first [] = refl
data_laid rs first (v ∷ vs) = ap (λ ps. data_page first v ++ ps) (data_laid rs first vs)

pieces_laid : (rs : List Run) (first : ℕ) (ps : List Piece) → piece_pages first (map (piece_laid rs) ps) ≡ piece_pages first ps
pieces_laid rs first [] = refl
pieces_laid rs first (p ∷ ps) = ap₂ (λ xs ys. (data_page first p.head ++ xs) ++ ys) (data_laid rs first p.older) (pieces_laid rs first ps)

-- runs laid over LOBs leave the pages of each
pub rest_laid : (rs : List Run) (lobs : List Lob) (q : ℕ) → rest_of (lob_of (lobs_laid rs lobs) q) ≡ rest_of (lob_of lobs q)
rest_laid rs [] q = refl
rest_laid rs (l ∷ ls) q = by_test (l.page == q) (rest_laid rs ls q)
  where
    by_test : (b : Bool) → rest_of (lob_of (lobs_laid rs ls) q) ≡ rest_of (lob_of ls q) → rest_of (if b then Some (lob_laid rs l) else lob_of (lobs_laid rs ls) q) ≡ rest_of (if b then Some l else lob_of ls q)
    by_test true rest = ap (λ ps. l.index ++ ps) (pieces_laid rs l.page l.pieces)
    by_test false rest = rest

-- a change in place of a live row takes no page
pub patch_takes : (p : Plan) (old new : List Run) (store : Store) → AreRising store.rows → MayChange p store → (row_before store p.doc).state ≡ live → Takes [] store (patch_made p old new store)
patch_takes p old new store rising may before n =
    let w = weight (lobs_laid new store.lobs) n in
    let a = planned_counts n p (patched_row p) (patched old) (lobs_laid new) store rising may (λ q there. ap (λ ps. times n (q ∷ ps)) (rest_laid new store.lobs q)) in
    let b : sum_of w (owned_row (row_before store p.doc)) ≡ sum_of w ((row_before store p.doc).lob.page ∷ []) = ap (sum_of w) (owned_live (row_before store p.doc) before) in
    let c : sum_of w (owned_row (patched_row p (row_before store p.doc))) ≡ sum_of w ((row_before store p.doc).lob.page ∷ []) = ap (sum_of w) (owned_live (patched_row p (row_before store p.doc)) before) in omega (arith, a, b, c)

-- nor does the deletion of a live row, whose LOB the record owns from then on
pub delete_takes : (p : Plan) (store : Store) → AreRising store.rows → MayChange p store → (row_before store p.doc).state ≡ live → Takes [] store (delete_made p store)
delete_takes p store rising may before n =
    let w = weight store.lobs n in
    let a = planned_counts n p (deleted_row p) removed (λ ls. ls) store rising may (λ q there. refl) in
    let b : sum_of w (owned_row (row_before store p.doc)) ≡ sum_of w ((row_before store p.doc).lob.page ∷ []) = ap (sum_of w) (owned_live (row_before store p.doc) before) in omega (arith, a, b)

-- ---- one LOB changes

-- LOBs that have no page twice among all theirs have different first pages
pub different_lobs : (lobs : List Lob) (ps : List ℕ) → AreDifferent (lob_pages lobs ps) → AreDifferent ps
different_lobs lobs [] all = tt
different_lobs lobs (p ∷ ps) all = (lobs_owned p lobs ps (not_behind p (rest_of (lob_of lobs p)) (lob_pages lobs ps) all.0), different_lobs lobs ps (different_rest (rest_of (lob_of lobs p)) (lob_pages lobs ps) all.1))
  where
    not_behind : (n : ℕ) (xs ys : List ℕ) → IsNotAmong n (xs ++ ys) → IsNotAmong n ys
    not_behind n [] ys none = none
    not_behind n (x ∷ xs) ys none = not_behind n xs ys none.1

    different_rest : (xs ys : List ℕ) → AreDifferent (xs ++ ys) → AreDifferent ys
    different_rest [] ys all = all
    different_rest (x ∷ xs) ys all = different_rest xs ys all.1

-- where one owned LOB changes, how often a page is owned moves just as among the LOB's own pages
pub lob_moves : (page : ℕ) (f : Lob → Lob) (l : Lob) (store : Store) (n : ℕ) → AreSound store → ((m : Lob) → (f m).page ≡ m.page) → lob_of store.lobs page ≡ Some l → IsAmong page (owned_lobs store)
    → times n (owned (on_lobs (on_lob page f) store)) + times n (rest_of (Some l)) ≡ times n (owned store) + times n (rest_of (Some (f l)))
lob_moves page f l store n sound same there among =
    let a = owned_total n (on_lobs (on_lob page f) store) in
    let b = owned_total n store in
    let c = sum_on n page f store.lobs l (owned_lobs store) same there (different_lobs store.lobs (owned_lobs store) (sound_lobs store sound)) among in omega (arith, a, b, c)

-- of which one piece
pub piece_moves : (k n first : ℕ) (f : Piece → Piece) (ps : List Piece) (p : Piece) → piece_of k ps ≡ Some p
    → times n (piece_pages first (on_piece k f ps)) + times n (data_pages first (p.head ∷ p.older)) ≡ times n (piece_pages first ps) + times n (data_pages first ((f p).head ∷ (f p).older))
piece_moves k n first f [] p there = absurd (None_not_Some there)
piece_moves zero n first f (q ∷ qs) p there =
    let same : q ≡ p = Some_same q p there in
    let a = times-append n (data_pages first ((f q).head ∷ (f q).older)) (piece_pages first qs) in
    let b = times-append n (data_pages first (q.head ∷ q.older)) (piece_pages first qs) in
    let c : times n (data_pages first (q.head ∷ q.older)) ≡ times n (data_pages first (p.head ∷ p.older)) = ap (λ (x : Piece). times n (data_pages first (x.head ∷ x.older))) same in
    let d : times n (data_pages first ((f q).head ∷ (f q).older)) ≡ times n (data_pages first ((f p).head ∷ (f p).older)) = ap (λ (x : Piece). times n (data_pages first ((f x).head ∷ (f x).older))) same in omega (arith, a, b, c, d)
piece_moves (suc k) n first f (q ∷ qs) p there =
    let r = piece_moves k n first f qs p there in
    let a = times-append n (data_pages first (q.head ∷ q.older)) (piece_pages first (on_piece k f qs)) in
    let b = times-append n (data_pages first (q.head ∷ q.older)) (piece_pages first qs) in omega (arith, r, a, b)
