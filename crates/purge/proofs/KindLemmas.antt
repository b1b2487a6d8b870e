-- The events of a record that frees the LOB before.
use Rattle.std.proofs.Common.{◌≡◌, ℕ, ◌<◌, Bool, true, false, List, [], ◌∷◌, Option, Some, refl, sym, ap, subst, ◌∙◌}
use Rattle.page_model.specs.Pages.{Pages, Address}
use Rattle.store_data.specs.Logs.{passed}
use Rattle.store_data.specs.Store.{removed, Piece, Lob, Log, Store}
use Rattle.undo_model.specs.Rows.{RowPage}
use Rattle.store_model.specs.Events.{with_row_pages}
use Rattle.store_model.specs.Steps.{on_lobs, without_lob}
use Rattle.store_model.specs.Undo.{on_oldest, swept}
use Rattle.store_model.proofs.WellBackLemmas.{swept_rest}
use Rattle.store_parts.specs.Stored.{row_pages}
use Rattle.row_dir.specs.declared.dir.RowDir.{RowDir}
use Rattle.row_dir.specs.Directory.{IsDirectory}
use Rattle.store_steps.specs.Lobs.{has_part, freed_part, FreesPart}
use Rattle.purge.specs.Kinds.{LobGoesBy, LobGoes, RowGone, RowGoesBy, RowGoes}
use Rattle.purge.specs.Rows.{SweepsRow}
use Rattle.store_steps.specs.Standing.{StandsOn}
use Rattle.purge.specs.Standing.{IsAt}

-- a part went
pub part_went : (there : List RowPage) (page : ℕ) (m : Lob) (store : Store) (new : Pages)
    → true ≡ has_part m.pieces m.index → FreesPart there page m store new
    → LobGoes there page m store new
part_went there page m store new some frees =
    subst (λ (b : Bool). LobGoesBy b there page m store new) some frees

pub row_part_went : (there : List RowPage) (page : ℕ) (m : Lob) (a : Address) (trx doc : ℕ)
    (dir : RowDir) (store : Store) (new : Pages) → true ≡ has_part m.pieces m.index
    → FreesPart there page m store new → IsDirectory dir there
    → RowGoes there page m a trx doc dir store new
row_part_went there page m a trx doc dir store new some frees is =
    subst (λ (b : Bool). RowGoesBy b there page m a trx doc dir store new) some (frees, is)

-- nothing was left
pub none_left : (ps : List Piece) (is : List ℕ) → false ≡ has_part ps is → (ps ≡ []) × (is ≡ [])
none_left [] [] e = (refl, refl)
none_left [] (i ∷ more) e = absurd (let x : false ≡ true = e in cc)
none_left (p ∷ more) is e = absurd (let x : false ≡ true = e in cc)

pub still_stands : (there : List RowPage) (page : ℕ) (m : Lob) (store : Store) (new : Pages)
    → false ≡ has_part m.pieces m.index → FreesPart there page m store new
    → StandsOn there new store
still_stands there page m store new none frees =
    let e = none_left m.pieces m.index none in
    subst (λ (s : Store). StandsOn there new s)
    (ap (λ (ps : List Piece). freed_part page frees.free ps m.index store) e.0
    ∙ ap (λ (is : List ℕ). freed_part page frees.free [] is store) e.1) frees.stands

-- the log of the store behind
pub at_next : (told now : Option Pages) (log : ℕ) (there after : List RowPage) (pages new : Pages)
    (store next : Store) (l : Log) (ls : List Log) → IsAt told log there pages store l ls
    → now ≡ Some new → StandsOn after new next → next.committed ≡ store.committed
    → next.commits ≡ store.commits → IsAt now log after new next l ls
at_next told now log there after pages new store next l ls at is on same count = record {
  told' = is;
  stands = on;
  first = same ∙ at.first;
  few = subst (λ (n : ℕ). n < 18_446_744_073_709_551_616) (sym count) at.few;
  page = at.page;
}

pub swept_first : (a : Address) (trx doc : ℕ) (rows : List ℕ) (store : Store)
    → ((with_row_pages rows (swept removed a trx doc store)).committed ≡ store.committed)
    × ((with_row_pages rows (swept removed a trx doc store)).commits ≡ store.commits)
swept_first a trx doc rows store = let r = swept_rest removed a trx doc store in (r.1, r.2)

pub row_went : (page : ℕ) (a : Address) (trx doc : ℕ) (dir : RowDir) (store : Store)
    (after : List RowPage) (new : Pages) → IsDirectory dir after
    → StandsOn after new (on_oldest passed (with_row_pages (row_pages after)
    (swept removed a trx doc (on_lobs (without_lob page) store))))
    → RowGone page a trx doc dir store new
row_went page a trx doc dir store after new is on =
    record { there = after; stands = on; directory = is }

pub lob_went : (there : List RowPage) (page : ℕ) (m : Lob) (store : Store) (new : Pages)
    → false ≡ has_part m.pieces m.index
    → StandsOn there new (on_oldest passed (on_lobs (without_lob page) store))
    → LobGoes there page m store new
lob_went there page m store new none on =
    subst (λ (b : Bool). LobGoesBy b there page m store new) none on

pub row_went_all : (there : List RowPage) (page : ℕ) (m : Lob) (a : Address) (trx doc : ℕ)
    (dir : RowDir) (store : Store) (new : Pages) → false ≡ has_part m.pieces m.index
    → RowGone page a trx doc dir store new → RowGoes there page m a trx doc dir store new
row_went_all there page m a trx doc dir store new none gone =
    subst (λ (b : Bool). RowGoesBy b there page m a trx doc dir store new) none gone

-- ---- a deletion, with its row swept

abbrev pub without : ℕ → Store → Store
without page store = on_lobs (without_lob page) store

abbrev pub swept_in : Address → ℕ → ℕ → ℕ → List RowPage → Store → Store
swept_in a trx doc page after store =
    with_row_pages (row_pages after) (swept removed a trx doc (without page store))

pub at_swept : (told now : Option Pages) (log : ℕ) (there : List RowPage) (pages new : Pages)
    (store : Store) (l : Log) (ls : List Log) (a : Address) (trx doc page : ℕ) (dir : RowDir)
    → IsAt told log there pages store l ls → now ≡ Some new
    → (s : SweepsRow a trx doc dir (without page store) new)
    → IsAt now log s.there new (swept_in a trx doc page s.there store) l ls
at_swept told now log there pages new store l ls a trx doc page dir at is s =
    let same = swept_first a trx doc (row_pages s.there) (without page store) in
    at_next told now log there s.there pages new store (swept_in a trx doc page s.there store) l ls at is
    s.stands same.0 same.1

pub removed_went : (there : List RowPage) (page : ℕ) (m : Lob) (a : Address) (trx t doc : ℕ)
    (dir : RowDir) (store : Store) (mid new : Pages) → false ≡ has_part m.pieces m.index → t ≡ trx
    → (s : SweepsRow a t doc dir (without page store) mid)
    → StandsOn s.there new (on_oldest passed (swept_in a t doc page s.there store))
    → RowGoes there page m a trx doc dir store new
removed_went there page m a trx t doc dir store mid new none same s gone =
    row_went_all there page m a trx doc dir store new none
    (subst (λ (n : ℕ). RowGone page a n doc dir store new) same
    (row_went page a t doc dir store s.there new s.directory gone))
