-- A further piece of a LOB of a store.
use Rattle.std.proofs.Common.{◌≡◌, ℕ, ◌≤◌, List, [], ◌∷◌, ◌++◌, length, Some, refl, arith, lit≤}
use Rattle.page_model.specs.Pages.{Pages, Address}
use Rattle.page_model.proofs.CountLemmas.{times-append}
use Rattle.page_space.specs.Map.{free_of}
use Rattle.store_data.specs.Store.{Version, Piece, Lob, Store}
use Rattle.undo_model.specs.Rows.{RowPage}
use Rattle.lob_index.specs.Taking.{index_taken}
use Rattle.lob_bytes.specs.Growth.{CanAddPiece, AddsPiece, first_version, data_page, data_taken}
use Rattle.store_model.specs.Lobs.{lob_of}
use Rattle.store_model.specs.Steps.{with_nodes, with_piece}
use Rattle.store_model.specs.Events.{piece_added}
use Rattle.store_model.specs.Owned.{data_pages}
use Rattle.store_model.specs.Takes.{Takes}
use Rattle.store_model.specs.Consistent.{IsConsistent}
use Rattle.store_model.proofs.HeldLemmas.{lob_lobs}
use Rattle.store_model.proofs.SoundMoves.{add_counts}
use Rattle.store_model.proofs.ConsistentLemmas.{add_consistent}
use Rattle.store_steps.specs.Standing.{StandsOn}
use Rattle.store_steps.proofs.LobLemmas.{LobAt, lob_at}
use Rattle.store_steps.proofs.TakenLemmas.{sound_at, taken_apart}
use Rattle.store_model.proofs.ThereLemmas.{lob_is_owned}
use Rattle.lob_changes.specs.Adding.{CanGrow, one_piece, Adds}

-- a piece takes two pages at most
two_taken : (ps : List Piece) (free : List Address)
    → length (data_taken 0 ps ++ index_taken 0 free) ≤ 2
two_taken [] [] = lit≤ tt
two_taken [] (a ∷ more) = lit≤ tt
two_taken (p ∷ ps) [] = lit≤ tt
two_taken (p ∷ ps) (a ∷ more) = lit≤ tt

module _ (there : List RowPage) (pages : Pages) (store : Store) (page : ℕ) (m : Lob)
    (on : StandsOn there pages store) (found : lob_of store.lobs page ≡ Some m) where
  abbrev at : LobAt there pages store page m
  at = lob_at there pages store page m on found

  pub page_is : m.page ≡ page
  page_is = at.here

  pub can_add : (bytes : List ℕ) (reserved : ℕ) → CanGrow bytes m → 2 ≤ reserved
      → reserved ≤ free_of pages → CanAddPiece reserved bytes pages m
  can_add bytes reserved can two covered = record {
    lob' = at.stands;
    building = can.building;
    begun = can.begun;
    few = can.few;
    more = can.more;
    next = can.next;
    map = at.map;
    used = at.used;
    reserve = (let t = two_taken m.pieces m.free in omega (arith, t, two));
    covered = covered;
  }

  module _ (all : IsConsistent store) (trx r r' : ℕ) (bytes : List ℕ) (new : Pages)
      (a : AddsPiece m trx bytes r r' pages new) (begun : 1 ≤ m.version) where
    abbrev x : Version
    x = first_version m.page a.node (data_page m.page a.page m.pieces) trx bytes

    abbrev taken : List ℕ
    taken = index_taken a.index m.free

    abbrev after : Store
    after = piece_added page (one_piece x) (taken ++ m.index) a.rest store

    stands : StandsOn there new after
    stands = at.changed new (λ l. with_nodes (taken ++ m.index) a.rest (with_piece (one_piece x) l))
        a.lob' a.keeps

    takes : Takes (taken ++ data_pages m.page (x ∷ [])) store after
    takes n =
        let among = lob_is_owned store page m all found in
        let c = add_counts page m store all.sound found among (one_piece x)
        (taken ++ m.index) a.rest n in
        let i = times-append n taken m.index in
        let d = times-append n taken (data_pages m.page (x ∷ [])) in omega (arith, c, i, d)

    pub piece_adds : Adds there trx bytes page m store new
    piece_adds =
        let among = lob_is_owned store page m all found in
        let has = lob_lobs page (λ l. with_nodes (taken ++ m.index) a.rest (with_piece
        (one_piece x) l))
        store (λ l. refl) all.lobs in
        let apart = taken_apart (taken ++ data_pages m.page (x ∷ [])) store after
        (sound_at new after stands.is has) takes in
        record {
          node = a.node;
          on = data_page m.page a.page m.pieces;
          taken = taken;
          free = a.rest;
          stands = stands;
          consistent = add_consistent page m store all found among (one_piece x) taken a.rest
              (begun, tt) apart.0 apart.1;
          up_to = (begun, tt);
          different = apart.0;
          unowned = apart.1;
          building = a.building;
          few = a.few;
        }

    pub still_covered : r ≤ free_of pages → r' ≤ free_of new
    still_covered covered =
        let f = a.takes.fewer in let s = a.spent in omega (arith, f, s, covered)
