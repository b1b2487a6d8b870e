-- A version of a piece pushed in a LOB of a store.
use Rattle.std.proofs.Common.{◌≡◌, ℕ, zero, suc, ◌≤◌, List, [], ◌∷◌, ◌++◌, length, Option, Some, None, refl, sym, ap, subst, ◌∙◌, arith}
use Rattle.std.proofs.lemmas.List.{length-append}
use Rattle.page_model.specs.Pages.{Pages, Address}
use Rattle.page_model.proofs.CountLemmas.{times-append}
use Rattle.page_space.specs.Map.{free_of}
use Rattle.store_data.specs.Pieces.{pushed}
use Rattle.store_data.specs.Store.{Version, Piece, Lob, Store}
use Rattle.lob_model.specs.Changes.{with_pieces}
use Rattle.lob_model.specs.Lobs.{IsLob, lob_pages}
use Rattle.lob_index.specs.Taking.{index_taken}
use Rattle.lob_index.specs.Use.{AreUsed}
use Rattle.lob_versions.specs.Pushes.{new_version}
use Rattle.lob_versions.specs.Pushings.{CanPush, PushesVersion}
use Rattle.lob_versions.specs.Versions.{HasPiece}
use Rattle.undo_model.specs.Rows.{RowPage}
use Rattle.store_model.specs.Steps.{on_piece, at_piece, with_nodes}
use Rattle.store_model.specs.Events.{version_pushed}
use Rattle.store_model.specs.Owned.{owned_lobs, data_page, IsAmong, AreSound}
use Rattle.store_model.specs.Takes.{piece_of, Takes}
use Rattle.store_model.proofs.HeldLemmas.{lob_lobs}
use Rattle.store_model.proofs.SoundMoves.{push_counts}
use Rattle.store_model.proofs.ConsistentLemmas.{push_consistent}
use Rattle.store_pages.proofs.PushStoreLemmas.{on_piece_at}
use Rattle.store_parts.specs.Keeps.{Keeps}
use Rattle.store_steps.specs.Standing.{StandsOn}
use Rattle.store_steps.proofs.LobLemmas.{LobAt, lob_at}
use Rattle.transactions.specs.Standing.{IsAt}
use Rattle.lob_updates.specs.Pushes.{CanPush as CanPushPiece, PushesPiece}
use Rattle.store_steps.proofs.TakenLemmas.{sound_at, taken_apart}
use Rattle.store_model.proofs.ThereLemmas.{lob_is_owned}

-- ---- the k-th piece

pub record Cut (k : ℕ) (ps : List Piece) (p : Piece) : Type 0 where
  pub before : List Piece
  pub behind : List Piece
  pub is : ps ≡ before ++ p ∷ behind
  pub many : length before ≡ k

same_piece : (a b : Piece) → Some a ≡ Some b → a ≡ b
same_piece a b e = cc e

none_some : (p : Piece) → None ≡ Some p → ⊥
none_some p e = cc

pub cut_at : (k : ℕ) (ps : List Piece) (p : Piece) → piece_of k ps ≡ Some p → Cut k ps p
cut_at k [] p is = absurd (none_some p is)
cut_at zero (q ∷ qs) p is = record {
  before = [];
  behind = qs;
  is = ap (λ (x : Piece). x ∷ qs) (same_piece q p is);
  many = refl;
}
cut_at (suc k) (q ∷ qs) p is =
    let r = cut_at k qs p is in
    record {
      before = q ∷ r.before;
      behind = r.behind;
      is = ap (λ (xs : List Piece). q ∷ xs) r.is;
      many = ap suc r.many;
    }

-- ---- what the push asks for, and what it leaves

module _ (told : Option Pages) (there : List RowPage) (pages : Pages) (store : Store) (page v k : ℕ)
    (head : Address) (bytes : List ℕ) (l : Lob) (reserved : ℕ)
    (at : IsAt told there pages store) (covered : reserved ≤ free_of pages)
    (can : CanPushPiece page v k head bytes l reserved store) where
  abbrev pub cut : Cut k l.pieces can.piece
  cut = cut_at k l.pieces can.piece can.kth

  lob_there : LobAt there pages store page l
  lob_there = lob_at there pages store page l at.stands can.found

  pub has_piece : HasPiece told page head pages l cut.before can.piece cut.behind
  has_piece = record {
    told' = at.told';
    lob' = subst (λ (qs : List Piece). IsLob pages (with_pieces l qs)) cut.is lob_there.stands;
    first' = lob_there.here;
    head' = can.head';
    map' = lob_there.map;
    used = subst (λ (qs : List Piece). AreUsed pages (lob_pages (with_pieces l qs))) cut.is
        lob_there.used;
  }

  pub can_push : CanPush reserved pages l can.piece v bytes
  can_push = record {
    reserve = can.reserve;
    covered = covered;
    newer = can.older;
    known = (let e = can.version in omega (arith, e));
    long = can.long;
  }

  module _ (trx reserved' : ℕ) (new : Pages)
      (made : PushesVersion l cut.before can.piece cut.behind head v trx bytes reserved reserved'
      pages new) where
    abbrev x : Version
    x = new_version head made.page v trx bytes

    abbrev taken : List ℕ
    taken = index_taken made.index l.free

    abbrev after : Store
    after = version_pushed page k made.node x (taken ++ l.index) made.rest store

    moved : on_piece k (pushed made.node x) l.pieces
        ≡ cut.before ++ pushed made.node x can.piece ∷ cut.behind
    moved = ap (on_piece k (pushed made.node x)) cut.is
        ∙ ap (λ (n : ℕ). on_piece n (pushed made.node x) (cut.before ++ can.piece ∷ cut.behind))
        (sym cut.many)
        ∙ on_piece_at (pushed made.node x) cut.before can.piece cut.behind

    abbrev with_parts : List Piece → Lob
    with_parts qs = record (with_nodes (taken ++ l.index) made.rest l) { pieces = qs }

    stands : StandsOn there new after
    stands = lob_there.changed new
        (λ m. with_nodes (taken ++ l.index) made.rest (at_piece k (pushed made.node x) m))
        (subst (λ (qs : List Piece). IsLob new (with_parts qs)) (sym moved) made.lob')
        (subst (λ (qs : List Piece). Keeps [] (lob_pages (with_pieces l qs))
        (lob_pages (with_parts (on_piece k (pushed made.node x) l.pieces))) pages new) (sym cut.is)
        (subst (λ (qs : List Piece). Keeps []
        (lob_pages (with_pieces l (cut.before ++ can.piece ∷ cut.behind)))
        (lob_pages (with_parts qs)) pages new) (sym moved) made.keeps))

    owned' : IsAmong page (owned_lobs store)
    owned' = lob_is_owned store page l at.consistent can.found

    sound : AreSound after
    sound = sound_at new after (let s = stands in s.is)
        (lob_lobs page
        (λ m. with_nodes (taken ++ l.index) made.rest (at_piece k (pushed made.node x) m)) store
        (λ m. refl) (let c = at.consistent in c.lobs))

    takes : Takes (taken ++ data_page l.page x) store after
    takes n =
        let a = push_counts page l store (let c = at.consistent in c.sound) can.found owned' k
        can.piece made.node x (taken ++ l.index) made.rest n can.kth in
        let b = times-append n taken l.index in
        let c = times-append n taken (data_page l.page x) in
        omega (arith, a, b, c)

    pub pushes_piece : PushesPiece there page v k trx head bytes l reserved reserved' store new
    pushes_piece =
        let apart = taken_apart (taken ++ data_page l.page x) store after sound takes in
        record {
          data' = made.page;
          taken = taken;
          node = made.node;
          free = made.rest;
          stands = stands;
          consistent = push_consistent page l store at.consistent can.found owned' k can.piece
              made.node x taken made.rest can.kth (let e = can.version in omega (arith, e))
              apart.0 apart.1;
          different = apart.0;
          unowned = apart.1;
          spent = made.spent;
          covered = (let s = made.spent in
              let t = made.takes in
              let f = t.fewer in
              let n = length-append taken (made.page ∷ []) in
              omega (arith, s, f, n, covered));
        }
