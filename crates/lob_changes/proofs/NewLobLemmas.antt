-- A LOB begun beside a store, with its first piece.
use Rattle.std.proofs.Common.{◌≡◌, ◌≢◌, ℕ, ◌≤◌, ◌==◌, Bool, if◌then◌else◌, List, [], ◌∷◌, ◌++◌, length, Some, refl, sym, ap, subst, ◌∙◌, arith, lit≤}
use Rattle.std.proofs.lemmas.Bool.{eq-eqb, ne_eqb}
use Rattle.page_model.specs.Pages.{Pages}
use Rattle.page_model.specs.Counts.{one_if, times}
use Rattle.page_space.specs.Map.{free_of}
use Rattle.store_data.specs.Store.{Lob, Store}
use Rattle.undo_model.specs.Rows.{RowPage}
use Rattle.undo_logs.proofs.OpenLemmas.{free_other}
use Rattle.page_model.proofs.CountLemmas.{times_here}
use Rattle.lob_model.specs.Places.{first_entries}
use Rattle.lob_model.specs.Begin.{begun}
use Rattle.lob_model.specs.Lobs.{lob_pages}
use Rattle.lob_index.specs.Taking.{index_taken}
use Rattle.lob_index.specs.Use.{AreUsed}
use Rattle.lob_bytes.specs.Begin.{CanTakePage, BeginsLob}
use Rattle.lob_bytes.specs.Growth.{CanAddPiece, AddsPiece, grown, first_version}
use Rattle.store_model.specs.Steps.{on_lobs}
use Rattle.store_model.specs.Owned.{rest_of, AreDifferent}
use Rattle.store_model.specs.Takes.{AreUnowned}
use Rattle.store_model.specs.Consistent.{IsConsistent}
use Rattle.store_parts.specs.Shows.{IsStore}
use Rattle.store_parts.specs.Keeps.{Keeps}
use Rattle.store_parts.proofs.KeepLemmas.{keeps_then}
use Rattle.store_pages.proofs.LobStoreLemmas.{lob_begun, begun_rows}
use Rattle.store_steps.specs.Standing.{StandsOn}
use Rattle.transactions.proofs.BeginLemmas.{can_begin, free_unowned}
use Rattle.transactions.proofs.StandLemmas.{stays_on}
use Rattle.lob_changes.specs.NewLobs.{MakesLob}

pub can_take : (pages : Pages) (store : Store) (reserved : ℕ) → IsStore pages store
    → reserved ≤ free_of pages → CanTakePage reserved pages
can_take pages store reserved is covered =
    let b = can_begin pages store is in
    record { map = b.map; system = b.system; covered = covered }

none_taken : (index page : ℕ) → index_taken index (first_entries page) ≡ []
none_taken index page = refl

module _ (there : List RowPage) (pages mid : Pages) (store : Store) (page trx r0 r1 : ℕ)
    (bytes : List ℕ) (on : StandsOn there pages store) (b : BeginsLob page trx r0 r1 pages mid)
    (covered : r0 ≤ free_of pages) where
  other : page ≢ 0
  other =
      let begin = can_begin pages store on.is in
      free_other pages page 0 (b.takes.free page (times_here page [])) begin.system

  none : times 0 (page ∷ []) ≡ 0
  none = let e : one_if (page == 0) ≡ 0 = ap one_if (ne_eqb page 0 other) in omega (arith, e)

  used : AreUsed mid (page ∷ [])
  used =
      let begin = can_begin pages store on.is in
      record {
        system = b.takes.others 0 none ∙ begin.system;
        other = none;
        each = b.takes.used;
      }

  pub can_add : length bytes ≤ 15_680 → CanAddPiece r1 bytes mid (begun page)
  can_add short = record {
    lob' = b.lob';
    building = b.building;
    begun = lit≤ tt;
    few = lit≤ tt;
    more = lit≤ tt;
    next = short;
    map = b.takes.map;
    used = used;
    reserve = omega arith;
    covered = (let f = b.takes.fewer in let s = b.spent in omega (arith, f, s, covered));
  }

  module _ (new : Pages) (r2 : ℕ) (all : IsConsistent store)
      (a : AddsPiece (begun page) trx bytes r1 r2 mid new) where
    abbrev lob : Lob
    lob = grown (begun page) a.index a.rest (first_version page a.node page trx bytes)

    -- its data stand in its first page
    alone : rest_of (Some lob) ≡ []
    alone = ap (λ (t : Bool). ((if t then [] else page ∷ []) ++ []) ++ []) (eq-eqb page page refl)

    pub lob_made : MakesLob there page trx bytes r0 r2 store new
    lob_made =
        let keeps : Keeps [] [] (lob_pages lob) pages new =
        keeps_then [] [] (lob_pages (begun page)) (lob_pages lob) pages mid new b.keeps a.keeps in
        record {
          lob = lob;
          fresh = record {
            page_is = refl;
            version = refl;
            node = a.node;
            pieces = refl;
            index = refl;
            up_to = ((lit≤ tt, tt), tt);
            different = subst (λ (ns : List ℕ). AreDifferent (page ∷ ns)) (sym alone) (tt, tt);
            unowned = subst (λ (ns : List ℕ). AreUnowned (page ∷ ns) store) (sym alone) (
              free_unowned pages store page on.is all (b.takes.free page
                  (times_here page [])),
              tt,
            );
            building = a.building;
          };
          stands = stays_on there pages new store (on_lobs (λ ls. ls ++ lob ∷ []) store) on
              (lob_begun pages new store on.is lob a.lob' keeps)
              (begun_rows pages new store on.is (lob_pages lob) keeps);
          spent = (let x = a.spent in let y = b.spent in omega (arith, x, y));
          covered = (let f = a.takes.fewer in let g = b.takes.fewer in let x = a.spent in
              let y = b.spent in omega (arith, f, g, x, y, covered));
        }
