-- One LOB of a store changed, begun or gone.
use Rattle.std.proofs.Common.{◌≡◌, inl, inr, ℕ, Bool, if◌then◌else◌, List, [], ◌∷◌, ◌++◌, Some, refl, sym, ap, subst, ◌∙◌, arith}
use Rattle.std.proofs.lemmas.Bool.Decides.{eqb_tells}
use Rattle.page_model.specs.Pages.{Pages}
use Rattle.page_model.specs.Counts.{times}
use Rattle.store_data.specs.Store.{Lob, Store}
use Rattle.lob_model.specs.Lobs.{IsLob, lob_pages}
use Rattle.undo_model.specs.Data.{Log}
use Rattle.undo_model.proofs.OptionLemmas.{some_some, not_some}
use Rattle.store_model.specs.Lobs.{lob_of}
use Rattle.store_model.specs.Steps.{on_lob, on_lobs, without_lob}
use Rattle.page_model.proofs.CountLemmas.{times-append}
use Rattle.store_parts.specs.Stored.{Stored, with_lobs}
use Rattle.store_parts.specs.Standing.{IsStoreBut, AreOutIn}
use Rattle.store_parts.specs.Shows.{Shows, AreIn, IsWhole, IsStore}
use Rattle.store_parts.specs.Keeps.{Keeps}
use Rattle.store_pages.proofs.PartLemmas.{lob_out, lob_in}
use Rattle.store_pages.specs.Stands.{RowsStand}
use Rattle.store_parts.proofs.KeepLemmas.{recounted}

-- ---- the LOB with a first page

pub record Found (lobs : List Lob) (page : ℕ) (l : Lob) : Type 0 where
  pub before : List Lob
  pub after : List Lob
  pub cut : lobs ≡ before ++ l ∷ after
  pub here : l.page ≡ page
  pub changed : (f : Lob → Lob) → on_lob page f lobs ≡ before ++ f l ∷ after
  pub gone : without_lob page lobs ≡ before ++ after

-- a LOB that is found by its first page is one in the list, where it alone is changed or taken out
pub found : (lobs : List Lob) (page : ℕ) (l : Lob) → lob_of lobs page ≡ Some l → Found lobs page l
found [] page l is = absurd (not_some l is)
found (m ∷ ms) page l is = elim (eqb_tells m.page page) [
  | inl same ↦ (
      let e : m ≡ l = some_some m l (ap (λ (b : Bool). if b then Some m else lob_of ms page) (sym same.0) ∙ is) in
      subst (λ x. Found (m ∷ ms) page x) e (record {
        before = [];
        after = ms;
        cut = refl;
        here = same.1;
        changed = λ f. ap (λ (b : Bool). if b then f m ∷ ms else m ∷ on_lob page f ms) same.0;
        gone = ap (λ (b : Bool). if b then ms else m ∷ without_lob page ms) same.0;
      })
      )
  | inr other ↦ (
      let rest = found ms page l (ap (λ (b : Bool). if b then Some m else lob_of ms page) (sym other.0) ∙ is) in
      record {
        before = m ∷ rest.before;
        after = rest.after;
        cut = ap (λ ls. m ∷ ls) rest.cut;
        here = rest.here;
        changed = λ f. ap (λ (b : Bool). if b then f m ∷ ms else m ∷ on_lob page f ms) other.0 ∙ ap (λ ls. m ∷ ls) (rest.changed f);
        gone = ap (λ (b : Bool). if b then ms else m ∷ without_lob page ms) other.0 ∙ ap (λ ls. m ∷ ls) rest.gone;
      }
      )
]

-- ---- in a store

-- where no log is taken out, those that are begin in no pages
pub none_out : (logs : List Log) → AreIn logs → AreOutIn [] logs
none_out [] all = tt
none_out (l ∷ more) all = ((λ is. absurd (all.0 is)), none_out more all.1)

pub shows_lobs : (s : Stored) (store : Store) (ls : List Lob) (g : List Lob → List Lob) → Shows s store → g store.lobs ≡ ls → Shows (with_lobs ls s) (on_lobs g store)
shows_lobs s store ls g is same = record {
  next_trx = is.next_trx;
  commits = is.commits;
  purged = is.purged;
  rising = is.rising;
  rows = is.rows;
  row_pages = is.row_pages;
  active = is.active;
  committed = is.committed;
  lobs = same;
}

whole_lobs : (s : Stored) (ls : List Lob) → IsWhole s → IsWhole (with_lobs ls s)
whole_lobs s ls is = record { active = is.active; committed = is.committed; count = is.count; active_in = is.active_in; committed_in = is.committed_in }

-- pages with none behind them count as they do alone
pub plus_none : (ns : List ℕ) (n : ℕ) → times n (ns ++ []) ≡ times n ns
plus_none ns n = let a = times-append n ns [] in omega (arith, a)

module _ (old new : Pages) (store : Store) (is : IsStore old store) where
  -- with this LOB taken out
  pub taken : (page : ℕ) (l : Lob) → (at : Found store.lobs page l) → IsLob old l × IsStoreBut (lob_pages l) old (with_lobs (at.before ++ at.after) is.stored)
  taken page l at =
      let cut : is.stored.lobs ≡ at.before ++ l ∷ at.after = sym is.shows.lobs ∙ at.cut in
      let parts = lob_out [] old is.stored at.before l at.after (subst (λ ls. IsStoreBut [] old (with_lobs ls is.stored)) cut is.standing) in
      (parts.0, recounted _ (lob_pages l) old _ (plus_none (lob_pages l)) parts.1)

  pub lob_changed : (page : ℕ) (l : Lob) (f : Lob → Lob) → lob_of store.lobs page ≡ Some l → IsLob new (f l) → Keeps [] (lob_pages l) (lob_pages (f l)) old new
      → IsStore new (on_lobs (on_lob page f) store)
  lob_changed page l f there lob keeps =
      let at = found store.lobs page l there in
      let rest = (taken page l at).1 in
      let after = keeps (with_lobs (at.before ++ at.after) is.stored) (none_out is.stored.active is.whole.active_in) (none_out is.stored.committed is.whole.committed_in) rest in
      record {
        stored = with_lobs (at.before ++ f l ∷ at.after) is.stored;
        standing = lob_in (lob_pages (f l)) new is.stored at.before (f l) at.after [] after lob (λ n. omega arith);
        whole = whole_lobs is.stored _ is.whole;
        shows = shows_lobs is.stored store _ (on_lob page f) is.shows (at.changed f);
      }

  -- the row pages stand on where a LOB changes or goes, and where one begins
  pub lob_rows : (page : ℕ) (l : Lob) (own : List ℕ) → lob_of store.lobs page ≡ Some l → Keeps [] (lob_pages l) own old new → RowsStand old new
  lob_rows page l own there keeps =
      let at = found store.lobs page l there in
      let rest = (taken page l at).1 in
      let after = keeps (with_lobs (at.before ++ at.after) is.stored) (none_out is.stored.active is.whole.active_in) (none_out is.stored.committed is.whole.committed_in) rest in
      record { rows = is.stored.rows; before = is.standing.rows; behind = after.rows }

  pub begun_rows : (own : List ℕ) → Keeps [] [] own old new → RowsStand old new
  begun_rows own keeps =
      let after = keeps is.stored (none_out is.stored.active is.whole.active_in) (none_out is.stored.committed is.whole.committed_in) is.standing in
      record { rows = is.stored.rows; before = is.standing.rows; behind = after.rows }

  pub lob_gone : (page : ℕ) (l : Lob) → lob_of store.lobs page ≡ Some l → Keeps [] (lob_pages l) [] old new → IsStore new (on_lobs (without_lob page) store)
  lob_gone page l there keeps =
      let at = found store.lobs page l there in
      let rest = (taken page l at).1 in
      record {
        stored = with_lobs (at.before ++ at.after) is.stored;
        standing = keeps (with_lobs (at.before ++ at.after) is.stored) (none_out is.stored.active is.whole.active_in) (none_out is.stored.committed is.whole.committed_in) rest;
        whole = whole_lobs is.stored _ is.whole;
        shows = shows_lobs is.stored store _ (without_lob page) is.shows at.gone;
      }

  pub lob_begun : (m : Lob) → IsLob new m → Keeps [] [] (lob_pages m) old new → IsStore new (on_lobs (λ ls. ls ++ m ∷ []) store)
  lob_begun m lob keeps =
      let after = keeps is.stored (none_out is.stored.active is.whole.active_in) (none_out is.stored.committed is.whole.committed_in) is.standing in
      record {
        stored = with_lobs (is.stored.lobs ++ m ∷ []) is.stored;
        standing = lob_in (lob_pages m) new is.stored is.stored.lobs m [] [] (subst (λ ls. IsStoreBut (lob_pages m) new (with_lobs ls is.stored)) (sym (append_nil is.stored.lobs)) after) lob (λ n. omega arith);
        whole = whole_lobs is.stored _ is.whole;
        shows = shows_lobs is.stored store _ (λ ls. ls ++ m ∷ []) is.shows (ap (λ ls. ls ++ m ∷ []) is.shows.lobs);
      }
    where
      append_nil : (ls : List Lob) → ls ++ [] ≡ ls
      append_nil [] = refl
      append_nil (l ∷ ls) = ap (λ xs. l ∷ xs) (append_nil ls)
