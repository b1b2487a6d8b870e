-- A consistent store stays so, whichever event of a purge is made.
use Rattle.std.proofs.Common.{◌≡◌, ℕ, Bool, true, false, if◌then◌else◌, List, [], ◌∷◌, Option, Some, None, refl, sym, ap, subst, ◌∙◌}
use Rattle.page_model.specs.Pages.{Pages, Address}
use Rattle.store_data.specs.Store.{LogState, active, committed, purging, live, Row, Piece, Lob, Body, inserted, rebuilt, versioned, patched, removed, Record, Log, Store}
use Rattle.store_model.specs.Lobs.{lob_of, pieces_of}
use Rattle.store_model.specs.Steps.{last_in}
use Rattle.store_model.specs.Takes.{piece_of}
use Rattle.store_model.specs.Events.{with_row_pages}
use Rattle.store_model.specs.Undo.{version_dropped, record_passed, log_pages_left}
use Rattle.store_model.specs.Owned.{owned_lobs, IsAmong}
use Rattle.store_model.specs.Well.{IsKind}
use Rattle.store_model.specs.Consistent.{IsConsistent}
use Rattle.store_model.proofs.HeldLemmas.{first_lobs}
use Rattle.store_model.proofs.ConsistentLemmas.{drop_consistent, free_consistent, index_consistent, pass_consistent, purged_consistent, begun_consistent, row_pages_consistent, pages_left_consistent}
use Rattle.store_parts.specs.Stored.{row_pages}
use Rattle.row_dir.specs.declared.dir.RowDir.{RowDir}
use Rattle.store_steps.specs.Touched.{next_touched}
use Rattle.store_steps.proofs.TakenLemmas.{sound_at}
use Rattle.purge.specs.Events.{Event, passes, dropping, freeing, freeing_lob, due_for, due_page, due_record, due_in, due, loses_version, version_gone, made}
use Rattle.purge.specs.Made.{Made, Steps}
use Rattle.purge.proofs.JobLemmas.{due_is, last_none}
use Rattle.purge.proofs.OwnedLemmas.{lob_before, among_before}

last_single : {A : Type 0} (xs : List A) (u : A) (us : List A) → last_in xs ≡ u ∷ us → us ≡ []
last_single [] u us is = absurd (let e : [] ≡ u ∷ us = is in cc)
last_single {A = A} (x ∷ []) u us is = tail u us is
  where
    rest : List A → List A
    rest [] = []
    rest (y ∷ ys) = ys

    tail : (u : A) (us : List A) → x ∷ [] ≡ u ∷ us → us ≡ []
    tail u us e = sym (ap rest e)
last_single (x ∷ y ∷ ys) u us is = last_single (y ∷ ys) u us is

module _ (dir : RowDir) (store : Store) (new : Pages) (l : Log) (ls : List Log)
    (is : IsConsistent store) (first : store.committed ≡ l ∷ ls) where
  abbrev Stays : Event → Type 0
  Stays e = (m : Made e dir store new) → IsConsistent (made e m.free (row_pages m.there) store)

  page_stays : (ps : List ℕ) → l.records ≡ [] → Stays (due_page ps)
  page_stays [] none m = purged_consistent store l ls is first none
  page_stays (n ∷ []) none m = purged_consistent store l ls is first none
  page_stays (n ∷ k ∷ more) none m =
      let on = m.stands in
      pages_left_consistent (k ∷ more) store is (sound_at new (log_pages_left (k ∷ more) store) on.is
      (first_lobs (λ (x : Log). record x { pages = k ∷ more }) store (λ x. refl) is.lobs))

  module _ (a : Address) (u : Record) (oldest : last_in l.records ≡ (a, u) ∷ []) where
    pass_stays : Stays (passes a l.trx u)
    pass_stays m =
        let on = m.stands in
        let passed = pass_consistent a u store l ls is first oldest in
        row_pages_consistent (row_pages m.there) (record_passed a l.trx u store) passed
        (sound_at new (with_row_pages (row_pages m.there) (record_passed a l.trx u store)) on.is
        passed.lobs)

    freeing_stays : (m0 : Lob) → lob_of store.lobs u.before.lob.page ≡ Some m0
        → IsAmong u.before.lob.page (owned_lobs store) → (ps : List Piece) (is' : List ℕ)
        → m0.index ≡ is' → Stays (freeing u.before.lob.page (passes a l.trx u) ps is')
    freeing_stays m0 found among [] [] index m = pass_stays m
    freeing_stays m0 found among [] (i ∷ more) index m =
        index_consistent u.before.lob.page m0 store is found among i more index
    freeing_stays m0 found among (p ∷ more) is' index m =
        free_consistent u.before.lob.page m0 store is found among m.free

    lob_stays : ((r : Row) → IsKind u.body r u.before → u.before.state ≡ live)
        → Stays (freeing_lob u.before.lob.page (passes a l.trx u)
        (lob_of store.lobs u.before.lob.page))
    lob_stays kind =
        let lob = lob_before store l ls a u is first oldest kind in
        let among = among_before store l ls a u is first oldest kind in
        subst (λ (o : Option Lob). Stays (freeing_lob u.before.lob.page (passes a l.trx u) o))
        (sym lob.1) (freeing_stays lob.0 lob.1 among lob.0.pieces lob.0.index refl)

    there_by : (o : Option Piece) (v : ℕ) → loses_version v o ≡ true → (p : Piece) × (o ≡ Some p)
    there_by None v loses = absurd (let e : false ≡ true = loses in cc)
    there_by (Some p) v loses = (p, refl)

    gone_stays : (m0 : Lob) → lob_of store.lobs u.before.lob.page ≡ Some m0
        → IsAmong u.before.lob.page (owned_lobs store) → (k v : ℕ) (free : List Address)
        → IsConsistent (version_gone u.before.lob.page k v free store)
    gone_stays m0 found among k v free = by
        (loses_version v (piece_of k (pieces_of (lob_of store.lobs u.before.lob.page)))) refl
      where
        page : ℕ
        page = u.before.lob.page

        by : (b : Bool)
            → loses_version v (piece_of k (pieces_of (lob_of store.lobs u.before.lob.page))) ≡ b
            → IsConsistent (if b then version_dropped u.before.lob.page k free store else store)
        by true loses =
            let piece = there_by (piece_of k (pieces_of (lob_of store.lobs u.before.lob.page))) v loses in
            drop_consistent u.before.lob.page m0 store is found among k piece.0 free
            (sym (ap (λ (o : Option Lob). piece_of k (pieces_of o)) found) ∙ piece.1)
        by false stays = is

    drop_stays : ((r : Row) → IsKind u.body r u.before → u.before.state ≡ live) → (o : Option ℕ)
        → Stays (dropping u.before.lob.page u.before.lob.version (passes a l.trx u) o)
    drop_stays kind None m = pass_stays m
    drop_stays kind (Some k) m =
        let lob = lob_before store l ls a u is first oldest kind in
        let among = among_before store l ls a u is first oldest kind in
        gone_stays lob.0 lob.1 among k u.before.lob.version m.free

    record_stays : (b : Body) → u.body ≡ b → (at : Option ℕ)
        → Stays (due_for b u.before store.lobs at (passes a l.trx u))
    record_stays (inserted page) body at m = pass_stays m
    record_stays (rebuilt page) body at m = lob_stays
        (λ r kind. (subst (λ (x : Body). IsKind x r u.before) body kind).2) m
    record_stays (versioned n ks) body at m = drop_stays
        (λ r kind. (subst (λ (x : Body). IsKind x r u.before) body kind).1) (next_touched at ks) m
    record_stays (patched old) body at m = pass_stays m
    record_stays removed body at m = lob_stays
        (λ r kind. (subst (λ (x : Body). IsKind x r u.before) body kind).1) m

  due_stays : (at : Option ℕ) (es : List (Address × Record)) → last_in l.records ≡ es
      → Stays (due_record l store.lobs at es)
  due_stays at [] oldest = page_stays l.pages (last_none l.records oldest)
  due_stays at (u ∷ us) oldest =
      record_stays u.0 u.1 (oldest ∙ ap (λ (vs : List (Address × Record)). u ∷ vs)
      (last_single l.records u us oldest)) u.1.body refl at

  state_stays : (s : LogState) (at : Option ℕ)
      → Stays (due_in s (due_record l store.lobs at (last_in l.records)))
  state_stays active at m = begun_consistent store is
  state_stays committed at m = begun_consistent store is
  state_stays purging at m = due_stays at (last_in l.records) refl m

  pub event_stays : (at : Option ℕ) → Stays (due store at)
  event_stays at = subst Stays (sym (due_is store at l ls l.state first refl))
      (state_stays l.state at)

pub steps : (dir : RowDir) (store : Store) (new : Pages) (l : Log) (ls : List Log) (at : Option ℕ)
    → IsConsistent store → store.committed ≡ l ∷ ls → Made (due store at) dir store new
    → Steps (due store at) dir store new
steps dir store new l ls at is first m =
    record { made' = m; consistent = event_stays dir store new l ls is first at m }
