-- A change that is planned: what it makes of the store, from its record and its row.
use Rattle.std.proofs.Common.{◌≡◌, ◌≢◌, ℕ, List, [], ◌∷◌, ◌++◌, Some, sym, ap, ap₂, subst, ◌∙◌}
use Rattle.page_model.specs.Pages.{Pages, Address}
use Rattle.store_data.specs.Logs.{with_record}
use Rattle.store_data.specs.Store.{RowState, live, deleted, Reference, Row, Body, inserted, rebuilt, removed, Lob, Log, Store}
use Rattle.store_model.specs.History.{row_before, changes}
use Rattle.store_model.specs.Steps.{on_lobs, log_of}
use Rattle.store_model.specs.Events.{Plan, record_of, with_change, insert_begun, rebuild_begun, delete_made}
use Rattle.store_model.specs.Locked.{OthersIdle}
use Rattle.store_model.specs.Well.{IsNew}
use Rattle.store_model.specs.Consistent.{IsConsistent}
use Rattle.store_model.proofs.ConsistentLemmas.{insert_consistent, rebuild_consistent, delete_consistent}
use Rattle.store_parts.specs.Stored.{row_pages}
use Rattle.row_dir.specs.declared.dir.RowDir.{RowDir}
use Rattle.store_steps.specs.Standing.{StandsOn}
use Rattle.transactions.specs.Changes.{plan_by, Changes}
use Rattle.transactions.specs.Plans.{listed, PlansChange}
use Rattle.transactions.proofs.PlanLemmas.{listed_consistent, may_change}
use Rattle.lob_changes.specs.NewLobs.{new_reference, IsNewLob}

abbrev row_at : Row → ℕ → Address → Row
row_at after trx place = record after { trx = trx; roll = Some place }

module _ (l : Log) (trx number doc : ℕ) (after : Row) (body : Body) (dir : RowDir) (store : Store)
    (new : Pages) where
  -- the LOBs may have changed before it
  planned_by : (f : List Lob → List Lob) (event : Plan → Store → Store)
      → Changes l (plan_by trx number doc) (row_before store doc) after body dir
      (on_lobs f store) new
      → ((a : Address) → on_lobs f (with_change (plan_by trx number doc a) (row_at after trx a)
      (row_before store doc) body store) ≡ event (plan_by trx number doc a) store)
      → ((a : Address) → IsNew a (changes store doc)
      → IsConsistent (event (plan_by trx number doc a) store))
      → PlansChange l (plan_by trx number doc) body event dir store new
  planned_by f event c same stays =
      let a = c.place in
      let plan = plan_by trx number doc a in
      let rows = row_pages c.there in
      let made = on_lobs f (with_change plan (row_at after trx a)
      (row_before store doc) body store) in
      let on : StandsOn c.there new (listed trx c.log_pages rows (event plan store)) =
      subst (λ (x : Store). StandsOn c.there new (listed trx c.log_pages rows x))
      (same a) c.stands in
      record {
        place = a;
        log_pages = c.log_pages;
        there = c.there;
        stands = on;
        consistent = listed_consistent trx c.log_pages rows (event plan store) new
            (stays a c.fresh) on.is;
        directory = c.directory;
        fresh = c.fresh;
        within = c.within;
        other = c.other;
        log = subst (λ (x : Store). log_of (listed trx c.log_pages rows x).active trx
            ≡ Some (record (with_record a (record_of plan (row_before store doc) body) l)
            { pages = c.log_pages })) (same a) c.log;
      }

  module _ (all : IsConsistent store) (x : Log) (found : log_of store.active trx ≡ Some x)
      (idle : OthersIdle trx doc store.active) where
    pub delete_planned : body ≡ removed → after.state ≡ deleted
        → after.lob ≡ (row_before store doc).lob → (row_before store doc).state ≡ live
        → Changes l (plan_by trx number doc) (row_before store doc) after body dir store new
        → PlansChange l (plan_by trx number doc) body (λ p s. delete_made p s) dir store new
    delete_planned is state lob before c =
        planned_by (λ ls. ls) (λ p s. delete_made p s) c
        (λ a. ap (λ (b : Body). with_change (plan_by trx number doc a) (row_at after trx a)
        (row_before store doc) b store) is
        ∙ ap₂ (λ (s : RowState) (r : Reference). with_change (plan_by trx number doc a)
        (record { state = s; trx = trx; roll = Some a; lob = r })
        (row_before store doc) removed store)
        state lob)
        (λ a new'. delete_consistent (plan_by trx number doc a) store all
        (may_change (plan_by trx number doc a) store x found idle) new' before)

    pub insert_planned : (page len : ℕ) (bytes : List ℕ) (m : Lob)
        → IsNewLob page trx bytes store m → body ≡ inserted page → after.state ≡ live
        → after.lob ≡ new_reference page len → (row_before store doc).state ≢ live
        → Changes l (plan_by trx number doc) (row_before store doc) after body dir
        (on_lobs (λ ls. ls ++ m ∷ []) store) new
        → PlansChange l (plan_by trx number doc) body (λ p. insert_begun p m len) dir store new
    insert_planned page len bytes m fresh is state lob before c =
        planned_by (λ ls. ls ++ m ∷ []) (λ p. insert_begun p m len) c
        (λ a. same a page (sym fresh.page_is) is lob)
        (λ a new'. insert_consistent (plan_by trx number doc a) store all
        (may_change (plan_by trx number doc a) store x found idle) new' m len fresh.different
        fresh.unowned fresh.version fresh.up_to before)
      where
        same : (a : Address) (n : ℕ) → n ≡ m.page → body ≡ inserted n
            → after.lob ≡ new_reference n len
            → on_lobs (λ ls. ls ++ m ∷ []) (with_change (plan_by trx number doc a)
            (row_at after trx a) (row_before store doc) body store)
            ≡ insert_begun (plan_by trx number doc a) m len store
        same a n is' b r =
            ap₂ (λ (b : Body) (q : Reference). on_lobs (λ ls. ls ++ m ∷ [])
            (with_change (plan_by trx number doc a)
            (record { state = after.state; trx = trx; roll = Some a; lob = q })
            (row_before store doc) b
            store)) (b ∙ ap inserted is') (r ∙ ap (λ (k : ℕ). new_reference k len) is')
            ∙ ap (λ (s : RowState). on_lobs (λ ls. ls ++ m ∷ [])
            (with_change (plan_by trx number doc a)
            (record { state = s; trx = trx; roll = Some a; lob = new_reference m.page len })
            (row_before store doc) (inserted m.page) store)) state

    pub rebuild_planned : (page len : ℕ) (bytes : List ℕ) (m : Lob)
        → IsNewLob page trx bytes store m → body ≡ rebuilt page → after.state ≡ live
        → after.lob ≡ new_reference page len → (row_before store doc).state ≡ live
        → Changes l (plan_by trx number doc) (row_before store doc) after body dir
        (on_lobs (λ ls. ls ++ m ∷ []) store) new
        → PlansChange l (plan_by trx number doc) body (λ p. rebuild_begun p m len) dir store new
    rebuild_planned page len bytes m fresh is state lob before c =
        planned_by (λ ls. ls ++ m ∷ []) (λ p. rebuild_begun p m len) c
        (λ a. same a page (sym fresh.page_is) is lob)
        (λ a new'. rebuild_consistent (plan_by trx number doc a) store all
        (may_change (plan_by trx number doc a) store x found idle) new' m len fresh.different
        fresh.unowned fresh.version fresh.up_to before)
      where
        same : (a : Address) (n : ℕ) → n ≡ m.page → body ≡ rebuilt n
            → after.lob ≡ new_reference n len
            → on_lobs (λ ls. ls ++ m ∷ []) (with_change (plan_by trx number doc a)
            (row_at after trx a) (row_before store doc) body store)
            ≡ rebuild_begun (plan_by trx number doc a) m len store
        same a n is' b r =
            ap₂ (λ (b : Body) (q : Reference). on_lobs (λ ls. ls ++ m ∷ [])
            (with_change (plan_by trx number doc a)
            (record { state = after.state; trx = trx; roll = Some a; lob = q })
            (row_before store doc) b
            store)) (b ∙ ap rebuilt is') (r ∙ ap (λ (k : ℕ). new_reference k len) is')
            ∙ ap (λ (s : RowState). on_lobs (λ ls. ls ++ m ∷ [])
            (with_change (plan_by trx number doc a)
            (record { state = s; trx = trx; roll = Some a; lob = new_reference m.page len })
            (row_before store doc) (rebuilt m.page) store)) state
