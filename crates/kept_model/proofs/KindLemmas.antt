-- The planning event of each kind of change is one.
use Rattle.std.proofs.Common.{◌≡◌, ◌≢◌, ℕ, suc, Bool, true, false, true≢false, nat_eq, List, [], ◌∷◌, ◌++◌, Option, Some, is_some, refl, sym, ap, ◌∙◌, if◌then◌else◌, ◌||◌}
use Rattle.page_model.specs.Pages.{Address}
use Rattle.store_data.specs.Store.{RowState, absent, live, deleted, Row, Run, Lob, Body, inserted, rebuilt, versioned, patched, removed, Record, Log, Store}
use Rattle.store_data.specs.Pieces.{Part}
use Rattle.store_model.specs.Lobs.{parts}
use Rattle.store_model.specs.Runs.{lobs_laid}
use Rattle.store_model.specs.History.{row_before, changes, stands}
use Rattle.store_data.specs.Logs.{with_record}
use Rattle.store_model.specs.Steps.{on_log, log_of, on_lobs, on_lob, at_version}
use Rattle.store_model.specs.Events.{Plan, record_of, planned, new_row, raised_row, patched_row, deleted_row, insert_begun, rebuild_begun, version_begun, patch_made, delete_made}
use Rattle.store_model.specs.Behind.{AllRows, SameParts}
use Rattle.store_model.specs.Moves.{MayChange, Begins, ArePaired, StandThere, IsUntouched}
use Rattle.store_model.specs.Consistent.{IsConsistent}
use Rattle.store_model.specs.Owned.{rest_of, AreDifferent}
use Rattle.store_model.specs.Takes.{AreUnowned}
use Rattle.store_model.specs.Versions.{AreUpTo}
use Rattle.store_model.specs.Well.{IsNew}
use Rattle.store_model.proofs.RowLemmas.{row-with_other}
use Rattle.store_model.proofs.HistoryLemmas.{same-with, same-on}
use Rattle.store_model.proofs.ChangeLemmas.{insert_begins, rebuild_begins, version_begins, patch_begins, delete_begins, lobs_taken_back, untouched_same}
use Rattle.store_model.proofs.OwnedLemmas.{unowned_lob}
use Rattle.store_model.proofs.ConsistentLemmas.{none_unowned, insert_consistent, rebuild_consistent, version_consistent, patch_consistent, delete_consistent}
use Rattle.read_model.specs.Document.{Sees}
use Rattle.read_model.specs.Flight.{Flight, IsFlight}
use Rattle.read_model.specs.OfStore.{document}
use Rattle.read_model.proofs.ReadsLemmas.{reads_patched, reads_inserted, reads_rebuilt, reads_raised, reads_deleted}
use Rattle.kept_model.specs.Sessions.{record_docs, records_of}
use Rattle.kept_model.specs.Views.{shown_by, parts_shown}
use Rattle.kept_model.specs.Plans.{Plans}
use Rattle.kept_model.proofs.SessionLemmas.{is_eq}

-- ---- logs

pub stands_on : (x trx : ℕ) (f : Log → Log) (ls : List Log) → ((l : Log) → (f l).trx ≡ l.trx) → stands x (on_log trx f ls) ≡ stands x ls
stands_on x trx f [] same = refl
stands_on x trx f (l ∷ ls) same = by_test (nat_eq l.trx trx) (stands_on x trx f ls same)
  where
    by_test : (b : Bool) → stands x (on_log trx f ls) ≡ stands x ls → stands x (if b then f l ∷ ls else l ∷ on_log trx f ls) ≡ ((nat_eq l.trx x) || stands x ls)
    by_test true rest = ap (λ (n : ℕ). (nat_eq n x) || stands x ls) (same l)
    by_test false rest = ap (λ (b : Bool). (nat_eq l.trx x) || b) rest

pub log_on_other : (x trx : ℕ) (f : Log → Log) (ls : List Log) → ((l : Log) → (f l).trx ≡ l.trx) → x ≢ trx → log_of (on_log trx f ls) x ≡ log_of ls x
log_on_other x trx f [] same other = refl
log_on_other x trx f (l ∷ ls) same other = by_test (nat_eq l.trx trx) refl (log_on_other x trx f ls same other)
  where
    not_it : l.trx ≡ trx → (b : Bool) → nat_eq l.trx x ≡ b → b ≡ false
    not_it e true g = absurd (other (sym (is_eq l.trx x g) ∙ e))
    not_it e false g = refl

    by_test : (b : Bool) → nat_eq l.trx trx ≡ b → log_of (on_log trx f ls) x ≡ log_of ls x
        → log_of (if b then f l ∷ ls else l ∷ on_log trx f ls) x ≡ (if nat_eq l.trx x then Some l else log_of ls x)
    by_test true e rest =
        let off : nat_eq l.trx x ≡ false = not_it (is_eq l.trx trx e) (nat_eq l.trx x) refl in
        ap (λ (n : ℕ). if nat_eq n x then Some (f l) else log_of ls x) (same l)
        ∙ ap (λ (b : Bool). if b then Some (f l) else log_of ls x) off ∙ sym (ap (λ (b : Bool). if b then Some l else log_of ls x) off)
    by_test false e rest = ap (λ (o : Option Log). if nat_eq l.trx x then Some l else o) rest

-- the transaction's log has a record more
pub log_with : (trx : ℕ) (place : Address) (u : Record) (ls : List Log) → is_some (log_of ls trx) ≡ true
    → record_docs (records_of (log_of (on_log trx (with_record place u) ls) trx)) ≡ u.doc ∷ record_docs (records_of (log_of ls trx))
log_with trx place u [] some = absurd (true≢false (sym some))
log_with trx place u (l ∷ ls) some = by_test (nat_eq l.trx trx) refl some (λ g. log_with trx place u ls g)
  where
    by_test : (b : Bool) → nat_eq l.trx trx ≡ b → is_some (if b then Some l else log_of ls trx) ≡ true
        → (is_some (log_of ls trx) ≡ true → record_docs (records_of (log_of (on_log trx (with_record place u) ls) trx)) ≡ u.doc ∷ record_docs (records_of (log_of ls trx)))
        → record_docs (records_of (log_of (if b then with_record place u l ∷ ls else l ∷ on_log trx (with_record place u) ls) trx)) ≡ u.doc ∷ record_docs (records_of (if b then Some l else log_of ls trx))
    by_test true e g rest = ap (λ (b : Bool). record_docs (records_of (if b then Some (with_record place u l) else log_of ls trx))) e
    by_test false e g rest = ap (λ (b : Bool). record_docs (records_of (if b then Some l else log_of (on_log trx (with_record place u) ls) trx))) e ∙ rest g

-- ---- rows of other documents

-- LOBs with the same parts at a row leave what it shows
pub shown_same : (old new : List Lob) (row : Row) → SameParts old new row → parts_shown new row ≡ parts_shown old row
shown_same old new row same = by_state row.state refl
  where
    by_state : (st : RowState) → row.state ≡ st → shown_by st (parts new row.lob) ≡ shown_by st (parts old row.lob)
    by_state absent is = refl
    by_state live is = ap (λ (ps : List Part). Some ps) (sym (same is))
    by_state deleted is = refl

-- ---- a planned change

module _ (p : Plan) (new : Row → Row) (body : Body) (f : List Lob → List Lob) (store : Store) (may : MayChange p store) where
  abbrev after : Store
  after = on_lobs f (planned p new body store)

  pub planned_plans : Begins p store after → IsConsistent after
      → ((sees : Sees) (d : ℕ) (shown : Option (List Part)) (g : Flight) → sees p.trx ≡ false → IsFlight sees (document store d) shown g → IsFlight sees (document after d) shown g)
      → ((d : ℕ) → d ≢ p.doc → SameParts store.lobs (f store.lobs) (row_before store d)) → Plans p store after
  planned_plans begins consistent reads same = record {
    begins = begins;
    consistent = consistent;
    next = refl;
    commits = refl;
    purged = refl;
    committed = refl;
    active = λ x. stands_on x p.trx (with_record p.place (record_of p (row_before store p.doc) body)) store.active (λ l. refl);
    logs = λ x other. log_on_other x p.trx (with_record p.place (record_of p (row_before store p.doc) body)) store.active (λ l. refl) other;
    log = log_with p.trx p.place (record_of p (row_before store p.doc) body) store.active may.log;
    reads = reads;
    others = λ d other. record {
      parts = ap (parts_shown (f store.lobs)) (row-with_other p.doc d (new (row_before store p.doc)) (record store { active = on_log p.trx (with_record p.place (record_of p (row_before store p.doc) body)) store.active }) other)
          ∙ shown_same store.lobs (f store.lobs) (row_before store d) (same d other);
      row = λ is_live. row-with_other p.doc d (new (row_before store p.doc)) (record store { active = on_log p.trx (with_record p.place (record_of p (row_before store p.doc) body)) store.active }) other;
    };
  }

-- ---- the kinds

module _ (p : Plan) (store : Store) (all : IsConsistent store) (may : MayChange p store) (fresh : IsNew p.place (changes store p.doc)) where
  pub patch_plans : (old new : List Run) → (row_before store p.doc).state ≡ live → ArePaired old new → StandThere old store.lobs
      → ((d : ℕ) → d ≢ p.doc → AllRows (IsUntouched new store.lobs) store d) → Plans p store (patch_made p old new store)
  patch_plans old new stays paired there off = planned_plans p (patched_row p) (patched old) (lobs_laid new) store may
      (patch_begins p old new store may paired there off)
      (patch_consistent p store all may fresh old new stays)
      (λ sees d shown g unseen h. (reads_patched p old new store (record { doc = d; sees = sees; shown = shown; flight = g } ∷ []) may
      (lobs_taken_back old new store.lobs paired there) off (unseen, tt) (h, tt)).0)
      (λ d other. untouched_same new store.lobs (row_before store d) (off d other).0)

  pub delete_plans : (row_before store p.doc).state ≡ live → Plans p store (delete_made p store)
  delete_plans stays = planned_plans p (deleted_row p) removed (λ ls. ls) store may
      (delete_begins p store may)
      (delete_consistent p store all may fresh stays)
      (λ sees d shown g unseen h. (reads_deleted p store (record { doc = d; sees = sees; shown = shown; flight = g } ∷ []) may (unseen, tt) (h, tt)).0)
      (λ d other is_live. refl)

  pub version_plans : (pieces : ℕ) (touched : List ℕ) → (row_before store p.doc).state ≡ live → Plans p store (version_begun p pieces touched store)
  version_plans pieces touched stays =
      let page = (row_before store p.doc).lob.page in
      let g = at_version (suc (row_before store p.doc).lob.version) in
      planned_plans p (raised_row p) (versioned pieces touched) (on_lob page g) store may
      (version_begins p pieces touched store may)
      (version_consistent p store all may fresh pieces touched stays)
      (λ sees d shown k unseen h. (reads_raised p pieces touched store (record { doc = d; sees = sees; shown = shown; flight = k } ∷ []) may (unseen, tt) (h, tt)).0)
      (λ d other. same-on page g store.lobs (row_before store d) (λ l. refl) (λ is_live here l there. refl))

  pub insert_plans : (lob : Lob) (n : ℕ) → AreDifferent (lob.page ∷ rest_of (Some lob)) → AreUnowned (lob.page ∷ rest_of (Some lob)) store → lob.version ≡ 1 → AreUpTo 1 lob.pieces
      → (row_before store p.doc).state ≢ live → Plans p store (insert_begun p lob n store)
  insert_plans lob n different unowned one up stays =
      let unnamed = unowned_lob lob.page store all.well (none_unowned lob.page store unowned.0) in
      planned_plans p (new_row p lob.page n) (inserted lob.page) (λ ls. ls ++ lob ∷ []) store may
      (insert_begins p lob n store may unnamed)
      (insert_consistent p store all may fresh lob n different unowned one up stays)
      (λ sees d shown g unseen h. (reads_inserted p lob n store (record { doc = d; sees = sees; shown = shown; flight = g } ∷ []) may unnamed (unseen, tt) (h, tt)).0)
      (λ d other. same-with store.lobs lob (row_before store d) (unnamed d).0)

  pub rebuild_plans : (lob : Lob) (n : ℕ) → AreDifferent (lob.page ∷ rest_of (Some lob)) → AreUnowned (lob.page ∷ rest_of (Some lob)) store → lob.version ≡ 1 → AreUpTo 1 lob.pieces
      → (row_before store p.doc).state ≡ live → Plans p store (rebuild_begun p lob n store)
  rebuild_plans lob n different unowned one up stays =
      let unnamed = unowned_lob lob.page store all.well (none_unowned lob.page store unowned.0) in
      planned_plans p (new_row p lob.page n) (rebuilt lob.page) (λ ls. ls ++ lob ∷ []) store may
      (rebuild_begins p lob n store may unnamed)
      (rebuild_consistent p store all may fresh lob n different unowned one up stays)
      (λ sees d shown g unseen h. (reads_rebuilt p lob n store (record { doc = d; sees = sees; shown = shown; flight = g } ∷ []) may unnamed (unseen, tt) (h, tt)).0)
      (λ d other. same-with store.lobs lob (row_before store d) (unnamed d).0)
