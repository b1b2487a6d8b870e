-- A well-formed store stays so: under the events of a change and of a commit.
use Rattle.std.proofs.Common.{◌≡◌, ◌≢◌, inl, inr, ℕ, suc, ◌≤◌, List, [], ◌∷◌, ◌++◌, Option, Some, None, refl, sym, subst, ◌∙◌, arith}
use Rattle.std.proofs.lemmas.Bool.{cases_eq}
use Rattle.store_data.specs.Logs.{with_record}
use Rattle.store_data.specs.Store.{Row, live, Run, Lob, Body, inserted, rebuilt, versioned, patched, removed, Log, committed, Store}
use Rattle.store_model.specs.Runs.{lobs_laid}
use Rattle.store_model.specs.History.{Change, changes, row_before}
use Rattle.store_model.specs.Steps.{on_lob, on_lobs, at_version, log_of}
use Rattle.store_model.specs.Events.{Plan, planned, record_of, new_row, raised_row, patched_row, deleted_row, insert_begun, rebuild_begun, version_begun, patch_made, delete_made, moved, committed_by}
use Rattle.store_model.specs.Behind.{AllBefore, AllRows, IsElsewhere}
use Rattle.store_model.specs.Locked.{IsLocked}
use Rattle.store_model.specs.Moves.{MayChange, IsUnnamed}
use Rattle.store_model.specs.Purging.{NumberedTo}
use Rattle.store_model.specs.Well.{IsStep, IsChain, AllIn, AreApart, AreDistinct, IsNew, AreNamedOnce, IsWell}
use Rattle.store_model.proofs.RowLemmas.{row-with_this, row-with_other}
use Rattle.store_model.proofs.LogLemmas.{change}
use Rattle.store_model.proofs.ChangeLemmas.{changes-own, changes-other}
use Rattle.store_model.proofs.CommitLemmas.{moved-keeps, numbered_more}
use Rattle.store_model.proofs.DistinctLemmas.{distinct_on, distinct_moved, none_parts, locked_with, locked_with_other, locked_without}

-- ---- the rows and changes of two documents

pub both_in : (P Q R : Row → Type 0) (row : Row) (cs : List Change) → ((r : Row) → P r → Q r → R r) → AllIn P row cs → AllIn Q row cs → AllIn R row cs
both_in P Q R row [] so p q = (so row p.0 q.0, tt)
both_in P Q R row (c ∷ cs) so p q = (so row p.0 q.0, both_in P Q R c.undo.before cs so p.1 q.1)

-- what is a chain stays one by an equal row and equal changes
pub chain_same : (r s : Row) (cs ds : List Change) → r ≡ s → cs ≡ ds → IsChain s ds → IsChain r cs
chain_same r s cs ds a b chain = subst (λ x. IsChain x cs) (sym a) (subst (IsChain s) (sym b) chain)

-- two documents' rows that are apart stay so by equal rows and equal changes
pub apart_same : (r s r' s' : Row) (cs ds cs' ds' : List Change) → r ≡ s → cs ≡ ds → r' ≡ s' → cs' ≡ ds' → AreApart s ds s' ds' → AreApart r cs r' cs'
apart_same r s r' s' cs ds cs' ds' a b a' b' apart =
    subst (λ x. AreApart x cs r' cs') (sym a) (subst (λ x. AreApart s x r' cs') (sym b) (subst (λ x. AreApart s ds x cs') (sym a') (subst (AreApart s ds s') (sym b') apart)))

-- ---- a change is begun

pub well_begins : (p : Plan) (new : Row → Row) (body : Body) (f : List Lob → List Lob) (store : Store) → IsWell store → MayChange p store
    → IsStep (new (row_before store p.doc)) (change p.trx p.place (record_of p (row_before store p.doc) body)) (changes store p.doc)
    → ((e : ℕ) → e ≢ p.doc → (new (row_before store p.doc)).state ≡ live → AllRows (IsElsewhere (new (row_before store p.doc)).lob.page) store e)
    → IsNew p.place (changes store p.doc) → IsWell (on_lobs f (planned p new body store))
well_begins p new body f store well may step gets fresh = record {
  chains = λ d. elim (cases_eq d p.doc) [
    | inl same ↦ subst (λ q. IsChain (row_before after q) (changes after q)) (sym same) (chain_same _ row _ (c ∷ cs) own_row own_changes (step, well.chains p.doc))
    | inr other ↦ chain_same _ _ _ _ (row-with_other p.doc d row store other) (changes-other p row before body f store d other) (well.chains d)
  ];
  places = λ d. elim (cases_eq d p.doc) [
    | inl same ↦ subst (λ q. AreNamedOnce (changes after q)) (sym same) (subst AreNamedOnce (sym own_changes) (fresh, well.places p.doc))
    | inr other ↦ subst AreNamedOnce (sym (changes-other p row before body f store d other)) (well.places d)
  ];
  apart = λ d e differ. elim (cases_eq d p.doc) [
    | inl same ↦ subst (λ q. AreApart (row_before after q) (changes after q) (row_before after e) (changes after e)) (sym same)
        (apart_same _ row _ _ _ (c ∷ cs) _ _ own_row own_changes (row-with_other p.doc e row store (λ q. differ (same ∙ sym q))) (changes-other p row before body f store e (λ q. differ (same ∙ sym q)))
        (gets e (λ q. differ (same ∙ sym q)), well.apart p.doc e (λ q. differ (same ∙ q))))
    | inr other ↦ elim (cases_eq e p.doc) [
      | inl same ↦ subst (λ q. AreApart (row_before after d) (changes after d) (row_before after q) (changes after q)) (sym same)
          (apart_same _ _ _ row _ _ _ (c ∷ cs) (row-with_other p.doc d row store other) (changes-other p row before body f store d other) own_row own_changes
          (both_in (λ r. r.state ≡ live → row.state ≡ live → r.lob.page ≢ row.lob.page) (λ r. r.state ≡ live → AllIn (IsElsewhere r.lob.page) before cs) _ (row_before store d) (changes store d)
          (λ r away apart is_live. ((λ is_row same_page. away is_live is_row (sym same_page)), apart is_live)) (away d other) (well.apart d p.doc other)))
      | inr different ↦ apart_same _ _ _ _ _ _ _ _ (row-with_other p.doc d row store other) (changes-other p row before body f store d other)
          (row-with_other p.doc e row store different) (changes-other p row before body f store e different) (well.apart d e differ)
    ]
  ];
  logs = distinct_on p.trx (with_record p.place (record_of p before body)) store.active store.committed (λ l. refl) well.logs;
  locked = λ d. elim (cases_eq d p.doc) [
    | inl same ↦ subst (λ q. IsLocked q after.active) (sym same) (locked_with p.trx p.doc p.place (record_of p before body) store.active (distinct_front store.active store.committed well.logs) may.idle)
    | inr other ↦ locked_with_other p.trx d p.place (record_of p before body) store.active (λ q. other (sym q)) (well.locked d)
  ];
  numbered = well.numbered;
}
  where
    before : Row
    before = row_before store p.doc

    row : Row
    row = new before

    after : Store
    after = on_lobs f (planned p new body store)

    c : Change
    c = change p.trx p.place (record_of p before body)

    cs : List Change
    cs = changes store p.doc

    own_row : row_before after p.doc ≡ row
    own_row = row-with_this p.doc row store

    own_changes : changes after p.doc ≡ c ∷ cs
    own_changes = changes-own p row before body f store may

    swap_in : (r : Row) (ds : List Change) → (row.state ≡ live → AllIn (IsElsewhere row.lob.page) r ds) → AllIn (λ q. q.state ≡ live → row.state ≡ live → q.lob.page ≢ row.lob.page) r ds
    swap_in r [] g = ((λ is_live is_row. (g is_row).0 is_live), tt)
    swap_in r (b ∷ ds) g = ((λ is_live is_row. (g is_row).0 is_live), swap_in_rest b ds (λ is_row. (g is_row).1))
      where
        swap_in_rest : (b : Change) (ds : List Change) → (row.state ≡ live → AllBefore (IsElsewhere row.lob.page) (b ∷ ds)) → AllBefore (λ q. q.state ≡ live → row.state ≡ live → q.lob.page ≢ row.lob.page) (b ∷ ds)
        swap_in_rest b [] g = ((λ is_live is_row. (g is_row).0 is_live), tt)
        swap_in_rest b (e ∷ es) g = ((λ is_live is_row. (g is_row).0 is_live), swap_in_rest e es (λ is_row. (g is_row).1))

    away : (d : ℕ) → d ≢ p.doc → AllIn (λ q. q.state ≡ live → row.state ≡ live → q.lob.page ≢ row.lob.page) (row_before store d) (changes store d)
    away d other = swap_in (row_before store d) (changes store d) (gets d other)

    distinct_front : (ls ms : List Log) → AreDistinct (ls ++ ms) → AreDistinct ls
    distinct_front [] ms all = tt
    distinct_front (l ∷ ls) ms all = ((none_parts l.trx ls ms all.0).0, distinct_front ls ms all.1)

-- ---- each kind of change

-- a store stays well-formed where an insert is begun for a row that isn't live, if its LOB is no
-- live row's and no change of the document stands at the record's place
pub well_insert : (p : Plan) (lob : Lob) (n : ℕ) (store : Store) → IsWell store → MayChange p store → IsNew p.place (changes store p.doc) → IsUnnamed lob.page store
    → (row_before store p.doc).state ≢ live → IsWell (insert_begun p lob n store)
well_insert p lob n store well may fresh unnamed before =
    well_begins p (new_row p lob.page n) (inserted lob.page) (λ ls. ls ++ lob ∷ []) store well may
    (record { trx = refl; roll = refl; kind = (refl, refl, before); fresh = unnamed p.doc }) (λ e other is_live. unnamed e) fresh

-- so where a change of kind Full is begun for a live row
pub well_rebuild : (p : Plan) (lob : Lob) (n : ℕ) (store : Store) → IsWell store → MayChange p store → IsNew p.place (changes store p.doc) → IsUnnamed lob.page store
    → (row_before store p.doc).state ≡ live → IsWell (rebuild_begun p lob n store)
well_rebuild p lob n store well may fresh unnamed before =
    well_begins p (new_row p lob.page n) (rebuilt lob.page) (λ ls. ls ++ lob ∷ []) store well may
    (record { trx = refl; roll = refl; kind = (refl, refl, before); fresh = unnamed p.doc }) (λ e other is_live. unnamed e) fresh

-- so where a change of kind Versioned is begun for a live row
pub well_version : (p : Plan) (pieces : ℕ) (touched : List ℕ) (store : Store) → IsWell store → MayChange p store → IsNew p.place (changes store p.doc)
    → (row_before store p.doc).state ≡ live → IsWell (version_begun p pieces touched store)
well_version p pieces touched store well may fresh before =
    well_begins p (raised_row p) (versioned pieces touched) (on_lob (row_before store p.doc).lob.page (at_version (suc (row_before store p.doc).lob.version))) store well may
    (record { trx = refl; roll = refl; kind = (before, before, refl); fresh = tt }) (λ e other is_live. (well.apart p.doc e (λ q. other (sym q))).0 before) fresh

-- so where a live row's LOB is changed in place
pub well_patch : (p : Plan) (old new : List Run) (store : Store) → IsWell store → MayChange p store → IsNew p.place (changes store p.doc)
    → (row_before store p.doc).state ≡ live → IsWell (patch_made p old new store)
well_patch p old new store well may fresh before =
    well_begins p (patched_row p) (patched old) (lobs_laid new) store well may
    (record { trx = refl; roll = refl; kind = (before, before, refl); fresh = tt }) (λ e other is_live. (well.apart p.doc e (λ q. other (sym q))).0 before) fresh

-- so where a live row is deleted
pub well_delete : (p : Plan) (store : Store) → IsWell store → MayChange p store → IsNew p.place (changes store p.doc)
    → (row_before store p.doc).state ≡ live → IsWell (delete_made p store)
well_delete p store well may fresh before =
    well_begins p (deleted_row p) removed (λ ls. ls) store well may
    (record { trx = refl; roll = refl; kind = (refl, before, refl); fresh = tt }) (λ e other is_live. absurd (cc is_live)) fresh

-- an event that changes LOBs alone
pub well_lobs : (f : List Lob → List Lob) (store : Store) → IsWell store → IsWell (on_lobs f store)
well_lobs f store well = record { chains = well.chains; places = well.places; apart = well.apart; logs = well.logs; locked = well.locked; numbered = well.numbered }

-- ---- commit

numbered_last : (n : ℕ) (ls : List Log) (l : Log) → NumberedTo n ls → l.number ≤ n → NumberedTo n (ls ++ l ∷ [])
numbered_last n [] l all last = (last, tt)
numbered_last n (m ∷ ms) l all last = (all.0, numbered_last n ms l all.1 last)

-- a store stays well-formed where a transaction is committed
pub well_commit : (trx : ℕ) (store : Store) → IsWell store → IsWell (committed_by trx store)
well_commit trx store well = by_log (log_of store.active trx) refl
  where
    by_log : (o : Option Log) → log_of store.active trx ≡ o → IsWell (moved trx o store)
    by_log None there = well
    by_log (Some l) there = record {
      chains = λ d. chain_same (row_before store d) _ _ _ refl (moved-keeps trx d store (Some l) there (well.locked d)) (well.chains d);
      places = λ d. subst AreNamedOnce (sym (moved-keeps trx d store (Some l) there (well.locked d))) (well.places d);
      apart = λ d e differ. apart_same (row_before store d) _ (row_before store e) _ _ _ _ _ refl (moved-keeps trx d store (Some l) there (well.locked d)) refl (moved-keeps trx e store (Some l) there (well.locked e)) (well.apart d e differ);
      logs = distinct_moved trx store.active store.committed l (record l { state = committed; number = suc store.commits }) there refl well.logs;
      locked = λ d. locked_without trx d store.active (well.locked d);
      numbered = numbered_last (suc store.commits) store.committed (record l { state = committed; number = suc store.commits }) (numbered_more store.commits store.committed well.numbered) (omega arith);
    }
