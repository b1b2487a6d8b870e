-- What the other events of a store leave of a document, and what a pop asks for in a whole chain.
use Rattle.std.proofs.Common.{◌≡◌, ◌≢◌, inl, inr, ℕ, zero, suc, ◌<◌, false, List, [], ◌∷◌, ◌++◌, map, refl, sym, ap, subst, ◌∙◌}
use Rattle.std.proofs.lemmas.List.{append-nil}
use Rattle.page_model.specs.Pages.{Address}
use Rattle.store_data.specs.Logs.{passed}
use Rattle.store_data.specs.Store.{Piece, versioned, Record, Log, Store}
use Rattle.store_model.specs.History.{Change, changes, changes_among, active_changes, committed_changes, row_before}
use Rattle.store_model.specs.Steps.{on_lobs, all_but_first, last_in}
use Rattle.store_model.specs.Events.{log_begun}
use Rattle.store_model.specs.Undo.{cleared, on_oldest, record_passed, purge_begun, log_pages_left, log_purged}
use Rattle.store_model.specs.Well.{IsChain}
use Rattle.store_model.proofs.LogLemmas.{among_other}
use Rattle.store_model.proofs.PurgeLemmas.{passed_changes, swept_changes, swept_lobs, swept_row, changes-first}
use Rattle.read_model.specs.Document.{Sees, pieces_at}
use Rattle.read_model.specs.OfStore.{entry, document}
use Rattle.read_model.specs.Kinds.{MayPop, PopsFrom, IsPushed, HasNoNode, AtOne, AtOthers, on_lobs as doc_lobs}
use Rattle.read_model.proofs.StoreLemmas.{same_document}
use Rattle.read_model.proofs.WellLemmas.{raised_well}

-- ---- logs

pub begun_log_same : (trx page : ℕ) (store : Store) (d : ℕ) → document (log_begun trx page store) d ≡ document store d
begun_log_same trx page store d = refl

first_same : (f : Log → Log) (store : Store) (d : ℕ) → ((l : Log) → (f l).records ≡ l.records) → ((l : Log) → (f l).trx ≡ l.trx) → document (on_oldest f store) d ≡ document store d
first_same f store d r t = same_document _ _ refl (ap (λ (cs : List Change). map entry (active_changes d store.active ++ cs)) (changes-first d f store.committed r t)) refl

-- a purge that begins leaves every document
pub begun_purge_same : (store : Store) (d : ℕ) → document (purge_begun store) d ≡ document store d
begun_purge_same store d = first_same _ store d (λ l. refl) (λ l. refl)

pub left_pages_same : (pages : List ℕ) (store : Store) (d : ℕ) → document (log_pages_left pages store) d ≡ document store d
left_pages_same pages store d = first_same _ store d (λ l. refl) (λ l. refl)

-- a log without records that is purged leaves every document
pub purged_log_same : (store : Store) (d : ℕ) (l : Log) (ls : List Log) → store.committed ≡ l ∷ ls → l.records ≡ [] → document (log_purged store) d ≡ document store d
purged_log_same store d l ls first none = same_document _ _ refl (ap (λ (cs : List Change). map entry (active_changes d store.active ++ cs))
    (ap (λ (ms : List Log). committed_changes d (all_but_first ms)) first
    ∙ sym (append-nil (committed_changes d ls)) ∙ ap (λ us. committed_changes d ls ++ changes_among d l.trx us) (sym none)
    ∙ sym (ap (committed_changes d) first))) refl

-- ---- purge of another document's record

-- the purge of a record leaves other documents, but for what it does to LOBs
pub passed_others : (a : Address) (u : Record) (store : Store) (l : Log) (ls : List Log) (d : ℕ) → store.committed ≡ l ∷ ls → last_in l.records ≡ (a, u) ∷ [] → d ≢ u.doc
    → document (record_passed a l.trx u store) d ≡ doc_lobs (cleared u.body u.before) (document store d)
passed_others a u store l ls d first oldest other = same_document _ _
    (elim (swept_row u.body a l.trx u.doc d mid) [ inl kept ↦ kept | inr gone ↦ absurd (other gone.1) ])
    (ap (map entry) (swept_changes u.body a l.trx u.doc d mid
    ∙ sym (append-nil (changes (on_oldest passed store) d))
    ∙ ap (λ us. changes (on_oldest passed store) d ++ us) (sym (ap (changes_among d l.trx) oldest ∙ among_other d l.trx (a, u) [] (λ e. other (sym e))))
    ∙ sym (passed_changes d store l ls first)))
    (swept_lobs u.body a l.trx u.doc mid)
  where
    mid : Store
    mid = on_lobs (cleared u.body u.before) store

-- ---- a pop in a whole chain

pops : (v n : ℕ) (node head : Address) (k : ℕ) (ps : List Piece) → v < n → AtOne k (IsPushed n node head) (HasNoNode node) ps → AtOne k (PopsFrom v node head) (HasNoNode node) ps
pops v n node head k [] below at = tt
pops v n node head zero (p ∷ ps) below at = (
  record {
    first = at.0.first;
    rest = at.0.rest;
    older = at.0.older;
    node_is = at.0.node_is;
    head_is = at.0.head_is;
    newer = subst (λ (m : ℕ). v < m) (sym at.0.number) below;
  },
  at.1,
)
pops v n node head (suc k) (p ∷ ps) below at = (at.0, pops v n node head k ps below at.1)

-- in a whole chain, the version of the newest change may be popped under views that don't see it
pub pop_well : (sees : Sees) (store : Store) (d k : ℕ) (node head : Address) (c : Change) (cs : List Change) (pieces : ℕ) (touched : List ℕ) → changes store d ≡ c ∷ cs
    → IsChain (row_before store d) (changes store d) → c.undo.body ≡ versioned pieces touched → sees c.trx ≡ false
    → AtOne k (IsPushed (suc c.undo.before.lob.version) node head) (HasNoNode node) (pieces_at store.lobs c.undo.before.lob.page)
    → ((q : ℕ) → q ≢ c.undo.before.lob.page → AtOthers (HasNoNode node) (pieces_at store.lobs q))
    → MayPop sees (document store d) c.undo.before.lob.page k node head
pop_well sees store d k node head c cs pieces touched is chain body unseen pushed others above older v visible state = (
  λ here. pops v.lob.version (suc c.undo.before.lob.version) node head k _ (raised_well sees store d c cs pieces touched is chain body unseen above older v visible state here) pushed,
  λ other. others v.lob.page other,
)
