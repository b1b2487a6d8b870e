-- Purge of a record, seen from its document.
use Rattle.std.proofs.Common.{◌≡◌, ◌≢◌, inl, inr, ℕ, true, List, [], ◌∷◌, ◌++◌, map, refl, sym, ap, subst, ◌∙◌}
use Rattle.page_model.specs.Pages.{Address}
use Rattle.store_data.specs.Logs.{passed}
use Rattle.store_data.specs.Store.{Row, absent, live, Lob, Body, inserted, rebuilt, versioned, patched, removed, Record, Log, Store}
use Rattle.store_model.specs.History.{Change, changes, changes_among, row_before, absent_row}
use Rattle.store_model.specs.Steps.{on_lobs, without_lob, last_in}
use Rattle.store_model.specs.Undo.{cleared, on_oldest, record_passed}
use Rattle.store_model.specs.Purging.{AllTo}
use Rattle.store_model.specs.Well.{IsChain}
use Rattle.store_model.proofs.LogLemmas.{change, among_this}
use Rattle.store_model.proofs.PurgeLemmas.{passed_changes, swept_changes, swept_lobs}
use Rattle.read_model.specs.Patches.{Entry}
use Rattle.read_model.specs.Document.{Sees, IsSeen, IsVisible, pieces_at}
use Rattle.read_model.specs.Flight.{row_behind}
use Rattle.read_model.specs.Events.{Passes, Sweeps, IsSame, EachPiece}
use Rattle.read_model.specs.OfStore.{entry, document, ClearsElsewhere}
use Rattle.read_model.specs.Kinds.{IsElsewhere as SeesElsewhere}
use Rattle.read_model.proofs.VisibleLemmas.{heads, tails, never}
use Rattle.read_model.proofs.LobLemmas.{each_same, without_other}

-- ---- purge passes a record

-- what holds of the rows down to a seen transaction holds of the row that the view sees
pub to_so : (P : Row → Type 0) (sees : Sees) (trx : ℕ) (row : Row) (above older : List Entry) (v : Row) (cs : List Change) → sees trx ≡ true → IsSeen sees row above v → map entry cs ≡ above ++ older
    → AllTo trx P row cs → P v
to_so P sees trx row [] older v [] known walk records all = subst P walk.0 all
to_so P sees trx row [] older v (c ∷ cs) known walk records all = subst P walk.0 all.0
to_so P sees trx row (x ∷ xs) older v [] known walk records all = absurd (nil_cons records)
  where
    nil_cons : [] ≡ x ∷ (xs ++ older) → ⊥
    nil_cons h = cc
to_so P sees trx row (x ∷ xs) older v (c ∷ cs) known walk records all = elim all.1 [
  | inl here ↦ absurd (never (ap sees here ∙ known) walk.0)
  | inr rest ↦ to_so P sees trx x.1.before xs older v cs known walk.2 (tails (entry c) x (map entry cs) (xs ++ older) records)
      (subst (λ (r : Row). AllTo trx P r cs) (ap (λ (e : Entry). e.1.before) (heads (entry c) x (map entry cs) (xs ++ older) records)) rest)
]

-- the row behind the front of a chain is that of the change that follows
pub behind_front : (row : Row) (cs : List Change) (c : Change) (ds : List Change) → IsChain row (cs ++ c ∷ ds) → (row_behind row (map entry cs)).trx ≡ c.trx
behind_front row [] c ds chain = chain.0.trx
behind_front row (b ∷ bs) c ds chain = behind_front b.undo.before bs c ds chain.1

pub entries_joined : (cs ds : List Change) → map entry (cs ++ ds) ≡ map entry cs ++ map entry ds
entries_joined [] ds = refl
entries_joined (c ∷ cs) ds = ap (λ (es : List Entry). entry c ∷ es) (entries_joined cs ds)

-- a document's changes without the record that purge passes
pub front : Store → ℕ → List Change
front store d = changes (on_oldest passed store) d

-- the record that purge passes is the last of its document's changes
pub own_passed : (a : Address) (u : Record) (store : Store) (l : Log) (ls : List Log) → store.committed ≡ l ∷ ls → last_in l.records ≡ (a, u) ∷ []
    → changes store u.doc ≡ front store u.doc ++ change l.trx a u ∷ []
unfolding front
own_passed a u store l ls first oldest =
    passed_changes u.doc store l ls first
    ∙ ap (λ us. changes (on_oldest passed store) u.doc ++ us) (ap (changes_among u.doc l.trx) oldest ∙ among_this u.doc l.trx a u [] refl)

pub after_pass : (a : Address) (u : Record) (store : Store) (l : Log) → (document (record_passed a l.trx u store) u.doc).records ≡ map entry (front store u.doc)
unfolding front
after_pass a u store l = ap (map entry) (swept_changes u.body a l.trx u.doc u.doc (on_lobs (cleared u.body u.before) store))

pub other_same : (sees : Sees) (store : Store) (d page : ℕ) → SeesElsewhere sees (document store d) page → (above older : List Entry) (v : Row) → IsVisible sees (document store d) above older v → v.state ≡ live
    → EachPiece (IsSame v.lob.version) (pieces_at store.lobs v.lob.page) (pieces_at (without_lob page store.lobs) v.lob.page)
other_same sees store d page elsewhere above older v visible state =
    subst (EachPiece (IsSame v.lob.version) (pieces_at store.lobs v.lob.page)) (sym (without_other page store.lobs v.lob.page (elsewhere above older v visible state))) (each_same v.lob.version (pieces_at store.lobs v.lob.page))

pub cleared_same : (sees : Sees) (store : Store) (d : ℕ) (before : Row) (body : Body) → ClearsElsewhere sees store d before body → (above older : List Entry) (v : Row) → IsVisible sees (document store d) above older v
    → v.state ≡ live → EachPiece (IsSame v.lob.version) (pieces_at store.lobs v.lob.page) (pieces_at (cleared body before store.lobs) v.lob.page)
cleared_same sees store d before (inserted page) clears above older v visible state = each_same v.lob.version (pieces_at store.lobs v.lob.page)
cleared_same sees store d before (rebuilt page) clears above older v visible state = other_same sees store d before.lob.page clears above older v visible state
cleared_same sees store d before (versioned pieces touched) clears above older v visible state = each_same v.lob.version (pieces_at store.lobs v.lob.page)
cleared_same sees store d before (patched old) clears above older v visible state = each_same v.lob.version (pieces_at store.lobs v.lob.page)
cleared_same sees store d before removed clears above older v visible state = other_same sees store d before.lob.page clears above older v visible state

-- in a whole chain, a view that sees the purged transaction sees the row above the passed record
pub seen_front : (sees : Sees) (a : Address) (u : Record) (store : Store) (l : Log) (ls : List Log) → store.committed ≡ l ∷ ls → last_in l.records ≡ (a, u) ∷ [] → sees l.trx ≡ true
    → IsChain (row_before store u.doc) (changes store u.doc) → sees (row_behind (row_before store u.doc) (map entry (front store u.doc))).trx ≡ true
seen_front sees a u store l ls first oldest known chain =
    ap sees (behind_front (row_before store u.doc) (front store u.doc) (change l.trx a u) [] (subst (IsChain (row_before store u.doc)) (own_passed a u store l ls first oldest) chain)) ∙ known

-- the purge of a record goes past it, for a view that sees its transaction and not the freed LOB
pub record_passes : (sees : Sees) (a : Address) (u : Record) (store : Store) (l : Log) (ls : List Log) → store.committed ≡ l ∷ ls → last_in l.records ≡ (a, u) ∷ [] → sees l.trx ≡ true
    → IsChain (row_before store u.doc) (changes store u.doc) → ClearsElsewhere sees store u.doc u.before u.body → row_before (record_passed a l.trx u store) u.doc ≡ row_before store u.doc
    → Passes sees (document store u.doc) (document (record_passed a l.trx u store) u.doc)
record_passes sees a u store l ls first oldest known chain clears stays = record {
  row = stays;
  gone = entry (change l.trx a u) ∷ [];
  records = ap (map entry) (own_passed a u store l ls first oldest) ∙ entries_joined (front store u.doc) (change l.trx a u ∷ [])
      ∙ ap (λ (es : List Entry). es ++ entry (change l.trx a u) ∷ []) (sym (after_pass a u store l));
  seen = ap (λ (es : List Entry). sees (row_behind (row_before store u.doc) es).trx) (after_pass a u store l) ∙ seen_front sees a u store l ls first oldest known chain;
  pieces = λ above older v visible state.
      subst (λ (lobs : List Lob). EachPiece (IsSame v.lob.version) (pieces_at store.lobs v.lob.page) (pieces_at lobs v.lob.page))
      (sym (swept_lobs u.body a l.trx u.doc (on_lobs (cleared u.body u.before) store)))
      (cleared_same sees store u.doc u.before u.body clears above older v visible state);
}

-- where the purge of a record leaves no row, it sweeps one that isn't live and that the view sees
pub record_sweeps : (sees : Sees) (a : Address) (u : Record) (store : Store) (l : Log) → sees (row_before store u.doc).trx ≡ true → (row_before store u.doc).state ≢ live → sees 0 ≡ true
    → row_before (record_passed a l.trx u store) u.doc ≡ absent_row → Sweeps sees (document store u.doc) (document (record_passed a l.trx u store) u.doc)
record_sweeps sees a u store l seen state zero_seen gone = record {
  seen = seen;
  state = state;
  none = record {
    seen = ap (λ (r : Row). sees r.trx) gone ∙ zero_seen;
    state = λ is. absent_live (sym (ap (λ (r : Row). r.state) gone) ∙ is);
  };
}
  where
    absent_live : absent ≡ live → ⊥
    absent_live h = cc
