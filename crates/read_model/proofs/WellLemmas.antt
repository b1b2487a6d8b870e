-- In a store whose chains are whole, what the events ask for holds.
use Rattle.std.proofs.Common.{◌≡◌, ◌⊎◌, inl, inr, ℕ, zero, suc, Bool, true, false, cond, List, [], ◌∷◌, ◌++◌, map, refl, sym, ap, subst, ◌∙◌}
use Rattle.std.specs.Prelude.{Option, Some, None, is_some, unwrap_or, nat_le, ◌==◌, ◌&&◌}
use Rattle.std.proofs.lemmas.Bool.{leb-true, eqb-true}
use Rattle.page_model.specs.Pages.{Address}
use Rattle.store_data.specs.Pieces.{version_at, piece_at, dropped, all_but_last}
use Rattle.store_data.specs.Store.{Row, live, deleted, Version, Piece, Lob, Body, inserted, rebuilt, versioned, patched, removed, Record, Log, Store}
use Rattle.store_model.specs.Lobs.{lob_of, pieces_of}
use Rattle.store_model.specs.History.{Change, changes, row_before, row_of, absent_row}
use Rattle.store_model.specs.Steps.{on_lobs, last_in}
use Rattle.store_model.specs.Undo.{is_gone, without_newest, undo_ended, is_newest, is_at, cleared, record_passed}
use Rattle.store_model.specs.Moves.{IsNewest, OlderElsewhere, OlderBelow}
use Rattle.store_model.specs.Behind.{AllBefore, IsElsewhere, IsBelow, AtPiece}
use Rattle.store_model.specs.Purging.{AllTo, FindsWithout}
use Rattle.store_model.specs.Well.{IsKind, IsStep, IsChain}
use Rattle.store_model.proofs.LogLemmas.{change}
use Rattle.store_model.proofs.UndoLemmas.{changes-popped}
use Rattle.store_model.proofs.PurgeLemmas.{swept_row}
use Rattle.store_model.proofs.ChainLemmas.{older_below, front_elsewhere}
use Rattle.read_model.specs.Patches.{Entry}
use Rattle.read_model.specs.Document.{Sees, IsOther, AreDistinct}
use Rattle.read_model.specs.Flight.{row_behind}
use Rattle.read_model.specs.Events.{Removes, Passes, Sweeps}
use Rattle.read_model.specs.OfStore.{entry, document, ClearsElsewhere}
use Rattle.read_model.specs.Kinds.{HasOne, MayDrop, MayDropAt, AtOne, AtOthers, IsOlder, IsElsewhere as SeesElsewhere}
use Rattle.read_model.proofs.VisibleLemmas.{never, passed_by}
use Rattle.read_model.proofs.EventLemmas.{same_true}
use Rattle.read_model.proofs.StoreLemmas.{rows_so, before_older, undo_removes}
use Rattle.read_model.proofs.StorePurgeLemmas.{to_so, own_passed, front, seen_front, record_passes, record_sweeps}

-- ---- undoing

-- in a whole chain, the end of an undoing removes the newest record, where a row is left
pub undo_well : (sees : Sees) (trx : ℕ) (place : Address) (u : Record) (store : Store) → IsNewest trx place u store → IsChain (row_before store u.doc) (changes store u.doc) → sees trx ≡ false
    → IsOther place (map entry (changes (without_newest trx u store) u.doc)) → is_gone (without_newest trx u store) u.before.state u.before ≡ false
    → Removes sees (document store u.doc) (document (undo_ended trx u store) u.doc) (place, u)
undo_well sees trx place u store newest chain unseen other stays =
    let is = changes-popped trx place u store newest in
    let whole : IsChain (row_before store u.doc) (change trx place u ∷ changes (without_newest trx u store) u.doc) = subst (IsChain (row_before store u.doc)) is chain in
    undo_removes sees trx place u store newest (ap sees whole.0.trx ∙ unseen) (subst (OlderElsewhere u.body) (sym is) whole.0.fresh) other stays

-- ---- pushes and pops of a change of pieces: the visible row is of a version below the raised one

-- in a whole chain, a view that doesn't see a raised version sees only older ones of that LOB
pub raised_well : (sees : Sees) (store : Store) (d : ℕ) (c : Change) (cs : List Change) (pieces : ℕ) (touched : List ℕ) → changes store d ≡ c ∷ cs → IsChain (row_before store d) (changes store d)
    → c.undo.body ≡ versioned pieces touched → sees c.trx ≡ false → IsOlder sees (document store d) c.undo.before.lob.page (suc c.undo.before.lob.version)
raised_well sees store d c cs pieces touched is chain body unseen =
    let whole : IsChain (row_before store d) (c ∷ cs) = subst (IsChain (row_before store d)) is chain in
    before_older sees store d c.undo.before.lob.page (suc c.undo.before.lob.version) (ap sees whole.0.trx ∙ unseen)
    (subst (AllBefore (IsBelow c.undo.before.lob.page (suc c.undo.before.lob.version))) (sym is)
    (subst (λ (b : Body). OlderBelow b c.undo.before (c ∷ cs)) body (older_below (row_before store d) c cs whole)))

-- ---- purge: a record is passed

own_lob : (b : Body) (r : Row) (before : Row) (c : Change) (ds : List Change) → c.undo.before ≡ before → IsKind b r before → OlderElsewhere b (c ∷ ds) → (b ≡ removed) ⊎ ((page : ℕ) × (b ≡ rebuilt page))
    → before.state ≡ live → IsElsewhere before.lob.page r
own_lob b r before c ds is kind fresh (inl e) state here same = live_deleted (sym here ∙ (subst (λ (k : Body). IsKind k r before) e kind).0)
  where
    live_deleted : live ≡ deleted → ⊥
    live_deleted h = cc
own_lob b r before c ds is kind fresh (inr e) state here same =
    (subst (λ (k : Body). OlderElsewhere k (c ∷ ds)) e.1 fresh).0 (ap (λ (w : Row). w.state) is ∙ state)
    (ap (λ (w : Row). w.lob.page) is ∙ sym same ∙ (subst (λ (k : Body). IsKind k r before) e.1 kind).1)

-- the row before a deletion or a new encoding was live
pub live_before : (b : Body) (r before : Row) → IsKind b r before → (b ≡ removed) ⊎ ((page : ℕ) × (b ≡ rebuilt page)) → before.state ≡ live
live_before b r before kind (inl e) = (subst (λ (k : Body). IsKind k r before) e kind).1
live_before b r before kind (inr e) = (subst (λ (k : Body). IsKind k r before) e.1 kind).2

-- the step of the record itself
pub own_step : (row : Row) (cs : List Change) (c : Change) (ds : List Change) → IsChain row (cs ++ c ∷ ds) → IsStep (row_behind row (map entry cs)) c ds
own_step row [] c ds chain = chain.0
own_step row (b ∷ bs) c ds chain = own_step b.undo.before bs c ds chain.1

freed_elsewhere : (sees : Sees) (a : Address) (u : Record) (store : Store) (l : Log) (ls : List Log) → store.committed ≡ l ∷ ls → last_in l.records ≡ (a, u) ∷ [] → sees l.trx ≡ true
    → IsChain (row_before store u.doc) (changes store u.doc) → (u.body ≡ removed) ⊎ ((page : ℕ) × (u.body ≡ rebuilt page)) → SeesElsewhere sees (document store u.doc) u.before.lob.page
freed_elsewhere sees a u store l ls first oldest known chain kind above older v visible state =
    let row = row_before store u.doc in
    let is = own_passed a u store l ls first oldest in
    let whole : IsChain row (front store u.doc ++ change l.trx a u ∷ []) = subst (IsChain row) is chain in
    let own = own_step row (front store u.doc) (change l.trx a u) [] whole in
    let is_live = live_before u.body (row_behind row (map entry (front store u.doc))) u.before own.kind kind in
    let all = front_elsewhere row (front store u.doc) (change l.trx a u) [] whole
    (λ r step. own_lob u.body r u.before (change l.trx a u) [] refl step.kind step.fresh kind is_live) is_live in
    let fits = passed_by sees row (map entry (front store u.doc)) (entry (change l.trx a u) ∷ []) above older v (seen_front sees a u store l ls first oldest known chain)
    (sym (split (front store u.doc) (change l.trx a u)) ∙ sym (ap (map entry) is) ∙ visible.records) visible.walk in
    rows_so (IsElsewhere u.before.lob.page) sees row above fits.0 v (front store u.doc) visible.walk fits.1 all.0 all.1 state
  where
    split : (cs : List Change) (c : Change) → map entry (cs ++ c ∷ []) ≡ map entry cs ++ entry c ∷ []
    split [] c = refl
    split (b ∷ bs) c = ap (λ (es : List Entry). entry b ∷ es) (split bs c)

clears_well : (sees : Sees) (a : Address) (u : Record) (store : Store) (l : Log) (ls : List Log) → store.committed ≡ l ∷ ls → last_in l.records ≡ (a, u) ∷ [] → sees l.trx ≡ true
    → IsChain (row_before store u.doc) (changes store u.doc) → (b : Body) → u.body ≡ b → ClearsElsewhere sees store u.doc u.before b
clears_well sees a u store l ls first oldest known chain (inserted page) is = tt
clears_well sees a u store l ls first oldest known chain (rebuilt page) is = freed_elsewhere sees a u store l ls first oldest known chain (inr (page, is))
clears_well sees a u store l ls first oldest known chain (versioned pieces touched) is = tt
clears_well sees a u store l ls first oldest known chain (patched old) is = tt
clears_well sees a u store l ls first oldest known chain removed is = freed_elsewhere sees a u store l ls first oldest known chain (inl is)

-- a row is removed only where it is the deleted one that the record left
swept_well : (a : Address) (trx : ℕ) (u : Record) (row : Row) (cs : List Change) → u.body ≡ removed → IsChain row (cs ++ change trx a u ∷ []) → AreDistinct (map entry (cs ++ change trx a u ∷ []))
    → row.trx ≡ trx → is_at a row.roll ≡ true → row.state ≡ deleted
swept_well a trx u row [] body chain distinct same at = (subst (λ (b : Body). IsKind b row u.before) body chain.0.kind).0
swept_well a trx u row (b ∷ bs) body chain distinct same at =
    absurd (there bs distinct.0 (same_true a b.place (subst (λ (o : Option Address). is_at a o ≡ true) chain.0.roll at)))
  where
    there : (xs : List Change) → IsOther b.place (map entry (xs ++ change trx a u ∷ [])) → a ≡ b.place → ⊥
    there [] other e = other.0 e
    there (x ∷ xs) other e = there xs other.1 e

newest_is : (a : Address) (trx : ℕ) (o : Option Row) → is_newest a trx o ≡ true → ((unwrap_or o absent_row).trx ≡ trx) × (is_at a (unwrap_or o absent_row).roll ≡ true)
newest_is a trx None h = absurd (never h refl)
newest_is a trx (Some row) h = by_test (row.trx == trx) refl h
  where
    by_test : (b : Bool) → (row.trx == trx) ≡ b → (b && is_at a row.roll) ≡ true → (row.trx ≡ trx) × (is_at a row.roll ≡ true)
    by_test true is h = (eqb-true row.trx trx is, h)
    by_test false is h = absurd (never h refl)

-- the event that ends a record of purge keeps each read whose view sees the purged transaction
pub pass_well : (sees : Sees) (a : Address) (u : Record) (store : Store) (l : Log) (ls : List Log) → store.committed ≡ l ∷ ls → last_in l.records ≡ (a, u) ∷ [] → sees l.trx ≡ true → sees 0 ≡ true
    → IsChain (row_before store u.doc) (changes store u.doc) → AreDistinct (map entry (changes store u.doc))
    → Passes sees (document store u.doc) (document (record_passed a l.trx u store) u.doc) ⊎ Sweeps sees (document store u.doc) (document (record_passed a l.trx u store) u.doc)
pass_well sees a u store l ls first oldest known zero_seen chain distinct = elim (swept_row u.body a l.trx u.doc u.doc (on_lobs (cleared u.body u.before) store)) [
  | inl stays ↦ inl (record_passes sees a u store l ls first oldest known chain (clears_well sees a u store l ls first oldest known chain u.body refl) stays)
  | inr gone ↦
      let is = own_passed a u store l ls first oldest in
      let newest = newest_is a l.trx (row_of store u.doc) gone.2 in
      let state = swept_well a l.trx u (row_before store u.doc) (front store u.doc) gone.3 (subst (IsChain (row_before store u.doc)) is chain)
      (subst (λ (cs : List Change). AreDistinct (map entry cs)) is distinct) newest.0 newest.1 in
      inr (record_sweeps sees a u store l (ap sees newest.0 ∙ known) (λ is_live. live_deleted (sym is_live ∙ state)) zero_seen gone.0)
]
  where
    live_deleted : live ≡ deleted → ⊥
    live_deleted h = cc

-- ---- purge: a version is dropped

has_one : (v : ℕ) (xs : List Version) → is_some (version_at xs v) ≡ true → HasOne v xs
has_one v [] h = absurd (never h refl)
has_one v (x ∷ xs) h = by_test (nat_le x.number v) refl h (λ k. has_one v xs k)
  where
    by_test : (b : Bool) → nat_le x.number v ≡ b → is_some (cond b (Some x) (version_at xs v)) ≡ true → (is_some (version_at xs v) ≡ true → HasOne v xs) → HasOne v (x ∷ xs)
    by_test true is h rest = inl (leb-true x.number v is)
    by_test false is h rest = inr (rest h)

drops : (v k : ℕ) (ps : List Piece) → AtPiece k (λ p. is_some (piece_at (dropped p) v) ≡ true) ps → AtOne k (MayDrop v) (λ p. Unit {0}) ps
drops v k [] at = tt
drops v zero (p ∷ ps) at = (has_one v (p.head ∷ all_but_last p.older) at, others ps)
  where
    others : (ps : List Piece) → AtOthers (λ p. Unit {0}) ps
    others [] = tt
    others (q ∷ qs) = (tt, others qs)
drops v (suc k) (p ∷ ps) at = (tt, drops v k ps at)

-- a view that sees the purged transaction needs no dropped version that no row down to it needs
pub drop_well : (sees : Sees) (store : Store) (d page k trx : ℕ) → sees trx ≡ true → AllTo trx (FindsWithout page k store.lobs) (row_before store d) (changes store d) → MayDropAt sees (document store d) page k
drop_well sees store d page k trx known all above older v visible state here =
    let finds = to_so (FindsWithout page k store.lobs) sees trx (row_before store d) above older v (changes store d) known visible.walk visible.records all in
    by_lob (lob_of store.lobs page) (λ l is. finds state here l is)
  where
    by_lob : (o : Option Lob) → ((l : Lob) → o ≡ Some l → AtPiece k (λ p. is_some (piece_at (dropped p) v.lob.version) ≡ true) l.pieces) → AtOne k (MayDrop v.lob.version) (λ p. Unit {0}) (pieces_of o)
    by_lob None finds = tt
    by_lob (Some l) finds = drops v.lob.version k l.pieces (finds l refl)
