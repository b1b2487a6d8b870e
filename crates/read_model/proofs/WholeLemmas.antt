-- In a store that is well, its chains, places and apart LOBs give what the events ask for.
use Rattle.std.proofs.Common.{◌≡◌, ◌≢◌, ◌⊎◌, inl, inr, ℕ, suc, true, false, List, [], ◌∷◌, ◌++◌, map, refl, sym, subst}
use Rattle.page_model.specs.Pages.{Address}
use Rattle.store_data.specs.Store.{Row, live, Version, Body, inserted, rebuilt, versioned, patched, removed, Record, Log, Store}
use Rattle.store_model.specs.History.{Change, changes, row_before}
use Rattle.store_model.specs.Steps.{last_in}
use Rattle.store_model.specs.Events.{version_pushed, committed_by}
use Rattle.store_model.specs.Undo.{is_gone, without_newest, undo_ended, version_popped, record_passed}
use Rattle.store_model.specs.Moves.{IsNewest, OthersElsewhere}
use Rattle.store_model.specs.Behind.{AllBefore, AllRows, IsElsewhere}
use Rattle.store_model.specs.Well.{IsKind, IsChain, AllIn, IsNew, AreNamedOnce, IsWell}
use Rattle.store_model.proofs.LogLemmas.{change}
use Rattle.store_model.proofs.UndoLemmas.{changes-popped}
use Rattle.store_model.specs.Keeps.{Frees}
use Rattle.read_model.specs.Document.{IsOther, AreDistinct, pieces_at}
use Rattle.read_model.specs.OfStore.{entry, document}
use Rattle.read_model.specs.Kinds.{IsPushed, HasNoNode, AtOne, AtOthers}
use Rattle.read_model.specs.Reads.{Read, AreReads, MaySee, handed, shifted}
use Rattle.read_model.proofs.StorePurgeLemmas.{own_passed, front}
use Rattle.read_model.proofs.ReadsLemmas.{reads_undone, reads_committed, reads_passed}
use Rattle.read_model.proofs.WorkLemmas.{reads_pushed, reads_popped}
use Rattle.read_model.proofs.WellLemmas.{live_before, own_step}

-- ---- places

pub new_other : (place : Address) (cs : List Change) → IsNew place cs → IsOther place (map entry cs)
new_other place [] none = tt
new_other place (c ∷ cs) none = (none.0, new_other place cs none.1)

pub named_distinct : (cs : List Change) → AreNamedOnce cs → AreDistinct (map entry cs)
named_distinct [] once = tt
named_distinct (c ∷ cs) once = (new_other c.place cs once.0, named_distinct cs once.1)

-- in a store that is well, a document's records stand at different addresses
pub well_distinct : (store : Store) (d : ℕ) → IsWell store → AreDistinct (document store d).records
well_distinct store d well = named_distinct (changes store d) (well.places d)

-- ---- rows of other documents have other LOBs

in_chain : (P : Row → Type 0) (cs : List Change) (c : Change) (ds : List Change) → AllBefore P (cs ++ c ∷ ds) → P c.undo.before
in_chain P [] c ds all = all.0
in_chain P (b ∷ bs) c ds all = in_chain P bs c ds all.1

others_elsewhere : (store : Store) (d : ℕ) (cs : List Change) (c : Change) (ds : List Change) → IsWell store → changes store d ≡ cs ++ c ∷ ds → c.undo.before.state ≡ live
    → (e : ℕ) → e ≢ d → AllRows (IsElsewhere c.undo.before.lob.page) store e
others_elsewhere store d cs c ds well is state e other =
    in_chain (λ r. r.state ≡ live → AllIn (IsElsewhere r.lob.page) (row_before store e) (changes store e)) cs c ds
    (subst (AllBefore (λ r. r.state ≡ live → AllIn (IsElsewhere r.lob.page) (row_before store e) (changes store e))) is (well.apart d e (λ same. other (sym same))).1) state

versioned_live : (b : Body) (row before : Row) (pieces : ℕ) (touched : List ℕ) → b ≡ versioned pieces touched → IsKind b row before → before.state ≡ live
versioned_live b row before pieces touched is kind = (subst (λ (k : Body). IsKind k row before) is kind).1

-- ---- events

-- in a store that is well, the end of an undoing keeps all reads that don't see the transaction
pub whole_undone : (trx : ℕ) (place : Address) (u : Record) (store : Store) (rs : List Read) → IsWell store → IsNewest trx place u store → ((d : ℕ) → d ≢ u.doc → OthersElsewhere u.body store d)
    → MaySee (λ r. (r.sees trx ≡ false) × (r.sees 0 ≡ true) × (is_gone (without_newest trx u store) u.before.state u.before ≡ true → r.sees u.before.trx ≡ true)) rs
    → AreReads store rs → AreReads (undo_ended trx u store) (map (handed u.doc place u) rs)
whole_undone trx place u store rs well newest others may reads =
    let once : AreNamedOnce (change trx place u ∷ changes (without_newest trx u store) u.doc) = subst AreNamedOnce (changes-popped trx place u store newest) (well.places u.doc) in
    reads_undone trx place u store rs newest (well.chains u.doc) (new_other place (changes (without_newest trx u store) u.doc) once.0) others may reads

-- in a store that is well, a commit keeps all reads
pub whole_committed : (trx : ℕ) (store : Store) (rs : List Read) → IsWell store → AreReads store rs → AreReads (committed_by trx store) rs
whole_committed trx store rs well reads = reads_committed trx store rs well.locked reads

-- in a store that is well, a push for the newest change keeps all reads that don't see it
pub whole_pushed : (store : Store) (d k : ℕ) (node : Address) (x : Version) (index : List ℕ) (free : List Address) (c : Change) (cs : List Change) (pieces : ℕ) (touched : List ℕ) (rs : List Read)
    → IsWell store → changes store d ≡ c ∷ cs → c.undo.body ≡ versioned pieces touched → x.number ≡ suc c.undo.before.lob.version → MaySee (λ r. r.sees c.trx ≡ false) rs
    → AreReads store rs → AreReads (version_pushed c.undo.before.lob.page k node x index free store) rs
whole_pushed store d k node x index free c cs pieces touched rs well is body number unseen reads =
    let whole : IsChain (row_before store d) (c ∷ cs) = subst (IsChain (row_before store d)) is (well.chains d) in
    reads_pushed store d k node x index free c cs pieces touched rs is (well.chains d) body number
    (others_elsewhere store d [] c cs well is (versioned_live c.undo.body (row_before store d) c.undo.before pieces touched body whole.0.kind)) unseen reads

-- the same of its pop; a read at the freed node goes on from the head
pub whole_popped : (store : Store) (d k : ℕ) (node head : Address) (free : List Address) (c : Change) (cs : List Change) (pieces : ℕ) (touched : List ℕ) (rs : List Read)
    → IsWell store → changes store d ≡ c ∷ cs → c.undo.body ≡ versioned pieces touched
    → AtOne k (IsPushed (suc c.undo.before.lob.version) node head) (HasNoNode node) (pieces_at store.lobs c.undo.before.lob.page)
    → ((q : ℕ) → q ≢ c.undo.before.lob.page → AtOthers (HasNoNode node) (pieces_at store.lobs q)) → MaySee (λ r. r.sees c.trx ≡ false) rs
    → AreReads store rs → AreReads (version_popped c.undo.before.lob.page k free store) (map (shifted node head) rs)
whole_popped store d k node head free c cs pieces touched rs well is body pushed apart unseen reads =
    let whole : IsChain (row_before store d) (c ∷ cs) = subst (IsChain (row_before store d)) is (well.chains d) in
    reads_popped store d k node head free c cs pieces touched rs is (well.chains d) body pushed apart
    (others_elsewhere store d [] c cs well is (versioned_live c.undo.body (row_before store d) c.undo.before pieces touched body whole.0.kind)) unseen reads

frees_kind : (b : Body) → Frees b → (b ≡ removed) ⊎ ((page : ℕ) × (b ≡ rebuilt page))
frees_kind (inserted page) frees = absurd frees
frees_kind (rebuilt page) frees = inr (page, refl)
frees_kind (versioned pieces touched) frees = absurd frees
frees_kind (patched old) frees = absurd frees
frees_kind removed frees = inl refl

-- in a store that is well, the purge of a record keeps all reads that see its transaction
pub whole_passed : (a : Address) (u : Record) (store : Store) (l : Log) (ls : List Log) (rs : List Read) → IsWell store → store.committed ≡ l ∷ ls → last_in l.records ≡ (a, u) ∷ []
    → MaySee (λ r. (r.sees l.trx ≡ true) × (r.sees 0 ≡ true)) rs → AreReads store rs → AreReads (record_passed a l.trx u store) rs
whole_passed a u store l ls rs well first oldest may reads =
    reads_passed a u store l ls rs first oldest (well.chains u.doc) (well_distinct store u.doc well)
    (λ d other frees. others_elsewhere store u.doc (front store u.doc) (change l.trx a u) [] well is
    (live_before u.body _ u.before (own_step (row_before store u.doc) (front store u.doc) (change l.trx a u) [] whole).kind (frees_kind u.body frees)) d other)
    may reads
  where
    is : changes store u.doc ≡ front store u.doc ++ change l.trx a u ∷ []
    is = own_passed a u store l ls first oldest

    whole : IsChain (row_before store u.doc) (front store u.doc ++ change l.trx a u ∷ [])
    whole = subst (IsChain (row_before store u.doc)) is (well.chains u.doc)
