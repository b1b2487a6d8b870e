-- All reads are kept where a LOB is worked on: pushes, pops, drops, and pieces of LOBs that no view needs.
use Rattle.std.proofs.Common.{◌≡◌, ◌≢◌, ℕ, suc, false, true, List, [], ◌∷◌, map, sym, subst, inl, inr}
use Rattle.std.proofs.lemmas.Bool.Decides.{eqb_tells}
use Rattle.page_model.specs.Pages.{Address}
use Rattle.store_data.specs.Store.{Version, Lob, versioned, Store}
use Rattle.store_model.specs.History.{Change, changes, row_before}
use Rattle.store_model.specs.Steps.{on_lobs, on_lob}
use Rattle.store_model.specs.Events.{version_pushed}
use Rattle.store_model.specs.Undo.{version_popped, version_dropped}
use Rattle.store_model.specs.Behind.{AllBefore, AllRows, IsElsewhere}
use Rattle.store_model.specs.Purging.{AllTo, FindsWithout}
use Rattle.store_model.specs.Well.{IsChain}
use Rattle.read_model.specs.Document.{pieces_at}
use Rattle.read_model.specs.OfStore.{document}
use Rattle.read_model.specs.Kinds.{IsOlder, MayPop, IsPushed, HasNoNode, AtOne, AtOthers, IsElsewhere as SeesElsewhere}
use Rattle.read_model.specs.Reads.{Read, AreReads, MaySee, shifted}
use Rattle.read_model.proofs.KindLemmas.{elsewhere_kept}
use Rattle.read_model.proofs.StoreLemmas.{seen_elsewhere, before_elsewhere}
use Rattle.read_model.proofs.StoreLobLemmas.{push_touches, pop_frees, drop_touches}
use Rattle.read_model.proofs.WellLemmas.{raised_well, drop_well}
use Rattle.read_model.proofs.OtherLemmas.{pop_well}
use Rattle.read_model.proofs.ReadsLemmas.{reads_touched, reads_freed}

see_more : (P Q : Read → Type 0) (rs : List Read) → ((r : Read) → P r → Q r) → MaySee P rs → MaySee Q rs
see_more P Q [] on may = tt
see_more P Q (r ∷ rs) on may = (on r may.0, see_more P Q rs on may.1)

-- ---- a LOB that no view needs: that of the newest change of one document, and of no row of another
pub reads_elsewhere : (store : Store) (d page : ℕ) (f : Lob → Lob) (rs : List Read) → ((l : Lob) → (f l).page ≡ l.page) → AllBefore (IsElsewhere page) (changes store d)
    → ((e : ℕ) → e ≢ d → AllRows (IsElsewhere page) store e) → MaySee (λ r. r.sees (row_before store d).trx ≡ false) rs → AreReads store rs → AreReads (on_lobs (on_lob page f) store) rs
reads_elsewhere store d page f rs stays before others unseen reads =
    reads_touched store (on_lobs (on_lob page f) store) rs
    (see_more _ _ rs (λ r u. elsewhere_kept r.sees (document store r.doc) page f stays (away r u)) unseen) reads
  where
    away : (r : Read) → r.sees (row_before store d).trx ≡ false → SeesElsewhere r.sees (document store r.doc) page
    away r u = elim (eqb_tells r.doc d) [
      | inl here ↦ subst (λ (n : ℕ). SeesElsewhere r.sees (document store n) page) (sym here.1) (before_elsewhere r.sees store d page u before)
      | inr other ↦ seen_elsewhere r.sees store r.doc page (others r.doc other.1)
    ]

-- ---- a version of the newest change is pushed or popped

older_each : (store : Store) (d : ℕ) (c : Change) (cs : List Change) (pieces : ℕ) (touched : List ℕ) (r : Read) → changes store d ≡ c ∷ cs → IsChain (row_before store d) (changes store d)
    → c.undo.body ≡ versioned pieces touched → ((e : ℕ) → e ≢ d → AllRows (IsElsewhere c.undo.before.lob.page) store e) → r.sees c.trx ≡ false
    → IsOlder r.sees (document store r.doc) c.undo.before.lob.page (suc c.undo.before.lob.version)
older_each store d c cs pieces touched r is chain body others unseen = elim (eqb_tells r.doc d) [
  | inl here ↦ subst (λ (n : ℕ). IsOlder r.sees (document store n) c.undo.before.lob.page (suc c.undo.before.lob.version)) (sym here.1) (raised_well r.sees store d c cs pieces touched is chain body unseen)
  | inr other ↦ λ above older v visible state same. absurd (seen_elsewhere r.sees store r.doc c.undo.before.lob.page (others r.doc other.1) above older v visible state same)
]

-- a version pushed for the newest change keeps all reads whose views don't see that change
pub reads_pushed : (store : Store) (d k : ℕ) (node : Address) (x : Version) (index : List ℕ) (free : List Address) (c : Change) (cs : List Change) (pieces : ℕ) (touched : List ℕ) (rs : List Read)
    → changes store d ≡ c ∷ cs → IsChain (row_before store d) (changes store d) → c.undo.body ≡ versioned pieces touched → x.number ≡ suc c.undo.before.lob.version
    → ((e : ℕ) → e ≢ d → AllRows (IsElsewhere c.undo.before.lob.page) store e) → MaySee (λ r. r.sees c.trx ≡ false) rs
    → AreReads store rs → AreReads (version_pushed c.undo.before.lob.page k node x index free store) rs
reads_pushed store d k node x index free c cs pieces touched rs is chain body number others unseen reads =
    reads_touched store (version_pushed c.undo.before.lob.page k node x index free store) rs
    (see_more _ _ rs (λ r u. push_touches r.sees store r.doc c.undo.before.lob.page k node x index free
    (subst (IsOlder r.sees (document store r.doc) c.undo.before.lob.page) (sym number) (older_each store d c cs pieces touched r is chain body others u))) unseen) reads

-- so does its pop while the change is undone; a read at the freed node goes on from the head
pub reads_popped : (store : Store) (d k : ℕ) (node head : Address) (free : List Address) (c : Change) (cs : List Change) (pieces : ℕ) (touched : List ℕ) (rs : List Read)
    → changes store d ≡ c ∷ cs → IsChain (row_before store d) (changes store d) → c.undo.body ≡ versioned pieces touched
    → AtOne k (IsPushed (suc c.undo.before.lob.version) node head) (HasNoNode node) (pieces_at store.lobs c.undo.before.lob.page)
    → ((q : ℕ) → q ≢ c.undo.before.lob.page → AtOthers (HasNoNode node) (pieces_at store.lobs q))
    → ((e : ℕ) → e ≢ d → AllRows (IsElsewhere c.undo.before.lob.page) store e) → MaySee (λ r. r.sees c.trx ≡ false) rs
    → AreReads store rs → AreReads (version_popped c.undo.before.lob.page k free store) (map (shifted node head) rs)
reads_popped store d k node head free c cs pieces touched rs is chain body pushed apart others unseen reads =
    reads_freed store (version_popped c.undo.before.lob.page k free store) node head rs
    (see_more _ _ rs (λ r u. pop_frees r.sees store r.doc c.undo.before.lob.page k node head free (may r u)) unseen) reads
  where
    may : (r : Read) → r.sees c.trx ≡ false → MayPop r.sees (document store r.doc) c.undo.before.lob.page k node head
    may r u = elim (eqb_tells r.doc d) [
      | inl here ↦ subst (λ (n : ℕ). MayPop r.sees (document store n) c.undo.before.lob.page k node head) (sym here.1)
          (pop_well r.sees store d k node head c cs pieces touched is chain body u pushed apart)
      | inr other ↦ λ above older v visible state. (
        λ same. absurd (seen_elsewhere r.sees store r.doc c.undo.before.lob.page (others r.doc other.1) above older v visible state same),
        λ differs. apart v.lob.page differs,
      )
    ]

-- ---- purge drops a version that rows down to the purged transaction's don't need

-- a drop keeps all reads that see the purged transaction, where no row down to it needs the version
pub reads_dropped : (store : Store) (page k trx : ℕ) (free : List Address) (rs : List Read) → ((d : ℕ) → AllTo trx (FindsWithout page k store.lobs) (row_before store d) (changes store d))
    → MaySee (λ r. r.sees trx ≡ true) rs → AreReads store rs → AreReads (version_dropped page k free store) rs
reads_dropped store page k trx free rs finds known reads =
    reads_touched store (version_dropped page k free store) rs
    (see_more _ _ rs (λ r s. drop_touches r.sees store r.doc page k free (drop_well r.sees store r.doc page k trx s (finds r.doc))) known) reads
