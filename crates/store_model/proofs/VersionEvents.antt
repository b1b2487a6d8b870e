-- LOB versions under the planning events, and where one LOB changes.
use Rattle.std.proofs.Common.{◌≡◌, ◌≢◌, inl, inr, ℕ, zero, suc, ◌≤◌, List, [], ◌∷◌, ◌++◌, Option, Some, None, refl, sym, subst, ◌∙◌, arith}
use Rattle.std.proofs.lemmas.Bool.{cases_eq}
use Rattle.page_model.specs.Pages.{Address}
use Rattle.store_data.specs.Pieces.{pushed, popped, popped_to, dropped, all_but_last}
use Rattle.store_data.specs.Store.{Row, live, Version, Piece, Lob, Run, Body, inserted, rebuilt, versioned, patched, removed, Log, Store}
use Rattle.store_model.specs.Lobs.{lob_of}
use Rattle.store_model.specs.Runs.{lobs_laid}
use Rattle.store_model.specs.History.{Change, changes, row_before}
use Rattle.store_model.specs.Steps.{on_lob, on_lobs, at_version, on_piece, log_of}
use Rattle.store_model.specs.Events.{Plan, planned, new_row, raised_row, patched_row, deleted_row, insert_begun, rebuild_begun, version_begun, patch_made, delete_made, moved, committed_by}
use Rattle.store_model.specs.Behind.{IsElsewhere}
use Rattle.store_model.specs.Moves.{MayChange, IsUnnamed}
use Rattle.store_model.specs.Well.{IsWell}
use Rattle.store_model.specs.Versions.{AreOlderUpTo, AreUpTo, HoldsAt, IfNewest, HoldBehind, HasVersions}
use Rattle.store_model.proofs.RowLemmas.{row-with_this, row-with_other}
use Rattle.store_model.proofs.LogLemmas.{Some_same}
use Rattle.store_model.proofs.LobLemmas.{lob-on_this}
use Rattle.store_model.proofs.ChangeLemmas.{changes-own, changes-other}
use Rattle.store_model.proofs.CommitLemmas.{moved-keeps}
use Rattle.store_model.proofs.TakesLemmas.{lob-with_this}
use Rattle.store_model.proofs.VersionLemmas.{up_more, holds_laid, holds_on, holds_mapped, behind_all, behind_live, before_all, before_each, elsewhere_with, elsewhere_on}

-- ---- a change is begun

-- a live newest row's LOB has its version, as has that before each change of kind Full or Removed
abbrev pub HoldsOf : List Lob → Row → List Change → Type 0
HoldsOf lobs row cs = (row.state ≡ live → HoldsAt lobs row) × HoldBehind lobs cs

planned_versions : (p : Plan) (new : Row → Row) (body : Body) (f : List Lob → List Lob) (store : Store) → MayChange p store
    → ((new (row_before store p.doc)).state ≡ live → HoldsAt (f store.lobs) (new (row_before store p.doc))) → IfNewest body (HoldsAt (f store.lobs) (row_before store p.doc)) → HoldBehind (f store.lobs) (changes store p.doc)
    → ((d : ℕ) → d ≢ p.doc → HoldsOf (f store.lobs) (row_before store d) (changes store d)) → HasVersions (on_lobs f (planned p new body store))
planned_versions p new body f store may own head behind others d = elim (cases_eq d p.doc) [
  | inl same ↦ subst (λ q. HoldsOf (f store.lobs) (row_before after q) (changes after q)) (sym same)
      (subst (λ r. HoldsOf (f store.lobs) r (changes after p.doc)) (sym (row-with_this p.doc (new before) store))
      (subst (λ cs. HoldsOf (f store.lobs) (new before) cs) (sym (changes-own p (new before) before body f store may)) (own, (head, behind))))
  | inr other ↦ subst (λ r. HoldsOf (f store.lobs) r (changes after d)) (sym (row-with_other p.doc d (new before) store other))
      (subst (λ cs. HoldsOf (f store.lobs) (row_before store d) cs) (sym (changes-other p (new before) before body f store d other)) (others d other))
]
  where
    before : Row
    before = row_before store p.doc

    after : Store
    after = on_lobs f (planned p new body store)

module _ (p : Plan) (store : Store) (may : MayChange p store) (well : IsWell store) (has : HasVersions store) where
  with_lob : (lob : Lob) → IsUnnamed lob.page store → (d : ℕ) → HoldsOf (store.lobs ++ lob ∷ []) (row_before store d) (changes store d)
  with_lob lob unnamed d = (
    (λ is_live. elsewhere_with store.lobs lob (row_before store d) (unnamed d).0 is_live ((has d).0 is_live)),
    behind_all store.lobs (store.lobs ++ lob ∷ []) (row_before store d) (changes store d) (well.chains d) (before_all (IsElsewhere lob.page) _ (changes store d) (λ r away. elsewhere_with store.lobs lob r away) (unnamed d).1) (has d).1,
  )

  new_holds : (lob : Lob) (len : ℕ) → lob_of store.lobs lob.page ≡ None → lob.version ≡ 1 → AreUpTo 1 lob.pieces → HoldsAt (store.lobs ++ lob ∷ []) (new_row p lob.page len (row_before store p.doc))
  new_holds lob len none one up l there = subst (λ (m : Lob). (m.version ≡ 1) × AreUpTo 1 m.pieces) (Some_same lob l (sym (lob-with_this store.lobs lob none) ∙ there)) (one, up)

  pub insert_versions : (lob : Lob) (len : ℕ) → IsUnnamed lob.page store → lob_of store.lobs lob.page ≡ None → lob.version ≡ 1 → AreUpTo 1 lob.pieces → HasVersions (insert_begun p lob len store)
  insert_versions lob len unnamed none one up = planned_versions p (new_row p lob.page len) (inserted lob.page) (λ ls. ls ++ lob ∷ []) store may
      (λ is_live. new_holds lob len none one up) tt (with_lob lob unnamed p.doc).1 (λ d other. with_lob lob unnamed d)

  pub rebuild_versions : (lob : Lob) (len : ℕ) → IsUnnamed lob.page store → lob_of store.lobs lob.page ≡ None → lob.version ≡ 1 → AreUpTo 1 lob.pieces → (row_before store p.doc).state ≡ live → HasVersions (rebuild_begun p lob len store)
  rebuild_versions lob len unnamed none one up is_live = planned_versions p (new_row p lob.page len) (rebuilt lob.page) (λ ls. ls ++ lob ∷ []) store may
      (λ new_live. new_holds lob len none one up) ((with_lob lob unnamed p.doc).0 is_live) (with_lob lob unnamed p.doc).1 (λ d other. with_lob lob unnamed d)

  pub version_versions : (pieces : ℕ) (touched : List ℕ) → (row_before store p.doc).state ≡ live → HasVersions (version_begun p pieces touched store)
  version_versions pieces touched is_live = planned_versions p (raised_row p) (versioned pieces touched) (on_lob page f) store may
      (λ new_live. holds_mapped f store.lobs (on_lob page f store.lobs) before (raised_row p before) (lob-on_this page f store.lobs (λ l. refl))
      (λ l there. (refl, up_more before.lob.version (suc before.lob.version) l.pieces (omega arith) ((has p.doc).0 is_live l there).1)))
      tt (behind_live f store.lobs before (changes store p.doc) (λ l. refl) (well.chains p.doc) is_live page refl (has p.doc).1)
      (λ d other. let away = (well.apart p.doc d (λ e. other (sym e))).0 is_live in (
        (λ live_d. elsewhere_on page f store.lobs (row_before store d) (λ l. refl) away.0 live_d ((has d).0 live_d)),
        behind_all store.lobs (on_lob page f store.lobs) (row_before store d) (changes store d) (well.chains d) (before_all (IsElsewhere page) _ (changes store d) (λ r elsewhere. elsewhere_on page f store.lobs r (λ l. refl) elsewhere) away.1) (has d).1,
      ))
    where
      before : Row
      before = row_before store p.doc

      page : ℕ
      page = before.lob.page

      f : Lob → Lob
      f = at_version (suc before.lob.version)

  laid_versions : (rs : List Run) (d : ℕ) → HoldsOf (lobs_laid rs store.lobs) (row_before store d) (changes store d)
  laid_versions rs d = (
    (λ is_live. holds_laid rs store.lobs (row_before store d) ((has d).0 is_live)),
    behind_all store.lobs (lobs_laid rs store.lobs) (row_before store d) (changes store d) (well.chains d) (before_each _ (changes store d) (λ r is_live. holds_laid rs store.lobs r)) (has d).1,
  )

  pub patch_versions : (old new : List Run) → (row_before store p.doc).state ≡ live → HasVersions (patch_made p old new store)
  patch_versions old new is_live = planned_versions p (patched_row p) (patched old) (lobs_laid new) store may
      (λ new_live. (laid_versions new p.doc).0 is_live) tt (laid_versions new p.doc).1 (λ d other. laid_versions new d)

  pub delete_versions : (row_before store p.doc).state ≡ live → HasVersions (delete_made p store)
  delete_versions is_live = planned_versions p (deleted_row p) removed (λ ls. ls) store may
      (λ new_live. absurd (cc new_live)) ((has p.doc).0 is_live) (has p.doc).1 (λ d other. has d)

-- ---- one LOB changes

-- LOB versions hold on where one LOB keeps its version and gets no newer entry
pub lob_versions : (page : ℕ) (f : Lob → Lob) (store : Store) → IsWell store → ((l : Lob) → (f l).page ≡ l.page) → ((l : Lob) → (f l).version ≡ l.version)
    → ((l : Lob) → lob_of store.lobs page ≡ Some l → AreUpTo l.version l.pieces → AreUpTo l.version (f l).pieces) → HasVersions store → HasVersions (on_lobs (on_lob page f) store)
lob_versions page f store well same version keeps has d = (
  (λ is_live. holds_on page f store.lobs (row_before store d) same version keeps ((has d).0 is_live)),
  behind_all store.lobs (on_lob page f store.lobs) (row_before store d) (changes store d) (well.chains d) (before_each _ (changes store d) (λ r is_live. holds_on page f store.lobs r same version keeps)) (has d).1,
)

up_piece : (v k : ℕ) (f : Piece → Piece) (ps : List Piece) → ((p : Piece) → AreOlderUpTo v (p.head ∷ p.older) → AreOlderUpTo v ((f p).head ∷ (f p).older)) → AreUpTo v ps → AreUpTo v (on_piece k f ps)
up_piece v k f [] keeps all = tt
up_piece v zero f (p ∷ ps) keeps all = (keeps p all.0, all.1)
up_piece v (suc k) f (p ∷ ps) keeps all = (all.0, up_piece v k f ps keeps all.1)

-- entries stay up to a version where one up to it is pushed to a piece
pub up_pushed : (v k : ℕ) (node : Address) (x : Version) (ps : List Piece) → x.number ≤ v → AreUpTo v ps → AreUpTo v (on_piece k (pushed node x) ps)
up_pushed v k node x ps up all = up_piece v k (pushed node x) ps (λ p numbers. (up, numbers)) all

-- so where a piece loses its newest version
pub up_popped : (v k : ℕ) (ps : List Piece) → AreUpTo v ps → AreUpTo v (on_piece k popped ps)
up_popped v k ps all = up_piece v k popped ps (λ p numbers. one p p.older refl numbers) all
  where
    one : (p : Piece) (xs : List Version) → p.older ≡ xs → AreOlderUpTo v (p.head ∷ p.older) → AreOlderUpTo v ((popped_to p.head.place xs p).head ∷ (popped_to p.head.place xs p).older)
    one p [] e numbers = numbers
    one p (x ∷ xs) e numbers = subst (AreOlderUpTo v) e numbers.1

older_front : (v : ℕ) (xs : List Version) → AreOlderUpTo v xs → AreOlderUpTo v (all_but_last xs)
older_front v [] all = tt
older_front v (x ∷ []) all = tt
older_front v (x ∷ y ∷ ys) all = (all.0, older_front v (y ∷ ys) all.1)

-- so where a piece loses its oldest version
pub up_dropped : (v k : ℕ) (ps : List Piece) → AreUpTo v ps → AreUpTo v (on_piece k dropped ps)
up_dropped v k ps all = up_piece v k dropped ps (λ p numbers. (numbers.0, older_front v p.older numbers.1)) all

-- so where a piece is added whose entries are up to it
pub up_added : (v : ℕ) (p : Piece) (ps : List Piece) → AreOlderUpTo v (p.head ∷ p.older) → AreUpTo v ps → AreUpTo v (ps ++ p ∷ [])
up_added v p [] up all = (up, tt)
up_added v p (q ∷ qs) up all = (all.0, up_added v p qs up all.1)

-- so where the last piece goes
pub up_front : (v : ℕ) (ps : List Piece) → AreUpTo v ps → AreUpTo v (all_but_last ps)
up_front v [] all = tt
up_front v (p ∷ []) all = tt
up_front v (p ∷ q ∷ qs) all = (all.0, up_front v (q ∷ qs) all.1)

-- ---- commit

-- LOB versions hold on where a transaction is committed
pub commit_versions : (trx : ℕ) (store : Store) → IsWell store → HasVersions store → HasVersions (committed_by trx store)
commit_versions trx store well has d = by_log (log_of store.active trx) refl
  where
    by_log : (o : Option Log) → log_of store.active trx ≡ o → HoldsOf (moved trx o store).lobs (row_before (moved trx o store) d) (changes (moved trx o store) d)
    by_log None there = has d
    by_log (Some l) there = subst (λ cs. HoldsOf store.lobs (row_before store d) cs) (sym (moved-keeps trx d store (Some l) there (well.locked d))) (has d)
