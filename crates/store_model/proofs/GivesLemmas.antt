-- What well-formed stores keep, event by event.
use Rattle.std.proofs.Common.{◌≡◌, ◌≢◌, inl, inr, ℕ, zero, suc, ◌≤◌, Bool, true, false, nat_le, if◌then◌else◌, is_some, List, [], ◌∷◌, ◌++◌, Some, refl, sym, ap, subst, ◌∙◌, arith}
use Rattle.std.proofs.lemmas.Bool.{cases_eq, cases_Bool, lt-leb}
use Rattle.std.proofs.lemmas.Bool.Decides.{leb_tells}
use Rattle.page_model.specs.Pages.{Address}
use Rattle.store_data.specs.Logs.{passed}
use Rattle.store_data.specs.Pieces.{version_at, piece_at, dropped, all_but_last}
use Rattle.store_data.specs.Store.{Row, live, Reference, Version, Piece, Lob, Body, inserted, rebuilt, versioned, patched, removed, Record, Log, Store}
use Rattle.store_model.specs.Lobs.{lob_of}
use Rattle.store_model.specs.History.{Change, changes, row_before, seen}
use Rattle.store_model.specs.Steps.{on_lob, on_lobs, at_piece, last_in, without_lob, without_piece, without_index}
use Rattle.store_model.specs.Events.{piece_added, version_pushed}
use Rattle.store_model.specs.Undo.{is_gone, without_newest, undo_ended, piece_freed, index_freed, version_popped, version_dropped, cleared, on_oldest, record_passed}
use Rattle.store_model.specs.Behind.{AllBefore, AllRows, SameParts, IsElsewhere, IsBelow, AtPiece}
use Rattle.store_model.specs.Moves.{KeepsOlder, KeepsAll, IsNewest, OlderElsewhere, OlderBelow}
use Rattle.store_model.specs.Purging.{SeesSame, AllTo, FindsWithout}
use Rattle.store_model.specs.Well.{IsKind, IsStep, IsChain, AllIn, AreNamedOnce, IsWell}
use Rattle.store_model.specs.Keeps.{Restores, IsVersioned, Makes, Frees}
use Rattle.store_model.proofs.LogLemmas.{change}
use Rattle.store_model.proofs.HistoryLemmas.{all-rows, same-without}
use Rattle.store_model.proofs.ChangeLemmas.{rows_so, all_of}
use Rattle.store_model.proofs.FurtherLemmas.{push_keeps_older, push_keeps_all, piece_keeps_older, piece_keeps_all}
use Rattle.store_model.proofs.UndoLemmas.{changes-popped, undo_own, undo_gone, free_keeps_older, free_keeps_all, index_keeps_older, index_keeps_all, pop_keeps_older, pop_keeps_all, elsewhere_all}
use Rattle.store_model.proofs.PurgeLemmas.{pass_own, pass_others, elsewhere_seen, drop_seen}
use Rattle.store_model.proofs.ChainLemmas.{older_below, chain_meets, front_elsewhere, front_from, IsFrom, all_to, all_to_change}
use Rattle.store_model.proofs.WellBackLemmas.{well_undone, swept_well, passed_all}
use Rattle.store_model.proofs.NamedLemmas.{gone_is_last}
use Rattle.store_model.proofs.DistinctLemmas.{distinct_popped}

-- ---- the newest change of a document

-- its chain
pub newest_chain : (store : Store) (d : ℕ) (c : Change) (cs : List Change) → IsWell store → changes store d ≡ c ∷ cs → IsChain (row_before store d) (c ∷ cs)
newest_chain store d c cs well e = subst (IsChain (row_before store d)) e (well.chains d)

-- a LOB that it made is no older row's
pub made_elsewhere : (store : Store) (d page : ℕ) (c : Change) (cs : List Change) → IsWell store → changes store d ≡ c ∷ cs → Makes page c.undo.body → AllBefore (IsElsewhere page) (changes store d)
made_elsewhere store d page c cs well e makes = subst (AllBefore (IsElsewhere page)) (sym e) (by_kind c.undo.body makes (newest_chain store d c cs well e).0.fresh)
  where
    by_kind : (b : Body) → Makes page b → OlderElsewhere b (c ∷ cs) → AllBefore (IsElsewhere page) (c ∷ cs)
    by_kind (inserted q) makes fresh = subst (λ n. AllBefore (IsElsewhere n) (c ∷ cs)) makes fresh
    by_kind (rebuilt q) makes fresh = subst (λ n. AllBefore (IsElsewhere n) (c ∷ cs)) makes fresh
    by_kind (versioned pieces touched) makes fresh = absurd makes
    by_kind (patched old) makes fresh = absurd makes
    by_kind removed makes fresh = absurd makes

-- a document whose newest change made a LOB has a live row with this LOB
pub made_live : (store : Store) (d page : ℕ) (c : Change) (cs : List Change) → IsWell store → changes store d ≡ c ∷ cs → Makes page c.undo.body
    → ((row_before store d).state ≡ live) × ((row_before store d).lob.page ≡ page)
made_live store d page c cs well e makes = by_kind c.undo.body makes (newest_chain store d c cs well e).0.kind
  where
    by_kind : (b : Body) → Makes page b → IsKind b (row_before store d) c.undo.before → ((row_before store d).state ≡ live) × ((row_before store d).lob.page ≡ page)
    by_kind (inserted q) makes kind = (kind.0, kind.1 ∙ makes)
    by_kind (rebuilt q) makes kind = (kind.0, kind.1 ∙ makes)
    by_kind (versioned pieces touched) makes kind = absurd makes
    by_kind (patched old) makes kind = absurd makes
    by_kind removed makes kind = absurd makes

-- nor another document's
pub others_elsewhere : (store : Store) (d e page : ℕ) → IsWell store → d ≢ e → (row_before store d).state ≡ live → (row_before store d).lob.page ≡ page → AllRows (IsElsewhere page) store e
others_elsewhere store d e page well differ is_live here = subst (λ n. AllRows (IsElsewhere n) store e) here ((well.apart d e differ).0 is_live)

-- a version that is pushed for it is no older row's
pub version_below : (store : Store) (d : ℕ) (c : Change) (cs : List Change) → IsWell store → changes store d ≡ c ∷ cs → IsVersioned c.undo.body
    → AllBefore (IsBelow (row_before store d).lob.page (row_before store d).lob.version) (changes store d)
version_below store d c cs well e versioned_so = subst (AllBefore (IsBelow row.lob.page row.lob.version)) (sym e) (by_kind c.undo.body versioned_so chain.0.kind (older_below row c cs chain))
  where
    row : Row
    row = row_before store d

    chain : IsChain row (c ∷ cs)
    chain = newest_chain store d c cs well e

    by_kind : (b : Body) → IsVersioned b → IsKind b row c.undo.before → OlderBelow b c.undo.before (c ∷ cs) → AllBefore (IsBelow row.lob.page row.lob.version) (c ∷ cs)
    by_kind (inserted q) v kind below = absurd v
    by_kind (rebuilt q) v kind below = absurd v
    by_kind (versioned pieces touched) v kind below = subst (λ (r : Reference). AllBefore (IsBelow r.page r.version) (c ∷ cs)) (sym kind.2) below
    by_kind (patched old) v kind below = absurd v
    by_kind removed v kind below = absurd v

-- a document whose newest change is of kind Versioned has a live row
pub version_live : (store : Store) (d : ℕ) (c : Change) (cs : List Change) → IsWell store → changes store d ≡ c ∷ cs → IsVersioned c.undo.body → (row_before store d).state ≡ live
version_live store d c cs well e versioned_so = by_kind c.undo.body versioned_so (newest_chain store d c cs well e).0.kind
  where
    by_kind : (b : Body) → IsVersioned b → IsKind b (row_before store d) c.undo.before → (row_before store d).state ≡ live
    by_kind (inserted q) v kind = absurd v
    by_kind (rebuilt q) v kind = absurd v
    by_kind (versioned pieces touched) v kind = kind.0
    by_kind (patched old) v kind = absurd v
    by_kind removed v kind = absurd v

elsewhere_below : (page n : ℕ) (row : Row) → IsElsewhere page row → IsBelow page n row
elsewhere_below page n row elsewhere is_live here = absurd (elsewhere is_live here)

-- ---- further events of a change

module _ (store : Store) (d : ℕ) (c : Change) (cs : List Change) (well : IsWell store) (e : changes store d ≡ c ∷ cs) where
  pub push_older : (versioned_so : IsVersioned c.undo.body) (k : ℕ) (node : Address) (v : Version) (index : List ℕ) (free : List Address) → v.number ≡ (row_before store d).lob.version
      → KeepsOlder d store (version_pushed (row_before store d).lob.page k node v index free store)
  push_older versioned_so k node v index free same = push_keeps_older (row_before store d).lob.page k node v index free store d
      (subst (λ n. AllBefore (IsBelow (row_before store d).lob.page n) (changes store d)) (sym same) (version_below store d c cs well e versioned_so))

  pub push_others : (versioned_so : IsVersioned c.undo.body) (k : ℕ) (node : Address) (v : Version) (index : List ℕ) (free : List Address) (q : ℕ) → d ≢ q
      → KeepsAll q store (version_pushed (row_before store d).lob.page k node v index free store)
  push_others versioned_so k node v index free q differ = push_keeps_all (row_before store d).lob.page k node v index free store q
      (rows_so (IsElsewhere (row_before store d).lob.page) _ store q (elsewhere_below (row_before store d).lob.page v.number)
      (others_elsewhere store d q (row_before store d).lob.page well differ (version_live store d c cs well e versioned_so) refl))

  pub pop_older : (versioned_so : IsVersioned c.undo.body) (k : ℕ) (free : List Address)
      → ((l : Lob) → lob_of store.lobs (row_before store d).lob.page ≡ Some l → AtPiece k (λ p. (row_before store d).lob.version ≤ p.head.number) l.pieces)
      → KeepsOlder d store (version_popped (row_before store d).lob.page k free store)
  pop_older versioned_so k free there = pop_keeps_older (row_before store d).lob.page k (row_before store d).lob.version free store d there (version_below store d c cs well e versioned_so)

  pub pop_others : (versioned_so : IsVersioned c.undo.body) (k : ℕ) (free : List Address) (q : ℕ)
      → ((l : Lob) → lob_of store.lobs (row_before store d).lob.page ≡ Some l → AtPiece k (λ p. (row_before store d).lob.version ≤ p.head.number) l.pieces)
      → d ≢ q → KeepsAll q store (version_popped (row_before store d).lob.page k free store)
  pop_others versioned_so k free q there differ = pop_keeps_all (row_before store d).lob.page k (row_before store d).lob.version free store q there
      (rows_so (IsElsewhere (row_before store d).lob.page) _ store q (elsewhere_below (row_before store d).lob.page (row_before store d).lob.version)
      (others_elsewhere store d q (row_before store d).lob.page well differ (version_live store d c cs well e versioned_so) refl))

  pub piece_older : (page : ℕ) (makes : Makes page c.undo.body) (piece : Piece) (index : List ℕ) (free : List Address) → KeepsOlder d store (piece_added page piece index free store)
  piece_older page makes piece index free = piece_keeps_older page piece index free store d (made_elsewhere store d page c cs well e makes)

  pub piece_others : (page : ℕ) (makes : Makes page c.undo.body) (piece : Piece) (index : List ℕ) (free : List Address) (q : ℕ) → d ≢ q → KeepsAll q store (piece_added page piece index free store)
  piece_others page makes piece index free q differ = let r = made_live store d page c cs well e makes in piece_keeps_all page piece index free store q (others_elsewhere store d q page well differ r.0 r.1)

  pub freed_older : (page : ℕ) (makes : Makes page c.undo.body) (free : List Address) → KeepsOlder d store (piece_freed page free store)
  freed_older page makes free = free_keeps_older page store d free (made_elsewhere store d page c cs well e makes)

  pub freed_others : (page : ℕ) (makes : Makes page c.undo.body) (free : List Address) (q : ℕ) → d ≢ q → KeepsAll q store (piece_freed page free store)
  freed_others page makes free q differ = let r = made_live store d page c cs well e makes in free_keeps_all page store q free (others_elsewhere store d q page well differ r.0 r.1)

  pub index_older : (page : ℕ) (makes : Makes page c.undo.body) → KeepsOlder d store (index_freed page store)
  index_older page makes = index_keeps_older page store d (made_elsewhere store d page c cs well e makes)

  pub index_others : (page : ℕ) (makes : Makes page c.undo.body) (q : ℕ) → d ≢ q → KeepsAll q store (index_freed page store)
  index_others page makes q differ = let r = made_live store d page c cs well e makes in index_keeps_all page store q (others_elsewhere store d q page well differ r.0 r.1)

-- ---- the last event of a rollback's record

module _ (trx : ℕ) (place : Address) (u : Record) (store : Store) (well : IsWell store) (new : IsNewest trx place u store) where
  pub undo_chain : IsChain (row_before store u.doc) (change trx place u ∷ changes (without_newest trx u store) u.doc)
  undo_chain = newest_chain store u.doc (change trx place u) (changes (without_newest trx u store) u.doc) well (changes-popped trx place u store new)

  pub gone_last : is_gone (without_newest trx u store) u.before.state u.before ≡ true → changes (without_newest trx u store) u.doc ≡ []
  gone_last gone = gone_is_last u.doc (without_newest trx u store) u.before (changes (without_newest trx u store) u.doc)
      (distinct_popped trx store.active store.committed well.logs) refl undo_chain.1 gone

  pub well_undo : IsWell (undo_ended trx u store)
  well_undo = well_undone trx place u store well new gone_last

  pub undo_history : Restores u store (undo_ended trx u store)
  undo_history = elim (cases_Bool (is_gone (without_newest trx u store) u.before.state u.before)) [
    | inl gone ↦ inr (undo_gone trx place u store new gone (gone_last gone))
    | inr stays ↦ inl (undo_own trx place u store new (subst (OlderElsewhere u.body) (sym (changes-popped trx place u store new)) undo_chain.0.fresh) stays)
  ]

-- ---- purge passes a record

-- what is found at a version is found at a later one
pub found_later : (vs : List Version) (n v : ℕ) → n ≤ v → is_some (version_at vs n) ≡ true → is_some (version_at vs v) ≡ true
found_later [] n v up there = there
found_later (x ∷ xs) n v up there = elim (leb_tells x.number v) [
  | inl low ↦ rw low.0 refl
  | inr high ↦ rw high.0 (found_later xs n v up (by_test (nat_le x.number n) (lt-leb x.number n (omega (arith, high.1))) there))
]
  where
    by_test : (b : Bool) → b ≡ false → is_some (if b then Some x else version_at xs n) ≡ true → is_some (version_at xs n) ≡ true
    by_test true e h = absurd (cc e)
    by_test false e h = h

at_later : (k n v : ℕ) (ps : List Piece) → n ≤ v → AtPiece k (λ p. is_some (piece_at (dropped p) n) ≡ true) ps → AtPiece k (λ p. is_some (piece_at (dropped p) v) ≡ true) ps
at_later k n v [] up there = tt
at_later zero n v (p ∷ ps) up there = found_later (p.head ∷ all_but_last p.older) n v up there
at_later (suc k) n v (p ∷ ps) up there = at_later k n v ps up there

module _ (a : Address) (u : Record) (store : Store) (l : Log) (ls : List Log) (well : IsWell store) (first : store.committed ≡ l ∷ ls) (oldest : last_in l.records ≡ (a, u) ∷ []) where
  pub pass_chain : IsChain (row_before store u.doc) (changes (on_oldest passed store) u.doc ++ change l.trx a u ∷ [])
  pass_chain = subst (IsChain (row_before store u.doc)) (passed_all a u store l ls first oldest) (well.chains u.doc)

  pub last_step : (cs : List Change) (row : Row) → IsChain row (cs ++ change l.trx a u ∷ []) → (r : Row) × IsStep r (change l.trx a u) []
  last_step [] row chain = (row, chain.0)
  last_step (c ∷ cs) row chain = last_step cs c.undo.before chain.1

  same_cleared : (P : Row → Type 0) → ((row : Row) → IsElsewhere u.before.lob.page row → P row) → (row : Row) (cs : List Change) → AllIn (IsElsewhere u.before.lob.page) row cs → AllIn P row cs
  same_cleared P so row cs all = (so row all.0, all-rows (IsElsewhere u.before.lob.page) P cs so all.1)

  pub own_same : AllTo l.trx (SameParts store.lobs (cleared u.body u.before store.lobs)) (row_before store u.doc) (changes (on_oldest passed store) u.doc)
  own_same = by_kind (last_step (changes (on_oldest passed store) u.doc) (row_before store u.doc) pass_chain).0 u.body (last_step (changes (on_oldest passed store) u.doc) (row_before store u.doc) pass_chain).1.kind (λ r step. step.kind) (λ r step. step.fresh)
    where
      row : Row
      row = row_before store u.doc

      cs : List Change
      cs = changes (on_oldest passed store) u.doc

      unchanged : AllTo l.trx (SameParts store.lobs store.lobs) row cs
      unchanged = all_to l.trx (SameParts store.lobs store.lobs) row cs ((λ is_live. refl), all_of _ cs (λ r is_live. refl))

      away : ((r : Row) → IsStep r (change l.trx a u) [] → IsElsewhere u.before.lob.page r) → u.before.state ≡ live → AllTo l.trx (SameParts store.lobs (without_lob u.before.lob.page store.lobs)) row cs
      away own is_live = all_to l.trx _ row cs (same_cleared _ (same-without u.before.lob.page store.lobs) row cs (front_elsewhere row cs (change l.trx a u) [] pass_chain own is_live))

      by_kind : (r : Row) (b : Body) → IsKind b r u.before → ((r : Row) → IsStep r (change l.trx a u) [] → IsKind b r u.before) → ((r : Row) → IsStep r (change l.trx a u) [] → OlderElsewhere b (change l.trx a u ∷ []))
          → AllTo l.trx (SameParts store.lobs (cleared b u.before store.lobs)) row cs
      by_kind q (inserted page) kind kinds fresh = unchanged
      by_kind q (rebuilt page) kind kinds fresh = away (λ r step is_row same. (fresh r step).0 kind.2 (sym same ∙ (kinds r step).1)) kind.2
      by_kind q (versioned pieces touched) kind kinds fresh = unchanged
      by_kind q (patched old) kind kinds fresh = unchanged
      by_kind q removed kind kinds fresh = away (λ r step is_row. absurd (cc (is_row, (kinds r step).0))) kind.1

  -- the LOB before is no other document's
  pub before_elsewhere : (d : ℕ) → u.doc ≢ d → u.before.state ≡ live → AllRows (IsElsewhere u.before.lob.page) store d
  before_elsewhere d differ is_live = last_of (λ r. r.state ≡ live → AllIn (IsElsewhere r.lob.page) (row_before store d) (changes store d)) (changes (on_oldest passed store) u.doc)
      (subst (AllBefore _) (passed_all a u store l ls first oldest) (well.apart u.doc d differ).1) is_live
    where
      last_of : (P : Row → Type 0) (cs : List Change) → AllBefore P (cs ++ change l.trx a u ∷ []) → P u.before
      last_of P [] all = all.0
      last_of P (c ∷ cs) all = last_of P cs all.1

  pub others_same : (d : ℕ) → u.doc ≢ d → AllRows (SameParts store.lobs (cleared u.body u.before store.lobs)) store d
  others_same d differ = by_kind (last_step (changes (on_oldest passed store) u.doc) (row_before store u.doc) pass_chain).0 u.body (last_step (changes (on_oldest passed store) u.doc) (row_before store u.doc) pass_chain).1.kind
    where
      unchanged : AllRows (SameParts store.lobs store.lobs) store d
      unchanged = ((λ is_live. refl), all_of _ (changes store d) (λ r is_live. refl))

      by_kind : (r : Row) (b : Body) → IsKind b r u.before → AllRows (SameParts store.lobs (cleared b u.before store.lobs)) store d
      by_kind q (inserted page) kind = unchanged
      by_kind q (rebuilt page) kind = rows_so (IsElsewhere u.before.lob.page) _ store d (same-without u.before.lob.page store.lobs) (before_elsewhere d differ kind.2)
      by_kind q (versioned pieces touched) kind = unchanged
      by_kind q (patched old) kind = unchanged
      by_kind q removed kind = rows_so (IsElsewhere u.before.lob.page) _ store d (same-without u.before.lob.page store.lobs) (before_elsewhere d differ kind.1)

  pub pass_sees : (d : ℕ) → SeesSame l.trx d store (record_passed a l.trx u store)
  pass_sees d = elim (cases_eq d u.doc) [
    | inl same ↦ subst (λ q. SeesSame l.trx q store (record_passed a l.trx u store)) (sym same)
        (pass_own a u store l ls first own_same (chain_meets (row_before store u.doc) (changes (on_oldest passed store) u.doc) (change l.trx a u) [] pass_chain)
        (λ newest is_removed. swept_well a l.trx u.doc u store (changes (on_oldest passed store) u.doc) pass_chain (subst AreNamedOnce (passed_all a u store l ls first oldest) (well.places u.doc)) newest is_removed))
    | inr other ↦ λ sees known. ap (seen sees) (pass_others a u store l ls d first oldest other (others_same d (λ e. other (sym e))))
  ]

  -- the events before: for Full and Removed the LOB before is freed, for Versioned versions are dropped

  own_chain : IsChain (row_before store u.doc) (changes store u.doc)
  own_chain = well.chains u.doc

  pub before_freed : Frees u.body → u.before.state ≡ live × ((r : Row) → IsStep r (change l.trx a u) [] → IsElsewhere u.before.lob.page r)
  before_freed frees = by_kind u.body frees (last_step (changes (on_oldest passed store) u.doc) (row_before store u.doc) pass_chain).0 (last_step (changes (on_oldest passed store) u.doc) (row_before store u.doc) pass_chain).1.kind (λ r step. step.kind) (λ r step. step.fresh)
    where
      by_kind : (b : Body) → Frees b → (q : Row) → IsKind b q u.before → ((r : Row) → IsStep r (change l.trx a u) [] → IsKind b r u.before)
          → ((r : Row) → IsStep r (change l.trx a u) [] → OlderElsewhere b (change l.trx a u ∷ []))
          → u.before.state ≡ live × ((r : Row) → IsStep r (change l.trx a u) [] → IsElsewhere u.before.lob.page r)
      by_kind (inserted page) frees q kind kinds fresh = absurd frees
      by_kind (rebuilt page) frees q kind kinds fresh = (kind.2, λ r step is_row same. (fresh r step).0 kind.2 (sym same ∙ (kinds r step).1))
      by_kind (versioned pieces touched) frees q kind kinds fresh = absurd frees
      by_kind (patched old) frees q kind kinds fresh = absurd frees
      by_kind removed frees q kind kinds fresh = (kind.1, λ r step is_row. absurd (cc (is_row, (kinds r step).0)))

  -- whatever is done to the LOB before
  freed_sees : (f : Lob → Lob) → ((m : Lob) → (f m).page ≡ m.page) → Frees u.body → (d : ℕ) → SeesSame l.trx d store (on_lobs (on_lob u.before.lob.page f) store)
  freed_sees f same frees d = elim (cases_eq d u.doc) [
    | inl here ↦ subst (λ q. SeesSame l.trx q store (on_lobs (on_lob u.before.lob.page f) store)) (sym here)
        (elsewhere_seen l.trx u.before.lob.page u.doc f store same
        (subst (AllTo l.trx (IsElsewhere u.before.lob.page) (row_before store u.doc)) (sym (passed_all a u store l ls first oldest))
        (all_to_change (IsElsewhere u.before.lob.page) (row_before store u.doc) (changes (on_oldest passed store) u.doc) (change l.trx a u) [] pass_chain
        (front_elsewhere (row_before store u.doc) (changes (on_oldest passed store) u.doc) (change l.trx a u) [] pass_chain (before_freed frees).1 (before_freed frees).0))))
    | inr other ↦ λ sees known. ap (seen sees) (elsewhere_all u.before.lob.page store d f same (before_elsewhere d (λ e. other (sym e)) (before_freed frees).0))
  ]

  pub piece_sees : (free : List Address) → Frees u.body → (d : ℕ) → SeesSame l.trx d store (piece_freed u.before.lob.page free store)
  piece_sees free frees d = freed_sees (λ m. record (without_piece m) { free = free }) (λ m. refl) frees d

  pub index_sees : Frees u.body → (d : ℕ) → SeesSame l.trx d store (index_freed u.before.lob.page store)
  index_sees frees d = freed_sees without_index (λ m. refl) frees d

  version_before : IsVersioned u.body → u.before.state ≡ live × ((r : Row) → IsStep r (change l.trx a u) [] → IsFrom u.before.lob.page (suc u.before.lob.version) r)
  version_before versioned_so = by_kind u.body versioned_so (last_step (changes (on_oldest passed store) u.doc) (row_before store u.doc) pass_chain).0 (last_step (changes (on_oldest passed store) u.doc) (row_before store u.doc) pass_chain).1.kind (λ r step. step.kind)
    where
      by_kind : (b : Body) → IsVersioned b → (q : Row) → IsKind b q u.before → ((r : Row) → IsStep r (change l.trx a u) [] → IsKind b r u.before)
          → u.before.state ≡ live × ((r : Row) → IsStep r (change l.trx a u) [] → IsFrom u.before.lob.page (suc u.before.lob.version) r)
      by_kind (inserted page) v q kind kinds = absurd v
      by_kind (rebuilt page) v q kind kinds = absurd v
      by_kind (versioned pieces touched) v q kind kinds = (kind.1, λ r step is_row same. let up : r.lob.version ≡ suc u.before.lob.version = ap (λ (x : Reference). x.version) (kinds r step).2 in omega (arith, up))
      by_kind (patched old) v q kind kinds = absurd v
      by_kind removed v q kind kinds = absurd v

  pub drop_sees : (k : ℕ) (free : List Address) → IsVersioned u.body
      → ((m : Lob) → lob_of store.lobs u.before.lob.page ≡ Some m → AtPiece k (λ p. is_some (piece_at (dropped p) (suc u.before.lob.version)) ≡ true) m.pieces)
      → (d : ℕ) → SeesSame l.trx d store (version_dropped u.before.lob.page k free store)
  drop_sees k free versioned_so stays d = elim (cases_eq d u.doc) [
    | inl here ↦ subst (λ q. SeesSame l.trx q store (version_dropped u.before.lob.page k free store)) (sym here)
        (drop_seen l.trx u.before.lob.page k free store u.doc
        (subst (AllTo l.trx (FindsWithout u.before.lob.page k store.lobs) (row_before store u.doc)) (sym (passed_all a u store l ls first oldest))
        (all_to_change (FindsWithout u.before.lob.page k store.lobs) (row_before store u.doc) (changes (on_oldest passed store) u.doc) (change l.trx a u) [] pass_chain
        (so_all (front_from (row_before store u.doc) (changes (on_oldest passed store) u.doc) (change l.trx a u) [] pass_chain (version_before versioned_so).1 (version_before versioned_so).0)))))
    | inr other ↦ λ sees known. ap (seen sees) (elsewhere_all u.before.lob.page store d (λ m. record (at_piece k dropped m) { free = free }) (λ m. refl) (before_elsewhere d (λ e. other (sym e)) (version_before versioned_so).0))
  ]
    where
      one : (row : Row) → IsFrom u.before.lob.page (suc u.before.lob.version) row → FindsWithout u.before.lob.page k store.lobs row
      one row from is_live here m there = at_later k (suc u.before.lob.version) row.lob.version m.pieces (from is_live here) (stays m there)

      so_all : AllIn (IsFrom u.before.lob.page (suc u.before.lob.version)) (row_before store u.doc) (changes (on_oldest passed store) u.doc) → AllIn (FindsWithout u.before.lob.page k store.lobs) (row_before store u.doc) (changes (on_oldest passed store) u.doc)
      so_all all = (one (row_before store u.doc) all.0, all-rows _ _ (changes (on_oldest passed store) u.doc) one all.1)
