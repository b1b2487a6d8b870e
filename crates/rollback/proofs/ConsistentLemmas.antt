-- A consistent store stays so, whichever event of a rollback is made.
use Rattle.std.proofs.Common.{◌≡◌, ◌≤◌, ◌+◌, ℕ, suc, Bool, true, false, ◌==◌, if◌then◌else◌, List, [], ◌∷◌, ◌++◌, Option, Some, None, refl, sym, ap, subst, ◌∙◌, arith}
use Rattle.std.proofs.lemmas.Bool.{eqb-true}
use Rattle.page_model.specs.Pages.{Pages, Address}
use Rattle.page_model.specs.Counts.{times}
use Rattle.page_model.proofs.CountLemmas.{times-append}
use Rattle.store_data.specs.Store.{Version, Piece, Lob, Body, inserted, rebuilt, versioned, patched, removed, Record, Log, Store}
use Rattle.lob_model.specs.Pieces.{IsFalling, AreFalling}
use Rattle.store_model.specs.Lobs.{lob_of, pieces_of}
use Rattle.store_model.specs.History.{row_before}
use Rattle.store_model.specs.Steps.{on_log}
use Rattle.store_model.specs.Events.{with_log_pages, with_row_pages}
use Rattle.store_model.specs.Undo.{version_popped, undo_ended}
use Rattle.store_model.specs.Owned.{owned, owned_lobs, row_lobs, record_lobs, log_lobs, log_pages, lob_pages, IsAmong}
use Rattle.store_model.specs.Held.{HasLobs}
use Rattle.store_model.specs.Takes.{piece_of}
use Rattle.store_model.specs.Well.{IsKind}
use Rattle.store_model.specs.Versions.{AreOlderUpTo, AreUpTo, IsLowered}
use Rattle.store_model.specs.Consistent.{IsConsistent}
use Rattle.store_model.proofs.ConsistentLemmas.{sound_less, pop_consistent, free_consistent, index_consistent, undo_consistent, row_pages_consistent, log_pages_consistent}
use Rattle.store_parts.specs.Stored.{row_pages}
use Rattle.store_parts.specs.Shows.{IsStore}
use Rattle.store_steps.proofs.TakenLemmas.{sound_at}
use Rattle.undo_model.proofs.OptionLemmas.{some_some}
use Rattle.row_dir.specs.declared.dir.RowDir.{RowDir}
use Rattle.store_steps.specs.declared.reached.Reached.{Reached}
use Rattle.store_steps.specs.Reached.{piece_in}
use Rattle.store_steps.specs.Touched.{next_touched}
use Rattle.rollback.specs.Standing.{Scene, IsAt}
use Rattle.rollback.specs.Records.{log_left}
use Rattle.rollback.specs.Kinds.{CanUndoBy, CanUndo}
use Rattle.rollback.specs.Versions.{is_raised, piece_at, version_gone, CanPop}
use Rattle.rollback.specs.Events.{Event, ends, freeing, freeing_lob, popping, due_for}
use Rattle.rollback.specs.Made.{event_for, made, Made, Steps}
use Rattle.rollback.proofs.VersionLemmas.{has_older}
use Rattle.rollback.proofs.ChainLemmas.{is_newest, step_kind, row_owned, before_owned}

-- ---- pages that lists get

paged_lobs : (trx : ℕ) (pages : List ℕ) (ls : List Log)
    → log_lobs (on_log trx (λ l. record l { pages = pages }) ls) ≡ log_lobs ls
paged_lobs trx pages [] = refl
paged_lobs trx pages (l ∷ ls) = by (l.trx == trx) (paged_lobs trx pages ls)
  where
    by : (b : Bool) → log_lobs (on_log trx (λ l. record l { pages = pages }) ls) ≡ log_lobs ls
        → log_lobs (if b then (record l { pages = pages }) ∷ ls
        else l ∷ on_log trx (λ l. record l { pages = pages }) ls)
        ≡ record_lobs l.records ++ log_lobs ls
    by true rest = refl
    by false rest = ap (λ (ps : List ℕ). record_lobs l.records ++ ps) rest

-- the LOBs are still the owned ones where a log gets other pages
paged_held : (trx : ℕ) (pages : List ℕ) (store : Store) → HasLobs store
    → HasLobs (with_log_pages trx pages store)
paged_held trx pages store has n =
    ap (λ (ps : List ℕ). times n (row_lobs store.rows ++ (ps ++ log_lobs store.committed)))
    (paged_lobs trx pages store.active) ∙ has n

-- fewer pages are owned without those of the rows
fewer : (rows : List ℕ) (store : Store) (n : ℕ)
    → times n (owned (with_row_pages [] store)) ≤ times n (owned (with_row_pages rows store))
fewer rows store n = by (0 ∷ []) rows (log_pages store.active ++
    (log_pages store.committed ++ lob_pages store.lobs (owned_lobs store)))
  where
    by : (xs ys zs : List ℕ) → times n (xs ++ zs) ≤ times n ((xs ++ ys) ++ zs)
    by xs ys zs =
        let a = times-append n xs zs in
        let b = times-append n (xs ++ ys) zs in
        let c = times-append n xs ys in
        omega (arith, a, b, c)

-- the log's pages and those of the rows become others, and the map marks the owned ones
both_paged : (trx : ℕ) (pages rows : List ℕ) (store : Store) (new : Pages) → IsConsistent store
    → IsStore new (with_row_pages rows (with_log_pages trx pages store))
    → IsConsistent (with_row_pages rows (with_log_pages trx pages store))
both_paged trx pages rows store new all is =
    let last = with_row_pages rows (with_log_pages trx pages store) in
    let sound = sound_at new last is (paged_held trx pages store all.lobs) in
    let bare = row_pages_consistent [] store all
    (sound_less store (with_row_pages [] store) all.sound (fewer store.row_pages store)) in
    let paged = log_pages_consistent trx pages (with_row_pages [] store) bare
    (sound_less last (with_row_pages [] (with_log_pages trx pages store)) sound
    (fewer rows (with_log_pages trx pages store))) in
    row_pages_consistent rows (with_log_pages trx pages (with_row_pages [] store)) paged sound

left_consistent : (rest : List (Address × Record)) (trx : ℕ) (pages rows : List ℕ) (store : Store)
    (new : Pages) → IsConsistent store
    → IsStore new (with_row_pages rows (log_left rest trx pages store))
    → IsConsistent (with_row_pages rows (log_left rest trx pages store))
left_consistent [] trx pages rows store new all is =
    row_pages_consistent rows store all (sound_at new (with_row_pages rows store) is all.lobs)
left_consistent (u ∷ us) trx pages rows store new all is =
    both_paged trx pages rows store new all is

-- ---- versions

older_up : (bound v : ℕ) (xs : List Version) → bound ≤ v + 1 → IsFalling bound xs
    → AreOlderUpTo v xs
older_up bound v [] up falls = tt
older_up bound v (x ∷ xs) up falls =
    let low = falls.0 in
    (omega (arith, up, low), older_up x.number v xs (omega (arith, up, low)) falls.1)

pub falling_up : (v : ℕ) (ps : List Piece) → AreFalling (v + 1) ps → AreUpTo v ps
falling_up v [] falling = tt
falling_up v (p ∷ ps) falling =
    (older_up (v + 1) v (p.head ∷ p.older) (omega arith) falling.0, falling_up v ps falling.1)

pub raised_there : (o : Option Piece) (v : ℕ) → is_raised v o ≡ true
    → (p : Piece) × (o ≡ Some p) × (p.head.number ≡ suc v)
raised_there None v is = absurd (let e : false ≡ true = is in cc)
raised_there (Some p) v is = (p, refl, eqb-true p.head.number (suc v) is)

-- ---- event by event

module _ (told : Option Pages) (first : ℕ) (s : Scene) (dir : RowDir) (new : Pages)
    (at : IsAt told first s) (is : IsConsistent s.store) where
  abbrev Stays : Event → Type 0
  Stays e = (m : Made e s dir new)
      → IsConsistent (made e s m.free m.log_pages (row_pages m.there))

  end_stays : IsLowered s.undo.body s.undo.before s.store.lobs → Stays ends
  end_stays lowered m =
      let on = m.stands in
      left_consistent s.rest s.trx m.log_pages (row_pages m.there) (undo_ended s.trx s.undo s.store)
      new (undo_consistent s.trx s.place s.undo s.store is (is_newest told first s at is) lowered)
      on.is

  freeing_stays : (page : ℕ) (l : Lob) → lob_of s.store.lobs page ≡ Some l
      → IsAmong page (owned_lobs s.store) → IsLowered s.undo.body s.undo.before s.store.lobs
      → (ps : List Piece) (index : List ℕ) → l.index ≡ index → Stays (freeing page ps index)
  freeing_stays page l found among lowered [] [] same m = end_stays lowered m
  freeing_stays page l found among lowered [] (i ∷ more) same m =
      index_consistent page l s.store is found among i more same
  freeing_stays page l found among lowered (p ∷ ps) index same m =
      free_consistent page l s.store is found among m.free

  lob_stays : (page : ℕ) (l : Lob) → lob_of s.store.lobs page ≡ Some l
      → IsAmong page (owned_lobs s.store) → IsLowered s.undo.body s.undo.before s.store.lobs
      → Stays (freeing_lob page (lob_of s.store.lobs page))
  lob_stays page l found among lowered =
      subst (λ (o : Option Lob). Stays (freeing_lob page o)) (sym found)
      (freeing_stays page l found among lowered l.pieces l.index refl)

  gone_stays : (page : ℕ) (l : Lob) → lob_of s.store.lobs page ≡ Some l
      → IsAmong page (owned_lobs s.store) → (k v : ℕ) → CanPop k v l → (free : List Address)
      → IsConsistent (version_gone page k v free s.store)
  gone_stays page l found among k v older free = by (is_raised v (piece_at page k s.store)) refl
    where
      by : (b : Bool) → is_raised v (piece_at page k s.store) ≡ b
          → IsConsistent (if b then version_popped page k free s.store else s.store)
      by true raised =
          let there = raised_there (piece_at page k s.store) v raised in
          let here = sym (ap (λ (o : Option Lob). piece_of k (pieces_of o)) found) ∙ there.1 in
          let more = has_older there.0.older (older there.0 here there.2) in
          pop_consistent page l s.store is found among k there.0 more.0 more.1 free here more.2
      by false stays = is

  record_stays : (b : Body) → s.undo.body ≡ b → (last : Option Reached) → CanUndoBy b last s
      → Stays (due_for b s.undo.before s.store.lobs (piece_in last))
  record_stays (inserted page) body last can =
      let kind = subst (λ (b : Body). IsKind b (row_before s.store s.undo.doc) s.undo.before) body
      (step_kind told first s at is) in
      lob_stays page can.lob can.found (subst (λ (n : ℕ). IsAmong n (owned_lobs s.store)) kind.1
      (row_owned told first s at is kind.0))
      (subst (λ (b : Body). IsLowered b s.undo.before s.store.lobs) (sym body) tt)
  record_stays (rebuilt page) body last can =
      let kind = subst (λ (b : Body). IsKind b (row_before s.store s.undo.doc) s.undo.before) body
      (step_kind told first s at is) in
      lob_stays page can.lob can.found (subst (λ (n : ℕ). IsAmong n (owned_lobs s.store)) kind.1
      (row_owned told first s at is kind.0))
      (subst (λ (b : Body). IsLowered b s.undo.before s.store.lobs) (sym body) tt)
  record_stays (versioned pieces touched) body last can =
      by (next_touched (piece_in last) touched) refl
    where
      kind : IsKind (versioned pieces touched) (row_before s.store s.undo.doc) s.undo.before
      kind = subst (λ (b : Body). IsKind b (row_before s.store s.undo.doc) s.undo.before) body
          (step_kind told first s at is)

      by : (o : Option ℕ) → next_touched (piece_in last) touched ≡ o
          → Stays (popping s.undo.before.lob.page s.undo.before.lob.version o)
      by None none m = end_stays
          (subst (λ (b : Body). IsLowered b s.undo.before s.store.lobs) (sym body)
          (λ l found. subst (λ (x : Lob). AreUpTo s.undo.before.lob.version x.pieces)
          (some_some can.lob l (sym can.found ∙ found))
          (falling_up s.undo.before.lob.version can.lob.pieces (can.lowered none)))) m
      by (Some k) next m = gone_stays s.undo.before.lob.page can.lob can.found
          (before_owned told first s at is kind.1) k s.undo.before.lob.version (can.older k) m.free
  record_stays (patched old) body last can =
      end_stays (subst (λ (b : Body). IsLowered b s.undo.before s.store.lobs) (sym body) tt)
  record_stays removed body last can =
      end_stays (subst (λ (b : Body). IsLowered b s.undo.before s.store.lobs) (sym body) tt)

  pub steps : (last : Option Reached) → CanUndo last s → Made (event_for s (piece_in last)) s dir new
      → Steps (event_for s (piece_in last)) s dir new
  steps last can m =
      record { made' = m; consistent = record_stays s.undo.body refl last can m }
