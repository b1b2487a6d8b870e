-- A rollback goes on: what an event asked holds again behind it.
use Rattle.std.proofs.Common.{◌≡◌, inl, inr, ℕ, suc, List, [], ◌∷◌, map, Option, Some, None, refl, sym, ap, subst, ◌∙◌}
use Rattle.std.specs.Option.{option_map}
use Rattle.page_model.specs.Pages.{Pages, Address}
use Rattle.store_data.specs.Store.{Piece, Lob, Body, inserted, rebuilt, versioned, patched, removed, Record, Log}
use Rattle.undo_model.specs.Rows.{RowPage}
use Rattle.store_model.specs.Consistent.{IsConsistent}
use Rattle.store_model.specs.Lobs.{lob_of}
use Rattle.store_model.specs.Steps.{on_lob, on_lobs, on_log, log_of, without_lob, without_piece, without_index, at_version}
use Rattle.store_model.specs.Undo.{without_newest, restored, unmade, popped_at}
use Rattle.store_model.proofs.LobLemmas.{lob-on_this}
use Rattle.store_parts.specs.Stored.{row_pages}
use Rattle.row_dir.specs.declared.dir.RowDir.{RowDir}
use Rattle.store_steps.specs.Lobs.{IsSingle}
use Rattle.store_steps.specs.Reached.{piece_in}
use Rattle.store_steps.specs.Standing.{StandsOn}
use Rattle.store_steps.specs.Touched.{next_touched}
use Rattle.store_steps.proofs.KeptLemmas.{none_older_front, none_reached}
use Rattle.rollback.specs.declared.job.Undoing.{Undoing}
use Rattle.rollback.specs.Standing.{Scene, IsAt}
use Rattle.rollback.specs.Events.{Event, ends, freeing, freeing_lob, popping, due_for}
use Rattle.rollback.specs.Kinds.{CanFree, CanLower, CanUndoBy, CanUndo, IsHeadIn}
use Rattle.rollback.specs.Made.{event_for, made, behind, Made}
use Rattle.rollback.specs.Undoable.{CanPopOn, CanGoOn, undone_lobs, AreUndoable}
use Rattle.rollback.specs.Next.{IsUndoing, later, next_scene, NextIn, Again, GoesOn}
use Rattle.rollback.specs.Versions.{is_raised, piece_at}
use Rattle.rollback.proofs.LeftLemmas.{restored_active, restored_lobs, left_with, log_left_found}
use Rattle.rollback.proofs.LikeLemmas.{out_on, on_none, popped_none}
use Rattle.rollback.proofs.WalkLemmas.{none_come}
use Rattle.rollback.proofs.BeginLemmas.{begins}
use Rattle.rollback.proofs.PoppedLemmas.{at_later, gone_on}
use Rattle.rollback.proofs.ConsistentLemmas.{steps}

module _ (was told : Option Pages) (job now : Undoing) (s : Scene) (j : IsUndoing was job s)
    (dir : RowDir) (new : Pages) (is : told ≡ Some new) (log : job.log.0 ≡ now.log.0)
    (heads : IsHeadIn now.reached s) where
  abbrev Goes : Event → Type 0
  Goes e = (m : Made e s dir new)
      → IsConsistent (made e s m.free m.log_pages (row_pages m.there))
      → piece_in now.reached ≡ behind e
      → Again e m.log_pages told now
      (later m.there new (made e s m.free m.log_pages (row_pages m.there)) s)

  -- ---- a record is left

  -- nothing is left to do but the last event
  abbrev IsEmptied : Type 0
  IsEmptied = undone_lobs s.undo.body s.undo.before s.store.lobs
      ≡ unmade s.undo.body s.undo.before s.store.lobs

  emptied_by : (b : Body) → s.undo.body ≡ b
      → undone_lobs b s.undo.before s.store.lobs ≡ unmade b s.undo.before s.store.lobs → IsEmptied
  emptied_by b body = subst (λ (x : Body). undone_lobs x s.undo.before s.store.lobs
      ≡ unmade x s.undo.before s.store.lobs) (sym body)

  next_in : IsEmptied → (rest : List (Address × Record)) → s.rest ≡ rest → (m : Made ends s dir new)
      → IsConsistent (made ends s m.free m.log_pages (row_pages m.there))
      → piece_in now.reached ≡ None → NextIn rest m.log_pages told now
      (later m.there new (made ends s m.free m.log_pages (row_pages m.there)) s)
  next_in empty [] left m right comes = tt
  next_in empty (u ∷ us) left m right comes =
      let sc = later m.there new (made ends s m.free m.log_pages (row_pages m.there)) s in
      let none = sym (none_reached now.reached comes) in
      let at = j.at in
      let next = next_scene m.log_pages u us sc in
      let at' : IsAt told now.log.0 next = record {
        told' = is;
        stands = m.stands;
        found = next_found m u us left;
        page = at.page ∙ log;
        records = refl;
      } in
      let all = subst (AreUndoable (u ∷ us)) (empty ∙ sym (next_lobs m u us left))
      (subst (λ (rs : List (Address × Record)). AreUndoable rs
      (undone_lobs s.undo.body s.undo.before s.store.lobs)) left j.older) in
      let can = begins told now.log.0 next at' right u.1.body refl all.0 in
      record {
        at = at';
        consistent = right;
        can = subst (λ o. CanUndo o next) none can.0;
        on = subst (λ o. CanGoOn u.1.body (piece_in o) u.1.before sc.store.lobs) none can.1;
        older = all.1;
      }
    where
      next_lobs : (m : Made ends s dir new) (u : Address × Record) (us : List (Address × Record))
          → s.rest ≡ u ∷ us → (made ends s m.free m.log_pages (row_pages m.there)).lobs
          ≡ unmade s.undo.body s.undo.before s.store.lobs
      next_lobs m u us left =
          ap (λ (rs : List (Address × Record)).
          (made ends (record s { rest = rs }) m.free m.log_pages (row_pages m.there)).lobs) left
          ∙ restored_lobs s.undo.doc s.undo.before (without_newest s.trx s.undo s.store)

      next_found : (m : Made ends s dir new) (u : Address × Record) (us : List (Address × Record))
          → s.rest ≡ u ∷ us
          → log_of (made ends s m.free m.log_pages (row_pages m.there)).active s.trx
          ≡ Some (left_with (u ∷ us) m.log_pages s.log)
      next_found m u us left =
          let at = j.at in
          let mid = without_newest s.trx s.undo s.store in
          let out = restored s.undo.doc s.undo.before mid in
          let paged = on_log s.trx (λ x. record x { pages = m.log_pages }) in
          ap (λ (rs : List (Address × Record)).
          log_of (made ends (record s { rest = rs }) m.free m.log_pages (row_pages m.there)).active s.trx)
          left
          ∙ (ap (λ (ls : List Log). log_of (paged ls) s.trx)
          (restored_active s.undo.doc s.undo.before mid)
          ∙ log_left_found s.trx m.log_pages (s.place, s.undo) u us s.store.active s.log at.found
          (at.records ∙ ap (λ (rs : List (Address × Record)). (s.place, s.undo) ∷ rs) left))

  end_on : IsEmptied → Goes ends
  end_on empty m right comes = next_in empty s.rest refl m right comes

  -- ---- the record stays the newest

  -- a LOB that the record made
  module _ (page : ℕ) (can : CanFree page s) where
    lob_later : (f : Lob → Lob) → ((l : Lob) → (f l).page ≡ l.page) → IsSingle (f can.lob)
        → (b : Body) → s.undo.body ≡ b
        → ((x : Scene) → CanFree page x → CanUndoBy b now.reached x)
        → ((last : Option ℕ) (lobs : List Lob) → CanGoOn b last s.undo.before lobs)
        → ((lobs : List Lob) → undone_lobs b s.undo.before lobs ≡ without_lob page lobs)
        → (there : List RowPage) → StandsOn there new (on_lobs (on_lob page f) s.store)
        → IsConsistent (on_lobs (on_lob page f) s.store)
        → IsUndoing told now (later there new (on_lobs (on_lob page f) s.store) s)
    lob_later f same single b body by on gone there stands right =
        let store = on_lobs (on_lob page f) s.store in
        let can' : CanFree page (later there new store s) = record {
          makes = can.makes;
          lob = f can.lob;
          found = lob-on_this page f s.store.lobs same ∙ ap (option_map f) can.found;
          single = single;
        } in
        record {
          at = at_later was told job now s j new is log there store stands refl;
          consistent = right;
          can = subst (λ (x : Body). CanUndoBy x now.reached (later there new store s)) (sym body)
              (by (later there new store s) can');
          on = subst (λ (x : Body). CanGoOn x (piece_in now.reached) s.undo.before store.lobs)
              (sym body) (on (piece_in now.reached) store.lobs);
          older = subst (AreUndoable s.rest)
              (ap (λ (x : Body). undone_lobs x s.undo.before s.store.lobs) body
              ∙ (gone s.store.lobs ∙ (sym (out_on page f s.store.lobs same)
              ∙ (sym (gone store.lobs)
              ∙ ap (λ (x : Body). undone_lobs x s.undo.before store.lobs) (sym body))))) j.older;
        }

    module _ (b : Body) (body : s.undo.body ≡ b)
        (by : (x : Scene) → CanFree page x → CanUndoBy b now.reached x)
        (on : (last : Option ℕ) (lobs : List Lob) → CanGoOn b last s.undo.before lobs)
        (gone : (lobs : List Lob) → undone_lobs b s.undo.before lobs ≡ without_lob page lobs)
        (empty : IsEmptied) where
      freeing_on : (ps : List Piece) (index : List ℕ) → Goes (freeing page ps index)
      freeing_on [] [] m right comes = end_on empty m right comes
      freeing_on [] (i ∷ more) m right comes =
          let single = can.single in
          lob_later without_index (λ x. refl) (record { older = single.older; bare = single.bare })
          b body by on gone m.there m.stands right
      freeing_on (p ∷ ps) index m right comes =
          let single = can.single in
          lob_later (λ x. record (without_piece x) { free = m.free }) (λ x. refl)
          (record {
            older = none_older_front can.lob.pieces single.older;
            bare = m.bare can.lob can.found;
          }) b body by on gone m.there m.stands right

      lob_on : (o : Option Lob) → Goes (freeing_lob page o)
      lob_on None m right comes = end_on empty m right comes
      lob_on (Some l) m right comes = freeing_on l.pieces l.index m right comes

  -- a LOB whose versions it raised
  pops_on : (pieces : ℕ) (touched : List ℕ) → s.undo.body ≡ versioned pieces touched
      → CanLower job.reached touched s
      → CanPopOn (piece_in job.reached) touched s.undo.before s.store.lobs → (o : Option ℕ)
      → next_touched (piece_in job.reached) touched ≡ o
      → Goes (popping s.undo.before.lob.page s.undo.before.lob.version o)
  pops_on pieces touched body can on None none m right comes =
      let v = s.undo.before.lob.version in
      let first = s.undo.before.lob.page in
      let e : Lob → Lob = λ l. record l { pieces = map (popped_at (suc v)) l.pieces } in
      let low = popped_none v can.lob.pieces (λ k p here. elim (on.low can.lob can.found k p here) [
        | inl h ↦ h
        | inr come ↦ absurd (none_come (piece_in job.reached) k touched none come)
      ]) in
      let same : e can.lob ≡ can.lob =
      ap (λ (ps : List Piece). let x : Lob = record can.lob { pieces = ps } in x) low in
      end_on (emptied_by (versioned pieces touched) body (ap (on_lob first (at_version v))
      (on_none first e s.store.lobs can.lob can.found same))) m right comes
  pops_on pieces touched body can on (Some k) next m right comes =
      gone_on was told job now s j new is log heads pieces touched body can on k next comes m.there
      m.free (is_raised s.undo.before.lob.version (piece_at s.undo.before.lob.page k s.store)) refl
      m.stands right

  record_on : (b : Body) → s.undo.body ≡ b → CanUndoBy b job.reached s
      → CanGoOn b (piece_in job.reached) s.undo.before s.store.lobs
      → Goes (due_for b s.undo.before s.store.lobs (piece_in job.reached))
  record_on (inserted page) body can on = lob_on page can (inserted page) body
      (λ x free. free) (λ last lobs. tt) (λ lobs. refl) (emptied_by (inserted page) body refl)
      (lob_of s.store.lobs page)
  record_on (rebuilt page) body can on = lob_on page can (rebuilt page) body
      (λ x free. free) (λ last lobs. tt) (λ lobs. refl) (emptied_by (rebuilt page) body refl)
      (lob_of s.store.lobs page)
  record_on (versioned pieces touched) body can on = pops_on pieces touched body can on
      (next_touched (piece_in job.reached) touched) refl
  record_on (patched old) body can on = end_on (emptied_by (patched old) body refl)
  record_on removed body can on = end_on (emptied_by removed body refl)

  pub goes_on_from : piece_in now.reached ≡ behind (event_for s (piece_in job.reached))
      → Made (event_for s (piece_in job.reached)) s dir new
      → GoesOn told (event_for s (piece_in job.reached)) now s dir new
  goes_on_from comes m =
      let at = j.at in
      let made' = steps was job.log.0 s dir new at j.consistent job.reached j.can m in
      record {
        steps = made';
        again = record_on s.undo.body refl j.can j.on made'.made' made'.consistent comes;
      }
