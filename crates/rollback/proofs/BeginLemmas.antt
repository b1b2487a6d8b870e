-- A record that becomes the newest may be undone, where the store is consistent.
use Rattle.std.proofs.Common.{◌≡◌, inl, inr, ℕ, ◌+◌, Option, Some, None, refl, sym, subst, ◌∙◌, List}
use Rattle.page_model.specs.Pages.{Pages, Address}
use Rattle.store_data.specs.Store.{Lob, Body, inserted, rebuilt, versioned, patched, removed, Record}
use Rattle.undo_model.proofs.OptionLemmas.{some_some}
use Rattle.store_model.specs.Consistent.{IsConsistent}
use Rattle.store_model.specs.History.{row_before}
use Rattle.store_model.specs.Keeps.{Makes}
use Rattle.store_model.specs.Lobs.{lob_of}
use Rattle.store_model.specs.Owned.{owned_lobs, IsAmong}
use Rattle.store_model.specs.Well.{IsKind}
use Rattle.store_steps.proofs.LobLemmas.{lob_at}
use Rattle.rollback.specs.Standing.{Scene, IsAt}
use Rattle.rollback.specs.declared.job.Undoing.{Undoing}
use Rattle.rollback.specs.Kinds.{CanFree, CanUndoBy, CanUndo}
use Rattle.rollback.specs.Undoable.{AreLowBut, CanGoOn, IsUndoable, AreUndoable}
use Rattle.rollback.specs.Next.{IsUndoing}
use Rattle.store_steps.specs.declared.reached.Reached.{Reached}
use Rattle.store_steps.specs.Lobs.{IsSingle}
use Rattle.store_steps.specs.Reached.{piece_in}
use Rattle.rollback.proofs.ChainLemmas.{step_kind, row_owned, before_owned, owned_stands}
use Rattle.rollback.proofs.WalkLemmas.{none_come, falling_low}

module _ (told : Option Pages) (first : ℕ) (s : Scene) (at : IsAt told first s)
    (is : IsConsistent s.store) where
  kind_of : (b : Body) → s.undo.body ≡ b
      → IsKind b (row_before s.store s.undo.doc) s.undo.before
  kind_of b body = subst (λ (x : Body). IsKind x (row_before s.store s.undo.doc) s.undo.before) body
      (step_kind told first s at is)

  new_lob : (page : ℕ) → IsAmong page (owned_lobs s.store) → Makes page s.undo.body
      → ((l : Lob) → lob_of s.store.lobs page ≡ Some l → IsSingle l) → CanFree page s
  new_lob page among makes can =
      let l = owned_stands told first s at is page among in
      record { makes = makes; lob = l.0; found = l.1; single = can l.0 l.1 }

  pub begins : (b : Body) → s.undo.body ≡ b → IsUndoable b s.undo.before s.store.lobs
      → CanUndoBy b None s × CanGoOn b None s.undo.before s.store.lobs
  begins (inserted page) body can =
      let kind = kind_of (inserted page) body in (
        new_lob page (subst (λ (n : ℕ). IsAmong n (owned_lobs s.store)) kind.1
            (row_owned told first s at is kind.0))
            (subst (λ (x : Body). Makes page x) (sym body) refl) can,
        tt,
      )
  begins (rebuilt page) body can =
      let kind = kind_of (rebuilt page) body in (
        new_lob page (subst (λ (n : ℕ). IsAmong n (owned_lobs s.store)) kind.1
            (row_owned told first s at is kind.0))
            (subst (λ (x : Body). Makes page x) (sym body) refl) can,
        tt,
      )
  begins (versioned pieces touched) body can =
      let kind = kind_of (versioned pieces touched) body in
      let v = s.undo.before.lob.version in
      let page = s.undo.before.lob.page in
      let l = owned_stands told first s at is page (before_owned told first s at is kind.1) in
      let raised = can l.0 l.1 in
      let stands = (let x = lob_at s.there s.pages s.store page l.0 at.stands l.1 in x.stands) in
      let shape = stands.shape in (
        record {
          pieces = pieces;
          body = body;
          lob = l.0;
          found = l.1;
          head = tt;
          below = raised.below;
          older = raised.older;
          lowered = λ none. falling_low (l.0.version + 1) v l.0.pieces shape.falling
              (λ n p here. elim (raised.low n p here) [
                | inl h ↦ h
                | inr come ↦ absurd (none_come None n touched none come)
              ]);
        },
        record {
          ascending = raised.ascending;
          low = λ q there. subst (λ (x : Lob). AreLowBut None touched v x.pieces)
              (some_some l.0 q (sym l.1 ∙ there)) raised.low;
        },
      )
  begins (patched old) body can =
      let kind = kind_of (patched old) body in
      let page = s.undo.before.lob.page in
      let l = owned_stands told first s at is page (before_owned told first s at is kind.1) in (
        record {
          body = body;
          before = kind.1;
          page = page;
          lob = l.0;
          found = l.1;
          lie = can.1 l.0 l.1;
          few = can.0;
        },
        tt,
      )
  begins removed body can = (tt, tt)

pub undoing_begins : (told : Option Pages) (job : Undoing) (s : Scene) → IsAt told job.log.0 s
    → IsConsistent s.store → AreUndoable s.log.records s.store.lobs → job.reached ≡ None
    → IsUndoing told job s
undoing_begins told job s at is all none =
    let can = subst (λ (us : List (Address × Record)). AreUndoable us s.store.lobs) at.records all in
    let b = begins told job.log.0 s at is s.undo.body refl can.0 in
    record {
      at = at;
      consistent = is;
      can = subst (λ (o : Option Reached). CanUndo o s) (sym none) b.0;
      on = subst (λ (o : Option Reached). CanGoOn s.undo.body (piece_in o) s.undo.before s.store.lobs)
          (sym none) b.1;
      older = can.1;
    }
