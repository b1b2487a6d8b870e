-- The row that a read finds has the length of the document that the journal shows.
use Rattle.std.proofs.Common.{◌≡◌, ℕ, Bool, true, false, List, length, Some, option_map, refl, sym, ap, ◌∙◌}
use Rattle.journal_model.specs.Journal.{Script, Opening, Reply, Undoer}
use Rattle.journal_model.specs.Part.{own, touches, shown}
use Rattle.history_model.specs.Laws.{IsRun}
use Rattle.history_model.proofs.OwnerLemmas.{own_held}
use Rattle.store_data.specs.Store.{Row}
use Rattle.store_model.specs.History.{seen, changes, row_before}
use Rattle.store_model.specs.History as store
use Rattle.read_model.specs.Patches.{Entry as Undo}
use Rattle.read_model.specs.Document.{IsVisible}
use Rattle.read_model.specs.OfStore.{document}
use Rattle.kept_model.specs.Engine.{ReadView, sees_by, Left, making, undoing, Engine}
use Rattle.kept_model.specs.Rows.{bytes_of}
use Rattle.kept_model.specs.Kept.{Kept}
use Rattle.kept_model.proofs.ReadLemmas.{shown_at, shown_is, view_shows, own_shows, view_measured, own_measured}
use Rattle.kept_model.proofs.MeasuredLemmas.{SeenMeasured, visible_length}

module _ (o : Opening) (script : Script) (run : IsRun o script) (e : Engine) (kept : Kept o script e) (s : ℕ) (v : ReadView) (is : (e.sessions s).view ≡ Some v) (d : ℕ)
    (still : (left : Left) (r : Reply) → (e.sessions s).task ≡ making d left r → ⊥) (calm : (u : Undoer) → (e.sessions s).task ≡ undoing u → ⊥) where
  shows : (b : Bool) → touches d (own script s e.journal) ≡ b
      → (seen (sees_by (e.sessions s).trx v) (store.history e.store d) ≡ bytes_of (shown_at o script s d v.commits e.journal)) × SeenMeasured (sees_by (e.sessions s).trx v) (store.history e.store d)
  shows true there =
      let held = (kept.locks d).held s (own_held script s d e.journal there) in
      (own_shows o script run e kept s v ((kept.views s).sees v is) d still calm held there, own_measured o script run e kept s v ((kept.views s).sees v is) d still calm held there)
  shows false none =
      (view_shows o script run e kept s v ((kept.views s).sees v is) d still calm none, view_measured o script run e kept s v ((kept.views s).sees v is) d still calm none)

  pub row_length : (above older : List Undo) (row : Row) → IsVisible (sees_by (e.sessions s).trx v) (document e.store d) above older row
      → (bytes : List ℕ) → bytes_of (shown o script s d e.journal) ≡ Some bytes → row.lob.length ≡ length bytes
  row_length above older row visible bytes told =
      let both = shows (touches d (own script s e.journal)) refl in
      let same = shown_is o script s d v.commits e.journal (sym (kept.views s).commits ∙ ap (option_map (λ (w : ReadView). w.commits)) is) in
      visible_length (sees_by (e.sessions s).trx v) _ e.store.lobs (row_before e.store d) (changes e.store d) both.1 above older row visible.records visible.walk bytes
      (both.0 ∙ ap bytes_of (sym same) ∙ told)
