-- A change of a live document: its LOB stands, and its row has the next version.
use Rattle.std.proofs.Common.{◌≡◌, ℕ, true, false, List, Option, Some, None, is_some, refl, ap₂}
use Rattle.page_model.specs.Pages.{Pages}
use Rattle.page_model.specs.Spans.{span, SameOutside}
use Rattle.page_model.proofs.FrameLemmas.{field_kept}
use Rattle.page_space.specs.Map.{free_of}
use Rattle.store_data.specs.Store.{live, RowState, Reference, Row, Lob, Store}
use Rattle.lob_model.specs.Lobs.{lob_pages as pages_of_lob, lob_spans}
use Rattle.undo_model.specs.Rows.{RowPage}
use Rattle.store_model.specs.Lobs.{lob_of}
use Rattle.store_model.specs.History.{row_before}
use Rattle.store_model.specs.Events.{Plan, raised, raised_row}
use Rattle.store_model.specs.Consistent.{IsConsistent}
use Rattle.store_model.proofs.HeldLemmas.{owned_there}
use Rattle.store_model.proofs.SoundLemmas.{lobs_are_owned}
use Rattle.store_parts.proofs.CountLemmas.{off_page, on_pages}
use Rattle.store_steps.proofs.LobLemmas.{LobAt}

-- ---- the LOB of a live row

there_is : (o : Option Lob) → is_some o ≡ true → (m : Lob) × (o ≡ Some m)
there_is None some = absurd (let e : false ≡ true = some in cc)
there_is (Some m) some = (m, refl)

-- stands
pub lob_stands : (store : Store) (d : ℕ) → IsConsistent store → (row_before store d).state ≡ live
    → (m : Lob) × (lob_of store.lobs (row_before store d).lob.page ≡ Some m)
lob_stands store d all is_live =
    there_is (lob_of store.lobs (row_before store d).lob.page)
    (owned_there (row_before store d).lob.page store all.lobs
    ((lobs_are_owned store d all.well).0 is_live))

-- what is written in its pages leaves the count of free pages
pub free_kept : (there : List RowPage) (old : Pages) (store : Store) (page : ℕ) (l : Lob)
    (new : Pages) → LobAt there old store page l → SameOutside (lob_spans l) old new
    → free_of new ≡ free_of old
free_kept there old store page l new at same =
    field_kept (lob_spans l) old new 0 62 4 same
    (off_page (pages_of_lob l) (lob_spans l) (span 0 62 4) (on_pages (pages_of_lob l))
    (let u = at.used in u.other))

-- ---- the row

pub row_raised : (p : Plan) (b : Row) (state : RowState) (r : Reference) → state ≡ b.state
    → r ≡ raised b.lob
    → (let x : Row = record { state = state; trx = p.trx; roll = Some p.place; lob = r } in x)
    ≡ raised_row p b
row_raised p b state r same is =
    ap₂ (λ (s : RowState) (q : Reference). let x : Row =
    record { state = s; trx = p.trx; roll = Some p.place; lob = q } in x) same is
