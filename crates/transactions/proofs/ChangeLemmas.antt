-- A change recorded: the record is its log's newest, and then the row is put.
use Rattle.std.proofs.Common.{◌≡◌, inl, inr, ℕ, ◌==◌, Bool, true, false, if◌then◌else◌, List, [], ◌∷◌, Option, Some, refl, sym, ap, subst, ◌∙◌, arith}
use Rattle.std.proofs.lemmas.Bool.Decides.{eqb_tells}
use Rattle.page_model.specs.Pages.{Pages, Address}
use Rattle.engine_base.specs.declared.ids.DocId.{DocId}
use Rattle.lob_pages.specs.declared.ids.UndoNo.{UndoNo}
use Rattle.store_data.specs.Logs.{put_page, with_record, with_entry}
use Rattle.store_data.specs.Store.{Row, Body, Record, Log, Store}
use Rattle.undo_model.specs.Data.{Record as RecordThere, Body as BodyThere, led}
use Rattle.undo_model.specs.Bytes.{is_insert}
use Rattle.undo_model.specs.Rows.{Keyed, RowPage, IsRows, row_base}
use Rattle.undo_model.proofs.OptionLemmas.{some_some, not_some}
use Rattle.store_model.specs.Steps.{on_log, with_row, log_of as log_in}
use Rattle.store_model.specs.Events.{record_of as record_by, with_row_pages}
use Rattle.store_parts.specs.Stored.{row_pages}
use Rattle.store_parts.specs.Shows.{row_of, body_of, record_of}
use Rattle.undo_records.specs.declared.record_type.Row.{Row as RowThere}
use Rattle.undo_records.specs.declared.record_type.Body.{Body as CodeBody}
use Rattle.undo_records.specs.declared.record_type.UndoRecord.{UndoRecord}
use Rattle.undo_records.specs.Records.{row_of as row_there, body_of as body_there, record_of as record_there}
use Rattle.row_dir.specs.declared.dir.RowDir.{RowDir}
use Rattle.row_dir.specs.Puts.{PutsRow}
use Rattle.row_dir.specs.RowPages.{CanChange}
use Rattle.row_dir.proofs.StoreLemmas.{rows_in}
use Rattle.store_steps.specs.Standing.{StandsOn}
use Rattle.transactions.specs.Changes.{plan_by, Changes}
use Rattle.transactions.proofs.PointerLemmas.{pointer_leads}
use Rattle.transactions.proofs.StandLemmas.{rows_at, stands_on}
use Rattle.transactions.proofs.AppendLemmas.{Appended}

-- ---- the record

pub recorded : (rec : UndoRecord) (number : UndoNo) (doc : DocId) (kept : RowThere)
    (body : CodeBody) (before : Row) → rec.number ≡ number → rec.doc ≡ doc → rec.before ≡ kept
    → body_there rec.body ≡ body_there body → row_of (row_there kept) ≡ before
    → record_of (record_there rec) ≡ (let u : Record = record {
      number = number.0;
      doc = doc.0;
      before = before;
      body = body_of (body_there body);
    } in u)
recorded rec number doc kept body before n d r b same =
    let mk : ℕ → ℕ → Row → Body → Record =
    λ n d r b. record { number = n; doc = d; before = r; body = b } in
    ap (λ (x : UndoNo). mk x.0 rec.doc.0 (row_of (row_there rec.before)) (body_of
    (body_there rec.body))) n
    ∙ ap (λ (x : DocId). mk number.0 x.0 (row_of (row_there rec.before)) (body_of
    (body_there rec.body))) d
    ∙ ap (λ (x : RowThere). mk number.0 doc.0 (row_of (row_there x)) (body_of
    (body_there rec.body))) r
    ∙ ap (λ (x : Row). mk number.0 doc.0 x (body_of (body_there rec.body))) same
    ∙ ap (λ (x : BodyThere). mk number.0 doc.0 before (body_of x)) b

-- ---- the log with it

found_here : (l : Log) (b : Bool) (o : Option Log) (x : Log) → b ≡ true
    → (if b then Some l else o) ≡ Some x → l ≡ x
found_here l b o x is found =
    some_some l x (ap (λ (t : Bool). if t then Some l else o) (sym is) ∙ found)

found_behind : (l : Log) (b : Bool) (o : Option Log) (x : Log) → b ≡ false
    → (if b then Some l else o) ≡ Some x → o ≡ Some x
found_behind l b o x is found = ap (λ (t : Bool). if t then Some l else o) (sym is) ∙ found

abbrev paged : List ℕ → Log → Log
paged pages l = record l { pages = pages }

-- it is put on a page, and then the pages are those with it
pages_apart : (trx : ℕ) (a : Address) (u : Record) (ls : List Log) (x : Log)
    → log_in ls trx ≡ Some x
    → on_log trx (with_entry a u) ls
    ≡ on_log trx (paged (put_page a.page x.pages)) (on_log trx (with_record a u) ls)
pages_apart trx a u [] x is = refl
pages_apart trx a u (l ∷ ls) x is =
    let f = with_record a u in
    let e = with_entry a u in
    let p = paged (put_page a.page x.pages) in
    elim (eqb_tells l.trx trx) [
      | inl same ↦
          ap (λ (b : Bool). if b then e l ∷ ls else l ∷ on_log trx e ls) same.0
          ∙ ap (λ (y : Log). paged (put_page a.page y.pages) (f l) ∷ ls)
          (found_here l (l.trx == trx) (log_in ls trx) x same.0 is)
          ∙ sym (ap (λ (b : Bool). on_log trx p
          (if b then f l ∷ ls else l ∷ on_log trx f ls)) same.0
          ∙ ap (λ (b : Bool). if b then p (f l) ∷ ls else f l ∷ on_log trx p ls) same.0)
      | inr other ↦
          ap (λ (b : Bool). if b then e l ∷ ls else l ∷ on_log trx e ls) other.0
          ∙ ap (λ (xs : List Log). l ∷ xs) (pages_apart trx a u ls x
          (found_behind l (l.trx == trx) (log_in ls trx) x other.0 is))
          ∙ sym (ap (λ (b : Bool). on_log trx p
          (if b then f l ∷ ls else l ∷ on_log trx f ls)) other.0
          ∙ ap (λ (b : Bool). if b then p l ∷ on_log trx f ls else l ∷ on_log trx p
          (on_log trx f ls)) other.0)
    ]

log_with : (trx : ℕ) (a : Address) (u : Record) (ls : List Log) (x : Log)
    → log_in ls trx ≡ Some x → log_in (on_log trx (with_entry a u) ls) trx ≡ Some (with_entry a u x)
log_with trx a u [] x is = absurd (not_some x is)
log_with trx a u (l ∷ ls) x is =
    let e = with_entry a u in
    elim (eqb_tells l.trx trx) [
      | inl same ↦
          ap (λ (b : Bool). log_in (if b then e l ∷ ls else l ∷ on_log trx e ls) trx) same.0
          ∙ ap (λ (b : Bool). if b then Some (e l) else log_in ls trx) same.0
          ∙ ap (λ (y : Log). Some (e y)) (found_here l (l.trx == trx) (log_in ls trx) x same.0 is)
      | inr other ↦
          ap (λ (b : Bool). log_in (if b then e l ∷ ls else l ∷ on_log trx e ls) trx) other.0
          ∙ ap (λ (b : Bool). if b then Some l else log_in (on_log trx e ls) trx) other.0
          ∙ log_with trx a u ls x (found_behind l (l.trx == trx) (log_in ls trx) x other.0 is)
    ]

-- ---- the row

abbrev with_roll : Row → ℕ → Option Address → Row
with_roll after trx roll = record after { trx = trx; roll = roll }

module _ (there : List RowPage) (store : Store) (trx : ℕ) (r : RecordThere) (roll : ℕ)
    (mid : Pages) (a : Appended there trx r roll store mid) where
  abbrev with_log : List Log → Store
  with_log ls = record store { active = ls }

  -- the store, once the record is appended
  abbrev mid_store : Store
  mid_store = with_log (on_log trx (with_entry a.place (record_of r)) store.active)

  pub mid_rows : IsRows mid row_base there
  mid_rows = rows_at there mid mid_store a.stands

  pub can_put : CanChange there mid
  can_put = (let in' = rows_in mid mid_store there a.stands.is mid_rows in in'.can)

  -- the pointer leads to the record
  pub led_there : led roll ≡ Some a.place
  led_there =
      let w = a.within in
      let page = w.page in
      let within = w.within in
      let size = a.stands.is.standing.map.size.few in
      ap led a.leads ∙ pointer_leads (is_insert r.body) a.place a.other
      (omega (arith, page, size)) (omega (arith, within))

  pub row_changed : (number doc : ℕ) (before after : Row) (body : Body) (x : Log)
      → log_in store.active trx ≡ Some x
      → record_of r ≡ (let u : Record = record {
        number = number;
        doc = doc;
        before = before;
        body = body;
      } in u) → (dir : RowDir) (k : Keyed) (new : Pages) → k.doc ≡ doc
      → row_of k.row ≡ with_roll after trx (led roll) → PutsRow k dir there mid new
      → Changes x (plan_by trx number doc) before after body dir store new
  row_changed number doc before after body x found same dir k new is_doc is_row p =
      let place = a.place in
      let u = record_by (plan_by trx number doc place) before body in
      let lp = put_page place.page x.pages in
      let rows = row_pages p.after in
      let row = with_roll after trx (Some place) in
      let is_row' = is_row ∙ ap (λ (o : Option Address). with_roll after trx o) led_there in
      let in' = rows_in mid mid_store there a.stands.is mid_rows in
      let moves = p.moves in
      let one : StandsOn p.after new
      (with_row_pages rows (with_row k.doc (row_of k.row) mid_store)) =
      stands_on p.after new _ (in'.put k dir new p) moves.stands in
      let two : StandsOn p.after new (with_row_pages rows (with_row doc row mid_store)) =
      subst (λ (n : ℕ). StandsOn p.after new (with_row_pages rows
      (with_row n row mid_store))) is_doc
      (subst (λ (q : Row). StandsOn p.after new (with_row_pages rows (with_row k.doc q mid_store)))
      is_row' one) in
      let logs = ap (λ (v : Record). on_log trx (with_entry place v) store.active) same
      ∙ pages_apart trx place u store.active x found in
      let many = moves.outside.many in
      let w = a.within in
      record {
        place = place;
        log_pages = lp;
        there = p.after;
        stands = subst (λ (ls : List Log). StandsOn p.after new
            (with_row_pages rows (with_row doc row (with_log ls)))) logs two;
        directory = p.directory;
        fresh = a.fresh doc;
        within = record {
          page = (let n = w.page in omega (arith, n, many));
          within = w.within;
        };
        other = a.other;
        log = ap (λ (ls : List Log). log_in ls trx) (sym
            (pages_apart trx place u store.active x found))
            ∙ log_with trx place u store.active x found;
      }
