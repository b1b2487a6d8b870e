use Rattle.std.proofs.Common.{[], ◌∷◌, Option, sym, ap, ◌∙◌, lit≤}
use Rattle.std.specs.Option.{option_map}
use Rattle.page_model.proofs.StepLemmas.{may_within, uses_more, uses_within, within_nil}
use Rattle.engine_base.specs.Addresses.{address_of}
use Rattle.store_data.specs.Store.{Row}
use Rattle.undo_model.specs.Data.{Row as RowThere}
use Rattle.undo_records.specs.Records.{row_of as row_there}
use Rattle.undo_records.specs.declared.record_type.Row.{Row as RowRead}
use Rattle.store_model.specs.Undo.{is_newest}
use Rattle.store_parts.specs.Shows.{row_of}
use Rattle.purge.proofs.LogLemmas.{on_told}
use Rattle.purge.proofs.RowLemmas.{rows_at, shown_at, row_stays, rows_change, row_goes, is_in}
use Rattle.purge.proofs.rows.sweep.Goals as goal

pub returns-in_err-row-clause-uses : goal.returns-in_err-row-clause-uses
returns-in_err-row-clause-uses g c =
    uses_more [] (0 ∷ []) 1 4 0 61 _ _ c.get.ensures.uses (within_nil (0 ∷ [])) (lit≤ tt) (lit≤ tt)

pub returns-in_default-clause-uses : goal.returns-in_default-clause-uses
returns-in_default-clause-uses g c =
    uses_more [] (0 ∷ []) 1 4 0 61 _ _ c.get.ensures.uses (within_nil (0 ∷ [])) (lit≤ tt) (lit≤ tt)

pub returns-then-not-is_newest-clause-uses : goal.returns-then-not-is_newest-clause-uses
returns-then-not-is_newest-clause-uses g c =
    uses_more [] (0 ∷ []) 1 4 0 61 _ _ c.get.ensures.uses (within_nil (0 ∷ [])) (lit≤ tt) (lit≤ tt)

pub remove-requires-clause-may : goal.remove-requires-clause-may
remove-requires-clause-may g c =
    may_within (0 ∷ []) (0 ∷ []) 4 61 1 0 3 61 c.args.p.now c.get.new.p (λ n is. is) (lit≤ tt) (lit≤ tt)
    c.requires.may
    (uses_more [] (0 ∷ []) 1 1 0 0 _ _ c.get.ensures.uses (within_nil (0 ∷ [])) (lit≤ tt) (lit≤ tt))

pub returns-clause-uses : goal.returns-clause-uses
returns-clause-uses g c =
    uses_within g.P.Pages.stays_on (0 ∷ []) (0 ∷ []) 1 0 3 61 c.args.p.now c.get.new.p c.remove.new.p
    (λ n is. is)
    (uses_more [] (0 ∷ []) 1 1 0 0 _ _ c.get.ensures.uses (within_nil (0 ∷ [])) (lit≤ tt) (lit≤ tt))
    c.remove.ensures.uses

pub returns-in_default-clause-sweeps : goal.returns-in_default-clause-sweeps
returns-in_default-clause-sweeps g c = λ there pages store told on dir.
    let d = c.args.doc.0 in
    let a = address_of c.args.place in
    let trx = c.args.trx.0 in
    let read = c.in_ok-row.ensures.value pages there told (rows_at there pages store on) dir in
    let found = sym read ∙ ap (λ (o : Option RowRead). option_map row_there o) c.in_default.is in
    let shown = shown_at there pages store on d
    ∙ ap (λ (o : Option RowThere). option_map row_of o) found in (
      pages,
      c.get.ensures.told ∙ told,
      row_stays there pages store a trx d _ on dir
          (ap (λ (o : Option Row). is_newest a trx o) shown),
    )

pub returns-then-not-is_newest-clause-sweeps : goal.returns-then-not-is_newest-clause-sweeps
returns-then-not-is_newest-clause-sweeps g c = λ there pages store told on dir.
    let d = c.args.doc.0 in
    let a = address_of c.args.place in
    let trx = c.args.trx.0 in
    let read = c.in_ok-row.ensures.value pages there told (rows_at there pages store on) dir in
    let found = sym read ∙ ap (λ (o : Option RowRead). option_map row_there o) c.in-Some.is in
    let shown = shown_at there pages store on d
    ∙ ap (λ (o : Option RowThere). option_map row_of o) found in (
      pages,
      c.get.ensures.told ∙ told,
      row_stays there pages store a trx d _ on dir
          (ap (λ (o : Option Row). is_newest a trx o) shown ∙ sym c.is_newest.ensures
          ∙ c.if-not-is_newest.true),
    )

pub returns-clause-sweeps : goal.returns-clause-sweeps
returns-clause-sweeps g c = λ there pages store told on dir.
    let d = c.args.doc.0 in
    let a = address_of c.args.place in
    let trx = c.args.trx.0 in
    let rows = rows_at there pages store on in
    let read = c.in_ok-row.ensures.value pages there told rows dir in
    let found = sym read ∙ ap (λ (o : Option RowRead). option_map row_there o) c.in-Some.is in
    let shown = shown_at there pages store on d
    ∙ ap (λ (o : Option RowThere). option_map row_of o) found in
    let newest = ap (λ (o : Option Row). is_newest a trx o) shown ∙ sym c.is_newest.ensures
    ∙ c.if-not-is_newest.false in
    on_told c.remove.result _ _ _
    (λ new gone. row_goes there pages new store a trx d _ on newest gone.0)
    (c.remove.ensures.removes pages there (c.get.ensures.told ∙ told) rows dir
    (rows_change there pages store on) (is_in _ there d _ dir found))

pub returns-clause-never : goal.returns-clause-never
returns-clause-never g c = λ there pages store told on dir.
    c.remove.ensures.never pages there (c.get.ensures.told ∙ told) (rows_at there pages store on) dir
    (rows_change there pages store on)
