use Rattle.std.proofs.Common.{[], ◌∷◌, ℕ, refl, sym, subst, ◌∙◌}
use Rattle.page_model.proofs.StepLemmas.{may_name, uses_unnamed}
use Rattle.engine_base.specs.Addresses.{address_of}
use Rattle.engine_base.specs.declared.addr.Addr.{Addr}
use Rattle.lob_pages.specs.Entries.{FitsPage}
use Rattle.version_read.specs.Pieces.{Begins}
use Rattle.version_read.proofs.PiecesLemmas.{known_piece, head_fits_at, from_fits_at, begins_known}
use Rattle.version_read.proofs.pieces.copy_from_known.Goals as goal

pub look_at-requires-clause-may : goal.look_at-requires-clause-may
look_at-requires-clause-may g c =
    may_name c.search_start-from.result.page.0 (c.args.head.page.0 ∷ []) 10 0 _
    (may_name c.args.head.page.0 [] 11 0 _ c.requires.may)

pub returns-clause-uses : goal.returns-clause-uses
returns-clause-uses g c =
    uses_unnamed c.args.head.page.0 [] 11 0 _ _
    (uses_unnamed c.search_start-from.result.page.0 (c.args.head.page.0 ∷ []) 10 0 _ _
    c.look_at.ensures.uses)

pub returns-clause-copies : goal.returns-clause-copies
returns-clause-copies g c = λ pages store sees shown u.
    let phase = c.requires.phase in
    let at = known_piece phase u c.args.head c.requires.head in
    c.look_at.ensures.copies pages store sees shown at
    (subst (λ (a : Addr). Begins c.args.flight.now at.piece (address_of a))
    (sym c.search_start-from.ensures) (begins_known phase at c.args.head refl))

pub returns-clause-never : goal.returns-clause-never
returns-clause-never g c = λ pages store sees shown u.
    let phase = c.requires.phase in
    let at = known_piece phase u c.args.head c.requires.head in
    c.look_at.ensures.never pages store sees shown at
    (subst (λ (a : Addr). Begins c.args.flight.now at.piece (address_of a))
    (sym c.search_start-from.ensures) (begins_known phase at c.args.head refl))

pub returns-in_err-check_place-clause-never : goal.returns-in_err-check_place-clause-never
returns-in_err-check_place-clause-never g c = λ pages store sees shown u.
    let phase = c.requires.phase in
    let at = known_piece phase u c.args.head c.requires.head in
    let whole = g.P.Pages.whole c.args.p.now pages u.told' in
    absurd (c.in_err-check_place.ensures.err.1
    (subst (λ (n : ℕ). FitsPage n (address_of c.args.head)) (whole.many ∙ sym c.count.ensures)
    (head_fits_at phase at)))

pub returns-in_err-check_place-2-clause-never : goal.returns-in_err-check_place-2-clause-never
returns-in_err-check_place-2-clause-never g c = λ pages store sees shown u.
    let phase = c.requires.phase in
    let at = known_piece phase u c.args.head c.requires.head in
    let from = c.search_start-from.result in
    let begins = subst (λ (a : Addr). Begins c.args.flight.now at.piece (address_of a))
    (sym c.search_start-from.ensures) (begins_known phase at c.args.head refl) in
    let whole = g.P.Pages.whole c.args.p.now pages u.told' in
    absurd (c.in_err-check_place-2.ensures.err.1
    (subst (λ (n : ℕ). FitsPage n (address_of from)) (whole.many ∙ sym c.count-2.ensures)
    (from_fits_at phase at (address_of from) begins)))
