use Rattle.std.proofs.Common.{[], ◌∷◌, option_map, sym, ap, ◌∙◌, lit≤}
use Rattle.page_model.proofs.StepLemmas.{may_within, uses_within, within_nil}
use Rattle.engine_base.specs.Addresses.{address_of}
use Rattle.file_lists.proofs.LinkLemmas.{handed_on}
use Rattle.version_read.proofs.PiecesLemmas.{stands_at, head_there, follows_walk, follows_piece}
use Rattle.version_read.proofs.copies.piece_behind.Goals as goal

pub returns-in_err-next-clause-never : goal.returns-in_err-next-clause-never
returns-in_err-next-clause-never g c = λ pages store sees shown at.
    let phase = c.requires.phase in
    handed_on c.next_head.result _ _ (c.next_head.ensures.never pages at.lob at.under.told'
    (stands_at phase at).is (head_there phase at)) c.in_err-next.was c.from_residual.ensures

pub row_now-requires-clause-may : goal.row_now-requires-clause-may
row_now-requires-clause-may g c =
    let q = c.args.head.page.0 in
    may_within (q ∷ []) [] 1 0 0 0 1 0 _ _ (within_nil (q ∷ [])) (lit≤ tt) (lit≤ tt)
    c.requires.may c.next_head.ensures.uses

pub returns-in_err-row-clause-never : goal.returns-in_err-row-clause-never
returns-in_err-row-clause-never g c = λ pages store sees shown at.
    handed_on c.row_now.result _ _ (c.row_now.ensures.never pages store
    (c.next_head.ensures.told ∙ at.under.told') at.under.is at.under.directory) c.in_err-row.was
    c.from_residual-in_err-row.ensures

pub returns-in_err-row-clause-uses : goal.returns-in_err-row-clause-uses
returns-in_err-row-clause-uses g c =
    let q = c.args.head.page.0 in
    uses_within g.P.Pages.stays_on (q ∷ []) [] 0 0 1 0 _ _ _ (within_nil (q ∷ []))
    c.next_head.ensures.uses c.row_now.ensures.uses

pub returns-in_default-clause-follows : goal.returns-in_default-clause-follows
returns-in_default-clause-follows g c = λ pages store sees shown at.
    let phase = c.requires.phase in
    follows_walk phase at c.in_ok-row.row
    (sym (ap (option_map address_of) c.in_default.is)
    ∙ c.in_ok-next.ensures.value pages at.lob at.under.told' (stands_at phase at).is
    (head_there phase at))
    (c.in_ok-row.ensures.value pages store (c.next_head.ensures.told ∙ at.under.told') at.under.is
    at.under.directory)

pub returns-in_default-clause-uses : goal.returns-in_default-clause-uses
returns-in_default-clause-uses g c =
    let q = c.args.head.page.0 in
    uses_within g.P.Pages.stays_on (q ∷ []) [] 0 0 1 0 _ _ _ (within_nil (q ∷ []))
    c.next_head.ensures.uses c.row_now.ensures.uses

pub returns-clause-follows : goal.returns-clause-follows
returns-clause-follows g c = λ pages store sees shown at.
    let phase = c.requires.phase in
    follows_piece phase at c.in-Some.next
    (sym (ap (option_map address_of) c.in-Some.is)
    ∙ c.in_ok-next.ensures.value pages at.lob at.under.told' (stands_at phase at).is
    (head_there phase at))
