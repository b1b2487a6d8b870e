use Rattle.std.proofs.Common.{[], ◌∷◌, lit≤}
use Rattle.page_model.proofs.StepLemmas.{may_name, may_within, uses_within, uses_unnamed, uses_at_most}
use Rattle.version_read.proofs.copies.read_version.Goals as goal

pub returns-in_err-fields-clause-uses : goal.returns-in_err-fields-clause-uses
returns-in_err-fields-clause-uses g c =
    uses_at_most [] 1 0 2 0 _ _ (lit≤ tt) (lit≤ tt)
    (uses_unnamed c.args.entry.page.0 [] 0 0 _ _ c.read_entry.ensures.uses)

pub read_piece-requires-clause-may : goal.read_piece-requires-clause-may
read_piece-requires-clause-may g c =
    let q = c.args.entry.page.0 in
    may_within (q ∷ []) (q ∷ []) 1 0 0 0 1 0 _ _ (λ n is. is) (lit≤ tt) (lit≤ tt)
    (may_name q [] 1 0 _ c.requires.may) c.read_entry.ensures.uses

pub returns-in_err-length-clause-uses : goal.returns-in_err-length-clause-uses
returns-in_err-length-clause-uses g c =
    let q = c.args.entry.page.0 in
    uses_unnamed q [] 1 0 _ _ (uses_within g.P.Pages.stays_on (q ∷ []) (q ∷ []) 0 0 1 0 _ _ _
    (λ n is. is) c.read_entry.ensures.uses c.read_piece.ensures.uses)

pub returns-clause-uses : goal.returns-clause-uses
returns-clause-uses g c =
    let q = c.args.entry.page.0 in
    uses_unnamed q [] 1 0 _ _ (uses_within g.P.Pages.stays_on (q ∷ []) (q ∷ []) 0 0 1 0 _ _ _
    (λ n is. is) c.read_entry.ensures.uses c.read_piece.ensures.uses)
