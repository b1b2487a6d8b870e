use Rattle.std.proofs.Common.{[], ◌∷◌, sym, subst, ℕ, lit≤, true≢false}
use Rattle.page_model.proofs.StepLemmas.{may_within, uses_within, uses_more, within_nil}
use Rattle.engine_base.specs.Addresses.{address_of}
use Rattle.file_lists.proofs.LinkLemmas.{handed_on}
use Rattle.lob_pages.specs.Entries.{FitsPage}
use Rattle.read_views.specs.Steps.{HasPlaceFor}
use Rattle.version_read.specs.Reads.{document_of}
use Rattle.version_read.proofs.PiecesLemmas.{stands_at, at_on, version_stands, version_fits, place_there, takes_on}
use Rattle.version_read.proofs.copies.copy_version.Goals as goal

pub returns-in_err-found-clause-never : goal.returns-in_err-found-clause-never
returns-in_err-found-clause-never g c = λ pages store sees shown at b.
    let phase = c.requires.phase in
    let whole = g.P.Pages.whole c.args.p.now pages at.under.told' in
    handed_on c.read_version.result _ _ (c.read_version.ensures.never
    (subst (λ (n : ℕ). FitsPage n (address_of c.args.entry)) whole.many (version_fits phase at b))
    pages at.lob.page b.x at.under.told' b.place (stands_at phase at).is.first
    (version_stands phase at b)) c.in_err-found.was c.from_residual.ensures

pub returns-in_err-found-clause-uses : goal.returns-in_err-found-clause-uses
returns-in_err-found-clause-uses g c =
    uses_more [] (c.args.head.page.0 ∷ []) 2 3 0 0 _ _ c.read_version.ensures.uses
    (within_nil (c.args.head.page.0 ∷ [])) (lit≤ tt) (lit≤ tt)

pub returns-then-not-has_place_for-clause-never : goal.returns-then-not-has_place_for-clause-never
returns-then-not-has_place_for-clause-never g c = λ pages store sees shown at b.
    let phase = c.requires.phase in
    let d = c.in_ok-found.ensures.reads pages at.lob.page b.x at.under.told' b.place
    (stands_at phase at).is.first (version_stands phase at b) in
    absurd (true≢false (sym (c.if-not-has_place_for.ensures.1
    (subst (λ (n : ℕ). HasPlaceFor c.args.flight.now n) (sym d.long) (place_there phase at b)))))

pub returns-then-not-has_place_for-clause-uses : goal.returns-then-not-has_place_for-clause-uses
returns-then-not-has_place_for-clause-uses g c =
    uses_more [] (c.args.head.page.0 ∷ []) 2 3 0 0 _ _ c.read_version.ensures.uses
    (within_nil (c.args.head.page.0 ∷ [])) (lit≤ tt) (lit≤ tt)

pub piece_behind-requires-clause-may : goal.piece_behind-requires-clause-may
piece_behind-requires-clause-may g c =
    let q = c.args.head.page.0 in
    may_within (q ∷ []) (q ∷ []) 3 0 2 0 1 0 _ _ (λ n is. is) (lit≤ tt) (lit≤ tt) c.requires.may
    (uses_more [] (q ∷ []) 2 2 0 0 _ _ c.read_version.ensures.uses (within_nil (q ∷ [])) (lit≤ tt)
    (lit≤ tt))

pub returns-in_err-behind-clause-never : goal.returns-in_err-behind-clause-never
returns-in_err-behind-clause-never g c = λ pages store sees shown at b.
    handed_on c.piece_behind.result _ _ (c.piece_behind.ensures.never pages store sees shown
    (at_on c.read_version.ensures.told at)) c.in_err-behind.was
    c.from_residual-in_err-behind.ensures

pub returns-in_err-behind-clause-uses : goal.returns-in_err-behind-clause-uses
returns-in_err-behind-clause-uses g c =
    let q = c.args.head.page.0 in
    uses_within g.P.Pages.stays_on (q ∷ []) (q ∷ []) 2 0 1 0 _ _ _ (λ n is. is)
    (uses_more [] (q ∷ []) 2 2 0 0 _ _ c.read_version.ensures.uses (within_nil (q ∷ [])) (lit≤ tt)
    (lit≤ tt)) c.piece_behind.ensures.uses

pub returns-clause-copies : goal.returns-clause-copies
returns-clause-copies g c = λ pages store sees shown at b.
    let phase = c.requires.phase in
    let d = c.in_ok-found.ensures.reads pages at.lob.page b.x at.under.told' b.place
    (stands_at phase at).is.first (version_stands phase at b) in
    let follows = c.in_ok-behind.ensures.follows pages store sees shown
    (at_on c.read_version.ensures.told at) in
    takes_on phase at b c.take_piece.new.flight c.in_ok-behind.behind _ _ d.page d.bytes follows
    c.take_piece.ensures.takes
    (c.take_piece.ensures.read (document_of store c.args.flight.now) at.more follows)

pub returns-clause-uses : goal.returns-clause-uses
returns-clause-uses g c =
    let q = c.args.head.page.0 in
    uses_within g.P.Pages.stays_on (q ∷ []) (q ∷ []) 2 0 1 0 _ _ _ (λ n is. is)
    (uses_more [] (q ∷ []) 2 2 0 0 _ _ c.read_version.ensures.uses (within_nil (q ∷ [])) (lit≤ tt)
    (lit≤ tt)) c.piece_behind.ensures.uses
