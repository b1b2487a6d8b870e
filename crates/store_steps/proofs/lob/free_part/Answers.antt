use Rattle.std.proofs.Common.{[], ◌∷◌, sym, ◌∙◌, lit≤}
use Rattle.page_model.proofs.StepLemmas.{uses_more, within_two}
use Rattle.file_lists.proofs.LinkLemmas.{handed_on}
use Rattle.lob_index.proofs.AnswerLemmas.{becomes_on}
use Rattle.store_steps.proofs.LobLemmas.{lob_at}
use Rattle.store_steps.proofs.PartLemmas.{split_at, can_free, piece_goes, piece_there, can_give, index_goes, index_there, nothing_goes, nothing_there}
use Rattle.store_steps.proofs.UseLemmas.{may_part, used_part}
use Rattle.store_steps.proofs.lob.free_part.Goals as goal

pub free_last_piece-requires-clause-may : goal.free_last_piece-requires-clause-may
free_last_piece-requires-clause-may g c =
    may_part c.args.page.0 3 129 c.args.p.now c.left_of.new.p (lit≤ tt) (lit≤ tt) c.requires.may
    c.left_of.ensures.uses

pub free_index_page-requires-clause-may : goal.free_index_page-requires-clause-may
free_index_page-requires-clause-may g c =
    may_part c.args.page.0 1 33 c.args.p.now c.left_of.new.p (lit≤ tt) (lit≤ tt) c.requires.may
    c.left_of.ensures.uses

pub returns-in_err-free_last_piece-in-Pieces-clause-uses : goal.returns-in_err-free_last_piece-in-Pieces-clause-uses
returns-in_err-free_last_piece-in-Pieces-clause-uses g c =
    used_part g.P.Pages.stays_on c.args.page.0 3 129 c.args.p.now c.left_of.new.p c.free_last_piece.new.p
    (lit≤ tt) (lit≤ tt) c.left_of.ensures.uses c.free_last_piece.ensures.uses

pub returns-in_ok-free_last_piece-in-Pieces-clause-uses : goal.returns-in_ok-free_last_piece-in-Pieces-clause-uses
returns-in_ok-free_last_piece-in-Pieces-clause-uses g c =
    used_part g.P.Pages.stays_on c.args.page.0 3 129 c.args.p.now c.left_of.new.p c.free_last_piece.new.p
    (lit≤ tt) (lit≤ tt) c.left_of.ensures.uses c.free_last_piece.ensures.uses

pub returns-in_err-free_index_page-in-Index-clause-uses : goal.returns-in_err-free_index_page-in-Index-clause-uses
returns-in_err-free_index_page-in-Index-clause-uses g c =
    used_part g.P.Pages.stays_on c.args.page.0 1 33 c.args.p.now c.left_of.new.p c.free_index_page.new.p
    (lit≤ tt) (lit≤ tt) c.left_of.ensures.uses c.free_index_page.ensures.uses

pub returns-in_ok-free_index_page-in-Index-clause-uses : goal.returns-in_ok-free_index_page-in-Index-clause-uses
returns-in_ok-free_index_page-in-Index-clause-uses g c =
    used_part g.P.Pages.stays_on c.args.page.0 1 33 c.args.p.now c.left_of.new.p c.free_index_page.new.p
    (lit≤ tt) (lit≤ tt) c.left_of.ensures.uses c.free_index_page.ensures.uses

pub returns-in_err-free_last_piece-in-Pieces-clause-never : goal.returns-in_err-free_last_piece-in-Pieces-clause-never
returns-in_err-free_last_piece-in-Pieces-clause-never g c = λ there pages store l told on found single.
    let page = c.args.page.0 in
    let at = lob_at there pages store page l on found in
    let left = sym c.in-Pieces.is ∙ c.in_ok-left_of.ensures.value pages l told at.here at.stands in
    let s = split_at there pages store page l at single left in
    handed_on c.free_last_piece.result _ _ (c.free_last_piece.ensures.never pages l s.ps s.x
    (c.left_of.ensures.told ∙ told) at.here (can_free there pages store page l at single s))
    c.in_err-free_last_piece-in-Pieces.was c.from_residual-in_err-free_last_piece-in-Pieces.ensures

pub returns-in_err-free_index_page-in-Index-clause-never : goal.returns-in_err-free_index_page-in-Index-clause-never
returns-in_err-free_index_page-in-Index-clause-never g c = λ there pages store l told on found single.
    let page = c.args.page.0 in
    let at = lob_at there pages store page l on found in
    let left = sym c.in-Index.is ∙ c.in_ok-left_of.ensures.value pages l told at.here at.stands in
    let b = can_give there pages store page l at single left in
    handed_on c.free_index_page.result _ _ (c.free_index_page.ensures.never pages l _
    (c.left_of.ensures.told ∙ told) at.here b.3)
    c.in_err-free_index_page-in-Index.was c.from_residual-in_err-free_index_page-in-Index.ensures

pub returns-in_ok-free_last_piece-in-Pieces-clause-frees : goal.returns-in_ok-free_last_piece-in-Pieces-clause-frees
returns-in_ok-free_last_piece-in-Pieces-clause-frees g c = λ there pages store l told on found single.
    let page = c.args.page.0 in
    let at = lob_at there pages store page l on found in
    let left = sym c.in-Pieces.is ∙ c.in_ok-left_of.ensures.value pages l told at.here at.stands in
    let s = split_at there pages store page l at single left in
    let freed = c.in_ok-free_last_piece-in-Pieces.ensures.frees pages l s.ps s.x
    (c.left_of.ensures.told ∙ told) at.here (can_free there pages store page l at single s) in (
      piece_there there pages store page l at single left,
      becomes_on _ _ _ (piece_goes there pages store page l at single left s) freed.1,
    )

pub returns-in_ok-free_index_page-in-Index-clause-frees : goal.returns-in_ok-free_index_page-in-Index-clause-frees
returns-in_ok-free_index_page-in-Index-clause-frees g c = λ there pages store l told on found single.
    let page = c.args.page.0 in
    let at = lob_at there pages store page l on found in
    let left = sym c.in-Index.is ∙ c.in_ok-left_of.ensures.value pages l told at.here at.stands in
    let b = can_give there pages store page l at single left in
    let given = c.in_ok-free_index_page-in-Index.ensures.gives pages l b.0 b.1
    (c.left_of.ensures.told ∙ told) at.here b.3 in (
      index_there there pages store page l at single left,
      becomes_on _ _ _ (index_goes there pages store page l at single left b.0 b.1 b.2) given.1,
    )

pub returns-in-Nothing-clause-frees : goal.returns-in-Nothing-clause-frees
returns-in-Nothing-clause-frees g c = λ there pages store l told on found single.
    let page = c.args.page.0 in
    let at = lob_at there pages store page l on found in
    let left = sym c.in-Nothing.is ∙ c.in_ok-left_of.ensures.value pages l told at.here at.stands in (
      nothing_there there pages store page l at single left,
      (pages, c.left_of.ensures.told ∙ told, nothing_goes there pages store page l at single left on),
    )

pub returns-in-Nothing-clause-still : goal.returns-in-Nothing-clause-still
returns-in-Nothing-clause-still g c = λ none.
    let page = c.args.page.0 in
    uses_more (page ∷ []) (0 ∷ page ∷ []) 0 0 0 0 _ _ c.left_of.ensures.uses (within_two 0 page [])
    (lit≤ tt) (lit≤ tt)
