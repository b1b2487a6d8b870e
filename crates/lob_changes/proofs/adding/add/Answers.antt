use Rattle.store_steps.proofs.UseLemmas.{on_told}
use Rattle.lob_changes.proofs.AddLemmas.{page_is, can_add, piece_adds, still_covered}
use Rattle.lob_changes.proofs.adding.add.Goals as goal

pub returns-clause-adds : goal.returns-clause-adds
returns-clause-adds g c = λ there pages store m at found can covered.
    let on = at.stands in
    let page = c.args.lob.0 in
    on_told c.add_piece.result _ _ _ (λ new a. (
      piece_adds there pages store page m on found at.consistent c.args.trx.0 _ _ c.args.piece.now
          new a
          can.begun,
      still_covered there pages store page m on found at.consistent c.args.trx.0 _ _
          c.args.piece.now
          new a can.begun covered,
    ))
    (c.add_piece.ensures.adds pages m at.told' (page_is there pages store page m on found)
    (can_add there pages store page m on found c.args.piece.now c.args.space.now can c.requires.two
    covered))

pub returns-clause-never : goal.returns-clause-never
returns-clause-never g c = λ there pages store m at found can covered.
    let on = at.stands in
    let page = c.args.lob.0 in
    c.add_piece.ensures.never pages m at.told' (page_is there pages store page m on found)
    (can_add there pages store page m on found c.args.piece.now c.args.space.now can c.requires.two
    covered)
