use Rattle.std.proofs.Common.{◌+◌, map}
use Rattle.engine_base.specs.Addresses.{address_of}
use Rattle.lob_model.specs.Pieces.{head_place}
use Rattle.lob_index.specs.Heads.{nth}
use Rattle.lob_index.proofs.HeadLemmas.{next_there, answer_read, head_plain}
use Rattle.lob_index.proofs.heads.next_head.Goals as goal

pub returns-clause-value : goal.returns-clause-value
returns-clause-value g c = λ pages lob is stands here.
    let s = c.args.p.now in
    let node = address_of c.args.node in
    answer_read c.head_at.result _ _ node.page (node.at + 6) (c.args.k + 1) node.page pages (nth (c.args.k + 1) (map head_place lob.pieces)) (g.P.Pages.few s) (g.P.Pages.whole s pages is) is c.head_at.ensures.value c.head_at.ensures.place
    (next_there pages lob c.args.k node stands here)

pub returns-clause-never : goal.returns-clause-never
returns-clause-never g c = λ pages lob is stands here.
    let node = address_of c.args.node in
    head_plain c.head_at.result _ _ node.page (node.at + 6) (c.args.k + 1) node.page pages (nth (c.args.k + 1) (map head_place lob.pieces)) (g.P.Pages.whole c.args.p.now pages is) is c.head_at.ensures.never (next_there pages lob c.args.k node stands here)
