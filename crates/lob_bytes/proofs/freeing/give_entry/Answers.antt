use Rattle.page_model.specs.Pages.{Pages}
use Rattle.page_model.specs.Steps.{Becomes}
use Rattle.page_model.proofs.StepLemmas.{told_step}
use Rattle.engine_base.specs.Addresses.{address_of}
use Rattle.file_lists.specs.Changes.{MakesBase}
use Rattle.lob_model.specs.Places.{free_base}
use Rattle.lob_index.specs.Nodes.{GivesNode}
use Rattle.lob_index.proofs.AnswerLemmas.{on_ok, becomes_on}
use Rattle.lob_bytes.specs.Freeing.{GivesEntry}
use Rattle.lob_bytes.proofs.FreeingLemmas.{entry_given, entry_emptied}
use Rattle.lob_bytes.proofs.freeing.give_entry.Goals as goal

pub returns-then-left-clause-gives : goal.returns-then-left-clause-gives
returns-then-left-clause-gives g c = λ pages lob told first size stands is.
    let node = address_of c.args.node in
    let G : Pages → Type 0 = λ new. GivesNode lob node pages new in
    let E : Pages → Type 0 = λ new. GivesEntry lob node pages new in
    on_ok (Becomes (g.P.Pages.state c.give_node.new.p).told G) (Becomes (g.P.Pages.state c.give_node.new.p).told E) c.give_node.result
    (becomes_on G E _ (λ new given. entry_given c.args.left pages new lob node c.if-left.true is given)) (c.give_node.ensures.gives pages lob told first size stands)

pub returns-else-left-clause-gives : goal.returns-else-left-clause-gives
returns-else-left-clause-gives g c = λ pages lob told first size stands is.
    let node = address_of c.args.node in
    let page = c.args.page.0 in
    let M : Pages → Pages → Type 0 = λ old new. MakesBase (free_base page) old new in
    let E : Pages → Type 0 = λ new. GivesEntry lob node pages new in
    on_ok _ (Becomes (g.P.Pages.state c.make_base.new.p).told E) c.make_base.result
    (λ made. becomes_on (M pages) E _ (λ new given. entry_emptied c.args.left pages new lob node page c.if-left.false is first stands given) (told_step M _ _ pages told made)) c.make_base.ensures.makes
