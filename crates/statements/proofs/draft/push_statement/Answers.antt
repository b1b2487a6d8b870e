use Rattle.std.proofs.Common.{refl, ◌∙◌}
use Rattle.journal_model.specs.Journal.{step, purge, checkpoint, audit, restart}
use Rattle.statements.specs.Forms.{statement_of}
use Rattle.statements.proofs.ListLemmas.{on_ok, lists_said, lists_unsaid}
use Rattle.statements.proofs.draft.push_statement.Goals as goal

pub returns-in-Say-clause-more : goal.returns-in-Say-clause-more
returns-in-Say-clause-more c model h =
    rw c.in-Say.is (on_ok c.push_said.result c.push_said.ensures
    (λ g. lists_said c.args.lists.now.items c.push_said.new.lists.items model c.in-Say.session.0 c.in-Say.driven (statement_of c.in-Say.statement) g h))

pub returns-in-Say-clause-count : goal.returns-in-Say-clause-count
returns-in-Say-clause-count c = on_ok c.push_said.result c.push_said.ensures (λ g. g.0 ∙ c.requires.count)

pub returns-in-Step-clause-more : goal.returns-in-Step-clause-more
returns-in-Step-clause-more c model h = rw c.in-Step.is (lists_unsaid c.args.lists.now.items model (step c.in-Step.session.0 c.in-Step.times) (λ s. refl) h)

pub returns-in-Purge-clause-more : goal.returns-in-Purge-clause-more
returns-in-Purge-clause-more c model h = rw c.in-Purge.is (lists_unsaid c.args.lists.now.items model purge (λ s. refl) h)

pub returns-in-Checkpoint-clause-more : goal.returns-in-Checkpoint-clause-more
returns-in-Checkpoint-clause-more c model h = rw c.in-Checkpoint.is (lists_unsaid c.args.lists.now.items model checkpoint (λ s. refl) h)

pub returns-in-Audit-clause-more : goal.returns-in-Audit-clause-more
returns-in-Audit-clause-more c model h = rw c.in-Audit.is (lists_unsaid c.args.lists.now.items model audit (λ s. refl) h)

pub returns-in-Restart-clause-more : goal.returns-in-Restart-clause-more
returns-in-Restart-clause-more c model h = rw c.in-Restart.is (lists_unsaid c.args.lists.now.items model restart (λ s. refl) h)
