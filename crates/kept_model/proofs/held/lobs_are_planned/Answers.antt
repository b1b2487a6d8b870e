use Rattle.kept_model.proofs.PlanLobs.{insert_plans, rebuild_plans, version_plans, patch_plans, delete_plans}
use Rattle.kept_model.proofs.held.lobs_are_planned.Goals as goal

pub returns-clause-insert : goal.returns-clause-insert
returns-clause-insert c = insert_plans

pub returns-clause-full : goal.returns-clause-full
returns-clause-full c = rebuild_plans

pub returns-clause-versioned : goal.returns-clause-versioned
returns-clause-versioned c = version_plans

pub returns-clause-patched : goal.returns-clause-patched
returns-clause-patched c = patch_plans

pub returns-clause-delete : goal.returns-clause-delete
returns-clause-delete c = delete_plans
