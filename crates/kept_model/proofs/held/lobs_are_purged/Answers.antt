use Rattle.kept_model.proofs.PassEnds.{freed_passes, inserted_passes, patched_passes}
use Rattle.kept_model.proofs.VersionEnds.{version_passes}
use Rattle.kept_model.proofs.held.lobs_are_purged.Goals as goal

pub returns-clause-freed : goal.returns-clause-freed
returns-clause-freed c = freed_passes

pub returns-clause-inserted : goal.returns-clause-inserted
returns-clause-inserted c = inserted_passes

pub returns-clause-patched : goal.returns-clause-patched
returns-clause-patched c = patched_passes

pub returns-clause-versioned : goal.returns-clause-versioned
returns-clause-versioned c = version_passes
