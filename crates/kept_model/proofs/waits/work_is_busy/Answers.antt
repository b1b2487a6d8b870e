use Rattle.kept_model.proofs.BusyLemmas.{work_is_busy, purge_is_busy, begun_is_busy}
use Rattle.kept_model.proofs.waits.work_is_busy.Goals as goal

pub returns-clause-session : goal.returns-clause-session
returns-clause-session c = work_is_busy

pub returns-clause-may_purge : goal.returns-clause-may_purge
returns-clause-may_purge c = purge_is_busy

pub returns-clause-purging : goal.returns-clause-purging
returns-clause-purging c = begun_is_busy
