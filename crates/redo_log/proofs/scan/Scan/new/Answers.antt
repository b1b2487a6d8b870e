use Rattle.redo_log.proofs.PlaceLemmas.{begins_at, begins_end}
use Rattle.redo_log.proofs.scan.Scan.new.Goals as goal

pub returns-clause-all : goal.returns-clause-all
returns-clause-all c file whole = (begins_at c.args.layout c.args.region file c.requires.limits).groups

pub returns-clause-end : goal.returns-clause-end
returns-clause-end c file whole = begins_end c.args.layout c.args.region file c.requires.limits
