use Rattle.std.proofs.Common.{subst}
use Rattle.json_path.specs.View.{IsPath}
use Rattle.json_path.proofs.Back.{reads_back}
use Rattle.json_path.proofs.path.Path.print.Goals as goal

pub returns-then-is_err-clause-reads_back : goal.returns-then-is_err-clause-reads_back
returns-then-is_err-clause-reads_back c = reads_back c.args.self.now (subst IsPath c.self.view_is c.self.invariant)

pub returns-else-is_err-clause-reads_back : goal.returns-else-is_err-clause-reads_back
returns-else-is_err-clause-reads_back c = reads_back c.args.self.now (subst IsPath c.self.view_is c.self.invariant)
