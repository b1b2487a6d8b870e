use Rattle.kept_model.proofs.FetchLemmas.{newest_fetched, newest_measured}
use Rattle.kept_model.proofs.shown.newest_is_fetched.Goals as goal

pub returns-clause-bytes : goal.returns-clause-bytes
returns-clause-bytes c = newest_fetched

pub returns-clause-length : goal.returns-clause-length
returns-clause-length c = newest_measured
