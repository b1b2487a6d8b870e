use Rattle.page_model.proofs.CountLemmas.{few_pages}
use Rattle.page_model.proofs.laws.few_below.Goals as goal

pub returns : goal.returns
returns c = few_pages
