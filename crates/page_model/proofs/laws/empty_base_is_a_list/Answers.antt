use Rattle.page_model.proofs.TableLemmas.{base_empty}
use Rattle.page_model.proofs.laws.empty_base_is_a_list.Goals as goal

pub returns : goal.returns
returns c = base_empty
