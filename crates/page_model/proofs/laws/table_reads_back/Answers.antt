use Rattle.page_model.proofs.TableLemmas.{fields_set}
use Rattle.page_model.proofs.laws.table_reads_back.Goals as goal

pub returns : goal.returns
returns c = fields_set
