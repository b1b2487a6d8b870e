use Rattle.page_device.proofs.NewLemmas.{new_well, length-new, new_live, new_log, new_blank}
use Rattle.page_device.proofs.laws.new_file_is_a_store.Goals as goal

pub returns-clause-well : goal.returns-clause-well
returns-clause-well c = new_well

pub returns-clause-size : goal.returns-clause-size
returns-clause-size c = length-new

pub returns-clause-live : goal.returns-clause-live
returns-clause-live c = new_live

pub returns-clause-logs : goal.returns-clause-logs
returns-clause-logs c = λ l region limits. new_log l limits region

pub returns-clause-blank : goal.returns-clause-blank
returns-clause-blank c = λ l n limits below. new_blank l limits n below
