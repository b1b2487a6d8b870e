use Rattle.lob_pages.proofs.EntryLemmas.{fields_put}
use Rattle.lob_pages.proofs.entry.put_fields.Goals as goal

pub returns-clause-fields : goal.returns-clause-fields
returns-clause-fields c = (fields_put c.args.bytes.now c.put_number.new.bytes c.put_number-2.new.bytes c.put_u32.new.bytes c.put_u32-2.new.bytes c.put_u32-3.new.bytes c.put_u32-4.new.bytes c.put_u32-5.new.bytes c.args.entry c.put_number.ensures c.put_number-2.ensures c.put_u32.ensures c.put_u32-2.ensures c.put_u32-3.ensures c.put_u32-4.ensures c.put_u32-5.ensures).0

pub returns-clause-before : goal.returns-clause-before
returns-clause-before c = (fields_put c.args.bytes.now c.put_number.new.bytes c.put_number-2.new.bytes c.put_u32.new.bytes c.put_u32-2.new.bytes c.put_u32-3.new.bytes c.put_u32-4.new.bytes c.put_u32-5.new.bytes c.args.entry c.put_number.ensures c.put_number-2.ensures c.put_u32.ensures c.put_u32-2.ensures c.put_u32-3.ensures c.put_u32-4.ensures c.put_u32-5.ensures).1
