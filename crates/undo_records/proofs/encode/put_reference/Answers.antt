use Rattle.lob_pages.specs.References.{reference_of}
use Rattle.undo_records.proofs.ChainLemmas.{reference_put}
use Rattle.undo_records.proofs.encode.put_reference.Goals as goal

pub returns : goal.returns
returns c = reference_put c.args.out.now.items c.put_u32.new.out.items c.put_u32-2.new.out.items c.put_u32-3.new.out.items c.put_u32-4.new.out.items c.put_u32-5.new.out.items (reference_of c.args.lob)
    c.put_u32.ensures c.put_u32-2.ensures c.put_u32-3.ensures c.put_u32-4.ensures c.put_u32-5.ensures
