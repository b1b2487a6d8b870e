use Rattle.engine_base.specs.Addresses.{address_of}
use Rattle.std.proofs.Common.{arith}
use Rattle.lob_pages.proofs.EntryLemmas.{entry_written, entry_of_parts}
use Rattle.lob_pages.proofs.entry.write_entry.Goals as goal

pub returns-clause-sets : goal.returns-clause-sets
returns-clause-sets g c =
    entry_written _ _ _ (address_of c.args.at) c.put_fields.new.bytes c.args.entry.now (g.P.Pages.whole c.args.p.now) c.requires.place (omega (arith, c.put_fields.auto.bytes, c.put_links.auto.bytes))
    (entry_of_parts c.put_links.new.bytes c.put_fields.new.bytes c.args.entry.now c.put_links.ensures c.put_fields.ensures.fields c.put_fields.ensures.before) c.in_ok-write.ensures.written

pub returns-clause-writes : goal.returns-clause-writes
returns-clause-writes g c = (
  c.put_fields.new.bytes,
  omega (arith, c.put_fields.auto.bytes, c.put_links.auto.bytes),
  entry_of_parts c.put_links.new.bytes c.put_fields.new.bytes c.args.entry.now c.put_links.ensures c.put_fields.ensures.fields c.put_fields.ensures.before,
  c.in_ok-write.ensures.writes,
)
