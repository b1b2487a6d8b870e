use Rattle.engine_base.specs.Addresses.{address_of}
use Rattle.std.proofs.Common.{ℕ, ◌+◌, List, subst, arith}
use Rattle.lob_pages.proofs.EntryLemmas.{fields_written, from_fields}
use Rattle.page_model.specs.Steps.{AddsWrite}
use Rattle.lob_pages.proofs.entry.write_fields.Goals as goal

pub returns-clause-sets : goal.returns-clause-sets
returns-clause-sets g c =
    fields_written _ _ _ (address_of c.args.at) c.put_fields.new.bytes _ c.args.entry.now (g.P.Pages.whole c.args.p.now) c.requires.place (from_fields c.put_fields.new.bytes c.from.result 60 c.from.ensures (omega (arith, c.put_fields.auto.bytes))) (omega (arith, c.put_fields.auto.bytes)) c.put_fields.ensures.fields c.in_ok-write.ensures.written

pub returns-clause-writes : goal.returns-clause-writes
returns-clause-writes g c =
    let state = g.P.Pages.state in
    let W : List ℕ → Type 0 = λ xs. AddsWrite c.args.at.page.0 (c.args.at.at + 28) xs (state c.args.p.now) (state c.write.new.self) in
    let part = from_fields c.put_fields.new.bytes c.from.result 60 c.from.ensures (omega (arith, c.put_fields.auto.bytes)) in
    (c.put_fields.new.bytes, omega (arith, c.put_fields.auto.bytes), c.put_fields.ensures.fields, subst W part c.in_ok-write.ensures.writes)
