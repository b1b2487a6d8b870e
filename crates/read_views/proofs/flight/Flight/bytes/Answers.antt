use Rattle.std.proofs.Common.{◌++◌, ℕ, List, sym, ap, ◌∙◌, append-nil}
use Rattle.store_model.specs.Lobs.{joined}
use Rattle.read_model.specs.Buffer.{parts_in}
use Rattle.read_model.proofs.BufferLemmas.{parts_joined}
use Rattle.read_views.specs.declared.flight.Phase.{Phase}
use Rattle.read_views.specs.Flights.{copied_in, pages_copied, row_read}
use Rattle.read_views.proofs.flight.Flight.bytes.Goals as goal

pub returns-clause-pieces : goal.returns-clause-pieces
returns-clause-pieces c = λ none.
    let f = c.args.self.now in
    let parts = parts_in (row_read c.args.self.now.row).lob.page (pages_copied c.args.self.now)
    c.args.self.now.buffer.items in
    c.as_slice.ensures.value
    ∙ sym (parts_joined (row_read c.args.self.now.row).lob.page (pages_copied c.args.self.now)
    c.args.self.now.buffer.items)
    ∙ ap (λ (l : List ℕ). joined parts ++ l) none
    ∙ append-nil (joined parts)
    ∙ ap (λ (p : Phase). joined (copied_in p parts)) (sym c.requires)
