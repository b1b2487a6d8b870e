-- What a call says of the rest of a store: it keeps it, whatever it is.
--     Keeps firsts own own' old new      the rest of each store stands on, where the pages `own`
--         of parts that are taken out
--         became `own'`; the logs that are taken out begin in the pages `firsts`
use Rattle.std.specs.Prelude.{◌≡◌, ℕ, ◌≤◌, List, map}
use Rattle.page_model.specs.Pages.{Pages}
use Rattle.page_model.specs.Spans.{Span}
use Rattle.page_model.specs.Lists.{node_span}
use Rattle.page_model.specs.Counts.{times}
use Rattle.undo_model.specs.Logs.{log_node}
use Rattle.store_parts.specs.Stored.{Stored}
use Rattle.store_parts.specs.Standing.{IsStoreBut, AreOutIn}

abbrev pub Keeps : List ℕ → List ℕ → List ℕ → Pages → Pages → Type 0
Keeps firsts own own' old new =
    (s : Stored) → AreOutIn firsts s.active → AreOutIn firsts s.committed → IsStoreBut own old s
    → IsStoreBut own' new s

abbrev pub first_node : ℕ → Span
first_node n = node_span (log_node n)

abbrev pub first_nodes : List ℕ → List Span
first_nodes = map first_node

abbrev pub IsWithin : List ℕ → List ℕ → Type 0
IsWithin ns ms = (n : ℕ) → times n ns ≤ times n ms

abbrev pub AreAsMany : List ℕ → List ℕ → Type 0
AreAsMany ns ms = (n : ℕ) → times n ns ≡ times n ms
