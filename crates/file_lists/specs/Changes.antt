-- What a change of a list does to the pages.
--     IsElsewhere      a node that has no byte in common with the list
--     MakesBase      the base leads to no nodes, and no byte outside it is changed
--     ChangesList      afterwards the base leads to these nodes, and no byte outside the list is
--                      changed
use Rattle.std.specs.Prelude.{List, [], ◌∷◌}
use Rattle.page_model.specs.Pages.{Pages, Address}
use Rattle.page_model.specs.Spans.{IsApartFromAll, SameOutside}
use Rattle.page_model.specs.Lists.{IsList, base_span, list_spans, node_span}

abbrev pub IsElsewhere : Address → List Address → Address → Type 0
IsElsewhere base nodes node = IsApartFromAll (list_spans base nodes) (node_span node)

pub record MakesBase (base : Address) (old new : Pages) : Type 0 where
  pub list : IsList new base []
  pub outside : SameOutside (base_span base ∷ []) old new

-- `all` are the nodes of the list before the change and after it
pub record ChangesList (base : Address) (all nodes : List Address) (old new : Pages) : Type 0 where
  pub list : IsList new base nodes
  pub outside : SameOutside (list_spans base all) old new
