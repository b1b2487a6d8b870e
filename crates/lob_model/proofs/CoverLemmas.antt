-- The nodes of entries, counted byte by byte within their entries.
use Rattle.std.proofs.Common.{ℕ, ◌≤◌, List, [], ◌∷◌, map, arith}
use Rattle.page_model.specs.Pages.{Address}
use Rattle.page_model.specs.Counts.{has, covers}
use Rattle.page_model.specs.Lists.{node_span}
use Rattle.page_model.proofs.CoverLemmas.{has_less, covers_nil, covers_cons}
use Rattle.lob_model.specs.Places.{entry_span}

-- the nodes of entries lie within them
pub nodes_covered : (xs : List Address) (n k : ℕ) → covers (map node_span xs) n k ≤ covers (map entry_span xs) n k
nodes_covered [] n k = omega (arith, covers_nil n k)
nodes_covered (a ∷ xs) n k =
    let here : has (node_span a) n k ≤ has (entry_span a) n k = has_less (node_span a) (entry_span a) n k (λ is. let low = is.1 in let high = is.2 in (is.0, low, omega arith)) in
    omega (arith, here, covers_cons (node_span a) (map node_span xs) n k, covers_cons (entry_span a) (map entry_span xs) n k, nodes_covered xs n k)
