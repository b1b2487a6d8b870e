-- The pages that a change of a list touches beside those named to it: those of the nodes beside the
-- changed one, which are known where the pages are told.
--     page_there      the page of that number, where there is one
--     near_front, near_back, near_node      what adding a node at either end, and taking one out,
--                                           touch
--     near_behind, near_before      what taking out the first and the last node touches
use Rattle.std.specs.Prelude.{ℕ, ◌+◌, nat_lt, cond, List, [], ◌∷◌, ◌++◌, Option}
use Rattle.std.specs.Option.{option_map}
use Rattle.page_model.specs.Pages.{field, Address}
use Rattle.page_model.specs.Steps.{PageState}
use Rattle.file_lists.specs.declared.layout.TheConstants.{FIRST, LAST, NEXT}

abbrev pub page_there : ℕ → ℕ → List ℕ
page_there count n = cond (nat_lt n count) (n ∷ []) []

-- the page of the first node
abbrev pub near_front : PageState → Address → Option (List ℕ)
near_front s base = option_map (λ pages.
    page_there s.count (field pages base.page (base.at + FIRST) 4)) s.told

-- the page of the last node
abbrev pub near_back : PageState → Address → Option (List ℕ)
near_back s base = option_map (λ pages.
    page_there s.count (field pages base.page (base.at + LAST) 4)) s.told

-- the pages of the nodes before and behind
abbrev pub near_node : PageState → Address → Option (List ℕ)
near_node s node = option_map (λ pages.
    page_there s.count (field pages node.page node.at 4)
    ++ page_there s.count (field pages node.page (node.at + NEXT) 4)) s.told

-- the page of the node behind
abbrev pub near_behind : PageState → Address → Option (List ℕ)
near_behind s node = option_map (λ pages.
    page_there s.count (field pages node.page (node.at + NEXT) 4)) s.told

-- the page of the node before
abbrev pub near_before : PageState → Address → Option (List ℕ)
near_before s node = option_map (λ pages.
    page_there s.count (field pages node.page node.at 4)) s.told
