-- What a call is asked, as numbers: the order, then for each limit whether there is one, and its value: on length, on expansions, on complete
-- expansions. Numbers that are missing at the end count as 0. A linear search reads no order, a replacement no limit on complete expansions.
use Rattle.std.specs.Prelude.{ℕ, Bool, true, false, List, ltb, get_or, None, Some}
use Rattle.semantics.specs.Limits.{Limit}
use Rattle.semantics.specs.declared.search.SearchOrder.{SearchOrder}
use Rattle.semantics.specs.declared.search.SearchOrder.TheVariants as Order
use Rattle.semantics.specs.declared.search.SearchLimits.{SearchLimits}

abbrev pub order_if : Bool → SearchOrder
order_if true = Order.DepthFirst
order_if false = Order.BreadthFirst

-- 0 is breadth-first, any other number depth-first
abbrev pub order_asked : List ℕ → SearchOrder
order_asked ns = order_if (ltb 0 (get_or ns 0 0))

abbrev pub limit_if : Bool → ℕ → Limit
limit_if true value = Some value
limit_if false value = None

-- 0 is no limit, any other number one with the value behind it
abbrev pub limit_of : ℕ → ℕ → Limit
limit_of given value = limit_if (ltb 0 given) value

abbrev pub length_asked : List ℕ → Limit
length_asked ns = limit_of (get_or ns 1 0) (get_or ns 2 0)

abbrev pub expansions_asked : List ℕ → Limit
expansions_asked ns = limit_of (get_or ns 3 0) (get_or ns 4 0)

abbrev pub complete_asked : List ℕ → Limit
complete_asked ns = limit_of (get_or ns 5 0) (get_or ns 6 0)

abbrev pub limits_asked : List ℕ → SearchLimits
limits_asked ns = record { length = length_asked ns; expansions = expansions_asked ns; complete = complete_asked ns }
