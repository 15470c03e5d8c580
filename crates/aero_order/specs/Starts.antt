-- How many edges lead from a number, and from all lesser ones: so many targets stand before its own in a list by numbers.
use Rattle.std.specs.Prelude.{ℕ, ◌==◌, nat_lt, List, count_by}
use Rattle.aero_order.specs.Waiting.{Pair}

-- how many edges lead from u
abbrev pub from_count : List Pair → ℕ → ℕ
from_count edges u = count_by (λ e. e.0 == u) edges

-- how many lead from the numbers below u
abbrev pub from_below : List Pair → ℕ → ℕ
from_below edges u = count_by (λ e. nat_lt e.0 u) edges
