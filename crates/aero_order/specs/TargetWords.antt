-- What the code's table of targets has for each number.
use Rattle.std.specs.Prelude.{ℕ, ◌+◌, ◌-◌, List, take, drop, vec_len, slice_index}
use Rattle.aero_order.specs.declared.targets.Targets.{Targets}

-- it has the targets of the numbers below this
abbrev pub count_of : Targets → ℕ
count_of targets = vec_len targets.starts - 1

-- the part of the list from u's start up to the next number's
abbrev pub targets_of : Targets → ℕ → List ℕ
targets_of targets u =
    take (slice_index targets.starts.items (u + 1) - slice_index targets.starts.items u) (drop (slice_index targets.starts.items u) targets.list.items)
