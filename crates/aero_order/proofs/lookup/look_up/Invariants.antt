use Rattle.std.proofs.Common.{◌≡◌, map, take}
use Rattle.aero_order.specs.Came.{first_of}
use Rattle.aero_order.proofs.lookup.look_up.Given as goal

abbrev pub invariant-loop-number : goal.invariant-loop-number
invariant-loop-number l = l.found.items ≡ map (first_of l.firsts) (take l.number-index l.numbers)
