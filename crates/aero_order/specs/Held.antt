-- How often a number is held.
use Rattle.std.specs.Prelude.{ℕ, ◌==◌, count_by}
use Rattle.std.specs.BinaryHeap.{heap_items}
use Rattle.aero_order.specs.declared.free.Free.{Free}

abbrev pub held : Free → ℕ → ℕ
held free w = count_by (λ x. x.0 == w) (heap_items free.heap)
