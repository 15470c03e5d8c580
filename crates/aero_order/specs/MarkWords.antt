-- What contracts see of the numbers that are kept.
use Rattle.std.specs.Prelude.{ℕ, List, [], Option, Some, None, slice_get, slice_index_or}
use Rattle.aero_engine.specs.declared.slot.Slot.{Slot}
use Rattle.aero_engine.specs.declared.slot.Slot.TheVariants.{OfThread, LastWrite, LastRead, LastRelease}
use Rattle.aero_order.specs.declared.marks.Marks.{Marks}
use Rattle.aero_order.specs.declared.marks.Readers.{Readers}

abbrev pub mark_at : List (Option ℕ) → ℕ → Option ℕ
mark_at marks place = slice_index_or marks place None

abbrev pub numbers_in : Option Readers → List ℕ
numbers_in None = []
numbers_in (Some r) = r.numbers.items

abbrev pub reads_at : List Readers → ℕ → List ℕ
reads_at reads x = numbers_in (slice_get reads x)

-- of the slots, but for reads
abbrev pub kept_of : Marks → Slot → Option ℕ
kept_of marks (OfThread t) = mark_at marks.last.items t
kept_of marks (LastWrite x) = mark_at marks.writes.items x
kept_of marks (LastRead x t) = None
kept_of marks (LastRelease l) = mark_at marks.releases.items l

-- of the reads of a variable since its last write
abbrev pub reads_of : Marks → ℕ → List ℕ
reads_of marks x = reads_at marks.reads.items x

-- of a thread's last own event
abbrev pub own_of : Marks → ℕ → Option ℕ
own_of marks t = mark_at marks.own.items t
