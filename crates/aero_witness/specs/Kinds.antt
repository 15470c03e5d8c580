-- How each kind of conflict numbers events, as sources and as targets.
use Rattle.std.specs.Prelude.{ℕ, ◌==◌, if◌then◌else◌, Bool, false, List, Option, Some, None, slice_get}
use Rattle.aero_model.specs.declared.numbered.Numbered.{Numbered}
use Rattle.aero_model.specs.declared.numbered.What.{What}
use Rattle.aero_model.specs.declared.numbered.What.TheVariants.{Read, Write, Acquire, Release, Fork, Join}
use Rattle.aero_witness.specs.declared.kinds.Kind.{Kind}
use Rattle.aero_witness.specs.declared.kinds.Kind.TheVariants.{Threads, Forks, Joins, Writes, Reads, Releases}

-- by what is done, of a kind that numbers by it
abbrev pub source_by : Kind → What → Option ℕ
source_by Forks (Fork u) = Some u
source_by Writes (Write x) = Some x
source_by Reads (Read x) = Some x
source_by Releases (Release l) = Some l
source_by _ _ = None

abbrev pub target_by : Kind → What → Option ℕ
target_by Joins (Join u) = Some u
target_by Writes (Read x) = Some x
target_by Writes (Write x) = Some x
target_by Reads (Write x) = Some x
target_by Releases (Acquire l) = Some l
target_by _ _ = None

abbrev pub source_number : Kind → Numbered → Option ℕ
source_number Threads e = Some e.thread
source_number Joins e = Some e.thread
source_number kind e = source_by kind e.what

abbrev pub target_number : Kind → Numbered → Option ℕ
target_number Threads e = Some e.thread
target_number Forks e = Some e.thread
target_number kind e = target_by kind e.what

abbrev pub of_event : (Numbered → Option ℕ) → Option Numbered → Option ℕ
of_event f None = None
of_event f (Some e) = f e

-- the events by their places
abbrev pub sources : List Numbered → Kind → ℕ → Option ℕ
sources trace kind i = of_event (source_number kind) (slice_get trace i)

abbrev pub targets : List Numbered → Kind → ℕ → Option ℕ
targets trace kind j = of_event (target_number kind) (slice_get trace j)

-- the targets alone that aren't of the transaction with this first place
abbrev pub has_first : ℕ → Option ℕ → Bool
has_first first None = false
has_first first (Some f) = f == first

abbrev pub outside : List Numbered → List ℕ → ℕ → Kind → ℕ → Option ℕ
outside trace firsts first kind j = if has_first first (slice_get firsts j) then None else targets trace kind j
