-- What holds whatever happens to questions, jobs and answers.
use Rattle.std.specs.Prelude.{ℕ, List}
use Rattle.aero_pieces.specs.Invariants.{IsInOrder, HasEachJob}
use Rattle.aero_pieces.specs.Schedule.{World, Step, Runs, start}

-- Over every schedule the values are given in the order in which they were asked for, and none is skipped or given twice.
abbrev pub KeepsOrder : Type 0
KeepsOrder = (window room workers : ℕ) (steps : List Step) (w : World) → Runs window room (start workers) steps w → IsInOrder w

-- Over every schedule no posted job is lost or handed out twice.
abbrev pub KeepsJobs : Type 0
KeepsJobs = (window room workers : ℕ) (steps : List Step) (w : World) → Runs window room (start workers) steps w → HasEachJob w
