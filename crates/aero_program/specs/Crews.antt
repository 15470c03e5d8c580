-- How many workers a run has.
use Rattle.std.specs.Prelude.{◌≡◌, ℕ, min, max, Option, Some, None}
use Rattle.aero_program.specs.declared.command.Config.{Config}

-- as many as are asked for, but no more than there are processors, where it is known how many, and at least one
abbrev pub workers_on : (processors : Option ℕ) → (asked : ℕ) → ℕ
workers_on None asked = asked
workers_on (Some processors) asked = min asked (max processors 1)

-- both ask for the same, but perhaps not for as many workers
abbrev pub AskAlike : Config → Config → Type 0
AskAlike one other = one ≡ record other { workers = one.workers; some_workers = one.some_workers; most_workers = one.most_workers }
