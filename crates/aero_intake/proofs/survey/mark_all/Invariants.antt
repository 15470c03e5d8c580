use Rattle.std.proofs.Common.{◌≡◌, length, take}
use Rattle.aero_intake.specs.Surveys.{MarksNames}
use Rattle.aero_intake.proofs.survey.mark_all.Given as goal

-- the flags of the names so far are set
abbrev pub invariant-loop-number : goal.invariant-loop-number
invariant-loop-number l =
    (length l.begun.flags.items ≡ length l.fn.begun.flags.items)
    × MarksNames l.except.labels (take l.number l.names) l.fn.begun.flags.items l.begun.flags.items
