-- The lines of the report, byte by byte, each with the byte 10 that ends it. Names stand as their bytes.
use Rattle.std.specs.Prelude.{ℕ, ◌+◌, List, [], ◌∷◌, ◌++◌, Option, Some, None, map, flat_map, codes, decimal}
use Rattle.aero_model.specs.declared.verdict.LineFault.{LineFault}
use Rattle.aero_model.specs.declared.verdict.LineFault.TheVariants as line_faults
use Rattle.aero_model.specs.declared.verdict.ShapeFault.{ShapeFault}
use Rattle.aero_model.specs.declared.verdict.ShapeFault.TheVariants as shape_faults
use Rattle.aero_model.specs.declared.verdict.Verdict.{Verdict}
use Rattle.aero_model.specs.declared.verdict.Verdict.TheVariants.{Serializable, Pending, Violation, Malformed, IllFormed}
use Rattle.aero_model.specs.declared.verdict.Step.{Step}
use Rattle.aero_model.specs.declared.verdict.Cycle.{Cycle}
use Rattle.aero_model.specs.declared.verdict.CycleStep.{CycleStep}
use Rattle.aero_model.specs.declared.verdict.Finding.{Finding}
use Rattle.aero_model.specs.declared.verdict.Finding.TheVariants.{Judged, Ordered, Explained, Opened, Broken, TooLarge}
use Rattle.aero_model.specs.declared.event.Op.{Op}
use Rattle.aero_model.specs.declared.event.Op.TheVariants as ops
use Rattle.aero_model.specs.Named.{Named}
use Rattle.aero_model.specs.declared.verdict.Counts.{Counts}
use Rattle.aero_model.specs.Verdicts.{counts_of}

abbrev pub line_fault_name : LineFault → List ℕ
line_fault_name line_faults.TooLong = codes "TooLong"
line_fault_name line_faults.BadByte = codes "BadByte"
line_fault_name line_faults.NoOperation = codes "NoOperation"
line_fault_name line_faults.EmptyThread = codes "EmptyThread"
line_fault_name line_faults.UnknownOperation = codes "UnknownOperation"
line_fault_name line_faults.BadParenthesis = codes "BadParenthesis"
line_fault_name line_faults.MissingTarget = codes "MissingTarget"
line_fault_name line_faults.NameTooLong = codes "NameTooLong"
line_fault_name line_faults.TooManyLines = codes "TooManyLines"
line_fault_name line_faults.Memory = codes "Memory"

abbrev pub shape_fault_name : ShapeFault → List ℕ
shape_fault_name shape_faults.TooManyThreads = codes "TooManyThreads"
shape_fault_name shape_faults.TooManyNames = codes "TooManyNames"
shape_fault_name shape_faults.ThreadJoined = codes "ThreadJoined"
shape_fault_name shape_faults.LockHeldByOther = codes "LockHeldByOther"
shape_fault_name shape_faults.LockNotHeld = codes "LockNotHeld"
shape_fault_name shape_faults.ForkSelf = codes "ForkSelf"
shape_fault_name shape_faults.ForkStarted = codes "ForkStarted"
shape_fault_name shape_faults.JoinSelf = codes "JoinSelf"
shape_fault_name shape_faults.EndWithoutBegin = codes "EndWithoutBegin"
shape_fault_name shape_faults.Memory = codes "Memory"

-- (E events, B blocks)
abbrev pub sizes_text : ℕ → ℕ → List ℕ
sizes_text events blocks = codes "(" ++ decimal events ++ codes " events, " ++ decimal blocks ++ codes " blocks)"

-- what stands behind the source's name
abbrev pub verdict_text : Verdict → List ℕ
verdict_text (Serializable events blocks) = codes ": serializable " ++ sizes_text events blocks
verdict_text (Pending events blocks pending) = codes ": no violation, " ++ decimal pending ++ codes " blocks open " ++ sizes_text events blocks
verdict_text (Violation line thread begun) = codes ": violation at line " ++ decimal line ++ (codes ": block of " ++ thread ++ (codes " from line " ++ decimal begun))
verdict_text (Malformed line fault) = codes ":" ++ decimal line ++ codes ": malformed: " ++ line_fault_name fault
verdict_text (IllFormed line fault) = codes ":" ++ decimal line ++ codes ": ill-formed: " ++ shape_fault_name fault

abbrev pub finding_text : Finding → List ℕ
finding_text (Judged verdict) = verdict_text verdict
finding_text (Ordered verdict steps) = verdict_text verdict
finding_text (Explained verdict cycle) = verdict_text verdict
finding_text (Opened verdict blocks) = verdict_text verdict
finding_text (Broken bytes) = codes ": broken after " ++ decimal bytes ++ codes " bytes"
finding_text TooLarge = codes ": too large"

-- a transaction of a serial order: two blanks, the line of its first event, a blank, and its thread
abbrev pub step_line : Step → List ℕ
step_line step = codes "  " ++ decimal step.line ++ codes " " ++ step.thread ++ 10 ∷ []

abbrev pub op_name : Op → List ℕ
op_name ops.Read = codes "r"
op_name ops.Write = codes "w"
op_name ops.Acquire = codes "acq"
op_name ops.Release = codes "rel"
op_name ops.Fork = codes "fork"
op_name ops.Join = codes "join"
op_name ops.Begin = codes "begin"
op_name ops.End = codes "end"

abbrev pub target_text : Option (List ℕ) → List ℕ
target_text None = []
target_text (Some target) = codes "(" ++ (target ++ codes ")")

-- THREAD|OP(TARGET), as a line of a trace has it
abbrev pub event_text : Named → List ℕ
event_text event = event.thread ++ (codes "|" ++ (op_name event.op ++ target_text event.target))

-- an event of a cycle: two blanks, its line, a blank, the line of the first event of its transaction, a blank, and what it says
abbrev pub cycle_line : CycleStep → List ℕ
cycle_line step = (codes "  " ++ decimal step.line) ++ ((codes " " ++ decimal step.first) ++ (codes " " ++ event_text step.event)) ++ 10 ∷ []

-- the label of the block that is named, if it has one: two blanks, the word label, a blank, and the label
abbrev pub label_line : Option (List ℕ) → List ℕ
label_line None = []
label_line (Some label) = codes "  label " ++ (label ++ codes "\n")

-- the lines that show a violation: that of the block's label, if it has one, and those of the events of the cycle
abbrev pub cycle_lines : Cycle → List ℕ
cycle_lines cycle = label_line cycle.label ++ flat_map cycle_line cycle.steps.items

-- the lines of the transactions in order, or of the block's label and the events of a cycle, where the finding has them
abbrev pub step_lines : Finding → List ℕ
step_lines (Ordered verdict steps) = flat_map step_line steps.items
step_lines (Explained verdict cycle) = cycle_lines cycle
step_lines (Judged verdict) = []
step_lines (Opened verdict blocks) = []
step_lines (Broken bytes) = []
step_lines TooLarge = []

-- the line of a source, and behind it those of its transactions in order, or of the events of its cycle
abbrev pub source_line : List ℕ → Finding → List ℕ
source_line name finding = (name ++ finding_text finding ++ 10 ∷ []) ++ step_lines finding

-- the last line
abbrev pub summary_line : Counts → List ℕ
summary_line counts =
    codes "traces " ++ decimal (counts.serializable + counts.pending + counts.violations + counts.faults)
    ++ (codes ": serializable " ++ decimal counts.serializable) ++ (codes ", open " ++ decimal counts.pending)
    ++ (codes ", violations " ++ decimal counts.violations) ++ (codes ", faults " ++ decimal counts.faults) ++ 10 ∷ []

-- the lines of sources with these names and findings, in order
abbrev pub source_lines : List (List ℕ × Finding) → List ℕ
source_lines sources = flat_map (λ s. source_line s.0 s.1) sources

-- the report on them: their lines in order, then the summary
abbrev pub report : List (List ℕ × Finding) → List ℕ
report sources = source_lines sources ++ summary_line (counts_of (map (λ s. s.1) sources))
