-- What a verdict carries, what a finding says of the trace, and how findings are counted.
use Rattle.std.specs.Prelude.{◌≢◌, ℕ, ◌+◌, List, Option, Some, None, fold}
use Rattle.aero_model.specs.declared.verdict.Counts.{Counts}
use Rattle.aero_model.specs.declared.verdict.Finding.{Finding}
use Rattle.aero_model.specs.declared.verdict.Finding.TheVariants.{Judged, Ordered, Explained, Opened, Broken, TooLarge}
use Rattle.aero_model.specs.declared.verdict.LineFault.TheVariants as line_faults
use Rattle.aero_model.specs.declared.verdict.ShapeFault.TheVariants as shape_faults
use Rattle.aero_model.specs.declared.verdict.Verdict.{Verdict}
use Rattle.aero_model.specs.declared.verdict.Verdict.TheVariants.{Serializable, Pending, Violation, Malformed, IllFormed}

-- a fault that it carries is one of the trace, and no want of memory
abbrev pub HasOwnFault : Verdict → Type 0
HasOwnFault (Serializable events blocks) = Unit {0}
HasOwnFault (Pending events blocks pending) = Unit {0}
HasOwnFault (Violation line thread begun) = Unit {0}
HasOwnFault (Malformed line fault) = fault ≢ line_faults.Memory
HasOwnFault (IllFormed line fault) = fault ≢ shape_faults.Memory

-- the verdict on the trace of a source, whose bytes came whole
abbrev pub verdict_of : Finding → Option Verdict
verdict_of (Judged verdict) = Some verdict
verdict_of (Ordered verdict steps) = Some verdict
verdict_of (Explained verdict cycle) = Some verdict
verdict_of (Opened verdict blocks) = Some verdict
verdict_of (Broken bytes) = None
verdict_of TooLarge = None

abbrev pub no_counts : Counts
no_counts = record { serializable = 0; pending = 0; violations = 0; faults = 0 }

-- how many sources are counted
abbrev pub total : Counts → ℕ
total counts = counts.serializable + counts.pending + counts.violations + counts.faults

-- the counts with one more verdict
abbrev pub counted_verdict : Counts → Verdict → Counts
counted_verdict counts (Serializable events blocks) = record counts { serializable = counts.serializable + 1 }
counted_verdict counts (Pending events blocks pending) = record counts { pending = counts.pending + 1 }
counted_verdict counts (Violation line thread begun) = record counts { violations = counts.violations + 1 }
counted_verdict counts (Malformed line fault) = record counts { faults = counts.faults + 1 }
counted_verdict counts (IllFormed line fault) = record counts { faults = counts.faults + 1 }

-- the counts with one more source that has this verdict, or has none: then it is a fault
abbrev pub counted_by : Counts → Option Verdict → Counts
counted_by counts (Some verdict) = counted_verdict counts verdict
counted_by counts None = record counts { faults = counts.faults + 1 }

abbrev pub counted : Counts → Finding → Counts
counted counts finding = counted_by counts (verdict_of finding)

abbrev pub counts_of : List Finding → Counts
counts_of findings = fold counted no_counts findings
