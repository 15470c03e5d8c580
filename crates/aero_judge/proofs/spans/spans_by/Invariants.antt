use Rattle.std.proofs.Common.{take}
use Rattle.std.specs.List.{AllZip}
use Rattle.aero_judge.specs.Spans.{IsSpanOf}
use Rattle.aero_judge.proofs.spans.spans_by.Given as goal

-- the spans of the visits so far
abbrev pub invariant-loop-visit : goal.invariant-loop-visit
invariant-loop-visit l = AllZip (IsSpanOf l.events) (take l.visit-index l.visits) l.spans.items
