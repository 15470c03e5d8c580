use Rattle.std.proofs.Common.{length}
use Rattle.aero_model.proofs.Cycles.{two_open_on_cycle}
use Rattle.aero_model.proofs.Telling.{none_begins}
use Rattle.aero_verdict.specs.Verdict.{checked_trace}
use Rattle.aero_verdict.proofs.laws.each_cycle_of_a_pending_trace_passes_two_open_blocks.Goals as goal

pub returns : goal.returns
returns c = λ parts rules events blocks pending first rest v cycle.
    let trace = checked_trace parts rules in
    two_open_on_cycle trace (length trace) (none_begins trace (length trace) v.1.clean.no_cycle) first rest cycle
