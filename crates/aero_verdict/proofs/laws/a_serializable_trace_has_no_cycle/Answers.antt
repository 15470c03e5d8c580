use Rattle.std.proofs.Common.{length, sym}
use Rattle.aero_model.proofs.OpenCount.{all_ended}
use Rattle.aero_model.proofs.Telling.{serializable_where_ended}
use Rattle.aero_verdict.specs.Verdict.{checked_trace}
use Rattle.aero_verdict.proofs.laws.a_serializable_trace_has_no_cycle.Goals as goal

pub returns : goal.returns
returns c = λ parts rules events blocks v.
    let trace = checked_trace parts rules in
    serializable_where_ended trace (length trace) (all_ended trace (sym v.open_are)) v.clean.no_cycle
