use Rattle.std.proofs.Common.{suc}
use Rattle.aero_model.specs.Blocks.{Block}
use Rattle.aero_model.proofs.Cycles.{cycle_from_begins}
use Rattle.aero_verdict.specs.Verdict.{checked_trace}
use Rattle.aero_verdict.proofs.laws.a_violation_is_a_cycle.Goals as goal

pub returns : goal.returns
returns c = λ parts rules line thread begun v.
    let cycle = cycle_from_begins (checked_trace parts rules) (suc v.place) (Block v.t v.number) v.opener.begins in
    record { place = v.place; line_of = v.line_of; t = v.t; number = v.number; name = v.name; begins = v.begins; rest = cycle.0; cycle = cycle.1 }
