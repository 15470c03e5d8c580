use Rattle.std.proofs.Common.{◌++◌, codes, ap, ◌∙◌, ◌+◌}
use Rattle.aero_report.specs.Json.{count}
use Rattle.aero_report.specs.Members.{member_tokens}
use Rattle.aero_report.proofs.Appended.{joined, OnOk-joined}
use Rattle.aero_report.proofs.options.write_counts.Goals as goal

pub returns : goal.returns
returns c =
    let counts = c.args.counts.now in
    let traces = member_tokens (count (codes "traces") (counts.serializable + counts.pending + counts.violations + counts.faults)) in
    let serializable = member_tokens (count (codes "serializable") counts.serializable) in
    let pending = member_tokens (count (codes "open") counts.pending) in
    let violations = member_tokens (count (codes "violations") counts.violations) in
    let faults = member_tokens (count (codes "faults") counts.faults) in
    let one = c.in_ok-total.ensures ∙ ap (λ total. c.args.out.now ++ member_tokens (count (codes "traces") total)) c.sources_of.ensures in
    let two = joined _ _ _ traces serializable one c.in_ok-long_count.ensures in
    let three = joined _ _ _ (traces ++ serializable) pending two c.in_ok-long_count-2.ensures in
    let four = joined _ _ _ ((traces ++ serializable) ++ pending) violations three c.in_ok-long_count-3.ensures in
    OnOk-joined _ _ _ _ (((traces ++ serializable) ++ pending) ++ violations) faults four c.long_count-4.ensures
