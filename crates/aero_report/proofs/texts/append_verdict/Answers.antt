use Rattle.std.proofs.Common.{◌++◌, codes, decimal, ap, ◌∙◌}
use Rattle.std.proofs.lemmas.Result.{IfOk-equal}
use Rattle.aero_report.proofs.texts.append_verdict.Goals as goal

pub returns-in-Malformed : goal.returns-in-Malformed
returns-in-Malformed c =
    let place = codes ":" ++ decimal c.in-Malformed.line ++ codes ": malformed: " in
    rw c.in-Malformed.is (IfOk-equal _ _ _ _ c.append_fault.ensures (ap (λ name. c.args.text.now.items ++ (place ++ name)) (c.as_bytes.ensures.value ∙ c.line_fault_name.ensures)))

pub returns-in-IllFormed : goal.returns-in-IllFormed
returns-in-IllFormed c =
    let place = codes ":" ++ decimal c.in-IllFormed.line ++ codes ": ill-formed: " in
    rw c.in-IllFormed.is (IfOk-equal _ _ _ _ c.append_fault-in-IllFormed.ensures (ap (λ name. c.args.text.now.items ++ (place ++ name)) (c.as_bytes-in-IllFormed.ensures.value ∙ c.shape_fault_name.ensures)))

pub returns-in-Violation : goal.returns-in-Violation
returns-in-Violation c =
    rw c.in-Violation.is (IfOk-equal _ _ _ _ c.append_violation.ensures (ap (λ name. c.args.text.now.items ++ (codes ": violation at line " ++ decimal c.in-Violation.line ++ (codes ": block of " ++ name ++ (codes " from line " ++ decimal c.in-Violation.begun)))) c.bytes.ensures))
