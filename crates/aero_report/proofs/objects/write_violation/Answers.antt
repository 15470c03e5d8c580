use Rattle.std.proofs.Common.{◌++◌, codes}
use Rattle.aero_report.specs.Json.{count, word, name}
use Rattle.aero_report.specs.Members.{member_tokens}
use Rattle.aero_report.proofs.Appended.{joined, OnOk-joined}
use Rattle.aero_report.proofs.objects.write_violation.Goals as goal

pub returns : goal.returns
returns c =
    let verdict = member_tokens (word (codes "verdict") (codes "violation")) in
    let line = member_tokens (count (codes "line") c.args.line) in
    let thread = member_tokens (name (codes "thread") c.args.thread.now) in
    let begun = member_tokens (count (codes "begun") c.args.begun) in
    let two = joined _ _ _ verdict line c.in_ok-word.ensures c.in_ok-count.ensures in
    OnOk-joined _ _ _ _ ((verdict ++ line) ++ thread) begun (joined _ _ _ (verdict ++ line) thread two c.in_ok-name.ensures) c.count-2.ensures
